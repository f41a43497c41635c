use Rattle.std.proofs.Common.{take, map}
use Rattle.type_layout.specs.declared.definitions.Field.{Field}
use Rattle.typed_tree.specs.type_fits.Fits.{types_in, field_types_of}
use Rattle.lower_places.proofs.Before.{found_behind}
use Rattle.lower_places.proofs.shapes.+fields.Goals as goal

pub field_by-returns-in-RecordOf : goal.field_by-returns-in-RecordOf
field_by-returns-in-RecordOf t c = rw (c.in-RecordOf.is, ← c.as_slice.ensures) c.field_within.ensures

pub field_by-returns-in-Err : goal.field_by-returns-in-Err
field_by-returns-in-Err t c =
    let within = rw c.as_slice-in-Err.ensures at c.field_within-in-Err.ensures in
    let above = types_in (field_types_of (take c.args.before c.args.types.now.types)) c.in-ObjectOf.parent in
    rw c.in-ObjectOf.is (found_behind above (map (λ (field : Field). field.ty) c.in-ObjectOf.fields) c.field_within-in-Err.result c.args.number c.in-Err.rest (c.in-Err.ensures {u = tt}) within)
