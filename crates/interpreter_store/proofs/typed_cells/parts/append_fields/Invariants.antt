-- The fields so far are appended.
use Rattle.std.proofs.Common.{◌≡◌, ◌++◌, map, take}
use Rattle.tp_meaning.specs.Shapes.{field_parts}
use Rattle.interpreter_store.specs.typed_cells.Parts.{view_part}
use Rattle.interpreter_store.proofs.typed_cells.parts.append_fields.Given as goal

abbrev pub invariant-fields : goal.invariant-fields
invariant-fields l = map view_part l.to.items ≡ map view_part l.fn.to.items ++ field_parts (take l.field-index l.fields)
