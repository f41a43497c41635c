use Rattle.std.proofs.Common.{arith, ◌≤◌, ◌∙◌, ap, Some, take}
use Rattle.std.proofs.lemmas.List.Sums.{sum_by-take-le}
use Rattle.type_layout.specs.declared.definitions.Field.{Field}
use Rattle.type_layout.specs.Layouts.{size_in, fields_size}
use Rattle.type_layout.proofs.FieldPlaces.{length-placed_from, slice_get-placed_from}
use Rattle.type_layout.proofs.sizes.offset_within.Goals as goal

pub returns-then-number-count : goal.returns-then-number-count
returns-then-number-count c = omega (arith, length-placed_from c.args.layouts.now c.args.start c.args.fields.now, c.if-number-count.true)

pub returns : goal.returns
returns c =
    let part : fields_size c.args.layouts.now (take c.args.number c.args.fields.now) ≤ fields_size c.args.layouts.now c.args.fields.now =
    sum_by-take-le (λ (f : Field). size_in c.args.layouts.now f.ty) c.args.fields.now c.args.number in
    slice_get-placed_from c.args.layouts.now c.args.start c.args.fields.now c.args.number c.if-number-count.false
    ∙ ap Some (omega (arith, c.requires.room, c.end_of_fields.ensures, c.from.ensures))
