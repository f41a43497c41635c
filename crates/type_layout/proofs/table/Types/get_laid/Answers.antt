use Rattle.std.proofs.Common.{arith, refl, ap, subst, ◌<◌, length}
use Rattle.std.proofs.lemmas.Option.{slice_get_read}
use Rattle.type_layout.specs.Layouts.{HasFieldsOf}
use Rattle.type_layout.specs.Table.{Table}
use Rattle.type_layout.proofs.FieldPlaces.{has_fields}
use Rattle.type_layout.proofs.table.Types.get_laid.Goals as goal

pub returns-clause-fields : goal.returns-clause-fields
returns-clause-fields c =
    let types = c.self.inside.types.items in
    let one = c.index.result.now in
    let within : c.args.id.0 < length types = omega (arith, c.requires, ap (λ (t : Table). length t.types) c.self.view_is) in
    let found = slice_get_read types (length types) c.args.id.0 one refl within c.index.ensures in
    subst (λ (t : Table). HasFieldsOf t.types c.args.id one) c.self.view_is
    (has_fields _ c.self.invariant.well_formed c.args.id one found)
