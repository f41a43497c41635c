use Rattle.std.proofs.Common.{◌≡◌, ◌∙◌, sym, true, get_or}
use Rattle.std.proofs.lemmas.Result.{on_ok_weaker, MatchResult-weaker}
use Rattle.type_layout.specs.declared.definitions.Origin.{Origin}
use Rattle.unit_interface.specs.Merge.{is_new}
use Rattle.unit_interface.proofs.MergeLaws.{known-at, declared-by}
use Rattle.unit_interface.proofs.ScopeLaws.{type-added, type-unfit}
use Rattle.unit_interface.proofs.FitLaws.{type-fits}
use Rattle.unit_interface.proofs.merge.merge_type.Goals as goal

pub bounds-units-unit : goal.bounds-units-unit
bounds-units-unit c =
    let from : Origin = record { unit = c.origin-unit.result.0; number = c.origin-unit.result.1 } in
    rw c.units.ensures (known-at c.args.other.now c.args.number from c.requires.well_formed c.origin-unit.ensures)

pub returns-clause-ok : goal.returns-clause-ok
returns-clause-ok c =
    let from : Origin = record { unit = c.origin-unit.result.0; number = c.origin-unit.result.1 } in
    let name : c.copied-origin.result ≡ get_or c.args.other.now.units from.unit c.copied-origin.result =
    rw c.copied-origin.ensures (rw (← c.units.ensures) c.index-units-unit.is) in
    let named = declared-by c.args.other.now c.args.number from c.copied-origin.result c.requires.well_formed c.origin-unit.ensures name in
    let new_id : is_new c.args.ids.now c.args.scope.now.types c.args.number ≡ true =
    rw (← c.types.ensures) (sym c.is_new.ensures ∙ c.if-not-is_new.false) in
    on_ok_weaker c.add.result
    (λ step. type-added c.args.scope.now c.add.new.scope c.args.other.now c.args.ids.now c.args.number c.get.result.now c.in_ok-one.one from c.copied-origin.result
    c.get.ensures c.origin-unit.ensures named new_id (rw (← c.types-2.ensures) c.in_ok-one.ensures) step)
    c.add.ensures.ok

pub returns-clause-cause : goal.returns-clause-cause
returns-clause-cause c =
    let from : Origin = record { unit = c.origin-unit.result.0; number = c.origin-unit.result.1 } in
    let name : c.copied-origin.result ≡ get_or c.args.other.now.units from.unit c.copied-origin.result =
    rw c.copied-origin.ensures (rw (← c.units.ensures) c.index-units-unit.is) in
    let named = declared-by c.args.other.now c.args.number from c.copied-origin.result c.requires.well_formed c.origin-unit.ensures name in
    let new_id : is_new c.args.ids.now c.args.scope.now.types c.args.number ≡ true =
    rw (← c.types.ensures) (sym c.is_new.ensures ∙ c.if-not-is_new.false) in
    MatchResult-weaker c.add.result c.add.ensures.cause (λ x t. t)
    (λ error misfit. type-unfit c.args.scope.now c.args.other.now c.args.ids.now c.args.number c.get.result.now c.in_ok-one.one from c.copied-origin.result error
    c.get.ensures c.origin-unit.ensures named new_id (rw (← c.types-2.ensures) c.in_ok-one.ensures) misfit)

pub returns-clause-fits : goal.returns-clause-fits
returns-clause-fits c =
    let from : Origin = record { unit = c.origin-unit.result.0; number = c.origin-unit.result.1 } in
    let name : c.copied-origin.result ≡ get_or c.args.other.now.units from.unit c.copied-origin.result =
    rw c.copied-origin.ensures (rw (← c.units.ensures) c.index-units-unit.is) in
    let named = declared-by c.args.other.now c.args.number from c.copied-origin.result c.requires.well_formed c.origin-unit.ensures name in
    on_ok_weaker c.add.result
    (λ fits. type-fits c.args.ids.now c.args.scope.now.types c.args.other.now c.args.number c.get.result.now c.in_ok-one.one from c.copied-origin.result
    c.get.ensures c.origin-unit.ensures named (rw (← c.types-2.ensures) c.in_ok-one.ensures) (sym c.is_torn.ensures ∙ c.if-is_torn.false) fits)
    c.add.ensures.fits
