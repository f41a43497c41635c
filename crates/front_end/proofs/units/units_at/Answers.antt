use Rattle.std.proofs.Common.{◌+◌, List, take, length, refl, sym, ◌∙◌, subst}
use Rattle.std.specs.List.{AllZip}
use Rattle.std.proofs.lemmas.Bool.{ltb-true, ltb-false}
use Rattle.std.proofs.lemmas.Option.{slice_get_read, slice_get_past}
use Rattle.std.proofs.lemmas.Result.{err_from_is_err_and}
use Rattle.typed_tree.specs.declared.units.Unit.{Unit}
use Rattle.front_end.specs.Typed.{sources_at, IsUnitOf}
use Rattle.front_end.proofs.Steps.{lacks_unit, lacks_unit_memory}
use Rattle.front_end.proofs.Zipped.{unit_more, none_more}
use Rattle.front_end.proofs.units.units_at.Goals.{in-Some+in_ok-unit_of+in_ok-push, in_default}
use Rattle.front_end.proofs.units.units_at.Goals as goal

pub returns-in_err-unit_of-clause-cause : goal.returns-in_err-unit_of-clause-cause
returns-in_err-unit_of-clause-cause c =
    let sources = c.args.sources.now in
    let found = c.in-Some.ensures.lookup in
    let at = slice_get_read sources (length sources) _ c.in-Some.source.now refl (ltb-true _ (length sources) (sym found.0)) found.1 in
    let p = err_from_is_err_and c.from_residual.result c.from_residual.ensures.1 in
    rw (p.1, p.2) (lacks_unit c.args.texts.now sources c.args.have.now _ c.in-Some.source.now c.in_err-unit_of.field-0.0 at c.in_err-unit_of.ensures.cause)

pub returns-in_err-push-clause-cause : goal.returns-in_err-push-clause-cause
returns-in_err-push-clause-cause c =
    let sources = c.args.sources.now in
    let found = c.in-Some.ensures.lookup in
    let at = slice_get_read sources (length sources) _ c.in-Some.source.now refl (ltb-true _ (length sources) (sym found.0)) found.1 in
    let p = err_from_is_err_and c.from_residual-in_err-push.result c.from_residual-in_err-push.ensures.1 in
    rw p.1 (lacks_unit_memory c.args.texts.now sources c.args.have.now _ c.in-Some.source.now p.0 at p.2)

pub loop-place-preserved : goal.loop-place-preserved
loop-place-preserved c =
    let sources = c.args.sources.now in
    let have = c.args.have.now in
    let places = c.args.places.now in
    let index = c.loop-place.place-index in
    let units = c.loop-place.units in
    elim c.match-get.branch [
      | in-Some+in_ok-unit_of+in_ok-push w ↦
          let found = w.in-Some.ensures.lookup in
          let at = slice_get_read sources (length sources) _ w.in-Some.source.now refl (ltb-true _ (length sources) (sym found.0)) found.1 in
          subst (λ (us : List Unit). AllZip (IsUnitOf have) (sources_at sources (take (index + 1) places)) us) (sym (w.units-is ∙ w.in_ok-push.ensures.ok))
          (unit_more have sources places index _ w.in-Some.source.now units w.in_ok-unit_of.field-0 c.loop-place-test.true refl at c.loop-place.invariant w.in_ok-unit_of.ensures.unit)
      | in_default w ↦
          let past = ltb-false _ (length sources) (sym w.in_default.ensures.lookup.0) in
          subst (λ (us : List Unit). AllZip (IsUnitOf have) (sources_at sources (take (index + 1) places)) us) (sym w.units-is)
          (none_more have sources places index _ units c.loop-place-test.true refl (slice_get_past sources _ past) c.loop-place.invariant)
    ]
