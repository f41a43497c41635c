use Rattle.std.proofs.Common.{◌≡◌, ◌∙◌, inl, inr, Some, sym, ap, subst, arith}
use Rattle.std.specs.Prelude.{slice_get}
use Rattle.std.proofs.lemmas.Option.{same_Some, slice_get_within}
use Rattle.unit_interface.proofs.KeptLaws.{below_or_last}
use Rattle.programs_well_typed.specs.store_typing.types.Agreement.{IsShort}
use Rattle.checked_front_end.proofs.known.is_kept_table.Goals as goal

pub loop-number-init : goal.loop-number-init
loop-number-init c = λ k one low at. absurd (omega (arith, low))

pub loop-number-preserved : goal.loop-number-preserved
loop-number-preserved c = λ k one low at.
    elim (below_or_last k c.loop-number.number (omega (arith, low))) [
      | inl before ↦ c.loop-number.invariant k one before at
      | inr last ↦
          let there : slice_get c.args.types.now.types k ≡ Some c.get.result.now = ap (slice_get c.args.types.now.types) last ∙ c.get.ensures in
          subst IsShort (same_Some c.get.result.now one (sym there ∙ at)) c.is_short.ensures
    ]

pub returns : goal.returns
returns c = record {
  well_formed = c.count-number-end.ensures.well_formed;
  short = λ k one at. c.loop-number.invariant k one (let low = slice_get_within c.args.types.now.types k one at in let end = c.count-number-end.ensures.value in omega (arith, low, end, c.loop-number-test.false)) at;
}
