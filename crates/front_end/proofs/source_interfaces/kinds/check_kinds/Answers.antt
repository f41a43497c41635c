use Rattle.std.proofs.Common.{◌∙◌, sym}
use Rattle.front_end.proofs.source_interfaces.Uses.{kinds_more, all_kinds, wrong_here}
use Rattle.front_end.proofs.source_interfaces.kinds.check_kinds.Goals as goal

pub returns-then-not-is_of_kind-clause-cause : goal.returns-then-not-is_of_kind-clause-cause
returns-then-not-is_of_kind-clause-cause c =
    wrong_here c.args.sources.now c.loop-place.place c.index-sources-place.result c.beginning.result c.broken.result c.loop-place-test.true c.index-sources-place.is
    (sym c.is_of_kind.ensures ∙ c.if-not-is_of_kind.true) c.beginning.ensures c.broken.ensures

pub loop-place-preserved : goal.loop-place-preserved
loop-place-preserved c =
    kinds_more c.args.sources.now c.loop-place.place c.index-sources-place.result c.loop-place-test.true c.index-sources-place.is (sym c.is_of_kind.ensures ∙ c.if-not-is_of_kind.false) c.loop-place.invariant

pub returns-clause-kinds : goal.returns-clause-kinds
returns-clause-kinds c = all_kinds c.args.sources.now c.loop-place.place c.loop-place-test.false c.loop-place.invariant
