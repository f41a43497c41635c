use Rattle.std.proofs.Common.{subst}
use Rattle.std.proofs.lemmas.Result.{on_ok_weaker}
use Rattle.front_end.specs.source_interfaces.Scopes.{AreThere}
use Rattle.front_end.proofs.units.outer_scope.Goals as goal

pub returns-then-outer-uses-clause-there : goal.returns-then-outer-uses-clause-there
returns-then-outer-uses-clause-there c = subst (AreThere c.args.have.now) c.uses_of-uses.ensures c.in_ok-whole.ensures.there

pub returns-clause-there : goal.returns-clause-there
returns-clause-there c =
    on_ok_weaker c.scope_of-2.result (λ outer. subst (AreThere c.args.have.now) c.uses_of-uses.ensures c.in_ok-whole.ensures.there) c.scope_of-2.ensures.there
