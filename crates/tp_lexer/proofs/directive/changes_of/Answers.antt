use Rattle.std.proofs.Common.{sym, arith}
use Rattle.tp_lexer.proofs.SwitchLists.{changes_from-step}
use Rattle.tp_lexer.proofs.directive.changes_of.Goals as goal

pub loop-rest-preserved : goal.loop-rest-preserved
loop-rest-preserved c = let h = changes_from-step c.loop-rest.changes c.in-Some.after c.loop-rest.rest.now _ (omega arith) (omega arith) (sym c.in-Some.ensures) c.loop-rest.invariant in let k = c.split_at.ensures.back in cc
