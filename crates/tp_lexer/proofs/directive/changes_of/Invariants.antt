use Rattle.std.proofs.Common.{◌≡◌, length}
use Rattle.tp_lexer.specs.Directives.{changes_from, no_changes}
use Rattle.tp_lexer.proofs.directive.changes_of.Given as goal

abbrev pub invariant-loop-rest : goal.invariant-loop-rest
invariant-loop-rest l = changes_from l.changes l.rest ≡ changes_from no_changes l.word

abbrev pub decreases-loop-rest : goal.decreases-loop-rest
decreases-loop-rest l = length l.rest
