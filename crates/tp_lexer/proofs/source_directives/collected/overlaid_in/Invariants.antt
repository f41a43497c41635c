use Rattle.std.proofs.Common.{◌≡◌, ◌++◌, drop}
use Rattle.tp_lexer.specs.source_directives.Directives.{overlaid_in}
use Rattle.tp_lexer.proofs.source_directives.collected.overlaid_in.Given as goal

abbrev pub invariant-loop-token : goal.invariant-loop-token
invariant-loop-token l = l.all ++ overlaid_in (drop l.token-index l.tokens) ≡ overlaid_in l.tokens
