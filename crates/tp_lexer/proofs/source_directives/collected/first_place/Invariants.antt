use Rattle.std.proofs.Common.{◌≡◌, drop}
use Rattle.tp_lexer.specs.source_directives.Directives.{first_place}
use Rattle.tp_lexer.proofs.source_directives.collected.first_place.Given as goal

abbrev pub invariant-loop-token : goal.invariant-loop-token
invariant-loop-token l = first_place (drop l.token-index l.tokens) ≡ first_place l.tokens
