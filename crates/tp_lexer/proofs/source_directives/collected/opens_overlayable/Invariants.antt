use Rattle.std.proofs.Common.{◌≡◌, false, drop}
use Rattle.tp_lexer.specs.source_directives.Directives.{opens_overlayable}
use Rattle.tp_lexer.proofs.source_directives.collected.opens_overlayable.Given as goal

abbrev pub invariant-loop-token : goal.invariant-loop-token
invariant-loop-token l = opens_overlayable l.allowed (drop l.token-index l.tokens) ≡ opens_overlayable false l.tokens
