use Rattle.std.proofs.Common.{◌≡◌, drop}
use Rattle.tp_lexer.specs.source_directives.Directives.{begins_unit}
use Rattle.tp_lexer.proofs.source_directives.collected.begins_unit.Given as goal

abbrev pub invariant-loop-token : goal.invariant-loop-token
invariant-loop-token l = begins_unit (drop l.token-index l.tokens) ≡ begins_unit l.tokens
