use Rattle.std.proofs.Common.{◌≡◌, drop}
use Rattle.tp_lexer.specs.source_directives.Directives.{usual_memory, memory_of}
use Rattle.tp_lexer.proofs.source_directives.collected.memory_of.Given as goal

abbrev pub invariant-loop-token : goal.invariant-loop-token
invariant-loop-token l = memory_of l.memory (drop l.token-index l.tokens) ≡ memory_of usual_memory l.tokens
