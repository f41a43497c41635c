use Rattle.std.proofs.Common.{◌≡◌, drop}
use Rattle.pascal_grammar.specs.lexeme_list.Lexemes.{first_kind}
use Rattle.pascal_grammar.proofs.lexeme_list.terminal.first_kind.Given as goal

abbrev pub invariant-loop-token : goal.invariant-loop-token
invariant-loop-token l = first_kind (drop l.token-index l.tokens) ≡ first_kind l.tokens
