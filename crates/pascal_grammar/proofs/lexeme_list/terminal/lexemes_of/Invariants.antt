use Rattle.std.proofs.Common.{◌≡◌, ◌++◌, drop}
use Rattle.pascal_grammar.specs.lexeme_list.Lexemes.{lexemes_from, lexemes_of}
use Rattle.pascal_grammar.proofs.lexeme_list.terminal.lexemes_of.Given as goal

abbrev pub invariant-loop-token : goal.invariant-loop-token
invariant-loop-token l = l.all ++ lexemes_from l.phase l.switches (drop l.token-index l.tokens) ≡ lexemes_of l.tokens
