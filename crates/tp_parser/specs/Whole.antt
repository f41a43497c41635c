-- Reading all of some lexemes as a source.
use Rattle.std.specs.Prelude.{ℕ, List, Result}
use Rattle.pascal_grammar.specs.declared.lexeme.Lexeme.{Lexeme}
use Rattle.pascal_grammar.specs.Parts as n
use Rattle.pascal_grammar.specs.Productions.{Production}
use Rattle.pascal_grammar.specs.Rules.{grammar}
use Rattle.ll1_grammar.specs.Readers.{Fault, ◌>>=◌}
use Rattle.ll1_grammar.specs.Sources.{ended}
use Rattle.syntax_tree.specs.Expressions.{Parsed}
use Rattle.tp_parser.specs.Reading.{source_at}

abbrev pub whole_at : ℕ → List Lexeme → Result Parsed (Fault Production)
whole_at d ts = source_at d ts >>= ended grammar n.source
