-- The loops over values and over fields, with those that were read.
use Rattle.std.proofs.Common.{ℕ, List}
use Rattle.pascal_grammar.specs.declared.kind.Kind.TheVariants as k
use Rattle.pascal_grammar.specs.declared.lexeme.Lexeme.{Lexeme}
use Rattle.pascal_grammar.specs.Productions as p
use Rattle.syntax_tree.specs.Expressions.{Parsed}
use Rattle.expression_parser.specs.Gives.{Reads}
use Rattle.expression_parser.proofs.Loop.{Goes}
use Rattle.type_parser.proofs.parameter_parser.Loop as chain
use Rattle.syntax_tree.specs.declared.type_tree.initializer.FieldValue.{FieldValue}
use Rattle.syntax_tree.specs.declared.type_tree.initializer.Initializer.{Initializer}
use Rattle.syntax_tree.specs.type_tree.Initializers.{initializer_list, field_list}
use Rattle.type_parser.specs.initializer_parser.Reading.{initializer_at, valued_inside, value_list_at, more_field_values, field_list_at}

-- the reader of values where d constructs may be open
abbrev pub values : ℕ → Reads
values d = initializer_at d (valued_inside d)

abbrev pub ValuesGo : ℕ → List Initializer → List Lexeme → List Lexeme → Type 0
ValuesGo d all rest ts = Goes k.Comma p.no_initializers p.next_initializer (values d) (λ (z : Parsed). initializer_list all z) rest (value_list_at (values d) ts)

abbrev pub FieldsGo : ℕ → List FieldValue → List Lexeme → List Lexeme → Type 0
FieldsGo d all rest ts = chain.Goes (more_field_values (values d)) (λ (z : Parsed). field_list all z) rest (field_list_at (values d) ts)
