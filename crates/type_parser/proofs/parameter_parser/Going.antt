-- The loops over names, groups of parameters and methods, with those that were read.
use Rattle.std.proofs.Common.{ℕ, List}
use Rattle.pascal_grammar.specs.declared.kind.Kind.TheVariants as k
use Rattle.pascal_grammar.specs.declared.lexeme.Lexeme.{Lexeme}
use Rattle.pascal_grammar.specs.Productions as p
use Rattle.syntax_tree.specs.declared.identifier.Identifier.{Identifier}
use Rattle.syntax_tree.specs.Expressions.{Parsed}
use Rattle.expression_parser.specs.Gives.{name_at}
use Rattle.expression_parser.specs.Reading.{inside}
use Rattle.expression_parser.proofs.Loop.{Goes}
use Rattle.syntax_tree.specs.declared.type_tree.parameter.ParameterGroup.{ParameterGroup}
use Rattle.syntax_tree.specs.declared.type_tree.parameter.Method.{Method}
use Rattle.syntax_tree.specs.type_tree.Parameters.{identifiers_with, group_list, methods_with}
use Rattle.type_parser.specs.parameter_parser.Reading.{identifiers_at, group_at, group_list_at, methods, methods_at}
use Rattle.type_parser.proofs.parameter_parser.Loop as chain

abbrev pub NamesGo : List Identifier → List Lexeme → List Lexeme → Type 0
NamesGo all rest ts = Goes k.Comma p.no_identifiers p.next_identifier name_at (λ (z : Parsed). identifiers_with all z) rest (identifiers_at ts)

abbrev pub GroupsGo : List ParameterGroup → List Lexeme → List Lexeme → Type 0
GroupsGo all rest ts = Goes k.Semicolon p.no_groups p.next_group group_at (λ (z : Parsed). group_list all z) rest (group_list_at ts)

abbrev pub MethodsGo : ℕ → List Method → List Lexeme → List Lexeme → Type 0
MethodsGo d all rest ts = chain.Goes (methods (inside d)) (λ (z : Parsed). methods_with all z) rest (methods_at (inside d) ts)
