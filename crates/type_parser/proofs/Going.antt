-- The loops over index types and fields, with those that were read.
use Rattle.std.proofs.Common.{◌≡◌, ℕ, ◌≤◌, List, ◌++◌, length, Result, Ok}
use Rattle.pascal_grammar.specs.declared.kind.Kind.TheVariants as k
use Rattle.pascal_grammar.specs.declared.lexeme.Lexeme.{Lexeme}
use Rattle.pascal_grammar.specs.Productions.{Production}
use Rattle.pascal_grammar.specs.Productions as p
use Rattle.ll1_grammar.specs.Readers.{Fault, ◌>>=◌}
use Rattle.syntax_tree.specs.Expressions.{Parsed}
use Rattle.expression_parser.specs.Gives.{Reads}
use Rattle.expression_parser.proofs.Loop.{Goes}
use Rattle.syntax_tree.specs.declared.type_tree.types.FieldGroup.{FieldGroup}
use Rattle.syntax_tree.specs.declared.type_tree.types.TypeDenoter.{TypeDenoter}
use Rattle.syntax_tree.specs.type_tree.Types.{index_type_list}
use Rattle.type_parser.specs.Reading.{Group, groups_from, groups_at, type_at, index_list_at, typed_inside}
use Rattle.type_parser.specs.Views.{groups_of}

abbrev pub IndexesGo : ℕ → List TypeDenoter → List Lexeme → List Lexeme → Type 0
IndexesGo d all rest ts = Goes k.Comma p.no_index_types p.next_index_type (type_at d (typed_inside d)) (λ (z : Parsed). index_type_list all z) rest (index_list_at d (typed_inside d) ts)

-- groups that were read, and those that are still read
abbrev pub before : List Group → Result (List Group × List Lexeme) (Fault Production) → Result (List Group × List Lexeme) (Fault Production)
before all read = read >>= λ y. Ok (all ++ y.0, y.1)

-- The groups from rest on, behind those that were read, are the whole.
pub record Continues (type_at : Reads) (all : List Group) (rest : List Lexeme) (total : Result (List Group × List Lexeme) (Fault Production)) : Type 0 where
  pub count : ℕ
  pub enough : length rest ≤ count
  pub is : before all (groups_from type_at count rest) ≡ total

abbrev pub GroupsGo : ℕ → List FieldGroup → List Lexeme → List Lexeme → Type 0
GroupsGo d all rest ts = Continues (type_at d (typed_inside d)) (groups_of all) rest (groups_at (type_at d (typed_inside d)) ts)
