-- The loops over constants, types, variables and declarations: how each begins, and one step of it.
use Rattle.std.proofs.Common.{◌≡◌, ℕ, ◌<◌, true, List, [], ◌∷◌, ◌++◌, length, Result, Ok, refl, sym, subst}
use Rattle.pascal_grammar.specs.declared.lexeme.Lexeme.{Lexeme}
use Rattle.pascal_grammar.specs.Productions.{Production}
use Rattle.pascal_grammar.specs.Productions as p
use Rattle.ll1_grammar.specs.Readers.{Fault}
use Rattle.syntax_tree.specs.Expressions.{Parsed}
use Rattle.syntax_tree.specs.declared.source_tree.declaration.ConstantDeclaration.{ConstantDeclaration}
use Rattle.syntax_tree.specs.declared.source_tree.declaration.TypeDeclaration.{TypeDeclaration}
use Rattle.syntax_tree.specs.declared.source_tree.declaration.VariableDeclaration.{VariableDeclaration}
use Rattle.syntax_tree.specs.declared.source_tree.declaration.Declaration.{Declaration}
use Rattle.syntax_tree.specs.source_tree.Declarations.{items_with, of_constant, of_type_declaration, of_variable, of_declaration, declarations_with}
use Rattle.syntax_tree.proofs.source_tree.Rows.{items_pushed, declarations_pushed}
use Rattle.expression_parser.specs.Gives.{Reads}
use Rattle.expression_parser.specs.Views.{with_front}
use Rattle.type_parser.specs.parameter_parser.Chains.{chain_at}
use Rattle.type_parser.proofs.parameter_parser.Loop.{Goes, with_same, starts, next}
use Rattle.tp_parser.specs.declaration_parser.Reading.{is_named, listed, items_at, constant_at, more_constants, constants_at, type_declaration_at, more_types, types_at, variable_at, more_variables, variables_at, nested, declaration_at, begins_declaration, declarations, declarations_at}

abbrev Pairs : Type 0
Pairs = Result ((Parsed × Parsed) × List Lexeme) (Fault Production)

module _ {X : Type 0} (view : X → Parsed) (more ends : Production) (item : Reads) where
  -- behind the first item
  items_start : (all : List X) (x : X) (ts rest : List Lexeme) → item ts ≡ Ok (view x, rest) → all ≡ x ∷ [] → Goes (listed more ends item) (λ (z : Parsed). items_with view more all z) rest (items_at item (listed more ends item) ts)
  items_start all x ts rest e s =
      let first : with_front (λ (z : Parsed). items_with view more (x ∷ []) z) (chain_at (listed more ends item) rest) ≡ items_at item (listed more ends item) ts = rw e refl in
      subst (λ (l : List X). Goes (listed more ends item) (λ (z : Parsed). items_with view more l z) rest (items_at item (listed more ends item) ts)) (sym s)
      (starts (listed more ends item) refl (λ (z : Parsed). items_with view more (x ∷ []) z) rest (items_at item (listed more ends item) ts) first)

  -- one item more
  pub items_next : (rest past : List Lexeme) (total : Pairs) (all others : List X) (y : X) (ys : List X) (x : X) → is_named rest ≡ true → item rest ≡ Ok (view x, past) → length past < length rest → all ≡ y ∷ ys → others ≡ all ++ (x ∷ [])
      → Goes (listed more ends item) (λ (z : Parsed). items_with view more all z) rest total → Goes (listed more ends item) (λ (z : Parsed). items_with view more others z) past total
  items_next rest past total all others y ys x b e f s m g =
      next (listed more ends item) refl (λ (z : Parsed). items_with view more all z) (λ (z : Parsed). items_with view more others z) rest (view x, past) total b e f (λ z. rw (m, s) (items_pushed view more y ys x z)) g

pub constants_start : (d : ℕ) (all : List ConstantDeclaration) (x : ConstantDeclaration) (ts rest : List Lexeme) → constant_at d ts ≡ Ok (of_constant x, rest) → all ≡ x ∷ [] → Goes (more_constants d) (λ (z : Parsed). items_with of_constant p.next_constant all z) rest (constants_at d ts)
unfolding constants_at
constants_start d all x ts rest e s = items_start of_constant p.next_constant p.no_constants (constant_at d) all x ts rest e s

pub types_start : (d : ℕ) (all : List TypeDeclaration) (x : TypeDeclaration) (ts rest : List Lexeme) → type_declaration_at d ts ≡ Ok (of_type_declaration x, rest) → all ≡ x ∷ [] → Goes (more_types d) (λ (z : Parsed). items_with of_type_declaration p.next_type all z) rest (types_at d ts)
unfolding types_at
types_start d all x ts rest e s = items_start of_type_declaration p.next_type p.no_types (type_declaration_at d) all x ts rest e s

pub variables_start : (d : ℕ) (all : List VariableDeclaration) (x : VariableDeclaration) (ts rest : List Lexeme) → variable_at d ts ≡ Ok (of_variable x, rest) → all ≡ x ∷ [] → Goes (more_variables d) (λ (z : Parsed). items_with of_variable p.next_variable all z) rest (variables_at d ts)
unfolding variables_at
variables_start d all x ts rest e s = items_start of_variable p.next_variable p.no_variables (variable_at d) all x ts rest e s

-- ---- declarations

abbrev pub DeclarationsGo : ℕ → List Declaration → List Lexeme → List Lexeme → Type 0
DeclarationsGo d all rest ts = Goes (declarations d (nested d)) (λ (z : Parsed). declarations_with all z) rest (declarations_at d (nested d) ts)

pub declarations_start : (d : ℕ) (ts : List Lexeme) (all : List Declaration) → all ≡ [] → DeclarationsGo d all ts ts
declarations_start d ts all s = rw s (starts (declarations d (nested d)) refl (λ (z : Parsed). z) ts (declarations_at d (nested d) ts) (with_same (declarations_at d (nested d) ts)))

pub declarations_next : (d : ℕ) (ts rest past : List Lexeme) (all more : List Declaration) (x : Declaration) → begins_declaration rest ≡ true → declaration_at d (nested d) rest ≡ Ok ((λ more. of_declaration x more), past) → length past < length rest → more ≡ all ++ (x ∷ []) → DeclarationsGo d all rest ts → DeclarationsGo d more past ts
declarations_next d ts rest past all more x b e l m g =
    next (declarations d (nested d)) refl (λ (z : Parsed). declarations_with all z) (λ (z : Parsed). declarations_with more z) rest ((λ more. of_declaration x more), past) (declarations_at d (nested d) ts) b e l (λ z. rw m (declarations_pushed all x z)) g
