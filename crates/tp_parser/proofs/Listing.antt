-- The loop over an interface part: how it begins, and one step of it.
use Rattle.std.proofs.Common.{◌≡◌, ℕ, ◌<◌, true, List, [], ◌∷◌, ◌++◌, length, Ok, refl, ap}
use Rattle.pascal_grammar.specs.declared.lexeme.Lexeme.{Lexeme}
use Rattle.syntax_tree.specs.Expressions.{Parsed}
use Rattle.syntax_tree.specs.declared.source_tree.source.InterfaceDeclaration.{InterfaceDeclaration}
use Rattle.syntax_tree.specs.source_tree.Sources.{of_interface, interface_with}
use Rattle.type_parser.proofs.parameter_parser.Loop.{with_same, Goes, starts, next}
use Rattle.tp_parser.specs.Reading.{begins_interface, declared_at, interface, interface_at}

-- what was declared so far, in front of what is still read
abbrev pub InterfaceGoes : ℕ → List InterfaceDeclaration → List Lexeme → List Lexeme → Type 0
InterfaceGoes d all rest ts = Goes (interface d) (λ (z : Parsed). interface_with all z) rest (interface_at d ts)

-- one declaration more at the end
pushed : (all : List InterfaceDeclaration) (x : InterfaceDeclaration) (more : Parsed) → interface_with (all ++ (x ∷ [])) more ≡ interface_with all (of_interface x more)
pushed [] x more = refl
pushed (y ∷ all) x more = ap (λ (z : Parsed). of_interface y z) (pushed all x more)

pub interface_start : (d : ℕ) (ts : List Lexeme) (all : List InterfaceDeclaration) → all ≡ [] → InterfaceGoes d all ts ts
interface_start d ts all s = rw s (starts (interface d) refl (λ (z : Parsed). z) ts (interface_at d ts) (with_same (interface_at d ts)))

pub interface_next : (d : ℕ) (ts rest past : List Lexeme) (all more : List InterfaceDeclaration) (x : InterfaceDeclaration) → begins_interface rest ≡ true → declared_at d rest ≡ Ok ((λ (z : Parsed). of_interface x z), past) → length past < length rest → more ≡ all ++ (x ∷ []) → InterfaceGoes d all rest ts → InterfaceGoes d more past ts
interface_next d ts rest past all more x b e l m g =
    next (interface d) refl (λ (z : Parsed). interface_with all z) (λ (z : Parsed). interface_with more z) rest ((λ (z : Parsed). of_interface x z), past) (interface_at d ts) b e l (λ z. rw m (pushed all x z)) g
