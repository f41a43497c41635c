-- A declaration of an object type, whose fields lie in a vector.
use Rattle.std.proofs.Common.{◌≡◌, ℕ, Bool, List, Option, Result, ap, ◌∙◌, Vec, Global}
use Rattle.pascal_grammar.specs.declared.lexeme.Position.{Position}
use Rattle.syntax_tree.specs.declared.identifier.Identifier.{Identifier}
use Rattle.syntax_tree.specs.declared.type_tree.parameter.Method.{Method}
use Rattle.syntax_tree.specs.declared.type_tree.types.FieldGroup.{FieldGroup}
use Rattle.syntax_tree.specs.declared.type_tree.types.TypeDenoter.{TypeDenoter}
use Rattle.syntax_tree.specs.declared.type_tree.types.TypeDenoter.TheVariants as t
use Rattle.scopes.specs.Environment.{Environment}
use Rattle.typing_rules.specs.declared.faults.Fault.{Fault}
use Rattle.declaration_checker.specs.type_denoters.Trees.{Denoter, view_groups}
use Rattle.declaration_checker.specs.type_denoters.Trees as tree
use Rattle.declaration_checker.specs.type_denoters.Additions.{Denoted}
use Rattle.declaration_checker.specs.type_denoters.Denoters.{Ground}
use Rattle.declaration_checker.proofs.type_denoters.Views.{view_object}
use Rattle.declaration_checker.specs.type_parts.Objects.{object_allowed}
use Rattle.declaration_checker.specs.type_parts.Parts.{whole}

-- what is answered for a type that may be an object, by its denoter
abbrev answered : Ground → Option ℕ → List ℕ → Environment → Denoter → Result Denoted Fault → Result Denoted Fault
answered on next name g (tree.object place ancestor fields methods) other = (object_allowed on next name g place ancestor fields methods).run
answered on next name g one other = other

module _ (on : Ground) (next : Option ℕ) (name : List ℕ) (g : Environment) (other : Result Denoted Fault) (here : Position) (ancestor : Option Identifier) (all : Vec FieldGroup Global) (semicolon : Bool) (methods : Vec Method Global) where
  abbrev one : TypeDenoter
  one = t.Object here ancestor all semicolon methods

  -- an object type is what its fields and methods make it
  pub whole_object : (d : TypeDenoter) → d ≡ one → (whole on next name g d).run ≡ (object_allowed on next name g here.place ancestor (view_groups all.items) methods.items).run
  whole_object d is =
      ap (λ (x : TypeDenoter). (whole on next name g x).run) is
      ∙ ap (λ (x : Denoter). answered on next name g x other) (view_object here ancestor all semicolon methods)
