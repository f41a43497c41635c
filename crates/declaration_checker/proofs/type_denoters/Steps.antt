-- What is added, by what was asked, and lists that are taken from the end.
use Rattle.std.proofs.Common.{◌≡◌, ℕ, true, false, nat_le, List, [], ◌∷◌, ◌++◌, Ok, Err, length, refl}
use Rattle.std.specs.Prelude.{reverse}
use Rattle.std.proofs.lemmas.List.{reverse-append}
use Rattle.type_layout.specs.declared.definitions.TypeId.{TypeId}
use Rattle.type_layout.specs.declared.definitions.TypeDef.{TypeDef}
use Rattle.type_layout.specs.declared.texts.Place.{Place}
use Rattle.scopes.specs.Predeclared.{type_id}
use Rattle.scopes.specs.Environment.{Environment}
use Rattle.typing_rules.specs.declared.faults.Rule.{Rule}
use Rattle.typing_rules.specs.Faults.{broken, too_large}
use Rattle.typing_rules.specs.Judgements.{◌>>=◌}
use Rattle.declaration_checker.specs.type_denoters.Additions.{is_addable, with_type_of, Denoted, denoted, bytes_of, added}
use Rattle.declaration_checker.specs.type_denoters.Denoters.{array_of, arrays_of}

module _ (unit : List ℕ) (g : Environment) (place : Place) (asked : Rule) (one : TypeDef) where
  pub added_not : is_addable g.types unit one ≡ false → (added unit g place asked one).run ≡ Err (broken place asked)
  unfolding added
  added_not untaken = rw untaken refl

  pub added_large : is_addable g.types unit one ≡ true → nat_le (bytes_of g one) 65520 ≡ false → (added unit g place asked one).run ≡ Err (too_large place (bytes_of g one))
  unfolding added
  added_large taken past = rw (taken, past) refl

  pub added_made : is_addable g.types unit one ≡ true → nat_le (bytes_of g one) 65520 ≡ true → (added unit g place asked one).run ≡ Ok (denoted (type_id (length g.types.types)) (with_type_of unit g one))
  unfolding added
  added_made taken fits = rw (taken, fits) refl

pub reverse_pushed : {A : Type 0} → (xs : List A) (x : A) → reverse (xs ++ (x ∷ [])) ≡ x ∷ reverse xs
reverse_pushed xs x = reverse-append xs (x ∷ [])

pub arrays_step : (unit : List ℕ) (place : Place) (all rest : List TypeId) (index : TypeId) (element : Denoted) → all ≡ rest ++ (index ∷ [])
    → (arrays_of unit place (reverse all) element).run ≡ ((array_of unit element.scope place index element.ty).run >>= λ one. (arrays_of unit place (reverse rest) one).run)
arrays_step unit place all rest index element is = rw (is, reverse_pushed rest index) refl
