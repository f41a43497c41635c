-- Stores whose objects have the cells of the types with which they were made.
use Rattle.std.specs.Prelude.{◌≡◌, ℕ, List, [], ◌∷◌, length, slice_get, Option, Some, None, Ok, Err}
use Rattle.tp_meaning.specs.Trees.{Spot, At, holding}
use Rattle.tp_meaning.specs.Found.{Act, Error, IllTyped, Found}
use Rattle.tp_meaning.specs.Programs.{Sort}
use Rattle.tp_meaning.specs.Store.{Object, Store}
use Rattle.store_typing.specs.types.Forms.{form_at}
use Rattle.store_typing.specs.stores.Worlds.{Made, Own, Alias, World, HasForm}
use Rattle.store_typing.specs.stores.Places.{IsPlaceOf}

-- a variable parameter or Self holds a place
pub record StandsFor (w : World) (sort : Sort) (object : Object) : Type 0 where
  pub spot : Spot
  pub held : object.tree ≡ holding (At spot)
  pub place : IsPlaceOf w spot sort

abbrev pub IsMade : World → Made → Object → Type 0
IsMade w (Own sort) object = HasForm w (form_at sort) object.tree
IsMade w (Alias sort) object = StandsFor w sort object

-- of an object that is gone nothing is said
abbrev pub IsMadeOrGone : World → Made → Option Object → Type 0
IsMadeOrGone w made None = Unit {0}
IsMadeOrGone w made (Some object) = IsMade w made object

abbrev pub AreMade : World → List Made → List (Option Object) → Type 0
AreMade w [] [] = Unit {0}
AreMade w (made ∷ more) (slot ∷ slots) = IsMadeOrGone w made slot × AreMade w more slots
AreMade w _ _ = ⊥

pub record IsTypedStore (w : World) (store : Store) : Type 0 where
  pub count : length store.objects ≡ length w.made
  pub objects : (serial : ℕ) (made : Made) (slot : Option Object) → slice_get w.made serial ≡ Some made → slice_get store.objects serial ≡ Some slot → IsMadeOrGone w made slot

-- What is found is so, or nothing is found by an undefined act or an error: never by a step that no typed program asks for.
abbrev pub Finds : {A : Type 0} → (A → Type 0) → Found A → Type 0
Finds IsSo (Ok a) = IsSo a
Finds IsSo (Err (Act number)) = Unit {0}
Finds IsSo (Err (Error code)) = Unit {0}
Finds IsSo (Err IllTyped) = ⊥
