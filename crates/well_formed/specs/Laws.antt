-- What follows for a tree that is typed.
use Rattle.std.specs.Prelude.{◌≡◌, ◌⊎◌, ℕ}
use Rattle.type_layout.specs.declared.definitions.TypeId.{TypeId}
use Rattle.typed_tree.specs.Expressions.{Expression, Place, type_of}
use Rattle.typed_tree.specs.Slots.{slot_of}
use Rattle.typed_tree.specs.type_fits.Fits.{IsSome}
use Rattle.well_formed.specs.Scopes.{Scope, HasType}
use Rattle.well_formed.specs.Typed.{IsTyped, HasPlace, sort_of}

abbrev pub IsSlot : ℕ → Type 0
IsSlot bytes = (bytes ≡ 2) ⊎ (bytes ≡ 4) ⊎ (bytes ≡ 32) ⊎ (bytes ≡ 256)

-- A typed expression is a procedure's call, or its type is in the table.
abbrev pub HaveTypes : Type 0
HaveTypes = (s : Scope) (e : Expression) → IsTyped s e → IsSome (type_of e) → IsSome (sort_of s.types e)

-- Its value then has one of the four slots.
abbrev pub HaveSlots : Type 0
HaveSlots = (s : Scope) (e : Expression) → IsTyped s e → IsSome (type_of e) → IsSlot (slot_of s.types e)

-- The type of a place is in the table.
abbrev pub PlacesHaveTypes : Type 0
PlacesHaveTypes = (s : Scope) (at : Place) (ty : TypeId) → HasPlace s at ty → HasType s ty
