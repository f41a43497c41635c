-- Pointers and objects by the lines of object types.
use Rattle.std.specs.Prelude.{◌≡◌, ◌⊎◌, ℕ, zero, suc, ◌<◌, ◌==◌, Bool, true, false, ◌&&◌, ◌||◌, List, length, Option, Some, None}
use Rattle.std.specs.Option.{option_and_then}
use Rattle.type_layout.specs.declared.definitions.TypeId.{TypeId}
use Rattle.type_layout.specs.declared.definitions.TypeDef.{TypeDef}
use Rattle.type_layout.specs.declared.definitions.TypeDef.TheVariants as type
use Rattle.typed_tree.specs.type_fits.Fits.{definition, parent_of, ancestor, IsObject}
use Rattle.typing_rules.specs.declared.sorts.Sort.{Sort}
use Rattle.typing_rules.specs.declared.sorts.Sort.TheVariants as sort

-- ---- lines

-- A type is found on a line, where at most so many types are looked at.
pub record IsReached (room : ℕ) (types : List TypeDef) (ty : Option TypeId) (above : TypeId) : Type 0 where
  pub steps : ℕ
  pub within : steps < room
  pub leads : option_and_then (ancestor types steps) ty ≡ Some above

-- The second type is the first one or an ancestor of it. A line has no more types than the table.
abbrev pub Descends : List TypeDef → TypeId → TypeId → Type 0
Descends types ty above = IsReached (length types) types (Some ty) above

abbrev pub reaches : ℕ → List TypeDef → Option TypeId → TypeId → Bool
reaches zero types ty above = false
reaches (suc room) types None above = false
reaches (suc room) types (Some ty) above = ty.0 == above.0 || reaches room types (parent_of (definition types ty)) above

abbrev pub descends : List TypeDef → TypeId → TypeId → Bool
descends types ty above = reaches (length types) types (Some ty) above

abbrev pub is_object : Option TypeDef → Bool
is_object (Some (type.ObjectOf parent dynamic fields methods)) = true
is_object _ = false

-- ---- values of other types that a type takes

abbrev pub IsLine : List TypeDef → TypeId → TypeId → Type 0
IsLine types below above = IsObject (definition types below) × Descends types below above

abbrev pub is_line : List TypeDef → TypeId → TypeId → Bool
is_line types below above = is_object (definition types below) && descends types below above

-- a descendant of an object type, or a pointer to one where a pointer to an object type is due
abbrev pub IsBelowBy : List TypeDef → TypeId → TypeId → Option TypeDef → Option TypeDef → Type 0
IsBelowBy types ty own (Some (type.ObjectOf parent dynamic fields methods)) one = IsLine types own ty
IsBelowBy types ty own (Some (type.PointerTo above)) (Some (type.PointerTo below)) = IsLine types below above
IsBelowBy types ty own _ _ = ⊥

abbrev pub is_below_by : List TypeDef → TypeId → TypeId → Option TypeDef → Option TypeDef → Bool
is_below_by types ty own (Some (type.ObjectOf parent dynamic fields methods)) one = is_line types own ty
is_below_by types ty own (Some (type.PointerTo above)) (Some (type.PointerTo below)) = is_line types below above
is_below_by types ty own _ _ = false

abbrev pub IsBelow : List TypeDef → TypeId → Option TypeId → Type 0
IsBelow types ty None = ⊥
IsBelow types ty (Some own) = IsBelowBy types ty own (definition types ty) (definition types own)

abbrev pub is_below : List TypeDef → TypeId → Option TypeId → Bool
is_below types ty None = false
is_below types ty (Some own) = is_below_by types ty own (definition types ty) (definition types own)

-- the very type
abbrev pub IsOfType : TypeId → Option TypeId → Type 0
IsOfType ty None = ⊥
IsOfType ty (Some own) = ty.0 ≡ own.0

abbrev pub is_of_type : TypeId → Option TypeId → Bool
is_of_type ty None = false
is_of_type ty (Some own) = ty.0 == own.0

-- nil where a pointer is due
abbrev pub IsNilFor : Sort → Sort → Type 0
IsNilFor sort.Pointer sort.Nil = Unit {0}
IsNilFor _ _ = ⊥

abbrev pub is_nil_for : Sort → Sort → Bool
is_nil_for sort.Pointer sort.Nil = true
is_nil_for _ _ = false

-- ---- pointers that are compared

abbrev pub is_address : Sort → Bool
is_address sort.Pointer = true
is_address sort.Nil = true
is_address _ = false

-- pointers and nil
abbrev pub are_pointers : Sort → Sort → Bool
are_pointers a b = is_address a && is_address b

-- what is taken as a pointer of a type
abbrev pub TakesPointer : List TypeDef → Sort → Option TypeId → Option TypeId → Type 0
TakesPointer types sort.Pointer (Some ty) own = IsOfType ty own ⊎ IsBelow types ty own
TakesPointer types s ty own = ⊥

abbrev pub takes_pointer : List TypeDef → Sort → Option TypeId → Option TypeId → Bool
takes_pointer types sort.Pointer (Some ty) own = is_of_type ty own || is_below types ty own
takes_pointer types s ty own = false

-- nil and a pointer, or pointers of which one could be assigned to the other
abbrev pub ArePointersJoined : List TypeDef → Sort → Sort → Option TypeId → Option TypeId → Type 0
ArePointersJoined types a b x y = (IsNilFor a b ⊎ IsNilFor b a) ⊎ (TakesPointer types a x y ⊎ TakesPointer types b y x)

abbrev pub are_pointers_joined : List TypeDef → Sort → Sort → Option TypeId → Option TypeId → Bool
are_pointers_joined types a b x y = (is_nil_for a b || is_nil_for b a) || (takes_pointer types a x y || takes_pointer types b y x)
