-- The scope of a unit or program that uses other units.
use Rattle.std.specs.Prelude.{◌≡◌, ℕ, ℤ, ◌||◌, Bool, true, false, cond, codes, pos, negsuc, List, [], ◌∷◌, Option, Some, None, is_some, take, slice_get}
use Rattle.std.specs.List.{list_any}
use Rattle.type_layout.specs.declared.definitions.Header.{Header}
use Rattle.type_layout.specs.declared.definitions.Kind.TheVariants.{Procedure}
use Rattle.type_layout.specs.declared.definitions.Param.{Param}
use Rattle.type_layout.specs.Words.{same_bytes}
use Rattle.type_layout.specs.Table.{place_of, with_unit}
use Rattle.typed_tree.specs.declared.expressions.Value.TheVariants as value
use Rattle.typed_tree.specs.declared.units.Item.{Item}
use Rattle.typed_tree.specs.declared.units.Item.TheVariants as item
use Rattle.scopes.specs.Environment.{Environment, with_used}
use Rattle.scopes.specs.Predeclared.{system, type_id, first}
use Rattle.unit_interface.specs.declared.interfaces.Interface.{Interface}
use Rattle.unit_interface.specs.declared.resolving.ResolveError.{ResolveError}
use Rattle.unit_interface.specs.declared.resolving.ResolveError.TheVariants.{MissingUnit, DuplicateUse, Mismatch, NoMemory}
use Rattle.unit_interface.specs.declared.merge.MergeError.{MergeError}
use Rattle.unit_interface.specs.declared.merge.MergeError.TheVariants as merge
use Rattle.unit_interface.specs.Merge.{with_items, with_interface, ids_in}
use Rattle.unit_interface.specs.Misfits.{IsMisfitting}

-- ---- the unit OVERLAY

abbrev pub overlay : List ℕ
overlay = codes "OVERLAY"

abbrev pub procedure : List Param → Header
procedure params = record { kind = Procedure; params = params; result = None }

abbrev pub constant : List ℕ → ℤ → Item
constant name number = item.Const name (type_id 2) (value.Number number)

abbrev pub parameter : List ℕ → ℕ → Param
parameter name ty = record { name = name; by_ref = false; ty = type_id ty }

-- the constants ovrOk and ovrNotFound, the variable OvrResult, and the three procedures, over the predeclared types
abbrev pub overlay_items : List Item
overlay_items =
    constant (codes "OVROK") (pos 0) ∷
    constant (codes "OVRNOTFOUND") (negsuc 1) ∷
    item.Var (codes "OVRRESULT") (type_id 2) 0 ∷
    item.Code (codes "OVRINIT") (procedure (parameter (codes "S") 7 ∷ [])) 0 ∷
    item.Code (codes "OVRSETBUF") (procedure (parameter (codes "N") 4 ∷ [])) 1 ∷
    item.Code (codes "OVRCLEARBUF") (procedure []) 2 ∷ []

abbrev pub with_overlay : Environment → Environment
with_overlay environment =
    with_used (record environment { units = with_unit environment.units overlay })
    (with_items [] (place_of environment.units overlay) [] overlay_items)

-- ---- uses

abbrev pub is_overlay : List ℕ → Bool
is_overlay name = same_bytes name overlay

abbrev pub chosen : Bool → Interface → Option Interface → Option Interface
chosen true interface other = Some interface
chosen false interface other = other

-- the first interface with a name
abbrev pub interface_named : List Interface → List ℕ → Option Interface
interface_named [] name = None
interface_named (interface ∷ have) name = chosen (same_bytes name interface.name) interface (interface_named have name)

abbrev pub with_found : Environment → Option Interface → Environment
with_found environment None = environment
with_found environment (Some interface) = with_interface environment interface

abbrev pub with_use : List Interface → Environment → List ℕ → Environment
with_use have environment name = cond (is_overlay name) (with_overlay environment) (with_found environment (interface_named have name))

abbrev pub with_uses : List Interface → Environment → List (List ℕ) → Environment
with_uses have environment [] = environment
with_uses have environment (name ∷ names) = with_uses have (with_use have environment name) names

-- The scope of a unit or program with this name, which uses these units.
abbrev pub resolved : List Interface → List ℕ → List (List ℕ) → Environment
resolved have name uses = with_uses have (first name) uses

-- ---- faults

-- OVERLAY is always there
abbrev pub is_there : List Interface → List ℕ → Bool
is_there have name = is_overlay name || is_some (interface_named have name)

-- a name that stands before, or SYSTEM
abbrev pub is_repeated : List (List ℕ) → List ℕ → Bool
is_repeated before name = same_bytes name system || list_any (same_bytes name) before

-- a unit is used that isn't there
pub record IsMissing (have : List Interface) (uses : List (List ℕ)) (name : List ℕ) : Type 0 where
  pub place : ℕ
  pub used : slice_get uses place ≡ Some name
  pub absent : is_there have name ≡ false

-- a unit is used twice, or SYSTEM is used
pub record IsDuplicate (uses : List (List ℕ)) (name : List ℕ) : Type 0 where
  pub place : ℕ
  pub used : slice_get uses place ≡ Some name
  pub repeated : is_repeated (take place uses) name ≡ true

-- a type of the interface with a name doesn't fit those of a scope
pub record IsMisfittingUse (have : List Interface) (environment : Environment) (name : List ℕ) : Type 0 where
  pub interface : Interface
  pub named : interface_named have name ≡ Some interface
  pub other : is_overlay name ≡ false
  pub misfitting : IsMisfitting (ids_in environment.types interface.types) environment.types interface.types

abbrev pub IsUseCause : List Interface → Environment → List ℕ → MergeError → Type 0
IsUseCause have environment name merge.Mismatch = IsMisfittingUse have environment name
IsUseCause have environment name merge.NoMemory = Unit {0}

-- a fault of the names alone
abbrev pub IsNameCause : List Interface → List (List ℕ) → ResolveError → Type 0
IsNameCause have uses (MissingUnit name) = IsMissing have uses name
IsNameCause have uses (DuplicateUse name) = IsDuplicate uses name
IsNameCause have uses (Mismatch name) = ⊥
IsNameCause have uses NoMemory = ⊥

-- A type of a used unit's interface doesn't fit those of the units before it: for one of its parts the table has a type
-- of the same origin and number that is of another kind, or it is too large.
pub record IsMismatched (have : List Interface) (own : List ℕ) (uses : List (List ℕ)) (name : List ℕ) : Type 0 where
  pub place : ℕ
  pub used : slice_get uses place ≡ Some name
  pub misfitting : IsMisfittingUse have (resolved have own (take place uses)) name

abbrev pub IsCause : List Interface → List ℕ → List (List ℕ) → ResolveError → Type 0
IsCause have own uses (MissingUnit name) = IsMissing have uses name
IsCause have own uses (DuplicateUse name) = IsDuplicate uses name
IsCause have own uses (Mismatch name) = IsMismatched have own uses name
IsCause have own uses NoMemory = Unit {0}
