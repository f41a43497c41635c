-- Further used units only add to the table, and to the names of units.
use Rattle.std.proofs.Common.{◌≡◌, ℕ, zero, suc, Bool, true, false, cond, List, [], ◌∷◌, map, length, Option, Some, None, sym, ap, subst}
use Rattle.std.specs.Prelude.{slice_get}
use Rattle.front_end.specs.type_layout.declared.definitions.TypeId.{TypeId}
use Rattle.front_end.specs.type_layout.declared.definitions.TypeDef.{TypeDef}
use Rattle.front_end.specs.type_layout.declared.definitions.Origin.{Origin}
use Rattle.front_end.specs.type_layout.Table.{Table, with_unit}
use Rattle.front_end.specs.syntax_tree.declared.identifier.Identifier.{Identifier}
use Rattle.front_end.specs.scopes.Environment.{Environment}
use Rattle.front_end.specs.unit_interface.declared.interfaces.Interface.{Interface}
use Rattle.front_end.specs.unit_interface.Merge.{key_of, added_type, with_listed, is_new, merged, ids_in, with_all_declaring}
use Rattle.front_end.specs.unit_interface.Resolve.{overlay, is_overlay, interface_named, with_overlay, with_found, with_use, with_uses}
use Rattle.front_end.specs.tp_check_decl.Interfaces.{all_used}
use Rattle.front_end.proofs.tp_check_decl_proofs.UsedLaws.{used_is}
use Rattle.interface_soundness.proofs.interfaces.Growing.{Grows, stays, then, adds}

-- ---- tables

listed_grows : (ids : List TypeId) (table : Table) (units : List (List ℕ)) (one : Option TypeDef) (origin : Option Origin) → Grows table (with_listed ids table units one origin)
listed_grows ids table units (Some one) (Some origin) =
    let key = key_of units origin in
    adds table key.unit key.number (added_type ids table key one)
listed_grows ids table units (Some one) None = stays table
listed_grows ids table units None origin = stays table

either_grows : (b : Bool) (table longer : Table) → Grows table longer → Grows table (cond b longer table)
either_grows true table longer grows = grows
either_grows false table longer grows = stays table

merged_grows : (other : Table) (ids : List TypeId) (table : Table) (number : ℕ) → Grows table (merged other ids table number)
merged_grows other ids table zero = stays table
merged_grows other ids table (suc number) =
    let before = merged other ids table number in
    let one = slice_get other.types number in
    let origin = slice_get other.origins number in
    then table before (merged other ids table (suc number)) (merged_grows other ids table number)
    (either_grows (is_new ids before number) before (with_listed ids before other.units one origin) (listed_grows ids before other.units one origin))

found_grows : (g : Environment) (found : Option Interface) → Grows g.types (with_found g found).types
found_grows g None = stays g.types
found_grows g (Some interface) = merged_grows interface.types (ids_in g.types interface.types) g.types (length interface.types.types)

use_grows : (have : List Interface) (g : Environment) (name : List ℕ) → Grows g.types (with_use have g name).types
use_grows have g name = by (is_overlay name)
  where
    by : (b : Bool) → Grows g.types (cond b (with_overlay g) (with_found g (interface_named have name))).types
    by true = stays g.types
    by false = found_grows g (interface_named have name)

-- ---- the scope behind further used units

uses_grow : (have : List Interface) (g : Environment) (names : List (List ℕ)) → Grows g.types (with_uses have g names).types
uses_grow have g [] = stays g.types
uses_grow have g (name ∷ names) =
    let next = with_use have g name in
    then g.types next.types (with_uses have next names).types (use_grows have g name) (uses_grow have next names)

pub used_grows : (have : List Interface) (g : Environment) (uses : List Identifier) (h : Environment) → (all_used have g uses).holds h → Grows g.types h.types
used_grows have g uses h e =
    let names = map (λ (one : Identifier). one.name) uses in
    subst (λ (k : Environment). Grows g.types k.types) (sym (used_is have g uses h e)) (uses_grow have g names)

-- ---- names of units

use_names : (have : List Interface) (g k : Environment) (name : List ℕ) → g.units ≡ k.units → (with_use have g name).units ≡ (with_use have k name).units
use_names have g k name same = by (is_overlay name) (interface_named have name)
  where
    by : (b : Bool) (found : Option Interface) → (cond b (with_overlay g) (with_found g found)).units ≡ (cond b (with_overlay k) (with_found k found)).units
    by true found = ap (λ (units : List (List ℕ)). with_unit units overlay) same
    by false None = same
    by false (Some interface) = ap (λ (units : List (List ℕ)). with_all_declaring (with_unit units interface.name) interface.types.units) same

-- the names that used units bring depend on no other part of a scope
pub uses_names : (have : List Interface) (g k : Environment) (names : List (List ℕ)) → g.units ≡ k.units → (with_uses have g names).units ≡ (with_uses have k names).units
uses_names have g k [] same = same
uses_names have g k (name ∷ names) same = uses_names have (with_use have g name) (with_use have k name) names (use_names have g k name same)
