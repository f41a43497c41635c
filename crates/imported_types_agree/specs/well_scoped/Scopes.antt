-- Complete scopes: those of units that use others.
use Rattle.std.specs.Prelude.{◌≡◌, ℕ, true, false, List, [], ◌∷◌, Some, length, slice_get}
use Rattle.tables_closed.specs.typed_tree.declared.units.Unit as typed
use Rattle.tables_closed.specs.scopes.Environment.{Environment}
use Rattle.tables_closed.specs.scopes.Predeclared.{first}
use Rattle.tables_closed.specs.unit_interface.declared.interfaces.Interface.{Interface}
use Rattle.tables_closed.specs.unit_interface.Exports.{in_items, with_type, IsInterfaceOf}
use Rattle.tables_closed.specs.unit_interface.Merge.{with_interface}
use Rattle.tables_closed.specs.unit_interface.Resolve.{is_overlay, interface_named, with_use, with_uses}
use Rattle.tables_closed.specs.unit_interface.Fitting.{types_fit, use_fits, uses_fit}
use Rattle.tables_closed.specs.constants.Bounds.{AreBelow, IsWellScopedEnvironment}
use Rattle.tables_closed.specs.constants.Ordered.{IsOrdered}

-- the table is ordered, and each type that the scope names is one of it
pub record IsCompleteScope (g : Environment) : Type 0 where
  pub ordered : IsOrdered g.types
  pub closed : IsWellScopedEnvironment g

-- the types of an interface, and its items, name types of its table alone; each type has its origin
pub record IsWellScopedInterface (interface : Interface) : Type 0 where
  pub paired : length interface.types.origins ≡ length interface.types.types
  pub items : AreBelow (length interface.types.types) (in_items interface.items)
  pub types : (by : ℕ) → AreBelow (length interface.types.types) (with_type by (slice_get interface.types.types by))

-- what stands among some interfaces for a unit is closed; OVERLAY needs none
abbrev pub IsWellScopedUse : List Interface → List ℕ → Type 0
IsWellScopedUse have name = is_overlay name ≡ false → (interface : Interface) → interface_named have name ≡ Some interface → IsWellScopedInterface interface

abbrev pub AreWellScopedUses : List Interface → List (List ℕ) → Type 0
AreWellScopedUses have [] = Unit {0}
AreWellScopedUses have (name ∷ names) = IsWellScopedUse have name × AreWellScopedUses have names

pub record AreWellScoped : Type 0 where
  -- before any unit is used
  pub first : (name : List ℕ) → IsCompleteScope (first name)
  -- with a unit whose types fit
  pub interface : (g : Environment) (interface : Interface) → IsCompleteScope g → IsWellScopedInterface interface → types_fit g.types interface.types ≡ true → IsCompleteScope (with_interface g interface)
  -- with a unit, or several of them, by their names
  pub used : (have : List Interface) (g : Environment) (name : List ℕ) → IsCompleteScope g → IsWellScopedUse have name → use_fits have g name ≡ true → IsCompleteScope (with_use have g name)
  pub all_used : (have : List Interface) (g : Environment) (names : List (List ℕ)) → IsCompleteScope g → AreWellScopedUses have names → uses_fit have g names ≡ true
      → IsCompleteScope (with_uses have g names)
  -- what a unit shows is closed, where its types and its items name types of its table
  pub shown : (unit : typed.Unit) (interface : Interface) → length unit.types.origins ≡ length unit.types.types → AreBelow (length unit.types.types) (in_items unit.items)
      → ((by : ℕ) → AreBelow (length unit.types.types) (with_type by (slice_get unit.types.types by))) → IsInterfaceOf unit interface → IsWellScopedInterface interface
