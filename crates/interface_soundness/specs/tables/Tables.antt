-- The tables of checked units.
use Rattle.std.specs.Prelude.{◌≡◌, ◌↔◌, ℕ, List, length, slice_get}
use Rattle.front_end.specs.type_layout.Table.{Table}
use Rattle.front_end.specs.syntax_tree.declared.source_tree.source.Tree.{Tree}
use Rattle.front_end.specs.tp_lexer.declared.source_directives.collected.Directives.{Directives}
use Rattle.front_end.specs.typed_tree.declared.units.Item.{Item}
use Rattle.front_end.specs.scopes.Environment.{Environment}
use Rattle.front_end.specs.unit_interface.declared.interfaces.Interface.{Interface}
use Rattle.front_end.specs.unit_interface.Exports.{in_items, with_type}
use Rattle.front_end.specs.tp_check_decl.Units.{Whole}
use Rattle.front_end.specs.tp_check_decl.Shown.{outlined, Shows, IsShownAs}
use Rattle.front_end.specs.tp_check_decl.Checked.{judged}
use Rattle.imported_types_agree.specs.tables_closed.constants.Bounds.{AreBelow}
use Rattle.imported_types_agree.specs.tables_closed.constants.Ordered.{IsOrdered}
use Rattle.imported_types_agree.specs.well_scoped.Scopes.{IsCompleteScope, IsWellScopedInterface, IsWellScopedUse}

-- the table of a unit is ordered, and its types, and the unit's items, name types of it alone
pub record IsWellScopedUnit (table : Table) (listed : List Item) : Type 0 where
  pub ordered : IsOrdered table
  pub items : AreBelow (length table.types) (in_items listed)
  pub types : (by : ℕ) → AreBelow (length table.types) (with_type by (slice_get table.types by))

-- Over a complete scope, the unit of an interface part is closed, and what it shows; and so is a whole unit, where the interfaces
-- are that its implementation part uses.
pub record StayWellScoped : Type 0 where
  pub outline : (name : List ℕ) (says : Directives) (g : Environment) (tree : Tree) (unit : Whole) → IsCompleteScope g → (outlined name says g tree).holds unit → IsWellScopedUnit unit.types unit.items
  pub interface : (name : List ℕ) (says : Directives) (g : Environment) (tree : Tree) (interface : Interface) → IsCompleteScope g → IsShownAs name says g tree interface → IsWellScopedInterface interface
  pub unit : (name : List ℕ) (says : Directives) (g : Environment) (have : List Interface) (tree : Tree) (unit : Whole) → IsCompleteScope g → ((used : List ℕ) → IsWellScopedUse have used)
      → (judged name says g have tree).holds unit → IsWellScopedUnit unit.types unit.items

-- the source has an interface part, and the unit shows what that shows, and nothing else
pub record IsAlike (name : List ℕ) (says : Directives) (g : Environment) (tree : Tree) (unit : Whole) : Type 0 where
  pub outline : Whole
  pub holds : (outlined name says g tree).holds outline
  pub same : (interface : Interface) → Shows unit interface ↔ Shows outline interface

-- so it is for every unit of a source over a complete scope
abbrev pub ShowAlike : Type 0
ShowAlike = (name : List ℕ) (says : Directives) (g : Environment) (have : List Interface) (tree : Tree) (unit : Whole) → IsCompleteScope g → (judged name says g have tree).holds unit
    → IsAlike name says g tree unit
