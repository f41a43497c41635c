-- What the sources of a program name is in their tables of types.
use Rattle.std.specs.Prelude.{◌≡◌, ℕ, List, Some, Contains}
use Rattle.std.specs.List.{All}
use Rattle.front_end.specs.tp_outside.Folder.{Folder}
use Rattle.front_end.specs.tp_lexer.declared.token.Text.{Text}
use Rattle.front_end.specs.typed_tree.declared.units.Unit.{Unit}
use Rattle.front_end.specs.typed_tree.declared.units.Program.{Program}
use Rattle.front_end.specs.source_graph.declared.sources.Source.{Source}
use Rattle.front_end.specs.source_graph.Walk.{Gathers}
use Rattle.front_end.specs.unit_interface.declared.interfaces.Interface.{Interface}
use Rattle.front_end.specs.unit_interface.Resolve.{interface_named}
use Rattle.front_end.specs.tp_check_decl.Units.{view_unit}
use Rattle.front_end.specs.tp_check_decl.Shown.{Shows}
use Rattle.front_end.specs.source_interfaces.Scopes.{outer_scope}
use Rattle.front_end.specs.source_interfaces.Interfaces.{AreShown, IsAcyclic}
use Rattle.front_end.specs.Typed.{IsUnitOf, IsProgram}
use Rattle.imported_types_agree.specs.well_scoped.Scopes.{IsCompleteScope, IsWellScopedInterface, IsWellScopedUse}
use Rattle.interface_soundness.specs.tables.Tables.{IsWellScopedUnit}

-- These are sources that were gathered, none of which lies on a circle of uses in interface parts, and interfaces that they show.
pub record AreInOrder (sources : List Source) (have : List Interface) : Type 0 where
  pub held : Folder
  pub name : List ℕ
  pub texts : List Text
  pub gathers : Gathers held name texts sources
  pub acyclic : IsAcyclic sources
  pub shown : AreShown sources have

-- Then each interface is closed; the scope that a source is read over is complete where the source has a typed unit; and the typed
-- unit names types of its table alone.
pub record AreWellScoped : Type 0 where
  pub interfaces : (sources : List Source) (have : List Interface) → AreInOrder sources have → All IsWellScopedInterface have
  pub uses : (sources : List Source) (have : List Interface) → AreInOrder sources have → (name : List ℕ) → IsWellScopedUse have name
  pub scopes : (sources : List Source) (have : List Interface) → AreInOrder sources have → (source : Source) (unit : Unit) → IsUnitOf have source unit
      → IsCompleteScope (outer_scope have source)
  pub units : (sources : List Source) (have : List Interface) → AreInOrder sources have → (source : Source) (unit : Unit) → IsUnitOf have source unit → IsWellScopedUnit unit.types unit.items

-- What the others see of a source, its typed unit shows.
abbrev pub ShowsAlike : Type 0
ShowsAlike = (sources : List Source) (have : List Interface) → AreInOrder sources have → (source : Source) (unit : Unit) → Contains sources source → IsUnitOf have source unit
    → (interface : Interface) → interface_named have source.name ≡ Some interface → Shows (view_unit unit) interface

-- All units of a program are closed.
abbrev pub WellScopedUnits : Type 0
WellScopedUnits = (held : Folder) (name : List ℕ) (texts : List Text) (sources : List Source) → Gathers held name texts sources
    → (program : Program) → IsProgram sources program → All (λ unit. IsWellScopedUnit unit.types unit.items) program.units
