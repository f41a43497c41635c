-- When the units of a program agree on their types.
use Rattle.std.specs.Prelude.{◌≡◌, ℕ, All, List, Some, slice_get}
use Rattle.unit_references.specs.type_layout.declared.definitions.TypeDef.{TypeDef}
use Rattle.unit_references.specs.type_layout.Table.{Table, IsWellFormed}
use Rattle.interfaces_consistent.specs.tp_outside.Folder.{Folder}
use Rattle.units_well_formed.specs.tp_lexer.declared.token.Text.{Text}
use Rattle.interfaces_consistent.specs.source_graph.declared.sources.Source.{Source}
use Rattle.interfaces_consistent.specs.source_graph.Walk.{Gathers}
use Rattle.unit_references.specs.typed_tree.declared.units.Unit.{Unit as TypedUnit}
use Rattle.unit_references.specs.typed_tree.declared.units.Program.{Program}
use Rattle.units_well_formed.specs.unit_interface.declared.interfaces.Interface.{Interface}
use Rattle.unit_references.specs.store_typing.standard.Laws.{HasClasses}
use Rattle.unit_references.specs.store_typing.classes.Laws.{HasDeclarers}
use Rattle.unit_references.specs.store_typing.types.Agreement.{IsUnit, IsShort, AreConsistent}
use Rattle.interfaces_consistent.specs.front_end.Typed.{IsProgram}
use Rattle.units_well_formed.specs.imported_types_agree.consistent_types.Consistency.{AreWellScopedHomes}
use Rattle.shared_types_agree.specs.programs.Consistency.{IsConsistentIn}

-- Units whose tables tell of types what the interfaces of the units that declare these tell agree on all types.
abbrev pub TableConsistencyLaw : Type 0
TableConsistencyLaw = (have : List Interface) → AreWellScopedHomes have → (program : Program) → ((unit : TypedUnit) → IsUnit program unit → IsConsistentIn have unit) → AreConsistent program

-- what each table of types keeps: its types stand behind their parts within the limits, and a byte tells the size of a string type
pub record IsKeptTable (table : Table) : Type 0 where
  pub well_formed : IsWellFormed table
  pub short : (k : ℕ) (one : TypeDef) → slice_get table.types k ≡ Some one → IsShort one

-- The units of a program agree on all types.
abbrev pub ConsistencyLaw : Type 0
ConsistencyLaw = (held : Folder) (name : List ℕ) (texts : List Text) (sources : List Source) → Gathers held name texts sources
    → (program : Program) → IsProgram sources program → All (λ (unit : TypedUnit). IsKeptTable unit.types) program.units → AreConsistent program

-- And each is found by its name.
abbrev pub ListedLaw : Type 0
ListedLaw = (held : Folder) (name : List ℕ) (texts : List Text) (sources : List Source) → Gathers held name texts sources
    → (program : Program) → IsProgram sources program → All (IsUnit program) program.units

-- The unit that declares an object type is one of them.
abbrev pub DeclarersLaw : Type 0
DeclarersLaw = (held : Folder) (name : List ℕ) (texts : List Text) (sources : List Source) → Gathers held name texts sources
    → (program : Program) → IsProgram sources program → HasDeclarers program

-- So each class is found by the key of its type.
abbrev pub ClassesLaw : Type 0
ClassesLaw = (held : Folder) (name : List ℕ) (texts : List Text) (sources : List Source) → Gathers held name texts sources
    → (program : Program) → IsProgram sources program → All (λ (unit : TypedUnit). IsKeptTable unit.types) program.units → HasClasses program
