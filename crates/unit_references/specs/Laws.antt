-- Where what units suppose of others is so, their trees refer to what they say.
use Rattle.std.specs.Prelude.{ℕ, List, All}
use Rattle.type_soundness.specs.type_layout.declared.definitions.TypeId.{TypeId}
use Rattle.type_soundness.specs.typed_tree.declared.units.Unit.{Unit as TypedUnit}
use Rattle.type_soundness.specs.typed_tree.declared.units.Program.{Program}
use Rattle.type_soundness.specs.typed_tree.Statements.{Statement}
use Rattle.type_soundness.specs.well_formed.Scopes.{Scope}
use Rattle.type_soundness.specs.well_formed.WellFormed.{IsStatement}
use Rattle.type_soundness.specs.store_typing.types.Agreement.{IsUnit}
use Rattle.type_soundness.specs.store_typing.standard.Laws.{HasClasses}
use Rattle.type_soundness.specs.program_typing.programs.References.{Site}
use Rattle.type_soundness.specs.program_typing.programs.Statements.{RefersStatement}
use Rattle.type_soundness.specs.program_typing.programs.WellTyped.{HasMethods, IsWellTyped}
use Rattle.type_soundness.specs.program_typing.programs.Tasks.{scope_with}
use Rattle.unit_references.specs.Units.{IsSupported, HasSoundUnits}

abbrev pub site_in : Program → TypedUnit → ℕ → Site
site_in program unit number = record { program = program; unit = unit; number = number }

-- what the body of a routine may name inside `with`s
abbrev pub scope_at : (program : Program) (unit : TypedUnit) → IsSupported program unit → ℕ → List TypeId → Scope
scope_at program unit supported number withs = scope_with supported.formed.others (site_in program unit number) withs

-- However a statement of a unit is typed, it refers as it says.
abbrev pub StatementsRefer : Type 0
StatementsRefer = (program : Program) (sound : HasSoundUnits program) (unit : TypedUnit) (listed : IsUnit program unit) (number : ℕ) (withs : List TypeId) (statement : Statement)
    → (h : IsStatement (scope_at program unit (sound.supported unit listed) number withs) statement)
    → RefersStatement (site_in program unit number) (scope_at program unit (sound.supported unit listed) number withs) statement h

-- Sound units that are found by their names are a well-typed program, where its classes and methods are in order.
abbrev pub UnitsAreWellTyped : Type 0
UnitsAreWellTyped = (program : Program) → All (IsUnit program) program.units → HasSoundUnits program → HasClasses program → HasMethods program → IsWellTyped program
