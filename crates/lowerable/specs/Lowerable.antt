-- Which programs can be lowered.
use Rattle.std.specs.Prelude.{◌≡◌, ℕ, ◌+◌, ◌≤◌, ◌<◌, ◌^◌, ◌&&◌, nat_lt, not, Bool, true, false, List, length, Some, slice_get, codes}
use Rattle.std.specs.List.{list_all}
use Rattle.type_layout.specs.Words.{is_name}
use Rattle.typed_tree.specs.declared.units.Routine.{Routine}
use Rattle.typed_tree.specs.declared.units.Unit.{Unit as TypedUnit}
use Rattle.typed_tree.specs.declared.units.Program.{Program}
use Rattle.typed_tree.specs.Statements.{view_stmt}
use Rattle.typed_tree.specs.Frames.{argument_bytes, local_bytes, need_of}
use Rattle.tp_meaning.specs.Programs.{main_unit, is_overlay}
use Rattle.lowerable.specs.Farness.{is_far_in, is_linkable_statement, has_far_methods, has_far_initial}
use Rattle.lowerable.specs.Limits.{fits, nests, has_stack}

abbrev pub is_lowerable_routine : List TypedUnit → TypedUnit → Routine → Bool
is_lowerable_routine units unit routine = fits unit.types.types routine && (nests unit.routines 15 routine.outer && is_linkable_statement units unit (view_stmt routine.body))

-- the unit Overlay is the runtime's
abbrev pub is_lowerable_unit : List TypedUnit → TypedUnit → Bool
is_lowerable_unit units unit =
    not (is_overlay unit.name) && (has_far_initial unit && (list_all (has_far_methods units unit) unit.types.types && (nat_lt (length unit.routines) 4294967296 && list_all (is_lowerable_routine units unit) unit.routines)))

abbrev pub is_lowerable : Program → Bool
is_lowerable program = has_stack (main_unit program) && list_all (is_lowerable_unit program.units) program.units

-- ---- what it gives

pub record IsLowerableRoutine (units : List TypedUnit) (unit : TypedUnit) (routine : Routine) : Type 0 where
  pub arguments : argument_bytes unit.types.types routine ≤ 256
  pub own : local_bytes unit.types.types routine + need_of unit.types.types routine ≤ 65000
  pub nested : nests unit.routines 15 routine.outer ≡ true
  pub body : is_linkable_statement units unit (view_stmt routine.body) ≡ true

pub record IsLowerableUnit (units : List TypedUnit) (unit : TypedUnit) : Type 0 where
  pub name : is_overlay unit.name ≡ false
  pub few : length unit.routines < 2 ^ 32
  pub initial : (number : ℕ) → unit.initial ≡ Some number → is_far_in number (Some unit) ≡ true
  pub methods : list_all (has_far_methods units unit) unit.types.types ≡ true
  pub routines : (number : ℕ) (routine : Routine) → slice_get unit.routines number ≡ Some routine → IsLowerableRoutine units unit routine

-- a unit of a program, with a stack that keeps its limits
pub record HasMain (program : Program) : Type 0 where
  pub main : TypedUnit
  pub main_is : main_unit program ≡ Some main
  pub least : 1024 ≤ main.stack
  pub most : main.stack ≤ 65520

pub record IsLowerable (program : Program) : Type 0 where
  pub stack : HasMain program
  pub units : (place : ℕ) (unit : TypedUnit) → slice_get program.units place ≡ Some unit → IsLowerableUnit program.units unit

-- a name of the language that isn't Overlay is none of a unit of the runtime
pub record IsNoRuntimeName (name : List ℕ) : Type 0 where
  pub text : name ≡ codes ".TEXT" → ⊥
  pub strings : name ≡ codes ".STRINGS" → ⊥
  pub overlay : name ≡ codes "OVERLAY" → ⊥

abbrev pub NamesApart : Type 0
NamesApart = (name : List ℕ) → is_name name ≡ true → is_overlay name ≡ false → IsNoRuntimeName name
