-- Programs of flat code, and where their parts lie.
use Rattle.std.specs.Prelude.{ℕ, zero, suc, ◌/◌, ◌%◌, ◌==◌, Bool, if◌then◌else◌, List, Option, Some, slice_get, codes}
use Rattle.std.specs.Option.{option_and_then}
use Rattle.flat_code.specs.declared.tree.FlatResult.{FlatResult}
use Rattle.flat_code.specs.Tree.{Code}
use Rattle.flat_code.specs.declared.memory.Place.{Place}

abbrev pub Name : Type 0
Name = List ℕ

-- a routine, a datum or a virtual method table: its unit and its number there
pub record Key : Type 0 where
  pub unit : Name
  pub number : ℕ

pub record Routine : Type 0 where
  pub far : Bool
  pub arguments : ℕ
  pub locals : ℕ
  pub frame : ℕ
  pub result : Option FlatResult
  pub body : Code

pub record Datum : Type 0 where
  pub size : ℕ
  pub first : List ℕ

-- the size of an instance, and the methods' units and numbers
pub record Vmt : Type 0 where
  pub size : ℕ
  pub slots : List (ℕ × ℕ)

pub record UnitCode : Type 0 where
  pub names : List Name
  pub routines : List Routine
  pub globals : List Datum
  pub vmts : List Vmt
  pub initial : Option ℕ

-- a program: its units by their names, in which order they stand and begin, which of them are overlaid, the bytes of stack and heap, and the name of its overlay file
pub record FlatProgram : Type 0 where
  pub unit : Name → Option UnitCode
  pub order : List Name
  pub overlaid : Name → Bool
  pub stack : ℕ
  pub heap : ℕ
  pub ovr_name : List ℕ

-- where the parts of a program lie: the segments of data, stack and heap, the offsets of data and virtual method tables, the far pointers of routines, and what each far pointer calls
pub record Choice : Type 0 where
  pub data_segment : ℕ
  pub stack_segment : ℕ
  pub heap_segment : ℕ
  pub datum : Key → Option ℕ
  pub vmt : Key → Option ℕ
  pub far : Key → Option Place
  pub callee : Place → Option Key

-- the unit of a place in the names of a unit, the first of which is the unit itself
abbrev pub named : Name → List Name → ℕ → Option Name
named own names zero = Some own
named own names (suc k) = slice_get names (suc k)

abbrev pub routine_of : FlatProgram → Key → Option Routine
routine_of program key = option_and_then (λ (unit : UnitCode). slice_get unit.routines key.number) (program.unit key.unit)

-- ---- the runtime

-- the three units of the runtime; no unit of the sources has such a name, but for OVERLAY, which is theirs to use
abbrev pub text_unit : Name
text_unit = codes ".TEXT"

abbrev pub strings_unit : Name
strings_unit = codes ".STRINGS"

abbrev pub overlay_unit : Name
overlay_unit = codes "OVERLAY"

-- a runtime number names the unit by its upper byte and the routine by its lower one
abbrev pub runtime_key : ℕ → Key
runtime_key number = record {
  unit = if number / 256 == 1 then text_unit else (if number / 256 == 2 then strings_unit else overlay_unit);
  number = number % 256;
}

-- three globals of the runtime hold at the start the heap's segment, its bytes and the name of the overlay file
abbrev pub heap_segment_key : Key
heap_segment_key = record { unit = overlay_unit; number = 1 }

abbrev pub heap_bytes_key : Key
heap_bytes_key = record { unit = overlay_unit; number = 2 }

abbrev pub ovr_name_key : Key
ovr_name_key = record { unit = overlay_unit; number = 3 }
