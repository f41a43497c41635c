-- The bytes of an object unit, and which object units have them.
use Rattle.std.specs.Prelude.{ℕ, ◌+◌, ◌-◌, ◌≤◌, IsTrue, ◌||◌, ◌==◌, List, ◌∷◌, ◌++◌, length}
use Rattle.type_layout.specs.Words.{IsName}
use Rattle.object_file.specs.declared.object_unit.object.RefKind.{RefKind}
use Rattle.object_file.specs.declared.object_unit.object.RefKind.TheVariants.{FarRoutine, NearRoutine, DataOffset, DataSegment, Vmt, Runtime}
use Rattle.object_file.specs.declared.object_unit.object.Ref.{Ref}
use Rattle.object_file.specs.declared.object_unit.object.Datum.{Datum}
use Rattle.object_file.specs.declared.object_unit.object.Code8086.{Code8086}
use Rattle.object_file.specs.declared.object_unit.object.ObjectUnit.{ObjectUnit}
use Rattle.object_file.specs.object_unit.Widths.{width_of}
use Rattle.object_file.specs.file_parts.Spelling.{long_text, truth_text, name_text, bytes_text, list_text, FitInTurn, FitEach, IsLong}

-- the kinds by their numbers
abbrev pub kind_number : RefKind → ℕ
kind_number FarRoutine = 0
kind_number NearRoutine = 1
kind_number DataOffset = 2
kind_number DataSegment = 3
kind_number Vmt = 4
kind_number Runtime = 5

unfoldable pub ref_text : Ref → List ℕ
ref_text one = long_text one.offset ++ (kind_number one.kind ∷ (name_text one.unit ++ long_text one.number))

unfoldable pub datum_text : Datum → List ℕ
datum_text datum = long_text datum.size ++ (bytes_text datum.first ++ list_text ref_text datum.refs)

unfoldable pub code_text : Code8086 → List ℕ
code_text routine = name_text routine.name ++ (truth_text routine.far ++ (long_text routine.frame ++ (bytes_text routine.code ++ list_text ref_text routine.refs)))

-- the globals, the virtual method tables, and the routines
unfoldable pub object_text : ObjectUnit → List ℕ
object_text object = list_text datum_text object.globals ++ (list_text datum_text object.vmts ++ list_text code_text object.routines)

-- where a reference ends
abbrev pub ref_end : Ref → ℕ
ref_end one = one.offset + width_of one.kind

-- a reference among bytes of this size, behind those that end before `least`
pub record IsRef (size least : ℕ) (one : Ref) : Type 0 where
  pub behind : least ≤ one.offset
  pub inside : ref_end one ≤ size
  pub unit : IsName one.unit
  pub offset : IsLong one.offset
  pub number : IsLong one.number

-- references that rise without overlap inside bytes of this size
abbrev pub AreRefs : ℕ → List Ref → Type 0
AreRefs size refs = IsLong (length refs) × FitInTurn (IsRef size) (λ _ one. ref_end one) 0 refs

-- A datum begins with as many bytes as its size, or none are said, and its references stand in these.
pub record IsDatum (datum : Datum) : Type 0 where
  pub size : IsLong datum.size
  pub first : IsTrue (length datum.first == 0 || length datum.first == datum.size)
  pub refs : AreRefs (length datum.first) datum.refs

-- A routine has at least 6 bytes of code, and these have room in what the routines before it leave.
pub record IsCode (room : ℕ) (routine : Code8086) : Type 0 where
  pub name : IsName routine.name
  pub frame : IsLong routine.frame
  pub count : IsLong (length routine.code)
  pub some : 6 ≤ length routine.code
  pub few : length routine.code ≤ room
  pub refs : AreRefs (length routine.code) routine.refs

-- the room that a routine leaves
abbrev pub room_behind : ℕ → Code8086 → ℕ
room_behind room routine = room - length routine.code

abbrev pub AreData : List Datum → Type 0
AreData data_list = IsLong (length data_list) × FitEach IsDatum data_list

abbrev pub AreCodes : List Code8086 → Type 0
AreCodes routines = IsLong (length routines) × FitInTurn IsCode room_behind 65520 routines

-- an object unit that a file can hold
pub record IsObjectUnit (object : ObjectUnit) : Type 0 where
  pub globals : AreData object.globals
  pub vmts : AreData object.vmts
  pub routines : AreCodes object.routines

-- one with at least so many globals and routines
pub record IsObjectFor (globals routines : ℕ) (object : ObjectUnit) : Type 0 where
  pub object_unit : IsObjectUnit object
  pub globals_count : globals ≤ length object.globals
  pub routines_count : routines ≤ length object.routines
