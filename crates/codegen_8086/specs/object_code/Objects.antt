-- The code and data that are made of a flat unit.
use Rattle.std.specs.Prelude.{◌≡◌, ℕ, ◌+◌, ◌*◌, ◌%◌, ◌/◌, ◌-◌, ◌<◌, ◌≤◌, Bool, nat_lt, List, [], ◌∷◌, ◌++◌, length, map, replicate}
use Rattle.std.specs.List.{list_all}
use Rattle.type_layout.specs.declared.definitions.RoutineId.{RoutineId}
use Rattle.object_file.specs.declared.object_unit.object.Code8086.{Code8086}
use Rattle.object_file.specs.declared.object_unit.object.Datum.{Datum}
use Rattle.object_file.specs.declared.object_unit.object.ObjectUnit.{ObjectUnit}
use Rattle.object_file.specs.declared.object_unit.object.Ref.{Ref}
use Rattle.object_file.specs.declared.object_unit.object.RefKind.TheVariants as kind
use Rattle.x86_table.specs.declared.line.Line.{Line}
use Rattle.x86_table.specs.Lines.{code_size, places_from, assembled, ShortJumpsReach, NearJumpsAreFar, Shortens}
use Rattle.flat_code.specs.declared.unit.FlatDatum.{FlatDatum}
use Rattle.flat_code.specs.declared.unit.FlatRoutine.{FlatRoutine}
use Rattle.flat_code.specs.declared.unit.FlatUnit.{FlatUnit}
use Rattle.flat_code.specs.declared.unit.FlatVmt.{FlatVmt}
use Rattle.flat_code.specs.Meaning.{filled}
use Rattle.flat_code.specs.Plain.{view_routine, view_unit}
use Rattle.flat_code.specs.Program.{Name, UnitCode}
use Rattle.code_templates.specs.declared.code_references.marks.MarkedLine.{MarkedLine}
use Rattle.code_templates.specs.code_references.Marks.{lines_of}
use Rattle.code_templates.specs.code_references.Marked.{marked_routine, stored}
use Rattle.codegen_8086.specs.object_code.References.{name_in, refs_at}

-- ## Routines

-- These are the lines of a routine, with near jumps made short until no other can be; each short one reaches its label.
pub record IsLaidOut (marked : List MarkedLine) (lines : List Line) : Type 0 where
  pub shortens : Shortens (lines_of marked) lines
  pub reach : ShortJumpsReach lines
  pub far : NearJumpsAreFar lines

-- the code of lines that are laid out so
abbrev pub code_of : List Name → FlatRoutine → List MarkedLine → List Line → Code8086
code_of names r marked lines = record { name = r.name; far = r.far; frame = r.frame; code = assembled lines; refs = refs_at names (places_from 0 lines) marked }

-- The routines of a unit from one of them on, pointer the number of the next datum for a far pointer: their lines, laid out.
abbrev pub AreLaidOut : UnitCode → ℕ → List FlatRoutine → List (List Line) → Type 0
AreLaidOut unit pointer [] [] = Unit {0}
AreLaidOut unit pointer [] (lines ∷ rest) = ⊥
AreLaidOut unit pointer (r ∷ rs) [] = ⊥
AreLaidOut unit pointer (r ∷ rs) (lines ∷ rest) = IsLaidOut (marked_routine unit pointer (view_routine r)) lines × AreLaidOut unit (pointer + length (stored (view_routine r).body)) rs rest

-- how many bytes the code of all of them has
abbrev pub sizes : List (List Line) → ℕ
sizes [] = 0
sizes (lines ∷ rest) = code_size lines + sizes rest

abbrev pub codes_of : List Name → UnitCode → ℕ → List FlatRoutine → List (List Line) → List Code8086
codes_of names unit pointer [] layouts = []
codes_of names unit pointer (r ∷ rs) [] = []
codes_of names unit pointer (r ∷ rs) (lines ∷ rest) =
    code_of names r (marked_routine unit pointer (view_routine r)) lines ∷ codes_of names unit (pointer + length (stored (view_routine r).body)) rs rest

-- the routines whose far pointers a unit stores, in the order of its statements
abbrev pub all_stored : List FlatRoutine → List RoutineId
all_stored [] = []
all_stored (r ∷ rs) = stored (view_routine r).body ++ all_stored rs

-- ## Data

abbrev pub far_ref : List Name → ℕ → RoutineId → Ref
far_ref names offset id = record { offset = offset; kind = kind.FarRoutine; unit = name_in names id.unit; number = id.number }

-- the bytes that a datum begins with, and zeros up to its size; none where none are given
abbrev pub filled_up : ℕ → List ℕ → List ℕ
filled_up size [] = []
filled_up size (b ∷ bs) = filled size (b ∷ bs)

abbrev pub global_of : FlatDatum → Datum
global_of d = record { size = d.size; first = filled_up d.size d.first; refs = [] }

-- four bytes for a far pointer
abbrev pub pointer_of : List Name → RoutineId → Datum
pointer_of names id = record { size = 4; first = 0 ∷ 0 ∷ 0 ∷ 0 ∷ []; refs = far_ref names 0 id ∷ [] }

abbrev pub two_bytes : ℕ → List ℕ
two_bytes n = n % 256 ∷ n / 256 ∷ []

abbrev pub slot_refs : List Name → ℕ → List RoutineId → List Ref
slot_refs names offset [] = []
slot_refs names offset (id ∷ ids) = far_ref names offset id ∷ slot_refs names (offset + 4) ids

-- the size of an instance, its negative, and the far pointers
abbrev pub vmt_of : List Name → FlatVmt → Datum
vmt_of names v = record {
  size = 4 + 4 * length v.slots;
  first = two_bytes v.size ++ (two_bytes ((65536 - v.size) % 65536) ++ replicate (4 * length v.slots) 0);
  refs = slot_refs names 4 v.slots;
}

-- ## The whole

-- The object unit of a flat unit: the code of its routines, its data and behind them one for each far pointer that is stored, and its virtual method tables.
pub record ObjectFor (unit : FlatUnit) (object : ObjectUnit) : Type 0 where
  pub layouts : List (List Line)
  pub laid : AreLaidOut (view_unit unit) 0 unit.routines layouts
  pub small : sizes layouts ≤ 65520
  pub routines : object.routines ≡ codes_of unit.names (view_unit unit) 0 unit.routines layouts
  pub globals : object.globals ≡ map global_of unit.globals ++ map (pointer_of unit.names) (all_stored unit.routines)
  pub vmts : object.vmts ≡ map (vmt_of unit.names) unit.vmts

-- a routine returns over its arguments by a number of 16 bits
abbrev pub is_short : FlatRoutine → Bool
is_short r = nat_lt r.arguments 65536

abbrev pub has_short_arguments : FlatUnit → Bool
has_short_arguments unit = list_all is_short unit.routines

-- The code of a unit has so many bytes, more than a segment is to hold.
pub record IsTooLarge (unit : FlatUnit) (bytes : ℕ) : Type 0 where
  pub layouts : List (List Line)
  pub laid : AreLaidOut (view_unit unit) 0 unit.routines layouts
  pub many : 65520 < bytes
  pub count : bytes ≡ sizes layouts
