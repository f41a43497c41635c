-- Which part of a program a reference names.
use Rattle.std.specs.Prelude.{ℕ, ◌+◌, ◌-◌, ◌/◌, ◌%◌, ◌==◌, ◌&&◌, Bool, false, not, nat_le, nat_lt, if◌then◌else◌, List, [], ◌∷◌, length, Option, Some, None, slice_get, slice_index_or}
use Rattle.type_layout.specs.Words.{same_bytes}
use Rattle.object_file.specs.declared.object_unit.object.Code8086.{Code8086}
use Rattle.object_file.specs.declared.object_unit.object.Datum.{Datum}
use Rattle.object_file.specs.declared.object_unit.object.Ref.{Ref}
use Rattle.object_file.specs.declared.object_unit.object.RefKind.{RefKind}
use Rattle.object_file.specs.declared.object_unit.object.RefKind.TheVariants.{FarRoutine, NearRoutine, DataOffset, DataSegment, Vmt, Runtime}
use Rattle.smart_linker.specs.declared.part.Kind.{Kind}
use Rattle.smart_linker.specs.declared.part.Kind.TheVariants as kinds
use Rattle.smart_linker.specs.declared.part.Part.{Part}
use Rattle.smart_linker.specs.declared.unit.LinkUnit.{LinkUnit}

abbrev pub Name : Type 0
Name = List ℕ

-- ## Units

-- the unit at a place; the kernel stands behind the last one
abbrev pub unit_at : List LinkUnit → LinkUnit → ℕ → LinkUnit
unit_at units kernel place = slice_index_or units place kernel

-- Of the runtime's three units, which are the last, the first two are known by name to none.
abbrev pub is_hidden : ℕ → ℕ → Bool
is_hidden count place = nat_le (count - 3) place && nat_lt (place - (count - 3)) 2

-- the first unit from a place on that others know by a name
abbrev pub known_from : ℕ → ℕ → List LinkUnit → Name → Option ℕ
known_from count place [] name = None
known_from count place (unit ∷ units) name =
    if not (is_hidden count place) && same_bytes unit.name name then Some place else known_from count (place + 1) units name

-- the place of the unit that the one at a place knows by a name: itself by its own
abbrev pub place_of : List LinkUnit → LinkUnit → ℕ → Name → Option ℕ
place_of units kernel own name =
    if same_bytes (unit_at units kernel own).name name then Some own else known_from (length units) 0 units name

-- ## The runtime's numbers

-- the kernel has the error routine, and those of two effects of the machine
abbrev pub kernel_routine : ℕ → Option ℕ
kernel_routine number = if number == 0 then Some 1 else (if number == 3 then Some 2 else (if number == 4 then Some 3 else None))

-- how far from the last unit the one is that has the routines of such a number
abbrev pub runtime_distance : ℕ → ℕ
runtime_distance number = if number / 256 == 1 then 2 else (if number / 256 == 2 then 1 else 0)

abbrev pub routine_part : ℕ → ℕ → Part
routine_part unit number = record { kind = kinds.Routine; unit = unit; number = number }

abbrev pub kernel_or_unit : ℕ → ℕ → Option ℕ → Option Part
kernel_or_unit count number (Some routine) = Some (routine_part count routine)
kernel_or_unit count number None =
    if nat_lt (runtime_distance number) count then Some (routine_part (count - 1 - runtime_distance number) (number % 256)) else None

abbrev pub runtime_part : List LinkUnit → ℕ → Option Part
runtime_part units number = kernel_or_unit (length units) number (kernel_routine number)

-- ## What is there

abbrev pub part_in : Kind → ℕ → Option ℕ → Option Part
part_in kind number None = None
part_in kind number (Some unit) = Some (record { kind = kind; unit = unit; number = number })

abbrev pub named_part : List LinkUnit → LinkUnit → ℕ → Ref → Kind → Option Part
named_part units kernel own one kind = part_in kind one.number (place_of units kernel own one.unit)

abbrev pub named_by : List LinkUnit → LinkUnit → ℕ → Ref → RefKind → Option Part
named_by units kernel own one FarRoutine = named_part units kernel own one kinds.Routine
named_by units kernel own one NearRoutine = named_part units kernel own one kinds.Routine
named_by units kernel own one DataOffset = named_part units kernel own one kinds.Datum
named_by units kernel own one Vmt = named_part units kernel own one kinds.Vmt
named_by units kernel own one Runtime = runtime_part units one.number
named_by units kernel own one DataSegment = None

abbrev pub is_in : LinkUnit → Kind → ℕ → Bool
is_in unit kinds.Routine number = nat_lt number (length unit.object.routines)
is_in unit kinds.Datum number = nat_lt number (length unit.object.globals)
is_in unit kinds.Vmt number = nat_lt number (length unit.object.vmts)

abbrev pub is_there : List LinkUnit → LinkUnit → Part → Bool
is_there units kernel part = is_in (unit_at units kernel part.unit) part.kind part.number

abbrev pub is_far_code : Option Code8086 → Bool
is_far_code None = false
is_far_code (Some code) = code.far

abbrev pub is_far : List LinkUnit → LinkUnit → Part → Bool
is_far units kernel part = is_far_code (slice_get (unit_at units kernel part.unit).object.routines part.number)

-- A far pointer leads to a far routine, a near distance to a routine of the unit itself.
abbrev pub fits : List LinkUnit → LinkUnit → ℕ → RefKind → Part → Bool
fits units kernel own FarRoutine part = is_far units kernel part
fits units kernel own Runtime part = is_far units kernel part
fits units kernel own NearRoutine part = (part.unit == own) && is_there units kernel part
fits units kernel own DataOffset part = is_there units kernel part
fits units kernel own Vmt part = is_there units kernel part
fits units kernel own DataSegment part = is_there units kernel part

abbrev pub if_fits : (Part → Bool) → Option Part → Option Part
if_fits test None = None
if_fits test (Some part) = if test part then Some part else None

-- the part that a reference of the unit at a place names, if it can be named so
abbrev pub named : List LinkUnit → LinkUnit → ℕ → Ref → Option Part
named units kernel own one = if_fits (fits units kernel own one.kind) (named_by units kernel own one one.kind)

-- ## References

abbrev pub code_refs : Option Code8086 → List Ref
code_refs None = []
code_refs (Some code) = code.refs

abbrev pub datum_refs : Option Datum → List Ref
datum_refs None = []
datum_refs (Some datum) = datum.refs

abbrev pub refs_in : LinkUnit → Kind → ℕ → List Ref
refs_in unit kinds.Routine number = code_refs (slice_get unit.object.routines number)
refs_in unit kinds.Datum number = datum_refs (slice_get unit.object.globals number)
refs_in unit kinds.Vmt number = datum_refs (slice_get unit.object.vmts number)

-- the references of a part
abbrev pub refs_of : List LinkUnit → LinkUnit → Part → List Ref
refs_of units kernel part = refs_in (unit_at units kernel part.unit) part.kind part.number
