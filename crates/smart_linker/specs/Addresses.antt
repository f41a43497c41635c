-- Where parts lie, each segment counted from the image's start.
use Rattle.std.specs.Prelude.{ℕ, ◌+◌, ◌*◌, ◌%◌, if◌then◌else◌, List, Option, Some, None, slice_get, slice_index_or}
use Rattle.cpu_8086.specs.declared.registers.Far.{Far}
use Rattle.smart_linker.specs.declared.part.Kind.{Kind}
use Rattle.smart_linker.specs.declared.part.Kind.TheVariants as kinds
use Rattle.smart_linker.specs.declared.part.Part.{Part}
use Rattle.smart_linker.specs.declared.placement.Placement.{Placement}
use Rattle.smart_linker.specs.declared.sizes.UnitSums.{UnitSums}
use Rattle.smart_linker.specs.declared.unit.LinkUnit.{LinkUnit}
use Rattle.smart_linker.specs.Naming.{unit_at}

-- the word at a place of a list of numbers; 0 behind the list
abbrev pub word_at : List ℕ → ℕ → ℕ
word_at numbers place = slice_index_or numbers place 0 % 65536

abbrev pub sums_at : Placement → ℕ → Option UnitSums
sums_at places unit = slice_get places.measured.units unit

abbrev pub near_in : ℕ → Option UnitSums → ℕ
near_in number None = 0
near_in number (Some sums) = word_at sums.code.places number

-- an entry has five bytes, and 32 bytes stand before the first
abbrev pub entry_in : ℕ → Option UnitSums → ℕ
entry_in number None = 0
entry_in number (Some sums) = (word_at sums.entries.places number * 5 % 65536 + 32) % 65536

abbrev pub offset_in : Kind → ℕ → Option UnitSums → ℕ
offset_in kind number None = 0
offset_in kinds.Routine number (Some sums) = word_at sums.globals number
offset_in kinds.Datum number (Some sums) = word_at sums.globals number
offset_in kinds.Vmt number (Some sums) = word_at sums.vmts number

-- the offset of a routine in the code of its unit, and of its entry in the stub of that
abbrev pub near_of : Placement → Part → ℕ
near_of places part = near_in part.number (sums_at places part.unit)

abbrev pub entry_of : Placement → Part → ℕ
entry_of places part = entry_in part.number (sums_at places part.unit)

-- the segment of a unit's code, or of its stub where it is overlaid
abbrev pub segment_of : Placement → ℕ → ℕ
segment_of places unit = slice_index_or places.segments.items unit 0

-- the far pointer to a routine: to its entry in the stub where its unit is overlaid, else to itself
abbrev pub far_of : List LinkUnit → LinkUnit → Placement → Part → Far
far_of units kernel places part = record {
  offset = if (unit_at units kernel part.unit).overlaid then entry_of places part else near_of places part;
  segment = segment_of places part.unit;
}

-- the offset of a datum or a virtual method table in the data segment
abbrev pub offset_of : Placement → Part → ℕ
offset_of places part = offset_in part.kind part.number (sums_at places part.unit)
