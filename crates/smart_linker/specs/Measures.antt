-- What the parts that are reached take, and where each lies in what holds it. A part that isn't reached takes no room.
use Rattle.std.specs.Prelude.{ℕ, ◌+◌, ◌&&◌, Bool, false, if◌then◌else◌, List, [], ◌∷◌, length, Option, Some, None, slice_index_or}
use Rattle.object_file.specs.declared.object_unit.object.Code8086.{Code8086}
use Rattle.object_file.specs.declared.object_unit.object.Datum.{Datum}
use Rattle.object_file.specs.declared.object_unit.object.Ref.{Ref}
use Rattle.link_layout.specs.Sums.{even, total, sums_from}
use Rattle.link_layout.specs.declared.layout.Sizes.{Sizes}
use Rattle.link_layout.specs.declared.sums.Sums.{Sums}
use Rattle.smart_linker.specs.declared.reached.UnitMarks.{UnitMarks}
use Rattle.smart_linker.specs.declared.sizes.Measured.{Measured}
use Rattle.smart_linker.specs.declared.sizes.UnitSums.{UnitSums}
use Rattle.smart_linker.specs.declared.unit.LinkUnit.{LinkUnit}
use Rattle.smart_linker.specs.declared.unit.Setting.{Setting}
use Rattle.smart_linker.specs.Naming.{unit_at}
use Rattle.smart_linker.specs.Segments.{segment_word}

abbrev pub is_marked : List Bool → ℕ → Bool
is_marked marks number = slice_index_or marks number false

abbrev pub size_if : Bool → ℕ → ℕ
size_if is_reached size = if is_reached then size else 0

-- the bytes of each routine, from one of a number on
abbrev pub code_sizes : List Bool → ℕ → List Code8086 → List ℕ
code_sizes marks number [] = []
code_sizes marks number (code ∷ codes) = size_if (is_marked marks number) (length code.code) ∷ code_sizes marks (number + 1) codes

-- whether each has an entry in the stub of its unit: it is far
abbrev pub entry_counts : List Bool → ℕ → List Code8086 → List ℕ
entry_counts marks number [] = []
entry_counts marks number (code ∷ codes) = size_if (is_marked marks number && code.far) 1 ∷ entry_counts marks (number + 1) codes

-- the bytes of each datum, made even
abbrev pub data_sizes : List Bool → ℕ → List Datum → List ℕ
data_sizes marks number [] = []
data_sizes marks number (datum ∷ rest) = size_if (is_marked marks number) (even datum.size) ∷ data_sizes marks (number + 1) rest

abbrev pub globals_of : LinkUnit → UnitMarks → List ℕ
globals_of unit marks = data_sizes marks.globals.items 0 unit.object.globals

abbrev pub vmts_of : LinkUnit → UnitMarks → List ℕ
vmts_of unit marks = data_sizes marks.vmts.items 0 unit.object.vmts

abbrev pub sums_of : List ℕ → Sums
sums_of sizes = record { places = sums_from 0 sizes; end = total sizes }

-- where the parts of a unit lie, whose first datum has this offset
abbrev pub unit_sums : LinkUnit → UnitMarks → ℕ → UnitSums
unit_sums unit marks first = record {
  code = sums_of (code_sizes marks.routines.items 0 unit.object.routines);
  entries = sums_of (entry_counts marks.routines.items 0 unit.object.routines);
  globals = sums_from first (globals_of unit marks);
  vmts = sums_from (first + total (globals_of unit marks)) (vmts_of unit marks);
}

-- the offset behind its last datum
abbrev pub unit_end : LinkUnit → UnitMarks → ℕ → ℕ
unit_end unit marks first = first + total (globals_of unit marks) + total (vmts_of unit marks)

-- ## All units

-- where the parts of each unit lie, from the one at a place on, whose first datum has this offset, and the offset behind all data
abbrev pub measured_from : List LinkUnit → LinkUnit → ℕ → ℕ → List UnitMarks → List UnitSums
measured_from units kernel place first [] = []
measured_from units kernel place first (marks ∷ rest) =
    unit_sums (unit_at units kernel place) marks first ∷ measured_from units kernel (place + 1) (unit_end (unit_at units kernel place) marks first) rest

abbrev pub data_end : List LinkUnit → LinkUnit → ℕ → ℕ → List UnitMarks → ℕ
data_end units kernel place first [] = first
data_end units kernel place first (marks ∷ rest) = data_end units kernel (place + 1) (unit_end (unit_at units kernel place) marks first) rest

-- the bytes of the code of each unit that is resident, and the number of entries in the stub of each other one
abbrev pub resident_from : List LinkUnit → LinkUnit → ℕ → List UnitSums → List ℕ
resident_from units kernel place [] = []
resident_from units kernel place (sums ∷ rest) =
    if (unit_at units kernel place).overlaid then resident_from units kernel (place + 1) rest else sums.code.end ∷ resident_from units kernel (place + 1) rest

abbrev pub entries_from : List LinkUnit → LinkUnit → ℕ → List UnitSums → List ℕ
entries_from units kernel place [] = []
entries_from units kernel place (sums ∷ rest) =
    if (unit_at units kernel place).overlaid then sums.entries.end ∷ entries_from units kernel (place + 1) rest else entries_from units kernel (place + 1) rest

-- ## Words that are segments

abbrev pub one_if : Option ℕ → ℕ
one_if None = 0
one_if (Some place) = 1

abbrev pub words_in : List Ref → ℕ
words_in [] = 0
words_in (one ∷ refs) = one_if (segment_word one) + words_in refs

-- those of routines and of data, from the part of a number on
abbrev pub code_words : List Bool → ℕ → List Code8086 → ℕ
code_words marks number [] = 0
code_words marks number (code ∷ codes) = size_if (is_marked marks number) (words_in code.refs) + code_words marks (number + 1) codes

abbrev pub data_words : List Bool → ℕ → List Datum → ℕ
data_words marks number [] = 0
data_words marks number (datum ∷ rest) = size_if (is_marked marks number) (words_in datum.refs) + data_words marks (number + 1) rest

-- those of a unit in the image: an overlaid one's code has its own list of them
abbrev pub unit_words : LinkUnit → UnitMarks → ℕ
unit_words unit marks =
    (if unit.overlaid then 0 else code_words marks.routines.items 0 unit.object.routines)
    + (data_words marks.globals.items 0 unit.object.globals + data_words marks.vmts.items 0 unit.object.vmts)

abbrev pub words_from : List LinkUnit → LinkUnit → ℕ → List UnitMarks → ℕ
words_from units kernel place [] = 0
words_from units kernel place (marks ∷ rest) = unit_words (unit_at units kernel place) marks + words_from units kernel (place + 1) rest

-- ## The whole

-- where all parts lie in what holds them, and the size of the data segment
abbrev pub measured_of : List LinkUnit → LinkUnit → List UnitMarks → Measured
measured_of units kernel marks = record { units = measured_from units kernel 0 0 marks; bytes = data_end units kernel 0 0 marks }

-- what they take; the heap's segment is one word more
abbrev pub sizes_of : List LinkUnit → LinkUnit → Setting → List UnitMarks → Sizes
sizes_of units kernel setting marks = record {
  resident = resident_from units kernel 0 (measured_from units kernel 0 0 marks);
  entries = entries_from units kernel 0 (measured_from units kernel 0 0 marks);
  bytes = data_end units kernel 0 0 marks;
  stack = setting.stack;
  heap = setting.heap;
  relocations = 1 + words_from units kernel 0 marks;
}
