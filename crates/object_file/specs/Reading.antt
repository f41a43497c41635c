-- Reading an object unit from the front of what is left.
use Rattle.std.specs.Prelude.{ℕ, ◌+◌, Bool, nat_lt, nat_le, ◌&&◌, ◌||◌, ◌==◌, List, length, cond}
use Rattle.object_file.specs.declared.object_unit.object.RefKind.{RefKind}
use Rattle.object_file.specs.declared.object_unit.object.RefKind.TheVariants.{FarRoutine, NearRoutine, DataOffset, DataSegment, Vmt, Runtime}
use Rattle.object_file.specs.declared.object_unit.object.Ref.{Ref}
use Rattle.object_file.specs.declared.object_unit.object.Datum.{Datum}
use Rattle.object_file.specs.declared.object_unit.object.Code8086.{Code8086}
use Rattle.object_file.specs.declared.object_unit.object.ObjectUnit.{ObjectUnit}
use Rattle.object_file.specs.object_unit.Widths.{width_of}
use Rattle.object_file.specs.file_parts.Parts.{Reader, ◌▷◌, ruled, followed, made, any, byte_at, long_at, truth_at, bytes_where, list_where, name_at}
use Rattle.object_file.specs.Text.{ref_end, room_behind}

-- the kind with a number below 6
abbrev pub kind_of : ℕ → RefKind
kind_of number =
    cond (number == 0) FarRoutine
    (cond (number == 1) NearRoutine
    (cond (number == 2) DataOffset
    (cond (number == 3) DataSegment
    (cond (number == 4) Vmt Runtime))))

unfoldable pub kind_at : Reader RefKind
kind_at bytes = made kind_of (ruled (λ number. nat_lt number 6) byte_at) bytes

abbrev pub ref_of : ℕ × (RefKind × (List ℕ × ℕ)) → Ref
ref_of parts = record { offset = parts.0; kind = parts.1.0; unit = parts.1.1.0; number = parts.1.1.1 }

-- A reference begins no earlier than the one before it ends, and ends inside the bytes.
unfoldable pub ref_at : ℕ → ℕ → Reader Ref
ref_at size least bytes =
    made ref_of (followed (ruled (λ offset. nat_le least offset) long_at) (λ offset. ruled (λ kind. nat_le (offset + width_of kind) size) kind_at ▷ (name_at ▷ long_at))) bytes

unfoldable pub refs_at : ℕ → Reader (List Ref)
refs_at size bytes = list_where any (ref_at size) (λ _ one. ref_end one) 0 bytes

abbrev pub datum_of : ℕ × (List ℕ × List Ref) → Datum
datum_of parts = record { size = parts.0; first = parts.1.0; refs = parts.1.1 }

abbrev pub is_first_count : ℕ → ℕ → Bool
is_first_count size count = count == 0 || count == size

unfoldable pub datum_at : Reader Datum
datum_at bytes = made datum_of (followed long_at (λ size. followed (bytes_where (is_first_count size)) (λ first. refs_at (length first)))) bytes

abbrev pub code_of : List ℕ × (Bool × (ℕ × (List ℕ × List Ref))) → Code8086
code_of parts = record { name = parts.0; far = parts.1.0; frame = parts.1.1.0; code = parts.1.1.1.0; refs = parts.1.1.1.1 }

abbrev pub is_code_count : ℕ → ℕ → Bool
is_code_count room count = nat_le 6 count && nat_le count room

unfoldable pub code_at : ℕ → Reader Code8086
code_at room bytes = made code_of (name_at ▷ (truth_at ▷ (long_at ▷ followed (bytes_where (is_code_count room)) (λ code. refs_at (length code))))) bytes

-- at least so many data, and at least so many routines
unfoldable pub data_at : ℕ → Reader (List Datum)
data_at least bytes = list_where (λ count. nat_le least count) (λ (_ : Unit {0}). datum_at) (λ state _. state) tt bytes

unfoldable pub codes_at : ℕ → Reader (List Code8086)
codes_at least bytes = list_where (λ count. nat_le least count) code_at room_behind 65520 bytes

abbrev pub object_of : List Datum × (List Datum × List Code8086) → ObjectUnit
object_of parts = record { globals = parts.0; vmts = parts.1.0; routines = parts.1.1 }

unfoldable pub object_at : ℕ → ℕ → Reader ObjectUnit
object_at globals routines bytes = made object_of (data_at globals ▷ (data_at 0 ▷ codes_at routines)) bytes
