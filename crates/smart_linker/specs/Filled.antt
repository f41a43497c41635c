-- Bytes with their references filled.
use Rattle.std.specs.Prelude.{ℕ, ◌+◌, ◌-◌, ◌*◌, ◌/◌, ◌%◌, nat_lt, if◌then◌else◌, List, [], ◌∷◌, length, Option, Some, None, slice_set, slice_index_or}
use Rattle.object_file.specs.declared.object_unit.object.Ref.{Ref}
use Rattle.object_file.specs.declared.object_unit.object.RefKind.{RefKind}
use Rattle.object_file.specs.declared.object_unit.object.RefKind.TheVariants.{FarRoutine, NearRoutine, DataOffset, DataSegment, Vmt, Runtime}
use Rattle.smart_linker.specs.declared.filling.Filling.{Filling}
use Rattle.smart_linker.specs.declared.filling.Filling.TheVariants.{Word, Pointer}
use Rattle.smart_linker.specs.declared.part.Part.{Part}
use Rattle.smart_linker.specs.declared.placement.Placement.{Placement}
use Rattle.smart_linker.specs.declared.unit.LinkUnit.{LinkUnit}
use Rattle.smart_linker.specs.Addresses.{near_of, far_of, offset_of}
use Rattle.smart_linker.specs.Naming.{named}

-- a byte, a word and a filling in the place of others
abbrev pub with_byte : List ℕ → ℕ → ℕ → List ℕ
with_byte bytes at byte = if nat_lt at (length bytes) then slice_set bytes at byte else bytes

abbrev pub with_word : List ℕ → ℕ → ℕ → List ℕ
with_word bytes at word = with_byte (with_byte bytes at (word % 256)) (at + 1) (word / 256)

abbrev pub with_filling : List ℕ → ℕ → Filling → List ℕ
with_filling bytes at (Word word) = with_word bytes at word
with_filling bytes at (Pointer far) = with_word (with_word bytes at far.offset) (at + 2) far.segment

abbrev pub word_in : List ℕ → ℕ → ℕ
word_in bytes at = slice_index_or bytes at 0 + 256 * slice_index_or bytes (at + 1) 0

-- What comes to stand at a reference to a part, where this word stood and the bytes begin at an offset. A datum's offset is added to the word.
abbrev pub filling_by : List LinkUnit → LinkUnit → Placement → ℕ → ℕ → Part → ℕ → RefKind → Filling
filling_by units kernel places begin offset part there FarRoutine = Pointer (far_of units kernel places part)
filling_by units kernel places begin offset part there Runtime = Pointer (far_of units kernel places part)
filling_by units kernel places begin offset part there NearRoutine = Word ((near_of places part + 65536 - (begin + offset + 2)) % 65536)
filling_by units kernel places begin offset part there DataOffset = Word ((offset_of places part + there) % 65536)
filling_by units kernel places begin offset part there Vmt = Word (offset_of places part)
filling_by units kernel places begin offset part there DataSegment = Word places.layout.data_segment

-- the data segment, where no part is named
abbrev pub filling_if : List LinkUnit → LinkUnit → Placement → ℕ → Ref → ℕ → Option Part → Filling
filling_if units kernel places begin one there None = Word places.layout.data_segment
filling_if units kernel places begin one there (Some part) = filling_by units kernel places begin one.offset part there one.kind

-- bytes of the unit at a place, that begin at an offset, with one reference filled, and with all
abbrev pub filled : List LinkUnit → LinkUnit → Placement → ℕ → ℕ → List ℕ → Ref → List ℕ
filled units kernel places own begin bytes one =
    with_filling bytes one.offset (filling_if units kernel places begin one (word_in bytes one.offset) (named units kernel own one))

abbrev pub resolved : List LinkUnit → LinkUnit → Placement → ℕ → ℕ → List ℕ → List Ref → List ℕ
resolved units kernel places own begin bytes [] = bytes
resolved units kernel places own begin bytes (one ∷ refs) = resolved units kernel places own begin (filled units kernel places own begin bytes one) refs
