-- Where words are segments.
use Rattle.std.specs.Prelude.{ℕ, ◌+◌, Option, Some, None}
use Rattle.object_file.specs.declared.object_unit.object.Ref.{Ref}
use Rattle.object_file.specs.declared.object_unit.object.RefKind.{RefKind}
use Rattle.object_file.specs.declared.object_unit.object.RefKind.TheVariants.{FarRoutine, NearRoutine, DataOffset, DataSegment, Vmt, Runtime}

-- a far pointer has its segment in its second word
abbrev pub segment_place : RefKind → ℕ → Option ℕ
segment_place FarRoutine offset = Some (offset + 2)
segment_place Runtime offset = Some (offset + 2)
segment_place DataSegment offset = Some offset
segment_place NearRoutine offset = None
segment_place DataOffset offset = None
segment_place Vmt offset = None

-- where in its bytes a reference has the word that is a segment, if it has one
abbrev pub segment_word : Ref → Option ℕ
segment_word one = segment_place one.kind one.offset
