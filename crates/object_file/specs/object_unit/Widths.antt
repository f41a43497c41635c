-- How many bytes a reference fills.
use Rattle.std.specs.Prelude.{ℕ}
use Rattle.object_file.specs.declared.object_unit.object.RefKind.{RefKind}
use Rattle.object_file.specs.declared.object_unit.object.RefKind.TheVariants.{FarRoutine, NearRoutine, DataOffset, DataSegment, Vmt, Runtime}

-- a far pointer has four bytes, a word two
abbrev pub width_of : RefKind → ℕ
width_of FarRoutine = 4
width_of NearRoutine = 2
width_of DataOffset = 2
width_of DataSegment = 2
width_of Vmt = 2
width_of Runtime = 4
