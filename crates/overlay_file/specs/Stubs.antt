-- A stub: the segment that stands for an overlay's code in the image, as the memory of the machine holds it.
use Rattle.std.specs.Prelude.{◌≡◌, ℕ, ◌+◌, ◌*◌, ◌≤◌, ◌<◌, ◌==◌, MatchBool, List}
use Rattle.cpu_8086.specs.Memory.{load_byte, load_word}
use Rattle.overlay_file.specs.declared.overlay.Stub.{Stub}

-- The fields: a place in the file has four bytes, and the others two.
abbrev pub stub_of : List ℕ → ℕ → Stub
stub_of memory segment = record {
  saved = load_word memory segment 2;
  place = load_word memory segment 4 + 65536 * load_word memory segment 6;
  size = load_word memory segment 8;
  fixups = load_word memory segment 10;
  entries = load_word memory segment 12;
  load = load_word memory segment 14;
  next = load_word memory segment 16;
}

-- The entries stand behind the 32 bytes of the fields, five bytes each.
abbrev pub entry_offset : ℕ → ℕ
entry_offset entry = 32 + 5 * entry

-- An entry of an overlay that is out: INT 3Fh, the offset of the routine, and a zero.
pub record IsTrap (memory : List ℕ) (segment at : ℕ) : Type 0 where
  pub interrupt : load_word memory segment at ≡ 0x3FCD
  pub filled : load_byte memory segment (at + 4) ≡ 0

-- An entry of one that is loaded: a far jump to the routine in the segment where its code stands.
pub record IsJump (memory : List ℕ) (segment load at : ℕ) : Type 0 where
  pub jump : load_byte memory segment at ≡ 0xEA
  pub target : load_word memory segment (at + 3) ≡ load

abbrev pub IsEntry : List ℕ → ℕ → ℕ → ℕ → Type 0
IsEntry memory segment load at = MatchBool (load == 0) (IsTrap memory segment at) (IsJump memory segment load at)

-- zeros behind the fields, up to the entries
abbrev pub AreZeros : List ℕ → ℕ → Type 0
AreZeros memory segment = (k : ℕ) → k < 14 → load_byte memory segment (18 + k) ≡ 0

abbrev pub AreEntries : List ℕ → ℕ → ℕ → ℕ → Type 0
AreEntries memory segment load entries = (e : ℕ) → e < entries → IsEntry memory segment load (entry_offset e)

-- The bytes are those of a stub, which lies within its segment: INT 3Fh in front, and an entry for each that it counts.
-- Its overlay is loaded where its load segment isn't 0.
pub record IsStub (memory : List ℕ) (segment : ℕ) : Type 0 where
  pub interrupt : load_word memory segment 0 ≡ 0x3FCD
  pub zeros : AreZeros memory segment
  pub room : entry_offset (load_word memory segment 12) ≤ 65536
  pub each : AreEntries memory segment (load_word memory segment 14) (load_word memory segment 12)
