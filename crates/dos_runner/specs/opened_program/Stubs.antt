-- Stubs as the image of a program holds them, while their overlays are out.
use Rattle.std.specs.Prelude.{◌≡◌, ℕ, ◌+◌, ◌*◌, ◌<◌, ◌≤◌, List, length, slice_index}
use Rattle.mz_file.specs.Words.{word_at, long_at}
use Rattle.overlay_file.specs.declared.overlay.OvrEntry.{OvrEntry}

-- The load segment, the next stub, and what is filled up to the entries.
abbrev pub AreZeros : List ℕ → ℕ → Type 0
AreZeros image place = (k : ℕ) → k < 18 → slice_index image (place + k) ≡ 0

-- An entry that traps: INT 3Fh, the offset of the routine, and a zero.
pub record TrapsAt (image : List ℕ) (place : ℕ) : Type 0 where
  pub interrupt : word_at image place ≡ 0x3FCD
  pub filled : slice_index image (place + 4) ≡ 0

abbrev pub AreTraps : List ℕ → ℕ → ℕ → Type 0
AreTraps image place entries = (e : ℕ) → e < entries → TrapsAt image (place + 5 * e)

-- The stub at a segment, which counts from the image's start, is that of this overlay of the file. It lies inside the image and
-- its segment, no return is saved in it, and its overlay is out.
pub record IsStubOf (image : List ℕ) (segment : ℕ) (overlay : OvrEntry) : Type 0 where
  pub inside : 16 * segment + 32 + 5 * word_at image (16 * segment + 12) ≤ length image
  pub room : 32 + 5 * word_at image (16 * segment + 12) ≤ 65536
  pub interrupt : word_at image (16 * segment) ≡ 0x3FCD
  pub saved : word_at image (16 * segment + 2) ≡ 0
  pub place : long_at image (16 * segment + 4) ≡ overlay.place
  pub size : word_at image (16 * segment + 8) ≡ overlay.size
  pub fixups : word_at image (16 * segment + 10) ≡ overlay.fixups
  pub zeros : AreZeros image (16 * segment + 14)
  pub traps : AreTraps image (16 * segment + 32) (word_at image (16 * segment + 12))
