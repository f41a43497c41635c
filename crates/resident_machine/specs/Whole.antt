-- What holds of each state that a run comes to, with overlays or without: where the return pairs stand, and what they lead
-- to.
use Rattle.std.specs.Prelude.{◌≡◌, ℕ, ◌+◌, ◌%◌, ◌<◌, Bool, true, false, IsTrue, List, [], ◌∷◌, Some, length}
use Rattle.std.specs.List.{AllByRecursion}
use Rattle.cpu_8086.specs.Memory.{address, next_offset}
use Rattle.resident_machine.specs.Cells.{Known, Kept, Paired, Cells}
use Rattle.resident_machine.specs.Framed.{MissesWord}
use Rattle.resident_machine.specs.Program.{Segment, Image, Overlay, Program, code_of}
use Rattle.resident_machine.specs.State.{Record, ResidentState}

-- the offsets in SS of the words of return pairs, and of half a one
abbrev pub offsets_of : List Record → List ℕ
offsets_of [] = []
offsets_of (x ∷ others) = x.place ∷ (x.place + 2) % 65536 ∷ offsets_of others

abbrev pub half_offsets : Bool → ℕ → List ℕ → List ℕ
half_offsets true sp offsets = sp ∷ offsets
half_offsets false sp offsets = offsets

-- The bytes of the word are a return pair's.
pub record IsPaired (ss : ℕ) (cells : Cells) (offset : ℕ) : Type 0 where
  pub fits : offset < 65536
  pub low : cells (address ss offset) ≡ Paired
  pub high : cells (address ss (next_offset offset)) ≡ Paired

-- two words of SS share no byte
pub record MissesOffset (ss offset other : ℕ) : Type 0 where
  pub low : MissesWord (address ss other) ss offset
  pub high : MissesWord (address ss (next_offset other)) ss offset

abbrev pub ArePaired : ℕ → Cells → List ℕ → Type 0
ArePaired ss cells [] = Unit {0}
ArePaired ss cells (offset ∷ others) =
    IsPaired ss cells offset × AllByRecursion (MissesOffset ss offset) others × ArePaired ss cells others

-- the segment names code
abbrev pub IsNamed : Program → Segment → Type 0
IsNamed p segment = (code : List ℕ) × (code_of p segment ≡ Some code)

abbrev pub IsImage : Segment → Type 0
IsImage (Image number) = Unit {0}
IsImage (Overlay number) = ⊥

-- no overlay was ever entered that is not left
pub record IsOutside (r : ResidentState) : Type 0 where
  pub cs : IsImage r.cs
  pub records : AllByRecursion (λ (x : Record). IsImage x.segment) r.records

-- A return leads to code, and never to the first byte of an overlay.
pub record IsReturn (p : Program) (x : Record) : Type 0 where
  pub named : IsNamed p x.segment
  pub fits : x.offset < 65536
  pub positive : (overlay : ℕ) → x.segment ≡ Overlay overlay → 0 < x.offset

-- The code of an overlay does not fill a segment.
abbrev pub HasSmallOverlays : Program → Type 0
HasSmallOverlays p = (overlay : ℕ) (code : List ℕ) → code_of p (Overlay overlay) ≡ Some code → length code < 65536

-- CS and the return pairs lead to code. The bytes of pairs stand apart from one another and from what is kept, which stays
-- kept. As long as the installed flag is 0, no overlay was entered.
pub record IsWhole (p : Program) (kept : ℕ → Bool) (r : ResidentState) : Type 0 where
  pub named : IsNamed p r.cs
  pub returns : AllByRecursion (IsReturn p) r.records
  pub stays : (place : ℕ) → IsTrue (kept place) → r.cells place ≡ Kept
  pub paired : ArePaired r.registers.ss r.cells (half_offsets r.half r.registers.sp (offsets_of r.records))
  pub outside : r.cells p.installed ≡ Known 0 → IsOutside r
