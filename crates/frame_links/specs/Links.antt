-- The links of frames: what the word at a link says, and where return pairs stand.
use Rattle.std.specs.Prelude.{ℕ, ◌+◌, ◌-◌, ◌%◌, ◌==◌, ◌||◌, not, Bool, true, false, if◌then◌else◌, List, [], ◌∷◌, ◌++◌}

-- A frame of the stack: the offset of its link, and whether it is a far routine's.
pub record Link : Type 0 where
  pub at : ℕ
  pub far : Bool

-- What the word at a link says: where the next link lies, and whether the frame is a far routine's.
pub record LinkWord : Type 0 where
  pub next : ℕ
  pub far : Bool

-- Where frames are marked, the lowest bit of the word is 1 in the frames of far routines, and the next link is the word without
-- it. Where they aren't, the word is the next link, and every frame is taken for a far routine's.
abbrev pub link_word : Bool → ℕ → LinkWord
link_word marked word = record {
  next = if marked then word - word % 2 else word;
  far = not marked || (word % 2 == 1);
}

-- a place, where there is one
abbrev pub place_if : Bool → ℕ → List ℕ
place_if there place = if there then place ∷ [] else []

-- the return pair of a far routine stands above its link
abbrev pub pair_place : ℕ → ℕ
pair_place link = (link + 2) % 65536

-- the places of the pairs above links; the frame of a near routine has none
abbrev pub pair_places : List Link → List ℕ
pair_places [] = []
pair_places (link ∷ links) = place_if link.far (pair_place link.at) ++ pair_places links

-- the bytes of a link's word and of the return address above it
abbrev pub room_of : Bool → ℕ
room_of true = 6
room_of false = 4

-- where the room above a link ends: at the next one, or at the segment's end
abbrev pub room_before : List Link → ℕ
room_before [] = 65536
room_before (next ∷ links) = next.at
