-- The chain of frames, as a service of overlays finds it: the saved words of BP are fixed, and above those of far routines stand records.
use Rattle.std.specs.Prelude.{◌≡◌, ℕ, ◌+◌, ◌*◌, ◌/◌, ◌%◌, ◌<◌, ◌≤◌, true, List, [], ◌∷◌, Option, Some}
use Rattle.frame_links.specs.Links.{Link, link_word, pair_places, room_of, room_before}
use Rattle.resident_machine.specs.Framed.{places_of}
use Rattle.statement_simulation.specs.flow.Sites.{World, Live}

-- At this link the word is fixed, and says whether the frame is a far routine's. There is room for the word and the return address above.
pub record IsFixedLink (fixed : ℕ → Option ℕ) (base : ℕ) (link : Link) (word : ℕ) (links : List Link) : Type 0 where
  pub positive : 0 < link.at
  pub top : link.at + room_of link.far ≤ 65536
  pub inside : base + link.at + room_of link.far ≤ 1048576
  pub small : word < 65536
  pub low : fixed (base + link.at) ≡ Some (word % 256)
  pub high : fixed (base + link.at + 1) ≡ Some (word / 256)
  pub far : link.far ≡ (link_word true word).far
  pub room : link.at + room_of link.far ≤ room_before links

-- From one offset on these are the links, each of which leads to the next, and 0 is the last.
abbrev pub AreFixedLinks : (ℕ → Option ℕ) → ℕ → ℕ → List Link → Type 0
AreFixedLinks fixed base at [] = at ≡ 0
AreFixedLinks fixed base at (link ∷ links) =
    (at ≡ link.at) × (word : ℕ) × IsFixedLink fixed base link word links × AreFixedLinks fixed base (link_word true word).next links

-- Frames are marked. The links that BP leads to in an activation are fixed, and above those of far routines stand the return addresses. BP and SP are even, so that the next link can be marked.
pub record IsChained (w : World) (live : Live) : Type 0 where
  pub marked : w.machine.marked ≡ true
  pub links : List Link
  pub chain : AreFixedLinks live.fixed (16 * w.choice.stack_segment) live.frame.bp links
  pub places : places_of live.records ≡ pair_places links
  pub even_bp : live.frame.bp % 2 ≡ 0
  pub even_sp : live.frame.sp % 2 ≡ 0
