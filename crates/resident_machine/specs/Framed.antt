-- Framed states: those in which the live returns can be found from BP on, as a service of overlays does.
use Rattle.std.specs.Prelude.{◌≡◌, ◌≢◌, ℕ, ◌+◌, ◌<◌, ◌≤◌, Bool, true, false, IsTrue, List, [], ◌∷◌, ◌++◌, map, Some}
use Rattle.std.specs.List.{AllByRecursion}
use Rattle.cpu_8086.specs.Memory.{address, next_offset}
use Rattle.frame_links.specs.Links.{Link, link_word, place_if, pair_places, room_of, room_before}
use Rattle.resident_machine.specs.Program.{Program}
use Rattle.resident_machine.specs.Cells.{Cells, is_free, known_word, below}
use Rattle.resident_machine.specs.State.{Record, ResidentState, Service, NoService, AtCall, AtReturn, AtClear}

-- The word at a link is known, and says by whether frames are marked whether this one is a far routine's. There is room above
-- the link for its word and the return address: 6 bytes for a far routine, 4 for a near one.
pub record IsLink (marked : Bool) (cells : Cells) (ss : ℕ) (link : Link) (word : ℕ) (links : List Link) : Type 0 where
  pub positive : 0 < link.at
  pub known : known_word cells ss link.at ≡ Some word
  pub far : link.far ≡ (link_word marked word).far
  pub room : link.at + room_of link.far ≤ room_before links

-- From one offset on these are the links, each of which leads to the next, and 0 is the last. They rise without wrapping.
abbrev pub AreLinks : Bool → Cells → ℕ → ℕ → List Link → Type 0
AreLinks marked cells ss at [] = at ≡ 0
AreLinks marked cells ss at (link ∷ links) =
    (at ≡ link.at) × (word : ℕ) × IsLink marked cells ss link word links × AreLinks marked cells ss (link_word marked word).next links

-- the places of the live return pairs, topmost first; a pending one stands at SP
abbrev pub live_places : Bool → ℕ → List Link → List ℕ
live_places pending sp links = place_if pending sp ++ pair_places links

abbrev pub places_of : List Record → List ℕ
places_of records = map (λ (x : Record). x.place) records

-- A byte is not one of a word at an offset.
pub record MissesWord (place ss offset : ℕ) : Type 0 where
  pub low : place ≢ address ss offset
  pub high : place ≢ address ss (next_offset offset)

-- A byte below SP, which a service may overwrite, is no byte of a return pair, a stub, code, the buffer, the first 400h
-- or what lies behind the extra memory, not the installed flag, and no byte of a link.
pub record IsSpare (p : Program) (r : ResidentState) (links : List Link) (place : ℕ) : Type 0 where
  pub free : IsTrue (is_free (r.cells place))
  pub flag : place ≢ p.installed
  pub link : AllByRecursion (λ (link : Link). MissesWord place r.registers.ss link.at) links

-- The records are the live return pairs that BP leads to, a pending one included, and the 64 bytes below SP are spare.
-- As the bytes of links are known, none of them is a byte of a return pair, a stub, code or the buffer.
pub record IsFramed (p : Program) (pending : Bool) (r : ResidentState) : Type 0 where
  pub links : List Link
  pub chain : AreLinks p.marked r.cells r.registers.ss r.registers.bp links
  pub places : places_of r.records ≡ live_places pending r.registers.sp links
  pub pending_room : IsTrue pending → r.registers.sp + 4 ≤ 65536
  pub spare : (k : ℕ) → k < 64 → IsSpare p r links (below r.registers.ss r.registers.sp k)

-- What a step must leave where a service may follow. A return into code of the image asks nothing.
abbrev pub FramedAfter : Program → Service → ResidentState → Type 0
FramedAfter p NoService r = Unit {0}
FramedAfter p AtCall r = IsFramed p true r
FramedAfter p AtReturn r = IsFramed p false r
FramedAfter p AtClear r = IsFramed p true r
