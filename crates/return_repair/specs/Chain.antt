-- The chain of links: BP is the first link, the word at each leads to the next, and 0 is the last.
use Rattle.std.specs.Prelude.{ℕ, zero, suc, ◌+◌, ◌%◌, ◌==◌, ◌||◌, ◌&&◌, not, Bool, true, nat_lt, nat_le, if◌then◌else◌, List, [], ◌∷◌, ◌++◌, Result, Ok, Err}
use Rattle.std.specs.List.{list_all}
use Rattle.cpu_8086.specs.Memory.{load_word}
use Rattle.cpu_8086.specs.State.{State}
use Rattle.cpu_8086.specs.declared.registers.Registers.{Registers}
use Rattle.frame_links.specs.Links.{Link, LinkWord, link_word, place_if, pair_places, room_of, room_before}

-- a link before those behind it
abbrev pub before : Link → Result (List Link) ℕ → Result (List Link) ℕ
before link (Ok links) = Ok (link ∷ links)
before link (Err bad) = Err bad

-- what the word at an offset says, by whether frames are marked
abbrev pub word_at : Bool → List ℕ → ℕ → ℕ → LinkWord
word_at marked memory ss link = link_word marked (load_word memory ss link % 65536)

abbrev pub next_link : Bool → List ℕ → ℕ → ℕ → ℕ
next_link marked memory ss link = (word_at marked memory ss link).next

-- the link at an offset
abbrev pub link_at : Bool → List ℕ → ℕ → ℕ → Link
link_at marked memory ss link = record { at = link; far = (word_at marked memory ss link).far }

-- the next link ends the chain, or lies above
abbrev pub goes_on : ℕ → ℕ → Bool
goes_on link next = next == 0 || nat_lt link next

-- the links from one on, at most so many; or the first place from which the next link isn't 0 and does not lie above it
unfoldable pub links_within : Bool → ℕ → List ℕ → ℕ → ℕ → Result (List Link) ℕ
links_within marked zero memory ss link = Ok []
links_within marked (suc most) memory ss link =
    if link == 0 then Ok [] else (let next = next_link marked memory ss link in
    if goes_on link next then before (link_at marked memory ss link) (links_within marked most memory ss next) else Err link)

-- Links rise and lie below 65536, so there are fewer than that.
unfoldable pub chain : Bool → List ℕ → ℕ → ℕ → Result (List Link) ℕ
chain marked memory ss link = links_within marked 65536 memory ss link

abbrev pub links_of : Result (List Link) ℕ → List Link
links_of (Ok links) = links
links_of (Err bad) = []

-- the links of a state, from BP on
abbrev pub chain_of : Bool → State → Result (List Link) ℕ
chain_of marked s = chain marked s.memory s.registers.ss s.registers.bp

-- the place of a pending return pair
abbrev pub pending_places : Registers → Bool → List ℕ
pending_places g pending = place_if pending g.sp

-- the places of the live return pairs in the segment SS, topmost first
abbrev pub live_places : Registers → Bool → List Link → List ℕ
live_places g pending links = pending_places g pending ++ pair_places links

-- where the room above a link ends: at the next one, or at the segment's end
abbrev pub room_end : ℕ → ℕ
room_end next = if next == 0 then 65536 else next

-- Links rise without wrapping, by at least 6 from the frame of a far routine and by 4 from that of a near one, so that each has
-- room for its word and the return address.
abbrev pub are_spaced : List Link → Bool
are_spaced [] = true
are_spaced (link ∷ links) = nat_le (link.at + room_of link.far) (room_before links) && are_spaced links

-- the pair at a place shares no byte with the word of a link
abbrev pub misses_link : ℕ → ℕ → Bool
misses_link place link = nat_le (place + 4) link || nat_le (link + 2) place

abbrev pub misses_links : ℕ → List Link → Bool
misses_links place links = list_all (λ (link : Link). misses_link place link.at) links

-- no live pair touches the word of a link
abbrev pub are_clear : Registers → Bool → List Link → Bool
are_clear g pending links = are_spaced links && (not pending || (nat_le (g.sp + 4) 65536 && misses_links g.sp links))
