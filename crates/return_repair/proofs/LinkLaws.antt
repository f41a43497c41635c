-- Links keep their words where pairs above others are written.
use Rattle.std.proofs.Common.{◌≡◌, ◌≢◌, ◌⊎◌, inl, inr, ℕ, zero, suc, ◌+◌, ◌-◌, ◌*◌, ◌%◌, ◌<◌, ◌≤◌, Bool, true, false, cond, List, [], ◌∷◌, ◌++◌, length, Option, Some, None, refl, sym, ap, ap₂, subst, ◌∙◌, add-zero, arith}
use Rattle.std.specs.Prelude.{IsTrue, ◌==◌, ◌&&◌, ◌||◌, nat_le, is_some, unwrap_or, slice_index_or}
use Rattle.std.specs.List.{AllByRecursion}
use Rattle.std.proofs.lemmas.Bool.Decides.{nat_tests}
use Rattle.cpu_8086.specs.Memory.{address, next_offset, load_word, store_word}
use Rattle.cpu_8086.specs.declared.registers.Far.{Far}
use Rattle.cpu_8086.proofs.MemoryLaws.{Apart, load_word-store_word_other}
use Rattle.frame_links.specs.Links.{Link, room_of, room_before, place_if, pair_place}
use Rattle.return_repair.specs.declared.table.Loaded.{Loaded}
use Rattle.return_repair.specs.Chain.{are_spaced, misses_link, misses_links}
use Rattle.return_repair.specs.Pairs.{pair_at, with_pair, owner, denoted_offset, shown_pair, same_pair}
use Rattle.return_repair.specs.Repair.{Work, work, no_overlay, repaired_pair, repaired_by, repaired_place, repaired_places}

pub both : (a b : Bool) → IsTrue (a && b) → IsTrue a × IsTrue b
both true true holds = (refl, refl)
both true false holds = absurd cc
both false b holds = absurd cc

pub at_most : (a b : ℕ) → IsTrue (nat_le a b) → a ≤ b
at_most a b le = grind (arith, nat_tests, le)

-- two words of one segment that share no byte
pub apart_below : (ss written read : ℕ) → written + 2 ≤ read → read + 2 ≤ 65536 → Apart ss written ss read
apart_below ss written read below fits = record {
  low_low = λ same. omega arith;
  low_high = λ same. omega arith;
  high_low = λ same. omega arith;
  high_high = λ same. omega arith;
}

pub apart_above : (ss written read : ℕ) → read + 2 ≤ written → written + 2 ≤ 65536 → Apart ss written ss read
apart_above ss written read above fits = record {
  low_low = λ same. omega arith;
  low_high = λ same. omega arith;
  high_low = λ same. omega arith;
  high_high = λ same. omega arith;
}

-- a pair is written that lies below a word, or above it
pub word-with_pair_below : (memory : List ℕ) (ss place word : ℕ) (pair : Far) → place + 4 ≤ word → word + 2 ≤ 65536 → load_word (with_pair memory ss place pair) ss word ≡ load_word memory ss word
word-with_pair_below memory ss place word pair below fits =
    let upper : (place + 2) % 65536 ≡ place + 2 = omega arith in
    ap (λ (at : ℕ). load_word (store_word (store_word memory ss place pair.offset) ss at pair.segment) ss word) upper
    ∙ load_word-store_word_other (store_word memory ss place pair.offset) ss (place + 2) ss word pair.segment (apart_below ss (place + 2) word (omega arith) fits)
    ∙ load_word-store_word_other memory ss place ss word pair.offset (apart_below ss place word (omega arith) fits)

pub word-with_pair_above : (memory : List ℕ) (ss place word : ℕ) (pair : Far) → word + 2 ≤ place → place + 4 ≤ 65536 → load_word (with_pair memory ss place pair) ss word ≡ load_word memory ss word
word-with_pair_above memory ss place word pair above fits =
    let upper : (place + 2) % 65536 ≡ place + 2 = omega arith in
    ap (λ (at : ℕ). load_word (store_word (store_word memory ss place pair.offset) ss at pair.segment) ss word) upper
    ∙ load_word-store_word_other (store_word memory ss place pair.offset) ss (place + 2) ss word pair.segment (apart_above ss (place + 2) word (omega arith) (omega arith))
    ∙ load_word-store_word_other memory ss place ss word pair.offset (apart_above ss place word above (omega arith))

-- where the links behind the room of one lie
pub record LiesAbove (low : ℕ) (other : Link) : Type 0 where
  pub above : low ≤ other.at
  pub fits : other.at + 4 ≤ 65536

pub some_room : (far : Bool) → 4 ≤ room_of far
some_room true = omega arith
some_room false = omega arith

spaced_fits : (link : Link) (links : List Link) → IsTrue (are_spaced (link ∷ links)) → link.at + room_of link.far ≤ 65536
spaced_fits link [] spaced = let parts = both (nat_le (link.at + room_of link.far) 65536) true spaced in at_most (link.at + room_of link.far) 65536 parts.0
spaced_fits link (next ∷ links) spaced =
    let parts = both (nat_le (link.at + room_of link.far) next.at) (are_spaced (next ∷ links)) spaced in
    let above = at_most (link.at + room_of link.far) next.at parts.0 in
    let others = spaced_fits next links parts.1 in
    omega arith

all_above : (low : ℕ) (link : Link) (links : List Link) → low ≤ link.at + room_of link.far → IsTrue (are_spaced (link ∷ links)) → AllByRecursion (λ other. LiesAbove low other) links
all_above low link [] order spaced = tt
all_above low link (next ∷ links) order spaced =
    let parts = both (nat_le (link.at + room_of link.far) next.at) (are_spaced (next ∷ links)) spaced in
    let above = at_most (link.at + room_of link.far) next.at parts.0 in
    let fits = spaced_fits next links parts.1 in
    let room = some_room next.far in
    (record { above = omega arith; fits = omega arith }, all_above low next links (omega arith) parts.1)

pub record Spaced (link : Link) (links : List Link) : Type 0 where
  pub fits : link.at + room_of link.far ≤ 65536
  pub above : AllByRecursion (λ other. LiesAbove (link.at + room_of link.far) other) links
  pub others : IsTrue (are_spaced links)

pub spaced_parts : (link : Link) (links : List Link) → IsTrue (are_spaced (link ∷ links)) → Spaced link links
spaced_parts link links spaced = record {
  fits = spaced_fits link links spaced;
  above = all_above (link.at + room_of link.far) link links (omega arith) spaced;
  others = (both (nat_le (link.at + room_of link.far) (room_before links)) (are_spaced links) spaced).1;
}

-- what is repaired at a place: nothing, or its pair
pub data Outcome (ss : ℕ) (w after : Work) (place : ℕ) : Type 0 where
  Stays : after ≡ w → Outcome ss w after place
  Becomes : (pair : Far) → after.memory ≡ with_pair w.memory ss place pair → Outcome ss w after place

pub outcome : (ss : ℕ) (old new : List Loaded) (w : Work) (place : ℕ) → Outcome ss w (repaired_place ss old new w place) place
unfolding repaired_place
outcome ss old new w place = by (owner old (pair_at w.memory ss place).segment)
  where
    by : (v : Option ℕ) → Outcome ss w (repaired_by ss old new w place (pair_at w.memory ss place) v) place
    by None = Stays refl
    by (Some v) =
        let was = slice_index_or old v no_overlay in
        let now = slice_index_or new v no_overlay in
        let offset = denoted_offset w.memory was (pair_at w.memory ss place) in
        Becomes (shown_pair now (is_some (w.topmost now.stub)) offset) refl

-- a word that the pair at a place does not touch
pub word-repaired_below : (ss : ℕ) (old new : List Loaded) (w : Work) (place word : ℕ) → place + 4 ≤ word → word + 2 ≤ 65536 → load_word (repaired_place ss old new w place).memory ss word ≡ load_word w.memory ss word
word-repaired_below ss old new w place word below fits =
    elim (outcome ss old new w place) [
      | Stays same ↦ ap (λ (w : Work). load_word w.memory ss word) same
      | Becomes pair memory ↦ ap (λ memory. load_word memory ss word) memory ∙ word-with_pair_below w.memory ss place word pair below fits
    ]

pub word-repaired_above : (ss : ℕ) (old new : List Loaded) (w : Work) (place word : ℕ) → word + 2 ≤ place → place + 4 ≤ 65536 → load_word (repaired_place ss old new w place).memory ss word ≡ load_word w.memory ss word
word-repaired_above ss old new w place word above fits =
    elim (outcome ss old new w place) [
      | Stays same ↦ ap (λ (w : Work). load_word w.memory ss word) same
      | Becomes pair memory ↦ ap (λ memory. load_word memory ss word) memory ∙ word-with_pair_above w.memory ss place word pair above fits
    ]

-- the words of links that are as they were
abbrev pub Kept : List ℕ → List ℕ → ℕ → List Link → Type 0
Kept memory before ss links = AllByRecursion (λ (link : Link). load_word memory ss link.at ≡ load_word before ss link.at) links

kept-on : (ss : ℕ) (old new : List Loaded) (w : Work) (before : List ℕ) (links : List Link) (link place : ℕ) → place ≡ link + 2 → AllByRecursion (λ other. LiesAbove (link + 6) other) links → Kept w.memory before ss links
    → Kept (repaired_place ss old new w place).memory before ss links
kept-on ss old new w before [] link place is above kept = tt
kept-on ss old new w before (other ∷ links) link place is above kept =
    (word-repaired_below ss old new w place other.at (omega (arith, above.0.above)) (omega (arith, above.0.fits)) ∙ kept.0, kept-on ss old new w before links link place is above.1 kept.1)

pub kept-at_first : (memory : List ℕ) (ss : ℕ) (links : List Link) → Kept memory memory ss links
kept-at_first memory ss [] = tt
kept-at_first memory ss (link ∷ links) = (refl, kept-at_first memory ss links)

-- how many pairs changed before has no part in the others
pub counted : (ss : ℕ) (old new : List Loaded) (memory : List ℕ) (topmost : ℕ → Option ℕ) (changed place : ℕ)
    → repaired_place ss old new (record { memory = memory; topmost = topmost; changed = changed }) place
    ≡ record { memory = (repaired_place ss old new (work memory topmost) place).memory; topmost = (repaired_place ss old new (work memory topmost) place).topmost; changed = changed + (repaired_place ss old new (work memory topmost) place).changed }
unfolding repaired_place
counted ss old new memory topmost changed place = by (owner old (pair_at memory ss place).segment)
  where
    by : (v : Option ℕ) → repaired_by ss old new (record { memory = memory; topmost = topmost; changed = changed }) place (pair_at memory ss place) v
        ≡ record { memory = (repaired_by ss old new (work memory topmost) place (pair_at memory ss place) v).memory; topmost = (repaired_by ss old new (work memory topmost) place (pair_at memory ss place) v).topmost; changed = changed + (repaired_by ss old new (work memory topmost) place (pair_at memory ss place) v).changed }
    by None = let none : changed ≡ changed + 0 = omega arith in λ i. record { memory = memory; topmost = topmost; changed = none i }
    by (Some v) =
        let was = slice_index_or old v no_overlay in
        let now = slice_index_or new v no_overlay in
        let pair = pair_at memory ss place in
        let offset = denoted_offset memory was pair in
        let shown = shown_pair now (is_some (topmost now.stub)) offset in
        let one : ℕ = cond (same_pair pair shown) 0 1 in
        let sum : changed + one ≡ changed + (0 + one) = omega arith in
        λ i. record { memory = with_pair memory ss place shown; topmost = (repaired_by ss old new (work memory topmost) place pair (Some v)).topmost; changed = sum i }

-- the same for many places
pub counted_places : (ss : ℕ) (old new : List Loaded) (memory : List ℕ) (topmost : ℕ → Option ℕ) (changed : ℕ) (places : List ℕ)
    → repaired_places ss old new (record { memory = memory; topmost = topmost; changed = changed }) places
    ≡ record { memory = (repaired_places ss old new (work memory topmost) places).memory; topmost = (repaired_places ss old new (work memory topmost) places).topmost; changed = changed + (repaired_places ss old new (work memory topmost) places).changed }
counted_places ss old new memory topmost changed [] = let none : changed ≡ changed + 0 = omega arith in λ i. record { memory = memory; topmost = topmost; changed = none i }
counted_places ss old new memory topmost changed (place ∷ places) =
    let w = repaired_place ss old new (work memory topmost) place in
    let later = counted_places ss old new w.memory w.topmost (changed + w.changed) places in
    let plain = counted_places ss old new w.memory w.topmost w.changed places in
    let sum : changed + w.changed + (repaired_places ss old new (work w.memory w.topmost) places).changed ≡ changed + (w.changed + (repaired_places ss old new (work w.memory w.topmost) places).changed) = omega arith in
    ap (λ (w : Work). repaired_places ss old new w places) (counted ss old new memory topmost changed place)
    ∙ later
    ∙ (λ i. record { memory = (repaired_places ss old new (work w.memory w.topmost) places).memory; topmost = (repaired_places ss old new (work w.memory w.topmost) places).topmost; changed = sum i })
    ∙ ap (λ (after : Work). let sum : Work = record { memory = after.memory; topmost = after.topmost; changed = changed + after.changed } in sum) (sym plain)

pub places-append : (ss : ℕ) (old new : List Loaded) (w : Work) (first others : List ℕ) → repaired_places ss old new w (first ++ others) ≡ repaired_places ss old new (repaired_places ss old new w first) others
places-append ss old new w [] others = refl
places-append ss old new w (place ∷ first) others = places-append ss old new (repaired_place ss old new w place) first others

-- the links behind one keep their words where the pair above it is repaired, if there is one
pub kept-behind : (ss : ℕ) (old new : List Loaded) (w : Work) (before : List ℕ) (links : List Link) (link : ℕ) (far : Bool) → link + room_of far ≤ 65536 → AllByRecursion (λ other. LiesAbove (link + room_of far) other) links → Kept w.memory before ss links
    → Kept (repaired_places ss old new w (place_if far (pair_place link))).memory before ss links
kept-behind ss old new w before links link false fits above kept = kept
kept-behind ss old new w before links link true fits above kept =
    let six : link + 6 ≤ 65536 = fits in
    let place : pair_place link ≡ link + 2 = omega arith in
    kept-on ss old new w before links link (pair_place link) place above kept

-- links that a pair misses keep their words
pub kept-missed : (ss : ℕ) (old new : List Loaded) (w : Work) (links : List Link) (place : ℕ) → place + 4 ≤ 65536 → IsTrue (are_spaced links) → IsTrue (misses_links place links)
    → Kept (repaired_place ss old new w place).memory w.memory ss links
kept-missed ss old new w [] place fits spaced missed = tt
kept-missed ss old new w (link ∷ links) place fits spaced missed =
    let parts = spaced_parts link links spaced in
    let misses = both (misses_link place link.at) (misses_links place links) missed in
    let room = some_room link.far in
    (by (nat_le (place + 4) link.at) (nat_le (link.at + 2) place) refl refl misses.0 (omega (arith, parts.fits)), kept-missed ss old new w links place fits parts.others misses.1)
  where
    by : (below above : Bool) → nat_le (place + 4) link.at ≡ below → nat_le (link.at + 2) place ≡ above → (below || above) ≡ true → link.at + 4 ≤ 65536 → load_word (repaired_place ss old new w place).memory ss link.at ≡ load_word w.memory ss link.at
    by true above is_below is_above misses room = word-repaired_below ss old new w place link.at (at_most (place + 4) link.at is_below) (omega arith)
    by false true is_below is_above misses room = word-repaired_above ss old new w place link.at (at_most (link.at + 2) place is_above) fits
    by false false is_below is_above misses room = absurd cc
