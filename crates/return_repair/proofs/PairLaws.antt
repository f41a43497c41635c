-- Pairs as they are written and read.
use Rattle.std.proofs.Common.{◌≡◌, ◌≢◌, ◌⊎◌, inl, inr, ℕ, zero, suc, ◌+◌, ◌-◌, ◌*◌, ◌%◌, ◌/◌, ◌<◌, ◌≤◌, Bool, true, false, cond, List, [], ◌∷◌, length, map, get_or, Option, Some, None, refl, sym, ap, ap₂, subst, ◌∙◌, arith}
use Rattle.std.specs.Prelude.{slice_index}
use Rattle.std.proofs.lemmas.List.{get_or-set_other}
use Rattle.cpu_8086.specs.Memory.{address, next_offset, load_byte, store_byte, load_word, store_word}
use Rattle.cpu_8086.specs.declared.registers.Far.{Far}
use Rattle.cpu_8086.proofs.MemoryLaws.{Apart, length-store_word, load_word-store_word_same, load_word-store_word_other}
use Rattle.return_repair.specs.declared.table.Loaded.{Loaded}
use Rattle.return_repair.specs.Pairs.{pair_at, with_pair, saved_at}
use Rattle.return_repair.specs.Follows.{AreApart, MissesPair, MissesStub}
use Rattle.return_repair.proofs.LinkLaws.{apart_below, apart_above, word-with_pair_below, word-with_pair_above}

pub length-with_pair : (memory : List ℕ) (ss place : ℕ) (pair : Far) → length (with_pair memory ss place pair) ≡ length memory
length-with_pair memory ss place pair = length-store_word (store_word memory ss place pair.offset) ss ((place + 2) % 65536) pair.segment ∙ length-store_word memory ss place pair.offset

-- the pair that was written is read
pub pair_at-same : (memory : List ℕ) (ss place : ℕ) (pair : Far) → length memory ≡ 1048576 → place + 4 ≤ 65536 → pair_at (with_pair memory ss place pair) ss place ≡ pair
pair_at-same memory ss place pair size fits =
    let low : List ℕ = store_word memory ss place pair.offset in
    let upper : (place + 2) % 65536 ≡ place + 2 = omega arith in
    let offset : load_word (store_word low ss ((place + 2) % 65536) pair.segment) ss place ≡ pair.offset =
    ap (λ (at : ℕ). load_word (store_word low ss at pair.segment) ss place) upper
    ∙ load_word-store_word_other low ss (place + 2) ss place pair.segment (apart_above ss (place + 2) place (omega arith) (omega arith))
    ∙ load_word-store_word_same memory ss place pair.offset size (omega arith) in
    let segment : load_word (store_word low ss ((place + 2) % 65536) pair.segment) ss ((place + 2) % 65536) ≡ pair.segment =
    load_word-store_word_same low ss ((place + 2) % 65536) pair.segment (length-store_word memory ss place pair.offset ∙ size) (omega arith) in
    λ i. record { offset = offset i; segment = segment i }

-- another pair is read as before
pub pair_at-other : (memory : List ℕ) (ss place other : ℕ) (pair : Far) → place + 4 ≤ 65536 → other + 4 ≤ 65536 → AreApart place other → pair_at (with_pair memory ss place pair) ss other ≡ pair_at memory ss other
pair_at-other memory ss place other pair fits other_fits (inl below) =
    let upper : (other + 2) % 65536 ≡ other + 2 = omega arith in
    let offset = word-with_pair_below memory ss place other pair below (omega arith) in
    let segment : load_word (with_pair memory ss place pair) ss ((other + 2) % 65536) ≡ load_word memory ss ((other + 2) % 65536) =
    rw upper (word-with_pair_below memory ss place (other + 2) pair (omega arith) (omega arith)) in
    λ i. record { offset = offset i; segment = segment i }
pair_at-other memory ss place other pair fits other_fits (inr above) =
    let upper : (other + 2) % 65536 ≡ other + 2 = omega arith in
    let offset = word-with_pair_above memory ss place other pair (omega arith) fits in
    let segment : load_word (with_pair memory ss place pair) ss ((other + 2) % 65536) ≡ load_word memory ss ((other + 2) % 65536) =
    rw upper (word-with_pair_above memory ss place (other + 2) pair (omega arith) fits) in
    λ i. record { offset = offset i; segment = segment i }

-- a word of a pair and the word of a stub, apart both ways
pub word_misses : (ss place half : ℕ) (overlay : Loaded) → half ≤ 2 → place + 4 ≤ 65536 → MissesPair ss overlay place → Apart ss (place + half) overlay.stub 2
word_misses ss place half overlay low fits misses =
    let up : next_offset (place + half) ≡ place + (half + 1) = omega arith in
    record {
      low_low = λ same. misses 0 half (omega arith) (omega arith) (sym same);
      low_high = λ same. misses 0 (half + 1) (omega arith) (omega arith) (ap (address ss) (sym up) ∙ sym same);
      high_low = λ same. misses 1 half (omega arith) (omega arith) (sym same);
      high_high = λ same. misses 1 (half + 1) (omega arith) (omega arith) (ap (address ss) (sym up) ∙ sym same);
    }

pub stub_misses : (ss place half : ℕ) (overlay : Loaded) → half ≤ 2 → place + 4 ≤ 65536 → MissesPair ss overlay place → Apart overlay.stub 2 ss (place + half)
stub_misses ss place half overlay low fits misses =
    let up : next_offset (place + half) ≡ place + (half + 1) = omega arith in
    record {
      low_low = λ same. misses 0 half (omega arith) (omega arith) same;
      low_high = λ same. misses 1 half (omega arith) (omega arith) same;
      high_low = λ same. misses 0 (half + 1) (omega arith) (omega arith) (ap (address ss) (sym up) ∙ same);
      high_high = λ same. misses 1 (half + 1) (omega arith) (omega arith) (ap (address ss) (sym up) ∙ same);
    }

-- the saved offset is read as before once a pair was written
pub saved-with_pair : (memory : List ℕ) (ss place : ℕ) (overlay : Loaded) (pair : Far) → place + 4 ≤ 65536 → MissesPair ss overlay place → saved_at (with_pair memory ss place pair) overlay.stub ≡ saved_at memory overlay.stub
saved-with_pair memory ss place overlay pair fits misses =
    let upper : (place + 2) % 65536 ≡ place + 2 = omega arith in
    let here : place + 0 ≡ place = omega arith in
    ap (λ (at : ℕ). load_word (store_word (store_word memory ss place pair.offset) ss at pair.segment) overlay.stub 2) upper
    ∙ load_word-store_word_other (store_word memory ss place pair.offset) ss (place + 2) overlay.stub 2 pair.segment (word_misses ss place 2 overlay (omega arith) fits misses)
    ∙ load_word-store_word_other memory ss place overlay.stub 2 pair.offset (subst (λ (at : ℕ). Apart ss at overlay.stub 2) here (word_misses ss place 0 overlay (omega arith) fits misses))

-- a pair is read as before once an offset was saved
pub pair_at-saved : (memory : List ℕ) (ss place : ℕ) (overlay : Loaded) (offset : ℕ) → place + 4 ≤ 65536 → MissesPair ss overlay place → pair_at (store_word memory overlay.stub 2 offset) ss place ≡ pair_at memory ss place
pair_at-saved memory ss place overlay offset fits misses =
    let upper : (place + 2) % 65536 ≡ place + 2 = omega arith in
    let here : place + 0 ≡ place = omega arith in
    let low = load_word-store_word_other memory overlay.stub 2 ss place offset (subst (λ (at : ℕ). Apart overlay.stub 2 ss at) here (stub_misses ss place 0 overlay (omega arith) fits misses)) in
    let high : load_word (store_word memory overlay.stub 2 offset) ss ((place + 2) % 65536) ≡ load_word memory ss ((place + 2) % 65536) =
    rw upper (load_word-store_word_other memory overlay.stub 2 ss (place + 2) offset (stub_misses ss place 2 overlay (omega arith) fits misses)) in
    λ i. record { offset = low i; segment = high i }

-- two stubs
pub saved-saved_other : (memory : List ℕ) (overlay other : Loaded) (offset : ℕ) → MissesStub overlay other → saved_at (store_word memory overlay.stub 2 offset) other.stub ≡ saved_at memory other.stub
saved-saved_other memory overlay other offset misses = load_word-store_word_other memory overlay.stub 2 other.stub 2 offset (record {
  low_low = λ same. misses 0 0 (omega arith) (omega arith) same;
  low_high = λ same. misses 1 0 (omega arith) (omega arith) same;
  high_low = λ same. misses 0 1 (omega arith) (omega arith) same;
  high_high = λ same. misses 1 1 (omega arith) (omega arith) same;
})

pub saved-saved_same : (memory : List ℕ) (overlay : Loaded) (offset : ℕ) → length memory ≡ 1048576 → saved_at (store_word memory overlay.stub 2 offset) overlay.stub ≡ offset
saved-saved_same memory overlay offset size = load_word-store_word_same memory overlay.stub 2 offset size (omega arith)
