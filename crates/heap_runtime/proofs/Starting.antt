-- The data of the unit as a program starts.
use Rattle.std.proofs.Common.{◌≡◌, ◌≢◌, ℕ, zero, suc, ◌+◌, ◌*◌, ◌/◌, ◌%◌, ◌≤◌, ◌<◌, List, [], ◌∷◌, length, get_or, Some, refl, sym, ap, ◌∙◌, arith, ⊎_elim}
use Rattle.std.specs.Prelude.{Contains}
use Rattle.common_values.specs.integers.Words.{low_byte, high_byte}
use Rattle.flat_code.specs.declared.memory.Cell.TheVariants.{Known, Outside}
use Rattle.flat_code.specs.Memory.{Cells, address_of, region, laid, word_bytes}
use Rattle.flat_code.specs.Program.{Key, FlatProgram, Choice, overlay_unit, heap_segment_key, heap_bytes_key, ovr_name_key}
use Rattle.flat_code.specs.declared.memory.Place.{Place}
use Rattle.flat_code.specs.Meaning.{number_bytes, filled, laid_at, with_units, start_cells}
use Rattle.flat_code.specs.Legal.{Mention, ToDatum, TakesData, IsApart, IsLegal}
use Rattle.runtime_proofs.specs.routine_proofs.Activation.{HoldsWord}
use Rattle.runtime_proofs.specs.strings_in_memory.Strings.{HasBytes, place}
use Rattle.runtime_proofs.proofs.strings_in_memory.Cells.{bytes-kept, laid-other, laid-has}
use Rattle.runtime_proofs.specs.start_data.Start.{FitsRuntime, FirstsFit, IsOther}
use Rattle.runtime_proofs.proofs.start_data.Start.{start}
use Rattle.heap_runtime.specs.overlay.Data.{ovr_result_key, ovr_result_datum, ovr_name_datum, HasOverlay}
use Rattle.heap_runtime.specs.heap.HeapMemory.{heap_state_key, HeapPlaces}
use Rattle.heap_runtime.specs.scratch.Data.{scratch_key, scratch_datum, HasScratch, ScratchReached}
use Rattle.heap_runtime.specs.Unit.{heap_code, heap_segment_datum, heap_bytes_datum, heap_state_datum, HoldsHeapUnit}
use Rattle.heap_runtime.specs.Specifications.{IsFileName, StartsHeap}
use Rattle.heap_runtime.proofs.Reached.{heap-reached}

-- ---- words

plain : (segment o i : ℕ) → o + i < 65536 → 16 * segment + (o + i) < 1048576 → address_of (place segment o) i ≡ 16 * segment + (o + i)
plain segment o i p q = omega (arith, p, q)

holds-word : (m : Cells) (segment o i x v : ℕ) → o + i + 2 ≤ 65520 → 16 * segment + (o + i + 2) ≤ 1048576 → x ≡ 16 * segment + (o + i) → v < 65536 → m (address_of (place segment o) i) ≡ Known (low_byte v) → m (address_of (place segment o) (i + 1)) ≡ Known (high_byte v) → HoldsWord m x v
holds-word m segment o i x v small end is fits low high =
    let first : x ≡ address_of (place segment o) i = is ∙ sym (plain segment o i (omega (arith, small)) (omega (arith, end))) in
    let second : x + 1 ≡ address_of (place segment o) (i + 1) = next segment o i x is ∙ sym (plain segment o (i + 1) (omega (arith, small)) (omega (arith, end))) in
    record { low = ap m first ∙ low; high = ap m second ∙ high; small = fits }
  where
    next : (segment o i x : ℕ) → x ≡ 16 * segment + (o + i) → x + 1 ≡ 16 * segment + (o + (i + 1))
    next segment o i x e = omega (arith, e)

-- the bytes of a number of 32 bits are those of its two words
lower : (n : ℕ) → (low_byte n ≡ low_byte (n % 65536)) × (low_byte (n / 256) ≡ high_byte (n % 65536))
lower n = (omega arith, omega arith)

upper : (n : ℕ) → n < 4294967296 → (low_byte (n / 256 / 256) ≡ low_byte (n / 65536)) × (low_byte (n / 256 / 256 / 256) ≡ high_byte (n / 65536))
upper n h = (omega arith, omega (arith, h))

-- ---- bytes that stay where others are laid apart from them

laid-stays : (m : Cells) (segment limit a b : ℕ) (xs ys : List ℕ) (n k : ℕ) → limit ≤ 65520 → 16 * segment + limit ≤ 1048576 → length xs ≤ n → length ys ≤ k → a + n ≤ limit → b + k ≤ limit → IsApart a n b k → HasBytes m (place segment a) 0 xs → HasBytes (laid m (place segment b) 0 ys) (place segment a) 0 xs
laid-stays m segment limit a b xs ys n k small end f g p q apart has =
    bytes-kept m (laid m (place segment b) 0 ys) (place segment a) 0 xs
    (λ i h. laid-other m (place segment b) 0 ys (address_of (place segment a) (0 + i)) (λ j l e.
    let x : address_of (place segment a) (0 + i) ≡ 16 * segment + (a + i) = ap (address_of (place segment a)) (nought i) ∙ plain segment a i (omega (arith, small, f, p, h)) (omega (arith, end, f, p, h)) in
    let y : address_of (place segment b) (0 + j) ≡ 16 * segment + (b + j) = ap (address_of (place segment b)) (nought j) ∙ plain segment b j (omega (arith, small, g, q, l)) (omega (arith, end, g, q, l)) in
    let same : 16 * segment + (a + i) ≡ 16 * segment + (b + j) = sym x ∙ e ∙ y in
    ⊎_elim (λ (z : a + n ≤ b). omega (arith, z, h, f, same)) (λ (z : b + k ≤ a). omega (arith, z, l, g, same)) apart)) has
  where
    nought : (i : ℕ) → 0 + i ≡ i
    nought i = omega arith

-- ---- the keys

abbrev number-of : Mention → ℕ
number-of (ToDatum key) = key.number
number-of other = 0

key-differs : (a b : Key) → (a.number ≡ b.number → ⊥) → a ≢ b
key-differs a b ne e = ne (ap (λ (k : Key). k.number) e)

is-state : IsOther heap_state_key
is-state = record { segment = key-differs heap_state_key heap_segment_key (λ e. omega (arith, e)); bytes = key-differs heap_state_key heap_bytes_key (λ e. omega (arith, e)); name = key-differs heap_state_key ovr_name_key (λ e. omega (arith, e)) }

is-result : IsOther ovr_result_key
is-result = record { segment = key-differs ovr_result_key heap_segment_key (λ e. omega (arith, e)); bytes = key-differs ovr_result_key heap_bytes_key (λ e. omega (arith, e)); name = key-differs ovr_result_key ovr_name_key (λ e. omega (arith, e)) }

is-scratch : IsOther scratch_key
is-scratch = record { segment = key-differs scratch_key heap_segment_key (λ e. omega (arith, e)); bytes = key-differs scratch_key heap_bytes_key (λ e. omega (arith, e)); name = key-differs scratch_key ovr_name_key (λ e. omega (arith, e)) }

no-first : (k : ℕ) → k < length {A = ℕ} [] → get_or {A = ℕ} [] k 0 < 256
no-first k h = absurd (omega (arith, h))

small-word : (v k : ℕ) → get_or (word_bytes v) k 0 < 256
small-word v zero = omega arith
small-word v (suc zero) = omega arith
small-word v (suc (suc k)) = omega arith

small-number : (v k : ℕ) → get_or (number_bytes 4 v) k 0 < 256
small-number v zero = omega arith
small-number v (suc zero) = omega arith
small-number v (suc (suc zero)) = omega arith
small-number v (suc (suc (suc zero))) = omega arith
small-number v (suc (suc (suc (suc k)))) = omega arith

small-text : (name : List ℕ) → IsFileName name → (k : ℕ) → k < length (length name ∷ name) → get_or (length name ∷ name) k 0 < 256
small-text name is zero h = let fits = is.fits in omega (arith, fits)
small-text name is (suc k) h = is.small k (omega (arith, h))

-- ---- the three data that the program gets

module _ (program : FlatProgram) (choice : Choice) (R : Mention → Type 0) (places : HeapPlaces program choice) (result name : ℕ) (legal : IsLegal program choice R) (holds : HoldsHeapUnit program) (file : IsFileName program.ovr_name) (there : HasOverlay program choice result name) where
  abbrev ds : ℕ
  ds = choice.data_segment

  abbrev text : List ℕ
  text = length program.ovr_name ∷ program.ovr_name

  abbrev m0 : Cells
  m0 = with_units program choice program.order (region (λ x. Outside) choice.heap_segment 0 program.heap (Known 0))

  abbrev m1 : Cells
  m1 = laid m0 (place ds places.segment_at) 0 (word_bytes choice.heap_segment)

  abbrev m2 : Cells
  m2 = laid m1 (place ds places.bytes_at) 0 (number_bytes 4 program.heap)

  abbrev m3 : Cells
  m3 = laid m2 (place ds name) 0 text

  cells-are : start_cells program choice ≡ m3
  cells-are =
      ap (λ o. laid_at choice o text (laid_at choice (choice.datum heap_bytes_key) (number_bytes 4 program.heap) (laid_at choice (choice.datum heap_segment_key) (word_bytes choice.heap_segment) m0))) there.name_is
      ∙ ap (λ o. laid_at choice (Some name) text (laid_at choice o (number_bytes 4 program.heap) (laid_at choice (choice.datum heap_segment_key) (word_bytes choice.heap_segment) m0))) places.bytes_is
      ∙ ap (λ o. laid_at choice (Some name) text (laid_at choice (Some places.bytes_at) (number_bytes 4 program.heap) (laid_at choice o (word_bytes choice.heap_segment) m0))) places.segment_is

  takes-segment : TakesData program choice (ToDatum heap_segment_key) places.segment_at 2
  takes-segment = (heap_code, heap_segment_datum, holds.is_there, refl, places.segment_is, refl)

  takes-bytes : TakesData program choice (ToDatum heap_bytes_key) places.bytes_at 4
  takes-bytes = (heap_code, heap_bytes_datum, holds.is_there, refl, places.bytes_is, refl)

  takes-name : TakesData program choice (ToDatum ovr_name_key) name 81
  takes-name = (heap_code, ovr_name_datum, holds.is_there, refl, there.name_is, refl)

  segment-in : places.segment_at + 2 ≤ legal.data_bytes
  segment-in = legal.inside (ToDatum heap_segment_key) places.segment_at 2 takes-segment

  bytes-in : places.bytes_at + 4 ≤ legal.data_bytes
  bytes-in = legal.inside (ToDatum heap_bytes_key) places.bytes_at 4 takes-bytes

  name-in : name + 81 ≤ legal.data_bytes
  name-in = legal.inside (ToDatum ovr_name_key) name 81 takes-name

  text-fits : length text ≤ 81
  text-fits = let fits = file.fits in omega (arith, fits)

  name-stands : HasBytes m3 (place ds name) 0 text
  name-stands = let small = legal.data_small in laid-has m2 ds name 0 text (omega (arith, small, name-in, text-fits)) (small-text program.ovr_name file)

  bytes-stand : HasBytes m3 (place ds places.bytes_at) 0 (number_bytes 4 program.heap)
  bytes-stand =
      let small = legal.data_small in
      let now = laid-has m1 ds places.bytes_at 0 (number_bytes 4 program.heap) (omega arith) (λ k h. small-number program.heap k) in
      laid-stays m2 ds legal.data_bytes places.bytes_at name (number_bytes 4 program.heap) text 4 81 small legal.data_end (omega arith) text-fits bytes-in name-in (legal.apart (ToDatum heap_bytes_key) (ToDatum ovr_name_key) places.bytes_at 4 name 81 (λ e. omega (arith, ap number-of e)) takes-bytes takes-name) now

  segment-stands : HasBytes m3 (place ds places.segment_at) 0 (word_bytes choice.heap_segment)
  segment-stands =
      let small = legal.data_small in
      let now = laid-has m0 ds places.segment_at 0 (word_bytes choice.heap_segment) (omega arith) (λ k h. small-word choice.heap_segment k) in
      let next = laid-stays m1 ds legal.data_bytes places.segment_at places.bytes_at (word_bytes choice.heap_segment) (number_bytes 4 program.heap) 2 4 small legal.data_end (omega arith) (omega arith) segment-in bytes-in (legal.apart (ToDatum heap_segment_key) (ToDatum heap_bytes_key) places.segment_at 2 places.bytes_at 4 (λ e. omega (arith, ap number-of e)) takes-segment takes-bytes) now in
      laid-stays m2 ds legal.data_bytes places.segment_at name (word_bytes choice.heap_segment) text 2 81 small legal.data_end (omega arith) text-fits segment-in name-in (legal.apart (ToDatum heap_segment_key) (ToDatum ovr_name_key) places.segment_at 2 name 81 (λ e. omega (arith, ap number-of e)) takes-segment takes-name) next

-- ---- all data

-- what the program gets fits the data
pub fits-runtime : (program : FlatProgram) (choice : Choice) → HoldsHeapUnit program → length program.ovr_name ≤ 80 → FitsRuntime program choice
fits-runtime program choice holds few = record {
  segment = λ offset e. (2, omega arith, (heap_code, heap_segment_datum, holds.is_there, refl, e, refl));
  bytes = λ offset e. (4, omega arith, (heap_code, heap_bytes_datum, holds.is_there, refl, e, refl));
  name = λ offset e. (81, omega (arith, few), (heap_code, ovr_name_datum, holds.is_there, refl, e, refl));
}

pub starts : (program : FlatProgram) (choice : Choice) (R : Mention → Type 0) (places : HeapPlaces program choice) (result name : ℕ) → IsLegal program choice R → FirstsFit program → HoldsHeapUnit program → Contains program.order overlay_unit → IsFileName program.ovr_name → choice.heap_segment < 65536 → HasOverlay program choice result name → StartsHeap program choice places result name
starts program choice R places result name legal firsts holds listed file word there =
    let fits = fits-runtime program choice holds file.fits in
    let m = start_cells program choice in
    let ds = choice.data_segment in
    let same = cells-are program choice R places result name legal holds file there in
    let kept = λ (p : ℕ) (bytes : List ℕ) (has : HasBytes (m3 program choice R places result name legal holds file there) (place ds p) 0 bytes). bytes-kept (m3 program choice R places result name legal holds file there) m (place ds p) 0 bytes (λ k h. ap (λ (c : Cells). c (address_of (place ds p) (0 + k))) same) has in
    let named = kept name (length program.ovr_name ∷ program.ovr_name) (name-stands program choice R places result name legal holds file there) in
    let bytes = kept places.bytes_at (number_bytes 4 program.heap) (bytes-stand program choice R places result name legal holds file there) in
    let segment = kept places.segment_at (word_bytes choice.heap_segment) (segment-stands program choice R places result name legal holds file there) in
    let state = start program choice R legal firsts heap_state_key heap_code heap_state_datum places.state_at (record { listed = listed; unit_is = holds.is_there; datum_is = refl; placed = places.state_is; fits = omega arith; small = no-first }) fits is-state in
    let answer = start program choice R legal firsts ovr_result_key heap_code ovr_result_datum result (record { listed = listed; unit_is = holds.is_there; datum_is = refl; placed = there.result_is; fits = omega arith; small = no-first }) fits is-result in
    let small = places.small in
    let end = places.data_end in
    let s = places.segment_in in
    let b = places.bytes_in in
    let t = places.state_in in
    let heap_small = places.heap_small in
    let low = lower program.heap in
    let high = upper program.heap (omega (arith, heap_small)) in
    let few = file.fits in
    record {
      heap = record {
        segment = holds-word m ds places.segment_at 0 (16 * ds + places.segment_at) choice.heap_segment (omega (arith, s, small)) (omega (arith, s, end)) (omega arith) word segment.0 segment.2.0;
        low = holds-word m ds places.bytes_at 0 (16 * ds + places.bytes_at) (program.heap % 65536) (omega (arith, b, small)) (omega (arith, b, end)) (omega arith) (omega arith) (bytes.0 ∙ ap Known low.0) (bytes.2.0 ∙ ap Known low.1);
        high = holds-word m ds places.bytes_at 2 (16 * ds + places.bytes_at + 2) (program.heap / 65536) (omega (arith, b, small)) (omega (arith, b, end)) (omega arith) (omega (arith, heap_small)) (bytes.2.2.0 ∙ ap Known high.0) (bytes.2.2.2.0 ∙ ap Known high.1);
        cut = holds-word m ds places.state_at 0 (16 * ds + places.state_at) 0 (omega (arith, t, small)) (omega (arith, t, end)) (omega arith) (omega arith) state.0 state.2.0;
        first = holds-word m ds places.state_at 2 (16 * ds + places.state_at + 2) 0 (omega (arith, t, small)) (omega (arith, t, end)) (omega arith) (omega arith) state.2.2.0 state.2.2.2.0;
        reached = heap-reached program choice;
      };
      file = record {
        fits = file.fits;
        result_there = answer-reached m ds result answer.0 answer.2.0;
        name_there = record { size = named.0; short = omega (arith, few); bytes = named.2 };
      };
    }
  where
    answer-reached : (m : Cells) (ds at : ℕ) → m (address_of (place ds at) 0) ≡ Known 0 → m (address_of (place ds at) 1) ≡ Known 0 → (i : ℕ) → i < 2 → m (address_of (place ds at) i) ≡ Outside → ⊥
    answer-reached m ds at p q zero h out = let r = sym p ∙ out in absurd (cc)
    answer-reached m ds at p q (suc zero) h out = let r = sym q ∙ out in absurd (cc)
    answer-reached m ds at p q (suc (suc i)) h out = absurd (omega (arith, h))

-- bytes that stand somewhere can be reached
bytes-reached : (m : Cells) (p : Place) (j : ℕ) (bytes : List ℕ) → HasBytes m p j bytes → (i : ℕ) → i < length bytes → m (address_of p (j + i)) ≡ Outside → ⊥
bytes-reached m p j [] has i h out = omega (arith, h)
bytes-reached m p j (b ∷ bytes) has zero h out = let first : j + 0 ≡ j = omega arith in let r = sym has.0 ∙ ap m (ap (address_of p) (sym first)) ∙ out in absurd (cc)
bytes-reached m p j (b ∷ bytes) has (suc i) h out = let e : j + 1 + i ≡ j + suc i = omega arith in bytes-reached m p (j + 1) bytes has.2 i (omega (arith, h)) (ap m (ap (address_of p) e) ∙ out)

pub scratch-starts : (program : FlatProgram) (choice : Choice) (R : Mention → Type 0) (scratch : ℕ) → IsLegal program choice R → FirstsFit program → HoldsHeapUnit program → Contains program.order overlay_unit → length program.ovr_name ≤ 80 → HasScratch program choice scratch → ScratchReached choice scratch (start_cells program choice)
scratch-starts program choice R scratch legal firsts holds listed few there i h out =
    let fits = fits-runtime program choice holds few in
    let zeros = start program choice R legal firsts scratch_key heap_code scratch_datum scratch (record { listed = listed; unit_is = holds.is_there; datum_is = refl; placed = there.scratch_is; fits = omega arith; small = no-first }) fits is-scratch in
    let e : i ≡ 0 + i = omega arith in
    bytes-reached (start_cells program choice) (place choice.data_segment scratch) 0 (filled 8 []) zeros i h (ap (start_cells program choice) (ap (address_of (place choice.data_segment scratch)) (sym e)) ∙ out)
