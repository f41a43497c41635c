-- The data of the unit as a program starts.
use Rattle.std.proofs.Common.{◌≡◌, ◌≢◌, ℕ, zero, suc, ◌+◌, ◌-◌, ◌<◌, List, [], ◌∷◌, ◌++◌, length, get_or, refl, sym, ap, ◌∙◌, arith, length-append}
use Rattle.std.specs.Prelude.{replicate, Contains}
use Rattle.std.proofs.lemmas.List.{length-replicate}
use Rattle.flat_code.specs.declared.memory.Place.{Place}
use Rattle.flat_code.specs.declared.memory.Cell.TheVariants.{Outside}
use Rattle.flat_code.specs.Memory.{Cells, address_of}
use Rattle.flat_code.specs.Program.{Key, FlatProgram, Choice, text_unit, heap_segment_key, heap_bytes_key, ovr_name_key}
use Rattle.flat_code.specs.Meaning.{filled, start_cells}
use Rattle.flat_code.specs.Legal.{Mention, IsLegal}
use Rattle.runtime_proofs.specs.strings_in_memory.Strings.{HasBytes}
use Rattle.runtime_proofs.specs.text_memory.Data.{item_key, ahead_key, item_datum, ahead_datum, blank_bytes, item_place, none, HasText}
use Rattle.runtime_proofs.specs.start_data.Start.{FitsRuntime, FirstsFit, IsOther}
use Rattle.runtime_proofs.proofs.start_data.Start.{start}
use Rattle.rt_text.specs.Unit.{text_code, HoldsTextUnit}
use Rattle.rt_text.specs.Specifications.{StartsText}

-- the bytes of a front
bytes-first : (m : Cells) (p : Place) (i : ℕ) (xs ys : List ℕ) → HasBytes m p i (xs ++ ys) → HasBytes m p i xs
bytes-first m p i [] ys has = tt
bytes-first m p i (x ∷ xs) ys has = (has.0, has.1, bytes-first m p (i + 1) xs ys has.2)

bytes-reached : (m : Cells) (p : Place) (i : ℕ) (xs : List ℕ) → HasBytes m p i xs → (k : ℕ) → k < length xs → m (address_of p (i + k)) ≡ Outside → ⊥
bytes-reached m p i [] has k h out = omega (arith, h)
bytes-reached m p i (x ∷ xs) has zero h out = let same : i + 0 ≡ i = omega arith in let r = sym has.0 ∙ ap (λ j. m (address_of p j)) (sym same) ∙ out in absurd (cc)
bytes-reached m p i (x ∷ xs) has (suc k) h out = let same : i + 1 + k ≡ i + suc k = omega arith in bytes-reached m p (i + 1) xs has.2 k (omega (arith, h)) (ap (λ j. m (address_of p j)) same ∙ out)

small-replicate : (n k : ℕ) → get_or (replicate n 32) k 0 < 256
small-replicate zero k = omega arith
small-replicate (suc n) zero = omega arith
small-replicate (suc n) (suc k) = small-replicate n k

small-ahead : (k : ℕ) → k < 2 → get_or (0 ∷ 1 ∷ []) k 0 < 256
small-ahead zero h = omega arith
small-ahead (suc zero) h = omega arith
small-ahead (suc (suc k)) h = absurd (omega (arith, h))

filled-512 : length (filled 512 blank_bytes) ≡ 512
filled-512 =
    let many = length-replicate {A = ℕ} 256 32 in
    let more = length-replicate {A = ℕ} (512 - length blank_bytes) 0 in
    length-append blank_bytes (replicate (512 - length blank_bytes) 0) ∙ omega (arith, many, more)

-- the keys of the unit's data are none of those that the runtime is given
name-differs : (a b : Key) → (length a.unit ≡ length b.unit → ⊥) → a ≢ b
name-differs a b ne e = ne (ap (λ (k : Key). length k.unit) e)

five-seven : (n m : ℕ) → n ≡ 5 → m ≡ 7 → n ≡ m → ⊥
five-seven n m p q e = omega (arith, p, q, e)

is-other : (number : ℕ) → IsOther (record { unit = text_unit; number = number })
is-other number =
    let key : Key = record { unit = text_unit; number = number } in
    record { segment = name-differs key heap_segment_key (five-seven 5 7 refl refl); bytes = name-differs key heap_bytes_key (five-seven 5 7 refl refl); name = name-differs key ovr_name_key (five-seven 5 7 refl refl) }

pub starts : (program : FlatProgram) (choice : Choice) (R : Mention → Type 0) (item ahead : ℕ) → IsLegal program choice R → FirstsFit program → FitsRuntime program choice → HoldsTextUnit program → Contains program.order text_unit → HasText program choice item ahead → StartsText program choice item ahead
starts program choice R item ahead legal firsts fits holds listed there =
    let many = length-replicate {A = ℕ} 256 32 in
    let m = start_cells program choice in
    let first = start program choice R legal firsts item_key text_code item_datum item (record { listed = listed; unit_is = holds.is_there; datum_is = refl; placed = there.item_is; fits = omega (arith, many); small = λ k h. small-replicate 256 k }) fits (is-other 0) in
    let second = start program choice R legal firsts ahead_key text_code ahead_datum ahead (record { listed = listed; unit_is = holds.is_there; datum_is = refl; placed = there.ahead_is; fits = omega arith; small = small-ahead }) fits (is-other 1) in
    record {
      buffer = record {
        blanks = bytes-first m (item_place choice item) 0 blank_bytes (replicate (512 - length blank_bytes) 0) first;
        room = λ i h out.
            let same : 0 + i ≡ i = omega arith in
            bytes-reached m (item_place choice item) 0 (filled 512 blank_bytes) first i (omega (arith, h, filled-512)) (ap (λ j. m (address_of (item_place choice item) j)) same ∙ out);
      };
      input = λ input are. record { word = 256; ahead_is = second; left_is = none input; bytes = are };
    }
