-- What stands in memory where the variable is filled, and that it may be moved.
use Rattle.std.proofs.Common.{◌≡◌, ℕ, zero, suc, ◌+◌, ◌-◌, ◌<◌, ◌≤◌, List, ◌++◌, length, take, sym, ap, ◌∙◌, arith, length-append}
use Rattle.std.specs.Prelude.{replicate}
use Rattle.std.proofs.lemmas.List.{length-replicate}
use Rattle.common_values.specs.integers.Words.{w16, wrapping_add}
use Rattle.flat_code.specs.declared.memory.Place.{Place}
use Rattle.flat_code.specs.declared.memory.Cell.TheVariants.{Known, Outside}
use Rattle.flat_code.specs.Memory.{Cells, address_of, put, laid}
use Rattle.flat_code.specs.Program.{Choice}
use Rattle.flat_code.proofs.Shut.{put_other}
use Rattle.runtime_proofs.specs.strings_in_memory.Strings.{HasBytes, HasString, IsReached, IsIn, CanMove, place}
use Rattle.runtime_proofs.proofs.strings_in_memory.Cells.{put-same, bytes-kept, apart-in, bytes-front, laid-other, laid-has, bytes-small}
use Rattle.runtime_proofs.specs.string_loops.Laid.{laid_back}
use Rattle.runtime_proofs.proofs.string_loops.BackwardLoop.{laid_back-other, laid_back-reached, laid_back-has, reached-still}
use Rattle.runtime_proofs.proofs.string_loops.Bytes.{address-shift, bytes-append, bytes-shift, bytes-unshift}
use Rattle.runtime_proofs.specs.text_memory.Data.{HasItem}
use Rattle.runtime_proofs.proofs.text_memory.Buffer.{laid-reached}
use Rattle.rt_text.specs.write_text.Specifications.{IsRoom}
use Rattle.rt_text.proofs.write_text.MadeText.{Small}
use Rattle.rt_text.proofs.write_numbers.Digits.{small-at}

-- fewer of the same bytes
fewer-blanks : (m : Cells) (p : Place) (i n d : ℕ) → d ≤ n → HasBytes m p i (replicate n 32) → HasBytes m p i (replicate d 32)
fewer-blanks m p i n zero h has = tt
fewer-blanks m p i zero (suc d) h has = absurd (omega (arith, h))
fewer-blanks m p i (suc n) (suc d) h has = (has.0, has.1, fewer-blanks m p (i + 1) n d (omega (arith, h)) has.2)

-- the buffer with digits at its end, and a variable that lies apart from it
module _ (choice : Choice) (item ts t size before : ℕ) (m : Cells) (text : List ℕ) (has_item : HasItem choice item m) (small : Small text) (few : length text ≤ 11) (ends : before + length text ≡ 507) (size_small : size < 256) (room : IsReached m (place ts t) (1 + size))
    (apart : (i j : ℕ) → i < 512 → j < 1 + size → address_of (place choice.data_segment item) i ≡ address_of (place ts t) j → ⊥) where
  abbrev ds : ℕ
  ds = choice.data_segment

  abbrev buffer : Place
  buffer = place ds item

  abbrev variable : Place
  variable = place ts t

  abbrev from : ℕ
  from = wrapping_add w16 item before

  abbrev pub digits : Cells
  digits = laid_back m buffer (before + 1) text

  ne-item : (i j : ℕ) → i < 512 → j < 512 → i < j → address_of buffer i ≡ address_of buffer j → ⊥
  ne-item i j p q h e = omega (arith, p, q, h, e)

  pub digits-reached : (j : ℕ) → j < 1 + size → digits (address_of variable j) ≡ Outside → ⊥
  digits-reached j h = laid_back-reached m buffer (before + 1) text (address_of variable j) (room j h)

  text-there : HasBytes digits (place ds from) 1 text
  text-there = bytes-unshift digits ds item before 1 (before + 1) text (omega arith) (laid_back-has m ds item (before + 1) text (omega (arith, ends)) (small-at text small))

  -- so many blanks and so many bytes
  module _ (d r : ℕ) (fits : d + r ≤ size) where
    abbrev due_blanks : List ℕ
    due_blanks = replicate d 32

    abbrev pub sized : Cells
    sized = put digits (address_of variable 0) (Known (d + r))

    abbrev pub with_blanks : Cells
    with_blanks = laid sized variable 1 due_blanks

    many : length due_blanks ≡ d
    many = length-replicate {A = ℕ} d 32

    -- the first half of the buffer is as it was
    blank-same : (j : ℕ) → j < 256 → sized (address_of buffer j) ≡ m (address_of buffer j)
    blank-same j h =
        put_other digits (address_of variable 0) (Known (d + r)) (address_of buffer j) (apart j 0 (omega (arith, h)) (omega arith))
        ∙ laid_back-other m buffer (before + 1) text (address_of buffer j) (λ i g e. ne-item j (before + 1 + i) (omega (arith, h)) (omega (arith, g, ends)) (omega (arith, h, few, ends)) e)

    pub blanks-there : HasBytes sized (place ds (wrapping_add w16 item 0)) 1 due_blanks
    blanks-there =
        let all = has_item.blanks in
        let some = fewer-blanks m buffer 1 255 d (omega (arith, fits, size_small)) all.2 in
        bytes-unshift sized ds item 0 1 1 due_blanks (omega arith) (bytes-kept m sized buffer 1 due_blanks (λ k h. blank-same (1 + k) (omega (arith, h, many, fits, size_small))) some)

    pub blanks-room : IsReached sized variable (1 + length due_blanks)
    blanks-room j h = reached-still digits (address_of variable 0) (d + r) (address_of variable j) (digits-reached j (omega (arith, h, many, fits)))

    pub blanks-can : CanMove variable (place ds (wrapping_add w16 item 0)) (1 + length due_blanks)
    blanks-can i j p q e = apart (0 + j) i (omega (arith, q, many, fits, size_small)) (omega (arith, p, q, many, fits)) (sym (e ∙ address-shift ds item 0 j))

    -- the second half but for the digits is as they left it
    digit-same : (j : ℕ) → j < 512 → with_blanks (address_of buffer j) ≡ digits (address_of buffer j)
    digit-same j h =
        laid-other sized variable 1 due_blanks (address_of buffer j) (λ i g e. apart j (1 + i) h (omega (arith, g, many, fits)) e)
        ∙ put_other digits (address_of variable 0) (Known (d + r)) (address_of buffer j) (apart j 0 h (omega arith))

    pub bytes-there : HasBytes with_blanks (place ds from) 1 (take r text)
    bytes-there =
        bytes-front with_blanks (place ds from) 1 r text
        (bytes-kept digits with_blanks (place ds from) 1 text (λ k h. let same = address-shift ds item before (1 + k) in ap with_blanks same ∙ digit-same (before + (1 + k)) (omega (arith, h, ends)) ∙ ap digits (sym same)) text-there)

    pub bytes-room : length (take r text) ≤ r → IsReached with_blanks (place ts (wrapping_add w16 t d)) (1 + length (take r text))
    bytes-room short j h out =
        laid-reached sized variable 1 due_blanks (address_of variable (d + j)) (reached-still digits (address_of variable 0) (d + r) (address_of variable (d + j)) (digits-reached (d + j) (omega (arith, h, short, fits)))) (ap with_blanks (sym (address-shift ts t d j)) ∙ out)

    pub bytes-can : length (take r text) ≤ r → length (take r text) ≤ length text → CanMove (place ts (wrapping_add w16 t d)) (place ds from) (1 + length (take r text))
    bytes-can short less i j p q e = apart (before + j) (d + i) (omega (arith, q, less, ends)) (omega (arith, p, q, short, fits)) (sym (address-shift ds item before j) ∙ sym e ∙ address-shift ts t d i)

    -- ---- what is left

    abbrev pub with_bytes : Cells
    with_bytes = laid with_blanks (place ts (wrapping_add w16 t d)) 1 (take r text)

    -- the bytes of the text go behind the due_blanks
    bytes-off : length (take r text) ≤ r → (j : ℕ) → j < 512 → with_bytes (address_of buffer j) ≡ with_blanks (address_of buffer j)
    bytes-off short j h = laid-other with_blanks (place ts (wrapping_add w16 t d)) 1 (take r text) (address_of buffer j) (λ i g e. apart j (d + (1 + i)) h (omega (arith, g, short, fits)) (e ∙ address-shift ts t d (1 + i)))

    pub item-stays : length (take r text) ≤ r → HasItem choice item with_bytes
    item-stays short = record {
      blanks = bytes-kept m with_bytes buffer 0 (replicate 256 32) (λ k h. let all = length-replicate {A = ℕ} 256 32 in
          bytes-off short (0 + k) (omega (arith, h, all))
          ∙ laid-other sized variable 1 due_blanks (address_of buffer (0 + k)) (λ i g e. apart (0 + k) (1 + i) (omega (arith, h, all)) (omega (arith, g, many, fits)) e)
          ∙ blank-same (0 + k) (omega (arith, h, all))) has_item.blanks;
      room = λ j h. laid-reached with_blanks (place ts (wrapping_add w16 t d)) 1 (take r text) (address_of buffer j) (laid-reached sized variable 1 due_blanks (address_of buffer j) (reached-still digits (address_of variable 0) (d + r) (address_of buffer j) (laid_back-reached m buffer (before + 1) text (address_of buffer j) (has_item.room j h))));
    }

    -- nothing else is changed
    pub others-stay : length (take r text) ≤ r → (x : ℕ) → (IsRoom choice item x → ⊥) → (IsIn variable (1 + (d + length (take r text))) x → ⊥) → with_bytes x ≡ m x
    others-stay short x no_room no_byte =
        laid-other with_blanks (place ts (wrapping_add w16 t d)) 1 (take r text) x (λ i g e. no_byte (d + (1 + i), omega (arith, g), e ∙ address-shift ts t d (1 + i)))
        ∙ laid-other sized variable 1 due_blanks x (λ i g e. no_byte (1 + i, omega (arith, g, many), e))
        ∙ put_other digits (address_of variable 0) (Known (d + r)) x (λ e. no_byte (0, omega arith, e))
        ∙ laid_back-other m buffer (before + 1) text x (λ i g e. let same : before + 1 + i ≡ 256 + (before - 255 + i) = omega (arith, ends, few) in no_room (before - 255 + i, omega (arith, g, ends, few), e ∙ ap (address_of buffer) same))

    -- the variable holds its text
    pub text-stands : length (take r text) ≡ r → HasString with_bytes variable (due_blanks ++ take r text)
    text-stands exact =
        let long = length-append due_blanks (take r text) in
        let whole : d + r ≡ length (due_blanks ++ take r text) = omega (arith, long, many, exact) in
        let first = laid-has sized ts t 1 due_blanks (omega (arith, many, fits, size_small)) (bytes-small sized (place ds (wrapping_add w16 item 0)) 1 due_blanks blanks-there) in
        let second = laid-has with_blanks ts (wrapping_add w16 t d) 1 (take r text) (omega (arith, exact, fits, size_small)) (bytes-small with_blanks (place ds from) 1 (take r text) bytes-there) in
        let kept = bytes-kept with_blanks with_bytes variable 1 due_blanks
        (λ k h. laid-other with_blanks (place ts (wrapping_add w16 t d)) 1 (take r text) (address_of variable (1 + k)) (λ i g e. apart-in ts t (1 + k) (d + (1 + i)) (omega (arith, h, many)) (omega (arith, g, exact, fits, size_small)) (e ∙ address-shift ts t d (1 + i)))) first in
        record {
          size =
              laid-other with_blanks (place ts (wrapping_add w16 t d)) 1 (take r text) (address_of variable 0) (λ i g e. apart-in ts t 0 (d + (1 + i)) (omega arith) (omega (arith, g, exact, fits, size_small)) (e ∙ address-shift ts t d (1 + i)))
              ∙ laid-other sized variable 1 due_blanks (address_of variable 0) (λ i g e. apart-in ts t 0 (1 + i) (omega arith) (omega (arith, g, many, fits, size_small)) e)
              ∙ put-same digits (address_of variable 0) (Known (d + r))
              ∙ ap Known whole;
          short = omega (arith, whole, fits, size_small);
          bytes = bytes-append with_bytes variable 1 (1 + d) due_blanks (take r text) (omega (arith, many)) kept (bytes-shift with_bytes ts t d 1 (1 + d) (take r text) (omega arith) second);
        }
