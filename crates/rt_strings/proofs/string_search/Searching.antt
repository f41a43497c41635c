-- The routine that looks for a part of a text.
use Rattle.std.proofs.Common.{◌≡◌, ℕ, zero, suc, ◌+◌, ◌-◌, ◌*◌, ◌≤◌, ◌<◌, ◌⊎◌, inl, inr, Bool, true, false, cond, List, [], ◌∷◌, length, take, Ok, pos, negsuc, refl, sym, ap, subst, ◌∙◌, arith, ⊎_elim}
use Rattle.std.specs.Prelude.{nat_lt, nat_eq, ◌==◌, ◌&&◌}
use Rattle.std.specs.List.{starts_with}
use Rattle.std.proofs.lemmas.Bool.{cases_eq, cases_lt}
use Rattle.std.proofs.lemmas.Bool.Decides.{nat_tests}
use Rattle.common_values.specs.integers.Words.{w16, wrapping_add, wrapping_sub}
use Rattle.common_values.specs.Strings.{place_from, position_of}
use Rattle.flat_code.specs.declared.memory.Cell.TheVariants.{Known}
use Rattle.flat_code.specs.declared.tree.FlatOp.TheVariants as op
use Rattle.flat_code.specs.Tree.{Expr, Number, Op, Code, End, Loop, ◌then◌}
use Rattle.flat_code.specs.Memory.{Cells, Found, ◌>>=◌, address_of, place_after, word_bytes}
use Rattle.flat_code.specs.Program.{FlatProgram, Choice, UnitCode, runtime_key}
use Rattle.flat_code.specs.Meaning.{Frame, State, truth, activation_bytes, frame_of}
use Rattle.flat_code.specs.Legal.{StackFits}
use Rattle.flat_code.specs.Gives.{KeepsRest}
use Rattle.runtime_proofs.specs.routine_proofs.Activation.{Slot, Shut, Free, Holds, Activation, IsPlaced}
use Rattle.runtime_proofs.specs.routine_proofs.Straight.{Exit, Onward, Leaving, Came, seen_value, continued, straight, code_size}
use Rattle.runtime_proofs.specs.routine_proofs.Comes.{Does}
use Rattle.runtime_proofs.specs.routine_proofs.Entry.{entered, memory_without}
use Rattle.runtime_proofs.specs.routine_proofs.Specifications.{IsHeld}
use Rattle.runtime_proofs.proofs.routine_proofs.Replies.{next_of, taken_of, other_of, taken-so, other-so}
use Rattle.runtime_proofs.proofs.routine_proofs.Doing.{weaker-does, then-does, skip-does, straight-does, round-does, leave-does}
use Rattle.runtime_proofs.proofs.routine_proofs.Calls.{call-ends, placed, starts}
use Rattle.runtime_proofs.specs.strings_in_memory.Strings.{HasBytes, HasString, place}
use Rattle.runtime_proofs.proofs.strings_in_memory.Cells.{byte-read, plus-none, plus-one, bytes-further}
use Rattle.runtime_proofs.specs.string_loops.Pieces.{word, behind}
use Rattle.runtime_proofs.proofs.string_loops.Seen.{op-so, set-so}
use Rattle.runtime_proofs.proofs.string_loops.Counts.{decided}
use Rattle.runtime_proofs.proofs.string_loops.Entry.{string-inside}
use Rattle.rt_strings.specs.string_search.Routines.{count_places, search_start, next_place, match_step, match_round, matched, decide, search_round, position_routine}
use Rattle.rt_strings.specs.string_search.Specifications.{position_number, Searches}

-- ---- prefixes of texts, byte by byte

equal-bit : (x y : ℕ) → x ≡ y → truth (x == y) ≡ 1
equal-bit x y h = grind (arith, nat_tests)

other-bit : (x y : ℕ) → (x ≡ y → ⊥) → truth (x == y) ≡ 0
other-bit x y h = grind (arith, nat_tests)

equal-true : (x y : ℕ) → x ≡ y → nat_eq x y ≡ true
equal-true x y h = grind (arith, nat_tests)

other-false : (x y : ℕ) → (x ≡ y → ⊥) → nat_eq x y ≡ false
other-false x y h = grind (arith, nat_tests)

and-false : (b : Bool) → (b && false) ≡ false
and-false true = refl
and-false false = refl

not_zero : (n : ℕ) → n ≡ 1 → n ≡ 0 → ⊥
not_zero n p q = omega (arith, p, q)

starts-empty : (text : List ℕ) → starts_with nat_eq text [] ≡ true
starts-empty [] = refl
starts-empty (y ∷ text) = refl

starts-same : (x y : ℕ) (part text : List ℕ) → x ≡ y → starts_with nat_eq (y ∷ text) (x ∷ part) ≡ starts_with nat_eq text part
starts-same x y part text h = ap (λ b. b && starts_with nat_eq text part) (equal-true x y h)

starts-other : (x y : ℕ) (part text : List ℕ) → (x ≡ y → ⊥) → starts_with nat_eq (y ∷ text) (x ∷ part) ≡ false
starts-other x y part text h = ap (λ b. b && starts_with nat_eq text part) (other-false x y h)

starts-short : (part text : List ℕ) → length text < length part → starts_with nat_eq text part ≡ false
starts-short [] text h = absurd (omega (arith, h))
starts-short (x ∷ part) [] h = refl
starts-short (x ∷ part) (y ∷ text) h = ap (λ b. nat_eq x y && b) (starts-short part text (omega (arith, h))) ∙ and-false (nat_eq x y)

from-other : (place c : ℕ) (part text : List ℕ) → starts_with nat_eq (c ∷ text) part ≡ false → place_from (place + 1) part text ≡ place_from place part (c ∷ text)
from-other place c part text h = sym (ap (λ b. cond b place (place_from (place + 1) part text)) h)

from-here : (place c : ℕ) (part text : List ℕ) → starts_with nat_eq (c ∷ text) part ≡ true → place ≡ place_from place part (c ∷ text)
from-here place c part text h = sym (ap (λ b. cond b place (place_from (place + 1) part text)) h)

from-short : (part text : List ℕ) (place : ℕ) → length text < length part → 0 ≡ place_from place part text
from-short part [] place h = refl
from-short part (c ∷ text) place h = from-short part text (place + 1) (omega (arith, h)) ∙ from-other place c part text (starts-short part (c ∷ text) h)

-- how many places there are
abbrev places_of : ℕ → ℕ → ℕ
places_of zero len = 0
places_of (suc n) len = len + 1 - suc n

module _ (program : FlatProgram) (choice : Choice) (own : Frame) (sp : ℕ) (is_placed : IsPlaced choice own sp 14) (e : Activation) (ts ss : ℕ) (m : Cells) where
  -- in the routine: the result, the part's length, places, how many bytes are left, the place, and the two offsets
  abbrev at : Slot → Slot → Slot → Slot → Slot → ℕ → ℕ → Activation
  at result n places left here t s = record e { words = Holds ts ∷ Holds t ∷ Holds ss ∷ Holds s ∷ Shut ∷ Shut ∷ Shut ∷ result ∷ n ∷ places ∷ left ∷ here ∷ []; memory = m }

  counted : (n len t s : ℕ) → n < 256 → len < 256 → straight choice own 14 count_places (at (Holds 0) (Holds n) (Holds len) (Holds 0) (Holds 1) t s) ≡ Ok (record { exit = Onward; there = at (Holds 0) (Holds n) (Holds (places_of n len)) (Holds 0) (Holds 1) t s })
  counted zero len t s p q = other-so choice own 14 count_places (at (Holds 0) (Holds 0) (Holds len) (Holds 0) (Holds 1) t s) 0 _ refl refl refl
  counted (suc n) len t s p q =
      let a = at (Holds 0) (Holds (suc n)) (Holds len) (Holds 0) (Holds 1) t s in
      let more = wrapping_add w16 len 1 in
      let b = at (Holds 0) (Holds (suc n)) (Holds more) (Holds 0) (Holds 1) t s in
      let end = λ (v : ℕ). let r : Found Came = Ok (record { exit = Onward; there = at (Holds 0) (Holds (suc n)) (Holds v) (Holds 0) (Holds 1) t s }) in r in
      let test = next_of (taken_of count_places) in
      taken-so choice own 14 count_places a (suc n) _ refl (λ z. omega (arith, z))
      (ap (λ (found : Found Came). found >>= λ c. continued c.exit c.there (straight choice own 14 End)) (elim (decided more (suc n)) [
        | inl h ↦ let none : 0 ≡ len + 1 - suc n = omega (arith, h.0, q) in taken-so choice own 14 test b (truth (nat_lt more (suc n))) _ refl (not_zero _ h.1) (ap end none)
        | inr h ↦ let some : wrapping_sub w16 more (suc n) ≡ len + 1 - suc n = omega (arith, h.0, p, q) in other-so choice own 14 test b (truth (nat_lt more (suc n))) _ refl h.1 (ap end some)
      ]))

  start-does : (n len t s : ℕ) → n < 256 → len < 256 → m (address_of (place ts t) 0) ≡ Known n → m (address_of (place ss s) 0) ≡ Known len →
      Does program choice own sp search_start 0 (code_size search_start) (at Free Free Free Free Free t s) Onward (at (Holds 0) (Holds n) (Holds (places_of n len)) (Holds 0) (Holds 1) t s)
  start-does n len t s p q has also =
      let c1 = next_of search_start in
      let c2 = next_of c1 in
      let c3 = next_of c2 in
      let s0 = at Free Free Free Free Free t s in
      let s1 = at (Holds 0) Free Free Free Free t s in
      let s2 = at (Holds 0) (Holds n) Free Free Free t s in
      let s3 = at (Holds 0) (Holds n) (Holds len) Free Free t s in
      straight-does program choice own sp 14 is_placed search_start s0 Onward _
      (set-so choice own 14 (negsuc 1) (Number 0) c1 s0 s1 0 refl refl
      ∙ set-so choice own 14 (negsuc 3) (behind (pos 10) 0) c2 s1 s2 n (byte-read m (place_after (place ts t) 0) 0 n (ap m (plus-none ts t 0) ∙ has) p) refl
      ∙ set-so choice own 14 (negsuc 5) (behind (pos 6) 0) c3 s2 s3 len (byte-read m (place_after (place ss s) 0) 0 len (ap m (plus-none ss s 0) ∙ also) q) refl
      ∙ counted n len t s p q)

  -- ---- a part of this length

  module _ (n : ℕ) where
    abbrev st : ℕ → ℕ → ℕ → ℕ → ℕ → Activation
    st places left here t s = at (Holds 0) (Holds n) (Holds places) (Holds left) (Holds here) t s

    abbrev Match : Activation → Exit → Activation → Type 0
    Match a exit b = Does program choice own sp match_round 0 24 a exit b

    none-left : (places here t s : ℕ) → Match (st places 0 here t s) (Leaving 0) (st places 0 here t s)
    none-left places here t s =
        let a = st places 0 here t s in
        weaker-does program choice own sp match_round 0 (code_size match_round) 0 24 a (Leaving 0) a (omega arith) (omega arith)
        (straight-does program choice own sp 14 is_placed match_round a (Leaving 0) a (other-so choice own 14 match_round a 0 (record { exit = Leaving 0; there = a }) refl refl refl))

    module _ (places left here t s x y : ℕ) (short : left < 65535) (has : m (address_of (place ts t) 1) ≡ Known x) (small : x < 256) (also : m (address_of (place ss s) 1) ≡ Known y) (less : y < 256) where
      test : seen_value choice own 14 (st places (suc left) here t s) (Op op.Equal (behind (pos 10) 1) (behind (pos 6) 1)) ≡ Ok (truth (x == y))
      test = op-so choice own 14 op.Equal (behind (pos 10) 1) (behind (pos 6) 1) (st places (suc left) here t s) x y
          (byte-read m (place_after (place ts t) 1) 0 x (ap m (plus-one ts t 0) ∙ has) small)
          (byte-read m (place_after (place ss s) 1) 0 y (ap m (plus-one ss s 0) ∙ also) less)

      by-bytes : (exit : Exit) (b : Activation) → straight choice own 14 (taken_of match_round) (st places (suc left) here t s) ≡ Ok (record { exit = exit; there = b }) → (let came : Came = record { exit = exit; there = b } in continued came.exit came.there (straight choice own 14 End) ≡ Ok came) → Match (st places (suc left) here t s) exit b
      by-bytes exit b does on =
          let a = st places (suc left) here t s in
          let came : Came = record { exit = exit; there = b } in
          weaker-does program choice own sp match_round 0 (code_size match_round) 0 24 a exit b (omega arith) (omega arith)
          (straight-does program choice own sp 14 is_placed match_round a exit b
          (taken-so choice own 14 match_round a (suc left) came refl (λ z. omega (arith, z))
          (ap (λ (found : Found Came). found >>= λ c. continued c.exit c.there (straight choice own 14 End)) does ∙ on)))

      same-round : x ≡ y → Match (st places (suc left) here t s) Onward (st places left here (wrapping_add w16 t 1) (wrapping_add w16 s 1))
      same-round same =
          let a = st places (suc left) here t s in
          let fewer : wrapping_sub w16 (suc left) 1 ≡ left = omega (arith, short) in
          let there = λ (v : ℕ). let r : Found Came = Ok (record { exit = Onward; there = st places v here (wrapping_add w16 t 1) (wrapping_add w16 s 1) }) in r in
          by-bytes Onward (st places left here (wrapping_add w16 t 1) (wrapping_add w16 s 1))
          (taken-so choice own 14 (taken_of match_round) a (truth (x == y)) _ test (not_zero _ (equal-bit x y same)) (ap there fewer)) refl

      other-round : (x ≡ y → ⊥) → Match (st places (suc left) here t s) (Leaving 0) (st places (suc left) here t s)
      other-round ne =
          let a = st places (suc left) here t s in
          by-bytes (Leaving 0) a (other-so choice own 14 (taken_of match_round) a (truth (x == y)) (record { exit = Leaving 0; there = a }) test (other-bit x y ne) refl) refl

    -- so many bytes are the same, from these offsets on
    record Matched (part text : List ℕ) (places here t s : ℕ) : Type 0 where
      k : ℕ
      few : k ≤ length part
      does : Does program choice own sp (Loop match_round End) (1 + length part) (26 * (1 + length part)) (st places (length part) here t s) Onward (st places (length part - k) here (wrapping_add w16 t k) (wrapping_add w16 s k))
      verdict : ((starts_with nat_eq text part ≡ true) × (k ≡ length part)) ⊎ ((starts_with nat_eq text part ≡ false) × (k < length part))

    -- where the loop is left at once
    at-once : (places left here t s : ℕ) → t < 65536 → s < 65536 → Match (st places left here t s) (Leaving 0) (st places left here t s) →
        Does program choice own sp (Loop match_round End) 1 26 (st places left here t s) Onward (st places (left - 0) here (wrapping_add w16 t 0) (wrapping_add w16 s 0))
    at-once places left here t s p q round =
        let loop = Loop match_round End in
        let a = st places left here t s in
        let e1 : left ≡ left - 0 = omega arith in
        let e2 : t ≡ wrapping_add w16 t 0 = omega (arith, p) in
        let e3 : s ≡ wrapping_add w16 s 0 = omega (arith, q) in
        let d1 = leave-does program choice own sp match_round 0 24 a (Leaving 0) Onward a refl round in
        let d2 = subst (λ v. Does program choice own sp loop 1 26 a Onward (st places v here t s)) e1 d1 in
        let d3 = subst (λ v. Does program choice own sp loop 1 26 a Onward (st places (left - 0) here v s)) e2 d2 in
        subst (λ v. Does program choice own sp loop 1 26 a Onward (st places (left - 0) here (wrapping_add w16 t 0) v)) e3 d3

    matches : (part text : List ℕ) (places here t s : ℕ) → t < 65536 → s < 65536 → length part < 256 → length part ≤ length text → HasBytes m (place ts t) 1 part → HasBytes m (place ss s) 1 text → Matched part text places here t s
    matches [] text places here t s p q short fits has also = record {
      k = 0;
      few = omega arith;
      does = at-once places 0 here t s p q (none-left places here t s);
      verdict = inl (starts-empty text, refl);
    }
    matches (x ∷ part) [] places here t s p q short fits has also = absurd (omega (arith, fits))
    matches (x ∷ part) (y ∷ text) places here t s p q short fits has also =
        let more = matches part text places here (wrapping_add w16 t 1) (wrapping_add w16 s 1) (omega arith) (omega arith) (omega (arith, short)) (omega (arith, fits)) (bytes-further m ts t 1 part has.2) (bytes-further m ss s 1 text also.2) in
        let near : length part < 65535 = omega (arith, short) in
        ⊎_elim (λ same. go-on same (same-round places (length part) here t s x y near has.0 has.1 also.0 also.1 same) more)
        (λ ne. stop ne (other-round places (length part) here t s x y near has.0 has.1 also.0 also.1 ne)) (cases_eq x y)
      where
        go-on : x ≡ y → Match (st places (suc (length part)) here t s) Onward (st places (length part) here (wrapping_add w16 t 1) (wrapping_add w16 s 1)) → Matched part text places here (wrapping_add w16 t 1) (wrapping_add w16 s 1) → Matched (x ∷ part) (y ∷ text) places here t s
        go-on same round more =
            let t1 = wrapping_add w16 t 1 in
            let s1 = wrapping_add w16 s 1 in
            let n = length part in
            let k = more.k in
            let few = more.few in
            let loop = Loop match_round End in
            let a = st places (suc n) here t s in
            let e1 : n - k ≡ suc n - suc k = omega arith in
            let e2 : wrapping_add w16 t1 k ≡ wrapping_add w16 t (suc k) = omega arith in
            let e3 : wrapping_add w16 s1 k ≡ wrapping_add w16 s (suc k) = omega arith in
            let d1 = weaker-does program choice own sp loop (1 + 0 + (1 + n)) (2 + 24 + 26 * (1 + n)) (1 + suc n) (26 * (1 + suc n)) a Onward (st places (n - k) here (wrapping_add w16 t1 k) (wrapping_add w16 s1 k)) (omega arith) (omega arith)
            (round-does program choice own sp match_round 0 24 (1 + n) (26 * (1 + n)) a (st places n here t1 s1) Onward (st places (n - k) here (wrapping_add w16 t1 k) (wrapping_add w16 s1 k)) round more.does) in
            let d2 = subst (λ v. Does program choice own sp loop (1 + suc n) (26 * (1 + suc n)) a Onward (st places v here (wrapping_add w16 t1 k) (wrapping_add w16 s1 k))) e1 d1 in
            let d3 = subst (λ v. Does program choice own sp loop (1 + suc n) (26 * (1 + suc n)) a Onward (st places (suc n - suc k) here v (wrapping_add w16 s1 k))) e2 d2 in
            record {
              k = suc k;
              few = omega (arith, few);
              does = subst (λ v. Does program choice own sp loop (1 + suc n) (26 * (1 + suc n)) a Onward (st places (suc n - suc k) here (wrapping_add w16 t (suc k)) v)) e3 d3;
              verdict = elim more.verdict [
                | inl h ↦ inl (starts-same x y part text same ∙ h.0, ap suc h.1)
                | inr h ↦ inr (starts-same x y part text same ∙ h.0, omega (arith, h.1))
              ];
            }

        stop : (x ≡ y → ⊥) → Match (st places (suc (length part)) here t s) (Leaving 0) (st places (suc (length part)) here t s) → Matched (x ∷ part) (y ∷ text) places here t s
        stop ne round =
            let n = length part in
            let a = st places (suc n) here t s in
            let b = st places (suc n - 0) here (wrapping_add w16 t 0) (wrapping_add w16 s 0) in
            record {
              k = 0;
              few = omega arith;
              does = weaker-does program choice own sp (Loop match_round End) 1 26 (1 + suc n) (26 * (1 + suc n)) a Onward b (omega arith) (omega arith) (at-once places (suc n) here t s p q round);
              verdict = inr (starts-other x y part text ne, omega arith);
            }

    -- ---- place by place

    next-does : (p left here t s : ℕ) → Does program choice own sp next_place 0 (code_size next_place) (st (suc p) left here t s) Onward (st (suc p) n here t s)
    next-does p left here t s = straight-does program choice own sp 14 is_placed next_place (st (suc p) left here t s) Onward _
        (taken-so choice own 14 next_place (st (suc p) left here t s) (suc p) _ refl (λ z. omega (arith, z)) refl)

    last-does : (left here t s : ℕ) → Does program choice own sp next_place 0 (code_size next_place) (st 0 left here t s) (Leaving 0) (st 0 left here t s)
    last-does left here t s = straight-does program choice own sp 14 is_placed next_place (st 0 left here t s) (Leaving 0) _
        (other-so choice own 14 next_place (st 0 left here t s) 0 _ refl refl refl)

    found-does : (places here t s : ℕ) → Does program choice own sp decide 0 (code_size decide) (st places 0 here t s) (Leaving 0) (at (Holds here) (Holds n) (Holds places) (Holds 0) (Holds here) t s)
    found-does places here t s = straight-does program choice own sp 14 is_placed decide (st places 0 here t s) (Leaving 0) _
        (other-so choice own 14 decide (st places 0 here t s) 0 _ refl refl refl)

    on-does : (p k here t s : ℕ) → p < 65535 → n < 256 → k < n → here < 65535 → t < 65536 → s < 65536 →
        Does program choice own sp decide 0 (code_size decide) (st (suc p) (n - k) here (wrapping_add w16 t k) (wrapping_add w16 s k)) Onward (st p (n - k) (here + 1) t (wrapping_add w16 s 1))
    on-does p k here t s small short less near q r =
        let left = n - k in
        let some : left ≡ 0 → ⊥ = λ z. omega (arith, z, less) in
        let a = st (suc p) left here (wrapping_add w16 t k) (wrapping_add w16 s k) in
        let there = λ (p' here' t' s' : ℕ). let r : Found Came = Ok (record { exit = Onward; there = st p' left here' t' s' }) in r in
        let back = wrapping_sub w16 n left in
        let t' = wrapping_sub w16 (wrapping_add w16 t k) back in
        let s' = wrapping_add w16 (wrapping_sub w16 (wrapping_add w16 s k) back) 1 in
        let e0 : back ≡ k = omega (arith, short, less) in
        let e1 : wrapping_sub w16 (suc p) 1 ≡ p = omega (arith, small) in
        let e2 : wrapping_add w16 here 1 ≡ here + 1 = omega (arith, near) in
        let e3 : t' ≡ t = omega (arith, e0, q, short, less) in
        let e4 : s' ≡ wrapping_add w16 s 1 = omega (arith, e0, r, short, less) in
        straight-does program choice own sp 14 is_placed decide a Onward _
        (taken-so choice own 14 decide a left _ refl some
        (ap (λ v. there v (wrapping_add w16 here 1) t' s') e1
        ∙ ap (λ v. there p v t' s') e2
        ∙ ap (λ v. there p (here + 1) v s') e3
        ∙ ap (λ v. there p (here + 1) t v) e4))

  -- ---- the whole search

  module _ (x : ℕ) (tail : List ℕ) (short : length (x ∷ tail) < 256) where
    abbrev part : List ℕ
    part = x ∷ tail

    abbrev n : ℕ
    n = length (x ∷ tail)

    abbrev loop : Code
    loop = Loop search_round End

    record Searched (len places left here t s r : ℕ) : Type 0 where
      places' : ℕ
      left' : ℕ
      here' : ℕ
      t' : ℕ
      s' : ℕ
      does : Does program choice own sp loop (258 * (1 + len)) (6800 * (1 + len)) (st n places left here t s) Onward (at (Holds r) (Holds n) (Holds places') (Holds left') (Holds here') t' s')

    nowhere : (len left here t s r : ℕ) → 0 ≡ r → Searched len 0 left here t s r
    nowhere len left here t s r e =
        let a = st n 0 left here t s in
        record {
          places' = 0;
          left' = left;
          here' = here;
          t' = t;
          s' = s;
          does = subst (λ v. Does program choice own sp loop (258 * (1 + len)) (6800 * (1 + len)) a Onward (at (Holds v) (Holds n) (Holds 0) (Holds left) (Holds here) t s)) e
              (weaker-does program choice own sp loop (1 + 0) (2 + code_size next_place) (258 * (1 + len)) (6800 * (1 + len)) a Onward a (omega arith) (omega arith)
              (leave-does program choice own sp search_round 0 (code_size next_place) a (Leaving 0) Onward a refl
              (skip-does program choice own sp next_place (Loop match_round End then decide) 0 (code_size next_place) a (Leaving 0) a tt (last-does n left here t s))));
        }

    -- a round that looks at a place
    round-so : (p left here t s : ℕ) (text : List ℕ) (found : Matched n part text (suc p) here t s) (exit : Exit) (b : Activation) → Does program choice own sp decide 0 (code_size decide) (st n (suc p) (n - found.k) here (wrapping_add w16 t found.k) (wrapping_add w16 s found.k)) exit b →
        Does program choice own sp search_round 257 6790 (st n (suc p) left here t s) exit b
    round-so p left here t s text found exit b last =
        let a = st n (suc p) left here t s in
        let c = st n (suc p) n here t s in
        let d = st n (suc p) (n - found.k) here (wrapping_add w16 t found.k) (wrapping_add w16 s found.k) in
        weaker-does program choice own sp search_round (0 + (1 + n + 0)) (code_size next_place + (26 * (1 + n) + code_size decide)) 257 6790 a exit b (omega (arith, short)) (omega (arith, short))
        (then-does program choice own sp next_place (Loop match_round End then decide) 0 (code_size next_place) (1 + n + 0) (26 * (1 + n) + code_size decide) a c exit b (next-does n p left here t s)
        (then-does program choice own sp (Loop match_round End) decide (1 + n) (26 * (1 + n)) 0 (code_size decide) c d exit b found.does last))

    search : (text : List ℕ) (places left here t s : ℕ) → length text < 256 → here + length text < 65535 → t < 65536 → s < 65536 → places ≡ length text + 1 - n → HasBytes m (place ts t) 1 part → HasBytes m (place ss s) 1 text → Searched (length text) places left here t s (place_from here part text)
    search [] places left here t s small near q r e has also =
        let none : 0 ≡ places = omega (arith, e) in
        subst (λ v. Searched 0 v left here t s 0) none (nowhere 0 left here t s 0 refl)
    search (c ∷ text) places left here t s small near q r e has also = elim (cases_lt (length (c ∷ text)) n) [ inl h ↦ too-short h | inr h ↦ try-here h (λ p left is. search text p left (here + 1) t (wrapping_add w16 s 1) (omega (arith, small)) (omega (arith, near)) q (omega arith) is has (bytes-further m ss s 1 text also.2)) ]
      where
        too-short : length (c ∷ text) < n → Searched (length (c ∷ text)) places left here t s (place_from here part (c ∷ text))
        too-short h =
            let none : 0 ≡ places = omega (arith, e, h) in
            subst (λ v. Searched (length (c ∷ text)) v left here t s (place_from here part (c ∷ text))) none (nowhere (length (c ∷ text)) left here t s (place_from here part (c ∷ text)) (from-short part (c ∷ text) here h))

        try-here : n ≤ length (c ∷ text) → ((p left : ℕ) → p ≡ length text + 1 - n → Searched (length text) p left (here + 1) t (wrapping_add w16 s 1) (place_from (here + 1) part text)) → Searched (length (c ∷ text)) places left here t s (place_from here part (c ∷ text))
        try-here h again =
            let p = length text + 1 - n in
            let some : suc p ≡ places = omega (arith, e, h) in
            subst (λ v. Searched (length (c ∷ text)) v left here t s (place_from here part (c ∷ text))) some
            (by-match p (omega (arith, small)) refl (matches n part (c ∷ text) (suc p) here t s q r short h has also))
          where
            by-match : (p : ℕ) → p < 65535 → p ≡ length text + 1 - n → Matched n part (c ∷ text) (suc p) here t s → Searched (length (c ∷ text)) (suc p) left here t s (place_from here part (c ∷ text))
            by-match p less is found = elim found.verdict [ inl v ↦ here-it-is v | inr v ↦ go-on v ]
              where
                here-it-is : (starts_with nat_eq (c ∷ text) part ≡ true) × (found.k ≡ n) → Searched (length (c ∷ text)) (suc p) left here t s (place_from here part (c ∷ text))
                here-it-is v =
                    let t1 = wrapping_add w16 t found.k in
                    let s1 = wrapping_add w16 s found.k in
                    let len = length text in
                    let none : 0 ≡ n - found.k = let w = v.1 in omega (arith, w) in
                    let last = subst (λ l. Does program choice own sp decide 0 (code_size decide) (st n (suc p) l here t1 s1) (Leaving 0) (at (Holds here) (Holds n) (Holds (suc p)) (Holds 0) (Holds here) t1 s1)) none (found-does n (suc p) here t1 s1) in
                    let end = at (Holds here) (Holds n) (Holds (suc p)) (Holds 0) (Holds here) t1 s1 in
                    record {
                      places' = suc p;
                      left' = 0;
                      here' = here;
                      t' = t1;
                      s' = s1;
                      does = subst (λ r. Does program choice own sp loop (258 * (1 + suc len)) (6800 * (1 + suc len)) (st n (suc p) left here t s) Onward (at (Holds r) (Holds n) (Holds (suc p)) (Holds 0) (Holds here) t1 s1)) (from-here here c part text v.0)
                          (weaker-does program choice own sp loop (1 + 257) (2 + 6790) (258 * (1 + suc len)) (6800 * (1 + suc len)) (st n (suc p) left here t s) Onward end (omega arith) (omega arith)
                          (leave-does program choice own sp search_round 257 6790 (st n (suc p) left here t s) (Leaving 0) Onward end refl
                          (round-so p left here t s (c ∷ text) found (Leaving 0) end last)));
                    }

                go-on : (starts_with nat_eq (c ∷ text) part ≡ false) × (found.k < n) → Searched (length (c ∷ text)) (suc p) left here t s (place_from here part (c ∷ text))
                go-on v =
                    let k = found.k in
                    let len = length text in
                    let s1 = wrapping_add w16 s 1 in
                    let more = again p (n - k) is in
                    let b = st n p (n - k) (here + 1) t s1 in
                    let end = at (Holds (place_from (here + 1) part text)) (Holds n) (Holds more.places') (Holds more.left') (Holds more.here') more.t' more.s' in
                    record {
                      places' = more.places';
                      left' = more.left';
                      here' = more.here';
                      t' = more.t';
                      s' = more.s';
                      does = subst (λ r. Does program choice own sp loop (258 * (1 + suc len)) (6800 * (1 + suc len)) (st n (suc p) left here t s) Onward (at (Holds r) (Holds n) (Holds more.places') (Holds more.left') (Holds more.here') more.t' more.s')) (from-other here c part text v.0)
                          (weaker-does program choice own sp loop (1 + 257 + 258 * (1 + len)) (2 + 6790 + 6800 * (1 + len)) (258 * (1 + suc len)) (6800 * (1 + suc len)) (st n (suc p) left here t s) Onward end (omega arith) (omega arith)
                          (round-does program choice own sp search_round 257 6790 (258 * (1 + len)) (6800 * (1 + len)) (st n (suc p) left here t s) b Onward end
                          (round-so p left here t s (c ∷ text) found Onward b (on-does n p k here t s less short v.1 (omega (arith, near)) q r)) more.does));
                    }

  -- ---- from the first statement to the last

  record Answered (n r t s : ℕ) : Type 0 where
    places' : ℕ
    left' : ℕ
    here' : ℕ
    t' : ℕ
    s' : ℕ
    does : Does program choice own sp position_routine.body 66304 2097152 (at Free Free Free Free Free t s) Onward (at (Holds r) (Holds n) (Holds places') (Holds left') (Holds here') t' s')

  after-start : (n len t s turns work : ℕ) (b : Activation) → n < 256 → len < 256 → m (address_of (place ts t) 0) ≡ Known n → m (address_of (place ss s) 0) ≡ Known len → turns ≤ 66304 → work ≤ 2000000 →
      Does program choice own sp (Loop search_round End) turns work (at (Holds 0) (Holds n) (Holds (places_of n len)) (Holds 0) (Holds 1) t s) Onward b →
      Does program choice own sp position_routine.body 66304 2097152 (at Free Free Free Free Free t s) Onward b
  after-start n len t s turns work b p q has also u v does =
      weaker-does program choice own sp position_routine.body (0 + turns) (code_size search_start + work) 66304 2097152 (at Free Free Free Free Free t s) Onward b (omega (arith, u)) (omega (arith, v))
      (then-does program choice own sp search_start (Loop search_round End) 0 (code_size search_start) turns work (at Free Free Free Free Free t s) (at (Holds 0) (Holds n) (Holds (places_of n len)) (Holds 0) (Holds 1) t s) Onward b (start-does n len t s p q has also) does)

  answers : (part text : List ℕ) (t s : ℕ) → t < 65536 → s < 65536 → HasString m (place ts t) part → HasString m (place ss s) text → Answered (length part) (position_of part text) t s
  answers [] text t s p q has also =
      let a = at (Holds 0) (Holds 0) (Holds 0) (Holds 0) (Holds 1) t s in
      record {
        places' = 0;
        left' = 0;
        here' = 1;
        t' = t;
        s' = s;
        does = after-start 0 (length text) t s (1 + 0) (2 + code_size next_place) a (omega arith) also.short has.size also.size (omega arith) (omega arith)
            (leave-does program choice own sp search_round 0 (code_size next_place) a (Leaving 0) Onward a refl
            (skip-does program choice own sp next_place (Loop match_round End then decide) 0 (code_size next_place) a (Leaving 0) a tt (last-does 0 0 1 t s)));
      }
  answers (x ∷ part) text t s p q has also =
      let len = length text in
      let small = also.short in
      let more = search x part has.short text (len + 1 - length (x ∷ part)) 0 1 t s small (omega (arith, small)) p q refl has.bytes also.bytes in
      record {
        places' = more.places';
        left' = more.left';
        here' = more.here';
        t' = more.t';
        s' = more.s';
        does = after-start (length (x ∷ part)) len t s (258 * (1 + len)) (6800 * (1 + len)) (at (Holds (place_from 1 (x ∷ part) text)) (Holds (length (x ∷ part))) (Holds more.places') (Holds more.left') (Holds more.here') more.t' more.s') has.short small has.size also.size (omega (arith, small)) (omega (arith, small)) more.does;
      }

-- ---- the promise

pub searches : (program : FlatProgram) (choice : Choice) (unit : UnitCode) → StackFits program choice → IsHeld program (runtime_key position_number) unit position_routine → Searches program choice
searches program choice unit fits held_so ts t ss s part text f state words stack can also =
    let key = runtime_key position_number in
    let room : activation_bytes position_routine ≤ f.sp = omega (arith, stack.room) in
    let args = ts ∷ t ∷ ss ∷ s ∷ [] in
    let own = frame_of key.unit unit position_routine f in
    let here = placed program choice key unit position_routine held_so fits args f state refl room stack.inside in
    let start = entered choice f.sp 10 args state in
    let m = memory_without choice f.sp state.cells in
    let done = answers program choice own f.sp here start ts ss m part text t s words.1.0 words.1.1.1.0 (string-inside choice f.sp state.cells (place ts t) part can.off can.there) (string-inside choice f.sp state.cells (place ss s) text also.off also.there) in
    call-ends program choice key unit position_routine held_so fits args f state refl room stack.inside
    (λ address. ⊥) (λ after bytes. (bytes ≡ word_bytes (position_of part text)) × KeepsRest state after) 66304 2097152 Onward _ (word_bytes (position_of part text)) tt
    (done.does _ (starts program choice key unit position_routine held_so fits args f state refl room stack.inside 4 words))
    refl
    (λ x free. refl)
    (λ after left. (refl, record { flag = left.flag; input = left.input; out = left.out; err = left.err }))
