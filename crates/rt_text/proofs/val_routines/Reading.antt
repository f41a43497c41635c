-- The loops of Val: blanks and tabs, and then a numeral.
use Rattle.std.proofs.Common.{◌≡◌, ℕ, suc, ◌+◌, ◌*◌, ◌/◌, ◌%◌, ◌<◌, ◌≤◌, Bool, true, false, cond, List, [], ◌∷◌, ◌++◌, length, drop, Option, Some, Result, Ok, Err, ℤ, negsuc, refl, ap, ◌∙◌, arith}
use Rattle.std.specs.Prelude.{◌==◌, bit_or}
use Rattle.std.specs.List.{prefix_len}
use Rattle.std.specs.Option.{ok_or, option_map_or}
use Rattle.common_values.specs.integers.Words.{w16, wrapping_add, wrapping_sub}
use Rattle.common_values.specs.declared.numerals.Stage.{Stage}
use Rattle.common_values.specs.declared.numerals.Stage.TheVariants as stages
use Rattle.common_values.specs.Numerals.{radix_of, greatest_magnitude, signed, next_stage, value_at, IsBounded, numeral_from, is_gap_byte, gap_length}
use Rattle.common_values.proofs.NumeralLemmas.{next_bounded}
use Rattle.flat_code.specs.declared.memory.Cell.TheVariants.{Known}
use Rattle.flat_code.specs.Tree.{Code, End, If, Loop, ◌then◌}
use Rattle.flat_code.specs.Memory.{Found, address_of, place_after}
use Rattle.flat_code.specs.Program.{FlatProgram, Choice}
use Rattle.flat_code.specs.Meaning.{Frame, truth}
use Rattle.runtime_proofs.specs.routine_proofs.Activation.{Slot, Shut, Holds, Activation, IsPlaced}
use Rattle.runtime_proofs.specs.routine_proofs.Straight.{Exit, Onward, Leaving, Came, straight, code_size}
use Rattle.runtime_proofs.specs.routine_proofs.Comes.{Does}
use Rattle.runtime_proofs.proofs.routine_proofs.Doing.{weaker-does, then-does, straight-does, round-does, leave-does}
use Rattle.runtime_proofs.specs.strings_in_memory.Strings.{HasBytes, place}
use Rattle.runtime_proofs.proofs.strings_in_memory.Cells.{byte-read, plus-one, bytes-further}
use Rattle.runtime_proofs.specs.string_loops.Pieces.{word, behind, leave}
use Rattle.runtime_proofs.proofs.string_loops.Seen.{set-so}
use Rattle.runtime_proofs.proofs.text_memory.Effects.{taken-does, other-does}
use Rattle.rt_text.specs.numeral_steps.Stages.{stage_number, has_minus, has_dollar, magnitude_of, numeral_words, stage_words, IsAt, at_stage, at_none}
use Rattle.rt_text.specs.numeral_steps.Step.{is_number, numeral_step}
use Rattle.rt_text.proofs.numeral_steps.Digits.{or-bits}
use Rattle.rt_text.proofs.numeral_steps.Stepping.{steps-on}
use Rattle.rt_text.specs.val_routines.Routines.{next_byte, pass_byte, is_gap, gap_round, go_on, numeral_round}

-- ---- how a numeral ends: it is whole, or broken off at a place

pub data Finished : Result ℤ ℕ → ℕ → List Slot → Type 0 where
  whole : (byte q digit : ℕ) (n x : Bool) (m : ℕ) → m ≤ greatest_magnitude n → Finished (Ok (signed n m)) q (stage_words byte (stages.Digits n x m) digit)
  broken : (byte q stage sign radix high low digit : ℕ) → (stage ≡ 3 → ⊥) → Finished (Err q) q (numeral_words byte stage sign radix high low digit)

finished : (stage : Stage) (q byte digit : ℕ) → IsBounded stage → Finished (ok_or (value_at stage) q) q (stage_words byte stage digit)
finished stages.Start q byte digit bounded = broken byte q 0 0 10 0 0 digit (λ z. omega (arith, z))
finished (stages.Signed n) q byte digit bounded = broken byte q 1 (truth n) 10 0 0 digit (λ z. omega (arith, z))
finished (stages.Dollar n) q byte digit bounded = broken byte q 2 (truth n) 16 0 0 digit (λ z. omega (arith, z))
finished (stages.Digits n x m) q byte digit bounded = whole byte q digit n x m bounded

goes-on : (stage : Stage) → truth (stage_number stage == 4) ≡ 0
goes-on stages.Start = refl
goes-on (stages.Signed n) = refl
goes-on (stages.Dollar n) = refl
goes-on (stages.Digits n x m) = refl

-- ---- gaps

gap-more : (b : ℕ) (text : List ℕ) → is_gap_byte b ≡ true → gap_length (b ∷ text) ≡ suc (gap_length text)
gap-more b text e = let next : 1 + gap_length text ≡ suc (gap_length text) = omega arith in ap (λ t. cond t (1 + prefix_len is_gap_byte text) 0) e ∙ next

gap-none : (b : ℕ) (text : List ℕ) → is_gap_byte b ≡ false → gap_length (b ∷ text) ≡ 0
gap-none b text e = ap (λ t. cond t (1 + prefix_len is_gap_byte text) 0) e

set-so-far : (b : Bool) → b ≡ true → truth b ≡ 0 → ⊥
set-so-far b e z = let one : truth b ≡ 1 = ap truth e in omega (arith, one, z)

less-one : (n : ℕ) → n < 65535 → wrapping_sub w16 (suc n) 1 ≡ n
less-one n h = omega (arith, h)

module _ (program : FlatProgram) (choice : Choice) (own : Frame) (sp : ℕ) (is_placed : IsPlaced choice own sp 10) (e : Activation) (segment offset : ℕ) where
  abbrev pub front : List Slot
  front = Holds segment ∷ Holds offset ∷ Shut ∷ Shut ∷ Shut ∷ []

  -- a pointer to the byte before the next one, how many are left, and the place of the next one
  abbrev pub back : ℕ → ℕ → ℕ → List Slot
  back p left n = Holds segment ∷ Holds p ∷ Holds left ∷ Holds n ∷ []

  abbrev pub at : List Slot → ℕ → ℕ → ℕ → Activation
  at words p left n = record e { words = front ++ (words ++ back p left n) }

  abbrev Goes : Code → ℕ → ℕ → Activation → Exit → Activation → Type 0
  Goes code turns work a exit b = Does program choice own sp code turns work a exit b

  -- ---- one byte

  module _ (byte stage sign radix high low digit p : ℕ) where
    abbrev words_with : ℕ → List Slot
    words_with b = numeral_words b stage sign radix high low digit

    loaded : (left n b : ℕ) → e.memory (address_of (place segment p) 1) ≡ Known b → b < 256 → Goes next_byte 0 2 (at (words_with byte) p left n) Onward (at (words_with b) p left n)
    loaded left n b has small =
        straight-does program choice own sp 10 is_placed next_byte (at (words_with byte) p left n) Onward (at (words_with b) p left n)
        (set-so choice own 10 (negsuc 1) (behind (negsuc 17) 1) End (at (words_with byte) p left n) (at (words_with b) p left n) b (byte-read e.memory (place_after (place segment p) 1) 0 b (ap e.memory (plus-one segment p 0) ∙ has) small) refl)

    passed : (left n n' : ℕ) → left < 65535 → wrapping_add w16 n 1 ≡ n' → Goes pass_byte 0 12 (at (words_with byte) p (suc left) n) Onward (at (words_with byte) (wrapping_add w16 p 1) left n')
    passed left n n' small next =
        let there = λ (k j : ℕ). let r : Found Came = Ok (record { exit = Onward; there = at (words_with byte) (wrapping_add w16 p 1) k j }) in r in
        straight-does program choice own sp 10 is_placed pass_byte (at (words_with byte) p (suc left) n) Onward (at (words_with byte) (wrapping_add w16 p 1) left n')
        (ap (λ k. there k (wrapping_add w16 n 1)) (less-one left small) ∙ ap (λ j. there left j) next)

    leaves : (left n : ℕ) → Goes leave 0 1 (at (words_with byte) p left n) (Leaving 0) (at (words_with byte) p left n)
    leaves left n = straight-does program choice own sp 10 is_placed leave (at (words_with byte) p left n) (Leaving 0) (at (words_with byte) p left n) refl

  -- ---- blanks and tabs

  abbrev at_first : ℕ → List Slot
  at_first byte = stage_words byte stages.Start 0

  pub record GapPassed (text : List ℕ) (byte p n : ℕ) : Type 0 where
    pub byte' : ℕ
    pub p' : ℕ
    pub n' : ℕ
    pub rest : List ℕ
    pub rest_is : drop (gap_length text) text ≡ rest
    pub n_is : n' ≡ n + gap_length text
    pub sum : n' + length rest ≡ n + length text
    pub has : HasBytes e.memory (place segment p') 1 rest
    pub does : Goes (Loop gap_round End) (1 + length text) (42 * (1 + length text)) (at (at_first byte) p (length text) n) Onward (at (at_first byte') p' (length rest) n')

  abbrev test_gap : Code
  test_gap = If is_gap pass_byte leave End

  gap-bits : (b : ℕ) → bit_or (truth (b == 32)) (truth (b == 9)) ≡ truth (is_gap_byte b)
  gap-bits b = or-bits (b == 32) (b == 9)

  -- a round that looks at a byte
  gap-looks : (byte p left n b : ℕ) (exit : Exit) (c : Activation) → e.memory (address_of (place segment p) 1) ≡ Known b → b < 256 → Goes test_gap 0 22 (at (at_first b) p (suc left) n) exit c → Goes gap_round 0 40 (at (at_first byte) p (suc left) n) exit c
  gap-looks byte p left n b exit c has small then_so =
      let a = at (at_first byte) p (suc left) n in
      weaker-does program choice own sp gap_round 0 (1 + 1 + (2 + 22)) 0 40 a exit c (omega arith) (omega arith)
      (taken-does program choice own sp 10 is_placed (word (negsuc 19)) (next_byte then test_gap) leave (suc left) 0 (2 + 22) a exit c refl (λ z. omega (arith, z))
      (then-does program choice own sp next_byte test_gap 0 2 0 22 a (at (at_first b) p (suc left) n) exit c (loaded byte 0 0 10 0 0 0 p (suc left) n b has small) then_so))

  gap-ends : (byte p n : ℕ) → Goes gap_round 0 40 (at (at_first byte) p 0 n) (Leaving 0) (at (at_first byte) p 0 n)
  gap-ends byte p n =
      let a = at (at_first byte) p 0 n in
      weaker-does program choice own sp gap_round 0 (1 + 1 + 1) 0 40 a (Leaving 0) a (omega arith) (omega arith)
      (other-does program choice own sp 10 is_placed (word (negsuc 19)) (next_byte then test_gap) leave 0 0 1 a (Leaving 0) a refl refl (leaves byte 0 0 10 0 0 0 p 0 n))

  -- a byte that is none
  gap-stops : (b : ℕ) (text : List ℕ) (byte p n : ℕ) → HasBytes e.memory (place segment p) 1 (b ∷ text) → is_gap_byte b ≡ false → GapPassed (b ∷ text) byte p n
  gap-stops b text byte p n has is =
      let len = length text in
      let a = at (at_first byte) p (suc len) n in
      let c = at (at_first b) p (suc len) n in
      record {
        byte' = b;
        p' = p;
        n' = n;
        rest = b ∷ text;
        rest_is = ap (λ k. drop k (b ∷ text)) (gap-none b text is);
        n_is = (let none = gap-none b text is in omega (arith, none));
        sum = refl;
        has = has;
        does = weaker-does program choice own sp (Loop gap_round End) (1 + 0) (2 + 40) (1 + suc len) (42 * (1 + suc len)) a Onward c (omega arith) (omega arith)
            (leave-does program choice own sp gap_round 0 40 a (Leaving 0) Onward c refl
            (gap-looks byte p len n b (Leaving 0) c has.0 has.1
            (weaker-does program choice own sp test_gap 0 (1 + 7 + 1) 0 22 c (Leaving 0) c (omega arith) (omega arith)
            (other-does program choice own sp 10 is_placed is_gap pass_byte leave (truth (is_gap_byte b)) 0 1 c (Leaving 0) c (ap (λ v. let r : Found ℕ = Ok v in r) (gap-bits b)) (ap truth is) (leaves b 0 0 10 0 0 0 p (suc len) n)))));
      }

  gap-goes : (b : ℕ) (text : List ℕ) (byte p n : ℕ) → suc (length text) < 256 → n + suc (length text) < 65535 → HasBytes e.memory (place segment p) 1 (b ∷ text) → is_gap_byte b ≡ true → GapPassed text b (wrapping_add w16 p 1) (n + 1) → GapPassed (b ∷ text) byte p n
  gap-goes b text byte p n short room has is r =
      let len = length text in
      let a = at (at_first byte) p (suc len) n in
      let c = at (at_first b) (wrapping_add w16 p 1) len (n + 1) in
      let z = at (at_first r.byte') r.p' (length r.rest) r.n' in
      let more = gap-more b text is in
      record {
        byte' = r.byte';
        p' = r.p';
        n' = r.n';
        rest = r.rest;
        rest_is = ap (λ k. drop k (b ∷ text)) more ∙ r.rest_is;
        n_is = (let n_is = r.n_is in omega (arith, n_is, more));
        sum = (let sum = r.sum in omega (arith, sum));
        has = r.has;
        does = weaker-does program choice own sp (Loop gap_round End) (1 + 0 + (1 + len)) (2 + 40 + 42 * (1 + len)) (1 + suc len) (42 * (1 + suc len)) a Onward z (omega arith) (omega arith)
            (round-does program choice own sp gap_round 0 40 (1 + len) (42 * (1 + len)) a c Onward z
            (gap-looks byte p len n b Onward c has.0 has.1
            (weaker-does program choice own sp test_gap 0 (1 + 7 + 12) 0 22 (at (at_first b) p (suc len) n) Onward c (omega arith) (omega arith)
            (taken-does program choice own sp 10 is_placed is_gap pass_byte leave (truth (is_gap_byte b)) 0 12 (at (at_first b) p (suc len) n) Onward c (ap (λ v. let r : Found ℕ = Ok v in r) (gap-bits b)) (set-so-far (is_gap_byte b) is)
            (passed b 0 0 10 0 0 0 p len n (n + 1) (omega (arith, short)) (omega (arith, room))))))
            r.does);
      }

  pub gaps : (text : List ℕ) (byte p n : ℕ) → length text < 256 → n + length text < 65535 → HasBytes e.memory (place segment p) 1 text → GapPassed text byte p n
  gaps [] byte p n short room has =
      let a = at (at_first byte) p 0 n in
      record {
        byte' = byte;
        p' = p;
        n' = n;
        rest = [];
        rest_is = refl;
        n_is = omega arith;
        sum = refl;
        has = tt;
        does = leave-does program choice own sp gap_round 0 40 a (Leaving 0) Onward a refl (gap-ends byte p n);
      }
  gaps (b ∷ text) byte p n short room has = by (is_gap_byte b) refl (gaps text b (wrapping_add w16 p 1) (n + 1) (omega (arith, short)) (omega (arith, room)) (bytes-further e.memory segment p 1 text has.2))
    where
      by : (t : Bool) → is_gap_byte b ≡ t → GapPassed text b (wrapping_add w16 p 1) (n + 1) → GapPassed (b ∷ text) byte p n
      by true is again = gap-goes b text byte p n short room has is again
      by false is again = gap-stops b text byte p n has is

  -- ---- the numeral; so many bytes stand before it

  pub record NumeralRead (result : Result ℤ ℕ) (count before : ℕ) (start : Activation) : Type 0 where
    pub words : List Slot
    pub p' : ℕ
    pub left' : ℕ
    pub q' : ℕ
    pub is : Finished result q' words
    pub does : Goes (Loop numeral_round End) (1 + count) (160 * (1 + count)) start Onward (at words p' left' (before + q'))

  nothing-left : (stage : Stage) (before q byte digit p : ℕ) → IsBounded stage → NumeralRead (ok_or (value_at stage) q) 0 before (at (stage_words byte stage digit) p 0 (before + q))
  nothing-left stage before q byte digit p bounded =
      let a = at (stage_words byte stage digit) p 0 (before + q) in
      record {
        words = stage_words byte stage digit;
        p' = p;
        left' = 0;
        q' = q;
        is = finished stage q byte digit bounded;
        does = weaker-does program choice own sp (Loop numeral_round End) (1 + 0) (2 + (1 + 1 + 1)) (1 + 0) 160 a Onward a (omega arith) (omega arith)
            (leave-does program choice own sp numeral_round 0 (1 + 1 + 1) a (Leaving 0) Onward a refl
            (other-does program choice own sp 10 is_placed (word (negsuc 19)) (next_byte then (numeral_step then go_on)) leave 0 0 1 a (Leaving 0) a refl refl
            (straight-does program choice own sp 10 is_placed leave a (Leaving 0) a refl)));
      }

  -- a byte is looked at
  module _ (stage : Stage) (b : ℕ) (text : List ℕ) (before q byte digit p : ℕ) (short : suc (length text) < 256) (room : before + q + suc (length text) < 65535) (has : HasBytes e.memory (place segment p) 1 (b ∷ text)) where
    abbrev len : ℕ
    len = length text

    abbrev start : Activation
    start = at (stage_words byte stage digit) p (suc len) (before + q)

    looks : (words : List Slot) (exit : Exit) (c : Activation) → straight choice own 10 numeral_step (at (stage_words b stage digit) p (suc len) (before + q)) ≡ Ok (record { exit = Onward; there = at words p (suc len) (before + q) }) → Goes go_on 0 20 (at words p (suc len) (before + q)) exit c →
        Goes numeral_round 0 150 start exit c
    looks words exit c steps then_so =
        let d = at (stage_words b stage digit) p (suc len) (before + q) in
        let m = at words p (suc len) (before + q) in
        weaker-does program choice own sp numeral_round 0 (1 + 1 + (2 + (code_size numeral_step + 20))) 0 150 start exit c (omega arith) (omega arith)
        (taken-does program choice own sp 10 is_placed (word (negsuc 19)) (next_byte then (numeral_step then go_on)) leave (suc len) 0 (2 + (code_size numeral_step + 20)) start exit c refl (λ z. omega (arith, z))
        (then-does program choice own sp next_byte (numeral_step then go_on) 0 2 0 (code_size numeral_step + 20) start d exit c (loaded byte (stage_number stage) (truth (has_minus stage)) (radix_of (has_dollar stage)) (magnitude_of stage / 65536) (magnitude_of stage % 65536) digit p (suc len) (before + q) b has.0 has.1)
        (then-does program choice own sp numeral_step go_on 0 (code_size numeral_step) 0 20 d m exit c (straight-does program choice own sp 10 is_placed numeral_step d Onward m steps) then_so)))

    after-byte : (o : Option Stage) (words : List Slot) → IsAt b o words → straight choice own 10 numeral_step (at (stage_words b stage digit) p (suc len) (before + q)) ≡ Ok (record { exit = Onward; there = at words p (suc len) (before + q) }) →
        ((next : Stage) (digit : ℕ) → o ≡ Some next → NumeralRead (numeral_from next (q + 1) text) len before (at (stage_words b next digit) (wrapping_add w16 p 1) len (before + (q + 1)))) →
        NumeralRead (option_map_or (λ next. numeral_from next (q + 1) text) o (Err q)) (suc len) before start
    after-byte _ _ (at_stage next digit') steps again =
        let r = again next digit' refl in
        let m = at (stage_words b next digit') p (suc len) (before + q) in
        let c = at (stage_words b next digit') (wrapping_add w16 p 1) len (before + (q + 1)) in
        let z = at r.words r.p' r.left' (before + r.q') in
        let on = goes-on next in
        record {
          words = r.words;
          p' = r.p';
          left' = r.left';
          q' = r.q';
          is = r.is;
          does = weaker-does program choice own sp (Loop numeral_round End) (1 + 0 + (1 + len)) (2 + 150 + 160 * (1 + len)) (1 + suc len) (160 * (1 + suc len)) start Onward z (omega arith) (omega arith)
              (round-does program choice own sp numeral_round 0 150 (1 + len) (160 * (1 + len)) start c Onward z
              (looks (stage_words b next digit') Onward c steps
              (weaker-does program choice own sp go_on 0 (1 + 3 + 12) 0 20 m Onward c (omega arith) (omega arith)
              (other-does program choice own sp 10 is_placed (is_number (negsuc 3) 4) leave pass_byte (truth (stage_number next == 4)) 0 12 m Onward c refl on
              (passed b (stage_number next) (truth (has_minus next)) (radix_of (has_dollar next)) (magnitude_of next / 65536) (magnitude_of next % 65536) digit' p len (before + q) (before + (q + 1)) (omega (arith, short)) (omega (arith, room))))))
              r.does);
        }
    after-byte _ _ (at_none sign radix high low digit') steps again =
        let words = numeral_words b 4 sign radix high low digit' in
        let m = at words p (suc len) (before + q) in
        record {
          words = words;
          p' = p;
          left' = suc len;
          q' = q;
          is = broken b q 4 sign radix high low digit' (λ z. omega (arith, z));
          does = weaker-does program choice own sp (Loop numeral_round End) (1 + 0) (2 + 150) (1 + suc len) (160 * (1 + suc len)) start Onward m (omega arith) (omega arith)
              (leave-does program choice own sp numeral_round 0 150 start (Leaving 0) Onward m refl
              (looks words (Leaving 0) m steps
              (weaker-does program choice own sp go_on 0 (1 + 3 + 1) 0 20 m (Leaving 0) m (omega arith) (omega arith)
              (taken-does program choice own sp 10 is_placed (is_number (negsuc 3) 4) leave pass_byte 1 0 1 m (Leaving 0) m refl (λ z. omega (arith, z)) (leaves b 4 sign radix high low digit' p (suc len) (before + q))))));
        }

  pub read-numeral : (text : List ℕ) (stage : Stage) (before q byte digit p : ℕ) → length text < 256 → before + q + length text < 65535 → IsBounded stage → HasBytes e.memory (place segment p) 1 text →
      NumeralRead (numeral_from stage q text) (length text) before (at (stage_words byte stage digit) p (length text) (before + q))
  read-numeral [] stage before q byte digit p short room bounded has = nothing-left stage before q byte digit p bounded
  read-numeral (b ∷ text) stage before q byte digit p short room bounded has =
      let step = steps-on stage b digit has.1 in
      after-byte stage b text before q byte digit p short room has (next_stage stage b) step.words step.is_at (step.does choice own front (back p (suc (length text)) (before + q)) e)
      (λ next digit is. read-numeral text next before (q + 1) b digit (wrapping_add w16 p 1) (omega (arith, short)) (omega (arith, room)) (next_bounded stage next b is) (bytes-further e.memory segment p 1 text has.2))
