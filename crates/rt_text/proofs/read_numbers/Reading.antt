-- The loops that read a number: the separators before it, and its word.
use Rattle.std.proofs.Common.{◌≡◌, ℕ, suc, ◌+◌, ◌-◌, ◌*◌, ◌/◌, ◌%◌, ◌<◌, ◌≤◌, Bool, true, false, cond, List, [], ◌∷◌, ◌++◌, length, Option, Ok, negsuc, refl, sym, ap, subst, ◌∙◌, arith}
use Rattle.std.specs.Prelude.{nat_lt}
use Rattle.flat_code.specs.declared.tree.FlatOp.TheVariants as op
use Rattle.flat_code.specs.Tree.{Expr, Number, Op, Code, End, If, Loop, ◌then◌}
use Rattle.flat_code.specs.Memory.{Cells, Found, word_bytes}
use Rattle.flat_code.specs.Program.{FlatProgram, Choice, text_unit}
use Rattle.flat_code.specs.Meaning.{Frame, truth}
use Rattle.runtime_proofs.specs.routine_proofs.Activation.{Slot, Shut, Activation, IsPlaced}
use Rattle.runtime_proofs.specs.routine_proofs.Straight.{Exit, Onward, Leaving, seen_value, code_size}
use Rattle.runtime_proofs.specs.routine_proofs.Comes.{Does}
use Rattle.runtime_proofs.proofs.routine_proofs.Doing.{weaker-does, then-does, straight-does, round-does, leave-does}
use Rattle.runtime_proofs.specs.string_loops.Pieces.{word, leave}
use Rattle.runtime_proofs.specs.strings_in_memory.Strings.{HasBytes}
use Rattle.runtime_proofs.specs.text_memory.Data.{HasText, IsLeft, none, ahead_place}
use Rattle.runtime_proofs.proofs.text_memory.Effects.{taken-does, other-does}
use Rattle.common_values.specs.declared.numerals.Stage.{Stage}
use Rattle.common_values.specs.declared.numerals.Stage.TheVariants as stages
use Rattle.common_values.specs.Numerals.{radix_of}
use Rattle.common_values.specs.Input.{is_separator, after_separators}
use Rattle.rt_text.specs.read_text.Ahead.{peek, take}
use Rattle.rt_text.specs.read_text.Specifications.{AreBytes, HasInput, IsAhead}
use Rattle.rt_text.proofs.read_text.InputLemmas.{left-rest, is-one}
use Rattle.rt_text.proofs.read_text.Peeking.{next_byte, with_ahead, ahead-so, with-ahead-has, with-ahead-other, known-reached, Peeking, Peeked, peeked}
use Rattle.rt_text.specs.numeral_steps.Stages.{stage_number, has_minus, has_dollar, magnitude_of, numeral_words, stage_words, IsAt, at_stage, at_none}
use Rattle.rt_text.specs.numeral_steps.Step.{is_byte, numeral_step}
use Rattle.rt_text.proofs.numeral_steps.Stepping.{steps-on}
use Rattle.rt_text.specs.read_numbers.Routines.{gap_round, word_step, word_round}
use Rattle.rt_text.specs.read_numbers.Routines as code
use Rattle.rt_text.proofs.read_numbers.Words.{separator-bits, ends_word, word-bits, gap-more, gap-none, word_of, behind_word, next_of_stage, stage_behind}

still-goes : (stage : Stage) → truth (nat_lt (stage_number stage) 4) ≡ 0 → ⊥
still-goes stages.Start z = omega (arith, z)
still-goes (stages.Signed n) z = omega (arith, z)
still-goes (stages.Dollar n) z = omega (arith, z)
still-goes (stages.Digits n x m) z = omega (arith, z)

module _ (program : FlatProgram) (choice : Choice) (own : Frame) (sp : ℕ) (is_placed : IsPlaced choice own sp 6) (is_text : own.unit ≡ text_unit) (item ahead : ℕ) (there : HasText program choice item ahead) (e : Activation) where
  abbrev pub front : List Slot
  front = Shut ∷ Shut ∷ Shut ∷ []

  abbrev pub st : List Slot → Cells → List ℕ → Activation
  st words m i = record e { words = front ++ (words ++ []); memory = m; input = i }

  abbrev Goes : Code → ℕ → ℕ → Activation → Exit → Activation → Type 0
  Goes code turns work a exit b = Does program choice own sp code turns work a exit b

  abbrev taken : Cells → Cells
  taken m = with_ahead program choice own 6 is_text item ahead there m 256

  -- ---- the byte ahead

  module _ (stage sign radix high low digit : ℕ) where
    abbrev words_with : ℕ → List Slot
    words_with b = numeral_words b stage sign radix high low digit

    peeking : (byte : ℕ) → Peeking choice own 6 (st (words_with byte)) (λ w m i. st (words_with w) m i)
    peeking byte = record {
      first = λ m i v. refl;
      again = λ w m i v. refl;
      value = λ w m i. refl;
      start_memory = λ m i. refl;
      start_input = λ m i. refl;
      memory = λ w m i. refl;
      with_memory = λ w m i k. refl;
      with_input = λ w m i j. refl;
      same = λ m i v. record { flag = refl; input = refl; out = refl; err = refl };
    }

    looked : (byte : ℕ) (m : Cells) (i left : List ℕ) → HasInput choice ahead m i left → Peeked program choice own sp 6 is_placed is_text item ahead there (st (words_with byte)) (λ w m i. st (words_with w) m i) (peeking byte) m i left
    looked byte m i left has = peeked program choice own sp 6 is_placed is_text item ahead there (st (words_with byte)) (λ w m i. st (words_with w) m i) (peeking byte) has.word m i left has.ahead_is has.bytes has.left_is

    takes : (b v : ℕ) (m : Cells) (i : List ℕ) → HasBytes m (ahead_place choice ahead) 0 (word_bytes v) → Goes take 0 2 (st (words_with b) m i) Onward (st (words_with b) (taken m) i)
    takes b v m i has =
        straight-does program choice own sp 6 is_placed take (st (words_with b) m i) Onward (st (words_with b) (taken m) i)
        (ahead-so program choice own 6 is_text item ahead there (Number 256) End (st (words_with b) m i) 256 refl (known-reached program choice own 6 is_text item ahead there m v has))

    leaves : (b : ℕ) (m : Cells) (i : List ℕ) → Goes leave 0 1 (st (words_with b) m i) (Leaving 0) (st (words_with b) m i)
    leaves b m i = straight-does program choice own sp 6 is_placed leave (st (words_with b) m i) (Leaving 0) (st (words_with b) m i) refl

  -- a byte is taken: what is left then
  rest-has : (b : ℕ) (rest left : List ℕ) (n : Cells) (j : List ℕ) → left ≡ b ∷ rest → next_byte left < 256 → IsLeft (next_byte left) j left → AreBytes j → HasInput choice ahead (taken n) j rest
  rest-has b rest left n j is small left_is are = record {
    word = 256;
    ahead_is = with-ahead-has program choice own 6 is_text item ahead there n 256;
    left_is = subst (λ l. IsLeft 256 j l) (left-rest (next_byte left) j left left_is small b rest is) (none j);
    bytes = are;
  }

  -- ---- separators

  abbrev first_words : ℕ → List Slot
  first_words b = stage_words b stages.Start 0

  pub record Skipped (left : List ℕ) (byte : ℕ) (m : Cells) (i : List ℕ) : Type 0 where
    pub memory : Cells
    pub input : List ℕ
    pub few : length (after_separators left) ≤ length left
    pub stops : is_separator (next_byte (after_separators left)) ≡ false
    pub does : (let n = length left - length (after_separators left) in Goes (Loop gap_round End) (2 * n + 2) (100 * (n + 1)) (st (first_words byte) m i) Onward (st (first_words (next_byte (after_separators left))) memory input))
    pub input_is : HasInput choice ahead memory input (after_separators left)
    pub others : (x : ℕ) → (IsAhead choice ahead x → ⊥) → memory x ≡ m x

  abbrev test_gap : Code
  test_gap = If code.is_separator take leave End

  -- no separator comes
  skip-none : (left : List ℕ) (byte : ℕ) (m : Cells) (i : List ℕ) → HasInput choice ahead m i left → is_separator (next_byte left) ≡ false → after_separators left ≡ left → Skipped left byte m i
  skip-none left byte m i has is same =
      let p = looked 0 0 10 0 0 0 byte m i left has in
      let b = next_byte left in
      let a = st (first_words byte) m i in
      let c = st (first_words b) p.memory p.input in
      record {
        memory = p.memory;
        input = p.input;
        few = subst (λ l. length l ≤ length left) (sym same) (omega arith);
        stops = subst (λ l. is_separator (next_byte l) ≡ false) (sym same) is;
        does = subst (λ l. let n = length left - length l in Goes (Loop gap_round End) (2 * n + 2) (100 * (n + 1)) a Onward (st (first_words (next_byte l)) p.memory p.input)) (sym same)
            (weaker-does program choice own sp (Loop gap_round End) (1 + (1 + 0)) (2 + (32 + (1 + 15 + 1))) (2 * (length left - length left) + 2) (100 * (length left - length left + 1)) a Onward c (omega arith) (omega arith)
            (leave-does program choice own sp gap_round (1 + 0) (32 + (1 + 15 + 1)) a (Leaving 0) Onward c refl
            (then-does program choice own sp peek test_gap 1 32 0 (1 + 15 + 1) a c (Leaving 0) c p.does
            (other-does program choice own sp 6 is_placed code.is_separator take leave (truth (is_separator b)) 0 1 c (Leaving 0) c (ap (λ v. let r : Found ℕ = Ok v in r) (separator-bits b)) (ap truth is) (leaves 0 0 10 0 0 0 b p.memory p.input)))));
        input_is = subst (λ l. HasInput choice ahead p.memory p.input l) (sym same) (record { word = b; ahead_is = p.ahead_is; left_is = p.left_is; bytes = p.bytes });
        others = p.others;
      }

  -- one is taken
  skip-more : (b : ℕ) (rest : List ℕ) (byte : ℕ) (m : Cells) (i : List ℕ) → HasInput choice ahead m i (b ∷ rest) → is_separator b ≡ true → ((n : Cells) (j : List ℕ) → HasInput choice ahead n j rest → Skipped rest b n j) → Skipped (b ∷ rest) byte m i
  skip-more b rest byte m i has is again =
      let p = looked 0 0 10 0 0 0 byte m i (b ∷ rest) has in
      let r = again (taken p.memory) p.input (rest-has b rest (b ∷ rest) p.memory p.input refl p.small p.left_is p.bytes) in
      let a = st (first_words byte) m i in
      let c = st (first_words b) p.memory p.input in
      let d = st (first_words b) (taken p.memory) p.input in
      let l = after_separators rest in
      let z = st (first_words (next_byte l)) r.memory r.input in
      let n = length rest - length l in
      let few = r.few in
      let same = gap-more b rest is in
      record {
        memory = r.memory;
        input = r.input;
        few = subst (λ l. length l ≤ suc (length rest)) (sym same) (omega (arith, few));
        stops = subst (λ l. is_separator (next_byte l) ≡ false) (sym same) r.stops;
        does = subst (λ l. let n = suc (length rest) - length l in Goes (Loop gap_round End) (2 * n + 2) (100 * (n + 1)) a Onward (st (first_words (next_byte l)) r.memory r.input)) (sym same)
            (weaker-does program choice own sp (Loop gap_round End) (1 + (1 + 0) + (2 * n + 2)) (2 + (32 + (1 + 15 + 2)) + 100 * (n + 1)) (2 * (suc (length rest) - length l) + 2) (100 * (suc (length rest) - length l + 1)) a Onward z (omega (arith, few)) (omega (arith, few))
            (round-does program choice own sp gap_round (1 + 0) (32 + (1 + 15 + 2)) (2 * n + 2) (100 * (n + 1)) a d Onward z
            (then-does program choice own sp peek test_gap 1 32 0 (1 + 15 + 2) a c Onward d p.does
            (taken-does program choice own sp 6 is_placed code.is_separator take leave (truth (is_separator b)) 0 2 c Onward d (ap (λ v. let r : Found ℕ = Ok v in r) (separator-bits b)) (is-one (is_separator b) is) (takes 0 0 10 0 0 0 b b p.memory p.input p.ahead_is)))
            r.does));
        input_is = subst (λ l. HasInput choice ahead r.memory r.input l) (sym same) r.input_is;
        others = λ x free. r.others x free ∙ with-ahead-other program choice own 6 is_text item ahead there p.memory 256 x free ∙ p.others x free;
      }

  pub skip : (left : List ℕ) (byte : ℕ) (m : Cells) (i : List ℕ) → HasInput choice ahead m i left → Skipped left byte m i
  skip [] byte m i has = skip-none [] byte m i has refl refl
  skip (b ∷ rest) byte m i has = by (is_separator b) refl (λ n j again. skip rest b n j again)
    where
      by : (t : Bool) → is_separator b ≡ t → ((n : Cells) (j : List ℕ) → HasInput choice ahead n j rest → Skipped rest b n j) → Skipped (b ∷ rest) byte m i
      by true is again = skip-more b rest byte m i has is again
      by false is again = skip-none (b ∷ rest) byte m i has is (gap-none b rest is)

  -- ---- the word

  pub record WordRead (o : Option Stage) (left : List ℕ) (words : List Slot) (m : Cells) (i : List ℕ) : Type 0 where
    pub byte' : ℕ
    pub words' : List Slot
    pub memory : Cells
    pub input : List ℕ
    pub few : length (behind_word left) ≤ length left
    pub is_at : IsAt byte' (stage_behind o (word_of left)) words'
    pub does : (let n = length left - length (behind_word left) in Goes (Loop word_round End) (2 * n + 2) (200 * (n + 1)) (st words m i) Onward (st words' memory input))
    pub input_is : HasInput choice ahead memory input (behind_word left)
    pub others : (x : ℕ) → (IsAhead choice ahead x → ⊥) → memory x ≡ m x

  abbrev ends : Expr
  ends = Op op.Or code.is_separator (is_byte 26)

  abbrev test_word : Code
  test_word = If ends leave (word_step then take) End

  -- the next byte stands among the words
  record Ahead (o : Option Stage) (words : List Slot) (m : Cells) (i left : List ℕ) : Type 0 where
    words' : List Slot
    is_at : IsAt (next_byte left) o words'
    memory : Cells
    input : List ℕ
    does : Goes peek 1 32 (st words m i) Onward (st words' memory input)
    small : next_byte left < 256
    ahead_is : HasBytes memory (ahead_place choice ahead) 0 (word_bytes (next_byte left))
    left_is : IsLeft (next_byte left) input left
    bytes : AreBytes input
    others : (x : ℕ) → (IsAhead choice ahead x → ⊥) → memory x ≡ m x

  looked-at : (byte : ℕ) (o : Option Stage) (words : List Slot) → IsAt byte o words → (m : Cells) (i left : List ℕ) → HasInput choice ahead m i left → Ahead o words m i left
  looked-at byte _ _ (at_stage stage digit) m i left has =
      let p = looked (stage_number stage) (truth (has_minus stage)) (radix_of (has_dollar stage)) (magnitude_of stage / 65536) (magnitude_of stage % 65536) digit byte m i left has in
      record { words' = stage_words (next_byte left) stage digit; is_at = at_stage stage digit; memory = p.memory; input = p.input; does = p.does; small = p.small; ahead_is = p.ahead_is; left_is = p.left_is; bytes = p.bytes; others = p.others }
  looked-at byte _ _ (at_none sign radix high low digit) m i left has =
      let p = looked 4 sign radix high low digit byte m i left has in
      record { words' = numeral_words (next_byte left) 4 sign radix high low digit; is_at = at_none sign radix high low digit; memory = p.memory; input = p.input; does = p.does; small = p.small; ahead_is = p.ahead_is; left_is = p.left_is; bytes = p.bytes; others = p.others }

  -- what the short pieces do then
  test-at : (b : ℕ) (o : Option Stage) (words : List Slot) → IsAt b o words → (m : Cells) (i : List ℕ) → seen_value choice own 6 (st words m i) ends ≡ Ok (truth (ends_word b))
  test-at b _ _ (at_stage stage digit) m i = ap (λ v. let r : Found ℕ = Ok v in r) (word-bits b)
  test-at b _ _ (at_none sign radix high low digit) m i = ap (λ v. let r : Found ℕ = Ok v in r) (word-bits b)

  leaves-at : (b : ℕ) (o : Option Stage) (words : List Slot) → IsAt b o words → (m : Cells) (i : List ℕ) → Goes leave 0 1 (st words m i) (Leaving 0) (st words m i)
  leaves-at b _ _ (at_stage stage digit) m i = leaves (stage_number stage) (truth (has_minus stage)) (radix_of (has_dollar stage)) (magnitude_of stage / 65536) (magnitude_of stage % 65536) digit b m i
  leaves-at b _ _ (at_none sign radix high low digit) m i = leaves 4 sign radix high low digit b m i

  takes-at : (b : ℕ) (o : Option Stage) (words : List Slot) → IsAt b o words → (v : ℕ) (m : Cells) (i : List ℕ) → HasBytes m (ahead_place choice ahead) 0 (word_bytes v) → Goes take 0 2 (st words m i) Onward (st words (taken m) i)
  takes-at b _ _ (at_stage stage digit) v m i has = takes (stage_number stage) (truth (has_minus stage)) (radix_of (has_dollar stage)) (magnitude_of stage / 65536) (magnitude_of stage % 65536) digit b v m i has
  takes-at b _ _ (at_none sign radix high low digit) v m i has = takes 4 sign radix high low digit b v m i has

  record Stepped (b : ℕ) (o : Option Stage) (words : List Slot) (m : Cells) (i : List ℕ) : Type 0 where
    words' : List Slot
    is_at : IsAt b (next_of_stage o b) words'
    does : Goes word_step 0 120 (st words m i) Onward (st words' m i)

  abbrev goes_on : Expr
  goes_on = Op op.Below (word (negsuc 3)) (Number 4)

  steps-at : (b : ℕ) (o : Option Stage) (words : List Slot) → b < 256 → IsAt b o words → (m : Cells) (i : List ℕ) → Stepped b o words m i
  steps-at b _ _ small (at_stage stage digit) m i =
      let step = steps-on stage b digit small in
      let a = st (stage_words b stage digit) m i in
      let c = st step.words m i in
      record {
        words' = step.words;
        is_at = step.is_at;
        does = weaker-does program choice own sp word_step 0 (1 + 3 + code_size numeral_step) 0 120 a Onward c (omega arith) (omega arith)
            (taken-does program choice own sp 6 is_placed goes_on numeral_step End (truth (nat_lt (stage_number stage) 4)) 0 (code_size numeral_step) a Onward c refl (still-goes stage)
            (straight-does program choice own sp 6 is_placed numeral_step a Onward c (step.does choice own front [] (record e { memory = m; input = i }))));
      }
  steps-at b _ _ small (at_none sign radix high low digit) m i =
      let words = numeral_words b 4 sign radix high low digit in
      let a = st words m i in
      record {
        words' = words;
        is_at = at_none sign radix high low digit;
        does = weaker-does program choice own sp word_step 0 (1 + 3 + 0) 0 120 a Onward a (omega arith) (omega arith)
            (other-does program choice own sp 6 is_placed goes_on numeral_step End 0 0 0 a Onward a refl refl
            (straight-does program choice own sp 6 is_placed End a Onward a refl));
      }

  -- the word ends
  word-ends : (o : Option Stage) (left : List ℕ) (byte : ℕ) (words : List Slot) → IsAt byte o words → (m : Cells) (i : List ℕ) → HasInput choice ahead m i left → ends_word (next_byte left) ≡ true → [] ≡ word_of left → left ≡ behind_word left → WordRead o left words m i
  word-ends o left byte words at m i has is empty same =
      let p = looked-at byte o words at m i left has in
      let b = next_byte left in
      let a = st words m i in
      let c = st p.words' p.memory p.input in
      record {
        byte' = b;
        words' = p.words';
        memory = p.memory;
        input = p.input;
        few = subst (λ l. length l ≤ length left) same (omega arith);
        is_at = subst (λ w. IsAt b (stage_behind o w) p.words') empty p.is_at;
        does = subst (λ l. let n = length left - length l in Goes (Loop word_round End) (2 * n + 2) (200 * (n + 1)) a Onward c) same
            (weaker-does program choice own sp (Loop word_round End) (1 + (1 + 0)) (2 + (32 + (1 + 19 + 1))) (2 * (length left - length left) + 2) (200 * (length left - length left + 1)) a Onward c (omega arith) (omega arith)
            (leave-does program choice own sp word_round (1 + 0) (32 + (1 + 19 + 1)) a (Leaving 0) Onward c refl
            (then-does program choice own sp peek test_word 1 32 0 (1 + 19 + 1) a c (Leaving 0) c p.does
            (taken-does program choice own sp 6 is_placed ends leave (word_step then take) (truth (ends_word b)) 0 1 c (Leaving 0) c (test-at b o p.words' p.is_at p.memory p.input) (is-one (ends_word b) is) (leaves-at b o p.words' p.is_at p.memory p.input)))));
        input_is = subst (λ l. HasInput choice ahead p.memory p.input l) same (record { word = b; ahead_is = p.ahead_is; left_is = p.left_is; bytes = p.bytes });
        others = p.others;
      }

  -- one more byte of it
  word-more : (o : Option Stage) (b : ℕ) (rest : List ℕ) (byte : ℕ) (words : List Slot) → IsAt byte o words → (m : Cells) (i : List ℕ) → HasInput choice ahead m i (b ∷ rest) → ends_word b ≡ false →
      ((words' : List Slot) → IsAt b (next_of_stage o b) words' → (n : Cells) (j : List ℕ) → HasInput choice ahead n j rest → WordRead (next_of_stage o b) rest words' n j) → WordRead o (b ∷ rest) words m i
  word-more o b rest byte words at m i has is again =
      let p = looked-at byte o words at m i (b ∷ rest) has in
      let s = steps-at b o p.words' p.small p.is_at p.memory p.input in
      let r = again s.words' s.is_at (taken p.memory) p.input (rest-has b rest (b ∷ rest) p.memory p.input refl p.small p.left_is p.bytes) in
      let a = st words m i in
      let c = st p.words' p.memory p.input in
      let d = st s.words' p.memory p.input in
      let g = st s.words' (taken p.memory) p.input in
      let z = st r.words' r.memory r.input in
      let n = length rest - length (behind_word rest) in
      let few = r.few in
      let same : behind_word rest ≡ behind_word (b ∷ rest) = sym (ap (λ t. cond t (b ∷ rest) (behind_word rest)) is) in
      let more : b ∷ word_of rest ≡ word_of (b ∷ rest) = sym (ap (λ t. cond t [] (b ∷ word_of rest)) is) in
      record {
        byte' = r.byte';
        words' = r.words';
        memory = r.memory;
        input = r.input;
        few = subst (λ l. length l ≤ suc (length rest)) same (omega (arith, few));
        is_at = subst (λ w. IsAt r.byte' (stage_behind o w) r.words') more r.is_at;
        does = subst (λ l. let n = suc (length rest) - length l in Goes (Loop word_round End) (2 * n + 2) (200 * (n + 1)) a Onward z) same
            (weaker-does program choice own sp (Loop word_round End) (1 + (1 + 0) + (2 * n + 2)) (2 + (32 + (1 + 19 + (120 + 2))) + 200 * (n + 1)) (2 * (suc (length rest) - length (behind_word rest)) + 2) (200 * (suc (length rest) - length (behind_word rest) + 1)) a Onward z (omega (arith, few)) (omega (arith, few))
            (round-does program choice own sp word_round (1 + 0) (32 + (1 + 19 + (120 + 2))) (2 * n + 2) (200 * (n + 1)) a g Onward z
            (then-does program choice own sp peek test_word 1 32 0 (1 + 19 + (120 + 2)) a c Onward g p.does
            (other-does program choice own sp 6 is_placed ends leave (word_step then take) (truth (ends_word b)) 0 (120 + 2) c Onward g (test-at b o p.words' p.is_at p.memory p.input) (ap truth is)
            (then-does program choice own sp word_step take 0 120 0 2 c d Onward g s.does (takes-at b (next_of_stage o b) s.words' s.is_at b p.memory p.input p.ahead_is))))
            r.does));
        input_is = subst (λ l. HasInput choice ahead r.memory r.input l) same r.input_is;
        others = λ x free. r.others x free ∙ with-ahead-other program choice own 6 is_text item ahead there p.memory 256 x free ∙ p.others x free;
      }

  pub read-word : (left : List ℕ) (o : Option Stage) (byte : ℕ) (words : List Slot) → IsAt byte o words → (m : Cells) (i : List ℕ) → HasInput choice ahead m i left → WordRead o left words m i
  read-word [] o byte words at m i has = word-ends o [] byte words at m i has refl refl refl
  read-word (b ∷ rest) o byte words at m i has = by (ends_word b) refl (λ words' at n j again. read-word rest (next_of_stage o b) b words' at n j again)
    where
      by : (t : Bool) → ends_word b ≡ t → ((words' : List Slot) → IsAt b (next_of_stage o b) words' → (n : Cells) (j : List ℕ) → HasInput choice ahead n j rest → WordRead (next_of_stage o b) rest words' n j) → WordRead o (b ∷ rest) words m i
      by true is again = word-ends o (b ∷ rest) byte words at m i has is (sym (ap (λ t. cond t [] (b ∷ word_of rest)) is)) (sym (ap (λ t. cond t (b ∷ rest) (behind_word rest)) is))
      by false is again = word-more o b rest byte words at m i has is again
