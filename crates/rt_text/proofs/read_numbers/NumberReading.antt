-- The routine that reads an integer.
use Rattle.std.proofs.Common.{◌≡◌, ℕ, ◌+◌, ◌-◌, ◌*◌, ◌/◌, ◌%◌, ◌<◌, ◌≤◌, Bool, true, false, List, [], ◌∷◌, length, Option, Some, None, Ok, ℤ, pos, negsuc, cond, refl, sym, ap, subst, ◌∙◌, arith, eqb-true}
use Rattle.std.specs.Prelude.{◌==◌, ◌||◌}
use Rattle.std.proofs.lemmas.Bool.Decides.{nat_tests}
use Rattle.common_values.specs.integers.Words.{w32, cast_unsigned, low_byte, high_byte}
use Rattle.common_values.specs.declared.numerals.Stage.{Stage}
use Rattle.common_values.specs.declared.numerals.Stage.TheVariants as stages
use Rattle.common_values.specs.Numerals.{radix_of, signed}
use Rattle.common_values.specs.Input.{is_separator, after_separators, number_of, word_read, number_read}
use Rattle.flat_code.specs.Tree.{Error, Code, End, Do, If, Loop, ◌then◌}
use Rattle.flat_code.specs.Memory.{Cells, Found}
use Rattle.flat_code.specs.Program.{FlatProgram, Choice, UnitCode, text_unit, runtime_key}
use Rattle.flat_code.specs.Meaning.{Frame, truth, number_bytes, activation_bytes, frame_of, stack_top}
use Rattle.flat_code.specs.Legal.{StackFits}
use Rattle.flat_code.specs.Runtime.{long_bytes}
use Rattle.runtime_proofs.specs.routine_proofs.Activation.{Slot, Shut, Free, Activation, IsPlaced}
use Rattle.runtime_proofs.specs.routine_proofs.Straight.{Exit, Onward, Failing, code_size}
use Rattle.runtime_proofs.specs.routine_proofs.Comes.{Does}
use Rattle.runtime_proofs.specs.routine_proofs.Entry.{entered, memory_without}
use Rattle.runtime_proofs.specs.routine_proofs.Specifications.{IsHeld}
use Rattle.runtime_proofs.proofs.routine_proofs.Doing.{weaker-does, then-does, straight-does}
use Rattle.runtime_proofs.proofs.routine_proofs.Calls.{call-ends, call-raises, placed, starts}
use Rattle.runtime_proofs.specs.text_memory.Data.{HasText}
use Rattle.runtime_proofs.proofs.text_memory.Effects.{taken-does, other-does}
use Rattle.rt_text.specs.read_text.Specifications.{HasInput, Reads, IsAhead}
use Rattle.rt_text.proofs.read_text.InputLemmas.{input-inside, input-left}
use Rattle.rt_text.proofs.read_text.Peeking.{next_byte}
use Rattle.rt_text.specs.numeral_steps.Stages.{numeral_words, stage_words, IsAt, at_stage, at_none}
use Rattle.rt_text.specs.numeral_steps.Step.{is_number, is_byte, begin_numeral, give_sign}
use Rattle.rt_text.proofs.numeral_steps.Signing.{signs}
use Rattle.rt_text.specs.read_numbers.Routines.{gap_round, word_round, end_word, read_word, read_number_code, read_number_routine}
use Rattle.rt_text.specs.read_numbers.Specifications.{read_number_number, number_turns, RefusesNumber, ReadsSo, ReadsNumber}
use Rattle.rt_text.proofs.read_numbers.Words.{ends_word, word_of, behind_word, word-is, rest-is, behind-shorter, next_of_stage, stage_behind, value_behind, BoundedStage, stays-bounded, value-is}
use Rattle.rt_text.proofs.read_numbers.Reading.{front, st, skip, read-word}

-- the bytes of a LongInt from its words
long-bytes : (a b n : ℕ) → a < 65536 → b < 65536 → a + 65536 * b ≡ n → (let r : Found (List ℕ) = Ok (low_byte a ∷ high_byte a ∷ low_byte b ∷ high_byte b ∷ []) in r ≡ Ok (number_bytes 4 n))
long-bytes a b n p q e =
    let e0 : n % 256 ≡ a % 256 = omega arith in
    let e1 : n / 256 % 256 ≡ a / 256 % 256 = omega arith in
    let e2 : n / 256 / 256 % 256 ≡ b % 256 = omega arith in
    let e3 : n / 256 / 256 / 256 % 256 ≡ b / 256 % 256 = omega arith in
    cc

-- the stage behind a word is bounded
bounded-behind : (word : List ℕ) (o : Option Stage) → BoundedStage o → BoundedStage (stage_behind o word)
bounded-behind [] o h = h
bounded-behind (b ∷ word) o h = bounded-behind word (next_of_stage o b) (stays-bounded o b)

module _ (program : FlatProgram) (choice : Choice) (own : Frame) (sp : ℕ) (is_placed : IsPlaced choice own sp 6) (is_text : own.unit ≡ text_unit) (item ahead : ℕ) (there : HasText program choice item ahead) (e : Activation) where
  abbrev Goes : Code → ℕ → ℕ → Activation → Exit → Activation → Type 0
  Goes code turns work a exit b = Does program choice own sp code turns work a exit b

  abbrev pub spot : List Slot → Cells → List ℕ → Activation
  spot words m i = st program choice own sp is_placed is_text item ahead there e words m i

  -- ---- the end of a word: its value, or error 106

  pub data Ended (start : Activation) (m : Cells) (i : List ℕ) (turns work : ℕ) (code : Code) : Option ℤ → Type 0 where
    as_number : (z : ℤ) (byte stage sign radix high low digit : ℕ) → low < 65536 → high < 65536 → low + 65536 * high ≡ cast_unsigned w32 z → Goes code turns work start Onward (spot (numeral_words byte stage sign radix high low digit) m i) → Ended start m i turns work code (Some z)
    as_error : (words : List Slot) → Goes code turns work start (Failing 106) (spot words m i) → Ended start m i turns work code None

  abbrev fails : Code
  fails = Do (Error 106) End

  -- behind a stage that is no whole numeral
  refuses : (byte stage sign radix high low digit : ℕ) (m : Cells) (i : List ℕ) → truth (stage == 3) ≡ 0 → Ended (spot (numeral_words byte stage sign radix high low digit) m i) m i 0 40 end_word None
  refuses byte stage sign radix high low digit m i none =
      let a = spot (numeral_words byte stage sign radix high low digit) m i in
      as_error (numeral_words byte stage sign radix high low digit)
      (weaker-does program choice own sp end_word 0 (1 + 3 + 1) 0 40 a (Failing 106) a (omega arith) (omega arith)
      (other-does program choice own sp 6 is_placed (is_number (negsuc 3) 3) give_sign fails (truth (stage == 3)) 0 1 a (Failing 106) a refl none
      (straight-does program choice own sp 6 is_placed fails a (Failing 106) a refl)))

  ended : (byte : ℕ) (o : Option Stage) (words : List Slot) → IsAt byte o words → BoundedStage o → (m : Cells) (i : List ℕ) → Ended (spot words m i) m i 0 40 end_word (value_behind o)
  ended byte _ _ (at_none sign radix high low digit) bounded m i = refuses byte 4 sign radix high low digit m i refl
  ended byte _ _ (at_stage stages.Start digit) bounded m i = refuses byte 0 0 10 0 0 digit m i refl
  ended byte _ _ (at_stage (stages.Signed n) digit) bounded m i = refuses byte 1 (truth n) 10 0 0 digit m i refl
  ended byte _ _ (at_stage (stages.Dollar n) digit) bounded m i = refuses byte 2 (truth n) 16 0 0 digit m i refl
  ended byte _ _ (at_stage (stages.Digits n x magnitude) digit) bounded m i =
      let s = signs n x magnitude byte digit bounded in
      let a = spot (stage_words byte (stages.Digits n x magnitude) digit) m i in
      let z = spot (numeral_words byte 3 (truth n) (radix_of x) s.high s.low digit) m i in
      as_number (signed n magnitude) byte 3 (truth n) (radix_of x) s.high s.low digit s.low_small s.high_small s.is
      (weaker-does program choice own sp end_word 0 (1 + 3 + code_size give_sign) 0 40 a Onward z (omega arith) (omega arith)
      (taken-does program choice own sp 6 is_placed (is_number (negsuc 3) 3) give_sign fails 1 0 (code_size give_sign) a Onward z refl (λ k. omega (arith, k))
      (straight-does program choice own sp 6 is_placed give_sign a Onward z (s.does choice own (front program choice own sp is_placed is_text item ahead there e) [] (record e { memory = m; input = i })))))

  -- after other code
  after : (first next : Code) (t1 w1 t2 w2 : ℕ) (a b : Activation) (m : Cells) (i : List ℕ) (o : Option ℤ) → Goes first t1 w1 a Onward b → Ended b m i t2 w2 next o → Ended a m i (t1 + t2) (w1 + w2) (first then next) o
  after first next t1 w1 t2 w2 a b m i _ goes (as_number z byte stage sign radix high low digit p q is does) =
      as_number z byte stage sign radix high low digit p q is (then-does program choice own sp first next t1 w1 t2 w2 a b Onward (spot (numeral_words byte stage sign radix high low digit) m i) goes does)
  after first next t1 w1 t2 w2 a b m i _ goes (as_error words does) = as_error words (then-does program choice own sp first next t1 w1 t2 w2 a b (Failing 106) (spot words m i) goes does)

  weaker : (code : Code) (t w t' w' : ℕ) (a : Activation) (m : Cells) (i : List ℕ) (o : Option ℤ) → t ≤ t' → w ≤ w' → Ended a m i t w code o → Ended a m i t' w' code o
  weaker code t w t' w' a m i _ p q (as_number z byte stage sign radix high low digit r s is does) = as_number z byte stage sign radix high low digit r s is (weaker-does program choice own sp code t w t' w' a Onward (spot (numeral_words byte stage sign radix high low digit) m i) p q does)
  weaker code t w t' w' a m i _ p q (as_error words does) = as_error words (weaker-does program choice own sp code t w t' w' a (Failing 106) (spot words m i) p q does)

  -- ---- the word, where one is there

  abbrev test_end : Code
  test_end = If (is_byte 26) End read_word End

  abbrev first_words : ℕ → List Slot
  first_words b = stage_words b stages.Start 0

  -- what is read behind the separators
  pub record Read (l : List ℕ) (turns work : ℕ) (code : Code) (a : Activation) (m : Cells) : Type 0 where
    pub memory : Cells
    pub input : List ℕ
    pub input_is : HasInput choice ahead memory input (word_read l).1
    pub others : (x : ℕ) → (IsAhead choice ahead x → ⊥) → memory x ≡ m x
    pub is : Ended a memory input turns work code (number_of (word_read l).0)

  another : (v : ℕ) (m : Cells) (i : List ℕ) (n : Cells) (j : List ℕ) (t w : ℕ) (o : Option ℤ) → truth (v == 26) ≡ 0 → Ended (spot (first_words v) m i) n j t w read_word o → Ended (spot (first_words v) m i) n j t (4 + w) test_end o
  another v m i n j t w _ other_one (as_number z byte stage sign radix high low digit p q r does) =
      as_number z byte stage sign radix high low digit p q r
      (other-does program choice own sp 6 is_placed (is_byte 26) End read_word (truth (v == 26)) t w (spot (first_words v) m i) Onward (spot (numeral_words byte stage sign radix high low digit) n j) refl other_one does)
  another v m i n j t w _ other_one (as_error words does) =
      as_error words
      (other-does program choice own sp 6 is_placed (is_byte 26) End read_word (truth (v == 26)) t w (spot (first_words v) m i) (Failing 106) (spot words n j) refl other_one does)

  same-bit : (v : ℕ) → v ≡ 26 → truth (v == 26) ≡ 0 → ⊥
  same-bit v e z = let one = one-bit v e in omega (arith, one, z)
    where
      one-bit : (v : ℕ) → v ≡ 26 → truth (v == 26) ≡ 1
      one-bit v e = grind (arith, nat_tests, e)

  no-word : (l : List ℕ) (m : Cells) (i : List ℕ) → HasInput choice ahead m i l → next_byte l ≡ 26 → [] ≡ (word_read l).0 → l ≡ (word_read l).1 → Read l 0 4 test_end (spot (first_words (next_byte l)) m i) m
  no-word l m i has is empty same =
      let v = next_byte l in
      let a = spot (first_words v) m i in
      record {
        memory = m;
        input = i;
        input_is = subst (λ r. HasInput choice ahead m i r) same has;
        others = λ x free. refl;
        is = subst (λ w. Ended a m i 0 4 test_end (number_of w)) empty
            (as_number (pos 0) v 0 0 10 0 0 0 (omega arith) (omega arith) refl
            (taken-does program choice own sp 6 is_placed (is_byte 26) End read_word (truth (v == 26)) 0 0 a Onward a refl (same-bit v is) (straight-does program choice own sp 6 is_placed End a Onward a refl)));
      }

  -- how many bytes the word has
  abbrev many : List ℕ → ℕ
  many l = length l - length (behind_word l)

  a-word : (b : ℕ) (rest : List ℕ) (m : Cells) (i : List ℕ) → HasInput choice ahead m i (b ∷ rest) → ends_word b ≡ false → truth (b == 26) ≡ 0 →
      Read (b ∷ rest) (2 * many (b ∷ rest) + 2) (200 * (many (b ∷ rest) + 1) + 44) test_end (spot (first_words b) m i) m
  a-word b rest m i has going other_one =
      let l = b ∷ rest in
      let n = many l in
      let r = read-word program choice own sp is_placed is_text item ahead there e l (Some stages.Start) b (first_words b) (at_stage stages.Start 0) m i has in
      let a = spot (first_words b) m i in
      let word_so : word_of l ≡ b ∷ word_of rest = ap (λ t. cond t [] (b ∷ word_of rest)) going in
      let number_so : value_behind (stage_behind (Some stages.Start) (word_of l)) ≡ number_of (word_read l).0 =
      ap (λ w. value_behind (stage_behind (Some stages.Start) w)) word_so ∙ sym (value-is b (word_of rest)) ∙ ap number_of (sym word_so ∙ word-is l) in
      let z = ended r.byte' (stage_behind (Some stages.Start) (word_of l)) r.words' r.is_at (bounded-behind (word_of l) (Some stages.Start) tt) r.memory r.input in
      let whole = after (Loop word_round End) end_word (2 * n + 2) (200 * (n + 1)) 0 40 a (spot r.words' r.memory r.input) r.memory r.input (value_behind (stage_behind (Some stages.Start) (word_of l))) r.does z in
      let done = another b m i r.memory r.input (2 * n + 2 + 0) (200 * (n + 1) + 40) (value_behind (stage_behind (Some stages.Start) (word_of l))) other_one whole in
      record {
        memory = r.memory;
        input = r.input;
        input_is = subst (λ k. HasInput choice ahead r.memory r.input k) (rest-is l) r.input_is;
        others = r.others;
        is = subst (λ o. Ended a r.memory r.input (2 * n + 2) (200 * (n + 1) + 44) test_end o) number_so
            (weaker test_end (2 * n + 2 + 0) (4 + (200 * (n + 1) + 40)) (2 * n + 2) (200 * (n + 1) + 44) a r.memory r.input (value_behind (stage_behind (Some stages.Start) (word_of l))) (omega arith) (omega arith) done);
      }

  -- at most so much, by the bytes of the word
  abbrev word_turns : List ℕ → ℕ
  word_turns l = 2 * many l + 2

  abbrev word_work : List ℕ → ℕ
  word_work l = 200 * (many l + 1) + 44

  looser : (l : List ℕ) (m : Cells) (i : List ℕ) → Read l 0 4 test_end (spot (first_words (next_byte l)) m i) m → Read l (word_turns l) (word_work l) test_end (spot (first_words (next_byte l)) m i) m
  looser l m i r = record { memory = r.memory; input = r.input; input_is = r.input_is; others = r.others; is = weaker test_end 0 4 (word_turns l) (word_work l) (spot (first_words (next_byte l)) m i) r.memory r.input (number_of (word_read l).0) (omega arith) (omega arith) r.is }

  read-so : (l : List ℕ) (m : Cells) (i : List ℕ) → HasInput choice ahead m i l → is_separator (next_byte l) ≡ false → Read l (word_turns l) (word_work l) test_end (spot (first_words (next_byte l)) m i) m
  read-so [] m i has stops = looser [] m i (no-word [] m i has refl refl refl)
  read-so (b ∷ rest) m i has stops = by (b == 26) refl
    where
      ends-so : (t : Bool) → (b == 26) ≡ t → ends_word b ≡ t
      ends-so t e = ap (λ s. s || (b == 26)) stops ∙ e

      by : (t : Bool) → (b == 26) ≡ t → Read (b ∷ rest) (word_turns (b ∷ rest)) (word_work (b ∷ rest)) test_end (spot (first_words b) m i) m
      by true e =
          let ends = ends-so true e in
          looser (b ∷ rest) m i
          (no-word (b ∷ rest) m i has (eqb-true b 26 e) (sym (ap (λ t. cond t [] (b ∷ word_of rest)) ends) ∙ word-is (b ∷ rest)) (sym (ap (λ t. cond t (b ∷ rest) (behind_word rest)) ends) ∙ rest-is (b ∷ rest)))
      by false e = a-word b rest m i has (ends-so false e) (ap truth e)

  -- ---- the whole routine

  abbrev pub before_all : Cells → List ℕ → Activation
  before_all m i = record e { words = Shut ∷ Shut ∷ Shut ∷ Free ∷ Free ∷ Free ∷ Free ∷ Free ∷ Free ∷ Free ∷ []; memory = m; input = i }

  pub record Number (left : List ℕ) (m : Cells) (i : List ℕ) : Type 0 where
    pub memory : Cells
    pub input : List ℕ
    pub input_is : HasInput choice ahead memory input (number_read left).1
    pub others : (x : ℕ) → (IsAhead choice ahead x → ⊥) → memory x ≡ m x
    pub is : Ended (before_all m i) memory input (number_turns left) (100 * (number_turns left + 1)) read_number_code (number_read left).0

  pub number : (left : List ℕ) (m : Cells) (i : List ℕ) → HasInput choice ahead m i left → Number left m i
  number left m i has =
      let g = skip program choice own sp is_placed is_text item ahead there e left 0 m i has in
      let l = after_separators left in
      let few = g.few in
      let n = length left - length l in
      let r = read-so l g.memory g.input g.input_is g.stops in
      let a0 = before_all m i in
      let a1 = spot (first_words 0) m i in
      let a2 = spot (first_words (next_byte l)) g.memory g.input in
      let o = number_of (word_read l).0 in
      let rest = after (Loop gap_round End) test_end (2 * n + 2) (100 * (n + 1)) (word_turns l) (word_work l) a1 a2 r.memory r.input o g.does r.is in
      let whole = after begin_numeral ((Loop gap_round End) then test_end) 0 (code_size begin_numeral) (2 * n + 2 + word_turns l) (100 * (n + 1) + word_work l) a0 a1 r.memory r.input o (straight-does program choice own sp 6 is_placed begin_numeral a0 Onward a1 refl) rest in
      let same = ap (λ (k : List ℕ). length k) (rest-is l) in
      let shorter = behind-shorter l in
      record {
        memory = r.memory;
        input = r.input;
        input_is = r.input_is;
        others = λ x free. r.others x free ∙ g.others x free;
        is = weaker read_number_code (0 + (2 * n + 2 + word_turns l)) (code_size begin_numeral + (100 * (n + 1) + word_work l)) (number_turns left) (100 * (number_turns left + 1)) a0 r.memory r.input o (omega (arith, few, same, shorter)) (omega (arith, few, same, shorter)) whole;
      }

-- ---- the promise

pub reads-number : (program : FlatProgram) (choice : Choice) (item ahead : ℕ) (unit : UnitCode) → StackFits program choice → HasText program choice item ahead → IsHeld program (runtime_key read_number_number) unit read_number_routine → ReadsNumber program choice ahead
reads-number program choice item ahead unit fits there held_so left f s stack has = by (number_read left).0 b.is
  where
    room : activation_bytes read_number_routine ≤ f.sp
    room = omega (arith, stack.room)

    own : Frame
    own = frame_of (runtime_key read_number_number).unit unit read_number_routine f

    here : IsPlaced choice own f.sp 6
    here = placed program choice (runtime_key read_number_number) unit read_number_routine held_so fits [] f s refl room stack.inside

    start : Activation
    start = entered choice f.sp 14 [] s

    inside_so : HasInput choice ahead (memory_without choice f.sp s.cells) s.input left
    inside_so = input-inside choice ahead f.sp (stack_top program) stack.inside there.ahead_off s.cells s.input left has

    b : Number program choice own f.sp here refl item ahead there start left (memory_without choice f.sp s.cells) s.input
    b = number program choice own f.sp here refl item ahead there start left (memory_without choice f.sp s.cells) s.input inside_so

    by : (o : Option ℤ) → Ended program choice own f.sp here refl item ahead there start (before_all program choice own f.sp here refl item ahead there start (memory_without choice f.sp s.cells) s.input) b.memory b.input (number_turns left) (100 * (number_turns left + 1)) read_number_code o → ReadsSo program choice ahead left f s o
    by _ (as_number z byte stage sign radix high low digit p q r does) =
        call-ends program choice (runtime_key read_number_number) unit read_number_routine held_so fits [] f s refl room stack.inside (IsAhead choice ahead) (Reads choice ahead (long_bytes (cast_unsigned w32 z)) (number_read left).1 s) (number_turns left) (100 * (number_turns left + 1)) Onward
        (spot program choice own f.sp here refl item ahead there start (numeral_words byte stage sign radix high low digit) b.memory b.input) (long_bytes (cast_unsigned w32 z)) tt
        (does _ (starts program choice (runtime_key read_number_number) unit read_number_routine held_so fits [] f s refl room stack.inside 0 tt))
        (long-bytes low high (cast_unsigned w32 z) p q r)
        b.others
        (λ after left_so. record {
          given_is = refl;
          input = subst (λ i. HasInput choice ahead after.cells i (number_read left).1) (sym left_so.input) (input-left choice ahead f.sp (stack_top program) stack.inside there.ahead_off b.memory after.cells b.input (number_read left).1 left_so.cells b.input_is);
          out = left_so.out;
          err = left_so.err;
          flag = left_so.flag;
        })
    by _ (as_error words does) =
        call-raises program choice (runtime_key read_number_number) unit read_number_routine held_so fits [] f s refl room stack.inside (RefusesNumber s) (number_turns left) (100 * (number_turns left + 1)) 106
        (spot program choice own f.sp here refl item ahead there start words b.memory b.input)
        (does _ (starts program choice (runtime_key read_number_number) unit read_number_routine held_so fits [] f s refl room stack.inside 0 tt))
        (λ after same. record { code_is = refl; out = same.2; err = same.3 })
