-- What Val gives.
use Rattle.std.proofs.Common.{◌≡◌, ℕ, ◌+◌, ◌*◌, ◌/◌, ◌%◌, ◌<◌, ◌≤◌, List, [], ◌∷◌, length, Result, Ok, ℤ, pos, negsuc, refl, sym, ap, subst, ◌∙◌, arith}
use Rattle.std.specs.Prelude.{◌==◌}
use Rattle.std.proofs.lemmas.Bool.Decides.{nat_tests}
use Rattle.common_values.specs.integers.Words.{w32, cast_unsigned, low_byte, high_byte}
use Rattle.common_values.specs.declared.numerals.Stage.TheVariants as stages
use Rattle.common_values.specs.Numerals.{radix_of, numeral_from, numeral_of, gap_length, val_by, val_of}
use Rattle.flat_code.specs.declared.memory.Cell.TheVariants.{Known}
use Rattle.flat_code.specs.Tree.{Number, Code, End, Loop, ◌then◌}
use Rattle.flat_code.specs.Memory.{Found, address_of, place_after, word_bytes}
use Rattle.flat_code.specs.Program.{FlatProgram, Choice, UnitCode, runtime_key}
use Rattle.flat_code.specs.Meaning.{Frame, truth, number_bytes, activation_bytes, frame_of}
use Rattle.flat_code.specs.Legal.{StackFits}
use Rattle.flat_code.specs.Gives.{KeepsRest}
use Rattle.flat_code.specs.Runtime.{long_bytes}
use Rattle.runtime_proofs.specs.routine_proofs.Activation.{Slot, Shut, Free, Holds, Activation, IsPlaced}
use Rattle.runtime_proofs.specs.routine_proofs.Straight.{Exit, Onward, code_size}
use Rattle.runtime_proofs.specs.routine_proofs.Comes.{Does}
use Rattle.runtime_proofs.specs.routine_proofs.Entry.{entered}
use Rattle.runtime_proofs.specs.routine_proofs.Specifications.{IsHeld}
use Rattle.runtime_proofs.proofs.routine_proofs.Doing.{weaker-does, then-does, straight-does}
use Rattle.runtime_proofs.proofs.routine_proofs.Calls.{call-ends, placed, starts}
use Rattle.runtime_proofs.specs.strings_in_memory.Strings.{HasString, place}
use Rattle.runtime_proofs.proofs.strings_in_memory.Cells.{byte-read, plus-none}
use Rattle.runtime_proofs.specs.string_loops.Pieces.{behind, set_word}
use Rattle.runtime_proofs.proofs.string_loops.Seen.{set-so}
use Rattle.runtime_proofs.proofs.string_loops.Entry.{string-inside}
use Rattle.runtime_proofs.proofs.text_memory.Effects.{taken-does, other-does}
use Rattle.rt_text.specs.numeral_steps.Stages.{numeral_words, stage_words}
use Rattle.rt_text.specs.numeral_steps.Step.{is_number, begin_numeral, give_sign}
use Rattle.rt_text.proofs.numeral_steps.Signing.{signs}
use Rattle.rt_text.specs.val_routines.Routines.{begin_text, gap_round, numeral_round, end_val, val_code, val_value_routine, val_place_routine}
use Rattle.rt_text.specs.val_routines.Specifications.{val_value_number, val_place_number, GivesValue, GivesPlace}
use Rattle.rt_text.proofs.val_routines.Reading.{Finished, whole, broken, front, back, at, gaps, read-numeral}

-- the bytes of a LongInt from its words
long-bytes : (a b n : ℕ) → a < 65536 → b < 65536 → a + 65536 * b ≡ n → (let r : Found (List ℕ) = Ok (low_byte a ∷ high_byte a ∷ low_byte b ∷ high_byte b ∷ []) in r ≡ Ok (number_bytes 4 n))
long-bytes a b n p q e =
    let e0 : n % 256 ≡ a % 256 = omega arith in
    let e1 : n / 256 % 256 ≡ a / 256 % 256 = omega arith in
    let e2 : n / 256 / 256 % 256 ≡ b % 256 = omega arith in
    let e3 : n / 256 / 256 / 256 % 256 ≡ b / 256 % 256 = omega arith in
    cc

other-bit : (x y : ℕ) → (x ≡ y → ⊥) → truth (x == y) ≡ 0
other-bit x y h = grind (arith, nat_tests)

numeral-is : (text : List ℕ) → numeral_from stages.Start 1 text ≡ numeral_of text
unfolding numeral_of
numeral-is text = refl

module _ (program : FlatProgram) (choice : Choice) (own : Frame) (sp : ℕ) (is_placed : IsPlaced choice own sp 10) (e : Activation) (segment offset : ℕ) where
  abbrev Goes : Code → ℕ → ℕ → Activation → Exit → Activation → Type 0
  Goes code turns work a exit b = Does program choice own sp code turns work a exit b

  abbrev pub spot : List Slot → ℕ → ℕ → ℕ → Activation
  spot words p left n = at program choice own sp is_placed e segment offset words p left n

  -- ---- the end

  pub record Given (result : Result ℤ ℕ) (before : ℕ) (start : Activation) : Type 0 where
    pub byte : ℕ
    pub stage : ℕ
    pub sign : ℕ
    pub radix : ℕ
    pub high : ℕ
    pub low : ℕ
    pub digit : ℕ
    pub p' : ℕ
    pub left' : ℕ
    pub code : ℕ
    pub low_small : low < 65536
    pub high_small : high < 65536
    pub value_is : low + 65536 * high ≡ cast_unsigned w32 (val_by before result).0
    pub code_is : code ≡ (val_by before result).1
    pub does : Goes end_val 0 40 start Onward (spot (numeral_words byte stage sign radix high low digit) p' left' code)

  abbrev takes_sign : Code
  takes_sign = set_word (negsuc 21) (Number 0) give_sign

  abbrev gives_none : Code
  gives_none = set_word (negsuc 9) (Number 0) (set_word (negsuc 11) (Number 0) End)

  given : (result : Result ℤ ℕ) (q : ℕ) (words : List Slot) → Finished result q words → (before p left : ℕ) → Given result before (spot words p left (before + q))
  given _ _ _ (whole byte q digit n x m small) before p left =
      let s = signs n x m byte digit small in
      let words = stage_words byte (stages.Digits n x m) digit in
      let a = spot words p left (before + q) in
      let c = spot words p left 0 in
      let z = spot (numeral_words byte 3 (truth n) (radix_of x) s.high s.low digit) p left 0 in
      record {
        byte = byte;
        stage = 3;
        sign = truth n;
        radix = radix_of x;
        high = s.high;
        low = s.low;
        digit = digit;
        p' = p;
        left' = left;
        code = 0;
        low_small = s.low_small;
        high_small = s.high_small;
        value_is = s.is;
        code_is = refl;
        does = weaker-does program choice own sp end_val 0 (1 + 3 + (2 + code_size give_sign)) 0 40 a Onward z (omega arith) (omega arith)
            (taken-does program choice own sp 10 is_placed (is_number (negsuc 3) 3) takes_sign gives_none 1 0 (2 + code_size give_sign) a Onward z refl (λ k. omega (arith, k))
            (then-does program choice own sp (set_word (negsuc 21) (Number 0) End) give_sign 0 2 0 (code_size give_sign) a c Onward z
            (straight-does program choice own sp 10 is_placed (set_word (negsuc 21) (Number 0) End) a Onward c refl)
            (straight-does program choice own sp 10 is_placed give_sign c Onward z (s.does choice own (front program choice own sp is_placed e segment offset) (back program choice own sp is_placed e segment offset p left 0) e))));
      }
  given _ _ _ (broken byte q stage sign radix high low digit not_whole) before p left =
      let a = spot (numeral_words byte stage sign radix high low digit) p left (before + q) in
      let z = spot (numeral_words byte stage sign radix 0 0 digit) p left (before + q) in
      record {
        byte = byte;
        stage = stage;
        sign = sign;
        radix = radix;
        high = 0;
        low = 0;
        digit = digit;
        p' = p;
        left' = left;
        code = before + q;
        low_small = omega arith;
        high_small = omega arith;
        value_is = refl;
        code_is = refl;
        does = weaker-does program choice own sp end_val 0 (1 + 3 + code_size gives_none) 0 40 a Onward z (omega arith) (omega arith)
            (other-does program choice own sp 10 is_placed (is_number (negsuc 3) 3) takes_sign gives_none (truth (stage == 3)) 0 (code_size gives_none) a Onward z refl (other-bit stage 3 not_whole)
            (straight-does program choice own sp 10 is_placed gives_none a Onward z refl));
      }

  -- ---- the whole routine

  abbrev before_all : Activation
  before_all = record e { words = Holds segment ∷ Holds offset ∷ Shut ∷ Shut ∷ Shut ∷ Free ∷ Free ∷ Free ∷ Free ∷ Free ∷ Free ∷ Free ∷ Free ∷ Free ∷ Free ∷ Free ∷ [] }

  abbrev first_words : List Slot
  first_words = stage_words 0 stages.Start 0

  begins : (n : ℕ) → e.memory (address_of (place segment offset) 0) ≡ Known n → n < 256 → Goes (begin_numeral then begin_text) 0 30 before_all Onward (spot first_words offset n 1)
  begins n has small =
      let a1 = record e { words = Holds segment ∷ Holds offset ∷ Shut ∷ Shut ∷ Shut ∷ Holds 0 ∷ Holds 0 ∷ Holds 0 ∷ Holds 10 ∷ Holds 0 ∷ Holds 0 ∷ Holds 0 ∷ Free ∷ Free ∷ Free ∷ Free ∷ [] } in
      let a2 = record e { words = Holds segment ∷ Holds offset ∷ Shut ∷ Shut ∷ Shut ∷ Holds 0 ∷ Holds 0 ∷ Holds 0 ∷ Holds 10 ∷ Holds 0 ∷ Holds 0 ∷ Holds 0 ∷ Holds segment ∷ Holds offset ∷ Free ∷ Free ∷ [] } in
      let a3 = record e { words = Holds segment ∷ Holds offset ∷ Shut ∷ Shut ∷ Shut ∷ Holds 0 ∷ Holds 0 ∷ Holds 0 ∷ Holds 10 ∷ Holds 0 ∷ Holds 0 ∷ Holds 0 ∷ Holds segment ∷ Holds offset ∷ Holds n ∷ Free ∷ [] } in
      let z = spot first_words offset n 1 in
      weaker-does program choice own sp (begin_numeral then begin_text) 0 (code_size begin_numeral + code_size begin_text) 0 30 before_all Onward z (omega arith) (omega arith)
      (then-does program choice own sp begin_numeral begin_text 0 (code_size begin_numeral) 0 (code_size begin_text) before_all a1 Onward z
      (straight-does program choice own sp 10 is_placed begin_numeral before_all Onward a1 refl)
      (straight-does program choice own sp 10 is_placed begin_text a1 Onward z
      (set-so choice own 10 (negsuc 19) (behind (pos 6) 0) (set_word (negsuc 21) (Number 1) End) a2 a3 n (byte-read e.memory (place_after (place segment offset) 0) 0 n (ap e.memory (plus-none segment offset 0) ∙ has) small) refl)))

  pub record Answered (text : List ℕ) : Type 0 where
    pub byte : ℕ
    pub stage : ℕ
    pub sign : ℕ
    pub radix : ℕ
    pub high : ℕ
    pub low : ℕ
    pub digit : ℕ
    pub p' : ℕ
    pub left' : ℕ
    pub code : ℕ
    pub low_small : low < 65536
    pub high_small : high < 65536
    pub value_is : low + 65536 * high ≡ cast_unsigned w32 (val_of text).0
    pub code_is : code ≡ (val_of text).1
    pub does : Goes val_code 512 65536 before_all Onward (spot (numeral_words byte stage sign radix high low digit) p' left' code)

  pub answered : (text : List ℕ) → HasString e.memory (place segment offset) text → Answered text
  answered text has =
      let len = length text in
      let short = has.short in
      let g = gaps program choice own sp is_placed e segment offset text 0 offset 1 has.short (omega (arith, short)) has.bytes in
      let sum = g.sum in
      let few : length g.rest ≤ len = omega (arith, sum, g.n_is) in
      let before = gap_length text in
      let place_is : before + 1 ≡ g.n' = (let n_is = g.n_is in omega (arith, n_is)) in
      let r = read-numeral program choice own sp is_placed e segment offset g.rest stages.Start before 1 g.byte' 0 g.p' (omega (arith, few, short)) (omega (arith, place_is, sum, short)) tt g.has in
      let z = given (numeral_from stages.Start 1 g.rest) r.q' r.words r.is before r.p' r.left' in
      let value_so : val_by before (numeral_from stages.Start 1 g.rest) ≡ val_of text = ap (val_by before) (numeral-is g.rest ∙ ap numeral_of (sym g.rest_is)) in
      let a1 = spot first_words offset len 1 in
      let a2 = spot (stage_words g.byte' stages.Start 0) g.p' (length g.rest) (before + 1) in
      let a3 = spot r.words r.p' r.left' (before + r.q') in
      let a4 = spot (numeral_words z.byte z.stage z.sign z.radix z.high z.low z.digit) z.p' z.left' z.code in
      let first_loop = subst (λ n. Goes (Loop gap_round End) (1 + len) (42 * (1 + len)) a1 Onward (spot (stage_words g.byte' stages.Start 0) g.p' (length g.rest) n)) (sym place_is) g.does in
      let last = then-does program choice own sp (Loop numeral_round End) end_val (1 + length g.rest) (160 * (1 + length g.rest)) 0 40 a2 a3 Onward a4 r.does z.does in
      let more = then-does program choice own sp (Loop gap_round End) ((Loop numeral_round End) then end_val) (1 + len) (42 * (1 + len)) (1 + length g.rest + 0) (160 * (1 + length g.rest) + 40) a1 a2 Onward a4 first_loop last in
      record {
        byte = z.byte;
        stage = z.stage;
        sign = z.sign;
        radix = z.radix;
        high = z.high;
        low = z.low;
        digit = z.digit;
        p' = z.p';
        left' = z.left';
        code = z.code;
        low_small = z.low_small;
        high_small = z.high_small;
        value_is = z.value_is ∙ ap (λ (v : ℤ × ℕ). cast_unsigned w32 v.0) value_so;
        code_is = z.code_is ∙ ap (λ (v : ℤ × ℕ). v.1) value_so;
        does = weaker-does program choice own sp val_code (0 + (1 + len + (1 + length g.rest + 0))) (30 + (42 * (1 + len) + (160 * (1 + length g.rest) + 40))) 512 65536 before_all Onward a4 (omega (arith, few, short)) (omega (arith, few, short))
            (then-does program choice own sp (begin_numeral then begin_text) ((Loop gap_round End) then ((Loop numeral_round End) then end_val)) 0 30 (1 + len + (1 + length g.rest + 0)) (42 * (1 + len) + (160 * (1 + length g.rest) + 40)) before_all a1 Onward a4 (begins len has.size has.short) more);
      }

-- ---- the promises

pub gives-value : (program : FlatProgram) (choice : Choice) (unit : UnitCode) → StackFits program choice → IsHeld program (runtime_key val_value_number) unit val_value_routine → GivesValue program choice
gives-value program choice unit fits held_so segment offset text f s are stack can =
    let key = runtime_key val_value_number in
    let room : activation_bytes val_value_routine ≤ f.sp = omega (arith, stack.room) in
    let args = segment ∷ offset ∷ [] in
    let own = frame_of key.unit unit val_value_routine f in
    let here = placed program choice key unit val_value_routine held_so fits args f s refl room stack.inside in
    let start = entered choice f.sp 22 args s in
    let has = string-inside choice f.sp s.cells (place segment offset) text can.off can.there in
    let b = answered program choice own f.sp here start segment offset text has in
    call-ends program choice key unit val_value_routine held_so fits args f s refl room stack.inside (λ address. ⊥) (λ after bytes. (bytes ≡ long_bytes (cast_unsigned w32 (val_of text).0)) × KeepsRest s after) 512 65536 Onward
    (spot program choice own f.sp here start segment offset (numeral_words b.byte b.stage b.sign b.radix b.high b.low b.digit) b.p' b.left' b.code) (long_bytes (cast_unsigned w32 (val_of text).0)) tt
    (b.does _ (starts program choice key unit val_value_routine held_so fits args f s refl room stack.inside 2 are))
    (long-bytes b.low b.high (cast_unsigned w32 (val_of text).0) b.low_small b.high_small b.value_is)
    (λ x free. refl)
    (λ after left. (refl, record { flag = left.flag; input = left.input; out = left.out; err = left.err }))

pub gives-place : (program : FlatProgram) (choice : Choice) (unit : UnitCode) → StackFits program choice → IsHeld program (runtime_key val_place_number) unit val_place_routine → GivesPlace program choice
gives-place program choice unit fits held_so segment offset text f s are stack can =
    let key = runtime_key val_place_number in
    let room : activation_bytes val_place_routine ≤ f.sp = omega (arith, stack.room) in
    let args = segment ∷ offset ∷ [] in
    let own = frame_of key.unit unit val_place_routine f in
    let here = placed program choice key unit val_place_routine held_so fits args f s refl room stack.inside in
    let start = entered choice f.sp 22 args s in
    let has = string-inside choice f.sp s.cells (place segment offset) text can.off can.there in
    let b = answered program choice own f.sp here start segment offset text has in
    call-ends program choice key unit val_place_routine held_so fits args f s refl room stack.inside (λ address. ⊥) (λ after bytes. (bytes ≡ word_bytes (val_of text).1) × KeepsRest s after) 512 65536 Onward
    (spot program choice own f.sp here start segment offset (numeral_words b.byte b.stage b.sign b.radix b.high b.low b.digit) b.p' b.left' b.code) (word_bytes (val_of text).1) tt
    (b.does _ (starts program choice key unit val_place_routine held_so fits args f s refl room stack.inside 2 are))
    (ap (λ v. let r : Found (List ℕ) = Ok (word_bytes v) in r) b.code_is)
    (λ x free. refl)
    (λ after left. (refl, record { flag = left.flag; input = left.input; out = left.out; err = left.err }))
