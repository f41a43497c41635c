-- The routines that look at the input, and the one that reads a character.
use Rattle.std.proofs.Common.{◌≡◌, ℕ, zero, suc, ◌+◌, ◌*◌, ◌<◌, ◌≤◌, inl, inr, Bool, true, false, List, [], ◌∷◌, length, Ok, ℤ, pos, negsuc, refl, sym, ap, subst, ◌∙◌, arith}
use Rattle.std.specs.Prelude.{◌==◌, ◌||◌, bit_or, cond}
use Rattle.std.proofs.lemmas.Bool.{cases_eq}
use Rattle.common_values.specs.Input.{is_eof, is_eoln, char_read}
use Rattle.flat_code.specs.declared.tree.FlatOp.TheVariants as op
use Rattle.flat_code.specs.Tree.{Expr, Number, Op, Code, End, If, ◌then◌}
use Rattle.flat_code.specs.Memory.{Cells, Found, word_bytes}
use Rattle.flat_code.specs.Program.{FlatProgram, Choice, UnitCode, text_unit, runtime_key}
use Rattle.flat_code.specs.Meaning.{Frame, State, truth, activation_bytes, frame_of, stack_top}
use Rattle.flat_code.specs.Legal.{StackFits}
use Rattle.flat_code.specs.Gives.{HasStack, Ends}
use Rattle.runtime_proofs.specs.routine_proofs.Activation.{Slot, Shut, Free, Holds, Activation, IsPlaced}
use Rattle.runtime_proofs.specs.routine_proofs.Straight.{Onward, seen_value, straight, code_size}
use Rattle.runtime_proofs.specs.routine_proofs.Comes.{Does}
use Rattle.runtime_proofs.specs.routine_proofs.Entry.{entered, memory_without}
use Rattle.runtime_proofs.specs.routine_proofs.Specifications.{IsHeld}
use Rattle.runtime_proofs.proofs.routine_proofs.Doing.{weaker-does, then-does, straight-does}
use Rattle.runtime_proofs.proofs.routine_proofs.Calls.{call-ends, placed, starts}
use Rattle.runtime_proofs.specs.strings_in_memory.Strings.{HasBytes, IsReached}
use Rattle.runtime_proofs.specs.string_loops.Pieces.{word, set_word}
use Rattle.runtime_proofs.proofs.string_loops.Seen.{op-so, set-so}
use Rattle.runtime_proofs.specs.text_memory.Data.{HasText, IsLeft, none, ahead_place}
use Rattle.runtime_proofs.proofs.text_memory.Effects.{SameRest, taken-does, other-does}
use Rattle.rt_text.specs.read_text.Ahead.{peek, take}
use Rattle.rt_text.specs.read_text.Routines.{function_of, is_byte, ends_text, eof_routine, eoln_routine, take_char, read_char_routine}
use Rattle.rt_text.specs.read_text.Specifications.{eof_number, eoln_number, read_char_number, HasInput, Reads, IsAhead, TellsEof, TellsEoln, ReadsChar}
use Rattle.rt_text.proofs.read_text.InputLemmas.{left-rest, same-byte, other-byte, is-one, either-bit, input-inside, input-left}
use Rattle.rt_text.proofs.read_text.Peeking.{next_byte, ahead-so, with-ahead-has, with-ahead-other, with_ahead, known-reached, Peeking, Peeked, peeked}

-- ---- what the next byte tells

eof-told : (left : List ℕ) → truth (next_byte left == 26) ≡ truth (is_eof left)
eof-told [] = refl
eof-told (b ∷ rest) = refl

eoln-told : (left : List ℕ) → bit_or (bit_or (truth (next_byte left == 13)) (truth (next_byte left == 10))) (truth (next_byte left == 26)) ≡ truth (is_eoln left)
eoln-told [] = refl
eoln-told (b ∷ rest) = ap (λ v. bit_or v (truth (b == 26))) (either-bit (b == 13) (b == 10)) ∙ either-bit ((b == 13) || (b == 10)) (b == 26)

module _ (program : FlatProgram) (choice : Choice) (own : Frame) (sp : ℕ) (is_placed : IsPlaced choice own sp 6) (is_text : own.unit ≡ text_unit) (item ahead : ℕ) (there : HasText program choice item ahead) (e : Activation) where
  abbrev pub start : Cells → List ℕ → Activation
  start m i = record e { words = Shut ∷ Shut ∷ Shut ∷ Free ∷ []; memory = m; input = i }

  abbrev pub at : ℕ → Cells → List ℕ → Activation
  at w m i = record e { words = Shut ∷ Shut ∷ Shut ∷ Holds w ∷ []; memory = m; input = i }

  pub peeking : Peeking choice own 6 start at
  peeking = record {
    first = λ m i v. refl;
    again = λ w m i v. refl;
    value = λ w m i. refl;
    start_memory = λ m i. refl;
    start_input = λ m i. refl;
    memory = λ w m i. refl;
    with_memory = λ w m i k. refl;
    with_input = λ w m i j. refl;
    same = λ m i v. record { flag = refl; input = refl; out = refl; err = refl };
  }

  -- from here on, where the slot has a value
  pub peeking-again : (v : ℕ) → Peeking choice own 6 (at v) at
  peeking-again v = record {
    first = λ m i v. refl;
    again = λ w m i v. refl;
    value = λ w m i. refl;
    start_memory = λ m i. refl;
    start_input = λ m i. refl;
    memory = λ w m i. refl;
    with_memory = λ w m i k. refl;
    with_input = λ w m i j. refl;
    same = λ m i v. record { flag = refl; input = refl; out = refl; err = refl };
  }

  -- the byte ahead is taken
  pub take-does : (b v : ℕ) (m : Cells) (i : List ℕ) → HasBytes m (ahead_place choice ahead) 0 (word_bytes b) → straight choice own 6 take (at v m i) ≡ Ok (record { exit = Onward; there = at v (with_ahead program choice own 6 is_text item ahead there m 256) i })
  take-does b v m i has = ahead-so program choice own 6 is_text item ahead there (Number 256) End (at v m i) 256 refl (known-reached program choice own 6 is_text item ahead there m b has)

  module _ (m : Cells) (i left : List ℕ) (has : HasInput choice ahead m i left) where
    pub first-byte : Peeked program choice own sp 6 is_placed is_text item ahead there start at peeking m i left
    first-byte = peeked program choice own sp 6 is_placed is_text item ahead there start at peeking has.word m i left has.ahead_is has.bytes has.left_is

    still : HasInput choice ahead first-byte.memory first-byte.input left
    still = record { word = next_byte left; ahead_is = first-byte.ahead_is; left_is = first-byte.left_is; bytes = first-byte.bytes }

    -- a value is given, and so much is left
    pub record Given (body : Code) (v : ℕ) (rest : List ℕ) : Type 0 where
      pub memory : Cells
      pub input : List ℕ
      pub does : Does program choice own sp body 1 64 (start m i) Onward (at v memory input)
      pub input_is : HasInput choice ahead memory input rest
      pub others : (x : ℕ) → (IsAhead choice ahead x → ⊥) → memory x ≡ m x

    -- a value that is computed from the byte ahead
    told : (value : Expr) (v : ℕ) → seen_value choice own 6 (at (next_byte left) first-byte.memory first-byte.input) value ≡ Ok v → code_size (set_word (negsuc 1) value End) ≤ 32 → Given (peek then (set_word (negsuc 1) value End)) v left
    told value v is few =
        let a = at (next_byte left) first-byte.memory first-byte.input in
        let b = at v first-byte.memory first-byte.input in
        let last = set_word (negsuc 1) value End in
        record {
          memory = first-byte.memory;
          input = first-byte.input;
          does = weaker-does program choice own sp (peek then last) (1 + 0) (32 + code_size last) 1 64 (start m i) Onward b (omega arith) (omega (arith, few))
              (then-does program choice own sp peek last 1 32 0 (code_size last) (start m i) a Onward b first-byte.does
              (straight-does program choice own sp 6 is_placed last a Onward b (set-so choice own 6 (negsuc 1) value End a b v is refl)));
          input_is = still;
          others = first-byte.others;
        }

    pub eof-given : Given eof_routine.body (truth (is_eof left)) left
    eof-given = told (is_byte 26) (truth (is_eof left)) (op-so choice own 6 op.Equal (word (negsuc 1)) (Number 26) (at (next_byte left) first-byte.memory first-byte.input) (next_byte left) 26 refl refl ∙ ap (λ v. let r : Found ℕ = Ok v in r) (eof-told left)) (omega arith)

    pub eoln-given : Given eoln_routine.body (truth (is_eoln left)) left
    eoln-given =
        let a = at (next_byte left) first-byte.memory first-byte.input in
        told ends_text (truth (is_eoln left)) (ap (λ v. let r : Found ℕ = Ok v in r) (eoln-told left)) (omega arith)

    -- ---- a character

    kept-char : next_byte left ≡ 26 → char_read left ≡ (26, left)
    kept-char e = by left e
      where
        by : (left : List ℕ) → next_byte left ≡ 26 → char_read left ≡ (26, left)
        by [] e = refl
        by (b ∷ rest) e = ap (λ t. cond t (26, b ∷ rest) (b, rest)) (same-byte b 26 e)

    char-stays : next_byte left ≡ 26 → Given read_char_routine.body 26 left
    char-stays is =
        let a = at (next_byte left) first-byte.memory first-byte.input in
        record {
          memory = first-byte.memory;
          input = first-byte.input;
          does = subst (λ v. Does program choice own sp read_char_routine.body 1 64 (start m i) Onward (at v first-byte.memory first-byte.input)) is
              (weaker-does program choice own sp read_char_routine.body (1 + 0) (32 + (1 + 3 + 0)) 1 64 (start m i) Onward a (omega arith) (omega arith)
              (then-does program choice own sp peek take_char 1 32 0 (1 + 3 + 0) (start m i) a Onward a first-byte.does
              (taken-does program choice own sp 6 is_placed (is_byte 26) End take (truth (next_byte left == 26)) 0 0 a Onward a refl (is-one (next_byte left == 26) (same-byte (next_byte left) 26 is))
              (straight-does program choice own sp 6 is_placed End a Onward a refl))));
          input_is = still;
          others = first-byte.others;
        }

    char-taken : (b : ℕ) (rest : List ℕ) → left ≡ b ∷ rest → (b ≡ 26 → ⊥) → Given read_char_routine.body b rest
    char-taken b rest is ne =
        let n = first-byte.memory in
        let a = at (next_byte left) n first-byte.input in
        let k = with_ahead program choice own 6 is_text item ahead there n 256 in
        let c = at (next_byte left) k first-byte.input in
        let next : next_byte left ≡ b = ap next_byte is in
        record {
          memory = k;
          input = first-byte.input;
          does = subst (λ v. Does program choice own sp read_char_routine.body 1 64 (start m i) Onward (at v k first-byte.input)) next
              (weaker-does program choice own sp read_char_routine.body (1 + 0) (32 + (1 + 3 + 2)) 1 64 (start m i) Onward c (omega arith) (omega arith)
              (then-does program choice own sp peek take_char 1 32 0 (1 + 3 + 2) (start m i) a Onward c first-byte.does
              (other-does program choice own sp 6 is_placed (is_byte 26) End take (truth (next_byte left == 26)) 0 2 a Onward c refl (ap truth (other-byte (next_byte left) 26 (λ e. ne (sym next ∙ e))))
              (straight-does program choice own sp 6 is_placed take a Onward c (take-does (next_byte left) (next_byte left) n first-byte.input first-byte.ahead_is)))));
          input_is = record {
            word = 256;
            ahead_is = with-ahead-has program choice own 6 is_text item ahead there n 256;
            left_is = subst (λ l. IsLeft 256 first-byte.input l) (left-rest (next_byte left) first-byte.input left first-byte.left_is first-byte.small b rest is) (none first-byte.input);
            bytes = first-byte.bytes;
          };
          others = λ x free. with-ahead-other program choice own 6 is_text item ahead there n 256 x free ∙ first-byte.others x free;
        }

    pub char-given : Given read_char_routine.body (char_read left).0 (char_read left).1
    char-given = elim (cases_eq (next_byte left) 26) [ inl is ↦ (let s = kept-char is in subst (λ (r : ℕ × List ℕ). Given read_char_routine.body r.0 r.1) (sym s) (char-stays is)) | inr ne ↦ by left refl ne ]
      where
        by : (l : List ℕ) → left ≡ l → (next_byte left ≡ 26 → ⊥) → Given read_char_routine.body (char_read left).0 (char_read left).1
        by [] e ne = absurd (ne (ap next_byte e))
        by (b ∷ rest) e ne =
            let not_end : b ≡ 26 → ⊥ = λ h. ne (ap next_byte e ∙ h) in
            let s : char_read left ≡ (b, rest) = ap char_read e ∙ ap (λ t. cond t (26, b ∷ rest) (b, rest)) (other-byte b 26 not_end) in
            subst (λ (r : ℕ × List ℕ). Given read_char_routine.body r.0 r.1) (sym s) (char-taken b rest e not_end)

-- ---- the promises

module _ (program : FlatProgram) (choice : Choice) (item ahead : ℕ) (unit : UnitCode) (fits : StackFits program choice) (there : HasText program choice item ahead) where
  abbrev frame : ℕ → Code → Frame → Frame
  frame number body f = frame_of (runtime_key number).unit unit (function_of body) f

  -- a function that gives a value
  promised : (number : ℕ) (body : Code) (text : (runtime_key number).unit ≡ text_unit) → IsHeld program (runtime_key number) unit (function_of body) → (v : ℕ) (rest left : List ℕ) (f : Frame) (s : State) (stack : HasStack program 64 f) → HasInput choice ahead s.cells s.input left →
      ((placed : IsPlaced choice (frame number body f) f.sp 6) (has : HasInput choice ahead (memory_without choice f.sp s.cells) s.input left) → Given program choice (frame number body f) f.sp placed text item ahead there (entered choice f.sp 2 [] s) (memory_without choice f.sp s.cells) s.input left has body v rest) →
      Ends program choice (runtime_key number) (IsAhead choice ahead) (Reads choice ahead (word_bytes v) rest s) 1 (64 * 1) [] f s
  promised number body text held_so v rest left f s stack has given =
      let key = runtime_key number in
      let r = function_of body in
      let room : activation_bytes r ≤ f.sp = omega (arith, stack.room) in
      let here = placed program choice key unit r held_so fits [] f s refl room stack.inside in
      let inside = input-inside choice ahead f.sp (stack_top program) stack.inside there.ahead_off s.cells s.input left has in
      let done = given here inside in
      call-ends program choice key unit r held_so fits [] f s refl room stack.inside (IsAhead choice ahead) (Reads choice ahead (word_bytes v) rest s) 1 (64 * 1) Onward
      (at program choice (frame number body f) f.sp here text item ahead there (entered choice f.sp 2 [] s) v done.memory done.input) (word_bytes v) tt
      (done.does _ (starts program choice key unit r held_so fits [] f s refl room stack.inside 0 tt))
      refl done.others
      (λ after left_so. record {
        given_is = refl;
        input = subst (λ i. HasInput choice ahead after.cells i rest) (sym left_so.input) (input-left choice ahead f.sp (stack_top program) stack.inside there.ahead_off done.memory after.cells done.input rest left_so.cells done.input_is);
        out = left_so.out;
        err = left_so.err;
        flag = left_so.flag;
      })

  pub tells-eof : IsHeld program (runtime_key eof_number) unit eof_routine → TellsEof program choice ahead
  tells-eof held_so left f s stack has = promised eof_number eof_routine.body refl held_so (truth (is_eof left)) left left f s stack has (λ here inside. eof-given program choice _ f.sp here refl item ahead there (entered choice f.sp 2 [] s) (memory_without choice f.sp s.cells) s.input left inside)

  pub tells-eoln : IsHeld program (runtime_key eoln_number) unit eoln_routine → TellsEoln program choice ahead
  tells-eoln held_so left f s stack has = promised eoln_number eoln_routine.body refl held_so (truth (is_eoln left)) left left f s stack has (λ here inside. eoln-given program choice _ f.sp here refl item ahead there (entered choice f.sp 2 [] s) (memory_without choice f.sp s.cells) s.input left inside)

  pub reads-char : IsHeld program (runtime_key read_char_number) unit read_char_routine → ReadsChar program choice ahead
  reads-char held_so left f s stack has = promised read_char_number read_char_routine.body refl held_so (char_read left).0 (char_read left).1 left f s stack has (λ here inside. char-given program choice _ f.sp here refl item ahead there (entered choice f.sp 2 [] s) (memory_without choice f.sp s.cells) s.input left inside)
