-- The routine that reads the rest of a line.
use Rattle.std.proofs.Common.{◌≡◌, ℕ, zero, suc, ◌+◌, ◌*◌, ◌<◌, ◌≤◌, inl, inr, Bool, true, false, List, [], ◌∷◌, length, Ok, ℤ, pos, negsuc, refl, sym, ap, subst, ◌∙◌, arith, ◌⊎◌}
use Rattle.std.specs.Prelude.{◌==◌, cond}
use Rattle.std.proofs.lemmas.Bool.{cases_eq}
use Rattle.common_values.specs.Input.{after_13, after_line}
use Rattle.flat_code.specs.Tree.{Expr, Code, End, If, Loop, ◌then◌}
use Rattle.flat_code.specs.Memory.{Cells, word_bytes}
use Rattle.flat_code.specs.Program.{FlatProgram, Choice, UnitCode, text_unit, runtime_key}
use Rattle.flat_code.specs.Meaning.{Frame, truth, activation_bytes, frame_of, stack_top}
use Rattle.flat_code.specs.Legal.{StackFits}
use Rattle.runtime_proofs.specs.routine_proofs.Activation.{Activation, IsPlaced}
use Rattle.runtime_proofs.specs.routine_proofs.Straight.{Exit, Onward, Leaving}
use Rattle.runtime_proofs.specs.routine_proofs.Comes.{Does}
use Rattle.runtime_proofs.specs.routine_proofs.Entry.{entered, memory_without}
use Rattle.runtime_proofs.specs.routine_proofs.Specifications.{IsHeld}
use Rattle.runtime_proofs.proofs.routine_proofs.Doing.{weaker-does, then-does, straight-does, round-does, leave-does}
use Rattle.runtime_proofs.proofs.routine_proofs.Calls.{call-ends, placed, starts}
use Rattle.runtime_proofs.specs.string_loops.Pieces.{leave}
use Rattle.runtime_proofs.specs.strings_in_memory.Strings.{HasBytes}
use Rattle.runtime_proofs.specs.text_memory.Data.{HasText, IsLeft, none, ahead_place}
use Rattle.runtime_proofs.proofs.text_memory.Effects.{taken-does, other-does}
use Rattle.rt_text.specs.read_text.Ahead.{peek, take}
use Rattle.rt_text.specs.read_text.Routines.{is_byte, after_return, after_byte, line_round, read_line_routine}
use Rattle.rt_text.specs.read_text.Specifications.{read_line_number, AreBytes, HasInput, Reads, IsAhead, line_turns, ReadsLine}
use Rattle.rt_text.proofs.read_text.InputLemmas.{left-rest, same-byte, other-byte, is-one, input-inside, input-left}
use Rattle.rt_text.proofs.read_text.Peeking.{next_byte, with_ahead, with-ahead-has, with-ahead-other, Peeking, Peeked, peeked}
use Rattle.rt_text.proofs.read_text.InputReading.{start, at, peeking, peeking-again, take-does}

-- ---- what is left of a line

line-shorter : (left : List ℕ) → length (after_line left) ≤ length left
line-shorter [] = omega arith
line-shorter (b ∷ rest) = by (b == 26) (b == 13) (b == 10) (line-shorter rest)
  where
    feed-shorter : (rest : List ℕ) → length (after_13 rest) ≤ length rest
    feed-shorter [] = omega arith
    feed-shorter (c ∷ r) = by-feed (c == 10)
      where
        by-feed : (t : Bool) → length (cond t r (c ∷ r)) ≤ suc (length r)
        by-feed true = omega arith
        by-feed false = omega arith

    by : (t u v : Bool) → length (after_line rest) ≤ length rest → length (cond t (b ∷ rest) (cond u (after_13 rest) (cond v rest (after_line rest)))) ≤ suc (length rest)
    by true u v more = omega arith
    by false true v more = let h = feed-shorter rest in omega (arith, h)
    by false false true more = omega arith
    by false false false more = omega (arith, more)

line-26 : (b : ℕ) (rest : List ℕ) → b ≡ 26 → after_line (b ∷ rest) ≡ b ∷ rest
line-26 b rest e = ap (λ t. cond t (b ∷ rest) (cond (b == 13) (after_13 rest) (cond (b == 10) rest (after_line rest)))) (same-byte b 26 e)

line-13 : (b : ℕ) (rest : List ℕ) → (b ≡ 26 → ⊥) → b ≡ 13 → after_line (b ∷ rest) ≡ after_13 rest
line-13 b rest ne e =
    ap (λ t. cond t (b ∷ rest) (cond (b == 13) (after_13 rest) (cond (b == 10) rest (after_line rest)))) (other-byte b 26 ne)
    ∙ ap (λ t. cond t (after_13 rest) (cond (b == 10) rest (after_line rest))) (same-byte b 13 e)

line-10 : (b : ℕ) (rest : List ℕ) → (b ≡ 26 → ⊥) → (b ≡ 13 → ⊥) → b ≡ 10 → after_line (b ∷ rest) ≡ rest
line-10 b rest ne nf e =
    ap (λ t. cond t (b ∷ rest) (cond (b == 13) (after_13 rest) (cond (b == 10) rest (after_line rest)))) (other-byte b 26 ne)
    ∙ ap (λ t. cond t (after_13 rest) (cond (b == 10) rest (after_line rest))) (other-byte b 13 nf)
    ∙ ap (λ t. cond t rest (after_line rest)) (same-byte b 10 e)

line-other : (b : ℕ) (rest : List ℕ) → (b ≡ 26 → ⊥) → (b ≡ 13 → ⊥) → (b ≡ 10 → ⊥) → after_line (b ∷ rest) ≡ after_line rest
line-other b rest ne nf ng =
    ap (λ t. cond t (b ∷ rest) (cond (b == 13) (after_13 rest) (cond (b == 10) rest (after_line rest)))) (other-byte b 26 ne)
    ∙ ap (λ t. cond t (after_13 rest) (cond (b == 10) rest (after_line rest))) (other-byte b 13 nf)
    ∙ ap (λ t. cond t rest (after_line rest)) (other-byte b 10 ng)

module _ (program : FlatProgram) (choice : Choice) (own : Frame) (sp : ℕ) (is_placed : IsPlaced choice own sp 6) (is_text : own.unit ≡ text_unit) (item ahead : ℕ) (there : HasText program choice item ahead) (e : Activation) where
  abbrev st : ℕ → Cells → List ℕ → Activation
  st w m i = at program choice own sp is_placed is_text item ahead there e w m i

  abbrev Goes : Code → ℕ → ℕ → Activation → Exit → Activation → Type 0
  Goes code turns work a exit b = Does program choice own sp code turns work a exit b

  -- some statements read, and so much is left
  pub record Read (code : Code) (turns work : ℕ) (a : Activation) (exit : Exit) (m : Cells) (rest : List ℕ) : Type 0 where
    pub value : ℕ
    pub memory : Cells
    pub input : List ℕ
    pub does : Does program choice own sp code turns work a exit (st value memory input)
    pub input_is : HasInput choice ahead memory input rest
    pub others : (x : ℕ) → (IsAhead choice ahead x → ⊥) → memory x ≡ m x

  -- it is taken
  taken : (b : ℕ) (rest left : List ℕ) (n : Cells) (j : List ℕ) → left ≡ b ∷ rest → next_byte left < 256 → HasBytes n (ahead_place choice ahead) 0 (word_bytes (next_byte left)) → IsLeft (next_byte left) j left → AreBytes j → (v : ℕ) →
      Read take 0 2 (st v n j) Onward n rest
  taken b rest left n j is small has left_is are v = record {
    value = v;
    memory = with_ahead program choice own 6 is_text item ahead there n 256;
    input = j;
    does = straight-does program choice own sp 6 is_placed take (st v n j) Onward (st v (with_ahead program choice own 6 is_text item ahead there n 256) j) (take-does program choice own sp is_placed is_text item ahead there e (next_byte left) v n j has);
    input_is = record {
      word = 256;
      ahead_is = with-ahead-has program choice own 6 is_text item ahead there n 256;
      left_is = subst (λ l. IsLeft 256 j l) (left-rest (next_byte left) j left left_is small b rest is) (none j);
      bytes = are;
    };
    others = with-ahead-other program choice own 6 is_text item ahead there n 256;
  }

  leave-now : (v : ℕ) (n : Cells) (j : List ℕ) → Goes leave 0 1 (st v n j) (Leaving 0) (st v n j)
  leave-now v n j = straight-does program choice own sp 6 is_placed leave (st v n j) (Leaving 0) (st v n j) refl

  -- ---- behind a carriage return

  abbrev feed : Code
  feed = If (is_byte 10) take End End

  module _ (v : ℕ) (m : Cells) (i rest : List ℕ) (has : HasInput choice ahead m i rest) where
    behind : Peeked program choice own sp 6 is_placed is_text item ahead there (st v) st (peeking-again program choice own sp is_placed is_text item ahead there e v) m i rest
    behind = peeked program choice own sp 6 is_placed is_text item ahead there (st v) st (peeking-again program choice own sp is_placed is_text item ahead there e v) has.word m i rest has.ahead_is has.bytes has.left_is

    abbrev b : ℕ
    b = next_byte rest

    -- no line feed is there
    stays : (b ≡ 10 → ⊥) → Read after_return 1 39 (st v m i) (Leaving 0) m rest
    stays ne = record {
      value = b;
      memory = behind.memory;
      input = behind.input;
      does = weaker-does program choice own sp after_return (1 + (0 + 0)) (32 + ((1 + 3 + 0) + 1)) 1 39 (st v m i) (Leaving 0) (st b behind.memory behind.input) (omega arith) (omega arith)
          (then-does program choice own sp peek (feed then leave) 1 32 (0 + 0) ((1 + 3 + 0) + 1) (st v m i) (st b behind.memory behind.input) (Leaving 0) (st b behind.memory behind.input) behind.does
          (then-does program choice own sp feed leave 0 (1 + 3 + 0) 0 1 (st b behind.memory behind.input) (st b behind.memory behind.input) (Leaving 0) (st b behind.memory behind.input)
          (other-does program choice own sp 6 is_placed (is_byte 10) take End (truth (b == 10)) 0 0 (st b behind.memory behind.input) Onward (st b behind.memory behind.input) refl (ap truth (other-byte b 10 ne))
          (straight-does program choice own sp 6 is_placed End (st b behind.memory behind.input) Onward (st b behind.memory behind.input) refl))
          (leave-now b behind.memory behind.input)));
      input_is = record { word = b; ahead_is = behind.ahead_is; left_is = behind.left_is; bytes = behind.bytes };
      others = behind.others;
    }

    -- it is taken
    takes : (c : ℕ) (r : List ℕ) → rest ≡ c ∷ r → b ≡ 10 → Read after_return 1 39 (st v m i) (Leaving 0) m r
    takes c r is ten =
        let t = taken c r rest behind.memory behind.input is behind.small behind.ahead_is behind.left_is behind.bytes b in
        let a1 = st b behind.memory behind.input in
        let a2 = st t.value t.memory t.input in
        record {
          value = t.value;
          memory = t.memory;
          input = t.input;
          does = weaker-does program choice own sp after_return (1 + (0 + 0)) (32 + ((1 + 3 + 2) + 1)) 1 39 (st v m i) (Leaving 0) a2 (omega arith) (omega arith)
              (then-does program choice own sp peek (feed then leave) 1 32 (0 + 0) ((1 + 3 + 2) + 1) (st v m i) a1 (Leaving 0) a2 behind.does
              (then-does program choice own sp feed leave 0 (1 + 3 + 2) 0 1 a1 a2 (Leaving 0) a2
              (taken-does program choice own sp 6 is_placed (is_byte 10) take End (truth (b == 10)) 0 2 a1 Onward a2 refl (is-one (b == 10) (same-byte b 10 ten)) t.does)
              (leave-now t.value t.memory t.input)));
          input_is = t.input_is;
          others = λ x free. t.others x free ∙ behind.others x free;
        }

    return-read : Read after_return 1 39 (st v m i) (Leaving 0) m (after_13 rest)
    return-read = by rest refl (cases_eq b 10)
      where
        by : (l : List ℕ) → rest ≡ l → (b ≡ 10) ⊎ (b ≡ 10 → ⊥) → Read after_return 1 39 (st v m i) (Leaving 0) m (after_13 rest)
        by [] is way = subst (λ l. Read after_return 1 39 (st v m i) (Leaving 0) m l) (is ∙ sym (ap after_13 is)) (stays (λ h. let n : 26 ≡ 10 = sym (ap next_byte is) ∙ h in omega (arith, n)))
        by (c ∷ r) is (inl ten) =
            let same : c ≡ 10 = sym (ap next_byte is) ∙ ten in
            let s : r ≡ after_13 rest = sym (ap after_13 is ∙ ap (λ t. cond t r (c ∷ r)) (same-byte c 10 same)) in
            subst (λ l. Read after_return 1 39 (st v m i) (Leaving 0) m l) s (takes c r is ten)
        by (c ∷ r) is (inr ne) =
            let other : c ≡ 10 → ⊥ = λ h. ne (ap next_byte is ∙ h) in
            let s : rest ≡ after_13 rest = is ∙ sym (ap after_13 is ∙ ap (λ t. cond t r (c ∷ r)) (other-byte c 10 other)) in
            subst (λ l. Read after_return 1 39 (st v m i) (Leaving 0) m l) s (stays ne)

  -- ---- one byte

  module _ (from : Cells → List ℕ → Activation) (peeks : Peeking choice own 6 from st) (m : Cells) (i : List ℕ) where
    -- the input ends here
    last-round : (left : List ℕ) → HasInput choice ahead m i left → next_byte left ≡ 26 → Read line_round 2 100 (from m i) (Leaving 0) m left
    last-round left has is =
        let p = peeked program choice own sp 6 is_placed is_text item ahead there from st peeks has.word m i left has.ahead_is has.bytes has.left_is in
        let b = next_byte left in
        let a = st b p.memory p.input in
        record {
          value = b;
          memory = p.memory;
          input = p.input;
          does = weaker-does program choice own sp line_round (1 + 0) (32 + (1 + 3 + 1)) 2 100 (from m i) (Leaving 0) a (omega arith) (omega arith)
              (then-does program choice own sp peek (If (is_byte 26) leave (take then after_byte) End) 1 32 0 (1 + 3 + 1) (from m i) a (Leaving 0) a p.does
              (taken-does program choice own sp 6 is_placed (is_byte 26) leave (take then after_byte) (truth (b == 26)) 0 1 a (Leaving 0) a refl (is-one (b == 26) (same-byte b 26 is)) (leave-now b p.memory p.input)));
          input_is = record { word = b; ahead_is = p.ahead_is; left_is = p.left_is; bytes = p.bytes };
          others = p.others;
        }

    -- a byte is taken, and then this is done
    next-round : (b : ℕ) (rest goal : List ℕ) (exit : Exit) (turns : ℕ) → HasInput choice ahead m i (b ∷ rest) → (b ≡ 26 → ⊥) → ((n : Cells) (j : List ℕ) → HasInput choice ahead n j rest → Read after_byte turns 50 (st b n j) exit n goal) → Read line_round (1 + turns) 100 (from m i) exit m goal
    unfolding taken
    next-round b rest goal exit turns has ne then_read =
        let left = b ∷ rest in
        let p = peeked program choice own sp 6 is_placed is_text item ahead there from st peeks has.word m i left has.ahead_is has.bytes has.left_is in
        let t = taken b rest left p.memory p.input refl p.small p.ahead_is p.left_is p.bytes b in
        let r = then_read t.memory t.input t.input_is in
        let a1 = st b p.memory p.input in
        let a2 = st b t.memory t.input in
        let a3 = st r.value r.memory r.input in
        record {
          value = r.value;
          memory = r.memory;
          input = r.input;
          does = weaker-does program choice own sp line_round (1 + (0 + turns)) (32 + (1 + 3 + (2 + 50))) (1 + turns) 100 (from m i) exit a3 (omega arith) (omega arith)
              (then-does program choice own sp peek (If (is_byte 26) leave (take then after_byte) End) 1 32 (0 + turns) (1 + 3 + (2 + 50)) (from m i) a1 exit a3 p.does
              (other-does program choice own sp 6 is_placed (is_byte 26) leave (take then after_byte) (truth (b == 26)) (0 + turns) (2 + 50) a1 exit a3 refl (ap truth (other-byte b 26 ne))
              (then-does program choice own sp take after_byte 0 2 turns 50 a1 a2 exit a3 t.does r.does)));
          input_is = r.input_is;
          others = λ x free. r.others x free ∙ t.others x free ∙ p.others x free;
        }

  -- what is done behind a byte
  abbrev feeds : Code
  feeds = If (is_byte 10) leave End End

  behind-13 : (b : ℕ) (rest : List ℕ) → b ≡ 13 → (n : Cells) (j : List ℕ) → HasInput choice ahead n j rest → Read after_byte 1 50 (st b n j) (Leaving 0) n (after_13 rest)
  behind-13 b rest is n j has =
      let r = return-read b n j rest has in
      let a = st b n j in
      let c = st r.value r.memory r.input in
      record {
        value = r.value;
        memory = r.memory;
        input = r.input;
        does = weaker-does program choice own sp after_byte 1 (1 + 3 + 39) 1 50 a (Leaving 0) c (omega arith) (omega arith)
            (taken-does program choice own sp 6 is_placed (is_byte 13) after_return feeds (truth (b == 13)) 1 39 a (Leaving 0) c refl (is-one (b == 13) (same-byte b 13 is)) r.does);
        input_is = r.input_is;
        others = r.others;
      }

  behind-10 : (b : ℕ) (rest : List ℕ) → (b ≡ 13 → ⊥) → b ≡ 10 → (n : Cells) (j : List ℕ) → HasInput choice ahead n j rest → Read after_byte 1 50 (st b n j) (Leaving 0) n rest
  behind-10 b rest ne is n j has =
      let a = st b n j in
      record {
        value = b;
        memory = n;
        input = j;
        does = weaker-does program choice own sp after_byte 0 (1 + 3 + (1 + 3 + 1)) 1 50 a (Leaving 0) a (omega arith) (omega arith)
            (other-does program choice own sp 6 is_placed (is_byte 13) after_return feeds (truth (b == 13)) 0 (1 + 3 + 1) a (Leaving 0) a refl (ap truth (other-byte b 13 ne))
            (taken-does program choice own sp 6 is_placed (is_byte 10) leave End (truth (b == 10)) 0 1 a (Leaving 0) a refl (is-one (b == 10) (same-byte b 10 is)) (leave-now b n j)));
        input_is = has;
        others = λ x free. refl;
      }

  behind-other : (b : ℕ) (rest : List ℕ) → (b ≡ 13 → ⊥) → (b ≡ 10 → ⊥) → (n : Cells) (j : List ℕ) → HasInput choice ahead n j rest → Read after_byte 0 50 (st b n j) Onward n rest
  behind-other b rest ne nf n j has =
      let a = st b n j in
      record {
        value = b;
        memory = n;
        input = j;
        does = weaker-does program choice own sp after_byte 0 (1 + 3 + (1 + 3 + 0)) 0 50 a Onward a (omega arith) (omega arith)
            (other-does program choice own sp 6 is_placed (is_byte 13) after_return feeds (truth (b == 13)) 0 (1 + 3 + 0) a Onward a refl (ap truth (other-byte b 13 ne))
            (other-does program choice own sp 6 is_placed (is_byte 10) leave End (truth (b == 10)) 0 0 a Onward a refl (ap truth (other-byte b 10 nf)) (straight-does program choice own sp 6 is_placed End a Onward a refl)));
        input_is = has;
        others = λ x free. refl;
      }

  -- ---- all bytes

  abbrev loop : Code
  loop = Loop line_round End

  abbrev due : List ℕ → ℕ
  due left = line_turns left

  due-more : (b : ℕ) (rest : List ℕ) → after_line (b ∷ rest) ≡ after_line rest → due (b ∷ rest) ≡ due rest + 2
  due-more b rest e = let same = ap (λ (l : List ℕ). length l) e in let shorter = line-shorter rest in omega (arith, same, shorter)

  -- the last round leaves the loop
  over : (from : Cells → List ℕ → Activation) (m : Cells) (i left goal : List ℕ) → Read line_round 2 100 (from m i) (Leaving 0) m goal → Read loop (due left) (64 * due left) (from m i) Onward m goal
  over from m i left goal r = record {
    value = r.value;
    memory = r.memory;
    input = r.input;
    does = weaker-does program choice own sp loop (1 + 2) (2 + 100) (due left) (64 * due left) (from m i) Onward (st r.value r.memory r.input) (omega arith) (omega arith)
        (leave-does program choice own sp line_round 2 100 (from m i) (Leaving 0) Onward (st r.value r.memory r.input) refl r.does);
    input_is = r.input_is;
    others = r.others;
  }

  pub line-read : (left : List ℕ) (from : Cells → List ℕ → Activation) → Peeking choice own 6 from st → (m : Cells) (i : List ℕ) → HasInput choice ahead m i left → Read loop (due left) (64 * due left) (from m i) Onward m (after_line left)
  line-read [] from peeks m i has = over from m i [] [] (last-round from peeks m i [] has refl)
  line-read (b ∷ rest) from peeks m i has =
      elim (cases_eq b 26) [
        | inl is ↦ subst (λ l. Goal l) (sym (line-26 b rest is)) (over from m i (b ∷ rest) (b ∷ rest) (last-round from peeks m i (b ∷ rest) has is))
        | inr ne ↦ elim (cases_eq b 13) [
          | inl is ↦ subst (λ l. Goal l) (sym (line-13 b rest ne is)) (over from m i (b ∷ rest) (after_13 rest) (next-round from peeks m i b rest (after_13 rest) (Leaving 0) 1 has ne (behind-13 b rest is)))
          | inr nf ↦ elim (cases_eq b 10) [
            | inl is ↦ subst (λ l. Goal l) (sym (line-10 b rest ne nf is)) (over from m i (b ∷ rest) rest (next-round from peeks m i b rest rest (Leaving 0) 1 has ne (behind-10 b rest nf is)))
            | inr ng ↦ (let r = next-round from peeks m i b rest rest Onward 0 has ne (behind-other b rest nf ng) in
                let more = line-read rest (st r.value) (peeking-again program choice own sp is_placed is_text item ahead there e r.value) r.memory r.input r.input_is in
                subst (λ l. Goal l) (sym (line-other b rest ne nf ng)) (further (line-other b rest ne nf ng) r.value r.memory r.input r.does r.others more))
          ]
        ]
      ]
    where
      Goal : List ℕ → Type 0
      Goal l = Read loop (due (b ∷ rest)) (64 * due (b ∷ rest)) (from m i) Onward m l

      further : after_line (b ∷ rest) ≡ after_line rest → (v : ℕ) (n : Cells) (j : List ℕ) → Goes line_round 1 100 (from m i) Onward (st v n j) → ((x : ℕ) → (IsAhead choice ahead x → ⊥) → n x ≡ m x) → Read loop (due rest) (64 * due rest) (st v n j) Onward n (after_line rest) → Goal (after_line rest)
      further e v n j does others more = let more_due = due-more b rest e in record {
        value = more.value;
        memory = more.memory;
        input = more.input;
        does = weaker-does program choice own sp loop (1 + 1 + due rest) (2 + 100 + 64 * due rest) (due (b ∷ rest)) (64 * due (b ∷ rest)) (from m i) Onward (st more.value more.memory more.input) (omega (arith, more_due)) (omega (arith, more_due))
            (round-does program choice own sp line_round 1 100 (due rest) (64 * due rest) (from m i) (st v n j) Onward (st more.value more.memory more.input) does more.does);
        input_is = more.input_is;
        others = λ x free. more.others x free ∙ others x free;
      }

-- ---- the promise

pub reads-line : (program : FlatProgram) (choice : Choice) (item ahead : ℕ) (unit : UnitCode) → StackFits program choice → HasText program choice item ahead → IsHeld program (runtime_key read_line_number) unit read_line_routine → ReadsLine program choice ahead
reads-line program choice item ahead unit fits there held_so left f s stack has =
    let key = runtime_key read_line_number in
    let room : activation_bytes read_line_routine ≤ f.sp = omega (arith, stack.room) in
    let own = frame_of key.unit unit read_line_routine f in
    let here = placed program choice key unit read_line_routine held_so fits [] f s refl room stack.inside in
    let begin = entered choice f.sp 2 [] s in
    let m = memory_without choice f.sp s.cells in
    let inside = input-inside choice ahead f.sp (stack_top program) stack.inside there.ahead_off s.cells s.input left has in
    let r = line-read program choice own f.sp here refl item ahead there begin left (start program choice own f.sp here refl item ahead there begin) (peeking program choice own f.sp here refl item ahead there begin) m s.input inside in
    call-ends program choice key unit read_line_routine held_so fits [] f s refl room stack.inside (IsAhead choice ahead) (Reads choice ahead [] (after_line left) s) (line_turns left) (64 * line_turns left) Onward
    (at program choice own f.sp here refl item ahead there begin r.value r.memory r.input) [] tt
    (r.does _ (starts program choice key unit read_line_routine held_so fits [] f s refl room stack.inside 0 tt))
    refl r.others
    (λ after left_so. record {
      given_is = refl;
      input = subst (λ i. HasInput choice ahead after.cells i (after_line left)) (sym left_so.input) (input-left choice ahead f.sp (stack_top program) stack.inside there.ahead_off r.memory after.cells r.input (after_line left) left_so.cells r.input_is);
      out = left_so.out;
      err = left_so.err;
      flag = left_so.flag;
    })
