-- The routine by hand that negates a LongInt does as the runtime promises.
use Rattle.std.proofs.Common.{◌≡◌, ℕ, ◌+◌, ◌-◌, ◌*◌, ◌/◌, ◌%◌, ◌≤◌, ◌<◌, ◌⊎◌, inl, inr, List, [], ◌∷◌, Option, Ok, pos, negsuc, refl, sym, ap, subst, ◌∙◌, arith}
use Rattle.std.specs.Prelude.{nat_lt}
use Rattle.std.proofs.lemmas.Bool.Decides.{nat_tests}
use Rattle.common_values.specs.integers.Words.{w16, w32, wrapping_sub, low_byte, high_byte}
use Rattle.flat_code.specs.declared.tree.Address.TheVariants.{Local}
use Rattle.flat_code.specs.declared.tree.FlatOp.TheVariants as op
use Rattle.flat_code.specs.declared.tree.FlatResult.{FlatResult}
use Rattle.flat_code.specs.declared.memory.Cell.TheVariants.{Unset, Outside}
use Rattle.flat_code.specs.Tree.{Number, Word, Op, End}
use Rattle.flat_code.specs.Memory.{Cells, pushed}
use Rattle.flat_code.specs.Program.{FlatProgram, Choice, strings_unit, runtime_key}
use Rattle.flat_code.specs.Meaning.{Frame, State, with_cells, begun, truth, value_of, frame_of, opened, closed, result_bytes, give, called, run, number_bytes}
use Rattle.flat_code.specs.Legal.{StackFits}
use Rattle.flat_code.specs.Gives.{with_turns, KeepsRest, HasStack, Ends, Computes}
use Rattle.flat_code.specs.Runtime.{long_word, negation_of, negation_routine, negation_number, HoldsExample}
use Rattle.flat_code.proofs.Nodes.{run-end}
use Rattle.flat_code.proofs.Bodies.{ComesTo, next-comes, inside, call-comes}
use Rattle.flat_code.proofs.Stack.{HasWord, with_word, word-written, word-kept, word-other, words-read, offset-above, offset-below, LiesAt, byte-lies, local-word, op-value, local-stored, word-step, first-argument, word-above, local-unset, not_below, opened-keeps, closed-keeps}

-- ---- the numbers

low_of : ℕ → ℕ
low_of low = wrapping_sub w16 0 low

high_of : ℕ → ℕ → ℕ
high_of low high = wrapping_sub w16 (wrapping_sub w16 0 high) (truth (nat_lt 0 low))

borrow : (low : ℕ) → ((low ≡ 0) × (truth (nat_lt 0 low) ≡ 0)) ⊎ ((0 < low) × (truth (nat_lt 0 low) ≡ 1))
borrow low = grind (arith, nat_tests)

low-small : (low : ℕ) → low_of low < 65536
unfolding low_of
low-small low = omega arith

high-small : (low high : ℕ) → high_of low high < 65536
unfolding high_of
high-small low high = omega arith

negated : (low high : ℕ) → low < 65536 → high < 65536 → wrapping_sub w32 0 (long_word low high) ≡ low_of low + 65536 * high_of low high
unfolding low_of high_of
negated low high p q = elim (borrow low) [ inl h ↦ omega (arith, h, p, q) | inr h ↦ omega (arith, h, p, q) ]

long-bytes : (a b : ℕ) → a < 65536 → b < 65536 → number_bytes 4 (a + 65536 * b) ≡ low_byte a ∷ high_byte a ∷ low_byte b ∷ high_byte b ∷ []
long-bytes a b p q =
    let e0 : (a + 65536 * b) % 256 ≡ a % 256 = omega arith in
    let e1 : (a + 65536 * b) / 256 % 256 ≡ a / 256 % 256 = omega arith in
    let e2 : (a + 65536 * b) / 256 / 256 % 256 ≡ b % 256 = omega arith in
    let e3 : (a + 65536 * b) / 256 / 256 / 256 % 256 ≡ b / 256 % 256 = omega arith in
    cc

-- ---- one call

module _ (program : FlatProgram) (choice : Choice) (fits : StackFits program choice) (holds : HoldsExample program) (low high : ℕ) (low_word : low < 65536) (high_word : high < 65536) (f : Frame) (stack : HasStack program 32 f) where
  abbrev seg : ℕ
  seg = choice.stack_segment

  abbrev args : List ℕ
  args = low ∷ high ∷ []

  abbrev own : Frame
  own = frame_of strings_unit holds.unit negation_routine f

  abbrev first_cells : Cells → Cells
  first_cells m = opened choice negation_routine f args m

  abbrev second_cells : Cells → Cells
  second_cells m = with_word (first_cells m) (16 * seg + (f.sp - 14)) (low_of low)

  abbrev last_cells : Cells → Cells
  last_cells m = with_word (second_cells m) (16 * seg + (f.sp - 12)) (high_of low high)

  abbrev last_state : State → State
  last_state s = with_cells (begun 8 (with_cells (begun 4 (with_cells s (first_cells s.cells))) (second_cells s.cells))) (last_cells s.cells)

  abbrev after : State → State
  after s = with_cells (last_state s) (closed choice negation_routine f (last_cells s.cells))

  abbrev bytes : List ℕ
  bytes = low_byte (low_of low) ∷ high_byte (low_of low) ∷ low_byte (high_of low high) ∷ high_byte (high_of low high) ∷ []

  room : 32 ≤ f.sp
  room = stack.room

  top : f.sp ≤ 65520
  top = omega (arith, stack.inside, fits.small)

  limit : 16 * seg + f.sp ≤ 1048576
  limit = omega (arith, stack.inside, fits.inside)

  low-lies : LiesAt choice own.bp (pos 8) (f.sp - 2) 2
  low-lies =
      let h = room in
      let t = top in
      let l = limit in
      record { offset_is = offset-above (f.sp - 10) 8 (omega arith) ∙ omega arith; small = omega arith; inside = omega arith }

  high-lies : LiesAt choice own.bp (pos 6) (f.sp - 4) 2
  high-lies =
      let h = room in
      let t = top in
      let l = limit in
      record { offset_is = offset-above (f.sp - 10) 6 (omega arith) ∙ omega arith; small = omega arith; inside = omega arith }

  result-lies : LiesAt choice own.bp (negsuc 3) (f.sp - 14) 4
  result-lies =
      let h = room in
      let t = top in
      let l = limit in
      record { offset_is = offset-below (f.sp - 10) 3 (omega arith) (omega arith) ∙ omega arith; small = omega arith; inside = omega arith }

  first-lies : LiesAt choice own.bp (negsuc 3) (f.sp - 14) 2
  first-lies = record { offset_is = result-lies.offset_is; small = omega (arith, result-lies.small); inside = omega (arith, result-lies.inside) }

  second-lies : LiesAt choice own.bp (negsuc 1) (f.sp - 12) 2
  second-lies =
      let h = room in
      let t = top in
      let l = limit in
      record { offset_is = offset-below (f.sp - 10) 1 (omega arith) (omega arith) ∙ omega arith; small = omega arith; inside = omega arith }

  low-there : (m : Cells) → HasWord (first_cells m) (16 * seg + (f.sp - 2)) low
  low-there m =
      let h = room in
      word-above (pushed m seg f.sp args) seg (f.sp - 14) 4 Unset (16 * seg + (f.sp - 2)) low (omega arith) (first-argument m seg f.sp low (high ∷ []) (omega arith) low_word)

  high-there : (m : Cells) → HasWord (first_cells m) (16 * seg + (f.sp - 4)) high
  high-there m =
      let h = room in
      let same : f.sp - 2 - 2 ≡ f.sp - 4 = omega arith in
      word-above (pushed m seg f.sp args) seg (f.sp - 14) 4 Unset (16 * seg + (f.sp - 4)) high (omega arith)
      (subst (λ o. HasWord (pushed m seg f.sp args) (16 * seg + o) high) same (first-argument _ seg (f.sp - 2) high [] (omega arith) high_word))

  unset : (m : Cells) (x : ℕ) → 16 * seg + (f.sp - 14) ≤ x → x < 16 * seg + (f.sp - 14) + 4 → first_cells m x ≡ Outside → ⊥
  unset m x p q = local-unset (pushed m seg f.sp args) seg (f.sp - 14) 4 x p q

  runs : (s : State) → run program choice negation_routine.body own (inside choice negation_routine args f s) ≡ run program choice End own (last_state s)
  unfolding low_of high_of
  runs s =
      let h = room in
      let m = first_cells s.cells in
      let n = second_cells s.cells in
      let zero_value : value_of choice own m (Number 0) ≡ Ok 0 = refl in
      let low_value = local-word choice own m (pos 8) (f.sp - 2) low low-lies (low-there s.cells) in
      let first = op-value choice own m op.Sub (Number 0) (Word (Local (pos 8))) 0 low zero_value low_value in
      let stored = local-stored choice own m (negsuc 3) (f.sp - 14) (low_of low) first-lies (unset s.cells (16 * seg + (f.sp - 14)) (omega arith) (omega arith)) (unset s.cells (16 * seg + (f.sp - 14) + 1) (omega arith) (omega arith)) in
      let low_kept = word-kept m (16 * seg + (f.sp - 14)) (low_of low) (16 * seg + (f.sp - 2)) low (inr (omega arith)) (low-there s.cells) in
      let high_kept = word-kept m (16 * seg + (f.sp - 14)) (low_of low) (16 * seg + (f.sp - 4)) high (inr (omega arith)) (high-there s.cells) in
      let low_again = local-word choice own n (pos 8) (f.sp - 2) low low-lies low_kept in
      let high_value = local-word choice own n (pos 6) (f.sp - 4) high high-lies high_kept in
      let difference = op-value choice own n op.Sub (Number 0) (Word (Local (pos 6))) 0 high refl high_value in
      let test = op-value choice own n op.Below (Number 0) (Word (Local (pos 8))) 0 low refl low_again in
      let second = op-value choice own n op.Sub (Op op.Sub (Number 0) (Word (Local (pos 6)))) (Op op.Below (Number 0) (Word (Local (pos 8)))) (wrapping_sub w16 0 high) (truth (nat_lt 0 low)) difference test in
      let here = word-other m (16 * seg + (f.sp - 14)) (low_of low) (16 * seg + (f.sp - 12)) (λ e. omega (arith, e)) (λ e. omega (arith, e)) in
      let next = word-other m (16 * seg + (f.sp - 14)) (low_of low) (16 * seg + (f.sp - 12) + 1) (λ e. omega (arith, e)) (λ e. omega (arith, e)) in
      let stored_too = local-stored choice own n (negsuc 1) (f.sp - 12) (high_of low high) second-lies
      (λ out. unset s.cells (16 * seg + (f.sp - 12)) (omega arith) (omega arith) (sym here ∙ out)) (λ out. unset s.cells (16 * seg + (f.sp - 12) + 1) (omega arith) (omega arith) (sym next ∙ out)) in
      let s1 = with_cells (begun 4 (inside choice negation_routine args f s)) n in
      word-step program choice (Local (negsuc 3)) (Op op.Sub (Number 0) (Word (Local (pos 8)))) _ own (inside choice negation_routine args f s) (low_of low) n first stored
      ∙ word-step program choice (Local (negsuc 1)) (Op op.Sub (Op op.Sub (Number 0) (Word (Local (pos 6)))) (Op op.Below (Number 0) (Word (Local (pos 8))))) End own s1 (high_of low high) (last_cells s.cells) second stored_too

  given : (s : State) → result_bytes choice own (last_cells s.cells) negation_routine.result ≡ Ok bytes
  given s =
      let h = room in
      let a = 16 * seg + (f.sp - 14) in
      let n = second_cells s.cells in
      let k = last_cells s.cells in
      let next : 16 * seg + (f.sp - 12) ≡ a + 2 = omega arith in
      let first = word-kept n (16 * seg + (f.sp - 12)) (high_of low high) a (low_of low) (inl (omega arith)) (word-written (first_cells s.cells) a (low_of low) (low-small low)) in
      let second = subst (λ x. HasWord k x (high_of low high)) next (word-written n (16 * seg + (f.sp - 12)) (high_of low high) (high-small low high)) in
      let lies = λ (i : ℕ) (p : i < 4). byte-lies choice own.bp (negsuc 3) (f.sp - 14) 4 i result-lies p in
      words-read k _ a (low_of low) (high_of low high) (lies 0 (omega arith) ∙ omega arith) (lies 1 (omega arith)) (lies 2 (omega arith)) (lies 3 (omega arith)) first second

  calls : (s : State) (wanted : Option FlatResult) → called program choice (run program choice) args wanted f s (runtime_key 512) ≡ give choice f wanted bytes (after s)
  calls s wanted =
      let h = room in
      let comes = subst (λ o. ComesTo o (last_state s)) (sym (runs s ∙ run-end program choice own (last_state s))) (next-comes (last_state s)) in
      call-comes program choice (runtime_key 512) holds.unit negation_routine args wanted f s (last_state s) bytes
      (record { unit_is = sym holds.is_there; routine_is = sym holds.first; resident = holds.resident; untested = refl; fits = refl; room = omega arith })
      comes (given s)

  keeps : (s : State) (x : ℕ) → (x < 16 * seg) ⊎ (16 * seg + f.sp ≤ x) → (after s).cells x ≡ s.cells x
  keeps s x (inl out) =
      let h = room in
      closed-keeps choice negation_routine f (last_cells s.cells) x (omega arith) (inl out)
      ∙ word-other (second_cells s.cells) (16 * seg + (f.sp - 12)) (high_of low high) x (λ e. omega (arith, e, out)) (λ e. omega (arith, e, out))
      ∙ word-other (first_cells s.cells) (16 * seg + (f.sp - 14)) (low_of low) x (λ e. omega (arith, e, out)) (λ e. omega (arith, e, out))
      ∙ opened-keeps choice negation_routine f args s.cells x (omega arith) (omega arith) (omega arith) (inl out)
  keeps s x (inr out) =
      let h = room in
      closed-keeps choice negation_routine f (last_cells s.cells) x (omega arith) (inr out)
      ∙ word-other (second_cells s.cells) (16 * seg + (f.sp - 12)) (high_of low high) x (λ e. omega (arith, e, out)) (λ e. omega (arith, e, out))
      ∙ word-other (first_cells s.cells) (16 * seg + (f.sp - 14)) (low_of low) x (λ e. omega (arith, e, out)) (λ e. omega (arith, e, out))
      ∙ opened-keeps choice negation_routine f args s.cells x (omega arith) (omega arith) (omega arith) (inr out)

  bytes-are : negation_of args ≡ Ok bytes
  bytes-are = ap (λ n. let r : _ = Ok (number_bytes 4 n) in r) (negated low high low_word high_word) ∙ ap Ok (long-bytes (low_of low) (high_of low high) (low-small low) (high-small low high))

  pub one-call : (s : State) → Ends program choice (runtime_key 512) (λ address. ⊥) (λ after bytes. (negation_of args ≡ Ok bytes) × KeepsRest s after) 0 64 args f s
  one-call s = record {
    spent = 0;
    few = omega arith;
    after = after s;
    bytes = bytes;
    holds = (bytes-are, record { flag = refl; input = refl; out = refl; err = refl });
    kept = λ x free below. keeps s x (not_below choice f.sp x below);
    worked = omega arith;
    ends = λ t wanted. let same : 0 + t ≡ t = omega arith in calls (with_turns s (0 + t)) wanted ∙ ap (λ turns. give choice f wanted bytes (with_turns (after s) turns)) same;
    quiet = λ h. absurd (omega (arith, h));
  }

-- ---- the promise

pub computes : (program : FlatProgram) (choice : Choice) → StackFits program choice → HoldsExample program → Computes program choice (runtime_key negation_number) 32 2 negation_of 0 64
computes program choice fits holds [] f s stack words = absurd words
computes program choice fits holds (low ∷ []) f s stack words = absurd words.1
computes program choice fits holds (low ∷ high ∷ []) f s stack words = inl (one-call program choice fits holds low high words.0 words.1.0 f stack s)
computes program choice fits holds (low ∷ high ∷ more ∷ args) f s stack words = absurd words.1.1
