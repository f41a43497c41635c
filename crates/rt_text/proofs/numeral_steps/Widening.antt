-- Straight code that works on locals alone, among further words.
use Rattle.std.proofs.Common.{◌≡◌, ℕ, zero, suc, ◌+◌, ◌-◌, ◌*◌, ◌/◌, ◌<◌, ◌⊎◌, inl, inr, ⊎_elim, Bool, true, false, ◌&&◌, List, [], ◌∷◌, ◌++◌, length, get_or, set, Ok, Err, ℤ, pos, negsuc, refl, sym, ap, subst, ◌∙◌, arith, eqb-true, eq-eqb}
use Rattle.std.specs.Prelude.{if◌then◌else◌}
use Rattle.std.proofs.lemmas.Bool.{cases_lt}
use Rattle.std.proofs.lemmas.List.{get_or_past, get_or_append_left, get_or-append-add, set-append_left, set-append_right}
use Rattle.flat_code.specs.declared.tree.Address.{Address}
use Rattle.flat_code.specs.declared.tree.Address.TheVariants.{Global, Local, Outer, Through}
use Rattle.flat_code.specs.declared.tree.FlatOp.{FlatOp}
use Rattle.flat_code.specs.declared.memory.Trap.TheVariants.{Bad}
use Rattle.flat_code.specs.Tree.{Expr, Number, Byte, Word, AddressOf, SegmentOf, VmtOf, Op, Step, StoreByte, StoreWord, Copy, Leave, Call, CallThrough, Runtime, StoreRoutine, Return, Error, Code, End, Do, If, Loop}
use Rattle.flat_code.specs.Memory.{Found, ◌>>=◌}
use Rattle.flat_code.specs.Program.{Choice}
use Rattle.flat_code.specs.Meaning.{Frame, op_of}
use Rattle.runtime_proofs.specs.routine_proofs.Activation.{Slot, Shut, Free, Holds, Activation, slot_no, index_of, is_index}
use Rattle.runtime_proofs.specs.routine_proofs.Straight.{held, seen_value, with_slot, with_word_at, Exit, Onward, Leaving, Returning, Failing, Came, onward, step_seen, continued, chosen_way, straight}
use Rattle.runtime_proofs.proofs.routine_proofs.Sight.{bind-ok, if-ok, ok-same}
use Rattle.rt_text.specs.numeral_steps.Widening.{is_local_word, is_local_value, is_local_step, is_local, widened, Widens}

both : (p q : Bool) → (p && q) ≡ true → (p ≡ true) × (q ≡ true)
both true q h = (refl, h)
both false q h = absurd cc

local-index : (n d : ℕ) → is_index 0 (negsuc d) ≡ true → (is_index (2 * n) (negsuc d) ≡ true) × (index_of (2 * n) (negsuc d) ≡ n + index_of 0 (negsuc d))
local-index n d h =
    let e = eqb-true (2 * ((0 + d - 1) / 2) + 1) (0 + d) h in
    (eq-eqb (2 * ((2 * n + d - 1) / 2) + 1) (2 * n + d) (omega (arith, e)), omega (arith, e))

module _ (choice : Choice) (own : Frame) (front back : List Slot) where
  abbrev above : ℕ
  above = 2 * length front

  abbrev wide : Activation → Activation
  wide a = widened front back a

  -- ---- words

  slot-inside : (a : Activation) (i : ℕ) → (slot_no a i ≡ Shut → ⊥) → i < length a.words
  slot-inside a i reached = ⊎_elim (λ (h : i < length a.words). h) (λ h. absurd (reached (get_or_past a.words i Shut h))) (cases_lt i (length a.words))

  slot-wide : (a : Activation) (i : ℕ) → i < length a.words → slot_no (wide a) (length front + i) ≡ slot_no a i
  slot-wide a i h = get_or-append-add front (a.words ++ back) i Shut ∙ get_or_append_left a.words back Shut i h

  set-wide : (a : Activation) (i : ℕ) (slot : Slot) → i < length a.words → set (front ++ (a.words ++ back)) (length front + i) slot ≡ front ++ (set a.words i slot ++ back)
  set-wide a i slot h =
      let off : length front + i - length front ≡ i = omega arith in
      set-append_right front (a.words ++ back) (length front) (length front + i) slot refl (omega arith)
      ∙ ap (λ k. front ++ set (a.words ++ back) k slot) off
      ∙ ap (λ ws. front ++ ws) (set-append_left a.words back i slot h)

  -- ---- values

  held-open : (slot : Slot) (v : ℕ) → held slot ≡ Ok v → slot ≡ Shut → ⊥
  held-open Shut v e s = cc
  held-open Free v e s = cc
  held-open (Holds w) v e s = cc

  local-widens : (a : Activation) (d v : ℕ) → seen_value choice own 0 a (Word (Local (negsuc d))) ≡ Ok v → seen_value choice own above (wide a) (Word (Local (negsuc d))) ≡ Ok v
  local-widens a d v e =
      let i = index_of 0 (negsuc d) in
      let test = if-ok (is_index 0 (negsuc d)) (held (slot_no a i)) (Bad 2) v e in
      let inside = slot-inside a i (held-open (slot_no a i) v test.1) in
      let index = local-index (length front) d test.0 in
      ap (λ b. let r : Found ℕ = if b then held (slot_no (wide a) (index_of above (negsuc d))) else Err (Bad 2) in r) index.0
      ∙ ap (λ k. held (slot_no (wide a) k)) index.1
      ∙ ap held (slot-wide a i inside)
      ∙ test.1

  value-widens : (x : Expr) (a : Activation) (v : ℕ) → is_local_value x ≡ true → seen_value choice own 0 a x ≡ Ok v → seen_value choice own above (wide a) x ≡ Ok v
  value-widens (Number n) a v l e = e
  value-widens (Byte at) a v l e = absurd cc
  value-widens (Word (Global unit number plus)) a v l e = absurd cc
  value-widens (Word (Local (pos d))) a v l e = absurd cc
  value-widens (Word (Local (negsuc d))) a v l e = local-widens a d v e
  value-widens (Word (Outer levels at)) a v l e = absurd cc
  value-widens (Word (Through slot plus)) a v l e = absurd cc
  value-widens (AddressOf at) a v l e = absurd cc
  value-widens (SegmentOf at) a v l e = absurd cc
  value-widens (VmtOf unit number) a v l e = absurd cc
  value-widens (Op op x y) a v l e =
      let p = both (is_local_value x) (is_local_value y) l in
      let first = bind-ok (seen_value choice own 0 a x) (λ v. seen_value choice own 0 a y >>= λ w. op_of op v w) v e in
      let second = bind-ok (seen_value choice own 0 a y) (λ w. op_of op first.0 w) v first.2 in
      ap (λ (found : Found ℕ). found >>= λ v. seen_value choice own above (wide a) y >>= λ w. op_of op v w) (value-widens x a first.0 p.0 first.1)
      ∙ ap (λ (found : Found ℕ). found >>= λ w. op_of op first.0 w) (value-widens y a second.0 p.1 second.1)
      ∙ second.2

  -- ---- stores

  put-widens : (slot : Slot) (a b : Activation) (i v : ℕ) → slot_no a i ≡ slot → with_slot slot a i v ≡ Ok b → (slot_no (wide a) (length front + i) ≡ slot) × (with_slot slot (wide a) (length front + i) v ≡ Ok (wide b))
  put-widens Shut a b i v s e = absurd cc
  put-widens Free a b i v s e = stored Free a b i v s (λ e. cc) refl refl e
    where
      stored : (slot : Slot) (a b : Activation) (i v : ℕ) → slot_no a i ≡ slot → (slot ≡ Shut → ⊥) → with_slot slot a i v ≡ Ok (record a { words = set a.words i (Holds v) }) → with_slot slot (wide a) (length front + i) v ≡ Ok (record (wide a) { words = set (front ++ (a.words ++ back)) (length front + i) (Holds v) }) → with_slot slot a i v ≡ Ok b → (slot_no (wide a) (length front + i) ≡ slot) × (with_slot slot (wide a) (length front + i) v ≡ Ok (wide b))
      stored slot a b i v s ne here there e =
          let inside = slot-inside a i (λ q. ne (sym s ∙ q)) in
          let same = ok-same (record a { words = set a.words i (Holds v) }) b (sym here ∙ e) in
          (slot-wide a i inside ∙ s, there ∙ ap (λ ws. let r : Found Activation = Ok (record a { words = ws }) in r) (set-wide a i (Holds v) inside) ∙ ap (λ c. let r : Found Activation = Ok (wide c) in r) same)
  put-widens (Holds old) a b i v s e =
      let inside = slot-inside a i (λ q. let r = sym s ∙ q in cc) in
      let same = ok-same (record a { words = set a.words i (Holds v) }) b e in
      (slot-wide a i inside ∙ s, ap (λ ws. let r : Found Activation = Ok (record a { words = ws }) in r) (set-wide a i (Holds v) inside) ∙ ap (λ c. let r : Found Activation = Ok (wide c) in r) same)

  word-widens : (at : Address) (a b : Activation) (v : ℕ) → is_local_word at ≡ true → with_word_at choice own 0 a at v ≡ Ok b → with_word_at choice own above (wide a) at v ≡ Ok (wide b)
  word-widens (Global unit number plus) a b v l e = absurd cc
  word-widens (Local (pos d)) a b v l e = absurd cc
  word-widens (Local (negsuc d)) a b v l e =
      let i = index_of 0 (negsuc d) in
      let test = if-ok (is_index 0 (negsuc d)) (with_slot (slot_no a i) a i v) (Bad 2) b e in
      let index = local-index (length front) d test.0 in
      let put = put-widens (slot_no a i) a b i v refl test.1 in
      ap (λ t. let r : Found Activation = if t then with_slot (slot_no (wide a) (index_of above (negsuc d))) (wide a) (index_of above (negsuc d)) v else Err (Bad 2) in r) index.0
      ∙ ap (λ k. with_slot (slot_no (wide a) k) (wide a) k v) index.1
      ∙ ap (λ slot. with_slot slot (wide a) (length front + i) v) put.0
      ∙ put.1
  word-widens (Outer levels at) a b v l e = absurd cc
  word-widens (Through slot plus) a b v l e = absurd cc

  -- ---- statements

  abbrev wider : Came → Found Came
  wider came = Ok (record { exit = came.exit; there = wide came.there })

  came-wider : (x y : Came) → (let r : Found Came = Ok x in r ≡ Ok y) → wider x ≡ wider y
  came-wider x y e = ap wider (ok-same x y e)

  step-widens : (step : Step) (a : Activation) (came : Came) → is_local_step step ≡ true → step_seen choice own 0 step a ≡ Ok came → step_seen choice own above step (wide a) ≡ wider came
  step-widens (StoreByte to value) a came l e = absurd cc
  step-widens (StoreWord to value) a came l e =
      let p = both (is_local_word to) (is_local_value value) l in
      let found = bind-ok (seen_value choice own 0 a value) (λ v. with_word_at choice own 0 a to v >>= λ b. onward b) came e in
      let put = bind-ok (with_word_at choice own 0 a to found.0) (λ b. onward b) came found.2 in
      ap (λ (x : Found ℕ). x >>= λ v. with_word_at choice own above (wide a) to v >>= λ b. onward b) (value-widens value a found.0 p.1 found.1)
      ∙ ap (λ (x : Found Activation). x >>= λ b. onward b) (word-widens to a put.0 found.0 p.0 put.1)
      ∙ came-wider (record { exit = Onward; there = put.0 }) came put.2
  step-widens (Copy to from bytes) a came l e = absurd cc
  step-widens (Leave zero) a came l e = came-wider (record { exit = Onward; there = a }) came e
  step-widens (Leave (suc loops)) a came l e = came-wider (record { exit = Leaving loops; there = a }) came e
  step-widens (Call unit number args result) a came l e = absurd cc
  step-widens (CallThrough pointer args result) a came l e = absurd cc
  step-widens (Runtime number args result) a came l e = absurd cc
  step-widens (StoreRoutine to unit number) a came l e = absurd cc
  step-widens Return a came l e = came-wider (record { exit = Returning; there = a }) came e
  step-widens (Error code) a came l e = came-wider (record { exit = Failing code; there = a }) came e

  -- what follows
  abbrev rest_of : Code → Came → Found Came
  rest_of next c = continued c.exit c.there (straight choice own 0 next)

  abbrev wide_rest : Code → Came → Found Came
  wide_rest next c = continued c.exit c.there (straight choice own above next)

  goes-on : (exit : Exit) (b : Activation) (next : Code) (came : Came) → (straight choice own 0 next b ≡ Ok came → straight choice own above next (wide b) ≡ wider came) → continued exit b (straight choice own 0 next) ≡ Ok came → continued exit (wide b) (straight choice own above next) ≡ wider came
  goes-on Onward b next came again e = again e
  goes-on (Leaving loops) b next came again e = came-wider (record { exit = Leaving loops; there = b }) came e
  goes-on Returning b next came again e = came-wider (record { exit = Returning; there = b }) came e
  goes-on (Failing code) b next came again e = came-wider (record { exit = Failing code; there = b }) came e

  way-widens : (v : ℕ) (taken other : Code) (a : Activation) (c : Came) → (straight choice own 0 taken a ≡ Ok c → straight choice own above taken (wide a) ≡ wider c) → (straight choice own 0 other a ≡ Ok c → straight choice own above other (wide a) ≡ wider c) →
      chosen_way v (straight choice own 0 taken a) (straight choice own 0 other a) ≡ Ok c → chosen_way v (straight choice own above taken (wide a)) (straight choice own above other (wide a)) ≡ wider c
  way-widens zero taken other a c first second e = second e
  way-widens (suc v) taken other a c first second e = first e

  pub straight-widens : (code : Code) (a : Activation) (came : Came) → is_local code ≡ true → straight choice own 0 code a ≡ Ok came → straight choice own above code (wide a) ≡ wider came
  straight-widens End a came l e = came-wider (record { exit = Onward; there = a }) came e
  straight-widens (Do step next) a came l e =
      let p = both (is_local_step step) (is_local next) l in
      let first = bind-ok (step_seen choice own 0 step a) (rest_of next) came e in
      ap (λ (x : Found Came). x >>= wide_rest next) (step-widens step a first.0 p.0 first.1)
      ∙ goes-on first.0.exit first.0.there next came (λ g. straight-widens next first.0.there came p.1 g) first.2
  straight-widens (If test taken other next) a came l e =
      let p = both (is_local_value test) (is_local taken && (is_local other && is_local next)) l in
      let q = both (is_local taken) (is_local other && is_local next) p.1 in
      let r = both (is_local other) (is_local next) q.1 in
      let value = bind-ok (seen_value choice own 0 a test) (λ v. chosen_way v (straight choice own 0 taken a) (straight choice own 0 other a) >>= rest_of next) came e in
      let way = bind-ok (chosen_way value.0 (straight choice own 0 taken a) (straight choice own 0 other a)) (rest_of next) came value.2 in
      ap (λ (x : Found ℕ). x >>= λ v. chosen_way v (straight choice own above taken (wide a)) (straight choice own above other (wide a)) >>= wide_rest next) (value-widens test a value.0 p.0 value.1)
      ∙ ap (λ (x : Found Came). x >>= wide_rest next) (way-widens value.0 taken other a way.0 (λ g. straight-widens taken a way.0 q.0 g) (λ g. straight-widens other a way.0 r.0 g) way.1)
      ∙ goes-on way.0.exit way.0.there next came (λ g. straight-widens next way.0.there came r.1 g) way.2
  straight-widens (Loop body next) a came l e = absurd cc

pub widens : (choice : Choice) (own : Frame) (front back : List Slot) → Widens choice own front back
widens choice own front back = straight-widens choice own front back
