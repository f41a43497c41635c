-- The routines that combine two sets.
use Rattle.std.proofs.Common.{◌≡◌, ℕ, zero, suc, ◌+◌, ◌*◌, ◌≤◌, ◌<◌, ◌⊎◌, inl, inr, List, [], ◌∷◌, Ok, pos, negsuc, refl, sym, ap, subst, ◌∙◌, arith, ⊎_elim}
use Rattle.std.specs.Prelude.{bit_and, bit_or, bit_xor}
use Rattle.std.proofs.lemmas.Bool.{cases_eq}
use Rattle.std.proofs.lemmas.Nat.{and_le_l, or_lt}
use Rattle.common_values.specs.integers.Words.{w16, wrapping_add, wrapping_sub, low_byte}
use Rattle.common_values.specs.Sets.{union, difference, intersection, set_byte}
use Rattle.flat_code.specs.declared.tree.Address.TheVariants.{Through}
use Rattle.flat_code.specs.declared.tree.FlatOp.TheVariants as op
use Rattle.flat_code.specs.declared.memory.Place.{Place}
use Rattle.flat_code.specs.declared.memory.Cell.TheVariants.{Known, Outside}
use Rattle.flat_code.specs.Tree.{Expr, Number, Op, expr_size, Code, End, Loop, ◌then◌}
use Rattle.flat_code.specs.Memory.{Cells, Found, ◌>>=◌, address_of, place_after, put}
use Rattle.flat_code.specs.Program.{FlatProgram, Choice, UnitCode, runtime_key}
use Rattle.flat_code.specs.Meaning.{Frame, State, activation_bytes, frame_of}
use Rattle.flat_code.specs.Legal.{StackFits}
use Rattle.flat_code.specs.Gives.{KeepsRest, IsBelow}
use Rattle.flat_code.proofs.Shut.{put_other}
use Rattle.runtime_proofs.specs.routine_proofs.Activation.{Slot, Shut, Free, Holds, Activation, IsPlaced}
use Rattle.runtime_proofs.specs.routine_proofs.Straight.{Exit, Onward, Leaving, Came, seen_value, continued, straight, code_size}
use Rattle.runtime_proofs.specs.routine_proofs.Comes.{Does}
use Rattle.runtime_proofs.specs.routine_proofs.Entry.{entered, memory_without}
use Rattle.runtime_proofs.specs.routine_proofs.Specifications.{IsHeld}
use Rattle.runtime_proofs.proofs.routine_proofs.Replies.{next_of, taken-so, other-so}
use Rattle.runtime_proofs.proofs.routine_proofs.Doing.{weaker-does, then-does, straight-does, round-does, leave-does}
use Rattle.runtime_proofs.proofs.routine_proofs.Calls.{call-ends, placed, starts}
use Rattle.runtime_proofs.specs.strings_in_memory.Strings.{IsReached, IsIn, CanMove, place}
use Rattle.runtime_proofs.proofs.strings_in_memory.Cells.{put-same, byte-read, store-so, apart-in}
use Rattle.runtime_proofs.proofs.string_loops.Seen.{op-so}
use Rattle.runtime_proofs.proofs.string_loops.BackwardLoop.{reached-still}
use Rattle.runtime_proofs.proofs.string_loops.Entry.{kept, reached-inside}
use Rattle.rt_strings.specs.sets.Sets.{HasSet, filled}
use Rattle.rt_strings.specs.sets.Routines.{left_byte, right_byte, combine_step, combine_round, all_bytes, combine_routine, union_byte, difference_byte, intersection_byte}
use Rattle.rt_strings.specs.sets.Specifications.{union_number, difference_number, intersection_number, CanCombine, Combines, Unites, TakesAway, Intersects}
use Rattle.rt_strings.proofs.sets.SetBytes.{byte-small, union-byte, intersection-byte, difference-byte}

low-same : (b : ℕ) → b < 256 → low_byte b ≡ b
low-same b h = omega (arith, h)

-- ---- bytes that were stored one by one

filled-other : (m : Cells) (p : Place) (f : ℕ → ℕ) (i x : ℕ) → ((k : ℕ) → k < i → x ≡ address_of p k → ⊥) → filled m p f i x ≡ m x
filled-other m p f zero x ne = refl
filled-other m p f (suc i) x ne =
    put_other (filled m p f i) (address_of p i) (Known (f i)) x (λ e. ne i (omega arith) e)
    ∙ filled-other m p f i x (λ k h e. ne k (omega (arith, h)) e)

filled-reached : (m : Cells) (p : Place) (f : ℕ → ℕ) (i x : ℕ) → (m x ≡ Outside → ⊥) → filled m p f i x ≡ Outside → ⊥
filled-reached m p f zero x h = h
filled-reached m p f (suc i) x h = reached-still (filled m p f i) (address_of p i) (f i) x (filled-reached m p f i x h)

filled-at : (m : Cells) (segment o : ℕ) (f : ℕ → ℕ) (i k : ℕ) → k < i → i < 65536 → filled m (place segment o) f i (address_of (place segment o) k) ≡ Known (f k)
filled-at m segment o f zero k h small = absurd (omega (arith, h))
filled-at m segment o f (suc i) k h small = ⊎_elim
    (λ (e : k ≡ i). subst (λ n. put (filled m (place segment o) f i) (address_of (place segment o) i) (Known (f i)) (address_of (place segment o) n) ≡ Known (f n)) (sym e) (put-same (filled m (place segment o) f i) (address_of (place segment o) i) (Known (f i))))
    (λ ne. put_other (filled m (place segment o) f i) (address_of (place segment o) i) (Known (f i)) (address_of (place segment o) k) (λ e. apart-in segment o k i (omega (arith, h, ne)) (omega (arith, small)) e)
    ∙ filled-at m segment o f i k (omega (arith, h, ne)) (omega (arith, small))) (cases_eq k i)

-- the byte at so many places behind a pointer
at-byte : (segment o i : ℕ) → address_of (place_after (place segment (wrapping_add w16 o i)) 0) 0 ≡ address_of (place segment o) i
at-byte segment o i = omega arith

one-on : (o i : ℕ) → wrapping_add w16 (wrapping_add w16 o i) 1 ≡ wrapping_add w16 o (suc i)
one-on o i = omega arith

module _ (program : FlatProgram) (choice : Choice) (own : Frame) (sp : ℕ) (is_placed : IsPlaced choice own sp 18) (e : Activation) (ts ls rs : ℕ) where
  -- in the routine: how many bytes are left, the three offsets, and memory
  abbrev at : Slot → ℕ → ℕ → ℕ → Cells → Activation
  at left t l r m = record e { words = Holds ts ∷ Holds t ∷ Holds ls ∷ Holds l ∷ Holds rs ∷ Holds r ∷ Shut ∷ Shut ∷ Shut ∷ left ∷ []; memory = m }

  -- a value of two bytes that is a byte
  record Computes (value : Expr) (g : ℕ → ℕ → ℕ) : Type 0 where
    seen : (left t l r x y : ℕ) (m : Cells) → seen_value choice own 18 (at (Holds left) t l r m) left_byte ≡ Ok x → seen_value choice own 18 (at (Holds left) t l r m) right_byte ≡ Ok y → seen_value choice own 18 (at (Holds left) t l r m) value ≡ Ok (g x y)
    small : (x y : ℕ) → x < 256 → y < 256 → g x y < 256
    short : expr_size value ≤ 5

  module _ (value : Expr) (g : ℕ → ℕ → ℕ) (computes : Computes value g) (to left right : ℕ) (m : Cells) (a b : List ℕ) (has : HasSet m (place ls left) a) (also : HasSet m (place rs right) b) (reached : IsReached m (place ts to) 32) (aside : CanMove (place ts to) (place ls left) 32) (apart : CanMove (place ts to) (place rs right) 32) where
    abbrev f : ℕ → ℕ
    f k = g (set_byte a k) (set_byte b k)

    -- once so many bytes are stored
    abbrev stored : ℕ → Cells
    stored i = filled m (place ts to) f i

    abbrev st : ℕ → ℕ → Activation
    st n i = at (Holds n) (wrapping_add w16 to i) (wrapping_add w16 left i) (wrapping_add w16 right i) (stored i)

    f-small : (k : ℕ) → f k < 256
    f-small k = computes.small (set_byte a k) (set_byte b k) (byte-small a k) (byte-small b k)

    left-seen : (n i : ℕ) → i < 32 → seen_value choice own 18 (st n i) left_byte ≡ Ok (set_byte a i)
    left-seen n i h = byte-read (stored i) (place_after (place ls (wrapping_add w16 left i)) 0) 0 (set_byte a i)
        (ap (stored i) (at-byte ls left i) ∙ filled-other m (place ts to) f i (address_of (place ls left) i) (λ k l e. aside k i l h (sym e)) ∙ has i h) (byte-small a i)

    right-seen : (n i : ℕ) → i < 32 → seen_value choice own 18 (st n i) right_byte ≡ Ok (set_byte b i)
    right-seen n i h = byte-read (stored i) (place_after (place rs (wrapping_add w16 right i)) 0) 0 (set_byte b i)
        (ap (stored i) (at-byte rs right i) ∙ filled-other m (place ts to) f i (address_of (place rs right) i) (λ k l e. apart k i l h (sym e)) ∙ also i h) (byte-small b i)

    one-step : (n i : ℕ) → n < 65535 → i < 32 → straight choice own 18 (combine_step value) (st (suc n) i) ≡ Ok (record { exit = Onward; there = st n (suc i) })
    one-step n i short h =
        let c1 = next_of (combine_step value) in
        let t = wrapping_add w16 to i in
        let l = wrapping_add w16 left i in
        let r = wrapping_add w16 right i in
        let p = place_after (place ts t) 0 in
        let same = at-byte ts to i in
        let fewer : wrapping_sub w16 (suc n) 1 ≡ n = omega (arith, short) in
        let there = λ (v x y z : ℕ). let w : Found Came = Ok (record { exit = Onward; there = at (Holds v) x y z (stored (suc i)) }) in w in
        store-so choice own 18 (Through (pos 14) 0) value c1 (st (suc n) i) p (f i)
        (computes.seen (suc n) t l r (set_byte a i) (set_byte b i) (stored i) (left-seen (suc n) i h) (right-seen (suc n) i h)) refl
        (λ out. filled-reached m (place ts to) f i (address_of (place ts to) i) (reached i h) (ap (stored i) (sym same) ∙ out))
        ∙ ap (λ x. straight choice own 18 c1 (at (Holds (suc n)) t l r (put (stored i) x (Known (low_byte (f i)))))) same
        ∙ ap (λ v. straight choice own 18 c1 (at (Holds (suc n)) t l r (put (stored i) (address_of (place ts to) i) (Known v)))) (low-same (f i) (f-small i))
        ∙ ap (λ v. there v (wrapping_add w16 t 1) (wrapping_add w16 l 1) (wrapping_add w16 r 1)) fewer
        ∙ ap (λ v. there n v (wrapping_add w16 l 1) (wrapping_add w16 r 1)) (one-on to i)
        ∙ ap (λ v. there n (wrapping_add w16 to (suc i)) v (wrapping_add w16 r 1)) (one-on left i)
        ∙ ap (λ v. there n (wrapping_add w16 to (suc i)) (wrapping_add w16 left (suc i)) v) (one-on right i)

    abbrev round : Code
    round = combine_round value

    abbrev loop : Code
    loop = Loop (combine_round value) End

    one-round : (n i : ℕ) → n < 65535 → i < 32 → Does program choice own sp round 0 40 (st (suc n) i) Onward (st n (suc i))
    one-round n i short h =
        let came : Came = record { exit = Onward; there = st n (suc i) } in
        let size = computes.short in
        weaker-does program choice own sp round 0 (code_size round) 0 40 (st (suc n) i) Onward (st n (suc i)) (omega arith) (omega (arith, size))
        (straight-does program choice own sp 18 is_placed round (st (suc n) i) Onward (st n (suc i))
        (taken-so choice own 18 round (st (suc n) i) (suc n) came refl (λ z. omega (arith, z))
        (ap (λ (found : Found Came). found >>= λ c. continued c.exit c.there (straight choice own 18 End)) (one-step n i short h))))

    last-round : (i : ℕ) → Does program choice own sp loop 1 42 (st 0 i) Onward (st 0 i)
    last-round i =
        let size = computes.short in
        leave-does program choice own sp round 0 40 (st 0 i) (Leaving 0) Onward (st 0 i) refl
        (weaker-does program choice own sp round 0 (code_size round) 0 40 (st 0 i) (Leaving 0) (st 0 i) (omega arith) (omega (arith, size))
        (straight-does program choice own sp 18 is_placed round (st 0 i) (Leaving 0) (st 0 i)
        (other-so choice own 18 round (st 0 i) 0 (record { exit = Leaving 0; there = st 0 i }) refl refl refl)))

    rounds : (n i : ℕ) → i + n ≡ 32 → Does program choice own sp loop (1 + n) (42 * (1 + n)) (st n i) Onward (st 0 32)
    rounds zero i h =
        let here : i ≡ 32 = omega (arith, h) in
        subst (λ k. Does program choice own sp loop 1 42 (st 0 i) Onward (st 0 k)) here (last-round i)
    rounds (suc n) i h =
        weaker-does program choice own sp loop (1 + 0 + (1 + n)) (2 + 40 + 42 * (1 + n)) (1 + suc n) (42 * (1 + suc n)) (st (suc n) i) Onward (st 0 32) (omega arith) (omega arith)
        (round-does program choice own sp round 0 40 (1 + n) (42 * (1 + n)) (st (suc n) i) (st n (suc i)) Onward (st 0 32) (one-round n i (omega (arith, h)) (omega (arith, h))) (rounds n (suc i) (omega (arith, h))))

    all-does : to < 65536 → left < 65536 → right < 65536 → Does program choice own sp (combine_routine value).body 64 2048 (at Free to left right m) Onward (st 0 32)
    all-does p q s =
        let e1 : wrapping_add w16 to 0 ≡ to = omega (arith, p) in
        let e2 : wrapping_add w16 left 0 ≡ left = omega (arith, q) in
        let e3 : wrapping_add w16 right 0 ≡ right = omega (arith, s) in
        let d0 = rounds 32 0 refl in
        let d1 = subst (λ v. Does program choice own sp loop 33 1386 (at (Holds 32) v (wrapping_add w16 left 0) (wrapping_add w16 right 0) m) Onward (st 0 32)) e1 d0 in
        let d2 = subst (λ v. Does program choice own sp loop 33 1386 (at (Holds 32) to v (wrapping_add w16 right 0) m) Onward (st 0 32)) e2 d1 in
        let d3 = subst (λ v. Does program choice own sp loop 33 1386 (at (Holds 32) to left v m) Onward (st 0 32)) e3 d2 in
        weaker-does program choice own sp (combine_routine value).body (0 + 33) (code_size all_bytes + 1386) 64 2048 (at Free to left right m) Onward (st 0 32) (omega arith) (omega arith)
        (then-does program choice own sp all_bytes loop 0 (code_size all_bytes) 33 1386 (at Free to left right m) (at (Holds 32) to left right m) Onward (st 0 32)
        (straight-does program choice own sp 18 is_placed all_bytes (at Free to left right m) Onward (at (Holds 32) to left right m) refl) d3)

-- ---- the promises

module _ (program : FlatProgram) (choice : Choice) (unit : UnitCode) (fits : StackFits program choice) (number : ℕ) (value : Expr) (g : ℕ → ℕ → ℕ) (operator : List ℕ → List ℕ → List ℕ) (held_so : IsHeld program (runtime_key number) unit (combine_routine value))
    (computes : (own : Frame) (sp : ℕ) (is_placed : IsPlaced choice own sp 18) (e : Activation) (ts ls rs : ℕ) → Computes program choice own sp is_placed e ts ls rs value g)
    (is : (a b : List ℕ) (k : ℕ) → g (set_byte a k) (set_byte b k) ≡ set_byte (operator a b) k) where
  combines : Combines program choice number operator
  combines ts to ls left rs right a b f s words stack can =
      let key = runtime_key number in
      let routine = combine_routine value in
      let room : activation_bytes routine ≤ f.sp = omega (arith, stack.room) in
      let args = ts ∷ to ∷ ls ∷ left ∷ rs ∷ right ∷ [] in
      let own = frame_of key.unit unit routine f in
      let here = placed program choice key unit routine held_so fits args f s refl room stack.inside in
      let start = entered choice f.sp 2 args s in
      let m = memory_without choice f.sp s.cells in
      let has : HasSet m (place ls left) a = λ k h. kept choice f.sp s.cells (address_of (place ls left) k) (can.left_off k h) ∙ can.left_there k h in
      let also : HasSet m (place rs right) b = λ k h. kept choice f.sp s.cells (address_of (place rs right) k) (can.right_off k h) ∙ can.right_there k h in
      let reached = reached-inside choice f.sp s.cells (place ts to) 32 can.target_off can.target in
      let by_bytes = computes own f.sp here start ts ls rs in
      let done = all-does program choice own f.sp here start ts ls rs value g by_bytes to left right m a b has also reached can.left_aside can.right_aside words.1.0 words.1.1.1.0 words.1.1.1.1.1.0 in
      let both = λ (k : ℕ). g (set_byte a k) (set_byte b k) in
      call-ends program choice key unit routine held_so fits args f s refl room stack.inside
      (IsIn (place ts to) 32) (λ after bytes. (bytes ≡ []) × HasSet after.cells (place ts to) (operator a b) × KeepsRest s after) 64 2048 Onward _ [] tt
      (done _ (starts program choice key unit routine held_so fits args f s refl room stack.inside 6 words))
      refl
      (λ x free. filled-other m (place ts to) both 32 x (λ k h e. free (k, h, e)))
      (λ after ended. (
        refl,
        λ k h. ended.cells (address_of (place ts to) k) (can.target_off k h) ∙ filled-at m ts to both 32 k h (omega arith) ∙ ap Known (is a b k),
        record { flag = ended.flag; input = ended.input; out = ended.out; err = ended.err },
      ))

pub unites : (program : FlatProgram) (choice : Choice) (unit : UnitCode) → StackFits program choice → IsHeld program (runtime_key union_number) unit (combine_routine union_byte) → Unites program choice
unites program choice unit fits held_so = combines program choice unit fits union_number union_byte bit_or union held_so
    (λ own sp is_placed e ts ls rs. record {
      seen = λ n t l r x y m p q. op-so choice own 18 op.Or left_byte right_byte (at program choice own sp is_placed e ts ls rs (Holds n) t l r m) x y p q;
      small = λ x y p q. or_lt 8 x y p q;
      short = omega arith;
    }) union-byte

pub intersects : (program : FlatProgram) (choice : Choice) (unit : UnitCode) → StackFits program choice → IsHeld program (runtime_key intersection_number) unit (combine_routine intersection_byte) → Intersects program choice
intersects program choice unit fits held_so = combines program choice unit fits intersection_number intersection_byte bit_and intersection held_so
    (λ own sp is_placed e ts ls rs. record {
      seen = λ n t l r x y m p q. op-so choice own 18 op.And left_byte right_byte (at program choice own sp is_placed e ts ls rs (Holds n) t l r m) x y p q;
      small = λ x y p q. omega (arith, p, and_le_l x y);
      short = omega arith;
    }) intersection-byte

pub takes-away : (program : FlatProgram) (choice : Choice) (unit : UnitCode) → StackFits program choice → IsHeld program (runtime_key difference_number) unit (combine_routine difference_byte) → TakesAway program choice
takes-away program choice unit fits held_so = combines program choice unit fits difference_number difference_byte (λ x y. bit_and x (bit_xor y 255)) difference held_so
    (λ own sp is_placed e ts ls rs. record {
      seen = λ n t l r x y m p q. op-so choice own 18 op.And left_byte (Op op.Xor right_byte (Number 255)) (at program choice own sp is_placed e ts ls rs (Holds n) t l r m) x (bit_xor y 255) p (op-so choice own 18 op.Xor right_byte (Number 255) (at program choice own sp is_placed e ts ls rs (Holds n) t l r m) y 255 q refl);
      small = λ x y p q. omega (arith, p, and_le_l x (bit_xor y 255));
      short = omega arith;
    }) difference-byte
