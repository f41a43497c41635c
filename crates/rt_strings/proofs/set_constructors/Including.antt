-- The routine that adds a range of elements to a set.
use Rattle.std.proofs.Common.{◌≡◌, ℕ, zero, suc, ◌+◌, ◌-◌, ◌*◌, ◌/◌, ◌%◌, ◌^◌, ◌≤◌, ◌<◌, inl, inr, Bool, true, false, cond, ◌&&◌, ◌||◌, List, [], ◌∷◌, Ok, pos, negsuc, refl, sym, ap, subst, ◌∙◌, arith, ⊎_elim}
use Rattle.std.specs.Prelude.{bit_or, max, nat_lt, nat_le, ◌==◌}
use Rattle.std.specs.Int.{bit_at}
use Rattle.std.proofs.lemmas.Bool.{cases_eq}
use Rattle.std.proofs.lemmas.Bool.Decides.{nat_tests}
use Rattle.std.proofs.lemmas.Nat.{or_lt}
use Rattle.std.proofs.lemmas.Nat.Bits.{bit_at_or, bit_at-zero, bit_at-pow_same, bit_at-pow_other, same_from_bits_below}
use Rattle.common_values.specs.integers.Words.{w16, wrapping_add, low_byte, shifted_left}
use Rattle.common_values.specs.Sets.{contains, union, ordinals_between, with_range, byte_of, bit_of, set_byte}
use Rattle.common_values.proofs.SetLemmas.{element_laws}
use Rattle.flat_code.specs.declared.tree.Address.TheVariants.{Through}
use Rattle.flat_code.specs.declared.tree.FlatOp.TheVariants as op
use Rattle.flat_code.specs.declared.memory.Cell.TheVariants.{Known, Outside}
use Rattle.flat_code.specs.Tree.{Number, Op, Code, End, Loop}
use Rattle.flat_code.specs.Memory.{Cells, Found, ◌>>=◌, address_of, place_after, put}
use Rattle.flat_code.specs.Program.{FlatProgram, Choice, UnitCode, runtime_key}
use Rattle.flat_code.specs.Meaning.{Frame, truth, activation_bytes, frame_of}
use Rattle.flat_code.specs.Legal.{StackFits}
use Rattle.flat_code.specs.Gives.{KeepsRest}
use Rattle.flat_code.proofs.Shut.{put_other}
use Rattle.runtime_proofs.specs.routine_proofs.Activation.{Slot, Shut, Free, Holds, Activation, IsPlaced}
use Rattle.runtime_proofs.specs.routine_proofs.Straight.{Onward, Leaving, Came, seen_value, continued, straight, code_size}
use Rattle.runtime_proofs.specs.routine_proofs.Comes.{Does}
use Rattle.runtime_proofs.specs.routine_proofs.Entry.{entered, memory_without}
use Rattle.runtime_proofs.specs.routine_proofs.Specifications.{IsHeld}
use Rattle.runtime_proofs.proofs.routine_proofs.Replies.{next_of, taken-so, other-so}
use Rattle.runtime_proofs.proofs.routine_proofs.Doing.{weaker-does, then-does, straight-does, round-does, leave-does}
use Rattle.runtime_proofs.proofs.routine_proofs.Calls.{call-ends, placed, starts}
use Rattle.runtime_proofs.specs.strings_in_memory.Strings.{IsIn, place}
use Rattle.runtime_proofs.proofs.strings_in_memory.Cells.{put-same, byte-read, store-so, apart-in}
use Rattle.runtime_proofs.specs.string_loops.Pieces.{word, behind}
use Rattle.runtime_proofs.proofs.string_loops.Seen.{op-so}
use Rattle.runtime_proofs.proofs.string_loops.Counts.{decided}
use Rattle.runtime_proofs.proofs.string_loops.Entry.{kept}
use Rattle.rt_strings.specs.sets.Sets.{HasSet}
use Rattle.rt_strings.proofs.sets.SetBytes.{byte-small, bit-is, union-byte}
use Rattle.rt_strings.specs.set_constructors.Routines.{take_pointer, with_bit, add_element, range_round, include_routine}
use Rattle.rt_strings.specs.set_constructors.Specifications.{include_number, Includes}

low-same : (b : ℕ) → b < 256 → low_byte b ≡ b
low-same b h = omega (arith, h)

at-byte : (segment o i : ℕ) → address_of (place_after (place segment (wrapping_add w16 o i)) 0) 0 ≡ address_of (place segment o) i
at-byte segment o i = omega arith

-- ---- one element more

powers : (i : ℕ) → i < 8 → 2 ^ i < 256
powers zero h = omega arith
powers (suc zero) h = omega arith
powers (suc (suc zero)) h = omega arith
powers (suc (suc (suc zero))) h = omega arith
powers (suc (suc (suc (suc zero)))) h = omega arith
powers (suc (suc (suc (suc (suc zero))))) h = omega arith
powers (suc (suc (suc (suc (suc (suc zero)))))) h = omega arith
powers (suc (suc (suc (suc (suc (suc (suc zero))))))) h = omega arith
powers (suc (suc (suc (suc (suc (suc (suc (suc i)))))))) h = absurd (omega (arith, h))

-- the set of one element
only-is : (e x : ℕ) → contains (e ∷ []) x ≡ (e == x)
only-is e x = or-none (e == x)
  where
    or-none : (b : Bool) → (b || false) ≡ b
    or-none true = refl
    or-none false = refl

same-test : (e x : ℕ) → e ≡ x → (e == x) ≡ true
same-test e x h = grind (arith, nat_tests)

other-test : (e x : ℕ) → (e ≡ x → ⊥) → (e == x) ≡ false
other-test e x h = grind (arith, nat_tests)

-- a bit of its byte
one-bit : (e i : ℕ) → i < 8 → cond (e == 8 * byte_of e + i) 1 0 ≡ bit_at (2 ^ bit_of e) i
one-bit e i h = ⊎_elim same other (cases_eq i (bit_of e))
  where
    same : i ≡ bit_of e → cond (e == 8 * byte_of e + i) 1 0 ≡ bit_at (2 ^ bit_of e) i
    same is =
        let whole : e ≡ 8 * byte_of e + i = omega (arith, is) in
        ap (λ x. cond x 1 0) (same-test e (8 * byte_of e + i) whole) ∙ sym (ap (bit_at (2 ^ bit_of e)) is ∙ bit_at-pow_same (bit_of e))

    other : (i ≡ bit_of e → ⊥) → cond (e == 8 * byte_of e + i) 1 0 ≡ bit_at (2 ^ bit_of e) i
    other ne =
        let apart : e ≡ 8 * byte_of e + i → ⊥ = λ whole. ne (omega (arith, whole, h)) in
        ap (λ x. cond x 1 0) (other-test e (8 * byte_of e + i) apart) ∙ sym (bit_at-pow_other (bit_of e) i ne)

-- its byte has its bit
only-byte : (e : ℕ) → set_byte (e ∷ []) (byte_of e) ≡ 2 ^ bit_of e
only-byte e =
    let inside : bit_of e < 8 = omega arith in
    same_from_bits_below 8 (set_byte (e ∷ []) (byte_of e)) (2 ^ bit_of e) (byte-small (e ∷ []) (byte_of e)) (powers (bit_of e) inside)
    (λ i h. bit-is (e ∷ []) (byte_of e) i h ∙ ap (λ x. cond x 1 0) (only-is e (8 * byte_of e + i)) ∙ one-bit e i h)

-- and its other bytes none
only-other : (e k : ℕ) → (k ≡ byte_of e → ⊥) → set_byte (e ∷ []) k ≡ 0
only-other e k ne = same_from_bits_below 8 (set_byte (e ∷ []) k) 0 (byte-small (e ∷ []) k) (omega arith) bits
  where
    bits : (i : ℕ) → i < 8 → bit_at (set_byte (e ∷ []) k) i ≡ bit_at 0 i
    bits i h =
        let apart : e ≡ 8 * k + i → ⊥ = λ whole. ne (omega (arith, whole, h)) in
        bit-is (e ∷ []) k i h ∙ ap (λ x. cond x 1 0) (only-is e (8 * k + i) ∙ other-test e (8 * k + i) apart) ∙ sym (bit_at-zero i)

added-byte : (set : List ℕ) (e : ℕ) → bit_or (set_byte set (byte_of e)) (2 ^ bit_of e) ≡ set_byte (union set (e ∷ [])) (byte_of e)
added-byte set e = sym (ap (bit_or (set_byte set (byte_of e))) (only-byte e)) ∙ union-byte set (e ∷ []) (byte_of e)

or-zero : (x : ℕ) → x < 256 → bit_or x 0 ≡ x
or-zero x h = same_from_bits_below 8 (bit_or x 0) x (or_lt 8 x 0 h (omega arith)) h (λ i p. bit_at_or x 0 i ∙ ap (max (bit_at x i)) (bit_at-zero i) ∙ greatest (bit_at x i))
  where
    greatest : (n : ℕ) → max n 0 ≡ n
    greatest n = omega arith

other-byte : (set : List ℕ) (e k : ℕ) → (k ≡ byte_of e → ⊥) → set_byte set k ≡ set_byte (union set (e ∷ [])) k
other-byte set e k ne = sym (or-zero (set_byte set k) (byte-small set k)) ∙ sym (ap (bit_or (set_byte set k)) (only-other e k ne)) ∙ union-byte set (e ∷ []) k

-- ---- the sets of the rounds

-- a set and the elements from one on, so many
abbrev more : List ℕ → ℕ → ℕ → List ℕ
more set e zero = set
more set e (suc n) = more (union set (e ∷ [])) (suc e) n

more-contains : (set : List ℕ) (e n x : ℕ) → contains (more set e n) x ≡ (contains set x || (nat_le e x && nat_lt x (e + n)))
more-contains set e zero x = none (contains set x) (nat_le e x && nat_lt x (e + 0)) (empty e x)
  where
    empty : (e x : ℕ) → (nat_le e x && nat_lt x (e + 0)) ≡ false
    empty e x = grind (arith, nat_tests)

    none : (b c : Bool) → c ≡ false → b ≡ (b || c)
    none true c h = refl
    none false c h = sym h
more-contains set e (suc n) x =
    more-contains (union set (e ∷ [])) (suc e) n x
    ∙ ap (λ b. b || (nat_le (suc e) x && nat_lt x (suc e + n))) (element_laws.union set (e ∷ []) x ∙ ap (λ b. contains set x || b) (only-is e x))
    ∙ by (contains set x) (e == x) (nat_le (suc e) x && nat_lt x (suc e + n)) (nat_le e x && nat_lt x (e + suc n)) (step e n x)
  where
    step : (e n x : ℕ) → ((e == x) || (nat_le (suc e) x && nat_lt x (suc e + n))) ≡ (nat_le e x && nat_lt x (e + suc n))
    step e n x = grind (arith, nat_tests)

    by : (a b c d : Bool) → (b || c) ≡ d → ((a || b) || c) ≡ (a || d)
    by true b c d h = refl
    by false b c d h = h

-- they come to the range
all-are : (set : List ℕ) (low high k : ℕ) → set_byte (more set low (high + 1 - low)) k ≡ set_byte (with_range set low high) k
all-are set low high k = same_from_bits_below 8 _ _ (byte-small (more set low (high + 1 - low)) k) (byte-small (with_range set low high) k) (λ i h.
    let x = 8 * k + i in
    bit-is (more set low (high + 1 - low)) k i h
    ∙ ap (λ b. cond b 1 0) (more-contains set low (high + 1 - low) x ∙ ap (λ b. contains set x || b) (ends low high x) ∙ sym (element_laws.union set (ordinals_between low high) x ∙ ap (λ b. contains set x || b) (element_laws.between low high x)))
    ∙ sym (bit-is (with_range set low high) k i h))
  where
    ends : (low high x : ℕ) → (nat_le low x && nat_lt x (low + (high + 1 - low))) ≡ (nat_le low x && nat_le x high)
    ends low high x = grind (arith, nat_tests)

module _ (program : FlatProgram) (choice : Choice) (own : Frame) (sp : ℕ) (is_placed : IsPlaced choice own sp 14) (r : Activation) (segment o high : ℕ) where
  -- in the routine: a pointer, the next element, and memory
  abbrev at : Slot → Slot → ℕ → Cells → Activation
  at s p e m = record r { words = Holds segment ∷ Holds o ∷ Holds e ∷ Holds high ∷ Shut ∷ Shut ∷ Shut ∷ s ∷ p ∷ []; memory = m }

  abbrev st : ℕ → ℕ → Cells → Activation
  st p e m = at (Holds segment) (Holds p) e m

  -- memory with an element more
  abbrev added : List ℕ → ℕ → Cells → Cells
  added set e m = put m (address_of (place segment o) (byte_of e)) (Known (set_byte (union set (e ∷ [])) (byte_of e)))

  added-has : (set : List ℕ) (e : ℕ) (m : Cells) → e < 256 → HasSet m (place segment o) set → HasSet (added set e m) (place segment o) (union set (e ∷ []))
  added-has set e m small has k h = ⊎_elim
      (λ (same : k ≡ byte_of e). subst (λ j. added set e m (address_of (place segment o) j) ≡ Known (set_byte (union set (e ∷ [])) j)) (sym same) (put-same m (address_of (place segment o) (byte_of e)) (Known (set_byte (union set (e ∷ [])) (byte_of e)))))
      (λ ne. put_other m (address_of (place segment o) (byte_of e)) (Known (set_byte (union set (e ∷ [])) (byte_of e))) (address_of (place segment o) k) (λ same. by-order k ne h same)
      ∙ has k h ∙ ap Known (other-byte set e k ne)) (cases_eq k (byte_of e))
    where
      by-order : (k : ℕ) → (k ≡ byte_of e → ⊥) → k < 32 → address_of (place segment o) k ≡ address_of (place segment o) (byte_of e) → ⊥
      by-order k ne h same = elim (decided k (byte_of e)) [
        | inl l ↦ apart-in segment o k (byte_of e) l.0 (omega (arith, small)) same
        | inr l ↦ apart-in segment o (byte_of e) k (omega (arith, l.0, ne)) (omega (arith, h)) (sym same)
      ]

  element-does : (p : ℕ) (set : List ℕ) (e : ℕ) (m : Cells) → e < 256 → HasSet m (place segment o) set → straight choice own 14 add_element (st p e m) ≡ Ok (record { exit = Onward; there = st (wrapping_add w16 o (e / 8)) (suc e) (added set e m) })
  element-does p set e m small has =
      let q = wrapping_add w16 o (e / 8) in
      let c1 = next_of add_element in
      let c2 = next_of c1 in
      let a = st q e m in
      let there = place_after (place segment q) 0 in
      let same = at-byte segment o (e / 8) in
      let x = set_byte set (e / 8) in
      let b = set_byte (union set (e ∷ [])) (e / 8) in
      let inside : e / 8 < 32 = omega (arith, small) in
      let known = has (e / 8) inside in
      let byte : seen_value choice own 14 a (behind (negsuc 3) 0) ≡ Ok x = byte-read m there 0 x (ap m same ∙ known) (byte-small set (e / 8)) in
      let shifted = shifted_left w16 1 (low_byte (e % 8)) in
      let bit : shifted ≡ 2 ^ (e % 8) = shift-is (e % 8) (omega arith) in
      let value : seen_value choice own 14 a with_bit ≡ Ok b =
      op-so choice own 14 op.Or (behind (negsuc 3) 0) (Op op.Shl (Number 1) (Op op.ModUnsigned (word (pos 8)) (Number 8))) a x shifted byte refl
      ∙ ap (λ v. let r : Found ℕ = Ok (bit_or x v) in r) bit ∙ ap (λ v. let r : Found ℕ = Ok v in r) (added-byte set e) in
      let next : wrapping_add w16 e 1 ≡ suc e = omega (arith, small) in
      store-so choice own 14 (Through (negsuc 3) 0) with_bit c2 a there b value refl
      (λ out. let w : Known x ≡ Outside = sym (ap m same ∙ known) ∙ out in absurd (cc))
      ∙ ap (λ y. straight choice own 14 c2 (st q e (put m y (Known (low_byte b))))) same
      ∙ ap (λ v. straight choice own 14 c2 (st q e (put m (address_of (place segment o) (e / 8)) (Known v)))) (low-same b (byte-small (union set (e ∷ [])) (e / 8)))
      ∙ ap (λ v. let r : Found Came = Ok (record { exit = Onward; there = st q v (added set e m) }) in r) next
    where
      shift-is : (i : ℕ) → i < 8 → shifted_left w16 1 (low_byte i) ≡ 2 ^ i
      shift-is zero h = refl
      shift-is (suc zero) h = refl
      shift-is (suc (suc zero)) h = refl
      shift-is (suc (suc (suc zero))) h = refl
      shift-is (suc (suc (suc (suc zero)))) h = refl
      shift-is (suc (suc (suc (suc (suc zero))))) h = refl
      shift-is (suc (suc (suc (suc (suc (suc zero)))))) h = refl
      shift-is (suc (suc (suc (suc (suc (suc (suc zero))))))) h = refl
      shift-is (suc (suc (suc (suc (suc (suc (suc (suc i)))))))) h = absurd (omega (arith, h))

  abbrev loop : Code
  loop = Loop range_round End

  one-round : (p : ℕ) (set : List ℕ) (e : ℕ) (m : Cells) → e < 256 → truth (nat_lt high e) ≡ 0 → HasSet m (place segment o) set → Does program choice own sp range_round 0 40 (st p e m) Onward (st (wrapping_add w16 o (e / 8)) (suc e) (added set e m))
  one-round p set e m small t has =
      let b = st (wrapping_add w16 o (e / 8)) (suc e) (added set e m) in
      let came : Came = record { exit = Onward; there = b } in
      weaker-does program choice own sp range_round 0 (code_size range_round) 0 40 (st p e m) Onward b (omega arith) (omega arith)
      (straight-does program choice own sp 14 is_placed range_round (st p e m) Onward b
      (other-so choice own 14 range_round (st p e m) (truth (nat_lt high e)) came refl t
      (ap (λ (found : Found Came). found >>= λ c. continued c.exit c.there (straight choice own 14 End)) (element-does p set e m small has))))

  last-round : (p e : ℕ) (m : Cells) → truth (nat_lt high e) ≡ 1 → Does program choice own sp loop 1 42 (st p e m) Onward (st p e m)
  last-round p e m t =
      leave-does program choice own sp range_round 0 40 (st p e m) (Leaving 0) Onward (st p e m) refl
      (weaker-does program choice own sp range_round 0 (code_size range_round) 0 40 (st p e m) (Leaving 0) (st p e m) (omega arith) (omega arith)
      (straight-does program choice own sp 14 is_placed range_round (st p e m) (Leaving 0) (st p e m)
      (taken-so choice own 14 range_round (st p e m) (truth (nat_lt high e)) (record { exit = Leaving 0; there = st p e m }) refl (λ z. omega (arith, z, t)) refl)))

  -- where it stands once so many elements are added
  record Included (n p e : ℕ) (m : Cells) (set : List ℕ) : Type 0 where
    p' : ℕ
    e' : ℕ
    after : Cells
    has : HasSet after (place segment o) (more set e n)
    stays : (x : ℕ) → (IsIn (place segment o) 32 x → ⊥) → after x ≡ m x
    does : Does program choice own sp loop (1 + n) (42 * (1 + n)) (st p e m) Onward (st p' e' after)

  rounds : (n p e : ℕ) (m : Cells) (set : List ℕ) → n ≡ high + 1 - e → high < 256 → HasSet m (place segment o) set → Included n p e m set
  rounds zero p e m set h small has = record {
    p' = p;
    e' = e;
    after = m;
    has = has;
    stays = λ x free. refl;
    does = last-round p e m (past high e (omega (arith, h)));
  }
    where
      past : (high e : ℕ) → high < e → truth (nat_lt high e) ≡ 1
      past high e h = grind (arith, nat_tests)
  rounds (suc n) p e m set h small has =
      let low : e < 256 = omega (arith, h, small) in
      let q = wrapping_add w16 o (e / 8) in
      let k = added set e m in
      let rest = rounds n q (suc e) k (union set (e ∷ [])) (omega (arith, h)) small (added-has set e m low has) in
      record {
        p' = rest.p';
        e' = rest.e';
        after = rest.after;
        has = rest.has;
        stays = λ x free. rest.stays x free ∙ put_other m (address_of (place segment o) (byte_of e)) (Known (set_byte (union set (e ∷ [])) (byte_of e))) x (λ is. free (byte_of e, omega (arith, low), is));
        does = weaker-does program choice own sp loop (1 + 0 + (1 + n)) (2 + 40 + 42 * (1 + n)) (1 + suc n) (42 * (1 + suc n)) (st p e m) Onward (st rest.p' rest.e' rest.after) (omega arith) (omega arith)
            (round-does program choice own sp range_round 0 40 (1 + n) (42 * (1 + n)) (st p e m) (st q (suc e) k) Onward (st rest.p' rest.e' rest.after) (one-round p set e m low (not-past high e (omega (arith, h))) has) rest.does);
      }
    where
      not-past : (high e : ℕ) → e ≤ high → truth (nat_lt high e) ≡ 0
      not-past high e h = grind (arith, nat_tests)

  -- from the first statement to the last
  record Answered (set : List ℕ) (low : ℕ) (m : Cells) : Type 0 where
    p' : ℕ
    e' : ℕ
    after : Cells
    has : HasSet after (place segment o) (with_range set low high)
    stays : (x : ℕ) → (IsIn (place segment o) 32 x → ⊥) → after x ≡ m x
    does : Does program choice own sp include_routine.body 512 16384 (at Free Free low m) Onward (st p' e' after)

  answers : (set : List ℕ) (low : ℕ) (m : Cells) → high < 256 → HasSet m (place segment o) set → Answered set low m
  answers set low m small has =
      let n = high + 1 - low in
      let rest = rounds n o low m set refl small has in
      record {
        p' = rest.p';
        e' = rest.e';
        after = rest.after;
        has = λ k h. rest.has k h ∙ ap Known (all-are set low high k);
        stays = rest.stays;
        does = weaker-does program choice own sp include_routine.body (0 + (1 + n)) (code_size take_pointer + 42 * (1 + n)) 512 16384 (at Free Free low m) Onward (st rest.p' rest.e' rest.after) (omega (arith, small)) (omega (arith, small))
            (then-does program choice own sp take_pointer loop 0 (code_size take_pointer) (1 + n) (42 * (1 + n)) (at Free Free low m) (st o low m) Onward (st rest.p' rest.e' rest.after)
            (straight-does program choice own sp 14 is_placed take_pointer (at Free Free low m) Onward (st o low m) refl) rest.does);
      }

-- ---- the promise

pub includes : (program : FlatProgram) (choice : Choice) (unit : UnitCode) → StackFits program choice → IsHeld program (runtime_key include_number) unit include_routine → Includes program choice
includes program choice unit fits held_so segment o low high set f s words small less stack can =
    let key = runtime_key include_number in
    let room : activation_bytes include_routine ≤ f.sp = omega (arith, stack.room) in
    let args = segment ∷ o ∷ low ∷ high ∷ [] in
    let own = frame_of key.unit unit include_routine f in
    let here = placed program choice key unit include_routine held_so fits args f s refl room stack.inside in
    let start = entered choice f.sp 4 args s in
    let m = memory_without choice f.sp s.cells in
    let has : HasSet m (place segment o) set = λ k h. kept choice f.sp s.cells (address_of (place segment o) k) (can.off k h) ∙ can.there k h in
    let done = answers program choice own f.sp here start segment o high set low m less has in
    call-ends program choice key unit include_routine held_so fits args f s refl room stack.inside
    (IsIn (place segment o) 32) (λ after bytes. (bytes ≡ []) × HasSet after.cells (place segment o) (with_range set low high) × KeepsRest s after) 512 16384 Onward _ [] tt
    (done.does _ (starts program choice key unit include_routine held_so fits args f s refl room stack.inside 4 words))
    refl
    done.stays
    (λ after ended. (
      refl,
      λ k h. ended.cells (address_of (place segment o) k) (can.off k h) ∙ done.has k h,
      record { flag = ended.flag; input = ended.input; out = ended.out; err = ended.err },
    ))
