-- The routine that tells whether a number is in a set.
use Rattle.std.proofs.Common.{◌≡◌, ℕ, zero, suc, ◌+◌, ◌-◌, ◌*◌, ◌/◌, ◌%◌, ◌^◌, ◌≤◌, ◌<◌, inl, inr, Bool, true, false, cond, ◌&&◌, List, [], ◌∷◌, Ok, pos, negsuc, refl, sym, ap, subst, ◌∙◌, arith}
use Rattle.std.specs.Prelude.{bit_and, nat_lt}
use Rattle.std.proofs.lemmas.Bool.Decides.{nat_tests}
use Rattle.std.proofs.lemmas.Int.{ints}
use Rattle.std.proofs.lemmas.Nat.Bits.{and_pow, bit_at_lowest}
use Rattle.common_values.specs.integers.Words.{w16, w32, cast_signed, wrapping_add, low_byte, shifted_right}
use Rattle.common_values.specs.Sets.{contains, is_member, set_byte}
use Rattle.common_values.proofs.SetLemmas.{byte_laws}
use Rattle.flat_code.specs.declared.tree.FlatOp.TheVariants as op
use Rattle.flat_code.specs.Tree.{Number, Op, End}
use Rattle.flat_code.specs.Memory.{Cells, Found, ◌>>=◌, address_of, place_after, word_bytes}
use Rattle.flat_code.specs.Program.{FlatProgram, Choice, UnitCode, runtime_key}
use Rattle.flat_code.specs.Meaning.{Frame, truth, activation_bytes, frame_of}
use Rattle.flat_code.specs.Legal.{StackFits}
use Rattle.flat_code.specs.Gives.{KeepsRest}
use Rattle.runtime_proofs.specs.routine_proofs.Activation.{Slot, Shut, Free, Holds, Activation, IsPlaced}
use Rattle.runtime_proofs.specs.routine_proofs.Straight.{Onward, Came, seen_value, continued, straight, code_size}
use Rattle.runtime_proofs.specs.routine_proofs.Comes.{Does}
use Rattle.runtime_proofs.specs.routine_proofs.Entry.{entered, memory_without}
use Rattle.runtime_proofs.specs.routine_proofs.Specifications.{IsHeld}
use Rattle.runtime_proofs.proofs.routine_proofs.Replies.{next_of, other_of, taken-so, other-so}
use Rattle.runtime_proofs.proofs.routine_proofs.Doing.{weaker-does, straight-does}
use Rattle.runtime_proofs.proofs.routine_proofs.Calls.{call-ends, placed, starts}
use Rattle.runtime_proofs.specs.strings_in_memory.Strings.{place}
use Rattle.runtime_proofs.proofs.strings_in_memory.Cells.{byte-read}
use Rattle.runtime_proofs.specs.string_loops.Pieces.{word, behind}
use Rattle.runtime_proofs.specs.string_loops.Counts.{long_value}
use Rattle.runtime_proofs.proofs.string_loops.Seen.{op-so, set-so}
use Rattle.runtime_proofs.proofs.string_loops.Counts.{decided}
use Rattle.runtime_proofs.proofs.string_loops.Entry.{kept}
use Rattle.rt_strings.specs.sets.Sets.{HasSet}
use Rattle.rt_strings.specs.set_relations.Routines.{member_bit, member_code, member_routine}
use Rattle.rt_strings.specs.set_relations.Specifications.{member_number, TellsMember}

-- ---- members by the words of a number

signed-so : (x : ℕ) → x < 2147483648 → cast_signed w32 x ≡ pos x
signed-so x h = grind (arith, nat_tests, ints)

signed-negative : (x n : ℕ) → 2147483648 ≤ x → x < 4294967296 → 4294967296 - x ≡ suc n → cast_signed w32 x ≡ negsuc n
signed-negative x n h l e = grind (arith, nat_tests, ints)

too-great : (set : List ℕ) (n : ℕ) → 256 ≤ n → (nat_lt n 256 && contains set n) ≡ false
too-great set n h = ap (λ b. b && contains set n) (not-below n h)
  where
    not-below : (n : ℕ) → 256 ≤ n → nat_lt n 256 ≡ false
    not-below n h = grind (arith, nat_tests)

not-in : (set : List ℕ) (low high : ℕ) → low < 65536 → high < 65536 → 256 ≤ low + 65536 * high → is_member set (long_value low high) ≡ false
not-in set low high p q r = elim (decided high 32768) [
  | inl h ↦ ap (is_member set) (signed-so (low + 65536 * high) (omega (arith, p, h.0))) ∙ too-great set (low + 65536 * high) r
  | inr h ↦ ap (is_member set) (signed-negative (low + 65536 * high) (4294967296 - (low + 65536 * high) - 1) (omega (arith, h.0)) (omega (arith, p, q)) (omega (arith, p, q)))
]

small-in : (set : List ℕ) (low : ℕ) → low < 256 → is_member set (long_value low 0) ≡ contains set low
small-in set low p =
    let plain : low + 65536 * 0 ≡ low = omega arith in
    ap (λ n. is_member set (cast_signed w32 n)) plain ∙ ap (is_member set) (signed-so low (omega (arith, p))) ∙ ap (λ b. b && contains set low) (below low p)
  where
    below : (n : ℕ) → n < 256 → nat_lt n 256 ≡ true
    below n h = grind (arith, nat_tests)

truth-is : (b : Bool) → cond b 1 0 ≡ truth b
truth-is true = refl
truth-is false = refl

lowest : (n : ℕ) → bit_and n 1 ≡ n % 2
lowest n = let a = and_pow n 0 in let b = bit_at_lowest n in omega (arith, a, b)

-- the bit as the routine computes it
bit-so : (set : List ℕ) (low : ℕ) → bit_and (shifted_right (set_byte set (low / 8)) (low_byte (low % 8))) 1 ≡ truth (contains set low)
bit-so set low =
    let same : low_byte (low % 8) ≡ low % 8 = omega arith in
    ap (λ k. bit_and (shifted_right (set_byte set (low / 8)) k) 1) same ∙ lowest (set_byte set (low / 8) / 2 ^ (low % 8)) ∙ byte_laws.bit set low ∙ truth-is (contains set low)

at-byte : (segment o i : ℕ) → address_of (place_after (place segment (wrapping_add w16 o i)) 0) 0 ≡ address_of (place segment o) i
at-byte segment o i = omega arith

module _ (program : FlatProgram) (choice : Choice) (own : Frame) (sp : ℕ) (is_placed : IsPlaced choice own sp 14) (e : Activation) (low high segment : ℕ) (m : Cells) where
  abbrev at : Slot → ℕ → Activation
  at result o = record e { words = Holds low ∷ Holds high ∷ Holds segment ∷ Holds o ∷ Shut ∷ Shut ∷ Shut ∷ result ∷ []; memory = m }

  -- after the first statement
  from-zero : (o : ℕ) (c : Activation) → straight choice own 14 (next_of member_code) (at (Holds 0) o) ≡ Ok (record { exit = Onward; there = c }) → Does program choice own sp member_code 0 64 (at Free o) Onward c
  from-zero o c does = weaker-does program choice own sp member_code 0 (code_size member_code) 0 64 (at Free o) Onward c (omega arith) (omega arith) (straight-does program choice own sp 14 is_placed member_code (at Free o) Onward c does)

  module _ (o : ℕ) (set : List ℕ) (low_word : low < 65536) (high_word : high < 65536) (has : HasSet m (place segment o) set) where
    record Answered (result : ℕ) : Type 0 where
      o' : ℕ
      does : Does program choice own sp member_code 0 64 (at Free o) Onward (at (Holds result) o')

    -- a number whose upper word is not 0
    upper-word : (n : ℕ) → high ≡ suc n → Answered 0
    upper-word n is = record {
      o' = o;
      does = from-zero o (at (Holds 0) o) (taken-so choice own 14 (next_of member_code) (at (Holds 0) o) high (record { exit = Onward; there = at (Holds 0) o }) refl (λ z. omega (arith, z, is)) refl);
    }

    -- one whose upper word is 0
    lower-word : high ≡ 0 → (c : Activation) → straight choice own 14 (other_of (next_of member_code)) (at (Holds 0) o) ≡ Ok (record { exit = Onward; there = c }) → Does program choice own sp member_code 0 64 (at Free o) Onward c
    lower-word is c does = from-zero o c (other-so choice own 14 (next_of member_code) (at (Holds 0) o) high (record { exit = Onward; there = c }) refl is
        (ap (λ (found : Found Came). found >>= λ c. continued c.exit c.there (straight choice own 14 End)) does))

    great-number : high ≡ 0 → 256 ≤ low → truth (nat_lt low 256) ≡ 0 → Answered 0
    great-number is h t = record {
      o' = o;
      does = lower-word is (at (Holds 0) o) (other-so choice own 14 (other_of (next_of member_code)) (at (Holds 0) o) (truth (nat_lt low 256)) (record { exit = Onward; there = at (Holds 0) o }) refl t refl);
    }

    small-number : high ≡ 0 → low < 256 → truth (nat_lt low 256) ≡ 1 → Answered (truth (contains set low))
    small-number is h t =
        let there = wrapping_add w16 o (low / 8) in
        let a = at (Holds 0) there in
        let c = at (Holds (truth (contains set low))) there in
        let came : Came = record { exit = Onward; there = c } in
        let byte : seen_value choice own 14 a (behind (pos 6) 0) ≡ Ok (set_byte set (low / 8)) =
        byte-read m (place_after (place segment there) 0) 0 (set_byte set (low / 8)) (ap m (at-byte segment o (low / 8)) ∙ has (low / 8) (omega (arith, h))) (byte_laws.small set (low / 8)) in
        let shifted = op-so choice own 14 op.Shr (behind (pos 6) 0) (Op op.ModUnsigned (word (pos 12)) (Number 8)) a (set_byte set (low / 8)) (low % 8) byte refl in
        let bit = op-so choice own 14 op.And (Op op.Shr (behind (pos 6) 0) (Op op.ModUnsigned (word (pos 12)) (Number 8))) (Number 1) a (shifted_right (set_byte set (low / 8)) (low_byte (low % 8))) 1 shifted refl in
        let value = bit_and (shifted_right (set_byte set (low / 8)) (low_byte (low % 8))) 1 in
        let inner : straight choice own 14 member_bit (at (Holds 0) o) ≡ Ok came =
        set-so choice own 14 (negsuc 1) (Op op.And (Op op.Shr (behind (pos 6) 0) (Op op.ModUnsigned (word (pos 12)) (Number 8))) (Number 1)) End a (at (Holds value) there) value bit refl
        ∙ ap (λ v. let r : Found Came = Ok (record { exit = Onward; there = at (Holds v) there }) in r) (bit-so set low) in
        record {
          o' = there;
          does = lower-word is c (taken-so choice own 14 (other_of (next_of member_code)) (at (Holds 0) o) (truth (nat_lt low 256)) came refl (λ z. omega (arith, z, t))
              (ap (λ (found : Found Came). found >>= λ c. continued c.exit c.there (straight choice own 14 End)) inner));
        }

    answers : Answered (truth (is_member set (long_value low high)))
    answers = by-upper high refl
      where
        by-lower : high ≡ 0 → Answered (truth (is_member set (long_value low high)))
        by-lower is = elim (decided low 256) [
          | inl h ↦ subst (λ v. Answered v) (ap truth (sym (ap (λ n. is_member set (long_value low n)) is ∙ small-in set low h.0))) (small-number is h.0 h.1)
          | inr h ↦ subst (λ v. Answered v) (ap truth (sym (not-in set low high low_word high_word (omega (arith, h.0))))) (great-number is h.0 h.1)
        ]

        by-upper : (n : ℕ) → high ≡ n → Answered (truth (is_member set (long_value low high)))
        by-upper zero is = by-lower is
        by-upper (suc n) is = subst (λ v. Answered v) (ap truth (sym (not-in set low high low_word high_word (omega (arith, is))))) (upper-word n is)

-- ---- the promise

pub tells-member : (program : FlatProgram) (choice : Choice) (unit : UnitCode) → StackFits program choice → IsHeld program (runtime_key member_number) unit member_routine → TellsMember program choice
tells-member program choice unit fits held_so low high segment o set f s words stack can =
    let key = runtime_key member_number in
    let room : activation_bytes member_routine ≤ f.sp = omega (arith, stack.room) in
    let args = low ∷ high ∷ segment ∷ o ∷ [] in
    let own = frame_of key.unit unit member_routine f in
    let here = placed program choice key unit member_routine held_so fits args f s refl room stack.inside in
    let start = entered choice f.sp 2 args s in
    let m = memory_without choice f.sp s.cells in
    let has : HasSet m (place segment o) set = λ k p. kept choice f.sp s.cells (address_of (place segment o) k) (can.off k p) ∙ can.there k p in
    let done = answers program choice own f.sp here start low high segment m o set words.0 words.1.0 has in
    call-ends program choice key unit member_routine held_so fits args f s refl room stack.inside
    (λ address. ⊥) (λ after bytes. (bytes ≡ word_bytes (truth (is_member set (long_value low high)))) × KeepsRest s after) 0 64 Onward _ (word_bytes (truth (is_member set (long_value low high)))) tt
    (done.does _ (starts program choice key unit member_routine held_so fits args f s refl room stack.inside 4 words))
    refl
    (λ x free. refl)
    (λ after ended. (refl, record { flag = ended.flag; input = ended.input; out = ended.out; err = ended.err }))
