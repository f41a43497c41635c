-- The routine that gives a letter in upper case.
use Rattle.std.proofs.Common.{◌≡◌, ℕ, ◌-◌, ◌≤◌, ◌<◌, ◌⊎◌, inl, inr, Bool, true, false, List, [], ◌∷◌, Ok, pos, negsuc, refl, sym, ap, subst, ◌∙◌, arith}
use Rattle.std.specs.Prelude.{nat_lt, ◌&&◌, bit_and}
use Rattle.std.proofs.lemmas.Bool.Decides.{nat_tests}
use Rattle.common_values.specs.integers.Words.{w16, wrapping_sub}
use Rattle.common_values.specs.Strings.{upper}
use Rattle.flat_code.specs.Memory.{word_bytes}
use Rattle.flat_code.specs.Meaning.{Frame, State, truth}
use Rattle.flat_code.specs.Program.{FlatProgram, Choice, UnitCode, runtime_key}
use Rattle.flat_code.specs.Legal.{StackFits}
use Rattle.flat_code.specs.Gives.{AreWords}
use Rattle.runtime_proofs.specs.routine_proofs.Activation.{Shut, Holds, Activation, IsPlaced}
use Rattle.runtime_proofs.specs.routine_proofs.Straight.{Onward, straight}
use Rattle.runtime_proofs.specs.routine_proofs.Entry.{entered}
use Rattle.runtime_proofs.specs.routine_proofs.Specifications.{IsHeld, Replies}
use Rattle.runtime_proofs.proofs.routine_proofs.Replies.{answers-straight, taken-so, other-so, next_of, one-word}
use Rattle.runtime_proofs.proofs.routine_proofs.Calls.{computes-so}
use Rattle.rt_strings.specs.string_parts.Routines.{upper_code, upper_routine}
use Rattle.rt_strings.specs.string_parts.Specifications.{upper_number, upper_of, MakesUpper}

both-bits : (p q : Bool) → bit_and (truth p) (truth q) ≡ truth (p && q)
both-bits true true = refl
both-bits true false = refl
both-bits false true = refl
both-bits false false = refl

-- whether a byte is a letter in lower case
abbrev small_letter : ℕ → ℕ
small_letter c = bit_and (truth (nat_lt 96 c)) (truth (nat_lt c 123))

decided : (c : ℕ) → c < 65536 → ((truth (nat_lt 96 c && nat_lt c 123) ≡ 1) × (wrapping_sub w16 c 32 ≡ upper c)) ⊎ ((truth (nat_lt 96 c && nat_lt c 123) ≡ 0) × (c ≡ upper c))
decided c h = grind (arith, nat_tests)

not_zero : (n : ℕ) → n ≡ 1 → n ≡ 0 → ⊥
not_zero n p q = omega (arith, p, q)

module _ (program : FlatProgram) (choice : Choice) (own : Frame) (sp : ℕ) (s : State) (placed : IsPlaced choice own sp 8) where
  -- once the result holds this value
  abbrev holding : ℕ → ℕ → Activation
  holding c v = record (entered choice sp 2 (c ∷ []) s) { words = Holds c ∷ Shut ∷ Shut ∷ Shut ∷ Holds v ∷ [] }

  replied : (c v : ℕ) → straight choice own 8 (next_of upper_code) (holding c c) ≡ Ok (record { exit = Onward; there = holding c v }) → Replies program choice own sp upper_routine 0 64 (entered choice sp 2 (c ∷ []) s) (Ok (word_bytes v))
  replied c v does = answers-straight program choice own sp upper_routine 0 64 (entered choice sp 2 (c ∷ []) s) Onward (holding c v) (word_bytes v) placed does
      tt refl (record { memory = refl; flag = refl; input = refl; out = refl; err = refl }) (omega arith)

  letter-replies : (c : ℕ) → c < 65536 → Replies program choice own sp upper_routine 0 64 (entered choice sp 2 (c ∷ []) s) (Ok (word_bytes (upper c)))
  letter-replies c h = elim (decided c h) [
    | inl k ↦ subst (λ v. Replies program choice own sp upper_routine 0 64 (entered choice sp 2 (c ∷ []) s) (Ok (word_bytes v))) k.1
        (replied c (wrapping_sub w16 c 32) (taken-so choice own 8 (next_of upper_code) (holding c c) (small_letter c) (record { exit = Onward; there = holding c (wrapping_sub w16 c 32) }) refl (not_zero _ (both-bits (nat_lt 96 c) (nat_lt c 123) ∙ k.0)) refl))
    | inr k ↦ subst (λ v. Replies program choice own sp upper_routine 0 64 (entered choice sp 2 (c ∷ []) s) (Ok (word_bytes v))) k.1
        (replied c c (other-so choice own 8 (next_of upper_code) (holding c c) (small_letter c) (record { exit = Onward; there = holding c c }) refl (both-bits (nat_lt 96 c) (nat_lt c 123) ∙ k.0) refl))
  ]

  upper-replies : (args : List ℕ) → AreWords 1 args → Replies program choice own sp upper_routine 0 64 (entered choice sp 2 args s) (upper_of args)
  upper-replies = one-word (λ args. Replies program choice own sp upper_routine 0 64 (entered choice sp 2 args s) (upper_of args)) letter-replies

pub makes-upper : (program : FlatProgram) (choice : Choice) (unit : UnitCode) → StackFits program choice → IsHeld program (runtime_key upper_number) unit upper_routine → MakesUpper program choice
makes-upper program choice unit fits held_so = computes-so program choice (runtime_key upper_number) unit upper_routine 64 1 0 64 upper_of held_so fits refl (omega arith) (λ args own sp s are placed. upper-replies program choice own sp s placed args are)
