-- The routines that test a LongInt against a range.
use Rattle.std.proofs.Common.{◌≡◌, ℕ, ◌<◌, List, [], ◌∷◌, Ok, Err, Bool, true, false, refl, sym, ap, ◌∙◌, arith}
use Rattle.std.specs.Prelude.{◌||◌, ◌==◌, not, bit_or, if◌then◌else◌}
use Rattle.common_values.specs.integers.Words.{w32, is_signed_less}
use Rattle.flat_code.specs.Memory.{Found, word_bytes}
use Rattle.flat_code.specs.Meaning.{Frame, State, truth}
use Rattle.flat_code.specs.Program.{FlatProgram, Choice}
use Rattle.flat_code.specs.Gives.{AreWords}
use Rattle.flat_code.specs.Runtime.{long_word, long_bytes}
use Rattle.runtime_proofs.specs.routine_proofs.Activation.{IsPlaced}
use Rattle.runtime_proofs.specs.routine_proofs.Straight.{Onward}
use Rattle.runtime_proofs.specs.routine_proofs.Entry.{entered}
use Rattle.runtime_proofs.specs.routine_proofs.Specifications.{Replies}
use Rattle.runtime_proofs.proofs.routine_proofs.Replies.{answers-straight, fails-straight, taken-so, other-so, six-words}
use Rattle.rt_strings.specs.long_integers.Routines.{range_routine, between_routine}
use Rattle.rt_strings.specs.long_integers.Numbers.{range_of, between_of}
use Rattle.rt_strings.proofs.long_integers.Bytes.{long-bytes}
use Rattle.rt_strings.proofs.long_integers.Comparing.{less_word, less-is, either-bit}

module _ (program : FlatProgram) (choice : Choice) (own : Frame) (sp : ℕ) (s : State) (placed : IsPlaced choice own sp 18) where
  by-test : (a b c d e g : ℕ) → a < 65536 → b < 65536 → (x : Bool) → bit_or (less_word a b c d) (less_word e g a b) ≡ truth x →
      Replies program choice own sp range_routine 0 128 (entered choice sp 4 (a ∷ b ∷ c ∷ d ∷ e ∷ g ∷ []) s) (if x then Err 201 else Ok (long_bytes (long_word a b)))
  by-test a b c d e g p q true h = fails-straight program choice own sp range_routine 0 128 (entered choice sp 4 (a ∷ b ∷ c ∷ d ∷ e ∷ g ∷ []) s) 201 _ placed
      (taken-so choice own 18 range_routine.body (entered choice sp 4 (a ∷ b ∷ c ∷ d ∷ e ∷ g ∷ []) s) (bit_or (less_word a b c d) (less_word e g a b)) _ refl (λ z. let n = sym h ∙ z in omega (arith, n)) refl)
      (record { memory = refl; flag = refl; input = refl; out = refl; err = refl }) (omega arith)
  by-test a b c d e g p q false h = answers-straight program choice own sp range_routine 0 128 (entered choice sp 4 (a ∷ b ∷ c ∷ d ∷ e ∷ g ∷ []) s) Onward _ _ placed
      (other-so choice own 18 range_routine.body (entered choice sp 4 (a ∷ b ∷ c ∷ d ∷ e ∷ g ∷ []) s) (bit_or (less_word a b c d) (less_word e g a b)) _ refl h refl)
      tt (long-bytes a b (long_word a b) p q refl)
      (record { memory = refl; flag = refl; input = refl; out = refl; err = refl }) (omega arith)

  test-is : (a b c d e g : ℕ) → a < 65536 → b < 65536 → c < 65536 → d < 65536 → e < 65536 → g < 65536 → bit_or (less_word a b c d) (less_word e g a b) ≡ truth (is_signed_less w32 (long_word a b) (long_word c d) || is_signed_less w32 (long_word e g) (long_word a b))
  test-is a b c d e g p q r t u v =
      ap (λ x. bit_or x (less_word e g a b)) (less-is a b c d p q r t)
      ∙ ap (bit_or (truth (is_signed_less w32 (long_word a b) (long_word c d)))) (less-is e g a b u v p q)
      ∙ either-bit (is_signed_less w32 (long_word a b) (long_word c d)) (is_signed_less w32 (long_word e g) (long_word a b))

  pub range-replies : (args : List ℕ) → AreWords 6 args → Replies program choice own sp range_routine 0 128 (entered choice sp 4 args s) (range_of args)
  range-replies = six-words (λ args. Replies program choice own sp range_routine 0 128 (entered choice sp 4 args s) (range_of args)) (λ a b c d e g p q r t u v.
      by-test a b c d e g p q (is_signed_less w32 (long_word a b) (long_word c d) || is_signed_less w32 (long_word e g) (long_word a b)) (test-is a b c d e g p q r t u v))

-- ---- whether it is in the range

denied : (x : Bool) → truth (truth x == 0) ≡ truth (not x)
denied true = refl
denied false = refl

module _ (program : FlatProgram) (choice : Choice) (own : Frame) (sp : ℕ) (s : State) (placed : IsPlaced choice own sp 18) where
  pub between-replies : (args : List ℕ) → AreWords 6 args → Replies program choice own sp between_routine 0 64 (entered choice sp 2 args s) (between_of args)
  between-replies = six-words (λ args. Replies program choice own sp between_routine 0 64 (entered choice sp 2 args s) (between_of args)) (λ a b c d e g p q r t u v.
      let out = is_signed_less w32 (long_word a b) (long_word c d) || is_signed_less w32 (long_word e g) (long_word a b) in
      answers-straight program choice own sp between_routine 0 64 _ Onward _ _ placed refl tt
      (ap (λ n. let r : Found (List ℕ) = Ok (word_bytes (truth (n == 0))) in r) (test-is program choice own sp s placed a b c d e g p q r t u v) ∙ ap (λ n. let r : Found (List ℕ) = Ok (word_bytes n) in r) (denied out))
      (record { memory = refl; flag = refl; input = refl; out = refl; err = refl }) (omega arith))
