-- Replies of routines whose body is straight, and arguments by their number.
use Rattle.std.proofs.Common.{◌≡◌, ℕ, zero, suc, ◌+◌, ◌≤◌, ◌<◌, List, [], ◌∷◌, Ok, refl, ap, ◌∙◌, arith}
use Rattle.flat_code.specs.Tree.{Expr, Number, Code, End, Do, If, Loop}
use Rattle.flat_code.specs.Memory.{Found, ◌>>=◌}
use Rattle.flat_code.specs.Program.{Routine, FlatProgram, Choice}
use Rattle.flat_code.specs.Meaning.{Frame}
use Rattle.flat_code.specs.Gives.{AreWords}
use Rattle.runtime_proofs.specs.routine_proofs.Activation.{Activation, IsPlaced}
use Rattle.runtime_proofs.specs.routine_proofs.Straight.{Exit, Failing, Came, seen_value, continued, chosen_way, straight, code_size}
use Rattle.runtime_proofs.specs.routine_proofs.Entry.{result_seen}
use Rattle.runtime_proofs.specs.routine_proofs.Specifications.{EndsRoutine, KeepsOuter, Answers, Fails}
use Rattle.runtime_proofs.proofs.routine_proofs.Steps.{straight-comes}
use Rattle.runtime_proofs.proofs.routine_proofs.Rules.{weaker}

pub answers-straight : (program : FlatProgram) (choice : Choice) (own : Frame) (sp : ℕ) (r : Routine) (turns work : ℕ) (a : Activation) (exit : Exit) (b : Activation) (bytes : List ℕ) → IsPlaced choice own sp (r.arguments + 6) → straight choice own (r.arguments + 6) r.body a ≡ Ok (record { exit = exit; there = b }) →
    EndsRoutine exit → result_seen (r.arguments + 6) b r.result ≡ Ok bytes → KeepsOuter a b → code_size r.body ≤ work → Answers program choice own sp r turns work a bytes
answers-straight program choice own sp r turns work a exit b bytes placed e ends given keeps small = record {
  exit = exit;
  ends = ends;
  there = b;
  does = λ s seen. weaker program choice own sp r.body 0 (code_size r.body) turns work exit b s (omega arith) small (straight-comes program choice own sp (r.arguments + 6) placed r.body a (record { exit = exit; there = b }) e s seen);
  given = given;
  keeps = keeps;
}

pub fails-straight : (program : FlatProgram) (choice : Choice) (own : Frame) (sp : ℕ) (r : Routine) (turns work : ℕ) (a : Activation) (code : ℕ) (b : Activation) → IsPlaced choice own sp (r.arguments + 6) → straight choice own (r.arguments + 6) r.body a ≡ Ok (record { exit = Failing code; there = b }) →
    KeepsOuter a b → code_size r.body ≤ work → Fails program choice own sp r turns work a code
fails-straight program choice own sp r turns work a code b placed e keeps small = record {
  there = b;
  does = λ s seen. weaker program choice own sp r.body 0 (code_size r.body) turns work (Failing code) b s (omega arith) small (straight-comes program choice own sp (r.arguments + 6) placed r.body a (record { exit = Failing code; there = b }) e s seen);
  keeps = keeps;
}

-- ---- so many words

pub one-word : (P : List ℕ → Type 0) → ((a : ℕ) → a < 65536 → P (a ∷ [])) → (args : List ℕ) → AreWords 1 args → P args
one-word P f [] h = absurd h
one-word P f (a ∷ []) h = f a h.0
one-word P f (a ∷ b ∷ rest) h = absurd h.1

-- the first word, and the others
pub first-word : (n : ℕ) (P : List ℕ → Type 0) → ((a : ℕ) (rest : List ℕ) → a < 65536 → AreWords n rest → P (a ∷ rest)) → (args : List ℕ) → AreWords (suc n) args → P args
first-word n P f [] h = absurd h
first-word n P f (a ∷ rest) h = f a rest h.0 h.1

pub two-words : (P : List ℕ → Type 0) → ((a b : ℕ) → a < 65536 → b < 65536 → P (a ∷ b ∷ [])) → (args : List ℕ) → AreWords 2 args → P args
two-words P f args h = first-word 1 P (λ a rest p r. one-word (λ l. P (a ∷ l)) (λ b q. f a b p q) rest r) args h

pub three-words : (P : List ℕ → Type 0) → ((a b c : ℕ) → a < 65536 → b < 65536 → c < 65536 → P (a ∷ b ∷ c ∷ [])) → (args : List ℕ) → AreWords 3 args → P args
three-words P f args h = first-word 2 P (λ a rest p r. two-words (λ l. P (a ∷ l)) (λ b c q s. f a b c p q s) rest r) args h

pub four-words : (P : List ℕ → Type 0) → ((a b c d : ℕ) → a < 65536 → b < 65536 → c < 65536 → d < 65536 → P (a ∷ b ∷ c ∷ d ∷ [])) → (args : List ℕ) → AreWords 4 args → P args
four-words P f args h = first-word 3 P (λ a rest p r. three-words (λ l. P (a ∷ l)) (λ b c d q s t. f a b c d p q s t) rest r) args h

pub six-words : (P : List ℕ → Type 0) → ((a b c d e g : ℕ) → a < 65536 → b < 65536 → c < 65536 → d < 65536 → e < 65536 → g < 65536 → P (a ∷ b ∷ c ∷ d ∷ e ∷ g ∷ [])) → (args : List ℕ) → AreWords 6 args → P args
six-words P f args h = first-word 5 P (λ a rest p r. first-word 4 (λ l. P (a ∷ l)) (λ b rest q r. four-words (λ l. P (a ∷ b ∷ l)) (λ c d e g s t u v. f a b c d e g p q s t u v) rest r) rest r) args h

-- ---- tests in straight code, by what they come to

-- the parts of a test that stands first
abbrev pub test_of : Code → Expr
test_of (If test taken other next) = test
test_of code = Number 0

abbrev pub taken_of : Code → Code
taken_of (If test taken other next) = taken
taken_of code = End

abbrev pub other_of : Code → Code
other_of (If test taken other next) = other
other_of code = End

-- what follows a step or a test that stands first
abbrev pub next_of : Code → Code
next_of End = End
next_of (Do step next) = next
next_of (If test taken other next) = next
next_of (Loop body next) = next

module _ (choice : Choice) (own : Frame) (above : ℕ) (code : Code) (a : Activation) where
  abbrev whole : Code
  whole = If (test_of code) (taken_of code) (other_of code) (next_of code)

  abbrev goes_on : Came → Found Came
  goes_on c = continued c.exit c.there (straight choice own above (next_of code))

  by-value : (v : ℕ) → seen_value choice own above a (test_of code) ≡ Ok v → straight choice own above whole a ≡ (chosen_way v (straight choice own above (taken_of code) a) (straight choice own above (other_of code) a) >>= goes_on)
  by-value v e = ap (λ (found : Found ℕ). found >>= λ v. chosen_way v (straight choice own above (taken_of code) a) (straight choice own above (other_of code) a) >>= goes_on) e

  pub taken-so : (v : ℕ) (came : Came) → seen_value choice own above a (test_of code) ≡ Ok v → (v ≡ 0 → ⊥) → (straight choice own above (taken_of code) a >>= goes_on) ≡ Ok came → straight choice own above whole a ≡ Ok came
  taken-so zero came e ne g = absurd (ne refl)
  taken-so (suc n) came e ne g = by-value (suc n) e ∙ g

  pub other-so : (v : ℕ) (came : Came) → seen_value choice own above a (test_of code) ≡ Ok v → v ≡ 0 → (straight choice own above (other_of code) a >>= goes_on) ≡ Ok came → straight choice own above whole a ≡ Ok came
  other-so zero came e none g = by-value zero e ∙ g
  other-so (suc n) came e none g = absurd (omega (arith, none))
