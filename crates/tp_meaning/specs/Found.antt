-- What is found by looking, or why nothing is.
use Rattle.std.specs.Prelude.{ℕ, Option, Some, None, Result, Ok, Err}

-- an act that the language leaves undefined; a runtime error; or a step that no typed program asks for
pub data Trap : Type 0 where
  Act : (number : ℕ) → Trap
  Error : (code : ℕ) → Trap
  IllTyped : Trap

abbrev pub Found : Type 0 → Type 0
Found A = Result A Trap

infixl 10 ◌>>=◌
abbrev pub ◌>>=◌ : {A B : Type 0} → Result A Trap → (A → Result B Trap) → Result B Trap
(Ok x) >>= f = f x
(Err trap) >>= f = Err trap

-- what a typed program always finds
abbrev pub known : {A : Type 0} → Option A → Found A
known None = Err IllTyped
known (Some x) = Ok x
