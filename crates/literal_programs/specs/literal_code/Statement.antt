-- What a program of literals says, and what a run of it shows.
use Rattle.std.specs.Prelude.{ℕ, List, [], ◌∷◌, ◌++◌, length, sum_by}
use Rattle.common_values.specs.behaviour.Seen.{Seen, Ended}

-- one thing to do, in order
pub data Statement : Type 0 where
  write : List ℕ → Statement
  halt : ℕ → Statement

-- what ends a line
abbrev pub line_end : Statement
line_end = write (13 ∷ 10 ∷ [])

-- ---- the statements run in order, up to the first halt or the end of the list

-- what they write
abbrev pub written : List Statement → List ℕ
written [] = []
written (write bytes ∷ rest) = bytes ++ written rest
written (halt code ∷ rest) = []

-- the code of the first halt; the end of the list has 0
abbrev pub code_of : List Statement → ℕ
code_of [] = 0
code_of (write bytes ∷ rest) = code_of rest
code_of (halt code ∷ rest) = code

-- nothing goes to the errors
abbrev pub shown : List Statement → Seen
shown statements = record { out = written statements; err = []; end = Ended (code_of statements) }

-- ---- how much there is to say

abbrev pub text_size : Statement → ℕ
text_size (write bytes) = length bytes
text_size (halt code) = 0

-- the bytes of all texts
abbrev pub size_of : List Statement → ℕ
size_of statements = sum_by text_size statements
