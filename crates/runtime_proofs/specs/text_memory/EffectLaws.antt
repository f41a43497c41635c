-- What the effects of the machine do in an activation as its routine sees it.
use Rattle.std.specs.Prelude.{◌≡◌, ℕ, ◌<◌, List, [], ◌∷◌, ◌++◌, length, Ok, None, ℤ}
use Rattle.flat_code.specs.declared.tree.Address.TheVariants.{Local}
use Rattle.flat_code.specs.Tree.{Expr, Number, Runtime, step_size, End}
use Rattle.flat_code.specs.Program.{FlatProgram, Choice}
use Rattle.flat_code.specs.Meaning.{Frame}
use Rattle.runtime_proofs.specs.routine_proofs.Activation.{Activation}
use Rattle.runtime_proofs.specs.routine_proofs.Straight.{seen_value, with_word_at, Onward}
use Rattle.runtime_proofs.specs.routine_proofs.Comes.{Does}
use Rattle.runtime_proofs.specs.strings_in_memory.Strings.{HasBytes, place}
use Rattle.runtime_proofs.specs.text_memory.Pieces.{print, fetch}

-- but for words and memory an activation is as it was
pub record SameRest (a b : Activation) : Type 0 where
  pub flag : a.flag ≡ b.flag
  pub input : a.input ≡ b.input
  pub out : a.out ≡ b.out
  pub err : a.err ≡ b.err

-- bytes that stand at a place outside of the stack are added to the output, and a turn is spent
abbrev pub Prints : FlatProgram → Choice → Frame → ℕ → ℕ → Type 0
Prints program choice own sp above =
    (a : Activation) (segment offset count : Expr) (s o : ℕ) (bytes : List ℕ) → seen_value choice own above a segment ≡ Ok s → seen_value choice own above a offset ≡ Ok o → seen_value choice own above a count ≡ Ok (length bytes) → HasBytes a.memory (place s o) 0 bytes →
    Does program choice own sp (print segment offset count End) 1 (step_size (Runtime 0 (Number 1 ∷ segment ∷ offset ∷ count ∷ []) None)) a Onward (record a { out = a.out ++ bytes })

-- the next byte of the input comes into a word
abbrev pub Fetches : FlatProgram → Choice → Frame → ℕ → ℕ → Type 0
Fetches program choice own sp above =
    (a b : Activation) (d : ℤ) (byte : ℕ) (rest : List ℕ) → a.input ≡ byte ∷ rest → byte < 256 → with_word_at choice own above a (Local d) byte ≡ Ok b → SameRest a b →
    Does program choice own sp (fetch d End) 1 1 a Onward (record b { input = rest })

-- and FFFFh where none is left
abbrev pub TellsEnd : FlatProgram → Choice → Frame → ℕ → ℕ → Type 0
TellsEnd program choice own sp above =
    (a b : Activation) (d : ℤ) → a.input ≡ [] → with_word_at choice own above a (Local d) 65535 ≡ Ok b → SameRest a b →
    Does program choice own sp (fetch d End) 1 1 a Onward (record b { input = [] })
