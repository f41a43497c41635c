-- What standard functions ask of their arguments, and the types of their results.
use Rattle.std.specs.Prelude.{ℕ, ◌==◌, cond, List, [], ◌∷◌, Option, Some, None}
use Rattle.typed_tree.specs.Standard as routine
use Rattle.scopes.specs.Predeclared.{type_id}
use Rattle.typing_rules.specs.Sorts.{integer, char, boolean, string}
use Rattle.call_rules.specs.declared.standard_rules.signatures.Want.TheVariants.{Integer, Short, Ordinal, Char, Text}
use Rattle.call_rules.specs.declared.standard_rules.signatures.Shape.{Shape}
use Rattle.call_rules.specs.declared.standard_rules.signatures.Shape.TheVariants.{Nothing, One, Pair, Triple, Texts}
use Rattle.call_rules.specs.declared.standard_rules.signatures.Outcome.{Outcome}
use Rattle.call_rules.specs.declared.standard_rules.signatures.Outcome.TheVariants.{Held, Stored, Is}
use Rattle.call_rules.specs.declared.standard_rules.signatures.Signature.{Signature}

-- the standard functions by their numbers; SizeOf has a judgement of its own, New as a function is not built yet
unfoldable pub signatures : List (ℕ × Shape × Outcome)
signatures =
    (routine.abs, One Integer, Held) ∷ (routine.sqr, One Integer, Held) ∷
    (routine.odd, One Integer, Is boolean) ∷ (routine.ord, One Ordinal, Held) ∷
    (routine.chr, One Integer, Is char) ∷
    (routine.succ, One Ordinal, Stored) ∷ (routine.pred, One Ordinal, Stored) ∷
    (routine.hi, One Integer, Is (type_id 1)) ∷ (routine.lo, One Integer, Is (type_id 1)) ∷
    (routine.swap, One Short, Held) ∷
    (routine.up_case, One Char, Is char) ∷ (routine.length, One Text, Is integer) ∷
    (routine.copy, Triple Text Integer Integer, Is string) ∷ (routine.concat, Texts, Is string) ∷
    (routine.pos, Pair Text Text, Is (type_id 1)) ∷
    (routine.eof, Nothing, Is boolean) ∷ (routine.eoln, Nothing, Is boolean) ∷
    []

-- what stands in the first row with a number
abbrev pub signature_in : List (ℕ × Shape × Outcome) → ℕ → Option Signature
signature_in [] number = None
signature_in (one ∷ rows) number = cond (one.0 == number) (Some (record { shape = one.1; outcome = one.2 })) (signature_in rows number)

-- nothing of a procedure
abbrev pub signature_of : ℕ → Option Signature
signature_of number = signature_in signatures number
