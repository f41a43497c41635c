-- What follows for every scope and every part of type declarations.
use Rattle.std.specs.Prelude.{ℕ, List, Option}
use Rattle.scopes.specs.Environment.{Environment}
use Rattle.typing_rules.specs.Laws.{IsExact}
use Rattle.declaration_checker.specs.type_parts.Parts.{type_part}

-- A part leaves one scope at most; it leaves one exactly where no fault is in it.
abbrev pub AreExact : Type 0
AreExact = (unit : List ℕ) (next : Option ℕ) (g : Environment) → IsExact (type_part unit next g)
