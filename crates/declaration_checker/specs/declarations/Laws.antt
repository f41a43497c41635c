-- What follows for every part of declarations.
use Rattle.std.specs.Prelude.{ℕ, List, Option}
use Rattle.typing_rules.specs.Laws.{IsExact}
use Rattle.declaration_checker.specs.declared.declarations.homes.Home.{Home}
use Rattle.declaration_checker.specs.declarations.Progress.{Progress}
use Rattle.declaration_checker.specs.declarations.Parts.{part_declared}

-- A part leaves one scope, with the same variables, at most; it leaves one exactly where no fault is in it.
abbrev pub AreExact : Type 0
AreExact = (unit : List ℕ) (home : Home) (next : Option ℕ) (p : Progress) → IsExact (part_declared unit home next p)
