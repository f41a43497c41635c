-- What follows from the rules of statements, for every scope and every tree.
use Rattle.scopes.specs.Environment.{Environment}
use Rattle.typing_rules.specs.Laws.{IsExact}
use Rattle.tp_check_stmt.specs.Typed.{stated}

-- A statement has one node at most; it has one exactly where no fault is in it.
abbrev pub AreExact : Type 0
AreExact = (g : Environment) → IsExact (stated g)
