-- What follows for every scope and every type.
use Rattle.scopes.specs.Environment.{Environment}
use Rattle.typing_rules.specs.Laws.{IsExact}
use Rattle.declaration_checker.specs.type_denoters.Denoters.{Ground, judged}

-- A type has one id at most, with one scope behind it; it has one exactly where no fault is in it.
abbrev pub AreExact : Type 0
AreExact = (on : Ground) (g : Environment) → IsExact (judged on g)
