-- Judgements of what stands in a list.
use Rattle.std.specs.Prelude.{List, ◌++◌, Result, Ok}
use Rattle.typing_rules.specs.declared.faults.Fault.{Fault}
use Rattle.typing_rules.specs.Judgements.{◌>>=◌}

-- what was made before, and what is made of the rest
abbrev pub behind : {A : Type 0} → List A → Result (List A) Fault → Result (List A) Fault
behind before read = read >>= λ rest. Ok (before ++ rest)
