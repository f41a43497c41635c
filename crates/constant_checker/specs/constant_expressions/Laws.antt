-- What follows from the rules on constants, for every scope and every tree.
use Rattle.std.specs.Prelude.{◌≡◌, nat_le, ◌&&◌, ℕ, List}
use Rattle.type_layout.specs.declared.definitions.TypeId.{TypeId}
use Rattle.scopes.specs.Environment.{Environment}
use Rattle.common_values.specs.Sets.{contains}
use Rattle.typing_rules.specs.Laws.{IsExact}
use Rattle.constant_checker.specs.constant_expressions.Values.{set_constant, elements_of}
use Rattle.constant_checker.specs.constant_expressions.Constants.{judged}

-- An expression is one constant at most; it is one exactly where no fault is in it.
abbrev pub AreExact : Type 0
AreExact = (g : Environment) → IsExact (judged g)

-- A constant set has the elements that it is made of, as far as they lie in 0..255, and no other.
abbrev pub AreSetsOf : Type 0
AreSetsOf = (ty : TypeId) (elements : List ℕ) (e : ℕ) → contains (elements_of (set_constant ty elements).value) e ≡ (nat_le e 255 && contains elements e)
