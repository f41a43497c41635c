-- A loop that counts a variable down, as an example of what is typed.
use Rattle.std.specs.Prelude.{ℤ, pos, negsuc, false, true, [], ◌∷◌}
use Rattle.type_layout.specs.declared.definitions.TypeId.{TypeId}
use Rattle.type_layout.specs.declared.definitions.TypeDef.TheVariants as type
use Rattle.type_layout.specs.declared.definitions.Host.TheVariants as host
use Rattle.typed_tree.specs.declared.expressions.Variable.{Variable}
use Rattle.typed_tree.specs.declared.expressions.Value.TheVariants.{Number}
use Rattle.typed_tree.specs.declared.expressions.BinaryOp.TheVariants.{Subtract, Greater}
use Rattle.typed_tree.specs.Expressions.{Expression, Const, Load, Binary, Var}
use Rattle.typed_tree.specs.Statements.{Statement, While, Assign}
use Rattle.well_formed.specs.Scopes.{Scope}
use Rattle.well_formed.specs.Typed.{IsTyped}
use Rattle.well_formed.specs.WellFormed.{IsStatement}

abbrev pub integer : TypeId
integer = record { 0 = 0 }

abbrev pub boolean : TypeId
boolean = record { 0 = 1 }

-- Integer and Boolean, and a routine with a variable of the first
abbrev pub counting : Scope
counting = record {
  types = type.Ordinal host.Integer (negsuc 32767) (pos 32767) ∷ type.Ordinal host.Boolean (pos 0) (pos 1) ∷ [];
  others = record { units = []; globals = []; routines = [] };
  globals = [];
  routines = [];
  around = [];
  levels = (integer ∷ []) ∷ [];
  withs = [];
}

abbrev pub counter : Variable
counter = record { unit = 0; level = 1; number = 0 }

abbrev pub number : ℤ → Expression
number n = Const integer (Number n)

-- while n > 0 do n := n - 1
abbrev pub countdown : Statement
countdown =
    While (Binary boolean Greater (Load integer (Var counter)) (number (pos 0)) false)
    (Assign (Var counter) (Binary integer Subtract (Load integer (Var counter)) (number (pos 1)) false))

-- The loop is typed; what the variable holds is no Boolean; a number past the type is no constant of it; and the
-- difference of two Integers is none that leaves out its right side.
pub record IsExample : Type 0 where
  pub typed : IsStatement counting countdown
  pub other_type : IsTyped counting (Load boolean (Var counter)) → ⊥
  pub too_great : IsTyped counting (number (pos 32768)) → ⊥
  pub early : IsTyped counting (Binary integer Subtract (number (pos 1)) (number (pos 1)) true) → ⊥
