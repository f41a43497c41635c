-- The type of a set by what its elements are.
use Rattle.std.specs.Prelude.{ℕ, ◌+◌, ◌==◌, Bool, true, false, cond, List, [], ◌∷◌, Option, Some, None}
use Rattle.type_layout.specs.declared.definitions.TypeId.{TypeId}
use Rattle.type_layout.specs.declared.definitions.TypeDef.{TypeDef}
use Rattle.type_layout.specs.declared.definitions.TypeDef.TheVariants as type
use Rattle.scopes.specs.Predeclared.{type_id}
use Rattle.typing_rules.specs.declared.sorts.Sort.{Sort}
use Rattle.typing_rules.specs.declared.sorts.Sort.TheVariants as sort

-- the predeclared sets of 0..255, of Char and of Boolean
abbrev pub set_of_byte : TypeId
set_of_byte = type_id 8

abbrev pub set_of_char : TypeId
set_of_char = type_id 9

abbrev pub set_of_boolean : TypeId
set_of_boolean = type_id 10

abbrev pub is_set_of : TypeId → TypeDef → Bool
is_set_of ty (type.SetOf base) = base.0 == ty.0
is_set_of ty _ = false

-- the first set over a type, of those that are numbered from a number on
abbrev pub set_in : TypeId → ℕ → List TypeDef → Option TypeId
set_in ty number [] = None
set_in ty number (one ∷ types) = cond (is_set_of ty one) (Some (type_id number)) (set_in ty (number + 1) types)

-- The sets over all of a host: of integers those of 0..255, of an enumeration the first one that the table has.
abbrev pub set_over : List TypeDef → Sort → Option TypeId
set_over types (sort.Integer r) = Some set_of_byte
set_over types sort.Char = Some set_of_char
set_over types sort.Boolean = Some set_of_boolean
set_over types (sort.Enumeration ty) = set_in ty 0 types
set_over types _ = None
