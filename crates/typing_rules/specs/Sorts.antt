-- What operators look at in an operand: which kind of value it is, and between which bounds an integer lies.
use Rattle.std.specs.Prelude.{◌+◌, ℤ, ◌&&◌, Bool, true, false, cond, List, [], Option, Some, None}
use Rattle.type_layout.specs.declared.definitions.TypeId.{TypeId}
use Rattle.type_layout.specs.declared.definitions.Host.{Host}
use Rattle.type_layout.specs.declared.definitions.Host.TheVariants as host
use Rattle.type_layout.specs.declared.definitions.TypeDef.{TypeDef}
use Rattle.type_layout.specs.declared.definitions.TypeDef.TheVariants as type
use Rattle.type_layout.specs.Storage.{least_of, greatest_of, storage_of, holds}
use Rattle.typed_tree.specs.declared.expressions.Value.{Value}
use Rattle.typed_tree.specs.declared.expressions.Value.TheVariants as value
use Rattle.typed_tree.specs.Expressions.{Expression, Elements, Const, SetOf, NoElements, type_of}
use Rattle.typed_tree.specs.type_fits.Fits.{definition, stored_as}
use Rattle.scopes.specs.Predeclared.{type_id}
use Rattle.typing_rules.specs.declared.sorts.Range.{Range}
use Rattle.typing_rules.specs.declared.sorts.SetBase.{SetBase}
use Rattle.typing_rules.specs.declared.sorts.SetBase.TheVariants as over
use Rattle.typing_rules.specs.declared.sorts.Sort.{Sort}
use Rattle.typing_rules.specs.declared.sorts.Sort.TheVariants.{Integer, Boolean, Char, Enumeration, Text, Set, Pointer, Nil, Other}

-- ---- the predeclared types

abbrev pub integer : TypeId
integer = type_id 2

abbrev pub word : TypeId
word = type_id 3

abbrev pub long_int : TypeId
long_int = type_id 4

abbrev pub char : TypeId
char = type_id 5

abbrev pub boolean : TypeId
boolean = type_id 6

abbrev pub string : TypeId
string = type_id 7

-- ---- ranges

abbrev pub range : ℤ → ℤ → Range
range low high = record { low = low; high = high }

-- all values that are stored as this host
abbrev pub range_of : Host → Range
range_of stored = range (least_of stored) (greatest_of stored)

-- a range of one value
abbrev pub only : ℤ → Range
only n = range n n

abbrev pub is_within : Host → Range → Bool
is_within stored r = holds stored r.low r.high

-- the first of Integer, Word and LongInt that holds a range
abbrev pub holding_type : Range → TypeId
holding_type r = cond (is_within host.Integer r) integer (cond (is_within host.Word r) word long_int)

abbrev pub are_within : Host → Range → Range → Bool
are_within stored r s = is_within stored r && is_within stored s

-- the first of Integer, Word and LongInt that holds both ranges
abbrev pub common_type : Range → Range → TypeId
common_type r s = cond (are_within host.Integer r s) integer (cond (are_within host.Word r s) word long_int)

-- the type that a constant number has where no other is wanted
abbrev pub number_type : ℤ → TypeId
number_type n = holding_type (only n)

-- ---- enumerations

-- what a set is over
abbrev pub set_base : Option TypeDef → Option TypeId
set_base (Some (type.SetOf base)) = Some base
set_base _ = None

abbrev pub is_enumeration : Option TypeDef → Bool
is_enumeration (Some (type.Ordinal host.Enumeration low high)) = true
is_enumeration _ = false

abbrev pub host_by : List TypeDef → TypeId → Option TypeId → TypeId
host_by types ty None = ty
host_by types ty (Some base) = cond (is_enumeration (definition types base)) base ty

-- The enumeration that the values of an ordinal type are of. In a table an enumeration and each subrange of it are followed by the
-- set over all of the enumeration.
abbrev pub host_in : List TypeDef → TypeId → TypeId
host_in types ty = host_by types ty (set_base (definition types (type_id (ty.0 + 1))))

-- ---- sorts

abbrev pub sort_stored : TypeId → Host → Sort
sort_stored ty host.Char = Char
sort_stored ty host.Boolean = Boolean
sort_stored ty host.Enumeration = Enumeration ty
sort_stored ty stored = Integer (range_of stored)

-- what the elements of a set are, by how they are stored
abbrev pub base_stored : TypeId → Option Host → SetBase
base_stored ty (Some host.Char) = over.Chars
base_stored ty (Some host.Boolean) = over.Booleans
base_stored ty (Some host.Enumeration) = over.Enumeration ty
base_stored ty (Some stored) = over.Integers
base_stored ty None = over.Any

-- what the elements of sets over a type are
abbrev pub base_of : List TypeDef → TypeId → SetBase
base_of types ty = base_stored (host_in types ty) (stored_as (definition types ty))

-- what the values of a type are
abbrev pub sort_by : List TypeDef → TypeId → Option TypeDef → Sort
sort_by types ty (Some (type.Ordinal host low high)) = sort_stored (host_in types ty) (storage_of host low high)
sort_by types ty (Some (type.Str max)) = Text
sort_by types ty (Some (type.SetOf base)) = Set (base_of types base)
sort_by types ty (Some (type.PointerTo target)) = Pointer
sort_by types ty _ = Other

abbrev pub sort_of_type : List TypeDef → TypeId → Sort
sort_of_type types ty = sort_by types ty (definition types ty)

-- an integer that is known lies at itself
abbrev pub known : ℤ → Sort → Sort
known n (Integer r) = Integer (only n)
known n sort = sort

abbrev pub sort_of_constant : List TypeDef → TypeId → Value → Sort
sort_of_constant types ty (value.Number n) = known n (sort_of_type types ty)
sort_of_constant types ty value.Nil = Nil
sort_of_constant types ty (value.Elements []) = Set over.Any
sort_of_constant types ty _ = sort_of_type types ty

abbrev pub sort_of_result : List TypeDef → Option TypeId → Sort
sort_of_result types None = Other
sort_of_result types (Some ty) = sort_of_type types ty

-- a set that lists nothing is one over any base
abbrev pub sort_of_set : Elements → Sort → Sort
sort_of_set NoElements s = Set over.Any
sort_of_set _ s = s

-- A constant lies at its value; any other operand anywhere in the predefined type that stores it. The empty set and nil are of
-- any set type, and of any pointer type.
abbrev pub sort_of : List TypeDef → Expression → Sort
sort_of types (Const ty v) = sort_of_constant types ty v
sort_of types (SetOf ty listed) = sort_of_set listed (sort_of_type types ty)
sort_of types e = sort_of_result types (type_of e)
