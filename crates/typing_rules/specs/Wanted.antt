-- Values where a type is wanted.
use Rattle.std.specs.Prelude.{ℤ, Bool, cond, unsigned_abs, List, [], ◌∷◌, Option, Some, None}
use denote.Enum.Bare.{sameb}
use Rattle.type_layout.specs.contracts.definitions.Host.{the_type}
use Rattle.type_layout.specs.declared.definitions.TypeId.{TypeId}
use Rattle.type_layout.specs.declared.definitions.Host.{Host}
use Rattle.type_layout.specs.declared.definitions.Host.TheVariants as host
use Rattle.type_layout.specs.declared.definitions.TypeDef.{TypeDef}
use Rattle.type_layout.specs.declared.definitions.TypeDef.TheVariants as type
use Rattle.type_layout.specs.Storage.{storage_of, holds}
use Rattle.typed_tree.specs.declared.expressions.Value.TheVariants as value
use Rattle.typed_tree.specs.Expressions.{Expression, Const, Convert, type_of}
use Rattle.typed_tree.specs.type_fits.Fits.{definition, stored_as}
use Rattle.scopes.specs.Predeclared.{type_id}
use Rattle.typing_rules.specs.Sorts.{string, number_type, sort_of_type}
use Rattle.typing_rules.specs.declared.sorts.Sort.{Sort}
use Rattle.typing_rules.specs.declared.sorts.Sort.TheVariants.{Integer}

abbrev pub same_host : Host → Host → Bool
same_host = sameb the_type

-- the predefined type of a host; of an enumeration, the type itself
abbrev pub predefined : Host → TypeId → TypeId
predefined host.ShortInt ty = type_id 0
predefined host.Byte ty = type_id 1
predefined host.Integer ty = type_id 2
predefined host.Word ty = type_id 3
predefined host.LongInt ty = type_id 4
predefined host.Char ty = type_id 5
predefined host.Boolean ty = type_id 6
predefined host.Enumeration ty = ty

abbrev pub stored_of_type : List TypeDef → Option TypeId → Option Host
stored_of_type types None = None
stored_of_type types (Some ty) = stored_as (definition types ty)

-- how the value of an expression is stored, if it is an ordinal
abbrev pub stored_of : List TypeDef → Expression → Option Host
stored_of types e = stored_of_type types (type_of e)

-- an ordinal by the low bytes of another predefined type, where it is stored in another
abbrev pub converted : TypeId → Host → Option Host → Expression → Expression
converted ty wanted None e = e
converted ty wanted (Some stored) e = cond (same_host stored wanted) e (Convert (predefined wanted ty) e)

abbrev pub as_ordinal : TypeId → Host → Option Host → Expression → Expression
as_ordinal ty wanted stored (Const own (value.Number n)) = cond (holds wanted n n) (Const ty (value.Number n)) (converted ty wanted stored (Const own (value.Number n)))
as_ordinal ty wanted stored e = converted ty wanted stored e

abbrev pub as_text : Option Host → Expression → Expression
as_text (Some host.Char) (Const own (value.Number n)) = cond (holds host.Char n n) (Const string (value.Chars (unsigned_abs n ∷ []))) (Convert string (Const own (value.Number n)))
as_text (Some host.Char) e = Convert string e
as_text stored e = e

-- nil has the pointer type that is wanted
abbrev pub as_pointer : TypeId → Expression → Expression
as_pointer ty (Const own value.Nil) = Const ty value.Nil
as_pointer ty e = e

abbrev pub wanted_by : TypeId → Option TypeDef → Option Host → Expression → Expression
wanted_by ty (Some (type.Ordinal host low high)) stored e = as_ordinal ty (storage_of host low high) stored e
wanted_by ty (Some (type.Str max)) stored e = as_text stored e
wanted_by ty (Some (type.PointerTo target)) stored e = as_pointer ty e
wanted_by ty _ stored e = e

-- A value where a type is wanted. A constant that the type's storage holds, and a constant Char where a string is wanted,
-- is a constant of it; any other ordinal that is stored otherwise, and a Char as a string, is converted. nil takes a pointer type.
unfoldable pub wanted : List TypeDef → TypeId → Expression → Expression
wanted types ty e = wanted_by ty (definition types ty) (stored_of types e) e

abbrev pub wanted_in : List TypeDef → Option TypeId → Expression → Expression
wanted_in types None e = e
wanted_in types (Some ty) e = wanted types ty e

-- ---- constants by themselves

-- nil where no type is wanted, under the greatest id, which no type has
abbrev pub untyped : TypeId
untyped = type_id 4294967295

abbrev pub nil : Expression
nil = Const untyped value.Nil

-- the type of a constant number of a type: of an integer the first of Integer, Word and LongInt that holds it
abbrev pub constant_type : TypeId → ℤ → Sort → TypeId
constant_type ty n (Integer r) = number_type n
constant_type ty n sort = ty

-- a constant number, where no type is wanted
abbrev pub constant : List TypeDef → TypeId → ℤ → Expression
constant types ty n = Const (constant_type ty n (sort_of_type types ty)) (value.Number n)
