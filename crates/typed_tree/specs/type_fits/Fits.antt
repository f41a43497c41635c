-- When a value of one type is a value of another, and what may be asked of a type.
use Rattle.std.specs.Prelude.{◌≡◌, ◌⊎◌, ℕ, zero, suc, ℤ, ◌<◌, ◌≤◌, ◌≤ℤ◌, pos, Bool, IsTrue, All, List, [], ◌∷◌, ◌++◌, length, map, Option, Some, None, get_or, slice_get}
use Rattle.std.specs.Option.{option_and_then}
use Rattle.type_layout.specs.declared.definitions.TypeId.{TypeId}
use Rattle.type_layout.specs.declared.definitions.Host.{Host}
use Rattle.type_layout.specs.declared.definitions.Host.TheVariants as host
use Rattle.type_layout.specs.declared.definitions.Field.{Field}
use Rattle.type_layout.specs.declared.definitions.Param.{Param}
use Rattle.type_layout.specs.declared.definitions.Header.{Header}
use Rattle.type_layout.specs.declared.definitions.TypeDef.{TypeDef}
use Rattle.type_layout.specs.declared.definitions.TypeDef.TheVariants as type
use Rattle.type_layout.specs.Layouts.{given_by, bounds_at}
use Rattle.type_layout.specs.Storage.{storage_of, holds}
use Rattle.typed_tree.specs.declared.expressions.Value.{Value}
use Rattle.typed_tree.specs.declared.expressions.Value.TheVariants.{Number, Chars, Nil, Elements}

abbrev pub definition : List TypeDef → TypeId → Option TypeDef
definition types ty = slice_get types ty.0

-- ---- ordinals

-- how the values of an ordinal type are stored
abbrev pub stored_as : Option TypeDef → Option Host
stored_as (Some (type.Ordinal host low high)) = Some (storage_of host low high)
stored_as _ = None

-- integers of all widths are of one family, and no other two hosts are
abbrev pub family : Host → Host
family host.ShortInt = host.LongInt
family host.Byte = host.LongInt
family host.Integer = host.LongInt
family host.Word = host.LongInt
family host.LongInt = host.LongInt
family host.Char = host.Char
family host.Boolean = host.Boolean
family host.Enumeration = host.Enumeration

abbrev pub family_of : Option TypeDef → Option Host
family_of (Some (type.Ordinal host low high)) = Some (family host)
family_of _ = None

abbrev pub IsSome : {A : Type 0} → Option A → Type 0
IsSome None = ⊥
IsSome (Some x) = Unit {0}

abbrev pub IsInteger : Option TypeDef → Type 0
IsInteger one = family_of one ≡ Some host.LongInt

abbrev pub IsBoolean : Option TypeDef → Type 0
IsBoolean one = stored_as one ≡ Some host.Boolean

abbrev pub IsChar : Option TypeDef → Type 0
IsChar one = stored_as one ≡ Some host.Char

-- ordinals of one family
pub record AreOfOneFamily (one other : Option TypeDef) : Type 0 where
  pub ordinal : IsSome (family_of one)
  pub same : family_of one ≡ family_of other

-- ordinals that are stored alike
pub record AreStoredAlike (one other : Option TypeDef) : Type 0 where
  pub ordinal : IsSome (stored_as one)
  pub same : stored_as one ≡ stored_as other

-- the types that operators on integers give
abbrev pub IsWide : Option Host → Type 0
IsWide (Some host.Integer) = Unit {0}
IsWide (Some host.Word) = Unit {0}
IsWide (Some host.LongInt) = Unit {0}
IsWide _ = ⊥

-- ---- the other types

abbrev pub IsString : Option TypeDef → Type 0
IsString (Some (type.Str max)) = Unit {0}
IsString _ = ⊥

abbrev pub IsSet : Option TypeDef → Type 0
IsSet (Some (type.SetOf base)) = Unit {0}
IsSet _ = ⊥

abbrev pub IsPointer : Option TypeDef → Type 0
IsPointer (Some (type.PointerTo target)) = Unit {0}
IsPointer _ = ⊥

abbrev pub IsObject : Option TypeDef → Type 0
IsObject (Some (type.ObjectOf parent dynamic fields methods)) = Unit {0}
IsObject _ = ⊥

abbrev pub IsArray : Option TypeDef → Type 0
IsArray (Some (type.ArrayOf index element)) = Unit {0}
IsArray _ = ⊥

abbrev pub IsRecord : Option TypeDef → Type 0
IsRecord (Some (type.RecordOf fields)) = Unit {0}
IsRecord _ = ⊥

-- arrays, records and objects, whose values are places
abbrev pub IsStructured : Option TypeDef → Type 0
IsStructured one = IsArray one ⊎ IsRecord one ⊎ IsObject one

-- what may be written; what may be read
abbrev pub IsReadable : Option TypeDef → Type 0
IsReadable one = IsInteger one ⊎ IsChar one ⊎ IsString one

abbrev pub IsWritable : Option TypeDef → Type 0
IsWritable one = IsReadable one ⊎ IsBoolean one

-- ---- lines of object types

abbrev pub parent_of : Option TypeDef → Option TypeId
parent_of (Some (type.ObjectOf parent dynamic fields methods)) = parent
parent_of _ = None

-- the type so many steps up the line of a type, which is itself at 0
abbrev pub ancestor : List TypeDef → ℕ → TypeId → Option TypeId
ancestor types zero ty = Some ty
ancestor types (suc steps) ty = option_and_then (ancestor types steps) (parent_of (definition types ty))

-- the second type is the first one or an ancestor of it
abbrev pub Descends : List TypeDef → TypeId → TypeId → Type 0
Descends types ty above = (steps : ℕ) × (ancestor types steps ty ≡ Some above)

abbrev pub types_in : List (List TypeId) → Option TypeId → List TypeId
types_in given None = []
types_in given (Some id) = get_or given id.0 []

-- the types of the fields of a type, those of its ancestor first
abbrev pub fields_by : List TypeDef → List (List TypeId) → TypeDef → List TypeId
fields_by types given (type.RecordOf fields) = map (λ (field : Field). field.ty) fields
fields_by types given (type.ObjectOf parent dynamic fields methods) = types_in given parent ++ map (λ (field : Field). field.ty) fields
fields_by types given _ = []

abbrev pub field_types_of : List TypeDef → List (List TypeId)
field_types_of types = given_by fields_by [] [] types

abbrev pub field_type : List TypeDef → TypeId → ℕ → Option TypeId
field_type types ty number = slice_get (types_in (field_types_of types) (Some ty)) number

-- ---- headers

abbrev pub shape_of : Param → Bool × TypeId
shape_of param = (param.by_ref, param.ty)

-- headers are the same whatever their parameters' names
pub record AreSameHeaders (one other : Header) : Type 0 where
  pub kind : one.kind ≡ other.kind
  pub params : map shape_of one.params ≡ map shape_of other.params
  pub result : one.result ≡ other.result

-- ---- values

-- a value of one definition, as it is, is one of the other
abbrev pub JoinBy : List TypeDef → (alike : Type 0) → Option TypeDef → Option TypeDef → Type 0
JoinBy types alike (Some (type.Ordinal host low high)) other = AreStoredAlike (Some (type.Ordinal host low high)) other
JoinBy types alike (Some (type.Str max)) other = IsString other
JoinBy types alike (Some (type.SetOf base)) other = IsSet other
JoinBy types alike (Some (type.PointerTo target)) (Some (type.PointerTo given)) = Descends types given target
JoinBy types alike (Some (type.Procedural header)) (Some (type.Procedural given)) = AreSameHeaders header given
JoinBy types alike (Some (type.ArrayOf index element)) other = alike
JoinBy types alike (Some (type.RecordOf fields)) other = alike
JoinBy types alike (Some (type.ObjectOf parent dynamic fields methods)) other = alike
JoinBy types alike _ _ = ⊥

-- A value of the second type, as it is, is stored where the first is: an ordinal that is stored alike, any string or
-- set, a pointer to the same type or to a descendant of it, a routine with the same header, an array or record of the same
-- type, an object of the type or of a descendant.
abbrev pub Joins : List TypeDef → TypeId → TypeId → Type 0
Joins types ty given = JoinBy types (Descends types given ty) (definition types ty) (definition types given)

-- elements rise, and lie within the bounds
abbrev pub AreElements : ℤ → ℤ → List ℕ → Type 0
AreElements least most [] = Unit {0}
AreElements least most (element ∷ elements) = (least ≤ℤ pos element) × (pos element ≤ℤ most) × AreElements (pos (suc element)) most elements

-- what the bytes of an ordinal may hold: a Boolean's byte may be any, and every one but 0 is true
abbrev pub held_as : Host → Host
held_as host.ShortInt = host.ShortInt
held_as host.Byte = host.Byte
held_as host.Integer = host.Integer
held_as host.Word = host.Word
held_as host.LongInt = host.LongInt
held_as host.Char = host.Char
held_as host.Boolean = host.Byte
held_as host.Enumeration = host.Enumeration

-- a number that the bytes of an ordinal low..high of a host hold, whether it lies within these bounds or not
abbrev pub IsStored : Host → ℤ → ℤ → ℤ → Type 0
IsStored host low high n = IsTrue (holds (held_as (storage_of host low high)) n n)

-- A constant of a type: a number that the type's bytes hold, a text of bytes that is no longer than its strings, nil, or
-- elements of its base.
abbrev pub IsValue : List TypeDef → Value → Option TypeDef → Type 0
IsValue types (Number n) (Some (type.Ordinal host low high)) = IsStored host low high n
IsValue types (Chars bytes) (Some (type.Str max)) = (length bytes ≤ max) × All (λ byte. byte < 256) bytes
IsValue types Nil (Some (type.PointerTo target)) = Unit {0}
IsValue types (Elements bytes) (Some (type.SetOf base)) = AreElements (bounds_at types base).0 (bounds_at types base).1 bytes
IsValue types _ _ = ⊥
