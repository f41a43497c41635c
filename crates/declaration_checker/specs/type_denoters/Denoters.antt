-- When a type is typed, its id in the table of types and what is known behind it, and when a fault is in it.
use Rattle.std.specs.Prelude.{◌≡◌, ℕ, ◌+◌, ◌≤◌, ℤ, pos, ◌-ℤ◌, ◌≤ℤ◌, int_le, unsigned_abs, nat_le, Bool, true, false, not, ◌&&◌, List, [], ◌∷◌, ◌++◌, Option, Some, None, length, position, option_map, slice_get}
use Rattle.std.specs.List.{list_any}
use Rattle.type_layout.specs.declared.definitions.TypeId.{TypeId}
use Rattle.type_layout.specs.declared.definitions.Field.{Field}
use Rattle.type_layout.specs.declared.definitions.Kind.TheVariants as kind
use Rattle.type_layout.specs.declared.definitions.Host.{Host}
use Rattle.type_layout.specs.declared.definitions.Host.TheVariants as host
use Rattle.type_layout.specs.declared.definitions.TypeDef.TheVariants.{Ordinal, Str, SetOf, ArrayOf, RecordOf, PointerTo, Procedural}
use Rattle.type_layout.specs.declared.texts.Place.{Place}
use Rattle.type_layout.specs.Storage.{integer_storage}
use Rattle.type_layout.specs.Words.{same_bytes}
use Rattle.typed_tree.specs.declared.expressions.Value.TheVariants as value
use Rattle.syntax_tree.specs.declared.identifier.Identifier.{Identifier}
use Rattle.scopes.specs.declared.entries.Entry.TheVariants as entry
use Rattle.scopes.specs.Predeclared.{type_id}
use Rattle.scopes.specs.Environment.{Environment}
use Rattle.typing_rules.specs.declared.faults.Rule.TheVariants as rules
use Rattle.typing_rules.specs.declared.sorts.Sort.{Sort}
use Rattle.typing_rules.specs.declared.sorts.Sort.TheVariants as sort
use Rattle.typing_rules.specs.Faults.{broken}
use Rattle.typing_rules.specs.Judgements.{Judgement, makes, refuses, rule, part, parts}
use Rattle.typing_rules.specs.Selectors.{asking}
use Rattle.typing_rules.specs.Sorts as sorts
use Rattle.typing_rules.specs.Sorts.{sort_of_type}
use Rattle.typing_rules.specs.Plans.{IsInteger, is_integer, AreOfOneHost, are_of_one_host}
use Rattle.typing_rules.specs.Wanted.{stored_of_type}
use Rattle.constant_checker.specs.declared.constant_expressions.constants.Constant.{Constant}
use Rattle.constant_checker.specs.constant_expressions.Constants as constants
use Rattle.constant_checker.specs.constant_expressions.Values.{number_of}
use Rattle.declaration_checker.specs.headers.Names.{type_named}
use Rattle.declaration_checker.specs.headers.Headers.{procedure_header, function_header}
use Rattle.declaration_checker.specs.declared.type_denoters.promises.Promise.{Promise}
use Rattle.declaration_checker.specs.type_denoters.Trees.{Denoter, Denoters, Fields, named, range, enumeration, pointer, string, sized, procedure, function, object, array, record_of, set, no_denoters, and_denoter, no_fields, and_fields}
use Rattle.syntax_tree.specs.expression_tree.Places.{first_place}
use Rattle.declaration_checker.specs.type_denoters.Additions.{Denoted, denoted, added, entered}

-- ---- subranges

-- The host of a subrange: of integers the first of ShortInt, Byte, Integer, Word and LongInt that holds its bounds.
abbrev pub host_of : Sort → ℤ → ℤ → Host
host_of sort.Char low high = host.Char
host_of sort.Boolean low high = host.Boolean
host_of (sort.Enumeration ty) low high = host.Enumeration
host_of _ low high = integer_storage low high

-- what sets whose elements are of a sort are over: all of the host, of integers 0..255
abbrev pub set_base_of : Sort → TypeId
set_base_of sort.Char = sorts.char
set_base_of sort.Boolean = sorts.boolean
set_base_of (sort.Enumeration ty) = ty
set_base_of _ = type_id 1

-- a set, of which nothing but its place in the table is asked
abbrev pub with_set : List ℕ → Environment → Place → TypeId → Judgement Environment
with_set unit g place base = part (added unit g place rules.SetBase (SetOf base)) (λ over. makes over.scope)

-- a type with the set behind it
abbrev pub followed : List ℕ → Place → TypeId → Denoted → Judgement Denoted
followed unit place base one = part (with_set unit one.scope place base) (λ h. makes (denoted one.ty h))

-- The set that set constructors of its values have follows a subrange in the table, as one follows an enumeration: by it the
-- enumeration is known that a subrange is of.
abbrev pub range_by : List ℕ → Environment → Place → Sort → Sort → ℤ → ℤ → Judgement Denoted
range_by unit g place s t low high =
    asking (rule (broken place rules.Constant) (are_of_one_host s t) (AreOfOneHost s t) tt)
    (part (added unit g place rules.Constant (Ordinal (host_of s low high) low high)) (λ one. followed unit place (set_base_of s) one))

-- bounds of one host, of which the first is not above the last
unfoldable pub range_of : List ℕ → Environment → Place → Constant → Constant → Judgement Denoted
range_of unit g place low high =
    range_by unit g place (sort_of_type g.types.types low.ty) (sort_of_type g.types.types high.ty) (number_of low.value) (number_of high.value)

-- ---- enumerations

-- names of the values from a number on
abbrev pub values_entered : Environment → TypeId → ℕ → List Identifier → Judgement Environment
values_entered g ty number [] = makes g
values_entered g ty number (one ∷ rest) =
    part (entered g one.position.place one.name (entry.Const ty (value.Number (pos number)))) (λ h. values_entered h ty (number + 1) rest)

abbrev pub enumerated : List ℕ → Environment → Place → ℤ → Judgement Denoted
enumerated unit g place high = added unit g place rules.Constant (Ordinal host.Enumeration (pos 0) high)

-- At most 256 values, whose names are constants of the type. The set over it follows in the table.
unfoldable pub enumeration_of : List ℕ → Environment → Place → List Identifier → Judgement Denoted
enumeration_of unit g place names =
    asking (rule (broken place rules.Constant) (nat_le (length names) 256) (length names ≤ 256) tt)
    (part (enumerated unit g place (pos (length names) -ℤ pos 1)) (λ one.
    part (with_set unit one.scope place one.ty) (λ h.
    part (values_entered h one.ty 0 names) (λ k. makes (denoted one.ty k)))))

-- ---- pointers

-- The unit that declares types, and the names of the same part of type declarations with the ids that their types have or will
-- have.
pub record Ground : Type 0 where
  pub unit : List ℕ
  pub names : List Promise

abbrev pub ground : List ℕ → List Promise → Ground
ground unit names = record { unit = unit; names = names }

abbrev pub promise_at : List Promise → Option ℕ → Option TypeId
promise_at names None = None
promise_at names (Some place) = option_map (λ (one : Promise). one.ty) (slice_get names place)

abbrev pub promise_of : List Promise → List ℕ → Option TypeId
promise_of names name = promise_at names (position (λ (one : Promise). same_bytes name one.name) names)

abbrev pub promised : Option TypeId → Judgement TypeId → Judgement TypeId
promised (Some ty) k = makes ty
promised None k = k

-- the target is of the same part where that declares it, also further on, else what is visible
abbrev pub target_of : List Promise → Environment → Identifier → Judgement TypeId
target_of names g one = promised (promise_of names one.name) (type_named g one.position.place one.name)

abbrev pub pointer_to : Ground → Environment → Identifier → Judgement Denoted
pointer_to on g one = part (target_of on.names g one) (λ ty. added on.unit g one.position.place rules.Stands (PointerTo ty))

-- ---- strings

abbrev pub IsSize : Sort → ℤ → Type 0
IsSize s n = IsInteger s × ((pos 1 ≤ℤ n) × (n ≤ℤ pos 255))

abbrev pub is_size : Sort → ℤ → Bool
is_size s n = is_integer s && (int_le (pos 1) n && int_le n (pos 255))

-- an integer in 1..255
unfoldable pub string_of : List ℕ → Environment → Place → Constant → Judgement Denoted
string_of unit g place size =
    asking (rule (broken place rules.StringSize) (is_size (sort_of_type g.types.types size.ty) (number_of size.value)) (IsSize (sort_of_type g.types.types size.ty) (number_of size.value)) tt)
    (added unit g place rules.StringSize (Str (unsigned_abs (number_of size.value))))

-- ---- arrays

-- an ordinal that is not stored as a LongInt
abbrev pub IsIndex : Option Host → Type 0
IsIndex None = ⊥
IsIndex (Some host.LongInt) = ⊥
IsIndex (Some _) = Unit {0}

abbrev pub is_index : Option Host → Bool
is_index None = false
is_index (Some host.LongInt) = false
is_index (Some _) = true

unfoldable pub array_of : List ℕ → Environment → Place → TypeId → TypeId → Judgement Denoted
array_of unit g place index element =
    asking (rule (broken place rules.IndexType) (is_index (stored_of_type g.types.types (Some index))) (IsIndex (stored_of_type g.types.types (Some index))) tt)
    (added unit g place rules.IndexType (ArrayOf index element))

-- several index types are arrays of arrays; the last index comes first here
abbrev pub arrays_of : List ℕ → Place → List TypeId → Denoted → Judgement Denoted
arrays_of unit place [] element = makes element
arrays_of unit place (index ∷ rest) element = part (array_of unit element.scope place index element.ty) (λ one. arrays_of unit place rest one)

-- ---- records

abbrev pub has_field : List Field → List ℕ → Bool
has_field fields name = list_any (λ (field : Field). same_bytes name field.name) fields

abbrev pub is_new : List Field → Identifier → Judgement (Unit {0})
is_new fields one = rule (broken one.position.place rules.Duplicate) (not (has_field fields one.name)) (has_field fields one.name ≡ false) tt

abbrev pub field : TypeId → List ℕ → Field
field ty name = record { name = name; ty = ty }

-- fields of one type behind those before them, none of which has the name of another
abbrev pub names_onto : List Field → TypeId → List Identifier → Judgement (List Field)
names_onto fields ty [] = makes fields
names_onto fields ty (one ∷ rest) = asking (is_new fields one) (names_onto (fields ++ field ty one.name ∷ []) ty rest)

-- fields with what is known where their types are in the table
pub record Listed : Type 0 where
  pub fields : List Field
  pub scope : Environment

abbrev pub listed : List Field → Environment → Listed
listed fields g = record { fields = fields; scope = g }

-- index types with what is known where they are in the table; the last comes first
pub record Indexes : Type 0 where
  pub types : List TypeId
  pub scope : Environment

abbrev pub indexes : List TypeId → Environment → Indexes
indexes types g = record { types = types; scope = g }

-- ---- types

-- What a checker answers for a type, its id with what is known behind it, and which faults are in it: from the judgements of its
-- parts. An object type stands nowhere but as a whole declaration.
abbrev mutual
  pub judged : Ground → Environment → Denoter → Judgement Denoted
  judged on g (named one) = part (type_named g one.position.place one.name) (λ ty. makes (denoted ty g))
  judged on g (range low high) = parts (constants.judged g low) (constants.judged g high) (λ a b. range_of on.unit g (first_place low) a b)
  judged on g (enumeration place all) = enumeration_of on.unit g place all
  judged on g (pointer one) = pointer_to on g one
  judged on g string = makes (denoted sorts.string g)
  judged on g (sized place size) = part (constants.judged g size) (λ c. string_of on.unit g place c)
  judged on g (procedure place groups) = part (procedure_header g false place kind.Procedure groups) (λ header. added on.unit g place rules.Stands (Procedural header))
  judged on g (function place groups result) = part (function_header g false place groups (Some result)) (λ header. added on.unit g place rules.Stands (Procedural header))
  judged on g (object place ancestor all methods) = refuses (broken place rules.ObjectPlace)
  judged on g (array place all element) = part (indexes_judged on g [] all) (λ i. part (judged on i.scope element) (λ one. arrays_of on.unit place i.types one))
  judged on g (record_of place all) = part (fields_judged on g [] all) (λ l. added on.unit l.scope place rules.Stands (RecordOf l.fields))
  judged on g (set place element) = part (judged on g element) (λ one. added on.unit one.scope place rules.SetBase (SetOf one.ty))

  -- index types, in front of those before them
  pub indexes_judged : Ground → Environment → List TypeId → Denoters → Judgement Indexes
  indexes_judged on g before no_denoters = makes (indexes before g)
  indexes_judged on g before (and_denoter one rest) = part (judged on g one) (λ i. indexes_judged on i.scope (i.ty ∷ before) rest)

  -- fields behind those before them
  pub fields_judged : Ground → Environment → List Field → Fields → Judgement Listed
  fields_judged on g before no_fields = makes (listed before g)
  fields_judged on g before (and_fields all one rest) =
      part (judged on g one) (λ i. part (names_onto before i.ty all) (λ fields. fields_judged on i.scope fields rest))
