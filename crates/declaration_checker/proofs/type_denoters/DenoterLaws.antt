-- Types are judged lawfully.
use Rattle.std.proofs.Common.{◌≡◌, ◌≤◌, ℕ, ◌+◌, ℤ, false, not, nat_le, List, [], ◌∷◌, ◌++◌, Option, Some, None, Decides, length}
use Rattle.std.specs.Prelude.{◌-ℤ◌, pos, unsigned_abs}
use Rattle.std.proofs.lemmas.Bool.Decides.{Decides-and}
use Rattle.type_layout.specs.declared.definitions.TypeId.{TypeId}
use Rattle.type_layout.specs.declared.definitions.Field.{Field}
use Rattle.type_layout.specs.declared.definitions.Kind.TheVariants as kind
use Rattle.type_layout.specs.declared.definitions.Host.{Host}
use Rattle.type_layout.specs.declared.definitions.Host.TheVariants as host
use Rattle.type_layout.specs.declared.definitions.TypeDef.{TypeDef}
use Rattle.type_layout.specs.declared.definitions.TypeDef.TheVariants.{Ordinal, Str, SetOf, ArrayOf, RecordOf, PointerTo, Procedural}
use Rattle.type_layout.specs.declared.texts.Place.{Place}
use Rattle.type_layout.specs.Table.{IsAddable}
use Rattle.typed_tree.specs.declared.expressions.Value.TheVariants as value
use Rattle.syntax_tree.specs.declared.identifier.Identifier.{Identifier}
use Rattle.scopes.specs.declared.entries.Entry.{Entry}
use Rattle.scopes.specs.declared.entries.Entry.TheVariants as entry
use Rattle.scopes.specs.Predeclared.{type_id}
use Rattle.scopes.specs.Environment.{Environment, has_innermost, with_name}
use Rattle.typing_rules.specs.declared.faults.Rule.{Rule}
use Rattle.typing_rules.specs.declared.faults.Rule.TheVariants as rules
use Rattle.typing_rules.specs.declared.sorts.Sort.{Sort}
use Rattle.typing_rules.specs.Faults.{broken, too_large}
use Rattle.typing_rules.specs.Judgements.{Judgement, makes, rule, part}
use Rattle.typing_rules.specs.Laws.{Lawful}
use Rattle.typing_rules.specs.Sorts.{sort_of_type}
use Rattle.typing_rules.specs.Plans.{AreOfOneHost, are_of_one_host}
use Rattle.typing_rules.specs.Wanted.{stored_of_type}
use Rattle.typing_rules.proofs.JudgementLaws.{lawful_makes, lawful_refuses, lawful_rule, lawful_part, lawful_parts}
use Rattle.typing_rules.proofs.PlanLaws.{yes, no, tells_integer, tells_one_host}
use Rattle.constant_checker.specs.declared.constant_expressions.constants.Constant.{Constant}
use Rattle.constant_checker.specs.constant_expressions.Constants as constants
use Rattle.constant_checker.specs.constant_expressions.Values.{number_of}
use Rattle.constant_checker.proofs.constant_expressions.ConstantLaws as constant_laws
use Rattle.declaration_checker.specs.headers.Names.{type_named}
use Rattle.declaration_checker.specs.headers.Headers.{procedure_header, function_header}
use Rattle.declaration_checker.proofs.headers.HeaderLaws.{tells_not, lawful_type_named, lawful_procedure, lawful_function}
use Rattle.declaration_checker.specs.type_denoters.Trees.{Denoter, Denoters, Fields, named, range, enumeration, pointer, string, sized, procedure, function, object, array, record_of, set, no_denoters, and_denoter, no_fields, and_fields}
use Rattle.syntax_tree.specs.expression_tree.Places.{first_place}
use Rattle.declaration_checker.specs.type_denoters.Additions.{is_addable, with_type_of, Denoted, denoted, bytes_of, added, entered}
use Rattle.declaration_checker.specs.type_denoters.Denoters.{host_of, set_base_of, with_set, followed, range_by, range_of, values_entered, enumerated, enumeration_of, Ground, promise_of, promised, target_of, pointer_to, IsSize, is_size, string_of, IsIndex, is_index, array_of, arrays_of, has_field, is_new, field, names_onto, Listed, Indexes, judged, indexes_judged, fields_judged}
use Rattle.declaration_checker.proofs.type_denoters.Addable.{tells_rising, tells_within, tells_addable}

-- ---- what is added and entered

pub lawful_added : (unit : List ℕ) (g : Environment) (place : Place) (asked : Rule) (one : TypeDef) → Lawful (added unit g place asked one)
unfolding added
lawful_added unit g place asked one =
    lawful_part (rule (broken place asked) (is_addable g.types unit one) (IsAddable g.types unit one) tt)
    (λ u. rule (too_large place (bytes_of g one)) (nat_le (bytes_of g one) 65520) (bytes_of g one ≤ 65520) (denoted (type_id (length g.types.types)) (with_type_of unit g one)))
    (lawful_rule (broken place asked) (is_addable g.types unit one) (IsAddable g.types unit one) tt (tells_addable g.types unit one))
    (λ u. lawful_rule (too_large place (bytes_of g one)) (nat_le (bytes_of g one) 65520) (bytes_of g one ≤ 65520) (denoted (type_id (length g.types.types)) (with_type_of unit g one)) (tells_within (bytes_of g one) 65520))

pub lawful_entered : (g : Environment) (place : Place) (name : List ℕ) (one : Entry) → Lawful (entered g place name one)
unfolding entered
lawful_entered g place name one = lawful_rule (broken place rules.Duplicate) (not (has_innermost g name)) (has_innermost g name ≡ false) (with_name g name one) (tells_not (has_innermost g name))

-- ---- subranges and enumerations

module _ (unit : List ℕ) where
  lawful_with_set : (g : Environment) (place : Place) (base : TypeId) → Lawful (with_set unit g place base)
  lawful_with_set g place base =
      lawful_part (added unit g place rules.SetBase (SetOf base)) (λ over. makes over.scope) (lawful_added unit g place rules.SetBase (SetOf base)) (λ over. lawful_makes over.scope)

  lawful_followed : (place : Place) (base : TypeId) (one : Denoted) → Lawful (followed unit place base one)
  lawful_followed place base one =
      lawful_part (with_set unit one.scope place base) (λ h. makes (denoted one.ty h)) (lawful_with_set one.scope place base) (λ h. lawful_makes (denoted one.ty h))

module _ (unit : List ℕ) (g : Environment) (place : Place) where
  abbrev ranged : Sort → ℤ → ℤ → Judgement Denoted
  ranged s low high = part (added unit g place rules.Constant (Ordinal (host_of s low high) low high)) (λ one. followed unit place (set_base_of s) one)

  lawful_ranged : (s : Sort) (low high : ℤ) → Lawful (ranged s low high)
  lawful_ranged s low high =
      lawful_part (added unit g place rules.Constant (Ordinal (host_of s low high) low high)) (λ one. followed unit place (set_base_of s) one)
      (lawful_added unit g place rules.Constant (Ordinal (host_of s low high) low high)) (λ one. lawful_followed unit place (set_base_of s) one)

  lawful_range_by : (s t : Sort) (low high : ℤ) → Lawful (range_by unit g place s t low high)
  lawful_range_by s t low high =
      lawful_part (rule (broken place rules.Constant) (are_of_one_host s t) (AreOfOneHost s t) tt) (λ u. ranged s low high)
      (lawful_rule (broken place rules.Constant) (are_of_one_host s t) (AreOfOneHost s t) tt (tells_one_host s t))
      (λ u. lawful_ranged s low high)

  lawful_range : (low high : Constant) → Lawful (range_of unit g place low high)
  unfolding range_of
  lawful_range low high = lawful_range_by (sort_of_type g.types.types low.ty) (sort_of_type g.types.types high.ty) (number_of low.value) (number_of high.value)

lawful_values : (g : Environment) (ty : TypeId) (number : ℕ) (names : List Identifier) → Lawful (values_entered g ty number names)
lawful_values g ty number [] = lawful_makes _
lawful_values g ty number (one ∷ rest) =
    lawful_part (entered g one.position.place one.name (entry.Const ty (value.Number (pos number)))) (λ h. values_entered h ty (number + 1) rest)
    (lawful_entered g one.position.place one.name (entry.Const ty (value.Number (pos number)))) (λ h. lawful_values h ty (number + 1) rest)

module _ (unit : List ℕ) where
  -- what follows the type of an enumeration
  abbrev finished : Place → List Identifier → Denoted → Judgement Denoted
  finished place names one = part (with_set unit one.scope place one.ty) (λ h. part (values_entered h one.ty 0 names) (λ k. makes (denoted one.ty k)))

  lawful_finished : (place : Place) (names : List Identifier) (one : Denoted) → Lawful (finished place names one)
  lawful_finished place names one =
      lawful_part (with_set unit one.scope place one.ty) (λ h. part (values_entered h one.ty 0 names) (λ k. makes (denoted one.ty k))) (lawful_with_set unit one.scope place one.ty)
      (λ h. lawful_part (values_entered h one.ty 0 names) (λ k. makes (denoted one.ty k)) (lawful_values h one.ty 0 names) (λ k. lawful_makes (denoted one.ty k)))

  lawful_enumeration : (g : Environment) (place : Place) (names : List Identifier) → Lawful (enumeration_of unit g place names)
  unfolding enumeration_of
  lawful_enumeration g place names =
      lawful_part (rule (broken place rules.Constant) (nat_le (length names) 256) (length names ≤ 256) tt)
      (λ u. part (enumerated unit g place (pos (length names) -ℤ pos 1)) (λ one. finished place names one))
      (lawful_rule (broken place rules.Constant) (nat_le (length names) 256) (length names ≤ 256) tt (tells_within (length names) 256))
      (λ u. lawful_part (enumerated unit g place (pos (length names) -ℤ pos 1)) (λ one. finished place names one)
      (lawful_added unit g place rules.Constant (Ordinal host.Enumeration (pos 0) (pos (length names) -ℤ pos 1))) (λ one. lawful_finished place names one))

-- ---- pointers

lawful_promised : (ty : Option TypeId) (k : Judgement TypeId) → Lawful k → Lawful (promised ty k)
lawful_promised (Some ty) k m = lawful_makes ty
lawful_promised None k m = m

lawful_pointer : (on : Ground) (g : Environment) (one : Identifier) → Lawful (pointer_to on g one)
lawful_pointer on g one =
    lawful_part (target_of on.names g one) (λ ty. added on.unit g one.position.place rules.Stands (PointerTo ty))
    (lawful_promised (promise_of on.names one.name) (type_named g one.position.place one.name) (lawful_type_named g one.position.place one.name))
    (λ ty. lawful_added on.unit g one.position.place rules.Stands (PointerTo ty))

-- ---- strings and arrays

tells_size : (s : Sort) (n : ℤ) → Decides (is_size s n) (IsSize s n)
tells_size s n = Decides-and _ _ (tells_integer s) (Decides-and _ _ (tells_rising (pos 1) n) (tells_rising n (pos 255)))

tells_index : (one : Option Host) → Decides (is_index one) (IsIndex one)
tells_index None = no
tells_index (Some host.LongInt) = no
tells_index (Some host.ShortInt) = yes
tells_index (Some host.Byte) = yes
tells_index (Some host.Integer) = yes
tells_index (Some host.Word) = yes
tells_index (Some host.Char) = yes
tells_index (Some host.Boolean) = yes
tells_index (Some host.Enumeration) = yes

module _ (unit : List ℕ) where
  lawful_string : (g : Environment) (place : Place) (size : Constant) → Lawful (string_of unit g place size)
  unfolding string_of
  lawful_string g place size =
      let s = sort_of_type g.types.types size.ty in
      let n = number_of size.value in
      lawful_part (rule (broken place rules.StringSize) (is_size s n) (IsSize s n) tt) (λ u. added unit g place rules.StringSize (Str (unsigned_abs n)))
      (lawful_rule (broken place rules.StringSize) (is_size s n) (IsSize s n) tt (tells_size s n))
      (λ u. lawful_added unit g place rules.StringSize (Str (unsigned_abs n)))

  lawful_array : (g : Environment) (place : Place) (index element : TypeId) → Lawful (array_of unit g place index element)
  unfolding array_of
  lawful_array g place index element =
      let stored = stored_of_type g.types.types (Some index) in
      lawful_part (rule (broken place rules.IndexType) (is_index stored) (IsIndex stored) tt) (λ u. added unit g place rules.IndexType (ArrayOf index element))
      (lawful_rule (broken place rules.IndexType) (is_index stored) (IsIndex stored) tt (tells_index stored))
      (λ u. lawful_added unit g place rules.IndexType (ArrayOf index element))

  lawful_arrays : (place : Place) (types : List TypeId) (element : Denoted) → Lawful (arrays_of unit place types element)
  lawful_arrays place [] element = lawful_makes element
  lawful_arrays place (index ∷ rest) element =
      lawful_part (array_of unit element.scope place index element.ty) (λ one. arrays_of unit place rest one) (lawful_array element.scope place index element.ty)
      (λ one. lawful_arrays place rest one)

-- ---- fields

lawful_new : (fields : List Field) (one : Identifier) → Lawful (is_new fields one)
lawful_new fields one = lawful_rule (broken one.position.place rules.Duplicate) (not (has_field fields one.name)) (has_field fields one.name ≡ false) tt (tells_not (has_field fields one.name))

lawful_names : (fields : List Field) (ty : TypeId) (names : List Identifier) → Lawful (names_onto fields ty names)
lawful_names fields ty [] = lawful_makes _
lawful_names fields ty (one ∷ rest) =
    lawful_part (is_new fields one) (λ u. names_onto (fields ++ field ty one.name ∷ []) ty rest) (lawful_new fields one) (λ u. lawful_names (fields ++ field ty one.name ∷ []) ty rest)

-- ---- types

lawful_name : (g : Environment) (one : Identifier) → Lawful (part (type_named g one.position.place one.name) (λ ty. makes (denoted ty g)))
lawful_name g one = lawful_part (type_named g one.position.place one.name) (λ ty. makes (denoted ty g)) (lawful_type_named g one.position.place one.name) (λ ty. lawful_makes (denoted ty g))

-- arrays of elements of a type
abbrev elements_of : Ground → Place → Denoter → Indexes → Judgement Denoted
elements_of on place element i = part (judged on i.scope element) (λ one. arrays_of on.unit place i.types one)

-- the groups of fields behind one of a type
abbrev behind : Ground → List Field → List Identifier → Fields → Denoted → Judgement Listed
behind on before names rest i = part (names_onto before i.ty names) (λ fields. fields_judged on i.scope fields rest)

mutual
  pub lawful : (on : Ground) (g : Environment) (one : Denoter) → Lawful (judged on g one)
  lawful on g (named one) = lawful_name g one
  lawful on g (range low high) =
      lawful_parts (constants.judged g low) (constants.judged g high) (λ a b. range_of on.unit g (first_place low) a b) (constant_laws.lawful g low) (constant_laws.lawful g high)
      (λ a b. lawful_range on.unit g (first_place low) a b)
  lawful on g (enumeration place names) = lawful_enumeration on.unit g place names
  lawful on g (pointer one) = lawful_pointer on g one
  lawful on g string = lawful_makes _
  lawful on g (sized place size) = lawful_part (constants.judged g size) (λ c. string_of on.unit g place c) (constant_laws.lawful g size) (λ c. lawful_string on.unit g place c)
  lawful on g (procedure place groups) =
      lawful_part (procedure_header g false place kind.Procedure groups) (λ header. added on.unit g place rules.Stands (Procedural header)) (lawful_procedure g false place kind.Procedure groups)
      (λ header. lawful_added on.unit g place rules.Stands (Procedural header))
  lawful on g (function place groups result) =
      lawful_part (function_header g false place groups (Some result)) (λ header. added on.unit g place rules.Stands (Procedural header)) (lawful_function g false place groups (Some result))
      (λ header. lawful_added on.unit g place rules.Stands (Procedural header))
  lawful on g (object place ancestor groups methods) = lawful_refuses _
  lawful on g (array place types element) =
      lawful_part (indexes_judged on g [] types) (λ i. elements_of on place element i) (lawful_indexes on g [] types)
      (λ i. lawful_part (judged on i.scope element) (λ one. arrays_of on.unit place i.types one) (lawful on i.scope element) (λ one. lawful_arrays on.unit place i.types one))
  lawful on g (record_of place groups) =
      lawful_part (fields_judged on g [] groups) (λ l. added on.unit l.scope place rules.Stands (RecordOf l.fields)) (lawful_fields on g [] groups)
      (λ l. lawful_added on.unit l.scope place rules.Stands (RecordOf l.fields))
  lawful on g (set place element) =
      lawful_part (judged on g element) (λ one. added on.unit one.scope place rules.SetBase (SetOf one.ty)) (lawful on g element)
      (λ one. lawful_added on.unit one.scope place rules.SetBase (SetOf one.ty))

  lawful_indexes : (on : Ground) (g : Environment) (before : List TypeId) (types : Denoters) → Lawful (indexes_judged on g before types)
  lawful_indexes on g before no_denoters = lawful_makes _
  lawful_indexes on g before (and_denoter one rest) =
      lawful_part (judged on g one) (λ i. indexes_judged on i.scope (i.ty ∷ before) rest) (lawful on g one) (λ i. lawful_indexes on i.scope (i.ty ∷ before) rest)

  pub lawful_fields : (on : Ground) (g : Environment) (before : List Field) (fields : Fields) → Lawful (fields_judged on g before fields)
  lawful_fields on g before no_fields = lawful_makes _
  lawful_fields on g before (and_fields names one rest) =
      lawful_part (judged on g one) (λ i. behind on before names rest i) (lawful on g one)
      (λ i. lawful_part (names_onto before i.ty names) (λ fields. fields_judged on i.scope fields rest) (lawful_names before i.ty names) (λ fields. lawful_fields on i.scope fields rest))
