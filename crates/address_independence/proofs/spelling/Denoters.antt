-- Types are judged by what is written of them.
use Rattle.std.proofs.Common.{◌≡◌, ℕ, ◌+◌, ◌-◌, false, List, [], ◌∷◌, Option, Some, None, Box, Global, refl, ◌∙◌}
use Rattle.tp_check_decl.specs.type_layout.declared.definitions.TypeId.{TypeId}
use Rattle.tp_check_decl.specs.type_layout.declared.definitions.Field.{Field}
use Rattle.tp_check_decl.specs.type_layout.declared.definitions.Kind.TheVariants as kind
use Rattle.tp_check_decl.specs.type_layout.declared.definitions.TypeDef.TheVariants.{RecordOf, SetOf, Procedural}
use Rattle.tp_check_decl.specs.type_layout.declared.texts.Place.{Place}
use Rattle.tp_check_decl.specs.syntax_tree.declared.expression.SimpleExpression.{SimpleExpression}
use Rattle.tp_check_decl.specs.syntax_tree.declared.type_tree.types.TypeDenoter.{TypeDenoter, Row_of-FieldGroup, end_of-FieldGroup, more_of-FieldGroup}
use Rattle.tp_check_decl.specs.syntax_tree.declared.type_tree.types.TypeDenoter.TheVariants as t
use Rattle.tp_check_decl.specs.syntax_tree.declared.type_tree.types.StructuredType.{StructuredType, Row_of-TypeDenoter, end_of-TypeDenoter, more_of-TypeDenoter}
use Rattle.tp_check_decl.specs.syntax_tree.declared.type_tree.types.StructuredType.TheVariants as s
use Rattle.tp_check_decl.specs.syntax_tree.declared.type_tree.types.FieldGroup.TheVariants as f
use Rattle.tp_check_decl.specs.syntax_tree.declared.type_tree.types.PointerTarget.{PointerTarget}
use Rattle.tp_check_decl.specs.syntax_tree.declared.type_tree.types.PointerTarget.TheVariants as target
use Rattle.tp_check_decl.specs.scopes.Environment.{Environment}
use Rattle.tp_check_decl.specs.scopes.Members.{narrow}
use Rattle.tp_check_decl.specs.scopes.Predeclared.{type_id}
use Rattle.tp_check_decl.specs.typing_rules.declared.faults.Rule.TheVariants as rules
use Rattle.tp_check_decl.specs.typing_rules.Faults.{broken}
use Rattle.tp_check_decl.specs.typing_rules.Judgements.{Judgement, makes, refuses, part, parts}
use Rattle.tp_check_decl.specs.typing_rules.Sorts as sorts
use Rattle.tp_check_decl.specs.constant_checker.constant_expressions.Constants as constants
use Rattle.tp_check_decl.specs.declaration_checker.headers.Names.{type_named}
use Rattle.tp_check_decl.specs.declaration_checker.declared.type_denoters.promises.Promise.{Promise}
use Rattle.tp_check_decl.specs.declaration_checker.type_denoters.Trees.{view_denoter, view_structured, view_denoter_row, view_field_row, view_string, view_target, structured_place}
use Rattle.tp_check_decl.specs.syntax_tree.expression_tree.Places.{first_place}
use Rattle.tp_check_decl.specs.declaration_checker.type_denoters.Additions.{Denoted, denoted, added}
use Rattle.tp_check_decl.specs.declaration_checker.type_denoters.Denoters as types
use Rattle.tp_check_decl.specs.declaration_checker.type_denoters.Denoters.{Ground, range_of, enumeration_of, pointer_to, string_of, arrays_of, names_onto, Listed, listed, Indexes, indexes}
use Rattle.tp_check_decl.specs.declaration_checker.type_parts.Promised as promised
use Rattle.tp_check_decl.specs.declaration_checker.type_parts.Promised.{alias_of}
use Rattle.address_independence.specs.yields.Written as w
use Rattle.address_independence.specs.yields.Trees.{structured_position, pointer_in, string_in, type_in, structured_in, types_in, fields_in}
use Rattle.address_independence.proofs.spelling.Headers.{procedure_header, function_header, procedure_is, function_is}

-- ---- judgements

abbrev mutual
  pub judged : Ground → Environment → w.Denoter → Judgement Denoted
  judged on g (w.named one) = part (type_named g one.position.place one.name) (λ ty. makes (denoted ty g))
  judged on g (w.range low high) = parts (constants.judged g low) (constants.judged g high) (λ a b. range_of on.unit g (first_place low) a b)
  judged on g (w.enumeration place all) = enumeration_of on.unit g place all
  judged on g (w.pointer one) = pointer_to on g one
  judged on g w.string = makes (denoted sorts.string g)
  judged on g (w.sized place size) = part (constants.judged g size) (λ c. string_of on.unit g place c)
  judged on g (w.procedural place groups) = part (procedure_header g false place kind.Procedure groups) (λ header. added on.unit g place rules.Stands (Procedural header))
  judged on g (w.functional place groups result) = part (function_header g false place groups (Some result)) (λ header. added on.unit g place rules.Stands (Procedural header))
  judged on g (w.object place ancestor all methods) = refuses (broken place rules.ObjectPlace)
  judged on g (w.array place all element) = part (indexes_judged on g [] all) (λ i. part (judged on i.scope element) (λ one. arrays_of on.unit place i.types one))
  judged on g (w.record_of place all) = part (fields_judged on g [] all) (λ l. added on.unit l.scope place rules.Stands (RecordOf l.fields))
  judged on g (w.set place element) = part (judged on g element) (λ one. added on.unit one.scope place rules.SetBase (SetOf one.ty))

  pub indexes_judged : Ground → Environment → List TypeId → w.Denoters → Judgement Indexes
  indexes_judged on g before w.no_denoters = makes (indexes before g)
  indexes_judged on g before (w.and_denoter one rest) = part (judged on g one) (λ i. indexes_judged on i.scope (i.ty ∷ before) rest)

  pub fields_judged : Ground → Environment → List Field → w.Fields → Judgement Listed
  fields_judged on g before w.no_fields = makes (listed before g)
  fields_judged on g before (w.and_fields all one rest) =
      part (judged on g one) (λ i. part (names_onto before i.ty all) (λ fields. fields_judged on i.scope fields rest))

place_is : (one : StructuredType) → structured_place one ≡ (structured_position one).place
place_is (s.Array' here shape all q x) = refl
place_is (s.Record' here shape all b) = refl
place_is (s.Set' here q x) = refl

pointer_is : (on : Ground) (g : Environment) (one : PointerTarget) → pointer_to on g (view_target one) ≡ judged on g (pointer_in one)
pointer_is on g (target.Letter i) = refl
pointer_is on g (target.Long i) = refl

string_is : (on : Ground) (g : Environment) (place : Place) (one : Option (Box SimpleExpression Global)) → types.judged on g (view_string place one) ≡ judged on g (string_in place one)
string_is on g place None = refl
string_is on g place (Some size) = refl

mutual
  pub judged_is : (one : TypeDenoter) (on : Ground) (g : Environment) → types.judged on g (view_denoter one) ≡ judged on g (type_in one)
  judged_is (t.Name i) on g = refl
  judged_is (t.Range low high) on g = refl
  judged_is (t.Enumeration here names) on g = refl
  judged_is (t.Pointer here one) on g = pointer_is on g one
  judged_is (t.String here size) on g = string_is on g here.place size
  judged_is (t.Procedure here all) on g = λ i. part (procedure_is g false here.place kind.Procedure all.items i) (λ header. added on.unit g here.place rules.Stands (Procedural header))
  judged_is (t.Function here all result) on g = λ i. part (function_is g false here.place all.items (Some result) i) (λ header. added on.unit g here.place rules.Stands (Procedural header))
  judged_is (t.Object' here ancestor shape all b methods) on g = refl
  judged_is (t.Packed here one) on g = structured_is one here.place on g
  judged_is (t.Structured one) on g = (λ j. types.judged on g (view_structured (place_is one j) one)) ∙ structured_is one (structured_position one).place on g

  structured_is : (one : StructuredType) (place : Place) (on : Ground) (g : Environment) → types.judged on g (view_structured place one) ≡ judged on g (structured_in place one)
  structured_is (s.Array' here shape all q x) place on g = λ j. part (indexes_are all on g [] j) (λ i. part (judged_is x on i.scope j) (λ one. arrays_of on.unit place i.types one))
  structured_is (s.Record' here shape all b) place on g = λ j. part (fields_are all on g [] j) (λ l. added on.unit l.scope place rules.Stands (RecordOf l.fields))
  structured_is (s.Set' here q x) place on g = λ j. part (judged_is x on g j) (λ one. added on.unit one.scope place rules.SetBase (SetOf one.ty))

  indexes_are : {n : _} (all : Row_of-TypeDenoter n) (on : Ground) (g : Environment) (before : List TypeId) → types.indexes_judged on g before (view_denoter_row all) ≡ indexes_judged on g before (types_in all)
  indexes_are end_of-TypeDenoter on g before = refl
  indexes_are (more_of-TypeDenoter x all) on g before = λ j. part (judged_is x on g j) (λ i. indexes_are all on i.scope (i.ty ∷ before) j)

  pub fields_are : {n : _} (all : Row_of-FieldGroup n) (on : Ground) (g : Environment) (before : List Field) → types.fields_judged on g before (view_field_row all) ≡ fields_judged on g before (fields_in all)
  fields_are end_of-FieldGroup on g before = refl
  fields_are (more_of-FieldGroup (f.Fields names x) all) on g before = λ j. part (judged_is x on g j) (λ i. part (names_onto before i.ty names.items) (λ fields. fields_are all on i.scope fields j))

-- ---- how many types are added

abbrev mutual
  pub adds : w.Denoter → ℕ
  adds (w.named one) = 0
  adds (w.range low high) = 2
  adds (w.enumeration place names) = 2
  adds (w.pointer one) = 1
  adds w.string = 0
  adds (w.sized place size) = 1
  adds (w.procedural place groups) = 1
  adds (w.functional place groups result) = 1
  adds (w.object place ancestor fields methods) = adds_fields fields + 1
  adds (w.array place types element) = adds_indexes types + adds element
  adds (w.record_of place fields) = adds_fields fields + 1
  adds (w.set place element) = adds element + 1

  adds_indexes : w.Denoters → ℕ
  adds_indexes w.no_denoters = 0
  adds_indexes (w.and_denoter one rest) = (adds one + 1) + adds_indexes rest

  adds_fields : w.Fields → ℕ
  adds_fields w.no_fields = 0
  adds_fields (w.and_fields names one rest) = adds one + adds_fields rest

pointer_adds : (one : PointerTarget) → 1 ≡ adds (pointer_in one)
pointer_adds (target.Letter i) = refl
pointer_adds (target.Long i) = refl

string_adds : (place : Place) (one : Option (Box SimpleExpression Global)) → promised.adds (view_string place one) ≡ adds (string_in place one)
string_adds place None = refl
string_adds place (Some size) = refl

mutual
  pub adds_is : (one : TypeDenoter) → promised.adds (view_denoter one) ≡ adds (type_in one)
  adds_is (t.Name i) = refl
  adds_is (t.Range low high) = refl
  adds_is (t.Enumeration here names) = refl
  adds_is (t.Pointer here one) = pointer_adds one
  adds_is (t.String here size) = string_adds here.place size
  adds_is (t.Procedure here all) = refl
  adds_is (t.Function here all result) = refl
  adds_is (t.Object' here ancestor shape all b methods) = λ j. adds_fields_are all j + 1
  adds_is (t.Packed here one) = adds_structured one here.place
  adds_is (t.Structured one) = (λ j. promised.adds (view_structured (place_is one j) one)) ∙ adds_structured one (structured_position one).place

  adds_structured : (one : StructuredType) (place : Place) → promised.adds (view_structured place one) ≡ adds (structured_in place one)
  adds_structured (s.Array' here shape all q x) place = λ j. adds_indexes_are all j + adds_is x j
  adds_structured (s.Record' here shape all b) place = λ j. adds_fields_are all j + 1
  adds_structured (s.Set' here q x) place = λ j. adds_is x j + 1

  adds_indexes_are : {n : _} (all : Row_of-TypeDenoter n) → promised.adds_indexes (view_denoter_row all) ≡ adds_indexes (types_in all)
  adds_indexes_are end_of-TypeDenoter = refl
  adds_indexes_are (more_of-TypeDenoter x all) = λ j. (adds_is x j + 1) + adds_indexes_are all j

  adds_fields_are : {n : _} (all : Row_of-FieldGroup n) → promised.adds_fields (view_field_row all) ≡ adds_fields (fields_in all)
  adds_fields_are end_of-FieldGroup = refl
  adds_fields_are (more_of-FieldGroup (f.Fields names x) all) = λ j. adds_is x j + adds_fields_are all j

-- ---- the id that a type will have

abbrev pub promised_id : Environment → List Promise → ℕ → w.Denoter → TypeId
promised_id g before next (w.named one) = alias_of g before one
promised_id g before next w.string = sorts.string
promised_id g before next (w.enumeration place names) = type_id next
promised_id g before next (w.range low high) = type_id next
promised_id g before next one = type_id (narrow (next + adds one) - 1)

-- what is structured, or another type that has its id behind all that it adds
last_promised : (next : ℕ) (x y : ℕ) → x ≡ y → type_id (narrow (next + x) - 1) ≡ type_id (narrow (next + y) - 1)
last_promised next x y e = λ j. type_id (narrow (next + e j) - 1)

pointer_promised : (g : Environment) (before : List Promise) (next : ℕ) (one : PointerTarget) → type_id (narrow (next + 1) - 1) ≡ promised_id g before next (pointer_in one)
pointer_promised g before next (target.Letter i) = refl
pointer_promised g before next (target.Long i) = refl

string_promised : (g : Environment) (before : List Promise) (next : ℕ) (place : Place) (one : Option (Box SimpleExpression Global))
    → promised.promised_id g before next (view_string place one) ≡ promised_id g before next (string_in place one)
string_promised g before next place None = refl
string_promised g before next place (Some size) = refl

structured_promised : (g : Environment) (before : List Promise) (next : ℕ) (place : Place) (one : StructuredType)
    → promised.promised_id g before next (view_structured place one) ≡ promised_id g before next (structured_in place one)
structured_promised g before next place (s.Array' here shape all q x) = last_promised next _ _ (adds_structured (s.Array' here shape all q x) place)
structured_promised g before next place (s.Record' here shape all b) = last_promised next _ _ (adds_structured (s.Record' here shape all b) place)
structured_promised g before next place (s.Set' here q x) = last_promised next _ _ (adds_structured (s.Set' here q x) place)

pub promised_is : (g : Environment) (before : List Promise) (next : ℕ) (one : TypeDenoter)
    → promised.promised_id g before next (view_denoter one) ≡ promised_id g before next (type_in one)
promised_is g before next (t.Name i) = refl
promised_is g before next (t.Range low high) = refl
promised_is g before next (t.Enumeration here names) = refl
promised_is g before next (t.Pointer here one) = pointer_promised g before next one
promised_is g before next (t.String here size) = string_promised g before next here.place size
promised_is g before next (t.Procedure here all) = refl
promised_is g before next (t.Function here all result) = refl
promised_is g before next (t.Object' here ancestor shape all b methods) = last_promised next _ _ (adds_is (t.Object' here ancestor shape all b methods))
promised_is g before next (t.Packed here one) = structured_promised g before next here.place one
promised_is g before next (t.Structured one) =
    (λ j. promised.promised_id g before next (view_structured (place_is one j) one)) ∙ structured_promised g before next (structured_position one).place one
