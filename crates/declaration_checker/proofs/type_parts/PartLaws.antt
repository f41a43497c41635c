-- Parts of type declarations are judged lawfully.
use Rattle.std.proofs.Common.{◌≡◌, ℕ, ◌+◌, false, not, List, [], ◌∷◌, ◌++◌, Option, Some, None}
use Rattle.type_layout.specs.declared.definitions.TypeId.{TypeId}
use Rattle.type_layout.specs.declared.definitions.Field.{Field}
use Rattle.type_layout.specs.declared.definitions.Method.{Method}
use Rattle.type_layout.specs.declared.definitions.TypeDef.TheVariants.{ObjectOf}
use Rattle.type_layout.specs.declared.texts.Place.{Place}
use Rattle.type_layout.specs.Table.{place_of}
use Rattle.syntax_tree.specs.declared.identifier.Identifier.{Identifier}
use Rattle.syntax_tree.specs.declared.source_tree.declaration.TypeDeclaration.{TypeDeclaration}
use Rattle.syntax_tree.specs.declared.type_tree.parameter.Method as written
use Rattle.syntax_tree.specs.declared.type_tree.types.TypeDenoter.{TypeDenoter}
use Rattle.syntax_tree.specs.declared.type_tree.types.TypeDenoter.TheVariants as t
use Rattle.scopes.specs.declared.entries.Entry.TheVariants as entry
use Rattle.scopes.specs.Members.{narrow}
use Rattle.scopes.specs.Environment.{Environment}
use Rattle.typing_rules.specs.declared.faults.Rule.TheVariants as rules
use Rattle.typing_rules.specs.Faults.{broken}
use Rattle.typing_rules.specs.Judgements.{Judgement, makes, rule, part}
use Rattle.typing_rules.specs.Selectors.{asking}
use Rattle.typing_rules.specs.Laws.{Lawful}
use Rattle.typing_rules.proofs.JudgementLaws.{lawful_makes, lawful_refuses, lawful_rule, lawful_part}
use Rattle.declaration_checker.specs.headers.Names.{type_named}
use Rattle.declaration_checker.specs.headers.Headers.{method_header}
use Rattle.declaration_checker.proofs.headers.HeaderLaws.{tells_not, lawful_type_named, lawful_method}
use Rattle.declaration_checker.specs.type_denoters.Trees.{Fields, view_denoter, view_field_row}
use Rattle.declaration_checker.specs.type_denoters.Additions.{Denoted, added, entered}
use Rattle.declaration_checker.specs.type_denoters.Denoters.{Ground, ground, Listed, fields_judged}
use Rattle.declaration_checker.proofs.type_denoters.DenoterLaws.{lawful_added, lawful_entered, lawful, lawful_fields}
use Rattle.declaration_checker.specs.type_parts.Promised.{promises}
use Rattle.declaration_checker.specs.type_parts.Objects.{name_of, header_place, is_virtual_constructor, has_member, method_of, method_named, method_judged, methods_judged, is_dynamic, ancestor_of, inside, with_methods, object_judged, object_allowed}
use Rattle.declaration_checker.specs.type_parts.Parts.{whole, type_declared, next_routine, types_declared, type_part}

-- ---- methods

module _ (g : Environment) (unit : ℕ) (fields : List Field) where
  abbrev plain : written.Method → Judgement (Unit {0})
  plain one = rule (broken (header_place one.header) rules.Allocating) (not (is_virtual_constructor one)) (is_virtual_constructor one ≡ false) tt

  lawful_one : (number : ℕ) (before : List Method) (one : written.Method) → Lawful (method_judged g unit number fields before one)
  lawful_one number before one =
      lawful_part (method_header g one.header) (λ header. asking (plain one) (method_named fields before unit number one header)) (lawful_method g one.header)
      (λ header. lawful_part (plain one) (λ u. method_named fields before unit number one header)
      (lawful_rule (broken (header_place one.header) rules.Allocating) (not (is_virtual_constructor one)) (is_virtual_constructor one ≡ false) tt (tells_not (is_virtual_constructor one)))
      (λ u. lawful_rule (broken (name_of one.header).position.place rules.Duplicate) (not (has_member fields before (name_of one.header).name)) (has_member fields before (name_of one.header).name ≡ false)
      (method_of (name_of one.header).name header one.is_virtual unit number) (tells_not (has_member fields before (name_of one.header).name))))

  lawful_all : (number : ℕ) (before : List Method) (all : List written.Method) → Lawful (methods_judged g unit number fields before all)
  lawful_all number before [] = lawful_makes before
  lawful_all number before (one ∷ rest) =
      lawful_part (method_judged g unit number fields before one) (λ made. methods_judged g unit (narrow (number + 1)) fields (before ++ made ∷ []) rest) (lawful_one number before one)
      (λ made. lawful_all (narrow (number + 1)) (before ++ made ∷ []) rest)

-- ---- objects

lawful_ancestor : (g : Environment) (one : Option Identifier) → Lawful (ancestor_of g one)
lawful_ancestor g None = lawful_makes None
lawful_ancestor g (Some one) = lawful_part (type_named g one.position.place one.name) (λ ty. makes (Some ty)) (lawful_type_named g one.position.place one.name) (λ ty. lawful_makes (Some ty))

lawful_with : (unit : List ℕ) (first : ℕ) (name : List ℕ) (place : Place) (parent : Option TypeId) (methods : List written.Method) (all : Listed) → Lawful (with_methods unit first name place parent methods all)
lawful_with unit first name place parent methods all =
    lawful_part (methods_judged (inside all.scope name) (place_of all.scope.types.units unit) first all.fields [] methods)
    (λ made. added unit all.scope place rules.ObjectPlace (ObjectOf parent (is_dynamic made) all.fields made))
    (lawful_all (inside all.scope name) (place_of all.scope.types.units unit) all.fields first [] methods)
    (λ made. lawful_added unit all.scope place rules.ObjectPlace (ObjectOf parent (is_dynamic made) all.fields made))

abbrev behind_ancestor : Ground → ℕ → List ℕ → Environment → Place → Fields → List written.Method → Option TypeId → Judgement Denoted
behind_ancestor on first name g place fields methods parent = part (fields_judged on g [] fields) (λ all. with_methods on.unit first name place parent methods all)

lawful_object : (on : Ground) (first : ℕ) (name : List ℕ) (g : Environment) (place : Place) (ancestor : Option Identifier) (fields : Fields) (methods : List written.Method) → Lawful (object_judged on first name g place ancestor fields methods)
lawful_object on first name g place ancestor fields methods =
    lawful_part (ancestor_of g ancestor) (λ parent. behind_ancestor on first name g place fields methods parent) (lawful_ancestor g ancestor)
    (λ parent. lawful_part (fields_judged on g [] fields) (λ all. with_methods on.unit first name place parent methods all) (lawful_fields on g [] fields)
    (λ all. lawful_with on.unit first name place parent methods all))

lawful_allowed : (on : Ground) (next : Option ℕ) (name : List ℕ) (g : Environment) (place : Place) (ancestor : Option Identifier) (fields : Fields) (methods : List written.Method) → Lawful (object_allowed on next name g place ancestor fields methods)
lawful_allowed on None name g place ancestor groups methods = lawful_refuses (broken place rules.ObjectPlace)
lawful_allowed on (Some first) name g place ancestor groups methods = lawful_object on first name g place ancestor groups methods

-- ---- declarations

module _ (on : Ground) where
  lawful_whole : (next : Option ℕ) (name : List ℕ) (g : Environment) (one : TypeDenoter) → Lawful (whole on next name g one)
  lawful_whole next name g (t.Object' here ancestor shape fields semicolon methods) = lawful_allowed on next name g here.place ancestor (view_field_row fields) methods.items
  lawful_whole next name g (t.Name i) = lawful on g (view_denoter (t.Name i))
  lawful_whole next name g (t.Range low high) = lawful on g (view_denoter (t.Range low high))
  lawful_whole next name g (t.Enumeration here names) = lawful on g (view_denoter (t.Enumeration here names))
  lawful_whole next name g (t.Pointer here target) = lawful on g (view_denoter (t.Pointer here target))
  lawful_whole next name g (t.String here size) = lawful on g (view_denoter (t.String here size))
  lawful_whole next name g (t.Procedure here groups) = lawful on g (view_denoter (t.Procedure here groups))
  lawful_whole next name g (t.Function here groups result) = lawful on g (view_denoter (t.Function here groups result))
  lawful_whole next name g (t.Packed here inner) = lawful on g (view_denoter (t.Packed here inner))
  lawful_whole next name g (t.Structured inner) = lawful on g (view_denoter (t.Structured inner))

  lawful_declared : (next : Option ℕ) (g : Environment) (one : TypeDeclaration) → Lawful (type_declared on next g one)
  lawful_declared next g one =
      lawful_part (whole on next one.name.name g one.denoter) (λ made. entered made.scope one.name.position.place one.name.name (entry.Ty made.ty)) (lawful_whole next one.name.name g one.denoter)
      (λ made. lawful_entered made.scope one.name.position.place one.name.name (entry.Ty made.ty))

  lawful_types : (next : Option ℕ) (g : Environment) (all : List TypeDeclaration) → Lawful (types_declared on next g all)
  lawful_types next g [] = lawful_makes g
  lawful_types next g (one ∷ rest) =
      lawful_part (type_declared on next g one) (λ h. types_declared on (next_routine next one.denoter) h rest) (lawful_declared next g one)
      (λ h. lawful_types (next_routine next one.denoter) h rest)

pub lawful_part_of : (unit : List ℕ) (next : Option ℕ) (g : Environment) (all : List TypeDeclaration) → Lawful (type_part unit next g all)
unfolding type_part
lawful_part_of unit next g all = lawful_types (ground unit (promises g all)) next g all
