-- Object types and parts of type declarations are judged by what is written in them.
use Rattle.std.proofs.Common.{◌≡◌, ℕ, ◌+◌, Bool, true, false, not, ◌&&◌, List, [], ◌∷◌, ◌++◌, map, length, Option, Some, None, refl, sym, ◌∙◌}
use Rattle.std.proofs.lemmas.List.{length-map}
use Rattle.tp_check_decl.specs.type_layout.declared.definitions.TypeId.{TypeId}
use Rattle.tp_check_decl.specs.type_layout.declared.definitions.Field.{Field}
use Rattle.tp_check_decl.specs.type_layout.declared.definitions.Header.{Header}
use Rattle.tp_check_decl.specs.type_layout.declared.definitions.Method.{Method}
use Rattle.tp_check_decl.specs.type_layout.declared.definitions.TypeDef.TheVariants.{ObjectOf}
use Rattle.tp_check_decl.specs.type_layout.declared.texts.Place.{Place}
use Rattle.tp_check_decl.specs.type_layout.Table.{place_of}
use Rattle.tp_check_decl.specs.syntax_tree.declared.identifier.Identifier.{Identifier}
use Rattle.tp_check_decl.specs.syntax_tree.declared.type_tree.parameter.Method as written
use Rattle.tp_check_decl.specs.syntax_tree.declared.type_tree.parameter.MethodHeader.{MethodHeader}
use Rattle.tp_check_decl.specs.syntax_tree.declared.type_tree.parameter.MethodHeader.TheVariants as m
use Rattle.tp_check_decl.specs.syntax_tree.declared.type_tree.types.TypeDenoter.{TypeDenoter, Row_of-FieldGroup}
use Rattle.tp_check_decl.specs.syntax_tree.declared.type_tree.types.TypeDenoter.TheVariants as t
use Rattle.tp_check_decl.specs.syntax_tree.declared.type_tree.types.StructuredType.TheVariants as s
use Rattle.tp_check_decl.specs.syntax_tree.declared.type_tree.types.PointerTarget.TheVariants as target
use Rattle.tp_check_decl.specs.syntax_tree.declared.source_tree.declaration.TypeDeclaration.{TypeDeclaration}
use Rattle.tp_check_decl.specs.scopes.declared.entries.Entry.TheVariants as entry
use Rattle.tp_check_decl.specs.scopes.Members.{narrow}
use Rattle.tp_check_decl.specs.scopes.Environment.{Environment}
use Rattle.tp_check_decl.specs.typing_rules.declared.faults.Rule.TheVariants as rules
use Rattle.tp_check_decl.specs.typing_rules.Faults.{broken}
use Rattle.tp_check_decl.specs.typing_rules.Judgements.{Judgement, makes, refuses, rule, part}
use Rattle.tp_check_decl.specs.typing_rules.Selectors.{asking}
use Rattle.tp_check_decl.specs.declaration_checker.declared.type_denoters.promises.Promise.{Promise}
use Rattle.tp_check_decl.specs.declaration_checker.type_denoters.Trees.{view_field_row}
use Rattle.tp_check_decl.specs.declaration_checker.type_denoters.Additions.{Denoted, added, entered}
use Rattle.tp_check_decl.specs.declaration_checker.type_denoters.Denoters.{Ground, ground, Listed}
use Rattle.tp_check_decl.specs.declaration_checker.type_parts.Promised as promised
use Rattle.tp_check_decl.specs.declaration_checker.type_parts.Promised.{promise}
use Rattle.tp_check_decl.specs.declaration_checker.type_parts.Objects as objects
use Rattle.tp_check_decl.specs.declaration_checker.type_parts.Objects.{has_member, method_of, is_dynamic, ancestor_of, inside}
use Rattle.tp_check_decl.specs.declaration_checker.type_parts.Parts as parts
use Rattle.tp_check_decl.specs.routines.Methods as methods
use Rattle.address_independence.specs.yields.Written as w
use Rattle.address_independence.specs.yields.Trees.{method_in, type_in, fields_in, type_named}
use Rattle.address_independence.proofs.spelling.Headers.{header_of, method_header_is}
use Rattle.address_independence.proofs.spelling.Denoters.{judged, judged_is, fields_judged, fields_are, adds, adds_is, promised_id, promised_is}

-- ---- methods

abbrev is_constructor : w.Sort → Bool
is_constructor w.constructor = true
is_constructor _ = false

abbrev is_virtual_constructor : w.Method → Bool
is_virtual_constructor one = is_constructor one.heading.sort && one.is_virtual

-- what is judged of a method behind its header
abbrev behind_header : List Field → List Method → ℕ → ℕ → w.Method → Header → Judgement Method
behind_header fields before unit number one header =
    asking (rule (broken one.heading.position.place rules.Allocating) (not (is_virtual_constructor one)) (is_virtual_constructor one ≡ false) tt)
    (rule (broken one.heading.name.position.place rules.Duplicate) (not (has_member fields before one.heading.name.name)) (has_member fields before one.heading.name.name ≡ false)
    (method_of one.heading.name.name header one.is_virtual unit number))

abbrev method_judged : Environment → ℕ → ℕ → List Field → List Method → w.Method → Judgement Method
method_judged g unit number fields before one = part (header_of g true one.heading) (λ header. behind_header fields before unit number one header)

abbrev methods_judged : Environment → ℕ → ℕ → List Field → List Method → List w.Method → Judgement (List Method)
methods_judged g unit number fields before [] = makes before
methods_judged g unit number fields before (one ∷ rest) =
    part (method_judged g unit number fields before one) (λ made. methods_judged g unit (narrow (number + 1)) fields (before ++ made ∷ []) rest)

abbrev with_header : MethodHeader → Bool → written.Method
with_header header is_virtual = record { header = header; is_virtual = is_virtual }

method_by : (header : MethodHeader) (b : Bool) (g : Environment) (unit number : ℕ) (fields : List Field) (before : List Method)
    → objects.method_judged g unit number fields before (with_header header b) ≡ method_judged g unit number fields before (method_in (with_header header b))
method_by (m.Procedure here name groups) b g unit number fields before =
    λ i. part (method_header_is g (m.Procedure here name groups) i) (λ header. behind_header fields before unit number (method_in (with_header (m.Procedure here name groups) b)) header)
method_by (m.Function here name groups result) b g unit number fields before =
    λ i. part (method_header_is g (m.Function here name groups result) i) (λ header. behind_header fields before unit number (method_in (with_header (m.Function here name groups result) b)) header)
method_by (m.Constructor here name groups) b g unit number fields before =
    λ i. part (method_header_is g (m.Constructor here name groups) i) (λ header. behind_header fields before unit number (method_in (with_header (m.Constructor here name groups) b)) header)
method_by (m.Destructor here name groups) b g unit number fields before =
    λ i. part (method_header_is g (m.Destructor here name groups) i) (λ header. behind_header fields before unit number (method_in (with_header (m.Destructor here name groups) b)) header)

methods_are : (all : List written.Method) (g : Environment) (unit number : ℕ) (fields : List Field) (before : List Method)
    → objects.methods_judged g unit number fields before all ≡ methods_judged g unit number fields before (map method_in all)
methods_are [] g unit number fields before = refl
methods_are (one ∷ rest) g unit number fields before =
    λ i. part (method_by one.header one.is_virtual g unit number fields before i) (λ made. methods_are rest g unit (narrow (number + 1)) fields (before ++ made ∷ []) i)

-- ---- objects

abbrev with_methods : List ℕ → ℕ → List ℕ → Place → Option TypeId → List w.Method → Listed → Judgement Denoted
with_methods unit first name place parent all l =
    part (methods_judged (inside l.scope name) (place_of l.scope.types.units unit) first l.fields [] all)
    (λ made. added unit l.scope place rules.ObjectPlace (ObjectOf parent (is_dynamic made) l.fields made))

abbrev object_judged : Ground → ℕ → List ℕ → Environment → Place → Option Identifier → w.Fields → List w.Method → Judgement Denoted
object_judged on first name g place ancestor fields all =
    part (ancestor_of g ancestor) (λ parent. part (fields_judged on g [] fields) (λ l. with_methods on.unit first name place parent all l))

abbrev object_allowed : Ground → Option ℕ → List ℕ → Environment → Place → Option Identifier → w.Fields → List w.Method → Judgement Denoted
object_allowed on None name g place ancestor fields all = refuses (broken place rules.ObjectPlace)
object_allowed on (Some first) name g place ancestor fields all = object_judged on first name g place ancestor fields all

-- the type of a declaration, which alone may be an object type
abbrev whole : Ground → Option ℕ → List ℕ → Environment → w.Denoter → Judgement Denoted
whole on next name g (w.object place ancestor groups all) = object_allowed on next name g place ancestor groups all
whole on next name g one = judged on g one

with_methods_is : (unit : List ℕ) (first : ℕ) (name : List ℕ) (place : Place) (parent : Option TypeId) (all : List written.Method) (l : Listed)
    → objects.with_methods unit first name place parent all l ≡ with_methods unit first name place parent (map method_in all) l
with_methods_is unit first name place parent all l =
    λ i. part (methods_are all (inside l.scope name) (place_of l.scope.types.units unit) first l.fields [] i) (λ made. added unit l.scope place rules.ObjectPlace (ObjectOf parent (is_dynamic made) l.fields made))

object_is : {n : _} (next : Option ℕ) (on : Ground) (name : List ℕ) (g : Environment) (place : Place) (ancestor : Option Identifier) (fields : Row_of-FieldGroup n) (all : List written.Method)
    → objects.object_allowed on next name g place ancestor (view_field_row fields) all ≡ object_allowed on next name g place ancestor (fields_in fields) (map method_in all)
object_is None on name g place ancestor fields all = refl
object_is (Some first) on name g place ancestor fields all =
    λ i. part (ancestor_of g ancestor) (λ parent. part (fields_are fields on g [] i) (λ l. with_methods_is on.unit first name place parent all l i))

whole_is : (one : TypeDenoter) (on : Ground) (next : Option ℕ) (name : List ℕ) (g : Environment) → parts.whole on next name g one ≡ whole on next name g (type_in one)
whole_is (t.Name i) on next name g = judged_is (t.Name i) on g
whole_is (t.Range low high) on next name g = judged_is (t.Range low high) on g
whole_is (t.Enumeration here names) on next name g = judged_is (t.Enumeration here names) on g
whole_is (t.Pointer here (target.Letter i)) on next name g = judged_is (t.Pointer here (target.Letter i)) on g
whole_is (t.Pointer here (target.Long i)) on next name g = judged_is (t.Pointer here (target.Long i)) on g
whole_is (t.String here None) on next name g = judged_is (t.String here None) on g
whole_is (t.String here (Some size)) on next name g = judged_is (t.String here (Some size)) on g
whole_is (t.Procedure here all) on next name g = judged_is (t.Procedure here all) on g
whole_is (t.Function here all result) on next name g = judged_is (t.Function here all result) on g
whole_is (t.Object' here ancestor shape fields b all) on next name g = object_is next on name g here.place ancestor fields all.items
whole_is (t.Packed here (s.Array' at shape all q x)) on next name g = judged_is (t.Packed here (s.Array' at shape all q x)) on g
whole_is (t.Packed here (s.Record' at shape all b)) on next name g = judged_is (t.Packed here (s.Record' at shape all b)) on g
whole_is (t.Packed here (s.Set' at q x)) on next name g = judged_is (t.Packed here (s.Set' at q x)) on g
whole_is (t.Structured (s.Array' at shape all q x)) on next name g = judged_is (t.Structured (s.Array' at shape all q x)) on g
whole_is (t.Structured (s.Record' at shape all b)) on next name g = judged_is (t.Structured (s.Record' at shape all b)) on g
whole_is (t.Structured (s.Set' at q x)) on next name g = judged_is (t.Structured (s.Set' at q x)) on g

-- ---- the methods that stand in a type

abbrev pub methods_in : w.Denoter → List w.Method
methods_in (w.object place ancestor groups all) = all
methods_in one = []

pub written_are : (one : TypeDenoter) → map method_in (methods.written_in one) ≡ methods_in (type_in one)
written_are (t.Pointer here (target.Letter i)) = refl
written_are (t.Pointer here (target.Long i)) = refl
written_are (t.String here None) = refl
written_are (t.String here (Some size)) = refl
written_are (t.Packed here (s.Array' at shape all q x)) = refl
written_are (t.Packed here (s.Record' at shape all b)) = refl
written_are (t.Packed here (s.Set' at q x)) = refl
written_are (t.Structured (s.Array' at shape all q x)) = refl
written_are (t.Structured (s.Record' at shape all b)) = refl
written_are (t.Structured (s.Set' at q x)) = refl
written_are one = refl

count_is : (one : TypeDenoter) → parts.method_count one ≡ length (methods.written_in one)
count_is (t.Object' here ancestor shape fields b all) = refl
count_is one = refl

abbrev next_routine : Option ℕ → w.Denoter → Option ℕ
next_routine None one = None
next_routine (Some number) one = Some (narrow (number + length (methods_in one)))

next_is : (next : Option ℕ) (one : TypeDenoter) → parts.next_routine next one ≡ next_routine next (type_in one)
next_is None one = refl
next_is (Some number) one =
    let count = count_is one ∙ sym (length-map (methods.written_in one) method_in) ∙ λ i. length (written_are one i) in
    λ i. Some (narrow (number + count i))

-- ---- parts of type declarations

abbrev type_declared : Ground → Option ℕ → Environment → w.NamedDenoter → Judgement Environment
type_declared on next g one =
    part (whole on next one.name.name g one.denoter) (λ made. entered made.scope one.name.position.place one.name.name (entry.Ty made.ty))

abbrev types_declared : Ground → Option ℕ → Environment → List w.NamedDenoter → Judgement Environment
types_declared on next g [] = makes g
types_declared on next g (one ∷ rest) = part (type_declared on next g one) (λ h. types_declared on (next_routine next one.denoter) h rest)

abbrev promises_from : Environment → List Promise → ℕ → List w.NamedDenoter → List Promise
promises_from g before next [] = before
promises_from g before next (one ∷ rest) =
    promises_from g (before ++ promise one.name.name (promised_id g before next one.denoter) ∷ []) (narrow (next + adds one.denoter)) rest

abbrev promises : Environment → List w.NamedDenoter → List Promise
promises g all = promises_from g [] (length g.types.types) all

abbrev pub type_part : List ℕ → Option ℕ → Environment → List w.NamedDenoter → Judgement Environment
type_part unit next g all = types_declared (ground unit (promises g all)) next g all

promises_are : (all : List TypeDeclaration) (g : Environment) (before : List Promise) (next : ℕ) → promised.promises_from g before next all ≡ promises_from g before next (map type_named all)
promises_are [] g before next = refl
promises_are (one ∷ rest) g before next =
    (λ i. promised.promises_from g (before ++ promise one.name.name (promised_is g before next one.denoter i) ∷ []) (narrow (next + adds_is one.denoter i)) rest)
    ∙ promises_are rest g _ _

type_is : (on : Ground) (next : Option ℕ) (g : Environment) (one : TypeDeclaration) → parts.type_declared on next g one ≡ type_declared on next g (type_named one)
type_is on next g one = λ i. part (whole_is one.denoter on next one.name.name g i) (λ made. entered made.scope one.name.position.place one.name.name (entry.Ty made.ty))

types_are : (all : List TypeDeclaration) (on : Ground) (next : Option ℕ) (g : Environment) → parts.types_declared on next g all ≡ types_declared on next g (map type_named all)
types_are [] on next g = refl
types_are (one ∷ rest) on next g =
    let behind = λ (h : Environment). (λ i. parts.types_declared on (next_is next one.denoter i) h rest) ∙ types_are rest on (next_routine next (type_in one.denoter)) h in
    λ i. part (type_is on next g one i) (λ h. behind h i)

pub type_part_is : (unit : List ℕ) (next : Option ℕ) (g : Environment) (all : List TypeDeclaration) → parts.type_part unit next g all ≡ type_part unit next g (map type_named all)
unfolding parts.type_part
type_part_is unit next g all =
    (λ i. parts.types_declared (ground unit (promises_are all g [] (length g.types.types) i)) next g all)
    ∙ types_are all (ground unit (promises g (map type_named all))) next g
