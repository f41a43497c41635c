-- Object types, with the headers of their methods.
use Rattle.std.specs.Prelude.{◌≡◌, ℕ, ◌+◌, Bool, true, false, not, ◌&&◌, ◌||◌, List, [], ◌∷◌, ◌++◌, Option, Some, None, length}
use Rattle.std.specs.List.{list_any}
use Rattle.type_layout.specs.declared.definitions.TypeId.{TypeId}
use Rattle.type_layout.specs.declared.definitions.Field.{Field}
use Rattle.type_layout.specs.declared.definitions.Kind.{Kind}
use Rattle.type_layout.specs.declared.definitions.Kind.TheVariants as kind
use Rattle.type_layout.specs.declared.definitions.Header.{Header}
use Rattle.type_layout.specs.declared.definitions.Method.{Method}
use Rattle.type_layout.specs.declared.definitions.TypeDef.TheVariants.{ObjectOf}
use Rattle.type_layout.specs.declared.texts.Place.{Place}
use Rattle.type_layout.specs.Words.{same_bytes}
use Rattle.type_layout.specs.Table.{place_of}
use Rattle.syntax_tree.specs.declared.identifier.Identifier.{Identifier}
use Rattle.syntax_tree.specs.declared.type_tree.parameter.Method as written
use Rattle.syntax_tree.specs.declared.type_tree.parameter.MethodHeader.{MethodHeader}
use Rattle.syntax_tree.specs.declared.type_tree.parameter.MethodHeader.TheVariants as method
use Rattle.scopes.specs.declared.entries.Entry.TheVariants as entry
use Rattle.scopes.specs.declared.entries.BlockKind.TheVariants.{Part}
use Rattle.scopes.specs.Members.{narrow}
use Rattle.scopes.specs.Predeclared.{type_id}
use Rattle.scopes.specs.Environment.{Environment, with_block, with_name}
use Rattle.typing_rules.specs.declared.faults.Rule.TheVariants as rules
use Rattle.typing_rules.specs.Faults.{broken}
use Rattle.typing_rules.specs.Judgements.{Judgement, makes, refuses, rule, part}
use Rattle.typing_rules.specs.Selectors.{asking}
use Rattle.declaration_checker.specs.headers.Names.{type_named}
use Rattle.declaration_checker.specs.headers.Headers.{method_header}
use Rattle.declaration_checker.specs.type_denoters.Trees.{Fields}
use Rattle.declaration_checker.specs.type_denoters.Additions.{Denoted, added}
use Rattle.declaration_checker.specs.type_denoters.Denoters.{Ground, Listed, has_field, fields_judged}

-- ---- methods

abbrev pub name_of : MethodHeader → Identifier
name_of (method.Procedure here name groups) = name
name_of (method.Function here name groups result) = name
name_of (method.Constructor here name groups) = name
name_of (method.Destructor here name groups) = name

abbrev pub header_place : MethodHeader → Place
header_place (method.Procedure here name groups) = here.place
header_place (method.Function here name groups result) = here.place
header_place (method.Constructor here name groups) = here.place
header_place (method.Destructor here name groups) = here.place

abbrev pub is_constructor : MethodHeader → Bool
is_constructor (method.Constructor here name groups) = true
is_constructor _ = false

-- a constructor may not be virtual
abbrev pub is_virtual_constructor : written.Method → Bool
is_virtual_constructor one = is_constructor one.header && one.is_virtual

abbrev pub has_method : List Method → List ℕ → Bool
has_method methods name = list_any (λ (one : Method). same_bytes name one.name) methods

abbrev pub has_member : List Field → List Method → List ℕ → Bool
has_member fields methods name = has_field fields name || has_method methods name

abbrev pub method_of : List ℕ → Header → Bool → ℕ → ℕ → Method
method_of name header is_virtual unit number =
    record { name = name; header = header; is_virtual = is_virtual; routine = record { unit = unit; number = number } }

-- a method with its header, whose name no member before it has
abbrev pub method_named : List Field → List Method → ℕ → ℕ → written.Method → Header → Judgement Method
method_named fields before unit number one header =
    rule (broken (name_of one.header).position.place rules.Duplicate) (not (has_member fields before (name_of one.header).name)) (has_member fields before (name_of one.header).name ≡ false)
    (method_of (name_of one.header).name header one.is_virtual unit number)

-- a method with the number of its routine in the unit
abbrev pub method_judged : Environment → ℕ → ℕ → List Field → List Method → written.Method → Judgement Method
method_judged g unit number fields before one =
    part (method_header g one.header) (λ header.
    asking (rule (broken (header_place one.header) rules.Allocating) (not (is_virtual_constructor one)) (is_virtual_constructor one ≡ false) tt)
    (method_named fields before unit number one header))

-- methods behind those before them, whose routines are numbered in their order
abbrev pub methods_judged : Environment → ℕ → ℕ → List Field → List Method → List written.Method → Judgement (List Method)
methods_judged g unit number fields before [] = makes before
methods_judged g unit number fields before (one ∷ rest) =
    part (method_judged g unit number fields before one) (λ made. methods_judged g unit (narrow (number + 1)) fields (before ++ made ∷ []) rest)

-- ---- objects

abbrev pub has_class : Kind → Bool
has_class kind.Constructor = true
has_class kind.Destructor = true
has_class _ = false

-- whether a method is virtual, a constructor or a destructor
abbrev pub is_dynamic : List Method → Bool
is_dynamic methods = list_any (λ (one : Method). one.is_virtual || has_class one.header.kind) methods

abbrev pub ancestor_of : Environment → Option Identifier → Judgement (Option TypeId)
ancestor_of g None = makes None
ancestor_of g (Some one) = part (type_named g one.position.place one.name) (λ ty. makes (Some ty))

-- what the headers of methods see: the name of the object type too, which the table will have next
abbrev pub inside : Environment → List ℕ → Environment
inside g name = with_name (with_block g Part) name (entry.Ty (type_id (length g.types.types)))

-- an object type over its fields
abbrev pub with_methods : List ℕ → ℕ → List ℕ → Place → Option TypeId → List written.Method → Listed → Judgement Denoted
with_methods unit first name place parent methods all =
    part (methods_judged (inside all.scope name) (place_of all.scope.types.units unit) first all.fields [] methods)
    (λ made. added unit all.scope place rules.ObjectPlace (ObjectOf parent (is_dynamic made) all.fields made))

-- An object type of a name. Its routines are numbered from the first on; its ancestor is an object type of the table.
abbrev pub object_judged : Ground → ℕ → List ℕ → Environment → Place → Option Identifier → Fields → List written.Method → Judgement Denoted
object_judged on first name g place ancestor fields methods =
    part (ancestor_of g ancestor) (λ parent. part (fields_judged on g [] fields) (λ all. with_methods on.unit first name place parent methods all))

-- where object types may be declared, with the number of the next routine
abbrev pub object_allowed : Ground → Option ℕ → List ℕ → Environment → Place → Option Identifier → Fields → List written.Method → Judgement Denoted
object_allowed on None name g place ancestor groups methods = refuses (broken place rules.ObjectPlace)
object_allowed on (Some first) name g place ancestor groups methods = object_judged on first name g place ancestor groups methods
