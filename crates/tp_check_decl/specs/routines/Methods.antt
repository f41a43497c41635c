-- Methods: the routines that an object type has as it is declared, and the headers in front of their blocks.
use Rattle.std.specs.Prelude.{◌≡◌, ℕ, ◌+◌, Bool, true, false, not, ◌&&◌, nat_eq, codes, List, [], ◌∷◌, ◌++◌, position, Option, Some, None, is_some, slice_get}
use Rattle.type_layout.specs.declared.definitions.TypeId.{TypeId}
use Rattle.type_layout.specs.declared.definitions.TypeDef.{TypeDef}
use Rattle.type_layout.specs.declared.definitions.TypeDef.TheVariants.{ObjectOf}
use Rattle.type_layout.specs.declared.definitions.Param.{Param}
use Rattle.type_layout.specs.declared.definitions.Kind.TheVariants as kind
use Rattle.type_layout.specs.declared.definitions.Header.{Header}
use Rattle.type_layout.specs.declared.definitions.Method.{Method}
use Rattle.type_layout.specs.declared.texts.Place.{Place}
use Rattle.type_layout.specs.Words.{same_bytes}
use Rattle.syntax_tree.specs.declared.identifier.Identifier.{Identifier}
use Rattle.syntax_tree.specs.declared.type_tree.parameter.Method as written
use Rattle.syntax_tree.specs.declared.type_tree.parameter.MethodHeader.{MethodHeader}
use Rattle.syntax_tree.specs.declared.type_tree.parameter.MethodHeader.TheVariants as method
use Rattle.syntax_tree.specs.declared.type_tree.parameter.ParameterGroup.{ParameterGroup}
use Rattle.syntax_tree.specs.declared.type_tree.parameter.ParameterGroup.TheVariants as group
use Rattle.syntax_tree.specs.declared.type_tree.types.TypeDenoter.{TypeDenoter}
use Rattle.syntax_tree.specs.declared.type_tree.types.TypeDenoter.TheVariants as t
use Rattle.syntax_tree.specs.declared.source_tree.declaration.TypeDeclaration.{TypeDeclaration}
use Rattle.syntax_tree.specs.declared.source_tree.declaration.DeclarationPart.{DeclarationPart}
use Rattle.syntax_tree.specs.declared.source_tree.declaration.DeclarationPart.TheVariants as part_of
use Rattle.scopes.specs.declared.entries.Entry.TheVariants as entry
use Rattle.scopes.specs.Environment.{Environment, Meaning, named, find}
use Rattle.typed_tree.specs.type_fits.Fits.{definition}
use Rattle.typing_rules.specs.declared.faults.Rule.TheVariants as rules
use Rattle.typing_rules.specs.Faults.{broken}
use Rattle.typing_rules.specs.Judgements.{Judgement, makes, refuses, rule, either, part}
use Rattle.typing_rules.specs.Selectors.{asking}
use Rattle.declaration_checker.specs.headers.Names.{type_named}
use Rattle.declaration_checker.specs.headers.Headers.{procedure_header, method_header}
use Rattle.declaration_checker.specs.type_parts.Objects.{name_of, header_place}
use Rattle.tp_check_decl.specs.declared.routines.drafts.Announced.{Announced}
use Rattle.tp_check_decl.specs.declared.routines.drafts.Site.{Site}
use Rattle.tp_check_decl.specs.routines.Drafts.{Numbered, Drafted}
use Rattle.tp_check_decl.specs.routines.Headings.{whole_repeated, half_repeated, begun, with_params, Opened, opened}

-- ---- the routines of object types

-- what is known of a method by its header in the type; methods are far
abbrev pub method_announced : TypeId → Place → Method → Announced
method_announced owner place one = record { place = place; name = one.name; header = one.header; owner = Some owner; outer = None; far = true }

abbrev pub awaiting : Announced → Numbered
awaiting one = record { first = one; done = None }

abbrev pub of_method : TypeId → Place → Option Method → List Numbered
of_method owner place None = []
of_method owner place (Some one) = awaiting (method_announced owner place one) ∷ []

-- the methods of a type from a place on, each at its header
abbrev pub of_methods : TypeId → List Method → ℕ → List written.Method → List Numbered
of_methods owner methods place [] = []
of_methods owner methods place (one ∷ rest) = of_method owner (header_place one.header) (slice_get methods place) ++ of_methods owner methods (place + 1) rest

abbrev pub of_type : TypeId → Option TypeDef → List written.Method → List Numbered
of_type ty (Some (ObjectOf parent dynamic fields methods)) all = of_methods ty methods 0 all
of_type ty _ all = []

abbrev pub of_meaning : List TypeDef → Option Meaning → List written.Method → List Numbered
of_meaning types (Some (named n (entry.Ty ty))) all = of_type ty (definition types ty) all
of_meaning types _ all = []

-- the methods that stand in a type
abbrev pub written_in : TypeDenoter → List written.Method
written_in (t.Object' here ancestor shape fields semicolon methods) = methods.items
written_in one = []

-- the routines that a type has whose name is known
unfoldable pub of_declaration : Environment → TypeDeclaration → List Numbered
of_declaration g one = of_meaning g.types.types (find g one.name.name) (written_in one.denoter)

abbrev pub of_declarations : Environment → List TypeDeclaration → List Numbered
of_declarations g [] = []
of_declarations g (one ∷ rest) = of_declaration g one ++ of_declarations g rest

-- the routines that the object types of a part have, which is behind them
abbrev pub of_part : Environment → DeclarationPart → List Numbered
of_part g (part_of.Types here all) = of_declarations g all.items
of_part g _ = []

-- ---- headers in front of the blocks of methods

abbrev pub groups_of : MethodHeader → List ParameterGroup
groups_of (method.Procedure here name groups) = groups.items
groups_of (method.Function here name groups result) = groups.items
groups_of (method.Constructor here name groups) = groups.items
groups_of (method.Destructor here name groups) = groups.items

abbrev pub names_of : ParameterGroup → List Identifier
names_of (group.Variable here names of_type) = names.items
names_of (group.Value names of_type) = names.items

abbrev pub is_self : List ℕ → Bool
is_self name = same_bytes name (codes "SELF")

-- no parameter has the name of the instance
abbrev pub none_is_self : List Identifier → Judgement (Unit {0})
none_is_self [] = makes tt
none_is_self (one ∷ rest) = asking (rule (broken one.position.place rules.Duplicate) (not (is_self one.name)) (is_self one.name ≡ false) tt) (none_is_self rest)

abbrev pub without_self : List ParameterGroup → Judgement (Unit {0})
without_self [] = makes tt
without_self (one ∷ rest) = asking (none_is_self (names_of one)) (without_self rest)

abbrev pub method_at : List Method → Option ℕ → Option Method
method_at methods None = None
method_at methods (Some place) = slice_get methods place

-- the method of this name
unfoldable pub declared_method : List Method → List ℕ → Option Method
declared_method methods name = method_at methods (position (λ (one : Method). same_bytes name one.name) methods)

-- the method of this name that a type declares itself
abbrev pub own_method : Option TypeDef → List ℕ → Option Method
own_method (Some (ObjectOf parent dynamic fields methods)) name = declared_method methods name
own_method _ name = None

abbrev pub is_owner : Option TypeId → TypeId → Bool
is_owner None ty = false
is_owner (Some owner) ty = nat_eq owner.0 ty.0

-- a method of this type whose block was not met yet
abbrev pub is_awaited : Option Numbered → TypeId → Bool
is_awaited None ty = false
is_awaited (Some one) ty = is_owner one.first.owner ty && not (is_some one.done)

-- methods have their blocks in the unit's own block
abbrev pub may_follow : Site → Option Numbered → TypeId → Bool
may_follow site slot ty = not (is_some site.outer) && is_awaited slot ty

abbrev pub lacks_result : MethodHeader → Bool
lacks_result (method.Function here name groups result) = not (is_some result)
lacks_result _ = false

-- The parameters of a method whose header in the type is this one: it is repeated whole.
abbrev pub header_repeated : Environment → Header → MethodHeader → Judgement (List Param)
header_repeated g first one =
    either (lacks_result one) (half_repeated (header_place one) (procedure_header g true (header_place one) kind.Procedure (groups_of one)))
    (whole_repeated (header_place one) first (method_header g one))

abbrev pub method_begun : Drafted → MethodHeader → TypeId → Method → Judgement Opened
method_begun d one ty found =
    part (header_repeated d.scope found.header one) (λ params.
    asking (without_self (groups_of one)) (makes (opened (begun found.routine.number (with_params found.header params) (Some ty)) d)))

abbrev pub method_opened_by : Site → Drafted → MethodHeader → TypeId → Option Method → Judgement Opened
method_opened_by site d one ty None = refuses (broken (name_of one).position.place rules.Selected)
method_opened_by site d one ty (Some found) =
    asking (rule (broken (header_place one) rules.Bodies) (may_follow site (slice_get d.routines found.routine.number) ty) (may_follow site (slice_get d.routines found.routine.number) ty ≡ true) tt)
    (method_begun d one ty found)

-- a header with the block of a method behind it, of the object type that is named
unfoldable pub method_opened : Site → Drafted → MethodHeader → Identifier → Judgement Opened
method_opened site d one owner =
    part (type_named d.scope owner.position.place owner.name) (λ ty. method_opened_by site d one ty (own_method (definition d.scope.types.types ty) (name_of one).name))
