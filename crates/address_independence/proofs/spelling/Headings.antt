-- Headers of routines and methods, in front of their blocks or without: judged by what is written in them.
use Rattle.std.proofs.Common.{◌≡◌, ℕ, Bool, true, false, not, ◌||◌, List, [], ◌∷◌, Option, Some, None, is_some, slice_get, refl, ◌∙◌}
use Rattle.tp_check_decl.specs.type_layout.declared.definitions.TypeId.{TypeId}
use Rattle.tp_check_decl.specs.type_layout.declared.definitions.Param.{Param}
use Rattle.tp_check_decl.specs.type_layout.declared.definitions.Header.{Header}
use Rattle.tp_check_decl.specs.type_layout.declared.definitions.Kind.TheVariants as kind
use Rattle.tp_check_decl.specs.type_layout.declared.definitions.Method.{Method}
use Rattle.tp_check_decl.specs.type_layout.declared.texts.Place.{Place}
use Rattle.tp_check_decl.specs.syntax_tree.declared.identifier.Identifier.{Identifier}
use Rattle.tp_check_decl.specs.syntax_tree.declared.type_tree.parameter.NamedType.{NamedType}
use Rattle.tp_check_decl.specs.syntax_tree.declared.type_tree.parameter.ParameterGroup.{ParameterGroup}
use Rattle.tp_check_decl.specs.syntax_tree.declared.type_tree.parameter.ParameterGroup.TheVariants as group
use Rattle.tp_check_decl.specs.syntax_tree.declared.type_tree.parameter.MethodHeader.{MethodHeader}
use Rattle.tp_check_decl.specs.syntax_tree.declared.type_tree.parameter.MethodHeader.TheVariants as m
use Rattle.tp_check_decl.specs.syntax_tree.declared.source_tree.declaration.RoutineHeader.{RoutineHeader}
use Rattle.tp_check_decl.specs.syntax_tree.declared.source_tree.declaration.RoutineHeader.TheVariants as h
use Rattle.tp_check_decl.specs.scopes.Environment.{Environment}
use Rattle.tp_check_decl.specs.typed_tree.type_fits.Fits.{definition}
use Rattle.tp_check_decl.specs.typing_rules.declared.faults.Rule.TheVariants as rules
use Rattle.tp_check_decl.specs.typing_rules.Faults.{broken}
use Rattle.tp_check_decl.specs.typing_rules.Judgements.{Judgement, makes, refuses, rule, either, part}
use Rattle.tp_check_decl.specs.typing_rules.Selectors.{asking}
use Rattle.tp_check_decl.specs.declaration_checker.headers.Names.{type_named}
use Rattle.tp_check_decl.specs.declaration_checker.type_denoters.Additions.{entered}
use Rattle.tp_check_decl.specs.declaration_checker.type_parts.Objects as objects
use Rattle.tp_check_decl.specs.declared.routines.drafts.Announced.{Announced}
use Rattle.tp_check_decl.specs.declared.routines.drafts.Site.{Site}
use Rattle.tp_check_decl.specs.routines.Drafts.{Drafted, knowing, next_number, announcing}
use Rattle.tp_check_decl.specs.routines.Headings as headings
use Rattle.tp_check_decl.specs.routines.Headings.{routine_entry, awaited_of, kind_repeated, whole_repeated, half_repeated, begun, with_params, Opened, opened}
use Rattle.tp_check_decl.specs.routines.Methods as methods
use Rattle.tp_check_decl.specs.routines.Methods.{none_is_self, own_method, may_follow}
use Rattle.address_independence.specs.yields.Written as w
use Rattle.address_independence.specs.yields.Trees.{group_in, groups_in, heading_in, method_heading}
use Rattle.address_independence.proofs.spelling.Headers.{procedure_header, function_header, header_of, procedure_is, function_is, routine_header_is, method_header_is}

-- ---- names and places

name_is : (one : RoutineHeader) → headings.name_of one ≡ (heading_in one).name
name_is (h.Procedure here name groups) = refl
name_is (h.Function here name groups result) = refl

pub begins_is : (one : RoutineHeader) → headings.begins one ≡ (heading_in one).position
begins_is (h.Procedure here name groups) = refl
begins_is (h.Function here name groups result) = refl

method_name_is : (one : MethodHeader) → objects.name_of one ≡ (method_heading one).name
method_name_is (m.Procedure here name groups) = refl
method_name_is (m.Function here name groups result) = refl
method_name_is (m.Constructor here name groups) = refl
method_name_is (m.Destructor here name groups) = refl

pub place_is : (one : MethodHeader) → objects.header_place one ≡ (method_heading one).position.place
place_is (m.Procedure here name groups) = refl
place_is (m.Function here name groups result) = refl
place_is (m.Constructor here name groups) = refl
place_is (m.Destructor here name groups) = refl

-- ---- headers that announce a routine

abbrev is_far : Bool → w.Heading → Bool
is_far far one = far || one.position.switches.f

far_is : (far : Bool) (one : RoutineHeader) → headings.is_far far one ≡ is_far far (heading_in one)
far_is far one i = far || (begins_is one i).switches.f

abbrev announced_by : Bool → Site → w.Heading → Header → Announced
announced_by far site one header = record {
  place = one.position.place;
  name = one.name.name;
  header = header;
  owner = None;
  outer = site.outer;
  far = is_far far one;
}

announced_by_is : (far : Bool) (site : Site) (one : RoutineHeader) (header : Header) → headings.announced_by far site one header ≡ announced_by far site (heading_in one) header
announced_by_is far site one header i = record {
  place = (begins_is one i).place;
  name = (name_is one i).name;
  header = header;
  owner = None;
  outer = site.outer;
  far = far_is far one i;
}

abbrev announced : Bool → Site → Drafted → w.Heading → Header → Judgement Drafted
announced far site d one header =
    part (entered d.scope one.name.position.place one.name.name (routine_entry (is_far far one) site (next_number d) header))
    (λ g. makes (announcing (knowing d g) (announced_by far site one header)))

announced_is : (far : Bool) (site : Site) (d : Drafted) (one : RoutineHeader) (header : Header) → headings.announced far site d one header ≡ announced far site d (heading_in one) header
announced_is far site d one header i =
    part (entered d.scope (name_is one i).position.place (name_is one i).name (routine_entry (far_is far one i) site (next_number d) header))
    (λ g. makes (announcing (knowing d g) (announced_by_is far site one header i)))

abbrev pub heading : Bool → Site → Drafted → w.Heading → Judgement Drafted
heading far site d one = part (header_of d.scope false one) (λ header. announced far site d one header)

pub heading_is : (far : Bool) (site : Site) (d : Drafted) (one : RoutineHeader) → headings.heading far site d one ≡ heading far site d (heading_in one)
unfolding headings.heading
heading_is far site d one i = part (routine_header_is d.scope one i) (λ header. announced_is far site d one header i)

-- ---- headers behind which the block of an earlier one stands

abbrev is_bare : List w.Group → Bool
is_bare [] = true
is_bare (one ∷ rest) = false

bare_is : (all : List ParameterGroup) → headings.is_bare all ≡ is_bare (groups_in all)
bare_is [] = refl
bare_is (one ∷ rest) = refl

abbrev function_repeated : Environment → Header → Place → List w.Group → Option NamedType → Judgement (List Param)
function_repeated g first place groups None =
    either (is_bare groups) (kind_repeated place kind.Function first) (half_repeated place (procedure_header g false place kind.Procedure groups))
function_repeated g first place groups (Some result) = whole_repeated place first (function_header g false place groups (Some result))

-- a header of a routine is no method's
abbrev sorted_repeated : Environment → Header → w.Sort → Place → List w.Group → Option NamedType → Judgement (List Param)
sorted_repeated g first w.function place groups result = function_repeated g first place groups result
sorted_repeated g first other place groups result =
    either (is_bare groups) (kind_repeated place kind.Procedure first) (whole_repeated place first (procedure_header g false place kind.Procedure groups))

abbrev repeated : Environment → Header → w.Heading → Judgement (List Param)
repeated g first one = sorted_repeated g first one.sort one.position.place one.groups one.result

repeated_is : (g : Environment) (first : Header) (one : RoutineHeader) → headings.repeated g first one ≡ repeated g first (heading_in one)
repeated_is g first (h.Procedure here name groups) = λ i.
    either (bare_is groups.items i) (kind_repeated here.place kind.Procedure first) (whole_repeated here.place first (procedure_is g false here.place kind.Procedure groups.items i))
repeated_is g first (h.Function here name groups None) = λ i.
    either (bare_is groups.items i) (kind_repeated here.place kind.Function first) (half_repeated here.place (procedure_is g false here.place kind.Procedure groups.items i))
repeated_is g first (h.Function here name groups (Some result)) = λ i. whole_repeated here.place first (function_is g false here.place groups.items (Some result) i)

-- ---- a routine whose block follows

-- behind an earlier header, told by its number and what it says
abbrev opened_by : {A : Type 0} → Option A → (A → ℕ) → (A → Header) → Site → Drafted → w.Heading → Judgement Opened
opened_by (Some first) number header site d one = part (repeated d.scope (header first) one) (λ params. makes (opened (begun (number first) (with_params (header first) params) None) d))
opened_by None number header site d one =
    part (header_of d.scope false one) (λ header. part (announced false site d one header) (λ e. makes (opened (begun (next_number d) header None) e)))

opened_by_is : (site : Site) (d : Drafted) (one : RoutineHeader) (found : _) → headings.opened_by site d one found ≡ opened_by found (λ first. first.number) (λ first. first.header) site d (heading_in one)
opened_by_is site d one (Some first) = λ i. part (repeated_is d.scope first.header one i) (λ params. makes (opened (begun first.number (with_params first.header params) None) d))
opened_by_is site d one None = λ i.
    part (routine_header_is d.scope one i) (λ header. part (announced_is false site d one header i) (λ e. makes (opened (begun (next_number d) header None) e)))

abbrev pub opened_of : Site → Drafted → w.Heading → Judgement Opened
opened_of site d one = opened_by (awaited_of d one.name.name) (λ first. first.number) (λ first. first.header) site d one

pub opened_is : (site : Site) (d : Drafted) (one : RoutineHeader) → headings.opened_of site d one ≡ opened_of site d (heading_in one)
unfolding headings.opened_of
opened_is site d one =
    opened_by_is site d one (awaited_of d (headings.name_of one).name)
    ∙ (λ i. opened_by (awaited_of d (name_is one i).name) (λ first. first.number) (λ first. first.header) site d (heading_in one))

-- ---- methods

abbrev without_self : List w.Group → Judgement (Unit {0})
without_self [] = makes tt
without_self (one ∷ rest) = asking (none_is_self one.names) (without_self rest)

names_are : (one : ParameterGroup) → methods.names_of one ≡ (group_in one).names
names_are (group.Variable here names of_type) = refl
names_are (group.Value names of_type) = refl

without_self_is : (all : List ParameterGroup) → methods.without_self all ≡ without_self (groups_in all)
without_self_is [] = refl
without_self_is (one ∷ rest) = λ i. asking (none_is_self (names_are one i)) (without_self_is rest i)

groups_are : (one : MethodHeader) → groups_in (methods.groups_of one) ≡ (method_heading one).groups
groups_are (m.Procedure here name groups) = refl
groups_are (m.Function here name groups result) = refl
groups_are (m.Constructor here name groups) = refl
groups_are (m.Destructor here name groups) = refl

abbrev lacks_result : w.Sort → Option NamedType → Bool
lacks_result w.function result = not (is_some result)
lacks_result other result = false

lacking_is : (one : MethodHeader) → methods.lacks_result one ≡ lacks_result (method_heading one).sort (method_heading one).result
lacking_is (m.Procedure here name groups) = refl
lacking_is (m.Function here name groups result) = refl
lacking_is (m.Constructor here name groups) = refl
lacking_is (m.Destructor here name groups) = refl

abbrev header_repeated : Environment → Header → w.Heading → Judgement (List Param)
header_repeated g first one =
    either (lacks_result one.sort one.result) (half_repeated one.position.place (procedure_header g true one.position.place kind.Procedure one.groups))
    (whole_repeated one.position.place first (header_of g true one))

half_is : (g : Environment) (one : MethodHeader)
    → half_repeated (objects.header_place one) (procedure_header g true (objects.header_place one) kind.Procedure (groups_in (methods.groups_of one)))
    ≡ half_repeated (method_heading one).position.place (procedure_header g true (method_heading one).position.place kind.Procedure (method_heading one).groups)
half_is g one i = half_repeated (place_is one i) (procedure_header g true (place_is one i) kind.Procedure (groups_are one i))

header_repeated_is : (g : Environment) (first : Header) (one : MethodHeader) → methods.header_repeated g first one ≡ header_repeated g first (method_heading one)
header_repeated_is g first one =
    (λ i. either (methods.lacks_result one) (half_repeated (objects.header_place one) (procedure_is g true (objects.header_place one) kind.Procedure (methods.groups_of one) i))
    (whole_repeated (objects.header_place one) first (method_header_is g one i)))
    ∙ (λ i. either (lacking_is one i) (half_is g one i) (whole_repeated (place_is one i) first (header_of g true (method_heading one))))

abbrev method_begun : Drafted → w.Heading → TypeId → Method → Judgement Opened
method_begun d one ty found =
    part (header_repeated d.scope found.header one) (λ params.
    asking (without_self one.groups) (makes (opened (begun found.routine.number (with_params found.header params) (Some ty)) d)))

self_is : (one : MethodHeader) → methods.without_self (methods.groups_of one) ≡ without_self (method_heading one).groups
self_is one = without_self_is (methods.groups_of one) ∙ (λ i. without_self (groups_are one i))

method_begun_is : (d : Drafted) (one : MethodHeader) (ty : TypeId) (found : Method) → methods.method_begun d one ty found ≡ method_begun d (method_heading one) ty found
method_begun_is d one ty found i =
    part (header_repeated_is d.scope found.header one i) (λ params.
    asking (self_is one i) (makes (opened (begun found.routine.number (with_params found.header params) (Some ty)) d)))

abbrev method_opened_by : Site → Drafted → w.Heading → TypeId → Option Method → Judgement Opened
method_opened_by site d one ty None = refuses (broken one.name.position.place rules.Selected)
method_opened_by site d one ty (Some found) =
    asking (rule (broken one.position.place rules.Bodies) (may_follow site (slice_get d.routines found.routine.number) ty) (may_follow site (slice_get d.routines found.routine.number) ty ≡ true) tt)
    (method_begun d one ty found)

method_opened_by_is : (site : Site) (d : Drafted) (one : MethodHeader) (ty : TypeId) (found : Option Method)
    → methods.method_opened_by site d one ty found ≡ method_opened_by site d (method_heading one) ty found
method_opened_by_is site d one ty None = λ i. refuses (broken (method_name_is one i).position.place rules.Selected)
method_opened_by_is site d one ty (Some found) = λ i.
    asking (rule (broken (place_is one i) rules.Bodies) (may_follow site (slice_get d.routines found.routine.number) ty) (may_follow site (slice_get d.routines found.routine.number) ty ≡ true) tt)
    (method_begun_is d one ty found i)

abbrev pub method_opened : Site → Drafted → w.Heading → Identifier → Judgement Opened
method_opened site d one owner =
    part (type_named d.scope owner.position.place owner.name) (λ ty. method_opened_by site d one ty (own_method (definition d.scope.types.types ty) one.name.name))

opened_with : (site : Site) (d : Drafted) (one : MethodHeader) (ty : TypeId)
    → methods.method_opened_by site d one ty (own_method (definition d.scope.types.types ty) (objects.name_of one).name)
    ≡ method_opened_by site d (method_heading one) ty (own_method (definition d.scope.types.types ty) (method_heading one).name.name)
opened_with site d one ty =
    method_opened_by_is site d one ty (own_method (definition d.scope.types.types ty) (objects.name_of one).name)
    ∙ (λ i. method_opened_by site d (method_heading one) ty (own_method (definition d.scope.types.types ty) (method_name_is one i).name))

pub method_opened_is : (site : Site) (d : Drafted) (one : MethodHeader) (owner : Identifier) → methods.method_opened site d one owner ≡ method_opened site d (method_heading one) owner
unfolding methods.method_opened
method_opened_is site d one owner i = part (type_named d.scope owner.position.place owner.name) (λ ty. opened_with site d one ty i)
