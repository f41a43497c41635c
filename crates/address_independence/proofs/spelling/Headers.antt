-- Headers are judged by what is written in them.
use Rattle.std.proofs.Common.{◌≡◌, Bool, true, false, List, [], ◌∷◌, Option, Some, None, refl}
use Rattle.tp_check_decl.specs.type_layout.declared.definitions.Param.{Param}
use Rattle.tp_check_decl.specs.type_layout.declared.definitions.Header.{Header}
use Rattle.tp_check_decl.specs.type_layout.declared.definitions.Kind.{Kind}
use Rattle.tp_check_decl.specs.type_layout.declared.definitions.Kind.TheVariants as kind
use Rattle.tp_check_decl.specs.type_layout.declared.texts.Place.{Place}
use Rattle.tp_check_decl.specs.syntax_tree.declared.type_tree.parameter.NamedType.{NamedType}
use Rattle.tp_check_decl.specs.syntax_tree.declared.type_tree.parameter.ParameterGroup.{ParameterGroup}
use Rattle.tp_check_decl.specs.syntax_tree.declared.type_tree.parameter.ParameterGroup.TheVariants as group
use Rattle.tp_check_decl.specs.syntax_tree.declared.type_tree.parameter.MethodHeader.{MethodHeader}
use Rattle.tp_check_decl.specs.syntax_tree.declared.type_tree.parameter.MethodHeader.TheVariants as m
use Rattle.tp_check_decl.specs.syntax_tree.declared.source_tree.declaration.RoutineHeader.{RoutineHeader}
use Rattle.tp_check_decl.specs.syntax_tree.declared.source_tree.declaration.RoutineHeader.TheVariants as h
use Rattle.tp_check_decl.specs.scopes.Environment.{Environment}
use Rattle.tp_check_decl.specs.typing_rules.Judgements.{Judgement, makes, part, parts}
use Rattle.tp_check_decl.specs.declaration_checker.headers.Names.{named_type}
use Rattle.tp_check_decl.specs.declaration_checker.headers.Parameters as plain
use Rattle.tp_check_decl.specs.declaration_checker.headers.Parameters.{names_onto}
use Rattle.tp_check_decl.specs.declaration_checker.headers.Headers as headers
use Rattle.tp_check_decl.specs.declaration_checker.headers.Headers.{result_of, of_parts, limited}
use Rattle.address_independence.specs.yields.Written as w
use Rattle.address_independence.specs.yields.Trees.{group_in, groups_in, heading_in, method_heading}

-- ---- parameters

abbrev group_onto : Environment → List Param → w.Group → Judgement (List Param)
group_onto g params one = part (named_type g one.of_type) (λ ty. names_onto params one.by_ref ty one.names)

abbrev groups_onto : Environment → List Param → List w.Group → Judgement (List Param)
groups_onto g params [] = makes params
groups_onto g params (one ∷ rest) = part (group_onto g params one) (λ all. groups_onto g all rest)

abbrev parameters : Environment → List w.Group → Judgement (List Param)
parameters g groups = groups_onto g [] groups

group_is : (g : Environment) (params : List Param) (one : ParameterGroup) → plain.group_onto g params one ≡ group_onto g params (group_in one)
group_is g params (group.Variable here names of_type) = refl
group_is g params (group.Value names of_type) = refl

groups_are : (g : Environment) (params : List Param) (all : List ParameterGroup) → plain.groups_onto g params all ≡ groups_onto g params (groups_in all)
groups_are g params [] = refl
groups_are g params (one ∷ rest) = λ i. part (group_is g params one i) (λ all. groups_are g all rest i)

-- ---- headers

abbrev pub procedure_header : Environment → Bool → Place → Kind → List w.Group → Judgement Header
procedure_header g is_method place kind groups =
    part (parameters g groups) (λ params. limited g.types.types is_method place (of_parts kind params None))

abbrev pub function_header : Environment → Bool → Place → List w.Group → Option NamedType → Judgement Header
function_header g is_method place groups result =
    parts (parameters g groups) (result_of g place result) (λ params ty. limited g.types.types is_method place (of_parts kind.Function params (Some ty)))

pub procedure_is : (g : Environment) (is_method : Bool) (place : Place) (kind : Kind) (all : List ParameterGroup)
    → headers.procedure_header g is_method place kind all ≡ procedure_header g is_method place kind (groups_in all)
procedure_is g is_method place kind all = λ i. part (groups_are g [] all i) (λ params. limited g.types.types is_method place (of_parts kind params None))

pub function_is : (g : Environment) (is_method : Bool) (place : Place) (all : List ParameterGroup) (result : Option NamedType)
    → headers.function_header g is_method place all result ≡ function_header g is_method place (groups_in all) result
function_is g is_method place all result =
    λ i. parts (groups_are g [] all i) (result_of g place result) (λ params ty. limited g.types.types is_method place (of_parts kind.Function params (Some ty)))

abbrev sorted_header : Environment → Bool → w.Sort → Place → List w.Group → Option NamedType → Judgement Header
sorted_header g is_method w.procedure place groups result = procedure_header g is_method place kind.Procedure groups
sorted_header g is_method w.function place groups result = function_header g is_method place groups result
sorted_header g is_method w.constructor place groups result = procedure_header g is_method place kind.Constructor groups
sorted_header g is_method w.destructor place groups result = procedure_header g is_method place kind.Destructor groups

abbrev pub header_of : Environment → Bool → w.Heading → Judgement Header
header_of g is_method one = sorted_header g is_method one.sort one.position.place one.groups one.result

pub routine_header_is : (g : Environment) (one : RoutineHeader) → headers.routine_header g one ≡ header_of g false (heading_in one)
routine_header_is g (h.Procedure here name groups) = procedure_is g false here.place kind.Procedure groups.items
routine_header_is g (h.Function here name groups result) = function_is g false here.place groups.items result

pub method_header_is : (g : Environment) (one : MethodHeader) → headers.method_header g one ≡ header_of g true (method_heading one)
method_header_is g (m.Procedure here name groups) = procedure_is g true here.place kind.Procedure groups.items
method_header_is g (m.Function here name groups result) = function_is g true here.place groups.items result
method_header_is g (m.Constructor here name groups) = procedure_is g true here.place kind.Constructor groups.items
method_header_is g (m.Destructor here name groups) = procedure_is g true here.place kind.Destructor groups.items
