-- Headers of routines and methods.
use Rattle.std.specs.Prelude.{ℕ, ◌+◌, ◌≤◌, nat_le, Bool, true, false, cond, List, Option, Some, None, sum_by}
use Rattle.type_layout.specs.declared.definitions.TypeId.{TypeId}
use Rattle.type_layout.specs.declared.definitions.Param.{Param}
use Rattle.type_layout.specs.declared.definitions.Kind.{Kind}
use Rattle.type_layout.specs.declared.definitions.Kind.TheVariants as kind
use Rattle.type_layout.specs.declared.definitions.Header.{Header}
use Rattle.type_layout.specs.declared.definitions.TypeDef.{TypeDef}
use Rattle.type_layout.specs.declared.texts.Place.{Place}
use Rattle.syntax_tree.specs.declared.type_tree.parameter.NamedType.{NamedType}
use Rattle.syntax_tree.specs.declared.type_tree.parameter.ParameterGroup.{ParameterGroup}
use Rattle.syntax_tree.specs.declared.type_tree.parameter.MethodHeader.{MethodHeader}
use Rattle.syntax_tree.specs.declared.type_tree.parameter.MethodHeader.TheVariants as method
use Rattle.syntax_tree.specs.declared.source_tree.declaration.RoutineHeader.{RoutineHeader}
use Rattle.syntax_tree.specs.declared.source_tree.declaration.RoutineHeader.TheVariants as routine
use Rattle.typed_tree.specs.Slots.{capped}
use Rattle.typed_tree.specs.Frames.{param_bytes, class_argument, result_argument}
use Rattle.scopes.specs.Environment.{Environment}
use Rattle.typing_rules.specs.declared.faults.Rule.TheVariants as rules
use Rattle.typing_rules.specs.declared.sorts.Sort.{Sort}
use Rattle.typing_rules.specs.declared.sorts.Sort.TheVariants as sort
use Rattle.typing_rules.specs.Faults.{broken, too_large}
use Rattle.typing_rules.specs.Judgements.{Judgement, refuses, rule, part, parts}
use Rattle.typing_rules.specs.Sorts.{sort_of_type}
use Rattle.declaration_checker.specs.headers.Names.{named_type}
use Rattle.declaration_checker.specs.headers.Parameters.{parameters}

-- ---- results

-- an ordinal, a pointer or a string
abbrev pub IsResult : Sort → Type 0
IsResult (sort.Set base) = ⊥
IsResult sort.Nil = ⊥
IsResult sort.Other = ⊥
IsResult _ = Unit {0}

abbrev pub is_result : Sort → Bool
is_result (sort.Set base) = false
is_result sort.Nil = false
is_result sort.Other = false
is_result _ = true

-- the result of a function that begins at a place
abbrev pub result_of : Environment → Place → Option NamedType → Judgement TypeId
result_of g place None = refuses (broken place rules.ResultType)
result_of g place (Some one) =
    part (named_type g one) (λ ty. rule (broken place rules.ResultType) (is_result (sort_of_type g.types.types ty)) (IsResult (sort_of_type g.types.types ty)) ty)

-- ---- headers

-- The bytes of the arguments of a call: those of the parameters, Self of a method, the class of a constructor or destructor,
-- and where a string goes that is the result. What passes 64 bits is counted as the greatest number of these.
abbrev pub header_bytes : List TypeDef → Bool → Header → ℕ
header_bytes types is_method header =
    capped (sum_by (param_bytes types) header.params + (cond is_method 4 0 + (class_argument header.kind + result_argument types header.result)))

abbrev pub of_parts : Kind → List Param → Option TypeId → Header
of_parts kind params result = record { kind = kind; params = params; result = result }

-- no more bytes of arguments than may be
abbrev pub limited : List TypeDef → Bool → Place → Header → Judgement Header
limited types is_method place header =
    rule (too_large place (header_bytes types is_method header)) (nat_le (header_bytes types is_method header) 256)
    (header_bytes types is_method header ≤ 256) header

abbrev pub procedure_header : Environment → Bool → Place → Kind → List ParameterGroup → Judgement Header
procedure_header g is_method place kind groups =
    part (parameters g groups) (λ params. limited g.types.types is_method place (of_parts kind params None))

abbrev pub function_header : Environment → Bool → Place → List ParameterGroup → Option NamedType → Judgement Header
function_header g is_method place groups result =
    parts (parameters g groups) (result_of g place result) (λ params ty. limited g.types.types is_method place (of_parts kind.Function params (Some ty)))

-- the header of a routine that is no method
abbrev pub routine_header : Environment → RoutineHeader → Judgement Header
routine_header g (routine.Procedure here name groups) = procedure_header g false here.place kind.Procedure groups.items
routine_header g (routine.Function here name groups result) = function_header g false here.place groups.items result

-- the header of a method
abbrev pub method_header : Environment → MethodHeader → Judgement Header
method_header g (method.Procedure here name groups) = procedure_header g true here.place kind.Procedure groups.items
method_header g (method.Function here name groups result) = function_header g true here.place groups.items result
method_header g (method.Constructor here name groups) = procedure_header g true here.place kind.Constructor groups.items
method_header g (method.Destructor here name groups) = procedure_header g true here.place kind.Destructor groups.items
