-- Calls of routines: an argument for each parameter, in order.
use Rattle.std.specs.Prelude.{◌≡◌, ◌⊎◌, ◌==◌, ◌||◌, Bool, true, false, List, [], ◌∷◌, Option, Some, None}
use Rattle.type_layout.specs.declared.definitions.TypeId.{TypeId}
use Rattle.type_layout.specs.declared.definitions.RoutineId.{RoutineId}
use Rattle.type_layout.specs.declared.definitions.Param.{Param}
use Rattle.type_layout.specs.declared.definitions.Header.{Header}
use Rattle.type_layout.specs.declared.definitions.TypeDef.{TypeDef}
use Rattle.type_layout.specs.declared.definitions.TypeDef.TheVariants as type
use Rattle.type_layout.specs.declared.texts.Place.{Place}
use Rattle.typed_tree.specs.declared.expressions.Arg.{Arg}
use Rattle.typed_tree.specs.declared.expressions.Arg.TheVariants as arg
use Rattle.typed_tree.specs.Expressions as tree
use Rattle.typed_tree.specs.Expressions.{Expression, Arguments, NoArguments, ByValue, ByPlace, Load, Call, NoReceiver, type_of, view_expr, view_place}
use Rattle.typed_tree.specs.type_fits.Fits.{definition}
use Rattle.typing_rules.specs.declared.faults.Rule.TheVariants as rules
use Rattle.typing_rules.specs.Faults.{broken}
use Rattle.typing_rules.specs.Judgements.{Judgement, makes, refuses, rule, part, parts}
use Rattle.typing_rules.specs.Sorts.{sort_of_type, sort_of}
use Rattle.typing_rules.specs.Wanted.{stored_of}
use Rattle.typing_rules.specs.Joins.{IsLine, is_line}
use Rattle.typing_rules.specs.Assignments.{IsAssignable, is_assignable, assigned_by}

-- an argument: a value, or the place that a `var` parameter takes
pub data Handed : Type 0 where
  value : Expression → Handed
  place_of : tree.Place → Handed

abbrev pub view_handed : Arg → Handed
view_handed (arg.Value one) = value (view_expr one)
view_handed (arg.Place at) = place_of (view_place at)

-- arguments as a node has them
abbrev pub onto : Handed → Arguments → Arguments
onto (value one) rest = ByValue one rest
onto (place_of at) rest = ByPlace at rest

abbrev pub arguments_of : List Handed → Arguments
arguments_of [] = NoArguments
arguments_of (one ∷ rest) = onto one (arguments_of rest)

-- ---- one argument

-- a value joins its parameter as one that is assigned joins its target
abbrev pub by_value : List TypeDef → Place → Bool → TypeId → Expression → Judgement Handed
by_value types place checked ty e =
    rule (broken place rules.Called) (is_assignable types (sort_of_type types ty) (sort_of types e) ty (type_of e)) (IsAssignable types (sort_of_type types ty) (sort_of types e) ty (type_of e))
    (value (assigned_by ty (definition types ty) (stored_of types e) checked e))

-- a variable of the very type, or of a descendant of an object type
abbrev pub IsVariableFor : List TypeDef → TypeId → TypeId → Type 0
IsVariableFor types ty own = (own.0 ≡ ty.0) ⊎ IsLine types own ty

abbrev pub is_variable_for : List TypeDef → TypeId → TypeId → Bool
is_variable_for types ty own = own.0 == ty.0 || is_line types own ty

abbrev pub by_place : List TypeDef → Place → TypeId → Expression → Judgement Handed
by_place types place ty (Load own at) = rule (broken place rules.Called) (is_variable_for types ty own) (IsVariableFor types ty own) (place_of at)
by_place types place ty e = refuses (broken place rules.Called)

abbrev pub by_kind : List TypeDef → Place → Bool → TypeId → Bool → Expression → Judgement Handed
by_kind types place checked ty true e = by_place types place ty e
by_kind types place checked ty false e = by_value types place checked ty e

-- an argument by its parameter
unfoldable pub handed : List TypeDef → Place → Bool → Param → Expression → Judgement Handed
handed types place checked param e = by_kind types place checked param.ty param.by_ref e

-- ---- all arguments

-- as many as there are parameters, each by its own
abbrev pub given : List TypeDef → Place → Bool → List Param → List Expression → Judgement (List Handed)
given types place checked [] [] = makes []
given types place checked (param ∷ params) (e ∷ es) =
    parts (handed types place checked param e) (given types place checked params es) (λ one rest. makes (one ∷ rest))
given types place checked _ _ = refuses (broken place rules.Called)

-- ---- calls

-- a function gives a value; a procedure stands in no expression
abbrev pub result_called : List TypeDef → Place → Bool → RoutineId → Header → Option TypeId → List Expression → Judgement Expression
result_called types place checked routine header None es = refuses (broken place rules.Stands)
result_called types place checked routine header (Some ty) es =
    part (given types place checked header.params es) (λ all. makes (Call (Some ty) routine NoReceiver (arguments_of all)))

-- The call of a function at a place. With `checked`, values that are handed over lie within the bounds of their parameters.
unfoldable pub called : List TypeDef → Place → Bool → RoutineId → Header → List Expression → Judgement Expression
called types place checked routine header es = result_called types place checked routine header header.result es

-- a procedure is a statement; a function stands for a value alone
abbrev pub result_performed : List TypeDef → Place → Bool → RoutineId → Header → Option TypeId → List Expression → Judgement Expression
result_performed types place checked routine header None es =
    part (given types place checked header.params es) (λ all. makes (Call None routine NoReceiver (arguments_of all)))
result_performed types place checked routine header (Some ty) es = refuses (broken place rules.Stands)

-- the call of a procedure, in the same way
unfoldable pub performed : List TypeDef → Place → Bool → RoutineId → Header → List Expression → Judgement Expression
performed types place checked routine header es = result_performed types place checked routine header header.result es
