-- Variables by their levels, and what a designator stands for.
use Rattle.std.specs.Prelude.{ℕ, ◌+◌, ◌-◌, ◌==◌, Bool, true, false, cond, count_by, List, [], Option, Some, None}
use Rattle.type_layout.specs.declared.definitions.TypeId.{TypeId}
use Rattle.type_layout.specs.declared.definitions.TypeDef.{TypeDef}
use Rattle.type_layout.specs.declared.definitions.RoutineId.{RoutineId}
use Rattle.type_layout.specs.declared.definitions.Header.{Header}
use Rattle.type_layout.specs.declared.definitions.Param.{Param}
use Rattle.type_layout.specs.declared.texts.Place.{Place}
use Rattle.pascal_grammar.specs.declared.lexeme.Position.{Position}
use Rattle.typed_tree.specs.declared.expressions.Value.{Value}
use Rattle.typed_tree.specs.declared.expressions.Value.TheVariants as value
use Rattle.typed_tree.specs.declared.expressions.Variable.{Variable}
use Rattle.typed_tree.specs.Expressions.{Expression, Const, Load, Var}
use Rattle.typed_tree.specs.type_fits.Fits.{definition}
use Rattle.scopes.specs.declared.entries.Entry.{Entry}
use Rattle.scopes.specs.declared.entries.Entry.TheVariants as entry
use Rattle.scopes.specs.declared.entries.BlockKind.{BlockKind}
use Rattle.scopes.specs.declared.entries.BlockKind.TheVariants as block
use Rattle.scopes.specs.declared.searches.OpenBlock.{OpenBlock}
use Rattle.scopes.specs.Environment.{Environment}
use Rattle.typing_rules.specs.declared.faults.Fault.{Fault}
use Rattle.typing_rules.specs.declared.faults.Rule.TheVariants as rule
use Rattle.typing_rules.specs.Faults.{broken}
use Rattle.typing_rules.specs.Judgements.{Judgement, makes, refuses, either}
use Rattle.typing_rules.specs.Wanted.{constant}
use Rattle.typing_rules.specs.Assignments.{is_procedural}
use Rattle.call_rules.specs.Given.{called}
use Rattle.call_rules.specs.standard_rules.Standard.{is_special, standard}
use Rattle.call_rules.specs.procedural_rules.Through.{settled}
use Rattle.call_rules.specs.procedural_rules.Values.{routine_value}
use Rattle.tp_check_expr.specs.declared.names.Purpose.{Purpose}
use Rattle.tp_check_expr.specs.declared.names.Purpose.TheVariants as purpose

-- ---- variables by levels

abbrev pub is_of_routine : BlockKind → Bool
is_of_routine (block.Routine number owner) = true
is_of_routine _ = false

abbrev pub is_routine : OpenBlock → Bool
is_routine one = is_of_routine one.kind

-- how many of the open blocks are routines'
abbrev pub routine_depth : List OpenBlock → ℕ
routine_depth blocks = count_by is_routine blocks

-- the depth with one block more
abbrev pub deeper : Option BlockKind → ℕ → ℕ
deeper None depth = depth
deeper (Some kind) depth = cond (is_of_routine kind) (depth + 1) depth

-- The level of a variable in a node: 0 of a global; else one more than the static links that lead to its routine, from a
-- routine at this depth to one at that.
abbrev pub level_from : ℕ → ℕ → ℕ
level_from depth level = cond (level == 0) 0 (depth - level + 1)

abbrev pub variable : Environment → ℕ → ℕ → ℕ → Variable
variable g unit level number = record { unit = unit; level = level_from (routine_depth g.blocks) level; number = number }

-- ---- what a designator stands for

-- a routine where a procedural type is wanted, else a value; of another type this fault is told
abbrev pub purpose_for : List TypeDef → TypeId → Fault → Purpose
purpose_for types ty fault = cond (is_procedural (definition types ty)) (purpose.Routine ty fault) purpose.Value

-- an argument by its parameter: a routine by value where that is of a procedural type, or a variable that holds one
abbrev pub purpose_of : List TypeDef → Place → Option Param → Purpose
purpose_of types place None = purpose.Value
purpose_of types place (Some param) =
    cond param.by_ref (cond (is_procedural (definition types param.ty)) purpose.Variable purpose.Value) (purpose_for types param.ty (broken place rule.Called))

-- a variable, or a part of one
abbrev pub as_wanted : List TypeDef → Place → Purpose → Expression → Judgement Expression
as_wanted types place purpose.Value x = settled types place x
as_wanted types place _ x = makes x

-- a routine of the sources: a call of it without arguments, or itself
abbrev pub routine_wanted : Environment → Position → Purpose → RoutineId → ℕ → Header → Bool → Judgement Expression
routine_wanted g here (purpose.Routine ty fault) routine level header far = routine_value g here.place fault ty routine level header far
routine_wanted g here _ routine level header far = called g.types.types here.place here.switches.r routine header []

-- those that take types are not without arguments
abbrev pub standard_called : List TypeDef → Place → ℕ → Judgement Expression
standard_called types place number = either (is_special number) (refuses (broken place rule.Called)) (standard types place number [])

-- a standard routine is no value of a procedural type
abbrev pub standard_wanted : List TypeDef → Place → Purpose → ℕ → Judgement Expression
standard_wanted types place (purpose.Routine ty fault) number = refuses (broken place rule.RoutineValue)
standard_wanted types place _ number = standard_called types place number

-- ---- what is declared under a name

-- a named constant; an integer has the first type that holds it
abbrev pub named_constant : List TypeDef → TypeId → Value → Expression
named_constant types ty (value.Number n) = constant types ty n
named_constant types ty v = Const ty v

abbrev pub entered : Environment → Position → Purpose → Entry → Judgement Expression
entered g here for (entry.Const ty v) = makes (named_constant g.types.types ty v)
entered g here for (entry.Var unit level number ty) = as_wanted g.types.types here.place for (Load ty (Var (variable g unit level number)))
entered g here for (entry.Ty ty) = refuses (broken here.place rule.Stands)
entered g here for (entry.Code routine level header far) = routine_wanted g here for routine level header far
entered g here for (entry.Std number) = standard_wanted g.types.types here.place for number
