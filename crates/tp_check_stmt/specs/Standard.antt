-- Standard routines as statements.
use Rattle.std.specs.Prelude.{ℕ, ◌==◌, pos, Bool, true, false, cond, List, [], ◌∷◌, Option, Some, None}
use Rattle.type_layout.specs.declared.definitions.TypeDef.{TypeDef}
use Rattle.type_layout.specs.declared.texts.Place.{Place}
use Rattle.pascal_grammar.specs.declared.lexeme.Position.{Position}
use Rattle.syntax_tree.specs.expression_tree.Trees.{Tree, Operand, Operands, plain, wide, no_operands, and_operand, view_expression}
use Rattle.syntax_tree.specs.statement_tree.Places.{place_of}
use Rattle.typed_tree.specs.declared.expressions.Value.TheVariants as value
use Rattle.typed_tree.specs.Expressions.{Expression, Const}
use Rattle.typed_tree.specs.Statements.{Statement, Written, Taken, Run, WriteItems, ReadItems, Halt, Exit}
use Rattle.typed_tree.specs.Standard as routine
use Rattle.scopes.specs.Environment.{Environment}
use Rattle.typing_rules.specs.declared.faults.Rule.TheVariants as rules
use Rattle.typing_rules.specs.Faults.{broken}
use Rattle.typing_rules.specs.Judgements.{Judgement, makes, refuses, rule, either, part, parts}
use Rattle.typing_rules.specs.Sorts.{integer, sort_of_type, sort_of}
use Rattle.typing_rules.specs.Plans.{IsInteger, is_integer}
use Rattle.tp_check_expr.specs.Typed.{judged}
use Rattle.tp_check_stmt.specs.declared.standard.StandardStatement.{StandardStatement}
use Rattle.tp_check_stmt.specs.declared.standard.StandardStatement.TheVariants as standard
use Rattle.tp_check_stmt.specs.declared.allocations.PlainPair.{PlainPair}
use Rattle.tp_check_stmt.specs.Lists.{each}
use Rattle.tp_check_stmt.specs.Places.{Spot, spot_of}
use Rattle.tp_check_stmt.specs.Asked.{written_value, width, IsReadable, is_readable}
use Rattle.call_rules.specs.procedure_rules.Procedures.{standard_performed, told}
use Rattle.call_rules.specs.allocation_rules.Allocations.{Unmaker, destructor_of, unmade}
use Rattle.tp_check_expr.specs.Typed.{all_given, made_by}
use Rattle.tp_check_stmt.specs.Arguments.{sized, NamedCall, named_call}
use Rattle.tp_check_stmt.specs.Assignments.{assigned_to}

-- ---- Write and Read

abbrev pub item : Environment → Operand → Judgement Written
item g (plain one) = part (written_value g one) (λ e. makes (record { value = e; width = None }))
item g (wide one by) = parts (written_value g one) (width g by) (λ e w. makes (record { value = e; width = Some w }))

abbrev pub written : Environment → Bool → Operands → Judgement Statement
written g line all = part (each (item g) all) (λ items. makes (WriteItems items line))

-- a variable, or a part of one, of what can be read
abbrev pub taken_from : List TypeDef → Place → Bool → Option Spot → Judgement Taken
taken_from types place checked None = refuses (broken place rules.Read)
taken_from types place checked (Some from) =
    rule (broken place rules.Read) (is_readable (sort_of_type types from.ty)) (IsReadable (sort_of_type types from.ty))
    (record { at = from.at; ty = from.ty; checked = checked })

abbrev pub taken_one : Environment → Position → Operand → Judgement Taken
taken_one g here (plain one) = part (judged g one) (λ e. taken_from g.types.types (place_of one) here.switches.r (spot_of e))
taken_one g here (wide one by) = parts (judged g one) (judged g by) (λ e w. refuses (broken here.place rules.Called))

abbrev pub taken : Environment → Position → Bool → Operands → Judgement Statement
taken g here line all = part (each (taken_one g here) all) (λ items. makes (ReadItems items line))

-- ---- Halt and Exit

-- values of arguments of which nothing is known
abbrev pub values : Environment → Position → Operands → Judgement (List Expression)
values g here all = all_given g here [] all

-- an integer, or nothing for 0
abbrev pub halted : List TypeDef → Place → List Expression → Judgement Statement
halted types place [] = makes (Halt (Const integer (value.Number (pos 0))))
halted types place (e ∷ []) = rule (broken place rules.Called) (is_integer (sort_of types e)) (IsInteger (sort_of types e)) (Halt e)
halted types place _ = refuses (broken place rules.Called)

abbrev pub left : Place → List Expression → Judgement Statement
left place [] = makes Exit
left place _ = refuses (broken place rules.Called)

-- ---- standard procedures

-- Str: an integer, with a width or without, and a string
abbrev pub told_of : List TypeDef → Place → Written → Written → Judgement Statement
told_of types place one to = part (told types place one to) (λ e. makes (Run e))

-- other arguments than those that are asked for
abbrev pub misgiven : Environment → Position → Operands → Judgement Statement
misgiven g here all = part (values g here all) (λ es. refuses (broken here.place rules.Called))

abbrev pub told_first : Environment → Position → Operand → Operands → Judgement Statement
told_first g here one no_operands = misgiven g here (and_operand one no_operands)
told_first g here one (and_operand to rest) = parts (sized g one) (sized g to) (told_of g.types.types here.place)

abbrev pub told_two : Environment → Position → Operands → Judgement Statement
told_two g here no_operands = misgiven g here no_operands
told_two g here (and_operand one rest) = told_first g here one rest

abbrev pub is_none : Operands → Bool
is_none no_operands = true
is_none (and_operand one rest) = false

abbrev pub is_one : Operands → Bool
is_one no_operands = false
is_one (and_operand one rest) = is_none rest

abbrev pub are_two : Operands → Bool
are_two no_operands = false
are_two (and_operand one rest) = is_one rest

abbrev pub telling : Environment → Position → Operands → Judgement Statement
telling g here all = either (are_two all) (told_two g here all) (misgiven g here all)

-- another one
abbrev pub proceeding : Environment → Position → ℕ → Operands → Judgement Statement
proceeding g here number all = part (values g here all) (λ es. part (standard_performed g.types.types here.place number es) (λ e. makes (Run e)))

-- ---- New with a constructor, and Dispose with a destructor

-- a new block is assigned to a variable
abbrev pub made_to : Environment → Position → Tree → Option Spot → Judgement Statement
made_to g here two None = refuses (broken here.place rules.Called)
made_to g here two (Some to) = part (made_by g here.place to.ty two) (λ e. assigned_to g.types.types here to e)

abbrev pub creating : Environment → Position → Tree → Tree → Judgement Statement
creating g here one two = part (judged g one) (λ e. made_to g here two (spot_of e))

abbrev pub ended_with : Environment → Expression → NamedCall → Unmaker → Judgement Statement
ended_with g e one d = part (all_given g one.at d.header.params one.given) (λ es. unmade g.types.types one.at.place one.at.switches.r e d es)

abbrev pub ended_by : Environment → Position → Expression → Option NamedCall → Judgement Statement
ended_by g here e None = refuses (broken here.place rules.Allocating)
ended_by g here e (Some one) = part (destructor_of g here.place e one.word) (ended_with g e one)

-- a destructor is called on what a pointer points to
abbrev pub ending : Environment → Position → Tree → Tree → Judgement Statement
ending g here one two = part (judged g one) (λ e. ended_by g here e (named_call two))

-- whether a standard routine is New
abbrev pub is_creating : ℕ → Bool
is_creating number = number == routine.new

-- two arguments without widths
pub record Pair : Type 0 where
  pub first : Tree
  pub second : Tree

abbrev pub view_pair : PlainPair → Pair
view_pair one = record { first = view_expression one.first.now; second = view_expression one.second.now }

abbrev pub pair : Tree → Tree → Pair
pair first second = record { first = first; second = second }

abbrev pub plain_pair : Operands → Option Pair
plain_pair (and_operand (plain first) (and_operand (plain second) no_operands)) = Some (pair first second)
plain_pair _ = None

abbrev pub managed : Environment → Position → ℕ → Operands → Option Pair → Judgement Statement
managed g here number all None = proceeding g here number all
managed g here number all (Some two) = either (is_creating number) (creating g here two.first two.second) (ending g here two.first two.second)

abbrev pub managing : Environment → Position → ℕ → Operands → Judgement Statement
managing g here number all = managed g here number all (plain_pair all)

-- ---- standard routines

-- which statement a standard routine is, by its number
abbrev pub standard_of : ℕ → StandardStatement
standard_of n =
    cond (n == routine.write) (standard.Write false) (cond (n == routine.write_ln) (standard.Write true)
    (cond (n == routine.read) (standard.Read false) (cond (n == routine.read_ln) (standard.Read true)
    (cond (n == routine.halt) standard.Halt (cond (n == routine.exit) standard.Exit (cond (n == routine.str) standard.Str
    (cond (n == routine.new) standard.Heap (cond (n == routine.dispose) standard.Heap standard.Other))))))))

-- a function is no statement
abbrev pub standard_run : Environment → Position → ℕ → StandardStatement → Operands → Judgement Statement
standard_run g here n (standard.Write line) all = written g line all
standard_run g here n (standard.Read line) all = taken g here line all
standard_run g here n standard.Halt all = part (values g here all) (λ es. halted g.types.types here.place es)
standard_run g here n standard.Exit all = part (values g here all) (λ es. left here.place es)
standard_run g here n standard.Str all = telling g here all
standard_run g here n standard.Heap all = managing g here n all
standard_run g here n standard.Other all = proceeding g here n all
