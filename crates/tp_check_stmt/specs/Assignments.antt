-- Assignments: what may be assigned to, and the node.
use Rattle.std.specs.Prelude.{ℕ, ◌+◌, ◌==◌, ◌&&◌, Bool, true, false, length, List, Option, Some, None}
use Rattle.std.specs.List.{list_any}
use Rattle.type_layout.specs.declared.definitions.TypeId.{TypeId}
use Rattle.type_layout.specs.declared.definitions.RoutineId.{RoutineId}
use Rattle.type_layout.specs.declared.definitions.Header.{Header}
use Rattle.type_layout.specs.declared.definitions.Method.{Method}
use Rattle.type_layout.specs.declared.definitions.TypeDef.{TypeDef}
use Rattle.type_layout.specs.declared.definitions.TypeDef.TheVariants as type
use Rattle.type_layout.specs.declared.texts.Place.{Place}
use Rattle.pascal_grammar.specs.declared.lexeme.Position.{Position}
use Rattle.syntax_tree.specs.expression_tree.Trees.{Tree, name}
use Rattle.syntax_tree.specs.statement_tree.Places.{place_of}
use Rattle.typed_tree.specs.Expressions as tree
use Rattle.typed_tree.specs.Expressions.{Expression, Var}
use Rattle.typed_tree.specs.Statements.{Statement, Assign, CopyAll}
use Rattle.scopes.specs.declared.entries.Entry.{Entry}
use Rattle.scopes.specs.declared.entries.Entry.TheVariants as entry
use Rattle.scopes.specs.declared.entries.BlockKind.{BlockKind}
use Rattle.scopes.specs.declared.entries.BlockKind.TheVariants as block
use Rattle.scopes.specs.declared.searches.OpenBlock.{OpenBlock}
use Rattle.scopes.specs.Environment.{Environment, Meaning, named, member, find, kind_of}
use Rattle.scopes.specs.declared.members.Member.{Member}
use Rattle.scopes.specs.Members.{narrow}
use Rattle.typed_tree.specs.type_fits.Fits.{definition}
use Rattle.typing_rules.specs.declared.faults.Rule.TheVariants as rules
use Rattle.typing_rules.specs.Faults.{broken}
use Rattle.typing_rules.specs.Judgements.{Judgement, makes, refuses, either, part}
use Rattle.typing_rules.specs.Assignments.{assigned}
use Rattle.tp_check_expr.specs.Names.{variable}
use Rattle.tp_check_expr.specs.Typed.{judged_as}
use Rattle.call_rules.specs.method_rules.Methods.{method_in, routine_in}
use Rattle.tp_check_expr.specs.declared.names.Purpose.TheVariants as purpose
use Rattle.tp_check_stmt.specs.Places.{Spot, spot_of, present}

-- ---- what is assigned to

-- a variable, or a part of one
abbrev pub held_target : Environment → Tree → Judgement Spot
held_target g tree = part (judged_as g purpose.Variable tree) (λ e. present (broken (place_of tree) rules.Target) (spot_of e))

abbrev pub is_body_of : ℕ → BlockKind → Bool
is_body_of number (block.Routine own owner) = own == number
is_body_of number _ = false

abbrev pub is_body_at : ℕ → Option BlockKind → Bool
is_body_at number None = false
is_body_at number (Some kind) = is_body_of number kind

abbrev pub is_open_body : ℕ → OpenBlock → Bool
is_open_body number one = is_body_of number one.kind

-- whether a routine of the unit itself is open round here
abbrev pub is_inside : Environment → RoutineId → Bool
is_inside g routine = (routine.unit == 0) && list_any (is_open_body routine.number) g.blocks

-- the result of a function, behind its parameters, from a place inside its body; the function is declared at this level
abbrev pub result_spot : Environment → ℕ → Header → TypeId → Spot
result_spot g level header ty = record { ty = ty; at = Var (variable g 0 (narrow (level + 1)) (narrow (length header.params))) }

-- A function is assigned to within its body. A procedure has no result.
abbrev pub result_target : Environment → Place → RoutineId → ℕ → Header → Option TypeId → Judgement Spot
result_target g place routine level header None = refuses (broken place rules.Target)
result_target g place routine level header (Some ty) =
    either (is_inside g routine) (makes (result_spot g level header ty)) (refuses (broken place rules.Target))

-- the result of a method, behind its parameters and Self, from a place inside its body
abbrev pub method_spot : Environment → Header → TypeId → Spot
method_spot g header ty = record { ty = ty; at = Var (variable g 0 1 (narrow (length header.params + 1))) }

abbrev pub method_result : Environment → Place → Header → Option TypeId → Judgement Spot
method_result g place header None = refuses (broken place rules.Target)
method_result g place header (Some ty) = makes (method_spot g header ty)

-- whether a routine of the unit itself has this number
abbrev pub is_numbered : ℕ → Option RoutineId → Bool
is_numbered number None = false
is_numbered number (Some routine) = (routine.unit == 0) && (routine.number == number)

-- A method is assigned to within its own body, which is that of the block where its name is found.
abbrev pub method_target : Environment → Place → Option BlockKind → Option Method → Judgement Spot
method_target g place (Some (block.Routine number owner)) (Some method) =
    either (is_numbered number (routine_in g method.routine)) (method_result g place method.header method.header.result) (refuses (broken place rules.Target))
method_target g place kind method = refuses (broken place rules.Target)

-- what a name stands for as a variable, or the result of a function
abbrev pub entry_target : Environment → Place → Tree → Entry → Judgement Spot
entry_target g place tree (entry.Const ty value) = held_target g tree
entry_target g place tree (entry.Ty ty) = refuses (broken place rules.Target)
entry_target g place tree (entry.Var unit level number ty) = held_target g tree
entry_target g place tree (entry.Code routine level header far) = result_target g place routine level header header.result
entry_target g place tree (entry.Std number) = refuses (broken place rules.Target)

abbrev pub member_target : Environment → Place → Tree → ℕ → Member → List ℕ → Judgement Spot
member_target g place tree n one word = either one.method (method_target g place (kind_of g n) (method_in g.types.types one.class word)) (held_target g tree)

abbrev pub meant_target : Environment → Place → Tree → List ℕ → Option Meaning → Judgement Spot
meant_target g place tree word None = held_target g tree
meant_target g place tree word (Some (named n one)) = entry_target g place tree one
meant_target g place tree word (Some (member n one)) = member_target g place tree n one word

-- what stands before `:=`
abbrev pub target : Environment → Tree → Judgement Spot
target g (name here one) = meant_target g here.place (name here one) one (find g one)
target g tree = held_target g tree

-- ---- the node

-- what is copied from place to place
abbrev pub is_structured : Option TypeDef → Bool
is_structured (Some (type.ArrayOf index element)) = true
is_structured (Some (type.RecordOf fields)) = true
is_structured (Some (type.ObjectOf parent dynamic fields methods)) = true
is_structured _ = false

abbrev pub copied : Place → tree.Place → Option Spot → Judgement Statement
copied place to None = refuses (broken place rules.Assigned)
copied place to (Some from) = makes (CopyAll to from.at)

abbrev pub stored : List TypeDef → Place → Spot → Expression → Judgement Statement
stored types place to e = either (is_structured (definition types to.ty)) (copied place to.at (spot_of e)) (makes (Assign to.at e))

-- An assignment that begins here. The value joins the target, and under {$R+} it is tested against the target's bounds.
abbrev pub assigned_to : List TypeDef → Position → Spot → Expression → Judgement Statement
assigned_to types here to e = part (assigned types here.place to.ty here.switches.r e) (λ v. stored types here.place to v)
