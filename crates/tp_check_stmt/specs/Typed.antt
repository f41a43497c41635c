-- When a statement is typed, and when a fault is in it.
use Rattle.std.specs.Prelude.{Bool, true, false, cond, List, [], ◌∷◌, ◌++◌, Option, Some, None}
use Rattle.type_layout.specs.declared.definitions.TypeId.{TypeId}
use Rattle.type_layout.specs.declared.definitions.TypeDef.{TypeDef}
use Rattle.type_layout.specs.declared.definitions.TypeDef.TheVariants as type
use Rattle.type_layout.specs.declared.texts.Place.{Place}
use Rattle.pascal_grammar.specs.declared.lexeme.Position.{Position}
use Rattle.pascal_grammar.specs.declared.operator.Direction.{Direction}
use Rattle.syntax_tree.specs.declared.expression.Designator.{Designator}
use Rattle.syntax_tree.specs.expression_tree.Trees.{Tree, begins, view_designator}
use Rattle.syntax_tree.specs.statement_tree.Trees.{Task, Tasks, Branches, empty, assignment, run, compound, choice, selection, while_loop, repeat_loop, for_loop, opened, no_tasks, and_task, no_branches, and_branch}
use Rattle.typed_tree.specs.declared.statements.LabelRange.{LabelRange}
use Rattle.typed_tree.specs.declared.statements.Arm.{Arm}
use Rattle.typed_tree.specs.Expressions.{Expression}
use Rattle.typed_tree.specs.Statements.{Statement, Statements, Arms, If, While, Repeat, Block, Case, For, With, NoStatements, Then, NoArms, Branch, view_stmt}
use Rattle.scopes.specs.declared.entries.BlockKind.TheVariants as block
use Rattle.scopes.specs.Environment.{Environment, with_block}
use Rattle.typed_tree.specs.type_fits.Fits.{definition}
use Rattle.typing_rules.specs.declared.faults.Fault.{Fault}
use Rattle.typing_rules.specs.declared.faults.Rule.TheVariants as rules
use Rattle.typing_rules.specs.declared.sorts.Sort.{Sort}
use Rattle.typing_rules.specs.Faults.{broken}
use Rattle.typing_rules.specs.Judgements.{Judgement, makes, refuses, rule, part, parts}
use Rattle.typing_rules.specs.Sorts.{sort_of}
use Rattle.tp_check_expr.specs.Names.{purpose_for}
use Rattle.tp_check_expr.specs.Typed.{judged, judged_as}
use Rattle.tp_check_stmt.specs.Places.{Spot, spot_of}
use Rattle.tp_check_stmt.specs.Asked.{condition, selector}
use Rattle.tp_check_stmt.specs.Assignments.{target, assigned_to}
use Rattle.tp_check_stmt.specs.Calls.{run_of}
use Rattle.tp_check_stmt.specs.Labels.{labelled}
use Rattle.tp_check_stmt.specs.Loops.{Counted, counted, is_down}

-- ---- lists

abbrev pub statements_of : List Statement → Statements
statements_of [] = NoStatements
statements_of (one ∷ rest) = Then one (statements_of rest)

-- a branch of a `case`
pub record Armed : Type 0 where
  pub labels : List LabelRange
  pub body : Statement

abbrev pub view_arm : Arm → Armed
view_arm one = record { labels = one.labels.items; body = view_stmt one.body }

abbrev pub arms_of : List Armed → Arms
arms_of [] = NoArms
arms_of (one ∷ rest) = Branch one.labels one.body (arms_of rest)

abbrev pub block_of : List Statement → Statement
block_of all = Block (statements_of all)

abbrev pub is_empty : Task → Bool
is_empty empty = true
is_empty _ = false

-- an empty statement in a list has no node
abbrev pub kept : Task → Statement → List Statement → List Statement
kept task one rest = cond (is_empty task) rest (one ∷ rest)

-- ---- statements from the judgements of their parts

-- two independent parts behind another one
abbrev pub three : {A B C D : Type 0} → Judgement A → Judgement B → Judgement C → (A → B → C → D) → Judgement D
three {B = B} {C = C} j k l f = parts {B = B × C} j (parts k l (λ b c. makes (b, c))) (λ a p. makes (f a p.0 p.1))

abbrev pub blocked : Judgement (List Statement) → Judgement Statement
blocked all = part all (λ l. makes (block_of l))

abbrev pub branching : Judgement Expression → Judgement Statement → Judgement Statement → Judgement Statement
branching test then other = three test then other (λ e a b. If e a b)

abbrev pub turning : Judgement Expression → Judgement Statement → Judgement Statement
turning test body = parts test body (λ e s. makes (While e s))

abbrev pub repeating : Judgement (List Statement) → Judgement Expression → Judgement Statement
repeating all test = parts all test (λ l e. makes (Repeat (block_of l) e))

abbrev pub for_node : Direction → Bool → Counted → Statement → Statement
for_node way checked c body = For c.counter.variable c.counter.ty c.first c.last (is_down way) checked body

abbrev pub counting : Direction → Bool → Judgement Counted → Judgement Statement → Judgement Statement
counting way checked count body = parts count body (λ c s. makes (for_node way checked c s))

abbrev pub choosing : Expression → Judgement (List Armed) → Judgement (List Statement) → Judgement Statement
choosing e arms other = parts arms other (λ a l. makes (Case e (arms_of a) (block_of l)))

abbrev pub opening : Spot → Judgement Statement → Judgement Statement
opening t body = part body (λ s. makes (With t.at s))

-- ---- what a `with` opens

abbrev pub HasMembers : Option TypeDef → Type 0
HasMembers (Some (type.RecordOf fields)) = Unit {0}
HasMembers (Some (type.ObjectOf parent dynamic fields methods)) = Unit {0}
HasMembers _ = ⊥

abbrev pub has_members : Option TypeDef → Bool
has_members (Some (type.RecordOf fields)) = true
has_members (Some (type.ObjectOf parent dynamic fields methods)) = true
has_members _ = false

abbrev pub opened_spot : List TypeDef → Place → Option Spot → Judgement Spot
opened_spot types place None = refuses (broken place rules.Opened)
opened_spot types place (Some from) =
    rule (broken place rules.Opened) (has_members (definition types from.ty)) (HasMembers (definition types from.ty)) from

-- a record or an object
abbrev pub held : Environment → Place → Tree → Judgement Spot
held g place tree = part (judged g tree) (λ e. opened_spot g.types.types place (spot_of e))

abbrev pub opened_by : Designator → Task → Task
opened_by designator body = opened (begins designator) (view_designator designator) body

-- inside a `with` over a place of this type
abbrev pub within : Environment → TypeId → Environment
within g ty = with_block g (block.With ty)

-- a value of a target, which may be a routine
abbrev pub assigning : Environment → Position → Tree → Spot → Judgement Statement
assigning g here from t =
    part (judged_as g (purpose_for g.types.types t.ty (broken here.place rules.Assigned)) from) (λ e. assigned_to g.types.types here t e)

-- ---- statements

abbrev mutual
  -- What a checker answers for a statement, what its node is, and which faults are in it: from the judgements of its parts.
  pub stated : Environment → Task → Judgement Statement
  stated g empty = makes (block_of [])
  stated g (assignment here to from) = part (target g to) (λ t. assigning g here from t)
  stated g (run here callee given) = run_of g here callee given
  stated g (compound all) = blocked (listed g all)
  stated g (choice here test then other) = branching (condition g test) (stated g then) (stated g other)
  stated g (selection here by branches other) = part (selector g by) (λ e. choosing e (branched g (sort_of g.types.types e) [] branches) (listed g other))
  stated g (while_loop here test body) = turning (condition g test) (stated g body)
  stated g (repeat_loop here all test) = repeating (listed g all) (condition g test)
  stated g (for_loop here at word first way last body) = counting way here.switches.r (counted g here.switches.r at.place word first last) (stated g body)
  stated g (opened here designator body) = part (held g here.place designator) (λ t. opening t (stated (within g t.ty) body))

  -- the statements of a list, but for those that are empty
  pub listed : Environment → Tasks → Judgement (List Statement)
  listed g no_tasks = makes []
  listed g (and_task one rest) = parts (stated g one) (listed g rest) (λ s l. makes (kept one s l))

  -- The branches of a `case` over this sort. No label meets one of those before it.
  pub branched : Environment → Sort → List LabelRange → Branches → Judgement (List Armed)
  branched g s seen no_branches = makes []
  branched g s seen (and_branch labels body rest) = part (labelled g s seen labels) (λ rs.
      parts (stated g body) (branched g s (seen ++ rs) rest) (λ x arms. makes ((record { labels = rs; body = x }) ∷ arms)))

-- the branches of a `case`, and what it does else, behind its selector
abbrev pub chosen : Environment → Branches → Tasks → Expression → Judgement Statement
chosen g branches other e = choosing e (branched g (sort_of g.types.types e) [] branches) (listed g other)

-- the body of a `with` over a place
abbrev pub inside : Environment → Task → Spot → Judgement Statement
inside g body t = opening t (stated (within g t.ty) body)

-- the statement has this node: every rule holds in it, and each node has the types that the rules give it
abbrev pub IsStatedAs : Environment → Task → Statement → Type 0
IsStatedAs g task s = (stated g task).holds s

-- a rule fails at a place in the statement, while all hold in the parts of the construct that stands there
abbrev pub FailsAt : Environment → Task → Fault → Type 0
FailsAt g task fault = (stated g task).fails fault
