-- The law of following for a `while`.
use Rattle.std.specs.Prelude.{◌≡◌, ℕ, ◌+◌, ◌≤◌, ◌<◌, Bool, true, false, Ok}
use Rattle.typed_tree.specs.declared.units.Program.{Program}
use Rattle.typed_tree.specs.Expressions.{Expression}
use Rattle.typed_tree.specs.Statements.{Statement, While}
use Rattle.tp_meaning.specs.Outcomes as source
use Rattle.tp_meaning.specs.Activations.{Activation}
use Rattle.tp_meaning.specs.Calls as calls
use Rattle.tp_meaning.specs.Calls.{Flow, Do, Runs}
use Rattle.tp_meaning.specs.Statements.{condition, statement}
use Rattle.flat_code.specs.Tree as tree
use Rattle.flat_code.specs.Tree.{Expr, expr_size, Code, ◌then◌}
use Rattle.flat_code.specs.Program.{FlatProgram, Choice}
use Rattle.flat_code.specs.Calls as flat
use Rattle.flat_code.specs.Meaning.{Frame, value_of, run}
use Rattle.lowering_simulation.specs.Meets.{SourceMemory, FlatMemory, source_memory, flat_memory, Relation, SameTexts, falls_through, lands_by, Meets}

-- A loop of one round in a loop: a turn is due after the condition, as in the source, and one more before it.
abbrev pub taken_code : Code → Code
taken_code body = tree.Loop (body then tree.Do (tree.Leave 1) tree.End) tree.End

abbrev pub round_code : Code → Expr → Code → Code
round_code before test body = before then tree.If test (taken_code body) (tree.Do (tree.Leave 1) tree.End) tree.End

abbrev pub while_code : Code → Expr → Code → Code
while_code before test body = tree.Loop (round_code before test body) tree.End

-- what it asks at most of a round but for the body, where the condition's code asks so much
abbrev pub while_weight : ℕ → Expr → ℕ
while_weight weight test = 2 + (weight + (2 + expr_size test))

-- A word tells whether the condition holds.
abbrev pub Tells : Bool → ℕ → Type 0
Tells true v = v ≡ 0 → ⊥
Tells false v = v ≡ 0

-- What is asked of the parts of a loop that began with so many turns, where `R` holds between rounds: B tells of the condition when its code has come to its end, S how the body ended.
pub record WhileParts (few : ℕ) (program : Program) (again : Runs) (g : Activation) (test : Expression) (body : Statement) (target : FlatProgram) (choice : Choice) (f : Frame) (before : Code) (value : Expr) (code : Code) (turns first second : ℕ)
    (R : SourceMemory → FlatMemory → Type 0) (B : Relation Bool) (S Q : Relation Flow) : Type 0 where
  pub conditions : (s : source.State) (t : flat.State) → s.turns ≤ turns → SameTexts s t → R (source_memory s) (flat_memory t) → Meets few first s.turns (run target choice before f) t falls_through B (condition program again g test s)
  pub tells : (b : Bool) (m : SourceMemory) (n : FlatMemory) → B b m n → (v : ℕ) × (value_of choice f n.cells value ≡ Ok v) × Tells b v
  pub bodies : (s : source.State) (t : flat.State) → s.turns < turns → SameTexts s t → B true (source_memory s) (flat_memory t) → Meets few second s.turns (run target choice code f) t lands_by S (statement program again g body s)
  -- with fewer turns the loop follows
  pub rounds : (s : source.State) (t : flat.State) → s.turns < turns → SameTexts s t → S calls.Next (source_memory s) (flat_memory t) →
      Meets few (while_weight first value) s.turns (run target choice (while_code before value code) f) t lands_by Q (again (Do (While test body)) g s)
  pub left : (m : SourceMemory) (n : FlatMemory) → S calls.Left m n → Q calls.Left m n
  pub ends : (m : SourceMemory) (n : FlatMemory) → B false m n → Q calls.Next m n
  -- a turn pays a body and the condition behind it
  pub pays : 2 + second + while_weight first value ≤ few

abbrev pub WhileFollows : (SourceMemory → FlatMemory → Type 0) → Relation Bool → Relation Flow → Relation Flow → Type 0
WhileFollows R B S Q =
    (few : ℕ) (program : Program) (again : Runs) (g : Activation) (test : Expression) (body : Statement) (target : FlatProgram) (choice : Choice) (f : Frame) (before : Code) (value : Expr) (code : Code) (first second : ℕ)
    (s : source.State) (t : flat.State) →
    WhileParts few program again g test body target choice f before value code s.turns first second R B S Q → SameTexts s t → R (source_memory s) (flat_memory t) →
    Meets few (while_weight first value) s.turns (run target choice (while_code before value code) f) t lands_by Q (statement program again g (While test body) s)
