-- That a loop has what the law asks of its parts: `while true do Exit`, of which the body leaves the routine in the first round.
use Rattle.std.specs.Prelude.{◌≡◌, pos}
use Rattle.type_layout.specs.declared.definitions.TypeId.{TypeId}
use Rattle.typed_tree.specs.declared.expressions.Value.TheVariants as constant
use Rattle.typed_tree.specs.declared.units.Program.{Program}
use Rattle.typed_tree.specs.Expressions.{Expression, Const}
use Rattle.typed_tree.specs.Statements.{While, Exit}
use Rattle.tp_meaning.specs.Outcomes as source
use Rattle.tp_meaning.specs.Activations.{Activation}
use Rattle.tp_meaning.specs.Calls as calls
use Rattle.tp_meaning.specs.Calls.{Flow, Runs}
use Rattle.tp_meaning.specs.Statements.{statement}
use Rattle.flat_code.specs.Tree as tree
use Rattle.flat_code.specs.Tree.{Code}
use Rattle.flat_code.specs.Program.{FlatProgram, Choice}
use Rattle.flat_code.specs.Calls as flat
use Rattle.flat_code.specs.Meaning.{Frame, run}
use Rattle.lowering_simulation.specs.Meets.{Relation, SameTexts, lands_by, Meets}
use Rattle.lowering_simulation.specs.Loops.{while_code}

abbrev pub always : TypeId → Expression
always ty = Const ty (constant.Number (pos 1))

abbrev pub leaving : Code
leaving = tree.Do tree.Return tree.End

abbrev pub HasLeft : Relation Flow
HasLeft flow m n = flow ≡ calls.Left

abbrev pub ExampleFollows : Type 0
ExampleFollows =
    (program : Program) (again : Runs) (g : Activation) (ty : TypeId) (target : FlatProgram) (choice : Choice) (f : Frame) (s : source.State) (t : flat.State) → SameTexts s t →
    Meets 8 5 s.turns (run target choice (while_code tree.End (tree.Number 1) leaving) f) t lands_by HasLeft (statement program again g (While (always ty) Exit) s)
