-- The parts of the loop that is left in its first round.
use Rattle.std.proofs.Common.{◌≡◌, ℕ, Bool, true, false, refl, arith}
use Rattle.type_layout.specs.declared.definitions.TypeId.{TypeId}
use Rattle.typed_tree.specs.declared.units.Program.{Program}
use Rattle.typed_tree.specs.Statements.{Exit}
use Rattle.tp_meaning.specs.Activations.{Activation}
use Rattle.tp_meaning.specs.Calls as calls
use Rattle.tp_meaning.specs.Calls.{Runs}
use Rattle.flat_code.specs.Tree as tree
use Rattle.flat_code.specs.Program.{FlatProgram, Choice}
use Rattle.flat_code.specs.Gives.{with_turns}
use Rattle.flat_code.specs.Meaning.{Frame, begun, run}
use Rattle.flat_code.proofs.Nodes.{run-end, run-alone}
use Rattle.lowering_simulation.specs.Meets.{SourceMemory, FlatMemory, Relation, falls_through, lands_by}
use Rattle.lowering_simulation.specs.Loops.{Tells, WhileParts}
use Rattle.lowering_simulation.specs.Examples.{always, leaving, HasLeft, ExampleFollows}
use Rattle.lowering_simulation.proofs.Meets.{charged, at_once, arrives}
use Rattle.lowering_simulation.proofs.Nodes.{begun_charged}
use Rattle.lowering_simulation.proofs.Loops.{while_follows}

abbrev Anything : SourceMemory → FlatMemory → Type 0
Anything m n = Unit {0}

abbrev Holds : Relation Bool
Holds b m n = b ≡ true

told : (b : Bool) → b ≡ true → Tells b 1
told true e = λ z. absurd (omega (arith, z))
told false e = absurd cc

example_parts : (program : Program) (again : Runs) (g : Activation) (ty : TypeId) (target : FlatProgram) (choice : Choice) (f : Frame) (turns : ℕ) →
    WhileParts 8 program again g (always ty) Exit target choice f tree.End (tree.Number 1) leaving turns 0 1 Anything Holds HasLeft HasLeft
example_parts program again g ty target choice f turns = record {
  conditions = λ s t least x r.
      arrives 8 Holds 0 0 s.turns (run target choice tree.End f) t t falls_through true s
      (at_once (run target choice tree.End f) (falls_through true) t t (λ left. run-end target choice f (with_turns t left))) (charged 8 0 t t refl (omega arith)) x refl refl;
  tells = λ b m n e. (1, refl, told b e);
  bodies = λ s t less x r.
      arrives 8 HasLeft 0 1 s.turns (run target choice leaving f) t (begun 1 t) lands_by calls.Left s
      (at_once (run target choice leaving f) (lands_by calls.Left) t (begun 1 t) (λ left. run-alone target choice tree.Return f (with_turns t left) (begun 1 (with_turns t left)) refl)) (begun_charged 8 1 t) x refl refl;
  rounds = λ s t less x e. absurd cc;
  left = λ m n e. e;
  ends = λ m n e. absurd cc;
  pays = omega arith;
}

pub example_follows : ExampleFollows
example_follows program again g ty target choice f s t x =
    while_follows Anything Holds HasLeft HasLeft 8 program again g (always ty) Exit target choice f tree.End (tree.Number 1) leaving 0 1 s t (example_parts program again g ty target choice f s.turns) x tt
