-- Parts one after another, the first one taken out.
use Rattle.std.proofs.Common.{◌≡◌, refl, ap}
use Rattle.std.specs.Prelude.{Result}
use Rattle.typed_tree.specs.declared.units.Program.{Program}
use Rattle.interpreter_steps.specs.declared.state.Over.{Over as OverAs}
use Rattle.interpreter_steps.specs.declared.interpreter_frames.frames.Next.{Next as NextStep}
use Rattle.interpreter_steps.specs.declared.interpreter_frames.work.Work.{Work}
use Rattle.interpreter_steps.specs.interpreter_frames.Frames.{Goes}
use Rattle.interpreter_steps.proofs.interpreter_frames.Moves.{goes}
use Rattle.interpreter_steps.proofs.interpreter_frames.Again.{again}
use Rattle.tp_meaning.specs.Trees.{Value}
use Rattle.tp_meaning.specs.Activations.{Activation}
use Rattle.tp_meaning.specs.Calls.{Flow, Task}
use Rattle.tp_meaning.specs.Statements.{task}
use Rattle.tp_meaning.specs.Meaning.{run}
use Rattle.tp_meaning.specs.Outcomes.{State, Outcome, Done, Over, Does, and_then}

pub two_binds : {A B C : Type 0} (o : Outcome A) (g : A → Does B) (k : B → Does C) → and_then (and_then o g) k ≡ and_then o (λ a t. and_then (g a t) k)
two_binds (Done a s) g k = refl
two_binds (Over standing s) g k = refl

pub three_binds : {A B C D : Type 0} (o : Outcome A) (g : A → Does B) (h : B → Does C) (k : C → Does D) → and_then (and_then (and_then o g) h) k ≡ and_then o (λ a t. and_then (and_then (g a t) h) k)
three_binds (Done a s) g h k = refl
three_binds (Over standing s) g h k = refl

pub four_binds : {A B C D E : Type 0} (o : Outcome A) (g : A → Does B) (h : B → Does C) (i : C → Does D) (k : D → Does E)
    → and_then (and_then (and_then (and_then o g) h) i) k ≡ and_then o (λ a t. and_then (and_then (and_then (g a t) h) i) k)
four_binds (Done a s) g h i k = refl
four_binds (Over standing s) g h i k = refl

-- what a task does, where the step came to another state
pub again_at : (p : Program) (r : Result NextStep OverAs) (w : Work) (t s : State) (one : Task) (f : Activation) (k : Flow → Does Value)
    → Goes p r w t (and_then (task p (run p) one f s) k) → Goes p r w t (and_then (run p one f s) k)
again_at p r w t s one f k x = goes p r w t _ _ (ap (λ (o : Outcome Flow). and_then o k) (again p one f s)) x
