-- A call, from what comes before its body.
use Rattle.std.proofs.Common.{◌≡◌, ℕ, List, Option, refl, sym, ap, subst, ◌∙◌}
use Rattle.std.specs.Prelude.{Result}
use Rattle.typed_tree.specs.declared.units.Program.{Program}
use Rattle.typed_tree.specs.Statements.{view_stmt}
use Rattle.tp_meaning.specs.Trees.{Key, Spot, Value}
use Rattle.tp_meaning.specs.Outcomes.{State, Outcome, Done, Does, and_then}
use Rattle.tp_meaning.specs.Activations.{Activation, Callee}
use Rattle.tp_meaning.specs.Calls.{Flow, Do, entered, activated}
use Rattle.tp_meaning.specs.Statements.{statement}
use Rattle.tp_meaning.specs.Meaning.{run}
use Rattle.interpreter_steps.specs.declared.state.Over.{Over as OverAs}
use Rattle.interpreter_steps.specs.Running.{Ends}
use Rattle.interpreter_steps.specs.Entering.{admitted, begun, ended}
use Rattle.interpreter_steps.proofs.Ends.{ends_bind}
use Rattle.interpreter_steps.proofs.Entered.{entered_is, activated_is}
use Rattle.interpreter_steps.specs.declared.interpreter_frames.frames.Next.{Next as NextStep}
use Rattle.interpreter_steps.specs.declared.interpreter_frames.work.Work.{Work}
use Rattle.interpreter_steps.specs.interpreter_frames.Frames.{Goes}
use Rattle.interpreter_steps.proofs.interpreter_frames.Moves.{goes, moves1, moves_again}

-- the call once its routine is known
entered_by : (p : Program) (s : State) (f : Activation) (key : Key) (own : Option Spot) (class : Option Key) (args : List Value) (callee : Callee)
    → admitted p f key s ≡ Done callee s → entered p (run p) f key own class args s ≡ activated (run p) callee f own class args s
entered_by p s f key own class args callee e = entered_is p (run p) f key own class args s ∙ ap (λ (o : Outcome Callee). and_then o (λ callee. activated (run p) callee f own class args)) e

pub ends_admitted : (over : OverAs) (p : Program) (s : State) (f : Activation) (key : Key) (own : Option Spot) (class : Option Key) (args : List Value) (k : Value → Does Value)
    → Ends over s (admitted p f key s) → Ends over s (and_then (entered p (run p) f key own class args s) k)
ends_admitted over p s f key own class args k x =
    ends_bind over s (entered p (run p) f key own class args s) k (subst (Ends over s) (sym (entered_is p (run p) f key own class args s)) (ends_bind over s (admitted p f key s) (λ callee. activated (run p) callee f own class args) x))

pub ends_begun : (over : OverAs) (p : Program) (s t : State) (f : Activation) (key : Key) (own : Option Spot) (class : Option Key) (args : List Value) (k : Value → Does Value) (callee : Callee)
    → admitted p f key s ≡ Done callee s → Ends over t (begun callee f own class args s) → Ends over t (and_then (entered p (run p) f key own class args s) k)
ends_begun over p s t f key own class args k callee e x =
    let body : Activation × ℕ → Does Value = λ b u. and_then (run p (Do (view_stmt callee.routine.body)) b.0 u) (λ flow. ended callee b.1) in
    ends_bind over t (entered p (run p) f key own class args s) k (subst (Ends over t) (sym (entered_by p s f key own class args callee e ∙ activated_is (run p) callee f own class args s)) (ends_bind over t (begun callee f own class args s) body x))

pub enters : (p : Program) (r : Result NextStep OverAs) (w : Work) (s t : State) (f : Activation) (key : Key) (own : Option Spot) (class : Option Key) (args : List Value) (k : Value → Does Value) (callee : Callee) (b : Activation × ℕ)
    → admitted p f key s ≡ Done callee s → begun callee f own class args s ≡ Done b t
    → Goes p r w t (and_then (statement p (run p) b.0 (view_stmt callee.routine.body) t) (λ flow u. and_then (ended callee b.1 u) k))
    → Goes p r w t (and_then (entered p (run p) f key own class args s) k)
enters p r w s t f key own class args k callee b e e' x =
    let body : Activation × ℕ → Does Value = λ b u. and_then (run p (Do (view_stmt callee.routine.body)) b.0 u) (λ flow. ended callee b.1) in
    goes p r w t _ _ (ap (λ (o : Outcome Value). and_then o k) (entered_by p s f key own class args callee e ∙ activated_is (run p) callee f own class args s ∙ ap (λ (o : Outcome (Activation × ℕ)). and_then o body) e'))
    (moves1 p r w t (run p (Do (view_stmt callee.routine.body)) b.0 t) (λ flow. ended callee b.1) k
    (moves_again p r w t (Do (view_stmt callee.routine.body)) b.0 (λ flow u. and_then (ended callee b.1 u) k) x))
