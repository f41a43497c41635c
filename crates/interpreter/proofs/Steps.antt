-- Steps of the whole, by the frame that is taken.
use Rattle.std.proofs.Common.{◌≡◌, Option, Some, None, refl, sym, ap, subst, ◌∙◌}
use Rattle.std.specs.Prelude.{Result, Ok, Err}
use Rattle.typed_tree.specs.declared.units.Program.{Program}
use Rattle.tp_meaning.specs.Trees.{Value}
use Rattle.tp_meaning.specs.Outcomes.{State, Outcome, Done}
use Rattle.tp_meaning.specs.Activations.{Reached, Activation}
use Rattle.tp_meaning.specs.Calls.{Flow}
use Rattle.interpreter_effects.specs.declared.activations.calls.Activation.{Activation as ActivationOf}
use Rattle.interpreter_effects.specs.activations.Views.{view_activation}
use Rattle.interpreter_steps.specs.declared.state.Over.{Over as OverAs}
use Rattle.interpreter_steps.specs.declared.interpreter_frames.frames.OnValue.{OnValue}
use Rattle.interpreter_steps.specs.declared.interpreter_frames.frames.OnPlace.{OnPlace}
use Rattle.interpreter_steps.specs.declared.interpreter_frames.frames.OnFlow.{OnFlow}
use Rattle.interpreter_steps.specs.declared.interpreter_frames.frames.Frame.{Frame}
use Rattle.interpreter_steps.specs.declared.interpreter_frames.frames.Frame.TheVariants as frame
use Rattle.interpreter_steps.specs.declared.interpreter_frames.frames.Step.{Step}
use Rattle.interpreter_steps.specs.declared.interpreter_frames.work.Work.{Work}
use Rattle.interpreter_steps.specs.interpreter_frames.Frames.{Rest, framed, rest_of, popped, resumed_value, resumed_place, resumed_flow, Steps}

-- the same outcome
pub steps : (p : Program) (r : Result Step OverAs) (w : Work) (s : State) (o o' : Outcome Value) → o' ≡ o → Steps p r w s o → Steps p r w s o'
steps p r w s o o' e x = subst (Steps p r w s) (sym e) x

-- what a work goes on with is what the frame that is taken does
taken : {A : Type 0} (p : Program) (old new : Work) (one : Option Frame) (pick : Rest → A → Activation → State → Outcome Value) (a : A) (s : State)
    → rest_of p old ≡ popped p (rest_of p new) one → new.f ≡ old.f
    → pick (rest_of p old) a (view_activation old.f) s ≡ pick (popped p (rest_of p new) one) a (view_activation new.f) s
taken p old new one pick a s e same =
    ap (λ (rest : Rest). pick rest a (view_activation old.f) s) e ∙ ap (λ (f : ActivationOf). pick (popped p (rest_of p new) one) a (view_activation f) s) (sym same)

pub steps_value : (p : Program) (r : Result Step OverAs) (w : Work) (t s : State) (old new : Work) (one : Option Frame) (v : Value)
    → rest_of p old ≡ popped p (rest_of p new) one → new.f ≡ old.f
    → Steps p r w t ((popped p (rest_of p new) one).value v (view_activation new.f) s) → Steps p r w t ((rest_of p old).value v (view_activation old.f) s)
steps_value p r w t s old new one v e same x = steps p r w t _ _ (taken p old new one (λ rest. rest.value) v s e same) x

pub steps_place : (p : Program) (r : Result Step OverAs) (w : Work) (t s : State) (old new : Work) (one : Option Frame) (at : Reached)
    → rest_of p old ≡ popped p (rest_of p new) one → new.f ≡ old.f
    → Steps p r w t ((popped p (rest_of p new) one).place at (view_activation new.f) s) → Steps p r w t ((rest_of p old).place at (view_activation old.f) s)
steps_place p r w t s old new one at e same x = steps p r w t _ _ (taken p old new one (λ rest. rest.place) at s e same) x

pub steps_flow : (p : Program) (r : Result Step OverAs) (w : Work) (t s : State) (old new : Work) (one : Option Frame) (flow : Flow)
    → rest_of p old ≡ popped p (rest_of p new) one → new.f ≡ old.f
    → Steps p r w t ((popped p (rest_of p new) one).flow flow (view_activation new.f) s) → Steps p r w t ((rest_of p old).flow flow (view_activation old.f) s)
steps_flow p r w t s old new one flow e same x = steps p r w t _ _ (taken p old new one (λ rest. rest.flow) flow s e same) x
