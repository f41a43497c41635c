-- What the interpreter's answers say of turns and of a loop's rounds.
use Rattle.std.proofs.Common.{◌≡◌, ℕ, ◌≤◌, sym, ap, subst, ◌∙◌}
use Rattle.common_values.specs.behaviour.Seen.{Going}
use Rattle.flat_run.specs.declared.state.Flow.{Flow}
use Rattle.flat_run.specs.declared.state.Flow.TheVariants as flow
use Rattle.flat_run.specs.declared.state.Stop.{Stop}
use Rattle.flat_run.specs.declared.state.Stop.TheVariants as stops
use Rattle.flat_code.specs.Tree.{Code, End, Loop}
use Rattle.flat_code.specs.Program.{FlatProgram, Choice}
use Rattle.flat_code.specs.Meaning.{Frame, State, Outcome, Over, begun, looped, run}
use Rattle.flat_run.specs.Running.{outcome_of, forget, Stops}
use Rattle.flat_code.proofs.After.{After, after_run}
use Rattle.flat_code.proofs.More.{Falls, falls}
use Rattle.flat_code.proofs.Steps.{loop-alone}
use Rattle.flat_code.proofs.Turns.{spend-none}

-- turns never grow
falls-outcome : (turns : ℕ) (s t : State) (flow : Flow) → After Falls s (outcome_of flow t) → t.turns ≤ s.turns
falls-outcome turns s t flow.Next p = p
falls-outcome turns s t (flow.Left loops) p = p
falls-outcome turns s t flow.Returned p = p

pub falls-flow : (program : FlatProgram) (choice : Choice) (code : Code) (f : Frame) (s t : State) (flow : Flow) → run program choice code f s ≡ outcome_of flow t → t.turns ≤ s.turns
falls-flow program choice code f s t flow e = falls-outcome 0 s t flow (subst (After Falls s) e (after_run falls program choice code f s))

-- ---- loops

-- no turn is left for a run of the body
pub round-none : (program : FlatProgram) (choice : Choice) (body : Code) (f : Frame) (s s1 u : State) (stop : Stop) → s1 ≡ begun 1 s → stop ≡ stops.Going → s1.turns ≡ 0 → u ≡ s1 → Stops stop u (run program choice (Loop body End) f s)
round-none program choice body f s s1 u stop e g none same =
    let go : State → Outcome = λ s. looped (run program choice body f (begun 1 s)) (run program choice (Loop body End) f) in
    let whole : run program choice (Loop body End) f s ≡ Over Going u = loop-alone program choice body f s s1 e ∙ spend-none s1 go none ∙ ap (Over Going) (sym same) in
    subst (λ (x : Stop). Stops x u (run program choice (Loop body End) f s)) (sym g) (ap forget whole)
