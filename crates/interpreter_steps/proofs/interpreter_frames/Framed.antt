-- What is left to do, once a frame is pushed or taken.
use Rattle.std.proofs.Common.{◌≡◌, ℕ, ◌+◌, ◌-◌, List, [], ◌∷◌, ◌++◌, length, take, map, Option, Some, None, refl, sym, ap, subst, ◌∙◌, append-nil, arith, length-append}
use Rattle.std.specs.Prelude.{option_to_list, MatchOption}
use Rattle.std.proofs.lemmas.List.{nil_from_length, take-map, length-map}
use Rattle.std.proofs.Math.Seq.{take-append_seam}
use Rattle.typed_tree.specs.declared.units.Program.{Program}
use Rattle.typed_tree.specs.Expressions.{Expression, Place}
use Rattle.typed_tree.specs.Statements.{Statement}
use Rattle.tp_meaning.specs.Trees.{Value}
use Rattle.tp_meaning.specs.Outcomes.{State, Outcome, Does, and_then}
use Rattle.tp_meaning.specs.Activations.{Reached, Activation}
use Rattle.tp_meaning.specs.Expressions.{value, place}
use Rattle.tp_meaning.specs.Statements.{statement, with_held}
use Rattle.tp_meaning.specs.Meaning.{run}
use Rattle.interpreter_effects.specs.declared.activations.calls.Activation.{Activation as ActivationOf}
use Rattle.interpreter_store.specs.declared.typed_cells.sorts.Reached.{Reached as ReachedOf}
use Rattle.interpreter_store.specs.typed_cells.Sorts.{view_reached}
use Rattle.interpreter_effects.specs.activations.Views.{view_activation}
use Rattle.interpreter_steps.specs.declared.interpreter_frames.frames.OnValue.{OnValue}
use Rattle.interpreter_steps.specs.declared.interpreter_frames.frames.OnPlace.{OnPlace}
use Rattle.interpreter_steps.specs.declared.interpreter_frames.frames.OnFlow.{OnFlow}
use Rattle.interpreter_steps.specs.declared.interpreter_frames.frames.Frame.{Frame}
use Rattle.interpreter_steps.specs.declared.interpreter_frames.frames.Frame.TheVariants as frame
use Rattle.interpreter_steps.specs.declared.interpreter_frames.work.Work.{Work}
use Rattle.interpreter_steps.specs.interpreter_frames.Frames.{Rest, framed, frames_over, nothing_left, rest_of, popped, released, with_value, with_place, with_flow, resumed_value, resumed_place, resumed_flow}
use Rattle.interpreter_steps.proofs.interpreter_frames.Moves.{frames_push}

-- the rest with a frame more
pub rest_push : (p : Program) (olds news : List Frame) (one : Frame) → news ≡ olds ++ one ∷ [] → frames_over p nothing_left news ≡ framed p (frames_over p nothing_left olds) one
rest_push p olds news one e = ap (frames_over p nothing_left) e ∙ frames_push p nothing_left olds one

pub pushed_value : (p : Program) (old new : Work) (one : OnValue) (e : Expression) (s : State)
    → new.frames.items ≡ old.frames.items ++ frame.Value one ∷ [] → new.f ≡ old.f
    → and_then (value p (run p) (view_activation old.f) e s) (λ v. resumed_value p (rest_of p old) one v (view_activation old.f))
    ≡ with_value (rest_of p new) (view_activation new.f) (value p (run p) (view_activation new.f) e) s
pushed_value p old new one e s pushed same =
    ap (λ (rest : Rest). with_value rest (view_activation old.f) (value p (run p) (view_activation old.f) e) s) (sym (rest_push p old.frames.items new.frames.items (frame.Value one) pushed))
    ∙ ap (λ (f : ActivationOf). with_value (rest_of p new) (view_activation f) (value p (run p) (view_activation f) e) s) (sym same)

pub pushed_place : (p : Program) (old new : Work) (one : OnPlace) (e : Place) (s : State)
    → new.frames.items ≡ old.frames.items ++ frame.Place one ∷ [] → new.f ≡ old.f
    → and_then (place p (run p) (view_activation old.f) e s) (λ at. resumed_place p (rest_of p old) one at (view_activation old.f))
    ≡ with_place (rest_of p new) (view_activation new.f) (place p (run p) (view_activation new.f) e) s
pushed_place p old new one e s pushed same =
    ap (λ (rest : Rest). with_place rest (view_activation old.f) (place p (run p) (view_activation old.f) e) s) (sym (rest_push p old.frames.items new.frames.items (frame.Place one) pushed))
    ∙ ap (λ (f : ActivationOf). with_place (rest_of p new) (view_activation f) (place p (run p) (view_activation f) e) s) (sym same)

-- the body of a statement, of a routine or of a `with` in the activation that it has
pub pushed_in : (p : Program) (olds : List Frame) (new : Work) (g : Activation) (one : OnFlow) (body : Statement) (s : State)
    → new.frames.items ≡ olds ++ frame.Flow one ∷ [] → view_activation new.f ≡ g
    → and_then (statement p (run p) g body s) (λ flow. resumed_flow p (frames_over p nothing_left olds) one flow g)
    ≡ with_flow (rest_of p new) (view_activation new.f) (statement p (run p) (view_activation new.f) body) s
pushed_in p olds new g one body s pushed same =
    ap (λ (rest : Rest). with_flow rest g (statement p (run p) g body) s) (sym (rest_push p olds new.frames.items (frame.Flow one) pushed))
    ∙ ap (λ (f : Activation). with_flow (rest_of p new) f (statement p (run p) f body) s) (sym same)

-- what a `with` held is let go behind its body
pub released_held : (f : Activation) (at : Reached) → released (with_held f at) ≡ f
released_held f at =
    let n : length (f.withs ++ at ∷ []) - 1 ≡ length f.withs = omega (arith, length-append f.withs (at ∷ [])) in
    let e : take (length (f.withs ++ at ∷ []) - 1) (f.withs ++ at ∷ []) ≡ f.withs = ap (λ k. take k (f.withs ++ at ∷ [])) n ∙ take-append_seam f.withs (at ∷ []) in
    ap (λ (withs : List Reached). record f { withs = withs }) e

-- the frame that is taken
pub popped_is : (p : Program) (olds news : List Frame) (m n : ℕ) (one : Option Frame) → n ≡ length news → olds ≡ news ++ option_to_list one → MatchOption one ((m ≡ 0) × (n ≡ 0)) (λ x. n + 1 ≡ m)
    → frames_over p nothing_left olds ≡ popped p (frames_over p nothing_left news) one
popped_is p olds news m n None len e none = ap (frames_over p nothing_left) (e ∙ append-nil news ∙ nil_from_length news (sym len ∙ none.1))
popped_is p olds news m n (Some one) len e some = rest_push p news olds one e

-- the last place that is held is let go
pub released_is : (olds news : List ReachedOf) → news ≡ take (length olds - 1) olds → map view_reached news ≡ take (length (map view_reached olds) - 1) (map view_reached olds)
released_is olds news e =
    ap (map view_reached) e ∙ sym (take-map view_reached (length olds - 1) olds) ∙ ap (λ n. take (n - 1) (map view_reached olds)) (sym (length-map olds view_reached))
