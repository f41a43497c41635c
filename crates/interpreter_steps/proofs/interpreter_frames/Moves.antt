-- A step's outcome, where what it runs stands first.
use Rattle.std.proofs.Common.{◌≡◌, ℕ, zero, suc, ◌++◌, List, [], ◌∷◌, refl, sym, ap, subst, ◌∙◌, append_assoc}
use Rattle.std.specs.Prelude.{Result, Ok, Err}
use Rattle.typed_tree.specs.declared.units.Program.{Program}
use Rattle.interpreter_steps.specs.declared.state.Over.{Over as OverAs}
use Rattle.interpreter_steps.specs.Running.{Ends, Comes, Spends}
use Rattle.interpreter_steps.proofs.Ends.{ends_bind}
use Rattle.interpreter_effects.specs.declared.activations.calls.Activation.{Activation as ActivationOf}
use Rattle.interpreter_effects.specs.activations.Views.{view_activation}
use Rattle.interpreter_steps.specs.declared.interpreter_frames.frames.OnValue.{OnValue}
use Rattle.interpreter_steps.specs.declared.interpreter_frames.frames.Frame.{Frame}
use Rattle.interpreter_steps.specs.declared.interpreter_frames.frames.Frame.TheVariants as frame
use Rattle.interpreter_steps.specs.declared.interpreter_frames.frames.Next.{Next as NextStep}
use Rattle.interpreter_steps.specs.declared.interpreter_frames.work.Work.{Work}
use Rattle.tp_meaning.specs.Trees.{Value}
use Rattle.tp_meaning.specs.Outcomes.{State, Outcome, Done, Over, Does, and_then, spent, spending}
use Rattle.tp_meaning.specs.Activations.{Activation}
use Rattle.tp_meaning.specs.Calls.{Flow, Task}
use Rattle.tp_meaning.specs.Statements.{task}
use Rattle.tp_meaning.specs.Meaning.{run}
use Rattle.interpreter_steps.specs.interpreter_frames.Frames.{Rest, framed, frames_over, rest_of, with_value, then_value, resumed_value, Goes}
use Rattle.interpreter_steps.proofs.interpreter_frames.Again.{again}

-- the same outcome
pub goes : (p : Program) (r : Result NextStep OverAs) (w : Work) (s : State) (o o' : Outcome Value) → o' ≡ o → Goes p r w s o → Goes p r w s o'
goes p r w s o o' e x = subst (Goes p r w s) (sym e) x

-- what runs first
pub moves1 : {A B : Type 0} (p : Program) (r : Result NextStep OverAs) (w : Work) (s : State) (o : Outcome A) (g : A → Does B) (k : B → Does Value)
    → Goes p r w s (and_then o (λ a t. and_then (g a t) k)) → Goes p r w s (and_then (and_then o g) k)
moves1 p r w s (Done a t) g k x = x
moves1 p r w s (Over standing t) g k x = x

pub moves2 : {A B C : Type 0} (p : Program) (r : Result NextStep OverAs) (w : Work) (s : State) (o : Outcome A) (g : A → Does B) (h : B → Does C) (k : C → Does Value)
    → Goes p r w s (and_then o (λ a t. and_then (and_then (g a t) h) k)) → Goes p r w s (and_then (and_then (and_then o g) h) k)
moves2 p r w s (Done a t) g h k x = x
moves2 p r w s (Over standing t) g h k x = x

pub moves3 : {A B C D : Type 0} (p : Program) (r : Result NextStep OverAs) (w : Work) (s : State) (o : Outcome A) (g : A → Does B) (h : B → Does C) (i : C → Does D) (k : D → Does Value)
    → Goes p r w s (and_then o (λ a t. and_then (and_then (and_then (g a t) h) i) k)) → Goes p r w s (and_then (and_then (and_then (and_then o g) h) i) k)
moves3 p r w s (Done a t) g h i k x = x
moves3 p r w s (Over standing t) g h i k x = x

-- a turn that is spent before a part is spent before the part and what follows
pub spent_bind : {A B : Type 0} (turns : ℕ) (go : Does A) (k : A → Does B) (s : State) → and_then (spent turns go s) k ≡ spent turns (λ t. and_then (go t) k) s
spent_bind zero go k s = refl
spent_bind (suc turns) go k s = refl

pub two_binds : {A B C : Type 0} (o : Outcome A) (g : A → Does B) (k : B → Does C) → and_then (and_then o g) k ≡ and_then o (λ a t. and_then (g a t) k)
two_binds (Done a s) g k = refl
two_binds (Over standing s) g k = refl

-- frames one behind another
pub frames_push : (p : Program) (rest : Rest) (frames : List Frame) (one : Frame) → frames_over p rest (frames ++ one ∷ []) ≡ framed p (frames_over p rest frames) one
frames_push p rest [] one = refl
frames_push p rest (frame ∷ frames) one = frames_push p (framed p rest frame) frames one

-- an argument in front of those that are left is one behind those that are known
pub argued : {X : Type 0} (o : Outcome (List X)) (x : X) (front : List X) (k : List X → Does Value)
    → and_then (and_then o (λ xs. λ t. Done (x ∷ xs) t)) (λ xs. k (front ++ xs)) ≡ and_then o (λ xs. k ((front ++ x ∷ []) ++ xs))
argued (Done xs s) x front k = ap (λ ys. k ys s) (sym (append_assoc front (x ∷ []) xs))
argued (Over standing s) x front k = refl

-- what a task does
pub moves_again : (p : Program) (r : Result NextStep OverAs) (w : Work) (s : State) (one : Task) (f : Activation) (k : Flow → Does Value)
    → Goes p r w s (and_then (task p (run p) one f s) k) → Goes p r w s (and_then (run p one f s) k)
moves_again p r w s one f k x = goes p r w s _ _ (ap (λ (o : Outcome Flow). and_then o k) (again p one f s)) x

-- a turn was spent
pub moves_spent : {A : Type 0} (p : Program) (r : Result NextStep OverAs) (w : Work) (s s' : State) (go : Does A) (k : A → Does Value)
    → ((more : Does Value) → spending more s ≡ more s') → Goes p r w s' (and_then (go s') k) → Goes p r w s' (and_then (spending go s) k)
moves_spent p r w s s' go k spent x = goes p r w s' _ _ (spent_bind s.turns go k s ∙ spent (λ t. and_then (go t) k)) x

-- no turn was left
pub ends_spent : {A : Type 0} (over : OverAs) (s s' : State) (go : Does A) (k : A → Does Value)
    → ((more : Does Value) → Ends over s' (spending more s)) → Ends over s' (and_then (spending go s) k)
ends_spent over s s' go k ends = subst (Ends over s') (sym (spent_bind s.turns go k s)) (ends (λ t. and_then (go t) k))

-- what comes first was found
pub moves_found : {A B : Type 0} (p : Program) (r : Result NextStep OverAs) (w : Work) (t : State) {s : State} (o : Outcome A) (a : A) (g : A → Does B) (k : B → Does Value)
    → o ≡ Done a s → Goes p r w t (and_then (g a s) k) → Goes p r w t (and_then (and_then o g) k)
moves_found {A} p r w t o a g k e x = goes p r w t _ _ (ap (λ (y : Outcome A). and_then (and_then y g) k) e) x

-- what comes behind a turn that was spent ended the run
pub ends_after : {A : Type 0} (over : OverAs) (s s' : State) (go : Does A) (k : A → Does Value)
    → ((more : Does Value) → spending more s ≡ more s') → Ends over s' (and_then (go s') k) → Ends over s' (and_then (spending go s) k)
ends_after over s s' go k spent x = subst (Ends over s') (sym (spent_bind s.turns go k s ∙ spent (λ t. and_then (go t) k))) x

-- two parts of which the first ended the run
pub ends_two : {A B C : Type 0} (over : OverAs) (s : State) (o : Outcome A) (g : A → Does B) (k : B → Does C) → Ends over s o → Ends over s (and_then (and_then o g) k)
ends_two over s o g k x = ends_bind over s (and_then o g) k (ends_bind over s o g x)

-- a frame waits for the value
pub expected : (p : Program) (r : Result NextStep OverAs) (w : Work) (t s : State) (old new : Work) (one : OnValue) (go : Activation → Does Value)
    → rest_of p new ≡ framed p (rest_of p old) (frame.Value one) → new.f ≡ old.f
    → Goes p r w t (then_value p new go s) → Goes p r w t (and_then (go (view_activation old.f) s) (λ v. resumed_value p (rest_of p old) one v (view_activation old.f)))
expected p r w t s old new one go pushed same x = goes p r w t _ _ (
    ap (λ (rest : Rest). with_value rest (view_activation old.f) (go (view_activation old.f)) s) (sym pushed)
    ∙ ap (λ (f : ActivationOf). with_value (rest_of p new) (view_activation f) (go (view_activation f)) s) (sym same)) x

pub ends_spent_two : {A B : Type 0} (over : OverAs) (s s' : State) (go : Does A) (g : A → Does B) (k : B → Does Value)
    → ((more : Does Value) → Ends over s' (spending more s)) → Ends over s' (and_then (and_then (spending go s) g) k)
ends_spent_two over s s' go g k ends = subst (Ends over s') (sym (two_binds (spending go s) g k)) (ends_spent over s s' go (λ a t. and_then (g a t) k) ends)

pub ends_after_two : {A B : Type 0} (over : OverAs) (s s' : State) (go : Does A) (g : A → Does B) (k : B → Does Value)
    → ((more : Does Value) → spending more s ≡ more s') → Ends over s' (and_then (go s') (λ a t. and_then (g a t) k)) → Ends over s' (and_then (and_then (spending go s) g) k)
ends_after_two over s s' go g k spent x = subst (Ends over s') (sym (two_binds (spending go s) g k)) (ends_after over s s' go (λ a t. and_then (g a t) k) spent x)

-- the end of a run behind what was found
pub ends_found : {A B : Type 0} (over : OverAs) (t : State) (o : Outcome A) (a : A) (g : A → Does B) (k : B → Does Value) {s : State}
    → o ≡ Done a s → Ends over t (and_then (g a s) k) → Ends over t (and_then (and_then o g) k)
ends_found {A} over t o a g k {s} e x = subst (Ends over t) (sym (ap (λ (y : Outcome A). and_then (and_then y g) k) e)) x

pub ends_three : {A B C D : Type 0} (over : OverAs) (s : State) (o : Outcome A) (g : A → Does B) (h : B → Does C) (k : C → Does D) → Ends over s o → Ends over s (and_then (and_then (and_then o g) h) k)
ends_three over s o g h k x = ends_bind over s (and_then (and_then o g) h) k (ends_two over s o g h x)

-- what comes first was found, and two parts follow before the rest
pub moves_found2 : {A B C : Type 0} (p : Program) (r : Result NextStep OverAs) (w : Work) (t : State) {s : State} (o : Outcome A) (a : A) (g : A → Does B) (h : B → Does C) (k : C → Does Value)
    → o ≡ Done a s → Goes p r w t (and_then (and_then (g a s) h) k) → Goes p r w t (and_then (and_then (and_then o g) h) k)
moves_found2 {A} p r w t o a g h k e x = goes p r w t _ _ (ap (λ (y : Outcome A). and_then (and_then (and_then y g) h) k) e) x
