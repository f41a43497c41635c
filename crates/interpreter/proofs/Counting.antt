-- The turns of a `for`, from its first value.
use Rattle.std.proofs.Common.{◌≡◌, Bool, true, false, refl, sym, ap, subst, ◌∙◌}
use Rattle.std.specs.Prelude.{ℤ, ◌+ℤ◌, Result}
use Rattle.std.specs.Ordering.{int_eq}
use Rattle.std.proofs.lemmas.Bool.Decides.{Decides-int_eq}
use Rattle.typed_tree.specs.declared.units.Program.{Program}
use Rattle.typed_tree.specs.declared.expressions.Variable.{Variable}
use Rattle.typed_tree.specs.Statements.{Statement}
use Rattle.type_layout.specs.declared.definitions.TypeId.{TypeId}
use Rattle.tp_meaning.specs.Trees.{Value, Ordinal}
use Rattle.tp_meaning.specs.Programs.{definition, sort_in}
use Rattle.tp_meaning.specs.Outcomes.{State, Outcome, Done, Does, and_then, looked, changed}
use Rattle.tp_meaning.specs.Activations.{Reached, Activation, assigned, number_in}
use Rattle.tp_meaning.specs.Calls.{Flow, Turns}
use Rattle.tp_meaning.specs.Standard.{number_assigned}
use Rattle.tp_meaning.specs.Statements.{statement, chosen, step, tested, counter, counted, turn, turned}
use Rattle.tp_meaning.specs.Meaning.{run}
use Rattle.interpreter_steps.specs.StatementParts.{begun_at}
use Rattle.interpreter_steps.specs.declared.state.Over.{Over as OverAs}
use Rattle.interpreter_steps.specs.Running.{Ends}
use Rattle.interpreter_steps.proofs.Ends.{ends_bind}
use Rattle.interpreter_steps.proofs.Entered.{four_parts}
use Rattle.interpreter_steps.specs.declared.interpreter_frames.frames.Next.{Next as NextStep}
use Rattle.interpreter_steps.specs.declared.interpreter_frames.work.Work.{Work}
use Rattle.interpreter_steps.specs.interpreter_frames.Frames.{Goes}
use Rattle.interpreter_steps.proofs.interpreter_frames.Moves.{goes, moves_found}
use Rattle.interpreter.proofs.Binds.{again_at}

-- the turns behind the beginning
abbrev turning : Program → Activation → Variable → TypeId → Bool → ℤ → ℤ → (ℤ → Does Flow) → Does Flow
turning p f variable ty checked first last go s =
    and_then (tested checked (definition (sort_in f.unit ty)) first s) (λ low t. and_then (tested checked (definition (sort_in f.unit ty)) last t) (λ high t. and_then (counter p f variable t) (λ at t. and_then (changed (assigned at (Ordinal low)) t) (λ done. go high))))

begun_is : (p : Program) (f : Activation) (variable : Variable) (ty : TypeId) (checked : Bool) (first last : ℤ) (go : ℤ → Does Flow) (s : State)
    → turning p f variable ty checked first last go s ≡ and_then (begun_at p f variable ty checked first last s) go
begun_is p f variable ty checked first last go s =
    sym (four_parts (tested checked (definition (sort_in f.unit ty)) first s) (λ low. tested checked (definition (sort_in f.unit ty)) last)
    (λ low high. counter p f variable) (λ low high at. changed (assigned at (Ordinal low))) (λ low high. high) go)

-- what follows the beginning, from where it leaves
pub moves_begun : (p : Program) (r : Result NextStep OverAs) (w : Work) (f : Activation) (variable : Variable) (ty : TypeId) (checked : Bool) (first last high : ℤ) (go : ℤ → Does Flow) (k : Flow → Does Value) (s s' t : State)
    → begun_at p f variable ty checked first last s ≡ Done high s'
    → Goes p r w t (and_then (go high s') k) → Goes p r w t (and_then (turning p f variable ty checked first last go s) k)
moves_begun p r w f variable ty checked first last high go k s s' t e x =
    goes p r w t _ _ (ap (λ (o : Outcome Flow). and_then o k) (begun_is p f variable ty checked first last go s ∙ ap (λ (o : Outcome ℤ). and_then o go) e)) x

pub ends_begun : (over : OverAs) (p : Program) (f : Activation) (variable : Variable) (ty : TypeId) (checked : Bool) (first last : ℤ) (go : ℤ → Does Flow) (k : Flow → Does Value) (s t : State)
    → Ends over t (begun_at p f variable ty checked first last s) → Ends over t (and_then (turning p f variable ty checked first last go s) k)
ends_begun over p f variable ty checked first last go k s t x =
    ends_bind over t (turning p f variable ty checked first last go s) k (subst (Ends over t) (sym (begun_is p f variable ty checked first last go s)) (ends_bind over t (begun_at p f variable ty checked first last s) go x))

-- what the variable of a `for` leads to once its value was the last one or not
abbrev following : Program → Activation → Variable → ℤ → Bool → Statement → Reached → ℤ → Bool → Does Flow
following p f variable last down body at z over s =
    chosen over (counted p f variable) (λ t. and_then (changed (number_assigned at (z +ℤ step down)) t) (λ done. run p (Turns variable last down body) f)) s

follows : (p : Program) (r : Result NextStep OverAs) (w : Work) (t s : State) (f : Activation) (variable : Variable) (last : ℤ) (down : Bool) (body : Statement) (at : Reached) (z : ℤ) (k : Flow → Does Value)
    → counter p f variable s ≡ Done at s → looked (number_in at) s ≡ Done z s
    → Goes p r w t (and_then (following p f variable last down body at z (int_eq z last) s) k)
    → Goes p r w t (and_then (turned p (run p) f variable last down body s) k)
follows p r w t s f variable last down body at z k e e' x =
    let tests : Reached → ℤ → Does Flow = λ at z. following p f variable last down body at z (int_eq z last) in
    moves_found p r w t (counter p f variable s) at (λ at u. and_then (looked (number_in at) u) (tests at)) k e
    (moves_found p r w t (looked (number_in at) s) z (tests at) k e' x)

-- behind the last turn
pub goes_over : (p : Program) (r : Result NextStep OverAs) (w : Work) (t s : State) (f : Activation) (variable : Variable) (last : ℤ) (down : Bool) (body : Statement) (at : Reached) (z : ℤ) (k : Flow → Does Value)
    → counter p f variable s ≡ Done at s → looked (number_in at) s ≡ Done z s → int_eq z last ≡ true
    → Goes p r w t (and_then (counted p f variable s) k) → Goes p r w t (and_then (turned p (run p) f variable last down body s) k)
goes_over p r w t s f variable last down body at z k e e' is x =
    follows p r w t s f variable last down body at z k e e'
    (subst (λ (over : Bool). Goes p r w t (and_then (following p f variable last down body at z over s) k)) (sym is) x)

-- behind another one the variable is stepped
pub goes_stepped : (p : Program) (r : Result NextStep OverAs) (w : Work) (t s s' : State) (f : Activation) (variable : Variable) (last : ℤ) (down : Bool) (body : Statement) (at : Reached) (z : ℤ) (k : Flow → Does Value)
    → counter p f variable s ≡ Done at s → looked (number_in at) s ≡ Done z s → int_eq z last ≡ false
    → changed (number_assigned at (z +ℤ step down)) s ≡ Done tt s'
    → Goes p r w t (and_then (turn p (run p) f variable last down body (statement p (run p) f body) s') k)
    → Goes p r w t (and_then (turned p (run p) f variable last down body s) k)
goes_stepped p r w t s s' f variable last down body at z k e e' is e'' x =
    follows p r w t s f variable last down body at z k e e'
    (subst (λ (over : Bool). Goes p r w t (and_then (following p f variable last down body at z over s) k)) (sym is)
    (moves_found p r w t (changed (number_assigned at (z +ℤ step down)) s) tt (λ done. run p (Turns variable last down body) f) k e''
    (again_at p r w t s' (Turns variable last down body) f k x)))
