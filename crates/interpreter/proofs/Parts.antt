-- Items that are written, and blocks that are disposed of.
use Rattle.std.proofs.Common.{◌≡◌, ℕ, List, refl, sym, ap, subst, ◌∙◌}
use Rattle.std.specs.Prelude.{ℤ, Bool, Result, Ok}
use Rattle.typed_tree.specs.declared.units.Program.{Program}
use Rattle.typed_tree.specs.declared.statements.Destructor.{Destructor}
use Rattle.typed_tree.specs.Expressions.{Expression}
use Rattle.typed_tree.specs.Statements.{Written}
use Rattle.tp_meaning.specs.Trees.{Value}
use Rattle.tp_meaning.specs.Programs.{Sort, definition}
use Rattle.tp_meaning.specs.Outcomes.{State, Outcome, Done, Does, and_then, give, found, looked, printed}
use Rattle.tp_meaning.specs.Activations.{Reached, Activation, whole}
use Rattle.tp_meaning.specs.Calls.{Flow}
use Rattle.tp_meaning.specs.Store.{followed}
use Rattle.tp_meaning.specs.Standard.{Operand, field_text, text_of, target}
use Rattle.tp_meaning.specs.Expressions.{sort_of}
use Rattle.tp_meaning.specs.Statements.{written, line_written, freed, unmade_at}
use Rattle.tp_meaning.specs.Meaning.{run}
use Rattle.interpreter_steps.specs.declared.state.Over.{Over as OverAs}
use Rattle.interpreter_steps.specs.Running.{Ends}
use Rattle.interpreter_steps.specs.Places.{followed_to}
use Rattle.interpreter_steps.specs.StatementParts.{printed_in}
use Rattle.interpreter_steps.proofs.Ends.{ends_bind}
use Rattle.interpreter_steps.proofs.Entered.{bind_assoc, bind_same}
use Rattle.interpreter_steps.specs.declared.interpreter_frames.frames.Next.{Next as NextStep}
use Rattle.interpreter_steps.specs.declared.interpreter_frames.work.Work.{Work}
use Rattle.interpreter_steps.specs.interpreter_frames.Frames.{printed_then, Goes}
use Rattle.interpreter_steps.proofs.interpreter_frames.Moves.{goes, two_binds}

printed_is : (p : Program) (f : Activation) (sort : Sort) (v : Value) (rest : List Written) (width : ℤ) (s : State)
    → printed_then p f sort v rest width s ≡ and_then (printed_in sort v width s) (λ done. written p (run p) f rest)
printed_is p f sort v rest width s = sym (two_binds (found (text_of (definition sort) v) s) (λ text. printed (field_text width text)) (λ done. written p (run p) f rest))

pub moves_printed : (p : Program) (r : Result NextStep OverAs) (w : Work) (f : Activation) (sort : Sort) (v : Value) (rest : List Written) (width : ℤ) (line : Bool) (k : Flow → Does Value) (s s' t : State)
    → printed_in sort v width s ≡ Done tt s'
    → Goes p r w t (and_then (and_then (written p (run p) f rest s') (λ done. line_written line)) k)
    → Goes p r w t (and_then (and_then (printed_then p f sort v rest width s) (λ done. line_written line)) k)
moves_printed p r w f sort v rest width line k s s' t e x =
    let ends : Outcome (Unit {0}) → Outcome Value = λ o. and_then (and_then o (λ done. line_written line)) k in
    goes p r w t _ _ (ap ends (printed_is p f sort v rest width s ∙ ap (λ (o : Outcome (Unit {0})). and_then o (λ done. written p (run p) f rest)) e)) x

pub ends_printed : (over : OverAs) (p : Program) (f : Activation) (sort : Sort) (v : Value) (rest : List Written) (width : ℤ) (line : Bool) (k : Flow → Does Value) (s t : State)
    → Ends over t (printed_in sort v width s) → Ends over t (and_then (and_then (printed_then p f sort v rest width s) (λ done. line_written line)) k)
ends_printed over p f sort v rest width line k s t x =
    let whole : Outcome (Unit {0}) = printed_then p f sort v rest width s in
    ends_bind over t (and_then whole (λ done. line_written line)) k (ends_bind over t whole (λ done. line_written line)
    (subst (Ends over t) (sym (printed_is p f sort v rest width s)) (ends_bind over t (printed_in sort v width s) (λ done. written p (run p) f rest) x)))

-- three parts that give something together, and what follows
three_parts : {A B C E F : Type 0} (a : Outcome A) (b : A → Does B) (c : A → B → Does C) (e : A → B → C → E) (k : E → Does F)
    → and_then (and_then a (λ x s. and_then (b x s) (λ y t. and_then (c x y t) (λ z. give (e x y z))))) k
    ≡ and_then a (λ x s. and_then (b x s) (λ y t. and_then (c x y t) (λ z. k (e x y z))))
three_parts {A} {B} {C} {E} {F} a b c e k =
    let last : A → B → C → Does E = λ x y z. give (e x y z) in
    let three : A → B → Does E = λ x y t. and_then (c x y t) (last x y) in
    let two : A → Does E = λ x s. and_then (b x s) (three x) in
    let last' : A → B → C → Does F = λ x y z. k (e x y z) in
    let three' : A → B → Does F = λ x y t. and_then (c x y t) (last' x y) in
    bind_assoc a two k ∙ bind_same a (λ x s. and_then (two x s) k) (λ x s. and_then (b x s) (three' x)) (λ x s.
    bind_assoc (b x s) (three x) k ∙ bind_same (b x s) (λ y t. and_then (three x y t) k) (three' x) (λ y t.
    bind_assoc (c x y t) (last x y) k))

-- the destructor of the block at a place is called, and then the block is freed
abbrev pub freed_by : Program → Activation → Destructor → List Operand → Reached → Does Flow
freed_by p f destructor xs at s = freed p (run p) f destructor xs at.spot.object at s

unmade_is : (p : Program) (f : Activation) (pointer : Expression) (destructor : Destructor) (xs : List Operand) (v : Value) (s : State)
    → unmade_at p (run p) f pointer destructor xs v s ≡ and_then (followed_to f pointer v s) (freed_by p f destructor xs)
unmade_is p f pointer destructor xs v s =
    sym (three_parts (looked (λ store. followed store v) s) (λ serial. sort_of f pointer) (λ serial sort. found (target sort)) (λ serial sort to. record { spot = whole serial; sort = to })
    (freed_by p f destructor xs))

pub moves_unmade : (p : Program) (r : Result NextStep OverAs) (w : Work) (t : State) (f : Activation) (pointer : Expression) (destructor : Destructor) (xs : List Operand) (v : Value) (at : Reached) (k : Flow → Does Value) (s : State)
    → followed_to f pointer v s ≡ Done at s → Goes p r w t (and_then (freed_by p f destructor xs at s) k)
    → Goes p r w t (and_then (unmade_at p (run p) f pointer destructor xs v s) k)
moves_unmade p r w t f pointer destructor xs v at k s e x =
    goes p r w t _ _ (ap (λ (o : Outcome Flow). and_then o k) (unmade_is p f pointer destructor xs v s ∙ ap (λ (o : Outcome Reached). and_then o (freed_by p f destructor xs)) e)) x

pub ends_unmade : (over : OverAs) (p : Program) (f : Activation) (pointer : Expression) (destructor : Destructor) (xs : List Operand) (v : Value) (k : Flow → Does Value) (s : State)
    → Ends over s (followed_to f pointer v s) → Ends over s (and_then (unmade_at p (run p) f pointer destructor xs v s) k)
ends_unmade over p f pointer destructor xs v k s x =
    ends_bind over s (unmade_at p (run p) f pointer destructor xs v s) k
    (subst (Ends over s) (sym (unmade_is p f pointer destructor xs v s)) (ends_bind over s (followed_to f pointer v s) (freed_by p f destructor xs) x))
