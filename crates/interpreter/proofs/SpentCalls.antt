-- Calls behind their turns, and what comes before them.
use Rattle.std.proofs.Common.{◌≡◌, ℕ, Bool, List, [], ◌++◌, Option, Some, None, map, refl, sym, ap, subst, ◌∙◌}
use Rattle.std.specs.Prelude.{Result}
use Rattle.type_layout.specs.declared.definitions.TypeId.{TypeId}
use Rattle.type_layout.specs.declared.definitions.RoutineId.{RoutineId}
use Rattle.typed_tree.specs.declared.statements.Destructor.{Destructor}
use Rattle.typed_tree.specs.declared.units.Program.{Program}
use Rattle.typed_tree.specs.Expressions.{Arguments, Call, NoReceiver}
use Rattle.tp_meaning.specs.Trees.{Key, Spot, Value, Block}
use Rattle.tp_meaning.specs.Programs.{Sort, routine_key}
use Rattle.tp_meaning.specs.Outcomes.{State, Outcome, Done, Does, and_then, give, known, looked, spending}
use Rattle.tp_meaning.specs.Activations.{Reached, Activation, held_routine}
use Rattle.tp_meaning.specs.Calls.{Flow, entered, method_of}
use Rattle.tp_meaning.specs.Standard.{Operand, handed}
use Rattle.tp_meaning.specs.Expressions.{Instance, no_instance, value, operands, called, called_by_class, called_through}
use Rattle.tp_meaning.specs.Statements.{destructor_of, freed}
use Rattle.tp_meaning.specs.Meaning.{run}
use Rattle.interpreter_effects.specs.declared.standard_effects.arguments.Operand.{Operand as OperandOf}
use Rattle.interpreter_effects.specs.standard_effects.Operands.{view_operand}
use Rattle.interpreter_steps.specs.declared.state.Over.{Over as OverAs}
use Rattle.interpreter_steps.specs.Entering.{new_instance}
use Rattle.interpreter_steps.specs.StatementParts.{freed_at}
use Rattle.interpreter_steps.specs.declared.interpreter_frames.callable.Callable.{Callable}
use Rattle.interpreter_steps.specs.declared.interpreter_frames.frames.Next.{Next as NextStep}
use Rattle.interpreter_steps.specs.declared.interpreter_frames.work.Work.{Work}
use Rattle.interpreter_steps.specs.interpreter_frames.Frames.{Rest, Goes, called_named, called_on, constructed, on_operands, on_arguments}
use Rattle.interpreter_steps.proofs.interpreter_frames.Moves.{goes, moves1, moves_found, spent_bind}

-- a turn was spent, and the step came to another state behind it
pub spent_at : {A : Type 0} (p : Program) (r : Result NextStep OverAs) (w : Work) (t s s' : State) (go : Does A) (k : A → Does Value)
    → ((more : Does Value) → spending more s ≡ more s') → Goes p r w t (and_then (go s') k) → Goes p r w t (and_then (spending go s) k)
spent_at p r w t s s' go k spent x = goes p r w t _ _ (spent_bind s.turns go k s ∙ spent (λ u. and_then (go u) k)) x

-- the routine that the class of an instance has
pub goes_by_class : (p : Program) (r : Result NextStep OverAs) (w : Work) (t s s' : State) (f : Activation) (at : Reached) (slot : ℕ) (checked : Bool) (xs : List Operand) (key : Key) (k : Value → Does Value)
    → ((more : Does Value) → spending more s ≡ more s') → method_of p at slot checked s' ≡ Done key s'
    → Goes p r w t (and_then (entered p (run p) f key (Some at.spot) None (map handed xs) s') k)
    → Goes p r w t (and_then (called_by_class p (run p) f at slot checked xs s) k)
goes_by_class p r w t s s' f at slot checked xs key k spent e x =
    let enters : Key → Does Value = λ key. entered p (run p) f key (Some at.spot) None (map handed xs) in
    spent_at p r w t s s' (λ u. and_then (method_of p at slot checked u) enters) k spent
    (moves_found p r w t (method_of p at slot checked s') key enters k e x)

-- the routine that a variable holds
pub goes_through : (p : Program) (r : Result NextStep OverAs) (w : Work) (t s s' : State) (f : Activation) (at : Reached) (xs : List Operand) (key : Key) (k : Value → Does Value)
    → ((more : Does Value) → spending more s ≡ more s') → looked (held_routine at) s' ≡ Done key s'
    → Goes p r w t (and_then (entered p (run p) f key None None (map handed xs) s') k)
    → Goes p r w t (and_then (called_through p (run p) f at xs s) k)
goes_through p r w t s s' f at xs key k spent e x =
    let enters : Key → Does Value = λ key. entered p (run p) f key None None (map handed xs) in
    spent_at p r w t s s' (λ u. and_then (looked (held_routine at) u) enters) k spent
    (moves_found p r w t (looked (held_routine at) s') key enters k e x)

-- the destructor of a block, which is then freed
pub goes_freed : (p : Program) (r : Result NextStep OverAs) (w : Work) (t s s' : State) (f : Activation) (with : Destructor) (xs : List Operand) (at : Reached) (key : Key) (k : Flow → Does Value)
    → ((more : Does Value) → spending more s ≡ more s') → destructor_of p f at with s' ≡ Done key s'
    → Goes p r w t (and_then (entered p (run p) f key (Some at.spot) None (map handed xs) s') (λ v u. and_then (freed_at p at u) k))
    → Goes p r w t (and_then (freed p (run p) f with xs at.spot.object at s) k)
goes_freed p r w t s s' f with xs at key k spent e x =
    let enters : Key → Does Value = λ key. entered p (run p) f key (Some at.spot) None (map handed xs) in
    let destroys : Does Value = λ u. and_then (destructor_of p f at with u) enters in
    let frees : Value → Does Value = λ v u. and_then (freed_at p at u) k in
    moves1 p r w t (spending destroys s) (λ v. freed_at p at) k
    (spent_at p r w t s s' destroys frees spent (moves_found p r w t (destructor_of p f at with s') key enters frees e x))

-- the constructor of a new block, to which a pointer is then given
pub goes_constructed : (p : Program) (r : Result NextStep OverAs) (w : Work) (t s : State) (f : Activation) (routine : RoutineId) (serial : ℕ) (sort : Sort) (xs : List Operand) (key : Key) (instance : Instance) (k : Value → Does Value)
    → known (routine_key f.unit routine) s ≡ Done key s → new_instance serial sort s ≡ Done instance s
    → Goes p r w t (and_then (called p (run p) f key instance xs s) (λ v. k (Block serial)))
    → Goes p r w t (and_then (constructed p f routine serial sort xs s) k)
goes_constructed p r w t s f routine serial sort xs key instance k e e' x =
    let calls : Key → Instance → Does Value = λ key instance u. and_then (called p (run p) f key instance xs u) (λ v. give (Block serial)) in
    let makes : Key → Does Value = λ key u. and_then (new_instance serial sort u) (calls key) in
    moves_found p r w t (known (routine_key f.unit routine) s) key makes k e
    (moves_found p r w t (new_instance serial sort s) instance (calls key) k e'
    (moves1 p r w t (called p (run p) f key instance xs s) (λ v. give (Block serial)) k x))

-- a call of a routine that has no instance
pub goes_called : (p : Program) (r : Result NextStep OverAs) (w : Work) (t s : State) (f : Activation) (ty : Option TypeId) (routine : RoutineId) (args : Arguments) (k : Value → Does Value)
    → Goes p r w t (and_then (operands p (run p) f args s) (λ xs u. and_then (called_named p f routine no_instance xs u) k))
    → Goes p r w t (and_then (value p (run p) f (Call ty routine NoReceiver args) s) k)
goes_called p r w t s f ty routine args k x = moves1 p r w t (operands p (run p) f args s) (called_named p f routine no_instance) k x

-- a call of a method, whose instance is known
pub goes_on : (p : Program) (r : Result NextStep OverAs) (w : Work) (t s : State) (f : Activation) (routine : RoutineId) (one wanted : Instance) (args : Arguments) (k : Value → Does Value)
    → one ≡ wanted → Goes p r w t (and_then (operands p (run p) f args s) (λ xs u. and_then (called_named p f routine one xs u) k))
    → Goes p r w t (and_then (called_on p f routine wanted args s) k)
goes_on p r w t s f routine one wanted args k e x =
    moves1 p r w t (operands p (run p) f args s) (called_named p f routine wanted) k
    (subst (λ (instance : Instance). Goes p r w t (and_then (operands p (run p) f args s) (λ xs u. and_then (called_named p f routine instance xs u) k))) e x)

-- arguments in front of which none is known
pub argued_alone : (p : Program) (r : Result NextStep OverAs) (w : Work) (t s : State) (rest : Rest) (call : Callable) (front : List OperandOf) (f : Activation) (go : Does (List Operand))
    → front ≡ [] → Goes p r w t (on_arguments p rest call (map view_operand front) f go s)
    → Goes p r w t (and_then (go s) (λ xs. on_operands p rest call xs f))
argued_alone p r w t s rest call front f go e x = subst (λ (front : List OperandOf). Goes p r w t (on_arguments p rest call (map view_operand front) f go s)) e x

-- the same call by an instance and by arguments that are the same
pub entered_as : (p : Program) (r : Result NextStep OverAs) (w : Work) (t s : State) (f : Activation) (key : Key) (own own' : Option Spot) (class : Option Key) (args args' : List Value) (k : Value → Does Value)
    → own ≡ own' → args ≡ args' → Goes p r w t (and_then (entered p (run p) f key own class args s) k) → Goes p r w t (and_then (entered p (run p) f key own' class args' s) k)
entered_as p r w t s f key own own' class args args' k e e' x =
    subst (λ (args : List Value). Goes p r w t (and_then (entered p (run p) f key own' class args s) k)) e'
    (subst (λ (own : Option Spot). Goes p r w t (and_then (entered p (run p) f key own class args s) k)) e x)
