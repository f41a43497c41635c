-- A new instance: the block is made before the arguments, and its class is known behind them.
use Rattle.std.proofs.Common.{◌≡◌, ℕ, List, Option, Some, None, refl, sym, ap, subst, ◌∙◌}
use Rattle.std.specs.Prelude.{Result}
use Rattle.type_layout.specs.declared.definitions.TypeId.{TypeId}
use Rattle.type_layout.specs.declared.definitions.RoutineId.{RoutineId}
use Rattle.typed_tree.specs.declared.units.Program.{Program}
use Rattle.typed_tree.specs.Expressions.{Arguments, Make}
use Rattle.tp_meaning.specs.Trees.{Key, Value, Block}
use Rattle.tp_meaning.specs.Programs.{Sort, sort_in, routine_key, class_key}
use Rattle.tp_meaning.specs.Outcomes.{State, Outcome, Done, Does, and_then, give, found, known}
use Rattle.tp_meaning.specs.Activations.{Activation, whole}
use Rattle.tp_meaning.specs.Standard.{Operand, target}
use Rattle.tp_meaning.specs.Expressions.{Instance, value, operands, called, block_made}
use Rattle.tp_meaning.specs.Meaning.{run}
use Rattle.interpreter_steps.specs.declared.state.Over.{Over as OverAs}
use Rattle.interpreter_steps.specs.Running.{Ends}
use Rattle.interpreter_steps.specs.Places.{block_for}
use Rattle.interpreter_steps.specs.Entering.{new_instance}
use Rattle.interpreter_steps.proofs.Ends.{ends_bind}
use Rattle.interpreter_steps.proofs.Entered.{bind_assoc, bind_same}
use Rattle.interpreter_steps.specs.declared.interpreter_frames.frames.Next.{Next as NextStep}
use Rattle.interpreter_steps.specs.declared.interpreter_frames.work.Work.{Work}
use Rattle.interpreter_steps.specs.interpreter_frames.Frames.{constructed, Goes}
use Rattle.interpreter_steps.proofs.interpreter_frames.Moves.{goes, moves1, moves_found}

abbrev instance_of : ℕ → Key → Instance
instance_of serial class = record { own = Some (whole serial); class = Some class }

-- the class of a new instance, and then its constructor
instance_is : {B : Type 0} (o : Option Key) (serial : ℕ) (go : Instance → Does B) (s : State)
    → and_then (known o s) (λ class. go (instance_of serial class)) ≡ and_then (and_then (known o s) (λ class. give (instance_of serial class))) go
instance_is None serial go s = refl
instance_is (Some class) serial go s = refl

-- the constructor's call, and the pointer
abbrev built : Program → Activation → ℕ → List Operand → Key → Instance → Does Value
built p f serial xs key instance s = and_then (called p (run p) f key instance xs s) (λ v. give (Block serial))

constructed_is : (p : Program) (f : Activation) (routine : RoutineId) (serial : ℕ) (sort : Sort) (xs : List Operand) (s : State)
    → and_then (known (routine_key f.unit routine) s) (λ key t. and_then (known (class_key sort) t) (λ class. built p f serial xs key (instance_of serial class)))
    ≡ constructed p f routine serial sort xs s
constructed_is p f routine serial sort xs s =
    bind_same (known (routine_key f.unit routine) s) (λ key t. and_then (known (class_key sort) t) (λ class. built p f serial xs key (instance_of serial class)))
    (λ key t. and_then (new_instance serial sort t) (built p f serial xs key))
    (λ key t. instance_is (class_key sort) serial (built p f serial xs key) t)

-- the arguments, and then the constructor
abbrev pub argued_with : Program → Activation → RoutineId → Arguments → ℕ × Sort → Does Value
argued_with p f routine args made s = and_then (operands p (run p) f args s) (constructed p f routine made.0 made.1)

make_is : (p : Program) (f : Activation) (ty : TypeId) (routine : RoutineId) (args : Arguments) (s : State)
    → value p (run p) f (Make ty routine args) s ≡ and_then (block_for p f ty s) (argued_with p f routine args)
make_is p f ty routine args s =
    let first : Outcome Sort = found (target (sort_in f.unit ty)) s in
    let tail : Sort → ℕ → Does Value = λ sort serial t. and_then (operands p (run p) f args t) (λ xs u. and_then (known (routine_key f.unit routine) u) (λ key v. and_then (known (class_key sort) v) (λ class. built p f serial xs key (instance_of serial class)))) in
    let pair : Sort → ℕ → Does (ℕ × Sort) = λ sort serial. give (serial, sort) in
    bind_same first (λ sort t. and_then (block_made p sort t) (tail sort)) (λ sort t. and_then (and_then (block_made p sort t) (pair sort)) (argued_with p f routine args)) (λ sort t.
    bind_same (block_made p sort t) (tail sort) (λ serial. argued_with p f routine args (serial, sort)) (λ serial u.
    bind_same (operands p (run p) f args u) (λ xs w. and_then (known (routine_key f.unit routine) w) (λ key v. and_then (known (class_key sort) v) (λ class. built p f serial xs key (instance_of serial class))))
    (constructed p f routine serial sort) (λ xs w. constructed_is p f routine serial sort xs w))
    ∙ sym (bind_assoc (block_made p sort t) (pair sort) (argued_with p f routine args)))
    ∙ sym (bind_assoc first (λ sort t. and_then (block_made p sort t) (pair sort)) (argued_with p f routine args))

pub moves_make : (p : Program) (r : Result NextStep OverAs) (w : Work) (f : Activation) (ty : TypeId) (routine : RoutineId) (args : Arguments) (made : ℕ × Sort) (k : Value → Does Value) (s s' t : State)
    → block_for p f ty s ≡ Done made s' → Goes p r w t (and_then (operands p (run p) f args s') (λ xs u. and_then (constructed p f routine made.0 made.1 xs u) k))
    → Goes p r w t (and_then (value p (run p) f (Make ty routine args) s) k)
moves_make p r w f ty routine args made k s s' t e x =
    goes p r w t _ _ (ap (λ (o : Outcome Value). and_then o k) (make_is p f ty routine args s))
    (moves_found p r w t (block_for p f ty s) made (argued_with p f routine args) k e
    (moves1 p r w t (operands p (run p) f args s') (constructed p f routine made.0 made.1) k x))

pub ends_make : (over : OverAs) (p : Program) (f : Activation) (ty : TypeId) (routine : RoutineId) (args : Arguments) (k : Value → Does Value) (s t : State)
    → Ends over t (block_for p f ty s) → Ends over t (and_then (value p (run p) f (Make ty routine args) s) k)
ends_make over p f ty routine args k s t x =
    ends_bind over t (value p (run p) f (Make ty routine args) s) k
    (subst (Ends over t) (sym (make_is p f ty routine args s)) (ends_bind over t (block_for p f ty s) (argued_with p f routine args) x))
