-- Dispose with a destructor.
use Rattle.std.proofs.Common.{◌≡◌, ℕ, ◌≤◌, true, List, map, Some, None, refl, sym, subst}
use Rattle.std.specs.Prelude.{Option, is_some, Ok, Err}
use Rattle.program_typing.specs.type_layout.declared.definitions.TypeId.{TypeId}
use Rattle.program_typing.specs.type_layout.declared.definitions.RoutineId.{RoutineId}
use Rattle.program_typing.specs.type_layout.declared.definitions.Param.{Param}
use Rattle.program_typing.specs.type_layout.declared.definitions.TypeDef.{TypeDef}
use Rattle.program_typing.specs.type_layout.declared.definitions.TypeDef.TheVariants as type
use Rattle.program_typing.specs.typed_tree.declared.statements.Destructor.{Destructor}
use Rattle.program_typing.specs.typed_tree.declared.statements.Destructor.TheVariants as destructor
use Rattle.program_typing.specs.typed_tree.declared.units.Program.{Program}
use Rattle.program_typing.specs.typed_tree.Expressions.{Arguments}
use Rattle.program_typing.specs.well_formed.Scopes.{Scope}
use Rattle.program_typing.specs.tp_meaning.Trees.{Key, Value, Ordinal, Text, Elements, Nil, Block, Code, Class, At, Void}
use Rattle.program_typing.specs.tp_meaning.Found.{Act, Error, IllTyped, Found}
use Rattle.program_typing.specs.tp_meaning.Shapes.{parts_at, class_place}
use Rattle.program_typing.specs.tp_meaning.Store.{Store, Object, object_at, if_there, followed, disposed}
use Rattle.program_typing.specs.tp_meaning.Programs.{Sort, definition, sort_in, class_key, routine_key}
use Rattle.program_typing.specs.tp_meaning.Outcomes.{State, Outcome, Done, Does, and_then, ◌>>=◌, ◌>>◌, give, known, found, looked, changed, spending}
use Rattle.program_typing.specs.tp_meaning.Activations.{Reached, Activation, whole}
use Rattle.program_typing.specs.tp_meaning.Calls.{Flow, Next, Runs, entered, method_of}
use Rattle.program_typing.specs.tp_meaning.Standard.{Operand, handed, target_of, target, size_freed}
use Rattle.program_typing.specs.tp_meaning.Statements.{unless_nil, destructor_of, freed}
use Rattle.program_typing.specs.store_typing.types.Agreement.{IsKnown, AreConsistent}
use Rattle.program_typing.specs.store_typing.types.Forms.{Link}
use Rattle.program_typing.specs.store_typing.stores.Worlds.{Made, World, LeadsTo, IsHeld}
use Rattle.program_typing.specs.store_typing.stores.Places.{Shared, IsAt, IsValueBy}
use Rattle.program_typing.specs.store_typing.stores.Stores.{Finds}
use Rattle.program_typing.proofs.store_typing_proofs.stores.Seen.{target_place}
use Rattle.program_typing.proofs.store_typing_proofs.stores.Kept.{disposed_keeps}
use Rattle.program_typing.specs.store_typing.standard.Laws.{HasClasses}
use Rattle.program_typing.proofs.store_typing_proofs.standard.Sizes.{freed_size}
use Rattle.program_typing.specs.lvalues.Frames.{IsActive}
use Rattle.program_typing.specs.programs.Outcomes.{IsTypedState, world, after, Ends}
use Rattle.program_typing.specs.programs.References.{Site, IsOwned, CallsNumber}
use Rattle.program_typing.specs.programs.Statements.{TakesAll, RefersDestructor}
use Rattle.program_typing.specs.programs.Calls.{GivesAs, HasSoundCalls}
use Rattle.program_typing.proofs.programs.Ends.{ends_bind, ends_more, ends_found, ends_looked, ends_spending}
use Rattle.type_soundness.proofs.expressions.Chains.{Kept, both, chain}
use Rattle.type_soundness.proofs.expressions.Values.{ValueAt, value_kept}
use Rattle.type_soundness.proofs.expressions.Operands.{TakenBy}
use Rattle.type_soundness.proofs.expressions.Instances.{instance_is}
use Rattle.type_soundness.proofs.expressions.Calls.{active_kept, place_kept}
use Rattle.type_soundness.proofs.statements.Flows.{Ended, changed_next}

-- ---- what the pointer leads to

there : (w : World) (to : Option Key) (serial : ℕ) (o : Option Object) → LeadsTo w serial to → Finds (λ n. LeadsTo w n to) (if_there o serial)
there w to serial None is = tt
there w to serial (Some object) is = is

followed_by : (w : World) (to : Option Key) (store : Store) (v : Value) → IsHeld w (Link to) v → Finds (λ n. LeadsTo w n to) (followed store v)
followed_by w to store Nil is = tt
followed_by w to store (Block serial) is = there w to serial (object_at store serial) is
followed_by w to store (Ordinal z) is = absurd is
followed_by w to store (Text bytes) is = absurd is
followed_by w to store (Elements set) is = absurd is
followed_by w to store (Code routine) is = absurd is
followed_by w to store (Class class) is = absurd is
followed_by w to store (At spot) is = absurd is
followed_by w to store Void is = absurd is

nil_or_not : (v : Value) → Finds (λ x. Unit {0}) (unless_nil v)
nil_or_not Nil = tt
nil_or_not v = tt

some_place : (o : Option ℕ) → is_some o ≡ true → (n : ℕ) × (o ≡ Some n)
some_place None e = absurd cc
some_place (Some n) e = (n, refl)

module _ (program : Program) (agreed : AreConsistent program) (closed : HasClasses program) (again : Runs) (sound : HasSoundCalls program again) (f : Activation) (number : ℕ) (withs : List TypeId) (s : Scope) where
  abbrev site : Site
  site = record { program = program; unit = f.unit; number = number }

  abbrev Body : List Made → Type 0
  Body made = IsActive (world program made) f number withs

  abbrev active : Kept
  active = active_kept program f number withs

  -- the header by which a destructor takes its arguments
  abbrev pub params_of : (class : TypeId) (with : Destructor) (args : Arguments) → RefersDestructor site s class with args → List Param
  params_of class (destructor.Routine routine) args r = r.calls.header.params
  params_of class (destructor.Slot slot checked) args r = r.method.header.params

  -- ---- the call

  routine_ends : (made : List Made) (class : TypeId) (routine : RoutineId) (args : Arguments) (r : CallsNumber site routine (IsOwned site class) (TakesAll site s args)) (xs : List Operand) (at : Reached) (t : State) → Body made
      → IsAt (world program made) at (sort_in f.unit class) → TakenBy f.unit r.calls.header.params (world program made) xs → IsTypedState (world program made) t
      → Ends (world program made) (GivesAs f.unit r.calls.header.result) ((known (routine_key f.unit routine) >>= λ key. entered program again f key (Some at.spot) None (map handed xs)) t)
  routine_ends made class routine args r xs at t k is taken typed =
      let w : World = world program made in
      let law = sound made f number withs t k typed in
      subst (λ (o : Option Key). Ends w (GivesAs f.unit r.calls.header.result) ((known o >>= λ key. entered program again f key (Some at.spot) None (map handed xs)) t)) (sym r.is)
      (law.named r.key r.calls.header r.calls.callee (Some at.spot) None (map handed xs) r.calls.names (instance_is w agreed site class r.calls.callee at None r.calls.instance is tt) taken)

  any_result : (made : List Made) (result : Option TypeId) (o : Outcome Value) → Ends (world program made) (GivesAs f.unit result) o → Ends (world program made) Ended o
  any_result made result o h = ends_more (GivesAs f.unit result) (world program made) Ended o (λ more v is. tt) h

  destructor_ends : (made : List Made) (class : TypeId) (with : Destructor) (args : Arguments) (r : RefersDestructor site s class with args) (xs : List Operand) (at : Reached) (t : State) → Body made
      → IsAt (world program made) at (sort_in f.unit class) → TakenBy f.unit (params_of class with args r) (world program made) xs → IsTypedState (world program made) t
      → Ends (world program made) Ended ((destructor_of program f at with >>= λ key. entered program again f key (Some at.spot) None (map handed xs)) t)
  destructor_ends made class (destructor.Routine routine) args r xs at t k is taken typed =
      any_result made r.calls.header.result ((known (routine_key f.unit routine) >>= λ key. entered program again f key (Some at.spot) None (map handed xs)) t) (routine_ends made class routine args r xs at t k is taken typed)
  destructor_ends made class (destructor.Slot slot checked) args r xs at t k is taken typed =
      let law = sound made f number withs t k typed in
      any_result made r.method.header.result ((method_of program at slot checked >>= λ key. entered program again f key (Some at.spot) None (map handed xs)) t) (law.by_class at class slot r.method checked (map handed xs) is r.part r.is taken)

  -- ---- the block goes

  gone_ends : (made : List Made) (class : TypeId) (serial : ℕ) (t : State) → IsKnown program (sort_in f.unit class) → is_some (class_place (parts_at f.unit.types.types class)) ≡ true
      → IsAt (world program made) (record { spot = whole serial; sort = sort_in f.unit class }) (sort_in f.unit class) → IsTypedState (world program made) t
      → Ends (world program made) Ended ((looked (size_freed program (record { spot = whole serial; sort = sort_in f.unit class })) >>= λ bytes. changed (λ store. disposed store serial bytes) >> give Next) t)
  gone_ends made class serial t ks part is typed =
      let w : World = world program made in
      let at : Reached = record { spot = whole serial; sort = sort_in f.unit class } in
      let place = some_place (class_place (parts_at f.unit.types.types class)) part in
      ends_bind Ended w Ended (looked (size_freed program at) t) (λ bytes. changed (λ store. disposed store serial bytes) >> give Next)
      (ends_looked Ended w (size_freed program at) t typed (finds_any (size_freed program at t.store) (freed_size w agreed closed t.store typed.store at (sort_in f.unit class) place.0 ks is place.1))) (λ more bytes u typed' x.
      changed_next (after w more) (λ store. disposed store serial bytes) u typed' (disposed_keeps (after w more) u.store typed'.store serial bytes)) where
        finds_any : (x : Found ℕ) → Finds (λ n. n ≤ 65520) x → Finds (λ n. Unit {0}) x
        finds_any (Ok n) h = tt
        finds_any (Err (Act n)) h = tt
        finds_any (Err (Error n)) h = tt
        finds_any (Err IllTyped) h = h

  freed_ends : (made : List Made) (class : TypeId) (with : Destructor) (args : Arguments) (r : RefersDestructor site s class with args) (xs : List Operand) (serial : ℕ) (t : State) → IsKnown program (sort_in f.unit class)
      → is_some (class_place (parts_at f.unit.types.types class)) ≡ true → Body made → LeadsTo (world program made) serial (class_key (sort_in f.unit class)) → TakenBy f.unit (params_of class with args r) (world program made) xs → IsTypedState (world program made) t
      → Ends (world program made) Ended (freed program again f with xs serial (record { spot = whole serial; sort = sort_in f.unit class }) t)
  freed_ends made class with args r xs serial t ks part k leads taken typed =
      let w : World = world program made in
      let sort : Sort = sort_in f.unit class in
      let at : Reached = record { spot = whole serial; sort = sort } in
      let is : IsAt w at sort = record { place = target_place w agreed serial sort ks leads; same = Shared ks ks refl } in
      let call : Does Value = destructor_of program f at with >>= λ key. entered program again f key (Some at.spot) None (map handed xs) in
      chain program (both active (place_kept program at sort)) Ended Ended made (spending call t) (λ v. looked (size_freed program at) >>= λ bytes. changed (λ store. disposed store serial bytes) >> give Next) (k, is)
      (ends_spending Ended w call t typed (λ u typed'. destructor_ends made class with args r xs at u k is taken typed')) (λ made' v u k' typed' x.
      gone_ends made' class serial u ks part k'.1 typed')

  -- ---- the whole

  -- what the pointer leads to is freed, once the arguments are known
  abbrev Freeing : Destructor → Does Sort → Value → List Operand → Does Flow
  Freeing with find v xs =
      looked (λ store. followed store v) >>= λ serial. find >>= λ sort. found (target sort) >>= λ to. freed program again f with xs serial (record { spot = whole serial; sort = to })

  freeing_ends : (made : List Made) (pointer class : TypeId) (with : Destructor) (args : Arguments) (r : RefersDestructor site s class with args) (find : Does Sort) (v : Value) (xs : List Operand) (t : State)
      → definition (sort_in f.unit pointer) ≡ Some (type.PointerTo class) → IsKnown program (sort_in f.unit class) → is_some (class_place (parts_at f.unit.types.types class)) ≡ true
      → ((t : State) → find t ≡ Done (sort_in f.unit pointer) t) → Body made → ValueAt (sort_in f.unit pointer) (world program made) v → TakenBy f.unit (params_of class with args r) (world program made) xs → IsTypedState (world program made) t
      → Ends (world program made) Ended (Freeing with find v xs t)
  freeing_ends made pointer class with args r find v xs t e ks part finds k is taken typed =
      by (followed t.store v) (followed_by (world program made) (class_key (sort_in f.unit class)) t.store v (subst (λ (d : Option TypeDef). IsValueBy (world program made) (sort_in f.unit pointer) d v) e is)) where
        by : (x : Found ℕ) → Finds (λ n. LeadsTo (world program made) n (class_key (sort_in f.unit class))) x
            → Ends (world program made) Ended (and_then (found x t) (λ serial. find >>= λ sort. found (target sort) >>= λ to. freed program again f with xs serial (record { spot = whole serial; sort = to })))
        by (Ok serial) leads =
            subst (λ (x : Outcome Sort). Ends (world program made) Ended (and_then x (λ sort. found (target sort) >>= λ to. freed program again f with xs serial (record { spot = whole serial; sort = to })))) (sym (finds t))
            (subst (λ (d : Option TypeDef). Ends (world program made) Ended ((found (target_of (sort_in f.unit pointer) d) >>= λ to. freed program again f with xs serial (record { spot = whole serial; sort = to })) t)) (sym e)
            (freed_ends made class with args r xs serial t ks part k leads taken typed))
        by (Err (Act n)) h = tt
        by (Err (Error n)) h = tt
        by (Err IllTyped) h = h

  pub unmade_ends : (made : List Made) (pointer class : TypeId) (with : Destructor) (args : Arguments) (r : RefersDestructor site s class with args) (o : Outcome Value) (find : Does Sort) (go : Does (List Operand))
      → definition (sort_in f.unit pointer) ≡ Some (type.PointerTo class) → IsKnown program (sort_in f.unit class) → is_some (class_place (parts_at f.unit.types.types class)) ≡ true
      → ((t : State) → find t ≡ Done (sort_in f.unit pointer) t) → Body made → Ends (world program made) (ValueAt (sort_in f.unit pointer)) o
      → ((made' : List Made) (t : State) → Body made' → IsTypedState (world program made') t → Ends (world program made') (TakenBy f.unit (params_of class with args r)) (go t))
      → Ends (world program made) Ended (and_then o (λ v. found (unless_nil v) >> (go >>= Freeing with find v)))
  unmade_ends made pointer class with args r o find go e ks part finds k h next =
      let sort : Sort = sort_in f.unit pointer in
      chain program active (ValueAt sort) Ended made o (λ v. found (unless_nil v) >> (go >>= Freeing with find v)) k h (λ made1 v t k1 typed1 is.
      let held : Kept = both active (value_kept program sort v) in
      chain program held (λ w x. Unit {0}) Ended made1 (found (unless_nil v) t) (λ x. go >>= Freeing with find v) (k1, is)
      (ends_found (λ w x. Unit {0}) (world program made1) (unless_nil v) t typed1 (nil_or_not v)) (λ made2 x u k2 typed2 y.
      chain program held (TakenBy f.unit (params_of class with args r)) Ended made2 (go u) (Freeing with find v) k2 (next made2 u k2.0 typed2) (λ made3 xs v3 k3 typed3 taken.
      freeing_ends made3 pointer class with args r find v xs v3 e ks part finds k3.0 k3.1 taken typed3)))
