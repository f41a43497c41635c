-- Calls, once the instance and the arguments are known.
use Rattle.std.proofs.Common.{◌≡◌, ℕ, Bool, List, [], ◌∷◌, ◌++◌, map, Some, None, refl, sym, subst}
use Rattle.std.specs.Prelude.{Option, Ok, Err, if◌then◌else◌}
use Rattle.program_typing.specs.type_layout.declared.definitions.TypeId.{TypeId}
use Rattle.program_typing.specs.type_layout.declared.definitions.RoutineId.{RoutineId}
use Rattle.program_typing.specs.type_layout.declared.definitions.Header.{Header}
use Rattle.program_typing.specs.type_layout.declared.definitions.TypeDef.{TypeDef}
use Rattle.program_typing.specs.type_layout.declared.definitions.TypeDef.TheVariants as type
use Rattle.program_typing.specs.type_layout.Table.{IsObject}
use Rattle.program_typing.specs.typed_tree.declared.units.Program.{Program}
use Rattle.program_typing.specs.typed_tree.type_fits.Standard.{Slot}
use Rattle.program_typing.specs.tp_meaning.Trees.{Key, Value, Ordinal, Text, Elements, Nil, Block, Code, Class, At, Void}
use Rattle.program_typing.specs.tp_meaning.Found.{Act, Error, IllTyped, Found}
use Rattle.program_typing.specs.tp_meaning.Store.{Store, value_at, routine_of, next_serial}
use Rattle.program_typing.specs.tp_meaning.Programs.{Sort, definition, sort_in, class_key, routine_key}
use Rattle.program_typing.specs.tp_meaning.Outcomes.{State, Outcome, Does, and_then, ◌>>=◌, ◌>>◌, give, known, found, looked, changed, spending}
use Rattle.program_typing.specs.tp_meaning.Activations.{Reached, Activation, Callee, whole, held_routine}
use Rattle.program_typing.specs.tp_meaning.Calls.{Runs, entered, method_of, overlay_called}
use Rattle.program_typing.specs.tp_meaning.Standard.{Operand, handed, target_of, target, made as new_made}
use Rattle.program_typing.specs.tp_meaning.Expressions.{Instance, no_instance, called, called_by_class, called_through, block_made}
use Rattle.program_typing.specs.store_typing.types.Declared.{DeclaredHeader, declared_header}
use Rattle.program_typing.specs.store_typing.types.Agreement.{IsKnown, AreConsistent}
use Rattle.program_typing.specs.store_typing.types.Forms.{Link, Routine}
use Rattle.program_typing.proofs.store_typing_proofs.types.SameForms.{whole as whole_form}
use Rattle.program_typing.proofs.store_typing_proofs.types.Lines.{is_declared}
use Rattle.program_typing.proofs.store_typing_proofs.types.Agreed.{lawful, known_at}
use Rattle.program_typing.specs.store_typing.stores.Worlds.{Made, Own, World, LeadsTo, IsHeld, IsCode}
use Rattle.program_typing.specs.store_typing.stores.Places.{Shared, IsAt, IsValueBy}
use Rattle.program_typing.specs.store_typing.stores.Stores.{IsTypedStore, Finds}
use Rattle.program_typing.proofs.store_typing_proofs.stores.Paths.{finds_bind, finds_more}
use Rattle.program_typing.proofs.store_typing_proofs.stores.Grown.{grows_by, held_grows, at_grows}
use Rattle.program_typing.proofs.store_typing_proofs.stores.Seen.{place_seen, target_place}
use Rattle.program_typing.proofs.store_typing_proofs.stores.Steps.{cell_found}
use Rattle.program_typing.specs.store_typing.standard.Operands.{AreOperands}
use Rattle.program_typing.proofs.store_typing_proofs.standard.Blocks.{IsMadeFor, block_made as block_is_made}
use Rattle.program_typing.specs.lvalues.Frames.{IsActive}
use Rattle.program_typing.specs.programs.Outcomes.{IsTypedState, world, after, Ends}
use Rattle.program_typing.specs.programs.References.{Site, IsOwned, CallsNumber, CallsOverlay, CallsSlot}
use Rattle.program_typing.specs.programs.Calls.{IsInstance, GivesAs, HasSoundCalls}
use Rattle.program_typing.proofs.programs.Ends.{active_after, ends_bind, ends_done, ends_spending, Changes, ends_changed_so}
use Rattle.type_soundness.proofs.expressions.Chains.{Kept, both, chain}
use Rattle.type_soundness.proofs.expressions.Values.{ValueAt}
use Rattle.type_soundness.proofs.expressions.Places.{PlaceAt}
use Rattle.type_soundness.proofs.expressions.Operands.{TakenBy}
use Rattle.type_soundness.proofs.expressions.Instances.{instance_kept, instance_is, InstanceOf}

-- ---- what holds all along a body

abbrev pub active_kept : Program → Activation → ℕ → List TypeId → Kept
active_kept program f number withs = record {
  holds = λ made. IsActive (world program made) f number withs;
  keep = λ made more h. active_after (world program made) more f number withs h;
}

abbrev pub place_kept : Program → Reached → Sort → Kept
place_kept program at seen = record {
  holds = λ made. IsAt (world program made) at seen;
  keep = λ made more h. at_grows (world program made) (world program (made ++ more)) (grows_by (world program made) more) at seen h;
}

abbrev pub leads_kept : Program → ℕ → Option Key → Kept
leads_kept program serial to = record {
  holds = λ made. LeadsTo (world program made) serial to;
  keep = λ made more h. held_grows (world program made) (world program (made ++ more)) (grows_by (world program made) more) (Link to) (Block serial) h;
}

-- ---- new blocks

module _ (program : Program) (agreed : AreConsistent program) where
  -- a block that is made is one that a pointer may lead to
  pub block_ends : (made : List Made) (sort : Sort) (s : State) → IsKnown program sort → IsTypedState (world program made) s → Ends (world program made) (λ w serial. LeadsTo w serial (class_key sort)) (block_made program sort s)
  block_ends made sort s ks typed =
      let w : World = world program made in
      let serial : ℕ = next_serial s.store in
      let R : World → Type 0 = λ v. LeadsTo v serial (class_key sort) in
      let change : Store → Found Store = new_made program sort in
      ends_bind (λ v u. R v) w (λ v n. LeadsTo v n (class_key sort)) (changed change s) (λ u. give serial)
      (ends_changed_so R w change s typed
      (finds_more (IsMadeFor w agreed sort serial) (Changes w R) (change s.store) (λ store is. record { more = Own sort ∷ []; typed = is.typed; is = is.leads }) (block_is_made w agreed s.store typed.store sort ks)))
      (λ more u t typed' is. ends_done (λ v n. LeadsTo v n (class_key sort)) (after w more) serial t typed' is)

  -- a type that is known has a key
  pub key_of_known : (sort : Sort) → IsKnown program sort → (key : Key) × (class_key sort ≡ Some key)
  key_of_known sort ks = let law = lawful program agreed sort ks in is_declared sort.table law.well_formed sort.ty (known_at program agreed sort ks)

  -- ---- routines that variables hold

  code_of : (w : World) (header : DeclaredHeader) (v : Value) → IsHeld w (Routine header) v → Finds (IsCode w.program header) (routine_of v)
  code_of w header (Code key) is = is
  code_of w header (Ordinal z) is = absurd is
  code_of w header (Text bytes) is = absurd is
  code_of w header (Elements set) is = absurd is
  code_of w header Nil is = absurd is
  code_of w header (Block serial) is = absurd is
  code_of w header (Class class) is = absurd is
  code_of w header (At spot) is = absurd is
  code_of w header Void is = absurd is

routine_found : (w : World) (agreed : AreConsistent w.program) (store : Store) → IsTypedStore w store → (at : Reached) (seen : Sort) (header : Header) → IsKnown w.program seen → definition seen ≡ Some (type.Procedural header) → IsAt w at seen
    → Finds (IsCode w.program (declared_header seen.table header)) (held_routine at store)
routine_found w agreed store typed at seen header ks e is =
    let dh : DeclaredHeader = declared_header seen.table header in
    finds_bind (IsHeld w (Routine dh)) (IsCode w.program dh) (value_at store at.spot) routine_of
    (cell_found w agreed store typed at.spot seen (Routine dh) (place_seen w agreed at.spot at.sort seen is.same is.place) (λ o. subst IsObject e o) (whole_form w.program agreed seen (type.Procedural header) ks e))
    (λ v held. code_of w.program agreed w dh v held)

-- ---- calls

abbrev pub AreOperandsOf : List Slot → World → List Operand → Type 0
AreOperandsOf slots w xs = AreOperands w slots xs

module _ (program : Program) (agreed : AreConsistent program) (again : Runs) (sound : HasSoundCalls program again) (f : Activation) (number : ℕ) (withs : List TypeId) where
  abbrev here : Site
  here = record { program = program; unit = f.unit; number = number }

  abbrev active : Kept
  active = active_kept program f number withs

  -- a routine of a source
  called_ends : {I : Callee → Type 0} {T : Header → Type 0} (made : List Made) (routine : RoutineId) (n : CallsNumber here routine I T) (i : Instance) (xs : List Operand) (s : State) → IsActive (world program made) f number withs → IsTypedState (world program made) s
      → IsInstance (world program made) n.calls.callee i.own i.class → TakenBy f.unit n.calls.header.params (world program made) xs
      → Ends (world program made) (GivesAs f.unit n.calls.header.result) ((known (routine_key f.unit routine) >>= λ key. called program again f key i xs) s)
  called_ends made routine n i xs s k typed inst taken =
      let w : World = world program made in
      let Q : World → Value → Type 0 = GivesAs f.unit n.calls.header.result in
      let go : Does Value = entered program again f n.key i.own i.class (map handed xs) in
      subst (λ (o : Option Key). Ends w Q ((known o >>= λ key. called program again f key i xs) s)) (sym n.is)
      (subst (λ (b : Bool). Ends w Q ((if b then overlay_called program n.key.number (map handed xs) else spending go) s)) (sym n.own)
      (ends_spending Q w go s typed (λ t typed'. let law = sound made f number withs t k typed' in law.named n.key n.calls.header n.calls.callee i.own i.class (map handed xs) n.calls.names inst taken)))

  pub call_ends : {I : Callee → Type 0} {T : Header → Type 0} (made : List Made) (routine : RoutineId) (n : CallsNumber here routine I T) (o : Outcome Instance) (go : Does (List Operand)) → IsActive (world program made) f number withs
      → Ends (world program made) (InstanceOf n.calls.callee) o
      → ((made' : List Made) (t : State) → IsActive (world program made') f number withs → IsTypedState (world program made') t → Ends (world program made') (TakenBy f.unit n.calls.header.params) (go t))
      → Ends (world program made) (GivesAs f.unit n.calls.header.result) (and_then o (λ i. go >>= λ xs. known (routine_key f.unit routine) >>= λ key. called program again f key i xs))
  call_ends made routine n o go k h next =
      let Q : World → Value → Type 0 = GivesAs f.unit n.calls.header.result in
      chain program active (InstanceOf n.calls.callee) Q made o (λ i. go >>= λ xs. known (routine_key f.unit routine) >>= λ key. called program again f key i xs) k h (λ made' i s k' typed inst.
      chain program (both active (instance_kept program n.calls.callee i.own i.class)) (TakenBy f.unit n.calls.header.params) Q made' (go s) (λ xs. known (routine_key f.unit routine) >>= λ key. called program again f key i xs) (k', inst)
      (next made' s k' typed) (λ made'' xs t k'' typed' taken. called_ends made'' routine n i xs t k''.0 typed' k''.1 taken))

  -- a routine of the unit Overlay
  pub overlay_ends : {F : List Slot → Type 0} (made : List Made) (routine : RoutineId) (n : CallsOverlay here routine F) (s : State) (go : Does (List Operand)) → IsActive (world program made) f number withs
      → Ends (world program made) (AreOperandsOf n.slots) (go s)
      → Ends (world program made) (GivesAs f.unit None) ((give no_instance >>= λ i. go >>= λ xs. known (routine_key f.unit routine) >>= λ key. called program again f key i xs) s)
  overlay_ends made routine n s go k h =
      let Q : World → Value → Type 0 = GivesAs f.unit None in
      chain program active (AreOperandsOf n.slots) Q made (go s) (λ xs. known (routine_key f.unit routine) >>= λ key. called program again f key no_instance xs) k h (λ made' xs t k' typed are.
      let w : World = world program made' in
      subst (λ (o : Option Key). Ends w Q ((known o >>= λ key. called program again f key no_instance xs) t)) (sym n.is)
      (subst (λ (b : Bool). Ends w Q ((if b then overlay_called program n.key.number (map handed xs) else spending (entered program again f n.key None None (map handed xs))) t)) (sym n.own)
      (let law = sound made' f number withs t k' typed in law.overlay n.key.number n.slots xs n.one are)))

  -- a method by class
  pub virtual_ends : {T : Header → Type 0} (made : List Made) (class : TypeId) (slot : ℕ) (checked : Bool) (n : CallsSlot here class slot T) (o : Outcome Reached) (go : Does (List Operand)) → IsActive (world program made) f number withs
      → Ends (world program made) (PlaceAt (sort_in f.unit class)) o
      → ((made' : List Made) (t : State) → IsActive (world program made') f number withs → IsTypedState (world program made') t → Ends (world program made') (TakenBy f.unit n.method.header.params) (go t))
      → Ends (world program made) (GivesAs f.unit n.method.header.result) (and_then o (λ at. go >>= λ xs. called_by_class program again f at slot checked xs))
  virtual_ends made class slot checked n o go k h next =
      let Q : World → Value → Type 0 = GivesAs f.unit n.method.header.result in
      chain program active (PlaceAt (sort_in f.unit class)) Q made o (λ at. go >>= λ xs. called_by_class program again f at slot checked xs) k h (λ made' at s k' typed is.
      chain program (both active (place_kept program at (sort_in f.unit class))) (TakenBy f.unit n.method.header.params) Q made' (go s) (λ xs. called_by_class program again f at slot checked xs) (k', is)
      (next made' s k' typed) (λ made'' xs t k'' typed' taken.
      ends_spending Q (world program made'') (method_of program at slot checked >>= λ key. entered program again f key (Some at.spot) None (map handed xs)) t typed' (λ u typed''.
      let law = sound made'' f number withs u k''.0 typed'' in law.by_class at class slot n.method checked (map handed xs) k''.1 n.part n.is taken)))

  -- a routine that a variable holds
  held_ends : (made : List Made) (seen : TypeId) (header : Header) (at : Reached) (xs : List Operand) (s : State) → IsKnown program (sort_in f.unit seen) → definition (sort_in f.unit seen) ≡ Some (type.Procedural header)
      → IsActive (world program made) f number withs → IsAt (world program made) at (sort_in f.unit seen) → TakenBy f.unit header.params (world program made) xs → IsTypedState (world program made) s
      → Ends (world program made) (GivesAs f.unit header.result) ((looked (held_routine at) >>= λ key. entered program again f key None None (map handed xs)) s)
  held_ends made seen header at xs s ks e k is taken typed =
      let w : World = world program made in
      let Q : World → Value → Type 0 = GivesAs f.unit header.result in
      let dh : DeclaredHeader = declared_header f.unit.types header in
      by (held_routine at s.store) (routine_found w agreed s.store typed.store at (sort_in f.unit seen) header ks e is) where
        by : (x : Found Key) → Finds (IsCode program (declared_header f.unit.types header)) x
            → Ends (world program made) (GivesAs f.unit header.result) (and_then (found x s) (λ key. entered program again f key None None (map handed xs)))
        by (Ok key) code = let law = sound made f number withs s k typed in law.through key header (map handed xs) code taken
        by (Err (Act n)) code = tt
        by (Err (Error n)) code = tt
        by (Err IllTyped) code = code

  pub through_ends : (made : List Made) (seen : TypeId) (header : Header) (o : Outcome Reached) (go : Does (List Operand)) → IsKnown program (sort_in f.unit seen) → definition (sort_in f.unit seen) ≡ Some (type.Procedural header)
      → IsActive (world program made) f number withs → Ends (world program made) (PlaceAt (sort_in f.unit seen)) o
      → ((made' : List Made) (t : State) → IsActive (world program made') f number withs → IsTypedState (world program made') t → Ends (world program made') (TakenBy f.unit header.params) (go t))
      → Ends (world program made) (GivesAs f.unit header.result) (and_then o (λ at. go >>= λ xs. called_through program again f at xs))
  through_ends made seen header o go ks e k h next =
      let Q : World → Value → Type 0 = GivesAs f.unit header.result in
      chain program active (PlaceAt (sort_in f.unit seen)) Q made o (λ at. go >>= λ xs. called_through program again f at xs) k h (λ made' at s k' typed is.
      chain program (both active (place_kept program at (sort_in f.unit seen))) (TakenBy f.unit header.params) Q made' (go s) (λ xs. called_through program again f at xs) (k', is)
      (next made' s k' typed) (λ made'' xs t k'' typed' taken.
      ends_spending Q (world program made'') (looked (held_routine at) >>= λ key. entered program again f key None None (map handed xs)) t typed' (λ u typed''.
      held_ends made'' seen header at xs u ks e k''.0 k''.1 taken typed'')))

  -- ---- New with a constructor

  abbrev MakesNew : TypeId → RoutineId → Does (List Operand) → ℕ → Sort → Does Value
  MakesNew ty routine go serial sort =
      go >>= λ xs. known (routine_key f.unit routine) >>= λ key. known (class_key sort) >>= λ class. called program again f key (record { own = Some (whole serial); class = Some class }) xs >> give (Block serial)

  new_ends : {I : Callee → Type 0} {T : Header → Type 0} (made : List Made) (ty class : TypeId) (routine : RoutineId) (n : CallsNumber here routine I T) (serial : ℕ) (xs : List Operand) (s : State) → IsKnown program (sort_in f.unit class)
      → definition (sort_in f.unit ty) ≡ Some (type.PointerTo class) → IsOwned here class n.calls.callee → IsActive (world program made) f number withs → LeadsTo (world program made) serial (class_key (sort_in f.unit class))
      → IsTypedState (world program made) s → TakenBy f.unit n.calls.header.params (world program made) xs
      → Ends (world program made) (ValueAt (sort_in f.unit ty))
      ((known (routine_key f.unit routine) >>= λ key. known (class_key (sort_in f.unit class)) >>= λ class. called program again f key (record { own = Some (whole serial); class = Some class }) xs >> give (Block serial)) s)
  new_ends made ty class routine n serial xs s ks e owned k leads typed taken =
      let w : World = world program made in
      let sort : Sort = sort_in f.unit class in
      let Q : World → Value → Type 0 = ValueAt (sort_in f.unit ty) in
      let G : World → Value → Type 0 = GivesAs f.unit n.calls.header.result in
      let key = key_of_known program agreed sort ks in
      let inst = instance_at_block made class n.calls.callee serial key.0 key.1 ks owned leads in
      let go : Does Value = entered program again f n.key (Some (whole serial)) (Some key.0) (map handed xs) in
      subst (λ (o : Option Key). Ends w Q ((known o >>= λ k. known (class_key sort) >>= λ class. called program again f k (record { own = Some (whole serial); class = Some class }) xs >> give (Block serial)) s)) (sym n.is)
      (subst (λ (o : Option Key). Ends w Q ((known o >>= λ class. called program again f n.key (record { own = Some (whole serial); class = Some class }) xs >> give (Block serial)) s)) (sym key.1)
      (subst (λ (b : Bool). Ends w Q (and_then ((if b then overlay_called program n.key.number (map handed xs) else spending go) s) (λ u. give (Block serial)))) (sym n.own)
      (chain program (leads_kept program serial (class_key sort)) G Q made (spending go s) (λ u. give (Block serial)) leads
      (ends_spending G w go s typed (λ t typed'. let law = sound made f number withs t k typed' in law.named n.key n.calls.header n.calls.callee (Some (whole serial)) (Some key.0) (map handed xs) n.calls.names inst taken))
      (λ made' v t leads' typed' is. ends_done Q (world program made') (Block serial) t typed' (subst (λ (o : Option TypeDef). IsValueBy (world program made') (sort_in f.unit ty) o (Block serial)) (sym e) leads'))))) where
        instance_at_block : (made : List Made) (class : TypeId) (callee : Callee) (serial : ℕ) (key : Key) → class_key (sort_in f.unit class) ≡ Some key → IsKnown program (sort_in f.unit class) → IsOwned here class callee
            → LeadsTo (world program made) serial (class_key (sort_in f.unit class)) → IsInstance (world program made) callee (Some (whole serial)) (Some key)
        instance_at_block made class callee serial key e ks owned leads =
            instance_is (world program made) agreed here class callee (record { spot = whole serial; sort = sort_in f.unit class }) (Some key) owned
            (record { place = target_place (world program made) agreed serial (sort_in f.unit class) ks leads; same = Shared ks ks refl }) e

  pub make_ends : {I : Callee → Type 0} {T : Header → Type 0} (made : List Made) (ty class : TypeId) (routine : RoutineId) (n : CallsNumber here routine I T) (s : State) (go : Does (List Operand)) → IsKnown program (sort_in f.unit class)
      → definition (sort_in f.unit ty) ≡ Some (type.PointerTo class) → IsOwned here class n.calls.callee → IsActive (world program made) f number withs → IsTypedState (world program made) s
      → ((made' : List Made) (t : State) → IsActive (world program made') f number withs → IsTypedState (world program made') t → Ends (world program made') (TakenBy f.unit n.calls.header.params) (go t))
      → Ends (world program made) (ValueAt (sort_in f.unit ty)) ((found (target (sort_in f.unit ty)) >>= λ sort. block_made program sort >>= λ serial. MakesNew ty routine go serial sort) s)
  make_ends made ty class routine n s go ks e owned k typed next =
      let w : World = world program made in
      let sort : Sort = sort_in f.unit class in
      let Q : World → Value → Type 0 = ValueAt (sort_in f.unit ty) in
      subst (λ (o : Option TypeDef). Ends w Q ((found (target_of (sort_in f.unit ty) o) >>= λ sort. block_made program sort >>= λ serial. MakesNew ty routine go serial sort) s)) (sym e)
      (chain program active (λ v serial. LeadsTo v serial (class_key sort)) Q made (block_made program sort s) (λ serial. MakesNew ty routine go serial sort) k (block_ends program agreed made sort s ks typed) (λ made' serial t k' typed' leads.
      chain program (both active (leads_kept program serial (class_key sort))) (TakenBy f.unit n.calls.header.params) Q made' (go t)
      (λ xs. known (routine_key f.unit routine) >>= λ key. known (class_key sort) >>= λ class. called program again f key (record { own = Some (whole serial); class = Some class }) xs >> give (Block serial))
      (k', leads) (next made' t k' typed') (λ made'' xs u k'' typed'' taken. new_ends made'' ty class routine n serial xs u ks e owned k''.0 k''.1 typed'' taken)))
