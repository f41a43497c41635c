-- Places: what pointers lead to, elements, fields, and what is loaded.
use Rattle.std.proofs.Common.{◌≡◌, ℕ, Bool, List, ◌++◌, Some, None, refl, sym, subst}
use Rattle.std.specs.Prelude.{ℤ, Option}
use Rattle.program_typing.specs.type_layout.declared.definitions.TypeId.{TypeId}
use Rattle.program_typing.specs.type_layout.declared.definitions.TypeDef.{TypeDef}
use Rattle.program_typing.specs.type_layout.declared.definitions.TypeDef.TheVariants as type
use Rattle.program_typing.specs.typed_tree.declared.units.Program.{Program}
use Rattle.program_typing.specs.typed_tree.type_fits.Fits.{family_of, field_type, IsSome}
use Rattle.program_typing.specs.well_formed.Typed.{IsElement}
use Rattle.program_typing.specs.tp_meaning.Trees.{Key, Value, Ordinal, Text, Elements, Nil, Block, Code, Class, At, Void}
use Rattle.program_typing.specs.tp_meaning.Store.{Store, Object, object_at, if_there, followed, number_of}
use Rattle.program_typing.specs.tp_meaning.Programs.{Sort, definition, beside}
use Rattle.program_typing.specs.tp_meaning.Outcomes.{State, Outcome, Done, Does, and_then, ◌>>=◌, give, found, looked}
use Rattle.program_typing.specs.tp_meaning.Activations.{Reached, whole, loaded}
use Rattle.program_typing.specs.tp_meaning.Standard.{target_of, target}
use Rattle.program_typing.specs.tp_meaning.Expressions.{field_at, element_in}
use Rattle.program_typing.specs.store_typing.types.Declared.{declared}
use Rattle.program_typing.specs.store_typing.types.Agreement.{IsKnown, AreConsistent}
use Rattle.program_typing.specs.store_typing.types.Forms.{Link}
use Rattle.program_typing.specs.store_typing.stores.Worlds.{Made, World, LeadsTo, IsHeld}
use Rattle.program_typing.specs.store_typing.stores.Places.{Shared, IsAt, IsValueBy, IsValueOf}
use Rattle.program_typing.specs.store_typing.stores.Stores.{Finds}
use Rattle.program_typing.proofs.store_typing_proofs.stores.Grown.{grows_by, at_grows}
use Rattle.program_typing.proofs.store_typing_proofs.stores.Seen.{target_place}
use Rattle.program_typing.proofs.store_typing_proofs.stores.Steps.{loads}
use Rattle.program_typing.proofs.store_typing_proofs.operators.Stored.{ordinal_of_family}
use Rattle.program_typing.proofs.store_typing_proofs.operators.OperandKinds.{number_value}
use Rattle.program_typing.specs.lvalues.Laws.{PartLaws}
use Rattle.program_typing.proofs.lvalues.Parts.{part_laws}
use Rattle.program_typing.specs.programs.Outcomes.{IsTypedState, world, after, Ends}
use Rattle.program_typing.proofs.programs.Ends.{ends_bind, ends_done, ends_found, ends_looked, ends_looks}
use Rattle.type_soundness.proofs.expressions.Chains.{Kept, chain}
use Rattle.type_soundness.proofs.expressions.Values.{ValueAt}

-- a place of a type
abbrev pub PlaceAt : Sort → World → Reached → Type 0
PlaceAt seen w at = IsAt w at seen

-- ---- numbers

number_found : (w : World) (of : Sort) (v : Value) → IsSome (family_of (definition of)) → IsValueOf w of v → Finds (λ z. Unit {0}) (number_of v)
number_found w of v fits is =
    let host = ordinal_of_family (definition of) fits in
    let number = number_value w of host.0 v host.1 is in
    subst (λ (x : Value). Finds (λ (z : ℤ). Unit {0}) (number_of x)) (sym number.is) tt

module _ (program : Program) (kept : Kept) where
  -- the number of an ordinal, and then what is done with it
  pub number_ends : {B : Type 0} (Q : World → B → Type 0) (made : List Made) (of : Sort) (o : Outcome Value) (go : ℤ → Does B) → IsSome (family_of (definition of)) → kept.holds made → Ends (world program made) (ValueAt of) o
      → ((made' : List Made) (z : ℤ) (t : State) → kept.holds made' → IsTypedState (world program made') t → Ends (world program made') Q (go z t)) → Ends (world program made) Q (and_then o (λ v. found (number_of v) >>= go))
  number_ends Q made of o go fits k h next =
      chain program kept (ValueAt of) Q made o (λ v. found (number_of v) >>= go) k h (λ made' v s k' typed is.
      chain program kept (λ u z. Unit {0}) Q made' (found (number_of v) s) go k'
      (ends_found (λ u z. Unit {0}) (world program made') (number_of v) s typed (number_found (world program made') of v fits is)) (λ made'' z t k'' typed' u. next made'' z t k'' typed'))

module _ (program : Program) (agreed : AreConsistent program) where
  -- ---- loads

  pub load_ends : (made : List Made) (seen : Sort) (o : Outcome Reached) → Ends (world program made) (PlaceAt seen) o → Ends (world program made) (ValueAt seen) (and_then o (λ at. looked (loaded at)))
  load_ends made seen o h =
      ends_bind (PlaceAt seen) (world program made) (ValueAt seen) o (λ at. looked (loaded at)) h (λ more at s typed is.
      ends_looked (ValueAt seen) (world program (made ++ more)) (loaded at) s typed (loads (world program (made ++ more)) agreed s.store typed.store at seen is))

  -- ---- pointers

  -- a pointer leads to a block of its target, or to none that is there
  there : (w : World) (to : Option Key) (serial : ℕ) (o : Option Object) → LeadsTo w serial to → Finds (λ n. LeadsTo w n to) (if_there o serial)
  there w to serial None is = tt
  there w to serial (Some object) is = is

  followed_by : (w : World) (to : Option Key) (store : Store) (v : Value) → IsHeld w (Link to) v → Finds (λ n. LeadsTo w n to) (followed store v)
  followed_by w to store Nil is = tt
  followed_by w to store (Block serial) is = there w to serial (object_at store serial) is
  followed_by w to store (Ordinal z) is = absurd is
  followed_by w to store (Text bytes) is = absurd is
  followed_by w to store (Elements set) is = absurd is
  followed_by w to store (Code routine) is = absurd is
  followed_by w to store (Class class) is = absurd is
  followed_by w to store (At spot) is = absurd is
  followed_by w to store Void is = absurd is

  -- the rest of a pointer that is followed
  pub reached_ends : (made : List Made) (sort : Sort) (to : TypeId) (serial : ℕ) (s : State) → definition sort ≡ Some (type.PointerTo to) → IsKnown program (beside sort to) → IsTypedState (world program made) s
      → LeadsTo (world program made) serial (declared sort.table to) → Ends (world program made) (PlaceAt (beside sort to)) ((found (target sort) >>= λ to. give (record { spot = whole serial; sort = to })) s)
  reached_ends made sort to serial s e kt typed leads =
      let w : World = world program made in
      subst (λ (o : Option TypeDef). Ends w (PlaceAt (beside sort to)) ((found (target_of sort o) >>= λ to. give (record { spot = whole serial; sort = to })) s)) (sym e)
      (ends_done (PlaceAt (beside sort to)) w (record { spot = whole serial; sort = beside sort to }) s typed
      (record { place = target_place w agreed serial (beside sort to) kt leads; same = Shared kt kt refl }))

  pub followed_ends : (made : List Made) (sort : Sort) (to : TypeId) (o : Outcome Value) (find : Does Sort) → definition sort ≡ Some (type.PointerTo to) → IsKnown program (beside sort to)
      → ((t : State) → find t ≡ Done sort t) → Ends (world program made) (ValueAt sort) o
      → Ends (world program made) (PlaceAt (beside sort to)) (and_then o (λ v. looked (λ store. followed store v) >>= λ serial. find >>= λ sort. found (target sort) >>= λ to. give (record { spot = whole serial; sort = to })))
  followed_ends made sort to o find e kt finds h =
      let w : World = world program made in
      let key : Option Key = declared sort.table to in
      ends_bind (ValueAt sort) w (PlaceAt (beside sort to)) o
      (λ v. looked (λ store. followed store v) >>= λ serial. find >>= λ sort. found (target sort) >>= λ to. give (record { spot = whole serial; sort = to })) h (λ more v s typed is.
      let held : IsHeld (after w more) (Link key) v = subst (λ (o : Option TypeDef). IsValueBy (after w more) sort o v) e is in
      ends_bind (λ u n. LeadsTo u n key) (after w more) (PlaceAt (beside sort to)) (looked (λ store. followed store v) s)
      (λ serial. find >>= λ sort. found (target sort) >>= λ to. give (record { spot = whole serial; sort = to }))
      (ends_looked (λ u n. LeadsTo u n key) (after w more) (λ store. followed store v) s typed (followed_by (after w more) key s.store v held)) (λ more' serial t typed' leads.
      subst (λ (x : Outcome Sort). Ends (after (after w more) more') (PlaceAt (beside sort to)) (and_then x (λ sort. found (target sort) >>= λ to. give (record { spot = whole serial; sort = to })))) (sym (finds t))
      (reached_ends ((made ++ more) ++ more') sort to serial t e kt typed' leads)))

  -- ---- fields and elements

  pub field_ends : (made : List Made) (seen : Sort) (number : ℕ) (ty : TypeId) (o : Outcome Reached) → field_type seen.table.types seen.ty number ≡ Some ty → IsKnown program (beside seen ty)
      → Ends (world program made) (PlaceAt seen) o → Ends (world program made) (PlaceAt (beside seen ty)) (and_then o (λ at. field_at at number))
  field_ends made seen number ty o e kt h =
      ends_bind (PlaceAt seen) (world program made) (PlaceAt (beside seen ty)) o (λ at. field_at at number) h (λ more at s typed is.
      let laws : PartLaws (world program (made ++ more)) = part_laws (world program (made ++ more)) agreed in
      ends_looks (PlaceAt (beside seen ty)) (world program (made ++ more)) (field_at at number s) s typed (laws.field at seen number ty s is e kt))

  -- what an index may be taken of
  element_at : (w : World) → AreConsistent w.program → (at : Reached) (seen : Sort) (ty : TypeId) (index : Option TypeDef) (checked : Bool) (z : ℤ) (s : State) → IsTypedState w s → IsAt w at seen → IsKnown w.program (beside seen ty)
      → (one : Option TypeDef) → definition seen ≡ one → IsElement seen.table.types ty one index → Ends w (PlaceAt (beside seen ty)) (element_in at checked z (definition at.sort) s)
  element_at w agreed at seen ty index checked z s typed is kt (Some (type.ArrayOf i element)) e fits =
      let laws : PartLaws w = part_laws w agreed in
      subst (λ (t : TypeId). Ends w (PlaceAt (beside seen t)) (element_in at checked z (definition at.sort) s)) fits.0
      (ends_looks (PlaceAt (beside seen element)) w (element_in at checked z (definition at.sort) s) s typed (laws.element at seen i element checked z s is e))
  element_at w agreed at seen ty index checked z s typed is kt (Some (type.Str max)) e fits =
      let laws : PartLaws w = part_laws w agreed in
      ends_looks (PlaceAt (beside seen ty)) w (element_in at checked z (definition at.sort) s) s typed (laws.character at seen max ty checked z s is e kt fits.0)
  element_at w agreed at seen ty index checked z s typed is kt None e fits = absurd fits
  element_at w agreed at seen ty index checked z s typed is kt (Some (type.Ordinal host low high)) e fits = absurd fits
  element_at w agreed at seen ty index checked z s typed is kt (Some (type.SetOf base)) e fits = absurd fits
  element_at w agreed at seen ty index checked z s typed is kt (Some (type.RecordOf fields)) e fits = absurd fits
  element_at w agreed at seen ty index checked z s typed is kt (Some (type.PointerTo target)) e fits = absurd fits
  element_at w agreed at seen ty index checked z s typed is kt (Some (type.ObjectOf p d fields methods)) e fits = absurd fits
  element_at w agreed at seen ty index checked z s typed is kt (Some (type.Procedural header)) e fits = absurd fits

  pub index_ends : (kept : Kept) (made : List Made) (seen of : Sort) (ty : TypeId) (checked : Bool) (o : Outcome Reached) (go : Does Value) → IsKnown program (beside seen ty) → IsElement seen.table.types ty (definition seen) (definition of)
      → IsSome (family_of (definition of)) → kept.holds made → Ends (world program made) (PlaceAt seen) o
      → ((made' : List Made) (t : State) → kept.holds made' → IsTypedState (world program made') t → Ends (world program made') (ValueAt of) (go t))
      → Ends (world program made) (PlaceAt (beside seen ty)) (and_then o (λ at. go >>= λ v. found (number_of v) >>= λ z. element_in at checked z (definition at.sort)))
  index_ends kept made seen of ty checked o go kt fits ordinal k h next =
      chain program kept (PlaceAt seen) (PlaceAt (beside seen ty)) made o (λ at. go >>= λ v. found (number_of v) >>= λ z. element_in at checked z (definition at.sort)) k h (λ made' at s k' typed is.
      let held : Kept = record { holds = λ (made : List Made). IsAt (world program made) at seen; keep = λ made more h. at_grows (world program made) (world program (made ++ more)) (grows_by (world program made) more) at seen h } in
      number_ends program held (PlaceAt (beside seen ty)) made' of (go s) (λ z. element_in at checked z (definition at.sort)) ordinal is (next made' s k' typed) (λ made'' z t is' typed'.
      element_at (world program made'') agreed at seen ty (definition of) checked z t typed' is' kt (definition seen) refl fits))
