-- The class of an instance that is found, and that a constructor sets.
use Rattle.std.proofs.Common.{◌≡◌, ℕ, suc, ◌+◌, Bool, true, false, List, [], ◌∷◌, Some, None, refl, sym, ap, subst, ◌∙◌, arith}
use Rattle.std.specs.Prelude.{slice_get, Option, Ok, is_some, if◌then◌else◌}
use Rattle.std.specs.Option.{option_map}
use Rattle.std.proofs.lemmas.Option.{same_Some}
use Rattle.program_typing.specs.type_layout.declared.definitions.TypeId.{TypeId}
use Rattle.program_typing.specs.type_layout.declared.definitions.Kind.{Kind}
use Rattle.program_typing.specs.type_layout.declared.definitions.Kind.TheVariants as kind
use Rattle.program_typing.specs.type_layout.Table.{Table, IsObject}
use Rattle.program_typing.specs.well_formed.WellFormed.{scope_of, IsOwner}
use Rattle.program_typing.specs.tp_meaning.Trees.{Key, Spot, Value, Class}
use Rattle.program_typing.specs.tp_meaning.Found.{◌>>=◌, known}
use Rattle.program_typing.specs.tp_meaning.Shapes.{Part, FieldPart, ClassPart, parts_at, class_place}
use Rattle.program_typing.specs.tp_meaning.Programs.{Sort, definition, class_key}
use Rattle.program_typing.specs.tp_meaning.Store.{Store, tree_at, value_in, value_at, class_of}
use Rattle.program_typing.specs.tp_meaning.Activations.{Reached, Callee, inside, class_at, is_constructor, instance_of, class_set_in, class_set}
use Rattle.program_typing.specs.store_typing.types.Agreement.{IsUnit, IsKnown, AreConsistent, IsOfLine}
use Rattle.program_typing.specs.store_typing.types.Forms.{ClassOf, Form, Cell, form_at, line}
use Rattle.program_typing.proofs.store_typing_proofs.types.Agreed.{keyed, parts_agree}
use Rattle.program_typing.specs.store_typing.stores.Worlds.{World, IsHeld, HasForm}
use Rattle.program_typing.specs.store_typing.stores.Places.{LiesAt, IsPlaceOf, Covers, Same, Heir}
use Rattle.program_typing.specs.store_typing.stores.Stores.{IsTypedStore, Finds}
use Rattle.program_typing.proofs.store_typing_proofs.stores.Paths.{finds_bind, cell_read}
use Rattle.program_typing.proofs.store_typing_proofs.stores.Kept.{form_found}
use Rattle.program_typing.proofs.store_typing_proofs.stores.Seen.{line_along}
use Rattle.program_typing.proofs.store_typing_proofs.stores.Steps.{instance_of as instance_at}
use Rattle.program_typing.proofs.store_typing_proofs.stores.Instances.{part_lies, class_put}
use Rattle.program_typing.specs.programs.WellTyped.{HasClassPart}
use Rattle.program_typing.specs.programs.Calls.{IsInstanceBy, IsInstance}
use Rattle.type_soundness.proofs.activations.Callers.{IsCallable}
use Rattle.type_soundness.proofs.activations.Routines.{is_some_object, unit_type}

-- ---- where the class lies

class_behind : (ty : TypeId) (parts : List Part) (n : ℕ) → ((k : ℕ) → class_place parts ≡ Some k → slice_get parts k ≡ Some ClassPart) → (o : Option ℕ) → class_place parts ≡ o
    → option_map (λ place. 1 + place) o ≡ Some n → slice_get (FieldPart ty ∷ parts) n ≡ Some ClassPart
class_behind ty parts n rec None is e = absurd cc
class_behind ty parts n rec (Some k) is e =
    let one : 1 + k ≡ n = same_Some (1 + k) n e in
    let next : suc k ≡ n = omega (arith, one) in
    subst (λ m. slice_get (FieldPart ty ∷ parts) m ≡ Some ClassPart) next (rec k is)

class_part : (parts : List Part) (n : ℕ) → class_place parts ≡ Some n → slice_get parts n ≡ Some ClassPart
class_part [] n e = absurd cc
class_part (ClassPart ∷ parts) n e = subst (λ k. slice_get (ClassPart ∷ parts) k ≡ Some ClassPart) (same_Some 0 n e) refl
class_part (FieldPart ty ∷ parts) n e = class_behind ty parts n (λ k is. class_part parts k is) (class_place parts) refl e

abbrev first_none : List (Option (Option Key)) → Option ℕ
first_none [] = None
first_none (None ∷ keys) = Some 0
first_none (Some key ∷ keys) = option_map (λ place. 1 + place) (first_none keys)

place_by_keys : (types : Table) (parts : List Part) → class_place parts ≡ first_none (keyed types parts)
place_by_keys types [] = refl
place_by_keys types (ClassPart ∷ parts) = refl
place_by_keys types (FieldPart ty ∷ parts) = ap (option_map (λ place. 1 + place)) (place_by_keys types parts)

-- what was declared at one place has its class at one place
pub place_shared : (w : World) → AreConsistent w.program → (a b : Sort) → IsKnown w.program a → IsKnown w.program b → class_key a ≡ class_key b
    → class_place (parts_at a.table.types a.ty) ≡ class_place (parts_at b.table.types b.ty)
place_shared w agreed a b ka kb same =
    place_by_keys a.table (parts_at a.table.types a.ty) ∙ ap first_none (parts_agree w.program agreed a b ka kb same) ∙ sym (place_by_keys b.table (parts_at b.table.types b.ty))

-- ---- the class that is found

-- an instance was made as a type of the line of a place's type, and its class is that type or an ancestor
pub record IsInstanceOf (w : World) (spot : Spot) (sort : Sort) (class : Key) : Type 0 where
  pub own : Sort
  pub known : IsKnown w.program own
  pub lies : LiesAt w spot (form_at own)
  pub of : IsOfLine own (class_key sort)
  pub has : IsOfLine own (Some class)

abbrev pub HasClass : World → Spot → Sort → Option Key → Type 0
HasClass w spot sort None = Unit {0}
HasClass w spot sort (Some class) = IsInstanceOf w spot sort class

module _ (w : World) (agreed : AreConsistent w.program) where
  -- a place of an instance is one of each type of its line
  pub instance_place : (spot : Spot) (own top : Sort) → IsKnown w.program own → LiesAt w spot (form_at own) → IsKnown w.program top → IsObject (definition top) → IsOfLine own (class_key top) → IsPlaceOf w spot top
  instance_place spot own top ko lies kt object of = record { form = form_at own; lies = lies; covers = Heir own ko kt object of refl }

  -- what descends from a type descends from its ancestors
  pub line_further : (own top : Sort) (key : Option Key) → IsKnown w.program own → IsKnown w.program top → IsOfLine own (class_key top) → IsOfLine top key → IsOfLine own key
  line_further own top key ko kt of up = subst (IsOfLine own) up.same (line_along w.program agreed up.steps own top ko kt of up.ty up.reached)

  class_value : (spot : Spot) (sort own : Sort) → IsKnown w.program own → LiesAt w spot (form_at own) → IsOfLine own (class_key sort) → (v : Value) → IsHeld w (ClassOf (class_key own)) v → Finds (HasClass w spot sort) (class_of v)
  class_value spot sort own ko lies of (Class None) is = tt
  class_value spot sort own ko lies of (Class (Some class)) is =
      let itself : IsOfLine own (class_key is.sort) = record { steps = 0; ty = own.ty; reached = refl; same = sym is.is } in
      record { own = own; known = ko; lies = lies; of = of; has = line_further own is.sort (Some class) ko is.known itself is.line }
  class_value spot sort own ko lies of v is = absurd is

  module _ (store : Store) (typed : IsTypedStore w store) where
    -- the class of an instance of a type with a class part
    pub class_instance : (at : Reached) (n : ℕ) → IsKnown w.program at.sort → IsObject (definition at.sort) → IsPlaceOf w at.spot at.sort → class_place (parts_at at.sort.table.types at.sort.ty) ≡ Some n
        → Finds (HasClass w at.spot at.sort) (class_at at store)
    class_instance at n ks object place e =
        let one = instance_at w agreed at.sort place.form ks object place.covers in
        let held : Value → Type 0 = IsHeld w (ClassOf (class_key one.own)) in
        let cell : Form = Cell (ClassOf (class_key one.own)) in
        let whole : LiesAt w at.spot (form_at one.own) = subst (LiesAt w at.spot) one.form_is place.lies in
        let lies = part_lies w agreed at.spot at.sort place.form (class_key one.own) one.more n ClassPart one.is place.lies (class_part (parts_at at.sort.table.types at.sort.ty) n e) in
        let read = finds_bind (HasForm w cell) held (tree_at store (inside at.spot n)) value_in (form_found w store typed (inside at.spot n) cell lies) (λ tree has. cell_read w (ClassOf (class_key one.own)) tree has) in
        let found = finds_bind held (HasClass w at.spot at.sort) (value_at store (inside at.spot n)) class_of read (class_value at.spot at.sort one.own one.known whole one.of) in
        subst (λ (o : Option ℕ). Finds (HasClass w at.spot at.sort) ((known o >>= λ place. Ok (inside at.spot place)) >>= value_at store >>= class_of)) (sym e) found

-- ---- the class that is set

constructor_is : (k : Kind) → is_constructor k ≡ true → k ≡ kind.Constructor
constructor_is kind.Constructor e = refl
constructor_is kind.Procedure e = absurd cc
constructor_is kind.Function e = absurd cc
constructor_is kind.Destructor e = absurd cc

pub some_of : (o : Option ℕ) → is_some o ≡ true → (n : ℕ) × (o ≡ Some n)
some_of None e = absurd cc
some_of (Some n) e = (n, refl)

module _ (w : World) (agreed : AreConsistent w.program) where
  -- a place of an instance is one of what the instance's type descends from
  pub place_up : (spot : Spot) (top b : Sort) → IsKnown w.program top → IsKnown w.program b → IsObject (definition b) → IsOfLine top (class_key b) → IsPlaceOf w spot top → IsPlaceOf w spot b
  place_up spot top b kt kb object of place = record { form = place.form; lies = place.lies; covers = up place.covers } where
    up : Covers w.program top place.form → Covers w.program b place.form
    up (Same same) = Heir top kt kb object of same
    up (Heir own ko kt' top_object line is) = Heir own ko kb object (line_further w agreed own top (class_key b) ko kt line of) is

  module _ (store : Store) (typed : IsTypedStore w store) (callee : Callee) where
    set_by : (owner : Option TypeId) (own : Option Spot) (class : Option Key) → IsUnit w.program callee.unit → IsOwner (scope_of callee.unit) owner → HasClassPart callee.unit.types owner → IsInstanceBy w callee.unit owner own class
        → Finds (IsTypedStore w) (class_set_in callee owner own class store)
    set_by None None None listed object part is = typed
    set_by None None (Some class) listed object part is = absurd is
    set_by None (Some spot) class listed object part is = absurd is
    set_by (Some owner) None class listed object part is = absurd is
    set_by (Some owner) (Some spot) None listed object part is = typed
    set_by (Some owner) (Some spot) (Some class) listed object part is =
        let n = some_of (class_place (parts_at callee.unit.types.types owner)) part in
        let ks = unit_type callee.unit w.program listed owner (is_some_object (slice_get callee.unit.types.types owner.0) object) in
        class_put w agreed store typed (instance_of callee owner spot) is.top class n.0 ks object is.known is.place is.line is.given is.object n.1

    set_if : (owns : IsUnit w.program callee.unit) (b : Bool) → is_constructor callee.routine.header.kind ≡ b → (own : Option Spot) (class : Option Key) → IsCallable callee.unit callee.number callee.routine → IsInstance w callee own class
        → Finds (IsTypedStore w) (if b then class_set_in callee callee.routine.owner own class store else Ok store)
    set_if listed false e own class sound is = typed
    set_if listed true e own class sound is =
        set_by callee.routine.owner own class listed sound.well_formed.owner (sound.class (constructor_is callee.routine.header.kind e)) is

    -- a constructor gives its instance the class for which it is called
    pub class_set_keeps : IsUnit w.program callee.unit → (own : Option Spot) (class : Option Key) → IsCallable callee.unit callee.number callee.routine → IsInstance w callee own class
        → Finds (IsTypedStore w) (class_set callee own class store)
    class_set_keeps listed own class sound is = set_if listed (is_constructor callee.routine.header.kind) refl own class sound is
