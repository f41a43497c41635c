-- The class of an instance, its fields, and the elements of arrays and strings.
use Rattle.std.proofs.Common.{◌≡◌, ℕ, zero, suc, ◌+◌, List, [], ◌∷◌, ◌++◌, map, Some, None, refl, sym, ap, subst, arith}
use Rattle.std.specs.Prelude.{slice_get, Option, Ok}
use Rattle.std.specs.Option.{option_map}
use Rattle.std.proofs.lemmas.Option.{same_Some}
use Rattle.tp_meaning.specs.type_layout.declared.definitions.TypeId.{TypeId}
use Rattle.tp_meaning.specs.type_layout.Table.{IsObject}
use Rattle.tp_meaning.specs.Trees.{Key, Spot, Value, Class, holding}
use Rattle.tp_meaning.specs.Found.{Found, ◌>>=◌, known}
use Rattle.tp_meaning.specs.Shapes.{Part, FieldPart, ClassPart, parts_at, class_place}
use Rattle.tp_meaning.specs.Programs.{Sort, definition, class_key}
use Rattle.tp_meaning.specs.Store.{Store, tree_at, value_in, value_at, class_of, replaced}
use Rattle.tp_meaning.specs.Activations.{Reached, inside, class_at, with_class}
use Rattle.store_typing.specs.types.Agreement.{IsKnown, AreConsistent, IsOfLine}
use Rattle.store_typing.specs.types.Forms.{ClassOf, Form, Cell, line, part_form, part_forms, form_at, form_beside}
use Rattle.store_typing.specs.stores.Worlds.{World, IsClassOf, IsHeld, HasForm}
use Rattle.store_typing.specs.stores.Places.{form_part, LiesAt, IsPlaceOf, IsClassFor}
use Rattle.store_typing.specs.stores.Stores.{IsTypedStore, Finds}
use Rattle.store_typing.proofs.stores.Paths.{finds_bind, further, line_part, cell_read}
use Rattle.store_typing.proofs.stores.Grown.{slice_get_front}
use Rattle.store_typing.proofs.stores.Kept.{form_found, replaced_keeps}
use Rattle.store_typing.proofs.stores.Seen.{line_along}
use Rattle.store_typing.proofs.stores.Steps.{heir_parts, instance_of}

-- where the class of an instance lies
class_behind : (ty : TypeId) (parts : List Part) (n : ℕ) → ((k : ℕ) → class_place parts ≡ Some k → slice_get parts k ≡ Some ClassPart) → (o : Option ℕ) → class_place parts ≡ o
    → option_map (λ place. 1 + place) o ≡ Some n → slice_get (FieldPart ty ∷ parts) n ≡ Some ClassPart
class_behind ty parts n rec None is e = absurd cc
class_behind ty parts n rec (Some k) is e =
    let one : 1 + k ≡ n = same_Some (1 + k) n e in
    let next : suc k ≡ n = omega (arith, one) in
    subst (λ m. slice_get (FieldPart ty ∷ parts) m ≡ Some ClassPart) next (rec k is)

class_part : (parts : List Part) (n : ℕ) → class_place parts ≡ Some n → slice_get parts n ≡ Some ClassPart
class_part [] n e = absurd cc
class_part (ClassPart ∷ parts) n e = subst (λ k. slice_get (ClassPart ∷ parts) k ≡ Some ClassPart) (same_Some 0 n e) refl
class_part (FieldPart ty ∷ parts) n e = class_behind ty parts n (λ k is. class_part parts k is) (class_place parts) refl e

get_map : {X Y : Type 0} (f : X → Y) (xs : List X) (n : ℕ) (x : X) → slice_get xs n ≡ Some x → slice_get (map f xs) n ≡ Some (f x)
get_map f [] n x e = absurd cc
get_map f (y ∷ xs) zero x e = ap (option_map f) e
get_map f (y ∷ xs) (suc n) x e = get_map f xs n x e

module _ (w : World) (agreed : AreConsistent w.program) where
  pub lies_inside : (spot : Spot) (form part : Form) (n : ℕ) → LiesAt w spot form → form_part form (n ∷ []) ≡ Some part → LiesAt w (inside spot n) part
  lies_inside spot form part n lies e = record { whole = lies.whole; made = lies.made; leads = further (form_at lies.whole) form spot.path n part lies.leads e }

  -- a part of an instance of what was declared at a place
  pub part_lies : (spot : Spot) (sort : Sort) (form : Form) (key : Option Key) (more : List Form) (n : ℕ) (part : Part) → form ≡ line (part_forms (form_beside sort.table) key (parts_at sort.table.types sort.ty) ++ more)
      → LiesAt w spot form → slice_get (parts_at sort.table.types sort.ty) n ≡ Some part → LiesAt w (inside spot n) (part_form (form_beside sort.table) key part)
  part_lies spot sort form key more n part is lies e =
      let forms : List Form = part_forms (form_beside sort.table) key (parts_at sort.table.types sort.ty) in
      let here : Form = part_form (form_beside sort.table) key part in
      lies_inside spot form here n lies (subst (λ (f : Form). form_part f (n ∷ []) ≡ Some here) (sym is)
      (line_part (forms ++ more) n here (slice_get_front forms more n here (get_map (part_form (form_beside sort.table) key) (parts_at sort.table.types sort.ty) n part e))))

  -- one and the same type in two tables descends from the same types
  line_same : (own other : Sort) (key : Option Key) → IsKnown w.program own → IsKnown w.program other → class_key other ≡ class_key own → IsOfLine own key → IsOfLine other key
  line_same own other key ko k same of =
      subst (IsOfLine other) of.same (line_along w.program agreed of.steps other own k ko (record { steps = 0; ty = other.ty; reached = refl; same = same }) of.ty of.reached)

  class_value : (sort : Sort) (own : Sort) → IsKnown w.program own → IsOfLine own (class_key sort) → (v : Value) → IsHeld w (ClassOf (class_key own)) v → Finds (IsClassFor w.program (class_key sort)) (class_of v)
  class_value sort own ko of (Class None) is = tt
  class_value sort own ko of (Class (Some class)) is =
      record { own = is.sort; known = is.known; of = line_same own is.sort (class_key sort) ko is.known is.is of; has = is.line }
  class_value sort own ko of v is = absurd is

  module _ (store : Store) (typed : IsTypedStore w store) where
    -- the class of an instance of a type with a class part
    pub class_found : (at : Reached) (n : ℕ) → IsKnown w.program at.sort → IsObject (definition at.sort) → IsPlaceOf w at.spot at.sort → class_place (parts_at at.sort.table.types at.sort.ty) ≡ Some n
        → Finds (IsClassFor w.program (class_key at.sort)) (class_at at store)
    class_found at n ks object place e =
        let one = instance_of w agreed at.sort place.form ks object place.covers in
        let cell : Form = Cell (ClassOf (class_key one.own)) in
        let lies = part_lies at.spot at.sort place.form (class_key one.own) one.more n ClassPart one.is place.lies (class_part (parts_at at.sort.table.types at.sort.ty) n e) in
        let rest : Found (Option Key) = value_at store (inside at.spot n) >>= class_of in
        let held = finds_bind (HasForm w cell) (IsHeld w (ClassOf (class_key one.own))) (tree_at store (inside at.spot n)) value_in (form_found w store typed (inside at.spot n) cell lies) (λ tree has. cell_read w (ClassOf (class_key one.own)) tree has) in
        let found = finds_bind (IsHeld w (ClassOf (class_key one.own))) (IsClassFor w.program (class_key at.sort)) (value_at store (inside at.spot n)) class_of held (class_value at.sort one.own one.known one.of) in
        subst (λ (o : Option ℕ). Finds (IsClassFor w.program (class_key at.sort)) ((known o >>= λ place. Ok (inside at.spot place)) >>= value_at store >>= class_of)) (sym e) found

    class_put_by : (at : Reached) (top : Sort) (class : Key) (n : ℕ) → class_place (parts_at at.sort.table.types at.sort.ty) ≡ Some n → (form : Form) → LiesAt w at.spot form
        → (own : Sort) → IsKnown w.program own → IsOfLine own (class_key top) → class_key top ≡ Some class
        → ((more : List Form) × (form ≡ line (part_forms (form_beside at.sort.table) (class_key own) (parts_at at.sort.table.types at.sort.ty) ++ more)))
        → slice_get (parts_at at.sort.table.types at.sort.ty) n ≡ Some ClassPart → Finds (IsTypedStore w) (with_class at class store)
    class_put_by at top class n e form lies own ko of is parts there =
        let key : Option Key = class_key own in
        let inner = part_lies at.spot at.sort form key parts.0 n ClassPart parts.1 lies there in
        let new : IsClassOf w.program key class = record { sort = own; known = ko; is = refl; line = subst (IsOfLine own) is of } in
        subst (λ (o : Option ℕ). Finds (IsTypedStore w) ((known o >>= λ place. Ok (inside at.spot place)) >>= λ spot. replaced store spot (holding (Class (Some class))))) (sym e)
        (replaced_keeps w store typed (inside at.spot n) (Cell (ClassOf key)) inner (holding (Class (Some class))) new)

    -- an instance of a descendant takes the class of that descendant
    pub class_put : (at : Reached) (top : Sort) (class : Key) (n : ℕ) → IsKnown w.program at.sort → IsObject (definition at.sort) → IsKnown w.program top → IsPlaceOf w at.spot top
        → IsOfLine top (class_key at.sort) → class_key top ≡ Some class → IsObject (definition top) → class_place (parts_at at.sort.table.types at.sort.ty) ≡ Some n
        → Finds (IsTypedStore w) (with_class at class store)
    class_put at top class n ks object kt place of is top_object e =
        let one = instance_of w agreed top place.form kt top_object place.covers in
        let down : IsOfLine one.own (class_key at.sort) = subst (IsOfLine one.own) of.same (line_along w.program agreed of.steps one.own top one.known kt one.of of.ty of.reached) in
        class_put_by at top class n e place.form place.lies one.own one.known one.of is (heir_parts w agreed one.own at.sort place.form one.known ks object down one.form_is) (class_part (parts_at at.sort.table.types at.sort.ty) n e)
