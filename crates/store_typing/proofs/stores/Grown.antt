-- What is typed stays typed as objects come.
use Rattle.std.proofs.Common.{◌≡◌, ℕ, zero, suc, List, [], ◌∷◌, ◌++◌, Some, None, refl, sym, ap, subst, append-nil}
use Rattle.std.specs.Prelude.{slice_get, Option}
use Rattle.tp_meaning.specs.type_layout.declared.definitions.TypeDef.{TypeDef}
use Rattle.tp_meaning.specs.type_layout.declared.definitions.TypeDef.TheVariants as type
use Rattle.tp_meaning.specs.Trees.{Spot, Value, Ordinal, Text, Elements, Nil, Block, Code, Class, At, Void, Tree, Leaf, Tip, Fork}
use Rattle.tp_meaning.specs.Programs.{Sort, definition}
use Rattle.tp_meaning.specs.Store.{Object}
use Rattle.tp_meaning.specs.Activations.{Reached}
use Rattle.store_typing.specs.types.Forms.{Held, Number, Members, Link, Routine, Form, Cell, End, Pair, form_at}
use Rattle.store_typing.specs.stores.Worlds.{Made, Own, Alias, World, Grows, IsHeld, IsCell, HasForm}
use Rattle.store_typing.specs.stores.Places.{LiesAt, IsPlaceOf, IsAt, IsValueBy, IsValueOf}
use Rattle.store_typing.specs.stores.Stores.{IsMade, IsMadeOrGone}

pub slice_get_front : {X : Type 0} (xs ys : List X) (k : ℕ) (x : X) → slice_get xs k ≡ Some x → slice_get (xs ++ ys) k ≡ Some x
slice_get_front [] ys k x e = absurd cc
slice_get_front (y ∷ xs) ys zero x e = e
slice_get_front (y ∷ xs) ys (suc k) x e = slice_get_front xs ys k x e

-- ---- worlds

abbrev pub grown : World → List Made → World
grown w more = record { program = w.program; made = w.made ++ more }

pub grows_by : (w : World) (more : List Made) → Grows w (grown w more)
grows_by w more = record { more = more; is = refl }

pub grows_itself : (w : World) → Grows w w
grows_itself w = record { more = []; is = ap (λ (made : List Made). record { program = w.program; made = made }) (sym (append-nil w.made)) }

-- ---- what holds in a world that grew

module _ (w : World) (more : List Made) where
  held_in : (held : Held) (v : Value) → IsHeld w held v → IsHeld (grown w more) held v
  held_in (Link target) (Block serial) h = record { sort = h.sort; known = h.known; made = slice_get_front w.made more serial (Own h.sort) h.made; line = h.line }
  held_in (Number stored) v h = number v h where
    number : (v : Value) → IsHeld w (Number stored) v → IsHeld (grown w more) (Number stored) v
    number (Ordinal z) h = h
    number (Text bytes) h = h
    number (Elements set) h = h
    number Nil h = h
    number (Block serial) h = h
    number (Code routine) h = h
    number (Class class) h = h
    number (At spot) h = h
    number Void h = h
  held_in (Members first count) v h = members v h where
    members : (v : Value) → IsHeld w (Members first count) v → IsHeld (grown w more) (Members first count) v
    members (Ordinal z) h = h
    members (Text bytes) h = h
    members (Elements set) h = h
    members Nil h = h
    members (Block serial) h = h
    members (Code routine) h = h
    members (Class class) h = h
    members (At spot) h = h
    members Void h = h
  held_in held v h = h

  cell_in : (held : Held) (cell : Option Value) → IsCell w held cell → IsCell (grown w more) held cell
  cell_in held None h = h
  cell_in held (Some v) h = held_in held v h

  form_in : (form : Form) (tree : Tree) → HasForm w form tree → HasForm (grown w more) form tree
  form_in (Cell held) (Leaf cell) h = cell_in held cell h
  form_in (Cell held) Tip h = h
  form_in (Cell held) (Fork head tail) h = h
  form_in End (Leaf cell) h = h
  form_in End Tip h = h
  form_in End (Fork head tail) h = h
  form_in (Pair first rest) (Leaf cell) h = h
  form_in (Pair first rest) Tip h = h
  form_in (Pair first rest) (Fork head tail) h = (form_in first head h.0, form_in rest tail h.1)

  lies_in : (spot : Spot) (form : Form) → LiesAt w spot form → LiesAt (grown w more) spot form
  lies_in spot form h = record { whole = h.whole; made = slice_get_front w.made more spot.object (Own h.whole) h.made; leads = h.leads }

  place_in : (spot : Spot) (sort : Sort) → IsPlaceOf w spot sort → IsPlaceOf (grown w more) spot sort
  place_in spot sort h = record { form = h.form; lies = lies_in spot h.form h.lies; covers = h.covers }

  made_in : (made : Made) (object : Object) → IsMade w made object → IsMade (grown w more) made object
  made_in (Own sort) object h = form_in (form_at sort) object.tree h
  made_in (Alias sort) object h = record { spot = h.spot; held = h.held; place = place_in h.spot sort h.place }

  pub slot_in : (made : Made) (slot : Option Object) → IsMadeOrGone w made slot → IsMadeOrGone (grown w more) made slot
  slot_in made None h = tt
  slot_in made (Some object) h = made_in made object h

  at_in : (at : Reached) (seen : Sort) → IsAt w at seen → IsAt (grown w more) at seen
  at_in at seen h = record { place = place_in at.spot at.sort h.place; same = h.same }

  value_in_by : (sort : Sort) (one : Option TypeDef) (v : Value) → IsValueBy w sort one v → IsValueBy (grown w more) sort one v
  value_in_by sort (Some (type.Ordinal host low high)) v h = held_in (Number _) v h
  value_in_by sort (Some (type.SetOf base)) v h = held_in (Members 0 32) v h
  value_in_by sort (Some (type.PointerTo target)) v h = held_in (Link _) v h
  value_in_by sort (Some (type.Procedural header)) v h = held_in (Routine _) v h
  value_in_by sort (Some (type.ArrayOf index element)) (At spot) h = place_in spot sort h
  value_in_by sort (Some (type.RecordOf fields)) (At spot) h = place_in spot sort h
  value_in_by sort (Some (type.ObjectOf parent dynamic fields methods)) (At spot) h = place_in spot sort h
  value_in_by sort one v h = h

module _ (w v : World) (grows : Grows w v) where
  pub held_grows : (held : Held) (x : Value) → IsHeld w held x → IsHeld v held x
  held_grows held x h = subst (λ (u : World). IsHeld u held x) (sym grows.is) (held_in w grows.more held x h)

  pub form_grows : (form : Form) (tree : Tree) → HasForm w form tree → HasForm v form tree
  form_grows form tree h = subst (λ (u : World). HasForm u form tree) (sym grows.is) (form_in w grows.more form tree h)

  pub place_grows : (spot : Spot) (sort : Sort) → IsPlaceOf w spot sort → IsPlaceOf v spot sort
  place_grows spot sort h = subst (λ (u : World). IsPlaceOf u spot sort) (sym grows.is) (place_in w grows.more spot sort h)

  pub at_grows : (at : Reached) (seen : Sort) → IsAt w at seen → IsAt v at seen
  at_grows at seen h = subst (λ (u : World). IsAt u at seen) (sym grows.is) (at_in w grows.more at seen h)

  pub value_grows : (sort : Sort) (x : Value) → IsValueOf w sort x → IsValueOf v sort x
  value_grows sort x h = subst (λ (u : World). IsValueOf u sort x) (sym grows.is) (value_in_by w grows.more sort (definition sort) x h)

  pub made_grows : (serial : ℕ) (made : Made) → slice_get w.made serial ≡ Some made → slice_get v.made serial ≡ Some made
  made_grows serial made h = subst (λ (u : World). slice_get u.made serial ≡ Some made) (sym grows.is) (slice_get_front w.made grows.more serial made h)
