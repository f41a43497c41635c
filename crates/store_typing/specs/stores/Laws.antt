-- What is found in a typed store, and what keeps a store typed.
use Rattle.std.specs.Prelude.{◌≡◌, ℕ, List, ◌++◌, Option, Some}
use Rattle.tp_meaning.specs.type_layout.declared.definitions.TypeId.{TypeId}
use Rattle.tp_meaning.specs.type_layout.Table.{IsObject}
use Rattle.tp_meaning.specs.typed_tree.type_fits.Fits.{IsStructured, Joins}
use Rattle.tp_meaning.specs.Trees.{Key, Spot, Value}
use Rattle.tp_meaning.specs.Shapes.{parts_at, class_place}
use Rattle.tp_meaning.specs.Programs.{Sort, definition, class_key, beside}
use Rattle.tp_meaning.specs.Store.{Object, Store, with_new, without, disposed}
use Rattle.tp_meaning.specs.Activations.{Reached, loaded, assigned, copied, class_at, with_class, passed}
use Rattle.store_typing.specs.types.Agreement.{IsKnown, IsOfLine}
use Rattle.store_typing.specs.types.Forms.{form_at}
use Rattle.store_typing.specs.stores.Worlds.{Made, World, HasForm}
use Rattle.store_typing.specs.stores.Places.{IsPlaceOf, IsAt, IsClassFor, IsValueOf}
use Rattle.store_typing.specs.stores.Stores.{AreMade, IsTypedStore, Finds}

-- values that stay values
pub record ValueLaws (w : World) : Type 0 where
  -- of the same type in another unit, and of a type that they join
  pub shared : (a b : Sort) (v : Value) → IsKnown w.program a → IsKnown w.program b → class_key a ≡ class_key b → IsValueOf w a v → IsValueOf w b v
  pub joins : (a : Sort) (ty given : TypeId) → IsKnown w.program (beside a ty) → IsKnown w.program (beside a given) → (v : Value) → Joins a.table.types ty given → IsValueOf w (beside a given) v → IsValueOf w (beside a ty) v

pub record StoreLaws (w : World) (store : Store) : Type 0 where
  -- what a place holds is a value of its type
  pub loads : (at : Reached) (seen : Sort) → IsAt w at seen → Finds (IsValueOf w seen) (loaded at store)
  -- assignments and copies leave the store typed
  pub assigns : (at : Reached) (seen : Sort) (v : Value) → IsAt w at seen → (IsStructured (definition seen) → ⊥) → IsValueOf w seen v → Finds (IsTypedStore w) (assigned at v store)
  pub copies : (at : Reached) (seen : Sort) (from : Spot) → IsAt w at seen → IsStructured (definition seen) → IsPlaceOf w from seen → Finds (IsTypedStore w) (copied at from store)
  -- a value that is passed makes a tree of its type
  pub passes : (sort : Sort) → IsKnown w.program sort → (v : Value) → IsValueOf w sort v → Finds (HasForm w (form_at sort)) (passed sort.table.types sort.ty v store)
  -- the class of an instance is its own type or an ancestor, and a constructor of an ancestor may give it that
  pub classes : (at : Reached) (n : ℕ) → IsKnown w.program at.sort → IsObject (definition at.sort) → IsPlaceOf w at.spot at.sort → class_place (parts_at at.sort.table.types at.sort.ty) ≡ Some n
      → Finds (IsClassFor w.program (class_key at.sort)) (class_at at store)
  pub classed : (at : Reached) (top : Sort) (class : Key) (n : ℕ) → IsKnown w.program at.sort → IsObject (definition at.sort) → IsKnown w.program top → IsPlaceOf w at.spot top
      → IsOfLine top (class_key at.sort) → class_key top ≡ Some class → IsObject (definition top) → class_place (parts_at at.sort.table.types at.sort.ty) ≡ Some n
      → Finds (IsTypedStore w) (with_class at class store)
  -- the variables of an activation come and go, and blocks go
  pub begun : (more : List Made) (slots : List (Option Object)) → AreMade (record { program = w.program; made = w.made ++ more }) more slots
      → IsTypedStore (record { program = w.program; made = w.made ++ more }) (with_new store slots)
  pub ended : (serial count : ℕ) → IsTypedStore w (without store serial count)
  pub free : (serial bytes : ℕ) → Finds (IsTypedStore w) (disposed store serial bytes)
