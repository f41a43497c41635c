-- What a standard routine does where its arguments are as it takes them.
use Rattle.std.specs.Prelude.{◌≡◌, ℕ, List, Option, Some, None}
use Rattle.tp_meaning.specs.type_layout.Table.{IsObject}
use Rattle.tp_meaning.specs.typed_tree.declared.units.Program.{Program}
use Rattle.tp_meaning.specs.typed_tree.type_fits.Standard.{Slot, Outcome, IsStandard}
use Rattle.tp_meaning.specs.Trees.{Key}
use Rattle.tp_meaning.specs.Store.{Store}
use Rattle.tp_meaning.specs.Programs.{Sort, definition, class_key, class_sort}
use Rattle.tp_meaning.specs.Standard.{Operand, Standard, standard, Effect, Gives, Changes, Makes, Asks, effect_of}
use Rattle.store_typing.specs.types.Agreement.{IsKnown}
use Rattle.store_typing.specs.stores.Worlds.{World, Grows}
use Rattle.store_typing.specs.stores.Stores.{IsTypedStore, Finds}
use Rattle.store_typing.specs.standard.Operands.{AreOperands, GivesResult, IsResult}

-- each object type of a unit is found by the unit that declares it
pub record HasClasses (program : Program) : Type 0 where
  pub classes : (sort : Sort) (class : Key) → IsKnown program sort → IsObject (definition sort) → class_key sort ≡ Some class
      → (declared : Sort) × (class_sort program class ≡ Some declared) × IsKnown program declared × (class_key declared ≡ Some class)

-- a store that is typed in a world that may have grown
pub record IsTypedLater (w : World) (store : Store) : Type 0 where
  pub world : World
  pub grows : Grows w world
  pub typed : IsTypedStore world store

-- what an effect gives, or the store that it leaves
abbrev pub IsSoundEffect : World → Store → Option Sort → Effect → Type 0
IsSoundEffect w store result (Gives look) = Finds (IsResult w result) (look store)
IsSoundEffect w store result (Changes change) = (result ≡ None) × Finds (IsTypedLater w) (change store)
IsSoundEffect w store result (Makes pointer) = result ≡ Some pointer
IsSoundEffect w store result (Asks look) = (input : List ℕ) → IsResult w result (look input)

-- the routine is there, and does nothing ill-typed
pub record IsSoundCall (w : World) (store : Store) (number : ℕ) (result : Option Sort) (xs : List Operand) : Type 0 where
  pub one : Standard
  pub is : standard number ≡ Some one
  pub sound : IsSoundEffect w store result (effect_of w.program one result xs)

abbrev pub StandardLaws : World → Store → Type 0
StandardLaws w store = (number : ℕ) (slots : List Slot) (outcome : Outcome) (result : Option Sort) (xs : List Operand) → IsStandard number slots outcome → AreOperands w slots xs → GivesResult outcome result xs
    → IsSoundCall w store number result xs
