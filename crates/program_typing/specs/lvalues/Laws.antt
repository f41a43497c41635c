-- Variables, fields and elements are places of the types that their unit says.
use Rattle.std.specs.Prelude.{◌≡◌, ℕ, ℤ, Bool, List, Some}
use Rattle.store_typing.specs.common_values.behaviour.Seen.{Ended, Going, Undefined, Stopped}
use Rattle.well_formed.specs.type_layout.declared.definitions.TypeId.{TypeId}
use Rattle.well_formed.specs.type_layout.declared.definitions.TypeDef.TheVariants as type
use Rattle.well_formed.specs.typed_tree.declared.expressions.Variable.{Variable}
use Rattle.well_formed.specs.typed_tree.type_fits.Fits.{field_type, IsChar}
use Rattle.well_formed.specs.Scopes.{Others, HasVariable}
use Rattle.well_formed.specs.WellFormed.{scope_in}
use Rattle.store_typing.specs.tp_meaning.Store.{Store}
use Rattle.store_typing.specs.tp_meaning.Programs.{Sort, definition, beside, sort_in}
use Rattle.store_typing.specs.tp_meaning.Outcomes.{State, Outcome, Done, Over}
use Rattle.store_typing.specs.tp_meaning.Activations.{Reached, Activation, variable_at}
use Rattle.store_typing.specs.tp_meaning.Expressions.{field_at, element_in}
use Rattle.store_typing.specs.types.Agreement.{IsKnown}
use Rattle.store_typing.specs.stores.Worlds.{World}
use Rattle.store_typing.specs.stores.Places.{IsAt}
use Rattle.store_typing.specs.stores.Stores.{Finds}
use Rattle.program_typing.specs.lvalues.Frames.{IsActive, NamesGlobal}

-- a part of a program changes nothing and gives what is so; or the run is over, and not by an ill-typed step
abbrev pub Looks : {A : Type 0} → (A → Type 0) → State → Outcome A → Type 0
Looks IsSo s (Done a t) = (t ≡ s) × IsSo a
Looks IsSo s (Over (Ended code) t) = Unit {0}
Looks IsSo s (Over Going t) = Unit {0}
Looks IsSo s (Over (Undefined act) t) = Unit {0}
Looks IsSo s (Over Stopped t) = ⊥

pub record PlaceLaws (w : World) (store : Store) : Type 0 where
  -- a variable that a routine names, whatever its unit supposes of others, is found, or the variable parameter that stands for it can't be read
  pub variable : (others : Others) (f : Activation) (number : ℕ) (withs : List TypeId) (variable : Variable) (ty : TypeId) → IsActive w f number withs
      → HasVariable (record (scope_in others f.unit number) { withs = withs }) variable ty → NamesGlobal w.program f.unit variable ty
      → Finds (λ at. IsAt w at (sort_in f.unit ty)) (variable_at w.program f variable store)

pub record PartLaws (w : World) : Type 0 where
  -- a field of a record or an object
  pub field : (at : Reached) (seen : Sort) (number : ℕ) (ty : TypeId) (s : State) → IsAt w at seen → field_type seen.table.types seen.ty number ≡ Some ty → IsKnown w.program (beside seen ty)
      → Looks (λ to. IsAt w to (beside seen ty)) s (field_at at number s)
  -- an element of an array, and a character of a string or its length
  pub element : (at : Reached) (seen : Sort) (index element : TypeId) (checked : Bool) (z : ℤ) (s : State) → IsAt w at seen → definition seen ≡ Some (type.ArrayOf index element)
      → Looks (λ to. IsAt w to (beside seen element)) s (element_in at checked z (definition at.sort) s)
  pub character : (at : Reached) (seen : Sort) (max : ℕ) (ty : TypeId) (checked : Bool) (z : ℤ) (s : State) → IsAt w at seen → definition seen ≡ Some (type.Str max) → IsKnown w.program (beside seen ty)
      → IsChar (definition (beside seen ty)) → Looks (λ to. IsAt w to (beside seen ty)) s (element_in at checked z (definition at.sort) s)
