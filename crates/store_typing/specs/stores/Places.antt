-- Places that hold what a type has.
use Rattle.std.specs.Prelude.{◌≡◌, ℕ, zero, suc, ◌<◌, ◌≤◌, List, [], ◌∷◌, length, slice_get, All, Option, Some, None}
use Rattle.tp_meaning.specs.type_layout.declared.definitions.Host.TheVariants as host
use Rattle.tp_meaning.specs.type_layout.declared.definitions.TypeDef.{TypeDef}
use Rattle.tp_meaning.specs.type_layout.declared.definitions.TypeDef.TheVariants as type
use Rattle.tp_meaning.specs.type_layout.Storage.{storage_of}
use Rattle.tp_meaning.specs.type_layout.Table.{IsObject}
use Rattle.tp_meaning.specs.typed_tree.declared.units.Program.{Program}
use Rattle.tp_meaning.specs.typed_tree.type_fits.Fits.{stored_as}
use Rattle.tp_meaning.specs.Trees.{Key, Spot, Value, Text, At}
use Rattle.tp_meaning.specs.Programs.{Sort, definition, class_key, integer_sort, char_sort}
use Rattle.tp_meaning.specs.Activations.{Reached}
use Rattle.store_typing.specs.types.Declared.{declared, declared_header}
use Rattle.store_typing.specs.types.Agreement.{IsKnown, IsOfLine}
use Rattle.store_typing.specs.types.Forms.{Number, all_members, Link, Routine, Form, Cell, End, Pair, form_at}
use Rattle.store_typing.specs.stores.Worlds.{Own, World, IsHeld}

-- the form of what a path leads to, if it leads anywhere
abbrev pub form_part : Form → List ℕ → Option Form
form_part form [] = Some form
form_part (Pair head tail) (zero ∷ path) = form_part head path
form_part (Pair head tail) (suc n ∷ path) = form_part tail (n ∷ path)
form_part (Cell held) (n ∷ path) = None
form_part End (n ∷ path) = None

-- cells of a form hold what a type has: they are those of the type, or those of a descendant of an object type
pub data Covers (program : Program) (sort : Sort) (form : Form) : Type 0 where
  Same : form ≡ form_at sort → Covers program sort form
  Heir : (own : Sort) → IsKnown program own → IsKnown program sort → IsObject (definition sort) → IsOfLine own (class_key sort) → form ≡ form_at own → Covers program sort form

-- a place in an object that was made to hold what a type has: that the object is still there is not said
pub record LiesAt (w : World) (spot : Spot) (form : Form) : Type 0 where
  pub whole : Sort
  pub made : slice_get w.made spot.object ≡ Some (Own whole)
  pub leads : form_part (form_at whole) spot.path ≡ Some form

-- a place that holds what a type has
pub record IsPlaceOf (w : World) (spot : Spot) (sort : Sort) : Type 0 where
  pub form : Form
  pub lies : LiesAt w spot form
  pub covers : Covers w.program sort form

-- The type of a place, and the type that its unit sees it by: they were declared at one place; or the place is a character
-- of a string, or the variable of the unit Overlay.
pub data IsSeenAs (program : Program) (one seen : Sort) : Type 0 where
  Shared : IsKnown program one → IsKnown program seen → class_key one ≡ class_key seen → IsSeenAs program one seen
  Letter : one ≡ char_sort → IsKnown program seen → stored_as (definition seen) ≡ Some host.Char → IsSeenAs program one seen
  Whole : one ≡ integer_sort → IsKnown program seen → stored_as (definition seen) ≡ Some host.Integer → IsSeenAs program one seen

-- a place that holds what a type has that is seen so
pub record IsAt (w : World) (at : Reached) (seen : Sort) : Type 0 where
  pub place : IsPlaceOf w at.spot at.sort
  pub same : IsSeenAs w.program at.sort seen

-- ---- values

pub record IsText (bytes : List ℕ) : Type 0 where
  pub each : All (λ byte. byte < 256) bytes
  pub short : length bytes ≤ 255

-- a value of a type; of a record, an array or an object it is a place
abbrev pub IsValueBy : World → Sort → Option TypeDef → Value → Type 0
IsValueBy w sort (Some (type.Ordinal host low high)) v = IsHeld w (Number (storage_of host low high)) v
IsValueBy w sort (Some (type.SetOf base)) v = IsHeld w all_members v
IsValueBy w sort (Some (type.PointerTo target)) v = IsHeld w (Link (declared sort.table target)) v
IsValueBy w sort (Some (type.Procedural header)) v = IsHeld w (Routine (declared_header sort.table header)) v
IsValueBy w sort (Some (type.Str max)) (Text bytes) = IsText bytes
IsValueBy w sort (Some (type.ArrayOf index element)) (At spot) = IsPlaceOf w spot sort
IsValueBy w sort (Some (type.RecordOf fields)) (At spot) = IsPlaceOf w spot sort
IsValueBy w sort (Some (type.ObjectOf parent dynamic fields methods)) (At spot) = IsPlaceOf w spot sort
IsValueBy w sort one v = ⊥

abbrev pub IsValueOf : World → Sort → Value → Type 0
IsValueOf w sort v = IsValueBy w sort (definition sort) v

-- a class that the instances of what was declared there may have
pub record IsClassAt (program : Program) (key : Option Key) (class : Key) : Type 0 where
  pub own : Sort
  pub known : IsKnown program own
  pub of : IsOfLine own key
  pub has : IsOfLine own (Some class)

abbrev pub IsClassFor : Program → Option Key → Option Key → Type 0
IsClassFor program key None = Unit {0}
IsClassFor program key (Some class) = IsClassAt program key class
