-- Instances of the routines that are called.
use Rattle.std.proofs.Common.{◌≡◌, Bool, true, false, List, ◌++◌, Some, None, refl, sym, subst}
use Rattle.std.specs.Prelude.{Option, if◌then◌else◌}
use Rattle.program_typing.specs.type_layout.declared.definitions.TypeId.{TypeId}
use Rattle.program_typing.specs.type_layout.declared.definitions.Host.{Host}
use Rattle.program_typing.specs.type_layout.declared.definitions.Host.TheVariants as host
use Rattle.program_typing.specs.type_layout.declared.definitions.TypeDef.{TypeDef}
use Rattle.program_typing.specs.type_layout.declared.definitions.TypeDef.TheVariants as type
use Rattle.program_typing.specs.type_layout.Table.{IsObject}
use Rattle.program_typing.specs.typed_tree.type_fits.Fits.{stored_as}
use Rattle.program_typing.specs.typed_tree.declared.units.Unit.{Unit as TypedUnit}
use Rattle.program_typing.specs.typed_tree.declared.units.Program.{Program}
use Rattle.program_typing.specs.typed_tree.Expressions.{Place, Var, Deref, Index, FieldOf}
use Rattle.program_typing.specs.tp_meaning.Trees.{Key, Spot}
use Rattle.program_typing.specs.tp_meaning.Programs.{Sort, definition, sort_in, class_key}
use Rattle.program_typing.specs.tp_meaning.Outcomes.{Outcome, and_then, give}
use Rattle.program_typing.specs.tp_meaning.Activations.{Reached, Activation, Callee, is_self}
use Rattle.program_typing.specs.tp_meaning.Expressions.{Instance, class_for, instance_at}
use Rattle.program_typing.specs.store_typing.types.Declared.{declared}
use Rattle.program_typing.specs.store_typing.types.Agreement.{IsKnown, AreConsistent, IsOfLine}
use Rattle.program_typing.specs.store_typing.stores.Worlds.{Made, World}
use Rattle.program_typing.specs.store_typing.stores.Places.{IsSeenAs, Shared, Letter, Whole, IsAt}
use Rattle.program_typing.proofs.store_typing_proofs.stores.Grown.{grows_by, place_grows}
use Rattle.program_typing.proofs.store_typing_proofs.stores.Seen.{line_along, object_seen}
use Rattle.program_typing.specs.programs.Outcomes.{world, after, Ends}
use Rattle.program_typing.specs.programs.References.{Site, IsOwned}
use Rattle.program_typing.specs.programs.Calls.{IsClassGiven, IsInstanceFor, IsInstanceBy, IsInstance}
use Rattle.program_typing.proofs.programs.Ends.{ends_bind, ends_done}
use Rattle.type_soundness.proofs.expressions.Chains.{Kept}
use Rattle.type_soundness.proofs.expressions.Places.{PlaceAt}

-- ---- instances stay ones as objects are made

pub instance_by_after : (w : World) (more : List Made) (unit : TypedUnit) (owner : Option TypeId) (own : Option Spot) (class : Option Key) → IsInstanceBy w unit owner own class → IsInstanceBy (after w more) unit owner own class
instance_by_after w more unit None None None h = tt
instance_by_after w more unit (Some owner) (Some spot) class h = record {
  top = h.top;
  known = h.known;
  object = h.object;
  place = place_grows w (after w more) (grows_by w more) spot h.top h.place;
  line = h.line;
  given = h.given;
}
instance_by_after w more unit None None (Some class) h = absurd h
instance_by_after w more unit None (Some spot) class h = absurd h
instance_by_after w more unit (Some owner) None class h = absurd h

abbrev pub instance_kept : Program → Callee → Option Spot → Option Key → Kept
instance_kept program callee own class = record {
  holds = λ made. IsInstance (world program made) callee own class;
  keep = λ made more h. instance_by_after (world program made) more callee.unit callee.routine.owner own class h;
}

-- ---- the class that a constructor is to give

class_given_by : (sort : Sort) (o : Option Key) → class_key sort ≡ o → IsClassGiven sort o
class_given_by sort None e = tt
class_given_by sort (Some class) e = e

class_given_if : (sort : Sort) (own : Bool) → IsClassGiven sort (if own then None else class_key sort)
class_given_if sort true = tt
class_given_if sort false = class_given_by sort (class_key sort) refl

class_given : (f : Activation) (at : Place) (sort : Sort) → IsClassGiven sort (class_for f at sort)
class_given f (Var variable) sort = class_given_if sort (is_self f variable)
class_given f (Deref pointer) sort = class_given_by sort (class_key sort) refl
class_given f (Index of index checked) sort = class_given_by sort (class_key sort) refl
class_given f (FieldOf of number) sort = class_given_by sort (class_key sort) refl

pub no_object : (o : Option TypeDef) (h : Host) → IsObject o → stored_as o ≡ Some h → ⊥
no_object (Some (type.ObjectOf p d fields methods)) h object e = cc
no_object (Some (type.Ordinal host low high)) h object e = object
no_object (Some (type.Str max)) h object e = object
no_object (Some (type.SetOf base)) h object e = object
no_object (Some (type.ArrayOf i x)) h object e = object
no_object (Some (type.RecordOf fields)) h object e = object
no_object (Some (type.PointerTo target)) h object e = object
no_object (Some (type.Procedural header)) h object e = object
no_object None h object e = object

module _ (w : World) (agreed : AreConsistent w.program) where
  -- one and the same type in two tables descends from the same types
  line_shared : (own other : Sort) (key : Option Key) → IsKnown w.program own → IsKnown w.program other → class_key other ≡ class_key own → IsOfLine own key → IsOfLine other key
  line_shared own other key ko k same of =
      subst (IsOfLine other) of.same (line_along w.program agreed of.steps other own k ko (record { steps = 0; ty = other.ty; reached = refl; same = same }) of.ty of.reached)

  -- ---- a place of an object is an instance

  instance_for : (unit : TypedUnit) (owner : TypeId) (at : Reached) (seen : Sort) (class : Option Key) → IsObject (definition seen) → IsOfLine seen (declared unit.types owner) → IsAt w at seen → IsClassGiven at.sort class
      → IsInstanceFor w unit owner at.spot class
  instance_for unit owner at seen class object line is given = by is.same where
    by : IsSeenAs w.program at.sort seen → IsInstanceFor w unit owner at.spot class
    by (Shared ko ks same) = record {
      top = at.sort;
      known = ko;
      object = object_seen w.program agreed seen at.sort ks ko (sym same) object;
      place = is.place;
      line = line_shared seen at.sort (declared unit.types owner) ks ko same line;
      given = given;
    }
    by (Letter e ks stored) = absurd (no_object (definition seen) host.Char object stored)
    by (Whole e ks stored) = absurd (no_object (definition seen) host.Integer object stored)

  pub instance_is : (site : Site) (class : TypeId) (callee : Callee) (at : Reached) (given : Option Key) → IsOwned site class callee → IsAt w at (sort_in site.unit class) → IsClassGiven at.sort given → IsInstance w callee (Some at.spot) given
  instance_is site class callee at given owned is class_is =
      subst (λ (o : Option TypeId). IsInstanceBy w callee.unit o (Some at.spot) given) (sym owned.owned)
      (instance_for callee.unit owned.owner at (sort_in site.unit class) given owned.object owned.line is class_is)

  -- a routine that no type owns has no instance
  pub no_instance_is : (callee : Callee) → callee.routine.owner ≡ None → IsInstance w callee None None
  no_instance_is callee e = subst (λ (o : Option TypeId). IsInstanceBy w callee.unit o None None) (sym e) tt

-- an instance of a call
abbrev pub InstanceOf : Callee → World → Instance → Type 0
InstanceOf callee w i = IsInstance w callee i.own i.class

pub own_ends : (program : Program) → AreConsistent program → (made : List Made) (f : Activation) (site : Site) (class : TypeId) (callee : Callee) (own : Place) (o : Outcome Reached) → IsOwned site class callee
    → Ends (world program made) (PlaceAt (sort_in site.unit class)) o → Ends (world program made) (InstanceOf callee) (and_then o (λ at. give (instance_at f own at)))
own_ends program agreed made f site class callee own o owned h =
    ends_bind (PlaceAt (sort_in site.unit class)) (world program made) (InstanceOf callee) o (λ at. give (instance_at f own at)) h (λ more at s typed is.
    ends_done (InstanceOf callee) (world program (made ++ more)) (instance_at f own at) s typed
    (instance_is (world program (made ++ more)) agreed site class callee at (class_for f own at.sort) owned is (class_given f own at.sort)))
