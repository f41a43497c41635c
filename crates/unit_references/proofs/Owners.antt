-- The types whose instances methods are called for.
use Rattle.std.proofs.Common.{◌≡◌, ℕ, true, List, [], Option, Some, None, is_some, refl, sym, ap, subst, ◌∙◌}
use Rattle.std.specs.Prelude.{slice_get}
use Rattle.std.proofs.lemmas.Option.{same_Some}
use Rattle.type_soundness.specs.type_layout.declared.definitions.TypeId.{TypeId}
use Rattle.type_soundness.specs.type_layout.declared.definitions.RoutineId.{RoutineId}
use Rattle.type_soundness.specs.type_layout.declared.definitions.TypeDef.{TypeDef}
use Rattle.type_soundness.specs.type_layout.declared.definitions.TypeDef.TheVariants as type
use Rattle.type_soundness.specs.type_layout.Table.{IsObject, AllDefined}
use Rattle.type_soundness.specs.typed_tree.declared.units.Unit.{Unit as TypedUnit}
use Rattle.type_soundness.specs.typed_tree.declared.units.Program.{Program}
use Rattle.type_soundness.specs.typed_tree.type_fits.Fits.{Descends}
use Rattle.type_soundness.specs.typed_tree.type_fits.Fits.{IsObject as IsObjectType}
use Rattle.type_soundness.specs.well_formed.Scopes.{Prototype}
use Rattle.type_soundness.specs.well_formed.WellFormed.{IsOwner, scope_of}
use Rattle.type_soundness.specs.tp_meaning.Shapes.{Part, parts_at, class_place}
use Rattle.type_soundness.specs.tp_meaning.Programs.{sort_in}
use Rattle.type_soundness.specs.tp_meaning.Activations.{Callee}
use Rattle.type_soundness.specs.store_typing.types.Declared.{declared}
use Rattle.type_soundness.specs.store_typing.types.Agreement.{IsUnit, IsKnown}
use Rattle.type_soundness.proofs.store_typing_proofs.types.Lines.{begins}
use Rattle.type_soundness.proofs.store_typing_proofs.stores.Seen.{object_seen}
use Rattle.type_soundness.specs.program_typing.programs.Outcomes.{world}
use Rattle.type_soundness.specs.program_typing.programs.References.{IsOwned}
use Rattle.type_soundness.specs.program_typing.programs.WellTyped.{NeedsClass, HasClassPart}
use Rattle.type_soundness.proofs.activations.Shared.{known_shared}
use Rattle.type_soundness.proofs.activations.Called.{callee_numbered}
use Rattle.type_soundness.proofs.activations.Classes.{place_shared}
use Rattle.unit_references.specs.Held.{declared_owner}
use Rattle.unit_references.specs.Units.{HasSoundUnits}
use Rattle.unit_references.specs.Laws.{site_in}
use Rattle.unit_references.proofs.Classes.{class_before}
use Rattle.unit_references.proofs.Routines.{Leads}

pub object_of : (o : Option TypeDef) → IsObjectType o → IsObject o
object_of (Some (type.ObjectOf p d fields methods)) h = tt
object_of (Some (type.Ordinal host low high)) h = absurd h
object_of (Some (type.Str max)) h = absurd h
object_of (Some (type.SetOf base)) h = absurd h
object_of (Some (type.ArrayOf i x)) h = absurd h
object_of (Some (type.RecordOf fields)) h = absurd h
object_of (Some (type.PointerTo target)) h = absurd h
object_of (Some (type.Procedural header)) h = absurd h
object_of None h = absurd h

object_known : (program : Program) (unit : TypedUnit) (ty : TypeId) → IsUnit program unit → (o : Option TypeDef) → slice_get unit.types.types ty.0 ≡ o → IsObject o → IsKnown program (sort_in unit ty)
object_known program unit ty listed (Some one) e is = record { unit = unit; listed = listed; table = refl; one = one; is = e }
object_known program unit ty listed None e is = absurd is

-- the type whose instances a routine is called for, as its own unit has it
record OwnerOf (unit : TypedUnit) (callee : Callee) (owner : TypeId) : Type 0 where
  other : TypeId
  owned : callee.routine.owner ≡ Some other
  same : declared unit.types owner ≡ declared callee.unit.types other

owner_of : (unit : TypedUnit) (callee : Callee) (owner : TypeId) (seen : Option TypeId) → seen ≡ Some owner → declared_owner unit.types seen ≡ declared_owner callee.unit.types callee.routine.owner → OwnerOf unit callee owner
owner_of unit callee owner seen is e = by callee.routine.owner refl (ap (declared_owner unit.types) (sym is) ∙ e)
  where
    by : (o : Option TypeId) → callee.routine.owner ≡ o → declared_owner unit.types (Some owner) ≡ declared_owner callee.unit.types o → OwnerOf unit callee owner
    by None at f = absurd cc
    by (Some other) at f = record { other = other; owned = at; same = same_Some (declared unit.types owner) (declared callee.unit.types other) f }

module _ (program : Program) (sound : HasSoundUnits program) (unit : TypedUnit) (listed : IsUnit program unit) (number : ℕ) (around : List ℕ) (routine : RoutineId) (seen : Prototype)
    (l : Leads (site_in program unit number) around routine seen) (owner : TypeId) (is : seen.owner ≡ Some owner) where
  abbrev callee : Callee
  callee = l.callee

  it : OwnerOf unit callee owner
  it = owner_of unit callee owner seen.owner is l.owner

  numbered : slice_get callee.unit.routines callee.number ≡ Some callee.routine
  numbered = callee_numbered program l.key callee l.found

  other_object : IsObject (slice_get callee.unit.types.types it.other.0)
  other_object =
      let supported = sound.supported callee.unit l.listed in
      let well = supported.formed in
      let one = well.routines callee.number callee.routine numbered in
      object_of (slice_get callee.unit.types.types it.other.0) (subst (IsOwner (scope_of callee.unit)) it.owned one.owner)

  other_known : IsKnown program (sort_in callee.unit it.other)
  other_known = object_known program callee.unit it.other l.listed (slice_get callee.unit.types.types it.other.0) refl other_object

  owner_known : IsKnown program (sort_in unit owner)
  owner_known = known_shared (world program []) sound.agreed unit owner (sort_in callee.unit it.other) listed other_known it.same

  owner_object : IsObject (slice_get unit.types.types owner.0)
  owner_object = object_seen program sound.agreed (sort_in callee.unit it.other) (sort_in unit owner) other_known owner_known (sym it.same) other_object

  all_defined : AllDefined [] unit.types.types
  all_defined = let lawful = sound.agreed.lawful unit listed in let table = lawful.well_formed in table.defined

  -- what descends from the owner is an object type, for whose instances the routine is called
  pub owned_object : (class : TypeId) → IsObject (slice_get unit.types.types class.0) → Descends unit.types.types class owner → IsOwned (site_in program unit number) class callee
  owned_object class object down = record {
    object = object;
    owner = it.other;
    owned = it.owned;
    line = record { steps = down.0; ty = owner; reached = down.1; same = it.same };
  }

  pub owned_below : (class : TypeId) → Descends unit.types.types class owner → IsOwned (site_in program unit number) class callee
  owned_below class down =
      let begin = begins unit.types.types all_defined down.0 class owner down.1 in
      owned_object class (begin.object owner_object) down

  -- and has a place for the class, where the routine is a constructor or a destructor
  pub owned_class : (class : TypeId) → Descends unit.types.types class owner → NeedsClass callee.routine.header.kind → is_some (class_place (parts_at unit.types.types class)) ≡ true
  owned_class class down needs =
      let parts = sound.parts callee.unit l.listed in
      let one = parts.routines callee.number callee.routine numbered in
      let there : is_some (class_place (parts_at callee.unit.types.types it.other)) ≡ true = subst (HasClassPart callee.unit.types) it.owned (one.class needs) in
      let here : is_some (class_place (parts_at unit.types.types owner)) ≡ true =
      ap (λ (o : Option ℕ). is_some o) (place_shared (world program []) sound.agreed (sort_in unit owner) (sort_in callee.unit it.other) owner_known other_known it.same) ∙ there in
      let begin = begins unit.types.types all_defined down.0 class owner down.1 in
      ap (λ (parts : List Part). is_some (class_place parts)) begin.parts ∙ class_before (parts_at unit.types.types owner) begin.more here
