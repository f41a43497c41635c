-- A program of one unit is well-typed.
use Rattle.std.proofs.Common.{◌≡◌, ℕ, Bool, true, false, List, [], Some, None, refl, sym, ap, subst, ◌∙◌}
use Rattle.std.specs.Prelude.{Option, Ok, All, slice_get, if◌then◌else◌}
use Rattle.std.specs.Option.{option_map}
use Rattle.std.specs.Cmp.Lexicographic.{bytes_decides}
use Rattle.std.proofs.lemmas.Option.{same_Some}
use Rattle.std.proofs.lemmas.List.Elements.{All-nil, All-cons}
use Rattle.type_soundness.specs.type_layout.declared.definitions.TypeId.{TypeId}
use Rattle.type_soundness.specs.type_layout.declared.definitions.Method.{Method}
use Rattle.type_soundness.specs.type_layout.declared.definitions.TypeDef.TheVariants as type
use Rattle.type_soundness.specs.type_layout.Words.{same_bytes}
use Rattle.type_soundness.specs.type_layout.Table.{Table}
use Rattle.type_soundness.specs.typed_tree.declared.units.Routine.{Routine}
use Rattle.type_soundness.specs.typed_tree.declared.units.Unit.{Unit as TypedUnit}
use Rattle.type_soundness.specs.typed_tree.declared.units.Program.{Program}
use Rattle.type_soundness.specs.object_vmt.Dispatch.{AnswersAlike}
use Rattle.type_soundness.specs.tp_meaning.Trees.{Key}
use Rattle.type_soundness.specs.tp_meaning.Found.{◌>>=◌, known}
use Rattle.type_soundness.specs.tp_meaning.Programs.{Sort, definition, sort_in, class_key, method_key, unit_in}
use Rattle.type_soundness.specs.tp_meaning.Activations.{callee_of}
use Rattle.type_soundness.specs.store_typing.types.Declared.{declared, declared_header}
use Rattle.type_soundness.specs.store_typing.types.Agreement.{IsUnit, IsKnown, AreConsistent}
use Rattle.type_soundness.proofs.store_typing_proofs.stores.Seen.{header_same}
use Rattle.type_soundness.proofs.store_typing_proofs.units.Single.{single_agrees}
use Rattle.type_soundness.specs.program_typing.programs.Outcomes.{world}
use Rattle.type_soundness.specs.program_typing.programs.WellTyped.{IsMethod}
use Rattle.unit_references.specs.methods.Laws.{HasLawfulMethods}
use Rattle.unit_references.proofs.methods.Whole.{has_methods}
use Rattle.type_soundness.specs.store_typing.classes.Laws.{HasDeclarers}
use Rattle.type_soundness.proofs.store_typing_proofs.classes.Found.{has_classes}
use Rattle.unit_references.specs.Units.{HasSoundParts, AreMarked, IsSupported, HasSoundUnits}
use Rattle.unit_references.proofs.Whole.{well_typed}
use Rattle.type_soundness.proofs.programs.Runs.{never_stop}
use Rattle.unit_references.specs.programs.Laws.{IsAlone, IsOwnMethod, DeclaresItsTypes, AloneNeverStops}

module _ (program : Program) (unit : TypedUnit) (alone : IsAlone program unit) (own : DeclaresItsTypes unit) where
  only : (other : TypedUnit) → IsUnit program other → other ≡ unit
  only other is = by (same_bytes other.name unit.name) (subst (λ (units : List TypedUnit). unit_in units other.name ≡ Some other) alone.single.units is) where
    by : (test : Bool) → (if test then Some unit else None) ≡ Some other → other ≡ unit
    by true e = sym (same_Some unit other e)
    by false e = absurd cc

  listed : IsUnit program unit
  listed =
      subst (λ (units : List TypedUnit). unit_in units unit.name ≡ Some unit) (sym alone.single.units)
      (ap (λ (b : Bool). if b then Some unit else None) ((bytes_decides unit.name unit.name).1 refl))

  agreed : AreConsistent program
  agreed = single_agrees program unit alone.single

  -- a type of the program is one of the unit's table
  own_sort : (sort : Sort) → IsKnown program sort → sort ≡ sort_in unit sort.ty
  own_sort sort ks = ap (λ (t : Table). record { table = t; ty = sort.ty }) (ks.table ∙ ap (λ (u : TypedUnit). u.types) (only ks.unit ks.listed))

  declarers : HasDeclarers program
  declarers = record {
    declarers = λ sort class ks object e.
        let here : declared unit.types sort.ty ≡ Some class = subst (λ (s : Sort). class_key s ≡ Some class) (own_sort sort ks) e in
        record { unit = unit; listed = listed; named = own.origins sort.ty class here; ty = sort.ty; is = here };
  }

  callee_found : (n : ℕ) (one : Routine) → slice_get unit.routines n ≡ Some one → callee_of program (record { unit = unit.name; number = n }) ≡ Ok (record { unit = unit; number = n; routine = one })
  callee_found n one e =
      ap (λ (u : Option TypedUnit). known u >>= λ unit. known (slice_get unit.routines n) >>= λ routine. Ok (record { unit = unit; number = n; routine = routine })) listed
      ∙ ap (λ (r : Option Routine). known r >>= λ routine. Ok (record { unit = unit; number = n; routine = routine })) e

  method_of : (class : TypeId) (method : Method) (key : Key) → IsOwnMethod unit class method → method_key unit.types method ≡ Some key → IsMethod program key (sort_in unit class) (declared_header unit.types method.header)
  method_of class method key m e =
      let n : ℕ = method.routine.number in
      let here : Key = record { unit = unit.name; number = n } in
      let same : here ≡ key = same_Some here key (sym (ap (option_map (λ name. record { unit = name; number = n })) m.named) ∙ e) in
      subst (λ (k : Key). IsMethod program k (sort_in unit class) (declared_header unit.types method.header)) same
      (record {
        callee = record { unit = unit; number = n; routine = m.routine };
        found = callee_found n m.routine m.is;
        listed = listed;
        same = header_same (world program []) agreed unit.types method.header m.routine.header m.same;
        owner = class;
        owned = m.owned;
        line = record { steps = 0; ty = class; reached = refl; same = refl };
      })

  -- the method of a type whatever table has the type
  abbrev AnyMethod : Sort → Method → Key → Type 0
  AnyMethod class method key = method_key class.table method ≡ Some key → IsMethod program key class (declared_header class.table method.header)

  lawful_methods : HasLawfulMethods program
  lawful_methods = record {
    answers = λ other is. subst (λ (u : TypedUnit). AnswersAlike u.types.types) (sym (only other is)) own.answers;
    routines = λ class parent dynamic fields methods place method key ks is at e.
        let one : IsOwnMethod unit class.ty method = own.methods class.ty parent dynamic fields methods place method (subst (λ (s : Sort). definition s ≡ Some (type.ObjectOf parent dynamic fields methods)) (own_sort class ks) is) at in
        subst (λ (s : Sort). AnyMethod s method key) (sym (own_sort class ks)) (method_of class.ty method key one) e;
  }

  sound : HasSoundUnits program
  sound = record {
    agreed = agreed;
    parts = λ other is. subst HasSoundParts (sym (only other is)) alone.parts;
    marked = λ other is. subst (λ (u : TypedUnit). AreMarked u.types.types) (sym (only other is)) alone.marked;
    supported = λ other is. subst (IsSupported program) (sym (only other is)) alone.supported;
  }

  found : All (IsUnit program) program.units
  found = subst (λ (units : List TypedUnit). All (IsUnit program) units) (sym alone.single.units) (All-cons (IsUnit program) unit [] listed (All-nil (IsUnit program)))

pub alone_never_stops : AloneNeverStops
alone_never_stops program unit alone own =
    let is = agreed program unit alone own in
    never_stop program
    (well_typed program (found program unit alone own) (sound program unit alone own) (has_classes program is (declarers program unit alone own)) (has_methods program is (lawful_methods program unit alone own)))
