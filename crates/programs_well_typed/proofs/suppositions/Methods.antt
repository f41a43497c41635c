-- What a scope tells of methods is so: each is a routine of the unit that declares its type.
use Rattle.std.proofs.Common.{◌≡◌, ◌∙◌, inl, ℕ, ◌<◌, ◌≤◌, Bool, true, false, List, [], length, get_or, Option, Some, None, refl, sym, ap, subst, arith}
use Rattle.std.specs.Prelude.{◌^◌, slice_get, is_some, position}
use Rattle.std.specs.Option.{option_map}
use Rattle.std.proofs.Math.Nat.{min-eq_left}
use Rattle.std.proofs.lemmas.Option.{none-some, same_Some, slice_get-get_or}
use Rattle.shared_types_agree.specs.type_layout.declared.definitions.TypeId.{TypeId}
use Rattle.shared_types_agree.specs.type_layout.declared.definitions.RoutineId.{RoutineId}
use Rattle.shared_types_agree.specs.type_layout.declared.definitions.Field.{Field}
use Rattle.shared_types_agree.specs.type_layout.declared.definitions.Method.{Method}
use Rattle.shared_types_agree.specs.type_layout.declared.definitions.TypeDef.{TypeDef}
use Rattle.shared_types_agree.specs.type_layout.declared.definitions.TypeDef.TheVariants as type
use Rattle.shared_types_agree.specs.type_layout.Words.{same_bytes}
use Rattle.shared_types_agree.specs.type_layout.Table.{Table, IsObject}
use Rattle.shared_types_agree.specs.typed_tree.declared.units.Routine.{Routine}
use Rattle.shared_types_agree.specs.typed_tree.declared.units.Unit as typed
use Rattle.shared_types_agree.specs.typed_tree.declared.units.Program.{Program}
use Rattle.shared_types_agree.specs.typed_tree.type_fits.Fits.{definition}
use Rattle.shared_types_agree.specs.well_formed.Scopes.{OtherRoutine}
use Rattle.shared_types_agree.specs.scopes.Members.{narrow}
use Rattle.shared_types_agree.specs.scopes.Environment.{Environment}
use Rattle.shared_types_agree.specs.call_rules.method_rules.Slots.{methods_of}
use Rattle.shared_types_agree.specs.call_rules.method_rules.Methods.{unit_at, routine_of}
use Rattle.shared_types_agree.specs.tp_meaning.Trees.{Key as Class}
use Rattle.shared_types_agree.specs.tp_meaning.Programs.{Sort, sort_in, method_key, is_overlay}
use Rattle.shared_types_agree.specs.tp_meaning.Activations.{Callee}
use Rattle.shared_types_agree.specs.store_typing.types.Declared.{DeclaredMethod, declared, declared_header, declared_method, AreAlike}
use Rattle.shared_types_agree.specs.store_typing.types.Agreement.{IsUnit, IsKnown, AreConsistent}
use Rattle.shared_types_agree.proofs.store_typing_proofs.types.Agreed.{get_within}
use Rattle.shared_types_agree.proofs.store_typing_proofs.types.Lines.{is_declared}
use Rattle.shared_types_agree.specs.store_typing.classes.Laws.{HasDeclarers}
use Rattle.shared_types_agree.proofs.unit_interface_proofs.KeyLaws.{found_name}
use Rattle.shared_types_agree.specs.methods.Laws.{IsOwnMethod}
use Rattle.shared_types_agree.proofs.methods.Whole.{alike_at, routine_found, HasOwn, declared_type}
use Rattle.shared_types_agree.proofs.methods.Below.{method_told, IsMethodFrom}
use Rattle.shared_types_agree.specs.unit_references.Held.{IsRoutineHeld}

-- ---- a method that a scope names

pub record IsObjectWith (one : Option TypeDef) (place : ℕ) (method : Method) : Type 0 where
  pub parent : Option TypeId
  pub dynamic : Bool
  pub fields : List Field
  pub methods : List Method
  pub is : one ≡ Some (type.ObjectOf parent dynamic fields methods)
  pub at : slice_get methods place ≡ Some method

nothing_there : (place : ℕ) (method : Method) → slice_get [] place ≡ Some method → ⊥
nothing_there place method at = cc

object_with : (one : Option TypeDef) (place : ℕ) (method : Method) → slice_get (methods_of one) place ≡ Some method → IsObjectWith one place method
object_with (Some (type.ObjectOf parent dynamic fields methods)) place method at = record { parent = parent; dynamic = dynamic; fields = fields; methods = methods; is = refl; at = at }
object_with (Some (type.Ordinal host low high)) place method at = absurd (nothing_there place method at)
object_with (Some (type.Str max)) place method at = absurd (nothing_there place method at)
object_with (Some (type.SetOf base)) place method at = absurd (nothing_there place method at)
object_with (Some (type.ArrayOf index element)) place method at = absurd (nothing_there place method at)
object_with (Some (type.RecordOf fields)) place method at = absurd (nothing_there place method at)
object_with (Some (type.PointerTo target)) place method at = absurd (nothing_there place method at)
object_with (Some (type.Procedural header)) place method at = absurd (nothing_there place method at)
object_with None place method at = absurd (nothing_there place method at)

-- the unit that a routine names
record IsNamedUnit (units : List (List ℕ)) (word : List ℕ) (number : ℕ) (routine : RoutineId) : Type 0 where
  unit : slice_get units routine.unit ≡ Some word
  same : routine.number ≡ number

named_unit : (units : List (List ℕ)) (word : List ℕ) (number : ℕ) (routine : RoutineId) → length units < 2 ^ 32 → option_map (routine_of number) (unit_at units (Some word)) ≡ Some routine → IsNamedUnit units word number routine
named_unit units word number routine few is = by (position (same_bytes word) units) refl is
  where
    by : (o : Option ℕ) → position (same_bytes word) units ≡ o → option_map (routine_of number) (option_map narrow o) ≡ Some routine → IsNamedUnit units word number routine
    by None e k = absurd (none-some routine k)
    by (Some i) e k =
        let f = found_name units word i e in
        let low : i ≤ 4294967295 = omega (arith, f.0, few) in
        let fits : narrow i ≡ i = min-eq_left low in
        let same : routine_of number (narrow i) ≡ routine = same_Some (routine_of number (narrow i)) routine k in
        record {
          unit = ap (λ (r : RoutineId). slice_get units r.unit) (sym same) ∙ ap (slice_get units) fits ∙ slice_get-get_or units i [] f.0 ∙ ap (λ (n : List ℕ). Some n) f.1;
          same = sym (ap (λ (r : RoutineId). r.number) same);
        }

module _ (program : Program) (agreed : AreConsistent program) (declarers : HasDeclarers program) (own : (unit : typed.Unit) → IsUnit program unit → HasOwn unit)
    (none_overlay : (unit : typed.Unit) → IsUnit program unit → is_overlay unit.name ≡ false)
    (outermost : (unit : typed.Unit) → IsUnit program unit → (number : ℕ) (routine : Routine) → slice_get unit.routines number ≡ Some routine → is_some routine.owner ≡ true → routine.outer ≡ None) where
  module _ (unit : typed.Unit) (listed : IsUnit program unit) (few : length unit.names < 2 ^ 32) where
    -- the method's routine is that of the unit that declares the type
    routine_held : (class : TypeId) (method : Method) (routine : RoutineId) (home : typed.Unit) (ty : TypeId) (other : Method) → IsUnit program home → declared unit.types class ≡ declared home.types ty
        → declared_method home.types other ≡ declared_method unit.types method → slice_get home.types.units other.routine.unit ≡ Some home.name → IsOwnMethod home ty other
        → IsNamedUnit unit.names home.name method.routine.number routine → IsRoutineHeld program unit (method_told class method routine)
    routine_held class method routine home ty other there same alike mine is named =
        let number : ℕ = other.routine.number in
        let key : Class = record { unit = home.name; number = number } in
        let here : method_key home.types other ≡ Some key = ap (λ (o : Option (List ℕ)). option_map (λ (name : List ℕ). (let k : Class = record { unit = name; number = number } in k)) o) mine in
        let callee : Callee = record { unit = home; number = number; routine = is.routine } in
        let keyed : method_key unit.types method ≡ Some key = sym (ap (λ (d : DeclaredMethod). d.routine) alike) ∙ here in
        let numbers : routine.number ≡ number = named.same ∙ number_of (slice_get unit.types.units method.routine.unit) keyed in
        record {
          key = key;
          is = ap (λ (o : Option (List ℕ)). option_map (λ (name : List ℕ). (let k : Class = record { unit = name; number = routine.number } in k)) o) named.unit
              ∙ ap (λ (n : ℕ). (let k : Class = record { unit = home.name; number = n } in Some k)) numbers;
          kept = inl (record {
            own = none_overlay home there;
            callee = callee;
            found = routine_found program home number is.routine there is.is;
            listed = there;
            outermost = outermost home there number is.routine is.is (ap is_some is.owned);
            header = sym (ap (λ (d : DeclaredMethod). d.header) alike) ∙ sym (ap (declared_header home.types) is.header);
            owner = ap (λ (k : Option Class). Some k) same ∙ sym (ap (option_map (declared home.types)) is.owned);
          });
        }
      where
        number_of : (o : Option (List ℕ)) → option_map (λ (name : List ℕ). (let k : Class = record { unit = name; number = method.routine.number } in k)) o ≡ Some (record { unit = home.name; number = other.routine.number })
            → method.routine.number ≡ other.routine.number
        number_of None e = absurd (cc)
        number_of (Some name) e =
            ap (λ (k : Class). k.number) (same_Some (let k : Class = record { unit = name; number = method.routine.number } in k) (let k : Class = record { unit = home.name; number = other.routine.number } in k) e)

    by_alike : (class : TypeId) (method : Method) (routine : RoutineId) (home : typed.Unit) (ty : TypeId) (name : Class) (parent : Option TypeId) (dynamic : Bool) (fields : List Field) (methods : List Method) (place : ℕ)
        → IsUnit program home → name.unit ≡ home.name → declared home.types ty ≡ Some name → declared unit.types class ≡ Some name → slice_get methods place ≡ Some method
        → IsNamedUnit unit.names home.name method.routine.number routine
        → (one : TypeDef) → slice_get home.types.types ty.0 ≡ Some one → AreAlike unit.types (type.ObjectOf parent dynamic fields methods) home.types one → IsRoutineHeld program unit (method_told class method routine)
    by_alike class method routine home ty name parent dynamic fields methods place there named is here at so (type.ObjectOf parent' dynamic' fields' methods') defined alike =
        let other = alike_at (declared_method unit.types) (declared_method home.types) methods methods' place method alike.3 at in
        let mine = own home there in
        let stands : slice_get (methods_of (definition home.types.types ty)) place ≡ Some other.0 = ap (λ (o : Option TypeDef). slice_get (methods_of o) place) defined ∙ other.1 in
        let of_home : slice_get home.types.units other.0.routine.unit ≡ Some home.name = mine.named ty name place other.0 is stands ∙ ap (λ (n : List ℕ). Some n) named in
        routine_held class method routine home ty other.0 there (here ∙ sym is) other.2 of_home (mine.routines.methods ty place other.0 stands of_home) so
    by_alike class method routine home ty name parent dynamic fields methods place there named is here at so one defined alike = absurd alike

    pub method_held : (class : TypeId) (place : ℕ) (method : Method) (routine : RoutineId) → slice_get (methods_of (definition unit.types.types class)) place ≡ Some method
        → option_map (routine_of method.routine.number) (unit_at unit.names (slice_get unit.types.units method.routine.unit)) ≡ Some routine → IsRoutineHeld program unit (method_told class method routine)
    method_held class place method routine at names =
        let o = object_with (definition unit.types.types class) place method at in
        let sort : Sort = sort_in unit class in
        let one : TypeDef = type.ObjectOf o.parent o.dynamic o.fields o.methods in
        let name = is_declared unit.types (agreed.lawful unit listed).well_formed class (get_within unit.types.types class.0 one o.is) in
        let known_here : IsKnown program sort = record { unit = unit; listed = listed; table = refl; one = one; is = o.is } in
        let d = declarers.declarers sort name.0 known_here (subst IsObject (sym o.is) tt) name.1 in
        let home : typed.Unit = d.unit in
        let there = declared_type program agreed declarers own home d.listed d.ty name.0 d.is in
        let known_there : IsKnown program (sort_in home d.ty) = record { unit = home; listed = d.listed; table = refl; one = there.0; is = there.1 } in
        let alike = agreed.alike sort (sort_in home d.ty) one there.0 known_here known_there o.is there.1 (name.1 ∙ sym d.is) in
        let word : slice_get unit.types.units method.routine.unit ≡ Some home.name = (own unit listed).named class name.0 place method name.1 at ∙ ap (λ (n : List ℕ). Some n) d.named in
        let so = named_unit unit.names home.name method.routine.number routine few (ap (λ (u : Option (List ℕ)). option_map (routine_of method.routine.number) (unit_at unit.names u)) (sym word) ∙ names) in
        by_alike class method routine home d.ty name.0 o.parent o.dynamic o.fields o.methods place d.listed d.named d.is name.1 o.at so there.0 there.1 alike

    -- so is each that the scope at the unit's end tells of
    pub told_held : (h : Environment) → h.types ≡ unit.types → h.units ≡ unit.names → (one : OtherRoutine) → IsMethodFrom h one → IsRoutineHeld program unit one
    told_held h table units one m =
        let stands : slice_get (methods_of (definition unit.types.types m.class)) m.place ≡ Some m.method = ap (λ (t : Table). slice_get (methods_of (definition t.types m.class)) m.place) (sym table) ∙ m.at in
        let names : option_map (routine_of m.method.routine.number) (unit_at unit.names (slice_get unit.types.units m.method.routine.unit)) ≡ Some one.routine =
        ap (λ (us : List (List ℕ)). option_map (routine_of m.method.routine.number) (unit_at us (slice_get unit.types.units m.method.routine.unit))) (sym units)
        ∙ ap (λ (t : Table). option_map (routine_of m.method.routine.number) (unit_at h.units (slice_get t.units m.method.routine.unit))) (sym table) ∙ m.routine in
        subst (IsRoutineHeld program unit) m.seen (method_held m.class m.place m.method one.routine stands names)
