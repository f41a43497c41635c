-- Methods of a unit in tables whose object types have their methods of the units that declare them.
use Rattle.std.proofs.Common.{◌≡◌, ◌∙◌, ℕ, ◌<◌, ◌≤◌, List, [], ◌++◌, length, map, Option, Some, None, get_or, refl, sym, ap, subst, arith}
use Rattle.std.specs.Prelude.{slice_get}
use Rattle.std.proofs.Math.ListN.{get_or-append}
use Rattle.std.proofs.lemmas.List.{map-append}
use Rattle.std.proofs.lemmas.Option.{slice_get_within, get_or_from_slice_get}
use Rattle.unit_references.specs.type_layout.declared.definitions.TypeId.{TypeId}
use Rattle.unit_references.specs.type_layout.declared.definitions.Method.{Method}
use Rattle.unit_references.specs.type_layout.declared.definitions.Origin.{Origin}
use Rattle.unit_references.specs.type_layout.declared.definitions.TypeDef.{TypeDef}
use Rattle.unit_references.specs.type_layout.declared.definitions.TypeDef.TheVariants as type
use Rattle.unit_references.specs.type_layout.Table.{Table, HasMethodsOf}
use Rattle.unit_references.proofs.type_layout_proofs.Local.{slice_get-append}
use Rattle.unit_references.specs.typed_tree.type_fits.Fits.{definition}
use Rattle.units_well_formed.specs.call_rules.method_rules.Slots.{methods_of}
use Rattle.units_well_formed.specs.unit_interface.declared.keys.Key.{Key}
use Rattle.units_well_formed.specs.unit_interface.Merge.{key_of, keys_of}
use Rattle.units_well_formed.specs.unit_interface.Keyed.{IsKeyed}
use Rattle.units_well_formed.proofs.unit_interface_proofs.KeyLaws.{keys_stay}
use Rattle.units_well_formed.specs.tp_check_decl.routines.Drafts.{Numbered}
use Rattle.shared_types_agree.proofs.programs.Below.{Grows}
use Rattle.units_well_formed.proofs.units.Below.{nothing_at}
use Rattle.units_well_formed.specs.imported_types_agree.consistent_types.Consistency.{Stands}
use Rattle.units_well_formed.proofs.imported_types_agree_proofs.consistent_types.Known.{keys_long, key_there}
use Rattle.shared_types_agree.specs.programs.Consistency.{AreOwned}
use Rattle.shared_types_agree.proofs.methods.Numbered.{in_class, IsRoutineOf, HaveRoutines, IsBehind, class_on, all_placed, all_methods}

-- the key of the type that declares a method, whose unit is that of the method
pub record IsKeyOf (table : Table) (class : TypeId) (method : Method) : Type 0 where
  pub key : Key
  pub at : slice_get (keys_of table) class.0 ≡ Some key
  pub named : slice_get table.units method.routine.unit ≡ Some key.unit

method_of_unit : (unit : ℕ) (one : TypeDef) (place : ℕ) (method : Method) → HasMethodsOf unit one → slice_get (methods_of (Some one)) place ≡ Some method → method.routine.unit ≡ unit
method_of_unit unit (type.ObjectOf parent dynamic fields methods) place method all at =
    subst (λ (m : Method). m.routine.unit ≡ unit) (get_or_from_slice_get methods place method method at) (all place method (slice_get_within methods place method at))
method_of_unit unit one place method all at = absurd (nothing_at place method at)

pub owner_key : (table : Table) → IsKeyed table → AreOwned table → (class : TypeId) (place : ℕ) (method : Method) → slice_get (in_class table class) place ≡ Some method → IsKeyOf table class method
owner_key table keyed owned class place method at = by (definition table.types class) refl at
  where
    by : (o : Option TypeDef) → definition table.types class ≡ o → slice_get (methods_of o) place ≡ Some method → IsKeyOf table class method
    by None is e = absurd (nothing_at place method e)
    by (Some one) is e =
        let long = keys_long table keyed.paired in
        let low : class.0 < length (keys_of table) = omega (arith, slice_get_within table.types class.0 one is, long) in
        let k = key_there table class.0 low in
        let o = owned class.0 k.0 one k.1 is in
        record { key = k.0; at = k.1; named = ap (λ (n : ℕ). slice_get table.units n) (method_of_unit o.place one place method o.methods e) ∙ o.named }

one_name : (one other : List ℕ) → Some one ≡ Some other → one ≡ other
one_name one other e = cc

-- ---- a table without types of the unit

pub none_yet : (name : List ℕ) (table : Table) → IsKeyed table → AreOwned table → ((number : ℕ) (key : Key) → slice_get (keys_of table) number ≡ Some key → key.unit ≡ name → ⊥) → HaveRoutines name table []
none_yet name table keyed owned no_own = record {
  placed = λ class place method at. (let k = owner_key table keyed owned class place method at in slice_get_within table.units method.routine.unit k.key.unit k.named);
  methods = λ class place method at named. (let k = owner_key table keyed owned class place method at in absurd (no_own class.0 k.key k.at (one_name k.key.unit name (sym k.named ∙ named))));
  owners = λ place one class at owner. absurd (nothing place one at);
  few = λ place one done at has. absurd (nothing place one at);
}
  where
    nothing : (place : ℕ) (one : Numbered) → slice_get [] place ≡ Some one → ⊥
    nothing place one at = nothing_at place one at

-- ---- further types, of other units

-- keys stay where they are
keys_on : (table longer : Table) → IsKeyed table → Grows table longer → (place : ℕ) (key : Key) → slice_get (keys_of table) place ≡ Some key → slice_get (keys_of longer) place ≡ Some key
keys_on table longer keyed grows place key at =
    let same : map (key_of longer.units) table.origins ≡ keys_of table =
    keys_stay table.units longer.units table.origins (λ k low. ap (λ (units : List (List ℕ)). get_or units k []) grows.has_units ∙ get_or-append table.units grows.units [] k low) keyed.known in
    let all : keys_of longer ≡ keys_of table ++ map (key_of longer.units) grows.origins =
    ap (λ (origins : List Origin). map (key_of longer.units) origins) grows.has_origins
    ∙ map-append (key_of longer.units) table.origins grows.origins
    ∙ ap (λ (keys : List Key). keys ++ map (key_of longer.units) grows.origins) same in
    ap (λ (keys : List Key). slice_get keys place) all
    ∙ slice_get-append (keys_of table) (map (key_of longer.units) grows.origins) place (slice_get_within (keys_of table) place key at)
    ∙ at

module _ (name : List ℕ) (table longer : Table) (keyed : IsKeyed table) (grows : Grows table longer) (apart : IsKeyed longer) (owned : AreOwned longer)
    (from : (place : ℕ) (key : Key) → key.unit ≡ name → slice_get (keys_of longer) place ≡ Some key → Stands (keys_of table) key) where
  behind : IsBehind table longer
  behind = record { types = grows.types; has_types = grows.has_types; units = grows.units; has_units = grows.has_units }

  -- a method of the unit is none of a further type
  no_further : (class : TypeId) (place : ℕ) (method : Method) → length table.types ≤ class.0 → slice_get (in_class longer class) place ≡ Some method → slice_get longer.units method.routine.unit ≡ Some name → ⊥
  no_further class place method new at named =
      let k = owner_key longer apart owned class place method at in
      let mine : k.key.unit ≡ name = one_name k.key.unit name (sym k.named ∙ named) in
      let old = from class.0 k.key mine k.at in
      let same : old.place ≡ class.0 = apart.apart old.place class.0 k.key (keys_on table longer keyed grows old.place k.key old.at) k.at in
      let low = slice_get_within (keys_of table) old.place k.key old.at in
      let long = keys_long table keyed.paired in
      omega (arith, same, low, long, new)

  pub others_on : (routines : List Numbered) → HaveRoutines name table routines → HaveRoutines name longer routines
  others_on routines have = record {
    placed = all_placed table longer behind have.placed
        (λ class place method new at. (let k = owner_key longer apart owned class place method at in slice_get_within longer.units method.routine.unit k.key.unit k.named));
    methods = all_methods table longer behind have.placed name (IsRoutineOf routines) have.methods (λ class place method new at named. absurd (no_further class place method new at named));
    owners = λ place one class at owner. class_on table longer behind name class (have.owners place one class at owner);
    few = have.few;
  }
