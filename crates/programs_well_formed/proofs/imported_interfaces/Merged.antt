-- A table with the types of a used unit has further types and units, and methods of other units.
use Rattle.std.proofs.Common.{◌≡◌, ℕ, zero, suc, ◌≤◌, Bool, true, false, cond, List, [], ◌∷◌, ◌++◌, length, map, Option, Some, None, refl, sym, subst, ap, ◌∙◌, arith, append-nil, append_assoc}
use Rattle.std.specs.Prelude.{slice_get}
use Rattle.std.proofs.lemmas.Option.{slice_get_within}
use Rattle.units_well_formed.specs.type_layout.declared.definitions.TypeId.{TypeId}
use Rattle.units_well_formed.specs.type_layout.declared.definitions.Origin.{Origin}
use Rattle.units_well_formed.specs.type_layout.declared.definitions.Method.{Method}
use Rattle.units_well_formed.specs.type_layout.declared.definitions.TypeDef.{TypeDef}
use Rattle.units_well_formed.specs.type_layout.declared.definitions.TypeDef.TheVariants as type
use Rattle.units_well_formed.specs.type_layout.Table.{Table, place_of, with_unit, with_type}
use Rattle.units_well_formed.proofs.type_layout_proofs.Local.{slice_get-append}
use Rattle.units_well_formed.specs.unit_interface.Merge.{key_of, renumbered_method, renumbered, with_listed, is_new, merged}
use Rattle.units_well_formed.specs.call_rules.method_rules.Slots.{methods_of}
use Rattle.units_well_formed.proofs.tables_closed_proofs.constants.Below.{at_push}
use Rattle.units_well_formed.proofs.units.Below.{placed}

pub get_front : {A : Type 0} → (xs ys : List A) (k : ℕ) (x : A) → slice_get xs k ≡ Some x → slice_get (xs ++ ys) k ≡ Some x
get_front xs ys k x e = slice_get-append xs ys k (slice_get_within xs k x e) ∙ e

-- ---- methods

nothing_at : {A : Type 0} → (k : ℕ) (x : A) → slice_get [] k ≡ Some x → ⊥
nothing_at zero x e = let bad : ⊥ = cc in bad
nothing_at (suc k) x e = let bad : ⊥ = cc in bad

pub none_beyond : (types : List TypeDef) (k place : ℕ) (method : Method) → length types ≤ k → slice_get (methods_of (slice_get types k)) place ≡ Some method → ⊥
none_beyond [] zero place method high m = nothing_at place method m
none_beyond [] (suc k) place method high m = nothing_at place method m
none_beyond (one ∷ types) zero place method high m = omega (arith, high)
none_beyond (one ∷ types) (suc k) place method high m = none_beyond types k place method (omega (arith, high)) m

moved_at : (ids : List TypeId) (unit : ℕ) (methods : List Method) (place : ℕ) (method : Method) → slice_get (map (renumbered_method ids unit) methods) place ≡ Some method → method.routine.unit ≡ unit
moved_at ids unit [] place method e = absurd (nothing_at place method e)
moved_at ids unit (one ∷ rest) zero method e =
    let same : renumbered_method ids unit one ≡ method = cc in
    sym (ap (λ (m : Method). m.routine.unit) same)
moved_at ids unit (one ∷ rest) (suc place) method e = moved_at ids unit rest place method e

-- the routines of a type that comes from another table are of the unit that declares it
moved_unit : (ids : List TypeId) (unit : ℕ) (one : TypeDef) (place : ℕ) (method : Method) → slice_get (methods_of (Some (renumbered ids unit one))) place ≡ Some method → method.routine.unit ≡ unit
moved_unit ids unit (type.ObjectOf parent dynamic fields methods) place method e = moved_at ids unit methods place method e
moved_unit ids unit (type.Ordinal host low high) place method e = absurd (nothing_at place method e)
moved_unit ids unit (type.Str max) place method e = absurd (nothing_at place method e)
moved_unit ids unit (type.SetOf base) place method e = absurd (nothing_at place method e)
moved_unit ids unit (type.ArrayOf index element) place method e = absurd (nothing_at place method e)
moved_unit ids unit (type.RecordOf fields) place method e = absurd (nothing_at place method e)
moved_unit ids unit (type.PointerTo target) place method e = absurd (nothing_at place method e)
moved_unit ids unit (type.Procedural header) place method e = absurd (nothing_at place method e)

-- ---- the table

module _ (name : List ℕ) (table : Table) where
  -- a unit of a table that isn't the one which is read
  pub record IsOther (units : List (List ℕ)) (place : ℕ) : Type 0 where
    pub unit : List ℕ
    pub there : slice_get units place ≡ Some unit
    pub other : unit ≡ name → ⊥

  -- of a new type, where it is one
  abbrev IsForeignAt : List (List ℕ) → ℕ → Option TypeDef → Type 0
  IsForeignAt units class one = length table.types ≤ class → (place : ℕ) (method : Method) → slice_get (methods_of one) place ≡ Some method → IsOther units method.routine.unit

  pub record IsGrownTo (t : Table) : Type 0 where
    pub types : (back : List TypeDef) × (t.types ≡ table.types ++ back)
    pub units : (back : List (List ℕ)) × (t.units ≡ table.units ++ back)
    pub methods : (class : ℕ) → IsForeignAt t.units class (slice_get t.types class)

  itself : IsGrownTo table
  itself = record {
    types = ([], sym (append-nil table.types));
    units = ([], sym (append-nil table.units));
    methods = λ class high place method m. absurd (none_beyond table.types class place method high m);
  }

  stays_other : (units more : List (List ℕ)) (place : ℕ) → IsOther units place → IsOther (units ++ more) place
  stays_other units more place h = record { unit = h.unit; there = get_front units more place h.unit h.there; other = h.other }

  with_one : (t : Table) (ids : List TypeId) (unit : List ℕ) (number : ℕ) (one : TypeDef) → (unit ≡ name → ⊥) → IsGrownTo t → IsGrownTo (with_type t unit number (renumbered ids (place_of t.units unit) one))
  with_one t ids unit number one other h =
      let types = h.types in
      let units = h.units in
      let it = placed t.units unit in
      let new = renumbered ids (place_of t.units unit) one in
      let grown : with_unit t.units unit ≡ t.units ++ it.more = it.grows in
      let old : (class : ℕ) → IsForeignAt (with_unit t.units unit) class (slice_get t.types class) =
      λ class high place method m. subst (λ (us : List (List ℕ)). IsOther us method.routine.unit) (sym grown) (stays_other t.units it.more method.routine.unit (h.methods class high place method m)) in
      let last : IsForeignAt (with_unit t.units unit) (length t.types) (Some new) =
      λ high place method m.
      let here : IsOther (with_unit t.units unit) (place_of t.units unit) = record { unit = unit; there = it.there; other = other } in
      subst (λ (k : ℕ). IsOther (with_unit t.units unit) k) (sym (moved_unit ids (place_of t.units unit) one place method m)) here in
      let none : (class : ℕ) → IsForeignAt (with_unit t.units unit) class None = λ class high place method m. absurd (nothing_at place method m) in
      record {
        types = (types.0 ++ new ∷ [], ap (λ (l : List TypeDef). l ++ new ∷ []) types.1 ∙ append_assoc table.types types.0 (new ∷ []));
        units = (units.0 ++ it.more, grown ∙ ap (λ (l : List (List ℕ)). l ++ it.more) units.1 ∙ append_assoc table.units units.0 it.more);
        methods = at_push (λ class d. IsForeignAt (with_unit t.units unit) class d) t.types new old last none;
      }

  listed : (t : Table) (ids : List TypeId) (units : List (List ℕ)) (one : Option TypeDef) (origin : Option Origin) → ((own : Origin) → origin ≡ Some own → (key_of units own).unit ≡ name → ⊥) → IsGrownTo t
      → IsGrownTo (with_listed ids t units one origin)
  listed t ids units (Some one) (Some origin) other h = with_one t ids (key_of units origin).unit (key_of units origin).number one (other origin refl) h
  listed t ids units (Some one) None other h = h
  listed t ids units None origin other h = h

  by_new : (t u : Table) (b : Bool) → (b ≡ true → IsGrownTo u) → IsGrownTo t → IsGrownTo (cond b u t)
  by_new t u true h k = h refl
  by_new t u false h k = k

  module _ (other : Table) (ids : List TypeId) (foreign : (number : ℕ) (origin : Origin) → slice_get other.origins number ≡ Some origin → is_new ids (merged other ids table number) number ≡ true
      → (key_of other.units origin).unit ≡ name → ⊥) where
    pub grown_to : (number : ℕ) → IsGrownTo (merged other ids table number)
    grown_to zero = itself
    grown_to (suc number) =
        let before = merged other ids table number in
        by_new before (with_listed ids before other.units (slice_get other.types number) (slice_get other.origins number)) (is_new ids before number)
        (λ new. listed before ids other.units (slice_get other.types number) (slice_get other.origins number) (λ origin is. foreign number origin is new) (grown_to number)) (grown_to number)
