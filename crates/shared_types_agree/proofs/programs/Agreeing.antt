-- Units whose tables are told agree on all types.
use Rattle.std.proofs.Common.{◌≡◌, ◌∙◌, ◌⊎◌, inl, inr, ℕ, ◌<◌, Bool, true, false, List, length, Some, refl, arith, sym, ap, subst}
use Rattle.std.specs.Prelude.{slice_get}
use Rattle.std.specs.Cmp.Lexicographic.{same_text}
use Rattle.std.proofs.lemmas.Option.{same_Some, slice_get_within}
use Rattle.unit_references.specs.type_layout.declared.definitions.TypeId.{TypeId}
use Rattle.unit_references.specs.type_layout.declared.definitions.TypeDef.{TypeDef}
use Rattle.unit_references.specs.type_layout.Words.{same_bytes}
use Rattle.unit_references.specs.type_layout.Table.{Table, HasMethodsOf}
use Rattle.unit_references.specs.typed_tree.declared.units.Unit.{Unit as TypedUnit}
use Rattle.unit_references.specs.typed_tree.declared.units.Program.{Program}
use Rattle.unit_references.specs.tp_meaning.Programs.{Sort, unit_named}
use Rattle.unit_references.specs.store_typing.types.Declared as d
use Rattle.unit_references.specs.store_typing.types.Declared.{declared}
use Rattle.unit_references.specs.store_typing.types.Agreement.{IsUnit, IsKnown, AreConsistent}
use Rattle.units_well_formed.specs.unit_interface.declared.keys.Key.{Key}
use Rattle.units_well_formed.specs.unit_interface.declared.interfaces.Interface.{Interface}
use Rattle.units_well_formed.specs.unit_interface.Merge.{keys_of, place_of_key, new_id, renumbered}
use Rattle.units_well_formed.specs.unit_interface.Exports.{in_type}
use Rattle.units_well_formed.specs.unit_interface.Keyed.{IsKeyed}
use Rattle.units_well_formed.proofs.unit_interface_proofs.KeyLaws.{same_itself}
use Rattle.units_well_formed.specs.tables_closed.constants.Bounds.{AreBelow}
use Rattle.units_well_formed.specs.imported_types_agree.consistent_types.Consistency.{home_of, between, IsAlike, IsWellScopedTable, AreWellScopedHomes, Stands}
use Rattle.units_well_formed.proofs.imported_types_agree_proofs.consistent_types.Twice.{AllOf}
use Rattle.units_well_formed.proofs.imported_types_agree_proofs.consistent_types.Keys.{at_place}
use Rattle.units_well_formed.proofs.imported_types_agree_proofs.consistent_types.Named.{all_below, all_three, Low, low_type}
use Rattle.units_well_formed.proofs.imported_types_agree_proofs.consistent_types.Known.{keys_long, key_there, own_named, between_at, IsFirst, first_of}
use Rattle.shared_types_agree.specs.programs.Consistency.{IsOwned, IsConsistentIn}
use Rattle.shared_types_agree.proofs.programs.Alike.{type_alike, itself, moved}
use Rattle.shared_types_agree.proofs.programs.Keys.{class_of, same_key, declared_at}

-- ---- two tables, and the home of a type

-- a number of the home that has a type in a table
abbrev IsIn : Table → Table → ℕ → Type 0
IsIn home table x = Low (length table.types) (between home table) x

-- which is what stands there
lands : (home table : Table) (keyed : IsKeyed table) (closed : IsWellScopedTable table) (ty : TypeId) (key : Key) → slice_get (keys_of home) ty.0 ≡ Some key → IsIn home table ty.0
    → declared table (new_id (between home table) ty) ≡ Some (class_of key)
lands home table keyed closed ty key at low =
    let new : TypeId = new_id (between home table) ty in
    let is : new.0 ≡ place_of_key (keys_of table) key = between_at home table ty.0 key ty at in
    let long = keys_long table closed.paired in
    declared_at table keyed new.0 key
    (subst (λ (n : ℕ). slice_get (keys_of table) n ≡ Some key) (sym is) (at_place (keys_of table) key (omega (arith, is, low, long))))

-- a type of a table as it is at home, and its methods of the unit that declares it
record IsPlaced (home table : Table) (unit : List ℕ) (first one : TypeDef) : Type 0 where
  place : ℕ
  named : slice_get table.units place ≡ Some unit
  is : one ≡ renumbered (between home table) place first
  low : AllOf (IsIn home table) (in_type first)

placed : (home table : Table) (closed : IsWellScopedTable table) (unit : List ℕ) (number : ℕ) (first one : TypeDef) → slice_get table.types number ≡ Some one → IsAlike home table first one → IsOwned table unit one
    → IsPlaced home table unit first one
placed home table closed unit number first one stands alike owned =
    let ids = between home table in
    let methods : HasMethodsOf owned.place (renumbered ids alike.unit first) = subst (λ (t : TypeDef). HasMethodsOf owned.place t) alike.is owned.methods in
    record {
      place = owned.place;
      named = owned.named;
      is = alike.is ∙ moved ids alike.unit owned.place first methods;
      low = low_type (length table.types) ids alike.unit first (subst (λ (t : TypeDef). AreBelow (length table.types) (in_type t)) alike.is (own_named table number one closed stands));
    }

module _ (home a b : Table) (at_home : IsWellScopedTable home) (ka : IsKeyed a) (kb : IsKeyed b) (ca : IsWellScopedTable a) (cb : IsWellScopedTable b) where
  abbrev InBoth : ℕ → Type 0
  InBoth x = (x < length home.types) × IsIn home a x × IsIn home b x

  meet : (ty : TypeId) → InBoth ty.0 → declared a (new_id (between home a) ty) ≡ declared b (new_id (between home b) ty)
  meet ty both =
      let k = key_there home ty.0 (omega (arith, both.0, keys_long home at_home.paired)) in
      lands home a ka ca ty k.0 k.1 both.1 ∙ sym (lands home b kb cb ty k.0 k.1 both.2)

  -- what is as at home in both tables is alike in them
  tables_agree : (unit : List ℕ) (place : ℕ) (first one other : TypeDef) → slice_get home.types place ≡ Some first → IsPlaced home a unit first one → IsPlaced home b unit first other → d.AreAlike a one b other
  tables_agree unit place first one other stands p q =
      let parts : AllOf InBoth (in_type first) =
      all_three (λ x. x < length home.types) (IsIn home a) (IsIn home b) (in_type first) (all_below (length home.types) (in_type first) (own_named home place first at_home stands)) p.low q.low in
      let alike = type_alike a b (between home a) (between home b) InBoth meet p.place q.place (p.named ∙ sym q.named) first parts in
      subst (λ (t : TypeDef). d.AreAlike a t b other) (sym p.is) (subst (λ (t : TypeDef). d.AreAlike a (renumbered (between home a) p.place first) b t) (sym q.is) alike)

-- ---- the units of a program

-- a name is another's, or not
pub name_is : (one other : List ℕ) → (one ≡ other) ⊎ (one ≡ other → ⊥)
name_is one other = by (same_bytes one other) refl
  where
    by : (b : Bool) → same_bytes one other ≡ b → (one ≡ other) ⊎ (one ≡ other → ⊥)
    by true e = inl (same_text one other (sym e))
    by false e = inr (λ same. differs (same_bytes one other) e (ap (same_bytes one) (sym same) ∙ same_itself one))
      where
        differs : (b : Bool) → b ≡ false → b ≡ true → ⊥
        differs b is not = cc

module _ (have : List Interface) (homes : AreWellScopedHomes have) where
  -- a type of a unit's table is as at home, where it is at home
  alike_there : (unit : TypedUnit) → IsConsistentIn have unit → (number : ℕ) (key : Key) (one : TypeDef) → slice_get (keys_of unit.types) number ≡ Some key → slice_get unit.types.types number ≡ Some one
      → (home : Table) → home_of have key.unit ≡ Some home → (f : IsFirst home key) → IsAlike home unit.types f.first one
  alike_there unit t number key one at stands home is f =
      elim (name_is key.unit unit.name) [
        | inl mine ↦ t.own home (ap (home_of have) (sym mine) ∙ is) number f.place key home f.first one at stands is f.at f.stands
        | inr other ↦ t.told.alike number f.place key home f.first one other at stands is f.at f.stands
      ]

  module _ (u v : TypedUnit) (tu : IsConsistentIn have u) (tv : IsConsistentIn have v) (x y : ℕ) (key : Key) (one other : TypeDef) (at : slice_get (keys_of u.types) x ≡ Some key) (there : slice_get (keys_of v.types) y ≡ Some key)
      (stands : slice_get u.types.types x ≡ Some one) (found : slice_get v.types.types y ≡ Some other) where
    by_home : (home : Table) → home_of have key.unit ≡ Some home → Stands (keys_of home) key → d.AreAlike u.types one v.types other
    by_home home is s =
        let closed = homes key.unit home is in
        let f = first_of home key closed s in
        tables_agree home u.types v.types closed tu.told.keyed tv.told.keyed tu.closed tv.closed key.unit f.place f.first one other f.stands
        (placed home u.types tu.closed key.unit x f.first one stands (alike_there u tu x key one at stands home is f) (tu.owned x key one at stands))
        (placed home v.types tv.closed key.unit y f.first other found (alike_there v tv y key other there found home is f) (tv.owned y key other there found))

    -- a type of its own that a unit keeps for itself is in no other unit's table
    units_agree : (key.unit ≡ u.name → key.unit ≡ v.name → u ≡ v) → d.AreAlike u.types one v.types other
    units_agree alone =
        elim (name_is key.unit u.name) [
          | inr far ↦ (let h = tu.told.at_home x key far at in by_home h.home h.is h.stands)
          | inl near ↦ elim (name_is key.unit v.name) [
            | inr far ↦ (let h = tv.told.at_home y key far there in by_home h.home h.is h.stands)
            | inl both ↦
                let same : v ≡ u = sym (alone near both) in
                let spot : y ≡ x = tu.told.keyed.apart y x key (subst (λ (w : TypedUnit). slice_get (keys_of w.types) y ≡ Some key) same there) at in
                let is : other ≡ one =
                same_Some other one (sym (subst (λ (w : TypedUnit). slice_get w.types.types y ≡ Some other) same found) ∙ ap (slice_get u.types.types) spot ∙ stands) in
                subst (λ (w : TypedUnit). d.AreAlike u.types one w.types other) (sym same) (subst (λ (t : TypeDef). d.AreAlike u.types one u.types t) (sym is) (itself u.types one))
          ]
        ]

  module _ (program : Program) (each : (unit : TypedUnit) → IsUnit program unit → IsConsistentIn have unit) where
    same_unit : (u v : TypedUnit) → IsUnit program u → IsUnit program v → (name : List ℕ) → name ≡ u.name → name ≡ v.name → u ≡ v
    same_unit u v listed also name near both = same_Some u v (sym listed ∙ ap (unit_named program) (sym near ∙ both) ∙ also)

    sorts_agree : (a b : Sort) (one other : TypeDef) (p : IsKnown program a) (q : IsKnown program b) → slice_get p.unit.types.types a.ty.0 ≡ Some one → slice_get q.unit.types.types b.ty.0 ≡ Some other
        → declared p.unit.types a.ty ≡ declared q.unit.types b.ty → d.AreAlike p.unit.types one q.unit.types other
    sorts_agree a b one other p q stands found same =
        let tu = each p.unit p.listed in
        let tv = each q.unit q.listed in
        let k = key_there p.unit.types a.ty.0 (omega (arith, slice_get_within p.unit.types.types a.ty.0 one stands, keys_long p.unit.types tu.closed.paired)) in
        let l = key_there q.unit.types b.ty.0 (omega (arith, slice_get_within q.unit.types.types b.ty.0 other found, keys_long q.unit.types tv.closed.paired)) in
        let is : class_of l.0 ≡ class_of k.0 =
        same_Some (class_of l.0) (class_of k.0) (sym (declared_at q.unit.types tv.told.keyed b.ty.0 l.0 l.1) ∙ sym same ∙ declared_at p.unit.types tu.told.keyed a.ty.0 k.0 k.1) in
        let there : slice_get (keys_of q.unit.types) b.ty.0 ≡ Some k.0 = subst (λ (key : Key). slice_get (keys_of q.unit.types) b.ty.0 ≡ Some key) (same_key l.0 k.0 is) l.1 in
        units_agree p.unit q.unit tu tv a.ty.0 b.ty.0 k.0 one other k.1 there stands found (same_unit p.unit q.unit p.listed q.listed k.0.unit)

    pub program_agrees : AreConsistent program
    program_agrees = record {
      lawful = λ unit listed. (each unit listed).lawful;
      alike = λ a b one other p q stands found same.
          subst (λ (t : Table). d.AreAlike t one b.table other) (sym p.table)
          (subst (λ (t : Table). d.AreAlike p.unit.types one t other) (sym q.table)
          (sorts_agree a b one other p q (subst (λ (t : Table). slice_get t.types a.ty.0 ≡ Some one) p.table stands) (subst (λ (t : Table). slice_get t.types b.ty.0 ≡ Some other) q.table found)
          (subst (λ (t : Table). declared t a.ty ≡ declared q.unit.types b.ty) p.table (subst (λ (t : Table). declared a.table a.ty ≡ declared t b.ty) q.table same))));
    }
