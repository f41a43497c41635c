-- Which units the types of an interface are of: SYSTEM, its own, and those to which uses in interface parts lead from it.
use Rattle.std.proofs.Common.{◌≡◌, ◌⊎◌, ℕ, zero, suc, Bool, true, false, cond, List, [], ◌∷◌, ◌++◌, length, take, Option, Some, None, refl, sym, ap, ◌∙◌, subst, arith, inl, inr, nat_eq}
use Rattle.std.specs.Prelude.{slice_get, is_some}
use Rattle.std.specs.List.{list_any}
use Rattle.interface_soundness.specs.type_layout.Table.{Table}
use Rattle.interface_soundness.specs.source_graph.declared.sources.Source.{Source}
use Rattle.interface_soundness.specs.source_graph.Whole.{AreNew}
use Rattle.interface_soundness.specs.scopes.Environment.{Environment}
use Rattle.interface_soundness.specs.scopes.Predeclared.{system, type_table, first}
use Rattle.interface_soundness.specs.unit_interface.declared.keys.Key.{Key}
use Rattle.interface_soundness.specs.unit_interface.declared.interfaces.Interface.{Interface}
use Rattle.interface_soundness.specs.unit_interface.Merge.{keys_of, with_types}
use Rattle.interface_soundness.specs.unit_interface.Keyed.{IsKeyed}
use Rattle.interface_soundness.specs.unit_interface.Circles.{next, LeadsWithin}
use Rattle.interface_soundness.specs.unit_interface.Uses.{place_of, listed, places_of, interface_edges}
use Rattle.interface_soundness.specs.unit_interface.Resolve.{is_overlay, interface_named, with_overlay, with_found, with_use, with_uses}
use Rattle.interface_soundness.proofs.unit_interface_proofs.KeyLaws.{merged_so, is_keyed}
use Rattle.interface_soundness.specs.source_graph.source_order.Orders.{names_of, all_uses}
use Rattle.interface_soundness.specs.front_end.source_interfaces.Scopes.{outer_units, outer_scope}
use Rattle.interface_soundness.specs.front_end.source_interfaces.Interfaces.{IsShownIn, AreShown, IsAcyclic}
use Rattle.interface_soundness.proofs.front_end_proofs.source_interfaces.Uses.{some_is}
use Rattle.interface_soundness.proofs.front_end_proofs.source_interfaces.Rounds.{in_left, in_right, is_listed, edge_at}
use Rattle.interface_soundness.proofs.imported_types_agree_proofs.consistent_types.Keys.{At, after_from, in_first}
use Rattle.interface_soundness.proofs.programs.Sources.{first_alone, named_by}
use Rattle.interface_soundness.proofs.programs.Depth.{IsOf, IsUse, AreUses, had, all_inherited}

-- ---- the keys of a scope

-- each key of a table has a property
abbrev pub AreAll : (Key → Type 0) → Table → Type 0
AreAll P table = (place : ℕ) (key : Key) → slice_get (keys_of table) place ≡ Some key → P key

module _ (P : Key → Type 0) where
  types_all : (table other : Table) → IsKeyed table → AreAll P table → AreAll P other → AreAll P (with_types table other)
  types_all table other keyed h k place key at =
      let so = merged_so table other keyed (length other.types) (omega arith) in
      elim (after_from (keys_of table) (take (length other.types) (keys_of other)) place key (ap (λ (ks : List Key). slice_get ks place) (sym so.keys) ∙ at)) [
        | inl before ↦ h place key before
        | inr more ↦ (let f = in_first (keys_of other) (length other.types) more.place key more.at in k more.place key f.at)
      ]

  -- with the types of used units, where theirs have it
  abbrev IsSuch : List Interface → List ℕ → Type 0
  IsSuch have name = is_overlay name ≡ false → (i : Interface) → interface_named have name ≡ Some i → AreAll P i.types

  abbrev AreSuch : List Interface → List (List ℕ) → Type 0
  AreSuch have [] = Unit {0}
  AreSuch have (name ∷ names) = IsSuch have name × AreSuch have names

  record IsSo (table : Table) : Type 0 where
    keyed : IsKeyed table
    all : AreAll P table

  found_all : (g : Environment) (found : Option Interface) → IsSo g.types → ((i : Interface) → found ≡ Some i → AreAll P i.types) → IsSo (with_found g found).types
  found_all g None h such = h
  found_all g (Some i) h such = record {
    keyed = (merged_so g.types i.types h.keyed (length i.types.types) (omega arith)).keyed;
    all = types_all g.types i.types h.keyed h.all (such i refl);
  }

  use_all : (have : List Interface) (g : Environment) (name : List ℕ) → IsSo g.types → IsSuch have name → IsSo (with_use have g name).types
  use_all have g name h such = by (is_overlay name) refl
    where
      by : (b : Bool) → is_overlay name ≡ b → IsSo (cond b (with_overlay g) (with_found g (interface_named have name))).types
      by true is = h
      by false is = found_all g (interface_named have name) h (such is)

  uses_all : (have : List Interface) (g : Environment) (names : List (List ℕ)) → IsSo g.types → AreSuch have names → IsSo (with_uses have g names).types
  uses_all have g [] h such = h
  uses_all have g (name ∷ names) h such = uses_all have (with_use have g name) names (use_all have g name h such.0) such.1

  pub scope_all : (have : List Interface) (name : List ℕ) (names : List (List ℕ)) → AreAll P type_table → AreSuch have names → AreAll P (with_uses have (first name) names).types
  scope_all have name names h such = (uses_all have (first name) names (record { keyed = is_keyed have name []; all = h }) such).all

-- the predeclared types are SYSTEM's
abbrev AreOf : List ℕ → List Key → Type 0
AreOf unit [] = Unit {0}
AreOf unit (key ∷ keys) = (key.unit ≡ unit) × AreOf unit keys

of_at : (unit : List ℕ) (keys : List Key) (place : ℕ) (key : Key) → AreOf unit keys → slice_get keys place ≡ Some key → key.unit ≡ unit
of_at unit [] place key all at = cc
of_at unit (one ∷ keys) zero key all at = ap (λ (k : Key). k.unit) (sym (some_is one key at)) ∙ all.0
of_at unit (one ∷ keys) (suc place) key all at = of_at unit keys place key all.1 at

pub predeclared_of : (place : ℕ) (key : Key) → slice_get (keys_of type_table) place ≡ Some key → key.unit ≡ system
predeclared_of place key at =
    of_at system (keys_of type_table) place key (refl, (refl, (refl, (refl, (refl, (refl, (refl, (refl, (refl, (refl, (refl, tt))))))))))) at

-- ---- walks over uses

-- a source has one place
one_place : (met : List (List ℕ)) (sources : List Source) → AreNew met sources → (p q : ℕ) (s t : Source) → slice_get sources p ≡ Some s → slice_get sources q ≡ Some t → s.name ≡ t.name → p ≡ q
one_place met [] new p q s t a b named = absurd (cc)
one_place met (one ∷ rest) new zero zero s t a b named = refl
one_place met (one ∷ rest) new zero (suc q) s t a b named = absurd (first_alone met one rest new.1 q t b (sym named ∙ ap (λ (x : Source). x.name) (sym (some_is one s a))))
one_place met (one ∷ rest) new (suc p) zero s t a b named = absurd (first_alone met one rest new.1 p s a (named ∙ ap (λ (x : Source). x.name) (sym (some_is one t b))))
one_place met (one ∷ rest) new (suc p) (suc q) s t a b named = ap suc (one_place (met ++ one.name ∷ []) rest new.1 p q s t a b named)

record IsLeading (edges : List (List ℕ)) (from to : ℕ) : Type 0 where
  steps : ℕ
  leads : LeadsWithin edges steps from to

abbrev Comes : List (List ℕ) → ℕ → ℕ → Type 0
Comes edges from to = (from ≡ to) ⊎ IsLeading edges from to

one_more : (edges : List (List ℕ)) (from by to : ℕ) → list_any (nat_eq by) (next edges from) ≡ true → Comes edges by to → IsLeading edges from to
one_more edges from by to used (inl same) = record { steps = suc zero; leads = (by, used, inl same) }
one_more edges from by to used (inr l) = record { steps = suc l.steps; leads = (by, used, inr l.leads) }

module _ (sources : List Source) (new : AreNew [] sources) (have : List Interface) (shown : AreShown sources have)
    (comes : (s : Source) (i : Interface) → IsOf have s i → (number : ℕ) (key : Key) → slice_get (keys_of i.types) number ≡ Some key → At (keys_of (outer_scope have s).types) key ⊎ (key.unit ≡ s.name)) where
  abbrev edges : List (List ℕ)
  edges = interface_edges (all_uses sources)

  found_name : (name : List ℕ) (i : Interface) → interface_named have name ≡ Some i → name ≡ i.name
  found_name name i found =
      let n = named_by (IsShownIn sources have) have name shown (ap (λ (o : Option Interface). is_some o) found) in
      n.named ∙ ap (λ (x : Interface). x.name) (some_is n.interface i (sym n.found ∙ found))

  -- from the source of each interface that tells a type of a unit, uses lead to that unit, or it is its own
  abbrev Q : List ℕ → ℕ → Interface → Type 0
  Q unit to i = (number : ℕ) (key : Key) → slice_get (keys_of i.types) number ≡ Some key → key.unit ≡ unit → (place : ℕ) (s : Source) → slice_get sources place ≡ Some s → i.name ≡ s.name → Comes edges place to

  module _ (unit : List ℕ) (to : ℕ) (t : Source) (stands : slice_get sources to ≡ Some t) (named : t.name ≡ unit) (declared : unit ≡ system → ⊥) where
    -- from a source whose scope has such a type
    abbrev P : ℕ → Key → Type 0
    P place key = key.unit ≡ unit → IsLeading edges place to

    use_leads : (place : ℕ) (name : List ℕ) → ((q : ℕ) → list_any (nat_eq q) (listed (place_of (all_uses sources) name)) ≡ true → list_any (nat_eq q) (next edges place) ≡ true)
        → IsUse (Q unit to) have name → IsSuch (P place) have name
    use_leads place name used one other i found number key at is =
        let h = had sources new have shown name i found in
        let q : Comes edges h.place to = one other i found number key at is h.place h.source h.stands (sym (found_name name i found) ∙ h.named) in
        one_more edges place h.place to (used h.place (is_listed (place_of (all_uses sources) name) h.place h.found)) q

    uses_lead : (place : ℕ) (names : List (List ℕ)) → ((q : ℕ) → list_any (nat_eq q) (places_of (all_uses sources) names) ≡ true → list_any (nat_eq q) (next edges place) ≡ true)
        → AreUses (Q unit to) have names → AreSuch (P place) have names
    uses_lead place [] used uses = tt
    uses_lead place (name ∷ names) used uses = (
      use_leads place name (λ q is. used q (in_left q (listed (place_of (all_uses sources) name)) (places_of (all_uses sources) names) is)) uses.0,
      uses_lead place names (λ q is. used q (in_right q (listed (place_of (all_uses sources) name)) (places_of (all_uses sources) names) is)) uses.1,
    )

    outer_leads : (place : ℕ) (s : Source) → slice_get sources place ≡ Some s → AreUses (Q unit to) have (names_of (outer_units s)) → AreSuch (P place) have (names_of (outer_units s))
    outer_leads place s at uses =
        let edge = edge_at (all_uses sources) sources place s at in
        uses_lead place (names_of (outer_units s)) (λ q is. subst (λ (places : List ℕ). list_any (nat_eq q) places ≡ true) (sym edge) is) uses

    scope_leads : (place : ℕ) (s : Source) → slice_get sources place ≡ Some s → AreUses (Q unit to) have (names_of (outer_units s)) → AreAll (P place) (outer_scope have s).types
    scope_leads place s at uses =
        scope_all (P place) have s.name (names_of (outer_units s)) (λ number key is own. absurd (declared (sym own ∙ predeclared_of number key is))) (outer_leads place s at uses)

    inherits : (place : ℕ) (s : Source) (i : Interface) → slice_get sources place ≡ Some s → interface_named have s.name ≡ Some i → AreUses (Q unit to) have (names_of (outer_units s)) → IsOf have s i → Q unit to i
    inherits place s i at found uses of number key there is p other stands_other called =
        let here : p ≡ place = one_place [] sources new p place other s stands_other at (sym called ∙ sym (found_name s.name i found)) in
        elim (comes s i of number key there) [
          | inl outer ↦ subst (λ (n : ℕ). Comes edges n to) (sym here) (inr (scope_leads place s at uses outer.place key outer.at is))
          | inr self ↦ inl (here ∙ one_place [] sources new place to s t at stands (sym self ∙ is ∙ sym named))
        ]

    module _ (acyclic : IsAcyclic sources) where
      none : (key : Key) → P to key → key.unit ≡ unit → ⊥
      none key leads is =
          let l = leads is in
          acyclic to (record { steps = l.steps; leads = l.leads })

      -- so no type of the scope that the source begins with is its own
      pub outer_foreign : (number : ℕ) (key : Key) → slice_get (keys_of (outer_scope have t).types) number ≡ Some key → key.unit ≡ unit → ⊥
      outer_foreign number key at is =
          none key (scope_leads to t stands (all_inherited sources new have shown (Q unit to) inherits acyclic (names_of (outer_units t))) number key at) is

      -- nor of the units that its interface part uses
      abbrev pub IsForeignUse : List ℕ → Type 0
      IsForeignUse name = is_overlay name ≡ false → (i : Interface) → interface_named have name ≡ Some i → (number : ℕ) (key : Key) → slice_get (keys_of i.types) number ≡ Some key → key.unit ≡ unit → ⊥

      abbrev pub AreForeignUses : List (List ℕ) → Type 0
      AreForeignUses [] = Unit {0}
      AreForeignUses (name ∷ names) = IsForeignUse name × AreForeignUses names

      each_foreign : (names : List (List ℕ)) → AreSuch (P to) have names → AreForeignUses names
      each_foreign [] such = tt
      each_foreign (name ∷ names) such = (λ other i found number key at is. none key (such.0 other i found number key at) is, each_foreign names such.1)

      pub uses_foreign : AreForeignUses (names_of (outer_units t))
      uses_foreign =
          each_foreign (names_of (outer_units t)) (outer_leads to t stands (all_inherited sources new have shown (Q unit to) inherits acyclic (names_of (outer_units t))))
