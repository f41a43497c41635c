-- What interfaces inherit from those that they are made over, all interfaces of the sources have.
use Rattle.std.proofs.Common.{◌≡◌, ◌⊎◌, ℕ, zero, suc, ◌<◌, true, false, List, [], ◌∷◌, length, Option, Some, None, refl, sym, ap, ◌∙◌, subst, arith, inl, inr, nat_eq}
use Rattle.std.specs.Prelude.{slice_get, is_some}
use Rattle.std.specs.List.{list_any}
use Rattle.std.proofs.lemmas.Option.{slice_get_within}
use Rattle.front_end.specs.source_graph.declared.sources.Source.{Source}
use Rattle.front_end.specs.source_graph.Whole.{AreNew}
use Rattle.front_end.specs.scopes.Predeclared.{first}
use Rattle.front_end.specs.unit_interface.declared.interfaces.Interface.{Interface}
use Rattle.front_end.specs.unit_interface.Uses.{place_of, listed, places_of, interface_edges}
use Rattle.front_end.specs.unit_interface.Resolve.{is_overlay, interface_named}
use Rattle.front_end.specs.unit_interface.Fitting.{uses_fit}
use Rattle.front_end.specs.source_graph.source_order.Orders.{names_of, all_uses}
use Rattle.front_end.specs.tp_check_decl.Shown.{IsShownAs}
use Rattle.front_end.specs.source_interfaces.Scopes.{outer_units, outer_scope}
use Rattle.front_end.specs.source_interfaces.Interfaces.{IsShownIn, AreShown, IsAcyclic, IsDeep}
use Rattle.front_end.proofs.source_interfaces.Uses.{some_is}
use Rattle.front_end.proofs.source_interfaces.Deep.{too_deep}
use Rattle.front_end.proofs.source_interfaces.Rounds.{placed, in_left, in_right, is_listed, edge_at, edges_count}
use Rattle.interface_soundness.proofs.programs.Sources.{one_source, stands, is_source_at, same_name, named_by}

-- an interface is that of a source, over interfaces that fit
pub record IsOf (have : List Interface) (s : Source) (i : Interface) : Type 0 where
  pub fits : uses_fit have (first s.name) (names_of (outer_units s)) ≡ true
  pub shows : IsShownAs s.name s.says (outer_scope have s) s.tree i

pub of_shown : (sources : List Source) (have : List Interface) (i : Interface) (h : IsShownIn sources have i) → IsOf have h.source i
of_shown sources have i h = record { fits = h.fits; shows = h.shows }

-- each interface that these names mean has a property
abbrev pub IsUse : (Interface → Type 0) → List Interface → List ℕ → Type 0
IsUse Q have name = is_overlay name ≡ false → (i : Interface) → interface_named have name ≡ Some i → Q i

abbrev pub AreUses : (Interface → Type 0) → List Interface → List (List ℕ) → Type 0
AreUses Q have [] = Unit {0}
AreUses Q have (name ∷ names) = IsUse Q have name × AreUses Q have names

-- what a source shows has it where what its interface part uses has
abbrev pub Inherits : (Interface → Type 0) → List Source → List Interface → Type 0
Inherits Q sources have = (place : ℕ) (s : Source) (i : Interface) → slice_get sources place ≡ Some s → interface_named have s.name ≡ Some i → AreUses Q have (names_of (outer_units s)) → IsOf have s i → Q i

module _ (sources : List Source) (new : AreNew [] sources) (have : List Interface) (shown : AreShown sources have) where
  abbrev edges : List (List ℕ)
  edges = interface_edges (all_uses sources)

  -- a unit lies so deep: so many uses stand behind one another from there on
  record IsDeepUse (name : List ℕ) (steps : ℕ) : Type 0 where
    pub to : ℕ
    pub used : list_any (nat_eq to) (listed (place_of (all_uses sources) name)) ≡ true
    pub below : to < length edges
    pub deep : IsDeep edges steps to

  -- one of the units that are used does
  record IsDeeper (names : List (List ℕ)) (steps : ℕ) : Type 0 where
    pub to : ℕ
    pub used : list_any (nat_eq to) (places_of (all_uses sources) names) ≡ true
    pub below : to < length edges
    pub deep : IsDeep edges steps to

  -- the source of a unit that has an interface
  pub record IsHad (name : List ℕ) : Type 0 where
    pub place : ℕ
    pub found : place_of (all_uses sources) name ≡ Some place
    pub source : Source
    pub stands : slice_get sources place ≡ Some source
    pub named : name ≡ source.name

  pub had : (name : List ℕ) (i : Interface) → interface_named have name ≡ Some i → IsHad name
  had name i is =
      let n = named_by (IsShownIn sources have) have name shown (ap (λ (o : Option Interface). is_some o) is) in
      let t = n.holds.source in
      let p = placed sources name (is_source_at sources n.holds.one.0 t name (stands sources t n.holds.one) (n.named ∙ n.holds.named)) in
      record { place = p.place; found = p.found; source = p.source; stands = p.stands; named = same_name name p.source.name p.named }

  pub of_source : (place : ℕ) (s : Source) (i : Interface) → slice_get sources place ≡ Some s → interface_named have s.name ≡ Some i → IsOf have s i
  of_source place s i at found =
      let n = named_by (IsShownIn sources have) have s.name shown (ap (λ (o : Option Interface). is_some o) found) in
      let h = n.holds in
      let t = h.source in
      let same : t ≡ s = one_source [] sources new h.one.0 place t s (stands sources t h.one) at (sym h.named ∙ sym n.named) in
      let it : n.interface ≡ i = found_is n.interface i (sym n.found ∙ found) in
      subst (λ (x : Interface). IsOf have s x) it (subst (λ (x : Source). IsOf have x n.interface) same (of_shown sources have n.interface h))
    where
      found_is : (a b : Interface) → Some a ≡ Some b → a ≡ b
      found_is a b e = cc

  module _ (Q : Interface → Type 0) (inherits : Inherits Q sources have) where
    -- what the source at a place shows has it
    abbrev pub IsSo : ℕ → Type 0
    IsSo place = (s : Source) → slice_get sources place ≡ Some s → (i : Interface) → interface_named have s.name ≡ Some i → Q i

    abbrev IsSoOrDeep : ℕ → ℕ → Type 0
    IsSoOrDeep steps place = IsSo place ⊎ IsDeep edges steps place

    use_so : (steps : ℕ) → ((place : ℕ) → IsSoOrDeep steps place) → (name : List ℕ) → IsUse Q have name ⊎ IsDeepUse name steps
    use_so steps each name = by (interface_named have name) refl
      where
        nothing : (i : Interface) → None ≡ Some i → ⊥
        nothing i e = cc

        by : (o : Option Interface) → interface_named have name ≡ o → IsUse Q have name ⊎ IsDeepUse name steps
        by None none = inl (λ other i is. absurd (nothing i (sym none ∙ is)))
        by (Some one) found =
            let h = had name one found in
            elim (each h.place) [
              | inl so ↦ inl (λ other i is. so h.source h.stands i (subst (λ (x : List ℕ). interface_named have x ≡ Some i) h.named is))
              | inr deep ↦ inr (record {
                to = h.place;
                used = is_listed (place_of (all_uses sources) name) h.place h.found;
                below = omega (arith, slice_get_within sources h.place h.source h.stands, edges_count sources);
                deep = deep;
              })
            ]

    uses_so : (steps : ℕ) → ((place : ℕ) → IsSoOrDeep steps place) → (names : List (List ℕ)) → AreUses Q have names ⊎ IsDeeper names steps
    uses_so steps each [] = inl tt
    uses_so steps each (name ∷ names) = by (use_so steps each name) (uses_so steps each names)
      where
        by : IsUse Q have name ⊎ IsDeepUse name steps → AreUses Q have names ⊎ IsDeeper names steps → AreUses Q have (name ∷ names) ⊎ IsDeeper (name ∷ names) steps
        by (inl one) (inl rest) = inl (one, rest)
        by (inl one) (inr d) = inr (record {
          to = d.to;
          used = in_right d.to (listed (place_of (all_uses sources) name)) (places_of (all_uses sources) names) d.used;
          below = d.below;
          deep = d.deep;
        })
        by (inr d) rest = inr (record {
          to = d.to;
          used = in_left d.to (listed (place_of (all_uses sources) name)) (places_of (all_uses sources) names) d.used;
          below = d.below;
          deep = d.deep;
        })

    deeper : (steps place : ℕ) (s : Source) → slice_get sources place ≡ Some s → IsDeeper (names_of (outer_units s)) steps → IsDeep edges (suc steps) place
    deeper steps place s at d =
        (d.to, subst (λ (places : List ℕ). list_any (nat_eq d.to) places ≡ true) (sym (edge_at (all_uses sources) sources place s at)) d.used, d.below, d.deep)

    at_place : (steps place : ℕ) (found : Option Source) → slice_get sources place ≡ found → ((to : ℕ) → IsSoOrDeep steps to) → IsSoOrDeep (suc steps) place
    at_place steps place None none each = inl (λ t there i is. absurd (nothing t (sym none ∙ there)))
      where
        nothing : (t : Source) → None ≡ Some t → ⊥
        nothing t is = cc
    at_place steps place (Some s) at each =
        elim (uses_so steps each (names_of (outer_units s))) [
          | inl so ↦ inl (λ t there i is. inherits place t i there is (subst (λ (x : Source). AreUses Q have (names_of (outer_units x))) (some_is s t (sym at ∙ there)) so) (of_source place t i there is))
          | inr d ↦ inr (deeper steps place s at d)
        ]

    so_or_deep : (steps place : ℕ) → IsSoOrDeep steps place
    so_or_deep zero place = inr tt
    so_or_deep (suc steps) place = at_place steps place (slice_get sources place) refl (λ to. so_or_deep steps to)

    -- so what the source at each place shows has it
    pub all_so : IsAcyclic sources → (place : ℕ) → IsSo place
    all_so acyclic place s at i is =
        elim (so_or_deep (length edges) place) [
          | inl so ↦ so s at i is
          | inr deep ↦ absurd (too_deep edges acyclic (length edges) place (omega arith) (omega (arith, slice_get_within sources place s at, edges_count sources)) deep)
        ]

    -- so whatever interface a name means has it
    pub inherited : IsAcyclic sources → (name : List ℕ) → IsUse Q have name
    inherited acyclic name other i is =
        let h = had name i is in
        all_so acyclic h.place h.source h.stands i (subst (λ (x : List ℕ). interface_named have x ≡ Some i) h.named is)

    pub all_inherited : IsAcyclic sources → (names : List (List ℕ)) → AreUses Q have names
    all_inherited acyclic [] = tt
    all_inherited acyclic (name ∷ names) = (inherited acyclic name, all_inherited acyclic names)
