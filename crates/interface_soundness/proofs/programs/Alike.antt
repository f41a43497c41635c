-- A source shows one interface, whatever interfaces are there besides.
use Rattle.std.proofs.Common.{◌≡◌, ◌⊎◌, ℕ, zero, suc, ◌<◌, Bool, true, false, ◌||◌, cond, List, [], ◌∷◌, drop, length, Option, Some, None, refl, sym, ap, ◌∙◌, subst, arith, inl, inr, nat_eq}
use Rattle.std.specs.Prelude.{slice_get, is_some}
use Rattle.std.specs.List.{list_any}
use Rattle.std.proofs.lemmas.Option.{slice_get_within}
use Rattle.front_end.specs.syntax_tree.declared.identifier.Identifier.{Identifier}
use Rattle.front_end.specs.tp_lexer.declared.source_directives.collected.Directives.{Directives}
use Rattle.front_end.specs.syntax_tree.declared.source_tree.source.Tree.{Tree}
use Rattle.front_end.specs.syntax_tree.declared.source_tree.source.Tree.TheVariants as t
use Rattle.front_end.specs.syntax_tree.source_tree.Sources.{used}
use Rattle.front_end.specs.scopes.Environment.{Environment}
use Rattle.front_end.specs.scopes.Predeclared.{first}
use Rattle.front_end.specs.source_graph.declared.sources.Source.{Source}
use Rattle.front_end.specs.source_graph.Whole.{AreNew}
use Rattle.front_end.proofs.typing_rules_proofs.JudgementLaws.{exact}
use Rattle.front_end.specs.unit_interface.declared.interfaces.Interface.{Interface}
use Rattle.front_end.specs.unit_interface.Uses.{place_of, listed, places_of, interface_edges}
use Rattle.front_end.specs.unit_interface.Resolve.{is_overlay, interface_named, with_overlay, with_found, with_use, with_uses, is_there}
use Rattle.front_end.proofs.unit_interface_proofs.ShownLaws.{one_interface}
use Rattle.front_end.specs.source_graph.source_order.Orders.{names_of, all_uses}
use Rattle.front_end.specs.unit_interface.Fitting.{found_fits, use_fits}
use Rattle.front_end.specs.tp_check_decl.Units.{Whole}
use Rattle.front_end.specs.tp_check_decl.Interfaces.{all_used}
use Rattle.front_end.specs.tp_check_decl.Checked.{judged}
use Rattle.front_end.specs.tp_check_decl.Shown.{IsShownAs, Shows, outlined, with_nothing_else}
use Rattle.front_end.proofs.tp_check_decl_proofs.CheckLaws.{lawful_outlined}
use Rattle.front_end.specs.source_interfaces.Scopes.{outer_units, known, outer_scope, is_shown, AreThere}
use Rattle.front_end.specs.source_interfaces.Interfaces.{IsShownIn, AreShown, AreInterfaces, IsAcyclic, IsDeep}
use Rattle.front_end.proofs.source_interfaces.Uses.{some_is, contrary}
use Rattle.front_end.proofs.source_interfaces.Deep.{too_deep}
use Rattle.front_end.proofs.source_interfaces.Rounds.{placed, in_left, in_right, is_listed, edge_at, edges_count}
use Rattle.interface_soundness.proofs.programs.Sources.{one_source, stands, is_source_at, same_name, named_by, shown_some, some_shown}

-- ---- what is known by interfaces that are alike

-- a unit of this name is told of alike: it is OVERLAY, or both have the same interface
abbrev pub IsAlike : List Interface → List Interface → List ℕ → Type 0
IsAlike a b name = (is_overlay name ≡ true) ⊎ (interface_named a name ≡ interface_named b name)

-- all of these are told of alike
abbrev pub AreAlike : List Interface → List Interface → List (List ℕ) → Type 0
AreAlike a b [] = Unit {0}
AreAlike a b (name ∷ names) = IsAlike a b name × AreAlike a b names

use_alike : (a b : List Interface) (g : Environment) (name : List ℕ) → IsAlike a b name → with_use a g name ≡ with_use b g name
use_alike a b g name (inl overlay) =
    ap (λ (o : Bool). cond o (with_overlay g) (with_found g (interface_named a name))) overlay
    ∙ sym (ap (λ (o : Bool). cond o (with_overlay g) (with_found g (interface_named b name))) overlay)
use_alike a b g name (inr same) = ap (λ (i : Option Interface). cond (is_overlay name) (with_overlay g) (with_found g i)) same

uses_alike : (a b : List Interface) (g : Environment) (names : List (List ℕ)) → AreAlike a b names → with_uses a g names ≡ with_uses b g names
uses_alike a b g [] alike = refl
uses_alike a b g (name ∷ names) alike =
    ap (λ (e : Environment). with_uses a e names) (use_alike a b g name alike.0) ∙ uses_alike a b (with_use b g name) names alike.1

pub known_alike : (a b : List Interface) (name : List ℕ) (uses : List Identifier) → AreAlike a b (names_of uses) → known a name uses ≡ known b name uses
known_alike a b name uses alike = uses_alike a b (first name) (names_of uses) alike

-- what a unit shows fits, or does not, by both
fit_alike : (a b : List Interface) (g : Environment) (name : List ℕ) → IsAlike a b name → use_fits a g name ≡ use_fits b g name
fit_alike a b g name (inl overlay) =
    ap (λ (o : Bool). o || found_fits g (interface_named a name)) overlay
    ∙ sym (ap (λ (o : Bool). o || found_fits g (interface_named b name)) overlay)
fit_alike a b g name (inr same) = ap (λ (i : Option Interface). is_overlay name || found_fits g i) same

further_alike : (a b : List Interface) (g : Environment) (uses : List Identifier) → AreAlike a b (names_of uses) → (h : Environment) → (all_used a g uses).holds h → (all_used b g uses).holds h
further_alike a b g [] alike h e = e
further_alike a b g (one ∷ rest) alike h e = record {
  part = e.part;
  holds = record { asked = sym (fit_alike a b g one.name alike.0) ∙ e.holds.asked; made = e.holds.made ∙ use_alike a b g one.name alike.0 };
  made = further_alike a b e.part rest alike.1 h e.made;
}

-- the last of units that are told of alike are so too
last_alike : (a b : List Interface) (n : ℕ) (uses : List Identifier) → AreAlike a b (names_of uses) → AreAlike a b (names_of (drop n uses))
last_alike a b zero uses alike = alike
last_alike a b (suc n) [] alike = alike
last_alike a b (suc n) (one ∷ rest) alike = last_alike a b n rest alike.1

-- a source has the same unit by interfaces that tell alike of all that it uses
pub judged_alike : (a b : List Interface) (name : List ℕ) (says : Directives) (g : Environment) (tree : Tree) → AreAlike a b (names_of (used tree)) → (unit : Whole) → (judged name says g a tree).holds unit
    → (judged name says g b tree).holds unit
judged_alike a b name says g (t.Program heading uses all body) alike unit h = h
judged_alike a b name says g (t.Unit here own uses outer interface all body) alike unit h =
    let i = h.made in
    let u = i.made in
    record {
      part = h.part;
      holds = h.holds;
      made = record {
        part = i.part;
        holds = i.holds;
        made = record {
          part = u.part;
          holds = further_alike a b i.part.scope (drop outer uses.items) (last_alike a b outer uses.items alike) u.part u.holds;
          made = u.made;
        };
      };
    }

-- ---- units that are there

pub there_at : (have : List Interface) (uses : List Identifier) → AreThere have uses → (place : ℕ) (name : List ℕ) → slice_get (names_of uses) place ≡ Some name → is_there have name ≡ true
there_at have uses there place name at = by (is_there have name) refl
  where
    by : (b : Bool) → is_there have name ≡ b → b ≡ true
    by true is = refl
    by false absent = absurd (there name (record { place = place; used = at; absent = absent }))

there_tail : (have : List Interface) (unit : Identifier) (uses : List Identifier) → AreThere have (unit ∷ uses) → AreThere have uses
there_tail have unit uses there name m = there name (record { place = suc m.place; used = m.used; absent = m.absent })

pub split_there : (o s : Bool) → (o || s) ≡ true → (o ≡ true) ⊎ (s ≡ true)
split_there true s is = inl refl
split_there false s is = inr is

-- ---- one interface of a source

-- over the same scope, a source shows one interface
one_shown : (source : Source) (g h : Environment) (i j : Interface) → g ≡ h → IsShownAs source.name source.says g source.tree i → IsShownAs source.name source.says h source.tree j → i ≡ j
one_shown source g h i j same shows other =
    let moved = subst (λ (e : Environment). IsShownAs source.name source.says e source.tree i) same shows in
    let law = exact (outlined source.name source.says h) (lawful_outlined source.name source.says h) in
    let unit : moved.unit ≡ other.unit = law.one source.tree moved.unit other.unit moved.holds other.holds in
    let there = subst (λ (w : Whole). Shows w i) unit moved.shows in
    one_interface (with_nothing_else other.unit) i j there other.shows

module _ (sources : List Source) (new : AreNew [] sources) where
  -- an interface is that of the source with its name
  pub of_source : (have : List Interface) (place : ℕ) (s : Source) (i : Interface) → slice_get sources place ≡ Some s → s.name ≡ i.name → IsShownIn sources have i
      → AreThere have (outer_units s) × IsShownAs s.name s.says (outer_scope have s) s.tree i
  of_source have place s i at named shown =
      let t = shown.source in
      let same : t ≡ s = one_source [] sources new shown.one.0 place t s (stands sources t shown.one) at (sym shown.named ∙ sym named) in
      subst (λ (x : Source). AreThere have (outer_units x) × IsShownAs x.name x.says (outer_scope have x) x.tree i) same (shown.there, shown.shows)

  module _ (a b : List Interface) (shown : AreShown sources a) (all : AreInterfaces sources b) where
    abbrev Same : ℕ → Type 0
    Same place = (s : Source) → slice_get sources place ≡ Some s → is_shown a s.name ≡ true → interface_named a s.name ≡ interface_named b s.name

    -- of the source at a place both tell alike, or so many uses stand behind one another from there on
    abbrev IsSameOrDeep : ℕ → ℕ → Type 0
    IsSameOrDeep steps place = Same place ⊎ IsDeep (interface_edges (all_uses sources)) steps place

    -- one of the units that are used lies so deep
    record IsDeeper (names : List (List ℕ)) (steps : ℕ) : Type 0 where
      pub to : ℕ
      pub used : list_any (nat_eq to) (places_of (all_uses sources) names) ≡ true
      pub below : to < length (interface_edges (all_uses sources))
      pub deep : IsDeep (interface_edges (all_uses sources)) steps to

    -- the source of a unit that has an interface
    record IsHad (name : List ℕ) : Type 0 where
      pub place : ℕ
      pub found : place_of (all_uses sources) name ≡ Some place
      pub source : Source
      pub stands : slice_get sources place ≡ Some source
      pub named : name ≡ source.name
      pub had : is_shown a source.name ≡ true

    had : (name : List ℕ) → is_some (interface_named a name) ≡ true → IsHad name
    had name some =
        let n = named_by (IsShownIn sources a) a name shown some in
        let t = n.holds.source in
        let p = placed sources name (is_source_at sources n.holds.one.0 t name (stands sources t n.holds.one) (n.named ∙ n.holds.named)) in
        let same : name ≡ p.source.name = same_name name p.source.name p.named in
        record { place = p.place; found = p.found; source = p.source; stands = p.stands; named = same; had = subst (λ (x : List ℕ). is_shown a x ≡ true) same (some_shown a name some) }

    used_alike : (steps : ℕ) → ((place : ℕ) → IsSameOrDeep steps place) → (uses : List Identifier) → AreThere a uses → AreAlike a b (names_of uses) ⊎ IsDeeper (names_of uses) steps
    used_alike steps each [] there = inl tt
    used_alike steps each (unit ∷ uses) there =
        by (split_there (is_overlay unit.name) (is_some (interface_named a unit.name)) (there_at a (unit ∷ uses) there zero unit.name refl)) (used_alike steps each uses (there_tail a unit uses there))
      where
        later : IsDeeper (names_of uses) steps → IsDeeper (names_of (unit ∷ uses)) steps
        later d = record {
          to = d.to;
          used = in_right d.to (listed (place_of (all_uses sources) unit.name)) (places_of (all_uses sources) (names_of uses)) d.used;
          below = d.below;
          deep = d.deep;
        }

        by : (is_overlay unit.name ≡ true) ⊎ (is_some (interface_named a unit.name) ≡ true) → AreAlike a b (names_of uses) ⊎ IsDeeper (names_of uses) steps
            → AreAlike a b (names_of (unit ∷ uses)) ⊎ IsDeeper (names_of (unit ∷ uses)) steps
        by here (inr d) = inr (later d)
        by (inl overlay) (inl rest) = inl (inl overlay, rest)
        by (inr some) (inl rest) =
            let h = had unit.name some in
            elim (each h.place) [
              | inl same ↦ inl (inr (subst (λ (x : List ℕ). interface_named a x ≡ interface_named b x) (sym h.named) (same h.source h.stands h.had)), rest)
              | inr deep ↦ inr (record {
                to = h.place;
                used = in_left h.place (listed (place_of (all_uses sources) unit.name)) (places_of (all_uses sources) (names_of uses)) (is_listed (place_of (all_uses sources) unit.name) h.place h.found);
                below = omega (arith, slice_get_within sources h.place h.source h.stands, edges_count sources);
                deep = deep;
              })
            ]

    -- the two interfaces of a source are one where its used units are told of alike
    same_here : (place : ℕ) (s : Source) → slice_get sources place ≡ Some s → is_shown a s.name ≡ true
        → AreAlike a b (names_of (outer_units s)) → interface_named a s.name ≡ interface_named b s.name
    same_here place s at is alike =
        let one = named_by (IsShownIn sources a) a s.name shown (shown_some a s.name is) in
        let other = named_by (IsShownIn sources b) b s.name all.shown (shown_some b s.name (all.all place s at)) in
        let first = of_source a place s one.interface at one.named one.holds in
        let second = of_source b place s other.interface at other.named other.holds in
        let same = one_shown s (outer_scope a s) (outer_scope b s) one.interface other.interface (known_alike a b s.name (outer_units s) alike) first.1 second.1 in
        one.found ∙ ap (λ (i : Interface). Some i) same ∙ sym other.found

    outer_there : (place : ℕ) (s : Source) → slice_get sources place ≡ Some s → is_shown a s.name ≡ true → AreThere a (outer_units s)
    outer_there place s at is =
        let one = named_by (IsShownIn sources a) a s.name shown (shown_some a s.name is) in
        (of_source a place s one.interface at one.named one.holds).0

    deeper : (steps place : ℕ) (s : Source) → slice_get sources place ≡ Some s → IsDeeper (names_of (outer_units s)) steps → IsDeep (interface_edges (all_uses sources)) (suc steps) place
    deeper steps place s at d =
        (d.to, subst (λ (places : List ℕ). list_any (nat_eq d.to) places ≡ true) (sym (edge_at (all_uses sources) sources place s at)) d.used, d.below, d.deep)

    -- the source at a place, by whether it has an interface
    at_source : (steps place : ℕ) (s : Source) → slice_get sources place ≡ Some s → ((to : ℕ) → IsSameOrDeep steps to) → (shows : Bool) → is_shown a s.name ≡ shows → IsSameOrDeep (suc steps) place
    at_source steps place s at each true is =
        elim (used_alike steps each (outer_units s) (outer_there place s at is)) [
          | inl alike ↦ inl (λ t there has. same_here place t there has (subst (λ (x : Source). AreAlike a b (names_of (outer_units x))) (some_is s t (sym at ∙ there)) alike))
          | inr d ↦ inr (deeper steps place s at d)
        ]
    at_source steps place s at each false none = inl (λ t there has. contrary (is_shown a s.name) (subst (λ (x : Source). is_shown a x.name ≡ true) (some_is t s (sym there ∙ at)) has) none)

    at_place : (steps place : ℕ) (found : Option Source) → slice_get sources place ≡ found → ((to : ℕ) → IsSameOrDeep steps to) → IsSameOrDeep (suc steps) place
    at_place steps place None none each = inl (λ t there has. absurd (nothing t (sym none ∙ there)))
      where
        nothing : (t : Source) → None ≡ Some t → ⊥
        nothing t is = cc
    at_place steps place (Some s) at each = at_source steps place s at each (is_shown a s.name) refl

    same_or_deep : (steps place : ℕ) → IsSameOrDeep steps place
    same_or_deep zero place = inr tt
    same_or_deep (suc steps) place = at_place steps place (slice_get sources place) refl (λ to. same_or_deep steps to)

    pub all_same : IsAcyclic sources → (place : ℕ) → Same place
    all_same acyclic place s at is =
        elim (same_or_deep (length (interface_edges (all_uses sources))) place) [
          | inl same ↦ same s at is
          | inr deep ↦
              absurd (too_deep (interface_edges (all_uses sources)) acyclic (length (interface_edges (all_uses sources))) place (omega arith)
              (omega (arith, slice_get_within sources place s at, edges_count sources)) deep)
        ]

    -- where units are there by the first interfaces, both tell alike of them
    pub alike : IsAcyclic sources → (uses : List Identifier) → AreThere a uses → AreAlike a b (names_of uses)
    alike acyclic [] there = tt
    alike acyclic (unit ∷ uses) there =
        (by (split_there (is_overlay unit.name) (is_some (interface_named a unit.name)) (there_at a (unit ∷ uses) there zero unit.name refl)), alike acyclic uses (there_tail a unit uses there))
      where
        by : (is_overlay unit.name ≡ true) ⊎ (is_some (interface_named a unit.name) ≡ true) → IsAlike a b unit.name
        by (inl overlay) = inl overlay
        by (inr some) =
            let h = had unit.name some in
            inr (subst (λ (x : List ℕ). interface_named a x ≡ interface_named b x) (sym h.named) (all_same acyclic h.place h.source h.stands h.had))
