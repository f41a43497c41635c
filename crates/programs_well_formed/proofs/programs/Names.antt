-- Names of the sources of a program: none is that of a predeclared unit, and no source uses itself in its interface part.
use Rattle.std.proofs.Common.{◌≡◌, ◌∙◌, ℕ, suc, zero, Bool, true, false, not, ◌&&◌, ◌||◌, cond, nat_eq, List, [], ◌∷◌, Some, refl, sym, ap, subst, inl}
use Rattle.std.specs.Prelude.{slice_get, codes}
use Rattle.std.specs.Cmp.Lexicographic.{bytes_decides}
use Rattle.std.specs.List.{list_any}
use Rattle.units_well_formed.specs.type_layout.Words.{same_bytes}
use Rattle.units_well_formed.specs.scopes.Predeclared.{system}
use Rattle.interfaces_consistent.specs.source_graph.declared.sources.Source.{Source}
use Rattle.interfaces_consistent.specs.source_graph.Whole.{AreNew}
use Rattle.units_well_formed.specs.unit_interface.Resolve.{overlay}
use Rattle.units_well_formed.specs.unit_interface.Circles.{next}
use Rattle.units_well_formed.specs.unit_interface.Uses.{place_of, listed, places_of, interface_edges}
use Rattle.interfaces_consistent.specs.source_graph.source_order.Orders.{names_of, all_uses}
use Rattle.interfaces_consistent.specs.front_end.source_interfaces.Kinds.{is_program, is_used, is_reserved, is_of_kind}
use Rattle.interfaces_consistent.specs.front_end.source_interfaces.Scopes.{outer_units}
use Rattle.interfaces_consistent.specs.front_end.source_interfaces.Interfaces.{IsAcyclic}
use Rattle.interfaces_consistent.proofs.front_end_proofs.source_interfaces.Rounds.{placed, in_left, in_right, is_listed, edge_at}
use Rattle.interfaces_consistent.proofs.interface_soundness_proofs.programs.Sources.{one_source, is_source_at, same_name}
use Rattle.programs_well_formed.specs.imported_interfaces.Below.{IsSource}

-- ---- predeclared units

-- no name of theirs
pub record IsNamed (name : List ℕ) : Type 0 where
  pub overlay : name ≡ overlay → ⊥
  pub system : name ≡ system → ⊥

-- the file of a source has none, and what the lexer gives is in it, and not too much
pub record IsWritten (source : Source) : Type 0 where
  pub named : IsNamed source.name
  pub written : IsSource source.tree

first_not : (a b : Bool) → (not a && b) ≡ true → a ≡ false
first_not true b e = (let f : false ≡ true = e in cc)
first_not false b e = refl

neither : (a b : Bool) → (a || b) ≡ false → (a ≡ false) × (b ≡ false)
neither true b e = (let f : true ≡ false = e in cc)
neither false b e = (refl, e)

pub differ : (one other : List ℕ) → same_bytes one other ≡ false → one ≡ other → ⊥
differ one other apart same = (let yes = (bytes_decides one other).1 same in let bad : ⊥ = cc in bad)

pub kind_named : (sources : List Source) (place : ℕ) (s : Source) → is_of_kind sources place s ≡ true → IsNamed s.name
kind_named sources place s kind =
    let free : is_reserved s.name ≡ false =
    first_not (is_reserved s.name) (cond (nat_eq place 0) (is_program s.tree && not (is_used sources s.name)) (not (is_program s.tree))) kind in
    let both = neither (same_bytes s.name (codes "OVERLAY")) (same_bytes s.name (codes "SYSTEM")) free in
    record { overlay = differ s.name overlay both.0; system = differ s.name system both.1 }

-- ---- the units that an interface part uses

-- none of these names is the unit's own
abbrev pub AreOther : List ℕ → List (List ℕ) → Type 0
AreOther name [] = Unit {0}
AreOther name (word ∷ words) = (word ≡ name → ⊥) × AreOther name words

module _ (sources : List Source) (new : AreNew [] sources) (acyclic : IsAcyclic sources) (place : ℕ) (s : Source) (at : slice_get sources place ≡ Some s) where
  abbrev edges : List (List ℕ)
  edges = interface_edges (all_uses sources)

  -- a source that used itself would be a circle of one
  others : (here : ℕ) → place_of (all_uses sources) s.name ≡ Some here → (words : List (List ℕ))
      → ((to : ℕ) → list_any (nat_eq to) (places_of (all_uses sources) words) ≡ true → list_any (nat_eq to) (next edges here) ≡ true) → AreOther s.name words
  others here found [] uses = tt
  others here found (word ∷ words) uses = (
    λ same.
        (let listed_here = is_listed (place_of (all_uses sources) word) here (ap (place_of (all_uses sources)) same ∙ found) in
        let used = uses here (in_left here (listed (place_of (all_uses sources) word)) (places_of (all_uses sources) words) listed_here) in
        acyclic here (record { steps = suc zero; leads = (here, used, inl refl) })),
    others here found words (λ to met. uses to (in_right to (listed (place_of (all_uses sources) word)) (places_of (all_uses sources) words) met)),
  )

  pub outer_other : AreOther s.name (names_of (outer_units s))
  outer_other =
      let p = placed sources s.name (is_source_at sources place s s.name at refl) in
      let same : p.source ≡ s = one_source [] sources new p.place place p.source s p.stands at (sym (same_name s.name p.source.name p.named)) in
      let here : slice_get sources p.place ≡ Some s = subst (λ (x : Source). slice_get sources p.place ≡ Some x) same p.stands in
      let edge = edge_at (all_uses sources) sources p.place s here in
      others p.place p.found (names_of (outer_units s)) (λ to met. subst (λ (places : List ℕ). list_any (nat_eq to) places ≡ true) (sym edge) met)
