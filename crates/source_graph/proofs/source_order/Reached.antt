-- Each source of a program stands in the order of initialisation.
use Rattle.std.proofs.Common.{◌≡◌, ℕ, zero, suc, ◌+◌, ◌<◌, Bool, true, false, ◌||◌, nat_eq, List, [], ◌∷◌, ◌++◌, map, length, Some, refl, sym, ap, ◌∙◌, subst, append_assoc, Contains, arith}
use Rattle.std.specs.List.{All, list_any}
use Rattle.std.proofs.lemmas.List.{map-append, length-append, length-map}
use Rattle.std.proofs.lemmas.List.Elements.{All-nil, All-cons, All-weaker, All-append, All-contains}
use Rattle.std.proofs.lemmas.List.Folds.{list_any-append}
use Rattle.type_layout.specs.Words.{same_bytes}
use Rattle.source_graph.specs.declared.sources.Source.{Source}
use Rattle.source_graph.specs.declared.wanted.Wanted.{Wanted}
use Rattle.source_graph.specs.Walk.{start, wanted_by, names_of}
use Rattle.source_graph.specs.Whole.{AreWanted, AreNew}
use Rattle.source_graph.proofs.WholeLaws.{is_whole}
use Rattle.unit_interface.specs.declared.edges.UsesOf.{UsesOf}
use Rattle.unit_interface.specs.Uses.{place_of, all_edges}
use Rattle.unit_interface.specs.Circles.{next}
use Rattle.unit_interface.specs.Order.{start_order, IsOrderFor}
use Rattle.unit_interface.proofs.NeededLaws.{is_order}
use Rattle.source_graph.specs.source_order.Orders.{uses_in, all_uses, AllInOrderLaw}
use Rattle.source_graph.proofs.source_order.Places.{or_second, place_is, IsAmong, next_at}

module _ (sources : List Source) (order : List ℕ) (orders : IsOrderFor (all_edges (all_uses sources)) 0 order) where
  abbrev In : ℕ → Type 0
  In place = list_any (nat_eq place) order ≡ true

  abbrev AllFrom : ℕ → List Source → Type 0
  AllFrom place [] = Unit {0}
  AllFrom place (s ∷ rest) = In place × AllFrom (suc place) rest

  -- all that a source uses which stands in the order
  uses_in_order : (front : List Source) (s : Source) (rest : List Source) → sources ≡ front ++ s ∷ rest → In (length front) → All (IsAmong (all_uses sources) order) (wanted_by s)
  uses_in_order front s rest is here =
      let places = next (all_edges (all_uses sources)) (length front) in
      let there : All (IsAmong (all_uses sources) places) (wanted_by s) =
      subst (λ (all : List Source). All (IsAmong (all_uses all) (next (all_edges (all_uses all)) (length front))) (wanted_by s)) (sym is) (next_at front s rest) in
      All-weaker (IsAmong (all_uses sources) places) (IsAmong (all_uses sources) order) (λ unit among place found. orders.needed (length front) place here (among place found)) (wanted_by s) there

  all_from : (front rest : List Source) (wanted : List Wanted) → sources ≡ front ++ rest → All (IsAmong (all_uses sources) order) wanted → AreWanted wanted rest → AreNew (names_of front) rest → AllFrom (length front) rest
  all_from front [] wanted is among uses new = tt
  all_from front (s ∷ rest) wanted is among uses new =
      let found : place_of (all_uses sources) s.name ≡ Some (length front) =
      subst (λ (all : List Source). place_of (all_uses all) s.name ≡ Some (length front)) (sym is) (place_is front s rest new.0) in
      let unit = uses.0 in
      let asked : place_of (all_uses sources) unit.name ≡ Some (length front) = subst (λ (name : List ℕ). place_of (all_uses sources) name ≡ Some (length front)) (sym uses.2) found in
      let here : In (length front) = All-contains (IsAmong (all_uses sources) order) wanted unit among uses.1 (length front) asked in
      let on : sources ≡ (front ++ s ∷ []) ++ rest = is ∙ sym (append_assoc front (s ∷ []) rest) in
      let names : names_of front ++ s.name ∷ [] ≡ names_of (front ++ s ∷ []) = sym (map-append (λ (source : Source). source.name) front (s ∷ [])) in
      let later : AreNew (names_of (front ++ s ∷ [])) rest = subst (λ (met : List (List ℕ)). AreNew met rest) names new.1 in
      let more = all_from (front ++ s ∷ []) rest (wanted ++ wanted_by s) on (All-append (IsAmong (all_uses sources) order) wanted (wanted_by s) among (uses_in_order front s rest is here)) uses.3 later in
      let long : length (front ++ s ∷ []) ≡ suc (length front) = omega (arith, length-append front (s ∷ [])) in
      (here, subst (λ (place : ℕ). AllFrom place rest) long more)

  each_from : (place : ℕ) (rest : List Source) → AllFrom place rest → (n : ℕ) → n < length rest → In (place + n)
  each_from place [] all n within = absurd (omega arith)
  each_from place (s ∷ rest) all zero within =
      let here : place ≡ place + 0 = omega arith in subst In here all.0
  each_from place (s ∷ rest) all (suc n) within =
      let there : suc place + n ≡ place + suc n = omega arith in subst In there (each_from (suc place) rest all.1 n (omega (arith, within)))

  first_in : In 0
  first_in = ap (list_any (nat_eq 0)) orders.last ∙ list_any-append (nat_eq 0) orders.before (0 ∷ []) ∙ or_second (list_any (nat_eq 0) orders.before) true refl

  some_is : (m n : ℕ) → Some m ≡ Some n → m ≡ n
  some_is m n same = cc

  -- the program itself
  start_in : (name : List ℕ) (s : Source) (rest : List Source) → sources ≡ s ∷ rest → name ≡ s.name → IsAmong (all_uses sources) order (start name)
  start_in name s rest is same place found =
      let first : place_of (all_uses sources) name ≡ Some 0 =
      subst (λ (n : List ℕ). place_of (all_uses sources) n ≡ Some 0) (sym same) (subst (λ (all : List Source). place_of (all_uses all) s.name ≡ Some 0) (sym is) (place_is [] s rest refl)) in
      subst In (some_is 0 place (sym first ∙ found)) first_in

  pub all_in : (name : List ℕ) → AreWanted (start name ∷ []) sources → AreNew [] sources → (place : ℕ) → place < length sources → In place
  all_in name uses new = by sources refl
    where
      by : (all : List Source) → sources ≡ all → (place : ℕ) → place < length sources → In place
      by [] is place within =
          let none : length sources ≡ 0 = ap length is in
          absurd (omega (arith, within, none))
      by (s ∷ rest) is place within =
          let wanted : AreWanted (start name ∷ []) (s ∷ rest) = subst (AreWanted (start name ∷ [])) is uses in
          let named : name ≡ s.name = All-contains (λ (unit : Wanted). name ≡ unit.name) (start name ∷ []) wanted.0 (All-cons (λ (unit : Wanted). name ≡ unit.name) (start name) [] refl (All-nil _)) wanted.1 ∙ wanted.2 in
          let among = All-cons (IsAmong (all_uses sources) order) (start name) [] (start_in name s rest is named) (All-nil _) in
          let all = all_from [] (s ∷ rest) (start name ∷ []) is among wanted (subst (AreNew []) is new) in
          let at_place : 0 + place ≡ place = omega arith in
          subst In at_place (each_from 0 (s ∷ rest) all place (subst (λ (l : List Source). place < length l) is within))

pub in_order : AllInOrderLaw
in_order held name texts sources gathers place within =
    let whole = is_whole held name texts sources gathers in
    let long : length (all_uses sources) ≡ length sources = length-map sources uses_in in
    let some : 0 < length (all_uses sources) = omega (arith, long, within) in
    all_in sources (start_order (all_uses sources) 0) (is_order (all_uses sources) 0 some) name whole.wanted whole.once place within
