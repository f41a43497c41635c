-- An order has with each unit those that it uses: no visit is cut short, since no walk has more units than there are.
use Rattle.std.proofs.Common.{◌≡◌, ℕ, zero, suc, ◌+◌, ◌<◌, ◌≤◌, Bool, true, false, cond, List, [], ◌∷◌, ◌++◌, length, Option, Some, None, map, get_or, refl, sym, ap, ◌∙◌, subst, arith, ◌⊎◌, inl, inr, nat_eq}
use Rattle.std.specs.List.{list_any}
use Rattle.std.proofs.lemmas.List.Quantifiers.{position-Some}
use Rattle.std.proofs.lemmas.Map.Steps.{length-le_from_distinct_below}
use Rattle.type_layout.specs.Words.{same_bytes}
use Rattle.unit_interface.specs.declared.edges.UsesOf.{UsesOf}
use Rattle.unit_interface.specs.declared.visits.Progress.{Progress}
use Rattle.unit_interface.specs.Uses.{place_of, listed, places_of, all_edges}
use Rattle.unit_interface.specs.Circles.{next}
use Rattle.unit_interface.specs.Order.{no_progress, meet, finish, visit_each, visit, start_order, repeats, IsOrderFor}
use Rattle.unit_interface.proofs.CircleLaws.{distinct}
use Rattle.unit_interface.proofs.OrderLaws.{IsIn, IsOut, contrary, decided, in_append, in_left, in_right, in_one, only_one, neither, IsAfter, stays, then_after, finished}

-- every use is of a unit
abbrev pub AreUnits : List (List ℕ) → Type 0
AreUnits edges = (from to : ℕ) → IsIn to (next edges from) → to < length edges

-- the units on the way: each once, all met, and with the room that is left as many as there are units
record IsWay (edges : List (List ℕ)) (room : ℕ) (p : Progress) (way : List ℕ) : Type 0 where
  pub once : repeats way ≡ false
  pub units : (q : ℕ) → IsIn q way → q < length edges
  pub met : (q : ℕ) → IsIn q way → IsIn q p.met
  pub enough : length edges ≤ room + length way

-- What a visit leaves that was not cut short: what it met is finished, and all that it uses is met.
record IsWhole (edges : List (List ℕ)) (old now : Progress) : Type 0 where
  pub after : IsAfter old now
  pub ended : (q : ℕ) → IsIn q now.met → IsIn q old.met ⊎ IsIn q after.new
  pub uses : (from to : ℕ) → IsIn from after.new → IsIn to (next edges from) → IsIn to now.met

unchanged : (edges : List (List ℕ)) (p : Progress) → IsWhole edges p p
unfolding stays
unchanged edges p = record { after = stays p; ended = λ q h. inl h; uses = λ from to h used. contrary false h refl }

then_whole : (edges : List (List ℕ)) (p q r : Progress) → IsWhole edges p q → IsWhole edges q r → IsWhole edges p r
unfolding then_after
then_whole edges p q r one two = record {
  after = then_after p q r one.after two.after;
  ended = λ x h. elim (two.ended x h) [
    | inl known ↦ elim (one.ended x known) [ inl old ↦ inl old | inr first ↦ inr (in_left x one.after.new two.after.new first) ]
    | inr second ↦ inr (in_right x one.after.new two.after.new second)
  ];
  uses = λ from to h used. elim (in_append from one.after.new two.after.new h) [
    | inl first ↦ two.after.kept to (one.uses from to first used)
    | inr second ↦ two.uses from to second used
  ];
}

-- a unit with all that it uses
whole_finished : (edges : List (List ℕ)) (p visited : Progress) (place : ℕ) → IsOut place p.met → IsWhole edges (meet place p) visited
    → ((to : ℕ) → IsIn to (next edges place) → IsIn to visited.met) → IsWhole edges p (finish place visited)
unfolding finished
whole_finished edges p visited place out w used_met = record {
  after = finished p visited place out w.after;
  ended = λ q h. elim (w.ended q h) [
    | inl known ↦ elim (in_append q p.met (place ∷ []) known) [ inl old ↦ inl old | inr last ↦ inr (in_right q w.after.new (place ∷ []) last) ]
    | inr inner ↦ inr (in_left q w.after.new (place ∷ []) inner)
  ];
  uses = λ from to h used. elim (in_append from w.after.new (place ∷ []) h) [
    | inl inner ↦ w.uses from to inner used
    | inr last ↦ used_met to (subst (λ (z : ℕ). IsIn to (next edges z)) (only_one from place last) used)
  ];
}

-- a visit of a unit: it is whole, and the unit is met
record IsVisited (edges : List (List ℕ)) (old now : Progress) (place : ℕ) : Type 0 where
  pub whole : IsWhole edges old now
  pub met : IsIn place now.met

record AreVisited (edges : List (List ℕ)) (old now : Progress) (places : List ℕ) : Type 0 where
  pub whole : IsWhole edges old now
  pub met : (q : ℕ) → IsIn q places → IsIn q now.met

way_kept : (edges : List (List ℕ)) (room : ℕ) (p q : Progress) (way : List ℕ) → IsWay edges room p way → IsAfter p q → IsWay edges room q way
way_kept edges room p q way w a = record { once = w.once; units = w.units; met = λ x h. a.kept x (w.met x h); enough = w.enough }

visited_each : (edges : List (List ℕ)) (room : ℕ) (one : Progress → ℕ → Progress) (way : List ℕ)
    → ((p : Progress) (place : ℕ) → place < length edges → IsWay edges room p way → IsVisited edges p (one p place) place)
    → (p : Progress) (places : List ℕ) → ((q : ℕ) → IsIn q places → q < length edges) → IsWay edges room p way
    → AreVisited edges p (visit_each one p places) places
visited_each edges room one way visits p [] units w = record { whole = unchanged edges p; met = λ q h. contrary false h refl }
visited_each edges room one way visits p (place ∷ places) units w =
    let v = visits p place (units place (in_left place (place ∷ []) places (in_one place))) w in
    let rest = visited_each edges room one way visits (one p place) places (λ q h. units q (in_right q (place ∷ []) places h))
    (way_kept edges room p (one p place) way w v.whole.after) in
    record {
      whole = then_whole edges p (one p place) (visit_each one (one p place) places) v.whole rest.whole;
      met = λ q h. elim (in_append q (place ∷ []) places h) [
        | inl here ↦ rest.whole.after.kept q (subst (λ (z : ℕ). IsIn z (one p place).met) (sym (only_one q place here)) v.met)
        | inr later ↦ rest.met q later
      ];
    }

-- the way with a further unit, which was not met
way_longer : (edges : List (List ℕ)) (room : ℕ) (p : Progress) (way : List ℕ) (place : ℕ) → IsWay edges (suc room) p way → IsOut place p.met
    → place < length edges → IsWay edges room (meet place p) (place ∷ way)
way_longer edges room p way place w out within = record {
  once = neither (list_any (nat_eq place) way) (repeats way)
      (decided (list_any (nat_eq place) way) (λ on. contrary (list_any (nat_eq place) p.met) (w.met place on) out)) w.once;
  units = λ q h. elim (in_append q (place ∷ []) way h) [
    | inl here ↦ subst (λ (z : ℕ). z < length edges) (sym (only_one q place here)) within
    | inr later ↦ w.units q later
  ];
  met = λ q h. elim (in_append q (place ∷ []) way h) [
    | inl here ↦ in_right q p.met (place ∷ []) here
    | inr later ↦ in_left q p.met (place ∷ []) (w.met q later)
  ];
  enough = omega (arith, w.enough);
}

-- where no room is left, every unit is on the way
no_room : (edges : List (List ℕ)) (p : Progress) (way : List ℕ) (place : ℕ) → IsWay edges 0 p way → place < length edges → IsIn place p.met
no_room edges p way place w within = on_the_way (list_any (nat_eq place) way) refl
  where
    on_the_way : (b : Bool) → list_any (nat_eq place) way ≡ b → IsIn place p.met
    on_the_way true on = w.met place on
    on_the_way false off =
        let more : length (place ∷ way) ≤ length edges =
        length-le_from_distinct_below (place ∷ way) (length edges)
        (distinct (place ∷ way) (neither (list_any (nat_eq place) way) (repeats way) off w.once))
        (λ q h. elim (in_append q (place ∷ []) way h) [
          | inl here ↦ subst (λ (z : ℕ). z < length edges) (sym (only_one q place here)) within
          | inr later ↦ w.units q later
        ]) in
        absurd (omega (arith, more, w.enough))

by_test : (edges : List (List ℕ)) (p new : Progress) (place : ℕ) (b : Bool) → list_any (nat_eq place) p.met ≡ b
    → (IsOut place p.met → IsVisited edges p new place) → IsVisited edges p (cond b p new) place
by_test edges p new place true known visited = record { whole = unchanged edges p; met = known }
by_test edges p new place false out visited = visited out

finished_visit : (edges : List (List ℕ)) (p visited : Progress) (place : ℕ) → IsOut place p.met
    → AreVisited edges (meet place p) visited (next edges place) → IsVisited edges p (finish place visited) place
finished_visit edges p visited place out v = record {
  whole = whole_finished edges p visited place out v.whole v.met;
  met = v.whole.after.kept place (in_right place p.met (place ∷ []) (in_one place));
}

whole_visit : (edges : List (List ℕ)) → AreUnits edges → (room : ℕ) (p : Progress) (place : ℕ) (way : List ℕ) → place < length edges
    → IsWay edges room p way → IsVisited edges p (visit room edges p place) place
whole_visit edges units zero p place way within w = record { whole = unchanged edges p; met = no_room edges p way place w within }
whole_visit edges units (suc room) p place way within w =
    by_test edges p (finish place (visit_each (visit room edges) (meet place p) (get_or edges place []))) place (list_any (nat_eq place) p.met) refl
    (λ out. finished_visit edges p (visit_each (visit room edges) (meet place p) (get_or edges place [])) place out
    (visited_each edges room (visit room edges) (place ∷ way) (λ q one below v. whole_visit edges units room q one (place ∷ way) below v)
    (meet place p) (next edges place) (λ q h. units place q h) (way_longer edges room p way place w out within)))

pub order_from : (edges : List (List ℕ)) → AreUnits edges → (start : ℕ) → start < length edges → (room : ℕ) → room ≡ length edges
    → IsOrderFor edges start (visit room edges no_progress start).order
order_from edges units start within zero is = absurd (omega arith)
order_from edges units start within (suc room) is =
    let v = whole_visit edges units (suc room) no_progress start [] within (record {
      once = refl;
      units = λ q h. contrary false h refl;
      met = λ q h. contrary false h refl;
      enough = omega arith;
    }) in
    let a = v.whole.after in
    let order : (visit (suc room) edges no_progress start).order ≡ a.new = a.is in
    record {
      once = ap repeats order ∙ a.once;
      needed = λ from to ordered used.
          let met = v.whole.uses from to (sym (ap (λ (xs : List ℕ). list_any (nat_eq from) xs) order) ∙ ordered) used in
          elim (v.whole.ended to met) [
            | inl never ↦ contrary false never refl
            | inr new ↦ ap (λ (xs : List ℕ). list_any (nat_eq to) xs) order ∙ new
          ];
      before = (visit_each (visit room edges) (meet start no_progress) (get_or edges start [])).order;
      last = refl;
    }

-- the uses of units are units
listed_below : (n : ℕ) (found : Option ℕ) → ((k : ℕ) → found ≡ Some k → k < n) → (q : ℕ) → IsIn q (listed found) → q < n
listed_below n None below q h = contrary false h refl
listed_below n (Some k) below q h = subst (λ (z : ℕ). z < n) (sym (only_one q k h)) (below k refl)

place_below : (units : List UsesOf) (none : UsesOf) (name : List ℕ) (k : ℕ) → place_of units name ≡ Some k → k < length units
place_below units none name k h = (position-Some (λ (unit : UsesOf). same_bytes name unit.name) units k none h).0

some_unit : (units : List UsesOf) (name : List ℕ) (k : ℕ) → place_of units name ≡ Some k → k < length units
some_unit [] name k h = absurd (cc)
some_unit (unit ∷ units) name k h = place_below (unit ∷ units) unit name k h

places_below : (units : List UsesOf) (names : List (List ℕ)) (q : ℕ) → IsIn q (places_of units names) → q < length units
places_below units [] q h = contrary false h refl
places_below units (name ∷ names) q h =
    elim (in_append q (listed (place_of units name)) (places_of units names) h) [
      | inl here ↦ listed_below (length units) (place_of units name) (λ k is. some_unit units name k is) q here
      | inr later ↦ places_below units names q later
    ]

edge_below : (all units : List UsesOf) (from to : ℕ)
    → IsIn to (get_or (map (λ unit. places_of all unit.interface ++ places_of all unit.implementation) units) from []) → to < length all
edge_below all [] zero to h = contrary false h refl
edge_below all [] (suc from) to h = contrary false h refl
edge_below all (unit ∷ units) zero to h =
    elim (in_append to (places_of all unit.interface) (places_of all unit.implementation) h) [
      | inl first ↦ places_below all unit.interface to first
      | inr second ↦ places_below all unit.implementation to second
    ]
edge_below all (unit ∷ units) (suc from) to h = edge_below all units from to h

edge_count : (all units : List UsesOf) → length (map (λ unit. places_of all unit.interface ++ places_of all unit.implementation) units) ≡ length units
edge_count all [] = refl
edge_count all (unit ∷ units) = let rec = edge_count all units in omega arith

pub is_order : (units : List UsesOf) (start : ℕ) → start < length units → IsOrderFor (all_edges units) start (start_order units start)
is_order units start within =
    let count : length (all_edges units) ≡ length units = edge_count units units in
    order_from (all_edges units) (λ from to h. omega (arith, edge_below units units from to h, count)) start (omega arith) (length units) (sym count)
