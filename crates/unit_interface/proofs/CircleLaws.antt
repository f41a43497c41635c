-- A unit that leads to itself at all does so in at most as many steps as there are units, or another one does.
use Rattle.std.proofs.Common.{◌≡◌, ℕ, zero, suc, ◌<◌, ◌≤◌, Bool, true, false, ◌||◌, List, [], ◌∷◌, length, map, get_or, refl, sym, ◌∙◌, subst, arith, ◌⊎◌, inl, inr, nat_eq, eqb-true, eq-eqb}
use Rattle.std.specs.List.{list_any, IsDistinct, AllByRecursion}
use Rattle.std.proofs.lemmas.Map.Steps.{length-le_from_distinct_below}
use Rattle.unit_interface.specs.declared.edges.UsesOf.{UsesOf}
use Rattle.unit_interface.specs.Uses.{places_of}
use Rattle.unit_interface.specs.Order.{repeats}
use Rattle.unit_interface.specs.Circles.{next, LeadsWithin, IsOnCircle, leads, reach, returns}

pub one_true : (a b : Bool) → (a || b) ≡ true → (a ≡ true) ⊎ (b ≡ true)
one_true true b h = inl refl
one_true false b h = inr h

pub or_right : (a b : Bool) → b ≡ true → (a || b) ≡ true
or_right true b h = refl
or_right false b h = h

or_left : (a b : Bool) → a ≡ true → (a || b) ≡ true
or_left true b h = refl
or_left false b h = absurd (cc)

none_is_set : (k : ℕ) → get_or [] k false ≡ true → ⊥
none_is_set zero h = cc
none_is_set (suc k) h = cc

get_or-map : (f : List ℕ → Bool) → f [] ≡ false → (edges : List (List ℕ)) (k : ℕ) → get_or (map f edges) k false ≡ f (get_or edges k [])
get_or-map f none [] zero = sym none
get_or-map f none [] (suc k) = sym none
get_or-map f none (uses ∷ edges) zero = refl
get_or-map f none (uses ∷ edges) (suc k) = get_or-map f none edges k

-- what a test of uses finds
record IsFound (before : List Bool) (target : ℕ) (uses : List ℕ) : Type 0 where
  pub to : ℕ
  pub used : list_any (nat_eq to) uses ≡ true
  pub leads : (to ≡ target) ⊎ (get_or before to false ≡ true)

found : (before : List Bool) (target : ℕ) (uses : List ℕ) → leads before target uses ≡ true → IsFound before target uses
found before target [] h = absurd (cc)
found before target (to ∷ uses) h =
    let here : list_any (nat_eq to) (to ∷ uses) ≡ true = or_left (nat_eq to to) (list_any (nat_eq to) uses) (eq-eqb to to refl) in
    elim (one_true (nat_eq to target || get_or before to false) (leads before target uses) h) [
      | inl first ↦ elim (one_true (nat_eq to target) (get_or before to false) first) [
        | inl same ↦ record { to = to; used = here; leads = inl (eqb-true to target same) }
        | inr set ↦ record { to = to; used = here; leads = inr set }
      ]
      | inr later ↦
          let f = found before target uses later in
          record { to = f.to; used = or_right (nat_eq f.to to) (list_any (nat_eq f.to) uses) f.used; leads = f.leads }
    ]

pub reach_leads : (edges : List (List ℕ)) (steps from target : ℕ) → get_or (reach steps edges target) from false ≡ true → LeadsWithin edges steps from target
reach_leads edges zero from target h = none_is_set from h
reach_leads edges (suc steps) from target h =
    let test : leads (reach steps edges target) target (next edges from) ≡ true = sym (get_or-map (leads (reach steps edges target) target) refl edges from) ∙ h in
    let f = found (reach steps edges target) target (next edges from) test in
    (f.to, f.used, elim f.leads [ inl same ↦ inl same | inr set ↦ inr (reach_leads edges steps f.to target set) ])

test_holds : (before : List Bool) (target to : ℕ) (uses : List ℕ) → list_any (nat_eq to) uses ≡ true
    → (to ≡ target) ⊎ (get_or before to false ≡ true) → leads before target uses ≡ true
test_holds before target to [] used alternative = absurd (cc)
test_holds before target to (one ∷ uses) used alternative =
    elim (one_true (nat_eq to one) (list_any (nat_eq to) uses) used) [
      | inl same ↦
          let is : to ≡ one = eqb-true to one same in
          or_left (nat_eq one target || get_or before one false) (leads before target uses)
          (subst (λ (z : ℕ). (nat_eq z target || get_or before z false) ≡ true) is
          (elim alternative [
            | inl at ↦ or_left (nat_eq to target) (get_or before to false) (eq-eqb to target at)
            | inr set ↦ or_right (nat_eq to target) (get_or before to false) set
          ]))
      | inr later ↦ or_right (nat_eq one target || get_or before one false) (leads before target uses) (test_holds before target to uses later alternative)
    ]

leads_reach : (edges : List (List ℕ)) (steps from target : ℕ) → LeadsWithin edges steps from target → get_or (reach steps edges target) from false ≡ true
leads_reach edges zero from target l = absurd l
leads_reach edges (suc steps) from target (to, used, rest) =
    get_or-map (leads (reach steps edges target) target) refl edges from
    ∙ test_holds (reach steps edges target) target to (next edges from) used
    (elim rest [ inl same ↦ inl same | inr further ↦ inr (leads_reach edges steps to target further) ])

-- a path: the places between the first and the target, in order
abbrev IsPath : List (List ℕ) → ℕ → List ℕ → ℕ → Type 0
IsPath edges from [] target = list_any (nat_eq target) (next edges from) ≡ true
IsPath edges from (to ∷ between) target = (list_any (nat_eq to) (next edges from) ≡ true) × IsPath edges to between target

record Path (edges : List (List ℕ)) (from target : ℕ) : Type 0 where
  pub between : List ℕ
  pub is : IsPath edges from between target

path_of : (edges : List (List ℕ)) (steps from target : ℕ) → LeadsWithin edges steps from target → Path edges from target
path_of edges zero from target l = absurd l
path_of edges (suc steps) from target (to, used, rest) =
    elim rest [
      | inl same ↦ record { between = []; is = subst (λ (z : ℕ). list_any (nat_eq z) (next edges from) ≡ true) same used }
      | inr further ↦ let p = path_of edges steps to target further in record { between = to ∷ p.between; is = (used, p.is) }
    ]

-- a path leads in its length and one step more, or any number of steps above that
path_leads : (edges : List (List ℕ)) (from : ℕ) (between : List ℕ) (target steps : ℕ) → length between < steps
    → IsPath edges from between target → LeadsWithin edges steps from target
path_leads edges from between target zero few is = absurd (omega arith)
path_leads edges from [] target (suc steps) few is = (target, is, inl refl)
path_leads edges from (to ∷ between) target (suc steps) few is =
    (to, is.0, inr (path_leads edges to between target steps (omega arith) is.1))

record Circle (edges : List (List ℕ)) : Type 0 where
  pub place : ℕ
  pub between : List ℕ
  pub is : IsPath edges place between place

-- the path up to a place on it
record Front (edges : List (List ℕ)) (from : ℕ) (whole : List ℕ) (place : ℕ) : Type 0 where
  pub between : List ℕ
  pub is : IsPath edges from between place
  pub shorter : length between < length whole

front : (edges : List (List ℕ)) (from : ℕ) (between : List ℕ) (target place : ℕ) → IsPath edges from between target
    → list_any (nat_eq place) between ≡ true → Front edges from between place
front edges from [] target place is on = absurd (cc)
front edges from (to ∷ between) target place is on =
    elim (one_true (nat_eq place to) (list_any (nat_eq place) between) on) [
      | inl here ↦ record {
        between = [];
        is = subst (λ (z : ℕ). list_any (nat_eq z) (next edges from) ≡ true) (sym (eqb-true place to here)) is.0;
        shorter = omega arith;
      }
      | inr later ↦
          let f = front edges to between target place is.1 later in
          record { between = to ∷ f.between; is = (is.0, f.is); shorter = omega (arith, f.shorter) }
    ]

record Shorter (edges : List (List ℕ)) (whole : List ℕ) : Type 0 where
  pub circle : Circle edges
  pub shorter : length circle.between < length whole

-- a path that meets a place twice has a shorter circle on it
cut : (edges : List (List ℕ)) (from : ℕ) (between : List ℕ) (target : ℕ) → IsPath edges from between target
    → repeats (from ∷ between) ≡ true → Shorter edges between
cut edges from [] target is twice = absurd (cc)
cut edges from (to ∷ between) target is twice =
    elim (one_true (list_any (nat_eq from) (to ∷ between)) (repeats (to ∷ between)) twice) [
      | inl again ↦
          let f = front edges from (to ∷ between) target from is again in
          record { circle = record { place = from; between = f.between; is = f.is }; shorter = f.shorter }
      | inr later ↦
          let s = cut edges to between target is.1 later in
          record { circle = s.circle; shorter = omega (arith, s.shorter) }
    ]

both_false : (a b : Bool) → (a || b) ≡ false → (a ≡ false) × (b ≡ false)
both_false true b h = absurd (cc)
both_false false b h = (refl, h)

none_equal : (x : ℕ) (xs : List ℕ) → list_any (nat_eq x) xs ≡ false → AllByRecursion (λ y. nat_eq x y ≡ false) xs
none_equal x [] h = tt
none_equal x (y ∷ ys) h =
    let both = both_false (nat_eq x y) (list_any (nat_eq x) ys) h in
    (both.0, none_equal x ys both.1)

pub distinct : (xs : List ℕ) → repeats xs ≡ false → IsDistinct nat_eq xs
unfolding IsDistinct
distinct [] h = tt
distinct (x ∷ xs) h =
    let both = both_false (list_any (nat_eq x) xs) (repeats xs) h in
    (none_equal x xs both.0, distinct xs both.1)

-- a place with a use is a unit
pub used_below : (edges : List (List ℕ)) (from to : ℕ) → list_any (nat_eq to) (next edges from) ≡ true → from < length edges
used_below [] zero to h = absurd (cc)
used_below [] (suc from) to h = absurd (cc)
used_below (uses ∷ edges) zero to h = omega arith
used_below (uses ∷ edges) (suc from) to h = let rec = used_below edges from to h in omega arith

path_begins : (edges : List (List ℕ)) (from : ℕ) (between : List ℕ) (target : ℕ) → IsPath edges from between target → from < length edges
path_begins edges from [] target is = used_below edges from target is
path_begins edges from (to ∷ between) target is = used_below edges from to is.0

all_below : (edges : List (List ℕ)) (from : ℕ) (between : List ℕ) (target : ℕ) → IsPath edges from between target
    → (q : ℕ) → list_any (nat_eq q) (from ∷ between) ≡ true → q < length edges
all_below edges from between target is q on =
    elim (one_true (nat_eq q from) (list_any (nat_eq q) between) on) [
      | inl here ↦ subst (λ (z : ℕ). z < length edges) (sym (eqb-true q from here)) (path_begins edges from between target is)
      | inr later ↦ between_below edges from between target is q later
    ]
  where
    between_below : (edges : List (List ℕ)) (from : ℕ) (between : List ℕ) (target : ℕ) → IsPath edges from between target
        → (q : ℕ) → list_any (nat_eq q) between ≡ true → q < length edges
    between_below edges from [] target is q on = absurd (cc)
    between_below edges from (to ∷ between) target is q on =
        elim (one_true (nat_eq q to) (list_any (nat_eq q) between) on) [
          | inl here ↦ subst (λ (z : ℕ). z < length edges) (sym (eqb-true q to here)) (path_begins edges to between target is.1)
          | inr later ↦ between_below edges to between target is.1 q later
        ]

record Returning (edges : List (List ℕ)) : Type 0 where
  pub place : ℕ
  pub known : place < length edges
  pub returns : returns edges place ≡ true

-- a circle, by what is known of shorter ones
by_test : (edges : List (List ℕ)) (c : Circle edges) (b : Bool) → repeats (c.place ∷ c.between) ≡ b
    → ((s : Circle edges) → length s.between < length c.between → Returning edges) → Returning edges
by_test edges c true twice shorter =
    let s = cut edges c.place c.between c.place c.is twice in
    shorter s.circle s.shorter
by_test edges c false once shorter =
    let few_places : length (c.place ∷ c.between) ≤ length edges =
    length-le_from_distinct_below (c.place ∷ c.between) (length edges) (distinct (c.place ∷ c.between) once)
    (all_below edges c.place c.between c.place c.is) in
    let within : length c.between < length edges = omega (arith, few_places) in
    record {
      place = c.place;
      known = path_begins edges c.place c.between c.place c.is;
      returns = leads_reach edges (length edges) c.place c.place (path_leads edges c.place c.between c.place (length edges) within c.is);
    }

short_circle : (edges : List (List ℕ)) (fuel : ℕ) (c : Circle edges) → length c.between < fuel → Returning edges
short_circle edges zero c few = absurd (omega arith)
short_circle edges (suc fuel) c few =
    by_test edges c (repeats (c.place ∷ c.between)) refl (λ s shorter. short_circle edges fuel s (omega (arith, shorter, few)))

-- where no unit is found to return, none lies on a circle
pub no_circle : (edges : List (List ℕ)) → ((place : ℕ) → place < length edges → returns edges place ≡ false)
    → (place : ℕ) → IsOnCircle edges place → ⊥
no_circle edges none place on =
    let p = path_of edges on.steps place place on.leads in
    let c : Circle edges = record { place = place; between = p.between; is = p.is } in
    let r = short_circle edges (suc (length p.between)) c (omega arith) in
    contrary (returns edges r.place) r.returns (none r.place r.known)
  where
    contrary : (b : Bool) → b ≡ true → b ≡ false → ⊥
    contrary b holds fails = cc

pub circle_of : (edges : List (List ℕ)) (place : ℕ) → returns edges place ≡ true → IsOnCircle edges place
circle_of edges place h = record { steps = length edges; leads = reach_leads edges (length edges) place place h }

pub edge_count : (all units : List UsesOf) → length (map (λ unit. places_of all unit.interface) units) ≡ length units
edge_count all [] = refl
edge_count all (unit ∷ units) = let rec = edge_count all units in omega arith
