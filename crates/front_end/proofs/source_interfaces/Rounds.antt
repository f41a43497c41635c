-- Rounds over the sources: each makes an interface more, unless all are there.
use Rattle.std.proofs.Common.{◌≡◌, ℕ, zero, suc, ◌+◌, ◌<◌, ◌≤◌, Bool, true, false, not, ◌||◌, ◌&&◌, cond, nat_lt, nat_eq, List, [], ◌∷◌, ◌++◌, map, length, Option, Some, None, get_or, refl, sym, ap, ◌∙◌, subst, inl, inr, eq-eqb, arith}
use Rattle.std.specs.Prelude.{slice_get}
use Rattle.std.specs.List.{list_any, list_all, position_or_len}
use Rattle.std.proofs.lemmas.Bool.{lt-ltb, ltb-true, ltb-false}
use Rattle.std.proofs.lemmas.List.{length-map}
use Rattle.std.proofs.lemmas.List.Folds.{list_any-append}
use Rattle.std.proofs.lemmas.Option.{slice_get_read, slice_get_within}
use Rattle.std.proofs.lemmas.Slice.Eq.{bytes_eq-Decides}
use Rattle.type_layout.specs.Words.{same_bytes}
use Rattle.syntax_tree.specs.declared.identifier.Identifier.{Identifier}
use Rattle.source_graph.specs.declared.sources.Source.{Source}
use Rattle.unit_interface.specs.declared.interfaces.Interface.{Interface}
use Rattle.unit_interface.specs.declared.edges.UsesOf.{UsesOf}
use Rattle.unit_interface.specs.Uses.{place_of, listed, places_of, interface_edges}
use Rattle.unit_interface.proofs.CircleLaws.{one_true}
use Rattle.source_graph.specs.source_order.Orders.{names_of, uses_in, all_uses}
use Rattle.front_end.specs.source_interfaces.Scopes.{outer_units, is_shown}
use Rattle.front_end.specs.source_interfaces.Interfaces.{AreShown, AreInterfaces, IsDone, IsAcyclic, is_source, lacks, waits, is_settled, IsWaiting, IsStep, IsGrown, IsDeep, IsDoneOrDeep}
use Rattle.front_end.proofs.source_interfaces.Uses.{some_is, contrary}
use Rattle.front_end.proofs.source_interfaces.Extended.{added}
use Rattle.front_end.proofs.source_interfaces.Deep.{too_deep}

both_true : (a b : Bool) → (a && b) ≡ true → (a ≡ true) × (b ≡ true)
both_true true b h = (refl, h)
both_true false b h = absurd (cc)

not_true : (b : Bool) → not b ≡ true → b ≡ false
not_true true h = absurd (cc)
not_true false h = refl

same_is : (name : List ℕ) → same_bytes name name ≡ true
same_is name = (bytes_eq-Decides name name).1 refl

-- ---- where the source of a name stands

-- the source at a place, of which a test of its uses holds
record Found (p : UsesOf → Bool) (sources : List Source) (place : ℕ) : Type 0 where
  pub source : Source
  pub stands : slice_get sources place ≡ Some source
  pub holds : p (uses_in source) ≡ true
  pub within : place < length sources

module _ (p : UsesOf → Bool) where
  by_test : (s : Source) (sources : List Source) (b : Bool) → p (uses_in s) ≡ b → (b ≡ false → Found p sources (position_or_len p (map uses_in sources))) → Found p (s ∷ sources) (position_or_len p (map uses_in (s ∷ sources)))
  by_test s sources true here more = rw here (record { source = s; stands = refl; holds = here; within = omega arith })
  by_test s sources false other more =
      let found = more refl in
      let place = position_or_len p (map uses_in sources) in
      let behind : 1 + place ≡ suc place = omega arith in
      rw other (subst (Found p (s ∷ sources)) (sym behind) (record { source = found.source; stands = found.stands; holds = found.holds; within = omega (arith, found.within) }))

  first_found : (sources : List Source) → list_any (λ (s : Source). p (uses_in s)) sources ≡ true → Found p sources (position_or_len p (map uses_in sources))
  first_found [] some = absurd (cc)
  first_found (s ∷ sources) some =
      by_test s sources (p (uses_in s)) refl (λ other. first_found sources (elim (one_true (p (uses_in s)) (list_any (λ (one : Source). p (uses_in one)) sources) some) [
        | inl first ↦ contrary (p (uses_in s)) first other
        | inr rest ↦ rest
      ]))

pub record Placed (sources : List Source) (name : List ℕ) : Type 0 where
  pub place : ℕ
  pub found : place_of (all_uses sources) name ≡ Some place
  pub source : Source
  pub stands : slice_get sources place ≡ Some source
  pub named : same_bytes name source.name ≡ true

pub placed : (sources : List Source) (name : List ℕ) → is_source sources name ≡ true → Placed sources name
placed sources name is =
    let p = λ (unit : UsesOf). same_bytes name unit.name in
    let f = first_found p sources is in
    let place = position_or_len p (map uses_in sources) in
    let below : place < length (map uses_in sources) = omega (arith, f.within, length-map sources uses_in) in
    record {
      place = place;
      found = ap (λ (b : Bool). cond b (Some place) None) (lt-ltb place (length (map uses_in sources)) below);
      source = f.source;
      stands = f.stands;
      named = f.holds;
    }

-- ---- waiting

record Lacking (sources : List Source) (have : List Interface) (names : List (List ℕ)) : Type 0 where
  pub to : ℕ
  pub source : Source
  pub used : list_any (nat_eq to) (places_of (all_uses sources) names) ≡ true
  pub stands : slice_get sources to ≡ Some source
  pub lacking : is_shown have source.name ≡ false

pub in_left : (q : ℕ) (xs ys : List ℕ) → list_any (nat_eq q) xs ≡ true → list_any (nat_eq q) (xs ++ ys) ≡ true
in_left q xs ys is = list_any-append (nat_eq q) xs ys ∙ ap (λ (b : Bool). b || list_any (nat_eq q) ys) is

pub in_right : (q : ℕ) (xs ys : List ℕ) → list_any (nat_eq q) ys ≡ true → list_any (nat_eq q) (xs ++ ys) ≡ true
in_right q xs ys is = list_any-append (nat_eq q) xs ys ∙ second (list_any (nat_eq q) xs) (list_any (nat_eq q) ys) is
  where
    second : (a b : Bool) → b ≡ true → (a || b) ≡ true
    second true b h = refl
    second false b h = h

pub is_listed : (found : Option ℕ) (place : ℕ) → found ≡ Some place → list_any (nat_eq place) (listed found) ≡ true
is_listed found place is = rw is (ap (λ (b : Bool). b || false) (eq-eqb place place refl))

lacking : (sources : List Source) (have : List Interface) (uses : List Identifier) → list_any (λ (unit : Identifier). lacks sources have unit.name) uses ≡ true → Lacking sources have (names_of uses)
lacking sources have [] some = absurd (cc)
lacking sources have (unit ∷ uses) some =
    elim (one_true (lacks sources have unit.name) (list_any (λ (one : Identifier). lacks sources have one.name) uses) some) [
      | inl here ↦
          let both = both_true (is_source sources unit.name) (not (is_shown have unit.name)) here in
          let p = placed sources unit.name both.0 in
          let same : unit.name ≡ p.source.name = (bytes_eq-Decides unit.name p.source.name).0 p.named in
          record {
            to = p.place;
            source = p.source;
            used = in_left p.place (listed (place_of (all_uses sources) unit.name)) (places_of (all_uses sources) (names_of uses)) (is_listed (place_of (all_uses sources) unit.name) p.place p.found);
            stands = p.stands;
            lacking = subst (λ (n : List ℕ). is_shown have n ≡ false) same (not_true (is_shown have unit.name) both.1);
          }
      | inr later ↦
          let l = lacking sources have uses later in
          record {
            to = l.to;
            source = l.source;
            used = in_right l.to (listed (place_of (all_uses sources) unit.name)) (places_of (all_uses sources) (names_of uses)) l.used;
            stands = l.stands;
            lacking = l.lacking;
          }
    ]

pub edge_at : (all : List UsesOf) (sources : List Source) (place : ℕ) (source : Source) → slice_get sources place ≡ Some source
    → get_or (map (λ (unit : UsesOf). places_of all unit.interface) (map uses_in sources)) place [] ≡ places_of all (names_of (outer_units source))
edge_at all [] place source at = absurd (cc)
edge_at all (s ∷ sources) zero source at = ap (λ (one : Source). places_of all (names_of (outer_units one))) (some_is s source at)
edge_at all (s ∷ sources) (suc place) source at = edge_at all sources place source at

pub waiting : (sources : List Source) (have : List Interface) (place : ℕ) (source : Source) → place < length sources → source ≡ get_or sources place source → waits sources have source ≡ true → IsWaiting sources have place
waiting sources have place source below is some =
    let at = slice_get_read sources (length sources) place source refl below is in
    let l = lacking sources have (outer_units source) some in
    record {
      to = l.to;
      source = l.source;
      used = subst (λ (places : List ℕ). list_any (nat_eq l.to) places ≡ true) (sym (edge_at (all_uses sources) sources place source at)) l.used;
      stands = l.stands;
      lacking = l.lacking;
    }

-- ---- steps

pub done_here : (sources : List Source) (have : List Interface) (place : ℕ) (source : Source) → place < length sources → source ≡ get_or sources place source → is_shown have source.name ≡ true → IsDone sources have place
done_here sources have place source below is shown one at =
    let there = slice_get_read sources (length sources) place source refl below is in
    subst (λ (s : Source). is_shown have s.name ≡ true) (some_is source one (sym there ∙ at)) shown

-- nothing is to be done: the interface is there, or the source waits
pub passed : (sources : List Source) (have : List Interface) (place : ℕ) (source : Source) → place < length sources → source ≡ get_or sources place source
    → is_settled sources have source ≡ true → IsStep sources have have place
passed sources have place source below is some =
    elim (one_true (is_shown have source.name) (waits sources have source) some) [
      | inl shown ↦ inl (done_here sources have place source below is shown)
      | inr waits ↦ inr (waiting sources have place source below is waits)
    ]

-- a source has no interface and waits for none
pub due : (shown waits : Bool) → (shown || waits) ≡ false → waits ≡ false
due true waits none = absurd (cc)
due false waits none = none

pub made : (sources : List Source) (have new : List Interface) (place : ℕ) (source : Source) (interface : Interface) → new ≡ have ++ interface ∷ [] → place < length sources → source ≡ get_or sources place source
    → interface.name ≡ source.name → IsStep sources have new place
made sources have new place source interface is below at named =
    let same : same_bytes source.name interface.name ≡ true = subst (λ (n : List ℕ). same_bytes source.name n ≡ true) (sym named) (same_is source.name) in
    let shown : is_shown new source.name ≡ true = ap (λ (all : List Interface). is_shown all source.name) is ∙ added have interface source.name same in
    inl (done_here sources new place source below at shown)

pub then_grown : (old now new : List Interface) → IsGrown old now → IsGrown now new → IsGrown old new
then_grown old now new one two name shown = two name (one name shown)

lacking_before : (b c : Bool) → (b ≡ true → c ≡ true) → c ≡ false → b ≡ false
lacking_before true c grows fails = contrary c (grows refl) fails
lacking_before false c grows fails = refl

pub step_then : (sources : List Source) (old now new : List Interface) (place : ℕ) → IsStep sources old now place → IsGrown now new → IsStep sources old new place
step_then sources old now new place (inl done) grown = inl (λ source at. grown source.name (done source at))
step_then sources old now new place (inr waits) grown = inr waits

pub step_since : (sources : List Source) (old now new : List Interface) (place : ℕ) → IsGrown old now → IsStep sources now new place → IsStep sources old new place
step_since sources old now new place grown (inl done) = inl done
step_since sources old now new place grown (inr w) = inr (record {
  to = w.to;
  source = w.source;
  used = w.used;
  stands = w.stands;
  lacking = lacking_before (is_shown old w.source.name) (is_shown now w.source.name) (λ shown. grown w.source.name shown) w.lacking;
})

-- the steps of a round from a place on, and one place more
pub steps_more : (sources : List Source) (old now new : List Interface) (place before : ℕ) → before ≡ place + 1 → IsGrown old now → IsGrown now new
    → ((k : ℕ) → before ≤ k → IsStep sources old now k) → IsStep sources now new place → (k : ℕ) → place ≤ k → IsStep sources old new k
steps_more sources old now new place before is one two steps step k from = by (nat_lt place k) refl
  where
    by : (b : Bool) → nat_lt place k ≡ b → IsStep sources old new k
    by true further = step_then sources old now new k (steps k (omega (arith, is, ltb-true place k further))) two
    by false here =
        let same : place ≡ k = omega (arith, from, ltb-false place k here) in
        subst (IsStep sources old new) same (step_since sources old now new place one step)

-- ---- rounds

pub edges_count : (sources : List Source) → length (interface_edges (all_uses sources)) ≡ length sources
edges_count sources = length-map (all_uses sources) (λ (unit : UsesOf). places_of (all_uses sources) unit.interface) ∙ length-map sources uses_in

pub round_more : (sources : List Source) (old new : List Interface) (round : ℕ) → ((place : ℕ) → IsDoneOrDeep sources old round place) → ((place : ℕ) → IsStep sources old new place)
    → (place : ℕ) → IsDoneOrDeep sources new (round + 1) place
round_more sources old new round all steps place = by (steps place)
  where
    by : IsStep sources old new place → IsDoneOrDeep sources new (round + 1) place
    by (inl done) = inl done
    by (inr w) = elim (all w.to) [
      | inl done ↦ contrary (is_shown old w.source.name) (done w.source w.stands) w.lacking
      | inr deep ↦
          let below : w.to < length (interface_edges (all_uses sources)) = omega (arith, slice_get_within sources w.to w.source w.stands, edges_count sources) in
          let next : suc round ≡ round + 1 = omega arith in
          inr (subst (λ (n : ℕ). IsDeep (interface_edges (all_uses sources)) n place) next (w.to, w.used, below, deep))
    ]

pub all_done : (sources : List Source) (have : List Interface) (round : ℕ) → IsAcyclic sources → length sources ≤ round → ((place : ℕ) → IsDoneOrDeep sources have round place) → (place : ℕ) → IsDone sources have place
all_done sources have round acyclic past all place source at =
    elim (all place) [
      | inl done ↦ done source at
      | inr deep ↦
          let below = slice_get_within sources place source at in
          let count = edges_count sources in
          absurd (too_deep (interface_edges (all_uses sources)) acyclic round place (omega (arith, past, count)) (omega (arith, below, count)) deep)
    ]

all_shown : (all : List Source) (have : List Interface) → list_all (λ (source : Source). is_shown have source.name) all ≡ true → (place : ℕ) (source : Source) → slice_get all place ≡ Some source → is_shown have source.name ≡ true
all_shown [] have shown place source at = absurd (cc)
all_shown (s ∷ all) have shown zero source at =
    subst (λ (one : Source). is_shown have one.name ≡ true) (some_is s source at) (both_true (is_shown have s.name) (list_all (λ (one : Source). is_shown have one.name) all) shown).0
all_shown (s ∷ all) have shown (suc place) source at =
    all_shown all have (both_true (is_shown have s.name) (list_all (λ (one : Source). is_shown have one.name) all) shown).1 place source at

pub interfaces_shown : (sources : List Source) (have : List Interface) → AreShown sources have → list_all (λ (source : Source). is_shown have source.name) sources ≡ true → AreInterfaces sources have
interfaces_shown sources have shown all = record { shown = shown; all = λ place source at. all_shown sources have all place source at }

pub interfaces_deep : (sources : List Source) (have : List Interface) (round : ℕ) → IsAcyclic sources → length sources ≤ round → AreShown sources have → ((place : ℕ) → IsDoneOrDeep sources have round place) → AreInterfaces sources have
interfaces_deep sources have round acyclic past shown all = record { shown = shown; all = all_done sources have round acyclic past all }
