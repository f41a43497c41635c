-- Steps of the loops over sources and over uses clauses.
use Rattle.std.proofs.Common.{◌≡◌, ℕ, ◌+◌, ◌<◌, ◌≤◌, nat_lt, Bool, true, false, List, take, length, Some, get_or, refl, sym, ap, ◌∙◌, subst, arith}
use Rattle.std.specs.Prelude.{slice_get, option_map}
use Rattle.std.proofs.lemmas.Bool.{ltb-true, ltb-false}
use Rattle.std.proofs.lemmas.Option.{slice_get-map, slice_get_read, slice_get_within}
use Rattle.syntax_tree.specs.declared.identifier.Identifier.{Identifier}
use Rattle.source_graph.specs.declared.sources.Source.{Source}
use Rattle.type_layout.specs.declared.texts.Place.{Place}
use Rattle.typing_rules.specs.declared.faults.Fault.{Fault}
use Rattle.typing_rules.specs.declared.faults.Rule.TheVariants as rules
use Rattle.typing_rules.specs.Faults.{broken}
use Rattle.unit_interface.specs.Resolve.{is_repeated}
use Rattle.source_graph.specs.source_order.Orders.{names_of}
use Rattle.front_end.specs.source_interfaces.Kinds.{beginning, is_of_kind, AreOfKinds, IsOfWrongKind}

pub some_is : {X : Type 0} (a b : X) → Some a ≡ Some b → a ≡ b
some_is a b same = cc

pub contrary : {A : Type 0} (b : Bool) → b ≡ true → b ≡ false → A
contrary b holds fails = absurd (cc)

-- ---- kinds

-- the source at a place is of the kind that is wanted there
abbrev pub IsKindAt : List Source → ℕ → Type 0
IsKindAt sources place = (source : Source) → slice_get sources place ≡ Some source → is_of_kind sources place source ≡ true

pub kind_here : (sources : List Source) (place : ℕ) (one : Source) → place < length sources → one ≡ get_or sources place one → is_of_kind sources place one ≡ true → IsKindAt sources place
kind_here sources place one below is kind source at =
    let there = slice_get_read sources (length sources) place one refl below is in
    let same : one ≡ source = some_is one source (sym there ∙ at) in
    subst (λ (s : Source). is_of_kind sources place s ≡ true) same kind

pub kinds_more : (sources : List Source) (place : ℕ) (one : Source) → place < length sources → one ≡ get_or sources place one → is_of_kind sources place one ≡ true
    → ((k : ℕ) → k < place → IsKindAt sources k) → (k : ℕ) → k < place + 1 → IsKindAt sources k
kinds_more sources place one below is kind all k within = by (nat_lt k place) refl
  where
    by : (b : Bool) → nat_lt k place ≡ b → IsKindAt sources k
    by true before = all k (ltb-true k place before)
    by false last =
        let same : place ≡ k = omega (arith, within, ltb-false k place last) in
        subst (IsKindAt sources) same (kind_here sources place one below is kind)

pub all_kinds : (sources : List Source) (end : ℕ) → length sources ≤ end → ((place : ℕ) → place < end → IsKindAt sources place) → AreOfKinds sources
all_kinds sources end past all place source at =
    let below = slice_get_within sources place source at in
    all place (omega (arith, past, below)) source at

pub wrong_here : (sources : List Source) (place : ℕ) (one : Source) (begins : Place) (fault : Fault) → place < length sources → one ≡ get_or sources place one → is_of_kind sources place one ≡ false
    → begins ≡ beginning one → fault ≡ broken begins rules.SourceName → IsOfWrongKind sources fault
wrong_here sources place one begins fault below is wrong begin told = record {
  place = place;
  source = one;
  stands = slice_get_read sources (length sources) place one refl below is;
  wrong = wrong;
  told = told ∙ ap (λ (p : Place). broken p rules.SourceName) begin;
}

-- ---- used units

pub name_at : (names : List (List ℕ)) (uses : List Identifier) (place : ℕ) (unit : Identifier) → names ≡ names_of uses → slice_get uses place ≡ Some unit → slice_get names place ≡ Some unit.name
name_at names uses place unit is at =
    ap (λ (all : List (List ℕ)). slice_get all place) is
    ∙ slice_get-map (λ (one : Identifier). one.name) uses place
    ∙ ap (option_map (λ (one : Identifier). one.name)) at

-- a name at a place of the clauses is no repetition
abbrev pub IsOnce : List (List ℕ) → ℕ → Type 0
IsOnce names place = (name : List ℕ) → slice_get names place ≡ Some name → is_repeated (take place names) name ≡ false
