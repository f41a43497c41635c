-- A walk from the items meets exactly the types that they reach.
use Rattle.std.proofs.Common.{◌≡◌, ℕ, zero, suc, ◌+◌, ◌<◌, ℤ, Bool, true, false, ◌&&◌, cond, List, [], ◌∷◌, ◌++◌, length, Option, Some, None, get_or, take, refl, arith, sym, ap, ◌∙◌, subst, ◌⊎◌, inl, inr, nat_eq, nat_lt, eqb-true, length-append}
use Rattle.std.specs.Prelude.{slice_get, ◌↔◌}
use Rattle.std.proofs.lemmas.Bool.{ltb-true, lt-ltb}
use Rattle.std.proofs.lemmas.Map.Views.{any-filter_same}
use Rattle.std.proofs.lemmas.Option.{slice_get_past, slice_get-get_or}
use Rattle.type_layout.specs.declared.definitions.Host.TheVariants as host
use Rattle.type_layout.specs.declared.definitions.TypeDef.{TypeDef}
use Rattle.type_layout.specs.declared.definitions.TypeDef.TheVariants.{Ordinal, Str}
use Rattle.typed_tree.specs.declared.units.Item.{Item}
use Rattle.unit_interface.specs.declared.visits.Progress.{Progress}
use Rattle.unit_interface.specs.Circles.{next}
use Rattle.unit_interface.specs.Order.{no_progress, meet, finish, visit_each, visit, IsOrderFor}
use Rattle.unit_interface.specs.Misfits.{is_enumeration}
use Rattle.unit_interface.specs.Exports.{in_type, in_items, in_found, behind, in_front, with_type, goes_with, is_in, known, edges_from, type_edges, reached, ReachedWithin, IsReached, IsClosed}
use Rattle.unit_interface.proofs.OrderLaws.{IsIn, contrary, in_append, in_left, in_right, in_one, only_one}
use Rattle.unit_interface.proofs.MergeLaws.{take-next}
use Rattle.unit_interface.proofs.NeededLaws.{AreUnits, order_from}

pub both_true : (a b : Bool) → (a && b) ≡ true → (a ≡ true) × (b ≡ true)
both_true true b h = (refl, h)
both_true false b h = absurd (cc)

true_both : (a b : Bool) → a ≡ true → b ≡ true → (a && b) ≡ true
true_both true b h k = k
true_both false b h k = absurd (cc)

-- ---- numbers of types of the table

in_filtered : (count q : ℕ) (numbers : List ℕ) → is_in (known count numbers) q ≡ (nat_lt q count && is_in numbers q)
in_filtered count q numbers =
    any-filter_same (nat_eq q) (λ number. nat_lt number count) (nat_lt q count)
    (λ k same. ap (λ (z : ℕ). nat_lt z count) (sym (eqb-true q k same))) numbers

in_known : (count q : ℕ) (numbers : List ℕ) → IsIn q (known count numbers) → IsIn q numbers × (q < count)
in_known count q numbers h =
    let both = both_true (nat_lt q count) (is_in numbers q) (sym (in_filtered count q numbers) ∙ h) in
    (both.1, ltb-true q count both.0)

known_in : (count q : ℕ) (numbers : List ℕ) → IsIn q numbers → q < count → IsIn q (known count numbers)
known_in count q numbers h below =
    in_filtered count q numbers ∙ true_both (nat_lt q count) (is_in numbers q) (lt-ltb q count below) h

-- ---- edges

-- a number that is written in another way
moved : (table : List TypeDef) (m n to : ℕ) (one : Option TypeDef) → m ≡ n → IsIn to (known (length table) (goes_with table m one))
    → IsIn to (known (length table) (goes_with table n one))
moved table m n to one same h = subst (λ (k : ℕ). IsIn to (known (length table) (goes_with table k one))) same h

-- what an edge says: a type goes with the other, or it begins at the items
from_edge : (table : List TypeDef) (number : ℕ) (types : List TypeDef) (last : List ℕ) (from to : ℕ)
    → IsIn to (get_or (edges_from table number types ++ last ∷ []) from [])
    → IsIn to (known (length table) (goes_with table (from + number) (slice_get types from))) ⊎ ((from ≡ length types) × IsIn to last)
from_edge table number [] last zero to h = inr (refl, h)
from_edge table number [] last (suc from) to h = contrary false h refl
from_edge table number (one ∷ types) last zero to h = inl (moved table number (zero + number) to (Some one) (omega arith) h)
from_edge table number (one ∷ types) last (suc from) to h =
    elim (from_edge table (number + 1) types last from to h) [
      | inl named ↦ inl (moved table (from + (number + 1)) (suc from + number) to (slice_get types from) (omega arith) named)
      | inr items ↦ inr (omega (arith, items.0), items.1)
    ]

type_edge : (table : List TypeDef) (number : ℕ) (types : List TypeDef) (last : List ℕ) (from to : ℕ)
    → IsIn to (known (length table) (goes_with table (from + number) (slice_get types from)))
    → IsIn to (get_or (edges_from table number types ++ last ∷ []) from [])
type_edge table number [] last zero to h = contrary false h refl
type_edge table number [] last (suc from) to h = contrary false h refl
type_edge table number (one ∷ types) last zero to h = moved table (zero + number) number to (Some one) (omega arith) h
type_edge table number (one ∷ types) last (suc from) to h =
    type_edge table (number + 1) types last from to (moved table (suc from + number) (from + (number + 1)) to (slice_get types from) (omega arith) h)

-- the same, of types from 0 on
abbrev begins_at : List TypeDef → ℕ → ℕ → Type 0
begins_at types from to = IsIn to (known (length types) (goes_with types from (slice_get types from)))

edge_says : (types : List TypeDef) (last : List ℕ) (from to : ℕ) → IsIn to (get_or (edges_from types 0 types ++ last ∷ []) from [])
    → begins_at types from to ⊎ ((from ≡ length types) × IsIn to last)
edge_says types last from to h =
    elim (from_edge types 0 types last from to h) [
      | inl named ↦ inl (moved types (from + 0) from to (slice_get types from) (omega arith) named)
      | inr items ↦ inr items
    ]

edge_of : (types : List TypeDef) (last : List ℕ) (from to : ℕ) → begins_at types from to → IsIn to (get_or (edges_from types 0 types ++ last ∷ []) from [])
edge_of types last from to h =
    type_edge types 0 types last from to (moved types from (from + 0) to (slice_get types from) (omega arith) h)

length-edges : (table : List TypeDef) (number : ℕ) (types : List TypeDef) → length (edges_from table number types) ≡ length types
length-edges table number [] = refl
length-edges table number (one ∷ types) = ap suc (length-edges table (number + 1) types)

item_edge : (table : List TypeDef) (number : ℕ) (types : List TypeDef) (last : List ℕ) (to : ℕ) → IsIn to last
    → IsIn to (get_or (edges_from table number types ++ last ∷ []) (length types) [])
item_edge table number [] last to h = h
item_edge table number (one ∷ types) last to h = item_edge table (number + 1) types last to h

edge_count : (types : List TypeDef) (items : List Item) → length (type_edges types items) ≡ length types + 1
edge_count types items =
    length-append (edges_from types 0 types) (known (length types) (in_items items) ∷ [])
    ∙ ap (λ (n : ℕ). n + 1) (length-edges types 0 types)

edges_known : (types : List TypeDef) (items : List Item) → AreUnits (type_edges types items)
edges_known types items from to h =
    let count = edge_count types items in
    elim (edge_says types (known (length types) (in_items items)) from to h) [
      | inl named ↦
          let k = in_known (length types) to (goes_with types from (slice_get types from)) named in
          omega (arith, k.1, count)
      | inr items_ ↦
          let k = in_known (length types) to (in_items items) items_.1 in
          omega (arith, k.1, count)
    ]

-- ---- with each type those that it names, and those that the items name

is_order : (types : List TypeDef) (items : List Item) → IsOrderFor (type_edges types items) (length types) (reached types items)
unfolding reached
is_order types items =
    order_from (type_edges types items) (edges_known types items) (length types) (omega (arith, edge_count types items))
    (length (type_edges types items)) refl

start_in : (types : List TypeDef) (items : List Item) → IsIn (length types) (reached types items)
start_in types items =
    let order = is_order types items in
    subst (λ (xs : List ℕ). IsIn (length types) xs) (sym order.last) (in_right (length types) order.before (length types ∷ []) (in_one (length types)))

-- what goes with a type that is reached is reached
closed_with : (types : List TypeDef) (items : List Item) (from to : ℕ) → IsIn from (reached types items) → IsIn to (goes_with types from (slice_get types from))
    → to < length types → IsIn to (reached types items)
closed_with types items from to met named below =
    (is_order types items).needed from to met
    (edge_of types (known (length types) (in_items items)) from to
    (known_in (length types) to (goes_with types from (slice_get types from)) named below))

-- what is said to go with a type of a table: what it names or what is behind it, and what is in front of it
pub goes_along : (types : List TypeDef) (from to : ℕ) (one : Option TypeDef) → IsIn to (with_type from one) → IsIn to (goes_with types from one)
goes_along types from to None h = h
goes_along types from to (Some one) h = in_left to (with_type from (Some one)) (in_front types from) h

pub goes_in_front : (types : List TypeDef) (from to : ℕ) (one : TypeDef) → IsIn to (in_front types from) → IsIn to (goes_with types from (Some one))
goes_in_front types from to one h = in_right to (with_type from (Some one)) (in_front types from) h

pub goes_either : (types : List TypeDef) (from to : ℕ) (one : Option TypeDef) → IsIn to (goes_with types from one)
    → IsIn to (with_type from one) ⊎ IsIn to (in_front types from)
goes_either types from to None h = inl h
goes_either types from to (Some one) h = in_append to (with_type from (Some one)) (in_front types from) h

-- in front of a type is what is before it
pub front_low : (types : List TypeDef) (from to : ℕ) → IsIn to (in_front types from) → to < from
front_low types zero to h = contrary false h refl
front_low types (suc from) to h = by (is_enumeration (slice_get types from)) h
  where
    by : (b : Bool) → IsIn to (cond b (from ∷ []) []) → to < suc from
    by true h = let last = only_one to from h in omega (arith, last)
    by false h = contrary false h refl

-- and of the types up to there alone
pub front_same : (types other : List TypeDef) (from : ℕ) → ((number : ℕ) → number < from → slice_get types number ≡ slice_get other number)
    → in_front types from ≡ in_front other from
front_same types other zero same = refl
front_same types other (suc from) same =
    ap (λ (o : Option TypeDef). cond (is_enumeration o) (from ∷ []) []) (same from (omega arith))

-- an ordinal type of an enumeration is in front of the next type
pub is_front : (types : List TypeDef) (number : ℕ) (low high : ℤ) → slice_get types number ≡ Some (Ordinal host.Enumeration low high)
    → IsIn number (in_front types (number + 1))
is_front types number low high at =
    let so : (o : Option TypeDef) → slice_get types number ≡ o → is_enumeration o ≡ true → IsIn number (in_front types (suc number)) =
    λ o is held. ap (λ (z : Option TypeDef). is_in (cond (is_enumeration z) (number ∷ []) []) number) is
    ∙ ap (λ (b : Bool). is_in (cond b (number ∷ []) []) number) held ∙ in_one number in
    subst (λ (n : ℕ). IsIn number (in_front types n)) (let e : suc number ≡ number + 1 = omega arith in e)
    (so (Some (Ordinal host.Enumeration low high)) at refl)

-- what a type names goes with it
named_with : (types : List TypeDef) (from to : ℕ) (one : Option TypeDef) → IsIn to (in_found one) → IsIn to (goes_with types from one)
named_with types from to None h = h
named_with types from to (Some one) h = goes_along types from to (Some one) (in_left to (in_type one) (behind from one) h)

pub is_closed : (types : List TypeDef) (items : List Item) → IsClosed types (reached types items)
is_closed types items from to met named below = closed_with types items from to met (named_with types from to (slice_get types from) named) below

complete : (types : List TypeDef) (items : List Item) (steps number : ℕ) → ReachedWithin steps types items number → IsIn number (reached types items)
complete types items zero number h =
    (is_order types items).needed (length types) number (start_in types items)
    (item_edge types 0 types (known (length types) (in_items items)) number
    (known_in (length types) number (in_items items) h.0 h.1))
complete types items (suc steps) number h =
    closed_with types items h.0 number (complete types items steps h.0 h.1) h.2 h.3

-- ---- no others

-- the number that stands for the items, or a type that they reach
abbrev IsMet : List TypeDef → List Item → ℕ → Type 0
IsMet types items number = (number ≡ length types) ⊎ IsReached types items number

abbrev AreMet : List TypeDef → List Item → List ℕ → Type 0
AreMet types items numbers = (q : ℕ) → IsIn q numbers → IsMet types items q

named_past : (types : List TypeDef) (number to : ℕ) → number ≡ length types → IsIn to (goes_with types number (slice_get types number)) → ⊥
named_past types number to past named =
    let none : slice_get types number ≡ None = slice_get_past types number (omega (arith, past)) in
    contrary false (subst (λ (o : Option TypeDef). IsIn to (goes_with types number o)) none named) refl

next_met : (types : List TypeDef) (items : List Item) (from to : ℕ) → IsMet types items from → IsIn to (next (type_edges types items) from)
    → IsMet types items to
next_met types items from to met h =
    elim (edge_says types (known (length types) (in_items items)) from to h) [
      | inl named ↦
          let k = in_known (length types) to (goes_with types from (slice_get types from)) named in
          elim met [
            | inl start ↦ absurd (named_past types from to start k.0)
            | inr by ↦ inr (record { steps = suc by.steps; within = (from, by.within, k.0, k.1) })
          ]
      | inr started ↦
          let k = in_known (length types) to (in_items items) started.1 in
          inr (record { steps = 0; within = (k.0, k.1) })
    ]

by_test : (types : List TypeDef) (items : List Item) (b : Bool) (old new : Progress) → AreMet types items old.order → AreMet types items new.order
    → AreMet types items (cond b old new).order
by_test types items true old new one other = one
by_test types items false old new one other = other

visits_met : (types : List TypeDef) (items : List Item) (one : Progress → ℕ → Progress)
    → ((p : Progress) (place : ℕ) → IsMet types items place → AreMet types items p.order → AreMet types items (one p place).order)
    → (p : Progress) (places : List ℕ) → AreMet types items places → AreMet types items p.order
    → AreMet types items (visit_each one p places).order
visits_met types items one visits p [] all so_far = so_far
visits_met types items one visits p (place ∷ places) all so_far =
    visits_met types items one visits (one p place) places (λ q h. all q (in_right q (place ∷ []) places h))
    (visits p place (all place (in_here place places)) so_far)
  where
    in_here : (place : ℕ) (places : List ℕ) → IsIn place (place ∷ places)
    in_here place places = in_left place (place ∷ []) places (in_one place)

visit_met : (types : List TypeDef) (items : List Item) (room : ℕ) (p : Progress) (place : ℕ) → IsMet types items place → AreMet types items p.order
    → AreMet types items (visit room (type_edges types items) p place).order
visit_met types items zero p place met so_far = so_far
visit_met types items (suc room) p place met so_far =
    let edges : List (List ℕ) = type_edges types items in
    let inner : Progress = visit_each (visit room edges) (meet place p) (get_or edges place []) in
    let below = visits_met types items (visit room edges) (λ q one m h. visit_met types items room q one m h) (meet place p) (get_or edges place [])
    (λ to h. next_met types items place to met h) so_far in
    by_test types items (is_in p.met place) p (finish place inner) so_far
    (λ q h. elim (in_append q inner.order (place ∷ []) h) [
      | inl before ↦ below q before
      | inr last ↦ subst (λ (z : ℕ). IsMet types items z) (sym (only_one q place last)) met
    ])

sound : (types : List TypeDef) (items : List Item) → AreMet types items (reached types items)
unfolding reached
sound types items =
    visit_met types items (length (type_edges types items)) no_progress (length types) (inl refl) (λ q h. contrary false h refl)

-- of the types of a table, exactly those that the items reach
pub exactly : (types : List TypeDef) (items : List Item) (number : ℕ) → number < length types
    → (is_in (reached types items) number ≡ true) ↔ IsReached types items number
exactly types items number below = (
  λ met. elim (sound types items number met) [ inl start ↦ absurd (omega (arith, start, below)) | inr by ↦ by ],
  λ by. complete types items by.steps number by.within,
)

-- the edges of types with those of a further one
edges-push : (table : List TypeDef) (number : ℕ) (types : List TypeDef) (one : TypeDef)
    → edges_from table number (types ++ one ∷ [])
    ≡ edges_from table number types ++ known (length table) (goes_with table (length types + number) (Some one)) ∷ []
edges-push table number [] one =
    let n : number ≡ length {A = TypeDef} [] + number = omega arith in
    ap (λ (k : ℕ). known (length table) (goes_with table k (Some one)) ∷ []) n
edges-push table number (x ∷ types) one =
    let n : length types + (number + 1) ≡ suc (length types) + number = omega arith in
    ap (λ (rest : List (List ℕ)). known (length table) (goes_with table number (Some x)) ∷ rest)
    (edges-push table (number + 1) types one
    ∙ ap (λ (k : ℕ). edges_from table (number + 1) types ++ known (length table) (goes_with table k (Some one)) ∷ []) n)

take_length : (types : List TypeDef) (number : ℕ) (one : TypeDef) → slice_get types number ≡ Some one → length (take number types) ≡ number
take_length [] zero one at = cc
take_length [] (suc number) one at = cc
take_length (x ∷ types) zero one at = refl
take_length (x ∷ types) (suc number) one at = ap suc (take_length types number one at)

pub edges-step : (types : List TypeDef) (edges : List (List ℕ)) (number : ℕ) (beside : List ℕ) → number < length types
    → beside ≡ known (length types) (goes_with types number (slice_get types number)) → edges ≡ edges_from types 0 (take number types)
    → edges ++ beside ∷ [] ≡ edges_from types 0 (take (number + 1) types)
edges-step types edges number beside below is so_far =
    let one : TypeDef = get_or types number (Str 0) in
    let at : slice_get types number ≡ Some one = slice_get-get_or types number (Str 0) below in
    let n : length (take number types) + 0 ≡ number = (let l = take_length types number one at in omega (arith, l)) in
    let last : beside ≡ known (length types) (goes_with types (length (take number types) + 0) (Some one)) =
    is ∙ ap (λ (o : Option TypeDef). known (length types) (goes_with types number o)) at
    ∙ ap (λ (k : ℕ). known (length types) (goes_with types k (Some one))) (sym n) in
    rw (take-next types number one at, edges-push types 0 (take number types) one, so_far, last) refl
