-- What items show of a table is what they show of a longer one, where they reach no further.
use Rattle.std.proofs.Common.{◌≡◌, ◌∙◌, ℕ, zero, suc, ◌+◌, ◌-◌, ◌<◌, ◌≤◌, Bool, true, false, ◌&&◌, cond, nat_eq, nat_lt, List, [], ◌∷◌, ◌++◌, map, length, get_or, Option, Some, None, refl, sym, ap, subst, arith, inl, inr, length-append, eqb-true}
use Rattle.std.specs.Prelude.{slice_get}
use Rattle.std.proofs.lemmas.Bool.{ltb-true, lt-ltb}
use Rattle.std.proofs.lemmas.Map.Views.{any-filter_same}
use Rattle.std.proofs.lemmas.List.{get_or_append_left}
use Rattle.std.proofs.lemmas.Option.{slice_get_within, get_or_from_slice_get}
use Rattle.front_end.specs.type_layout.declared.definitions.TypeId.{TypeId}
use Rattle.front_end.specs.type_layout.declared.definitions.TypeDef.{TypeDef}
use Rattle.front_end.specs.type_layout.declared.definitions.Origin.{Origin}
use Rattle.front_end.specs.type_layout.Table.{Table, place_of, with_type}
use Rattle.front_end.specs.typed_tree.declared.units.Item.{Item}
use Rattle.front_end.specs.unit_interface.Merge.{new_id, renumbered, with_listed}
use Rattle.front_end.specs.unit_interface.Exports as exports
use Rattle.front_end.specs.unit_interface.Exports.{in_type, in_items, behind, in_front, is_in, known, ReachedWithin, IsReached, kept_before, new_ids, with_kept, kept, renumbered_item}
use Rattle.front_end.proofs.unit_interface_proofs.ReachLaws.{goes_either, front_low, front_same}
use Rattle.interface_soundness.specs.interfaces.Agreement.{IsPaired, IsWellScoped}
use Rattle.interface_soundness.proofs.interfaces.Growing.{Grows}
use Rattle.interface_soundness.proofs.interfaces.Renumbered.{AreBelow, below_all, below_first, same_type, same_items}

slice_left : {X : Type 0} (xs ys : List X) (n : ℕ) → n < length xs → slice_get (xs ++ ys) n ≡ slice_get xs n
slice_left [] ys n h = absurd (omega arith)
slice_left (x ∷ xs) ys zero h = refl
slice_left (x ∷ xs) ys (suc n) h = slice_left xs ys n (omega arith)

-- ---- numbers of types of a table

in_known : (count q : ℕ) (numbers : List ℕ) → is_in (known count numbers) q ≡ (nat_lt q count && is_in numbers q)
in_known count q numbers =
    any-filter_same (nat_eq q) (λ number. nat_lt number count) (nat_lt q count)
    (λ k same. ap (λ (z : ℕ). nat_lt z count) (sym (eqb-true q k same))) numbers

pub known_below : (count q : ℕ) (numbers : List ℕ) → q < count → is_in (known count numbers) q ≡ is_in numbers q
known_below count q numbers h = in_known count q numbers ∙ ap (λ (b : Bool). b && is_in numbers q) (lt-ltb q count h)

known_true : (b c : Bool) → (b && c) ≡ true → b ≡ true
known_true true c h = refl
known_true false c h = h

pub known_past : (count q : ℕ) (numbers : List ℕ) → is_in (known count numbers) q ≡ true → q < count
known_past count q numbers h = ltb-true q count (known_true (nat_lt q count) (is_in numbers q) (sym (in_known count q numbers) ∙ h))

pub is_none : (b : Bool) → (b ≡ true → ⊥) → b ≡ false
is_none true h = absurd (h refl)
is_none false h = refl

-- ---- new ids of the first types

length-ids : (numbers : List ℕ) (n : ℕ) → length (new_ids numbers n) ≡ n
length-ids numbers zero = refl
length-ids numbers (suc n) =
    let one : TypeId = record { 0 = kept_before numbers n } in
    let before = length-ids numbers n in
    omega (arith, length-append (new_ids numbers n) (one ∷ []))

ids_left : (numbers : List ℕ) (n k m i : ℕ) (d : TypeId) → m ≡ n + k → i < n → get_or (new_ids numbers m) i d ≡ get_or (new_ids numbers n) i d
ids_left numbers n zero m i d e h = ap (λ (z : ℕ). get_or (new_ids numbers z) i d) (let same : m ≡ n = omega arith in same)
ids_left numbers n (suc k) m i d e h =
    let more : TypeId = record { 0 = kept_before numbers (n + k) } in
    let long = length-ids numbers (n + k) in
    let within : i < length (new_ids numbers (n + k)) = omega arith in
    ap (λ (z : ℕ). get_or (new_ids numbers z) i d) (let same : m ≡ suc (n + k) = omega arith in same)
    ∙ get_or_append_left (new_ids numbers (n + k)) (more ∷ []) d i within
    ∙ ids_left numbers n k (n + k) i d refl h

-- types past the first that are not kept change nothing
kept_left : (own : Table) (numbers : List ℕ) (ids : List TypeId) (n k m : ℕ) → m ≡ n + k → ((i : ℕ) → n ≤ i → i < m → is_in numbers i ≡ false)
    → kept own numbers ids m ≡ kept own numbers ids n
kept_left own numbers ids n zero m e none = ap (λ (z : ℕ). kept own numbers ids z) (let same : m ≡ n = omega arith in same)
kept_left own numbers ids n (suc k) m e none =
    let last : is_in numbers (n + k) ≡ false = none (n + k) (omega arith) (omega arith) in
    ap (λ (z : ℕ). kept own numbers ids z) (let same : m ≡ suc (n + k) = omega arith in same)
    ∙ ap (λ (b : Bool). cond b (with_kept own ids (kept own numbers ids (n + k)) (n + k)) (kept own numbers ids (n + k))) last
    ∙ kept_left own numbers ids n k (n + k) refl (λ i low high. none i low (omega arith))

module _ (own more : Table) (items : List Item) (grows : Grows own more) (grown : IsPaired own) (closed : IsWellScoped own.types items) where
  pub longer : length own.types ≤ length more.types
  longer = omega (arith, ap length grows.has_types, length-append own.types grows.types)

  type_at : (n : ℕ) → n < length own.types → slice_get more.types n ≡ slice_get own.types n
  type_at n h = ap (λ (l : List TypeDef). slice_get l n) grows.has_types ∙ slice_left own.types grows.types n h

  origin_at : (n : ℕ) → n < length own.types → slice_get more.origins n ≡ slice_get own.origins n
  origin_at n h =
      let within : n < length own.origins = omega (arith, grown.paired) in
      ap (λ (l : List Origin). slice_get l n) grows.has_origins ∙ slice_left own.origins grows.origins n within

  -- ---- reached

  reached_below : (steps n : ℕ) → ReachedWithin steps own.types items n → n < length own.types
  reached_below zero n h = h.1
  reached_below (suc steps) n h = h.3

  -- what goes with a type of the table is the same in the longer one
  goes_same : (by : ℕ) → by < length own.types → exports.goes_with more.types by (slice_get more.types by) ≡ exports.goes_with own.types by (slice_get own.types by)
  goes_same by low =
      ap (exports.goes_with more.types by) (type_at by low) ∙ in_table (slice_get own.types by)
    where
      front : in_front more.types by ≡ in_front own.types by
      front = front_same more.types own.types by (λ number before. type_at number (omega (arith, before, low)))

      in_table : (one : Option TypeDef) → exports.goes_with more.types by one ≡ exports.goes_with own.types by one
      in_table None = refl
      in_table (Some one) = ap (λ (l : List ℕ). exports.with_type by (Some one) ++ l) front

  -- and is of the table
  goes_below : (by n : ℕ) → by < length own.types → is_in (exports.goes_with own.types by (slice_get own.types by)) n ≡ true → n < length own.types
  goes_below by n low goes =
      elim (goes_either own.types by n (slice_get own.types by) goes) [
        | inl named ↦ closed.beside by n named
        | inr front ↦ (let before = front_low own.types by n front in omega (arith, before, low))
      ]

  reach_less : (steps n : ℕ) → ReachedWithin steps more.types items n → ReachedWithin steps own.types items n
  reach_less zero n h = (h.0, closed.named n h.0)
  reach_less (suc steps) n h =
      let by = h.0 in
      let before : ReachedWithin steps own.types items by = reach_less steps by h.1 in
      let low = reached_below steps by before in
      let goes : is_in (exports.goes_with own.types by (slice_get own.types by)) n ≡ true = ap (λ (l : List ℕ). is_in l n) (sym (goes_same by low)) ∙ h.2 in
      (by, before, goes, goes_below by n low goes)

  reach_more : (steps n : ℕ) → ReachedWithin steps own.types items n → ReachedWithin steps more.types items n
  reach_more zero n h = (h.0, (let below = h.1 in let l = longer in omega arith))
  reach_more (suc steps) n h =
      let by = h.0 in
      let goes : is_in (exports.goes_with more.types by (slice_get more.types by)) n ≡ true = ap (λ (l : List ℕ). is_in l n) (goes_same by (reached_below steps by h.1)) ∙ h.2 in
      (by, reach_more steps by h.1, goes, (let below = h.3 in let l = longer in omega arith))

  pub is_reached_less : (n : ℕ) → IsReached more.types items n → IsReached own.types items n
  is_reached_less n h = record { steps = h.steps; within = reach_less h.steps n h.within }

  pub is_reached_more : (n : ℕ) → IsReached own.types items n → IsReached more.types items n
  is_reached_more n h = record { steps = h.steps; within = reach_more h.steps n h.within }

  pub reached_stays : (n : ℕ) → IsReached more.types items n → n < length own.types
  reached_stays n h = reached_below h.steps n (reach_less h.steps n h.within)

  -- ---- kept

  module _ (numbers : List ℕ) (none : (n : ℕ) → length own.types ≤ n → n < length more.types → is_in numbers n ≡ false) where
    same_id : (ty : TypeId) → ty.0 < length own.types → new_id (new_ids numbers (length more.types)) ty ≡ new_id (new_ids numbers (length own.types)) ty
    same_id ty h =
        let l = longer in
        ids_left numbers (length own.types) (length more.types - length own.types) (length more.types) ty.0 ty (omega arith) h

    -- a type that is kept, with its origin
    same_listed : (n : ℕ) (table : Table) (one : Option TypeDef) (origin : Option Origin) → slice_get own.types n ≡ one → slice_get own.origins n ≡ origin
        → with_listed (new_ids numbers (length more.types)) table more.units one origin ≡ with_listed (new_ids numbers (length own.types)) table own.units one origin
    same_listed n table None origin e f = refl
    same_listed n table (Some one) None e f = refl
    same_listed n table (Some one) (Some origin) e f =
        let ids = new_ids numbers (length more.types) in
        let at = slice_get_within own.origins n origin f in
        let known_unit = grown.known n origin at in
        let unit : origin.unit < length own.units = subst (λ (o : Origin). o.unit < length own.units) (get_or_from_slice_get own.origins n origin origin f) known_unit in
        let name = get_or own.units origin.unit [] in
        let named : get_or more.units origin.unit [] ≡ name =
        ap (λ (l : List (List ℕ)). get_or l origin.unit []) grows.has_units ∙ get_or_append_left own.units grows.units [] origin.unit unit in
        let P : Option TypeDef → Type 0 = λ found. (x : ℕ) → is_in (exports.with_type n found) x ≡ true → x < length own.types in
        let inside : (x : ℕ) → is_in (in_type one ++ behind n one) x ≡ true → x < length own.types = subst P e (closed.beside n) in
        let below : AreBelow (length own.types) (in_type one) = below_first (length own.types) (in_type one) (behind n one) (below_all (length own.types) (in_type one ++ behind n one) inside) in
        ap (λ (x : List ℕ). with_type table x origin.number (renumbered ids (place_of table.units x) one)) named
        ∙ ap (λ (t : TypeDef). with_type table name origin.number t) (same_type (length own.types) ids (new_ids numbers (length own.types)) same_id (place_of table.units name) one below)

    same_kept_one : (n : ℕ) (table : Table) → n < length own.types
        → with_kept more (new_ids numbers (length more.types)) table n ≡ with_kept own (new_ids numbers (length own.types)) table n
    same_kept_one n table h =
        let ids = new_ids numbers (length more.types) in
        ap (λ (one : Option TypeDef). with_listed ids table more.units one (slice_get more.origins n)) (type_at n h)
        ∙ ap (λ (origin : Option Origin). with_listed ids table more.units (slice_get own.types n) origin) (origin_at n h)
        ∙ same_listed n table (slice_get own.types n) (slice_get own.origins n) refl refl

    same_kept : (n : ℕ) → n ≤ length own.types → kept more numbers (new_ids numbers (length more.types)) n ≡ kept own numbers (new_ids numbers (length own.types)) n
    same_kept zero h = refl
    same_kept (suc n) h =
        let ids = new_ids numbers (length more.types) in
        let before = same_kept n (omega arith) in
        let now = kept own numbers (new_ids numbers (length own.types)) n in
        ap (λ (t : Table). cond (is_in numbers n) (with_kept more ids t n) t) before
        ∙ ap (λ (t : Table). cond (is_in numbers n) t now) (same_kept_one n now (omega arith))

    pub same_types : kept more numbers (new_ids numbers (length more.types)) (length more.types) ≡ kept own numbers (new_ids numbers (length own.types)) (length own.types)
    same_types =
        let l = longer in
        kept_left more numbers (new_ids numbers (length more.types)) (length own.types) (length more.types - length own.types) (length more.types) (omega arith) none
        ∙ same_kept (length own.types) (omega arith)

    pub same_shown : map (renumbered_item (new_ids numbers (length more.types))) items ≡ map (renumbered_item (new_ids numbers (length own.types))) items
    same_shown =
        same_items (length own.types) (new_ids numbers (length more.types)) (new_ids numbers (length own.types)) same_id items (below_all (length own.types) (in_items items) closed.named)
