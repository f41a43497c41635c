-- Flags that are set say what some place says.
use Rattle.std.proofs.Common.{◌≡◌, ℕ, zero, suc, ◌+◌, ◌<◌, ◌≤◌, Bool, true, false, cond, eqb, List, [], ◌∷◌, ◌++◌, length, get_or, Option, Some, None, ◌≢◌, ◌⊎◌, refl, sym, ap, ap₂, subst, ◌∙◌, inl, inr, arith}
use Rattle.std.specs.Prelude.{slice_index_or, slice_set, ◌||◌, ◌==◌}
use Rattle.std.specs.List.{list_any}
use Rattle.std.proofs.lemmas.Bool.Decides.{eqb_tells}
use Rattle.std.proofs.lemmas.List.{length-set, get_or-set_same, get_or-set_other}
use Rattle.std.proofs.lemmas.List.Quantifiers.{position-Some}
use Rattle.return_repair.specs.declared.table.Loaded.{Loaded}
use Rattle.return_repair.specs.Pairs.{pair_at, has_segment, owner}
use Rattle.return_repair.specs.Repair.{no_overlay}
use Rattle.return_repair.specs.Live.{is_overlay, denotes, flagged, flagged_places}

length-flagged : (flags : List Bool) (number : Option ℕ) → length (flagged flags number) ≡ length flags
length-flagged flags None = refl
length-flagged flags (Some number) = length-set flags number true

or_false : (b : Bool) → (b || false) ≡ b
or_false true = refl
or_false false = refl

or_assoc : (a b c : Bool) → ((a || b) || c) ≡ (a || (b || c))
or_assoc true b c = refl
or_assoc false b c = refl

or_true : (b : Bool) → (b || true) ≡ true
or_true true = refl
or_true false = refl

one_flagged : (flags : List Bool) (number v : ℕ) → number < length flags → get_or (slice_set flags number true) v false ≡ (get_or flags v false || (number == v))
one_flagged flags number v there = by (eqb_tells number v)
  where
    by : (((number == v) ≡ true) × (number ≡ v)) ⊎ (((number == v) ≡ false) × (number ≢ v)) → get_or (slice_set flags number true) v false ≡ (get_or flags v false || (number == v))
    by (inl same) =
        let P : ℕ → Type 0 = λ v. get_or (slice_set flags number true) v false ≡ true in
        let set : get_or (slice_set flags number true) v false ≡ true = subst P same.1 (get_or-set_same flags number true false there) in
        rw (same.0, or_true (get_or flags v false)) set
    by (inr other) =
        let kept = get_or-set_other flags number v true false (λ same. other.1 (sym same)) in
        rw (other.0, or_false (get_or flags v false)) kept

pub flagged-places : (memory : List ℕ) (ss : ℕ) (table : List Loaded) (flags : List Bool) (places : List ℕ) (v : ℕ) → length flags ≡ length table → get_or (flagged_places memory ss table flags places) v false ≡ (get_or flags v false || list_any (denotes memory ss table v) places)
flagged-places memory ss table flags [] v size = sym (or_false (get_or flags v false))
flagged-places memory ss table flags (place ∷ places) v size =
    flagged-places memory ss table (flagged flags (owner table (pair_at memory ss place).segment)) places v (length-flagged flags (owner table (pair_at memory ss place).segment) ∙ size)
    ∙ ap (λ b. b || list_any (denotes memory ss table v) places) (by (owner table (pair_at memory ss place).segment) refl)
    ∙ or_assoc (get_or flags v false) (denotes memory ss table v place) (list_any (denotes memory ss table v) places)
  where
    by : (number : Option ℕ) → owner table (pair_at memory ss place).segment ≡ number → get_or (flagged flags number) v false ≡ (get_or flags v false || is_overlay v number)
    by None is = sym (or_false (get_or flags v false))
    by (Some number) is =
        let found = position-Some (has_segment (pair_at memory ss place).segment) table number no_overlay is in
        one_flagged flags number v (omega arith)

pub flagged-append : (memory : List ℕ) (ss : ℕ) (table : List Loaded) (flags : List Bool) (first others : List ℕ) → flagged_places memory ss table flags (first ++ others) ≡ flagged_places memory ss table (flagged_places memory ss table flags first) others
flagged-append memory ss table flags [] others = refl
flagged-append memory ss table flags (place ∷ first) others = flagged-append memory ss table (flagged flags (owner table (pair_at memory ss place).segment)) first others
