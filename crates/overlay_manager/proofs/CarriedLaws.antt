-- Live pairs follow also where memory is not the same, but the pairs and the saved offsets are.
use Rattle.std.proofs.Common.{◌≡◌, ℕ, zero, suc, ◌+◌, ◌%◌, ◌<◌, cond, List, [], ◌∷◌, length, Option, Some, None, refl, sym, ap, ap₂, ◌∙◌, arith}
use Rattle.std.specs.Prelude.{slice_index, unwrap_or, ◌==◌, ◌&&◌}
use Rattle.std.specs.List.{AllByRecursion}
use Rattle.std.proofs.lemmas.List.Quantifiers.{position-Some}
use Rattle.cpu_8086.specs.declared.registers.Far.{Far}
use Rattle.return_repair.specs.declared.table.Loaded.{Loaded}
use Rattle.return_repair.specs.Pairs.{pair_at, owner, has_segment, is_out, saved_at}
use Rattle.return_repair.specs.Repair.{no_overlay}
use Rattle.return_repair.specs.Follows.{Denoted, Into, denoted, denoted_by, denotations, overlay_at, pairs_at, shown, none_met, topmost_into, differing, saved_after, Follow, pair_bytes}
use Rattle.overlay_manager.specs.Kept.{SamePairs, SameSaved}
use Rattle.overlay_manager.proofs.StubLaws.{word-same}

-- what holds of each holds of each, if the one implies the other
pub each-then : (P Q : ℕ → Type 0) (xs : List ℕ) → ((x : ℕ) → P x → Q x) → AllByRecursion P xs → AllByRecursion Q xs
each-then P Q [] implies all = tt
each-then P Q (x ∷ xs) implies all = (implies x all.0, each-then P Q xs implies all.1)

-- the bytes at these addresses are the same in both
abbrev pub SameBytes : List ℕ → List ℕ → List ℕ → Type 0
SameBytes memory other bytes = AllByRecursion (λ at. slice_index memory at ≡ slice_index other at) bytes

pub pair-same : (memory other : List ℕ) (ss place : ℕ) → SameBytes memory other (pair_bytes ss place) → pair_at memory ss place ≡ pair_at other ss place
pair-same memory other ss place same =
    let offset = word-same memory other ss place same.0 same.1.0 in
    let segment = word-same memory other ss ((place + 2) % 65536) same.1.1.0 same.1.1.1.0 in
    ap₂ (λ (offset segment : ℕ). let pair : Far = record { offset = offset; segment = segment } in pair) offset segment

pairs-same : (memory other : List ℕ) (ss : ℕ) (places : List ℕ) → SamePairs memory other ss places → pairs_at memory ss places ≡ pairs_at other ss places
pairs-same memory other ss [] same = refl
pairs-same memory other ss (place ∷ places) same = ap₂ (λ (pair : Far) (pairs : List Far). pair ∷ pairs) same.0 (pairs-same memory other ss places same.1)

saved_of : (memory other : List ℕ) (table : List Loaded) (v : ℕ) → v < length table → SameSaved memory other table → saved_at memory (overlay_at table v).stub ≡ saved_at other (overlay_at table v).stub
saved_of memory other [] v there same = absurd (omega arith)
saved_of memory other (overlay ∷ table) zero there same = same.0
saved_of memory other (overlay ∷ table) (suc v) there same = saved_of memory other table v (omega arith) same.1

denoted-same : (memory other : List ℕ) (table : List Loaded) (pair : Far) → SameSaved memory other table → denoted memory table pair ≡ denoted other table pair
denoted-same memory other table pair same = by (owner table pair.segment) refl
  where
    by : (number : Option ℕ) → owner table pair.segment ≡ number → denoted_by memory table pair number ≡ denoted_by other table pair number
    by None is = refl
    by (Some v) is =
        let there = position-Some (has_segment pair.segment) table v no_overlay is in
        let saved = saved_of memory other table v there.0 same in
        ap (λ (saved : ℕ). Into v (cond (((overlay_at table v).stub == pair.segment) && (pair.offset == 0)) saved pair.offset)) saved

pub denotations-same : (memory other : List ℕ) (ss : ℕ) (table : List Loaded) (places : List ℕ) → SamePairs memory other ss places → SameSaved memory other table → denotations memory ss table places ≡ denotations other ss table places
denotations-same memory other ss table [] pairs saved = refl
denotations-same memory other ss table (place ∷ places) pairs saved =
    ap₂ (λ (item : Denoted) (items : List Denoted). item ∷ items) (ap (denoted memory table) pairs.0 ∙ denoted-same memory other table (pair_at other ss place) saved) (denotations-same memory other ss table places pairs.1 saved)

-- what the stubs save afterwards, from other memories
saved-carried : (before memory between after : List ℕ) (items others : List Denoted) (whole table : List Loaded) → items ≡ others → SameSaved before memory table → SameSaved after between table
    → AllByRecursion (λ overlay. saved_at between overlay.stub ≡ saved_after memory items whole overlay) table → AllByRecursion (λ overlay. saved_at after overlay.stub ≡ saved_after before others whole overlay) table
saved-carried before memory between after items others whole [] same first second saved = tt
saved-carried before memory between after items others whole (overlay ∷ table) same first second saved = (
  second.0 ∙ saved.0 ∙ ap₂ (λ (items : List Denoted) (kept : ℕ). cond (is_out overlay) (unwrap_or (topmost_into whole overlay.stub items) kept) kept) same (sym first.0),
  saved-carried before memory between after items others whole table same first.1 second.1 saved.1,
)

pub follow-carried : (before memory between after : List ℕ) (ss : ℕ) (places : List ℕ) (old new : List Loaded) (changed : ℕ)
    → SamePairs before memory ss places → SameSaved before memory old → SameSaved before memory new → Follow memory between ss places old new changed → SamePairs after between ss places → SameSaved after between new
    → Follow before after ss places old new changed
follow-carried before memory between after ss places old new changed pairs saved_old saved_new follows pairs_after saved_after_it =
    let items = denotations-same before memory ss old places pairs saved_old in
    record {
      pairs = pairs-same after between ss places pairs_after ∙ follows.pairs ∙ ap (shown new none_met) (sym items);
      saved = saved-carried before memory between after (denotations memory ss old places) (denotations before ss old places) new new (sym items) saved_new saved_after_it follows.saved;
      count = follows.count ∙ ap₂ (λ (pairs : List Far) (items : List Denoted). differing pairs (shown new none_met items)) (sym (pairs-same before memory ss places pairs)) (sym items);
    }
