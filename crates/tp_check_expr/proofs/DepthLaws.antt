-- How many routines are open, block by block.
use Rattle.std.proofs.Common.{◌≡◌, inl, inr, ℕ, ◌+◌, ◌-◌, ◌<◌, ◌≤◌, Bool, true, false, cond, nat_lt, List, take, length, get_or, Option, Some, None, option_map, count_by, slice_get, arith, ap, refl, ◌∙◌}
use Rattle.std.proofs.lemmas.List.Sums.{count_by_more_yes, count_by_more_no}
use Rattle.std.proofs.lemmas.Option.{get_or_from_slice_get, slice_get_cases}
use Rattle.std.proofs.lemmas.Bool.{ltb-true, ltb-false}
use Rattle.scopes.specs.declared.searches.OpenBlock.{OpenBlock}
use Rattle.scopes.specs.Environment.{Environment, first_open, block_count, kind_in, kind_of}
use Rattle.tp_check_expr.specs.Names.{is_routine, deeper}

module _ (blocks : List OpenBlock) (i : ℕ) where
  of_block : (one : OpenBlock) (b : Bool) → i < length blocks → is_routine (get_or blocks i one) ≡ b → count_by is_routine (take (i + 1) blocks) ≡ cond b (count_by is_routine (take i blocks) + 1) (count_by is_routine (take i blocks))
  of_block one true h e = count_by_more_yes is_routine blocks i one h e
  of_block one false h e = count_by_more_no is_routine blocks i one h e

  there : (one : OpenBlock) → i < length blocks → get_or blocks i one ≡ one → count_by is_routine (take (i + 1) blocks) ≡ deeper (Some one.kind) (count_by is_routine (take i blocks))
  there one h e = of_block one (is_routine one) h (ap is_routine e)

  found : (one : Option OpenBlock) → slice_get blocks i ≡ one → i < length blocks → count_by is_routine (take (i + 1) blocks) ≡ deeper (option_map (λ (b : OpenBlock). b.kind) one) (count_by is_routine (take i blocks))
  found (Some one) e h = there one h (get_or_from_slice_get blocks i one one e)
  found None e h = elim (slice_get_cases blocks i).1 as (λ _. count_by is_routine (take (i + 1) blocks) ≡ count_by is_routine (take i blocks)) [ inl x ↦ (let f = x.2 in cc) | inr y ↦ (let f = y.0 in absurd (omega arith)) ]

  inside : i < length blocks → count_by is_routine (take (i + 1) blocks) ≡ deeper (kind_in blocks i) (count_by is_routine (take i blocks))
  inside h = found (slice_get blocks i) refl h

module _ (first : ℕ) (blocks : List OpenBlock) (n : ℕ) where
  step_at : (b : Bool) → nat_lt n first ≡ b → n < first + length blocks → count_by is_routine (take (n + 1 - first) blocks) ≡ deeper (cond b None (kind_in blocks (n - first))) (count_by is_routine (take (n - first) blocks))
  step_at true e h =
      let l : n < first = ltb-true n first e in
      let s : n + 1 - first ≡ n - first = omega arith in
      ap (λ (i : ℕ). count_by is_routine (take i blocks)) s
  step_at false e h =
      let l : first ≤ n = ltb-false n first e in
      let s : n + 1 - first ≡ (n - first) + 1 = omega arith in
      let w : n - first < length blocks = omega arith in
      ap (λ (i : ℕ). count_by is_routine (take i blocks)) s ∙ inside blocks (n - first) w

pub step : (g : Environment) (n : ℕ) → n < block_count g → count_by is_routine (take (n + 1 - first_open g) g.blocks) ≡ deeper (kind_of g n) (count_by is_routine (take (n - first_open g) g.blocks))
step g n h = step_at (first_open g) g.blocks n (nat_lt n (first_open g)) refl h
