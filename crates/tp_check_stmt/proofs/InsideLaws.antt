-- Whether a routine is open, block by block.
use Rattle.std.proofs.Common.{◌≡◌, inl, inr, ℕ, ◌+◌, ◌-◌, ◌<◌, ◌≤◌, Bool, true, false, ◌||◌, cond, nat_lt, List, take, length, get_or, Option, Some, None, option_map, slice_get, arith, ap, refl, ◌∙◌}
use Rattle.std.specs.List.{list_any}
use Rattle.std.proofs.lemmas.List.Folds.{list_any_more}
use Rattle.std.proofs.lemmas.Option.{get_or_from_slice_get, slice_get_cases}
use Rattle.std.proofs.lemmas.Bool.{ltb-true, ltb-false}
use Rattle.scopes.specs.declared.searches.OpenBlock.{OpenBlock}
use Rattle.scopes.specs.Environment.{Environment, first_open, block_count, kind_in, kind_of}
use Rattle.tp_check_stmt.specs.Assignments.{is_open_body, is_body_at}

or_none : (b : Bool) → b ≡ (b || false)
or_none true = refl
or_none false = refl

module _ (routine : ℕ) (blocks : List OpenBlock) (i : ℕ) where
  there : (one : OpenBlock) → i < length blocks → get_or blocks i one ≡ one
      → list_any (is_open_body routine) (take (i + 1) blocks) ≡ (list_any (is_open_body routine) (take i blocks) || is_body_at routine (Some one.kind))
  there one h e =
      list_any_more (is_open_body routine) blocks i one h
      ∙ ap (λ (b : OpenBlock). list_any (is_open_body routine) (take i blocks) || is_open_body routine b) e

  found : (one : Option OpenBlock) → slice_get blocks i ≡ one → i < length blocks
      → list_any (is_open_body routine) (take (i + 1) blocks) ≡ (list_any (is_open_body routine) (take i blocks) || is_body_at routine (option_map (λ (b : OpenBlock). b.kind) one))
  found (Some one) e h = there one h (get_or_from_slice_get blocks i one one e)
  found None e h =
      elim (slice_get_cases blocks i).1 as (λ _. list_any (is_open_body routine) (take (i + 1) blocks) ≡ (list_any (is_open_body routine) (take i blocks) || false))
      [ inl x ↦ (let f = x.2 in cc) | inr y ↦ (let f = y.0 in absurd (omega arith)) ]

  inside : i < length blocks → list_any (is_open_body routine) (take (i + 1) blocks) ≡ (list_any (is_open_body routine) (take i blocks) || is_body_at routine (kind_in blocks i))
  inside h = found (slice_get blocks i) refl h

module _ (routine first : ℕ) (blocks : List OpenBlock) (n : ℕ) where
  step_at : (b : Bool) → nat_lt n first ≡ b → n < first + length blocks
      → list_any (is_open_body routine) (take (n + 1 - first) blocks) ≡ (list_any (is_open_body routine) (take (n - first) blocks) || is_body_at routine (cond b None (kind_in blocks (n - first))))
  step_at true e h =
      let l : n < first = ltb-true n first e in
      let s : n + 1 - first ≡ n - first = omega arith in
      ap (λ (i : ℕ). list_any (is_open_body routine) (take i blocks)) s ∙ or_none (list_any (is_open_body routine) (take (n - first) blocks))
  step_at false e h =
      let l : first ≤ n = ltb-false n first e in
      let s : n + 1 - first ≡ (n - first) + 1 = omega arith in
      let w : n - first < length blocks = omega arith in
      ap (λ (i : ℕ). list_any (is_open_body routine) (take i blocks)) s ∙ inside routine blocks (n - first) w

pub step : (routine : ℕ) (g : Environment) (n : ℕ) → n < block_count g
    → list_any (is_open_body routine) (take (n + 1 - first_open g) g.blocks) ≡ (list_any (is_open_body routine) (take (n - first_open g) g.blocks) || is_body_at routine (kind_of g n))
step routine g n h = step_at routine (first_open g) g.blocks n (nat_lt n (first_open g)) refl h
