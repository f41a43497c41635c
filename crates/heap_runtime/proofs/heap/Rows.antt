-- How many blocks of each size the rows of the sum count, once one more is made or disposed of.
use Rattle.std.proofs.Common.{◌≡◌, ℕ, ◌+◌, ◌-◌, max, Bool, true, false, cond, List, [], ◌∷◌, refl, sym, ap, ◌∙◌, eqb}
use Rattle.std.proofs.lemmas.Bool.{eqb-true, eqb-false, ne_eqb}
use Rattle.common_values.specs.declared.blocks.Row.{Row}
use Rattle.common_values.specs.Blocks.{with_one_more, with_one_less, with_block, without_block, live_of, most_of}

-- ---- one row

-- of two sizes that differ, one at most is asked for
apart : (a b c : ℕ) → eqb a b ≡ false → eqb a c ≡ true → eqb b c ≡ false
apart a b c d e = ne_eqb b c (λ f. eqb-false a b d (eqb-true a c e ∙ sym f))

alike : (a b c : ℕ) → eqb a b ≡ true → eqb a c ≡ eqb b c
alike a b c e = ap (λ n. eqb n c) (eqb-true a b e)

live_with_by : (s size : ℕ) (row : Row) (rows : List Row) (u v : Bool) → eqb row.size s ≡ u → eqb row.size size ≡ v
    → live_of size (with_block s rows) ≡ cond (eqb s size) (live_of size rows + 1) (live_of size rows)
    → live_of size (cond u (with_one_more row ∷ rows) (row ∷ with_block s rows)) ≡ cond (eqb s size) (cond v row.live (live_of size rows) + 1) (cond v row.live (live_of size rows))
live_with_by s size row rows true true e f ih = let g = sym (alike row.size s size e) ∙ f in rw (f, g) refl
live_with_by s size row rows true false e f ih = let g = sym (alike row.size s size e) ∙ f in rw (f, g) refl
live_with_by s size row rows false true e f ih = let g = apart row.size s size e f in rw (f, g) refl
live_with_by s size row rows false false e f ih = rw f ih

pub live-with : (s size : ℕ) (rows : List Row) → live_of size (with_block s rows) ≡ cond (eqb s size) (live_of size rows + 1) (live_of size rows)
live-with s size [] = refl
live-with s size (row ∷ rows) = live_with_by s size row rows (eqb row.size s) (eqb row.size size) refl refl (live-with s size rows)

most_with_by : (s size : ℕ) (row : Row) (rows : List Row) (u v : Bool) → eqb row.size s ≡ u → eqb row.size size ≡ v
    → most_of size (with_block s rows) ≡ cond (eqb s size) (max (most_of size rows) (live_of size rows + 1)) (most_of size rows)
    → most_of size (cond u (with_one_more row ∷ rows) (row ∷ with_block s rows)) ≡ cond (eqb s size) (max (cond v row.most (most_of size rows)) (cond v row.live (live_of size rows) + 1)) (cond v row.most (most_of size rows))
most_with_by s size row rows true true e f ih = let g = sym (alike row.size s size e) ∙ f in rw (f, g) refl
most_with_by s size row rows true false e f ih = let g = sym (alike row.size s size e) ∙ f in rw (f, g) refl
most_with_by s size row rows false true e f ih = let g = apart row.size s size e f in rw (f, g) refl
most_with_by s size row rows false false e f ih = rw f ih

pub most-with : (s size : ℕ) (rows : List Row) → most_of size (with_block s rows) ≡ cond (eqb s size) (max (most_of size rows) (live_of size rows + 1)) (most_of size rows)
most-with s size [] = refl
most-with s size (row ∷ rows) = most_with_by s size row rows (eqb row.size s) (eqb row.size size) refl refl (most-with s size rows)

none : (v : Bool) → 0 ≡ cond v (0 - 1) 0
none true = refl
none false = refl

live_without_by : (s size : ℕ) (row : Row) (rows : List Row) (u v : Bool) → eqb row.size s ≡ u → eqb row.size size ≡ v
    → live_of size (without_block s rows) ≡ cond (eqb s size) (live_of size rows - 1) (live_of size rows)
    → live_of size (cond u (with_one_less row ∷ rows) (row ∷ without_block s rows)) ≡ cond (eqb s size) (cond v row.live (live_of size rows) - 1) (cond v row.live (live_of size rows))
live_without_by s size row rows true true e f ih = let g = sym (alike row.size s size e) ∙ f in rw (f, g) refl
live_without_by s size row rows true false e f ih = let g = sym (alike row.size s size e) ∙ f in rw (f, g) refl
live_without_by s size row rows false true e f ih = let g = apart row.size s size e f in rw (f, g) refl
live_without_by s size row rows false false e f ih = rw f ih

pub live-without : (s size : ℕ) (rows : List Row) → live_of size (without_block s rows) ≡ cond (eqb s size) (live_of size rows - 1) (live_of size rows)
live-without s size [] = none (eqb s size)
live-without s size (row ∷ rows) = live_without_by s size row rows (eqb row.size s) (eqb row.size size) refl refl (live-without s size rows)

most_without_by : (s size : ℕ) (row : Row) (rows : List Row) (u : Bool) → most_of size (without_block s rows) ≡ most_of size rows → most_of size (cond u (with_one_less row ∷ rows) (row ∷ without_block s rows)) ≡ cond (eqb row.size size) row.most (most_of size rows)
most_without_by s size row rows true ih = refl
most_without_by s size row rows false ih = rw ih refl

pub most-without : (s size : ℕ) (rows : List Row) → most_of size (without_block s rows) ≡ most_of size rows
most-without s size [] = refl
most-without s size (row ∷ rows) = most_without_by s size row rows (eqb row.size s) (most-without s size rows)
