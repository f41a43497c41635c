-- The rows of blocks count a history, and what their sum is.
use Rattle.std.proofs.Common.{◌≡◌, ◌≢◌, ℕ, zero, suc, ◌+◌, ◌-◌, ◌*◌, ◌^◌, ◌<◌, ◌≤◌, max, Bool, true, false, not, cond, List, [], ◌∷◌, ◌++◌, length, get_or, set, Some, None, refl, sym, ap, ◌∙◌, arith, ltb, eqb}
use Rattle.std.specs.List.{AllByRecursion, position, position_or_len}
use Rattle.std.proofs.lemmas.Bool.{eqb-true, eqb-false, ne_eqb, ltb-true, ltb-false, lt-ltb, le-ltb, eq-eqb}
use Rattle.std.proofs.lemmas.Nat.{mul-le}
use Rattle.std.proofs.lemmas.List.Quantifiers.{position-Some}
use Rattle.std.proofs.lemmas.List.Sums.{sum_by-cons}
use Rattle.common_values.specs.declared.blocks.Row.{Row}
use Rattle.common_values.specs.Blocks.{row_bytes, block_sum, first_block, with_one_more, with_one_less, with_block, without_block, live_of, most_of}
use Rattle.common_values.specs.BlockLaws.{Event, made, disposed, living, peak, rows_after, EachOnce, IsCounted, HistoryLaws, SumLaws}

-- ---- one row

-- of two sizes that differ, one at most is asked for
apart : (a b c : ℕ) → eqb a b ≡ false → eqb a c ≡ true → eqb b c ≡ false
apart a b c d e = ne_eqb b c (λ f. eqb-false a b d (eqb-true a c e ∙ sym f))

alike : (a b c : ℕ) → eqb a b ≡ true → eqb a c ≡ eqb b c
alike a b c e = ap (λ n. eqb n c) (eqb-true a b e)

live_with_by : (s size : ℕ) (row : Row) (rows : List Row) (u v : Bool) → eqb row.size s ≡ u → eqb row.size size ≡ v
    → live_of size (with_block s rows) ≡ cond (eqb s size) (live_of size rows + 1) (live_of size rows)
    → live_of size (cond u (with_one_more row ∷ rows) (row ∷ with_block s rows)) ≡ cond (eqb s size) (cond v row.live (live_of size rows) + 1) (cond v row.live (live_of size rows))
live_with_by s size row rows true true e f ih = let g = sym (alike row.size s size e) ∙ f in rw (f, g) refl
live_with_by s size row rows true false e f ih = let g = sym (alike row.size s size e) ∙ f in rw (f, g) refl
live_with_by s size row rows false true e f ih = let g = apart row.size s size e f in rw (f, g) refl
live_with_by s size row rows false false e f ih = rw f ih

live-with : (s size : ℕ) (rows : List Row) → live_of size (with_block s rows) ≡ cond (eqb s size) (live_of size rows + 1) (live_of size rows)
live-with s size [] = refl
live-with s size (row ∷ rows) = live_with_by s size row rows (eqb row.size s) (eqb row.size size) refl refl (live-with s size rows)

most_with_by : (s size : ℕ) (row : Row) (rows : List Row) (u v : Bool) → eqb row.size s ≡ u → eqb row.size size ≡ v
    → most_of size (with_block s rows) ≡ cond (eqb s size) (max (most_of size rows) (live_of size rows + 1)) (most_of size rows)
    → most_of size (cond u (with_one_more row ∷ rows) (row ∷ with_block s rows)) ≡ cond (eqb s size) (max (cond v row.most (most_of size rows)) (cond v row.live (live_of size rows) + 1)) (cond v row.most (most_of size rows))
most_with_by s size row rows true true e f ih = let g = sym (alike row.size s size e) ∙ f in rw (f, g) refl
most_with_by s size row rows true false e f ih = let g = sym (alike row.size s size e) ∙ f in rw (f, g) refl
most_with_by s size row rows false true e f ih = let g = apart row.size s size e f in rw (f, g) refl
most_with_by s size row rows false false e f ih = rw f ih

most-with : (s size : ℕ) (rows : List Row) → most_of size (with_block s rows) ≡ cond (eqb s size) (max (most_of size rows) (live_of size rows + 1)) (most_of size rows)
most-with s size [] = refl
most-with s size (row ∷ rows) = most_with_by s size row rows (eqb row.size s) (eqb row.size size) refl refl (most-with s size rows)

none : (v : Bool) → 0 ≡ cond v (0 - 1) 0
none true = refl
none false = refl

live_without_by : (s size : ℕ) (row : Row) (rows : List Row) (u v : Bool) → eqb row.size s ≡ u → eqb row.size size ≡ v
    → live_of size (without_block s rows) ≡ cond (eqb s size) (live_of size rows - 1) (live_of size rows)
    → live_of size (cond u (with_one_less row ∷ rows) (row ∷ without_block s rows)) ≡ cond (eqb s size) (cond v row.live (live_of size rows) - 1) (cond v row.live (live_of size rows))
live_without_by s size row rows true true e f ih = let g = sym (alike row.size s size e) ∙ f in rw (f, g) refl
live_without_by s size row rows true false e f ih = let g = sym (alike row.size s size e) ∙ f in rw (f, g) refl
live_without_by s size row rows false true e f ih = let g = apart row.size s size e f in rw (f, g) refl
live_without_by s size row rows false false e f ih = rw f ih

live-without : (s size : ℕ) (rows : List Row) → live_of size (without_block s rows) ≡ cond (eqb s size) (live_of size rows - 1) (live_of size rows)
live-without s size [] = none (eqb s size)
live-without s size (row ∷ rows) = live_without_by s size row rows (eqb row.size s) (eqb row.size size) refl refl (live-without s size rows)

most_without_by : (s size : ℕ) (row : Row) (rows : List Row) (u : Bool) → most_of size (without_block s rows) ≡ most_of size rows → most_of size (cond u (with_one_less row ∷ rows) (row ∷ without_block s rows)) ≡ cond (eqb row.size size) row.most (most_of size rows)
most_without_by s size row rows true ih = refl
most_without_by s size row rows false ih = rw ih refl

most-without : (s size : ℕ) (rows : List Row) → most_of size (without_block s rows) ≡ most_of size rows
most-without s size [] = refl
most-without s size (row ∷ rows) = most_without_by s size row rows (eqb row.size s) (most-without s size rows)

-- ---- a history

pub living-le_peak : (size : ℕ) (events : List Event) → living size events ≤ peak size events
living-le_peak size [] = omega arith
living-le_peak size (made s ∷ before) = omega arith
living-le_peak size (disposed s ∷ before) = omega arith

live : (size : ℕ) (events : List Event) → live_of size (rows_after events) ≡ living size events
live size [] = refl
live size (made s ∷ before) = rw (live-with s size (rows_after before), live size before) refl
live size (disposed s ∷ before) = rw (live-without s size (rows_after before), live size before) refl

made_peak : (l p : ℕ) (v : Bool) → l ≤ p → cond v (max p (l + 1)) p ≡ max p (cond v (l + 1) l)
made_peak l p true h = refl
made_peak l p false h = omega arith

disposed_peak : (l p : ℕ) (v : Bool) → l ≤ p → p ≡ max p (cond v (l - 1) l)
disposed_peak l p true h = omega arith
disposed_peak l p false h = omega arith

most : (size : ℕ) (events : List Event) → most_of size (rows_after events) ≡ peak size events
most size [] = refl
most size (made s ∷ before) =
    rw (most-with s size (rows_after before), most size before, live size before) (made_peak (living size before) (peak size before) (eqb s size) (living-le_peak size before))
most size (disposed s ∷ before) =
    most-without s size (rows_after before) ∙ most size before ∙ disposed_peak (living size before) (peak size before) (eqb s size) (living-le_peak size before)

sizes_with_by : (Q : ℕ → Type 0) (s : ℕ) (row : Row) (rows : List Row) (v : Bool) → Q row.size → AllByRecursion (λ (r : Row). Q r.size) rows → AllByRecursion (λ (r : Row). Q r.size) (with_block s rows) → AllByRecursion (λ (r : Row). Q r.size) (cond v (with_one_more row ∷ rows) (row ∷ with_block s rows))
sizes_with_by Q s row rows true q h ih = (q, h)
sizes_with_by Q s row rows false q h ih = (q, ih)

sizes_with : (Q : ℕ → Type 0) (s : ℕ) (rows : List Row) → Q s → AllByRecursion (λ (r : Row). Q r.size) rows → AllByRecursion (λ (r : Row). Q r.size) (with_block s rows)
sizes_with Q s [] q h = (q, tt)
sizes_with Q s (row ∷ rows) q h = sizes_with_by Q s row rows (eqb row.size s) h.0 h.1 (sizes_with Q s rows q h.1)

once_with_by : (s : ℕ) (row : Row) (rows : List Row) (v : Bool) → eqb row.size s ≡ v → EachOnce (row ∷ rows) → EachOnce (with_block s rows) → EachOnce (cond v (with_one_more row ∷ rows) (row ∷ with_block s rows))
once_with_by s row rows true e h ih = h
once_with_by s row rows false e h ih = (sizes_with (λ n. n ≢ row.size) s rows (λ f. eqb-false row.size s e (sym f)) h.0, ih)

once_with : (s : ℕ) (rows : List Row) → EachOnce rows → EachOnce (with_block s rows)
once_with s [] h = (tt, tt)
once_with s (row ∷ rows) h = once_with_by s row rows (eqb row.size s) refl h (once_with s rows h.1)

sizes_without_by : (Q : ℕ → Type 0) (s : ℕ) (row : Row) (rows : List Row) (v : Bool) → Q row.size → AllByRecursion (λ (r : Row). Q r.size) rows → AllByRecursion (λ (r : Row). Q r.size) (without_block s rows) → AllByRecursion (λ (r : Row). Q r.size) (cond v (with_one_less row ∷ rows) (row ∷ without_block s rows))
sizes_without_by Q s row rows true q h ih = (q, h)
sizes_without_by Q s row rows false q h ih = (q, ih)

sizes_without : (Q : ℕ → Type 0) (s : ℕ) (rows : List Row) → AllByRecursion (λ (r : Row). Q r.size) rows → AllByRecursion (λ (r : Row). Q r.size) (without_block s rows)
sizes_without Q s [] h = tt
sizes_without Q s (row ∷ rows) h = sizes_without_by Q s row rows (eqb row.size s) h.0 h.1 (sizes_without Q s rows h.1)

once_without_by : (s : ℕ) (row : Row) (rows : List Row) (v : Bool) → EachOnce (row ∷ rows) → EachOnce (without_block s rows) → EachOnce (cond v (with_one_less row ∷ rows) (row ∷ without_block s rows))
once_without_by s row rows true h ih = h
once_without_by s row rows false h ih = (sizes_without (λ n. n ≢ row.size) s rows h.0, ih)

once_without : (s : ℕ) (rows : List Row) → EachOnce rows → EachOnce (without_block s rows)
once_without s [] h = tt
once_without s (row ∷ rows) h = once_without_by s row rows (eqb row.size s) h (once_without s rows h.1)

once : (events : List Event) → EachOnce (rows_after events)
once [] = tt
once (made s ∷ before) = once_with s (rows_after before) (once before)
once (disposed s ∷ before) = once_without s (rows_after before) (once before)

counted_with_by : (s : ℕ) (row : Row) (rows : List Row) (v : Bool) → IsCounted (row ∷ rows) → IsCounted (with_block s rows) → IsCounted (cond v (with_one_more row ∷ rows) (row ∷ with_block s rows))
counted_with_by s row rows true h ih = (omega arith, h.1)
counted_with_by s row rows false h ih = (h.0, ih)

pub counted_with : (s : ℕ) (rows : List Row) → IsCounted rows → IsCounted (with_block s rows)
counted_with s [] h = (omega arith, tt)
counted_with s (row ∷ rows) h = counted_with_by s row rows (eqb row.size s) h (counted_with s rows h.1)

counted_without_by : (s : ℕ) (row : Row) (rows : List Row) (v : Bool) → IsCounted (row ∷ rows) → IsCounted (without_block s rows) → IsCounted (cond v (with_one_less row ∷ rows) (row ∷ without_block s rows))
counted_without_by s row rows true h ih = (let l = h.0 in omega arith, h.1)
counted_without_by s row rows false h ih = (h.0, ih)

pub counted_without : (s : ℕ) (rows : List Row) → IsCounted rows → IsCounted (without_block s rows)
counted_without s [] h = tt
counted_without s (row ∷ rows) h = counted_without_by s row rows (eqb row.size s) h (counted_without s rows h.1)

counted : (events : List Event) → IsCounted (rows_after events)
counted [] = tt
counted (made s ∷ before) = counted_with s (rows_after before) (counted before)
counted (disposed s ∷ before) = counted_without s (rows_after before) (counted before)

pub history_laws : (events : List Event) → HistoryLaws events
history_laws events = record { live = λ size. live size events; most = λ size. most size events; once = once events; counted = counted events }

-- ---- the sum

live_le_most_by : (l m a b : ℕ) (v : Bool) → l ≤ m → a ≤ b → cond v l a ≤ cond v m b
live_le_most_by l m a b true h k = h
live_le_most_by l m a b false h k = k

pub live-le_most : (size : ℕ) (rows : List Row) → IsCounted rows → live_of size rows ≤ most_of size rows
live-le_most size [] h = omega arith
live-le_most size (row ∷ rows) h = live_le_most_by row.live row.most (live_of size rows) (most_of size rows) (eqb row.size size) h.0 (live-le_most size rows h.1)

more_bytes : (size l m rest : ℕ) (v : Bool) → ltb l m ≡ v → l ≤ m → size * max m (l + 1) + rest ≡ size * m + rest + cond v 0 size
more_bytes size l m rest true e h = let below = ltb-true l m e in let is : max m (l + 1) ≡ m = omega arith in rw is (omega arith)
more_bytes size l m rest false e h = let above = ltb-false l m e in let is : max m (l + 1) ≡ m + 1 = omega arith in rw is (omega arith)

grows_by : (size : ℕ) (row : Row) (rows : List Row) (v : Bool) → eqb row.size size ≡ v → row.live ≤ row.most
    → block_sum (with_block size rows) ≡ block_sum rows + cond (ltb (live_of size rows) (most_of size rows)) 0 size
    → block_sum (cond v (with_one_more row ∷ rows) (row ∷ with_block size rows)) ≡ row_bytes row + block_sum rows + cond (ltb (cond v row.live (live_of size rows)) (cond v row.most (most_of size rows))) 0 size
grows_by size row rows true e h ih =
    let is = eqb-true row.size size e in
    sum_by-cons row_bytes (with_one_more row) rows
    ∙ more_bytes row.size row.live row.most (block_sum rows) (ltb row.live row.most) refl h
    ∙ ap (λ n. row.size * row.most + block_sum rows + cond (ltb row.live row.most) 0 n) is
grows_by size row rows false e h ih = sum_by-cons row_bytes row (with_block size rows) ∙ ap (λ n. row_bytes row + n) ih ∙ omega arith

grows : (size : ℕ) (rows : List Row) → IsCounted rows → block_sum (with_block size rows) ≡ block_sum rows + cond (ltb (live_of size rows) (most_of size rows)) 0 size
grows size [] h = omega arith
grows size (row ∷ rows) h =
    grows_by size row rows (eqb row.size size) refl h.0 (grows size rows h.1)
    ∙ ap (λ n. n + cond (ltb (live_of size (row ∷ rows)) (most_of size (row ∷ rows))) 0 size) (sym (sum_by-cons row_bytes row rows))

stays_by : (size : ℕ) (row : Row) (rows : List Row) (v : Bool) → block_sum (without_block size rows) ≡ block_sum rows → block_sum (cond v (with_one_less row ∷ rows) (row ∷ without_block size rows)) ≡ block_sum (row ∷ rows)
stays_by size row rows true ih = refl
stays_by size row rows false ih = sum_by-cons row_bytes row (without_block size rows) ∙ ap (λ n. row_bytes row + n) ih ∙ sym (sum_by-cons row_bytes row rows)

stays : (size : ℕ) (rows : List Row) → block_sum (without_block size rows) ≡ block_sum rows
stays size [] = refl
stays size (row ∷ rows) = stays_by size row rows (eqb row.size size) (stays size rows)

again : (size : ℕ) (rows : List Row) → IsCounted rows → 0 < live_of size rows → block_sum (with_block size (without_block size rows)) ≡ block_sum rows
again size rows h some =
    let l : live_of size (without_block size rows) ≡ cond (eqb size size) (live_of size rows - 1) (live_of size rows) = live-without size size rows in
    let self = eq-eqb size size refl in
    let less : live_of size (without_block size rows) ≡ live_of size rows - 1 = rw self at l in
    let m = most-without size size rows in
    let bound = live-le_most size rows h in
    let test : ltb (live_of size (without_block size rows)) (most_of size (without_block size rows)) ≡ true = lt-ltb _ _ (omega arith) in
    let same = stays size rows in
    let nothing : cond (ltb (live_of size (without_block size rows)) (most_of size (without_block size rows))) 0 size ≡ 0 = rw test refl in
    let sum = grows size (without_block size rows) (counted_without size rows h) in
    omega arith

most_bytes_by : (size : ℕ) (row : Row) (rows : List Row) (v : Bool) → eqb row.size size ≡ v → size * most_of size rows ≤ block_sum rows → size * cond v row.most (most_of size rows) ≤ row_bytes row + block_sum rows
most_bytes_by size row rows true e ih = let is : row.size * row.most ≡ size * row.most = ap (λ n. n * row.most) (eqb-true row.size size e) in omega arith
most_bytes_by size row rows false e ih = omega arith

-- the blocks of one size take no more than all
pub most_bytes : (size : ℕ) (rows : List Row) → size * most_of size rows ≤ block_sum rows
most_bytes size [] = omega arith
most_bytes size (row ∷ rows) =
    let all = sum_by-cons row_bytes row rows in
    let part = most_bytes_by size row rows (eqb row.size size) refl (most_bytes size rows) in
    omega arith

-- where all take so much, few of a rounded size live
pub few_live : (size : ℕ) (rows : List Row) → 8 ≤ size → IsCounted rows → block_sum rows < 2 ^ 32 → live_of size rows + 1 < 2 ^ 32
few_live size rows h counted small =
    let most = most_bytes size rows in
    let live = live-le_most size rows counted in
    let bytes = mul-le 8 (most_of size rows) size (most_of size rows) h (omega arith) in
    omega arith

pub sum_laws : SumLaws
sum_laws = record { grows = grows; stays = stays; again = again }

pub sum_same : (size : ℕ) (rows : List Row) → IsCounted rows → live_of size rows < most_of size rows → block_sum (with_block size rows) ≡ block_sum rows
sum_same size rows h l =
    let g = grows size rows h in
    let test : cond (ltb (live_of size rows) (most_of size rows)) 0 size ≡ 0 = rw (lt-ltb (live_of size rows) (most_of size rows) l) refl in
    omega arith

pub sum_more : (size : ℕ) (rows : List Row) → IsCounted rows → most_of size rows ≤ live_of size rows → block_sum (with_block size rows) ≡ block_sum rows + size
sum_more size rows h l =
    let g = grows size rows h in
    let test : cond (ltb (live_of size rows) (most_of size rows)) 0 size ≡ size = rw (le-ltb (live_of size rows) (most_of size rows) l) refl in
    omega arith

-- ---- the row of a size

pub record IsAtPlace (size : ℕ) (rows : List Row) (i : ℕ) (d : Row) : Type 0 where
  pub live : live_of size rows ≡ (get_or rows i d).live
  pub most : most_of size rows ≡ (get_or rows i d).most
  pub more : with_block size rows ≡ set rows i (with_one_more (get_or rows i d))
  pub less : without_block size rows ≡ set rows i (with_one_less (get_or rows i d))

at_place : (size : ℕ) (rows : List Row) (i : ℕ) (d : Row) → i < length rows → eqb (get_or rows i d).size size ≡ true → ((k : ℕ) → k < i → eqb (get_or rows k d).size size ≡ false) → IsAtPlace size rows i d
at_place size [] i d h e f = absurd (omega arith)
at_place size (row ∷ rows) zero d h e f = record { live = rw e refl; most = rw e refl; more = rw e refl; less = rw e refl }
at_place size (row ∷ rows) (suc i) d h e f =
    let other : eqb row.size size ≡ false = f 0 (omega arith) in
    let rest = at_place size rows i d (omega arith) e (λ k l. f (suc k) (omega arith)) in
    record {
      live = rw other rest.live;
      most = rw other rest.most;
      more = rw other (ap (λ (l : List Row). row ∷ l) rest.more);
      less = rw other (ap (λ (l : List Row). row ∷ l) rest.less);
    }

pub placed : (size : ℕ) (rows : List Row) (i : ℕ) (d : Row) → position (λ row. eqb row.size size) rows ≡ Some i → IsAtPlace size rows i d
placed size rows i d e =
    let p = position-Some (λ (row : Row). eqb row.size size) rows i d e in
    at_place size rows i d p.0 p.1 p.2

pub record IsNowhere (size : ℕ) (rows : List Row) : Type 0 where
  pub live : live_of size rows ≡ 0
  pub most : most_of size rows ≡ 0
  pub more : with_block size rows ≡ rows ++ first_block size ∷ []
  pub less : without_block size rows ≡ rows

nowhere_by : (size : ℕ) (row : Row) (rows : List Row) (v : Bool) → eqb row.size size ≡ v → suc (length rows) ≤ cond (not v) (1 + position_or_len (λ (r : Row). eqb r.size size) rows) 0 → (length rows ≤ position_or_len (λ (r : Row). eqb r.size size) rows → IsNowhere size rows) → IsNowhere size (row ∷ rows)
nowhere_by size row rows true e h ih = absurd (omega arith)
nowhere_by size row rows false e h ih =
    let rest = ih (omega arith) in
    record {
      live = rw e rest.live;
      most = rw e rest.most;
      more = rw e (ap (λ (l : List Row). row ∷ l) rest.more);
      less = rw e (ap (λ (l : List Row). row ∷ l) rest.less);
    }

nowhere_from : (size : ℕ) (rows : List Row) → length rows ≤ position_or_len (λ (r : Row). eqb r.size size) rows → IsNowhere size rows
nowhere_from size [] h = record { live = refl; most = refl; more = refl; less = refl }
nowhere_from size (row ∷ rows) h = nowhere_by size row rows (eqb row.size size) refl h (nowhere_from size rows)

not_below : (m n : ℕ) (v : Bool) → ltb m n ≡ v → cond v (Some m) None ≡ None → n ≤ m
not_below m n true e h = absurd cc
not_below m n false e h = ltb-false m n e

pub nowhere : (size : ℕ) (rows : List Row) → position (λ row. eqb row.size size) rows ≡ None → IsNowhere size rows
nowhere size rows e = nowhere_from size rows (not_below _ (length rows) (ltb (position_or_len (λ (r : Row). eqb r.size size) rows) (length rows)) refl e)
