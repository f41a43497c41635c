-- What holds of the sum of blocks, and that its rows count what a history of blocks says.
use Rattle.std.specs.Prelude.{◌≡◌, ℕ, ◌+◌, ◌-◌, ◌%◌, ◌<◌, ◌≤◌, ◌==◌, ◌≢◌, max, cond, nat_lt, List, [], ◌∷◌}
use Rattle.std.specs.List.{AllByRecursion}
use Rattle.common_values.specs.declared.blocks.Row.{Row}
use Rattle.common_values.specs.Blocks.{rounded, block_sum, with_block, without_block, live_of, most_of}

-- what happened to the heap, the last first
pub data Event : Type 0 where
  made : ℕ → Event
  disposed : ℕ → Event

abbrev pub size_of : Event → ℕ
size_of (made size) = size
size_of (disposed size) = size

-- how many blocks of a size live after a history
abbrev pub living : ℕ → List Event → ℕ
living size [] = 0
living size (made s ∷ before) = cond (s == size) (living size before + 1) (living size before)
living size (disposed s ∷ before) = cond (s == size) (living size before - 1) (living size before)

-- how many lived at once at some time of the history
abbrev pub peak : ℕ → List Event → ℕ
peak size [] = 0
peak size (event ∷ before) = max (peak size before) (living size (event ∷ before))

-- the rows after a history
abbrev pub rows_after : List Event → List Row
rows_after [] = []
rows_after (made size ∷ before) = with_block size (rows_after before)
rows_after (disposed size ∷ before) = without_block size (rows_after before)

-- no size has two rows
abbrev pub EachOnce : List Row → Type 0
EachOnce [] = Unit {0}
EachOnce (row ∷ rows) = AllByRecursion (λ other. other.size ≢ row.size) rows × EachOnce rows

-- of each size at most as many live as ever lived
abbrev pub IsCounted : List Row → Type 0
IsCounted rows = AllByRecursion (λ row. row.live ≤ row.most) rows

pub record SizeLaws : Type 0 where
  pub room : (size : ℕ) → size ≤ rounded size
  pub least : (size : ℕ) → 8 ≤ rounded size
  pub eights : (size : ℕ) → rounded size % 8 ≡ 0
  pub tight : (size : ℕ) → 0 < size → rounded size < size + 8

pub record HistoryLaws (events : List Event) : Type 0 where
  pub live : (size : ℕ) → live_of size (rows_after events) ≡ living size events
  pub most : (size : ℕ) → most_of size (rows_after events) ≡ peak size events
  pub once : EachOnce (rows_after events)
  pub counted : IsCounted (rows_after events)

pub record SumLaws : Type 0 where
  -- a block more takes its size where as many live as ever did, and nothing where one was disposed of
  pub grows : (size : ℕ) (rows : List Row) → IsCounted rows → block_sum (with_block size rows) ≡ block_sum rows + cond (nat_lt (live_of size rows) (most_of size rows)) 0 size
  pub stays : (size : ℕ) (rows : List Row) → block_sum (without_block size rows) ≡ block_sum rows
  -- Dispose, and then New of the same size
  pub again : (size : ℕ) (rows : List Row) → IsCounted rows → 0 < live_of size rows → block_sum (with_block size (without_block size rows)) ≡ block_sum rows
