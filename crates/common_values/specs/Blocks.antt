-- How much of the heap is taken: of each rounded size, as many blocks as ever lived at once.
use Rattle.std.specs.Prelude.{ℕ, ◌+◌, ◌-◌, ◌*◌, ◌/◌, ◌==◌, max, cond, List, [], ◌∷◌}
use Rattle.std.specs.List.{sum_by}
use Rattle.common_values.specs.declared.blocks.Row.{Row}

-- a multiple of 8, at least 8
abbrev pub rounded : ℕ → ℕ
rounded size = 8 * max 1 ((size + 7) / 8)

-- what the blocks of one size take
abbrev pub row_bytes : Row → ℕ
row_bytes row = row.size * row.most

abbrev pub block_sum : List Row → ℕ
block_sum rows = sum_by row_bytes rows

abbrev pub first_block : ℕ → Row
first_block size = record { size = size; live = 1; most = 1 }

abbrev pub with_one_more : Row → Row
with_one_more row = record { size = row.size; live = row.live + 1; most = max row.most (row.live + 1) }

abbrev pub with_one_less : Row → Row
with_one_less row = record { size = row.size; live = row.live - 1; most = row.most }

-- once a block of a rounded size is made
abbrev pub with_block : ℕ → List Row → List Row
with_block size [] = first_block size ∷ []
with_block size (row ∷ rows) = cond (row.size == size) (with_one_more row ∷ rows) (row ∷ with_block size rows)

-- once a block of a rounded size is disposed of
abbrev pub without_block : ℕ → List Row → List Row
without_block size [] = []
without_block size (row ∷ rows) = cond (row.size == size) (with_one_less row ∷ rows) (row ∷ without_block size rows)

-- how many blocks of a size live
abbrev pub live_of : ℕ → List Row → ℕ
live_of size [] = 0
live_of size (row ∷ rows) = cond (row.size == size) row.live (live_of size rows)

-- how many ever lived at once
abbrev pub most_of : ℕ → List Row → ℕ
most_of size [] = 0
most_of size (row ∷ rows) = cond (row.size == size) row.most (most_of size rows)
