-- Parts of memory that lie one right below another, by their sizes from the top down.
use Rattle.std.specs.Prelude.{ℕ, zero, suc, ◌+◌, List, [], ◌∷◌, slice_index}

-- how many bytes lie above a part, by its number
abbrev pub above : List ℕ → ℕ → ℕ
above [] k = 0
above (size ∷ parts) zero = 0
above (size ∷ parts) (suc k) = size + above parts k

-- how far below the top its lowest byte lies
abbrev pub until : List ℕ → ℕ → ℕ
until parts k = above parts k + slice_index parts k
