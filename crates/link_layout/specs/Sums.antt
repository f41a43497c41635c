-- Sizes rounded up, and where parts begin that lie one after another.
use Rattle.std.specs.Prelude.{ℕ, ◌+◌, ◌/◌, ◌%◌, List, [], ◌∷◌}

abbrev pub even : ℕ → ℕ
even size = size + size % 2

-- how many paragraphs of 16 bytes hold so many bytes
abbrev pub paragraphs : ℕ → ℕ
paragraphs bytes = (bytes + 15) / 16

abbrev pub total : List ℕ → ℕ
total [] = 0
total (size ∷ sizes) = size + total sizes

-- where parts of these sizes begin, the first of them at a place
abbrev pub sums_from : ℕ → List ℕ → List ℕ
sums_from place [] = []
sums_from place (size ∷ sizes) = place ∷ sums_from (place + size) sizes
