-- How a count of faults moves.
use Rattle.std.specs.Prelude.{ℕ, ◌+◌, ◌^◌, ◌<◌, ◌≤◌, ◌⊎◌}

-- The count rose. One that stands at the greatest u64 can't rise further, and counts as risen.
abbrev pub HasRisen : ℕ → ℕ → Type 0
HasRisen old new = (old < new) ⊎ (2 ^ 64 ≤ new + 1)
