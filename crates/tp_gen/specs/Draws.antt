-- Numbers that are drawn from a seed: a linear congruential generator with 32 bits of state.
use Rattle.std.specs.Prelude.{ℕ, zero, suc, ◌+◌, ◌*◌, ◌/◌, ◌%◌, ◌^◌}

-- the state that comes next
abbrev pub next_state : ℕ → ℕ
next_state state = (state * 1664525 + 1013904223) % 2 ^ 32

-- the state after so many draws
abbrev pub state_after : ℕ → ℕ → ℕ
state_after state zero = state
state_after state (suc count) = next_state (state_after state count)

-- The number below a bound that is drawn in this place behind a state; places count from 1. It comes from the upper 16 bits of the
-- state after this draw.
abbrev pub drawn : ℕ → ℕ → ℕ → ℕ
drawn state place bound = state_after state place / 65536 % bound
