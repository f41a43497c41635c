-- What the laws speak of besides: comparisons, and the relation that each conditional jump decides after one.
use Rattle.std.specs.Prelude.{ℕ, ◌+◌, ◌-◌, ◌%◌, ◌==◌, Bool, true, false, not, nat_lt, nat_le, ◌-ℤ◌, int_lt}
use Rattle.x86_table.specs.declared.instr.Width.{Width}
use Rattle.x86_table.specs.declared.instr.Cond.{Cond}
use Rattle.x86_table.specs.declared.instr.Cond.TheVariants as cond
use Rattle.cpu_8086.specs.declared.registers.Registers.{Registers}
use Rattle.cpu_8086.specs.Arithmetic.{size, top, signed, fits, difference_of}
use Rattle.cpu_8086.specs.Effect.{with_flags}

-- the registers after CMP of x with y
abbrev pub compared : Registers → Width → ℕ → ℕ → Registers
compared g w x y = with_flags g w (difference_of w x y false)

-- the relation of x to y that a condition stands for: as unsigned numbers, or as signed ones
abbrev pub decides : Cond → Width → ℕ → ℕ → Bool
decides cond.Overflow w x y = not (fits w (signed w x -ℤ signed w y))
decides cond.NoOverflow w x y = fits w (signed w x -ℤ signed w y)
decides cond.Below w x y = nat_lt x y
decides cond.AboveOrEqual w x y = nat_le y x
decides cond.Equal w x y = x == y
decides cond.NotEqual w x y = not (x == y)
decides cond.BelowOrEqual w x y = nat_le x y
decides cond.Above w x y = nat_lt y x
decides cond.Sign w x y = top w ((x + size w - y) % size w)
decides cond.NoSign w x y = not (top w ((x + size w - y) % size w))
decides cond.Less w x y = int_lt (signed w x) (signed w y)
decides cond.GreaterOrEqual w x y = not (int_lt (signed w x) (signed w y))
decides cond.LessOrEqual w x y = not (int_lt (signed w y) (signed w x))
decides cond.Greater w x y = int_lt (signed w y) (signed w x)
decides cond.Always w x y = true
