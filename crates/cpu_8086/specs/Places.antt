-- Shifts place by place, as the code does them.
use Rattle.std.specs.Prelude.{ℕ, ◌+◌, ◌*◌, ◌/◌, ◌%◌, Bool, ◌==◌}
use Rattle.x86_table.specs.declared.instr.Width.{Width}
use Rattle.x86_table.specs.declared.instr.ShiftOp.{ShiftOp}
use Rattle.x86_table.specs.declared.instr.ShiftOp.TheVariants as shift
use Rattle.cpu_8086.specs.declared.arithmetic.Shifted.{Shifted}
use Rattle.cpu_8086.specs.Arithmetic.{size, half, top, bit, rotated_left, rotated_right, times}

-- one place
abbrev pub turn : ShiftOp → Width → Shifted → Shifted
turn shift.Rcl w s = rotated_left w s
turn shift.Rcr w s = rotated_right w s
turn shift.Shl w s = record { value = (2 * s.value) % size w; carry = top w s.value }
turn shift.Shr w s = record { value = s.value / 2; carry = s.value % 2 == 1 }
turn shift.Sar w s = record { value = s.value / 2 + half w * bit (top w s.value); carry = s.value % 2 == 1 }

-- n places
unfoldable pub turns : ShiftOp → Width → ℕ → Bool → ℕ → Shifted
turns p w v c n = times n (turn p w) (record { value = v; carry = c })
