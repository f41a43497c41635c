-- Arithmetic on bytes and words, and the carry and overflow that it leaves.
use Rattle.std.specs.Prelude.{ℕ, ◌+◌, ◌-◌, ◌*◌, ◌/◌, ◌%◌, ◌^◌, Bool, true, false, not, zero, suc, ◌==◌, ◌&&◌, nat_lt, nat_le, if◌then◌else◌, bit_and, bit_or, bit_xor, ℤ, pos, ◌+ℤ◌, ◌-ℤ◌, neg_ℤ, int_lt}
use Rattle.std.specs.Int
use Rattle.std.specs.Int.{cast_signed, cast_unsigned, int_shr, w8, w16, w32}
use Rattle.x86_table.specs.declared.instr.Width.{Width}
use Rattle.x86_table.specs.declared.instr.Width.TheVariants as width
use Rattle.x86_table.specs.declared.instr.AluOp.{AluOp}
use Rattle.x86_table.specs.declared.instr.AluOp.TheVariants as op
use Rattle.x86_table.specs.declared.instr.ShiftOp.{ShiftOp}
use Rattle.x86_table.specs.declared.instr.ShiftOp.TheVariants as shift
use Rattle.cpu_8086.specs.declared.arithmetic.Outcome.{Outcome}
use Rattle.cpu_8086.specs.declared.arithmetic.Shifted.{Shifted}

-- how many numbers a width has, and half of them
abbrev pub size : Width → ℕ
size width.Byte = 256
size width.Word = 65536

abbrev pub half : Width → ℕ
half width.Byte = 128
half width.Word = 32768

-- the sign bit
abbrev pub top : Width → ℕ → Bool
top w v = nat_le (half w) v

abbrev pub bit : Bool → ℕ
bit b = if b then 1 else 0

abbrev pub differ : Bool → Bool → Bool
differ true b = not b
differ false b = b

-- the signed number that a value stands for, in two's complement
abbrev pub signed : Width → ℕ → ℤ
signed width.Byte v = cast_signed w8 v
signed width.Word v = cast_signed w16 v

-- a signed number has a value of this width
abbrev pub fits : Width → ℤ → Bool
fits w z = not (int_lt z (neg_ℤ (pos (half w)))) && int_lt z (pos (half w))

-- x + y + c. Carry: the sum of the unsigned numbers is too large. Overflow: the sum of the signed ones doesn't fit.
unfoldable pub sum_of : Width → ℕ → ℕ → Bool → Outcome
sum_of w x y c = record {
  value = (x + y + bit c) % size w;
  carry = nat_le (size w) (x + y + bit c);
  overflow = not (fits w (signed w x +ℤ signed w y +ℤ pos (bit c)));
}

-- x - y - c. Carry: the unsigned x is less than what is taken off. Overflow: the signed difference doesn't fit.
unfoldable pub difference_of : Width → ℕ → ℕ → Bool → Outcome
difference_of w x y c = record {
  value = (x + 2 * size w - y - bit c) % size w;
  carry = nat_lt x (y + bit c);
  overflow = not (fits w (signed w x -ℤ signed w y -ℤ pos (bit c)));
}

abbrev pub bitwise : ℕ → Outcome
bitwise v = record { value = v; carry = false; overflow = false }

-- an operator of the arithmetic group on x and y, with the carry that was there
abbrev pub alu_of : AluOp → Width → ℕ → ℕ → Bool → Outcome
alu_of op.Add w x y c = sum_of w x y false
alu_of op.Or w x y c = bitwise (bit_or x y)
alu_of op.Adc w x y c = sum_of w x y c
alu_of op.Sbb w x y c = difference_of w x y c
alu_of op.And w x y c = bitwise (bit_and x y)
alu_of op.Sub w x y c = difference_of w x y false
alu_of op.Xor w x y c = bitwise (bit_xor x y)
alu_of op.Cmp w x y c = difference_of w x y false

-- a signed number as a value of twice the width
abbrev pub double : Width → Int.Width
double width.Byte = w16
double width.Word = w32

abbrev pub twice_as_wide : Width → ℤ → ℕ
twice_as_wide w z = cast_unsigned (double w) z

-- the bytes 80h to FFh as words are FF80h to FFFFh
abbrev pub sign_extend : ℕ → ℕ
sign_extend d = if nat_lt d 128 then d else d + 65280

-- n places to the left: multiplied by 2^n, and the last bit that went out
abbrev pub shifted_left : Width → ℕ → ℕ → Shifted
shifted_left w v n = record { value = v * 2 ^ n % size w; carry = (v * 2 ^ n / size w) % 2 == 1 }

-- n places to the right: divided by 2^n
abbrev pub shifted_right : ℕ → ℕ → Shifted
shifted_right v n = record { value = v / 2 ^ n; carry = (v / 2 ^ (n - 1)) % 2 == 1 }

-- the same for the signed number, rounded down
abbrev pub signed_shift : Width → ℕ → ℕ → ℕ
signed_shift width.Byte v n = cast_unsigned w8 (int_shr (cast_signed w8 v) n)
signed_shift width.Word v n = cast_unsigned w16 (int_shr (cast_signed w16 v) n)

abbrev pub shifted_right_signed : Width → ℕ → ℕ → Shifted
shifted_right_signed w v n = record { value = signed_shift w v n; carry = signed_shift w v (n - 1) % 2 == 1 }

-- one place to the left or to the right through the carry
abbrev pub rotated_left : Width → Shifted → Shifted
rotated_left w s = record { value = (2 * s.value + bit s.carry) % size w; carry = top w s.value }

abbrev pub rotated_right : Width → Shifted → Shifted
rotated_right w s = record { value = s.value / 2 + half w * bit s.carry; carry = s.value % 2 == 1 }

abbrev pub times : ℕ → (Shifted → Shifted) → Shifted → Shifted
times zero f s = s
times (suc n) f s = f (times n f s)

-- n places, n not being 0, with the carry that was there
unfoldable pub shift_of : ShiftOp → Width → ℕ → Bool → ℕ → Shifted
shift_of shift.Rcl w v c n = times n (rotated_left w) (record { value = v; carry = c })
shift_of shift.Rcr w v c n = times n (rotated_right w) (record { value = v; carry = c })
shift_of shift.Shl w v c n = shifted_left w v n
shift_of shift.Shr w v c n = shifted_right v n
shift_of shift.Sar w v c n = shifted_right_signed w v n

-- overflow after one place, from the number before and what the shift gave: the sign bit changed; SAR keeps it
abbrev pub shift_overflow : ShiftOp → Width → ℕ → Shifted → Bool
shift_overflow shift.Rcl w before s = differ (top w s.value) s.carry
shift_overflow shift.Rcr w before s = differ (top w s.value) (top w ((2 * s.value) % size w))
shift_overflow shift.Shl w before s = differ (top w s.value) s.carry
shift_overflow shift.Shr w before s = top w before
shift_overflow shift.Sar w before s = false
