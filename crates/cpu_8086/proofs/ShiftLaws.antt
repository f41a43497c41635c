-- Shifts place by place are shifts by arithmetic.
use Rattle.std.proofs.Common.{◌≡◌, ℕ, zero, suc, ◌+◌, ◌-◌, ◌*◌, ◌/◌, ◌%◌, ◌^◌, ◌==◌, ◌<◌, ◌≤◌, Bool, refl, sym, ap, ◌∙◌, arith}
use Rattle.std.specs.Prelude.{nat_le, ℤ, pos, negsuc}
use Rattle.std.specs.Int.RustNames.{FitsSigned}
use Rattle.std.specs.Int.{cast_signed, cast_unsigned, int_shr, w8, w16}
use Rattle.std.proofs.lemmas.Bool.Decides.{nat_tests}
use Rattle.std.proofs.lemmas.Int.{of_z-to_z}
use Rattle.std.proofs.Math.Facts.{sfits_to_z}
use Rattle.std.proofs.Math.Nat.{pow-suc, pow-succ', div-div-eq-div-mul, mul_assoc, mul_comm, div-one, div-le_self}
use Rattle.x86_table.specs.declared.instr.Width.{Width}
use Rattle.x86_table.specs.declared.instr.Width.TheVariants as width
use Rattle.x86_table.specs.declared.instr.ShiftOp.{ShiftOp}
use Rattle.x86_table.specs.declared.instr.ShiftOp.TheVariants as shift
use Rattle.cpu_8086.specs.declared.arithmetic.Shifted.{Shifted}
use Rattle.cpu_8086.specs.Arithmetic.{size, half, top, bit, times, shift_of, shifted_left, shifted_right, shifted_right_signed, signed_shift}
use Rattle.cpu_8086.specs.Places.{turn, turns}

abbrev start : ℕ → Bool → Shifted
start v c = record { value = v; carry = c }

-- two to the left, then one more
double_shift : (a : ℕ) (w : Width) → (2 * (a % size w)) % size w ≡ (2 * a) % size w
double_shift a width.Byte = omega arith
double_shift a width.Word = omega arith

-- the sign bit is the next that goes out
top_goes_out : (a : ℕ) (w : Width) → top w (a % size w) ≡ ((2 * a / size w) % 2 == 1)
top_goes_out a width.Byte = grind (arith, nat_tests)
top_goes_out a width.Word = grind (arith, nat_tests)

same_shifted : (a b : ℕ) (c d : Bool) → a ≡ b → c ≡ d → start a c ≡ start b d
same_shifted a b c d e f = ap (λ (k : ℕ). start k c) e ∙ ap (start b) f

power_step : (v n : ℕ) → v * 2 ^ suc n ≡ 2 * (v * 2 ^ n)
power_step v n =
    let e : 2 ^ suc n ≡ 2 * 2 ^ n = pow-succ' 2 n in
    let p = 2 ^ n in
    ap (λ (k : ℕ). v * k) e ∙ sym (mul_assoc v 2 p) ∙ ap (λ (k : ℕ). k * p) (mul_comm v 2) ∙ mul_assoc 2 v p

quotient_step : (v n : ℕ) → v / 2 ^ n / 2 ≡ v / 2 ^ suc n
quotient_step v n = div-div-eq-div-mul v (2 ^ n) 2 ∙ ap (λ (k : ℕ). v / k) (sym (pow-suc 2 n))

less_one : (n : ℕ) → suc n - 1 ≡ n
less_one n = omega arith

left_value : (w : Width) (v n : ℕ) (c : Bool) → v < size w → (times n (turn shift.Shl w) (start v c)).value ≡ v * 2 ^ n % size w
left_value width.Byte v zero c lt = omega arith
left_value width.Word v zero c lt = omega arith
left_value w v (suc n) c lt = ap (λ (k : ℕ). (2 * k) % size w) (left_value w v n c lt) ∙ double_shift (v * 2 ^ n) w ∙ ap (λ (k : ℕ). k % size w) (sym (power_step v n))

left_law : (w : Width) (v n : ℕ) (c : Bool) → v < size w → times (suc n) (turn shift.Shl w) (start v c) ≡ shifted_left w v (suc n)
left_law w v n c lt =
    let before = left_value w v n c lt in
    let step = power_step v n in
    same_shifted _ _ _ _ (left_value w v (suc n) c lt) (ap (top w) before ∙ top_goes_out (v * 2 ^ n) w ∙ ap (λ (k : ℕ). (k / size w) % 2 == 1) (sym step))

right_value : (w : Width) (v n : ℕ) (c : Bool) → (times n (turn shift.Shr w) (start v c)).value ≡ v / 2 ^ n
right_value w v zero c = omega arith
right_value w v (suc n) c = ap (λ (k : ℕ). k / 2) (right_value w v n c) ∙ quotient_step v n

right_law : (w : Width) (v n : ℕ) (c : Bool) → times (suc n) (turn shift.Shr w) (start v c) ≡ shifted_right v (suc n)
right_law w v n c =
    same_shifted _ _ _ _ (right_value w v (suc n) c) (ap (λ (k : ℕ). k % 2 == 1) (right_value w v n c) ∙ ap (λ (k : ℕ). (v / 2 ^ k) % 2 == 1) (sym (less_one n)))

-- an unsigned number behind a shift is no larger
quotient-le : (a n : ℕ) → a / 2 ^ n ≤ a
quotient-le a n = div-le_self a (2 ^ n)

upper_byte : (q : ℕ) → q < 128 → q / 2 + 128 * bit (nat_le 128 q) ≡ q / 2
upper_byte q lt = grind (arith, nat_tests)

lower_byte : (q : ℕ) → q < 128 → (256 - suc q) / 2 + 128 * bit (nat_le 128 (256 - suc q)) ≡ 256 - suc (q / 2)
lower_byte q lt = grind (arith, nat_tests)

upper_word : (q : ℕ) → q < 32768 → q / 2 + 32768 * bit (nat_le 32768 q) ≡ q / 2
upper_word q lt = grind (arith, nat_tests)

lower_word : (q : ℕ) → q < 32768 → (65536 - suc q) / 2 + 32768 * bit (nat_le 32768 (65536 - suc q)) ≡ 65536 - suc (q / 2)
lower_word q lt = grind (arith, nat_tests)

byte_step : (z : ℤ) (n : ℕ) → FitsSigned w8 z → cast_unsigned w8 (int_shr z n) / 2 + 128 * bit (nat_le 128 (cast_unsigned w8 (int_shr z n))) ≡ cast_unsigned w8 (int_shr z (suc n))
byte_step (pos a) n fits = upper_byte (a / 2 ^ n) (omega (arith, quotient-le a n, fits.sfits)) ∙ quotient_step a n
byte_step (negsuc a) n fits = lower_byte (a / 2 ^ n) (omega (arith, quotient-le a n, fits.sfits)) ∙ ap (λ (k : ℕ). 256 - suc k) (quotient_step a n)

word_step : (z : ℤ) (n : ℕ) → FitsSigned w16 z → cast_unsigned w16 (int_shr z n) / 2 + 32768 * bit (nat_le 32768 (cast_unsigned w16 (int_shr z n))) ≡ cast_unsigned w16 (int_shr z (suc n))
word_step (pos a) n fits = upper_word (a / 2 ^ n) (omega (arith, quotient-le a n, fits.sfits)) ∙ quotient_step a n
word_step (negsuc a) n fits = lower_word (a / 2 ^ n) (omega (arith, quotient-le a n, fits.sfits)) ∙ ap (λ (k : ℕ). 65536 - suc k) (quotient_step a n)

shift_none : (z : ℤ) → int_shr z 0 ≡ z
shift_none (pos a) = ap pos (div-one a)
shift_none (negsuc a) = ap negsuc (div-one a)

-- a place to the right halves the signed number and keeps its sign bit
signed_step : (w : Width) (v n : ℕ) → v < size w → signed_shift w v n / 2 + half w * bit (top w (signed_shift w v n)) ≡ signed_shift w v (suc n)
signed_step width.Byte v n lt = byte_step (cast_signed w8 v) n (sfits_to_z (record { fits = omega arith }))
signed_step width.Word v n lt = word_step (cast_signed w16 v) n (sfits_to_z (record { fits = omega arith }))

signed_start : (w : Width) (v : ℕ) → v < size w → v ≡ signed_shift w v 0
signed_start width.Byte v lt = sym (ap (cast_unsigned w8) (shift_none (cast_signed w8 v)) ∙ of_z-to_z w8 v (omega arith))
signed_start width.Word v lt = sym (ap (cast_unsigned w16) (shift_none (cast_signed w16 v)) ∙ of_z-to_z w16 v (omega arith))

signed_value : (w : Width) (v n : ℕ) (c : Bool) → v < size w → (times n (turn shift.Sar w) (start v c)).value ≡ signed_shift w v n
signed_value w v zero c lt = signed_start w v lt
signed_value w v (suc n) c lt = ap (λ (k : ℕ). k / 2 + half w * bit (top w k)) (signed_value w v n c lt) ∙ signed_step w v n lt

signed_law : (w : Width) (v n : ℕ) (c : Bool) → v < size w → times (suc n) (turn shift.Sar w) (start v c) ≡ shifted_right_signed w v (suc n)
signed_law w v n c lt =
    same_shifted _ _ _ _ (signed_value w v (suc n) c lt) (ap (λ (k : ℕ). k % 2 == 1) (signed_value w v n c lt) ∙ ap (λ (k : ℕ). signed_shift w v k % 2 == 1) (sym (less_one n)))

by_operator : (p : ShiftOp) (w : Width) (v n : ℕ) (c : Bool) → v < size w → turns p w v c (suc n) ≡ shift_of p w v c (suc n)
unfolding turns shift_of
by_operator shift.Rcl w v n c lt = refl
by_operator shift.Rcr w v n c lt = refl
by_operator shift.Shl w v n c lt = left_law w v n c lt
by_operator shift.Shr w v n c lt = right_law w v n c
by_operator shift.Sar w v n c lt = signed_law w v n c lt

pub turns_shift : (p : ShiftOp) (w : Width) (v n : ℕ) (c : Bool) → v < size w → 0 < n → turns p w v c n ≡ shift_of p w v c n
turns_shift p w v zero c lt some = absurd (omega arith)
turns_shift p w v (suc n) c lt some = by_operator p w v n c lt
