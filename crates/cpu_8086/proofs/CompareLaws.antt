-- What the flags of a comparison decide.
use Rattle.std.proofs.Common.{◌≡◌, ℕ, ◌+◌, ◌-◌, ◌*◌, ◌%◌, ◌==◌, ◌<◌, Bool, true, false, not, refl, ap, ◌∙◌, arith}
use Rattle.std.specs.Prelude.{nat_le, nat_lt, ℤ, pos, ◌-ℤ◌, int_lt, ◌||◌}
use Rattle.std.proofs.lemmas.Bool.Decides.{nat_tests}
use Rattle.std.proofs.lemmas.Int.{ints}
use Rattle.x86_table.specs.declared.instr.Width.{Width}
use Rattle.x86_table.specs.declared.instr.Width.TheVariants as width
use Rattle.x86_table.specs.declared.instr.Cond.{Cond}
use Rattle.x86_table.specs.declared.instr.Cond.TheVariants as cond
use Rattle.cpu_8086.specs.declared.registers.Registers.{Registers}
use Rattle.cpu_8086.specs.Effect.{holds}
use Rattle.cpu_8086.specs.Laws.{compared, decides}
use Rattle.cpu_8086.specs.Arithmetic.{size, top, differ, signed, fits, difference_of}

abbrev pub difference : Width → ℕ → ℕ → ℕ
difference w x y = (x + 2 * size w - y - 0) % size w

-- the difference is 0 exactly where the two are equal
pub difference_zero : (w : Width) (x y : ℕ) → x < size w → y < size w → (difference w x y == 0) ≡ (x == y)
difference_zero width.Byte x y hx hy = grind (arith, nat_tests)
difference_zero width.Word x y hx hy = grind (arith, nat_tests)

pub below : (x y : ℕ) → nat_lt x (y + 0) ≡ nat_lt x y
below x y = grind (arith, nat_tests)

pub below_or_equal : (x y : ℕ) → (nat_lt x (y + 0) || (x == y)) ≡ nat_le x y
below_or_equal x y = grind (arith, nat_tests)

-- the sign of the difference is wrong exactly where it overflows
pub less : (w : Width) (x y : ℕ) → x < size w → y < size w → differ (top w (difference w x y)) (not (fits w (signed w x -ℤ signed w y -ℤ pos 0))) ≡ int_lt (signed w x) (signed w y)
less width.Byte x y hx hy = grind (arith, ints, nat_tests)
less width.Word x y hx hy = grind (arith, ints, nat_tests)

pub less_or_equal : (w : Width) (x y : ℕ) → x < size w → y < size w → ((x == y) || int_lt (signed w x) (signed w y)) ≡ not (int_lt (signed w y) (signed w x))
less_or_equal width.Byte x y hx hy = grind (arith, ints, nat_tests)
less_or_equal width.Word x y hx hy = grind (arith, ints, nat_tests)

-- an overflow without a borrow
no_borrow : (w : Width) (x y : ℕ) → x < size w → y < size w → signed w x -ℤ signed w y -ℤ pos 0 ≡ signed w x -ℤ signed w y
no_borrow width.Byte x y hx hy = omega (arith, ints)
no_borrow width.Word x y hx hy = omega (arith, ints)

at_least : (x y : ℕ) → not (nat_lt x (y + 0)) ≡ nat_le y x
at_least x y = grind (arith, nat_tests)

above : (x y : ℕ) → not (nat_le x y) ≡ nat_lt y x
above x y = grind (arith, nat_tests)

sign_of : (w : Width) (x y : ℕ) → x < size w → y < size w → top w (difference w x y) ≡ top w ((x + size w - y) % size w)
sign_of width.Byte x y hx hy = ap (top width.Byte) (omega arith)
sign_of width.Word x y hx hy = ap (top width.Word) (omega arith)

twice_not : (b : Bool) → not (not b) ≡ b
twice_not true = refl
twice_not false = refl

either : (g : Registers) (w : Width) (x y : ℕ) → x < size w → y < size w → ((difference w x y == 0) || differ (top w (difference w x y)) (not (fits w (signed w x -ℤ signed w y -ℤ pos 0)))) ≡ not (int_lt (signed w y) (signed w x))
either g w x y hx hy =
    ap (λ (b : Bool). b || differ (top w (difference w x y)) (not (fits w (signed w x -ℤ signed w y -ℤ pos 0)))) (difference_zero w x y hx hy) ∙ ap (λ (b : Bool). (x == y) || b) (less w x y hx hy) ∙ less_or_equal w x y hx hy

carry_or_zero : (w : Width) (x y : ℕ) → x < size w → y < size w → (nat_lt x (y + 0) || (difference w x y == 0)) ≡ nat_le x y
carry_or_zero w x y hx hy = ap (λ (b : Bool). nat_lt x (y + 0) || b) (difference_zero w x y hx hy) ∙ below_or_equal x y

-- after CMP each condition holds exactly where its relation does
pub compare_decides : (g : Registers) (w : Width) (x y : ℕ) (c : Cond) → x < size w → y < size w → holds (compared g w x y) c ≡ decides c w x y
unfolding difference_of
compare_decides g w x y cond.Overflow hx hy = ap (λ (z : ℤ). not (fits w z)) (no_borrow w x y hx hy)
compare_decides g w x y cond.NoOverflow hx hy = twice_not _ ∙ ap (fits w) (no_borrow w x y hx hy)
compare_decides g w x y cond.Below hx hy = below x y
compare_decides g w x y cond.AboveOrEqual hx hy = at_least x y
compare_decides g w x y cond.Equal hx hy = difference_zero w x y hx hy
compare_decides g w x y cond.NotEqual hx hy = ap not (difference_zero w x y hx hy)
compare_decides g w x y cond.BelowOrEqual hx hy = carry_or_zero w x y hx hy
compare_decides g w x y cond.Above hx hy = ap not (carry_or_zero w x y hx hy) ∙ above x y
compare_decides g w x y cond.Sign hx hy = sign_of w x y hx hy
compare_decides g w x y cond.NoSign hx hy = ap not (sign_of w x y hx hy)
compare_decides g w x y cond.Less hx hy = less w x y hx hy
compare_decides g w x y cond.GreaterOrEqual hx hy = ap not (less w x y hx hy)
compare_decides g w x y cond.LessOrEqual hx hy = either g w x y hx hy
compare_decides g w x y cond.Greater hx hy = ap not (either g w x y hx hy) ∙ twice_not _
compare_decides g w x y cond.Always hx hy = refl
