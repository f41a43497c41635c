-- Operators that undo each other.
use Rattle.std.proofs.Common.{◌≡◌, ℕ, ◌+◌, ◌*◌, ◌/◌, ◌%◌, ◌==◌, ◌<◌, Bool, true, false, refl, sym, ap, ◌∙◌, arith}
use Rattle.std.specs.Prelude.{nat_le, if◌then◌else◌}
use Rattle.std.proofs.lemmas.Bool.Decides.{nat_tests}
use Rattle.std.proofs.lemmas.Bool.{false≢true}
use Rattle.std.proofs.lemmas.Nat.{mul-lt, div-add-mod'}
use Rattle.std.proofs.Math.Nat.{mul-div_cancel, mul-mod_left}
use Rattle.x86_table.specs.declared.instr.Width.{Width}
use Rattle.x86_table.specs.declared.instr.Width.TheVariants as width
use Rattle.cpu_8086.specs.declared.registers.Registers.{Registers}
use Rattle.cpu_8086.specs.Arithmetic.{size, sum_of, difference_of}
use Rattle.cpu_8086.specs.Access.{Act, Done, DivideFault}
use Rattle.cpu_8086.specs.Effect.{accumulator, dividend, with_halves, with_product, multiplied, divided}

-- ADD then SUB of the same operand
pub add_subtract : (w : Width) (x y : ℕ) → x < size w → y < size w → (difference_of w (sum_of w x y false).value y false).value ≡ x
unfolding sum_of difference_of
add_subtract width.Byte x y hx hy = omega arith
add_subtract width.Word x y hx hy = omega arith

pub product_dividend : (g : Registers) (w : Width) (p : ℕ) (excess : Bool) → p < size w * size w → dividend (with_product g w p excess) w ≡ p
product_dividend g width.Byte p excess lt = omega arith
product_dividend g width.Word p excess lt = omega arith

no_fault : (a b : Bool) (r : Act) → a ≡ false → b ≡ false → (if a then DivideFault else (if b then DivideFault else r)) ≡ r
no_fault true b r e f = absurd (false≢true (sym e))
no_fault false true r e f = absurd (false≢true (sym f))
no_fault false false r e f = refl

not_zero : (v : ℕ) → 0 < v → (v == 0) ≡ false
not_zero v lt = grind (arith, nat_tests)

not_large : (w : Width) (q : ℕ) → q < size w → nat_le (size w) q ≡ false
not_large width.Byte q lt = grind (arith, nat_tests)
not_large width.Word q lt = grind (arith, nat_tests)

-- a division by its quotient and its remainder
abbrev by_parts : Registers → Width → ℕ → ℕ → ℕ → Act
by_parts g w v q r = if v == 0 then DivideFault else (if nat_le (size w) q then DivideFault else Done (with_halves g w r q))

exact : (g : Registers) (w : Width) (v a : ℕ) → 0 < v → a < size w → by_parts g w v (a * v / v) (a * v % v) ≡ Done (with_halves g w 0 a)
exact g w v a some lt =
    let quotient : a * v / v ≡ a = mul-div_cancel a some in
    let remainder : a * v % v ≡ 0 = mul-mod_left a v in
    ap (λ (q : ℕ). by_parts g w v q (a * v % v)) quotient ∙ ap (λ (r : ℕ). by_parts g w v a r) remainder ∙ no_fault (v == 0) (nat_le (size w) a) (Done (with_halves g w 0 a)) (not_zero v some) (not_large w a lt)

-- MUL then DIV by the same operand
pub multiply_divide : (g : Registers) (w : Width) (v : ℕ) → 0 < v → v < size w → accumulator g w < size w → divided (multiplied g w v) w v ≡ Done (with_halves (multiplied g w v) w 0 (accumulator g w))
multiply_divide g w v some lt fits =
    let a = accumulator g w in
    let h = multiplied g w v in
    let bound : a * v < size w * size w = mul-lt a v (size w) (size w) fits lt in
    ap (λ (d : ℕ). by_parts h w v (d / v) (d % v)) (product_dividend g w (a * v) (nat_le (size w) (a * v)) bound) ∙ exact h w v a some fits

-- the halves after a division, AL and AH or AX and DX
lower_half : (g : Registers) (w : Width) (q r : ℕ) → q < size w → accumulator (with_halves g w r q) w ≡ q
lower_half g width.Byte q r lt = omega arith
lower_half g width.Word q r lt = refl

upper_half : (g : Registers) (w : Width) (q r : ℕ) → q < size w → dividend (with_halves g w r q) w / size w ≡ r
upper_half g width.Byte q r lt = omega arith
upper_half g width.Word q r lt = omega arith

-- DIV, where it doesn't fault, then MUL, with the remainder added
pub divide_multiply : (g : Registers) (w : Width) (v : ℕ) → 0 < v → dividend g w / v < size w → (h : Registers) × (divided g w v ≡ Done h) × (accumulator h w * v + dividend h w / size w ≡ dividend g w)
divide_multiply g w v some small =
    let q = dividend g w / v in
    let r = dividend g w % v in
    let h = with_halves g w r q in
    let whole : q * v + r ≡ dividend g w = div-add-mod' (dividend g w) v in
    let lower : accumulator h w ≡ q = lower_half g w q r small in
    let upper : dividend h w / size w ≡ r = upper_half g w q r small in
    (h, no_fault (v == 0) (nat_le (size w) q) (Done h) (not_zero v some) (not_large w q small), ap (λ (k : ℕ). k * v + dividend h w / size w) lower ∙ ap (λ (k : ℕ). q * v + k) upper ∙ whole)
