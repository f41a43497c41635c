-- Signed numbers of a byte or a word, as they are computed with at 32 bits.
use Rattle.std.proofs.Common.{◌≡◌, ℕ, Bool, true, false, not, refl, ap, ◌∙◌, arith, ℤ, pos, ◌+ℤ◌, ◌-ℤ◌, ◌*ℤ◌, ◌≤ℤ◌, ◌<ℤ◌, neg_ℤ}
use Rattle.std.specs.Int.{cast_signed, cast_unsigned, w32, from_bool}
use Rattle.std.specs.Int.RustNames.{FitsSigned}
use Rattle.std.proofs.lemmas.Int.{ints, fits_signed_mul, to_z-of_z}
use Rattle.x86_table.specs.declared.instr.Width.{Width}
use Rattle.x86_table.specs.declared.instr.Width.TheVariants as width
use Rattle.cpu_8086.specs.Arithmetic.{half, bit, double, signed, fits}

pub bool_byte-bit : (b : Bool) → from_bool b ≡ bit b
bool_byte-bit true = refl
bool_byte-bit false = refl

-- an i32 as it is passed on
abbrev pub passed : ℤ → ℤ
passed z = cast_signed w32 (cast_unsigned w32 z)

pub sum_round : (w : Width) (a b : ℤ) (c : Bool) → neg_ℤ (pos (half w)) ≤ℤ a → a <ℤ pos (half w) → neg_ℤ (pos (half w)) ≤ℤ b → b <ℤ pos (half w) → passed (passed (passed a +ℤ passed b) +ℤ passed (pos (bit c))) ≡ a +ℤ b +ℤ pos (bit c)
sum_round width.Byte a b true h1 h2 h3 h4 = omega (arith, ints)
sum_round width.Byte a b false h1 h2 h3 h4 = omega (arith, ints)
sum_round width.Word a b true h1 h2 h3 h4 = omega (arith, ints)
sum_round width.Word a b false h1 h2 h3 h4 = omega (arith, ints)

pub difference_round : (w : Width) (a b : ℤ) (c : Bool) → neg_ℤ (pos (half w)) ≤ℤ a → a <ℤ pos (half w) → neg_ℤ (pos (half w)) ≤ℤ b → b <ℤ pos (half w) → passed (passed (passed a -ℤ passed b) -ℤ passed (pos (bit c))) ≡ a -ℤ b -ℤ pos (bit c)
difference_round width.Byte a b true h1 h2 h3 h4 = omega (arith, ints)
difference_round width.Byte a b false h1 h2 h3 h4 = omega (arith, ints)
difference_round width.Word a b true h1 h2 h3 h4 = omega (arith, ints)
difference_round width.Word a b false h1 h2 h3 h4 = omega (arith, ints)

-- the product of two signed numbers fits twice their width
pub product_fits : (w : Width) (a b : ℤ) → neg_ℤ (pos (half w)) ≤ℤ a → a <ℤ pos (half w) → neg_ℤ (pos (half w)) ≤ℤ b → b <ℤ pos (half w) → FitsSigned (double w) (a *ℤ b)
product_fits width.Byte a b h1 h2 h3 h4 = fits_signed_mul _ a b 128 128 (omega (arith, ints)) (omega (arith, ints)) (omega arith)
product_fits width.Word a b h1 h2 h3 h4 = fits_signed_mul _ a b 32768 32768 (omega (arith, ints)) (omega (arith, ints)) (omega arith)

passed_same : (w : Width) (a : ℤ) → neg_ℤ (pos (half w)) ≤ℤ a → a <ℤ pos (half w) → passed a ≡ a
passed_same width.Byte a h1 h2 = omega (arith, ints)
passed_same width.Word a h1 h2 = omega (arith, ints)

product_fits_i32 : (w : Width) (a b : ℤ) → neg_ℤ (pos (half w)) ≤ℤ a → a <ℤ pos (half w) → neg_ℤ (pos (half w)) ≤ℤ b → b <ℤ pos (half w) → FitsSigned w32 (a *ℤ b)
product_fits_i32 width.Byte a b h1 h2 h3 h4 = fits_signed_mul _ a b 128 128 (omega (arith, ints)) (omega (arith, ints)) (omega arith)
product_fits_i32 width.Word a b h1 h2 h3 h4 = fits_signed_mul _ a b 32768 32768 (omega (arith, ints)) (omega (arith, ints)) (omega arith)

pub product_round : (w : Width) (a b : ℤ) → neg_ℤ (pos (half w)) ≤ℤ a → a <ℤ pos (half w) → neg_ℤ (pos (half w)) ≤ℤ b → b <ℤ pos (half w) → passed (passed a *ℤ passed b) ≡ a *ℤ b
product_round w a b h1 h2 h3 h4 =
    ap (λ (k : ℤ). passed (k *ℤ passed b)) (passed_same w a h1 h2) ∙ ap (λ (k : ℤ). passed (a *ℤ k)) (passed_same w b h3 h4) ∙ to_z-of_z w32 (a *ℤ b) (product_fits_i32 w a b h1 h2 h3 h4)

-- so what the code tests is what the definition says
pub sum_overflow : (w : Width) (x y : ℕ) (c : Bool) (a b d : ℤ) (r : Bool) → a ≡ signed w x → b ≡ signed w y → d ≡ pos (from_bool c) → neg_ℤ (pos (half w)) ≤ℤ a → a <ℤ pos (half w) → neg_ℤ (pos (half w)) ≤ℤ b → b <ℤ pos (half w) → r ≡ fits w (passed (passed (passed a +ℤ passed b) +ℤ passed d)) → not r ≡ not (fits w (signed w x +ℤ signed w y +ℤ pos (bit c)))
sum_overflow w x y c a b d r ea eb ed h1 h2 h3 h4 er =
    ap not (er ∙ ap (fits w) (ap (λ (k : ℤ). passed (passed (passed a +ℤ passed b) +ℤ passed k)) (ed ∙ ap pos (bool_byte-bit c)) ∙ sum_round w a b c h1 h2 h3 h4 ∙ ap (λ (k : ℤ). k +ℤ b +ℤ pos (bit c)) ea ∙ ap (λ (k : ℤ). signed w x +ℤ k +ℤ pos (bit c)) eb))

pub difference_overflow : (w : Width) (x y : ℕ) (c : Bool) (a b d : ℤ) (r : Bool) → a ≡ signed w x → b ≡ signed w y → d ≡ pos (from_bool c) → neg_ℤ (pos (half w)) ≤ℤ a → a <ℤ pos (half w) → neg_ℤ (pos (half w)) ≤ℤ b → b <ℤ pos (half w) → r ≡ fits w (passed (passed (passed a -ℤ passed b) -ℤ passed d)) → not r ≡ not (fits w (signed w x -ℤ signed w y -ℤ pos (bit c)))
difference_overflow w x y c a b d r ea eb ed h1 h2 h3 h4 er =
    ap not (er ∙ ap (fits w) (ap (λ (k : ℤ). passed (passed (passed a -ℤ passed b) -ℤ passed k)) (ed ∙ ap pos (bool_byte-bit c)) ∙ difference_round w a b c h1 h2 h3 h4 ∙ ap (λ (k : ℤ). k -ℤ b -ℤ pos (bit c)) ea ∙ ap (λ (k : ℤ). signed w x -ℤ k -ℤ pos (bit c)) eb))
