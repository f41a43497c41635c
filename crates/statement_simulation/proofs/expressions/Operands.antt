-- Where memory operands of code lead: offsets and segments of displaced registers.
use Rattle.std.proofs.Common.{◌≡◌, ℕ, ◌+◌, ◌%◌, ◌<◌, ◌≤◌, Bool, true, false, arith, refl, ap, ◌∙◌}
use Rattle.std.specs.Prelude.{if◌then◌else◌, nat_lt, ℤ, pos, negsuc}
use Rattle.std.proofs.lemmas.Bool.{lt-ltb, le-ltb, ltb-true, ltb-false}
use Rattle.common_values.specs.integers.Words.{w16, word_of}
use Rattle.x86_table.specs.declared.operand.Base.{Base}
use Rattle.x86_table.specs.declared.operand.Place.TheVariants.{Direct, ByteDisplacement, WordDisplacement}
use Rattle.cpu_8086.specs.declared.registers.Registers.{Registers}
use Rattle.cpu_8086.specs.Arithmetic.{sign_extend}
use Rattle.cpu_8086.specs.Operand.{base_sum, base_segment, offset_of, usual_segment}
use Rattle.code_templates.specs.code_lines.Operands.{displaced}

-- the sign of a byte displacement
extended_low : (d : ℕ) → d < 128 → sign_extend d ≡ d
extended_low d h = ap (λ b. if b then d else d + 65280) (lt-ltb d 128 h)

extended_high : (d : ℕ) → 65408 ≤ d → d < 65536 → sign_extend (d % 256) ≡ d
extended_high d h g =
    let low : 128 ≤ d % 256 = omega arith in
    let whole : d % 256 + 65280 ≡ d = omega arith in
    ap (λ b. if b then d % 256 else d % 256 + 65280) (le-ltb (d % 256) 128 low) ∙ whole

pub displaced_offset : (g : Registers) (b : Base) (d : ℕ) → d < 65536 → offset_of g (displaced b d) ≡ (base_sum g b + d) % 65536
unfolding displaced offset_of
displaced_offset g b d h = by (nat_lt d 128) (nat_lt d 65408) refl refl
  where
    by : (x y : Bool) → nat_lt d 128 ≡ x → nat_lt d 65408 ≡ y → offset_of g (if x then ByteDisplacement b d else (if y then WordDisplacement b d else ByteDisplacement b (d % 256))) ≡ (base_sum g b + d) % 65536
    by true y e f = ap (λ n. (base_sum g b + n) % 65536) (extended_low d (ltb-true d 128 e))
    by false true e f = refl
    by false false e f = ap (λ n. (base_sum g b + n) % 65536) (extended_high d (ltb-false d 65408 f) h)

pub displaced_segment : (g : Registers) (b : Base) (d : ℕ) → usual_segment g (displaced b d) ≡ base_segment g b
unfolding displaced usual_segment
displaced_segment g b d = by (nat_lt d 128) (nat_lt d 65408)
  where
    by : (x y : Bool) → usual_segment g (if x then ByteDisplacement b d else (if y then WordDisplacement b d else ByteDisplacement b (d % 256))) ≡ base_segment g b
    by true y = refl
    by false true = refl
    by false false = refl

pub direct_offset : (g : Registers) (o : ℕ) → offset_of g (Direct o) ≡ o
unfolding offset_of
direct_offset g o = refl

pub direct_segment : (g : Registers) (o : ℕ) → usual_segment g (Direct o) ≡ g.ds
unfolding usual_segment
direct_segment g o = refl

-- a distance as a word
pub word_of_small : (z : ℤ) → word_of w16 z < 65536
word_of_small (pos n) = omega arith
word_of_small (negsuc n) = omega arith
