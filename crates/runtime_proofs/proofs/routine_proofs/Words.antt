-- What an operator makes of words is a word.
use Rattle.std.proofs.Common.{◌≡◌, ℕ, zero, suc, ◌*◌, ◌/◌, ◌%◌, ◌^◌, ◌≤◌, ◌<◌, Bool, true, false, Ok, subst, arith}
use Rattle.std.specs.Prelude.{nat_lt, ◌==◌, bit_and, bit_or, bit_xor}
use Rattle.std.proofs.Math.Nat.{div-le_self, mod-le}
use Rattle.std.proofs.lemmas.Nat.{and_le_l, or_lt, xor_lt}
use Rattle.common_values.specs.integers.Words.{w16, is_signed_less, wrapping_add, wrapping_sub, wrapping_mul, high_product, signed_quotient, signed_remainder, shifted_left, shifted_right, low_byte}
use Rattle.common_values.proofs.integers.WordLaws.{signed_quotient-word, signed_remainder-word}
use Rattle.flat_code.specs.declared.tree.FlatOp.{FlatOp}
use Rattle.flat_code.specs.declared.tree.FlatOp.TheVariants as op
use Rattle.flat_code.specs.Memory.{Found}
use Rattle.flat_code.specs.Meaning.{truth, divided, op_of}

same : (x y : ℕ) → (let r : Found ℕ = Ok x in r ≡ Ok y) → x ≡ y
same x y e = cc

bound : (x v n : ℕ) → x < n → (let r : Found ℕ = Ok x in r ≡ Ok v) → v < n
bound x v n h e = subst (λ k. k < n) (same x v e) h

pub truth-small : (b : Bool) → truth b < 65536
truth-small true = omega arith
truth-small false = omega arith

divided-small : (y x v : ℕ) → x < 65536 → divided y x ≡ Ok v → v < 65536
divided-small zero x v h e = absurd (cc)
divided-small (suc y) x v h e = bound x v 65536 h e

wider : (x y : ℕ) → x < 65536 → x * y ≤ 65535 * y
wider x y p = grind arith

high-small : (x y : ℕ) → x < 65536 → y < 65536 → x * y / 65536 < 65536
high-small x y p q = omega (arith, wider x y p)

pub op-small : (op : FlatOp) (x y v : ℕ) → x < 65536 → y < 65536 → op_of op x y ≡ Ok v → v < 65536
op-small op.Add x y v p q e = bound (wrapping_add w16 x y) v 65536 (omega arith) e
op-small op.Sub x y v p q e = bound (wrapping_sub w16 x y) v 65536 (omega arith) e
op-small op.Mul x y v p q e = bound (wrapping_mul w16 x y) v 65536 (omega arith) e
op-small op.MulHigh x y v p q e = bound (high_product w16 x y) v 65536 (high-small x y p q) e
op-small op.Div x y v p q e = divided-small y (signed_quotient w16 x y) v (signed_quotient-word w16 x y p) e
op-small op.Mod x y v p q e = divided-small y (signed_remainder w16 x y) v (signed_remainder-word w16 x y p) e
op-small op.DivUnsigned x y v p q e = divided-small y (x / y) v (omega (arith, div-le_self x y)) e
op-small op.ModUnsigned x y v p q e = divided-small y (x % y) v (omega (arith, mod-le x y)) e
op-small op.And x y v p q e = bound (bit_and x y) v 65536 (omega (arith, and_le_l x y)) e
op-small op.Or x y v p q e = bound (bit_or x y) v 65536 (or_lt 16 x y p q) e
op-small op.Xor x y v p q e = bound (bit_xor x y) v 65536 (xor_lt 16 x y p q) e
op-small op.Shl x y v p q e = bound (shifted_left w16 x (low_byte y)) v 65536 (omega arith) e
op-small op.Shr x y v p q e = bound (shifted_right x (low_byte y)) v 65536 (omega (arith, div-le_self x (2 ^ low_byte y))) e
op-small op.Equal x y v p q e = bound (truth (x == y)) v 65536 (truth-small (x == y)) e
op-small op.Less x y v p q e = bound (truth (is_signed_less w16 x y)) v 65536 (truth-small (is_signed_less w16 x y)) e
op-small op.Below x y v p q e = bound (truth (nat_lt x y)) v 65536 (truth-small (nat_lt x y)) e
