-- Opcodes and overrides.
use Rattle.std.proofs.Math.Seq.{drop-append_seam}
use Rattle.std.proofs.Common.{◌≡◌, ◌≢◌, ℕ, ◌+◌, ◌-◌, ◌∙◌, sym, length, drop, length-append, ◌*◌, ◌<◌, List, [], ◌∷◌, ◌++◌, Option, arith, refl, ap}
use Rattle.std.specs.Prelude.{None, Some}
use Rattle.x86_table.specs.declared.operand.SegReg.{SegReg}
use Rattle.x86_table.specs.declared.row.Row.{Row}
use Rattle.x86_table.specs.Codes.{seg_reg_code}
use Rattle.x86_table.specs.Opcode.{opcode}
use Rattle.x86_table.specs.Spelling.{prefix}

-- no opcode is an override
pub opcode_apart : (r : Row) (s : SegReg) → opcode r ≢ 0x26 + 8 * seg_reg_code s
opcode_apart r s e = grind arith

pub seg_reg_code_injective : (s t : SegReg) → seg_reg_code s ≡ seg_reg_code t → s ≡ t
seg_reg_code_injective s t e = grind arith

-- the part in front of a rest, by lengths
pub front : (bytes a b : List ℕ) → bytes ≡ a ++ b → (length bytes - length b ≡ length a) × (bytes ≡ a ++ drop (length bytes - length b) bytes)
front bytes a b e =
    let l = ap length e ∙ length-append a b in
    let n : length bytes - length b ≡ length a = omega arith in
    let d : drop (length a) (a ++ b) ≡ b = drop-append_seam a b in
    (n, rw n (rw e (ap (λ t. a ++ t) (sym d))))
