-- How long spellings are.
use Rattle.std.proofs.Common.{◌≡◌, ℕ, ◌+◌, ◌≤◌, List, [], ◌∷◌, ◌++◌, Option, length, length-append, arith, refl}
use Rattle.std.specs.Prelude.{None, Some}
use Rattle.x86_table.specs.declared.operand.SegReg.{SegReg}
use Rattle.x86_table.specs.declared.operand.Place.{Place}
use Rattle.x86_table.specs.declared.operand.Place.TheVariants.{Direct, Indirect, ByteDisplacement, WordDisplacement}
use Rattle.x86_table.specs.declared.operand.Memory.{Memory}
use Rattle.x86_table.specs.declared.operand.ByteOperand.{ByteOperand}
use Rattle.x86_table.specs.declared.operand.ByteOperand.TheVariants as byte
use Rattle.x86_table.specs.declared.operand.WordOperand.{WordOperand}
use Rattle.x86_table.specs.declared.operand.WordOperand.TheVariants as word
use Rattle.x86_table.specs.declared.instr.Pair.{Pair}
use Rattle.x86_table.specs.declared.instr.Immediate.{Immediate}
use Rattle.x86_table.specs.declared.instr.Target.{Target}
use Rattle.x86_table.specs.declared.instr.Instr.{Instr}
use Rattle.x86_table.specs.declared.instr.Instr.TheVariants as instr
use Rattle.x86_table.specs.Opcode.{opcode}
use Rattle.x86_table.specs.Spelling.{word_bytes, prefix, displacement, memory_modrm, byte_modrm, word_modrm, pair_body, immediate_body, target_body, row_of_instr, segment_override, body, spelling}

pub length-word_bytes : (w : ℕ) → length (word_bytes w) ≡ 2
unfolding word_bytes
length-word_bytes w = refl

pub length-displacement : (p : Place) → length (displacement p) ≤ 2
length-displacement (Direct o) = omega (arith, length-word_bytes o)
length-displacement (Indirect b) = omega arith
length-displacement (ByteDisplacement b d) = omega arith
length-displacement (WordDisplacement b d) = omega (arith, length-word_bytes d)

pub length-memory_modrm : (f : ℕ) (m : Memory) → length (memory_modrm f m) ≤ 3
unfolding memory_modrm
length-memory_modrm f m = omega (arith, length-displacement m.place)

pub length-word_modrm : (f : ℕ) (o : WordOperand) → length (word_modrm f o) ≤ 3
unfolding word_modrm
length-word_modrm f (word.Reg r) = omega arith
length-word_modrm f (word.Mem m) = length-memory_modrm f m

pub length-byte_modrm : (f : ℕ) (o : ByteOperand) → length (byte_modrm f o) ≤ 3
unfolding byte_modrm
length-byte_modrm f (byte.Reg r) = omega arith
length-byte_modrm f (byte.Mem m) = length-memory_modrm f m

pub length-prefix : (s : Option SegReg) → length (prefix s) ≤ 1
length-prefix None = omega arith
length-prefix (Some s) = omega arith

pub length-pair_body : (p : Pair) → length (pair_body p) ≤ 3
unfolding pair_body
length-pair_body p = grind (arith, length-word_modrm, length-byte_modrm)

pub length-immediate_body : (f : ℕ) (i : Immediate) → length (immediate_body f i) ≤ 5
unfolding immediate_body
length-immediate_body f i = grind (arith, length-word_bytes, length-word_modrm, length-byte_modrm, length-append {A = ℕ})

pub length-target_body : (f : ℕ) (t : Target) → length (target_body f t) ≤ 3
unfolding target_body
length-target_body f t = grind (arith, length-word_modrm, length-byte_modrm)

pub length-body : (i : Instr) → length (body i) ≤ 5
length-body i = grind (arith, length-word_bytes, length-memory_modrm, length-word_modrm, length-pair_body, length-immediate_body, length-target_body, length-append {A = ℕ})

pub length-spelling : (i : Instr) → length (spelling i) ≤ 7
length-spelling i = omega (arith, length-append (prefix (segment_override i)) (opcode (row_of_instr i) ∷ body i), length-prefix (segment_override i), length-body i)
