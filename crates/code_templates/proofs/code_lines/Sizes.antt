-- How many bytes instructions and operands have.
use Rattle.std.proofs.Common.{◌≡◌, ℕ, zero, suc, ◌+◌, ◌*◌, ◌≤◌, Bool, true, false, List, [], ◌∷◌, ◌++◌, length, arith, refl, length-append}
use Rattle.common_values.specs.integers.Words.{w16, word_of}
use Rattle.x86_table.specs.declared.instr.AluOp.{AluOp}
use Rattle.x86_table.specs.declared.instr.Immediate.TheVariants as immediate
use Rattle.x86_table.specs.declared.instr.Instr.{Instr}
use Rattle.x86_table.specs.declared.instr.Instr.TheVariants as instr
use Rattle.x86_table.specs.declared.instr.Pair.TheVariants as pair
use Rattle.x86_table.specs.declared.operand.Base.TheVariants as base
use Rattle.x86_table.specs.declared.operand.ByteOperand.TheVariants as byte_rm
use Rattle.x86_table.specs.declared.operand.ByteReg.{ByteReg}
use Rattle.x86_table.specs.declared.operand.Memory.{Memory}
use Rattle.x86_table.specs.declared.operand.Place.{Place}
use Rattle.x86_table.specs.declared.operand.WordOperand.TheVariants as word_rm
use Rattle.x86_table.specs.declared.operand.WordReg.{WordReg}
use Rattle.x86_table.specs.declared.operand.WordReg.TheVariants as word
use Rattle.x86_table.specs.Lines.{code_size}
use Rattle.x86_table.specs.Spelling.{word_bytes, prefix, displacement, memory_modrm, byte_modrm, word_modrm, pair_form, pair_body, pair_override, immediate_width, immediate_body, immediate_override, spelling}
use Rattle.x86_table.proofs.Lengths.{length-displacement, length-word_bytes}
use Rattle.flat_code.specs.declared.tree.Address.{Address}
use Rattle.flat_code.specs.declared.tree.Address.TheVariants.{Global, Local, Outer, Through}
use Rattle.flat_code.specs.Calls.{link_bytes}
use Rattle.flat_code.specs.Weights.{address_weight}
use Rattle.resident_machine.specs.machine_lines.Straight.{ones}
use Rattle.code_templates.specs.code_lines.Addresses.{Context}
use Rattle.code_templates.specs.code_lines.Operands.{displaced, memory_at, frame_memory, load, hop, hops, links, loads, operand_place, operand}

-- the bytes of instructions
abbrev pub bytes : List Instr → ℕ
bytes is = code_size (ones is)

pub bytes-append : (is js : List Instr) → bytes (is ++ js) ≡ bytes is + bytes js
bytes-append [] js = omega arith
bytes-append (i ∷ is) js = omega (arith, bytes-append is js)

-- prefix and displacement of a memory operand
abbrev pub around : Memory → ℕ
around m = length (prefix m.segment) + length (displacement m.place)

-- ## Instructions with a memory operand: a prefix, the opcode, ModR/M and a displacement

two_more : (s d : List ℕ) (a b : ℕ) → length (s ++ (a ∷ b ∷ d)) ≡ length s + length d + 2
two_more s d a b = omega (arith, length-append s (a ∷ b ∷ d))

pub load_size : (r : WordReg) (m : Memory) → length (spelling (load r m)) ≡ around m + 2
unfolding pair_form pair_body pair_override word_modrm memory_modrm
load_size r m = two_more (prefix m.segment) (displacement m.place) _ _

pub store_size : (r : WordReg) (m : Memory) → length (spelling (instr.Mov (pair.RmWord (word_rm.Mem m) r))) ≡ around m + 2
unfolding pair_form pair_body pair_override word_modrm memory_modrm
store_size r m = two_more (prefix m.segment) (displacement m.place) _ _

pub load_byte_size : (r : ByteReg) (m : Memory) → length (spelling (instr.Mov (pair.ByteRm r (byte_rm.Mem m)))) ≡ around m + 2
unfolding pair_form pair_body pair_override byte_modrm memory_modrm
load_byte_size r m = two_more (prefix m.segment) (displacement m.place) _ _

pub store_byte_size : (r : ByteReg) (m : Memory) → length (spelling (instr.Mov (pair.RmByte (byte_rm.Mem m) r))) ≡ around m + 2
unfolding pair_form pair_body pair_override byte_modrm memory_modrm
store_byte_size r m = two_more (prefix m.segment) (displacement m.place) _ _

pub lea_size : (r : WordReg) (m : Memory) → length (spelling (instr.Lea r m)) ≡ around m + 2
unfolding memory_modrm
lea_size r m = two_more (prefix m.segment) (displacement m.place) _ _

pub les_size : (r : WordReg) (m : Memory) → length (spelling (instr.Les r m)) ≡ around m + 2
unfolding memory_modrm
les_size r m = two_more (prefix m.segment) (displacement m.place) _ _

pub lds_size : (r : WordReg) (m : Memory) → length (spelling (instr.Lds r m)) ≡ around m + 2
unfolding memory_modrm
lds_size r m = two_more (prefix m.segment) (displacement m.place) _ _

pub call_size : (m : Memory) → length (spelling (instr.CallFarIndirect m)) ≡ around m + 2
unfolding word_modrm memory_modrm
call_size m = two_more (prefix m.segment) (displacement m.place) _ _

pub word_size : (r : WordReg) (n : ℕ) → length (spelling (instr.MovWord r n)) ≡ 3
word_size r n = omega (arith, length-word_bytes n)

pub immediate_size : (o : AluOp) (r : WordReg) (n : ℕ) → length (spelling (instr.AluImmediate o (immediate.Word (word_rm.Reg r) n))) ≡ 4
unfolding immediate_width immediate_body immediate_override word_modrm word_bytes
immediate_size o r n = refl

-- ## Operands

-- the prefix of an operand, and what its place takes
pub around_operand : (x : Context) (a : Address) (more : ℕ) → around (operand x a more) ≤ 3
around_operand x (Global unit number plus) more = omega (arith, length-displacement (operand_place x (Global unit number plus) more))
around_operand x (Local d) more = omega (arith, length-displacement (operand_place x (Local d) more))
around_operand x (Outer zero d) more = omega (arith, length-displacement (operand_place x (Outer zero d) more))
around_operand x (Outer (suc n) d) more = omega (arith, length-displacement (operand_place x (Outer (suc n) d) more))
around_operand x (Through slot plus) more = omega (arith, length-displacement (operand_place x (Through slot plus) more))

pub around_at : (p : Place) → around (memory_at p) ≤ 2
around_at p = omega (arith, length-displacement p)

link_size : (b : Bool) → length (spelling (load word.Bx (frame_memory (link_bytes b)))) ≡ 3
unfolding pair_form pair_body pair_override word_modrm memory_modrm displaced
link_size true = refl
link_size false = refl

hop_size : length (spelling hop) ≡ 3
unfolding pair_form pair_body pair_override word_modrm memory_modrm
hop_size = refl

hops_size : (n : ℕ) → bytes (hops n) ≡ 3 * n
hops_size zero = omega arith
hops_size (suc n) = omega (arith, hop_size, hops_size n)

pub links_size : (x : Context) (n : ℕ) → bytes (links x (suc n)) ≡ 3 + 3 * n
links_size x n = omega (arith, link_size x.far, hops_size n)

-- loads, ModR/M, prefix and displacement are no more than the address weighs
pub reach : (x : Context) (a : Address) → bytes (loads x a) + around (operand x a 0) + 1 ≤ address_weight a
reach x (Global unit number plus) = omega (arith, length-displacement (operand_place x (Global unit number plus) 0))
reach x (Local d) = omega (arith, length-displacement (operand_place x (Local d) 0))
reach x (Outer zero d) = omega (arith, length-displacement (operand_place x (Outer zero d) 0))
reach x (Outer (suc n) d) = omega (arith, length-displacement (operand_place x (Outer (suc n) d) 0), links_size x n)
reach x (Through slot plus) = omega (arith, length-displacement (operand_place x (Through slot plus) 0), les_size word.Bx (frame_memory (word_of w16 slot)), around_at (displaced base.Bp (word_of w16 slot)))

-- the same place without a prefix
pub place_reach : (x : Context) (a : Address) → bytes (loads x a) + around (memory_at (operand_place x a 0)) + 1 ≤ address_weight a
place_reach x (Global unit number plus) = reach x (Global unit number plus)
place_reach x (Local d) = reach x (Local d)
place_reach x (Outer zero d) = reach x (Outer zero d)
place_reach x (Outer (suc n) d) = omega (arith, reach x (Outer (suc n) d))
place_reach x (Through slot plus) = omega (arith, reach x (Through slot plus))
