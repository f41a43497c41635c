-- No spelling begins another, and how long one is.
use Rattle.std.proofs.Common.{◌≡◌, ◌≢◌, ℕ, ◌+◌, ◌*◌, ◌<◌, ◌≤◌, List, [], ◌∷◌, ◌++◌, Option, length, arith, refl, ap, sym, ◌∙◌, append_assoc, length-append}
use Rattle.std.specs.Prelude.{None, Some}
use Rattle.x86_table.specs.declared.operand.SegReg.{SegReg}
use Rattle.x86_table.specs.declared.operand.DataSeg.{DataSeg}
use Rattle.x86_table.specs.declared.operand.Memory.{Memory}
use Rattle.x86_table.specs.declared.operand.WordOperand.{WordOperand}
use Rattle.x86_table.specs.declared.operand.WordOperand.TheVariants as word
use Rattle.x86_table.specs.declared.instr.AluOp.{AluOp}
use Rattle.x86_table.specs.declared.instr.ShortOp.{ShortOp}
use Rattle.x86_table.specs.declared.instr.UnaryOp.{UnaryOp}
use Rattle.x86_table.specs.declared.instr.ShiftOp.{ShiftOp}
use Rattle.x86_table.specs.declared.instr.Pair.{Pair}
use Rattle.x86_table.specs.declared.instr.Pair.TheVariants as pair
use Rattle.x86_table.specs.declared.instr.Immediate.{Immediate}
use Rattle.x86_table.specs.declared.instr.Immediate.TheVariants as immediate
use Rattle.x86_table.specs.declared.instr.Target.{Target}
use Rattle.x86_table.specs.declared.instr.Target.TheVariants as target
use Rattle.x86_table.specs.declared.instr.Instr.{Instr}
use Rattle.x86_table.specs.declared.instr.Instr.TheVariants as instr
use Rattle.x86_table.specs.declared.row.Row.{Row}
use Rattle.x86_table.specs.declared.row.Row.TheVariants as row
use Rattle.x86_table.specs.Codes.{word_reg_code, byte_reg_code, seg_reg_code, data_seg_code, alu_op_code, short_op_code, unary_op_code, shift_op_code}
use Rattle.x86_table.specs.Opcode.{opcode}
use Rattle.x86_table.specs.Spelling.{word_bytes, prefix, memory_modrm, byte_modrm, word_modrm, pair_form, pair_body, pair_override, immediate_width, immediate_body, immediate_override, target_width, target_body, target_override, word_override, row_of_instr, segment_override, body, spelling}
use Rattle.x86_table.proofs.Unique.{word_bytes-injective, word_reg_code_lt, byte_reg_code_lt, word_reg_code-injective, byte_reg_code-injective, memory_unique, word_unique, byte_unique}
use Rattle.x86_table.proofs.Rows.{opcode_apart, seg_reg_code_injective}
use Rattle.x86_table.proofs.Lengths.{length-spelling}

pub opcode-injective : (r s : Row) → opcode r ≡ opcode s → r ≡ s
opcode-injective (row.Mov f) other e = grind arith
opcode-injective (row.MovImmediate w) other e = grind arith
opcode-injective (row.MovByte r) other e = grind arith
opcode-injective (row.MovWord r) other e = grind arith
opcode-injective row.MovFromSeg other e = grind arith
opcode-injective row.MovToSeg other e = grind arith
opcode-injective (row.Push r) other e = grind arith
opcode-injective (row.Pop r) other e = grind arith
opcode-injective (row.PushSeg s) other e = grind arith
opcode-injective (row.PopSeg s) other e = grind arith
opcode-injective (row.Alu op f) other e = grind arith
opcode-injective (row.AluImmediate w) other e = grind arith
opcode-injective row.AluShort other e = grind arith
opcode-injective (row.Unary w) other e = grind arith
opcode-injective (row.Inc r) other e = grind arith
opcode-injective (row.Dec r) other e = grind arith
opcode-injective (row.Shift c w) other e = grind arith
opcode-injective row.Cbw other e = grind arith
opcode-injective row.Cwd other e = grind arith
opcode-injective row.Lea other e = grind arith
opcode-injective row.Les other e = grind arith
opcode-injective row.Lds other e = grind arith
opcode-injective row.Xchg other e = grind arith
opcode-injective (row.JumpShort c) other e = grind arith
opcode-injective row.JumpNear other e = grind arith
opcode-injective row.JumpFar other e = grind arith
opcode-injective row.CallNear other e = grind arith
opcode-injective row.CallFar other e = grind arith
opcode-injective row.IndirectCall other e = grind arith
opcode-injective row.Ret other e = grind arith
opcode-injective row.RetDrop other e = grind arith
opcode-injective row.RetFar other e = grind arith
opcode-injective row.RetFarDrop other e = grind arith
opcode-injective row.Int other e = grind arith
opcode-injective row.Cld other e = grind arith
opcode-injective row.Movsb other e = grind arith
opcode-injective row.RepPrefix other e = grind arith

pair_unique : (a b : Pair) (x y : List ℕ) → pair_form a ≡ pair_form b → pair_override a ≡ pair_override b → pair_body a ++ x ≡ pair_body b ++ y → (a ≡ b) × (x ≡ y)
unfolding pair_form pair_body pair_override
pair_unique a b x y ef eo e = grind (arith, word_unique, byte_unique, word_reg_code_lt, byte_reg_code_lt, word_reg_code-injective, byte_reg_code-injective)

immediate_unique : (a b : Immediate) (f g : ℕ) (x y : List ℕ) → f < 8 → g < 8 → immediate_width a ≡ immediate_width b → immediate_override a ≡ immediate_override b → immediate_body f a ++ x ≡ immediate_body g b ++ y → (a ≡ b) × (f ≡ g) × (x ≡ y)
unfolding immediate_width immediate_body immediate_override
immediate_unique (immediate.Byte o n) b f g x y hf hg ew eo e = grind (arith, byte_unique, append_assoc {A = ℕ})
immediate_unique (immediate.Word o n) b f g x y hf hg ew eo e = grind (arith, word_unique, word_bytes-injective, append_assoc {A = ℕ})

target_unique : (a b : Target) (f g : ℕ) (x y : List ℕ) → f < 8 → g < 8 → target_width a ≡ target_width b → target_override a ≡ target_override b → target_body f a ++ x ≡ target_body g b ++ y → (a ≡ b) × (f ≡ g) × (x ≡ y)
unfolding target_width target_body target_override
target_unique a b f g x y hf hg ew eo e = grind (arith, word_unique, byte_unique)

alu_op_code-lt : (op : AluOp) → alu_op_code op < 8
alu_op_code-lt op = grind arith

alu_op_code-injective : (a b : AluOp) → alu_op_code a ≡ alu_op_code b → a ≡ b
alu_op_code-injective a b e = grind arith

short_op_code-lt : (op : ShortOp) → short_op_code op < 8
short_op_code-lt op = grind arith

short_op_code-injective : (a b : ShortOp) → short_op_code a ≡ short_op_code b → a ≡ b
short_op_code-injective a b e = grind arith

unary_op_code-lt : (op : UnaryOp) → unary_op_code op < 8
unary_op_code-lt op = grind arith

unary_op_code-injective : (a b : UnaryOp) → unary_op_code a ≡ unary_op_code b → a ≡ b
unary_op_code-injective a b e = grind arith

shift_op_code-lt : (op : ShiftOp) → shift_op_code op < 8
shift_op_code-lt op = grind arith

shift_op_code-injective : (a b : ShiftOp) → shift_op_code a ≡ shift_op_code b → a ≡ b
shift_op_code-injective a b e = grind arith

seg_reg_code-lt : (s : SegReg) → seg_reg_code s < 8
seg_reg_code-lt s = grind arith

data_seg_code-lt : (s : DataSeg) → data_seg_code s < 8
data_seg_code-lt s = grind arith

data_seg_code-injective : (a b : DataSeg) → data_seg_code a ≡ data_seg_code b → a ≡ b
data_seg_code-injective a b e = grind arith

-- CALL by r/m16 and CALL far by memory differ in the reg field
near_is_not_far : (o : WordOperand) (n : Memory) (x y : List ℕ) → word_override o ≡ n.segment → word_modrm 2 o ++ x ≡ word_modrm 3 (word.Mem n) ++ y → ⊥
near_is_not_far o n x y es e =
    let h = word_unique o (word.Mem n) 2 3 x y (omega arith) (omega arith) es e in
    let k = h.1 in
    omega arith

far_unique : (m n : Memory) (x y : List ℕ) → m.segment ≡ n.segment → word_modrm 3 (word.Mem m) ++ x ≡ word_modrm 3 (word.Mem n) ++ y → (m ≡ n) × (x ≡ y)
unfolding word_modrm
far_unique m n x y es e =
    let h = memory_unique m n 3 3 x y (omega arith) (omega arith) es e in
    (h.0, h.2)

-- instructions of one row, with one override, whose bodies begin alike
body_unique : (i j : Instr) (x y : List ℕ) → row_of_instr i ≡ row_of_instr j → segment_override i ≡ segment_override j → body i ++ x ≡ body j ++ y → (i ≡ j) × (x ≡ y)
body_unique (instr.Mov p) j x y er eo e = grind (arith, pair_unique)
body_unique (instr.MovImmediate a) j x y er eo e = grind (arith, immediate_unique)
body_unique (instr.MovByte r n) j x y er eo e = grind arith
body_unique (instr.MovWord r n) j x y er eo e = grind (arith, word_bytes-injective)
body_unique (instr.MovFromSeg o t) j x y er eo e = grind (arith, word_unique, seg_reg_code-lt, seg_reg_code_injective)
body_unique (instr.MovToSeg t o) j x y er eo e = grind (arith, word_unique, data_seg_code-lt, data_seg_code-injective)
body_unique (instr.Push r) j x y er eo e = grind arith
body_unique (instr.Pop r) j x y er eo e = grind arith
body_unique (instr.PushSeg t) j x y er eo e = grind arith
body_unique (instr.PopSeg t) j x y er eo e = grind arith
body_unique (instr.Alu op p) j x y er eo e = grind (arith, pair_unique)
body_unique (instr.AluImmediate op a) j x y er eo e = grind (arith, immediate_unique, alu_op_code-lt, alu_op_code-injective)
body_unique (instr.AluShort op o n) j x y er eo e = grind (arith, word_unique, short_op_code-lt, short_op_code-injective, append_assoc {A = ℕ})
body_unique (instr.Unary op a) j x y er eo e = grind (arith, target_unique, unary_op_code-lt, unary_op_code-injective)
body_unique (instr.Inc r) j x y er eo e = grind arith
body_unique (instr.Dec r) j x y er eo e = grind arith
body_unique (instr.Shift op c a) j x y er eo e = grind (arith, target_unique, shift_op_code-lt, shift_op_code-injective)
body_unique instr.Cbw j x y er eo e = grind arith
body_unique instr.Cwd j x y er eo e = grind arith
body_unique (instr.Lea r m) j x y er eo e = grind (arith, memory_unique, word_reg_code_lt, word_reg_code-injective)
body_unique (instr.Les r m) j x y er eo e = grind (arith, memory_unique, word_reg_code_lt, word_reg_code-injective)
body_unique (instr.Lds r m) j x y er eo e = grind (arith, memory_unique, word_reg_code_lt, word_reg_code-injective)
body_unique (instr.Xchg o r) j x y er eo e = grind (arith, word_unique, word_reg_code_lt, word_reg_code-injective)
body_unique (instr.JumpShort c d) j x y er eo e = grind arith
body_unique (instr.JumpNear d) j x y er eo e = grind (arith, word_bytes-injective)
body_unique (instr.JumpFar d t) j x y er eo e = grind (arith, word_bytes-injective, append_assoc {A = ℕ})
body_unique (instr.CallNear d) j x y er eo e = grind (arith, word_bytes-injective)
body_unique (instr.CallFar d t) j x y er eo e = grind (arith, word_bytes-injective, append_assoc {A = ℕ})
body_unique (instr.CallIndirect o) j x y er eo e = grind (arith, word_unique, near_is_not_far)
body_unique (instr.CallFarIndirect m) j x y er eo e = grind (arith, far_unique, near_is_not_far)
body_unique instr.Ret j x y er eo e = grind arith
body_unique (instr.RetDrop n) j x y er eo e = grind (arith, word_bytes-injective)
body_unique instr.RetFar j x y er eo e = grind arith
body_unique (instr.RetFarDrop n) j x y er eo e = grind (arith, word_bytes-injective)
body_unique (instr.Int n) j x y er eo e = grind arith
body_unique instr.Cld j x y er eo e = grind arith
body_unique (instr.Movsb t) j x y er eo e = grind arith
body_unique (instr.RepMovsb t) j x y er eo e = grind arith

heads : (a b : ℕ) (x y : List ℕ) → a ∷ x ≡ b ∷ y → (a ≡ b) × (x ≡ y)
heads a b x y e = ((cc), (cc))

prefix_unique : (s t : Option SegReg) (r q : Row) (x y : List ℕ) → prefix s ++ (opcode r ∷ x) ≡ prefix t ++ (opcode q ∷ y) → (s ≡ t) × (opcode r ≡ opcode q) × (x ≡ y)
prefix_unique None None r q x y e =
    let h = heads (opcode r) (opcode q) x y e in
    (refl, h.0, h.1)
prefix_unique None (Some t) r q x y e = absurd (opcode_apart r t (heads (opcode r) (0x26 + 8 * seg_reg_code t) x (opcode q ∷ y) e).0)
prefix_unique (Some s) None r q x y e = absurd (opcode_apart q s (sym (heads (0x26 + 8 * seg_reg_code s) (opcode q) (opcode r ∷ x) y e).0))
prefix_unique (Some s) (Some t) r q x y e =
    let h = heads (0x26 + 8 * seg_reg_code s) (0x26 + 8 * seg_reg_code t) (opcode r ∷ x) (opcode q ∷ y) e in
    let g = heads (opcode r) (opcode q) x y h.1 in
    let k : seg_reg_code s ≡ seg_reg_code t = let d = h.0 in omega arith in
    (ap Some (seg_reg_code_injective s t k), g.0, g.1)

pub spelling_unique : (i j : Instr) (r s : List ℕ) → spelling i ++ r ≡ spelling j ++ s → (i ≡ j) × (r ≡ s)
spelling_unique i j r s e =
    let a = append_assoc (prefix (segment_override i)) (opcode (row_of_instr i) ∷ body i) r in
    let b = append_assoc (prefix (segment_override j)) (opcode (row_of_instr j) ∷ body j) s in
    let h = prefix_unique (segment_override i) (segment_override j) (row_of_instr i) (row_of_instr j) (body i ++ r) (body j ++ s) (sym a ∙ e ∙ b) in
    body_unique i j r s (opcode-injective (row_of_instr i) (row_of_instr j) h.1) h.0 h.2

pub spelling_bounds : (i : Instr) → (1 ≤ length (spelling i)) × (length (spelling i) ≤ 7)
spelling_bounds i = (omega (arith, length-append (prefix (segment_override i)) (opcode (row_of_instr i) ∷ body i)), length-spelling i)
