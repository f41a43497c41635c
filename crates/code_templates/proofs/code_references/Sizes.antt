-- An address that is filled in changes no size.
use Rattle.std.proofs.Common.{arith, ◌≡◌, ℕ, ◌+◌, List, ◌∷◌, ◌++◌, length, refl, length-append}
use Rattle.x86_table.specs.declared.instr.Instr.{Instr}
use Rattle.x86_table.specs.declared.instr.Instr.TheVariants as instr
use Rattle.x86_table.specs.declared.instr.Pair.{Pair}
use Rattle.x86_table.specs.declared.instr.Pair.TheVariants as pair
use Rattle.x86_table.specs.declared.operand.ByteOperand.TheVariants as byte_rm
use Rattle.x86_table.specs.declared.operand.ByteReg.{ByteReg}
use Rattle.x86_table.specs.declared.operand.Memory.{Memory}
use Rattle.x86_table.specs.declared.operand.Place.{Place}
use Rattle.x86_table.specs.declared.operand.Place.TheVariants.{Direct, Indirect, ByteDisplacement, WordDisplacement}
use Rattle.x86_table.specs.declared.operand.WordOperand.TheVariants as word_rm
use Rattle.x86_table.specs.declared.operand.WordReg.{WordReg}
use Rattle.x86_table.specs.Spelling.{word_bytes, prefix, displacement, memory_modrm, byte_modrm, word_modrm, pair_form, pair_body, pair_override, spelling}
use Rattle.flat_code.specs.declared.memory.Place as far
use Rattle.code_templates.specs.code_lines.Addresses.{Context}
use Rattle.code_templates.specs.declared.code_references.marks.Target.{Target}
use Rattle.code_templates.specs.declared.code_references.marks.Target.TheVariants.{Datum, Table, Routine, OwnRoutine, Runtime, ErrorRoutine, ClearRoutine, FlagRoutine}
use Rattle.code_templates.specs.code_references.Marks.{moved_place, moved, moved_pair, with_datum, with_table, with_far, placed_instr}

around : Memory → ℕ
around m = length (prefix m.segment) + length (displacement m.place)

two_more : (s d : List ℕ) (a b : ℕ) → length (s ++ (a ∷ b ∷ d)) ≡ length s + length d + 2
two_more s d a b = omega (arith, length-append s (a ∷ b ∷ d))

word_load_size : (r : WordReg) (m : Memory) → length (spelling (instr.Mov (pair.WordRm r (word_rm.Mem m)))) ≡ around m + 2
unfolding around pair_form pair_body pair_override word_modrm memory_modrm
word_load_size r m = two_more (prefix m.segment) (displacement m.place) _ _

word_store_size : (r : WordReg) (m : Memory) → length (spelling (instr.Mov (pair.RmWord (word_rm.Mem m) r))) ≡ around m + 2
unfolding around pair_form pair_body pair_override word_modrm memory_modrm
word_store_size r m = two_more (prefix m.segment) (displacement m.place) _ _

byte_load_size : (r : ByteReg) (m : Memory) → length (spelling (instr.Mov (pair.ByteRm r (byte_rm.Mem m)))) ≡ around m + 2
unfolding around pair_form pair_body pair_override byte_modrm memory_modrm
byte_load_size r m = two_more (prefix m.segment) (displacement m.place) _ _

byte_store_size : (r : ByteReg) (m : Memory) → length (spelling (instr.Mov (pair.RmByte (byte_rm.Mem m) r))) ≡ around m + 2
unfolding around pair_form pair_body pair_override byte_modrm memory_modrm
byte_store_size r m = two_more (prefix m.segment) (displacement m.place) _ _

lea_size : (r : WordReg) (m : Memory) → length (spelling (instr.Lea r m)) ≡ around m + 2
unfolding around memory_modrm
lea_size r m = two_more (prefix m.segment) (displacement m.place) _ _

call_size : (m : Memory) → length (spelling (instr.CallFarIndirect m)) ≡ around m + 2
unfolding around word_modrm memory_modrm
call_size m = two_more (prefix m.segment) (displacement m.place) _ _

place_size : (v : ℕ) (p : Place) → length (displacement (moved_place v p)) ≡ length (displacement p)
unfolding word_bytes
place_size v (Direct d) = refl
place_size v (Indirect b) = refl
place_size v (ByteDisplacement b d) = refl
place_size v (WordDisplacement b d) = refl

around_moved : (v : ℕ) (m : Memory) → around (moved v m) ≡ around m
unfolding around
around_moved v m = omega (arith, place_size v m.place)

pair_size : (v : ℕ) (p : Pair) → length (spelling (instr.Mov (moved_pair v p))) ≡ length (spelling (instr.Mov p))
pair_size v (pair.RmByte (byte_rm.Reg s) r) = refl
pair_size v (pair.RmByte (byte_rm.Mem m) r) = omega (arith, byte_store_size r (moved v m), byte_store_size r m, around_moved v m)
pair_size v (pair.RmWord (word_rm.Reg s) r) = refl
pair_size v (pair.RmWord (word_rm.Mem m) r) = omega (arith, word_store_size r (moved v m), word_store_size r m, around_moved v m)
pair_size v (pair.ByteRm r (byte_rm.Reg s)) = refl
pair_size v (pair.ByteRm r (byte_rm.Mem m)) = omega (arith, byte_load_size r (moved v m), byte_load_size r m, around_moved v m)
pair_size v (pair.WordRm r (word_rm.Reg s)) = refl
pair_size v (pair.WordRm r (word_rm.Mem m)) = omega (arith, word_load_size r (moved v m), word_load_size r m, around_moved v m)

pub datum_size : (v : ℕ) (i : Instr) → length (spelling (with_datum v i)) ≡ length (spelling i)
datum_size v (instr.Mov p) = pair_size v p
datum_size v (instr.MovImmediate a) = refl
datum_size v (instr.MovByte a b) = refl
datum_size v (instr.MovWord a b) = refl
datum_size v (instr.MovFromSeg a b) = refl
datum_size v (instr.MovToSeg a b) = refl
datum_size v (instr.Push a) = refl
datum_size v (instr.Pop a) = refl
datum_size v (instr.PushSeg a) = refl
datum_size v (instr.PopSeg a) = refl
datum_size v (instr.Alu a b) = refl
datum_size v (instr.AluImmediate a b) = refl
datum_size v (instr.AluShort a b c) = refl
datum_size v (instr.Unary a b) = refl
datum_size v (instr.Inc a) = refl
datum_size v (instr.Dec a) = refl
datum_size v (instr.Shift a b c) = refl
datum_size v instr.Cbw = refl
datum_size v instr.Cwd = refl
datum_size v (instr.Lea r m) = omega (arith, lea_size r (moved v m), lea_size r m, around_moved v m)
datum_size v (instr.Les a b) = refl
datum_size v (instr.Lds a b) = refl
datum_size v (instr.Xchg a b) = refl
datum_size v (instr.JumpShort a b) = refl
datum_size v (instr.JumpNear a) = refl
datum_size v (instr.JumpFar a b) = refl
datum_size v (instr.CallNear a) = refl
datum_size v (instr.CallFar a b) = refl
datum_size v (instr.CallIndirect a) = refl
datum_size v (instr.CallFarIndirect m) = omega (arith, call_size (moved v m), call_size m, around_moved v m)
datum_size v instr.Ret = refl
datum_size v (instr.RetDrop a) = refl
datum_size v instr.RetFar = refl
datum_size v (instr.RetFarDrop a) = refl
datum_size v (instr.Int a) = refl
datum_size v instr.Cld = refl
datum_size v (instr.Movsb a) = refl
datum_size v (instr.RepMovsb a) = refl

pub table_size : (v : ℕ) (i : Instr) → length (spelling (with_table v i)) ≡ length (spelling i)
unfolding word_bytes
table_size v (instr.Mov a) = refl
table_size v (instr.MovImmediate a) = refl
table_size v (instr.MovByte a b) = refl
table_size v (instr.MovWord a b) = refl
table_size v (instr.MovFromSeg a b) = refl
table_size v (instr.MovToSeg a b) = refl
table_size v (instr.Push a) = refl
table_size v (instr.Pop a) = refl
table_size v (instr.PushSeg a) = refl
table_size v (instr.PopSeg a) = refl
table_size v (instr.Alu a b) = refl
table_size v (instr.AluImmediate a b) = refl
table_size v (instr.AluShort a b c) = refl
table_size v (instr.Unary a b) = refl
table_size v (instr.Inc a) = refl
table_size v (instr.Dec a) = refl
table_size v (instr.Shift a b c) = refl
table_size v instr.Cbw = refl
table_size v instr.Cwd = refl
table_size v (instr.Lea a b) = refl
table_size v (instr.Les a b) = refl
table_size v (instr.Lds a b) = refl
table_size v (instr.Xchg a b) = refl
table_size v (instr.JumpShort a b) = refl
table_size v (instr.JumpNear a) = refl
table_size v (instr.JumpFar a b) = refl
table_size v (instr.CallNear a) = refl
table_size v (instr.CallFar a b) = refl
table_size v (instr.CallIndirect a) = refl
table_size v (instr.CallFarIndirect a) = refl
table_size v instr.Ret = refl
table_size v (instr.RetDrop a) = refl
table_size v instr.RetFar = refl
table_size v (instr.RetFarDrop a) = refl
table_size v (instr.Int a) = refl
table_size v instr.Cld = refl
table_size v (instr.Movsb a) = refl
table_size v (instr.RepMovsb a) = refl

pub far_size : (p : far.Place) (i : Instr) → length (spelling (with_far p i)) ≡ length (spelling i)
unfolding word_bytes
far_size p (instr.Mov a) = refl
far_size p (instr.MovImmediate a) = refl
far_size p (instr.MovByte a b) = refl
far_size p (instr.MovWord a b) = refl
far_size p (instr.MovFromSeg a b) = refl
far_size p (instr.MovToSeg a b) = refl
far_size p (instr.Push a) = refl
far_size p (instr.Pop a) = refl
far_size p (instr.PushSeg a) = refl
far_size p (instr.PopSeg a) = refl
far_size p (instr.Alu a b) = refl
far_size p (instr.AluImmediate a b) = refl
far_size p (instr.AluShort a b c) = refl
far_size p (instr.Unary a b) = refl
far_size p (instr.Inc a) = refl
far_size p (instr.Dec a) = refl
far_size p (instr.Shift a b c) = refl
far_size p instr.Cbw = refl
far_size p instr.Cwd = refl
far_size p (instr.Lea a b) = refl
far_size p (instr.Les a b) = refl
far_size p (instr.Lds a b) = refl
far_size p (instr.Xchg a b) = refl
far_size p (instr.JumpShort a b) = refl
far_size p (instr.JumpNear a) = refl
far_size p (instr.JumpFar a b) = refl
far_size p (instr.CallNear a) = refl
far_size p (instr.CallFar a b) = refl
far_size p (instr.CallIndirect a) = refl
far_size p (instr.CallFarIndirect a) = refl
far_size p instr.Ret = refl
far_size p (instr.RetDrop a) = refl
far_size p instr.RetFar = refl
far_size p (instr.RetFarDrop a) = refl
far_size p (instr.Int a) = refl
far_size p instr.Cld = refl
far_size p (instr.Movsb a) = refl
far_size p (instr.RepMovsb a) = refl

pub placed_size : (x : Context) (t : Target) (i : Instr) → length (spelling (placed_instr x t i)) ≡ length (spelling i)
placed_size x (Datum unit number) i = datum_size _ i
placed_size x (Table unit number) i = table_size _ i
placed_size x (Routine unit number) i = far_size _ i
placed_size x (OwnRoutine number) i = refl
placed_size x (Runtime number) i = far_size _ i
placed_size x ErrorRoutine i = far_size _ i
placed_size x ClearRoutine i = far_size _ i
placed_size x FlagRoutine i = far_size _ i
