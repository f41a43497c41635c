-- Plain instructions only go on: each end of such a tree keeps IP and SS.
use Rattle.std.proofs.Common.{◌≡◌, ℕ, Bool, true, false, Option, Some, None, refl, ◌∙◌}
use Rattle.std.specs.Prelude.{if◌then◌else◌, ◌==◌}
use Rattle.x86_table.specs.declared.instr.AluOp.{AluOp}
use Rattle.x86_table.specs.declared.instr.AluOp.TheVariants as op
use Rattle.x86_table.specs.declared.instr.Immediate.{Immediate}
use Rattle.x86_table.specs.declared.instr.Immediate.TheVariants as immediate
use Rattle.x86_table.specs.declared.instr.Instr.{Instr}
use Rattle.x86_table.specs.declared.instr.Instr.TheVariants as instr
use Rattle.x86_table.specs.declared.instr.Pair.{Pair}
use Rattle.x86_table.specs.declared.instr.Pair.TheVariants as pair
use Rattle.x86_table.specs.declared.instr.ShiftOp.{ShiftOp}
use Rattle.x86_table.specs.declared.instr.ShiftOp.TheVariants as shift
use Rattle.x86_table.specs.declared.instr.Target.{Target}
use Rattle.x86_table.specs.declared.instr.Target.TheVariants as target
use Rattle.x86_table.specs.declared.instr.UnaryOp.{UnaryOp}
use Rattle.x86_table.specs.declared.instr.UnaryOp.TheVariants as unary
use Rattle.x86_table.specs.declared.instr.Width.{Width}
use Rattle.x86_table.specs.declared.instr.Width.TheVariants as width
use Rattle.x86_table.specs.declared.operand.ByteOperand.{ByteOperand}
use Rattle.x86_table.specs.declared.operand.ByteOperand.TheVariants as byte_rm
use Rattle.x86_table.specs.declared.operand.ByteReg.{ByteReg}
use Rattle.x86_table.specs.declared.operand.ByteReg.TheVariants as byte
use Rattle.x86_table.specs.declared.operand.DataSeg.{DataSeg}
use Rattle.x86_table.specs.declared.operand.DataSeg.TheVariants as data_seg
use Rattle.x86_table.specs.declared.operand.SegReg.{SegReg}
use Rattle.x86_table.specs.declared.operand.SegReg.TheVariants as seg
use Rattle.x86_table.specs.declared.operand.WordOperand.{WordOperand}
use Rattle.x86_table.specs.declared.operand.WordOperand.TheVariants as word_rm
use Rattle.x86_table.specs.declared.operand.WordReg.{WordReg}
use Rattle.x86_table.specs.declared.operand.WordReg.TheVariants as word
use Rattle.cpu_8086.specs.declared.registers.Registers.{Registers}
use Rattle.cpu_8086.specs.Access.{Act, Done, Read, Write, Copy, ReadCodeSegment, raised, in_segment, byte_then, word_then, put_byte, put_word}
use Rattle.cpu_8086.specs.Effect.{act, move_pair, move_immediate, put_result_byte, put_result_word, alu_byte, alu_word, alu_pair, alu_immediate, alu_op, with_flags, unary_of, multiplied, multiplied_signed, target_then, put_target, shifted, shifted_target, width_of, with_shift_flags, zero_and_sign, count_of}
use Rattle.cpu_8086.specs.Memory.{word_of}
use Rattle.cpu_8086.specs.Operand.{word_reg, with_word_reg, byte_reg, with_byte_reg, with_data_seg}
use Rattle.resident_machine.specs.machine_lines.Straight.{is_plain}

-- each end of the tree is registers with this IP and SS
abbrev pub EndsAt : ℕ → ℕ → Act → Type 0
EndsAt ip ss (Done g) = (g.ip ≡ ip) × (g.ss ≡ ss)
EndsAt ip ss (Read place next) = (v : ℕ) → EndsAt ip ss (next v)
EndsAt ip ss (Write place value next) = EndsAt ip ss next
EndsAt ip ss (Copy from to next) = EndsAt ip ss next
EndsAt ip ss (ReadCodeSegment next) = (v : ℕ) → EndsAt ip ss (next v)
EndsAt ip ss _ = ⊥

-- registers that keep IP and SS
abbrev Keeps : Registers → Registers → Type 0
Keeps g h = (h.ip ≡ g.ip) × (h.ss ≡ g.ss)

in_segment_ends : (ip ss : ℕ) (g : Registers) (usual : ℕ) (o : Option SegReg) (next : ℕ → Act) → ((s : ℕ) → EndsAt ip ss (next s)) → EndsAt ip ss (in_segment g usual o next)
unfolding in_segment
in_segment_ends ip ss g usual None next h = h usual
in_segment_ends ip ss g usual (Some seg.Es) next h = h g.es
in_segment_ends ip ss g usual (Some seg.Cs) next h = λ v. h v
in_segment_ends ip ss g usual (Some seg.Ss) next h = h g.ss
in_segment_ends ip ss g usual (Some seg.Ds) next h = h g.ds

word_then_ends : (ip ss : ℕ) (g : Registers) (o : WordOperand) (next : ℕ → Act) → ((v : ℕ) → EndsAt ip ss (next v)) → EndsAt ip ss (word_then g o next)
unfolding word_then
word_then_ends ip ss g (word_rm.Reg r) next h = h (word_reg g r)
word_then_ends ip ss g (word_rm.Mem m) next h = in_segment_ends ip ss g _ m.segment _ (λ s low high. h (word_of low high))

byte_then_ends : (ip ss : ℕ) (g : Registers) (o : ByteOperand) (next : ℕ → Act) → ((v : ℕ) → EndsAt ip ss (next v)) → EndsAt ip ss (byte_then g o next)
unfolding byte_then
byte_then_ends ip ss g (byte_rm.Reg r) next h = h (byte_reg g r)
byte_then_ends ip ss g (byte_rm.Mem m) next h = in_segment_ends ip ss g _ m.segment _ (λ s v. h v)

word_reg_keeps : (g : Registers) (r : WordReg) (v : ℕ) → Keeps g (with_word_reg g r v)
word_reg_keeps g word.Ax v = (refl, refl)
word_reg_keeps g word.Cx v = (refl, refl)
word_reg_keeps g word.Dx v = (refl, refl)
word_reg_keeps g word.Bx v = (refl, refl)
word_reg_keeps g word.Sp v = (refl, refl)
word_reg_keeps g word.Bp v = (refl, refl)
word_reg_keeps g word.Si v = (refl, refl)
word_reg_keeps g word.Di v = (refl, refl)

byte_reg_keeps : (g : Registers) (r : ByteReg) (v : ℕ) → Keeps g (with_byte_reg g r v)
byte_reg_keeps g byte.Al v = (refl, refl)
byte_reg_keeps g byte.Cl v = (refl, refl)
byte_reg_keeps g byte.Dl v = (refl, refl)
byte_reg_keeps g byte.Bl v = (refl, refl)
byte_reg_keeps g byte.Ah v = (refl, refl)
byte_reg_keeps g byte.Ch v = (refl, refl)
byte_reg_keeps g byte.Dh v = (refl, refl)
byte_reg_keeps g byte.Bh v = (refl, refl)

-- what is put, and Done
put_word_ends : (g : Registers) (o : WordOperand) (v : ℕ) (next : Registers → Act) → ((h : Registers) → Keeps g h → EndsAt g.ip g.ss (next h)) → EndsAt g.ip g.ss (put_word g o v next)
unfolding put_word
put_word_ends g (word_rm.Reg r) v next h = h (with_word_reg g r v) (word_reg_keeps g r v)
put_word_ends g (word_rm.Mem m) v next h = in_segment_ends g.ip g.ss g _ m.segment _ (λ s. h g (refl, refl))

put_byte_ends : (g : Registers) (o : ByteOperand) (v : ℕ) (next : Registers → Act) → ((h : Registers) → Keeps g h → EndsAt g.ip g.ss (next h)) → EndsAt g.ip g.ss (put_byte g o v next)
unfolding put_byte
put_byte_ends g (byte_rm.Reg r) v next h = h (with_byte_reg g r v) (byte_reg_keeps g r v)
put_byte_ends g (byte_rm.Mem m) v next h = in_segment_ends g.ip g.ss g _ m.segment _ (λ s. h g (refl, refl))

done_word : (g : Registers) (o : WordOperand) (v : ℕ) → EndsAt g.ip g.ss (put_word g o v Done)
done_word g o v = put_word_ends g o v Done (λ h k. k)

done_byte : (g : Registers) (o : ByteOperand) (v : ℕ) → EndsAt g.ip g.ss (put_byte g o v Done)
done_byte g o v = put_byte_ends g o v Done (λ h k. k)

move_ends : (g : Registers) (p : Pair) → EndsAt g.ip g.ss (move_pair g p)
move_ends g (pair.RmByte o r) = done_byte g o (byte_reg g r)
move_ends g (pair.RmWord o r) = done_word g o (word_reg g r)
move_ends g (pair.ByteRm r o) = byte_then_ends g.ip g.ss g o _ (λ v. byte_reg_keeps g r v)
move_ends g (pair.WordRm r o) = word_then_ends g.ip g.ss g o _ (λ v. word_reg_keeps g r v)

immediate_ends : (g : Registers) (i : Immediate) → EndsAt g.ip g.ss (move_immediate g i)
immediate_ends g (immediate.Byte o n) = done_byte g o n
immediate_ends g (immediate.Word o n) = done_word g o n

result_word_ends : (p : AluOp) (g : Registers) (o : WordOperand) (v : ℕ) → EndsAt g.ip g.ss (put_result_word p g o v)
result_word_ends op.Add g o v = done_word g o v
result_word_ends op.Or g o v = done_word g o v
result_word_ends op.Adc g o v = done_word g o v
result_word_ends op.Sbb g o v = done_word g o v
result_word_ends op.And g o v = done_word g o v
result_word_ends op.Sub g o v = done_word g o v
result_word_ends op.Xor g o v = done_word g o v
result_word_ends op.Cmp g o v = (refl, refl)

result_byte_ends : (p : AluOp) (g : Registers) (o : ByteOperand) (v : ℕ) → EndsAt g.ip g.ss (put_result_byte p g o v)
result_byte_ends op.Add g o v = done_byte g o v
result_byte_ends op.Or g o v = done_byte g o v
result_byte_ends op.Adc g o v = done_byte g o v
result_byte_ends op.Sbb g o v = done_byte g o v
result_byte_ends op.And g o v = done_byte g o v
result_byte_ends op.Sub g o v = done_byte g o v
result_byte_ends op.Xor g o v = done_byte g o v
result_byte_ends op.Cmp g o v = (refl, refl)

alu_word_ends : (g : Registers) (p : AluOp) (o : WordOperand) (y : ℕ) → EndsAt g.ip g.ss (alu_word g p o y)
alu_word_ends g p o y = word_then_ends g.ip g.ss g o _ (λ x. result_word_ends p (with_flags g width.Word _) o _)

alu_byte_ends : (g : Registers) (p : AluOp) (o : ByteOperand) (y : ℕ) → EndsAt g.ip g.ss (alu_byte g p o y)
alu_byte_ends g p o y = byte_then_ends g.ip g.ss g o _ (λ x. result_byte_ends p (with_flags g width.Byte _) o _)

alu_pair_ends : (g : Registers) (p : AluOp) (q : Pair) → EndsAt g.ip g.ss (alu_pair g p q)
alu_pair_ends g p (pair.RmByte o r) = alu_byte_ends g p o (byte_reg g r)
alu_pair_ends g p (pair.RmWord o r) = alu_word_ends g p o (word_reg g r)
alu_pair_ends g p (pair.ByteRm r o) = byte_then_ends g.ip g.ss g o _ (λ v. alu_byte_ends g p (byte_rm.Reg r) v)
alu_pair_ends g p (pair.WordRm r o) = word_then_ends g.ip g.ss g o _ (λ v. alu_word_ends g p (word_rm.Reg r) v)

alu_immediate_ends : (g : Registers) (p : AluOp) (i : Immediate) → EndsAt g.ip g.ss (alu_immediate g p i)
alu_immediate_ends g p (immediate.Byte o n) = alu_byte_ends g p o n
alu_immediate_ends g p (immediate.Word o n) = alu_word_ends g p o n

put_target_ends : (ip ss : ℕ) (g : Registers) (t : Target) (v : ℕ) → g.ip ≡ ip → g.ss ≡ ss → EndsAt ip ss (put_target g t v)
unfolding put_target
put_target_ends ip ss g (target.Byte o) v i s = rw (← i) (rw (← s) (done_byte g o v))
put_target_ends ip ss g (target.Word o) v i s = rw (← i) (rw (← s) (done_word g o v))

target_then_ends : (ip ss : ℕ) (g : Registers) (t : Target) (next : ℕ → Act) → ((v : ℕ) → EndsAt ip ss (next v)) → EndsAt ip ss (target_then g t next)
unfolding target_then
target_then_ends ip ss g (target.Byte o) next h = byte_then_ends ip ss g o next h
target_then_ends ip ss g (target.Word o) next h = word_then_ends ip ss g o next h

multiplied_keeps : (g : Registers) (w : Width) (v : ℕ) → Keeps g (multiplied g w v)
multiplied_keeps g width.Byte v = (refl, refl)
multiplied_keeps g width.Word v = (refl, refl)

multiplied_signed_keeps : (g : Registers) (w : Width) (v : ℕ) → Keeps g (multiplied_signed g w v)
multiplied_signed_keeps g width.Byte v = (refl, refl)
multiplied_signed_keeps g width.Word v = (refl, refl)

unary_ends : (g : Registers) (p : UnaryOp) (t : Target) (v : ℕ) → is_plain (instr.Unary p t) ≡ true → EndsAt g.ip g.ss (unary_of g p t v)
unary_ends g unary.Not t v e = put_target_ends g.ip g.ss g t _ refl refl
unary_ends g unary.Neg t v e = put_target_ends g.ip g.ss _ t _ refl refl
unary_ends g unary.Mul t v e = multiplied_keeps g (width_of t) v
unary_ends g unary.Imul t v e = multiplied_signed_keeps g (width_of t) v
unary_ends g unary.Div t v e = absurd (cc)

shift_keeps : (g : Registers) (p : ShiftOp) (w : Width) (v : ℕ) → Keeps g (zero_and_sign g p w v)
shift_keeps g shift.Rcl w v = (refl, refl)
shift_keeps g shift.Rcr w v = (refl, refl)
shift_keeps g shift.Shl w v = (refl, refl)
shift_keeps g shift.Shr w v = (refl, refl)
shift_keeps g shift.Sar w v = (refl, refl)

shifted_ends : (g : Registers) (p : ShiftOp) (n : ℕ) (t : Target) → EndsAt g.ip g.ss (shifted g p n t)
shifted_ends g p n t = by (n == 0)
  where
    by : (b : Bool) → EndsAt g.ip g.ss (if b then Done g else target_then g t (λ v. shifted_target g p n t v))
    by true = (refl, refl)
    by false = target_then_ends g.ip g.ss g t _ (λ v. put_target_ends g.ip g.ss (with_shift_flags g p _ n v _) t _ ((shift_keeps g p _ _).0) ((shift_keeps g p _ _).1))

pop_segment_keeps : (g : Registers) (s : DataSeg) (v : ℕ) → is_plain (instr.PopSeg s) ≡ true → Keeps g (with_data_seg (raised g 2) s v)
pop_segment_keeps g data_seg.Es v e = (refl, refl)
pop_segment_keeps g data_seg.Ss v e = absurd (cc)
pop_segment_keeps g data_seg.Ds v e = (refl, refl)

to_segment_keeps : (g : Registers) (s : DataSeg) (o : WordOperand) (v : ℕ) → is_plain (instr.MovToSeg s o) ≡ true → Keeps g (with_data_seg g s v)
to_segment_keeps g data_seg.Es o v e = (refl, refl)
to_segment_keeps g data_seg.Ss o v e = absurd (cc)
to_segment_keeps g data_seg.Ds o v e = (refl, refl)

pub plain_ends : (i : Instr) (g : Registers) → is_plain i ≡ true → EndsAt g.ip g.ss (act g i)
unfolding act
plain_ends (instr.Mov p) g e = move_ends g p
plain_ends (instr.MovImmediate i) g e = immediate_ends g i
plain_ends (instr.MovByte r n) g e = byte_reg_keeps g r n
plain_ends (instr.MovWord r n) g e = word_reg_keeps g r n
plain_ends (instr.MovFromSeg o seg.Es) g e = done_word g o g.es
plain_ends (instr.MovFromSeg o seg.Cs) g e = absurd (cc)
plain_ends (instr.MovFromSeg o seg.Ss) g e = done_word g o g.ss
plain_ends (instr.MovFromSeg o seg.Ds) g e = done_word g o g.ds
plain_ends (instr.MovToSeg s o) g e = word_then_ends g.ip g.ss g o _ (λ v. to_segment_keeps g s o v e)
plain_ends (instr.Push r) g e = (refl, refl)
plain_ends (instr.Pop r) g e = λ low high. word_reg_keeps (raised g 2) r (word_of low high)
plain_ends (instr.PushSeg seg.Es) g e = (refl, refl)
plain_ends (instr.PushSeg seg.Cs) g e = absurd (cc)
plain_ends (instr.PushSeg seg.Ss) g e = (refl, refl)
plain_ends (instr.PushSeg seg.Ds) g e = (refl, refl)
plain_ends (instr.PopSeg s) g e = λ low high. pop_segment_keeps g s (word_of low high) e
plain_ends (instr.Alu p q) g e = alu_pair_ends g p q
plain_ends (instr.AluImmediate p i) g e = alu_immediate_ends g p i
plain_ends (instr.AluShort p o n) g e = alu_word_ends g (alu_op p) o _
plain_ends (instr.Unary p t) g e = target_then_ends g.ip g.ss g t _ (λ v. unary_ends g p t v e)
plain_ends (instr.Inc r) g e = word_reg_keeps (with_flags g width.Word _) r _
plain_ends (instr.Dec r) g e = word_reg_keeps (with_flags g width.Word _) r _
plain_ends (instr.Shift p n t) g e = shifted_ends g p (count_of g n) t
plain_ends instr.Cbw g e = (refl, refl)
plain_ends instr.Cwd g e = (refl, refl)
plain_ends (instr.Lea r m) g e = word_reg_keeps g r _
plain_ends (instr.Les r m) g e = in_segment_ends g.ip g.ss g _ m.segment _ (λ s a b c d. word_reg_keeps (record g { es = word_of c d }) r _)
plain_ends (instr.Lds r m) g e = in_segment_ends g.ip g.ss g _ m.segment _ (λ s a b c d. word_reg_keeps (record g { ds = word_of c d }) r _)
plain_ends (instr.Xchg o r) g e = word_then_ends g.ip g.ss g o _ (λ v. put_word_ends g o (word_reg g r) _ (λ h k. let z = word_reg_keeps h r v in (z.0 ∙ k.0, z.1 ∙ k.1)))
plain_ends (instr.JumpShort c d) g e = absurd (cc)
plain_ends (instr.JumpNear d) g e = absurd (cc)
plain_ends (instr.JumpFar o s) g e = absurd (cc)
plain_ends (instr.CallNear d) g e = absurd (cc)
plain_ends (instr.CallFar o s) g e = absurd (cc)
plain_ends (instr.CallIndirect o) g e = absurd (cc)
plain_ends (instr.CallFarIndirect m) g e = absurd (cc)
plain_ends instr.Ret g e = absurd (cc)
plain_ends (instr.RetDrop n) g e = absurd (cc)
plain_ends instr.RetFar g e = absurd (cc)
plain_ends (instr.RetFarDrop n) g e = absurd (cc)
plain_ends (instr.Int n) g e = absurd (cc)
plain_ends instr.Cld g e = (refl, refl)
plain_ends (instr.Movsb s) g e = absurd (cc)
plain_ends (instr.RepMovsb s) g e = absurd (cc)
