-- A far call returns behind its own instruction.
use Rattle.std.proofs.Common.{◌≡◌, ℕ, zero, suc, ◌/◌, ◌%◌, ◌==◌, Bool, true, false, Option, Some, None, refl}
use Rattle.std.specs.Prelude.{if◌then◌else◌, nat_le}
use Rattle.x86_table.specs.declared.instr.AluOp.{AluOp}
use Rattle.x86_table.specs.declared.instr.AluOp.TheVariants as op
use Rattle.x86_table.specs.declared.instr.Immediate.{Immediate}
use Rattle.x86_table.specs.declared.instr.Immediate.TheVariants as immediate
use Rattle.x86_table.specs.declared.instr.Instr.{Instr}
use Rattle.x86_table.specs.declared.instr.Instr.TheVariants as instr
use Rattle.x86_table.specs.declared.instr.Pair.{Pair}
use Rattle.x86_table.specs.declared.instr.Pair.TheVariants as pair
use Rattle.x86_table.specs.declared.instr.ShiftOp.{ShiftOp}
use Rattle.x86_table.specs.declared.instr.Target.{Target}
use Rattle.x86_table.specs.declared.instr.Target.TheVariants as target
use Rattle.x86_table.specs.declared.instr.UnaryOp.{UnaryOp}
use Rattle.x86_table.specs.declared.instr.UnaryOp.TheVariants as unary
use Rattle.x86_table.specs.declared.instr.Width.{Width}
use Rattle.x86_table.specs.declared.operand.ByteOperand.{ByteOperand}
use Rattle.x86_table.specs.declared.operand.ByteOperand.TheVariants as byte_rm
use Rattle.x86_table.specs.declared.operand.Memory.{Memory}
use Rattle.x86_table.specs.declared.operand.SegReg.{SegReg}
use Rattle.x86_table.specs.declared.operand.SegReg.TheVariants as seg
use Rattle.x86_table.specs.declared.operand.WordOperand.{WordOperand}
use Rattle.x86_table.specs.declared.operand.WordOperand.TheVariants as word_rm
use Rattle.cpu_8086.specs.declared.registers.Registers.{Registers}
use Rattle.cpu_8086.specs.Access.{Act, Done, Read, Write, Copy, ReadCodeSegment, FarCall, FarReturn, FarJump, PushCodeSegment, Interrupt, DivideFault, in_segment, byte_then, word_then, put_byte, put_word, pointer_then}
use Rattle.cpu_8086.specs.Arithmetic.{size}
use Rattle.cpu_8086.specs.Effect.{act, move_pair, move_immediate, seg_reg_then, push_segment, alu_pair, alu_immediate, put_result_byte, put_result_word, alu_byte, alu_word, target_then, put_target, divided, dividend, with_halves, unary_of, shifted, shifted_target, moved_then, indices_after}
use Rattle.cpu_8086.specs.Operand.{with_word_reg, usual_segment}

-- each far call in the tree pushes this offset
abbrev pub CallsFrom : ℕ → Act → Type 0
CallsFrom ip (Done g) = Unit {0}
CallsFrom ip (Read place next) = (v : ℕ) → CallsFrom ip (next v)
CallsFrom ip (Write place value next) = CallsFrom ip next
CallsFrom ip (Copy from to next) = CallsFrom ip next
CallsFrom ip (ReadCodeSegment next) = (v : ℕ) → CallsFrom ip (next v)
CallsFrom ip (FarCall g segment offset) = g.ip ≡ ip
CallsFrom ip (FarReturn g dropped) = Unit {0}
CallsFrom ip (FarJump g segment offset) = Unit {0}
CallsFrom ip (PushCodeSegment g) = Unit {0}
CallsFrom ip (Interrupt g number) = Unit {0}
CallsFrom ip DivideFault = Unit {0}

module _ (ip : ℕ) where
  in_segment_calls : (g : Registers) (usual : ℕ) (o : Option SegReg) (next : ℕ → Act) → ((v : ℕ) → CallsFrom ip (next v)) → CallsFrom ip (in_segment g usual o next)
  unfolding in_segment
  in_segment_calls g usual None next h = h usual
  in_segment_calls g usual (Some seg.Es) next h = h g.es
  in_segment_calls g usual (Some seg.Cs) next h = h
  in_segment_calls g usual (Some seg.Ss) next h = h g.ss
  in_segment_calls g usual (Some seg.Ds) next h = h g.ds

  byte_calls : (g : Registers) (o : ByteOperand) (next : ℕ → Act) → ((v : ℕ) → CallsFrom ip (next v)) → CallsFrom ip (byte_then g o next)
  unfolding byte_then
  byte_calls g (byte_rm.Reg r) next h = h _
  byte_calls g (byte_rm.Mem m) next h = in_segment_calls g (usual_segment g m.place) m.segment _ (λ segment v. h v)

  word_calls : (g : Registers) (o : WordOperand) (next : ℕ → Act) → ((v : ℕ) → CallsFrom ip (next v)) → CallsFrom ip (word_then g o next)
  unfolding word_then
  word_calls g (word_rm.Reg r) next h = h _
  word_calls g (word_rm.Mem m) next h = in_segment_calls g (usual_segment g m.place) m.segment _ (λ segment low high. h _)

  put_byte_calls : (g : Registers) (o : ByteOperand) (v : ℕ) (next : Registers → Act) → ((k : Registers) → CallsFrom ip (next k)) → CallsFrom ip (put_byte g o v next)
  unfolding put_byte
  put_byte_calls g (byte_rm.Reg r) v next h = h _
  put_byte_calls g (byte_rm.Mem m) v next h = in_segment_calls g (usual_segment g m.place) m.segment _ (λ segment. h g)

  put_word_calls : (g : Registers) (o : WordOperand) (v : ℕ) (next : Registers → Act) → ((k : Registers) → CallsFrom ip (next k)) → CallsFrom ip (put_word g o v next)
  unfolding put_word
  put_word_calls g (word_rm.Reg r) v next h = h _
  put_word_calls g (word_rm.Mem m) v next h = in_segment_calls g (usual_segment g m.place) m.segment _ (λ segment. h g)

  pointer_calls : (g : Registers) (m : Memory) (next : ℕ → ℕ → Act) → ((a b : ℕ) → CallsFrom ip (next a b)) → CallsFrom ip (pointer_then g m next)
  pointer_calls g m next h = in_segment_calls g (usual_segment g m.place) m.segment _ (λ segment a b c d. h _ _)

  target_calls : (g : Registers) (t : Target) (next : ℕ → Act) → ((v : ℕ) → CallsFrom ip (next v)) → CallsFrom ip (target_then g t next)
  unfolding target_then
  target_calls g (target.Byte o) next h = byte_calls g o next h
  target_calls g (target.Word o) next h = word_calls g o next h

  put_target_calls : (g : Registers) (t : Target) (v : ℕ) → CallsFrom ip (put_target g t v)
  unfolding put_target
  put_target_calls g (target.Byte o) v = put_byte_calls g o v Done (λ k. tt)
  put_target_calls g (target.Word o) v = put_word_calls g o v Done (λ k. tt)

  result_byte_calls : (p : AluOp) (g : Registers) (o : ByteOperand) (v : ℕ) → CallsFrom ip (put_result_byte p g o v)
  result_byte_calls op.Cmp g o v = tt
  result_byte_calls _ g o v = put_byte_calls g o v Done (λ k. tt)

  result_word_calls : (p : AluOp) (g : Registers) (o : WordOperand) (v : ℕ) → CallsFrom ip (put_result_word p g o v)
  result_word_calls op.Cmp g o v = tt
  result_word_calls _ g o v = put_word_calls g o v Done (λ k. tt)

  alu_byte_calls : (g : Registers) (p : AluOp) (o : ByteOperand) (y : ℕ) → CallsFrom ip (alu_byte g p o y)
  alu_byte_calls g p o y = byte_calls g o _ (λ x. result_byte_calls p _ o _)

  alu_word_calls : (g : Registers) (p : AluOp) (o : WordOperand) (y : ℕ) → CallsFrom ip (alu_word g p o y)
  alu_word_calls g p o y = word_calls g o _ (λ x. result_word_calls p _ o _)

  divided_calls : (g : Registers) (w : Width) (v : ℕ) → CallsFrom ip (divided g w v)
  divided_calls g w v = by (v == 0) (nat_le (size w) (dividend g w / v))
    where
      by : (x y : Bool) → CallsFrom ip (if x then DivideFault else (if y then DivideFault else Done (with_halves g w (dividend g w % v) (dividend g w / v))))
      by true y = tt
      by false true = tt
      by false false = tt

  moved_calls : (segment n : ℕ) (g : Registers) (next : Registers → Act) → ((k : Registers) → CallsFrom ip (next k)) → CallsFrom ip (moved_then segment n g next)
  moved_calls segment zero g next h = h g
  moved_calls segment (suc n) g next h = moved_calls segment n (indices_after g) next h

  unary_calls : (g : Registers) (p : UnaryOp) (t : Target) (v : ℕ) → CallsFrom ip (unary_of g p t v)
  unary_calls g unary.Not t v = put_target_calls g t _
  unary_calls g unary.Neg t v = put_target_calls _ t _
  unary_calls g unary.Mul t v = tt
  unary_calls g unary.Imul t v = tt
  unary_calls g unary.Div t v = divided_calls g _ v

  shifted_calls : (g : Registers) (p : ShiftOp) (n : ℕ) (t : Target) → CallsFrom ip (shifted g p n t)
  shifted_calls g p n t = by (n == 0)
    where
      by : (x : Bool) → CallsFrom ip (if x then Done g else target_then g t (λ v. shifted_target g p n t v))
      by true = tt
      by false = target_calls g t (λ v. shifted_target g p n t v) (λ v. put_target_calls _ t _)

  pair_calls : (g : Registers) (q : Pair) → CallsFrom ip (move_pair g q)
  pair_calls g (pair.RmByte o r) = put_byte_calls g o _ Done (λ k. tt)
  pair_calls g (pair.RmWord o r) = put_word_calls g o _ Done (λ k. tt)
  pair_calls g (pair.ByteRm r o) = byte_calls g o _ (λ v. tt)
  pair_calls g (pair.WordRm r o) = word_calls g o _ (λ v. tt)

  immediate_calls : (g : Registers) (q : Immediate) → CallsFrom ip (move_immediate g q)
  immediate_calls g (immediate.Byte o n) = put_byte_calls g o n Done (λ k. tt)
  immediate_calls g (immediate.Word o n) = put_word_calls g o n Done (λ k. tt)

  seg_reg_calls : (g : Registers) (r : SegReg) (o : WordOperand) → CallsFrom ip (seg_reg_then g r (λ v. put_word g o v Done))
  seg_reg_calls g seg.Es o = put_word_calls g o g.es Done (λ k. tt)
  seg_reg_calls g seg.Cs o = λ v. put_word_calls g o v Done (λ k. tt)
  seg_reg_calls g seg.Ss o = put_word_calls g o g.ss Done (λ k. tt)
  seg_reg_calls g seg.Ds o = put_word_calls g o g.ds Done (λ k. tt)

  push_segment_calls : (g : Registers) (r : SegReg) → CallsFrom ip (push_segment g r)
  push_segment_calls g seg.Es = tt
  push_segment_calls g seg.Cs = tt
  push_segment_calls g seg.Ss = tt
  push_segment_calls g seg.Ds = tt

  alu_pair_calls : (g : Registers) (p : AluOp) (q : Pair) → CallsFrom ip (alu_pair g p q)
  alu_pair_calls g p (pair.RmByte o r) = alu_byte_calls g p o _
  alu_pair_calls g p (pair.RmWord o r) = alu_word_calls g p o _
  alu_pair_calls g p (pair.ByteRm r o) = byte_calls g o _ (λ v. alu_byte_calls g p (byte_rm.Reg r) v)
  alu_pair_calls g p (pair.WordRm r o) = word_calls g o _ (λ v. alu_word_calls g p (word_rm.Reg r) v)

  alu_immediate_calls : (g : Registers) (p : AluOp) (q : Immediate) → CallsFrom ip (alu_immediate g p q)
  alu_immediate_calls g p (immediate.Byte o n) = alu_byte_calls g p o n
  alu_immediate_calls g p (immediate.Word o n) = alu_word_calls g p o n

-- where the registers stand past the instruction, it returns there
pub act_calls : (g : Registers) (i : Instr) → CallsFrom g.ip (act g i)
unfolding act
act_calls g (instr.Mov p) = pair_calls g.ip g p
act_calls g (instr.MovImmediate i) = immediate_calls g.ip g i
act_calls g (instr.MovByte r n) = tt
act_calls g (instr.MovWord r n) = tt
act_calls g (instr.MovFromSeg o r) = seg_reg_calls g.ip g r o
act_calls g (instr.MovToSeg r o) = word_calls g.ip g o _ (λ v. tt)
act_calls g (instr.Push r) = tt
act_calls g (instr.Pop r) = λ a b. tt
act_calls g (instr.PushSeg r) = push_segment_calls g.ip g r
act_calls g (instr.PopSeg r) = λ a b. tt
act_calls g (instr.Alu p q) = alu_pair_calls g.ip g p q
act_calls g (instr.AluImmediate p i) = alu_immediate_calls g.ip g p i
act_calls g (instr.AluShort p o n) = alu_word_calls g.ip g _ o _
act_calls g (instr.Unary p t) = target_calls g.ip g t _ (λ v. unary_calls g.ip g p t v)
act_calls g (instr.Inc r) = tt
act_calls g (instr.Dec r) = tt
act_calls g (instr.Shift p c t) = shifted_calls g.ip g p _ t
act_calls g instr.Cbw = tt
act_calls g instr.Cwd = tt
act_calls g (instr.Lea r m) = tt
act_calls g (instr.Les r m) = pointer_calls g.ip g m (λ a b. Done (with_word_reg (record g { es = b }) r a)) (λ a b. tt)
act_calls g (instr.Lds r m) = pointer_calls g.ip g m (λ a b. Done (with_word_reg (record g { ds = b }) r a)) (λ a b. tt)
act_calls g (instr.Xchg o r) = word_calls g.ip g o _ (λ v. put_word_calls g.ip g o _ _ (λ h. tt))
act_calls g (instr.JumpShort c d) = tt
act_calls g (instr.JumpNear d) = tt
act_calls g (instr.JumpFar offset segment) = tt
act_calls g (instr.CallNear d) = tt
act_calls g (instr.CallFar offset segment) = refl
act_calls g (instr.CallIndirect o) = word_calls g.ip g o _ (λ v. tt)
act_calls g (instr.CallFarIndirect m) = pointer_calls g.ip g m (λ a b. FarCall g b a) (λ a b. refl)
act_calls g instr.Ret = λ a b. tt
act_calls g (instr.RetDrop n) = λ a b. tt
act_calls g instr.RetFar = tt
act_calls g (instr.RetFarDrop n) = tt
act_calls g (instr.Int n) = tt
act_calls g instr.Cld = tt
act_calls g (instr.Movsb override) = in_segment_calls g.ip g g.ds override _ (λ s. moved_calls g.ip s 1 g Done (λ k. tt))
act_calls g (instr.RepMovsb override) = in_segment_calls g.ip g g.ds override _ (λ s. moved_calls g.ip s g.cx g (λ h. Done (record h { cx = 0 })) (λ k. tt))
