-- The effect of an instruction without a tree: on the state itself, as the code computes it. That it is what the
-- tree does over memory is a law (`direct_law`).
use Rattle.std.specs.Prelude.{ℕ, zero, suc, nat_le, Option, Some, None, ◌+◌, ◌-◌, ◌/◌, ◌%◌, ◌==◌, false, if◌then◌else◌}
use Rattle.x86_table.specs.declared.operand.WordReg.{WordReg}
use Rattle.x86_table.specs.declared.operand.DataSeg.{DataSeg}
use Rattle.x86_table.specs.declared.operand.SegReg.{SegReg}
use Rattle.x86_table.specs.declared.operand.SegReg.TheVariants as seg
use Rattle.x86_table.specs.declared.operand.Memory.{Memory}
use Rattle.x86_table.specs.declared.operand.ByteOperand.{ByteOperand}
use Rattle.x86_table.specs.declared.operand.ByteOperand.TheVariants as byte_rm
use Rattle.x86_table.specs.declared.operand.WordOperand.{WordOperand}
use Rattle.x86_table.specs.declared.operand.WordOperand.TheVariants as word_rm
use Rattle.x86_table.specs.declared.instr.Width.{Width}
use Rattle.x86_table.specs.declared.instr.Width.TheVariants as width
use Rattle.x86_table.specs.declared.instr.Pair.{Pair}
use Rattle.x86_table.specs.declared.instr.Pair.TheVariants as pair
use Rattle.x86_table.specs.declared.instr.Immediate.{Immediate}
use Rattle.x86_table.specs.declared.instr.Immediate.TheVariants as immediate
use Rattle.x86_table.specs.declared.instr.Target.{Target}
use Rattle.x86_table.specs.declared.instr.Target.TheVariants as target
use Rattle.x86_table.specs.declared.instr.AluOp.{AluOp}
use Rattle.x86_table.specs.declared.instr.AluOp.TheVariants as op
use Rattle.x86_table.specs.declared.instr.UnaryOp.{UnaryOp}
use Rattle.x86_table.specs.declared.instr.UnaryOp.TheVariants as unary
use Rattle.x86_table.specs.declared.instr.ShiftOp.{ShiftOp}
use Rattle.x86_table.specs.declared.instr.Instr.{Instr}
use Rattle.x86_table.specs.declared.instr.Instr.TheVariants as instr
use Rattle.cpu_8086.specs.declared.machine.Event.{Event}
use Rattle.cpu_8086.specs.declared.machine.Event.TheVariants.{Ran, Service, Divide, Unknown}
use Rattle.cpu_8086.specs.declared.arithmetic.Shifted.{Shifted}
use Rattle.cpu_8086.specs.declared.registers.Registers.{Registers}
use Rattle.cpu_8086.specs.State.{State}
use Rattle.cpu_8086.specs.Memory.{load_byte, store_byte, load_word, store_word}
use Rattle.cpu_8086.specs.Arithmetic.{size, top, sum_of, difference_of, alu_of, sign_extend, shift_of}
use Rattle.cpu_8086.specs.Operand.{word_reg, with_word_reg, byte_reg, with_byte_reg, with_data_seg, offset_of, usual_segment}
use Rattle.cpu_8086.specs.Access.{raised, lowered, at_offset, far_called, far_returned}
use Rattle.cpu_8086.specs.Effect.{with_flags, alu_op, counted, width_of, dividend, with_halves, multiplied, multiplied_signed, count_of, with_shift_flags, jump_by, jump_if, indices_after}

abbrev pub with_registers : State → Registers → State
with_registers s g = record s { registers = g }

-- ## Operands

unfoldable pub chosen : Registers → ℕ → ℕ → Option SegReg → ℕ
chosen g cs usual None = usual
chosen g cs usual (Some seg.Es) = g.es
chosen g cs usual (Some seg.Cs) = cs
chosen g cs usual (Some seg.Ss) = g.ss
chosen g cs usual (Some seg.Ds) = g.ds

abbrev pub segment_of : State → Memory → ℕ
segment_of s m = chosen s.registers s.cs (usual_segment s.registers m.place) m.segment

abbrev pub seg_reg : State → SegReg → ℕ
seg_reg s seg.Es = s.registers.es
seg_reg s seg.Cs = s.cs
seg_reg s seg.Ss = s.registers.ss
seg_reg s seg.Ds = s.registers.ds

unfoldable pub byte_value : State → ByteOperand → ℕ
byte_value s (byte_rm.Reg r) = byte_reg s.registers r
byte_value s (byte_rm.Mem m) = load_byte s.memory (segment_of s m) (offset_of s.registers m.place)

unfoldable pub word_value : State → WordOperand → ℕ
word_value s (word_rm.Reg r) = word_reg s.registers r
word_value s (word_rm.Mem m) = load_word s.memory (segment_of s m) (offset_of s.registers m.place)

unfoldable pub with_byte : State → ByteOperand → ℕ → State
with_byte s (byte_rm.Reg r) v = with_registers s (with_byte_reg s.registers r v)
with_byte s (byte_rm.Mem m) v = record s { memory = store_byte s.memory (segment_of s m) (offset_of s.registers m.place) v }

unfoldable pub with_word : State → WordOperand → ℕ → State
with_word s (word_rm.Reg r) v = with_registers s (with_word_reg s.registers r v)
with_word s (word_rm.Mem m) v = record s { memory = store_word s.memory (segment_of s m) (offset_of s.registers m.place) v }

unfoldable pub target_value : State → Target → ℕ
target_value s (target.Byte o) = byte_value s o
target_value s (target.Word o) = word_value s o

unfoldable pub with_target : State → Target → ℕ → State
with_target s (target.Byte o) v = with_byte s o v
with_target s (target.Word o) v = with_word s o v

-- ## Moves

unfoldable pub moved_pair : State → Pair → State
moved_pair s (pair.RmByte o r) = with_byte s o (byte_reg s.registers r)
moved_pair s (pair.RmWord o r) = with_word s o (word_reg s.registers r)
moved_pair s (pair.ByteRm r o) = with_registers s (with_byte_reg s.registers r (byte_value s o))
moved_pair s (pair.WordRm r o) = with_registers s (with_word_reg s.registers r (word_value s o))

unfoldable pub moved_immediate : State → Immediate → State
moved_immediate s (immediate.Byte o n) = with_byte s o n
moved_immediate s (immediate.Word o n) = with_word s o n

-- a word at SS:SP, SP having gone down
abbrev pub pushed_at : State → Registers → ℕ → State
pushed_at s g v = record s { registers = g; memory = store_word s.memory g.ss g.sp v }

unfoldable pub pushed : State → ℕ → State
pushed s v = pushed_at s (lowered s.registers) v

unfoldable pub pushed_register : State → WordReg → State
pushed_register s r = pushed s (word_reg (lowered s.registers) r)

abbrev pub top_word : State → ℕ
top_word s = load_word s.memory s.registers.ss s.registers.sp

unfoldable pub popped_register : State → WordReg → State
popped_register s r = with_registers s (with_word_reg (raised s.registers 2) r (top_word s))

unfoldable pub popped_segment : State → DataSeg → State
popped_segment s r = with_registers s (with_data_seg (raised s.registers 2) r (top_word s))

-- the word two bytes on
abbrev pub second_word : State → Memory → ℕ
second_word s m = load_word s.memory (segment_of s m) ((offset_of s.registers m.place + 2) % 65536)

abbrev pub first_word : State → Memory → ℕ
first_word s m = load_word s.memory (segment_of s m) (offset_of s.registers m.place)

unfoldable pub exchanged : State → WordOperand → WordReg → State
exchanged s o r = let t = with_word s o (word_reg s.registers r) in with_registers t (with_word_reg t.registers r (word_value s o))

-- ## Arithmetic

unfoldable pub with_result_byte : AluOp → State → ByteOperand → ℕ → State
with_result_byte op.Cmp s o v = s
with_result_byte _ s o v = with_byte s o v

unfoldable pub with_result_word : AluOp → State → WordOperand → ℕ → State
with_result_word op.Cmp s o v = s
with_result_word _ s o v = with_word s o v

unfoldable pub alu_on_byte : State → AluOp → ByteOperand → ℕ → State
alu_on_byte s p o y = let out = alu_of p width.Byte (byte_value s o) y s.registers.carry in with_result_byte p (with_registers s (with_flags s.registers width.Byte out)) o out.value

unfoldable pub alu_on_word : State → AluOp → WordOperand → ℕ → State
alu_on_word s p o y = let out = alu_of p width.Word (word_value s o) y s.registers.carry in with_result_word p (with_registers s (with_flags s.registers width.Word out)) o out.value

unfoldable pub alu_on_pair : State → AluOp → Pair → State
alu_on_pair s p (pair.RmByte o r) = alu_on_byte s p o (byte_reg s.registers r)
alu_on_pair s p (pair.RmWord o r) = alu_on_word s p o (word_reg s.registers r)
alu_on_pair s p (pair.ByteRm r o) = alu_on_byte s p (byte_rm.Reg r) (byte_value s o)
alu_on_pair s p (pair.WordRm r o) = alu_on_word s p (word_rm.Reg r) (word_value s o)

unfoldable pub alu_on_immediate : State → AluOp → Immediate → State
alu_on_immediate s p (immediate.Byte o n) = alu_on_byte s p o n
alu_on_immediate s p (immediate.Word o n) = alu_on_word s p o n

unfoldable pub negated : State → Target → ℕ → State
negated s t v = let out = difference_of (width_of t) 0 v false in with_target (with_registers s (with_flags s.registers (width_of t) out)) t out.value

unfoldable pub divided_by : State → Width → ℕ → State × Event
divided_by s w v =
    if v == 0 then (s, Divide)
    else (if nat_le (size w) (dividend s.registers w / v) then (s, Divide) else (with_registers s (with_halves s.registers w (dividend s.registers w % v) (dividend s.registers w / v)), Ran))

abbrev pub ran : State → State × Event
ran s = (s, Ran)

unfoldable pub unary_on : State → UnaryOp → Target → ℕ → State × Event
unary_on s unary.Not t v = ran (with_target s t (size (width_of t) - 1 - v))
unary_on s unary.Neg t v = ran (negated s t v)
unary_on s unary.Mul t v = ran (with_registers s (multiplied s.registers (width_of t) v))
unary_on s unary.Imul t v = ran (with_registers s (multiplied_signed s.registers (width_of t) v))
unary_on s unary.Div t v = divided_by s (width_of t) v

-- ## Shifts

unfoldable pub shifted_to : State → ShiftOp → ℕ → Target → ℕ → Shifted → State
shifted_to s p n t v out = with_target (with_registers s (with_shift_flags s.registers p (width_of t) n v out)) t out.value

unfoldable pub shifted_by : State → ShiftOp → ℕ → Target → State
shifted_by s p n t = if n == 0 then s else (let v = target_value s t in shifted_to s p n t v (shift_of p (width_of t) v s.registers.carry n))

-- ## Calls and returns

unfoldable pub called : State → ℕ → State
called s offset = let t = pushed s s.registers.ip in with_registers t (at_offset t.registers offset)

unfoldable pub called_far : State → ℕ → ℕ → State
called_far s segment offset = far_called s.registers s.cs s.memory segment offset

unfoldable pub returned : State → ℕ → State
returned s n = with_registers s (at_offset (raised s.registers (2 + n)) (top_word s))

unfoldable pub returned_far : State → ℕ → State
returned_far s n = far_returned s.registers s.memory n

-- ## Bytes moved

unfoldable pub moved_byte : ℕ → State → State
moved_byte segment s = record s {
  registers = indices_after s.registers;
  memory = store_byte s.memory s.registers.es s.registers.di (load_byte s.memory segment s.registers.si);
}

abbrev pub moved_bytes : ℕ → ℕ → State → State
moved_bytes segment zero s = s
moved_bytes segment (suc n) s = moved_byte segment (moved_bytes segment n s)

unfoldable pub moved_from : State → Option SegReg → ℕ → State
moved_from s override n = moved_bytes (chosen s.registers s.cs s.registers.ds override) n s

-- CX is 0 after a repeated move
abbrev pub counted_out : State → State
counted_out s = with_registers s (record s.registers { cx = 0 })

-- ## The table

unfoldable pub direct : State → Instr → State × Event
direct s (instr.Mov p) = ran (moved_pair s p)
direct s (instr.MovImmediate i) = ran (moved_immediate s i)
direct s (instr.MovByte r n) = ran (with_registers s (with_byte_reg s.registers r n))
direct s (instr.MovWord r n) = ran (with_registers s (with_word_reg s.registers r n))
direct s (instr.MovFromSeg o r) = ran (with_word s o (seg_reg s r))
direct s (instr.MovToSeg r o) = ran (with_registers s (with_data_seg s.registers r (word_value s o)))
direct s (instr.Push r) = ran (pushed_register s r)
direct s (instr.Pop r) = ran (popped_register s r)
direct s (instr.PushSeg r) = ran (pushed s (seg_reg s r))
direct s (instr.PopSeg r) = ran (popped_segment s r)
direct s (instr.Alu p q) = ran (alu_on_pair s p q)
direct s (instr.AluImmediate p i) = ran (alu_on_immediate s p i)
direct s (instr.AluShort p o n) = ran (alu_on_word s (alu_op p) o (sign_extend n))
direct s (instr.Unary p t) = unary_on s p t (target_value s t)
direct s (instr.Inc r) = ran (with_registers s (counted s.registers r (sum_of width.Word (word_reg s.registers r) 1 false)))
direct s (instr.Dec r) = ran (with_registers s (counted s.registers r (difference_of width.Word (word_reg s.registers r) 1 false)))
direct s (instr.Shift p c t) = ran (shifted_by s p (count_of s.registers c) t)
direct s instr.Cbw = ran (with_registers s (record s.registers { ax = sign_extend (s.registers.ax % 256) }))
direct s instr.Cwd = ran (with_registers s (record s.registers { dx = if top width.Word s.registers.ax then 65535 else 0 }))
direct s (instr.Lea r m) = ran (with_registers s (with_word_reg s.registers r (offset_of s.registers m.place)))
direct s (instr.Les r m) = ran (with_registers s (with_word_reg (record s.registers { es = second_word s m }) r (first_word s m)))
direct s (instr.Lds r m) = ran (with_registers s (with_word_reg (record s.registers { ds = second_word s m }) r (first_word s m)))
direct s (instr.Xchg o r) = ran (exchanged s o r)
direct s (instr.JumpShort c d) = ran (with_registers s (jump_if s.registers c d))
direct s (instr.JumpNear d) = ran (with_registers s (jump_by s.registers d))
direct s (instr.JumpFar offset segment) = ran (record s { registers = at_offset s.registers offset; cs = segment })
direct s (instr.CallNear d) = ran (called s ((s.registers.ip + d) % 65536))
direct s (instr.CallFar offset segment) = ran (called_far s segment offset)
direct s (instr.CallIndirect o) = ran (called s (word_value s o))
direct s (instr.CallFarIndirect m) = ran (called_far s (second_word s m) (first_word s m))
direct s instr.Ret = ran (returned s 0)
direct s (instr.RetDrop n) = ran (returned s n)
direct s instr.RetFar = ran (returned_far s 0)
direct s (instr.RetFarDrop n) = ran (returned_far s n)
direct s (instr.Int n) = (s, Service n)
direct s instr.Cld = ran (with_registers s (record s.registers { direction = false }))
direct s (instr.Movsb override) = ran (moved_from s override 1)
direct s (instr.RepMovsb override) = ran (counted_out (moved_from s override s.registers.cx))

-- after a fault IP is as it was before
abbrev pub settled : ℕ → State × Event → State × Event
settled ip (t, Divide) = (with_registers t (at_offset t.registers ip), Divide)
settled ip (t, Ran) = (t, Ran)
settled ip (t, Service n) = (t, Service n)
settled ip (t, Unknown cs i) = (t, Unknown cs i)
