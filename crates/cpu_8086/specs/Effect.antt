-- What each instruction does. IP stands past the instruction already.
use Rattle.std.specs.Prelude.{ℕ, zero, suc, nat_le, Option, ◌+◌, ◌-◌, ◌*◌, ◌/◌, ◌%◌, ◌==◌, Bool, true, false, not, ◌||◌, if◌then◌else◌, ℤ, ◌*ℤ◌}
use Rattle.x86_table.specs.declared.operand.WordReg.{WordReg}
use Rattle.x86_table.specs.declared.operand.DataSeg.{DataSeg}
use Rattle.x86_table.specs.declared.operand.SegReg.{SegReg}
use Rattle.x86_table.specs.declared.operand.SegReg.TheVariants as seg
use Rattle.x86_table.specs.declared.operand.ByteOperand.{ByteOperand}
use Rattle.x86_table.specs.declared.operand.ByteOperand.TheVariants as byte_rm
use Rattle.x86_table.specs.declared.operand.WordOperand.{WordOperand}
use Rattle.x86_table.specs.declared.operand.WordOperand.TheVariants as word_rm
use Rattle.x86_table.specs.declared.instr.Width.{Width}
use Rattle.x86_table.specs.declared.instr.Width.TheVariants as width
use Rattle.x86_table.specs.declared.instr.Pair.{Pair}
use Rattle.x86_table.specs.declared.instr.Pair.TheVariants as pair
use Rattle.x86_table.specs.declared.instr.Immediate.{Immediate}
use Rattle.x86_table.specs.declared.instr.Immediate.TheVariants as immediate
use Rattle.x86_table.specs.declared.instr.Target.{Target}
use Rattle.x86_table.specs.declared.instr.Target.TheVariants as target
use Rattle.x86_table.specs.declared.instr.AluOp.{AluOp}
use Rattle.x86_table.specs.declared.instr.AluOp.TheVariants as op
use Rattle.x86_table.specs.declared.instr.ShortOp.{ShortOp}
use Rattle.x86_table.specs.declared.instr.ShortOp.TheVariants as short
use Rattle.x86_table.specs.declared.instr.UnaryOp.{UnaryOp}
use Rattle.x86_table.specs.declared.instr.UnaryOp.TheVariants as unary
use Rattle.x86_table.specs.declared.instr.ShiftOp.{ShiftOp}
use Rattle.x86_table.specs.declared.instr.ShiftOp.TheVariants as shift
use Rattle.x86_table.specs.declared.instr.Count.{Count}
use Rattle.x86_table.specs.declared.instr.Count.TheVariants as count
use Rattle.x86_table.specs.declared.instr.Cond.{Cond}
use Rattle.x86_table.specs.declared.instr.Cond.TheVariants as cond
use Rattle.x86_table.specs.declared.instr.Instr.{Instr}
use Rattle.x86_table.specs.declared.instr.Instr.TheVariants as instr
use Rattle.cpu_8086.specs.declared.arithmetic.Outcome.{Outcome}
use Rattle.cpu_8086.specs.declared.arithmetic.Shifted.{Shifted}
use Rattle.cpu_8086.specs.declared.registers.Registers.{Registers}
use Rattle.cpu_8086.specs.Memory.{address}
use Rattle.cpu_8086.specs.Arithmetic.{size, top, differ, signed, fits, sum_of, difference_of, alu_of, twice_as_wide, sign_extend, shift_of, shift_overflow}
use Rattle.cpu_8086.specs.Operand.{word_reg, with_word_reg, byte_reg, with_byte_reg, with_data_seg, offset_of}
use Rattle.cpu_8086.specs.Access.{Act, Done, Copy, ReadCodeSegment, FarCall, FarReturn, FarJump, PushCodeSegment, Interrupt, DivideFault, raised, lowered, at_offset, in_segment, byte_then, word_then, put_byte, put_word, push_then, top_then, pointer_then}

-- ## Moves

abbrev pub move_pair : Registers → Pair → Act
move_pair g (pair.RmByte o r) = put_byte g o (byte_reg g r) Done
move_pair g (pair.RmWord o r) = put_word g o (word_reg g r) Done
move_pair g (pair.ByteRm r o) = byte_then g o (λ v. Done (with_byte_reg g r v))
move_pair g (pair.WordRm r o) = word_then g o (λ v. Done (with_word_reg g r v))

abbrev pub move_immediate : Registers → Immediate → Act
move_immediate g (immediate.Byte o n) = put_byte g o n Done
move_immediate g (immediate.Word o n) = put_word g o n Done

-- what a segment register holds
abbrev pub seg_reg_then : Registers → SegReg → (ℕ → Act) → Act
seg_reg_then g seg.Es next = next g.es
seg_reg_then g seg.Cs next = ReadCodeSegment next
seg_reg_then g seg.Ss next = next g.ss
seg_reg_then g seg.Ds next = next g.ds

-- SP itself is pushed as it is after the decrement
abbrev pub push_register : Registers → WordReg → Act
push_register g r = push_then g (word_reg (lowered g) r) Done

abbrev pub push_segment : Registers → SegReg → Act
push_segment g seg.Es = push_then g g.es Done
push_segment g seg.Cs = PushCodeSegment g
push_segment g seg.Ss = push_then g g.ss Done
push_segment g seg.Ds = push_then g g.ds Done

-- the register is written last, so that POP SP leaves the word
abbrev pub pop_register : Registers → WordReg → Act
pop_register g r = top_then g (λ v. Done (with_word_reg (raised g 2) r v))

abbrev pub pop_segment : Registers → DataSeg → Act
pop_segment g r = top_then g (λ v. Done (with_data_seg (raised g 2) r v))

abbrev pub exchange : Registers → WordOperand → WordReg → Act
exchange g o r = word_then g o (λ v. put_word g o (word_reg g r) (λ h. Done (with_word_reg h r v)))

-- ## Arithmetic

-- carry and overflow, and zero and sign by the value
abbrev pub with_flags : Registers → Width → Outcome → Registers
with_flags g w out = record g { carry = out.carry; zeroed = out.value == 0; sign = top w out.value; overflow = out.overflow }

-- CMP leaves its operand
abbrev pub put_result_byte : AluOp → Registers → ByteOperand → ℕ → Act
put_result_byte op.Cmp g o v = Done g
put_result_byte _ g o v = put_byte g o v Done

abbrev pub put_result_word : AluOp → Registers → WordOperand → ℕ → Act
put_result_word op.Cmp g o v = Done g
put_result_word _ g o v = put_word g o v Done

abbrev pub alu_byte : Registers → AluOp → ByteOperand → ℕ → Act
alu_byte g p o y = byte_then g o (λ x. let out = alu_of p width.Byte x y g.carry in put_result_byte p (with_flags g width.Byte out) o out.value)

abbrev pub alu_word : Registers → AluOp → WordOperand → ℕ → Act
alu_word g p o y = word_then g o (λ x. let out = alu_of p width.Word x y g.carry in put_result_word p (with_flags g width.Word out) o out.value)

abbrev pub alu_pair : Registers → AluOp → Pair → Act
alu_pair g p (pair.RmByte o r) = alu_byte g p o (byte_reg g r)
alu_pair g p (pair.RmWord o r) = alu_word g p o (word_reg g r)
alu_pair g p (pair.ByteRm r o) = byte_then g o (λ v. alu_byte g p (byte_rm.Reg r) v)
alu_pair g p (pair.WordRm r o) = word_then g o (λ v. alu_word g p (word_rm.Reg r) v)

abbrev pub alu_immediate : Registers → AluOp → Immediate → Act
alu_immediate g p (immediate.Byte o n) = alu_byte g p o n
alu_immediate g p (immediate.Word o n) = alu_word g p o n

abbrev pub alu_op : ShortOp → AluOp
alu_op short.Add = op.Add
alu_op short.Adc = op.Adc
alu_op short.Sbb = op.Sbb
alu_op short.Sub = op.Sub
alu_op short.Cmp = op.Cmp

-- INC and DEC leave the carry
abbrev pub counted : Registers → WordReg → Outcome → Registers
counted g r out = with_word_reg (with_flags g width.Word (record out { carry = g.carry })) r out.value

abbrev pub width_of : Target → Width
width_of (target.Byte o) = width.Byte
width_of (target.Word o) = width.Word

unfoldable pub target_then : Registers → Target → (ℕ → Act) → Act
target_then g (target.Byte o) next = byte_then g o next
target_then g (target.Word o) next = word_then g o next

unfoldable pub put_target : Registers → Target → ℕ → Act
put_target g (target.Byte o) v = put_byte g o v Done
put_target g (target.Word o) v = put_word g o v Done

-- what is multiplied and divided: AL and AX, or AX and DX:AX
abbrev pub accumulator : Registers → Width → ℕ
accumulator g width.Byte = g.ax % 256
accumulator g width.Word = g.ax

abbrev pub dividend : Registers → Width → ℕ
dividend g width.Byte = g.ax
dividend g width.Word = g.ax + 65536 * g.dx

-- AH:AL or DX:AX are the upper and the lower half
abbrev pub with_halves : Registers → Width → ℕ → ℕ → Registers
with_halves g width.Byte upper lower = record g { ax = lower + 256 * upper }
with_halves g width.Word upper lower = record g { ax = lower; dx = upper }

-- carry and overflow alike: the product needs its upper half
abbrev pub with_product : Registers → Width → ℕ → Bool → Registers
with_product g w product excess = record (with_halves g w (product / size w) (product % size w)) { carry = excess; overflow = excess }

abbrev pub multiplied : Registers → Width → ℕ → Registers
multiplied g w v = with_product g w (accumulator g w * v) (nat_le (size w) (accumulator g w * v))

abbrev pub signed_product : Registers → Width → ℕ → ℤ
signed_product g w v = signed w (accumulator g w) *ℤ signed w v

abbrev pub multiplied_signed : Registers → Width → ℕ → Registers
multiplied_signed g w v = with_product g w (twice_as_wide w (signed_product g w v)) (not (fits w (signed_product g w v)))

-- the quotient is the lower half, the remainder the upper
abbrev pub divided : Registers → Width → ℕ → Act
divided g w v =
    if v == 0 then DivideFault
    else (if nat_le (size w) (dividend g w / v) then DivideFault else Done (with_halves g w (dividend g w % v) (dividend g w / v)))

abbrev pub unary_of : Registers → UnaryOp → Target → ℕ → Act
unary_of g unary.Not t v = put_target g t (size (width_of t) - 1 - v)
unary_of g unary.Neg t v = let out = difference_of (width_of t) 0 v false in put_target (with_flags g (width_of t) out) t out.value
unary_of g unary.Mul t v = Done (multiplied g (width_of t) v)
unary_of g unary.Imul t v = Done (multiplied_signed g (width_of t) v)
unary_of g unary.Div t v = divided g (width_of t) v

-- ## Shifts

abbrev pub count_of : Registers → Count → ℕ
count_of g count.One = 1
count_of g count.Cl = g.cx % 256

-- zero and sign follow a shift, and not a rotation
abbrev pub zero_and_sign : Registers → ShiftOp → Width → ℕ → Registers
zero_and_sign g shift.Rcl w v = g
zero_and_sign g shift.Rcr w v = g
zero_and_sign g _ w v = record g { zeroed = v == 0; sign = top w v }

-- overflow changes after one place alone
abbrev pub with_shift_flags : Registers → ShiftOp → Width → ℕ → ℕ → Shifted → Registers
with_shift_flags g p w n before s =
    record (zero_and_sign g p w s.value) { carry = s.carry; overflow = if n == 1 then shift_overflow p w before s else g.overflow }

abbrev pub shifted_target : Registers → ShiftOp → ℕ → Target → ℕ → Act
shifted_target g p n t v =
    let s = shift_of p (width_of t) v g.carry n in put_target (with_shift_flags g p (width_of t) n v s) t s.value

-- a shift by no place changes nothing
abbrev pub shifted : Registers → ShiftOp → ℕ → Target → Act
shifted g p n t = if n == 0 then Done g else target_then g t (λ v. shifted_target g p n t v)

-- ## Jumps, calls and returns

abbrev pub holds : Registers → Cond → Bool
holds g cond.Overflow = g.overflow
holds g cond.NoOverflow = not g.overflow
holds g cond.Below = g.carry
holds g cond.AboveOrEqual = not g.carry
holds g cond.Equal = g.zeroed
holds g cond.NotEqual = not g.zeroed
holds g cond.BelowOrEqual = g.carry || g.zeroed
holds g cond.Above = not (g.carry || g.zeroed)
holds g cond.Sign = g.sign
holds g cond.NoSign = not g.sign
holds g cond.Less = differ g.sign g.overflow
holds g cond.GreaterOrEqual = not (differ g.sign g.overflow)
holds g cond.LessOrEqual = g.zeroed || differ g.sign g.overflow
holds g cond.Greater = not (g.zeroed || differ g.sign g.overflow)
holds g cond.Always = true

abbrev pub jump_by : Registers → ℕ → Registers
jump_by g d = record g { ip = (g.ip + d) % 65536 }

abbrev pub jump_if : Registers → Cond → ℕ → Registers
jump_if g c d = if holds g c then jump_by g (sign_extend d) else g

abbrev pub call_to : Registers → ℕ → Act
call_to g offset = push_then g g.ip (λ h. Done (at_offset h offset))

-- IP is popped, and n bytes are dropped
abbrev pub return_near : Registers → ℕ → Act
return_near g n = top_then g (λ v. Done (at_offset (raised g (2 + n)) v))

-- ## Bytes moved

-- an index after a byte, upwards or downwards by the direction flag
abbrev pub index_after : Registers → ℕ → ℕ
index_after g i = if g.direction then (i + 65535) % 65536 else (i + 1) % 65536

abbrev pub indices_after : Registers → Registers
indices_after g = record g { si = index_after g g.si; di = index_after g g.di }

-- n bytes go one by one from a segment and SI to ES and DI
abbrev pub moved_then : ℕ → ℕ → Registers → (Registers → Act) → Act
moved_then segment zero g next = next g
moved_then segment (suc n) g next = Copy (address segment g.si) (address g.es g.di) (moved_then segment n (indices_after g) next)

-- their segment is DS, or the override
abbrev pub moved : Registers → Option SegReg → ℕ → (Registers → Act) → Act
moved g override n next = in_segment g g.ds override (λ segment. moved_then segment n g next)

-- ## The table

unfoldable pub act : Registers → Instr → Act
act g (instr.Mov p) = move_pair g p
act g (instr.MovImmediate i) = move_immediate g i
act g (instr.MovByte r n) = Done (with_byte_reg g r n)
act g (instr.MovWord r n) = Done (with_word_reg g r n)
act g (instr.MovFromSeg o r) = seg_reg_then g r (λ v. put_word g o v Done)
act g (instr.MovToSeg r o) = word_then g o (λ v. Done (with_data_seg g r v))
act g (instr.Push r) = push_register g r
act g (instr.Pop r) = pop_register g r
act g (instr.PushSeg r) = push_segment g r
act g (instr.PopSeg r) = pop_segment g r
act g (instr.Alu p q) = alu_pair g p q
act g (instr.AluImmediate p i) = alu_immediate g p i
act g (instr.AluShort p o n) = alu_word g (alu_op p) o (sign_extend n)
act g (instr.Unary p t) = target_then g t (λ v. unary_of g p t v)
act g (instr.Inc r) = Done (counted g r (sum_of width.Word (word_reg g r) 1 false))
act g (instr.Dec r) = Done (counted g r (difference_of width.Word (word_reg g r) 1 false))
act g (instr.Shift p c t) = shifted g p (count_of g c) t
act g instr.Cbw = Done (record g { ax = sign_extend (g.ax % 256) })
act g instr.Cwd = Done (record g { dx = if top width.Word g.ax then 65535 else 0 })
act g (instr.Lea r m) = Done (with_word_reg g r (offset_of g m.place))
act g (instr.Les r m) = pointer_then g m (λ first second. Done (with_word_reg (record g { es = second }) r first))
act g (instr.Lds r m) = pointer_then g m (λ first second. Done (with_word_reg (record g { ds = second }) r first))
act g (instr.Xchg o r) = exchange g o r
act g (instr.JumpShort c d) = Done (jump_if g c d)
act g (instr.JumpNear d) = Done (jump_by g d)
act g (instr.JumpFar offset segment) = FarJump g segment offset
act g (instr.CallNear d) = call_to g ((g.ip + d) % 65536)
act g (instr.CallFar offset segment) = FarCall g segment offset
act g (instr.CallIndirect o) = word_then g o (λ v. call_to g v)
act g (instr.CallFarIndirect m) = pointer_then g m (λ first second. FarCall g second first)
act g instr.Ret = return_near g 0
act g (instr.RetDrop n) = return_near g n
act g instr.RetFar = FarReturn g 0
act g (instr.RetFarDrop n) = FarReturn g n
act g (instr.Int n) = Interrupt g n
act g instr.Cld = Done (record g { direction = false })
act g (instr.Movsb override) = moved g override 1 Done
act g (instr.RepMovsb override) = moved g override g.cx (λ h. Done (record h { cx = 0 }))
