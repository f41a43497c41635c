-- What a tree does over memory is the effect that the code computes.
use Rattle.std.proofs.Common.{◌≡◌, ℕ, zero, suc, ◌+◌, ◌-◌, ◌/◌, ◌%◌, ◌==◌, Bool, true, false, List, Option, Some, None, refl, sym, ap, ◌∙◌, arith, subst}
use Rattle.std.specs.Prelude.{nat_le, if◌then◌else◌}
use Rattle.x86_table.specs.declared.operand.WordReg.{WordReg}
use Rattle.x86_table.specs.declared.operand.SegReg.{SegReg}
use Rattle.x86_table.specs.declared.operand.SegReg.TheVariants as seg
use Rattle.x86_table.specs.declared.operand.Memory.{Memory}
use Rattle.x86_table.specs.declared.operand.ByteOperand.{ByteOperand}
use Rattle.x86_table.specs.declared.operand.ByteOperand.TheVariants as byte_rm
use Rattle.x86_table.specs.declared.operand.WordOperand.{WordOperand}
use Rattle.x86_table.specs.declared.operand.WordOperand.TheVariants as word_rm
use Rattle.x86_table.specs.declared.instr.Width.{Width}
use Rattle.x86_table.specs.declared.instr.Width.TheVariants as width
use Rattle.x86_table.specs.declared.instr.Pair.{Pair}
use Rattle.x86_table.specs.declared.instr.Pair.TheVariants as pair
use Rattle.x86_table.specs.declared.instr.Immediate.{Immediate}
use Rattle.x86_table.specs.declared.instr.Immediate.TheVariants as immediate
use Rattle.x86_table.specs.declared.instr.Target.{Target}
use Rattle.x86_table.specs.declared.instr.Target.TheVariants as target
use Rattle.x86_table.specs.declared.instr.AluOp.{AluOp}
use Rattle.x86_table.specs.declared.instr.AluOp.TheVariants as op
use Rattle.x86_table.specs.declared.instr.UnaryOp.{UnaryOp}
use Rattle.x86_table.specs.declared.instr.UnaryOp.TheVariants as unary
use Rattle.x86_table.specs.declared.instr.ShiftOp.{ShiftOp}
use Rattle.x86_table.specs.declared.instr.Instr.{Instr}
use Rattle.x86_table.specs.declared.instr.Instr.TheVariants as instr
use Rattle.cpu_8086.specs.declared.machine.Event.{Event}
use Rattle.cpu_8086.specs.declared.machine.Event.TheVariants.{Ran, Service, Divide, Unknown}
use Rattle.cpu_8086.specs.declared.registers.Registers.{Registers}
use Rattle.cpu_8086.specs.State.{State}
use Rattle.cpu_8086.specs.Memory.{load_byte, store_byte, load_word, store_word, address}
use Rattle.cpu_8086.specs.Operand.{word_reg, with_word_reg, byte_reg, with_byte_reg, with_data_seg, offset_of, usual_segment}
use Rattle.cpu_8086.specs.Access.{Act, Done, Read, Write, FarCall, DivideFault, on_memory, in_segment, byte_then, word_then, put_byte, put_word, read_word, write_word, pointer_then, at_offset}
use Rattle.cpu_8086.specs.Arithmetic.{size, alu_of, difference_of, sign_extend, shift_of}
use Rattle.cpu_8086.specs.Step.{effect, past}
use Rattle.cpu_8086.specs.Effect.{target_then, put_target, move_pair, move_immediate, exchange, alu_byte, alu_word, alu_pair, alu_immediate, put_result_byte, put_result_word, seg_reg_then, push_segment, with_flags, width_of, unary_of, dividend, with_halves, indices_after, moved_then, moved, act, alu_op, count_of, with_shift_flags, shifted_target, shifted, call_to}
use Rattle.cpu_8086.specs.Direct.{chosen, seg_reg, byte_value, word_value, with_byte, with_word, target_value, with_target, with_registers, moved_pair, moved_immediate, pushed, exchanged, with_result_byte, with_result_word, alu_on_byte, alu_on_word, alu_on_pair, alu_on_immediate, first_word, second_word, unary_on, negated, divided_by, moved_byte, moved_bytes, moved_from, counted_out, shifted_to, shifted_by, called, called_far, returned, returned_far, pushed_register, popped_register, popped_segment, direct, settled}

-- the state of a tree's registers over the memory
abbrev pub at : State → Registers → List ℕ → State
at s g m = record { registers = g; cs = s.cs; memory = m }

-- what goes on with the registers and the memory of a state
abbrev pub going_on : State → (Registers → Act) → State → State × Event
going_on s next t = on_memory s (next t.registers) t.memory

pub in_segment_law : (s : State) (g : Registers) (usual : ℕ) (o : Option SegReg) (next : ℕ → Act) (m : List ℕ) → on_memory s (in_segment g usual o next) m ≡ on_memory s (next (chosen g s.cs usual o)) m
unfolding in_segment chosen
in_segment_law s g usual None next m = refl
in_segment_law s g usual (Some seg.Es) next m = refl
in_segment_law s g usual (Some seg.Cs) next m = refl
in_segment_law s g usual (Some seg.Ss) next m = refl
in_segment_law s g usual (Some seg.Ds) next m = refl

pub seg_reg_law : (s : State) (g : Registers) (r : SegReg) (next : ℕ → Act) (m : List ℕ) → on_memory s (seg_reg_then g r next) m ≡ on_memory s (next (seg_reg (at s g m) r)) m
seg_reg_law s g seg.Es next m = refl
seg_reg_law s g seg.Cs next m = refl
seg_reg_law s g seg.Ss next m = refl
seg_reg_law s g seg.Ds next m = refl

pub byte_law : (s : State) (g : Registers) (o : ByteOperand) (next : ℕ → Act) (m : List ℕ) → on_memory s (byte_then g o next) m ≡ on_memory s (next (byte_value (at s g m) o)) m
unfolding byte_then byte_value load_byte
byte_law s g (byte_rm.Reg r) next m = refl
byte_law s g (byte_rm.Mem p) next m = in_segment_law s g (usual_segment g p.place) p.segment (λ (segment : ℕ). Read (address segment (offset_of g p.place)) next) m

pub word_law : (s : State) (g : Registers) (o : WordOperand) (next : ℕ → Act) (m : List ℕ) → on_memory s (word_then g o next) m ≡ on_memory s (next (word_value (at s g m) o)) m
unfolding word_then word_value load_word load_byte
word_law s g (word_rm.Reg r) next m = refl
word_law s g (word_rm.Mem p) next m = in_segment_law s g (usual_segment g p.place) p.segment (λ (segment : ℕ). read_word segment (offset_of g p.place) next) m

pub put_byte_law : (s : State) (g : Registers) (o : ByteOperand) (v : ℕ) (next : Registers → Act) (m : List ℕ) → on_memory s (put_byte g o v next) m ≡ going_on s next (with_byte (at s g m) o v)
unfolding put_byte with_byte store_byte
put_byte_law s g (byte_rm.Reg r) v next m = refl
put_byte_law s g (byte_rm.Mem p) v next m = in_segment_law s g (usual_segment g p.place) p.segment (λ (segment : ℕ). Write (address segment (offset_of g p.place)) v (next g)) m

pub put_word_law : (s : State) (g : Registers) (o : WordOperand) (v : ℕ) (next : Registers → Act) (m : List ℕ) → on_memory s (put_word g o v next) m ≡ going_on s next (with_word (at s g m) o v)
unfolding put_word with_word store_word store_byte
put_word_law s g (word_rm.Reg r) v next m = refl
put_word_law s g (word_rm.Mem p) v next m = in_segment_law s g (usual_segment g p.place) p.segment (λ (segment : ℕ). write_word segment (offset_of g p.place) v (next g)) m

-- an operand's write leaves CS
pub with_byte-cs : (s : State) (o : ByteOperand) (v : ℕ) → (with_byte s o v).cs ≡ s.cs
unfolding with_byte
with_byte-cs s (byte_rm.Reg r) v = refl
with_byte-cs s (byte_rm.Mem p) v = refl

pub with_word-cs : (s : State) (o : WordOperand) (v : ℕ) → (with_word s o v).cs ≡ s.cs
unfolding with_word
with_word-cs s (word_rm.Reg r) v = refl
with_word-cs s (word_rm.Mem p) v = refl

-- a state whose CS is known is put together again
pub done_law : (s t : State) → t.cs ≡ s.cs → going_on s Done t ≡ (t, Ran)
done_law s t e =
    let P : ℕ → Type 0 = λ (c : ℕ). let u : State = record { registers = t.registers; cs = c; memory = t.memory } in let x : State × Event = (u, Ran) in let y : State × Event = (t, Ran) in x ≡ y in
    subst P e refl

pub put_byte_done : (s : State) (g : Registers) (o : ByteOperand) (v : ℕ) (m : List ℕ) → on_memory s (put_byte g o v Done) m ≡ (with_byte (at s g m) o v, Ran)
put_byte_done s g o v m = put_byte_law s g o v Done m ∙ done_law s (with_byte (at s g m) o v) (with_byte-cs (at s g m) o v)

pub put_word_done : (s : State) (g : Registers) (o : WordOperand) (v : ℕ) (m : List ℕ) → on_memory s (put_word g o v Done) m ≡ (with_word (at s g m) o v, Ran)
put_word_done s g o v m = put_word_law s g o v Done m ∙ done_law s (with_word (at s g m) o v) (with_word-cs (at s g m) o v)

move_pair_law : (s : State) (g : Registers) (p : Pair) (m : List ℕ) → on_memory s (move_pair g p) m ≡ (moved_pair (at s g m) p, Ran)
unfolding moved_pair
move_pair_law s g (pair.RmByte o r) m = put_byte_done s g o (byte_reg g r) m
move_pair_law s g (pair.RmWord o r) m = put_word_done s g o (word_reg g r) m
move_pair_law s g (pair.ByteRm r o) m = byte_law s g o (λ (v : ℕ). Done (with_byte_reg g r v)) m
move_pair_law s g (pair.WordRm r o) m = word_law s g o (λ (v : ℕ). Done (with_word_reg g r v)) m

move_immediate_law : (s : State) (g : Registers) (i : Immediate) (m : List ℕ) → on_memory s (move_immediate g i) m ≡ (moved_immediate (at s g m) i, Ran)
unfolding moved_immediate
move_immediate_law s g (immediate.Byte o n) m = put_byte_done s g o n m
move_immediate_law s g (immediate.Word o n) m = put_word_done s g o n m

push_segment_law : (s : State) (g : Registers) (r : SegReg) (m : List ℕ) → on_memory s (push_segment g r) m ≡ (pushed (at s g m) (seg_reg (at s g m) r), Ran)
unfolding pushed store_word store_byte
push_segment_law s g seg.Es m = refl
push_segment_law s g seg.Cs m = refl
push_segment_law s g seg.Ss m = refl
push_segment_law s g seg.Ds m = refl

exchange_law : (s : State) (g : Registers) (o : WordOperand) (r : WordReg) (m : List ℕ) → on_memory s (exchange g o r) m ≡ (exchanged (at s g m) o r, Ran)
unfolding exchanged
exchange_law s g o r m =
    let v = word_value (at s g m) o in
    let last : Registers → Act = λ (h : Registers). Done (with_word_reg h r v) in
    let t = with_word (at s g m) o (word_reg g r) in
    word_law s g o (λ (x : ℕ). put_word g o (word_reg g r) (λ (h : Registers). Done (with_word_reg h r x))) m ∙ put_word_law s g o (word_reg g r) last m ∙ done_law s (with_registers t (with_word_reg t.registers r v)) (with_word-cs (at s g m) o (word_reg g r))

result_byte_law : (s : State) (p : AluOp) (g : Registers) (o : ByteOperand) (v : ℕ) (m : List ℕ) → on_memory s (put_result_byte p g o v) m ≡ (with_result_byte p (at s g m) o v, Ran)
unfolding with_result_byte
result_byte_law s op.Add g o v m = put_byte_done s g o v m
result_byte_law s op.Or g o v m = put_byte_done s g o v m
result_byte_law s op.Adc g o v m = put_byte_done s g o v m
result_byte_law s op.Sbb g o v m = put_byte_done s g o v m
result_byte_law s op.And g o v m = put_byte_done s g o v m
result_byte_law s op.Sub g o v m = put_byte_done s g o v m
result_byte_law s op.Xor g o v m = put_byte_done s g o v m
result_byte_law s op.Cmp g o v m = refl

result_word_law : (s : State) (p : AluOp) (g : Registers) (o : WordOperand) (v : ℕ) (m : List ℕ) → on_memory s (put_result_word p g o v) m ≡ (with_result_word p (at s g m) o v, Ran)
unfolding with_result_word
result_word_law s op.Add g o v m = put_word_done s g o v m
result_word_law s op.Or g o v m = put_word_done s g o v m
result_word_law s op.Adc g o v m = put_word_done s g o v m
result_word_law s op.Sbb g o v m = put_word_done s g o v m
result_word_law s op.And g o v m = put_word_done s g o v m
result_word_law s op.Sub g o v m = put_word_done s g o v m
result_word_law s op.Xor g o v m = put_word_done s g o v m
result_word_law s op.Cmp g o v m = refl

-- what follows the operand of an arithmetic operator
abbrev byte_result : Registers → AluOp → ByteOperand → ℕ → ℕ → Act
byte_result g p o y x = let out = alu_of p width.Byte x y g.carry in put_result_byte p (with_flags g width.Byte out) o out.value

abbrev word_result : Registers → AluOp → WordOperand → ℕ → ℕ → Act
word_result g p o y x = let out = alu_of p width.Word x y g.carry in put_result_word p (with_flags g width.Word out) o out.value

alu_byte_law : (s : State) (g : Registers) (p : AluOp) (o : ByteOperand) (y : ℕ) (m : List ℕ) → on_memory s (alu_byte g p o y) m ≡ (alu_on_byte (at s g m) p o y, Ran)
unfolding alu_on_byte
alu_byte_law s g p o y m =
    let out = alu_of p width.Byte (byte_value (at s g m) o) y g.carry in
    byte_law s g o (λ (x : ℕ). byte_result g p o y x) m ∙ result_byte_law s p (with_flags g width.Byte out) o out.value m

alu_word_law : (s : State) (g : Registers) (p : AluOp) (o : WordOperand) (y : ℕ) (m : List ℕ) → on_memory s (alu_word g p o y) m ≡ (alu_on_word (at s g m) p o y, Ran)
unfolding alu_on_word
alu_word_law s g p o y m =
    let out = alu_of p width.Word (word_value (at s g m) o) y g.carry in
    word_law s g o (λ (x : ℕ). word_result g p o y x) m ∙ result_word_law s p (with_flags g width.Word out) o out.value m

alu_pair_law : (s : State) (g : Registers) (p : AluOp) (q : Pair) (m : List ℕ) → on_memory s (alu_pair g p q) m ≡ (alu_on_pair (at s g m) p q, Ran)
unfolding alu_on_pair
alu_pair_law s g p (pair.RmByte o r) m = alu_byte_law s g p o (byte_reg g r) m
alu_pair_law s g p (pair.RmWord o r) m = alu_word_law s g p o (word_reg g r) m
alu_pair_law s g p (pair.ByteRm r o) m = byte_law s g o (λ (v : ℕ). alu_byte g p (byte_rm.Reg r) v) m ∙ alu_byte_law s g p (byte_rm.Reg r) (byte_value (at s g m) o) m
alu_pair_law s g p (pair.WordRm r o) m = word_law s g o (λ (v : ℕ). alu_word g p (word_rm.Reg r) v) m ∙ alu_word_law s g p (word_rm.Reg r) (word_value (at s g m) o) m

alu_immediate_law : (s : State) (g : Registers) (p : AluOp) (i : Immediate) (m : List ℕ) → on_memory s (alu_immediate g p i) m ≡ (alu_on_immediate (at s g m) p i, Ran)
unfolding alu_on_immediate
alu_immediate_law s g p (immediate.Byte o n) m = alu_byte_law s g p o n m
alu_immediate_law s g p (immediate.Word o n) m = alu_word_law s g p o n m

target_law : (s : State) (g : Registers) (t : Target) (next : ℕ → Act) (m : List ℕ) → on_memory s (target_then g t next) m ≡ on_memory s (next (target_value (at s g m) t)) m
unfolding target_then target_value
target_law s g (target.Byte o) next m = byte_law s g o next m
target_law s g (target.Word o) next m = word_law s g o next m

put_target_law : (s : State) (g : Registers) (t : Target) (v : ℕ) (m : List ℕ) → on_memory s (put_target g t v) m ≡ (with_target (at s g m) t v, Ran)
unfolding put_target with_target
put_target_law s g (target.Byte o) v m = put_byte_done s g o v m
put_target_law s g (target.Word o) v m = put_word_done s g o v m

-- a fault goes back to the state before
abbrev pub back_to : State → State × Event → State × Event
back_to s (t, Divide) = (s, Divide)
back_to s (t, Ran) = (t, Ran)
back_to s (t, Service n) = (t, Service n)
back_to s (t, Unknown cs i) = (t, Unknown cs i)

divide_cases : (s : State) (g h : Registers) (m : List ℕ) (a b : Bool) → on_memory s (if a then DivideFault else (if b then DivideFault else Done h)) m ≡ back_to s (if a then (at s g m, Divide) else (if b then (at s g m, Divide) else (at s h m, Ran)))
divide_cases s g h m true b = refl
divide_cases s g h m false true = refl
divide_cases s g h m false false = refl

unary_law : (s : State) (g : Registers) (p : UnaryOp) (t : Target) (v : ℕ) (m : List ℕ) → on_memory s (unary_of g p t v) m ≡ back_to s (unary_on (at s g m) p t v)
unfolding unary_on negated divided_by
unary_law s g unary.Not t v m = put_target_law s g t (size (width_of t) - 1 - v) m
unary_law s g unary.Neg t v m = let out = difference_of (width_of t) 0 v false in put_target_law s (with_flags g (width_of t) out) t out.value m
unary_law s g unary.Mul t v m = refl
unary_law s g unary.Imul t v m = refl
unary_law s g unary.Div t v m = divide_cases s g (with_halves g (width_of t) (dividend g (width_of t) % v) (dividend g (width_of t) / v)) m (v == 0) (nat_le (size (width_of t)) (dividend g (width_of t) / v))

-- a byte more at the end is a byte more at the beginning
moved_bytes-suc : (segment n : ℕ) (s : State) → moved_bytes segment n (moved_byte segment s) ≡ moved_byte segment (moved_bytes segment n s)
moved_bytes-suc segment zero s = refl
moved_bytes-suc segment (suc n) s = ap (moved_byte segment) (moved_bytes-suc segment n s)

moved_bytes-cs : (segment n : ℕ) (s : State) → (moved_bytes segment n s).cs ≡ s.cs
unfolding moved_byte
moved_bytes-cs segment zero s = refl
moved_bytes-cs segment (suc n) s = moved_bytes-cs segment n s

moved_law : (s : State) (segment n : ℕ) (g : Registers) (next : Registers → Act) (m : List ℕ) → on_memory s (moved_then segment n g next) m ≡ going_on s next (moved_bytes segment n (at s g m))
unfolding moved_byte store_byte load_byte
moved_law s segment zero g next m = refl
moved_law s segment (suc n) g next m =
    moved_law s segment n (indices_after g) next (store_byte m g.es g.di (load_byte m segment g.si)) ∙ ap (going_on s next) (moved_bytes-suc segment n (at s g m))

moved_from_law : (s : State) (g : Registers) (o : Option SegReg) (n : ℕ) (next : Registers → Act) (m : List ℕ) → on_memory s (moved g o n next) m ≡ going_on s next (moved_from (at s g m) o n)
unfolding moved_from
moved_from_law s g o n next m =
    in_segment_law s g g.ds o (λ (segment : ℕ). moved_then segment n g next) m ∙ moved_law s (chosen g s.cs g.ds o) n g next m

moved_from-cs : (s : State) (o : Option SegReg) (n : ℕ) → (moved_from s o n).cs ≡ s.cs
unfolding moved_from
moved_from-cs s o n = moved_bytes-cs (chosen s.registers s.cs s.registers.ds o) n s

pointer_law : (s : State) (g : Registers) (p : Memory) (next : ℕ → ℕ → Act) (m : List ℕ) → on_memory s (pointer_then g p next) m ≡ on_memory s (next (first_word (at s g m) p) (second_word (at s g m) p)) m
unfolding load_word load_byte
pointer_law s g p next m =
    in_segment_law s g (usual_segment g p.place) p.segment (λ (segment : ℕ). read_word segment (offset_of g p.place) (λ (first : ℕ). read_word segment ((offset_of g p.place + 2) % 65536) (λ (second : ℕ). next first second))) m

-- what follows the operand of a shift
abbrev shift_result : Registers → ShiftOp → ℕ → Target → ℕ → Act
shift_result g p n t v = shifted_target g p n t v

shift_cases : (s : State) (g : Registers) (p : ShiftOp) (n : ℕ) (t : Target) (m : List ℕ) (none : Bool) → on_memory s (if none then Done g else target_then g t (λ v. shifted_target g p n t v)) m ≡ (if none then at s g m else (let v = target_value (at s g m) t in shifted_to (at s g m) p n t v (shift_of p (width_of t) v g.carry n)), Ran)
unfolding shifted_to
shift_cases s g p n t m true = refl
shift_cases s g p n t m false =
    let v = target_value (at s g m) t in
    let out = shift_of p (width_of t) v g.carry n in
    target_law s g t (λ (x : ℕ). shift_result g p n t x) m ∙ put_target_law s (with_shift_flags g p (width_of t) n v out) t out.value m

shift_law : (s : State) (g : Registers) (p : ShiftOp) (n : ℕ) (t : Target) (m : List ℕ) → on_memory s (shifted g p n t) m ≡ (shifted_by (at s g m) p n t, Ran)
unfolding shifted_by
shift_law s g p n t m = shift_cases s g p n t m (n == 0)

call_law : (s : State) (g : Registers) (offset : ℕ) (m : List ℕ) → on_memory s (call_to g offset) m ≡ (called (at s g m) offset, Ran)
unfolding called pushed store_word store_byte
call_law s g offset m = refl

-- an instruction's tree over memory is its effect on the state
pub tree_law : (s : State) (g : Registers) (i : Instr) → on_memory s (act g i) s.memory ≡ back_to s (direct (with_registers s g) i)
unfolding act direct pushed_register pushed popped_register popped_segment called_far returned returned_far store_word store_byte load_word load_byte
tree_law s g (instr.Mov p) = move_pair_law s g p s.memory
tree_law s g (instr.MovImmediate i) = move_immediate_law s g i s.memory
tree_law s g (instr.MovByte r n) = refl
tree_law s g (instr.MovWord r n) = refl
tree_law s g (instr.MovFromSeg o r) = seg_reg_law s g r (λ (v : ℕ). put_word g o v Done) s.memory ∙ put_word_done s g o (seg_reg (with_registers s g) r) s.memory
tree_law s g (instr.MovToSeg r o) = word_law s g o (λ (v : ℕ). Done (with_data_seg g r v)) s.memory
tree_law s g (instr.Push r) = refl
tree_law s g (instr.Pop r) = refl
tree_law s g (instr.PushSeg r) = push_segment_law s g r s.memory
tree_law s g (instr.PopSeg r) = refl
tree_law s g (instr.Alu p q) = alu_pair_law s g p q s.memory
tree_law s g (instr.AluImmediate p i) = alu_immediate_law s g p i s.memory
tree_law s g (instr.AluShort p o n) = alu_word_law s g (alu_op p) o (sign_extend n) s.memory
tree_law s g (instr.Unary p t) = target_law s g t (λ (v : ℕ). unary_of g p t v) s.memory ∙ unary_law s g p t (target_value (with_registers s g) t) s.memory
tree_law s g (instr.Inc r) = refl
tree_law s g (instr.Dec r) = refl
tree_law s g (instr.Shift p c t) = shift_law s g p (count_of g c) t s.memory
tree_law s g instr.Cbw = refl
tree_law s g instr.Cwd = refl
tree_law s g (instr.Lea r m) = refl
tree_law s g (instr.Les r m) = pointer_law s g m (λ (first second : ℕ). Done (with_word_reg (record g { es = second }) r first)) s.memory
tree_law s g (instr.Lds r m) = pointer_law s g m (λ (first second : ℕ). Done (with_word_reg (record g { ds = second }) r first)) s.memory
tree_law s g (instr.Xchg o r) = exchange_law s g o r s.memory
tree_law s g (instr.JumpShort c d) = refl
tree_law s g (instr.JumpNear d) = refl
tree_law s g (instr.JumpFar offset segment) = refl
tree_law s g (instr.CallNear d) = call_law s g ((g.ip + d) % 65536) s.memory
tree_law s g (instr.CallFar offset segment) = refl
tree_law s g (instr.CallIndirect o) = word_law s g o (λ (v : ℕ). call_to g v) s.memory ∙ call_law s g (word_value (with_registers s g) o) s.memory
tree_law s g (instr.CallFarIndirect m) = pointer_law s g m (λ (first second : ℕ). FarCall g second first) s.memory
tree_law s g instr.Ret = refl
tree_law s g (instr.RetDrop n) = refl
tree_law s g instr.RetFar = refl
tree_law s g (instr.RetFarDrop n) = refl
tree_law s g (instr.Int n) = refl
tree_law s g instr.Cld = refl
tree_law s g (instr.Movsb o) =
    let t = moved_from (with_registers s g) o 1 in
    moved_from_law s g o 1 Done s.memory ∙ done_law s t (moved_from-cs (with_registers s g) o 1)
tree_law s g (instr.RepMovsb o) =
    let t = moved_from (with_registers s g) o g.cx in
    moved_from_law s g o g.cx (λ (h : Registers). Done (record h { cx = 0 })) s.memory ∙ done_law s (counted_out t) (moved_from-cs (with_registers s g) o g.cx)

-- a division that faults changes nothing
divided_unchanged : (s : State) (w : Width) (v : ℕ) → (divided_by s w v).1 ≡ Divide → (divided_by s w v).0 ≡ s
unfolding divided_by
divided_unchanged s w v e = grind arith

unary_unchanged : (s : State) (p : UnaryOp) (t : Target) (v : ℕ) → (unary_on s p t v).1 ≡ Divide → (unary_on s p t v).0 ≡ s
unfolding unary_on
unary_unchanged s p t v e = grind (arith, divided_unchanged)

direct_unchanged : (s : State) (i : Instr) → (direct s i).1 ≡ Divide → (direct s i).0 ≡ s
unfolding direct
direct_unchanged s i e = grind (arith, unary_unchanged)

-- with IP as it was that is the state before
settles : (s : State) (g : Registers) (ip : ℕ) (t : State) (event : Event) → at_offset g ip ≡ s.registers → (event ≡ Divide → t ≡ with_registers s g) → settled ip (t, event) ≡ back_to s (t, event)
settles s g ip t Ran same unchanged = refl
settles s g ip t (Service n) same unchanged = refl
settles s g ip t (Unknown cs i) same unchanged = refl
settles s g ip t Divide same unchanged =
    let e = unchanged refl in
    ap (λ (x : State). let y : State × Event = (with_registers x (at_offset x.registers ip), Divide) in y) e ∙ ap (λ (h : Registers). let y : State × Event = (with_registers s h, Divide) in y) same

-- the effect of an instruction is what the code does
pub effect_direct : (s : State) (i : Instr) → effect s i ≡ settled s.registers.ip (direct (with_registers s (past i s.registers)) i)
unfolding effect
effect_direct s i =
    let g = past i s.registers in
    let t = direct (with_registers s g) i in
    tree_law s g i ∙ sym (settles s g s.registers.ip t.0 t.1 refl (direct_unchanged (with_registers s g) i))
