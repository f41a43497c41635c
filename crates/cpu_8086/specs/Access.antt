-- What an instruction does to memory, as a tree of accesses, and such a tree run over the machine's memory.
--
-- The same trees can be run over a memory in which only some bytes are known: whatever is proved by induction on
-- trees then holds of each instruction.
use Rattle.std.specs.Prelude.{ℕ, ◌+◌, ◌%◌, List, slice_index, slice_set, Option, Some, None}
use Rattle.x86_table.specs.declared.operand.SegReg.{SegReg}
use Rattle.x86_table.specs.declared.operand.SegReg.TheVariants as seg
use Rattle.x86_table.specs.declared.operand.ByteOperand.{ByteOperand}
use Rattle.x86_table.specs.declared.operand.ByteOperand.TheVariants as byte_rm
use Rattle.x86_table.specs.declared.operand.WordOperand.{WordOperand}
use Rattle.x86_table.specs.declared.operand.WordOperand.TheVariants as word_rm
use Rattle.x86_table.specs.declared.operand.Memory.{Memory}
use Rattle.cpu_8086.specs.declared.machine.Event.{Event}
use Rattle.cpu_8086.specs.declared.machine.Event.TheVariants.{Ran, Service, Divide}
use Rattle.cpu_8086.specs.declared.registers.Registers.{Registers}
use Rattle.cpu_8086.specs.State.{State}
use Rattle.cpu_8086.specs.Memory.{address, next_offset, word_of, low_byte, high_byte, load_word, store_word}
use Rattle.cpu_8086.specs.Operand.{word_reg, with_word_reg, byte_reg, with_byte_reg, offset_of, usual_segment}

-- Places are linear addresses. Copy moves a byte from one place to another, whatever it is.
pub data Act : Type 0 where
  Done : Registers → Act
  Read : (place : ℕ) (next : ℕ → Act) → Act
  Write : (place value : ℕ) (next : Act) → Act
  Copy : (from to : ℕ) (next : Act) → Act
  ReadCodeSegment : (next : ℕ → Act) → Act
  FarCall : (registers : Registers) (segment offset : ℕ) → Act
  FarReturn : (registers : Registers) (dropped : ℕ) → Act
  FarJump : (registers : Registers) (segment offset : ℕ) → Act
  PushCodeSegment : (registers : Registers) → Act
  Interrupt : (registers : Registers) (number : ℕ) → Act
  DivideFault : Act

-- SP after n bytes were dropped, and after a word was pushed
abbrev pub raised : Registers → ℕ → Registers
raised g n = record g { sp = (g.sp + n) % 65536 }

abbrev pub lowered : Registers → Registers
lowered g = record g { sp = (g.sp + 65534) % 65536 }

abbrev pub at_offset : Registers → ℕ → Registers
at_offset g offset = record g { ip = offset }

-- the memory with a word at SS:SP
abbrev pub with_top : Registers → List ℕ → ℕ → List ℕ
with_top g memory v = store_word memory g.ss g.sp v

-- CS is pushed, then IP
abbrev pub far_called : Registers → ℕ → List ℕ → ℕ → ℕ → State
far_called g cs memory segment offset = record {
  registers = at_offset (lowered (lowered g)) offset;
  cs = segment;
  memory = with_top (lowered (lowered g)) (with_top (lowered g) memory cs) g.ip;
}

-- IP is popped, then CS, and n bytes are dropped
abbrev pub far_returned : Registers → List ℕ → ℕ → State
far_returned g memory n = record {
  registers = at_offset (raised g (4 + n)) (load_word memory g.ss g.sp);
  cs = load_word memory g.ss ((g.sp + 2) % 65536);
  memory = memory;
}

-- The state that a tree leaves, and its event: s is the state before the instruction, to which a fault goes back.
abbrev pub on_memory : State → Act → List ℕ → State × Event
on_memory s (Done g) m = (record { registers = g; cs = s.cs; memory = m }, Ran)
on_memory s (Read place next) m = on_memory s (next (slice_index m place)) m
on_memory s (Write place value next) m = on_memory s next (slice_set m place value)
on_memory s (Copy from to next) m = on_memory s next (slice_set m to (slice_index m from))
on_memory s (ReadCodeSegment next) m = on_memory s (next s.cs) m
on_memory s (FarCall g segment offset) m = (far_called g s.cs m segment offset, Ran)
on_memory s (FarReturn g dropped) m = (far_returned g m dropped, Ran)
on_memory s (FarJump g segment offset) m = (record { registers = at_offset g offset; cs = segment; memory = m }, Ran)
on_memory s (PushCodeSegment g) m = (record { registers = lowered g; cs = s.cs; memory = with_top (lowered g) m s.cs }, Ran)
on_memory s (Interrupt g number) m = (record { registers = g; cs = s.cs; memory = m }, Service number)
on_memory s DivideFault m = (s, Divide)

-- words at a segment and an offset
abbrev pub read_word : ℕ → ℕ → (ℕ → Act) → Act
read_word segment offset next =
    Read (address segment offset) (λ low. Read (address segment (next_offset offset)) (λ high. next (word_of low high)))

abbrev pub write_word : ℕ → ℕ → ℕ → Act → Act
write_word segment offset v next =
    Write (address segment offset) (low_byte v) (Write (address segment (next_offset offset)) (high_byte v) next)

-- a segment by its override, or the usual one
unfoldable pub in_segment : Registers → ℕ → Option SegReg → (ℕ → Act) → Act
in_segment g usual None next = next usual
in_segment g usual (Some seg.Es) next = next g.es
in_segment g usual (Some seg.Cs) next = ReadCodeSegment next
in_segment g usual (Some seg.Ss) next = next g.ss
in_segment g usual (Some seg.Ds) next = next g.ds

-- the segment of a memory operand
abbrev pub segment_then : Registers → Memory → (ℕ → Act) → Act
segment_then g m next = in_segment g (usual_segment g m.place) m.segment next

-- what an operand holds
unfoldable pub byte_then : Registers → ByteOperand → (ℕ → Act) → Act
byte_then g (byte_rm.Reg r) next = next (byte_reg g r)
byte_then g (byte_rm.Mem m) next = segment_then g m (λ segment. Read (address segment (offset_of g m.place)) next)

unfoldable pub word_then : Registers → WordOperand → (ℕ → Act) → Act
word_then g (word_rm.Reg r) next = next (word_reg g r)
word_then g (word_rm.Mem m) next = segment_then g m (λ segment. read_word segment (offset_of g m.place) next)

-- an operand is given a value; the registers are then these
unfoldable pub put_byte : Registers → ByteOperand → ℕ → (Registers → Act) → Act
put_byte g (byte_rm.Reg r) v next = next (with_byte_reg g r v)
put_byte g (byte_rm.Mem m) v next = segment_then g m (λ segment. Write (address segment (offset_of g m.place)) v (next g))

unfoldable pub put_word : Registers → WordOperand → ℕ → (Registers → Act) → Act
put_word g (word_rm.Reg r) v next = next (with_word_reg g r v)
put_word g (word_rm.Mem m) v next = segment_then g m (λ segment. write_word segment (offset_of g m.place) v (next g))

-- a word is pushed: SP goes down by 2 first
abbrev pub push_then : Registers → ℕ → (Registers → Act) → Act
push_then g v next = write_word (lowered g).ss (lowered g).sp v (next (lowered g))

-- the word at the top of the stack
abbrev pub top_then : Registers → (ℕ → Act) → Act
top_then g next = read_word g.ss g.sp next

-- two words of memory, the lower one first
abbrev pub pointer_then : Registers → Memory → (ℕ → ℕ → Act) → Act
pointer_then g m next =
    segment_then g m (λ segment.
    read_word segment (offset_of g m.place) (λ first.
    read_word segment ((offset_of g m.place + 2) % 65536) (λ second. next first second)))
