-- Straight lines of instructions: what they ask of the bytes that they touch, and the registers and bytes that they leave, both computed.
use Rattle.std.specs.Prelude.{◌≡◌, ◌≢◌, ℕ, ◌+◌, ◌/◌, ◌%◌, ◌<◌, Bool, true, false, IsTrue, ◌&&◌, List, [], ◌∷◌, Some}
use Rattle.x86_table.specs.declared.instr.Instr.{Instr}
use Rattle.x86_table.specs.declared.instr.Instr.TheVariants as instr
use Rattle.x86_table.specs.declared.instr.Target.TheVariants as target
use Rattle.x86_table.specs.declared.instr.UnaryOp.{UnaryOp}
use Rattle.x86_table.specs.declared.instr.UnaryOp.TheVariants as unary
use Rattle.x86_table.specs.declared.line.Line.{Line}
use Rattle.x86_table.specs.declared.line.Line.TheVariants.{One}
use Rattle.x86_table.specs.declared.operand.SegReg.TheVariants as seg
use Rattle.x86_table.specs.declared.operand.DataSeg.TheVariants as data_seg
use Rattle.x86_table.specs.declared.operand.WordOperand.TheVariants as word_rm
use Rattle.x86_table.specs.declared.operand.WordReg.TheVariants as word
use Rattle.cpu_8086.specs.declared.registers.Registers.{Registers}
use Rattle.cpu_8086.specs.Accessors.{zero_registers}
use Rattle.cpu_8086.specs.Access.{Act, Done, Read, Write, Copy, at_offset}
use Rattle.cpu_8086.specs.Effect.{act}
use Rattle.resident_machine.specs.Cells.{Cell, Known, Cells, with_cell, is_free}
use Rattle.resident_machine.specs.Effect.{with_memory}
use Rattle.resident_machine.specs.Program.{Segment, Program, code_of}
use Rattle.resident_machine.specs.State.{ResidentState, Running}
use Rattle.resident_machine.specs.machine_lines.Steps.{number_in, IsAbove, Leads}

-- an instruction that only goes on: it jumps nowhere, can't fault, and leaves CS and SS alone
abbrev pub is_plain_unary : UnaryOp → Bool
is_plain_unary unary.Div = false
is_plain_unary _ = true

abbrev pub is_plain : Instr → Bool
is_plain (instr.Mov p) = true
is_plain (instr.MovImmediate i) = true
is_plain (instr.MovByte r n) = true
is_plain (instr.MovWord r n) = true
is_plain (instr.MovFromSeg o seg.Cs) = false
is_plain (instr.MovFromSeg o s) = true
is_plain (instr.MovToSeg data_seg.Ss o) = false
is_plain (instr.MovToSeg s o) = true
is_plain (instr.Push r) = true
is_plain (instr.Pop r) = true
is_plain (instr.PushSeg seg.Cs) = false
is_plain (instr.PushSeg s) = true
is_plain (instr.PopSeg data_seg.Ss) = false
is_plain (instr.PopSeg s) = true
is_plain (instr.Alu op p) = true
is_plain (instr.AluImmediate op i) = true
is_plain (instr.AluShort op o n) = true
is_plain (instr.Unary op t) = is_plain_unary op
is_plain (instr.Inc r) = true
is_plain (instr.Dec r) = true
is_plain (instr.Shift op n t) = true
is_plain instr.Cbw = true
is_plain instr.Cwd = true
is_plain (instr.Lea r m) = true
is_plain (instr.Les r m) = true
is_plain (instr.Lds r m) = true
is_plain (instr.Xchg o r) = true
is_plain instr.Cld = true
is_plain _ = false

abbrev pub all_plain : List Instr → Bool
all_plain [] = true
all_plain (i ∷ is) = is_plain i && all_plain is

abbrev pub ones : List Instr → List Line
ones [] = []
ones (i ∷ is) = One i ∷ ones is

-- ## What a tree leaves, where each byte that it reads is known

abbrev pub registers_after : Act → Cells → Registers
registers_after (Done g) c = g
registers_after (Read place next) c = registers_after (next (number_in (c place))) c
registers_after (Write place value next) c = registers_after next (with_cell c place (Known value))
registers_after (Copy from to next) c = registers_after next (with_cell c to (c from))
registers_after _ c = zero_registers

abbrev pub cells_after : Act → Cells → Cells
cells_after (Done g) c = c
cells_after (Read place next) c = cells_after (next (number_in (c place))) c
cells_after (Write place value next) c = cells_after next (with_cell c place (Known value))
cells_after (Copy from to next) c = cells_after next (with_cell c to (c from))
cells_after _ c = c

-- ## What a tree asks for

abbrev pub IsKnown : Cell → Type 0
IsKnown cell = (v : ℕ) × (cell ≡ Known v)

-- A byte may be written where it is free and not the installed flag.
pub record MayWrite (c : Cells) (flag place : ℕ) : Type 0 where
  pub free : IsTrue (is_free (c place))
  pub apart : place ≢ flag

-- Each byte that is read is known and none of the 64 below SP; each one that is written may be, as the bytes were at the start, and one that is moved was free. What follows asks its part.
abbrev pub Asks : Cells → ℕ → ℕ → ℕ → Act → Cells → (Registers → Cells → Type 0) → Type 0
Asks start flag segment offset (Done g) c rest = rest g c
Asks start flag segment offset (Read place next) c rest =
    IsKnown (c place) × IsAbove segment offset place × Asks start flag segment offset (next (number_in (c place))) c rest
Asks start flag segment offset (Write place value next) c rest =
    MayWrite start flag place × Asks start flag segment offset next (with_cell c place (Known value)) rest
Asks start flag segment offset (Copy from to next) c rest =
    IsTrue (is_free (start from)) × IsAbove segment offset from × MayWrite start flag to × Asks start flag segment offset next (with_cell c to (c from)) rest
Asks start flag segment offset _ c rest = ⊥

-- ## Instructions one after another, the first of them line k

-- the tree of an instruction that ends where line k begins
abbrev pub tree : (ℕ → ℕ) → ℕ → Instr → Registers → Act
tree at k i g = act (at_offset g (at k)) i

abbrev pub AskAll : Cells → ℕ → (ℕ → ℕ) → ℕ → List Instr → Registers → Cells → Type 0
AskAll start flag at k [] g c = Unit {0}
AskAll start flag at k (i ∷ is) g c = Asks start flag g.ss g.sp (tree at (k + 1) i g) c (λ h d. AskAll start flag at (k + 1) is h d)

abbrev pub registers_past : (ℕ → ℕ) → ℕ → List Instr → Registers → Cells → Registers
registers_past at k [] g c = g
registers_past at k (i ∷ is) g c = registers_past at (k + 1) is (registers_after (tree at (k + 1) i g) c) (cells_after (tree at (k + 1) i g) c)

abbrev pub cells_past : (ℕ → ℕ) → ℕ → List Instr → Registers → Cells → Cells
cells_past at k [] g c = c
cells_past at k (i ∷ is) g c = cells_past at (k + 1) is (registers_after (tree at (k + 1) i g) c) (cells_after (tree at (k + 1) i g) c)

-- ## Where code stands, and what its lines come to

-- CS names this code, and each of its lines has an offset in it.
pub record Placed (p : Program) (cs : Segment) (code : List ℕ) (at : ℕ → ℕ) : Type 0 where
  pub named : code_of p cs ≡ Some code
  pub fits : (k : ℕ) → at k < 65536

-- The state runs, and stands at this offset of this code with no half of a return pair.
pub record IsAt (cs : Segment) (ip : ℕ) (r : ResidentState) : Type 0 where
  pub running : r.status ≡ Running
  pub half : r.half ≡ false
  pub segment : r.cs ≡ cs
  pub offset : r.registers.ip ≡ ip

-- What was free is free.
abbrev pub StaysFree : Cells → Cells → Type 0
StaysFree c d = (place : ℕ) → IsTrue (is_free (c place)) → IsTrue (is_free (d place))

-- So many events lead to the line at this offset, with these registers and bytes.
pub record Carried (p : Program) (framed : Bool) (cs : Segment) (n ip : ℕ) (r : ResidentState) (g : Registers) (c : Cells) : Type 0 where
  pub leads : Leads p framed n r (with_memory r g c)
  pub here : IsAt cs ip (with_memory r g c)
  pub ss : g.ss ≡ r.registers.ss
  pub flag : c p.installed ≡ r.cells p.installed
  pub free : StaysFree r.cells c

-- ## A division

abbrev pub div_cx : Instr
div_cx = instr.Unary unary.Div (target.Word (word_rm.Reg word.Cx))

-- what is left of dividing AX
abbrev pub quotient : Registers → ℕ → Registers
quotient g divisor = record g { ax = g.ax / divisor; dx = g.ax % divisor }

-- ## Jumps

abbrev pub moved_to : ResidentState → ℕ → ResidentState
moved_to r ip = record r { registers = at_offset r.registers ip }

-- One event leads to the line at this offset, and changes nothing else.
pub record Jumps (p : Program) (framed : Bool) (cs : Segment) (ip : ℕ) (r : ResidentState) : Type 0 where
  pub leads : Leads p framed 1 r (moved_to r ip)
  pub here : IsAt cs ip (moved_to r ip)
