-- What the code of an expression comes to.
use Rattle.std.specs.Prelude.{◌≡◌, ℕ, ◌≤◌, ◌<◌, Bool, List, Ok, Err, Some}
use Rattle.flat_code.specs.declared.memory.Place.{Place}
use Rattle.flat_code.specs.declared.memory.Trap.TheVariants.{ByZero, Bad}
use Rattle.flat_code.specs.Memory.{Found}
use Rattle.flat_code.specs.Tree.{Expr, Number, Byte, Word, AddressOf, SegmentOf, VmtOf, Op}
use Rattle.cpu_8086.specs.declared.registers.Registers.{Registers}
use Rattle.cpu_8086.specs.Access.{at_offset}
use Rattle.resident_machine.specs.Cells.{Cells}
use Rattle.resident_machine.specs.Effect.{with_memory}
use Rattle.resident_machine.specs.Program.{Segment, Image, Program}
use Rattle.resident_machine.specs.State.{ResidentState}
use Rattle.resident_machine.specs.machine_lines.Steps.{Leads}
use Rattle.resident_machine.specs.machine_lines.Straight.{IsAt, StaysFree}
use Rattle.statement_simulation.specs.expressions.Active.{IsKept, Keeps}

-- the numbers of an expression are words
abbrev pub HasWords : Expr → Type 0
HasWords (Number n) = n < 65536
HasWords (Byte at) = Unit {0}
HasWords (Word at) = Unit {0}
HasWords (AddressOf at) = Unit {0}
HasWords (SegmentOf at) = Unit {0}
HasWords (VmtOf unit number) = Unit {0}
HasWords (Op op a b) = HasWords a × HasWords b

-- At most n events lead to the line at this offset, with a word in AX; the frame and what can be reached are as before.
pub record Gives (p : Program) (framed : Bool) (cs : Segment) (n ip : ℕ) (r : ResidentState) (v : ℕ) : Type 0 where
  pub count : ℕ
  pub few : count ≤ n
  pub registers : Registers
  pub cells : Cells
  pub leads : Leads p framed count r (with_memory r registers cells)
  pub here : IsAt cs ip (with_memory r registers cells)
  pub ax : registers.ax ≡ v
  pub word : v < 65536
  pub keeps : Keeps r.registers r.cells registers cells

-- the segment names code
abbrev pub IsCode : Program → Place → Type 0
IsCode p to = (code : List ℕ) × (p.image to.segment ≡ Some code)

-- the state that enters a routine by a far jump
abbrev pub entering : ResidentState → Registers → Cells → Place → ResidentState
entering r g c to = record r { registers = at_offset g to.offset; cs = Image to.segment; cells = c }

-- At most n events lead to the error routine, with this code in AX, room on the stack, and what can be reached as before.
pub record Fails (p : Program) (framed : Bool) (to : Place) (n : ℕ) (r : ResidentState) (code : ℕ) : Type 0 where
  pub count : ℕ
  pub few : count ≤ n
  pub registers : Registers
  pub cells : Cells
  pub leads : Leads p framed count r (entering r registers cells to)
  pub ax : registers.ax ≡ code
  pub room : 64 ≤ registers.sp
  pub lower : registers.sp ≤ r.registers.sp
  pub ss : registers.ss ≡ r.registers.ss
  pub ds : registers.ds ≡ r.registers.ds
  pub direction : registers.direction ≡ r.registers.direction
  pub bytes : (place : ℕ) → IsKept r.registers place → cells place ≡ r.cells place
  pub free : StaysFree r.cells cells

-- A value comes to AX; a division by 0 to error 200; of what flat code leaves undefined nothing is said.
abbrev pub Evaluates : Program → Bool → Segment → Place → ℕ → ℕ → ResidentState → Found ℕ → Type 0
Evaluates p framed cs error n ip r (Ok v) = Gives p framed cs n ip r v
Evaluates p framed cs error n ip r (Err ByZero) = Fails p framed error n r 200
Evaluates p framed cs error n ip r (Err (Bad _)) = Unit {0}
