-- What the code of a store comes to.
use Rattle.std.specs.Prelude.{◌≡◌, ℕ, ◌≤◌, Bool, [], ◌∷◌, Ok, Err}
use Rattle.common_values.specs.integers.Words.{low_byte}
use Rattle.flat_code.specs.declared.memory.Cell.TheVariants as flat
use Rattle.flat_code.specs.declared.memory.Place.{Place}
use Rattle.flat_code.specs.declared.memory.Trap.TheVariants.{ByZero, Bad}
use Rattle.flat_code.specs.Memory as flat_memory
use Rattle.flat_code.specs.declared.tree.Address.{Address}
use Rattle.flat_code.specs.Calls.{stored_at}
use Rattle.flat_code.specs.Memory.{Found, ◌>>=◌, word_bytes}
use Rattle.flat_code.specs.Program.{Choice}
use Rattle.flat_code.specs.Tree.{Expr}
use Rattle.flat_code.specs.Values.{Frame, value_of}
use Rattle.cpu_8086.specs.declared.registers.Registers.{Registers}
use Rattle.resident_machine.specs.Cells.{Cells}
use Rattle.resident_machine.specs.Effect.{with_memory}
use Rattle.resident_machine.specs.Program.{Segment, Program}
use Rattle.resident_machine.specs.State.{ResidentState}
use Rattle.resident_machine.specs.machine_lines.Steps.{Leads}
use Rattle.resident_machine.specs.machine_lines.Straight.{IsAt, StaysFree}
use Rattle.statement_simulation.specs.expressions.Active.{Active, IsKept}
use Rattle.statement_simulation.specs.expressions.Evaluates.{Fails}

-- the cells after the word, or the low byte, of an expression's value was stored at a place
abbrev pub word_stored : Choice → Frame → flat_memory.Cells → Address → Expr → Found flat_memory.Cells
word_stored choice f m to e = value_of choice f m e >>= λ v. stored_at choice f m to (word_bytes v)

abbrev pub byte_stored : Choice → Frame → flat_memory.Cells → Address → Expr → Found flat_memory.Cells
byte_stored choice f m to e = value_of choice f m e >>= λ v. stored_at choice f m to (low_byte v ∷ [])

-- At most n events lead to the line at this offset, where the machine stands for the activation with cells m2 in place of m1. Nothing else is changed but the stack below SP: the frame's registers are as they were, and so is each byte that flat code can't reach.
pub record Stores (p : Program) (framed : Bool) (cs : Segment) (n ip : ℕ) (choice : Choice) (f : Frame) (m1 m2 : flat_memory.Cells) (r : ResidentState) : Type 0 where
  pub count : ℕ
  pub few : count ≤ n
  pub registers : Registers
  pub cells : Cells
  pub leads : Leads p framed count r (with_memory r registers cells)
  pub here : IsAt cs ip (with_memory r registers cells)
  pub active : Active p.installed choice f m2 registers cells
  pub sp : registers.sp ≡ r.registers.sp
  pub direction : registers.direction ≡ r.registers.direction
  pub outside : (place : ℕ) → m1 place ≡ flat.Outside → IsKept r.registers place → cells place ≡ r.cells place
  pub free : StaysFree r.cells cells

-- The cells are stored; or a division by 0 comes to error 200; of what flat code leaves undefined nothing is said.
abbrev pub Follows : Program → Bool → Segment → Place → ℕ → ℕ → Choice → Frame → flat_memory.Cells → ResidentState → Found flat_memory.Cells → Type 0
Follows p framed cs error n ip choice f m r (Ok m2) = Stores p framed cs n ip choice f m m2 r
Follows p framed cs error n ip choice f m r (Err ByZero) = Fails p framed error n r 200
Follows p framed cs error n ip choice f m r (Err (Bad _)) = Unit {0}
