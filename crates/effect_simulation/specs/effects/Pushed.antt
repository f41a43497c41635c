-- What the code of arguments comes to.
use Rattle.std.specs.Prelude.{◌≡◌, ℕ, ◌+◌, ◌-◌, ◌*◌, ◌≤◌, ◌<◌, Bool, List, [], ◌∷◌, length, Ok, Err}
use Rattle.flat_code.specs.declared.memory.Place.{Place}
use Rattle.flat_code.specs.declared.memory.Trap.TheVariants.{ByZero, Bad}
use Rattle.flat_code.specs.Memory.{Found}
use Rattle.cpu_8086.specs.declared.registers.Registers.{Registers}
use Rattle.resident_machine.specs.Cells.{Cells}
use Rattle.resident_machine.specs.Effect.{with_memory}
use Rattle.resident_machine.specs.Program.{Segment, Program}
use Rattle.resident_machine.specs.State.{ResidentState}
use Rattle.resident_machine.specs.machine_lines.Steps.{Leads}
use Rattle.resident_machine.specs.machine_lines.Straight.{IsAt, StaysFree}
use Rattle.resident_machine.specs.machine_lines.Words.{HoldsWord}
use Rattle.statement_simulation.specs.expressions.Active.{IsKept}
use Rattle.statement_simulation.specs.expressions.Evaluates.{HasWords, Fails}
use Rattle.flat_code.specs.Tree.{Expr}

-- the numbers of arguments are words
abbrev pub AllHaveWords : List Expr → Type 0
AllHaveWords [] = Unit {0}
AllHaveWords (e ∷ es) = HasWords e × AllHaveWords es

-- words stand one below the other from an offset down
abbrev pub HoldsWords : Cells → ℕ → ℕ → List ℕ → Type 0
HoldsWords c segment sp [] = Unit {0}
HoldsWords c segment sp (v ∷ vs) = HoldsWord c segment (sp - 2) v × (v < 65536) × HoldsWords c segment (sp - 2) vs

-- At most n events lead to the line at this offset, with the words pushed; the rest of the frame and what can be reached are as before.
pub record Pushes (p : Program) (framed : Bool) (cs : Segment) (n ip : ℕ) (r : ResidentState) (vs : List ℕ) : Type 0 where
  pub count : ℕ
  pub few : count ≤ n
  pub registers : Registers
  pub cells : Cells
  pub leads : Leads p framed count r (with_memory r registers cells)
  pub here : IsAt cs ip (with_memory r registers cells)
  pub words : HoldsWords cells r.registers.ss r.registers.sp vs
  pub sp : registers.sp + 2 * length vs ≡ r.registers.sp
  pub bp : registers.bp ≡ r.registers.bp
  pub ss : registers.ss ≡ r.registers.ss
  pub ds : registers.ds ≡ r.registers.ds
  pub direction : registers.direction ≡ r.registers.direction
  pub bytes : (place : ℕ) → IsKept r.registers place → cells place ≡ r.cells place
  pub free : StaysFree r.cells cells

-- The values are pushed in order; a division by 0 comes to error 200; of what flat code leaves undefined nothing is said.
abbrev pub PushesAll : Program → Bool → Segment → Place → ℕ → ℕ → ResidentState → Found (List ℕ) → Type 0
PushesAll p framed cs error n ip r (Ok vs) = Pushes p framed cs n ip r vs
PushesAll p framed cs error n ip r (Err ByZero) = Fails p framed error n r 200
PushesAll p framed cs error n ip r (Err (Bad _)) = Unit {0}
