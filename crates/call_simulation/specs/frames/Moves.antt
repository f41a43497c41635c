-- What the first lines of a routine come to, and the last ones.
use Rattle.std.specs.Prelude.{◌≡◌, ℕ, ◌+◌, ◌*◌, ◌≤◌, IsTrue, List}
use Rattle.flat_code.specs.Program.{Routine}
use Rattle.flat_code.specs.Calls.{State, with_cells, closed}
use Rattle.resident_machine.specs.Cells.{is_free}
use Rattle.resident_machine.specs.State.{ResidentState}
use Rattle.resident_machine.specs.machine_lines.Steps.{Leads}
use Rattle.resident_machine.specs.machine_lines.Straight.{IsAt, StaysFree}
use Rattle.statement_simulation.specs.flow.Sites.{World, Site, Live, Represents}
use Rattle.call_simulation.specs.frames.Callee.{Back, saved_at, IsPairedAt, HoldsResult}

-- At most n events lead to an offset of the code, where the machine stands for the activation that begins.
pub record Started (w : World) (site : Site) (inner : Live) (n ip : ℕ) (s : State) (t : ResidentState) : Type 0 where
  pub count : ℕ
  pub few : count ≤ n
  pub end : ResidentState
  pub leads : Leads w.machine w.framed count t end
  pub here : IsAt site.segment ip end
  pub stands : Represents w inner s end
  pub free : StaysFree t.cells end.cells
  pub input : end.input ≡ t.input

-- At most n events lead back to the caller: the machine stands for it, what the activation had of the stack can't be reached, and the result's bytes lie in registers. The bytes of a far return address are free again.
pub record Returned (w : World) (live : Live) (r : Routine) (back : Back) (n : ℕ) (u : State) (t : ResidentState) (bytes : List ℕ) : Type 0 where
  pub count : ℕ
  pub few : count ≤ n
  pub end : ResidentState
  pub leads : Leads w.machine w.framed count t end
  pub here : IsAt back.segment back.offset end
  pub stands : Represents w live (with_cells u (closed w.choice r live.frame u.cells)) end
  pub holds : HoldsResult bytes end.registers
  pub freed : (place : ℕ) → ((IsPairedAt r.far (16 * w.choice.stack_segment + saved_at r live.frame + 2) place → ⊥) → IsTrue (is_free (t.cells place))) → IsTrue (is_free (end.cells place))
  pub input : end.input ≡ t.input
