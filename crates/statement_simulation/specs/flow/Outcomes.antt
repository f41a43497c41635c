-- What a piece of code comes to on the machine, by what flat code comes to.
use Rattle.std.specs.Prelude.{◌≡◌, ℕ, ◌+◌, ◌*◌, ◌%◌, ◌≤◌, ◌<◌, false, ◌++◌, length, drop, slice_index_or, Some}
use Rattle.common_values.specs.behaviour.Seen.{Standing, Ended, Going, Undefined, Stopped}
use Rattle.flat_code.specs.declared.memory.Place.{Place}
use Rattle.flat_code.specs.Calls.{State, Outcome, Next, Left, Returned, Over, error_text}
use Rattle.resident_machine.specs.Cells.{Known}
use Rattle.resident_machine.specs.Program.{Image}
use Rattle.resident_machine.specs.State as resident
use Rattle.resident_machine.specs.State.{ResidentState, ResidentStatus}
use Rattle.resident_machine.specs.machine_lines.Steps.{Leads}
use Rattle.resident_machine.specs.machine_lines.Straight.{IsAt, StaysFree}
use Rattle.code_templates.specs.code_lines.Lines.{Around}
use Rattle.statement_simulation.specs.flow.Sites.{World, Site, Live, Represents}

-- how many events so much work is given
unfoldable pub budget : World → ℕ → ℕ
budget w work = w.rate * work

-- The machine comes to an offset of the code, where it stands for the state t. Each turn that was spent has an event of its own, and the events are no more than the work is given. What was free is free.
pub record Arrives (w : World) (site : Site) (live : Live) (ip : ℕ) (s : State) (r : ResidentState) (t : State) : Type 0 where
  pub count : ℕ
  pub end : ResidentState
  pub leads : Leads w.machine w.framed count r end
  pub here : IsAt site.segment ip end
  pub stands : Represents w live t end
  pub enough : s.turns ≤ count + t.turns
  pub fewer : t.turns ≤ s.turns
  pub work : count + budget w s.work ≤ budget w t.work
  pub free : StaysFree r.cells end.cells
  pub input : end.input ≡ r.input

-- what a run that stands so asks of a machine after some events, where it had so many turns: it ended with the same code, or goes on and had no fewer events than there were turns
abbrev pub IsSo : Standing → ℕ → ℕ → ResidentStatus → Type 0
IsSo (Ended code) turns count status = status ≡ resident.Ended code
IsSo Going turns count status = (turns ≤ count) × (status ≡ resident.Running)
IsSo (Undefined act) turns count status = Unit {0}
IsSo Stopped turns count status = ⊥

-- The machine comes to a state that shows what a run shows that stands so: it has written and read the same.
pub record Settles (w : World) (standing : Standing) (s : State) (r : ResidentState) (t : State) : Type 0 where
  pub count : ℕ
  pub end : ResidentState
  pub leads : Leads w.machine w.framed count r end
  pub so : IsSo standing s.turns count end.status
  pub work : count + budget w s.work ≤ budget w t.work + w.last
  pub unread : drop end.taken end.input ≡ t.input
  pub read : end.taken ≤ length end.input
  pub out : end.out ≡ t.out
  pub err : end.err ≡ t.err
  pub input : end.input ≡ r.input

-- From r, which stands for s, the machine follows an outcome: to the offset where the code ends, to what follows a loop, to the end of the routine, or to a state that shows how the run stands.
abbrev pub Flows : World → Site → Live → Around → ℕ → State → ResidentState → Outcome → Type 0
Flows w site live around ip s r (Next t) = Arrives w site live ip s r t
Flows w site live around ip s r (Left loops t) = Arrives w site live (site.at (site.labels (slice_index_or around.ends loops around.home))) s r t
Flows w site live around ip s r (Returned t) = Arrives w site live (site.at (site.labels around.home)) s r t
Flows w site live around ip s r (Over standing t) = Settles w standing s r t

-- The error routine is entered in an activation, with a code in AX.
pub record Errs (w : World) (live : Live) (to : Place) (code : ℕ) (s : State) (r : ResidentState) : Type 0 where
  pub running : r.status ≡ resident.Running
  pub half : r.half ≡ false
  pub segment : r.cs ≡ Image to.segment
  pub offset : r.registers.ip ≡ to.offset
  pub ax : r.registers.ax ≡ code
  pub room : 64 ≤ r.registers.sp
  pub lower : r.registers.sp ≤ live.frame.sp
  pub top : r.registers.sp < 65536
  pub inside : 16 * r.registers.ss + r.registers.sp ≤ 1048576
  pub ss : r.registers.ss ≡ w.choice.stack_segment
  pub ds : r.registers.ds ≡ w.choice.data_segment
  pub direction : r.registers.direction ≡ false
  pub fixed : (place byte : ℕ) → live.fixed place ≡ Some byte → r.cells place ≡ Known byte
  pub unread : drop r.taken r.input ≡ s.input
  pub read : r.taken ≤ length r.input
  pub out : r.out ≡ s.out
  pub err : r.err ≡ s.err

-- The error routine writes the text of the error, and ends the run with its code.
abbrev pub EndsErrors : World → Live → Place → Type 0
EndsErrors w live to = (code : ℕ) (s : State) (r : ResidentState) → code < 65536 → Errs w live to code s r →
    Settles w (Ended (code % 256)) s r (record s { err = s.err ++ error_text code })
