-- What the instructions of a call come to.
use Rattle.std.specs.Prelude.{◌≡◌, ℕ, suc, ◌+◌, ◌≤◌, Bool, true, IsTrue, List}
use Rattle.resident_machine.specs.Cells.{Cell, Known, is_free}
use Rattle.flat_code.specs.declared.memory.Place.{Place}
use Rattle.resident_machine.specs.Program.{Segment, Image, Overlay, Program, Into, Through, far_target}
use Rattle.resident_machine.specs.State.{ResidentState}
use Rattle.resident_machine.specs.machine_lines.Steps.{Leads}
use Rattle.resident_machine.specs.machine_lines.Straight.{IsAt}
use Rattle.statement_simulation.specs.expressions.Active.{IsKept}
use Rattle.statement_simulation.specs.flow.Sites.{World, Live}
use Rattle.call_simulation.specs.frames.Callee.{Back, return_bytes, Returns, IsPaired, Entered}

-- A state at an offset of a segment, with the return address at SP. Each byte from the old SP on is as it was.
pub record CallsTo (far : Bool) (back : Back) (to : Segment) (ip : ℕ) (t end : ResidentState) : Type 0 where
  pub here : IsAt to ip end
  pub sp : end.registers.sp + return_bytes far ≡ t.registers.sp
  pub bp : end.registers.bp ≡ t.registers.bp
  pub ss : end.registers.ss ≡ t.registers.ss
  pub ds : end.registers.ds ≡ t.registers.ds
  pub direction : end.registers.direction ≡ t.registers.direction
  pub bytes : (place : ℕ) → IsKept t.registers place → end.cells place ≡ t.cells place
  pub free : (place : ℕ) → IsTrue (is_free (t.cells place)) → (IsPaired far end.registers place → ⊥) → IsTrue (is_free (end.cells place))
  pub return : Returns far back to t end
  pub input : end.input ≡ t.input
  pub taken : end.taken ≡ t.taken
  pub out : end.out ≡ t.out
  pub err : end.err ≡ t.err

-- So many events lead to such a state.
pub record Calls (p : Program) (framed : Bool) (far : Bool) (back : Back) (to : Segment) (n ip : ℕ) (t end : ResidentState) : Type 0 where
  pub leads : Leads p framed n t end
  pub state : CallsTo far back to ip t end

-- A far pointer leads to this offset of a segment: of the image at once, of an overlay through its stub.
abbrev pub EntersAt : Program → Place → Segment → ℕ → Type 0
EntersAt p to (Image number) entry = far_target p to.segment to.offset ≡ Into number entry
EntersAt p to (Overlay number) entry = far_target p to.segment to.offset ≡ Through number entry

-- the installed flag is set, where that matters
abbrev pub IsSet : Segment → Cell → Type 0
IsSet (Image number) cell = Unit {0}
IsSet (Overlay number) cell = (v : ℕ) × (cell ≡ Known (suc v))

-- From r, which stands for the caller, at most n events lead to the routine's first line, with the arguments and the return address on the stack.
pub record Reaches (w : World) (live : Live) (far : Bool) (back : Back) (to : Segment) (n ip : ℕ) (vs : List ℕ) (r : ResidentState) : Type 0 where
  pub count : ℕ
  pub few : count ≤ n
  pub end : ResidentState
  pub leads : Leads w.machine w.framed count r end
  pub here : IsAt to ip end
  pub entered : Entered live far back to vs r end

-- overlays are called only after the flag was set
abbrev pub AsksFlag : Segment → Bool → Type 0
AsksFlag (Image number) flag = Unit {0}
AsksFlag (Overlay number) flag = flag ≡ true
