-- When a statement can call a routine.
use Rattle.std.specs.Prelude.{◌≡◌, ℕ, suc, ◌+◌, ◌≤◌, ◌&&◌, not, true, false, IsTrue, List, length, Some, slice_get, ◌%◌}
use Rattle.x86_table.specs.declared.line.Line.{Line}
use Rattle.x86_table.specs.Standing.{IsSpelledAt, Stands}
use Rattle.flat_code.specs.Calls.{State, raised}
use Rattle.flat_code.specs.Program.{Key, Routine, UnitCode}
use Rattle.resident_machine.specs.State.{ResidentState}
use Rattle.effect_simulation.specs.effects.Pushed.{Pushes}
use Rattle.code_templates.specs.code_lines.Lines.{Around, framed_lines}
use Rattle.statement_simulation.specs.flow.Sites.{World, Site, Live, Represents}
use Rattle.statement_simulation.specs.flow.Outcomes.{Flows, EndsErrors}
use Rattle.call_simulation.specs.calls.Enters.{Reaches}
use Rattle.call_simulation.specs.steps.Made.{Made, HasStack, BodyFlows}

-- Behind arguments that were pushed these lines reach the routine's first line, or come to error 208 where the routine's overlays are not installed; and with fewer turns than the bound its body does what it means. The routine has so many lines at most.
pub record Callable (w : World) (caller : Site) (live : Live) (key : Key) (lines : List Line) (bound most : ℕ) : Type 0 where
  pub site : Site
  pub unit : UnitCode
  pub routine : Routine
  pub pointer : ℕ
  pub has_unit : Some unit ≡ w.program.unit key.unit
  pub has_routine : Some routine ≡ slice_get unit.routines key.number
  pub made : Made w site key.unit unit routine pointer
  pub ends : EndsErrors w live site.context.addresses.error_routine
  pub near : routine.far ≡ false → caller.segment ≡ site.segment
  pub even : IsTrue w.framed → routine.locals % 2 ≡ 0
  pub stack : HasStack w live.frame routine
  pub reaches : (s : State) (r : ResidentState) (n k : ℕ) (vs : List ℕ) → Represents w live s r → (w.program.overlaid key.unit ≡ true → s.flag ≡ true) → (b : Pushes w.machine w.framed caller.segment n (caller.at k) r vs) → 68 ≤ b.registers.sp → Stands (IsSpelledAt caller.code) caller.at caller.labels k lines →
      Reaches w live routine.far (record { segment = caller.segment; offset = caller.at (k + length lines) }) site.segment (n + 2) (site.at 0) vs r
  pub refused : (around : Around) (s : State) (r : ResidentState) (n k m left ip : ℕ) (vs : List ℕ) → Represents w live s r → s.turns ≡ suc left → (b : Pushes w.machine w.framed caller.segment n (caller.at k) r vs) → 68 ≤ b.registers.sp → Stands (IsSpelledAt caller.code) caller.at caller.labels k lines → 1 ≤ m → n + 2 ≤ w.rate → (w.program.overlaid key.unit && not s.flag) ≡ true →
      Flows w caller live around ip s r (raised 208 (record s { turns = left; work = s.work + m }))
  pub body : (k : ℕ) → BodyFlows w site key.unit unit routine pointer live (record { segment = caller.segment; offset = caller.at k }) bound
  pub short : length (framed_lines site.context pointer routine) ≤ most
