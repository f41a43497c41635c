-- When a routine can be called by a far pointer.
use Rattle.std.specs.Prelude.{◌≡◌, ℕ, ◌≤◌, Bool, true, false, length, Some, slice_get, ◌%◌, IsTrue}
use Rattle.flat_code.specs.declared.memory.Place.{Place}
use Rattle.flat_code.specs.Program.{Key, Routine, UnitCode}
use Rattle.resident_machine.specs.Program.{Segment, Image, Overlay, Program}
use Rattle.code_templates.specs.code_lines.Lines.{framed_lines}
use Rattle.statement_simulation.specs.expressions.Evaluates.{IsCode}
use Rattle.statement_simulation.specs.flow.Sites.{World, Site, Live}
use Rattle.statement_simulation.specs.flow.Outcomes.{EndsErrors}
use Rattle.call_simulation.specs.calls.Enters.{EntersAt}
use Rattle.call_simulation.specs.steps.Made.{Made, HasStack, BodyFlows}

-- the error routine that calls through stubs come to as long as no overlay is installed
abbrev pub refusal_of : Program → Place
refusal_of p = record { segment = p.error_routine.segment; offset = p.error_routine.offset }

-- overlaid units have overlays, and the others code of the image
abbrev pub IsOverlaid : Segment → Bool → Type 0
IsOverlaid (Image number) overlaid = overlaid ≡ false
IsOverlaid (Overlay number) overlaid = overlaid ≡ true

-- The far pointer leads to the routine's first line, at once or through its stub, and with fewer turns than the bound its body does what it means. The routine has so many lines at most.
pub record FarCallable (w : World) (caller : Site) (live : Live) (key : Key) (place : Place) (bound most : ℕ) : Type 0 where
  pub site : Site
  pub unit : UnitCode
  pub routine : Routine
  pub pointer : ℕ
  pub has_unit : Some unit ≡ w.program.unit key.unit
  pub has_routine : Some routine ≡ slice_get unit.routines key.number
  pub made : Made w site key.unit unit routine pointer
  pub ends : EndsErrors w live site.context.addresses.error_routine
  pub far : routine.far ≡ true
  pub even : IsTrue w.framed → routine.locals % 2 ≡ 0
  pub stack : HasStack w live.frame routine
  pub enters : EntersAt w.machine place site.segment (site.at 0)
  pub overlaid : IsOverlaid site.segment (w.program.overlaid key.unit)
  pub named : IsCode w.machine (refusal_of w.machine)
  pub refusals : EndsErrors w live (refusal_of w.machine)
  pub body : (k : ℕ) → BodyFlows w site key.unit unit routine pointer live (record { segment = caller.segment; offset = caller.at k }) bound
  pub short : length (framed_lines site.context pointer routine) ≤ most
