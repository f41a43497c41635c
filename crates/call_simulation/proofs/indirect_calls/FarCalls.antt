-- A far call of a routine that can be called by its far pointer.
use Rattle.std.proofs.Common.{◌≡◌, ℕ, refl}
use Rattle.std.specs.Prelude.{IsTrue}
use Rattle.flat_code.specs.declared.memory.Place.{Place}
use Rattle.flat_code.specs.Program.{Key}
use Rattle.resident_machine.specs.Program.{Segment, Image, Overlay}
use Rattle.code_templates.specs.code_lines.Lines.{call_far}
use Rattle.statement_simulation.specs.flow.Sites.{World, Site, Live, Fits}
use Rattle.call_simulation.specs.frames.Chain.{IsChained}
use Rattle.call_simulation.specs.calls.Enters.{EntersAt}
use Rattle.call_simulation.specs.steps.Callable.{Callable}
use Rattle.call_simulation.proofs.steps.Callables.{far_callable}
use Rattle.call_simulation.proofs.stubs.Stubs.{stub_callable}
use Rattle.call_simulation.specs.indirect_calls.FarCallable.{IsOverlaid, FarCallable}

pub far_calls : (w : World) (site : Site) (live : Live) → Fits w site live → (key : Key) (place : Place) (bound most : ℕ) → FarCallable w site live key place bound most → (IsTrue w.framed → IsChained w live) → Callable w site live key (call_far place) bound most
far_calls w site live fits key place bound most c chained = by c.site.segment refl c.enters c.overlaid
  where
    by : (to : Segment) → c.site.segment ≡ to → EntersAt w.machine place to (c.site.at 0) → IsOverlaid to (w.program.overlaid key.unit) → Callable w site live key (call_far place) bound most
    by (Image number) e enters resident = far_callable w site live fits key c.site c.unit c.routine c.pointer bound most c.has_unit c.has_routine c.made c.ends c.even c.stack c.short c.body place number c.far e enters resident chained
    by (Overlay number) e enters overlaid = stub_callable w site live fits key c.site c.unit c.routine c.pointer bound most c.has_unit c.has_routine c.made c.ends c.even c.stack c.short c.body place number c.far e enters overlaid chained c.named c.refusals
