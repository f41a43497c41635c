-- A routine's code where it stands, and what a call of it asks.
use Rattle.std.specs.Prelude.{◌≡◌, ℕ, ◌+◌, ◌<◌, ◌≤◌, IsTrue, Some}
use Rattle.x86_table.specs.Standing.{IsSpelledAt, Stands}
use Rattle.flat_code.specs.Calls.{activation_bytes, stack_top}
use Rattle.flat_code.specs.Legal.{HasResultSize}
use Rattle.flat_code.specs.Program.{Name, Key, Routine, UnitCode}
use Rattle.flat_code.specs.Values.{Frame}
use Rattle.resident_machine.specs.machine_lines.Straight.{Placed}
use Rattle.code_templates.specs.code_lines.Lines.{framed_lines}
use Rattle.statement_simulation.specs.expressions.Evaluates.{IsCode}
use Rattle.statement_simulation.specs.flow.Sites.{World, Site, Live, Fits}
use Rattle.statement_simulation.specs.flow.Lists.{CodeFlows}
use Rattle.call_simulation.specs.frames.Callee.{Back, callee}
use Rattle.call_simulation.specs.frames.Chain.{IsChained}

-- The routine's lines stand at a site that was made for it.
pub record Made (w : World) (site : Site) (name : Name) (unit : UnitCode) (r : Routine) (pointer : ℕ) : Type 0 where
  pub placed : Placed w.machine site.segment site.code site.at
  pub error : IsCode w.machine site.context.addresses.error_routine
  pub stands : Stands (IsSpelledAt site.code) site.at site.labels 0 (framed_lines site.context pointer r)
  pub sized : HasResultSize r.result
  pub own : name ≡ site.context.own
  pub names : unit.names ≡ site.context.unit.names
  pub far : site.context.far ≡ r.far
  pub datum : (key : Key) (offset : ℕ) → w.choice.datum key ≡ Some offset → site.context.addresses.datum key ≡ offset
  pub vmt : (key : Key) (offset : ℕ) → w.choice.vmt key ≡ Some offset → (site.context.addresses.vmt key ≡ offset) × (offset < 65536)
  pub data_segment : w.choice.data_segment < 65536
  pub stack_segment : w.choice.stack_segment < 65536

-- What the stack holds for a call in this frame. A routine of the sources, whose frame counts, is tested by what is left of the stack; one of the runtime, whose frame is 0, has room for its chain.
pub record HasStack (w : World) (f : Frame) (r : Routine) : Type 0 where
  pub shallow : r.arguments ≤ 258
  pub tall : 0 < r.frame → 512 ≤ f.sp
  pub counted : 0 < r.frame → r.frame ≡ activation_bytes r
  pub sum : 0 < r.frame → f.sp + f.sum ≡ stack_top w.program
  pub deep : r.frame ≡ 0 → 128 + activation_bytes r ≤ f.sp

-- The body's code does what the body means in each activation that the call begins, if fewer turns are left than a bound.
abbrev pub BodyFlows : World → Site → Name → UnitCode → Routine → ℕ → Live → Back → ℕ → Type 0
BodyFlows w site name unit r pointer live back bound =
    Fits w site (callee w name unit r live back) → (IsTrue w.framed → IsChained w (callee w name unit r live back)) → activation_bytes r ≤ live.frame.sp → (0 < r.frame → 512 + activation_bytes r ≤ live.frame.sp) →
    CodeFlows w site (callee w name unit r live back) bound pointer r.body
