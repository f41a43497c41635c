-- The routine of an act is called.
use Rattle.std.proofs.Common.{◌≡◌, ◌≢◌, ℕ, ◌+◌, ◌-◌, ◌*◌, ◌<◌, ◌≤◌, true, List, [], arith, refl, sym, ap, subst, ◌∙◌}
use Rattle.std.specs.Prelude.{IsTrue}
use Rattle.x86_table.specs.declared.instr.Instr.{Instr}
use Rattle.x86_table.specs.declared.instr.Instr.TheVariants as instr
use Rattle.x86_table.specs.Standing.{IsSpelledAt, Stands}
use Rattle.flat_code.specs.declared.memory.Place.{Place}
use Rattle.flat_code.specs.Calls.{State}
use Rattle.cpu_8086.specs.Access.{at_offset}
use Rattle.resident_machine.specs.Cells.{below}
use Rattle.resident_machine.specs.Effect.{far_call, on_cells}
use Rattle.resident_machine.specs.Program.{Image, far_target}
use Rattle.resident_machine.specs.State.{ResidentState}
use Rattle.resident_machine.specs.machine_lines.Steps.{ReadsAbove}
use Rattle.resident_machine.specs.machine_lines.Straight.{IsAt}
use Rattle.resident_machine.proofs.machine_lines.Steps.{nothing_owed}
use Rattle.resident_machine.proofs.machine_lines.Straight.{same_stack}
use Rattle.effect_simulation.specs.effects.Pushed.{Pushes}
use Rattle.code_templates.specs.code_lines.Lines.{call_far}
use Rattle.statement_simulation.specs.expressions.Active.{IsKept}
use Rattle.statement_simulation.specs.flow.Sites.{World, Site, Live, Fits, Represents}
use Rattle.statement_simulation.proofs.flow.States.{flag_kept}
use Rattle.call_simulation.specs.frames.Callee.{Back}
use Rattle.call_simulation.specs.frames.Chain.{IsChained}
use Rattle.call_simulation.specs.calls.Enters.{CallsTo, Calls}
use Rattle.call_simulation.proofs.calls.Entered.{pushed_room}
use Rattle.call_simulation.proofs.calls.Far.{entered_state, far_state, far_calls}
use Rattle.call_simulation.proofs.calls.Instructions.{far_tree}
use Rattle.call_simulation.proofs.calls.Near.{HasRoom}
use Rattle.call_simulation.specs.services.Services.{HasService}
use Rattle.call_simulation.proofs.services.Returning.{Inside}

module _ (w : World) (site : Site) (live : Live) (fits : Fits w site live) (chained : IsTrue w.framed → IsChained w live) (s : State) (r : ResidentState) (a : Represents w live s r) (room : 72 ≤ r.registers.sp) (to : Place) (is : List Instr) (service : HasService w to is) (k : ℕ) (here : IsAt site.segment (site.at k) r) (stands : Stands (IsSpelledAt site.code) site.at site.labels k (call_far to)) where
  abbrev pub back : Back
  back = record { segment = site.segment; offset = site.at (k + 1) }

  -- there are no arguments
  abbrev pub nothing : Pushes w.machine w.framed site.segment 0 (site.at k) r []
  nothing = record {
    count = 0;
    few = omega arith;
    registers = r.registers;
    cells = r.cells;
    leads = refl;
    here = here;
    words = tt;
    sp = omega arith;
    bp = refl;
    ss = refl;
    ds = refl;
    direction = refl;
    bytes = λ place kept. refl;
    free = λ place h. h;
  }

  much : 68 ≤ r.registers.sp
  much = omega (arith, room)

  pub has_room : HasRoom w.machine r 68
  has_room = pushed_room w live s r a site.segment 0 (site.at k) [] nothing 68 much

  -- the routine is entered
  abbrev pub entered : ResidentState
  entered = entered_state w.machine w.framed r has_room (site.at (k + 1)) (Image service.segment) (service.at 0)

  pub enters : CallsTo true back (Image service.segment) (service.at 0) r entered
  enters = far_state w.machine w.framed r has_room site.segment site.code site.at fits.placed k (Image service.segment) (service.at 0) here

  pub called : Calls w.machine w.framed true back (Image service.segment) 1 (service.at 0) r entered
  called =
      let g = at_offset r.registers (site.at (k + 1)) in
      far_calls w.machine w.framed r has_room site.segment site.code site.at fits.placed k (instr.CallFar to.offset to.segment) to (Image service.segment) (service.at 0) here stands.0.0 stands.0.1 service.enters tt
      (ap (λ tree. on_cells w.machine r tree r.cells) (far_tree g to) ∙ same_stack r g (far_call w.machine r g r.cells (far_target w.machine to.segment to.offset)) refl)
      (subst (λ tree. ReadsAbove r.registers.ss r.registers.sp tree r.cells) (sym (far_tree g to)) tt)
      (nothing_owed w.framed w.machine entered)

  -- a state of the routine with all as the caller left it
  pub inside_of : (ip : ℕ) (t : ResidentState) → CallsTo true back (Image service.segment) ip r t → Inside w site live fits chained s r a room service.segment ip (site.at (k + 1)) t
  inside_of ip t c = record {
    here = c.here;
    sp = c.sp;
    bp = c.bp;
    ss = c.ss;
    ds = c.ds;
    direction = c.direction;
    bytes = λ place kept apart. c.bytes place kept;
    free = c.free;
    records = c.return;
    input = c.input;
    taken = c.taken;
    out = c.out;
    err = c.err;
  }

  -- the installed flag is none of the stack's bytes
  pub flag_is_kept : IsKept r.registers w.machine.installed
  flag_is_kept = flag_kept w.machine.installed w.choice live.frame s.cells r.registers r.cells a.active

  -- a byte that is kept is none of the 64 below the return address
  pub below_apart : (place j : ℕ) → IsKept r.registers place → j < 64 → place ≢ below entered.registers.ss entered.registers.sp j
  below_apart place j kept less e =
      let top = a.active.top in
      let inside = a.active.inside in
      let z = room in
      let sp = enters.sp in
      let low : entered.registers.sp ≡ r.registers.sp - 4 = omega arith in
      let same : below r.registers.ss (r.registers.sp - 4) j ≡ 16 * r.registers.ss + (r.registers.sp - 4 - 1 - j) = omega (arith, less) in
      let place_is : place ≡ 16 * r.registers.ss + (r.registers.sp - 4 - 1 - j) = e ∙ ap (λ n. below n entered.registers.sp j) enters.ss ∙ ap (λ n. below r.registers.ss n j) low ∙ same in
      let o = kept (omega (arith, place_is)) in
      absurd (omega (arith, place_is, o, less))
