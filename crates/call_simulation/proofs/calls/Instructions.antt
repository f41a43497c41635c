-- The lines of a call, near or far, behind those of its arguments.
use Rattle.std.proofs.Common.{◌≡◌, ℕ, suc, ◌+◌, ◌≤◌, true, false, List, arith, refl, sym, ap, subst, ◌∙◌}
use Rattle.std.specs.Prelude.{IsTrue}
use Rattle.x86_table.specs.declared.instr.Instr.TheVariants as instr
use Rattle.x86_table.specs.Standing.{IsSpelledAt, Stands}
use Rattle.flat_code.specs.declared.memory.Place.{Place}
use Rattle.flat_code.specs.Calls.{State}
use Rattle.cpu_8086.specs.declared.registers.Registers.{Registers}
use Rattle.cpu_8086.specs.Access.{FarCall, at_offset}
use Rattle.cpu_8086.specs.Effect.{act}
use Rattle.resident_machine.specs.Cells.{Known}
use Rattle.resident_machine.specs.Effect.{far_call, on_cells}
use Rattle.resident_machine.specs.Program.{Segment, Image, Overlay, far_target}
use Rattle.resident_machine.specs.State.{ResidentState}
use Rattle.resident_machine.specs.machine_lines.Steps.{ReadsAbove}
use Rattle.resident_machine.proofs.machine_lines.Straight.{same_stack}
use Rattle.effect_simulation.specs.effects.Pushed.{Pushes}
use Rattle.code_templates.specs.code_lines.Lines.{call_far, call_own}
use Rattle.statement_simulation.specs.flow.Sites.{World, Site, Live, Fits, IsFlag, Represents}
use Rattle.statement_simulation.proofs.flow.States.{flag_kept}
use Rattle.call_simulation.specs.frames.Callee.{Back}
use Rattle.call_simulation.specs.frames.Chain.{IsChained}
use Rattle.call_simulation.proofs.frames.Leave.{back_in}
use Rattle.call_simulation.specs.calls.Enters.{EntersAt, IsSet, Reaches, AsksFlag}
use Rattle.call_simulation.proofs.calls.Entered.{pushed, pushed_room, reached, owed_call}
use Rattle.call_simulation.proofs.calls.Far.{entered_state, far_state, far_calls}
use Rattle.call_simulation.proofs.calls.Near.{near_calls}
use Rattle.call_simulation.proofs.calls.Own.{own_calls}

pub far_tree : (g : Registers) (to : Place) → act g (instr.CallFar to.offset to.segment) ≡ FarCall g to.segment to.offset
unfolding act
far_tree g to = refl

module _ (w : World) (site : Site) (live : Live) (fits : Fits w site live) (s : State) (r : ResidentState) (a : Represents w live s r) (n k : ℕ) (vs : List ℕ) (b : Pushes w.machine w.framed site.segment n (site.at k) r vs) where
  -- what the flag's byte holds behind the arguments
  pub set_there : (to : Segment) → AsksFlag to s.flag → IsSet to (b.cells w.machine.installed)
  set_there (Image number) asked = tt
  set_there (Overlay number) asked =
      let kept = b.bytes w.machine.installed (flag_kept w.machine.installed w.choice live.frame s.cells r.registers r.cells a.active) in
      subst (λ cell. (v : ℕ) × (cell ≡ Known (suc v))) (sym kept) (subst (λ flag. IsFlag flag (r.cells w.machine.installed)) asked a.flag)

  pub near_reached : (number : ℕ) → 2 ≤ b.registers.sp → Stands (IsSpelledAt site.code) site.at site.labels k (call_own false number) → Reaches w live false (record { segment = site.segment; offset = site.at (k + 1) }) site.segment (n + 1) (site.at (site.labels number)) vs r
  near_reached number room stands =
      let c = near_calls w.machine w.framed site.segment site.code site.at site.labels fits.placed k number (pushed w live s r a site.segment n (site.at k) vs b) (pushed_room w live s r a site.segment n (site.at k) vs b 2 room) b.here stands.0 in
      reached w live s r a site.segment n (site.at k) vs b false (record { segment = site.segment; offset = site.at (k + 1) }) site.segment 1 (site.at (site.labels number)) _ c

  pub own_reached : (number : ℕ) → 4 ≤ b.registers.sp → Stands (IsSpelledAt site.code) site.at site.labels k (call_own true number) → Reaches w live true (record { segment = site.segment; offset = site.at (k + 1 + 1) }) site.segment (n + 2) (site.at (site.labels number)) vs r
  own_reached number room stands =
      let t = pushed w live s r a site.segment n (site.at k) vs b in
      let h = pushed_room w live s r a site.segment n (site.at k) vs b 4 room in
      let c = own_calls w.machine w.framed site.segment site.code site.at site.labels fits.placed t h k number b.here stands.0.0 stands.0.1 stands.1.0 in
      reached w live s r a site.segment n (site.at k) vs b true (record { segment = site.segment; offset = site.at (k + 1 + 1) }) site.segment 2 (site.at (site.labels number)) _ c

  pub far_reached : (place : Place) (to : Segment) (entry : ℕ) → (IsTrue w.framed → IsChained w live) → 68 ≤ b.registers.sp → EntersAt w.machine place to entry → AsksFlag to s.flag → Stands (IsSpelledAt site.code) site.at site.labels k (call_far place) → Reaches w live true (record { segment = site.segment; offset = site.at (k + 1) }) to (n + 1) entry vs r
  far_reached place to entry chained room enters asked stands =
      let t = pushed w live s r a site.segment n (site.at k) vs b in
      let h = pushed_room w live s r a site.segment n (site.at k) vs b 68 room in
      let back : Back = record { segment = site.segment; offset = site.at (k + 1) } in
      let g = at_offset t.registers (site.at (k + 1)) in
      let state = far_state w.machine w.framed t h site.segment site.code site.at fits.placed k to entry b.here in
      let end = back_in to (entered_state w.machine w.framed t h (site.at (k + 1)) to entry) in
      let sp = state.sp in
      let owed = owed_call w live s r a site.segment n (site.at k) vs b site fits chained back to entry end state (omega arith) in
      let runs = ap (λ tree. on_cells w.machine t tree t.cells) (far_tree g place) ∙ same_stack t g (far_call w.machine t g t.cells (far_target w.machine place.segment place.offset)) refl in
      let reads = subst (λ tree. ReadsAbove t.registers.ss t.registers.sp tree t.cells) (sym (far_tree g place)) tt in
      let c = far_calls w.machine w.framed t h site.segment site.code site.at fits.placed k (instr.CallFar place.offset place.segment) place to entry b.here stands.0.0 stands.0.1 enters (set_there to asked) runs reads owed in
      reached w live s r a site.segment n (site.at k) vs b true back to 1 entry end c
