-- Arguments that were pushed, and a call: the routine is entered.
use Rattle.std.proofs.Common.{◌≡◌, ℕ, ◌+◌, ◌*◌, ◌≤◌, Bool, true, false, List, ◌∷◌, arith, refl, sym, ap, subst, ◌∙◌}
use Rattle.std.specs.Prelude.{IsTrue}
use Rattle.flat_code.specs.Calls.{State}
use Rattle.cpu_8086.specs.Memory.{address}
use Rattle.resident_machine.specs.Effect.{with_memory}
use Rattle.resident_machine.specs.Framed.{places_of, IsFramed, FramedAfter}
use Rattle.resident_machine.specs.Program.{Segment, Image, Overlay}
use Rattle.resident_machine.specs.State.{ResidentState}
use Rattle.resident_machine.specs.machine_lines.Steps.{Owed}
use Rattle.resident_machine.specs.machine_lines.Straight.{MayWrite}
use Rattle.resident_machine.specs.machine_lines.Words.{HoldsWord}
use Rattle.resident_machine.proofs.machine_lines.Steps.{leads_on}
use Rattle.effect_simulation.specs.effects.Pushed.{Pushes}
use Rattle.statement_simulation.specs.flow.Sites.{World, Site, Live, Fits, Represents}
use Rattle.statement_simulation.proofs.flow.States.{fixed_kept}
use Rattle.call_simulation.specs.frames.Callee.{Back, Returns, Entered}
use Rattle.call_simulation.specs.frames.Chain.{IsChained}
use Rattle.call_simulation.proofs.frames.Chains.{framed_there}
use Rattle.call_simulation.proofs.frames.Fixed.{words_still}
use Rattle.call_simulation.specs.calls.Enters.{CallsTo, Calls, Reaches}
use Rattle.call_simulation.proofs.calls.Far.{call_service}
use Rattle.call_simulation.proofs.calls.Near.{HasRoom}

module _ (w : World) (live : Live) (s : State) (r : ResidentState) (a : Represents w live s r) (cs : Segment) (m ip : ℕ) (vs : List ℕ) (b : Pushes w.machine w.framed cs m ip r vs) where
  -- the state with the arguments on the stack
  abbrev pub pushed : ResidentState
  pushed = with_memory r b.registers b.cells

  -- the stack below the arguments may be written
  pub pushed_room : (n : ℕ) → n ≤ b.registers.sp → HasRoom w.machine pushed n
  pushed_room n room =
      let sp = b.sp in
      let ss = b.ss in
      let top = a.active.top in
      let inside = a.active.inside in
      record {
        room = room;
        top = omega arith;
        inside = omega arith;
        may = λ offset less.
            let may = subst (λ z. MayWrite r.cells w.machine.installed (16 * z + offset)) (sym b.ss) (a.active.spare offset (omega arith)) in
            record { free = b.free (16 * b.registers.ss + offset) may.free; apart = may.apart };
      }

  entered_by : (far : Bool) (back : Back) (to : Segment) (n jp : ℕ) (end : ResidentState) → Calls w.machine w.framed far back to n jp pushed end → Entered live far back to vs r end
  entered_by far back to n jp end c =
      let sp0 = a.sp in
      let sp1 = b.sp in
      let sp2 = c.state.sp in
      let ss1 = b.ss in
      let top = a.active.top in
      let inside = a.active.inside in
      record {
        sp = omega arith;
        bp = c.state.bp ∙ b.bp;
        ss = c.state.ss ∙ b.ss;
        ds = c.state.ds ∙ b.ds;
        direction = c.state.direction ∙ b.direction;
        bytes = λ place kept. c.state.bytes place (λ low. let z = kept (omega arith) in omega arith) ∙ b.bytes place kept;
        words = words_still b.cells end.cells r.registers.ss r.registers.sp vs (omega arith) (omega arith) (λ offset more less. c.state.bytes (address r.registers.ss offset) (λ low. omega arith)) b.words;
        return = by far c.state.return;
        free = λ place f apart. c.state.free place (b.free place f) apart;
        input = c.state.input;
        taken = c.state.taken;
        out = c.state.out;
        err = c.state.err;
      }
    where
      by : (far : Bool) → Returns far back to pushed end → Returns far back to r end
      by true h = h
      by false h = (h.0, subst (λ z. HoldsWord end.cells z end.registers.sp back.offset) b.ss h.1, h.2, h.3)

  pub reached : (far : Bool) (back : Back) (to : Segment) (n jp : ℕ) (end : ResidentState) → Calls w.machine w.framed far back to n jp pushed end → Reaches w live far back to (m + n) jp vs r
  reached far back to n jp end c =
      let few = b.few in
      record {
        count = b.count + n;
        few = omega arith;
        end = end;
        leads = leads_on w.machine w.framed b.count n r pushed end b.leads c.leads;
        here = c.state.here;
        entered = entered_by far back to n jp end c;
      }

  module _ (site : Site) (fits : Fits w site live) (chained : IsTrue w.framed → IsChained w live) where
    -- a call through a stub is framed, where that is asked for
    pub framed_call : (back : Back) (to : Segment) (jp : ℕ) (end : ResidentState) → CallsTo true back to jp pushed end → 64 ≤ end.registers.sp → IsTrue w.framed → IsFramed w.machine true end
    framed_call back to jp end c room e =
        let sp0 = a.sp in
        let sp1 = b.sp in
        let sp2 = c.sp in
        let ss1 = b.ss in
        let top = a.active.top in
        let inside = a.active.inside in
        let ss0 = a.active.ss in
        let ss2 = c.ss in
        framed_there w site live fits true end (chained e) (c.ss ∙ b.ss ∙ a.active.ss) (c.bp ∙ b.bp ∙ a.active.bp) (omega arith) room (omega arith) (omega arith)
        (λ place byte known. let kept = fixed_kept w site live fits s r place byte a known in c.bytes place (λ low. let z = kept (omega arith) in omega arith) ∙ b.bytes place kept ∙ a.fixed place byte known)
        (ap places_of c.return ∙ ap (λ rs. end.registers.sp ∷ places_of rs) a.records ∙ ap (λ ps. end.registers.sp ∷ ps) (chained e).places)
        (λ z. omega arith)
        (λ offset less.
        let may = subst (λ z. MayWrite r.cells w.machine.installed (16 * z + offset)) a.active.ss (a.active.spare offset (omega (arith, less))) in
        (c.free (16 * w.choice.stack_segment + offset) (b.free (16 * w.choice.stack_segment + offset) may.free) (λ q. let low = q.0 in absurd (omega (arith, low, less))), may.apart))

    pub owed_call : (back : Back) (to : Segment) (jp : ℕ) (end : ResidentState) → CallsTo true back to jp pushed end → 64 ≤ end.registers.sp → Owed w.framed w.machine (call_service to) end
    owed_call back to jp end c room = by w.framed refl
      where
        after_by : (to : Segment) → IsFramed w.machine true end → FramedAfter w.machine (call_service to) end
        after_by (Image number) h = tt
        after_by (Overlay number) h = h

        by : (framed : Bool) → w.framed ≡ framed → Owed framed w.machine (call_service to) end
        by true e = after_by to (framed_call back to jp end c room e)
        by false e = tt
