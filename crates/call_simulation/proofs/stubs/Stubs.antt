-- A routine of an overlay is called through its stub.
use Rattle.std.proofs.Common.{◌≡◌, ℕ, ◌+◌, ◌≤◌, Bool, true, false, not, length, Some, arith, refl, sym, subst, ◌∙◌, ◌%◌}
use Rattle.std.specs.Prelude.{IsTrue, ◌&&◌, slice_get}
use Rattle.flat_code.specs.declared.memory.Place.{Place}
use Rattle.flat_code.specs.Program.{Key, Routine, UnitCode}
use Rattle.resident_machine.specs.Program.{Overlay}
use Rattle.code_templates.specs.code_lines.Lines.{call_far, framed_lines}
use Rattle.statement_simulation.specs.expressions.Evaluates.{IsCode}
use Rattle.statement_simulation.specs.flow.Sites.{World, Site, Live, Fits}
use Rattle.statement_simulation.specs.flow.Outcomes.{EndsErrors}
use Rattle.call_simulation.specs.frames.Chain.{IsChained}
use Rattle.call_simulation.specs.calls.Enters.{EntersAt, Reaches}
use Rattle.call_simulation.proofs.calls.Instructions.{far_reached}
use Rattle.call_simulation.specs.steps.Made.{Made, HasStack, BodyFlows}
use Rattle.call_simulation.specs.steps.Callable.{Callable}
use Rattle.call_simulation.proofs.stubs.Refused.{stub_refuses}

not_set : (x y : Bool) → (x && not y) ≡ true → y ≡ false
not_set x false e = refl
not_set true true e = absurd (cc)
not_set false true e = absurd (cc)

module _ (w : World) (site : Site) (live : Live) (fits : Fits w site live) (key : Key) (callee : Site) (unit : UnitCode) (r : Routine) (pointer bound most : ℕ) (has_unit : Some unit ≡ w.program.unit key.unit) (has_routine : Some r ≡ slice_get unit.routines key.number) (made : Made w callee key.unit unit r pointer) (ends : EndsErrors w live callee.context.addresses.error_routine) (even : IsTrue w.framed → r.locals % 2 ≡ 0) (stack : HasStack w live.frame r) (short : length (framed_lines callee.context pointer r) ≤ most) (body : (k : ℕ) → BodyFlows w callee key.unit unit r pointer live (record { segment = site.segment; offset = site.at k }) bound) where
  pub stub_callable : (place : Place) (number : ℕ) → r.far ≡ true → callee.segment ≡ Overlay number → EntersAt w.machine place (Overlay number) (callee.at 0) → w.program.overlaid key.unit ≡ true → (IsTrue w.framed → IsChained w live) → IsCode w.machine (record { segment = w.machine.error_routine.segment; offset = w.machine.error_routine.offset }) → EndsErrors w live (record { segment = w.machine.error_routine.segment; offset = w.machine.error_routine.offset }) → Callable w site live key (call_far place) bound most
  stub_callable place number far in_overlay enters overlaid chained named refusals = record {
    site = callee;
    unit = unit;
    routine = r;
    pointer = pointer;
    has_unit = has_unit;
    has_routine = has_routine;
    made = made;
    ends = ends;
    near = λ e. let z = sym far ∙ e in absurd (cc);
    even = even;
    stack = stack;
    reaches = λ s t n k vs a admitted b room stands.
        let x = far_reached w site live fits s t a n k vs b place (Overlay number) (callee.at 0) chained room enters (admitted overlaid) stands in
        let few = x.few in
        let y : Reaches w live true (record { segment = site.segment; offset = site.at (k + 1) }) (Overlay number) (n + 2) (callee.at 0) vs t = record { count = x.count; few = omega (arith, few); end = x.end; leads = x.leads; here = x.here; entered = x.entered } in
        subst (λ z. Reaches w live z (record { segment = site.segment; offset = site.at (k + 1) }) callee.segment (n + 2) (callee.at 0) vs t) (sym far)
        (subst (λ to. Reaches w live true (record { segment = site.segment; offset = site.at (k + 1) }) to (n + 2) (callee.at 0) vs t) (sym in_overlay) y);
    refused = λ around s t n k m left ip vs a turns b room stands some paid e. stub_refuses w site live fits s t a n k vs b place number (callee.at 0) enters room chained (not_set (w.program.overlaid key.unit) s.flag e) named stands around m left ip turns refusals some paid;
    body = body;
    short = short;
  }
