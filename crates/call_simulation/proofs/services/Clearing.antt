-- The act that clears the overlay buffer, with overlays and without.
use Rattle.std.proofs.Common.{◌≡◌, ℕ, zero, suc, ◌+◌, ◌≤◌, inl, inr, Bool, true, false, [], None, Ok, arith, refl, sym, ap, subst, ◌∙◌}
use Rattle.std.specs.Prelude.{IsTrue}
use Rattle.common_values.specs.behaviour.Seen.{Going}
use Rattle.x86_table.specs.declared.instr.Instr.TheVariants as instr
use Rattle.flat_code.specs.Calls.{begun, spent, clear_act}
use Rattle.flat_code.specs.Tree.{Runtime}
use Rattle.cpu_8086.specs.declared.registers.Registers.{Registers}
use Rattle.cpu_8086.specs.Access.{Interrupt, at_offset}
use Rattle.cpu_8086.specs.Effect.{act}
use Rattle.resident_machine.specs.Effect.{with_memory, blurred, cleared, serviced, on_cells, plain_effect}
use Rattle.resident_machine.specs.Program.{Image, Overlay}
use Rattle.resident_machine.specs.State.{ResidentState, AtClear}
use Rattle.resident_machine.specs.machine_lines.Steps.{Owed, ReadsAbove, Moves, Leads}
use Rattle.resident_machine.proofs.machine_lines.Steps.{leads_on}
use Rattle.resident_machine.proofs.machine_lines.Straight.{plain_goes, standing, past_line, same_stack}
use Rattle.statement_simulation.specs.flow.Sites.{World, Site, Live, Fits, IsFlag}
use Rattle.statement_simulation.specs.flow.Outcomes.{Flows}
use Rattle.statement_simulation.specs.flow.Lists.{StepFlows}
use Rattle.statement_simulation.proofs.flow.Flows.{settles_here}
use Rattle.statement_simulation.proofs.flow.States.{budget_grows, budget_more}
use Rattle.call_simulation.specs.frames.Chain.{IsChained}
use Rattle.call_simulation.proofs.frames.Leave.{back_free, back_other}
use Rattle.call_simulation.specs.calls.Enters.{CallsTo}
use Rattle.call_simulation.proofs.calls.Entered.{framed_call}
use Rattle.call_simulation.specs.services.Services.{clear_code, idle_code, HasService, HasClear}
use Rattle.call_simulation.proofs.services.Returning.{Inside, caller_again, returns, served_represents}
use Rattle.call_simulation.proofs.services.Services.{nothing, entered, enters, called, inside_of, flag_is_kept, below_apart}

int_tree : (g : Registers) → act g (instr.Int 0x60) ≡ Interrupt g 96
unfolding act
int_tree g = refl

sends_out_flows : (w : World) (site : Site) (live : Live) → Fits w site live → (IsTrue w.framed → IsChained w live) → HasService w site.context.addresses.clear_routine clear_code → 72 ≤ live.frame.sp → 3 ≤ w.rate → (bound pointer : ℕ) → StepFlows w site live bound pointer (Runtime 3 [] None)
sends_out_flows w site live fits chained service tall rate bound pointer around k s r few here a stands small = by s.turns refl
  where
    room : 72 ≤ r.registers.sp
    room = let sp = a.sp in omega (arith, tall, sp)

    one : ResidentState
    one = entered w site live fits chained s r a room site.context.addresses.clear_routine clear_code service k here stands

    enters_one : CallsTo true (record { segment = site.segment; offset = site.at (k + 1) }) (Image service.segment) (service.at 0) r one
    enters_one = enters w site live fits chained s r a room site.context.addresses.clear_routine clear_code service k here stands

    -- past INT 60h, before what a service may overwrite
    past_one : ResidentState
    past_one = with_memory one (at_offset one.registers (service.at 1)) one.cells

    two : ResidentState
    two = blurred past_one

    enters_two : CallsTo true (record { segment = site.segment; offset = site.at (k + 1) }) (Image service.segment) (service.at 1) r two
    enters_two =
        let c = enters_one in
        record {
          here = record { running = c.here.running; half = c.here.half; segment = c.here.segment; offset = refl };
          sp = c.sp;
          bp = c.bp;
          ss = c.ss;
          ds = c.ds;
          direction = c.direction;
          bytes = λ place kept. back_other (Overlay 0) past_one place (λ j less. below_apart w site live fits chained s r a room site.context.addresses.clear_routine clear_code service k here stands place j kept less) ∙ c.bytes place kept;
          free = λ place f apart. back_free (Overlay 0) past_one place (c.free place f apart);
          return = c.return;
          input = c.input;
          taken = c.taken;
          out = c.out;
          err = c.err;
        }

    owed : Owed w.framed w.machine AtClear two
    owed = by_framed w.framed refl
      where
        by_framed : (framed : Bool) → w.framed ≡ framed → Owed framed w.machine AtClear two
        by_framed true e =
            framed_call w live s r a site.segment 0 (site.at k) [] (nothing w site live fits chained s r a room site.context.addresses.clear_routine clear_code service k here stands) site fits chained (record { segment = site.segment; offset = site.at (k + 1) }) (Image service.segment) (service.at 1) two enters_two (let sp = enters_two.sp in let z = room in omega arith) e
        by_framed false e = tt

    clears : Leads w.machine w.framed 1 one two
    clears =
        let i = instr.Int 0x60 in
        let g = at_offset one.registers (service.at 1) in
        let next = past_line (Image service.segment) service.at 0 i one enters_one.here service.stands.0.1 (service.placed.fits 1) in
        let tree = ap (λ h. act h i) next ∙ int_tree g in
        let effect : plain_effect w.machine one i ≡ Ok (two, AtClear) = ap (λ t. on_cells w.machine one t one.cells) tree ∙ same_stack one g (serviced one past_one 96) refl ∙ ap (λ cs. cleared cs past_one) enters_one.here.segment in
        let flag = back_other (Overlay 0) past_one w.machine.installed (λ j less. below_apart w site live fits chained s r a room site.context.addresses.clear_routine clear_code service k here stands w.machine.installed j (flag_is_kept w site live fits chained s r a room site.context.addresses.clear_routine clear_code service k here stands) less) in
        let moves : Moves w.machine w.framed one two = record {
          service = AtClear;
          goes = record { running = enters_one.here.running; instruction = i; stands = standing w.machine (Image service.segment) service.code service.at 0 i one service.placed enters_one.here service.stands.0.0; result = plain_goes w.machine one two AtClear i enters_one.here.half effect flag };
          owed = owed;
          above = subst (λ t. ReadsAbove one.registers.ss one.registers.sp t one.cells) (sym tree) (λ e. absurd (omega (arith, e)));
        } in
        (two, moves, refl)

    inside_two : Inside w site live fits chained s r a room service.segment (service.at 1) (site.at (k + 1)) two
    inside_two = inside_of w site live fits chained s r a room site.context.addresses.clear_routine clear_code service k here stands (service.at 1) two enters_two

    flag_shown : IsFlag s.flag (two.cells w.machine.installed)
    flag_shown = subst (λ cell. IsFlag s.flag cell) (sym (enters_two.bytes w.machine.installed (flag_is_kept w site live fits chained s r a room site.context.addresses.clear_routine clear_code service k here stands))) a.flag

    by : (turns : ℕ) → s.turns ≡ turns → Flows w site live around (site.at (k + 1)) s r (spent turns (begun 1 s) (λ u. clear_act [] u))
    by zero e = settles_here w site live fits Going (s.work + 1) s.turns s r (omega (arith, e), here.running) (budget_more w s.work 1) a
    by (suc left) e =
        let z = returns w site live fits chained s r a room service.segment service.code service.at service.labels service.placed 1 (site.at (k + 1)) two inside_two service.stands.1 in
        let end = caller_again w site live fits chained s r a room service.segment service.code service.at service.labels service.placed 1 (site.at (k + 1)) two inside_two service.stands.1 in
        let c = called w site live fits chained s r a room site.context.addresses.clear_routine clear_code service k here stands in
        record {
          count = 1 + (1 + 1);
          end = end;
          leads = leads_on w.machine w.framed 1 (1 + 1) r one end c.leads (leads_on w.machine w.framed 1 1 one two end clears z.leads);
          here = z.here;
          stands = served_represents w site live fits chained s r a room (site.at (k + 1)) left (s.work + 1) s.flag two end z flag_shown (λ h. h);
          enough = omega (arith, e);
          fewer = omega (arith, e);
          work = budget_grows w s.work 1 3 rate (omega arith);
          free = z.free;
          input = z.input;
        }

idle_flows : (w : World) (site : Site) (live : Live) → Fits w site live → (IsTrue w.framed → IsChained w live) → HasService w site.context.addresses.clear_routine idle_code → 72 ≤ live.frame.sp → 3 ≤ w.rate → (bound pointer : ℕ) → StepFlows w site live bound pointer (Runtime 3 [] None)
idle_flows w site live fits chained service tall rate bound pointer around k s r few here a stands small = by s.turns refl
  where
    room : 72 ≤ r.registers.sp
    room = let sp = a.sp in omega (arith, tall, sp)

    one : ResidentState
    one = entered w site live fits chained s r a room site.context.addresses.clear_routine idle_code service k here stands

    enters_one : CallsTo true (record { segment = site.segment; offset = site.at (k + 1) }) (Image service.segment) (service.at 0) r one
    enters_one = enters w site live fits chained s r a room site.context.addresses.clear_routine idle_code service k here stands

    inside_one : Inside w site live fits chained s r a room service.segment (service.at 0) (site.at (k + 1)) one
    inside_one = inside_of w site live fits chained s r a room site.context.addresses.clear_routine idle_code service k here stands (service.at 0) one enters_one

    flag_shown : IsFlag s.flag (one.cells w.machine.installed)
    flag_shown = subst (λ cell. IsFlag s.flag cell) (sym (enters_one.bytes w.machine.installed (flag_is_kept w site live fits chained s r a room site.context.addresses.clear_routine idle_code service k here stands))) a.flag

    by : (turns : ℕ) → s.turns ≡ turns → Flows w site live around (site.at (k + 1)) s r (spent turns (begun 1 s) (λ u. clear_act [] u))
    by zero e = settles_here w site live fits Going (s.work + 1) s.turns s r (omega (arith, e), here.running) (budget_more w s.work 1) a
    by (suc left) e =
        let z = returns w site live fits chained s r a room service.segment service.code service.at service.labels service.placed 0 (site.at (k + 1)) one inside_one service.stands in
        let end = caller_again w site live fits chained s r a room service.segment service.code service.at service.labels service.placed 0 (site.at (k + 1)) one inside_one service.stands in
        let c = called w site live fits chained s r a room site.context.addresses.clear_routine idle_code service k here stands in
        record {
          count = 1 + 1;
          end = end;
          leads = leads_on w.machine w.framed 1 1 r one end c.leads z.leads;
          here = z.here;
          stands = served_represents w site live fits chained s r a room (site.at (k + 1)) left (s.work + 1) s.flag one end z flag_shown (λ h. h);
          enough = omega (arith, e);
          fewer = omega (arith, e);
          work = budget_grows w s.work 1 2 (omega (arith, rate)) (omega arith);
          free = z.free;
          input = z.input;
        }

pub clear_flows : (w : World) (site : Site) (live : Live) → Fits w site live → (IsTrue w.framed → IsChained w live) → HasClear w site.context.addresses.clear_routine → 72 ≤ live.frame.sp → 3 ≤ w.rate → (bound pointer : ℕ) → StepFlows w site live bound pointer (Runtime 3 [] None)
clear_flows w site live fits chained (inl service) = sends_out_flows w site live fits chained service
clear_flows w site live fits chained (inr service) = idle_flows w site live fits chained service
