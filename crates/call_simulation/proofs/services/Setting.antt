-- The act that sets the installed flag.
use Rattle.std.proofs.Common.{◌≡◌, ℕ, zero, suc, ◌+◌, ◌≤◌, Bool, true, false, [], None, Ok, Err, arith, refl, sym, ap, subst, ◌∙◌}
use Rattle.std.specs.Prelude.{IsTrue, if◌then◌else◌, not, ◌&&◌}
use Rattle.common_values.specs.behaviour.Seen.{Going}
use Rattle.x86_table.specs.declared.instr.Immediate.TheVariants as immediate
use Rattle.x86_table.specs.declared.instr.Instr.{Instr}
use Rattle.x86_table.specs.declared.instr.Instr.TheVariants as instr
use Rattle.x86_table.specs.declared.operand.ByteOperand.TheVariants as byte_rm
use Rattle.x86_table.specs.declared.operand.Place.TheVariants.{Direct}
use Rattle.flat_code.specs.Calls.{begun, spent, flag_act}
use Rattle.flat_code.specs.Tree.{Runtime}
use Rattle.cpu_8086.specs.declared.registers.Registers.{Registers}
use Rattle.cpu_8086.specs.Access.{Act, Write, Done, at_offset, put_byte}
use Rattle.cpu_8086.specs.Effect.{act}
use Rattle.cpu_8086.specs.Memory.{address}
use Rattle.cpu_8086.specs.Operand.{offset_of}
use Rattle.resident_machine.specs.Astray.{Uninstalls, and_then}
use Rattle.resident_machine.specs.Cells.{Cell, Known, with_cell, is_free}
use Rattle.resident_machine.specs.Dos.{plainly}
use Rattle.resident_machine.specs.Effect.{Outcome, with_memory, completed, is_zero, kept_installed, on_cells, plain_effect, effect_of}
use Rattle.resident_machine.specs.Program.{Image, Program}
use Rattle.resident_machine.specs.State.{ResidentState, Service, NoService}
use Rattle.resident_machine.specs.machine_lines.Steps.{ReadsAbove, Moves, Leads}
use Rattle.resident_machine.proofs.machine_lines.Steps.{leads_on, nothing_owed}
use Rattle.resident_machine.proofs.machine_lines.Straight.{standing, past_line, same_stack}
use Rattle.resident_machine.proofs.machine_lines.Words.{same_cell, other_cell}
use Rattle.code_templates.specs.code_lines.Operands.{memory_at}
use Rattle.statement_simulation.proofs.expressions.Loads.{data_segment_is}
use Rattle.statement_simulation.proofs.expressions.Operands.{direct_offset}
use Rattle.statement_simulation.specs.flow.Sites.{World, Site, Live, Fits, IsFlag}
use Rattle.statement_simulation.specs.flow.Outcomes.{Flows}
use Rattle.statement_simulation.specs.flow.Lists.{StepFlows}
use Rattle.statement_simulation.proofs.flow.Flows.{settles_here}
use Rattle.statement_simulation.proofs.flow.States.{budget_grows, budget_more}
use Rattle.call_simulation.specs.frames.Chain.{IsChained}
use Rattle.call_simulation.proofs.frames.Leave.{with_cell_free}
use Rattle.call_simulation.specs.calls.Enters.{CallsTo}
use Rattle.call_simulation.proofs.calls.Near.{free_goes}
use Rattle.call_simulation.specs.services.Services.{flag_code, HasService, HasFlag}
use Rattle.call_simulation.proofs.services.Returning.{Inside, caller_again, returns, served_represents}
use Rattle.call_simulation.proofs.services.Services.{entered, enters, called, flag_is_kept}

-- ## The instruction

abbrev set_flag : ℕ → Instr
set_flag o = instr.MovImmediate (immediate.Byte (byte_rm.Mem (memory_at (Direct o))) 1)

set_tree : (g : Registers) (o : ℕ) → act g (set_flag o) ≡ Write (address g.ds o) 1 (Done g)
unfolding act put_byte
set_tree g o =
    data_segment_is g o (λ segment. Write (address segment (offset_of g (Direct o))) 1 (Done g)) ∙ ap (λ n. Write (address g.ds n) 1 (Done g)) (direct_offset g o)

-- an effect that leaves the flag set
set_goes : (p : Program) (r t : ResidentState) (service : Service) (i : Instr) → r.half ≡ false → plain_effect p r i ≡ Ok (t, service) → t.cells p.installed ≡ Known 1 → effect_of p r i ≡ Ok (t, service)
unfolding effect_of
set_goes p r t service i half e flag =
    ap (λ b. and_then (if b then completed p r i else plain_effect p r i) (kept_installed p r)) half
    ∙ ap (λ o. and_then o (kept_installed p r)) e
    ∙ ap (λ b. if not (is_zero (r.cells p.installed)) && b then Err Uninstalls else done) (ap is_zero flag)
    ∙ by (not (is_zero (r.cells p.installed)))
  where
    done : Outcome
    done = Ok (t, service)

    by : (b : Bool) → (if b && false then Err Uninstalls else done) ≡ done
    by true = refl
    by false = refl

flag_free : (flag : Bool) (cell : Cell) → IsFlag flag cell → IsTrue (is_free cell)
flag_free false cell e = subst (λ c. IsTrue (is_free c)) (sym e) refl
flag_free true cell e = subst (λ c. IsTrue (is_free c)) (sym e.1) refl

-- ## The act

pub flag_flows : (w : World) (site : Site) (live : Live) → Fits w site live → (IsTrue w.framed → IsChained w live) → (offset : ℕ) → HasFlag w offset → HasService w site.context.addresses.flag_routine (flag_code offset) → 72 ≤ live.frame.sp → 3 ≤ w.rate → (bound pointer : ℕ) → StepFlows w site live bound pointer (Runtime 4 [] None)
flag_flows w site live fits chained offset flag service tall rate bound pointer around k s r few here a stands small = by s.turns refl
  where
    room : 72 ≤ r.registers.sp
    room = let sp = a.sp in omega (arith, tall, sp)

    one : ResidentState
    one = entered w site live fits chained s r a room site.context.addresses.flag_routine (flag_code offset) service k here stands

    enters_one : CallsTo true (record { segment = site.segment; offset = site.at (k + 1) }) (Image service.segment) (service.at 0) r one
    enters_one = enters w site live fits chained s r a room site.context.addresses.flag_routine (flag_code offset) service k here stands

    installed : ℕ
    installed = w.machine.installed

    same_flag : one.cells installed ≡ r.cells installed
    same_flag = enters_one.bytes installed (flag_is_kept w site live fits chained s r a room site.context.addresses.flag_routine (flag_code offset) service k here stands)

    -- the flag's byte is 1
    two : ResidentState
    two = with_memory one (at_offset one.registers (service.at 1)) (with_cell one.cells installed (Known 1))

    flag_place : address one.registers.ds offset ≡ installed
    flag_place = ap (λ n. address n offset) (enters_one.ds ∙ a.active.ds) ∙ flag.there

    sets : Leads w.machine w.framed 1 one two
    sets =
        let i = set_flag offset in
        let g = at_offset one.registers (service.at 1) in
        let next = past_line (Image service.segment) service.at 0 i one enters_one.here service.stands.0.1 (service.placed.fits 1) in
        let done : Act = Done g in
        let tree = ap (λ h. act h i) next ∙ set_tree g offset ∙ ap (λ n. Write n 1 done) flag_place in
        let free = subst (λ cell. IsTrue (is_free cell)) (sym same_flag) (flag_free s.flag (r.cells installed) a.flag) in
        let effect : plain_effect w.machine one i ≡ plainly two = ap (λ t. on_cells w.machine one t one.cells) tree ∙ free_goes (one.cells installed) _ free ∙ same_stack one g (plainly two) refl in
        let moves : Moves w.machine w.framed one two = record {
          service = NoService;
          goes = record { running = enters_one.here.running; instruction = i; stands = standing w.machine (Image service.segment) service.code service.at 0 i one service.placed enters_one.here service.stands.0.0; result = set_goes w.machine one two NoService i enters_one.here.half effect (same_cell one.cells installed (Known 1)) };
          owed = nothing_owed w.framed w.machine two;
          above = subst (λ t. ReadsAbove one.registers.ss one.registers.sp t one.cells) (sym tree) tt;
        } in
        (two, moves, refl)

    inside_two : Inside w site live fits chained s r a room service.segment (service.at 1) (site.at (k + 1)) two
    inside_two =
        let c = enters_one in
        record {
          here = record { running = c.here.running; half = c.here.half; segment = c.here.segment; offset = refl };
          sp = c.sp;
          bp = c.bp;
          ss = c.ss;
          ds = c.ds;
          direction = c.direction;
          bytes = λ place kept apart. other_cell one.cells installed (Known 1) place apart ∙ c.bytes place kept;
          free = λ place f apart. with_cell_free one.cells installed (Known 1) place refl (λ other. c.free place f apart);
          records = c.return;
          input = c.input;
          taken = c.taken;
          out = c.out;
          err = c.err;
        }

    by : (turns : ℕ) → s.turns ≡ turns → Flows w site live around (site.at (k + 1)) s r (spent turns (begun 1 s) (λ u. flag_act [] u))
    by zero e = settles_here w site live fits Going (s.work + 1) s.turns s r (omega (arith, e), here.running) (budget_more w s.work 1) a
    by (suc left) e =
        let z = returns w site live fits chained s r a room service.segment service.code service.at service.labels service.placed 1 (site.at (k + 1)) two inside_two service.stands.1 in
        let end = caller_again w site live fits chained s r a room service.segment service.code service.at service.labels service.placed 1 (site.at (k + 1)) two inside_two service.stands.1 in
        let c = called w site live fits chained s r a room site.context.addresses.flag_routine (flag_code offset) service k here stands in
        record {
          count = 1 + (1 + 1);
          end = end;
          leads = leads_on w.machine w.framed 1 (1 + 1) r one end c.leads (leads_on w.machine w.framed 1 1 one two end sets z.leads);
          here = z.here;
          stands = served_represents w site live fits chained s r a room (site.at (k + 1)) left (s.work + 1) true two end z (0, same_cell one.cells installed (Known 1)) (λ h. refl);
          enough = omega (arith, e);
          fewer = omega (arith, e);
          work = budget_grows w s.work 1 3 rate (omega arith);
          free = z.free;
          input = z.input;
        }
