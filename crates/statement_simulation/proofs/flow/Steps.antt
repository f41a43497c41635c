-- The steps that call nothing and copy nothing do what they mean.
use Rattle.std.proofs.Common.{◌≡◌, ℕ, zero, suc, ◌+◌, ◌*◌, ◌<◌, ◌≤◌, [], ◌∷◌, ◌++◌, length, Ok, Err, arith, refl, sym, subst, ◌∙◌}
use Rattle.std.specs.Prelude.{slice_index_or}
use Rattle.common_values.specs.behaviour.Seen.{Undefined}
use Rattle.common_values.specs.integers.Words.{low_byte}
use Rattle.x86_table.specs.declared.line.Line.TheVariants.{JumpNear}
use Rattle.x86_table.specs.Standing.{IsSpelledAt, LineStands}
use Rattle.flat_code.specs.declared.memory.Cell.{Cell}
use Rattle.flat_code.specs.declared.memory.Cell.TheVariants as flat
use Rattle.flat_code.specs.declared.memory.Trap.TheVariants.{ByZero, Bad}
use Rattle.flat_code.specs.declared.tree.Address.{Address}
use Rattle.flat_code.specs.Memory as flat_memory
use Rattle.flat_code.specs.Memory.{Found, ◌>>=◌, word_bytes}
use Rattle.flat_code.specs.Program.{Choice}
use Rattle.flat_code.specs.Values.{Frame, value_of}
use Rattle.flat_code.specs.Calls.{State, Outcome, with_found, begun, set_cells, stored_at}
use Rattle.flat_code.specs.Laws.{StaysShut}
use Rattle.flat_code.specs.Legal.{expr_depth}
use Rattle.flat_code.specs.Meaning.{step_of, run}
use Rattle.flat_code.specs.Tree.{Expr, expr_size, Step, StoreByte, StoreWord, Leave, Return, Error, step_size, Do, End}
use Rattle.flat_code.proofs.Nodes.{run-alone}
use Rattle.flat_code.proofs.Shut.{run-shut}
use Rattle.cpu_8086.specs.declared.registers.Registers.{Registers}
use Rattle.cpu_8086.specs.Access.{at_offset}
use Rattle.resident_machine.specs.Cells.{Cells}
use Rattle.resident_machine.specs.Effect.{with_memory}
use Rattle.resident_machine.specs.State.{ResidentState}
use Rattle.resident_machine.specs.machine_lines.Straight.{IsAt}
use Rattle.resident_machine.proofs.machine_lines.Jumps.{jumps}
use Rattle.code_templates.specs.code_lines.Addresses.{Context}
use Rattle.code_templates.specs.code_lines.Expressions.{expr_code}
use Rattle.code_templates.specs.code_lines.Lines.{Around, store_byte, store_word}
use Rattle.statement_simulation.specs.expressions.Active.{Active}
use Rattle.statement_simulation.specs.expressions.Evaluates.{HasWords}
use Rattle.statement_simulation.proofs.expressions.Division.{fail_run}
use Rattle.statement_simulation.proofs.expressions.Runs.{jump_comes}
use Rattle.statement_simulation.specs.stores.Stores.{Stores, Follows, word_stored, byte_stored}
use Rattle.statement_simulation.proofs.stores.Stores.{store_word_runs, store_byte_runs}
use Rattle.statement_simulation.specs.flow.Sites.{World, Site, Live, Fits, IsFlag, Represents}
use Rattle.statement_simulation.specs.flow.Outcomes.{budget, Arrives, Flows, EndsErrors}
use Rattle.statement_simulation.specs.flow.Lists.{StepFlows}
use Rattle.statement_simulation.proofs.flow.States.{budget_grows, budget_more, flag_kept, fixed_kept, represents_like, comes_arrives}
use Rattle.statement_simulation.proofs.flow.Flows.{settles_here, error_flows}
use Rattle.statement_simulation.proofs.flow.Lists.{length-ones}

-- flat code can't reach the installed flag
pub flag_outside : (flag : ℕ) (choice : Choice) (f : Frame) (m : flat_memory.Cells) (g : Registers) (c : Cells) → Active flag choice f m g c → m flag ≡ flat.Outside
flag_outside flag choice f m g c a = by (m flag) refl
  where
    by : (x : Cell) → m flag ≡ x → x ≡ flat.Outside
    by (flat.Known b) e = absurd ((a.reached flag (λ o. let z = sym e ∙ o in absurd (cc))).apart refl)
    by flat.Unset e = absurd ((a.reached flag (λ o. let z = sym e ∙ o in absurd (cc))).apart refl)
    by flat.Outside e = refl

found_bind : {A B : Type 0} (found : Found A) (h : A → Found B) (s : State) (go : B → Outcome) → with_found (found >>= h) s go ≡ with_found found s (λ v. with_found (h v) s go)
found_bind (Ok v) h s go = refl
found_bind (Err trap) h s go = refl

module _ (w : World) (site : Site) (live : Live) (fits : Fits w site live) where
  abbrev x : Context
  x = site.context

  -- what was outside before a step is outside behind it
  pub step_shut : (step : Step) (s : State) → StaysShut s (step_of w.program w.choice (run w.program w.choice) step live.frame (begun (step_size step) s))
  step_shut step s = subst (λ o. StaysShut s o) (run-alone w.program w.choice step live.frame s (begun (step_size step) s) refl) (run-shut w.program w.choice (Do step End) live.frame s)

  -- cells that a piece of code leaves
  pub stores_arrive : (n ip m : ℕ) (s : State) (r : ResidentState) (cells : flat_memory.Cells) → Represents w live s r → Stores w.machine w.framed site.segment n ip w.choice live.frame s.cells cells r → ((place : ℕ) → s.cells place ≡ flat.Outside → cells place ≡ flat.Outside) → n + budget w s.work ≤ budget w (s.work + m) → Arrives w site live ip s r (record s { cells = cells; work = s.work + m })
  stores_arrive n ip m s r cells a b shut paid =
      let few = b.few in
      let flag = w.machine.installed in
      let same = b.outside flag (flag_outside flag w.choice live.frame s.cells r.registers r.cells a.active) (flag_kept flag w.choice live.frame s.cells r.registers r.cells a.active) in
      record {
        count = b.count;
        end = with_memory r b.registers b.cells;
        leads = b.leads;
        here = b.here;
        stands = record {
          active = b.active;
          sp = b.sp ∙ a.sp;
          direction = b.direction ∙ a.direction;
          flag = subst (λ cell. IsFlag s.flag cell) (sym same) a.flag;
          set = a.set;
          outside = λ place byte e. shut place (a.outside place byte e);
          fixed = λ place byte e. b.outside place (a.outside place byte e) (fixed_kept w site live fits s r place byte a e) ∙ a.fixed place byte e;
          records = a.records;
          unread = a.unread;
          bytes = a.bytes;
          read = a.read;
          out = a.out;
          err = a.err;
        };
        enough = omega arith;
        fewer = omega arith;
        work = omega arith;
        free = b.free;
        input = refl;
      }

  pub follows_flows : (around : Around) (n ip kr m : ℕ) (s : State) (r : ResidentState) → EndsErrors w live x.addresses.error_routine → IsAt site.segment kr r → Represents w live s r → n + budget w s.work ≤ budget w (s.work + m) → (found : Found flat_memory.Cells) → Follows w.machine w.framed site.segment x.addresses.error_routine n ip w.choice live.frame s.cells r found → StaysShut s (with_found found (begun m s) (set_cells (begun m s))) → Flows w site live around ip s r (with_found found (begun m s) (set_cells (begun m s)))
  follows_flows around n ip kr m s r ends here a paid (Ok cells) b shut = stores_arrive n ip m s r cells a b shut paid
  follows_flows around n ip kr m s r ends here a paid (Err ByZero) b shut = error_flows w site live fits around kr ip n m 200 s r here a ends (omega arith) paid b
  follows_flows around n ip kr m s r ends here a paid (Err (Bad act)) b shut = settles_here w site live fits (Undefined act) (s.work + m) s.turns s r tt (budget_more w s.work m) a

  pub byte_flows : (bound pointer : ℕ) → EndsErrors w live x.addresses.error_routine → (to : Address) (e : Expr) → HasWords e → 64 + 2 * expr_depth e ≤ live.frame.sp → StepFlows w site live bound pointer (StoreByte to e)
  byte_flows bound pointer ends to e words room around k s r few here a stands small =
      let is = expr_code x e ++ store_byte x to in
      let m = 1 + expr_size e in
      let sp = a.sp in
      let size = length-ones is in
      let found = byte_stored w.choice live.frame s.cells to e in
      let stored = store_byte_runs w.machine w.framed site.segment site.code site.at site.labels fits.placed x fits.error w.choice live.frame s.cells fits.suits to e words k r here a.active (omega arith) stands in
      let same = found_bind (value_of w.choice live.frame s.cells e) (λ v. stored_at w.choice live.frame s.cells to (low_byte v ∷ [])) (begun m s) (set_cells (begun m s)) in
      let shut = subst (λ o. StaysShut s o) (sym same) (step_shut (StoreByte to e) s) in
      let paid = budget_grows w s.work m (length is) (omega arith) (omega arith) in
      let flows = follows_flows around (length is) (site.at (k + length is)) (site.at k) m s r ends here a paid found stored shut in
      subst (λ n. Flows w site live around (site.at (k + n)) s r (step_of w.program w.choice (run w.program w.choice) (StoreByte to e) live.frame (begun m s))) (sym size)
      (subst (λ o. Flows w site live around (site.at (k + length is)) s r o) same flows)

  pub word_flows : (bound pointer : ℕ) → EndsErrors w live x.addresses.error_routine → (to : Address) (e : Expr) → HasWords e → 64 + 2 * expr_depth e ≤ live.frame.sp → StepFlows w site live bound pointer (StoreWord to e)
  word_flows bound pointer ends to e words room around k s r few here a stands small =
      let is = expr_code x e ++ store_word x to in
      let m = 1 + expr_size e in
      let sp = a.sp in
      let size = length-ones is in
      let found = word_stored w.choice live.frame s.cells to e in
      let stored = store_word_runs w.machine w.framed site.segment site.code site.at site.labels fits.placed x fits.error w.choice live.frame s.cells fits.suits to e words k r here a.active (omega arith) stands in
      let same = found_bind (value_of w.choice live.frame s.cells e) (λ v. stored_at w.choice live.frame s.cells to (word_bytes v)) (begun m s) (set_cells (begun m s)) in
      let shut = subst (λ o. StaysShut s o) (sym same) (step_shut (StoreWord to e) s) in
      let paid = budget_grows w s.work m (length is) (omega arith) (omega arith) in
      let flows = follows_flows around (length is) (site.at (k + length is)) (site.at k) m s r ends here a paid found stored shut in
      subst (λ n. Flows w site live around (site.at (k + n)) s r (step_of w.program w.choice (run w.program w.choice) (StoreWord to e) live.frame (begun m s))) (sym size)
      (subst (λ o. Flows w site live around (site.at (k + length is)) s r o) same flows)

  -- a jump to a label
  jump_away : (k l : ℕ) (s : State) (r : ResidentState) → IsAt site.segment (site.at k) r → Represents w live s r → LineStands (IsSpelledAt site.code) site.at site.labels k (JumpNear l) → 1 ≤ w.rate → Arrives w site live (site.at (site.labels l)) s r (begun 1 s)
  jump_away k l s r here a stands few =
      let ip = site.at (site.labels l) in
      let j = jumps w.machine w.framed site.segment site.code site.at site.labels fits.placed k l r here stands in
      let paid = budget_grows w s.work 1 1 few (omega arith) in
      (comes_arrives w site live fits 1 ip 1 0 s r (at_offset r.registers ip) r.cells a (jump_comes w.machine w.framed site.segment ip r j) (omega arith)).0

  pub leave_flows : (bound pointer loops : ℕ) → StepFlows w site live bound pointer (Leave loops)
  leave_flows bound pointer zero around k s r few here a stands small =
      let more = budget_more w s.work 1 in
      let e : k ≡ k + 0 = omega arith in
      record {
        count = 0;
        end = r;
        leads = refl;
        here = subst (λ n. IsAt site.segment (site.at n) r) e here;
        stands = represents_like w live s s.turns (s.work + 1) r a;
        enough = omega arith;
        fewer = omega arith;
        work = omega arith;
        free = λ place h. h;
        input = refl;
      }
  leave_flows bound pointer (suc loops) around k s r few here a stands small =
      jump_away k (slice_index_or around.ends loops around.home) s r here a stands.0 small

  pub return_flows : (bound pointer : ℕ) → StepFlows w site live bound pointer Return
  return_flows bound pointer around k s r few here a stands small = jump_away k around.home s r here a stands.0 small

  pub fail_flows : (bound pointer code : ℕ) → EndsErrors w live x.addresses.error_routine → code < 65536 → 64 ≤ live.frame.sp → StepFlows w site live bound pointer (Error code)
  fail_flows bound pointer code ends small_code room around k s r few here a stands small =
      let sp = a.sp in
      let f = fail_run w.machine w.framed site.segment site.code site.at site.labels fits.placed x fits.error k code r (omega arith) here stands in
      error_flows w site live fits around (site.at k) (site.at (k + 2)) 2 1 code s r here a ends small_code (budget_grows w s.work 1 2 small (omega arith)) f
