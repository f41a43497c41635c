-- The act that ends the run: its code and what it means.
use Rattle.std.proofs.Common.{◌≡◌, ℕ, zero, suc, ◌+◌, ◌-◌, ◌*◌, ◌/◌, ◌%◌, ◌≤◌, List, [], ◌∷◌, ◌++◌, length, Ok, Err, arith, refl, sym, ap, subst, length-append}
use Rattle.std.specs.Prelude.{None}
use Rattle.common_values.specs.behaviour.Seen.{Ended, Going, Undefined}
use Rattle.x86_table.specs.declared.operand.WordReg.TheVariants as word
use Rattle.x86_table.specs.Standing.{IsSpelledAt, Stands}
use Rattle.x86_table.proofs.Stand.{stands_front, stands_back}
use Rattle.flat_code.specs.declared.memory.Trap.TheVariants.{ByZero, Bad}
use Rattle.flat_code.specs.Calls.{State, with_found, spent, spend, begun, end_act}
use Rattle.flat_code.specs.Legal.{exprs_depth}
use Rattle.flat_code.specs.Meaning.{values_of, step_of, run}
use Rattle.flat_code.specs.Memory.{Found}
use Rattle.flat_code.specs.Tree.{Expr, exprs_size, Runtime}
use Rattle.cpu_8086.specs.Access.{at_offset}
use Rattle.resident_machine.specs.Dos.{exit_call}
use Rattle.resident_machine.specs.Effect.{with_memory}
use Rattle.resident_machine.specs.State as resident
use Rattle.resident_machine.specs.State.{ResidentState}
use Rattle.resident_machine.specs.machine_lines.Straight.{ones, IsAt}
use Rattle.resident_machine.specs.machine_lines.Words.{HoldsWord}
use Rattle.resident_machine.proofs.machine_lines.Steps.{leads_on}
use Rattle.code_templates.specs.code_lines.Addresses.{Context}
use Rattle.code_templates.specs.code_lines.Expressions.{args_code}
use Rattle.code_templates.specs.code_lines.Lines.{Around, end_code}
use Rattle.statement_simulation.specs.flow.Sites.{World, Site, Live, Fits, Represents}
use Rattle.statement_simulation.specs.flow.Outcomes.{budget, Settles, Flows, EndsErrors}
use Rattle.statement_simulation.specs.flow.Lists.{StepFlows}
use Rattle.statement_simulation.proofs.flow.States.{budget_grows, budget_more}
use Rattle.statement_simulation.proofs.flow.Flows.{settles_here, error_flows}
use Rattle.statement_simulation.proofs.flow.Lists.{length-ones}
use Rattle.effect_simulation.specs.effects.Pushed.{AllHaveWords, Pushes, PushesAll}
use Rattle.effect_simulation.proofs.effects.Arguments.{args_run}
use Rattle.effect_simulation.proofs.effects.Dos.{dos_leads, exits}
use Rattle.effect_simulation.proofs.effects.Pops.{registers_popped, pops, ending}

module _ (w : World) (site : Site) (live : Live) (fits : Fits w site live) where
  abbrev x : Context
  x = site.context

  -- the code was pushed, and the run ends with it
  end_settles : (n k m left code : ℕ) (s : State) (r : ResidentState) → Represents w live s r → s.turns ≡ suc left → 66 ≤ r.registers.sp → (b : Pushes w.machine w.framed site.segment n (site.at k) r (code ∷ [])) → n + 3 + budget w s.work ≤ budget w (s.work + m) → Stands (IsSpelledAt site.code) site.at site.labels k (ones end_code) → Settles w (Ended (code % 256)) s r (record s { turns = left; work = s.work + m })
  end_settles n k m left code s r a turns room b paid stands =
      let p = w.machine in
      let g0 = r.registers in
      let g1 = b.registers in
      let c1 = b.cells in
      let top = a.active.top in
      let sp1 = b.sp in
      let o1 : g0.sp - 2 ≡ g1.sp = omega arith in
      let w1 = subst (λ z. HoldsWord c1 z g1.sp code) (sym b.ss) (subst (λ z. HoldsWord c1 g0.ss z code) o1 b.words.0) in
      let r1 = with_memory r g1 c1 in
      let popped = pops p w.framed site.segment site.code site.at site.labels fits.placed k code word.Ax r1 w1 (omega arith) (omega arith) b.here (stands.0, tt) in
      let r2 = with_memory r (registers_popped g1 (site.at (k + 1)) word.Ax code) c1 in
      let named = ending p w.framed site.segment site.code site.at site.labels fits.placed (k + 1) r2 popped.here (stands.1.0, tt) in
      let g3 = record (at_offset r2.registers (site.at (k + 1 + 1))) { ax = 256 * 76 + code % 256 } in
      let r3 = with_memory r g3 c1 in
      let t = with_memory r (at_offset g3 (site.at (k + 1 + 1 + 1))) c1 in
      let high : (256 * 76 + code % 256) / 256 ≡ 76 = omega arith in
      let low : (256 * 76 + code % 256) % 256 ≡ code % 256 = omega arith in
      let end = exit_call t in
      let other : (256 * 76 + code % 256) / 256 ≡ 64 → ⊥ = λ e. absurd (omega arith) in
      let done = dos_leads p w.framed site.segment site.code site.at (k + 1 + 1) r3 end fits.placed named.here stands.1.1.0.0 stands.1.1.0.1 (λ one ah i less. absurd (other ah)) (exits r3 t high) refl in
      let few = b.few in
      record {
        count = b.count + (1 + (1 + 1));
        end = end;
        leads = leads_on p w.framed b.count (1 + (1 + 1)) r r1 end b.leads (leads_on p w.framed 1 (1 + 1) r1 r2 end popped.leads (leads_on p w.framed 1 1 r2 r3 end named.leads done));
        so = ap (λ n. resident.Ended n) low;
        work = omega arith;
        unread = a.unread;
        read = a.read;
        out = a.out;
        err = a.err;
        input = refl;
      }

  act_flows : (around : Around) (n k m left : ℕ) (s : State) (r : ResidentState) → Represents w live s r → s.turns ≡ suc left → 66 ≤ r.registers.sp → n + 3 + budget w s.work ≤ budget w (s.work + m) → Stands (IsSpelledAt site.code) site.at site.labels k (ones end_code) → (vs : List ℕ) → Pushes w.machine w.framed site.segment n (site.at k) r vs → Flows w site live around (site.at (k + 3)) s r (end_act vs (record s { turns = left; work = s.work + m }))
  act_flows around n k m left s r a turns room paid stands [] b = settles_here w site live fits (Undefined 1) (s.work + m) left s r tt (budget_more w s.work m) a
  act_flows around n k m left s r a turns room paid stands (code ∷ []) b = end_settles n k m left code s r a turns room b paid stands
  act_flows around n k m left s r a turns room paid stands (v1 ∷ v2 ∷ vs) b = settles_here w site live fits (Undefined 1) (s.work + m) left s r tt (budget_more w s.work m) a

  -- a turn is spent
  spent_flows : (around : Around) (n k m kr : ℕ) (s : State) (r : ResidentState) → IsAt site.segment kr r → Represents w live s r → 66 ≤ r.registers.sp → EndsErrors w live x.addresses.error_routine → n + 3 + budget w s.work ≤ budget w (s.work + m) → Stands (IsSpelledAt site.code) site.at site.labels k (ones end_code) → (found : Found (List ℕ)) → PushesAll w.machine w.framed site.segment x.addresses.error_routine n (site.at k) r found → Flows w site live around (site.at (k + 3)) s r (with_found found (begun m s) (λ vs. spend (begun m s) (end_act vs)))
  spent_flows around n k m kr s r here a room ends paid stands (Ok vs) b = by s.turns refl
    where
      by : (turns : ℕ) → s.turns ≡ turns → Flows w site live around (site.at (k + 3)) s r (spent turns (begun m s) (end_act vs))
      by zero e = settles_here w site live fits Going (s.work + m) s.turns s r (omega (arith, e), here.running) (budget_more w s.work m) a
      by (suc left) e = act_flows around n k m left s r a e room paid stands vs b
  spent_flows around n k m kr s r here a room ends paid stands (Err ByZero) b = error_flows w site live fits around kr (site.at (k + 3)) n m 200 s r here a ends (omega arith) (omega arith) b
  spent_flows around n k m kr s r here a room ends paid stands (Err (Bad cause)) b = settles_here w site live fits (Undefined cause) (s.work + m) s.turns s r tt (budget_more w s.work m) a

  pub end_flows : (bound pointer : ℕ) → EndsErrors w live x.addresses.error_routine → (args : List Expr) → AllHaveWords args → 66 + 2 * (length args + exprs_depth args) ≤ live.frame.sp → StepFlows w site live bound pointer (Runtime 2 args None)
  end_flows bound pointer ends args words room around k s r few here a stands small =
      let is = args_code x args in
      let n = length is in
      let m = 1 + exprs_size args in
      let sp = a.sp in
      let front = length-ones is in
      let tail = ones end_code ++ ones [] in
      let whole = length-append (ones is) tail in
      let s0 = stands_front (IsSpelledAt site.code) site.at site.labels k (ones is) tail stands in
      let s1 = subst (λ z. Stands (IsSpelledAt site.code) site.at site.labels (k + z) tail) front (stands_back (IsSpelledAt site.code) site.at site.labels k (ones is) tail stands) in
      let b = args_run w.machine w.framed site.segment site.code site.at site.labels fits.placed x fits.error w.choice live.frame s.cells fits.suits args k r words here a.active (omega arith) s0 in
      let paid = budget_grows w s.work m (n + 3) (omega arith) (omega arith) in
      let there : k + n + 3 ≡ k + length (ones is ++ tail) = omega arith in
      let flows = spent_flows around n (k + n) m (site.at k) s r here a (omega arith) ends paid s1 (values_of w.choice live.frame s.cells args) b in
      subst (λ z. Flows w site live around (site.at z) s r (step_of w.program w.choice (run w.program w.choice) (Runtime 2 args None) live.frame (begun m s))) there flows
