-- The act that reads a byte: its code and what it means.
use Rattle.std.proofs.Common.{◌≡◌, ℕ, zero, suc, ◌+◌, ◌*◌, ◌≤◌, List, [], ◌∷◌, ◌++◌, length, Option, Ok, Err, arith, refl, subst, length-append}
use Rattle.common_values.specs.behaviour.Seen.{Going, Undefined}
use Rattle.x86_table.specs.Standing.{IsSpelledAt, Stands}
use Rattle.x86_table.proofs.Stand.{stands_front, stands_back}
use Rattle.flat_code.specs.declared.memory.Trap.TheVariants.{ByZero, Bad}
use Rattle.flat_code.specs.declared.tree.FlatResult.{FlatResult}
use Rattle.flat_code.specs.Calls.{State, with_found, spent, spend, begun, read_act}
use Rattle.flat_code.specs.Legal.{exprs_depth}
use Rattle.flat_code.specs.Meaning.{values_of, step_of, run}
use Rattle.flat_code.specs.Memory.{Found, word_bytes}
use Rattle.flat_code.specs.Tree.{Expr, exprs_size, Runtime}
use Rattle.resident_machine.specs.State.{ResidentState}
use Rattle.resident_machine.specs.machine_lines.Straight.{ones, IsAt}
use Rattle.code_templates.specs.code_lines.Addresses.{Context}
use Rattle.code_templates.specs.code_lines.Expressions.{args_code}
use Rattle.code_templates.specs.code_lines.Lines.{Around, read_code, taken}
use Rattle.statement_simulation.specs.flow.Sites.{World, Site, Live, Fits, AreBytes, Represents}
use Rattle.statement_simulation.specs.flow.Outcomes.{budget, Flows, EndsErrors}
use Rattle.statement_simulation.specs.flow.Lists.{StepFlows}
use Rattle.statement_simulation.proofs.flow.States.{budget_grows, budget_more}
use Rattle.statement_simulation.proofs.flow.Flows.{settles_here, error_flows}
use Rattle.statement_simulation.proofs.flow.Lists.{length-ones}
use Rattle.effect_simulation.specs.effects.Pushed.{AllHaveWords, Pushes, PushesAll}
use Rattle.effect_simulation.proofs.effects.Arguments.{args_run}
use Rattle.effect_simulation.proofs.effects.Results.{give_flows}
use Rattle.effect_simulation.proofs.effects.Taken.{bytes_of}
use Rattle.effect_simulation.proofs.effects.Getting.{got_end, got_byte}

-- a word is the bytes of AX where two are wanted
two_bytes : (v y n : ℕ) → length (word_bytes v) ≡ n → bytes_of n v y ≡ word_bytes v
two_bytes v y n e = subst (λ size. bytes_of size v y ≡ word_bytes v) e refl

module _ (w : World) (site : Site) (live : Live) (fits : Fits w site live) where
  abbrev x : Context
  x = site.context

  -- ## By what there is to read

  read_flows_by : (around : Around) (n k m left : ℕ) (s : State) (r : ResidentState) (result : Option FlatResult) → Represents w live s r → s.turns ≡ suc left → 70 ≤ live.frame.sp → (b : Pushes w.machine w.framed site.segment n (site.at k) r []) → n + 14 + length (taken x result) + budget w s.work ≤ budget w (s.work + m) → Stands (IsSpelledAt site.code) site.at site.labels k (ones read_code) → Stands (IsSpelledAt site.code) site.at site.labels (k + 14) (ones (taken x result)) → (input : List ℕ) → s.input ≡ input → Flows w site live around (site.at (k + 14 + length (taken x result))) s r (read_act w.choice live.frame [] result input (record s { turns = left; work = s.work + m }))
  read_flows_by around n k m left s r result a turns room b paid s0 s1 [] e =
      let sp = a.sp in
      let z = got_end w site live fits n k m (length (taken x result)) left s r a turns e (omega arith) b paid s0 in
      give_flows w site live fits around (k + 14) 65535 z.arrives.end.registers.dx s r (record s { turns = left; work = s.work + m }) result (word_bytes 65535) z.arrives z.ax (omega arith) refl z.dx (omega arith) z.paid (λ size e. two_bytes 65535 z.arrives.end.registers.dx size e) s1
  read_flows_by around n k m left s r result a turns room b paid s0 s1 (byte ∷ rest) e =
      let sp = a.sp in
      let small = subst AreBytes e a.bytes in
      let less = small.0 in
      let z = got_byte w site live fits n k m (length (taken x result)) left byte rest s r a turns e (omega arith) b paid s0 in
      give_flows w site live fits around (k + 14) byte z.arrives.end.registers.dx s r (record s { turns = left; work = s.work + m; input = rest }) result (word_bytes byte) z.arrives z.ax (omega arith) refl z.dx (omega arith) z.paid (λ size e. two_bytes byte z.arrives.end.registers.dx size e) s1

  -- no argument, or an undefined act
  act_flows : (around : Around) (n k m left : ℕ) (s : State) (r : ResidentState) (result : Option FlatResult) → Represents w live s r → s.turns ≡ suc left → 70 ≤ live.frame.sp → n + 14 + length (taken x result) + budget w s.work ≤ budget w (s.work + m) → Stands (IsSpelledAt site.code) site.at site.labels k (ones read_code) → Stands (IsSpelledAt site.code) site.at site.labels (k + 14) (ones (taken x result)) → (vs : List ℕ) → Pushes w.machine w.framed site.segment n (site.at k) r vs → Flows w site live around (site.at (k + 14 + length (taken x result))) s r (read_act w.choice live.frame vs result s.input (record s { turns = left; work = s.work + m }))
  act_flows around n k m left s r result a turns room paid s0 s1 [] b = read_flows_by around n k m left s r result a turns room b paid s0 s1 s.input refl
  act_flows around n k m left s r result a turns room paid s0 s1 (v ∷ vs) b = undefined s.input
    where
      undefined : (input : List ℕ) → Flows w site live around (site.at (k + 14 + length (taken x result))) s r (read_act w.choice live.frame (v ∷ vs) result input (record s { turns = left; work = s.work + m }))
      undefined [] = settles_here w site live fits (Undefined 1) (s.work + m) left s r tt (budget_more w s.work m) a
      undefined (c ∷ cs) = settles_here w site live fits (Undefined 1) (s.work + m) left s r tt (budget_more w s.work m) a

  -- a turn is spent
  spent_flows : (around : Around) (n k m kr : ℕ) (s : State) (r : ResidentState) (result : Option FlatResult) → IsAt site.segment kr r → Represents w live s r → 70 ≤ live.frame.sp → EndsErrors w live x.addresses.error_routine → n + 14 + length (taken x result) + budget w s.work ≤ budget w (s.work + m) → Stands (IsSpelledAt site.code) site.at site.labels k (ones read_code) → Stands (IsSpelledAt site.code) site.at site.labels (k + 14) (ones (taken x result)) → (found : Found (List ℕ)) → PushesAll w.machine w.framed site.segment x.addresses.error_routine n (site.at k) r found → Flows w site live around (site.at (k + 14 + length (taken x result))) s r (with_found found (begun m s) (λ vs. spend (begun m s) (λ u. read_act w.choice live.frame vs result u.input u)))
  spent_flows around n k m kr s r result here a room ends paid s0 s1 (Ok vs) b = by s.turns refl
    where
      by : (turns : ℕ) → s.turns ≡ turns → Flows w site live around (site.at (k + 14 + length (taken x result))) s r (spent turns (begun m s) (λ u. read_act w.choice live.frame vs result u.input u))
      by zero e = settles_here w site live fits Going (s.work + m) s.turns s r (omega (arith, e), here.running) (budget_more w s.work m) a
      by (suc left) e = act_flows around n k m left s r result a e room paid s0 s1 vs b
  spent_flows around n k m kr s r result here a room ends paid s0 s1 (Err ByZero) b = error_flows w site live fits around kr (site.at (k + 14 + length (taken x result))) n m 200 s r here a ends (omega arith) (omega arith) b
  spent_flows around n k m kr s r result here a room ends paid s0 s1 (Err (Bad cause)) b = settles_here w site live fits (Undefined cause) (s.work + m) s.turns s r tt (budget_more w s.work m) a

  pub read_flows : (bound pointer : ℕ) → EndsErrors w live x.addresses.error_routine → (args : List Expr) (result : Option FlatResult) → AllHaveWords args → 70 + 2 * (length args + exprs_depth args) ≤ live.frame.sp → StepFlows w site live bound pointer (Runtime 1 args result)
  read_flows bound pointer ends args result words room around k s r few here a stands small =
      let is = args_code x args in
      let n = length is in
      let m = 1 + exprs_size args in
      let sp = a.sp in
      let front = length-ones is in
      let back_size = length-ones (taken x result) in
      let tail = ones read_code ++ ones (taken x result) in
      let whole = length-append (ones is) tail in
      let rest = length-append (ones read_code) (ones (taken x result)) in
      let s0 = stands_front (IsSpelledAt site.code) site.at site.labels k (ones is) tail stands in
      let both = subst (λ z. Stands (IsSpelledAt site.code) site.at site.labels (k + z) tail) front (stands_back (IsSpelledAt site.code) site.at site.labels k (ones is) tail stands) in
      let s1 = stands_front (IsSpelledAt site.code) site.at site.labels (k + n) (ones read_code) (ones (taken x result)) both in
      let s2 = stands_back (IsSpelledAt site.code) site.at site.labels (k + n) (ones read_code) (ones (taken x result)) both in
      let b = args_run w.machine w.framed site.segment site.code site.at site.labels fits.placed x fits.error w.choice live.frame s.cells fits.suits args k r words here a.active (omega arith) s0 in
      let paid = budget_grows w s.work m (n + 14 + length (taken x result)) (omega arith) (omega arith) in
      let there : k + n + 14 + length (taken x result) ≡ k + length (ones is ++ tail) = omega arith in
      let flows = spent_flows around n (k + n) m (site.at k) s r result here a (omega arith) ends paid s1 s2 (values_of w.choice live.frame s.cells args) b in
      subst (λ z. Flows w site live around (site.at z) s r (step_of w.program w.choice (run w.program w.choice) (Runtime 1 args result) live.frame (begun m s))) there flows
