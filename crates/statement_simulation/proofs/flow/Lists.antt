-- Lists of statements, by induction over the turns that are left and over the list.
use Rattle.std.proofs.Common.{◌≡◌, ℕ, zero, suc, ◌+◌, ◌*◌, ◌≤◌, List, [], ◌∷◌, ◌++◌, length, arith, refl, sym, ap, subst, ◌∙◌, append_assoc, length-append}
use Rattle.x86_table.specs.declared.instr.Instr.{Instr}
use Rattle.x86_table.specs.declared.instr.Instr.TheVariants as instr
use Rattle.x86_table.specs.declared.line.Line.{Line}
use Rattle.x86_table.specs.declared.line.Line.TheVariants.{One, Label, JumpNear}
use Rattle.x86_table.specs.Standing.{IsSpelledAt, Stands}
use Rattle.x86_table.proofs.Stand.{stands_front, stands_back}
use Rattle.flat_code.specs.Calls.{State, Outcome, with_found, begun, spend}
use Rattle.flat_code.specs.Legal.{expr_depth}
use Rattle.flat_code.specs.Meaning.{value_of, step_of, chosen, looped, run}
use Rattle.flat_code.specs.Tree.{Expr, expr_size, step_size, Code, End, Do, If, Loop}
use Rattle.flat_code.proofs.Nodes.{run-end, run-step, run-test, run-loop}
use Rattle.resident_machine.specs.State.{ResidentState}
use Rattle.resident_machine.specs.machine_lines.Straight.{ones, IsAt}
use Rattle.code_templates.specs.code_lines.Addresses.{Context}
use Rattle.code_templates.specs.code_lines.Expressions.{expr_code}
use Rattle.code_templates.specs.code_lines.Lines.{step_lines, step_pointers, pointers, labels, tested, in_loop, code_lines}
use Rattle.statement_simulation.specs.expressions.Evaluates.{HasWords, Evaluates}
use Rattle.statement_simulation.proofs.expressions.Expressions.{expr_runs}
use Rattle.statement_simulation.specs.flow.Sites.{World, Site, Live, Fits, Represents}
use Rattle.statement_simulation.specs.flow.Outcomes.{Arrives, Flows, EndsErrors}
use Rattle.statement_simulation.specs.flow.Lists.{IsFit, CodeFlows}
use Rattle.statement_simulation.proofs.flow.Flows.{flows_at, seq_flows}
use Rattle.statement_simulation.proofs.flow.Tests.{IfStands, if_flows}
use Rattle.statement_simulation.proofs.flow.Loops.{LoopStands, loop_flows}

pub length-ones : (is : List Instr) → length (ones is) ≡ length is
length-ones [] = refl
length-ones (i ∷ is) = ap suc (length-ones is)

-- ## Where the lines of an If and a Loop stand

abbrev if_lines : ℕ → List Instr → List Line → List Line → List Line → List Line
if_lines label test taken other next =
    ones test ++ (tested label ++ (JumpNear (label + 1) ∷ Label label ∷ (taken ++ (JumpNear (label + 2) ∷ Label (label + 1) ∷ (other ++ (Label (label + 2) ∷ next))))))

abbrev loop_lines : ℕ → List Line → List Line → List Line
loop_lines label body next = Label label ∷ One instr.Cld ∷ (body ++ (JumpNear label ∷ Label (label + 1) ∷ next))

length-if : (label : ℕ) (test : List Instr) (taken other next : List Line) → length (if_lines label test taken other next) ≡ length test + 7 + length taken + length other + length next
length-if label test taken other next =
    let tail = Label (label + 2) ∷ next in
    let second = JumpNear (label + 2) ∷ Label (label + 1) ∷ (other ++ tail) in
    let first = tested label ++ (JumpNear (label + 1) ∷ Label label ∷ (taken ++ second)) in
    let a = length-append (ones test) first in
    let b = length-ones test in
    let c = length-append taken second in
    let d = length-append other tail in
    omega arith

length-loop : (label : ℕ) (body next : List Line) → length (loop_lines label body next) ≡ length body + 4 + length next
length-loop label body next = let a = length-append body (JumpNear label ∷ Label (label + 1) ∷ next) in omega arith

module _ (site : Site) where
  abbrev At : ℕ → List Line → Type 0
  At k lines = Stands (IsSpelledAt site.code) site.at site.labels k lines

  record IfParts (label k : ℕ) (taken other next : List Line) : Type 0 where
    stands : IfStands site label k (k + 4 + length taken) (k + 4 + length taken + 2 + length other)
    first : At (k + 4) taken
    second : At (k + 4 + length taken + 2) other
    rest : At (k + 4 + length taken + 2 + length other + 1) next

  if_parts : (label k : ℕ) (taken other next : List Line) → At k (tested label ++ (JumpNear (label + 1) ∷ Label label ∷ (taken ++ (JumpNear (label + 2) ∷ Label (label + 1) ∷ (other ++ (Label (label + 2) ∷ next)))))) → IfParts label k taken other next
  if_parts label k taken other next s =
      let j = k + 4 + length taken in
      let i = j + 2 + length other in
      let tail = Label (label + 2) ∷ next in
      let second = JumpNear (label + 2) ∷ Label (label + 1) ∷ (other ++ tail) in
      let e3 : k + 1 + 1 + 1 ≡ k + 3 = omega arith in
      let e4 : k + 1 + 1 + 1 + 1 ≡ k + 4 = omega arith in
      let e2 : j + 1 + 1 ≡ j + 2 = omega arith in
      let both : At (k + 4) (taken ++ second) = subst (λ n. At n (taken ++ second)) e4 s.1.1.1.1 in
      let b = stands_back (IsSpelledAt site.code) site.at site.labels (k + 4) taken second both in
      let rest : At (j + 2) (other ++ tail) = subst (λ n. At n (other ++ tail)) e2 b.1.1 in
      let c = stands_back (IsSpelledAt site.code) site.at site.labels (j + 2) other tail rest in
      record {
        stands = record {
          test = (s.0, (s.1.0, (s.1.1.0, tt)));
          first = (s.1.1.1.0.0 ∙ e3, ap site.at (sym e4) ∙ s.1.1.1.0.1 ∙ ap site.at e3);
          over = b.0;
          second = (b.1.0.0, ap site.at (sym e2) ∙ b.1.0.1);
          end = c.0;
        };
        first = stands_front (IsSpelledAt site.code) site.at site.labels (k + 4) taken second both;
        second = stands_front (IsSpelledAt site.code) site.at site.labels (j + 2) other tail rest;
        rest = c.1;
      }

  record LoopParts (label k : ℕ) (body next : List Line) : Type 0 where
    stands : LoopStands site label k (k + 2 + length body)
    first : At (k + 2) body
    rest : At (k + 2 + length body + 2) next
    alone : At k (loop_lines label body [])

  loop_parts : (label k : ℕ) (body next : List Line) → At k (loop_lines label body next) → LoopParts label k body next
  loop_parts label k body next s =
      let j = k + 2 + length body in
      let back = JumpNear label ∷ Label (label + 1) ∷ next in
      let e2 : k + 1 + 1 ≡ k + 2 = omega arith in
      let f2 : j + 1 + 1 ≡ j + 2 = omega arith in
      let both : At (k + 2) (body ++ back) = subst (λ n. At n (body ++ back)) e2 s.1.1 in
      let b = stands_back (IsSpelledAt site.code) site.at site.labels (k + 2) body back both in
      let apart = append_assoc body (JumpNear label ∷ Label (label + 1) ∷ []) next in
      let whole : At k (loop_lines label body [] ++ next) = subst (λ lines. At k (Label label ∷ One instr.Cld ∷ lines)) (sym apart) s in
      record {
        stands = record {
          head = s.0;
          clear = (s.1.0, tt);
          back = b.0;
          end = (b.1.0.0, ap site.at (sym f2) ∙ b.1.0.1);
        };
        first = stands_front (IsSpelledAt site.code) site.at site.labels (k + 2) body back both;
        rest = subst (λ n. At n next) f2 b.1.1;
        alone = stands_front (IsSpelledAt site.code) site.at site.labels k (loop_lines label body []) next whole;
      }

module _ (w : World) (site : Site) (live : Live) (fits : Fits w site live) (ends : EndsErrors w live site.context.addresses.error_routine) (bound : ℕ) where
  abbrev x : Context
  x = site.context

  abbrev does : Code → State → Outcome
  does code = run w.program w.choice code live.frame

  arrives_here : (k : ℕ) (s : State) (r : ResidentState) → IsAt site.segment (site.at k) r → Represents w live s r → Arrives w site live (site.at (k + 0)) s r s
  arrives_here k s r here a =
      let e : k ≡ k + 0 = omega arith in
      record {
        count = 0;
        end = r;
        leads = refl;
        here = subst (λ n. IsAt site.segment (site.at n) r) e here;
        stands = a;
        enough = omega arith;
        fewer = omega arith;
        work = omega arith;
        free = λ place h. h;
        input = refl;
      }

  value_runs : (test : Expr) (k : ℕ) (s : State) (r : ResidentState) → HasWords test → 64 + 2 * expr_depth test ≤ live.frame.sp → IsAt site.segment (site.at k) r → Represents w live s r → At site k (ones (expr_code x test)) → Evaluates w.machine w.framed site.segment x.addresses.error_routine (length (expr_code x test)) (site.at (k + length (expr_code x test))) r (value_of w.choice live.frame s.cells test)
  value_runs test k s r words room here a s0 =
      let sp = a.sp in
      expr_runs w.machine w.framed site.segment site.code site.at site.labels fits.placed x fits.error w.choice live.frame s.cells fits.suits test words k r here a.active (omega arith) s0

  -- with one turn more than the bound of a shorter run
  longer : (n : ℕ) → suc n ≤ bound → ((pointer : ℕ) (code : Code) → IsFit w site live bound pointer code → CodeFlows w site live n pointer code) → (pointer : ℕ) (code : Code) → IsFit w site live bound pointer code → CodeFlows w site live (suc n) pointer code
  longer n le prev pointer End fit around label k s r few here a stands small =
      subst (λ o. Flows w site live around (site.at (k + 0)) s r o) (sym (run-end w.program w.choice live.frame s)) (arrives_here k s r here a)
  longer n le prev pointer (Do step next) fit around label k s r few here a stands small =
      let ls = step_lines x around pointer step in
      let rest = code_lines x around label (pointer + step_pointers step) next in
      let o = step_of w.program w.choice (run w.program w.choice) step live.frame (begun (step_size step) s) in
      let room = fit.room in
      let fit_next : IsFit w site live bound (pointer + step_pointers step) next = record { steps = fit.steps.1; words = fit.words; room = omega arith } in
      let size = length-append ls rest in
      let there : k + length ls + length rest ≡ k + length (ls ++ rest) = omega arith in
      let first = fit.steps.0 around k s r (omega arith) here a (stands_front (IsSpelledAt site.code) site.at site.labels k ls rest stands) (omega arith) in
      let behind = stands_back (IsSpelledAt site.code) site.at site.labels k ls rest stands in
      let both = seq_flows w site live fits around (site.at (k + length ls)) (site.at (k + length (ls ++ rest))) s r o (does next) first (λ t e fewer at_next b.
      flows_at w site live fits around (site.at (k + length ls + length rest)) (site.at (k + length (ls ++ rest))) t e (does next t) (ap site.at there)
      (longer n le prev (pointer + step_pointers step) next fit_next around label (k + length ls) t e (omega arith) at_next b behind (omega arith))) in
      subst (λ o. Flows w site live around (site.at (k + length (ls ++ rest))) s r o) (sym (run-step w.program w.choice step next live.frame s)) both
  longer n le prev pointer (If test taken other next) fit around label k s r few here a stands small =
      let ts = expr_code x test in
      let p2 = pointer + pointers taken in
      let p3 = pointer + pointers taken + pointers other in
      let ls1 = code_lines x around (label + 3) pointer taken in
      let ls2 = code_lines x around (label + 3 + labels taken) p2 other in
      let rest = code_lines x around (label + 3 + labels taken + labels other) p3 next in
      let whole = if_lines label ts ls1 ls2 rest in
      let m = 1 + expr_size test in
      let t = begun m s in
      let room = fit.room in
      let fit1 : IsFit w site live bound pointer taken = record { steps = fit.steps.0; words = fit.words.1; room = omega arith } in
      let fit2 : IsFit w site live bound p2 other = record { steps = fit.steps.1; words = fit.words.2; room = omega arith } in
      let fit3 : IsFit w site live bound p3 next = record { steps = fit.steps.2; words = fit.words.3; room = omega arith } in
      let size = length-if label ts ls1 ls2 rest in
      let behind : At site (k + length ts) (tested label ++ (JumpNear (label + 1) ∷ Label label ∷ (ls1 ++ (JumpNear (label + 2) ∷ Label (label + 1) ∷ (ls2 ++ (Label (label + 2) ∷ rest)))))) =
      subst (λ n. At site (k + n) (tested label ++ (JumpNear (label + 1) ∷ Label label ∷ (ls1 ++ (JumpNear (label + 2) ∷ Label (label + 1) ∷ (ls2 ++ (Label (label + 2) ∷ rest))))))) (length-ones ts)
      (stands_back (IsSpelledAt site.code) site.at site.labels k (ones ts) (tested label ++ (JumpNear (label + 1) ∷ Label label ∷ (ls1 ++ (JumpNear (label + 2) ∷ Label (label + 1) ∷ (ls2 ++ (Label (label + 2) ∷ rest)))))) stands) in
      let parts = if_parts site label (k + length ts) ls1 ls2 rest behind in
      let j = k + length ts + 4 + length ls1 in
      let i = j + 2 + length ls2 in
      let value = value_runs test k s r fit.words.0 (omega arith) here a (stands_front (IsSpelledAt site.code) site.at site.labels k (ones ts) (tested label ++ (JumpNear (label + 1) ∷ Label label ∷ (ls1 ++ (JumpNear (label + 2) ∷ Label (label + 1) ∷ (ls2 ++ (Label (label + 2) ∷ rest)))))) stands) in
      let o = with_found (value_of w.choice live.frame s.cells test) t (λ v. chosen v (does taken t) (does other t)) in
      let first = if_flows w site live fits ends around label (length ts) m (k + length ts) j i s r (does taken t) (does other t) (site.at k) here a parts.stands (omega arith) (omega arith)
      (λ e there b. longer n le prev pointer taken fit1 around (label + 3) (k + length ts + 4) t e few there b parts.first (omega arith))
      (λ e there b. longer n le prev p2 other fit2 around (label + 3 + labels taken) (j + 2) t e few there b parts.second (omega arith))
      (value_of w.choice live.frame s.cells test) value in
      let there : i + 1 + length rest ≡ k + length whole = omega arith in
      let both = seq_flows w site live fits around (site.at (i + 1)) (site.at (k + length whole)) s r o (does next) first (λ u e fewer at_next b.
      flows_at w site live fits around (site.at (i + 1 + length rest)) (site.at (k + length whole)) u e (does next u) (ap site.at there)
      (longer n le prev p3 next fit3 around (label + 3 + labels taken + labels other) (i + 1) u e (omega arith) at_next b parts.rest (omega arith))) in
      subst (λ o. Flows w site live around (site.at (k + length whole)) s r o) (sym (run-test w.program w.choice test taken other next live.frame s)) both
  longer n le prev pointer (Loop body next) fit around label k s r few here a stands small =
      let p2 = pointer + pointers body in
      let ls = code_lines x (in_loop around (label + 1)) (label + 2) pointer body in
      let rest = code_lines x around (label + 2 + labels body) p2 next in
      let whole = loop_lines label ls rest in
      let room = fit.room in
      let fit1 : IsFit w site live bound pointer body = record { steps = fit.steps.0; words = fit.words.0; room = omega arith } in
      let fit2 : IsFit w site live bound p2 next = record { steps = fit.steps.1; words = fit.words.1; room = omega arith } in
      let alone : IsFit w site live bound pointer (Loop body End) = record { steps = (fit.steps.0, tt); words = (fit.words.0, tt); room = omega arith } in
      let size = length-loop label ls rest in
      let size_alone = length-loop label ls [] in
      let parts = loop_parts site label k ls rest stands in
      let j = k + 2 + length ls in
      let back : k + length (loop_lines label ls []) ≡ j + 2 = omega arith in
      let first = loop_flows w site live fits around label k j s r (does body) (does (Loop body End)) here a parts.stands (omega arith)
      (λ u e fewer there b. longer n le prev pointer body fit1 (in_loop around (label + 1)) (label + 2) (k + 2) u e (omega arith) there b parts.first (omega arith))
      (λ u e fewer there b. flows_at w site live fits around (site.at (k + length (loop_lines label ls []))) (site.at (j + 2)) u e (does (Loop body End) u) (ap site.at back)
      (prev pointer (Loop body End) alone around label k u e (omega arith) there b parts.alone (omega arith))) in
      let there : j + 2 + length rest ≡ k + length whole = omega arith in
      let o = spend (begun 1 s) (λ u. looped (does body (begun 1 u)) (does (Loop body End))) in
      let both = seq_flows w site live fits around (site.at (j + 2)) (site.at (k + length whole)) s r o (does next) first (λ u e fewer at_next b.
      flows_at w site live fits around (site.at (j + 2 + length rest)) (site.at (k + length whole)) u e (does next u) (ap site.at there)
      (longer n le prev p2 next fit2 around (label + 2 + labels body) (j + 2) u e (omega arith) at_next b parts.rest (omega arith))) in
      subst (λ o. Flows w site live around (site.at (k + length whole)) s r o) (sym (run-loop w.program w.choice body next live.frame s)) both

  by_turns : (n : ℕ) → n ≤ bound → (pointer : ℕ) (code : Code) → IsFit w site live bound pointer code → CodeFlows w site live n pointer code
  by_turns zero le pointer code fit = λ around label k s r few. absurd (omega (arith, few))
  by_turns (suc n) le pointer code fit = longer n le (by_turns n (omega arith)) pointer code fit

  pub list_flows : (pointer : ℕ) (code : Code) → IsFit w site live bound pointer code → CodeFlows w site live bound pointer code
  list_flows = by_turns bound (omega arith)
