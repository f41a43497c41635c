-- A loop: a turn is spent at its head, where CLD is its event, before each run of the body.
use Rattle.std.proofs.Common.{◌≡◌, ℕ, zero, suc, ◌+◌, ◌<◌, ◌≤◌, List, [], ◌∷◌, arith, refl, sym, ap, subst, ◌∙◌}
use Rattle.std.specs.Prelude.{slice_index_or}
use Rattle.common_values.specs.behaviour.Seen.{Going}
use Rattle.x86_table.specs.declared.instr.Instr.{Instr}
use Rattle.x86_table.specs.declared.instr.Instr.TheVariants as instr
use Rattle.x86_table.specs.declared.line.Line.TheVariants.{JumpNear}
use Rattle.x86_table.specs.Standing.{IsSpelledAt, LineStands, Stands}
use Rattle.flat_code.specs.Calls.{State, Outcome, Next, Left, Returned, Over, spent, spend, begun}
use Rattle.flat_code.specs.Meaning.{looped}
use Rattle.cpu_8086.specs.declared.registers.Registers.{Registers}
use Rattle.cpu_8086.specs.Effect.{act}
use Rattle.resident_machine.specs.Effect.{with_memory}
use Rattle.resident_machine.specs.State.{ResidentState}
use Rattle.resident_machine.specs.machine_lines.Straight.{ones, registers_past, IsAt, Carried}
use Rattle.resident_machine.proofs.machine_lines.Straight.{line}
use Rattle.code_templates.specs.code_lines.Lines.{Around, in_loop}
use Rattle.statement_simulation.specs.expressions.Active.{Keeps}
use Rattle.statement_simulation.proofs.expressions.States.{keeps_same}
use Rattle.statement_simulation.specs.flow.Sites.{World, Site, Live, Fits, Represents}
use Rattle.statement_simulation.specs.flow.Outcomes.{budget, Arrives, Flows}
use Rattle.statement_simulation.proofs.flow.States.{budget_grows, budget_more, represents_keeps, represents_like}
use Rattle.statement_simulation.proofs.flow.Flows.{arrives_at, arrives_on, settles_on, flows_after, jump_arrives, settles_here}

abbrev pub to_clear : List Instr
to_clear = instr.Cld ∷ []

-- the lines of a loop: line k is its head, and line j, where the body ends, jumps there
pub record LoopStands (site : Site) (l k j : ℕ) : Type 0 where
  pub head : (site.labels l ≡ k) × (site.at (k + 1) ≡ site.at k)
  pub clear : Stands (IsSpelledAt site.code) site.at site.labels (k + 1) (ones to_clear)
  pub back : LineStands (IsSpelledAt site.code) site.at site.labels j (JumpNear l)
  pub end : (site.labels (l + 1) ≡ j + 1) × (site.at (j + 2) ≡ site.at (j + 1))

module _ (w : World) (site : Site) (live : Live) (fits : Fits w site live) where
  abbrev cleared : ℕ → ResidentState → Registers
  cleared k r = registers_past site.at (k + 1) to_clear r.registers r.cells

  clears : (k : ℕ) (r : ResidentState) → IsAt site.segment (site.at (k + 1)) r → Stands (IsSpelledAt site.code) site.at site.labels (k + 1) (ones to_clear) → Carried w.machine w.framed site.segment 1 (site.at (k + 1 + 1)) r (cleared k r) r.cells
  unfolding act
  clears k r here s = line w.machine w.framed site.segment site.code site.at site.labels fits.placed (k + 1) to_clear r refl here s tt

  clears_keeps : (k : ℕ) (s : State) (r : ResidentState) → Represents w live s r → Keeps r.registers r.cells (cleared k r) r.cells
  unfolding act
  clears_keeps k s r a = keeps_same r.registers (cleared k r) r.cells refl refl refl refl (sym a.direction)

  -- a turn is spent, and the body begins
  begins : (l k j left : ℕ) (s : State) (r : ResidentState) → s.turns ≡ suc left → IsAt site.segment (site.at k) r → Represents w live s r → LoopStands site l k j → 2 ≤ w.rate → (a : Arrives w site live (site.at (k + 2)) s r (record s { turns = left; work = s.work + 1 + 1 })) × (a.count + 1 + budget w s.work ≤ budget w (s.work + 1 + 1))
  begins l k j left s r e here a lines few =
      let at_clear = subst (λ ip. IsAt site.segment ip r) (sym lines.head.1) here in
      let c = clears k r at_clear lines.clear in
      let next : k + 1 + 1 ≡ k + 2 = omega arith in
      let paid = budget_grows w s.work 1 2 few (omega arith) in
      let more = budget_more w (s.work + 1) 1 in
      let stands = represents_keeps w site live fits s r (cleared k r) r.cells a (clears_keeps k s r a) in (
        record {
          count = 1;
          end = with_memory r (cleared k r) r.cells;
          leads = c.leads;
          here = subst (λ n. IsAt site.segment (site.at n) (with_memory r (cleared k r) r.cells)) next c.here;
          stands = represents_like w live s left (s.work + 1 + 1) (with_memory r (cleared k r) r.cells) stands;
          enough = omega arith;
          fewer = omega arith;
          work = omega arith;
          free = λ place h. h;
          input = refl;
        },
        omega arith,
      )

  pub loop_flows : (around : Around) (l k j : ℕ) (s : State) (r : ResidentState) (body again : State → Outcome) → IsAt site.segment (site.at k) r → Represents w live s r → LoopStands site l k j → 2 ≤ w.rate → ((u : State) (e : ResidentState) → u.turns < s.turns → IsAt site.segment (site.at (k + 2)) e → Represents w live u e → Flows w site live (in_loop around (l + 1)) (site.at j) u e (body u)) → ((u : State) (e : ResidentState) → u.turns < s.turns → IsAt site.segment (site.at k) e → Represents w live u e → Flows w site live around (site.at (j + 2)) u e (again u)) → Flows w site live around (site.at (j + 2)) s r (spend (begun 1 s) (λ u. looped (body (begun 1 u)) again))
  loop_flows around l k j s r body again here a lines few runs more = by s.turns refl
    where
      turn : (left : ℕ) → s.turns ≡ suc left → (u : State) → u.turns ≡ left → (h : Arrives w site live (site.at (k + 2)) s r u) → h.count + 1 + budget w s.work ≤ budget w u.work → (o : Outcome) → Flows w site live (in_loop around (l + 1)) (site.at j) u h.end o → Flows w site live around (site.at (j + 2)) s r (looped o again)
      turn left e u same h paid (Next t) b =
          let z = jump_arrives w site live fits (site.at (k + 2)) j l s r u t h paid lines.back b in
          let there = arrives_at w site live fits (site.at (site.labels l)) (site.at k) s r t (ap site.at lines.head.0) z in
          let fewer = b.fewer in
          flows_after w site live fits around (site.at k) (site.at (j + 2)) s r t there (again t) (more t there.end (omega arith) there.here there.stands)
      turn left e u same h paid (Left zero t) b =
          arrives_at w site live fits (site.at (site.labels (l + 1))) (site.at (j + 2)) s r t (ap site.at lines.end.0 ∙ sym lines.end.1) (arrives_on w site live fits (site.at (k + 2)) (site.at (site.labels (l + 1))) s r u t h b)
      turn left e u same h paid (Left (suc n) t) b = arrives_on w site live fits (site.at (k + 2)) (site.at (site.labels (slice_index_or around.ends n around.home))) s r u t h b
      turn left e u same h paid (Returned t) b = arrives_on w site live fits (site.at (k + 2)) (site.at (site.labels around.home)) s r u t h b
      turn left e u same h paid (Over standing t) b = settles_on w site live fits (site.at (k + 2)) standing s r u t h b

      by : (turns : ℕ) → s.turns ≡ turns → Flows w site live around (site.at (j + 2)) s r (spent turns (begun 1 s) (λ u. looped (body (begun 1 u)) again))
      by zero e = settles_here w site live fits Going (s.work + 1) s.turns s r (omega (arith, e), here.running) (budget_more w s.work 1) a
      by (suc left) e =
          let u = record s { turns = left; work = s.work + 1 + 1 } in
          let h = begins l k j left s r e here a lines few in
          turn left e u refl h.0 h.1 (body u) (runs u h.0.end (omega (arith, e)) h.0.here h.0.stands)
