-- The test of an If: on to its first part where its value isn't 0, else to its second.
use Rattle.std.proofs.Common.{◌≡◌, ℕ, zero, suc, ◌+◌, ◌≤◌, ◌==◌, Bool, not, List, [], ◌∷◌, ◌++◌, Ok, Err, arith, refl, sym, ap, subst, ◌∙◌}
use Rattle.std.specs.Int.Bits.{or_self}
use Rattle.std.proofs.Math.Dec.{eqb-suc-zero}
use Rattle.x86_table.specs.declared.instr.AluOp.TheVariants as alu
use Rattle.x86_table.specs.declared.instr.Cond.TheVariants as cond
use Rattle.x86_table.specs.declared.instr.Instr.{Instr}
use Rattle.x86_table.specs.declared.line.Line.TheVariants.{One, JumpNear}
use Rattle.x86_table.specs.declared.operand.WordReg.TheVariants as word
use Rattle.x86_table.specs.Standing.{IsSpelledAt, LineStands, Stands}
use Rattle.common_values.specs.behaviour.Seen.{Undefined}
use Rattle.flat_code.specs.declared.memory.Trap.TheVariants.{ByZero, Bad}
use Rattle.flat_code.specs.Memory.{Found}
use Rattle.flat_code.specs.Calls.{State, Outcome, with_found, begun}
use Rattle.flat_code.specs.Meaning.{chosen}
use Rattle.cpu_8086.specs.declared.registers.Registers.{Registers}
use Rattle.cpu_8086.specs.Access.{at_offset, word_then, put_word}
use Rattle.cpu_8086.specs.Effect.{act, holds}
use Rattle.resident_machine.specs.Effect.{with_memory}
use Rattle.resident_machine.specs.Program.{Segment, Program}
use Rattle.resident_machine.specs.State.{ResidentState}
use Rattle.resident_machine.specs.machine_lines.Straight.{registers_past, Placed, IsAt}
use Rattle.resident_machine.proofs.machine_lines.Jumps.{jumps, branches, passes}
use Rattle.resident_machine.proofs.machine_lines.Straight.{line}
use Rattle.code_templates.specs.code_lines.Expressions.{apply}
use Rattle.code_templates.specs.code_lines.Lines.{Around, tested}
use Rattle.statement_simulation.proofs.expressions.States.{keeps_same}
use Rattle.statement_simulation.specs.expressions.Evaluates.{Evaluates}
use Rattle.statement_simulation.proofs.expressions.Runs.{Comes, carried_comes, jump_comes, gives_comes, comes_on}
use Rattle.statement_simulation.specs.flow.Sites.{World, Site, Live, Fits, Represents}
use Rattle.statement_simulation.specs.flow.Outcomes.{budget, Flows, EndsErrors}
use Rattle.statement_simulation.proofs.flow.States.{budget_grows, budget_more, comes_arrives}
use Rattle.statement_simulation.proofs.flow.Flows.{flows_at, flows_after, jump_flows, error_flows, settles_here}

module _ (p : Program) (framed : Bool) (cs : Segment) (code : List ℕ) (at labels : ℕ → ℕ) (pl : Placed p cs code at) where
  abbrev to_or : List Instr
  to_or = apply alu.Or word.Ax word.Ax ∷ []

  or_comes : (k : ℕ) (r : ResidentState) → IsAt cs (at k) r → Stands (IsSpelledAt code) at labels k (One (apply alu.Or word.Ax word.Ax) ∷ []) → Comes p framed cs 1 (at (k + 1)) r (registers_past at k to_or r.registers r.cells) r.cells
  unfolding act word_then put_word
  or_comes k r here s =
      let h = registers_past at k to_or r.registers r.cells in
      carried_comes p framed cs 1 (at (k + 1)) r h r.cells (line p framed cs code at labels pl k to_or r refl here s tt) (keeps_same r.registers h r.cells refl refl refl refl refl)

  or_flag : (k v : ℕ) (r : ResidentState) → r.registers.ax ≡ v → holds (registers_past at k to_or r.registers r.cells) cond.NotEqual ≡ not (v == 0)
  unfolding act word_then put_word
  or_flag k v r e = ap (λ n. not (n == 0)) (or_self r.registers.ax ∙ e)

  pub other_taken : (k l : ℕ) (r : ResidentState) → r.registers.ax ≡ 0 → IsAt cs (at k) r → Stands (IsSpelledAt code) at labels k (tested l ++ (JumpNear (l + 1) ∷ [])) → (g : Registers) × Comes p framed cs 3 (at (labels (l + 1))) r g r.cells
  other_taken k l r e here s =
      let g = registers_past at k to_or r.registers r.cells in
      let first = or_comes k r here (s.0, tt) in
      let j = passes p framed cs code at labels pl (k + 1) l cond.NotEqual (with_memory r g r.cells) first.here s.1.0 (or_flag k 0 r e) in
      let h = at_offset g (at (k + 1 + 1)) in
      let both = comes_on p framed cs 1 1 (at (k + 1)) (at (k + 1 + 1)) r g h r.cells r.cells first (jump_comes p framed cs (at (k + 1 + 1)) (with_memory r g r.cells) j) in
      let last = jumps p framed cs code at labels pl (k + 1 + 1) (l + 1) (with_memory r h r.cells) both.here s.1.1.0 in
      (at_offset h (at (labels (l + 1))), comes_on p framed cs 2 1 (at (k + 1 + 1)) (at (labels (l + 1))) r h (at_offset h (at (labels (l + 1)))) r.cells r.cells both (jump_comes p framed cs (at (labels (l + 1))) (with_memory r h r.cells) last))

  pub first_taken : (k l n : ℕ) (r : ResidentState) → r.registers.ax ≡ suc n → IsAt cs (at k) r → Stands (IsSpelledAt code) at labels k (tested l ++ (JumpNear (l + 1) ∷ [])) → (g : Registers) × Comes p framed cs 2 (at (labels l)) r g r.cells
  first_taken k l n r e here s =
      let g = registers_past at k to_or r.registers r.cells in
      let first = or_comes k r here (s.0, tt) in
      let j = branches p framed cs code at labels pl (k + 1) l cond.NotEqual (with_memory r g r.cells) first.here s.1.0 (or_flag k (suc n) r e ∙ ap not (eqb-suc-zero n)) in
      (at_offset g (at (labels l)), comes_on p framed cs 1 1 (at (k + 1)) (at (labels l)) r g (at_offset g (at (labels l))) r.cells r.cells first (jump_comes p framed cs (at (labels l)) (with_memory r g r.cells) j))

-- the lines of an If behind its test: the first of them is line k; line j jumps over the second part, which ends at line i
pub record IfStands (site : Site) (l k j i : ℕ) : Type 0 where
  pub test : Stands (IsSpelledAt site.code) site.at site.labels k (tested l ++ (JumpNear (l + 1) ∷ []))
  pub first : (site.labels l ≡ k + 3) × (site.at (k + 4) ≡ site.at (k + 3))
  pub over : LineStands (IsSpelledAt site.code) site.at site.labels j (JumpNear (l + 2))
  pub second : (site.labels (l + 1) ≡ j + 1) × (site.at (j + 2) ≡ site.at (j + 1))
  pub end : (site.labels (l + 2) ≡ i) × (site.at (i + 1) ≡ site.at i)

module _ (w : World) (site : Site) (live : Live) (fits : Fits w site live) (ends : EndsErrors w live site.context.addresses.error_routine) where
  pub if_flows : (around : Around) (l n m k j i : ℕ) (s : State) (r : ResidentState) (x y : Outcome) (kr : ℕ) → IsAt site.segment kr r → Represents w live s r → IfStands site l k j i → n + 4 ≤ w.rate → 1 ≤ m → ((e : ResidentState) → IsAt site.segment (site.at (k + 4)) e → Represents w live (begun m s) e → Flows w site live around (site.at j) (begun m s) e x) → ((e : ResidentState) → IsAt site.segment (site.at (j + 2)) e → Represents w live (begun m s) e → Flows w site live around (site.at i) (begun m s) e y) → (found : Found ℕ) → Evaluates w.machine w.framed site.segment site.context.addresses.error_routine n (site.at k) r found → Flows w site live around (site.at (i + 1)) s r (with_found found (begun m s) (λ v. chosen v x y))
  if_flows around l n m k j i s r x y kr here a lines few some hx hy (Ok zero) v =
      let g = gives_comes w.machine w.framed site.segment n (site.at k) r 0 v in
      let z = other_taken w.machine w.framed site.segment site.code site.at site.labels fits.placed k l (with_memory r v.registers v.cells) v.ax g.here lines.test in
      let both = comes_on w.machine w.framed site.segment n 3 (site.at k) (site.at (site.labels (l + 1))) r v.registers z.0 v.cells v.cells g z.1 in
      let paid : n + 3 + 1 + budget w s.work ≤ budget w (s.work + m) = (let b = budget_grows w s.work m (n + 4) few some in omega arith) in
      let c = comes_arrives w site live fits (n + 3) (site.at (site.labels (l + 1))) m 1 s r z.0 v.cells a both paid in
      let there = subst (λ ip. IsAt site.segment ip c.0.end) (ap site.at lines.second.0 ∙ sym lines.second.1) c.0.here in
      flows_at w site live fits around (site.at i) (site.at (i + 1)) s r y (sym lines.end.1) (flows_after w site live fits around (site.at (site.labels (l + 1))) (site.at i) s r (begun m s) c.0 y (hy c.0.end there c.0.stands))
  if_flows around l n m k j i s r x y kr here a lines few some hx hy (Ok (suc u)) v =
      let g = gives_comes w.machine w.framed site.segment n (site.at k) r (suc u) v in
      let z = first_taken w.machine w.framed site.segment site.code site.at site.labels fits.placed k l u (with_memory r v.registers v.cells) v.ax g.here lines.test in
      let both = comes_on w.machine w.framed site.segment n 2 (site.at k) (site.at (site.labels l)) r v.registers z.0 v.cells v.cells g z.1 in
      let paid : n + 2 + 1 + budget w s.work ≤ budget w (s.work + m) = (let b = budget_grows w s.work m (n + 4) few some in omega arith) in
      let c = comes_arrives w site live fits (n + 2) (site.at (site.labels l)) m 1 s r z.0 v.cells a both paid in
      let there = subst (λ ip. IsAt site.segment ip c.0.end) (ap site.at lines.first.0 ∙ sym lines.first.1) c.0.here in
      flows_at w site live fits around (site.at (site.labels (l + 2))) (site.at (i + 1)) s r x (ap site.at lines.end.0 ∙ sym lines.end.1) (jump_flows w site live fits around (site.at (site.labels l)) j (l + 2) s r (begun m s) c.0 x c.1 lines.over (hx c.0.end there c.0.stands))
  if_flows around l n m k j i s r x y kr here a lines few some hx hy (Err ByZero) v =
      error_flows w site live fits around kr (site.at (i + 1)) n m 200 s r here a ends (omega arith) (let b = budget_grows w s.work m n (omega arith) some in b) v
  if_flows around l n m k j i s r x y kr here a lines few some hx hy (Err (Bad act)) v =
      settles_here w site live fits (Undefined act) (s.work + m) s.turns s r tt (budget_more w s.work m) a
