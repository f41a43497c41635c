-- The far pointer of a routine is stored.
use Rattle.std.proofs.Common.{◌≡◌, ℕ, ◌+◌, ◌/◌, ◌%◌, ◌<◌, ◌≤◌, length, Option, Some, None, Ok, Err, arith, refl, sym, ap, subst, ◌∙◌}
use Rattle.common_values.specs.behaviour.Seen.{Undefined}
use Rattle.x86_table.specs.declared.operand.Place.TheVariants.{Direct}
use Rattle.x86_table.specs.declared.operand.WordReg.{WordReg}
use Rattle.x86_table.specs.declared.operand.WordReg.TheVariants as word
use Rattle.x86_table.specs.Standing.{IsSpelledAt, Stands}
use Rattle.flat_code.specs.declared.memory.Place.{Place}
use Rattle.flat_code.specs.declared.memory.Trap.TheVariants.{ByZero, Bad}
use Rattle.flat_code.specs.declared.tree.Address.{Address}
use Rattle.flat_code.specs.Calls.{State, with_found, begun, stored_at}
use Rattle.flat_code.specs.Memory.{Found, ◌>>=◌, far_bytes}
use Rattle.flat_code.specs.Meaning.{stored}
use Rattle.flat_code.specs.Program.{Name, Choice, named}
use Rattle.flat_code.specs.Tree.{StoreRoutine}
use Rattle.flat_code.specs.Values.{Frame, if_placed, routine_pointer}
use Rattle.cpu_8086.specs.declared.registers.Registers.{Registers}
use Rattle.cpu_8086.specs.Access.{Done, read_word, at_offset, word_then}
use Rattle.cpu_8086.specs.Effect.{act}
use Rattle.cpu_8086.specs.Memory.{address, next_offset}
use Rattle.cpu_8086.specs.Operand.{with_word_reg}
use Rattle.resident_machine.specs.Effect.{with_memory}
use Rattle.resident_machine.specs.State.{ResidentState}
use Rattle.resident_machine.specs.machine_lines.Straight.{ones, IsAt}
use Rattle.resident_machine.proofs.machine_lines.Steps.{leads_on}
use Rattle.resident_machine.proofs.machine_lines.Words.{address_above}
use Rattle.code_templates.specs.code_lines.Addresses.{Context}
use Rattle.code_templates.specs.code_lines.Lines.{Around, pointer_at, store_two, store_routine}
use Rattle.code_templates.specs.code_lines.Operands.{memory_at, load, operand}
use Rattle.statement_simulation.proofs.expressions.Loads.{data_segment_is, fetch_word}
use Rattle.statement_simulation.proofs.expressions.Operands.{direct_offset}
use Rattle.statement_simulation.proofs.expressions.States.{ReadsByte, ReadsWord, active_keeps, keeps_same}
use Rattle.statement_simulation.specs.flow.Sites.{World, Site, Live, Fits, Represents}
use Rattle.statement_simulation.specs.flow.Outcomes.{budget, Arrives, Flows}
use Rattle.statement_simulation.specs.flow.Lists.{StepFlows}
use Rattle.statement_simulation.proofs.flow.States.{budget_grows, budget_more, fixed_kept, represents_keeps, represents_like}
use Rattle.statement_simulation.proofs.flow.Flows.{settles_here}
use Rattle.statement_simulation.proofs.flow.Lists.{length-ones}
use Rattle.effect_simulation.specs.effects.Pointers.{IsFixed, pointer_offset, HoldsPointer}
use Rattle.effect_simulation.proofs.effects.Results.{takes_flow}
use Rattle.effect_simulation.proofs.effects.Taken.{two_taken}

-- MOV of a word from the data segment
direct_tree : (g : Registers) (r : WordReg) (o : ℕ) → act g (load r (memory_at (Direct o))) ≡ read_word g.ds o (λ v. Done (with_word_reg g r v))
unfolding act word_then
direct_tree g r o = data_segment_is g o _ ∙ ap (λ n. read_word g.ds n (λ v. Done (with_word_reg g r v))) (direct_offset g o)

-- naming a routine divides nothing
pointer_no_division : (choice : Choice) (f : Frame) (unit number : ℕ) → routine_pointer choice f unit number ≡ Err ByZero → ⊥
pointer_no_division choice f unit number e = by_name (named f.unit f.names unit) e
  where
    by_far : (o : Option Place) → if_placed o ≡ Err ByZero → ⊥
    by_far None e = absurd (cc)
    by_far (Some q) e = absurd (cc)

    by_name : (o : Option Name) → ((if_placed o >>= λ name. Ok (record { unit = name; number = number })) >>= λ key. if_placed (choice.far key)) ≡ Err ByZero → ⊥
    by_name None e = absurd (cc)
    by_name (Some name) e = by_far (choice.far (record { unit = name; number = number })) e

module _ (w : World) (site : Site) (live : Live) (fits : Fits w site live) where
  abbrev x : Context
  x = site.context

  fixed_byte : (s : State) (r : ResidentState) (place byte : ℕ) → Represents w live s r → 64 ≤ r.registers.sp → byte < 256 → live.fixed place ≡ Some byte → ReadsByte r.registers r.cells place byte
  fixed_byte s r place byte a room small e =
      let top = a.active.top in
      record {
        known = a.fixed place byte e;
        above = address_above r.registers.ss r.registers.sp place room (omega arith) a.active.inside (fixed_kept w site live fits s r place byte a e);
        small = small;
      }

  pub fixed_word : (s : State) (r : ResidentState) (segment offset v : ℕ) → Represents w live s r → 64 ≤ r.registers.sp → IsFixed live segment offset v → ReadsWord r.registers r.cells segment offset v
  fixed_word s r segment offset v a room f =
      let small = f.small in
      record {
        low = v % 256;
        high = v / 256;
        low_byte = fixed_byte s r (address segment offset) (v % 256) a room (omega arith) f.low;
        high_byte = fixed_byte s r (address segment (next_offset offset)) (v / 256) a room (omega arith) f.high;
        whole = omega arith;
      }

  loaded_flows : (around : Around) (pointer k : ℕ) (s : State) (r : ResidentState) (to : Address) (q : Place) → IsAt site.segment (site.at k) r → Represents w live s r → 64 ≤ live.frame.sp → IsFixed live w.choice.data_segment (pointer_offset site pointer 0) q.offset → IsFixed live w.choice.data_segment (pointer_offset site pointer 2) q.segment → Stands (IsSpelledAt site.code) site.at site.labels k (ones (store_routine x pointer to)) → 2 + length (store_two x to) ≤ w.rate → Flows w site live around (site.at (k + (2 + length (store_two x to)))) s r (stored w.choice live.frame to (far_bytes q) (begun 1 s))
  loaded_flows around pointer k s r to q here a room first second stands few =
      let p = w.machine in
      let g = r.registers in
      let o0 = pointer_offset site pointer 0 in
      let o2 = pointer_offset site pointer 2 in
      let sp = a.sp in
      let size = length (store_two x to) in
      let w1 = subst (λ z. ReadsWord g r.cells z o0 q.offset) (sym a.active.ds) (fixed_word s r w.choice.data_segment o0 q.offset a (omega arith) first) in
      let g1 = record (at_offset g (site.at (k + 1))) { ax = q.offset } in
      let c1 = fetch_word p w.framed site.segment site.code site.at site.labels fits.placed k (load word.Ax (operand x (pointer_at x pointer) 0)) g.ds o0 q.offset (λ v. record (at_offset g (site.at (k + 1))) { ax = v }) r refl here (stands.0, tt) (direct_tree (at_offset g (site.at (k + 1))) word.Ax o0) w1 in
      let r1 = with_memory r g1 r.cells in
      let a1 = represents_keeps w site live fits s r g1 r.cells a (keeps_same g g1 r.cells refl refl refl refl refl) in
      let w2 = subst (λ z. ReadsWord g1 r.cells z o2 q.segment) (sym a1.active.ds) (fixed_word s r1 w.choice.data_segment o2 q.segment a1 (omega arith) second) in
      let g2 = record (at_offset g1 (site.at (k + 1 + 1))) { dx = q.segment } in
      let c2 = fetch_word p w.framed site.segment site.code site.at site.labels fits.placed (k + 1) (load word.Dx (operand x (pointer_at x pointer) 2)) g1.ds o2 q.segment (λ v. record (at_offset g1 (site.at (k + 1 + 1))) { dx = v }) r1 refl c1.here (stands.1.0, tt) (direct_tree (at_offset g1 (site.at (k + 1 + 1))) word.Dx o2) w2 in
      let r2 = with_memory r g2 r.cells in
      let grown = budget_grows w s.work 1 (2 + size) few (omega arith) in
      let arrived : Arrives w site live (site.at (k + 1 + 1)) s r (begun 1 s) = record {
        count = 1 + 1;
        end = r2;
        leads = leads_on p w.framed 1 1 r r1 r2 c1.leads c2.leads;
        here = c2.here;
        stands = represents_like w live s s.turns (s.work + 1) r2 (represents_keeps w site live fits s r g2 r.cells a (keeps_same g g2 r.cells refl refl refl refl refl));
        enough = omega arith;
        fewer = omega arith;
        work = omega arith;
        free = λ place h. h;
        input = refl;
      } in
      let paid : 1 + 1 + size + budget w s.work ≤ budget w (s.work + 1) = omega arith in
      let active = active_keeps p.installed w.choice live.frame s.cells g g2 r.cells r.cells a.active (keeps_same g g2 r.cells refl refl refl refl refl) in
      let small0 = first.small in
      let small2 = second.small in
      let t = two_taken p w.framed site.segment site.code site.at site.labels fits.placed x w.choice live.frame s.cells fits.suits to (k + 1 + 1) q.offset q.segment r2 refl small0 refl small2 c2.here active (omega arith) stands.1.1 in
      let there : k + 1 + 1 + size ≡ k + (2 + size) = omega arith in
      subst (λ n. Flows w site live around (site.at n) s r (stored w.choice live.frame to (far_bytes q) (begun 1 s))) there
      (takes_flow w site live fits around (site.at (k + 1 + 1)) (site.at (k + 1 + 1 + size)) size s r (begun 1 s) arrived paid (stored_at w.choice live.frame s.cells to (far_bytes q)) t)

  pub routine_flows : (bound pointer : ℕ) (to : Address) (unit number : ℕ) → HoldsPointer w site live pointer unit number → 64 ≤ live.frame.sp → StepFlows w site live bound pointer (StoreRoutine to unit number)
  routine_flows bound pointer to unit number holds room around k s r few here a stands small = by (routine_pointer w.choice live.frame unit number) refl
    where
      size : ℕ
      size = length (ones (store_routine x pointer to))

      by : (found : Found Place) → routine_pointer w.choice live.frame unit number ≡ found → Flows w site live around (site.at (k + size)) s r (with_found found (begun 1 s) (λ q. stored w.choice live.frame to (far_bytes q) (begun 1 s)))
      by (Ok q) e =
          let same = length-ones (store_routine x pointer to) in
          let whole : 2 + length (store_two x to) ≡ size = omega arith in
          subst (λ n. Flows w site live around (site.at (k + n)) s r (stored w.choice live.frame to (far_bytes q) (begun 1 s))) whole
          (loaded_flows around pointer k s r to q here a room (holds.offset q e) (holds.segment q e) stands (omega arith))
      by (Err ByZero) e = absurd (pointer_no_division w.choice live.frame unit number e)
      by (Err (Bad cause)) e = settles_here w site live fits (Undefined cause) (s.work + 1) s.turns s r tt (budget_more w s.work 1) a
