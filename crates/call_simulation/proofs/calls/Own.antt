-- A far call inside one's own unit: PUSH CS and a near call, which make a far return address together.
use Rattle.std.proofs.Common.{◌≡◌, ℕ, ◌+◌, ◌-◌, ◌*◌, ◌/◌, ◌%◌, ◌<◌, ◌≤◌, Bool, true, false, not, List, ◌∷◌, length, Ok, Err, arith, refl, sym, ap, subst, ◌∙◌}
use Rattle.std.specs.Prelude.{IsTrue, if◌then◌else◌, ◌&&◌}
use Rattle.x86_table.specs.declared.instr.Instr.{Instr}
use Rattle.x86_table.specs.declared.instr.Instr.TheVariants as instr
use Rattle.x86_table.specs.declared.line.Line.TheVariants.{CallNear}
use Rattle.x86_table.specs.declared.operand.SegReg.TheVariants as seg
use Rattle.x86_table.specs.Lines.{word_distance}
use Rattle.x86_table.specs.Spelling.{spelling}
use Rattle.x86_table.specs.Standing.{IsSpelledAt, LineIs}
use Rattle.x86_table.proofs.Stand.{near_lands}
use Rattle.cpu_8086.specs.declared.registers.Registers.{Registers}
use Rattle.cpu_8086.specs.Access.{Done, write_word, at_offset}
use Rattle.cpu_8086.specs.Effect.{act}
use Rattle.cpu_8086.specs.Memory.{address, next_offset}
use Rattle.cpu_8086.specs.Step.{past}
use Rattle.resident_machine.specs.Astray.{Uninstalls, LeavesHalf, and_then}
use Rattle.resident_machine.specs.Cells.{Known, Paired, Cells, with_cell, with_word, is_free, paired_then}
use Rattle.resident_machine.specs.Dos.{plainly}
use Rattle.resident_machine.specs.Effect.{Outcome, with_memory, on_cells, plain_effect, half_pushed, is_near_call, completed, made_whole, is_zero, kept_installed, effect_of}
use Rattle.resident_machine.specs.Program.{Segment, Program}
use Rattle.resident_machine.specs.State.{ResidentState, NoService}
use Rattle.resident_machine.specs.machine_lines.Steps.{ReadsAbove, Moves}
use Rattle.resident_machine.specs.machine_lines.Straight.{MayWrite, Placed, IsAt}
use Rattle.resident_machine.specs.machine_lines.Words.{stored}
use Rattle.resident_machine.proofs.machine_lines.Steps.{nothing_owed}
use Rattle.resident_machine.proofs.machine_lines.Straight.{plain_goes, standing, past_line, same_stack}
use Rattle.call_simulation.proofs.frames.Leave.{with_cell_free, with_cell_other}
use Rattle.call_simulation.specs.calls.Enters.{Calls}
use Rattle.call_simulation.proofs.calls.Near.{HasRoom, free_goes, near_tree, near_size, push_tree}

kept_goes : (p : Program) (r t : ResidentState) → t.cells p.installed ≡ r.cells p.installed → kept_installed p r (t, NoService) ≡ Ok (t, NoService)
kept_goes p r t e = by (is_zero (r.cells p.installed)) (is_zero (t.cells p.installed)) (ap is_zero e)
  where
    done : Outcome
    done = Ok (t, NoService)

    by : (a b : Bool) → b ≡ a → (if not a && b then Err Uninstalls else done) ≡ done
    by true b e = refl
    by false true e = absurd (cc)
    by false false e = refl

-- a near call behind PUSH CS
whole_goes : (p : Program) (r u t : ResidentState) (i : Instr) → r.half ≡ true → is_near_call i ≡ true → plain_effect p r i ≡ plainly u → made_whole r (past i r.registers).ip (u, NoService) ≡ plainly t → t.cells p.installed ≡ r.cells p.installed → effect_of p r i ≡ Ok (t, NoService)
unfolding effect_of
whole_goes p r u t i half near e whole flag =
    let out : Outcome = Err LeavesHalf in
    ap (λ b. and_then (if b then completed p r i else plain_effect p r i) (kept_installed p r)) half
    ∙ ap (λ b. and_then (if b then and_then (plain_effect p r i) (made_whole r (past i r.registers).ip) else out) (kept_installed p r)) near
    ∙ ap (λ o. and_then (and_then o (made_whole r (past i r.registers).ip)) (kept_installed p r)) e
    ∙ ap (λ o. and_then o (kept_installed p r)) whole
    ∙ kept_goes p r t flag

module _ (p : Program) (framed : Bool) (cs : Segment) (code : List ℕ) (at labels : ℕ → ℕ) (pl : Placed p cs code at) (t : ResidentState) (h : HasRoom p t 4) where
  abbrev g : Registers
  g = t.registers

  abbrev c : Cells
  c = t.cells

  abbrev c1 : Cells
  c1 = with_word c g.ss (g.sp - 2) Paired

  abbrev c2 : ℕ → Cells
  c2 v = stored c1 g.ss (g.sp - 4) v

  abbrev c3 : ℕ → Cells
  c3 v = with_word (c2 v) g.ss (g.sp - 4) Paired

  b0 : address g.ss (g.sp - 4) ≡ 16 * g.ss + (g.sp - 4)
  b0 = let r = h.room in let i = h.inside in let p = h.top in omega arith

  b1 : address g.ss (next_offset (g.sp - 4)) ≡ 16 * g.ss + (g.sp - 4) + 1
  b1 = let r = h.room in let i = h.inside in let p = h.top in omega arith

  b2 : address g.ss (g.sp - 2) ≡ 16 * g.ss + (g.sp - 4) + 2
  b2 = let r = h.room in let i = h.inside in let p = h.top in omega arith

  b3 : address g.ss (next_offset (g.sp - 2)) ≡ 16 * g.ss + (g.sp - 4) + 3
  b3 = let r = h.room in let i = h.inside in let p = h.top in omega arith

  abbrev IsIn : ℕ → Type 0
  IsIn place = (16 * g.ss + (g.sp - 4) ≤ place) × (place < 16 * g.ss + (g.sp - 4) + 4)

  half_other : (place : ℕ) → (IsIn place → ⊥) → c1 place ≡ c place
  half_other place apart =
      with_cell_other (with_cell c (address g.ss (g.sp - 2)) Paired) (address g.ss (next_offset (g.sp - 2))) Paired place (λ e. let z = b3 in apart (omega arith, omega arith))
      ∙ with_cell_other c (address g.ss (g.sp - 2)) Paired place (λ e. let z = b2 in apart (omega arith, omega arith))

  stored_same : (v place : ℕ) → (IsIn place → ⊥) → c2 v place ≡ c1 place
  stored_same v place apart =
      with_cell_other (with_cell c1 (address g.ss (g.sp - 4)) (Known (v % 256))) (address g.ss (next_offset (g.sp - 4))) (Known (v / 256)) place (λ e. let z = b1 in apart (omega arith, omega arith))
      ∙ with_cell_other c1 (address g.ss (g.sp - 4)) (Known (v % 256)) place (λ e. let z = b0 in apart (omega arith, omega arith))

  whole_other : (v place : ℕ) → (IsIn place → ⊥) → c3 v place ≡ c place
  whole_other v place apart =
      with_cell_other (with_cell (c2 v) (address g.ss (g.sp - 4)) Paired) (address g.ss (next_offset (g.sp - 4))) Paired place (λ e. let z = b1 in apart (omega arith, omega arith))
      ∙ with_cell_other (c2 v) (address g.ss (g.sp - 4)) Paired place (λ e. let z = b0 in apart (omega arith, omega arith))
      ∙ stored_same v place apart ∙ half_other place apart

  may_at : (o : ℕ) → o < g.sp → MayWrite c p.installed (address g.ss o)
  may_at o less =
      let top = h.top in
      let inside = h.inside in
      subst (λ place. MayWrite c p.installed place) {x = 16 * g.ss + o} {y = address g.ss o} (omega arith) (h.may o less)

  flag_apart : IsIn p.installed → ⊥
  flag_apart q =
      let low = q.0 in
      let high = q.1 in
      let r = h.room in
      let may = h.may (p.installed - 16 * g.ss) (omega arith) in
      may.apart (omega arith)

  -- PUSH CS
  abbrev half_state : ℕ → ResidentState
  half_state k = record t { registers = record g { ip = at (k + 1); sp = g.sp - 2 }; cells = c1; half = true }

  half_moves : (k : ℕ) → IsAt cs (at k) t → IsSpelledAt code (at k) (instr.PushSeg seg.Cs) → at (k + 1) ≡ at k + length (spelling (instr.PushSeg seg.Cs)) → Moves p framed t (half_state k)
  half_moves k here spelled size =
      let i = instr.PushSeg seg.Cs in
      let next = past_line cs at k i t here size (pl.fits (k + 1)) in
      let g1 = at_offset g (at (k + 1)) in
      let tree = ap (λ z. act z i) next ∙ push_tree g1 in
      let r = h.room in
      let top = h.top in
      let low : (g.sp + 65534) % 65536 ≡ g.sp - 2 = omega arith in
      let f2 = (may_at (g.sp - 2) (omega arith)).free in
      let f3 = subst (λ o. IsTrue (is_free (c (address g.ss o)))) {x = g.sp - 1} {y = next_offset (g.sp - 2)} (omega arith) (may_at (g.sp - 1) (omega arith)).free in
      let effect : plain_effect p t i ≡ plainly (half_state k) = ap (λ a. on_cells p t a c) tree
      ∙ same_stack t g1 (half_pushed t g1 c) refl
      ∙ ap (λ o. paired_then c g.ss o (λ half. plainly (record t { registers = record g1 { sp = o }; cells = half; half = true }))) low
      ∙ free_goes (c (address g.ss (g.sp - 2))) _ f2 ∙ free_goes (c (address g.ss (next_offset (g.sp - 2)))) _ f3 in
      record {
        service = NoService;
        goes = record { running = here.running; instruction = i; stands = standing p cs code at k i t pl here spelled; result = plain_goes p t (half_state k) NoService i here.half effect (half_other p.installed flag_apart) };
        owed = nothing_owed framed p (half_state k);
        above = subst (λ a. ReadsAbove g.ss g.sp a c) (sym tree) tt;
      }

  abbrev whole_state : ℕ → ℕ → ResidentState
  whole_state v to = record t { registers = record g { sp = g.sp - 4; ip = to }; cells = c3 v; records = record { place = g.sp - 4; segment = t.cs; offset = v } ∷ t.records; half = false }

  -- the near call behind it
  whole_moves : (k l : ℕ) → IsAt cs (at k) t → LineIs (IsSpelledAt code) at labels (k + 1) (CallNear l) → Moves p framed (half_state k) (whole_state (at (k + 1 + 1)) (at (labels l)))
  whole_moves k l here s =
      let t1 = half_state k in
      let to = at (labels l) in
      let v = at (k + 1 + 1) in
      let d = word_distance (at (k + 1 + 1)) to in
      let i = instr.CallNear d in
      let r = h.room in
      let top = h.top in
      let o = g.sp - 4 in
      let size : at (k + 1 + 1) ≡ at (k + 1) + length (spelling i) = s.1 ∙ ap (λ n. at (k + 1) + n) (sym (near_size d)) in
      let plain = record t1 { half = false } in
      let here1 : IsAt cs (at (k + 1)) plain = record { running = here.running; half = refl; segment = here.segment; offset = refl } in
      let next = past_line cs at (k + 1) i plain here1 size (pl.fits (k + 1 + 1)) in
      let g1 = t1.registers in
      let g2 = at_offset g1 v in
      let lands = near_lands (at (k + 1 + 1)) to (let f = pl.fits (k + 1 + 1) in omega arith) (pl.fits (labels l)) in
      let there : (g.sp - 2 + 65534) % 65536 ≡ o = omega arith in
      let tree = ap (λ z. act z i) next ∙ near_tree g2 d ∙ ap (λ z. write_word g.ss z v (Done (record g { sp = z; ip = (at (k + 1 + 1) + d) % 65536 }))) there ∙ ap (λ z. write_word g.ss o v (Done (record g { sp = o; ip = z }))) lands in
      let a0 = address g.ss o in
      let a1 = address g.ss (next_offset o) in
      let f0 = (may_at o (omega arith)).free in
      let f1 = subst (λ z. IsTrue (is_free (c (address g.ss z)))) {x = g.sp - 3} {y = next_offset o} (omega arith) (may_at (g.sp - 3) (omega arith)).free in
      let z0 = b0 in
      let z1 = b1 in
      let z2 = b2 in
      let z3 = b3 in
      let same0 = with_cell_other (with_cell c (address g.ss (g.sp - 2)) Paired) (address g.ss (next_offset (g.sp - 2))) Paired a0 (λ e. absurd (omega arith)) ∙ with_cell_other c (address g.ss (g.sp - 2)) Paired a0 (λ e. absurd (omega arith)) in
      let same1 = with_cell_other (with_cell c (address g.ss (g.sp - 2)) Paired) (address g.ss (next_offset (g.sp - 2))) Paired a1 (λ e. absurd (omega arith)) ∙ with_cell_other c (address g.ss (g.sp - 2)) Paired a1 (λ e. absurd (omega arith)) in
      let h0 = subst (λ x. IsTrue (is_free x)) (sym same0) f0 in
      let h1 = with_cell_free c1 a0 (Known (v % 256)) a1 refl (λ n. subst (λ x. IsTrue (is_free x)) (sym same1) f1) in
      let g3 = record g { sp = o; ip = to } in
      let u = with_memory t1 g3 (c2 v) in
      let effect : plain_effect p t1 i ≡ plainly u = ap (λ a. on_cells p t1 a c1) tree
      ∙ free_goes (c1 a0) _ h0 ∙ free_goes (with_cell c1 a0 (Known (v % 256)) a1) _ h1
      ∙ same_stack t1 g3 (plainly (with_memory t1 g3 (c2 v))) refl in
      let end = whole_state v to in
      let whole : made_whole t1 (past i t1.registers).ip (u, NoService) ≡ plainly end = ap (λ (z : Registers). made_whole t1 z.ip (u, NoService)) next in
      let flag = whole_other v p.installed flag_apart ∙ sym (half_other p.installed flag_apart) in
      let stands = standing p cs code at (k + 1) i plain pl here1 s.0 in
      record {
        service = NoService;
        goes = record { running = here.running; instruction = i; stands = record { code = stands.code; named = stands.named; rest = stands.rest; spelled = stands.spelled }; result = whole_goes p t1 u end i refl refl effect whole flag };
        owed = nothing_owed framed p end;
        above = subst (λ a. ReadsAbove g.ss (g.sp - 2) a c1) (sym tree) tt;
      }

  pub own_calls : (k l : ℕ) → IsAt cs (at k) t → IsSpelledAt code (at k) (instr.PushSeg seg.Cs) → at (k + 1) ≡ at k + length (spelling (instr.PushSeg seg.Cs)) → LineIs (IsSpelledAt code) at labels (k + 1) (CallNear l) → Calls p framed true (record { segment = cs; offset = at (k + 1 + 1) }) cs 2 (at (labels l)) t (whole_state (at (k + 1 + 1)) (at (labels l)))
  own_calls k l here spelled size s =
      let v = at (k + 1 + 1) in
      let to = at (labels l) in
      let end = whole_state v to in
      let r = h.room in
      record {
        leads = (half_state k, half_moves k here spelled size, (end, whole_moves k l here s, refl));
        state = record {
          here = record { running = here.running; half = refl; segment = here.segment; offset = refl };
          sp = omega arith;
          bp = refl;
          ss = refl;
          ds = refl;
          direction = refl;
          bytes = λ place kept. whole_other v place (λ q. let low = q.0 in let high = q.1 in let z = kept (omega arith) in absurd (omega arith));
          free = λ place f apart. subst (λ x. IsTrue (is_free x)) (sym (whole_other v place (λ q. apart (q.0, q.1)))) f;
          return = ap (λ z. record { place = g.sp - 4; segment = z; offset = v } ∷ t.records) here.segment;
          input = refl;
          taken = refl;
          out = refl;
          err = refl;
        };
      }
