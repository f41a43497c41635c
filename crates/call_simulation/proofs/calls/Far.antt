-- Far calls: into code of the image, and through the entry of a stub.
use Rattle.std.proofs.Common.{◌≡◌, ◌≢◌, ℕ, ◌+◌, ◌-◌, ◌*◌, ◌%◌, ◌<◌, ◌≤◌, Bool, true, List, ◌∷◌, length, Ok, arith, refl, sym, ap, subst, ◌∙◌}
use Rattle.std.specs.Prelude.{IsTrue, if◌then◌else◌}
use Rattle.std.proofs.Math.Dec.{eqb-suc-zero}
use Rattle.x86_table.specs.declared.instr.Instr.{Instr}
use Rattle.x86_table.specs.Spelling.{spelling}
use Rattle.x86_table.specs.Standing.{IsSpelledAt}
use Rattle.flat_code.specs.declared.memory.Place.{Place}
use Rattle.cpu_8086.specs.declared.registers.Registers.{Registers}
use Rattle.cpu_8086.specs.Access.{at_offset}
use Rattle.cpu_8086.specs.Effect.{act}
use Rattle.cpu_8086.specs.Memory.{address, next_offset}
use Rattle.resident_machine.specs.Cells.{Paired, Cells, with_cell, with_word, is_free, known_then, paired_then, below}
use Rattle.resident_machine.specs.Effect.{Outcome, blurred, called, refused_to, entered, called_to, far_call, on_cells, plain_effect}
use Rattle.resident_machine.specs.Program.{Segment, Image, Overlay, Program, Target, far_target, image_target}
use Rattle.resident_machine.specs.State.{ResidentState, Service, NoService, AtCall}
use Rattle.resident_machine.specs.machine_lines.Steps.{ReadsAbove, Owed, Moves}
use Rattle.resident_machine.specs.machine_lines.Straight.{MayWrite, Placed, IsAt}
use Rattle.resident_machine.proofs.machine_lines.Straight.{plain_goes, standing, past_line}
use Rattle.statement_simulation.specs.expressions.Active.{IsKept}
use Rattle.call_simulation.specs.frames.Callee.{IsPaired}
use Rattle.call_simulation.proofs.frames.Leave.{back_in, with_cell_other, back_free, back_other, back_beside}
use Rattle.call_simulation.specs.calls.Enters.{CallsTo, Calls, EntersAt, IsSet}
use Rattle.call_simulation.proofs.calls.Near.{HasRoom, free_goes}

-- a service may follow a call through a stub
abbrev pub call_service : Segment → Service
call_service (Image number) = NoService
call_service (Overlay number) = AtCall

-- the bytes of both words become a pair's
abbrev pub paired_cells : Cells → ℕ → ℕ → Cells
paired_cells c ss sp = with_word (with_word c ss (sp - 2) Paired) ss (sp - 4) Paired

module _ (p : Program) (framed : Bool) (t : ResidentState) (h : HasRoom p t 68) where
  abbrev g : Registers
  g = t.registers

  -- where the four bytes lie
  a0 : address g.ss (g.sp - 4) ≡ 16 * g.ss + (g.sp - 4)
  a0 = let r = h.room in let i = h.inside in let p = h.top in omega arith

  a1 : address g.ss (next_offset (g.sp - 4)) ≡ 16 * g.ss + (g.sp - 4) + 1
  a1 = let r = h.room in let i = h.inside in let p = h.top in omega arith

  a2 : address g.ss (g.sp - 2) ≡ 16 * g.ss + (g.sp - 4) + 2
  a2 = let r = h.room in let i = h.inside in let p = h.top in omega arith

  a3 : address g.ss (next_offset (g.sp - 2)) ≡ 16 * g.ss + (g.sp - 4) + 3
  a3 = let r = h.room in let i = h.inside in let p = h.top in omega arith

  -- another byte is as it was
  pub paired_other : (place : ℕ) → ((16 * g.ss + (g.sp - 4) ≤ place) × (place < 16 * g.ss + (g.sp - 4) + 4) → ⊥) → paired_cells t.cells g.ss g.sp place ≡ t.cells place
  paired_other place apart =
      let c1 = with_cell t.cells (address g.ss (g.sp - 2)) Paired in
      let c2 = with_cell c1 (address g.ss (next_offset (g.sp - 2))) Paired in
      let c3 = with_cell c2 (address g.ss (g.sp - 4)) Paired in
      with_cell_other c3 (address g.ss (next_offset (g.sp - 4))) Paired place (λ e. let z = a1 in apart (omega arith, omega arith))
      ∙ with_cell_other c2 (address g.ss (g.sp - 4)) Paired place (λ e. let z = a0 in apart (omega arith, omega arith))
      ∙ with_cell_other c1 (address g.ss (next_offset (g.sp - 2))) Paired place (λ e. let z = a3 in apart (omega arith, omega arith))
      ∙ with_cell_other t.cells (address g.ss (g.sp - 2)) Paired place (λ e. let z = a2 in apart (omega arith, omega arith))

  pub may_at : (o : ℕ) → o < g.sp → MayWrite t.cells p.installed (address g.ss o)
  may_at o less =
      let top = h.top in
      let inside = h.inside in
      subst (λ place. MayWrite t.cells p.installed place) {x = 16 * g.ss + o} {y = address g.ss o} (omega arith) (h.may o less)

  pub flag_apart : (16 * g.ss + (g.sp - 4) ≤ p.installed) × (p.installed < 16 * g.ss + (g.sp - 4) + 4) → ⊥
  flag_apart q =
      let low = q.0 in
      let high = q.1 in
      let r = h.room in
      let may = h.may (p.installed - 16 * g.ss) (omega arith) in
      may.apart (omega arith)

  low_sp : (g.sp + 65534) % 65536 ≡ g.sp - 2
  low_sp = let r = h.room in let p = h.top in omega arith

  lower_sp : ((g.sp + 65534) % 65536 + 65534) % 65536 ≡ g.sp - 4
  lower_sp = let r = h.room in let p = h.top in omega arith

  -- the words are free, one after the other
  both_free : (next : Cells → Outcome) → paired_then t.cells g.ss (g.sp - 2) (λ half. paired_then half g.ss (g.sp - 4) next) ≡ next (paired_cells t.cells g.ss g.sp)
  both_free next =
      let r = h.room in
      let top = h.top in
      let inside = h.inside in
      let c = t.cells in
      let half = with_word c g.ss (g.sp - 2) Paired in
      let b0 = address g.ss (g.sp - 4) in
      let b1 = address g.ss (next_offset (g.sp - 4)) in
      let b2 = address g.ss (g.sp - 2) in
      let b3 = address g.ss (next_offset (g.sp - 2)) in
      let f0 = (may_at (g.sp - 4) (omega arith)).free in
      let f1 = subst (λ o. IsTrue (is_free (c (address g.ss o)))) {x = g.sp - 3} {y = next_offset (g.sp - 4)} (omega arith) (may_at (g.sp - 3) (omega arith)).free in
      let f2 = (may_at (g.sp - 2) (omega arith)).free in
      let f3 = subst (λ o. IsTrue (is_free (c (address g.ss o)))) {x = g.sp - 1} {y = next_offset (g.sp - 2)} (omega arith) (may_at (g.sp - 1) (omega arith)).free in
      let h0 = with_cell_other (with_cell c b2 Paired) b3 Paired b0 (λ e. absurd (omega arith)) ∙ with_cell_other c b2 Paired b0 (λ e. absurd (omega arith)) in
      let h1 = with_cell_other (with_cell c b2 Paired) b3 Paired b1 (λ e. absurd (omega arith)) ∙ with_cell_other c b2 Paired b1 (λ e. absurd (omega arith)) in
      free_goes (c b2) _ f2 ∙ free_goes (c b3) _ f3 ∙ free_goes (half b0) _ (subst (λ x. IsTrue (is_free x)) (sym h0) f0) ∙ free_goes (half b1) _ (subst (λ x. IsTrue (is_free x)) (sym h1) f1)

  -- the state behind the call
  abbrev pub entered_state : ℕ → Segment → ℕ → ResidentState
  entered_state ip to entry = called t (at_offset g ip) (paired_cells t.cells g.ss g.sp) to entry

  -- both words of the pair are free
  pub call_goes : (ip : ℕ) (target : Target) → far_call p t (at_offset g ip) t.cells target ≡ called_to p t (at_offset g ip) (paired_cells t.cells g.ss g.sp) target
  call_goes ip target =
      ap (λ o. paired_then t.cells g.ss o (λ half. paired_then half g.ss (((g.sp + 65534) % 65536 + 65534) % 65536) (λ whole. called_to p t (at_offset g ip) whole target))) low_sp
      ∙ ap (λ o. paired_then t.cells g.ss (g.sp - 2) (λ half. paired_then half g.ss o (λ whole. called_to p t (at_offset g ip) whole target))) lower_sp
      ∙ both_free (λ whole. called_to p t (at_offset g ip) whole target)

  flag_kept : paired_cells t.cells g.ss g.sp p.installed ≡ t.cells p.installed
  flag_kept = paired_other p.installed flag_apart

  -- through a stub the flag's byte is read, which is not 0
  called_is : (ip : ℕ) (place : Place) (to : Segment) (entry : ℕ) → EntersAt p place to entry → IsSet to (t.cells p.installed) → called_to p t (at_offset g ip) (paired_cells t.cells g.ss g.sp) (far_target p place.segment place.offset) ≡ Ok (back_in to (entered_state ip to entry), call_service to)
  called_is ip place (Image number) entry e set = ap (λ target. called_to p t (at_offset g ip) (paired_cells t.cells g.ss g.sp) target) e
  called_is ip place (Overlay number) entry e set =
      let whole = paired_cells t.cells g.ss g.sp in
      let u = entered_state ip (Overlay number) entry in
      let out : Outcome = Ok (blurred u, AtCall) in
      ap (λ target. called_to p t (at_offset g ip) whole target) e
      ∙ ap (λ x. known_then x (λ flag. entered p u flag)) (flag_kept ∙ set.1)
      ∙ ap (λ b. if b then refused_to p u (image_target (p.image p.error_routine.segment) p.error_routine.segment p.error_routine.offset) else out) (eqb-suc-zero set.0)

  -- ## The event

  module _ (cs : Segment) (code : List ℕ) (at : ℕ → ℕ) (pl : Placed p cs code at) where
    -- the state behind the call
    pub far_state : (k : ℕ) (to : Segment) (entry : ℕ) → IsAt cs (at k) t → CallsTo true (record { segment = cs; offset = at (k + 1) }) to entry t (back_in to (entered_state (at (k + 1)) to entry))
    far_state k to entry here =
        let plain = entered_state (at (k + 1)) to entry in
        let end = back_in to plain in
        let r = h.room in
        let top = h.top in
        let inside = h.inside in
        let low = lower_sp in
        let beside = back_beside to plain in
        let regs = beside.registers in
        let sp_is : end.registers.sp ≡ g.sp - 4 = ap (λ (z : Registers). z.sp) regs ∙ low in
        let ss_is : end.registers.ss ≡ g.ss = ap (λ (z : Registers). z.ss) regs in
        record {
          here = record { running = beside.status ∙ here.running; half = beside.half ∙ here.half; segment = beside.cs; offset = ap (λ (z : Registers). z.ip) regs };
          sp = omega arith;
          bp = ap (λ (z : Registers). z.bp) regs;
          ss = ss_is;
          ds = ap (λ (z : Registers). z.ds) regs;
          direction = ap (λ (z : Registers). z.direction) regs;
          bytes = λ place kept. back_other to plain place (λ j less e. below_apart place j kept less e) ∙ paired_other place (λ q. let a = q.0 in let b = q.1 in let z = kept (omega arith) in absurd (omega arith));
          free = λ place f apart. back_free to plain place (subst (λ x. IsTrue (is_free x)) (sym (paired_other place (λ q. apart (as_pair place sp_is ss_is q)))) f);
          return = beside.records ∙ records_are end.registers.sp here.segment (sym (ap (λ (z : Registers). z.sp) regs));
          input = beside.input;
          taken = beside.taken;
          out = beside.out;
          err = beside.err;
        }
      where
        plain_ : ResidentState
        plain_ = entered_state (at (k + 1)) to entry

        as_pair : (place : ℕ) → (back_in to plain_).registers.sp ≡ g.sp - 4 → (back_in to plain_).registers.ss ≡ g.ss → (16 * g.ss + (g.sp - 4) ≤ place) × (place < 16 * g.ss + (g.sp - 4) + 4) → IsPaired true (back_in to plain_).registers place
        as_pair place sp_is ss_is q = let a = q.0 in let b = q.1 in (omega arith, omega arith)

        records_are : (sp : ℕ) → t.cs ≡ cs → plain_.registers.sp ≡ sp → plain_.records ≡ record { place = sp; segment = cs; offset = at (k + 1) } ∷ t.records
        records_are sp segment e = ap (λ z. record { place = plain_.registers.sp; segment = z; offset = at (k + 1) } ∷ t.records) segment ∙ ap (λ z. record { place = z; segment = cs; offset = at (k + 1) } ∷ t.records) e

        below_is : (j : ℕ) → j < 64 → below plain_.registers.ss plain_.registers.sp j ≡ 16 * g.ss + (g.sp - 4 - 1 - j)
        below_is j less = let r = h.room in let top = h.top in let inside = h.inside in let low = lower_sp in let same : below g.ss (g.sp - 4) j ≡ 16 * g.ss + (g.sp - 4 - 1 - j) = omega (arith, less) in ap (λ n. below g.ss n j) lower_sp ∙ same

        below_apart : (place j : ℕ) → IsKept g place → j < 64 → place ≢ below plain_.registers.ss plain_.registers.sp j
        below_apart place j kept less e =
            let r = h.room in
            let same : place ≡ 16 * g.ss + (g.sp - 4 - 1 - j) = e ∙ below_is j less in
            let z = kept (omega (arith, same)) in
            absurd (omega (arith, same, z, less))

    pub far_calls : (k : ℕ) (i : Instr) (place : Place) (to : Segment) (entry : ℕ) → IsAt cs (at k) t → IsSpelledAt code (at k) i → at (k + 1) ≡ at k + length (spelling i) → EntersAt p place to entry → IsSet to (t.cells p.installed) → on_cells p t (act (at_offset g (at (k + 1))) i) t.cells ≡ far_call p t (at_offset g (at (k + 1))) t.cells (far_target p place.segment place.offset) → ReadsAbove g.ss g.sp (act (at_offset g (at (k + 1))) i) t.cells → Owed framed p (call_service to) (back_in to (entered_state (at (k + 1)) to entry)) → Calls p framed true (record { segment = cs; offset = at (k + 1) }) to 1 entry t (back_in to (entered_state (at (k + 1)) to entry))
    far_calls k i place to entry here spelled size enters set runs reads owed =
        let ip = at (k + 1) in
        let next = past_line cs at k i t here size (pl.fits (k + 1)) in
        let plain = entered_state ip to entry in
        let end = back_in to plain in
        let effect : plain_effect p t i ≡ Ok (end, call_service to) = ap (λ z. on_cells p t (act z i) t.cells) next ∙ runs ∙ call_goes ip (far_target p place.segment place.offset) ∙ called_is ip place to entry enters set in
        let flag = back_other to plain p.installed (λ j less e. flag_below j less e) ∙ flag_kept in
        let moves : Moves p framed t end = record {
          service = call_service to;
          goes = record { running = here.running; instruction = i; stands = standing p cs code at k i t pl here spelled; result = plain_goes p t end (call_service to) i here.half effect flag };
          owed = owed;
          above = subst (λ z. ReadsAbove g.ss g.sp (act z i) t.cells) (sym next) reads;
        } in
        record { leads = (end, moves, refl); state = far_state k to entry here }
      where
        flag_below : (j : ℕ) → j < 64 → p.installed ≢ below g.ss (((g.sp + 65534) % 65536 + 65534) % 65536) j
        flag_below j less e =
            let r = h.room in
            let top = h.top in
            let inside = h.inside in
            let same : below g.ss (g.sp - 4) j ≡ 16 * g.ss + (g.sp - 4 - 1 - j) = omega (arith, less) in
            let may = h.may (g.sp - 4 - 1 - j) (omega (arith, less)) in
            may.apart (sym (e ∙ ap (λ n. below g.ss n j) lower_sp ∙ same))
