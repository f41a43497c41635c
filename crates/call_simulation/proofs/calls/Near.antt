-- Near calls, alone and behind PUSH CS.
use Rattle.std.proofs.Common.{◌≡◌, ℕ, ◌+◌, ◌-◌, ◌*◌, ◌/◌, ◌%◌, ◌<◌, ◌≤◌, Bool, false, List, length, arith, refl, sym, ap, subst, ◌∙◌}
use Rattle.std.specs.Prelude.{IsTrue}
use Rattle.x86_table.specs.declared.instr.Instr.TheVariants as instr
use Rattle.x86_table.specs.declared.line.Line.TheVariants.{CallNear}
use Rattle.x86_table.specs.declared.operand.SegReg.TheVariants as seg
use Rattle.x86_table.specs.Lines.{word_distance}
use Rattle.x86_table.specs.Spelling.{word_bytes, spelling}
use Rattle.x86_table.specs.Standing.{IsSpelledAt, LineIs}
use Rattle.x86_table.proofs.Stand.{near_lands}
use Rattle.cpu_8086.specs.declared.registers.Registers.{Registers}
use Rattle.cpu_8086.specs.Access.{Done, PushCodeSegment, lowered, write_word, at_offset}
use Rattle.cpu_8086.specs.Effect.{act}
use Rattle.cpu_8086.specs.Memory.{address, next_offset}
use Rattle.resident_machine.specs.Cells.{Cell, Known, Unknown, Kept, Paired, with_cell, is_free, free_then}
use Rattle.resident_machine.specs.Dos.{plainly}
use Rattle.resident_machine.specs.Effect.{Outcome, with_memory, on_cells, plain_effect}
use Rattle.resident_machine.specs.Program.{Segment, Program}
use Rattle.resident_machine.specs.State.{ResidentState, NoService}
use Rattle.resident_machine.specs.machine_lines.Steps.{ReadsAbove, Moves}
use Rattle.resident_machine.specs.machine_lines.Straight.{MayWrite, Placed, IsAt}
use Rattle.resident_machine.specs.machine_lines.Words.{stored}
use Rattle.resident_machine.proofs.machine_lines.Steps.{nothing_owed}
use Rattle.resident_machine.proofs.machine_lines.Straight.{plain_goes, standing, past_line, same_stack}
use Rattle.resident_machine.proofs.machine_lines.Words.{stored_holds, stored_other}
use Rattle.call_simulation.proofs.frames.Leave.{with_cell_free}
use Rattle.call_simulation.specs.calls.Enters.{Calls}

pub near_tree : (g : Registers) (d : ℕ) → act g (instr.CallNear d) ≡ write_word g.ss ((g.sp + 65534) % 65536) g.ip (Done (at_offset (lowered g) ((g.ip + d) % 65536)))
unfolding act
near_tree g d = refl

pub push_tree : (g : Registers) → act g (instr.PushSeg seg.Cs) ≡ PushCodeSegment g
unfolding act
push_tree g = refl

pub near_size : (d : ℕ) → length (spelling (instr.CallNear d)) ≡ 3
unfolding word_bytes
near_size d = refl

pub free_goes : (cell : Cell) (next : Outcome) → IsTrue (is_free cell) → free_then cell next ≡ next
free_goes (Known v) next h = refl
free_goes Unknown next h = refl
free_goes Kept next h = absurd (cc)
free_goes Paired next h = absurd (cc)

-- the bytes below SP that a call takes
pub record HasRoom (p : Program) (t : ResidentState) (n : ℕ) : Type 0 where
  pub room : n ≤ t.registers.sp
  pub top : t.registers.sp < 65536
  pub inside : 16 * t.registers.ss + t.registers.sp ≤ 1048576
  pub may : (offset : ℕ) → offset < t.registers.sp → MayWrite t.cells p.installed (16 * t.registers.ss + offset)

module _ (p : Program) (framed : Bool) (cs : Segment) (code : List ℕ) (at labels : ℕ → ℕ) (pl : Placed p cs code at) where
  -- a byte below SP, by its address
  pub may_there : (t : ResidentState) (n o : ℕ) → HasRoom p t n → o < t.registers.sp → MayWrite t.cells p.installed (address t.registers.ss o)
  may_there t n o h less =
      let top = h.top in
      let inside = h.inside in
      subst (λ place. MayWrite t.cells p.installed place) {x = 16 * t.registers.ss + o} {y = address t.registers.ss o} (omega arith) (h.may o less)

  pub near_calls : (k l : ℕ) (t : ResidentState) → HasRoom p t 2 → IsAt cs (at k) t → LineIs (IsSpelledAt code) at labels k (CallNear l) → Calls p framed false (record { segment = cs; offset = at (k + 1) }) cs 1 (at (labels l)) t (with_memory t (record t.registers { sp = t.registers.sp - 2; ip = at (labels l) }) (stored t.cells t.registers.ss (t.registers.sp - 2) (at (k + 1))))
  near_calls k l t h here s =
      let g = t.registers in
      let c = t.cells in
      let to = at (labels l) in
      let room = h.room in
      let top = h.top in
      let inside = h.inside in
      let d = word_distance (at (k + 1)) to in
      let i = instr.CallNear d in
      let size : at (k + 1) ≡ at k + length (spelling i) = s.1 ∙ ap (λ n. at k + n) (sym (near_size d)) in
      let next = past_line cs at k i t here size (pl.fits (k + 1)) in
      let g1 = at_offset g (at (k + 1)) in
      let lands = near_lands (at (k + 1)) to (let f = pl.fits (k + 1) in omega arith) (pl.fits (labels l)) in
      let o = g.sp - 2 in
      let there : (g.sp + 65534) % 65536 ≡ o = omega arith in
      let v = at (k + 1) in
      let h1 = record g { sp = o; ip = to } in
      let a0 = address g.ss o in
      let a1 = address g.ss (next_offset o) in
      let tree = ap (λ z. act z i) next ∙ near_tree g1 d ∙ ap (λ z. write_word g.ss z v (Done (record g { sp = z; ip = (at (k + 1) + d) % 65536 }))) there ∙ ap (λ z. write_word g.ss o v (Done (record g { sp = o; ip = z }))) lands in
      let may0 = may_there t 2 o h (omega arith) in
      let may1 : MayWrite c p.installed a1 = subst (λ z. MayWrite c p.installed (address g.ss z)) {x = g.sp - 1} {y = next_offset o} (omega arith) (may_there t 2 (g.sp - 1) h (omega arith)) in
      let c1 = with_cell c a0 (Known (v % 256)) in
      let c2 = stored c g.ss o v in
      let end = with_memory t h1 c2 in
      let free1 = with_cell_free c a0 (Known (v % 256)) a1 refl (λ n. may1.free) in
      let effect : plain_effect p t i ≡ plainly end = ap (λ a. on_cells p t a c) tree
      ∙ free_goes (c a0) _ may0.free ∙ free_goes (c1 a1) _ free1
      ∙ same_stack t h1 (plainly (with_memory t h1 c2)) refl in
      let flag = stored_other c g.ss o v p.installed (λ e. may0.apart (sym e)) (λ e. may1.apart (sym e)) in
      let moves : Moves p framed t end = record {
        service = NoService;
        goes = record { running = here.running; instruction = i; stands = standing p cs code at k i t pl here s.0; result = plain_goes p t end NoService i here.half effect flag };
        owed = nothing_owed framed p end;
        above = subst (λ a. ReadsAbove g.ss g.sp a c) (sym tree) tt;
      } in
      record {
        leads = (end, moves, refl);
        state = record {
          here = record { running = here.running; half = here.half; segment = here.segment; offset = refl };
          sp = omega arith;
          bp = refl;
          ss = refl;
          ds = refl;
          direction = refl;
          bytes = λ place kept. stored_other c g.ss o v place (λ e. let z = kept (omega arith) in absurd (omega arith)) (λ e. let z = kept (omega arith) in absurd (omega arith));
          free = λ place f apart. with_cell_free c1 a1 (Known (v / 256)) place refl (λ n. with_cell_free c a0 (Known (v % 256)) place refl (λ m. f));
          return = (refl, stored_holds c g.ss o v (omega arith), pl.fits (k + 1), refl);
          input = refl;
          taken = refl;
          out = refl;
          err = refl;
        };
      }
