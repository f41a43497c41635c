-- REP MOVSB as an event: it moves as many bytes as flat code copies.
use Rattle.std.proofs.Common.{◌≡◌, ℕ, ◌+◌, ◌%◌, ◌≤◌, Bool, false, List, length, Option, Ok, arith, refl, sym, ap, subst, ◌∙◌}
use Rattle.x86_table.specs.declared.instr.Instr.TheVariants as instr
use Rattle.x86_table.specs.declared.operand.SegReg.{SegReg}
use Rattle.x86_table.specs.Spelling.{spelling}
use Rattle.x86_table.specs.Standing.{IsSpelledAt}
use Rattle.flat_code.specs.declared.memory.Cell.TheVariants as flat
use Rattle.flat_code.specs.declared.memory.Place.{Place}
use Rattle.flat_code.specs.Memory as flat_memory
use Rattle.flat_code.specs.Memory.{copy}
use Rattle.flat_code.specs.Program.{Choice}
use Rattle.flat_code.specs.Values.{Frame}
use Rattle.cpu_8086.specs.declared.registers.Registers.{Registers}
use Rattle.cpu_8086.specs.Access.{Act, Done, at_offset, in_segment}
use Rattle.cpu_8086.specs.Effect.{act, moved_then}
use Rattle.resident_machine.specs.Cells.{Cells}
use Rattle.resident_machine.specs.Dos.{plainly}
use Rattle.resident_machine.specs.Effect.{with_memory, on_cells, plain_effect}
use Rattle.resident_machine.specs.Program.{Segment, Program}
use Rattle.resident_machine.specs.State.{ResidentState, NoService}
use Rattle.resident_machine.specs.machine_lines.Steps.{Leads, ReadsAbove, Moves}
use Rattle.resident_machine.specs.machine_lines.Straight.{Placed, IsAt, StaysFree}
use Rattle.resident_machine.proofs.machine_lines.Steps.{nothing_owed}
use Rattle.resident_machine.proofs.machine_lines.Straight.{plain_goes, standing, past_line, same_stack}
use Rattle.statement_simulation.specs.expressions.Active.{Active}
use Rattle.statement_simulation.proofs.flow.Steps.{flag_outside}
use Rattle.effect_simulation.proofs.copies.Cells.{copies}

-- the registers where it ends
abbrev pub counted_out : Registers → Registers
counted_out g = record g { cx = 0 }

-- one event moves the bytes: SP is what it was, and may be lower than the activation's
pub record Moved (p : Program) (framed : Bool) (cs : Segment) (ip : ℕ) (choice : Choice) (f : Frame) (m m2 : flat_memory.Cells) (g : Registers) (r : ResidentState) : Type 0 where
  pub registers : Registers
  pub cells : Cells
  pub leads : Leads p framed 1 r (with_memory r registers cells)
  pub here : IsAt cs ip (with_memory r registers cells)
  pub active : Active p.installed choice f m2 g cells
  pub sp : registers.sp ≡ r.registers.sp
  pub bp : registers.bp ≡ r.registers.bp
  pub ss : registers.ss ≡ r.registers.ss
  pub ds : registers.ds ≡ r.registers.ds
  pub direction : registers.direction ≡ r.registers.direction
  pub outside : (place : ℕ) → m place ≡ flat.Outside → cells place ≡ r.cells place
  pub free : StaysFree r.cells cells

rep_tree : (g : Registers) (override : Option SegReg) (segment n : ℕ) → ((next : ℕ → Act) → in_segment g g.ds override next ≡ next segment) → g.cx ≡ n → act g (instr.RepMovsb override) ≡ moved_then segment n g (λ h. Done (counted_out h))
unfolding act
rep_tree g override segment n s e = s (λ segment. moved_then segment g.cx g (λ h. Done (counted_out h))) ∙ ap (λ k. moved_then segment k g (λ h. Done (counted_out h))) e

pub rep_moves : (p : Program) (framed : Bool) (cs : Segment) (code : List ℕ) (at : ℕ → ℕ) → Placed p cs code at → (choice : Choice) (f : Frame) (m m2 : flat_memory.Cells) (g : Registers) (k n : ℕ) (override : Option SegReg) (to from : Place) (r : ResidentState) → IsAt cs (at k) r → IsSpelledAt code (at k) (instr.RepMovsb override) → at (k + 1) ≡ at k + length (spelling (instr.RepMovsb override)) → Active p.installed choice f m g r.cells → g.ss ≡ r.registers.ss → 64 ≤ r.registers.sp → r.registers.sp ≤ g.sp → ((next : ℕ → Act) → in_segment (at_offset r.registers (at (k + 1))) r.registers.ds override next ≡ next from.segment) → r.registers.cx ≡ n → r.registers.si ≡ from.offset → r.registers.di ≡ to.offset → to.offset ≤ 65535 → from.offset ≤ 65535 → r.registers.es ≡ to.segment → r.registers.direction ≡ false → copy m to from 0 n ≡ Ok m2 → Moved p framed cs (at (k + 1)) choice f m m2 g r
rep_moves p framed cs code at pl choice f m m2 g k n override to from r here s size a ss room lower segment cx si di to_small from_small es up e =
    let i = instr.RepMovsb override in
    let h = at_offset r.registers (at (k + 1)) in
    let next = past_line cs at k i r here size (pl.fits (k + 1)) in
    let end : Registers → Act = λ h. Done (counted_out h) in
    let from_first : h.si ≡ (from.offset + 0) % 65536 = omega arith in
    let to_first : h.di ≡ (to.offset + 0) % 65536 = omega arith in
    let z = copies p choice f g r.registers.sp room lower r to from end n 0 h r.cells m m2 a (record { si = from_first; di = to_first; es = es; up = up }) e in
    let tree = ap (λ x. act x i) next ∙ rep_tree h override from.segment n segment cx in
    let t = with_memory r (counted_out z.registers) z.cells in
    let stack : (counted_out z.registers).ss ≡ r.registers.ss = z.indices.ss in
    let effect : plain_effect p r i ≡ plainly t = ap (λ x. on_cells p r x r.cells) tree ∙ z.runs ∙ same_stack r (counted_out z.registers) (plainly t) stack in
    let flag = z.outside p.installed (flag_outside p.installed choice f m g r.cells a) in
    let above : ReadsAbove r.registers.ss r.registers.sp (moved_then from.segment n h end) r.cells = subst (λ b. ReadsAbove b r.registers.sp (moved_then from.segment n h end) r.cells) ss (z.above tt) in
    let moves : Moves p framed r t = record {
      service = NoService;
      goes = record { running = here.running; instruction = i; stands = standing p cs code at k i r pl here s; result = plain_goes p r t NoService i here.half effect flag };
      owed = nothing_owed framed p t;
      above = subst (λ b. ReadsAbove r.registers.ss r.registers.sp b r.cells) (sym tree) above;
    } in
    record {
      registers = counted_out z.registers;
      cells = z.cells;
      leads = (t, moves, refl);
      here = record { running = here.running; half = here.half; segment = here.segment; offset = z.indices.ip };
      active = z.active;
      sp = z.indices.sp;
      bp = z.indices.bp;
      ss = z.indices.ss;
      ds = z.indices.ds;
      direction = z.indices.direction;
      outside = z.outside;
      free = z.free;
    }
