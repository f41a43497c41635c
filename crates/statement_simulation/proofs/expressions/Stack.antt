-- The left operand waits on the stack.
use Rattle.std.proofs.Common.{◌≡◌, ℕ, ◌+◌, ◌-◌, ◌*◌, ◌%◌, ◌<◌, ◌≤◌, Bool, List, [], ◌∷◌, arith, refl, sym, subst}
use Rattle.x86_table.specs.declared.instr.Instr.TheVariants as instr
use Rattle.x86_table.specs.declared.operand.WordReg.TheVariants as word
use Rattle.x86_table.specs.Standing.{IsSpelledAt, Stands}
use Rattle.flat_code.specs.Memory as flat_memory
use Rattle.flat_code.specs.Program.{Choice}
use Rattle.flat_code.specs.Values.{Frame}
use Rattle.cpu_8086.specs.declared.registers.Registers.{Registers}
use Rattle.cpu_8086.specs.Access.{at_offset, word_then}
use Rattle.cpu_8086.specs.Effect.{act}
use Rattle.cpu_8086.specs.Memory.{address, next_offset}
use Rattle.resident_machine.specs.Cells.{Cells}
use Rattle.resident_machine.specs.Program.{Segment, Program}
use Rattle.resident_machine.specs.State.{ResidentState}
use Rattle.resident_machine.specs.machine_lines.Straight.{MayWrite, ones, Placed, IsAt, Carried}
use Rattle.resident_machine.specs.machine_lines.Words.{HoldsWord, stored}
use Rattle.resident_machine.proofs.machine_lines.Straight.{line}
use Rattle.resident_machine.proofs.machine_lines.Words.{word_read, low_known, high_known, stored_holds, stored_other, offset_above}
use Rattle.code_templates.specs.code_lines.Expressions.{move}
use Rattle.statement_simulation.specs.expressions.Active.{Active}
use Rattle.statement_simulation.proofs.expressions.Runs.{Lowers}

-- where a word is pushed, and what is left then
abbrev pub pushed_at : Registers → ℕ
pushed_at g = (g.sp + 65534) % 65536

abbrev pub registers_pushed : Registers → ℕ → Registers
registers_pushed g ip = record (at_offset g ip) { sp = pushed_at g }

abbrev pub cells_pushed : Registers → Cells → Cells
cells_pushed g c = stored c g.ss (pushed_at g) g.ax

abbrev pub registers_popped : Registers → ℕ → ℕ → Registers
registers_popped g ip v = record (at_offset g ip) { cx = g.ax; ax = v; sp = (g.sp + 2) % 65536 }

module _ (p : Program) (framed : Bool) (cs : Segment) (code : List ℕ) (at labels : ℕ → ℕ) (pl : Placed p cs code at) where
  module _ (choice : Choice) (f : Frame) (m : flat_memory.Cells) (r : ResidentState) (a : Active p.installed choice f m r.registers r.cells) (room : 66 ≤ r.registers.sp) where
    -- the two bytes below SP
    low_place : address r.registers.ss (pushed_at r.registers) ≡ 16 * r.registers.ss + (r.registers.sp - 2)
    low_place = let t = a.top in let i = a.inside in let z = room in omega arith

    high_place : address r.registers.ss (next_offset (pushed_at r.registers)) ≡ 16 * r.registers.ss + (r.registers.sp - 1)
    high_place = let t = a.top in let i = a.inside in let z = room in omega arith

    low_may : MayWrite r.cells p.installed (address r.registers.ss (pushed_at r.registers))
    low_may = subst (λ place. MayWrite r.cells p.installed place) (sym low_place) (a.spare (r.registers.sp - 2) (let z = room in omega arith))

    high_may : MayWrite r.cells p.installed (address r.registers.ss (next_offset (pushed_at r.registers)))
    high_may = subst (λ place. MayWrite r.cells p.installed place) (sym high_place) (a.spare (r.registers.sp - 1) (let z = room in omega arith))

    pub push_carries : (k : ℕ) → IsAt cs (at k) r → Stands (IsSpelledAt code) at labels k (ones (instr.Push word.Ax ∷ [])) → Carried p framed cs 1 (at (k + 1)) r (registers_pushed r.registers (at (k + 1))) (cells_pushed r.registers r.cells)
    unfolding act
    push_carries k here s = line p framed cs code at labels pl k (instr.Push word.Ax ∷ []) r refl here s (low_may, (high_may, tt))

    pub push_holds : HoldsWord (cells_pushed r.registers r.cells) r.registers.ss (pushed_at r.registers) r.registers.ax
    push_holds = stored_holds r.cells r.registers.ss (pushed_at r.registers) r.registers.ax (omega arith)

    pub push_lowers : (k : ℕ) → Carried p framed cs 1 (at (k + 1)) r (registers_pushed r.registers (at (k + 1))) (cells_pushed r.registers r.cells) → Lowers r.registers r.cells (registers_pushed r.registers (at (k + 1))) (cells_pushed r.registers r.cells)
    push_lowers k c = record {
      sp = (let t = a.top in let z = room in omega arith);
      ss = refl;
      ds = refl;
      direction = refl;
      bytes = λ place kept. stored_other r.cells r.registers.ss (pushed_at r.registers) r.registers.ax place
          (λ e. let l = low_place in let z = kept (omega arith) in let y = room in absurd (omega arith))
          (λ e. let l = high_place in let z = kept (omega arith) in let y = room in absurd (omega arith));
      free = c.free;
    }

  -- the right operand goes to CX, and the left one is popped
  pub pop_carries : (k v : ℕ) (r : ResidentState) → HoldsWord r.cells r.registers.ss r.registers.sp v → 64 ≤ r.registers.sp → r.registers.sp < 65535 → IsAt cs (at k) r → Stands (IsSpelledAt code) at labels k (ones (move word.Cx word.Ax ∷ instr.Pop word.Ax ∷ [])) → Carried p framed cs 2 (at (k + 2)) r (registers_popped r.registers (at (k + 1 + 1)) v) r.cells
  unfolding act word_then
  pop_carries k v r holds room top here s =
      let g = r.registers in
      let c = line p framed cs code at labels pl k (move word.Cx word.Ax ∷ instr.Pop word.Ax ∷ []) r refl here s (
        low_known r.cells g.ss g.sp v holds,
        offset_above g.ss g.sp g.sp (omega arith) (omega arith) room,
        (high_known r.cells g.ss g.sp v holds, offset_above g.ss g.sp (next_offset g.sp) (omega arith) (omega arith) room, tt),
      ) in
      subst (λ n. Carried p framed cs 2 (at (k + 2)) r (registers_popped g (at (k + 1 + 1)) n) r.cells) (word_read r.cells g.ss g.sp v holds) c
