-- Words are popped into registers, and DS is set aside for a call of DOS.
use Rattle.std.proofs.Common.{◌≡◌, ℕ, ◌+◌, ◌*◌, ◌%◌, ◌<◌, ◌≤◌, Bool, List, [], ◌∷◌, arith, refl, subst}
use Rattle.x86_table.specs.declared.instr.Instr.{Instr}
use Rattle.x86_table.specs.declared.instr.Instr.TheVariants as instr
use Rattle.x86_table.specs.declared.operand.ByteReg.TheVariants as byte
use Rattle.x86_table.specs.declared.operand.DataSeg.TheVariants as data_seg
use Rattle.x86_table.specs.declared.operand.WordOperand.TheVariants as word_rm
use Rattle.x86_table.specs.declared.operand.WordReg.{WordReg}
use Rattle.x86_table.specs.declared.operand.WordReg.TheVariants as word
use Rattle.x86_table.specs.Standing.{IsSpelledAt, Stands}
use Rattle.cpu_8086.specs.declared.registers.Registers.{Registers}
use Rattle.cpu_8086.specs.Access.{at_offset, word_then}
use Rattle.cpu_8086.specs.Effect.{act}
use Rattle.cpu_8086.specs.Memory.{next_offset}
use Rattle.cpu_8086.specs.Operand.{with_word_reg}
use Rattle.resident_machine.specs.Program.{Segment, Program}
use Rattle.resident_machine.specs.State.{ResidentState}
use Rattle.resident_machine.specs.machine_lines.Straight.{ones, Placed, IsAt, Carried}
use Rattle.resident_machine.specs.machine_lines.Words.{HoldsWord}
use Rattle.resident_machine.proofs.machine_lines.Straight.{line}
use Rattle.resident_machine.proofs.machine_lines.Words.{word_read, low_known, high_known, offset_above}

-- DS is AX, and AH the number of a call
abbrev pub to_write : List Instr
to_write = instr.MovToSeg data_seg.Ds (word_rm.Reg word.Ax) ∷ instr.MovByte byte.Ah 0x40 ∷ []

abbrev pub to_end : List Instr
to_end = instr.MovByte byte.Ah 0x4C ∷ []

-- a register takes the word at SP
abbrev pub registers_popped : Registers → ℕ → WordReg → ℕ → Registers
registers_popped g ip reg v = with_word_reg (record (at_offset g ip) { sp = g.sp + 2 }) reg v

module _ (p : Program) (framed : Bool) (cs : Segment) (code : List ℕ) (at labels : ℕ → ℕ) (pl : Placed p cs code at) where
  pub pops : (k v : ℕ) (reg : WordReg) (r : ResidentState) → HoldsWord r.cells r.registers.ss r.registers.sp v → 64 ≤ r.registers.sp → r.registers.sp + 2 < 65536 → IsAt cs (at k) r → Stands (IsSpelledAt code) at labels k (ones (instr.Pop reg ∷ [])) → Carried p framed cs 1 (at (k + 1)) r (registers_popped r.registers (at (k + 1)) reg v) r.cells
  unfolding act word_then
  pops k v reg r holds room top here s =
      let g = r.registers in
      let c = line p framed cs code at labels pl k (instr.Pop reg ∷ []) r refl here s (
        low_known r.cells g.ss g.sp v holds,
        offset_above g.ss g.sp g.sp (omega arith) (omega arith) room,
        (high_known r.cells g.ss g.sp v holds, offset_above g.ss g.sp (next_offset g.sp) (omega arith) (omega arith) room, tt),
      ) in
      let whole : (g.sp + 2) % 65536 ≡ g.sp + 2 = omega arith in
      let d = subst (λ n. Carried p framed cs 1 (at (k + 1)) r (with_word_reg (record (at_offset g (at (k + 1))) { sp = (g.sp + 2) % 65536 }) reg n) r.cells) (word_read r.cells g.ss g.sp v holds) c in
      subst (λ n. Carried p framed cs 1 (at (k + 1)) r (with_word_reg (record (at_offset g (at (k + 1))) { sp = n }) reg v) r.cells) whole d

  pub writing : (k : ℕ) (r : ResidentState) → IsAt cs (at k) r → Stands (IsSpelledAt code) at labels k (ones to_write) → Carried p framed cs 2 (at (k + 2)) r (record (at_offset r.registers (at (k + 1 + 1))) { ds = r.registers.ax; ax = 256 * 64 + r.registers.ax % 256 }) r.cells
  unfolding act word_then
  writing k r here s = line p framed cs code at labels pl k to_write r refl here s tt

  pub ending : (k : ℕ) (r : ResidentState) → IsAt cs (at k) r → Stands (IsSpelledAt code) at labels k (ones to_end) → Carried p framed cs 1 (at (k + 1)) r (record (at_offset r.registers (at (k + 1))) { ax = 256 * 76 + r.registers.ax % 256 }) r.cells
  unfolding act
  ending k r here s = line p framed cs code at labels pl k to_end r refl here s tt
