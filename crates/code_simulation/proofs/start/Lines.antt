-- The first lines and the last ones.
use Rattle.std.proofs.Common.{◌≡◌, ℕ, ◌+◌, ◌/◌, ◌%◌, Bool, List, [], ◌∷◌, arith, refl, false}
use Rattle.x86_table.specs.declared.instr.Instr.TheVariants as instr
use Rattle.x86_table.specs.declared.operand.WordReg.TheVariants as word
use Rattle.x86_table.specs.Standing.{IsSpelledAt, Stands}
use Rattle.cpu_8086.specs.declared.registers.Registers.{Registers}
use Rattle.cpu_8086.specs.Access.{at_offset, word_then}
use Rattle.cpu_8086.specs.Effect.{act}
use Rattle.resident_machine.specs.Dos.{exit_call}
use Rattle.resident_machine.specs.Effect.{with_memory}
use Rattle.resident_machine.specs.Program.{Segment, Program}
use Rattle.resident_machine.specs.State.{ResidentState}
use Rattle.resident_machine.specs.machine_lines.Steps.{Leads}
use Rattle.resident_machine.specs.machine_lines.Straight.{ones, Placed, IsAt, Carried}
use Rattle.resident_machine.proofs.machine_lines.Steps.{leads_on}
use Rattle.resident_machine.proofs.machine_lines.Straight.{line}
use Rattle.effect_simulation.proofs.effects.Dos.{dos_leads, exits}
use Rattle.code_simulation.specs.start.Starting.{start_code, finish_code}

module _ (p : Program) (framed : Bool) (cs : Segment) (code : List ℕ) (at labels : ℕ → ℕ) (pl : Placed p cs code at) where
  abbrev pub registers_begun : ℕ → ℕ → Registers → Registers
  registers_begun k data_segment g = record (at_offset g (at (k + 1 + 1 + 1 + 1))) { ax = data_segment; ds = data_segment; bp = 0; direction = false }

  pub begin_carries : (k data_segment : ℕ) (r : ResidentState) → IsAt cs (at k) r → Stands (IsSpelledAt code) at labels k (ones (start_code data_segment)) → Carried p framed cs 4 (at (k + 4)) r (registers_begun k data_segment r.registers) r.cells
  unfolding act word_then
  begin_carries k data_segment r here s = line p framed cs code at labels pl k (start_code data_segment) r refl here s tt

  abbrev ax_named : ℕ → Registers → Registers
  ax_named k g = record (at_offset g (at (k + 1))) { ax = 0x4C00 }

  name_carries : (k : ℕ) (r : ResidentState) → IsAt cs (at k) r → Stands (IsSpelledAt code) at labels k (ones (instr.MovWord word.Ax 0x4C00 ∷ [])) → Carried p framed cs 1 (at (k + 1)) r (ax_named k r.registers) r.cells
  unfolding act word_then
  name_carries k r here s = line p framed cs code at labels pl k (instr.MovWord word.Ax 0x4C00 ∷ []) r refl here s tt

  -- the state that has ended
  abbrev pub finished_state : ℕ → ResidentState → ResidentState
  finished_state k r = exit_call (with_memory r (at_offset (ax_named k r.registers) (at (k + 1 + 1))) r.cells)

  pub finishes : (k : ℕ) (r : ResidentState) → IsAt cs (at k) r → Stands (IsSpelledAt code) at labels k (ones finish_code) → Leads p framed 2 r (finished_state k r)
  finishes k r here s =
      let c = name_carries k r here (s.0, tt) in
      let r1 = with_memory r (ax_named k r.registers) r.cells in
      let t = with_memory r (at_offset (ax_named k r.registers) (at (k + 1 + 1))) r.cells in
      let other : ◌≡◌ {A = ℕ} 76 64 → ⊥ = λ e. absurd (omega (arith, e)) in
      let done = dos_leads p framed cs code at (k + 1) r1 (exit_call t) pl c.here s.1.0.0 s.1.0.1 (λ one ah i less. absurd (other ah)) (exits r1 t refl) refl in
      leads_on p framed 1 1 r r1 (exit_call t) c.leads done
