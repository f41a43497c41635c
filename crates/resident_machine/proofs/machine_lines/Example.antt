-- Two registers change places: the straight list by its law, the rest by computation.
use Rattle.std.proofs.Common.{◌≡◌, ℕ, ◌+◌, ◌-◌, ◌%◌, Bool, List, arith, refl, sym, ap, subst}
use Rattle.x86_table.specs.Standing.{IsSpelledAt, Stands}
use Rattle.cpu_8086.specs.Access.{word_then}
use Rattle.cpu_8086.specs.Effect.{act}
use Rattle.cpu_8086.specs.Memory.{address, next_offset}
use Rattle.resident_machine.specs.Effect.{with_memory}
use Rattle.resident_machine.specs.Program.{Segment, Program}
use Rattle.resident_machine.specs.State.{ResidentState}
use Rattle.resident_machine.specs.machine_lines.Steps.{Leads}
use Rattle.resident_machine.specs.machine_lines.Straight.{ones, AskAll, registers_past, cells_past, Placed, IsAt, MayWrite}
use Rattle.resident_machine.specs.machine_lines.Words.{HoldsWord, stored}
use Rattle.resident_machine.specs.machine_lines.Example.{swap, IsSpare, Swapped}
use Rattle.resident_machine.proofs.machine_lines.Straight.{line}
use Rattle.resident_machine.proofs.machine_lines.Words.{word_read, low_known, high_known, stored_holds, offset_above}

module _ (p : Program) (r : ResidentState) (spare : IsSpare p r) where
  -- where the word is pushed
  abbrev pushed_at : ℕ
  pushed_at = (r.registers.sp + 65534) % 65536

  is_low : pushed_at ≡ r.registers.sp - 2
  is_low = let a = spare.room in let b = spare.top in omega arith

  is_high : next_offset pushed_at ≡ r.registers.sp - 1
  is_high = let a = spare.room in let b = spare.top in omega arith

  there : HoldsWord (stored r.cells r.registers.ss pushed_at r.registers.ax) r.registers.ss pushed_at r.registers.ax
  there = stored_holds r.cells r.registers.ss pushed_at r.registers.ax (let a = spare.top in omega arith)

  asks : (at : ℕ → ℕ) (k : ℕ) → AskAll r.cells p.installed at k swap r.registers r.cells
  unfolding act word_then
  asks at k =
      let a = spare.room in
      let b = spare.top in
      let low = is_low in
      let high = is_high in (
        subst (λ o. MayWrite r.cells p.installed (address r.registers.ss o)) (sym is_low) spare.low,
        (
          subst (λ o. MayWrite r.cells p.installed (address r.registers.ss o)) (sym is_high) spare.high,
          (
            low_known _ _ _ _ there,
            offset_above r.registers.ss pushed_at pushed_at (omega arith) (omega arith) (omega arith),
            (high_known _ _ _ _ there, offset_above r.registers.ss pushed_at (next_offset pushed_at) (omega arith) (omega arith) (omega arith), tt),
          ),
        ),
      )

  end : (at : ℕ → ℕ) (k : ℕ) → Swapped (at (k + 3)) r (with_memory r (registers_past at k swap r.registers r.cells) (cells_past at k swap r.registers r.cells))
  unfolding act word_then
  end at k =
      let a = spare.room in
      let b = spare.top in
      let e : k + 1 + 1 + 1 ≡ k + 3 = omega arith in
      record { ax = refl; cx = word_read _ _ _ _ there; sp = omega arith; offset = ap at e }

pub swaps : (p : Program) (framed : Bool) (cs : Segment) (code : List ℕ) (at labels : ℕ → ℕ) → Placed p cs code at → (k : ℕ) (r : ResidentState) → IsAt cs (at k) r → Stands (IsSpelledAt code) at labels k (ones swap) → IsSpare p r → (t : ResidentState) × Leads p framed 3 r t × Swapped (at (k + 3)) r t
swaps p framed cs code at labels pl k r here s spare =
    let c = line p framed cs code at labels pl k swap r refl here s (asks p r spare at k) in
    (_, c.leads, end p r spare at k)
