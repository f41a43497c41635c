-- A segment goes to ES by way of the stack; DS waits there while it is another one.
use Rattle.std.proofs.Common.{◌≡◌, ℕ, ◌+◌, ◌-◌, ◌*◌, ◌%◌, ◌<◌, ◌≤◌, Bool, List, [], ◌∷◌, arith, refl, sym, subst}
use Rattle.x86_table.specs.declared.instr.Instr.{Instr}
use Rattle.x86_table.specs.declared.instr.Instr.TheVariants as instr
use Rattle.x86_table.specs.declared.operand.DataSeg.TheVariants as data_seg
use Rattle.x86_table.specs.declared.operand.SegReg.TheVariants as seg
use Rattle.x86_table.specs.Standing.{IsSpelledAt, Stands}
use Rattle.flat_code.specs.Memory as flat_memory
use Rattle.flat_code.specs.Program.{Choice}
use Rattle.flat_code.specs.Values.{Frame}
use Rattle.cpu_8086.specs.declared.registers.Registers.{Registers}
use Rattle.cpu_8086.specs.Access.{at_offset, word_then}
use Rattle.cpu_8086.specs.Effect.{act}
use Rattle.cpu_8086.specs.Memory.{address, next_offset}
use Rattle.resident_machine.specs.Program.{Segment, Program}
use Rattle.resident_machine.specs.State.{ResidentState}
use Rattle.resident_machine.specs.machine_lines.Straight.{MayWrite, StaysFree, ones, Placed, IsAt, Carried}
use Rattle.resident_machine.specs.machine_lines.Words.{HoldsWord, stored}
use Rattle.resident_machine.proofs.machine_lines.Straight.{line}
use Rattle.resident_machine.proofs.machine_lines.Words.{word_read, low_known, high_known, stored_holds, stored_other, offset_above}
use Rattle.statement_simulation.specs.expressions.Active.{Active, IsKept, Keeps}
use Rattle.statement_simulation.proofs.expressions.Stack.{pushed_at}

-- DS or SS goes to ES
abbrev pub take_data : List Instr
take_data = instr.PushSeg seg.Ds ∷ instr.PopSeg data_seg.Es ∷ []

abbrev pub take_stack : List Instr
take_stack = instr.PushSeg seg.Ss ∷ instr.PopSeg data_seg.Es ∷ []

-- ES takes a segment
abbrev pub registers_taken : Registers → ℕ → ℕ → Registers
registers_taken g ip v = record (at_offset g ip) { es = v }

-- DS waits on the stack, and is popped
abbrev pub registers_waiting : Registers → ℕ → Registers
registers_waiting g ip = record (at_offset g ip) { sp = pushed_at g }

abbrev pub registers_back : Registers → ℕ → ℕ → Registers
registers_back g ip v = record (at_offset g ip) { ds = v; sp = (g.sp + 2) % 65536 }

module _ (p : Program) (framed : Bool) (cs : Segment) (code : List ℕ) (at labels : ℕ → ℕ) (pl : Placed p cs code at) (choice : Choice) (f : Frame) (m : flat_memory.Cells) (r : ResidentState) (a : Active p.installed choice f m r.registers r.cells) (room : 66 ≤ r.registers.sp) where
  abbrev g : Registers
  g = r.registers

  -- the two bytes below SP
  low_place : address g.ss (pushed_at g) ≡ 16 * g.ss + (g.sp - 2)
  low_place = let t = a.top in let i = a.inside in let z = room in omega arith

  high_place : address g.ss (next_offset (pushed_at g)) ≡ 16 * g.ss + (g.sp - 1)
  high_place = let t = a.top in let i = a.inside in let z = room in omega arith

  low_may : MayWrite r.cells p.installed (address g.ss (pushed_at g))
  low_may = subst (λ place. MayWrite r.cells p.installed place) (sym low_place) (a.spare (g.sp - 2) (let z = room in omega arith))

  high_may : MayWrite r.cells p.installed (address g.ss (next_offset (pushed_at g)))
  high_may = subst (λ place. MayWrite r.cells p.installed place) (sym high_place) (a.spare (g.sp - 1) (let z = room in omega arith))

  pub pushed_holds : (v : ℕ) → HoldsWord (stored r.cells g.ss (pushed_at g) v) g.ss (pushed_at g) v
  pushed_holds v = stored_holds r.cells g.ss (pushed_at g) v (omega arith)

  -- a word below SP is nothing that is kept
  pub pushed_other : (v place : ℕ) → IsKept g place → stored r.cells g.ss (pushed_at g) v place ≡ r.cells place
  pushed_other v place kept = stored_other r.cells g.ss (pushed_at g) v place
      (λ e. let l = low_place in let z = kept (omega arith) in let y = room in absurd (omega arith))
      (λ e. let l = high_place in let z = kept (omega arith) in let y = room in absurd (omega arith))

  pub pushed_keeps : (v ip : ℕ) → StaysFree r.cells (stored r.cells g.ss (pushed_at g) v) → Keeps g r.cells (registers_taken g ip v) (stored r.cells g.ss (pushed_at g) v)
  pushed_keeps v ip free = record { sp = refl; bp = refl; ss = refl; ds = refl; direction = refl; bytes = pushed_other v; free = free }

  same_sp : (pushed_at g + 2) % 65536 ≡ g.sp
  same_sp = let t = a.top in let z = room in omega arith

  pub data_taken : (k : ℕ) → IsAt cs (at k) r → Stands (IsSpelledAt code) at labels k (ones take_data) → Carried p framed cs 2 (at (k + 2)) r (registers_taken g (at (k + 1 + 1)) g.ds) (stored r.cells g.ss (pushed_at g) g.ds)
  unfolding act word_then
  data_taken k here s =
      let h = pushed_holds g.ds in
      let t = a.top in
      let z = room in
      let c = line p framed cs code at labels pl k take_data r refl here s (
        low_may,
        (
          high_may,
          (
            low_known _ _ _ _ h,
            offset_above g.ss (pushed_at g) (pushed_at g) (omega arith) (omega arith) (omega arith),
            (high_known _ _ _ _ h, offset_above g.ss (pushed_at g) (next_offset (pushed_at g)) (omega arith) (omega arith) (omega arith), tt),
          ),
        ),
      ) in
      let d = subst (λ n. Carried p framed cs 2 (at (k + 2)) r (record (at_offset g (at (k + 1 + 1))) { sp = (pushed_at g + 2) % 65536; es = n }) (stored r.cells g.ss (pushed_at g) g.ds)) (word_read (stored r.cells g.ss (pushed_at g) g.ds) g.ss (pushed_at g) g.ds h) c in
      subst (λ n. Carried p framed cs 2 (at (k + 2)) r (record (at_offset g (at (k + 1 + 1))) { sp = n; es = g.ds }) (stored r.cells g.ss (pushed_at g) g.ds)) same_sp d

  pub stack_taken : (k : ℕ) → IsAt cs (at k) r → Stands (IsSpelledAt code) at labels k (ones take_stack) → Carried p framed cs 2 (at (k + 2)) r (registers_taken g (at (k + 1 + 1)) g.ss) (stored r.cells g.ss (pushed_at g) g.ss)
  unfolding act word_then
  stack_taken k here s =
      let h = pushed_holds g.ss in
      let t = a.top in
      let z = room in
      let c = line p framed cs code at labels pl k take_stack r refl here s (
        low_may,
        (
          high_may,
          (
            low_known _ _ _ _ h,
            offset_above g.ss (pushed_at g) (pushed_at g) (omega arith) (omega arith) (omega arith),
            (high_known _ _ _ _ h, offset_above g.ss (pushed_at g) (next_offset (pushed_at g)) (omega arith) (omega arith) (omega arith), tt),
          ),
        ),
      ) in
      let d = subst (λ n. Carried p framed cs 2 (at (k + 2)) r (record (at_offset g (at (k + 1 + 1))) { sp = (pushed_at g + 2) % 65536; es = n }) (stored r.cells g.ss (pushed_at g) g.ss)) (word_read (stored r.cells g.ss (pushed_at g) g.ss) g.ss (pushed_at g) g.ss h) c in
      subst (λ n. Carried p framed cs 2 (at (k + 2)) r (record (at_offset g (at (k + 1 + 1))) { sp = n; es = g.ss }) (stored r.cells g.ss (pushed_at g) g.ss)) same_sp d

  -- DS waits
  pub data_waits : (k : ℕ) → IsAt cs (at k) r → Stands (IsSpelledAt code) at labels k (ones (instr.PushSeg seg.Ds ∷ [])) → Carried p framed cs 1 (at (k + 1)) r (registers_waiting g (at (k + 1))) (stored r.cells g.ss (pushed_at g) g.ds)
  unfolding act
  data_waits k here s = line p framed cs code at labels pl k (instr.PushSeg seg.Ds ∷ []) r refl here s (low_may, (high_may, tt))

-- DS comes back
pub data_back : (p : Program) (framed : Bool) (cs : Segment) (code : List ℕ) (at labels : ℕ → ℕ) → Placed p cs code at → (k v : ℕ) (r : ResidentState) → HoldsWord r.cells r.registers.ss r.registers.sp v → 64 ≤ r.registers.sp → r.registers.sp < 65535 → IsAt cs (at k) r → Stands (IsSpelledAt code) at labels k (ones (instr.PopSeg data_seg.Ds ∷ [])) → Carried p framed cs 1 (at (k + 1)) r (registers_back r.registers (at (k + 1)) v) r.cells
unfolding act word_then
data_back p framed cs code at labels pl k v r holds room top here s =
    let g = r.registers in
    let c = line p framed cs code at labels pl k (instr.PopSeg data_seg.Ds ∷ []) r refl here s (
      low_known r.cells g.ss g.sp v holds,
      offset_above g.ss g.sp g.sp (omega arith) (omega arith) room,
      (high_known r.cells g.ss g.sp v holds, offset_above g.ss g.sp (next_offset g.sp) (omega arith) (omega arith) room, tt),
    ) in
    subst (λ n. Carried p framed cs 1 (at (k + 1)) r (registers_back g (at (k + 1)) n) r.cells) (word_read r.cells g.ss g.sp v holds) c
