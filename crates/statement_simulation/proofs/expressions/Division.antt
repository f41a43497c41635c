-- Unsigned division: by a word that isn't 0, or to the error routine.
use Rattle.std.proofs.Common.{◌≡◌, ℕ, zero, suc, ◌+◌, ◌-◌, ◌/◌, ◌%◌, ◌<◌, ◌≤◌, ◌==◌, Bool, true, false, not, List, [], ◌∷◌, ◌++◌, arith, refl, ap, ◌∙◌, div-le_self}
use Rattle.std.proofs.Math.Dec.{eqb-suc-zero}
use Rattle.std.specs.Prelude.{nat_le}
use Rattle.x86_table.specs.declared.instr.Cond.TheVariants as cond
use Rattle.x86_table.specs.declared.instr.Instr.{Instr}
use Rattle.x86_table.specs.declared.instr.Instr.TheVariants as instr
use Rattle.x86_table.specs.declared.instr.UnaryOp.TheVariants as unary
use Rattle.x86_table.specs.declared.instr.Width.TheVariants as width
use Rattle.x86_table.specs.declared.operand.WordReg.TheVariants as word
use Rattle.x86_table.specs.Spelling.{word_bytes}
use Rattle.x86_table.specs.Standing.{IsSpelledAt, Stands}
use Rattle.flat_code.specs.Values.{divided}
use Rattle.cpu_8086.specs.declared.registers.Registers.{Registers}
use Rattle.cpu_8086.specs.Access.{at_offset, word_then}
use Rattle.cpu_8086.specs.Effect.{act, holds}
use Rattle.cpu_8086.proofs.CompareLaws.{compare_decides}
use Rattle.resident_machine.specs.Effect.{with_memory}
use Rattle.resident_machine.specs.Program.{Segment, Program}
use Rattle.resident_machine.specs.State.{ResidentState}
use Rattle.resident_machine.specs.machine_lines.Straight.{ones, registers_past, Placed, IsAt, quotient}
use Rattle.resident_machine.proofs.machine_lines.Divide.{divides}
use Rattle.resident_machine.proofs.machine_lines.Jumps.{skips, falls}
use Rattle.resident_machine.proofs.machine_lines.Steps.{leads_on}
use Rattle.resident_machine.proofs.machine_lines.Straight.{line}
use Rattle.code_templates.specs.code_lines.Addresses.{Context}
use Rattle.code_templates.specs.code_lines.Expressions.{compare_with, fail, move, on_word, tested, unsigned_division}
use Rattle.statement_simulation.specs.expressions.Evaluates.{IsCode, Fails, Evaluates, entering}
use Rattle.statement_simulation.proofs.expressions.States.{keeps_same}
use Rattle.statement_simulation.proofs.expressions.Runs.{Comes, carried_comes, jump_comes, comes_on, comes_as, comes_gives, fails_on, keeps_lowers, jump_far}
use Rattle.statement_simulation.proofs.expressions.Loads.{ones_front}
use Rattle.statement_simulation.proofs.expressions.Operators.{Operands}

-- quotient and remainder
pub record Divided (p : Program) (framed : Bool) (cs : Segment) (n ip : ℕ) (r : ResidentState) (q m : ℕ) : Type 0 where
  pub registers : Registers
  pub comes : Comes p framed cs n ip r registers r.cells
  pub ax : registers.ax ≡ q
  pub dx : registers.dx ≡ m
  pub bx : registers.bx ≡ r.registers.bx
  pub cx : registers.cx ≡ r.registers.cx

module _ (p : Program) (framed : Bool) (cs : Segment) (code : List ℕ) (at labels : ℕ → ℕ) (pl : Placed p cs code at) (x : Context) (named : IsCode p x.addresses.error_routine) where
  abbrev pub to_test : List Instr
  to_test = compare_with word.Cx 0 ∷ []

  tested_comes : (k : ℕ) (r : ResidentState) → IsAt cs (at k) r → Stands (IsSpelledAt code) at labels k (ones to_test) → Comes p framed cs 1 (at (k + 1)) r (registers_past at k to_test r.registers r.cells) r.cells
  unfolding act word_then
  tested_comes k r here s =
      let c = line p framed cs code at labels pl k to_test r refl here s tt in
      carried_comes p framed cs 1 (at (k + 1)) r (registers_past at k to_test r.registers r.cells) r.cells c (keeps_same r.registers (registers_past at k to_test r.registers r.cells) r.cells refl refl refl refl refl)

  pub tested_keeps : (k : ℕ) (r : ResidentState) → ((registers_past at k to_test r.registers r.cells).ax ≡ r.registers.ax) × ((registers_past at k to_test r.registers r.cells).cx ≡ r.registers.cx) × ((registers_past at k to_test r.registers r.cells).bx ≡ r.registers.bx)
  unfolding act word_then
  tested_keeps k r = (refl, refl, refl)

  -- the test says whether CX is 0
  tested_flag : (k b : ℕ) (r : ResidentState) → r.registers.cx ≡ b → b < 65536 → holds (registers_past at k to_test r.registers r.cells) cond.NotEqual ≡ not (b == 0)
  unfolding act word_then
  tested_flag k b r e small = compare_decides r.registers width.Word r.registers.cx 0 cond.NotEqual (omega arith) (omega arith) ∙ ap (λ n. not (n == 0)) e

  -- and its sign
  pub tested_sign : (k b : ℕ) (r : ResidentState) → r.registers.cx ≡ b → b < 65536 → holds (registers_past at k to_test r.registers r.cells) cond.NoSign ≡ not (nat_le 32768 b)
  unfolding act word_then
  tested_sign k b r e small =
      let whole : (r.registers.cx + 65536 - 0) % 65536 ≡ b = omega arith in
      compare_decides r.registers width.Word r.registers.cx 0 cond.NoSign (omega arith) (omega arith) ∙ ap (λ n. not (nat_le 32768 n)) whole

  -- where CX isn't 0, over the error's two instructions
  pub passes_test : (k n a : ℕ) (r : ResidentState) → r.registers.cx ≡ suc n → suc n < 65536 → IsAt cs (at k) r → Stands (IsSpelledAt code) at labels k (ones (tested x)) → Comes p framed cs 2 (at (k + 1 + 1 + 1 + 1)) r (at_offset (registers_past at k to_test r.registers r.cells) (at (k + 1 + 1 + 1 + 1))) r.cells
  unfolding word_bytes
  passes_test k n a r e small here s =
      let g = registers_past at k to_test r.registers r.cells in
      let first = tested_comes k r here (s.0, tt) in
      let flag : holds g cond.NotEqual ≡ true = tested_flag k (suc n) r e small ∙ ap not (eqb-suc-zero n) in
      let mov = s.1.1.0.1 in
      let far = s.1.1.1.0.1 in
      let behind : at (k + 1 + 1) + 8 ≡ at (k + 1 + 1 + 1 + 1) = omega arith in
      let j = skips p framed cs code at labels pl (k + 1) (k + 1 + 1 + 1 + 1) cond.NotEqual 8 (with_memory r g r.cells) first.here s.1.0.0 s.1.0.1 flag (omega arith) behind in
      comes_on p framed cs 1 1 (at (k + 1)) (at (k + 1 + 1 + 1 + 1)) r g (at_offset g (at (k + 1 + 1 + 1 + 1))) r.cells r.cells first (jump_comes p framed cs (at (k + 1 + 1 + 1 + 1)) (with_memory r g r.cells) j)

  code_loaded : (k c : ℕ) (r : ResidentState) → IsAt cs (at k) r → Stands (IsSpelledAt code) at labels k (ones (instr.MovWord word.Ax c ∷ [])) → Comes p framed cs 1 (at (k + 1)) r (record (at_offset r.registers (at (k + 1))) { ax = c }) r.cells
  unfolding act
  code_loaded k c r here s =
      carried_comes p framed cs 1 (at (k + 1)) r (record (at_offset r.registers (at (k + 1))) { ax = c }) r.cells (line p framed cs code at labels pl k (instr.MovWord word.Ax c ∷ []) r refl here s tt) (keeps_same r.registers (record (at_offset r.registers (at (k + 1))) { ax = c }) r.cells refl refl refl refl refl)

  -- an error: its code, and the far jump
  pub fail_run : (k c : ℕ) (r : ResidentState) → 64 ≤ r.registers.sp → IsAt cs (at k) r → Stands (IsSpelledAt code) at labels k (ones (fail x c)) → Fails p framed x.addresses.error_routine 2 r c
  fail_run k c r room here s =
      let to = x.addresses.error_routine in
      let g = record (at_offset r.registers (at (k + 1))) { ax = c } in
      let m = code_loaded k c r here (s.0, tt) in
      let l = m.few in
      record {
        count = m.count + 1;
        few = omega arith;
        registers = g;
        cells = r.cells;
        leads = leads_on p framed m.count 1 r (with_memory r g r.cells) (entering (with_memory r g r.cells) g r.cells to) m.leads (jump_far p framed cs code at (k + 1) to (with_memory r g r.cells) pl named m.here s.1.0.0 s.1.0.1);
        ax = refl;
        room = room;
        lower = omega arith;
        ss = refl;
        ds = refl;
        direction = refl;
        bytes = λ place h. refl;
        free = λ place h. h;
      }

  -- where CX is 0: error 200
  pub zero_run : (k : ℕ) (r : ResidentState) → r.registers.cx ≡ 0 → 64 ≤ r.registers.sp → IsAt cs (at k) r → Stands (IsSpelledAt code) at labels k (ones (tested x)) → Fails p framed x.addresses.error_routine 4 r 200
  zero_run k r e room here s =
      let g = registers_past at k to_test r.registers r.cells in
      let first = tested_comes k r here (s.0, tt) in
      let flag : holds g cond.NotEqual ≡ false = tested_flag k 0 r e (omega arith) in
      let j = falls p framed cs code at labels pl (k + 1) cond.NotEqual 8 (with_memory r g r.cells) first.here s.1.0.0 s.1.0.1 flag in
      let h = at_offset g (at (k + 1 + 1)) in
      let both = comes_on p framed cs 1 1 (at (k + 1)) (at (k + 1 + 1)) r g h r.cells r.cells first (jump_comes p framed cs (at (k + 1 + 1)) (with_memory r g r.cells) j) in
      let sp = both.keeps.sp in
      fails_on p framed x.addresses.error_routine 2 2 both.count 200 r h r.cells both.few both.leads (keeps_lowers r.registers h r.cells r.cells both.keeps) (fail_run (k + 1 + 1) 200 (with_memory r h r.cells) (omega arith) both.here s.1.1)

  dx_cleared : (k : ℕ) (r : ResidentState) → IsAt cs (at k) r → Stands (IsSpelledAt code) at labels k (ones (instr.MovWord word.Dx 0 ∷ [])) → Comes p framed cs 1 (at (k + 1)) r (record (at_offset r.registers (at (k + 1))) { dx = 0 }) r.cells
  unfolding act
  dx_cleared k r here s =
      carried_comes p framed cs 1 (at (k + 1)) r (record (at_offset r.registers (at (k + 1))) { dx = 0 }) r.cells (line p framed cs code at labels pl k (instr.MovWord word.Dx 0 ∷ []) r refl here s tt) (keeps_same r.registers (record (at_offset r.registers (at (k + 1))) { dx = 0 }) r.cells refl refl refl refl refl)

  -- DX becomes 0, and DX:AX is divided by CX
  pub division : (k n a : ℕ) (r : ResidentState) → r.registers.ax ≡ a → r.registers.cx ≡ suc n → a < 65536 → IsAt cs (at k) r → Stands (IsSpelledAt code) at labels k (ones (instr.MovWord word.Dx 0 ∷ on_word unary.Div word.Cx ∷ [])) → Divided p framed cs 2 (at (k + 1 + 1)) r (a / suc n) (a % suc n)
  division k n a r ax cx small here s =
      let g = record (at_offset r.registers (at (k + 1))) { dx = 0 } in
      let first = dx_cleared k r here (s.0, tt) in
      let h = quotient (at_offset g (at (k + 1 + 1))) (suc n) in
      let d = divides p framed cs code at (k + 1) n (with_memory r g r.cells) pl first.here s.1.0.0 s.1.0.1 cx refl (let e = ax in omega arith) in
      record {
        registers = h;
        comes = comes_on p framed cs 1 1 (at (k + 1)) (at (k + 1 + 1)) r g h r.cells r.cells first (carried_comes p framed cs 1 (at (k + 1 + 1)) (with_memory r g r.cells) h r.cells d (keeps_same g h r.cells refl refl refl refl refl));
        ax = ap (λ v. v / suc n) ax;
        dx = ap (λ v. v % suc n) ax;
        bx = refl;
        cx = refl;
      }

  unsigned_run : (k n a : ℕ) (r : ResidentState) → Operands a (suc n) r.registers → IsAt cs (at k) r → Stands (IsSpelledAt code) at labels k (ones (unsigned_division x)) → Divided p framed cs 4 (at (k + 1 + 1 + 1 + 1 + 1 + 1)) r (a / suc n) (a % suc n)
  unsigned_run k n a r o here s =
      let keep = tested_keeps k r in
      let h = at_offset (registers_past at k to_test r.registers r.cells) (at (k + 1 + 1 + 1 + 1)) in
      let first = passes_test k n a r o.cx o.right_small here (ones_front (IsSpelledAt code) at labels k (tested x) (instr.MovWord word.Dx 0 ∷ on_word unary.Div word.Cx ∷ []) s) in
      let d = division (k + 1 + 1 + 1 + 1) n a (with_memory r h r.cells) (keep.0 ∙ o.ax) (keep.1 ∙ o.cx) o.left_small first.here s.1.1.1.1 in
      record { registers = d.registers; comes = comes_on p framed cs 2 2 (at (k + 1 + 1 + 1 + 1)) (at (k + 1 + 1 + 1 + 1 + 1 + 1)) r h d.registers r.cells r.cells first d.comes; ax = d.ax; dx = d.dx; bx = d.bx ∙ keep.2; cx = d.cx ∙ keep.1 }

  pub fails_as : (m n c : ℕ) (r : ResidentState) → m ≤ n → Fails p framed x.addresses.error_routine m r c → Fails p framed x.addresses.error_routine n r c
  fails_as m n c r e f =
      let l = f.few in
      record { count = f.count; few = omega arith; registers = f.registers; cells = f.cells; leads = f.leads; ax = f.ax; room = f.room; lower = f.lower; ss = f.ss; ds = f.ds; direction = f.direction; bytes = f.bytes; free = f.free }

  -- the remainder goes to AX
  ax_from_dx : (k : ℕ) (r : ResidentState) → IsAt cs (at k) r → Stands (IsSpelledAt code) at labels k (ones (move word.Ax word.Dx ∷ [])) → Comes p framed cs 1 (at (k + 1)) r (record (at_offset r.registers (at (k + 1))) { ax = r.registers.dx }) r.cells
  unfolding act word_then
  ax_from_dx k r here s =
      carried_comes p framed cs 1 (at (k + 1)) r (record (at_offset r.registers (at (k + 1))) { ax = r.registers.dx }) r.cells (line p framed cs code at labels pl k (move word.Ax word.Dx ∷ []) r refl here s tt) (keeps_same r.registers (record (at_offset r.registers (at (k + 1))) { ax = r.registers.dx }) r.cells refl refl refl refl refl)

  pub div_run : (k a b : ℕ) (r : ResidentState) → Operands a b r.registers → 64 ≤ r.registers.sp → IsAt cs (at k) r → Stands (IsSpelledAt code) at labels k (ones (unsigned_division x)) → Evaluates p framed cs x.addresses.error_routine 6 (at (k + 6)) r (divided b (a / b))
  div_run k a zero r o room here s =
      fails_as 4 6 200 r (omega arith) (zero_run k r o.cx room here (ones_front (IsSpelledAt code) at labels k (tested x) (instr.MovWord word.Dx 0 ∷ on_word unary.Div word.Cx ∷ []) s))
  div_run k a (suc n) r o room here s =
      let d = unsigned_run k n a r o here s in
      let z = div-le_self a (suc n) in
      let l = o.left_small in
      comes_gives p framed cs 6 (at (k + 6)) r d.registers r.cells (a / suc n) (comes_as p framed cs at 4 6 (k + 1 + 1 + 1 + 1 + 1 + 1) (k + 6) r d.registers r.cells (omega arith) (omega arith) d.comes) d.ax (omega arith)

  pub mod_run : (k a b : ℕ) (r : ResidentState) → Operands a b r.registers → 64 ≤ r.registers.sp → IsAt cs (at k) r → Stands (IsSpelledAt code) at labels k (ones (unsigned_division x ++ (move word.Ax word.Dx ∷ []))) → Evaluates p framed cs x.addresses.error_routine 7 (at (k + 7)) r (divided b (a % b))
  mod_run k a zero r o room here s =
      let front = ones_front (IsSpelledAt code) at labels k (unsigned_division x) (move word.Ax word.Dx ∷ []) s in
      fails_as 4 7 200 r (omega arith) (zero_run k r o.cx room here (ones_front (IsSpelledAt code) at labels k (tested x) (instr.MovWord word.Dx 0 ∷ on_word unary.Div word.Cx ∷ []) front))
  mod_run k a (suc n) r o room here s =
      let front = ones_front (IsSpelledAt code) at labels k (unsigned_division x) (move word.Ax word.Dx ∷ []) s in
      let d = unsigned_run k n a r o here front in
      let l = o.right_small in
      let i = k + 1 + 1 + 1 + 1 + 1 + 1 in
      let m = ax_from_dx i (with_memory r d.registers r.cells) d.comes.here (s.1.1.1.1.1.1.0, tt) in
      let h = record (at_offset d.registers (at (i + 1))) { ax = d.registers.dx } in
      let all = comes_on p framed cs 4 1 (at i) (at (i + 1)) r d.registers h r.cells r.cells d.comes m in
      comes_gives p framed cs 7 (at (k + 7)) r h r.cells (a % suc n) (comes_as p framed cs at 5 7 (i + 1) (k + 7) r h r.cells (omega arith) (omega arith) all) d.dx (omega arith)
