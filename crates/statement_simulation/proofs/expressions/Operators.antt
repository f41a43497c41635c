-- The operators: from the left operand in AX and the right one in CX to the result in AX.
use Rattle.std.proofs.Common.{◌≡◌, ℕ, zero, suc, ◌+◌, ◌*◌, ◌/◌, ◌%◌, ◌^◌, ◌<◌, ◌==◌, Bool, true, false, not, List, [], ◌∷◌, length, arith, refl, sym, ap, subst, ◌∙◌, div-le_self}
use Rattle.std.specs.Prelude.{if◌then◌else◌, nat_lt, nat_le, bit_and, bit_or, bit_xor}
use Rattle.std.proofs.lemmas.Bool.Decides.{nat_tests}
use Rattle.std.proofs.Math.Dec.{eqb-suc-zero}
use Rattle.std.proofs.lemmas.Nat.{mul-lt, and_le_l, or_lt, xor_lt}
use Rattle.common_values.specs.integers.Words.{w16, wrapping_add, wrapping_sub, wrapping_mul, high_product, is_signed_less}
use Rattle.x86_table.specs.declared.instr.AluOp.TheVariants as alu
use Rattle.x86_table.specs.declared.instr.Cond.{Cond}
use Rattle.x86_table.specs.declared.instr.Cond.TheVariants as cond
use Rattle.x86_table.specs.declared.instr.Count.TheVariants as count
use Rattle.x86_table.specs.declared.instr.Instr.{Instr}
use Rattle.x86_table.specs.declared.instr.Instr.TheVariants as instr
use Rattle.x86_table.specs.declared.instr.ShiftOp.{ShiftOp}
use Rattle.x86_table.specs.declared.instr.ShiftOp.TheVariants as shift
use Rattle.x86_table.specs.declared.instr.Target.TheVariants as target
use Rattle.x86_table.specs.declared.instr.Width.TheVariants as width
use Rattle.x86_table.specs.declared.operand.WordOperand.TheVariants as word_rm
use Rattle.x86_table.specs.declared.operand.WordReg.TheVariants as word
use Rattle.x86_table.specs.Standing.{IsSpelledAt, Stands}
use Rattle.flat_code.specs.declared.tree.FlatOp.TheVariants as op
use Rattle.flat_code.specs.Values.{truth}
use Rattle.cpu_8086.specs.declared.registers.Registers.{Registers}
use Rattle.cpu_8086.specs.Access.{Done, at_offset, word_then, put_word}
use Rattle.cpu_8086.specs.Arithmetic.{sum_of, difference_of, shift_of}
use Rattle.cpu_8086.specs.Effect.{act, holds, target_then, put_target, shifted_target, with_shift_flags}
use Rattle.cpu_8086.specs.Laws.{compared, decides}
use Rattle.cpu_8086.proofs.CompareLaws.{compare_decides}
use Rattle.resident_machine.specs.Effect.{with_memory}
use Rattle.resident_machine.specs.Program.{Segment, Program}
use Rattle.resident_machine.specs.State.{ResidentState}
use Rattle.resident_machine.specs.machine_lines.Straight.{all_plain, ones, AskAll, registers_past, cells_past, Placed, IsAt}
use Rattle.resident_machine.proofs.machine_lines.Jumps.{skips, falls}
use Rattle.resident_machine.proofs.machine_lines.Straight.{line}
use Rattle.code_templates.specs.code_lines.Addresses.{Context}
use Rattle.code_templates.specs.code_lines.Expressions.{apply, truth_unless, op_code}
use Rattle.statement_simulation.specs.expressions.Active.{Keeps}
use Rattle.statement_simulation.specs.expressions.Evaluates.{Gives}
use Rattle.statement_simulation.proofs.expressions.States.{keeps_same}
use Rattle.statement_simulation.proofs.expressions.Loads.{one_tree}
use Rattle.statement_simulation.proofs.expressions.Runs.{Comes, carried_comes, jump_comes, comes_on, comes_as, comes_gives, gives_comes}

-- the operands in their registers
pub record Operands (x y : ℕ) (g : Registers) : Type 0 where
  pub ax : g.ax ≡ x
  pub cx : g.cx ≡ y
  pub left_small : x < 65536
  pub right_small : y < 65536

-- what CMP of the operands decides
flags_of : (a b : ℕ) (g : Registers) → Operands a b g → (c : Cond) → holds (compared g width.Word g.ax g.cx) c ≡ decides c width.Word a b
flags_of a b g o c =
    let f = compare_decides g width.Word g.ax g.cx c (let e = o.ax in let z = o.left_small in omega arith) (let e = o.cx in let z = o.right_small in omega arith) in
    f ∙ ap (λ n. decides c width.Word n g.cx) o.ax ∙ ap (λ n. decides c width.Word a n) o.cx

not_below : (a b : ℕ) → nat_le b a ≡ not (nat_lt a b)
not_below a b = grind (arith, nat_tests)

high_small : (x y : ℕ) → x < 65536 → y < 65536 → x * y / 65536 < 65536
high_small x y h g = let z = mul-lt x y 65536 65536 h g in omega arith

module _ (p : Program) (framed : Bool) (cs : Segment) (code : List ℕ) (at labels : ℕ → ℕ) (pl : Placed p cs code at) (x : Context) where
  -- straight lines that touch no byte
  straight_gives : (k : ℕ) (is : List Instr) (r : ResidentState) (v : ℕ) → all_plain is ≡ true → IsAt cs (at k) r → Stands (IsSpelledAt code) at labels k (ones is) → AskAll r.cells p.installed at k is r.registers r.cells → Keeps r.registers r.cells (registers_past at k is r.registers r.cells) (cells_past at k is r.registers r.cells) → (registers_past at k is r.registers r.cells).ax ≡ v → v < 65536 → Gives p framed cs (length is) (at (k + length is)) r v
  straight_gives k is r v plain here s asks keeps ax small =
      let c = line p framed cs code at labels pl k is r plain here s asks in
      comes_gives p framed cs (length is) (at (k + length is)) r (registers_past at k is r.registers r.cells) (cells_past at k is r.registers r.cells) v (carried_comes p framed cs (length is) (at (k + length is)) r (registers_past at k is r.registers r.cells) (cells_past at k is r.registers r.cells) c keeps) ax small

  pub add_run : (k a b : ℕ) (r : ResidentState) → Operands a b r.registers → IsAt cs (at k) r → Stands (IsSpelledAt code) at labels k (ones (op_code x op.Add)) → Gives p framed cs 1 (at (k + 1)) r (wrapping_add w16 a b)
  unfolding act word_then put_word sum_of
  add_run k a b r o here s = let e = o.ax in let f = o.cx in straight_gives k (op_code x op.Add) r (wrapping_add w16 a b) refl here s tt (keeps_same r.registers _ r.cells refl refl refl refl refl) (omega arith) (omega arith)

  pub sub_run : (k a b : ℕ) (r : ResidentState) → Operands a b r.registers → IsAt cs (at k) r → Stands (IsSpelledAt code) at labels k (ones (op_code x op.Sub)) → Gives p framed cs 1 (at (k + 1)) r (wrapping_sub w16 a b)
  unfolding act word_then put_word difference_of
  sub_run k a b r o here s = let e = o.ax in let f = o.cx in let z = o.right_small in straight_gives k (op_code x op.Sub) r (wrapping_sub w16 a b) refl here s tt (keeps_same r.registers _ r.cells refl refl refl refl refl) (omega arith) (omega arith)

  pub mul_run : (k a b : ℕ) (r : ResidentState) → Operands a b r.registers → IsAt cs (at k) r → Stands (IsSpelledAt code) at labels k (ones (op_code x op.Mul)) → Gives p framed cs 1 (at (k + 1)) r (wrapping_mul w16 a b)
  unfolding act word_then target_then
  mul_run k a b r o here s = straight_gives k (op_code x op.Mul) r (wrapping_mul w16 a b) refl here s tt (keeps_same r.registers _ r.cells refl refl refl refl refl) (ap (λ n. n * r.registers.cx % 65536) o.ax ∙ ap (λ n. a * n % 65536) o.cx) (omega arith)

  pub high_run : (k a b : ℕ) (r : ResidentState) → Operands a b r.registers → IsAt cs (at k) r → Stands (IsSpelledAt code) at labels k (ones (op_code x op.MulHigh)) → Gives p framed cs 2 (at (k + 2)) r (high_product w16 a b)
  unfolding act word_then target_then
  high_run k a b r o here s = straight_gives k (op_code x op.MulHigh) r (high_product w16 a b) refl here s tt (keeps_same r.registers _ r.cells refl refl refl refl refl) (ap (λ n. n * r.registers.cx / 65536) o.ax ∙ ap (λ n. a * n / 65536) o.cx) (high_small a b o.left_small o.right_small)

  pub and_run : (k a b : ℕ) (r : ResidentState) → Operands a b r.registers → IsAt cs (at k) r → Stands (IsSpelledAt code) at labels k (ones (op_code x op.And)) → Gives p framed cs 1 (at (k + 1)) r (bit_and a b)
  unfolding act word_then put_word
  and_run k a b r o here s =
      let z = and_le_l a b in
      let y = o.left_small in
      straight_gives k (op_code x op.And) r (bit_and a b) refl here s tt (keeps_same r.registers _ r.cells refl refl refl refl refl) (ap (λ n. bit_and n r.registers.cx) o.ax ∙ ap (λ n. bit_and a n) o.cx) (omega arith)

  pub or_run : (k a b : ℕ) (r : ResidentState) → Operands a b r.registers → IsAt cs (at k) r → Stands (IsSpelledAt code) at labels k (ones (op_code x op.Or)) → Gives p framed cs 1 (at (k + 1)) r (bit_or a b)
  unfolding act word_then put_word
  or_run k a b r o here s = straight_gives k (op_code x op.Or) r (bit_or a b) refl here s tt (keeps_same r.registers _ r.cells refl refl refl refl refl) (ap (λ n. bit_or n r.registers.cx) o.ax ∙ ap (λ n. bit_or a n) o.cx) (or_lt 16 a b o.left_small o.right_small)

  pub xor_run : (k a b : ℕ) (r : ResidentState) → Operands a b r.registers → IsAt cs (at k) r → Stands (IsSpelledAt code) at labels k (ones (op_code x op.Xor)) → Gives p framed cs 1 (at (k + 1)) r (bit_xor a b)
  unfolding act word_then put_word
  xor_run k a b r o here s = straight_gives k (op_code x op.Xor) r (bit_xor a b) refl here s tt (keeps_same r.registers _ r.cells refl refl refl refl refl) (ap (λ n. bit_xor n r.registers.cx) o.ax ∙ ap (λ n. bit_xor a n) o.cx) (xor_lt 16 a b o.left_small o.right_small)

  -- ## Comparisons

  abbrev to_compare : List Instr
  to_compare = apply alu.Cmp word.Ax word.Cx ∷ instr.MovWord word.Ax 0 ∷ []

  compared_comes : (k : ℕ) (r : ResidentState) → IsAt cs (at k) r → Stands (IsSpelledAt code) at labels k (ones to_compare) → Comes p framed cs 2 (at (k + 2)) r (registers_past at k to_compare r.registers r.cells) r.cells
  unfolding act word_then
  compared_comes k r here s =
      let c = line p framed cs code at labels pl k to_compare r refl here s tt in
      carried_comes p framed cs 2 (at (k + 2)) r (registers_past at k to_compare r.registers r.cells) r.cells c (keeps_same r.registers (registers_past at k to_compare r.registers r.cells) r.cells refl refl refl refl refl)

  zero_there : (k : ℕ) (r : ResidentState) → (registers_past at k to_compare r.registers r.cells).ax ≡ 0
  unfolding act word_then
  zero_there k r = refl

  inc_run : (k : ℕ) (r : ResidentState) → r.registers.ax ≡ 0 → IsAt cs (at k) r → Stands (IsSpelledAt code) at labels k (ones (instr.Inc word.Ax ∷ [])) → Gives p framed cs 1 (at (k + 1)) r 1
  unfolding act sum_of
  inc_run k r e here s = straight_gives k (instr.Inc word.Ax ∷ []) r 1 refl here s tt (keeps_same r.registers _ r.cells refl refl refl refl refl) (omega arith) (omega arith)

  truth_run : (c : Cond) (b : Bool) (k : ℕ) (r : ResidentState) → holds (registers_past at k to_compare r.registers r.cells) c ≡ not b → IsAt cs (at k) r → Stands (IsSpelledAt code) at labels k (ones (truth_unless c)) → Gives p framed cs 4 (at (k + 4)) r (truth b)
  truth_run c b k r flag here s = by b flag
    where
      g : Registers
      g = registers_past at k to_compare r.registers r.cells

      first : Comes p framed cs 2 (at (k + 2)) r g r.cells
      first = compared_comes k r here (s.0, (s.1.0, tt))

      there : IsAt cs (at (k + 1 + 1)) (with_memory r g r.cells)
      there = let e : k + 2 ≡ k + 1 + 1 = omega arith in subst (λ n. IsAt cs (at n) (with_memory r g r.cells)) e first.here

      behind : at (k + 1 + 1 + 1) + 1 ≡ at (k + 1 + 1 + 1 + 1)
      behind = sym s.1.1.1.0.1

      by : (b : Bool) → holds g c ≡ not b → Gives p framed cs 4 (at (k + 4)) r (truth b)
      by false flag =
          let j = skips p framed cs code at labels pl (k + 1 + 1) (k + 1 + 1 + 1 + 1) c 1 (with_memory r g r.cells) there s.1.1.0.0 s.1.1.0.1 flag (omega arith) behind in
          let h = at_offset g (at (k + 1 + 1 + 1 + 1)) in
          let both = comes_on p framed cs 2 1 (at (k + 2)) (at (k + 1 + 1 + 1 + 1)) r g h r.cells r.cells first (jump_comes p framed cs (at (k + 1 + 1 + 1 + 1)) (with_memory r g r.cells) j) in
          comes_gives p framed cs 4 (at (k + 4)) r h r.cells 0 (comes_as p framed cs at 3 4 (k + 1 + 1 + 1 + 1) (k + 4) r h r.cells (omega arith) (omega arith) both) (zero_there k r) (omega arith)
      by true flag =
          let j = falls p framed cs code at labels pl (k + 1 + 1) c 1 (with_memory r g r.cells) there s.1.1.0.0 s.1.1.0.1 flag in
          let h = at_offset g (at (k + 1 + 1 + 1)) in
          let both = comes_on p framed cs 2 1 (at (k + 2)) (at (k + 1 + 1 + 1)) r g h r.cells r.cells first (jump_comes p framed cs (at (k + 1 + 1 + 1)) (with_memory r g r.cells) j) in
          let last = inc_run (k + 1 + 1 + 1) (with_memory r h r.cells) (zero_there k r) j.here (s.1.1.1.0, tt) in
          let all = comes_on p framed cs 3 1 (at (k + 1 + 1 + 1)) (at (k + 1 + 1 + 1 + 1)) r h last.registers r.cells last.cells both (gives_comes p framed cs 1 (at (k + 1 + 1 + 1 + 1)) (with_memory r h r.cells) 1 last) in
          comes_gives p framed cs 4 (at (k + 4)) r last.registers last.cells 1 (comes_as p framed cs at 4 4 (k + 1 + 1 + 1 + 1) (k + 4) r last.registers last.cells (omega arith) (omega arith) all) last.ax (omega arith)

  pub equal_run : (k a b : ℕ) (r : ResidentState) → Operands a b r.registers → IsAt cs (at k) r → Stands (IsSpelledAt code) at labels k (ones (op_code x op.Equal)) → Gives p framed cs 4 (at (k + 4)) r (truth (a == b))
  unfolding act word_then
  equal_run k a b r o here s = truth_run cond.NotEqual (a == b) k r (flags_of a b r.registers o cond.NotEqual) here s

  pub less_run : (k a b : ℕ) (r : ResidentState) → Operands a b r.registers → IsAt cs (at k) r → Stands (IsSpelledAt code) at labels k (ones (op_code x op.Less)) → Gives p framed cs 4 (at (k + 4)) r (truth (is_signed_less w16 a b))
  unfolding act word_then
  less_run k a b r o here s = truth_run cond.GreaterOrEqual (is_signed_less w16 a b) k r (flags_of a b r.registers o cond.GreaterOrEqual) here s

  pub below_run : (k a b : ℕ) (r : ResidentState) → Operands a b r.registers → IsAt cs (at k) r → Stands (IsSpelledAt code) at labels k (ones (op_code x op.Below)) → Gives p framed cs 4 (at (k + 4)) r (truth (nat_lt a b))
  unfolding act word_then
  below_run k a b r o here s = truth_run cond.AboveOrEqual (nat_lt a b) k r (flags_of a b r.registers o cond.AboveOrEqual ∙ not_below a b) here s

  -- ## Shifts

  abbrev shift_instr : ShiftOp → Instr
  shift_instr o = instr.Shift o count.Cl (target.Word (word_rm.Reg word.Ax))

  -- by no place
  none_shifted : (o : ShiftOp) (g : Registers) → g.cx % 256 ≡ 0 → act g (shift_instr o) ≡ Done g
  unfolding act
  none_shifted o g e = ap (λ n. if n == 0 then Done g else target_then g (target.Word (word_rm.Reg word.Ax)) (λ v. shifted_target g o n (target.Word (word_rm.Reg word.Ax)) v)) e

  abbrev shifted_registers : ShiftOp → Registers → ℕ → Registers
  shifted_registers o g n = record (with_shift_flags g o width.Word n g.ax (shift_of o width.Word g.ax g.carry n)) { ax = (shift_of o width.Word g.ax g.carry n).value }

  some_shifted : (o : ShiftOp) (g : Registers) (n : ℕ) → g.cx % 256 ≡ suc n → act g (shift_instr o) ≡ Done (shifted_registers o g (suc n))
  unfolding act target_then put_target put_word word_then
  some_shifted o g n e =
      ap (λ n. if n == 0 then Done g else target_then g (target.Word (word_rm.Reg word.Ax)) (λ v. shifted_target g o n (target.Word (word_rm.Reg word.Ax)) v)) e
      ∙ ap (λ b. if b then Done g else Done (shifted_registers o g (suc n))) (eqb-suc-zero n)

  -- what a shift leaves, where its tree is known
  shift_gives : (k v : ℕ) (o : ShiftOp) (r : ResidentState) (h : Registers) → IsAt cs (at k) r → Stands (IsSpelledAt code) at labels k (ones (shift_instr o ∷ [])) → act (at_offset r.registers (at (k + 1))) (shift_instr o) ≡ Done h → Keeps r.registers r.cells h r.cells → h.ax ≡ v → v < 65536 → Gives p framed cs 1 (at (k + 1)) r v
  shift_gives k v o r h here s tree keeps ax small =
      let c = one_tree p framed cs code at labels pl k (shift_instr o) (Done h) r refl here s tree tt in
      comes_gives p framed cs 1 (at (k + 1)) r h r.cells v (carried_comes p framed cs 1 (at (k + 1)) r h r.cells c keeps) ax small

  pub shl_run : (k a b : ℕ) (r : ResidentState) → Operands a b r.registers → IsAt cs (at k) r → Stands (IsSpelledAt code) at labels k (ones (op_code x op.Shl)) → (n : ℕ) → b % 256 ≡ n → Gives p framed cs 1 (at (k + 1)) r (a * 2 ^ n % 65536)
  unfolding shift_of
  shl_run k a b r o here s zero e =
      let z = o.left_small in
      let ax = o.ax in
      shift_gives k (a * 2 ^ 0 % 65536) shift.Shl r (at_offset r.registers (at (k + 1))) here s (none_shifted shift.Shl (at_offset r.registers (at (k + 1))) (ap (λ n. n % 256) o.cx ∙ e)) (keeps_same r.registers _ r.cells refl refl refl refl refl) (omega arith) (omega arith)
  shl_run k a b r o here s (suc n) e =
      let g = at_offset r.registers (at (k + 1)) in
      shift_gives k (a * 2 ^ suc n % 65536) shift.Shl r (shifted_registers shift.Shl g (suc n)) here s (some_shifted shift.Shl g n (ap (λ n. n % 256) o.cx ∙ e)) (keeps_same r.registers _ r.cells refl refl refl refl refl) (ap (λ v. v * 2 ^ suc n % 65536) o.ax) (omega arith)

  pub shr_run : (k a b : ℕ) (r : ResidentState) → Operands a b r.registers → IsAt cs (at k) r → Stands (IsSpelledAt code) at labels k (ones (op_code x op.Shr)) → (n : ℕ) → b % 256 ≡ n → Gives p framed cs 1 (at (k + 1)) r (a / 2 ^ n)
  unfolding shift_of
  shr_run k a b r o here s zero e =
      let z = o.left_small in
      let ax = o.ax in
      shift_gives k (a / 2 ^ 0) shift.Shr r (at_offset r.registers (at (k + 1))) here s (none_shifted shift.Shr (at_offset r.registers (at (k + 1))) (ap (λ n. n % 256) o.cx ∙ e)) (keeps_same r.registers _ r.cells refl refl refl refl refl) (omega arith) (omega arith)
  shr_run k a b r o here s (suc n) e =
      let g = at_offset r.registers (at (k + 1)) in
      let z = o.left_small in
      let y = div-le_self a (2 ^ suc n) in
      shift_gives k (a / 2 ^ suc n) shift.Shr r (shifted_registers shift.Shr g (suc n)) here s (some_shifted shift.Shr g n (ap (λ n. n % 256) o.cx ∙ e)) (keeps_same r.registers _ r.cells refl refl refl refl refl) (ap (λ v. v / 2 ^ suc n) o.ax) (omega arith)
