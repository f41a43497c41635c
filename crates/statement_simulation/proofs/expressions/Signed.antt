-- Signed division: magnitudes are divided, and the sign is put back.
use Rattle.std.proofs.Common.{◌≡◌, ℕ, zero, suc, ◌+◌, ◌-◌, ◌/◌, ◌%◌, ◌<◌, ◌≤◌, Bool, true, false, not, List, [], ◌∷◌, ◌++◌, arith, refl, sym, ap, subst, ◌∙◌, ⊎_elim, div-le_self}
use Rattle.std.specs.Prelude.{nat_le}
use Rattle.std.proofs.Math.Nat.{mod-le}
use Rattle.std.proofs.lemmas.Bool.{cases_lt, lt-leb, le-leb}
use Rattle.common_values.specs.integers.Words.{w16, signed_quotient, signed_remainder}
use Rattle.x86_table.specs.declared.instr.Cond.TheVariants as cond
use Rattle.x86_table.specs.declared.instr.Instr.{Instr}
use Rattle.x86_table.specs.declared.instr.Instr.TheVariants as instr
use Rattle.x86_table.specs.declared.instr.UnaryOp.TheVariants as unary
use Rattle.x86_table.specs.declared.instr.Width.TheVariants as width
use Rattle.x86_table.specs.declared.operand.WordReg.TheVariants as word
use Rattle.x86_table.specs.Spelling.{word_modrm, target_width, target_body, target_override}
use Rattle.x86_table.specs.Standing.{IsSpelledAt, Stands}
use Rattle.flat_code.specs.Values.{divided}
use Rattle.cpu_8086.specs.declared.registers.Registers.{Registers}
use Rattle.cpu_8086.specs.Access.{at_offset, word_then, put_word}
use Rattle.cpu_8086.specs.Arithmetic.{difference_of}
use Rattle.cpu_8086.specs.Effect.{act, holds, target_then, put_target}
use Rattle.cpu_8086.specs.Laws.{compared}
use Rattle.cpu_8086.proofs.CompareLaws.{compare_decides}
use Rattle.resident_machine.specs.Effect.{with_memory}
use Rattle.resident_machine.specs.Program.{Segment, Program}
use Rattle.resident_machine.specs.State.{ResidentState}
use Rattle.resident_machine.specs.machine_lines.Straight.{ones, registers_past, Placed, IsAt}
use Rattle.resident_machine.proofs.machine_lines.Jumps.{skips, falls}
use Rattle.resident_machine.proofs.machine_lines.Straight.{line}
use Rattle.code_templates.specs.code_lines.Addresses.{Context}
use Rattle.code_templates.specs.code_lines.Expressions.{compare_with, move, on_word, tested, negative, magnitudes, signed_by, signed_quotient as quotient_code, signed_remainder as remainder_code}
use Rattle.statement_simulation.specs.expressions.Evaluates.{IsCode, Fails, Evaluates}
use Rattle.statement_simulation.proofs.expressions.States.{keeps_same}
use Rattle.statement_simulation.proofs.expressions.Loads.{ones_front}
use Rattle.statement_simulation.proofs.expressions.Runs.{Comes, carried_comes, jump_comes, comes_on, comes_as, comes_gives, fails_on, keeps_lowers}
use Rattle.statement_simulation.proofs.expressions.Operators.{Operands}
use Rattle.statement_simulation.proofs.expressions.Division.{Divided, division, tested_keeps, tested_sign, passes_test, zero_run, fails_as}
use Rattle.statement_simulation.proofs.expressions.Magnitudes.{sign, negated, magnitude, turned, signed_quotient_is, signed_remainder_is, magnitude_small, magnitude_positive}

-- all bits turned round where that is wanted
abbrev pub inverted : Bool → ℕ → ℕ
inverted true v = 65535 - v
inverted false v = v

-- at most n events change registers alone, of which these are known
pub record Changed (p : Program) (framed : Bool) (cs : Segment) (n ip : ℕ) (r : ResidentState) (a b c : ℕ) : Type 0 where
  pub registers : Registers
  pub comes : Comes p framed cs n ip r registers r.cells
  pub ax : registers.ax ≡ a
  pub bx : registers.bx ≡ b
  pub cx : registers.cx ≡ c

pub changed_on : (p : Program) (framed : Bool) (cs : Segment) (m n ip jp a b c d e f : ℕ) (r : ResidentState) (first : Changed p framed cs m ip r a b c) → Changed p framed cs n jp (with_memory r first.registers r.cells) d e f → Changed p framed cs (m + n) jp r d e f
changed_on p framed cs m n ip jp a b c d e f r first second = record {
  registers = second.registers;
  comes = comes_on p framed cs m n ip jp r first.registers second.registers r.cells r.cells first.comes second.comes;
  ax = second.ax;
  bx = second.bx;
  cx = second.cx;
}

more : (p : Program) (framed : Bool) (cs : Segment) (m n ip : ℕ) (r : ResidentState) (h : Registers) → m ≤ n → Comes p framed cs m ip r h r.cells → Comes p framed cs n ip r h r.cells
more p framed cs m n ip r h e c = let f = c.few in record { count = c.count; few = omega arith; leads = c.leads; here = c.here; keeps = c.keeps }

module _ (p : Program) (framed : Bool) (cs : Segment) (code : List ℕ) (at labels : ℕ → ℕ) (pl : Placed p cs code at) where
  -- a comparison with 0 says the sign
  sign_flag : (g : Registers) (v : ℕ) → v < 65536 → holds (compared g width.Word v 0) cond.NoSign ≡ not (sign v)
  sign_flag g v small =
      let e : (v + 65536 - 0) % 65536 ≡ v = omega arith in
      compare_decides g width.Word v 0 cond.NoSign small (omega arith) ∙ ap (λ n. not (nat_le 32768 n)) e

  -- over NEG, or through it
  neg_ax : (k a b c : ℕ) (s : Bool) (r : ResidentState) → r.registers.ax ≡ a → r.registers.bx ≡ b → r.registers.cx ≡ c → holds r.registers cond.NoSign ≡ not s → IsAt cs (at k) r → Stands (IsSpelledAt code) at labels k (ones (negative word.Ax)) → Changed p framed cs 2 (at (k + 1 + 1)) r (negated s a) b c
  unfolding act target_then put_target word_then put_word difference_of word_modrm target_width target_body target_override
  neg_ax k a b c false r ax bx cx flag here s =
      let j = skips p framed cs code at labels pl k (k + 1 + 1) cond.NoSign 2 r here s.0.0 s.0.1 flag (omega arith) (sym s.1.0.1) in
      let h = at_offset r.registers (at (k + 1 + 1)) in
      record { registers = h; comes = more p framed cs 1 2 (at (k + 1 + 1)) r h (omega arith) (jump_comes p framed cs (at (k + 1 + 1)) r j); ax = ax; bx = bx; cx = cx }
  neg_ax k a b c true r ax bx cx flag here s =
      let j = falls p framed cs code at labels pl k cond.NoSign 2 r here s.0.0 s.0.1 flag in
      let g = at_offset r.registers (at (k + 1)) in
      let r1 = with_memory r g r.cells in
      let is = on_word unary.Neg word.Ax ∷ [] in
      let l = line p framed cs code at labels pl (k + 1) is r1 refl j.here s.1 tt in
      let h = registers_past at (k + 1) is g r.cells in
      let c1 = carried_comes p framed cs 1 (at (k + 1 + 1)) r1 h r.cells l (keeps_same g h r.cells refl refl refl refl refl) in
      record { registers = h; comes = comes_on p framed cs 1 1 (at (k + 1)) (at (k + 1 + 1)) r g h r.cells r.cells (jump_comes p framed cs (at (k + 1)) r j) c1; ax = (let e = ax in omega arith); bx = bx; cx = cx }

  neg_cx : (k a b c : ℕ) (s : Bool) (r : ResidentState) → r.registers.ax ≡ a → r.registers.bx ≡ b → r.registers.cx ≡ c → holds r.registers cond.NoSign ≡ not s → IsAt cs (at k) r → Stands (IsSpelledAt code) at labels k (ones (negative word.Cx)) → Changed p framed cs 2 (at (k + 1 + 1)) r a b (negated s c)
  unfolding act target_then put_target word_then put_word difference_of word_modrm target_width target_body target_override
  neg_cx k a b c false r ax bx cx flag here s =
      let j = skips p framed cs code at labels pl k (k + 1 + 1) cond.NoSign 2 r here s.0.0 s.0.1 flag (omega arith) (sym s.1.0.1) in
      let h = at_offset r.registers (at (k + 1 + 1)) in
      record { registers = h; comes = more p framed cs 1 2 (at (k + 1 + 1)) r h (omega arith) (jump_comes p framed cs (at (k + 1 + 1)) r j); ax = ax; bx = bx; cx = cx }
  neg_cx k a b c true r ax bx cx flag here s =
      let j = falls p framed cs code at labels pl k cond.NoSign 2 r here s.0.0 s.0.1 flag in
      let g = at_offset r.registers (at (k + 1)) in
      let r1 = with_memory r g r.cells in
      let is = on_word unary.Neg word.Cx ∷ [] in
      let l = line p framed cs code at labels pl (k + 1) is r1 refl j.here s.1 tt in
      let h = registers_past at (k + 1) is g r.cells in
      let c1 = carried_comes p framed cs 1 (at (k + 1 + 1)) r1 h r.cells l (keeps_same g h r.cells refl refl refl refl refl) in
      record { registers = h; comes = comes_on p framed cs 1 1 (at (k + 1)) (at (k + 1 + 1)) r g h r.cells r.cells (jump_comes p framed cs (at (k + 1)) r j) c1; ax = ax; bx = bx; cx = (let e = cx in omega arith) }

  -- NEG CX and NOT BX where the divisor is negative
  neg_not : (k a b c : ℕ) (s : Bool) (r : ResidentState) → r.registers.ax ≡ a → r.registers.bx ≡ b → r.registers.cx ≡ c → holds r.registers cond.NoSign ≡ not s → IsAt cs (at k) r → Stands (IsSpelledAt code) at labels k (ones (instr.JumpShort cond.NoSign 4 ∷ on_word unary.Neg word.Cx ∷ on_word unary.Not word.Bx ∷ [])) → Changed p framed cs 3 (at (k + 1 + 1 + 1)) r a (inverted s b) (negated s c)
  unfolding act target_then put_target word_then put_word difference_of word_modrm target_width target_body target_override
  neg_not k a b c false r ax bx cx flag here s =
      let size1 = s.1.0.1 in
      let size2 = s.1.1.0.1 in
      let behind : at (k + 1) + 4 ≡ at (k + 1 + 1 + 1) = omega arith in
      let j = skips p framed cs code at labels pl k (k + 1 + 1 + 1) cond.NoSign 4 r here s.0.0 s.0.1 flag (omega arith) behind in
      let h = at_offset r.registers (at (k + 1 + 1 + 1)) in
      record { registers = h; comes = more p framed cs 1 3 (at (k + 1 + 1 + 1)) r h (omega arith) (jump_comes p framed cs (at (k + 1 + 1 + 1)) r j); ax = ax; bx = bx; cx = cx }
  neg_not k a b c true r ax bx cx flag here s =
      let j = falls p framed cs code at labels pl k cond.NoSign 4 r here s.0.0 s.0.1 flag in
      let g = at_offset r.registers (at (k + 1)) in
      let r1 = with_memory r g r.cells in
      let is = on_word unary.Neg word.Cx ∷ on_word unary.Not word.Bx ∷ [] in
      let l = line p framed cs code at labels pl (k + 1) is r1 refl j.here s.1 tt in
      let h = registers_past at (k + 1) is g r.cells in
      let c2 = carried_comes p framed cs 2 (at (k + 1 + 2)) r1 h r.cells l (keeps_same g h r.cells refl refl refl refl refl) in
      let all = comes_on p framed cs 1 2 (at (k + 1)) (at (k + 1 + 2)) r g h r.cells r.cells (jump_comes p framed cs (at (k + 1)) r j) c2 in
      record { registers = h; comes = comes_as p framed cs at 3 3 (k + 1 + 2) (k + 1 + 1 + 1) r h r.cells (omega arith) (omega arith) all; ax = ax; bx = ap (λ n. 65535 - n) bx; cx = (let e = cx in omega arith) }

  -- CMP AX,0 and CMP BX,0
  compare_ax : (k a b c : ℕ) (r : ResidentState) → r.registers.ax ≡ a → r.registers.bx ≡ b → r.registers.cx ≡ c → a < 65536 → IsAt cs (at k) r → Stands (IsSpelledAt code) at labels k (ones (compare_with word.Ax 0 ∷ [])) → (first : Changed p framed cs 1 (at (k + 1)) r a b c) × (holds first.registers cond.NoSign ≡ not (sign a))
  unfolding act word_then
  compare_ax k a b c r ax bx cx small here s =
      let is = compare_with word.Ax 0 ∷ [] in
      let h = registers_past at k is r.registers r.cells in
      let l = line p framed cs code at labels pl k is r refl here s tt in (
        record { registers = h; comes = carried_comes p framed cs 1 (at (k + 1)) r h r.cells l (keeps_same r.registers h r.cells refl refl refl refl refl); ax = ax; bx = bx; cx = cx },
        sign_flag r.registers r.registers.ax (let e = ax in omega arith) ∙ ap (λ n. not (sign n)) ax,
      )

  compare_bx : (k a b c : ℕ) (r : ResidentState) → r.registers.ax ≡ a → r.registers.bx ≡ b → r.registers.cx ≡ c → b < 65536 → IsAt cs (at k) r → Stands (IsSpelledAt code) at labels k (ones (compare_with word.Bx 0 ∷ [])) → (first : Changed p framed cs 1 (at (k + 1)) r a b c) × (holds first.registers cond.NoSign ≡ not (sign b))
  unfolding act word_then
  compare_bx k a b c r ax bx cx small here s =
      let is = compare_with word.Bx 0 ∷ [] in
      let h = registers_past at k is r.registers r.cells in
      let l = line p framed cs code at labels pl k is r refl here s tt in (
        record { registers = h; comes = carried_comes p framed cs 1 (at (k + 1)) r h r.cells l (keeps_same r.registers h r.cells refl refl refl refl refl); ax = ax; bx = bx; cx = cx },
        sign_flag r.registers r.registers.bx (let e = bx in omega arith) ∙ ap (λ n. not (sign n)) bx,
      )

  -- AX becomes its magnitude
  magnitude_ax : (k a b c : ℕ) (r : ResidentState) → r.registers.ax ≡ a → r.registers.bx ≡ b → r.registers.cx ≡ c → a < 65536 → IsAt cs (at k) r → Stands (IsSpelledAt code) at labels k (ones (compare_with word.Ax 0 ∷ negative word.Ax)) → Changed p framed cs 3 (at (k + 1 + 1 + 1)) r (magnitude a) b c
  magnitude_ax k a b c r ax bx cx small here s =
      let first = compare_ax k a b c r ax bx cx small here (s.0, tt) in
      changed_on p framed cs 1 2 (at (k + 1)) (at (k + 1 + 1 + 1)) a b c (magnitude a) b c r first.0
      (neg_ax (k + 1) a b c (sign a) (with_memory r first.0.registers r.cells) first.0.ax first.0.bx first.0.cx first.1 first.0.comes.here s.1)

  -- AX takes the sign of BX
  sign_ax : (k a b c : ℕ) (r : ResidentState) → r.registers.ax ≡ a → r.registers.bx ≡ b → r.registers.cx ≡ c → b < 65536 → IsAt cs (at k) r → Stands (IsSpelledAt code) at labels k (ones signed_by) → Changed p framed cs 3 (at (k + 1 + 1 + 1)) r (negated (sign b) a) b c
  sign_ax k a b c r ax bx cx small here s =
      let first = compare_bx k a b c r ax bx cx small here (s.0, tt) in
      changed_on p framed cs 1 2 (at (k + 1)) (at (k + 1 + 1 + 1)) a b c (negated (sign b) a) b c r first.0
      (neg_ax (k + 1) a b c (sign b) (with_memory r first.0.registers r.cells) first.0.ax first.0.bx first.0.cx first.1 first.0.comes.here s.1)

  -- a register moved
  move_bx : (k a c : ℕ) (r : ResidentState) → r.registers.ax ≡ a → r.registers.cx ≡ c → IsAt cs (at k) r → Stands (IsSpelledAt code) at labels k (ones (move word.Bx word.Ax ∷ [])) → Changed p framed cs 1 (at (k + 1)) r a a c
  unfolding act word_then
  move_bx k a c r ax cx here s =
      let is = move word.Bx word.Ax ∷ [] in
      let h = registers_past at k is r.registers r.cells in
      let l = line p framed cs code at labels pl k is r refl here s tt in
      record { registers = h; comes = carried_comes p framed cs 1 (at (k + 1)) r h r.cells l (keeps_same r.registers h r.cells refl refl refl refl refl); ax = ax; bx = ax; cx = cx }

  move_ax : (k a b c : ℕ) (r : ResidentState) → r.registers.dx ≡ a → r.registers.bx ≡ b → r.registers.cx ≡ c → IsAt cs (at k) r → Stands (IsSpelledAt code) at labels k (ones (move word.Ax word.Dx ∷ [])) → Changed p framed cs 1 (at (k + 1)) r a b c
  unfolding act word_then
  move_ax k a b c r dx bx cx here s =
      let is = move word.Ax word.Dx ∷ [] in
      let h = registers_past at k is r.registers r.cells in
      let l = line p framed cs code at labels pl k is r refl here s tt in
      record { registers = h; comes = carried_comes p framed cs 1 (at (k + 1)) r h r.cells l (keeps_same r.registers h r.cells refl refl refl refl refl); ax = dx; bx = bx; cx = cx }

sign_inverted : (s : Bool) (a : ℕ) → a < 65536 → sign (inverted s a) ≡ turned (sign a) s
sign_inverted false a h = by (sign a)
  where
    by : (b : Bool) → b ≡ turned b false
    by true = refl
    by false = refl
sign_inverted true a h =
    ⊎_elim
    (λ l. le-leb 32768 (65535 - a) (omega arith) ∙ sym (ap (λ b. turned b true) (lt-leb 32768 a l)))
    (λ g. lt-leb 32768 (65535 - a) (omega arith) ∙ sym (ap (λ b. turned b true) (le-leb 32768 a g)))
    (cases_lt a 32768)

inverted_small : (s : Bool) (a : ℕ) → a < 65536 → inverted s a < 65536
inverted_small true a h = omega arith
inverted_small false a h = h

negated_small : (s : Bool) (a : ℕ) → a < 65536 → negated s a < 65536
negated_small true a h = omega arith
negated_small false a h = h

module _ (p : Program) (framed : Bool) (cs : Segment) (code : List ℕ) (at labels : ℕ → ℕ) (pl : Placed p cs code at) (x : Context) (named : IsCode p x.addresses.error_routine) where
  -- the sign of the divisor is known where it isn't 0
  tested_changed : (k n a b : ℕ) (r : ResidentState) → r.registers.ax ≡ a → r.registers.bx ≡ b → r.registers.cx ≡ suc n → suc n < 65536 → IsAt cs (at k) r → Stands (IsSpelledAt code) at labels k (ones (tested x)) → (first : Changed p framed cs 2 (at (k + 1 + 1 + 1 + 1)) r a b (suc n)) × (holds first.registers cond.NoSign ≡ not (sign (suc n)))
  tested_changed k n a b r ax bx cx small here s =
      let keep = tested_keeps p framed cs code at labels pl x named k r in
      let c = passes_test p framed cs code at labels pl x named k n a r cx small here s in
      (record { registers = _; comes = c; ax = keep.0 ∙ ax; bx = keep.2 ∙ bx; cx = keep.1 ∙ cx }, tested_sign p framed cs code at labels pl x named k (suc n) r cx small)

  -- the magnitudes are divided
  magnitudes_run : (k n a b c : ℕ) (r : ResidentState) → r.registers.ax ≡ a → r.registers.bx ≡ b → r.registers.cx ≡ c → c ≡ suc n → a < 65536 → IsAt cs (at k) r → Stands (IsSpelledAt code) at labels k (ones magnitudes) → (d : Divided p framed cs 5 (at (k + 1 + 1 + 1 + 1 + 1)) r (magnitude a / c) (magnitude a % c)) × (d.registers.bx ≡ b) × (d.registers.cx ≡ c)
  magnitudes_run k n a b c r ax bx cx e small here s =
      let m = magnitude_ax p framed cs code at labels pl k a b c r ax bx cx small here (s.0, (s.1.0, (s.1.1.0, tt))) in
      let i = k + 1 + 1 + 1 in
      let d = division p framed cs code at labels pl x named i n (magnitude a) (with_memory r m.registers r.cells) m.ax (m.cx ∙ e) (magnitude_small a small) m.comes.here s.1.1.1 in (
        record {
          registers = d.registers;
          comes = comes_on p framed cs 3 2 (at i) (at (i + 1 + 1)) r m.registers d.registers r.cells r.cells m.comes d.comes;
          ax = d.ax ∙ ap (λ v. magnitude a / v) (sym e);
          dx = d.dx ∙ ap (λ v. magnitude a % v) (sym e);
          bx = d.bx ∙ m.bx ∙ sym bx;
          cx = d.cx ∙ m.cx ∙ sym cx;
        },
        d.bx ∙ m.bx,
        d.cx ∙ m.cx,
      )

  quotient_comes : (k n a : ℕ) (r : ResidentState) → Operands a (suc n) r.registers → IsAt cs (at k) r → Stands (IsSpelledAt code) at labels k (ones (quotient_code x)) → Changed p framed cs 14 (at (k + 1 + 1 + 1 + 1 + 1 + 1 + 1 + 1 + 1 + 1 + 1 + 1 + 1 + 1 + 1 + 1)) r (negated (sign (inverted (sign (suc n)) a)) (magnitude a / magnitude (suc n))) (inverted (sign (suc n)) a) (magnitude (suc n))
  quotient_comes k n a r o here s =
      let b = suc n in
      let rest = instr.JumpShort cond.NoSign 4 ∷ on_word unary.Neg word.Cx ∷ on_word unary.Not word.Bx ∷ (magnitudes ++ signed_by) in
      let k1 = k + 1 in
      let k5 = k1 + 1 + 1 + 1 + 1 in
      let k8 = k5 + 1 + 1 + 1 in
      let k13 = k8 + 1 + 1 + 1 + 1 + 1 in
      let m1 = move_bx p framed cs code at labels pl k a b r o.ax o.cx here (s.0, tt) in
      let t = tested_changed k1 n a a (with_memory r m1.registers r.cells) m1.ax m1.bx m1.cx o.right_small m1.comes.here (ones_front (IsSpelledAt code) at labels k1 (tested x) rest s.1) in
      let s5 = s.1.1.1.1.1 in
      let q = neg_not p framed cs code at labels pl k5 a a b (sign b) (with_memory r t.0.registers r.cells) t.0.ax t.0.bx t.0.cx t.1 t.0.comes.here (s5.0, (s5.1.0, (s5.1.1.0, tt))) in
      let tq = changed_on p framed cs 2 3 (at k5) (at k8) a a b a (inverted (sign b) a) (magnitude b) (with_memory r m1.registers r.cells) t.0 q in
      let m3 = changed_on p framed cs 1 5 (at k1) (at k8) a a b a (inverted (sign b) a) (magnitude b) r m1 tq in
      let s8 = s5.1.1.1 in
      let pos = magnitude_positive n o.right_small in
      let d = magnitudes_run k8 pos.0 a (inverted (sign b) a) (magnitude b) (with_memory r m3.registers r.cells) m3.ax m3.bx m3.cx pos.1 o.left_small m3.comes.here (ones_front (IsSpelledAt code) at labels k8 magnitudes signed_by s8) in
      let m4 : Changed p framed cs 11 (at k13) r (magnitude a / magnitude b) (inverted (sign b) a) (magnitude b) = record { registers = d.0.registers; comes = comes_on p framed cs 6 5 (at k8) (at k13) r m3.registers d.0.registers r.cells r.cells m3.comes d.0.comes; ax = d.0.ax; bx = d.1; cx = d.2 } in
      let last = sign_ax p framed cs code at labels pl k13 (magnitude a / magnitude b) (inverted (sign b) a) (magnitude b) (with_memory r m4.registers r.cells) m4.ax m4.bx m4.cx (inverted_small (sign b) a o.left_small) m4.comes.here s8.1.1.1.1.1 in
      changed_on p framed cs 11 3 (at k13) (at (k13 + 1 + 1 + 1)) (magnitude a / magnitude b) (inverted (sign b) a) (magnitude b) (negated (sign (inverted (sign b) a)) (magnitude a / magnitude b)) (inverted (sign b) a) (magnitude b) r m4 last

  remainder_comes : (k n a : ℕ) (r : ResidentState) → Operands a (suc n) r.registers → IsAt cs (at k) r → Stands (IsSpelledAt code) at labels k (ones (remainder_code x)) → Changed p framed cs 14 (at (k + 1 + 1 + 1 + 1 + 1 + 1 + 1 + 1 + 1 + 1 + 1 + 1 + 1 + 1 + 1 + 1)) r (negated (sign a) (magnitude a % magnitude (suc n))) a (magnitude (suc n))
  remainder_comes k n a r o here s =
      let b = suc n in
      let tail = move word.Ax word.Dx ∷ signed_by in
      let rest = negative word.Cx ++ (magnitudes ++ tail) in
      let k1 = k + 1 in
      let k5 = k1 + 1 + 1 + 1 + 1 in
      let k7 = k5 + 1 + 1 in
      let k12 = k7 + 1 + 1 + 1 + 1 + 1 in
      let m1 = move_bx p framed cs code at labels pl k a b r o.ax o.cx here (s.0, tt) in
      let t = tested_changed k1 n a a (with_memory r m1.registers r.cells) m1.ax m1.bx m1.cx o.right_small m1.comes.here (ones_front (IsSpelledAt code) at labels k1 (tested x) rest s.1) in
      let s5 = s.1.1.1.1.1 in
      let q = neg_cx p framed cs code at labels pl k5 a a b (sign b) (with_memory r t.0.registers r.cells) t.0.ax t.0.bx t.0.cx t.1 t.0.comes.here (s5.0, (s5.1.0, tt)) in
      let tq = changed_on p framed cs 2 2 (at k5) (at k7) a a b a a (magnitude b) (with_memory r m1.registers r.cells) t.0 q in
      let m3 = changed_on p framed cs 1 4 (at k1) (at k7) a a b a a (magnitude b) r m1 tq in
      let s7 = s5.1.1 in
      let pos = magnitude_positive n o.right_small in
      let d = magnitudes_run k7 pos.0 a a (magnitude b) (with_memory r m3.registers r.cells) m3.ax m3.bx m3.cx pos.1 o.left_small m3.comes.here (ones_front (IsSpelledAt code) at labels k7 magnitudes tail s7) in
      let s12 = s7.1.1.1.1.1 in
      let v = move_ax p framed cs code at labels pl k12 (magnitude a % magnitude b) a (magnitude b) (with_memory r d.0.registers r.cells) d.0.dx d.1 d.2 d.0.comes.here (s12.0, tt) in
      let m4 : Changed p framed cs 11 (at (k12 + 1)) r (magnitude a % magnitude b) a (magnitude b) = record {
        registers = v.registers;
        comes = comes_on p framed cs 10 1 (at k12) (at (k12 + 1)) r d.0.registers v.registers r.cells r.cells (comes_on p framed cs 5 5 (at k7) (at k12) r m3.registers d.0.registers r.cells r.cells m3.comes d.0.comes) v.comes;
        ax = v.ax;
        bx = v.bx;
        cx = v.cx;
      } in
      let last = sign_ax p framed cs code at labels pl (k12 + 1) (magnitude a % magnitude b) a (magnitude b) (with_memory r m4.registers r.cells) m4.ax m4.bx m4.cx o.left_small m4.comes.here s12.1 in
      changed_on p framed cs 11 3 (at (k12 + 1)) (at (k12 + 1 + 1 + 1 + 1)) (magnitude a % magnitude b) a (magnitude b) (negated (sign a) (magnitude a % magnitude b)) a (magnitude b) r m4 last

  -- where the divisor is 0: behind the move to BX
  zero_divisor : (k a : ℕ) (rest : List Instr) (r : ResidentState) → r.registers.ax ≡ a → r.registers.cx ≡ 0 → 64 ≤ r.registers.sp → IsAt cs (at k) r → Stands (IsSpelledAt code) at labels k (ones (move word.Bx word.Ax ∷ (tested x ++ rest))) → Fails p framed x.addresses.error_routine 16 r 200
  zero_divisor k a rest r ax cx room here s =
      let m = move_bx p framed cs code at labels pl k a 0 r ax cx here (s.0, tt) in
      let sp = m.comes.keeps.sp in
      let f = zero_run p framed cs code at labels pl x named (k + 1) (with_memory r m.registers r.cells) m.cx (omega arith) m.comes.here (ones_front (IsSpelledAt code) at labels (k + 1) (tested x) rest s.1) in
      fails_as p framed cs code at labels pl x named 5 16 200 r (omega arith)
      (fails_on p framed x.addresses.error_routine 1 4 m.comes.count 200 r m.registers r.cells m.comes.few m.comes.leads (keeps_lowers r.registers m.registers r.cells r.cells m.comes.keeps) f)

  quotient_small : (a b : ℕ) → a < 65536 → a / b < 65536
  quotient_small a b h = let z = div-le_self a b in omega arith

  rest_small : (a b : ℕ) → a < 65536 → a % b < 65536
  rest_small a b h = let z = mod-le a b in omega arith

  pub signed_div_run : (k a b : ℕ) (r : ResidentState) → Operands a b r.registers → 64 ≤ r.registers.sp → IsAt cs (at k) r → Stands (IsSpelledAt code) at labels k (ones (quotient_code x)) → Evaluates p framed cs x.addresses.error_routine 16 (at (k + 16)) r (divided b (signed_quotient w16 a b))
  signed_div_run k a zero r o room here s = zero_divisor k a (instr.JumpShort cond.NoSign 4 ∷ on_word unary.Neg word.Cx ∷ on_word unary.Not word.Bx ∷ (magnitudes ++ signed_by)) r o.ax o.cx room here s
  signed_div_run k a (suc n) r o room here s =
      let b = suc n in
      let c = quotient_comes k n a r o here s in
      let q = magnitude a / magnitude b in
      let value : negated (sign (inverted (sign b) a)) q ≡ signed_quotient w16 a b = ap (λ t. negated t q) (sign_inverted (sign b) a o.left_small) ∙ sym (signed_quotient_is a b o.left_small o.right_small) in
      let small : signed_quotient w16 a b < 65536 = subst (λ n. n < 65536) value (negated_small (sign (inverted (sign b) a)) q (quotient_small (magnitude a) (magnitude b) (magnitude_small a o.left_small))) in
      comes_gives p framed cs 16 (at (k + 16)) r c.registers r.cells (signed_quotient w16 a b) (comes_as p framed cs at 14 16 (k + 1 + 1 + 1 + 1 + 1 + 1 + 1 + 1 + 1 + 1 + 1 + 1 + 1 + 1 + 1 + 1) (k + 16) r c.registers r.cells (omega arith) (omega arith) c.comes) (c.ax ∙ value) small

  pub signed_mod_run : (k a b : ℕ) (r : ResidentState) → Operands a b r.registers → 64 ≤ r.registers.sp → IsAt cs (at k) r → Stands (IsSpelledAt code) at labels k (ones (remainder_code x)) → Evaluates p framed cs x.addresses.error_routine 16 (at (k + 16)) r (divided b (signed_remainder w16 a b))
  signed_mod_run k a zero r o room here s = zero_divisor k a (negative word.Cx ++ (magnitudes ++ (move word.Ax word.Dx ∷ signed_by))) r o.ax o.cx room here s
  signed_mod_run k a (suc n) r o room here s =
      let b = suc n in
      let c = remainder_comes k n a r o here s in
      let q = magnitude a % magnitude b in
      let value : negated (sign a) q ≡ signed_remainder w16 a b = sym (signed_remainder_is a b o.left_small o.right_small) in
      let small : signed_remainder w16 a b < 65536 = subst (λ n. n < 65536) value (negated_small (sign a) q (rest_small (magnitude a) (magnitude b) (magnitude_small a o.left_small))) in
      comes_gives p framed cs 16 (at (k + 16)) r c.registers r.cells (signed_remainder w16 a b) (comes_as p framed cs at 14 16 (k + 1 + 1 + 1 + 1 + 1 + 1 + 1 + 1 + 1 + 1 + 1 + 1 + 1 + 1 + 1 + 1) (k + 16) r c.registers r.cells (omega arith) (omega arith) c.comes) (c.ax ∙ value) small
