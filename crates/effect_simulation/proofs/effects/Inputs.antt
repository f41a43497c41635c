-- The act that reads a byte: its code and what it means.
use Rattle.std.proofs.Common.{◌≡◌, ℕ, zero, suc, ◌+◌, ◌-◌, ◌*◌, ◌%◌, ◌≤◌, Bool, false, List, [], ◌∷◌, length, Ok, arith, refl, sym, ap, subst, ◌∙◌}
use Rattle.std.specs.Prelude.{drop, take}
use Rattle.std.specs.Int.Bits.{bit_or, or_zero_l}
use Rattle.x86_table.specs.declared.instr.AluOp.TheVariants as alu
use Rattle.x86_table.specs.declared.instr.Instr.{Instr}
use Rattle.x86_table.specs.declared.instr.Instr.TheVariants as instr
use Rattle.x86_table.specs.declared.operand.ByteReg.TheVariants as byte
use Rattle.x86_table.specs.declared.operand.DataSeg.TheVariants as data_seg
use Rattle.x86_table.specs.declared.operand.SegReg.TheVariants as seg
use Rattle.x86_table.specs.declared.operand.WordReg.TheVariants as word
use Rattle.x86_table.specs.Standing.{IsSpelledAt, Stands}
use Rattle.flat_code.specs.Memory as flat_memory
use Rattle.flat_code.specs.Program.{Choice}
use Rattle.flat_code.specs.Values.{Frame}
use Rattle.cpu_8086.specs.declared.registers.Registers.{Registers}
use Rattle.cpu_8086.specs.Access.{at_offset, word_then, put_word}
use Rattle.cpu_8086.specs.Arithmetic.{difference_of}
use Rattle.cpu_8086.specs.Effect.{act}
use Rattle.cpu_8086.specs.Memory.{address, next_offset}
use Rattle.resident_machine.specs.Astray.{and_then}
use Rattle.resident_machine.specs.Cells.{Known, with_cell, free_then}
use Rattle.resident_machine.specs.Dos.{plainly, answered, given}
use Rattle.resident_machine.specs.Program.{Segment, Program}
use Rattle.resident_machine.specs.State.{ResidentState}
use Rattle.resident_machine.specs.machine_lines.Straight.{MayWrite, ones, Placed, IsAt, Carried}
use Rattle.resident_machine.specs.machine_lines.Words.{stored}
use Rattle.resident_machine.proofs.machine_lines.Straight.{line}
use Rattle.resident_machine.proofs.machine_lines.Words.{word_read, low_known, high_known, offset_above}
use Rattle.code_templates.specs.code_lines.Expressions.{move, apply}
use Rattle.statement_simulation.specs.expressions.Active.{Active}
use Rattle.statement_simulation.proofs.expressions.Stack.{pushed_at}
use Rattle.effect_simulation.proofs.copies.Segments.{pushed_holds}

-- ## Straight pieces

abbrev pub to_zero : List Instr
to_zero = instr.MovWord word.Ax 0 ∷ []

abbrev pub to_top : List Instr
to_top = move word.Dx word.Sp ∷ []

abbrev pub stack_to_data : List Instr
stack_to_data = instr.PushSeg seg.Ss ∷ instr.PopSeg data_seg.Ds ∷ []

abbrev pub to_read : List Instr
to_read = instr.MovWord word.Bx 0 ∷ instr.MovWord word.Cx 1 ∷ instr.MovByte byte.Ah 0x3F ∷ []

abbrev pub to_word : List Instr
to_word = instr.Dec word.Ax ∷ apply alu.Or word.Ax word.Cx ∷ []

module _ (p : Program) (framed : Bool) (cs : Segment) (code : List ℕ) (at labels : ℕ → ℕ) (pl : Placed p cs code at) where
  pub zeroes : (k : ℕ) (r : ResidentState) → IsAt cs (at k) r → Stands (IsSpelledAt code) at labels k (ones to_zero) → Carried p framed cs 1 (at (k + 1)) r (record (at_offset r.registers (at (k + 1))) { ax = 0 }) r.cells
  unfolding act
  zeroes k r here s = line p framed cs code at labels pl k to_zero r refl here s tt

  pub tops : (k : ℕ) (r : ResidentState) → IsAt cs (at k) r → Stands (IsSpelledAt code) at labels k (ones to_top) → Carried p framed cs 1 (at (k + 1)) r (record (at_offset r.registers (at (k + 1))) { dx = r.registers.sp }) r.cells
  unfolding act word_then put_word
  tops k r here s = line p framed cs code at labels pl k to_top r refl here s tt

  pub asks_read : (k : ℕ) (r : ResidentState) → IsAt cs (at k) r → Stands (IsSpelledAt code) at labels k (ones to_read) → Carried p framed cs 3 (at (k + 3)) r (record (at_offset r.registers (at (k + 1 + 1 + 1))) { bx = 0; cx = 1; ax = 256 * 63 + r.registers.ax % 256 }) r.cells
  unfolding act
  asks_read k r here s = line p framed cs code at labels pl k to_read r refl here s tt

  -- AX counts the bytes that came: the byte, or FFFFh where none came
  pub record Worded (k v : ℕ) (r : ResidentState) : Type 0 where
    pub registers : Registers
    pub carried : Carried p framed cs 2 (at (k + 2)) r registers r.cells
    pub ax : registers.ax ≡ v
    pub dx : registers.dx ≡ r.registers.dx
    pub sp : registers.sp ≡ r.registers.sp
    pub bp : registers.bp ≡ r.registers.bp
    pub ss : registers.ss ≡ r.registers.ss
    pub ds : registers.ds ≡ r.registers.ds
    pub direction : registers.direction ≡ r.registers.direction

  pub byte_words : (k v : ℕ) (r : ResidentState) → r.registers.ax ≡ 1 → r.registers.cx ≡ v → IsAt cs (at k) r → Stands (IsSpelledAt code) at labels k (ones to_word) → Worded k v r
  unfolding act word_then put_word difference_of
  byte_words k v r ax cx here s =
      let c = line p framed cs code at labels pl k to_word r refl here s tt in
      let none : (r.registers.ax + 131072 - 1 - 0) % 65536 ≡ 0 = omega arith in
      record {
        registers = _;
        carried = c;
        ax = ap (λ n. bit_or n r.registers.cx) none ∙ ap (λ n. bit_or 0 n) cx ∙ or_zero_l v;
        dx = refl;
        sp = refl;
        bp = refl;
        ss = refl;
        ds = refl;
        direction = refl;
      }

  pub end_words : (k : ℕ) (r : ResidentState) → r.registers.ax ≡ 0 → r.registers.cx ≡ 0 → IsAt cs (at k) r → Stands (IsSpelledAt code) at labels k (ones to_word) → Worded k 65535 r
  unfolding act word_then put_word difference_of
  end_words k r ax cx here s =
      let c = line p framed cs code at labels pl k to_word r refl here s tt in
      let all : (r.registers.ax + 131072 - 1 - 0) % 65536 ≡ 65535 = omega arith in
      record {
        registers = _;
        carried = c;
        ax = ap (λ n. bit_or n r.registers.cx) all ∙ ap (λ n. bit_or 65535 n) cx;
        dx = refl;
        sp = refl;
        bp = refl;
        ss = refl;
        ds = refl;
        direction = refl;
      }

  -- the stack's segment goes to DS
  pub stack_datas : (choice : Choice) (f : Frame) (m : flat_memory.Cells) (k : ℕ) (r : ResidentState) → Active p.installed choice f m r.registers r.cells → 66 ≤ r.registers.sp → IsAt cs (at k) r → Stands (IsSpelledAt code) at labels k (ones stack_to_data) → Carried p framed cs 2 (at (k + 2)) r (record (at_offset r.registers (at (k + 1 + 1))) { ds = r.registers.ss }) (stored r.cells r.registers.ss (pushed_at r.registers) r.registers.ss)
  unfolding act word_then
  stack_datas choice f m k r a room here s =
      let g = r.registers in
      let t = a.top in
      let i = a.inside in
      let h = pushed_holds p framed cs code at labels pl choice f m r a room g.ss in
      let low_place : address g.ss (pushed_at g) ≡ 16 * g.ss + (g.sp - 2) = omega arith in
      let high_place : address g.ss (next_offset (pushed_at g)) ≡ 16 * g.ss + (g.sp - 1) = omega arith in
      let low_may = subst (λ place. MayWrite r.cells p.installed place) (sym low_place) (a.spare (g.sp - 2) (omega arith)) in
      let high_may = subst (λ place. MayWrite r.cells p.installed place) (sym high_place) (a.spare (g.sp - 1) (omega arith)) in
      let c = line p framed cs code at labels pl k stack_to_data r refl here s (
        low_may,
        (
          high_may,
          (
            low_known _ _ _ _ h,
            offset_above g.ss (pushed_at g) (pushed_at g) (omega arith) (omega arith) (omega arith),
            (high_known _ _ _ _ h, offset_above g.ss (pushed_at g) (next_offset (pushed_at g)) (omega arith) (omega arith) (omega arith), tt),
          ),
        ),
      ) in
      let same : (pushed_at g + 2) % 65536 ≡ g.sp = omega arith in
      let d = subst (λ n. Carried p framed cs 2 (at (k + 2)) r (record (at_offset g (at (k + 1 + 1))) { sp = (pushed_at g + 2) % 65536; ds = n }) (stored r.cells g.ss (pushed_at g) g.ss)) (word_read (stored r.cells g.ss (pushed_at g) g.ss) g.ss (pushed_at g) g.ss h) c in
      subst (λ n. Carried p framed cs 2 (at (k + 2)) r (record (at_offset g (at (k + 1 + 1))) { sp = n; ds = g.ss }) (stored r.cells g.ss (pushed_at g) g.ss)) same d

-- ## The call of DOS

-- one byte more was taken
pub taken_more : (n b : ℕ) (input rest : List ℕ) → drop n input ≡ b ∷ rest → (drop (n + 1) input ≡ rest) × (n + 1 ≤ length input)
taken_more zero b [] rest e = absurd (cc)
taken_more zero b (c ∷ input) rest e = (ap behind e, omega arith)
  where
    behind : List ℕ → List ℕ
    behind [] = []
    behind (x ∷ xs) = xs
taken_more (suc n) b [] rest e = absurd (cc)
taken_more (suc n) b (c ∷ input) rest e =
    let more = taken_more n b input rest e in
    let f = more.1 in
    let one : suc n + 1 ≡ suc (n + 1) = omega arith in
    (ap (λ k. drop k (c ∷ input)) one ∙ more.0, omega arith)

-- what a read of one byte leaves, by what there is to read
abbrev pub handed : ResidentState → List ℕ → ResidentState
handed t [] = record (answered t 0 false) { taken = t.taken + 0 }
handed t (b ∷ bs) = record (answered t 1 false) { cells = with_cell t.cells (address t.registers.ds t.registers.dx) (Known b); taken = t.taken + 1 }

pub hands : (t : ResidentState) (v : ℕ) (input : List ℕ) → t.cells (address t.registers.ds t.registers.dx) ≡ Known v → given t (take 1 input) ≡ plainly (handed t input)
hands t v [] e = refl
hands t v (b ∷ bs) e =
    ap (λ cell. and_then (free_then cell (Ok (with_cell t.cells (address t.registers.ds t.registers.dx) (Known b)))) (λ cells. plainly (record (answered t 1 false) { cells = cells; taken = t.taken + 1 }))) e
