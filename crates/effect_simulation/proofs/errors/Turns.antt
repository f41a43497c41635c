-- The loop of the error routine: digits are stored from the last one on, until none is left.
use Rattle.std.proofs.Common.{◌≡◌, ℕ, zero, suc, ◌+◌, ◌-◌, ◌*◌, ◌/◌, ◌%◌, ◌<◌, ◌≤◌, ◌==◌, Bool, true, false, not, List, [], ◌∷◌, length, arith, refl, sym, ap, subst, ◌∙◌, eqb-true}
use Rattle.std.specs.Prelude.{IsTrue, if◌then◌else◌}
use Rattle.std.specs.Int.Bits.{or_self}
use Rattle.std.proofs.lemmas.Bool.{eq-eqb}
use Rattle.x86_table.specs.declared.instr.Cond.TheVariants as cond
use Rattle.x86_table.specs.declared.instr.Width.TheVariants as width
use Rattle.x86_table.specs.declared.line.Line.TheVariants.{JumpShort}
use Rattle.x86_table.specs.Standing.{IsSpelledAt, Stands}
use Rattle.cpu_8086.specs.declared.registers.Registers.{Registers}
use Rattle.cpu_8086.specs.Access.{at_offset, in_segment, word_then, put_word, put_byte}
use Rattle.cpu_8086.specs.Arithmetic.{sum_of, difference_of}
use Rattle.cpu_8086.specs.Effect.{act, holds}
use Rattle.cpu_8086.specs.Memory.{address}
use Rattle.cpu_8086.specs.Operand.{offset_of, usual_segment}
use Rattle.resident_machine.specs.Cells.{Known, Cells, with_cell, is_free}
use Rattle.resident_machine.specs.Effect.{with_memory}
use Rattle.resident_machine.specs.Program.{Segment, Program}
use Rattle.resident_machine.specs.State.{ResidentState}
use Rattle.resident_machine.specs.machine_lines.Steps.{Leads}
use Rattle.resident_machine.specs.machine_lines.Straight.{MayWrite, AskAll, div_cx, quotient, ones, registers_past, cells_past, Placed, IsAt, Carried}
use Rattle.resident_machine.proofs.machine_lines.Divide.{divides}
use Rattle.resident_machine.proofs.machine_lines.Jumps.{branches, passes}
use Rattle.resident_machine.proofs.machine_lines.Steps.{leads_on}
use Rattle.resident_machine.proofs.machine_lines.Straight.{line}
use Rattle.effect_simulation.specs.errors.Routine.{error_start, to_divide, store_digit}
use Rattle.effect_simulation.proofs.errors.Digits.{tens, digits_before, last_digit, more_digits}
use Rattle.effect_simulation.proofs.errors.Spelled.{Spells, spelled_other, spelled_before}

-- what a piece of the routine leaves of registers
pub record Stays (g h : Registers) : Type 0 where
  pub si : h.si ≡ g.si
  pub ss : h.ss ≡ g.ss
  pub sp : h.sp ≡ g.sp
  pub ds : h.ds ≡ g.ds

pub stays_on : (g h i : Registers) → Stays g h → Stays h i → Stays g i
stays_on g h i a b = record { si = b.si ∙ a.si; ss = b.ss ∙ a.ss; sp = b.sp ∙ a.sp; ds = b.ds ∙ a.ds }

-- the text and its room, where so many places are left for digits and these bytes stand behind them
pub record Text (flag ds text : ℕ) (di k : ℕ) (acc : List ℕ) (c : Cells) : Type 0 where
  pub place : di ≡ text + 14 + k
  pub size : length acc + k ≡ 7
  pub start : Spells c ds text error_start
  pub digits : Spells c ds di acc
  pub may : (i : ℕ) → i < 21 → MayWrite c flag (address ds (text + i))

module _ (p : Program) (framed : Bool) (cs : Segment) (code : List ℕ) (at labels : ℕ → ℕ) (pl : Placed p cs code at) where
  -- ## The quotient and the remainder

  -- at the line behind, with these registers and bytes
  pub record Moved (n ip : ℕ) (r : ResidentState) (g : Registers) (c : Cells) : Type 0 where
    pub count : ℕ
    pub few : count ≤ n
    pub leads : Leads p framed count r (with_memory r g c)
    pub here : IsAt cs ip (with_memory r g c)

  pub moved_on : (m n ip jp : ℕ) (r : ResidentState) (g h : Registers) (c d : Cells) → Moved m ip r g c → Moved n jp (with_memory r g c) h d → Moved (m + n) jp r h d
  moved_on m n ip jp r g h c d a b =
      let x = a.few in
      let y = b.few in
      record { count = a.count + b.count; few = omega arith; leads = leads_on p framed a.count b.count r (with_memory r g c) (with_memory r h d) a.leads b.leads; here = b.here }

  pub carried_moved : (n ip : ℕ) (r : ResidentState) (g : Registers) (c : Cells) → Carried p framed cs n ip r g c → Moved n ip r g c
  carried_moved n ip r g c a = record { count = n; few = omega arith; leads = a.leads; here = a.here }

  lowered_di : (di : ℕ) → 0 < di → di < 65536 → (difference_of width.Word di 1 false).value ≡ di - 1
  unfolding difference_of
  lowered_di di some small = omega arith

  digit_of : (v : ℕ) → v < 10 → (sum_of width.Word v 48 false).value % 256 ≡ 48 + v
  unfolding sum_of
  digit_of v small = omega arith

  -- what the lines before the division leave
  record Divides (k : ℕ) (r : ResidentState) : Type 0 where
    registers : Registers
    moved : Moved 3 (at (k + 1 + 1 + 1)) r registers r.cells
    stays : Stays r.registers registers
    ax : registers.ax ≡ r.registers.ax
    dx : registers.dx ≡ 0
    cx : registers.cx ≡ 10
    di : registers.di ≡ r.registers.di - 1

  to_divide_run : (k : ℕ) (r : ResidentState) → 0 < r.registers.di → r.registers.di < 65536 → IsAt cs (at k) r → Stands (IsSpelledAt code) at labels k (ones to_divide) → Divides k r
  unfolding act
  to_divide_run k r some small here s =
      let c = line p framed cs code at labels pl k to_divide r refl here s tt in
      let there : k + 3 ≡ k + 1 + 1 + 1 = omega arith in
      let d = subst (λ n. Carried p framed cs 3 (at n) r (registers_past at k to_divide r.registers r.cells) r.cells) there c in
      record {
        registers = registers_past at k to_divide r.registers r.cells;
        moved = carried_moved 3 (at (k + 1 + 1 + 1)) r (registers_past at k to_divide r.registers r.cells) r.cells d;
        stays = record { si = refl; ss = refl; sp = refl; ds = refl };
        ax = refl;
        dx = refl;
        cx = refl;
        di = lowered_di r.registers.di some small;
      }

  -- ## A digit is stored

  record Stores (k : ℕ) (r : ResidentState) (digit : ℕ) : Type 0 where
    registers : Registers
    moved : Moved 3 (at (k + 1 + 1 + 1)) r registers (with_cell r.cells (address r.registers.ds r.registers.di) (Known digit))
    stays : Stays r.registers registers
    ax : registers.ax ≡ r.registers.ax
    di : registers.di ≡ r.registers.di
    flag : holds registers cond.NotEqual ≡ not (r.registers.ax == 0)

  store_asks : (k : ℕ) (r : ResidentState) → MayWrite r.cells p.installed (address r.registers.ds (r.registers.di % 65536)) → AskAll r.cells p.installed at k store_digit r.registers r.cells
  unfolding act word_then put_word put_byte in_segment offset_of usual_segment
  store_asks k r may = (may, tt)

  or_is : (k : ℕ) (r : ResidentState) → ((registers_past at k store_digit r.registers r.cells).ax ≡ r.registers.ax) × (holds (registers_past at k store_digit r.registers r.cells) cond.NotEqual ≡ not (r.registers.ax == 0))
  unfolding act word_then put_word put_byte in_segment offset_of usual_segment
  or_is k r = (or_self r.registers.ax, ap (λ n. not (n == 0)) (or_self r.registers.ax))

  cells_stored : (k : ℕ) (r : ResidentState) → cells_past at k store_digit r.registers r.cells ≡ with_cell r.cells (address r.registers.ds (r.registers.di % 65536)) (Known ((sum_of width.Word r.registers.dx 48 false).value % 256))
  unfolding act word_then put_word put_byte in_segment offset_of usual_segment
  cells_stored k r = refl

  stored_stays : (k : ℕ) (r : ResidentState) → Stays r.registers (registers_past at k store_digit r.registers r.cells) × ((registers_past at k store_digit r.registers r.cells).di ≡ r.registers.di)
  unfolding act word_then put_word put_byte in_segment offset_of usual_segment
  stored_stays k r = (record { si = refl; ss = refl; sp = refl; ds = refl }, refl)

  store_run : (k v : ℕ) (r : ResidentState) → r.registers.dx ≡ v → v < 10 → r.registers.di < 65536 → MayWrite r.cells p.installed (address r.registers.ds r.registers.di) → IsAt cs (at k) r → Stands (IsSpelledAt code) at labels k (ones store_digit) → Stores k r (48 + v)
  store_run k v r e small fits may here s =
      let g = r.registers in
      let whole : g.di % 65536 ≡ g.di = omega arith in
      let may1 = subst (λ o. MayWrite r.cells p.installed (address g.ds o)) (sym whole) may in
      let h = registers_past at k store_digit g r.cells in
      let c = line p framed cs code at labels pl k store_digit r refl here s (store_asks k r may1) in
      let there : k + 3 ≡ k + 1 + 1 + 1 = omega arith in
      let d = subst (λ n. Carried p framed cs 3 (at n) r h (cells_past at k store_digit g r.cells)) there c in
      let digit = ap (λ x. (sum_of width.Word x 48 false).value % 256) e ∙ digit_of v small in
      let cells = cells_stored k r ∙ ap (λ o. with_cell r.cells (address g.ds o) (Known ((sum_of width.Word g.dx 48 false).value % 256))) whole ∙ ap (λ b. with_cell r.cells (address g.ds g.di) (Known b)) digit in
      let m = carried_moved 3 (at (k + 1 + 1 + 1)) r h (cells_past at k store_digit g r.cells) d in
      record {
        registers = h;
        moved = subst (λ x. Moved 3 (at (k + 1 + 1 + 1)) r h x) cells m;
        stays = (stored_stays k r).0;
        ax = (or_is k r).0;
        di = (stored_stays k r).1;
        flag = (or_is k r).1;
      }

  -- ## A turn

  -- the lines of the loop from its label on, the first of them line k
  pub record LoopStands (k : ℕ) : Type 0 where
    pub label : (labels 0 ≡ k) × (at (k + 1) ≡ at k)
    pub before : Stands (IsSpelledAt code) at labels (k + 1) (ones to_divide)
    pub division : Stands (IsSpelledAt code) at labels (k + 1 + 1 + 1 + 1) (ones (div_cx ∷ []))
    pub behind : Stands (IsSpelledAt code) at labels (k + 1 + 1 + 1 + 1 + 1) (ones store_digit)
    pub jump : Stands (IsSpelledAt code) at labels (k + 1 + 1 + 1 + 1 + 1 + 1 + 1 + 1) (JumpShort cond.NotEqual 0 ∷ [])

  -- a turn up to its jump: one digit more stands in the text
  record Turn (k ds text n j : ℕ) (acc : List ℕ) (r : ResidentState) : Type 0 where
    registers : Registers
    cells : Cells
    moved : Moved 7 (at (k + 1 + 1 + 1 + 1 + 1 + 1 + 1 + 1)) r registers cells
    stays : Stays r.registers registers
    ax : registers.ax ≡ n / 10
    text_is : Text p.installed ds text registers.di j ((48 + n % 10) ∷ acc) cells
    flag : holds registers cond.NotEqual ≡ not (n / 10 == 0)

  still_may : (c : Cells) (place v other : ℕ) → MayWrite c p.installed other → MayWrite (with_cell c place (Known v)) p.installed other
  still_may c place v other may = record { free = by (other == place); apart = may.apart }
    where
      by : (b : Bool) → IsTrue (is_free (if b then Known v else c other))
      by true = refl
      by false = may.free

  text_stored : (ds text di j v : ℕ) (acc : List ℕ) (c : Cells) → text + 21 < 65536 → di ≡ text + 14 + j → Text p.installed ds text (di + 1) (suc j) acc c → Text p.installed ds text di j (v ∷ acc) (with_cell c (address ds di) (Known v))
  text_stored ds text di j v acc c fits place t =
      let size = t.size in
      let fourteen : length error_start ≡ 14 = refl in
      record {
        place = place;
        size = omega arith;
        start = spelled_other c ds text di v error_start (omega arith) (omega arith) (λ i less e. absurd (omega arith)) t.start;
        digits = spelled_before c ds di v acc (omega arith) t.digits;
        may = λ i less. still_may c (address ds di) v (address ds (text + i)) (t.may i less);
      }

  turn_run : (k ds text n j : ℕ) (acc : List ℕ) (r : ResidentState) → LoopStands k → IsAt cs (at k) r → r.registers.ax ≡ n → n < 65536 → r.registers.ds ≡ ds → text + 21 < 65536 → Text p.installed ds text r.registers.di (suc j) acc r.cells → Turn k ds text n j acc r
  turn_run k ds text n j acc r s here ax small at_ds fits t =
      let g = r.registers in
      let place = t.place in
      let size = t.size in
      let here1 = subst (λ ip. IsAt cs ip r) (sym s.label.1) here in
      let b1 = to_divide_run (k + 1) r (omega arith) (omega arith) here1 s.before in
      let r1 = with_memory r b1.registers r.cells in
      let ax1 = b1.ax in
      let d = divides p framed cs code at (k + 1 + 1 + 1 + 1) 9 r1 pl b1.moved.here s.division.0.0 s.division.0.1 b1.cx b1.dx (omega arith) in
      let g2 = quotient (at_offset b1.registers (at (k + 1 + 1 + 1 + 1 + 1))) 10 in
      let r2 = with_memory r g2 r.cells in
      let m1 = moved_on 3 1 (at (k + 1 + 1 + 1 + 1)) (at (k + 1 + 1 + 1 + 1 + 1)) r b1.registers g2 r.cells r.cells b1.moved (carried_moved 1 (at (k + 1 + 1 + 1 + 1 + 1)) r1 g2 r.cells d) in
      let di1 = b1.di in
      let there : b1.registers.di ≡ text + 14 + j = omega arith in
      let data1 : b1.registers.ds ≡ ds = b1.stays.ds ∙ at_ds in
      let may0 = subst (λ o. MayWrite r.cells p.installed (address ds o)) {x = text + (14 + j)} {y = b1.registers.di} (omega arith) (t.may (14 + j) (omega arith)) in
      let may1 = subst (λ z. MayWrite r.cells p.installed (address z b1.registers.di)) (sym data1) may0 in
      let b2 = store_run (k + 1 + 1 + 1 + 1 + 1) (n % 10) r2 (ap (λ v. v % 10) (ax1 ∙ ax)) (omega arith) (omega arith) may1 m1.here s.behind in
      let c2 = with_cell r.cells (address b1.registers.ds b1.registers.di) (Known (48 + n % 10)) in
      let t1 = subst (λ o. Text p.installed ds text o (suc j) acc r.cells) {x = g.di} {y = b1.registers.di + 1} (omega arith) t in
      let t2 = text_stored ds text b1.registers.di j (48 + n % 10) acc r.cells fits there t1 in
      let t3 = subst (λ z. Text p.installed ds text b1.registers.di j ((48 + n % 10) ∷ acc) (with_cell r.cells (address z b1.registers.di) (Known (48 + n % 10)))) {x = ds} {y = b1.registers.ds} (sym data1) t2 in
      record {
        registers = b2.registers;
        cells = c2;
        moved = moved_on 4 3 (at (k + 1 + 1 + 1 + 1 + 1)) (at (k + 1 + 1 + 1 + 1 + 1 + 1 + 1 + 1)) r g2 b2.registers r.cells c2 m1 b2.moved;
        stays = stays_on g g2 b2.registers (stays_on g b1.registers g2 b1.stays (record { si = refl; ss = refl; sp = refl; ds = refl })) b2.stays;
        ax = b2.ax ∙ ap (λ v. v / 10) (ax1 ∙ ax);
        text_is = subst (λ o. Text p.installed ds text o j ((48 + n % 10) ∷ acc) c2) {x = b1.registers.di} {y = b2.registers.di} (sym b2.di) t3;
        flag = b2.flag ∙ ap (λ v. not (v / 10 == 0)) (ax1 ∙ ax);
      }

  -- ## All digits

  -- behind the loop these digits stand in the text
  pub record Digits (k ds text n : ℕ) (xs : List ℕ) (r : ResidentState) : Type 0 where
    pub registers : Registers
    pub cells : Cells
    pub moved : Moved n (at (k + 1 + 1 + 1 + 1 + 1 + 1 + 1 + 1 + 1)) r registers cells
    pub stays : Stays r.registers registers
    pub left : ℕ
    pub text_is : Text p.installed ds text registers.di left xs cells

  digits_on : (k ds text n j : ℕ) (acc xs : List ℕ) (r : ResidentState) (t : Turn k ds text n j acc r) (g : Registers) (m : ℕ) → Moved 1 (at k) (with_memory r t.registers t.cells) g t.cells → Stays t.registers g → Digits k ds text m xs (with_memory r g t.cells) → Digits k ds text (8 + m) xs r
  digits_on k ds text n j acc xs r t g m back stays d =
      let i = k + 1 + 1 + 1 + 1 + 1 + 1 + 1 + 1 in
      let m1 = moved_on 7 1 (at i) (at k) r t.registers g t.cells t.cells t.moved back in
      record {
        registers = d.registers;
        cells = d.cells;
        moved = moved_on 8 m (at k) (at (i + 1)) r g d.registers t.cells d.cells m1 d.moved;
        stays = stays_on r.registers g d.registers (stays_on r.registers t.registers g t.stays stays) d.stays;
        left = d.left;
        text_is = d.text_is;
      }

  pub digits_run : (m j k ds text n : ℕ) (acc : List ℕ) (r : ResidentState) → n < tens (suc j) → suc j ≤ m → LoopStands k → IsAt cs (at k) r → r.registers.ax ≡ n → n < 65536 → r.registers.ds ≡ ds → text + 21 < 65536 → Text p.installed ds text r.registers.di (suc j) acc r.cells → Digits k ds text (8 * suc j) (digits_before m n acc) r
  digits_run zero j k ds text n acc r few deep s here ax small at_ds fits t = absurd (omega (arith, deep))
  digits_run (suc m) j k ds text n acc r few deep s here ax small at_ds fits t =
      by j (λ i u a b c d e f g. digits_run m i k ds text (n / 10) ((48 + n % 10) ∷ acc) u a b s c d e f fits g) few deep (turn_run k ds text n j acc r s here ax small at_ds fits t) (n / 10 == 0) refl
    where
      i : ℕ
      i = k + 1 + 1 + 1 + 1 + 1 + 1 + 1 + 1

      Again : ℕ → Type 0
      Again l = (u : ResidentState) → n / 10 < tens (suc l) → suc l ≤ m → IsAt cs (at k) u → u.registers.ax ≡ n / 10 → n / 10 < 65536 → u.registers.ds ≡ ds → Text p.installed ds text u.registers.di (suc l) ((48 + n % 10) ∷ acc) u.cells → Digits k ds text (8 * suc l) (digits_before m (n / 10) ((48 + n % 10) ∷ acc)) u

      last : (l : ℕ) → (t : Turn k ds text n l acc r) → (n / 10 == 0) ≡ true → Digits k ds text (8 * suc l) (digits_before (suc m) n acc) r
      last l t e =
          let zero_left = eqb-true (n / 10) 0 e in
          let r1 = with_memory r t.registers t.cells in
          let jump = passes p framed cs code at labels pl i 0 cond.NotEqual r1 t.moved.here s.jump.0 (t.flag ∙ ap not e) in
          let g = at_offset t.registers (at (i + 1)) in
          let m1 : Moved 1 (at (i + 1)) r1 g t.cells = record { count = 1; few = omega arith; leads = jump.leads; here = jump.here } in
          let all = moved_on 7 1 (at i) (at (i + 1)) r t.registers g t.cells t.cells t.moved m1 in
          let f = all.few in
          record {
            registers = g;
            cells = t.cells;
            moved = record { count = all.count; few = omega arith; leads = all.leads; here = all.here };
            stays = stays_on r.registers t.registers g t.stays (record { si = refl; ss = refl; sp = refl; ds = refl });
            left = l;
            text_is = subst (λ xs. Text p.installed ds text t.registers.di l xs t.cells) (sym (last_digit m n acc zero_left)) t.text_is;
          }

      more : (l : ℕ) → Again l → n < tens (suc (suc l)) → suc (suc l) ≤ suc m → (t : Turn k ds text n (suc l) acc r) → (n / 10 == 0) ≡ false → Digits k ds text (8 * suc (suc l)) (digits_before (suc m) n acc) r
      more l again few deep t e =
          let r1 = with_memory r t.registers t.cells in
          let jump = branches p framed cs code at labels pl i 0 cond.NotEqual r1 t.moved.here s.jump.0 (t.flag ∙ ap not e) in
          let g = at_offset t.registers (at (labels 0)) in
          let g1 = at_offset t.registers (at k) in
          let m1 : Moved 1 (at (labels 0)) r1 g t.cells = record { count = 1; few = omega arith; leads = jump.leads; here = jump.here } in
          let m2 = subst (λ z. Moved 1 (at z) r1 (at_offset t.registers (at z)) t.cells) s.label.0 m1 in
          let fits1 : n / 10 < tens (suc l) = omega arith in
          let d = again (with_memory r g1 t.cells) fits1 (omega arith) m2.here t.ax (omega arith) (t.stays.ds ∙ at_ds) t.text_is in
          let all = digits_on k ds text n (suc l) acc (digits_before m (n / 10) ((48 + n % 10) ∷ acc)) r t g1 (8 * suc l) m2 (record { si = refl; ss = refl; sp = refl; ds = refl }) d in
          let sum : 8 + 8 * suc l ≡ 8 * suc (suc l) = omega arith in
          let spelled = sym (more_digits m n acc (λ z. let w = eq-eqb (n / 10) 0 z in absurd (cc))) in
          subst (λ xs. Digits k ds text (8 * suc (suc l)) xs r) spelled (subst (λ z. Digits k ds text z (digits_before m (n / 10) ((48 + n % 10) ∷ acc)) r) sum all)

      by : (l : ℕ) → ((i : ℕ) (u : ResidentState) → n / 10 < tens (suc i) → suc i ≤ m → IsAt cs (at k) u → u.registers.ax ≡ n / 10 → n / 10 < 65536 → u.registers.ds ≡ ds → Text p.installed ds text u.registers.di (suc i) ((48 + n % 10) ∷ acc) u.cells → Digits k ds text (8 * suc i) (digits_before m (n / 10) ((48 + n % 10) ∷ acc)) u) → n < tens (suc l) → suc l ≤ suc m → (t : Turn k ds text n l acc r) → (b : Bool) → (n / 10 == 0) ≡ b → Digits k ds text (8 * suc l) (digits_before (suc m) n acc) r
      by l again few deep t true e = last l t e
      by zero again few deep t false e =
          let zero_left : n / 10 ≡ 0 = omega arith in
          let w = eq-eqb (n / 10) 0 zero_left in
          absurd (cc)
      by (suc l) again few deep t false e = more l (again l) few deep t e
