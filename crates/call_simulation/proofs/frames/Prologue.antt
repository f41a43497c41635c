-- The lines at the begin of a routine: the frame is made, the stack tested, and room made for the locals.
use Rattle.std.proofs.Common.{◌≡◌, ℕ, zero, suc, ◌+◌, ◌-◌, ◌*◌, ◌%◌, ◌<◌, ◌≤◌, Bool, true, false, List, [], ◌∷◌, ◌++◌, length, arith, refl, sym, ap, subst, ◌∙◌, length-append}
use Rattle.std.specs.Prelude.{min, nat_le}
use Rattle.std.proofs.lemmas.Bool.{le-leb, lt-leb}
use Rattle.x86_table.specs.declared.instr.AluOp.TheVariants as alu
use Rattle.x86_table.specs.declared.instr.Cond.TheVariants as cond
use Rattle.x86_table.specs.declared.instr.Immediate.TheVariants as immediate
use Rattle.x86_table.specs.declared.instr.Instr.{Instr}
use Rattle.x86_table.specs.declared.instr.Instr.TheVariants as instr
use Rattle.x86_table.specs.declared.instr.Width.TheVariants as width
use Rattle.x86_table.specs.declared.operand.WordOperand.TheVariants as word_rm
use Rattle.x86_table.specs.declared.operand.WordReg.TheVariants as word
use Rattle.x86_table.specs.Spelling.{word_bytes}
use Rattle.x86_table.specs.Standing.{IsSpelledAt, Stands}
use Rattle.flat_code.specs.Program.{Routine}
use Rattle.cpu_8086.specs.declared.registers.Registers.{Registers}
use Rattle.cpu_8086.specs.Access.{at_offset, word_then, put_word}
use Rattle.cpu_8086.specs.Arithmetic.{sum_of, difference_of}
use Rattle.cpu_8086.specs.Effect.{act, holds}
use Rattle.cpu_8086.specs.Memory.{address, next_offset}
use Rattle.cpu_8086.proofs.CompareLaws.{compare_decides}
use Rattle.resident_machine.specs.Cells.{Cells}
use Rattle.resident_machine.specs.Effect.{with_memory}
use Rattle.resident_machine.specs.Program.{Segment, Program}
use Rattle.resident_machine.specs.State.{ResidentState}
use Rattle.resident_machine.specs.machine_lines.Steps.{Leads}
use Rattle.resident_machine.specs.machine_lines.Straight.{MayWrite, StaysFree, ones, registers_past, Placed, IsAt, Carried}
use Rattle.resident_machine.specs.machine_lines.Words.{stored}
use Rattle.resident_machine.proofs.machine_lines.Jumps.{skips, falls}
use Rattle.resident_machine.proofs.machine_lines.Steps.{leads_on}
use Rattle.resident_machine.proofs.machine_lines.Straight.{line}
use Rattle.resident_machine.proofs.machine_lines.Words.{stored_other}
use Rattle.code_templates.specs.code_lines.Addresses.{Context}
use Rattle.code_templates.specs.code_lines.Lines.{enter_frame, stack_test, stack_test_if, make_room, prologue}
use Rattle.statement_simulation.specs.expressions.Evaluates.{IsCode, Fails}
use Rattle.statement_simulation.proofs.expressions.Division.{fail_run}
use Rattle.statement_simulation.proofs.expressions.Loads.{ones_front, ones_back}
use Rattle.statement_simulation.proofs.expressions.Runs.{Lowers, fails_on}
use Rattle.call_simulation.specs.frames.Callee.{kept_bp}

module _ (p : Program) (framed : Bool) (cs : Segment) (code : List ℕ) (at labels : ℕ → ℕ) (pl : Placed p cs code at) where
  -- so many events lead to these registers and bytes
  pub record Opens (n ip : ℕ) (t : ResidentState) (g : Registers) (c : Cells) : Type 0 where
    pub count : ℕ
    pub few : count ≤ n
    pub leads : Leads p framed count t (with_memory t g c)
    pub here : IsAt cs ip (with_memory t g c)
    pub free : StaysFree t.cells c

  carried_opens : (n ip : ℕ) (t : ResidentState) (g : Registers) (c : Cells) → Carried p framed cs n ip t g c → Opens n ip t g c
  carried_opens n ip t g c a = record { count = n; few = omega arith; leads = a.leads; here = a.here; free = a.free }

  opens_on : (m n ip jp : ℕ) (t : ResidentState) (g h : Registers) (c d : Cells) → Opens m ip t g c → Opens n jp (with_memory t g c) h d → Opens (m + n) jp t h d
  opens_on m n ip jp t g h c d a b =
      let x = a.few in
      let y = b.few in
      record { count = a.count + b.count; few = omega arith; leads = leads_on p framed a.count b.count t (with_memory t g c) (with_memory t h d) a.leads b.leads; here = b.here; free = λ place f. b.free place (a.free place f) }

  -- ## BP is pushed, and becomes SP

  abbrev framed_registers : Registers → ℕ → Registers
  framed_registers g ip = record (at_offset g ip) { sp = g.sp - 2; bp = g.sp - 2 }

  frame_pushed : (k : ℕ) (t : ResidentState) → 2 ≤ t.registers.sp → t.registers.sp < 65536 → MayWrite t.cells p.installed (address t.registers.ss (t.registers.sp - 2)) → MayWrite t.cells p.installed (address t.registers.ss (next_offset (t.registers.sp - 2))) → IsAt cs (at k) t → Stands (IsSpelledAt code) at labels k (ones (enter_frame false)) → Opens 2 (at (k + 1 + 1)) t (framed_registers t.registers (at (k + 1 + 1))) (stored t.cells t.registers.ss (t.registers.sp - 2) t.registers.bp)
  unfolding act word_then
  frame_pushed k t room top low high here s =
      let g = t.registers in
      let there : (g.sp + 65534) % 65536 ≡ g.sp - 2 = omega arith in
      let may0 = subst (λ o. MayWrite t.cells p.installed (address g.ss o)) (sym there) low in
      let may1 = subst (λ o. MayWrite t.cells p.installed (address g.ss (next_offset o))) (sym there) high in
      let c = line p framed cs code at labels pl k (enter_frame false) t refl here s (may0, (may1, tt)) in
      let two : k + 2 ≡ k + 1 + 1 = omega arith in
      let d = subst (λ n. Carried p framed cs 2 (at n) t (record (at_offset g (at (k + 1 + 1))) { sp = (g.sp + 65534) % 65536; bp = (g.sp + 65534) % 65536 }) (stored t.cells g.ss ((g.sp + 65534) % 65536) g.bp)) two c in
      carried_opens 2 (at (k + 1 + 1)) t (framed_registers g (at (k + 1 + 1))) (stored t.cells g.ss (g.sp - 2) g.bp)
      (subst (λ o. Carried p framed cs 2 (at (k + 1 + 1)) t (record (at_offset g (at (k + 1 + 1))) { sp = o; bp = o }) (stored t.cells g.ss o g.bp)) there d)

  -- registers but for the flags
  pub record IsLike (g h : Registers) : Type 0 where
    pub sp : h.sp ≡ g.sp
    pub bp : h.bp ≡ g.bp
    pub ss : h.ss ≡ g.ss
    pub ds : h.ds ≡ g.ds
    pub direction : h.direction ≡ g.direction

  marked_is : (bp : ℕ) → bp < 65535 → (sum_of width.Word bp 1 false).value ≡ bp + 1
  unfolding sum_of
  marked_is bp small = omega arith

  -- a far routine marks BP first
  marks_run : (k : ℕ) (t : ResidentState) → t.registers.bp < 65535 → IsAt cs (at k) t → Stands (IsSpelledAt code) at labels k (ones (instr.Inc word.Bp ∷ [])) → (g : Registers) × Opens 1 (at (k + 1)) t g t.cells × IsLike (record t.registers { bp = t.registers.bp + 1 }) g
  unfolding act word_then put_word
  marks_run k t small here s =
      let c = line p framed cs code at labels pl k (instr.Inc word.Bp ∷ []) t refl here s tt in
      let g = registers_past at k (instr.Inc word.Bp ∷ []) t.registers t.cells in
      (g, carried_opens 1 (at (k + 1)) t g t.cells c, record { sp = refl; bp = marked_is t.registers.bp small; ss = refl; ds = refl; direction = refl })

  -- what the frame asks of the stack, and of BP
  pub record HasWordBelow (t : ResidentState) : Type 0 where
    pub room : 2 ≤ t.registers.sp
    pub top : t.registers.sp < 65536
    pub low : MayWrite t.cells p.installed (address t.registers.ss (t.registers.sp - 2))
    pub high : MayWrite t.cells p.installed (address t.registers.ss (next_offset (t.registers.sp - 2)))
    pub word : t.registers.bp < 65535

  -- the bytes with the word that the frame keeps
  abbrev kept_cells : Bool → ResidentState → Cells
  kept_cells far t = stored t.cells t.registers.ss (t.registers.sp - 2) (kept_bp far t.registers.bp)

  like_frame : (g : Registers) (ip : ℕ) → IsLike (framed_registers g 0) (framed_registers g ip)
  like_frame g ip = record { sp = refl; bp = refl; ss = refl; ds = refl; direction = refl }

  -- the frame is made
  record FrameMade (far : Bool) (n ip : ℕ) (t : ResidentState) : Type 0 where
    registers : Registers
    opens : Opens n ip t registers (kept_cells far t)
    like : IsLike (framed_registers t.registers 0) registers

  enters_by : (far : Bool) (k : ℕ) (t : ResidentState) → HasWordBelow t → IsAt cs (at k) t → Stands (IsSpelledAt code) at labels k (ones (enter_frame far)) → FrameMade far (length (enter_frame far)) (at (k + length (enter_frame far))) t
  enters_by false k t below here s =
      let two : k + 1 + 1 ≡ k + 2 = omega arith in
      let g = framed_registers t.registers (at (k + 1 + 1)) in
      let a = frame_pushed k t below.room below.top below.low below.high here s in
      subst (λ j. FrameMade false 2 (at j) t) two (record { registers = g; opens = a; like = like_frame t.registers (at (k + 1 + 1)) })
  enters_by true k t below here s =
      let three : k + 1 + 1 + 1 ≡ k + 3 = omega arith in
      let m = marks_run k t below.word here (s.0, tt) in
      let g = m.0 in
      let like = m.2 in
      let t1 = with_memory t g t.cells in
      let room = below.room in
      let top = below.top in
      let sp : g.sp ≡ t.registers.sp = like.sp in
      let low : MayWrite t.cells p.installed (address g.ss (g.sp - 2)) = subst (λ z. MayWrite t.cells p.installed (address z (g.sp - 2))) (sym like.ss) (subst (λ o. MayWrite t.cells p.installed (address t.registers.ss (o - 2))) (sym sp) below.low) in
      let high : MayWrite t.cells p.installed (address g.ss (next_offset (g.sp - 2))) = subst (λ z. MayWrite t.cells p.installed (address z (next_offset (g.sp - 2)))) (sym like.ss) (subst (λ o. MayWrite t.cells p.installed (address t.registers.ss (next_offset (o - 2)))) (sym sp) below.high) in
      let a = frame_pushed (k + 1) t1 (omega arith) (omega arith) low high m.1.here (s.1.0, (s.1.1.0, tt)) in
      let h = framed_registers g (at (k + 1 + 1 + 1)) in
      let cells : stored t.cells g.ss (g.sp - 2) g.bp ≡ kept_cells true t =
      ap (λ z. stored t.cells z (g.sp - 2) g.bp) like.ss ∙ ap (λ o. stored t.cells t.registers.ss (o - 2) g.bp) sp ∙ ap (λ v. stored t.cells t.registers.ss (t.registers.sp - 2) v) like.bp in
      let both = opens_on 1 2 (at (k + 1)) (at (k + 1 + 1 + 1)) t g h t.cells (stored t.cells g.ss (g.sp - 2) g.bp) m.1 a in
      subst (λ j. FrameMade true 3 (at j) t) three (record {
        registers = h;
        opens = subst (λ c. Opens 3 (at (k + 1 + 1 + 1)) t h c) cells both;
        like = record { sp = ap (λ n. n - 2) sp; bp = ap (λ n. n - 2) sp; ss = like.ss; ds = like.ds; direction = like.direction };
      })

  -- ## SP is lowered by the locals

  taken_off : (a b : ℕ) → b ≤ a → a < 65536 → (difference_of width.Word a (b % 65536) false).value ≡ a - b
  unfolding difference_of
  taken_off a b less small = omega arith

  lowers_run : (k : ℕ) (r : Routine) (t : ResidentState) → r.locals ≤ t.registers.sp → t.registers.sp < 65536 → IsAt cs (at k) t → Stands (IsSpelledAt code) at labels k (ones (make_room r ∷ [])) → (g : Registers) × Opens 1 (at (k + 1)) t g t.cells × (g.sp ≡ t.registers.sp - r.locals) × (g.bp ≡ t.registers.bp) × (g.ss ≡ t.registers.ss) × (g.ds ≡ t.registers.ds) × (g.direction ≡ t.registers.direction)
  unfolding act word_then put_word
  lowers_run k r t less small here s =
      let c = line p framed cs code at labels pl k (make_room r ∷ []) t refl here s tt in
      (registers_past at k (make_room r ∷ []) t.registers t.cells, carried_opens 1 (at (k + 1)) t (registers_past at k (make_room r ∷ []) t.registers t.cells) t.cells c, taken_off t.registers.sp r.locals less small, refl, refl, refl, refl)

  -- ## The test

  abbrev compared_with : ℕ → List Instr
  compared_with n = instr.AluImmediate alu.Cmp (immediate.Word (word_rm.Reg word.Sp) n) ∷ []

  compare_run : (k n : ℕ) (t : ResidentState) → t.registers.sp < 65536 → n < 65536 → IsAt cs (at k) t → Stands (IsSpelledAt code) at labels k (ones (compared_with n)) → (g : Registers) × Opens 1 (at (k + 1)) t g t.cells × IsLike t.registers g × (holds g cond.AboveOrEqual ≡ nat_le n t.registers.sp)
  unfolding act word_then
  compare_run k n t small fits here s =
      let c = line p framed cs code at labels pl k (compared_with n) t refl here s tt in
      let g = registers_past at k (compared_with n) t.registers t.cells in
      (g, carried_opens 1 (at (k + 1)) t g t.cells c, record { sp = refl; bp = refl; ss = refl; ds = refl; direction = refl }, compare_decides t.registers width.Word t.registers.sp n cond.AboveOrEqual small fits)

  abbrev limit : Routine → ℕ
  limit r = min (512 + r.locals) 65535

  -- enough is left: on over the error
  test_passes : (x : Context) (k : ℕ) (r : Routine) (t : ResidentState) → limit r ≤ t.registers.sp → t.registers.sp < 65536 → limit r < 65536 → IsAt cs (at k) t → Stands (IsSpelledAt code) at labels k (ones (stack_test x r)) → (g : Registers) × Opens 2 (at (k + 1 + 1 + 1 + 1)) t g t.cells × IsLike t.registers g
  unfolding word_bytes
  test_passes x k r t enough small fits here s =
      let first = compare_run k (limit r) t small fits here (s.0, tt) in
      let g = first.0 in
      let flag = first.3 ∙ le-leb (limit r) t.registers.sp enough in
      let mov = s.1.1.0.1 in
      let far = s.1.1.1.0.1 in
      let behind : at (k + 1 + 1) + 8 ≡ at (k + 1 + 1 + 1 + 1) = omega arith in
      let j = skips p framed cs code at labels pl (k + 1) (k + 1 + 1 + 1 + 1) cond.AboveOrEqual 8 (with_memory t g t.cells) first.1.here s.1.0.0 s.1.0.1 flag (omega arith) behind in
      let h = at_offset g (at (k + 1 + 1 + 1 + 1)) in
      let last : Opens 1 (at (k + 1 + 1 + 1 + 1)) (with_memory t g t.cells) h t.cells = record { count = 1; few = omega arith; leads = j.leads; here = j.here; free = λ place f. f } in
      (h, opens_on 1 1 (at (k + 1)) (at (k + 1 + 1 + 1 + 1)) t g h t.cells t.cells first.1 last, record { sp = first.2.sp; bp = first.2.bp; ss = first.2.ss; ds = first.2.ds; direction = first.2.direction })

  -- too little is left: error 202
  test_fails : (x : Context) (named : IsCode p x.addresses.error_routine) (k : ℕ) (r : Routine) (t : ResidentState) → t.registers.sp < limit r → t.registers.sp < 65536 → limit r < 65536 → 64 ≤ t.registers.sp → IsAt cs (at k) t → Stands (IsSpelledAt code) at labels k (ones (stack_test x r)) → Fails p framed x.addresses.error_routine 4 t 202
  test_fails x named k r t little small fits room here s =
      let first = compare_run k (limit r) t small fits here (s.0, tt) in
      let g = first.0 in
      let flag = first.3 ∙ lt-leb (limit r) t.registers.sp little in
      let j = falls p framed cs code at labels pl (k + 1) cond.AboveOrEqual 8 (with_memory t g t.cells) first.1.here s.1.0.0 s.1.0.1 flag in
      let h = at_offset g (at (k + 1 + 1)) in
      let last : Opens 1 (at (k + 1 + 1)) (with_memory t g t.cells) h t.cells = record { count = 1; few = omega arith; leads = j.leads; here = j.here; free = λ place f. f } in
      let both = opens_on 1 1 (at (k + 1)) (at (k + 1 + 1)) t g h t.cells t.cells first.1 last in
      let like = first.2 in
      let sp = like.sp in
      let lowers : Lowers t.registers t.cells h t.cells = record { sp = omega arith; ss = like.ss; ds = like.ds; direction = like.direction; bytes = λ place kept. refl; free = λ place f. f } in
      fails_on p framed x.addresses.error_routine 2 2 both.count 202 t h t.cells both.few both.leads lowers (fail_run p framed cs code at labels pl x named (k + 1 + 1) 202 (with_memory t h t.cells) (omega arith) both.here s.1.1)

  -- ## All of them

  pub record Begun (far : Bool) (n ip locals : ℕ) (t : ResidentState) : Type 0 where
    pub registers : Registers
    pub opens : Opens n ip t registers (stored t.cells t.registers.ss (t.registers.sp - 2) (kept_bp far t.registers.bp))
    pub sp : registers.sp ≡ t.registers.sp - 2 - locals
    pub bp : registers.bp ≡ t.registers.sp - 2
    pub ss : registers.ss ≡ t.registers.ss
    pub ds : registers.ds ≡ t.registers.ds
    pub direction : registers.direction ≡ t.registers.direction

  -- room is made behind lines that kept SP
  made_room : (far : Bool) (m k : ℕ) (r : Routine) (t : ResidentState) (g : Registers) → r.locals + 2 ≤ t.registers.sp → t.registers.sp < 65536 → Opens m (at k) t g (kept_cells far t) → IsLike (framed_registers t.registers 0) g → Stands (IsSpelledAt code) at labels k (ones (make_room r ∷ [])) → Begun far (m + 1) (at (k + 1)) r.locals t
  made_room far m k r t g enough small a like s =
      let c = kept_cells far t in
      let sp = like.sp in
      let l = lowers_run k r (with_memory t g c) (omega arith) (omega arith) a.here s in
      let lowered = l.2 in
      record {
        registers = l.0;
        opens = opens_on m 1 (at k) (at (k + 1)) t g l.0 c c a l.1;
        sp = omega arith;
        bp = l.3 ∙ like.bp;
        ss = l.4 ∙ like.ss;
        ds = l.5 ∙ like.ds;
        direction = l.6 ∙ like.direction;
      }

  begun_as : (far : Bool) (m n k j locals : ℕ) (t : ResidentState) → m ≤ n → k ≡ j → Begun far m (at k) locals t → Begun far n (at j) locals t
  begun_as far m n k j locals t less e b =
      let few = b.opens.few in
      let moved = subst (λ i. IsAt cs (at i) (with_memory t b.registers (kept_cells far t))) e b.opens.here in
      record { registers = b.registers; opens = record { count = b.opens.count; few = omega arith; leads = b.opens.leads; here = moved; free = b.opens.free }; sp = b.sp; bp = b.bp; ss = b.ss; ds = b.ds; direction = b.direction }

  like_on : (g h i : Registers) → IsLike g h → IsLike h i → IsLike g i
  like_on g h i a b = record { sp = b.sp ∙ a.sp; bp = b.bp ∙ a.bp; ss = b.ss ∙ a.ss; ds = b.ds ∙ a.ds; direction = b.direction ∙ a.direction }

  -- behind the frame
  abbrev behind : Context → Routine → ℕ → List Instr
  behind x r frame = stack_test_if x r frame ++ (make_room r ∷ [])

  begins_by : (x : Context) (far : Bool) (frame m k : ℕ) (r : Routine) (t : ResidentState) → HasWordBelow t → r.locals + 2 ≤ t.registers.sp → (0 < frame → limit r + 2 ≤ t.registers.sp) → limit r < 65536 → FrameMade far m (at k) t → Stands (IsSpelledAt code) at labels k (ones (behind x r frame)) → Begun far (m + length (behind x r frame)) (at (k + length (behind x r frame))) r.locals t
  begins_by x far zero m k r t below enough tested small a s = made_room far m k r t a.registers enough below.top a.opens a.like s
  begins_by x far (suc frame) m k r t below enough tested small a s =
      let top = below.top in
      let room = below.room in
      let g = a.registers in
      let c = kept_cells far t in
      let sp = a.like.sp in
      let more = tested (omega arith) in
      let b = test_passes x k r (with_memory t g c) (omega arith) (omega arith) small a.opens.here (s.0, (s.1.0, (s.1.1.0, (s.1.1.1.0, tt)))) in
      let both = opens_on m 2 (at k) (at (k + 1 + 1 + 1 + 1)) t g b.0 c c a.opens b.1 in
      let like = like_on (framed_registers t.registers 0) g b.0 a.like b.2 in
      begun_as far (m + 2 + 1) (m + 5) (k + 1 + 1 + 1 + 1 + 1) (k + 5) r.locals t (omega arith) (omega arith) (made_room far (m + 2) (k + 1 + 1 + 1 + 1) r t b.0 enough top both like (s.1.1.1.1.0, tt))

  fails_by : (x : Context) (named : IsCode p x.addresses.error_routine) (far : Bool) (m frame k : ℕ) (r : Routine) (t : ResidentState) → m ≤ 3 → HasWordBelow t → 66 ≤ t.registers.sp → t.registers.sp < limit r + 2 → limit r < 65536 → FrameMade far m (at k) t → Stands (IsSpelledAt code) at labels k (ones (behind x r (suc frame))) → 16 * t.registers.ss + t.registers.sp ≤ 1048576 → Fails p framed x.addresses.error_routine 7 t 202
  fails_by x named far m frame k r t few below room little small a s inside =
      let top = below.top in
      let g = a.registers in
      let c = kept_cells far t in
      let sp = a.like.sp in
      let f = test_fails x named k r (with_memory t g c) (omega arith) (omega arith) small (omega arith) a.opens.here (s.0, (s.1.0, (s.1.1.0, (s.1.1.1.0, tt)))) in
      let lowers : Lowers t.registers t.cells g c = record {
        sp = omega arith;
        ss = a.like.ss;
        ds = a.like.ds;
        direction = a.like.direction;
        bytes = λ place kept. stored_other t.cells t.registers.ss (t.registers.sp - 2) (kept_bp far t.registers.bp) place
            (λ e. let z = kept (omega arith) in absurd (omega arith))
            (λ e. let z = kept (omega arith) in absurd (omega arith));
        free = a.opens.free;
      } in
      let counted = a.opens.few in
      fails_on p framed x.addresses.error_routine 3 4 a.opens.count 202 t g c (omega arith) a.opens.leads lowers f

  enter_size : (far : Bool) → length (enter_frame far) ≤ 3
  enter_size true = omega arith
  enter_size false = omega arith

  pub begins : (x : Context) (k : ℕ) (r : Routine) (t : ResidentState) → HasWordBelow t → r.locals + 2 ≤ t.registers.sp → (0 < r.frame → limit r + 2 ≤ t.registers.sp) → limit r < 65536 → IsAt cs (at k) t → Stands (IsSpelledAt code) at labels k (ones (prologue x r)) → Begun r.far (length (prologue x r)) (at (k + length (prologue x r))) r.locals t
  begins x k r t below enough tested small here s =
      let enter = enter_frame r.far in
      let rest = behind x r r.frame in
      let front = ones_front (IsSpelledAt code) at labels k enter rest s in
      let back = ones_back (IsSpelledAt code) at labels k enter rest s in
      let size = length-append enter rest in
      let a = enters_by r.far k t below here front in
      begun_as r.far (length enter + length rest) (length (enter ++ rest)) (k + length enter + length rest) (k + length (enter ++ rest)) r.locals t (omega arith) (omega arith)
      (begins_by x r.far r.frame (length enter) (k + length enter) r t below enough tested small a back)

  -- where too little is left, the routine is not begun
  pub refuses : (x : Context) (named : IsCode p x.addresses.error_routine) (k : ℕ) (r : Routine) (t : ResidentState) → HasWordBelow t → 66 ≤ t.registers.sp → 0 < r.frame → t.registers.sp < limit r + 2 → limit r < 65536 → 16 * t.registers.ss + t.registers.sp ≤ 1048576 → IsAt cs (at k) t → Stands (IsSpelledAt code) at labels k (ones (prologue x r)) → Fails p framed x.addresses.error_routine 7 t 202
  refuses x named k r t below room framed_one little small inside here s = by r.frame refl framed_one
    where
      enter : List Instr
      enter = enter_frame r.far

      rest : List Instr
      rest = behind x r r.frame

      by : (frame : ℕ) → r.frame ≡ frame → 0 < frame → Fails p framed x.addresses.error_routine 7 t 202
      by zero e some = absurd (omega (arith, some))
      by (suc frame) e some =
          let front = ones_front (IsSpelledAt code) at labels k enter rest s in
          let back = ones_back (IsSpelledAt code) at labels k enter rest s in
          fails_by x named r.far (length enter) frame (k + length enter) r t (enter_size r.far) below room little small (enters_by r.far k t below here front)
          (subst (λ z. Stands (IsSpelledAt code) at labels (k + length enter) (ones (behind x r z))) e back) inside
