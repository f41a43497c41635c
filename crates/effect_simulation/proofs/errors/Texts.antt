-- The two writes of the error routine, and its end.
use Rattle.std.proofs.Common.{◌≡◌, ℕ, ◌+◌, ◌-◌, ◌*◌, ◌/◌, ◌%◌, ◌<◌, ◌≤◌, ◌==◌, Bool, false, List, ◌++◌, length, Ok, arith, refl, sym, ap, subst, ◌∙◌}
use Rattle.x86_table.specs.declared.instr.Width.TheVariants as width
use Rattle.x86_table.specs.Standing.{IsSpelledAt, Stands}
use Rattle.cpu_8086.specs.declared.registers.Registers.{Registers}
use Rattle.cpu_8086.specs.Access.{at_offset, word_then, put_word}
use Rattle.cpu_8086.specs.Arithmetic.{difference_of}
use Rattle.cpu_8086.specs.Effect.{act}
use Rattle.cpu_8086.specs.Memory.{address}
use Rattle.resident_machine.specs.Cells.{Cells, known_bytes}
use Rattle.resident_machine.specs.Dos.{plainly, exit_call, to_errors}
use Rattle.resident_machine.specs.Effect.{with_memory}
use Rattle.resident_machine.specs.Program.{Segment, Program}
use Rattle.resident_machine.specs.State.{Ended, ResidentState}
use Rattle.resident_machine.specs.machine_lines.Steps.{IsAbove, Leads}
use Rattle.resident_machine.specs.machine_lines.Straight.{ones, registers_past, Placed, IsAt, Carried}
use Rattle.resident_machine.proofs.machine_lines.Steps.{leads_on}
use Rattle.resident_machine.proofs.machine_lines.Straight.{line}
use Rattle.effect_simulation.proofs.effects.Dos.{said_by, dos_leads, writes, said, exits}
use Rattle.effect_simulation.specs.errors.Routine.{to_digits, say_start, say_digits, end_with, call_dos}
use Rattle.effect_simulation.proofs.errors.Turns.{Stays, stays_on, Moved, carried_moved}

module _ (p : Program) (framed : Bool) (cs : Segment) (code : List ℕ) (at labels : ℕ → ℕ) (pl : Placed p cs code at) where
  -- SI keeps the code, and DI leads behind the digits
  pub to_digits_run : (k text : ℕ) (r : ResidentState) → IsAt cs (at k) r → Stands (IsSpelledAt code) at labels k (ones (to_digits text)) → Moved p framed cs code at labels pl 2 (at (k + 2)) r (record (at_offset r.registers (at (k + 1 + 1))) { si = r.registers.ax; di = text + 19 }) r.cells
  unfolding act word_then
  to_digits_run k text r here s = carried_moved p framed cs code at labels pl 2 (at (k + 2)) r (record (at_offset r.registers (at (k + 1 + 1))) { si = r.registers.ax; di = text + 19 }) r.cells (line p framed cs code at labels pl k (to_digits text) r refl here s tt)

  -- what a write is to find
  pub record Asks (r : ResidentState) (offset n : ℕ) : Type 0 where
    pub high : r.registers.ax / 256 ≡ 64
    pub errors : r.registers.bx ≡ 2
    pub from : r.registers.dx ≡ offset
    pub many : r.registers.cx ≡ n

  start_asks : (k text : ℕ) (r : ResidentState) → Carried p framed cs 4 (at (k + 4)) r (registers_past at k (say_start text) r.registers r.cells) r.cells → Asks (with_memory r (registers_past at k (say_start text) r.registers r.cells) r.cells) text 14 × Stays r.registers (registers_past at k (say_start text) r.registers r.cells)
  unfolding act
  start_asks k text r c = (record { high = omega arith; errors = refl; from = refl; many = refl }, record { si = refl; ss = refl; sp = refl; ds = refl })

  start_carried : (k text : ℕ) (r : ResidentState) → IsAt cs (at k) r → Stands (IsSpelledAt code) at labels k (ones (say_start text)) → Carried p framed cs 4 (at (k + 4)) r (registers_past at k (say_start text) r.registers r.cells) r.cells
  unfolding act
  start_carried k text r here s = line p framed cs code at labels pl k (say_start text) r refl here s tt

  taken_off : (a b : ℕ) → b ≤ a → a < 65536 → (difference_of width.Word a b false).value ≡ a - b
  unfolding difference_of
  taken_off a b less small = omega arith

  digits_carried : (k text : ℕ) (r : ResidentState) → IsAt cs (at k) r → Stands (IsSpelledAt code) at labels k (ones (say_digits text)) → Carried p framed cs 4 (at (k + 4)) r (registers_past at k (say_digits text) r.registers r.cells) r.cells
  unfolding act word_then put_word
  digits_carried k text r here s = line p framed cs code at labels pl k (say_digits text) r refl here s tt

  digits_asks : (k text n : ℕ) (r : ResidentState) → r.registers.bx ≡ 2 → r.registers.di + n ≡ text + 21 → text + 21 < 65536 → Asks (with_memory r (registers_past at k (say_digits text) r.registers r.cells) r.cells) r.registers.di n × Stays r.registers (registers_past at k (say_digits text) r.registers r.cells)
  unfolding act word_then put_word
  digits_asks k text n r two e fits = (
    record { high = omega arith; errors = two; from = refl; many = taken_off (text + 21) r.registers.di (omega arith) fits ∙ (omega arith) },
    record { si = refl; ss = refl; sp = refl; ds = refl },
  )

  -- these bytes are known where DX leads, and none of the 64 below SP
  pub record Finds (g : Registers) (c : Cells) (offset : ℕ) (bytes : List ℕ) : Type 0 where
    pub known : known_bytes c g.ds offset (length bytes) ≡ Ok bytes
    pub above : (i : ℕ) → i < length bytes → IsAbove g.ss g.sp (address g.ds (offset + i))
    pub fits : offset + length bytes < 65536

  -- bytes are written to the errors
  pub record Tells (n ip : ℕ) (r : ResidentState) (bytes : List ℕ) : Type 0 where
    pub end : ResidentState
    pub leads : Leads p framed n r end
    pub here : IsAt cs ip end
    pub stays : Stays r.registers end.registers
    pub cells : end.cells ≡ r.cells
    pub bx : end.registers.bx ≡ 2
    pub di : end.registers.di ≡ r.registers.di
    pub err : end.err ≡ r.err ++ bytes
    pub out : end.out ≡ r.out
    pub input : end.input ≡ r.input
    pub taken : end.taken ≡ r.taken

  call_run : (k : ℕ) (r : ResidentState) (bytes : List ℕ) → Asks r r.registers.dx (length bytes) → Finds r.registers r.cells r.registers.dx bytes → IsAt cs (at k) r → Stands (IsSpelledAt code) at labels k (ones call_dos) → Tells 1 (at (k + 1)) r bytes
  call_run k r bytes asks finds here s =
      let g = r.registers in
      let t = with_memory r (at_offset g (at (k + 1))) r.cells in
      let known = subst (λ n. known_bytes r.cells g.ds g.dx n ≡ Ok bytes) (sym asks.many) finds.known in
      let handle = asks.errors in
      let fits = finds.fits in
      let tells = writes r t asks.high ∙ said t bytes known ∙ ap (λ n. plainly (said_by (n == 1) (n == 2) t bytes)) handle in
      let u = to_errors t bytes in
      let many = asks.many in
      record {
        end = u;
        leads = dos_leads p framed cs code at k r u pl here s.0.0 s.0.1 (λ one two i less. subst (λ o. IsAbove g.ss g.sp (address g.ds o)) {x = g.dx + i} {y = (g.dx + i) % 65536} (omega arith) (finds.above i (omega arith))) tells refl;
        here = record { running = here.running; half = here.half; segment = here.segment; offset = refl };
        stays = record { si = refl; ss = refl; sp = refl; ds = refl };
        cells = refl;
        bx = handle;
        di = refl;
        err = refl;
        out = refl;
        input = refl;
        taken = refl;
      }

  -- behind lines that led here
  told_on : (m n ip : ℕ) (r : ResidentState) (g : Registers) (bytes : List ℕ) → Leads p framed m r (with_memory r g r.cells) → Stays r.registers g → g.di ≡ r.registers.di → Tells n ip (with_memory r g r.cells) bytes → Tells (m + n) ip r bytes
  told_on m n ip r g bytes leads stays di t = record {
    end = t.end;
    leads = leads_on p framed m n r (with_memory r g r.cells) t.end leads t.leads;
    here = t.here;
    stays = stays_on r.registers g t.end.registers stays t.stays;
    cells = t.cells;
    bx = t.bx;
    di = t.di ∙ di;
    err = t.err;
    out = t.out;
    input = t.input;
    taken = t.taken;
  }

  start_di : (k text : ℕ) (r : ResidentState) → (registers_past at k (say_start text) r.registers r.cells).di ≡ r.registers.di
  unfolding act
  start_di k text r = refl

  digits_di : (k text : ℕ) (r : ResidentState) → (registers_past at k (say_digits text) r.registers r.cells).di ≡ r.registers.di
  unfolding act word_then put_word
  digits_di k text r = refl

  pub finds_still : (g h : Registers) (c : Cells) (offset : ℕ) (bytes : List ℕ) → Stays g h → Finds g c offset bytes → Finds h c offset bytes
  finds_still g h c offset bytes s f = record {
    known = subst (λ z. known_bytes c z offset (length bytes) ≡ Ok bytes) (sym s.ds) f.known;
    above = λ i less. subst (λ z. IsAbove h.ss h.sp (address z (offset + i))) (sym s.ds) (subst (λ z. IsAbove h.ss z (address g.ds (offset + i))) (sym s.sp) (subst (λ z. IsAbove z g.sp (address g.ds (offset + i))) (sym s.ss) (f.above i less)));
    fits = f.fits;
  }

  pub start_told : (k text : ℕ) (r : ResidentState) (bytes : List ℕ) → length bytes ≡ 14 → Finds r.registers r.cells text bytes → IsAt cs (at k) r → Stands (IsSpelledAt code) at labels k (ones (say_start text ++ call_dos)) → Tells 5 (at (k + 5)) r bytes
  start_told k text r bytes many finds here s =
      let g = registers_past at k (say_start text) r.registers r.cells in
      let c = start_carried k text r here (s.0, (s.1.0, (s.1.1.0, (s.1.1.1.0, tt)))) in
      let a = start_asks k text r c in
      let r1 = with_memory r g r.cells in
      let there : k + 4 ≡ k + 1 + 1 + 1 + 1 = omega arith in
      let asks1 : Asks r1 g.dx (length bytes) = record { high = a.0.high; errors = a.0.errors; from = refl; many = a.0.many ∙ sym many } in
      let finds1 = subst (λ o. Finds g r.cells o bytes) (sym a.0.from) (finds_still r.registers g r.cells text bytes a.1 finds) in
      let here1 = subst (λ n. IsAt cs (at n) r1) there c.here in
      let t = call_run (k + 1 + 1 + 1 + 1) r1 bytes asks1 finds1 here1 s.1.1.1.1 in
      let end : k + 1 + 1 + 1 + 1 + 1 ≡ k + 5 = omega arith in
      subst (λ n. Tells 5 (at n) r bytes) end (told_on 4 1 (at (k + 1 + 1 + 1 + 1 + 1)) r g bytes c.leads a.1 (start_di k text r) t)

  pub digits_told : (k text : ℕ) (r : ResidentState) (bytes : List ℕ) → r.registers.bx ≡ 2 → r.registers.di + length bytes ≡ text + 21 → text + 21 < 65536 → Finds r.registers r.cells r.registers.di bytes → IsAt cs (at k) r → Stands (IsSpelledAt code) at labels k (ones (say_digits text ++ call_dos)) → Tells 5 (at (k + 5)) r bytes
  digits_told k text r bytes two e fits finds here s =
      let g = registers_past at k (say_digits text) r.registers r.cells in
      let c = digits_carried k text r here (s.0, (s.1.0, (s.1.1.0, (s.1.1.1.0, tt)))) in
      let a = digits_asks k text (length bytes) r two e fits in
      let r1 = with_memory r g r.cells in
      let there : k + 4 ≡ k + 1 + 1 + 1 + 1 = omega arith in
      let asks1 : Asks r1 g.dx (length bytes) = record { high = a.0.high; errors = a.0.errors; from = refl; many = a.0.many } in
      let finds1 = subst (λ o. Finds g r.cells o bytes) (sym a.0.from) (finds_still r.registers g r.cells r.registers.di bytes a.1 finds) in
      let here1 = subst (λ n. IsAt cs (at n) r1) there c.here in
      let t = call_run (k + 1 + 1 + 1 + 1) r1 bytes asks1 finds1 here1 s.1.1.1.1 in
      let end : k + 1 + 1 + 1 + 1 + 1 ≡ k + 5 = omega arith in
      subst (λ n. Tells 5 (at n) r bytes) end (told_on 4 1 (at (k + 1 + 1 + 1 + 1 + 1)) r g bytes c.leads a.1 (digits_di k text r) t)

  -- ## The end

  -- the run ends with the code that SI kept
  pub record Exits (n : ℕ) (r : ResidentState) (v : ℕ) : Type 0 where
    pub end : ResidentState
    pub leads : Leads p framed n r end
    pub ended : end.status ≡ Ended (v % 256)
    pub err : end.err ≡ r.err
    pub out : end.out ≡ r.out
    pub input : end.input ≡ r.input
    pub taken : end.taken ≡ r.taken

  exit_is : (k : ℕ) (r : ResidentState) → (registers_past at k end_with r.registers r.cells).ax ≡ 256 * 76 + r.registers.si % 256
  unfolding act word_then
  exit_is k r = refl

  end_carried : (k : ℕ) (r : ResidentState) → IsAt cs (at k) r → Stands (IsSpelledAt code) at labels k (ones end_with) → Carried p framed cs 2 (at (k + 2)) r (registers_past at k end_with r.registers r.cells) r.cells
  unfolding act word_then
  end_carried k r here s = line p framed cs code at labels pl k end_with r refl here s tt

  pub end_run : (k v : ℕ) (r : ResidentState) → r.registers.si ≡ v → IsAt cs (at k) r → Stands (IsSpelledAt code) at labels k (ones (end_with ++ call_dos)) → Exits 3 r v
  end_run k v r e here s =
      let g = registers_past at k end_with r.registers r.cells in
      let c = end_carried k r here (s.0, (s.1.0, tt)) in
      let r1 = with_memory r g r.cells in
      let there : k + 2 ≡ k + 1 + 1 = omega arith in
      let here1 = subst (λ n. IsAt cs (at n) r1) there c.here in
      let t = with_memory r (at_offset g (at (k + 1 + 1 + 1))) r.cells in
      let ax = exit_is k r in
      let high : g.ax / 256 ≡ 76 = omega arith in
      let low : g.ax % 256 ≡ v % 256 = omega arith in
      let other : g.ax / 256 ≡ 64 → ⊥ = λ z. absurd (omega arith) in
      let done = dos_leads p framed cs code at (k + 1 + 1) r1 (exit_call t) pl here1 s.1.1.0.0 s.1.1.0.1 (λ one ah i less. absurd (other ah)) (exits r1 t high) refl in
      record {
        end = exit_call t;
        leads = leads_on p framed 2 1 r r1 (exit_call t) c.leads done;
        ended = ap (λ n. Ended n) low;
        err = refl;
        out = refl;
        input = refl;
        taken = refl;
      }
