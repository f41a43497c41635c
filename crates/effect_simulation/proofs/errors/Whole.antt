-- The error routine, from its first line to the end of the run.
use Rattle.std.proofs.Common.{◌≡◌, ℕ, ◌+◌, ◌*◌, ◌<◌, ◌≤◌, List, [], ◌∷◌, ◌++◌, length, Some, Ok, arith, refl, sym, ap, subst, ◌∙◌, append_assoc}
use Rattle.std.specs.Prelude.{drop, IsTrue}
use Rattle.std.specs.Fmt.{decimal}
use Rattle.flat_code.specs.declared.memory.Place.{Place}
use Rattle.cpu_8086.specs.declared.registers.Registers.{Registers}
use Rattle.cpu_8086.specs.Access.{at_offset}
use Rattle.cpu_8086.specs.Memory.{address}
use Rattle.resident_machine.specs.Cells.{Known, Cells, is_free, known_bytes}
use Rattle.resident_machine.specs.Effect.{with_memory}
use Rattle.resident_machine.specs.Program.{Image}
use Rattle.resident_machine.specs.State.{ResidentState}
use Rattle.resident_machine.specs.machine_lines.Steps.{IsAbove}
use Rattle.resident_machine.specs.machine_lines.Straight.{MayWrite, IsAt}
use Rattle.resident_machine.proofs.machine_lines.Steps.{leads_on}
use Rattle.resident_machine.proofs.machine_lines.Words.{address_above}
use Rattle.flat_code.specs.Calls.{State}
use Rattle.statement_simulation.specs.flow.Sites.{World, Site, Live, Fits}
use Rattle.statement_simulation.specs.flow.Outcomes.{budget, Errs, EndsErrors}
use Rattle.effect_simulation.specs.errors.Routine.{error_start, error_bytes, HasErrorRoutine}
use Rattle.effect_simulation.proofs.errors.Spelled.{Spells, spelled_known, fixed_spelled, fixed_at, spelled_front, spelled_back}
use Rattle.effect_simulation.proofs.errors.Digits.{digits_before, decimal_before}
use Rattle.effect_simulation.proofs.errors.Turns.{Text, LoopStands, digits_run}
use Rattle.effect_simulation.proofs.errors.Texts.{Finds, finds_still, to_digits_run, start_told, digits_told, end_run}

-- the events of the parts
events : (a b given last : ℕ) → a ≤ 2 → b ≤ 8 * 5 → 60 ≤ last → a + (b + (5 + (5 + 3))) + given ≤ given + last
events a b given last few fewer enough = omega (arith, few, fewer, enough)

module _ (w : World) (site : Site) (live : Live) (to : Place) (fits : Fits w site live) (has : HasErrorRoutine w live to) where
  abbrev ds : ℕ
  ds = w.choice.data_segment

  abbrev text : ℕ
  text = has.text

  -- a byte of the text may be written, and is none of the 64 below SP
  text_may : (c : Cells) (i : ℕ) → ((place byte : ℕ) → live.fixed place ≡ Some byte → c place ≡ Known byte) → i < 21 → MayWrite c w.machine.installed (address ds (text + i))
  text_may c i known less =
      let f = fixed_at live ds text i error_bytes less has.bytes in
      record { free = subst (λ x. IsTrue (is_free x)) (sym (known (address ds (text + i)) f.0 f.1)) refl; apart = fits.apart (address ds (text + i)) f.0 f.1 }

  text_above : (code i : ℕ) (s : State) (r : ResidentState) → Errs w live to code s r → i < 21 → IsAbove r.registers.ss r.registers.sp (address ds (text + i))
  text_above code i s r e less =
      let f = fixed_at live ds text i error_bytes less has.bytes in
      let top = e.top in
      let lower = e.lower in
      let ss = e.ss in
      address_above r.registers.ss r.registers.sp (address ds (text + i)) e.room (omega arith) e.inside (λ low. let z = fits.above (address ds (text + i)) f.0 f.1 (omega arith) in omega arith)

  -- bytes that stand inside the text are found by a call of DOS
  text_finds : (code i : ℕ) (s : State) (r : ResidentState) (g : Registers) (c : Cells) (offset : ℕ) (bytes : List ℕ) → Errs w live to code s r → g.ss ≡ r.registers.ss → g.sp ≡ r.registers.sp → g.ds ≡ r.registers.ds → offset ≡ text + i → i + length bytes ≤ 21 → Spells c ds offset bytes → Finds w.machine w.framed (Image to.segment) has.code has.at has.labels has.placed g c offset bytes
  text_finds code i s r g c offset bytes e ss sp ds_is place small spelled =
      let inside = has.inside in
      let at_ds : ds ≡ g.ds = sym e.ds ∙ sym ds_is in
      record {
        known = subst (λ z. known_bytes c z offset (length bytes) ≡ Ok bytes) at_ds (spelled_known c ds offset bytes (omega arith) spelled);
        above = λ j less.
            let a = text_above code (i + j) s r e (omega arith) in
            let b = subst (λ o. IsAbove r.registers.ss r.registers.sp (address ds o)) {x = text + (i + j)} {y = offset + j} (omega arith) a in
            subst (λ z. IsAbove g.ss g.sp (address z (offset + j))) at_ds (subst (λ z. IsAbove g.ss z (address ds (offset + j))) (sym sp) (subst (λ z. IsAbove z r.registers.sp (address ds (offset + j))) (sym ss) b));
        fits = omega arith;
      }

  pub ends : EndsErrors w live to
  ends code s r small e =
      let p = w.machine in
      let cs = Image to.segment in
      let g = r.registers in
      let inside = has.inside in
      let stands = has.stands in
      let here : IsAt cs (has.at 0) r = record { running = e.running; half = e.half; segment = e.segment; offset = e.offset ∙ sym has.begins } in
      let spelled = fixed_spelled live r.cells ds text error_bytes e.fixed has.bytes in
      let m0 = to_digits_run p w.framed cs has.code has.at has.labels has.placed 0 text r here (stands.0, (stands.1.0, tt)) in
      let g1 = record (at_offset g (has.at 2)) { si = g.ax; di = text + 19 } in
      let r1 = with_memory r g1 r.cells in
      let s2 = stands.1.1 in
      let loop : LoopStands p w.framed cs has.code has.at has.labels has.placed 2 = record {
        label = s2.0;
        before = (s2.1.0, (s2.1.1.0, (s2.1.1.1.0, tt)));
        division = (s2.1.1.1.1.0, tt);
        behind = (s2.1.1.1.1.1.0, (s2.1.1.1.1.1.1.0, (s2.1.1.1.1.1.1.1.0, tt)));
        jump = (s2.1.1.1.1.1.1.1.1.0, tt);
      } in
      let behind = spelled_back r.cells ds text (error_start ++ 48 ∷ 48 ∷ 48 ∷ 48 ∷ 48 ∷ []) (13 ∷ 10 ∷ []) spelled in
      let text1 : Text p.installed ds text (text + 19) 5 (13 ∷ 10 ∷ []) r.cells = record {
        place = omega arith;
        size = refl;
        start = spelled_front r.cells ds text error_start (48 ∷ 48 ∷ 48 ∷ 48 ∷ 48 ∷ 13 ∷ 10 ∷ []) spelled;
        digits = behind;
        may = λ i less. text_may r.cells i e.fixed less;
      } in
      let d = digits_run p w.framed cs has.code has.at has.labels has.placed 64 4 2 ds text code (13 ∷ 10 ∷ []) r1 (omega arith) (omega arith) loop m0.here e.ax small e.ds inside text1 in
      let r2 = with_memory r d.registers d.cells in
      let finds1 = text_finds code 0 s r d.registers d.cells text error_start e d.stays.ss d.stays.sp d.stays.ds (omega arith) (omega arith) d.text_is.start in
      let t1 = start_told p w.framed cs has.code has.at has.labels has.placed 11 text r2 error_start refl finds1 d.moved.here (s2.1.1.1.1.1.1.1.1.1.0, (s2.1.1.1.1.1.1.1.1.1.1.0, (s2.1.1.1.1.1.1.1.1.1.1.1.0, (s2.1.1.1.1.1.1.1.1.1.1.1.1.0, (s2.1.1.1.1.1.1.1.1.1.1.1.1.1.0, tt))))) in
      let s16 = s2.1.1.1.1.1.1.1.1.1.1.1.1.1.1 in
      let xs = digits_before 64 code (13 ∷ 10 ∷ []) in
      let place = d.text_is.place in
      let size = d.text_is.size in
      let finds2 = text_finds code (14 + d.left) s r d.registers d.cells d.registers.di xs e d.stays.ss d.stays.sp d.stays.ds (omega arith) (omega arith) d.text_is.digits in
      let finds3 = finds_still p w.framed cs has.code has.at has.labels has.placed d.registers t1.end.registers d.cells d.registers.di xs t1.stays finds2 in
      let finds4 = subst (λ o. Finds p w.framed cs has.code has.at has.labels has.placed t1.end.registers d.cells o xs) (sym t1.di) finds3 in
      let finds5 = subst (λ c. Finds p w.framed cs has.code has.at has.labels has.placed t1.end.registers c t1.end.registers.di xs) (sym t1.cells) finds4 in
      let di1 = t1.di in
      let t2 = digits_told p w.framed cs has.code has.at has.labels has.placed 16 text t1.end xs t1.bx (omega arith) inside finds5 t1.here (s16.0, (s16.1.0, (s16.1.1.0, (s16.1.1.1.0, (s16.1.1.1.1.0, tt))))) in
      let s21 = s16.1.1.1.1.1 in
      let x = end_run p w.framed cs has.code has.at has.labels has.placed 21 code t2.end (t2.stays.si ∙ t1.stays.si ∙ d.stays.si ∙ e.ax) t2.here (s21.0, (s21.1.0, (s21.1.1.0, tt))) in
      let input = x.input ∙ t2.input ∙ t1.input in
      let taken = x.taken ∙ t2.taken ∙ t1.taken in
      let said = x.err ∙ t2.err ∙ ap (λ l. l ++ xs) t1.err ∙ append_assoc r.err error_start xs ∙ ap (λ l. r.err ++ (error_start ++ l)) (decimal_before code (13 ∷ 10 ∷ [])) ∙ ap (λ l. l ++ (error_start ++ (decimal code ++ (13 ∷ 10 ∷ [])))) e.err in
      let read1 = subst (λ l. r.taken ≤ length l) (sym input) e.read in
      record {
        count = m0.count + (d.moved.count + (5 + (5 + 3)));
        end = x.end;
        leads = leads_on p w.framed m0.count (d.moved.count + (5 + (5 + 3))) r r1 x.end m0.leads
            (leads_on p w.framed d.moved.count (5 + (5 + 3)) r1 r2 x.end d.moved.leads
            (leads_on p w.framed 5 (5 + 3) r2 t1.end x.end t1.leads (leads_on p w.framed 5 3 t1.end t2.end x.end t2.leads x.leads)));
        so = x.ended;
        work = events m0.count d.moved.count (budget w s.work) w.last m0.few d.moved.few has.enough;
        unread = ap (λ n. drop n x.end.input) taken ∙ ap (λ l. drop r.taken l) input ∙ e.unread;
        read = subst (λ n. n ≤ length x.end.input) (sym taken) read1;
        out = x.out ∙ t2.out ∙ t1.out ∙ e.out;
        err = said;
        input = input;
      }
