-- A byte is read, or the end of the input: the code of the act, and the state behind it.
use Rattle.std.proofs.Common.{◌≡◌, ◌≢◌, ℕ, suc, ◌+◌, ◌-◌, ◌*◌, ◌/◌, ◌%◌, ◌<◌, ◌≤◌, ◌==◌, Bool, true, false, List, [], ◌∷◌, length, arith, refl, sym, ap, subst, ◌∙◌}
use Rattle.std.specs.Prelude.{IsTrue, if◌then◌else◌, drop, take}
use Rattle.x86_table.specs.declared.instr.Instr.TheVariants as instr
use Rattle.x86_table.specs.declared.operand.DataSeg.TheVariants as data_seg
use Rattle.x86_table.specs.declared.operand.WordReg.TheVariants as word
use Rattle.x86_table.specs.Standing.{IsSpelledAt, Stands}
use Rattle.flat_code.specs.declared.memory.Cell.{Cell}
use Rattle.flat_code.specs.Calls.{State}
use Rattle.cpu_8086.specs.declared.registers.Registers.{Registers}
use Rattle.cpu_8086.specs.Access.{at_offset}
use Rattle.cpu_8086.specs.Memory.{address, next_offset}
use Rattle.resident_machine.specs.Cells.{Known, Cells, with_cell, is_free}
use Rattle.resident_machine.specs.Dos.{plainly, given, dos_call}
use Rattle.resident_machine.specs.Effect.{with_memory}
use Rattle.resident_machine.specs.State.{ResidentState}
use Rattle.resident_machine.specs.machine_lines.Steps.{Leads}
use Rattle.resident_machine.specs.machine_lines.Straight.{StaysFree, ones, IsAt}
use Rattle.resident_machine.specs.machine_lines.Words.{HoldsWord, stored}
use Rattle.resident_machine.proofs.machine_lines.Steps.{leads_on}
use Rattle.resident_machine.proofs.machine_lines.Words.{addresses_differ, same_cell, other_cell}
use Rattle.code_templates.specs.code_lines.Lines.{read_code, taken}
use Rattle.statement_simulation.specs.expressions.Active.{Active, IsKept, Keeps}
use Rattle.statement_simulation.proofs.expressions.Stack.{pushed_at, registers_pushed, push_carries, push_holds, push_lowers}
use Rattle.statement_simulation.proofs.expressions.States.{active_keeps, active_lower, keeps_same, keeps_on}
use Rattle.statement_simulation.specs.flow.Sites.{World, Site, Live, Fits, AreBytes, Represents}
use Rattle.statement_simulation.specs.flow.Outcomes.{budget, Arrives}
use Rattle.statement_simulation.proofs.flow.States.{represents_keeps, represents_like}
use Rattle.effect_simulation.proofs.copies.Segments.{registers_waiting, registers_back, pushed_holds, pushed_other, data_waits, data_back}
use Rattle.effect_simulation.specs.effects.Pushed.{Pushes}
use Rattle.effect_simulation.proofs.effects.Dos.{dos_leads, reads}
use Rattle.effect_simulation.proofs.effects.Pops.{registers_popped, pops}
use Rattle.effect_simulation.proofs.effects.Inputs.{zeroes, tops, stack_datas, asks_read, taken_more, handed, hands, byte_words, end_words}

written_free : (c : Cells) (a b place : ℕ) → IsTrue (is_free (c place)) → IsTrue (is_free (with_cell c a (Known b) place))
written_free c a b place h = by (place == a)
  where
    by : (t : Bool) → IsTrue (is_free (if t then Known b else c place))
    by true = refl
    by false = h

-- it is no write
not_written : ◌≡◌ {A = ℕ} 63 64 → ⊥
not_written e = absurd (omega (arith, e))

module _ (w : World) (site : Site) (live : Live) (fits : Fits w site live) where
  abbrev At : ℕ → ResidentState → Type 0
  At k r = IsAt site.segment (site.at k) r

  -- ## Up to the call: a word of the stack is 0, and DX leads to it

  abbrev g1 : ℕ → Registers → Registers
  g1 k g = record (at_offset g (site.at (k + 1))) { ax = 0 }

  abbrev g2 : ℕ → Registers → Registers
  g2 k g = registers_pushed (g1 k g) (site.at (k + 1 + 1))

  abbrev g3 : ℕ → Registers → Registers
  g3 k g = record (at_offset (g2 k g) (site.at (k + 1 + 1 + 1))) { dx = (g2 k g).sp }

  abbrev g4 : ℕ → Registers → Registers
  g4 k g = registers_waiting (g3 k g) (site.at (k + 1 + 1 + 1 + 1))

  abbrev g5 : ℕ → Registers → Registers
  g5 k g = record (at_offset (g4 k g) (site.at (k + 1 + 1 + 1 + 1 + 1 + 1))) { ds = g.ss }

  abbrev g6 : ℕ → Registers → Registers
  g6 k g = record (at_offset (g5 k g) (site.at (k + 1 + 1 + 1 + 1 + 1 + 1 + 1 + 1 + 1))) { bx = 0; cx = 1; ax = 256 * 63 + (g5 k g).ax % 256 }

  abbrev c2 : Registers → Cells → Cells
  c2 g c = stored c g.ss (pushed_at g) 0

  abbrev c4 : ℕ → Registers → Cells → Cells
  c4 k g c = stored (c2 g c) g.ss (pushed_at (g3 k g)) g.ds

  abbrev c5 : ℕ → Registers → Cells → Cells
  c5 k g c = stored (c4 k g c) g.ss (pushed_at (g4 k g)) g.ss

  record Asked (k : ℕ) (r : ResidentState) : Type 0 where
    leads : Leads w.machine w.framed 9 r (with_memory r (g6 k r.registers) (c5 k r.registers r.cells))
    here : At (k + 1 + 1 + 1 + 1 + 1 + 1 + 1 + 1 + 1) (with_memory r (g6 k r.registers) (c5 k r.registers r.cells))
    bytes : (place : ℕ) → IsKept r.registers place → c5 k r.registers r.cells place ≡ r.cells place
    free : StaysFree r.cells (c5 k r.registers r.cells)
    word : HoldsWord (c5 k r.registers r.cells) r.registers.ss (pushed_at r.registers) 0
    waiting : HoldsWord (c5 k r.registers r.cells) r.registers.ss (pushed_at (g3 k r.registers)) r.registers.ds

  asks : (k : ℕ) (m : ℕ → Cell) (r : ResidentState) → Active w.machine.installed w.choice live.frame m r.registers r.cells → 70 ≤ r.registers.sp → At k r → Stands (IsSpelledAt site.code) site.at site.labels k (ones read_code) → Asked k r
  asks k m r a room here s =
      let p = w.machine in
      let f = w.framed in
      let cs = site.segment in
      let code = site.code in
      let at = site.at in
      let labels = site.labels in
      let pl = fits.placed in
      let g = r.registers in
      let c = r.cells in
      let top = a.top in
      let inside = a.inside in
      let b1 = zeroes p f cs code at labels pl k r here (s.0, tt) in
      let r1 = with_memory r (g1 k g) c in
      let a1 = active_keeps p.installed w.choice live.frame m g (g1 k g) c c a (keeps_same g (g1 k g) c refl refl refl refl refl) in
      let b2 = push_carries p f cs code at labels pl w.choice live.frame m r1 a1 (omega arith) (k + 1) b1.here (s.1.0, tt) in
      let l2 = push_lowers p f cs code at labels pl w.choice live.frame m r1 a1 (omega arith) (k + 1) b2 in
      let r2 = with_memory r (g2 k g) (c2 g c) in
      let sp2 : pushed_at g ≡ g.sp - 2 = omega arith in
      let a2 = active_lower p.installed w.choice live.frame m (g1 k g) (g2 k g) c (c2 g c) a1 (omega arith) refl refl refl l2.bytes l2.free in
      let b3 = tops p f cs code at labels pl (k + 1 + 1) r2 b2.here (s.1.1.0, tt) in
      let r3 = with_memory r (g3 k g) (c2 g c) in
      let a3 = active_keeps p.installed w.choice live.frame m (g2 k g) (g3 k g) (c2 g c) (c2 g c) a2 (keeps_same (g2 k g) (g3 k g) (c2 g c) refl refl refl refl refl) in
      let room3 : 66 ≤ (g3 k g).sp = omega arith in
      let b4 = data_waits p f cs code at labels pl w.choice live.frame m r3 a3 room3 (k + 1 + 1 + 1) b3.here (s.1.1.1.0, tt) in
      let o4 = pushed_other p f cs code at labels pl w.choice live.frame m r3 a3 room3 g.ds in
      let r4 = with_memory r (g4 k g) (c4 k g c) in
      let sp4 : pushed_at (g3 k g) ≡ g.sp - 4 = omega arith in
      let a4 = active_lower p.installed w.choice live.frame m (g3 k g) (g4 k g) (c2 g c) (c4 k g c) a3 (omega arith) refl refl refl o4 b4.free in
      let room4 : 66 ≤ (g4 k g).sp = omega arith in
      let b5 = stack_datas p f cs code at labels pl w.choice live.frame m (k + 1 + 1 + 1 + 1) r4 a4 room4 b4.here (s.1.1.1.1.0, (s.1.1.1.1.1.0, tt)) in
      let o5 = pushed_other p f cs code at labels pl w.choice live.frame m r4 a4 room4 g.ss in
      let r5 = with_memory r (g5 k g) (c5 k g c) in
      let two : k + 1 + 1 + 1 + 1 + 2 ≡ k + 1 + 1 + 1 + 1 + 1 + 1 = omega arith in
      let here5 = subst (λ n. At n r5) two b5.here in
      let b6 = asks_read p f cs code at labels pl (k + 1 + 1 + 1 + 1 + 1 + 1) r5 here5 (s.1.1.1.1.1.1.0, (s.1.1.1.1.1.1.1.0, (s.1.1.1.1.1.1.1.1.0, tt))) in
      let r6 = with_memory r (g6 k g) (c5 k g c) in
      let three : k + 1 + 1 + 1 + 1 + 1 + 1 + 3 ≡ k + 1 + 1 + 1 + 1 + 1 + 1 + 1 + 1 + 1 = omega arith in
      let h2 = push_holds p f cs code at labels pl w.choice live.frame m r1 a1 (omega arith) in
      let h4 = pushed_holds p f cs code at labels pl w.choice live.frame m r3 a3 room3 g.ds in
      let low2 : IsKept (g3 k g) (address g.ss (pushed_at g)) = λ low. omega arith in
      let high2 : IsKept (g3 k g) (address g.ss (next_offset (pushed_at g))) = λ low. omega arith in
      let low2' : IsKept (g4 k g) (address g.ss (pushed_at g)) = λ low. omega arith in
      let high2' : IsKept (g4 k g) (address g.ss (next_offset (pushed_at g))) = λ low. omega arith in
      let low4 : IsKept (g4 k g) (address g.ss (pushed_at (g3 k g))) = λ low. omega arith in
      let high4 : IsKept (g4 k g) (address g.ss (next_offset (pushed_at (g3 k g)))) = λ low. omega arith in
      record {
        leads = leads_on p f 1 8 r r1 r6 b1.leads (leads_on p f 1 7 r1 r2 r6 b2.leads (leads_on p f 1 6 r2 r3 r6 b3.leads (leads_on p f 1 5 r3 r4 r6 b4.leads (leads_on p f 2 3 r4 r5 r6 b5.leads b6.leads))));
        here = subst (λ n. At n r6) three b6.here;
        bytes = λ place kept. o5 place (λ low. let z = kept low in omega arith) ∙ o4 place (λ low. let z = kept low in omega arith) ∙ l2.bytes place kept;
        free = λ place h. b5.free place (b4.free place (l2.free place h));
        word = record {
          low = o5 (address g.ss (pushed_at g)) low2' ∙ o4 (address g.ss (pushed_at g)) low2 ∙ h2.low;
          high = o5 (address g.ss (next_offset (pushed_at g))) high2' ∙ o4 (address g.ss (next_offset (pushed_at g))) high2 ∙ h2.high;
        };
        waiting = record {
          low = o5 (address g.ss (pushed_at (g3 k g))) low4 ∙ h4.low;
          high = o5 (address g.ss (next_offset (pushed_at (g3 k g)))) high4 ∙ h4.high;
        };
      }

  -- ## From the call on: DS comes back, CX is the word of the stack

  abbrev back : ℕ → ℕ → ℕ → Registers → Registers
  back k v ds g = registers_popped (registers_back g (site.at (k + 1 + 1 + 1 + 1 + 1 + 1 + 1 + 1 + 1 + 1 + 1)) ds) (site.at (k + 1 + 1 + 1 + 1 + 1 + 1 + 1 + 1 + 1 + 1 + 1 + 1)) word.Cx v

  record Back (k v ds : ℕ) (u : ResidentState) : Type 0 where
    leads : Leads w.machine w.framed 2 u (with_memory u (back k v ds u.registers) u.cells)
    here : At (k + 1 + 1 + 1 + 1 + 1 + 1 + 1 + 1 + 1 + 1 + 1 + 1) (with_memory u (back k v ds u.registers) u.cells)

  comes_back : (k v ds : ℕ) (u : ResidentState) → HoldsWord u.cells u.registers.ss u.registers.sp ds → HoldsWord u.cells u.registers.ss (u.registers.sp + 2) v → 64 ≤ u.registers.sp → u.registers.sp + 4 < 65536 → At (k + 1 + 1 + 1 + 1 + 1 + 1 + 1 + 1 + 1 + 1) u → Stands (IsSpelledAt site.code) site.at site.labels (k + 1 + 1 + 1 + 1 + 1 + 1 + 1 + 1 + 1 + 1) (ones (instr.PopSeg data_seg.Ds ∷ instr.Pop word.Cx ∷ [])) → Back k v ds u
  comes_back k v ds u first second room top here s =
      let j = k + 1 + 1 + 1 + 1 + 1 + 1 + 1 + 1 + 1 + 1 in
      let b1 = data_back w.machine w.framed site.segment site.code site.at site.labels fits.placed j ds u first room (omega arith) here (s.0, tt) in
      let h = registers_back u.registers (site.at (j + 1)) ds in
      let same : u.registers.sp + 2 ≡ h.sp = omega arith in
      let waits = subst (λ o. HoldsWord u.cells u.registers.ss o v) same second in
      let b2 = pops w.machine w.framed site.segment site.code site.at site.labels fits.placed (j + 1) v word.Cx (with_memory u h u.cells) waits (omega arith) (omega arith) b1.here (s.1.0, tt) in
      record {
        leads = leads_on w.machine w.framed 1 1 u (with_memory u h u.cells) (with_memory u (back k v ds u.registers) u.cells) b1.leads b2.leads;
        here = b2.here;
      }

  -- a word below SP is not the installed flag
  flag_apart : (g : Registers) (c : Cells) (s : State) → Active w.machine.installed w.choice live.frame s.cells g c → 66 ≤ g.sp → w.machine.installed ≢ address g.ss (pushed_at g)
  flag_apart g c s a room e =
      let top = a.top in
      let inside = a.inside in
      (a.spare (g.sp - 2) (omega arith)).apart (omega arith)

  -- ## The byte, or the end of the input

  -- the machine stands for the state behind, with the word in AX
  pub record Got (ip : ℕ) (s : State) (r : ResidentState) (u : State) (spare v : ℕ) : Type 0 where
    pub arrives : Arrives w site live ip s r u
    pub ax : arrives.end.registers.ax ≡ v
    pub dx : arrives.end.registers.dx < 65536
    pub paid : arrives.count + spare + budget w s.work ≤ budget w u.work

  -- what stands for a state after bytes were taken
  represents_taken : (t : ResidentState) (s : State) (taken : ℕ) (rest : List ℕ) → Represents w live s t → drop taken t.input ≡ rest → taken ≤ length t.input → AreBytes rest → Represents w live (record s { input = rest }) (record t { taken = taken })
  represents_taken t s taken rest a unread read bytes = record { active = a.active; sp = a.sp; direction = a.direction; flag = a.flag; set = a.set; outside = a.outside; fixed = a.fixed; records = a.records; unread = unread; bytes = bytes; read = read; out = a.out; err = a.err }

  pub got_end : (n k m spare left : ℕ) (s : State) (r : ResidentState) → Represents w live s r → s.turns ≡ suc left → s.input ≡ [] → 70 ≤ r.registers.sp → (b : Pushes w.machine w.framed site.segment n (site.at k) r []) → n + 14 + spare + budget w s.work ≤ budget w (s.work + m) → Stands (IsSpelledAt site.code) site.at site.labels k (ones read_code) → Got (site.at (k + 14)) s r (record s { turns = left; work = s.work + m }) spare 65535
  got_end n k m spare left s r a turns none room b paid s0 =
      let p = w.machine in
      let g = b.registers in
      let c = b.cells in
      let sp0 = b.sp in
      let k0 : Keeps r.registers r.cells g c = record { sp = omega arith; bp = b.bp; ss = b.ss; ds = b.ds; direction = b.direction; bytes = b.bytes; free = b.free } in
      let r0 = with_memory r g c in
      let a0 = active_keeps p.installed w.choice live.frame s.cells r.registers g r.cells c a.active k0 in
      let spk = k0.sp in
      let q = asks k s.cells r0 a0 (omega arith) b.here s0 in
      let top = a0.top in
      let r6 = with_memory r (g6 k g) (c5 k g c) in
      let t = with_memory r (at_offset (g6 k g) (site.at (k + 1 + 1 + 1 + 1 + 1 + 1 + 1 + 1 + 1 + 1))) (c5 k g c) in
      let u = handed t [] in
      let high : (256 * 63 + 0 % 256) / 256 ≡ 63 = refl in
      let other : (256 * 63 + 0 % 256) / 256 ≡ 64 → ⊥ = λ e. not_written e in
      let which : dos_call r6 t ≡ given t (take 1 (drop r.taken r.input)) = reads r6 t high in
      let call : dos_call r6 t ≡ plainly u = which ∙ ap (λ xs. given t (take 1 xs)) (a.unread ∙ none) ∙ hands t 0 [] q.word.low in
      let after = s0.1.1.1.1.1.1.1.1.1 in
      let done = dos_leads p w.framed site.segment site.code site.at (k + 1 + 1 + 1 + 1 + 1 + 1 + 1 + 1 + 1) r6 u fits.placed q.here after.0.0 after.0.1 (λ one ah i less. absurd (other ah)) call refl in
      let here7 : At (k + 1 + 1 + 1 + 1 + 1 + 1 + 1 + 1 + 1 + 1) u = record { running = q.here.running; half = q.here.half; segment = q.here.segment; offset = refl } in
      let deep : (pushed_at (g3 k g)) + 2 ≡ pushed_at g = omega arith in
      let waits = subst (λ o. HoldsWord (c5 k g c) g.ss o 0) (sym deep) q.word in
      let returns = comes_back k 0 g.ds u q.waiting waits (omega arith) (omega arith) here7 (after.1.0, (after.1.1.0, tt)) in
      let g8 = back k 0 g.ds u.registers in
      let r8 = with_memory u g8 u.cells in
      let worded = end_words p w.framed site.segment site.code site.at site.labels fits.placed (k + 1 + 1 + 1 + 1 + 1 + 1 + 1 + 1 + 1 + 1 + 1 + 1) r8 refl refl returns.here after.1.1.1 in
      let h = worded.registers in
      let end = with_memory u h u.cells in
      let k1 : Keeps g c h (c5 k g c) = record {
        sp = worded.sp ∙ (omega arith);
        bp = worded.bp;
        ss = worded.ss;
        ds = worded.ds;
        direction = worded.direction;
        bytes = q.bytes;
        free = q.free;
      } in
      let k2 = keeps_on r.registers g h r.cells c (c5 k g c) k0 k1 in
      let stood = represents_like w live s left (s.work + m) (with_memory r h (c5 k g c)) (represents_keeps w site live fits s r h (c5 k g c) a k2) in
      let zero_more : r.taken + 0 ≡ r.taken = omega arith in
      let read = a.read in
      let stands = represents_taken (with_memory r h (c5 k g c)) (record s { turns = left; work = s.work + m }) (r.taken + 0) s.input stood (ap (λ i. drop i r.input) zero_more ∙ a.unread) (omega arith) a.bytes in
      let last : k + 1 + 1 + 1 + 1 + 1 + 1 + 1 + 1 + 1 + 1 + 1 + 1 + 2 ≡ k + 14 = omega arith in
      let few = b.few in
      let lower = worded.dx in
      record {
        arrives = record {
          count = b.count + (9 + (1 + (2 + 2)));
          end = end;
          leads = leads_on p w.framed b.count (9 + (1 + (2 + 2))) r r0 end b.leads (leads_on p w.framed 9 (1 + (2 + 2)) r0 r6 end q.leads (leads_on p w.framed 1 (2 + 2) r6 u end done (leads_on p w.framed 2 2 u r8 end returns.leads worded.carried.leads)));
          here = subst (λ i. At i end) last worded.carried.here;
          stands = stands;
          enough = omega arith;
          fewer = omega arith;
          work = omega arith;
          free = k2.free;
          input = refl;
        };
        ax = worded.ax;
        dx = omega arith;
        paid = omega arith;
      }

  pub got_byte : (n k m spare left byte : ℕ) (rest : List ℕ) (s : State) (r : ResidentState) → Represents w live s r → s.turns ≡ suc left → s.input ≡ byte ∷ rest → 70 ≤ r.registers.sp → (b : Pushes w.machine w.framed site.segment n (site.at k) r []) → n + 14 + spare + budget w s.work ≤ budget w (s.work + m) → Stands (IsSpelledAt site.code) site.at site.labels k (ones read_code) → Got (site.at (k + 14)) s r (record s { turns = left; work = s.work + m; input = rest }) spare byte
  got_byte n k m spare left byte rest s r a turns none room b paid s0 =
      let p = w.machine in
      let g = b.registers in
      let c = b.cells in
      let sp0 = b.sp in
      let k0 : Keeps r.registers r.cells g c = record { sp = omega arith; bp = b.bp; ss = b.ss; ds = b.ds; direction = b.direction; bytes = b.bytes; free = b.free } in
      let r0 = with_memory r g c in
      let a0 = active_keeps p.installed w.choice live.frame s.cells r.registers g r.cells c a.active k0 in
      let spk = k0.sp in
      let q = asks k s.cells r0 a0 (omega arith) b.here s0 in
      let top = a0.top in
      let r6 = with_memory r (g6 k g) (c5 k g c) in
      let t = with_memory r (at_offset (g6 k g) (site.at (k + 1 + 1 + 1 + 1 + 1 + 1 + 1 + 1 + 1 + 1))) (c5 k g c) in
      let u = handed t (byte ∷ rest) in
      let here_place = address g.ss (pushed_at g) in
      let small = subst AreBytes none a.bytes in
      let less = small.0 in
      let high : (256 * 63 + 0 % 256) / 256 ≡ 63 = refl in
      let other : (256 * 63 + 0 % 256) / 256 ≡ 64 → ⊥ = λ e. not_written e in
      let which : dos_call r6 t ≡ given t (take 1 (drop r.taken r.input)) = reads r6 t high in
      let call : dos_call r6 t ≡ plainly u = which ∙ ap (λ xs. given t (take 1 xs)) (a.unread ∙ none) ∙ hands t 0 (byte ∷ rest) q.word.low in
      let after = s0.1.1.1.1.1.1.1.1.1 in
      let done = dos_leads p w.framed site.segment site.code site.at (k + 1 + 1 + 1 + 1 + 1 + 1 + 1 + 1 + 1) r6 u fits.placed q.here after.0.0 after.0.1 (λ one ah i below. absurd (other ah)) call (other_cell (c5 k g c) here_place (Known byte) p.installed (flag_apart g c s a0 (omega arith))) in
      let here7 : At (k + 1 + 1 + 1 + 1 + 1 + 1 + 1 + 1 + 1 + 1) u = record { running = q.here.running; half = q.here.half; segment = q.here.segment; offset = refl } in
      let deep : (pushed_at (g3 k g)) + 2 ≡ pushed_at g = omega arith in
      let differ : address g.ss (next_offset (pushed_at g)) ≢ here_place = addresses_differ g.ss (next_offset (pushed_at g)) (pushed_at g) (omega arith) (omega arith) (omega arith) in
      let first : address g.ss (pushed_at (g3 k g)) ≢ here_place = addresses_differ g.ss (pushed_at (g3 k g)) (pushed_at g) (omega arith) (omega arith) (omega arith) in
      let second : address g.ss (next_offset (pushed_at (g3 k g))) ≢ here_place = addresses_differ g.ss (next_offset (pushed_at (g3 k g))) (pushed_at g) (omega arith) (omega arith) (omega arith) in
      let low_byte : byte ≡ byte % 256 = omega arith in
      let high_byte : 0 ≡ byte / 256 = omega arith in
      let came : HoldsWord u.cells g.ss (pushed_at g) byte = record {
        low = same_cell (c5 k g c) here_place (Known byte) ∙ ap (λ n. Known n) low_byte;
        high = other_cell (c5 k g c) here_place (Known byte) (address g.ss (next_offset (pushed_at g))) differ ∙ q.word.high ∙ ap (λ n. Known n) high_byte;
      } in
      let stays : HoldsWord u.cells g.ss (pushed_at (g3 k g)) g.ds = record {
        low = other_cell (c5 k g c) here_place (Known byte) (address g.ss (pushed_at (g3 k g))) first ∙ q.waiting.low;
        high = other_cell (c5 k g c) here_place (Known byte) (address g.ss (next_offset (pushed_at (g3 k g)))) second ∙ q.waiting.high;
      } in
      let waits = subst (λ o. HoldsWord u.cells g.ss o byte) (sym deep) came in
      let returns = comes_back k byte g.ds u stays waits (omega arith) (omega arith) here7 (after.1.0, (after.1.1.0, tt)) in
      let g8 = back k byte g.ds u.registers in
      let r8 = with_memory u g8 u.cells in
      let worded = byte_words p w.framed site.segment site.code site.at site.labels fits.placed (k + 1 + 1 + 1 + 1 + 1 + 1 + 1 + 1 + 1 + 1 + 1 + 1) byte r8 refl refl returns.here after.1.1.1 in
      let h = worded.registers in
      let end = with_memory u h u.cells in
      let inside = a0.inside in
      let k1 : Keeps g c h u.cells = record {
        sp = worded.sp ∙ (omega arith);
        bp = worded.bp;
        ss = worded.ss;
        ds = worded.ds;
        direction = worded.direction;
        bytes = λ place kept. other_cell (c5 k g c) here_place (Known byte) place (λ e. let z = kept (omega arith) in absurd (omega arith)) ∙ q.bytes place kept;
        free = λ place free. written_free (c5 k g c) here_place byte place (q.free place free);
      } in
      let k2 = keeps_on r.registers g h r.cells c u.cells k0 k1 in
      let stood = represents_like w live s left (s.work + m) (with_memory r h u.cells) (represents_keeps w site live fits s r h u.cells a k2) in
      let more = taken_more r.taken byte r.input rest (a.unread ∙ none) in
      let stands = represents_taken (with_memory r h u.cells) (record s { turns = left; work = s.work + m }) (r.taken + 1) rest stood more.0 more.1 small.1 in
      let last : k + 1 + 1 + 1 + 1 + 1 + 1 + 1 + 1 + 1 + 1 + 1 + 1 + 2 ≡ k + 14 = omega arith in
      let few = b.few in
      let lower = worded.dx in
      record {
        arrives = record {
          count = b.count + (9 + (1 + (2 + 2)));
          end = end;
          leads = leads_on p w.framed b.count (9 + (1 + (2 + 2))) r r0 end b.leads (leads_on p w.framed 9 (1 + (2 + 2)) r0 r6 end q.leads (leads_on p w.framed 1 (2 + 2) r6 u end done (leads_on p w.framed 2 2 u r8 end returns.leads worded.carried.leads)));
          here = subst (λ i. At i end) last worded.carried.here;
          stands = stands;
          enough = omega arith;
          fewer = omega arith;
          work = omega arith;
          free = k2.free;
          input = refl;
        };
        ax = worded.ax;
        dx = omega arith;
        paid = omega arith;
      }
