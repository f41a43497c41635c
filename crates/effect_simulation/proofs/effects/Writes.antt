-- The act that writes bytes: its code and what it means.
use Rattle.std.proofs.Common.{◌≡◌, ℕ, zero, suc, ◌+◌, ◌-◌, ◌*◌, ◌%◌, ◌<◌, ◌≤◌, ◌==◌, Bool, true, false, List, [], ◌∷◌, ◌++◌, length, Ok, Err, arith, refl, sym, ap, subst, ◌∙◌, length-append}
use Rattle.std.specs.Prelude.{IsTrue, if◌then◌else◌, None}
use Rattle.common_values.specs.behaviour.Seen.{Going, Undefined}
use Rattle.x86_table.specs.declared.instr.Instr.TheVariants as instr
use Rattle.x86_table.specs.declared.operand.DataSeg.TheVariants as data_seg
use Rattle.x86_table.specs.declared.operand.SegReg.TheVariants as seg
use Rattle.x86_table.specs.declared.operand.WordReg.TheVariants as word
use Rattle.x86_table.specs.Standing.{IsSpelledAt, Stands}
use Rattle.x86_table.proofs.Stand.{stands_front, stands_back}
use Rattle.flat_code.specs.declared.memory.Cell.{Cell}
use Rattle.flat_code.specs.declared.memory.Cell.TheVariants as flat
use Rattle.flat_code.specs.declared.memory.Place.{Place}
use Rattle.flat_code.specs.declared.memory.Trap.TheVariants.{ByZero, Bad}
use Rattle.flat_code.specs.Calls.{State, Next, with_found, spent, spend, begun, written, write_act}
use Rattle.flat_code.specs.Legal.{exprs_depth}
use Rattle.flat_code.specs.Meaning.{values_of, step_of, run}
use Rattle.flat_code.specs.Memory.{Found, ◌>>=◌, address_of, byte_in, bytes_at}
use Rattle.flat_code.specs.Tree.{Expr, exprs_size, Runtime}
use Rattle.cpu_8086.specs.declared.registers.Registers.{Registers}
use Rattle.cpu_8086.specs.Access.{at_offset}
use Rattle.resident_machine.specs.Cells.{Cells, is_free}
use Rattle.resident_machine.specs.Dos.{plainly, dos_call}
use Rattle.resident_machine.specs.Effect.{with_memory}
use Rattle.resident_machine.specs.State.{ResidentState}
use Rattle.resident_machine.specs.machine_lines.Steps.{Leads}
use Rattle.resident_machine.specs.machine_lines.Straight.{ones, IsAt, Carried}
use Rattle.resident_machine.specs.machine_lines.Words.{HoldsWord, stored}
use Rattle.resident_machine.proofs.machine_lines.Steps.{leads_on}
use Rattle.code_templates.specs.code_lines.Addresses.{Context}
use Rattle.code_templates.specs.code_lines.Expressions.{args_code}
use Rattle.code_templates.specs.code_lines.Lines.{Around, write_code}
use Rattle.statement_simulation.specs.expressions.Active.{Active, Keeps}
use Rattle.statement_simulation.proofs.expressions.Stack.{pushed_at}
use Rattle.statement_simulation.proofs.expressions.States.{active_keeps, keeps_on}
use Rattle.statement_simulation.specs.flow.Sites.{World, Site, Live, Fits, Represents}
use Rattle.statement_simulation.specs.flow.Outcomes.{budget, Arrives, Flows, EndsErrors}
use Rattle.statement_simulation.specs.flow.Lists.{StepFlows}
use Rattle.statement_simulation.proofs.flow.States.{budget_grows, budget_more, represents_keeps, represents_like}
use Rattle.statement_simulation.proofs.flow.Flows.{settles_here, error_flows}
use Rattle.statement_simulation.proofs.flow.Lists.{length-ones}
use Rattle.effect_simulation.proofs.copies.Segments.{registers_waiting, registers_back, pushed_holds, pushed_other, data_waits, data_back}
use Rattle.effect_simulation.specs.effects.Pushed.{AllHaveWords, Pushes, PushesAll}
use Rattle.effect_simulation.proofs.effects.Arguments.{args_run}
use Rattle.effect_simulation.proofs.effects.Dos.{said_by, dos_leads, writes, said, Says, bytes_said}
use Rattle.effect_simulation.proofs.effects.Pops.{registers_popped, pops, to_write, writing}

-- reading bytes divides nothing
bytes_no_division : (n i : ℕ) (m : ℕ → Cell) (q : Place) → bytes_at m q i n ≡ Err ByZero → ⊥
bytes_no_division zero i m q e = absurd (cc)
bytes_no_division (suc n) i m q e = by (bytes_no_division n (i + 1) m q) (m (address_of q i)) e
  where
    rest : (bytes_at m q (i + 1) n ≡ Err ByZero → ⊥) → (b : ℕ) (found : Found (List ℕ)) → bytes_at m q (i + 1) n ≡ found → (found >>= λ bs. Ok (b ∷ bs)) ≡ Err ByZero → ⊥
    rest again b (Ok bs) behind e = absurd (cc)
    rest again b (Err ByZero) behind e = again behind
    rest again b (Err (Bad cause)) behind e = absurd (cc)

    by : (bytes_at m q (i + 1) n ≡ Err ByZero → ⊥) → (x : Cell) → (byte_in x >>= λ b. bytes_at m q (i + 1) n >>= λ bs. Ok (b ∷ bs)) ≡ Err ByZero → ⊥
    by again (flat.Known b) e = rest again b (bytes_at m q (i + 1) n) refl e
    by again flat.Unset e = absurd (cc)
    by again flat.Outside e = absurd (cc)

-- a call of DOS that answers in AX and the carry, and may have written
pub record Told (t u : ResidentState) : Type 0 where
  pub sp : u.registers.sp ≡ t.registers.sp
  pub bp : u.registers.bp ≡ t.registers.bp
  pub ss : u.registers.ss ≡ t.registers.ss
  pub direction : u.registers.direction ≡ t.registers.direction
  pub ip : u.registers.ip ≡ t.registers.ip
  pub cells : u.cells ≡ t.cells
  pub cs : u.cs ≡ t.cs
  pub status : u.status ≡ t.status
  pub half : u.half ≡ t.half
  pub records : u.records ≡ t.records
  pub input : u.input ≡ t.input
  pub taken : u.taken ≡ t.taken

told : (a b : Bool) (t : ResidentState) (bytes : List ℕ) → Told t (said_by a b t bytes)
told true b t bytes = record { sp = refl; bp = refl; ss = refl; direction = refl; ip = refl; cells = refl; cs = refl; status = refl; half = refl; records = refl; input = refl; taken = refl }
told false true t bytes = record { sp = refl; bp = refl; ss = refl; direction = refl; ip = refl; cells = refl; cs = refl; status = refl; half = refl; records = refl; input = refl; taken = refl }
told false false t bytes = record { sp = refl; bp = refl; ss = refl; direction = refl; ip = refl; cells = refl; cs = refl; status = refl; half = refl; records = refl; input = refl; taken = refl }

module _ (w : World) (site : Site) (live : Live) (fits : Fits w site live) where
  abbrev x : Context
  x = site.context

  abbrev At : ℕ → ResidentState → Type 0
  At k r = IsAt site.segment (site.at k) r

  -- four words are popped: CX, DX, AX and BX hold them
  abbrev four : Registers → ℕ → ℕ → ℕ → ℕ → ℕ → Registers
  four g ip handle segment offset count = record (at_offset g ip) { cx = count; dx = offset; ax = segment; bx = handle; sp = g.sp + 2 + 2 + 2 + 2 }

  pops_four : (j handle segment offset count : ℕ) (r : ResidentState) → r.registers.sp + 8 < 65536 → 64 ≤ r.registers.sp → HoldsWord r.cells r.registers.ss r.registers.sp count → HoldsWord r.cells r.registers.ss (r.registers.sp + 2) offset → HoldsWord r.cells r.registers.ss (r.registers.sp + 2 + 2) segment → HoldsWord r.cells r.registers.ss (r.registers.sp + 2 + 2 + 2) handle → At j r → Stands (IsSpelledAt site.code) site.at site.labels j (ones write_code) → Carried w.machine w.framed site.segment 4 (site.at (j + 1 + 1 + 1 + 1)) r (four r.registers (site.at (j + 1 + 1 + 1 + 1)) handle segment offset count) r.cells
  pops_four j handle segment offset count r top room first second third fourth here s =
      let p = w.machine in
      let cs = site.segment in
      let g = r.registers in
      let c = r.cells in
      let a1 = pops p w.framed cs site.code site.at site.labels fits.placed j count word.Cx r first room (omega arith) here (s.0, tt) in
      let r1 = with_memory r (registers_popped g (site.at (j + 1)) word.Cx count) c in
      let a2 = pops p w.framed cs site.code site.at site.labels fits.placed (j + 1) offset word.Dx r1 second (omega arith) (omega arith) a1.here (s.1.0, tt) in
      let r2 = with_memory r (registers_popped r1.registers (site.at (j + 1 + 1)) word.Dx offset) c in
      let a3 = pops p w.framed cs site.code site.at site.labels fits.placed (j + 1 + 1) segment word.Ax r2 third (omega arith) (omega arith) a2.here (s.1.1.0, tt) in
      let r3 = with_memory r (registers_popped r2.registers (site.at (j + 1 + 1 + 1)) word.Ax segment) c in
      let a4 = pops p w.framed cs site.code site.at site.labels fits.placed (j + 1 + 1 + 1) handle word.Bx r3 fourth (omega arith) (omega arith) a3.here (s.1.1.1.0, tt) in
      let r4 = with_memory r (four g (site.at (j + 1 + 1 + 1 + 1)) handle segment offset count) c in
      record {
        leads = leads_on p w.framed 1 3 r r1 r4 a1.leads (leads_on p w.framed 1 2 r1 r2 r4 a2.leads (leads_on p w.framed 1 1 r2 r3 r4 a3.leads a4.leads));
        here = a4.here;
        ss = refl;
        flag = refl;
        free = λ place h. h;
      }

  -- the state as the call of DOS begins: DS is the segment of the bytes
  abbrev asking : Registers → ℕ → Registers
  asking g ip = record (at_offset g ip) { ds = g.ax; ax = 256 * 64 + g.ax % 256 }

  -- as it is behind the call
  abbrev asked : ℕ → ResidentState → ResidentState
  asked j r = with_memory r (at_offset (asking (registers_waiting r.registers (site.at (j + 1))) (site.at (j + 1 + 1 + 1))) (site.at (j + 1 + 1 + 1 + 1))) (stored r.cells r.registers.ss (pushed_at r.registers) r.registers.ds)

  -- what a write with this handle comes to
  abbrev told_by : ℕ → ℕ → ResidentState → List ℕ → ResidentState
  told_by handle j r bytes = said_by (handle == 1) (handle == 2) (asked j r) bytes

  -- from a state with the words in registers: the bytes are written, and DS comes back
  record Written (handle j : ℕ) (r : ResidentState) (bytes : List ℕ) : Type 0 where
    registers : Registers
    leads : Leads w.machine w.framed 5 r (with_memory (told_by handle j r bytes) registers (told_by handle j r bytes).cells)
    here : At (j + 1 + 1 + 1 + 1 + 1) (with_memory (told_by handle j r bytes) registers (told_by handle j r bytes).cells)
    keeps : Keeps r.registers r.cells registers (asked j r).cells

  writes_bytes : (j : ℕ) (m : ℕ → Cell) (r : ResidentState) (bytes : List ℕ) → Active w.machine.installed w.choice live.frame m r.registers r.cells → 66 ≤ r.registers.sp → r.registers.dx < 65536 → bytes_at m (record { segment = r.registers.ax; offset = r.registers.dx }) 0 r.registers.cx ≡ Ok bytes → At j r → Stands (IsSpelledAt site.code) site.at site.labels j (ones (instr.PushSeg seg.Ds ∷ (to_write ++ (instr.Int 0x21 ∷ instr.PopSeg data_seg.Ds ∷ [])))) → Written r.registers.bx j r bytes
  writes_bytes j m r bytes a room small e here s =
      let p = w.machine in
      let cs = site.segment in
      let g = r.registers in
      let q : Place = record { segment = g.ax; offset = g.dx } in
      let v = g.ds in
      let c1 = stored r.cells g.ss (pushed_at g) v in
      let top = a.top in
      let inside = a.inside in
      let b1 = data_waits p w.framed cs site.code site.at site.labels fits.placed w.choice live.frame m r a room j here (s.0, tt) in
      let g1 = registers_waiting g (site.at (j + 1)) in
      let r1 = with_memory r g1 c1 in
      let other = pushed_other p w.framed cs site.code site.at site.labels fits.placed w.choice live.frame m r a room v in
      let a1 = active_keeps p.installed w.choice live.frame m g g r.cells c1 a (record { sp = refl; bp = refl; ss = refl; ds = refl; direction = refl; bytes = other; free = b1.free }) in
      let b2 = writing p w.framed cs site.code site.at site.labels fits.placed (j + 1) r1 b1.here (s.1.0, (s.1.1.0, tt)) in
      let two : j + 1 + 2 ≡ j + 1 + 1 + 1 = omega arith in
      let g2 = asking g1 (site.at (j + 1 + 1 + 1)) in
      let r2 = with_memory r g2 c1 in
      let here2 = subst (λ n. At n r2) two b2.here in
      let t = asked j r in
      let u = told_by g.bx j r bytes in
      let tells = told (g.bx == 1) (g.bx == 2) t bytes in
      let low : (g.dx + 0) % 65536 ≡ g.dx = omega arith in
      let sp1 : pushed_at g ≡ g.sp - 2 = omega arith in
      let says = subst (λ o. Says g (pushed_at g) c1 g.ax o g.cx bytes) low (bytes_said p.installed w.choice live.frame m g c1 a1 (pushed_at g) (omega arith) (omega arith) q g.cx 0 bytes e) in
      let call : dos_call r2 t ≡ plainly u = writes r2 t (omega arith) ∙ said t bytes says.known in
      let flag : u.cells p.installed ≡ c1 p.installed = ap (λ (d : Cells). d p.installed) tells.cells in
      let b3 = dos_leads p w.framed cs site.code site.at (j + 1 + 1 + 1) r2 u fits.placed here2 s.1.1.1.0.0 s.1.1.1.0.1 (λ one two. says.above) call flag in
      let here3 : At (j + 1 + 1 + 1 + 1) u = record { running = tells.status ∙ here.running; half = tells.half ∙ here.half; segment = tells.cs ∙ here.segment; offset = tells.ip } in
      let holds = pushed_holds p w.framed cs site.code site.at site.labels fits.placed w.choice live.frame m r a room v in
      let waits0 = subst (λ d. HoldsWord d g.ss (pushed_at g) v) (sym tells.cells) holds in
      let waits1 = subst (λ n. HoldsWord u.cells n (pushed_at g) v) (sym tells.ss) waits0 in
      let waits = subst (λ n. HoldsWord u.cells u.registers.ss n v) (sym tells.sp) waits1 in
      let sp3 = tells.sp in
      let b4 = data_back p w.framed cs site.code site.at site.labels fits.placed (j + 1 + 1 + 1 + 1) v u waits (omega arith) (omega arith) here3 s.1.1.1.1 in
      let g4 = registers_back u.registers (site.at (j + 1 + 1 + 1 + 1 + 1)) v in
      let end = with_memory u g4 u.cells in
      record {
        registers = g4;
        leads = leads_on p w.framed 1 4 r r1 end b1.leads (leads_on p w.framed 2 2 r1 r2 end b2.leads (leads_on p w.framed 1 1 r2 u end b3 b4.leads));
        here = b4.here;
        keeps = record { sp = omega arith; bp = tells.bp; ss = tells.ss; ds = refl; direction = tells.direction; bytes = other; free = b1.free };
      }

  abbrev written_by : Bool → Bool → List ℕ → State → State
  written_by a b bytes s = if a then record s { out = s.out ++ bytes } else (if b then record s { err = s.err ++ bytes } else s)

  represents_written : (a b : Bool) (t : ResidentState) (bytes : List ℕ) (s : State) (g : Registers) → Represents w live s (with_memory t g t.cells) → Represents w live (written_by a b bytes s) (with_memory (said_by a b t bytes) g (said_by a b t bytes).cells)
  represents_written true b t bytes s g a = record { active = a.active; sp = a.sp; direction = a.direction; flag = a.flag; set = a.set; outside = a.outside; fixed = a.fixed; records = a.records; unread = a.unread; bytes = a.bytes; read = a.read; out = ap (λ o. o ++ bytes) a.out; err = a.err }
  represents_written false true t bytes s g a = record { active = a.active; sp = a.sp; direction = a.direction; flag = a.flag; set = a.set; outside = a.outside; fixed = a.fixed; records = a.records; unread = a.unread; bytes = a.bytes; read = a.read; out = a.out; err = ap (λ o. o ++ bytes) a.err }
  represents_written false false t bytes s g a = record { active = a.active; sp = a.sp; direction = a.direction; flag = a.flag; set = a.set; outside = a.outside; fixed = a.fixed; records = a.records; unread = a.unread; bytes = a.bytes; read = a.read; out = a.out; err = a.err }

  -- what a write leaves of a state of flat code
  record Beside (s u : State) : Type 0 where
    turns : u.turns ≡ s.turns
    work : u.work ≡ s.work

  written_beside : (a b : Bool) (bytes : List ℕ) (s : State) → Beside s (written_by a b bytes s)
  written_beside true b bytes s = record { turns = refl; work = refl }
  written_beside false true bytes s = record { turns = refl; work = refl }
  written_beside false false bytes s = record { turns = refl; work = refl }

  -- the words were pushed, and are written
  write_arrives : (n k m left handle segment offset count : ℕ) (s : State) (r : ResidentState) (bytes : List ℕ) → Represents w live s r → s.turns ≡ suc left → 66 ≤ r.registers.sp → 72 ≤ r.registers.sp → (b : Pushes w.machine w.framed site.segment n (site.at k) r (handle ∷ segment ∷ offset ∷ count ∷ [])) → bytes_at s.cells (record { segment = segment; offset = offset }) 0 count ≡ Ok bytes → n + 9 + budget w s.work ≤ budget w (s.work + m) → Stands (IsSpelledAt site.code) site.at site.labels k (ones write_code) → Arrives w site live (site.at (k + 9)) s r (written handle bytes (record s { turns = left; work = s.work + m }))
  write_arrives n k m left handle segment offset count s r bytes a turns room deep b e paid stands =
      let p = w.machine in
      let g0 = r.registers in
      let g1 = b.registers in
      let c1 = b.cells in
      let top = a.active.top in
      let sp1 = b.sp in
      let ss1 = b.ss in
      let ws = b.words in
      let o1 : g0.sp - 2 - 2 - 2 - 2 ≡ g1.sp = omega arith in
      let o2 : g0.sp - 2 - 2 - 2 ≡ g1.sp + 2 = omega arith in
      let o3 : g0.sp - 2 - 2 ≡ g1.sp + 2 + 2 = omega arith in
      let o4 : g0.sp - 2 ≡ g1.sp + 2 + 2 + 2 = omega arith in
      let w1 = subst (λ z. HoldsWord c1 z g1.sp count) (sym ss1) (subst (λ z. HoldsWord c1 g0.ss z count) o1 ws.2.2.2.0) in
      let w2 = subst (λ z. HoldsWord c1 z (g1.sp + 2) offset) (sym ss1) (subst (λ z. HoldsWord c1 g0.ss z offset) o2 ws.2.2.0) in
      let w3 = subst (λ z. HoldsWord c1 z (g1.sp + 2 + 2) segment) (sym ss1) (subst (λ z. HoldsWord c1 g0.ss z segment) o3 ws.2.0) in
      let w4 = subst (λ z. HoldsWord c1 z (g1.sp + 2 + 2 + 2) handle) (sym ss1) (subst (λ z. HoldsWord c1 g0.ss z handle) o4 ws.0) in
      let small = ws.2.2.1 in
      let r1 = with_memory r g1 c1 in
      let popped = pops_four k handle segment offset count r1 (omega arith) (omega arith) w1 w2 w3 w4 b.here stands in
      let j = k + 1 + 1 + 1 + 1 in
      let g2 = four g1 (site.at j) handle segment offset count in
      let r2 = with_memory r g2 c1 in
      let k2 : Keeps g0 r.cells g2 c1 = record { sp = omega arith; bp = b.bp; ss = b.ss; ds = b.ds; direction = b.direction; bytes = b.bytes; free = b.free } in
      let a2 = active_keeps p.installed w.choice live.frame s.cells g0 g2 r.cells c1 a.active k2 in
      let sp2 = k2.sp in
      let done = writes_bytes j s.cells r2 bytes a2 (omega arith) small e popped.here stands.1.1.1.1 in
      let t = asked j r2 in
      let u = told_by handle j r2 bytes in
      let tells = told (handle == 1) (handle == 2) t bytes in
      let k3 = keeps_on g0 g2 done.registers r.cells c1 t.cells k2 done.keeps in
      let s1 = record s { turns = left; work = s.work + m } in
      let flat_beside = written_beside (handle == 1) (handle == 2) bytes s1 in
      let stood = represents_like w live s left (s.work + m) (with_memory t done.registers t.cells) (represents_keeps w site live fits s r done.registers t.cells a k3) in
      let end = with_memory u done.registers u.cells in
      let few = b.few in
      let ft = flat_beside.turns in
      let fw = ap (budget w) flat_beside.work in
      let nine : j + 1 + 1 + 1 + 1 + 1 ≡ k + 9 = omega arith in
      record {
        count = b.count + (4 + 5);
        end = end;
        leads = leads_on p w.framed b.count (4 + 5) r r1 end b.leads (leads_on p w.framed 4 5 r1 r2 end popped.leads done.leads);
        here = subst (λ z. At z end) nine done.here;
        stands = represents_written (handle == 1) (handle == 2) t bytes s1 done.registers stood;
        enough = omega arith;
        fewer = omega arith;
        work = omega arith;
        free = λ place h. subst (λ (d : Cells). IsTrue (is_free (d place))) (sym tells.cells) (k3.free place h);
        input = tells.input;
      }

  -- by what flat code comes to
  written_flows : (around : Around) (n k m left handle segment offset count : ℕ) (s : State) (r : ResidentState) → Represents w live s r → s.turns ≡ suc left → 72 ≤ r.registers.sp → (b : Pushes w.machine w.framed site.segment n (site.at k) r (handle ∷ segment ∷ offset ∷ count ∷ [])) → n + 9 + budget w s.work ≤ budget w (s.work + m) → Stands (IsSpelledAt site.code) site.at site.labels k (ones write_code) → (found : Found (List ℕ)) → bytes_at s.cells (record { segment = segment; offset = offset }) 0 count ≡ found → Flows w site live around (site.at (k + 9)) s r (with_found found (record s { turns = left; work = s.work + m }) (λ bytes. Next (written handle bytes (record s { turns = left; work = s.work + m }))))
  written_flows around n k m left handle segment offset count s r a turns room b paid stands (Ok bytes) e = write_arrives n k m left handle segment offset count s r bytes a turns (omega arith) room b e paid stands
  written_flows around n k m left handle segment offset count s r a turns room b paid stands (Err ByZero) e = absurd (bytes_no_division count 0 s.cells (record { segment = segment; offset = offset }) e)
  written_flows around n k m left handle segment offset count s r a turns room b paid stands (Err (Bad cause)) e = settles_here w site live fits (Undefined cause) (s.work + m) left s r tt (budget_more w s.work m) a

  -- four words, or an undefined act
  act_flows : (around : Around) (n k m left : ℕ) (s : State) (r : ResidentState) → Represents w live s r → s.turns ≡ suc left → 72 ≤ r.registers.sp → n + 9 + budget w s.work ≤ budget w (s.work + m) → Stands (IsSpelledAt site.code) site.at site.labels k (ones write_code) → (vs : List ℕ) → Pushes w.machine w.framed site.segment n (site.at k) r vs → Flows w site live around (site.at (k + 9)) s r (write_act vs (record s { turns = left; work = s.work + m }))
  act_flows around n k m left s r a turns room paid stands [] b = settles_here w site live fits (Undefined 1) (s.work + m) left s r tt (budget_more w s.work m) a
  act_flows around n k m left s r a turns room paid stands (v1 ∷ []) b = settles_here w site live fits (Undefined 1) (s.work + m) left s r tt (budget_more w s.work m) a
  act_flows around n k m left s r a turns room paid stands (v1 ∷ v2 ∷ []) b = settles_here w site live fits (Undefined 1) (s.work + m) left s r tt (budget_more w s.work m) a
  act_flows around n k m left s r a turns room paid stands (v1 ∷ v2 ∷ v3 ∷ []) b = settles_here w site live fits (Undefined 1) (s.work + m) left s r tt (budget_more w s.work m) a
  act_flows around n k m left s r a turns room paid stands (handle ∷ segment ∷ offset ∷ count ∷ []) b = written_flows around n k m left handle segment offset count s r a turns room b paid stands (bytes_at s.cells (record { segment = segment; offset = offset }) 0 count) refl
  act_flows around n k m left s r a turns room paid stands (v1 ∷ v2 ∷ v3 ∷ v4 ∷ v5 ∷ vs) b = settles_here w site live fits (Undefined 1) (s.work + m) left s r tt (budget_more w s.work m) a

  -- a turn is spent
  spent_flows : (around : Around) (n k m kr : ℕ) (s : State) (r : ResidentState) → IsAt site.segment kr r → Represents w live s r → 72 ≤ r.registers.sp → EndsErrors w live x.addresses.error_routine → n + 9 + budget w s.work ≤ budget w (s.work + m) → Stands (IsSpelledAt site.code) site.at site.labels k (ones write_code) → (found : Found (List ℕ)) → PushesAll w.machine w.framed site.segment x.addresses.error_routine n (site.at k) r found → Flows w site live around (site.at (k + 9)) s r (with_found found (begun m s) (λ vs. spend (begun m s) (write_act vs)))
  spent_flows around n k m kr s r here a room ends paid stands (Ok vs) b = by s.turns refl
    where
      by : (turns : ℕ) → s.turns ≡ turns → Flows w site live around (site.at (k + 9)) s r (spent turns (begun m s) (write_act vs))
      by zero e = settles_here w site live fits Going (s.work + m) s.turns s r (omega (arith, e), here.running) (budget_more w s.work m) a
      by (suc left) e = act_flows around n k m left s r a e room paid stands vs b
  spent_flows around n k m kr s r here a room ends paid stands (Err ByZero) b = error_flows w site live fits around kr (site.at (k + 9)) n m 200 s r here a ends (omega arith) (omega arith) b
  spent_flows around n k m kr s r here a room ends paid stands (Err (Bad cause)) b = settles_here w site live fits (Undefined cause) (s.work + m) s.turns s r tt (budget_more w s.work m) a

  pub write_flows : (bound pointer : ℕ) → EndsErrors w live x.addresses.error_routine → (args : List Expr) → AllHaveWords args → 72 + 2 * (length args + exprs_depth args) ≤ live.frame.sp → StepFlows w site live bound pointer (Runtime 0 args None)
  write_flows bound pointer ends args words room around k s r few here a stands small =
      let is = args_code x args in
      let n = length is in
      let m = 1 + exprs_size args in
      let sp = a.sp in
      let front = length-ones is in
      let tail = ones write_code ++ ones [] in
      let whole = length-append (ones is) tail in
      let s0 = stands_front (IsSpelledAt site.code) site.at site.labels k (ones is) tail stands in
      let s1 = subst (λ z. Stands (IsSpelledAt site.code) site.at site.labels (k + z) tail) front (stands_back (IsSpelledAt site.code) site.at site.labels k (ones is) tail stands) in
      let b = args_run w.machine w.framed site.segment site.code site.at site.labels fits.placed x fits.error w.choice live.frame s.cells fits.suits args k r words here a.active (omega arith) s0 in
      let paid = budget_grows w s.work m (n + 9) (omega arith) (omega arith) in
      let there : k + n + 9 ≡ k + length (ones is ++ tail) = omega arith in
      let flows = spent_flows around n (k + n) m (site.at k) s r here a (omega arith) ends paid s1 (values_of w.choice live.frame s.cells args) b in
      subst (λ z. Flows w site live around (site.at z) s r (step_of w.program w.choice (run w.program w.choice) (Runtime 0 args None) live.frame (begun m s))) there flows
