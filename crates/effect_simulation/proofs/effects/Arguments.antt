-- The code of arguments pushes their values in order.
use Rattle.std.proofs.Common.{◌≡◌, ℕ, ◌+◌, ◌-◌, ◌*◌, ◌<◌, ◌≤◌, Bool, List, [], ◌∷◌, ◌++◌, length, Ok, Err, arith, refl, subst, ◌∙◌, length-append}
use Rattle.x86_table.specs.declared.instr.Instr.TheVariants as instr
use Rattle.x86_table.specs.declared.operand.WordReg.TheVariants as word
use Rattle.x86_table.specs.Standing.{IsSpelledAt, Stands}
use Rattle.flat_code.specs.declared.memory.Place.{Place}
use Rattle.flat_code.specs.declared.memory.Trap.TheVariants.{ByZero, Bad}
use Rattle.flat_code.specs.Legal.{exprs_depth}
use Rattle.flat_code.specs.Memory as flat_memory
use Rattle.flat_code.specs.Memory.{Found, ◌>>=◌}
use Rattle.flat_code.specs.Program.{Choice}
use Rattle.flat_code.specs.Tree.{Expr}
use Rattle.flat_code.specs.Values.{Frame, value_of, values_of}
use Rattle.cpu_8086.specs.declared.registers.Registers.{Registers}
use Rattle.cpu_8086.specs.Memory.{address, next_offset}
use Rattle.resident_machine.specs.Cells.{Cells}
use Rattle.resident_machine.specs.Effect.{with_memory}
use Rattle.resident_machine.specs.Program.{Segment, Program}
use Rattle.resident_machine.specs.State.{ResidentState}
use Rattle.resident_machine.specs.machine_lines.Steps.{Leads}
use Rattle.resident_machine.specs.machine_lines.Straight.{ones, Placed, IsAt}
use Rattle.resident_machine.specs.machine_lines.Words.{HoldsWord}
use Rattle.resident_machine.proofs.machine_lines.Steps.{leads_on}
use Rattle.code_templates.specs.code_lines.Addresses.{Context}
use Rattle.code_templates.specs.code_lines.Expressions.{expr_code, args_code}
use Rattle.statement_simulation.specs.expressions.Active.{Suits, Active, IsKept}
use Rattle.statement_simulation.specs.expressions.Evaluates.{IsCode, Fails, Evaluates}
use Rattle.statement_simulation.proofs.expressions.Expressions.{expr_runs}
use Rattle.statement_simulation.proofs.expressions.Loads.{ones_front, ones_back}
use Rattle.statement_simulation.proofs.expressions.Runs.{Lowers, fails_on}
use Rattle.statement_simulation.proofs.expressions.Stack.{pushed_at, registers_pushed, cells_pushed, push_carries, push_holds, push_lowers}
use Rattle.statement_simulation.proofs.expressions.States.{active_keeps, active_lower}
use Rattle.effect_simulation.specs.effects.Pushed.{AllHaveWords, HoldsWords, PushesAll}

-- a word that is kept is still there
pub word_kept : (c d : Cells) (segment offset v : ℕ) → d (address segment offset) ≡ c (address segment offset) → d (address segment (next_offset offset)) ≡ c (address segment (next_offset offset)) → HoldsWord c segment offset v → HoldsWord d segment offset v
word_kept c d segment offset v low high h = record { low = low ∙ h.low; high = high ∙ h.high }

fails_more : (p : Program) (framed : Bool) (error : Place) (m n code : ℕ) (r : ResidentState) → m ≤ n → Fails p framed error m r code → Fails p framed error n r code
fails_more p framed error m n code r e f =
    let l = f.few in
    record { count = f.count; few = omega arith; registers = f.registers; cells = f.cells; leads = f.leads; ax = f.ax; room = f.room; lower = f.lower; ss = f.ss; ds = f.ds; direction = f.direction; bytes = f.bytes; free = f.free }

module _ (p : Program) (framed : Bool) (cs : Segment) (code : List ℕ) (at labels : ℕ → ℕ) (pl : Placed p cs code at) (x : Context) (named : IsCode p x.addresses.error_routine) (choice : Choice) (f : Frame) (m : flat_memory.Cells) (suits : Suits x choice f) where
  abbrev error : Place
  error = x.addresses.error_routine

  -- one value was pushed, and the others follow
  pushed_on : (n i jp kp v : ℕ) (r : ResidentState) → Active p.installed choice f m r.registers r.cells → 66 ≤ r.registers.sp → (g : Registers) (c : Cells) (count : ℕ) → count ≤ n → Leads p framed count r (with_memory r g c) → Lowers r.registers r.cells g c → g.sp ≡ r.registers.sp - 2 → g.bp ≡ r.registers.bp → HoldsWord c r.registers.ss (r.registers.sp - 2) v → v < 65536 → (found : Found (List ℕ)) → PushesAll p framed cs error i kp (with_memory r g c) found → PushesAll p framed cs error (n + i) kp r (found >>= λ vs. Ok (v ∷ vs))
  pushed_on n i jp kp v r a room g c count few leads lowers sp bp holds small (Ok vs) b =
      let more = b.few in
      let top = a.top in
      let inside = a.inside in
      let ss = lowers.ss in
      let low_kept : IsKept g (address r.registers.ss (r.registers.sp - 2)) = λ low. omega arith in
      let high_kept : IsKept g (address r.registers.ss (next_offset (r.registers.sp - 2))) = λ low. omega arith in
      let here = word_kept c b.cells r.registers.ss (r.registers.sp - 2) v (b.bytes (address r.registers.ss (r.registers.sp - 2)) low_kept) (b.bytes (address r.registers.ss (next_offset (r.registers.sp - 2))) high_kept) holds in
      let others = subst (λ o. HoldsWords b.cells r.registers.ss o vs) sp (subst (λ o. HoldsWords b.cells o g.sp vs) ss b.words) in
      let sum = b.sp in
      record {
        count = count + b.count;
        few = omega arith;
        registers = b.registers;
        cells = b.cells;
        leads = leads_on p framed count b.count r (with_memory r g c) (with_memory r b.registers b.cells) leads b.leads;
        here = b.here;
        words = (here, small, others);
        sp = omega arith;
        bp = b.bp ∙ bp;
        ss = b.ss ∙ ss;
        ds = b.ds ∙ lowers.ds;
        direction = b.direction ∙ lowers.direction;
        bytes = λ place kept. b.bytes place (λ low. let z = kept (omega arith) in omega arith) ∙ lowers.bytes place kept;
        free = λ place h. b.free place (lowers.free place h);
      }
  pushed_on n i jp kp v r a room g c count few leads lowers sp bp holds small (Err ByZero) b = fails_on p framed error n i count 200 r g c few leads lowers b
  pushed_on n i jp kp v r a room g c count few leads lowers sp bp holds small (Err (Bad cause)) b = tt

  pushes_as : (n i k j : ℕ) (r : ResidentState) (found : Found (List ℕ)) → n ≡ i → k ≡ j → PushesAll p framed cs error n (at k) r found → PushesAll p framed cs error i (at j) r found
  pushes_as n i k j r found e h a = subst (λ z. PushesAll p framed cs error i (at z) r found) h (subst (λ z. PushesAll p framed cs error z (at k) r found) e a)

  pub args_run : (es : List Expr) (k : ℕ) (r : ResidentState) → AllHaveWords es → IsAt cs (at k) r → Active p.installed choice f m r.registers r.cells → 64 + 2 * (length es + exprs_depth es) ≤ r.registers.sp → Stands (IsSpelledAt code) at labels k (ones (args_code x es)) → PushesAll p framed cs error (length (args_code x es)) (at (k + length (args_code x es))) r (values_of choice f m es)
  args_run [] k r words here a room s =
      let e : k ≡ k + 0 = omega arith in
      record {
        count = 0;
        few = omega arith;
        registers = r.registers;
        cells = r.cells;
        leads = refl;
        here = subst (λ n. IsAt cs (at n) r) e here;
        words = tt;
        sp = omega arith;
        bp = refl;
        ss = refl;
        ds = refl;
        direction = refl;
        bytes = λ place kept. refl;
        free = λ place h. h;
      }
  args_run (e ∷ es) k r words here a room s =
      by (λ j t at_next b enough rest. args_run es j t words.1 at_next b enough rest) (value_of choice f m e) (expr_runs p framed cs code at labels pl x named choice f m suits e words.0 k r here a (omega arith) (ones_front (IsSpelledAt code) at labels k (expr_code x e) (instr.Push word.Ax ∷ args_code x es) s))
    where
      size : ℕ
      size = length (expr_code x e)

      whole : ℕ
      whole = length (expr_code x e ++ (instr.Push word.Ax ∷ args_code x es))

      More : Type 0
      More = (j : ℕ) (t : ResidentState) → IsAt cs (at j) t → Active p.installed choice f m t.registers t.cells → 64 + 2 * (length es + exprs_depth es) ≤ t.registers.sp → Stands (IsSpelledAt code) at labels j (ones (args_code x es)) → PushesAll p framed cs error (length (args_code x es)) (at (j + length (args_code x es))) t (values_of choice f m es)

      by : More → (found : Found ℕ) → Evaluates p framed cs error size (at (k + size)) r found → PushesAll p framed cs error whole (at (k + whole)) r (found >>= λ v. values_of choice f m es >>= λ vs. Ok (v ∷ vs))
      by again (Ok v) b =
          let r1 = with_memory r b.registers b.cells in
          let sp1 = b.keeps.sp in
          let ss1 = b.keeps.ss in
          let a1 = active_keeps p.installed choice f m r.registers b.registers r.cells b.cells a b.keeps in
          let enough : 66 ≤ b.registers.sp = omega arith in
          let top = a1.top in
          let behind = ones_back (IsSpelledAt code) at labels k (expr_code x e) (instr.Push word.Ax ∷ args_code x es) s in
          let c = push_carries p framed cs code at labels pl choice f m r1 a1 enough (k + size) b.here (behind.0, tt) in
          let g = registers_pushed b.registers (at (k + size + 1)) in
          let d = cells_pushed b.registers b.cells in
          let lower = push_lowers p framed cs code at labels pl choice f m r1 a1 enough (k + size) c in
          let there : pushed_at b.registers ≡ r.registers.sp - 2 = omega arith in
          let holds = push_holds p framed cs code at labels pl choice f m r1 a1 enough in
          let holds1 = subst (λ o. HoldsWord d b.registers.ss o b.registers.ax) there holds in
          let holds2 = subst (λ o. HoldsWord d o (r.registers.sp - 2) b.registers.ax) ss1 holds1 in
          let holds3 = subst (λ n. HoldsWord d r.registers.ss (r.registers.sp - 2) n) b.ax holds2 in
          let lowers : Lowers r.registers r.cells g d = record {
            sp = omega arith;
            ss = ss1;
            ds = b.keeps.ds;
            direction = b.keeps.direction;
            bytes = λ place kept. lower.bytes place (λ low. let z = kept (omega arith) in omega arith) ∙ b.keeps.bytes place kept;
            free = λ place h. lower.free place (b.keeps.free place h);
          } in
          let a2 = active_lower p.installed choice f m b.registers g b.cells d a1 (omega arith) refl refl refl lower.bytes lower.free in
          let few = b.few in
          let parts = length-append (expr_code x e) (instr.Push word.Ax ∷ args_code x es) in
          let more = again (k + size + 1) (with_memory r g d) c.here a2 (omega arith) behind.1 in
          pushes_as (size + 1 + length (args_code x es)) whole (k + size + 1 + length (args_code x es)) (k + whole) r (values_of choice f m es >>= λ vs. Ok (v ∷ vs)) (omega arith) (omega arith)
          (pushed_on (size + 1) (length (args_code x es)) (at (k + size + 1)) (at (k + size + 1 + length (args_code x es))) v r a (omega arith) g d (b.count + 1) (omega arith)
          (leads_on p framed b.count 1 r r1 (with_memory r g d) b.leads c.leads) lowers there b.keeps.bp holds3 b.word (values_of choice f m es) more)
      by again (Err ByZero) b = fails_more p framed error size whole 200 r (let parts = length-append (expr_code x e) (instr.Push word.Ax ∷ args_code x es) in omega arith) b
      by again (Err (Bad cause)) b = tt
