-- Static links are followed to the source of a copy, past ES and DI, which lead to its destination.
use Rattle.std.proofs.Common.{◌≡◌, ℕ, zero, suc, ◌+◌, ◌%◌, ◌<◌, ◌≤◌, Bool, true, List, [], ◌∷◌, length, Ok, Err, arith, refl, sym, subst, ◌∙◌}
use Rattle.x86_table.specs.declared.instr.Instr.{Instr}
use Rattle.x86_table.specs.declared.operand.WordReg.TheVariants as word
use Rattle.x86_table.specs.Standing.{IsSpelledAt, Stands}
use Rattle.flat_code.specs.declared.memory.Trap.TheVariants.{ByZero, Bad}
use Rattle.flat_code.specs.Calls.{link_bytes}
use Rattle.flat_code.specs.Memory as flat_memory
use Rattle.flat_code.specs.Memory.{Found, ◌>>=◌, word_at}
use Rattle.flat_code.specs.Program.{Choice}
use Rattle.flat_code.specs.Values.{Frame, linked}
use Rattle.cpu_8086.specs.declared.registers.Registers.{Registers}
use Rattle.cpu_8086.specs.Access.{Done, read_word, at_offset}
use Rattle.resident_machine.specs.Cells.{Cells}
use Rattle.resident_machine.specs.Effect.{with_memory}
use Rattle.resident_machine.specs.Program.{Segment, Program}
use Rattle.resident_machine.specs.State.{ResidentState}
use Rattle.resident_machine.specs.machine_lines.Steps.{Leads}
use Rattle.resident_machine.specs.machine_lines.Straight.{is_plain, ones, tree, Placed, IsAt}
use Rattle.resident_machine.proofs.machine_lines.Steps.{leads_on}
use Rattle.code_templates.specs.code_lines.Addresses.{Context}
use Rattle.code_templates.specs.code_lines.Operands.{frame_memory, load, hop, hops, links}
use Rattle.statement_simulation.specs.expressions.Active.{Suits, Active}
use Rattle.statement_simulation.proofs.expressions.Loads.{load_bx_tree, hop_tree, fetch_word}
use Rattle.statement_simulation.proofs.expressions.States.{ReadsWord, word_found, word_small, word_no_division, active_keeps, keeps_same}

-- registers that are left as they are
pub record Beside (g h : Registers) : Type 0 where
  pub sp : h.sp ≡ g.sp
  pub bp : h.bp ≡ g.bp
  pub ss : h.ss ≡ g.ss
  pub ds : h.ds ≡ g.ds
  pub es : h.es ≡ g.es
  pub di : h.di ≡ g.di
  pub direction : h.direction ≡ g.direction

pub beside_on : (g h i : Registers) → Beside g h → Beside h i → Beside g i
beside_on g h i a b = record { sp = b.sp ∙ a.sp; bp = b.bp ∙ a.bp; ss = b.ss ∙ a.ss; ds = b.ds ∙ a.ds; es = b.es ∙ a.es; di = b.di ∙ a.di; direction = b.direction ∙ a.direction }

pub beside_active : (flag : ℕ) (choice : Choice) (f : Frame) (m : flat_memory.Cells) (g h : Registers) (c : Cells) → Active flag choice f m g c → Beside g h → Active flag choice f m h c
beside_active flag choice f m g h c a b = active_keeps flag choice f m g h c c a (keeps_same g h c b.sp b.bp b.ss b.ds b.direction)

-- at most n events lead BX along links
pub record Hopped (p : Program) (framed : Bool) (cs : Segment) (n ip : ℕ) (r : ResidentState) (link : ℕ) : Type 0 where
  pub registers : Registers
  pub count : ℕ
  pub few : count ≤ n
  pub leads : Leads p framed count r (with_memory r registers r.cells)
  pub here : IsAt cs ip (with_memory r registers r.cells)
  pub beside : Beside r.registers registers
  pub bx : registers.bx ≡ link
  pub small : link < 65536

abbrev pub HopsTo : Program → Bool → Segment → ℕ → ℕ → ResidentState → Found ℕ → Type 0
HopsTo p framed cs n ip r (Ok link) = Hopped p framed cs n ip r link
HopsTo p framed cs n ip r (Err ByZero) = ⊥
HopsTo p framed cs n ip r (Err (Bad _)) = Unit {0}

module _ (p : Program) (framed : Bool) (cs : Segment) (code : List ℕ) (at labels : ℕ → ℕ) (pl : Placed p cs code at) (x : Context) (choice : Choice) (f : Frame) (m : flat_memory.Cells) (suits : Suits x choice f) where
  hopped_on : (k n : ℕ) (r : ResidentState) (v : ℕ) (a : Hopped p framed cs 1 (at (k + 1)) r v) (found : Found ℕ) → HopsTo p framed cs n (at (k + 1 + n)) (with_memory r a.registers r.cells) found → HopsTo p framed cs (suc n) (at (k + suc n)) r found
  hopped_on k n r v a (Ok link) b =
      let e : k + 1 + n ≡ k + suc n = omega arith in
      let y = a.few in
      let z = b.few in
      record {
        registers = b.registers;
        count = a.count + b.count;
        few = omega arith;
        leads = leads_on p framed a.count b.count r (with_memory r a.registers r.cells) (with_memory r b.registers r.cells) a.leads b.leads;
        here = subst (λ i. IsAt cs (at i) (with_memory r b.registers r.cells)) e b.here;
        beside = beside_on r.registers a.registers b.registers a.beside b.beside;
        bx = b.bx;
        small = b.small;
      }
  hopped_on k n r v a (Err ByZero) b = b
  hopped_on k n r v a (Err (Bad act)) b = tt

  stack_word : (r : ResidentState) (o v : ℕ) → Active p.installed choice f m r.registers r.cells → 64 ≤ r.registers.sp → o < 65536 → word_at m (record { segment = choice.stack_segment; offset = o }) ≡ Ok v → ReadsWord r.registers r.cells r.registers.ss o v
  stack_word r o v a room small e =
      subst (λ s. ReadsWord r.registers r.cells s o v) (sym a.ss) (word_found p.installed choice f m r.registers r.cells (record { segment = choice.stack_segment; offset = o }) v a room small e)

  -- an instruction that fetches a link word
  one_hop : (k : ℕ) (i : Instr) (offset v : ℕ) (r : ResidentState) → is_plain i ≡ true → IsAt cs (at k) r → Stands (IsSpelledAt code) at labels k (ones (i ∷ [])) → tree at (k + 1) i r.registers ≡ read_word r.registers.ss offset (λ w. Done (record (at_offset r.registers (at (k + 1))) { bx = w })) → ReadsWord r.registers r.cells r.registers.ss offset v → Hopped p framed cs 1 (at (k + 1)) r v
  one_hop k i offset v r plain here s tree w =
      let g = r.registers in
      let c = fetch_word p framed cs code at labels pl k i g.ss offset v (λ v. record (at_offset g (at (k + 1))) { bx = v }) r plain here s tree w in
      record {
        registers = record (at_offset g (at (k + 1))) { bx = v };
        count = 1;
        few = omega arith;
        leads = c.leads;
        here = c.here;
        beside = record { sp = refl; bp = refl; ss = refl; ds = refl; es = refl; di = refl; direction = refl };
        bx = refl;
        small = word_small g r.cells g.ss offset v w;
      }

  hops_run : (n k up : ℕ) (r : ResidentState) → IsAt cs (at k) r → Active p.installed choice f m r.registers r.cells → 64 ≤ r.registers.sp → r.registers.bx ≡ up → up < 65536 → Stands (IsSpelledAt code) at labels k (ones (hops n)) → HopsTo p framed cs (length (hops n)) (at (k + length (hops n))) r (linked choice m n up)
  hops_run zero k up r here a room bx small s =
      let e : k ≡ k + 0 = omega arith in
      record {
        registers = r.registers;
        count = 0;
        few = omega arith;
        leads = refl;
        here = subst (λ i. IsAt cs (at i) r) e here;
        beside = record { sp = refl; bp = refl; ss = refl; ds = refl; es = refl; di = refl; direction = refl };
        bx = bx;
        small = small;
      }
  hops_run (suc n) k up r here a room bx small s =
      by (λ v one. hops_run n (k + 1) v (with_memory r one.registers r.cells) one.here (beside_active p.installed choice f m r.registers one.registers r.cells a one.beside) (let sp = one.beside.sp in omega arith) one.bx one.small s.1)
      (word_at m (record { segment = choice.stack_segment; offset = up })) refl
    where
      by : ((v : ℕ) (one : Hopped p framed cs 1 (at (k + 1)) r v) → HopsTo p framed cs (length (hops n)) (at (k + 1 + length (hops n))) (with_memory r one.registers r.cells) (linked choice m n v)) → (w : Found ℕ) → word_at m (record { segment = choice.stack_segment; offset = up }) ≡ w → HopsTo p framed cs (suc (length (hops n))) (at (k + suc (length (hops n)))) r (w >>= λ up. linked choice m n up)
      by more (Ok v) e =
          let g = r.registers in
          let w = subst (λ o. ReadsWord g r.cells g.ss o v) (sym bx) (stack_word r up v a room small e) in
          let one = one_hop k hop g.bx v r refl here (s.0, tt) (hop_tree (at_offset g (at (k + 1))) (let z = small in let y = bx in omega arith)) w in
          hopped_on k (length (hops n)) r v one (linked choice m n v) (more v one)
      by more (Err ByZero) e = absurd (word_no_division m (record { segment = choice.stack_segment; offset = up }) e)
      by more (Err (Bad act)) e = tt

  pub links_run : (n k : ℕ) (r : ResidentState) → IsAt cs (at k) r → Active p.installed choice f m r.registers r.cells → 64 ≤ r.registers.sp → Stands (IsSpelledAt code) at labels k (ones (links x (suc n))) → HopsTo p framed cs (suc (length (hops n))) (at (k + suc (length (hops n)))) r (linked choice m (suc n) f.link)
  links_run n k r here a room s = by (word_at m (record { segment = choice.stack_segment; offset = f.link })) refl
    where
      by : (w : Found ℕ) → word_at m (record { segment = choice.stack_segment; offset = f.link }) ≡ w → HopsTo p framed cs (suc (length (hops n))) (at (k + suc (length (hops n)))) r (w >>= λ up. linked choice m n up)
      by (Ok v) e =
          let g = r.registers in
          let d = link_bytes x.far in
          let bp = a.bp in
          let link = suits.link in
          let fits = suits.link_small in
          let o : f.link ≡ (g.bp + d) % 65536 = omega arith in
          let w = subst (λ o. ReadsWord g r.cells g.ss o v) o (stack_word r f.link v a room suits.link_small e) in
          let one = one_hop k (load word.Bx (frame_memory d)) ((g.bp + d) % 65536) v r refl here (s.0, tt) (load_bx_tree (at_offset g (at (k + 1))) d (omega arith)) w in
          let sp = one.beside.sp in
          hopped_on k (length (hops n)) r v one (linked choice m n v)
          (hops_run n (k + 1) v (with_memory r one.registers r.cells) one.here (beside_active p.installed choice f m g one.registers r.cells a one.beside) (omega arith) one.bx one.small s.1)
      by (Err ByZero) e = absurd (word_no_division m (record { segment = choice.stack_segment; offset = f.link }) e)
      by (Err (Bad act)) e = tt
