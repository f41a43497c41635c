-- ES:DI comes to lead to the destination of a copy.
use Rattle.std.proofs.Common.{◌≡◌, ℕ, ◌+◌, ◌%◌, ◌<◌, ◌≤◌, Bool, List, [], ◌∷◌, ◌++◌, length, Ok, Err, arith, refl, sym, ap, subst, ◌∙◌, length-append}
use Rattle.std.specs.Prelude.{ℤ}
use Rattle.common_values.specs.integers.Words.{w16, word_of}
use Rattle.x86_table.specs.declared.instr.Instr.TheVariants as instr
use Rattle.x86_table.specs.declared.operand.Base.TheVariants as base
use Rattle.x86_table.specs.declared.operand.WordReg.TheVariants as word
use Rattle.x86_table.specs.Standing.{IsSpelledAt, Stands}
use Rattle.flat_code.specs.declared.memory.Place.{Place}
use Rattle.flat_code.specs.declared.memory.Trap.TheVariants.{ByZero, Bad}
use Rattle.flat_code.specs.declared.tree.Address.{Address}
use Rattle.flat_code.specs.declared.tree.Address.TheVariants.{Global, Local, Outer, Through}
use Rattle.flat_code.specs.Memory as flat_memory
use Rattle.flat_code.specs.Memory.{Found, ◌>>=◌, place_after, word_at}
use Rattle.flat_code.specs.Program.{Choice}
use Rattle.flat_code.specs.Values.{Frame, place_of, stack_place}
use Rattle.cpu_8086.specs.declared.registers.Registers.{Registers}
use Rattle.cpu_8086.specs.Access.{Done, read_word, at_offset, word_then, put_word}
use Rattle.cpu_8086.specs.Arithmetic.{sum_of}
use Rattle.cpu_8086.specs.Effect.{act}
use Rattle.resident_machine.specs.Cells.{Cells}
use Rattle.resident_machine.specs.Effect.{with_memory}
use Rattle.resident_machine.specs.Program.{Segment, Program}
use Rattle.resident_machine.specs.State.{ResidentState}
use Rattle.resident_machine.specs.machine_lines.Steps.{Leads}
use Rattle.resident_machine.specs.machine_lines.Straight.{ones, registers_past, Placed, IsAt, Carried}
use Rattle.resident_machine.specs.machine_lines.Words.{stored}
use Rattle.resident_machine.proofs.machine_lines.Steps.{leads_on}
use Rattle.resident_machine.proofs.machine_lines.Straight.{line}
use Rattle.code_templates.specs.code_lines.Addresses.{Context}
use Rattle.code_templates.specs.code_lines.Lines.{add_to, destination}
use Rattle.code_templates.specs.code_lines.Operands.{memory_at, frame_memory, loads, operand_place}
use Rattle.statement_simulation.specs.expressions.Active.{Suits, Active, Keeps}
use Rattle.statement_simulation.proofs.expressions.Loads.{SameBases, LeadsTo, Loaded, LoadsTo, near_segment, fetch_pointer, one_tree, ones_front, ones_back}
use Rattle.statement_simulation.proofs.expressions.Operands.{displaced_offset, word_of_small}
use Rattle.statement_simulation.proofs.expressions.Places.{loads_run}
use Rattle.statement_simulation.proofs.expressions.Stack.{pushed_at}
use Rattle.statement_simulation.proofs.expressions.States.{ReadsWord, word_found, word_no_division, active_keeps, keeps_same, keeps_on}
use Rattle.effect_simulation.proofs.copies.Segments.{registers_taken, take_stack, pushed_keeps, data_taken, stack_taken}

-- at most n events make ES:DI lead to the place; the frame and what can be reached are as before
pub record Aimed (p : Program) (framed : Bool) (cs : Segment) (n ip : ℕ) (r : ResidentState) (q : Place) : Type 0 where
  pub count : ℕ
  pub few : count ≤ n
  pub registers : Registers
  pub cells : Cells
  pub leads : Leads p framed count r (with_memory r registers cells)
  pub here : IsAt cs ip (with_memory r registers cells)
  pub keeps : Keeps r.registers r.cells registers cells
  pub di : registers.di ≡ q.offset
  pub es : registers.es ≡ q.segment
  pub small : q.offset < 65536

abbrev pub AimsTo : Program → Bool → Segment → ℕ → ℕ → ResidentState → Found Place → Type 0
AimsTo p framed cs n ip r (Ok q) = Aimed p framed cs n ip r q
AimsTo p framed cs n ip r (Err ByZero) = ⊥
AimsTo p framed cs n ip r (Err (Bad _)) = Unit {0}

same_bases : (g : Registers) (n : ℕ) → SameBases g (at_offset g n)
same_bases g n = record { bx = refl; bp = refl; es = refl; ss = refl; ds = refl }

lea_tree : (x : Context) (a : Address) (q : Place) (g h : Registers) → LeadsTo x a q g → SameBases g h → q.offset < 65536 → act h (instr.Lea word.Di (memory_at (operand_place x a 0))) ≡ Done (record h { di = q.offset })
unfolding act
lea_tree x a q g h l s small = ap (λ n. Done (record h { di = n })) (l.offset h 0 s ∙ (omega arith))

les_tree : (g : Registers) (d : ℕ) → d < 65536 → act g (instr.Les word.Di (frame_memory d)) ≡ read_word g.ss ((g.bp + d) % 65536) (λ first. read_word g.ss (((g.bp + d) % 65536 + 2) % 65536) (λ second. Done (record g { es = second; di = first })))
unfolding act
les_tree g d h =
    near_segment g d _
    ∙ ap (λ o. read_word g.ss o (λ first. read_word g.ss ((o + 2) % 65536) (λ second. Done (record g { es = second; di = first })))) (displaced_offset g base.Bp d h)

module _ (p : Program) (framed : Bool) (cs : Segment) (code : List ℕ) (at labels : ℕ → ℕ) (pl : Placed p cs code at) (x : Context) (choice : Choice) (f : Frame) (m : flat_memory.Cells) (suits : Suits x choice f) where
  -- DI was loaded
  abbrev aimed_at : Registers → ℕ → Place → Registers
  aimed_at g ip q = record (at_offset g ip) { di = q.offset }

  lea_carries : (a : Address) (j : ℕ) (q : Place) (r : ResidentState) (g : Registers) → LeadsTo x a q g → q.offset < 65536 → IsAt cs (at j) (with_memory r g r.cells) → Stands (IsSpelledAt code) at labels j (ones (instr.Lea word.Di (memory_at (operand_place x a 0)) ∷ [])) → Carried p framed cs 1 (at (j + 1)) (with_memory r g r.cells) (aimed_at g (at (j + 1)) q) r.cells
  lea_carries a j q r g l small here s =
      one_tree p framed cs code at labels pl j (instr.Lea word.Di (memory_at (operand_place x a 0))) (Done (aimed_at g (at (j + 1)) q)) (with_memory r g r.cells) refl here s (lea_tree x a q g (at_offset g (at (j + 1))) l (same_bases g (at (j + 1))) small) tt

  -- what was loaded, DI, and ES by way of the stack
  all_aimed : (a : Address) (n j v : ℕ) (q : Place) (r : ResidentState) (l : Loaded p framed cs n (at j) x a r q) → Active p.installed choice f m r.registers r.cells → 66 ≤ r.registers.sp → v ≡ q.segment → Stands (IsSpelledAt code) at labels j (ones (instr.Lea word.Di (memory_at (operand_place x a 0)) ∷ [])) → (IsAt cs (at (j + 1)) (with_memory r (aimed_at l.registers (at (j + 1)) q) r.cells) → Active p.installed choice f m (aimed_at l.registers (at (j + 1)) q) r.cells → 66 ≤ l.registers.sp → Carried p framed cs 2 (at (j + 1 + 2)) (with_memory r (aimed_at l.registers (at (j + 1)) q) r.cells) (registers_taken (aimed_at l.registers (at (j + 1)) q) (at (j + 1 + 1 + 1)) v) (stored r.cells l.registers.ss (pushed_at l.registers) v)) → Aimed p framed cs (n + 3) (at (j + 3)) r q
  all_aimed a n j v q r l act room e s took =
      let g = aimed_at l.registers (at (j + 1)) q in
      let t = with_memory r g r.cells in
      let aside = l.fetched.aside in
      let first = lea_carries a j q r l.registers l.operand_is l.small l.fetched.here s in
      let k0 = keeps_same r.registers g r.cells aside.sp aside.bp aside.ss aside.ds aside.direction in
      let act1 = active_keeps p.installed choice f m r.registers g r.cells r.cells act k0 in
      let sp = aside.sp in
      let enough : 66 ≤ g.sp = omega arith in
      let second = took first.here act1 enough in
      let h = registers_taken g (at (j + 1 + 1 + 1)) v in
      let c = stored r.cells g.ss (pushed_at g) v in
      let k1 = pushed_keeps p framed cs code at labels pl choice f m t act1 enough v (at (j + 1 + 1 + 1)) second.free in
      let three : j + 1 + 2 ≡ j + 3 = omega arith in
      let few = l.fetched.few in
      record {
        count = l.fetched.count + (1 + 2);
        few = omega arith;
        registers = h;
        cells = c;
        leads = leads_on p framed l.fetched.count (1 + 2) r (with_memory r l.registers r.cells) (with_memory r h c) l.fetched.leads (leads_on p framed 1 2 (with_memory r l.registers r.cells) t (with_memory r h c) first.leads second.leads);
        here = subst (λ i. IsAt cs (at i) (with_memory r h c)) three second.here;
        keeps = keeps_on r.registers g h r.cells r.cells c k0 k1;
        di = refl;
        es = e;
        small = l.small;
      }

  aimed_as : (n i k j : ℕ) (r : ResidentState) (found : Found Place) → n ≡ i → k ≡ j → AimsTo p framed cs n (at k) r found → AimsTo p framed cs i (at j) r found
  aimed_as n i k j r found e h a = subst (λ z. AimsTo p framed cs i (at z) r found) h (subst (λ z. AimsTo p framed cs z (at k) r found) e a)

  -- a datum, whose segment is in DS
  data_aims : (unit number plus k : ℕ) (r : ResidentState) → Active p.installed choice f m r.registers r.cells → 66 ≤ r.registers.sp → Stands (IsSpelledAt code) at labels k (ones (destination x (Global unit number plus))) → (found : Found Place) → LoadsTo p framed cs 0 (at (k + 0)) x (Global unit number plus) r found → AimsTo p framed cs 3 (at (k + 3)) r found
  data_aims unit number plus k r a room s (Err ByZero) l = l
  data_aims unit number plus k r a room s (Err (Bad cause)) l = tt
  data_aims unit number plus k r a room s (Ok q) l =
      let e : k ≡ k + 0 = omega arith in
      let j = k + 0 in
      let back : j + 3 ≡ k + 3 = omega arith in
      let s0 = subst (λ i. Stands (IsSpelledAt code) at labels i (ones (destination x (Global unit number plus)))) e s in
      aimed_as 3 3 (j + 3) (k + 3) r (Ok q) refl back
      (all_aimed (Global unit number plus) 0 j l.registers.ds q r l a room l.operand_is.segment_in (s0.0, tt) (λ here act1 enough. data_taken p framed cs code at labels pl choice f m (with_memory r (aimed_at l.registers (at (j + 1)) q) r.cells) act1 enough (j + 1) here s0.1))

  -- a place in the stack, whose segment is in SS
  stack_aims : (at_stack : Address) (n j : ℕ) (q : Place) (r : ResidentState) (l : Loaded p framed cs n (at j) x at_stack r q) → Active p.installed choice f m r.registers r.cells → 66 ≤ r.registers.sp → l.registers.ss ≡ q.segment → Stands (IsSpelledAt code) at labels j (ones (instr.Lea word.Di (memory_at (operand_place x at_stack 0)) ∷ take_stack)) → Aimed p framed cs (n + 3) (at (j + 3)) r q
  stack_aims at_stack n j q r l a room e s =
      all_aimed at_stack n j l.registers.ss q r l a room e (s.0, tt) (λ here act1 enough. stack_taken p framed cs code at labels pl choice f m (with_memory r (aimed_at l.registers (at (j + 1)) q) r.cells) act1 enough (j + 1) here s.1)

  local_aims : (d : ℤ) (k : ℕ) (r : ResidentState) → IsAt cs (at k) r → Active p.installed choice f m r.registers r.cells → 66 ≤ r.registers.sp → Stands (IsSpelledAt code) at labels k (ones (destination x (Local d))) → AimsTo p framed cs 3 (at (k + 3)) r (place_of choice f m (Local d))
  local_aims d k r here a room s =
      let l = loads_run p framed cs code at labels pl x choice f m suits (Local d) k r here a (omega arith) tt in
      let e : k ≡ k + 0 = omega arith in
      let back : k + 0 + 3 ≡ k + 3 = omega arith in
      let s0 = subst (λ i. Stands (IsSpelledAt code) at labels i (ones (destination x (Local d)))) e s in
      aimed_as 3 3 (k + 0 + 3) (k + 3) r (place_of choice f m (Local d)) refl back (stack_aims (Local d) 0 (k + 0) (stack_place choice f.bp d) r l a room l.operand_is.segment_in s0)

  outer_aims : (levels : ℕ) (d : ℤ) (k : ℕ) (r : ResidentState) → Active p.installed choice f m r.registers r.cells → 66 ≤ r.registers.sp → Stands (IsSpelledAt code) at labels (k + length (loads x (Outer levels d))) (ones (instr.Lea word.Di (memory_at (operand_place x (Outer levels d) 0)) ∷ take_stack)) → (found : Found Place) → LoadsTo p framed cs (length (loads x (Outer levels d))) (at (k + length (loads x (Outer levels d)))) x (Outer levels d) r found → AimsTo p framed cs (length (loads x (Outer levels d)) + 3) (at (k + length (loads x (Outer levels d)) + 3)) r found
  outer_aims levels d k r a room s (Err ByZero) l = l
  outer_aims levels d k r a room s (Err (Bad cause)) l = tt
  outer_aims levels d k r a room s (Ok q) l = stack_aims (Outer levels d) (length (loads x (Outer levels d))) (k + length (loads x (Outer levels d))) q r l a room l.operand_is.segment_in s

  -- so much is added to DI
  add_carries : (j plus : ℕ) (r : ResidentState) → IsAt cs (at j) r → Stands (IsSpelledAt code) at labels j (ones (add_to word.Di plus ∷ [])) → Carried p framed cs 1 (at (j + 1)) r (registers_past at j (add_to word.Di plus ∷ []) r.registers r.cells) r.cells
  unfolding act word_then put_word
  add_carries j plus r here s = line p framed cs code at labels pl j (add_to word.Di plus ∷ []) r refl here s tt

  add_keeps : (j plus : ℕ) (r : ResidentState) → Keeps r.registers r.cells (registers_past at j (add_to word.Di plus ∷ []) r.registers r.cells) r.cells
  unfolding act word_then put_word
  add_keeps j plus r = keeps_same r.registers _ r.cells refl refl refl refl refl

  add_adds : (j plus : ℕ) (r : ResidentState) → ((registers_past at j (add_to word.Di plus ∷ []) r.registers r.cells).di ≡ (r.registers.di + plus) % 65536) × ((registers_past at j (add_to word.Di plus ∷ []) r.registers r.cells).es ≡ r.registers.es)
  unfolding act word_then put_word sum_of
  add_adds j plus r = (omega arith, refl)

  stack_word : (r : ResidentState) (o v : ℕ) → Active p.installed choice f m r.registers r.cells → 64 ≤ r.registers.sp → o < 65536 → word_at m (record { segment = choice.stack_segment; offset = o }) ≡ Ok v → ReadsWord r.registers r.cells r.registers.ss o v
  stack_word r o v a room small e =
      subst (λ s. ReadsWord r.registers r.cells s o v) (sym a.ss) (word_found p.installed choice f m r.registers r.cells (record { segment = choice.stack_segment; offset = o }) v a room small e)

  through_aims : (slot : ℤ) (plus k : ℕ) (r : ResidentState) → IsAt cs (at k) r → Active p.installed choice f m r.registers r.cells → 64 ≤ r.registers.sp → Stands (IsSpelledAt code) at labels k (ones (destination x (Through slot plus))) → (v w : Found ℕ) → word_at m (stack_place choice f.bp slot) ≡ v → word_at m (place_after (stack_place choice f.bp slot) 2) ≡ w → AimsTo p framed cs 2 (at (k + 2)) r ((v >>= λ offset. w >>= λ segment. Ok (record { segment = segment; offset = offset })) >>= λ q. Ok (place_after q plus))
  through_aims slot plus k r here a room s (Ok offset) (Ok segment) ev ew =
      let g = r.registers in
      let d = word_of w16 slot in
      let o = (g.bp + d) % 65536 in
      let same : (f.bp + d) % 65536 ≡ o = ap (λ n. (n + d) % 65536) (sym a.bp) in
      let first = subst (λ n. ReadsWord g r.cells g.ss n offset) same (stack_word r ((f.bp + d) % 65536) offset a room (omega arith) ev) in
      let second = subst (λ n. ReadsWord g r.cells g.ss ((n + 2) % 65536) segment) same (stack_word r (((f.bp + d) % 65536 + 2) % 65536) segment a room (omega arith) ew) in
      let h = record (at_offset g (at (k + 1))) { es = segment; di = offset } in
      let c = fetch_pointer p framed cs code at labels pl k (instr.Les word.Di (frame_memory d)) g.ss o offset segment (λ first second. record (at_offset g (at (k + 1))) { es = second; di = first }) r refl here (s.0, tt) (les_tree (at_offset g (at (k + 1))) d (word_of_small slot)) first second in
      let t = with_memory r h r.cells in
      let b = add_carries (k + 1) plus t c.here s.1 in
      let i = registers_past at (k + 1) (add_to word.Di plus ∷ []) h r.cells in
      let sums = add_adds (k + 1) plus t in
      let two : k + 1 + 1 ≡ k + 2 = omega arith in
      record {
        count = 1 + 1;
        few = omega arith;
        registers = i;
        cells = r.cells;
        leads = leads_on p framed 1 1 r t (with_memory r i r.cells) c.leads b.leads;
        here = subst (λ n. IsAt cs (at n) (with_memory r i r.cells)) two b.here;
        keeps = keeps_on g h i r.cells r.cells r.cells (keeps_same g h r.cells refl refl refl refl refl) (add_keeps (k + 1) plus t);
        di = sums.0;
        es = sums.1;
        small = omega arith;
      }
  through_aims slot plus k r here a room s (Ok offset) (Err ByZero) ev ew = absurd (word_no_division m (place_after (stack_place choice f.bp slot) 2) ew)
  through_aims slot plus k r here a room s (Ok offset) (Err (Bad cause)) ev ew = tt
  through_aims slot plus k r here a room s (Err ByZero) w ev ew = absurd (word_no_division m (stack_place choice f.bp slot) ev)
  through_aims slot plus k r here a room s (Err (Bad cause)) w ev ew = tt

  pub destination_runs : (to : Address) (k : ℕ) (r : ResidentState) → IsAt cs (at k) r → Active p.installed choice f m r.registers r.cells → 66 ≤ r.registers.sp → Stands (IsSpelledAt code) at labels k (ones (destination x to)) → AimsTo p framed cs (length (destination x to)) (at (k + length (destination x to))) r (place_of choice f m to)
  destination_runs (Global unit number plus) k r here a room s =
      data_aims unit number plus k r a room s (place_of choice f m (Global unit number plus)) (loads_run p framed cs code at labels pl x choice f m suits (Global unit number plus) k r here a (omega arith) tt)
  destination_runs (Local d) k r here a room s = local_aims d k r here a room s
  destination_runs (Outer levels d) k r here a room s =
      let ls = loads x (Outer levels d) in
      let tail = instr.Lea word.Di (memory_at (operand_place x (Outer levels d) 0)) ∷ take_stack in
      let size = length-append ls tail in
      let l = loads_run p framed cs code at labels pl x choice f m suits (Outer levels d) k r here a (omega arith) (ones_front (IsSpelledAt code) at labels k ls tail s) in
      aimed_as (length ls + 3) (length (ls ++ tail)) (k + length ls + 3) (k + length (ls ++ tail)) r (place_of choice f m (Outer levels d)) (omega arith) (omega arith)
      (outer_aims levels d k r a room (ones_back (IsSpelledAt code) at labels k ls tail s) (place_of choice f m (Outer levels d)) l)
  destination_runs (Through slot plus) k r here a room s =
      through_aims slot plus k r here a (omega arith) s (word_at m (stack_place choice f.bp slot)) (word_at m (place_after (stack_place choice f.bp slot) 2)) refl refl
