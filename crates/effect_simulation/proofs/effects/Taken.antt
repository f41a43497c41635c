-- Bytes of AX and DX are stored at a place: of a result, or of a far pointer.
use Rattle.std.proofs.Common.{◌≡◌, ℕ, zero, suc, ◌+◌, ◌/◌, ◌%◌, ◌<◌, ◌≤◌, Bool, List, [], ◌∷◌, ◌++◌, length, Ok, Err, arith, refl, sym, ap, subst, ◌∙◌, length-append}
use Rattle.common_values.specs.integers.Words.{low_byte, high_byte}
use Rattle.x86_table.specs.declared.instr.Instr.TheVariants as instr
use Rattle.x86_table.specs.declared.instr.Pair.TheVariants as pair
use Rattle.x86_table.specs.declared.operand.ByteOperand.TheVariants as byte_rm
use Rattle.x86_table.specs.declared.operand.ByteReg.TheVariants as byte
use Rattle.x86_table.specs.declared.operand.WordReg.{WordReg}
use Rattle.x86_table.specs.declared.operand.WordReg.TheVariants as word
use Rattle.x86_table.specs.Standing.{IsSpelledAt, Stands}
use Rattle.flat_code.specs.declared.memory.Cell.{Cell}
use Rattle.flat_code.specs.declared.memory.Cell.TheVariants as flat
use Rattle.flat_code.specs.declared.memory.Place.{Place}
use Rattle.flat_code.specs.declared.memory.Trap.TheVariants.{ByZero, Bad}
use Rattle.flat_code.specs.declared.tree.Address.{Address}
use Rattle.flat_code.specs.Calls.{stored_at}
use Rattle.flat_code.specs.Memory as flat_memory
use Rattle.flat_code.specs.Memory.{Found, ◌>>=◌, address_of, if_inside, store_bytes, word_bytes}
use Rattle.flat_code.specs.Program.{Choice}
use Rattle.flat_code.specs.Values.{Frame, place_of}
use Rattle.cpu_8086.specs.declared.registers.Registers.{Registers}
use Rattle.cpu_8086.specs.Access.{Done, Write, write_word, at_offset, put_byte, put_word}
use Rattle.cpu_8086.specs.Effect.{act}
use Rattle.cpu_8086.specs.Memory.{address, next_offset}
use Rattle.cpu_8086.specs.Operand.{offset_of, word_reg}
use Rattle.resident_machine.specs.Cells.{Known, Cells, with_cell}
use Rattle.resident_machine.specs.Effect.{with_memory}
use Rattle.resident_machine.specs.Program.{Segment, Program}
use Rattle.resident_machine.specs.State.{ResidentState}
use Rattle.resident_machine.specs.machine_lines.Steps.{Leads}
use Rattle.resident_machine.specs.machine_lines.Straight.{StaysFree, ones, Placed, IsAt}
use Rattle.resident_machine.proofs.machine_lines.Steps.{leads_on}
use Rattle.code_templates.specs.code_lines.Addresses.{Context}
use Rattle.code_templates.specs.code_lines.Lines.{put, store_byte, store_word, store_two, taken_by}
use Rattle.code_templates.specs.code_lines.Operands.{loads, operand}
use Rattle.statement_simulation.specs.expressions.Active.{Suits, Active}
use Rattle.statement_simulation.proofs.expressions.Loads.{SameBases, LeadsTo, Loaded, LoadsTo, aside_active, one_tree, ones_front, ones_back}
use Rattle.statement_simulation.proofs.expressions.Places.{loads_run}
use Rattle.statement_simulation.proofs.expressions.States.{active_keeps, keeps_same}
use Rattle.statement_simulation.proofs.expressions.Values.{place_is}
use Rattle.statement_simulation.specs.stores.Stores.{Stores}
use Rattle.statement_simulation.proofs.stores.Written.{active_byte, outside_kept, outside_still}

-- ## One instruction

-- MOV of a word register to an operand that is loaded, so many bytes further
put_tree : (x : Context) (a : Address) (more : ℕ) (r : WordReg) (q : Place) (g h : Registers) (v : ℕ) → LeadsTo x a q g → SameBases g h → word_reg h r ≡ v → v < 65536 → act h (put x a more r) ≡ Write (address_of q more) (v % 256) (Write (address_of q (more + 1)) (v / 256 % 256) (Done h))
unfolding act put_word
put_tree x a more r q g h v l s e fits =
    let high : v / 256 ≡ v / 256 % 256 = omega arith in
    let offset : offset_of h (operand x a more).place ≡ (q.offset + more) % 65536 = ap (offset_of h) (place_is x a more) ∙ l.offset h more s in
    let next : next_offset ((q.offset + more) % 65536) ≡ (q.offset + (more + 1)) % 65536 = omega arith in
    l.segment h more (λ segment. write_word segment (offset_of h (operand x a more).place) (word_reg h r) (Done h)) s
    ∙ ap (λ o. write_word q.segment o (word_reg h r) (Done h)) offset
    ∙ ap (λ n. write_word q.segment ((q.offset + more) % 65536) n (Done h)) e
    ∙ ap (λ o. Write (address_of q more) (v % 256) (Write (address q.segment o) (v / 256) (Done h))) next
    ∙ ap (λ n. Write (address_of q more) (v % 256) (Write (address_of q (more + 1)) n (Done h))) high

byte_tree : (x : Context) (a : Address) (q : Place) (g h : Registers) (v : ℕ) → LeadsTo x a q g → SameBases g h → h.ax ≡ v → act h (instr.Mov (pair.RmByte (byte_rm.Mem (operand x a 0)) byte.Al)) ≡ Write (address_of q 0) (v % 256) (Done h)
unfolding act put_byte
byte_tree x a q g h v l s e =
    let offset : offset_of h (operand x a 0).place ≡ (q.offset + 0) % 65536 = ap (offset_of h) (place_is x a 0) ∙ l.offset h 0 s in
    l.segment h 0 (λ segment. Write (address segment (offset_of h (operand x a 0).place)) (h.ax % 256) (Done h)) s
    ∙ ap (λ o. Write (address q.segment o) (h.ax % 256) (Done h)) offset
    ∙ ap (λ n. Write (address_of q 0) (n % 256) (Done h)) e

-- registers of the operand and of values, past IP
same_past : (g h : Registers) (n : ℕ) → SameBases g h → SameBases g (at_offset h n)
same_past g h n s = record { bx = s.bx; bp = s.bp; es = s.es; ss = s.ss; ds = s.ds }

-- cells are stored, and what was outside is outside still; storing divides nothing
abbrev pub TakesTo : Program → Bool → Segment → ℕ → ℕ → Choice → Frame → flat_memory.Cells → ResidentState → Found flat_memory.Cells → Type 0
TakesTo p framed cs n ip choice f m r (Ok m2) = Stores p framed cs n ip choice f m m2 r × ((place : ℕ) → m place ≡ flat.Outside → m2 place ≡ flat.Outside)
TakesTo p framed cs n ip choice f m r (Err ByZero) = ⊥
TakesTo p framed cs n ip choice f m r (Err (Bad _)) = Unit {0}

module _ (p : Program) (framed : Bool) (cs : Segment) (code : List ℕ) (at labels : ℕ → ℕ) (pl : Placed p cs code at) (x : Context) (choice : Choice) (f : Frame) where
  -- From t, whose registers are those of r but for BX, ES and IP, so many events lead to cells m2 and to these registers past IP.
  record Wrote (n ip : ℕ) (g : Registers) (m m2 : flat_memory.Cells) (t : ResidentState) : Type 0 where
    cells : Cells
    leads : Leads p framed n t (with_memory t (at_offset g ip) cells)
    here : IsAt cs ip (with_memory t (at_offset g ip) cells)
    active : Active p.installed choice f m2 g cells
    outside : (place : ℕ) → m place ≡ flat.Outside → cells place ≡ t.cells place
    shut : (place : ℕ) → m place ≡ flat.Outside → m2 place ≡ flat.Outside
    free : StaysFree t.cells cells

  abbrev WritesTo : ℕ → ℕ → Registers → flat_memory.Cells → ResidentState → Found flat_memory.Cells → Type 0
  WritesTo n ip g m t (Ok m2) = Wrote n ip g m m2 t
  WritesTo n ip g m t (Err ByZero) = ⊥
  WritesTo n ip g m t (Err (Bad _)) = Unit {0}

  active_past : (m : flat_memory.Cells) (g : Registers) (ip : ℕ) (c : Cells) → Active p.installed choice f m g c → Active p.installed choice f m (at_offset g ip) c
  active_past m g ip c a = active_keeps p.installed choice f m g (at_offset g ip) c c a (keeps_same g (at_offset g ip) c refl refl refl refl refl)

  -- both bytes of a word can be reached
  word_in : (j more v : ℕ) (a : Address) (reg : WordReg) (q : Place) (g : Registers) (m : flat_memory.Cells) (t : ResidentState) → LeadsTo x a q g → SameBases g t.registers → word_reg (at_offset t.registers (at (j + 1))) reg ≡ v → v < 65536 → Active p.installed choice f m t.registers t.cells → IsAt cs (at j) t → Stands (IsSpelledAt code) at labels j (ones (put x a more reg ∷ [])) → (m (address_of q more) ≡ flat.Outside → ⊥) → (flat_memory.put m (address_of q more) (flat.Known (v % 256)) (address_of q (more + 1)) ≡ flat.Outside → ⊥) → Wrote 1 (at (j + 1)) t.registers m (flat_memory.put (flat_memory.put m (address_of q more) (flat.Known (v % 256))) (address_of q (more + 1)) (flat.Known (v / 256 % 256))) t
  word_in j more v a reg q g m t l same e small active here s first second =
      let h = at_offset t.registers (at (j + 1)) in
      let a0 = address_of q more in
      let a1 = address_of q (more + 1) in
      let m1 = flat_memory.put m a0 (flat.Known (v % 256)) in
      let c1 = with_cell t.cells a0 (Known (v % 256)) in
      let c2 = with_cell c1 a1 (Known (v / 256 % 256)) in
      let may0 = active.reached a0 first in
      let may1 = active.reached a1 (λ o. second (outside_still m a0 (v % 256) a1 first o)) in
      let c = one_tree p framed cs code at labels pl j (put x a more reg) (Write a0 (v % 256) (Write a1 (v / 256 % 256) (Done h))) t refl here s (put_tree x a more reg q g h v l (same_past g t.registers (at (j + 1)) same) e small) (may0, (may1, tt)) in
      let b0 = active_byte p.installed choice f m t.registers t.cells a0 (v % 256) active (omega arith) first in
      record {
        cells = c2;
        leads = c.leads;
        here = c.here;
        active = active_byte p.installed choice f m1 t.registers c1 a1 (v / 256 % 256) b0 (omega arith) second;
        outside = λ place o. outside_kept m1 c1 a1 (v / 256 % 256) place second (outside_still m a0 (v % 256) place first o) ∙ outside_kept m t.cells a0 (v % 256) place first o;
        shut = λ place o. outside_still m1 a1 (v / 256 % 256) place second (outside_still m a0 (v % 256) place first o);
        free = c.free;
      }

  -- a word, if its bytes can be reached
  word_writes : (j more v : ℕ) (a : Address) (reg : WordReg) (q : Place) (g : Registers) (m : flat_memory.Cells) (t : ResidentState) → LeadsTo x a q g → SameBases g t.registers → word_reg (at_offset t.registers (at (j + 1))) reg ≡ v → v < 65536 → Active p.installed choice f m t.registers t.cells → IsAt cs (at j) t → Stands (IsSpelledAt code) at labels j (ones (put x a more reg ∷ [])) → WritesTo 1 (at (j + 1)) t.registers m t (store_bytes m q more (word_bytes v))
  word_writes j more v a reg q g m t l same e small active here s = first (m a0) refl
    where
      a0 : ℕ
      a0 = address_of q more

      a1 : ℕ
      a1 = address_of q (more + 1)

      m1 : flat_memory.Cells
      m1 = flat_memory.put m a0 (flat.Known (v % 256))

      m2 : flat_memory.Cells
      m2 = flat_memory.put m1 a1 (flat.Known (v / 256 % 256))

      second : (m a0 ≡ flat.Outside → ⊥) → (y : Cell) → m1 a1 ≡ y → WritesTo 1 (at (j + 1)) t.registers m t (if_inside y m2 >>= λ m'. Ok m')
      second one (flat.Known b) e1 = word_in j more v a reg q g m t l same e small active here s one (λ o. let z = sym e1 ∙ o in absurd (cc))
      second one flat.Unset e1 = word_in j more v a reg q g m t l same e small active here s one (λ o. let z = sym e1 ∙ o in absurd (cc))
      second one flat.Outside e1 = tt

      first : (y : Cell) → m a0 ≡ y → WritesTo 1 (at (j + 1)) t.registers m t (if_inside y m1 >>= λ m'. store_bytes m' q (more + 1) (v / 256 % 256 ∷ []))
      first (flat.Known b) e0 = second (λ o. let z = sym e0 ∙ o in absurd (cc)) (m1 a1) refl
      first flat.Unset e0 = second (λ o. let z = sym e0 ∙ o in absurd (cc)) (m1 a1) refl
      first flat.Outside e0 = tt

  -- two words, one behind the other
  both_write : (j v w : ℕ) (a : Address) (q : Place) (g : Registers) (m : flat_memory.Cells) (t : ResidentState) → LeadsTo x a q g → SameBases g t.registers → t.registers.ax ≡ v → v < 65536 → t.registers.dx ≡ w → w < 65536 → Active p.installed choice f m t.registers t.cells → IsAt cs (at j) t → Stands (IsSpelledAt code) at labels j (ones (put x a 0 word.Ax ∷ put x a 2 word.Dx ∷ [])) → (found : Found flat_memory.Cells) → store_bytes m q 0 (word_bytes v) ≡ found → WritesTo 2 (at (j + 2)) t.registers m t (found >>= λ m'. store_bytes m' q 2 (word_bytes w))
  both_write j v w a q g m t l same ax small dx fits active here s (Ok m1) e =
      let one = subst (λ found. WritesTo 1 (at (j + 1)) t.registers m t found) e (word_writes j 0 v a word.Ax q g m t l same ax small active here (s.0, tt)) in
      let u = with_memory t (at_offset t.registers (at (j + 1))) one.cells in
      let past = active_past m1 t.registers (at (j + 1)) one.cells one.active in
      let again = word_writes (j + 1) 2 w a word.Dx q g m1 u l (same_past g t.registers (at (j + 1)) same) dx fits past one.here s.1 in
      by one (store_bytes m1 q 2 (word_bytes w)) again
    where
      by : (one : Wrote 1 (at (j + 1)) t.registers m m1 t) (found : Found flat_memory.Cells) → WritesTo 1 (at (j + 1 + 1)) (at_offset t.registers (at (j + 1))) m1 (with_memory t (at_offset t.registers (at (j + 1))) one.cells) found → WritesTo 2 (at (j + 2)) t.registers m t found
      by one (Err ByZero) b = b
      by one (Err (Bad cause)) b = tt
      by one (Ok m2) b =
          let two : j + 1 + 1 ≡ j + 2 = omega arith in
          record {
            cells = b.cells;
            leads = subst (λ n. Leads p framed 2 t (with_memory t (at_offset t.registers (at n)) b.cells)) two (leads_on p framed 1 1 t (with_memory t (at_offset t.registers (at (j + 1))) one.cells) (with_memory t (at_offset t.registers (at (j + 1 + 1))) b.cells) one.leads b.leads);
            here = subst (λ n. IsAt cs (at n) (with_memory t (at_offset t.registers (at n)) b.cells)) two b.here;
            active = active_keeps p.installed choice f m2 (at_offset t.registers (at (j + 1))) t.registers b.cells b.cells b.active (keeps_same (at_offset t.registers (at (j + 1))) t.registers b.cells refl refl refl refl refl);
            outside = λ place o. b.outside place (one.shut place o) ∙ one.outside place o;
            shut = λ place o. b.shut place (one.shut place o);
            free = λ place h. b.free place (one.free place h);
          }
  both_write j v w a q g m t l same ax small dx fits active here s (Err ByZero) e =
      absurd (subst (λ found. WritesTo 1 (at (j + 1)) t.registers m t found) e (word_writes j 0 v a word.Ax q g m t l same ax small active here (s.0, tt)))
  both_write j v w a q g m t l same ax small dx fits active here s (Err (Bad cause)) e = tt

  -- the low byte of AX, if its place can be reached
  byte_writes : (j v : ℕ) (a : Address) (q : Place) (g : Registers) (m : flat_memory.Cells) (t : ResidentState) → LeadsTo x a q g → SameBases g t.registers → t.registers.ax ≡ v → Active p.installed choice f m t.registers t.cells → IsAt cs (at j) t → Stands (IsSpelledAt code) at labels j (ones (instr.Mov (pair.RmByte (byte_rm.Mem (operand x a 0)) byte.Al) ∷ [])) → WritesTo 1 (at (j + 1)) t.registers m t (store_bytes m q 0 (low_byte v ∷ []))
  byte_writes j v a q g m t l same e active here s = by (m a0) refl
    where
      a0 : ℕ
      a0 = address_of q 0

      m1 : flat_memory.Cells
      m1 = flat_memory.put m a0 (flat.Known (v % 256))

      inside : (m a0 ≡ flat.Outside → ⊥) → Wrote 1 (at (j + 1)) t.registers m m1 t
      inside first =
          let h = at_offset t.registers (at (j + 1)) in
          let may = active.reached a0 first in
          let c = one_tree p framed cs code at labels pl j (instr.Mov (pair.RmByte (byte_rm.Mem (operand x a 0)) byte.Al)) (Write a0 (v % 256) (Done h)) t refl here s (byte_tree x a q g h v l (same_past g t.registers (at (j + 1)) same) e) (may, tt) in
          record {
            cells = with_cell t.cells a0 (Known (v % 256));
            leads = c.leads;
            here = c.here;
            active = active_byte p.installed choice f m t.registers t.cells a0 (v % 256) active (omega arith) first;
            outside = λ place o. outside_kept m t.cells a0 (v % 256) place first o;
            shut = λ place o. outside_still m a0 (v % 256) place first o;
            free = c.free;
          }

      by : (y : Cell) → m a0 ≡ y → WritesTo 1 (at (j + 1)) t.registers m t (if_inside y m1 >>= λ m'. Ok m')
      by (flat.Known b) e0 = inside (λ o. let z = sym e0 ∙ o in absurd (cc))
      by flat.Unset e0 = inside (λ o. let z = sym e0 ∙ o in absurd (cc))
      by flat.Outside e0 = tt

  -- ## Behind what is loaded

  stores_from : (n j k : ℕ) (a : Address) (q : Place) (m m2 : flat_memory.Cells) (r : ResidentState) (l : Loaded p framed cs n (at k) x a r q) → Wrote j (at (k + j)) l.registers m m2 (with_memory r l.registers r.cells) → Stores p framed cs (n + j) (at (k + j)) choice f m m2 r
  stores_from n j k a q m m2 r l b =
      let aside = l.fetched.aside in
      let few = l.fetched.few in
      record {
        count = l.fetched.count + j;
        few = omega arith;
        registers = at_offset l.registers (at (k + j));
        cells = b.cells;
        leads = leads_on p framed l.fetched.count j r (with_memory r l.registers r.cells) (with_memory r (at_offset l.registers (at (k + j))) b.cells) l.fetched.leads b.leads;
        here = b.here;
        active = active_past m2 l.registers (at (k + j)) b.cells b.active;
        sp = aside.sp;
        direction = aside.direction;
        outside = λ place o kept. b.outside place o;
        free = b.free;
      }

  takes_from : (n j k : ℕ) (a : Address) (q : Place) (m : flat_memory.Cells) (r : ResidentState) (l : Loaded p framed cs n (at k) x a r q) (found : Found flat_memory.Cells) → WritesTo j (at (k + j)) l.registers m (with_memory r l.registers r.cells) found → TakesTo p framed cs (n + j) (at (k + j)) choice f m r found
  takes_from n j k a q m r l (Ok m2) b = (stores_from n j k a q m m2 r l b, b.shut)
  takes_from n j k a q m r l (Err ByZero) b = b
  takes_from n j k a q m r l (Err (Bad cause)) b = tt

-- the bytes of a result in AX and DX: 1, 2 or 4
abbrev pub bytes_of : ℕ → ℕ → ℕ → List ℕ
bytes_of (suc zero) v w = low_byte v ∷ []
bytes_of (suc (suc zero)) v w = word_bytes v
bytes_of zero v w = word_bytes v ++ word_bytes w
bytes_of (suc (suc (suc n))) v w = word_bytes v ++ word_bytes w

bind_ok : (found : Found flat_memory.Cells) (go : flat_memory.Cells → Found flat_memory.Cells) → (found >>= go) ≡ ((found >>= λ m. Ok m) >>= go)
bind_ok (Ok m) go = refl
bind_ok (Err trap) go = refl

bind_twice : (found : Found flat_memory.Cells) (then go : flat_memory.Cells → Found flat_memory.Cells) → (found >>= λ m. then m >>= go) ≡ ((found >>= λ m. then m >>= λ m. Ok m) >>= go)
bind_twice (Ok m) then go = bind_ok (then m) go
bind_twice (Err trap) then go = refl

-- two words are stored one after the other
words_stored : (m : flat_memory.Cells) (q : Place) (v w : ℕ) → store_bytes m q 0 (word_bytes v ++ word_bytes w) ≡ (store_bytes m q 0 (word_bytes v) >>= λ m'. store_bytes m' q 2 (word_bytes w))
words_stored m q v w =
    bind_twice (flat_memory.write m (address_of q 0) (flat.Known (low_byte v))) (λ m'. flat_memory.write m' (address_of q 1) (flat.Known (high_byte v))) (λ m'. store_bytes m' q 2 (word_bytes w))

module _ (p : Program) (framed : Bool) (cs : Segment) (code : List ℕ) (at labels : ℕ → ℕ) (pl : Placed p cs code at) (x : Context) (choice : Choice) (f : Frame) (m : flat_memory.Cells) (suits : Suits x choice f) where
  -- what is loaded, and instructions that write behind it
  loaded_take : (n j k : ℕ) (a : Address) (r : ResidentState) (go : Place → Found flat_memory.Cells) → ((q : Place) (l : Loaded p framed cs n (at k) x a r q) → WritesTo p framed cs code at labels pl x choice f j (at (k + j)) l.registers m (with_memory r l.registers r.cells) (go q)) → (found : Found Place) → LoadsTo p framed cs n (at k) x a r found → TakesTo p framed cs (n + j) (at (k + j)) choice f m r (found >>= go)
  loaded_take n j k a r go writes (Ok q) l = takes_from p framed cs code at labels pl x choice f n j k a q m r l (go q) (writes q l)
  loaded_take n j k a r go writes (Err ByZero) l = absurd l
  loaded_take n j k a r go writes (Err (Bad cause)) l = tt

  own_bases : (g : Registers) → SameBases g g
  own_bases g = record { bx = refl; bp = refl; es = refl; ss = refl; ds = refl }

  takes_at : (n i k j : ℕ) (r : ResidentState) (found : Found flat_memory.Cells) → n ≡ i → k ≡ j → TakesTo p framed cs n (at k) choice f m r found → TakesTo p framed cs i (at j) choice f m r found
  takes_at n i k j r found e h a = subst (λ z. TakesTo p framed cs i (at z) choice f m r found) h (subst (λ z. TakesTo p framed cs z (at k) choice f m r found) e a)

  pub two_taken : (to : Address) (k v w : ℕ) (r : ResidentState) → r.registers.ax ≡ v → v < 65536 → r.registers.dx ≡ w → w < 65536 → IsAt cs (at k) r → Active p.installed choice f m r.registers r.cells → 64 ≤ r.registers.sp → Stands (IsSpelledAt code) at labels k (ones (store_two x to)) → TakesTo p framed cs (length (store_two x to)) (at (k + length (store_two x to))) choice f m r (stored_at choice f m to (word_bytes v ++ word_bytes w))
  two_taken to k v w r ax small dx fits here a room s =
      let ls = loads x to in
      let js = put x to 0 word.Ax ∷ put x to 2 word.Dx ∷ [] in
      let size = length-append ls js in
      let behind = ones_back (IsSpelledAt code) at labels k ls js s in
      let l = loads_run p framed cs code at labels pl x choice f m suits to k r here a room (ones_front (IsSpelledAt code) at labels k ls js s) in
      let i = k + length ls in
      takes_at (length ls + 2) (length (ls ++ js)) (i + 2) (k + length (ls ++ js)) r (stored_at choice f m to (word_bytes v ++ word_bytes w)) (omega arith) (omega arith)
      (loaded_take (length ls) 2 i to r (λ q. store_bytes m q 0 (word_bytes v ++ word_bytes w)) (λ q b.
      let t = with_memory r b.registers r.cells in
      subst (λ found. WritesTo p framed cs code at labels pl x choice f 2 (at (i + 2)) b.registers m t found) (sym (words_stored m q v w))
      (both_write p framed cs code at labels pl x choice f i v w to q b.registers m t b.operand_is (own_bases b.registers) (b.fetched.aside.ax ∙ ax) small (b.fetched.aside.dx ∙ dx) fits (aside_active p.installed choice f m r.registers b.registers r.cells a b.fetched.aside) b.fetched.here behind (store_bytes m q 0 (word_bytes v)) refl))
      (place_of choice f m to) l)

  pub word_taken : (to : Address) (k v : ℕ) (r : ResidentState) → r.registers.ax ≡ v → v < 65536 → IsAt cs (at k) r → Active p.installed choice f m r.registers r.cells → 64 ≤ r.registers.sp → Stands (IsSpelledAt code) at labels k (ones (store_word x to)) → TakesTo p framed cs (length (store_word x to)) (at (k + length (store_word x to))) choice f m r (stored_at choice f m to (word_bytes v))
  word_taken to k v r ax small here a room s =
      let ls = loads x to in
      let js = put x to 0 word.Ax ∷ [] in
      let size = length-append ls js in
      let behind = ones_back (IsSpelledAt code) at labels k ls js s in
      let l = loads_run p framed cs code at labels pl x choice f m suits to k r here a room (ones_front (IsSpelledAt code) at labels k ls js s) in
      let i = k + length ls in
      takes_at (length ls + 1) (length (ls ++ js)) (i + 1) (k + length (ls ++ js)) r (stored_at choice f m to (word_bytes v)) (omega arith) (omega arith)
      (loaded_take (length ls) 1 i to r (λ q. store_bytes m q 0 (word_bytes v)) (λ q b.
      word_writes p framed cs code at labels pl x choice f i 0 v to word.Ax q b.registers m (with_memory r b.registers r.cells) b.operand_is (own_bases b.registers) (b.fetched.aside.ax ∙ ax) small (aside_active p.installed choice f m r.registers b.registers r.cells a b.fetched.aside) b.fetched.here behind)
      (place_of choice f m to) l)

  pub byte_taken : (to : Address) (k v : ℕ) (r : ResidentState) → r.registers.ax ≡ v → IsAt cs (at k) r → Active p.installed choice f m r.registers r.cells → 64 ≤ r.registers.sp → Stands (IsSpelledAt code) at labels k (ones (store_byte x to)) → TakesTo p framed cs (length (store_byte x to)) (at (k + length (store_byte x to))) choice f m r (stored_at choice f m to (low_byte v ∷ []))
  byte_taken to k v r ax here a room s =
      let ls = loads x to in
      let js = instr.Mov (pair.RmByte (byte_rm.Mem (operand x to 0)) byte.Al) ∷ [] in
      let size = length-append ls js in
      let behind = ones_back (IsSpelledAt code) at labels k ls js s in
      let l = loads_run p framed cs code at labels pl x choice f m suits to k r here a room (ones_front (IsSpelledAt code) at labels k ls js s) in
      let i = k + length ls in
      takes_at (length ls + 1) (length (ls ++ js)) (i + 1) (k + length (ls ++ js)) r (stored_at choice f m to (low_byte v ∷ [])) (omega arith) (omega arith)
      (loaded_take (length ls) 1 i to r (λ q. store_bytes m q 0 (low_byte v ∷ [])) (λ q b.
      byte_writes p framed cs code at labels pl x choice f i v to q b.registers m (with_memory r b.registers r.cells) b.operand_is (own_bases b.registers) (b.fetched.aside.ax ∙ ax) (aside_active p.installed choice f m r.registers b.registers r.cells a b.fetched.aside) b.fetched.here behind)
      (place_of choice f m to) l)

  pub taken_runs : (n : ℕ) (to : Address) (k v w : ℕ) (r : ResidentState) → r.registers.ax ≡ v → v < 65536 → r.registers.dx ≡ w → w < 65536 → IsAt cs (at k) r → Active p.installed choice f m r.registers r.cells → 64 ≤ r.registers.sp → Stands (IsSpelledAt code) at labels k (ones (taken_by n x to)) → TakesTo p framed cs (length (taken_by n x to)) (at (k + length (taken_by n x to))) choice f m r (stored_at choice f m to (bytes_of n v w))
  taken_runs zero to k v w r ax small dx fits here a room s = two_taken to k v w r ax small dx fits here a room s
  taken_runs (suc zero) to k v w r ax small dx fits here a room s = byte_taken to k v r ax here a room s
  taken_runs (suc (suc zero)) to k v w r ax small dx fits here a room s = word_taken to k v r ax small here a room s
  taken_runs (suc (suc (suc n))) to k v w r ax small dx fits here a room s = two_taken to k v w r ax small dx fits here a room s
