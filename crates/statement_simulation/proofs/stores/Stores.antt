-- The code of StoreWord and StoreByte does what they mean.
use Rattle.std.proofs.Common.{◌≡◌, ℕ, ◌+◌, ◌*◌, ◌/◌, ◌%◌, ◌<◌, ◌≤◌, Bool, List, [], ◌∷◌, ◌++◌, length, Ok, Err, arith, refl, ap, subst, ◌∙◌, length-append}
use Rattle.common_values.specs.integers.Words.{low_byte}
use Rattle.x86_table.specs.declared.instr.Instr.TheVariants as instr
use Rattle.x86_table.specs.declared.instr.Pair.TheVariants as pair
use Rattle.x86_table.specs.declared.operand.ByteOperand.TheVariants as byte_rm
use Rattle.x86_table.specs.declared.operand.ByteReg.TheVariants as byte
use Rattle.x86_table.specs.declared.operand.WordReg.TheVariants as word
use Rattle.x86_table.specs.Standing.{IsSpelledAt, Stands}
use Rattle.flat_code.specs.declared.memory.Cell.{Cell}
use Rattle.flat_code.specs.declared.memory.Cell.TheVariants as flat
use Rattle.flat_code.specs.declared.memory.Place.{Place}
use Rattle.flat_code.specs.declared.memory.Trap.TheVariants.{ByZero, Bad}
use Rattle.flat_code.specs.declared.tree.Address.{Address}
use Rattle.flat_code.specs.Calls.{stored_at}
use Rattle.flat_code.specs.Legal.{expr_depth}
use Rattle.flat_code.specs.Memory as flat_memory
use Rattle.flat_code.specs.Memory.{Found, ◌>>=◌, address_of, if_inside, store_bytes, word_bytes}
use Rattle.flat_code.specs.Program.{Choice}
use Rattle.flat_code.specs.Tree.{Expr}
use Rattle.flat_code.specs.Values.{Frame, place_of, value_of}
use Rattle.cpu_8086.specs.declared.registers.Registers.{Registers}
use Rattle.cpu_8086.specs.Access.{Done, Write, write_word, at_offset, put_byte, put_word}
use Rattle.cpu_8086.specs.Effect.{act}
use Rattle.cpu_8086.specs.Memory.{address, next_offset}
use Rattle.cpu_8086.specs.Operand.{offset_of}
use Rattle.resident_machine.specs.Cells.{Known, with_cell}
use Rattle.resident_machine.specs.Effect.{with_memory}
use Rattle.resident_machine.specs.Program.{Segment, Program}
use Rattle.resident_machine.specs.State.{ResidentState}
use Rattle.resident_machine.specs.machine_lines.Straight.{ones, Placed, IsAt}
use Rattle.resident_machine.proofs.machine_lines.Steps.{leads_on}
use Rattle.code_templates.specs.code_lines.Addresses.{Context}
use Rattle.code_templates.specs.code_lines.Expressions.{expr_code}
use Rattle.code_templates.specs.code_lines.Lines.{put, store_byte, store_word}
use Rattle.code_templates.specs.code_lines.Operands.{loads, operand}
use Rattle.statement_simulation.specs.expressions.Active.{Suits, Active}
use Rattle.statement_simulation.specs.expressions.Evaluates.{HasWords, IsCode, Gives, Fails, Evaluates}
use Rattle.statement_simulation.proofs.expressions.States.{active_keeps}
use Rattle.statement_simulation.proofs.expressions.Loads.{SameBases, LeadsTo, Aside, Loaded, LoadsTo, aside_active, one_tree, ones_front, ones_back}
use Rattle.statement_simulation.proofs.expressions.Places.{loads_run}
use Rattle.statement_simulation.proofs.expressions.Values.{offset_is}
use Rattle.statement_simulation.proofs.expressions.Runs.{keeps_lowers, fails_on}
use Rattle.statement_simulation.proofs.expressions.Expressions.{expr_runs}
use Rattle.statement_simulation.specs.stores.Stores.{Stores, Follows}
use Rattle.statement_simulation.proofs.stores.Written.{active_byte, outside_kept, outside_still}

first_place : (q : Place) → q.offset < 65536 → address q.segment q.offset ≡ address_of q 0
first_place q lt = let e : q.offset ≡ (q.offset + 0) % 65536 = omega arith in ap (λ n. (16 * q.segment + n) % 1048576) e

aside_at : (g h : Registers) (n : ℕ) → Aside g h → Aside g (at_offset h n)
aside_at g h n a = record { ax = a.ax; dx = a.dx; sp = a.sp; bp = a.bp; ss = a.ss; ds = a.ds; direction = a.direction }

same_bases : (g : Registers) (n : ℕ) → SameBases g (at_offset g n)
same_bases g n = record { bx = refl; bp = refl; es = refl; ss = refl; ds = refl }

-- MOV of AX and of AL to an operand that is loaded
store_tree : (x : Context) (a : Address) (q : Place) (g h : Registers) (v : ℕ) → LeadsTo x a q g → SameBases g h → q.offset < 65536 → h.ax ≡ v → v < 65536 → act h (put x a 0 word.Ax) ≡ Write (address_of q 0) (v % 256) (Write (address_of q 1) (v / 256 % 256) (Done h))
unfolding act put_word
store_tree x a q g h v l s small e fits =
    let high : v / 256 ≡ v / 256 % 256 = omega arith in
    l.segment h 0 (λ segment. write_word segment (offset_of h (operand x a 0).place) h.ax (Done h)) s
    ∙ ap (λ o. write_word q.segment o h.ax (Done h)) (offset_is x a q g h l s small)
    ∙ ap (λ n. write_word q.segment q.offset n (Done h)) e
    ∙ ap (λ place. Write place (v % 256) (Write (address q.segment (next_offset q.offset)) (v / 256) (Done h))) (first_place q small)
    ∙ ap (λ n. Write (address_of q 0) (v % 256) (Write (address_of q 1) n (Done h))) high

store_byte_tree : (x : Context) (a : Address) (q : Place) (g h : Registers) (v : ℕ) → LeadsTo x a q g → SameBases g h → q.offset < 65536 → h.ax ≡ v → act h (instr.Mov (pair.RmByte (byte_rm.Mem (operand x a 0)) byte.Al)) ≡ Write (address_of q 0) (v % 256) (Done h)
unfolding act put_byte
store_byte_tree x a q g h v l s small e =
    l.segment h 0 (λ segment. Write (address segment (offset_of h (operand x a 0).place)) (h.ax % 256) (Done h)) s
    ∙ ap (λ o. Write (address q.segment o) (h.ax % 256) (Done h)) (offset_is x a q g h l s small)
    ∙ ap (λ n. Write (address q.segment q.offset) (n % 256) (Done h)) e
    ∙ ap (λ place. Write place (v % 256) (Done h)) (first_place q small)

module _ (p : Program) (framed : Bool) (cs : Segment) (code : List ℕ) (at labels : ℕ → ℕ) (pl : Placed p cs code at) (x : Context) (error : Place) (choice : Choice) (f : Frame) (m : flat_memory.Cells) where
  -- a word is written, both of whose bytes can be reached
  word_written : (n k v : ℕ) (a : Address) (q : Place) (r : ResidentState) → r.registers.ax ≡ v → v < 65536 → Active p.installed choice f m r.registers r.cells → Stands (IsSpelledAt code) at labels (k + n) (ones (put x a 0 word.Ax ∷ [])) → Loaded p framed cs n (at (k + n)) x a r q → (m (address_of q 0) ≡ flat.Outside → ⊥) → (flat_memory.put m (address_of q 0) (flat.Known (v % 256)) (address_of q 1) ≡ flat.Outside → ⊥) → Stores p framed cs (n + 1) (at (k + n + 1)) choice f m (flat_memory.put (flat_memory.put m (address_of q 0) (flat.Known (v % 256))) (address_of q 1) (flat.Known (v / 256 % 256))) r
  word_written n k v a q r ax small active s l first second =
      let g = l.registers in
      let h = at_offset g (at (k + n + 1)) in
      let a0 = address_of q 0 in
      let a1 = address_of q 1 in
      let m1 = flat_memory.put m a0 (flat.Known (v % 256)) in
      let c1 = with_cell r.cells a0 (Known (v % 256)) in
      let c2 = with_cell c1 a1 (Known (v / 256 % 256)) in
      let near = aside_at r.registers g (at (k + n + 1)) l.fetched.aside in
      let e = l.fetched.aside.ax ∙ ax in
      let may0 = active.reached a0 first in
      let may1 = active.reached a1 (λ o. second (outside_still m a0 (v % 256) a1 first o)) in
      let c = one_tree p framed cs code at labels pl (k + n) (put x a 0 word.Ax) (Write a0 (v % 256) (Write a1 (v / 256 % 256) (Done h))) (with_memory r g r.cells) refl l.fetched.here s (store_tree x a q g h v l.operand_is (same_bases g (at (k + n + 1))) l.small e small) (may0, (may1, tt)) in
      let few = l.fetched.few in
      record {
        count = l.fetched.count + 1;
        few = omega arith;
        registers = h;
        cells = c2;
        leads = leads_on p framed l.fetched.count 1 r (with_memory r g r.cells) (with_memory r h c2) l.fetched.leads c.leads;
        here = c.here;
        active = active_byte p.installed choice f m1 h c1 a1 (v / 256 % 256) (active_byte p.installed choice f m h r.cells a0 (v % 256) (aside_active p.installed choice f m r.registers h r.cells active near) (omega arith) first) (omega arith) second;
        sp = near.sp;
        direction = near.direction;
        outside = λ place o kept. outside_kept m1 c1 a1 (v / 256 % 256) place second (outside_still m a0 (v % 256) place first o) ∙ outside_kept m r.cells a0 (v % 256) place first o;
        free = c.free;
      }

  byte_written : (n k v : ℕ) (a : Address) (q : Place) (r : ResidentState) → r.registers.ax ≡ v → Active p.installed choice f m r.registers r.cells → Stands (IsSpelledAt code) at labels (k + n) (ones (instr.Mov (pair.RmByte (byte_rm.Mem (operand x a 0)) byte.Al) ∷ [])) → Loaded p framed cs n (at (k + n)) x a r q → (m (address_of q 0) ≡ flat.Outside → ⊥) → Stores p framed cs (n + 1) (at (k + n + 1)) choice f m (flat_memory.put m (address_of q 0) (flat.Known (v % 256))) r
  byte_written n k v a q r ax active s l first =
      let g = l.registers in
      let h = at_offset g (at (k + n + 1)) in
      let a0 = address_of q 0 in
      let c1 = with_cell r.cells a0 (Known (v % 256)) in
      let near = aside_at r.registers g (at (k + n + 1)) l.fetched.aside in
      let e = l.fetched.aside.ax ∙ ax in
      let c = one_tree p framed cs code at labels pl (k + n) (instr.Mov (pair.RmByte (byte_rm.Mem (operand x a 0)) byte.Al)) (Write a0 (v % 256) (Done h)) (with_memory r g r.cells) refl l.fetched.here s (store_byte_tree x a q g h v l.operand_is (same_bases g (at (k + n + 1))) l.small e) (active.reached a0 first, tt) in
      let few = l.fetched.few in
      record {
        count = l.fetched.count + 1;
        few = omega arith;
        registers = h;
        cells = c1;
        leads = leads_on p framed l.fetched.count 1 r (with_memory r g r.cells) (with_memory r h c1) l.fetched.leads c.leads;
        here = c.here;
        active = active_byte p.installed choice f m h r.cells a0 (v % 256) (aside_active p.installed choice f m r.registers h r.cells active near) (omega arith) first;
        sp = near.sp;
        direction = near.direction;
        outside = λ place o kept. outside_kept m r.cells a0 (v % 256) place first o;
        free = c.free;
      }

  word_run : (n k v : ℕ) (a : Address) (r : ResidentState) → r.registers.ax ≡ v → v < 65536 → Active p.installed choice f m r.registers r.cells → Stands (IsSpelledAt code) at labels (k + n) (ones (put x a 0 word.Ax ∷ [])) → (found : Found Place) → LoadsTo p framed cs n (at (k + n)) x a r found → Follows p framed cs error (n + 1) (at (k + n + 1)) choice f m r (found >>= λ q. store_bytes m q 0 (word_bytes v))
  word_run n k v a r ax small active s (Err ByZero) l = absurd l
  word_run n k v a r ax small active s (Err (Bad act)) l = tt
  word_run n k v a r ax small active s (Ok q) l = by (m (address_of q 0)) refl
    where
      m1 : flat_memory.Cells
      m1 = flat_memory.put m (address_of q 0) (flat.Known (v % 256))

      m2 : flat_memory.Cells
      m2 = flat_memory.put m1 (address_of q 1) (flat.Known (v / 256 % 256))

      second_byte : (m (address_of q 0) ≡ flat.Outside → ⊥) → (y : Cell) → m1 (address_of q 1) ≡ y → Follows p framed cs error (n + 1) (at (k + n + 1)) choice f m r (if_inside y m2 >>= λ m2. Ok m2)
      second_byte first (flat.Known b) e = word_written n k v a q r ax small active s l first (λ o. cc)
      second_byte first flat.Unset e = word_written n k v a q r ax small active s l first (λ o. cc)
      second_byte first flat.Outside e = tt

      by : (y : Cell) → m (address_of q 0) ≡ y → Follows p framed cs error (n + 1) (at (k + n + 1)) choice f m r (if_inside y m1 >>= λ m'. store_bytes m' q 1 (v / 256 % 256 ∷ []))
      by (flat.Known b) e = second_byte (λ o. cc) (m1 (address_of q 1)) refl
      by flat.Unset e = second_byte (λ o. cc) (m1 (address_of q 1)) refl
      by flat.Outside e = tt

  byte_run : (n k v : ℕ) (a : Address) (r : ResidentState) → r.registers.ax ≡ v → Active p.installed choice f m r.registers r.cells → Stands (IsSpelledAt code) at labels (k + n) (ones (instr.Mov (pair.RmByte (byte_rm.Mem (operand x a 0)) byte.Al) ∷ [])) → (found : Found Place) → LoadsTo p framed cs n (at (k + n)) x a r found → Follows p framed cs error (n + 1) (at (k + n + 1)) choice f m r (found >>= λ q. store_bytes m q 0 (low_byte v ∷ []))
  byte_run n k v a r ax active s (Err ByZero) l = absurd l
  byte_run n k v a r ax active s (Err (Bad act)) l = tt
  byte_run n k v a r ax active s (Ok q) l = by (m (address_of q 0)) refl
    where
      m1 : flat_memory.Cells
      m1 = flat_memory.put m (address_of q 0) (flat.Known (v % 256))

      by : (y : Cell) → m (address_of q 0) ≡ y → Follows p framed cs error (n + 1) (at (k + n + 1)) choice f m r (if_inside y m1 >>= λ m1. Ok m1)
      by (flat.Known b) e = byte_written n k v a q r ax active s l (λ o. cc)
      by flat.Unset e = byte_written n k v a q r ax active s l (λ o. cc)
      by flat.Outside e = tt

  -- the value's code, and what follows it
  after_value : (na nb ip jp : ℕ) (r : ResidentState) (v : ℕ) (found : Found flat_memory.Cells) (a : Gives p framed cs na ip r v) → Follows p framed cs error nb jp choice f m (with_memory r a.registers a.cells) found → Follows p framed cs error (na + nb) jp choice f m r found
  after_value na nb ip jp r v (Ok m2) a b =
      let x1 = a.few in
      let x2 = b.few in
      record {
        count = a.count + b.count;
        few = omega arith;
        registers = b.registers;
        cells = b.cells;
        leads = leads_on p framed a.count b.count r (with_memory r a.registers a.cells) (with_memory r b.registers b.cells) a.leads b.leads;
        here = b.here;
        active = b.active;
        sp = b.sp ∙ a.keeps.sp;
        direction = b.direction ∙ a.keeps.direction;
        outside = λ place o kept. b.outside place o (λ low. let s = a.keeps.ss in let t = a.keeps.sp in let z = kept (omega arith) in omega arith) ∙ a.keeps.bytes place kept;
        free = λ place h. b.free place (a.keeps.free place h);
      }
  after_value na nb ip jp r v (Err ByZero) a b = fails_on p framed error na nb a.count 200 r a.registers a.cells a.few a.leads (keeps_lowers r.registers a.registers r.cells a.cells a.keeps) b
  after_value na nb ip jp r v (Err (Bad act)) a b = tt

fails_more : (p : Program) (framed : Bool) (error : Place) (m n code : ℕ) (r : ResidentState) → m ≤ n → Fails p framed error m r code → Fails p framed error n r code
fails_more p framed error m n code r e f =
    let l = f.few in
    record { count = f.count; few = omega arith; registers = f.registers; cells = f.cells; leads = f.leads; ax = f.ax; room = f.room; lower = f.lower; ss = f.ss; ds = f.ds; direction = f.direction; bytes = f.bytes; free = f.free }

module _ (p : Program) (framed : Bool) (cs : Segment) (code : List ℕ) (at labels : ℕ → ℕ) (pl : Placed p cs code at) (x : Context) (named : IsCode p x.addresses.error_routine) (choice : Choice) (f : Frame) (m : flat_memory.Cells) (suits : Suits x choice f) where
  follows_as : (n j k i : ℕ) (r : ResidentState) (found : Found flat_memory.Cells) → n ≡ j → k ≡ i → Follows p framed cs x.addresses.error_routine n (at k) choice f m r found → Follows p framed cs x.addresses.error_routine j (at i) choice f m r found
  follows_as n j k i r found e g h =
      subst (λ z. Follows p framed cs x.addresses.error_routine j (at z) choice f m r found) g (subst (λ z. Follows p framed cs x.addresses.error_routine z (at k) choice f m r found) e h)

  -- the value has come to AX, or an error
  word_after : (na k : ℕ) (to : Address) (r : ResidentState) → Active p.installed choice f m r.registers r.cells → 64 ≤ r.registers.sp → Stands (IsSpelledAt code) at labels (k + na) (ones (store_word x to)) → (va : Found ℕ) → Evaluates p framed cs x.addresses.error_routine na (at (k + na)) r va → Follows p framed cs x.addresses.error_routine (na + (length (loads x to) + 1)) (at (k + na + length (loads x to) + 1)) choice f m r (va >>= λ v. stored_at choice f m to (word_bytes v))
  word_after na k to r active room s (Ok v) a =
      let js = put x to 0 word.Ax ∷ [] in
      let r1 = with_memory r a.registers a.cells in
      let active1 = active_keeps p.installed choice f m r.registers a.registers r.cells a.cells active a.keeps in
      let l = loads_run p framed cs code at labels pl x choice f m suits to (k + na) r1 a.here active1 (let e = a.keeps.sp in let z = room in omega arith) (ones_front (IsSpelledAt code) at labels (k + na) (loads x to) js s) in
      let b = word_run p framed cs code at labels pl x x.addresses.error_routine choice f m (length (loads x to)) (k + na) v to r1 a.ax a.word active1 (ones_back (IsSpelledAt code) at labels (k + na) (loads x to) js s) (place_of choice f m to) l in
      after_value p framed cs code at labels pl x x.addresses.error_routine choice f m na (length (loads x to) + 1) (at (k + na)) (at (k + na + length (loads x to) + 1)) r v (stored_at choice f m to (word_bytes v)) a b
  word_after na k to r active room s (Err ByZero) a = fails_more p framed x.addresses.error_routine na (na + (length (loads x to) + 1)) 200 r (omega arith) a
  word_after na k to r active room s (Err (Bad act)) a = tt

  byte_after : (na k : ℕ) (to : Address) (r : ResidentState) → Active p.installed choice f m r.registers r.cells → 64 ≤ r.registers.sp → Stands (IsSpelledAt code) at labels (k + na) (ones (store_byte x to)) → (va : Found ℕ) → Evaluates p framed cs x.addresses.error_routine na (at (k + na)) r va → Follows p framed cs x.addresses.error_routine (na + (length (loads x to) + 1)) (at (k + na + length (loads x to) + 1)) choice f m r (va >>= λ v. stored_at choice f m to (low_byte v ∷ []))
  byte_after na k to r active room s (Ok v) a =
      let js = instr.Mov (pair.RmByte (byte_rm.Mem (operand x to 0)) byte.Al) ∷ [] in
      let r1 = with_memory r a.registers a.cells in
      let active1 = active_keeps p.installed choice f m r.registers a.registers r.cells a.cells active a.keeps in
      let l = loads_run p framed cs code at labels pl x choice f m suits to (k + na) r1 a.here active1 (let e = a.keeps.sp in let z = room in omega arith) (ones_front (IsSpelledAt code) at labels (k + na) (loads x to) js s) in
      let b = byte_run p framed cs code at labels pl x x.addresses.error_routine choice f m (length (loads x to)) (k + na) v to r1 a.ax active1 (ones_back (IsSpelledAt code) at labels (k + na) (loads x to) js s) (place_of choice f m to) l in
      after_value p framed cs code at labels pl x x.addresses.error_routine choice f m na (length (loads x to) + 1) (at (k + na)) (at (k + na + length (loads x to) + 1)) r v (stored_at choice f m to (low_byte v ∷ [])) a b
  byte_after na k to r active room s (Err ByZero) a = fails_more p framed x.addresses.error_routine na (na + (length (loads x to) + 1)) 200 r (omega arith) a
  byte_after na k to r active room s (Err (Bad act)) a = tt

  pub store_word_runs : (to : Address) (e : Expr) → HasWords e → (k : ℕ) (r : ResidentState) → IsAt cs (at k) r → Active p.installed choice f m r.registers r.cells → 64 + 2 * expr_depth e ≤ r.registers.sp → Stands (IsSpelledAt code) at labels k (ones (expr_code x e ++ store_word x to)) → Follows p framed cs x.addresses.error_routine (length (expr_code x e ++ store_word x to)) (at (k + length (expr_code x e ++ store_word x to))) choice f m r (value_of choice f m e >>= λ v. stored_at choice f m to (word_bytes v))
  store_word_runs to e w k r here active room s =
      let ce = expr_code x e in
      let tail = put x to 0 word.Ax ∷ [] in
      let value = expr_runs p framed cs code at labels pl x named choice f m suits e w k r here active room (ones_front (IsSpelledAt code) at labels k ce (store_word x to) s) in
      let stored = word_after (length ce) k to r active (omega arith) (ones_back (IsSpelledAt code) at labels k ce (store_word x to) s) (value_of choice f m e) value in
      let la = length-append ce (store_word x to) in
      let lb = length-append (loads x to) tail in
      follows_as (length ce + (length (loads x to) + 1)) (length (ce ++ store_word x to)) (k + length ce + length (loads x to) + 1) (k + length (ce ++ store_word x to)) r (value_of choice f m e >>= λ v. stored_at choice f m to (word_bytes v)) (omega arith) (omega arith) stored

  pub store_byte_runs : (to : Address) (e : Expr) → HasWords e → (k : ℕ) (r : ResidentState) → IsAt cs (at k) r → Active p.installed choice f m r.registers r.cells → 64 + 2 * expr_depth e ≤ r.registers.sp → Stands (IsSpelledAt code) at labels k (ones (expr_code x e ++ store_byte x to)) → Follows p framed cs x.addresses.error_routine (length (expr_code x e ++ store_byte x to)) (at (k + length (expr_code x e ++ store_byte x to))) choice f m r (value_of choice f m e >>= λ v. stored_at choice f m to (low_byte v ∷ []))
  store_byte_runs to e w k r here active room s =
      let ce = expr_code x e in
      let tail = instr.Mov (pair.RmByte (byte_rm.Mem (operand x to 0)) byte.Al) ∷ [] in
      let value = expr_runs p framed cs code at labels pl x named choice f m suits e w k r here active room (ones_front (IsSpelledAt code) at labels k ce (store_byte x to) s) in
      let stored = byte_after (length ce) k to r active (omega arith) (ones_back (IsSpelledAt code) at labels k ce (store_byte x to) s) (value_of choice f m e) value in
      let la = length-append ce (store_byte x to) in
      let lb = length-append (loads x to) tail in
      follows_as (length ce + (length (loads x to) + 1)) (length (ce ++ store_byte x to)) (k + length ce + length (loads x to) + 1) (k + length (ce ++ store_byte x to)) r (value_of choice f m e >>= λ v. stored_at choice f m to (low_byte v ∷ [])) (omega arith) (omega arith) stored
