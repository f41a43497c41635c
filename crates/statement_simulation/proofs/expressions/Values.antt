-- Numbers, bytes, words and addresses come to AX.
use Rattle.std.proofs.Common.{◌≡◌, ℕ, zero, suc, ◌+◌, ◌*◌, ◌%◌, ◌<◌, ◌≤◌, Bool, true, List, [], ◌∷◌, Ok, Err, arith, refl, ap, subst, ◌∙◌}
use Rattle.x86_table.specs.declared.instr.Instr.{Instr}
use Rattle.x86_table.specs.declared.instr.Instr.TheVariants as instr
use Rattle.x86_table.specs.declared.instr.Pair.TheVariants as pair
use Rattle.x86_table.specs.declared.operand.ByteOperand.TheVariants as byte_rm
use Rattle.x86_table.specs.declared.operand.ByteReg.TheVariants as byte
use Rattle.x86_table.specs.declared.operand.SegReg.TheVariants as seg
use Rattle.x86_table.specs.declared.operand.WordOperand.TheVariants as word_rm
use Rattle.x86_table.specs.declared.operand.WordReg.{WordReg}
use Rattle.x86_table.specs.declared.operand.WordReg.TheVariants as word
use Rattle.x86_table.specs.Standing.{IsSpelledAt, Stands}
use Rattle.flat_code.specs.declared.memory.Place.{Place}
use Rattle.flat_code.specs.declared.memory.Trap.TheVariants.{ByZero, Bad}
use Rattle.flat_code.specs.declared.tree.Address.{Address}
use Rattle.flat_code.specs.declared.tree.Address.TheVariants.{Global, Local, Outer, Through}
use Rattle.flat_code.specs.Memory as flat_memory
use Rattle.flat_code.specs.Memory.{Found, ◌>>=◌, word_at, byte_at}
use Rattle.flat_code.specs.Program.{Choice}
use Rattle.flat_code.specs.Values.{Frame}
use Rattle.cpu_8086.specs.declared.registers.Registers.{Registers}
use Rattle.cpu_8086.specs.Access.{Done, Read, read_word, at_offset, byte_then, word_then, put_word}
use Rattle.cpu_8086.specs.Effect.{act}
use Rattle.cpu_8086.specs.Memory.{address}
use Rattle.cpu_8086.specs.Operand.{with_word_reg, with_low, offset_of}
use Rattle.resident_machine.specs.Effect.{with_memory}
use Rattle.resident_machine.specs.Program.{Segment, Program}
use Rattle.resident_machine.specs.State.{ResidentState}
use Rattle.resident_machine.specs.machine_lines.Steps.{Leads}
use Rattle.resident_machine.specs.machine_lines.Straight.{is_plain, ones, Placed, IsAt}
use Rattle.resident_machine.proofs.machine_lines.Straight.{line}
use Rattle.resident_machine.proofs.machine_lines.Steps.{leads_on}
use Rattle.code_templates.specs.code_lines.Addresses.{Context}
use Rattle.code_templates.specs.code_lines.Operands.{memory_at, load, operand_place, operand}
use Rattle.code_templates.specs.code_lines.Expressions.{segment_code}
use Rattle.statement_simulation.specs.expressions.Active.{Suits, Active}
use Rattle.statement_simulation.specs.expressions.Evaluates.{Gives, Evaluates}
use Rattle.statement_simulation.proofs.expressions.States.{keeps_same, word_found, byte_found_at, word_small, word_no_division, byte_no_division}
use Rattle.statement_simulation.proofs.expressions.Loads.{SameBases, LeadsTo, SegmentIn, Fetched, LoadsTo, aside_active, fetch_word, fetch_byte, one_tree}

same_bases : (g : Registers) (n : ℕ) → SameBases g (at_offset g n)
same_bases g n = record { bx = refl; bp = refl; es = refl; ss = refl; ds = refl }

pub place_is : (x : Context) (a : Address) (more : ℕ) → (operand x a more).place ≡ operand_place x a more
place_is x (Global unit number plus) more = refl
place_is x (Local d) more = refl
place_is x (Outer zero d) more = refl
place_is x (Outer (suc n) d) more = refl
place_is x (Through slot plus) more = refl

-- the offset of an operand that is loaded
pub offset_is : (x : Context) (a : Address) (q : Place) (g h : Registers) → LeadsTo x a q g → SameBases g h → q.offset < 65536 → offset_of h (operand x a 0).place ≡ q.offset
offset_is x a q g h l s small = ap (offset_of h) (place_is x a 0) ∙ l.offset h 0 s ∙ (omega arith)

-- MOV of a word and of a byte from an operand that is loaded
load_tree : (x : Context) (a : Address) (q : Place) (g h : Registers) (r : WordReg) → LeadsTo x a q g → SameBases g h → q.offset < 65536 → act h (load r (operand x a 0)) ≡ read_word q.segment q.offset (λ v. Done (with_word_reg h r v))
unfolding act word_then
load_tree x a q g h r l s small =
    l.segment h 0 (λ segment. read_word segment (offset_of h (operand x a 0).place) (λ v. Done (with_word_reg h r v))) s
    ∙ ap (λ o. read_word q.segment o (λ v. Done (with_word_reg h r v))) (offset_is x a q g h l s small)

byte_tree : (x : Context) (a : Address) (q : Place) (g h : Registers) → LeadsTo x a q g → SameBases g h → q.offset < 65536 → act h (instr.Mov (pair.ByteRm byte.Al (byte_rm.Mem (operand x a 0)))) ≡ Read (address q.segment q.offset) (λ v. Done (record h { ax = with_low h.ax v }))
unfolding act byte_then
byte_tree x a q g h l s small =
    l.segment h 0 (λ segment. Read (address segment (offset_of h (operand x a 0).place)) (λ v. Done (record h { ax = with_low h.ax v }))) s
    ∙ ap (λ o. Read (address q.segment o) (λ v. Done (record h { ax = with_low h.ax v }))) (offset_is x a q g h l s small)

lea_tree : (x : Context) (a : Address) (q : Place) (g h : Registers) → LeadsTo x a q g → SameBases g h → q.offset < 65536 → act h (instr.Lea word.Ax (memory_at (operand_place x a 0))) ≡ Done (record h { ax = q.offset })
unfolding act
lea_tree x a q g h l s small = ap (λ n. Done (record h { ax = n })) (l.offset h 0 s ∙ (omega arith))

from_ds : (h : Registers) → act h (instr.MovFromSeg (word_rm.Reg word.Ax) seg.Ds) ≡ Done (record h { ax = h.ds })
unfolding act put_word
from_ds h = refl

from_ss : (h : Registers) → act h (instr.MovFromSeg (word_rm.Reg word.Ax) seg.Ss) ≡ Done (record h { ax = h.ss })
unfolding act put_word
from_ss h = refl

from_es : (h : Registers) → act h (instr.MovFromSeg (word_rm.Reg word.Ax) seg.Es) ≡ Done (record h { ax = h.es })
unfolding act put_word
from_es h = refl

-- the one instruction that takes the segment of a place
abbrev taken_segment : Address → Registers → ℕ
taken_segment (Global unit number plus) h = h.ds
taken_segment (Local d) h = h.ss
taken_segment (Outer levels d) h = h.ss
taken_segment (Through slot plus) h = h.es

abbrev segment_instr : Address → Instr
segment_instr (Global unit number plus) = instr.MovFromSeg (word_rm.Reg word.Ax) seg.Ds
segment_instr (Local d) = instr.MovFromSeg (word_rm.Reg word.Ax) seg.Ss
segment_instr (Outer levels d) = instr.MovFromSeg (word_rm.Reg word.Ax) seg.Ss
segment_instr (Through slot plus) = instr.MovFromSeg (word_rm.Reg word.Ax) seg.Es

segment_one : (a : Address) → segment_code a ≡ segment_instr a ∷ []
segment_one (Global unit number plus) = refl
segment_one (Local d) = refl
segment_one (Outer levels d) = refl
segment_one (Through slot plus) = refl

segment_plain : (a : Address) → is_plain (segment_instr a) ≡ true
segment_plain (Global unit number plus) = refl
segment_plain (Local d) = refl
segment_plain (Outer levels d) = refl
segment_plain (Through slot plus) = refl

segment_tree : (a : Address) (h : Registers) → act h (segment_instr a) ≡ Done (record h { ax = taken_segment a h })
segment_tree (Global unit number plus) h = from_ds h
segment_tree (Local d) h = from_ss h
segment_tree (Outer levels d) h = from_ss h
segment_tree (Through slot plus) h = from_es h

segment_is : (a : Address) (q : Place) (g : Registers) (n : ℕ) → SegmentIn a q g → taken_segment a (at_offset g n) ≡ q.segment
segment_is (Global unit number plus) q g n e = e
segment_is (Local d) q g n e = e
segment_is (Outer levels d) q g n e = e
segment_is (Through slot plus) q g n e = e

module _ (p : Program) (framed : Bool) (cs : Segment) (code : List ℕ) (at labels : ℕ → ℕ) (pl : Placed p cs code at) (x : Context) (choice : Choice) (f : Frame) (m : flat_memory.Cells) (suits : Suits x choice f) where
  -- what was fetched, and a value after it
  value_from : (n j ip jp : ℕ) (r : ResidentState) (g h : Registers) (v : ℕ) → Fetched p framed cs n ip r g → Leads p framed j (with_memory r g r.cells) (with_memory r h r.cells) → IsAt cs jp (with_memory r h r.cells) → h.ax ≡ v → v < 65536 → h.sp ≡ g.sp → h.bp ≡ g.bp → h.ss ≡ g.ss → h.ds ≡ g.ds → h.direction ≡ g.direction → Gives p framed cs (n + j) jp r v
  value_from n j ip jp r g h v a l here ax small sp bp ss ds direction =
      let z = a.few in
      record {
        count = a.count + j;
        few = omega arith;
        registers = h;
        cells = r.cells;
        leads = leads_on p framed a.count j r (with_memory r g r.cells) (with_memory r h r.cells) a.leads l;
        here = here;
        ax = ax;
        word = small;
        keeps = keeps_same r.registers h r.cells (sp ∙ a.aside.sp) (bp ∙ a.aside.bp) (ss ∙ a.aside.ss) (ds ∙ a.aside.ds) (direction ∙ a.aside.direction);
      }

  -- a value without anything fetched: an instruction with a number
  pub number_run : (error : Place) (k v : ℕ) (r : ResidentState) → IsAt cs (at k) r → Stands (IsSpelledAt code) at labels k (ones (instr.MovWord word.Ax v ∷ [])) → v < 65536 → Evaluates p framed cs error 1 (at (k + 1)) r (Ok v)
  unfolding act
  number_run error k v r here s small =
      let c = line p framed cs code at labels pl k (instr.MovWord word.Ax v ∷ []) r refl here s tt in
      record {
        count = 1;
        few = omega arith;
        registers = record (at_offset r.registers (at (k + 1))) { ax = v };
        cells = r.cells;
        leads = c.leads;
        here = c.here;
        ax = refl;
        word = small;
        keeps = keeps_same r.registers (record (at_offset r.registers (at (k + 1))) { ax = v }) r.cells refl refl refl refl refl;
      }

  pub word_run : (error : Place) (a : Address) (n k : ℕ) (r : ResidentState) → Active p.installed choice f m r.registers r.cells → 64 ≤ r.registers.sp → Stands (IsSpelledAt code) at labels (k + n) (ones (load word.Ax (operand x a 0) ∷ [])) → (found : Found Place) → LoadsTo p framed cs n (at (k + n)) x a r found → Evaluates p framed cs error (n + 1) (at (k + n + 1)) r (found >>= λ q. word_at m q)
  word_run error a n k r active room s (Err ByZero) l = absurd l
  word_run error a n k r active room s (Err (Bad act)) l = tt
  word_run error a n k r active room s (Ok q) l = by (word_at m q) refl
    where
      g : Registers
      g = l.registers

      h : ℕ → Registers
      h v = record (at_offset g (at (k + n + 1))) { ax = v }

      by : (w : Found ℕ) → word_at m q ≡ w → Evaluates p framed cs error (n + 1) (at (k + n + 1)) r w
      by (Err ByZero) e = absurd (word_no_division m q e)
      by (Err (Bad act)) e = tt
      by (Ok v) e =
          let sp = l.fetched.aside.sp in
          let reads = word_found p.installed choice f m l.registers r.cells q v (aside_active p.installed choice f m r.registers l.registers r.cells active l.fetched.aside) (let z = room in omega arith) l.small e in
          let c = fetch_word p framed cs code at labels pl (k + n) (load word.Ax (operand x a 0)) q.segment q.offset v h (with_memory r g r.cells) refl l.fetched.here s (load_tree x a q g (at_offset g (at (k + n + 1))) word.Ax l.operand_is (same_bases g (at (k + n + 1))) l.small) reads in
          value_from n 1 (at (k + n)) (at (k + n + 1)) r g (h v) v l.fetched c.leads c.here refl (word_small g r.cells q.segment q.offset v reads) refl refl refl refl refl

  pub address_run : (error : Place) (a : Address) (n k : ℕ) (r : ResidentState) → Stands (IsSpelledAt code) at labels (k + n) (ones (instr.Lea word.Ax (memory_at (operand_place x a 0)) ∷ [])) → (found : Found Place) → LoadsTo p framed cs n (at (k + n)) x a r found → Evaluates p framed cs error (n + 1) (at (k + n + 1)) r (found >>= λ q. Ok q.offset)
  address_run error a n k r s (Err ByZero) l = absurd l
  address_run error a n k r s (Err (Bad act)) l = tt
  address_run error a n k r s (Ok q) l =
      let g = l.registers in
      let h = record (at_offset g (at (k + n + 1))) { ax = q.offset } in
      let c = one_tree p framed cs code at labels pl (k + n) (instr.Lea word.Ax (memory_at (operand_place x a 0))) (Done h) (with_memory r g r.cells) refl l.fetched.here s (lea_tree x a q g (at_offset g (at (k + n + 1))) l.operand_is (same_bases g (at (k + n + 1))) l.small) tt in
      value_from n 1 (at (k + n)) (at (k + n + 1)) r g h q.offset l.fetched c.leads c.here refl l.small refl refl refl refl refl

  pub segment_run : (error : Place) (a : Address) (n k : ℕ) (r : ResidentState) → Stands (IsSpelledAt code) at labels (k + n) (ones (segment_code a)) → (found : Found Place) → LoadsTo p framed cs n (at (k + n)) x a r found → Evaluates p framed cs error (n + 1) (at (k + n + 1)) r (found >>= λ q. Ok q.segment)
  segment_run error a n k r s (Err ByZero) l = absurd l
  segment_run error a n k r s (Err (Bad act)) l = tt
  segment_run error a n k r s (Ok q) l =
      let g = l.registers in
      let s1 = subst (λ is. Stands (IsSpelledAt code) at labels (k + n) (ones is)) (segment_one a) s in
      let next = at_offset g (at (k + n + 1)) in
      let h = record next { ax = taken_segment a next } in
      let c = one_tree p framed cs code at labels pl (k + n) (segment_instr a) (Done h) (with_memory r g r.cells) (segment_plain a) l.fetched.here s1 (segment_tree a next) tt in
      value_from n 1 (at (k + n)) (at (k + n + 1)) r g h q.segment l.fetched c.leads c.here (segment_is a q g (at (k + n + 1)) l.operand_is.segment_in) l.segment_small refl refl refl refl refl

  -- a byte into AL, and 0 into AH
  pub byte_run : (error : Place) (a : Address) (n k : ℕ) (r : ResidentState) → Active p.installed choice f m r.registers r.cells → 64 ≤ r.registers.sp → Stands (IsSpelledAt code) at labels (k + n) (ones (instr.Mov (pair.ByteRm byte.Al (byte_rm.Mem (operand x a 0))) ∷ instr.MovByte byte.Ah 0 ∷ [])) → (found : Found Place) → LoadsTo p framed cs n (at (k + n)) x a r found → Evaluates p framed cs error (n + 2) (at (k + n + 2)) r (found >>= λ q. byte_at m q 0)
  unfolding act
  byte_run error a n k r active room s (Err ByZero) l = absurd l
  byte_run error a n k r active room s (Err (Bad act)) l = tt
  byte_run error a n k r active room s (Ok q) l = by (byte_at m q 0) refl
    where
      g : Registers
      g = l.registers

      h : ℕ → Registers
      h v = record (at_offset g (at (k + n + 1))) { ax = with_low g.ax v }

      by : (w : Found ℕ) → byte_at m q 0 ≡ w → Evaluates p framed cs error (n + 2) (at (k + n + 2)) r w
      by (Err ByZero) e = absurd (byte_no_division m q 0 e)
      by (Err (Bad act)) e = tt
      by (Ok v) e =
          let sp = l.fetched.aside.sp in
          let reads = byte_found_at p.installed choice f m l.registers r.cells q v (aside_active p.installed choice f m r.registers l.registers r.cells active l.fetched.aside) (let z = room in omega arith) l.small e in
          let c = fetch_byte p framed cs code at labels pl (k + n) (instr.Mov (pair.ByteRm byte.Al (byte_rm.Mem (operand x a 0)))) (address q.segment q.offset) v h (with_memory r g r.cells) refl l.fetched.here (s.0, tt) (byte_tree x a q g (at_offset g (at (k + n + 1))) l.operand_is (same_bases g (at (k + n + 1))) l.small) reads in
          let d = line p framed cs code at labels pl (k + n + 1) (instr.MovByte byte.Ah 0 ∷ []) (with_memory r (h v) r.cells) refl c.here s.1 tt in
          let small = reads.small in
          let two : k + n + 1 + 1 ≡ k + n + 2 = omega arith in
          let i = record (at_offset (h v) (at (k + n + 1 + 1))) { ax = 256 * 0 + with_low g.ax v % 256 } in
          value_from n 2 (at (k + n)) (at (k + n + 2)) r g i v l.fetched
          (leads_on p framed 1 1 (with_memory r g r.cells) (with_memory r (h v) r.cells) (with_memory r i r.cells) c.leads d.leads)
          (subst (λ j. IsAt cs (at j) (with_memory r i r.cells)) two d.here) (omega arith) (omega arith) refl refl refl refl refl
