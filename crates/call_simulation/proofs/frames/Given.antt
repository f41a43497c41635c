-- The bytes of a result go to AL, AX or DX:AX.
use Rattle.std.proofs.Common.{◌≡◌, ℕ, suc, ◌+◌, ◌*◌, ◌%◌, ◌≤◌, Bool, List, [], ◌∷◌, ◌++◌, length, Option, Some, None, Ok, Err, arith, refl, sym, ap, subst, ◌∙◌, ⊎_elim, length-append}
use Rattle.x86_table.specs.declared.instr.Instr.TheVariants as instr
use Rattle.x86_table.specs.declared.instr.Pair.TheVariants as pair
use Rattle.x86_table.specs.declared.operand.ByteOperand.TheVariants as byte_rm
use Rattle.x86_table.specs.declared.operand.ByteReg.TheVariants as byte
use Rattle.x86_table.specs.declared.operand.WordReg.{WordReg}
use Rattle.x86_table.specs.declared.operand.WordReg.TheVariants as word
use Rattle.x86_table.specs.Standing.{IsSpelledAt, Stands}
use Rattle.flat_code.specs.declared.memory.Cell.{Cell}
use Rattle.flat_code.specs.declared.memory.Cell.TheVariants as flat
use Rattle.flat_code.specs.declared.memory.Place.{Place}
use Rattle.flat_code.specs.declared.tree.Address.{Address}
use Rattle.flat_code.specs.declared.tree.FlatResult.{FlatResult}
use Rattle.flat_code.specs.Calls.{result_bytes}
use Rattle.flat_code.specs.Legal.{HasResultSize}
use Rattle.flat_code.specs.Memory as flat_memory
use Rattle.flat_code.specs.Memory.{Found, ◌>>=◌, address_of, byte_in, bytes_at}
use Rattle.flat_code.specs.Program.{Choice}
use Rattle.flat_code.specs.Values.{Frame, place_of}
use Rattle.cpu_8086.specs.declared.registers.Registers.{Registers}
use Rattle.cpu_8086.specs.Access.{Read, Done, read_word, at_offset, byte_then, word_then}
use Rattle.cpu_8086.specs.Effect.{act}
use Rattle.cpu_8086.specs.Memory.{address, next_offset}
use Rattle.cpu_8086.specs.Operand.{offset_of, with_low, with_word_reg}
use Rattle.resident_machine.specs.Cells.{Cells}
use Rattle.resident_machine.specs.Effect.{with_memory}
use Rattle.resident_machine.specs.Program.{Segment, Program}
use Rattle.resident_machine.specs.State.{ResidentState}
use Rattle.resident_machine.specs.machine_lines.Steps.{Leads}
use Rattle.resident_machine.specs.machine_lines.Straight.{ones, Placed, IsAt}
use Rattle.resident_machine.proofs.machine_lines.Steps.{leads_on}
use Rattle.code_templates.specs.code_lines.Addresses.{Context}
use Rattle.code_templates.specs.code_lines.Lines.{given, given_by}
use Rattle.code_templates.specs.code_lines.Operands.{load, loads, operand}
use Rattle.statement_simulation.specs.expressions.Active.{Suits, Active}
use Rattle.statement_simulation.proofs.expressions.Loads.{SameBases, LeadsTo, Loaded, LoadsTo, aside_active, ones_front, ones_back, fetch_word, fetch_byte}
use Rattle.statement_simulation.proofs.expressions.Places.{loads_run}
use Rattle.statement_simulation.proofs.expressions.States.{ReadsByte, ReadsWord, byte_found}
use Rattle.statement_simulation.proofs.expressions.Values.{place_is}
use Rattle.call_simulation.specs.frames.Callee.{HoldsResult}

-- registers of the frame are as they were
pub record FrameStays (g h : Registers) : Type 0 where
  pub sp : h.sp ≡ g.sp
  pub bp : h.bp ≡ g.bp
  pub ss : h.ss ≡ g.ss
  pub ds : h.ds ≡ g.ds
  pub direction : h.direction ≡ g.direction

-- ## Instructions

offset_at : (x : Context) (a : Address) (more : ℕ) (q : Place) (g h : Registers) → LeadsTo x a q g → SameBases g h → offset_of h (operand x a more).place ≡ (q.offset + more) % 65536
offset_at x a more q g h l s = ap (offset_of h) (place_is x a more) ∙ l.offset h more s

load_tree : (x : Context) (a : Address) (more : ℕ) (q : Place) (g h : Registers) (r : WordReg) → LeadsTo x a q g → SameBases g h → act h (load r (operand x a more)) ≡ read_word q.segment ((q.offset + more) % 65536) (λ v. Done (with_word_reg h r v))
unfolding act word_then
load_tree x a more q g h r l s =
    l.segment h more (λ segment. read_word segment (offset_of h (operand x a more).place) (λ v. Done (with_word_reg h r v))) s
    ∙ ap (λ o. read_word q.segment o (λ v. Done (with_word_reg h r v))) (offset_at x a more q g h l s)

byte_tree : (x : Context) (a : Address) (q : Place) (g h : Registers) → LeadsTo x a q g → SameBases g h → act h (instr.Mov (pair.ByteRm byte.Al (byte_rm.Mem (operand x a 0)))) ≡ Read (address_of q 0) (λ v. Done (record h { ax = with_low h.ax v }))
unfolding act byte_then
byte_tree x a q g h l s =
    l.segment h 0 (λ segment. Read (address segment (offset_of h (operand x a 0).place)) (λ v. Done (record h { ax = with_low h.ax v }))) s
    ∙ ap (λ o. Read (address q.segment o) (λ v. Done (record h { ax = with_low h.ax v }))) (offset_at x a 0 q g h l s)

-- ## Bytes that are found

list_in : Found (List ℕ) → List ℕ
list_in (Ok bs) = bs
list_in (Err trap) = []

-- bytes that were found: the first is known, and the others were found
pub record FirstFound (m : flat_memory.Cells) (q : Place) (i n : ℕ) (bytes : List ℕ) : Type 0 where
  pub first : ℕ
  pub others : List ℕ
  pub whole : bytes ≡ first ∷ others
  pub known : m (address_of q i) ≡ flat.Known first
  pub rest : bytes_at m q (i + 1) n ≡ Ok others

first_found : (m : flat_memory.Cells) (q : Place) (i n : ℕ) (bytes : List ℕ) → bytes_at m q i (suc n) ≡ Ok bytes → FirstFound m q i n bytes
unfolding list_in
first_found m q i n bytes e = by (m (address_of q i)) refl (bytes_at m q (i + 1) n) refl e
  where
    by : (x : Cell) → m (address_of q i) ≡ x → (found : Found (List ℕ)) → bytes_at m q (i + 1) n ≡ found → (byte_in x >>= λ b. found >>= λ bs. Ok (b ∷ bs)) ≡ Ok bytes → FirstFound m q i n bytes
    by (flat.Known b) ex (Ok bs) ef h = record { first = b; others = bs; whole = sym (ap list_in h); known = ex; rest = ef }
    by (flat.Known b) ex (Err trap) ef h = absurd (cc)
    by flat.Unset ex found ef h = absurd (cc)
    by flat.Outside ex found ef h = absurd (cc)

none_found : (m : flat_memory.Cells) (q : Place) (i : ℕ) (bytes : List ℕ) → bytes_at m q i 0 ≡ Ok bytes → bytes ≡ []
unfolding list_in
none_found m q i bytes e = sym (ap list_in e)

module _ (p : Program) (framed : Bool) (cs : Segment) (code : List ℕ) (at labels : ℕ → ℕ) (pl : Placed p cs code at) (x : Context) (choice : Choice) (f : Frame) (m : flat_memory.Cells) (suits : Suits x choice f) where
  -- at most n events lead to the line with the bytes in registers; BX, ES and what the bytes take are all that changed
  pub record Holds (n ip : ℕ) (t : ResidentState) (bytes : List ℕ) : Type 0 where
    pub count : ℕ
    pub few : count ≤ n
    pub registers : Registers
    pub leads : Leads p framed count t (with_memory t registers t.cells)
    pub here : IsAt cs ip (with_memory t registers t.cells)
    pub stays : FrameStays t.registers registers
    pub holds : HoldsResult bytes registers

  same_bases : (g : Registers) (n v : ℕ) → SameBases g (at_offset g n)
  same_bases g n v = record { bx = refl; bp = refl; es = refl; ss = refl; ds = refl }

  word_reads : (q : Place) (more a b : ℕ) (g : Registers) (c : Cells) → Active p.installed choice f m g c → 64 ≤ g.sp → m (address_of q more) ≡ flat.Known a → m (address_of q (more + 1)) ≡ flat.Known b → ReadsWord g c q.segment ((q.offset + more) % 65536) (a + 256 * b)
  word_reads q more a b g c active room first second =
      let next : (q.offset + (more + 1)) % 65536 ≡ next_offset ((q.offset + more) % 65536) = omega arith in
      record {
        low = a;
        high = b;
        low_byte = byte_found p.installed choice f m g c (address_of q more) a active room first;
        high_byte = subst (λ o. ReadsByte g c (address q.segment o) b) next (byte_found p.installed choice f m g c (address_of q (more + 1)) b active room second);
        whole = refl;
      }

  byte_given : (a : Address) (n k : ℕ) (t : ResidentState) (q : Place) (bytes : List ℕ) → Active p.installed choice f m t.registers t.cells → 64 ≤ t.registers.sp → Stands (IsSpelledAt code) at labels (k + n) (ones (instr.Mov (pair.ByteRm byte.Al (byte_rm.Mem (operand x a 0))) ∷ [])) → Loaded p framed cs n (at (k + n)) x a t q → bytes_at m q 0 1 ≡ Ok bytes → Holds (n + 1) (at (k + n + 1)) t bytes
  byte_given a n k t q bytes active room s l e =
      let one = first_found m q 0 0 bytes e in
      let g = l.registers in
      let next = at_offset g (at (k + n + 1)) in
      let h : ℕ → Registers = λ v. record next { ax = with_low g.ax v } in
      let active1 = aside_active p.installed choice f m t.registers g t.cells active l.fetched.aside in
      let sp = l.fetched.aside.sp in
      let b = byte_found p.installed choice f m g t.cells (address_of q 0) one.first active1 (omega arith) one.known in
      let c = fetch_byte p framed cs code at labels pl (k + n) (instr.Mov (pair.ByteRm byte.Al (byte_rm.Mem (operand x a 0)))) (address_of q 0) one.first h (with_memory t g t.cells) refl l.fetched.here s (byte_tree x a q g next l.operand_is (same_bases g (at (k + n + 1)) 0)) b in
      let aside = l.fetched.aside in
      let few = l.fetched.few in
      let small = b.small in
      let low : with_low g.ax one.first % 256 ≡ one.first = omega arith in
      record {
        count = l.fetched.count + 1;
        few = omega arith;
        registers = h one.first;
        leads = leads_on p framed l.fetched.count 1 t (with_memory t g t.cells) (with_memory t (h one.first) t.cells) l.fetched.leads c.leads;
        here = c.here;
        stays = record { sp = aside.sp; bp = aside.bp; ss = aside.ss; ds = aside.ds; direction = aside.direction };
        holds = subst (λ bs. HoldsResult bs (h one.first)) (ap (λ os. one.first ∷ os) (sym (none_found m q 1 one.others one.rest)) ∙ sym one.whole) low;
      }

  word_given : (a : Address) (n k : ℕ) (t : ResidentState) (q : Place) (bytes : List ℕ) → Active p.installed choice f m t.registers t.cells → 64 ≤ t.registers.sp → Stands (IsSpelledAt code) at labels (k + n) (ones (load word.Ax (operand x a 0) ∷ [])) → Loaded p framed cs n (at (k + n)) x a t q → bytes_at m q 0 2 ≡ Ok bytes → Holds (n + 1) (at (k + n + 1)) t bytes
  word_given a n k t q bytes active room s l e =
      let one = first_found m q 0 1 bytes e in
      let two = first_found m q 1 0 one.others one.rest in
      let g = l.registers in
      let next = at_offset g (at (k + n + 1)) in
      let h : ℕ → Registers = λ v. record next { ax = v } in
      let active1 = aside_active p.installed choice f m t.registers g t.cells active l.fetched.aside in
      let aside = l.fetched.aside in
      let sp = aside.sp in
      let v = one.first + 256 * two.first in
      let w = word_reads q 0 one.first two.first g t.cells active1 (omega arith) one.known two.known in
      let c = fetch_word p framed cs code at labels pl (k + n) (load word.Ax (operand x a 0)) q.segment ((q.offset + 0) % 65536) v h (with_memory t g t.cells) refl l.fetched.here s (load_tree x a 0 q g next word.Ax l.operand_is (same_bases g (at (k + n + 1)) 0)) w in
      let few = l.fetched.few in
      record {
        count = l.fetched.count + 1;
        few = omega arith;
        registers = h v;
        leads = leads_on p framed l.fetched.count 1 t (with_memory t g t.cells) (with_memory t (h v) t.cells) l.fetched.leads c.leads;
        here = c.here;
        stays = record { sp = aside.sp; bp = aside.bp; ss = aside.ss; ds = aside.ds; direction = aside.direction };
        holds = subst (λ bs. HoldsResult bs (h v)) (ap (λ os. one.first ∷ two.first ∷ os) (sym (none_found m q 2 two.others two.rest)) ∙ ap (λ os. one.first ∷ os) (sym two.whole) ∙ sym one.whole) (refl, active1.small (address_of q 0) one.first one.known, active1.small (address_of q 1) two.first two.known);
      }

  two_given : (a : Address) (n k : ℕ) (t : ResidentState) (q : Place) (bytes : List ℕ) → Active p.installed choice f m t.registers t.cells → 64 ≤ t.registers.sp → Stands (IsSpelledAt code) at labels (k + n) (ones (load word.Ax (operand x a 0) ∷ load word.Dx (operand x a 2) ∷ [])) → Loaded p framed cs n (at (k + n)) x a t q → bytes_at m q 0 4 ≡ Ok bytes → Holds (n + 2) (at (k + n + 2)) t bytes
  two_given a n k t q bytes active room s l e =
      let one = first_found m q 0 3 bytes e in
      let two = first_found m q 1 2 one.others one.rest in
      let three = first_found m q 2 1 two.others two.rest in
      let four = first_found m q 3 0 three.others three.rest in
      let g = l.registers in
      let next = at_offset g (at (k + n + 1)) in
      let h : ℕ → Registers = λ v. record next { ax = v } in
      let active1 = aside_active p.installed choice f m t.registers g t.cells active l.fetched.aside in
      let aside = l.fetched.aside in
      let sp = aside.sp in
      let v = one.first + 256 * two.first in
      let y = three.first + 256 * four.first in
      let w = word_reads q 0 one.first two.first g t.cells active1 (omega arith) one.known two.known in
      let t1 = with_memory t g t.cells in
      let c = fetch_word p framed cs code at labels pl (k + n) (load word.Ax (operand x a 0)) q.segment ((q.offset + 0) % 65536) v h t1 refl l.fetched.here (s.0, tt) (load_tree x a 0 q g next word.Ax l.operand_is (same_bases g (at (k + n + 1)) 0)) w in
      let t2 = with_memory t (h v) t.cells in
      let next2 = at_offset (h v) (at (k + n + 1 + 1)) in
      let i : ℕ → Registers = λ z. record next2 { dx = z } in
      let bases : SameBases g next2 = record { bx = refl; bp = refl; es = refl; ss = refl; ds = refl } in
      let w1 = word_reads q 2 three.first four.first g t.cells active1 (omega arith) three.known four.known in
      let w2 : ReadsWord (h v) t.cells q.segment ((q.offset + 2) % 65536) y = record { low = w1.low; high = w1.high; low_byte = record { known = w1.low_byte.known; above = w1.low_byte.above; small = w1.low_byte.small }; high_byte = record { known = w1.high_byte.known; above = w1.high_byte.above; small = w1.high_byte.small }; whole = w1.whole } in
      let c2 = fetch_word p framed cs code at labels pl (k + n + 1) (load word.Dx (operand x a 2)) q.segment ((q.offset + 2) % 65536) y i t2 refl c.here s.1 (load_tree x a 2 q g next2 word.Dx l.operand_is bases) w2 in
      let few = l.fetched.few in
      let there : k + n + 1 + 1 ≡ k + n + 2 = omega arith in
      let bytes_are = ap (λ os. one.first ∷ two.first ∷ three.first ∷ four.first ∷ os) (sym (none_found m q 4 four.others four.rest)) ∙ ap (λ os. one.first ∷ two.first ∷ three.first ∷ os) (sym four.whole) ∙ ap (λ os. one.first ∷ two.first ∷ os) (sym three.whole) ∙ ap (λ os. one.first ∷ os) (sym two.whole) ∙ sym one.whole in
      record {
        count = l.fetched.count + (1 + 1);
        few = omega arith;
        registers = i y;
        leads = leads_on p framed l.fetched.count (1 + 1) t t1 (with_memory t (i y) t.cells) l.fetched.leads (leads_on p framed 1 1 t1 t2 (with_memory t (i y) t.cells) c.leads c2.leads);
        here = subst (λ z. IsAt cs (at z) (with_memory t (i y) t.cells)) there c2.here;
        stays = record { sp = aside.sp; bp = aside.bp; ss = aside.ss; ds = aside.ds; direction = aside.direction };
        holds = subst (λ bs. HoldsResult bs (i y)) bytes_are (refl, refl, active1.small (address_of q 0) one.first one.known, active1.small (address_of q 1) two.first two.known, active1.small (address_of q 2) three.first three.known, active1.small (address_of q 3) four.first four.known);
      }

  -- ## By the bytes of the result

  found_place : {A : Type 0} (found : Found Place) (go : Place → Found A) (v : A) → (found >>= go) ≡ Ok v → (q : Place) × (found ≡ Ok q) × (go q ≡ Ok v)
  found_place (Ok q) go v e = (q, refl, e)
  found_place (Err trap) go v e = absurd (cc)

  loaded : (n k : ℕ) (a : Address) (t : ResidentState) (found : Found Place) (q : Place) → found ≡ Ok q → LoadsTo p framed cs n (at k) x a t found → Loaded p framed cs n (at k) x a t q
  loaded n k a t (Ok z) q e l = subst (λ o. Loaded p framed cs n (at k) x a t o) (ap or_none e) l
    where
      or_none : Found Place → Place
      or_none (Ok o) = o
      or_none (Err trap) = z
  loaded n k a t (Err trap) q e l = absurd (cc)

  holds_as : (n i k j : ℕ) (t : ResidentState) (bytes : List ℕ) → n ≡ i → k ≡ j → Holds n (at k) t bytes → Holds i (at j) t bytes
  holds_as n i k j t bytes e h a = subst (λ z. Holds i (at z) t bytes) h (subst (λ z. Holds z (at k) t bytes) e a)

  given_one : (a : Address) (k : ℕ) (t : ResidentState) (bytes : List ℕ) → IsAt cs (at k) t → Active p.installed choice f m t.registers t.cells → 64 ≤ t.registers.sp → (place_of choice f m a >>= λ q. bytes_at m q 0 1) ≡ Ok bytes → Stands (IsSpelledAt code) at labels k (ones (given_by 1 x a)) → Holds (length (given_by 1 x a)) (at (k + length (given_by 1 x a))) t bytes
  given_one a k t bytes here active room e s =
      let ls = loads x a in
      let js = instr.Mov (pair.ByteRm byte.Al (byte_rm.Mem (operand x a 0))) ∷ [] in
      let size = length-append ls js in
      let found = found_place (place_of choice f m a) (λ q. bytes_at m q 0 1) bytes e in
      let l = loads_run p framed cs code at labels pl x choice f m suits a k t here active room (ones_front (IsSpelledAt code) at labels k ls js s) in
      holds_as (length ls + 1) (length (ls ++ js)) (k + length ls + 1) (k + length (ls ++ js)) t bytes (omega arith) (omega arith)
      (byte_given a (length ls) k t found.0 bytes active room (ones_back (IsSpelledAt code) at labels k ls js s) (loaded (length ls) (k + length ls) a t (place_of choice f m a) found.0 found.1 l) found.2)

  given_two : (a : Address) (k : ℕ) (t : ResidentState) (bytes : List ℕ) → IsAt cs (at k) t → Active p.installed choice f m t.registers t.cells → 64 ≤ t.registers.sp → (place_of choice f m a >>= λ q. bytes_at m q 0 2) ≡ Ok bytes → Stands (IsSpelledAt code) at labels k (ones (given_by 2 x a)) → Holds (length (given_by 2 x a)) (at (k + length (given_by 2 x a))) t bytes
  given_two a k t bytes here active room e s =
      let ls = loads x a in
      let js = load word.Ax (operand x a 0) ∷ [] in
      let size = length-append ls js in
      let found = found_place (place_of choice f m a) (λ q. bytes_at m q 0 2) bytes e in
      let l = loads_run p framed cs code at labels pl x choice f m suits a k t here active room (ones_front (IsSpelledAt code) at labels k ls js s) in
      holds_as (length ls + 1) (length (ls ++ js)) (k + length ls + 1) (k + length (ls ++ js)) t bytes (omega arith) (omega arith)
      (word_given a (length ls) k t found.0 bytes active room (ones_back (IsSpelledAt code) at labels k ls js s) (loaded (length ls) (k + length ls) a t (place_of choice f m a) found.0 found.1 l) found.2)

  given_four : (a : Address) (k : ℕ) (t : ResidentState) (bytes : List ℕ) → IsAt cs (at k) t → Active p.installed choice f m t.registers t.cells → 64 ≤ t.registers.sp → (place_of choice f m a >>= λ q. bytes_at m q 0 4) ≡ Ok bytes → Stands (IsSpelledAt code) at labels k (ones (given_by 4 x a)) → Holds (length (given_by 4 x a)) (at (k + length (given_by 4 x a))) t bytes
  given_four a k t bytes here active room e s =
      let ls = loads x a in
      let js = load word.Ax (operand x a 0) ∷ load word.Dx (operand x a 2) ∷ [] in
      let size = length-append ls js in
      let found = found_place (place_of choice f m a) (λ q. bytes_at m q 0 4) bytes e in
      let l = loads_run p framed cs code at labels pl x choice f m suits a k t here active room (ones_front (IsSpelledAt code) at labels k ls js s) in
      holds_as (length ls + 2) (length (ls ++ js)) (k + length ls + 2) (k + length (ls ++ js)) t bytes (omega arith) (omega arith)
      (two_given a (length ls) k t found.0 bytes active room (ones_back (IsSpelledAt code) at labels k ls js s) (loaded (length ls) (k + length ls) a t (place_of choice f m a) found.0 found.1 l) found.2)

  -- whatever result there is
  pub given_run : (result : Option FlatResult) (k : ℕ) (t : ResidentState) (bytes : List ℕ) → HasResultSize result → IsAt cs (at k) t → Active p.installed choice f m t.registers t.cells → 64 ≤ t.registers.sp → result_bytes choice f m result ≡ Ok bytes → Stands (IsSpelledAt code) at labels k (ones (given x result)) → Holds (length (given x result)) (at (k + length (given x result))) t bytes
  given_run None k t bytes sized here active room e s =
      let there : k ≡ k + 0 = omega arith in
      record {
        count = 0;
        few = omega arith;
        registers = t.registers;
        leads = refl;
        here = subst (λ z. IsAt cs (at z) t) there here;
        stays = record { sp = refl; bp = refl; ss = refl; ds = refl; direction = refl };
        holds = subst (λ bs. HoldsResult bs t.registers) (ap (λ (o : Found (List ℕ)). list_of o) e) tt;
      }
    where
      list_of : Found (List ℕ) → List ℕ
      list_of (Ok bs) = bs
      list_of (Err trap) = []
  given_run (Some result) k t bytes sized here active room e s = ⊎_elim (λ one. by 1 (sym one) one_runs) (λ more. ⊎_elim (λ two. by 2 (sym two) two_runs) (λ four. by 4 (sym four) four_runs) more) sized
    where
      a : Address
      a = result.at

      Runs : ℕ → Type 0
      Runs n = (place_of choice f m a >>= λ q. bytes_at m q 0 n) ≡ Ok bytes → Stands (IsSpelledAt code) at labels k (ones (given_by n x a)) → Holds (length (given_by n x a)) (at (k + length (given_by n x a))) t bytes

      one_runs : Runs 1
      one_runs e s = given_one a k t bytes here active room e s

      two_runs : Runs 2
      two_runs e s = given_two a k t bytes here active room e s

      four_runs : Runs 4
      four_runs e s = given_four a k t bytes here active room e s

      by : (n : ℕ) → n ≡ result.bytes → Runs n → Holds (length (given_by result.bytes x a)) (at (k + length (given_by result.bytes x a))) t bytes
      by n same runs = subst (λ i. Runs i) same runs e s
