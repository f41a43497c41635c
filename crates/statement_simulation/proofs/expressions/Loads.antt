-- What is loaded before an operand leads to the place that flat code names.
use Rattle.std.proofs.Common.{◌≡◌, ℕ, suc, ◌+◌, ◌%◌, ◌<◌, ◌≤◌, Bool, true, List, [], ◌∷◌, ◌++◌, length, Some, Ok, Err, arith, refl, sym, ap, subst, ◌∙◌}
use Rattle.std.specs.Prelude.{◌&&◌}
use Rattle.x86_table.specs.declared.instr.Instr.{Instr}
use Rattle.x86_table.specs.declared.instr.Instr.TheVariants as instr
use Rattle.x86_table.specs.declared.operand.Base.TheVariants as base
use Rattle.x86_table.specs.declared.operand.Place.TheVariants.{Direct}
use Rattle.x86_table.specs.declared.operand.SegReg.TheVariants as seg
use Rattle.x86_table.specs.declared.operand.WordReg.TheVariants as word
use Rattle.x86_table.specs.Standing.{IsSpelledAt, Stands}
use Rattle.flat_code.specs.declared.memory.Place.{Place}
use Rattle.flat_code.specs.declared.memory.Trap.TheVariants.{ByZero, Bad}
use Rattle.flat_code.specs.declared.tree.Address.{Address}
use Rattle.flat_code.specs.declared.tree.Address.TheVariants.{Global, Local, Outer, Through}
use Rattle.flat_code.specs.Memory as flat_memory
use Rattle.flat_code.specs.Memory.{Found, ◌>>=◌, place_after, word_at, far_at}
use Rattle.flat_code.specs.Program.{Choice}
use Rattle.flat_code.specs.Values.{Frame}
use Rattle.cpu_8086.specs.declared.registers.Registers.{Registers}
use Rattle.cpu_8086.specs.Access.{Act, Done, Read, read_word, segment_then, at_offset, in_segment, word_then}
use Rattle.cpu_8086.specs.Effect.{act}
use Rattle.cpu_8086.specs.Memory.{address, next_offset, word_of as word_from}
use Rattle.cpu_8086.specs.Operand.{offset_of}
use Rattle.resident_machine.specs.Cells.{Cells}
use Rattle.resident_machine.specs.Effect.{with_memory}
use Rattle.resident_machine.specs.Program.{Segment, Program}
use Rattle.resident_machine.specs.State.{ResidentState}
use Rattle.resident_machine.specs.machine_lines.Steps.{Leads, number_in}
use Rattle.resident_machine.specs.machine_lines.Straight.{is_plain, ones, Asks, tree, registers_after, cells_after, Placed, IsAt, Carried}
use Rattle.resident_machine.proofs.machine_lines.Straight.{line}
use Rattle.resident_machine.proofs.machine_lines.Steps.{leads_on}
use Rattle.code_templates.specs.code_lines.Addresses.{Context}
use Rattle.code_templates.specs.code_lines.Operands.{memory_at, frame_memory, load, hop, operand_place, operand, displaced}
use Rattle.statement_simulation.specs.expressions.Active.{Active}
use Rattle.statement_simulation.proofs.expressions.States.{ReadsByte, ReadsWord, keeps_same, active_keeps, word_value, is_known}
use Rattle.statement_simulation.proofs.expressions.Operands.{displaced_offset, displaced_segment, direct_segment}

-- registers that operands depend on
pub record SameBases (g h : Registers) : Type 0 where
  pub bx : h.bx ≡ g.bx
  pub bp : h.bp ≡ g.bp
  pub es : h.es ≡ g.es
  pub ss : h.ss ≡ g.ss
  pub ds : h.ds ≡ g.ds

-- the register that holds the place's segment
abbrev pub SegmentIn : Address → Place → Registers → Type 0
SegmentIn (Global unit number plus) q g = g.ds ≡ q.segment
SegmentIn (Local d) q g = g.ss ≡ q.segment
SegmentIn (Outer levels d) q g = g.ss ≡ q.segment
SegmentIn (Through slot plus) q g = g.es ≡ q.segment

-- the operand leads to the place, with so many bytes more
pub record LeadsTo (x : Context) (a : Address) (q : Place) (g : Registers) : Type 0 where
  pub segment : (h : Registers) (more : ℕ) (next : ℕ → Act) → SameBases g h → segment_then h (operand x a more) next ≡ next q.segment
  pub offset : (h : Registers) (more : ℕ) → SameBases g h → offset_of h (operand_place x a more) ≡ (q.offset + more) % 65536
  pub segment_in : SegmentIn a q g

-- registers that loading leaves as they are
pub record Aside (g h : Registers) : Type 0 where
  pub ax : h.ax ≡ g.ax
  pub dx : h.dx ≡ g.dx
  pub sp : h.sp ≡ g.sp
  pub bp : h.bp ≡ g.bp
  pub ss : h.ss ≡ g.ss
  pub ds : h.ds ≡ g.ds
  pub direction : h.direction ≡ g.direction

-- at most n events lead to these registers, which differ in BX, ES and IP alone
pub record Fetched (p : Program) (framed : Bool) (cs : Segment) (n ip : ℕ) (r : ResidentState) (h : Registers) : Type 0 where
  pub count : ℕ
  pub few : count ≤ n
  pub leads : Leads p framed count r (with_memory r h r.cells)
  pub here : IsAt cs ip (with_memory r h r.cells)
  pub aside : Aside r.registers h

-- they load what the operand needs
pub record Loaded (p : Program) (framed : Bool) (cs : Segment) (n ip : ℕ) (x : Context) (a : Address) (r : ResidentState) (q : Place) : Type 0 where
  pub registers : Registers
  pub fetched : Fetched p framed cs n ip r registers
  pub operand_is : LeadsTo x a q registers
  pub small : q.offset < 65536
  pub segment_small : q.segment < 65536

abbrev pub LoadsTo : Program → Bool → Segment → ℕ → ℕ → Context → Address → ResidentState → Found Place → Type 0
LoadsTo p framed cs n ip x a r (Ok q) = Loaded p framed cs n ip x a r q
LoadsTo p framed cs n ip x a r (Err ByZero) = ⊥
LoadsTo p framed cs n ip x a r (Err (Bad _)) = Unit {0}

-- they lead BX along links
pub record Linked (p : Program) (framed : Bool) (cs : Segment) (n ip : ℕ) (r : ResidentState) (link : ℕ) : Type 0 where
  pub registers : Registers
  pub fetched : Fetched p framed cs n ip r registers
  pub bx : registers.bx ≡ link
  pub small : link < 65536

abbrev pub LinksTo : Program → Bool → Segment → ℕ → ℕ → ResidentState → Found ℕ → Type 0
LinksTo p framed cs n ip r (Ok link) = Linked p framed cs n ip r link
LinksTo p framed cs n ip r (Err ByZero) = ⊥
LinksTo p framed cs n ip r (Err (Bad _)) = Unit {0}

aside_on : (g h i : Registers) → Aside g h → Aside h i → Aside g i
aside_on g h i a b = record { ax = b.ax ∙ a.ax; dx = b.dx ∙ a.dx; sp = b.sp ∙ a.sp; bp = b.bp ∙ a.bp; ss = b.ss ∙ a.ss; ds = b.ds ∙ a.ds; direction = b.direction ∙ a.direction }

pub aside_bx : (g : Registers) (n v e : ℕ) → Aside g (record (at_offset g n) { bx = v; es = e })
aside_bx g n v e = record { ax = refl; dx = refl; sp = refl; bp = refl; ss = refl; ds = refl; direction = refl }

pub aside_active : (flag : ℕ) (choice : Choice) (f : Frame) (m : flat_memory.Cells) (g h : Registers) (c : Cells) → Active flag choice f m g c → Aside g h → Active flag choice f m h c
aside_active flag choice f m g h c a s = active_keeps flag choice f m g h c c a (keeps_same g h c s.sp s.bp s.ss s.ds s.direction)

plain_one : (b : Bool) → b ≡ true → (b && true) ≡ true
plain_one b e = ap (λ c. c && true) e

-- one instruction whose tree is known
pub one_tree : (p : Program) (framed : Bool) (cs : Segment) (code : List ℕ) (at labels : ℕ → ℕ) → Placed p cs code at → (k : ℕ) (i : Instr) (t : Act) (r : ResidentState) → is_plain i ≡ true → IsAt cs (at k) r → Stands (IsSpelledAt code) at labels k (ones (i ∷ [])) → tree at (k + 1) i r.registers ≡ t → Asks r.cells p.installed r.registers.ss r.registers.sp t r.cells (λ h d. Unit {0}) → Carried p framed cs 1 (at (k + 1)) r (registers_after t r.cells) (cells_after t r.cells)
one_tree p framed cs code at labels pl k i t r plain here s e asks =
    let c = line p framed cs code at labels pl k (i ∷ []) r (plain_one (is_plain i) plain) here s (subst (λ a. Asks r.cells p.installed r.registers.ss r.registers.sp a r.cells (λ h d. Unit {0})) (sym e) asks) in
    subst (λ a. Carried p framed cs 1 (at (k + 1)) r (registers_after a r.cells) (cells_after a r.cells)) e c

-- lines in parts
pub ones_front : (stands : ℕ → Instr → Type 0) (at labels : ℕ → ℕ) (k : ℕ) (is js : List Instr) → Stands stands at labels k (ones (is ++ js)) → Stands stands at labels k (ones is)
ones_front stands at labels k [] js h = tt
ones_front stands at labels k (i ∷ is) js h = (h.0, ones_front stands at labels (k + 1) is js h.1)

pub ones_back : (stands : ℕ → Instr → Type 0) (at labels : ℕ → ℕ) (k : ℕ) (is js : List Instr) → Stands stands at labels k (ones (is ++ js)) → Stands stands at labels (k + length is) (ones js)
ones_back stands at labels k [] js h = let e : k ≡ k + 0 = omega arith in subst (λ n. Stands stands at labels n (ones js)) e h
ones_back stands at labels k (i ∷ is) js h =
    let e : k + 1 + length is ≡ k + suc (length is) = omega arith in
    subst (λ n. Stands stands at labels n (ones js)) e (ones_back stands at labels (k + 1) is js h.1)

-- ## Operands relative to a register

pub near_segment : (g : Registers) (d : ℕ) (next : ℕ → Act) → segment_then g (memory_at (displaced base.Bp d)) next ≡ next g.ss
unfolding in_segment
near_segment g d next = ap next (displaced_segment g base.Bp d)

pub stack_segment_is : (g : Registers) (d : ℕ) (next : ℕ → Act) → segment_then g (record { segment = Some seg.Ss; place = displaced base.Bx d }) next ≡ next g.ss
unfolding in_segment
stack_segment_is g d next = refl

pub extra_segment_is : (g : Registers) (d : ℕ) (next : ℕ → Act) → segment_then g (record { segment = Some seg.Es; place = displaced base.Bx d }) next ≡ next g.es
unfolding in_segment
extra_segment_is g d next = refl

pub data_segment_is : (g : Registers) (o : ℕ) (next : ℕ → Act) → segment_then g (memory_at (Direct o)) next ≡ next g.ds
unfolding in_segment
data_segment_is g o next = ap next (direct_segment g o)

-- LES BX from the frame
pub les_tree : (g : Registers) (d : ℕ) → d < 65536 → act g (instr.Les word.Bx (frame_memory d)) ≡ read_word g.ss ((g.bp + d) % 65536) (λ first. read_word g.ss (((g.bp + d) % 65536 + 2) % 65536) (λ second. Done (record g { es = second; bx = first })))
unfolding act
les_tree g d h =
    near_segment g d _
    ∙ ap (λ o. read_word g.ss o (λ first. read_word g.ss ((o + 2) % 65536) (λ second. Done (record g { es = second; bx = first })))) (displaced_offset g base.Bp d h)

-- MOV BX from the frame, and a hop
pub load_bx_tree : (g : Registers) (d : ℕ) → d < 65536 → act g (load word.Bx (frame_memory d)) ≡ read_word g.ss ((g.bp + d) % 65536) (λ v. Done (record g { bx = v }))
unfolding act word_then
load_bx_tree g d h = near_segment g d _ ∙ ap (λ o. read_word g.ss o (λ v. Done (record g { bx = v }))) (displaced_offset g base.Bp d h)

pub hop_tree : (g : Registers) → g.bx < 65536 → act g hop ≡ read_word g.ss g.bx (λ v. Done (record g { bx = v }))
unfolding act word_then in_segment offset_of
hop_tree g h = let e : g.bx % 65536 ≡ g.bx = omega arith in ap (λ o. read_word g.ss o (λ v. Done (record g { bx = v }))) e

-- ## Words and pointers fetched

module _ (p : Program) (framed : Bool) (cs : Segment) (code : List ℕ) (at labels : ℕ → ℕ) (pl : Placed p cs code at) where
  -- an instruction that reads a word and puts it into registers
  pub fetch_word : (k : ℕ) (i : Instr) (segment offset v : ℕ) (set : ℕ → Registers) (r : ResidentState) → is_plain i ≡ true → IsAt cs (at k) r → Stands (IsSpelledAt code) at labels k (ones (i ∷ [])) → tree at (k + 1) i r.registers ≡ read_word segment offset (λ w. Done (set w)) → ReadsWord r.registers r.cells segment offset v → Carried p framed cs 1 (at (k + 1)) r (set v) r.cells
  fetch_word k i segment offset v set r plain here s e w =
      let c = one_tree p framed cs code at labels pl k i (read_word segment offset (λ w. Done (set w))) r plain here s e
      (is_known r.registers r.cells _ _ w.low_byte, w.low_byte.above, (is_known r.registers r.cells _ _ w.high_byte, w.high_byte.above, tt)) in
      subst (λ n. Carried p framed cs 1 (at (k + 1)) r (set n) r.cells) (word_value r.registers r.cells segment offset v w) c

  -- one that reads a far pointer
  pub fetch_pointer : (k : ℕ) (i : Instr) (segment offset v w : ℕ) (set : ℕ → ℕ → Registers) (r : ResidentState) → is_plain i ≡ true → IsAt cs (at k) r → Stands (IsSpelledAt code) at labels k (ones (i ∷ [])) → tree at (k + 1) i r.registers ≡ read_word segment offset (λ first. read_word segment ((offset + 2) % 65536) (λ second. Done (set first second))) → ReadsWord r.registers r.cells segment offset v → ReadsWord r.registers r.cells segment ((offset + 2) % 65536) w → Carried p framed cs 1 (at (k + 1)) r (set v w) r.cells
  fetch_pointer k i segment offset v w set r plain here s e first second =
      let o = (offset + 2) % 65536 in
      let c = one_tree p framed cs code at labels pl k i (read_word segment offset (λ first. read_word segment o (λ second. Done (set first second)))) r plain here s e (
        is_known r.registers r.cells _ _ first.low_byte,
        first.low_byte.above,
        (
          is_known r.registers r.cells _ _ first.high_byte,
          first.high_byte.above,
          (is_known r.registers r.cells _ _ second.low_byte, second.low_byte.above, (is_known r.registers r.cells _ _ second.high_byte, second.high_byte.above, tt)),
        ),
      ) in
      subst (λ n. Carried p framed cs 1 (at (k + 1)) r (set v n) r.cells) (word_value r.registers r.cells segment o w second)
      (subst (λ n. Carried p framed cs 1 (at (k + 1)) r (set n (word_from (number_in (r.cells (address segment o))) (number_in (r.cells (address segment (next_offset o)))))) r.cells) (word_value r.registers r.cells segment offset v first) c)

  -- one that reads a byte
  pub fetch_byte : (k : ℕ) (i : Instr) (place v : ℕ) (set : ℕ → Registers) (r : ResidentState) → is_plain i ≡ true → IsAt cs (at k) r → Stands (IsSpelledAt code) at labels k (ones (i ∷ [])) → tree at (k + 1) i r.registers ≡ Read place (λ b. Done (set b)) → ReadsByte r.registers r.cells place v → Carried p framed cs 1 (at (k + 1)) r (set v) r.cells
  fetch_byte k i place v set r plain here s e b =
      let c = one_tree p framed cs code at labels pl k i (Read place (λ b. Done (set b))) r plain here s e (is_known r.registers r.cells _ _ b, b.above, tt) in
      subst (λ n. Carried p framed cs 1 (at (k + 1)) r (set n) r.cells) (ap number_in b.known) c

  pub fetched : (n ip : ℕ) (r : ResidentState) (h : Registers) → Carried p framed cs n ip r h r.cells → Aside r.registers h → Fetched p framed cs n ip r h
  fetched n ip r h c a = record { count = n; few = omega arith; leads = c.leads; here = c.here; aside = a }

  -- nothing is fetched
  pub none_fetched : (k : ℕ) (r : ResidentState) → IsAt cs (at k) r → Fetched p framed cs 0 (at (k + 0)) r r.registers
  none_fetched k r here =
      let e : k ≡ k + 0 = omega arith in
      record { count = 0; few = omega arith; leads = refl; here = subst (λ n. IsAt cs (at n) r) e here; aside = record { ax = refl; dx = refl; sp = refl; bp = refl; ss = refl; ds = refl; direction = refl } }

  pub fetched_on : (m n ip jp : ℕ) (r : ResidentState) (h i : Registers) → Fetched p framed cs m ip r h → Fetched p framed cs n jp (with_memory r h r.cells) i → Fetched p framed cs (m + n) jp r i
  fetched_on m n ip jp r h i a b =
      let x = a.few in
      let y = b.few in
      record {
        count = a.count + b.count;
        few = omega arith;
        leads = leads_on p framed a.count b.count r (with_memory r h r.cells) (with_memory r i r.cells) a.leads b.leads;
        here = b.here;
        aside = aside_on r.registers h i a.aside b.aside;
      }

  -- the same in other numbers
  pub fetched_as : (m n k j : ℕ) (r : ResidentState) (h : Registers) → m ≡ n → k ≡ j → Fetched p framed cs m (at k) r h → Fetched p framed cs n (at j) r h
  fetched_as m n k j r h e f a =
      let l = a.few in
      record { count = a.count; few = omega arith; leads = a.leads; here = subst (λ i. IsAt cs (at i) (with_memory r h r.cells)) f a.here; aside = a.aside }
