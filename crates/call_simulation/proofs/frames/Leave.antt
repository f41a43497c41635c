-- A routine is left: its frame is taken away, and it returns, near or far.
use Rattle.std.proofs.Common.{◌≡◌, ◌≢◌, ℕ, zero, suc, ◌+◌, ◌*◌, ◌/◌, ◌%◌, ◌<◌, ◌≤◌, ◌==◌, Bool, true, false, List, [], ◌∷◌, length, Ok, Err, arith, refl, sym, ap, subst, ◌∙◌, ⊎_elim}
use Rattle.std.specs.Prelude.{IsTrue, ◌||◌, if◌then◌else◌}
use Rattle.std.proofs.lemmas.Bool.{cases_lt, eq-eqb, ne_eqb}
use Rattle.x86_table.specs.declared.instr.Instr.TheVariants as instr
use Rattle.x86_table.specs.declared.instr.Width.TheVariants as width
use Rattle.x86_table.specs.declared.operand.WordReg.TheVariants as word
use Rattle.x86_table.specs.Standing.{IsSpelledAt, Stands}
use Rattle.cpu_8086.specs.declared.registers.Registers.{Registers}
use Rattle.cpu_8086.specs.Access.{Done, FarReturn, raised, read_word, at_offset, word_then, put_word}
use Rattle.cpu_8086.specs.Arithmetic.{difference_of}
use Rattle.cpu_8086.specs.Effect.{act}
use Rattle.cpu_8086.specs.Memory.{address, next_offset, word_of}
use Rattle.resident_machine.specs.Astray.{ReturnsElsewhere}
use Rattle.resident_machine.specs.Cells.{Cell, Known, Unknown, Kept, Paired, Cells, with_cell, is_free, known_then, below, is_below, lost_if, with_lost}
use Rattle.resident_machine.specs.Dos.{plainly}
use Rattle.resident_machine.specs.Effect.{Outcome, with_memory, blurred, taken_pair, returned, returned_into, far_return, on_cells, plain_effect}
use Rattle.resident_machine.specs.Program.{Segment, Image, Overlay, Program}
use Rattle.resident_machine.specs.State.{Record, ResidentState, Service, NoService, AtReturn}
use Rattle.resident_machine.specs.machine_lines.Steps.{ReadsAbove, Owed, Moves, Leads}
use Rattle.resident_machine.specs.machine_lines.Straight.{ones, registers_past, Placed, IsAt, Carried}
use Rattle.resident_machine.specs.machine_lines.Words.{HoldsWord}
use Rattle.resident_machine.proofs.machine_lines.Steps.{leads_on, nothing_owed}
use Rattle.resident_machine.proofs.machine_lines.Straight.{line, plain_goes, standing, past_line, same_stack}
use Rattle.resident_machine.proofs.machine_lines.Words.{word_read, low_known, high_known, offset_above}
use Rattle.code_templates.specs.code_lines.Lines.{leave_frame, return_code}
use Rattle.call_simulation.specs.frames.Callee.{kept_bp, IsPairedAt}

-- ## Bytes that a far return leaves

-- a service may follow a return into an overlay
abbrev pub back_in : Segment → ResidentState → ResidentState
back_in (Image number) t = t
back_in (Overlay number) t = blurred t

abbrev pub service_in : Segment → Service
service_in (Image number) = NoService
service_in (Overlay number) = AtReturn

returned_is : (segment : Segment) (t : ResidentState) → returned_into segment t ≡ Ok (back_in segment t, service_in segment)
returned_is (Image number) t = refl
returned_is (Overlay number) t = refl

pub with_cell_free : (c : Cells) (a : ℕ) (cell : Cell) (place : ℕ) → IsTrue (is_free cell) → ((place ≡ a → ⊥) → IsTrue (is_free (c place))) → IsTrue (is_free (with_cell c a cell place))
with_cell_free c a cell place here other = by (place == a) refl
  where
    by : (b : Bool) → (place == a) ≡ b → IsTrue (is_free (if b then cell else c place))
    by true e = here
    by false e = other (λ z. let w = eq-eqb place a z in absurd (cc))

pub with_cell_other : (c : Cells) (a : ℕ) (cell : Cell) (place : ℕ) → (place ≡ a → ⊥) → with_cell c a cell place ≡ c place
with_cell_other c a cell place ne = ap (λ b. if b then cell else c place) (ne_eqb place a ne)

lost_free : (b : Bool) (x : Cell) → IsTrue (is_free x) → IsTrue (is_free (lost_if b x))
lost_free true (Known v) h = refl
lost_free true Unknown h = refl
lost_free true Kept h = h
lost_free true Paired h = h
lost_free false x h = h

not_below : (n segment offset place : ℕ) → ((k : ℕ) → k < n → place ≢ below segment offset k) → is_below n segment offset place ≡ false
not_below zero segment offset place h = refl
not_below (suc n) segment offset place h =
    ap (λ b. b || is_below n segment offset place) (ne_eqb place (below segment offset n) (h n (omega arith))) ∙ not_below n segment offset place (λ k less. h k (omega (arith, less)))

-- of the bytes below SP it is lost what they held, and they stay free
pub with_lost_free : (segment offset : ℕ) (c : Cells) (place : ℕ) → IsTrue (is_free (c place)) → IsTrue (is_free (with_lost segment offset c place))
unfolding with_lost
with_lost_free segment offset c place h = lost_free (is_below 64 segment offset place) (c place) h

pub with_lost_other : (segment offset : ℕ) (c : Cells) (place : ℕ) → ((k : ℕ) → k < 64 → place ≢ below segment offset k) → with_lost segment offset c place ≡ c place
unfolding with_lost
with_lost_other segment offset c place h = ap (λ b. lost_if b (c place)) (not_below 64 segment offset place h)

pub back_free : (to : Segment) (t : ResidentState) (place : ℕ) → IsTrue (is_free (t.cells place)) → IsTrue (is_free ((back_in to t).cells place))
back_free (Image number) t place h = h
back_free (Overlay number) t place h = with_lost_free t.registers.ss t.registers.sp t.cells place h

pub back_other : (to : Segment) (t : ResidentState) (place : ℕ) → ((k : ℕ) → k < 64 → place ≢ below t.registers.ss t.registers.sp k) → (back_in to t).cells place ≡ t.cells place
back_other (Image number) t place h = refl
back_other (Overlay number) t place h = with_lost_other t.registers.ss t.registers.sp t.cells place h

-- the rest of the state is as it was
pub record IsBeside (t u : ResidentState) : Type 0 where
  pub registers : u.registers ≡ t.registers
  pub cs : u.cs ≡ t.cs
  pub records : u.records ≡ t.records
  pub half : u.half ≡ t.half
  pub status : u.status ≡ t.status
  pub input : u.input ≡ t.input
  pub taken : u.taken ≡ t.taken
  pub out : u.out ≡ t.out
  pub err : u.err ≡ t.err

pub back_beside : (to : Segment) (t : ResidentState) → IsBeside t (back_in to t)
back_beside (Image number) t = record { registers = refl; cs = refl; records = refl; half = refl; status = refl; input = refl; taken = refl; out = refl; err = refl }
back_beside (Overlay number) t = record { registers = refl; cs = refl; records = refl; half = refl; status = refl; input = refl; taken = refl; out = refl; err = refl }

four_apart : (a place : ℕ) → (place ≡ a → ⊥) → (place ≡ a + 1 → ⊥) → (place ≡ a + 2 → ⊥) → (place ≡ a + 3 → ⊥) → IsPairedAt true a place → ⊥
four_apart a place n0 n1 n2 n3 q =
    let low = q.0 in
    let high = q.1 in
    ⊎_elim (λ lt. n0 (omega (arith, lt, low))) (λ m1. ⊎_elim (λ lt. n1 (omega (arith, lt, m1))) (λ m2. ⊎_elim (λ lt. n2 (omega (arith, lt, m2))) (λ m3. n3 (omega (arith, m3, high))) (cases_lt place (a + 3))) (cases_lt place (a + 2))) (cases_lt place (a + 1))

-- the bytes of a pair that was taken are free, and the others as they were
pub pair_free : (g : Registers) (c : Cells) (a place : ℕ) → g.sp + 4 ≤ 65536 → 16 * g.ss + g.sp + 4 ≤ 1048576 → 16 * g.ss + g.sp ≡ a → ((IsPairedAt true a place → ⊥) → IsTrue (is_free (c place))) → IsTrue (is_free (taken_pair g c place))
pair_free g c a place top inside there free =
    let a0 = address g.ss g.sp in
    let a1 = address g.ss (next_offset g.sp) in
    let a2 = address g.ss ((g.sp + 2) % 65536) in
    let a3 = address g.ss (next_offset ((g.sp + 2) % 65536)) in
    let c1 = with_cell c a0 Unknown in
    let c2 = with_cell c1 a1 Unknown in
    let c3 = with_cell c2 a2 Unknown in
    with_cell_free c3 a3 Unknown place refl (λ n3. with_cell_free c2 a2 Unknown place refl (λ n2. with_cell_free c1 a1 Unknown place refl (λ n1. with_cell_free c a0 Unknown place refl
    (λ n0. free (λ q. four_apart a place (λ e. n0 (omega arith)) (λ e. n1 (omega arith)) (λ e. n2 (omega arith)) (λ e. n3 (omega arith)) q)))))

pub pair_other : (g : Registers) (c : Cells) (a place : ℕ) → g.sp + 4 ≤ 65536 → 16 * g.ss + g.sp + 4 ≤ 1048576 → 16 * g.ss + g.sp ≡ a → (IsPairedAt true a place → ⊥) → taken_pair g c place ≡ c place
pair_other g c a place top inside there apart =
    let a0 = address g.ss g.sp in
    let a1 = address g.ss (next_offset g.sp) in
    let a2 = address g.ss ((g.sp + 2) % 65536) in
    let a3 = address g.ss (next_offset ((g.sp + 2) % 65536)) in
    let c1 = with_cell c a0 Unknown in
    let c2 = with_cell c1 a1 Unknown in
    let c3 = with_cell c2 a2 Unknown in
    with_cell_other c3 a3 Unknown place (λ e. apart (omega arith, omega arith)) ∙ with_cell_other c2 a2 Unknown place (λ e. apart (omega arith, omega arith))
    ∙ with_cell_other c1 a1 Unknown place (λ e. apart (omega arith, omega arith)) ∙ with_cell_other c a0 Unknown place (λ e. apart (omega arith, omega arith))

-- ## The instructions

ret_tree : (g : Registers) (n : ℕ) → act g (return_code false n) ≡ read_word g.ss g.sp (λ v. Done (at_offset (raised g (2 + n)) v))
unfolding act
ret_tree g zero = refl
ret_tree g (suc n) = refl

retf_tree : (g : Registers) (n : ℕ) → act g (return_code true n) ≡ FarReturn g n
unfolding act
retf_tree g zero = refl
retf_tree g (suc n) = refl

module _ (p : Program) (framed : Bool) (cs : Segment) (code : List ℕ) (at labels : ℕ → ℕ) (pl : Placed p cs code at) where
  -- SP is BP, and BP the word there
  pub frame_left : (k v : ℕ) (t : ResidentState) → HoldsWord t.cells t.registers.ss t.registers.bp v → 64 ≤ t.registers.bp → t.registers.bp + 2 < 65536 → IsAt cs (at k) t → Stands (IsSpelledAt code) at labels k (ones (leave_frame false)) → Carried p framed cs 2 (at (k + 2)) t (record (at_offset t.registers (at (k + 1 + 1))) { sp = t.registers.bp + 2; bp = v }) t.cells
  unfolding act word_then
  frame_left k v t holds room top here s =
      let g = t.registers in
      let c = line p framed cs code at labels pl k (leave_frame false) t refl here s (
        low_known t.cells g.ss g.bp v holds,
        offset_above g.ss g.bp g.bp (omega arith) (omega arith) room,
        (high_known t.cells g.ss g.bp v holds, offset_above g.ss g.bp (next_offset g.bp) (omega arith) (omega arith) room, tt),
      ) in
      let whole : (g.bp + 2) % 65536 ≡ g.bp + 2 = omega arith in
      let d = subst (λ n. Carried p framed cs 2 (at (k + 2)) t (record (at_offset g (at (k + 1 + 1))) { sp = (g.bp + 2) % 65536; bp = n }) t.cells) (word_read t.cells g.ss g.bp v holds) c in
      subst (λ n. Carried p framed cs 2 (at (k + 2)) t (record (at_offset g (at (k + 1 + 1))) { sp = n; bp = v }) t.cells) whole d

  -- what the last lines of a frame come to
  pub record FrameLeft (n k caller : ℕ) (t : ResidentState) : Type 0 where
    pub registers : Registers
    pub leads : Leads p framed n t (with_memory t registers t.cells)
    pub here : IsAt cs (at k) (with_memory t registers t.cells)
    pub sp : registers.sp ≡ t.registers.bp + 2
    pub bp : registers.bp ≡ caller
    pub ss : registers.ss ≡ t.registers.ss
    pub ds : registers.ds ≡ t.registers.ds
    pub direction : registers.direction ≡ t.registers.direction
    pub ax : registers.ax ≡ t.registers.ax
    pub dx : registers.dx ≡ t.registers.dx

  unmarked_is : (bp : ℕ) → bp < 65535 → (difference_of width.Word (bp + 1) 1 false).value ≡ bp
  unfolding difference_of
  unmarked_is bp small = omega arith

  -- a far routine takes the mark off BP
  unmarks_run : (k bp : ℕ) (t : ResidentState) → bp < 65535 → t.registers.bp ≡ bp + 1 → IsAt cs (at k) t → Stands (IsSpelledAt code) at labels k (ones (instr.Dec word.Bp ∷ [])) → (g : Registers) × Carried p framed cs 1 (at (k + 1)) t g t.cells × (g.bp ≡ bp) × (g.sp ≡ t.registers.sp) × (g.ss ≡ t.registers.ss) × (g.ds ≡ t.registers.ds) × (g.direction ≡ t.registers.direction) × (g.ax ≡ t.registers.ax) × (g.dx ≡ t.registers.dx)
  unfolding act word_then put_word
  unmarks_run k bp t small marked here s =
      let c = line p framed cs code at labels pl k (instr.Dec word.Bp ∷ []) t refl here s tt in
      (registers_past at k (instr.Dec word.Bp ∷ []) t.registers t.cells, c, ap (λ z. (difference_of width.Word z 1 false).value) marked ∙ unmarked_is bp small, refl, refl, refl, refl, refl, refl)

  -- SP is above the link, and BP is the caller's again
  pub frame_back : (far : Bool) (k bp : ℕ) (t : ResidentState) → HoldsWord t.cells t.registers.ss t.registers.bp (kept_bp far bp) → bp < 65535 → 64 ≤ t.registers.bp → t.registers.bp + 2 < 65536 → IsAt cs (at k) t → Stands (IsSpelledAt code) at labels k (ones (leave_frame far)) → FrameLeft (length (leave_frame far)) (k + length (leave_frame far)) bp t
  frame_back false k bp t holds small room top here s =
      let l = frame_left k bp t holds room top here s in
      record { registers = record (at_offset t.registers (at (k + 1 + 1))) { sp = t.registers.bp + 2; bp = bp }; leads = l.leads; here = l.here; sp = refl; bp = refl; ss = refl; ds = refl; direction = refl; ax = refl; dx = refl }
  frame_back true k bp t holds small room top here s =
      let l = frame_left k (bp + 1) t holds room top here (s.0, (s.1.0, tt)) in
      let g : Registers = record (at_offset t.registers (at (k + 1 + 1))) { sp = t.registers.bp + 2; bp = bp + 1 } in
      let t1 = with_memory t g t.cells in
      let there : k + 2 ≡ k + 1 + 1 = omega arith in
      let three : k + 1 + 1 + 1 ≡ k + 3 = omega arith in
      let here1 = subst (λ n. IsAt cs (at n) t1) there l.here in
      let u = unmarks_run (k + 1 + 1) bp t1 small refl here1 (s.1.1.0, tt) in
      record {
        registers = u.0;
        leads = leads_on p framed 2 1 t t1 (with_memory t u.0 t.cells) l.leads u.1.leads;
        here = subst (λ n. IsAt cs (at n) (with_memory t u.0 t.cells)) three u.1.here;
        sp = u.3;
        bp = u.2;
        ss = u.4;
        ds = u.5;
        direction = u.6;
        ax = u.7;
        dx = u.8;
      }

  -- a near return
  abbrev pub near_back : Registers → ℕ → ℕ → Registers
  near_back g n v = record g { ip = v; sp = g.sp + 2 + n }

  pub near_returns : (k n v : ℕ) (t : ResidentState) → HoldsWord t.cells t.registers.ss t.registers.sp v → 64 ≤ t.registers.sp → t.registers.sp + 2 + n < 65536 → IsAt cs (at k) t → Stands (IsSpelledAt code) at labels k (ones (return_code false n ∷ [])) → Leads p framed 1 t (with_memory t (near_back t.registers n v) t.cells)
  near_returns k n v t holds room top here s =
      let i = return_code false n in
      let g = t.registers in
      let c = t.cells in
      let g1 = at_offset g (at (k + 1)) in
      let next = past_line cs at k i t here s.0.1 (pl.fits (k + 1)) in
      let tree = ap (λ h. act h i) next ∙ ret_tree g1 n in
      let place0 = address g.ss g.sp in
      let place1 = address g.ss (next_offset g.sp) in
      let set : ℕ → Registers = λ z. at_offset (raised g1 (2 + n)) z in
      let end = with_memory t (near_back g n v) c in
      let whole : word_of (v % 256) (v / 256) ≡ v = omega arith in
      let lowered : (g.sp + (2 + n)) % 65536 ≡ g.sp + 2 + n = omega arith in
      let effect : plain_effect p t i ≡ plainly end = ap (λ a. on_cells p t a c) tree
      ∙ ap (λ x. known_then x (λ low. known_then (c place1) (λ high. on_cells p t (Done (set (word_of low high))) c))) holds.low
      ∙ ap (λ x. known_then x (λ high. on_cells p t (Done (set (word_of (v % 256) high))) c)) holds.high
      ∙ ap (λ z. on_cells p t (Done (set z)) c) whole
      ∙ same_stack t (set v) (plainly (with_memory t (set v) c)) refl
      ∙ ap (λ z. plainly (with_memory t (record g { ip = v; sp = z }) c)) lowered in
      let moves : Moves p framed t end = record {
        service = NoService;
        goes = record { running = here.running; instruction = i; stands = standing p cs code at k i t pl here s.0.0; result = plain_goes p t end NoService i here.half effect refl };
        owed = nothing_owed framed p end;
        above = subst (λ a. ReadsAbove g.ss g.sp a c) (sym tree) (offset_above g.ss g.sp g.sp (omega arith) (omega arith) room, (offset_above g.ss g.sp (next_offset g.sp) (omega arith) (omega arith) room, tt));
      } in
      (end, moves, refl)

  -- a far return takes the record on top
  abbrev pub far_back : ResidentState → ℕ → ℕ → Record → List Record → ResidentState
  far_back t ip n x others = back_in x.segment (returned t (at_offset t.registers ip) t.cells n x others)

  pub far_returns : (k n : ℕ) (x : Record) (others : List Record) (t : ResidentState) → t.records ≡ x ∷ others → x.place ≡ t.registers.sp → IsAt cs (at k) t → Stands (IsSpelledAt code) at labels k (ones (return_code true n ∷ [])) → (far_back t (at (k + 1)) n x others).cells p.installed ≡ t.cells p.installed → Owed framed p (service_in x.segment) (far_back t (at (k + 1)) n x others) → Leads p framed 1 t (far_back t (at (k + 1)) n x others)
  far_returns k n x others t records place here s flag owed =
      let i = return_code true n in
      let g = at_offset t.registers (at (k + 1)) in
      let c = t.cells in
      let next = past_line cs at k i t here s.0.1 (pl.fits (k + 1)) in
      let tree = ap (λ h. act h i) next ∙ retf_tree g n in
      let end = far_back t (at (k + 1)) n x others in
      let out : Outcome = Err ReturnsElsewhere in
      let effect : plain_effect p t i ≡ Ok (end, service_in x.segment) = ap (λ a. on_cells p t a c) tree
      ∙ same_stack t g (far_return t g c n t.records) refl
      ∙ ap (λ rs. far_return t g c n rs) records
      ∙ ap (λ b. if b then returned_into x.segment (returned t g c n x others) else out) (eq-eqb x.place g.sp place)
      ∙ returned_is x.segment (returned t g c n x others) in
      let moves : Moves p framed t end = record {
        service = service_in x.segment;
        goes = record { running = here.running; instruction = i; stands = standing p cs code at k i t pl here s.0.0; result = plain_goes p t end (service_in x.segment) i here.half effect flag };
        owed = owed;
        above = subst (λ a. ReadsAbove t.registers.ss t.registers.sp a c) (sym tree) tt;
      } in
      (end, moves, refl)
