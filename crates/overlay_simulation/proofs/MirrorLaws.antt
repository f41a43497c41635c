-- What an instruction makes of a resident state it makes of the state as a table shows it, in a program without overlays.
use Rattle.std.proofs.Common.{◌≡◌, ℕ, ◌+◌, ◌/◌, ◌==◌, Bool, true, false, List, [], ◌∷◌, length, Option, Some, None, Result, Ok, Err, refl, sym, ap, ◌∙◌, subst, eq-eqb}
use Rattle.std.specs.Prelude.{IsTrue, if◌then◌else◌}
use Rattle.cpu_8086.specs.declared.process.Why.{Why}
use Rattle.cpu_8086.specs.declared.process.Why.TheVariants as why
use Rattle.cpu_8086.specs.declared.registers.Far.{Far}
use Rattle.cpu_8086.specs.declared.registers.Registers.{Registers}
use Rattle.cpu_8086.specs.Access.{Act, Done, Read, Write, Copy, ReadCodeSegment, FarCall, FarReturn, FarJump, PushCodeSegment, Interrupt, DivideFault, lowered, at_offset}
use Rattle.cpu_8086.specs.Memory.{address, next_offset}
use Rattle.resident_machine.specs.Program.{Segment, Image, Overlay, Program, Target, Into, Through, Nowhere, image_target, entry_target, target_by, routine_at, stub_owner, far_target}
use Rattle.std.specs.Prelude.{slice_get}
use Rattle.resident_machine.specs.Astray.{Astray, ReturnsElsewhere, Traps, and_then}
use Rattle.resident_machine.specs.Cells.{Cell, Known, Unknown, Kept, Paired, Cells, with_cell, with_word, is_free, known_then, free_then, moved_then, paired_then, with_bytes}
use Rattle.resident_machine.specs.Dos.{plainly, stopped, answered, bad_handle, said_bytes, to_output, to_errors, write_call, read_bytes, given, read_call, exit_call, dos_call}
use Rattle.resident_machine.specs.Effect.{Outcome, with_memory, blurred, called, refused, refused_to, entered, called_to, far_call, returned, returned_into, far_return, jumped_to, half_pushed, cleared, serviced, stack_then, on_cells}
use Rattle.resident_machine.specs.Whole.{IsImage}
use Rattle.resident_machine.specs.State.{Record, ResidentState, Service, NoService, AtCall, AtReturn, AtClear}
use Rattle.resident_machine.proofs.CellLaws.{known_ok, free_ok, moved_ok, and_then_ok, unless_ok, stack_ok, paired_ok, ok_same}
use Rattle.resident_machine.proofs.TreeLaws.{no_stub}
use Rattle.return_repair.specs.declared.table.Loaded.{Loaded}
use Rattle.return_repair.specs.Follows.{overlay_at, met_too, topmost_into}
use Rattle.return_repair.specs.Pairs.{shown_pair}
use Rattle.overlay_simulation.specs.Laid.{with_pairs}
use Rattle.overlay_simulation.specs.Shown.{at_pair, IsIn, items_of, pairs_by, shown_state}
use Rattle.overlay_simulation.proofs.ShownLaws.{pair_by, met_past, HasOwnStubs, laid_record, laid_first, laid_in, SameTopmost, topmost_in}

-- the program without overlays in which each segment names these bytes of code
abbrev pub bare : Program → (ℕ → List ℕ) → Program
bare p bytes = record p { image = λ segment. Some (bytes segment); overlays = [] }

-- ## Where steps lead

-- The other program came to the state that is shown. CS leads to code in memory, and topmost returns stayed.
pub record Mirrors (table : List Loaded) (met : ℕ → Bool) (r t there : ResidentState) : Type 0 where
  pub state : there ≡ shown_state table met t
  pub cs : IsIn table t.cs
  pub topmost : SameTopmost table r.records t.records

-- The topmost record was taken, which leads into an overlay: the other program came where its pair leads.
pub record Returns (table : List Loaded) (met : ℕ → Bool) (r t there : ResidentState) : Type 0 where
  pub back : ResidentState
  pub overlay : ℕ
  pub cs : back.cs ≡ Overlay overlay
  pub left : t ≡ blurred back
  pub place : ℕ
  pub taken : r.records ≡ record { place = place; segment = Overlay overlay; offset = back.registers.ip } ∷ back.records
  pub half : back.half ≡ r.half
  pub status : back.status ≡ r.status
  pub state : there ≡ at_pair (shown_pair (overlay_at table overlay) (met (overlay_at table overlay).stub) back.registers.ip) (shown_state table (met_too (overlay_at table overlay).stub met) back)

-- The buffer was cleared from code of the image: the other program went on likewise.
pub record Clears (table : List Loaded) (met : ℕ → Bool) (r t there : ResidentState) : Type 0 where
  pub mirrors : Mirrors table met r t there
  pub image : IsImage t.cs
  pub half : t.half ≡ r.half
  pub status : t.status ≡ r.status

-- A stub was called: the other program came to its entry. If no overlay is installed the error routine is entered.
pub record Enters (p : Program) (table : List Loaded) (met : ℕ → Bool) (r t there : ResidentState) : Type 0 where
  pub through : ResidentState
  pub overlay : ℕ
  pub segment : ℕ
  pub entry : ℕ
  pub cs : through.cs ≡ Overlay overlay
  pub leads : far_target p segment entry ≡ Through overlay through.registers.ip
  pub flag : ℕ
  pub known : through.cells p.installed ≡ Known flag
  pub left : t ≡ blurred (if flag == 0 then refused p through else through)
  pub half : through.half ≡ r.half
  pub status : through.status ≡ r.status
  pub topmost : SameTopmost table r.records through.records
  pub state : there ≡ at_pair (record { offset = entry; segment = segment }) (shown_state table met through)

abbrev pub Leads : Program → List Loaded → (ℕ → Bool) → ResidentState → Service → ResidentState → ResidentState → Type 0
Leads p table met r NoService t there = Mirrors table met r t there
Leads p table met r AtClear t there = Clears table met r t there
Leads p table met r AtReturn t there = Returns table met r t there
Leads p table met r AtCall t there = Enters p table met r t there

-- the other program's outcome, beside the state and the service to which a step led
pub record Mirrored (p : Program) (table : List Loaded) (met : ℕ → Bool) (r : ResidentState) (o : Outcome) (w : ResidentState × Service) : Type 0 where
  pub there : ResidentState
  pub service : Service
  pub goes : o ≡ Ok (there, service)
  pub leads : Leads p table met r w.1 w.0 there

-- ## What is not astray

known_goes : {A : Type 0} → (x : Cell) (next : ℕ → Result A Astray) (v : ℕ) (y : A) → x ≡ Known v → next v ≡ Ok y → known_then x next ≡ Ok y
known_goes x next v y same e = ap (λ (z : Cell). known_then z next) same ∙ e

free_goes : {A : Type 0} → (x : Cell) (next : Result A Astray) (y : A) → IsTrue (is_free x) → next ≡ Ok y → free_then x next ≡ Ok y
free_goes (Known v) next y free e = e
free_goes Unknown next y free e = e
free_goes Kept next y free e = absurd (cc)
free_goes Paired next y free e = absurd (cc)

moved_goes : {A B : Type 0} → (x : Cell) (next : Cell → Result A Astray) (other : Cell → Result B Astray) (y : A) (z : B) → moved_then x next ≡ Ok y → other x ≡ Ok z → moved_then x other ≡ Ok z
moved_goes (Known v) next other y z e f = f
moved_goes Unknown next other y z e f = f
moved_goes Kept next other y z e f = absurd (cc)
moved_goes Paired next other y z e f = absurd (cc)

paired_goes : {A : Type 0} → (c : Cells) (segment offset : ℕ) (next : Cells → Result A Astray) (y : A) → IsTrue (is_free (c (address segment offset))) → IsTrue (is_free (c (address segment (next_offset offset)))) → next (with_word c segment offset Paired) ≡ Ok y → paired_then c segment offset next ≡ Ok y
paired_goes c segment offset next y low high e =
    free_goes (c (address segment offset)) (free_then (c (address segment (next_offset offset))) (next (with_word c segment offset Paired))) y low
    (free_goes (c (address segment (next_offset offset))) (next (with_word c segment offset Paired)) y high e)

pub stack_goes : (r : ResidentState) (g : Registers) (o : Outcome) (y : ResidentState × Service) → g.ss ≡ r.registers.ss → o ≡ Ok y → stack_then r g o ≡ Ok y
stack_goes r g o y same e = rw (eq-eqb g.ss r.registers.ss same) e

-- ## Where far pointers lead

into_same : (p : Program) (segment offset a b : ℕ) → far_target p segment offset ≡ Into a b → (a ≡ segment) × (b ≡ offset)
into_same p segment offset a b e = by (stub_owner p segment) e
  where
    on_image : (code : Option (List ℕ)) → image_target code segment offset ≡ Into a b → (a ≡ segment) × (b ≡ offset)
    on_image None e = absurd (cc)
    on_image (Some code) e = (cc, cc)

    on_entry : (v : ℕ) (routine : Option ℕ) → entry_target v routine ≡ Into a b → (a ≡ segment) × (b ≡ offset)
    on_entry v None e = absurd (cc)
    on_entry v (Some routine) e = absurd (cc)

    by : (owner : Option ℕ) → target_by p segment offset owner ≡ Into a b → (a ≡ segment) × (b ≡ offset)
    by None e = on_image (p.image segment) e
    by (Some v) e = on_entry v (routine_at (slice_get p.overlays v) offset) e

-- r stands before the instruction, in code that is in memory
module _ (p : Program) (bytes : ℕ → List ℕ) (table : List Loaded) (met : ℕ → Bool) (own : HasOwnStubs table) (r : ResidentState) (here : IsIn table r.cs) where
  abbrev seen : ResidentState
  seen = shown_state table met r

  comes : (o : Outcome) (t : ResidentState) (service : Service) (w : ResidentState × Service) → (let x : Outcome = Ok (t, service) in x ≡ Ok w) → Mirrored p table met r o (t, service) → Mirrored p table met r o w
  comes o t service w e h = subst (λ (z : ResidentState × Service). Mirrored p table met r o z) (ok_same (t, service) w e) h

  -- the same outcome by another way
  carried : (o other : Outcome) (w : ResidentState × Service) → Mirrored p table met r o w → ((y : ResidentState × Service) → o ≡ Ok y → other ≡ Ok y) → Mirrored p table met r other w
  carried o other w h same = record { there = h.there; service = h.service; goes = same (h.there, h.service) h.goes; leads = h.leads }

  -- a state with the CS and the records of r
  same_mirrors : (t : ResidentState) → t.cs ≡ r.cs → t.records ≡ r.records → Mirrors table met r t (shown_state table met t)
  same_mirrors t cs records = record {
    state = refl;
    cs = subst (IsIn table) (sym cs) here;
    topmost = λ v out. ap (λ (xs : List Record). topmost_into table (overlay_at table v).stub (items_of xs)) records;
  }

  -- ## DOS calls

  write_mirrored : (g : Registers) (c : Cells) (w : ResidentState × Service) → write_call (with_memory r g c) ≡ Ok w → Mirrored p table met r (write_call (with_memory seen g c)) w
  write_mirrored g c w e = by (g.bx == 1) (g.bx == 2) e
    where
      by : (x y : Bool) → (if x then and_then (said_bytes (with_memory r g c)) (λ bytes. plainly (to_output (with_memory r g c) bytes)) else (if y then and_then (said_bytes (with_memory r g c)) (λ bytes. plainly (to_errors (with_memory r g c) bytes)) else plainly (bad_handle (with_memory r g c)))) ≡ Ok w → Mirrored p table met r (if x then and_then (said_bytes (with_memory seen g c)) (λ bytes. plainly (to_output (with_memory seen g c) bytes)) else (if y then and_then (said_bytes (with_memory seen g c)) (λ bytes. plainly (to_errors (with_memory seen g c) bytes)) else plainly (bad_handle (with_memory seen g c)))) w
      by true y e =
          let parts = and_then_ok (said_bytes (with_memory r g c)) (λ bytes. plainly (to_output (with_memory r g c) bytes)) w e in
          comes (and_then (said_bytes (with_memory seen g c)) (λ bytes. plainly (to_output (with_memory seen g c) bytes))) (to_output (with_memory r g c) parts.0) NoService w parts.2
          (record { there = to_output (with_memory seen g c) parts.0; service = NoService; goes = ap (λ (said : Result (List ℕ) Astray). and_then said (λ bytes. plainly (to_output (with_memory seen g c) bytes))) parts.1; leads = same_mirrors (to_output (with_memory r g c) parts.0) refl refl })
      by false true e =
          let parts = and_then_ok (said_bytes (with_memory r g c)) (λ bytes. plainly (to_errors (with_memory r g c) bytes)) w e in
          comes (and_then (said_bytes (with_memory seen g c)) (λ bytes. plainly (to_errors (with_memory seen g c) bytes))) (to_errors (with_memory r g c) parts.0) NoService w parts.2
          (record { there = to_errors (with_memory seen g c) parts.0; service = NoService; goes = ap (λ (said : Result (List ℕ) Astray). and_then said (λ bytes. plainly (to_errors (with_memory seen g c) bytes))) parts.1; leads = same_mirrors (to_errors (with_memory r g c) parts.0) refl refl })
      by false false e =
          comes (plainly (bad_handle (with_memory seen g c))) (bad_handle (with_memory r g c)) NoService w e
          (record { there = bad_handle (with_memory seen g c); service = NoService; goes = refl; leads = same_mirrors (bad_handle (with_memory r g c)) refl refl })

  given_mirrored : (g : Registers) (c : Cells) (w : ResidentState × Service) → given (with_memory r g c) (read_bytes (with_memory r g c)) ≡ Ok w → Mirrored p table met r (given (with_memory seen g c) (read_bytes (with_memory seen g c))) w
  given_mirrored g c w e =
      let read : List ℕ = read_bytes (with_memory r g c) in
      let parts = and_then_ok (with_bytes c g.ds g.dx read) (λ cells. plainly (record (answered (with_memory r g c) (length read) false) { cells = cells; taken = r.taken + length read })) w e in
      comes (given (with_memory seen g c) read) (record (answered (with_memory r g c) (length read) false) { cells = parts.0; taken = r.taken + length read }) NoService w parts.2
      (record {
        there = record (answered (with_memory seen g c) (length read) false) { cells = parts.0; taken = r.taken + length read };
        service = NoService;
        goes = ap (λ (o : Result Cells Astray). and_then o (λ cells. plainly (record (answered (with_memory seen g c) (length read) false) { cells = cells; taken = r.taken + length read }))) parts.1;
        leads = same_mirrors (record (answered (with_memory r g c) (length read) false) { cells = parts.0; taken = r.taken + length read }) refl refl;
      })

  read_mirrored : (g : Registers) (c : Cells) (w : ResidentState × Service) → read_call (with_memory r g c) ≡ Ok w → Mirrored p table met r (read_call (with_memory seen g c)) w
  read_mirrored g c w e = by (g.bx == 0) e
    where
      by : (x : Bool) → (if x then given (with_memory r g c) (read_bytes (with_memory r g c)) else plainly (bad_handle (with_memory r g c))) ≡ Ok w → Mirrored p table met r (if x then given (with_memory seen g c) (read_bytes (with_memory seen g c)) else plainly (bad_handle (with_memory seen g c))) w
      by true e = given_mirrored g c w e
      by false e =
          comes (plainly (bad_handle (with_memory seen g c))) (bad_handle (with_memory r g c)) NoService w e
          (record { there = bad_handle (with_memory seen g c); service = NoService; goes = refl; leads = same_mirrors (bad_handle (with_memory r g c)) refl refl })

  stopped_mirrored : (reason : Why) (w : ResidentState × Service) → plainly (stopped r reason) ≡ Ok w → Mirrored p table met r (plainly (stopped seen reason)) w
  stopped_mirrored reason w e =
      comes (plainly (stopped seen reason)) (stopped r reason) NoService w e (record { there = stopped seen reason; service = NoService; goes = refl; leads = same_mirrors (stopped r reason) refl refl })

  dos_mirrored : (g : Registers) (c : Cells) (w : ResidentState × Service) → dos_call r (with_memory r g c) ≡ Ok w → Mirrored p table met r (dos_call seen (with_memory seen g c)) w
  dos_mirrored g c w e = by (g.ax / 256 == 64) (g.ax / 256 == 63) (g.ax / 256 == 76) e
    where
      by : (x y z : Bool) → (if x then write_call (with_memory r g c) else (if y then read_call (with_memory r g c) else (if z then plainly (exit_call (with_memory r g c)) else plainly (stopped r (why.Function (g.ax / 256)))))) ≡ Ok w → Mirrored p table met r (if x then write_call (with_memory seen g c) else (if y then read_call (with_memory seen g c) else (if z then plainly (exit_call (with_memory seen g c)) else plainly (stopped seen (why.Function (g.ax / 256)))))) w
      by true y z e = write_mirrored g c w e
      by false true z e = read_mirrored g c w e
      by false false true e =
          comes (plainly (exit_call (with_memory seen g c))) (exit_call (with_memory r g c)) NoService w e
          (record { there = exit_call (with_memory seen g c); service = NoService; goes = refl; leads = same_mirrors (exit_call (with_memory r g c)) refl refl })
      by false false false e = stopped_mirrored (why.Function (g.ax / 256)) w e

  cleared_mirrored : (cs : Segment) (g : Registers) (c : Cells) (w : ResidentState × Service) → r.cs ≡ cs → cleared cs (with_memory r g c) ≡ Ok w → Mirrored p table met r (cleared seen.cs (with_memory seen g c)) w
  cleared_mirrored (Image number) g c w same e =
      comes (cleared seen.cs (with_memory seen g c)) (blurred (with_memory r g c)) AtClear w e
      (record { there = blurred (with_memory seen g c); service = AtClear; goes = refl; leads = record { mirrors = same_mirrors (blurred (with_memory r g c)) refl refl; image = subst IsImage (sym same) tt; half = refl; status = refl } })
  cleared_mirrored (Overlay number) g c w same e = absurd (cc)

  service_mirrored : (g : Registers) (c : Cells) (n : ℕ) (w : ResidentState × Service) → serviced r (with_memory r g c) n ≡ Ok w → Mirrored p table met r (serviced seen (with_memory seen g c) n) w
  service_mirrored g c n w e = by (n == 33) (n == 96) (n == 63) e
    where
      by : (x y z : Bool) → (if x then dos_call r (with_memory r g c) else (if y then cleared r.cs (with_memory r g c) else (if z then Err Traps else plainly (stopped r (why.Interrupt n))))) ≡ Ok w → Mirrored p table met r (if x then dos_call seen (with_memory seen g c) else (if y then cleared seen.cs (with_memory seen g c) else (if z then Err Traps else plainly (stopped seen (why.Interrupt n))))) w
      by true y z e = dos_mirrored g c w e
      by false true z e = cleared_mirrored r.cs g c w refl e
      by false false true e = absurd (cc)
      by false false false e = stopped_mirrored (why.Interrupt n) w e

  -- ## Far calls, returns and jumps

  -- the record that a far call pushes
  abbrev new_record : Registers → Record
  new_record g = record { place = (lowered (lowered g)).sp; segment = r.cs; offset = g.ip }

  pushed : (g : Registers) (c : Cells) (segment offset : ℕ) (to : Segment) (routine : ℕ) → called seen g c (Image segment) offset ≡ at_pair (record { offset = offset; segment = segment }) (shown_state table met (called r g c to routine))
  pushed g c segment offset to routine =
      ap (λ (xs : List Record). record seen { registers = at_offset (lowered (lowered g)) offset; cs = Image segment; cells = c; records = xs }) (sym (laid_in table met (new_record g) r.records own here))

  entered_mirrored : (g : Registers) (c : Cells) (segment offset v routine flag : ℕ) (w : ResidentState × Service) → far_target p segment offset ≡ Through v routine → c p.installed ≡ Known flag → entered p (called r g c (Overlay v) routine) flag ≡ Ok w → Mirrored p table met r (called_to (bare p bytes) seen g c (Into segment offset)) w
  entered_mirrored g c segment offset v routine flag w leads known e = by (flag == 0) refl e
    where
      through : ResidentState
      through = called r g c (Overlay v) routine

      enters : (b : Bool) → (flag == 0) ≡ b → (t : ResidentState) → t ≡ blurred (if b then refused p (called r g c (Overlay v) routine) else called r g c (Overlay v) routine) → Enters p table met r t (called seen g c (Image segment) offset)
      enters b zero t left = record {
        through = called r g c (Overlay v) routine;
        overlay = v;
        segment = segment;
        entry = offset;
        cs = refl;
        leads = leads;
        flag = flag;
        known = known;
        left = left ∙ ap (λ (x : Bool). blurred (if x then refused p (called r g c (Overlay v) routine) else called r g c (Overlay v) routine)) (sym zero);
        half = refl;
        status = refl;
        topmost = topmost_in table (new_record g) r.records own here;
        state = pushed g c segment offset (Overlay v) routine;
      }

      done : (b : Bool) → (flag == 0) ≡ b → (t : ResidentState) → t ≡ blurred (if b then refused p (called r g c (Overlay v) routine) else called r g c (Overlay v) routine) → (let x : Outcome = Ok (t, AtCall) in x ≡ Ok w) → Mirrored p table met r (called_to (bare p bytes) seen g c (Into segment offset)) w
      done b zero t left e =
          comes (called_to (bare p bytes) seen g c (Into segment offset)) t AtCall w e (record { there = called seen g c (Image segment) offset; service = NoService; goes = refl; leads = enters b zero t left })

      on_target : (target : Target) → (flag == 0) ≡ true → refused_to p (called r g c (Overlay v) routine) target ≡ Ok w → Mirrored p table met r (called_to (bare p bytes) seen g c (Into segment offset)) w
      on_target (Into a b) zero e = done true zero (blurred (refused p (called r g c (Overlay v) routine))) refl e
      on_target (Through a b) zero e = absurd (cc)
      on_target Nowhere zero e = absurd (cc)

      by : (b : Bool) → (flag == 0) ≡ b → (if b then refused_to p (called r g c (Overlay v) routine) (image_target (p.image p.error_routine.segment) p.error_routine.segment p.error_routine.offset) else Ok (blurred (called r g c (Overlay v) routine), AtCall)) ≡ Ok w → Mirrored p table met r (called_to (bare p bytes) seen g c (Into segment offset)) w
      by true zero e = on_target (image_target (p.image p.error_routine.segment) p.error_routine.segment p.error_routine.offset) zero e
      by false zero e = done false zero (blurred (called r g c (Overlay v) routine)) refl e

  called_mirrored : (g : Registers) (c : Cells) (segment offset : ℕ) (target : Target) (w : ResidentState × Service) → far_target p segment offset ≡ target → called_to p r g c target ≡ Ok w → Mirrored p table met r (called_to (bare p bytes) seen g c (Into segment offset)) w
  called_mirrored g c segment offset (Into a b) w leads e =
      let same = into_same p segment offset a b leads in
      let at = subst (λ (z : ℕ). plainly (called r g c (Image a) z) ≡ Ok w) same.1 e in
      let e' = subst (λ (z : ℕ). plainly (called r g c (Image z) offset) ≡ Ok w) same.0 at in
      comes (called_to (bare p bytes) seen g c (Into segment offset)) (called r g c (Image segment) offset) NoService w e'
      (record {
        there = called seen g c (Image segment) offset;
        service = NoService;
        goes = refl;
        leads = record { state = pushed g c segment offset (Image segment) offset; cs = tt; topmost = topmost_in table (new_record g) r.records own here };
      })
  called_mirrored g c segment offset (Through v routine) w leads e =
      let flag = known_ok (c p.installed) (λ flag. entered p (called r g c (Overlay v) routine) flag) w e in
      entered_mirrored g c segment offset v routine flag.0 w leads flag.1 flag.2
  called_mirrored g c segment offset Nowhere w leads e = absurd (cc)

  call_mirrored : (g : Registers) (c : Cells) (segment offset : ℕ) (w : ResidentState × Service) → far_call p r g c (far_target p segment offset) ≡ Ok w → Mirrored p table met r (far_call (bare p bytes) seen g c (far_target (bare p bytes) segment offset)) w
  call_mirrored g c segment offset w e =
      let target : Target = far_target p segment offset in
      let first : ℕ = (lowered g).sp in
      let second : ℕ = (lowered (lowered g)).sp in
      let c1 : Cells = with_word c g.ss first Paired in
      let one = paired_ok c g.ss first (λ half. paired_then half g.ss second (λ all. called_to p r g all target)) w e in
      let two = paired_ok c1 g.ss second (λ all. called_to p r g all target) w one.goes_on in
      let end = called_mirrored g (with_word c1 g.ss second Paired) segment offset target w refl two.goes_on in
      let leads : far_target (bare p bytes) segment offset ≡ Into segment offset = no_stub (bare p bytes) segment offset refl in
      carried (called_to (bare p bytes) seen g (with_word c1 g.ss second Paired) (Into segment offset)) (far_call (bare p bytes) seen g c (far_target (bare p bytes) segment offset)) w end
      (λ y goes. ap (far_call (bare p bytes) seen g c) leads
      ∙ paired_goes c g.ss first (λ half. paired_then half g.ss second (λ all. called_to (bare p bytes) seen g all (Into segment offset))) y one.low one.high
      (paired_goes c1 g.ss second (λ all. called_to (bare p bytes) seen g all (Into segment offset)) y two.low two.high goes))

  -- the record is taken apart
  taken_mirrored : (g : Registers) (c : Cells) (dropped place : ℕ) (segment : Segment) (offset : ℕ) (others : List Record) (w : ResidentState × Service) → (place == g.sp) ≡ true → record { place = place; segment = segment; offset = offset } ∷ others ≡ r.records → returned_into segment (returned r g c dropped (record { place = place; segment = segment; offset = offset }) others) ≡ Ok w
      → Mirrored p table met r (far_return seen g c dropped (laid_record place (pair_by table met segment offset) ∷ with_pairs others (pairs_by table (met_past table met segment) others))) w
  taken_mirrored g c dropped place (Image number) offset others w at records e =
      let x : Record = record { place = place; segment = Image number; offset = offset } in
      let y : Record = laid_record place (record { offset = offset; segment = number }) in
      let rest : List Record = with_pairs others (pairs_by table met others) in
      comes (far_return seen g c dropped (y ∷ rest)) (returned r g c dropped x others) NoService w e
      (record {
        there = returned seen g c dropped y rest;
        service = NoService;
        goes = rw at refl;
        leads = record { state = refl; cs = tt; topmost = λ v out. ap (λ (xs : List Record). topmost_into table (overlay_at table v).stub (items_of xs)) records };
      })
  taken_mirrored g c dropped place (Overlay v) offset others w at records e =
      let x : Record = record { place = place; segment = Overlay v; offset = offset } in
      let pair : Far = shown_pair (overlay_at table v) (met (overlay_at table v).stub) offset in
      let y : Record = laid_record place pair in
      let rest : List Record = with_pairs others (pairs_by table (met_too (overlay_at table v).stub met) others) in
      comes (far_return seen g c dropped (y ∷ rest)) (blurred (returned r g c dropped x others)) AtReturn w e
      (record {
        there = returned seen g c dropped y rest;
        service = NoService;
        goes = rw at refl;
        leads = record {
          back = returned r g c dropped x others;
          overlay = v;
          cs = refl;
          left = refl;
          place = place;
          taken = sym records;
          half = refl;
          status = refl;
          state = refl;
        };
      })

  return_mirrored : (g : Registers) (c : Cells) (dropped : ℕ) (records : List Record) (w : ResidentState × Service) → records ≡ r.records → far_return r g c dropped records ≡ Ok w → Mirrored p table met r (far_return seen g c dropped (with_pairs records (pairs_by table met records))) w
  return_mirrored g c dropped [] w same e = absurd (cc)
  return_mirrored g c dropped (x ∷ others) w same e =
      let both = unless_ok (x.place == g.sp) (returned_into x.segment (returned r g c dropped x others)) ReturnsElsewhere w e in
      subst (λ (xs : List Record). Mirrored p table met r (far_return seen g c dropped xs) w) (sym (laid_first table met x others))
      (taken_mirrored g c dropped x.place x.segment x.offset others w both.0 same both.1)

  jump_mirrored : (g : Registers) (c : Cells) (segment offset : ℕ) (code : Option (List ℕ)) (w : ResidentState × Service) → jumped_to r g c (image_target code segment offset) ≡ Ok w → Mirrored p table met r (jumped_to seen g c (Into segment offset)) w
  jump_mirrored g c segment offset None w e = absurd (cc)
  jump_mirrored g c segment offset (Some code) w e =
      comes (jumped_to seen g c (Into segment offset)) (record r { registers = at_offset g offset; cs = Image segment; cells = c }) NoService w e
      (record {
        there = record seen { registers = at_offset g offset; cs = Image segment; cells = c };
        service = NoService;
        goes = refl;
        leads = record { state = refl; cs = tt; topmost = λ v out. refl };
      })

  half_mirrored : (g : Registers) (c : Cells) (w : ResidentState × Service) → half_pushed r g c ≡ Ok w → Mirrored p table met r (half_pushed seen g c) w
  half_mirrored g c w e =
      let first : ℕ = (lowered g).sp in
      let c1 : Cells = with_word c g.ss first Paired in
      let one = paired_ok c g.ss first (λ half. plainly (record r { registers = lowered g; cells = half; half = true })) w e in
      comes (half_pushed seen g c) (record r { registers = lowered g; cells = c1; half = true }) NoService w one.goes_on
      (record {
        there = record seen { registers = lowered g; cells = c1; half = true };
        service = NoService;
        goes = paired_goes c g.ss first (λ half. plainly (record seen { registers = lowered g; cells = half; half = true })) (record seen { registers = lowered g; cells = c1; half = true }, NoService) one.low one.high refl;
        leads = same_mirrors (record r { registers = lowered g; cells = c1; half = true }) refl refl;
      })

  -- ## The tree

  pub tree_mirrored : (a : Act) (c : Cells) (w : ResidentState × Service) → on_cells p r a c ≡ Ok w → Mirrored p table met r (on_cells (bare p bytes) seen a c) w
  tree_mirrored (Done g) c w e =
      let x = stack_ok r g (plainly (with_memory r g c)) w e in
      comes (on_cells (bare p bytes) seen (Done g) c) (with_memory r g c) NoService w x.1
      (record { there = with_memory seen g c; service = NoService; goes = stack_goes seen g (plainly (with_memory seen g c)) (with_memory seen g c, NoService) x.0 refl; leads = same_mirrors (with_memory r g c) refl refl })
  tree_mirrored (Read place next) c w e =
      let x = known_ok (c place) (λ v. on_cells p r (next v) c) w e in
      carried (on_cells (bare p bytes) seen (next x.0) c) (on_cells (bare p bytes) seen (Read place next) c) w (tree_mirrored (next x.0) c w x.2)
      (λ y goes. known_goes (c place) (λ v. on_cells (bare p bytes) seen (next v) c) x.0 y x.1 goes)
  tree_mirrored (Write place value next) c w e =
      let x = free_ok (c place) (on_cells p r next (with_cell c place (Known value))) w e in
      carried (on_cells (bare p bytes) seen next (with_cell c place (Known value))) (on_cells (bare p bytes) seen (Write place value next) c) w (tree_mirrored next (with_cell c place (Known value)) w x.1)
      (λ y goes. free_goes (c place) (on_cells (bare p bytes) seen next (with_cell c place (Known value))) y x.0 goes)
  tree_mirrored (Copy from to next) c w e =
      let x = moved_ok (c from) (λ z. free_then (c to) (on_cells p r next (with_cell c to z))) w e in
      let z = free_ok (c to) (on_cells p r next (with_cell c to (c from))) w x in
      carried (on_cells (bare p bytes) seen next (with_cell c to (c from))) (on_cells (bare p bytes) seen (Copy from to next) c) w (tree_mirrored next (with_cell c to (c from)) w z.1)
      (λ y goes. moved_goes (c from) (λ z. free_then (c to) (on_cells p r next (with_cell c to z))) (λ z. free_then (c to) (on_cells (bare p bytes) seen next (with_cell c to z))) w y e
      (free_goes (c to) (on_cells (bare p bytes) seen next (with_cell c to (c from))) y z.0 goes))
  tree_mirrored (ReadCodeSegment next) c w e = absurd (cc)
  tree_mirrored (FarCall g segment offset) c w e =
      let x = stack_ok r g (far_call p r g c (far_target p segment offset)) w e in
      let far : Outcome = far_call (bare p bytes) seen g c (far_target (bare p bytes) segment offset) in
      carried far (on_cells (bare p bytes) seen (FarCall g segment offset) c) w (call_mirrored g c segment offset w x.1) (λ y goes. stack_goes seen g far y x.0 goes)
  tree_mirrored (FarReturn g dropped) c w e =
      let x = stack_ok r g (far_return r g c dropped r.records) w e in
      let far : Outcome = far_return seen g c dropped seen.records in
      carried far (on_cells (bare p bytes) seen (FarReturn g dropped) c) w (return_mirrored g c dropped r.records w refl x.1) (λ y goes. stack_goes seen g far y x.0 goes)
  tree_mirrored (FarJump g segment offset) c w e =
      let x = stack_ok r g (jumped_to r g c (image_target (p.image segment) segment offset)) w e in
      let far : Outcome = jumped_to seen g c (Into segment offset) in
      carried far (on_cells (bare p bytes) seen (FarJump g segment offset) c) w (jump_mirrored g c segment offset (p.image segment) w x.1) (λ y goes. stack_goes seen g far y x.0 goes)
  tree_mirrored (PushCodeSegment g) c w e =
      let x = stack_ok r g (half_pushed r g c) w e in
      carried (half_pushed seen g c) (on_cells (bare p bytes) seen (PushCodeSegment g) c) w (half_mirrored g c w x.1) (λ y goes. stack_goes seen g (half_pushed seen g c) y x.0 goes)
  tree_mirrored (Interrupt g number) c w e =
      let x = stack_ok r g (serviced r (with_memory r g c) number) w e in
      let service : Outcome = serviced seen (with_memory seen g c) number in
      carried service (on_cells (bare p bytes) seen (Interrupt g number) c) w (service_mirrored g c number w x.1) (λ y goes. stack_goes seen g service y x.0 goes)
  tree_mirrored DivideFault c w e = stopped_mirrored why.Divide w e
