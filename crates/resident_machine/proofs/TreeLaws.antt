-- A tree of accesses that does not go astray over cells does over memory what it does there.
use Rattle.std.proofs.Common.{◌≡◌, ℕ, ◌+◌, ◌%◌, ◌==◌, Bool, true, false, List, [], ◌∷◌, Option, Some, None, Ok, Err, refl, sym, ap, subst, arith, eqb-true}
use Rattle.std.specs.Prelude.{IsTrue, if◌then◌else◌, slice_index, slice_set, position}
use Rattle.cpu_8086.specs.declared.process.Why.TheVariants as why
use Rattle.cpu_8086.specs.declared.registers.Registers.{Registers}
use Rattle.cpu_8086.specs.Access.{Act, Done, Read, Write, Copy, ReadCodeSegment, FarCall, FarReturn, FarJump, PushCodeSegment, Interrupt, DivideFault, raised, lowered, at_offset, far_called, far_returned, with_top, on_memory}
use Rattle.cpu_8086.specs.Memory.{address, next_offset, load_word, store_word}
use Rattle.cpu_8086.specs.Process as process
use Rattle.cpu_8086.specs.Process.{Process, after_step}
use Rattle.resident_machine.specs.Program.{Segment, Image, Overlay, OverlayCode, Program, Target, image_target, target_by, far_target}
use Rattle.resident_machine.specs.Astray.{ReturnsElsewhere, Traps}
use Rattle.resident_machine.specs.Cells.{Cell, Known, Unknown, Paired, Cells, with_cell, with_word, is_free, free_then, paired_then}
use Rattle.resident_machine.specs.Dos.{plainly, stopped, dos_call}
use Rattle.resident_machine.specs.Effect.{with_memory, blurred, called, called_to, far_call, taken_pair, returned, returned_into, far_return, jumped_to, half_pushed, cleared, serviced, on_cells}
use Rattle.resident_machine.specs.Standing.{number_of, PairWord, low_of, high_of, words_of, with_half, pair_words, HoldsMemory, StandsFor}
use Rattle.resident_machine.specs.State.{Record, ResidentState, Service, NoService, AtReturn, AtClear}
use Rattle.resident_machine.proofs.CellLaws.{known_ok, free_ok, moved_ok, unless_ok, stack_ok, paired_ok}
use Rattle.resident_machine.proofs.DosLaws.{lands, stands_stopped, machine_of, dos_end}
use Rattle.resident_machine.proofs.HoldLaws.{memory_written, memory_pushed, with_word-pushed, memory_taken, memory_lost}

-- without stubs a far pointer leads into code of the image or nowhere
pub no_stub : (p : Program) (segment offset : ℕ) → p.overlays ≡ [] → far_target p segment offset ≡ image_target (p.image segment) segment offset
no_stub p segment offset none = ap (λ (os : List OverlayCode). target_by p segment offset (position (λ (o : OverlayCode). o.stub == segment) os)) none

-- what was lost changes nothing
pub stands_blurred : (p : Program) (t : ResidentState) (u : Process) → StandsFor p t u → StandsFor p (blurred t) u
stands_blurred p t u s = record {
  registers = s.registers;
  cs = s.cs;
  memory = memory_lost p t.registers.ss t.cells u.machine.memory (pair_words t) t.registers.ss t.registers.sp s.memory;
  input = s.input;
  taken = s.taken;
  out = s.out;
  err = s.err;
  status = s.status;
}

-- A state that has other registers, CS, cells and records than r, and the process with such a machine.
abbrev pub arrived : ResidentState → Registers → Segment → Cells → List Record → Bool → ResidentState
arrived r g cs c records half = record r { registers = g; cs = cs; cells = c; records = records; half = half }

pub stands_arrived : (p : Program) (r : ResidentState) (q : Process) (g h : Registers) (cs : Segment) (n : ℕ) (c : Cells) (m : List ℕ) (records : List Record) (half : Bool) → StandsFor p r q → h ≡ g → n ≡ number_of cs → HoldsMemory p g.ss c m (with_half half g.sp (number_of cs) (words_of records)) → StandsFor p (arrived r g cs c records half) (record q { machine = record { registers = h; cs = n; memory = m } })
stands_arrived p r q g h cs n c m records half s same number held = record {
  registers = same;
  cs = number;
  memory = held;
  input = s.input;
  taken = s.taken;
  out = s.out;
  err = s.err;
  status = s.status;
}

-- before PUSH CS the words are those of the records
unhalved : (p : Program) (r : ResidentState) (ss sp n : ℕ) (c : Cells) (m : List ℕ) (ws : List PairWord) → r.half ≡ false → HoldsMemory p ss c m ws → HoldsMemory p ss c m (with_half r.half sp n ws)
unhalved p r ss sp n c m ws whole h = subst (λ b. HoldsMemory p ss c m (with_half b sp n ws)) (sym whole) h

-- both words of the pair that a far call pushes
abbrev twice_paired : Registers → Cells → Cells
twice_paired g c = with_word (with_word c g.ss (lowered g).sp Paired) g.ss (lowered (lowered g)).sp Paired

-- and their bytes were free
record PushedTwice (g : Registers) (c : Cells) : Type 0 where
  low0 : IsTrue (is_free (c (address g.ss (lowered g).sp)))
  high0 : IsTrue (is_free (c (address g.ss (next_offset (lowered g).sp))))
  low1 : IsTrue (is_free (with_word c g.ss (lowered g).sp Paired (address g.ss (lowered (lowered g)).sp)))
  high1 : IsTrue (is_free (with_word c g.ss (lowered g).sp Paired (address g.ss (next_offset (lowered (lowered g)).sp))))

pub same_word : (a b x y : ℕ) → a ≡ b → x ≡ y → (let v : PairWord = record { offset = a; value = x } in let u : PairWord = record { offset = b; value = y } in v ≡ u)
same_word a b x y e f = cc

pub lowered-raised : (sp : ℕ) → (sp + 65534) % 65536 ≡ (((sp + 65534) % 65536 + 65534) % 65536 + 2) % 65536
lowered-raised sp = omega arith

known_value : (value v : ℕ) → (let x : Cell = Known value in x ≡ Known v) → value ≡ v
known_value value v same = cc

-- r and q stand before the instruction, cells and memory inside of it
module _ (p : Program) (none : p.overlays ≡ []) (r : ResidentState) (q : Process) (s : StandsFor p r q) (whole : r.half ≡ false) where
  done_end : (g : Registers) (c : Cells) (m : List ℕ) (w : ResidentState × Service) → HoldsMemory p g.ss c m (words_of r.records) → plainly (with_memory r g c) ≡ Ok w → StandsFor p w.0 (record q { machine = record { registers = g; cs = q.machine.cs; memory = m } })
  done_end g c m w h e = lands p _ (with_memory r g c) NoService w e (stands_arrived p r q g g r.cs q.machine.cs c m r.records r.half s refl s.cs (unhalved p r g.ss g.sp (number_of r.cs) c m (words_of r.records) whole h))

  -- ## Far calls

  -- both words of the pair are pushed
  call_memory : (g : Registers) (c : Cells) (m : List ℕ) → HoldsMemory p g.ss c m (words_of r.records) → PushedTwice g c → HoldsMemory p g.ss (twice_paired g c) (with_top (lowered (lowered g)) (with_top (lowered g) m q.machine.cs) g.ip) (words_of (record { place = (lowered (lowered g)).sp; segment = r.cs; offset = g.ip } ∷ r.records))
  call_memory g c m h free =
      let first : ℕ = (lowered g).sp in
      let second : ℕ = (lowered (lowered g)).sp in
      let c1 : Cells = with_word c g.ss first Paired in
      let m1 : List ℕ = store_word m g.ss first q.machine.cs in
      let h1 = memory_pushed p g.ss c c1 m (words_of r.records) first q.machine.cs h (omega arith) free.low0 free.high0 (with_word-pushed c g.ss first (omega arith)) in
      let h2 = memory_pushed p g.ss c1 (with_word c1 g.ss second Paired) m1 (record { offset = first; value = q.machine.cs } ∷ words_of r.records) second g.ip h1 (omega arith) free.low1 free.high1 (with_word-pushed c1 g.ss second (omega arith)) in
      subst (λ (z : PairWord). HoldsMemory p g.ss (twice_paired g c) (store_word m1 g.ss second g.ip) (record { offset = second; value = g.ip } ∷ z ∷ words_of r.records))
      (same_word first ((second + 2) % 65536) q.machine.cs (number_of r.cs) (lowered-raised g.sp) s.cs) h2

  called_end : (g : Registers) (c : Cells) (m : List ℕ) (segment offset : ℕ) (o : Option (List ℕ)) (w : ResidentState × Service) → HoldsMemory p g.ss c m (words_of (record { place = (lowered (lowered g)).sp; segment = r.cs; offset = g.ip } ∷ r.records)) → called_to p r g c (image_target o segment offset) ≡ Ok w → StandsFor p w.0 (record q { machine = record { registers = at_offset (lowered (lowered g)) offset; cs = segment; memory = m } })
  called_end g c m segment offset None w h e = absurd (cc)
  called_end g c m segment offset (Some code) w h e =
      let g2 : Registers = at_offset (lowered (lowered g)) offset in
      let records : List Record = record { place = (lowered (lowered g)).sp; segment = r.cs; offset = g.ip } ∷ r.records in
      lands p _ (called r g c (Image segment) offset) NoService w e (stands_arrived p r q g2 g2 (Image segment) segment c m records r.half s refl refl (unhalved p r g.ss g2.sp segment c m (words_of records) whole h))

  call_end : (g : Registers) (c : Cells) (m : List ℕ) (segment offset : ℕ) (w : ResidentState × Service) → HoldsMemory p g.ss c m (words_of r.records) → far_call p r g c (image_target (p.image segment) segment offset) ≡ Ok w → StandsFor p w.0 (record q { machine = far_called g q.machine.cs m segment offset })
  call_end g c m segment offset w h e =
      let target : Target = image_target (p.image segment) segment offset in
      let c1 : Cells = with_word c g.ss (lowered g).sp Paired in
      let one = paired_ok c g.ss (lowered g).sp (λ half. paired_then half g.ss (lowered (lowered g)).sp (λ all. called_to p r g all target)) w e in
      let two = paired_ok c1 g.ss (lowered (lowered g)).sp (λ all. called_to p r g all target) w one.goes_on in
      let held = call_memory g c m h (record { low0 = one.low; high0 = one.high; low1 = two.low; high1 = two.high }) in
      called_end g (twice_paired g c) _ segment offset (p.image segment) w held two.goes_on

  -- ## Far returns

  returned_end : (t : ResidentState) (segment : Segment) (u : Process) (w : ResidentState × Service) → StandsFor p t u → returned_into segment t ≡ Ok w → StandsFor p w.0 u
  returned_end t (Image number) u w h e = lands p u t NoService w e h
  returned_end t (Overlay number) u w h e = lands p u (blurred t) AtReturn w e (stands_blurred p t u h)

  return_end : (g : Registers) (c : Cells) (m : List ℕ) (dropped : ℕ) (records : List Record) (w : ResidentState × Service) → HoldsMemory p g.ss c m (words_of records) → far_return r g c dropped records ≡ Ok w → StandsFor p w.0 (record q { machine = far_returned g m dropped })
  return_end g c m dropped [] w h e = absurd (cc)
  return_end g c m dropped (x ∷ others) w h e =
      let both = unless_ok (x.place == g.sp) (returned_into x.segment (returned r g c dropped x others)) ReturnsElsewhere w e in
      let at : x.place ≡ g.sp = eqb-true x.place g.sp both.0 in
      let low = memory_taken p g.ss c m (low_of x) (high_of x ∷ words_of others) h in
      let high = memory_taken p g.ss (with_word c g.ss x.place Unknown) m (high_of x) (words_of others) low in
      let held = subst (λ z. HoldsMemory p g.ss (with_word (with_word c g.ss z Unknown) g.ss ((z + 2) % 65536) Unknown) m (words_of others)) at high in
      let ip : load_word m g.ss g.sp ≡ x.offset = subst (λ z. load_word m g.ss z ≡ x.offset) at h.words.0.value in
      let cs : load_word m g.ss ((g.sp + 2) % 65536) ≡ number_of x.segment = subst (λ z. load_word m g.ss ((z + 2) % 65536) ≡ number_of x.segment) at h.words.2.0.value in
      let g2 : Registers = at_offset (raised g (4 + dropped)) x.offset in
      returned_end (returned r g c dropped x others) x.segment _ w
      (stands_arrived p r q g2 (at_offset (raised g (4 + dropped)) (load_word m g.ss g.sp)) x.segment (load_word m g.ss ((g.sp + 2) % 65536)) (taken_pair g c) m others r.half s
      (ap (at_offset (raised g (4 + dropped))) ip) cs (unhalved p r g.ss g2.sp (number_of x.segment) (taken_pair g c) m (words_of others) whole held))
      both.1

  -- ## Jumps, PUSH CS and interrupts

  jump_end : (g : Registers) (c : Cells) (m : List ℕ) (segment offset : ℕ) (o : Option (List ℕ)) (w : ResidentState × Service) → HoldsMemory p g.ss c m (words_of r.records) → jumped_to r g c (image_target o segment offset) ≡ Ok w → StandsFor p w.0 (record q { machine = record { registers = at_offset g offset; cs = segment; memory = m } })
  jump_end g c m segment offset None w h e = absurd (cc)
  jump_end g c m segment offset (Some code) w h e =
      lands p _ (arrived r (at_offset g offset) (Image segment) c r.records r.half) NoService w e
      (stands_arrived p r q (at_offset g offset) (at_offset g offset) (Image segment) segment c m r.records r.half s refl refl (unhalved p r g.ss g.sp segment c m (words_of r.records) whole h))

  half_end : (g : Registers) (c : Cells) (m : List ℕ) (w : ResidentState × Service) → HoldsMemory p g.ss c m (words_of r.records) → half_pushed r g c ≡ Ok w → StandsFor p w.0 (record q { machine = record { registers = lowered g; cs = q.machine.cs; memory = with_top (lowered g) m q.machine.cs } })
  half_end g c m w h e =
      let one = paired_ok c g.ss (lowered g).sp (λ half. plainly (record r { registers = lowered g; cells = half; half = true })) w e in
      let c1 : Cells = with_word c g.ss (lowered g).sp Paired in
      let m1 : List ℕ = store_word m g.ss (lowered g).sp q.machine.cs in
      let held = memory_pushed p g.ss c c1 m (words_of r.records) (lowered g).sp q.machine.cs h (omega arith) one.low one.high (with_word-pushed c g.ss (lowered g).sp (omega arith)) in
      lands p _ (arrived r (lowered g) r.cs c1 r.records true) NoService w one.goes_on
      (stands_arrived p r q (lowered g) (lowered g) r.cs q.machine.cs c1 m1 r.records true s refl s.cs
      (subst (λ n. HoldsMemory p g.ss c1 m1 (record { offset = (lowered g).sp; value = n } ∷ words_of r.records)) s.cs held))

  cleared_end : (cs : Segment) (t : ResidentState) (u : Process) (w : ResidentState × Service) → StandsFor p t u → cleared cs t ≡ Ok w → StandsFor p w.0 u
  cleared_end (Image number) t u w h e = lands p u (blurred t) AtClear w e (stands_blurred p t u h)
  cleared_end (Overlay number) t u w h e = absurd (cc)

  service_end : (t : ResidentState) (m : List ℕ) (n : ℕ) (w : ResidentState × Service) → StandsFor p t (record q { machine = machine_of t q.machine.cs m }) → serviced r t n ≡ Ok w → StandsFor p w.0 (process.serviced q (machine_of t q.machine.cs m) n)
  service_end t m n w h e = by (n == 33) (n == 96) (n == 63) e
    where
      by : (x y z : Bool) → (if x then dos_call r t else (if y then cleared r.cs t else (if z then Err Traps else plainly (stopped r (why.Interrupt n))))) ≡ Ok w → StandsFor p w.0 (if x then process.dos_call q (machine_of t q.machine.cs m) else (if y then record q { machine = machine_of t q.machine.cs m } else (if z then process.stopped q why.NoStub else process.stopped q (why.Interrupt n))))
      by true y z e = dos_end p r t q q.machine.cs m w s h e
      by false true z e = cleared_end r.cs t _ w h e
      by false false true e = absurd (cc)
      by false false false e = lands p _ (stopped r (why.Interrupt n)) NoService w e (stands_stopped p r q (why.Interrupt n) s)

  -- ## The tree

  with_ss : (g : Registers) (c : Cells) (m : List ℕ) → g.ss ≡ r.registers.ss → HoldsMemory p r.registers.ss c m (words_of r.records) → HoldsMemory p g.ss c m (words_of r.records)
  with_ss g c m e h = subst (λ z. HoldsMemory p z c m (words_of r.records)) (sym e) h

  pub tree_stands : (a : Act) (c : Cells) (m : List ℕ) (w : ResidentState × Service) → HoldsMemory p r.registers.ss c m (words_of r.records) → on_cells p r a c ≡ Ok w → StandsFor p w.0 (after_step q (on_memory q.machine a m).0 (on_memory q.machine a m).1)
  tree_stands (Done g) c m w h e = let x = stack_ok r g (plainly (with_memory r g c)) w e in done_end g c m w (with_ss g c m x.0 h) x.1
  tree_stands (Read place next) c m w h e = by (known_ok (c place) (λ v. on_cells p r (next v) c) w e) (λ v e'. tree_stands (next v) c m w h e')
    where
      by : (v : ℕ) × (c place ≡ Known v) × (on_cells p r (next v) c ≡ Ok w) → ((v : ℕ) → on_cells p r (next v) c ≡ Ok w → StandsFor p w.0 (after_step q (on_memory q.machine (next v) m).0 (on_memory q.machine (next v) m).1)) → StandsFor p w.0 (after_step q (on_memory q.machine (next (slice_index m place)) m).0 (on_memory q.machine (next (slice_index m place)) m).1)
      by x ih = subst (λ z. StandsFor p w.0 (after_step q (on_memory q.machine (next z) m).0 (on_memory q.machine (next z) m).1)) (sym (h.known place x.0 x.1)) (ih x.0 x.2)
  tree_stands (Write place value next) c m w h e =
      let x = free_ok (c place) (on_cells p r next (with_cell c place (Known value))) w e in
      tree_stands next (with_cell c place (Known value)) (slice_set m place value) w (memory_written p r.registers.ss c m (words_of r.records) place (Known value) value h x.0 (known_value value)) x.1
  tree_stands (Copy from to next) c m w h e =
      let x = moved_ok (c from) (λ y. free_then (c to) (on_cells p r next (with_cell c to y))) w e in
      let y = free_ok (c to) (on_cells p r next (with_cell c to (c from))) w x in
      tree_stands next (with_cell c to (c from)) (slice_set m to (slice_index m from)) w (memory_written p r.registers.ss c m (words_of r.records) to (c from) (slice_index m from) h y.0 (λ v same. h.known from v same)) y.1
  tree_stands (ReadCodeSegment next) c m w h e = absurd (cc)
  tree_stands (FarCall g segment offset) c m w h e =
      let x = stack_ok r g (far_call p r g c (far_target p segment offset)) w e in
      call_end g c m segment offset w (with_ss g c m x.0 h) (subst (λ z. far_call p r g c z ≡ Ok w) (no_stub p segment offset none) x.1)
  tree_stands (FarReturn g dropped) c m w h e = let x = stack_ok r g (far_return r g c dropped r.records) w e in return_end g c m dropped r.records w (with_ss g c m x.0 h) x.1
  tree_stands (FarJump g segment offset) c m w h e =
      let x = stack_ok r g (jumped_to r g c (image_target (p.image segment) segment offset)) w e in jump_end g c m segment offset (p.image segment) w (with_ss g c m x.0 h) x.1
  tree_stands (PushCodeSegment g) c m w h e = let x = stack_ok r g (half_pushed r g c) w e in half_end g c m w (with_ss g c m x.0 h) x.1
  tree_stands (Interrupt g number) c m w h e =
      let x = stack_ok r g (serviced r (with_memory r g c) number) w e in
      service_end (with_memory r g c) m number w (stands_arrived p r q g g r.cs q.machine.cs c m r.records r.half s refl s.cs (unhalved p r g.ss g.sp (number_of r.cs) c m (words_of r.records) whole (with_ss g c m x.0 h))) x.1
  tree_stands DivideFault c m w h e = lands p _ (stopped r why.Divide) NoService w e (stands_stopped p r q why.Divide s)
