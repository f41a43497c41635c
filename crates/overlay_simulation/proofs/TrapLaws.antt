-- The trap of a process that stands at the stub of an overlay that is out: at an entry that was called, or at the begin.
use Rattle.std.proofs.Common.{◌≡◌, ℕ, ◌+◌, ◌-◌, ◌*◌, ◌/◌, ◌%◌, ◌<◌, ◌≤◌, ◌==◌, not, true, false, cond, List, [], ◌∷◌, ◌++◌, length, drop, map, position, get_or, Some, None, refl, ap, ap₂, ◌∙◌, subst, arith, eq-eqb, ne_eqb}
use Rattle.std.specs.Prelude.{slice_get, nat_le, nat_lt}
use Rattle.std.specs.List.{position_or_len}
use Rattle.std.proofs.lemmas.List.{length-map}
use Rattle.std.proofs.lemmas.List.Sums.{position_or_len_is}
use Rattle.std.proofs.lemmas.Bool.Decides.{nat_tests}
use Rattle.std.proofs.lemmas.Option.{slice_get_within, slice_get-get_or, get_or_from_slice_get}
use Rattle.x86_table.specs.declared.instr.Instr.TheVariants as instr
use Rattle.x86_table.specs.Spelling.{spelling}
use Rattle.cpu_8086.specs.declared.machine.Event.{Event}
use Rattle.cpu_8086.specs.declared.machine.Event.TheVariants as events
use Rattle.cpu_8086.specs.declared.registers.Registers.{Registers}
use Rattle.cpu_8086.specs.Effect.{act}
use Rattle.cpu_8086.specs.Memory.{load_word}
use Rattle.cpu_8086.specs.Process as process
use Rattle.cpu_8086.specs.Process.{Process}
use Rattle.cpu_8086.specs.State.{State}
use Rattle.cpu_8086.specs.Step.{past, effect, Steps}
use Rattle.cpu_8086.proofs.StepLaws.{steps_by}
use Rattle.overlay_file.specs.Stubs.{entry_offset}
use Rattle.overlay_manager.specs.Manager.{next_stub}
use Rattle.overlay_manager.specs.Serves.{table_before}
use Rattle.overlay_manager.specs.Traps.{trap_place, is_entry_place, trap_in, trap_by, trap_of}
use Rattle.overlay_manager.specs.overlay_run.Managed.{Managed}
use Rattle.resident_machine.specs.Program.{OverlayCode, Program, stub_owner}
use Rattle.resident_machine.specs.Cells.{Cells}
use Rattle.resident_machine.specs.Effect.{blurred}
use Rattle.resident_machine.specs.Standing.{HoldsCode}
use Rattle.resident_machine.specs.State.{ResidentState}
use Rattle.return_repair.specs.declared.table.Loaded.{Loaded}
use Rattle.return_repair.specs.Follows.{overlay_at}
use Rattle.return_repair.specs.Pairs.{is_out}
use Rattle.overlay_simulation.specs.Laid.{status_by}
use Rattle.overlay_simulation.specs.Managing.{Manages}
use Rattle.overlay_simulation.specs.Matching.{size_of, StubStands, TellsApart}
use Rattle.overlay_simulation.specs.Shown.{number_by}
use Rattle.overlay_simulation.specs.Trapping.{at_entry, at_begin, AtEntry, AtBegin}
use Rattle.overlay_simulation.proofs.EntryLaws.{traps, begins_so}
use Rattle.overlay_simulation.proofs.LeadLaws.{called_cells}
use Rattle.overlay_simulation.proofs.StepLaws.{IsAt, fetched_here, running, stands_bare}
use Rattle.overlay_simulation.proofs.StubLaws.{bytes_from, stands_kept, stub_room}

-- ## The number of a stub

place_map : (os : List OverlayCode) (segment : ℕ) → position_or_len (λ (stub : ℕ). stub == segment) (map (λ (o : OverlayCode). o.stub) os) ≡ position_or_len (λ (o : OverlayCode). o.stub == segment) os
place_map [] segment = refl
place_map (o ∷ os) segment = ap (λ (n : ℕ). cond (not (o.stub == segment)) (1 + n) 0) (place_map os segment)

position_map : (os : List OverlayCode) (segment : ℕ) → position (λ (stub : ℕ). stub == segment) (map (λ (o : OverlayCode). o.stub) os) ≡ position (λ (o : OverlayCode). o.stub == segment) os
position_map os segment = ap₂ (λ (n k : ℕ). cond (nat_lt n k) (Some n) None) (place_map os segment) (length-map os (λ (o : OverlayCode). o.stub))

owned : (p : Program) (table : List Loaded) → TellsApart p table → (v : ℕ) (o : OverlayCode) → slice_get p.overlays v ≡ Some o → stub_owner p o.stub ≡ Some v
owned p table told v o found =
    let os : List OverlayCode = p.overlays in
    let inside = slice_get_within os v o found in
    let before : (k : ℕ) → k < v → ((get_or os k o).stub == o.stub) ≡ false =
    λ k lt. ne_eqb (get_or os k o).stub o.stub (λ same. (let e = told.stubs k v (get_or os k o) o (slice_get-get_or os k o (omega arith)) found same in absurd (omega arith))) in
    let here : ((get_or os v o).stub == o.stub) ≡ true = eq-eqb (get_or os v o).stub o.stub (ap (λ (z : OverlayCode). z.stub) (get_or_from_slice_get os v o o found)) in
    let place = position_or_len_is (λ (x : OverlayCode). x.stub == o.stub) os v o (omega arith) before (λ lt. here) in
    let less : nat_lt v (length os) ≡ true = grind (arith, nat_tests) in
    ap (λ (n : ℕ). cond (nat_lt n (length os)) (Some n) None) place ∙ rw less refl

-- ## Past an INT 3Fh

entry_there : (e n : ℕ) → e < n → is_entry_place n (entry_offset e) ≡ true
entry_there e n lt =
    let number : (32 + 5 * e - 32) / 5 ≡ e = omega arith in
    let none : (32 + 5 * e - 32) % 5 ≡ 0 = omega arith in
    let above : nat_le 32 (32 + 5 * e) ≡ true = grind (arith, nat_tests) in
    let less : nat_lt e n ≡ true = grind (arith, nat_tests) in
    rw (above, eq-eqb ((32 + 5 * e - 32) % 5) 0 none) (ap (λ (k : ℕ). nat_lt k n) number ∙ less)

-- at an entry, and at the begin
call_there : (s : State) (v e n : ℕ) → trap_place s ≡ entry_offset e → load_word s.memory s.cs 12 ≡ n → e < n → trap_in s v ≡ Some (record { overlay = v; call = true })
call_there s v e n place count lt =
    let some : (trap_place s == 0) ≡ false = ne_eqb (trap_place s) 0 (λ same. absurd (omega arith)) in
    let entry : is_entry_place (load_word s.memory s.cs 12) (trap_place s) ≡ true = ap₂ is_entry_place count place ∙ entry_there e n lt in
    rw (some, entry) refl

return_there : (s : State) (v : ℕ) → trap_place s ≡ 0 → trap_in s v ≡ Some (record { overlay = v; call = false })
return_there s v place = rw (eq-eqb (trap_place s) 0 place) refl

int_effect : (s : State) (n : ℕ) → effect s (instr.Int n) ≡ (record { registers = past (instr.Int n) s.registers; cs = s.cs; memory = s.memory }, events.Service n)
unfolding effect act
int_effect s n = refl

abbrev pub past_trap : Process → State
past_trap u = record { registers = past (instr.Int 63) u.machine.registers; cs = u.machine.cs; memory = u.machine.memory }

-- where an INT 3Fh stands it is what the process executes
trap_steps : (p : Program) (x : ResidentState) (u : Process) → IsAt p x u (instr.Int 63) → Steps u.machine (past_trap u) (events.Service 63)
trap_steps p x u at = subst (λ (z : State × Event). Steps u.machine z.0 z.1) (int_effect u.machine 63) (steps_by u.machine (instr.Int 63) (fetched_here p x u (instr.Int 63) at).0 (fetched_here p x u (instr.Int 63) at).1)

-- ## At an entry

module _ (p : Program) (t : ResidentState) (q : Managed) (u : Process) (manages : Manages p q.manager) (h : AtEntry p t q u) (out : is_out (overlay_at (table_before q.manager) h.overlay) ≡ true) where
  abbrev table : List Loaded
  table = table_before q.manager

  abbrev memory : List ℕ
  memory = u.machine.memory

  abbrev x : ResidentState
  x = at_entry table h.code h.entry (blurred h.through)

  abbrev load : ℕ
  load = (overlay_at table h.overlay).load

  stub : StubStands t.cells memory h.code load (next_stub q.manager.stubs q.manager.ring.seats h.overlay)
  stub = h.overlays.stubs h.overlay h.code h.found

  lt : h.entry < length h.code.entries
  lt = slice_get_within h.code.entries h.entry h.through.registers.ip h.leads

  room : size_of h.code ≤ 65536
  room = stub_room t.cells memory h.code load (next_stub q.manager.stubs q.manager.ring.seats h.overlay) stub

  abbrev stub_bytes : List ℕ
  stub_bytes = bytes_from memory h.code.stub 0 (size_of h.code)

  spelled : (rest : List ℕ) × (drop (entry_offset h.entry) stub_bytes ≡ spelling (instr.Int 63) ++ rest)
  spelled = traps t.cells memory h.code load (next_stub q.manager.stubs q.manager.ring.seats h.overlay) stub h.entry lt out

  at : IsAt p x u (instr.Int 63)
  at = record {
    segment = h.code.stub;
    cs = refl;
    running = ap (status_by (number_by table)) h.running;
    stands = stands_bare p p x u h.stands;
    code = stub_bytes;
    held = subst (λ (c : Cells). HoldsCode c memory h.code.stub stub_bytes) (called_cells p t h.through (h.flag == 0) h.left) (stands_kept t.cells memory h.code.stub (size_of h.code) room stub.kept);
    rest = spelled.0;
    spelled = spelled.1;
  }

  pub call_runs : u.status ≡ process.Running
  call_runs = running p x u (instr.Int 63) at

  pub call_steps : Steps u.machine (past_trap u) (events.Service 63)
  call_steps = trap_steps p x u at

  pub call_place : trap_place (past_trap u) ≡ entry_offset h.entry
  call_place =
      let ip : u.machine.registers.ip ≡ entry_offset h.entry = ap (λ (g : Registers). g.ip) h.stands.registers in
      omega (arith, ip, room, lt)

  pub call_trap : trap_of q.manager.stubs (past_trap u) ≡ Some (record { overlay = h.overlay; call = true })
  call_trap =
      let found : position (λ (z : ℕ). z == u.machine.cs) q.manager.stubs ≡ Some h.overlay =
      ap₂ (λ (n : ℕ) (xs : List ℕ). position (λ (z : ℕ). z == n) xs) h.stands.cs manages.stubs ∙ position_map p.overlays h.code.stub ∙ h.owner in
      ap (trap_by (past_trap u)) found ∙ call_there (past_trap u) h.overlay h.entry (length h.code.entries) call_place (ap (λ (n : ℕ). load_word memory n 12) h.stands.cs ∙ stub.count) lt

-- ## At the begin

module _ (p : Program) (t : ResidentState) (q : Managed) (u : Process) (manages : Manages p q.manager) (told : TellsApart p (table_before q.manager)) (h : AtBegin p t q u) where
  abbrev begin_table : List Loaded
  begin_table = table_before q.manager

  abbrev at_it : ResidentState
  at_it = at_begin begin_table h.code t

  abbrev begin_bytes : List ℕ
  begin_bytes = bytes_from u.machine.memory h.code.stub 0 (size_of h.code)

  begin_stub : StubStands t.cells u.machine.memory h.code (overlay_at begin_table h.overlay).load (next_stub q.manager.stubs q.manager.ring.seats h.overlay)
  begin_stub = h.overlays.stubs h.overlay h.code h.found

  begin_spelled : (rest : List ℕ) × (begin_bytes ≡ spelling (instr.Int 63) ++ rest)
  begin_spelled = begins_so t.cells u.machine.memory h.code _ _ begin_stub

  at_start : IsAt p at_it u (instr.Int 63)
  at_start = record {
    segment = h.code.stub;
    cs = refl;
    running = ap (status_by (number_by begin_table)) h.running;
    stands = stands_bare p p at_it u h.stands;
    code = begin_bytes;
    held = stands_kept t.cells u.machine.memory h.code.stub (size_of h.code) (stub_room t.cells u.machine.memory h.code _ _ begin_stub) begin_stub.kept;
    rest = begin_spelled.0;
    spelled = begin_spelled.1;
  }

  pub return_runs : u.status ≡ process.Running
  return_runs = running p at_it u (instr.Int 63) at_start

  pub return_steps : Steps u.machine (past_trap u) (events.Service 63)
  return_steps = trap_steps p at_it u at_start

  pub return_trap : trap_of q.manager.stubs (past_trap u) ≡ Some (record { overlay = h.overlay; call = false })
  return_trap =
      let ip : u.machine.registers.ip ≡ 0 = ap (λ (g : Registers). g.ip) h.stands.registers in
      let found : position (λ (z : ℕ). z == u.machine.cs) q.manager.stubs ≡ Some h.overlay =
      ap₂ (λ (n : ℕ) (xs : List ℕ). position (λ (z : ℕ). z == n) xs) h.stands.cs manages.stubs ∙ position_map p.overlays h.code.stub ∙ owned p begin_table told h.overlay h.code h.found in
      ap (trap_by (past_trap u)) found ∙ return_there (past_trap u) h.overlay (omega (arith, ip))
