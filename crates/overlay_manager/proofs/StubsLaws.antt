-- How stubs read after a whole service.
use Rattle.std.proofs.Common.{◌≡◌, ◌≢◌, ℕ, ◌+◌, ◌<◌, ◌*◌, Bool, List, length, Option, Some, None, IfSome, sym, ap, subst, ◌∙◌, arith}
use Rattle.std.specs.Prelude.{IsOk}
use Rattle.std.specs.List.{AllByRecursion}
use Rattle.cpu_8086.specs.Memory.{address}
use Rattle.cpu_8086.specs.State.{State}
use Rattle.tp_outside.specs.Folder.{Folder, bytes_of}
use Rattle.overlay_ring.specs.declared.seat.Seat.{Seat}
use Rattle.return_repair.specs.Chain.{chain_of}
use Rattle.return_repair.specs.Pairs.{saved_at}
use Rattle.return_repair.specs.Follows.{overlay_at, IsElsewhere, word_bytes}
use Rattle.overlay_manager.specs.declared.traps.Trap.{Trap}
use Rattle.overlay_manager.specs.Loading.{OnlyWithin}
use Rattle.overlay_manager.specs.Manager.{Manager, buffer_segment, load_segment, next_stub, table_by}
use Rattle.overlay_manager.specs.Orderly.{stub_size, IsOffPairs, FitsSegment, AreApartStubs, StubsApart, StubOffBuffer, places_of, IsOrderlyFor}
use Rattle.overlay_manager.specs.Reads.{StubReads, StubsRead}
use Rattle.overlay_manager.specs.Serves.{table_before, table_after}
use Rattle.overlay_manager.specs.Service.{loaded_state, memory_after, seats_after, served}
use Rattle.overlay_manager.proofs.CarriedLaws.{each-then}
use Rattle.overlay_manager.proofs.CodeLaws.{length-table}
use Rattle.overlay_manager.proofs.ReadLaws.{Agree, all-at, stub-agrees, reads-from, stubs-read}
use Rattle.overlay_manager.proofs.ServeLaws.{resumed-memory}
use Rattle.overlay_manager.proofs.ServiceLaws.{each-overlay, each-two, stubs-of_table, Steps, off-buffer, only-pairs}
use Rattle.overlay_manager.proofs.StubLaws.{SameEntries}
use Rattle.overlay_manager.proofs.WholeLaws.{tabled, followed_of, written_of, pairs-off-each, entries-followed}

-- the bytes of a stub but those that save an offset are none of those of any stub
abbrev OffSaved : List ℕ → ℕ → ℕ → Type 0
OffSaved memory stub other = (k : ℕ) → k < stub_size memory stub → k ≢ 2 → k ≢ 3 → IsElsewhere (address stub k) (word_bytes other 2)

off-own : (memory : List ℕ) (stub : ℕ) → FitsSegment memory stub → OffSaved memory stub stub
off-own memory stub fits = λ k inside two three. (λ same. two (omega arith), (λ same. three (omega arith), tt))

off-one : (memory : List ℕ) (stub other : ℕ) → AreApartStubs memory stub other → OffSaved memory stub other
off-one memory stub other apart = λ k inside two three. (λ same. apart k 2 inside (omega arith) (sym same), (λ same. apart k 3 inside (omega arith) (sym same), tt))

off-two : (memory : List ℕ) (stub other : ℕ) → AreApartStubs memory stub other → OffSaved memory other stub
off-two memory stub other apart = λ k inside two three. (λ same. apart 2 k (omega arith) inside same, (λ same. apart 3 k (omega arith) inside same, tt))

-- each stub reads as the new table says
pub stubs-written : (m : Manager) (s : State) (pending : Bool) (seats : List Seat) (loaded : List ℕ) → Steps m s pending seats loaded
    → StubsRead m s.memory (written_of m s pending seats loaded) seats
stubs-written m s pending seats loaded steps = λ v there is.
    let old = table_before m in
    let new = table_by m seats in
    let stub = (overlay_at new v).stub in
    let followed_it : List ℕ = followed_of m s pending seats loaded in
    let in_old : v < length old = omega (arith, there, length-table m.ring.room m.ring.seats 0 m.stubs) in
    let in_new : v < length new = omega (arith, there, length-table m.ring.room seats 0 m.stubs) in
    let fits = tabled (FitsSegment s.memory) m seats steps.orderly.stubs_fit in
    let entries = tabled (SameEntries followed_it s.memory) m seats (entries-followed m s pending seats loaded steps) in
    let apart = subst (λ (stubs : List ℕ). StubsApart s.memory stubs) (sym (stubs-of_table m.ring.room seats 0 m.stubs)) steps.orderly.stubs_apart in
    let off_saved = each-two (OffSaved s.memory) s.memory m.stubs (off-own s.memory) (off-one s.memory) (off-two s.memory) steps.orderly.stubs_fit steps.orderly.stubs_apart in
    let saved_here = all-at (λ stub. AllByRecursion (OffSaved s.memory stub) m.stubs) new v in_new (tabled (λ stub. AllByRecursion (OffSaved s.memory stub) m.stubs) m seats off_saved) in
    let off_pairs = pairs-off-each s.memory s.registers.ss (places_of m.marked s pending) m.stubs steps.orderly.pairs_off_stubs in
    let pairs_here = all-at (λ stub. (k : ℕ) → k < stub_size s.memory stub → IsOffPairs s.registers.ss (places_of m.marked s pending) (address stub k)) new v in_new
    (tabled (λ stub. (k : ℕ) → k < stub_size s.memory stub → IsOffPairs s.registers.ss (places_of m.marked s pending) (address stub k)) m seats off_pairs) in
    let buffer_here = all-at (StubOffBuffer m.ring.room s.memory) new v in_new (tabled (StubOffBuffer m.ring.room s.memory) m seats steps.orderly.stubs_off_buffer) in
    let differ = only-pairs m s pending seats loaded steps in
    let agree : Agree stub (stub_size s.memory stub) followed_it s.memory =
    λ k inside two three.
    differ.others (address stub k) (pairs_here k inside)
    (each-overlay (λ other. IsElsewhere (address stub k) (word_bytes other 2)) new
    (tabled (λ other. IsElsewhere (address stub k) (word_bytes other 2)) m seats (each-then (OffSaved s.memory stub) (λ other. IsElsewhere (address stub k) (word_bytes other 2)) m.stubs (λ other it. it k inside two three) saved_here)))
    ∙ off-buffer m s pending seats loaded steps (address stub k) (buffer_here k inside) in
    let fits_here = all-at (FitsSegment s.memory) new v in_new fits in
    let size : length followed_it ≡ 1048576 = differ.size ∙ steps.within.size ∙ steps.orderly.state.apart.size in
    let is_followed = stub-agrees stub followed_it s.memory agree fits_here is in
    let number : 0 + v ≡ v = omega arith in
    let read = stubs-read m.stubs seats 0 old new s.memory followed_it v size entries fits apart in_old in_new is_followed in
    subst (λ (n : ℕ). StubReads s.memory (written_of m s pending seats loaded) stub (overlay_at old v).load (overlay_at new v).load (next_stub m.stubs seats n)) number
    (reads-from followed_it s.memory (written_of m s pending seats loaded) stub (overlay_at old v).load (overlay_at new v).load (next_stub m.stubs seats (0 + v)) fits_here agree read)

-- After a service the stubs read as the new table says.
pub stubs-told : (known : Option Folder) (name : List ℕ) (m : Manager) (trap : Trap) (s u : State) → IsOk (chain_of m.marked s)
    → IfSome known (λ held. u ≡ served m (bytes_of held name) trap s)
    → IfSome known (λ held. OnlyWithin (16 * buffer_segment m.ring.room) 0xA0000 s.memory (loaded_state (bytes_of held name) m.entries (table_before m) (table_after m trap s) s).memory)
    → IfSome known (λ held. IsOrderlyFor m s trap.call → StubsRead m s.memory u.memory (seats_after m trap s))
stubs-told None name m trap s u sound told within = tt
stubs-told (Some held) name m trap s u sound told within = λ orderly.
    let bytes = bytes_of held name in
    let seats = seats_after m trap s in
    let after : State = record s { memory = memory_after m bytes trap.call seats s } in
    let loaded : List ℕ = (loaded_state bytes m.entries (table_before m) (table_after m trap s) s).memory in
    let steps : Steps m s trap.call seats loaded = record { orderly = orderly; sound = sound; within = within } in
    let memory : u.memory ≡ written_of m s trap.call seats loaded = ap (λ (s : State). s.memory) told ∙ resumed-memory (load_segment m.ring.room seats trap.overlay) (saved_at s.memory s.cs) trap after in
    subst (λ (memory : List ℕ). StubsRead m s.memory memory seats) (sym memory) (stubs-written m s trap.call seats loaded steps)
