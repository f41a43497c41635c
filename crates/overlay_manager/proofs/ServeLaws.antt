-- A service, joined from its steps.
use Rattle.std.proofs.Common.{◌≡◌, ℕ, suc, ◌+◌, ◌*◌, ◌≤◌, Bool, true, false, cond, List, [], ◌∷◌, length, map, Option, Some, None, IfSome, refl, sym, ap, ap₂, subst, ◌∙◌, arith}
use Rattle.std.specs.Prelude.{slice_index, slice_index_or, IsOk}
use Rattle.cpu_8086.specs.State.{State}
use Rattle.tp_outside.specs.Folder.{Folder, bytes_of}
use Rattle.overlay_ring.specs.declared.seat.Seat.{Seat}
use Rattle.overlay_ring.specs.Table.{IsTable}
use Rattle.overlay_ring.specs.Seats.{table_of}
use Rattle.return_repair.specs.declared.table.Loaded.{Loaded}
use Rattle.return_repair.specs.Chain.{chain_of}
use Rattle.return_repair.specs.Live.{is_live}
use Rattle.return_repair.specs.Pairs.{saved_at}
use Rattle.return_repair.specs.Follows.{Follow}
use Rattle.overlay_manager.specs.declared.traps.Trap.{Trap}
use Rattle.overlay_manager.specs.Loading.{load_count, OnlyWithin}
use Rattle.overlay_manager.specs.Manager.{Manager, paragraphs_of, buffer_segment, load_segment, table_by, with_stubs, with_seats, with_more}
use Rattle.overlay_manager.specs.Orderly.{places_of, IsOrderlyFor}
use Rattle.overlay_manager.specs.Serves.{Serves, CodeStands, IsStanding, table_before, table_after, changed_count}
use Rattle.overlay_manager.specs.Service.{flags_from, seats_after, followed, followed_count, loaded_state, memory_after, served, served_manager}
use Rattle.overlay_manager.specs.Traps.{trap_place, resumed}
use Rattle.overlay_manager.proofs.CodeLaws.{code-written}
use Rattle.overlay_manager.proofs.OffLaws.{loads-off}
use Rattle.overlay_manager.proofs.ServiceLaws.{Steps}
use Rattle.overlay_manager.proofs.WholeLaws.{written_of, follow-written, followed-off}

-- flags that tell of each overlay whether it is live
pub flags-are : (marked : Bool) (s : State) (pending : Bool) (table : List Loaded) (v : ℕ) (stubs : List ℕ) (live : List Bool) → length live ≡ length stubs → ((k : ℕ) → slice_index_or live k false ≡ is_live marked s pending table (v + k)) → live ≡ flags_from marked s pending table v stubs
flags-are marked s pending table v [] [] same each = refl
flags-are marked s pending table v [] (flag ∷ live) same each = absurd (omega arith)
flags-are marked s pending table v (stub ∷ stubs) [] same each = absurd (omega arith)
flags-are marked s pending table v (stub ∷ stubs) (flag ∷ live) same each =
    let here : v + 0 ≡ v = omega arith in
    let next : (k : ℕ) → v + suc k ≡ v + 1 + k = λ k. omega arith in
    ap₂ (λ (flag : Bool) (flags : List Bool). flag ∷ flags) (each 0 ∙ ap (is_live marked s pending table) here)
    (flags-are marked s pending table (v + 1) stubs live (omega arith) (λ k. each (suc k) ∙ ap (is_live marked s pending table) (next k)))

-- the machine, with the tables by which overlays were brought in
abbrev brought : Manager → List ℕ → Bool → List Seat → State → List Loaded → List Loaded → State
brought m bytes pending seats s old new = record s { memory = with_stubs m.stubs seats 0 old new (followed m.marked (loaded_state bytes m.entries old new s) pending old new) }

pub served-told : (known : Option Folder) (name : List ℕ) (m : Manager) (trap : Trap) (s t u : State) (seats : List Seat) (old new : List Loaded) (load saved : ℕ)
    → old ≡ table_by m m.ring.seats → new ≡ table_by m seats → seats ≡ seats_after m trap s → load ≡ load_segment m.ring.room seats trap.overlay → saved ≡ saved_at s.memory s.cs
    → IfSome known (λ held. t ≡ brought m (bytes_of held name) trap.call seats s old new) → u ≡ resumed load saved trap t
    → IfSome known (λ held. u ≡ served m (bytes_of held name) trap s)
served-told None name m trap s t u seats old new load saved old_is new_is seats_is load_is saved_is told resumed_is = tt
served-told (Some held) name m trap s t u seats old new load saved old_is new_is seats_is load_is saved_is told resumed_is =
    let bytes = bytes_of held name in
    resumed_is
    ∙ ap (resumed load saved trap) (told ∙ ap₂ (λ (old new : List Loaded). brought m bytes trap.call seats s old new) old_is new_is)
    ∙ ap₂ (λ (load saved : ℕ). let after : State = record s { memory = memory_after m bytes trap.call seats s } in resumed load saved trap after) load_is saved_is
    ∙ ap (λ (seats : List Seat). let after : State = record s { memory = memory_after m bytes trap.call seats s } in resumed (load_segment m.ring.room seats trap.overlay) (saved_at s.memory s.cs) trap after) seats_is

pub manager-told : (known : Option Folder) (name : List ℕ) (m : Manager) (trap : Trap) (s : State) (seats : List Seat) (old new : List Loaded) (loads changed : ℕ) (later : Manager)
    → old ≡ table_by m m.ring.seats → new ≡ table_by m seats → seats ≡ seats_after m trap s → loads ≡ load_count old new
    → IfSome known (λ held. changed ≡ followed_count m.marked (loaded_state (bytes_of held name) m.entries old new s) trap.call old new)
    → later ≡ record (with_seats m seats) { tally = with_more m.tally loads changed }
    → IfSome known (λ held. later ≡ served_manager m (bytes_of held name) trap s)
manager-told None name m trap s seats old new loads changed later old_is new_is seats_is loads_is changed_is later_is = tt
manager-told (Some held) name m trap s seats old new loads changed later old_is new_is seats_is loads_is changed_is later_is =
    let bytes = bytes_of held name in
    let of : List Seat → List Loaded → List Loaded → Manager = λ (seats : List Seat) (old new : List Loaded). record (with_seats m seats) {
      tally = with_more m.tally (load_count old new) (followed_count m.marked (loaded_state bytes m.entries old new s) trap.call old new);
    } in
    later_is
    ∙ ap₂ (λ (loads changed : ℕ). let after : Manager = record (with_seats m seats) { tally = with_more m.tally loads changed } in after) loads_is changed_is
    ∙ ap₂ (λ (old new : List Loaded). of seats old new) old_is new_is
    ∙ ap (λ (seats : List Seat). of seats (table_by m m.ring.seats) (table_by m seats)) seats_is

-- going on changes no byte
pub resumed-memory : (load saved : ℕ) (trap : Trap) (s : State) → (resumed load saved trap s).memory ≡ s.memory
resumed-memory load saved trap s = by trap.call
  where
    by : (call : Bool) → (let after : State = cond call (record s { registers = record s.registers { ip = trap_place s } }) (record s { registers = record s.registers { ip = saved }; cs = load }) in after.memory) ≡ s.memory
    by true = refl
    by false = refl

-- A service in an orderly state is one in the words of its subject.
pub serves-told : (known : Option Folder) (name : List ℕ) (m : Manager) (trap : Trap) (s u : State) → IsOk (chain_of m.marked s)
    → IfSome known (λ held. u ≡ served m (bytes_of held name) trap s)
    → IfSome known (λ held. OnlyWithin (16 * buffer_segment m.ring.room) 0xA0000 s.memory (loaded_state (bytes_of held name) m.entries (table_before m) (table_after m trap s) s).memory)
    → IfSome known (λ held. IsOrderlyFor m s trap.call → Serves m (bytes_of held name) trap s u)
serves-told None name m trap s u sound told within = tt
serves-told (Some held) name m trap s u sound told within = λ orderly.
    let bytes = bytes_of held name in
    let seats = seats_after m trap s in
    let loaded : List ℕ = (loaded_state bytes m.entries (table_before m) (table_after m trap s) s).memory in
    let after : State = record s { memory = memory_after m bytes trap.call seats s } in
    let load = load_segment m.ring.room seats trap.overlay in
    let saved = saved_at s.memory s.cs in
    let steps : Steps m s trap.call seats loaded = record { orderly = orderly; sound = sound; within = within } in
    let memory : u.memory ≡ written_of m s trap.call seats loaded = ap (λ (s : State). s.memory) told ∙ resumed-memory load saved trap after in
    record {
      pairs = subst (λ (after : List ℕ). Follow s.memory after s.registers.ss (places_of m.marked s trap.call) (table_before m) (table_after m trap s) (changed_count m bytes trap s)) (sym memory) (follow-written m s trap.call seats loaded steps);
      control = told ∙ ap (λ memory. let t : State = record s { memory = memory } in resumed load saved trap t) (sym memory);
      others = λ at off_loads off_pairs off_stubs. ap (λ (memory : List ℕ). slice_index memory at) memory ∙ followed-off m s trap.call seats loaded steps at off_pairs off_stubs
          ∙ loads-off bytes m.entries (table_before m) (table_after m trap s) s.memory at off_loads;
    }

-- And the code of each loaded overlay stands.
pub code-told : (known : Option Folder) (name : List ℕ) (m : Manager) (trap : Trap) (s u : State) → m.ring.room ≤ 40848 → length m.entries ≡ length m.stubs → IsTable (map paragraphs_of m.entries) m.ring.room (table_of (seats_after m trap s)) → IsOk (chain_of m.marked s)
    → IfSome known (λ held. u ≡ served m (bytes_of held name) trap s)
    → IfSome known (λ held. OnlyWithin (16 * buffer_segment m.ring.room) 0xA0000 s.memory (loaded_state (bytes_of held name) m.entries (table_before m) (table_after m trap s) s).memory)
    → IfSome known (λ held. IsOrderlyFor m s trap.call → IsStanding m (bytes_of held name) s.memory → CodeStands (bytes_of held name) m.entries (table_after m trap s) u.memory)
code-told None name m trap s u small same legal sound told within = tt
code-told (Some held) name m trap s u small same legal sound told within = λ orderly standing.
    let bytes = bytes_of held name in
    let seats = seats_after m trap s in
    let after : State = record s { memory = memory_after m bytes trap.call seats s } in
    let loaded : List ℕ = (loaded_state bytes m.entries (table_before m) (table_after m trap s) s).memory in
    let steps : Steps m s trap.call seats loaded = record { orderly = orderly; sound = sound; within = within } in
    let memory : u.memory ≡ written_of m s trap.call seats loaded = ap (λ (s : State). s.memory) told ∙ resumed-memory (load_segment m.ring.room seats trap.overlay) (saved_at s.memory s.cs) trap after in
    subst (λ (memory : List ℕ). CodeStands bytes m.entries (table_after m trap s) memory) (sym memory) (code-written m bytes s trap.call seats small same legal standing steps)
