-- The event of an instruction that no service follows, on the machine with one memory.
use Rattle.std.proofs.Common.{◌≡◌, ◌≢◌, ◌⊎◌, inl, inr, ℕ, ◌+◌, ◌-◌, ◌%◌, ◌<◌, ◌==◌, Bool, true, false, List, ◌++◌, length, drop, get_or, Ok, Err, refl, sym, ap, ◌∙◌, subst, arith, eq-eqb, eqb-true, length-append, length-drop}
use Rattle.std.specs.Prelude.{if◌then◌else◌, slice_index, slice_set}
use Rattle.std.proofs.lemmas.List.{get_or-drop, get_or_append_left}
use Rattle.x86_table.specs.declared.instr.Instr.{Instr}
use Rattle.x86_table.specs.Spelling.{spelling}
use Rattle.cpu_8086.specs.declared.machine.Event.{Event}
use Rattle.cpu_8086.specs.declared.machine.Event.TheVariants as events
use Rattle.cpu_8086.specs.declared.process.Why.TheVariants as why
use Rattle.cpu_8086.specs.Access.{Act, Done, Read, Write, Copy, ReadCodeSegment, FarCall, FarReturn, FarJump, PushCodeSegment, Interrupt, DivideFault, on_memory}
use Rattle.cpu_8086.specs.Memory.{load_byte}
use Rattle.cpu_8086.specs.State.{State}
use Rattle.cpu_8086.specs.Step.{fetched, code_byte}
use Rattle.cpu_8086.proofs.FetchLaws.{fetched_spells}
use Rattle.resident_machine.specs.Program.{Segment, Image, Overlay, Program}
use Rattle.resident_machine.specs.Astray.{Traps}
use Rattle.resident_machine.specs.Cells.{Known, Cells, with_cell, free_then}
use Rattle.resident_machine.specs.Dos.{plainly, stopped, dos_call}
use Rattle.resident_machine.specs.Effect.{with_memory, blurred, cleared, serviced, on_cells}
use Rattle.resident_machine.specs.Standing.{PairWord, HoldsMemory, HoldsCode}
use Rattle.resident_machine.specs.State.{ResidentState, Service, NoService, AtCall, AtReturn, AtClear}
use Rattle.resident_machine.proofs.CellLaws.{known_ok, free_ok, moved_ok, stack_ok, ok_same}
use Rattle.resident_machine.proofs.HoldLaws.{memory_written}
use Rattle.overlay_simulation.specs.Plain.{IsOwn}

-- ## Interrupts

-- What is said of the event, by the service that may follow: it is the process's own, but for an INT 60h that clears.
abbrev pub IsOwnBut : Service → Event → Type 0
IsOwnBut AtClear event = IsOwn event ⊎ (event ≡ events.Service 96)
IsOwnBut NoService event = IsOwn event
IsOwnBut AtCall event = IsOwn event
IsOwnBut AtReturn event = IsOwn event

pub own_but : (service : Service) (event : Event) → IsOwn event → IsOwnBut service event
own_but NoService event own = own
own_but AtCall event own = own
own_but AtReturn event own = own
own_but AtClear event own = inl own

other_number : (n k : ℕ) → (n == k) ≡ false → n ≢ k
other_number n k apart same = let e = eq-eqb n k same in absurd (cc)

cleared_own : (cs : Segment) (t : ResidentState) (n : ℕ) (w : ResidentState × Service) → n ≡ 96 → cleared cs t ≡ Ok w → IsOwnBut w.1 (events.Service n)
cleared_own (Image number) t n w is e = subst (λ (z : ResidentState × Service). IsOwnBut z.1 (events.Service n)) (ok_same (blurred t, AtClear) w e) (inr (ap events.Service is))
cleared_own (Overlay number) t n w is e = absurd (cc)

interrupt_own : (r t : ResidentState) (n : ℕ) (w : ResidentState × Service) → serviced r t n ≡ Ok w → IsOwnBut w.1 (events.Service n)
interrupt_own r t n w e = by (n == 33) refl (n == 96) refl (n == 63) refl e
  where
    by : (x : Bool) → (n == 33) ≡ x → (y : Bool) → (n == 96) ≡ y → (z : Bool) → (n == 63) ≡ z → (if x then dos_call r t else (if y then cleared r.cs t else (if z then Err Traps else plainly (stopped r (why.Interrupt n))))) ≡ Ok w → IsOwnBut w.1 (events.Service n)
    by true is y apart z other e =
        let number : n ≡ 33 = eqb-true n 33 is in
        own_but w.1 (events.Service n) ((λ same. absurd (omega arith)), (λ same. absurd (omega arith)))
    by false is true clear z other e = cleared_own r.cs t n w (eqb-true n 96 clear) e
    by false is false apart true other e = absurd (cc)
    by false is false apart false other e = own_but w.1 (events.Service n) (other_number n 63 other, other_number n 96 apart)

-- ## The tree

pub tree_own : (p : Program) (r : ResidentState) (s : State) (kept : Program) (ss : ℕ) (ws : List PairWord) (a : Act) (c : Cells) (m : List ℕ) (w : ResidentState × Service) → HoldsMemory kept ss c m ws → on_cells p r a c ≡ Ok w → IsOwnBut w.1 (on_memory s a m).1
tree_own p r s kept ss ws (Done g) c m w h e = own_but w.1 events.Ran tt
tree_own p r s kept ss ws (Read place next) c m w h e =
    let x = known_ok (c place) (λ v. on_cells p r (next v) c) w e in
    subst (λ (v : ℕ). IsOwnBut w.1 (on_memory s (next v) m).1) (sym (h.known place x.0 x.1)) (tree_own p r s kept ss ws (next x.0) c m w h x.2)
tree_own p r s kept ss ws (Write place value next) c m w h e =
    let x = free_ok (c place) (on_cells p r next (with_cell c place (Known value))) w e in
    tree_own p r s kept ss ws next (with_cell c place (Known value)) (slice_set m place value) w (memory_written kept ss c m ws place (Known value) value h x.0 (by)) x.1
  where
    by : (v : ℕ) → Known value ≡ Known v → value ≡ v
    by v same = cc
tree_own p r s kept ss ws (Copy from to next) c m w h e =
    let x = moved_ok (c from) (λ y. free_then (c to) (on_cells p r next (with_cell c to y))) w e in
    let y = free_ok (c to) (on_cells p r next (with_cell c to (c from))) w x in
    tree_own p r s kept ss ws next (with_cell c to (c from)) (slice_set m to (slice_index m from)) w (memory_written kept ss c m ws to (c from) (slice_index m from) h y.0 (λ v same. h.known from v same)) y.1
tree_own p r s kept ss ws (ReadCodeSegment next) c m w h e = absurd (cc)
tree_own p r s kept ss ws (FarCall g segment offset) c m w h e = own_but w.1 events.Ran tt
tree_own p r s kept ss ws (FarReturn g dropped) c m w h e = own_but w.1 events.Ran tt
tree_own p r s kept ss ws (FarJump g segment offset) c m w h e = own_but w.1 events.Ran tt
tree_own p r s kept ss ws (PushCodeSegment g) c m w h e = own_but w.1 events.Ran tt
tree_own p r s kept ss ws (Interrupt g number) c m w h e =
    let x = stack_ok r g (serviced r (with_memory r g c) number) w e in interrupt_own r (with_memory r g c) number w x.1
tree_own p r s kept ss ws DivideFault c m w h e = own_but w.1 events.Divide tt

-- ## The instruction that stands at CS:IP

inside : (n k : ℕ) (code ys rest : List ℕ) → drop n code ≡ ys ++ rest → k < length ys → (n + k < length code) × (get_or code (n + k) 0 ≡ get_or ys k 0)
inside n k code ys rest e lt =
    let size : length code - n ≡ length ys + length rest = sym (length-drop n code) ∙ ap length e ∙ length-append ys rest in
    (omega arith, sym (get_or-drop n code k 0) ∙ ap (λ (zs : List ℕ). get_or zs k 0) e ∙ get_or_append_left ys rest 0 k lt)

-- where code stands in memory, what is spelled in it is fetched
pub fetched_code : (s : State) (cells : Cells) (code rest : List ℕ) (i : Instr) → HoldsCode cells s.memory s.cs code → drop s.registers.ip code ≡ spelling i ++ rest → (more : List ℕ) × (fetched s ≡ spelling i ++ more)
fetched_code s cells code rest i held e = fetched_spells s i byte
  where
    byte : (k : ℕ) → k < length (spelling i) → code_byte s k ≡ slice_index (spelling i) k
    byte k lt =
        let there = inside s.registers.ip k code (spelling i) rest e lt in
        let size = held.size in
        let below = there.0 in
        let straight : (s.registers.ip + k) % 65536 ≡ s.registers.ip + k = omega arith in
        ap (load_byte s.memory s.cs) straight ∙ (held.bytes (s.registers.ip + k) there.0).value ∙ there.1
