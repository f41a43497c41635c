-- Files with overlays follow the resident machine, and what the ring chooses for them are tables.
use Rattle.std.proofs.Common.{◌≡◌, ℕ, ◌<◌, ◌≤◌, Bool, List, [], ◌++◌, length, Option, Some, refl, sym, ap, ap₂, ◌∙◌, subst, arith}
use Rattle.std.specs.Prelude.{slice_index_or, slice_get}
use Rattle.std.proofs.lemmas.List.{length-map}
use Rattle.std.proofs.lemmas.List.Elements.{All-map}
use Rattle.std.proofs.lemmas.Option.{slice_get-get_or}
use Rattle.common_values.specs.behaviour.Seen.{Standing, Seen}
use Rattle.cpu_8086.specs.Process.{Process, Status}
use Rattle.cpu_8086.specs.State.{State}
use Rattle.mz_file.specs.Format.{exe_of}
use Rattle.mz_file.specs.Load.{loaded_segment}
use Rattle.overlay_file.specs.declared.overlay.OvrEntry.{OvrEntry}
use Rattle.overlay_manager.specs.Manager.{Manager, paragraphs_of}
use Rattle.overlay_manager.specs.overlay_run.Managed.{Managed}
use Rattle.overlay_manager.proofs.LoadLaws.{size_of_entry}
use Rattle.resident_machine.specs.Program as resident
use Rattle.resident_machine.specs.Run.{RunsFramed}
use Rattle.resident_machine.specs.State.{ResidentStatus, Running, Ended, Stopped, ResidentState}
use Rattle.code_simulation.specs.start.Shown as resident_seen
use Rattle.dos_runner.specs.opened_program.Opening.{room_of, start_manager, IsOpened}
use Rattle.overlay_correctness.specs.Beside.{TakesAtLeast, StandsAlike, ShowsSame}
use Rattle.overlay_correctness.specs.Held.{start_of}
use Rattle.overlay_correctness.proofs.FollowLaws.{shows_same}
use Rattle.overlay_correctness.proofs.OpenedLaws.{size_within}
use Rattle.overlay_correctness.proofs.OverlayLaws.{entries_sound, entries_few, opened_beside}
use Rattle.overlay_services.specs.Seated.{Follows}
use Rattle.tabled_runs.specs.Ringed.{HasRing, counting}
use Rattle.tabled_runs.specs.Tables.{Tabled, On, NotLegal}
use Rattle.tabled_runs.proofs.RingLaws.{ring_runs}
use Rattle.compiler_correctness.specs.Runs.{Files, standing_of, shown, begun}
use Rattle.compiler_correctness.specs.Hypotheses.{Matches, OverlaysFollow}
use Rattle.compiler_correctness.specs.Compiler.{RingLaw}
use Rattle.compiler_correctness.specs.OverlayFiles.{HoldProgram}

-- ---- what is shown

standing_same : (status : ResidentStatus) (q : Status) → StandsAlike status q → standing_of q ≡ resident_seen.standing_of status
standing_same Running q is = ap standing_of is
standing_same (Ended code) q is = ap standing_of is
standing_same (Stopped segment offset why) q is = ap standing_of is.1

shown_same : (t : ResidentState) (q : Process) → ShowsSame t q → shown q ≡ resident_seen.shown t
shown_same t q h =
    ap₂ (λ (out err : List ℕ). let seen : Seen = record { out = out; err = err; end = standing_of q.status } in seen) h.out h.err
    ∙ ap (λ (end : Standing). let seen : Seen = record { out = t.out; err = t.err; end = end } in seen) (standing_same t.status q.status h.status)

matches : (p : resident.Program) (kept : ℕ → Bool) (bytes : List ℕ) (count events : ℕ) (t : ResidentState) (end : Tabled) → TakesAtLeast count events end → Follows p kept bytes t end → Matches count events t end
matches p kept bytes count events t (On q tables) many follows = let h = shows_same p t q follows.1 in (many, shown_same t q.process h, h.taken)
matches p kept bytes count events t NotLegal many follows = tt

-- ---- wherever overlays are put

pub overlays_follow : (machine : resident.Program) (start : List ℕ → ResidentState) (files : Files) → HoldProgram machine start files → OverlaysFollow machine start files
overlays_follow machine start files holds name buffer state manager opened input are count r runs tables =
    let held = holds.held opened.overlays opened.overlays_are in
    let from : RunsFramed machine count (start_of holds.kept (exe_of files.exe) input) r = subst (λ (z : ResidentState). RunsFramed machine count z r) (holds.starts input are) runs in
    let h = opened_beside machine holds.kept files.exe name files.ovr buffer state manager opened held input count r from tables in
    record { events = h.events; few = h.few; end = h.end; runs = h.runs; matches = matches machine holds.kept files.ovr count h.events r h.end h.many h.follows }

-- ---- the ring

-- what a program is opened with has a ring
opened_ring : (files : Files) (name : List ℕ) (buffer : Option ℕ) (state : State) (manager : Manager) → IsOpened files.exe name (Some files.ovr) buffer state manager → HasRing manager
opened_ring files name buffer state manager opened = subst HasRing (sym opened.manager_is) has_ring
  where
    entries : List OvrEntry
    entries = opened.overlays

    room : ℕ
    room = room_of buffer opened.overlays

    sizes : (v : ℕ) (entry : OvrEntry) → slice_get entries v ≡ Some entry → 0 < entry.size
    sizes v entry found = (entries_sound (exe_of files.exe).block.stubs files.ovr opened.overlays opened.overlays_are v entry found).0

    fits : (k : ℕ) (d : OvrEntry) → k < length entries → (0 < paragraphs_of (slice_index_or entries k d)) × (paragraphs_of (slice_index_or entries k d) ≤ room)
    fits k d lt =
        let found = slice_get-get_or entries k d lt in
        let some = sizes k (slice_index_or entries k d) found in
        let most = size_within entries k lt in
        let size = size_of_entry entries k (slice_index_or entries k d) found in
        let enough = opened.fit.enough in
        (omega arith, omega arith)

    has_ring : HasRing (start_manager (exe_of files.exe) name opened.overlays (room_of buffer opened.overlays))
    has_ring = record {
      count = opened.fit.together.same ∙ sym (length-map (exe_of files.exe).block.stubs loaded_segment);
      sizes = refl;
      some = sizes;
      overlays = record {
        few = let few = entries_few (exe_of files.exe).block.stubs files.ovr opened.overlays opened.overlays_are in let size = length-map opened.overlays paragraphs_of in omega arith;
        fit = All-map (λ (size : ℕ). (0 < size) × (size ≤ room)) paragraphs_of opened.overlays fits;
      };
      seating = record { sized = tt; sound = tt };
    }

pub ring_tables : RingLaw
ring_tables files name buffer state manager opened retry input m end runs =
    let ring = opened_ring files name buffer state manager opened in
    let held : HasRing (record manager { retry = retry }) = record { count = ring.count; sizes = ring.sizes; some = ring.some; overlays = ring.overlays; seating = ring.seating } in
    let start : Managed = begun state (record manager { retry = retry }) input in
    let t = ring_runs files.ovr m start end manager.retry manager.tally 0 held runs in (
      counting end manager.retry t.tally t.traps,
      record { name = name; buffer = buffer; state = state; manager = manager; opened = opened; tables = t.taken ++ []; left = []; runs = t.runs [] },
      refl,
    )
