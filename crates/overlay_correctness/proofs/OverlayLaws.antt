-- The runs of an opened program beside those of the resident machine, from the start.
use Rattle.std.proofs.Common.{◌≡◌, ℕ, ◌==◌, Bool, true, false, List, [], length, Option, Some, MatchBool, sym, ap, ◌∙◌, subst, arith, ◌≤◌}
use Rattle.std.specs.Prelude.{slice_get}
use Rattle.cpu_8086.specs.State.{State}
use Rattle.mz_file.specs.Format.{exe_of}
use Rattle.mz_file.specs.Load.{loaded}
use Rattle.overlay_file.specs.declared.overlay.OvrEntry.{OvrEntry}
use Rattle.overlay_ring.specs.Table.{Table}
use Rattle.overlay_manager.specs.Manager.{Manager}
use Rattle.dos_runner.specs.opened_program.Opening.{room_of, start_manager, IsIndexOf, HasOverlays, IsOpened}
use Rattle.resident_machine.specs.Program.{Program}
use Rattle.resident_machine.specs.Run.{RunsFramed}
use Rattle.resident_machine.specs.State.{ResidentState}
use Rattle.resident_machine.specs.Whole as resident
use Rattle.overlay_simulation.specs.Matching.{Matches}
use Rattle.overlay_services.specs.Seated.{IsSeated}
use Rattle.overlay_correctness.specs.Beside.{RunsBeside}
use Rattle.overlay_correctness.specs.Held.{IsHeldBy, start_of, begun}
use Rattle.overlay_correctness.proofs.FileLaws.{IsReadWhole, read_sound}
use Rattle.overlay_correctness.proofs.FollowLaws.{runs_beside}
use Rattle.overlay_correctness.proofs.OpenedLaws.{sound, matches_start, whole_start}
use Rattle.tabled_runs.specs.Tables.{On}
use Rattle.overlay_manager.specs.Loading.{IsWhole}
use Rattle.overlay_manager.specs.Serves.{HaveSizes}

-- the overlays of a file that was read, or none
pub entries_sound : (stubs bytes : List ℕ) (entries : List OvrEntry) → HasOverlays stubs (Some bytes) entries → (v : ℕ) (entry : OvrEntry) → slice_get entries v ≡ Some entry → IsReadWhole bytes entry
entries_sound stubs bytes entries has v entry found = by (length stubs == 0) has
  where
    by : (b : Bool) → MatchBool b (entries ≡ []) (IsIndexOf (Some bytes) entries) → IsReadWhole bytes entry
    by true none = let e = sym (ap (λ (es : List OvrEntry). slice_get es v) none) ∙ found in absurd (cc)
    by false read = (read_sound bytes entries read).1 v entry found

-- they are at most 256
pub entries_few : (stubs bytes : List ℕ) (entries : List OvrEntry) → HasOverlays stubs (Some bytes) entries → length entries ≤ 256
entries_few stubs bytes entries has = by (length stubs == 0) has
  where
    by : (b : Bool) → MatchBool b (entries ≡ []) (IsIndexOf (Some bytes) entries) → length entries ≤ 256
    by true none = subst (λ (es : List OvrEntry). length es ≤ 256) (sym none) (omega arith)
    by false read = (read_sound bytes entries read).0

module _ (p : Program) (kept : ℕ → Bool) (exe name ovr : List ℕ) (buffer : Option ℕ) (state : State) (m : Manager) (opened : IsOpened exe name (Some ovr) buffer state m) (held : IsHeldBy p kept (exe_of exe) opened.overlays ovr) where
  abbrev begins : Manager → State → Type 0
  begins manager machine = IsSeated p kept ovr manager × ((input : List ℕ) → Matches p (start_of kept (exe_of exe) input) (begun machine manager input))

  sizes : HaveSizes opened.overlays
  sizes v entry found = let file = entries_sound (exe_of exe).block.stubs ovr opened.overlays opened.overlays_are v entry found in (file.0, file.1)

  whole : (v : ℕ) (entry : OvrEntry) → slice_get opened.overlays v ≡ Some entry → IsWhole ovr entry
  whole v entry found = let file = entries_sound (exe_of exe).block.stubs ovr opened.overlays opened.overlays_are v entry found in file.2

  pub opened_matches : IsSeated p kept ovr m × ((input : List ℕ) → Matches p (start_of kept (exe_of exe) input) (begun state m input))
  opened_matches =
      let seated : IsSeated p kept ovr (start_manager (exe_of exe) name opened.overlays (room_of buffer opened.overlays)) = record { sound = sound p kept (exe_of exe) name ovr opened.overlays (room_of buffer opened.overlays) held opened.fit.together opened.fit.memory sizes whole; table = tt } in
      let start : begins (start_manager (exe_of exe) name opened.overlays (room_of buffer opened.overlays)) (loaded (exe_of exe)) = (seated, λ input. matches_start p kept (exe_of exe) name ovr opened.overlays (room_of buffer opened.overlays) held opened.fit.together opened.fit.memory sizes whole input) in
      subst (λ (machine : State). begins m machine) (sym opened.machine_is) (subst (λ (manager : Manager). begins manager (loaded (exe_of exe))) (sym opened.manager_is) start)

  pub opened_whole : (input : List ℕ) → resident.IsWhole p kept (start_of kept (exe_of exe) input)
  opened_whole input = whole_start p kept (exe_of exe) name ovr opened.overlays (room_of buffer opened.overlays) held opened.fit.together opened.fit.memory sizes whole input

  pub opened_beside : (input : List ℕ) (n : ℕ) (r : ResidentState) → RunsFramed p n (start_of kept (exe_of exe) input) r → (tables : List Table) → RunsBeside p kept ovr n r (On (begun state m input) tables)
  opened_beside input n r runs tables = runs_beside p kept ovr n (start_of kept (exe_of exe) input) r (begun state m input) tables opened_matches.0 (opened_whole input) (opened_matches.1 input) runs
