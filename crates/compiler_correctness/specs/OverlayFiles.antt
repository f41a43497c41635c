-- What is left to be shown of files with overlays.
use Rattle.std.specs.Prelude.{◌≡◌, ℕ, Bool, List, Some}
use Rattle.mz_file.specs.Format.{exe_of}
use Rattle.overlay_file.specs.declared.overlay.OvrEntry.{OvrEntry}
use Rattle.resident_machine.specs.Program as resident
use Rattle.resident_machine.specs.State.{ResidentState}
use Rattle.statement_simulation.specs.flow.Sites.{AreBytes}
use Rattle.dos_runner.specs.opened_program.Opening.{HasOverlays}
use Rattle.overlay_correctness.specs.Held.{IsHeldBy, start_of}
use Rattle.compiler_correctness.specs.Runs.{Files}

-- The files hold the program of the resident machine, whatever the overlays of the overlay file are read as, and on each input of bytes it starts
-- where the loaded executable does.
pub record HoldProgram (machine : resident.Program) (start : List ℕ → ResidentState) (files : Files) : Type 0 where
  pub kept : ℕ → Bool
  pub held : (entries : List OvrEntry) → HasOverlays (exe_of files.exe).block.stubs (Some files.ovr) entries → IsHeldBy machine kept (exe_of files.exe) entries files.ovr
  pub starts : (input : List ℕ) → AreBytes input → start input ≡ start_of kept (exe_of files.exe) input
