use Rattle.std.proofs.Common.{[], refl}
use Rattle.mz_file.specs.Load.{loaded}
use Rattle.dos_runner.specs.opened_program.Opening.{start_manager}
use Rattle.overlay_correctness.specs.Held.{start_of, begun}
use Rattle.overlay_correctness.proofs.FollowLaws.{runs_beside, runs_by_some}
use Rattle.overlay_correctness.proofs.OpenedLaws.{sound, fit_alone, matches_start, whole_start}
use Rattle.overlay_example.specs.Turns.{turns_exe, turns_bytes, turns_entries, turns, turns_kept}
use Rattle.overlay_example.proofs.HeldLaws.{turns_held, turns_together, turns_sizes, turns_whole, turns_fit, turns_enough}
use Rattle.overlay_example.proofs.RunLaws.{turns_runs}
use Rattle.overlay_example.proofs.turns_law.Goals as goal

pub returns-clause-held : goal.returns-clause-held
returns-clause-held c = turns_held

pub returns-clause-together : goal.returns-clause-together
returns-clause-together c = (turns_together, refl, turns_fit)

pub returns-clause-runs : goal.returns-clause-runs
returns-clause-runs c = (refl, turns_runs)

pub returns-clause-matches : goal.returns-clause-matches
returns-clause-matches c = matches_start turns turns_kept turns_exe [] turns_bytes turns_entries 2 turns_held turns_together turns_fit turns_sizes turns_whole []

pub returns-clause-some : goal.returns-clause-some
returns-clause-some c = λ t runs.
    runs_by_some turns turns_kept turns_bytes 26 (start_of turns_kept turns_exe []) t (begun (loaded turns_exe) (start_manager turns_exe [] turns_entries 2) []) (record { sound = sound turns turns_kept turns_exe [] turns_bytes turns_entries 2 turns_held turns_together turns_fit turns_sizes turns_whole; table = tt }) (whole_start turns turns_kept turns_exe [] turns_bytes turns_entries 2 turns_held turns_together turns_fit turns_sizes turns_whole []) (matches_start turns turns_kept turns_exe [] turns_bytes turns_entries 2 turns_held turns_together turns_fit turns_sizes turns_whole [])
    (fit_alone turns turns_kept turns_exe [] turns_bytes turns_entries 2 turns_held turns_together turns_fit turns_sizes turns_whole turns_enough) runs

pub returns-clause-follows : goal.returns-clause-follows
returns-clause-follows c = λ t runs tables.
    runs_beside turns turns_kept turns_bytes 26 (start_of turns_kept turns_exe []) t (begun (loaded turns_exe) (start_manager turns_exe [] turns_entries 2) []) tables (record { sound = sound turns turns_kept turns_exe [] turns_bytes turns_entries 2 turns_held turns_together turns_fit turns_sizes turns_whole; table = tt }) (whole_start turns turns_kept turns_exe [] turns_bytes turns_entries 2 turns_held turns_together turns_fit turns_sizes turns_whole []) (matches_start turns turns_kept turns_exe [] turns_bytes turns_entries 2 turns_held turns_together turns_fit turns_sizes turns_whole []) runs
