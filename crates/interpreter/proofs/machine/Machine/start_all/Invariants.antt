-- The units that are left begin from here.
use Rattle.std.proofs.Common.{◌≡◌, drop}
use Rattle.tp_meaning.specs.Meaning.{run, all_started}
use Rattle.interpreter_steps.specs.Running.{view_run, program_of}
use Rattle.interpreter.proofs.machine.Machine.start_all.Given as goal

abbrev pub invariant-units : goal.invariant-units
invariant-units l =
    all_started (program_of l.self.steps) (run (program_of l.self.steps)) l.units (view_run l.fn.run)
    ≡ all_started (program_of l.self.steps) (run (program_of l.self.steps)) (drop l.unit-index l.units) (view_run l.run)
