-- The units that are left to start.
use Rattle.std.proofs.Common.{◌≡◌, drop, map}
use Rattle.flat_code.specs.Meaning.{all_started, run}
use Rattle.flat_code.specs.Plain.{view_unit, names_from}
use Rattle.flat_run.specs.Running.{view_program, view_choice, view_run}
use Rattle.flat_run.proofs.context.Interpreter.start_all.Given as goal

abbrev pub invariant-units : goal.invariant-units
invariant-units l =
    all_started (view_program l.self) (view_choice l.self) (run (view_program l.self) (view_choice l.self)) (names_from 0 (map view_unit l.self.units.now)) (view_run l.fn.state)
    ≡ all_started (view_program l.self) (view_choice l.self) (run (view_program l.self) (view_choice l.self)) (names_from l.at (map view_unit (drop l.at l.self.units.now))) (view_run l.state)
