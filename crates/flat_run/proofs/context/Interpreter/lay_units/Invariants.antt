-- What is left to lay.
use Rattle.std.proofs.Common.{◌≡◌, drop, map}
use Rattle.flat_code.specs.Memory.{cells_of}
use Rattle.flat_code.specs.Meaning.{with_units}
use Rattle.flat_code.specs.Plain.{view_unit, names_from}
use Rattle.flat_run.specs.Running.{view_program, view_choice}
use Rattle.flat_run.proofs.context.Interpreter.lay_units.Given as goal

abbrev pub invariant-units : goal.invariant-units
invariant-units l =
    with_units (view_program l.self) (view_choice l.self) (names_from 0 (map view_unit l.self.units.now)) (cells_of l.fn.memory.cells.items)
    ≡ with_units (view_program l.self) (view_choice l.self) (names_from l.at (map view_unit (drop l.at l.self.units.now))) (cells_of l.memory.cells.items)
