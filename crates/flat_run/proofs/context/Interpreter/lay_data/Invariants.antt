-- What is left to lay.
use Rattle.std.proofs.Common.{◌≡◌, drop, map}
use Rattle.flat_code.specs.Memory.{cells_of}
use Rattle.flat_code.specs.Meaning.{with_data}
use Rattle.flat_code.specs.Plain.{view_datum}
use Rattle.flat_run.specs.Running.{view_choice}
use Rattle.flat_run.proofs.context.Interpreter.lay_data.Given as goal

abbrev pub invariant-data : goal.invariant-data
invariant-data l =
    with_data (view_choice l.self) l.name 0 (map view_datum l.list) (cells_of l.fn.memory.cells.items)
    ≡ with_data (view_choice l.self) l.name l.number (map view_datum (drop l.number l.list)) (cells_of l.memory.cells.items)
