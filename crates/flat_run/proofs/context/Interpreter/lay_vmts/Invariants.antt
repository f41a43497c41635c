-- What is left to lay.
use Rattle.std.proofs.Common.{◌≡◌, drop, map}
use Rattle.flat_code.specs.Memory.{cells_of}
use Rattle.flat_code.specs.Meaning.{with_vmts}
use Rattle.flat_code.specs.Plain.{view_vmt}
use Rattle.flat_run.specs.Running.{view_choice}
use Rattle.flat_run.proofs.context.Interpreter.lay_vmts.Given as goal

abbrev pub invariant-vmts : goal.invariant-vmts
invariant-vmts l =
    with_vmts (view_choice l.self) l.name l.names 0 (map view_vmt l.list) (cells_of l.fn.memory.cells.items)
    ≡ with_vmts (view_choice l.self) l.name l.names l.number (map view_vmt (drop l.number l.list)) (cells_of l.memory.cells.items)
