-- The bytes so far are appended.
use Rattle.std.proofs.Common.{◌≡◌, ◌++◌, map, take}
use Rattle.interpreter_store.specs.cell_store.Views.{view_tree}
use Rattle.interpreter_store.specs.cell_store.Parts.{byte_cell}
use Rattle.interpreter_store.proofs.cell_store.cells.append_bytes.Given as goal

abbrev pub invariant-bytes : goal.invariant-bytes
invariant-bytes l = map view_tree l.to.items ≡ map view_tree l.fn.to.items ++ map byte_cell (take l.byte-index l.text)
