use Rattle.std.proofs.Common.{◌≡◌, map, drop}
use Rattle.typed_tree.specs.Statements.{view_written}
use Rattle.literal_programs.specs.literal_code.LiteralProgram.{statements_of, IsFull}
use Rattle.literal_programs.specs.Reading.{with_items}
use Rattle.literal_programs.proofs.reading.add_items.Given as goal

abbrev pub invariant-loop-item : goal.invariant-loop-item
invariant-loop-item l =
    IsFull l.program × (with_items l.types.types (map view_written l.items) (statements_of l.fn.program) ≡ with_items l.types.types (map view_written (drop l.item-index l.items)) (statements_of l.program))
