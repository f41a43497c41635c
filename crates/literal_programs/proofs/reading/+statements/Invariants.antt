use Rattle.std.proofs.Common.{◌≡◌, drop}
use Rattle.typed_tree.specs.Statements.{view_stmts}
use Rattle.literal_programs.specs.literal_code.LiteralProgram.{statements_of, IsFull}
use Rattle.literal_programs.specs.Reading.{with_statements}
use Rattle.literal_programs.proofs.reading.+statements.Given as goal

abbrev pub invariant-add_statements-loop-statement : goal.invariant-add_statements-loop-statement
invariant-add_statements-loop-statement l =
    IsFull l.program × (with_statements l.types.types (view_stmts l.statements) (statements_of l.fn.program) ≡ with_statements l.types.types (view_stmts (drop l.statement-index l.statements)) (statements_of l.program))
