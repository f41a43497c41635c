-- The values so far, and what is left.
use Rattle.std.proofs.Common.{◌≡◌, drop}
use Rattle.flat_code.specs.Memory.{cells_of, after_prefix}
use Rattle.flat_code.specs.Meaning.{values_of}
use Rattle.flat_code.specs.View.{view_exprs}
use Rattle.flat_run.specs.Views.{view_frame}
use Rattle.flat_run.specs.Running.{view_choice}
use Rattle.flat_run.proofs.context.Interpreter.values.Given as goal

abbrev pub invariant-exprs : goal.invariant-exprs
invariant-exprs l =
    values_of (view_choice l.self) (view_frame l.f) (cells_of l.state.memory.cells.items) (view_exprs l.exprs)
    ≡ after_prefix l.values.items (values_of (view_choice l.self) (view_frame l.f) (cells_of l.state.memory.cells.items) (view_exprs (drop l.expr-index l.exprs)))
