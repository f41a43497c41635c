-- The variables that are left to go.
use Rattle.std.proofs.Common.{◌≡◌, ◌+◌, ◌-◌, length}
use Rattle.tp_meaning.specs.Store.{without}
use Rattle.interpreter_store.specs.cell_store.Views.{view_store}
use Rattle.interpreter_store.proofs.cell_store.objects.Store.drop_variables.Given as goal

abbrev pub invariant-variables : goal.invariant-variables
invariant-variables l = record {
  left : without (view_store l.fn.self) l.first l.count ≡ without (view_store l.self) l.serial (l.first + l.count - l.serial);
  length : length l.self.objects.items ≡ length l.fn.self.objects.items;
}
