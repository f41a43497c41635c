use Rattle.std.proofs.Common.{◌≡◌, true}
use Rattle.unit_interface.specs.Merge.{merged}
use Rattle.unit_interface.specs.Fitting.{fit_first}
use Rattle.unit_interface.proofs.merge.merge.Given as goal

abbrev pub invariant-loop-number : goal.invariant-loop-number
invariant-loop-number l = record {
  merged : l.scope ≡ record l.initial.scope { types = merged l.other l.ids l.initial.scope.types l.number };
  fits : fit_first l.ids l.initial.scope.types l.other l.number ≡ true;
}
