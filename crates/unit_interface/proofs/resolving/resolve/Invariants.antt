use Rattle.std.proofs.Common.{◌≡◌, take, true}
use Rattle.scopes.specs.Predeclared.{first}
use Rattle.unit_interface.specs.Resolve.{resolved}
use Rattle.unit_interface.specs.Fitting.{uses_fit}
use Rattle.unit_interface.proofs.resolving.resolve.Given as goal

abbrev pub invariant-loop-used : goal.invariant-loop-used
invariant-loop-used l = record {
  resolved : l.scope ≡ resolved l.have l.name (take l.used-index l.uses);
  fits : uses_fit l.have (first l.name) (take l.used-index l.uses) ≡ true;
}
