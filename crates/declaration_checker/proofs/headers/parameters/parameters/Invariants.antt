use Rattle.std.proofs.Common.{◌≡◌, drop}
use Rattle.declaration_checker.specs.headers.Parameters.{groups_onto, parameters}
use Rattle.declaration_checker.proofs.headers.parameters.parameters.Given as goal

abbrev pub invariant-loop-group : goal.invariant-loop-group
invariant-loop-group l = (groups_onto l.scope l.params (drop l.group-index l.groups)).run ≡ (parameters l.scope l.groups).run
