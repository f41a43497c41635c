use Rattle.std.proofs.Common.{◌≡◌, drop}
use Rattle.declaration_checker.specs.type_parts.Promised.{promises_from, promises}
use Rattle.declaration_checker.proofs.type_parts.promised.promises.Given as goal

abbrev pub invariant-loop-one : goal.invariant-loop-one
invariant-loop-one l = promises_from l.scope l.names l.next (drop l.one-index l.all) ≡ promises l.scope l.all
