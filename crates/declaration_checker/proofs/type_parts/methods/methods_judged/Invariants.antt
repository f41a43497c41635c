use Rattle.std.proofs.Common.{◌≡◌, [], drop}
use Rattle.declaration_checker.specs.type_parts.Objects.{methods_judged}
use Rattle.declaration_checker.proofs.type_parts.methods.methods_judged.Given as goal

abbrev pub invariant-loop-one : goal.invariant-loop-one
invariant-loop-one l = (methods_judged l.scope l.unit l.number l.fields l.methods (drop l.one-index l.all)).run ≡ (methods_judged l.scope l.unit l.first l.fields [] l.all).run
