use Rattle.std.proofs.Common.{◌≡◌, drop}
use Rattle.declaration_checker.specs.headers.Parameters.{names_onto}
use Rattle.declaration_checker.proofs.headers.parameters.add_names.Given as goal

abbrev pub invariant-loop-one : goal.invariant-loop-one
invariant-loop-one l = (names_onto l.params l.by_ref l.ty (drop l.one-index l.names)).run ≡ (names_onto l.fn.params l.by_ref l.ty l.names).run
