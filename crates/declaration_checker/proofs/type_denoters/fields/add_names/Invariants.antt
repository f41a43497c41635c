use Rattle.std.proofs.Common.{◌≡◌, drop}
use Rattle.declaration_checker.specs.type_denoters.Denoters.{names_onto}
use Rattle.declaration_checker.proofs.type_denoters.fields.add_names.Given as goal

abbrev pub invariant-loop-one : goal.invariant-loop-one
invariant-loop-one l = (names_onto l.fields l.ty (drop l.one-index l.names)).run ≡ (names_onto l.fn.fields l.ty l.names).run
