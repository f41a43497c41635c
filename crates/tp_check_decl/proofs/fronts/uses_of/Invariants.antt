use Rattle.std.proofs.Common.{◌≡◌, [], drop}
use Rattle.tp_check_decl.specs.Fronts.{uses_onto}
use Rattle.tp_check_decl.proofs.fronts.uses_of.Given as goal

abbrev pub invariant-loop-one : goal.invariant-loop-one
invariant-loop-one l = (uses_onto l.names (drop l.one-index l.all)).run ≡ (uses_onto [] l.all).run
