use Rattle.std.proofs.Common.{◌≡◌, [], drop}
use Rattle.tp_check_decl.specs.Fronts.{overlaid_onto}
use Rattle.tp_check_decl.proofs.fronts.overlaid_of.Given as goal

abbrev pub invariant-loop-one : goal.invariant-loop-one
invariant-loop-one l = (overlaid_onto l.uses l.names (drop l.one-index l.all)).run ≡ (overlaid_onto l.uses [] l.all).run
