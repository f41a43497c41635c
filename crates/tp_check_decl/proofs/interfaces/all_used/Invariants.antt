use Rattle.std.proofs.Common.{◌≡◌, drop}
use Rattle.tp_check_decl.specs.Interfaces.{all_used}
use Rattle.tp_check_decl.proofs.interfaces.all_used.Given as goal

abbrev pub invariant-loop-one : goal.invariant-loop-one
invariant-loop-one l = (all_used l.have l.scope (drop l.one-index l.uses)).run ≡ (all_used l.have l.fn.scope l.uses).run
