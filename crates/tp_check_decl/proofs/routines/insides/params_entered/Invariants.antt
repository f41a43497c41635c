use Rattle.std.proofs.Common.{◌≡◌, drop}
use Rattle.tp_check_decl.specs.routines.Insides.{params_entered}
use Rattle.tp_check_decl.proofs.routines.insides.params_entered.Given as goal

abbrev pub invariant-loop-one : goal.invariant-loop-one
invariant-loop-one l = (params_entered l.level l.place l.number l.scope (drop l.one-index l.params)).run ≡ (params_entered l.level l.place 0 l.fn.scope l.params).run
