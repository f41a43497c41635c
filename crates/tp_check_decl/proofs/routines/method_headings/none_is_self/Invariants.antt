use Rattle.std.proofs.Common.{◌≡◌, drop}
use Rattle.tp_check_decl.specs.routines.Methods.{none_is_self}
use Rattle.tp_check_decl.proofs.routines.method_headings.none_is_self.Given as goal

abbrev pub invariant-loop-one : goal.invariant-loop-one
invariant-loop-one l = (none_is_self (drop l.one-index l.names)).run ≡ (none_is_self l.names).run
