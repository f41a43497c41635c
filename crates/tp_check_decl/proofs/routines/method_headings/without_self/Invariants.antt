use Rattle.std.proofs.Common.{◌≡◌, drop}
use Rattle.tp_check_decl.specs.routines.Methods.{without_self}
use Rattle.tp_check_decl.proofs.routines.method_headings.without_self.Given as goal

abbrev pub invariant-loop-group : goal.invariant-loop-group
invariant-loop-group l = (without_self (drop l.group-index l.groups)).run ≡ (without_self l.groups).run
