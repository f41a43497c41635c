use Rattle.std.proofs.Common.{◌≡◌, take}
use Rattle.scopes.specs.Growth.{empty, grown}
use Rattle.scopes.specs.Predeclared.{of_system, type_list}
use Rattle.scopes.proofs.predeclared.type_table.Given as goal

abbrev pub invariant-loop-number : goal.invariant-loop-number
invariant-loop-number l = l.types ≡ grown empty (take l.number (of_system 0 type_list))
