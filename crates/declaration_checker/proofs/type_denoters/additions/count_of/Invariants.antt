use Rattle.std.proofs.Common.{◌≡◌, take, min}
use Rattle.std.specs.List.{sum_by}
use Rattle.declaration_checker.specs.type_denoters.Additions.{one_of}
use Rattle.declaration_checker.proofs.type_denoters.additions.count_of.Given as goal

abbrev pub invariant-loop-number : goal.invariant-loop-number
invariant-loop-number l = l.count ≡ min (sum_by (one_of l.place) (take l.number l.types.origins)) 4294967295
