use Rattle.std.proofs.Common.{◌≡◌, ◌++◌, map, drop}
use Rattle.back_end.specs.Told.{told, told_of_runtime}
use Rattle.back_end.proofs.object_units.push_runtime.Given as goal

abbrev pub invariant-loop-code : goal.invariant-loop-code
invariant-loop-code l =
    map told l.initial.made ++ map told_of_runtime l.flat ≡ map told l.made ++ map told_of_runtime (drop l.code-index l.flat)
