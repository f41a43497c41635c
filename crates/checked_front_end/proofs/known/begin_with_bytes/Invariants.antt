use Rattle.std.specs.Prelude.{All, take}
use Rattle.programs_well_typed.specs.programs.Below.{BeginsWithBytes}
use Rattle.checked_front_end.proofs.known.begin_with_bytes.Given as goal

abbrev pub invariant-loop-one : goal.invariant-loop-one
invariant-loop-one l = All BeginsWithBytes (take l.one-index l.all)
