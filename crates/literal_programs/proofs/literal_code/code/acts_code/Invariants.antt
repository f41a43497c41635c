use Rattle.std.proofs.Common.{◌≡◌, take}
use Rattle.std.specs.List.{flat_map}
use Rattle.literal_programs.specs.literal_code.Code.{spelled, act_code}
use Rattle.literal_programs.proofs.literal_code.code.acts_code.Given as goal

abbrev pub invariant-loop-act : goal.invariant-loop-act
invariant-loop-act l = l.bytes ≡ spelled (flat_map act_code (take l.act-index l.act-items))
