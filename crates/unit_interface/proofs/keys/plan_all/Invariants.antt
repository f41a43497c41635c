use Rattle.std.proofs.Common.{◌≡◌, ◌++◌, drop}
use Rattle.unit_interface.specs.Merge.{ids_of}
use Rattle.unit_interface.proofs.keys.plan_all.Given as goal

-- the ids so far, and those that are left
abbrev pub invariant-loop-key : goal.invariant-loop-key
invariant-loop-key l = ids_of l.fn.known l.keys ≡ l.ids ++ ids_of l.known (drop l.key-index l.keys)
