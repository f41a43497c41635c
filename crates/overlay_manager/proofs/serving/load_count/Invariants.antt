use Rattle.std.proofs.Common.{◌≡◌, ◌+◌, ◌≤◌, drop}
use Rattle.overlay_manager.specs.Loading.{load_count}
use Rattle.overlay_manager.proofs.serving.load_count.Given as goal

-- those counted and those that are left are all
abbrev pub invariant-loop-number : goal.invariant-loop-number
invariant-loop-number l = (l.count + load_count (drop l.number l.old) (drop l.number l.new) ≡ load_count l.old l.new) × (l.count ≤ l.number)
