use Rattle.std.proofs.Common.{◌≡◌, ◌++◌, drop}
use Rattle.kernel_code.specs.Start.{call_refs}
use Rattle.kernel_code.proofs.start.push_call_refs.Given as goal

-- the references so far and those that are left are all
abbrev pub invariant-loop-part : goal.invariant-loop-part
invariant-loop-part l = l.refs ++ call_refs l.offset (drop l.part-index l.initials) ≡ l.initial.refs ++ call_refs 10 l.initials
