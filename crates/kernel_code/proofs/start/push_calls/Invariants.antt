use Rattle.std.proofs.Common.{◌≡◌, ◌++◌, drop}
use Rattle.kernel_code.specs.Start.{call_codes}
use Rattle.kernel_code.proofs.start.push_calls.Given as goal

-- the calls so far and those that are left are all
abbrev pub invariant-loop-part : goal.invariant-loop-part
invariant-loop-part l = l.code ++ call_codes (drop l._part-index l.initials) ≡ l.initial.code ++ call_codes l.initials
