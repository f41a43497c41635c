use Rattle.std.proofs.Common.{◌≡◌, drop}
use Rattle.call_rules.specs.set_rules.Bases.{set_in}
use Rattle.call_rules.proofs.set_rules.bases.set_in.Given as goal

-- what is left has what the whole has
abbrev pub invariant-loop-number : goal.invariant-loop-number
invariant-loop-number l = (set_in l.ty l.number (drop l.number l.types.types) ≡ set_in l.ty 0 l.types.types)
