use Rattle.std.proofs.Common.{length, drop, ◌-◌, ◌≡◌, ◌≤◌}
use Rattle.tp_lexer.specs.Shapes.{constant_from}
use Rattle.tp_lexer.specs.declared.constant.Part.TheVariants.{Start}
use Rattle.tp_lexer.proofs.constant.constant_extent.Given as goal

abbrev pub invariant-loop-length : goal.invariant-loop-length
invariant-loop-length l = (l.length ≤ length l.bytes) × (constant_from l.length l.part (drop l.length l.bytes) ≡ constant_from 0 Start l.bytes)

abbrev pub decreases-loop-length : goal.decreases-loop-length
decreases-loop-length l = length l.bytes - l.length
