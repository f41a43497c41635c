use Rattle.std.proofs.Common.{◌≡◌, drop}
use Rattle.constant_checker.specs.constant_expressions.Constructors.{are_spans}
use Rattle.constant_checker.proofs.constant_expressions.constructors.are_spans.Given as goal

abbrev pub invariant-loop-one : goal.invariant-loop-one
invariant-loop-one l = (are_spans l.sort l.bounds (drop l.one-index l.spans) ≡ are_spans l.sort l.bounds l.spans)
