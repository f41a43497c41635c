use Rattle.std.proofs.Common.{◌≡◌, [], drop}
use Rattle.constant_checker.specs.constant_expressions.Constructors.{elements_with}
use Rattle.constant_checker.proofs.constant_expressions.constructors.elements_of.Given as goal

abbrev pub invariant-loop-one : goal.invariant-loop-one
invariant-loop-one l = (elements_with l.elements.items (drop l.one-index l.spans) ≡ elements_with [] l.spans)
