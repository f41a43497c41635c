use Rattle.std.proofs.Common.{◌≡◌, [], drop}
use Rattle.constant_checker.specs.typed_constants.Initializers.{plain_behind}
use Rattle.constant_checker.proofs.typed_constants.plain.plain_types.Given as goal

-- what is left is told behind what was told
abbrev pub invariant-loop-number : goal.invariant-loop-number
invariant-loop-number l = (plain_behind l.given.items (drop l.number l.types.types) ≡ plain_behind [] l.types.types)
