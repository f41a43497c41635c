-- None of the types so far has the method.
use Rattle.std.proofs.Common.{◌≡◌}
use Rattle.lower_places.specs.Kinds.{kind_from}
use Rattle.lower_places.proofs.KindTurns.{searched}
use Rattle.lower_places.proofs.kinds.kind_from.Given as goal

abbrev pub invariant-types : goal.invariant-types
invariant-types l = kind_from l.types.units l.name l.number l.types.types ≡ searched l.types.units l.name l.number l.types.types l.id
