use Rattle.std.proofs.Common.{◌≡◌, ◌*◌, map}
use Rattle.std.specs.List.{range_with_len}
use Rattle.tp_gen.specs.Draws.{state_after}
use Rattle.tp_gen.specs.Units.{unit_in}
use Rattle.tp_gen.proofs.units.drawn_units.Given as goal

abbrev pub invariant-loop-place : goal.invariant-loop-place
invariant-loop-place l =
    (l.all.items ≡ map (unit_in l.initial.draws l.units) (range_with_len 0 l.place)) × (l.draws ≡ state_after l.initial.draws (5 * l.place))
