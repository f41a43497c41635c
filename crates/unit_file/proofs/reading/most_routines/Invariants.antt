use Rattle.std.proofs.Common.{◌≡◌, max, drop}
use Rattle.unit_file.specs.Reading.{routines_asked, most}
use Rattle.unit_file.proofs.reading.most_routines.Given as goal

-- what the items so far ask for, and the others
abbrev pub invariant-loop-item : goal.invariant-loop-item
invariant-loop-item l = max l.most (most routines_asked (drop l.item-index l.items)) ≡ most routines_asked l.items
