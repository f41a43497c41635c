use Rattle.std.proofs.Common.{◌≡◌, max, drop}
use Rattle.unit_file.specs.Reading.{globals_asked, most}
use Rattle.unit_file.proofs.reading.most_globals.Given as goal

-- what the items so far ask for, and the others
abbrev pub invariant-loop-item : goal.invariant-loop-item
invariant-loop-item l = max l.most (most globals_asked (drop l.item-index l.items)) ≡ most globals_asked l.items
