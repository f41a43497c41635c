use Rattle.std.proofs.Common.{◌≡◌, ◌-◌}
use Rattle.unit_file.specs.type_file.Text.{empty_table}
use Rattle.unit_file.proofs.type_file.TableLoop.{finished}
use Rattle.unit_file.proofs.type_file.types.entries_of.Given as goal

-- what was read and what is left decide
abbrev pub invariant-loop : goal.invariant-loop
invariant-loop l = finished l.count (l.count - l.counter) l.types l.rest ≡ finished l.count l.count empty_table l.bytes
