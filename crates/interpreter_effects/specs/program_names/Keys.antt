-- Routines by the units of a table.
use Rattle.std.specs.Prelude.{Option, slice_get}
use Rattle.std.specs.Option.{option_map}
use Rattle.type_layout.specs.declared.definitions.RoutineId.{RoutineId}
use Rattle.type_layout.specs.Table.{Table}
use Rattle.tp_meaning.specs.Trees.{Key}

-- what an id among the units of a table names
abbrev pub key_at : Table → RoutineId → Option Key
key_at table routine = option_map (λ name. record { unit = name; number = routine.number }) (slice_get table.units routine.unit)
