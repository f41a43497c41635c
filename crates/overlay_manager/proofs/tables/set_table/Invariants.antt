use Rattle.std.proofs.Common.{◌≡◌, ◌+◌, ◌++◌, drop}
use Rattle.std.specs.Prelude.{vec_len, vec_capacity}
use Rattle.overlay_manager.specs.Manager.{table_from}
use Rattle.overlay_manager.proofs.tables.set_table.Given as goal

-- what is made and what is left are all
abbrev pub invariant-loop-number : goal.invariant-loop-number
invariant-loop-number l =
    (l.into.items ++ table_from l.room l.seats l.number (drop l.number l.stubs) ≡ table_from l.room l.seats 0 l.stubs)
    × (vec_len l.into ≡ l.number) × (vec_capacity l.into ≡ vec_capacity l.fn.into)
