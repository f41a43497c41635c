-- The source and the sink in memory, as callers see them.
use Rattle.std.specs.Prelude.{ℕ, List}
use Rattle.tp_outside.specs.Calls.{Calls}

-- A source in memory: its calls, and the bytes still to come.
pub record SourceState : Type 0 where
  pub calls : Calls
  pub remaining : List ℕ

-- A sink in memory: its calls, how many bytes it has room for in all, and the bytes it took.
pub record SinkState : Type 0 where
  pub calls : Calls
  pub room : ℕ
  pub contents : List ℕ
