-- What a call that reads bytes into memory did.
use Rattle.std.specs.Prelude.{◌≡◌, ℕ, ◌≤◌, ◌<◌, Bool, true, List, length, Option}
use Rattle.std.specs.Io.KnownBytes.{prepend_known, IsAtEnd}
use Rattle.cpu_8086.specs.State.{State}
use Rattle.cpu_8086.specs.Process.{with_bytes}
use Rattle.dos_runner.specs.Outside.{Gave}

-- The source gave these bytes, and they stand in memory from an offset on. None come only at the source's end, or
-- where none were asked for.
pub record ReadPart (segment offset size : ℕ) (old new : State) (before after : Option (List ℕ)) (count : ℕ) : Type 0 where
  pub given : List ℕ
  pub counts : length given ≡ count
  pub within : count ≤ size
  pub stand : new ≡ record old { memory = with_bytes old.memory segment offset given }
  pub taken : before ≡ prepend_known given after
  pub ended : count ≡ 0 → 0 < size → IsAtEnd after

-- The source failed before it had given so many bytes. Those that it gave are lost.
pub record ReadLess (size : ℕ) (before after : Option (List ℕ)) : Type 0 where
  pub given : List ℕ
  pub fewer : length given < size
  pub taken : before ≡ prepend_known given after

-- The bytes that the source gave stand in memory from an offset on. There are fewer than were asked for only where
-- the source is over.
pub record ReadBytes (segment offset size : ℕ) (old new : State) (over over' : Bool) (before after : Option (List ℕ)) (count : ℕ) : Type 0 where
  pub gained : List ℕ
  pub counts : length gained ≡ count
  pub within : count ≤ size
  pub short : count < size → over' ≡ true
  pub stand : new ≡ record old { memory = with_bytes old.memory segment offset gained }
  pub gave : Gave gained over over' before after
