-- How the run of an executable ends, and when it always ends so.
use Rattle.std.specs.Prelude.{◌≡◌, ℕ, ◌≤◌, List}
use Rattle.common_values.specs.behaviour.Seen as seen
use Rattle.common_values.specs.behaviour.Seen.{Seen}
use Rattle.cpu_8086.specs.Process as process
use Rattle.cpu_8086.specs.Process.{Process}
use Rattle.cpu_8086.specs.Run.{Runs}
use Rattle.mz_file.specs.Format.{IsExecutable, exe_of}
use Rattle.mz_file.specs.Load.{started, FitsWithBuffer}

-- The process that the bytes start comes, after some number of events, to the end that is meant: with the same
-- code, and the same bytes on its output and on its errors.
pub record EndsAs (bytes input : List ℕ) (meant : Seen) : Type 0 where
  pub events : ℕ
  pub last : Process
  pub runs : Runs events (started bytes input) last
  pub code : ℕ
  pub ends : meant.end ≡ seen.Ended code
  pub status : last.status ≡ process.Ended code
  pub out : last.out ≡ meant.out
  pub err : last.err ≡ meant.err

-- The same after at most so many events.
pub record EndsWithin (most : ℕ) (bytes input : List ℕ) (meant : Seen) : Type 0 where
  pub run : EndsAs bytes input meant
  pub few : run.events ≤ most

-- The bytes are an executable that fits below segment A000h, and with any input its run ends as is meant.
pub record AlwaysEnds (bytes : List ℕ) (meant : Seen) : Type 0 where
  pub executable : IsExecutable bytes
  pub fits : FitsWithBuffer (exe_of bytes) 0
  pub runs : (input : List ℕ) → EndsAs bytes input meant
