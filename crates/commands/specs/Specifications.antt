-- What the top call promises, of the world before a command, the world after it, and the outcome.
use Rattle.std.specs.Prelude.{ℕ, List}
use Rattle.front_end.specs.declared.outcomes.outcome.Outcome.{Outcome}
use Rattle.commands.specs.Turbo.{Headline, Written, Complete, Prefixes, FilesAfter, Faults, Refused, Refuses, Unchanged, RanFiles, WentFiles, MeantFiles, Tells, EndsWithLine}
use Rattle.commands.specs.World.{World}

pub record Promises (words : List (List ℕ)) (old new : World) (result : Outcome) : Type 0 where
  -- where `go` ran an executable, one stands in the folder that does what the files' program means
  pub headline : Headline words old new result
  -- where the outcome of `go` is the program's end, output and errors took just what it means
  pub written : Written words old new result
  -- how `go`, `run` and `mean` end, but for faults and out of memory
  pub complete : Complete words old new result
  -- whatever the outcome, the output took a prefix of what the program of `go` means
  pub prefixes : Prefixes words old new
  -- which files there are afterwards
  pub files : FilesAfter words old new
  -- a fault is answered only where it was counted
  pub faults : Faults old new result
  -- each refusal has its cause
  pub refused : Refused words old result
  -- each cause gives its refusal
  pub refuses : Refuses words old new result
  -- what is refused changed nothing
  pub unchanged : Unchanged words old new result
  -- what `run` did is the run of the files' program
  pub ran : RanFiles words old new result
  -- what `go` did is the run of the executable that it wrote
  pub went : WentFiles words old new result
  -- what `mean` did is what the files' program means
  pub meant : MeantFiles words old new result
  -- words that ask for a text get it
  pub told : Tells words old new result
  -- the errors end with the line that is due
  pub line : EndsWithLine words old new result
