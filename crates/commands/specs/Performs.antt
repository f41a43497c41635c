-- What a command does before its last line.
use Rattle.std.specs.Prelude.{◌≡◌, ◌⊎◌, ℕ, List, Option}
use Rattle.std.specs.Io.KnownBytes.{append_known}
use Rattle.tp_outside.specs.Faults.{HasRisen}
use Rattle.tp_outside.specs.Streams.{TakesPrefix}
use Rattle.front_end.specs.declared.outcomes.outcome.Outcome.{Outcome}
use Rattle.front_end.specs.declared.outcomes.outcome.Outcome.TheVariants as outcome
use Rattle.front_end.specs.declared.outcomes.refusal.Refusal.TheVariants as refusal
use Rattle.command_line.specs.declared.command.RunOptions.{RunOptions}
use Rattle.commands.specs.Go.{GoDid}
use Rattle.commands.specs.Mean.{MeanDid}
use Rattle.commands.specs.Run.{RunDid}
use Rattle.commands.specs.Texts.{IsTextOf}
use Rattle.command_line.specs.Words.{IsGo, IsRun, IsMean}
use Rattle.commands.specs.World.{World, IsUntouched}

-- The words name no command.
pub record NamesNone (words : List (List ℕ)) : Type 0 where
  pub go : (name : List ℕ) (options : RunOptions) → IsGo words name options → ⊥
  pub run : (name : List ℕ) (options : RunOptions) → IsRun words name options → ⊥
  pub mean : (name : List ℕ) (turns : Option ℕ) → IsMean words name turns → ⊥
  pub text : (text : List ℕ) → IsTextOf words text → ⊥

pub record Misused (result : Outcome) (words : List (List ℕ)) (old new : World) : Type 0 where
  pub is : result ≡ outcome.Refused refusal.Usage
  pub none : NamesNone words
  pub untouched : IsUntouched old new

-- They name `go`, a program and options.
pub record DidGo (result : Outcome) (words : List (List ℕ)) (old new : World) : Type 0 where
  pub name : List ℕ
  pub options : RunOptions
  pub asked : IsGo words name options
  pub did : (name : List ℕ) (options : RunOptions) → IsGo words name options → GoDid result name options old new

-- They name `run`, a program and options.
pub record DidRun (result : Outcome) (words : List (List ℕ)) (old new : World) : Type 0 where
  pub name : List ℕ
  pub options : RunOptions
  pub asked : IsRun words name options
  pub did : (name : List ℕ) (options : RunOptions) → IsRun words name options → RunDid result name options old new

-- They name `mean`, a program and how many turns it may take.
pub record DidMean (result : Outcome) (words : List (List ℕ)) (old new : World) : Type 0 where
  pub name : List ℕ
  pub turns : Option ℕ
  pub asked : IsMean words name turns
  pub did : (name : List ℕ) (turns : Option ℕ) → IsMean words name turns → MeanDid result name turns old new

-- Memory ran out before the words were read, which ask for no text.
pub record RanOut (result : Outcome) (words : List (List ℕ)) (old new : World) : Type 0 where
  pub is : result ≡ outcome.NoMemory
  pub none : (text : List ℕ) → IsTextOf words text → ⊥
  pub untouched : IsUntouched old new

-- The output took a text, or it failed.
abbrev pub Shown : Outcome → List ℕ → Option (List ℕ) → Option (List ℕ) → ℕ → ℕ → Type 0
Shown outcome.Done text before after old new = after ≡ append_known before text
Shown outcome.OutputFault text before after old new = HasRisen old new
Shown other text before after old new = ⊥

-- They ask for a text. Where the output failed, it took the first of it.
pub record DidShow (result : Outcome) (words : List (List ℕ)) (old new : World) : Type 0 where
  pub text : List ℕ
  pub asked : IsTextOf words text
  pub shown : Shown result text old.streams.output new.streams.output old.streams.output_faults new.streams.output_faults
  pub front : TakesPrefix old.streams.output new.streams.output text
  pub folder : new.folder ≡ old.folder
  pub input : new.streams.input ≡ old.streams.input
  pub errors : new.streams.errors ≡ old.streams.errors

abbrev pub Performs : Outcome → List (List ℕ) → World → World → Type 0
Performs result words old new =
    Misused result words old new ⊎ (DidGo result words old new ⊎ (DidRun result words old new ⊎ (RanOut result words old new ⊎ (DidShow result words old new ⊎ DidMean result words old new))))
