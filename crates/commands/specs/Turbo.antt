-- What the top call promises. Its clauses cite these.
use Rattle.std.specs.Prelude.{◌≡◌, ◌⊎◌, ◌<◌, ℕ, List, Option, Some, None, IfSome}
use Rattle.std.specs.Io.KnownBytes.{append_known}
use Rattle.tp_outside.specs.Faults.{HasRisen}
use Rattle.tp_outside.specs.Folder.{Folder, with_known_file}
use Rattle.tp_outside.specs.Streams.{TakesPrefix}
use Rattle.common_values.specs.behaviour.Seen.{Seen, Ended}
use Rattle.typed_tree.specs.declared.units.Program.{Program}
use Rattle.tp_meaning.specs.Meaning.{mean}
use Rattle.tp_outside.specs.whole_input.Input.{IsWhole, HasMore}
use Rattle.front_end.specs.Typed.{IsProgramIn}
use Rattle.checked_front_end.specs.interfaces_consistent.determinism.Folder.{FoundNone}
use Rattle.checked_front_end.specs.Formed.{AreFormed}
use Rattle.commands.specs.mean_program.Shown.{WritesAll, Shows, Stands}
use Rattle.literal_programs.specs.Literals.{IsLiteral}
use Rattle.literal_programs.specs.Agrees.{Agrees}
use Rattle.back_end.specs.declared.files.ProgramFiles.{ProgramFiles}
use Rattle.dos_runner.specs.declared.runner.RunEnd.{RunEnd}
use Rattle.dos_runner.specs.Outside.{Outside}
use Rattle.dos_runner.specs.declared.opened_program.error.OpenError.{OpenError}
use Rattle.dos_runner.specs.declared.overlay_runner.runner.Runner.{Runner}
use Rattle.dos_runner.specs.opened_program.Opening.{HasReason}
use Rattle.commands.specs.declared.names.FileKind.TheVariants.{Source, Executable}
use Rattle.command_line.specs.declared.command.RunOptions.{RunOptions}
use Rattle.front_end.specs.declared.outcomes.refusal.Refusal.{Refusal}
use Rattle.front_end.specs.declared.outcomes.refusal.Refusal.TheVariants as refusal
use Rattle.front_end.specs.declared.outcomes.refusal.What.TheVariants as what
use Rattle.front_end.specs.declared.outcomes.outcome.Outcome.{Outcome}
use Rattle.front_end.specs.declared.outcomes.outcome.Outcome.TheVariants as outcome
use Rattle.commands.specs.Files.{file_of}
use Rattle.front_end.specs.outcomes.Line.{line_of}
use Rattle.command_line.specs.Words.{IsGo, IsRun, IsMean}
use Rattle.commands.specs.World.{World, Holds, Lacks}
use Rattle.commands.specs.Compiled.{HoldsOther, IsCompiledFrom, HasFirst, with_files, with_known_files, RanCompiled}
use Rattle.commands.specs.Go.{IsBuiltFrom, IsNotBuilt, HasNoRun, RanBuilt}
use Rattle.commands.specs.Mean.{turns_of, sinks_of}
use Rattle.commands.specs.Performs.{NamesNone, Shown}
use Rattle.commands.specs.Texts.{IsTextOf}
use Rattle.commands.specs.Run.{refused_as, limit_of, HasNoStart, IsUnopened, BeginsNamed, RunsFrom}
use Rattle.commands.specs.Ending.{outcome_of}

-- Outcomes with which the executable has been written and run.
abbrev pub HasRun : Outcome → Type 0
HasRun (outcome.Program code) = Unit {0}
HasRun (outcome.InstructionLimit taken) = Unit {0}
HasRun (outcome.Stopped cs ip why) = Unit {0}
HasRun outcome.InputFault = Unit {0}
HasRun outcome.OutputFault = Unit {0}
HasRun other = ⊥

-- The files held a program of this name, of well-formed units, and one now holds an executable that does what each program means which they
-- held.
pub record HoldsExecutable (held : Folder) (now : Option Folder) (name : List ℕ) : Type 0 where
  pub program : Program
  pub is : IsProgramIn held name program
  pub formed : AreFormed program
  pub bytes : List ℕ
  pub there : Holds now (file_of name Executable) bytes
  pub agrees : (one : Program) → IsProgramIn held name one → Agrees one bytes

-- The files held a program of this name of any other form, and now hold what it was compiled to.
pub record HoldsCompiled (held : Folder) (now : Option Folder) (name : List ℕ) : Type 0 where
  pub files : ProgramFiles
  pub compiled : IsCompiledFrom held name files
  pub there : now ≡ Some (with_files held name files)

-- The headline: where the files told what they held, the executable that stands in the folder afterwards does what their program means, which
-- is one of literals. Of any other program the folder holds the files that it was compiled to, and nothing is said of what they mean.
abbrev pub Headline : List (List ℕ) → World → World → Outcome → Type 0
Headline words old new result =
    (name : List ℕ) (options : RunOptions) → IsGo words name options → HasRun result
    → IfSome old.folder (λ held. HoldsExecutable held new.folder name ⊎ HoldsCompiled held new.folder name)

-- What was written: where the outcome is the program's end, output and errors took just what each program of the files means, on every
-- input and within any number of turns, since a program of this form reads nothing and never turns; and the outcome is its end.
pub record IsWritten (held : Folder) (name : List ℕ) (result : Outcome) (old new : World) : Type 0 where
  pub program : Program
  pub is : IsProgramIn held name program
  pub all : (one : Program) → IsProgramIn held name one → (input : List ℕ) (turns : ℕ) → WritesAll (mean one input turns) result (sinks_of old.streams) (sinks_of new.streams)

-- So it is, but for a program of any other form: what that wrote is what the run of its files writes.
abbrev pub Written : List (List ℕ) → World → World → Outcome → Type 0
Written words old new result =
    (name : List ℕ) (options : RunOptions) (code : ℕ) → IsGo words name options → result ≡ outcome.Program code
    → IfSome old.folder (λ held. IsWritten held name result old new ⊎ HoldsOther held name)

-- Faults, each counted by the object that is named, and out of memory.
abbrev pub IsFaultOrNoMemory : Outcome → World → World → Type 0
IsFaultOrNoMemory outcome.InputFault old new = HasRisen old.streams.input_faults new.streams.input_faults
IsFaultOrNoMemory outcome.OutputFault old new = HasRisen old.streams.output_faults new.streams.output_faults
IsFaultOrNoMemory outcome.ErrorsFault old new = HasRisen old.streams.errors_faults new.streams.errors_faults
IsFaultOrNoMemory outcome.FilesFault old new = HasRisen old.files_faults new.files_faults
IsFaultOrNoMemory outcome.NoMemory old new = Unit {0}
IsFaultOrNoMemory other old new = ⊥

-- The files hold a program of this name, and each that they hold is of the literal form.
pub record HoldsLiteral (held : Folder) (name : List ℕ) : Type 0 where
  pub program : Program
  pub is : IsProgramIn held name program
  pub literal : (one : Program) → IsProgramIn held name one → IsLiteral one

-- They all mean this end, on every input and within any number of turns.
pub record HoldsEnd (held : Folder) (name : List ℕ) (code : ℕ) : Type 0 where
  pub holds : HoldsLiteral held name
  pub ends : (one : Program) → IsProgramIn held name one → (input : List ℕ) (turns : ℕ) → (mean one input turns).end ≡ Ended code

-- How `go` ends with a program of literals: with the end that the program means, or with the limit that was asked for, which is less than all
-- that the program may take. The machine never stops.
abbrev pub IsLiteralEnd : Folder → List ℕ → RunOptions → Outcome → Type 0
IsLiteralEnd held name options (outcome.Program code) = HoldsEnd held name code
IsLiteralEnd held name options (outcome.InstructionLimit taken) = HoldsLiteral held name × (taken ≡ limit_of options) × (limit_of options < 16389)
IsLiteralEnd held name options other = ⊥

-- With any other: as the run of the files does that it was compiled to.
pub record IsCompiledEnd (held : Folder) (name : List ℕ) (options : RunOptions) (result : Outcome) (o : Outside) : Type 0 where
  pub files : ProgramFiles
  pub end : RunEnd
  pub after : Outside
  pub is : result ≡ outcome_of end
  pub ran : RanCompiled held end name files options o after

-- How `go` ends: so, or refused, for a cause that the files give.
abbrev pub IsGoEnd : Folder → List ℕ → RunOptions → Outcome → Outside → Type 0
IsGoEnd held name options (outcome.Refused r) o = IsNotBuilt held name options.buffer r
IsGoEnd held name options result o = IsLiteralEnd held name options result ⊎ IsCompiledEnd held name options result o

-- It ends so, or there was a fault of the object that is named, or no memory.
abbrev pub GoComplete : List (List ℕ) → World → World → Outcome → Type 0
GoComplete words old new result =
    (name : List ℕ) (options : RunOptions) → IsGo words name options → IfSome old.folder (λ held. IsGoEnd held name options result old.streams ⊎ IsFaultOrNoMemory result old new)

-- A fault is answered only where the count of the object that is named rose.
abbrev pub Faults : World → World → Outcome → Type 0
Faults old new outcome.InputFault = HasRisen old.streams.input_faults new.streams.input_faults
Faults old new outcome.OutputFault = HasRisen old.streams.output_faults new.streams.output_faults
Faults old new outcome.ErrorsFault = HasRisen old.streams.errors_faults new.streams.errors_faults
Faults old new outcome.FilesFault = HasRisen old.files_faults new.files_faults
Faults old new other = Unit {0}

-- Each refusal of `go` has its cause in the files.
abbrev pub GoRefused : List (List ℕ) → World → Refusal → Type 0
GoRefused words old refusal.Usage = (name : List ℕ) (options : RunOptions) → IsGo words name options → ⊥
GoRefused words old r =
    (name : List ℕ) (options : RunOptions) → IsGo words name options → IfSome old.folder (λ held. IsNotBuilt held name options.buffer r)

-- So has each refusal of `run`, in the files of the program that the words name.
abbrev pub RunRefused : List (List ℕ) → World → Refusal → Type 0
RunRefused words old refusal.Usage = (name : List ℕ) (options : RunOptions) → IsRun words name options → ⊥
RunRefused words old r =
    (name : List ℕ) (options : RunOptions) → IsRun words name options → IfSome old.folder (λ held. HasNoStart held (outcome.Refused r) name options.buffer)

-- The input has more bytes than it may have, and the program of this name is one.
pub record HasLongInput (held : Folder) (name : List ℕ) (input : Option (List ℕ)) (r : Refusal) : Type 0 where
  pub program : Program
  pub is : IsProgramIn held name program
  pub number : ℕ
  pub large : r ≡ refusal.TooLarge what.Input number
  pub rest : Option (List ℕ)
  pub more : HasMore input rest number

-- Why a program of this name is refused that is to be shown.
abbrev pub HasNoMeaning : Folder → List ℕ → Option (List ℕ) → Refusal → Type 0
HasNoMeaning held name input r = FoundNone held name (outcome.Refused r) ⊎ HasLongInput held name input r

-- The files hold a program of this name, of well-formed units, and the outcome is how the meaning of each stands on the input that was read.
pub record StandsSo (held : Folder) (name : List ℕ) (turns : Option ℕ) (result : Outcome) (input input' : Option (List ℕ)) : Type 0 where
  pub program : Program
  pub is : IsProgramIn held name program
  pub formed : AreFormed program
  pub bytes : List ℕ
  pub whole : IsWhole input input' bytes
  pub stands : (one : Program) → IsProgramIn held name one → Stands (mean one bytes (turns_of turns)).end result

-- How `mean` ends: as the program means that the files hold; or refused, since they hold none or the input is too long.
abbrev pub IsMeanEnd : Folder → List ℕ → Option ℕ → Outcome → Option (List ℕ) → Option (List ℕ) → Type 0
IsMeanEnd held name turns (outcome.Refused r) input input' = HasNoMeaning held name input r
IsMeanEnd held name turns result input input' = StandsSo held name turns result input input'

-- It ends so, or there was a fault of the object that is named, or no memory.
abbrev pub MeanComplete : List (List ℕ) → World → World → Outcome → Type 0
MeanComplete words old new result = (name : List ℕ) (turns : Option ℕ) → IsMean words name turns
    → IfSome old.folder (λ held. IsMeanEnd held name turns result old.streams.input new.streams.input ⊎ IsFaultOrNoMemory result old new)

-- How `run` ends: as the run of the program that the files hold does; or refused, for a cause that they give, and then no run begins with
-- them.
abbrev pub IsRunEnd : Folder → List ℕ → RunOptions → Outcome → Outside → Type 0
IsRunEnd held name options (outcome.Refused r) o = HasNoStart held (outcome.Refused r) name options.buffer × ((runner : Runner) → BeginsNamed held name options.buffer runner → ⊥)
IsRunEnd held name options result o = (end : RunEnd) × (o' : Outside) × (result ≡ outcome_of end) × RunsFrom held end name options o o'

-- It ends so, or there was a fault of the object that is named, or no memory.
abbrev pub RunComplete : List (List ℕ) → World → World → Outcome → Type 0
RunComplete words old new result =
    (name : List ℕ) (options : RunOptions) → IsRun words name options → IfSome old.folder (λ held. IsRunEnd held name options result old.streams ⊎ IsFaultOrNoMemory result old new)

-- How commands end that need a program.
pub record Complete (words : List (List ℕ)) (old new : World) (result : Outcome) : Type 0 where
  pub of_go : GoComplete words old new result
  pub of_run : RunComplete words old new result
  pub of_mean : MeanComplete words old new result

-- So has each refusal of `mean`.
abbrev pub MeanRefused : List (List ℕ) → World → Refusal → Type 0
MeanRefused words old refusal.Usage = (name : List ℕ) (turns : Option ℕ) → IsMean words name turns → ⊥
MeanRefused words old r = (name : List ℕ) (turns : Option ℕ) → IsMean words name turns → IfSome old.folder (λ held. HasNoMeaning held name old.streams.input r)

-- Words that ask for a text are not refused.
abbrev pub Refused : List (List ℕ) → World → Outcome → Type 0
Refused words old (outcome.Refused r) = GoRefused words old r × RunRefused words old r × MeanRefused words old r × ((text : List ℕ) → IsTextOf words text → ⊥)
Refused words old other = Unit {0}

-- A folder is told, and it holds no program of this name.
abbrev pub HoldsNone : Option Folder → List ℕ → Type 0
HoldsNone None name = ⊥
HoldsNone (Some held) name = (program : Program) → IsProgramIn held name program → ⊥

-- No program of this name was found, for this reason.
abbrev pub IsNone : Option Folder → List ℕ → Refusal → Type 0
IsNone None name r = ⊥
IsNone (Some held) name r = FoundNone held name (outcome.Refused r)

-- The last line was written, which an outcome is due, or the errors took a prefix of it and failed.
abbrev pub AfterLine : Outcome → Outcome → Option (List ℕ) → Option (List ℕ) → Type 0
AfterLine result inner before after =
    ((result ≡ inner) × (after ≡ append_known before (line_of inner))) ⊎ ((result ≡ outcome.ErrorsFault) × TakesPrefix before after (line_of inner))

-- What comes of words that ask for nothing: they are refused, or memory ran out before they were read; then came the line. No file changed,
-- and nothing was read or written besides.
pub record Misuses (old new : World) (result : Outcome) : Type 0 where
  pub inner : Outcome
  pub is : (inner ≡ outcome.Refused refusal.Usage) ⊎ (inner ≡ outcome.NoMemory)
  pub line : AfterLine result inner old.streams.errors new.streams.errors
  pub folder : new.folder ≡ old.folder
  pub input : new.streams.input ≡ old.streams.input
  pub output : new.streams.output ≡ old.streams.output

-- Each cause gives its refusal, or there was a fault of the object that is named, or no memory.
pub record Refuses (words : List (List ℕ)) (old new : World) (result : Outcome) : Type 0 where
  pub usage : NamesNone words → Misuses old new result
  pub missing : (name : List ℕ) (options : RunOptions) → IsGo words name options → Lacks old.folder (file_of name Source) →
      (result ≡ outcome.Refused (refusal.MissingFile (file_of name Source))) ⊎ IsFaultOrNoMemory result old new
  pub unfound : (name : List ℕ) (options : RunOptions) → IsGo words name options → HoldsNone old.folder name →
      ((r : Refusal) × (result ≡ outcome.Refused r) × IsNone old.folder name r) ⊎ IsFaultOrNoMemory result old new
  pub absent : (name : List ℕ) (options : RunOptions) → IsRun words name options → Lacks old.folder (file_of name Executable) →
      (result ≡ outcome.Refused (refusal.MissingFile (file_of name Executable))) ⊎ IsFaultOrNoMemory result old new
  pub unopened : (name : List ℕ) (options : RunOptions) (error : OpenError) → IsRun words name options → HasReason error → IsUnopened old.folder name options.buffer error →
      (result ≡ refused_as error) ⊎ IsFaultOrNoMemory result old new

-- the streams before the last line
abbrev pub streams_before : World → Option (List ℕ) → ℕ → Outside
streams_before new errors faults = record new.streams { errors = errors; errors_faults = faults }

-- What `run` did with the files that a folder holds: the program did not begin, and nothing was read or written; or its run came to an
-- end, and the outcome is that end's; then came the line.
pub record RunsFiles (held : Folder) (result : Outcome) (name : List ℕ) (options : RunOptions) (old new : World) : Type 0 where
  pub inner : Outcome
  pub before : Option (List ℕ)
  pub before_faults : ℕ
  pub did : (HasNoStart held inner name options.buffer × (streams_before new before before_faults ≡ old.streams))
      ⊎ ((end : RunEnd) × (inner ≡ outcome_of end) × RunsFrom held end name options old.streams (streams_before new before before_faults))
  pub line : AfterLine result inner before new.streams.errors

-- Where the words ask for a run and the files tell what they hold, output and errors grew by the run of the program that these
-- files hold, and the outcome is its end.
abbrev pub RanFiles : List (List ℕ) → World → World → Outcome → Type 0
RanFiles words old new result =
    (name : List ℕ) (options : RunOptions) → IsRun words name options → IfSome old.folder (λ held. RunsFiles held result name options old new)

-- Nothing was written: no file changed, and nothing was read or written besides.
pub record StaysAway (held : Folder) (inner : Outcome) (name : List ℕ) (options : RunOptions) (old now : World) : Type 0 where
  pub cause : HasNoRun held inner name options.buffer
  pub folder : now.folder ≡ old.folder
  pub streams : now.streams ≡ old.streams

-- The folder holds an executable that does what the files' program means, and no other file changed; the process of just these bytes came to
-- an end, and the outcome is that end's.
pub record RunsWritten (held : Folder) (inner : Outcome) (name : List ℕ) (options : RunOptions) (old now : World) : Type 0 where
  pub bytes : List ℕ
  pub written : now.folder ≡ with_known_file old.folder (file_of name Executable) bytes
  pub end : RunEnd
  pub is : inner ≡ outcome_of end
  pub ran : RanBuilt held end name bytes options old.streams now.streams

-- The folder holds the executable that the files' program was compiled to, which has overlays, and no other file changed: the overlay file
-- was not written. Nothing was read or written besides.
pub record BreaksOff (held : Folder) (inner : Outcome) (name : List ℕ) (old now : World) : Type 0 where
  pub files : ProgramFiles
  pub compiled : IsCompiledFrom held name files
  pub first : HasFirst old.folder now.folder name files
  pub fails : (inner ≡ outcome.FilesFault) ⊎ (inner ≡ outcome.NoMemory)
  pub streams : now.streams ≡ old.streams

-- The folder holds the files that its program was compiled to, and no other file changed; the run of the program that it then holds came to
-- an end, and the outcome is that end's.
pub record RunsCompiled (held : Folder) (inner : Outcome) (name : List ℕ) (options : RunOptions) (old now : World) : Type 0 where
  pub files : ProgramFiles
  pub written : now.folder ≡ with_known_files old.folder name files
  pub end : RunEnd
  pub is : inner ≡ outcome_of end
  pub ran : RanCompiled held end name files options old.streams now.streams

-- the world before the last line
abbrev pub before_line : World → Option (List ℕ) → ℕ → World
before_line new errors faults = record new { streams = streams_before new errors faults }

-- What `go` does before the line: nothing; or a program of literals is written and run; or any other is, or the first of its two files
-- is written.
abbrev pub Goes : Folder → Outcome → List ℕ → RunOptions → World → World → Type 0
Goes held inner name options old now =
    StaysAway held inner name options old now ⊎ (RunsWritten held inner name options old now
    ⊎ (BreaksOff held inner name old now ⊎ RunsCompiled held inner name options old now))

-- What `go` did with the files that a folder holds, and then the line.
pub record GoesFiles (held : Folder) (result : Outcome) (name : List ℕ) (options : RunOptions) (old new : World) : Type 0 where
  pub inner : Outcome
  pub before : Option (List ℕ)
  pub before_faults : ℕ
  pub did : Goes held inner name options old (before_line new before before_faults)
  pub line : AfterLine result inner before new.streams.errors

-- Where the words ask for it and the files tell what they hold, output and errors grew by the run of the program that the folder then
-- holds, and the outcome is its end.
abbrev pub WentFiles : List (List ℕ) → World → World → Outcome → Type 0
WentFiles words old new result =
    (name : List ℕ) (options : RunOptions) → IsGo words name options → IfSome old.folder (λ held. GoesFiles held result name options old new)

-- What `mean` did with the files that a folder holds: no program of this name was found, and nothing was read or written; or they hold one,
-- of well-formed units, and what each means that they hold was shown, the input read to its end; then came the line.
pub record MeansFiles (held : Folder) (result : Outcome) (name : List ℕ) (turns : Option ℕ) (old new : World) : Type 0 where
  pub inner : Outcome
  pub before : Option (List ℕ)
  pub before_faults : ℕ
  pub did : (FoundNone held name inner × (streams_before new before before_faults ≡ old.streams)) ⊎ ((program : Program) × IsProgramIn held name program × AreFormed program
      × ((one : Program) → IsProgramIn held name one → Shows one (turns_of turns) inner old.streams.input new.streams.input old.streams.input_faults new.streams.input_faults
      (sinks_of old.streams) (sinks_of (streams_before new before before_faults))))
  pub line : AfterLine result inner before new.streams.errors

-- Where the words ask for a meaning and the files tell what they hold, output and errors grew by what the program of these files means.
abbrev pub MeantFiles : List (List ℕ) → World → World → Outcome → Type 0
MeantFiles words old new result =
    (name : List ℕ) (turns : Option ℕ) → IsMean words name turns → IfSome old.folder (λ held. MeansFiles held result name turns old new)

-- No file changed and nothing was written but the line that the outcome is due.
pub record WroteItsLine (old new : World) (result : Outcome) : Type 0 where
  pub folder : new.folder ≡ old.folder
  pub output : new.streams.output ≡ old.streams.output
  pub errors : new.streams.errors ≡ append_known old.streams.errors (line_of result)

-- `go` compiled a program of any form but the literal one, which has overlays, and wrote its executable alone.
pub record LeavesFirst (words : List (List ℕ)) (old new : World) : Type 0 where
  pub name : List ℕ
  pub options : RunOptions
  pub named : IsGo words name options
  pub files : ProgramFiles
  pub compiled : IfSome old.folder (λ held. IsCompiledFrom held name files)
  pub first : HasFirst old.folder new.folder name files

-- `go` compiled such a program, with overlays or without, and wrote all its files.
pub record LeavesAll (words : List (List ℕ)) (old new : World) : Type 0 where
  pub name : List ℕ
  pub options : RunOptions
  pub named : IsGo words name options
  pub files : ProgramFiles
  pub compiled : IfSome old.folder (λ held. IsCompiledFrom held name files)
  pub written : new.folder ≡ with_known_files old.folder name files

-- The first of two files was written, and the line that the outcome is due, and nothing else.
pub record WroteFirst (words : List (List ℕ)) (old new : World) (result : Outcome) : Type 0 where
  pub leaves : LeavesFirst words old new
  pub output : new.streams.output ≡ old.streams.output
  pub errors : new.streams.errors ≡ append_known old.streams.errors (line_of result)

-- A refused command did nothing but write its line. So did one that had no memory, and `go` where files failed; or that wrote one of two
-- files of a program that is not of the literal form, or both before a read for its run failed.
abbrev pub Unchanged : List (List ℕ) → World → World → Outcome → Type 0
Unchanged words old new (outcome.Refused r) = WroteItsLine old new (outcome.Refused r)
Unchanged words old new outcome.FilesFault = (name : List ℕ) (options : RunOptions) → IsGo words name options
    → WroteItsLine old new outcome.FilesFault ⊎ (WroteFirst words old new outcome.FilesFault ⊎ LeavesAll words old new)
Unchanged words old new outcome.NoMemory = WroteItsLine old new outcome.NoMemory ⊎ WroteFirst words old new outcome.NoMemory
Unchanged words old new other = Unit {0}

-- A stream is as it was, or took the first of what each program of the files means for it, on every input and within any number of turns.
abbrev pub TookPrefix : Folder → List ℕ → (Seen → List ℕ) → Option (List ℕ) → Option (List ℕ) → Type 0
TookPrefix held name part before after =
    (after ≡ before) ⊎ ((program : Program) × IsProgramIn held name program
    × ((one : Program) → IsProgramIn held name one → (input : List ℕ) (turns : ℕ) → TakesPrefix before after (part (mean one input turns))))

-- So it is, but for a program that is not of the literal form.
abbrev pub TookLiteral : Folder → List ℕ → (Seen → List ℕ) → Option (List ℕ) → Option (List ℕ) → Type 0
TookLiteral held name part before after = TookPrefix held name part before after ⊎ HoldsOther held name

-- What the errors took of `go` before the line.
abbrev pub TookErrors : List (List ℕ) → World → Option (List ℕ) → Type 0
TookErrors words old before = (name : List ℕ) (options : RunOptions) → IsGo words name options → IfSome old.folder (λ held. TookLiteral held name (λ (seen : Seen). seen.err) old.streams.errors before)

-- The errors end with the line that is due.
abbrev pub EndsWithLine : List (List ℕ) → World → World → Outcome → Type 0
EndsWithLine words old new outcome.ErrorsFault = Unit {0}
EndsWithLine words old new result = (before : Option (List ℕ)) × (new.streams.errors ≡ append_known before (line_of result)) × TookErrors words old before

-- What the output took of `go`, whatever the outcome.
abbrev pub Prefixes : List (List ℕ) → World → World → Type 0
Prefixes words old new =
    (name : List ℕ) (options : RunOptions) → IsGo words name options → IfSome old.folder (λ held. TookLiteral held name (λ (seen : Seen). seen.out) old.streams.output new.streams.output)

-- The files afterwards: as they were, also after each run; or, as `go` leaves them, with an executable that agrees with the program of
-- literals that they held, or with the files that any other was compiled to, or the first of two.
pub record Leaves (words : List (List ℕ)) (old new : World) : Type 0 where
  pub name : List ℕ
  pub options : RunOptions
  pub named : IsGo words name options
  pub bytes : List ℕ
  pub built : IfSome old.folder (λ held. IsBuiltFrom held name bytes)
  pub written : new.folder ≡ with_known_file old.folder (file_of name Executable) bytes

abbrev pub FilesAfter : List (List ℕ) → World → World → Type 0
FilesAfter words old new =
    (new.folder ≡ old.folder) ⊎ (Leaves words old new ⊎ (LeavesFirst words old new ⊎ LeavesAll words old new))

-- The output took just a text, or the first of it and failed; then came the line, which is none where it didn't fail. No file changed, and
-- nothing was read.
pub record Told (text : List ℕ) (old new : World) (result : Outcome) : Type 0 where
  pub inner : Outcome
  pub shown : Shown inner text old.streams.output new.streams.output old.streams.output_faults new.streams.output_faults
  pub line : AfterLine result inner old.streams.errors new.streams.errors
  pub front : TakesPrefix old.streams.output new.streams.output text
  pub folder : new.folder ≡ old.folder
  pub input : new.streams.input ≡ old.streams.input

-- Words that ask for a text get it.
abbrev pub Tells : List (List ℕ) → World → World → Outcome → Type 0
Tells words old new result = (text : List ℕ) → IsTextOf words text → Told text old new result
