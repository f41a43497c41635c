-- What `go` promises of programs that it compiled, from what it does with them.
use Rattle.std.proofs.Common.{◌≡◌, ◌⊎◌, inl, inr, refl, ℕ, List, Option, Some, None, ap, ◌∙◌}
use Rattle.std.specs.Prelude.{IfSome}
use Rattle.std.specs.Io.KnownBytes.{append_known}
use Rattle.tp_outside.specs.Folder.{Folder}
use Rattle.common_values.specs.behaviour.Seen.{Seen}
use Rattle.back_end.specs.declared.files.ProgramFiles.{ProgramFiles}
use Rattle.dos_runner.specs.declared.runner.RunEnd.{RunEnd}
use Rattle.dos_runner.specs.declared.runner.RunEnd.TheVariants as ends
use Rattle.dos_runner.specs.Outside.{Outside}
use Rattle.front_end.specs.declared.outcomes.outcome.Outcome.{Outcome}
use Rattle.front_end.specs.declared.outcomes.outcome.Outcome.TheVariants as outcome
use Rattle.front_end.specs.outcomes.Line.{line_of}
use Rattle.command_line.specs.declared.command.RunOptions.{RunOptions}
use Rattle.command_line.specs.Words.{IsGo}
use Rattle.commands.specs.declared.names.FileKind.TheVariants.{Source}
use Rattle.commands.specs.Compiled.{HoldsOther, IsCompiledFrom, with_known_files, RanCompiled, IsWriteFailure, BrokeOff, WentCompiled}
use Rattle.commands.specs.Ending.{outcome_of}
use Rattle.commands.specs.Files.{file_of}
use Rattle.commands.specs.Turbo.{HasRun, HoldsExecutable, HoldsCompiled, IsWritten, IsCompiledEnd, IsGoEnd, IsFaultOrNoMemory, Faults, HoldsNone, LeavesFirst, LeavesAll, WroteFirst, Unchanged, TookLiteral}
use Rattle.commands.specs.World.{World, Lacks}
use Rattle.commands.proofs.AbsentLaws.{never_gathered}
use Rattle.commands.proofs.RanLaws.{told}

-- ---- where the folder is told

pub compiled_there : (folder : Option Folder) (end : RunEnd) (name : List ℕ) (files : ProgramFiles) (options : RunOptions) (o o' : Outside) → IfSome folder (λ held. RanCompiled held end name files options o o')
    → IfSome folder (λ held. IsCompiledFrom held name files)
compiled_there None end name files options o o' ran = tt
compiled_there (Some held) end name files options o o' ran = ran.compiled

pub stands_compiled : (folder now : Option Folder) (name : List ℕ) (files : ProgramFiles) → IfSome folder (λ held. IsCompiledFrom held name files) → now ≡ with_known_files folder name files
    → IfSome folder (λ held. HoldsExecutable held now name ⊎ HoldsCompiled held now name)
stands_compiled None now name files compiled is = tt
stands_compiled (Some held) now name files compiled is = inr (record { files = files; compiled = compiled; there = is })

pub written_other : (folder : Option Folder) (name : List ℕ) (files : ProgramFiles) (result : Outcome) (old new : World) → IfSome folder (λ held. IsCompiledFrom held name files)
    → IfSome folder (λ held. IsWritten held name result old new ⊎ HoldsOther held name)
written_other None name files result old new compiled = tt
written_other (Some held) name files result old new compiled = inr compiled.holds

pub took_other : (folder : Option Folder) (name : List ℕ) (files : ProgramFiles) (part : Seen → List ℕ) (before after : Option (List ℕ)) → IfSome folder (λ held. IsCompiledFrom held name files)
    → IfSome folder (λ held. TookLiteral held name part before after)
took_other None name files part before after compiled = tt
took_other (Some held) name files part before after compiled = inr compiled.holds

-- ---- how it ends

compiled_end : (held : Folder) (end : RunEnd) (name : List ℕ) (files : ProgramFiles) (options : RunOptions) (o o' : Outside) → RanCompiled held end name files options o o' → IsCompiledEnd held name options (outcome_of end) o
compiled_end held end name files options o o' ran = record { files = files; end = end; after = o'; is = refl; ran = ran }

go_end : (held : Folder) (end : RunEnd) (name : List ℕ) (files : ProgramFiles) (options : RunOptions) (o o' : Outside) → RanCompiled held end name files options o o' → IsGoEnd held name options (outcome_of end) o
go_end held (ends.Ended code) name files options o o' ran = inr (compiled_end held (ends.Ended code) name files options o o' ran)
go_end held (ends.Limit taken) name files options o o' ran = inr (compiled_end held (ends.Limit taken) name files options o o' ran)
go_end held (ends.Stopped cs ip why) name files options o o' ran = inr (compiled_end held (ends.Stopped cs ip why) name files options o o' ran)
go_end held ends.InputFault name files options o o' ran = inr (compiled_end held ends.InputFault name files options o o' ran)
go_end held ends.OutputFault name files options o o' ran = inr (compiled_end held ends.OutputFault name files options o o' ran)
go_end held ends.ErrorsFault name files options o o' ran = inr (compiled_end held ends.ErrorsFault name files options o o' ran)
go_end held ends.FilesFault name files options o o' ran = inr (compiled_end held ends.FilesFault name files options o o' ran)

pub went_complete : (folder : Option Folder) (end : RunEnd) (name : List ℕ) (files : ProgramFiles) (options : RunOptions) (old new : World) (o' : Outside) → IfSome folder (λ held. RanCompiled held end name files options old.streams o')
    → IfSome folder (λ held. IsGoEnd held name options (outcome_of end) old.streams ⊎ IsFaultOrNoMemory (outcome_of end) old new)
went_complete None end name files options old new o' ran = tt
went_complete (Some held) end name files options old new o' ran = inl (go_end held end name files options old.streams o' ran)

pub broke_complete : (folder : Option Folder) (result : Outcome) (name : List ℕ) (options : RunOptions) (old mid : World) (errors : Option (List ℕ)) (faults : ℕ) → IsWriteFailure result old.files_faults mid.files_faults
    → IfSome folder (λ held. IsGoEnd held name options result old.streams ⊎ IsFaultOrNoMemory result old (told mid errors faults))
broke_complete None result name options old mid errors faults reason = tt
broke_complete (Some held) outcome.FilesFault name options old mid errors faults reason = inr reason
broke_complete (Some held) outcome.NoMemory name options old mid errors faults reason = inr tt
broke_complete (Some held) other name options old mid errors faults reason = absurd reason

pub broke_not : (result : Outcome) (old new : ℕ) → IsWriteFailure result old new → HasRun result → ⊥
broke_not outcome.FilesFault old new reason has = has
broke_not outcome.NoMemory old new reason has = has
broke_not other old new reason has = reason

-- ---- faults

pub broke_fault : (result : Outcome) (old mid : World) (errors : Option (List ℕ)) (faults : ℕ) → IsWriteFailure result old.files_faults mid.files_faults → Faults old (told mid errors faults) result
broke_fault outcome.FilesFault old mid errors faults reason = reason
broke_fault outcome.NoMemory old mid errors faults reason = tt
broke_fault other old mid errors faults reason = absurd reason

-- ---- the files

module _ (words : List (List ℕ)) (name : List ℕ) (options : RunOptions) (old mid : World) (errors : Option (List ℕ)) (faults : ℕ) (asked : IsGo words name options) where
  pub leaves_first : (result : Outcome) → BrokeOff result name old mid → LeavesFirst words old (told mid errors faults)
  leaves_first result broke = record { name = name; options = options; named = asked; files = broke.files; compiled = broke.compiled; first = broke.first }

  pub leaves_all : (end : RunEnd) → WentCompiled end name options old mid → LeavesAll words old (told mid errors faults)
  leaves_all end went = record {
    name = name;
    options = options;
    named = asked;
    files = went.files;
    compiled = compiled_there old.folder end name went.files options old.streams mid.streams went.run;
    written = went.written;
  }

  wrote_first : (result : Outcome) → BrokeOff result name old mid → errors ≡ append_known mid.streams.errors (line_of result) → WroteFirst words old (told mid errors faults) result
  wrote_first result broke line = record {
    leaves = leaves_first result broke;
    output = ap (λ (o : Outside). o.output) broke.streams;
    errors = line ∙ ap (λ (o : Outside). append_known o.errors (line_of result)) broke.streams;
  }

  pub broke_unchanged : (result : Outcome) → BrokeOff result name old mid → errors ≡ append_known mid.streams.errors (line_of result) → Unchanged words old (told mid errors faults) result
  broke_unchanged outcome.FilesFault broke line = λ name options asked. inr (inl (wrote_first outcome.FilesFault broke line))
  broke_unchanged outcome.NoMemory broke line = inr (wrote_first outcome.NoMemory broke line)
  broke_unchanged other broke line = absurd broke.reason

pub went_unchanged : (end : RunEnd) (words : List (List ℕ)) (old new : World) → LeavesAll words old new → Unchanged words old new (outcome_of end)
went_unchanged (ends.Ended code) words old new leaves = tt
went_unchanged (ends.Limit taken) words old new leaves = tt
went_unchanged (ends.Stopped cs ip why) words old new leaves = tt
went_unchanged ends.InputFault words old new leaves = tt
went_unchanged ends.OutputFault words old new leaves = tt
went_unchanged ends.ErrorsFault words old new leaves = tt
went_unchanged ends.FilesFault words old new leaves = λ name options asked. inr (inr leaves)

-- ---- causes

pub never_without_source : (folder : Option Folder) (name : List ℕ) (files : ProgramFiles) → Lacks folder (file_of name Source) → IfSome folder (λ held. IsCompiledFrom held name files) → ⊥
never_without_source None name files lacks compiled = lacks
never_without_source (Some held) name files lacks compiled = never_gathered held name lacks compiled.holds.is.texts compiled.holds.is.sources compiled.holds.is.gathers

pub never_without_program : (folder : Option Folder) (name : List ℕ) (files : ProgramFiles) → HoldsNone folder name → IfSome folder (λ held. IsCompiledFrom held name files) → ⊥
never_without_program None name files lacking compiled = lacking
never_without_program (Some held) name files lacking compiled = lacking compiled.holds.program compiled.holds.is
