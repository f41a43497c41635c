-- What `go` did with the files, with the last line.
use Rattle.std.proofs.Common.{◌≡◌, ◌⊎◌, inl, inr, refl, ℕ, List, Option, Some, None, IfSome, sym, subst}
use Rattle.tp_outside.specs.Folder.{Folder, with_known_file}
use Rattle.back_end.specs.declared.files.ProgramFiles.{ProgramFiles}
use Rattle.dos_runner.specs.declared.runner.RunEnd.{RunEnd}
use Rattle.front_end.specs.declared.outcomes.outcome.Outcome.{Outcome}
use Rattle.front_end.specs.declared.outcomes.outcome.Outcome.TheVariants as outcome
use Rattle.command_line.specs.declared.command.RunOptions.{RunOptions}
use Rattle.commands.specs.declared.names.FileKind.TheVariants.{Executable}
use Rattle.commands.specs.Compiled.{IsCompiledFrom, with_known_files, RanCompiled, IsWriteFailure, BrokeOff}
use Rattle.commands.specs.Ending.{outcome_of}
use Rattle.commands.specs.Files.{file_of}
use Rattle.commands.specs.Go.{HasNoRun, IsNotGone, RanBuilt, GoDid}
use Rattle.commands.specs.Performs.{DidGo}
use Rattle.commands.specs.Turbo.{AfterLine, GoesFiles, WentFiles}
use Rattle.commands.specs.World.{World, IsUntouched}
use Rattle.commands.proofs.RanLaws.{told}

write_fails : (result : Outcome) (old new : ℕ) → IsWriteFailure result old new → (result ≡ outcome.FilesFault) ⊎ (result ≡ outcome.NoMemory)
write_fails outcome.FilesFault old new reason = inl refl
write_fails outcome.NoMemory old new reason = inr refl
write_fails other old new reason = absurd reason

no_run : (held : Folder) (result : Outcome) (name : List ℕ) (buffer : Option ℕ) (files files' : ℕ) → IsNotGone result name buffer (Some held) files files' → HasNoRun held result name buffer
no_run held (outcome.Refused r) name buffer files files' reason = reason.1
no_run held outcome.FilesFault name buffer files files' reason = tt
no_run held outcome.NoMemory name buffer files files' reason = tt
no_run held other name buffer files files' reason = absurd reason

gave_up : (folder : Option Folder) (inner result : Outcome) (name : List ℕ) (options : RunOptions) (old mid : World) (errors : Option (List ℕ)) (faults : ℕ) → AfterLine result inner mid.streams.errors errors
    → IsUntouched old mid → IsNotGone inner name options.buffer folder old.files_faults mid.files_faults → IfSome folder (λ held. GoesFiles held result name options old (told mid errors faults))
gave_up None inner result name options old mid errors faults line untouched reason = tt
gave_up (Some held) inner result name options old mid errors faults line untouched reason = record {
  inner = inner;
  before = mid.streams.errors;
  before_faults = mid.streams.errors_faults;
  did = inl (record { cause = no_run held inner name options.buffer old.files_faults mid.files_faults reason; folder = untouched.folder; streams = untouched.streams });
  line = line;
}

pub ran_out : (folder : Option Folder) (inner result : Outcome) (name : List ℕ) (options : RunOptions) (old mid : World) (errors : Option (List ℕ)) (faults : ℕ) → inner ≡ outcome.NoMemory → IsUntouched old mid → AfterLine result inner mid.streams.errors errors
    → IfSome folder (λ held. GoesFiles held result name options old (told mid errors faults))
ran_out folder inner result name options old mid errors faults is untouched line =
    gave_up folder inner result name options old mid errors faults line untouched
    (subst (λ (o : Outcome). IsNotGone o name options.buffer folder old.files_faults mid.files_faults) (sym is) tt)

ran_so : (folder : Option Folder) (inner result : Outcome) (end : RunEnd) (name bytes : List ℕ) (options : RunOptions) (old mid : World) (errors : Option (List ℕ)) (faults : ℕ) → AfterLine result inner mid.streams.errors errors → inner ≡ outcome_of end
    → mid.folder ≡ with_known_file old.folder (file_of name Executable) bytes → IfSome folder (λ held. RanBuilt held end name bytes options old.streams mid.streams) → IfSome folder (λ held. GoesFiles held result name options old (told mid errors faults))
ran_so None inner result end name bytes options old mid errors faults line is written run = tt
ran_so (Some held) inner result end name bytes options old mid errors faults line is written run = record {
  inner = inner;
  before = mid.streams.errors;
  before_faults = mid.streams.errors_faults;
  did = inr (inl (record { bytes = bytes; written = written; end = end; is = is; ran = run }));
  line = line;
}

broke_so : (folder : Option Folder) (inner result : Outcome) (name : List ℕ) (options : RunOptions) (old mid : World) (errors : Option (List ℕ)) (faults : ℕ) → AfterLine result inner mid.streams.errors errors → (broke : BrokeOff inner name old mid)
    → IfSome folder (λ held. IsCompiledFrom held name broke.files) → IfSome folder (λ held. GoesFiles held result name options old (told mid errors faults))
broke_so None inner result name options old mid errors faults line broke compiled = tt
broke_so (Some held) inner result name options old mid errors faults line broke compiled = record {
  inner = inner;
  before = mid.streams.errors;
  before_faults = mid.streams.errors_faults;
  did = inr (inr (inl (record { files = broke.files; compiled = compiled; first = broke.first; fails = write_fails inner old.files_faults mid.files_faults broke.reason; streams = broke.streams })));
  line = line;
}

compiled_so : (folder : Option Folder) (inner result : Outcome) (end : RunEnd) (name : List ℕ) (files : ProgramFiles) (options : RunOptions) (old mid : World) (errors : Option (List ℕ)) (faults : ℕ) → AfterLine result inner mid.streams.errors errors → inner ≡ outcome_of end
    → mid.folder ≡ with_known_files old.folder name files → IfSome folder (λ held. RanCompiled held end name files options old.streams mid.streams) → IfSome folder (λ held. GoesFiles held result name options old (told mid errors faults))
compiled_so None inner result end name files options old mid errors faults line is written run = tt
compiled_so (Some held) inner result end name files options old mid errors faults line is written run = record {
  inner = inner;
  before = mid.streams.errors;
  before_faults = mid.streams.errors_faults;
  did = inr (inr (inr (record { files = files; written = written; end = end; is = is; ran = run })));
  line = line;
}

pub went : (inner result : Outcome) (words : List (List ℕ)) (old mid : World) (errors : Option (List ℕ)) (faults : ℕ) → DidGo inner words old mid → AfterLine result inner mid.streams.errors errors → WentFiles words old (told mid errors faults) result
went inner result words old mid errors faults did line = λ name options asked. by name options (did.did name options asked)
  where
    by : (name : List ℕ) (options : RunOptions) → GoDid inner name options old mid → IfSome old.folder (λ held. GoesFiles held result name options old (told mid errors faults))
    by name options (inl gave) = gave_up old.folder inner result name options old mid errors faults line gave.untouched gave.reason
    by name options (inr (inl ran)) = ran_so old.folder inner result ran.0 name ran.2.bytes options old mid errors faults line ran.1 ran.2.written ran.2.run
    by name options (inr (inr (inl broke))) = broke_so old.folder inner result name options old mid errors faults line broke broke.compiled
    by name options (inr (inr (inr ran))) = compiled_so old.folder inner result ran.0 name ran.2.files options old mid errors faults line ran.1 ran.2.written ran.2.run
