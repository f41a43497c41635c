-- From what `run` does, and the last line, to what the top call promises.
use Rattle.std.proofs.Common.{◌≡◌, ◌⊎◌, inl, inr, ℕ, ◌≤◌, List, Option, Some, None, IfSome, refl, sym, ap, ◌∙◌, subst}
use Rattle.std.specs.Io.KnownBytes.{append_known}
use Rattle.tp_outside.specs.Faults.{HasRisen}
use Rattle.tp_outside.specs.Folder.{Folder}
use Rattle.dos_runner.specs.declared.runner.RunEnd.{RunEnd}
use Rattle.dos_runner.specs.declared.runner.RunEnd.TheVariants as ends
use Rattle.dos_runner.specs.Outside.{Outside}
use Rattle.dos_runner.specs.declared.opened_program.error.OpenError.{OpenError}
use Rattle.dos_runner.specs.declared.opened_program.error.OpenError.TheVariants as errors
use Rattle.dos_runner.specs.opened_program.Opening.{HasReason, IsRefused}
use Rattle.dos_runner.proofs.opened_program.ReasonLaws.{one_reason, no_reason}
use Rattle.dos_runner.specs.declared.overlay_runner.runner.Runner.{Runner}
use Rattle.commands.specs.declared.names.FileKind.TheVariants.{Executable, Overlays}
use Rattle.front_end.specs.declared.outcomes.refusal.Refusal.{Refusal}
use Rattle.front_end.specs.declared.outcomes.refusal.Refusal.TheVariants as refusal
use Rattle.front_end.specs.declared.outcomes.outcome.Outcome.{Outcome}
use Rattle.front_end.specs.declared.outcomes.outcome.Outcome.TheVariants as outcome
use Rattle.command_line.specs.declared.command.RunOptions.{RunOptions}
use Rattle.commands.specs.Ending.{outcome_of}
use Rattle.commands.specs.Files.{file_of}
use Rattle.front_end.specs.outcomes.Line.{line_of}
use Rattle.commands.specs.Performs.{DidRun}
use Rattle.commands.specs.Run.{refused_as, HasNoStart, IsUnopened, IsOfRun, IsNotRun, BeginsNamed, RunsFrom, GaveUp, RunDid}
use Rattle.commands.specs.Turbo.{IsFaultOrNoMemory, Faults, IsRunEnd, RunComplete, RunRefused, Refuses, Unchanged, AfterLine, RunsFiles, RanFiles}
use Rattle.command_line.specs.Words.{IsGo}
use Rattle.commands.specs.World.{World, Lacks}
use Rattle.commands.proofs.GoLaws.{IsRefusal, no_refusal, ran_fault, still_rising, wrote_its_line}
use Rattle.commands.proofs.RanLaws.{told}
use Rattle.commands.proofs.WordLaws.{not_both}

gave-up-fault : (result : Outcome) (name : List ℕ) (buffer : Option ℕ) (old mid : World) (errors : Option (List ℕ)) (faults : ℕ) → IsNotRun result name buffer old.folder old.files_faults mid.files_faults → Faults old (told mid errors faults) result
gave-up-fault (outcome.Refused r) name buffer old mid errors faults reason = tt
gave-up-fault outcome.FilesFault name buffer old mid errors faults reason = reason
gave-up-fault outcome.NoMemory name buffer old mid errors faults reason = tt
gave-up-fault other name buffer old mid errors faults reason = absurd reason

pub fault : (result : Outcome) (name : List ℕ) (options : RunOptions) (old mid : World) (errors : Option (List ℕ)) (faults : ℕ) → RunDid result name options old mid → mid.streams.errors_faults ≤ faults → Faults old (told mid errors faults) result
fault result name options old mid errors faults (inl gave) counted = gave-up-fault result name options.buffer old mid errors faults gave.reason
fault result name options old mid errors faults (inr ran) counted =
    subst (λ (o : Outcome). Faults old (told mid errors faults) o) (sym ran.1) (ran_fault ran.0 old mid errors faults ran.2.rises counted)

-- refusals
reason-told : (r : Refusal) (name : List ℕ) (options : RunOptions) (old mid : World) → RunDid (outcome.Refused r) name options old mid
    → IsOfRun r × IfSome old.folder (λ held. HasNoStart held (outcome.Refused r) name options.buffer)
reason-told r name options old mid (inl gave) = gave.reason
reason-told r name options old mid (inr ran) = absurd (no_refusal ran.0 (subst IsRefusal ran.1 tt))

pub refused : (r : Refusal) (words : List (List ℕ)) (old mid : World) → DidRun (outcome.Refused r) words old mid → RunRefused words old r
refused refusal.Usage words old mid ran = λ name options asked. (reason-told refusal.Usage name options old mid (ran.did name options asked)).0
refused r words old mid ran = λ name options asked. (reason-told r name options old mid (ran.did name options asked)).1

-- what a file that is not there gives
lacks-so : (held : Folder) (r : Refusal) (name : List ℕ) (buffer : Option ℕ) → held (file_of name Executable) ≡ None → HasNoStart held (outcome.Refused r) name buffer → r ≡ refusal.MissingFile (file_of name Executable)
lacks-so held r name buffer lacks (inl absent) = absent.is
lacks-so held r name buffer lacks (inr opens) = absurd (let both = sym lacks ∙ opens.there in cc)

gave-up-absent : (result : Outcome) (name : List ℕ) (buffer : Option ℕ) (folder : Option Folder) (old mid : World) (errors : Option (List ℕ)) (faults : ℕ) → Lacks folder (file_of name Executable)
    → IsNotRun result name buffer folder old.files_faults mid.files_faults → (result ≡ outcome.Refused (refusal.MissingFile (file_of name Executable))) ⊎ IsFaultOrNoMemory result old (told mid errors faults)
gave-up-absent result name buffer None old mid errors faults lacks reason = absurd lacks
gave-up-absent (outcome.Refused r) name buffer (Some held) old mid errors faults lacks reason = inl (ap (λ (r : Refusal). outcome.Refused r) (lacks-so held r name buffer lacks reason.1))
gave-up-absent outcome.FilesFault name buffer (Some held) old mid errors faults lacks reason = inr reason
gave-up-absent outcome.NoMemory name buffer (Some held) old mid errors faults lacks reason = inr tt
gave-up-absent other name buffer (Some held) old mid errors faults lacks reason = absurd reason

ran-absent : (end : RunEnd) (name : List ℕ) (options : RunOptions) (folder : Option Folder) (o o' : Outside) → Lacks folder (file_of name Executable) → IfSome folder (λ held. RunsFrom held end name options o o') → ⊥
ran-absent end name options None o o' lacks run = lacks
ran-absent end name options (Some held) o o' lacks run = let both = sym lacks ∙ run.begins.there in cc

-- A program that is not opened for a reason is refused for no other.
has-reason : (r : Refusal) (e : OpenError) → outcome.Refused r ≡ refused_as e → HasReason e
has-reason r (errors.NotExecutable cause) is = tt
has-reason r (errors.MissingFile file) is = tt
has-reason r (errors.OverlayFileDamaged at) is = tt
has-reason r (errors.OverlayMismatch v) is = tt
has-reason r (errors.BufferTooSmall need have) is = tt
has-reason r (errors.MemoryTooSmall need) is = tt
has-reason r errors.FilesFault is = subst IsRefusal is tt
has-reason r errors.NoMemory is = subst IsRefusal is tt

bytes-same : (found : Option (List ℕ)) (xs ys : List ℕ) → found ≡ Some xs → found ≡ Some ys → xs ≡ ys
bytes-same found xs ys a b = let both = sym a ∙ b in cc

unopened-so : (held : Folder) (r : Refusal) (name : List ℕ) (buffer : Option ℕ) (error : OpenError) → HasReason error → IsUnopened (Some held) name buffer error → HasNoStart held (outcome.Refused r) name buffer → outcome.Refused r ≡ refused_as error
unopened-so held r name buffer error has why (inl lacks) = absurd (let both = sym lacks.absent ∙ why.1 in cc)
unopened-so held r name buffer error has why (inr opens) =
    let same = bytes-same (held (file_of name Executable)) opens.bytes why.0 opens.there why.1 in
    let cause = subst (λ (bytes : List ℕ). IsRefused bytes (file_of name Overlays) (held (file_of name Overlays)) buffer opens.error) same opens.cause in
    opens.is ∙ ap refused_as (one_reason why.0 (file_of name Overlays) (held (file_of name Overlays)) buffer opens.error error (has-reason r opens.error opens.is) has cause why.2)

gave-up-unopened : (result : Outcome) (name : List ℕ) (buffer : Option ℕ) (folder : Option Folder) (old mid : World) (errors : Option (List ℕ)) (faults : ℕ) (error : OpenError) → HasReason error → IsUnopened folder name buffer error
    → IsNotRun result name buffer folder old.files_faults mid.files_faults → (result ≡ refused_as error) ⊎ IsFaultOrNoMemory result old (told mid errors faults)
gave-up-unopened result name buffer None old mid errors faults error has why reason = absurd why
gave-up-unopened (outcome.Refused r) name buffer (Some held) old mid errors faults error has why reason = inl (unopened-so held r name buffer error has why reason.1)
gave-up-unopened outcome.FilesFault name buffer (Some held) old mid errors faults error has why reason = inr reason
gave-up-unopened outcome.NoMemory name buffer (Some held) old mid errors faults error has why reason = inr tt
gave-up-unopened other name buffer (Some held) old mid errors faults error has why reason = absurd reason

ran-unopened : (end : RunEnd) (name : List ℕ) (options : RunOptions) (folder : Option Folder) (o o' : Outside) (error : OpenError) → HasReason error → IsUnopened folder name options.buffer error
    → IfSome folder (λ held. RunsFrom held end name options o o') → ⊥
ran-unopened end name options None o o' error has why run = why
ran-unopened end name options (Some held) o o' error has why run =
    let begins = run.begins in
    let same = bytes-same (held (file_of name Executable)) why.0 begins.bytes why.1 begins.there in
    let cause = subst (λ (bytes : List ℕ). IsRefused bytes (file_of name Overlays) (held (file_of name Overlays)) options.buffer error) same why.2 in
    no_reason begins.bytes (file_of name Overlays) (held (file_of name Overlays)) options.buffer run.first.course.machine run.first.course.ovr error begins.begins.opened has cause

pub causes : (result : Outcome) (words : List (List ℕ)) (old mid : World) (errors : Option (List ℕ)) (faults : ℕ) → DidRun result words old mid → Refuses words old (told mid errors faults) result
causes result words old mid errors faults ran = record {
  usage = λ none. absurd (none.run ran.name ran.options ran.asked);
  missing = λ name options asked lacks. absurd (not_both words name ran.name options ran.options asked ran.asked);
  unfound = λ name options asked lacking. absurd (not_both words name ran.name options ran.options asked ran.asked);
  absent = λ name options asked lacks. by name options lacks (ran.did name options asked);
  unopened = λ name options error asked has why. not-opened name options error has why (ran.did name options asked);
}
  where
    by : (name : List ℕ) (options : RunOptions) → Lacks old.folder (file_of name Executable) → RunDid result name options old mid
        → (result ≡ outcome.Refused (refusal.MissingFile (file_of name Executable))) ⊎ IsFaultOrNoMemory result old (told mid errors faults)
    by name options lacks (inl gave) = gave-up-absent result name options.buffer old.folder old mid errors faults lacks gave.reason
    by name options lacks (inr went) = absurd (ran-absent went.0 name options old.folder old.streams mid.streams lacks went.2.run)

    not-opened : (name : List ℕ) (options : RunOptions) (error : OpenError) → HasReason error → IsUnopened old.folder name options.buffer error → RunDid result name options old mid
        → (result ≡ refused_as error) ⊎ IsFaultOrNoMemory result old (told mid errors faults)
    not-opened name options error has why (inl gave) = gave-up-unopened result name options.buffer old.folder old mid errors faults error has why gave.reason
    not-opened name options error has why (inr went) = absurd (ran-unopened went.0 name options old.folder old.streams mid.streams error has why went.2.run)

-- ---- how it ends

-- with files for which a program is refused, none begins
begins-not : (held : Folder) (r : Refusal) (name : List ℕ) (buffer : Option ℕ) → HasNoStart held (outcome.Refused r) name buffer → (runner : Runner) → BeginsNamed held name buffer runner → ⊥
begins-not held r name buffer (inl lacks) runner begins = let both = sym lacks.absent ∙ begins.there in cc
begins-not held r name buffer (inr opens) runner begins =
    let same = bytes-same (held (file_of name Executable)) opens.bytes begins.bytes opens.there begins.there in
    let cause = subst (λ (bytes : List ℕ). IsRefused bytes (file_of name Overlays) (held (file_of name Overlays)) buffer opens.error) same opens.cause in
    no_reason begins.bytes (file_of name Overlays) (held (file_of name Overlays)) buffer runner.course.machine runner.course.ovr opens.error begins.begins.opened (has-reason r opens.error opens.is) cause

end-so : (held : Folder) (name : List ℕ) (options : RunOptions) (end : RunEnd) (o o' : Outside) → RunsFrom held end name options o o' → IsRunEnd held name options (outcome_of end) o
end-so held name options (ends.Ended code) o o' run = (ends.Ended code, o', refl, run)
end-so held name options (ends.Limit taken) o o' run = (ends.Limit taken, o', refl, run)
end-so held name options (ends.Stopped cs ip why) o o' run = (ends.Stopped cs ip why, o', refl, run)
end-so held name options ends.InputFault o o' run = (ends.InputFault, o', refl, run)
end-so held name options ends.OutputFault o o' run = (ends.OutputFault, o', refl, run)
end-so held name options ends.ErrorsFault o o' run = (ends.ErrorsFault, o', refl, run)
end-so held name options ends.FilesFault o o' run = (ends.FilesFault, o', refl, run)

gave-up-complete : (folder : Option Folder) (result : Outcome) (name : List ℕ) (options : RunOptions) (old mid : World) (errors : Option (List ℕ)) (faults : ℕ) → IsNotRun result name options.buffer folder old.files_faults mid.files_faults
    → IfSome folder (λ held. IsRunEnd held name options result old.streams ⊎ IsFaultOrNoMemory result old (told mid errors faults))
gave-up-complete None result name options old mid errors faults reason = tt
gave-up-complete (Some held) (outcome.Refused r) name options old mid errors faults reason = inl (reason.1, begins-not held r name options.buffer reason.1)
gave-up-complete (Some held) outcome.FilesFault name options old mid errors faults reason = inr reason
gave-up-complete (Some held) outcome.NoMemory name options old mid errors faults reason = inr tt
gave-up-complete (Some held) other name options old mid errors faults reason = absurd reason

ran-complete : (folder : Option Folder) (result : Outcome) (end : RunEnd) (name : List ℕ) (options : RunOptions) (old mid : World) (errors : Option (List ℕ)) (faults : ℕ) → result ≡ outcome_of end
    → IfSome folder (λ held. RunsFrom held end name options old.streams mid.streams) → IfSome folder (λ held. IsRunEnd held name options result old.streams ⊎ IsFaultOrNoMemory result old (told mid errors faults))
ran-complete None result end name options old mid errors faults is run = tt
ran-complete (Some held) result end name options old mid errors faults is run =
    inl (subst (λ (o : Outcome). IsRunEnd held name options o old.streams) (sym is) (end-so held name options end old.streams mid.streams run))

pub complete : (result : Outcome) (words : List (List ℕ)) (old mid : World) (errors : Option (List ℕ)) (faults : ℕ) → DidRun result words old mid → RunComplete words old (told mid errors faults) result
complete result words old mid errors faults ran = λ name options asked. by name options (ran.did name options asked)
  where
    by : (name : List ℕ) (options : RunOptions) → RunDid result name options old mid
        → IfSome old.folder (λ held. IsRunEnd held name options result old.streams ⊎ IsFaultOrNoMemory result old (told mid errors faults))
    by name options (inl gave) = gave-up-complete old.folder result name options old mid errors faults gave.reason
    by name options (inr went) = ran-complete old.folder result went.0 name options old mid errors faults went.1 went.2.run

failing : (folder : Option Folder) (result : Outcome) (name : List ℕ) (options : RunOptions) (old new : World) → IsFaultOrNoMemory result old new
    → IfSome folder (λ held. IsRunEnd held name options result old.streams ⊎ IsFaultOrNoMemory result old new)
failing None result name options old new fails = tt
failing (Some held) result name options old new fails = inr fails

pub complete_failed : (words : List (List ℕ)) (old new : World) (mid : ℕ) → old.streams.errors_faults ≤ mid → HasRisen mid new.streams.errors_faults → RunComplete words old new outcome.ErrorsFault
complete_failed words old new mid counted rose = λ name options asked.
    failing old.folder outcome.ErrorsFault name options old new (still_rising old.streams.errors_faults mid new.streams.errors_faults counted rose)

pub complete_out : (result : Outcome) (words : List (List ℕ)) (old new : World) → result ≡ outcome.NoMemory → RunComplete words old new result
complete_out result words old new is = λ name options asked. failing old.folder result name options old new (subst (λ (o : Outcome). IsFaultOrNoMemory o old new) (sym is) tt)

-- what is left as it was
gave-up-unchanged : (result : Outcome) (name : List ℕ) (buffer : Option ℕ) (words : List (List ℕ)) (old mid : World) (errors : Option (List ℕ)) (faults : ℕ) → ((other : List ℕ) (gone : RunOptions) → IsGo words other gone → ⊥) → GaveUp result name buffer old mid
    → errors ≡ append_known mid.streams.errors (line_of result) → Unchanged words old (told mid errors faults) result
gave-up-unchanged (outcome.Refused r) name buffer words old mid errors faults not gave line = wrote_its_line (outcome.Refused r) old mid errors faults gave.untouched line
gave-up-unchanged outcome.FilesFault name buffer words old mid errors faults not gave line = λ other gone asked. absurd (not other gone asked)
gave-up-unchanged outcome.NoMemory name buffer words old mid errors faults not gave line = inl (wrote_its_line outcome.NoMemory old mid errors faults gave.untouched line)
gave-up-unchanged other name buffer words old mid errors faults not gave line = tt

ran-unchanged : (end : RunEnd) (words : List (List ℕ)) (old new : World) → ((other : List ℕ) (gone : RunOptions) → IsGo words other gone → ⊥) → Unchanged words old new (outcome_of end)
ran-unchanged (ends.Ended code) words old new not = tt
ran-unchanged (ends.Limit taken) words old new not = tt
ran-unchanged (ends.Stopped cs ip why) words old new not = tt
ran-unchanged ends.InputFault words old new not = tt
ran-unchanged ends.OutputFault words old new not = tt
ran-unchanged ends.ErrorsFault words old new not = tt
ran-unchanged ends.FilesFault words old new not = λ other gone asked. absurd (not other gone asked)

pub unchanged : (result : Outcome) (words : List (List ℕ)) (old mid : World) (errors : Option (List ℕ)) (faults : ℕ) → DidRun result words old mid → errors ≡ append_known mid.streams.errors (line_of result)
    → Unchanged words old (told mid errors faults) result
unchanged result words old mid errors faults ran line = by (ran.did ran.name ran.options ran.asked)
  where
    not : (other : List ℕ) (gone : RunOptions) → IsGo words other gone → ⊥
    not other gone asked = not_both words other ran.name gone ran.options asked ran.asked

    by : RunDid result ran.name ran.options old mid → Unchanged words old (told mid errors faults) result
    by (inl gave) = gave-up-unchanged result ran.name ran.options.buffer words old mid errors faults not gave line
    by (inr went) = subst (λ (o : Outcome). Unchanged words old (told mid errors faults) o) (sym went.1) (ran-unchanged went.0 words old (told mid errors faults) not)

-- no run changes a file
pub folder_kept : (result : Outcome) (words : List (List ℕ)) (old mid : World) → DidRun result words old mid → mid.folder ≡ old.folder
folder_kept result words old mid ran = by (ran.did ran.name ran.options ran.asked)
  where
    by : RunDid result ran.name ran.options old mid → mid.folder ≡ old.folder
    by (inl gave) = gave.untouched.folder
    by (inr went) = went.2.folder

-- what was run
no-start : (held : Folder) (r : Outcome) (name : List ℕ) (buffer : Option ℕ) (files files' : ℕ) → IsNotRun r name buffer (Some held) files files' → HasNoStart held r name buffer
no-start held (outcome.Refused r) name buffer files files' reason = reason.1
no-start held outcome.FilesFault name buffer files files' reason = tt
no-start held outcome.NoMemory name buffer files files' reason = tt
no-start held other name buffer files files' reason = absurd reason

gave-up-told : (folder : Option Folder) (inner result : Outcome) (name : List ℕ) (options : RunOptions) (old mid : World) (errors : Option (List ℕ)) (faults : ℕ) → AfterLine result inner mid.streams.errors errors
    → mid.streams ≡ old.streams → IsNotRun inner name options.buffer folder old.files_faults mid.files_faults → IfSome folder (λ held. RunsFiles held result name options old (told mid errors faults))
gave-up-told None inner result name options old mid errors faults line untouched reason = tt
gave-up-told (Some held) inner result name options old mid errors faults line untouched reason = record {
  inner = inner;
  before = mid.streams.errors;
  before_faults = mid.streams.errors_faults;
  did = inl (no-start held inner name options.buffer old.files_faults mid.files_faults reason, untouched);
  line = line;
}

pub ran_out : (folder : Option Folder) (inner result : Outcome) (name : List ℕ) (options : RunOptions) (old mid : World) (errors : Option (List ℕ)) (faults : ℕ) → inner ≡ outcome.NoMemory → mid.streams ≡ old.streams → AfterLine result inner mid.streams.errors errors
    → IfSome folder (λ held. RunsFiles held result name options old (told mid errors faults))
ran_out folder inner result name options old mid errors faults is untouched line =
    gave-up-told folder inner result name options old mid errors faults line untouched
    (subst (λ (o : Outcome). IsNotRun o name options.buffer folder old.files_faults mid.files_faults) (sym is) tt)

ran-told : (folder : Option Folder) (inner result : Outcome) (end : RunEnd) (name : List ℕ) (options : RunOptions) (old mid : World) (errors : Option (List ℕ)) (faults : ℕ) → AfterLine result inner mid.streams.errors errors → inner ≡ outcome_of end
    → IfSome folder (λ held. RunsFrom held end name options old.streams mid.streams) → IfSome folder (λ held. RunsFiles held result name options old (told mid errors faults))
ran-told None inner result end name options old mid errors faults line is run = tt
ran-told (Some held) inner result end name options old mid errors faults line is run = record {
  inner = inner;
  before = mid.streams.errors;
  before_faults = mid.streams.errors_faults;
  did = inr (end, is, run);
  line = line;
}

pub ran : (inner result : Outcome) (words : List (List ℕ)) (old mid : World) (errors : Option (List ℕ)) (faults : ℕ) → DidRun inner words old mid → AfterLine result inner mid.streams.errors errors → RanFiles words old (told mid errors faults) result
ran inner result words old mid errors faults did line = λ name options asked. by name options (did.did name options asked)
  where
    by : (name : List ℕ) (options : RunOptions) → RunDid inner name options old mid → IfSome old.folder (λ held. RunsFiles held result name options old (told mid errors faults))
    by name options (inl gave) = gave-up-told old.folder inner result name options old mid errors faults line gave.untouched.streams gave.reason
    by name options (inr went) = ran-told old.folder inner result went.0 name options old mid errors faults line went.1 went.2.run
