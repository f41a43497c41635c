-- From what `go` does, and the last line, to what the top call promises.
use Rattle.std.proofs.Common.{◌≡◌, ◌⊎◌, inl, inr, refl, ℕ, ◌≤◌, List, Option, Some, None, sym, ap, ◌∙◌, subst, arith}
use Rattle.std.specs.Prelude.{IfSome}
use Rattle.std.specs.Io.KnownBytes.{append_known}
use Rattle.tp_outside.specs.Faults.{HasRisen}
use Rattle.tp_outside.specs.Folder.{Folder}
use Rattle.common_values.specs.behaviour.Seen.{Seen}
use Rattle.front_end.specs.Untyped.{IsRefusing}
use Rattle.dos_runner.specs.declared.runner.RunEnd.{RunEnd}
use Rattle.dos_runner.specs.declared.runner.RunEnd.TheVariants as ends
use Rattle.dos_runner.specs.Outside.{Outside}
use Rattle.dos_runner.specs.overlay_runner.Event.{Rises}
use Rattle.front_end.specs.declared.outcomes.refusal.Refusal.{Refusal}
use Rattle.front_end.specs.declared.outcomes.refusal.Refusal.TheVariants as refusal
use Rattle.front_end.specs.declared.outcomes.outcome.Outcome.{Outcome}
use Rattle.front_end.specs.declared.outcomes.outcome.Outcome.TheVariants as outcome
use Rattle.front_end.specs.outcomes.Line.{line_of}
use Rattle.command_line.specs.declared.command.RunOptions.{RunOptions}
use Rattle.commands.specs.declared.names.FileKind.TheVariants.{Source}
use Rattle.commands.specs.Compiled.{HoldsOther, IsWriteFailure}
use Rattle.commands.specs.Ending.{outcome_of}
use Rattle.commands.specs.Files.{file_of}
use Rattle.commands.specs.Go.{IsBuiltFrom, IsNotBuilt, IsNotGone, RanBuilt, WentTo, GoDid}
use Rattle.commands.specs.Performs.{DidGo}
use Rattle.commands.specs.Run.{limit_of}
use Rattle.commands.specs.Turbo.{Headline, HasRun, HoldsExecutable, HoldsCompiled, IsWritten, Written, IsGoEnd, IsFaultOrNoMemory, GoComplete, Faults, GoRefused, HoldsNone, IsNone, Refuses, TookLiteral, Prefixes, FilesAfter, TookErrors, Unchanged, WroteItsLine}
use Rattle.commands.specs.World.{World, Lacks, IsUntouched}
use Rattle.commands.proofs.AbsentLaws.{never_gathered, no_source}
use Rattle.commands.proofs.CompiledLaws.{compiled_there, stands_compiled, written_other, took_other, went_complete, broke_complete, broke_not, broke_fault, leaves_first, leaves_all, broke_unchanged, went_unchanged, never_without_source, never_without_program}
use Rattle.commands.proofs.HeldLaws.{does_so, holds_literal}
use Rattle.commands.proofs.RanLaws.{told, limited, not_stopped, ends_so, stands_there, written_there, prefix_of_output, prefix_of_errors}
use Rattle.commands.proofs.WordLaws.{not_both}

pub still_risen : (old mid new : ℕ) → HasRisen old mid → mid ≤ new → HasRisen old new
still_risen old mid new (inl rose) rises = inl (omega arith)
still_risen old mid new (inr full) rises = inr (omega arith)

-- ---- refusals are no ends of runs

abbrev pub IsRefusal : Outcome → Type 0
IsRefusal (outcome.Refused r) = Unit {0}
IsRefusal other = ⊥

pub no_refusal : (end : RunEnd) → IsRefusal (outcome_of end) → ⊥
no_refusal (ends.Ended code) is = is
no_refusal (ends.Limit taken) is = is
no_refusal (ends.Stopped cs ip why) is = is
no_refusal ends.InputFault is = is
no_refusal ends.OutputFault is = is
no_refusal ends.ErrorsFault is = is
no_refusal ends.FilesFault is = is

-- ---- the headline

go_not : (result : Outcome) (name : List ℕ) (buffer : Option ℕ) (folder : Option Folder) (old new : ℕ) → IsNotGone result name buffer folder old new → HasRun result → ⊥
go_not (outcome.Refused r) name buffer folder old new reason has = has
go_not outcome.FilesFault name buffer folder old new reason has = has
go_not outcome.NoMemory name buffer folder old new reason has = has
go_not other name buffer folder old new reason has = reason

pub headline : (result : Outcome) (words : List (List ℕ)) (old mid : World) (errors : Option (List ℕ)) (faults : ℕ) → DidGo result words old mid → Headline words old (told mid errors faults) result
headline result words old mid errors faults went = λ name options asked has. by name options has (went.did name options asked)
  where
    by : (name : List ℕ) (options : RunOptions) → HasRun result → GoDid result name options old mid → IfSome old.folder (λ held. HoldsExecutable held mid.folder name ⊎ HoldsCompiled held mid.folder name)
    by name options has (inl gave) = absurd (go_not result name options.buffer old.folder old.files_faults mid.files_faults gave.reason has)
    by name options has (inr (inl ran)) = stands_there old.folder mid.folder ran.0 name ran.2.bytes options old.streams mid.streams ran.2.run ran.2.written
    by name options has (inr (inr (inl broke))) = absurd (broke_not result old.files_faults mid.files_faults broke.reason has)
    by name options has (inr (inr (inr went))) =
        stands_compiled old.folder mid.folder name went.2.files (compiled_there old.folder went.0 name went.2.files options old.streams mid.streams went.2.run) went.2.written

-- ---- what was written

ended : (end : RunEnd) (name : List ℕ) (options : RunOptions) (old mid : World) (errors : Option (List ℕ)) (faults code : ℕ) → WentTo end name options old mid → errors ≡ append_known mid.streams.errors (line_of (outcome_of end))
    → outcome_of end ≡ outcome.Program code → IfSome old.folder (λ held. IsWritten held name (outcome_of end) old (told mid errors faults) ⊎ HoldsOther held name)
ended (ends.Ended exit) name options old mid errors faults code ran line is = written_there old.folder name ran.bytes options old mid errors faults exit ran.run line
ended (ends.Limit taken) name options old mid errors faults code ran line is = absurd cc
ended (ends.Stopped cs ip why) name options old mid errors faults code ran line is = absurd cc
ended ends.InputFault name options old mid errors faults code ran line is = absurd cc
ended ends.OutputFault name options old mid errors faults code ran line is = absurd cc
ended ends.ErrorsFault name options old mid errors faults code ran line is = absurd cc
ended ends.FilesFault name options old mid errors faults code ran line is = absurd cc

pub written : (result : Outcome) (words : List (List ℕ)) (old mid : World) (errors : Option (List ℕ)) (faults : ℕ) → DidGo result words old mid → errors ≡ append_known mid.streams.errors (line_of result)
    → Written words old (told mid errors faults) result
written result words old mid errors faults went line = λ name options code asked is. by name options code is (went.did name options asked)
  where
    by : (name : List ℕ) (options : RunOptions) (code : ℕ) → result ≡ outcome.Program code → GoDid result name options old mid → IfSome old.folder (λ held. IsWritten held name result old (told mid errors faults) ⊎ HoldsOther held name)
    by name options code is (inl gave) = absurd (subst (λ (o : Outcome). IsNotGone o name options.buffer old.folder old.files_faults mid.files_faults) is gave.reason)
    by name options code is (inr (inl ran)) =
        subst (λ (o : Outcome). IfSome old.folder (λ held. IsWritten held name o old (told mid errors faults) ⊎ HoldsOther held name)) (sym ran.1)
        (ended ran.0 name options old mid errors faults code ran.2 (line ∙ ap (λ (o : Outcome). append_known mid.streams.errors (line_of o)) ran.1) (sym ran.1 ∙ is))
    by name options code is (inr (inr (inl broke))) = absurd (subst (λ (o : Outcome). IsWriteFailure o old.files_faults mid.files_faults) is broke.reason)
    by name options code is (inr (inr (inr went))) =
        written_other old.folder name went.2.files result old (told mid errors faults) (compiled_there old.folder went.0 name went.2.files options old.streams mid.streams went.2.run)

-- ---- how it ends

go_complete : (folder : Option Folder) (result : Outcome) (name : List ℕ) (options : RunOptions) (old mid : World) (errors : Option (List ℕ)) (faults : ℕ) → IsNotGone result name options.buffer folder old.files_faults mid.files_faults
    → IfSome folder (λ held. IsGoEnd held name options result old.streams ⊎ IsFaultOrNoMemory result old (told mid errors faults))
go_complete None result name options old mid errors faults reason = tt
go_complete (Some held) (outcome.Refused r) name options old mid errors faults reason = inl reason.1
go_complete (Some held) outcome.FilesFault name options old mid errors faults reason = inr reason
go_complete (Some held) outcome.NoMemory name options old mid errors faults reason = inr tt
go_complete (Some held) other name options old mid errors faults reason = absurd reason

ran_complete : (folder : Option Folder) (end : RunEnd) (name bytes : List ℕ) (options : RunOptions) (old mid : World) (errors : Option (List ℕ)) (faults : ℕ) → IfSome folder (λ held. RanBuilt held end name bytes options old.streams mid.streams)
    → Rises (Some end) old.streams mid.streams old.files_faults mid.files_faults → mid.streams.errors_faults ≤ faults
    → IfSome folder (λ held. IsGoEnd held name options (outcome_of end) old.streams ⊎ IsFaultOrNoMemory (outcome_of end) old (told mid errors faults))
ran_complete None end name bytes options old mid errors faults ran rises counted = tt
ran_complete (Some held) (ends.Ended code) name bytes options old mid errors faults ran rises counted = inl (inl (record {
  holds = holds_literal held name bytes ran.built;
  ends = λ one here. ends_so one bytes (ran.built.does one here) (limit_of options) ran.last old.streams mid.streams code ran.run;
}))
ran_complete (Some held) (ends.Limit taken) name bytes options old mid errors faults ran rises counted =
    let l = limited ran.built.program bytes (does_so held name bytes ran.built) (limit_of options) ran.last old.streams mid.streams taken ran.run in
    inl (inl (holds_literal held name bytes ran.built, l.0, l.1))
ran_complete (Some held) (ends.Stopped cs ip why) name bytes options old mid errors faults ran rises counted =
    absurd (not_stopped ran.built.program bytes (does_so held name bytes ran.built) (limit_of options) ran.last old.streams mid.streams cs ip why ran.run)
ran_complete (Some held) ends.InputFault name bytes options old mid errors faults ran rises counted = inr rises
ran_complete (Some held) ends.OutputFault name bytes options old mid errors faults ran rises counted = inr rises
ran_complete (Some held) ends.ErrorsFault name bytes options old mid errors faults ran rises counted = inr (still_risen old.streams.errors_faults mid.streams.errors_faults faults rises counted)
ran_complete (Some held) ends.FilesFault name bytes options old mid errors faults ran rises counted = absurd ran.run.run.leaves

pub complete : (result : Outcome) (words : List (List ℕ)) (old mid : World) (errors : Option (List ℕ)) (faults : ℕ) → DidGo result words old mid → mid.streams.errors_faults ≤ faults → GoComplete words old (told mid errors faults) result
complete result words old mid errors faults went counted = λ name options asked. by name options (went.did name options asked)
  where
    by : (name : List ℕ) (options : RunOptions) → GoDid result name options old mid → IfSome old.folder (λ held. IsGoEnd held name options result old.streams ⊎ IsFaultOrNoMemory result old (told mid errors faults))
    by name options (inl gave) = go_complete old.folder result name options old mid errors faults gave.reason
    by name options (inr (inl ran)) =
        subst (λ (o : Outcome). IfSome old.folder (λ held. IsGoEnd held name options o old.streams ⊎ IsFaultOrNoMemory o old (told mid errors faults))) (sym ran.1)
        (ran_complete old.folder ran.0 name ran.2.bytes options old mid errors faults ran.2.run ran.2.rises counted)
    by name options (inr (inr (inl broke))) = broke_complete old.folder result name options old mid errors faults broke.reason
    by name options (inr (inr (inr went))) =
        subst (λ (o : Outcome). IfSome old.folder (λ held. IsGoEnd held name options o old.streams ⊎ IsFaultOrNoMemory o old (told mid errors faults))) (sym went.1)
        (went_complete old.folder went.0 name went.2.files options old (told mid errors faults) mid.streams went.2.run)

-- ---- faults

-- a fault was counted by what it names
pub ran_fault : (end : RunEnd) (old mid : World) (errors : Option (List ℕ)) (faults : ℕ) → Rises (Some end) old.streams mid.streams old.files_faults mid.files_faults → mid.streams.errors_faults ≤ faults → Faults old (told mid errors faults) (outcome_of end)
ran_fault (ends.Ended code) old mid errors faults rises counted = tt
ran_fault (ends.Limit taken) old mid errors faults rises counted = tt
ran_fault (ends.Stopped cs ip why) old mid errors faults rises counted = tt
ran_fault ends.InputFault old mid errors faults rises counted = rises
ran_fault ends.OutputFault old mid errors faults rises counted = rises
ran_fault ends.ErrorsFault old mid errors faults rises counted = still_risen old.streams.errors_faults mid.streams.errors_faults faults rises counted
ran_fault ends.FilesFault old mid errors faults rises counted = rises

go_fault : (result : Outcome) (name : List ℕ) (buffer : Option ℕ) (old mid : World) (errors : Option (List ℕ)) (faults : ℕ) → IsNotGone result name buffer old.folder old.files_faults mid.files_faults → Faults old (told mid errors faults) result
go_fault (outcome.Refused r) name buffer old mid errors faults reason = tt
go_fault outcome.FilesFault name buffer old mid errors faults reason = reason
go_fault outcome.NoMemory name buffer old mid errors faults reason = tt
go_fault other name buffer old mid errors faults reason = absurd reason

pub fault : (result : Outcome) (name : List ℕ) (options : RunOptions) (old mid : World) (errors : Option (List ℕ)) (faults : ℕ) → GoDid result name options old mid → mid.streams.errors_faults ≤ faults → Faults old (told mid errors faults) result
fault result name options old mid errors faults (inl gave) counted = go_fault result name options.buffer old mid errors faults gave.reason
fault result name options old mid errors faults (inr (inl ran)) counted = subst (λ (o : Outcome). Faults old (told mid errors faults) o) (sym ran.1) (ran_fault ran.0 old mid errors faults ran.2.rises counted)
fault result name options old mid errors faults (inr (inr (inl broke))) counted = broke_fault result old mid errors faults broke.reason
fault result name options old mid errors faults (inr (inr (inr went))) counted = subst (λ (o : Outcome). Faults old (told mid errors faults) o) (sym went.1) (ran_fault went.0 old mid errors faults went.2.rises counted)

-- ---- refusals

reason : (r : Refusal) (name : List ℕ) (options : RunOptions) (old mid : World) → GoDid (outcome.Refused r) name options old mid
    → IsRefusing (outcome.Refused r) × IfSome old.folder (λ held. IsNotBuilt held name options.buffer r)
reason r name options old mid (inl gave) = gave.reason
reason r name options old mid (inr (inl ran)) = absurd (no_refusal ran.0 (subst IsRefusal ran.1 tt))
reason r name options old mid (inr (inr (inl broke))) = absurd broke.reason
reason r name options old mid (inr (inr (inr went))) = absurd (no_refusal went.0 (subst IsRefusal went.1 tt))

pub refused : (r : Refusal) (words : List (List ℕ)) (old mid : World) → DidGo (outcome.Refused r) words old mid → GoRefused words old r
refused refusal.Usage words old mid went = λ name options asked. (reason refusal.Usage name options old mid (went.did name options asked)).0
refused r words old mid went = λ name options asked. (reason r name options old mid (went.did name options asked)).1

-- ---- what the sinks took

pub no_output : (folder : Option Folder) (name : List ℕ) (before after : Option (List ℕ)) → after ≡ before → IfSome folder (λ held. TookLiteral held name (λ (seen : Seen). seen.out) before after)
no_output None name before after same = tt
no_output (Some held) name before after same = inl (inl same)

pub prefixes : (result : Outcome) (words : List (List ℕ)) (old mid : World) (errors : Option (List ℕ)) (faults : ℕ) → DidGo result words old mid → Prefixes words old (told mid errors faults)
prefixes result words old mid errors faults went = λ name options asked. by name options (went.did name options asked)
  where
    by : (name : List ℕ) (options : RunOptions) → GoDid result name options old mid → IfSome old.folder (λ held. TookLiteral held name (λ (seen : Seen). seen.out) old.streams.output mid.streams.output)
    by name options (inl gave) = no_output old.folder name old.streams.output mid.streams.output (ap (λ (o : Outside). o.output) gave.untouched.streams)
    by name options (inr (inl ran)) = prefix_of_output old.folder ran.0 name ran.2.bytes options old.streams mid.streams ran.2.run
    by name options (inr (inr (inl broke))) = no_output old.folder name old.streams.output mid.streams.output (ap (λ (o : Outside). o.output) broke.streams)
    by name options (inr (inr (inr went))) =
        took_other old.folder name went.2.files (λ (seen : Seen). seen.out) old.streams.output mid.streams.output (compiled_there old.folder went.0 name went.2.files options old.streams mid.streams went.2.run)

pub no_errors : (folder : Option Folder) (name : List ℕ) (before after : Option (List ℕ)) → after ≡ before → IfSome folder (λ held. TookLiteral held name (λ (seen : Seen). seen.err) before after)
no_errors None name before after same = tt
no_errors (Some held) name before after same = inl (inl same)

pub took_errors : (result : Outcome) (words : List (List ℕ)) (old mid : World) → DidGo result words old mid → TookErrors words old mid.streams.errors
took_errors result words old mid went = λ name options asked. by name options (went.did name options asked)
  where
    by : (name : List ℕ) (options : RunOptions) → GoDid result name options old mid → IfSome old.folder (λ held. TookLiteral held name (λ (seen : Seen). seen.err) old.streams.errors mid.streams.errors)
    by name options (inl gave) = no_errors old.folder name old.streams.errors mid.streams.errors (ap (λ (o : Outside). o.errors) gave.untouched.streams)
    by name options (inr (inl ran)) = prefix_of_errors old.folder ran.0 name ran.2.bytes options old.streams mid.streams ran.2.run
    by name options (inr (inr (inl broke))) = no_errors old.folder name old.streams.errors mid.streams.errors (ap (λ (o : Outside). o.errors) broke.streams)
    by name options (inr (inr (inr went))) =
        took_other old.folder name went.2.files (λ (seen : Seen). seen.err) old.streams.errors mid.streams.errors (compiled_there old.folder went.0 name went.2.files options old.streams mid.streams went.2.run)

-- ---- what is left as it was

pub wrote_its_line : (result : Outcome) (old mid : World) (errors : Option (List ℕ)) (faults : ℕ) → IsUntouched old mid → errors ≡ append_known mid.streams.errors (line_of result) → WroteItsLine old (told mid errors faults) result
wrote_its_line result old mid errors faults same line = record {
  folder = same.folder;
  output = ap (λ (o : Outside). o.output) same.streams;
  errors = line ∙ ap (λ (o : Outside). append_known o.errors (line_of result)) same.streams;
}

go_unchanged : (result : Outcome) (words : List (List ℕ)) (name : List ℕ) (buffer : Option ℕ) (old mid : World) (errors : Option (List ℕ)) (faults : ℕ) → IsNotGone result name buffer old.folder old.files_faults mid.files_faults → IsUntouched old mid
    → errors ≡ append_known mid.streams.errors (line_of result) → Unchanged words old (told mid errors faults) result
go_unchanged (outcome.Refused r) words name buffer old mid errors faults reason same line = wrote_its_line (outcome.Refused r) old mid errors faults same line
go_unchanged outcome.FilesFault words name buffer old mid errors faults reason same line = λ name options asked. inl (wrote_its_line outcome.FilesFault old mid errors faults same line)
go_unchanged outcome.NoMemory words name buffer old mid errors faults reason same line = inl (wrote_its_line outcome.NoMemory old mid errors faults same line)
go_unchanged other words name buffer old mid errors faults reason same line = absurd reason

ran_unchanged : (end : RunEnd) (words : List (List ℕ)) (old new : World) → (end ≡ ends.FilesFault → ⊥) → Unchanged words old new (outcome_of end)
ran_unchanged (ends.Ended code) words old new not = tt
ran_unchanged (ends.Limit taken) words old new not = tt
ran_unchanged (ends.Stopped cs ip why) words old new not = tt
ran_unchanged ends.InputFault words old new not = tt
ran_unchanged ends.OutputFault words old new not = tt
ran_unchanged ends.ErrorsFault words old new not = tt
ran_unchanged ends.FilesFault words old new not = absurd (not refl)

pub unchanged : (result : Outcome) (words : List (List ℕ)) (old mid : World) (errors : Option (List ℕ)) (faults : ℕ) → DidGo result words old mid → errors ≡ append_known mid.streams.errors (line_of result) → Unchanged words old (told mid errors faults) result
unchanged result words old mid errors faults went line = by (went.did went.name went.options went.asked)
  where
    by : GoDid result went.name went.options old mid → Unchanged words old (told mid errors faults) result
    by (inl gave) = go_unchanged result words went.name went.options.buffer old mid errors faults gave.reason gave.untouched line
    by (inr (inl ran)) = subst (λ (o : Outcome). Unchanged words old (told mid errors faults) o) (sym ran.1) (ran_unchanged ran.0 words old (told mid errors faults) ran.2.reads)
    by (inr (inr (inl broke))) = broke_unchanged words went.name went.options old mid errors faults went.asked result broke line
    by (inr (inr (inr ran))) =
        subst (λ (o : Outcome). Unchanged words old (told mid errors faults) o) (sym ran.1)
        (went_unchanged ran.0 words old (told mid errors faults) (leaves_all words went.name went.options old mid errors faults went.asked ran.0 ran.2))

-- ---- the files

built_there : (folder : Option Folder) (end : RunEnd) (name bytes : List ℕ) (options : RunOptions) (o o' : Outside) → IfSome folder (λ held. RanBuilt held end name bytes options o o') → IfSome folder (λ held. IsBuiltFrom held name bytes)
built_there None end name bytes options o o' ran = tt
built_there (Some held) end name bytes options o o' ran = ran.built

pub files_after : (result : Outcome) (words : List (List ℕ)) (old mid : World) (errors : Option (List ℕ)) (faults : ℕ) → DidGo result words old mid → FilesAfter words old (told mid errors faults)
files_after result words old mid errors faults went = by (went.did went.name went.options went.asked)
  where
    by : GoDid result went.name went.options old mid → FilesAfter words old (told mid errors faults)
    by (inl gave) = inl gave.untouched.folder
    by (inr (inl ran)) = inr (inl (record {
      name = went.name;
      options = went.options;
      named = went.asked;
      bytes = ran.2.bytes;
      built = built_there old.folder ran.0 went.name ran.2.bytes went.options old.streams mid.streams ran.2.run;
      written = ran.2.written;
    }))
    by (inr (inr (inl broke))) = inr (inr (inl (leaves_first words went.name went.options old mid errors faults went.asked result broke)))
    by (inr (inr (inr ran))) = inr (inr (inr (leaves_all words went.name went.options old mid errors faults went.asked ran.0 ran.2)))

-- ---- causes

lacks_built : (held : Folder) (name bytes : List ℕ) → held (file_of name Source) ≡ None → IsBuiltFrom held name bytes → ⊥
lacks_built held name bytes lacks built = never_gathered held name lacks built.is.texts built.is.sources built.is.gathers

missing_so : (held : Folder) (name : List ℕ) (buffer : Option ℕ) (r : Refusal) → held (file_of name Source) ≡ None → IsNotBuilt held name buffer r → r ≡ refusal.MissingFile (file_of name Source)
missing_so held name buffer r lacks (inl none) = no_source held name lacks r none.why
missing_so held name buffer r lacks (inr (inl cannot)) = absurd (lacks_built held name cannot.bytes lacks cannot.built)
missing_so held name buffer r lacks (inr (inr (inl compile))) = absurd (never_gathered held name lacks compile.holds.is.texts compile.holds.is.sources compile.holds.is.gathers)
missing_so held name buffer r lacks (inr (inr (inr opens))) = absurd (never_without_source (Some held) name opens.files lacks opens.compiled)

go_missing : (result : Outcome) (name : List ℕ) (buffer : Option ℕ) (folder : Option Folder) (old mid : World) (errors : Option (List ℕ)) (faults : ℕ) → Lacks folder (file_of name Source)
    → IsNotGone result name buffer folder old.files_faults mid.files_faults → (result ≡ outcome.Refused (refusal.MissingFile (file_of name Source))) ⊎ IsFaultOrNoMemory result old (told mid errors faults)
go_missing result name buffer None old mid errors faults lacks reason = absurd lacks
go_missing (outcome.Refused r) name buffer (Some held) old mid errors faults lacks reason = inl (ap (λ (r : Refusal). outcome.Refused r) (missing_so held name buffer r lacks reason.1))
go_missing outcome.FilesFault name buffer (Some held) old mid errors faults lacks reason = inr reason
go_missing outcome.NoMemory name buffer (Some held) old mid errors faults lacks reason = inr tt
go_missing other name buffer (Some held) old mid errors faults lacks reason = absurd reason

ran_missing : (folder : Option Folder) (end : RunEnd) (name bytes : List ℕ) (options : RunOptions) (o o' : Outside) → Lacks folder (file_of name Source) → IfSome folder (λ held. RanBuilt held end name bytes options o o') → ⊥
ran_missing None end name bytes options o o' lacks ran = lacks
ran_missing (Some held) end name bytes options o o' lacks ran = lacks_built held name bytes lacks ran.built

none_so : (held : Folder) (name : List ℕ) (buffer : Option ℕ) (r : Refusal) → HoldsNone (Some held) name → IsNotBuilt held name buffer r → IsNone (Some held) name r
none_so held name buffer r lacking (inl none) = none
none_so held name buffer r lacking (inr (inl cannot)) = absurd (lacking cannot.built.program cannot.built.is)
none_so held name buffer r lacking (inr (inr (inl compile))) = absurd (lacking compile.holds.program compile.holds.is)
none_so held name buffer r lacking (inr (inr (inr opens))) = absurd (lacking opens.compiled.holds.program opens.compiled.holds.is)

go_unfound : (result : Outcome) (name : List ℕ) (buffer : Option ℕ) (folder : Option Folder) (old mid : World) (errors : Option (List ℕ)) (faults : ℕ) → HoldsNone folder name
    → IsNotGone result name buffer folder old.files_faults mid.files_faults → ((r : Refusal) × (result ≡ outcome.Refused r) × IsNone folder name r) ⊎ IsFaultOrNoMemory result old (told mid errors faults)
go_unfound result name buffer None old mid errors faults lacking reason = absurd lacking
go_unfound (outcome.Refused r) name buffer (Some held) old mid errors faults lacking reason = inl (r, refl, none_so held name buffer r lacking reason.1)
go_unfound outcome.FilesFault name buffer (Some held) old mid errors faults lacking reason = inr reason
go_unfound outcome.NoMemory name buffer (Some held) old mid errors faults lacking reason = inr tt
go_unfound other name buffer (Some held) old mid errors faults lacking reason = absurd reason

ran_unfound : (folder : Option Folder) (end : RunEnd) (name bytes : List ℕ) (options : RunOptions) (o o' : Outside) → HoldsNone folder name → IfSome folder (λ held. RanBuilt held end name bytes options o o') → ⊥
ran_unfound None end name bytes options o o' lacking ran = lacking
ran_unfound (Some held) end name bytes options o o' lacking ran = lacking ran.built.program ran.built.is

pub causes : (result : Outcome) (words : List (List ℕ)) (old mid : World) (errors : Option (List ℕ)) (faults : ℕ) → DidGo result words old mid → Refuses words old (told mid errors faults) result
causes result words old mid errors faults went = record {
  usage = λ none. absurd (none.go went.name went.options went.asked);
  missing = λ name options asked lacks. missing name options lacks (went.did name options asked);
  unfound = λ name options asked lacking. unfound name options lacking (went.did name options asked);
  absent = λ name options asked lacks. absurd (not_both words went.name name went.options options went.asked asked);
  unopened = λ name options error asked has why. absurd (not_both words went.name name went.options options went.asked asked);
}
  where
    missing : (name : List ℕ) (options : RunOptions) → Lacks old.folder (file_of name Source) → GoDid result name options old mid
        → (result ≡ outcome.Refused (refusal.MissingFile (file_of name Source))) ⊎ IsFaultOrNoMemory result old (told mid errors faults)
    missing name options lacks (inl gave) = go_missing result name options.buffer old.folder old mid errors faults lacks gave.reason
    missing name options lacks (inr (inl ran)) = absurd (ran_missing old.folder ran.0 name ran.2.bytes options old.streams mid.streams lacks ran.2.run)
    missing name options lacks (inr (inr (inl broke))) = absurd (never_without_source old.folder name broke.files lacks broke.compiled)
    missing name options lacks (inr (inr (inr ran))) =
        absurd (never_without_source old.folder name ran.2.files lacks (compiled_there old.folder ran.0 name ran.2.files options old.streams mid.streams ran.2.run))

    unfound : (name : List ℕ) (options : RunOptions) → HoldsNone old.folder name → GoDid result name options old mid
        → ((r : Refusal) × (result ≡ outcome.Refused r) × IsNone old.folder name r) ⊎ IsFaultOrNoMemory result old (told mid errors faults)
    unfound name options lacking (inl gave) = go_unfound result name options.buffer old.folder old mid errors faults lacking gave.reason
    unfound name options lacking (inr (inl ran)) = absurd (ran_unfound old.folder ran.0 name ran.2.bytes options old.streams mid.streams lacking ran.2.run)
    unfound name options lacking (inr (inr (inl broke))) = absurd (never_without_program old.folder name broke.files lacking broke.compiled)
    unfound name options lacking (inr (inr (inr ran))) =
        absurd (never_without_program old.folder name ran.2.files lacking (compiled_there old.folder ran.0 name ran.2.files options old.streams mid.streams ran.2.run))

-- ---- the line failed

pub still_rising : (old mid new : ℕ) → old ≤ mid → HasRisen mid new → HasRisen old new
still_rising old mid new counted (inl rose) = inl (omega arith)
still_rising old mid new counted (inr full) = inr (omega arith)

failing : (folder : Option Folder) (result : Outcome) (name : List ℕ) (options : RunOptions) (old new : World) → IsFaultOrNoMemory result old new → IfSome folder (λ held. IsGoEnd held name options result old.streams ⊎ IsFaultOrNoMemory result old new)
failing None result name options old new fails = tt
failing (Some held) result name options old new fails = inr fails

pub complete_failed : (words : List (List ℕ)) (old new : World) (mid : ℕ) → old.streams.errors_faults ≤ mid → HasRisen mid new.streams.errors_faults → GoComplete words old new outcome.ErrorsFault
complete_failed words old new mid counted rose = λ name options asked.
    failing old.folder outcome.ErrorsFault name options old new (still_rising old.streams.errors_faults mid new.streams.errors_faults counted rose)

pub complete_out : (result : Outcome) (words : List (List ℕ)) (old new : World) → result ≡ outcome.NoMemory → GoComplete words old new result
complete_out result words old new is = λ name options asked. failing old.folder result name options old new (subst (λ (o : Outcome). IsFaultOrNoMemory o old new) (sym is) tt)
