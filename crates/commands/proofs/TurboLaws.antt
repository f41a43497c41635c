-- What the top call promises, from what a command does and its line.
use Rattle.std.proofs.Common.{◌≡◌, ◌⊎◌, inl, inr, ℕ, ◌≤◌, List, Option, sym, ap, ◌∙◌, refl, subst}
use Rattle.std.specs.Io.KnownBytes.{append_known}
use Rattle.tp_outside.specs.Faults.{HasRisen}
use Rattle.tp_outside.specs.Streams.{TakesPrefix}
use Rattle.front_end.specs.declared.outcomes.refusal.Refusal.{Refusal}
use Rattle.front_end.specs.declared.outcomes.refusal.Refusal.TheVariants as refusal
use Rattle.front_end.specs.declared.outcomes.outcome.Outcome.{Outcome}
use Rattle.front_end.specs.declared.outcomes.outcome.Outcome.TheVariants as outcome
use Rattle.front_end.specs.outcomes.Line.{line_of}
use Rattle.dos_runner.specs.Outside.{Outside}
use Rattle.commands.specs.Performs.{NamesNone, Performs}
use Rattle.commands.specs.Specifications.{Promises}
use Rattle.commands.specs.Turbo.{Headline, HasRun, Written, Complete, Faults, GoRefused, RunRefused, Refused, Misuses, Refuses, Prefixes, FilesAfter, TookErrors, EndsWithLine, Unchanged, AfterLine, WentFiles, RanFiles, MeanRefused, MeantFiles, Tells}
use Rattle.commands.specs.World.{World, IsUntouched}
use Rattle.commands.proofs.GoLaws.{no_output, no_errors, wrote_its_line}
use Rattle.commands.proofs.RanLaws.{told}
use Rattle.commands.proofs.GoLaws as go
use Rattle.commands.proofs.RunLaws as run
use Rattle.commands.proofs.WentLaws as went
use Rattle.commands.proofs.MeanLaws as mean
use Rattle.commands.proofs.MeanLaws.{not_mean}
use Rattle.commands.proofs.TextLaws as text
use Rattle.commands.proofs.TextLaws.{not_go, not_run}
use Rattle.commands.proofs.WordLaws.{not_both, not_go_and_mean, not_run_and_mean}

headline : (result : Outcome) (words : List (List ℕ)) (old mid : World) (errors : Option (List ℕ)) (faults : ℕ) → Performs result words old mid → Headline words old (told mid errors faults) result
headline result words old mid errors faults (inl misused) = λ name options asked has. absurd (misused.none.go name options asked)
headline result words old mid errors faults (inr (inl went)) = go.headline result words old mid errors faults went
headline result words old mid errors faults (inr (inr (inl ran))) = λ name options asked has. absurd (not_both words name ran.name options ran.options asked ran.asked)
headline result words old mid errors faults (inr (inr (inr (inl out)))) = λ name options asked has. absurd (subst HasRun out.is has)
headline result words old mid errors faults (inr (inr (inr (inr (inl shown))))) = λ name options asked has. absurd (not_go words shown.text name options shown.asked asked)
headline result words old mid errors faults (inr (inr (inr (inr (inr meant))))) = λ name options asked has. absurd (not_go_and_mean words name meant.name options meant.turns asked meant.asked)

no_program : (result : Outcome) (code : ℕ) → result ≡ outcome.NoMemory → result ≡ outcome.Program code → ⊥
no_program result code none is = let bad = sym none ∙ is in cc

written : (result : Outcome) (words : List (List ℕ)) (old mid : World) (errors : Option (List ℕ)) (faults : ℕ) → Performs result words old mid → errors ≡ append_known mid.streams.errors (line_of result) → Written words old (told mid errors faults) result
written result words old mid errors faults (inl misused) line = λ name options code asked is. absurd (misused.none.go name options asked)
written result words old mid errors faults (inr (inl went)) line = go.written result words old mid errors faults went line
written result words old mid errors faults (inr (inr (inl ran))) line = λ name options code asked is. absurd (not_both words name ran.name options ran.options asked ran.asked)
written result words old mid errors faults (inr (inr (inr (inl out)))) line = λ name options code asked is. absurd (no_program result code out.is is)
written result words old mid errors faults (inr (inr (inr (inr (inl shown))))) line = λ name options code asked is. absurd (not_go words shown.text name options shown.asked asked)
written result words old mid errors faults (inr (inr (inr (inr (inr meant))))) line = λ name options code asked is. absurd (not_go_and_mean words name meant.name options meant.turns asked meant.asked)

complete : (result : Outcome) (words : List (List ℕ)) (old mid : World) (errors : Option (List ℕ)) (faults : ℕ) → Performs result words old mid → mid.streams.errors_faults ≤ faults → Complete words old (told mid errors faults) result
complete result words old mid errors faults (inl misused) counted =
    record {
      of_go = λ name options asked. absurd (misused.none.go name options asked);
      of_run = λ name options asked. absurd (misused.none.run name options asked);
      of_mean = λ name turns asked. absurd (misused.none.mean name turns asked);
    }
complete result words old mid errors faults (inr (inl went)) counted = record {
  of_go = go.complete result words old mid errors faults went counted;
  of_run = λ name options asked. absurd (not_both words went.name name went.options options went.asked asked);
  of_mean = λ name turns asked. absurd (not_go_and_mean words went.name name went.options turns went.asked asked);
}
complete result words old mid errors faults (inr (inr (inl ran))) counted = record {
  of_go = λ name options asked. absurd (not_both words name ran.name options ran.options asked ran.asked);
  of_run = run.complete result words old mid errors faults ran;
  of_mean = λ name turns asked. absurd (not_run_and_mean words ran.name name ran.options turns ran.asked asked);
}
complete result words old mid errors faults (inr (inr (inr (inl out)))) counted =
    record {
      of_go = go.complete_out result words old (told mid errors faults) out.is;
      of_run = run.complete_out result words old (told mid errors faults) out.is;
      of_mean = mean.complete_out result words old (told mid errors faults) out.is;
    }
complete result words old mid errors faults (inr (inr (inr (inr (inl shown))))) counted = record {
  of_go = λ name options asked. absurd (not_go words shown.text name options shown.asked asked);
  of_run = λ name options asked. absurd (not_run words shown.text name options shown.asked asked);
  of_mean = λ name turns asked. absurd (not_mean words shown.text name turns shown.asked asked);
}
complete result words old mid errors faults (inr (inr (inr (inr (inr meant))))) counted = record {
  of_go = λ name options asked. absurd (not_go_and_mean words name meant.name options meant.turns asked meant.asked);
  of_run = λ name options asked. absurd (not_run_and_mean words name meant.name options meant.turns asked meant.asked);
  of_mean = mean.complete result words old mid errors faults meant counted;
}

fault : (result : Outcome) (words : List (List ℕ)) (old mid : World) (errors : Option (List ℕ)) (faults : ℕ) → Performs result words old mid → mid.streams.errors_faults ≤ faults → Faults old (told mid errors faults) result
fault result words old mid errors faults (inl misused) rises = subst (λ (o : Outcome). Faults old (told mid errors faults) o) (sym misused.is) tt
fault result words old mid errors faults (inr (inl went)) rises = go.fault result went.name went.options old mid errors faults (went.did went.name went.options went.asked) rises
fault result words old mid errors faults (inr (inr (inl ran))) rises = run.fault result ran.name ran.options old mid errors faults (ran.did ran.name ran.options ran.asked) rises
fault result words old mid errors faults (inr (inr (inr (inl out)))) rises = subst (λ (o : Outcome). Faults old (told mid errors faults) o) (sym out.is) tt
fault result words old mid errors faults (inr (inr (inr (inr (inl shown))))) rises = text.fault result shown.text old mid errors faults shown.shown
fault result words old mid errors faults (inr (inr (inr (inr (inr meant))))) rises = mean.fault result meant.name meant.turns old mid errors faults (meant.did meant.name meant.turns meant.asked) rises

refuses-so : (r : Refusal) (words : List (List ℕ)) (old mid : World) → Performs (outcome.Refused r) words old mid → Refused words old (outcome.Refused r)
refuses-so r words old mid (inl misused) = subst (λ (o : Outcome). Refused words old o) (sym misused.is) (misused.none.go, misused.none.run, misused.none.mean, misused.none.text)
refuses-so r words old mid (inr (inl went)) = (go.refused r words old mid went, other r, mean_other r, λ text asked. not_go words text went.name went.options asked went.asked)
  where
    mean_other : (r : Refusal) → MeanRefused words old r
    mean_other refusal.Usage = λ name turns asked. not_go_and_mean words went.name name went.options turns went.asked asked
    mean_other r = λ name turns asked. absurd (not_go_and_mean words went.name name went.options turns went.asked asked)

    other : (r : Refusal) → RunRefused words old r
    other refusal.Usage = λ name options asked. not_both words went.name name went.options options went.asked asked
    other r = λ name options asked. absurd (not_both words went.name name went.options options went.asked asked)
refuses-so r words old mid (inr (inr (inl ran))) = (other r, run.refused r words old mid ran, mean_other r, λ text asked. not_run words text ran.name ran.options asked ran.asked)
  where
    mean_other : (r : Refusal) → MeanRefused words old r
    mean_other refusal.Usage = λ name turns asked. not_run_and_mean words ran.name name ran.options turns ran.asked asked
    mean_other r = λ name turns asked. absurd (not_run_and_mean words ran.name name ran.options turns ran.asked asked)

    other : (r : Refusal) → GoRefused words old r
    other refusal.Usage = λ name options asked. not_both words name ran.name options ran.options asked ran.asked
    other r = λ name options asked. absurd (not_both words name ran.name options ran.options asked ran.asked)
refuses-so r words old mid (inr (inr (inr (inl out)))) = absurd (let is = out.is in cc)
refuses-so r words old mid (inr (inr (inr (inr (inl shown))))) = absurd shown.shown
refuses-so r words old mid (inr (inr (inr (inr (inr meant))))) = (go_other r, run_other r, mean.refused r words old mid meant, λ text asked. not_mean words text meant.name meant.turns asked meant.asked)
  where
    go_other : (r : Refusal) → GoRefused words old r
    go_other refusal.Usage = λ name options asked. not_go_and_mean words name meant.name options meant.turns asked meant.asked
    go_other r = λ name options asked. absurd (not_go_and_mean words name meant.name options meant.turns asked meant.asked)

    run_other : (r : Refusal) → RunRefused words old r
    run_other refusal.Usage = λ name options asked. not_run_and_mean words name meant.name options meant.turns asked meant.asked
    run_other r = λ name options asked. absurd (not_run_and_mean words name meant.name options meant.turns asked meant.asked)

refused : (result : Outcome) (words : List (List ℕ)) (old mid : World) → Performs result words old mid → Refused words old result
refused (outcome.Refused r) words old mid did = refuses-so r words old mid did
refused outcome.InputFault words old mid did = tt
refused outcome.OutputFault words old mid did = tt
refused outcome.ErrorsFault words old mid did = tt
refused outcome.FilesFault words old mid did = tt
refused outcome.NoMemory words old mid did = tt
refused outcome.Done words old mid did = tt
refused (outcome.Program exit) words old mid did = tt
refused (outcome.InstructionLimit taken) words old mid did = tt
refused (outcome.Stopped cs ip why) words old mid did = tt
refused outcome.TurnLimit words old mid did = tt
refused (outcome.Undefined act) words old mid did = tt

prefixes : (result : Outcome) (words : List (List ℕ)) (old mid : World) (errors : Option (List ℕ)) (faults : ℕ) → Performs result words old mid → Prefixes words old (told mid errors faults)
prefixes result words old mid errors faults (inl misused) = λ name options asked. absurd (misused.none.go name options asked)
prefixes result words old mid errors faults (inr (inl went)) = go.prefixes result words old mid errors faults went
prefixes result words old mid errors faults (inr (inr (inl ran))) = λ name options asked. absurd (not_both words name ran.name options ran.options asked ran.asked)
prefixes result words old mid errors faults (inr (inr (inr (inl out)))) = λ name options asked. no_output old.folder name old.streams.output mid.streams.output (ap (λ (o : Outside). o.output) out.untouched.streams)
prefixes result words old mid errors faults (inr (inr (inr (inr (inl shown))))) = λ name options asked. absurd (not_go words shown.text name options shown.asked asked)
prefixes result words old mid errors faults (inr (inr (inr (inr (inr meant))))) = λ name options asked. absurd (not_go_and_mean words name meant.name options meant.turns asked meant.asked)

took_errors : (result : Outcome) (words : List (List ℕ)) (old mid : World) → Performs result words old mid → TookErrors words old mid.streams.errors
took_errors result words old mid (inl misused) = λ name options asked. absurd (misused.none.go name options asked)
took_errors result words old mid (inr (inl went)) = go.took_errors result words old mid went
took_errors result words old mid (inr (inr (inl ran))) = λ name options asked. absurd (not_both words name ran.name options ran.options asked ran.asked)
took_errors result words old mid (inr (inr (inr (inl out)))) = λ name options asked. no_errors old.folder name old.streams.errors mid.streams.errors (ap (λ (o : Outside). o.errors) out.untouched.streams)
took_errors result words old mid (inr (inr (inr (inr (inl shown))))) = λ name options asked. absurd (not_go words shown.text name options shown.asked asked)
took_errors result words old mid (inr (inr (inr (inr (inr meant))))) = λ name options asked. absurd (not_go_and_mean words name meant.name options meant.turns asked meant.asked)

ends_with_line : (result : Outcome) (words : List (List ℕ)) (old mid : World) (errors : Option (List ℕ)) (faults : ℕ) → Performs result words old mid → errors ≡ append_known mid.streams.errors (line_of result) → EndsWithLine words old (told mid errors faults) result
ends_with_line (outcome.Program code) words old mid errors faults did line = (mid.streams.errors, line, took_errors (outcome.Program code) words old mid did)
ends_with_line outcome.Done words old mid errors faults did line = (mid.streams.errors, line, took_errors outcome.Done words old mid did)
ends_with_line (outcome.InstructionLimit taken) words old mid errors faults did line = (mid.streams.errors, line, took_errors (outcome.InstructionLimit taken) words old mid did)
ends_with_line (outcome.Stopped cs ip why) words old mid errors faults did line = (mid.streams.errors, line, took_errors (outcome.Stopped cs ip why) words old mid did)
ends_with_line (outcome.Refused r) words old mid errors faults did line = (mid.streams.errors, line, took_errors (outcome.Refused r) words old mid did)
ends_with_line outcome.TurnLimit words old mid errors faults did line = (mid.streams.errors, line, took_errors outcome.TurnLimit words old mid did)
ends_with_line (outcome.Undefined act) words old mid errors faults did line = (mid.streams.errors, line, took_errors (outcome.Undefined act) words old mid did)
ends_with_line outcome.InputFault words old mid errors faults did line = (mid.streams.errors, line, took_errors outcome.InputFault words old mid did)
ends_with_line outcome.OutputFault words old mid errors faults did line = (mid.streams.errors, line, took_errors outcome.OutputFault words old mid did)
ends_with_line outcome.ErrorsFault words old mid errors faults did line = tt
ends_with_line outcome.FilesFault words old mid errors faults did line = (mid.streams.errors, line, took_errors outcome.FilesFault words old mid did)
ends_with_line outcome.NoMemory words old mid errors faults did line = (mid.streams.errors, line, took_errors outcome.NoMemory words old mid did)

unchanged : (result : Outcome) (words : List (List ℕ)) (old mid : World) (errors : Option (List ℕ)) (faults : ℕ) → Performs result words old mid → errors ≡ append_known mid.streams.errors (line_of result) → Unchanged words old (told mid errors faults) result
unchanged result words old mid errors faults (inl misused) line =
    let usage : Outcome = outcome.Refused refusal.Usage in
    subst (λ (o : Outcome). Unchanged words old (told mid errors faults) o) (sym misused.is)
    (wrote_its_line usage old mid errors faults misused.untouched (line ∙ ap (λ (o : Outcome). append_known mid.streams.errors (line_of o)) misused.is))
unchanged result words old mid errors faults (inr (inl went)) line = go.unchanged result words old mid errors faults went line
unchanged result words old mid errors faults (inr (inr (inl ran))) line = run.unchanged result words old mid errors faults ran line
unchanged result words old mid errors faults (inr (inr (inr (inl out)))) line = subst (λ (o : Outcome). Unchanged words old (told mid errors faults) o) (sym out.is) (inl (wrote_its_line outcome.NoMemory old mid errors faults out.untouched (line ∙ ap (λ (o : Outcome). append_known mid.streams.errors (line_of o)) out.is)))
unchanged result words old mid errors faults (inr (inr (inr (inr (inl shown))))) line = text.unchanged result words shown.text old mid errors faults shown.shown
unchanged result words old mid errors faults (inr (inr (inr (inr (inr meant))))) line = mean.unchanged result words old mid errors faults meant line

files_after : (result : Outcome) (words : List (List ℕ)) (old mid : World) (errors : Option (List ℕ)) (faults : ℕ) → Performs result words old mid → FilesAfter words old (told mid errors faults)
files_after result words old mid errors faults (inl misused) = inl misused.untouched.folder
files_after result words old mid errors faults (inr (inl went)) = go.files_after result words old mid errors faults went
files_after result words old mid errors faults (inr (inr (inl ran))) = inl (run.folder_kept result words old mid ran)
files_after result words old mid errors faults (inr (inr (inr (inl out)))) = inl out.untouched.folder
files_after result words old mid errors faults (inr (inr (inr (inr (inl shown))))) = inl shown.folder
files_after result words old mid errors faults (inr (inr (inr (inr (inr meant))))) = inl (mean.folder_kept result words old mid meant)

misuses : (inner result : Outcome) (old mid : World) (errors : Option (List ℕ)) (faults : ℕ) → (inner ≡ outcome.Refused refusal.Usage) ⊎ (inner ≡ outcome.NoMemory) → IsUntouched old mid
    → AfterLine result inner mid.streams.errors errors → Misuses old (told mid errors faults) result
misuses inner result old mid errors faults is untouched line = record {
  inner = inner;
  is = is;
  line = subst (λ (e : Option (List ℕ)). AfterLine result inner e errors) (ap (λ (o : Outside). o.errors) untouched.streams) line;
  folder = untouched.folder;
  input = ap (λ (o : Outside). o.input) untouched.streams;
  output = ap (λ (o : Outside). o.output) untouched.streams;
}

-- what comes of words that ask for nothing, with the line after it or a prefix of the line
misused-so : (inner result : Outcome) (words : List (List ℕ)) (old mid : World) (errors : Option (List ℕ)) (faults : ℕ) → Performs inner words old mid → AfterLine result inner mid.streams.errors errors → NamesNone words → Misuses old (told mid errors faults) result
misused-so inner result words old mid errors faults (inl misused) line none = misuses inner result old mid errors faults (inl misused.is) misused.untouched line
misused-so inner result words old mid errors faults (inr (inl went)) line none = absurd (none.go went.name went.options went.asked)
misused-so inner result words old mid errors faults (inr (inr (inl ran))) line none = absurd (none.run ran.name ran.options ran.asked)
misused-so inner result words old mid errors faults (inr (inr (inr (inl out)))) line none = misuses inner result old mid errors faults (inr out.is) out.untouched line
misused-so inner result words old mid errors faults (inr (inr (inr (inr (inl shown))))) line none = absurd (none.text shown.text shown.asked)
misused-so inner result words old mid errors faults (inr (inr (inr (inr (inr meant))))) line none = absurd (none.mean meant.name meant.turns meant.asked)

causes : (result : Outcome) (words : List (List ℕ)) (old mid : World) (errors : Option (List ℕ)) (faults : ℕ) → Performs result words old mid → errors ≡ append_known mid.streams.errors (line_of result) → Refuses words old (told mid errors faults) result
causes result words old mid errors faults (inl misused) line = record {
  usage = misused-so result result words old mid errors faults (inl misused) (inl (refl, line));
  missing = λ name options asked lacks. absurd (misused.none.go name options asked);
  unfound = λ name options asked lacking. absurd (misused.none.go name options asked);
  absent = λ name options asked lacks. absurd (misused.none.run name options asked);
  unopened = λ name options error asked has why. absurd (misused.none.run name options asked);
}
causes result words old mid errors faults (inr (inl went)) line = go.causes result words old mid errors faults went
causes result words old mid errors faults (inr (inr (inl ran))) line = run.causes result words old mid errors faults ran
causes result words old mid errors faults (inr (inr (inr (inl out)))) line = subst (λ (o : Outcome). Refuses words old (told mid errors faults) o) (sym out.is) (record {
  usage = λ none. misuses outcome.NoMemory outcome.NoMemory old mid errors faults (inr refl) out.untouched (inl (refl, line ∙ ap (λ (o : Outcome). append_known mid.streams.errors (line_of o)) out.is));
  missing = λ name options asked lacks. inr tt;
  unfound = λ name options asked lacking. inr tt;
  absent = λ name options asked lacks. inr tt;
  unopened = λ name options error asked has why. inr tt;
})
causes result words old mid errors faults (inr (inr (inr (inr (inl shown))))) line = record {
  usage = λ none. absurd (none.text shown.text shown.asked);
  missing = λ name options asked lacks. absurd (not_go words shown.text name options shown.asked asked);
  unfound = λ name options asked lacking. absurd (not_go words shown.text name options shown.asked asked);
  absent = λ name options asked lacks. absurd (not_run words shown.text name options shown.asked asked);
  unopened = λ name options error asked has why. absurd (not_run words shown.text name options shown.asked asked);
}
causes result words old mid errors faults (inr (inr (inr (inr (inr meant))))) line = record {
  usage = λ none. absurd (none.mean meant.name meant.turns meant.asked);
  missing = λ name options asked lacks. absurd (not_go_and_mean words name meant.name options meant.turns asked meant.asked);
  unfound = λ name options asked lacking. absurd (not_go_and_mean words name meant.name options meant.turns asked meant.asked);
  absent = λ name options asked lacks. absurd (not_run_and_mean words name meant.name options meant.turns asked meant.asked);
  unopened = λ name options error asked has why. absurd (not_run_and_mean words name meant.name options meant.turns asked meant.asked);
}

-- what was built and run, with the line after it or a prefix of the line
went-files : (inner result : Outcome) (words : List (List ℕ)) (old mid : World) (errors : Option (List ℕ)) (faults : ℕ) → Performs inner words old mid → AfterLine result inner mid.streams.errors errors → WentFiles words old (told mid errors faults) result
went-files inner result words old mid errors faults (inl misused) line = λ name options asked. absurd (misused.none.go name options asked)
went-files inner result words old mid errors faults (inr (inl did)) line = went.went inner result words old mid errors faults did line
went-files inner result words old mid errors faults (inr (inr (inl ran))) line = λ name options asked. absurd (not_both words name ran.name options ran.options asked ran.asked)
went-files inner result words old mid errors faults (inr (inr (inr (inl out)))) line = λ name options asked. went.ran_out old.folder inner result name options old mid errors faults out.is out.untouched line
went-files inner result words old mid errors faults (inr (inr (inr (inr (inl shown))))) line = λ name options asked. absurd (not_go words shown.text name options shown.asked asked)
went-files inner result words old mid errors faults (inr (inr (inr (inr (inr meant))))) line = λ name options asked. absurd (not_go_and_mean words name meant.name options meant.turns asked meant.asked)

went_with_line : (result : Outcome) (words : List (List ℕ)) (old mid : World) (errors : Option (List ℕ)) (faults : ℕ) → Performs result words old mid → errors ≡ append_known mid.streams.errors (line_of result) → WentFiles words old (told mid errors faults) result
went_with_line result words old mid errors faults did line = went-files result result words old mid errors faults did (inl (refl, line))

went_without_line : (inner : Outcome) (words : List (List ℕ)) (old mid : World) (errors : Option (List ℕ)) (faults : ℕ) → Performs inner words old mid → TakesPrefix mid.streams.errors errors (line_of inner) → WentFiles words old (told mid errors faults) outcome.ErrorsFault
went_without_line inner words old mid errors faults did front = went-files inner outcome.ErrorsFault words old mid errors faults did (inr (refl, front))

-- what was run, with the line after it or a prefix of the line
ran-files : (inner result : Outcome) (words : List (List ℕ)) (old mid : World) (errors : Option (List ℕ)) (faults : ℕ) → Performs inner words old mid → AfterLine result inner mid.streams.errors errors → RanFiles words old (told mid errors faults) result
ran-files inner result words old mid errors faults (inl misused) line = λ name options asked. absurd (misused.none.run name options asked)
ran-files inner result words old mid errors faults (inr (inl went)) line = λ name options asked. absurd (not_both words went.name name went.options options went.asked asked)
ran-files inner result words old mid errors faults (inr (inr (inl ran))) line = run.ran inner result words old mid errors faults ran line
ran-files inner result words old mid errors faults (inr (inr (inr (inl out)))) line = λ name options asked. run.ran_out old.folder inner result name options old mid errors faults out.is out.untouched.streams line
ran-files inner result words old mid errors faults (inr (inr (inr (inr (inl shown))))) line = λ name options asked. absurd (not_run words shown.text name options shown.asked asked)
ran-files inner result words old mid errors faults (inr (inr (inr (inr (inr meant))))) line = λ name options asked. absurd (not_run_and_mean words name meant.name options meant.turns asked meant.asked)

ran_with_line : (result : Outcome) (words : List (List ℕ)) (old mid : World) (errors : Option (List ℕ)) (faults : ℕ) → Performs result words old mid → errors ≡ append_known mid.streams.errors (line_of result) → RanFiles words old (told mid errors faults) result
ran_with_line result words old mid errors faults did line = ran-files result result words old mid errors faults did (inl (refl, line))

ran_without_line : (inner : Outcome) (words : List (List ℕ)) (old mid : World) (errors : Option (List ℕ)) (faults : ℕ) → Performs inner words old mid → TakesPrefix mid.streams.errors errors (line_of inner) → RanFiles words old (told mid errors faults) outcome.ErrorsFault
ran_without_line inner words old mid errors faults did front = ran-files inner outcome.ErrorsFault words old mid errors faults did (inr (refl, front))

-- what was shown of a meaning, with the line after it or a prefix of the line
means-files : (inner result : Outcome) (words : List (List ℕ)) (old mid : World) (errors : Option (List ℕ)) (faults : ℕ) → Performs inner words old mid → AfterLine result inner mid.streams.errors errors → MeantFiles words old (told mid errors faults) result
means-files inner result words old mid errors faults (inl misused) line = λ name turns asked. absurd (misused.none.mean name turns asked)
means-files inner result words old mid errors faults (inr (inl went)) line = λ name turns asked. absurd (not_go_and_mean words went.name name went.options turns went.asked asked)
means-files inner result words old mid errors faults (inr (inr (inl ran))) line = λ name turns asked. absurd (not_run_and_mean words ran.name name ran.options turns ran.asked asked)
means-files inner result words old mid errors faults (inr (inr (inr (inl out)))) line = λ name turns asked. mean.ran_out old.folder inner result name turns old mid errors faults out.is out.untouched.streams line
means-files inner result words old mid errors faults (inr (inr (inr (inr (inl shown))))) line = λ name turns asked. absurd (not_mean words shown.text name turns shown.asked asked)
means-files inner result words old mid errors faults (inr (inr (inr (inr (inr meant))))) line = mean.means inner result words old mid errors faults meant line

meant_with_line : (result : Outcome) (words : List (List ℕ)) (old mid : World) (errors : Option (List ℕ)) (faults : ℕ) → Performs result words old mid → errors ≡ append_known mid.streams.errors (line_of result) → MeantFiles words old (told mid errors faults) result
meant_with_line result words old mid errors faults did line = means-files result result words old mid errors faults did (inl (refl, line))

meant_without_line : (inner : Outcome) (words : List (List ℕ)) (old mid : World) (errors : Option (List ℕ)) (faults : ℕ) → Performs inner words old mid → TakesPrefix mid.streams.errors errors (line_of inner) → MeantFiles words old (told mid errors faults) outcome.ErrorsFault
meant_without_line inner words old mid errors faults did front = means-files inner outcome.ErrorsFault words old mid errors faults did (inr (refl, front))

line_failed : (inner : Outcome) (words : List (List ℕ)) (old mid : World) (errors : Option (List ℕ)) (faults : ℕ) → Performs inner words old mid → TakesPrefix mid.streams.errors errors (line_of inner)
    → old.streams.errors_faults ≤ mid.streams.errors_faults → HasRisen mid.streams.errors_faults faults → Refuses words old (told mid errors faults) outcome.ErrorsFault
line_failed inner words old mid errors faults did front counted rose =
    let all = go.still_rising old.streams.errors_faults mid.streams.errors_faults faults counted rose in
    record {
      usage = misused-so inner outcome.ErrorsFault words old mid errors faults did (inr (refl, front));
      missing = λ name options asked lacks. inr all;
      unfound = λ name options asked lacking. inr all;
      absent = λ name options asked lacks. inr all;
      unopened = λ name options error asked has why. inr all;
    }

complete_failed : (words : List (List ℕ)) (old new : World) (mid : ℕ) → old.streams.errors_faults ≤ mid → HasRisen mid new.streams.errors_faults → Complete words old new outcome.ErrorsFault
complete_failed words old new mid counted rose =
    record {
      of_go = go.complete_failed words old new mid counted rose;
      of_run = run.complete_failed words old new mid counted rose;
      of_mean = mean.complete_failed words old new mid counted rose;
    }

-- what a text's output took, with the line after it or a prefix of the line
tells-text : (inner result : Outcome) (words : List (List ℕ)) (old mid : World) (errors : Option (List ℕ)) (faults : ℕ) → Performs inner words old mid → AfterLine result inner mid.streams.errors errors → Tells words old (told mid errors faults) result
tells-text inner result words old mid errors faults (inl misused) line = λ t asked. absurd (misused.none.text t asked)
tells-text inner result words old mid errors faults (inr (inl went)) line = λ t asked. absurd (not_go words t went.name went.options asked went.asked)
tells-text inner result words old mid errors faults (inr (inr (inl ran))) line = λ t asked. absurd (not_run words t ran.name ran.options asked ran.asked)
tells-text inner result words old mid errors faults (inr (inr (inr (inl out)))) line = λ t asked. absurd (out.none t asked)
tells-text inner result words old mid errors faults (inr (inr (inr (inr (inl shown))))) line = λ t asked. text.tells inner result words old mid errors faults t shown line asked
tells-text inner result words old mid errors faults (inr (inr (inr (inr (inr meant))))) line = λ t asked. absurd (not_mean words t meant.name meant.turns asked meant.asked)

tells_with_line : (result : Outcome) (words : List (List ℕ)) (old mid : World) (errors : Option (List ℕ)) (faults : ℕ) → Performs result words old mid → errors ≡ append_known mid.streams.errors (line_of result) → Tells words old (told mid errors faults) result
tells_with_line result words old mid errors faults did line = tells-text result result words old mid errors faults did (inl (refl, line))

tells_without_line : (inner : Outcome) (words : List (List ℕ)) (old mid : World) (errors : Option (List ℕ)) (faults : ℕ) → Performs inner words old mid → TakesPrefix mid.streams.errors errors (line_of inner) → Tells words old (told mid errors faults) outcome.ErrorsFault
tells_without_line inner words old mid errors faults did front = tells-text inner outcome.ErrorsFault words old mid errors faults did (inr (refl, front))

-- ---- all of it

no_code : (code : ℕ) → outcome.ErrorsFault ≡ outcome.Program code → ⊥
no_code code is = cc

-- the line was written
pub with_line : (result : Outcome) (words : List (List ℕ)) (old mid : World) (errors : Option (List ℕ)) (faults : ℕ) → Performs result words old mid → errors ≡ append_known mid.streams.errors (line_of result)
    → mid.streams.errors_faults ≤ faults → Promises words old (told mid errors faults) result
with_line result words old mid errors faults did line counted = record {
  headline = headline result words old mid errors faults did;
  written = written result words old mid errors faults did line;
  complete = complete result words old mid errors faults did counted;
  prefixes = prefixes result words old mid errors faults did;
  files = files_after result words old mid errors faults did;
  faults = fault result words old mid errors faults did counted;
  refused = refused result words old mid did;
  refuses = causes result words old mid errors faults did line;
  unchanged = unchanged result words old mid errors faults did line;
  ran = ran_with_line result words old mid errors faults did line;
  went = went_with_line result words old mid errors faults did line;
  meant = meant_with_line result words old mid errors faults did line;
  told = tells_with_line result words old mid errors faults did line;
  line = ends_with_line result words old mid errors faults did line;
}

-- the errors failed, having taken a prefix of it
pub without_line : (inner : Outcome) (words : List (List ℕ)) (old mid : World) (errors : Option (List ℕ)) (faults : ℕ) → Performs inner words old mid → TakesPrefix mid.streams.errors errors (line_of inner)
    → old.streams.errors_faults ≤ mid.streams.errors_faults → HasRisen mid.streams.errors_faults faults → Promises words old (told mid errors faults) outcome.ErrorsFault
without_line inner words old mid errors faults did front counted rose = record {
  headline = λ name options asked has. absurd has;
  written = λ name options code asked is. absurd (no_code code is);
  complete = complete_failed words old (told mid errors faults) mid.streams.errors_faults counted rose;
  prefixes = prefixes inner words old mid errors faults did;
  files = files_after inner words old mid errors faults did;
  faults = go.still_rising old.streams.errors_faults mid.streams.errors_faults faults counted rose;
  refused = tt;
  refuses = line_failed inner words old mid errors faults did front counted rose;
  unchanged = tt;
  ran = ran_without_line inner words old mid errors faults did front;
  went = went_without_line inner words old mid errors faults did front;
  meant = meant_without_line inner words old mid errors faults did front;
  told = tells_without_line inner words old mid errors faults did front;
  line = tt;
}
