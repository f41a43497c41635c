-- From what `mean` does, and the last line, to what the top call promises.
use Rattle.std.proofs.Common.{◌≡◌, ◌⊎◌, inl, inr, ℕ, ◌≤◌, List, Option, Some, None, IfSome, refl, sym, ap, ◌∙◌, subst}
use Rattle.std.specs.Io.KnownBytes.{append_known}
use Rattle.tp_outside.specs.Faults.{HasRisen}
use Rattle.tp_outside.specs.Folder.{Folder}
use Rattle.dos_runner.specs.Outside.{Outside}
use Rattle.common_values.specs.behaviour.Seen.{Seen, Standing, Ended, Going, Undefined, Stopped}
use Rattle.typed_tree.specs.declared.units.Program.{Program}
use Rattle.tp_meaning.specs.Meaning.{mean}
use Rattle.tp_outside.specs.whole_input.Input.{HasMore}
use Rattle.source_graph.specs.declared.error.GatherError.TheVariants as gather
use Rattle.front_end.specs.declared.outcomes.refusal.Refusal.{Refusal}
use Rattle.front_end.specs.declared.outcomes.refusal.Refusal.TheVariants as refusal
use Rattle.front_end.specs.declared.outcomes.refusal.What.TheVariants as what
use Rattle.front_end.specs.declared.outcomes.outcome.Outcome.{Outcome}
use Rattle.front_end.specs.declared.outcomes.outcome.Outcome.TheVariants as outcome
use Rattle.front_end.specs.outcomes.Line.{line_of}
use Rattle.commands.specs.mean_program.Shown.{Stands, IsUnread, Writes, Shows}
use Rattle.front_end.specs.Typed.{IsProgramIn}
use Rattle.front_end.specs.Untyped.{IsDeclining}
use Rattle.checked_front_end.specs.interfaces_consistent.determinism.Folder.{IsExempt, FoundNone}
use Rattle.checked_front_end.specs.Formed.{AreFormed}
use Rattle.command_line.specs.Words.{IsMean}
use Rattle.commands.specs.Mean.{turns_of, sinks_of, ShowedMeaning, MeanDid}
use Rattle.commands.specs.Performs.{DidMean}
use Rattle.commands.specs.Texts.{IsTextOf}
use Rattle.commands.specs.Turbo.{IsFaultOrNoMemory, Faults, HasNoMeaning, StandsSo, IsMeanEnd, MeanComplete, MeanRefused, Unchanged, WroteItsLine, AfterLine, MeansFiles, MeantFiles}
use Rattle.commands.specs.World.{World}
use Rattle.checked_front_end.proofs.interfaces_consistent_proofs.determinism.Programs.{one_folder}
use Rattle.literal_form_laws.proofs.address_independence_proofs.congruence.Runs.{means_alike}
use Rattle.commands.proofs.HeldLaws.{shows_too}
use Rattle.commands.proofs.GoLaws.{still_risen, still_rising}
use Rattle.commands.proofs.RanLaws.{told}
use Rattle.command_line.proofs.LineLaws.{help_not, version_not}

pub not_mean : (words : List (List ℕ)) (text name : List ℕ) (turns : Option ℕ) → IsTextOf words text → IsMean words name turns → ⊥
not_mean words text name turns (inl help) mean = help_not words help.0 mean.fits
not_mean words text name turns (inr version) mean = version_not words version.0 mean.fits

-- ---- outcomes by how a meaning stands

-- neither a refusal, nor a fault, nor out of memory
abbrev IsEnd : Outcome → Type 0
IsEnd (outcome.Program code) = Unit {0}
IsEnd (outcome.Undefined act) = Unit {0}
IsEnd outcome.TurnLimit = Unit {0}
IsEnd other = ⊥

is_end : (standing : Standing) (result : Outcome) → Stands standing result → IsEnd result
is_end (Ended code) result is = subst IsEnd (sym is) tt
is_end Going result is = subst IsEnd (sym is) tt
is_end (Undefined act) result is = subst IsEnd (sym is) tt
is_end Stopped result is = absurd is

-- ---- faults

no_program_fault : (result : Outcome) (old mid : World) (errors : Option (List ℕ)) (faults : ℕ) → IsDeclining result → (result ≡ outcome.FilesFault → HasRisen old.files_faults mid.files_faults)
    → Faults old (told mid errors faults) result
no_program_fault (outcome.Refused r) old mid errors faults declines counted = tt
no_program_fault outcome.FilesFault old mid errors faults declines counted = counted refl
no_program_fault outcome.NoMemory old mid errors faults declines counted = tt
no_program_fault other old mid errors faults declines counted = absurd declines

end_fault : (result : Outcome) (old new : World) → IsEnd result → Faults old new result
end_fault (outcome.Program code) old new is = tt
end_fault (outcome.Undefined act) old new is = tt
end_fault outcome.TurnLimit old new is = tt
end_fault other old new is = absurd is

unread_fault : (result : Outcome) (input input' : Option (List ℕ)) (old mid : World) (errors : Option (List ℕ)) (faults : ℕ) → IsUnread input input' old.streams.input_faults mid.streams.input_faults result
    → Faults old (told mid errors faults) result
unread_fault (outcome.Refused (refusal.TooLarge what.Input number)) input input' old mid errors faults why = tt
unread_fault outcome.InputFault input input' old mid errors faults why = why
unread_fault outcome.NoMemory input input' old mid errors faults why = tt
unread_fault other input input' old mid errors faults why = absurd why

showed_fault : (program : Program) (turns : ℕ) (result : Outcome) (old mid : World) (errors : Option (List ℕ)) (faults : ℕ)
    → Shows program turns result old.streams.input mid.streams.input old.streams.input_faults mid.streams.input_faults (sinks_of old.streams) (sinks_of mid.streams)
    → mid.streams.errors_faults ≤ faults → Faults old (told mid errors faults) result
showed_fault program turns result old mid errors faults (inl means) rises = by means.writes
  where
    by : Writes (mean program means.bytes turns) result (sinks_of old.streams) (sinks_of mid.streams) → Faults old (told mid errors faults) result
    by (inl all) = end_fault result old (told mid errors faults) (is_end (mean program means.bytes turns).end result all.stands)
    by (inr (inl out)) = subst (λ (o : Outcome). Faults old (told mid errors faults) o) (sym out.is) out.rose
    by (inr (inr err)) = subst (λ (o : Outcome). Faults old (told mid errors faults) o) (sym err.is) (still_risen old.streams.errors_faults mid.streams.errors_faults faults err.rose rises)
showed_fault program turns result old mid errors faults (inr declines) rises = unread_fault result old.streams.input mid.streams.input old mid errors faults declines.cause

pub fault : (result : Outcome) (name : List ℕ) (turns : Option ℕ) (old mid : World) (errors : Option (List ℕ)) (faults : ℕ) → MeanDid result name turns old mid → mid.streams.errors_faults ≤ faults → Faults old (told mid errors faults) result
fault result name turns old mid errors faults (inl gave) rises = no_program_fault result old mid errors faults gave.declines gave.counted
fault result name turns old mid errors faults (inr showed) rises = showed_fault showed.program (turns_of turns) result old mid errors faults showed.shows rises

-- ---- refusals

abbrev IsRefusal : Outcome → Type 0
IsRefusal (outcome.Refused r) = Unit {0}
IsRefusal other = ⊥

end_refuses_not : (result : Outcome) → IsEnd result → IsRefusal result → ⊥
end_refuses_not (outcome.Refused r) ends is = ends
end_refuses_not other ends is = is

writes_refuses_not : (program : Program) (bytes : List ℕ) (turns : ℕ) (r : Refusal) (old mid : World) → Writes (mean program bytes turns) (outcome.Refused r) (sinks_of old.streams) (sinks_of mid.streams) → ⊥
writes_refuses_not program bytes turns r old mid (inl all) =
    end_refuses_not (outcome.Refused r) (is_end (mean program bytes turns).end (outcome.Refused r) all.stands) tt
writes_refuses_not program bytes turns r old mid (inr (inl out)) = let bad = out.is in cc
writes_refuses_not program bytes turns r old mid (inr (inr err)) = let bad = err.is in cc

usage_not : (name : List ℕ) (turns : Option ℕ) (old mid : World) → MeanDid (outcome.Refused refusal.Usage) name turns old mid → ⊥
usage_not name turns old mid (inl gave) = gave.declines
usage_not name turns old mid (inr showed) = by showed.shows
  where
    by : Shows showed.program (turns_of turns) (outcome.Refused refusal.Usage) old.streams.input mid.streams.input old.streams.input_faults mid.streams.input_faults (sinks_of old.streams) (sinks_of mid.streams) → ⊥
    by (inl means) = writes_refuses_not showed.program means.bytes (turns_of turns) refusal.Usage old mid means.writes
    by (inr declines) = declines.cause

-- a number of bytes that an input has, where it is too long
record IsLong (input input' : Option (List ℕ)) (r : Refusal) : Type 0 where
  pub number : ℕ
  pub large : r ≡ refusal.TooLarge what.Input number
  pub more : HasMore input input' number

long : (r : Refusal) (input input' : Option (List ℕ)) (faults faults' : ℕ) → IsUnread input input' faults faults' (outcome.Refused r) → IsLong input input' r
long (refusal.TooLarge what.Input number) input input' faults faults' why = record { number = number; large = refl; more = why }
long other input input' faults faults' why = absurd why

long_input : (folder : Option Folder) (r : Refusal) (name : List ℕ) (program : Program) (input input' : Option (List ℕ)) → IfSome folder (λ held. IsProgramIn held name program) → IsLong input input' r
    → IfSome folder (λ held. HasNoMeaning held name input r)
long_input None r name program input input' is l = tt
long_input (Some held) r name program input input' is l = inr (record { program = program; is = is; number = l.number; large = l.large; rest = input'; more = l.more })

no_program_told : (folder : Option Folder) (r : Refusal) (name : List ℕ) (input : Option (List ℕ)) → IfSome folder (λ held. FoundNone held name (outcome.Refused r)) → IfSome folder (λ held. HasNoMeaning held name input r)
no_program_told None r name input why = tt
no_program_told (Some held) r name input why = inl why

reason : (r : Refusal) (name : List ℕ) (turns : Option ℕ) (old mid : World) → MeanDid (outcome.Refused r) name turns old mid → IfSome old.folder (λ held. HasNoMeaning held name old.streams.input r)
reason r name turns old mid (inl gave) = no_program_told old.folder r name old.streams.input gave.reason
reason r name turns old mid (inr showed) = by showed.shows
  where
    by : Shows showed.program (turns_of turns) (outcome.Refused r) old.streams.input mid.streams.input old.streams.input_faults mid.streams.input_faults (sinks_of old.streams) (sinks_of mid.streams)
        → IfSome old.folder (λ held. HasNoMeaning held name old.streams.input r)
    by (inl means) = absurd (writes_refuses_not showed.program means.bytes (turns_of turns) r old mid means.writes)
    by (inr declines) = long_input old.folder r name showed.program old.streams.input mid.streams.input showed.is (long r old.streams.input mid.streams.input old.streams.input_faults mid.streams.input_faults declines.cause)

-- ---- how it ends

ended : (held : Folder) (name : List ℕ) (turns : Option ℕ) (input input' : Option (List ℕ)) (result end : Outcome) → result ≡ end → StandsSo held name turns result input input'
    → (StandsSo held name turns end input input' → IsMeanEnd held name turns end input input') → IsMeanEnd held name turns result input input'
ended held name turns input input' result end is so f =
    subst (λ (o : Outcome). IsMeanEnd held name turns o input input') (sym is) (f (subst (λ (o : Outcome). StandsSo held name turns o input input') is so))

-- how a meaning stands is neither a refusal nor a fault
end_so : (held : Folder) (name : List ℕ) (turns : Option ℕ) (input input' : Option (List ℕ)) (standing : Standing) (result : Outcome) → Stands standing result → StandsSo held name turns result input input'
    → IsMeanEnd held name turns result input input'
end_so held name turns input input' (Ended code) result is so = ended held name turns input input' result (outcome.Program code) is so (λ s. s)
end_so held name turns input input' Going result is so = ended held name turns input input' result outcome.TurnLimit is so (λ s. s)
end_so held name turns input input' (Undefined act) result is so = ended held name turns input input' result (outcome.Undefined act) is so (λ s. s)
end_so held name turns input input' Stopped result is so = absurd is

none_complete : (folder : Option Folder) (result : Outcome) (name : List ℕ) (turns : Option ℕ) (old mid : World) (errors : Option (List ℕ)) (faults : ℕ) → IfSome folder (λ held. FoundNone held name result) → IsDeclining result
    → (result ≡ outcome.FilesFault → HasRisen old.files_faults mid.files_faults)
    → IfSome folder (λ held. IsMeanEnd held name turns result old.streams.input mid.streams.input ⊎ IsFaultOrNoMemory result old (told mid errors faults))
none_complete None result name turns old mid errors faults why declines counted = tt
none_complete (Some held) (outcome.Refused r) name turns old mid errors faults why declines counted = inl (inl why)
none_complete (Some held) outcome.FilesFault name turns old mid errors faults why declines counted = inr (counted refl)
none_complete (Some held) outcome.NoMemory name turns old mid errors faults why declines counted = inr tt
none_complete (Some held) other name turns old mid errors faults why declines counted = absurd declines

unread_complete : (held : Folder) (result : Outcome) (name : List ℕ) (turns : Option ℕ) (program : Program) (old mid : World) (errors : Option (List ℕ)) (faults : ℕ) → IsProgramIn held name program
    → IsUnread old.streams.input mid.streams.input old.streams.input_faults mid.streams.input_faults result
    → IsMeanEnd held name turns result old.streams.input mid.streams.input ⊎ IsFaultOrNoMemory result old (told mid errors faults)
unread_complete held (outcome.Refused r) name turns program old mid errors faults is why =
    let l = long r old.streams.input mid.streams.input old.streams.input_faults mid.streams.input_faults why in
    inl (inr (record { program = program; is = is; number = l.number; large = l.large; rest = mid.streams.input; more = l.more }))
unread_complete held outcome.InputFault name turns program old mid errors faults is why = inr why
unread_complete held outcome.NoMemory name turns program old mid errors faults is why = inr tt
unread_complete held other name turns program old mid errors faults is why = absurd why

showed_complete : (folder : Option Folder) (result : Outcome) (name : List ℕ) (turns : Option ℕ) (program : Program) (old mid : World) (errors : Option (List ℕ)) (faults : ℕ) → IfSome folder (λ held. IsProgramIn held name program)
    → AreFormed program
    → Shows program (turns_of turns) result old.streams.input mid.streams.input old.streams.input_faults mid.streams.input_faults (sinks_of old.streams) (sinks_of mid.streams) → mid.streams.errors_faults ≤ faults
    → IfSome folder (λ held. IsMeanEnd held name turns result old.streams.input mid.streams.input ⊎ IsFaultOrNoMemory result old (told mid errors faults))
showed_complete None result name turns program old mid errors faults is formed shows rises = tt
showed_complete (Some held) result name turns program old mid errors faults is formed (inr declines) rises = unread_complete held result name turns program old mid errors faults is declines.cause
showed_complete (Some held) result name turns program old mid errors faults is formed (inl means) rises = by means.writes
  where
    new : World
    new = told mid errors faults

    input : Option (List ℕ)
    input = old.streams.input

    by : Writes (mean program means.bytes (turns_of turns)) result (sinks_of old.streams) (sinks_of mid.streams) → IsMeanEnd held name turns result input mid.streams.input ⊎ IsFaultOrNoMemory result old new
    by (inl all) =
        let so : StandsSo held name turns result input mid.streams.input =
        record {
          program = program;
          is = is;
          formed = formed;
          bytes = means.bytes;
          whole = means.whole;
          stands = λ one here. subst (λ (seen : Seen). Stands seen.end result) (means_alike program one (one_folder held name program one is here) means.bytes (turns_of turns)) all.stands;
        } in
        inl (end_so held name turns input mid.streams.input (mean program means.bytes (turns_of turns)).end result all.stands so)
    by (inr (inl out)) = inr (subst (λ (o : Outcome). IsFaultOrNoMemory o old new) (sym out.is) out.rose)
    by (inr (inr err)) = inr (subst (λ (o : Outcome). IsFaultOrNoMemory o old new) (sym err.is) (still_risen old.streams.errors_faults mid.streams.errors_faults faults err.rose rises))

pub complete : (result : Outcome) (words : List (List ℕ)) (old mid : World) (errors : Option (List ℕ)) (faults : ℕ) → DidMean result words old mid → mid.streams.errors_faults ≤ faults → MeanComplete words old (told mid errors faults) result
complete result words old mid errors faults meant rises = λ name turns asked. by name turns (meant.did name turns asked)
  where
    by : (name : List ℕ) (turns : Option ℕ) → MeanDid result name turns old mid
        → IfSome old.folder (λ held. IsMeanEnd held name turns result old.streams.input mid.streams.input ⊎ IsFaultOrNoMemory result old (told mid errors faults))
    by name turns (inl gave) = none_complete old.folder result name turns old mid errors faults gave.reason gave.declines gave.counted
    by name turns (inr showed) = showed_complete old.folder result name turns showed.program old mid errors faults showed.is showed.formed showed.shows rises

failing : (folder : Option Folder) (result : Outcome) (name : List ℕ) (turns : Option ℕ) (old new : World) → IsFaultOrNoMemory result old new
    → IfSome folder (λ held. IsMeanEnd held name turns result old.streams.input new.streams.input ⊎ IsFaultOrNoMemory result old new)
failing None result name turns old new fails = tt
failing (Some held) result name turns old new fails = inr fails

pub complete_failed : (words : List (List ℕ)) (old new : World) (mid : ℕ) → old.streams.errors_faults ≤ mid → HasRisen mid new.streams.errors_faults → MeanComplete words old new outcome.ErrorsFault
complete_failed words old new mid counted rose = λ name turns asked.
    failing old.folder outcome.ErrorsFault name turns old new (still_rising old.streams.errors_faults mid new.streams.errors_faults counted rose)

pub complete_out : (result : Outcome) (words : List (List ℕ)) (old new : World) → result ≡ outcome.NoMemory → MeanComplete words old new result
complete_out result words old new is = λ name turns asked. failing old.folder result name turns old new (subst (λ (o : Outcome). IsFaultOrNoMemory o old new) (sym is) tt)

pub refused : (r : Refusal) (words : List (List ℕ)) (old mid : World) → DidMean (outcome.Refused r) words old mid → MeanRefused words old r
refused refusal.Usage words old mid meant = λ name turns asked. usage_not name turns old mid (meant.did name turns asked)
refused r words old mid meant = λ name turns asked. reason r name turns old mid (meant.did name turns asked)

-- ---- what is left as it was

-- The folder and the sinks are as they were, or the outcome is neither a refusal nor out of memory, nor a fault of the files.
pub record IsQuiet (result : Outcome) (old mid : World) : Type 0 where
  pub folder : mid.folder ≡ old.folder
  pub output : mid.streams.output ≡ old.streams.output
  pub errors : mid.streams.errors ≡ old.streams.errors

quiet_line : (result : Outcome) (old mid : World) (errors : Option (List ℕ)) (faults : ℕ) → IsQuiet result old mid → errors ≡ append_known mid.streams.errors (line_of result) → WroteItsLine old (told mid errors faults) result
quiet_line result old mid errors faults quiet line = record {
  folder = quiet.folder;
  output = quiet.output;
  errors = line ∙ ap (λ (e : Option (List ℕ)). append_known e (line_of result)) quiet.errors;
}

quiet_unchanged : (result : Outcome) (words : List (List ℕ)) (old mid : World) (errors : Option (List ℕ)) (faults : ℕ) → IsQuiet result old mid → errors ≡ append_known mid.streams.errors (line_of result)
    → Unchanged words old (told mid errors faults) result
quiet_unchanged (outcome.Refused r) words old mid errors faults quiet line = quiet_line (outcome.Refused r) old mid errors faults quiet line
quiet_unchanged outcome.FilesFault words old mid errors faults quiet line = λ name options asked. inl (quiet_line outcome.FilesFault old mid errors faults quiet line)
quiet_unchanged outcome.NoMemory words old mid errors faults quiet line = inl (quiet_line outcome.NoMemory old mid errors faults quiet line)
quiet_unchanged other words old mid errors faults quiet line = tt

end_unchanged : (result : Outcome) (words : List (List ℕ)) (old new : World) → IsEnd result → Unchanged words old new result
end_unchanged (outcome.Program code) words old new is = tt
end_unchanged (outcome.Undefined act) words old new is = tt
end_unchanged outcome.TurnLimit words old new is = tt
end_unchanged other words old new is = absurd is

wrote_unchanged : (program : Program) (bytes : List ℕ) (turns : ℕ) (result : Outcome) (words : List (List ℕ)) (old mid : World) (errors : Option (List ℕ)) (faults : ℕ)
    → Writes (mean program bytes turns) result (sinks_of old.streams) (sinks_of mid.streams) → Unchanged words old (told mid errors faults) result
wrote_unchanged program bytes turns result words old mid errors faults (inl all) =
    end_unchanged result words old (told mid errors faults) (is_end (mean program bytes turns).end result all.stands)
wrote_unchanged program bytes turns result words old mid errors faults (inr (inl out)) = subst (λ (o : Outcome). Unchanged words old (told mid errors faults) o) (sym out.is) tt
wrote_unchanged program bytes turns result words old mid errors faults (inr (inr err)) = subst (λ (o : Outcome). Unchanged words old (told mid errors faults) o) (sym err.is) tt

pub unchanged : (result : Outcome) (words : List (List ℕ)) (old mid : World) (errors : Option (List ℕ)) (faults : ℕ) → DidMean result words old mid → errors ≡ append_known mid.streams.errors (line_of result)
    → Unchanged words old (told mid errors faults) result
unchanged result words old mid errors faults meant line = by (meant.did meant.name meant.turns meant.asked)
  where
    shown : (s : ShowedMeaning result meant.name meant.turns old mid)
        → Shows s.program (turns_of meant.turns) result old.streams.input mid.streams.input old.streams.input_faults mid.streams.input_faults (sinks_of old.streams) (sinks_of mid.streams)
        → Unchanged words old (told mid errors faults) result
    shown s (inl means) = wrote_unchanged s.program means.bytes (turns_of meant.turns) result words old mid errors faults means.writes
    shown s (inr declines) = quiet_unchanged result words old mid errors faults (record { folder = s.folder; output = declines.output; errors = declines.errors }) line

    by : MeanDid result meant.name meant.turns old mid → Unchanged words old (told mid errors faults) result
    by (inl gave) = quiet_unchanged result words old mid errors faults (record {
      folder = gave.untouched.folder;
      output = ap (λ (o : Outside). o.output) gave.untouched.streams;
      errors = ap (λ (o : Outside). o.errors) gave.untouched.streams;
    }) line
    by (inr showed) = shown showed showed.shows

pub folder_kept : (result : Outcome) (words : List (List ℕ)) (old mid : World) → DidMean result words old mid → mid.folder ≡ old.folder
folder_kept result words old mid meant = by (meant.did meant.name meant.turns meant.asked)
  where
    by : MeanDid result meant.name meant.turns old mid → mid.folder ≡ old.folder
    by (inl gave) = gave.untouched.folder
    by (inr showed) = showed.folder

-- ---- what was shown

no_program_line : (folder : Option Folder) (inner result : Outcome) (name : List ℕ) (turns : Option ℕ) (old mid : World) (errors : Option (List ℕ)) (faults : ℕ) → AfterLine result inner mid.streams.errors errors
    → mid.streams ≡ old.streams → IfSome folder (λ held. FoundNone held name inner) → IfSome folder (λ held. MeansFiles held result name turns old (told mid errors faults))
no_program_line None inner result name turns old mid errors faults line untouched why = tt
no_program_line (Some held) inner result name turns old mid errors faults line untouched why = record {
  inner = inner;
  before = mid.streams.errors;
  before_faults = mid.streams.errors_faults;
  did = inl (why, untouched);
  line = line;
}

showed_line : (folder : Option Folder) (inner result : Outcome) (name : List ℕ) (turns : Option ℕ) (program : Program) (old mid : World) (errors : Option (List ℕ)) (faults : ℕ) → AfterLine result inner mid.streams.errors errors
    → IfSome folder (λ held. IsProgramIn held name program) → AreFormed program
    → Shows program (turns_of turns) inner old.streams.input mid.streams.input old.streams.input_faults mid.streams.input_faults (sinks_of old.streams) (sinks_of mid.streams)
    → IfSome folder (λ held. MeansFiles held result name turns old (told mid errors faults))
showed_line None inner result name turns program old mid errors faults line is formed shows = tt
showed_line (Some held) inner result name turns program old mid errors faults line is formed shows = record {
  inner = inner;
  before = mid.streams.errors;
  before_faults = mid.streams.errors_faults;
  did = inr (
    program,
    is,
    formed,
    λ one here. shows_too program one (turns_of turns) inner old.streams.input mid.streams.input old.streams.input_faults mid.streams.input_faults (sinks_of old.streams) (sinks_of mid.streams)
        (one_folder held name program one is here) shows,
  );
  line = line;
}

pub ran_out : (folder : Option Folder) (inner result : Outcome) (name : List ℕ) (turns : Option ℕ) (old mid : World) (errors : Option (List ℕ)) (faults : ℕ) → inner ≡ outcome.NoMemory → mid.streams ≡ old.streams → AfterLine result inner mid.streams.errors errors
    → IfSome folder (λ held. MeansFiles held result name turns old (told mid errors faults))
ran_out folder inner result name turns old mid errors faults is untouched line = no_program_line folder inner result name turns old mid errors faults line untouched (none folder)
  where
    none : (folder : Option Folder) → IfSome folder (λ held. FoundNone held name inner)
    none None = tt
    none (Some held) = record { why = inl (record { error = gather.NoMemory; cause = tt; is = is }); exempt = λ program here. subst IsExempt (sym is) tt }

pub means : (inner result : Outcome) (words : List (List ℕ)) (old mid : World) (errors : Option (List ℕ)) (faults : ℕ) → DidMean inner words old mid → AfterLine result inner mid.streams.errors errors
    → MeantFiles words old (told mid errors faults) result
means inner result words old mid errors faults meant line = λ name turns asked. by name turns (meant.did name turns asked)
  where
    by : (name : List ℕ) (turns : Option ℕ) → MeanDid inner name turns old mid → IfSome old.folder (λ held. MeansFiles held result name turns old (told mid errors faults))
    by name turns (inl gave) = no_program_line old.folder inner result name turns old mid errors faults line gave.untouched.streams gave.reason
    by name turns (inr showed) = showed_line old.folder inner result name turns showed.program old mid errors faults line showed.is showed.formed showed.shows
