-- Programs that were compiled, as they are opened, written and run.
use Rattle.std.proofs.Common.{◌≡◌, ◌≤◌, inl, inr, refl, ℕ, List, Option, Some, None, sym, ap, ◌∙◌, subst}
use Rattle.std.specs.Prelude.{IfSome}
use Rattle.std.specs.Option.{option_or}
use Rattle.tp_outside.specs.declared.faults.WriteError.{WriteError}
use Rattle.tp_outside.specs.declared.faults.WriteError.TheVariants as write
use Rattle.tp_outside.specs.Faults.{HasRisen}
use Rattle.tp_outside.specs.Folder.{Folder, with_file, bytes_of}
use Rattle.tp_outside.proofs.FolderLaws.{with_file-same}
use Rattle.cpu_8086.specs.State.{State}
use Rattle.front_end.specs.Untyped.{IsRefusing}
use Rattle.back_end.specs.declared.files.ProgramFiles.{ProgramFiles}
use Rattle.dos_runner.specs.declared.runner.RunEnd.{RunEnd}
use Rattle.dos_runner.specs.Outside.{Outside}
use Rattle.dos_runner.specs.declared.opened_program.error.OpenError.{OpenError}
use Rattle.dos_runner.specs.declared.opened_program.error.OpenError.TheVariants as errors
use Rattle.dos_runner.specs.opened_program.Opening.{IsRefused}
use Rattle.dos_runner.specs.declared.overlay_runner.runner.Runner.{Runner}
use Rattle.dos_runner.specs.overlay_runner.Runner.{Begins, with_retry, RunsOn}
use Rattle.dos_runner.proofs.Composition.{risen_later}
use Rattle.front_end.specs.declared.outcomes.refusal.Refusal.{Refusal}
use Rattle.front_end.specs.declared.outcomes.refusal.Refusal.TheVariants as refusal
use Rattle.front_end.specs.declared.outcomes.outcome.Outcome.{Outcome}
use Rattle.front_end.specs.declared.outcomes.outcome.Outcome.TheVariants as outcome
use Rattle.command_line.specs.declared.command.RunOptions.{RunOptions}
use Rattle.commands.specs.declared.names.FileKind.TheVariants.{Overlays}
use Rattle.commands.specs.Compiled.{IsCompiledFrom, with_files, with_known_files, IsFront, without_fault, not_written, IsNotOpened, RanCompiled, IsWriteFailure}
use Rattle.commands.specs.Files.{file_of}
use Rattle.commands.specs.Go.{IsNotBuilt, IsNotGone, GoDid}
use Rattle.commands.specs.declared.go.Prepared.{Prepared}
use Rattle.commands.specs.declared.go.Prepared.TheVariants as prepared
use Rattle.commands.specs.Prepared.{IsLoaded, IsReady, IsPrepared, IsIdle}
use Rattle.commands.specs.Run.{refused_as, IsOfRun, OpensNot, BeginsNamed, limit_of, retry_of, RunsFrom}
use Rattle.commands.specs.World.{World}
use Rattle.commands.proofs.FolderLaws.{executable_there, overlays_there}
use Rattle.commands.proofs.RanLaws.{ran_from}

-- ---- opening in memory

pub put_there : (old new : Folder) (name given bytes : List ℕ) → new ≡ with_file old given bytes → given ≡ name → new name ≡ Some bytes
put_there old new name given bytes is names = ap (λ (f : Folder). f name) is ∙ ap (λ (g : List ℕ). with_file old g bytes name) names ∙ with_file-same old name bytes

pub refused_too : (bytes name : List ℕ) (held : Option (List ℕ)) (buffer : Option ℕ) (error : OpenError) → IsRefused bytes name held buffer error → IsRefused bytes name held buffer (without_fault error)
refused_too bytes name held buffer errors.FilesFault refused = tt
refused_too bytes name held buffer other refused = refused

pub never_a_fault : (error : OpenError) → without_fault error ≡ errors.FilesFault → ⊥
never_a_fault errors.FilesFault is = absurd cc
never_a_fault errors.NoMemory is = absurd cc
never_a_fault (errors.NotExecutable cause) is = absurd cc
never_a_fault (errors.MissingFile file) is = absurd cc
never_a_fault (errors.OverlayFileDamaged at) is = absurd cc
never_a_fault (errors.OverlayMismatch overlay) is = absurd cc
never_a_fault (errors.BufferTooSmall need have) is = absurd cc
never_a_fault (errors.MemoryTooSmall need) is = absurd cc

-- ---- opening

module _ (known : Option Folder) (name given shown : List ℕ) (files : ProgramFiles) (buffer : Option ℕ) (texts : shown ≡ files.executable) (names : given ≡ file_of name Overlays) where
  pub begins_named : (runner : Runner) → IfSome known (λ held. Begins shown given (option_or files.overlays (held given)) buffer runner) → IfSome known (λ held. BeginsNamed (with_files held name files) name buffer runner)
  begins_named runner begins = by known begins
    where
      by : (folder : Option Folder) → IfSome folder (λ held. Begins shown given (option_or files.overlays (held given)) buffer runner) → IfSome folder (λ held. BeginsNamed (with_files held name files) name buffer runner)
      by None begins = tt
      by (Some held) begins =
          let text = subst (λ (t : List ℕ). Begins t given (option_or files.overlays (held given)) buffer runner) texts begins in
          let named = subst (λ (n : List ℕ). Begins files.executable n (option_or files.overlays (held n)) buffer runner) names text in
          let there = subst (λ (o : Option (List ℕ)). Begins files.executable (file_of name Overlays) o buffer runner) (sym (overlays_there held name files)) named in
          record { bytes = files.executable; there = executable_there held name files; begins = there }

  opens_not : (r : Refusal) (error : OpenError) → outcome.Refused r ≡ refused_as error → IfSome known (λ held. IsRefused shown given (option_or files.overlays (held given)) buffer error)
      → IfSome known (λ held. OpensNot (with_files held name files) r name buffer)
  opens_not r error is refused = by known refused
    where
      by : (folder : Option Folder) → IfSome folder (λ held. IsRefused shown given (option_or files.overlays (held given)) buffer error) → IfSome folder (λ held. OpensNot (with_files held name files) r name buffer)
      by None refused = tt
      by (Some held) refused =
          let text = subst (λ (t : List ℕ). IsRefused t given (option_or files.overlays (held given)) buffer error) texts refused in
          let named = subst (λ (n : List ℕ). IsRefused files.executable n (option_or files.overlays (held n)) buffer error) names text in
          let cause = subst (λ (o : Option (List ℕ)). IsRefused files.executable (file_of name Overlays) o buffer error) (sym (overlays_there held name files)) named in
          record { bytes = files.executable; there = executable_there held name files; error = error; is = is; cause = cause }

  module _ (old new : ℕ) where
    abbrev Why : OpenError → Type 0
    Why error = IfSome known (λ held. IsRefused shown given (option_or files.overlays (held given)) buffer error)

    not_opened : (error : OpenError) → Why error → (error ≡ errors.FilesFault → HasRisen old new) → IsNotOpened (refused_as error) name files buffer known old new
    not_opened (errors.NotExecutable cause) why counted = (tt, opens_not (refusal.NotExecutable cause) (errors.NotExecutable cause) refl why)
    not_opened (errors.MissingFile file) why counted = (tt, opens_not (refusal.MissingFile file) (errors.MissingFile file) refl why)
    not_opened (errors.OverlayFileDamaged at) why counted = (tt, opens_not (refusal.OverlayFileDamaged at) (errors.OverlayFileDamaged at) refl why)
    not_opened (errors.OverlayMismatch overlay) why counted = (tt, opens_not (refusal.OverlayMismatch overlay) (errors.OverlayMismatch overlay) refl why)
    not_opened (errors.BufferTooSmall need have) why counted = (tt, opens_not (refusal.BufferTooSmall need have) (errors.BufferTooSmall need have) refl why)
    not_opened (errors.MemoryTooSmall need) why counted = (tt, opens_not (refusal.MemoryTooSmall need) (errors.MemoryTooSmall need) refl why)
    not_opened errors.FilesFault why counted = counted refl
    not_opened errors.NoMemory why counted = tt

    pub not_opened_so : (result : Outcome) (error : OpenError) → result ≡ refused_as error → Why error → (error ≡ errors.FilesFault → HasRisen old new) → IsNotOpened result name files buffer known old new
    not_opened_so result error is why counted = subst (λ (o : Outcome). IsNotOpened o name files buffer known old new) (sym is) (not_opened error why counted)

-- ---- what was opened

pub ready_by : (known now_known : Option Folder) (name : List ℕ) (files : ProgramFiles) (buffer : Option ℕ) (runner : Runner) → now_known ≡ known → IfSome known (λ held. IsCompiledFrom held name files)
    → IfSome now_known (λ held. BeginsNamed (with_files held name files) name buffer runner) → IfSome known (λ held. IsReady held name buffer files runner)
ready_by None now_known name files buffer runner same compiled begins = tt
ready_by (Some held) now_known name files buffer runner same compiled begins = record {
  compiled = compiled;
  begins = subst (λ (folder : Option Folder). IfSome folder (λ held. BeginsNamed (with_files held name files) name buffer runner)) same begins;
}

refuses : (r : Refusal) → IsOfRun r → IsRefusing (outcome.Refused r)
refuses refusal.Usage is = absurd is
refuses r is = tt

would_not_open : (known : Option Folder) (name : List ℕ) (files : ProgramFiles) (buffer : Option ℕ) (r : Refusal) → IfSome known (λ held. IsCompiledFrom held name files)
    → IfSome known (λ held. OpensNot (with_files held name files) r name buffer) → IfSome known (λ held. IsNotBuilt held name buffer r)
would_not_open None name files buffer r compiled why = tt
would_not_open (Some held) name files buffer r compiled why = inr (inr (inr (record { files = files; compiled = compiled; why = why })))

not_gone : (result : Outcome) (known : Option Folder) (name : List ℕ) (files : ProgramFiles) (buffer : Option ℕ) (old mid new : ℕ) → IfSome known (λ held. IsCompiledFrom held name files) → old ≤ mid
    → IsNotOpened result name files buffer known mid new → IsNotGone result name buffer known old new
not_gone (outcome.Refused r) known name files buffer old mid new compiled counted why = (refuses r why.0, would_not_open known name files buffer r compiled why.1)
not_gone outcome.FilesFault known name files buffer old mid new compiled counted why = risen_later old mid new counted why
not_gone outcome.NoMemory known name files buffer old mid new compiled counted why = tt
not_gone other known name files buffer old mid new compiled counted why = absurd why

pub not_gone_so : (result : Outcome) (known now_known : Option Folder) (name : List ℕ) (files : ProgramFiles) (buffer : Option ℕ) (old mid new : ℕ) → now_known ≡ known → IfSome known (λ held. IsCompiledFrom held name files) → old ≤ mid
    → IsNotOpened result name files buffer now_known mid new → IsNotGone result name buffer known old new
not_gone_so result known now_known name files buffer old mid new same compiled counted why =
    not_gone result known name files buffer old mid new compiled counted (subst (λ (folder : Option Folder). IsNotOpened result name files buffer folder mid new) same why)

-- ---- what was prepared

pub literal_loaded : (known : Option Folder) (name : List ℕ) (buffer : Option ℕ) (one : Prepared) (bytes : List ℕ) (machine : State) → one ≡ prepared.Literal bytes machine → IfSome known (λ held. IsPrepared held name buffer one)
    → IfSome known (λ held. IsLoaded held name buffer bytes machine)
literal_loaded None name buffer one bytes machine is prepares = tt
literal_loaded (Some held) name buffer one bytes machine is prepares = subst (IsPrepared held name buffer) is prepares

pub compiled_ready : (known : Option Folder) (name : List ℕ) (buffer : Option ℕ) (one : Prepared) (files : ProgramFiles) (runner : Runner) → one ≡ prepared.Compiled files runner → IfSome known (λ held. IsPrepared held name buffer one)
    → IfSome known (λ held. IsReady held name buffer files runner)
compiled_ready None name buffer one files runner is prepares = tt
compiled_ready (Some held) name buffer one files runner is prepares = subst (IsPrepared held name buffer) is prepares

pub compiled_idle : (one : Prepared) (files : ProgramFiles) (runner : Runner) → one ≡ prepared.Compiled files runner → IsIdle one → runner.end ≡ None
compiled_idle one files runner is idle = subst IsIdle is idle

-- ---- what was written

pub ready_compiled : (known : Option Folder) (name : List ℕ) (files : ProgramFiles) (buffer : Option ℕ) (runner : Runner) → IfSome known (λ held. IsReady held name buffer files runner) → IfSome known (λ held. IsCompiledFrom held name files)
ready_compiled None name files buffer runner is = tt
ready_compiled (Some held) name files buffer runner is = is.compiled

unwritten : (error : WriteError) (name : List ℕ) (buffer : Option ℕ) (known : Option Folder) (old new : ℕ) → (error ≡ write.Failed → HasRisen old new) → IsNotGone (not_written error) name buffer known old new
unwritten write.Failed name buffer known old new counted = counted refl
unwritten write.NoMemory name buffer known old new counted = tt

pub not_written_so : (result : Outcome) (error : WriteError) (name : List ℕ) (buffer : Option ℕ) (known : Option Folder) (old new : ℕ) → result ≡ not_written error → (error ≡ write.Failed → HasRisen old new)
    → IsNotGone result name buffer known old new
not_written_so result error name buffer known old new is counted = subst (λ (o : Outcome). IsNotGone o name buffer known old new) (sym is) (unwritten error name buffer known old new counted)

fails_so : (error : WriteError) (old new : ℕ) → (error ≡ write.Failed → HasRisen old new) → IsWriteFailure (not_written error) old new
fails_so write.Failed old new counted = counted refl
fails_so write.NoMemory old new counted = tt

-- not all was written that was due
pub left_front : (result : Outcome) (error : WriteError) (name : List ℕ) (files : ProgramFiles) (options : RunOptions) (old new : World) → result ≡ not_written error → (error ≡ write.Failed → HasRisen old.files_faults new.files_faults)
    → IfSome old.folder (λ held. IsCompiledFrom held name files) → IsFront old.folder new.folder name files → new.streams ≡ old.streams → GoDid result name options old new
left_front result error name files options old new is counted compiled (inl same) streams = inl (record {
  reason = not_written_so result error name options.buffer old.folder old.files_faults new.files_faults is counted;
  untouched = record { folder = same; streams = streams };
})
left_front result error name files options old new is counted compiled (inr first) streams = inr (inr (inl (record {
  files = files;
  compiled = compiled;
  reason = subst (λ (o : Outcome). IsWriteFailure o old.files_faults new.files_faults) (sym is) (fails_so error old.files_faults new.files_faults counted);
  first = first;
  streams = streams;
})))

-- ---- the run

pub ran_compiled : (known now_known : Option Folder) (end : RunEnd) (name : List ℕ) (files : ProgramFiles) (options : RunOptions) (opened first last : Runner) (retry limit : ℕ) (o o' : Outside) → now_known ≡ with_known_files known name files
    → first ≡ with_retry opened retry → retry ≡ retry_of options → limit ≡ limit_of options → IfSome known (λ held. IsReady held name options.buffer files opened)
    → IfSome now_known (λ held. RunsOn (bytes_of held first.course.ovr.name) end limit first last o o') → IfSome known (λ held. RanCompiled held end name files options o o')
ran_compiled None now_known end name files options opened first last retry limit o o' same first_is retry_is limit_is ready runs = tt
ran_compiled (Some held) now_known end name files options opened first last retry limit o o' same first_is retry_is limit_is ready runs = record {
  compiled = ready.compiled;
  run = ran_from (Some (with_files held name files)) now_known end name options opened first last retry limit o o' same first_is retry_is limit_is ready.begins runs;
}
