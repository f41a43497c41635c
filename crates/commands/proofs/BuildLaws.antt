-- From what the parts of `go` answer to what it does.
use Rattle.std.proofs.Common.{◌≡◌, ◌⊎◌, ◌<◌, ◌≤◌, ℕ, List, [], length, Option, Some, None, Result, Ok, Err, IfOk, IfErr, refl, inl, inr, sym, ap, ◌∙◌, subst, arith}
use Rattle.std.specs.Prelude.{IfSome}
use Rattle.std.proofs.lemmas.Bool.{cases_order}
use Rattle.tp_outside.specs.Faults.{HasRisen}
use Rattle.tp_outside.specs.Folder.{Folder}
use Rattle.front_end.specs.declared.program.TypedSources.{TypedSources}
use Rattle.front_end.specs.Found.{IsFoundIn}
use Rattle.front_end.specs.Typed.{IsProgramIn}
use Rattle.front_end.specs.Untyped.{IsDeclining, IsNoProgram}
use Rattle.checked_front_end.specs.Formed.{AreFormed}
use Rattle.checked_front_end.proofs.interfaces_consistent_proofs.determinism.Programs.{one_folder, found_none}
use Rattle.cpu_8086.specs.State.{State}
use Rattle.typed_tree.specs.declared.units.Program.{Program}
use Rattle.tp_meaning.specs.Meaning.{mean}
use Rattle.literal_programs.specs.literal_code.Ends.{EndsWithin}
use Rattle.literal_programs.specs.literal_code.Size.{image_size}
use Rattle.literal_programs.specs.Literals.{IsLiteral}
use Rattle.literal_programs.specs.Agrees.{Agrees}
use Rattle.literal_programs.specs.Memory.{HasMemoryOf}
use Rattle.mz_file.specs.declared.executable.Exe.{Exe}
use Rattle.mz_file.specs.Format.{Denotes, exe_of}
use Rattle.mz_file.specs.Load.{loaded}
use Rattle.mz_file.specs.Spelling.{spelling}
use Rattle.back_end.specs.declared.error.BuildError.{BuildError}
use Rattle.back_end.specs.declared.error.BuildError.TheVariants as build
use Rattle.back_end.specs.declared.files.ProgramFiles.{ProgramFiles}
use Rattle.back_end.specs.Files.{AreFilesOf}
use Rattle.back_end.specs.Refused.{IsRefused}
use Rattle.dos_runner.specs.declared.runner.RunEnd.{RunEnd}
use Rattle.dos_runner.specs.declared.runner.RunEnd.TheVariants as ends
use Rattle.dos_runner.specs.Outside.{Outside, RunsTo}
use Rattle.dos_runner.proofs.Composition.{risen_later}
use Rattle.dos_runner.specs.declared.opened_program.error.OpenError.{OpenError}
use Rattle.dos_runner.specs.declared.opened_program.error.OpenError.TheVariants as errors
use Rattle.dos_runner.specs.opened_program.Opening.{IsOpened, IsRefused as IsUnopened, HasReason}
use Rattle.dos_runner.specs.plain_opening.Laws.{IsPlain, needed}
use Rattle.dos_runner.proofs.opened_program.ReasonLaws.{no_reason}
use Rattle.dos_runner.proofs.plain_opening.Openings.{large_refusal, plain_refusal}
use Rattle.overlay_manager.specs.Manager.{Manager}
use Rattle.dos_runner.specs.overlay_runner.Event.{Rises}
use Rattle.front_end.specs.declared.outcomes.refusal.Refusal.{Refusal}
use Rattle.front_end.specs.declared.outcomes.refusal.Refusal.TheVariants as refusal
use Rattle.front_end.specs.declared.outcomes.refusal.What.TheVariants as what
use Rattle.front_end.specs.declared.outcomes.outcome.Outcome.{Outcome}
use Rattle.front_end.specs.declared.outcomes.outcome.Outcome.TheVariants as outcome
use Rattle.command_line.specs.declared.command.RunOptions.{RunOptions}
use Rattle.commands.specs.declared.names.FileKind.TheVariants.{Overlays}
use Rattle.commands.specs.Files.{file_of}
use Rattle.commands.specs.Compiled.{HoldsOther, IsCompiledFrom, IsNotCompiled, not_compiled}
use Rattle.commands.specs.Go.{DoesSoon, IsBuiltFrom, IsNotBuilt, IsNotGone, RanBuilt}
use Rattle.commands.specs.declared.go.Built.{Built}
use Rattle.commands.specs.declared.go.Built.TheVariants as way
use Rattle.commands.specs.Prepared.{IsBuilt, IsLoaded}
use Rattle.commands.specs.Run.{refused_as, limit_of}
use Rattle.commands.proofs.HeldLaws.{found_in, literal_too, does_too}

-- ---- the executable

pub does_of : (program : Program) (exe : Exe) (bytes : List ℕ) → IsLiteral program → HasMemoryOf program exe → exe.block.stubs ≡ []
    → ((literal : IsLiteral program) → length exe.image ≡ image_size literal.statements) → ((bytes : List ℕ) → Denotes bytes exe → Agrees program bytes)
    → ((bytes input : List ℕ) (turns : ℕ) → Denotes bytes exe → EndsWithin 16389 bytes input (mean program input turns)) → bytes ≡ spelling exe → Denotes bytes exe → DoesSoon program bytes
does_of program exe bytes literal memory plain size agrees soon exact denotes = record {
  literal = literal;
  plain = subst (λ (e : Exe). e.block.stubs ≡ []) denotes.value plain;
  spelled = exact ∙ ap spelling denotes.value;
  size = subst (λ (e : Exe). length e.image ≡ image_size literal.statements) denotes.value (size literal);
  memory = subst (HasMemoryOf program) denotes.value memory;
  agrees = agrees bytes denotes;
  soon = λ input turns. soon bytes input turns denotes;
}

built_by : (held : Folder) (name bytes : List ℕ) (found : TypedSources) → IsFoundIn held name found → AreFormed found.program → DoesSoon found.program bytes → IsBuiltFrom held name bytes
built_by held name bytes found is formed does =
    let here = found_in held name found is in
    record { program = found.program; is = here; formed = formed; does = λ one there. does_too found.program one bytes (one_folder held name found.program one here there) does }

pub built_from : (known : Option Folder) (name bytes : List ℕ) (found : TypedSources) → IfSome known (λ held. IsFoundIn held name found) → AreFormed found.program → DoesSoon found.program bytes
    → IfSome known (λ held. IsBuiltFrom held name bytes)
built_from None name bytes found is formed does = tt
built_from (Some held) name bytes found is formed does = built_by held name bytes found is formed does

-- ---- the files of any other program

other_so : (held : Folder) (name : List ℕ) (found : TypedSources) → IsFoundIn held name found → (IsLiteral found.program → ⊥) → (one : Program) → IsProgramIn held name one → IsLiteral one → ⊥
other_so held name found is not one there literal = not (literal_too one found.program (one_folder held name one found.program there (found_in held name found is)) literal)

abbrev holds_other : (held : Folder) (name : List ℕ) (found : TypedSources) → IsFoundIn held name found → AreFormed found.program → (IsLiteral found.program → ⊥) → HoldsOther held name
holds_other held name found is formed not = record { program = found.program; is = found_in held name found is; formed = formed; other = other_so held name found is not }

pub compiled_from : (known : Option Folder) (name : List ℕ) (files : ProgramFiles) (found : TypedSources) → IfSome known (λ held. IsFoundIn held name found) → AreFormed found.program → (IsLiteral found.program → ⊥)
    → AreFilesOf found.program files → IfSome known (λ held. IsCompiledFrom held name files)
compiled_from None name files found is formed not made = tt
compiled_from (Some held) name files found is formed not made = record { holds = holds_other held name found is formed not; made = made }

cannot_compile : (known : Option Folder) (name : List ℕ) (buffer : Option ℕ) (r : Refusal) (found : TypedSources) → IfSome known (λ held. IsFoundIn held name found) → AreFormed found.program → (IsLiteral found.program → ⊥)
    → IsNotCompiled found.program (outcome.Refused r) → IfSome known (λ held. IsNotBuilt held name buffer r)
cannot_compile None name buffer r found is formed not why = tt
cannot_compile (Some held) name buffer r found is formed not why = inr (inr (inl (record { holds = holds_other held name found is formed not; why = why })))

-- A program that is not compiled is refused, or there was no memory.
pub not_compiled_so : (result : Outcome) (known : Option Folder) (name : List ℕ) (buffer : Option ℕ) (found : TypedSources) (old new : ℕ) → IfSome known (λ held. IsFoundIn held name found) → AreFormed found.program
    → (IsLiteral found.program → ⊥) → IsNotCompiled found.program result → IsNotGone result name buffer known old new
not_compiled_so result known name buffer found old new is formed not why = subst (λ (o : Outcome). IsNotGone o name buffer known old new) (sym why.is) (by why.error why.cause)
  where
    refused : (r : Refusal) (error : BuildError) → IsRefused found.program error → outcome.Refused r ≡ not_compiled error → IfSome known (λ held. IsNotBuilt held name buffer r)
    refused r error cause is_error = cannot_compile known name buffer r found is formed not (record { error = error; cause = cause; is = is_error })

    by : (error : BuildError) → IsRefused found.program error → IsNotGone (not_compiled error) name buffer known old new
    by (build.CodeTooLarge bytes) cause = (tt, refused (refusal.TooLarge what.Code bytes) (build.CodeTooLarge bytes) cause refl)
    by (build.NotOverlayable unit) cause = (tt, refused (refusal.NotOverlayable unit) (build.NotOverlayable unit) cause refl)
    by (build.DataTooLarge bytes) cause = (tt, refused (refusal.TooLarge what.Data bytes) (build.DataTooLarge bytes) cause refl)
    by (build.ImageTooLarge paragraphs) cause = (tt, refused (refusal.TooLarge what.Image paragraphs) (build.ImageTooLarge paragraphs) cause refl)
    by (build.TooManyRelocations count) cause = (tt, refused (refusal.TooLarge what.Relocations count) (build.TooManyRelocations count) cause refl)
    by build.NoMemory cause = tt

-- ---- what was built

pub literal_built : (known : Option Folder) (name : List ℕ) (one : Built) (bytes : List ℕ) → one ≡ way.Literal bytes → IfSome known (λ held. IsBuilt held name one) → IfSome known (λ held. IsBuiltFrom held name bytes)
literal_built None name one bytes is from = tt
literal_built (Some held) name one bytes is from = subst (IsBuilt held name) is from

pub compiled_built : (known : Option Folder) (name : List ℕ) (one : Built) (files : ProgramFiles) → one ≡ way.Compiled files → IfSome known (λ held. IsBuilt held name one) → IfSome known (λ held. IsCompiledFrom held name files)
compiled_built None name one files is from = tt
compiled_built (Some held) name one files is from = subst (IsBuilt held name) is from

-- ---- no program

no_program : (known : Option Folder) (name : List ℕ) (buffer : Option ℕ) (r : Refusal) → IfSome known (λ held. IsNoProgram held name (outcome.Refused r)) → IfSome known (λ held. IsNotBuilt held name buffer r)
no_program None name buffer r why = tt
no_program (Some held) name buffer r why = inl (found_none held name (outcome.Refused r) why)

pub not_found : (result : Outcome) (known : Option Folder) (name : List ℕ) (buffer : Option ℕ) (old new : ℕ) → IfSome known (λ held. IsNoProgram held name result) → IsDeclining result → (result ≡ outcome.FilesFault → HasRisen old new)
    → IsNotGone result name buffer known old new
not_found (outcome.Refused r) known name buffer old new why declines counted = (declines, no_program known name buffer r why)
not_found outcome.FilesFault known name buffer old new why declines counted = counted refl
not_found outcome.NoMemory known name buffer old new why declines counted = tt
not_found other known name buffer old new why declines counted = absurd declines

-- ---- opening

refusal_is : (a b : Refusal) → outcome.Refused a ≡ outcome.Refused b → a ≡ b
refusal_is a b same = cc

cannot : (known : Option Folder) (name bytes : List ℕ) (buffer : Option ℕ) (r : Refusal) (error : OpenError) → HasReason error → outcome.Refused r ≡ refused_as error → IfSome known (λ held. IsBuiltFrom held name bytes)
    → IfSome known (λ held. IsUnopened bytes (file_of name Overlays) (held (file_of name Overlays)) buffer error) → IfSome known (λ held. IsNotBuilt held name buffer r)
cannot None name bytes buffer r error has is built why = tt
cannot (Some held) name bytes buffer r error has is built why =
    let does = built.does built.program built.is in
    let plain : IsPlain bytes = record { executable = does.agrees.executable; stubs = does.plain } in
    let told = plain_refusal bytes (file_of name Overlays) (held (file_of name Overlays)) buffer error plain why has in
    inr (inl (record { bytes = bytes; built = built; large = told.1; refused = refusal_is r (refusal.MemoryTooSmall (needed bytes buffer)) (is ∙ ap refused_as told.0) }))

module _ (known : Option Folder) (name bytes : List ℕ) (buffer : Option ℕ) (old new : ℕ) (built : IfSome known (λ held. IsBuiltFrom held name bytes)) where
  abbrev Why : OpenError → Type 0
  Why error = IfSome known (λ held. IsUnopened bytes (file_of name Overlays) (held (file_of name Overlays)) buffer error)

  not_opened : (error : OpenError) → Why error → (error ≡ errors.FilesFault → HasRisen old new) → IsNotGone (refused_as error) name buffer known old new
  not_opened (errors.NotExecutable cause) why counted = (tt, cannot known name bytes buffer (refusal.NotExecutable cause) (errors.NotExecutable cause) tt refl built why)
  not_opened (errors.MissingFile file) why counted = (tt, cannot known name bytes buffer (refusal.MissingFile file) (errors.MissingFile file) tt refl built why)
  not_opened (errors.OverlayFileDamaged at) why counted = (tt, cannot known name bytes buffer (refusal.OverlayFileDamaged at) (errors.OverlayFileDamaged at) tt refl built why)
  not_opened (errors.OverlayMismatch overlay) why counted = (tt, cannot known name bytes buffer (refusal.OverlayMismatch overlay) (errors.OverlayMismatch overlay) tt refl built why)
  not_opened (errors.BufferTooSmall need have) why counted = (tt, cannot known name bytes buffer (refusal.BufferTooSmall need have) (errors.BufferTooSmall need have) tt refl built why)
  not_opened (errors.MemoryTooSmall need) why counted = (tt, cannot known name bytes buffer (refusal.MemoryTooSmall need) (errors.MemoryTooSmall need) tt refl built why)
  not_opened errors.FilesFault why counted = counted refl
  not_opened errors.NoMemory why counted = tt

  pub not_opened_as : (result : Outcome) (error : OpenError) → result ≡ refused_as error → Why error → (error ≡ errors.FilesFault → HasRisen old new) → IsNotGone result name buffer known old new
  not_opened_as result error is why counted = subst (λ (o : Outcome). IsNotGone o name buffer known old new) (sym is) (not_opened error why counted)

-- what opening tells of the bytes and the file that it was given
pub why_by : (known now_known : Option Folder) (shown bytes given file : List ℕ) (buffer : Option ℕ) (error : OpenError) → now_known ≡ known → shown ≡ bytes → given ≡ file
    → IfSome now_known (λ held. IsUnopened shown given (held given) buffer error) → IfSome known (λ held. IsUnopened bytes file (held file) buffer error)
why_by known now_known shown bytes given file buffer error same texts names why =
    let a = subst (λ (f : Option Folder). IfSome f (λ held. IsUnopened shown given (held given) buffer error)) same why in
    let b = subst (λ (t : List ℕ). IfSome known (λ held. IsUnopened t given (held given) buffer error)) texts a in
    subst (λ (n : List ℕ). IfSome known (λ held. IsUnopened bytes n (held n) buffer error)) names b

-- what was opened the memory holds, with the buffer
fitting : (bytes name : List ℕ) (held : Option (List ℕ)) (buffer : Option ℕ) (machine : State) (manager : Manager) → IsPlain bytes → IsOpened bytes name held buffer machine manager → needed bytes buffer ≤ 0xA000
fitting bytes name held buffer machine manager plain opened = by (cases_order (needed bytes buffer) 0xA000)
  where
    by : (needed bytes buffer ≡ 0xA000) ⊎ ((needed bytes buffer < 0xA000) ⊎ (0xA000 < needed bytes buffer)) → needed bytes buffer ≤ 0xA000
    by (inl same) = omega (arith, same)
    by (inr (inl less)) = omega (arith, less)
    by (inr (inr more)) = absurd (no_reason bytes name held buffer machine manager (errors.MemoryTooSmall (needed bytes buffer)) opened tt (large_refusal bytes name held buffer plain more))

pub loaded_by : (known now_known : Option Folder) (name shown given bytes : List ℕ) (buffer : Option ℕ) (machine : State) (manager : Manager) → now_known ≡ known → shown ≡ bytes → IfSome known (λ held. IsBuiltFrom held name bytes)
    → IfSome now_known (λ held. IsOpened shown given (held given) buffer machine manager) → IfSome known (λ held. IsLoaded held name buffer bytes machine)
loaded_by None now_known name shown given bytes buffer machine manager same texts built opened = tt
loaded_by (Some held) now_known name shown given bytes buffer machine manager same texts built opened =
    let here = subst (λ (f : Option Folder). IfSome f (λ held. IsOpened shown given (held given) buffer machine manager)) same opened in
    let there = subst (λ (t : List ℕ). IsOpened t given (held given) buffer machine manager) texts here in
    let does = built.does built.program built.is in
    let plain : IsPlain bytes = record { executable = does.agrees.executable; stubs = does.plain } in
    record { built = built; fits = fitting bytes given (held given) buffer machine manager plain there; starts = there.machine_is }

-- ---- the run

pub loaded_built : (known : Option Folder) (name bytes : List ℕ) (buffer : Option ℕ) (machine : State) → IfSome known (λ held. IsLoaded held name buffer bytes machine) → IfSome known (λ held. IsBuiltFrom held name bytes)
loaded_built None name bytes buffer machine is = tt
loaded_built (Some held) name bytes buffer machine is = is.built

pub loaded_fits : (known : Option Folder) (name bytes : List ℕ) (buffer : Option ℕ) (machine : State) → IfSome known (λ held. IsLoaded held name buffer bytes machine) → IfSome known (λ held. needed bytes buffer ≤ 0xA000)
loaded_fits None name bytes buffer machine is = tt
loaded_fits (Some held) name bytes buffer machine is = is.fits

pub loaded_starts : (known : Option Folder) (name bytes : List ℕ) (buffer : Option ℕ) (machine : State) → IfSome known (λ held. IsLoaded held name buffer bytes machine) → IfSome known (λ held. machine ≡ loaded (exe_of bytes))
loaded_starts None name bytes buffer machine is = tt
loaded_starts (Some held) name bytes buffer machine is = is.starts

pub no_files : (end : RunEnd) (limit : ℕ) (start last : State) (o o' : Outside) → RunsTo end limit start last o o' → end ≡ ends.FilesFault → ⊥
no_files ends.FilesFault limit start last o o' run is = run.run.leaves
no_files (ends.Ended code) limit start last o o' run is = absurd cc
no_files (ends.Limit taken) limit start last o o' run is = absurd cc
no_files (ends.Stopped cs ip why) limit start last o o' run is = absurd cc
no_files ends.InputFault limit start last o o' run is = absurd cc
no_files ends.OutputFault limit start last o o' run is = absurd cc
no_files ends.ErrorsFault limit start last o o' run is = absurd cc

pub rises_of : (end : RunEnd) (limit : ℕ) (start last : State) (o o' : Outside) (files files' : ℕ) → RunsTo end limit start last o o' → Rises (Some end) o o' files files'
rises_of (ends.Ended code) limit start last o o' files files' run = tt
rises_of (ends.Limit taken) limit start last o o' files files' run = tt
rises_of (ends.Stopped cs ip why) limit start last o o' files files' run = tt
rises_of ends.InputFault limit start last o o' files files' run = risen_later o.input_faults run.mid.input_faults o'.input_faults run.counts.input run.event.rose
rises_of ends.OutputFault limit start last o o' files files' run = risen_later o.output_faults run.mid.output_faults o'.output_faults run.counts.output run.event.rose
rises_of ends.ErrorsFault limit start last o o' files files' run = risen_later o.errors_faults run.mid.errors_faults o'.errors_faults run.counts.errors run.event.rose
rises_of ends.FilesFault limit start last o o' files files' run = absurd run.run.leaves

pub ran_built : (known : Option Folder) (end : RunEnd) (name bytes : List ℕ) (options : RunOptions) (limit : ℕ) (start last : State) (o o' : Outside) → limit ≡ limit_of options
    → IfSome known (λ held. IsBuiltFrom held name bytes) → IfSome known (λ held. needed bytes options.buffer ≤ 0xA000) → IfSome known (λ held. start ≡ loaded (exe_of bytes)) → RunsTo end limit start last o o' → IfSome known (λ held. RanBuilt held end name bytes options o o')
ran_built None end name bytes options limit start last o o' limits built fits starts run = tt
ran_built (Some held) end name bytes options limit start last o o' limits built fits starts run = record {
  built = built;
  fits = fits;
  last = last;
  run = subst (λ (s : State). RunsTo end (limit_of options) s last o o') starts (subst (λ (n : ℕ). RunsTo end n start last o o') limits run);
}
