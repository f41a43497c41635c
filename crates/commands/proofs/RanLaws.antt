-- What a run of the executable shows.
use Rattle.std.proofs.Common.{◌≡◌, ◌⊎◌, ℕ, ◌≤◌, ◌<◌, ◌+◌, List, [], length, Option, Some, None, inl, inr, sym, ap, ◌∙◌, subst, arith}
use Rattle.std.specs.Prelude.{IfSome}
use Rattle.std.proofs.lemmas.List.{take_all}
use Rattle.std.specs.Io.KnownBytes.{append_known}
use Rattle.tp_outside.specs.Folder.{Folder, with_known_file, bytes_of}
use Rattle.tp_outside.specs.Streams.{TakesPrefix}
use Rattle.tp_outside.proofs.FolderLaws.{with_file-same}
use Rattle.tp_outside.proofs.Known.{append_known-nil}
use Rattle.common_values.specs.behaviour.Seen.{Seen, Ended}
use Rattle.typed_tree.specs.declared.units.Program.{Program}
use Rattle.tp_meaning.specs.Meaning.{mean}
use Rattle.cpu_8086.specs.declared.process.Why.{Why}
use Rattle.cpu_8086.specs.State.{State}
use Rattle.mz_file.specs.Format.{exe_of}
use Rattle.mz_file.specs.Load.{loaded}
use Rattle.literal_programs.specs.literal_code.Statement.{Statement, written, code_of}
use Rattle.literal_programs.proofs.Meant.{means}
use Rattle.literal_programs.proofs.Known.{known}
use Rattle.dos_runner.specs.declared.runner.RunEnd.{RunEnd}
use Rattle.dos_runner.specs.declared.runner.RunEnd.TheVariants as ends
use Rattle.dos_runner.specs.Run.{process_of}
use Rattle.dos_runner.specs.Outside.{Outside, RunsTo}
use Rattle.dos_runner.proofs.Composition.{risen_later}
use Rattle.dos_runner.proofs.Conclusion.{Ends, TakesPrefixes, Concludes, concludes, limit_prefixes}
use Rattle.overlay_manager.specs.Manager.{Manager}
use Rattle.dos_runner.specs.declared.overlay_runner.runner.Runner.{Runner}
use Rattle.dos_runner.specs.overlay_runner.Event.{Rises}
use Rattle.dos_runner.specs.overlay_runner.Runner.{with_retry, RunsOn}
use Rattle.front_end.specs.declared.outcomes.outcome.Outcome.TheVariants as outcome
use Rattle.commands.specs.mean_program.Shown.{WritesAll, Stands}
use Rattle.command_line.specs.declared.command.RunOptions.{RunOptions}
use Rattle.commands.specs.declared.names.FileKind.TheVariants.{Executable, Overlays}
use Rattle.commands.specs.Files.{file_of}
use Rattle.commands.specs.Compiled.{HoldsOther}
use Rattle.commands.specs.Go.{DoesSoon, RanBuilt}
use Rattle.commands.specs.Mean.{sinks_of}
use Rattle.commands.specs.Run.{limit_of, retry_of, BeginsNamed, RunsFrom}
use Rattle.commands.specs.Turbo.{HoldsExecutable, HoldsCompiled, IsWritten, TookLiteral}
use Rattle.commands.specs.World.{World, Holds}

-- The world after more was written to the errors.
abbrev pub told : World → Option (List ℕ) → ℕ → World
told w errors faults = record w { streams = record w.streams { errors = errors; errors_faults = faults } }

-- ---- the process of an executable that was built

-- with every input it comes to the end that is meant
abbrev known_end : (program : Program) (bytes : List ℕ) (does : DoesSoon program bytes) (input : List ℕ) → Ends (process_of (loaded (exe_of bytes)) input) (code_of does.literal.statements) (written does.literal.statements) []
known_end program bytes does input = record {
  events = (does.soon input 0).run.events;
  last = (does.soon input 0).run.last;
  runs = (does.soon input 0).run.runs;
  status = (known program does.literal bytes input 0 (does.soon input 0).run).0;
  wrote = (known program does.literal bytes input 0 (does.soon input 0).run).1;
  told = (known program does.literal bytes input 0 (does.soon input 0).run).2;
}

whole_prefix : (old new : Option (List ℕ)) (xs : List ℕ) → new ≡ append_known old xs → TakesPrefix old new xs
whole_prefix old new xs all = record { count = length xs; within = omega arith; taken = all ∙ ap (append_known old) (sym (take_all (length xs) xs (omega arith))) }

module _ (program : Program) (bytes : List ℕ) (does : DoesSoon program bytes) (limit : ℕ) (last : State) (o o' : Outside) where
  abbrev start : State
  start = loaded (exe_of bytes)

  abbrev statements : List Statement
  statements = does.literal.statements

  concluded : (end : RunEnd) → RunsTo end limit start last o o' → Concludes end limit start (code_of statements) (written statements) [] (known_end program bytes does) o o'
  concluded end run = concludes end limit start last (code_of statements) (written statements) [] (known_end program bytes does) o o' run

  -- a limit that is reached is less than all that the program takes
  pub limited : (taken : ℕ) → RunsTo (ends.Limit taken) limit start last o o' → (taken ≡ limit) × (limit < 16389)
  limited taken run =
      let told = concluded (ends.Limit taken) run in
      let few = (does.soon told.1.0 0).few in
      let many = told.1.1 in
      let below : limit < 16389 = omega arith in
      (told.0, below)

  pub not_stopped : (cs ip : ℕ) (why : Why) → RunsTo (ends.Stopped cs ip why) limit start last o o' → ⊥
  not_stopped cs ip why run = concluded (ends.Stopped cs ip why) run

  -- a run that ended came to the end that is meant
  pub ends_so : (code : ℕ) → RunsTo (ends.Ended code) limit start last o o' → (input : List ℕ) (turns : ℕ) → (mean program input turns).end ≡ Ended code
  ends_so code run input turns = ap (λ (x : Seen). x.end) (means statements program input turns does.literal.says) ∙ ap (λ (c : ℕ). Ended c) (sym (concluded (ends.Ended code) run).0)

  -- the sinks took prefixes of what the statements say
  took_all : (code : ℕ) → RunsTo (ends.Ended code) limit start last o o' → TakesPrefixes (written statements) [] o o'
  took_all code run =
      let all = concluded (ends.Ended code) run in
      record { output = whole_prefix o.output o'.output (written statements) all.1; errors = whole_prefix o.errors o'.errors [] all.2 }

  took : (end : RunEnd) → RunsTo end limit start last o o' → TakesPrefixes (written statements) [] o o'
  took (ends.Ended code) run = took_all code run
  took (ends.Limit taken) run = limit_prefixes taken limit start last (code_of statements) (written statements) [] (known_end program bytes does) o o' run
  took (ends.Stopped cs ip why) run = absurd (concluded (ends.Stopped cs ip why) run)
  took ends.InputFault run = concluded ends.InputFault run
  took ends.OutputFault run = concluded ends.OutputFault run
  took ends.ErrorsFault run = concluded ends.ErrorsFault run
  took ends.FilesFault run = absurd run.run.leaves

  pub took_output : (end : RunEnd) → RunsTo end limit start last o o' → (input : List ℕ) (turns : ℕ) → TakesPrefix o.output o'.output (mean program input turns).out
  took_output end run input turns = subst (λ (x : Seen). TakesPrefix o.output o'.output x.out) (sym (means statements program input turns does.literal.says)) (took end run).output

  pub took_errors : (end : RunEnd) → RunsTo end limit start last o o' → (input : List ℕ) (turns : ℕ) → TakesPrefix o.errors o'.errors (mean program input turns).err
  took_errors end run input turns = subst (λ (x : Seen). TakesPrefix o.errors o'.errors x.err) (sym (means statements program input turns does.literal.says)) (took end run).errors

-- output and errors took just what the program means
wrote_all : (program : Program) (bytes : List ℕ) (does : DoesSoon program bytes) (limit : ℕ) (last : State) (old mid : World) (errors : Option (List ℕ)) (faults code : ℕ)
    → RunsTo (ends.Ended code) limit (loaded (exe_of bytes)) last old.streams mid.streams → errors ≡ append_known mid.streams.errors []
    → (input : List ℕ) (turns : ℕ) → WritesAll (mean program input turns) (outcome.Program code) (sinks_of old.streams) (sinks_of (told mid errors faults).streams)
wrote_all program bytes does limit last old mid errors faults code run line input turns =
    let all = concluded program bytes does limit last old.streams mid.streams (ends.Ended code) run in
    let meant = means does.literal.statements program input turns does.literal.says in
    record {
      output = all.1 ∙ ap (λ (x : Seen). append_known old.streams.output x.out) (sym meant);
      errors = line ∙ append_known-nil mid.streams.errors ∙ all.2 ∙ ap (λ (x : Seen). append_known old.streams.errors x.err) (sym meant);
      stands = subst (λ (x : Seen). Stands x.end (outcome.Program code)) (sym meant) (ap (λ (c : ℕ). outcome.Program c) all.0);
    }

-- ---- where the folder is told

pub stands_there : (folder now : Option Folder) (end : RunEnd) (name bytes : List ℕ) (options : RunOptions) (o o' : Outside) → IfSome folder (λ held. RanBuilt held end name bytes options o o')
    → now ≡ with_known_file folder (file_of name Executable) bytes → IfSome folder (λ held. HoldsExecutable held now name ⊎ HoldsCompiled held now name)
stands_there None now end name bytes options o o' ran is = tt
stands_there (Some held) now end name bytes options o o' ran is = inl (record {
  program = ran.built.program;
  is = ran.built.is;
  formed = ran.built.formed;
  bytes = bytes;
  there = subst (λ (f : Option Folder). Holds f (file_of name Executable) bytes) (sym is) (with_file-same held (file_of name Executable) bytes);
  agrees = λ one here. (ran.built.does one here).agrees;
})

pub written_there : (folder : Option Folder) (name bytes : List ℕ) (options : RunOptions) (old mid : World) (errors : Option (List ℕ)) (faults code : ℕ)
    → IfSome folder (λ held. RanBuilt held (ends.Ended code) name bytes options old.streams mid.streams) → errors ≡ append_known mid.streams.errors []
    → IfSome folder (λ held. IsWritten held name (outcome.Program code) old (told mid errors faults) ⊎ HoldsOther held name)
written_there None name bytes options old mid errors faults code ran line = tt
written_there (Some held) name bytes options old mid errors faults code ran line = inl (record {
  program = ran.built.program;
  is = ran.built.is;
  all = λ one here. wrote_all one bytes (ran.built.does one here) (limit_of options) ran.last old mid errors faults code ran.run line;
})

pub prefix_of_output : (folder : Option Folder) (end : RunEnd) (name bytes : List ℕ) (options : RunOptions) (o o' : Outside) → IfSome folder (λ held. RanBuilt held end name bytes options o o')
    → IfSome folder (λ held. TookLiteral held name (λ (seen : Seen). seen.out) o.output o'.output)
prefix_of_output None end name bytes options o o' ran = tt
prefix_of_output (Some held) end name bytes options o o' ran =
    inl (inr (ran.built.program, ran.built.is, λ one here. took_output one bytes (ran.built.does one here) (limit_of options) ran.last o o' end ran.run))

pub prefix_of_errors : (folder : Option Folder) (end : RunEnd) (name bytes : List ℕ) (options : RunOptions) (o o' : Outside) → IfSome folder (λ held. RanBuilt held end name bytes options o o')
    → IfSome folder (λ held. TookLiteral held name (λ (seen : Seen). seen.err) o.errors o'.errors)
prefix_of_errors None end name bytes options o o' ran = tt
prefix_of_errors (Some held) end name bytes options o o' ran =
    inl (inr (ran.built.program, ran.built.is, λ one here. took_errors one bytes (ran.built.does one here) (limit_of options) ran.last o o' end ran.run))

-- ---- programs that were opened

-- a run of a program that was opened
pub ran_from : (known now_known : Option Folder) (end : RunEnd) (name : List ℕ) (options : RunOptions) (opened first last : Runner) (retry limit : ℕ) (o o' : Outside) → now_known ≡ known → first ≡ with_retry opened retry
    → retry ≡ retry_of options → limit ≡ limit_of options → IfSome known (λ held. BeginsNamed held name options.buffer opened)
    → IfSome now_known (λ held. RunsOn (bytes_of held first.course.ovr.name) end limit first last o o') → IfSome known (λ held. RunsFrom held end name options o o')
ran_from None now_known end name options opened first last retry limit o o' same first_is retry_is limit_is begins runs = tt
ran_from (Some held) now_known end name options opened first last retry limit o o' same first_is retry_is limit_is begins runs =
    let R : Folder → List ℕ → ℕ → Runner → Type 0 = λ held name limit first. RunsOn (bytes_of held name) end limit first last o o' in
    let names : opened.course.ovr.name ≡ file_of name Overlays = ap (λ (m : Manager). m.name) begins.begins.opened.manager_is in
    let kept : first.course.ovr.name ≡ file_of name Overlays = ap (λ (r : Runner). r.course.ovr.name) first_is ∙ names in
    let set : first ≡ with_retry opened (retry_of options) = first_is ∙ ap (with_retry opened) retry_is in
    let run : R held first.course.ovr.name limit first = subst (λ (known : Option Folder). IfSome known (λ held. R held first.course.ovr.name limit first)) same runs in
    let named : R held (file_of name Overlays) limit first = subst (λ (n : List ℕ). R held n limit first) kept run in
    let limited : R held (file_of name Overlays) (limit_of options) first = subst (λ (limit : ℕ). R held (file_of name Overlays) limit first) limit_is named in
    record { first = opened; last = last; begins = begins; runs = subst (R held (file_of name Overlays) (limit_of options)) set limited }

-- faults of files count from the opening on
pub rises_behind : (end : RunEnd) (o o' : Outside) (files files1 files2 : ℕ) → files ≤ files1 → Rises (Some end) o o' files1 files2 → Rises (Some end) o o' files files2
rises_behind ends.FilesFault o o' files files1 files2 counted rises = risen_later files files1 files2 counted rises
rises_behind (ends.Ended code) o o' files files1 files2 counted rises = tt
rises_behind (ends.Limit taken) o o' files files1 files2 counted rises = tt
rises_behind (ends.Stopped cs ip why) o o' files files1 files2 counted rises = tt
rises_behind ends.InputFault o o' files files1 files2 counted rises = rises
rises_behind ends.OutputFault o o' files files1 files2 counted rises = rises
rises_behind ends.ErrorsFault o o' files files1 files2 counted rises = rises
