use Rattle.std.proofs.Common.{◌≡◌, Some, List, ℕ, Option, sym, ◌∙◌, subst}
use Rattle.tp_outside.specs.MemoryFolder.{folder_of}
use Rattle.dos_runner.specs.declared.opened_program.error.OpenError.{OpenError}
use Rattle.dos_runner.specs.declared.opened_program.error.OpenError.TheVariants as errors
use Rattle.dos_runner.specs.opened_program.Opening.{IsRefused}
use Rattle.dos_runner.specs.overlay_runner.Runner.{Begins}
use Rattle.commands.proofs.OpenedLaws.{put_there, refused_too, never_a_fault}
use Rattle.commands.proofs.compiled.open_in_memory.Goals as goal

pub returns-in-Ok-clause-begins : goal.returns-in-Ok-clause-begins
returns-in-Ok-clause-begins c =
    let there = put_there (folder_of c.in_ok-files.files) (folder_of c.put.new.self) c.args.name.now c.as_str.result.now c.args.overlays.now c.in_ok-put.ensures.held c.as_str.ensures in
    subst (λ (o : Option (List ℕ)). Begins c.args.executable.now c.args.name.now o c.args.buffer c.in-Ok.runner) there c.in-Ok.ensures.opened

pub returns : goal.returns
returns c =
    let there = put_there (folder_of c.in_ok-files.files) (folder_of c.put.new.self) c.args.name.now c.as_str.result.now c.args.overlays.now c.in_ok-put.ensures.held c.as_str.ensures in
    let error = c.in-Err.error in
    let refused = subst (λ (o : Option (List ℕ)). IsRefused c.args.executable.now c.args.name.now o c.args.buffer error) there c.in-Err.ensures.refused in
    record {
      begins = tt;
      idle = tt;
      refused =
          subst (λ (e : OpenError). IsRefused c.args.executable.now c.args.name.now (Some c.args.overlays.now) c.args.buffer e) (sym c.without_fault.ensures)
          (refused_too c.args.executable.now c.args.name.now (Some c.args.overlays.now) c.args.buffer error refused);
      no_fault = λ is.
          let same : c.without_fault.result ≡ errors.FilesFault = cc in
          never_a_fault error (sym c.without_fault.ensures ∙ same);
    }
