use Rattle.std.proofs.Common.{Err, ap}
use Rattle.dos_runner.specs.declared.opened_program.error.OpenError.{OpenError}
use Rattle.commands.proofs.OpenedLaws.{begins_named, not_opened_so}
use Rattle.commands.proofs.compiled.open_compiled.Goals as goal

pub returns-in-Ok-clause-begins : goal.returns-in-Ok-clause-begins
returns-in-Ok-clause-begins g c =
    begins_named (g.F.Files.folder c.args.files.now) c.args.name.now c.file_name-file.result c.as_slice-executable.result.now c.args.compiled.now c.args.buffer c.as_slice-executable.ensures c.file_name-file.ensures
    c.in-Ok.runner c.in-Ok.ensures.begins

pub returns-in-Err-clause-reason : goal.returns-in-Err-clause-reason
returns-in-Err-clause-reason g c =
    not_opened_so (g.F.Files.folder c.args.files.now) c.args.name.now c.file_name-file.result c.as_slice-executable.result.now c.args.compiled.now c.args.buffer c.as_slice-executable.ensures c.file_name-file.ensures
    (g.F.Files.faults c.args.files.now) (g.F.Files.faults c.open_files.new.files) c.refused_as.result c.in-Err.error c.refused_as.ensures c.in-Err.ensures.refused
    (λ is. c.in-Err.ensures.failed (ap (λ (e : OpenError). Err e) is))
