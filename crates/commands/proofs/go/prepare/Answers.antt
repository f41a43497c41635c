use Rattle.std.proofs.Common.{Err, ap}
use Rattle.dos_runner.specs.declared.opened_program.error.OpenError.{OpenError}
use Rattle.commands.specs.declared.names.FileKind.TheVariants.{Overlays}
use Rattle.commands.specs.Files.{file_of}
use Rattle.commands.proofs.BuildLaws.{literal_built, compiled_built, not_opened_as, why_by}
use Rattle.commands.proofs.GoLaws.{still_rising}
use Rattle.commands.proofs.OpenedLaws.{not_gone_so}
use Rattle.commands.proofs.go.prepare.Goals as goal

pub returns-in-Err-open_program-clause-reason : goal.returns-in-Err-open_program-clause-reason
returns-in-Err-open_program-clause-reason g c =
    let known = g.F.Files.folder c.args.files.now in
    let bytes = c.in-Ok-Literal.bytes in
    let error = c.in-Err-open_program.error in
    let built = literal_built known c.args.name.now c.in-Ok-Literal.field-0 bytes c.in-Ok-Literal.field-0-is c.in-Ok-Literal.ensures.built in
    let why = why_by known (g.F.Files.folder c.build.new.files) c.as_slice.result.now bytes c.file_name-overlays.result (file_of c.args.name.now Overlays) c.args.buffer error
    c.in-Ok-Literal.ensures.unchanged c.as_slice.ensures c.file_name-overlays.ensures c.in-Err-open_program.ensures.refused in
    not_opened_as known c.args.name.now bytes c.args.buffer (g.F.Files.faults c.args.files.now) (g.F.Files.faults c.open_program.new.files) built c.refused_as.result error c.refused_as.ensures why
    (λ is. still_rising (g.F.Files.faults c.args.files.now) (g.F.Files.faults c.build.new.files) (g.F.Files.faults c.open_program.new.files) c.in-Ok-Literal.ensures.counted
    (c.in-Err-open_program.ensures.failed (ap (λ (e : OpenError). Err e) is)))

pub returns-in-Err-open_compiled-clause-reason : goal.returns-in-Err-open_compiled-clause-reason
returns-in-Err-open_compiled-clause-reason g c =
    let known = g.F.Files.folder c.args.files.now in
    let compiled = compiled_built known c.args.name.now c.in-Ok-Compiled.field-0 c.in-Ok-Compiled.compiled c.in-Ok-Compiled.field-0-is c.in-Ok-Compiled.ensures.built in
    not_gone_so c.in-Err-open_compiled.outcome known (g.F.Files.folder c.build.new.files) c.args.name.now c.in-Ok-Compiled.compiled c.args.buffer (g.F.Files.faults c.args.files.now) (g.F.Files.faults c.build.new.files)
    (g.F.Files.faults c.open_compiled.new.files) c.in-Ok-Compiled.ensures.unchanged compiled c.in-Ok-Compiled.ensures.counted c.in-Err-open_compiled.ensures.reason
