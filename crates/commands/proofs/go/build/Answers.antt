use Rattle.std.proofs.Common.{Err, ap}
use Rattle.front_end.specs.declared.outcomes.outcome.Outcome.{Outcome}
use Rattle.commands.proofs.BuildLaws.{built_from, compiled_from, not_compiled_so, not_found}
use Rattle.commands.proofs.go.build.Goals as goal

pub returns-in-Err-clause-reason : goal.returns-in-Err-clause-reason
returns-in-Err-clause-reason g c = λ buffer.
    not_found c.in-Err.outcome (g.F.Files.folder c.args.files.now) c.args.name.now buffer (g.F.Files.faults c.args.files.now) (g.F.Files.faults c.formed_sources.new.files)
    c.in-Err.ensures.cause c.in-Err.ensures.declines (λ is. c.in-Err.ensures.failed (ap (λ (o : Outcome). Err o) is))

pub returns-in-Ok-Some-clause-built : goal.returns-in-Ok-Some-clause-built
returns-in-Ok-Some-clause-built g c =
    built_from (g.F.Files.folder c.args.files.now) c.args.name.now c.in-Ok-Some.bytes c.in-Ok.found c.in-Ok.ensures.found c.in-Ok.ensures.formed (rw c.in-Ok-Some.field-0-is at c.in-Ok-Some.ensures.made)

pub returns-in-Ok-compiled_files-clause-built : goal.returns-in-Ok-compiled_files-clause-built
returns-in-Ok-compiled_files-clause-built g c =
    compiled_from (g.F.Files.folder c.args.files.now) c.args.name.now c.in-Ok-compiled_files.files c.in-Ok.found c.in-Ok.ensures.found c.in-Ok.ensures.formed (rw c.in-Ok-None.field-0-is at c.in-Ok-None.ensures.made)
    c.in-Ok-compiled_files.ensures.made

pub returns-in-Ok-None-clause-reason : goal.returns-in-Ok-None-clause-reason
returns-in-Ok-None-clause-reason g c = λ buffer.
    not_compiled_so c.in-Err-compiled_files.outcome (g.F.Files.folder c.args.files.now) c.args.name.now buffer c.in-Ok.found (g.F.Files.faults c.args.files.now) (g.F.Files.faults c.formed_sources.new.files)
    c.in-Ok.ensures.found c.in-Ok.ensures.formed (rw c.in-Ok-None.field-0-is at c.in-Ok-None.ensures.made) c.in-Err-compiled_files.ensures.reason
