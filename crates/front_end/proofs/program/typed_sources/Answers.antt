use Rattle.std.proofs.Common.{◌≡◌}
use Rattle.front_end.specs.declared.outcomes.outcome.Outcome.TheVariants as outcome
use Rattle.front_end.proofs.Whys.{untyped_declines, untyped_not, ungathered}
use Rattle.front_end.proofs.program.typed_sources.Goals as goal

pub returns-in-Err-clause-cause : goal.returns-in-Err-clause-cause
returns-in-Err-clause-cause g c =
    ungathered (g.F.Files.folder c.args.files.now) c.args.name.now c.in-Err.error c.gather_outcome.result c.in-Err.ensures.refused c.gather_outcome.ensures

pub returns-in-Err-typed-clause-declines : goal.returns-in-Err-typed-clause-declines
returns-in-Err-typed-clause-declines g c = untyped_declines _ _ c.in-Err-typed.outcome c.in-Err-typed.ensures.cause

pub returns-in-Err-typed-clause-failed : goal.returns-in-Err-typed-clause-failed
returns-in-Err-typed-clause-failed g c = λ is.
    let fault : c.in-Err-typed.outcome ≡ outcome.FilesFault = cc in
    untyped_not _ _ c.in-Err-typed.outcome c.in-Err-typed.ensures.cause fault
