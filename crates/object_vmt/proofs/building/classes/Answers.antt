use Rattle.object_vmt.proofs.Lawful.{are_lawful}
use Rattle.object_vmt.proofs.Failing.{have_cause}
use Rattle.object_vmt.proofs.DispatchLaws.{is_dispatch}
use Rattle.object_vmt.proofs.Overrides.{answer_alike}
use Rattle.object_vmt.proofs.building.classes.Goals as goal

pub returns-clause-lawful : goal.returns-clause-lawful
returns-clause-lawful c = are_lawful c.args.types.now.types c.built.result c.built.ensures.lawful

pub returns-clause-cause : goal.returns-clause-cause
returns-clause-cause c = have_cause c.args.types.now.types c.built.result c.built.ensures.err

pub returns-clause-dispatch : goal.returns-clause-dispatch
returns-clause-dispatch c = is_dispatch c.args.types.now.types c.built.ensures.well_formed.defined

pub returns-clause-alike : goal.returns-clause-alike
returns-clause-alike c = answer_alike c.args.types.now.types c.built.result c.built.ensures.lawful
