use Rattle.front_end.proofs.Steps.{unit_by}
use Rattle.front_end.proofs.units.unit_of.Goals as goal

pub returns-in-Ok-clause-unit : goal.returns-in-Ok-clause-unit
returns-in-Ok-clause-unit c =
    unit_by c.args.have.now c.args.source.now c.in_ok-scope.scope c.in-Ok.unit c.in_ok-scope.ensures.ok c.in_ok-scope.ensures.there c.in_ok-scope.ensures.fits c.in-Ok.ensures.typed
