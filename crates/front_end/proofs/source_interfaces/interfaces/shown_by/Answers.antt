use Rattle.front_end.proofs.source_interfaces.Steps.{outer_there, outer_fit}
use Rattle.front_end.proofs.source_interfaces.interfaces.shown_by.Goals as goal

pub returns-in-Ok-clause-there : goal.returns-in-Ok-clause-there
returns-in-Ok-clause-there c = outer_there c.args.have.now c.args.source.now c.outer_units.result.now c.outer_units.ensures c.in_ok-scope.ensures.there

pub returns-in-Ok-clause-fits : goal.returns-in-Ok-clause-fits
returns-in-Ok-clause-fits c = outer_fit c.args.have.now c.args.source.now c.outer_units.result.now c.outer_units.ensures c.in_ok-scope.ensures.fits
