use Rattle.lower_places.proofs.Variables.{param_value}
use Rattle.lower_places.proofs.homes.home_of.Goals as goal

pub returns-then-place-params-clause-value : goal.returns-then-place-params-clause-value
returns-then-place-params-clause-value c =
    let within = rw c.as_slice-params.ensures at c.if-place-params.true in
    let is = rw c.as_slice-params.ensures at c.index-params-place.is in
    param_value c.args.types.now.types c.args.routine.now c.args.number c.index-params-place.result c.home_of_param.result within is c.home_of_param.ensures.value
