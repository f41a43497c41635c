use Rattle.interpreter_effects.proofs.standard_effects.Table.{none_past, one_within}
use Rattle.interpreter_effects.proofs.standard_effects.routines.standard_of.Goals as goal

pub returns-in-None : goal.returns-in-None
returns-in-None c = none_past c.args.number c.in-None.ensures.lookup.0

pub returns-in-Some : goal.returns-in-Some
returns-in-Some c = let found = c.in-Some.ensures.lookup in one_within c.args.number c.in-Some.one.now found.0 found.1
