use Rattle.call_rules.proofs.method_rules.LineLaws.{are_lines}
use Rattle.call_rules.proofs.method_rules.slots.slot_of.Goals as goal

pub returns-clause-lines : goal.returns-clause-lines
returns-clause-lines c = are_lines c.args.types.now.types c.count.ensures.well_formed.defined

pub returns-in_err-slots-clause-lines : goal.returns-in_err-slots-clause-lines
returns-in_err-slots-clause-lines c = are_lines c.args.types.now.types c.count.ensures.well_formed.defined
