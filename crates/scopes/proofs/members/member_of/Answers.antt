use Rattle.scopes.proofs.LineLaws.{line_search}
use Rattle.scopes.proofs.members.member_of.Goals as goal

pub returns-clause-line : goal.returns-clause-line
returns-clause-line c = line_search c.args.types.now c.count.ensures.well_formed
