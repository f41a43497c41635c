use Rattle.type_parser.proofs.Rows.{array_is}
use Rattle.type_parser.proofs.list.IndexTypes.into_array.Goals as goal

pub returns-clause-ok : goal.returns-clause-ok
returns-clause-ok c = array_is c.args.position c.args.self.items c.in_ok-element.element c.args.element c.in_ok-element.ensures.ok
