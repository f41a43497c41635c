use Rattle.type_parser.proofs.initializer_parser.Rows.{list_is}
use Rattle.type_parser.proofs.initializer_parser.list.Values.into_list.Goals as goal

pub returns : goal.returns
returns c = list_is c.args.position c.args.self.items
