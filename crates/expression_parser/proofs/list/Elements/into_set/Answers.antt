use Rattle.std.proofs.Common.{◌≡◌}
use Rattle.expression_parser.proofs.Rows.{set_is}
use Rattle.expression_parser.proofs.list.Elements.into_set.Goals as goal

pub returns : goal.returns
returns c = set_is c.args.position c.args.self.items
