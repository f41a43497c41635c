use Rattle.std.proofs.Common.{◌≡◌}
use Rattle.expression_parser.proofs.statement_parser.Rows.{repeat_is}
use Rattle.expression_parser.proofs.statement_parser.list.Statements.into_repeat.Goals as goal

pub returns : goal.returns
returns c = repeat_is c.args.position c.args.self.items c.args.condition
