use Rattle.std.proofs.Common.{◌≡◌}
use Rattle.expression_parser.proofs.statement_parser.Rows.{case_is}
use Rattle.expression_parser.proofs.statement_parser.list.Arms.into_case.Goals as goal

pub returns : goal.returns
returns c = case_is c.args.position c.args.selector c.args.self.items c.args.semicolon c.args.otherwise
