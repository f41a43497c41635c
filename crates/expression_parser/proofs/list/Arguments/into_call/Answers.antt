use Rattle.std.proofs.Common.{◌≡◌}
use Rattle.expression_parser.proofs.Rows.{call_is}
use Rattle.expression_parser.proofs.list.Arguments.into_call.Goals as goal

pub returns : goal.returns
returns c = call_is c.args.callee c.args.self.items
