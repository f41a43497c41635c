use Rattle.type_parser.proofs.Rows.{record_is}
use Rattle.type_parser.proofs.list.Groups.into_record.Goals as goal

pub returns : goal.returns
returns c = record_is c.args.position c.args.self.items c.args.semicolon
