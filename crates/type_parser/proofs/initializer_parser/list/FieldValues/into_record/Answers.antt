use Rattle.type_parser.proofs.initializer_parser.Rows.{record_is}
use Rattle.type_parser.proofs.initializer_parser.list.FieldValues.into_record.Goals as goal

pub returns : goal.returns
returns c = record_is c.args.position c.args.self.items
