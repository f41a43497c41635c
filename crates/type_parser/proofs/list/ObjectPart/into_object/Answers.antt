use Rattle.type_parser.proofs.Rows.{object_is}
use Rattle.type_parser.proofs.list.ObjectPart.into_object.Goals as goal

pub returns : goal.returns
returns c = object_is c.args.position c.args.ancestor c.args.self.groups.items c.args.self.semicolon c.args.self.methods
