use Rattle.std.proofs.Common.{◌≡◌}
use Rattle.expression_parser.specs.Reading.{inside, named_at}
use Rattle.expression_parser.proofs.Shorter.{left_shorter, named_short}
use Rattle.expression_parser.proofs.read.read_designator.Goals as goal

pub returns-clause-shorter : goal.returns-clause-shorter
returns-clause-shorter c = left_shorter _ c.next_designator.result (named_at (inside c.args.depth)) c.args.lexemes.now (named_short c.args.depth) c.next_designator.ensures.gives
