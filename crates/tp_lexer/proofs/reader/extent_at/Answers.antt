use Rattle.std.proofs.Common.{◌≡◌, true, false}
use Rattle.tp_lexer.specs.Effects.{is_read}
use Rattle.tp_lexer.proofs.Cuts.{takes_read, takes_skipped}
use Rattle.tp_lexer.proofs.reader.extent_at.Goals as goal

pub returns-then-is_read-clause-longest : goal.returns-then-is_read-clause-longest
returns-then-is_read-clause-longest c =
    let live : is_read c.args.conditions.now ≡ true = cc in
    takes_read (is_read c.args.conditions.now) c.shape_at.result c.args.bytes.now c.requires live c.shape_at.ensures.exact c.shape_at.ensures.within

pub returns-else-is_read-clause-longest : goal.returns-else-is_read-clause-longest
returns-else-is_read-clause-longest c =
    let live : is_read c.args.conditions.now ≡ false = cc in
    takes_skipped (is_read c.args.conditions.now) c.passed_at.result c.args.bytes.now c.requires live c.passed_at.ensures.exact c.passed_at.ensures.within
