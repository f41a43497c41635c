use Rattle.std.proofs.Common.{ap, ◌∙◌}
use Rattle.flat_code.specs.View.{view_list}
use Rattle.flat_code.proofs.flat_builders.Lists.{view_list-append}
use Rattle.flat_code.proofs.flat_builders.then.Goals as goal

pub returns : goal.returns
returns c = ap view_list c.in_ok-append.ensures.items ∙ view_list-append c.args.first.items c.args.next.items
