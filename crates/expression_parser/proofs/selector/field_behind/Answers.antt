use Rattle.std.proofs.Common.{◌≡◌}
use Rattle.syntax_tree.specs.Expressions.{name_of}
use Rattle.expression_parser.specs.Views.{named_with}
use Rattle.expression_parser.proofs.Steps.{field_next}
use Rattle.expression_parser.proofs.selector.field_behind.Goals as goal

pub returns-clause-goes : goal.returns-clause-goes
returns-clause-goes c = field_next (named_with c.args.owner) (named_with c.in_ok-all.all) c.in_ok-left.left c.args.depth c.args.lexemes.now c.in_ok-position.rest.now c.in_ok-name.rest.now c.in_ok-position.position (name_of c.in_ok-name.name) c.in_ok-left.ensures.less c.in_ok-position.ensures.gives c.in_ok-name.ensures.gives c.in_ok-all.ensures.ok
