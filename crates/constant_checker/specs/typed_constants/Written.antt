-- What an expression is as a first value.
use Rattle.std.specs.Prelude.{List}
use Rattle.type_layout.specs.declared.definitions.TypeDef.{TypeDef}
use Rattle.scopes.specs.Environment.{Environment}
use Rattle.typing_rules.specs.Judgements.{Judgement, makes, part}
use Rattle.typing_rules.specs.Sorts.{sort_of_constant}
use Rattle.syntax_tree.specs.expression_tree.Trees.{Tree}
use Rattle.constant_checker.specs.declared.constant_expressions.constants.Constant.{Constant}
use Rattle.constant_checker.specs.constant_expressions.Constants as constants
use Rattle.constant_checker.specs.declared.typed_constants.written.Written.{Written}

abbrev pub of_constant : List TypeDef → Constant → Written
of_constant types c = record { sort = sort_of_constant types c.ty c.value; value = c.value }

abbrev pub written_as : Environment → Tree → Judgement Written
written_as g tree = part (constants.judged g tree) (λ c. makes (of_constant g.types.types c))
