-- Each expression that is typed by the rules has a typed node.
use Rattle.tp_check_stmt.specs.typed_tree.Expressions.{Expression}
use Rattle.rules_well_formed.specs.well_formed.Scopes.{Scope}
use Rattle.tp_check_stmt.specs.scopes.Environment.{Environment}
use Rattle.tp_check_stmt.specs.syntax_tree.expression_tree.Trees.{Tree}
use Rattle.tp_check_stmt.specs.tp_check_expr.declared.names.Purpose.{Purpose}
use Rattle.tp_check_stmt.specs.tp_check_expr.Typed.{judged_as}
use Rattle.rules_well_formed.specs.nodes.Laws.{IsOperand}
use Rattle.bodies_well_formed.specs.expressions.Agreeing.{Agrees}
use Rattle.bodies_well_formed.specs.expressions.Literals.{AreLiterals}

-- whatever it stands for; by itself it may be nil
abbrev pub ExpressionLaw : Type 0
ExpressionLaw = (g : Environment) (s : Scope) → Agrees g s → (for : Purpose) (tree : Tree) (e : Expression) → AreLiterals tree → (judged_as g for tree).holds e → IsOperand s e
