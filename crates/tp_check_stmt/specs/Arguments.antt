-- Arguments of calls.
use Rattle.std.specs.Prelude.{ℕ, List, Option, Some, None}
use Rattle.pascal_grammar.specs.declared.lexeme.Position.{Position}
use Rattle.syntax_tree.specs.expression_tree.Trees.{Tree, name, call, Operand, Operands, plain, wide, no_operands, view_arguments}
use Rattle.typed_tree.specs.Statements.{Written}
use Rattle.scopes.specs.Environment.{Environment}
use Rattle.typing_rules.specs.Judgements.{Judgement, makes, part, parts}
use Rattle.tp_check_expr.specs.Typed.{judged}
use Rattle.tp_check_stmt.specs.declared.arguments.SoleCall.{SoleCall}

-- a name, alone or before arguments
pub record NamedCall : Type 0 where
  pub at : Position
  pub word : List ℕ
  pub given : Operands

abbrev pub view_named : SoleCall → NamedCall
view_named one = record { at = one.name.now.position; word = one.name.now.name; given = view_arguments one.arguments.now }

abbrev pub call_of : Position → List ℕ → Operands → NamedCall
call_of at word given = record { at = at; word = word; given = given }

-- what an expression calls by a name, as a destructor is called
abbrev pub named_call : Tree → Option NamedCall
named_call (name at word) = Some (call_of at word no_operands)
named_call (call here (name at word) given) = Some (call_of at word given)
named_call _ = None

-- an argument, and its width if it has one
abbrev pub sized : Environment → Operand → Judgement Written
sized g (plain one) = part (judged g one) (λ e. makes (record { value = e; width = None }))
sized g (wide one by) = parts (judged g one) (judged g by) (λ e w. makes (record { value = e; width = Some w }))
