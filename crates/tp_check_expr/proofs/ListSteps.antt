-- Elements and arguments one by one: what was made and what is left make the whole.
use Rattle.std.proofs.Common.{◌≡◌, ℕ, ◌+◌, List, [], ◌∷◌, ◌++◌, drop, Ok, sym}
use Rattle.type_layout.specs.declared.definitions.Param.{Param}
use Rattle.pascal_grammar.specs.declared.lexeme.Position.{Position}
use Rattle.syntax_tree.specs.declared.expression.Argument.{Argument}
use Rattle.syntax_tree.specs.declared.expression.Element.{Element}
use Rattle.typed_tree.specs.Expressions.{Expression}
use Rattle.scopes.specs.Environment.{Environment}
use Rattle.syntax_tree.specs.expression_tree.Trees.{view_argument, view_arguments, view_element, view_elements}
use Rattle.call_rules.specs.Lists.{behind}
use Rattle.call_rules.proofs.ListLaws.{step}
use Rattle.call_rules.specs.set_rules.Sets.{Item}
use Rattle.tp_check_expr.specs.Typed.{first_param, rest_params, items_judged, item_judged, all_given, one_given}

module _ (g : Environment) (before after : List Item) (all : List Element) (i : ℕ) (one : Element) (made : Item) where
  pub item_step : drop i all ≡ one ∷ drop (i + 1) all → (item_judged g (view_element one)).run ≡ Ok made → after ≡ before ++ (made ∷ [])
      → behind after (items_judged g (view_elements (drop (i + 1) all))).run ≡ behind before (items_judged g (view_elements (drop i all))).run
  item_step d p a = rw (d, a) (sym (step before (item_judged g (view_element one)).run made (items_judged g (view_elements (drop (i + 1) all))).run p))

module _ (g : Environment) (here : Position) (params left : List Param) (before after : List Expression) (all : List Argument) (i : ℕ) (one : Argument) (made : Expression) where
  pub argument_step : drop i all ≡ one ∷ drop (i + 1) all → (one_given g here (first_param params) (view_argument one)).run ≡ Ok made → left ≡ rest_params params → after ≡ before ++ (made ∷ [])
      → behind after (all_given g here left (view_arguments (drop (i + 1) all))).run ≡ behind before (all_given g here params (view_arguments (drop i all))).run
  argument_step d p l a =
      rw (d, l, a) (sym (step before (one_given g here (first_param params) (view_argument one)).run made (all_given g here (rest_params params) (view_arguments (drop (i + 1) all))).run p))
