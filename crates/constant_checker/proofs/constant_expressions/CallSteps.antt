-- Calls and set constructors with their parts in vectors.
use Rattle.std.proofs.Common.{◌≡◌, ap, Vec, Global}
use Rattle.pascal_grammar.specs.declared.lexeme.Position.{Position}
use Rattle.syntax_tree.specs.declared.expression.Argument.{Argument}
use Rattle.syntax_tree.specs.declared.expression.Element.{Element}
use Rattle.syntax_tree.specs.declared.expression.Designator.{Designator}
use Rattle.syntax_tree.specs.declared.expression.Factor.TheVariants as f
use Rattle.scopes.specs.Environment.{Environment}
use Rattle.syntax_tree.specs.expression_tree.Trees.{Tree, call, set, begins, view_factor, view_designator, view_arguments, view_elements}
use Rattle.syntax_tree.proofs.expression_tree.Views.{view_call, view_set}
use Rattle.constant_checker.specs.constant_expressions.Constants.{judged}

pub call_judged : (g : Environment) (callee : Designator) (arguments : Vec Argument Global)
    → (judged g (view_factor (f.Call callee arguments))).run ≡ (judged g (call (begins callee) (view_designator callee) (view_arguments arguments.items))).run
call_judged g callee arguments = ap (λ (t : Tree). (judged g t).run) (view_call callee arguments)

pub set_judged : (g : Environment) (here : Position) (elements : Vec Element Global)
    → (judged g (view_factor (f.Set here elements))).run ≡ (judged g (set here (view_elements elements.items))).run
set_judged g here elements = ap (λ (t : Tree). (judged g t).run) (view_set here elements)
