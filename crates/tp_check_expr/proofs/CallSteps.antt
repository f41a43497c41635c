-- Calls and set constructors with their parts in vectors.
use Rattle.std.proofs.Common.{◌≡◌, Result, Ok, ap, refl, ◌∙◌, Vec, Global}
use Rattle.pascal_grammar.specs.declared.lexeme.Position.{Position}
use Rattle.syntax_tree.specs.declared.expression.Argument.{Argument}
use Rattle.syntax_tree.specs.declared.expression.Element.{Element}
use Rattle.syntax_tree.specs.declared.expression.Designator.{Designator}
use Rattle.syntax_tree.specs.declared.expression.Factor.TheVariants as f
use Rattle.scopes.specs.Environment.{Environment}
use Rattle.syntax_tree.specs.expression_tree.Trees.{Tree, call, set, begins, view_factor, view_designator, view_arguments, view_elements}
use Rattle.syntax_tree.proofs.expression_tree.Views.{view_call, view_set}
use Rattle.typed_tree.specs.declared.expressions.Expr.{Expr}
use Rattle.typed_tree.specs.Expressions.{Expression, view_expr}
use Rattle.typing_rules.specs.declared.faults.Fault.{Fault}
use Rattle.typing_rules.specs.declared.faults.Refusal.{Refusal}
use Rattle.typing_rules.specs.declared.faults.Refusal.TheVariants as refusal
use Rattle.typing_rules.specs.Judgements.{Gives, FailsAs}
use Rattle.tp_check_expr.specs.declared.names.Purpose.{Purpose}
use Rattle.tp_check_expr.specs.Calls.{Callable, target_for}
use Rattle.tp_check_expr.specs.Typed.{judged_as, callable, called_for}

pub set_judged : (g : Environment) (for : Purpose) (here : Position) (elements : Vec Element Global)
    → (judged_as g for (view_factor (f.Set here elements))).run ≡ (judged_as g for (set here (view_elements elements.items))).run
set_judged g for here elements = ap (λ (t : Tree). (judged_as g for t).run) (view_set here elements)

module _ (g : Environment) (for : Purpose) (callee : Designator) (arguments : Vec Argument Global) where
  abbrev whole : Result Expression Fault
  whole = (judged_as g for (view_factor (f.Call callee arguments))).run

  abbrev before : Result Callable Fault
  before = (target_for g for (view_designator callee) (callable g (begins callee).place (view_designator callee))).run

  call_judged : whole ≡ (judged_as g for (call (begins callee) (view_designator callee) (view_arguments arguments.items))).run
  call_judged = ap (λ (t : Tree). (judged_as g for t).run) (view_call callee arguments)

  -- what stands before the arguments is none
  pub target_fails : (r : Refusal) → FailsAs r before → FailsAs r whole
  target_fails refusal.NoMemory e = tt
  target_fails (refusal.Because fault) e = call_judged ∙ rw e refl

  -- the call of what stands before them
  pub call_made : (one : Callable) (result : Result Expr Refusal) → before ≡ Ok one
      → Gives view_expr result (called_for g (begins callee) one (view_arguments arguments.items)).run → Gives view_expr result whole
  call_made one result e made =
      let m : whole ≡ (called_for g (begins callee) one (view_arguments arguments.items)).run = call_judged ∙ rw e refl in
      rw m made
