-- Lists of trees inside a tree.
use Rattle.std.proofs.Common.{◌≡◌, ℕ, List, [], ◌∷◌, ◌++◌, refl, ap, subst, ◌∙◌, Vec, Global}
use Rattle.pascal_grammar.specs.declared.lexeme.Position.{Position}
use Rattle.pascal_grammar.specs.Productions as p
use Rattle.syntax_tree.specs.declared.expression.Element.{Element}
use Rattle.syntax_tree.specs.declared.expression.Argument.{Argument}
use Rattle.syntax_tree.specs.declared.expression.Designator.{Designator}
use Rattle.syntax_tree.specs.declared.expression.Factor.{Factor, Row_of-Element, end_of-Element, more_of-Element, items-the_row-Element, items_hidden-the_row-Element-0, Row_of-Argument, end_of-Argument, more_of-Argument, items-the_row-Argument, items_hidden-the_row-Argument-1}
use Rattle.syntax_tree.specs.declared.expression.Factor.TheVariants as f
use Rattle.syntax_tree.specs.Expressions.{Parsed, of, word, mark_at, closed, of_element, of_elements, more_elements, of_argument, of_arguments, more_arguments, of_factor, head_of, selectors}
use Rattle.expression_parser.specs.Views.{next_elements, elements_of, next_arguments, argument_list, arguments_of}

more_elements_is : (n : _) (row : Row_of-Element n) → more_elements row ≡ next_elements (items-the_row-Element n row) (of p.no_more_elements [])
more_elements_is n end_of-Element = refl
more_elements_is n (more_of-Element x rest) = ap (λ (z : Parsed). of p.next_element (word ∷ of_element x ∷ z ∷ [])) (more_elements_is _ rest)

elements_is : (n : _) (row : Row_of-Element n) → of_elements row ≡ elements_of (items-the_row-Element n row) (of p.no_more_elements [])
elements_is n end_of-Element = refl
elements_is n (more_of-Element x rest) = ap (λ (z : Parsed). of p.elements (of_element x ∷ z ∷ [])) (more_elements_is _ rest)

more_arguments_is : (n : _) (row : Row_of-Argument n) → more_arguments row ≡ next_arguments (items-the_row-Argument n row) (of p.no_more_arguments [])
more_arguments_is n end_of-Argument = refl
more_arguments_is n (more_of-Argument x rest) = ap (λ (z : Parsed). of p.next_argument (word ∷ of_argument x ∷ z ∷ [])) (more_arguments_is _ rest)

arguments_is : (n : _) (row : Row_of-Argument n) → of_arguments row ≡ arguments_of (items-the_row-Argument n row) (of p.no_more_arguments [])
arguments_is n end_of-Argument = refl
arguments_is n (more_of-Argument x rest) = ap (λ (z : Parsed). of p.arguments (word ∷ of_argument x ∷ z ∷ word ∷ [])) (more_arguments_is _ rest)

abbrev elements_row : Factor → (n : _) × Row_of-Element n
elements_row (f.Set' here _ row) = (_, row)
elements_row _ = (_, end_of-Element)

abbrev arguments_row : Factor → (n : _) × Row_of-Argument n
arguments_row (f.Call' d _ row) = (_, row)
arguments_row _ = (_, end_of-Argument)

-- a set constructor by the list of its elements
pub set_is : (here : Position) (all : Vec Element Global) → of_factor (f.Set here all) ≡ closed p.set_constructor (mark_at here ∷ elements_of all.items (of p.no_more_elements []) ∷ word ∷ [])
set_is here all =
    let row = elements_row (f.Set here all) in
    ap (λ (z : Parsed). closed p.set_constructor (mark_at here ∷ z ∷ word ∷ [])) (elements_is row.0 row.1 ∙ ap (λ (l : List Element). elements_of l (of p.no_more_elements [])) (items_hidden-the_row-Element-0 all))

-- a call by the list of its arguments
pub call_is : (d : Designator) (all : Vec Argument Global) → of_factor (f.Call d all) ≡ of p.bare_factor (of p.named_factor (head_of d ∷ selectors d (of p.no_selectors []) ∷ of p.call (arguments_of all.items (of p.no_more_arguments []) ∷ of p.argument_end [] ∷ []) ∷ []) ∷ [])
call_is d all =
    let row = arguments_row (f.Call d all) in
    ap (λ (z : Parsed). of p.bare_factor (of p.named_factor (head_of d ∷ selectors d (of p.no_selectors []) ∷ of p.call (z ∷ of p.argument_end [] ∷ []) ∷ []) ∷ [])) (arguments_is row.0 row.1 ∙ ap (λ (l : List Argument). arguments_of l (of p.no_more_arguments [])) (items_hidden-the_row-Argument-1 all))

pub elements_pushed : (x : Element) (all : List Element) (y : Element) (more : Parsed) → elements_of ((x ∷ all) ++ (y ∷ [])) more ≡ elements_of (x ∷ all) (of p.next_element (word ∷ of_element y ∷ more ∷ []))
elements_pushed x all y more = ap (λ (z : Parsed). of p.elements (of_element x ∷ z ∷ [])) (pushed all y more)
  where
    pushed : (all : List Element) (y : Element) (more : Parsed) → next_elements (all ++ (y ∷ [])) more ≡ next_elements all (of p.next_element (word ∷ of_element y ∷ more ∷ []))
    pushed [] y more = refl
    pushed (x ∷ all) y more = ap (λ (z : Parsed). of p.next_element (word ∷ of_element x ∷ z ∷ [])) (pushed all y more)

pub arguments_pushed : (x : Argument) (all : List Argument) (y : Argument) (more : Parsed) → argument_list ((x ∷ all) ++ (y ∷ [])) more ≡ argument_list (x ∷ all) (of p.next_argument (word ∷ of_argument y ∷ more ∷ []))
arguments_pushed x all y more = ap (λ (z : Parsed). (of_argument x, z)) (pushed all y more)
  where
    pushed : (all : List Argument) (y : Argument) (more : Parsed) → next_arguments (all ++ (y ∷ [])) more ≡ next_arguments all (of p.next_argument (word ∷ of_argument y ∷ more ∷ []))
    pushed [] y more = refl
    pushed (x ∷ all) y more = ap (λ (z : Parsed). of p.next_argument (word ∷ of_argument x ∷ z ∷ [])) (pushed all y more)
