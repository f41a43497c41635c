-- Trees round a list that lies in a vector.
use Rattle.std.proofs.Common.{◌≡◌, ap, refl, ◌∙◌, Vec, Global}
use Rattle.pascal_grammar.specs.declared.lexeme.Position.{Position}
use Rattle.syntax_tree.specs.declared.expression.Factor.{Factor, Row_of-Element, end_of-Element, more_of-Element, Row_of-Argument, end_of-Argument, more_of-Argument, items-the_row-Element, items_hidden-the_row-Element-0, items-the_row-Argument, items_hidden-the_row-Argument-1}
use Rattle.syntax_tree.specs.declared.expression.Factor.TheVariants as f
use Rattle.syntax_tree.specs.declared.expression.Element.{Element}
use Rattle.syntax_tree.specs.declared.expression.Argument.{Argument}
use Rattle.syntax_tree.specs.declared.expression.Designator.{Designator}
use Rattle.syntax_tree.specs.expression_tree.Trees.{Elements, Operands, and_element, and_operand, set, call, begins, view_factor, view_designator, view_element, view_elements, view_element_row, view_argument, view_arguments, view_argument_row}

element_row : (n : _) (row : Row_of-Element n) → view_element_row row ≡ view_elements (items-the_row-Element n row)
element_row n end_of-Element = refl
element_row n (more_of-Element one rest) = ap (λ (z : Elements). and_element (view_element one) z) (element_row _ rest)

argument_row : (n : _) (row : Row_of-Argument n) → view_argument_row row ≡ view_arguments (items-the_row-Argument n row)
argument_row n end_of-Argument = refl
argument_row n (more_of-Argument one rest) = ap (λ (z : Operands). and_operand (view_argument one) z) (argument_row _ rest)

abbrev elements_of : Factor → (n : _) × Row_of-Element n
elements_of (f.Set' here shape elements) = (_, elements)
elements_of _ = (_, end_of-Element)

abbrev arguments_of : Factor → (n : _) × Row_of-Argument n
arguments_of (f.Call' callee shape arguments) = (_, arguments)
arguments_of _ = (_, end_of-Argument)

-- a set constructor, by the list of its elements
pub view_set : (here : Position) (elements : Vec Element Global) → view_factor (f.Set here elements) ≡ set here (view_elements elements.items)
view_set here elements =
    let row = elements_of (f.Set here elements) in
    ap (λ (z : Elements). set here z) (element_row row.0 row.1 ∙ ap view_elements (items_hidden-the_row-Element-0 elements))

-- a call, by the list of its arguments
pub view_call : (callee : Designator) (arguments : Vec Argument Global) → view_factor (f.Call callee arguments) ≡ call (begins callee) (view_designator callee) (view_arguments arguments.items)
view_call callee arguments =
    let row = arguments_of (f.Call callee arguments) in
    ap (λ (z : Operands). call (begins callee) (view_designator callee) z) (argument_row row.0 row.1 ∙ ap view_arguments (items_hidden-the_row-Argument-1 arguments))
