-- Literals of the first of a row and of the rest.
use Rattle.std.proofs.Common.{◌≡◌, ◌+◌, List, [], ◌++◌, length, length-append, arith}
use Rattle.typed_tree.specs.declared.expressions.SetElement.{SetElement}
use Rattle.typed_tree.specs.declared.expressions.SetElement.TheVariants as element
use Rattle.typed_tree.specs.declared.expressions.Arg.{Arg}
use Rattle.typed_tree.specs.declared.expressions.Arg.TheVariants as arg
use Rattle.typed_tree.specs.Expressions.{Elements, Arguments, NoElements, NoArguments, view_expr, view_place, view_element, view_arg}
use Rattle.flat_code.specs.Program.{Datum}
use Rattle.lower_places.specs.Data.{literals_of, literals_of_place, literals_of_elements, literals_of_arguments}

two : (xs ys : List Datum) → length (xs ++ ys) ≡ length (let none : List Datum = [] in xs ++ none) + length ys
two xs ys = let a = length-append xs ys in let b = length-append xs [] in omega (arith, a, b)

three : (xs ys zs : List Datum) → length (xs ++ (ys ++ zs)) ≡ length (let none : List Datum = [] in xs ++ (ys ++ none)) + length zs
three xs ys zs =
    let a = length-append xs (ys ++ zs) in
    let b = length-append ys zs in
    let none : List Datum = [] in
    let c = length-append xs (ys ++ none) in
    let d = length-append ys none in
    omega (arith, a, b, c, d)

pub element_step : (one : SetElement) (rest : Elements) → length (literals_of_elements (view_element one rest)) ≡ length (literals_of_elements (view_element one NoElements)) + length (literals_of_elements rest)
element_step (element.One one) rest = two (literals_of (view_expr one)) (literals_of_elements rest)
element_step (element.Span low high) rest = three (literals_of (view_expr low)) (literals_of (view_expr high)) (literals_of_elements rest)

pub arg_step : (one : Arg) (rest : Arguments) → length (literals_of_arguments (view_arg one rest)) ≡ length (literals_of_arguments (view_arg one NoArguments)) + length (literals_of_arguments rest)
arg_step (arg.Value value) rest = two (literals_of (view_expr value)) (literals_of_arguments rest)
arg_step (arg.Place at) rest = two (literals_of_place (view_place at)) (literals_of_arguments rest)
