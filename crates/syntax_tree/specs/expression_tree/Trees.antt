-- Expressions as operators and operands: the levels of the grammar, parentheses and where nodes lie in memory are left out.
use Rattle.std.specs.Prelude.{ℕ, ℤ, List, [], ◌∷◌, Option, Some, None}
use Rattle.type_layout.specs.declared.texts.Place.{Place}
use Rattle.pascal_grammar.specs.declared.lexeme.Position.{Position}
use Rattle.pascal_grammar.specs.declared.operator.Relator.{Relator}
use Rattle.pascal_grammar.specs.declared.operator.Relator.TheVariants as relator
use Rattle.pascal_grammar.specs.declared.operator.Adder.{Adder}
use Rattle.pascal_grammar.specs.declared.operator.Adder.TheVariants as adder
use Rattle.pascal_grammar.specs.declared.operator.Multiplier.{Multiplier}
use Rattle.pascal_grammar.specs.declared.operator.Multiplier.TheVariants as multiplier
use Rattle.pascal_grammar.specs.declared.operator.Sign.{Sign}
use Rattle.pascal_grammar.specs.declared.operator.Sign.TheVariants as sign
use Rattle.syntax_tree.specs.declared.expression.PlacedSign.{PlacedSign}
use Rattle.syntax_tree.specs.declared.expression.Expression.{Expression}
use Rattle.syntax_tree.specs.declared.expression.Expression.TheVariants as e
use Rattle.syntax_tree.specs.declared.expression.SimpleExpression.{SimpleExpression}
use Rattle.syntax_tree.specs.declared.expression.SimpleExpression.TheVariants as s
use Rattle.syntax_tree.specs.declared.expression.Term.{Term}
use Rattle.syntax_tree.specs.declared.expression.Term.TheVariants as t
use Rattle.syntax_tree.specs.declared.expression.Factor.{Factor, Row_of-Element, end_of-Element, more_of-Element, Row_of-Argument, end_of-Argument, more_of-Argument}
use Rattle.syntax_tree.specs.declared.expression.Factor.TheVariants as f
use Rattle.syntax_tree.specs.declared.expression.Element.{Element}
use Rattle.syntax_tree.specs.declared.expression.Element.TheVariants as x
use Rattle.syntax_tree.specs.declared.expression.Argument.{Argument}
use Rattle.syntax_tree.specs.declared.expression.Argument.TheVariants as a
use Rattle.syntax_tree.specs.declared.expression.Designator.{Designator}
use Rattle.syntax_tree.specs.declared.expression.Designator.TheVariants as d
use Rattle.typed_tree.specs.declared.expressions.UnaryOp.{UnaryOp}
use Rattle.typed_tree.specs.declared.expressions.UnaryOp.TheVariants as unary
use Rattle.typed_tree.specs.declared.expressions.BinaryOp.{BinaryOp}
use Rattle.typed_tree.specs.declared.expressions.BinaryOp.TheVariants as binary

mutual
  -- Each with its place: that of its first lexeme, of an operator or a selector that lexeme's own. Those whose nodes may
  -- depend on switches come with the ones that hold there. Before an operand a sign may stand.
  pub data Tree : Type 0 where
    number : Place → ℤ → Tree
    text : Place → List ℕ → Tree
    control : Place → List ℕ → Tree
    nil : Place → Tree
    set : Position → Elements → Tree
    call : Position → Tree → Operands → Tree
    signed : Option PlacedSign → Tree → Tree
    negated : Place → Tree → Tree
    combined : Position → BinaryOp → Tree → Tree → Tree
    name : Position → List ℕ → Tree
    field : Position → Tree → List ℕ → Tree
    index : Position → Tree → Tree → Tree
    followed : Place → Tree → Tree

  -- what a set constructor lists: one, or all from one to another
  pub data Listed : Type 0 where
    single : Tree → Listed
    span : Tree → Tree → Listed

  pub data Elements : Type 0 where
    no_elements : Elements
    and_element : Listed → Elements → Elements

  -- an argument, alone or with a width
  pub data Operand : Type 0 where
    plain : Tree → Operand
    wide : Tree → Tree → Operand

  pub data Operands : Type 0 where
    no_operands : Operands
    and_operand : Operand → Operands → Operands

-- ---- operators

abbrev pub of_relator : Relator → BinaryOp
of_relator relator.Equal = binary.Equal
of_relator relator.Unequal = binary.NotEqual
of_relator relator.Less = binary.Less
of_relator relator.Greater = binary.Greater
of_relator relator.AtMost = binary.LessOrEqual
of_relator relator.AtLeast = binary.GreaterOrEqual
of_relator relator.In = binary.In

abbrev pub of_adder : Adder → BinaryOp
of_adder adder.Plus = binary.Add
of_adder adder.Minus = binary.Subtract
of_adder adder.Or = binary.Or
of_adder adder.Xor = binary.Xor

abbrev pub of_multiplier : Multiplier → BinaryOp
of_multiplier multiplier.Times = binary.Multiply
of_multiplier multiplier.Div = binary.Divide
of_multiplier multiplier.Mod = binary.Modulo
of_multiplier multiplier.And = binary.And
of_multiplier multiplier.Shl = binary.ShiftLeft
of_multiplier multiplier.Shr = binary.ShiftRight

abbrev pub of_sign : Sign → UnaryOp
of_sign sign.Plus = unary.Plus
of_sign sign.Minus = unary.Minus

-- ---- trees

-- where a designator begins
abbrev pub begins : Designator → Position
begins (d.Name i) = i.position
begins (d.Field' p o here i) = begins o
begins (d.Index' p o mark here q i) = begins o
begins (d.Dereference' p o here) = begins o

abbrev mutual
  pub view_expression : Expression → Tree
  view_expression (e.Simple' p one) = view_simple one
  view_expression (e.Relation' p left op here q right) = combined here (of_relator op) (view_simple left) (view_simple right)

  pub view_simple : SimpleExpression → Tree
  view_simple (s.Term one) = view_term one
  view_simple (s.Signed mark one) = signed (Some mark) (view_term one)
  view_simple (s.Sum' p left op here mark right) = combined here (of_adder op) (view_simple left) (signed mark (view_term right))

  pub view_term : Term → Tree
  view_term (t.Factor' p one) = view_factor one
  view_term (t.Product' p left op here mark q right) = combined here (of_multiplier op) (view_term left) (signed mark (view_factor right))

  pub view_factor : Factor → Tree
  view_factor (f.Number n here) = number here.place n
  view_factor (f.Text bytes here) = text here.place bytes
  view_factor (f.Control here letter) = control here.place letter.name
  view_factor (f.Nil here) = nil here.place
  view_factor (f.Negation' here p operand) = negated here.place (view_factor operand)
  view_factor (f.Group' here p inner) = view_expression inner
  view_factor (f.Set' here shape elements) = set here (view_element_row elements)
  view_factor (f.Designator one) = view_designator one
  view_factor (f.Call' callee shape arguments) = call (begins callee) (view_designator callee) (view_argument_row arguments)

  pub view_designator : Designator → Tree
  view_designator (d.Name i) = name i.position i.name
  view_designator (d.Field' p owner here i) = field here (view_designator owner) i.name
  view_designator (d.Index' p owner mark here q i) = index here (view_designator owner) (view_expression i)
  view_designator (d.Dereference' p owner here) = followed here.place (view_designator owner)

  pub view_element_row : {n : _} → Row_of-Element n → Elements
  view_element_row end_of-Element = no_elements
  view_element_row (more_of-Element one rest) = and_element (view_element one) (view_element_row rest)

  pub view_element : Element → Listed
  view_element (x.Single one) = single (view_expression one)
  view_element (x.Range low high) = span (view_expression low) (view_expression high)

  pub view_argument_row : {n : _} → Row_of-Argument n → Operands
  view_argument_row end_of-Argument = no_operands
  view_argument_row (more_of-Argument one rest) = and_operand (view_argument one) (view_argument_row rest)

  pub view_argument : Argument → Operand
  view_argument (a.Plain one) = plain (view_expression one)
  view_argument (a.Wide one width) = wide (view_expression one) (view_expression width)

-- the elements of a list
abbrev pub view_elements : List Element → Elements
view_elements [] = no_elements
view_elements (one ∷ rest) = and_element (view_element one) (view_elements rest)

-- the arguments of a list
abbrev pub view_arguments : List Argument → Operands
view_arguments [] = no_operands
view_arguments (one ∷ rest) = and_operand (view_argument one) (view_arguments rest)

-- ---- designators as arguments

-- a name, or what is selected from another designator
abbrev pub designator_in : Tree → Option Tree
designator_in (name here one) = Some (name here one)
designator_in (field here owner one) = Some (field here owner one)
designator_in (index here owner i) = Some (index here owner i)
designator_in (followed place owner) = Some (followed place owner)
designator_in _ = None

-- the designator that is the one argument, as a type or a variable is where no value is asked for
abbrev pub sole_designator : Operands → Option Tree
sole_designator (and_operand (plain a) no_operands) = designator_in a
sole_designator _ = None
