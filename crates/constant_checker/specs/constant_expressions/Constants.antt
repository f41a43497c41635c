-- When an expression is a constant, its value and type, and when a fault is in it.
use Rattle.std.specs.Prelude.{ℕ, bit_xor, false, List, [], ◌∷◌, ◌++◌, Option, Some, None}
use Rattle.type_layout.specs.declared.definitions.TypeDef.{TypeDef}
use Rattle.type_layout.specs.declared.texts.Place.{Place}
use Rattle.tp_lexer.specs.declared.token.Feature.{Feature}
use Rattle.tp_lexer.specs.left_out_names.Names.{feature_of}
use Rattle.syntax_tree.specs.declared.expression.PlacedSign.{PlacedSign}
use Rattle.typed_tree.specs.Expressions.{Expression}
use Rattle.scopes.specs.declared.entries.Entry.{Entry}
use Rattle.scopes.specs.declared.entries.Entry.TheVariants as entry
use Rattle.scopes.specs.Environment.{Environment, Meaning, named, member, find}
use Rattle.typing_rules.specs.declared.faults.Fault.{Fault}
use Rattle.typing_rules.specs.declared.faults.Rule.TheVariants as rules
use Rattle.typing_rules.specs.Faults.{broken, undeclared}
use Rattle.typing_rules.specs.Judgements.{Judgement, makes, refuses, either, part, parts}
use Rattle.typing_rules.specs.Selectors as selector
use Rattle.syntax_tree.specs.expression_tree.Trees.{Tree, Listed, Elements, single, span, no_elements, and_element, Operand, Operands, plain, wide, no_operands, and_operand, number, text, control, nil, set, call, signed, negated, combined, name, field, index, followed, of_sign, sole_designator}
use Rattle.constant_checker.specs.declared.constant_expressions.constants.Constant.{Constant}
use Rattle.constant_checker.specs.constant_expressions.Values as values
use Rattle.constant_checker.specs.constant_expressions.Values.{integer, character, of_value}
use Rattle.constant_checker.specs.constant_expressions.Functions.{function_named, called_with}
use Rattle.constant_checker.specs.declared.constant_expressions.constructors.Span.{Span}
use Rattle.constant_checker.specs.constant_expressions.Constructors.{ordinal_of, span_of, set_of}
use Rattle.constant_checker.specs.constant_expressions.Sizes.{asks_size, operand, selected_from, owner_name, size_called}

-- ---- literals

-- a text of one byte is a Char
abbrev pub of_text : List ℕ → Constant
of_text (byte ∷ []) = character byte
of_text bytes = values.text bytes

-- the control character of a letter
abbrev pub of_control : List ℕ → Constant
of_control (letter ∷ []) = character (bit_xor letter 64)
of_control bytes = values.text bytes

-- ---- names

-- a type stands nowhere in a constant, and a variable or a routine is none
abbrev pub of_entry : List TypeDef → Place → Entry → Judgement Constant
of_entry types place (entry.Const ty v) = makes (of_value types ty v)
of_entry types place (entry.Ty ty) = refuses (broken place rules.Stands)
of_entry types place _ = refuses (broken place rules.Constant)

-- a field of a `with` or of Self is a variable
abbrev pub of_meaning : List TypeDef → Place → Option Feature → Option Meaning → Judgement Constant
of_meaning types place feature None = refuses (undeclared place feature)
of_meaning types place feature (Some (named n one)) = of_entry types place one
of_meaning types place feature (Some (member n one)) = refuses (broken place rules.Constant)

unfoldable pub of_name : Environment → Place → List ℕ → Judgement Constant
of_name g place word = of_meaning g.types.types place (feature_of word) (find g word)

-- ---- expressions

-- a sign that may stand before an operand
abbrev pub marked : List TypeDef → Option PlacedSign → Constant → Judgement Constant
marked types None a = makes a
marked types (Some mark) a = values.signed types mark.position.place (of_sign mark.sign) a

-- What a checker answers for a constant expression, what its value is, and which faults are in it: from the judgements of its
-- parts. A constant is no record, array or pointer, so that nothing is selected from it.
abbrev mutual
  pub judged : Environment → Tree → Judgement Constant
  judged g (number place n) = makes (integer n)
  judged g (text place bytes) = makes (of_text bytes)
  judged g (control place letter) = makes (of_control letter)
  judged g (nil place) = refuses (broken place rules.Constant)
  judged g (set here elements) = part (spans_judged g [] elements) (λ spans. set_of g.types.types here.place spans)
  judged g (call here callee given) =
      either (asks_size g callee) (size_called g here.place (sole_designator given) (sole_meant g here.place given) (operands_judged g here.place [] given))
      (parts (function_named g here.place callee) (operands_judged g here.place [] given) (λ f xs. called_with g.types.types here.place f xs))
  judged g (signed mark a) = part (judged g a) (λ x. marked g.types.types mark x)
  judged g (negated place a) = part (judged g a) (λ x. values.negated g.types.types place x)
  judged g (combined here op a b) = parts (judged g a) (judged g b) (λ x y. values.combined g.types.types here.place op x y)
  judged g (name here one) = of_name g here.place one
  judged g (field here a one) = part (judged g a) (λ x. refuses (broken here.place rules.Selected))
  judged g (index here a i) = parts (judged g a) (judged g i) (λ x y. refuses (broken here.place rules.Indexed))
  judged g (followed place a) = part (judged g a) (λ x. refuses (broken place rules.Dereferenced))

  -- What a designator means in the parentheses of SizeOf, in a call at a place: a variable, whatever is in it, or a constant. An index
  -- is a constant.
  pub meant : Environment → Place → Tree → Judgement Expression
  meant g place (name here word) = owner_name g here.place word
  meant g place (field here a word) = part (meant g place a) (λ x. selected_from g.types.types here.place x word)
  meant g place (index here a i) = parts (meant g place a) (judged g i) (λ x c. selector.indexed g.types.types here.place false x (operand c))
  meant g place (followed at a) = part (meant g place a) (λ x. selector.followed g.types.types at x)
  meant g place _ = refuses (broken place rules.Called)

  -- what the only argument means
  pub sole_meant : Environment → Place → Operands → Judgement Expression
  sole_meant g place (and_operand (plain a) no_operands) = meant g place a
  sole_meant g place _ = refuses (broken place rules.Called)

  -- what a set constructor lists, behind spans before it
  pub spans_judged : Environment → List Span → Elements → Judgement (List Span)
  spans_judged g before no_elements = makes before
  spans_judged g before (and_element one rest) = part (span_judged g one) (λ x. spans_judged g (before ++ x ∷ []) rest)

  pub span_judged : Environment → Listed → Judgement Span
  span_judged g (single a) = part (judged g a) (λ c. makes (span_of (ordinal_of g.types.types c) (ordinal_of g.types.types c)))
  span_judged g (span a b) = parts (judged g a) (judged g b) (λ c d. makes (span_of (ordinal_of g.types.types c) (ordinal_of g.types.types d)))

  -- arguments of a call at a place, behind those before them; none has a width
  pub operands_judged : Environment → Place → List Constant → Operands → Judgement (List Constant)
  operands_judged g place before no_operands = makes before
  operands_judged g place before (and_operand one rest) = part (operand_judged g place one) (λ x. operands_judged g place (before ++ x ∷ []) rest)

  pub operand_judged : Environment → Place → Operand → Judgement Constant
  operand_judged g place (plain a) = judged g a
  operand_judged g place (wide a width) = parts (judged g a) (judged g width) (λ x w. refuses (broken place rules.Called))

-- the expression is this constant: every rule holds in it
abbrev pub IsConstant : Environment → Tree → Constant → Type 0
IsConstant g tree c = (judged g tree).holds c

-- a rule fails at a place in the expression, while all hold in the parts of the construct that stands there
abbrev pub FailsAt : Environment → Tree → Fault → Type 0
FailsAt g tree fault = (judged g tree).fails fault
