-- When an expression is typed, and when a fault is in it.
use Rattle.std.specs.Prelude.{ℕ, ℤ, not, bit_xor, pos, List, [], ◌∷◌, Option, Some, None}
use Rattle.type_layout.specs.declared.definitions.TypeId.{TypeId}
use Rattle.type_layout.specs.declared.definitions.TypeDef.{TypeDef}
use Rattle.type_layout.specs.declared.definitions.Param.{Param}
use Rattle.type_layout.specs.declared.texts.Place.{Place}
use Rattle.pascal_grammar.specs.declared.lexeme.Position.{Position}
use Rattle.syntax_tree.specs.declared.expression.PlacedSign.{PlacedSign}
use Rattle.typed_tree.specs.declared.expressions.Value.TheVariants as value
use Rattle.typed_tree.specs.Expressions.{Expression, Const}
use Rattle.scopes.specs.Environment.{Environment}
use Rattle.typing_rules.specs.declared.faults.Fault.{Fault}
use Rattle.typing_rules.specs.declared.faults.Rule.TheVariants as rules
use Rattle.typing_rules.specs.Faults.{broken}
use Rattle.typing_rules.specs.Judgements.{Judgement, makes, refuses, either, part, parts}
use Rattle.typing_rules.specs.Sorts.{char, string, number_type}
use Rattle.typing_rules.specs.Wanted as wanted
use Rattle.typing_rules.specs.Operators as operator
use Rattle.typing_rules.specs.Selectors as selector
use Rattle.call_rules.specs.set_rules.Sets as sets
use Rattle.call_rules.specs.set_rules.Sets.{Item, constructed}
use Rattle.call_rules.specs.standard_rules.Sizes.{is_size, sized, variable_sized}
use Rattle.call_rules.specs.allocation_rules.Allocations.{blank, newly_made}
use Rattle.syntax_tree.specs.expression_tree.Trees.{Tree, Listed, Elements, single, span, no_elements, and_element, Operand, Operands, plain, wide, no_operands, and_operand, number, text, control, nil, set, call, signed, negated, combined, name, field, index, followed, of_sign}
use Rattle.tp_check_expr.specs.declared.names.Purpose.{Purpose}
use Rattle.tp_check_expr.specs.declared.names.Purpose.TheVariants as purpose
use Rattle.tp_check_expr.specs.declared.owners.TypeName.{TypeName}
use Rattle.tp_check_expr.specs.Names.{purpose_of, as_wanted}
use Rattle.tp_check_expr.specs.Owners.{type_in, by_type, inherited_from}
use Rattle.tp_check_expr.specs.Calls.{method_wanted, chosen, name_judged, Callable, method, entered_by, member_callable, callable_name, params_of, target_for, applied}

-- a literal number has the first of Integer, Word and LongInt that holds it
abbrev pub number_constant : ℤ → Expression
number_constant n = Const (number_type n) (value.Number n)

abbrev pub char_constant : ℕ → Expression
char_constant byte = Const char (value.Number (pos byte))

-- a text of one byte is a Char
abbrev pub text_constant : List ℕ → Expression
text_constant (byte ∷ []) = char_constant byte
text_constant bytes = Const string (value.Chars bytes)

-- the control character of a letter
abbrev pub control_constant : List ℕ → Expression
control_constant (letter ∷ []) = char_constant (bit_xor letter 64)
control_constant bytes = Const string (value.Chars bytes)

-- a sign that may stand before an operand
abbrev pub marked : List TypeDef → Option PlacedSign → Expression → Judgement Expression
marked types None x = makes x
marked types (Some mark) x = operator.signed types mark.position.place (of_sign mark.sign) x

-- the first of some parameters, and those behind it
abbrev pub first_param : List Param → Option Param
first_param [] = None
first_param (one ∷ rest) = Some one

abbrev pub rest_params : List Param → List Param
rest_params [] = []
rest_params (one ∷ rest) = rest

-- SizeOf of a type that is named, or else of a variable
abbrev pub size_by : Environment → Place → Option TypeName → Judgement Expression → Judgement Expression
size_by g place ty variable = by_type ty (λ one. makes (sized g.types.types one.ty)) (part variable (λ e. variable_sized g.types.types place e))

-- New with what calls a constructor
abbrev pub making : Place → Judgement Expression → Judgement Expression
making place made = part made (λ e. newly_made place e)

-- a type is due where there is none, or other arguments are; behind what stands there
abbrev pub misplaced : {A : Type 0} → Place → Judgement A → Judgement Expression
misplaced place given = part given (λ a. refuses (broken place rules.Stands))

abbrev pub miscalled : {A : Type 0} → Place → Judgement A → Judgement Expression
miscalled place given = part given (λ a. refuses (broken place rules.Called))

-- What a checker answers for an expression, what its node is, and which faults are in it: from the judgements of its parts. What
-- it stands for matters to designators alone, and to constructors behind a New.
abbrev mutual
  pub judged_as : Environment → Purpose → Tree → Judgement Expression
  judged_as g for (number place n) = makes (number_constant n)
  judged_as g for (text place bytes) = makes (text_constant bytes)
  judged_as g for (control place letter) = makes (control_constant letter)
  judged_as g for (nil place) = makes wanted.nil
  judged_as g for (set here listed) = part (items_judged g listed) (λ items. constructed g.types.types here.place here.switches.r items)
  judged_as g for (call here callee given) =
      part (target_for g for callee (callable g here.place callee))
      (λ one. applied g.types.types here one (all_given g here (params_of one) given) (λ n. special_given g here n (all_given g here [] given) given))
  judged_as g for (signed mark a) = part (judged_as g purpose.Value a) (λ x. marked g.types.types mark x)
  judged_as g for (negated place a) = part (judged_as g purpose.Value a) (λ x. operator.negated g.types.types place x)
  judged_as g for (combined here op a b) =
      parts (judged_as g purpose.Value a) (judged_as g purpose.Value b) (λ x y. operator.combined g.types.types here.place op (not here.switches.b) x y)
  judged_as g for (name here word) = name_judged g here for word
  judged_as g for (field here a word) =
      by_type (type_in g a) (λ one. part (inherited_from g here.place one word) (λ b. method_wanted g.types.types here for b))
      (part (judged_as g purpose.Value a) (λ x. chosen g here for x word))
  judged_as g for (index here a i) =
      part (parts (judged_as g purpose.Value a) (judged_as g purpose.Value i) (λ x y. selector.indexed g.types.types here.place here.switches.r x y))
      (λ e. as_wanted g.types.types here.place for e)
  judged_as g for (followed place a) =
      part (part (judged_as g purpose.Value a) (λ x. selector.followed g.types.types place x)) (λ e. as_wanted g.types.types place for e)

  -- what stands before arguments, in a call that begins at a place
  pub callable : Environment → Place → Tree → Judgement Callable
  callable g place (name at word) = callable_name g at.place word
  callable g place (field at a word) =
      by_type (type_in g a) (λ one. part (inherited_from g at.place one word) (λ b. makes (method b)))
      (part (judged_as g purpose.Value a) (λ x. member_callable g place at.place x word))
  callable g place (index at a i) =
      part (parts (judged_as g purpose.Value a) (judged_as g purpose.Value i) (λ x y. selector.indexed g.types.types at.place at.switches.r x y))
      (λ e. entered_by g.types.types place e)
  callable g place (followed at a) =
      part (part (judged_as g purpose.Value a) (λ x. selector.followed g.types.types at x)) (λ e. entered_by g.types.types place e)
  callable g place _ = refuses (broken place rules.Stands)

  -- what a set constructor lists
  pub items_judged : Environment → Elements → Judgement (List Item)
  items_judged g no_elements = makes []
  items_judged g (and_element one rest) = parts (item_judged g one) (items_judged g rest) (λ x xs. makes (x ∷ xs))

  pub item_judged : Environment → Listed → Judgement Item
  item_judged g (single a) = part (judged_as g purpose.Value a) (λ x. makes (sets.single x))
  item_judged g (span a b) = parts (judged_as g purpose.Value a) (judged_as g purpose.Value b) (λ x y. makes (sets.span x y))

  -- arguments of a call that begins here, by the parameters as far as there are any; none has a width
  pub all_given : Environment → Position → List Param → Operands → Judgement (List Expression)
  all_given g here params no_operands = makes []
  all_given g here params (and_operand one rest) =
      parts (one_given g here (first_param params) one) (all_given g here (rest_params params) rest) (λ e es. makes (e ∷ es))

  pub one_given : Environment → Position → Option Param → Operand → Judgement Expression
  one_given g here param (plain one) = judged_as g (purpose_of g.types.types here.place param) one
  one_given g here param (wide one width) =
      parts (judged_as g purpose.Value one) (judged_as g purpose.Value width) (λ e w. refuses (broken here.place rules.Called))

  -- Calls of the standard functions that take types, where the arguments have these values: a fault in these is told before
  -- that of the call.
  pub special_given : Environment → Position → ℕ → Judgement (List Expression) → Operands → Judgement Expression
  special_given g here n values (and_operand (plain one) no_operands) =
      either (is_size n)
      (size_by g here.place (type_in g one) (judged_as g purpose.Variable one))
      (by_type (type_in g one) (λ t. blank g.types.types here.place t.ty) (misplaced here.place (judged_as g purpose.Value one)))
  special_given g here n values (and_operand (plain one) (and_operand (plain two) no_operands)) =
      either (is_size n) (miscalled here.place values)
      (by_type (type_in g one) (λ t. making here.place (judged_as g (purpose.Constructor t.ty here.place) two)) (misplaced here.place (judged_as g purpose.Value one)))
  special_given g here n values _ = miscalled here.place values

-- ---- parts by themselves

-- a call that begins here, with these arguments
abbrev pub called_for : Environment → Position → Callable → Operands → Judgement Expression
called_for g here one given = applied g.types.types here one (all_given g here (params_of one) given) (λ n. special_given g here n (all_given g here [] given) given)

abbrev pub size_of_one : Environment → Place → Tree → Judgement Expression
size_of_one g place tree = size_by g place (type_in g tree) (judged_as g purpose.Variable tree)

-- a new block with the constructor that an expression calls, for a New at a place of this pointer type
abbrev pub made_by : Environment → Place → TypeId → Tree → Judgement Expression
made_by g place ty tree = making place (judged_as g (purpose.Constructor ty place) tree)

-- ---- expressions

-- the value of an expression
abbrev pub judged : Environment → Tree → Judgement Expression
judged g tree = judged_as g purpose.Value tree

-- the expression has this node: every rule holds in it, and each node has the type that the rules give it
abbrev pub IsTypedAs : Environment → Tree → Expression → Type 0
IsTypedAs g tree e = (judged g tree).holds e

-- a rule fails at a place in the expression, while all hold in the parts of the construct that stands there
abbrev pub FailsAt : Environment → Tree → Fault → Type 0
FailsAt g tree fault = (judged g tree).fails fault
