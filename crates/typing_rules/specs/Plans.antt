-- The rules on operators: what each asks of its operands, and the types that the operands are wanted in and the result has.
use Rattle.std.specs.Prelude.{◌≡◌, ◌⊎◌, ◌==◌, Bool, true, false, ◌&&◌, ◌||◌, cond, Option, Some, None}
use Rattle.type_layout.specs.declared.definitions.TypeId.{TypeId}
use Rattle.typed_tree.specs.declared.expressions.BinaryOp.{BinaryOp}
use Rattle.typed_tree.specs.declared.expressions.BinaryOp.TheVariants as op
use Rattle.typing_rules.specs.declared.faults.Rule.{Rule}
use Rattle.typing_rules.specs.declared.faults.Rule.TheVariants as rule
use Rattle.typing_rules.specs.declared.sorts.SetBase.{SetBase}
use Rattle.typing_rules.specs.declared.sorts.SetBase.TheVariants as over
use Rattle.typing_rules.specs.declared.sorts.Sort.{Sort}
use Rattle.typing_rules.specs.declared.sorts.Sort.TheVariants as sort
use Rattle.typing_rules.specs.declared.plans.Operation.{Operation}
use Rattle.typing_rules.specs.declared.plans.Operation.TheVariants.{Sum, Product, Quotient, Shift, Logic, Equality, Inclusion, Order, Membership}
use Rattle.typing_rules.specs.declared.plans.Plan.{Plan}
use Rattle.typing_rules.specs.Sorts.{boolean, string, holding_type, common_type}

abbrev pub operation_of : BinaryOp → Operation
operation_of op.Add = Sum
operation_of op.Subtract = Product
operation_of op.Multiply = Product
operation_of op.Divide = Quotient
operation_of op.Modulo = Quotient
operation_of op.ShiftLeft = Shift
operation_of op.ShiftRight = Shift
operation_of op.And = Logic
operation_of op.Or = Logic
operation_of op.Xor = Logic
operation_of op.Equal = Equality
operation_of op.NotEqual = Equality
operation_of op.LessOrEqual = Inclusion
operation_of op.GreaterOrEqual = Inclusion
operation_of op.Less = Order
operation_of op.Greater = Order
operation_of op.In = Membership

-- ---- what the rules ask

abbrev pub IsInteger : Sort → Type 0
IsInteger (sort.Integer r) = Unit {0}
IsInteger _ = ⊥

abbrev pub IsBoolean : Sort → Type 0
IsBoolean sort.Boolean = Unit {0}
IsBoolean _ = ⊥

-- a Char stands as a string too
abbrev pub IsText : Sort → Type 0
IsText sort.Text = Unit {0}
IsText sort.Char = Unit {0}
IsText _ = ⊥

-- ordinals of one host: all integers are of one, each enumeration is of its own
abbrev pub AreOfOneHost : Sort → Sort → Type 0
AreOfOneHost (sort.Integer r) (sort.Integer s) = Unit {0}
AreOfOneHost sort.Boolean sort.Boolean = Unit {0}
AreOfOneHost sort.Char sort.Char = Unit {0}
AreOfOneHost (sort.Enumeration a) (sort.Enumeration b) = a.0 ≡ b.0
AreOfOneHost _ _ = ⊥

abbrev pub AreIntegers : Sort → Sort → Type 0
AreIntegers a b = IsInteger a × IsInteger b

abbrev pub AreBooleans : Sort → Sort → Type 0
AreBooleans a b = IsBoolean a × IsBoolean b

abbrev pub AreTexts : Sort → Sort → Type 0
AreTexts a b = IsText a × IsText b

-- sets whose elements are of one host; the empty set goes with any
abbrev pub AreOfOneBase : SetBase → SetBase → Type 0
AreOfOneBase over.Any b = Unit {0}
AreOfOneBase a over.Any = Unit {0}
AreOfOneBase over.Integers over.Integers = Unit {0}
AreOfOneBase over.Booleans over.Booleans = Unit {0}
AreOfOneBase over.Chars over.Chars = Unit {0}
AreOfOneBase (over.Enumeration a) (over.Enumeration b) = a.0 ≡ b.0
AreOfOneBase _ _ = ⊥

abbrev pub AreSets : Sort → Sort → Type 0
AreSets (sort.Set a) (sort.Set b) = AreOfOneBase a b
AreSets _ _ = ⊥

-- what the elements of the sets are that hold an ordinal
abbrev pub base_holding : Sort → Option SetBase
base_holding (sort.Integer r) = Some over.Integers
base_holding sort.Boolean = Some over.Booleans
base_holding sort.Char = Some over.Chars
base_holding (sort.Enumeration ty) = Some (over.Enumeration ty)
base_holding _ = None

abbrev pub IsHeldBy : Option SetBase → Sort → Type 0
IsHeldBy (Some a) (sort.Set b) = AreOfOneBase a b
IsHeldBy _ _ = ⊥

-- an ordinal and a set of its host
abbrev pub IsMember : Sort → Sort → Type 0
IsMember a b = IsHeldBy (base_holding a) b

-- what is asked of the operands of an operator
abbrev pub Asks : Operation → Sort → Sort → Type 0
Asks Sum a b = AreIntegers a b ⊎ (AreTexts a b ⊎ AreSets a b)
Asks Product a b = AreIntegers a b ⊎ AreSets a b
Asks Quotient a b = AreIntegers a b
Asks Shift a b = AreIntegers a b
Asks Logic a b = AreIntegers a b ⊎ AreBooleans a b
Asks Equality a b = AreOfOneHost a b ⊎ (AreTexts a b ⊎ AreSets a b)
Asks Inclusion a b = AreOfOneHost a b ⊎ (AreTexts a b ⊎ AreSets a b)
Asks Order a b = AreOfOneHost a b ⊎ AreTexts a b
Asks Membership a b = IsMember a b

-- of that of `not`
abbrev pub AsksNot : Sort → Type 0
AsksNot a = IsInteger a ⊎ IsBoolean a

-- ---- tests

abbrev pub is_integer : Sort → Bool
is_integer (sort.Integer r) = true
is_integer _ = false

abbrev pub is_boolean : Sort → Bool
is_boolean sort.Boolean = true
is_boolean _ = false

abbrev pub is_text : Sort → Bool
is_text sort.Text = true
is_text sort.Char = true
is_text _ = false

abbrev pub are_of_one_host : Sort → Sort → Bool
are_of_one_host (sort.Integer r) (sort.Integer s) = true
are_of_one_host sort.Boolean sort.Boolean = true
are_of_one_host sort.Char sort.Char = true
are_of_one_host (sort.Enumeration a) (sort.Enumeration b) = a.0 == b.0
are_of_one_host _ _ = false

abbrev pub are_integers : Sort → Sort → Bool
are_integers a b = is_integer a && is_integer b

abbrev pub are_booleans : Sort → Sort → Bool
are_booleans a b = is_boolean a && is_boolean b

abbrev pub are_texts : Sort → Sort → Bool
are_texts a b = is_text a && is_text b

abbrev pub are_of_one_base : SetBase → SetBase → Bool
are_of_one_base over.Any b = true
are_of_one_base a over.Any = true
are_of_one_base over.Integers over.Integers = true
are_of_one_base over.Booleans over.Booleans = true
are_of_one_base over.Chars over.Chars = true
are_of_one_base (over.Enumeration a) (over.Enumeration b) = a.0 == b.0
are_of_one_base _ _ = false

abbrev pub are_sets : Sort → Sort → Bool
are_sets (sort.Set a) (sort.Set b) = are_of_one_base a b
are_sets _ _ = false

abbrev pub is_held_by : Option SetBase → Sort → Bool
is_held_by (Some a) (sort.Set b) = are_of_one_base a b
is_held_by _ _ = false

abbrev pub is_member : Sort → Sort → Bool
is_member a b = is_held_by (base_holding a) b

abbrev pub allows : Operation → Sort → Sort → Bool
allows Sum a b = are_integers a b || (are_texts a b || are_sets a b)
allows Product a b = are_integers a b || are_sets a b
allows Quotient a b = are_integers a b
allows Shift a b = are_integers a b
allows Logic a b = are_integers a b || are_booleans a b
allows Equality a b = are_of_one_host a b || (are_texts a b || are_sets a b)
allows Inclusion a b = are_of_one_host a b || (are_texts a b || are_sets a b)
allows Order a b = are_of_one_host a b || are_texts a b
allows Membership a b = is_member a b

abbrev pub allows_not : Sort → Bool
allows_not a = is_integer a || is_boolean a

-- ---- the rule that is broken

-- `+` without an integer is no arithmetic
abbrev pub sum_rule : Sort → Sort → Rule
sum_rule a b = cond (is_integer a || is_integer b) rule.Arithmetic rule.Joined

abbrev pub is_set : Sort → Bool
is_set (sort.Set a) = true
is_set _ = false

-- `-` and `*` of two sets are none either
abbrev pub product_rule : Sort → Sort → Rule
product_rule a b = cond (is_set a && is_set b) rule.Joined rule.Arithmetic

abbrev pub rule_of : Operation → Sort → Sort → Rule
rule_of Sum a b = sum_rule a b
rule_of Product a b = product_rule a b
rule_of Quotient a b = rule.Arithmetic
rule_of Shift a b = rule.Arithmetic
rule_of Logic a b = rule.Logic
rule_of Equality a b = rule.Compared
rule_of Inclusion a b = rule.Compared
rule_of Order a b = rule.Compared
rule_of Membership a b = rule.Membership

-- ---- the types

-- both operands in this type, and a result of that one
abbrev pub alike : Option TypeId → TypeId → Plan
alike wanted ty = record { left = wanted; right = wanted; ty = ty }

abbrev pub plain : TypeId → Plan
plain ty = alike (Some ty) ty

-- the type in which two operands are compared
abbrev pub compared_in : Sort → Sort → Option TypeId
compared_in (sort.Integer r) (sort.Integer s) = Some (common_type r s)
compared_in sort.Text b = Some string
compared_in a sort.Text = Some string
compared_in _ _ = None

abbrev pub computed : TypeId → Sort → Sort → Plan
computed other (sort.Integer r) (sort.Integer s) = plain (common_type r s)
computed other a b = plain other

-- a shift has the type of what is shifted, and its count is as it is
abbrev pub shifted : Sort → Plan
shifted (sort.Integer r) = record { left = Some (holding_type r); right = None; ty = holding_type r }
shifted a = plain boolean

abbrev pub own_or : TypeId → Option TypeId → TypeId
own_or ty None = ty
own_or ty (Some own) = own

-- the type of two sets together: that of the left one, or of the right one where the left one may be over any base
abbrev pub set_type : SetBase → Option TypeId → Option TypeId → TypeId
set_type over.Any x y = own_or (own_or boolean x) y
set_type a x y = own_or boolean x

-- sets as they are, others as they are computed
abbrev pub joined_plan : TypeId → Sort → Sort → Option TypeId → Option TypeId → Plan
joined_plan other (sort.Set a) b x y = alike None (set_type a x y)
joined_plan other a b x y = computed other a b

-- Integers are computed in their common type, texts are joined as strings, truths and sets stay as they are. The operands' own
-- types come after what they are.
abbrev pub plan_of : Operation → Sort → Sort → Option TypeId → Option TypeId → Plan
plan_of Sum a b x y = joined_plan string a b x y
plan_of Product a b x y = joined_plan boolean a b x y
plan_of Shift a b x y = shifted a
plan_of Equality a b x y = alike (compared_in a b) boolean
plan_of Inclusion a b x y = alike (compared_in a b) boolean
plan_of Order a b x y = alike (compared_in a b) boolean
plan_of Membership a b x y = alike None boolean
plan_of _ a b x y = computed boolean a b

-- the type of a sign's or `not`'s result, in which the operand is wanted too
abbrev pub turned : Sort → TypeId
turned (sort.Integer r) = holding_type r
turned a = boolean

-- an `and` or `or` of Booleans, which the left side may decide
abbrev pub may_be_early : BinaryOp → Sort → Bool
may_be_early op.And a = is_boolean a
may_be_early op.Or a = is_boolean a
may_be_early _ a = false
