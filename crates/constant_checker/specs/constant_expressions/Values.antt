-- Operators on constants. Integers are computed on 32 bits and wrap there.
use Rattle.std.specs.Prelude.{ℕ, ℤ, pos, ◌+ℤ◌, ◌-ℤ◌, ◌*ℤ◌, ◌≤ℤ◌, int_le, unsigned_abs, Bool, true, false, not, ◌&&◌, ◌||◌, cond, List, [], ◌∷◌, Option, Some, None}
use Rattle.std.specs.declared.cmp.Ordering.{Ordering}
use Rattle.std.specs.declared.cmp.Ordering.TheVariants as ordering
use Rattle.std.specs.Ordering.{int_eq, int_cmp}
use Rattle.type_layout.specs.declared.definitions.TypeId.{TypeId}
use Rattle.type_layout.specs.declared.definitions.TypeDef.{TypeDef}
use Rattle.type_layout.specs.declared.definitions.Host.TheVariants as host
use Rattle.type_layout.specs.declared.texts.Place.{Place}
use Rattle.type_layout.specs.Storage.{holds}
use Rattle.typed_tree.specs.declared.expressions.Value.{Value}
use Rattle.typed_tree.specs.declared.expressions.Value.TheVariants as value
use Rattle.typed_tree.specs.declared.expressions.UnaryOp.{UnaryOp}
use Rattle.typed_tree.specs.declared.expressions.BinaryOp.{BinaryOp}
use Rattle.typed_tree.specs.declared.expressions.BinaryOp.TheVariants as op
use Rattle.common_values.specs.declared.ordinals.IntegerType.TheVariants.{LongInt}
use Rattle.common_values.specs.Ordinals.{kept, quotient, remainder, left_shift, right_shift}
use Rattle.common_values.specs.Bits.{conjunction, disjunction, exclusive_disjunction, complement}
use Rattle.common_values.specs.Strings.{joined, compared}
use Rattle.common_values.specs.Sets.{ordinals_between, is_member, union, difference, intersection, is_subset, is_same}
use Rattle.typing_rules.specs.declared.faults.Rule.TheVariants as rules
use Rattle.typing_rules.specs.declared.plans.Operation.{Operation}
use Rattle.typing_rules.specs.declared.plans.Operation.TheVariants as operation
use Rattle.typing_rules.specs.declared.sorts.SetBase.{SetBase}
use Rattle.typing_rules.specs.declared.sorts.Sort.{Sort}
use Rattle.typing_rules.specs.declared.sorts.Sort.TheVariants as sort
use Rattle.typing_rules.specs.Faults.{broken}
use Rattle.typing_rules.specs.Judgements.{Judgement, makes, refuses, rule, either}
use Rattle.typing_rules.specs.Selectors.{asking}
use Rattle.typing_rules.specs.Sorts.{boolean, char, string, number_type, sort_of_type, sort_of_constant}
use Rattle.typing_rules.specs.Operators.{sign_value}
use Rattle.typing_rules.specs.Wanted.{constant_type}
use Rattle.typing_rules.specs.Plans.{operation_of, Asks, AsksNot, IsInteger, is_integer, is_text, allows, allows_not, rule_of, set_type}
use Rattle.constant_checker.specs.declared.constant_expressions.constants.Constant.{Constant}

-- a constant as it stands, for `Gives`
abbrev pub itself : Constant → Constant
itself c = c

-- an integer has the first of Integer, Word and LongInt that holds it
abbrev pub integer : ℤ → Constant
integer n = record { ty = number_type n; value = value.Number n }

abbrev pub truth : ℤ → Constant
truth n = record { ty = boolean; value = value.Number n }

abbrev pub character : ℕ → Constant
character byte = record { ty = char; value = value.Number (pos byte) }

abbrev pub text : List ℕ → Constant
text bytes = record { ty = string; value = value.Chars bytes }

-- a named constant: an integer has the first type that holds it
abbrev pub of_value : List TypeDef → TypeId → Value → Constant
of_value types ty (value.Number n) = record { ty = constant_type ty n (sort_of_type types ty); value = value.Number n }
of_value types ty v = record { ty = ty; value = v }

-- all from 0 to 255 in their order
unfoldable pub every_byte : List ℕ
every_byte = ordinals_between 0 255

-- a set lists its elements in their order
abbrev pub set_constant : TypeId → List ℕ → Constant
set_constant ty elements = record { ty = ty; value = value.Elements (intersection every_byte elements) }

-- the number of an ordinal
abbrev pub number_of : Value → ℤ
number_of (value.Number n) = n
number_of _ = pos 0

-- the bytes of a string, or of a Char that stands as one
abbrev pub bytes_of : Value → List ℕ
bytes_of (value.Number n) = cond (holds host.Char n n) (unsigned_abs n ∷ []) []
bytes_of (value.Chars bytes) = bytes
bytes_of _ = []

abbrev pub elements_of : Value → List ℕ
elements_of (value.Elements elements) = elements
elements_of _ = []

-- ---- bounds

abbrev pub IsWithin : ℤ × ℤ → ℤ → Type 0
IsWithin bounds n = (bounds.0 ≤ℤ n) × (n ≤ℤ bounds.1)

abbrev pub is_within : ℤ × ℤ → ℤ → Bool
is_within bounds n = int_le bounds.0 n && int_le n bounds.1

-- ---- numbers

-- nothing where the divisor is 0
abbrev pub divided : ℤ → ℤ → Option ℤ
divided b n = cond (int_eq b (pos 0)) None (Some n)

-- what an operator takes of an ordinal: an integer as it is, a Boolean as 0 or 1; it is true where it isn't 0
abbrev pub taken : Sort → ℤ → ℤ
taken s n = cond (is_integer s) n (cond (int_eq n (pos 0)) (pos 0) (pos 1))

abbrev pub computed : BinaryOp → ℤ → ℤ → Option ℤ
computed op.Add a b = Some (kept LongInt (a +ℤ b))
computed op.Subtract a b = Some (kept LongInt (a -ℤ b))
computed op.Multiply a b = Some (kept LongInt (a *ℤ b))
computed op.Divide a b = divided b (quotient LongInt a b)
computed op.Modulo a b = divided b (remainder LongInt a b)
computed op.ShiftLeft a b = Some (left_shift LongInt a b)
computed op.ShiftRight a b = Some (right_shift LongInt a b)
computed op.And a b = Some (conjunction LongInt a b)
computed op.Or a b = Some (disjunction LongInt a b)
computed op.Xor a b = Some (exclusive_disjunction LongInt a b)
computed _ a b = None

-- relations and `in`, which give a truth
abbrev pub compares : Operation → Bool
compares operation.Equality = true
compares operation.Inclusion = true
compares operation.Order = true
compares operation.Membership = true
compares _ = false

-- ---- sets

-- what the elements of a set are
abbrev pub base_in : Sort → Option SetBase
base_in (sort.Set base) = Some base
base_in _ = None

abbrev pub elements_combined : BinaryOp → List ℕ → List ℕ → List ℕ
elements_combined op.Add a b = union a b
elements_combined op.Subtract a b = difference a b
elements_combined _ a b = intersection a b

-- two sets under an operator, of the type that they have together
abbrev pub sets_combined : BinaryOp → SetBase → Constant → Constant → Constant
sets_combined one base a b = set_constant (set_type base (Some a.ty) (Some b.ty)) (elements_combined one (elements_of a.value) (elements_of b.value))

-- ---- relations

abbrev pub is_equal : Ordering → Bool
is_equal ordering.Equal = true
is_equal _ = false

abbrev pub is_less : Ordering → Bool
is_less ordering.Less = true
is_less _ = false

-- the relation holds where the operands are ordered so
abbrev pub relates : BinaryOp → Ordering → Bool
relates op.Equal o = is_equal o
relates op.NotEqual o = not (is_equal o)
relates op.Less o = is_less o
relates op.LessOrEqual o = is_less o || is_equal o
relates op.Greater o = not (is_less o || is_equal o)
relates op.GreaterOrEqual o = not (is_less o)
relates _ o = false

abbrev pub sets_relate : BinaryOp → List ℕ → List ℕ → Bool
sets_relate op.Equal a b = is_same a b
sets_relate op.NotEqual a b = not (is_same a b)
sets_relate op.LessOrEqual a b = is_subset a b
sets_relate op.GreaterOrEqual a b = is_subset b a
sets_relate _ a b = false

-- sets, or texts, or numbers, by what the left one is
abbrev pub values_relate : BinaryOp → Sort → Option SetBase → Value → Value → Bool
values_relate one s (Some base) a b = sets_relate one (elements_of a) (elements_of b)
values_relate one s None a b = cond (is_text s) (relates one (compared (bytes_of a) (bytes_of b))) (relates one (int_cmp (number_of a) (number_of b)))

unfoldable pub related : Operation → BinaryOp → Sort → Value → Value → Bool
related operation.Membership one s a b = is_member (elements_of b) (number_of a)
related _ one s a b = values_relate one s (base_in s) a b

-- ---- judgements

abbrev pub of_sort : Sort → ℤ → Constant
of_sort s n = cond (is_integer s) (integer n) (truth n)

abbrev pub numbered : Place → Sort → Option ℤ → Judgement Constant
numbered place s None = refuses (broken place rules.Constant)
numbered place s (Some n) = makes (of_sort s n)

-- sets, or texts that are joined, or numbers under an operator, by what the left one is
abbrev pub combined_values : Place → BinaryOp → Sort → Option SetBase → Constant → Constant → Judgement Constant
combined_values place one s (Some base) a b = makes (sets_combined one base a b)
combined_values place one s None a b =
    either (is_text s) (makes (text (joined (bytes_of a.value) (bytes_of b.value)))) (numbered place s (computed one (taken s (number_of a.value)) (taken s (number_of b.value))))

-- what an operator that is allowed makes: a truth where it compares, else a value of its operands' sort
unfoldable pub allowed : Place → BinaryOp → Sort → Constant → Constant → Judgement Constant
allowed place one s a b =
    either (compares (operation_of one)) (makes (truth (cond (related (operation_of one) one s a.value b.value) (pos 1) (pos 0)))) (combined_values place one s (base_in s) a b)

abbrev pub combined_by : Place → BinaryOp → Sort → Sort → Constant → Constant → Judgement Constant
combined_by place one s t a b =
    asking (rule (broken place (rule_of (operation_of one) s t)) (allows (operation_of one) s t) (Asks (operation_of one) s t) tt) (allowed place one s a b)

-- An operator at a place: its rule on types holds, and no divisor is 0.
unfoldable pub combined : List TypeDef → Place → BinaryOp → Constant → Constant → Judgement Constant
combined types place one a b = combined_by place one (sort_of_constant types a.ty a.value) (sort_of_constant types b.ty b.value) a b

-- a sign
unfoldable pub signed : List TypeDef → Place → UnaryOp → Constant → Judgement Constant
signed types place one a =
    rule (broken place rules.Arithmetic) (is_integer (sort_of_type types a.ty)) (IsInteger (sort_of_type types a.ty)) (integer (sign_value one (number_of a.value)))

abbrev pub turned : Sort → ℤ → Constant
turned s n = cond (is_integer s) (integer (complement LongInt n)) (truth (cond (int_eq n (pos 0)) (pos 1) (pos 0)))

-- `not`
unfoldable pub negated : List TypeDef → Place → Constant → Judgement Constant
negated types place a =
    rule (broken place rules.Logic) (allows_not (sort_of_type types a.ty)) (AsksNot (sort_of_type types a.ty)) (turned (sort_of_type types a.ty) (number_of a.value))
