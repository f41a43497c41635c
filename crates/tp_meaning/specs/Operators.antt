-- The operators, on values.
use Rattle.std.specs.Prelude.{ℕ, ◌==◌, nat_lt, Bool, true, false, not, ◌&&◌, ◌||◌, if◌then◌else◌, ℤ, pos, negsuc, ◌+ℤ◌, ◌-ℤ◌, ◌*ℤ◌, neg_ℤ, int_le, int_lt, bit_and, bit_or, bit_xor, List, [], ◌∷◌, Option, Some, None, Ok, Err}
use Rattle.std.specs.declared.cmp.Ordering.{Ordering}
use Rattle.std.specs.declared.cmp.Ordering.TheVariants as ordering
use Rattle.std.specs.Ordering.{int_eq, int_cmp}
use Rattle.common_values.specs.integers.Words.{word_of}
use Rattle.type_layout.specs.declared.definitions.Host.{Host}
use Rattle.type_layout.specs.declared.definitions.Host.TheVariants as host
use Rattle.type_layout.specs.declared.definitions.TypeDef.{TypeDef}
use Rattle.type_layout.specs.declared.definitions.TypeDef.TheVariants as type
use Rattle.type_layout.specs.Storage.{storage_of}
use Rattle.typed_tree.specs.declared.expressions.UnaryOp.{UnaryOp}
use Rattle.typed_tree.specs.declared.expressions.UnaryOp.TheVariants.{Plus, Minus, Not}
use Rattle.typed_tree.specs.declared.expressions.BinaryOp.{BinaryOp}
use Rattle.typed_tree.specs.declared.expressions.BinaryOp.TheVariants.{Add, Subtract, Multiply, Divide, Modulo, ShiftLeft, ShiftRight, And, Or, Xor, Equal, NotEqual, Less, LessOrEqual, Greater, GreaterOrEqual, In}
use Rattle.common_values.specs.declared.ordinals.IntegerType.{IntegerType}
use Rattle.common_values.specs.Ordinals.{width_of, meant_by, kept, quotient, remainder, left_shift, right_shift}
use Rattle.common_values.specs.Strings.{joined, compared}
use Rattle.common_values.specs.Sets.{is_member, union, difference, intersection, is_subset, is_same, with_range}
use Rattle.tp_meaning.specs.Trees.{Value, Ordinal, Text, Elements, Nil, Block}
use Rattle.tp_meaning.specs.Found.{Act, Error, IllTyped, Found, ◌>>=◌, known}
use Rattle.tp_meaning.specs.Shapes.{stored_among, kept_as}
use Rattle.tp_meaning.specs.Store.{Store, if_there, object_at, number_of}

-- ---- Booleans: true where the byte is not 0

abbrev pub truth_number : Bool → ℤ
truth_number true = pos 1
truth_number false = pos 0

abbrev pub truth : Bool → Value
truth b = Ordinal (truth_number b)

abbrev pub is_true : ℤ → Bool
is_true z = not (int_eq z (pos 0))

abbrev pub is_boolean : Host → Bool
is_boolean host.Boolean = true
is_boolean _ = false

-- ---- one operand

abbrev pub complement : Host → ℤ → ℤ
complement h z = if is_boolean h then truth_number (not (is_true z)) else kept_as h (neg_ℤ z -ℤ pos 1)

abbrev pub unary_number : UnaryOp → Host → ℤ → ℤ
unary_number Plus h z = z
unary_number Minus h z = kept_as h (neg_ℤ z)
unary_number Not h z = complement h z

-- the operator of a result that is stored so
abbrev pub unary : UnaryOp → Option Host → Value → Found Value
unary op stored v = known stored >>= λ h. number_of v >>= λ z. Ok (Ordinal (unary_number op h z))

-- ---- two ordinals

-- by a divisor that is not 0
abbrev pub divided : ℤ → ℤ → Found ℤ
divided divisor z = if int_eq divisor (pos 0) then Err (Error 200) else Ok z

-- bit by bit
abbrev pub bitwise : (ℕ → ℕ → ℕ) → IntegerType → ℤ → ℤ → ℤ
bitwise op t a b = meant_by t (op (word_of (width_of t) a) (word_of (width_of t) b))

abbrev pub arithmetic : BinaryOp → IntegerType → ℤ → ℤ → Found ℤ
arithmetic Add t a b = Ok (kept t (a +ℤ b))
arithmetic Subtract t a b = Ok (kept t (a -ℤ b))
arithmetic Multiply t a b = Ok (kept t (a *ℤ b))
arithmetic Divide t a b = divided b (quotient t a b)
arithmetic Modulo t a b = divided b (remainder t a b)
arithmetic ShiftLeft t a b = Ok (left_shift t a b)
arithmetic ShiftRight t a b = Ok (right_shift t a b)
arithmetic And t a b = Ok (bitwise bit_and t a b)
arithmetic Or t a b = Ok (bitwise bit_or t a b)
arithmetic Xor t a b = Ok (bitwise bit_xor t a b)
arithmetic _ t a b = Err IllTyped

abbrev pub differ : Bool → Bool → Bool
differ true b = not b
differ false b = b

abbrev pub logic : BinaryOp → Bool → Bool → Found Bool
logic And a b = Ok (a && b)
logic Or a b = Ok (a || b)
logic Xor a b = Ok (differ a b)
logic _ a b = Err IllTyped

abbrev pub computed_as : Bool → BinaryOp → Host → ℤ → ℤ → Found Value
computed_as true op h a b = logic op (is_true a) (is_true b) >>= λ c. Ok (truth c)
computed_as false op h a b = arithmetic op (stored_among h) a b >>= λ z. Ok (Ordinal z)

abbrev pub computed : BinaryOp → Option Host → ℤ → ℤ → Found Value
computed op stored a b = known stored >>= λ h. computed_as (is_boolean h) op h a b

-- ---- relations

abbrev pub is_equal : Ordering → Bool
is_equal ordering.Equal = true
is_equal _ = false

abbrev pub is_less : Ordering → Bool
is_less ordering.Less = true
is_less _ = false

-- the relation where the operands are ordered so
abbrev pub relation : BinaryOp → Ordering → Option Bool
relation Equal o = Some (is_equal o)
relation NotEqual o = Some (not (is_equal o))
relation Less o = Some (is_less o)
relation LessOrEqual o = Some (is_less o || is_equal o)
relation Greater o = Some (not (is_less o || is_equal o))
relation GreaterOrEqual o = Some (not (is_less o))
relation _ o = None

-- a relation, or an operator that computes
abbrev pub related_or : Option Bool → Found Value → Found Value
related_or (Some b) other = Ok (truth b)
related_or None other = other

abbrev pub on_ordinals : BinaryOp → Option Host → ℤ → ℤ → Found Value
on_ordinals op stored a b = related_or (relation op (int_cmp a b)) (computed op stored a b)

abbrev pub on_texts : BinaryOp → List ℕ → List ℕ → Found Value
on_texts Add a b = Ok (Text (joined a b))
on_texts op a b = related_or (relation op (compared a b)) (Err IllTyped)

abbrev pub on_sets : BinaryOp → List ℕ → List ℕ → Found Value
on_sets Add a b = Ok (Elements (union a b))
on_sets Subtract a b = Ok (Elements (difference a b))
on_sets Multiply a b = Ok (Elements (intersection a b))
on_sets Equal a b = Ok (truth (is_same a b))
on_sets NotEqual a b = Ok (truth (not (is_same a b)))
on_sets LessOrEqual a b = Ok (truth (is_subset a b))
on_sets GreaterOrEqual a b = Ok (truth (is_subset b a))
on_sets _ a b = Err IllTyped

abbrev pub membership : BinaryOp → ℤ → List ℕ → Found Value
membership In z set = Ok (truth (is_member set z))
membership _ z set = Err IllTyped

-- whether a pointer to a block is another pointer: blocks that are gone are compared with nil alone
abbrev pub same_pointer : Store → Value → Value → Found Bool
same_pointer store Nil Nil = Ok true
same_pointer store Nil (Block b) = Ok false
same_pointer store (Block a) Nil = Ok false
same_pointer store (Block a) (Block b) = if_there (object_at store a) a >>= λ a. if_there (object_at store b) b >>= λ b. Ok (a == b)
same_pointer store _ _ = Err IllTyped

abbrev pub equality : BinaryOp → Bool → Found Value
equality Equal b = Ok (truth b)
equality NotEqual b = Ok (truth (not b))
equality _ b = Err IllTyped

abbrev pub on_pointers : Store → BinaryOp → Value → Value → Found Value
on_pointers store op a b = same_pointer store a b >>= equality op

-- the operator of a result that is stored so
abbrev pub binary : BinaryOp → Option Host → Value → Value → Store → Found Value
binary op stored (Ordinal a) (Ordinal b) store = on_ordinals op stored a b
binary op stored (Text a) (Text b) store = on_texts op a b
binary op stored (Elements a) (Elements b) store = on_sets op a b
binary op stored (Ordinal a) (Elements b) store = membership op a b
binary op stored a b store = on_pointers store op a b

-- what the left side decides alone, where the right one may be left out
abbrev pub decided : BinaryOp → Bool → Value → Option Value
decided And true (Ordinal a) = if is_true a then None else Some (truth false)
decided Or true (Ordinal a) = if is_true a then Some (truth true) else None
decided _ early v = None

-- ---- conversions and tests

-- an ordinal by the low bytes of what stores the type, or a Char as a string
abbrev pub converted : Option TypeDef → Value → Found Value
converted (Some (type.Ordinal h low high)) (Ordinal z) = Ok (Ordinal (kept_as (storage_of h low high) z))
converted (Some (type.Str max)) (Ordinal (pos byte)) = Ok (Text (byte ∷ []))
converted _ v = Err IllTyped

abbrev pub is_between : ℤ → ℤ → ℤ → Bool
is_between low high z = int_le low z && int_le z high

-- error 201 outside the bounds
abbrev pub within : ℤ → ℤ → ℤ → Found ℤ
within low high z = if is_between low high z then Ok z else Err (Error 201)

abbrev pub ranged : ℤ → ℤ → Value → Found Value
ranged low high v = number_of v >>= within low high >>= λ z. Ok (Ordinal z)

-- an element of a set
abbrev pub element_of : Value → Found ℕ
element_of (Ordinal (pos n)) = if nat_lt n 256 then Ok n else Err (Act 3)
element_of (Ordinal (negsuc n)) = Err (Act 3)
element_of v = Err IllTyped

-- the set with the elements from one number to another: a range that is empty adds nothing, whatever its bounds are
abbrev pub spanned : List ℕ → Value → Value → Found (List ℕ)
spanned set low high = do
  first ← number_of low
  last ← number_of high
  if int_lt last first then Ok set else (element_of low >>= λ m. element_of high >>= λ n. Ok (with_range set m n))
