-- The types of operands, which the rules on types ask for.
use Rattle.std.proofs.Common.{◌≡◌, Some, None, refl, sym, ap, subst}
use Rattle.std.proofs.Common.{inl, inr}
use Rattle.std.specs.Prelude.{◌⊎◌, Option, option_and_then}
use Rattle.program_typing.specs.type_layout.declared.definitions.TypeId.{TypeId}
use Rattle.program_typing.specs.type_layout.declared.definitions.TypeDef.{TypeDef}
use Rattle.program_typing.specs.typed_tree.declared.expressions.UnaryOp.{UnaryOp}
use Rattle.program_typing.specs.typed_tree.declared.expressions.UnaryOp.TheVariants.{Plus, Minus, Not}
use Rattle.program_typing.specs.typed_tree.declared.expressions.BinaryOp.{BinaryOp}
use Rattle.program_typing.specs.typed_tree.declared.expressions.BinaryOp.TheVariants.{Add, Subtract, Multiply, Divide, Modulo, ShiftLeft, ShiftRight, And, Or, Xor, Equal, NotEqual, Less, LessOrEqual, Greater, GreaterOrEqual, In}
use Rattle.program_typing.specs.typed_tree.declared.units.Unit.{Unit as TypedUnit}
use Rattle.program_typing.specs.typed_tree.declared.units.Program.{Program}
use Rattle.program_typing.specs.typed_tree.Expressions.{Expression, type_of}
use Rattle.program_typing.specs.typed_tree.type_fits.Fits.{definition, stored_as, family_of, IsSome, IsInteger, IsBoolean, IsChar, AreOfOneFamily, AreStoredAlike, IsWide, IsString, IsSet, IsPointer, IsReadable, IsWritable}
use Rattle.program_typing.specs.typed_tree.type_fits.Standard.{sort_of, Slot, Integer, Ordinal, Char, Text, Pointer, IntegerVariable, OrdinalVariable, TextVariable, PointerVariable, Variable, FitsValue}
use Rattle.program_typing.specs.typed_tree.type_fits.Operators.{IsArithmetic, IsLogic, FitsUnary, FitsBinary, AreNumbers, AreSets, AreStrings, AreTruths, IsShift, AreOrdered, AreSetsBoth, ArePointers, IsConversion}
use Rattle.program_typing.specs.tp_meaning.Programs.{sort_in}
use Rattle.program_typing.specs.store_typing.types.Agreement.{IsUnit, IsKnown}

-- ---- types of a unit's table

pub known_type : (program : Program) (unit : TypedUnit) → IsUnit program unit → (ty : TypeId) → IsSome (definition unit.types.types ty) → IsKnown program (sort_in unit ty)
known_type program unit listed ty some = by (definition unit.types.types ty) refl some where
  by : (o : Option TypeDef) → definition unit.types.types ty ≡ o → IsSome o → IsKnown program (sort_in unit ty)
  by None e some = absurd some
  by (Some one) e some = record { unit = unit; listed = listed; table = refl; one = one; is = e }

-- an expression with a type of the table
pub record HasSort (program : Program) (unit : TypedUnit) (e : Expression) : Type 0 where
  pub ty : TypeId
  pub is : type_of e ≡ Some ty
  pub known : IsKnown program (sort_in unit ty)
  pub same : sort_of unit.types.types e ≡ definition unit.types.types ty

pub has_sort : (program : Program) (unit : TypedUnit) → IsUnit program unit → (e : Expression) → IsSome (sort_of unit.types.types e) → HasSort program unit e
has_sort program unit listed e some = by (type_of e) refl some where
  by : (o : Option TypeId) → type_of e ≡ o → IsSome (option_and_then (definition unit.types.types) o) → HasSort program unit e
  by None is some = absurd some
  by (Some ty) is some = record { ty = ty; is = is; known = known_type program unit listed ty some; same = ap (option_and_then (definition unit.types.types)) is }

-- ---- what the rules ask has a type

pub ordinal_some : (o : Option TypeDef) → IsSome (stored_as o) → IsSome o
ordinal_some None h = absurd h
ordinal_some (Some one) h = tt

pub family_some : (o : Option TypeDef) → IsSome (family_of o) → IsSome o
family_some None h = absurd h
family_some (Some one) h = tt

pub integer_some : (o : Option TypeDef) → IsInteger o → IsSome o
integer_some None h = absurd cc
integer_some (Some one) h = tt

pub boolean_some : (o : Option TypeDef) → IsBoolean o → IsSome o
boolean_some None h = absurd cc
boolean_some (Some one) h = tt

pub char_some : (o : Option TypeDef) → IsChar o → IsSome o
char_some None h = absurd cc
char_some (Some one) h = tt

pub string_some : (o : Option TypeDef) → IsString o → IsSome o
string_some None h = absurd h
string_some (Some one) h = tt

set_some : (o : Option TypeDef) → IsSet o → IsSome o
set_some None h = absurd h
set_some (Some one) h = tt

pointer_some : (o : Option TypeDef) → IsPointer o → IsSome o
pointer_some None h = absurd h
pointer_some (Some one) h = tt

pub alike_some : (a b : Option TypeDef) → AreStoredAlike a b → IsSome b
alike_some a b h = ordinal_some b (subst IsSome h.same h.ordinal)

alike_first : (a b : Option TypeDef) → AreStoredAlike a b → IsSome a
alike_first a b h = ordinal_some a h.ordinal

pub one_family_some : (a b : Option TypeDef) → AreOfOneFamily a b → IsSome b
one_family_some a b h = family_some b (subst IsSome h.same h.ordinal)

arithmetic_some : (a b : Option TypeDef) → IsArithmetic a b → IsSome b
arithmetic_some a None h = absurd (subst IsWide (sym h.1) h.0)
arithmetic_some a (Some one) h = tt

logic_some : (a b : Option TypeDef) → IsLogic a b → IsSome b
logic_some a b h = boolean_some b h.1

pub unary_some : (op : UnaryOp) (a b : Option TypeDef) → FitsUnary op a b → IsSome b
unary_some Plus a b h = arithmetic_some a b h
unary_some Minus a b h = arithmetic_some a b h
unary_some Not a b (inl h) = arithmetic_some a b h
unary_some Not a b (inr h) = logic_some a b h

abbrev Both : Option TypeDef → Option TypeDef → Type 0
Both a b = IsSome a × IsSome b

numbers_some : (ty a b : Option TypeDef) → AreNumbers ty a b → Both a b
numbers_some ty a b h = (arithmetic_some ty a h.0, arithmetic_some ty b h.1)

truths_some : (ty a b : Option TypeDef) → AreTruths ty a b → Both a b
truths_some ty a b h = (logic_some ty a h.0, logic_some ty b h.1)

sets_some : (ty a b : Option TypeDef) → AreSets ty a b → Both a b
sets_some ty a b h = (set_some a h.1, set_some b h.2)

shift_some : (ty a b : Option TypeDef) → IsShift ty a b → Both a b
shift_some ty a b h = (arithmetic_some ty a h.0, integer_some b h.1)

ordered_some : (a b : Option TypeDef) → AreOrdered a b → Both a b
ordered_some a b (inl h) = (alike_first a b h, alike_some a b h)
ordered_some a b (inr h) = (string_some a h.0, string_some b h.1)

sets_both_some : (a b : Option TypeDef) → AreSetsBoth a b → Both a b
sets_both_some a b h = (set_some a h.0, set_some b h.1)

pointers_some : (a b : Option TypeDef) → ArePointers a b → Both a b
pointers_some a b h = (pointer_some a h.0, pointer_some b h.1)

compared_some : (a b : Option TypeDef) → AreOrdered a b ⊎ AreSetsBoth a b → Both a b
compared_some a b (inl h) = ordered_some a b h
compared_some a b (inr h) = sets_both_some a b h

equal_some : (a b : Option TypeDef) → AreOrdered a b ⊎ AreSetsBoth a b ⊎ ArePointers a b → Both a b
equal_some a b (inl h) = ordered_some a b h
equal_some a b (inr (inl h)) = sets_both_some a b h
equal_some a b (inr (inr h)) = pointers_some a b h

numbers_or_sets : (ty a b : Option TypeDef) → AreNumbers ty a b ⊎ AreSets ty a b → Both a b
numbers_or_sets ty a b (inl h) = numbers_some ty a b h
numbers_or_sets ty a b (inr h) = sets_some ty a b h

numbers_or_truths : (ty a b : Option TypeDef) → AreNumbers ty a b ⊎ AreTruths ty a b → Both a b
numbers_or_truths ty a b (inl h) = numbers_some ty a b h
numbers_or_truths ty a b (inr h) = truths_some ty a b h

sums_some : (ty a b : Option TypeDef) → AreNumbers ty a b ⊎ AreSets ty a b ⊎ AreStrings ty a b → Both a b
sums_some ty a b (inl h) = numbers_some ty a b h
sums_some ty a b (inr (inl h)) = sets_some ty a b h
sums_some ty a b (inr (inr h)) = (string_some a h.1, string_some b h.2)

pub binary_some : (op : BinaryOp) (ty a b : Option TypeDef) → FitsBinary op ty a b → IsSome a × IsSome b
binary_some Add ty a b h = sums_some ty a b h
binary_some Subtract ty a b h = numbers_or_sets ty a b h
binary_some Multiply ty a b h = numbers_or_sets ty a b h
binary_some Divide ty a b h = numbers_some ty a b h
binary_some Modulo ty a b h = numbers_some ty a b h
binary_some ShiftLeft ty a b h = shift_some ty a b h
binary_some ShiftRight ty a b h = shift_some ty a b h
binary_some And ty a b h = numbers_or_truths ty a b h
binary_some Or ty a b h = numbers_or_truths ty a b h
binary_some Xor ty a b h = numbers_or_truths ty a b h
binary_some Equal ty a b h = equal_some a b h.1
binary_some NotEqual ty a b h = equal_some a b h.1
binary_some Less ty a b h = ordered_some a b h.1
binary_some LessOrEqual ty a b h = compared_some a b h.1
binary_some Greater ty a b h = ordered_some a b h.1
binary_some GreaterOrEqual ty a b h = compared_some a b h.1
binary_some In ty a b h = (family_some a h.1, set_some b h.2)

pub conversion_some : (ty o : Option TypeDef) → IsConversion ty o → IsSome o
conversion_some ty o (inl h) = ordinal_some o h.1
conversion_some ty o (inr h) = char_some o h.1

readable_some : (o : Option TypeDef) → IsReadable o → IsSome o
readable_some o (inl h) = integer_some o h
readable_some o (inr (inl h)) = char_some o h
readable_some o (inr (inr h)) = string_some o h

pub writable_some : (o : Option TypeDef) → IsWritable o → IsSome o
writable_some o (inl h) = readable_some o h
writable_some o (inr h) = boolean_some o h

pub value_fits_some : (slot : Slot) (o : Option TypeDef) → FitsValue slot o → IsSome o
value_fits_some Integer o h = integer_some o h
value_fits_some Ordinal o h = ordinal_some o h
value_fits_some Char o h = char_some o h
value_fits_some Text o h = string_some o h
value_fits_some Pointer o h = pointer_some o h
value_fits_some IntegerVariable o h = absurd h
value_fits_some OrdinalVariable o h = absurd h
value_fits_some TextVariable o h = absurd h
value_fits_some PointerVariable o h = absurd h
value_fits_some Variable o h = absurd h
