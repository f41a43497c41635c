-- The types of the operands of operators, and of what they give.
use Rattle.std.specs.Prelude.{◌≡◌, ◌⊎◌, Bool, true, false, Option}
use Rattle.type_layout.specs.declared.definitions.TypeDef.{TypeDef}
use Rattle.typed_tree.specs.declared.expressions.UnaryOp.{UnaryOp}
use Rattle.typed_tree.specs.declared.expressions.UnaryOp.TheVariants.{Plus, Minus, Not}
use Rattle.typed_tree.specs.declared.expressions.BinaryOp.{BinaryOp}
use Rattle.typed_tree.specs.declared.expressions.BinaryOp.TheVariants.{Add, Subtract, Multiply, Divide, Modulo, ShiftLeft, ShiftRight, And, Or, Xor, Equal, NotEqual, Less, LessOrEqual, Greater, GreaterOrEqual, In}
use Rattle.typed_tree.specs.type_fits.Fits.{stored_as, family_of, IsSome, IsInteger, IsBoolean, IsChar, AreStoredAlike, IsWide, IsString, IsSet, IsPointer}

-- integers of the width of the result
abbrev pub IsArithmetic : Option TypeDef → Option TypeDef → Type 0
IsArithmetic ty operand = IsWide (stored_as ty) × (stored_as operand ≡ stored_as ty)

abbrev pub IsLogic : Option TypeDef → Option TypeDef → Type 0
IsLogic ty operand = IsBoolean ty × IsBoolean operand

abbrev pub FitsUnary : UnaryOp → Option TypeDef → Option TypeDef → Type 0
FitsUnary Plus ty operand = IsArithmetic ty operand
FitsUnary Minus ty operand = IsArithmetic ty operand
FitsUnary Not ty operand = IsArithmetic ty operand ⊎ IsLogic ty operand

abbrev pub AreNumbers : Option TypeDef → Option TypeDef → Option TypeDef → Type 0
AreNumbers ty left right = IsArithmetic ty left × IsArithmetic ty right

abbrev pub AreSets : Option TypeDef → Option TypeDef → Option TypeDef → Type 0
AreSets ty left right = IsSet ty × IsSet left × IsSet right

abbrev pub AreStrings : Option TypeDef → Option TypeDef → Option TypeDef → Type 0
AreStrings ty left right = IsString ty × IsString left × IsString right

abbrev pub AreTruths : Option TypeDef → Option TypeDef → Option TypeDef → Type 0
AreTruths ty left right = IsLogic ty left × IsLogic ty right

-- a shift has the width of what is shifted
abbrev pub IsShift : Option TypeDef → Option TypeDef → Option TypeDef → Type 0
IsShift ty left right = IsArithmetic ty left × IsInteger right

-- ordinals that are stored alike, or strings
abbrev pub AreOrdered : Option TypeDef → Option TypeDef → Type 0
AreOrdered left right = AreStoredAlike left right ⊎ (IsString left × IsString right)

abbrev pub AreSetsBoth : Option TypeDef → Option TypeDef → Type 0
AreSetsBoth left right = IsSet left × IsSet right

abbrev pub ArePointers : Option TypeDef → Option TypeDef → Type 0
ArePointers left right = IsPointer left × IsPointer right

abbrev pub FitsBinary : BinaryOp → Option TypeDef → Option TypeDef → Option TypeDef → Type 0
FitsBinary Add ty left right = AreNumbers ty left right ⊎ AreSets ty left right ⊎ AreStrings ty left right
FitsBinary Subtract ty left right = AreNumbers ty left right ⊎ AreSets ty left right
FitsBinary Multiply ty left right = AreNumbers ty left right ⊎ AreSets ty left right
FitsBinary Divide ty left right = AreNumbers ty left right
FitsBinary Modulo ty left right = AreNumbers ty left right
FitsBinary ShiftLeft ty left right = IsShift ty left right
FitsBinary ShiftRight ty left right = IsShift ty left right
FitsBinary And ty left right = AreNumbers ty left right ⊎ AreTruths ty left right
FitsBinary Or ty left right = AreNumbers ty left right ⊎ AreTruths ty left right
FitsBinary Xor ty left right = AreNumbers ty left right ⊎ AreTruths ty left right
FitsBinary Equal ty left right = IsBoolean ty × (AreOrdered left right ⊎ AreSetsBoth left right ⊎ ArePointers left right)
FitsBinary NotEqual ty left right = IsBoolean ty × (AreOrdered left right ⊎ AreSetsBoth left right ⊎ ArePointers left right)
FitsBinary Less ty left right = IsBoolean ty × AreOrdered left right
FitsBinary LessOrEqual ty left right = IsBoolean ty × (AreOrdered left right ⊎ AreSetsBoth left right)
FitsBinary Greater ty left right = IsBoolean ty × AreOrdered left right
FitsBinary GreaterOrEqual ty left right = IsBoolean ty × (AreOrdered left right ⊎ AreSetsBoth left right)
FitsBinary In ty left right = IsBoolean ty × IsSome (family_of left) × IsSet right

-- only an `and` or `or` of Booleans may leave out its right side
abbrev pub MayBeEarly : BinaryOp → Bool → Option TypeDef → Type 0
MayBeEarly op false ty = Unit {0}
MayBeEarly And true ty = IsBoolean ty
MayBeEarly Or true ty = IsBoolean ty
MayBeEarly op true ty = ⊥

-- an ordinal by the low bytes of another, or a Char as a string
abbrev pub IsConversion : Option TypeDef → Option TypeDef → Type 0
IsConversion ty operand = (IsSome (stored_as ty) × IsSome (stored_as operand)) ⊎ (IsString ty × IsChar operand)
