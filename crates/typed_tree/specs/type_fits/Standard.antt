-- What the standard routines take and give.
use Rattle.std.specs.Prelude.{◌≡◌, ℕ, IsTrue, List, [], ◌∷◌, All, Option, Some, None}
use Rattle.std.specs.Option.{option_and_then}
use Rattle.type_layout.specs.declared.definitions.TypeId.{TypeId}
use Rattle.type_layout.specs.declared.definitions.Host.{Host}
use Rattle.type_layout.specs.declared.definitions.Host.TheVariants as host
use Rattle.type_layout.specs.declared.definitions.TypeDef.{TypeDef}
use Rattle.type_layout.specs.Storage.{least_of, greatest_of, holds}
use Rattle.typed_tree.specs.declared.expressions.Value.TheVariants as constant
use Rattle.typed_tree.specs.Expressions.{type_of, Expression, Arguments, Const, ByValue}
use Rattle.typed_tree.specs.Standard as routine
use Rattle.typed_tree.specs.type_fits.Fits.{definition, stored_as, held_as, IsSome, IsInteger, IsBoolean, IsChar, AreStoredAlike, IsWide, IsString, IsPointer}

-- what the type of an expression is, which a call of a procedure does not have
abbrev pub sort_of : List TypeDef → Expression → Option TypeDef
sort_of types e = option_and_then (definition types) (type_of e)

-- ---- what an argument is

-- a value, or a variable
pub data Slot : Type 0 where
  Integer : Slot
  Ordinal : Slot
  Char : Slot
  Text : Slot
  Pointer : Slot
  IntegerVariable : Slot
  OrdinalVariable : Slot
  TextVariable : Slot
  PointerVariable : Slot
  Variable : Slot

abbrev pub FitsValue : Slot → Option TypeDef → Type 0
FitsValue Integer one = IsInteger one
FitsValue Ordinal one = IsSome (stored_as one)
FitsValue Char one = IsChar one
FitsValue Text one = IsString one
FitsValue Pointer one = IsPointer one
FitsValue _ one = ⊥

abbrev pub FitsVariable : Slot → Option TypeDef → Type 0
FitsVariable IntegerVariable one = IsInteger one
FitsVariable OrdinalVariable one = IsSome (stored_as one)
FitsVariable TextVariable one = IsString one
FitsVariable PointerVariable one = IsPointer one
FitsVariable Variable one = IsSome one
FitsVariable _ one = ⊥

-- ---- what a routine gives

-- Nothing, which makes it a procedure; an integer of 16 or 32 bits, also one that holds whatever the argument may be; an ordinal
-- that is stored like the argument; or what the name says.
pub data Outcome : Type 0 where
  Nothing : Outcome
  Wide : Outcome
  Holding : Outcome
  Alike : Outcome
  Truth : Outcome
  Letter : Outcome
  Byte : Outcome
  Small : Outcome
  Size : Outcome
  Line : Outcome
  Link : Outcome

abbrev pub HoldsAll : Option Host → Option Host → Type 0
HoldsAll (Some stored) (Some of) = IsTrue (holds stored (least_of of) (greatest_of (held_as of)))
HoldsAll stored of = ⊥

-- whatever the expression gives is held so; a constant gives its own number
abbrev pub HoldsValue : List TypeDef → Option Host → Expression → Type 0
HoldsValue types (Some stored) (Const ty (constant.Number n)) = IsTrue (holds stored n n)
HoldsValue types stored e = HoldsAll stored (stored_as (sort_of types e))

abbrev pub HoldsFirst : List TypeDef → Option Host → Arguments → Type 0
HoldsFirst types stored (ByValue e rest) = HoldsValue types stored e
HoldsFirst types stored _ = ⊥

abbrev pub IsLikeFirst : List TypeDef → Option TypeDef → Arguments → Type 0
IsLikeFirst types one (ByValue e rest) = AreStoredAlike one (sort_of types e)
IsLikeFirst types one _ = ⊥

-- a result of the type, which a procedure does not have
abbrev pub Gives : List TypeDef → Outcome → Option TypeId → Arguments → Type 0
Gives types Nothing None args = Unit {0}
Gives types Wide (Some ty) args = IsWide (stored_as (definition types ty))
Gives types Holding (Some ty) args = IsWide (stored_as (definition types ty)) × HoldsFirst types (stored_as (definition types ty)) args
Gives types Alike (Some ty) args = IsLikeFirst types (definition types ty) args
Gives types Truth (Some ty) args = IsBoolean (definition types ty)
Gives types Letter (Some ty) args = IsChar (definition types ty)
Gives types Byte (Some ty) args = stored_as (definition types ty) ≡ Some host.Byte
Gives types Small (Some ty) args = stored_as (definition types ty) ≡ Some host.Integer
Gives types Size (Some ty) args = stored_as (definition types ty) ≡ Some host.Word
Gives types Line (Some ty) args = IsString (definition types ty)
Gives types Link (Some ty) args = IsPointer (definition types ty)
Gives types outcome ty args = ⊥

-- ---- the routines

abbrev pub IsText : Slot → Type 0
IsText slot = slot ≡ Text

-- The standard routine with a number takes these arguments and gives that. A routine that may be called with more or fewer has a
-- line for each count.
pub data IsStandard : ℕ → List Slot → Outcome → Type 0 where
  abs : IsStandard routine.abs (Integer ∷ []) Wide
  sqr : IsStandard routine.sqr (Integer ∷ []) Wide
  odd : IsStandard routine.odd (Integer ∷ []) Truth
  ord : IsStandard routine.ord (Ordinal ∷ []) Holding
  chr : IsStandard routine.chr (Integer ∷ []) Letter
  succ : IsStandard routine.succ (Ordinal ∷ []) Alike
  pred : IsStandard routine.pred (Ordinal ∷ []) Alike
  inc : IsStandard routine.inc (OrdinalVariable ∷ []) Nothing
  inc_by : IsStandard routine.inc (OrdinalVariable ∷ Integer ∷ []) Nothing
  dec : IsStandard routine.dec (OrdinalVariable ∷ []) Nothing
  dec_by : IsStandard routine.dec (OrdinalVariable ∷ Integer ∷ []) Nothing
  hi : IsStandard routine.hi (Integer ∷ []) Byte
  lo : IsStandard routine.lo (Integer ∷ []) Byte
  swap : IsStandard routine.swap (Integer ∷ []) Wide
  size : IsStandard routine.size_of (Variable ∷ []) Size
  up_case : IsStandard routine.up_case (Char ∷ []) Letter
  length_of : IsStandard routine.length (Text ∷ []) Small
  copy : IsStandard routine.copy (Text ∷ Integer ∷ Integer ∷ []) Line
  delete : IsStandard routine.delete (TextVariable ∷ Integer ∷ Integer ∷ []) Nothing
  insert : IsStandard routine.insert (Text ∷ TextVariable ∷ Integer ∷ []) Nothing
  concat : (more : List Slot) → All IsText more → IsStandard routine.concat (Text ∷ more) Line
  position : IsStandard routine.pos (Text ∷ Text ∷ []) Byte
  text : IsStandard routine.str (Integer ∷ TextVariable ∷ []) Nothing
  text_in : IsStandard routine.str (Integer ∷ Integer ∷ TextVariable ∷ []) Nothing
  number : IsStandard routine.val (Text ∷ IntegerVariable ∷ IntegerVariable ∷ []) Nothing
  end_of_file : IsStandard routine.eof [] Truth
  end_of_line : IsStandard routine.eoln [] Truth
  new : IsStandard routine.new (PointerVariable ∷ []) Nothing
  new_block : IsStandard routine.new [] Link
  dispose : IsStandard routine.dispose (Pointer ∷ []) Nothing
