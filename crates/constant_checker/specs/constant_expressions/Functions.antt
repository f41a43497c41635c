-- Standard functions of constants.
use Rattle.std.specs.Prelude.{ℕ, ℤ, pos, ◌+ℤ◌, ◌-ℤ◌, ◌==◌, min, Bool, false, cond, List, [], ◌∷◌, length, Option, Some, None}
use Rattle.type_layout.specs.declared.definitions.TypeId.{TypeId}
use Rattle.type_layout.specs.declared.definitions.TypeDef.{TypeDef}
use Rattle.type_layout.specs.declared.definitions.Host.TheVariants as host
use Rattle.type_layout.specs.declared.texts.Place.{Place}
use Rattle.type_layout.specs.Layouts.{bounds_at}
use Rattle.type_layout.specs.Storage.{holds}
use Rattle.tp_lexer.specs.declared.token.Feature.{Feature}
use Rattle.tp_lexer.specs.left_out_names.Names.{feature_of}
use Rattle.typed_tree.specs.declared.expressions.Value.{Value}
use Rattle.typed_tree.specs.declared.expressions.Value.TheVariants as value
use Rattle.typed_tree.specs.Standard as routine
use Rattle.scopes.specs.declared.entries.Entry.{Entry}
use Rattle.scopes.specs.declared.entries.Entry.TheVariants as entry
use Rattle.scopes.specs.Environment.{Environment, Meaning, named, member, find}
use Rattle.common_values.specs.declared.ordinals.IntegerType.{IntegerType}
use Rattle.common_values.specs.declared.ordinals.IntegerType.TheVariants.{Byte, Integer, Word, LongInt}
use Rattle.common_values.specs.Ordinals.{kept}
use Rattle.common_values.specs.Bits.{conjunction, hi, lo, swapped, absolute}
use Rattle.common_values.specs.Strings.{upper}
use Rattle.typing_rules.specs.declared.faults.Rule.TheVariants as rules
use Rattle.typing_rules.specs.declared.sorts.Sort.{Sort}
use Rattle.typing_rules.specs.Faults.{broken, undeclared}
use Rattle.typing_rules.specs.Judgements.{Judgement, makes, refuses, rule, either}
use Rattle.typing_rules.specs.Selectors.{asking}
use Rattle.typing_rules.specs.Sorts.{sort_of_type, sort_of_constant}
use Rattle.typing_rules.specs.Plans.{is_integer}
use Rattle.call_rules.specs.declared.standard_rules.signatures.Signature.{Signature}
use Rattle.call_rules.specs.standard_rules.Signatures.{signature_of}
use Rattle.call_rules.specs.standard_rules.Standard.{Accepts, accepts}
use Rattle.syntax_tree.specs.expression_tree.Trees.{Tree, name}
use Rattle.constant_checker.specs.declared.constant_expressions.constants.Constant.{Constant}
use Rattle.constant_checker.specs.declared.constant_expressions.functions.Function.{Function}
use Rattle.constant_checker.specs.declared.constant_expressions.functions.Function.TheVariants.{Abs, Odd, Ord, Chr, Succ, Pred, Hi, Lo, Swap, UpCase, Length}
use Rattle.constant_checker.specs.declared.constant_expressions.functions.StandardFunction.{StandardFunction}
use Rattle.constant_checker.specs.constant_expressions.Values.{integer, truth, character, number_of, bytes_of, IsWithin, is_within}

-- the functions that a constant may have, by their numbers among the standard routines
unfoldable pub functions : List (ℕ × Function)
functions =
    (routine.abs, Abs) ∷ (routine.odd, Odd) ∷ (routine.ord, Ord) ∷ (routine.chr, Chr) ∷ (routine.succ, Succ) ∷
    (routine.pred, Pred) ∷ (routine.hi, Hi) ∷ (routine.lo, Lo) ∷ (routine.swap, Swap) ∷ (routine.up_case, UpCase) ∷
    (routine.length, Length) ∷ []

-- the function of the first row with a number
abbrev pub function_in : List (ℕ × Function) → ℕ → Option Function
function_in [] number = None
function_in (row ∷ rows) number = cond (row.0 == number) (Some row.1) (function_in rows number)

abbrev pub function_of : ℕ → Option Function
function_of number = function_in functions number

-- ---- what they give

-- an ordinal within the bounds of its type
abbrev pub bounded : Place → TypeId → ℤ × ℤ → ℤ → Judgement Constant
bounded place ty bounds n = rule (broken place rules.Constant) (is_within bounds n) (IsWithin bounds n) (record { ty = ty; value = value.Number n })

-- an integer as it is kept on 32 bits, or another ordinal as its byte keeps it, which has to be a value of its type
abbrev pub stepped_to : Place → TypeId → Sort → ℤ × ℤ → ℤ → ℤ → Judgement Constant
stepped_to place ty s bounds whole byte = either (is_integer s) (makes (integer whole)) (bounded place ty bounds byte)

abbrev pub stepped : Place → TypeId → Sort → ℤ × ℤ → ℤ → Judgement Constant
stepped place ty s bounds n = stepped_to place ty s bounds (kept LongInt n) (kept Byte n)

-- the type of 16 bits that holds a number
abbrev pub short_type : ℤ → IntegerType
short_type n = cond (holds host.Integer n n) Integer Word

-- a string has at most 255 bytes
abbrev pub applied : List TypeDef → Place → Function → TypeId → Sort → Value → Judgement Constant
applied types place Abs ty s v = makes (integer (absolute LongInt (number_of v)))
applied types place Odd ty s v = makes (truth (conjunction LongInt (number_of v) (pos 1)))
applied types place Ord ty s v = makes (integer (number_of v))
applied types place Chr ty s v = makes (character (lo (number_of v)))
applied types place Succ ty s v = stepped place ty s (bounds_at types ty) (number_of v +ℤ pos 1)
applied types place Pred ty s v = stepped place ty s (bounds_at types ty) (number_of v -ℤ pos 1)
applied types place Hi ty s v = makes (integer (pos (hi (number_of v))))
applied types place Lo ty s v = makes (integer (pos (lo (number_of v))))
applied types place Swap ty s v = makes (integer (swapped (short_type (number_of v)) (number_of v)))
applied types place UpCase ty s v = makes (character (upper (lo (number_of v))))
applied types place Length ty s v = makes (integer (pos (min (length (bytes_of v)) 255)))

-- ---- which of them is called

-- a function as it stands, for `Gives`
abbrev pub same_one : StandardFunction → StandardFunction
same_one f = f

abbrev pub chosen : Place → ℕ → Option Function → Judgement StandardFunction
chosen place number None = refuses (broken place rules.Constant)
chosen place number (Some function) = makes (record { function = function; number = number })

-- a conversion or a call of another routine is no constant
abbrev pub function_entry : Place → Entry → Judgement StandardFunction
function_entry place (entry.Std number) = chosen place number (function_of number)
function_entry place _ = refuses (broken place rules.Constant)

abbrev pub function_meant : Place → Option Feature → Option Meaning → Judgement StandardFunction
function_meant place feature None = refuses (undeclared place feature)
function_meant place feature (Some (named number one)) = function_entry place one
function_meant place feature (Some (member number one)) = refuses (broken place rules.Constant)

unfoldable pub function_at : Environment → Place → List ℕ → Judgement StandardFunction
function_at g place word = function_meant place (feature_of word) (find g word)

abbrev pub function_named : Environment → Place → Tree → Judgement StandardFunction
function_named g place (name here word) = function_at g here.place word
function_named g place _ = refuses (broken place rules.Constant)

-- ---- calls

-- what is asked of the argument, as where a function is called in an expression
abbrev pub IsTaken : Option Signature → Sort → Type 0
IsTaken None s = ⊥
IsTaken (Some one) s = Accepts one.shape (s ∷ [])

abbrev pub is_taken : Option Signature → Sort → Bool
is_taken None s = false
is_taken (Some one) s = accepts one.shape (s ∷ [])

abbrev pub called_on : List TypeDef → Place → StandardFunction → Sort → Constant → Judgement Constant
called_on types place f s x =
    asking (rule (broken place rules.Called) (is_taken (signature_of f.number) s) (IsTaken (signature_of f.number) s) tt)
    (applied types place f.function x.ty (sort_of_type types x.ty) x.value)

-- the call of a function at a place; it has one argument
abbrev pub called_with : List TypeDef → Place → StandardFunction → List Constant → Judgement Constant
called_with types place f (x ∷ []) = called_on types place f (sort_of_constant types x.ty x.value) x
called_with types place f _ = refuses (broken place rules.Called)
