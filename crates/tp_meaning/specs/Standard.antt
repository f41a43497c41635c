-- The standard routines.
use Rattle.std.specs.Prelude.{ℕ, option_and_then, ◌%◌, ◌==◌, nat_lt, if◌then◌else◌, ℤ, pos, negsuc, ◌+ℤ◌, ◌-ℤ◌, ◌*ℤ◌, neg_ℤ, unsigned_abs, List, [], ◌∷◌, ◌++◌, length, map, slice_get, Option, Some, None, Ok, Err}
use Rattle.std.specs.Option.{option_flatten}
use Rattle.common_values.specs.integers.Words.{w8, w16, word_of, low_byte, high_byte, word_from_bytes}
use Rattle.type_layout.specs.declared.definitions.Host.{Host}
use Rattle.type_layout.specs.declared.definitions.Host.TheVariants as host
use Rattle.type_layout.specs.declared.definitions.TypeDef.{TypeDef}
use Rattle.type_layout.specs.declared.definitions.TypeDef.TheVariants as type
use Rattle.typed_tree.specs.declared.units.Program.{Program}
use Rattle.common_values.specs.Strings.{longest, copied, deleted, inserted, joined, position_of, upper}
use Rattle.common_values.specs.Numerals.{val_of}
use Rattle.common_values.specs.Written.{padded, integer_text, boolean_text}
use Rattle.common_values.specs.Input.{is_eof, is_eoln}
use Rattle.common_values.specs.Blocks.{rounded, block_sum, with_block}
use Rattle.typed_tree.specs.type_fits.Fits.{stored_as}
use Rattle.tp_meaning.specs.Trees.{Key, Value, Ordinal, Text, Nil, Block, At}
use Rattle.tp_meaning.specs.Found.{Act, Error, IllTyped, Found, ◌>>=◌, known}
use Rattle.tp_meaning.specs.Shapes.{new_tree, kept_as, parts_at, class_place}
use Rattle.tp_meaning.specs.Store.{Store, next_serial, text_at, number_of, bytes_of, disposed}
use Rattle.tp_meaning.specs.Programs.{Sort, definition, beside, size_in, heap_of, class_size}
use Rattle.tp_meaning.specs.Operators.{truth, truth_number, is_true}
use Rattle.tp_meaning.specs.Activations.{Reached, assigned, class_at, number_in}

pub data Standard : Type 0 where
  Abs : Standard
  Sqr : Standard
  Odd : Standard
  Ord : Standard
  Chr : Standard
  Succ : Standard
  Pred : Standard
  Inc : Standard
  Dec : Standard
  Hi : Standard
  Lo : Standard
  Swap : Standard
  SizeOf : Standard
  UpCase : Standard
  Length : Standard
  Copy : Standard
  Delete : Standard
  Insert : Standard
  Concat : Standard
  Pos : Standard
  Str : Standard
  Val : Standard
  Eof : Standard
  Eoln : Standard
  New : Standard
  Dispose : Standard

-- In the order of their numbers (`Standard` of `typed_tree`). The four behind Val are Write, WriteLn, Read and ReadLn, which have
-- statements of their own.
abbrev pub standards : List (Option Standard)
standards =
    map Some (Abs ∷ Sqr ∷ Odd ∷ Ord ∷ Chr ∷ Succ ∷ Pred ∷ Inc ∷ Dec ∷ Hi ∷ Lo ∷ Swap ∷ SizeOf ∷ UpCase ∷ Length ∷ Copy ∷ Delete ∷ Insert ∷ Concat ∷ Pos ∷ Str ∷ Val ∷ [])
    ++ None ∷ None ∷ None ∷ None ∷ map Some (Eof ∷ Eoln ∷ New ∷ Dispose ∷ [])

abbrev pub standard : ℕ → Option Standard
standard number = option_flatten (slice_get standards number)

-- an argument: a value with its type, or the place of a variable
pub data Operand : Type 0 where
  Given : Sort → Value → Operand
  Named : Reached → Operand

-- an argument as it is handed to a routine of the sources
abbrev pub handed : Operand → Value
handed (Given sort v) = v
handed (Named at) = At at.spot

-- ---- text

abbrev pub ordinal_text : Host → ℤ → Found (List ℕ)
ordinal_text host.ShortInt z = Ok (integer_text z)
ordinal_text host.Byte z = Ok (integer_text z)
ordinal_text host.Integer z = Ok (integer_text z)
ordinal_text host.Word z = Ok (integer_text z)
ordinal_text host.LongInt z = Ok (integer_text z)
ordinal_text host.Boolean z = Ok (boolean_text (is_true z))
ordinal_text host.Char (pos byte) = Ok (byte ∷ [])
ordinal_text host.Char (negsuc n) = Err IllTyped
ordinal_text host.Enumeration z = Err IllTyped

-- the text that Write and Str make of a value
abbrev pub text_of : Option TypeDef → Value → Found (List ℕ)
text_of (Some (type.Ordinal h low high)) (Ordinal z) = ordinal_text h z
text_of (Some (type.Str max)) (Text bytes) = Ok bytes
text_of _ v = Err IllTyped

-- a width is what an Integer keeps of it
abbrev pub field_text : ℤ → List ℕ → List ℕ
field_text width text = padded (kept_as host.Integer width) text

-- ---- arguments

abbrev pub value_arg : Operand → Found (Sort × Value)
value_arg (Given sort v) = Ok (sort, v)
value_arg (Named at) = Err IllTyped

abbrev pub place_arg : Operand → Found Reached
place_arg (Given sort v) = Err IllTyped
place_arg (Named at) = Ok at

abbrev pub argument : List Operand → ℕ → Found Operand
argument args n = known (slice_get args n)

abbrev pub value_given : List Operand → ℕ → Found (Sort × Value)
value_given args n = argument args n >>= value_arg

abbrev pub number_given : List Operand → ℕ → Found ℤ
number_given args n = value_given args n >>= λ x. number_of x.1

abbrev pub text_given : List Operand → ℕ → Found (List ℕ)
text_given args n = value_given args n >>= λ x. bytes_of x.1

abbrev pub place_given : List Operand → ℕ → Found Reached
place_given args n = argument args n >>= place_arg

-- ---- functions of values, whose result is stored so

abbrev pub of_number : (ℤ → ℤ) → List Operand → Found Value
of_number f args = number_given args 0 >>= λ z. Ok (Ordinal (f z))

-- what is left of the result in the low bytes
abbrev pub keeping : (ℤ → ℤ) → Option Host → List Operand → Found Value
keeping f stored args = known stored >>= λ h. of_number (λ z. kept_as h (f z)) args

-- the low 16 bits
abbrev pub low_word : ℤ → ℕ
low_word z = word_of w16 z

abbrev pub swapped : ℕ → ℕ
swapped word = word_from_bytes (high_byte word) (low_byte word)

abbrev pub length_of : List Operand → Found Value
length_of args = text_given args 0 >>= λ text. Ok (Ordinal (pos (length text)))

abbrev pub copy_of : List Operand → Found Value
copy_of args = do
  text ← text_given args 0
  place ← number_given args 1
  count ← number_given args 2
  Ok (Text (copied text place count))

abbrev pub position_in : List Operand → Found Value
position_in args = do
  part ← text_given args 0
  text ← text_given args 1
  Ok (Ordinal (pos (position_of part text)))

abbrev pub all_joined : List Operand → Found (List ℕ)
all_joined [] = Ok []
all_joined (one ∷ rest) = do
  x ← value_arg one
  text ← bytes_of x.1
  behind ← all_joined rest
  Ok (joined text behind)

-- ---- procedures that change a variable: what it holds is read after all arguments

-- a number, of which an ordinal variable keeps the low bytes
abbrev pub number_assigned : Reached → ℤ → Store → Found Store
number_assigned at z store = known (stored_as (definition at.sort)) >>= λ h. assigned at (Ordinal (kept_as h z)) store

-- Inc and Dec
abbrev pub moved : Reached → ℤ → Store → Found Store
moved at by store = number_in at store >>= λ z. number_assigned at (z +ℤ by) store

abbrev pub deleted_from : Reached → ℤ → ℤ → Store → Found Store
deleted_from at place count store = text_at store at.spot >>= λ text. assigned at (Text (deleted text place count)) store

abbrev pub inserted_into : Reached → List ℕ → ℤ → Store → Found Store
inserted_into at part place store = text_at store at.spot >>= λ text. assigned at (Text (inserted part text place longest)) store

-- the text of a value in a field of a width
abbrev pub text_assigned : Reached → Sort → Value → ℤ → Store → Found Store
text_assigned at sort v width store = text_of (definition sort) v >>= λ text. assigned at (Text (field_text width text)) store

-- the value, and then the code
abbrev pub value_assigned : Reached → Reached → ℤ × ℕ → Store → Found Store
value_assigned at code result store = number_assigned at result.0 store >>= number_assigned code (pos result.1)

-- ---- the heap

abbrev pub target_of : Sort → Option TypeDef → Found Sort
target_of sort (Some (type.PointerTo target)) = Ok (beside sort target)
target_of sort _ = Err IllTyped

-- what a pointer type points to
abbrev pub target : Sort → Found Sort
target sort = target_of sort (definition sort)

-- the store with a new block
abbrev pub with_new_block : Store → Sort → Store
with_new_block store sort = record {
  objects = store.objects ++ Some (record { tree = new_tree sort.table.types sort.ty; bytes = size_in sort }) ∷ [];
  rows = with_block (rounded (size_in sort)) store.rows;
}

-- error 203 where the blocks, the new one included, would take more than the heap
abbrev pub within_heap : Program → Store → Found Store
within_heap program store = if nat_lt (heap_of program) (block_sum store.rows) then Err (Error 203) else Ok store

-- a new block for a type
abbrev pub made : Program → Sort → Store → Found Store
made program sort store = within_heap program (with_new_block store sort)

-- a new block, to which a pointer then leads
abbrev pub made_for : Program → Reached → Store → Found Store
made_for program at store = target at.sort >>= λ sort. made program sort store >>= assigned at (Block (next_serial store))

-- a block is disposed of by the size of the type that its pointer points to
abbrev pub disposed_by : Sort → Value → Store → Found Store
disposed_by sort Nil store = Err (Error 204)
disposed_by sort (Block serial) store = target sort >>= λ to. disposed store serial (size_in to)
disposed_by sort v store = Err IllTyped

-- an instance has the size of its class
abbrev pub instance_size : Program → Option Key → Found ℕ
instance_size program None = Err (Act 1)
instance_size program (Some class) = known (class_size program class)

-- the size of the class that an instance has as its block is freed
abbrev pub size_freed : Program → Reached → Store → Found ℕ
size_freed program at store = class_at at store >>= instance_size program

abbrev pub size_by : Program → Reached → Option ℕ → Store → Found ℕ
size_by program at None store = Ok (size_in at.sort)
size_by program at (Some place) store = size_freed program at store

abbrev pub size_of_variable : Program → Reached → Store → Found Value
size_of_variable program at store = size_by program at (class_place (parts_at at.sort.table.types at.sort.ty)) store >>= λ bytes. Ok (Ordinal (pos bytes))

-- ---- procedures, by their arguments

-- by one, or by a second argument
abbrev pub step_given : List Operand → Found ℤ
step_given (at ∷ []) = Ok (pos 1)
step_given args = number_given args 1

abbrev pub moving : (ℤ → ℤ) → List Operand → Store → Found Store
moving f args store = do
  at ← place_given args 0
  by ← step_given args
  moved at (f by) store

abbrev pub deleting : List Operand → Store → Found Store
deleting args store = do
  at ← place_given args 0
  place ← number_given args 1
  count ← number_given args 2
  deleted_from at place count store

abbrev pub inserting : List Operand → Store → Found Store
inserting args store = do
  part ← text_given args 0
  at ← place_given args 1
  place ← number_given args 2
  inserted_into at part place store

-- the width stands between the value and the variable, if it is given
abbrev pub telling : List Operand → Store → Found Store
telling (value ∷ variable ∷ []) store = do
  x ← value_arg value
  at ← place_arg variable
  text_assigned at x.0 x.1 (pos 0) store
telling args store = do
  x ← value_given args 0
  width ← number_given args 1
  at ← place_given args 2
  text_assigned at x.0 x.1 width store

abbrev pub valuing : List Operand → Store → Found Store
valuing args store = do
  text ← text_given args 0
  at ← place_given args 1
  code ← place_given args 2
  value_assigned at code (val_of text) store

abbrev pub disposing : List Operand → Store → Found Store
disposing args store = value_given args 0 >>= λ x. disposed_by x.0 x.1 store

-- ---- what a standard routine does

-- it gives a value, changes the store, makes a block for a type and gives a pointer to it, or looks at the input
pub data Effect : Type 0 where
  Gives : (Store → Found Value) → Effect
  Changes : (Store → Found Store) → Effect
  Makes : Sort → Effect
  Asks : (List ℕ → Value) → Effect

abbrev pub given : Found Value → Effect
given v = Gives (λ store. v)

-- how a result of a type is stored, where there is one
abbrev pub result_storage : Option Sort → Option Host
result_storage result = option_and_then (λ sort. stored_as (definition sort)) result

-- New for a pointer variable, or as a function of a pointer type
abbrev pub new_of : Program → Option Sort → List Operand → Effect
new_of program (Some pointer) [] = Makes pointer
new_of program result args = Changes (λ store. place_given args 0 >>= λ at. made_for program at store)

abbrev pub effect_of : Program → Standard → Option Sort → List Operand → Effect
effect_of program Abs result args = given (keeping (λ z. pos (unsigned_abs z)) (result_storage result) args)
effect_of program Sqr result args = given (keeping (λ z. z *ℤ z) (result_storage result) args)
effect_of program Odd result args = given (of_number (λ z. truth_number (word_of w8 z % 2 == 1)) args)
effect_of program Ord result args = given (of_number (λ z. z) args)
effect_of program Chr result args = given (of_number (λ z. pos (word_of w8 z)) args)
effect_of program Succ result args = given (keeping (λ z. z +ℤ pos 1) (result_storage result) args)
effect_of program Pred result args = given (keeping (λ z. z -ℤ pos 1) (result_storage result) args)
effect_of program Inc result args = Changes (moving (λ by. by) args)
effect_of program Dec result args = Changes (moving neg_ℤ args)
effect_of program Hi result args = given (of_number (λ z. pos (high_byte (low_word z))) args)
effect_of program Lo result args = given (of_number (λ z. pos (low_byte (low_word z))) args)
effect_of program Swap result args = given (keeping (λ z. pos (swapped (low_word z))) (result_storage result) args)
effect_of program SizeOf result args = Gives (λ store. place_given args 0 >>= λ at. size_of_variable program at store)
effect_of program UpCase result args = given (of_number (λ z. pos (upper (word_of w8 z))) args)
effect_of program Length result args = given (length_of args)
effect_of program Copy result args = given (copy_of args)
effect_of program Delete result args = Changes (deleting args)
effect_of program Insert result args = Changes (inserting args)
effect_of program Concat result args = given (all_joined args >>= λ text. Ok (Text text))
effect_of program Pos result args = given (position_in args)
effect_of program Str result args = Changes (telling args)
effect_of program Val result args = Changes (valuing args)
effect_of program Eof result args = Asks (λ input. truth (is_eof input))
effect_of program Eoln result args = Asks (λ input. truth (is_eoln input))
effect_of program New result args = new_of program result args
effect_of program Dispose result args = Changes (disposing args)
