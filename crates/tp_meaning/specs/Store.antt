-- The store: objects, which are globals, variables of live activations, and blocks of the heap.
use Rattle.std.specs.Prelude.{ℕ, zero, suc, ◌+◌, ◌==◌, nat_le, if◌then◌else◌, ℤ, pos, List, [], ◌∷◌, ◌++◌, length, take, slice_get, slice_set, Option, Some, None, Ok, Err}
use Rattle.std.specs.Option.{option_flatten}
use Rattle.type_layout.specs.declared.definitions.TypeId.{TypeId}
use Rattle.type_layout.specs.declared.definitions.TypeDef.{TypeDef}
use Rattle.type_layout.specs.declared.definitions.TypeDef.TheVariants as type
use Rattle.type_layout.specs.Layouts.{bounds_at}
use Rattle.std.specs.Prelude.{unsigned_abs}
use Rattle.common_values.specs.declared.blocks.Row.{Row}
use Rattle.common_values.specs.Blocks.{rounded, without_block}
use Rattle.common_values.specs.Sets.{assigned}
use Rattle.tp_meaning.specs.Trees.{Key, Spot, Value, Ordinal, Text, Elements, Nil, Block, Code, Class, At, Tree, Leaf, Tip, Fork, holding, part_count, part_at, with_part}
use Rattle.tp_meaning.specs.Found.{Act, IllTyped, Found, ◌>>=◌, known}
use Rattle.tp_meaning.specs.Shapes.{Part, FieldPart, ClassPart, parts_at}

-- what an object holds, and the bytes by which it was made
pub record Object : Type 0 where
  pub tree : Tree
  pub bytes : ℕ

-- The objects by their serial numbers, `None` once they are gone, and the rows of the heap's blocks. Serial numbers are not
-- used again.
pub record Store : Type 0 where
  pub objects : List (Option Object)
  pub rows : List Row

-- the serial number of the next object
abbrev pub next_serial : Store → ℕ
next_serial store = length store.objects

abbrev pub object_at : Store → ℕ → Option Object
object_at store serial = option_flatten (slice_get store.objects serial)

abbrev pub with_object : Store → ℕ → Option Object → Store
with_object store serial object = record { objects = slice_set store.objects serial object; rows = store.rows }

abbrev pub with_new : Store → List (Option Object) → Store
with_new store objects = record { objects = store.objects ++ objects; rows = store.rows }

-- so many objects are gone, from a serial number on
abbrev pub without : Store → ℕ → ℕ → Store
without store serial zero = store
without store serial (suc count) = without (with_object store serial None) (serial + 1) count

-- ---- reading

-- a place whose object is gone can't be used
abbrev pub tree_in : Option Object → List ℕ → Found Tree
tree_in None path = Err (Act 2)
tree_in (Some object) path = known (part_at object.tree path)

abbrev pub tree_at : Store → Spot → Found Tree
tree_at store spot = tree_in (object_at store spot.object) spot.path

-- an unset cell can't be read by itself
abbrev pub value_in : Tree → Found Value
value_in (Leaf None) = Err (Act 1)
value_in (Leaf (Some v)) = Ok v
value_in Tip = Err IllTyped
value_in (Fork head tail) = Err IllTyped

abbrev pub value_at : Store → Spot → Found Value
value_at store spot = tree_at store spot >>= value_in

abbrev pub byte_of : Value → Found ℕ
byte_of (Ordinal (pos byte)) = Ok byte
byte_of v = Err IllTyped

abbrev pub byte_in : Tree → Found ℕ
byte_in cell = value_in cell >>= byte_of

-- so many bytes of the cells of a string behind its length
abbrev pub bytes_in : ℕ → Tree → Found (List ℕ)
bytes_in zero cells = Ok []
bytes_in (suc count) (Fork head tail) = byte_in head >>= λ byte. bytes_in count tail >>= λ bytes. Ok (byte ∷ bytes)
bytes_in (suc count) Tip = Err IllTyped
bytes_in (suc count) (Leaf cell) = Err IllTyped

-- a length that passes the string's size can't be used
abbrev pub text_of_length : ℕ → Tree → Found (List ℕ)
text_of_length count cells = if nat_le count (part_count cells) then bytes_in count cells else Err (Act 3)

-- the text of a string's cells
abbrev pub text_in : Tree → Found (List ℕ)
text_in (Fork head tail) = byte_in head >>= λ count. text_of_length count tail
text_in Tip = Err IllTyped
text_in (Leaf cell) = Err IllTyped

abbrev pub text_at : Store → Spot → Found (List ℕ)
text_at store spot = tree_at store spot >>= text_in

-- the length of a string's cells, for which the bytes behind it need not be set
abbrev pub length_within : ℕ → Tree → Found ℕ
length_within count cells = if nat_le count (part_count cells) then Ok count else Err (Act 3)

abbrev pub length_in : Tree → Found ℕ
length_in (Fork head tail) = byte_in head >>= λ count. length_within count tail
length_in Tip = Err IllTyped
length_in (Leaf cell) = Err IllTyped

abbrev pub length_at : Store → Spot → Found ℕ
length_at store spot = tree_at store spot >>= length_in

abbrev pub class_of : Value → Found (Option Key)
class_of (Class class) = Ok class
class_of v = Err IllTyped

abbrev pub pointer_of : Value → Found Value
pointer_of Nil = Ok Nil
pointer_of (Block serial) = Ok (Block serial)
pointer_of v = Err IllTyped

abbrev pub spot_of : Value → Found Spot
spot_of (At spot) = Ok spot
spot_of v = Err IllTyped

abbrev pub number_of : Value → Found ℤ
number_of (Ordinal z) = Ok z
number_of v = Err IllTyped

abbrev pub bytes_of : Value → Found (List ℕ)
bytes_of (Text bytes) = Ok bytes
bytes_of v = Err IllTyped

abbrev pub routine_of : Value → Found Key
routine_of (Code routine) = Ok routine
routine_of v = Err IllTyped

-- a pointer that leads to a block that is there
abbrev pub if_there : Option Object → ℕ → Found ℕ
if_there None serial = Err (Act 2)
if_there (Some object) serial = Ok serial

abbrev pub followed : Store → Value → Found ℕ
followed store Nil = Err (Act 2)
followed store (Block serial) = if_there (object_at store serial) serial
followed store v = Err IllTyped

-- ---- writing

abbrev pub replaced_in : Store → Spot → Tree → Option Object → Found Store
replaced_in store spot tree None = Err (Act 2)
replaced_in store spot tree (Some object) =
    known (part_at object.tree spot.path) >>= λ old. Ok (with_object store spot.object (Some (record { tree = with_part object.tree spot.path tree; bytes = object.bytes })))

-- the store with another tree at a place
abbrev pub replaced : Store → Spot → Tree → Found Store
replaced store spot tree = replaced_in store spot tree (object_at store spot.object)

-- the first cells hold these bytes, and those behind them stay
abbrev pub bytes_over : List ℕ → Tree → Tree
bytes_over [] cells = cells
bytes_over (byte ∷ bytes) (Fork head tail) = Fork (holding (Ordinal (pos byte))) (bytes_over bytes tail)
bytes_over (byte ∷ bytes) Tip = Tip
bytes_over (byte ∷ bytes) (Leaf cell) = Leaf cell

abbrev pub cut_over : List ℕ → Tree → Tree
cut_over bytes cells = Fork (holding (Ordinal (pos (length bytes)))) (bytes_over bytes cells)

-- the cells of a string once a text is assigned, which is cut to the string's size
abbrev pub text_over : List ℕ → Tree → Found Tree
text_over bytes (Fork head tail) = Ok (cut_over (take (part_count tail) bytes) tail)
text_over bytes Tip = Err IllTyped
text_over bytes (Leaf cell) = Err IllTyped

abbrev pub set_over : ℤ × ℤ → Value → Found Tree
set_over bounds (Elements set) = Ok (holding (Elements (assigned (unsigned_abs bounds.0) (unsigned_abs bounds.1) set)))
set_over bounds v = Err IllTyped

-- what a variable of a type holds once a value is assigned to it: a string is cut, and a set keeps the elements that have a
-- byte there
abbrev pub assigned_over : List TypeDef → Option TypeDef → Tree → Value → Found Tree
assigned_over types (Some (type.Ordinal host low high)) old v = number_of v >>= λ z. Ok (holding (Ordinal z))
assigned_over types (Some (type.Str max)) old v = bytes_of v >>= λ bytes. text_over bytes old
assigned_over types (Some (type.SetOf base)) old v = set_over (bounds_at types base) v
assigned_over types (Some (type.PointerTo target)) old v = pointer_of v >>= λ p. Ok (holding p)
assigned_over types (Some (type.Procedural header)) old v = routine_of v >>= λ routine. Ok (holding (Code routine))
assigned_over types _ old v = Err IllTyped

-- the fields of an object, which keeps its class
abbrev pub fields_over : List Part → Tree → Tree → Tree
fields_over (FieldPart ty ∷ parts) (Fork old olds) (Fork new news) = Fork new (fields_over parts olds news)
fields_over (ClassPart ∷ parts) (Fork old olds) (Fork new news) = Fork old (fields_over parts olds news)
fields_over parts old new = old

-- what a record, an array or an object holds once another one is copied to it: of an object the fields that the type has
abbrev pub copied_over : List TypeDef → TypeId → Option TypeDef → Tree → Tree → Found Tree
copied_over types ty (Some (type.ArrayOf index element)) old new = Ok new
copied_over types ty (Some (type.RecordOf fields)) old new = Ok new
copied_over types ty (Some (type.ObjectOf parent dynamic fields methods)) old new = Ok (fields_over (parts_at types ty) old new)
copied_over types ty _ old new = Err IllTyped

-- ---- the heap

abbrev pub without_row : Store → ℕ → Store
without_row store bytes = record { objects = store.objects; rows = without_block (rounded bytes) store.rows }

abbrev pub disposed_in : Store → ℕ → ℕ → Option Object → Found Store
disposed_in store serial bytes None = Err (Act 2)
disposed_in store serial bytes (Some object) =
    if object.bytes == bytes then Ok (without_row (with_object store serial None) bytes) else Err (Act 5)

-- a block is disposed of by a size, which is that by which it was made
abbrev pub disposed : Store → ℕ → ℕ → Found Store
disposed store serial bytes = disposed_in store serial bytes (object_at store serial)
