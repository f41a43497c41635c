-- The trees of new variables, and of those that begin with a value.
use Rattle.std.specs.Prelude.{ℕ, zero, suc, ◌+◌, ◌*◌, ◌/◌, ◌%◌, ◌==◌, Bool, true, false, not, ◌&&◌, if◌then◌else◌, ℤ, unsigned_abs, List, [], ◌∷◌, ◌++◌, map, take, drop, get_or, Option, Some, None}
use Rattle.std.specs.Option.{option_map}
use Rattle.type_layout.specs.declared.definitions.TypeId.{TypeId}
use Rattle.type_layout.specs.declared.definitions.Host.{Host}
use Rattle.type_layout.specs.declared.definitions.Host.TheVariants as host
use Rattle.type_layout.specs.declared.definitions.Field.{Field}
use Rattle.type_layout.specs.declared.definitions.TypeDef.{TypeDef}
use Rattle.type_layout.specs.declared.definitions.TypeDef.TheVariants as type
use Rattle.type_layout.specs.Layouts.{bounds_at, given_by}
use Rattle.type_layout.specs.Storage.{storage_of, width_of, count_between, set_bytes}
use Rattle.common_values.specs.declared.ordinals.IntegerType.{IntegerType}
use Rattle.common_values.specs.declared.ordinals.IntegerType.TheVariants as integer
use Rattle.common_values.specs.Ordinals.{meant_by, kept}
use Rattle.common_values.specs.Sets.{byte_of}
use Rattle.tp_meaning.specs.Trees.{Ordinal, Elements, Class, Tree, Tip, Fork, unset, holding, chain, many}

-- ---- ordinals

-- the integers that an ordinal is stored among
abbrev pub stored_among : Host → IntegerType
stored_among host.ShortInt = integer.ShortInt
stored_among host.Byte = integer.Byte
stored_among host.Integer = integer.Integer
stored_among host.Word = integer.Word
stored_among host.LongInt = integer.LongInt
stored_among host.Char = integer.Byte
stored_among host.Boolean = integer.Byte
stored_among host.Enumeration = integer.Byte

-- what is left of a number in the low bytes of what stores the host
abbrev pub kept_as : Host → ℤ → ℤ
kept_as host z = kept (stored_among host) z

-- ---- the parts of records and objects

pub data Part : Type 0 where
  FieldPart : (ty : TypeId) → Part
  ClassPart : Part

abbrev pub has_class_part : List Part → Bool
has_class_part [] = false
has_class_part (FieldPart ty ∷ parts) = has_class_part parts
has_class_part (ClassPart ∷ parts) = true

abbrev pub field_parts : List Field → List Part
field_parts fields = map (λ (field : Field). FieldPart field.ty) fields

-- the class lies behind the fields of the first type of the line that is dynamic
abbrev pub class_parts : Bool → List Part
class_parts true = ClassPart ∷ []
class_parts false = []

abbrev pub object_parts : List Part → Bool → List Field → List Part
object_parts above dynamic fields = above ++ (field_parts fields ++ class_parts (dynamic && not (has_class_part above)))

abbrev pub parts_in : List (List Part) → Option TypeId → List Part
parts_in given None = []
parts_in given (Some ty) = get_or given ty.0 []

-- the parts of a type, those of its ancestor first, over the types before it and their parts
abbrev pub parts_by : List TypeDef → List (List Part) → TypeDef → List Part
parts_by types given (type.RecordOf fields) = field_parts fields
parts_by types given (type.ObjectOf parent dynamic fields methods) = object_parts (parts_in given parent) dynamic fields
parts_by types given _ = []

abbrev pub parts_of : List TypeDef → List (List Part)
parts_of types = given_by parts_by [] [] types

abbrev pub parts_at : List TypeDef → TypeId → List Part
parts_at types ty = parts_in (parts_of types) (Some ty)

-- where a field lies among the parts
abbrev pub field_place : List Part → ℕ → ℕ
field_place [] number = 0
field_place (ClassPart ∷ parts) number = 1 + field_place parts number
field_place (FieldPart ty ∷ parts) zero = 0
field_place (FieldPart ty ∷ parts) (suc number) = 1 + field_place parts number

-- where the class lies among the parts, if they have one
abbrev pub class_place : List Part → Option ℕ
class_place [] = None
class_place (ClassPart ∷ parts) = Some 0
class_place (FieldPart ty ∷ parts) = option_map (λ place. 1 + place) (class_place parts)

-- ---- new variables: nothing is set, and an instance has no class

abbrev pub part_tree : List Tree → Part → Tree
part_tree trees (FieldPart ty) = get_or trees ty.0 Tip
part_tree trees ClassPart = holding (Class None)

abbrev pub parts_tree : List Tree → List Part → Tree
parts_tree trees parts = chain (map (part_tree trees) parts)

-- the tree of a new variable of a type, over the types before it and their trees
abbrev pub tree_by : List TypeDef → List Tree → TypeDef → Tree
tree_by types trees (type.Ordinal host low high) = unset
tree_by types trees (type.Str max) = many (max + 1) unset
tree_by types trees (type.SetOf base) = unset
tree_by types trees (type.ArrayOf index element) = many (count_between (bounds_at types index).0 (bounds_at types index).1) (get_or trees element.0 Tip)
tree_by types trees (type.RecordOf fields) = parts_tree trees (field_parts fields)
tree_by types trees (type.PointerTo target) = unset
tree_by types trees (type.ObjectOf parent dynamic fields methods) = parts_tree trees (object_parts (parts_in (parts_of types) parent) dynamic fields)
tree_by types trees (type.Procedural header) = unset

abbrev pub trees_of : List TypeDef → List Tree
trees_of types = given_by tree_by [] [] types

abbrev pub new_tree : List TypeDef → TypeId → Tree
new_tree types ty = get_or (trees_of types) ty.0 Tip

-- ---- typed constants: the tree of the bytes that they begin with

-- the tree of the front of some bytes, and the bytes behind it
abbrev pub Reader : Type 0
Reader = List ℕ → Tree × List ℕ

abbrev pub before : Tree × List ℕ → Reader → Tree × List ℕ
before first read = (Fork first.0 (read first.1).0, (read first.1).1)

abbrev pub read_many : ℕ → Reader → Reader
read_many zero read bytes = (Tip, bytes)
read_many (suc n) read bytes = before (read bytes) (read_many n read)

abbrev pub read_chain : List Reader → Reader
read_chain [] bytes = (Tip, bytes)
read_chain (read ∷ reads) bytes = before (read bytes) (read_chain reads)

-- the lowest byte first
abbrev pub word_of_bytes : List ℕ → ℕ
word_of_bytes [] = 0
word_of_bytes (byte ∷ bytes) = byte + 256 * word_of_bytes bytes

abbrev pub read_ordinal : Host → Reader
read_ordinal host bytes =
    (holding (Ordinal (meant_by (stored_among host) (word_of_bytes (take (width_of host) bytes)))), drop (width_of host) bytes)

-- the elements that a byte holds, of so many from one on
abbrev pub elements_in : ℕ → ℕ → ℕ → List ℕ
elements_in zero element byte = []
elements_in (suc n) element byte = (if byte % 2 == 1 then element ∷ [] else []) ++ elements_in n (element + 1) (byte / 2)

abbrev pub elements_from : ℕ → List ℕ → List ℕ
elements_from element [] = []
elements_from element (byte ∷ bytes) = elements_in 8 element byte ++ elements_from (element + 8) bytes

abbrev pub read_set : ℤ → ℤ → Reader
read_set low high bytes =
    (holding (Elements (elements_from (8 * byte_of (unsigned_abs low)) (take (set_bytes low high) bytes))), drop (set_bytes low high) bytes)

-- no typed constant has a pointer, an object or a procedural value in it
abbrev pub read_nothing : Reader
read_nothing bytes = (unset, bytes)

abbrev pub reader_in : List Reader → TypeId → Reader
reader_in readers ty = get_or readers ty.0 read_nothing

abbrev pub reader_by : List TypeDef → List Reader → TypeDef → Reader
reader_by types readers (type.Ordinal host low high) = read_ordinal (storage_of host low high)
reader_by types readers (type.Str max) = read_many (max + 1) (read_ordinal host.Char)
reader_by types readers (type.SetOf base) = read_set (bounds_at types base).0 (bounds_at types base).1
reader_by types readers (type.ArrayOf index element) = read_many (count_between (bounds_at types index).0 (bounds_at types index).1) (reader_in readers element)
reader_by types readers (type.RecordOf fields) = read_chain (map (λ (field : Field). reader_in readers field.ty) fields)
reader_by types readers (type.PointerTo target) = read_nothing
reader_by types readers (type.ObjectOf parent dynamic fields methods) = read_nothing
reader_by types readers (type.Procedural header) = read_nothing

abbrev pub readers_of : List TypeDef → List Reader
readers_of types = given_by reader_by [] [] types

-- the tree of a global with the bytes that it begins with, where it has some
abbrev pub first_tree : List TypeDef → TypeId → Option (List ℕ) → Tree
first_tree types ty None = new_tree types ty
first_tree types ty (Some bytes) = (reader_in (readers_of types) ty bytes).0
