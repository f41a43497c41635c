-- The bytes of types and of headers, and which tables of types have them.
use Rattle.std.specs.Prelude.{All, ◌≡◌, ℕ, ◌<◌, ◌≤◌, ◌≤ℤ◌, slice_get, List, [], ◌∷◌, ◌++◌, length, get_or, Option, IfSome, option_map}
use Rattle.type_layout.specs.declared.definitions.Host.{Host}
use Rattle.type_layout.specs.declared.definitions.Host.TheVariants.{ShortInt, Byte, Integer, Word, LongInt, Char, Boolean, Enumeration}
use Rattle.type_layout.specs.declared.definitions.Kind.{Kind}
use Rattle.type_layout.specs.declared.definitions.Kind.TheVariants.{Procedure, Function, Constructor, Destructor}
use Rattle.type_layout.specs.declared.definitions.TypeId.{TypeId}
use Rattle.type_layout.specs.declared.definitions.Origin.{Origin}
use Rattle.type_layout.specs.declared.definitions.Param.{Param}
use Rattle.type_layout.specs.declared.definitions.Header.{Header}
use Rattle.type_layout.specs.declared.definitions.Field.{Field}
use Rattle.type_layout.specs.declared.definitions.Method.{Method}
use Rattle.type_layout.specs.declared.definitions.TypeDef.{TypeDef}
use Rattle.type_layout.specs.declared.definitions.TypeDef.TheVariants.{Ordinal, Str, SetOf, ArrayOf, RecordOf, PointerTo, ObjectOf, Procedural}
use Rattle.type_layout.specs.Words.{IsName}
use Rattle.type_layout.specs.Storage.{least_of, greatest_of}
use Rattle.type_layout.specs.Table.{Table, IsByteRange, IsOrdinal, IsAncestor, place_of, with_type}
use Rattle.type_layout.specs.Layouts.{size_over}
use Rattle.unit_file.specs.declared.type_file.entry.TypeEntry.{TypeEntry}
use Rattle.object_file.specs.file_parts.Spelling.{long_text, signed_text, truth_text, name_text, option_text, list_text, FitInTurn, FitEach, IsLong, IsLongOption, IsSigned}

-- hosts and kinds of headers by their numbers
abbrev pub host_number : Host → ℕ
host_number ShortInt = 0
host_number Byte = 1
host_number Integer = 2
host_number Word = 3
host_number LongInt = 4
host_number Char = 5
host_number Boolean = 6
host_number Enumeration = 7

abbrev pub kind_number : Kind → ℕ
kind_number Procedure = 0
kind_number Function = 1
kind_number Constructor = 2
kind_number Destructor = 3

-- the number of a type
abbrev pub id_text : TypeId → List ℕ
id_text id = long_text id.0

abbrev pub id_number : TypeId → ℕ
id_number id = id.0

abbrev pub id_option_text : Option TypeId → List ℕ
id_option_text id = option_text (option_map id_number id)

unfoldable pub field_text : Field → List ℕ
field_text field = name_text field.name ++ id_text field.ty

unfoldable pub param_text : Param → List ℕ
param_text param = name_text param.name ++ (truth_text param.by_ref ++ id_text param.ty)

unfoldable pub header_text : Header → List ℕ
header_text header = kind_number header.kind ∷ (list_text param_text header.params ++ id_option_text header.result)

unfoldable pub method_text : Method → List ℕ
method_text method = name_text method.name ++ (header_text method.header ++ (truth_text method.is_virtual ++ (long_text method.routine.unit ++ long_text method.routine.number)))

-- a type: the number of its construct, and its parts
abbrev pub type_tag : TypeDef → ℕ
type_tag (Ordinal host low high) = 0
type_tag (Str max) = 1
type_tag (SetOf base) = 2
type_tag (ArrayOf index element) = 3
type_tag (RecordOf fields) = 4
type_tag (PointerTo target) = 5
type_tag (ObjectOf parent dynamic fields methods) = 6
type_tag (Procedural header) = 7

abbrev pub type_parts : TypeDef → List ℕ
type_parts (Ordinal host low high) = host_number host ∷ (signed_text low ++ signed_text high)
type_parts (Str max) = max ∷ []
type_parts (SetOf base) = id_text base
type_parts (ArrayOf index element) = id_text index ++ id_text element
type_parts (RecordOf fields) = list_text field_text fields
type_parts (PointerTo target) = id_text target
type_parts (ObjectOf parent dynamic fields methods) = id_option_text parent ++ (truth_text dynamic ++ (list_text field_text fields ++ list_text method_text methods))
type_parts (Procedural header) = header_text header

-- a type with the unit that declares it, and its number there
abbrev pub entry_with : List ℕ → ℕ → TypeDef → TypeEntry
entry_with origin number one = record { origin = origin; number = number; one = one }

unfoldable pub entry_text : TypeEntry → List ℕ
entry_text entry = name_text entry.origin ++ (long_text entry.number ++ (type_tag entry.one ∷ type_parts entry.one))

-- the entries of a table
abbrev pub entries_from : List (List ℕ) → List TypeDef → List Origin → List TypeEntry
entries_from units [] origins = []
entries_from units (one ∷ types) [] = []
entries_from units (one ∷ types) (origin ∷ origins) = entry_with (get_or units origin.unit []) origin.number one ∷ entries_from units types origins

abbrev pub entries_of : Table → List TypeEntry
entries_of table = entries_from table.units table.types table.origins

-- a table with an entry more, and the table that entries make
abbrev pub empty_table : Table
empty_table = record { types = []; origins = []; units = [] }

abbrev pub with_entry : Table → TypeEntry → Table
with_entry table entry = with_type table entry.origin entry.number entry.one

abbrev pub table_of : Table → List TypeEntry → Table
table_of table [] = table
table_of table (entry ∷ entries) = table_of (with_entry table entry) entries

unfoldable pub types_text : Table → List ℕ
types_text table = list_text entry_text (entries_of table)

-- Which of them have bytes, where the list has `count` types.

-- the number of a type of the list
abbrev pub IsId : ℕ → TypeId → Type 0
IsId count id = IsLong id.0 × (id.0 < count)

abbrev pub IsIdOption : ℕ → Option TypeId → Type 0
IsIdOption count id = IsLongOption (option_map id_number id) × IfSome id (λ id. id.0 < count)

abbrev pub IsField : ℕ → Field → Type 0
IsField count field = IsName field.name × IsId count field.ty

abbrev pub IsParam : ℕ → Param → Type 0
IsParam count param = IsName param.name × IsId count param.ty

pub record IsHeader (count : ℕ) (header : Header) : Type 0 where
  pub params : IsLong (length header.params)
  pub each_param : FitEach (IsParam count) header.params
  pub result : IsIdOption count header.result

-- a method of a type whose origin has this place among the list's origins
pub record IsMethod (count place : ℕ) (method : Method) : Type 0 where
  pub name : IsName method.name
  pub header : IsHeader count method.header
  pub unit : method.routine.unit ≡ place
  pub unit_long : IsLong method.routine.unit
  pub number : IsLong method.routine.number

abbrev pub AreFields : ℕ → List Field → Type 0
AreFields count fields = IsLong (length fields) × FitEach (IsField count) fields

abbrev pub AreMethods : ℕ → ℕ → List Method → Type 0
AreMethods count place methods = IsLong (length methods) × FitEach (IsMethod count place) methods

-- A type over those before it, in a list of `count`, whose origin has this place among the list's origins.
abbrev pub IsType : ℕ → List TypeDef → ℕ → TypeDef → Type 0
IsType count types place (Ordinal host low high) = (least_of host ≤ℤ low) × (low ≤ℤ high) × (high ≤ℤ greatest_of host) × IsSigned low × IsSigned high
IsType count types place (Str max) = (1 ≤ max) × (max < 256)
IsType count types place (SetOf base) = IsByteRange (slice_get types base.0) × IsLong base.0
IsType count types place (ArrayOf index element) = IsOrdinal (slice_get types index.0) × IsLong index.0 × IsId (length types) element
IsType count types place (RecordOf fields) = AreFields (length types) fields
IsType count types place (PointerTo target) = IsId count target
IsType count types place (ObjectOf parent dynamic fields methods) =
    IsAncestor types parent × IsLongOption (option_map id_number parent) × AreFields (length types) fields × AreMethods count place methods
IsType count types place (Procedural header) = IsHeader count header

-- an entry that comes behind those of a table, in a list of `count`; its type keeps the limit
pub record IsEntry (count : ℕ) (table : Table) (entry : TypeEntry) : Type 0 where
  pub origin : IsName entry.origin
  pub number : IsLong entry.number
  pub sound : IsType count table.types (place_of table.units entry.origin) entry.one
  pub limit : size_over table.types entry.one ≤ 65520

-- A table that a file can hold: its entries fit in their turn, and make it.
pub record AreTypes (table : Table) : Type 0 where
  pub count : IsLong (length table.types)
  pub entries : FitInTurn (IsEntry (length table.types)) with_entry empty_table (entries_of table)
  pub is_made : table ≡ table_of empty_table (entries_of table)

-- What can be written: a number that may be absent has a number above it.

abbrev pub HasResult : Header → Type 0
HasResult header = IsLongOption (option_map id_number header.result)

abbrev pub HasOptions : TypeDef → Type 0
HasOptions (ObjectOf parent dynamic fields methods) = IsLongOption (option_map id_number parent) × All (λ method. HasResult method.header) methods
HasOptions (Procedural header) = HasResult header
HasOptions (Ordinal host low high) = Unit {0}
HasOptions (Str max) = Unit {0}
HasOptions (SetOf base) = Unit {0}
HasOptions (ArrayOf index element) = Unit {0}
HasOptions (RecordOf fields) = Unit {0}
HasOptions (PointerTo target) = Unit {0}
