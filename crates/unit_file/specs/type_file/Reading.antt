-- Reading types and headers from the front of what is left.
use Rattle.std.specs.Prelude.{ℕ, zero, suc, ◌+◌, ◌==◌, ℤ, pos, int_le, Bool, true, false, cond, ◌&&◌, nat_lt, List, length, slice_get, Option, Some, None, option_map, Result, Ok, Err, if◌then◌else◌}
use Rattle.type_layout.specs.declared.definitions.Host.{Host}
use Rattle.type_layout.specs.declared.definitions.Host.TheVariants.{ShortInt, Byte, Integer, Word, LongInt, Char, Boolean, Enumeration}
use Rattle.type_layout.specs.declared.definitions.Kind.{Kind}
use Rattle.type_layout.specs.declared.definitions.Kind.TheVariants.{Procedure, Function, Constructor, Destructor}
use Rattle.type_layout.specs.declared.definitions.TypeId.{TypeId}
use Rattle.type_layout.specs.declared.definitions.Param.{Param}
use Rattle.type_layout.specs.declared.definitions.Header.{Header}
use Rattle.type_layout.specs.declared.definitions.Field.{Field}
use Rattle.type_layout.specs.declared.definitions.Method.{Method}
use Rattle.type_layout.specs.declared.definitions.TypeDef.{TypeDef}
use Rattle.type_layout.specs.declared.definitions.TypeDef.TheVariants.{Ordinal, Str, SetOf, ArrayOf, RecordOf, PointerTo, ObjectOf, Procedural}
use Rattle.type_layout.specs.Storage.{least_of, greatest_of}
use Rattle.type_layout.specs.Table.{Table, place_of}
use Rattle.type_layout.specs.Layouts.{size_over}
use Rattle.object_file.specs.file_parts.Parts.{Reader, ◌>>=◌, ◌▷◌, ruled, followed, made, tagged, byte_at, long_at, signed_at, truth_at, option_at, in_turn, list_of, name_at}
use Rattle.unit_file.specs.declared.type_file.entry.TypeEntry.{TypeEntry}
use Rattle.unit_file.specs.type_file.Text.{empty_table, with_entry, table_of}

-- hosts and kinds by their numbers
abbrev pub host_of : ℕ → Host
host_of number =
    cond (number == 0) ShortInt
    (cond (number == 1) Byte
    (cond (number == 2) Integer
    (cond (number == 3) Word
    (cond (number == 4) LongInt
    (cond (number == 5) Char
    (cond (number == 6) Boolean Enumeration))))))

abbrev pub kind_of : ℕ → Kind
kind_of number =
    cond (number == 0) Procedure
    (cond (number == 1) Function
    (cond (number == 2) Constructor Destructor))

unfoldable pub host_at : Reader Host
host_at bytes = made host_of (ruled (λ number. nat_lt number 8) byte_at) bytes

unfoldable pub kind_at : Reader Kind
kind_at bytes = made kind_of (ruled (λ number. nat_lt number 4) byte_at) bytes

-- the number of a type, one of `count`
abbrev pub id_of : ℕ → TypeId
id_of number = record { 0 = number }

unfoldable pub id_where : (ℕ → Bool) → Reader TypeId
id_where rule bytes = made id_of (ruled rule long_at) bytes

abbrev pub id_at : ℕ → Reader TypeId
id_at count = id_where (λ number. nat_lt number count)

abbrev pub passes : (ℕ → Bool) → Option ℕ → Bool
passes rule None = true
passes rule (Some number) = rule number

unfoldable pub id_option_where : (ℕ → Bool) → Reader (Option TypeId)
id_option_where rule bytes = made (option_map id_of) (ruled (passes rule) option_at) bytes

abbrev pub field_of : List ℕ × TypeId → Field
field_of parts = record { name = parts.0; ty = parts.1 }

unfoldable pub field_at : ℕ → Reader Field
field_at count bytes = made field_of (name_at ▷ id_at count) bytes

unfoldable pub fields_at : ℕ → Reader (List Field)
fields_at count bytes = list_of (field_at count) bytes

abbrev pub param_of : List ℕ × (Bool × TypeId) → Param
param_of parts = record { name = parts.0; by_ref = parts.1.0; ty = parts.1.1 }

unfoldable pub param_at : ℕ → Reader Param
param_at count bytes = made param_of (name_at ▷ (truth_at ▷ id_at count)) bytes

unfoldable pub params_at : ℕ → Reader (List Param)
params_at count bytes = list_of (param_at count) bytes

abbrev pub header_of : Kind × (List Param × Option TypeId) → Header
header_of parts = record { kind = parts.0; params = parts.1.0; result = parts.1.1 }

unfoldable pub header_at : ℕ → Reader Header
header_at count bytes = made header_of (kind_at ▷ (params_at count ▷ id_option_where (λ number. nat_lt number count))) bytes

abbrev pub method_of : List ℕ × (Header × (Bool × (ℕ × ℕ))) → Method
method_of parts = record {
  name = parts.0;
  header = parts.1.0;
  is_virtual = parts.1.1.0;
  routine = record { unit = parts.1.1.1.0; number = parts.1.1.1.1 };
}

unfoldable pub method_at : ℕ → ℕ → Reader Method
method_at count place bytes = made method_of (name_at ▷ (header_at count ▷ (truth_at ▷ (ruled (λ unit. unit == place) long_at ▷ long_at)))) bytes

unfoldable pub methods_at : ℕ → ℕ → Reader (List Method)
methods_at count place bytes = list_of (method_at count place) bytes

-- which numbers name an ordinal type, one within 0..255, and an object type, among the types before
abbrev pub is_ordinal : Option TypeDef → Bool
is_ordinal (Some (Ordinal host low high)) = true
is_ordinal _ = false

abbrev pub is_byte_range : Option TypeDef → Bool
is_byte_range (Some (Ordinal host low high)) = int_le (pos 0) low && int_le high (pos 255)
is_byte_range _ = false

abbrev pub is_object : Option TypeDef → Bool
is_object (Some (ObjectOf parent dynamic fields methods)) = true
is_object _ = false

-- the bounds of an ordinal type lie within its host, and the lower is not above the other
abbrev pub is_low : Host → ℤ → Bool
is_low host low = int_le (least_of host) low && int_le low (greatest_of host)

abbrev pub is_high : Host → ℤ → ℤ → Bool
is_high host low high = int_le low high && int_le high (greatest_of host)

abbrev pub ordinal_of : Host × (ℤ × ℤ) → TypeDef
ordinal_of parts = Ordinal parts.0 parts.1.0 parts.1.1

unfoldable pub ordinal_at : Reader TypeDef
ordinal_at bytes = made ordinal_of (followed host_at (λ host. followed (ruled (is_low host) signed_at) (λ low. ruled (is_high host low) signed_at))) bytes

abbrev pub array_of : TypeId × TypeId → TypeDef
array_of parts = ArrayOf parts.0 parts.1

abbrev pub object_of : Option TypeId × (Bool × (List Field × List Method)) → TypeDef
object_of parts = ObjectOf parts.0 parts.1.0 parts.1.1.0 parts.1.1.1

-- what no number stands for
abbrev pub unread : {A : Type 0} → Reader A
unread bytes = Err (length bytes)

-- The parts of a type, over the types before it, in a list of `count`; `place` is that of its origin.
abbrev pub type_parts_at : ℕ → List TypeDef → ℕ → ℕ → Reader TypeDef
type_parts_at count types place zero = ordinal_at
type_parts_at count types place (suc zero) = made Str (ruled (λ max. nat_lt 0 max) byte_at)
type_parts_at count types place (suc (suc zero)) = made SetOf (id_where (λ number. is_byte_range (slice_get types number)))
type_parts_at count types place (suc (suc (suc zero))) = made array_of (id_where (λ number. is_ordinal (slice_get types number)) ▷ id_at (length types))
type_parts_at count types place (suc (suc (suc (suc zero)))) = made RecordOf (fields_at (length types))
type_parts_at count types place (suc (suc (suc (suc (suc zero))))) = made PointerTo (id_at count)
type_parts_at count types place (suc (suc (suc (suc (suc (suc zero)))))) =
    made object_of (id_option_where (λ number. is_object (slice_get types number)) ▷ (truth_at ▷ (fields_at (length types) ▷ methods_at count place)))
type_parts_at count types place (suc (suc (suc (suc (suc (suc (suc zero))))))) = made Procedural (header_at count)
type_parts_at count types place (suc (suc (suc (suc (suc (suc (suc (suc tag)))))))) = unread

unfoldable pub type_at : ℕ → List TypeDef → ℕ → Reader TypeDef
type_at count types place bytes = tagged 8 (type_parts_at count types place) bytes

abbrev pub entry_of : List ℕ × (ℕ × TypeDef) → TypeEntry
entry_of parts = record { origin = parts.0; number = parts.1.0; one = parts.1.1 }

-- A type passes the limit at its last part, which has four bytes: a field's or an element's type, or a method's number, or a
-- count of fields or methods.
abbrev pub within_limit : Table → TypeEntry × List ℕ → Result (TypeEntry × List ℕ) ℕ
within_limit table entry = if nat_lt 65520 (size_over table.types entry.0.one) then Err (length entry.1 + 4) else Ok entry

-- a type over a table, in a list of `count`
unfoldable pub entry_at : ℕ → Table → Reader TypeEntry
entry_at count table bytes =
    made entry_of (followed name_at (λ origin. long_at ▷ type_at count table.types (place_of table.units origin))) bytes >>= within_limit table

unfoldable pub entries_at : ℕ → ℕ → Table → Reader (List TypeEntry)
entries_at count left table bytes = in_turn (entry_at count) with_entry left table bytes

unfoldable pub types_at : Reader Table
types_at bytes = do
  count ← long_at bytes
  made (table_of empty_table) (entries_at count.0 count.0 empty_table) count.1
