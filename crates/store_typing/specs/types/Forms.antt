-- What the cells of a variable are, by its type, whatever table has the type.
use Rattle.std.specs.Prelude.{ℕ, zero, suc, ◌+◌, ℤ, unsigned_abs, List, [], ◌∷◌, length, map, get_or, Option, None}
use Rattle.tp_meaning.specs.type_layout.declared.definitions.TypeId.{TypeId}
use Rattle.tp_meaning.specs.type_layout.declared.definitions.Host.{Host}
use Rattle.tp_meaning.specs.type_layout.declared.definitions.Host.TheVariants as host
use Rattle.tp_meaning.specs.type_layout.declared.definitions.TypeDef.{TypeDef}
use Rattle.tp_meaning.specs.type_layout.declared.definitions.TypeDef.TheVariants as type
use Rattle.tp_meaning.specs.type_layout.Layouts.{given_by, bounds_at}
use Rattle.tp_meaning.specs.type_layout.Storage.{storage_of, width_of, count_between, set_bytes}
use Rattle.tp_meaning.specs.type_layout.Table.{Table}
use Rattle.tp_meaning.specs.common_values.Sets.{byte_of}
use Rattle.tp_meaning.specs.Trees.{Key}
use Rattle.tp_meaning.specs.Shapes.{Part, FieldPart, ClassPart, field_parts, object_parts, parts_in, parts_of}
use Rattle.tp_meaning.specs.Programs.{Sort}
use Rattle.store_typing.specs.types.Declared.{DeclaredHeader, declared, declared_header}

-- what a cell holds: an ordinal that is stored so; a set that has so many bytes, from the first of the 32 on that hold all elements; a pointer to what was declared there; a routine with a header; the
-- class of an instance of what was declared there
pub data Held : Type 0 where
  Number : (stored : Host) → Held
  Members : (first count : ℕ) → Held
  Link : (target : Option Key) → Held
  Routine : (header : DeclaredHeader) → Held
  ClassOf : (own : Option Key) → Held

-- a cell, or parts one behind another
pub data Form : Type 0 where
  Cell : (held : Held) → Form
  End : Form
  Pair : (head tail : Form) → Form

-- a set over these bounds
abbrev pub members_between : ℤ × ℤ → Held
members_between bounds = Members (byte_of (unsigned_abs bounds.0)) (set_bytes bounds.0 bounds.1)

-- any set: its elements are below 256
abbrev pub all_members : Held
all_members = Members 0 32

-- a byte of a string
abbrev pub letter : Form
letter = Cell (Number host.Char)

-- so many equal parts
abbrev pub repeated : ℕ → Form → Form
repeated zero part = End
repeated (suc n) part = Pair part (repeated n part)

-- parts in this order
abbrev pub line : List Form → Form
line [] = End
line (part ∷ parts) = Pair part (line parts)

-- a part of an instance of what was declared there
abbrev pub part_form : (TypeId → Form) → Option Key → Part → Form
part_form forms own (FieldPart ty) = forms ty
part_form forms own ClassPart = Cell (ClassOf own)

abbrev pub part_forms : (TypeId → Form) → Option Key → List Part → List Form
part_forms forms own parts = map (part_form forms own) parts

-- the form of a type with this number, over the types before it and their forms
abbrev pub form_of : Table → List TypeDef → ℕ → (TypeId → Form) → TypeDef → Form
form_of table types number forms (type.Ordinal host low high) = Cell (Number (storage_of host low high))
form_of table types number forms (type.Str max) = repeated (max + 1) letter
form_of table types number forms (type.SetOf base) = Cell (members_between (bounds_at types base))
form_of table types number forms (type.ArrayOf index element) = repeated (count_between (bounds_at types index).0 (bounds_at types index).1) (forms element)
form_of table types number forms (type.RecordOf fields) = line (part_forms forms None (field_parts fields))
form_of table types number forms (type.PointerTo target) = Cell (Link (declared table target))
form_of table types number forms (type.ObjectOf parent dynamic fields methods) =
    line (part_forms forms (declared table (record { 0 = number })) (object_parts (parts_in (parts_of types) parent) dynamic fields))
form_of table types number forms (type.Procedural header) = Cell (Routine (declared_header table header))

abbrev pub form_in : List Form → TypeId → Form
form_in forms ty = get_or forms ty.0 End

abbrev pub form_by : Table → List TypeDef → List Form → TypeDef → Form
form_by table types forms one = form_of table types (length types) (form_in forms) one

abbrev pub forms_of : Table → List Form
forms_of table = given_by (form_by table) [] [] table.types

-- what the cells of a variable of a type are
abbrev pub form_at : Sort → Form
form_at sort = form_in (forms_of sort.table) sort.ty

-- the same of another type of the table
abbrev pub form_beside : Table → TypeId → Form
form_beside table ty = form_in (forms_of table) ty

-- ---- the bytes that cells take, one behind another

abbrev pub held_bytes : Held → ℕ
held_bytes (Number stored) = width_of stored
held_bytes (Members first count) = count
held_bytes (Link target) = 4
held_bytes (Routine header) = 4
held_bytes (ClassOf own) = 2

abbrev pub form_bytes : Form → ℕ
form_bytes (Cell held) = held_bytes held
form_bytes End = 0
form_bytes (Pair head tail) = form_bytes head + form_bytes tail
