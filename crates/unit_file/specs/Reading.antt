-- Reading a unit file from its front: the unit, or the place of damage.
use Rattle.std.specs.Prelude.{◌≡◌, ℕ, ◌+◌, ◌-◌, max, ◌==◌, ◌&&◌, not, Bool, nat_lt, nat_le, List, [], ◌∷◌, length, Option, Some, None, Result, Ok, Err}
use Rattle.object_file.specs.declared.object_unit.object.ObjectUnit.{ObjectUnit}
use Rattle.typed_tree.specs.declared.units.Item.{Item}
use Rattle.typed_tree.specs.declared.units.Item.TheVariants as item
use Rattle.unit_interface.specs.declared.interfaces.Interface.{Interface}
use Rattle.object_file.specs.file_parts.Parts.{Reader, ◌▷◌, ruled, followed, made, byte_at, word_at, long_at, truth_at, option_at, list_of, name_at}
use Rattle.object_file.specs.Reading.{object_at}
use Rattle.unit_file.specs.interface_file.Reading.{interface_at}
use Rattle.unit_file.specs.declared.error.UnitFileError.{UnitFileError}
use Rattle.unit_file.specs.declared.error.UnitFileError.TheVariants as error
use Rattle.unit_file.specs.declared.unit.UnitRecord.{UnitRecord}
use Rattle.unit_file.specs.declared.tail.Tail.{Tail}

-- the four letters and the version
abbrev pub letter : ℕ → Reader ℕ
letter code = ruled (λ byte. byte == code) byte_at

abbrev pub is_version : ℕ → Bool
is_version version = nat_le 1 version && nat_le version 2

abbrev pub version_of : ℕ × (ℕ × (ℕ × (ℕ × ℕ))) → ℕ
version_of parts = parts.1.1.1.1

unfoldable pub front_at : Reader ℕ
front_at bytes = made version_of (letter 0x54 ▷ (letter 0x50 ▷ (letter 0x57 ▷ (letter 0x31 ▷ ruled is_version word_at)))) bytes

-- the sizes of stack and heap
abbrev pub is_stack : ℕ → Bool
is_stack stack = nat_le 1024 stack && nat_le stack 65520

abbrev pub is_heap : ℕ → Bool
is_heap heap = nat_le heap 196608

-- how many globals, and how many routines, an item asks for, and the items together
abbrev pub globals_asked : Item → ℕ
globals_asked (item.Var name ty number) = number + 1
globals_asked _ = 0

abbrev pub routines_asked : Item → ℕ
routines_asked (item.Code name header number) = number + 1
routines_asked _ = 0

abbrev pub most : (Item → ℕ) → List Item → ℕ
most asked [] = 0
most asked (one ∷ items) = max (asked one) (most asked items)

-- a program has a start, and a start is the number of a routine
abbrev pub is_start : Bool → ObjectUnit → Option ℕ → Bool
is_start program object None = not program
is_start program object (Some number) = nat_lt number (length object.routines)

-- the object unit that the interface asks for, and the start
unfoldable pub code_at : Bool → Interface → Reader (ObjectUnit × Option ℕ)
code_at program interface bytes =
    followed (object_at (most globals_asked interface.items) (most routines_asked interface.items)) (λ object. ruled (is_start program object) option_at) bytes

-- what stands behind the interface
abbrev pub tail_of : List (List ℕ) × (ℕ × (ℕ × (List Interface × (ObjectUnit × Option ℕ)))) → Tail
tail_of parts = record {
  overlaid = parts.0;
  stack = parts.1.0;
  heap = parts.1.1.0;
  imports = parts.1.1.1.0;
  object = parts.1.1.1.1.0;
  start = parts.1.1.1.1.1;
}

unfoldable pub tail_at : Bool → Interface → Reader Tail
tail_at program interface bytes =
    made tail_of (list_of name_at ▷ (ruled is_stack long_at ▷ (ruled is_heap long_at ▷ (list_of interface_at ▷ code_at program interface)))) bytes

abbrev pub unit_of : ℕ × (Bool × (Bool × (Interface × Tail))) → UnitRecord
unit_of parts = record {
  version = parts.0;
  name = parts.1.1.1.0.name;
  program = parts.1.0;
  overlayable = parts.1.1.0;
  interface = parts.1.1.1.0;
  overlaid = parts.1.1.1.1.overlaid;
  stack = parts.1.1.1.1.stack;
  heap = parts.1.1.1.1.heap;
  imports = parts.1.1.1.1.imports;
  object = parts.1.1.1.1.object;
  start = parts.1.1.1.1.start;
}

unfoldable pub unit_at : Reader UnitRecord
unit_at bytes = made unit_of (front_at ▷ followed truth_at (λ program. truth_at ▷ followed interface_at (λ interface. tail_at program interface))) bytes

-- The whole file: the place of damage is its length without what is left. Bytes behind the unit are damage.
abbrev pub whole : ℕ → Result (UnitRecord × List ℕ) ℕ → Result UnitRecord ℕ
whole size (Err left) = Err (size - left)
whole size (Ok (unit, [])) = Ok unit
whole size (Ok (unit, byte ∷ rest)) = Err (size - length (byte ∷ rest))

unfoldable pub reading : List ℕ → Result UnitRecord ℕ
reading bytes = whole (length bytes) (unit_at bytes)

-- What was returned is what reading gives, unless memory ran out.
abbrev pub Gives : Result UnitRecord UnitFileError → Result UnitRecord ℕ → Type 0
Gives (Ok unit) read = read ≡ Ok unit
Gives (Err (error.Damaged at)) read = read ≡ Err at
Gives (Err error.NoMemory) read = Unit {0}
