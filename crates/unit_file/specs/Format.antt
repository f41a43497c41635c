-- The format of a unit file: which units have a file, and its bytes.
use Rattle.std.specs.Prelude.{All, ◌≡◌, ℕ, ◌<◌, ◌≤◌, true, List, ◌∷◌, ◌++◌, length, IfSome, IsSome}
use Rattle.type_layout.specs.Words.{IsName}
use Rattle.typed_tree.specs.declared.units.Item.{Item}
use Rattle.typed_tree.specs.declared.units.Item.TheVariants as item
use Rattle.object_file.specs.declared.object_unit.object.ObjectUnit.{ObjectUnit}
use Rattle.object_file.specs.file_parts.Spelling.{word_text, long_text, truth_text, name_text, option_text, list_text, FitEach, IsLong}
use Rattle.object_file.specs.Text.{object_text, IsObjectUnit}
use Rattle.unit_file.specs.interface_file.Text.{interface_text, IsInterface}
use Rattle.unit_file.specs.declared.unit.UnitRecord.{UnitRecord}

-- TPW1, and the version
abbrev pub front : ℕ → List ℕ
front version = 0x54 ∷ 0x50 ∷ 0x57 ∷ 0x31 ∷ word_text version

-- what stands behind the interface
unfoldable pub tail_text : UnitRecord → List ℕ
tail_text unit =
    list_text name_text unit.overlaid
    ++ (long_text unit.stack ++ (long_text unit.heap ++ (list_text interface_text unit.imports ++ (object_text unit.object ++ option_text unit.start))))

-- The bytes of the file. Nothing follows the start.
unfoldable pub spelling : UnitRecord → List ℕ
spelling unit = front unit.version ++ (truth_text unit.program ++ (truth_text unit.overlayable ++ (interface_text unit.interface ++ tail_text unit)))

-- A variable of an interface is one of the globals of the object unit, and a routine one of its routines.
abbrev pub IsNumbered : ObjectUnit → Item → Type 0
IsNumbered object (item.Var name ty number) = number < length object.globals
IsNumbered object (item.Code name header number) = number < length object.routines
IsNumbered object (item.Const name ty constant) = Unit {0}
IsNumbered object (item.Ty name ty) = Unit {0}

-- a unit that a file can hold
pub record IsUnit (unit : UnitRecord) : Type 0 where
  pub version_least : 1 ≤ unit.version
  pub version_most : unit.version ≤ 2
  pub name : unit.name ≡ unit.interface.name
  pub interface : IsInterface unit.interface
  pub overlaid : IsLong (length unit.overlaid)
  pub each_overlaid : FitEach IsName unit.overlaid
  pub stack_least : 1024 ≤ unit.stack
  pub stack_most : unit.stack ≤ 65520
  pub heap : unit.heap ≤ 196608
  pub imports : IsLong (length unit.imports)
  pub each_import : FitEach IsInterface unit.imports
  pub object : IsObjectUnit unit.object
  pub numbered : All (IsNumbered unit.object) unit.interface.items
  -- a start is the number of a routine, and a program has one
  pub start : IfSome unit.start (λ start. start < length unit.object.routines)
  pub started : unit.program ≡ true → IsSome unit.start
