-- The virtual slots of one class, along its line.
use Rattle.std.specs.Prelude.{◌≡◌, ℕ, zero, suc, List, [], ◌++◌, Option, Some, None, length, position, option_map}
use Rattle.type_layout.specs.declared.definitions.TypeId.{TypeId}
use Rattle.type_layout.specs.declared.definitions.Method.{Method}
use Rattle.type_layout.specs.declared.definitions.TypeDef.{TypeDef}
use Rattle.type_layout.specs.declared.definitions.TypeDef.TheVariants as type
use Rattle.type_layout.specs.Words.{same_bytes}
use Rattle.typed_tree.specs.type_fits.Fits.{definition, parent_of}
use Rattle.scopes.specs.Members.{narrow}
use Rattle.object_vmt.specs.Members.{members_of, members_in}
use Rattle.object_vmt.specs.Slots.{slots_of}

-- the methods that a type declares itself
abbrev pub methods_of : Option TypeDef → List Method
methods_of (Some (type.ObjectOf parent dynamic fields methods)) = methods
methods_of _ = []

-- the methods of a line, the first ancestor's first, where at most so many types are looked at
abbrev pub methods_within : ℕ → List TypeDef → Option TypeId → List Method
methods_within zero types ty = []
methods_within (suc room) types None = []
methods_within (suc room) types (Some ty) = methods_within room types (parent_of (definition types ty)) ++ methods_of (definition types ty)

-- A line has no more types than the table.
abbrev pub methods_in : List TypeDef → TypeId → List Method
methods_in types class = methods_within (length types) types (Some class)

abbrev pub slot_in : List (List ℕ) → List ℕ → Option ℕ
slot_in slots name = option_map narrow (position (same_bytes name) slots)

-- the number of the slot that a virtual method has in the class's table
abbrev pub slot_of : List TypeDef → TypeId → List ℕ → Option ℕ
slot_of types class name = slot_in (slots_of (methods_in types class)) name

-- the methods of one line are those that the classes of the whole table have, and so are the slots
abbrev pub AreLines : List TypeDef → Type 0
AreLines types = (class : TypeId) → methods_in types class ≡ (members_in (members_of types) class).methods
