-- A virtual method that is found by its name has a slot, in which the classes have the methods that the name means.
use Rattle.std.specs.Prelude.{◌≡◌, ℕ, ◌≤◌, ◌^◌, true, List, [], map, Some, length}
use Rattle.std.specs.List.{IsDistinct}
use Rattle.well_formed.specs.type_layout.declared.definitions.TypeId.{TypeId}
use Rattle.well_formed.specs.type_layout.declared.definitions.Method.{Method}
use Rattle.well_formed.specs.type_layout.declared.definitions.TypeDef.{TypeDef}
use Rattle.well_formed.specs.type_layout.Words.{same_bytes}
use Rattle.well_formed.specs.type_layout.Table.{AllDefined}
use Rattle.well_formed.specs.typed_tree.type_fits.Fits.{definition, Descends}
use Rattle.well_formed.specs.object_vmt.Members.{members_of, members_in, nearest}
use Rattle.well_formed.specs.object_vmt.Slots.{slots_of, method_at}
use Rattle.call_rules.specs.method_rules.Slots.{methods_of, methods_in, slot_of}
use Rattle.call_rules.specs.method_rules.Methods.{method_in}

-- The methods of a type, and the slots of a line, have numbers of 32 bits, and no type declares two methods of one name.
pub record IsNumbered (types : List TypeDef) : Type 0 where
  pub methods : (ty : TypeId) → length (methods_of (definition types ty)) ≤ 2 ^ 32
  pub once : (ty : TypeId) → IsDistinct same_bytes (map (λ (method : Method). method.name) (methods_of (definition types ty)))
  pub slots : (class : TypeId) → length (slots_of (methods_in types class)) ≤ 2 ^ 32

-- A slot by which a method of a class is called that has a name: the class answers it by that method, and each descendant by the
-- nearest declaration of the name in its own line.
pub record IsSlot (types : List TypeDef) (class : TypeId) (name : List ℕ) (method : Method) (slot : ℕ) : Type 0 where
  pub is : slot_of types class name ≡ Some slot
  pub answers : method_at (members_in (members_of types) class) slot ≡ Some method
  pub heirs : (heir : TypeId) → Descends types heir class → method_at (members_in (members_of types) heir) slot ≡ nearest (members_in (members_of types) heir).methods name

-- in each table of types
abbrev pub SlotLaw : Type 0
SlotLaw = (types : List TypeDef) → AllDefined [] types → IsNumbered types → (class : TypeId) (name : List ℕ) (method : Method)
    → method_in types class name ≡ Some method → method.is_virtual ≡ true → (slot : ℕ) × IsSlot types class name method slot
