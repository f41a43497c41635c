-- How values of a type are stored, and whether they have the class of an instance in them.
use Rattle.std.specs.Prelude.{ℕ, ◌/◌, ◌||◌, Bool, false, ℤ, pos, unsigned_abs, List, [], Option, Some, None, get_or, slice_get}
use Rattle.std.specs.List.{list_any}
use Rattle.std.specs.Option.{option_map}
use Rattle.type_layout.specs.declared.definitions.TypeId.{TypeId}
use Rattle.type_layout.specs.declared.definitions.Field.{Field}
use Rattle.type_layout.specs.declared.definitions.Method.{Method}
use Rattle.type_layout.specs.declared.definitions.Kind.{Kind}
use Rattle.type_layout.specs.declared.definitions.TypeDef.{TypeDef}
use Rattle.type_layout.specs.declared.definitions.TypeDef.TheVariants as type
use Rattle.type_layout.specs.Storage.{storage_of}
use Rattle.type_layout.specs.Layouts.{bounds_at, layout_at, size_of, given_by}
use Rattle.object_vmt.specs.Members.{members_in}
use Rattle.object_vmt.specs.Slots.{method_at}
use Rattle.tp_meaning.specs.Programs.{Sort as TypeInTable, definition}
use Rattle.lower_places.specs.declared.sorts.Shape.{Shape}
use Rattle.lower_places.specs.declared.sorts.Shape.TheVariants.{Number, Text, Set, Far, Whole}
use Rattle.lower_places.specs.declared.sorts.Sort.{Sort}
use Rattle.lower_places.specs.declared.sorts.Sort.TheVariants as sort

-- a set has the bytes of its elements, of the 32 bytes that a set of all numbers below 256 has
abbrev pub shape_by : List TypeDef → TypeId → TypeDef → Shape
shape_by types ty (type.Ordinal host low high) = Number (storage_of host low high) low high
shape_by types ty (type.Str max) = Text max
shape_by types ty (type.SetOf base) = Set (unsigned_abs (bounds_at types base).0 / 8) (size_of types ty)
shape_by types ty (type.ArrayOf index element) = Whole (size_of types ty) (layout_at types ty).class_field
shape_by types ty (type.RecordOf fields) = Whole (size_of types ty) (layout_at types ty).class_field
shape_by types ty (type.PointerTo target) = Far
shape_by types ty (type.ObjectOf parent dynamic fields methods) = Whole (size_of types ty) (layout_at types ty).class_field
shape_by types ty (type.Procedural header) = Far

abbrev pub shape_of : List TypeDef → TypeId → Option Shape
shape_of types ty = option_map (shape_by types ty) (slice_get types ty.0)

-- ---- classes

abbrev pub is_flagged : List Bool → TypeId → Bool
is_flagged flags ty = get_or flags ty.0 false

abbrev pub is_flagged_parent : List Bool → Option TypeId → Bool
is_flagged_parent flags None = false
is_flagged_parent flags (Some ty) = is_flagged flags ty

abbrev pub is_flagged_field : List Bool → Field → Bool
is_flagged_field flags field = is_flagged flags field.ty

-- an element, a field, an ancestor or the type itself says a class
abbrev pub holds_class_by : List TypeDef → List Bool → TypeDef → Bool
holds_class_by types flags (type.ArrayOf index element) = is_flagged flags element
holds_class_by types flags (type.RecordOf fields) = list_any (is_flagged_field flags) fields
holds_class_by types flags (type.ObjectOf parent dynamic fields methods) = dynamic || (list_any (is_flagged_field flags) fields || is_flagged_parent flags parent)
holds_class_by types flags _ = false

abbrev pub class_holders : List TypeDef → List Bool
class_holders types = given_by holds_class_by [] [] types

abbrev pub holds_class : List TypeDef → TypeId → Bool
holds_class types ty = is_flagged (class_holders types) ty

-- ---- arrays and strings, and slots of classes

abbrev pub index_bounds_by : List TypeDef → Option TypeDef → Option (ℤ × ℤ)
index_bounds_by types (Some (type.ArrayOf index element)) = Some (bounds_at types index)
index_bounds_by types (Some (type.Str max)) = Some (pos 0, pos max)
index_bounds_by types _ = None

abbrev pub index_bounds : TypeInTable → Option (ℤ × ℤ)
index_bounds of = index_bounds_by of.table.types (definition of)

-- the kind of the method that answers a virtual slot, by the classes that the sort has
abbrev pub slot_kind : Sort → ℕ → Option Kind
slot_kind sort.Char slot = None
slot_kind sort.Integer slot = None
slot_kind (sort.Of types classes ty) slot = option_map (λ (method : Method). method.header.kind) (method_at (members_in classes.now ty) slot)
