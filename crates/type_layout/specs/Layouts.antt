-- The memory that types take.
use Rattle.std.specs.Prelude.{◌≡◌, ℕ, ◌+◌, ◌-◌, ◌*◌, ◌<◌, ◌≤◌, All, length, ℤ, pos, Bool, true, false, List, [], ◌∷◌, ◌++◌, Option, Some, None, get_or, slice_get, slice_index, sum_by}
use Rattle.type_layout.specs.declared.definitions.TypeId.{TypeId}
use Rattle.type_layout.specs.declared.definitions.Field.{Field}
use Rattle.type_layout.specs.declared.definitions.TypeDef.{TypeDef}
use Rattle.type_layout.specs.declared.definitions.TypeDef.TheVariants.{Ordinal, Str, SetOf, ArrayOf, RecordOf, PointerTo, ObjectOf, Procedural}
use Rattle.type_layout.specs.declared.layout.Layout.{Layout}
use Rattle.type_layout.specs.Storage.{storage_of, width_of, count_between, set_bytes}

-- the bounds of an ordinal type
abbrev pub bounds_of : Option TypeDef → ℤ × ℤ
bounds_of (Some (Ordinal host low high)) = (low, high)
bounds_of _ = (pos 0, pos 0)

abbrev pub bounds_at : List TypeDef → TypeId → ℤ × ℤ
bounds_at types id = bounds_of (slice_get types id.0)

-- a type of this size whose values have no class field
abbrev pub plain : ℕ → Layout
plain size = record { size = size; class_field = None }

abbrev pub layout_in : List Layout → TypeId → Layout
layout_in layouts id = get_or layouts id.0 (plain 0)

abbrev pub size_in : List Layout → TypeId → ℕ
size_in layouts id = (layout_in layouts id).size

-- the bytes of fields that follow one another without gaps
abbrev pub fields_size : List Layout → List Field → ℕ
fields_size layouts fields = sum_by (λ field. size_in layouts field.ty) fields

-- what an object type inherits: nothing where it has no ancestor
abbrev pub inherited : List Layout → Option TypeId → Layout
inherited layouts None = plain 0
inherited layouts (Some parent) = layout_in layouts parent

-- An object with its ancestor's layout and own fields that end at a place. The class field of two bytes
-- follows the fields of the first type in the line that is dynamic.
abbrev pub object_by : Option ℕ → Bool → ℕ → Layout
object_by (Some at) dynamic end = record { size = end; class_field = Some at }
object_by None true end = record { size = end + 2; class_field = Some end }
object_by None false end = record { size = end; class_field = None }

-- the class field of an object whose size is known, by the class field that it inherits
abbrev pub class_field_within : Option ℕ → Bool → ℕ → Option ℕ
class_field_within (Some at) dynamic size = Some at
class_field_within None true size = Some (size - 2)
class_field_within None false size = None

-- the layout of a type over the types before it and their layouts
abbrev pub layout_by : List TypeDef → List Layout → TypeDef → Layout
layout_by types layouts (Ordinal host low high) = plain (width_of (storage_of host low high))
layout_by types layouts (Str max) = plain (max + 1)
layout_by types layouts (SetOf base) = plain (set_bytes (bounds_at types base).0 (bounds_at types base).1)
layout_by types layouts (ArrayOf index element) =
    plain (count_between (bounds_at types index).0 (bounds_at types index).1 * size_in layouts element)
layout_by types layouts (RecordOf fields) = plain (fields_size layouts fields)
layout_by types layouts (PointerTo target) = plain 4
layout_by types layouts (ObjectOf parent dynamic fields methods) =
    object_by (inherited layouts parent).class_field dynamic ((inherited layouts parent).size + fields_size layouts fields)
layout_by types layouts (Procedural header) = plain 4

-- what each type of a table gives, by a rule that looks at the types before it and at what these gave
abbrev pub given_by : {A : Type 0} → (List TypeDef → List A → TypeDef → A) → List TypeDef → List A → List TypeDef → List A
given_by rule before given [] = given
given_by rule before given (one ∷ rest) = given_by rule (before ++ one ∷ []) (given ++ rule before given one ∷ []) rest

-- the layout of each type of a table
abbrev pub layouts_of : List TypeDef → List Layout
layouts_of types = given_by layout_by [] [] types

abbrev pub layout_at : List TypeDef → TypeId → Layout
layout_at types id = layout_in (layouts_of types) id

-- the bytes of a value of a type
abbrev pub size_of : List TypeDef → TypeId → ℕ
size_of types id = (layout_at types id).size

-- the bytes of a further type over a table
abbrev pub size_over : List TypeDef → TypeDef → ℕ
size_over types one = (layout_by types (layouts_of types) one).size

-- the places of fields that follow one another from a place on
abbrev pub placed_from : List Layout → ℕ → List Field → List ℕ
placed_from layouts at [] = []
placed_from layouts at (field ∷ fields) = at ∷ placed_from layouts (at + size_in layouts field.ty) fields

abbrev pub offsets_in : List (List ℕ) → Option TypeId → List ℕ
offsets_in offsets None = []
offsets_in offsets (Some id) = get_or offsets id.0 []

-- The offsets of a type's fields, those of its ancestor first, over the types before it and their offsets.
abbrev pub offsets_by : List TypeDef → List (List ℕ) → TypeDef → List ℕ
offsets_by types offsets (RecordOf fields) = placed_from (layouts_of types) 0 fields
offsets_by types offsets (ObjectOf parent dynamic fields methods) =
    offsets_in offsets parent ++ placed_from (layouts_of types) (inherited (layouts_of types) parent).size fields
offsets_by types offsets _ = []

-- the offsets of the fields of each type of a table
abbrev pub offsets_of : List TypeDef → List (List ℕ)
offsets_of types = given_by offsets_by [] [] types

abbrev pub offsets_at : List TypeDef → TypeId → List ℕ
offsets_at types id = offsets_in (offsets_of types) (Some id)

-- the offset of a field, those of the ancestors being counted first
abbrev pub offset_of : List TypeDef → TypeId → ℕ → ℕ
offset_of types id field = slice_index (offsets_at types id) field

-- A type's own fields begin at a place behind the inherited ones, and end within the limit.
pub record HasFieldsFrom (types : List TypeDef) (id : TypeId) (above : List ℕ) (start : ℕ) (fields : List Field) : Type 0 where
  pub offsets : offsets_at types id ≡ above ++ placed_from (layouts_of types) start fields
  pub known : All (λ field. field.ty.0 < length (layouts_of types)) fields
  pub room : start + fields_size (layouts_of types) fields ≤ 65520

-- how the fields of a type lie in it
abbrev pub HasFieldsOf : List TypeDef → TypeId → TypeDef → Type 0
HasFieldsOf types id (RecordOf fields) = HasFieldsFrom types id [] 0 fields
HasFieldsOf types id (ObjectOf None dynamic fields methods) = HasFieldsFrom types id [] 0 fields
HasFieldsOf types id (ObjectOf (Some parent) dynamic fields methods) =
    (parent.0 < id.0) × HasFieldsFrom types id (offsets_at types parent) (layout_at types parent).size fields
HasFieldsOf types id (Ordinal host low high) = offsets_at types id ≡ []
HasFieldsOf types id (Str max) = offsets_at types id ≡ []
HasFieldsOf types id (SetOf base) = offsets_at types id ≡ []
HasFieldsOf types id (ArrayOf index element) = offsets_at types id ≡ []
HasFieldsOf types id (PointerTo target) = offsets_at types id ≡ []
HasFieldsOf types id (Procedural header) = offsets_at types id ≡ []

-- The layout of each type is what its construct makes of the layouts of its parts.
pub record IsMeasured (types : List TypeDef) : Type 0 where
  pub layouts : (id : TypeId) (one : TypeDef) → slice_get types id.0 ≡ Some one
      → layout_at types id ≡ layout_by types (layouts_of types) one
  pub offsets : (id : TypeId) (one : TypeDef) → slice_get types id.0 ≡ Some one
      → offsets_at types id ≡ offsets_by types (offsets_of types) one
