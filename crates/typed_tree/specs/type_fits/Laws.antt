-- What follows for types.
use Rattle.std.specs.Prelude.{◌≡◌, ℕ, ◌<◌, List, length, Some}
use Rattle.type_layout.specs.declared.definitions.TypeId.{TypeId}
use Rattle.type_layout.specs.declared.definitions.TypeDef.{TypeDef}
use Rattle.type_layout.specs.Layouts.{offsets_at}
use Rattle.typed_tree.specs.type_fits.Fits.{field_type}

-- A field that has a type has an offset.
abbrev pub FieldsHaveOffsets : Type 0
FieldsHaveOffsets = (types : List TypeDef) (of ty : TypeId) (number : ℕ) → field_type types of number ≡ Some ty → number < length (offsets_at types of)
