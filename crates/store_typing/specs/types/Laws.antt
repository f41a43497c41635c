-- What units that agree have in common.
use Rattle.std.specs.Prelude.{◌≡◌, ℕ, List, ◌++◌, Some}
use Rattle.tp_meaning.specs.type_layout.declared.definitions.TypeId.{TypeId}
use Rattle.tp_meaning.specs.type_layout.Table.{IsObject}
use Rattle.tp_meaning.specs.typed_tree.declared.units.Program.{Program}
use Rattle.tp_meaning.specs.typed_tree.type_fits.Fits.{field_type}
use Rattle.tp_meaning.specs.Shapes.{parts_at}
use Rattle.tp_meaning.specs.Programs.{Sort, definition, class_key, beside}
use Rattle.store_typing.specs.types.Agreement.{IsKnown, IsOfLine}
use Rattle.store_typing.specs.types.Forms.{Form, line, part_forms, form_at, form_beside}

-- the field of another unit's type
pub record FieldOf (program : Program) (of : Sort) (number : ℕ) (one : Sort) : Type 0 where
  pub ty : TypeId
  pub is : field_type of.table.types of.ty number ≡ Some ty
  pub known : IsKnown program (beside of ty)
  pub same : class_key one ≡ class_key (beside of ty)

pub record AgreementLaws (program : Program) : Type 0 where
  -- what was declared at one place has the same cells and fields in all units
  pub forms : (a b : Sort) → IsKnown program a → IsKnown program b → class_key a ≡ class_key b → form_at a ≡ form_at b
  pub fields : (a b : Sort) (number : ℕ) (ty : TypeId) → IsKnown program a → IsKnown program b → class_key a ≡ class_key b → field_type a.table.types a.ty number ≡ Some ty → IsKnown program (beside a ty)
      → FieldOf program b number (beside a ty)
  -- an instance begins with the parts of each of its ancestors
  pub heirs : (own above : Sort) → IsKnown program own → IsKnown program above → IsOfLine own (class_key above) → IsObject (definition above)
      → (more : List Form) × (form_at own ≡ line (part_forms (form_beside above.table) (class_key own) (parts_at above.table.types above.ty) ++ more))
