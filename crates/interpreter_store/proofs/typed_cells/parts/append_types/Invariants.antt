-- The types of the fields so far are appended.
use Rattle.std.proofs.Common.{◌≡◌, ◌++◌, map, take}
use Rattle.type_layout.specs.declared.definitions.Field.{Field}
use Rattle.interpreter_store.proofs.typed_cells.parts.append_types.Given as goal

abbrev pub invariant-fields : goal.invariant-fields
invariant-fields l = l.to.items ≡ l.fn.to.items ++ map (λ (field : Field). field.ty) (take l.field-index l.fields)
