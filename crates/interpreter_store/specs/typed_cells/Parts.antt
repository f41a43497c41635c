-- What the first types of a table say of variables.
use Rattle.std.specs.Prelude.{ℕ, List, take, get_or, Option}
use Rattle.type_layout.specs.declared.definitions.TypeId.{TypeId}
use Rattle.type_layout.specs.declared.definitions.TypeDef.{TypeDef}
use Rattle.typed_tree.specs.type_fits.Fits.{types_in, field_types_of}
use Rattle.interpreter_store.specs.declared.typed_cells.parts.Part.{Part}
use Rattle.interpreter_store.specs.declared.typed_cells.parts.Part.TheVariants as part
use Rattle.tp_meaning.specs.Trees.{Tree, Tip}
use Rattle.tp_meaning.specs.Shapes.{Part as PurePart, FieldPart, ClassPart, parts_in, parts_of, trees_of, Reader, reader_in, readers_of}

abbrev pub view_part : Part → PurePart
view_part (part.Field ty) = FieldPart ty
view_part part.Class = ClassPart

-- the parts of a type that stands among so many types
abbrev pub parts_before : List TypeDef → ℕ → Option TypeId → List PurePart
parts_before types n ty = parts_in (parts_of (take n types)) ty

abbrev pub fields_before : List TypeDef → ℕ → Option TypeId → List TypeId
fields_before types n ty = types_in (field_types_of (take n types)) ty

-- the tree of a new variable of such a type
abbrev pub tree_before : List TypeDef → ℕ → TypeId → Tree
tree_before types n ty = get_or (trees_of (take n types)) ty.0 Tip

-- what makes a tree of the bytes that a typed constant of such a type begins with
abbrev pub reader_before : List TypeDef → ℕ → TypeId → Reader
reader_before types n ty = reader_in (readers_of (take n types)) ty
