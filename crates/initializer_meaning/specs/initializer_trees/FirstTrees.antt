-- The tree of cells that a first value is.
use Rattle.std.specs.Prelude.{◌≡◌, ℕ, List, Option, Some, map}
use Rattle.type_layout.specs.declared.definitions.TypeId.{TypeId}
use Rattle.type_layout.specs.declared.definitions.Field.{Field}
use Rattle.type_layout.specs.declared.definitions.TypeDef.{TypeDef}
use Rattle.type_layout.specs.declared.definitions.TypeDef.TheVariants as type
use Rattle.typed_tree.specs.declared.expressions.Value.{Value}
use Rattle.scopes.specs.Environment.{Environment}
use Rattle.common_values.specs.Sets.{contains}
use Rattle.tp_meaning.specs.Trees.{Tree, Tip, Fork, Ordinal, Elements, holding, chain}
use Rattle.constant_checker.specs.stored_values.Stored.{string_bytes}
use Rattle.initializer_meaning.specs.stored_value_laws.Laws.{byte_cell}
use Rattle.syntax_tree.specs.expression_tree.Trees as expression
use Rattle.constant_checker.specs.constant_expressions.Values.{number_of, bytes_of, elements_of}
use Rattle.constant_checker.specs.declared.typed_constants.written.Written.{Written}
use Rattle.constant_checker.specs.typed_constants.Trees.{Initial, Initials, Named, value, list, group, no_initials, and_initial, no_named, and_named}
use Rattle.constant_checker.specs.typed_constants.Written.{written_as}
use Rattle.constant_checker.specs.typed_constants.Initializers.{due_type, element_of, fields_in, behind_next, due_for}

-- a cell that holds a set with these elements
pub record IsSetCell (elements : List ℕ) (tree : Tree) : Type 0 where
  pub set : List ℕ
  pub is : tree ≡ holding (Elements set)
  pub same : (e : ℕ) → contains set e ≡ contains elements e

-- The cells of a constant where a type is due: an ordinal; a string byte by byte, filled with zeros; an array of Char byte by byte;
-- a set.
abbrev pub IsCell : Option TypeDef → Value → Tree → Type 0
IsCell (Some (type.Ordinal host low high)) v tree = tree ≡ holding (Ordinal (number_of v))
IsCell (Some (type.Str max)) v tree = tree ≡ chain (map byte_cell (string_bytes max (bytes_of v)))
IsCell (Some (type.ArrayOf index element)) v tree = tree ≡ chain (map byte_cell (bytes_of v))
IsCell (Some (type.SetOf base)) v tree = IsSetCell (elements_of v) tree
IsCell _ v tree = ⊥

-- an expression is a constant with these cells
pub record IsConstantTree (g : Environment) (due : Option TypeId) (one : expression.Tree) (tree : Tree) : Type 0 where
  pub written : Written
  pub holds : (written_as g one).holds written
  pub cells : IsCell (due_type g.types.types due) written.value tree

-- a tree that begins with a part
pub record IsForked (Head Tail : Tree → Type 0) (tree : Tree) : Type 0 where
  pub head : Tree
  pub tail : Tree
  pub is : tree ≡ Fork head tail
  pub first : Head head
  pub rest : Tail tail

-- the tree of a first value: elements and fields in their order
abbrev mutual
  pub IsTree : Environment → Option TypeId → Initial → Tree → Type 0
  IsTree g due (value one) tree = IsConstantTree g due one tree
  IsTree g due (list place items) tree = AreElements g (element_of (due_type g.types.types due)) items tree
  IsTree g due (group place fields) tree = AreFields g (fields_in (due_type g.types.types due)) fields tree

  pub AreElements : Environment → Option TypeId → Initials → Tree → Type 0
  AreElements g due no_initials tree = tree ≡ Tip
  AreElements g due (and_initial one rest) tree = IsForked (IsTree g due one) (AreElements g due rest) tree

  pub AreFields : Environment → Option (List Field) → Named → Tree → Type 0
  AreFields g due no_named tree = tree ≡ Tip
  AreFields g due (and_named one x rest) tree = IsForked (IsTree g (due_for due one.name) x) (AreFields g (behind_next due) rest) tree
