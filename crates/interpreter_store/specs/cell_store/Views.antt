-- The values, trees and stores of src/ as those of the meaning.
use Rattle.std.specs.Prelude.{ℕ, List, [], ◌∷◌, Option, map}
use Rattle.std.specs.Option.{option_map}
use Rattle.interpreter_store.specs.declared.cell_store.contents.Key.{Key}
use Rattle.interpreter_store.specs.declared.cell_store.contents.Spot.{Spot}
use Rattle.interpreter_store.specs.declared.cell_store.contents.Value.{Value}
use Rattle.interpreter_store.specs.declared.cell_store.contents.Value.TheVariants as value
use Rattle.interpreter_store.specs.declared.cell_store.cells.Tree.{Tree, Row_of-Tree, end_of-Tree, more_of-Tree}
use Rattle.interpreter_store.specs.declared.cell_store.cells.Tree.TheVariants as tree
use Rattle.interpreter_store.specs.declared.cell_store.objects.Object.{Object}
use Rattle.interpreter_store.specs.declared.cell_store.objects.Store.{Store}
use Rattle.tp_meaning.specs.Trees.{Key as PureKey, Spot as PureSpot, Value as PureValue, Ordinal, Text, Elements, Nil, Block, Code, Class, At, Void, Tree as PureTree, Leaf, chain}
use Rattle.tp_meaning.specs.Store.{Object as PureObject, Store as PureStore}

abbrev pub view_key : Key → PureKey
view_key key = record { unit = key.unit; number = key.number }

abbrev pub view_spot : Spot → PureSpot
view_spot spot = record { object = spot.object; path = spot.path }

abbrev pub view_value : Value → PureValue
view_value (value.Ordinal z) = Ordinal z
view_value (value.Text bytes) = Text bytes
view_value (value.Elements set) = Elements set
view_value value.Nil = Nil
view_value (value.Block serial) = Block serial
view_value (value.Code routine) = Code (view_key routine)
view_value (value.Class class) = Class (option_map view_key class)
view_value (value.At spot) = At (view_spot spot)
view_value value.Void = Void

abbrev mutual
  pub view_tree : Tree → PureTree
  view_tree (tree.Leaf cell) = Leaf (option_map view_value cell)
  view_tree (tree.Parts' shape row) = chain (view_row row)

  pub view_row : {n : _} → Row_of-Tree n → List PureTree
  view_row end_of-Tree = []
  view_row (more_of-Tree part rest) = view_tree part ∷ view_row rest

-- parts one behind another
abbrev pub view_parts : List Tree → PureTree
view_parts parts = chain (map view_tree parts)

abbrev pub view_object : Object → PureObject
view_object object = record { tree = view_tree object.tree; bytes = object.bytes }

abbrev pub view_slot : Option Object → Option PureObject
view_slot slot = option_map view_object slot

abbrev pub view_store : Store → PureStore
view_store store = record { objects = map view_slot store.objects.items; rows = store.blocks }
