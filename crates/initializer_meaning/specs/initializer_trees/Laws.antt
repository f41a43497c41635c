-- The law of first values.
use Rattle.std.specs.Prelude.{ℕ, List, [], Some}
use Rattle.type_layout.specs.declared.definitions.TypeId.{TypeId}
use Rattle.type_layout.specs.declared.texts.Place.{Place}
use Rattle.type_layout.specs.Table.{AllDefined}
use Rattle.scopes.specs.Environment.{Environment}
use Rattle.tp_meaning.specs.Shapes.{first_tree}
use Rattle.constant_checker.specs.typed_constants.Trees.{Initial}
use Rattle.constant_checker.specs.typed_constants.Initializers.{IsFirst}
use Rattle.initializer_meaning.specs.initializer_trees.FirstTrees.{IsTree}

-- Where the types are defined one over another, as in each table, the tree that the meaning reads of the bytes that a first value
-- gives is the tree of the first value.
abbrev pub AreTreesOfInitializers : Type 0
AreTreesOfInitializers = (g : Environment) (place : Place) (ty : TypeId) (initial : Initial) (bytes : List ℕ) → AllDefined [] g.types.types
    → IsFirst g place ty initial bytes → IsTree g (Some ty) initial (first_tree g.types.types ty (Some bytes))
