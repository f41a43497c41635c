-- What is read in src/ as what the meaning reads.
use Rattle.std.specs.Prelude.{ℕ, List}
use Rattle.interpreter_effects.specs.declared.initializers.cells.Read.{Read}
use Rattle.interpreter_store.specs.cell_store.Views.{view_tree}
use Rattle.tp_meaning.specs.Trees.{Tree}
use Rattle.interpreter_store.specs.typed_cells.Copies.{onto}

abbrev pub view_read : Read → Tree × List ℕ
view_read read = (view_tree read.tree, read.rest.now)

-- these parts, and then those of the tree
abbrev pub behind : List Tree → Tree × List ℕ → Tree × List ℕ
behind parts read = (onto parts read.0, read.1)
