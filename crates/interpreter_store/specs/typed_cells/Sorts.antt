-- Types with their tables in src/ as those of the meaning.
use Rattle.std.specs.Prelude.{[], ◌∷◌}
use Rattle.type_layout.specs.declared.definitions.TypeDef.{TypeDef}
use Rattle.type_layout.specs.Table.{Table}
use Rattle.interpreter_store.specs.declared.typed_cells.sorts.Sort.{Sort}
use Rattle.interpreter_store.specs.declared.typed_cells.sorts.Sort.TheVariants as sort
use Rattle.interpreter_store.specs.declared.typed_cells.sorts.Reached.{Reached}
use Rattle.interpreter_store.specs.cell_store.Views.{view_spot}
use Rattle.tp_meaning.specs.Programs.{Sort as PureSort}
use Rattle.tp_meaning.specs.Activations.{Reached as PureReached}

-- a table of one type
abbrev pub alone : TypeDef → Table
alone one = record { types = one ∷ []; origins = []; units = [] }

abbrev pub view_sort : Sort → PureSort
view_sort (sort.Alone one) = record { table = alone one.now; ty = record { 0 = 0 } }
view_sort (sort.Of types ty) = record { table = types.now; ty = ty }

abbrev pub view_reached : Reached → PureReached
view_reached at = record { spot = view_spot at.spot; sort = view_sort at.sort }
