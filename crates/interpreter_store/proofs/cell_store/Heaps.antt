-- The blocks of a program's heap.
use Rattle.std.proofs.Common.{◌≡◌, ℕ, Bool, true, false, List, [], ◌∷◌, ◌++◌, Some, refl, nat_lt}
use Rattle.std.specs.Prelude.{if◌then◌else◌, Ok, Err}
use Rattle.typed_tree.specs.declared.units.Program.{Program}
use Rattle.common_values.specs.declared.blocks.Row.{Row}
use Rattle.common_values.specs.Blocks.{rounded, block_sum, with_block}
use Rattle.tp_meaning.specs.Trees.{Tree}
use Rattle.tp_meaning.specs.Shapes.{new_tree}
use Rattle.tp_meaning.specs.Found.{Error, Found, ◌>>=◌}
use Rattle.tp_meaning.specs.Store.{Store}
use Rattle.tp_meaning.specs.Programs.{Sort, heap_of, size_in}
use Rattle.tp_meaning.specs.Standard.{made}
use Rattle.interpreter_store.specs.cell_store.Parts.{block_made}

abbrev with_block_of : ℕ → Tree → Store → List Row → Store
with_block_of bytes tree store rows = record { objects = store.objects ++ Some (record { tree = tree; bytes = bytes }) ∷ []; rows = rows }

by_room : (full : Bool) (store : Store) (rows : List Row) (bytes : ℕ) (tree : Tree)
    → (if full then Err (Error 203) else Ok (with_block_of bytes tree store rows)) ≡ ((if full then Err (Error 203) else Ok rows) >>= λ rows. Ok (with_block_of bytes tree store rows))
by_room true store rows bytes tree = refl
by_room false store rows bytes tree = refl

pub made_is : (program : Program) (sort : Sort) (store : Store) → made program sort store ≡ block_made (new_tree sort.table.types sort.ty) (size_in sort) (heap_of program) store
made_is program sort store =
    let rows = with_block (rounded (size_in sort)) store.rows in
    by_room (nat_lt (heap_of program) (block_sum rows)) store rows (size_in sort) (new_tree sort.table.types sort.ty)
