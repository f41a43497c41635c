-- What a step does to the part of a store that it changes.
use Rattle.std.specs.Prelude.{ℕ, ◌==◌, nat_lt, if◌then◌else◌, pos, List, [], ◌∷◌, ◌++◌, Option, Some, None, Ok, Err}
use Rattle.common_values.specs.declared.blocks.Row.{Row}
use Rattle.common_values.specs.Blocks.{rounded, block_sum, with_block}
use Rattle.tp_meaning.specs.Trees.{Ordinal, Tree, holding, part_at, with_part}
use Rattle.tp_meaning.specs.Found.{Act, Error, Found, ◌>>=◌, known}
use Rattle.tp_meaning.specs.Store.{Object, Store}

-- the tree with another part where the path leads, if it leads anywhere
abbrev pub exchanged : Tree → List ℕ → Tree → Found Tree
exchanged tree path part = known (part_at tree path) >>= λ old. Ok (with_part tree path part)

-- the object with another tree at a place
abbrev pub exchanged_in : Option Object → List ℕ → Tree → Found (Option Object)
exchanged_in None path tree = Err (Act 2)
exchanged_in (Some object) path tree = exchanged object.tree path tree >>= λ new. Ok (Some (record { tree = new; bytes = object.bytes }))

-- a cell of a string
abbrev pub byte_cell : ℕ → Tree
byte_cell byte = holding (Ordinal (pos byte))

-- the rows with a block of so many bytes more, where a heap of so many bytes has room for them
abbrev pub rows_with : ℕ → ℕ → List Row → Found (List Row)
rows_with bytes heap rows =
    if nat_lt heap (block_sum (with_block (rounded bytes) rows)) then Err (Error 203) else Ok (with_block (rounded bytes) rows)

-- the store with a new block of so many bytes
abbrev pub block_made : Tree → ℕ → ℕ → Store → Found Store
block_made tree bytes heap store =
    rows_with bytes heap store.rows >>= λ rows. Ok (record { objects = store.objects ++ Some (record { tree = tree; bytes = bytes }) ∷ []; rows = rows })

-- what is left of an object that is freed by so many bytes
abbrev pub freed : Option Object → ℕ → Found (Option Object)
freed None bytes = Err (Act 2)
freed (Some object) bytes = if object.bytes == bytes then Ok None else Err (Act 5)
