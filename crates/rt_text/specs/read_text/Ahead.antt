-- The byte ahead, as flat code: the routines that read keep it in the word at -2.
use Rattle.std.specs.Prelude.{negsuc}
use Rattle.flat_code.specs.declared.tree.FlatOp.TheVariants as op
use Rattle.flat_code.specs.Tree.{Expr, Number, Word, Op, StoreWord, Code, End, Do, If, ◌then◌}
use Rattle.runtime_proofs.specs.string_loops.Pieces.{word, set_word}
use Rattle.runtime_proofs.specs.text_memory.Pieces.{ahead_at, fetch}

abbrev pub set_ahead : Expr → Code → Code
set_ahead value next = Do (StoreWord ahead_at value) next

-- a byte is read, and the end of the input is byte 26
abbrev pub read_ahead : Code
read_ahead =
    fetch (negsuc 1)
    (If (Op op.Equal (word (negsuc 1)) (Number 65535)) (set_word (negsuc 1) (Number 26) End) End
    (set_ahead (word (negsuc 1))
    End))

abbrev pub fill : Code
fill = If (Op op.Equal (Word ahead_at) (Number 256)) read_ahead End End

-- the word at -2 becomes the next byte of the input, or 26 at its end
abbrev pub peek : Code
peek = fill then (set_word (negsuc 1) (Word ahead_at) End)

-- the byte ahead is taken
abbrev pub take : Code
take = set_ahead (Number 256) End
