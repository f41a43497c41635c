-- The constructor of a set as flat code: it adds the elements of a range. A pointer takes two words of the arguments, the segment uppermost.
use Rattle.std.specs.Prelude.{pos, negsuc}
use Rattle.flat_code.specs.declared.tree.FlatOp.TheVariants as op
use Rattle.flat_code.specs.Tree.{Expr, Number, Op, Code, End, If, Loop, ◌then◌}
use Rattle.flat_code.specs.Program.{Routine}
use Rattle.runtime_proofs.specs.string_loops.Pieces.{procedure_of, word, behind, set_word, set_behind, raise, leave}

-- the set at 12 and 10, the element that is added next at 8, the last one at 6; at -2 and -4 a pointer to its byte

abbrev pub take_pointer : Code
take_pointer = set_word (negsuc 1) (word (pos 12)) (set_word (negsuc 3) (word (pos 10)) End)

-- the byte with the element's bit
abbrev pub with_bit : Expr
with_bit = Op op.Or (behind (negsuc 3) 0) (Op op.Shl (Number 1) (Op op.ModUnsigned (word (pos 8)) (Number 8)))

abbrev pub add_element : Code
add_element =
    set_word (negsuc 3) (Op op.Add (word (pos 10)) (Op op.DivUnsigned (word (pos 8)) (Number 8)))
    (set_behind (negsuc 3) 0 with_bit
    (raise (pos 8) (Number 1)
    End))

abbrev pub range_round : Code
range_round = If (Op op.Below (word (pos 6)) (word (pos 8))) leave add_element End

abbrev pub include_routine : Routine
include_routine = procedure_of 8 4 (take_pointer then Loop range_round End)
