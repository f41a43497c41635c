-- The operators on sets as flat code. A pointer takes two words of the arguments, the segment uppermost.
use Rattle.std.specs.Prelude.{pos, negsuc, Some, true}
use Rattle.flat_code.specs.declared.tree.Address.TheVariants.{Local}
use Rattle.flat_code.specs.declared.tree.FlatOp.TheVariants as op
use Rattle.flat_code.specs.Tree.{Expr, Number, Op, Code, End, If, Loop, ◌then◌}
use Rattle.flat_code.specs.Program.{Routine}
use Rattle.runtime_proofs.specs.string_loops.Pieces.{procedure_of, word, behind, set_word, set_behind, raise, lessen, leave}

-- ---- union, difference, intersection: the target at 16 and 14, the left set at 12 and 10, the right one at 8 and 6; at -2 how many bytes are left

abbrev pub left_byte : Expr
left_byte = behind (pos 10) 0

abbrev pub right_byte : Expr
right_byte = behind (pos 6) 0

abbrev pub combine_step : Expr → Code
combine_step value =
    set_behind (pos 14) 0 value
    (raise (pos 14) (Number 1)
    (raise (pos 10) (Number 1)
    (raise (pos 6) (Number 1)
    (lessen (negsuc 1) (Number 1)
    End))))

abbrev pub combine_round : Expr → Code
combine_round value = If (word (negsuc 1)) (combine_step value) leave End

abbrev pub all_bytes : Code
all_bytes = set_word (negsuc 1) (Number 32) End

-- each byte of the target is this value of two bytes
abbrev pub combine_routine : Expr → Routine
combine_routine value = procedure_of 12 2 (all_bytes then Loop (combine_round value) End)

abbrev pub union_byte : Expr
union_byte = Op op.Or left_byte right_byte

abbrev pub difference_byte : Expr
difference_byte = Op op.And left_byte (Op op.Xor right_byte (Number 255))

abbrev pub intersection_byte : Expr
intersection_byte = Op op.And left_byte right_byte
