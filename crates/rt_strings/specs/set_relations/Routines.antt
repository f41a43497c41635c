-- The relations of sets and `in` as flat code. A pointer takes two words of the arguments, the segment uppermost.
use Rattle.std.specs.Prelude.{pos, negsuc, ℕ, Some, true}
use Rattle.flat_code.specs.declared.tree.Address.TheVariants.{Local}
use Rattle.flat_code.specs.declared.tree.FlatOp.TheVariants as op
use Rattle.flat_code.specs.Tree.{Expr, Number, Op, Code, End, If, Loop, ◌then◌}
use Rattle.flat_code.specs.Program.{Routine}
use Rattle.runtime_proofs.specs.string_loops.Pieces.{word, behind, set_word, raise, lessen, leave}

-- a routine whose result is the word at -2
abbrev pub function_of : ℕ → ℕ → Code → Routine
function_of arguments locals body = record { far = true; arguments = arguments; locals = locals; frame = 0; result = Some (record { at = Local (negsuc 1); bytes = 2 }); body = body }

-- ---- relations: the left set at 12 and 10, the right one at 8 and 6; at -4 how many bytes are left

abbrev pub left_byte : Expr
left_byte = behind (pos 10) 0

abbrev pub right_byte : Expr
right_byte = behind (pos 6) 0

abbrev pub relation_start : Code
relation_start =
    set_word (negsuc 1) (Number 1)
    (set_word (negsuc 3) (Number 32)
    End)

abbrev pub relation_step : Code
relation_step =
    raise (pos 10) (Number 1)
    (raise (pos 6) (Number 1)
    (lessen (negsuc 3) (Number 1)
    End))

-- where two bytes fail the test, the sets do
abbrev pub relation_round : Expr → Code
relation_round test = If (word (negsuc 3)) (If test relation_step (set_word (negsuc 1) (Number 0) leave) End) leave End

abbrev pub relation_routine : Expr → Routine
relation_routine test = function_of 8 4 (relation_start then Loop (relation_round test) End)

abbrev pub same_test : Expr
same_test = Op op.Equal left_byte right_byte

abbrev pub subset_test : Expr
subset_test = Op op.Equal (Op op.And left_byte right_byte) left_byte

-- ---- `in`: the lower word of a LongInt at 12 and its upper one at 10, the set at 8 and 6

abbrev pub member_bit : Code
member_bit =
    raise (pos 6) (Op op.DivUnsigned (word (pos 12)) (Number 8))
    (set_word (negsuc 1) (Op op.And (Op op.Shr (behind (pos 6) 0) (Op op.ModUnsigned (word (pos 12)) (Number 8))) (Number 1))
    End)

-- no number beyond 255 is in a set
abbrev pub member_code : Code
member_code =
    set_word (negsuc 1) (Number 0)
    (If (word (pos 10)) End (If (Op op.Below (word (pos 12)) (Number 256)) member_bit End End)
    End)

abbrev pub member_routine : Routine
member_routine = function_of 8 2 member_code
