-- The routine that writes an integer, as flat code. The number's lower word stands at 10, its upper one at 8, and the width at 6.
-- The digits are stored in the item buffer, the last one first. At -2 and -4 stands a pointer to the byte before them, the segment uppermost, at -6 and -8 stand dividends, and at -14 whether the number is negative.
use Rattle.std.specs.Prelude.{pos, negsuc}
use Rattle.flat_code.specs.declared.tree.FlatOp.TheVariants as op
use Rattle.flat_code.specs.Tree.{Expr, Number, Op, Code, End, If, Loop, ◌then◌}
use Rattle.flat_code.specs.Program.{Routine}
use Rattle.runtime_proofs.specs.string_loops.Pieces.{procedure_of, word, set_word, set_behind, lessen, leave}
use Rattle.runtime_proofs.specs.text_memory.Pieces.{item_offset, set_segment}
use Rattle.rt_text.specs.write_text.Showing.{show_text}

abbrev pub begin_words : Code
begin_words =
    set_word (negsuc 5) (Number 0)
    (set_word (negsuc 7) (Number 0)
    (set_word (negsuc 13) (Op op.Less (word (pos 8)) (Number 0))
    End))

-- the pointer leads to the last byte of which a text may be made
abbrev pub begin_pointer : Code
begin_pointer = set_word (negsuc 3) (item_offset 507) (set_segment (negsuc 1) End)

-- the negative of the number takes its place
abbrev pub negate : Code
negate =
    set_word (pos 8) (Op op.Sub (Op op.Sub (Number 0) (word (pos 8))) (Op op.Below (Number 0) (word (pos 10))))
    (set_word (pos 10) (Op op.Sub (Number 0) (word (pos 10)))
    End)

abbrev pub take_magnitude : Code
take_magnitude = If (word (negsuc 13)) negate End End

-- ---- one digit: the number is divided by 10, its upper word first and then byte by byte

abbrev pub times_256 : Expr → Expr → Expr
times_256 upper lower = Op op.Add (Op op.Shl upper (Number 8)) lower

abbrev pub quotient_10 : Expr → Expr
quotient_10 e = Op op.DivUnsigned e (Number 10)

abbrev pub rest_10 : Expr → Expr
rest_10 e = Op op.ModUnsigned e (Number 10)

abbrev pub store_digit : Code
store_digit = set_behind (negsuc 3) 0 (Op op.Add (Number 48) (rest_10 (word (negsuc 5)))) (lessen (negsuc 3) (Number 1) End)

abbrev pub divide : Code
divide =
    set_word (negsuc 5) (rest_10 (word (pos 8)))
    (set_word (pos 8) (quotient_10 (word (pos 8)))
    (set_word (negsuc 7) (times_256 (word (negsuc 5)) (Op op.Shr (word (pos 10)) (Number 8)))
    (set_word (negsuc 5) (times_256 (rest_10 (word (negsuc 7))) (Op op.ModUnsigned (word (pos 10)) (Number 256)))
    (set_word (pos 10) (times_256 (quotient_10 (word (negsuc 7))) (quotient_10 (word (negsuc 5))))
    End))))

abbrev pub is_zero : Expr
is_zero = Op op.And (Op op.Equal (word (pos 10)) (Number 0)) (Op op.Equal (word (pos 8)) (Number 0))

abbrev pub stop_at_zero : Code
stop_at_zero = If is_zero leave End End

abbrev pub digit_round : Code
digit_round = divide then (store_digit then stop_at_zero)

-- ---- the sign, and how long the text is

abbrev pub give_sign : Code
give_sign = If (word (negsuc 13)) (set_behind (negsuc 3) 0 (Number 45) (lessen (negsuc 3) (Number 1) End)) End End

abbrev pub end_digits : Code
end_digits = set_word (negsuc 5) (Op op.Sub (item_offset 507) (word (negsuc 3))) End

abbrev pub make_digits : Code
make_digits = begin_words then (begin_pointer then (take_magnitude then ((Loop digit_round End) then (give_sign then end_digits))))

abbrev pub write_integer_routine : Routine
write_integer_routine = procedure_of 6 14 (make_digits then show_text)
