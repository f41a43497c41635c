-- Quotient and remainder of LongInts as flat code: their magnitudes are divided in twos, in 32 rounds.
-- The dividend's words stand at 12 and 10 and become the quotient's, the divisor's stand at 8 and 6; the rest's stand at -4 and -2, at -6 whether the result is negative, and at -8 how many rounds are left.
use Rattle.std.specs.Prelude.{ℤ, pos, negsuc}
use Rattle.flat_code.specs.declared.tree.Address.TheVariants.{Local}
use Rattle.flat_code.specs.declared.tree.FlatOp.TheVariants as op
use Rattle.flat_code.specs.Tree.{Expr, Number, Op, StoreWord, Leave, Error, Code, End, Do, If, Loop, ◌then◌}
use Rattle.flat_code.specs.Program.{Routine}
use Rattle.rt_strings.specs.long_integers.Routines.{routine_of, word, low_word, high_word, other_low_word, other_high_word}

abbrev pub rest_low : Expr
rest_low = word (negsuc 3)

abbrev pub rest_high : Expr
rest_high = word (negsuc 1)

-- twice the upper word, and the top bit of the lower one
abbrev pub doubled : Expr → Expr → Expr
doubled upper lower = Op op.Add (Op op.Add upper upper) (Op op.Shr lower (Number 15))

abbrev pub is_negative : Expr → Expr
is_negative upper = Op op.Less upper (Number 0)

-- the negative of two words takes their place
abbrev pub negate : ℤ → ℤ → Code
negate low high =
    Do (StoreWord (Local high) (Op op.Sub (Op op.Sub (Number 0) (word high)) (Op op.Below (Number 0) (word low))))
    (Do (StoreWord (Local low) (Op op.Sub (Number 0) (word low)))
    End)

abbrev pub test_divisor : Code
test_divisor = If (Op op.And (Op op.Equal other_low_word (Number 0)) (Op op.Equal other_high_word (Number 0))) (Do (Error 200) End) End End

-- the sign of the result is kept, and magnitudes take the place of the numbers
abbrev pub take_magnitude : ℤ → ℤ → Code
take_magnitude low high = If (is_negative (word high)) (negate low high) End End

abbrev pub keep_sign : Expr → Code
keep_sign sign = Do (StoreWord (Local (negsuc 5)) sign) End

abbrev pub begin_rounds : Code
begin_rounds =
    Do (StoreWord (Local (negsuc 3)) (Number 0))
    (Do (StoreWord (Local (negsuc 1)) (Number 0))
    (Do (StoreWord (Local (negsuc 7)) (Number 32))
    End))

-- dividend and rest move by one bit
abbrev pub shift_in : Code
shift_in =
    Do (StoreWord (Local (negsuc 1)) (doubled rest_high rest_low))
    (Do (StoreWord (Local (negsuc 3)) (doubled rest_low high_word))
    (Do (StoreWord (Local (pos 10)) (doubled high_word low_word))
    (Do (StoreWord (Local (pos 12)) (Op op.Add low_word low_word))
    End)))

-- the rest is below the divisor
abbrev pub rest_is_less : Expr
rest_is_less = Op op.Or (Op op.Below rest_high other_high_word) (Op op.And (Op op.Equal rest_high other_high_word) (Op op.Below rest_low other_low_word))

-- where the divisor fits into the rest it is taken off, and the quotient gets a bit
abbrev pub take_off : Code
take_off =
    If rest_is_less End
    (Do (StoreWord (Local (negsuc 1)) (Op op.Sub (Op op.Sub rest_high other_high_word) (Op op.Below rest_low other_low_word)))
    (Do (StoreWord (Local (negsuc 3)) (Op op.Sub rest_low other_low_word))
    (Do (StoreWord (Local (pos 12)) (Op op.Add low_word (Number 1)))
    End)))
    End

abbrev pub count_down : Code
count_down =
    Do (StoreWord (Local (negsuc 7)) (Op op.Sub (word (negsuc 7)) (Number 1)))
    (If (word (negsuc 7)) End (Do (Leave 1) End)
    End)

abbrev pub one_round : Code
one_round = shift_in then (take_off then count_down)

abbrev pub rounds : Code
rounds = Loop one_round End

-- the result's words stand where the rest's do
abbrev pub take_quotient : Code
take_quotient =
    Do (StoreWord (Local (negsuc 3)) low_word)
    (Do (StoreWord (Local (negsuc 1)) high_word)
    End)

abbrev pub give_sign : Code
give_sign = If (word (negsuc 5)) (negate (negsuc 3) (negsuc 1)) End End

-- with this sign, and this after the rounds
abbrev pub division_code : Expr → Code → Code
division_code sign last =
    test_divisor then (keep_sign sign then (take_magnitude (pos 12) (pos 10) then (take_magnitude (pos 8) (pos 6) then (begin_rounds then (rounds then (last then give_sign))))))

-- negative where one of the two is
abbrev pub quotient_routine : Routine
quotient_routine = routine_of 8 8 (negsuc 3) 4 (division_code (Op op.Xor (is_negative high_word) (is_negative other_high_word)) take_quotient)

-- with the sign of the dividend
abbrev pub remainder_routine : Routine
remainder_routine = routine_of 8 8 (negsuc 3) 4 (division_code (is_negative high_word) End)
