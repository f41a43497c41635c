-- One byte of a numeral, as flat code. A routine that reads a numeral keeps the byte at -2, where the numeral stands at -4, whether it has a minus at -6, its radix at -8, and its magnitude at -10 and -12, the upper word first. At -14 stands what the byte is worth as a digit.
use Rattle.std.specs.Prelude.{ℕ, ℤ, negsuc}
use Rattle.flat_code.specs.declared.tree.FlatOp.TheVariants as op
use Rattle.flat_code.specs.Tree.{Expr, Number, Op, Code, End, If}
use Rattle.runtime_proofs.specs.string_loops.Pieces.{word, set_word}

-- a word is this number
abbrev pub is_number : ℤ → ℕ → Expr
is_number at n = Op op.Equal (word at) (Number n)

abbrev pub is_byte : ℕ → Expr
is_byte byte = is_number (negsuc 1) byte

abbrev pub begin_numeral : Code
begin_numeral =
    set_word (negsuc 1) (Number 0)
    (set_word (negsuc 3) (Number 0)
    (set_word (negsuc 5) (Number 0)
    (set_word (negsuc 7) (Number 10)
    (set_word (negsuc 9) (Number 0)
    (set_word (negsuc 11) (Number 0)
    (set_word (negsuc 13) (Number 0)
    End))))))

-- no numeral goes on so
abbrev pub stop : Code
stop = set_word (negsuc 3) (Number 4) End

-- ---- digits

-- so much, where the byte is above another one
abbrev pub if_above : ℕ → ℕ → Expr
if_above byte n = Op op.Mul (Number n) (Op op.Below (Number byte) (word (negsuc 1)))

-- the byte as a digit; 16 or more where it is none
abbrev pub digit_of_byte : Expr
digit_of_byte = Op op.Sub (Op op.Sub (Op op.Add (Op op.Sub (word (negsuc 1)) (Number 48)) (if_above 57 16)) (if_above 64 23)) (if_above 96 32)

-- the magnitude with one more digit
abbrev pub grown_low : Expr
grown_low = Op op.Add (Op op.Mul (word (negsuc 11)) (word (negsuc 7))) (word (negsuc 13))

abbrev pub grown_high : Expr
grown_high =
    Op op.Add (Op op.Add (Op op.Mul (word (negsuc 9)) (word (negsuc 7))) (Op op.MulHigh (word (negsuc 11)) (word (negsuc 7)))) (Op op.Below grown_low (word (negsuc 13)))

-- it lies in LongInt: with a minus there is one more
abbrev pub fits : Expr
fits = Op op.Or (Op op.Below (word (negsuc 9)) (Number 32768)) (Op op.And (Op op.And (is_number (negsuc 9) 32768) (is_number (negsuc 11) 0)) (word (negsuc 5)))

abbrev pub take_digit : Code
take_digit = set_word (negsuc 9) grown_high (set_word (negsuc 11) grown_low (If fits (set_word (negsuc 3) (Number 3) End) stop End))

-- where the upper word is above 3276 no digit may follow, and below that no product passes 32 bits
abbrev pub digit_step : Code
digit_step =
    set_word (negsuc 13) digit_of_byte (If (Op op.And (Op op.Below (word (negsuc 13)) (word (negsuc 7))) (Op op.Below (word (negsuc 9)) (Number 3277))) take_digit stop End)

-- ---- what may come before them

abbrev pub dollar_step : Code
dollar_step = If (Op op.And (Op op.Below (word (negsuc 3)) (Number 2)) (is_byte 36)) (set_word (negsuc 3) (Number 2) (set_word (negsuc 7) (Number 16) End)) digit_step End

abbrev pub numeral_step : Code
numeral_step =
    If (Op op.And (is_number (negsuc 3) 0) (Op op.Or (is_byte 43) (is_byte 45))) (set_word (negsuc 3) (Number 1) (set_word (negsuc 5) (is_byte 45) End)) dollar_step End

-- ---- a whole numeral: its sign goes to the magnitude

abbrev pub negate : Code
negate =
    set_word (negsuc 9) (Op op.Sub (Op op.Sub (Number 0) (word (negsuc 9))) (Op op.Below (Number 0) (word (negsuc 11))))
    (set_word (negsuc 11) (Op op.Sub (Number 0) (word (negsuc 11)))
    End)

abbrev pub give_sign : Code
give_sign = If (word (negsuc 5)) negate End End
