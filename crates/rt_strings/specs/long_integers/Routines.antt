-- The routines on LongInts as flat code. The words of the arguments stand above BP, the first one uppermost, and the result below it, the lower word first.
use Rattle.std.specs.Prelude.{ℕ, ℤ, pos, negsuc, Some, true}
use Rattle.flat_code.specs.declared.tree.Address.TheVariants.{Local}
use Rattle.flat_code.specs.declared.tree.FlatOp.TheVariants as op
use Rattle.flat_code.specs.Tree.{Expr, Number, Word, Op, StoreWord, Error, Code, End, Do, If}
use Rattle.flat_code.specs.Program.{Routine}

-- a routine of the runtime with so many bytes of arguments and locals, whose result stands lowest
abbrev pub routine_of : ℕ → ℕ → ℤ → ℕ → Code → Routine
routine_of arguments locals at bytes body = record {
  far = true;
  arguments = arguments;
  locals = locals;
  frame = 0;
  result = Some (record { at = Local at; bytes = bytes });
  body = body;
}

abbrev pub word : ℤ → Expr
word at = Word (Local at)

-- the words of two LongInts that a routine takes
abbrev pub low_word : Expr
low_word = word (pos 12)

abbrev pub high_word : Expr
high_word = word (pos 10)

abbrev pub other_low_word : Expr
other_low_word = word (pos 8)

abbrev pub other_high_word : Expr
other_high_word = word (pos 6)

-- a LongInt is less than another, by the places of their words
abbrev pub is_less : ℤ → ℤ → ℤ → ℤ → Expr
is_less low high other_low other_high = Op op.Or (Op op.Less (word high) (word other_high)) (Op op.And (Op op.Equal (word high) (word other_high)) (Op op.Below (word low) (word other_low)))

-- the carry out of the lower words goes into the upper ones
abbrev pub sum_routine : Routine
sum_routine =
    routine_of 8 4 (negsuc 3) 4
    (Do (StoreWord (Local (negsuc 3)) (Op op.Add low_word other_low_word))
    (Do (StoreWord (Local (negsuc 1)) (Op op.Add (Op op.Add high_word other_high_word) (Op op.Below (word (negsuc 3)) low_word)))
    End))

-- the upper word of the product of the lower words, with both products across, is the upper word
abbrev pub product_routine : Routine
product_routine =
    routine_of 8 4 (negsuc 3) 4
    (Do (StoreWord (Local (negsuc 3)) (Op op.Mul low_word other_low_word))
    (Do (StoreWord (Local (negsuc 1)) (Op op.Add (Op op.MulHigh low_word other_low_word) (Op op.Add (Op op.Mul low_word other_high_word) (Op op.Mul high_word other_low_word))))
    End))

-- the upper words decide, with their signs; where they are equal the lower ones do, without
abbrev pub less_routine : Routine
less_routine =
    routine_of 8 2 (negsuc 1) 2
    (Do (StoreWord (Local (negsuc 1)) (is_less (pos 12) (pos 10) (pos 8) (pos 6)))
    End)

-- the borrow of the lower words goes out of the upper ones
abbrev pub difference_routine : Routine
difference_routine =
    routine_of 8 4 (negsuc 3) 4
    (Do (StoreWord (Local (negsuc 3)) (Op op.Sub low_word other_low_word))
    (Do (StoreWord (Local (negsuc 1)) (Op op.Sub (Op op.Sub high_word other_high_word) (Op op.Below low_word other_low_word)))
    End))

abbrev pub equal_routine : Routine
equal_routine =
    routine_of 8 2 (negsuc 1) 2
    (Do (StoreWord (Local (negsuc 1)) (Op op.And (Op op.Equal high_word other_high_word) (Op op.Equal low_word other_low_word)))
    End)

-- ---- shifts: the LongInt's words stand at 10 and 8, the count at 6

abbrev pub places : Expr
places = Op op.And (word (pos 6)) (Number 255)

abbrev pub few_places : Expr
few_places = Op op.Below (word (pos 6)) (Number 16)

-- the bits that leave the lower word at the top come into the upper one
abbrev pub left_few : Code
left_few =
    Do (StoreWord (Local (negsuc 3)) (Op op.Shl (word (pos 10)) (word (pos 6))))
    (Do (StoreWord (Local (negsuc 1)) (Op op.Add (Op op.Shl (word (pos 8)) (word (pos 6))) (Op op.Shr (word (pos 10)) (Op op.Sub (Number 16) (word (pos 6))))))
    End)

abbrev pub left_many : Code
left_many =
    Do (StoreWord (Local (negsuc 3)) (Number 0))
    (Do (StoreWord (Local (negsuc 1)) (Op op.Shl (word (pos 10)) (Op op.Sub (word (pos 6)) (Number 16))))
    End)

abbrev pub left_shift_routine : Routine
left_shift_routine = routine_of 6 4 (negsuc 3) 4 (Do (StoreWord (Local (pos 6)) places) (If few_places left_few left_many End))

-- the bits that leave the upper word below come into the lower one
abbrev pub right_few : Code
right_few =
    Do (StoreWord (Local (negsuc 3)) (Op op.Add (Op op.Shr (word (pos 10)) (word (pos 6))) (Op op.Shl (word (pos 8)) (Op op.Sub (Number 16) (word (pos 6))))))
    (Do (StoreWord (Local (negsuc 1)) (Op op.Shr (word (pos 8)) (word (pos 6))))
    End)

abbrev pub right_many : Code
right_many =
    Do (StoreWord (Local (negsuc 3)) (Op op.Shr (word (pos 8)) (Op op.Sub (word (pos 6)) (Number 16))))
    (Do (StoreWord (Local (negsuc 1)) (Number 0))
    End)

abbrev pub right_shift_routine : Routine
right_shift_routine = routine_of 6 4 (negsuc 3) 4 (Do (StoreWord (Local (pos 6)) places) (If few_places right_few right_many End))

-- ---- the range: the value's words stand at 16 and 14, those of the lowest at 12 and 10, those of the greatest at 8 and 6

abbrev pub out_of_range : Expr
out_of_range = Op op.Or (is_less (pos 16) (pos 14) (pos 12) (pos 10)) (is_less (pos 8) (pos 6) (pos 16) (pos 14))

abbrev pub range_routine : Routine
range_routine =
    routine_of 12 4 (negsuc 3) 4
    (If out_of_range (Do (Error 201) End) End
    (Do (StoreWord (Local (negsuc 3)) (word (pos 16)))
    (Do (StoreWord (Local (negsuc 1)) (word (pos 14)))
    End)))

-- whether it lies in the range
abbrev pub between_routine : Routine
between_routine = routine_of 12 2 (negsuc 1) 2 (Do (StoreWord (Local (negsuc 1)) (Op op.Equal out_of_range (Number 0))) End)
