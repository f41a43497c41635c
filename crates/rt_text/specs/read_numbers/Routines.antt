-- The routine that reads an integer, as flat code. The words of the numeral stand from -2 down to -14; the byte at -2 is the one ahead.
use Rattle.std.specs.Prelude.{negsuc, Some, true}
use Rattle.flat_code.specs.declared.tree.Address.TheVariants.{Local}
use Rattle.flat_code.specs.declared.tree.FlatOp.TheVariants as op
use Rattle.flat_code.specs.Tree.{Expr, Number, Op, Error, Code, End, Do, If, Loop, ◌then◌}
use Rattle.flat_code.specs.Program.{Routine}
use Rattle.runtime_proofs.specs.string_loops.Pieces.{word, leave}
use Rattle.rt_text.specs.read_text.Ahead.{peek, take}
use Rattle.rt_text.specs.numeral_steps.Step.{is_number, is_byte, begin_numeral, numeral_step, give_sign}

-- a blank, a tab, or a byte that ends a line
abbrev pub is_separator : Expr
is_separator = Op op.Or (Op op.Or (is_byte 32) (is_byte 9)) (Op op.Or (is_byte 13) (is_byte 10))

abbrev pub gap_round : Code
gap_round = peek then (If is_separator take leave End)

-- behind a byte by which no numeral goes on the rest of the word is taken all the same
abbrev pub word_step : Code
word_step = If (Op op.Below (word (negsuc 3)) (Number 4)) numeral_step End End

abbrev pub word_round : Code
word_round = peek then (If (Op op.Or is_separator (is_byte 26)) leave (word_step then take) End)

-- error 106 where the word is no numeral
abbrev pub end_word : Code
end_word = If (is_number (negsuc 3) 3) give_sign (Do (Error 106) End) End

abbrev pub read_word : Code
read_word = (Loop word_round End) then end_word

-- at the end of the input there is no word, and the number is 0
abbrev pub read_number_code : Code
read_number_code = begin_numeral then ((Loop gap_round End) then (If (is_byte 26) End read_word End))

abbrev pub read_number_routine : Routine
read_number_routine = record { far = true; arguments = 0; locals = 14; frame = 0; result = Some (record { at = Local (negsuc 11); bytes = 4 }); body = read_number_code }
