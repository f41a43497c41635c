-- Val as flat code: two routines with one body, one of which gives the value and the other the code. The place of the string stands at 8 and 6, and the words of the numeral from -2 down to -14. At -16 and -18 stands a pointer to the byte before the next one, the segment uppermost, at -20 how many bytes are left, and at -22 the place of the next one, which becomes the code.
use Rattle.std.specs.Prelude.{pos, negsuc, Some, true}
use Rattle.flat_code.specs.declared.tree.Address.TheVariants.{Local}
use Rattle.flat_code.specs.declared.tree.FlatOp.TheVariants as op
use Rattle.flat_code.specs.Tree.{Expr, Number, Op, Code, End, If, Loop, ◌then◌}
use Rattle.flat_code.specs.Program.{Routine}
use Rattle.runtime_proofs.specs.string_loops.Pieces.{word, behind, set_word, raise, lessen, leave}
use Rattle.rt_text.specs.numeral_steps.Step.{is_number, is_byte, begin_numeral, numeral_step, give_sign}

abbrev pub begin_text : Code
begin_text = set_word (negsuc 15) (word (pos 8)) (set_word (negsuc 17) (word (pos 6)) (set_word (negsuc 19) (behind (pos 6) 0) (set_word (negsuc 21) (Number 1) End)))

abbrev pub next_byte : Code
next_byte = set_word (negsuc 1) (behind (negsuc 17) 1) End

abbrev pub pass_byte : Code
pass_byte = raise (negsuc 17) (Number 1) (raise (negsuc 21) (Number 1) (lessen (negsuc 19) (Number 1) End))

-- ---- blanks and tabs

abbrev pub is_gap : Expr
is_gap = Op op.Or (is_byte 32) (is_byte 9)

abbrev pub gap_round : Code
gap_round = If (word (negsuc 19)) (next_byte then (If is_gap pass_byte leave End)) leave End

-- ---- the numeral, up to its end or the first byte by which none goes on

abbrev pub go_on : Code
go_on = If (is_number (negsuc 3) 4) leave pass_byte End

abbrev pub numeral_round : Code
numeral_round = If (word (negsuc 19)) (next_byte then (numeral_step then go_on)) leave End

-- a whole numeral has code 0, and anything else the value 0
abbrev pub end_val : Code
end_val = If (is_number (negsuc 3) 3) (set_word (negsuc 21) (Number 0) give_sign) (set_word (negsuc 9) (Number 0) (set_word (negsuc 11) (Number 0) End)) End

abbrev pub val_code : Code
val_code = begin_numeral then (begin_text then ((Loop gap_round End) then ((Loop numeral_round End) then end_val)))

abbrev pub val_value_routine : Routine
val_value_routine = record { far = true; arguments = 4; locals = 22; frame = 0; result = Some (record { at = Local (negsuc 11); bytes = 4 }); body = val_code }

abbrev pub val_place_routine : Routine
val_place_routine = record { far = true; arguments = 4; locals = 22; frame = 0; result = Some (record { at = Local (negsuc 21); bytes = 2 }); body = val_code }
