-- Str as flat code: the text of an integer, in a field of a width, becomes the value of a string variable, as far as it has room.
-- The place of the variable stands at 16 and 14, its size at 12, the number's lower word at 10, its upper one at 8, and the width at 6. The text is made at the end of the item buffer: at -2 and -4 stands then a pointer to the byte before it, the segment uppermost, and at -6 its length. At -8 stands how many blanks are due before it, at -10 and -12 a pointer to the byte before the next blank of the buffer, at -14 how many bytes of the text have room, and at -16 and -18 a pointer to the byte of the variable behind which they go.
use Rattle.std.specs.Prelude.{pos, negsuc}
use Rattle.flat_code.specs.declared.tree.FlatOp.TheVariants as op
use Rattle.flat_code.specs.Tree.{Number, Op, Code, End, ◌then◌}
use Rattle.flat_code.specs.Program.{Routine}
use Rattle.runtime_proofs.specs.string_loops.Pieces.{procedure_of, word, set_word, set_behind, limit, forward}
use Rattle.runtime_proofs.specs.text_memory.Pieces.{item_offset, set_segment}
use Rattle.rt_text.specs.write_text.Showing.{set_due}
use Rattle.rt_text.specs.write_numbers.Routines.{make_digits}

abbrev pub no_blanks : Code
no_blanks = set_word (negsuc 7) (Number 0) End

-- no more blanks than the variable has room for
abbrev pub cut_blanks : Code
cut_blanks = limit (negsuc 7) (pos 12) End

-- and behind them no more of the text
abbrev pub cut_text : Code
cut_text = set_word (negsuc 13) (Op op.Sub (word (pos 12)) (word (negsuc 7))) (limit (negsuc 13) (negsuc 5) End)

abbrev pub take_room : Code
take_room = no_blanks then (set_due then (cut_blanks then cut_text))

abbrev pub store_length : Code
store_length = set_behind (pos 14) 0 (Op op.Add (word (negsuc 7)) (word (negsuc 13))) End

-- the buffer's first 256 bytes are blanks, and at most 255 are due
abbrev pub begin_blanks : Code
begin_blanks = set_word (negsuc 11) (item_offset 0) (set_segment (negsuc 9) End)

-- the text goes behind the blanks
abbrev pub begin_text : Code
begin_text = set_word (negsuc 17) (Op op.Add (word (pos 14)) (word (negsuc 7))) (set_word (negsuc 15) (word (pos 16)) End)

abbrev pub move_blanks : Code
move_blanks = forward (pos 14) (negsuc 11) (negsuc 7) End

abbrev pub move_text : Code
move_text = forward (negsuc 17) (negsuc 3) (negsuc 13) End

abbrev pub fill_variable : Code
fill_variable = store_length then (begin_text then (begin_blanks then (move_blanks then move_text)))

abbrev pub str_routine : Routine
str_routine = procedure_of 12 18 (make_digits then (take_room then fill_variable))
