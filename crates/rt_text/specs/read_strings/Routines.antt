-- The routine that reads a string, as flat code. Its place stands at 10 and 8 and the size of the variable at 6. At -2 stands the byte ahead, at -4 and -6 a pointer to the last byte that was read, the segment uppermost, and at -8 how many were.
use Rattle.std.specs.Prelude.{pos, negsuc}
use Rattle.flat_code.specs.declared.tree.FlatOp.TheVariants as op
use Rattle.flat_code.specs.Tree.{Number, Op, Code, End, If, Loop, ◌then◌}
use Rattle.flat_code.specs.Program.{Routine}
use Rattle.runtime_proofs.specs.string_loops.Pieces.{procedure_of, word, set_word, set_behind, raise, leave}
use Rattle.rt_text.specs.read_text.Ahead.{peek, take}
use Rattle.rt_text.specs.read_text.Routines.{ends_text}

abbrev pub begin_text : Code
begin_text = set_word (negsuc 1) (Number 0) (set_word (negsuc 3) (word (pos 10)) (set_word (negsuc 5) (word (pos 8)) (set_word (negsuc 7) (Number 0) End)))

-- the byte goes behind the pointer, and is taken
abbrev pub take_byte : Code
take_byte = set_behind (negsuc 5) 1 (word (negsuc 1)) (raise (negsuc 5) (Number 1) (raise (negsuc 7) (Number 1) take))

abbrev pub text_round : Code
text_round = If (Op op.Equal (word (negsuc 7)) (word (pos 6))) leave (peek then (If ends_text leave take_byte End)) End

abbrev pub set_length : Code
set_length = set_behind (pos 8) 0 (word (negsuc 7)) End

abbrev pub read_string_routine : Routine
read_string_routine = procedure_of 6 8 (begin_text then ((Loop text_round End) then set_length))
