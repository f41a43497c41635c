-- The routines that look at the input and read characters and lines, as flat code. Results stand at -2.
use Rattle.std.specs.Prelude.{ℕ, negsuc, Some, true}
use Rattle.flat_code.specs.declared.tree.Address.TheVariants.{Local}
use Rattle.flat_code.specs.declared.tree.FlatOp.TheVariants as op
use Rattle.flat_code.specs.Tree.{Expr, Number, Op, Code, End, If, Loop, ◌then◌}
use Rattle.flat_code.specs.Program.{Routine}
use Rattle.runtime_proofs.specs.string_loops.Pieces.{procedure_of, word, set_word, leave}
use Rattle.rt_text.specs.read_text.Ahead.{peek, take}

-- a function without arguments
abbrev pub function_of : Code → Routine
function_of body = record { far = true; arguments = 0; locals = 2; frame = 0; result = Some (record { at = Local (negsuc 1); bytes = 2 }); body = body }

-- the byte ahead is this one
abbrev pub is_byte : ℕ → Expr
is_byte byte = Op op.Equal (word (negsuc 1)) (Number byte)

abbrev pub ends_text : Expr
ends_text = Op op.Or (Op op.Or (is_byte 13) (is_byte 10)) (is_byte 26)

abbrev pub eof_routine : Routine
eof_routine = function_of (peek then (set_word (negsuc 1) (is_byte 26) End))

abbrev pub eoln_routine : Routine
eoln_routine = function_of (peek then (set_word (negsuc 1) ends_text End))

abbrev pub take_char : Code
take_char = If (is_byte 26) End take End

abbrev pub read_char_routine : Routine
read_char_routine = function_of (peek then take_char)

-- ---- the rest of a line

-- a line feed behind a carriage return
abbrev pub after_return : Code
after_return = peek then (If (is_byte 10) take End leave)

abbrev pub after_byte : Code
after_byte = If (is_byte 13) after_return (If (is_byte 10) leave End End) End

abbrev pub line_round : Code
line_round = peek then (If (is_byte 26) leave (take then after_byte) End)

abbrev pub read_line_routine : Routine
read_line_routine = procedure_of 0 2 (Loop line_round End)
