-- Loads through pointers and the moving of bytes, as flat code. A pointer takes two words of the arguments, the segment uppermost.
use Rattle.std.specs.Prelude.{pos, negsuc}
use Rattle.flat_code.specs.declared.tree.Address.TheVariants.{Through}
use Rattle.flat_code.specs.declared.tree.FlatOp.TheVariants as op
use Rattle.flat_code.specs.Tree.{Expr, Number, Word, Op, Code, End, If, Loop}
use Rattle.flat_code.specs.Program.{Routine}
use Rattle.runtime_proofs.specs.string_loops.Pieces.{procedure_of, word, behind, set_word, set_behind, raise, lessen, leave}
use Rattle.rt_strings.specs.set_relations.Routines.{function_of}

-- ---- loads: the pointer at 8 and 6

abbrev pub load_byte_routine : Routine
load_byte_routine = function_of 4 2 (set_word (negsuc 1) (behind (pos 6) 0) End)

-- a byte of 128 and more is 256 less
abbrev pub short_value : Expr
short_value = Op op.Sub (behind (pos 6) 0) (Op op.Mul (Op op.Below (Number 127) (behind (pos 6) 0)) (Number 256))

abbrev pub load_short_routine : Routine
load_short_routine = function_of 4 2 (set_word (negsuc 1) short_value End)

abbrev pub load_word_routine : Routine
load_word_routine = function_of 4 2 (set_word (negsuc 1) (Word (Through (pos 6) 0)) End)

-- ---- moves: the target at 14 and 12, the source at 10 and 8, at 6 how many bytes are left; the first byte first

abbrev pub move_step : Code
move_step =
    set_behind (pos 12) 0 (behind (pos 8) 0)
    (raise (pos 12) (Number 1)
    (raise (pos 8) (Number 1)
    (lessen (pos 6) (Number 1)
    End)))

abbrev pub move_round : Code
move_round = If (word (pos 6)) move_step leave End

abbrev pub move_routine : Routine
move_routine = procedure_of 10 0 (Loop move_round End)
