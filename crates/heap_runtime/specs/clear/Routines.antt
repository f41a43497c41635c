-- The clearing of bytes as flat code.
use Rattle.std.specs.Prelude.{pos}
use Rattle.flat_code.specs.Tree.{Number, Code, End, If, Loop}
use Rattle.flat_code.specs.Program.{Routine}
use Rattle.runtime_proofs.specs.string_loops.Pieces.{procedure_of, word, set_behind, raise, lessen, leave}

-- at 10 and 8 a pointer to the next byte, the segment uppermost, at 6 how many are left
abbrev pub clear_step : Code
clear_step = set_behind (pos 8) 0 (Number 0) (raise (pos 8) (Number 1) (lessen (pos 6) (Number 1) End))

abbrev pub clear_round : Code
clear_round = If (word (pos 6)) clear_step leave End

abbrev pub clear_routine : Routine
clear_routine = procedure_of 6 0 (Loop clear_round End)
