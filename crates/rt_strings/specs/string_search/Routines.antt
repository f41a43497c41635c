-- Pos as flat code. A pointer takes two words of the arguments, the segment uppermost.
use Rattle.std.specs.Prelude.{pos, negsuc, Some, true}
use Rattle.flat_code.specs.declared.tree.Address.TheVariants.{Local}
use Rattle.flat_code.specs.declared.tree.FlatOp.TheVariants as op
use Rattle.flat_code.specs.Tree.{Expr, Number, Op, Code, End, If, Loop, ◌then◌}
use Rattle.flat_code.specs.Program.{Routine}
use Rattle.runtime_proofs.specs.string_loops.Pieces.{word, behind, set_word, raise, lessen, leave}

-- the part at 12 and 10, the text at 8 and 6; at -2 the result, at -4 the part's length, at -6 how many places are left to try, at -8 how many bytes of the part, at -10 the place that is tried

-- how many places there are; none for an empty part
abbrev pub count_places : Code
count_places =
    If (word (negsuc 3)) (raise (negsuc 5) (Number 1) (If (Op op.Below (word (negsuc 5)) (word (negsuc 3))) (set_word (negsuc 5) (Number 0) End) (lessen (negsuc 5) (word (negsuc 3)) End) End)) (set_word (negsuc 5) (Number 0) End) End

abbrev pub search_start : Code
search_start =
    set_word (negsuc 1) (Number 0)
    (set_word (negsuc 3) (behind (pos 10) 0)
    (set_word (negsuc 5) (behind (pos 6) 0)
    (set_word (negsuc 7) (Number 0)
    (set_word (negsuc 9) (Number 1)
    count_places))))

-- the whole part is still to be found, where a place is left
abbrev pub next_place : Code
next_place = If (word (negsuc 5)) (set_word (negsuc 7) (word (negsuc 3)) End) leave End

abbrev pub match_step : Code
match_step =
    raise (pos 10) (Number 1)
    (raise (pos 6) (Number 1)
    (lessen (negsuc 7) (Number 1)
    End))

-- until two bytes differ, or none of the part is left
abbrev pub match_round : Code
match_round = If (word (negsuc 7)) (If (Op op.Equal (behind (pos 10) 1) (behind (pos 6) 1)) match_step leave End) leave End

-- how many bytes were the same
abbrev pub matched : Expr
matched = Op op.Sub (word (negsuc 3)) (word (negsuc 7))

-- the place is the result, or both pointers go back, and the text's one byte on
abbrev pub decide : Code
decide =
    If (word (negsuc 7))
    (lessen (pos 10) matched
    (lessen (pos 6) matched
    (raise (pos 6) (Number 1)
    (raise (negsuc 9) (Number 1)
    (lessen (negsuc 5) (Number 1)
    End)))))
    (set_word (negsuc 1) (word (negsuc 9)) leave)
    End

abbrev pub search_round : Code
search_round = next_place then (Loop match_round End then decide)

abbrev pub position_routine : Routine
position_routine = record { far = true; arguments = 8; locals = 10; frame = 0; result = Some (record { at = Local (negsuc 1); bytes = 2 }); body = search_start then Loop search_round End }
