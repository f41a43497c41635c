-- Concatenation and Insert as flat code. A pointer takes two words of the arguments, the segment uppermost.
use Rattle.std.specs.Prelude.{pos, negsuc}
use Rattle.flat_code.specs.declared.tree.FlatOp.TheVariants as op
use Rattle.flat_code.specs.Tree.{Number, Op, Code, End, ◌then◌}
use Rattle.flat_code.specs.Program.{Routine}
use Rattle.runtime_proofs.specs.string_loops.Pieces.{procedure_of, word, behind, set_word, set_behind, raise, lessen, limit, place_before, forward, backward}

-- ---- one string behind another: the target at 16 and 14, the first string at 12 and 10, the second at 8 and 6; at -2 the length of the first, at -4 how many bytes are left, at -6 the length of both

-- the second string is cut to the room behind the first
abbrev pub join_lengths : Code
join_lengths =
    set_word (negsuc 1) (behind (pos 10) 0)
    (set_word (negsuc 3) (behind (pos 6) 0)
    (set_word (negsuc 5) (Op op.Sub (Number 255) (word (negsuc 1)))
    (limit (negsuc 3) (negsuc 5)
    (set_word (negsuc 5) (Op op.Add (word (negsuc 1)) (word (negsuc 3)))
    End))))

-- the last bytes
abbrev pub join_ends : Code
join_ends =
    raise (pos 14) (word (negsuc 1))
    (raise (pos 14) (word (negsuc 3))
    (raise (pos 6) (word (negsuc 3))
    End))

abbrev pub join_second : Code
join_second = backward (pos 14) (pos 6) (negsuc 3) End

abbrev pub join_whole : Code
join_whole =
    lessen (pos 14) (word (negsuc 1))
    (set_behind (pos 14) 0 (word (negsuc 5))
    (set_word (negsuc 3) (word (negsuc 1))
    End))

abbrev pub join_first : Code
join_first = forward (pos 14) (pos 10) (negsuc 3) End

abbrev pub concat_routine : Routine
concat_routine = procedure_of 12 6 (join_lengths then (join_ends then (join_second then (join_whole then join_first))))

-- ---- Insert: the part at 18 and 16, the string at 14 and 12, the place at 10 and 8, its upper word below, the size of the string at 6; at -2 the string's length, at -4 how many bytes stand before the place, at -6 how many are put in, at -8 how many are left, at -10 and -12 a pointer, at -14 room

-- the place is moved into the string
abbrev pub insert_place : Code
insert_place =
    set_word (negsuc 1) (behind (pos 12) 0)
    (place_before (negsuc 3) (pos 10) (pos 8) (negsuc 1)
    End)

-- what is put in, and what stands behind it then, are cut to the room
abbrev pub insert_lengths : Code
insert_lengths =
    set_word (negsuc 13) (Op op.Sub (word (pos 6)) (word (negsuc 3)))
    (set_word (negsuc 5) (behind (pos 16) 0)
    (limit (negsuc 5) (negsuc 13)
    (lessen (negsuc 13) (word (negsuc 5))
    (set_word (negsuc 7) (Op op.Sub (word (negsuc 1)) (word (negsuc 3)))
    (limit (negsuc 7) (negsuc 13)
    End)))))

abbrev pub insert_whole : Code
insert_whole = set_behind (pos 12) 0 (Op op.Add (Op op.Add (word (negsuc 3)) (word (negsuc 5))) (word (negsuc 7))) End

-- the last bytes, of the string and of where they go
abbrev pub insert_ends : Code
insert_ends =
    raise (pos 12) (word (negsuc 3))
    (set_word (negsuc 9) (word (pos 14))
    (set_word (negsuc 11) (Op op.Add (word (pos 12)) (word (negsuc 5)))
    (raise (negsuc 11) (word (negsuc 7))
    (raise (pos 12) (word (negsuc 7))
    End))))

abbrev pub insert_behind : Code
insert_behind = backward (negsuc 11) (pos 12) (negsuc 7) End

abbrev pub insert_count : Code
insert_count = set_word (negsuc 7) (word (negsuc 5)) End

abbrev pub insert_part : Code
insert_part = forward (pos 12) (pos 16) (negsuc 7) End

abbrev pub insert_routine : Routine
insert_routine = procedure_of 14 14 (insert_place then (insert_lengths then (insert_whole then (insert_ends then (insert_behind then (insert_count then insert_part))))))
