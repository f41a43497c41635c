-- Copy, Delete and UpCase as flat code. A pointer takes two words of the arguments, the segment uppermost, and a LongInt two, the lower one uppermost.
use Rattle.std.specs.Prelude.{pos, negsuc, None, Some, true}
use Rattle.flat_code.specs.declared.tree.Address.TheVariants.{Local}
use Rattle.flat_code.specs.declared.tree.FlatOp.TheVariants as op
use Rattle.flat_code.specs.Tree.{Number, Op, Code, End, If, ◌then◌}
use Rattle.flat_code.specs.Program.{Routine}
use Rattle.runtime_proofs.specs.string_loops.Pieces.{procedure_of, word, behind, set_word, set_behind, raise, lessen, place_before, count_behind, forward}

-- ---- where a piece lies: the text at 16 and 14, the place at 12 and 10, the count at 8 and 6; at -2 the length of the text, at -4 how many bytes stand before the piece, at -6 how many it has

abbrev pub piece : Code
piece =
    set_word (negsuc 1) (behind (pos 14) 0)
    (place_before (negsuc 3) (pos 12) (pos 10) (negsuc 1)
    (count_behind (negsuc 5) (negsuc 3) (pos 8) (pos 6) (negsuc 1)
    End))

-- ---- Copy: the target at 20 and 18

abbrev pub copy_start : Code
copy_start =
    set_behind (pos 18) 0 (word (negsuc 5))
    (raise (pos 14) (word (negsuc 3))
    End)

abbrev pub copy_bytes : Code
copy_bytes = forward (pos 18) (pos 14) (negsuc 5) End

abbrev pub copy_routine : Routine
copy_routine = procedure_of 16 6 (piece then (copy_start then copy_bytes))

-- ---- Delete: at -8 and -10 a pointer, at -12 how many bytes are left

abbrev pub delete_start : Code
delete_start =
    set_behind (pos 14) 0 (Op op.Sub (word (negsuc 1)) (word (negsuc 5)))
    (raise (pos 14) (word (negsuc 3))
    (set_word (negsuc 7) (word (pos 16))
    (set_word (negsuc 9) (Op op.Add (word (pos 14)) (word (negsuc 5)))
    (set_word (negsuc 11) (Op op.Sub (Op op.Sub (word (negsuc 1)) (word (negsuc 3))) (word (negsuc 5)))
    End))))

abbrev pub delete_bytes : Code
delete_bytes = forward (pos 14) (negsuc 9) (negsuc 11) End

abbrev pub delete_routine : Routine
delete_routine = procedure_of 12 12 (piece then (delete_start then delete_bytes))

-- ---- UpCase: the byte at 6, and the result at -2

abbrev pub upper_code : Code
upper_code =
    set_word (negsuc 1) (word (pos 6))
    (If (Op op.And (Op op.Below (Number 96) (word (pos 6))) (Op op.Below (word (pos 6)) (Number 123))) (lessen (negsuc 1) (Number 32) End) End
    End)

abbrev pub upper_routine : Routine
upper_routine = record { far = true; arguments = 2; locals = 2; frame = 0; result = Some (record { at = Local (negsuc 1); bytes = 2 }); body = upper_code }
