-- The comparison of strings and Pos as flat code. A pointer takes two words of the arguments, the segment uppermost.
use Rattle.std.specs.Prelude.{pos, negsuc, ℕ, Some, true}
use Rattle.flat_code.specs.declared.tree.Address.TheVariants.{Local}
use Rattle.flat_code.specs.declared.tree.FlatOp.TheVariants as op
use Rattle.flat_code.specs.Tree.{Expr, Number, Op, Code, End, If, Loop, ◌then◌}
use Rattle.flat_code.specs.Program.{Routine}
use Rattle.runtime_proofs.specs.string_loops.Pieces.{word, behind, set_word, raise, lessen, limit, leave}

-- a routine whose result is the word at -2
abbrev pub function_of : ℕ → ℕ → Code → Routine
function_of arguments locals body = record { far = true; arguments = arguments; locals = locals; frame = 0; result = Some (record { at = Local (negsuc 1); bytes = 2 }); body = body }

-- -1, 0 or 1, as the left value is below the right one, the same, or above
abbrev pub order : Expr → Expr → Expr
order left right = Op op.Sub (Op op.Below right left) (Op op.Below left right)

-- ---- comparison: the left string at 12 and 10, the right one at 8 and 6; at -4 and -6 their lengths, at -8 how many bytes are left

abbrev pub compare_lengths : Code
compare_lengths =
    set_word (negsuc 3) (behind (pos 10) 0)
    (set_word (negsuc 5) (behind (pos 6) 0)
    (set_word (negsuc 7) (word (negsuc 3))
    (limit (negsuc 7) (negsuc 5)
    End)))

abbrev pub compare_step : Code
compare_step =
    raise (pos 10) (Number 1)
    (raise (pos 6) (Number 1)
    (lessen (negsuc 7) (Number 1)
    End))

-- the next byte of each: the first two that differ give the order
abbrev pub compare_bytes : Code
compare_bytes =
    If (Op op.Equal (behind (pos 10) 1) (behind (pos 6) 1)) compare_step
    (set_word (negsuc 1) (order (behind (pos 10) 1) (behind (pos 6) 1)) leave)
    End

-- where no byte is left the lengths give it
abbrev pub compare_round : Code
compare_round = If (word (negsuc 7)) compare_bytes (set_word (negsuc 1) (order (word (negsuc 3)) (word (negsuc 5))) leave) End

abbrev pub compare_routine : Routine
compare_routine = function_of 8 8 (compare_lengths then Loop compare_round End)
