-- OvrInit, OvrSetBuf and OvrClearBuf as flat code. The unit's data: 0 OvrResult, 3 the name of the program's overlay file, which is empty where the program has none.
use Rattle.std.specs.Prelude.{ℕ, [], pos, negsuc, None}
use Rattle.flat_code.specs.declared.tree.Address.{Address}
use Rattle.flat_code.specs.declared.tree.Address.TheVariants.{Global}
use Rattle.flat_code.specs.declared.tree.FlatOp.TheVariants as op
use Rattle.flat_code.specs.Tree.{Expr, Number, Byte, AddressOf, SegmentOf, Op, StoreWord, Runtime, Code, End, Do, If, Loop, ◌then◌}
use Rattle.flat_code.specs.Program.{Routine}
use Rattle.runtime_proofs.specs.string_loops.Pieces.{procedure_of, word, behind, set_word, raise, lessen, leave}

abbrev pub result_at : Address
result_at = Global 0 0 0

abbrev pub name_at : Address
name_at = Global 0 3 0

abbrev pub set_result : ℕ → Code → Code
set_result value next = Do (StoreWord result_at (Number value)) next

-- ---- effects of the machine

-- all overlays go out
abbrev pub clear_buffer : Code
clear_buffer = Do (Runtime 3 [] None) End

-- from now on overlaid routines may be called
abbrev pub set_flag : Code
set_flag = Do (Runtime 4 [] None) End

-- ---- OvrInit: the string's place at 8 and 6. At -2 and -4 a pointer to the byte before the next one of the file's name, the segment uppermost, at -6 how many bytes are left, at -8 whether the names are the same so far, at -10 the next byte of the string

abbrev pub name_length : Expr
name_length = Byte name_at

-- names of other lengths differ from the start, and an empty name is none
abbrev pub begin_names : Code
begin_names =
    set_word (negsuc 1) (SegmentOf name_at)
    (set_word (negsuc 3) (AddressOf name_at)
    (set_word (negsuc 5) name_length
    (set_word (negsuc 7) (Op op.And (Op op.Equal (behind (pos 6) 0) name_length) (Op op.Below (Number 0) name_length))
    (set_word (negsuc 9) (Number 0)
    End))))

-- a byte from `a` to `z` as its upper-case letter
abbrev pub capital : Expr → Expr
capital e = Op op.Sub e (Op op.Mul (Number 32) (Op op.And (Op op.Below (Number 96) e) (Op op.Below e (Number 123))))

abbrev pub next_letters : Code
next_letters =
    set_word (negsuc 9) (behind (pos 6) 1)
    (set_word (negsuc 7) (Op op.Equal (behind (negsuc 3) 1) (capital (word (negsuc 9))))
    (raise (pos 6) (Number 1)
    (raise (negsuc 3) (Number 1)
    (lessen (negsuc 5) (Number 1)
    End))))

-- up to the end, or the first two letters that differ
abbrev pub letters_round : Code
letters_round = If (word (negsuc 7)) (If (word (negsuc 5)) next_letters leave End) leave End

-- -2 tells that there is no such file
abbrev pub end_names : Code
end_names = If (word (negsuc 7)) (set_result 0 set_flag) (set_result 65534 End) End

abbrev pub init_routine : Routine
init_routine = procedure_of 4 10 (begin_names then ((Loop letters_round End) then end_names))

-- ---- OvrSetBuf: a LongInt at 8 and 6, the lower word uppermost, of which nothing is taken

abbrev pub set_buffer_routine : Routine
set_buffer_routine = procedure_of 4 0 (set_result 0 End)

-- ---- OvrClearBuf

abbrev pub clear_buffer_routine : Routine
clear_buffer_routine = procedure_of 0 0 (clear_buffer then (set_result 0 End))
