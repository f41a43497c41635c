-- New and Dispose as flat code. The unit's data: 1 the heap's segment, 2 its bytes, 4 how much was cut off and the first free list.
use Rattle.std.specs.Prelude.{pos, negsuc, Some, true, ℕ, ℤ}
use Rattle.flat_code.specs.declared.tree.Address.{Address}
use Rattle.flat_code.specs.declared.tree.Address.TheVariants.{Global, Local, Through}
use Rattle.flat_code.specs.declared.tree.FlatOp.TheVariants as op
use Rattle.flat_code.specs.Tree.{Expr, Number, Word, Op, StoreWord, Error, Code, End, Do, If, Loop, ◌then◌}
use Rattle.flat_code.specs.Program.{Routine}
use Rattle.runtime_proofs.specs.string_loops.Pieces.{procedure_of, word, set_word, raise, leave}

abbrev pub heap_segment : Expr
heap_segment = Word (Global 0 1 0)

abbrev pub heap_low : Expr
heap_low = Word (Global 0 2 0)

abbrev pub heap_high : Expr
heap_high = Word (Global 0 2 2)

abbrev pub cut_at : Address
cut_at = Global 0 4 0

abbrev pub first_at : Address
first_at = Global 0 4 2

-- ---- both: at -2 and -4 a pointer to a block, at -6 the size in eights, at -8 the first block of the list that is looked at, counted from 1, at -10 that of the list before, or 0

abbrev pub block_at : ℤ
block_at = negsuc 3

abbrev pub wanted : ℤ
wanted = negsuc 5

abbrev pub current : ℤ
current = negsuc 7

abbrev pub previous : ℤ
previous = negsuc 9

-- the word so far behind a pointer
abbrev pub word_behind : ℤ → ℕ → Expr
word_behind pointer plus = Word (Through pointer plus)

abbrev pub set_word_behind : ℤ → ℕ → Expr → Code → Code
set_word_behind pointer plus value next = Do (StoreWord (Through pointer plus) value) next

abbrev pub number_of : ℤ → Expr
number_of at = Op op.Sub (word at) (Number 1)

-- a pointer, its segment and its offset, to the block of a number that is counted from 1
abbrev pub set_pointer : ℤ → ℤ → ℤ → Code → Code
set_pointer segment offset number next =
    set_word segment (Op op.Add heap_segment (Op op.DivUnsigned (number_of number) (Number 2)))
    (set_word offset (Op op.Mul (Op op.ModUnsigned (number_of number) (Number 2)) (Number 8))
    next)

-- the size in bytes is the last argument
abbrev pub find_start : Code
find_start =
    set_word (negsuc 1) (Number 0)
    (set_word block_at (Number 0)
    (set_word current (Number 0)
    (set_word previous (Number 0)
    (set_word wanted (Op op.DivUnsigned (word (pos 6)) (Number 8))
    End))))

abbrev pub rounding : Code
rounding =
    If (Op op.ModUnsigned (word (pos 6)) (Number 8)) (raise wanted (Number 1) End) End
    (If (word wanted) End (set_word wanted (Number 1) End)
    (set_word current (Word first_at)
    End))

-- the first list of that size, or none
abbrev pub find_step : Code
find_step =
    set_pointer (negsuc 1) block_at current
    (If (Op op.Equal (word_behind block_at 6) (word wanted)) leave
    (set_word previous (word current)
    (set_word current (word_behind block_at 4)
    End))
    End)

abbrev pub find_round : Code
find_round = If (word current) find_step leave End

abbrev pub find_list : Code
find_list = find_start then (rounding then Loop find_round End)

-- ---- New: the size at 6; its result is the pointer at -4; at -12 and -14 another pointer

abbrev pub other_at : ℤ
other_at = negsuc 13

-- of several free blocks the second one
abbrev pub take_second : Code
take_second =
    set_word (negsuc 11) (word_behind block_at 2)
    (set_word other_at (word_behind block_at 0)
    (set_word_behind block_at 0 (word_behind other_at 0)
    (set_word_behind block_at 2 (word_behind other_at 2)
    (set_word (negsuc 1) (word (negsuc 11))
    (set_word block_at (word other_at)
    End)))))

-- else the only one, whose list goes out of the directory
abbrev pub take_last : Code
take_last =
    If (word previous)
    (set_pointer (negsuc 11) other_at previous (set_word_behind other_at 4 (word_behind block_at 4) End))
    (Do (StoreWord first_at (word_behind block_at 4)) End)
    End

abbrev pub take_block : Code
take_block = If (word_behind block_at 2) take_second take_last End

-- the heap's bytes in eights
abbrev pub heap_eights : Expr
heap_eights = Op op.Add (Op op.DivUnsigned heap_low (Number 8)) (Op op.Mul heap_high (Number 8192))

-- a block behind all others, where there is room
abbrev pub cut_block : Code
cut_block =
    If (Op op.Below (Op op.Sub heap_eights (Word cut_at)) (word wanted)) (Do (Error 203) End) End
    (set_word current (Op op.Add (Word cut_at) (Number 1))
    (set_pointer (negsuc 1) block_at current
    (Do (StoreWord cut_at (Op op.Add (Word cut_at) (word wanted)))
    End)))

abbrev pub new_end : Code
new_end = If (word current) take_block cut_block End

abbrev pub new_routine : Routine
new_routine = record {
  far = true;
  arguments = 2;
  locals = 14;
  frame = 0;
  result = Some (record { at = Local block_at; bytes = 4 });
  body = find_list then new_end;
}

-- ---- Dispose: the pointer at 10 and 8, the size at 6

abbrev pub disposed_at : ℤ
disposed_at = pos 8

abbrev pub refuse_nil : Code
refuse_nil = If (word (pos 10)) End (Do (Error 204) End) End

-- behind the first one of its list
abbrev pub put_second : Code
put_second =
    set_word_behind disposed_at 0 (word_behind block_at 0)
    (set_word_behind disposed_at 2 (word_behind block_at 2)
    (set_word_behind block_at 0 (word disposed_at)
    (set_word_behind block_at 2 (word (pos 10))
    End)))

-- the number of a block from its pointer, counted from 1
abbrev pub disposed_number : Expr
disposed_number = Op op.Add (Op op.Add (Op op.Mul (Op op.Sub (word (pos 10)) heap_segment) (Number 2)) (Op op.DivUnsigned (word disposed_at) (Number 8))) (Number 1)

-- or as the first list, with no other block
abbrev pub begin_list : Code
begin_list =
    set_word_behind disposed_at 0 (Number 0)
    (set_word_behind disposed_at 2 (Number 0)
    (set_word_behind disposed_at 4 (Word first_at)
    (set_word_behind disposed_at 6 (word wanted)
    (Do (StoreWord first_at disposed_number)
    End))))

abbrev pub dispose_end : Code
dispose_end = If (word current) put_second begin_list End

abbrev pub dispose_routine : Routine
dispose_routine = procedure_of 6 10 (refuse_nil then (find_list then dispose_end))
