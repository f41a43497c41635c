-- The routines on strings as flat code. A pointer to a string takes two words of the arguments, the segment uppermost.
use Rattle.std.specs.Prelude.{ℕ, ℤ, pos, negsuc, None, true}
use Rattle.flat_code.specs.declared.tree.Address.TheVariants.{Local, Through}
use Rattle.flat_code.specs.declared.tree.FlatOp.TheVariants as op
use Rattle.flat_code.specs.Tree.{Expr, Number, Byte, Word, Op, StoreByte, StoreWord, Leave, Code, End, Do, If, Loop, ◌then◌}
use Rattle.flat_code.specs.Program.{Routine}

-- a routine of the runtime without a result
abbrev pub procedure_of : ℕ → ℕ → Code → Routine
procedure_of arguments locals body = record { far = true; arguments = arguments; locals = locals; frame = 0; result = None; body = body }

abbrev pub word : ℤ → Expr
word at = Word (Local at)

-- ---- assignment: the target at 14 and 12, its size at 10, the source at 8 and 6; at -2 how many bytes are left

abbrev pub count : Expr
count = word (negsuc 1)

-- the length that the target takes
abbrev pub take_length : Code
take_length = Do (StoreWord (Local (negsuc 1)) (Byte (Through (pos 6) 0))) End

abbrev pub cut_length : Code
cut_length = If (Op op.Below (word (pos 10)) count) (Do (StoreWord (Local (negsuc 1)) (word (pos 10))) End) End End

abbrev pub store_length : Code
store_length = Do (StoreByte (Through (pos 12) 0) count) End

-- one word further
abbrev pub step_on : ℤ → Code → Code
step_on at next = Do (StoreWord (Local at) (Op op.Add (word at) (Number 1))) next

abbrev pub one_byte : Code
one_byte =
    Do (StoreByte (Through (pos 12) 1) (Byte (Through (pos 6) 1)))
    (step_on (pos 12)
    (step_on (pos 6)
    (Do (StoreWord (Local (negsuc 1)) (Op op.Sub count (Number 1)))
    End)))

-- a byte, or the end where none is left
abbrev pub move_byte : Code
move_byte = If count one_byte (Do (Leave 1) End) End

abbrev pub assign_routine : Routine
assign_routine = procedure_of 10 2 (take_length then (cut_length then (store_length then Loop move_byte End)))
