-- Pieces of routines on strings as flat code. A pointer is named by where its offset lies in the activation; its segment lies two bytes above.
use Rattle.std.specs.Prelude.{ℕ, ℤ, None, true}
use Rattle.flat_code.specs.declared.tree.Address.TheVariants.{Local, Through}
use Rattle.flat_code.specs.declared.tree.FlatOp.TheVariants as op
use Rattle.flat_code.specs.Tree.{Expr, Number, Byte, Word, Op, StoreByte, StoreWord, Leave, Code, End, Do, If, Loop}
use Rattle.flat_code.specs.Program.{Routine}

-- a routine of the runtime without a result
abbrev pub procedure_of : ℕ → ℕ → Code → Routine
procedure_of arguments locals body = record { far = true; arguments = arguments; locals = locals; frame = 0; result = None; body = body }

abbrev pub word : ℤ → Expr
word at = Word (Local at)

-- the byte so far behind a pointer
abbrev pub behind : ℤ → ℕ → Expr
behind pointer plus = Byte (Through pointer plus)

abbrev pub set_word : ℤ → Expr → Code → Code
set_word at value next = Do (StoreWord (Local at) value) next

abbrev pub set_behind : ℤ → ℕ → Expr → Code → Code
set_behind pointer plus value next = Do (StoreByte (Through pointer plus) value) next

-- a word and a value more
abbrev pub raise : ℤ → Expr → Code → Code
raise at value next = set_word at (Op op.Add (word at) value) next

-- and a value less
abbrev pub lessen : ℤ → Expr → Code → Code
lessen at value next = set_word at (Op op.Sub (word at) value) next

-- a word becomes another one where that is less
abbrev pub limit : ℤ → ℤ → Code → Code
limit at other next = If (Op op.Below (word other) (word at)) (set_word at (word other) End) End next

-- a word becomes the count that a LongInt gives, where that is less; a negative number counts as none
abbrev pub limit_count : ℤ → ℤ → ℤ → Code → Code
limit_count at low high next =
    If (Op op.Less (word high) (Number 0)) (set_word at (Number 0) End) (If (word high) End (limit at low End) End) next

-- how many bytes of a string of this length stand before the place that a LongInt names, at most all
abbrev pub place_before : ℤ → ℤ → ℤ → ℤ → Code → Code
place_before at low high len next =
    set_word at (Op op.Add (word len) (Number 1)) (limit_count at low high (If (word at) (lessen at (Number 1) End) End next))

-- and how many of those behind them a LongInt asks for, at most all
abbrev pub count_behind : ℤ → ℤ → ℤ → ℤ → ℤ → Code → Code
count_behind at before low high len next = set_word at (Op op.Sub (word len) (word before)) (limit_count at low high next)

-- ---- loops that move bytes, of which so many are left

abbrev pub leave : Code
leave = Do (Leave 1) End

-- the first byte first: the one behind each pointer
abbrev pub forward_step : ℤ → ℤ → ℤ → Code
forward_step to from left =
    set_behind to 1 (behind from 1)
    (raise to (Number 1)
    (raise from (Number 1)
    (lessen left (Number 1)
    End)))

abbrev pub forward_round : ℤ → ℤ → ℤ → Code
forward_round to from left = If (word left) (forward_step to from left) leave End

abbrev pub forward : ℤ → ℤ → ℤ → Code → Code
forward to from left next = Loop (forward_round to from left) next

-- the last byte first: each pointer leads to the last one
abbrev pub backward_step : ℤ → ℤ → ℤ → Code
backward_step to from left =
    set_behind to 0 (behind from 0)
    (lessen to (Number 1)
    (lessen from (Number 1)
    (lessen left (Number 1)
    End)))

abbrev pub backward_round : ℤ → ℤ → ℤ → Code
backward_round to from left = If (word left) (backward_step to from left) leave End

abbrev pub backward : ℤ → ℤ → ℤ → Code → Code
backward to from left next = Loop (backward_round to from left) next
