-- The weight of flat code: a bound on the bytes of 8086 code that it asks for.
-- An expression leaves its value in AX, an operator keeps its left operand on the stack, and jumps are near ones; each weight is that of the longest such code.
use Rattle.std.specs.Prelude.{ℕ, ◌+◌, ◌-◌, ◌*◌, ◌^◌, min, nat_lt, if◌then◌else◌, List, [], ◌∷◌, Option, Some, None}
use Rattle.std.specs.List.{sum_by}
use Rattle.flat_code.specs.declared.tree.Address.{Address}
use Rattle.flat_code.specs.declared.tree.Address.TheVariants.{Global, Local, Outer, Through}
use Rattle.flat_code.specs.declared.tree.FlatOp.{FlatOp}
use Rattle.flat_code.specs.declared.tree.FlatOp.TheVariants as op
use Rattle.flat_code.specs.declared.tree.FlatResult.{FlatResult}
use Rattle.flat_code.specs.Tree.{Expr, Number, Byte, Word, AddressOf, SegmentOf, VmtOf, Op, Step, StoreByte, StoreWord, Copy, Leave, Call, CallThrough, Runtime, StoreRoutine, Return, Error, Code, End, Do, If, Loop}
use Rattle.flat_code.specs.Program.{Routine, UnitCode}

-- a number, or the greatest u64 where it passes that
abbrev pub capped : ℕ → ℕ
capped n = min n (2 ^ 64 - 1)

-- the operand of an instruction at a place, with what has to be loaded before: a word for each link, or a far pointer
abbrev pub address_weight : Address → ℕ
address_weight (Global unit number plus) = 3
address_weight (Local at) = 3
address_weight (Outer levels at) = 4 + 4 * levels
address_weight (Through slot plus) = 8

-- what an operator does to AX and CX; a division tests its divisor, and a signed one takes the signs apart
abbrev pub op_weight : FlatOp → ℕ
op_weight op.Add = 2
op_weight op.Sub = 2
op_weight op.Mul = 2
op_weight op.MulHigh = 4
op_weight op.Div = 40
op_weight op.Mod = 40
op_weight op.DivUnsigned = 20
op_weight op.ModUnsigned = 20
op_weight op.And = 2
op_weight op.Or = 2
op_weight op.Xor = 2
op_weight op.Shl = 2
op_weight op.Shr = 2
op_weight op.Equal = 8
op_weight op.Less = 8
op_weight op.Below = 8

abbrev pub expr_weight : Expr → ℕ
expr_weight (Number n) = 3
expr_weight (Byte at) = 3 + address_weight at
expr_weight (Word at) = 1 + address_weight at
expr_weight (AddressOf at) = 1 + address_weight at
expr_weight (SegmentOf at) = 1 + address_weight at
expr_weight (VmtOf unit number) = 3
expr_weight (Op op a b) = 4 + op_weight op + (expr_weight a + expr_weight b)

-- each is pushed
abbrev pub exprs_weight : List Expr → ℕ
exprs_weight [] = 0
exprs_weight (e ∷ es) = 1 + expr_weight e + exprs_weight es

-- two words at most come or go in registers
abbrev pub result_weight : Option FlatResult → ℕ
result_weight None = 0
result_weight (Some result) = 6 + address_weight result.at

-- an effect of the machine, or a far call
abbrev pub runtime_weight : ℕ → ℕ
runtime_weight number = if nat_lt number 5 then 32 else 5

-- a call with its arguments and its result
abbrev pub call_weight : ℕ → List Expr → Option FlatResult → ℕ
call_weight call args result = call + (exprs_weight args + result_weight result)

abbrev pub step_weight : Step → ℕ
step_weight (StoreByte to value) = 1 + (address_weight to + expr_weight value)
step_weight (StoreWord to value) = 1 + (address_weight to + expr_weight value)
step_weight (Copy to from bytes) = 14 + (address_weight to + address_weight from)
step_weight (Leave loops) = 3
step_weight (Call unit number args result) = call_weight 5 args result
step_weight (CallThrough pointer args result) = call_weight (1 + address_weight pointer) args result
step_weight (Runtime number args result) = call_weight (runtime_weight number) args result
step_weight (StoreRoutine to unit number) = 17 + address_weight to
step_weight Return = 3
step_weight (Error code) = 8

abbrev pub code_weight : Code → ℕ
code_weight End = 0
code_weight (Do step next) = step_weight step + code_weight next
code_weight (If test taken other next) = 10 + (expr_weight test + (code_weight taken + code_weight other)) + code_weight next
code_weight (Loop body next) = 4 + code_weight body + code_weight next

-- what comes before and after a body: the test of the stack, the frame, and the result
abbrev pub routine_weight : Routine → ℕ
routine_weight r = 40 + (result_weight r.result + code_weight r.body)

abbrev pub unit_weight : UnitCode → ℕ
unit_weight unit = sum_by routine_weight unit.routines
