-- Expressions, statements and routines weigh at least the bytes of their code.
use Rattle.std.proofs.Common.{◌≡◌, ℕ, zero, suc, ◌+◌, ◌%◌, ◌≤◌, Bool, true, false, List, [], ◌∷◌, ◌++◌, length, Option, Some, None, arith, refl, ap}
use Rattle.std.specs.Prelude.{if◌then◌else◌, slice_get}
use Rattle.std.proofs.lemmas.Bool.{le-ltb}
use Rattle.common_values.specs.integers.Words.{w16, word_of}
use Rattle.x86_table.specs.declared.instr.AluOp.TheVariants as alu
use Rattle.x86_table.specs.declared.instr.Instr.{Instr}
use Rattle.x86_table.specs.declared.instr.Instr.TheVariants as instr
use Rattle.x86_table.specs.declared.instr.Pair.TheVariants as pair
use Rattle.x86_table.specs.declared.operand.ByteOperand.TheVariants as byte_rm
use Rattle.x86_table.specs.declared.operand.Base.TheVariants as base
use Rattle.x86_table.specs.declared.operand.ByteReg.TheVariants as byte
use Rattle.x86_table.specs.declared.operand.DataSeg.TheVariants as data_seg
use Rattle.x86_table.specs.declared.operand.SegReg.TheVariants as seg
use Rattle.x86_table.specs.declared.operand.WordReg.TheVariants as word
use Rattle.x86_table.specs.declared.line.Line.TheVariants.{Label, JumpNear}
use Rattle.x86_table.specs.Lines.{code_size, assembled}
use Rattle.x86_table.specs.Spelling.{word_bytes, word_modrm, pair_form, pair_body, pair_override, immediate_width, immediate_body, immediate_override, target_width, target_body, target_override}
use Rattle.x86_table.proofs.Places.{code_size-append, length-assembled}
use Rattle.flat_code.specs.declared.tree.Address.{Address}
use Rattle.flat_code.specs.declared.tree.Address.TheVariants.{Global, Local, Outer, Through}
use Rattle.flat_code.specs.declared.tree.FlatOp.{FlatOp}
use Rattle.flat_code.specs.declared.tree.FlatOp.TheVariants as op
use Rattle.flat_code.specs.declared.tree.FlatResult.{FlatResult}
use Rattle.flat_code.specs.Program.{Routine}
use Rattle.flat_code.specs.Tree.{Expr, Number, Byte, Word, AddressOf, SegmentOf, VmtOf, Op, Step, StoreByte, StoreWord, Copy, Leave, Call, CallThrough, Runtime, StoreRoutine, Return, Error, Code, End, Do, If, Loop}
use Rattle.flat_code.specs.Weights.{address_weight, op_weight, expr_weight, exprs_weight, result_weight, runtime_weight, step_weight, code_weight, routine_weight}
use Rattle.resident_machine.specs.machine_lines.Straight.{ones}
use Rattle.code_templates.specs.code_lines.Addresses.{Context}
use Rattle.code_templates.specs.code_lines.Operands.{displaced, memory_at, frame_memory, load, links, loads, operand_place, operand}
use Rattle.code_templates.specs.code_lines.Expressions.{move, fail, op_code, segment_code, expr_code, args_code}
use Rattle.code_templates.specs.code_lines.Lines.{move_bytes, put, call_own, destination, moved_from, store_byte, store_word, store_two, taken_by, taken, given_by, given, call_own_if, call_code, write_code, read_code, end_code, runtime_code, Around, in_loop, leave, pointer_at, store_routine, step_lines, step_pointers, pointers, labels, tested as test_lines, code_lines, stack_test_if, enter_frame, leave_frame, make_room, prologue, return_code, epilogue, framed_lines, within, routine_lines}
use Rattle.code_templates.proofs.code_lines.Sizes.{bytes, bytes-append, around, load_size, store_size, load_byte_size, store_byte_size, lea_size, les_size, lds_size, call_size, word_size, immediate_size, around_operand, around_at, links_size, reach, place_reach}

op_bytes : (x : Context) (o : FlatOp) → bytes (op_code x o) ≤ op_weight o
unfolding word_bytes word_modrm pair_form pair_body pair_override target_width target_body target_override
op_bytes x op.Add = omega arith
op_bytes x op.Sub = omega arith
op_bytes x op.Mul = omega arith
op_bytes x op.MulHigh = omega arith
op_bytes x op.Div = omega arith
op_bytes x op.Mod = omega arith
op_bytes x op.DivUnsigned = omega arith
op_bytes x op.ModUnsigned = omega arith
op_bytes x op.And = omega arith
op_bytes x op.Or = omega arith
op_bytes x op.Xor = omega arith
op_bytes x op.Shl = omega arith
op_bytes x op.Shr = omega arith
op_bytes x op.Equal = omega arith
op_bytes x op.Less = omega arith
op_bytes x op.Below = omega arith

segment_bytes : (a : Address) → bytes (segment_code a) ≡ 2
unfolding word_modrm
segment_bytes (Global unit number plus) = refl
segment_bytes (Local d) = refl
segment_bytes (Outer levels d) = refl
segment_bytes (Through slot plus) = refl

abbrev op_moves : List Instr
op_moves = move word.Cx word.Ax ∷ instr.Pop word.Ax ∷ []

-- the move of the right operand and the pop of the left one
between : (x : Context) (o : FlatOp) → bytes (instr.Push word.Ax ∷ []) + bytes (op_moves ++ op_code x o) ≤ 4 + op_weight o
unfolding word_modrm pair_form pair_body pair_override
between x o = omega (arith, op_bytes x o)

expr_bytes : (x : Context) (e : Expr) → bytes (expr_code x e) ≤ expr_weight e
unfolding word_bytes
expr_bytes x (Number n) = omega arith
expr_bytes x (Byte at) = omega (arith, reach x at, load_byte_size byte.Al (operand x at 0), bytes-append (loads x at) (instr.Mov (pair.ByteRm byte.Al (byte_rm.Mem (operand x at 0))) ∷ instr.MovByte byte.Ah 0 ∷ []))
expr_bytes x (Word at) = omega (arith, reach x at, load_size word.Ax (operand x at 0), bytes-append (loads x at) (load word.Ax (operand x at 0) ∷ []))
expr_bytes x (AddressOf at) = omega (arith, place_reach x at, lea_size word.Ax (memory_at (operand_place x at 0)), bytes-append (loads x at) (instr.Lea word.Ax (memory_at (operand_place x at 0)) ∷ []))
expr_bytes x (SegmentOf at) = omega (arith, reach x at, segment_bytes at, bytes-append (loads x at) (segment_code at))
expr_bytes x (VmtOf unit number) = omega arith
expr_bytes x (Op o a b) = omega (arith, expr_bytes x a, expr_bytes x b, between x o, bytes-append (expr_code x a) (instr.Push word.Ax ∷ (expr_code x b ++ (op_moves ++ op_code x o))), bytes-append (expr_code x b) (op_moves ++ op_code x o))

args_bytes : (x : Context) (es : List Expr) → bytes (args_code x es) ≤ exprs_weight es
args_bytes x [] = omega arith
args_bytes x (e ∷ es) = omega (arith, expr_bytes x e, args_bytes x es, bytes-append (expr_code x e) (instr.Push word.Ax ∷ args_code x es))

-- ## Stores and results

store_byte_bytes : (x : Context) (a : Address) → bytes (store_byte x a) ≤ 1 + address_weight a
store_byte_bytes x a = omega (arith, reach x a, store_byte_size byte.Al (operand x a 0), bytes-append (loads x a) (instr.Mov (pair.RmByte (byte_rm.Mem (operand x a 0)) byte.Al) ∷ []))

store_word_bytes : (x : Context) (a : Address) → bytes (store_word x a) ≤ 1 + address_weight a
store_word_bytes x a = omega (arith, reach x a, store_size word.Ax (operand x a 0), bytes-append (loads x a) (put x a 0 word.Ax ∷ []))

store_two_bytes : (x : Context) (a : Address) → bytes (store_two x a) ≤ 6 + address_weight a
store_two_bytes x a = omega (arith, reach x a, around_operand x a 2, store_size word.Ax (operand x a 0), store_size word.Dx (operand x a 2), bytes-append (loads x a) (put x a 0 word.Ax ∷ put x a 2 word.Dx ∷ []))

taken_by_bytes : (n : ℕ) (x : Context) (a : Address) → bytes (taken_by n x a) ≤ 6 + address_weight a
taken_by_bytes zero x a = store_two_bytes x a
taken_by_bytes (suc zero) x a = omega (arith, store_byte_bytes x a)
taken_by_bytes (suc (suc zero)) x a = omega (arith, store_word_bytes x a)
taken_by_bytes (suc (suc (suc n))) x a = store_two_bytes x a

taken_bytes : (x : Context) (result : Option FlatResult) → bytes (taken x result) ≤ result_weight result
taken_bytes x None = omega arith
taken_bytes x (Some result) = taken_by_bytes result.bytes x result.at

load_two_bytes : (x : Context) (a : Address) → bytes (loads x a ++ (load word.Ax (operand x a 0) ∷ load word.Dx (operand x a 2) ∷ [])) ≤ 6 + address_weight a
load_two_bytes x a = omega (arith, reach x a, around_operand x a 2, load_size word.Ax (operand x a 0), load_size word.Dx (operand x a 2), bytes-append (loads x a) (load word.Ax (operand x a 0) ∷ load word.Dx (operand x a 2) ∷ []))

given_by_bytes : (n : ℕ) (x : Context) (a : Address) → bytes (given_by n x a) ≤ 6 + address_weight a
given_by_bytes zero x a = load_two_bytes x a
given_by_bytes (suc zero) x a = omega (arith, reach x a, load_byte_size byte.Al (operand x a 0), bytes-append (loads x a) (instr.Mov (pair.ByteRm byte.Al (byte_rm.Mem (operand x a 0))) ∷ []))
given_by_bytes (suc (suc zero)) x a = omega (arith, reach x a, load_size word.Ax (operand x a 0), bytes-append (loads x a) (load word.Ax (operand x a 0) ∷ []))
given_by_bytes (suc (suc (suc n))) x a = load_two_bytes x a

given_bytes : (x : Context) (result : Option FlatResult) → bytes (given x result) ≤ result_weight result
given_bytes x None = omega arith
given_bytes x (Some result) = given_by_bytes result.bytes x result.at

-- ## Copies

destination_bytes : (x : Context) (a : Address) → bytes (destination x a) ≤ 3 + address_weight a
destination_bytes x (Global unit number plus) = omega (arith, lea_size word.Di (memory_at (operand_place x (Global unit number plus) 0)), around_at (operand_place x (Global unit number plus) 0))
destination_bytes x (Local d) = omega (arith, lea_size word.Di (memory_at (operand_place x (Local d) 0)), around_at (operand_place x (Local d) 0))
destination_bytes x (Outer zero d) = omega (arith, lea_size word.Di (memory_at (operand_place x (Outer zero d) 0)), around_at (operand_place x (Outer zero d) 0))
destination_bytes x (Outer (suc n) d) = omega (arith, lea_size word.Di (memory_at (operand_place x (Outer (suc n) d) 0)), around_at (operand_place x (Outer (suc n) d) 0), links_size x n, bytes-append (links x (suc n)) (instr.Lea word.Di (memory_at (operand_place x (Outer (suc n) d) 0)) ∷ instr.PushSeg seg.Ss ∷ instr.PopSeg data_seg.Es ∷ []))
destination_bytes x (Through slot plus) = omega (arith, les_size word.Di (frame_memory (word_of w16 slot)), around_at (displaced base.Bp (word_of w16 slot)), immediate_size alu.Add word.Di plus)

moved_bytes : (x : Context) (a : Address) (n : ℕ) → bytes (moved_from x a n) ≤ 7 + address_weight a
moved_bytes x (Global unit number plus) n = omega (arith, lea_size word.Si (memory_at (operand_place x (Global unit number plus) 0)), around_at (operand_place x (Global unit number plus) 0), word_size word.Cx n)
moved_bytes x (Local d) n = omega (arith, lea_size word.Si (memory_at (operand_place x (Local d) 0)), around_at (operand_place x (Local d) 0), word_size word.Cx n)
moved_bytes x (Outer zero d) n = omega (arith, lea_size word.Si (memory_at (operand_place x (Outer zero d) 0)), around_at (operand_place x (Outer zero d) 0), word_size word.Cx n)
moved_bytes x (Outer (suc k) d) n = omega (arith, lea_size word.Si (memory_at (operand_place x (Outer (suc k) d) 0)), around_at (operand_place x (Outer (suc k) d) 0), word_size word.Cx n, links_size x k, bytes-append (links x (suc k)) (instr.Lea word.Si (memory_at (operand_place x (Outer (suc k) d) 0)) ∷ move_bytes (Some seg.Ss) n))
moved_bytes x (Through slot plus) n = omega (arith, lds_size word.Si (frame_memory (word_of w16 slot)), around_at (displaced base.Bp (word_of w16 slot)), immediate_size alu.Add word.Si plus, word_size word.Cx n)

-- ## Calls and acts

own_bytes : (x : Context) (number : ℕ) (o : Option Routine) → code_size (call_own_if x number o) ≤ 5
unfolding word_bytes
own_bytes x number None = omega arith
own_bytes x number (Some r) = by r.far
  where
    by : (far : Bool) → code_size (call_own far number) ≤ 5
    by true = omega arith
    by false = omega arith

call_bytes : (x : Context) (unit number : ℕ) → code_size (call_code x unit number) ≤ 5
unfolding word_bytes
call_bytes x zero number = own_bytes x number (slice_get x.unit.routines number)
call_bytes x (suc k) number = omega arith

acts_bytes : (bytes write_code ≤ 32) × (bytes read_code ≤ 32) × (bytes end_code ≤ 32)
unfolding word_bytes word_modrm pair_form pair_body pair_override
acts_bytes = (omega arith, omega arith, omega arith)

runtime_bytes : (x : Context) (number : ℕ) → code_size (runtime_code x number) ≤ runtime_weight number
unfolding word_bytes
runtime_bytes x zero = acts_bytes.0
runtime_bytes x (suc zero) = acts_bytes.1
runtime_bytes x (suc (suc zero)) = acts_bytes.2
runtime_bytes x (suc (suc (suc zero))) = omega arith
runtime_bytes x (suc (suc (suc (suc zero)))) = omega arith
runtime_bytes x (suc (suc (suc (suc (suc n))))) =
    let e : runtime_weight (suc (suc (suc (suc (suc n))))) ≡ 5 = ap (λ b. if b then 32 else 5) (le-ltb (suc (suc (suc (suc (suc n))))) 5 (omega arith)) in
    omega arith

fail_bytes : (x : Context) (code : ℕ) → bytes (fail x code) ≡ 8
unfolding word_bytes
fail_bytes x code = refl

-- ## Statements

leave_bytes : (around : Around) (loops : ℕ) → code_size (leave around loops) ≤ 3
leave_bytes around zero = omega arith
leave_bytes around (suc n) = omega arith

call_through_bytes : (x : Context) (a : Address) (result : Option FlatResult) → bytes (loads x a ++ (instr.CallFarIndirect (operand x a 0) ∷ taken x result)) ≤ 1 + address_weight a + result_weight result
call_through_bytes x a result = omega (arith, reach x a, call_size (operand x a 0), taken_bytes x result, bytes-append (loads x a) (instr.CallFarIndirect (operand x a 0) ∷ taken x result))

store_routine_bytes : (x : Context) (pointer : ℕ) (a : Address) → bytes (store_routine x pointer a) ≤ 17 + address_weight a
store_routine_bytes x pointer a =
    omega (arith, load_size word.Ax (operand x (pointer_at x pointer) 0), load_size word.Dx (operand x (pointer_at x pointer) 2), around_operand x (pointer_at x pointer) 0, around_operand x (pointer_at x pointer) 2, store_two_bytes x a)

step_bytes : (x : Context) (around : Around) (pointer : ℕ) (s : Step) → code_size (step_lines x around pointer s) ≤ step_weight s
step_bytes x around pointer (StoreByte to value) = omega (arith, expr_bytes x value, store_byte_bytes x to, bytes-append (expr_code x value) (store_byte x to))
step_bytes x around pointer (StoreWord to value) = omega (arith, expr_bytes x value, store_word_bytes x to, bytes-append (expr_code x value) (store_word x to))
step_bytes x around pointer (Copy to from n) = omega (arith, destination_bytes x to, moved_bytes x from n, bytes-append (destination x to) (moved_from x from n))
step_bytes x around pointer (Leave loops) = leave_bytes around loops
step_bytes x around pointer (Call unit number args result) =
    omega (arith, args_bytes x args, call_bytes x unit number, taken_bytes x result, code_size-append (ones (args_code x args)) (call_code x unit number ++ ones (taken x result)), code_size-append (call_code x unit number) (ones (taken x result)))
step_bytes x around pointer (CallThrough at args result) =
    omega (arith, args_bytes x args, call_through_bytes x at result, code_size-append (ones (args_code x args)) (ones (loads x at ++ (instr.CallFarIndirect (operand x at 0) ∷ taken x result))))
step_bytes x around pointer (Runtime number args result) =
    omega (arith, args_bytes x args, runtime_bytes x number, taken_bytes x result, code_size-append (ones (args_code x args)) (runtime_code x number ++ ones (taken x result)), code_size-append (runtime_code x number) (ones (taken x result)))
step_bytes x around pointer (StoreRoutine to unit number) = store_routine_bytes x pointer to
step_bytes x around pointer Return = omega arith
step_bytes x around pointer (Error code) = omega (arith, fail_bytes x code)

tested_bytes : (l : ℕ) → code_size (test_lines l) ≡ 4
unfolding word_modrm pair_form pair_body pair_override
tested_bytes l = refl

code_bytes : (x : Context) (around : Around) (label pointer : ℕ) (c : Code) → code_size (code_lines x around label pointer c) ≤ code_weight c
code_bytes x around label pointer End = omega arith
code_bytes x around label pointer (Do step next) =
    omega (arith, step_bytes x around pointer step, code_bytes x around label (pointer + step_pointers step) next, code_size-append (step_lines x around pointer step) (code_lines x around label (pointer + step_pointers step) next))
code_bytes x around label pointer (If test taken other next) =
    let ct = code_lines x around (label + 3) pointer taken in
    let co = code_lines x around (label + 3 + labels taken) (pointer + pointers taken) other in
    let cn = code_lines x around (label + 3 + labels taken + labels other) (pointer + pointers taken + pointers other) next in
    let after_other = Label (label + 2) ∷ cn in
    let after_taken = JumpNear (label + 2) ∷ Label (label + 1) ∷ (co ++ after_other) in
    let after_test = JumpNear (label + 1) ∷ Label label ∷ (ct ++ after_taken) in
    omega (
      arith,
      expr_bytes x test,
      tested_bytes label,
      code_bytes x around (label + 3) pointer taken,
      code_bytes x around (label + 3 + labels taken) (pointer + pointers taken) other,
      code_bytes x around (label + 3 + labels taken + labels other) (pointer + pointers taken + pointers other) next,
      code_size-append (ones (expr_code x test)) (test_lines label ++ after_test),
      code_size-append (test_lines label) after_test,
      code_size-append ct after_taken,
      code_size-append co after_other,
    )
code_bytes x around label pointer (Loop body next) =
    let cb = code_lines x (in_loop around (label + 1)) (label + 2) pointer body in
    let cn = code_lines x around (label + 2 + labels body) (pointer + pointers body) next in
    omega (arith, code_bytes x (in_loop around (label + 1)) (label + 2) pointer body, code_bytes x around (label + 2 + labels body) (pointer + pointers body) next, code_size-append cb (JumpNear label ∷ Label (label + 1) ∷ cn))

-- ## Routines

test_bytes : (x : Context) (r : Routine) (frame : ℕ) → bytes (stack_test_if x r frame) ≤ 14
unfolding word_bytes immediate_width immediate_body immediate_override word_modrm
test_bytes x r zero = omega arith
test_bytes x r (suc n) = omega arith

enter_bytes : (far : Bool) → (3 ≤ bytes (enter_frame far)) × (bytes (enter_frame far) ≤ 4) × (bytes (leave_frame far) ≤ 4)
unfolding word_modrm pair_form pair_body pair_override
enter_bytes true = (omega arith, omega arith, omega arith)
enter_bytes false = (omega arith, omega arith, omega arith)

return_bytes : (far : Bool) (arguments : ℕ) → bytes (return_code far arguments ∷ []) ≤ 3
unfolding word_bytes
return_bytes true zero = omega arith
return_bytes true (suc n) = omega arith
return_bytes false zero = omega arith
return_bytes false (suc n) = omega arith

prologue_bytes : (x : Context) (r : Routine) → bytes (prologue x r) ≤ 22
prologue_bytes x r =
    omega (arith, (enter_bytes r.far).1, test_bytes x r r.frame, immediate_size alu.Sub word.Sp (r.locals % 65536), bytes-append (enter_frame r.far) (stack_test_if x r r.frame ++ (make_room r ∷ [])), bytes-append (stack_test_if x r r.frame) (make_room r ∷ []))

epilogue_bytes : (x : Context) (r : Routine) → bytes (epilogue x r) ≤ 7 + result_weight r.result
epilogue_bytes x r =
    omega (arith, given_bytes x r.result, (enter_bytes r.far).2, return_bytes r.far r.arguments, bytes-append (given x r.result) (leave_frame r.far ++ (return_code r.far r.arguments ∷ [])), bytes-append (leave_frame r.far) (return_code r.far r.arguments ∷ []))

routine_bytes : (x : Context) (pointer : ℕ) (r : Routine) → code_size (framed_lines x pointer r) ≤ routine_weight r
routine_bytes x pointer r =
    let home = length x.unit.routines in
    let body = code_lines x (record { home = home; ends = [] }) (home + 1) pointer r.body in
    let last = Label home ∷ ones (epilogue x r) in
    omega (arith, prologue_bytes x r, code_bytes x (record { home = home; ends = [] }) (home + 1) pointer r.body, epilogue_bytes x r, code_size-append (ones (prologue x r)) (body ++ last), code_size-append body last)

pub expression_weighs : (x : Context) (e : Expr) → length (assembled (ones (expr_code x e))) ≤ expr_weight e
expression_weighs x e = omega (arith, expr_bytes x e, length-assembled (ones (expr_code x e)))

pub routine_weighs : (x : Context) (pointer : ℕ) (r : Routine) → length (assembled (routine_lines x pointer r)) ≤ routine_weight r
routine_weighs x pointer r = omega (arith, routine_bytes (within x r) pointer r, length-assembled (routine_lines x pointer r))

-- a frame is made and left
framed_least : (x : Context) (pointer : ℕ) (r : Routine) → 6 ≤ length (assembled (framed_lines x pointer r))
framed_least x pointer r =
    let home = length x.unit.routines in
    let body = code_lines x (record { home = home; ends = [] }) (home + 1) pointer r.body in
    let last = Label home ∷ ones (epilogue x r) in
    omega (arith, (enter_bytes r.far).0, immediate_size alu.Sub word.Sp (r.locals % 65536), bytes-append (enter_frame r.far) (stack_test_if x r r.frame ++ (make_room r ∷ [])), bytes-append (stack_test_if x r r.frame) (make_room r ∷ []), code_size-append (ones (prologue x r)) (body ++ last), length-assembled (framed_lines x pointer r))

pub routine_least : (x : Context) (pointer : ℕ) (r : Routine) → 6 ≤ length (assembled (routine_lines x pointer r))
routine_least x pointer r = framed_least (within x r) pointer r
