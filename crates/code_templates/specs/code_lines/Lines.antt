-- The lines of statements and routines.
--
-- A frame is, from the top: the arguments, the return address with CS in far routines, the caller's BP at BP, marked in far routines, the locals. The routine removes its arguments. Results come in AL, AX or DX:AX. DS is the data segment but inside a Copy from far memory and a DOS call, and DF is clear.
use Rattle.std.specs.Prelude.{ℕ, zero, suc, ◌+◌, ◌%◌, Bool, true, false, min, List, [], ◌∷◌, ◌++◌, length, Option, Some, None, slice_get, slice_index_or}
use Rattle.common_values.specs.integers.Words.{w16, word_of}
use Rattle.x86_table.specs.declared.instr.AluOp.TheVariants as alu
use Rattle.x86_table.specs.declared.instr.Cond.TheVariants as cond
use Rattle.x86_table.specs.declared.instr.Immediate.TheVariants as immediate
use Rattle.x86_table.specs.declared.instr.Instr.{Instr}
use Rattle.x86_table.specs.declared.instr.Instr.TheVariants as instr
use Rattle.x86_table.specs.declared.instr.Pair.TheVariants as pair
use Rattle.x86_table.specs.declared.line.Line.{Line}
use Rattle.x86_table.specs.declared.line.Line.TheVariants.{One, Label, JumpShort, JumpNear, CallNear}
use Rattle.x86_table.specs.declared.operand.ByteOperand.TheVariants as byte_rm
use Rattle.x86_table.specs.declared.operand.ByteReg.TheVariants as byte
use Rattle.x86_table.specs.declared.operand.DataSeg.TheVariants as data_seg
use Rattle.x86_table.specs.declared.operand.SegReg.{SegReg}
use Rattle.x86_table.specs.declared.operand.SegReg.TheVariants as seg
use Rattle.x86_table.specs.declared.operand.WordOperand.TheVariants as word_rm
use Rattle.x86_table.specs.declared.operand.WordReg.{WordReg}
use Rattle.x86_table.specs.declared.operand.WordReg.TheVariants as word
use Rattle.flat_code.specs.declared.memory.Place.{Place}
use Rattle.flat_code.specs.declared.tree.Address.{Address}
use Rattle.flat_code.specs.declared.tree.Address.TheVariants.{Global, Local, Outer, Through}
use Rattle.flat_code.specs.declared.tree.FlatResult.{FlatResult}
use Rattle.flat_code.specs.Tree.{Step, StoreByte, StoreWord, Copy, Leave, Call, CallThrough, Runtime, StoreRoutine, Return, Error, Code, End, Do, If, Loop}
use Rattle.flat_code.specs.Program.{Routine, runtime_key}
use Rattle.resident_machine.specs.machine_lines.Straight.{ones}
use Rattle.code_templates.specs.code_lines.Addresses.{Context, key_in}
use Rattle.code_templates.specs.code_lines.Operands.{memory_at, frame_memory, load, links, loads, operand_place, operand}
use Rattle.code_templates.specs.code_lines.Expressions.{move, apply, fail, expr_code, args_code}

-- ## Bytes copied

abbrev pub add_to : WordReg → ℕ → Instr
add_to r n = instr.AluImmediate alu.Add (immediate.Word (word_rm.Reg r) n)

-- ES:DI leads to the place
abbrev pub destination : Context → Address → List Instr
destination x (Global unit number plus) = instr.Lea word.Di (memory_at (operand_place x (Global unit number plus) 0)) ∷ instr.PushSeg seg.Ds ∷ instr.PopSeg data_seg.Es ∷ []
destination x (Local at) = instr.Lea word.Di (memory_at (operand_place x (Local at) 0)) ∷ instr.PushSeg seg.Ss ∷ instr.PopSeg data_seg.Es ∷ []
destination x (Outer levels at) = links x levels ++ (instr.Lea word.Di (memory_at (operand_place x (Outer levels at) 0)) ∷ instr.PushSeg seg.Ss ∷ instr.PopSeg data_seg.Es ∷ [])
destination x (Through slot plus) = instr.Les word.Di (frame_memory (word_of w16 slot)) ∷ add_to word.Di plus ∷ []

-- so many bytes from SI in this segment
abbrev pub move_bytes : Option SegReg → ℕ → List Instr
move_bytes override bytes = instr.MovWord word.Cx bytes ∷ instr.RepMovsb override ∷ []

-- they are moved from the place
abbrev pub moved_from : Context → Address → ℕ → List Instr
moved_from x (Global unit number plus) bytes = instr.Lea word.Si (memory_at (operand_place x (Global unit number plus) 0)) ∷ move_bytes None bytes
moved_from x (Local at) bytes = instr.Lea word.Si (memory_at (operand_place x (Local at) 0)) ∷ move_bytes (Some seg.Ss) bytes
moved_from x (Outer levels at) bytes = links x levels ++ (instr.Lea word.Si (memory_at (operand_place x (Outer levels at) 0)) ∷ move_bytes (Some seg.Ss) bytes)
moved_from x (Through slot plus) bytes =
    instr.PushSeg seg.Ds ∷ instr.Lds word.Si (frame_memory (word_of w16 slot)) ∷ add_to word.Si plus ∷ (move_bytes None bytes ++ (instr.PopSeg data_seg.Ds ∷ []))

-- ## Results and stores

abbrev pub store_byte : Context → Address → List Instr
store_byte x to = loads x to ++ (instr.Mov (pair.RmByte (byte_rm.Mem (operand x to 0)) byte.Al) ∷ [])

-- the word of a register at so many bytes behind a place whose operand is loaded
abbrev pub put : Context → Address → ℕ → WordReg → Instr
put x to more r = instr.Mov (pair.RmWord (word_rm.Mem (operand x to more)) r)

abbrev pub store_word : Context → Address → List Instr
store_word x to = loads x to ++ (put x to 0 word.Ax ∷ [])

abbrev pub store_two : Context → Address → List Instr
store_two x to = loads x to ++ (put x to 0 word.Ax ∷ put x to 2 word.Dx ∷ [])

-- the bytes of a result: 1, 2 or 4
abbrev pub taken_by : ℕ → Context → Address → List Instr
taken_by (suc zero) x to = store_byte x to
taken_by (suc (suc zero)) x to = store_word x to
taken_by _ x to = store_two x to

abbrev pub taken : Context → Option FlatResult → List Instr
taken x None = []
taken x (Some result) = taken_by result.bytes x result.at

abbrev pub given_by : ℕ → Context → Address → List Instr
given_by (suc zero) x at = loads x at ++ (instr.Mov (pair.ByteRm byte.Al (byte_rm.Mem (operand x at 0))) ∷ [])
given_by (suc (suc zero)) x at = loads x at ++ (load word.Ax (operand x at 0) ∷ [])
given_by _ x at = loads x at ++ (load word.Ax (operand x at 0) ∷ load word.Dx (operand x at 2) ∷ [])

abbrev pub given : Context → Option FlatResult → List Instr
given x None = []
given x (Some result) = given_by result.bytes x result.at

-- ## Calls

abbrev pub call_far : Place → List Line
call_far p = One (instr.CallFar p.offset p.segment) ∷ []

-- a routine of the same unit has a label by its number
abbrev pub call_own : Bool → ℕ → List Line
call_own true number = One (instr.PushSeg seg.Cs) ∷ CallNear number ∷ []
call_own false number = CallNear number ∷ []

abbrev pub call_own_if : Context → ℕ → Option Routine → List Line
call_own_if x number None = call_far (x.addresses.far (key_in x 0 number))
call_own_if x number (Some r) = call_own r.far number

abbrev pub call_code : Context → ℕ → ℕ → List Line
call_code x zero number = call_own_if x number (slice_get x.unit.routines number)
call_code x (suc k) number = call_far (x.addresses.far (key_in x (suc k) number))

-- ## Effects of the machine

-- handle, segment, offset and count were pushed
abbrev pub write_code : List Instr
write_code =
    instr.Pop word.Cx ∷ instr.Pop word.Dx ∷ instr.Pop word.Ax ∷ instr.Pop word.Bx ∷ instr.PushSeg seg.Ds
    ∷ instr.MovToSeg data_seg.Ds (word_rm.Reg word.Ax) ∷ instr.MovByte byte.Ah 0x40 ∷ instr.Int 0x21 ∷ instr.PopSeg data_seg.Ds ∷ []

-- a byte comes to the stack, and with it 1 in AX; where none comes, AX is 0
abbrev pub read_code : List Instr
read_code =
    instr.MovWord word.Ax 0 ∷ instr.Push word.Ax ∷ move word.Dx word.Sp ∷ instr.PushSeg seg.Ds ∷ instr.PushSeg seg.Ss ∷ instr.PopSeg data_seg.Ds
    ∷ instr.MovWord word.Bx 0 ∷ instr.MovWord word.Cx 1 ∷ instr.MovByte byte.Ah 0x3F ∷ instr.Int 0x21 ∷ instr.PopSeg data_seg.Ds
    ∷ instr.Pop word.Cx ∷ instr.Dec word.Ax ∷ apply alu.Or word.Ax word.Cx ∷ []

abbrev pub end_code : List Instr
end_code = instr.Pop word.Ax ∷ instr.MovByte byte.Ah 0x4C ∷ instr.Int 0x21 ∷ []

abbrev pub runtime_code : Context → ℕ → List Line
runtime_code x zero = ones write_code
runtime_code x (suc zero) = ones read_code
runtime_code x (suc (suc zero)) = ones end_code
runtime_code x (suc (suc (suc zero))) = call_far x.addresses.clear_routine
runtime_code x (suc (suc (suc (suc zero)))) = call_far x.addresses.flag_routine
runtime_code x (suc (suc (suc (suc (suc n))))) = call_far (x.addresses.far (runtime_key (5 + n)))

-- ## Statements

-- The labels of a body: the end of the routine, and the ends of the loops around, the innermost first.
pub record Around : Type 0 where
  pub home : ℕ
  pub ends : List ℕ

abbrev pub leave : Around → ℕ → List Line
leave around zero = []
leave around (suc n) = JumpNear (slice_index_or around.ends n around.home) ∷ []

-- A far pointer that is stored lies in a datum of its own, behind the unit's others.
abbrev pub pointer_at : Context → ℕ → Address
pointer_at x pointer = Global 0 (length x.unit.globals + pointer) 0

abbrev pub store_routine : Context → ℕ → Address → List Instr
store_routine x pointer to =
    load word.Ax (operand x (pointer_at x pointer) 0) ∷ load word.Dx (operand x (pointer_at x pointer) 2) ∷ store_two x to

-- pointer is the number of the next such datum
abbrev pub step_lines : Context → Around → ℕ → Step → List Line
step_lines x around pointer (StoreByte to value) = ones (expr_code x value ++ store_byte x to)
step_lines x around pointer (StoreWord to value) = ones (expr_code x value ++ store_word x to)
step_lines x around pointer (Copy to from bytes) = ones (destination x to ++ moved_from x from bytes)
step_lines x around pointer (Leave loops) = leave around loops
step_lines x around pointer (Call unit number args result) = ones (args_code x args) ++ (call_code x unit number ++ ones (taken x result))
step_lines x around pointer (CallThrough at args result) =
    ones (args_code x args) ++ ones (loads x at ++ (instr.CallFarIndirect (operand x at 0) ∷ taken x result))
step_lines x around pointer (Runtime number args result) = ones (args_code x args) ++ (runtime_code x number ++ ones (taken x result))
step_lines x around pointer (StoreRoutine to unit number) = ones (store_routine x pointer to)
step_lines x around pointer Return = JumpNear around.home ∷ []
step_lines x around pointer (Error code) = ones (fail x code)

-- how many data for far pointers
abbrev pub step_pointers : Step → ℕ
step_pointers (StoreRoutine to unit number) = 1
step_pointers _ = 0

abbrev pub pointers : Code → ℕ
pointers End = 0
pointers (Do step next) = step_pointers step + pointers next
pointers (If test taken other next) = pointers taken + pointers other + pointers next
pointers (Loop body next) = pointers body + pointers next

-- how many labels
abbrev pub labels : Code → ℕ
labels End = 0
labels (Do step next) = labels next
labels (If test taken other next) = 3 + labels taken + labels other + labels next
labels (Loop body next) = 2 + labels body + labels next

-- on to the first label where AX isn't 0
abbrev pub tested : ℕ → List Line
tested l = One (apply alu.Or word.Ax word.Ax) ∷ JumpShort cond.NotEqual l ∷ []

abbrev pub in_loop : Around → ℕ → Around
in_loop around end = record around { ends = end ∷ around.ends }

-- label is the first one that is free
abbrev pub code_lines : Context → Around → ℕ → ℕ → Code → List Line
code_lines x around label pointer End = []
code_lines x around label pointer (Do step next) =
    step_lines x around pointer step ++ code_lines x around label (pointer + step_pointers step) next
code_lines x around label pointer (If test taken other next) =
    ones (expr_code x test)
    ++ (tested label
    ++ (JumpNear (label + 1) ∷ Label label
    ∷ (code_lines x around (label + 3) pointer taken
    ++ (JumpNear (label + 2) ∷ Label (label + 1)
    ∷ (code_lines x around (label + 3 + labels taken) (pointer + pointers taken) other
    ++ (Label (label + 2) ∷ code_lines x around (label + 3 + labels taken + labels other) (pointer + pointers taken + pointers other) next))))))
code_lines x around label pointer (Loop body next) =
    Label label ∷ One instr.Cld
    ∷ (code_lines x (in_loop around (label + 1)) (label + 2) pointer body
    ++ (JumpNear label ∷ Label (label + 1) ∷ code_lines x around (label + 2 + labels body) (pointer + pointers body) next))

-- ## Routines

-- The word at BP is the caller's BP, which is even, and 1 more in a far routine.
abbrev pub enter_frame : Bool → List Instr
enter_frame true = instr.Inc word.Bp ∷ instr.Push word.Bp ∷ move word.Bp word.Sp ∷ []
enter_frame false = instr.Push word.Bp ∷ move word.Bp word.Sp ∷ []

abbrev pub leave_frame : Bool → List Instr
leave_frame true = move word.Sp word.Bp ∷ instr.Pop word.Bp ∷ instr.Dec word.Bp ∷ []
leave_frame false = move word.Sp word.Bp ∷ instr.Pop word.Bp ∷ []

-- SP that is too low for the locals and 512 bytes below is error 202
abbrev pub stack_test : Context → Routine → List Instr
stack_test x r =
    instr.AluImmediate alu.Cmp (immediate.Word (word_rm.Reg word.Sp) (min (512 + r.locals) 65535)) ∷ instr.JumpShort cond.AboveOrEqual 8 ∷ fail x 202

-- a routine of the runtime, whose frame is 0, tests nothing
abbrev pub stack_test_if : Context → Routine → ℕ → List Instr
stack_test_if x r zero = []
stack_test_if x r (suc frame) = stack_test x r

abbrev pub make_room : Routine → Instr
make_room r = instr.AluImmediate alu.Sub (immediate.Word (word_rm.Reg word.Sp) (r.locals % 65536))

abbrev pub prologue : Context → Routine → List Instr
prologue x r = enter_frame r.far ++ (stack_test_if x r r.frame ++ (make_room r ∷ []))

-- the arguments are removed
abbrev pub return_code : Bool → ℕ → Instr
return_code true zero = instr.RetFar
return_code true (suc n) = instr.RetFarDrop (suc n)
return_code false zero = instr.Ret
return_code false (suc n) = instr.RetDrop (suc n)

abbrev pub epilogue : Context → Routine → List Instr
epilogue x r = given x r.result ++ (leave_frame r.far ++ (return_code r.far r.arguments ∷ []))

-- The labels below the number of the unit's routines are the routines' own.
abbrev pub framed_lines : Context → ℕ → Routine → List Line
framed_lines x pointer r =
    ones (prologue x r)
    ++ (code_lines x (record { home = length x.unit.routines; ends = [] }) (length x.unit.routines + 1) pointer r.body
    ++ (Label (length x.unit.routines) ∷ ones (epilogue x r)))

-- The frame is the routine's, whatever the context says of it.
abbrev pub within : Context → Routine → Context
within x r = record x { far = r.far }

abbrev pub routine_lines : Context → ℕ → Routine → List Line
routine_lines x pointer r = framed_lines (within x r) pointer r
