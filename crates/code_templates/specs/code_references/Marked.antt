-- The lines of each node of flat code before any address is known, beside what they refer to.
use Rattle.std.specs.Prelude.{ℕ, zero, suc, ◌+◌, Bool, true, false, List, [], ◌∷◌, ◌++◌, length, min, Option, Some, None, slice_get}
use Rattle.common_values.specs.integers.Words.{w16, word_of}
use Rattle.type_layout.specs.declared.definitions.RoutineId.{RoutineId}
use Rattle.x86_table.specs.declared.instr.AluOp.TheVariants as alu
use Rattle.x86_table.specs.declared.instr.Cond.TheVariants as cond
use Rattle.x86_table.specs.declared.instr.Immediate.TheVariants as immediate
use Rattle.x86_table.specs.declared.instr.Instr.{Instr}
use Rattle.x86_table.specs.declared.instr.Instr.TheVariants as instr
use Rattle.x86_table.specs.declared.instr.Pair.TheVariants as pair
use Rattle.x86_table.specs.declared.instr.UnaryOp.TheVariants as unary
use Rattle.x86_table.specs.declared.line.Line.TheVariants.{One, Label, JumpNear}
use Rattle.x86_table.specs.declared.operand.ByteOperand.TheVariants as byte_rm
use Rattle.x86_table.specs.declared.operand.ByteReg.TheVariants as byte
use Rattle.x86_table.specs.declared.operand.DataSeg.TheVariants as data_seg
use Rattle.x86_table.specs.declared.operand.SegReg.{SegReg}
use Rattle.x86_table.specs.declared.operand.SegReg.TheVariants as seg
use Rattle.x86_table.specs.declared.operand.WordOperand.TheVariants as word_rm
use Rattle.x86_table.specs.declared.operand.WordReg.{WordReg}
use Rattle.x86_table.specs.declared.operand.WordReg.TheVariants as word
use Rattle.flat_code.specs.declared.tree.Address.{Address}
use Rattle.flat_code.specs.declared.tree.Address.TheVariants.{Global, Local, Outer, Through}
use Rattle.flat_code.specs.declared.tree.FlatOp.{FlatOp}
use Rattle.flat_code.specs.declared.tree.FlatOp.TheVariants as op
use Rattle.flat_code.specs.declared.tree.FlatResult.{FlatResult}
use Rattle.flat_code.specs.Tree.{Expr, Number, Byte, Word, AddressOf, SegmentOf, VmtOf, Op, Step, StoreByte, StoreWord, Copy, Leave, Call, CallThrough, Runtime, StoreRoutine, Return, Error, Code, End, Do, If, Loop}
use Rattle.flat_code.specs.Program.{Routine, UnitCode}
use Rattle.code_templates.specs.code_lines.Operands.{memory_at, frame_memory, load, loads, operand_place, operand}
use Rattle.code_templates.specs.code_lines.Expressions.{move, on_word, compare_with, negative, magnitudes, signed_by, segment_code, op_code}
use Rattle.code_templates.specs.code_lines.Lines.{Around, add_to, move_bytes, put, write_code, read_code, end_code, leave, step_pointers, pointers, labels, tested, in_loop, enter_frame, leave_frame, make_room, return_code}
use Rattle.code_templates.specs.code_references.Unplaced.{in_frame}
use Rattle.code_templates.specs.declared.code_references.marks.Target.{Target}
use Rattle.code_templates.specs.declared.code_references.marks.Target.TheVariants as to
use Rattle.code_templates.specs.declared.code_references.marks.MarkedLine.{MarkedLine}
use Rattle.code_templates.specs.code_references.Marks.{bare, plain, marked}

-- ## Expressions

-- the datum that an operand names
abbrev pub target_of : Address → Option Target
target_of (Global unit number plus) = Some (to.Datum unit number)
target_of (Local at) = None
target_of (Outer levels at) = None
target_of (Through slot plus) = None

-- an instruction with an operand at a place that is loaded
abbrev pub at_place : Address → Instr → MarkedLine
at_place at i = record { line = One i; target = target_of at }

-- what is loaded before an operand
abbrev pub marked_loads : Bool → Address → List MarkedLine
marked_loads far at = plain (loads (in_frame far) at)

abbrev pub byte_load : Bool → Address → Instr
byte_load far at = instr.Mov (pair.ByteRm byte.Al (byte_rm.Mem (operand (in_frame far) at 0)))

abbrev pub word_load : WordReg → Bool → Address → ℕ → Instr
word_load r far at more = load r (operand (in_frame far) at more)

abbrev pub address_load : WordReg → Bool → Address → Instr
address_load r far at = instr.Lea r (memory_at (operand_place (in_frame far) at 0))

-- a runtime error
abbrev pub marked_fail : ℕ → List MarkedLine
marked_fail code = plain (instr.MovWord word.Ax code ∷ []) ++ (marked (instr.JumpFar 0 0) to.ErrorRoutine ∷ [])

-- an error where CX is 0
abbrev pub marked_tested : List MarkedLine
marked_tested = plain (compare_with word.Cx 0 ∷ instr.JumpShort cond.NotEqual 8 ∷ []) ++ marked_fail 200

abbrev pub divided : List Instr
divided = instr.MovWord word.Dx 0 ∷ on_word unary.Div word.Cx ∷ []

abbrev pub marked_op : FlatOp → List MarkedLine
marked_op op.Div =
    plain (move word.Bx word.Ax ∷ [])
    ++ (marked_tested ++ plain (instr.JumpShort cond.NoSign 4 ∷ on_word unary.Neg word.Cx ∷ on_word unary.Not word.Bx ∷ (magnitudes ++ signed_by)))
marked_op op.Mod = plain (move word.Bx word.Ax ∷ []) ++ (marked_tested ++ plain (negative word.Cx ++ (magnitudes ++ (move word.Ax word.Dx ∷ signed_by))))
marked_op op.DivUnsigned = marked_tested ++ plain divided
marked_op op.ModUnsigned = marked_tested ++ plain (divided ++ (move word.Ax word.Dx ∷ []))
marked_op o = plain (op_code (in_frame false) o)

abbrev pub marked_expr : Bool → Expr → List MarkedLine
marked_expr far (Number n) = plain (instr.MovWord word.Ax n ∷ [])
marked_expr far (Byte at) = marked_loads far at ++ (at_place at (byte_load far at) ∷ plain (instr.MovByte byte.Ah 0 ∷ []))
marked_expr far (Word at) = marked_loads far at ++ (at_place at (word_load word.Ax far at 0) ∷ [])
marked_expr far (AddressOf at) = marked_loads far at ++ (at_place at (address_load word.Ax far at) ∷ [])
marked_expr far (SegmentOf at) = marked_loads far at ++ plain (segment_code at)
marked_expr far (VmtOf unit number) = marked (instr.MovWord word.Ax 0) (to.Table unit number) ∷ []
marked_expr far (Op o a b) =
    marked_expr far a ++ (plain (instr.Push word.Ax ∷ []) ++ (marked_expr far b ++ (plain (move word.Cx word.Ax ∷ instr.Pop word.Ax ∷ []) ++ marked_op o)))

abbrev pub marked_args : Bool → List Expr → List MarkedLine
marked_args far [] = []
marked_args far (e ∷ es) = marked_expr far e ++ (plain (instr.Push word.Ax ∷ []) ++ marked_args far es)

-- ## Bytes copied, results and stores

-- ES:DI leads to a place in this segment
abbrev pub destination_in : SegReg → Bool → Address → List MarkedLine
destination_in s far at = marked_loads far at ++ (at_place at (address_load word.Di far at) ∷ plain (instr.PushSeg s ∷ instr.PopSeg data_seg.Es ∷ []))

abbrev pub marked_destination : Bool → Address → List MarkedLine
marked_destination far (Global unit number plus) = destination_in seg.Ds far (Global unit number plus)
marked_destination far (Local at) = destination_in seg.Ss far (Local at)
marked_destination far (Outer levels at) = destination_in seg.Ss far (Outer levels at)
marked_destination far (Through slot plus) = plain (instr.Les word.Di (frame_memory (word_of w16 slot)) ∷ add_to word.Di plus ∷ [])

-- so many bytes are moved from a place in this segment
abbrev pub moved_by : Option SegReg → Bool → Address → ℕ → List MarkedLine
moved_by override far at bytes = marked_loads far at ++ (at_place at (address_load word.Si far at) ∷ plain (move_bytes override bytes))

abbrev pub marked_moved : Bool → Address → ℕ → List MarkedLine
marked_moved far (Global unit number plus) bytes = moved_by None far (Global unit number plus) bytes
marked_moved far (Local at) bytes = moved_by (Some seg.Ss) far (Local at) bytes
marked_moved far (Outer levels at) bytes = moved_by (Some seg.Ss) far (Outer levels at) bytes
marked_moved far (Through slot plus) bytes =
    plain (instr.PushSeg seg.Ds ∷ instr.Lds word.Si (frame_memory (word_of w16 slot)) ∷ add_to word.Si plus ∷ (move_bytes None bytes ++ (instr.PopSeg data_seg.Ds ∷ [])))

abbrev pub byte_put : Bool → Address → Instr
byte_put far at = instr.Mov (pair.RmByte (byte_rm.Mem (operand (in_frame far) at 0)) byte.Al)

abbrev pub word_put : Bool → Address → ℕ → WordReg → Instr
word_put far at more r = put (in_frame far) at more r

abbrev pub marked_store_byte : Bool → Address → List MarkedLine
marked_store_byte far at = marked_loads far at ++ (at_place at (byte_put far at) ∷ [])

abbrev pub marked_store_word : Bool → Address → List MarkedLine
marked_store_word far at = marked_loads far at ++ (at_place at (word_put far at 0 word.Ax) ∷ [])

abbrev pub marked_store_two : Bool → Address → List MarkedLine
marked_store_two far at = marked_loads far at ++ (at_place at (word_put far at 0 word.Ax) ∷ at_place at (word_put far at 2 word.Dx) ∷ [])

-- the bytes of a result: 1, 2 or 4
abbrev pub marked_taken_by : ℕ → Bool → Address → List MarkedLine
marked_taken_by (suc zero) far at = marked_store_byte far at
marked_taken_by (suc (suc zero)) far at = marked_store_word far at
marked_taken_by _ far at = marked_store_two far at

abbrev pub marked_taken : Bool → Option FlatResult → List MarkedLine
marked_taken far None = []
marked_taken far (Some result) = marked_taken_by result.bytes far result.at

abbrev pub marked_given_by : ℕ → Bool → Address → List MarkedLine
marked_given_by (suc zero) far at = marked_loads far at ++ (at_place at (byte_load far at) ∷ [])
marked_given_by (suc (suc zero)) far at = marked_loads far at ++ (at_place at (word_load word.Ax far at 0) ∷ [])
marked_given_by _ far at = marked_loads far at ++ (at_place at (word_load word.Ax far at 0) ∷ at_place at (word_load word.Dx far at 2) ∷ [])

abbrev pub marked_given : Bool → Option FlatResult → List MarkedLine
marked_given far None = []
marked_given far (Some result) = marked_given_by result.bytes far result.at

-- ## Calls

abbrev pub marked_far : Target → List MarkedLine
marked_far target = marked (instr.CallFar 0 0) target ∷ []

-- a near call of a routine of the same unit; a far one's return address has CS too
abbrev pub marked_own : Bool → ℕ → List MarkedLine
marked_own true number = plain (instr.PushSeg seg.Cs ∷ []) ++ (marked (instr.CallNear 0) (to.OwnRoutine number) ∷ [])
marked_own false number = marked (instr.CallNear 0) (to.OwnRoutine number) ∷ []

abbrev pub marked_own_if : ℕ → Option Routine → List MarkedLine
marked_own_if number None = marked_far (to.Routine 0 number)
marked_own_if number (Some r) = marked_own r.far number

abbrev pub marked_call : UnitCode → ℕ → ℕ → List MarkedLine
marked_call unit zero number = marked_own_if number (slice_get unit.routines number)
marked_call unit (suc k) number = marked_far (to.Routine (suc k) number)

abbrev pub marked_runtime : ℕ → List MarkedLine
marked_runtime zero = plain write_code
marked_runtime (suc zero) = plain read_code
marked_runtime (suc (suc zero)) = plain end_code
marked_runtime (suc (suc (suc zero))) = marked_far to.ClearRoutine
marked_runtime (suc (suc (suc (suc zero)))) = marked_far to.FlagRoutine
marked_runtime (suc (suc (suc (suc (suc n))))) = marked_far (to.Runtime (5 + n))

-- ## Statements

-- a far pointer to a routine, from the datum that holds it
abbrev pub marked_store_routine : Bool → ℕ → Address → List MarkedLine
marked_store_routine far datum to =
    at_place (Global 0 datum 0) (word_load word.Ax far (Global 0 datum 0) 0)
    ∷ at_place (Global 0 datum 0) (word_load word.Dx far (Global 0 datum 0) 2)
    ∷ marked_store_two far to

abbrev pub marked_through : Bool → Address → Option FlatResult → List MarkedLine
marked_through far at result = marked_loads far at ++ (at_place at (instr.CallFarIndirect (operand (in_frame far) at 0)) ∷ marked_taken far result)

-- the datum of a far pointer that is stored: behind the unit's others
abbrev pub pointer_datum : UnitCode → ℕ → ℕ
pointer_datum unit pointer = length unit.globals + pointer

abbrev pub marked_step : UnitCode → Bool → Around → ℕ → Step → List MarkedLine
marked_step unit far around pointer (StoreByte to value) = marked_expr far value ++ marked_store_byte far to
marked_step unit far around pointer (StoreWord to value) = marked_expr far value ++ marked_store_word far to
marked_step unit far around pointer (Copy to from bytes) = marked_destination far to ++ marked_moved far from bytes
marked_step unit far around pointer (Leave loops) = bare (leave around loops)
marked_step unit far around pointer (Call other number args result) = marked_args far args ++ (marked_call unit other number ++ marked_taken far result)
marked_step unit far around pointer (CallThrough at args result) = marked_args far args ++ marked_through far at result
marked_step unit far around pointer (Runtime number args result) = marked_args far args ++ (marked_runtime number ++ marked_taken far result)
marked_step unit far around pointer (StoreRoutine to other number) = marked_store_routine far (pointer_datum unit pointer) to
marked_step unit far around pointer Return = bare (JumpNear around.home ∷ [])
marked_step unit far around pointer (Error code) = marked_fail code

abbrev pub marked_code : UnitCode → Bool → Around → ℕ → ℕ → Code → List MarkedLine
marked_code unit far around label pointer End = []
marked_code unit far around label pointer (Do step next) = marked_step unit far around pointer step ++ marked_code unit far around label (pointer + step_pointers step) next
marked_code unit far around label pointer (If test taken other next) =
    marked_expr far test
    ++ (bare (tested label ++ (JumpNear (label + 1) ∷ Label label ∷ []))
    ++ (marked_code unit far around (label + 3) pointer taken
    ++ (bare (JumpNear (label + 2) ∷ Label (label + 1) ∷ [])
    ++ (marked_code unit far around (label + 3 + labels taken) (pointer + pointers taken) other
    ++ (bare (Label (label + 2) ∷ [])
    ++ marked_code unit far around (label + 3 + labels taken + labels other) (pointer + pointers taken + pointers other) next)))))
marked_code unit far around label pointer (Loop body next) =
    bare (Label label ∷ One instr.Cld ∷ [])
    ++ (marked_code unit far (in_loop around (label + 1)) (label + 2) pointer body
    ++ (bare (JumpNear label ∷ Label (label + 1) ∷ []) ++ marked_code unit far around (label + 2 + labels body) (pointer + pointers body) next))

-- the routines whose far pointers are stored, in the order of the statements
abbrev pub step_stored : Step → List RoutineId
step_stored (StoreRoutine to unit number) = record { unit = unit; number = number } ∷ []
step_stored _ = []

abbrev pub stored : Code → List RoutineId
stored End = []
stored (Do step next) = step_stored step ++ stored next
stored (If test taken other next) = stored taken ++ (stored other ++ stored next)
stored (Loop body next) = stored body ++ stored next

-- ## Routines

abbrev pub compare_sp : Routine → Instr
compare_sp r = instr.AluImmediate alu.Cmp (immediate.Word (word_rm.Reg word.Sp) (min (512 + r.locals) 65535))

abbrev pub marked_stack_test : Routine → ℕ → List MarkedLine
marked_stack_test r zero = []
marked_stack_test r (suc frame) = plain (compare_sp r ∷ instr.JumpShort cond.AboveOrEqual 8 ∷ []) ++ marked_fail 202

abbrev pub marked_prologue : Routine → List MarkedLine
marked_prologue r = plain (enter_frame r.far) ++ (marked_stack_test r r.frame ++ plain (make_room r ∷ []))

abbrev pub marked_epilogue : Routine → List MarkedLine
marked_epilogue r = marked_given r.far r.result ++ plain (leave_frame r.far ++ (return_code r.far r.arguments ∷ []))

-- The labels below the number of the unit's routines are the routines' own; the next one is the end of the body.
abbrev pub at_body : UnitCode → Around
at_body unit = record { home = length unit.routines; ends = [] }

abbrev pub marked_body : UnitCode → ℕ → Routine → List MarkedLine
marked_body unit pointer r = marked_code unit r.far (at_body unit) (length unit.routines + 1) pointer r.body ++ bare (Label (length unit.routines) ∷ [])

-- the lines of a routine before any address is known, beside what they refer to
abbrev pub marked_routine : UnitCode → ℕ → Routine → List MarkedLine
marked_routine unit pointer r = marked_prologue r ++ (marked_body unit pointer r ++ marked_epilogue r)
