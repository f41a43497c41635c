-- The code of an expression leaves its value in AX. An operator keeps its left operand on the stack, and takes the right one in CX.
use Rattle.std.specs.Prelude.{ℕ, List, [], ◌∷◌, ◌++◌}
use Rattle.x86_table.specs.declared.instr.AluOp.{AluOp}
use Rattle.x86_table.specs.declared.instr.AluOp.TheVariants as alu
use Rattle.x86_table.specs.declared.instr.Cond.{Cond}
use Rattle.x86_table.specs.declared.instr.Cond.TheVariants as cond
use Rattle.x86_table.specs.declared.instr.Count.TheVariants as count
use Rattle.x86_table.specs.declared.instr.Instr.{Instr}
use Rattle.x86_table.specs.declared.instr.Instr.TheVariants as instr
use Rattle.x86_table.specs.declared.instr.Pair.TheVariants as pair
use Rattle.x86_table.specs.declared.instr.ShiftOp.{ShiftOp}
use Rattle.x86_table.specs.declared.instr.ShiftOp.TheVariants as shift
use Rattle.x86_table.specs.declared.instr.ShortOp.TheVariants as short
use Rattle.x86_table.specs.declared.instr.Target.TheVariants as target
use Rattle.x86_table.specs.declared.instr.UnaryOp.{UnaryOp}
use Rattle.x86_table.specs.declared.instr.UnaryOp.TheVariants as unary
use Rattle.x86_table.specs.declared.operand.ByteOperand.TheVariants as byte_rm
use Rattle.x86_table.specs.declared.operand.ByteReg.TheVariants as byte
use Rattle.x86_table.specs.declared.operand.SegReg.TheVariants as seg
use Rattle.x86_table.specs.declared.operand.WordOperand.TheVariants as word_rm
use Rattle.x86_table.specs.declared.operand.WordReg.{WordReg}
use Rattle.x86_table.specs.declared.operand.WordReg.TheVariants as word
use Rattle.flat_code.specs.declared.tree.Address.{Address}
use Rattle.flat_code.specs.declared.tree.Address.TheVariants.{Global, Local, Outer, Through}
use Rattle.flat_code.specs.declared.tree.FlatOp.{FlatOp}
use Rattle.flat_code.specs.declared.tree.FlatOp.TheVariants as op
use Rattle.flat_code.specs.Tree.{Expr, Number, Byte, Word, AddressOf, SegmentOf, VmtOf, Op}
use Rattle.code_templates.specs.code_lines.Addresses.{Context, key_in}
use Rattle.code_templates.specs.code_lines.Operands.{memory_at, load, loads, operand_place, operand}

-- MOV between word registers, and an operator between them
abbrev pub move : WordReg → WordReg → Instr
move to from = instr.Mov (pair.WordRm to (word_rm.Reg from))

abbrev pub apply : AluOp → WordReg → WordReg → Instr
apply o to from = instr.Alu o (pair.WordRm to (word_rm.Reg from))

abbrev pub compare_with : WordReg → ℕ → Instr
compare_with r n = instr.AluShort short.Cmp (word_rm.Reg r) n

abbrev pub on_word : UnaryOp → WordReg → Instr
on_word o r = instr.Unary o (target.Word (word_rm.Reg r))

-- a runtime error: its code in AX, and on to the error routine, 8 bytes in all
abbrev pub fail : Context → ℕ → List Instr
fail x code = instr.MovWord word.Ax code ∷ instr.JumpFar x.addresses.error_routine.offset x.addresses.error_routine.segment ∷ []

-- 1 where the condition holds that is the other one's contrary, else 0: over INC, which has one byte
abbrev pub truth_unless : Cond → List Instr
truth_unless c = apply alu.Cmp word.Ax word.Cx ∷ instr.MovWord word.Ax 0 ∷ instr.JumpShort c 1 ∷ instr.Inc word.Ax ∷ []

abbrev pub shifted_by : ShiftOp → List Instr
shifted_by o = instr.Shift o count.Cl (target.Word (word_rm.Reg word.Ax)) ∷ []

-- an error where CX is 0, else on over it
abbrev pub tested : Context → List Instr
tested x = compare_with word.Cx 0 ∷ instr.JumpShort cond.NotEqual 8 ∷ fail x 200

abbrev pub unsigned_division : Context → List Instr
unsigned_division x = tested x ++ (instr.MovWord word.Dx 0 ∷ on_word unary.Div word.Cx ∷ [])

-- over two bytes where the sign is not set: a register becomes its negative where it is
abbrev pub negative : WordReg → List Instr
negative r = instr.JumpShort cond.NoSign 2 ∷ on_word unary.Neg r ∷ []

-- the magnitude of AX by that of CX
abbrev pub magnitudes : List Instr
magnitudes =
    compare_with word.Ax 0 ∷ (negative word.Ax ++ (instr.MovWord word.Dx 0 ∷ on_word unary.Div word.Cx ∷ []))

-- the sign of BX
abbrev pub signed_by : List Instr
signed_by = compare_with word.Bx 0 ∷ negative word.Ax

-- BX keeps the sign of the left operand; a negative divisor turns it round
abbrev pub signed_quotient : Context → List Instr
signed_quotient x =
    move word.Bx word.Ax
    ∷ (tested x ++ (instr.JumpShort cond.NoSign 4 ∷ on_word unary.Neg word.Cx ∷ on_word unary.Not word.Bx ∷ (magnitudes ++ signed_by)))

abbrev pub signed_remainder : Context → List Instr
signed_remainder x = move word.Bx word.Ax ∷ (tested x ++ (negative word.Cx ++ (magnitudes ++ (move word.Ax word.Dx ∷ signed_by))))

-- the left operand in AX and the right one in CX
abbrev pub op_code : Context → FlatOp → List Instr
op_code x op.Add = apply alu.Add word.Ax word.Cx ∷ []
op_code x op.Sub = apply alu.Sub word.Ax word.Cx ∷ []
op_code x op.Mul = on_word unary.Mul word.Cx ∷ []
op_code x op.MulHigh = on_word unary.Mul word.Cx ∷ move word.Ax word.Dx ∷ []
op_code x op.Div = signed_quotient x
op_code x op.Mod = signed_remainder x
op_code x op.DivUnsigned = unsigned_division x
op_code x op.ModUnsigned = unsigned_division x ++ (move word.Ax word.Dx ∷ [])
op_code x op.And = apply alu.And word.Ax word.Cx ∷ []
op_code x op.Or = apply alu.Or word.Ax word.Cx ∷ []
op_code x op.Xor = apply alu.Xor word.Ax word.Cx ∷ []
op_code x op.Shl = shifted_by shift.Shl
op_code x op.Shr = shifted_by shift.Shr
op_code x op.Equal = truth_unless cond.NotEqual
op_code x op.Less = truth_unless cond.GreaterOrEqual
op_code x op.Below = truth_unless cond.AboveOrEqual

-- the segment of a place in AX
abbrev pub segment_code : Address → List Instr
segment_code (Global unit number plus) = instr.MovFromSeg (word_rm.Reg word.Ax) seg.Ds ∷ []
segment_code (Local at) = instr.MovFromSeg (word_rm.Reg word.Ax) seg.Ss ∷ []
segment_code (Outer levels at) = instr.MovFromSeg (word_rm.Reg word.Ax) seg.Ss ∷ []
segment_code (Through slot plus) = instr.MovFromSeg (word_rm.Reg word.Ax) seg.Es ∷ []

abbrev pub expr_code : Context → Expr → List Instr
expr_code x (Number n) = instr.MovWord word.Ax n ∷ []
expr_code x (Byte at) = loads x at ++ (instr.Mov (pair.ByteRm byte.Al (byte_rm.Mem (operand x at 0))) ∷ instr.MovByte byte.Ah 0 ∷ [])
expr_code x (Word at) = loads x at ++ (load word.Ax (operand x at 0) ∷ [])
expr_code x (AddressOf at) = loads x at ++ (instr.Lea word.Ax (memory_at (operand_place x at 0)) ∷ [])
expr_code x (SegmentOf at) = loads x at ++ segment_code at
expr_code x (VmtOf unit number) = instr.MovWord word.Ax (x.addresses.vmt (key_in x unit number)) ∷ []
expr_code x (Op o a b) = expr_code x a ++ (instr.Push word.Ax ∷ (expr_code x b ++ (move word.Cx word.Ax ∷ instr.Pop word.Ax ∷ op_code x o)))

-- arguments are pushed in order
abbrev pub args_code : Context → List Expr → List Instr
args_code x [] = []
args_code x (e ∷ es) = expr_code x e ++ (instr.Push word.Ax ∷ args_code x es)
