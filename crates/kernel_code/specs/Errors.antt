-- The error routine, before any address is known: the text's offset is 0.
use Rattle.std.specs.Prelude.{ℕ, List, [], ◌∷◌, ◌++◌, None, map, codes}
use Rattle.object_file.specs.declared.object_unit.object.Code8086.{Code8086}
use Rattle.object_file.specs.declared.object_unit.object.RefKind.TheVariants as kind
use Rattle.x86_table.specs.declared.instr.AluOp.{AluOp}
use Rattle.x86_table.specs.declared.instr.AluOp.TheVariants as alu
use Rattle.x86_table.specs.declared.instr.Cond.TheVariants as cond
use Rattle.x86_table.specs.declared.instr.Immediate.TheVariants as immediate
use Rattle.x86_table.specs.declared.instr.Instr.{Instr}
use Rattle.x86_table.specs.declared.instr.Instr.TheVariants as instr
use Rattle.x86_table.specs.declared.instr.Pair.TheVariants as pair
use Rattle.x86_table.specs.declared.instr.Target.TheVariants as target
use Rattle.x86_table.specs.declared.instr.UnaryOp.TheVariants as unary
use Rattle.x86_table.specs.declared.line.Line.{Line}
use Rattle.x86_table.specs.declared.line.Line.TheVariants.{One, Label, JumpShort}
use Rattle.x86_table.specs.declared.operand.ByteOperand.TheVariants as byte_rm
use Rattle.x86_table.specs.declared.operand.ByteReg.TheVariants as byte
use Rattle.x86_table.specs.declared.operand.IndirectBase.TheVariants as indirect
use Rattle.x86_table.specs.declared.operand.Place.TheVariants.{Indirect}
use Rattle.x86_table.specs.declared.operand.WordOperand.TheVariants as word_rm
use Rattle.x86_table.specs.declared.operand.WordReg.{WordReg}
use Rattle.x86_table.specs.declared.operand.WordReg.TheVariants as word
use Rattle.x86_table.specs.Lines.{assembled}
use Rattle.kernel_code.specs.Parts.{reference, routine}

abbrev pub move_word : WordReg → WordReg → Instr
move_word to from = instr.Mov (pair.WordRm to (word_rm.Reg from))

abbrev pub apply : AluOp → WordReg → WordReg → Instr
apply op to from = instr.Alu op (pair.WordRm to (word_rm.Reg from))

-- SI keeps the code, and DI leads behind the digits
abbrev pub to_digits : List Instr
to_digits = move_word word.Si word.Ax ∷ instr.MovWord word.Di 19 ∷ []

-- the next place downwards, DX:AX by 10, and the remainder's digit; whether there are more
abbrev pub next_digit : List Instr
next_digit =
    instr.Dec word.Di ∷ instr.MovWord word.Dx 0 ∷ instr.MovWord word.Cx 10 ∷ instr.Unary unary.Div (target.Word (word_rm.Reg word.Cx))
    ∷ instr.AluImmediate alu.Add (immediate.Word (word_rm.Reg word.Dx) 48)
    ∷ instr.Mov (pair.RmByte (byte_rm.Mem (record { segment = None; place = Indirect indirect.Di })) byte.Dl) ∷ apply alu.Or word.Ax word.Ax ∷ []

-- the words before the digits go to the errors, then the digits and the line end
abbrev pub say_start : List Instr
say_start = instr.MovWord word.Bx 2 ∷ instr.MovWord word.Cx 14 ∷ instr.MovWord word.Dx 0 ∷ instr.MovByte byte.Ah 0x40 ∷ instr.Int 0x21 ∷ []

abbrev pub say_digits : List Instr
say_digits = move_word word.Dx word.Di ∷ instr.MovWord word.Cx 21 ∷ apply alu.Sub word.Cx word.Di ∷ instr.MovByte byte.Ah 0x40 ∷ instr.Int 0x21 ∷ []

-- the run ends with the code
abbrev pub end_with : List Instr
end_with = move_word word.Ax word.Si ∷ instr.MovByte byte.Ah 0x4C ∷ instr.Int 0x21 ∷ []

abbrev pub ones : List Instr → List Line
ones is = map One is

abbrev pub error_lines : List Line
error_lines = ones to_digits ++ (Label 0 ∷ (ones next_digit ++ (JumpShort cond.NotEqual 0 ∷ (ones say_start ++ (ones say_digits ++ ones end_with)))))

-- five zeros where the digits come, and a line end
abbrev pub error_bytes : List ℕ
error_bytes = codes "Runtime error 00000" ++ 13 ∷ 10 ∷ []

-- the words that are offsets of the text or of places behind it
abbrev pub error_of : List ℕ → Code8086
error_of kernel =
    routine (codes "ERROR") (assembled error_lines) (reference 3 kind.DataOffset kernel 0 ∷ reference 31 kind.DataOffset kernel 0 ∷ reference 40 kind.DataOffset kernel 0 ∷ [])
