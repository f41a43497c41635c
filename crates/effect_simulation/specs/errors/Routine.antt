-- The error routine: it is entered by a far jump with an error's code in AX, writes the error's text and ends the run.
--
-- It pushes nothing. The text lies in the data segment, with room for five digits, which are made there from the last one on.
use Rattle.std.specs.Prelude.{◌≡◌, ℕ, ◌+◌, ◌<◌, ◌≤◌, List, [], ◌∷◌, ◌++◌, Some, codes}
use Rattle.x86_table.specs.declared.instr.AluOp.TheVariants as alu
use Rattle.x86_table.specs.declared.instr.Cond.TheVariants as cond
use Rattle.x86_table.specs.declared.instr.Instr.{Instr}
use Rattle.x86_table.specs.declared.instr.Instr.TheVariants as instr
use Rattle.x86_table.specs.declared.instr.Pair.TheVariants as pair
use Rattle.x86_table.specs.declared.line.Line.{Line}
use Rattle.x86_table.specs.declared.line.Line.TheVariants.{Label, JumpShort}
use Rattle.x86_table.specs.declared.operand.ByteOperand.TheVariants as byte_rm
use Rattle.x86_table.specs.declared.operand.ByteReg.TheVariants as byte
use Rattle.x86_table.specs.declared.operand.IndirectBase.TheVariants as indirect
use Rattle.x86_table.specs.declared.operand.Place.TheVariants.{Indirect}
use Rattle.x86_table.specs.declared.operand.WordReg.TheVariants as word
use Rattle.x86_table.specs.Standing.{IsSpelledAt, Stands}
use Rattle.flat_code.specs.declared.memory.Place.{Place}
use Rattle.cpu_8086.specs.Memory.{address}
use Rattle.resident_machine.specs.Program.{Image}
use Rattle.resident_machine.specs.machine_lines.Straight.{div_cx, ones, Placed}
use Rattle.code_templates.specs.code_lines.Expressions.{move, apply}
use Rattle.code_templates.specs.code_lines.Lines.{add_to}
use Rattle.code_templates.specs.code_lines.Operands.{memory_at}
use Rattle.statement_simulation.specs.flow.Sites.{World, Live}

-- ## The text

abbrev pub error_start : List ℕ
error_start = codes "Runtime error "

-- the bytes that the image has: five zeros where the digits come, and a line end
abbrev pub error_bytes : List ℕ
error_bytes = error_start ++ 48 ∷ 48 ∷ 48 ∷ 48 ∷ 48 ∷ 13 ∷ 10 ∷ []

-- ## The lines

-- SI keeps the code, and DI leads behind the digits
abbrev pub to_digits : ℕ → List Instr
to_digits text = move word.Si word.Ax ∷ instr.MovWord word.Di (text + 19) ∷ []

-- the next place downwards, and DX:AX by 10
abbrev pub to_divide : List Instr
to_divide = instr.Dec word.Di ∷ instr.MovWord word.Dx 0 ∷ instr.MovWord word.Cx 10 ∷ []

-- the remainder's digit is stored; whether there are more
abbrev pub store_digit : List Instr
store_digit =
    add_to word.Dx 48 ∷ instr.Mov (pair.RmByte (byte_rm.Mem (memory_at (Indirect indirect.Di))) byte.Dl) ∷ apply alu.Or word.Ax word.Ax ∷ []

-- CX bytes from DX on go to the errors
abbrev pub say_start : ℕ → List Instr
say_start text = instr.MovWord word.Bx 2 ∷ instr.MovWord word.Cx 14 ∷ instr.MovWord word.Dx text ∷ instr.MovByte byte.Ah 0x40 ∷ []

abbrev pub say_digits : ℕ → List Instr
say_digits text =
    move word.Dx word.Di ∷ instr.MovWord word.Cx (text + 21) ∷ apply alu.Sub word.Cx word.Di ∷ instr.MovByte byte.Ah 0x40 ∷ []

abbrev pub end_with : List Instr
end_with = move word.Ax word.Si ∷ instr.MovByte byte.Ah 0x4C ∷ []

abbrev pub call_dos : List Instr
call_dos = instr.Int 0x21 ∷ []

-- the text stands at this offset of the data segment
abbrev pub error_lines : ℕ → List Line
error_lines text =
    ones (to_digits text)
    ++ (Label 0
    ∷ (ones (to_divide ++ (div_cx ∷ store_digit))
    ++ (JumpShort cond.NotEqual 0 ∷ ones (say_start text ++ (call_dos ++ (say_digits text ++ (call_dos ++ (end_with ++ call_dos))))))))

-- ## Where it stands

-- bytes from an offset on are among the fixed ones
abbrev pub AreFixed : Live → ℕ → ℕ → List ℕ → Type 0
AreFixed live segment offset [] = Unit {0}
AreFixed live segment offset (b ∷ bs) = (live.fixed (address segment offset) ≡ Some b) × AreFixed live segment (offset + 1) bs

-- The lines stand where errors come to, and their text among the activation's fixed bytes. The end of a run is given the events that they take.
pub record HasErrorRoutine (w : World) (live : Live) (to : Place) : Type 0 where
  pub code : List ℕ
  pub at : ℕ → ℕ
  pub labels : ℕ → ℕ
  pub placed : Placed w.machine (Image to.segment) code at
  pub begins : at 0 ≡ to.offset
  pub text : ℕ
  pub stands : Stands (IsSpelledAt code) at labels 0 (error_lines text)
  pub inside : text + 21 < 65536
  pub bytes : AreFixed live w.choice.data_segment text error_bytes
  pub enough : 60 ≤ w.last
