-- The code of a program of literals, as instructions.
use Rattle.std.specs.Prelude.{ℕ, ◌+◌, List, [], ◌∷◌, ◌++◌}
use Rattle.x86_table.specs.declared.operand.WordReg.TheVariants as word
use Rattle.x86_table.specs.declared.operand.ByteReg.TheVariants as byte
use Rattle.x86_table.specs.declared.operand.DataSeg.TheVariants as seg
use Rattle.x86_table.specs.declared.operand.WordOperand.TheVariants as word_rm
use Rattle.x86_table.specs.declared.instr.Instr.{Instr}
use Rattle.x86_table.specs.declared.instr.Instr.TheVariants as instr
use Rattle.x86_table.specs.Spelling.{spelling}
use Rattle.literal_programs.specs.declared.literal_code.act.Act.{Act}
use Rattle.literal_programs.specs.declared.literal_code.act.Act.TheVariants as act

-- DS becomes the data segment, and BX the handle of the output.
abbrev pub start_code : ℕ → List Instr
start_code segment = instr.MovWord word.Ax segment ∷ instr.MovToSeg seg.Ds (word_rm.Reg word.Ax) ∷ instr.MovWord word.Bx 1 ∷ []

-- DOS writes so many bytes from an offset of the data segment.
abbrev pub write_code : ℕ → ℕ → List Instr
write_code offset count = instr.MovWord word.Cx count ∷ instr.MovWord word.Dx offset ∷ instr.MovByte byte.Ah 0x40 ∷ instr.Int 0x21 ∷ []

-- DOS ends the program with a code.
abbrev pub halt_code : ℕ → List Instr
halt_code code = instr.MovWord word.Ax (0x4C00 + code) ∷ instr.Int 0x21 ∷ []

-- DOS ends the program with the code in AL: the error routine, since a program of literals has no error to tell.
abbrev pub error_code : List Instr
error_code = instr.MovByte byte.Ah 0x4C ∷ instr.Int 0x21 ∷ []

abbrev pub act_code : Act → List Instr
act_code (act.Write from count) = write_code from count
act_code (act.Halt code) = halt_code code

-- The acts one after another, and then the end with code 0.
abbrev pub acts_code : List Act → List Instr
acts_code [] = halt_code 0
acts_code (a ∷ acts) = act_code a ++ acts_code acts

abbrev pub program_code : ℕ → List Act → List Instr
program_code segment acts = start_code segment ++ acts_code acts ++ error_code

-- the bytes of instructions, one after another
abbrev pub spelled : List Instr → List ℕ
spelled [] = []
spelled (i ∷ is) = spelling i ++ spelled is

-- the bytes that the code of acts takes
abbrev pub act_size : Act → ℕ
act_size (act.Write from count) = 10
act_size (act.Halt code) = 5

abbrev pub acts_size : List Act → ℕ
acts_size [] = 5
acts_size (a ∷ acts) = act_size a + acts_size acts
