-- The start of a program: far calls of its first routines, before any address is known.
use Rattle.std.specs.Prelude.{ℕ, ◌+◌, List, [], ◌∷◌, ◌++◌, codes}
use Rattle.object_file.specs.declared.object_unit.object.Code8086.{Code8086}
use Rattle.object_file.specs.declared.object_unit.object.Ref.{Ref}
use Rattle.object_file.specs.declared.object_unit.object.RefKind.TheVariants as kind
use Rattle.x86_table.specs.declared.instr.Instr.{Instr}
use Rattle.x86_table.specs.declared.instr.Instr.TheVariants as instr
use Rattle.x86_table.specs.declared.operand.DataSeg.TheVariants as data_seg
use Rattle.x86_table.specs.declared.operand.WordOperand.TheVariants as word_rm
use Rattle.x86_table.specs.declared.operand.WordReg.TheVariants as word
use Rattle.kernel_code.specs.declared.initial.Initial.{Initial}
use Rattle.kernel_code.specs.Parts.{encoded, reference, routine}

-- DS is the data segment, BP ends the chain of frames, and DF is clear; SS and SP come from the header
abbrev pub start_code : List Instr
start_code = instr.MovWord word.Ax 0 ∷ instr.MovToSeg data_seg.Ds (word_rm.Reg word.Ax) ∷ instr.MovWord word.Bp 0 ∷ instr.Cld ∷ []

-- the run ends with code 0
abbrev pub finish_code : List Instr
finish_code = instr.MovWord word.Ax 0x4C00 ∷ instr.Int 0x21 ∷ []

abbrev pub call_codes : List Initial → List ℕ
call_codes [] = []
call_codes (initial ∷ initials) = encoded (instr.CallFar 0 0 ∷ []) ++ call_codes initials

-- a call has its far pointer in its last four bytes of five
abbrev pub call_refs : ℕ → List Initial → List Ref
call_refs offset [] = []
call_refs offset (initial ∷ initials) = reference offset kind.FarRoutine initial.unit initial.number ∷ call_refs (offset + 5) initials

-- The first nine bytes set registers; the word of the first instruction is the data segment.
abbrev pub start_of : List ℕ → List Initial → Code8086
start_of kernel initials =
    routine (codes "START") (encoded start_code ++ (call_codes initials ++ encoded finish_code)) (reference 1 kind.DataSegment kernel 0 ∷ call_refs 10 initials)
