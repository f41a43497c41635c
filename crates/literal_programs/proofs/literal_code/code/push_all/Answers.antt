use Rattle.std.proofs.Common.{◌∙◌, get_or, refl}
use Rattle.x86_table.specs.declared.operand.ByteReg.TheVariants as byte
use Rattle.x86_table.specs.declared.operand.ByteOperand.TheVariants as byte_rm
use Rattle.x86_table.specs.declared.instr.Pair.TheVariants as pair
use Rattle.x86_table.specs.declared.instr.Instr.{Instr}
use Rattle.x86_table.specs.declared.instr.Instr.TheVariants as instr
use Rattle.literal_programs.proofs.literal_code.CodeLaws.{spelled-next}
use Rattle.literal_programs.proofs.literal_code.code.push_all.Goals as goal

pub loop-instr-preserved : goal.loop-instr-preserved
loop-instr-preserved c =
    let none : Instr = instr.Mov (pair.RmByte (byte_rm.Reg byte.Al) byte.Al) in
    spelled-next c.args.bytes.now c.loop-instr.bytes c.extend_from_slice.new.self c.as_slice.result.now c.args.code.now c.loop-instr.instr-index none
    (get_or c.args.code.now c.loop-instr.instr-index none) c.loop-instr-test.true refl c.loop-instr.invariant
    (c.as_slice.ensures.value ∙ c.encode.ensures) c.in_ok-extend_from_slice.ensures.ok
