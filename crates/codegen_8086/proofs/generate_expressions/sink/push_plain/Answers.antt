use Rattle.std.proofs.Common.{get_or, refl}
use Rattle.x86_table.specs.declared.instr.Instr.{Instr}
use Rattle.x86_table.specs.declared.instr.Instr.TheVariants as instr
use Rattle.x86_table.specs.declared.instr.Pair.TheVariants as pair
use Rattle.x86_table.specs.declared.operand.ByteOperand.TheVariants as byte_rm
use Rattle.x86_table.specs.declared.operand.ByteReg.TheVariants as byte
use Rattle.codegen_8086.proofs.generate_expressions.Plain.{plain-next}
use Rattle.codegen_8086.proofs.generate_expressions.sink.push_plain.Goals as goal

pub loop-instr-preserved : goal.loop-instr-preserved
loop-instr-preserved c =
    let none : Instr = instr.Mov (pair.RmByte (byte_rm.Reg byte.Al) byte.Al) in
    plain-next c.args.lines.now c.loop-instr.lines c.push.new.self c.args.code.now c.loop-instr.instr-index none (get_or c.args.code.now c.loop-instr.instr-index none) c.loop-instr-test.true refl c.loop-instr.invariant c.in_ok-push.ensures
