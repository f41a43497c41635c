use Rattle.std.proofs.Common.{get_or, refl}
use Rattle.x86_table.specs.declared.instr.Instr.TheVariants as instr
use Rattle.x86_table.specs.declared.instr.Pair.TheVariants as pair
use Rattle.x86_table.specs.declared.line.Line.{Line}
use Rattle.x86_table.specs.declared.line.Line.TheVariants.{One}
use Rattle.x86_table.specs.declared.operand.ByteOperand.TheVariants as byte_rm
use Rattle.x86_table.specs.declared.operand.ByteReg.TheVariants as byte
use Rattle.codegen_8086.proofs.generate_expressions.Plain.{bare-next}
use Rattle.codegen_8086.proofs.generate_expressions.sink.push_bare.Goals as goal

pub loop-line-preserved : goal.loop-line-preserved
loop-line-preserved c =
    let none : Line = One (instr.Mov (pair.RmByte (byte_rm.Reg byte.Al) byte.Al)) in
    bare-next c.args.lines.now c.loop-line.lines c.push.new.self c.args.code.now c.loop-line.line-index none (get_or c.args.code.now c.loop-line.line-index none) c.loop-line-test.true refl c.loop-line.invariant c.in_ok-push.ensures
