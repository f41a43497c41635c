use Rattle.std.specs.Prelude.{Option}
use Rattle.std.proofs.Common.{ap, ◌∙◌}
use Rattle.x86_table.specs.declared.operand.Memory.{Memory}
use Rattle.x86_table.specs.declared.operand.Place.{Place}
use Rattle.x86_table.specs.declared.operand.SegReg.{SegReg}
use Rattle.code_templates.specs.code_lines.Operands.{operand_place, operand}
use Rattle.code_templates.specs.code_references.Unplaced.{in_frame}
use Rattle.codegen_8086.proofs.generate_expressions.Plain.{operand-parts}
use Rattle.codegen_8086.proofs.generate_expressions.operands.operand.Goals as goal

made : Option SegReg → Place → Memory
made segment place = record { segment = segment; place = place }

pub returns : goal.returns
unfolding made
returns c =
    let x = in_frame c.args.far in
    ap (λ s. made s c.operand_place.result) (c.override_of.ensures c.args.far)
    ∙ ap (λ p. made (operand x c.args.at 0).segment p) c.operand_place.ensures
    ∙ operand-parts x c.args.at c.args.more
