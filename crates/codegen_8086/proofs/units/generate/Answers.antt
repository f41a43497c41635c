use Rattle.std.proofs.Common.{◌+◌, ◌<◌, [], ◌∷◌, ◌++◌, length, get_or, ap, subst, ◌∙◌}
use Rattle.x86_table.specs.Lines.{code_size}
use Rattle.flat_code.specs.Plain.{view_unit}
use Rattle.codegen_8086.specs.object_code.Objects.{code_of}
use Rattle.codegen_8086.proofs.Laid.{progress-next}
use Rattle.codegen_8086.proofs.units.generate.Goals as goal

pub loop-routine-preserved : goal.loop-routine-preserved
loop-routine-preserved c =
    let unit = c.args.unit.now in
    let before = c.loop-routine in
    let i = before.routine-index in
    let r = c.routine-item.result in
    let layout = c.in_ok-layout.layout in
    let items = c.as_slice-routine-items.ensures in (
      c.in_ok-layout.ensures.home ∙ before.invariant.0,
      progress-next unit.names (view_unit unit) unit.routines i before.bytes c.in_ok-bytes.bytes before.numbers.stored c.lay_out.new.numbers.stored before.routines c.push_code.new.codes r layout.marked layout.lines
          (subst (λ rs. i < length rs) items c.loop-routine-test.true)
          (c.routine-item.is ∙ ap (λ rs. get_or rs i r) items)
          before.invariant.1 c.in_ok-layout.ensures.marked c.in_ok-layout.ensures.laid
          (c.in_ok-bytes.ensures ∙ ap (λ ls. before.bytes + code_size ls) c.as_slice-in-loop-routine.ensures)
          (λ small. c.in_ok-push_code.ensures.ok small ∙ ap (λ names. before.routines ++ code_of names r layout.marked layout.lines ∷ []) c.as_slice-names.ensures)
          c.in_ok-layout.ensures.stored,
    )
