use Rattle.std.proofs.Common.{◌≡◌, ◌+◌, ◌++◌, length, drop}
use Rattle.flat_code.specs.Plain.{view_unit}
use Rattle.flat_code.specs.View.{view_list}
use Rattle.code_templates.specs.code_lines.Lines.{labels}
use Rattle.code_templates.specs.code_references.Marked.{marked_code, stored}
use Rattle.codegen_8086.proofs.generate_code.statements.+code.Given as goal

abbrev pub invariant-push_list-loop-stmt : goal.invariant-push_list-loop-stmt
invariant-push_list-loop-stmt l =
    (l.numbers.around ≡ l.initial.numbers.around)
    × (l.initial.numbers.label + labels (view_list l.list) ≡ l.numbers.label + labels (view_list (drop l.stmt-index l.list)))
    × (l.initial.numbers.stored ++ stored (view_list l.list) ≡ l.numbers.stored ++ stored (view_list (drop l.stmt-index l.list)))
    × (l.initial.lines ++ marked_code (view_unit l.unit) l.far l.initial.numbers.around l.initial.numbers.label (length l.initial.numbers.stored) (view_list l.list) ≡ l.lines ++ marked_code (view_unit l.unit) l.far l.initial.numbers.around l.numbers.label (length l.numbers.stored) (view_list (drop l.stmt-index l.list)))
