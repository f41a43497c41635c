use Rattle.std.proofs.Common.{arith, ◌≡◌, ℕ, ◌%◌, List, [], ◌∷◌, ◌++◌, ap, ◌∙◌, append_assoc}
use Rattle.flat_code.specs.Plain.{view_routine}
use Rattle.code_templates.specs.code_lines.Lines.{leave_frame, return_code}
use Rattle.code_templates.specs.declared.code_references.marks.MarkedLine.{MarkedLine}
use Rattle.code_templates.specs.code_references.Marks.{plain}
use Rattle.code_templates.specs.code_references.Marked.{marked_given}
use Rattle.codegen_8086.proofs.generate_expressions.Plain.{on_ok}
use Rattle.codegen_8086.proofs.generate_routines.frames.push_epilogue.Goals as goal

pub returns : goal.returns
returns c = λ small.
    let r = view_routine c.args.routine.now in
    let start = c.args.lines.now in
    let given = marked_given r.far r.result in
    let left : ℕ → List MarkedLine = λ n. plain (leave_frame r.far ++ (return_code r.far n ∷ [])) in
    let whole : c.args.routine.now.arguments % 65536 ≡ c.args.routine.now.arguments = omega (arith, small) in
    on_ok c.push_leave_frame.result (λ h.
    h ∙ ap (λ z. z ++ left (c.args.routine.now.arguments % 65536)) c.in_ok-push_given.ensures
    ∙ append_assoc start given (left (c.args.routine.now.arguments % 65536))
    ∙ ap (λ n. start ++ (given ++ left n)) whole) c.push_leave_frame.ensures
