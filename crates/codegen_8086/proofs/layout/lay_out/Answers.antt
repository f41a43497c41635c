use Rattle.std.proofs.Common.{◌≡◌, ◌++◌, length, sym, ap, subst, ◌∙◌}
use Rattle.x86_table.specs.Lines.{ShortJumpsReach, Shortens}
use Rattle.flat_code.specs.Plain.{view_routine, view_unit}
use Rattle.code_templates.specs.code_references.Marks.{lines_of}
use Rattle.code_templates.specs.code_references.Marked.{marked_routine}
use Rattle.codegen_8086.proofs.Reach.{marked-reaches}
use Rattle.codegen_8086.proofs.layout.lay_out.Goals as goal

pub returns-clause-laid : goal.returns-clause-laid
returns-clause-laid c =
    let unit = view_unit c.args.unit.now in
    let pointer = length c.args.numbers.now.stored in
    let r = view_routine c.args.routine.now in
    let marked = c.push_routine.new.lines in
    let lines = c.in_ok-lines.lines in
    let near : c.as_slice-2.result.now ≡ lines_of marked = c.as_slice-2.ensures ∙ c.in_ok-near.ensures ∙ ap lines_of c.as_slice.ensures in
    let made : marked ≡ marked_routine unit pointer r = c.in_ok-push_routine.ensures.lines c.requires.home c.requires.arguments ∙ ap (λ z. z ++ marked_routine unit pointer r) c.new-marked.ensures in
    record {
      shortens = subst (λ z. Shortens z lines) near c.in_ok-lines.ensures.shortens;
      reach = c.in_ok-lines.ensures.reach (subst ShortJumpsReach (sym (near ∙ ap lines_of made)) (marked-reaches unit pointer r));
      far = c.in_ok-lines.ensures.far;
    }
