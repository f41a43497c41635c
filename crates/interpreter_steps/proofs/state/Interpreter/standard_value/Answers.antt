use Rattle.std.proofs.Common.{◌≡◌, Option, ap, ◌∙◌}
use Rattle.std.specs.Option.{option_map, option_copied}
use Rattle.std.proofs.lemmas.Result.{err_from_is_err_and}
use Rattle.interpreter_store.specs.cell_store.Views.{view_value, view_store}
use Rattle.interpreter_store.specs.declared.cell_store.contents.Value.{Value}
use Rattle.interpreter_store.specs.typed_cells.Sorts.{view_sort}
use Rattle.interpreter_effects.specs.activations.Views.{view_activation}
use Rattle.interpreter_effects.specs.standard_effects.Effects.{view_standard}
use Rattle.interpreter_steps.specs.Running.{view_run, program_of}
use Rattle.interpreter_steps.proofs.Effects.{performed_comes, performed_ends}
use Rattle.interpreter_steps.proofs.state.Interpreter.standard_value.Goals as goal

pub returns : goal.returns
returns c =
    let s = view_run c.args.run.now in
    let sort = ap (option_map view_sort) c.as_ref.ensures.value ∙ c.result_sort-sort.ensures in
    performed_comes (program_of c.args.self.now) (view_activation c.args.f.now) c.args.ty c.args.number _ s (view_standard c.in-Some.one) _ _ c.in-Some.ensures sort c.in_ok-perform.ensures

pub returns-in_err-perform : goal.returns-in_err-perform
returns-in_err-perform c =
    let s = view_run c.args.run.now in
    let p = err_from_is_err_and c.from_residual.result c.from_residual.ensures.1 in
    let sort = ap (option_map view_sort) c.as_ref.ensures.value ∙ c.result_sort-sort.ensures in
    let store = view_store c.perform.new.store in
    rw (p.1, p.2) (performed_ends (λ (v : Value). (view_value v, store)) (program_of c.args.self.now) (view_activation c.args.f.now) c.args.ty c.args.number _ s store (view_standard c.in-Some.one) _ c.in_err-perform.field-0.0 c.in-Some.ensures sort c.in_err-perform.ensures)
