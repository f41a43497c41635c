use Rattle.std.proofs.Common.{◌≡◌, true, false, map, Option, List, refl, sym, ap, ◌∙◌, rules, w32, to_z, of_z}
use Rattle.std.specs.Prelude.{ℤ, Ok, Err}
use Rattle.std.specs.Option.{option_map, option_copied}
use Rattle.std.proofs.lemmas.Int.{to_z-of_z}
use Rattle.std.proofs.lemmas.Result.{err_from_is_err_and}
use Rattle.typed_tree.specs.Expressions.{view_expr, view_place, view_args}
use Rattle.typed_tree.specs.Statements.{Statement, view_stmt, view_written}
use Rattle.tp_meaning.specs.Trees.{Key, Spot, Value}
use Rattle.tp_meaning.specs.Programs.{Sort}
use Rattle.tp_meaning.specs.Outcomes.{Does}
use Rattle.tp_meaning.specs.Activations.{Activation, Reached, Callee}
use Rattle.tp_meaning.specs.Calls.{Flow, entered}
use Rattle.tp_meaning.specs.Standard.{Operand, handed}
use Rattle.tp_meaning.specs.Expressions.{Instance, operands, called}
use Rattle.tp_meaning.specs.Meaning.{run}
use Rattle.interpreter_store.specs.cell_store.Views.{view_key, view_spot, view_value}
use Rattle.interpreter_store.specs.typed_cells.Sorts.{view_sort, view_reached}
use Rattle.interpreter_effects.specs.activations.Views.{view_activation, view_callee}
use Rattle.interpreter_effects.specs.standard_effects.Operands.{view_operand}
use Rattle.interpreter_steps.specs.Running.{view_run, view_flow, view_instance, program_of}
use Rattle.interpreter_steps.proofs.Ends.{ends_bind}
use Rattle.interpreter_steps.specs.interpreter_frames.Frames.{rest_of}
use Rattle.interpreter_steps.proofs.interpreter_frames.Moves.{ends_spent, ends_after, ends_two, ends_three, ends_found, ends_spent_two, ends_after_two, expected, moves_found, moves_found2}
use Rattle.interpreter.proofs.Entered.{enters, ends_admitted, ends_begun}
use Rattle.interpreter.proofs.machine.Machine.enter.Goals as goal

pub returns-in_err-callee : goal.returns-in_err-callee
returns-in_err-callee c =
    let p = program_of c.args.self.now.steps in
    let s = view_run c.args.run.now in
    let f = view_activation c.args.work.now.f in
    let k : Value → Does Value = λ v. (rest_of p c.args.work.now).value v f in
    let key : Key = view_key c.args.key.now in
    let own : Option Spot = option_map view_spot (option_copied c.args.own) in
    let class : Option Key = option_map view_key c.args.class in
    let args : List Value = map view_value c.args.args.now in
    let q = err_from_is_err_and c.from_residual.result c.from_residual.ensures.1 in
    rw (q.1, q.2) (ends_admitted c.in_err-callee.field-0.0 p s f key own class args k c.in_err-callee.ensures)

pub returns-in_err-g : goal.returns-in_err-g
returns-in_err-g c =
    let p = program_of c.args.self.now.steps in
    let s = view_run c.args.run.now in
    let f = view_activation c.args.work.now.f in
    let k : Value → Does Value = λ v. (rest_of p c.args.work.now).value v f in
    let key : Key = view_key c.args.key.now in
    let own : Option Spot = option_map view_spot (option_copied c.args.own) in
    let class : Option Key = option_map view_key c.args.class in
    let args : List Value = map view_value c.args.args.now in
    let q = err_from_is_err_and c.from_residual-in_err-g.result c.from_residual-in_err-g.ensures.1 in
    let t = view_run c.begin.new.run in
    rw (q.1, q.2) (ends_begun c.in_err-g.field-0.0 p s t f key own class args k (view_callee c.in_ok-callee.callee) c.in_ok-callee.ensures c.in_err-g.ensures)

pub returns : goal.returns
returns c =
    let p = program_of c.args.self.now.steps in
    let s = view_run c.args.run.now in
    let f = view_activation c.args.work.now.f in
    let k : Value → Does Value = λ v. (rest_of p c.args.work.now).value v f in
    let key : Key = view_key c.args.key.now in
    let own : Option Spot = option_map view_spot (option_copied c.args.own) in
    let class : Option Key = option_map view_key c.args.class in
    let args : List Value = map view_value c.args.args.now in
    let t = view_run c.begin.new.run in
    enters p c.enter.result c.enter.new.self s t f key own class args k (view_callee c.in_ok-callee.callee) (view_activation c.in_ok-g.g, c.in_ok-g.first) c.in_ok-callee.ensures c.in_ok-g.ensures (c.enter.ensures p t)
