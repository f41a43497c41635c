use Rattle.std.proofs.Common.{◌≡◌, rules, w32, to_z, of_z}
use Rattle.std.proofs.lemmas.Int.{to_z-of_z}
use Rattle.std.proofs.lemmas.Result.{err_from_is_err_and}
use Rattle.interpreter_effects.specs.activations.Views.{view_activation}
use Rattle.interpreter_steps.specs.Running.{view_run, program_of}
use Rattle.interpreter_steps.proofs.Ends.{ends_bind, ends_behind}
use Rattle.interpreter_steps.proofs.Begun.{begun_comes, begun_ends}
use Rattle.interpreter_steps.proofs.state.Interpreter.count_from.Goals as goal

pub returns-in_err-low : goal.returns-in_err-low
returns-in_err-low c =
    let s = view_run c.args.run.now in
    let q = err_from_is_err_and c.from_residual.result c.from_residual.ensures.1 in
    let x = rw (to_z-of_z w32 c.args.first c.ranges.first) at (c.in_err-low.ensures s) in
    rw (q.1, q.2) (ends_bind c.in_err-low.field-0.0 s _ _ x)

pub returns-in_err-high : goal.returns-in_err-high
returns-in_err-high c =
    let s = view_run c.args.run.now in
    let q = err_from_is_err_and c.from_residual-in_err-high.result c.from_residual-in_err-high.ensures.1 in
    let d = rw (to_z-of_z w32 c.args.first c.ranges.first) at (c.in_ok-low.ensures s) in
    let x = rw (to_z-of_z w32 c.args.last c.ranges.last) at (c.in_err-high.ensures s) in
    rw (q.1, q.2) (ends_behind c.in_err-high.field-0.0 s _ _ _ d (ends_bind c.in_err-high.field-0.0 s _ _ x))

pub returns-in_err-count_at : goal.returns-in_err-count_at
returns-in_err-count_at c =
    let s = view_run c.args.run.now in
    let q = err_from_is_err_and c.from_residual-in_err-count_at.result c.from_residual-in_err-count_at.ensures.1 in
    let d = rw (to_z-of_z w32 c.args.first c.ranges.first) at (c.in_ok-low.ensures s) in
    let e = rw (to_z-of_z w32 c.args.last c.ranges.last) at (c.in_ok-high.ensures s) in
    let low : to_z w32 (of_z w32 c.in_ok-low.low) ≡ c.in_ok-low.low = search rules in
    let x = rw low at c.in_err-count_at.ensures in
    rw (q.1, q.2) (begun_ends c.in_err-count_at.field-0.0 (program_of c.args.self.now) (view_activation c.args.f.now) c.args.variable c.args.ty c.args.checked c.args.first c.args.last c.in_ok-low.low c.in_ok-high.high s (view_run c.count_at.new.run) d e x)

pub returns : goal.returns
returns c =
    let s = view_run c.args.run.now in
    let d = rw (to_z-of_z w32 c.args.first c.ranges.first) at (c.in_ok-low.ensures s) in
    let e = rw (to_z-of_z w32 c.args.last c.ranges.last) at (c.in_ok-high.ensures s) in
    let low : to_z w32 (of_z w32 c.in_ok-low.low) ≡ c.in_ok-low.low = search rules in
    let high : to_z w32 (of_z w32 c.in_ok-high.high) ≡ c.in_ok-high.high = search rules in
    let x = rw low at c.in_ok-count_at.ensures in
    rw high (begun_comes (program_of c.args.self.now) (view_activation c.args.f.now) c.args.variable c.args.ty c.args.checked c.args.first c.args.last c.in_ok-low.low c.in_ok-high.high s (view_run c.count_at.new.run) d e x)
