use Rattle.std.proofs.Common.{◌≡◌, List, Vec, Global, sym, ap, ◌∙◌}
use Rattle.std.proofs.Common.{rules, w32, to_z, of_z}
use Rattle.std.proofs.lemmas.Int.{to_z-of_z}
use Rattle.interpreter_steps.specs.Running.{view_run, view_flow, program_of}
use Rattle.tp_meaning.specs.Activations.{Activation}
use Rattle.interpreter_effects.specs.activations.Views.{view_activation}
use Rattle.interpreter_steps.specs.declared.interpreter_frames.frames.Frame.{Frame}
use Rattle.interpreter_steps.specs.interpreter_frames.Frames.{rest_of, frames_over, nothing_left}
use Rattle.interpreter_steps.proofs.interpreter_frames.Moves.{moves1, moves2, moves3}
use Rattle.interpreter.proofs.machine.Machine.give_flow.Goals as goal

pub returns-in-Block : goal.returns-in-Block
returns-in-Block c =
    let p = program_of c.args.self.now.steps in
    let s = view_run c.args.run.now in
    let w = c.args.work.now in
    rw c.in-Block.is (c.follow_statement.ensures p s)

pub returns-in-While : goal.returns-in-While
returns-in-While c =
    let p = program_of c.args.self.now.steps in
    let s = view_run c.args.run.now in
    let w = c.args.work.now in
    rw c.in-While.is (c.follow_while.ensures p s)

pub returns-in-Repeat : goal.returns-in-Repeat
returns-in-Repeat c =
    let p = program_of c.args.self.now.steps in
    let s = view_run c.args.run.now in
    let w = c.args.work.now in
    rw c.in-Repeat.is (c.follow_repeat.ensures p s)

pub returns-in-Turn : goal.returns-in-Turn
returns-in-Turn c =
    let p = program_of c.args.self.now.steps in
    let s = view_run c.args.run.now in
    let w = c.args.work.now in
    let last : to_z w32 (of_z w32 c.in-Turn.last) ≡ c.in-Turn.last = search rules in
    rw c.in-Turn.is (rw last at c.follow_for.ensures)

pub returns-in-Return : goal.returns-in-Return
returns-in-Return c =
    let p = program_of c.args.self.now.steps in
    let s = view_run c.args.run.now in
    let w = c.args.work.now in
    rw c.in-Return.is (c.return_from.ensures)

pub returns-in-With : goal.returns-in-With
returns-in-With c =
    let p = program_of c.args.self.now.steps in
    let old = c.args.work.now in
    let new = c.release.new.self in
    rw c.in-With.is (
    ap (λ (f : Activation). (rest_of p old).flow (view_flow c.args.flow) f (view_run c.args.run.now)) (sym c.release.ensures.activation)
    ∙ ap (λ (frames : List Frame). (frames_over p nothing_left frames).flow (view_flow c.args.flow) (view_activation new.f) (view_run c.args.run.now)) (sym (ap (λ (frames : Vec Frame Global). frames.items) c.release.ensures.frames)))
