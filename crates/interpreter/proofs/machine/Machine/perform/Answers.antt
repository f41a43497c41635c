use Rattle.std.proofs.Common.{List, sym, subst}
use Rattle.typed_tree.specs.Expressions.{view_args}
use Rattle.tp_meaning.specs.Trees.{Value}
use Rattle.tp_meaning.specs.Outcomes.{Does, and_then}
use Rattle.tp_meaning.specs.Standard.{Operand}
use Rattle.tp_meaning.specs.Expressions.{operands}
use Rattle.tp_meaning.specs.Meaning.{run}
use Rattle.interpreter_effects.specs.activations.Views.{view_activation}
use Rattle.interpreter_steps.specs.Running.{view_run, program_of}
use Rattle.interpreter_steps.specs.interpreter_frames.Frames.{rest_of}
use Rattle.interpreter_steps.specs.declared.interpreter_frames.callable.Callable.TheVariants as callable
use Rattle.interpreter_steps.specs.Places.{performed}
use Rattle.interpreter_steps.specs.interpreter_frames.Frames.{Goes}
use Rattle.interpreter_steps.proofs.interpreter_frames.Moves.{moves1}
use Rattle.interpreter.proofs.Binds.{two_binds}
use Rattle.interpreter.proofs.SpentCalls.{argued_alone}
use Rattle.interpreter.proofs.machine.Machine.perform.Goals as goal

pub returns-in-Some : goal.returns-in-Some
returns-in-Some c =
    let p = program_of c.args.self.now.steps in
    let s = view_run c.args.run.now in
    let f = view_activation c.args.work.now.f in
    let k : Value → Does Value = λ v. (rest_of p c.args.work.now).value v f in
    let args = view_args c.args.args.now in
    let other : Does Value = λ t. and_then (operands p (run p) f args t) (λ xs. performed p f c.args.ty c.args.number xs) in
    subst (λ (go : Does Value). Goes p c.locate.result c.locate.new.self s (and_then (go s) k)) (sym (c.in-Some.ensures p (run p) f other)) (rw two_binds (c.locate.ensures p s))

pub returns-in-None : goal.returns-in-None
returns-in-None c =
    let p = program_of c.args.self.now.steps in
    let s = view_run c.args.run.now in
    let t = view_run c.argue.new.run in
    let f = view_activation c.args.work.now.f in
    let k : Value → Does Value = λ v. (rest_of p c.args.work.now).value v f in
    let args = view_args c.args.args.now in
    let performs : List Operand → Does Value = λ xs. performed p f c.args.ty c.args.number xs in
    let other : Does Value = λ u. and_then (operands p (run p) f args u) performs in
    subst (λ (go : Does Value). Goes p c.argue.result c.argue.new.work t (and_then (go s) k)) (sym (c.in-None.ensures p (run p) f other))
    (moves1 p c.argue.result c.argue.new.work t (operands p (run p) f args s) performs k
    (argued_alone p c.argue.result c.argue.new.work t s (rest_of p c.args.work.now) (callable.Standard c.args.ty c.args.number) c.new.result.items f (operands p (run p) f args) c.new.ensures.items c.argue.ensures))
