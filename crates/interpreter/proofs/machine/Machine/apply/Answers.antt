use Rattle.interpreter_steps.specs.Running.{view_run, program_of}
use Rattle.interpreter.proofs.machine.Machine.apply.Goals as goal

pub returns-in-Standard : goal.returns-in-Standard
returns-in-Standard c =
    rw c.in-Standard.is (c.gave_value.ensures (program_of c.args.self.now.steps) c.args.work.now (view_run c.standard_value.new.run) _ (rw c.as_slice.ensures.value at c.standard_value.ensures))
