use Rattle.std.proofs.Common.{◌≡◌, drop}
use Rattle.declaration_checker.specs.declarations.Progress.{progress}
use Rattle.declaration_checker.specs.declarations.Variables.{variables_declared}
use Rattle.declaration_checker.proofs.declarations.variables.variables_declared.Given as goal

abbrev pub invariant-loop-one : goal.invariant-loop-one
invariant-loop-one l =
    (variables_declared l.unit l.home (progress l.scope l.globals l.locals) (drop l.one-index l.all)).run
    ≡ (variables_declared l.unit l.home (progress l.fn.scope l.fn.globals l.fn.locals) l.all).run
