use Rattle.std.proofs.Common.{◌≡◌, drop}
use Rattle.declaration_checker.specs.declarations.Progress.{progress}
use Rattle.declaration_checker.specs.declarations.Constants.{constants_declared}
use Rattle.declaration_checker.proofs.declarations.constants.constants_declared.Given as goal

abbrev pub invariant-loop-one : goal.invariant-loop-one
invariant-loop-one l =
    (constants_declared l.unit (progress l.scope l.globals l.locals) (drop l.one-index l.all)).run
    ≡ (constants_declared l.unit (progress l.fn.scope l.fn.globals l.fn.locals) l.all).run
