use Rattle.std.proofs.Common.{◌≡◌, drop}
use Rattle.declaration_checker.specs.declarations.Progress.{progress}
use Rattle.declaration_checker.specs.declarations.Variables.{names_declared}
use Rattle.declaration_checker.proofs.declarations.variables.names_declared.Given as goal

abbrev pub invariant-loop-one : goal.invariant-loop-one
invariant-loop-one l =
    (names_declared l.home l.ty (progress l.scope l.globals l.locals) (drop l.one-index l.names)).run
    ≡ (names_declared l.home l.ty (progress l.fn.scope l.fn.globals l.fn.locals) l.names).run
