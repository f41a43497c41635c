use Rattle.std.proofs.Common.{◌≡◌, drop}
use Rattle.tp_check_decl.specs.routines.Drafts.{drafted, stage}
use Rattle.tp_check_decl.specs.Interfaces.{all_declared}
use Rattle.tp_check_decl.proofs.interfaces.all_declared.Given as goal

abbrev pub invariant-loop-one : goal.invariant-loop-one
invariant-loop-one l =
    (all_declared l.unit (stage (drafted l.scope l.draft) l.locals) (drop l.one-index l.all)).run
    ≡ (all_declared l.unit (stage (drafted l.fn.scope l.fn.draft) l.fn.locals) l.all).run
