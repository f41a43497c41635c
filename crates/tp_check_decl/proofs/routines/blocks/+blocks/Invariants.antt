use Rattle.std.proofs.Common.{◌≡◌, drop}
use Rattle.tp_check_decl.specs.routines.Trees.{view_declarations}
use Rattle.tp_check_decl.specs.routines.Drafts.{drafted, stage}
use Rattle.tp_check_decl.specs.routines.Blocks.{all_judged}
use Rattle.tp_check_decl.proofs.routines.blocks.+blocks.Given as goal

abbrev pub invariant-all_judged-loop-one : goal.invariant-all_judged-loop-one
invariant-all_judged-loop-one l =
    (all_judged l.unit l.site (stage (drafted l.scope l.draft) l.locals) (view_declarations (drop l.one-index l.all))).run
    ≡ (all_judged l.unit l.site (stage (drafted l.fn.scope l.fn.draft) l.fn.locals) (view_declarations l.all)).run
