use Rattle.std.proofs.Common.{drop}
use Rattle.std.specs.Prelude.{option_copied}
use Rattle.std.proofs.lemmas.Result.{err_from_is_err_and}
use Rattle.tp_check_decl.specs.routines.Trees.{view_declarations}
use Rattle.tp_check_decl.specs.routines.Drafts.{drafted, knowing}
use Rattle.tp_check_decl.specs.Interfaces.{items_of, interface_judged, unit_front, all_used, implemented}
use Rattle.tp_check_decl.proofs.UsedLaws.{fails_behind}
use Rattle.tp_check_decl.proofs.interfaces.unit_judged.Goals as goal

pub returns-in_err-all_used : goal.returns-in_err-all_used
returns-in_err-all_used c =
    let a = c.args in
    let p = err_from_is_err_and c.from_residual-in_err-all_used.result c.from_residual-in_err-all_used.ensures.1 in
    rw (p.1, p.2) (fails_behind (unit_front a.name.now a.says.now a.own.now a.uses.now) (interface_judged a.name.now a.scope.now a.interface.now)
    (λ d. all_used a.have.now d.scope (drop a.interface_uses a.uses.now)) (λ front d h. implemented a.name.now front (items_of d.scope) (view_declarations a.all.now) (option_copied a.body) (knowing d h))
    c.in_ok-front.front (drafted c.in_ok-scope.scope c.in_ok-scope.draft) c.in_err-all_used.field-0.0 c.in_ok-front.ensures c.in_ok-scope.ensures
    (rw (← c.units_behind-further.ensures) c.in_err-all_used.ensures))
