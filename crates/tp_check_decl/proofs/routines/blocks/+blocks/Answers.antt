use Rattle.std.proofs.Common.{◌≡◌, ◌∙◌, ap}
use Rattle.tp_check_decl.specs.routines.Trees.{plain, method, view_routine, view_declarations}
use Rattle.tp_check_decl.proofs.routines.Views.{view_plain, view_method}
use Rattle.tp_check_decl.proofs.routines.blocks.+blocks.Goals as goal

pub judged-returns-in-Plain : goal.judged-returns-in-Plain
judged-returns-in-Plain t c =
    let one = c.in-Plain in
    let e : view_routine c.args.tree.now ≡ plain one.header (view_declarations one.block.declarations.items) one.block.body = ap view_routine one.is ∙ view_plain one.header one.block in
    rw e c.plain.ensures

pub judged-returns-in-Method : goal.judged-returns-in-Method
judged-returns-in-Method t c =
    let one = c.in-Method in
    let e : view_routine c.args.tree.now ≡ method one.header one.owner (view_declarations one.block.declarations.items) one.block.body = ap view_routine one.is ∙ view_method one.header one.owner one.block in
    rw e c.method.ensures
