use Rattle.std.proofs.Common.{◌≡◌, ◌∙◌, ap}
use Rattle.tp_check_decl.specs.routines.Trees.{plain, method, view_routine, view_declarations}
use Rattle.tp_check_decl.proofs.routines.Views.{view_plain, view_method}
use Rattle.checked_front_end.proofs.variables.+blocks.Goals as goal

pub has_few_inside-returns-in-Plain : goal.has_few_inside-returns-in-Plain
has_few_inside-returns-in-Plain t c =
    let one = c.in-Plain in
    let e : view_routine c.args.one.now ≡ plain one.header (view_declarations one.block.declarations.items) one.block.body = ap view_routine one.is ∙ view_plain one.header one.block in
    rw (e, ← c.as_slice.ensures.value) c.has_few.ensures

pub has_few_inside-returns-in-Method : goal.has_few_inside-returns-in-Method
has_few_inside-returns-in-Method t c =
    let one = c.in-Method in
    let e : view_routine c.args.one.now ≡ method one.header one.owner (view_declarations one.block.declarations.items) one.block.body = ap view_routine one.is ∙ view_method one.header one.owner one.block in
    rw (e, ← c.as_slice-in-Method.ensures.value) c.has_few-in-Method.ensures
