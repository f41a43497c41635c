use Rattle.std.proofs.Common.{◌≡◌, ◌∙◌, ap, map, set, get_or, Some, arith}
use Rattle.tp_check_decl.specs.declared.routines.drafts.Slot.{Slot}
use Rattle.tp_check_decl.specs.routines.Drafts.{view_made, view_slot}
use Rattle.tp_check_decl.proofs.routines.Steps.{finish_at, finish_past}
use Rattle.tp_check_decl.proofs.routines.drafts.finish.Goals as goal

pub returns-then-place-len : goal.returns-then-place-len
returns-then-place-len c =
    let items = c.args.slots.now.items in
    ap (λ (s : Slot). map view_slot (set items c.args.number (record { first = s.first; made = Some c.args.made }))) c.index_mut.ensures.value
    ∙ finish_at items c.args.number c.args.made c.index_mut.result.now

pub returns-else-place-len : goal.returns-else-place-len
returns-else-place-len c = finish_past c.args.slots.now.items c.args.number c.args.made (omega (arith, c.if-place-len.false, c.len.ensures))
