use Rattle.std.proofs.Common.{sym, ap, ◌∙◌, arith}
use Rattle.std.specs.Option.{option_map}
use Rattle.interpreter_store.specs.cell_store.Views.{view_object}
use Rattle.interpreter_store.proofs.cell_store.Stores.{slot_within, slot_past}
use Rattle.interpreter_store.proofs.cell_store.objects.object_in.Goals as goal

pub returns-then-serial-slots : goal.returns-then-serial-slots
returns-then-serial-slots c =
    let slot = c.index-slots-serial in
    ap (option_map view_object) (c.as_ref.ensures.value ∙ slot.is) ∙ sym (slot_within c.args.slots.now c.args.serial slot.result (omega (arith, c.if-serial-slots.true)))

pub returns-else-serial-slots : goal.returns-else-serial-slots
returns-else-serial-slots c = sym (slot_past c.args.slots.now c.args.serial (omega (arith, c.if-serial-slots.false)))
