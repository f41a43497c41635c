use Rattle.std.proofs.Common.{◌≡◌, ◌<◌, length, Some, None, ap, sym, subst, arith}
use Rattle.object_vmt.specs.Members.{Members, nearest}
use Rattle.object_vmt.specs.Slots.{slots_of, method_at}
use Rattle.object_vmt.proofs.SlotLaws.{slot_is_declared, found_slot, method_at_found}
use Rattle.object_vmt.proofs.class.Class.method_at.Goals as goal

pub unreachable-requires : goal.unreachable-requires
unreachable-requires c =
    let methods = c.self.inside.methods in
    let name = c.index-as_slice-slot.result in
    let within : c.args.slot < length (slots_of methods) = omega (arith, c.requires, ap (λ (m : Members). length (slots_of m.methods)) c.self.view_is) in
    let found = found_slot methods c.self.inside.slots c.as_slice.result.now c.args.slot name c.self.invariant c.as_slice.ensures within c.index-as_slice-slot.is in
    let d = slot_is_declared methods name c.args.slot found in
    let declared : nearest methods name ≡ Some d.method = d.is in
    let none : None ≡ nearest methods name = rw c.as_slice-2.ensures at c.in-None.ensures in
    cc

pub returns : goal.returns
returns c =
    let methods = c.self.inside.methods in
    let members : Members = record { fields = c.self.inside.fields; methods = methods } in
    let name = c.index-as_slice-slot.result in
    let within : c.args.slot < length (slots_of methods) = omega (arith, c.requires, ap (λ (m : Members). length (slots_of m.methods)) c.self.view_is) in
    let found = found_slot methods c.self.inside.slots c.as_slice.result.now c.args.slot name c.self.invariant c.as_slice.ensures within c.index-as_slice-slot.is in
    let is : nearest methods name ≡ Some c.in-Some.method.now = sym (rw c.as_slice-2.ensures at c.in-Some.ensures) in
    subst (λ (m : Members). method_at m c.args.slot ≡ Some c.in-Some.method.now) c.self.view_is (method_at_found members c.args.slot name c.in-Some.method.now found is)
