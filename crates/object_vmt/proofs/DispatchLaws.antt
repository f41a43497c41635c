-- Each class answers its slots, and those of its ancestors at the same numbers.
use Rattle.std.proofs.Common.{◌≡◌, ℕ, ◌<◌, Bool, true, false, not, ◌&&◌, cond, List, [], ◌∷◌, ◌++◌, length, Some, get_or, sym, ap, ◌∙◌, subst}
use Rattle.std.specs.List.{slice_get, list_any}
use Rattle.type_layout.specs.declared.definitions.TypeId.{TypeId}
use Rattle.type_layout.specs.declared.definitions.Field.{Field}
use Rattle.type_layout.specs.declared.definitions.Method.{Method}
use Rattle.type_layout.specs.declared.definitions.TypeDef.{TypeDef}
use Rattle.type_layout.specs.declared.definitions.TypeDef.TheVariants.{ObjectOf}
use Rattle.type_layout.specs.Words.{same_bytes}
use Rattle.type_layout.specs.Table.{AllDefined}
use Rattle.type_layout.proofs.Given.{get_or-given_by-middle, get_or-given_by-front}
use Rattle.type_layout.proofs.Local.{within_if_object}
use Rattle.type_layout.proofs.Measured.{Round, round}
use Rattle.object_vmt.specs.Members.{Members, no_members, members_by, members_rule, members_of, members_in}
use Rattle.object_vmt.specs.Slots.{with_slot, slots_from, slots_of}
use Rattle.object_vmt.specs.Dispatch.{IsDispatch}
use Rattle.object_vmt.proofs.Lines.{stays_at}
use Rattle.object_vmt.proofs.SlotLaws.{slots_from-append, slot_is_declared}

stays_with : (slots : List (List ℕ)) (method : Method) (taken : Bool) (k : ℕ) (name : List ℕ) → slice_get slots k ≡ Some name
    → slice_get (cond taken (slots ++ method.name ∷ []) slots) k ≡ Some name
stays_with slots method true k name found = stays_at slots (method.name ∷ []) k name found
stays_with slots method false k name found = found

slot_stays : (slots : List (List ℕ)) (methods : List Method) (k : ℕ) (name : List ℕ) → slice_get slots k ≡ Some name
    → slice_get (slots_from slots methods) k ≡ Some name
slot_stays slots [] k name found = found
slot_stays slots (method ∷ methods) k name found =
    slot_stays (with_slot slots method) methods k name
    (stays_with slots method (method.is_virtual && not (list_any (same_bytes method.name) slots)) k name found)

-- methods that are declared below keep each slot
slot_kept : (methods more : List Method) (k : ℕ) (name : List ℕ) → slice_get (slots_of methods) k ≡ Some name
    → slice_get (slots_of (methods ++ more)) k ≡ Some name
slot_kept methods more k name found =
    subst (λ (s : List (List ℕ)). slice_get s k ≡ Some name) (sym (slots_from-append [] methods more)) (slot_stays (slots_of methods) more k name found)

-- the members of an object type with an ancestor, over the whole table
members_with : (types : List TypeDef) (class parent : TypeId) (dynamic : Bool) (fields : List Field) (methods : List Method)
    → Round types class.0 (ObjectOf (Some parent) dynamic fields methods)
    → members_in (members_of types) class ≡ members_by (members_of types) (ObjectOf (Some parent) dynamic fields methods)
members_with types class parent dynamic fields methods r =
    let one : TypeDef = ObjectOf (Some parent) dynamic fields methods in
    let within : parent.0 < length r.front = within_if_object r.front parent.0 r.defined.0 in
    let above : members_in (members_of (r.front ++ one ∷ r.back)) parent ≡ members_in (members_of r.front) parent =
    get_or-given_by-front members_rule r.front (one ∷ r.back) parent.0 no_members within in
    let here : get_or (members_of (r.front ++ one ∷ r.back)) (length r.front) no_members ≡ members_by (members_of r.front) one =
    get_or-given_by-middle members_rule r.front one r.back no_members in
    rw (r.is, ← r.at) (here ∙ ap (λ (m : Members). record { fields = m.fields ++ fields; methods = m.methods ++ methods }) (sym above))

pub is_dispatch : (types : List TypeDef) → AllDefined [] types → IsDispatch types
is_dispatch types defined = record {
  answered = λ class slot name found.
      let d = slot_is_declared (members_in (members_of types) class).methods name slot found in
      (d.method, d.is);
  kept = λ class parent dynamic fields methods slot name is found.
      let r = round types class.0 (ObjectOf (Some parent) dynamic fields methods) defined is in
      subst (λ (m : Members). slice_get (slots_of m.methods) slot ≡ Some name) (sym (members_with types class parent dynamic fields methods r))
      (slot_kept (members_in (members_of types) parent).methods methods slot name found);
}
