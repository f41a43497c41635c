-- The slots of a line behind those of its ancestors.
use Rattle.std.proofs.Common.{◌≡◌, ℕ, suc, List, [], ◌++◌, Some, sym}
use Rattle.type_layout.specs.declared.definitions.TypeId.{TypeId}
use Rattle.type_layout.specs.declared.definitions.Method.{Method}
use Rattle.type_layout.specs.declared.definitions.TypeDef.{TypeDef}
use Rattle.typed_tree.specs.type_fits.Fits.{definition, parent_of}
use Rattle.object_vmt.specs.Slots.{slots_from, slots_of}
use Rattle.object_vmt.proofs.SlotLaws.{slots_from-append}
use Rattle.call_rules.specs.method_rules.Slots.{methods_of, methods_within}

line_slots : (above own : List Method) → slots_of (above ++ own) ≡ slots_from (slots_of above) own
line_slots above own = slots_from-append [] above own

-- the slots of a class, behind those of its ancestor's line
pub next_slots : (types : List TypeDef) (room below : ℕ) (class : TypeId) (above : List (List ℕ)) → room ≡ suc below
    → above ≡ slots_of (methods_within below types (parent_of (definition types class)))
    → slots_from above (methods_of (definition types class)) ≡ slots_of (methods_within room types (Some class))
next_slots types room below class above p e =
    rw (p, e) (sym (line_slots (methods_within below types (parent_of (definition types class))) (methods_of (definition types class))))
