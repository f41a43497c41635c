-- What types and classes give that a table doesn't have, and the routine of a slot.
use Rattle.std.proofs.Common.{◌≡◌, ℕ, ◌≤◌, List, length, Option, Some, None, refl, ap, arith}
use Rattle.std.specs.Prelude.{option_and_then}
use Rattle.std.specs.Option.{option_map, option_map_or}
use Rattle.std.proofs.lemmas.List.{get_or_past}
use Rattle.std.proofs.lemmas.Option.{slice_get_past}
use Rattle.type_layout.specs.declared.definitions.TypeId.{TypeId}
use Rattle.type_layout.specs.declared.definitions.TypeDef.{TypeDef}
use Rattle.type_layout.specs.declared.definitions.RoutineId.{RoutineId}
use Rattle.type_layout.specs.declared.definitions.Method.{Method}
use Rattle.type_layout.specs.declared.layout.Layout.{Layout}
use Rattle.type_layout.specs.Layouts.{plain, layouts_of, size_of}
use Rattle.type_layout.specs.Table.{Table}
use Rattle.type_layout.proofs.Given.{length-layouts_of}
use Rattle.object_vmt.specs.Members.{Members, no_members, members_in, nearest}
use Rattle.object_vmt.specs.Slots.{slots_of, method_at}
use Rattle.tp_meaning.specs.Programs.{class_by, class_key, method_key}
use Rattle.interpreter_effects.specs.program_names.Keys.{key_at}

pub size_past : (types : List TypeDef) (ty : TypeId) → length types ≤ ty.0 → size_of types ty ≡ 0
size_past types ty h = ap (λ (layout : Layout). layout.size) (get_or_past (layouts_of types) ty.0 (plain 0) (omega (arith, h, length-layouts_of types)))

pub class_past : (table : Table) (ty : TypeId) → length table.origins ≡ length table.types → length table.types ≤ ty.0 → class_key (record { table = table; ty = ty }) ≡ None
class_past table ty e h = ap (option_and_then (class_by table)) (slice_get_past table.origins ty.0 (omega (arith, e, h)))

pub no_class : (classes : List Members) (ty : TypeId) (slot : ℕ) → length classes ≤ ty.0 → method_at (members_in classes ty) slot ≡ None
no_class classes ty slot h = ap (λ (members : Members). method_at members slot) (get_or_past classes ty.0 no_members h)

pub no_slot : (members : Members) (slot : ℕ) → length (slots_of members.methods) ≤ slot → method_at members slot ≡ None
no_slot members slot h = ap (option_and_then (nearest members.methods)) (slice_get_past (slots_of members.methods) slot h)

pub method_found : (found : Option Method) (routine : RoutineId) → option_map_or (λ (method : Method). Some method.routine) found None ≡ Some routine
    → option_map (λ (method : Method). method.routine) found ≡ Some routine
method_found None routine e = absurd cc
method_found (Some method) routine e = e

pub method_through : (table : Table) (found : Option Method)
    → option_and_then (method_key table) found ≡ option_and_then (key_at table) (option_map (λ (method : Method). method.routine) found)
method_through table None = refl
method_through table (Some method) = refl
