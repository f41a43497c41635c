-- What a table gives at ids that it doesn't have.
use Rattle.std.proofs.Common.{◌≡◌, ◌≤◌, List, length, None, Result, Ok, Err, ap, arith}
use Rattle.std.specs.Prelude.{OnErr}
use Rattle.std.proofs.lemmas.List.{get_or_past}
use Rattle.type_layout.specs.declared.definitions.TypeId.{TypeId}
use Rattle.type_layout.specs.declared.definitions.TypeDef.{TypeDef}
use Rattle.type_layout.specs.declared.layout.Layout.{Layout}
use Rattle.type_layout.specs.Layouts.{plain, layouts_of, layout_at, size_of}
use Rattle.type_layout.proofs.Given.{length-layouts_of}

pub size_past : (types : List TypeDef) (ty : TypeId) → length types ≤ ty.0 → size_of types ty ≡ 0
size_past types ty h = ap (λ (layout : Layout). layout.size) (get_or_past (layouts_of types) ty.0 (plain 0) (omega (arith, h, length-layouts_of types)))

pub class_past : (types : List TypeDef) (ty : TypeId) → length types ≤ ty.0 → (layout_at types ty).class_field ≡ None
class_past types ty h = ap (λ (layout : Layout). layout.class_field) (get_or_past (layouts_of types) ty.0 (plain 0) (omega (arith, h, length-layouts_of types)))

-- what holds, holds of an error
pub on_err : {A E P : Type 0} (found : Result A E) → P → OnErr found P
on_err (Ok x) p = tt
on_err (Err error) p = p
