-- A type that the table doesn't have has no size and no class field.
use Rattle.std.proofs.Common.{◌≡◌, ◌≤◌, false, List, length, ap, arith}
use Rattle.std.proofs.lemmas.List.{get_or_past}
use Rattle.type_layout.specs.declared.definitions.TypeId.{TypeId}
use Rattle.type_layout.specs.declared.definitions.TypeDef.{TypeDef}
use Rattle.type_layout.specs.declared.layout.Layout.{Layout}
use Rattle.type_layout.specs.Layouts.{plain, layouts_of, layout_at, size_of}
use Rattle.type_layout.proofs.Given.{length-layouts_of}
use Rattle.call_rules.specs.standard_rules.Sizes.{is_there, has_class}

module _ (types : List TypeDef) (ty : TypeId) (past : length types ≤ ty.0) where
  no_layout : layout_at types ty ≡ plain 0
  no_layout = get_or_past (layouts_of types) ty.0 (plain 0) (omega (arith, past, length-layouts_of types))

  pub no_size : size_of types ty ≡ 0
  no_size = ap (λ (l : Layout). l.size) no_layout

  pub no_class : has_class types ty ≡ false
  no_class = ap (λ (l : Layout). is_there l.class_field) no_layout
