-- No type has two methods of one name.
use Rattle.std.proofs.Common.{◌≡◌, List, [], Option, Some, None, refl}
use Rattle.std.specs.List.{IsDistinct}
use Rattle.type_layout.specs.declared.definitions.TypeId.{TypeId}
use Rattle.type_layout.specs.declared.definitions.TypeDef.{TypeDef}
use Rattle.type_layout.specs.declared.definitions.TypeDef.TheVariants as type
use Rattle.typed_tree.specs.type_fits.Fits.{definition}
use Rattle.tp_check_decl.specs.call_rules.method_rules.Slots.{methods_of}
use Rattle.programs_well_typed.specs.programs.Below.{AreOnce, HasDeclaredMethods, HaveDeclaredMethods}

none_once : AreOnce []
unfolding IsDistinct
none_once = tt

one_once : (one : TypeDef) → HasDeclaredMethods one → AreOnce (methods_of (Some one))
one_once (type.ObjectOf parent dynamic fields methods) h = h.once
one_once (type.Ordinal host low high) h = none_once
one_once (type.Str max) h = none_once
one_once (type.SetOf base) h = none_once
one_once (type.ArrayOf index element) h = none_once
one_once (type.RecordOf fields) h = none_once
one_once (type.PointerTo target) h = none_once
one_once (type.Procedural header) h = none_once

pub all_once : (types : List TypeDef) → HaveDeclaredMethods types → (ty : TypeId) → AreOnce (methods_of (definition types ty))
all_once types all ty = by (definition types ty) refl
  where
    by : (o : Option TypeDef) → definition types ty ≡ o → AreOnce (methods_of o)
    by None found = none_once
    by (Some one) found = one_once one (all ty.0 one found)
