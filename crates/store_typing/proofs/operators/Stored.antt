-- How types are stored: which are ordinals, and which an operator on integers gives.
use Rattle.std.proofs.Common.{◌≡◌, false, Some, None, refl, sym, subst}
use Rattle.std.specs.Prelude.{Option}
use Rattle.tp_meaning.specs.type_layout.declared.definitions.Host.{Host}
use Rattle.tp_meaning.specs.type_layout.declared.definitions.Host.TheVariants as host
use Rattle.tp_meaning.specs.type_layout.declared.definitions.TypeDef.{TypeDef}
use Rattle.tp_meaning.specs.type_layout.declared.definitions.TypeDef.TheVariants as type
use Rattle.tp_meaning.specs.typed_tree.type_fits.Fits.{stored_as, family_of, IsSome, IsInteger, IsWide}
use Rattle.tp_meaning.specs.Operators.{is_boolean}

-- a type that operators on integers give
pub record Wide (o : Option TypeDef) : Type 0 where
  pub stored : Host
  pub is : stored_as o ≡ Some stored
  pub no_boolean : is_boolean stored ≡ false

wide_by : (o : Option TypeDef) (s : Option Host) → stored_as o ≡ s → IsWide s → Wide o
wide_by o (Some host.Integer) e is = record { stored = host.Integer; is = e; no_boolean = refl }
wide_by o (Some host.Word) e is = record { stored = host.Word; is = e; no_boolean = refl }
wide_by o (Some host.LongInt) e is = record { stored = host.LongInt; is = e; no_boolean = refl }
wide_by o s e is = absurd is

pub wide : (o : Option TypeDef) → IsWide (stored_as o) → Wide o
wide o is = wide_by o (stored_as o) refl is

pub some_stored : (s : Option Host) → IsSome s → (h : Host) × (s ≡ Some h)
some_stored (Some h) is = (h, refl)
some_stored None is = absurd is

stored_of_family : (o : Option TypeDef) → IsSome (family_of o) → IsSome (stored_as o)
stored_of_family (Some (type.Ordinal host low high)) is = tt
stored_of_family (Some (type.Str max)) is = is
stored_of_family (Some (type.SetOf base)) is = is
stored_of_family (Some (type.ArrayOf i e)) is = is
stored_of_family (Some (type.RecordOf fields)) is = is
stored_of_family (Some (type.PointerTo target)) is = is
stored_of_family (Some (type.ObjectOf p d fields methods)) is = is
stored_of_family (Some (type.Procedural header)) is = is
stored_of_family None is = is

pub ordinal_of_family : (o : Option TypeDef) → IsSome (family_of o) → (h : Host) × (stored_as o ≡ Some h)
ordinal_of_family o is = some_stored (stored_as o) (stored_of_family o is)

pub ordinal_if_integer : (o : Option TypeDef) → IsInteger o → (h : Host) × (stored_as o ≡ Some h)
ordinal_if_integer o is = ordinal_of_family o (subst IsSome (sym is) tt)
