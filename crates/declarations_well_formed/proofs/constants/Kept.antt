-- Constants stay constants as types follow.
use Rattle.std.proofs.Common.{◌≡◌, ◌+◌, true, List, ◌++◌, Option, Some, None, sym, subst, ap, ◌∙◌}
use Rattle.bodies_well_formed.specs.type_layout.declared.definitions.TypeId.{TypeId}
use Rattle.bodies_well_formed.specs.type_layout.declared.definitions.Host.TheVariants as host
use Rattle.bodies_well_formed.specs.type_layout.declared.definitions.TypeDef.{TypeDef}
use Rattle.bodies_well_formed.specs.type_layout.declared.definitions.TypeDef.TheVariants as type
use Rattle.bodies_well_formed.specs.typed_tree.declared.expressions.Value.{Value}
use Rattle.bodies_well_formed.specs.typed_tree.declared.expressions.Value.TheVariants as value
use Rattle.bodies_well_formed.specs.typed_tree.type_fits.Fits.{definition, IsSome, IsValue}
use Rattle.bodies_well_formed.specs.typing_rules.declared.sorts.SetBase.{SetBase}
use Rattle.bodies_well_formed.specs.typing_rules.declared.sorts.SetBase.TheVariants as over
use Rattle.bodies_well_formed.specs.typing_rules.Sorts.{is_enumeration}
use Rattle.bodies_well_formed.proofs.well_formed_proofs.weakening.Types.{more_kept, more_value, some_of}
use Rattle.declarations_well_formed.proofs.names.Adding.{set_kept}
use Rattle.declarations_well_formed.specs.constants.Whole.{IsEnumerated, IsHost, IsWholeSet, IsWholeOrdinal, IsWhole}
use Rattle.declarations_well_formed.specs.constants.Laws.{StayConstants}

enumeration_some : (one : Option TypeDef) → is_enumeration one ≡ true → IsSome one
enumeration_some (Some one) e = tt
enumeration_some None e = let bad : ⊥ = cc in absurd bad

module _ (types more : List TypeDef) where
  enumerated_more : (ty : TypeId) → IsEnumerated types ty → IsEnumerated (types ++ more) ty
  enumerated_more ty h =
      let same = more_kept types more ty (enumeration_some (definition types ty) h.is) in
      record { is = ap (λ (d : Option TypeDef). is_enumeration d) same ∙ h.is; set = set_kept types more ty h.set }

  host_more : (of : SetBase) (ty : TypeId) → IsHost types of ty → IsHost (types ++ more) of ty
  host_more (over.Enumeration ty) own h = (h.0, enumerated_more ty h.1)
  host_more over.Integers own h = h
  host_more over.Chars own h = h
  host_more over.Booleans own h = h
  host_more over.Any own h = h

  set_more : (ty : TypeId) → IsWholeSet types ty → IsWholeSet (types ++ more) ty
  set_more ty h = record {
    base = h.base;
    host = h.host;
    is = more_kept types more ty (some_of (definition types ty) (type.SetOf h.base) h.is) ∙ h.is;
    whole = host_more h.host h.base h.whole;
  }

  ordinal_over : (ty : TypeId) (one : Option TypeDef) → IsWholeOrdinal types ty one → IsWholeOrdinal (types ++ more) ty one
  ordinal_over ty (Some (type.Ordinal host.Enumeration low high)) h = set_kept types more ty h
  ordinal_over ty one h = tt

  pub value_there : (v : Value) (one : Option TypeDef) → IsValue types v one → IsSome one
  value_there v (Some one) h = tt
  value_there (value.Number n) None h = h
  value_there (value.Chars bytes) None h = h
  value_there value.Nil None h = h
  value_there (value.Elements bytes) None h = h

  whole_more : (ty : TypeId) (v : Value) → IsValue types v (definition types ty) → IsWhole types ty v → IsWhole (types ++ more) ty v
  whole_more ty (value.Number n) is h =
      let same = more_kept types more ty (value_there (value.Number n) (definition types ty) is) in
      subst (λ (d : Option TypeDef). IsWholeOrdinal (types ++ more) ty d) (sym same) (ordinal_over ty (definition types ty) h)
  whole_more ty (value.Elements bytes) is h = set_more ty h
  whole_more ty v is h = tt

pub constants_kept : StayConstants
constants_kept types more sound ty v h = record {
  value = more_value types more sound.defined v ty h.value;
  whole = whole_more types more ty v h.value h.whole;
}
