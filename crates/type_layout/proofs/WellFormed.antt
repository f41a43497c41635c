-- A table stays well formed as it grows.
use Rattle.std.proofs.Common.{◌≡◌, ℕ, ◌+◌, ◌<◌, ◌≤◌, ◌^◌, List, [], ◌∷◌, ◌++◌, length, Some, None, cond, refl, arith, sym, subst, append_assoc, length-append, append-nil}
use Rattle.std.specs.List.{All, position}
use Rattle.std.proofs.lemmas.List.Elements.{All-push, All-weaker}
use Rattle.std.proofs.lemmas.List.Quantifiers.{position-Some}
use Rattle.type_layout.specs.declared.definitions.TypeDef.{TypeDef}
use Rattle.type_layout.specs.declared.definitions.Origin.{Origin}
use Rattle.type_layout.specs.declared.layout.Layout.{Layout}
use Rattle.type_layout.specs.Words.{same_bytes}
use Rattle.type_layout.specs.Layouts.{layout_by, layouts_of, size_over}
use Rattle.type_layout.specs.Table.{Table, IsKept, IsAddable, IsDefinedOver, AllDefined, place_of, with_unit, with_type}
use Rattle.type_layout.proofs.Given.{layouts_of-push}

pub AllDefined-push : (before types : List TypeDef) (one : TypeDef) → AllDefined before types → IsDefinedOver (before ++ types) one
    → AllDefined before (types ++ one ∷ [])
AllDefined-push before [] one all defined =
    let same : before ++ [] ≡ before = append-nil before in
    (subst (λ (b : List TypeDef). IsDefinedOver b one) same defined, tt)
AllDefined-push before (first ∷ rest) one all defined =
    let same : before ++ first ∷ rest ≡ (before ++ first ∷ []) ++ rest = sym (append_assoc before (first ∷ []) rest) in
    (all.0, AllDefined-push (before ++ first ∷ []) rest one all.1 (subst (λ (b : List TypeDef). IsDefinedOver b one) same defined))

length-with_unit : (units : List (List ℕ)) (unit : List ℕ) → (length units ≤ length (with_unit units unit)) × (place_of units unit < length (with_unit units unit))
length-with_unit units unit =
    let found = position-Some (same_bytes unit) units in
    elim (position (same_bytes unit) units) as (λ o. ((i : ℕ) (d : List ℕ) → o ≡ Some i → (i < length units)) → (length units ≤ length (cond (Rattle.std.specs.Option.is_some o) units (units ++ unit ∷ []))) × (Rattle.std.specs.Option.unwrap_or o (length units) < length (cond (Rattle.std.specs.Option.is_some o) units (units ++ unit ∷ [])))) [
      | None ↦ λ _. (omega (arith, length-append units (unit ∷ [])), omega (arith, length-append units (unit ∷ [])))
      | Some i ↦ λ within. (omega arith, within i [] refl)
    ] (λ i d e. (found i d e).0)

pub with_type-kept : (table : Table) (layouts : List Layout) (origin : List ℕ) (number : ℕ) (one : TypeDef)
    → IsKept table layouts → IsAddable table origin one → size_over table.types one ≤ 65520
    → length table.types + 1 < 2 ^ 32 → length (with_unit table.units origin) < 2 ^ 32
    → IsKept (with_type table origin number one) (layouts ++ layout_by table.types (layouts_of table.types) one ∷ [])
with_type-kept table layouts origin number one kept addable small few few_units =
    let well = kept.well_formed in
    let units = length-with_unit table.units origin in
    record {
      well_formed = record {
        defined = AllDefined-push [] table.types one well.defined addable.defined;
        fits = rw layouts_of-push (All-push (λ (layout : Layout). layout.size ≤ 65520) (layouts_of table.types)
            (layout_by table.types (layouts_of table.types) one) well.fits small);
        origins = omega (arith, well.origins, length-append table.origins ((record { unit = place_of table.units origin; number = number }) ∷ []), length-append table.types (one ∷ []));
        known = All-push (λ (o : Origin). o.unit < length (with_unit table.units origin)) table.origins
            (record { unit = place_of table.units origin; number = number })
            (All-weaker (λ (o : Origin). o.unit < length table.units) (λ (o : Origin). o.unit < length (with_unit table.units origin))
            (λ o h. omega (arith, units.0)) table.origins well.known)
            units.1;
        few = omega (arith, length-append table.types (one ∷ []));
        few_units = few_units;
      };
      measured = rw (layouts_of-push, kept.measured) refl;
    }
