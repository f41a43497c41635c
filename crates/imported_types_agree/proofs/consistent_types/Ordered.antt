-- The types of an interface stand behind their parts, and are not too large, where those of the unit's table do and are not.
use Rattle.std.proofs.Common.{◌≡◌, ◌∙◌, ℕ, suc, ◌<◌, ◌≤◌, true, false, All, List, [], ◌∷◌, length, Some, get_or, refl, arith, sym, ap, subst, inl, inr, length-append}
use Rattle.std.specs.Prelude.{slice_get}
use Rattle.std.proofs.lemmas.List.Elements.{All-push, All-get_or}
use Rattle.std.proofs.lemmas.Option.{slice_get_within}
use Rattle.tables_closed.specs.type_layout.declared.definitions.TypeId.{TypeId}
use Rattle.tables_closed.specs.type_layout.declared.definitions.Origin.{Origin}
use Rattle.tables_closed.specs.type_layout.declared.definitions.TypeDef.{TypeDef}
use Rattle.tables_closed.specs.type_layout.declared.layout.Layout.{Layout}
use Rattle.tables_closed.specs.type_layout.Layouts.{plain, layout_by, layouts_of, layout_at}
use Rattle.tables_closed.specs.type_layout.Table.{Table, AllDefined, place_of}
use Rattle.tables_closed.proofs.type_layout_proofs.Given.{length-layouts_of, layouts_of-push}
use Rattle.tables_closed.proofs.type_layout_proofs.Measured.{round, is_measured}
use Rattle.tables_closed.proofs.type_layout_proofs.WellFormed.{AllDefined-push}
use Rattle.tables_closed.specs.typed_tree.declared.units.Unit as typed
use Rattle.tables_closed.specs.unit_interface.declared.interfaces.Interface.{Interface}
use Rattle.tables_closed.specs.unit_interface.Merge.{key_of, renumbered}
use Rattle.tables_closed.specs.unit_interface.Exports.{in_type, behind, goes_with, is_in, kept_before, new_ids, kept, IsInterfaceOf}
use Rattle.tables_closed.proofs.unit_interface_proofs.OrderLaws.{in_left}
use Rattle.tables_closed.proofs.unit_interface_proofs.ReachLaws.{goes_along}
use Rattle.tables_closed.proofs.unit_interface_proofs.FittingLaws.{IsSame, IsFitting, fitting}
use Rattle.tables_closed.proofs.unit_interface_proofs.KeptLaws.{below_or_last, get_or-new_ids, same-longer, same-last}
use Rattle.imported_types_agree.proofs.consistent_types.Kept.{with_own, kept_by, next_kept, past_kept}
use Rattle.imported_types_agree.proofs.consistent_types.Shown.{goes_shown}

abbrev IsSmall : Layout → Type 0
IsSmall layout = layout.size ≤ 65520

module _ (own : Table) (reached : List ℕ) (paired : length own.origins ≡ length own.types) (defined : AllDefined [] own.types) (small : All IsSmall (layouts_of own.types))
    (goes : (number to : ℕ) (one : TypeDef) → is_in reached number ≡ true → slice_get own.types number ≡ Some one → is_in (goes_with own.types number (Some one)) to ≡ true
    → to < length own.types → is_in reached to ≡ true) where
  abbrev ids : List TypeId
  ids = new_ids reached (length own.types)

  -- the types that are kept are the same under their new ids
  record IsKeptSame (count : ℕ) (t : Table) : Type 0 where
    counted : length t.types ≡ kept_before reached count
    same : (id : TypeId) → id.0 < count → is_in reached id.0 ≡ true → IsSame own.types t.types ids id
    ordered : AllDefined [] t.types
    sized : All IsSmall (layouts_of t.types)

  fits : (number : ℕ) (t : Table) (one : TypeDef) → is_in reached number ≡ true → slice_get own.types number ≡ Some one → IsKeptSame number t → IsFitting own.types t.types ids one
  fits number t one met at h =
      let within = slice_get_within own.types number one at in
      fitting own.types t.types ids number one (round own.types number one defined at)
      (λ id low named. h.same id low
      (goes number id.0 one met at (goes_along own.types number id.0 (Some one) (in_left id.0 (in_type one) (behind number one) named)) (omega (arith, low, within))))

  more : (number : ℕ) (t : Table) (one : TypeDef) (origin : Origin) → is_in reached number ≡ true → slice_get own.types number ≡ Some one → slice_get own.origins number ≡ Some origin
      → IsKeptSame number t → IsKeptSame (suc number) (with_own ids own.units t one origin)
  more number t one origin met at from h =
      let unit : ℕ = place_of t.units (key_of own.units origin).unit in
      let made : TypeDef = renumbered ids unit one in
      let within = slice_get_within own.types number one at in
      let f = fits number t one met at h in
      let next = next_kept reached number met in
      let self : TypeId = record { 0 = number } in
      let laid : layout_by t.types (layouts_of t.types) made ≡ layout_at own.types self = f.layout unit ∙ sym ((is_measured own.types defined).layouts self one at) in
      let low : IsSmall (layout_at own.types self) = All-get_or IsSmall (layouts_of own.types) number (plain 0) (omega (arith, within, length-layouts_of own.types)) small in
      record {
        counted = omega (arith, h.counted, next, length-append t.types (made ∷ []));
        same = λ id below met_id. elim (below_or_last id.0 number below) [
          | inl before ↦ same-longer own.types t.types ids id made (h.same id before met_id)
          | inr last ↦
              let stands : slice_get own.types id.0 ≡ Some one = ap (slice_get own.types) last ∙ at in
              same-last own.types t.types ids id unit one stands
              (ap (λ (k : ℕ). (get_or ids k id).0) last ∙ get_or-new_ids reached (length own.types) number id within ∙ sym h.counted)
              (f.layout unit ∙ sym ((is_measured own.types defined).layouts id one stands))
        ];
        ordered = AllDefined-push [] t.types made h.ordered (f.defined unit);
        sized = rw layouts_of-push (All-push IsSmall (layouts_of t.types) (layout_by t.types (layouts_of t.types) made) h.sized (subst IsSmall (sym laid) low));
      }

  past : (number : ℕ) (t : Table) → is_in reached number ≡ false → IsKeptSame number t → IsKeptSame (suc number) t
  past number t out h = record {
    counted = (let none = past_kept reached number out in omega (arith, h.counted, none));
    same = λ id below met. elim (below_or_last id.0 number below) [
      | inl before ↦ h.same id before met
      | inr last ↦ (let here : is_in reached number ≡ true = ap (is_in reached) (sym last) ∙ met in absurd (cc))
    ];
    ordered = h.ordered;
    sized = h.sized;
  }

  none_kept : IsKeptSame 0 (record { types = []; origins = []; units = [] })
  none_kept = record { counted = refl; same = λ id low met. absurd (omega (arith, low)); ordered = tt; sized = λ k d low. absurd (omega (arith, low)) }

  all_same : IsKeptSame (length own.types) (kept own reached ids (length own.types))
  all_same = kept_by own reached ids IsKeptSame paired none_kept more past (length own.types) (omega arith)

  pub kept_defined : AllDefined [] (kept own reached ids (length own.types)).types
  kept_defined = all_same.ordered

  pub kept_small : All IsSmall (layouts_of (kept own reached ids (length own.types)).types)
  kept_small = all_same.sized

-- so are those of an interface
module _ (unit : typed.Unit) (i : Interface) (shows : IsInterfaceOf unit i) (paired : length unit.types.origins ≡ length unit.types.types) (defined : AllDefined [] unit.types.types)
    (small : All (λ (layout : Layout). layout.size ≤ 65520) (layouts_of unit.types.types)) where
  types_are : i.types ≡ kept unit.types shows.reached (new_ids shows.reached (length unit.types.types)) (length unit.types.types)
  types_are = ap (λ (one : Interface). one.types) shows.is

  pub shown_defined : AllDefined [] i.types.types
  shown_defined = subst (λ (t : Table). AllDefined [] t.types) (sym types_are) (kept_defined unit.types shows.reached paired defined small (goes_shown unit i shows))

  pub shown_small : All (λ (layout : Layout). layout.size ≤ 65520) (layouts_of i.types.types)
  shown_small = subst (λ (t : Table). All (λ (layout : Layout). layout.size ≤ 65520) (layouts_of t.types)) (sym types_are)
      (kept_small unit.types shows.reached paired defined small (goes_shown unit i shows))
