-- What is shown of a unit's types is among these, and a program shows none.
use Rattle.std.proofs.Common.{◌≡◌, ◌∙◌, ℕ, zero, suc, ◌<◌, ◌≤◌, Bool, true, false, cond, List, [], length, Some, refl, sym, ap, subst, arith, inl, inr}
use Rattle.std.specs.Prelude.{All, slice_get}
use Rattle.std.proofs.lemmas.List.Elements.{All-nil}
use Rattle.interface_soundness.specs.type_layout.declared.definitions.TypeId.{TypeId}
use Rattle.interface_soundness.specs.type_layout.declared.definitions.TypeDef.{TypeDef}
use Rattle.interface_soundness.specs.type_layout.declared.definitions.Origin.{Origin}
use Rattle.interface_soundness.specs.type_layout.declared.layout.Layout.{Layout}
use Rattle.interface_soundness.specs.type_layout.Layouts.{layouts_of}
use Rattle.interface_soundness.specs.type_layout.Table.{Table, AllDefined, place_of}
use Rattle.interface_soundness.specs.typed_tree.declared.units.Unit as typed
use Rattle.interface_soundness.specs.typed_tree.declared.units.Item.{Item}
use Rattle.interface_soundness.specs.unit_interface.declared.keys.Key.{Key}
use Rattle.interface_soundness.specs.unit_interface.declared.interfaces.Interface.{Interface}
use Rattle.interface_soundness.specs.unit_interface.Merge.{key_of, keys_of, renumbered}
use Rattle.interface_soundness.specs.unit_interface.Exports.{is_in, ReachedWithin, new_ids, with_kept, kept, IsInterfaceOf}
use Rattle.interface_soundness.proofs.unit_interface_proofs.KeyLaws.{keys_with, key_at, key_place}
use Rattle.interface_soundness.specs.imported_types_agree.well_scoped.Scopes.{IsWellScopedInterface}
use Rattle.interface_soundness.specs.interfaces.Agreement.{IsPaired}
use Rattle.interface_soundness.proofs.interfaces.Growing.{adds}
use Rattle.interface_soundness.specs.imported_types_agree.consistent_types.Consistency.{Stands, IsConsistent, IsConsistentInterface}
use Rattle.interface_soundness.proofs.imported_types_agree_proofs.consistent_types.Kept.{with_own, kept_by}

abbrev nothing_there : Table
nothing_there = record { types = []; origins = []; units = [] }

no_key : (number : ℕ) (key : Key) → slice_get (keys_of nothing_there) number ≡ Some key → ⊥
no_key number key at = cc

-- ---- the keys

module _ (own : Table) (reached : List ℕ) (ids : List TypeId) (paired : length own.origins ≡ length own.types) where
  -- each key is one of the unit's table
  record IsFrom (table : Table) : Type 0 where
    pairs : IsPaired table
    from : (place : ℕ) (key : Key) → slice_get (keys_of table) place ≡ Some key → Stands (keys_of own) key

  none_from : IsFrom nothing_there
  none_from = record { pairs = record { paired = refl; known = All-nil (λ (o : Origin). o.unit < 0) }; from = λ place key at. absurd (no_key place key at) }

  one_from : (number : ℕ) (t : Table) (one : TypeDef) (origin : Origin) → is_in reached number ≡ true → slice_get own.types number ≡ Some one → slice_get own.origins number ≡ Some origin
      → IsFrom t → IsFrom (with_own ids own.units t one origin)
  one_from number t one origin met stands at h =
      let key : Key = key_of own.units origin in
      let made : TypeDef = renumbered ids (place_of t.units key.unit) one in
      let all = keys_with t key.unit origin.number made h.pairs.known in
      record {
        pairs = (adds t key.unit origin.number made).pairs h.pairs;
        from = λ place other there. elim (key_place (keys_of t) key place other (ap (λ (ks : List Key). slice_get ks place) (sym all) ∙ there)) [
          | inl old ↦ h.from place other old
          | inr last ↦ record { place = number; at = key_at own number origin at ∙ ap (λ (k : Key). Some k) last.1 }
        ];
      }

  all_from : IsFrom (kept own reached ids (length own.types))
  all_from = kept_by own reached ids (λ count t. IsFrom t) paired none_from one_from (λ number t out h. h) (length own.types) (omega arith)

-- each type that is shown is one of the unit's table
pub shown_from : (unit : typed.Unit) (i : Interface) → IsInterfaceOf unit i → length unit.types.origins ≡ length unit.types.types → (number : ℕ) (key : Key) → slice_get (keys_of i.types) number ≡ Some key
    → Stands (keys_of unit.types) key
shown_from unit i shows paired number key at =
    let ids = new_ids shows.reached (length unit.types.types) in
    let same : i.types ≡ kept unit.types shows.reached ids (length unit.types.types) = ap (λ (one : Interface). one.types) shows.is in
    (all_from unit.types shows.reached ids paired).from number key (ap (λ (t : Table). slice_get (keys_of t) number) (sym same) ∙ at)

-- ---- nothing is shown without items

nothing_reached : (types : List TypeDef) (steps number : ℕ) → ReachedWithin steps types [] number → ⊥
nothing_reached types zero number h = let bad : false ≡ true = h.0 in cc
nothing_reached types (suc steps) number h = nothing_reached types steps h.0 h.1

nothing_kept : (own : Table) (reached : List ℕ) (ids : List TypeId) (count : ℕ) → ((number : ℕ) → number < count → is_in reached number ≡ false) → kept own reached ids count ≡ nothing_there
nothing_kept own reached ids zero none = refl
nothing_kept own reached ids (suc number) none =
    let table = kept own reached ids number in
    ap (λ (b : Bool). (let t : Table = cond b (with_kept own ids table number) table in t)) (none number (omega arith))
    ∙ nothing_kept own reached ids number (λ n low. none n (omega (arith, low)))

is_out : (b : Bool) → (b ≡ true → ⊥) → b ≡ false
is_out true none = absurd (none refl)
is_out false none = refl

nothing_shown : (unit : typed.Unit) (i : Interface) → IsInterfaceOf unit i → unit.items ≡ [] → i.types ≡ nothing_there
nothing_shown unit i shows none =
    let count = length unit.types.types in
    ap (λ (one : Interface). one.types) shows.is
    ∙ nothing_kept unit.types shows.reached (new_ids shows.reached count) count
    (λ number low. is_out (is_in shows.reached number) (λ met.
    let r = (shows.exactly number low).0 met in
    nothing_reached unit.types.types r.steps number (subst (λ (items : List Item). ReachedWithin r.steps unit.types.types items number) none r.within)))

nothing_told : (have : List Interface) → IsConsistent have nothing_there
nothing_told have = record {
  keyed = record { paired = refl; known = All-nil (λ (o : Origin). o.unit < 0); apart = λ one other key at there. absurd (no_key one key at) };
  alike = λ number place key home first one at stands is there f. absurd (no_key number key at);
  followed = λ number low high key stands at. absurd (no_key number key at);
  fronted = λ number place key home low high at is there f. absurd (no_key number _ at);
}

pub told_without : (have : List Interface) (unit : typed.Unit) (i : Interface) → IsInterfaceOf unit i → unit.items ≡ [] → IsWellScopedInterface i → IsConsistentInterface have i
told_without have unit i shows none closed =
    let is = nothing_shown unit i shows none in
    record {
      told = subst (λ (t : Table). IsConsistent have t) (sym is) (nothing_told have);
      at_home = λ number key at. absurd (no_key number key (ap (λ (t : Table). slice_get (keys_of t) number) (sym is) ∙ at));
      closed = closed;
      defined = subst (λ (t : Table). AllDefined [] t.types) (sym is) tt;
      fits = subst (λ (t : Table). All (λ (layout : Layout). layout.size ≤ 65520) (layouts_of t.types)) (sym is) (All-nil (λ (layout : Layout). layout.size ≤ 65520));
    }
