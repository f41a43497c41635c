-- Conversions are typed.
use Rattle.std.proofs.Common.{◌≡◌, inl, Bool, true, false, cond, List, [], ◌∷◌, Option, Some, refl, sym, subst, ap}
use Rattle.well_formed.specs.type_layout.declared.definitions.TypeId.{TypeId}
use Rattle.well_formed.specs.type_layout.declared.definitions.Host.{Host}
use Rattle.well_formed.specs.type_layout.declared.definitions.Host.TheVariants as host
use Rattle.well_formed.specs.type_layout.declared.definitions.TypeDef.{TypeDef}
use Rattle.well_formed.specs.type_layout.declared.definitions.TypeDef.TheVariants as type
use Rattle.well_formed.specs.type_layout.declared.texts.Place.{Place}
use Rattle.well_formed.specs.type_layout.Storage.{storage_of}
use Rattle.well_formed.specs.typed_tree.Expressions.{Expression, Convert}
use Rattle.well_formed.specs.typed_tree.type_fits.Fits.{definition, stored_as, IsSome}
use Rattle.well_formed.specs.Scopes.{Scope}
use Rattle.well_formed.specs.Typed.{IsTyped}
use Rattle.well_formed.specs.typed_tree.type_fits.Standard.{sort_of}
use Rattle.call_rules.specs.typing_rules.declared.sorts.Sort.{Sort}
use Rattle.call_rules.specs.typing_rules.declared.sorts.Sort.TheVariants as sort
use Rattle.call_rules.specs.typing_rules.Judgements.{Meets}
use Rattle.call_rules.specs.typing_rules.Sorts as sorts
use Rattle.call_rules.specs.typing_rules.Wanted.{predefined}
use Rattle.call_rules.specs.Casts.{IsOrdinal, is_pointer, cast_one, cast}
use Rattle.rules_well_formed.specs.nodes.Tables.{IsSound}
use Rattle.rules_well_formed.specs.nodes.Laws.{IsOperand}
use Rattle.rules_well_formed.proofs.nodes.Ordinals.{IsStoredAs, predefined_stored}
use Rattle.rules_well_formed.proofs.nodes.Sorted.{Shows, shows}
use Rattle.rules_well_formed.proofs.nodes.Wanting.{some_of}
use Rattle.rules_well_formed.proofs.nodes.Combined.{IsNone, not_nil}
use Rattle.rules_well_formed.specs.calls.Laws.{AreOperands}

pub ordinal_some : (x : Sort) → IsOrdinal x → IsNone x
ordinal_some (sort.Integer r) h = tt
ordinal_some sort.Boolean h = tt
ordinal_some sort.Char h = tt
ordinal_some (sort.Enumeration ty) h = tt
ordinal_some x h = absurd h

pub ordinal_stored : (types : List TypeDef) (x : Sort) (one : Option TypeDef) → IsOrdinal x → Shows types x one → IsSome (stored_as one)
ordinal_stored types (sort.Integer r) one k h = h.1
ordinal_stored types sort.Boolean one k h = some_of (stored_as one) host.Boolean h
ordinal_stored types sort.Char one k h = some_of (stored_as one) host.Char h
ordinal_stored types (sort.Enumeration ty) one k h = some_of (stored_as one) host.Enumeration h.0
ordinal_stored types x one k h = absurd k

module _ (s : Scope) (sound : IsSound s.types) (place : Place) (ty : TypeId) (a : Expression) (oa : IsOperand s a) where
  converted : (w : Host) → IsStoredAs s.types ty w → IsOrdinal (sorts.sort_of s.types a) → IsTyped s (Convert (predefined w ty) a)
  converted w at k =
      let typed = not_nil s a (ordinal_some (sorts.sort_of s.types a) k) oa in
      let to = predefined_stored s.types sound w ty at in
      (typed, inl (some_of (stored_as (definition s.types (predefined w ty))) w to, ordinal_stored s.types (sorts.sort_of s.types a) (sort_of s.types a) k (shows s a typed)))

  by_pointer : (w : Host) → IsStoredAs s.types ty w → (e : Expression) → (b : Bool) → cond b ⊥ (Meets (IsOrdinal (sorts.sort_of s.types a)) (Convert (predefined w ty) a) e) → IsTyped s e
  by_pointer w at e true h = absurd h
  by_pointer w at e false h = subst (λ (x : Expression). IsTyped s x) (sym h.made) (converted w at h.asked)

  by_type : (o : Option TypeDef) → definition s.types ty ≡ o → (e : Expression) → (cast_one place ty o (sorts.sort_of s.types a) a).holds e → IsTyped s e
  by_type (Some (type.Ordinal base low high)) is e h =
      by_pointer (storage_of base low high) (ap (λ (o : Option TypeDef). stored_as o) is) e (is_pointer (sorts.sort_of s.types a)) h
  by_type (Some (type.PointerTo target)) is e h = absurd h
  by_type o is e h = absurd h

module _ (s : Scope) (sound : IsSound s.types) where
  pub cast_typed : (place : Place) (ty : TypeId) (es : List Expression) (e : Expression) → AreOperands s es → (cast s.types place ty es).holds e → IsTyped s e
  unfolding cast
  cast_typed place ty [] e oes h = absurd h
  cast_typed place ty (a ∷ []) e oes h = by_type s sound place ty a oes.0 (definition s.types ty) refl e h
  cast_typed place ty (a ∷ (b ∷ es)) e oes h = absurd h
