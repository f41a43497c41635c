-- What a pointer leads to is a typed place.
use Rattle.std.proofs.Common.{◌≡◌, inl, inr, List, Option, Some, None, refl, sym, subst, ap, ◌∙◌}
use Rattle.std.specs.Option.{option_and_then}
use Rattle.well_formed.specs.type_layout.declared.definitions.TypeId.{TypeId}
use Rattle.well_formed.specs.type_layout.declared.definitions.TypeDef.{TypeDef}
use Rattle.well_formed.specs.type_layout.declared.definitions.TypeDef.TheVariants as type
use Rattle.well_formed.specs.type_layout.declared.texts.Place.{Place}
use Rattle.well_formed.specs.typed_tree.Expressions.{Expression, Load, Deref, type_of}
use Rattle.well_formed.specs.typed_tree.type_fits.Fits.{definition}
use Rattle.well_formed.specs.Scopes.{Scope}
use Rattle.well_formed.specs.Typed.{IsTyped, PointsTo}
use Rattle.call_rules.specs.typing_rules.Wanted.{nil}
use Rattle.call_rules.specs.typing_rules.Selectors.{target_by, target_in, target_of, followed_to, followed}
use Rattle.rules_well_formed.specs.nodes.Tables.{IsInTable, IsSound}
use Rattle.rules_well_formed.specs.nodes.Laws.{IsOperand}
use Rattle.rules_well_formed.proofs.nodes.Wanting.{no_type}

module _ (types : List TypeDef) (sound : IsSound types) where
  target_at : (ty : TypeId) (one : Option TypeDef) (target : TypeId) → definition types ty ≡ one → target_by one ≡ Some target → PointsTo target one × IsInTable types target
  target_at ty (Some (type.PointerTo t)) target is e =
      let same : t ≡ target = cc in
      let there : IsInTable types t = sound.names ty (type.PointerTo t) is in
      (same, subst (λ (x : TypeId). IsInTable types x) same there)
  target_at ty one target is e = let bad : ⊥ = cc in absurd bad

  pub target_known : (o : Option TypeId) (target : TypeId) → target_in types o ≡ Some target → PointsTo target (option_and_then (definition types) o) × IsInTable types target
  target_known None target e = let bad : ⊥ = cc in absurd bad
  target_known (Some ty) target e = target_at ty (definition types ty) target refl e

module _ (s : Scope) (sound : IsSound s.types) where
  nil_leads : target_of s.types nil ≡ None
  nil_leads = ap (λ (o : Option TypeDef). target_by o) (no_type s sound)

  pointing : (a : Expression) (target : TypeId) → IsOperand s a → target_of s.types a ≡ Some target → IsTyped s (Load target (Deref a))
  pointing a target (inl typed) e =
      let k = target_known s.types sound (type_of a) target e in
      (k.1, (k.1, typed, k.0))
  pointing a target (inr none) e =
      let lead : target_of s.types a ≡ None = ap (λ (x : Expression). target_of s.types x) none ∙ nil_leads in
      let bad : ⊥ = cc in
      absurd bad

  by_target : (place : Place) (a e : Expression) → IsOperand s a → (o : Option TypeId) → target_of s.types a ≡ o → (followed_to s.types place o a).holds e → IsTyped s e
  by_target place a e oa None is h = absurd h
  by_target place a e oa (Some target) is h = subst (λ (x : Expression). IsTyped s x) (sym h) (pointing a target oa is)

  pub followed_typed : (place : Place) (a e : Expression) → IsOperand s a → (followed s.types place a).holds e → IsTyped s e
  unfolding followed
  followed_typed place a e oa h = by_target place a e oa (target_of s.types a) refl h
