-- Constants are values of their types in each table that tells the same of these.
use Rattle.std.proofs.Common.{◌≡◌, ◌∙◌, ℕ, ◌+◌, true, List, Option, Some, None, sym, subst, ap, refl}
use Rattle.std.proofs.Math.IntN.{ℤ}
use Rattle.bodies_well_formed.specs.type_layout.declared.definitions.TypeId.{TypeId}
use Rattle.bodies_well_formed.specs.type_layout.declared.definitions.Host.{Host}
use Rattle.bodies_well_formed.specs.type_layout.declared.definitions.Host.TheVariants as host
use Rattle.bodies_well_formed.specs.type_layout.declared.definitions.TypeDef.{TypeDef}
use Rattle.bodies_well_formed.specs.type_layout.declared.definitions.TypeDef.TheVariants as type
use Rattle.bodies_well_formed.specs.type_layout.Layouts.{bounds_of, bounds_at}
use Rattle.bodies_well_formed.specs.typed_tree.declared.expressions.Value.{Value}
use Rattle.bodies_well_formed.specs.typed_tree.declared.expressions.Value.TheVariants as value
use Rattle.bodies_well_formed.specs.typed_tree.type_fits.Fits.{definition, AreElements, IsValue}
use Rattle.bodies_well_formed.specs.scopes.Predeclared.{type_id}
use Rattle.bodies_well_formed.specs.typing_rules.declared.sorts.SetBase.{SetBase}
use Rattle.bodies_well_formed.specs.typing_rules.declared.sorts.SetBase.TheVariants as over
use Rattle.bodies_well_formed.specs.typing_rules.Sorts.{is_enumeration}
use Rattle.declarations_well_formed.specs.names.Declaring.{HasSet}
use Rattle.declarations_well_formed.specs.constants.Whole.{IsEnumerated, IsHost, IsWholeSet, IsWholeOrdinal, IsWhole, IsConstantOf}
use Rattle.declarations_well_formed.specs.exported_constants.Moves.{AreTold}

module _ (a b : List TypeDef) (f : TypeId → TypeId) (Needed : TypeId → Type 0) (t : AreTold a b f Needed) where
  same_set : (ty base : TypeId) → Needed ty → definition a ty ≡ Some (type.SetOf base) → definition b (f ty) ≡ Some (type.SetOf (f base))
  same_set ty base need at =
      let it = t.told ty (type.SetOf base) need at in
      it.there ∙ ap (λ (d : TypeDef). Some d) it.like

  same_ordinal : (ty : TypeId) (h : Host) (low high : ℤ) → Needed ty → definition a ty ≡ Some (type.Ordinal h low high) → definition b (f ty) ≡ Some (type.Ordinal h low high)
  same_ordinal ty h low high need at =
      let it = t.told ty (type.Ordinal h low high) need at in
      it.there ∙ ap (λ (d : TypeDef). Some d) it.like

  same_bounds : (ty : TypeId) (one : TypeDef) → Needed ty → definition a ty ≡ Some one → bounds_at b (f ty) ≡ bounds_at a ty
  same_bounds ty one need at =
      let it = t.told ty one need at in
      ap bounds_of it.there ∙ it.bounds ∙ ap bounds_of (sym at)

  -- ---- values

  elements_move : (ty base : TypeId) (bytes : List ℕ) (one : TypeDef) → Needed base → definition a base ≡ Some one → definition b (f ty) ≡ Some (type.SetOf (f base))
      → AreElements (bounds_at a base).0 (bounds_at a base).1 bytes → IsValue b (value.Elements bytes) (definition b (f ty))
  elements_move ty base bytes one need at there h =
      subst (λ (o : Option TypeDef). IsValue b (value.Elements bytes) o) (sym there)
      (subst (λ (p : ℤ × ℤ). AreElements p.0 p.1 bytes) (sym (same_bounds base one need at)) h)

  value_by : (ty : TypeId) (v : Value) (one : TypeDef) → Needed ty → definition a ty ≡ Some one → IsValue a v (Some one) → IsValue b v (definition b (f ty))
  value_by ty (value.Number n) (type.Ordinal h low high) need at holds =
      subst (λ (o : Option TypeDef). IsValue b (value.Number n) o) (sym (same_ordinal ty h low high need at)) holds
  value_by ty (value.Chars bytes) (type.Str max) need at holds =
      let it = t.told ty (type.Str max) need at in
      subst (λ (o : Option TypeDef). IsValue b (value.Chars bytes) o) (sym (it.there ∙ ap (λ (d : TypeDef). Some d) it.like)) holds
  value_by ty value.Nil (type.PointerTo target) need at holds =
      let it = t.told ty (type.PointerTo target) need at in
      subst (λ (o : Option TypeDef). IsValue b value.Nil o) (sym (it.there ∙ ap (λ (d : TypeDef). Some d) it.like)) tt
  value_by ty (value.Elements bytes) (type.SetOf base) need at holds =
      let under = t.base ty base need at in
      elements_move ty base bytes under.1.0 under.0 under.1.1 (same_set ty base need at) holds
  value_by ty v one need at holds = absurd holds

  -- ---- whole hosts

  set_moves : (ty : TypeId) (low high : ℤ) → Needed ty → definition a ty ≡ Some (type.Ordinal host.Enumeration low high) → HasSet a ty → HasSet b (f ty)
  set_moves ty low high need at set =
      let next = t.behind ty low high need at in
      ap (λ (x : TypeId). definition b x) (sym next.1) ∙ same_set (type_id (ty.0 + 1)) ty next.0 set

  ordinal_by : (ty : TypeId) (h : Host) (low high : ℤ) → Needed ty → definition a ty ≡ Some (type.Ordinal h low high) → IsWholeOrdinal a ty (Some (type.Ordinal h low high))
      → IsWholeOrdinal b (f ty) (Some (type.Ordinal h low high))
  ordinal_by ty host.Enumeration low high need at set = set_moves ty low high need at set
  ordinal_by ty host.ShortInt low high need at set = tt
  ordinal_by ty host.Byte low high need at set = tt
  ordinal_by ty host.Integer low high need at set = tt
  ordinal_by ty host.Word low high need at set = tt
  ordinal_by ty host.LongInt low high need at set = tt
  ordinal_by ty host.Char low high need at set = tt
  ordinal_by ty host.Boolean low high need at set = tt

  enumerated_by : (ty : TypeId) (one : TypeDef) → Needed ty → definition a ty ≡ Some one → is_enumeration (Some one) ≡ true → HasSet a ty → IsEnumerated b (f ty)
  enumerated_by ty (type.Ordinal host.Enumeration low high) need at is set = record {
    is = ap is_enumeration (same_ordinal ty host.Enumeration low high need at);
    set = set_moves ty low high need at set;
  }
  enumerated_by ty one need at is set = let bad : ⊥ = cc in absurd bad

  enumerated_moves : (ty : TypeId) → Needed ty → (o : Option TypeDef) → definition a ty ≡ o → IsEnumerated a ty → IsEnumerated b (f ty)
  enumerated_moves ty need None at e = let bad : ⊥ = cc (at, e.is) in absurd bad
  enumerated_moves ty need (Some one) at e = enumerated_by ty one need at (ap is_enumeration (sym at) ∙ e.is) e.set

  -- the base of a set over all of a host is one too
  over_moves : (h : SetBase) (base : TypeId) → Needed base → IsHost a h base → (other : SetBase) × IsHost b other (f base)
  over_moves over.Integers base need is = (over.Integers, ap f is ∙ t.byte (subst Needed is need))
  over_moves over.Chars base need is = (over.Chars, ap f is ∙ t.char (subst Needed is need))
  over_moves over.Booleans base need is = (over.Booleans, ap f is ∙ t.boolean (subst Needed is need))
  over_moves (over.Enumeration of) base need is =
      let here : IsEnumerated a base = subst (λ (x : TypeId). IsEnumerated a x) (sym is.0) is.1 in
      (over.Enumeration (f base), (refl, enumerated_moves base need (definition a base) refl here))
  over_moves over.Any base need is = absurd is

  whole_set_moves : (ty : TypeId) → Needed ty → IsWholeSet a ty → IsWholeSet b (f ty)
  whole_set_moves ty need s =
      let other = over_moves s.host s.base (t.base ty s.base need s.is).0 s.whole in
      record { base = f s.base; host = other.0; is = same_set ty s.base need s.is; whole = other.1 }

  number_by : (ty : TypeId) (n : ℤ) (one : TypeDef) → Needed ty → definition a ty ≡ Some one → IsValue a (value.Number n) (Some one) → IsWholeOrdinal a ty (Some one) → IsWholeOrdinal b (f ty) (definition b (f ty))
  number_by ty n (type.Ordinal h low high) need at holds whole =
      subst (λ (o : Option TypeDef). IsWholeOrdinal b (f ty) o) (sym (same_ordinal ty h low high need at)) (ordinal_by ty h low high need at whole)
  number_by ty n one need at holds whole = absurd holds

  whole_by : (ty : TypeId) (v : Value) (one : TypeDef) → Needed ty → definition a ty ≡ Some one → IsValue a v (Some one) → IsWhole a ty v → IsWhole b (f ty) v
  whole_by ty (value.Number n) one need at holds whole = number_by ty n one need at holds (subst (λ (o : Option TypeDef). IsWholeOrdinal a ty o) at whole)
  whole_by ty (value.Elements bytes) one need at holds whole = whole_set_moves ty need whole
  whole_by ty (value.Chars bytes) one need at holds whole = tt
  whole_by ty value.Nil one need at holds whole = tt

  by_definition : (ty : TypeId) (v : Value) (o : Option TypeDef) → Needed ty → definition a ty ≡ o → IsValue a v o → IsWhole a ty v → IsConstantOf b (f ty) v
  by_definition ty (value.Number n) None need at holds whole = absurd holds
  by_definition ty (value.Chars bytes) None need at holds whole = absurd holds
  by_definition ty value.Nil None need at holds whole = absurd holds
  by_definition ty (value.Elements bytes) None need at holds whole = absurd holds
  by_definition ty v (Some one) need at holds whole = record { value = value_by ty v one need at holds; whole = whole_by ty v one need at holds whole }

  -- a constant of a type that is needed is one in the other table too
  pub constant_moves : (ty : TypeId) (v : Value) → Needed ty → IsConstantOf a ty v → IsConstantOf b (f ty) v
  constant_moves ty v need c = by_definition ty v (definition a ty) need refl c.value c.whole
