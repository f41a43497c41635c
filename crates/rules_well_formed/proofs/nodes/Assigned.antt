-- Values that are assigned, or handed over by value, are typed and join their targets.
use Rattle.std.proofs.Common.{◌≡◌, inl, inr, ℕ, Bool, true, false, cond, List, Option, Some, None, refl, sym, subst, ap, ◌∙◌}
use Rattle.std.proofs.Math.IntN.{ℤ}
use Rattle.std.specs.Prelude.{◌≤ℤ◌}
use Rattle.std.specs.Option.{option_and_then}
use Rattle.well_formed.specs.type_layout.declared.definitions.TypeId.{TypeId}
use Rattle.well_formed.specs.type_layout.declared.definitions.Host.{Host}
use Rattle.well_formed.specs.type_layout.declared.definitions.Host.TheVariants as host
use Rattle.well_formed.specs.type_layout.declared.definitions.TypeDef.{TypeDef}
use Rattle.well_formed.specs.type_layout.declared.definitions.TypeDef.TheVariants as type
use Rattle.well_formed.specs.type_layout.Storage.{storage_of, holds}
use Rattle.well_formed.specs.typed_tree.declared.expressions.Value.TheVariants as value
use Rattle.well_formed.specs.typed_tree.Expressions.{Expression, Const, type_of}
use Rattle.well_formed.specs.typed_tree.type_fits.Fits.{definition, stored_as, family_of, IsSome, IsInteger, IsBoolean, IsChar, IsString, IsSet, IsPointer, IsObject, AreStoredAlike, AreSameHeaders, Joins, IsValue}
use Rattle.well_formed.specs.typed_tree.type_fits.Fits as fits
use Rattle.well_formed.specs.Scopes.{Scope}
use Rattle.well_formed.specs.Typed.{IsTyped}
use Rattle.well_formed.specs.typed_tree.type_fits.Standard.{sort_of}
use Rattle.call_rules.specs.typing_rules.declared.sorts.Sort.{Sort}
use Rattle.call_rules.specs.typing_rules.declared.sorts.Sort.TheVariants as sort
use Rattle.call_rules.specs.typing_rules.Sorts as sorts
use Rattle.call_rules.specs.typing_rules.Sorts.{sort_of_type, known}
use Rattle.call_rules.specs.typing_rules.Wanted.{stored_of, untyped}
use Rattle.call_rules.specs.typing_rules.Plans as plans
use Rattle.call_rules.specs.typing_rules.Plans.{AreOfOneHost}
use Rattle.call_rules.specs.typing_rules.Joins as joins
use Rattle.call_rules.specs.typing_rules.Joins.{IsReached, IsLine, IsBelowBy, IsBelow, IsOfType, IsNilFor}
use Rattle.call_rules.specs.typing_rules.Assignments as assignments
use Rattle.call_rules.specs.typing_rules.Assignments.{IsLike, IsAssignable, ranged_as, ranged, constant_in, tested, stored_in, assigned_by, assigned}
use Rattle.call_rules.specs.scopes.Predeclared.{type_id}
use Rattle.rules_well_formed.specs.nodes.Tables.{IsInTable, IsSound}
use Rattle.rules_well_formed.specs.nodes.Laws.{IsOperand}
use Rattle.rules_well_formed.proofs.nodes.Ordinals.{IsStoredAs, value_held}
use Rattle.rules_well_formed.proofs.nodes.Sorted.{Shows, shows, shows_type}
use Rattle.rules_well_formed.proofs.nodes.Wanting.{some_of, same_stored, IsOrdinal, convert, no_type}
use Rattle.rules_well_formed.proofs.nodes.Combined.{not_nil, hosts_right}
use Rattle.rules_well_formed.proofs.nodes.Fields.{round}

-- ---- what a type of the other side is

-- a line that is followed within the table is one
pub line_of : (types : List TypeDef) (below above : TypeId) → joins.Descends types below above → fits.Descends types below above
line_of types below above h = (h.steps, h.leads)

pub same_id : (one other : TypeId) → one.0 ≡ other.0 → one ≡ other
same_id one other e = ap (λ (n : ℕ). type_id n) e

-- what is asked of a value: an ordinal, a Char or a string, a set or nil like the target; of the very type; or below it
module _ (s : Scope) (sound : IsSound s.types) (ty : TypeId) (there : IsInTable s.types ty) where
  pub own_type : (o : Option TypeId) → IsOfType ty o → o ≡ Some ty
  own_type None h = absurd h
  own_type (Some own) h = ap (λ (t : TypeId). Some t) (sym (same_id ty own h))

  not_untyped : (o : Option TypeId) → o ≡ Some untyped → IsOfType ty o → ⊥
  not_untyped o e h =
      let same : Some ty ≡ Some untyped = sym (own_type o h) ∙ e in
      let is : ty ≡ untyped = cc in
      let none : definition s.types ty ≡ None = ap (λ (t : TypeId). definition s.types t) is ∙ no_type s sound in
      subst (λ (o : Option TypeDef). IsSome o) none there

  -- an operand of the very type is typed
  pub of_type_typed : (e : Expression) → IsOperand s e → IsOfType ty (type_of e) → IsTyped s e
  of_type_typed e (inl typed) h = typed
  of_type_typed e (inr none) h = absurd (not_untyped (type_of e) (ap (λ (x : Expression). type_of x) none) h)

  pub own_sort : (e : Expression) → IsOfType ty (type_of e) → sort_of s.types e ≡ definition s.types ty
  own_sort e h = ap (λ (o : Option TypeId). option_and_then (definition s.types) o) (own_type (type_of e) h)

-- ---- ordinals

pub hosts_stored : (types : List TypeDef) (x y : Sort) (one : Option TypeDef) → AreOfOneHost x y → Shows types y one → IsSome (stored_as one)
hosts_stored types (sort.Integer r) (sort.Integer q) one k h = h.1
hosts_stored types sort.Boolean sort.Boolean one k h = some_of (stored_as one) host.Boolean h
hosts_stored types sort.Char sort.Char one k h = some_of (stored_as one) host.Char h
hosts_stored types (sort.Enumeration a) (sort.Enumeration b) one k h = some_of (stored_as one) host.Enumeration h.0
hosts_stored types x y one k h = absurd k

-- ---- values of an ordinal that is stored in some way

module _ (s : Scope) (low high : ℤ) (rises : low ≤ℤ high) where
  -- a test keeps the type
  pub ranged_keeps : (checked : Bool) (e : Expression) → IsSome (stored_as (sort_of s.types e)) → IsTyped s e
      → IsTyped s (ranged checked low high e) × (sort_of s.types (ranged checked low high e) ≡ sort_of s.types e)
  ranged_keeps false e some typed = (typed, refl)
  ranged_keeps true e some typed = by (type_of e) refl
    where
      by : (o : Option TypeId) → type_of e ≡ o → IsTyped s (ranged_as o low high e) × (sort_of s.types (ranged_as o low high e) ≡ sort_of s.types e)
      by None h = (typed, refl)
      by (Some own) h =
          let same : sort_of s.types e ≡ definition s.types own = ap (λ (o : Option TypeId). option_and_then (definition s.types) o) h in
          ((typed, h, subst (λ (o : Option TypeDef). IsSome (stored_as o)) same some, rises), sym same)

module _ (s : Scope) (sound : IsSound s.types) (ty : TypeId) (w : Host) (low high : ℤ) (rises : low ≤ℤ high) (at : IsStoredAs s.types ty w) where
  constant_kept : (checked : Bool) (n : ℤ) → holds w n n ≡ true → IsOrdinal s w (constant_in ty low high checked n)
  unfolding constant_in
  constant_kept checked n h =
      let typed : IsTyped s (Const ty (value.Number n)) = value_held s.types (definition s.types ty) w n at h in
      let kept = ranged_keeps s low high rises checked (Const ty (value.Number n)) (some_of (stored_as (definition s.types ty)) w at) typed in
      (kept.0, ap (λ (o : Option TypeDef). stored_as o) kept.1 ∙ at)

  tested_kept : (checked : Bool) (e : Expression) → IsSome (stored_as (sort_of s.types e)) → IsTyped s e
      → IsOrdinal s w (tested ty w low high (stored_of s.types e) checked e)
  unfolding tested
  tested_kept checked e some typed =
      let kept = ranged_keeps s low high rises checked e some typed in
      let stored = same_stored s.types e in
      convert s sound ty w at (ranged checked low high e) (stored_of s.types e) (stored ∙ ap (λ (o : Option TypeDef). stored_as o) (sym kept.1))
      (subst (λ (o : Option Host). IsSome o) (sym stored) some) kept.0

  constant_case : (checked : Bool) (own : TypeId) (n : ℤ)
      → IsOrdinal s w (tested ty w low high (stored_of s.types (Const own (value.Number n))) checked (Const own (value.Number n)))
      → (b : Bool) → holds w n n ≡ b
      → IsOrdinal s w (cond b (constant_in ty low high checked n) (tested ty w low high (stored_of s.types (Const own (value.Number n))) checked (Const own (value.Number n))))
  constant_case checked own n h true e = constant_kept checked n e
  constant_case checked own n h false e = h

  stored_case : (checked : Bool) (e : Expression)
      → IsOrdinal s w (tested ty w low high (stored_of s.types e) checked e)
      → IsOrdinal s w (stored_in ty w low high (stored_of s.types e) checked e)
  stored_case checked (Const own (value.Number n)) h = constant_case checked own n h (holds w n n) refl
  stored_case checked e h = h

  pub stored_typed : (checked : Bool) (e : Expression) → IsSome (stored_as (sort_of s.types e)) → IsTyped s e → IsOrdinal s w (stored_in ty w low high (stored_of s.types e) checked e)
  stored_typed checked e some typed = stored_case checked e (tested_kept checked e some typed)

module _ (s : Scope) (sound : IsSound s.types) (ty : TypeId) (base : Host) (low high : ℤ) (is : definition s.types ty ≡ Some (type.Ordinal base low high)) where
  shown : Shows s.types (sort_of_type s.types ty) (Some (type.Ordinal base low high))
  shown = subst (λ (o : Option TypeDef). Shows s.types (sort_of_type s.types ty) o) is (shows_type s.types ty)

  no_string : (x : Sort) → Shows s.types x (Some (type.Ordinal base low high)) → assignments.IsString x → ⊥
  no_string sort.Text h k = h
  no_string x h k = k

  no_set : (x y : Sort) → Shows s.types x (Some (type.Ordinal base low high)) → plans.AreSets x y → ⊥
  no_set (sort.Set elements) y h k = h
  no_set x y h k = k

  no_pointer : (x y : Sort) → Shows s.types x (Some (type.Ordinal base low high)) → IsNilFor x y → ⊥
  no_pointer sort.Pointer y h k = h
  no_pointer x y h k = k

  rises : low ≤ℤ high
  rises = (round s.types sound ty (type.Ordinal base low high) is).defined.1

  at : IsStoredAs s.types ty (storage_of base low high)
  at = ap (λ (o : Option TypeDef). stored_as o) is

  none_below : (o : Option TypeId) → IsBelow s.types ty o → ⊥
  none_below None h = h
  none_below (Some own) h = subst (λ (d : Option TypeDef). IsBelowBy s.types ty own d (definition s.types own)) is h

  -- what is assignable to an ordinal type is a typed ordinal
  pub ordinal_given : (e : Expression) → IsOperand s e → IsAssignable s.types (sort_of_type s.types ty) (sorts.sort_of s.types e) ty (type_of e)
      → IsTyped s e × IsSome (stored_as (sort_of s.types e))
  ordinal_given e oe (inl (inl k)) =
      let typed = not_nil s e (hosts_right (sort_of_type s.types ty) (sorts.sort_of s.types e) k) oe in
      (typed, hosts_stored s.types (sort_of_type s.types ty) (sorts.sort_of s.types e) (sort_of s.types e) k (shows s e typed))
  ordinal_given e oe (inl (inr (inl k))) = absurd (no_string (sort_of_type s.types ty) shown k.0)
  ordinal_given e oe (inl (inr (inr (inl k)))) = absurd (no_set (sort_of_type s.types ty) (sorts.sort_of s.types e) shown k)
  ordinal_given e oe (inl (inr (inr (inr k)))) = absurd (no_pointer (sort_of_type s.types ty) (sorts.sort_of s.types e) shown k)
  ordinal_given e oe (inr (inl k)) =
      let there : IsInTable s.types ty = subst (λ (o : Option TypeDef). IsSome o) (sym is) tt in
      let same : sort_of s.types e ≡ definition s.types ty = own_sort s sound ty there e k in
      (of_type_typed s sound ty there e oe k, subst (λ (o : Option TypeDef). IsSome (stored_as o)) (sym (same ∙ is)) tt)
  ordinal_given e oe (inr (inr k)) = absurd (none_below (type_of e) k)

  pub ordinal_assigned : (checked : Bool) (e : Expression) → IsOperand s e → IsAssignable s.types (sort_of_type s.types ty) (sorts.sort_of s.types e) ty (type_of e)
      → IsOrdinal s (storage_of base low high) (stored_in ty (storage_of base low high) low high (stored_of s.types e) checked e)
  ordinal_assigned checked e oe k =
      let it = ordinal_given e oe k in
      stored_typed s sound ty (storage_of base low high) low high rises at checked e it.1 it.0
