-- What is assigned to a type that is no ordinal, and that all that is assigned joins its target.
use Rattle.std.proofs.Common.{◌≡◌, ◌⊎◌, inl, inr, ℕ, Bool, List, [], Option, Some, None, refl, sym, subst, ap, ◌∙◌}
use Rattle.std.proofs.Math.IntN.{ℤ}
use Rattle.std.specs.Option.{option_and_then}
use Rattle.well_formed.specs.type_layout.declared.definitions.TypeId.{TypeId}
use Rattle.well_formed.specs.type_layout.declared.definitions.Host.{Host}
use Rattle.well_formed.specs.type_layout.declared.definitions.Host.TheVariants as host
use Rattle.well_formed.specs.type_layout.declared.definitions.TypeDef.{TypeDef}
use Rattle.well_formed.specs.type_layout.declared.definitions.TypeDef.TheVariants as type
use Rattle.well_formed.specs.type_layout.declared.texts.Place.{Place}
use Rattle.well_formed.specs.type_layout.Storage.{storage_of}
use Rattle.well_formed.specs.typed_tree.declared.expressions.Value.TheVariants as value
use Rattle.well_formed.specs.typed_tree.Expressions.{Expression, Const, SetOf, NoElements, type_of}
use Rattle.well_formed.specs.typed_tree.type_fits.Fits.{definition, stored_as, family_of, IsSome, IsChar, IsString, IsSet, IsPointer, IsObject, Joins, JoinBy, IsValue}
use Rattle.well_formed.specs.typed_tree.type_fits.Fits as fits
use Rattle.well_formed.specs.Scopes.{Scope}
use Rattle.well_formed.specs.Typed.{IsTyped, Takes, JoinsSome}
use Rattle.well_formed.specs.typed_tree.type_fits.Standard.{sort_of}
use Rattle.call_rules.specs.typing_rules.declared.sorts.Sort.{Sort}
use Rattle.call_rules.specs.typing_rules.declared.sorts.Sort.TheVariants as sort
use Rattle.call_rules.specs.typing_rules.Sorts as sorts
use Rattle.call_rules.specs.typing_rules.Sorts.{sort_stored, sort_by, sort_of_type, sort_of_result, known}
use Rattle.call_rules.specs.typing_rules.Wanted.{stored_of, as_text, as_pointer, untyped}
use Rattle.call_rules.specs.typing_rules.Plans as plans
use Rattle.call_rules.specs.typing_rules.Plans.{AreOfOneHost}
use Rattle.call_rules.specs.typing_rules.Joins.{IsBelowBy, IsBelow, IsOfType, IsNilFor}
use Rattle.call_rules.specs.typing_rules.Assignments as assignments
use Rattle.call_rules.specs.typing_rules.Assignments.{IsAssignable, assigned_by, assigned}
use Rattle.rules_well_formed.specs.nodes.Tables.{IsInTable, IsSound}
use Rattle.rules_well_formed.specs.nodes.Laws.{IsOperand}
use Rattle.rules_well_formed.proofs.nodes.Sorted.{Shows, shows, shows_type}
use Rattle.rules_well_formed.proofs.nodes.Wanting.{same_stored, text_typed, no_type}
use Rattle.rules_well_formed.proofs.nodes.Combined.{IsNone, not_nil}
use Rattle.rules_well_formed.proofs.nodes.Assigned.{line_of, own_type, of_type_typed, own_sort, ordinal_assigned}

-- ---- sorts that a type is not of

not_host : (types : List TypeDef) (one : Option TypeDef) → family_of one ≡ None → stored_as one ≡ None → (x y : Sort) → Shows types x one → AreOfOneHost x y → ⊥
not_host types one f g (sort.Integer r) y h k = let i = h.0 in let bad : ⊥ = cc in bad
not_host types one f g sort.Boolean y h k = let bad : ⊥ = cc in bad
not_host types one f g sort.Char y h k = let bad : ⊥ = cc in bad
not_host types one f g (sort.Enumeration a) y h k = let i = h.0 in let bad : ⊥ = cc in bad
not_host types one f g x y h k = k

not_string : (types : List TypeDef) (one : Option TypeDef) → (IsString one → ⊥) → (x : Sort) → Shows types x one → assignments.IsString x → ⊥
not_string types one never sort.Text h k = never h
not_string types one never x h k = k

not_set : (types : List TypeDef) (one : Option TypeDef) → (IsSet one → ⊥) → (x y : Sort) → Shows types x one → plans.AreSets x y → ⊥
not_set types one never (sort.Set b) y h k = never h
not_set types one never x y h k = k

not_link : (types : List TypeDef) (one : Option TypeDef) → (IsPointer one → ⊥) → (x y : Sort) → Shows types x one → IsNilFor x y → ⊥
not_link types one never sort.Pointer y h k = never h
not_link types one never x y h k = k

pub text_some : (x : Sort) → plans.IsText x → IsNone x
text_some sort.Text h = tt
text_some sort.Char h = tt
text_some x h = absurd h

pub text_of : (types : List TypeDef) (x : Sort) (one : Option TypeDef) → plans.IsText x → Shows types x one → IsChar one ⊎ IsString one
text_of types sort.Text one k h = inr h
text_of types sort.Char one k h = inl h
text_of types x one k h = absurd k

set_some : (x y : Sort) → plans.AreSets x y → IsNone y
set_some (sort.Set a) (sort.Set b) h = tt
set_some x y h = absurd h

set_of : (types : List TypeDef) (x y : Sort) (one : Option TypeDef) → plans.AreSets x y → Shows types y one → IsSet one
set_of types (sort.Set a) (sort.Set b) one k h = h
set_of types x y one k h = absurd k

nil_for : (x y : Sort) → IsNilFor x y → y ≡ sort.Nil
nil_for sort.Pointer sort.Nil h = refl
nil_for x y h = absurd h

-- ---- only nil is of the sort of nil

stored_not_nil : (ty : TypeId) (stored : Host) → sort_stored ty stored ≡ sort.Nil → ⊥
stored_not_nil ty host.ShortInt e = cc
stored_not_nil ty host.Byte e = cc
stored_not_nil ty host.Integer e = cc
stored_not_nil ty host.Word e = cc
stored_not_nil ty host.LongInt e = cc
stored_not_nil ty host.Char e = cc
stored_not_nil ty host.Boolean e = cc
stored_not_nil ty host.Enumeration e = cc

type_not_nil : (types : List TypeDef) (ty : TypeId) (one : Option TypeDef) → sort_by types ty one ≡ sort.Nil → ⊥
type_not_nil types ty (Some (type.Ordinal host low high)) e = stored_not_nil (sorts.host_in types ty) (storage_of host low high) e
type_not_nil types ty (Some (type.Str max)) e = cc
type_not_nil types ty (Some (type.SetOf base)) e = cc
type_not_nil types ty (Some (type.PointerTo target)) e = cc
type_not_nil types ty one e = cc

known_not_nil : (n : ℤ) (x : Sort) → (x ≡ sort.Nil → ⊥) → known n x ≡ sort.Nil → ⊥
known_not_nil n (sort.Integer r) other e = cc
known_not_nil n x other e = other e

result_not_nil : (types : List TypeDef) (o : Option TypeId) → sort_of_result types o ≡ sort.Nil → ⊥
result_not_nil types None e = cc
result_not_nil types (Some ty) e = type_not_nil types ty (definition types ty) e

pub nil_only : (types : List TypeDef) (P : Expression → Type 0) → ((own : TypeId) → P (Const own value.Nil)) → (e : Expression) → sorts.sort_of types e ≡ sort.Nil → P e
nil_only types P f (Const own value.Nil) h = f own
nil_only types P f (Const own (value.Number n)) h = absurd (known_not_nil n (sort_of_type types own) (type_not_nil types own (definition types own)) h)
nil_only types P f (Const own (value.Elements [])) h = let bad : ⊥ = cc in absurd bad
nil_only types P f (Const own v) h = absurd (type_not_nil types own (definition types own) h)
nil_only types P f (SetOf own NoElements) h = let bad : ⊥ = cc in absurd bad
nil_only types P f (SetOf own listed) h = absurd (type_not_nil types own (definition types own) h)
nil_only types P f e h = absurd (result_not_nil types (type_of e) h)

-- ---- joining

module _ (s : Scope) (sound : IsSound s.types) (ty : TypeId) where
  -- typed, and of a type that joins the target
  abbrev Joined : Expression → Type 0
  Joined e = IsTyped s e × Takes s.types ty e

  self_by : (one : TypeDef) → JoinBy s.types (fits.Descends s.types ty ty) (Some one) (Some one)
  self_by (type.Ordinal host low high) = record { ordinal = tt; same = refl }
  self_by (type.Str max) = tt
  self_by (type.SetOf base) = tt
  self_by (type.PointerTo target) = (0, refl)
  self_by (type.Procedural header) = record { kind = refl; params = refl; result = refl }
  self_by (type.ArrayOf index element) = (0, refl)
  self_by (type.RecordOf fields) = (0, refl)
  self_by (type.ObjectOf parent dynamic fields methods) = (0, refl)

  self_joins : (one : TypeDef) → definition s.types ty ≡ Some one → Joins s.types ty ty
  self_joins one is = subst (λ (o : Option TypeDef). JoinBy s.types (fits.Descends s.types ty ty) o o) (sym is) (self_by one)

  self_takes : (one : TypeDef) → definition s.types ty ≡ Some one → (e : Expression) → IsOfType ty (type_of e) → Takes s.types ty e
  self_takes one is e h =
      let there : IsInTable s.types ty = subst (λ (o : Option TypeDef). IsSome o) (sym is) tt in
      subst (λ (o : Option TypeId). JoinsSome s.types ty o) (sym (own_type s sound ty there (type_of e) h)) (self_joins one is)

  -- of the very type
  self_joined : (one : TypeDef) → definition s.types ty ≡ Some one → (e : Expression) → IsOperand s e → IsOfType ty (type_of e) → Joined e
  self_joined one is e oe h =
      let there : IsInTable s.types ty = subst (λ (o : Option TypeDef). IsSome o) (sym is) tt in
      (of_type_typed s sound ty there e oe h, self_takes one is e h)

  ordinal_takes : (host : Host) (low high : ℤ) → definition s.types ty ≡ Some (type.Ordinal host low high) → (o : Option TypeId)
      → stored_as (option_and_then (definition s.types) o) ≡ Some (storage_of host low high) → JoinsSome s.types ty o
  ordinal_takes host low high is None h = let bad : ⊥ = cc in absurd bad
  ordinal_takes host low high is (Some own) h =
      subst (λ (o : Option TypeDef). JoinBy s.types (fits.Descends s.types own ty) o (definition s.types own)) (sym is) (record { ordinal = tt; same = sym h })

  text_takes : (max : ℕ) → definition s.types ty ≡ Some (type.Str max) → (o : Option TypeId) → IsString (option_and_then (definition s.types) o) → JoinsSome s.types ty o
  text_takes max is None h = absurd h
  text_takes max is (Some own) h = subst (λ (o : Option TypeDef). JoinBy s.types (fits.Descends s.types own ty) o (definition s.types own)) (sym is) h

  set_takes : (base : TypeId) → definition s.types ty ≡ Some (type.SetOf base) → (o : Option TypeId) → IsSet (option_and_then (definition s.types) o) → JoinsSome s.types ty o
  set_takes base is None h = absurd h
  set_takes base is (Some own) h = subst (λ (o : Option TypeDef). JoinBy s.types (fits.Descends s.types own ty) o (definition s.types own)) (sym is) h

  abbrev Assignable : Expression → Type 0
  Assignable e = IsAssignable s.types (sort_of_type s.types ty) (sorts.sort_of s.types e) ty (type_of e)

  shows_target : (one : TypeDef) → definition s.types ty ≡ Some one → Shows s.types (sort_of_type s.types ty) (Some one)
  shows_target one is = subst (λ (o : Option TypeDef). Shows s.types (sort_of_type s.types ty) o) is (shows_type s.types ty)

  -- ---- by what the target is

  same_target : (one : TypeDef) → definition s.types ty ≡ Some one → (e : Expression) → IsOfType ty (type_of e) → sort_of s.types e ≡ Some one
  same_target one is e h =
      let there : IsInTable s.types ty = subst (λ (o : Option TypeDef). IsSome o) (sym is) tt in
      own_sort s sound ty there e h ∙ is

  no_line : (one : TypeDef) → definition s.types ty ≡ Some one → ((own : TypeId) → IsBelowBy s.types ty own (Some one) (definition s.types own) → ⊥) → (o : Option TypeId)
      → IsBelow s.types ty o → ⊥
  no_line one is never None h = h
  no_line one is never (Some own) h = never own (subst (λ (d : Option TypeDef). IsBelowBy s.types ty own d (definition s.types own)) is h)

  text_given : (max : ℕ) → definition s.types ty ≡ Some (type.Str max) → (e : Expression) → IsOperand s e → Assignable e
      → IsTyped s e × (IsChar (sort_of s.types e) ⊎ IsString (sort_of s.types e))
  text_given max is e oe (inl (inl k)) =
      absurd (not_host s.types (Some (type.Str max)) refl refl (sort_of_type s.types ty) (sorts.sort_of s.types e) (shows_target (type.Str max) is) k)
  text_given max is e oe (inl (inr (inl k))) =
      let typed = not_nil s e (text_some (sorts.sort_of s.types e) k.1) oe in
      (typed, text_of s.types (sorts.sort_of s.types e) (sort_of s.types e) k.1 (shows s e typed))
  text_given max is e oe (inl (inr (inr (inl k)))) =
      absurd (not_set s.types (Some (type.Str max)) (λ h. h) (sort_of_type s.types ty) (sorts.sort_of s.types e) (shows_target (type.Str max) is) k)
  text_given max is e oe (inl (inr (inr (inr k)))) =
      absurd (not_link s.types (Some (type.Str max)) (λ h. h) (sort_of_type s.types ty) (sorts.sort_of s.types e) (shows_target (type.Str max) is) k)
  text_given max is e oe (inr (inl k)) =
      ((self_joined (type.Str max) is e oe k).0, inr (subst (λ (o : Option TypeDef). IsString o) (sym (same_target (type.Str max) is e k)) tt))
  text_given max is e oe (inr (inr k)) = absurd (no_line (type.Str max) is (λ own h. h) (type_of e) k)

  text_joined : (max : ℕ) → definition s.types ty ≡ Some (type.Str max) → (e : Expression) → IsOperand s e → Assignable e → Joined (as_text (stored_of s.types e) e)
  text_joined max is e oe k =
      let given = text_given max is e oe k in
      let it = text_typed s sound (stored_of s.types e) e (same_stored s.types e) given.0 given.1 in
      (it.0, text_takes max is (type_of (as_text (stored_of s.types e) e)) it.1)

  set_joined : (base : TypeId) → definition s.types ty ≡ Some (type.SetOf base) → (e : Expression) → IsOperand s e → Assignable e → Joined e
  set_joined base is e oe (inl (inl k)) =
      absurd (not_host s.types (Some (type.SetOf base)) refl refl (sort_of_type s.types ty) (sorts.sort_of s.types e) (shows_target (type.SetOf base) is) k)
  set_joined base is e oe (inl (inr (inl k))) =
      absurd (not_string s.types (Some (type.SetOf base)) (λ h. h) (sort_of_type s.types ty) (shows_target (type.SetOf base) is) k.0)
  set_joined base is e oe (inl (inr (inr (inl k)))) =
      let typed = not_nil s e (set_some (sort_of_type s.types ty) (sorts.sort_of s.types e) k) oe in
      (typed, set_takes base is (type_of e) (set_of s.types (sort_of_type s.types ty) (sorts.sort_of s.types e) (sort_of s.types e) k (shows s e typed)))
  set_joined base is e oe (inl (inr (inr (inr k)))) =
      absurd (not_link s.types (Some (type.SetOf base)) (λ h. h) (sort_of_type s.types ty) (sorts.sort_of s.types e) (shows_target (type.SetOf base) is) k)
  set_joined base is e oe (inr (inl k)) = self_joined (type.SetOf base) is e oe k
  set_joined base is e oe (inr (inr k)) = absurd (no_line (type.SetOf base) is (λ own h. h) (type_of e) k)

  -- nil takes the type
  nil_joined : (target : TypeId) → definition s.types ty ≡ Some (type.PointerTo target) → Joined (Const ty value.Nil)
  nil_joined target is = (subst (λ (o : Option TypeDef). IsValue s.types value.Nil o) (sym is) tt, self_joins (type.PointerTo target) is)

  pointer_by : (target : TypeId) → definition s.types ty ≡ Some (type.PointerTo target) → (e : Expression) → Joined e → Joined (as_pointer ty e)
  pointer_by target is (Const own value.Nil) h = nil_joined target is
  pointer_by target is e h = h

  no_object : (own : TypeId) (one : Option TypeDef) → definition s.types own ≡ None → IsBelowBy s.types ty own one None → ⊥
  no_object own (Some (type.ObjectOf parent dynamic fields methods)) none k = subst (λ (d : Option TypeDef). IsObject d) none k.0
  no_object own one none k = k

  none_below : (o : Option TypeId) → o ≡ Some untyped → IsBelow s.types ty o → ⊥
  none_below None e h = h
  none_below (Some own) e h =
      let same : own ≡ untyped = cc in
      let none : definition s.types own ≡ None = ap (λ (t : TypeId). definition s.types t) same ∙ no_type s sound in
      no_object own (definition s.types ty) none (subst (λ (d : Option TypeDef). IsBelowBy s.types ty own (definition s.types ty) d) none h)

  -- what is below the target is typed
  below_typed : (e : Expression) → IsOperand s e → IsBelow s.types ty (type_of e) → IsTyped s e
  below_typed e (inl typed) h = typed
  below_typed e (inr none) h = absurd (none_below (type_of e) (ap (λ (x : Expression). type_of x) none) h)

  pointer_line : (target : TypeId) → definition s.types ty ≡ Some (type.PointerTo target) → (o : Option TypeId) → IsBelow s.types ty o → JoinsSome s.types ty o
  pointer_line target is None h = absurd h
  pointer_line target is (Some own) h =
      subst (λ (d : Option TypeDef). JoinBy s.types (fits.Descends s.types own ty) d (definition s.types own)) (sym is)
      (by (definition s.types own) (subst (λ (d : Option TypeDef). IsBelowBy s.types ty own d (definition s.types own)) is h))
    where
      by : (one : Option TypeDef) → IsBelowBy s.types ty own (Some (type.PointerTo target)) one → JoinBy s.types (fits.Descends s.types own ty) (Some (type.PointerTo target)) one
      by (Some (type.PointerTo below)) k = line_of s.types below target k.1
      by one k = absurd k

  pointer_joined : (target : TypeId) → definition s.types ty ≡ Some (type.PointerTo target) → (e : Expression) → IsOperand s e → Assignable e → Joined (as_pointer ty e)
  pointer_joined target is e oe (inl (inl k)) =
      absurd (not_host s.types (Some (type.PointerTo target)) refl refl (sort_of_type s.types ty) (sorts.sort_of s.types e) (shows_target (type.PointerTo target) is) k)
  pointer_joined target is e oe (inl (inr (inl k))) =
      absurd (not_string s.types (Some (type.PointerTo target)) (λ h. h) (sort_of_type s.types ty) (shows_target (type.PointerTo target) is) k.0)
  pointer_joined target is e oe (inl (inr (inr (inl k)))) =
      absurd (not_set s.types (Some (type.PointerTo target)) (λ h. h) (sort_of_type s.types ty) (sorts.sort_of s.types e) (shows_target (type.PointerTo target) is) k)
  pointer_joined target is e oe (inl (inr (inr (inr k)))) =
      nil_only s.types (λ x. Joined (as_pointer ty x)) (λ own. nil_joined target is) e (nil_for (sort_of_type s.types ty) (sorts.sort_of s.types e) k)
  pointer_joined target is e oe (inr (inl k)) = pointer_by target is e (self_joined (type.PointerTo target) is e oe k)
  pointer_joined target is e oe (inr (inr k)) = pointer_by target is e (below_typed e oe k, pointer_line target is (type_of e) k)

  -- arrays, records, objects and routines as they are
  abbrev IsPlain : TypeDef → Type 0
  IsPlain (type.ArrayOf index element) = Unit {0}
  IsPlain (type.RecordOf fields) = Unit {0}
  IsPlain (type.ObjectOf parent dynamic fields methods) = Unit {0}
  IsPlain (type.Procedural header) = Unit {0}
  IsPlain one = ⊥

  plain_sort : (one : TypeDef) → IsPlain one → sort_by s.types ty (Some one) ≡ sort.Other
  plain_sort (type.ArrayOf index element) h = refl
  plain_sort (type.RecordOf fields) h = refl
  plain_sort (type.ObjectOf parent dynamic fields methods) h = refl
  plain_sort (type.Procedural header) h = refl
  plain_sort one h = absurd h

  plain_line : (one : TypeDef) → IsPlain one → (own : TypeId) → IsBelowBy s.types ty own (Some one) (definition s.types own) → JoinBy s.types (fits.Descends s.types own ty) (Some one) (definition s.types own)
  plain_line (type.ObjectOf parent dynamic fields methods) p own h = line_of s.types own ty h.1
  plain_line (type.ArrayOf index element) p own h = absurd h
  plain_line (type.RecordOf fields) p own h = absurd h
  plain_line (type.Procedural header) p own h = absurd h
  plain_line one p own h = absurd p

  plain_takes : (one : TypeDef) → IsPlain one → definition s.types ty ≡ Some one → (o : Option TypeId) → IsBelow s.types ty o → JoinsSome s.types ty o
  plain_takes one p is None h = absurd h
  plain_takes one p is (Some own) h =
      subst (λ (d : Option TypeDef). JoinBy s.types (fits.Descends s.types own ty) d (definition s.types own)) (sym is)
      (plain_line one p own (subst (λ (d : Option TypeDef). IsBelowBy s.types ty own d (definition s.types own)) is h))

  unlike : (y : Sort) → assignments.IsLike sort.Other y → ⊥
  unlike y (inl k) = k
  unlike y (inr (inl k)) = k.0
  unlike y (inr (inr (inl k))) = k
  unlike y (inr (inr (inr k))) = k

  plain_joined : (one : TypeDef) → IsPlain one → definition s.types ty ≡ Some one → (e : Expression) → IsOperand s e → Assignable e → Joined e
  plain_joined one p is e oe (inl k) =
      let other : sort_of_type s.types ty ≡ sort.Other = ap (λ (d : Option TypeDef). sort_by s.types ty d) is ∙ plain_sort one p in
      absurd (unlike (sorts.sort_of s.types e) (subst (λ (x : Sort). assignments.IsLike x (sorts.sort_of s.types e)) other k))
  plain_joined one p is e oe (inr (inl k)) = self_joined one is e oe k
  plain_joined one p is e oe (inr (inr k)) = (below_typed e oe k, plain_takes one p is (type_of e) k)

  joined_by : (checked : Bool) (e : Expression) → IsOperand s e → Assignable e → (one : TypeDef) → definition s.types ty ≡ Some one
      → Joined (assigned_by ty (Some one) (stored_of s.types e) checked e)
  joined_by checked e oe k (type.Ordinal host low high) is =
      let it = ordinal_assigned s sound ty host low high is checked e oe k in
      (it.0, ordinal_takes host low high is (type_of (assigned_by ty (Some (type.Ordinal host low high)) (stored_of s.types e) checked e)) it.1)
  joined_by checked e oe k (type.Str max) is = text_joined max is e oe k
  joined_by checked e oe k (type.SetOf base) is = set_joined base is e oe k
  joined_by checked e oe k (type.PointerTo target) is = pointer_joined target is e oe k
  joined_by checked e oe k (type.ArrayOf index element) is = plain_joined (type.ArrayOf index element) tt is e oe k
  joined_by checked e oe k (type.RecordOf fields) is = plain_joined (type.RecordOf fields) tt is e oe k
  joined_by checked e oe k (type.ObjectOf parent dynamic fields methods) is = plain_joined (type.ObjectOf parent dynamic fields methods) tt is e oe k
  joined_by checked e oe k (type.Procedural header) is = plain_joined (type.Procedural header) tt is e oe k

  pub value_joined : IsInTable s.types ty → (checked : Bool) (e : Expression) → IsOperand s e → Assignable e
      → Joined (assigned_by ty (definition s.types ty) (stored_of s.types e) checked e)
  value_joined there checked e oe k = by (definition s.types ty) refl there
    where
      by : (d : Option TypeDef) → definition s.types ty ≡ d → IsSome d → Joined (assigned_by ty d (stored_of s.types e) checked e)
      by None is h = absurd h
      by (Some one) is h = joined_by checked e oe k one is

  pub assigned_joined : IsInTable s.types ty → (place : Place) (checked : Bool) (e v : Expression) → IsOperand s e → (assigned s.types place ty checked e).holds v → Joined v
  unfolding assigned
  assigned_joined there place checked e v oe h = subst (λ (x : Expression). Joined x) (sym h.made) (value_joined there checked e oe h.asked)
