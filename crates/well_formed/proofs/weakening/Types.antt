-- A table with types at the end: what a type is, what is asked of it, and values.
use Rattle.std.proofs.Common.{◌≡◌, ℕ, zero, suc, ◌+◌, ◌<◌, List, [], ◌∷◌, ◌++◌, length, Option, Some, None, refl, sym, subst, ap, ◌∙◌, arith, length-append}
use Rattle.std.proofs.Math.IntN.{ℤ}
use Rattle.std.specs.Prelude.{slice_get}
use Rattle.std.specs.Option.{option_and_then}
use Rattle.type_layout.specs.declared.definitions.TypeId.{TypeId}
use Rattle.type_layout.specs.declared.definitions.TypeDef.{TypeDef}
use Rattle.type_layout.specs.declared.definitions.TypeDef.TheVariants as type
use Rattle.type_layout.specs.Layouts.{bounds_of, bounds_at}
use Rattle.type_layout.specs.Table.{IsByteRange, AllDefined}
use Rattle.type_layout.proofs.Local.{slice_get-append}
use Rattle.type_layout.proofs.Given.{get_or-given_by-front}
use Rattle.typed_tree.specs.declared.expressions.Value.{Value}
use Rattle.typed_tree.specs.declared.expressions.Value.TheVariants as value
use Rattle.typed_tree.specs.type_fits.Fits.{definition, IsSome, parent_of, ancestor, Descends, fields_by, field_type, JoinBy, Joins, AreElements, IsValue}
use Rattle.object_vmt.specs.Members.{no_members, members_rule, members_of, members_in}

-- ---- the base of a set stands in the table

bytes_within : (types : List TypeDef) (k : ℕ) → IsByteRange (slice_get types k) → k < length types
bytes_within [] k h = absurd h
bytes_within (one ∷ types) zero h = omega arith
bytes_within (one ∷ types) (suc k) h = let rec = bytes_within types k h in omega arith

base_before : (before : List TypeDef) (base : TypeId) (one : TypeDef) → one ≡ type.SetOf base → AllDefined before (one ∷ []) → base.0 < length before
base_before before base one e h =
    let at : AllDefined before (type.SetOf base ∷ []) = subst (λ (x : TypeDef). AllDefined before (x ∷ [])) e h in
    bytes_within before base.0 at.0

base_within : (before types : List TypeDef) (k : ℕ) (base : TypeId) → AllDefined before types → slice_get types k ≡ Some (type.SetOf base) → base.0 < length before + length types
base_within before [] k base h e = let bad : ⊥ = cc in absurd bad
base_within before (one ∷ types) zero base h e =
    let same : one ≡ type.SetOf base = cc in
    let below = base_before before base one same (h.0, tt) in
    omega (arith, below)
base_within before (one ∷ types) (suc k) base h e =
    let rec : base.0 < length (before ++ one ∷ []) + length types = base_within (before ++ one ∷ []) types k base h.1 e in
    let len : length (before ++ one ∷ []) ≡ length before + 1 = length-append before (one ∷ []) in
    omega (arith, rec, len)

pub within_some : (types : List TypeDef) (k : ℕ) → IsSome (slice_get types k) → k < length types
within_some [] k h = absurd h
within_some (one ∷ types) zero h = omega arith
within_some (one ∷ types) (suc k) h = let rec = within_some types k h in omega arith

pub some_of : {A : Type 0} → (o : Option A) (x : A) → o ≡ Some x → IsSome o
some_of o x e = subst (λ (p : Option _). IsSome p) (sym e) tt

-- ---- over more types

module _ (front back : List TypeDef) where
  pub more_kept : (ty : TypeId) → IsSome (definition front ty) → definition (front ++ back) ty ≡ definition front ty
  more_kept ty h = slice_get-append front back ty.0 (within_some front ty.0 h)

  more_bounds : (base : TypeId) → base.0 < length front → bounds_at (front ++ back) base ≡ bounds_at front base
  more_bounds base h = ap bounds_of (slice_get-append front back base.0 h)

  ancestor_by : (steps : ℕ) (ty above : TypeId) → ((o : TypeId) → ancestor front steps o ≡ Some above → ancestor (front ++ back) steps o ≡ Some above) → (d : Option TypeDef) → definition front ty ≡ d
      → option_and_then (ancestor front steps) (parent_of d) ≡ Some above → option_and_then (ancestor (front ++ back) steps) (parent_of (definition (front ++ back) ty)) ≡ Some above
  ancestor_by steps ty above rec None is e = let bad : ⊥ = cc in absurd bad
  ancestor_by steps ty above rec (Some one) is e =
      let same : definition (front ++ back) ty ≡ Some one = more_kept ty (some_of (definition front ty) one is) ∙ is in
      subst (λ (d : Option TypeDef). option_and_then (ancestor (front ++ back) steps) (parent_of d) ≡ Some above) (sym same) (parent_by (parent_of (Some one)) e)
    where
      parent_by : (o : Option TypeId) → option_and_then (ancestor front steps) o ≡ Some above → option_and_then (ancestor (front ++ back) steps) o ≡ Some above
      parent_by None k = let bad : ⊥ = cc in absurd bad
      parent_by (Some parent) k = rec parent k

  more_ancestor : (steps : ℕ) (ty above : TypeId) → ancestor front steps ty ≡ Some above → ancestor (front ++ back) steps ty ≡ Some above
  more_ancestor zero ty above e = e
  more_ancestor (suc steps) ty above e = ancestor_by steps ty above (λ o k. more_ancestor steps o above k) (definition front ty) refl e

  pub more_descends : (ty above : TypeId) → Descends front ty above → Descends (front ++ back) ty above
  more_descends ty above h = (h.0, more_ancestor h.0 ty above h.1)

  -- fields are those that they were
  pub more_field : (of ty : TypeId) (number : ℕ) → of.0 < length front → field_type front of number ≡ Some ty → field_type (front ++ back) of number ≡ Some ty
  more_field of ty number h e = ap (λ (all : List TypeId). slice_get all number) (get_or-given_by-front fields_by front back of.0 [] h) ∙ e

  -- so are the members of a class
  pub more_members : (class : TypeId) → class.0 < length front → members_in (members_of (front ++ back)) class ≡ members_in (members_of front) class
  more_members class h = get_or-given_by-front members_rule front back class.0 no_members h

  -- a value of a type is one
  value_by : AllDefined [] front → (v : Value) (ty : TypeId) (d : Option TypeDef) → definition front ty ≡ d → IsValue front v d → IsValue (front ++ back) v d
  value_by all (value.Number n) ty (Some (type.Ordinal host low high)) is h = h
  value_by all (value.Chars bytes) ty (Some (type.Str max)) is h = h
  value_by all value.Nil ty (Some (type.PointerTo target)) is h = tt
  value_by all (value.Elements bytes) ty (Some (type.SetOf base)) is h =
      let found : base.0 < 0 + length front = base_within [] front ty.0 base all is in
      let below : base.0 < length front = omega (arith, found) in
      subst (λ (b : ℤ × ℤ). AreElements b.0 b.1 bytes) (sym (more_bounds base below)) h
  value_by all v ty d is h = absurd h

  value_some : (v : Value) (d : Option TypeDef) → IsValue front v d → IsSome d
  value_some v (Some one) h = tt
  value_some (value.Number n) None h = h
  value_some (value.Chars bytes) None h = h
  value_some value.Nil None h = h
  value_some (value.Elements bytes) None h = h

  pub more_value : AllDefined [] front → (v : Value) (ty : TypeId) → IsValue front v (definition front ty) → IsValue (front ++ back) v (definition (front ++ back) ty)
  more_value all v ty h =
      subst (λ (d : Option TypeDef). IsValue (front ++ back) v d) (sym (more_kept ty (value_some v (definition front ty) h))) (value_by all v ty (definition front ty) refl h)

  -- what joins a type joins it still
  joins_by : (a b : Type 0) (d other : Option TypeDef) → (a → b) → JoinBy front a d other → JoinBy (front ++ back) b d other
  joins_by a b (Some (type.Ordinal host low high)) other f h = h
  joins_by a b (Some (type.Str max)) other f h = h
  joins_by a b (Some (type.SetOf base)) other f h = h
  joins_by a b (Some (type.PointerTo target)) (Some (type.PointerTo given)) f h = more_descends given target h
  joins_by a b (Some (type.Procedural header)) (Some (type.Procedural given)) f h = h
  joins_by a b (Some (type.ArrayOf index element)) other f h = f h
  joins_by a b (Some (type.RecordOf fields)) other f h = f h
  joins_by a b (Some (type.ObjectOf parent dynamic fields methods)) other f h = f h
  joins_by a b d other f h = absurd h

  joins_some : (a : Type 0) (d other : Option TypeDef) → JoinBy front a d other → IsSome d
  joins_some a (Some one) other h = tt
  joins_some a None other h = absurd h

  pub more_joins : (ty given : TypeId) → IsSome (definition front given) → Joins front ty given → Joins (front ++ back) ty given
  more_joins ty given some h =
      let a : Type 0 = Descends front given ty in
      let b : Type 0 = Descends (front ++ back) given ty in
      let joins = joins_by a b (definition front ty) (definition front given) (λ k. more_descends given ty k) h in
      let left = more_kept ty (joins_some a (definition front ty) (definition front given) h) in
      subst (λ (d : Option TypeDef). JoinBy (front ++ back) b d (definition (front ++ back) given)) (sym left)
      (subst (λ (d : Option TypeDef). JoinBy (front ++ back) b (definition front ty) d) (sym (more_kept given some)) joins)
