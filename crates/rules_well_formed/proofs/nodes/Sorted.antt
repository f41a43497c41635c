-- What the sort of an operand says of its type.
use Rattle.std.proofs.Common.{◌≡◌, ℕ, ◌+◌, Bool, true, false, cond, List, [], ◌∷◌, Option, Some, None, refl, sym, subst}
use Rattle.std.proofs.Math.IntN.{ℤ}
use Rattle.std.specs.Option.{option_and_then}
use Rattle.well_formed.specs.type_layout.declared.definitions.TypeId.{TypeId}
use Rattle.well_formed.specs.type_layout.declared.definitions.Host.{Host}
use Rattle.well_formed.specs.type_layout.declared.definitions.Host.TheVariants as host
use Rattle.well_formed.specs.type_layout.declared.definitions.TypeDef.{TypeDef}
use Rattle.well_formed.specs.type_layout.declared.definitions.TypeDef.TheVariants as type
use Rattle.well_formed.specs.type_layout.Storage.{integer_storage}
use Rattle.well_formed.specs.typed_tree.declared.expressions.Value.{Value}
use Rattle.well_formed.specs.typed_tree.declared.expressions.Value.TheVariants as value
use Rattle.well_formed.specs.typed_tree.Expressions.{Expression, Const, SetOf, NoElements, type_of}
use Rattle.well_formed.specs.typed_tree.type_fits.Fits.{definition, stored_as, family_of, IsSome, IsInteger, IsBoolean, IsChar, IsString, IsSet, IsPointer, IsValue}
use Rattle.well_formed.specs.Scopes.{Scope}
use Rattle.well_formed.specs.Typed.{IsTyped}
use Rattle.well_formed.specs.typed_tree.type_fits.Standard.{sort_of}
use Rattle.call_rules.specs.typing_rules.declared.sorts.Sort.{Sort}
use Rattle.call_rules.specs.typing_rules.declared.sorts.Sort.TheVariants as sort
use Rattle.call_rules.specs.typing_rules.Sorts as rules
use Rattle.call_rules.specs.typing_rules.Sorts.{set_base, is_enumeration, host_by, host_in, sort_stored, sort_by, sort_of_type, known}
use Rattle.call_rules.specs.scopes.Predeclared.{type_id}
use Rattle.rules_well_formed.proofs.nodes.Ordinals.{IsIntegerHost, integers}

-- an enumeration, or what is stored as one
abbrev pub IsEnumeration : Option TypeDef → Type 0
IsEnumeration one = family_of one ≡ Some host.Enumeration

-- what a type is whose values are of a sort
abbrev pub Shows : List TypeDef → Sort → Option TypeDef → Type 0
Shows types (sort.Integer r) one = IsInteger one × IsSome (stored_as one)
Shows types sort.Boolean one = IsBoolean one
Shows types sort.Char one = IsChar one
Shows types (sort.Enumeration ty) one = (stored_as one ≡ Some host.Enumeration) × IsEnumeration one × IsEnumeration (definition types ty)
Shows types sort.Text one = IsString one
Shows types (sort.Set base) one = IsSet one
Shows types sort.Pointer one = IsPointer one
Shows types sort.Nil one = IsPointer one
Shows types sort.Other one = Unit {0}

-- ---- types

shows_stored : (types : List TypeDef) (ty : TypeId) (stored : Host) (one : Option TypeDef) → IsIntegerHost stored → IsInteger one → IsSome (stored_as one)
    → Shows types (sort_stored ty stored) one
shows_stored types ty host.ShortInt one i f s = (f, s)
shows_stored types ty host.Byte one i f s = (f, s)
shows_stored types ty host.Integer one i f s = (f, s)
shows_stored types ty host.Word one i f s = (f, s)
shows_stored types ty host.LongInt one i f s = (f, s)
shows_stored types ty host.Char one i f s = absurd i
shows_stored types ty host.Boolean one i f s = absurd i
shows_stored types ty host.Enumeration one i f s = absurd i

enumerated : (one : Option TypeDef) → is_enumeration one ≡ true → IsEnumeration one
enumerated (Some (type.Ordinal host.Enumeration low high)) e = refl
enumerated one e = let bad : ⊥ = cc in absurd bad

module _ (types : List TypeDef) (ty : TypeId) where
  hosted : (o : Option TypeId) → IsEnumeration (definition types ty) → IsEnumeration (definition types (host_by types ty o))
  hosted None h = h
  hosted (Some base) h = by (is_enumeration (definition types base)) refl
    where
      by : (b : Bool) → is_enumeration (definition types base) ≡ b → IsEnumeration (definition types (cond b base ty))
      by true e = enumerated (definition types base) e
      by false e = h

  shows_by : (one : Option TypeDef) → definition types ty ≡ one → Shows types (sort_by types ty one) one
  shows_by None e = tt
  shows_by (Some (type.Ordinal host.ShortInt low high)) e = shows_stored types (host_in types ty) (integer_storage low high) (Some (type.Ordinal host.ShortInt low high)) (integers low high) refl tt
  shows_by (Some (type.Ordinal host.Byte low high)) e = shows_stored types (host_in types ty) (integer_storage low high) (Some (type.Ordinal host.Byte low high)) (integers low high) refl tt
  shows_by (Some (type.Ordinal host.Integer low high)) e = shows_stored types (host_in types ty) (integer_storage low high) (Some (type.Ordinal host.Integer low high)) (integers low high) refl tt
  shows_by (Some (type.Ordinal host.Word low high)) e = shows_stored types (host_in types ty) (integer_storage low high) (Some (type.Ordinal host.Word low high)) (integers low high) refl tt
  shows_by (Some (type.Ordinal host.LongInt low high)) e = shows_stored types (host_in types ty) (integer_storage low high) (Some (type.Ordinal host.LongInt low high)) (integers low high) refl tt
  shows_by (Some (type.Ordinal host.Char low high)) e = refl
  shows_by (Some (type.Ordinal host.Boolean low high)) e = refl
  shows_by (Some (type.Ordinal host.Enumeration low high)) e =
      let it : IsEnumeration (definition types ty) = rw e refl in
      (refl, refl, hosted (set_base (definition types (type_id (ty.0 + 1)))) it)
  shows_by (Some (type.Str max)) e = tt
  shows_by (Some (type.SetOf base)) e = tt
  shows_by (Some (type.PointerTo target)) e = tt
  shows_by (Some (type.ArrayOf index element)) e = tt
  shows_by (Some (type.RecordOf fields)) e = tt
  shows_by (Some (type.ObjectOf parent dynamic fields methods)) e = tt
  shows_by (Some (type.Procedural header)) e = tt

  pub shows_type : Shows types (sort_of_type types ty) (definition types ty)
  shows_type = shows_by (definition types ty) refl

-- ---- expressions

shows_known : (types : List TypeDef) (n : ℤ) (s : Sort) (one : Option TypeDef) → Shows types s one → Shows types (known n s) one
shows_known types n (sort.Integer r) one h = h
shows_known types n s one h = h

value_pointer : (types : List TypeDef) (one : Option TypeDef) → IsValue types value.Nil one → IsPointer one
value_pointer types (Some (type.PointerTo target)) h = tt
value_pointer types one h = absurd h

value_set : (types : List TypeDef) (one : Option TypeDef) (bytes : List ℕ) → IsValue types (value.Elements bytes) one → IsSet one
value_set types (Some (type.SetOf base)) bytes h = tt
value_set types one bytes h = absurd h

shows_constant : (types : List TypeDef) (ty : TypeId) (v : Value) → IsValue types v (definition types ty)
    → Shows types (rules.sort_of_constant types ty v) (definition types ty)
shows_constant types ty (value.Number n) h = shows_known types n (sort_of_type types ty) (definition types ty) (shows_type types ty)
shows_constant types ty (value.Chars bytes) h = shows_type types ty
shows_constant types ty value.Nil h = value_pointer types (definition types ty) h
shows_constant types ty (value.Elements []) h = value_set types (definition types ty) [] h
shows_constant types ty (value.Elements (x ∷ bytes)) h = shows_type types ty

shows_result : (types : List TypeDef) (ty : Option TypeId) → Shows types (rules.sort_of_result types ty) (option_and_then (definition types) ty)
shows_result types None = tt
shows_result types (Some ty) = shows_type types ty

is_set : (one : Option TypeDef) (base : TypeId) → one ≡ Some (type.SetOf base) → IsSet one
is_set one base e = subst (λ (o : Option TypeDef). IsSet o) (sym e) tt

-- the sort of a typed expression says what its type is
pub shows : (s : Scope) (e : Expression) → IsTyped s e → Shows s.types (rules.sort_of s.types e) (sort_of s.types e)
shows s (Const ty v) h = shows_constant s.types ty v h
shows s (SetOf ty NoElements) h = is_set (definition s.types ty) h.0 h.1
shows s (SetOf ty listed) h = shows_type s.types ty
shows s e h = shows_result s.types (type_of e)
