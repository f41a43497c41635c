-- The type of Ord holds whatever its argument gives.
use Rattle.std.proofs.Common.{◌≡◌, Bool, true, false, cond, List, [], Option, Some, None, refl, sym, subst, arith}
use Rattle.std.proofs.Math.IntN.{ℤ}
use Rattle.std.specs.Option.{option_and_then}
use Rattle.std.proofs.lemmas.Int.{ints}
use Rattle.well_formed.specs.type_layout.declared.definitions.TypeId.{TypeId}
use Rattle.well_formed.specs.type_layout.declared.definitions.Host.{Host}
use Rattle.well_formed.specs.type_layout.declared.definitions.Host.TheVariants as host
use Rattle.well_formed.specs.type_layout.declared.definitions.TypeDef.{TypeDef}
use Rattle.well_formed.specs.type_layout.declared.definitions.TypeDef.TheVariants as type
use Rattle.well_formed.specs.type_layout.Storage.{holds, integer_storage, storage_of}
use Rattle.well_formed.specs.typed_tree.declared.expressions.Value.TheVariants as value
use Rattle.well_formed.specs.typed_tree.Expressions.{Expression, Const, SetOf, NoElements, type_of}
use Rattle.well_formed.specs.typed_tree.type_fits.Fits.{definition, stored_as, held_as, IsValue}
use Rattle.well_formed.specs.Scopes.{Scope}
use Rattle.well_formed.specs.Typed.{IsTyped}
use Rattle.well_formed.specs.typed_tree.type_fits.Standard.{sort_of, HoldsAll, HoldsValue}
use Rattle.call_rules.specs.typing_rules.declared.sorts.Sort.{Sort}
use Rattle.call_rules.specs.typing_rules.declared.sorts.Sort.TheVariants as sort
use Rattle.call_rules.specs.typing_rules.Sorts as sorts
use Rattle.call_rules.specs.typing_rules.Sorts.{integer, word, long_int, sort_stored, sort_by, sort_of_type, sort_of_result, known, number_type}
use Rattle.call_rules.specs.Casts.{IsOrdinal}
use Rattle.call_rules.specs.standard_rules.Standard.{held_type}
use Rattle.rules_well_formed.specs.nodes.Tables.{IsSound}
use Rattle.rules_well_formed.proofs.nodes.Ordinals.{within, holding, IsIntegerHost, integers, IsStoredAs, IsWideType, holding_wide, stored_integer, stored_word, stored_long}
use Rattle.rules_well_formed.proofs.nodes.Sorted.{Shows, shows_type}
use Rattle.rules_well_formed.proofs.nodes.Combined.{value_range}

-- a number of a byte is one of an Integer
byte_held : (n : ℤ) → holds host.Byte n n ≡ true → holds host.Integer n n ≡ true
byte_held n h =
    let b = within host.Byte n h in
    let l = b.0 in
    let r = b.1 in
    holding host.Integer n (omega (arith, ints)) (omega (arith, ints))

-- a constant of what is stored as this
constant_held : (types : List TypeDef) (one : Option TypeDef) (w : Host) (n : ℤ) → stored_as one ≡ Some w → IsValue types (value.Number n) one → holds (held_as w) n n ≡ true
constant_held types (Some (type.Ordinal base low high)) w n e h =
    let same : storage_of base low high ≡ w = cc in
    subst (λ (x : Host). holds (held_as x) n n ≡ true) same h
constant_held types one w n e h = absurd h

module _ (types : List TypeDef) (sound : IsSound types) where
  -- what a type holds that integers have
  abbrev pub Holder : Sort → Option Host → Type 0
  Holder x of = (w : Host) × IsStoredAs types (held_type x) w × HoldsAll (Some w) of

  integer_all : (ty : TypeId) (of : Host) → IsIntegerHost of → Holder (sort_stored ty of) (Some of)
  integer_all ty host.ShortInt h = (host.Integer, stored_integer types sound, refl)
  integer_all ty host.Byte h = (host.Integer, stored_integer types sound, refl)
  integer_all ty host.Integer h = (host.Integer, stored_integer types sound, refl)
  integer_all ty host.Word h = (host.Word, stored_word types sound, refl)
  integer_all ty host.LongInt h = (host.LongInt, stored_long types sound, refl)
  integer_all ty host.Char h = absurd h
  integer_all ty host.Boolean h = absurd h
  integer_all ty host.Enumeration h = absurd h

  type_all : (ty : TypeId) (one : Option TypeDef) → IsOrdinal (sort_by types ty one) → Holder (sort_by types ty one) (stored_as one)
  type_all ty (Some (type.Ordinal host.ShortInt low high)) k = integer_all (sorts.host_in types ty) (integer_storage low high) (integers low high)
  type_all ty (Some (type.Ordinal host.Byte low high)) k = integer_all (sorts.host_in types ty) (integer_storage low high) (integers low high)
  type_all ty (Some (type.Ordinal host.Integer low high)) k = integer_all (sorts.host_in types ty) (integer_storage low high) (integers low high)
  type_all ty (Some (type.Ordinal host.Word low high)) k = integer_all (sorts.host_in types ty) (integer_storage low high) (integers low high)
  type_all ty (Some (type.Ordinal host.LongInt low high)) k = integer_all (sorts.host_in types ty) (integer_storage low high) (integers low high)
  type_all ty (Some (type.Ordinal host.Char low high)) k = (host.Integer, stored_integer types sound, refl)
  type_all ty (Some (type.Ordinal host.Boolean low high)) k = (host.Integer, stored_integer types sound, refl)
  type_all ty (Some (type.Ordinal host.Enumeration low high)) k = (host.Integer, stored_integer types sound, refl)
  type_all ty one k = absurd k

  result_all : (o : Option TypeId) → IsOrdinal (sort_of_result types o) → Holder (sort_of_result types o) (stored_as (option_and_then (definition types) o))
  result_all None k = absurd k
  result_all (Some ty) k = type_all ty (definition types ty) k

  -- ---- constants

  -- a type that integers have, and holds the number
  abbrev pub NumberHolder : Sort → ℤ → Type 0
  NumberHolder x n = (w : Host) × IsStoredAs types (held_type x) w × (holds w n n ≡ true)

  abbrev TypeHolder : TypeId → ℤ → Type 0
  TypeHolder ty n = (w : Host) × IsStoredAs types ty w × (holds w n n ≡ true)

  number_by : (n : ℤ) → holds host.LongInt n n ≡ true → (p q : Bool) → holds host.Integer n n ≡ p → holds host.Word n n ≡ q → TypeHolder (cond p integer (cond q word long_int)) n
  number_by n l true q e f = (host.Integer, stored_integer types sound, e)
  number_by n l false true e f = (host.Word, stored_word types sound, f)
  number_by n l false false e f = (host.LongInt, stored_long types sound, l)

  number_holder : (n : ℤ) → holds host.LongInt n n ≡ true → TypeHolder (number_type n) n
  number_holder n l = number_by n l (holds host.Integer n n) (holds host.Word n n) refl refl

  constant_all : (n : ℤ) (x : Sort) (one : Option TypeDef) → holds host.LongInt n n ≡ true → IsValue types (value.Number n) one → Shows types x one → IsOrdinal (known n x) → NumberHolder (known n x) n
  constant_all n (sort.Integer r) one l v h k = number_holder n l
  constant_all n sort.Boolean one l v h k = (host.Integer, stored_integer types sound, byte_held n (constant_held types one host.Boolean n h v))
  constant_all n sort.Char one l v h k = (host.Integer, stored_integer types sound, char_held n (constant_held types one host.Char n h v))
    where
      char_held : (n : ℤ) → holds host.Char n n ≡ true → holds host.Integer n n ≡ true
      char_held n h = byte_held n h
  constant_all n (sort.Enumeration ty) one l v h k = (host.Integer, stored_integer types sound, enumeration_held n (constant_held types one host.Enumeration n h.0 v))
    where
      enumeration_held : (n : ℤ) → holds host.Enumeration n n ≡ true → holds host.Integer n n ≡ true
      enumeration_held n h = byte_held n h
  constant_all n x one l v h k = absurd k

module _ (s : Scope) (sound : IsSound s.types) where
  held_at : (x : Sort) (e : Expression) → Holder s.types sound x (stored_as (sort_of s.types e)) → ((w : Host) → HoldsAll (Some w) (stored_as (sort_of s.types e)) → HoldsValue s.types (Some w) e)
      → HoldsValue s.types (stored_as (definition s.types (held_type x))) e
  held_at x e h f = subst (λ (o : Option Host). HoldsValue s.types o e) (sym h.1) (f h.0 h.2)

  -- whatever an ordinal gives is held by the type of Ord
  pub value_held : (e : Expression) → IsTyped s e → IsOrdinal (sorts.sort_of s.types e) → HoldsValue s.types (stored_as (definition s.types (held_type (sorts.sort_of s.types e)))) e
  value_held (Const own (value.Number n)) typed k =
      let h = constant_all s.types sound n (sort_of_type s.types own) (definition s.types own) (value_range s sound (definition s.types own) n typed) typed (shows_type s.types own) k in
      subst (λ (o : Option Host). HoldsValue s.types o (Const own (value.Number n))) (sym h.1) h.2
  value_held (Const own value.Nil) typed k = absurd k
  value_held (Const own (value.Elements [])) typed k = absurd k
  value_held (SetOf own NoElements) typed k = absurd k
  value_held e typed k = held_at (sort_of_result s.types (type_of e)) e (result_all s.types sound (type_of e) k) (λ w h. h)

  pub held_wide : (x : Sort) → IsWideType s.types (held_type x)
  held_wide (sort.Integer r) = holding_wide s.types sound r
  held_wide x = (host.Integer, stored_integer s.types sound, tt)
