-- How ordinals are stored, and the predeclared types.
use Rattle.std.proofs.Common.{◌≡◌, ℕ, Bool, true, false, cond, List, ◌++◌, Option, Some, refl, sym, subst, arith}
use Rattle.std.proofs.Math.IntN.{ℤ}
use Rattle.std.specs.Prelude.{◌≤ℤ◌, int_le, slice_get}
use Rattle.std.proofs.lemmas.Int.{ints}
use Rattle.std.proofs.lemmas.Bool.{and_parts, and_from}
use Rattle.well_formed.specs.type_layout.declared.definitions.TypeId.{TypeId}
use Rattle.well_formed.specs.type_layout.declared.definitions.Host.{Host}
use Rattle.well_formed.specs.type_layout.declared.definitions.Host.TheVariants as host
use Rattle.well_formed.specs.type_layout.declared.definitions.TypeDef.{TypeDef}
use Rattle.well_formed.specs.type_layout.declared.definitions.TypeDef.TheVariants as type
use Rattle.well_formed.specs.type_layout.Storage.{least_of, greatest_of, holds, integer_storage, storage_of}
use Rattle.well_formed.specs.typed_tree.declared.expressions.Value.TheVariants as value
use Rattle.call_rules.specs.scopes.Predeclared.{type_id, type_list, whole}
use Rattle.well_formed.specs.typed_tree.type_fits.Fits.{definition, stored_as, held_as, IsWide, IsValue}
use Rattle.call_rules.specs.typing_rules.declared.sorts.Range.{Range}
use Rattle.call_rules.specs.typing_rules.Sorts.{integer, word, long_int, char, boolean, string, is_within, are_within, holding_type, common_type}
use Rattle.call_rules.specs.typing_rules.Wanted.{predefined}
use Rattle.rules_well_formed.specs.nodes.Tables.{IsSound}

-- ---- bounds

pub rising : (m n : ℤ) → int_le m n ≡ true → m ≤ℤ n
rising m n e = grind (arith, ints)

pub at_most : (m n : ℤ) → m ≤ℤ n → int_le m n ≡ true
at_most m n h = grind (arith, ints)

pub within : (one : Host) (n : ℤ) → holds one n n ≡ true → (least_of one ≤ℤ n) × (n ≤ℤ greatest_of one)
within one n h =
    let p = and_parts (int_le (least_of one) n) (int_le n (greatest_of one)) h in
    (rising (least_of one) n p.0, rising n (greatest_of one) p.1)

pub holding : (one : Host) (n : ℤ) → least_of one ≤ℤ n → n ≤ℤ greatest_of one → holds one n n ≡ true
holding one n l r = and_from (int_le (least_of one) n) (int_le n (greatest_of one)) (at_most (least_of one) n l) (at_most n (greatest_of one) r)

-- a Boolean's byte holds more than the host does
pub held : (one : Host) (n : ℤ) → holds one n n ≡ true → holds (held_as one) n n ≡ true
held host.Boolean n h =
    let b = within host.Boolean n h in
    let r = b.1 in
    holding host.Byte n b.0 (omega (arith, ints))
held host.ShortInt n h = h
held host.Byte n h = h
held host.Integer n h = h
held host.Word n h = h
held host.LongInt n h = h
held host.Char n h = h
held host.Enumeration n h = h

-- what a type's storage holds is a value of it
pub value_held : (types : List TypeDef) (one : Option TypeDef) (w : Host) (n : ℤ) → stored_as one ≡ Some w → holds w n n ≡ true → IsValue types (value.Number n) one
value_held types (Some (type.Ordinal host low high)) w n e h =
    let same : storage_of host low high ≡ w = cc in
    subst (λ (x : Host). holds (held_as x) n n ≡ true) (sym same) (held w n h)
value_held types one w n e h = let bad : ⊥ = cc in absurd bad

-- ---- hosts of integers

abbrev pub IsIntegerHost : Host → Type 0
IsIntegerHost host.Char = ⊥
IsIntegerHost host.Boolean = ⊥
IsIntegerHost host.Enumeration = ⊥
IsIntegerHost _ = Unit {0}

pick : (a b c d : Bool) → IsIntegerHost (cond a host.ShortInt (cond b host.Byte (cond c host.Integer (cond d host.Word host.LongInt))))
pick true b c d = tt
pick false true c d = tt
pick false false true d = tt
pick false false false true = tt
pick false false false false = tt

pub integers : (low high : ℤ) → IsIntegerHost (integer_storage low high)
integers low high = pick (holds host.ShortInt low high) (holds host.Byte low high) (holds host.Integer low high) (holds host.Word low high)

-- ---- the predeclared types

pub at_begin : (types rest : List TypeDef) (k : ℕ) (one : TypeDef) → types ≡ type_list ++ rest → slice_get (type_list ++ rest) k ≡ Some one
    → definition types (type_id k) ≡ Some one
at_begin types rest k one e h = subst (λ (t : List TypeDef). slice_get t k ≡ Some one) (sym e) h

-- an ordinal type that is stored so
abbrev pub IsStoredAs : List TypeDef → TypeId → Host → Type 0
IsStoredAs types ty w = stored_as (definition types ty) ≡ Some w

-- a type that operators on integers give
abbrev pub IsWideType : List TypeDef → TypeId → Type 0
IsWideType types ty = (w : Host) × IsStoredAs types ty w × IsWide (Some w)

module _ (types : List TypeDef) (sound : IsSound types) where
  stored_at : (k : ℕ) (w : Host) (one : TypeDef) → slice_get (type_list ++ sound.begins.0) k ≡ Some one → stored_as (Some one) ≡ Some w → IsStoredAs types (type_id k) w
  stored_at k w one h e =
      subst (λ (o : Option TypeDef). stored_as o ≡ Some w) (sym (at_begin types sound.begins.0 k one sound.begins.1 h)) e

  pub stored_byte : IsStoredAs types (type_id 1) host.Byte
  stored_byte = stored_at 1 host.Byte (whole host.Byte) refl refl

  pub stored_integer : IsStoredAs types integer host.Integer
  stored_integer = stored_at 2 host.Integer (whole host.Integer) refl refl

  pub stored_word : IsStoredAs types word host.Word
  stored_word = stored_at 3 host.Word (whole host.Word) refl refl

  pub stored_long : IsStoredAs types long_int host.LongInt
  stored_long = stored_at 4 host.LongInt (whole host.LongInt) refl refl

  pub stored_char : IsStoredAs types char host.Char
  stored_char = stored_at 5 host.Char (whole host.Char) refl refl

  pub stored_boolean : IsStoredAs types boolean host.Boolean
  stored_boolean = stored_at 6 host.Boolean (whole host.Boolean) refl refl

  pub text_type : definition types string ≡ Some (type.Str 255)
  text_type = at_begin types sound.begins.0 7 (type.Str 255) sound.begins.1 refl

  pub set_types : (definition types (type_id 8) ≡ Some (type.SetOf (type_id 1))) × (definition types (type_id 9) ≡ Some (type.SetOf (type_id 5))) × (definition types (type_id 10) ≡ Some (type.SetOf (type_id 6)))
  set_types = (
    at_begin types sound.begins.0 8 (type.SetOf (type_id 1)) sound.begins.1 refl,
    at_begin types sound.begins.0 9 (type.SetOf (type_id 5)) sound.begins.1 refl,
    at_begin types sound.begins.0 10 (type.SetOf (type_id 6)) sound.begins.1 refl,
  )

  -- the predefined type of a host is stored as it
  pub predefined_stored : (w : Host) (ty : TypeId) → IsStoredAs types ty w → IsStoredAs types (predefined w ty) w
  predefined_stored host.ShortInt ty h = stored_at 0 host.ShortInt (whole host.ShortInt) refl refl
  predefined_stored host.Byte ty h = stored_byte
  predefined_stored host.Integer ty h = stored_integer
  predefined_stored host.Word ty h = stored_word
  predefined_stored host.LongInt ty h = stored_long
  predefined_stored host.Char ty h = stored_char
  predefined_stored host.Boolean ty h = stored_boolean
  predefined_stored host.Enumeration ty h = h

  wide_by : (a b : Bool) → IsWideType types (cond a integer (cond b word long_int))
  wide_by true b = (host.Integer, stored_integer, tt)
  wide_by false true = (host.Word, stored_word, tt)
  wide_by false false = (host.LongInt, stored_long, tt)

  pub holding_wide : (r : Range) → IsWideType types (holding_type r)
  holding_wide r = wide_by (is_within host.Integer r) (is_within host.Word r)

  pub common_wide : (r s : Range) → IsWideType types (common_type r s)
  common_wide r s = wide_by (are_within host.Integer r s) (are_within host.Word r s)
