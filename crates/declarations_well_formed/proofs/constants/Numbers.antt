-- Numbers, truths, characters and texts are constants.
use Rattle.std.proofs.Common.{◌≡◌, ℕ, ◌<◌, ◌≤◌, ◌^◌, Bool, true, false, cond, All, List, [], length, Option, Some, refl, sym, subst, arith}
use Rattle.std.proofs.Math.IntN.{ℤ, pos, negsuc, neg_ℤ}
use Rattle.std.specs.Prelude.{◌≤ℤ◌}
use Rattle.std.specs.Ordering.{int_eq}
use Rattle.std.proofs.lemmas.Int.{ints}
use Rattle.std.specs.Int.RustNames.{FitsSigned}
use Rattle.std.proofs.Math.Nat.{div-le_self}
use Rattle.bodies_well_formed.specs.common_values.integers.Words.{w32, IsWord, word_of, shifted_right}
use Rattle.bodies_well_formed.proofs.common_values_proofs.integers.WordLaws.{word_of-word, signed-fits}
use Rattle.bodies_well_formed.specs.type_layout.declared.definitions.TypeId.{TypeId}
use Rattle.bodies_well_formed.specs.type_layout.declared.definitions.Host.{Host}
use Rattle.bodies_well_formed.specs.type_layout.declared.definitions.Host.TheVariants as host
use Rattle.bodies_well_formed.specs.type_layout.declared.definitions.TypeDef.{TypeDef}
use Rattle.bodies_well_formed.specs.type_layout.declared.definitions.TypeDef.TheVariants as type
use Rattle.bodies_well_formed.specs.type_layout.Storage.{holds}
use Rattle.bodies_well_formed.specs.typed_tree.declared.expressions.Value.{Value}
use Rattle.bodies_well_formed.specs.typed_tree.declared.expressions.Value.TheVariants as value
use Rattle.bodies_well_formed.specs.typed_tree.declared.expressions.UnaryOp.{UnaryOp}
use Rattle.bodies_well_formed.specs.typed_tree.declared.expressions.UnaryOp.TheVariants.{Plus, Minus, Not}
use Rattle.bodies_well_formed.specs.common_values.declared.ordinals.IntegerType.{IntegerType}
use Rattle.bodies_well_formed.specs.common_values.declared.ordinals.IntegerType.TheVariants as integer
use Rattle.bodies_well_formed.specs.common_values.Ordinals.{IsValueOf, kept, shift_count, right_shift}
use Rattle.bodies_well_formed.proofs.common_values_proofs.OrdinalLemmas.{storage_laws}
use Rattle.bodies_well_formed.specs.typed_tree.type_fits.Fits.{definition, stored_as, IsValue}
use Rattle.bodies_well_formed.specs.well_formed.Scopes.{Scope}
use Rattle.bodies_well_formed.specs.typing_rules.Sorts.{char, boolean, word, long_int}
use Rattle.bodies_well_formed.specs.typing_rules.Sorts as sorts
use Rattle.bodies_well_formed.specs.typing_rules.Operators.{sign_value}
use Rattle.bodies_well_formed.specs.constant_checker.declared.constant_expressions.constants.Constant.{Constant}
use Rattle.bodies_well_formed.specs.constant_checker.constant_expressions.Values as values
use Rattle.bodies_well_formed.specs.constant_checker.constant_expressions.Values.{number_of}
use Rattle.bodies_well_formed.specs.rules_well_formed.nodes.Tables.{IsSound}
use Rattle.bodies_well_formed.proofs.rules_well_formed_proofs.nodes.Ordinals.{within, holding, value_held, stored_integer, stored_word, stored_long, stored_char, stored_boolean, text_type}
use Rattle.bodies_well_formed.proofs.rules_well_formed_proofs.nodes.Combined.{number_value, value_range}
use Rattle.declarations_well_formed.specs.constants.Whole.{IsWholeOrdinal, IsConstantOf}

-- ---- numbers of 32 bits

abbrev pub IsLong : ℤ → Type 0
IsLong n = holds host.LongInt n n ≡ true

pub kept_long : (n : ℤ) → IsLong (kept integer.LongInt n)
kept_long n = let b = (storage_laws integer.LongInt).within n in holding host.LongInt (kept integer.LongInt n) b.0 b.1

short_long : (t : IntegerType) (n : ℤ) → IsValueOf t n → IsLong n
short_long integer.ShortInt n h = let l = h.0 in let r = h.1 in holding host.LongInt n (omega (arith, ints)) (omega (arith, ints))
short_long integer.Byte n h = let l = h.0 in let r = h.1 in holding host.LongInt n (omega (arith, ints)) (omega (arith, ints))
short_long integer.Integer n h = let l = h.0 in let r = h.1 in holding host.LongInt n (omega (arith, ints)) (omega (arith, ints))
short_long integer.Word n h = let l = h.0 in let r = h.1 in holding host.LongInt n (omega (arith, ints)) (omega (arith, ints))
short_long integer.LongInt n h = holding host.LongInt n h.0 h.1

pub kept_short : (t : IntegerType) (n : ℤ) → IsLong (kept t n)
kept_short t n = short_long t (kept t n) ((storage_laws t).within n)

within_32 : (z : ℤ) → FitsSigned w32 z → (negsuc 2147483647 ≤ℤ z) × (z ≤ℤ pos 2147483647)
within_32 z h = (omega (arith, ints), omega (arith, ints))

pub shifted_long : (n count : ℤ) → IsLong (right_shift integer.LongInt n count)
shifted_long n count =
    let small = word_of-word w32 n in
    let less = div-le_self (word_of w32 n) (2 ^ shift_count count) in
    let fits : IsWord w32 (shifted_right (word_of w32 n) (shift_count count)) = omega (arith, small, less) in
    let b = within_32 (right_shift integer.LongInt n count) (signed-fits w32 (shifted_right (word_of w32 n) (shift_count count)) fits) in
    holding host.LongInt (right_shift integer.LongInt n count) b.0 b.1

pub small_long : (n : ℕ) → n < 65536 → IsLong (pos n)
small_long n h = holding host.LongInt (pos n) (omega (arith, ints)) (omega (arith, ints, h))

opposite : (n : ℤ) → IsLong n → (b : Bool) → int_eq n (negsuc 2147483647) ≡ b → IsLong (cond b n (neg_ℤ n))
opposite n h true e = h
opposite n h false e =
    let b = within host.LongInt n h in
    holding host.LongInt (neg_ℤ n) (least n b.0 b.1 e) (greatest n b.0 b.1 e)
  where
    least : (m : ℤ) → negsuc 2147483647 ≤ℤ m → m ≤ℤ pos 2147483647 → int_eq m (negsuc 2147483647) ≡ false → negsuc 2147483647 ≤ℤ neg_ℤ m
    least m l r e = grind (arith, ints)

    greatest : (m : ℤ) → negsuc 2147483647 ≤ℤ m → m ≤ℤ pos 2147483647 → int_eq m (negsuc 2147483647) ≡ false → neg_ℤ m ≤ℤ pos 2147483647
    greatest m l r e = grind (arith, ints)

pub sign_long : (o : UnaryOp) (n : ℤ) → IsLong n → IsLong (sign_value o n)
sign_long Minus n h = opposite n h (int_eq n (negsuc 2147483647)) refl
sign_long Plus n h = h
sign_long Not n h = h

pub byte_held : (n : ℕ) → n < 256 → holds host.Byte (pos n) (pos n) ≡ true
byte_held n h = holding host.Byte (pos n) (omega (arith, ints)) (omega (arith, ints, h))

-- ---- constants

abbrev pub AreBytes : List ℕ → Type 0
AreBytes bytes = All (λ (byte : ℕ). byte < 256) bytes

-- of what a constant is
abbrev pub IsGood : List TypeDef → Constant → Type 0
IsGood types c = IsConstantOf types c.ty c.value

pub same_good : (types : List TypeDef) (c d : Constant) → c ≡ d → IsGood types d → IsGood types c
same_good types c d e h = subst (λ (x : Constant). IsGood types x) (sym e) h

-- a scope that has types alone
abbrev pub bare : List TypeDef → Scope
bare types = record {
  types = types;
  others = record { units = []; globals = []; routines = [] };
  globals = [];
  routines = [];
  around = [];
  levels = [];
  withs = [];
}

abbrev IsOther : Host → Type 0
IsOther host.Enumeration = ⊥
IsOther _ = Unit {0}

-- no enumeration
own_by : (types : List TypeDef) (ty : TypeId) (one : Option TypeDef) (w : Host) → stored_as one ≡ Some w → IsOther w → IsWholeOrdinal types ty one
own_by types ty (Some (type.Ordinal host.Enumeration low high)) w e h =
    let same : w ≡ host.Enumeration = cc in
    absurd (subst (λ (x : Host). IsOther x) same h)
own_by types ty one w e h = tt

module _ (types : List TypeDef) (sound : IsSound types) where
  pub own_number : (p q : Bool) → IsWholeOrdinal types (cond p sorts.integer (cond q word long_int)) (definition types (cond p sorts.integer (cond q word long_int)))
  own_number true q = own_by types sorts.integer (definition types sorts.integer) host.Integer (stored_integer types sound) tt
  own_number false true = own_by types word (definition types word) host.Word (stored_word types sound) tt
  own_number false false = own_by types long_int (definition types long_int) host.LongInt (stored_long types sound) tt

  pub number_good : (n : ℤ) → IsLong n → IsGood types (values.integer n)
  number_good n h = record {
    value = number_value (bare types) sound n h;
    whole = own_number (holds host.Integer n n) (holds host.Word n n);
  }

  pub kept_good : (n : ℤ) → IsGood types (values.integer (kept integer.LongInt n))
  kept_good n = number_good (kept integer.LongInt n) (kept_long n)

  -- a Boolean is 0 or 1, and its byte holds more
  pub truth_good : (n : ℤ) → pos 0 ≤ℤ n → n ≤ℤ pos 1 → IsGood types (values.truth n)
  truth_good n l r = record {
    value = value_held types (definition types boolean) host.Boolean n (stored_boolean types sound) (holding host.Boolean n l r);
    whole = own_by types boolean (definition types boolean) host.Boolean (stored_boolean types sound) tt;
  }

  pub character_good : (byte : ℕ) → byte < 256 → IsGood types (values.character byte)
  character_good byte h = record {
    value = value_held types (definition types char) host.Char (pos byte) (stored_char types sound) (byte_held byte h);
    whole = own_by types char (definition types char) host.Char (stored_char types sound) tt;
  }

  pub text_good : (bytes : List ℕ) → length bytes ≤ 255 → AreBytes bytes → IsGood types (values.text bytes)
  text_good bytes h each = record { value = subst (λ (d : Option TypeDef). IsValue types (value.Chars bytes) d) (sym (text_type types sound)) (h, each); whole = tt }

  -- the type of a size
  pub word_good : (n : ℕ) → n ≤ 65535 → IsConstantOf types word (value.Number (pos n))
  word_good n h = record {
    value = value_held types (definition types word) host.Word (pos n) (stored_word types sound) (holding host.Word (pos n) (omega (arith, ints)) (omega (arith, ints, h)));
    whole = own_by types word (definition types word) host.Word (stored_word types sound) tt;
  }

  -- the number of what is a constant is one of 32 bits
  pub value_long : (v : Value) (one : Option TypeDef) → IsValue types v one → IsLong (number_of v)
  value_long (value.Number n) one h = value_range (bare types) sound one n h
  value_long v one h = small_long 0 (omega arith)
