-- Ordinals are read back.
use Rattle.std.proofs.Common.{◌≡◌, ℕ, suc, ◌-◌, ◌^◌, ◌<◌, true, List, ◌++◌, take, ap, ◌∙◌, arith}
use Rattle.std.proofs.Math.IntN.{ℤ, pos, negsuc}
use Rattle.std.specs.Prelude.{◌≤ℤ◌, int_le}
use Rattle.std.specs.Int.{w8, w16, w32, cast_unsigned, to_le_bytes}
use Rattle.std.proofs.lemmas.Int.{ints}
use Rattle.std.proofs.lemmas.Bool.{and_parts}
use Rattle.common_values.specs.integers.Words.{word_of}
use Rattle.type_layout.specs.declared.definitions.Host.{Host}
use Rattle.type_layout.specs.declared.definitions.Host.TheVariants as host
use Rattle.type_layout.specs.Storage.{least_of, greatest_of, holds}
use Rattle.common_values.specs.declared.ordinals.IntegerType.{IntegerType}
use Rattle.common_values.specs.declared.ordinals.IntegerType.TheVariants as integer
use Rattle.common_values.specs.Ordinals.{width_of, IsValueOf, meant_by}
use Rattle.common_values.proofs.OrdinalLemmas.{storage_laws}
use Rattle.tp_meaning.specs.Trees.{Tree, Ordinal, holding}
use Rattle.tp_meaning.specs.Shapes.{word_of_bytes, read_ordinal}
use Rattle.constant_checker.specs.stored_values.Stored.{ordinal_bytes}

rising : (m n : ℤ) → int_le m n ≡ true → m ≤ℤ n
rising m n e = grind (arith, ints)

within : (one : Host) (n : ℤ) → holds one n n ≡ true → (least_of one ≤ℤ n) × (n ≤ℤ greatest_of one)
within one n h =
    let p = and_parts (int_le (least_of one) n) (int_le n (greatest_of one)) h in
    (rising (least_of one) n p.0, rising n (greatest_of one) p.1)

-- ---- the word of the low bytes of a number

word_8 : (z : ℤ) → (negsuc 127 ≤ℤ z) × (z ≤ℤ pos 255) → word_of_bytes (take 1 (to_le_bytes w32 (cast_unsigned w32 z))) ≡ word_of w8 z
word_8 (pos m) h = omega arith
word_8 (negsuc m) h = let l = h.0 in omega (arith, ints)

word_16 : (z : ℤ) → (negsuc 32767 ≤ℤ z) × (z ≤ℤ pos 65535) → word_of_bytes (take 2 (to_le_bytes w32 (cast_unsigned w32 z))) ≡ word_of w16 z
word_16 (pos m) h = omega arith
word_16 (negsuc m) h = let l = h.0 in omega (arith, ints)

whole : (x : ℕ) → x < 2 ^ 32 → word_of_bytes (take 4 (to_le_bytes w32 x)) ≡ x
whole x h = omega arith

word_32 : (z : ℤ) → (negsuc 2147483647 ≤ℤ z) × (z ≤ℤ pos 2147483647) → word_of_bytes (take 4 (to_le_bytes w32 (cast_unsigned w32 z))) ≡ word_of w32 z
word_32 (pos m) h = let r = h.1 in let e = whole m (omega (arith, ints)) in omega (arith, e)
word_32 (negsuc m) h = let l = h.0 in let e = whole (2 ^ 32 - suc m) (omega arith) in omega (arith, ints, e)

-- ---- ordinals

meant : (type : IntegerType) (n : ℤ) (word : ℕ) → word ≡ word_of (width_of type) n → IsValueOf type n → meant_by type word ≡ n
meant type n word e v = ap (meant_by type) e ∙ (storage_laws type).same n v

abbrev holding_ordinal : List ℕ → ℤ → Tree × List ℕ
holding_ordinal rest z = (holding (Ordinal z), rest)

read_as : (rest : List ℕ) (m n : ℤ) → m ≡ n → holding_ordinal rest m ≡ holding_ordinal rest n
read_as rest m n e = ap (holding_ordinal rest) e

pub ordinals : (one : Host) (n : ℤ) (rest : List ℕ) → holds one n n ≡ true → read_ordinal one (ordinal_bytes one n ++ rest) ≡ (holding (Ordinal n), rest)
ordinals host.ShortInt n rest h =
    let b = within host.ShortInt n h in
    read_as rest _ n (meant integer.ShortInt n _ (word_8 n (b.0, let r = b.1 in omega (arith, ints))) b)
ordinals host.Byte n rest h =
    let b = within host.Byte n h in
    read_as rest _ n (meant integer.Byte n _ (word_8 n (let l = b.0 in omega (arith, ints), b.1)) b)
ordinals host.Integer n rest h =
    let b = within host.Integer n h in
    read_as rest _ n (meant integer.Integer n _ (word_16 n (b.0, let r = b.1 in omega (arith, ints))) b)
ordinals host.Word n rest h =
    let b = within host.Word n h in
    read_as rest _ n (meant integer.Word n _ (word_16 n (let l = b.0 in omega (arith, ints), b.1)) b)
ordinals host.LongInt n rest h =
    let b = within host.LongInt n h in
    read_as rest _ n (meant integer.LongInt n _ (word_32 n b) b)
ordinals host.Char n rest h =
    let b = within host.Char n h in
    read_as rest _ n (meant integer.Byte n _ (word_8 n (let l = b.0 in omega (arith, ints), b.1)) b)
ordinals host.Boolean n rest h =
    let b = within host.Boolean n h in
    let below : n ≤ℤ pos 255 = let r = b.1 in omega (arith, ints) in
    read_as rest _ n (meant integer.Byte n _ (word_8 n (let l = b.0 in omega (arith, ints), below)) (b.0, below))
ordinals host.Enumeration n rest h =
    let b = within host.Enumeration n h in
    read_as rest _ n (meant integer.Byte n _ (word_8 n (let l = b.0 in omega (arith, ints), b.1)) b)
