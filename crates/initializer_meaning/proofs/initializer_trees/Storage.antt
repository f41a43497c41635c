-- What stores a subrange holds each of its values.
use Rattle.std.proofs.Common.{◌≡◌, Bool, true, false, cond, ◌&&◌, refl, arith}
use Rattle.std.proofs.Math.IntN.{ℤ, pos, negsuc}
use Rattle.std.specs.Prelude.{◌≤ℤ◌, int_le}
use Rattle.std.proofs.lemmas.Int.{ints}
use Rattle.std.proofs.lemmas.Bool.{and_parts, and_from}
use Rattle.type_layout.specs.declared.definitions.Host.{Host}
use Rattle.type_layout.specs.declared.definitions.Host.TheVariants as host
use Rattle.type_layout.specs.Storage.{least_of, greatest_of, holds, integer_storage, storage_of}

rising : (m n : ℤ) → int_le m n ≡ true → m ≤ℤ n
rising m n e = grind (arith, ints)

at_most : (m n : ℤ) → m ≤ℤ n → int_le m n ≡ true
at_most m n h = grind (arith, ints)

own : (least greatest low high n : ℤ) → least ≤ℤ low → high ≤ℤ greatest → low ≤ℤ n → n ≤ℤ high → (int_le least n && int_le n greatest) ≡ true
own least greatest low high n a b l r =
    and_from (int_le least n) (int_le n greatest) (at_most least n (omega (arith, ints))) (at_most n greatest (omega (arith, ints)))

-- a host that holds the bounds holds what lies between them
between : (one : Host) (low high n : ℤ) → holds one low high ≡ true → low ≤ℤ n → n ≤ℤ high → holds one n n ≡ true
between one low high n h l r =
    let p = and_parts (int_le (least_of one) low) (int_le high (greatest_of one)) h in
    own (least_of one) (greatest_of one) low high n (rising (least_of one) low p.0) (rising high (greatest_of one) p.1) l r

pick : (low high n : ℤ) (a b c d : Bool) → holds host.ShortInt low high ≡ a → holds host.Byte low high ≡ b → holds host.Integer low high ≡ c → holds host.Word low high ≡ d
    → holds host.LongInt low high ≡ true → low ≤ℤ n → n ≤ℤ high
    → holds (cond a host.ShortInt (cond b host.Byte (cond c host.Integer (cond d host.Word host.LongInt)))) n n ≡ true
pick low high n true b c d p q r s t l u = between host.ShortInt low high n p l u
pick low high n false true c d p q r s t l u = between host.Byte low high n q l u
pick low high n false false true d p q r s t l u = between host.Integer low high n r l u
pick low high n false false false true p q r s t l u = between host.Word low high n s l u
pick low high n false false false false p q r s t l u = between host.LongInt low high n t l u

integers : (low high n : ℤ) → holds host.LongInt low high ≡ true → low ≤ℤ n → n ≤ℤ high → holds (integer_storage low high) n n ≡ true
integers low high n t l r =
    pick low high n (holds host.ShortInt low high) (holds host.Byte low high) (holds host.Integer low high) (holds host.Word low high) refl refl refl refl t l r

wide : (low high : ℤ) → negsuc 2147483647 ≤ℤ low → high ≤ℤ pos 2147483647 → holds host.LongInt low high ≡ true
wide low high a b =
    and_from (int_le (negsuc 2147483647) low) (int_le high (pos 2147483647)) (at_most (negsuc 2147483647) low a) (at_most high (pos 2147483647) b)

narrow : (low high n least greatest : ℤ) → least ≤ℤ low → high ≤ℤ greatest → negsuc 2147483647 ≤ℤ least → greatest ≤ℤ pos 2147483647 → low ≤ℤ n → n ≤ℤ high
    → holds (integer_storage low high) n n ≡ true
narrow low high n least greatest a b p q l r = integers low high n (wide low high (omega (arith, ints)) (omega (arith, ints))) l r

pub stored : (one : Host) (low high n : ℤ) → least_of one ≤ℤ low → high ≤ℤ greatest_of one → low ≤ℤ n → n ≤ℤ high → holds (storage_of one low high) n n ≡ true
stored host.ShortInt low high n a b l r = narrow low high n (negsuc 127) (pos 127) a b (omega (arith, ints)) (omega (arith, ints)) l r
stored host.Byte low high n a b l r = narrow low high n (pos 0) (pos 255) a b (omega (arith, ints)) (omega (arith, ints)) l r
stored host.Integer low high n a b l r = narrow low high n (negsuc 32767) (pos 32767) a b (omega (arith, ints)) (omega (arith, ints)) l r
stored host.Word low high n a b l r = narrow low high n (pos 0) (pos 65535) a b (omega (arith, ints)) (omega (arith, ints)) l r
stored host.LongInt low high n a b l r = integers low high n (wide low high a b) l r
stored host.Char low high n a b l r = own (pos 0) (pos 255) low high n a b l r
stored host.Boolean low high n a b l r = own (pos 0) (pos 1) low high n a b l r
stored host.Enumeration low high n a b l r = own (pos 0) (pos 255) low high n a b l r
