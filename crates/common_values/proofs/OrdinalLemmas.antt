-- What the integer types store, shift and leave.
use Rattle.std.proofs.Common.{◌≡◌, ℕ, zero, suc, ◌+◌, ◌*◌, ◌/◌, ◌%◌, ◌^◌, ◌<◌, ◌≤◌, refl, sym, ap, subst, ◌∙◌, arith, lit<}
use Rattle.std.proofs.Math.IntN.{ℤ, pos, negsuc, neg_ℤ, ◌+ℤ◌, ◌-ℤ◌, ◌*ℤ◌}
use Rattle.std.specs.Prelude.{◌≤ℤ◌}
use Rattle.std.specs.Int.{int_wrap, w64}
use Rattle.std.specs.Int.RustNames.{FitsSigned, int_div, int_rem, unsigned_abs}
use Rattle.std.proofs.Math.Nat.{mod-eq_of_lt, mod-le, lt_of_le_of_lt, div-le_self, pow-le-pow_right}
use Rattle.std.proofs.lemmas.Int.{ints, quot-rem, quot_is, to_z-of_z, to_z_pos, unsigned_abs-mul, int_wrap-sub_right}
use Rattle.std.proofs.lemmas.Nat.{mul-mod_second, mul-le, one_shl}
use Rattle.std.specs.Int.Signed.{mag, mag_rem}
use mir.Val.{to_z, of_z}
use Rattle.common_values.specs.integers.Words.{Width, w8, w16, w32, bits, IsWord, word_of, cast_signed, cast_unsigned}
use Rattle.common_values.proofs.integers.WordLaws.{word_of-word, word_of-signed, signed-fits, signed_laws, signed-word_of, word_of-int_wrap, word_of-add, word_of-mul, shifted_left-out, shifted_right-out}
use Rattle.common_values.specs.declared.ordinals.IntegerType.{IntegerType}
use Rattle.common_values.specs.declared.ordinals.IntegerType.TheVariants.{ShortInt, Byte, Integer, Word, LongInt}
use Rattle.common_values.specs.Ordinals.{width_of, IsValueOf, meant_by, kept, quotient, remainder, shift_count, left_shift, right_shift}
use Rattle.common_values.specs.OrdinalLaws.{StorageLaws, OperatorLaws}

-- ---- a word of the type

within_8 : (z : ℤ) → FitsSigned w8 z → (negsuc 127 ≤ℤ z) × (z ≤ℤ pos 127)
within_8 z h = (omega (arith, ints), omega (arith, ints))

within_16 : (z : ℤ) → FitsSigned w16 z → (negsuc 32767 ≤ℤ z) × (z ≤ℤ pos 32767)
within_16 z h = (omega (arith, ints), omega (arith, ints))

within_32 : (z : ℤ) → FitsSigned w32 z → (negsuc 2147483647 ≤ℤ z) × (z ≤ℤ pos 2147483647)
within_32 z h = (omega (arith, ints), omega (arith, ints))

meant-within : (type : IntegerType) (n : ℕ) → IsWord (width_of type) n → IsValueOf type (meant_by type n)
meant-within ShortInt n h = within_8 (cast_signed w8 n) (signed-fits w8 n h)
meant-within Byte n h = (omega (arith, ints), omega (arith, ints))
meant-within Integer n h = within_16 (cast_signed w16 n) (signed-fits w16 n h)
meant-within Word n h = (omega (arith, ints), omega (arith, ints))
meant-within LongInt n h = within_32 (cast_signed w32 n) (signed-fits w32 n h)

word_of-meant : (type : IntegerType) (n : ℕ) → IsWord (width_of type) n → word_of (width_of type) (meant_by type n) ≡ n
word_of-meant ShortInt n h = word_of-signed w8 n h
word_of-meant Byte n h = mod-eq_of_lt h
word_of-meant Integer n h = word_of-signed w16 n h
word_of-meant Word n h = mod-eq_of_lt h
word_of-meant LongInt n h = word_of-signed w32 n h

fits_8 : (z : ℤ) → (negsuc 127 ≤ℤ z) × (z ≤ℤ pos 127) → FitsSigned w8 z
fits_8 z h = let l = h.0 in let r = h.1 in omega (arith, ints)

fits_16 : (z : ℤ) → (negsuc 32767 ≤ℤ z) × (z ≤ℤ pos 32767) → FitsSigned w16 z
fits_16 z h = let l = h.0 in let r = h.1 in omega (arith, ints)

fits_32 : (z : ℤ) → (negsuc 2147483647 ≤ℤ z) × (z ≤ℤ pos 2147483647) → FitsSigned w32 z
fits_32 z h = let l = h.0 in let r = h.1 in omega (arith, ints)

natural : (z : ℤ) (m : ℕ) → (pos 0 ≤ℤ z) × (z ≤ℤ pos m) → (n : ℕ) × (z ≡ pos n) × (n ≤ m)
natural (pos n) m h = (n, refl, let r = h.1 in omega (arith, ints))
natural (negsuc n) m h = absurd (let l = h.0 in omega (arith, ints))

unsigned_same : (w : Width) (z : ℤ) (m : ℕ) → m < 2 ^ bits w → (pos 0 ≤ℤ z) × (z ≤ℤ pos m) → pos (word_of w z) ≡ z
unsigned_same w z m small h =
    let n = natural z m h in
    let below = n.2 in
    let e : word_of w z ≡ n.0 = ap (word_of w) n.1 ∙ mod-eq_of_lt (omega arith) in
    ap pos e ∙ sym n.1

kept-same : (type : IntegerType) (z : ℤ) → IsValueOf type z → kept type z ≡ z
kept-same ShortInt z h = (signed_laws w8).there z (fits_8 z h)
kept-same Byte z h = unsigned_same w8 z 255 (lit< tt) h
kept-same Integer z h = (signed_laws w16).there z (fits_16 z h)
kept-same Word z h = unsigned_same w16 z 65535 (lit< tt) h
kept-same LongInt z h = (signed_laws w32).there z (fits_32 z h)

word_of-kept : (type : IntegerType) (z : ℤ) → word_of (width_of type) (kept type z) ≡ word_of (width_of type) z
word_of-kept type z = word_of-meant type (word_of (width_of type) z) (word_of-word (width_of type) z)

sum_words : (w : Width) (a b c d : ℤ) → word_of w a ≡ word_of w c → word_of w b ≡ word_of w d → word_of w (a +ℤ b) ≡ word_of w (c +ℤ d)
sum_words w a b c d e f = rw (word_of-add w a b, e, f) (sym (word_of-add w c d))

product_words : (w : Width) (a b c d : ℤ) → word_of w a ≡ word_of w c → word_of w b ≡ word_of w d → word_of w (a *ℤ b) ≡ word_of w (c *ℤ d)
product_words w a b c d e f = rw (word_of-mul w a b, e, f) (sym (word_of-mul w c d))

pub storage_laws : (type : IntegerType) → StorageLaws type
storage_laws type = record {
  within = λ z. meant-within type (word_of (width_of type) z) (word_of-word (width_of type) z);
  same = kept-same type;
  low_bytes = word_of-kept type;
  sum = λ a b. ap (meant_by type) (sum_words (width_of type) (kept type a) (kept type b) a b (word_of-kept type a) (word_of-kept type b));
  product = λ a b. ap (meant_by type) (product_words (width_of type) (kept type a) (kept type b) a b (word_of-kept type a) (word_of-kept type b));
}

-- ---- shifts

nothing_meant : (type : IntegerType) → meant_by type 0 ≡ pos 0
nothing_meant ShortInt = refl
nothing_meant Byte = refl
nothing_meant Integer = refl
nothing_meant Word = refl
nothing_meant LongInt = refl

shifted_word : (w : Width) (z : ℤ) (k : ℕ) → bits w ≤ k → word_of w (z *ℤ pos (2 ^ k)) ≡ 0
shifted_word w z k h = word_of-mul w z (pos (2 ^ k)) ∙ mul-mod_second (word_of w z) (2 ^ k) (2 ^ bits w) ∙ shifted_left-out w (word_of w z) k h

pub left_out : (type : IntegerType) (z count : ℤ) → bits (width_of type) ≤ shift_count count → left_shift type z count ≡ pos 0
left_out type z count h = ap (meant_by type) (shifted_word (width_of type) z (shift_count count) h) ∙ nothing_meant type

pub right_out : (type : IntegerType) (z count : ℤ) → bits (width_of type) ≤ shift_count count → right_shift type z count ≡ pos 0
right_out type z count h = ap (meant_by type) (shifted_right-out (width_of type) (word_of (width_of type) z) (shift_count count) (word_of-word (width_of type) z) h) ∙ nothing_meant type

-- ---- what a division leaves

same_wrap : (w : Width) (b d : ℤ) → word_of w b ≡ word_of w d → int_wrap w b ≡ int_wrap w d
same_wrap w b d e = sym (signed-word_of w b) ∙ ap (cast_signed w) e ∙ signed-word_of w d

difference_words : (w : Width) (a b d : ℤ) → word_of w b ≡ word_of w d → word_of w (a -ℤ b) ≡ word_of w (a -ℤ d)
difference_words w a b d e =
    sym (word_of-int_wrap w (a -ℤ b))
    ∙ ap (cast_unsigned w) (sym (int_wrap-sub_right w a b) ∙ ap (λ (x : ℤ). int_wrap w (a -ℤ x)) (same_wrap w b d e) ∙ int_wrap-sub_right w a d)
    ∙ word_of-int_wrap w (a -ℤ d)

left_over : (p r a : ℤ) → p +ℤ r ≡ a → a -ℤ p ≡ r
left_over p r a e = omega (arith, ints)

rem-fits : (w : Width) (a b : ℤ) → FitsSigned w a → FitsSigned w (int_rem a b)
rem-fits w a b h = record { sfits = lt_of_le_of_lt (mag_rem a b) h.sfits }

rem-natural : (m : ℕ) (a b : ℤ) → (pos 0 ≤ℤ a) × (a ≤ℤ pos m) → (pos 0 ≤ℤ b) × (b ≤ℤ pos m) → (pos 0 ≤ℤ int_rem a b) × (int_rem a b ≤ℤ pos m)
rem-natural m a b h k =
    let n = natural a m h in
    let d = natural b m k in
    let small = n.2 in
    let le = mod-le n.0 d.0 in
    rw (n.1, d.1) (omega (arith, ints), omega (arith, ints))

rem-within : (type : IntegerType) (a b : ℤ) → IsValueOf type a → IsValueOf type b → IsValueOf type (int_rem a b)
rem-within ShortInt a b h k = within_8 (int_rem a b) (rem-fits w8 a b (fits_8 a h))
rem-within Byte a b h k = rem-natural 255 a b h k
rem-within Integer a b h k = within_16 (int_rem a b) (rem-fits w16 a b (fits_16 a h))
rem-within Word a b h k = rem-natural 65535 a b h k
rem-within LongInt a b h k = within_32 (int_rem a b) (rem-fits w32 a b (fits_32 a h))

pub remainder-is : (type : IntegerType) (a b : ℤ) → IsValueOf type a → IsValueOf type b → remainder type a b ≡ int_rem a b
remainder-is type a b h k =
    let product = product_words (width_of type) (quotient type a b) b (int_div a b) b (word_of-kept type (int_div a b)) refl in
    let rest = left_over (int_div a b *ℤ b) (int_rem a b) a (quot-rem a b) in
    ap (meant_by type) (difference_words (width_of type) a (quotient type a b *ℤ b) (int_div a b *ℤ b) product)
    ∙ ap (kept type) rest
    ∙ kept-same type (int_rem a b) (rem-within type a b h k)

pub operator_laws : (type : IntegerType) → OperatorLaws type
operator_laws type = record { left_out = left_out type; right_out = right_out type; remainder = λ a b h k some. remainder-is type a b h k }

-- ---- what the code computes on 64 bits

mag-neg : (n : ℕ) → mag (neg_ℤ (pos n)) ≤ n
mag-neg zero = omega arith
mag-neg (suc n) = omega arith

mag-int_div : (a d : ℤ) → mag (int_div a d) ≤ mag a + 1
mag-int_div (pos a) (pos b) = let l = div-le_self a b in omega arith
mag-int_div (pos a) (negsuc b) = let l = div-le_self a (suc b) in let m = mag-neg (a / suc b) in omega arith
mag-int_div (negsuc a) (pos b) = let l = div-le_self (suc a) b in let m = mag-neg (suc a / b) in omega arith
mag-int_div (negsuc a) (negsuc b) = let l = div-le_self (suc a) (suc b) in omega arith

wider : (a : ℤ) → FitsSigned w32 a → FitsSigned w64 a
wider a h = let f = h.sfits in record { sfits = omega arith }

pub quotient_is : (type : IntegerType) (a b x y r : ℤ) → FitsSigned w32 a → FitsSigned w32 b → FitsSigned w32 r → x ≡ to_z w32 (of_z w32 a) → y ≡ to_z w32 (of_z w32 b)
    → r ≡ kept type (to_z w64 (of_z w64 (int_div (to_z w64 (of_z w64 x)) (to_z w64 (of_z w64 y))))) → to_z w32 (of_z w32 r) ≡ quotient type a b
quotient_is type a b x y r f g h e k q =
    let ea : x ≡ a = e ∙ to_z-of_z w32 a f in
    let eb : y ≡ b = k ∙ to_z-of_z w32 b g in
    let small = mag-int_div a b in
    let m = f.sfits in
    let fits : FitsSigned w64 (int_div a b) = record { sfits = omega arith } in
    let same : to_z w64 (of_z w64 (int_div (to_z w64 (of_z w64 x)) (to_z w64 (of_z w64 y)))) ≡ int_div a b = rw (ea, eb) (quot_is w64 a b (wider a f) (wider b g) fits) in
    to_z-of_z w32 r h ∙ q ∙ ap (kept type) same

abs-small : (z : ℤ) → FitsSigned w32 z → unsigned_abs z ≤ 2 ^ 31
abs-small (pos n) h = let f = h.sfits in omega arith
abs-small (negsuc n) h = let f = h.sfits in omega arith

mag-abs : (z : ℤ) → mag z ≤ unsigned_abs z
mag-abs (pos n) = omega arith
mag-abs (negsuc n) = omega arith

pub small-fits : (z : ℤ) → mag z ≤ 2 ^ 62 → FitsSigned w64 z
small-fits z h = record { sfits = omega arith }

power-le : (k : ℕ) → k < 32 → 2 ^ k ≤ 2 ^ 31
power-le k h = let l : k ≤ 31 = omega arith in pow-le-pow_right {n = 2} (omega arith) l

far_bounds : (p : ℤ) → mag p ≤ 2 ^ 62 → (negsuc 4611686018427387904 ≤ℤ p) × (p ≤ℤ pos 4611686018427387904)
far_bounds (pos n) h = (omega (arith, ints), omega (arith, ints))
far_bounds (negsuc n) h = (omega (arith, ints), omega (arith, ints))

far_fits : (x p : ℤ) → FitsSigned w32 x → mag p ≤ 2 ^ 62 → FitsSigned w64 (x -ℤ p)
far_fits x p f h = let b = far_bounds p h in let low = b.0 in let high = b.1 in omega (arith, ints)

pub zeros-small : (z : ℤ) (k : ℕ) → FitsSigned w32 z → k < 32 → mag (z *ℤ pos (2 ^ k)) ≤ 2 ^ 62
zeros-small z k f h =
    let b = power-le k h in
    let p = mul-le (unsigned_abs z) (2 ^ k) (2 ^ 31) (2 ^ 31) (abs-small z f) b in
    let e = unsigned_abs-mul z (pos (2 ^ k)) in
    let m = mag-abs (z *ℤ pos (2 ^ k)) in
    omega arith

pub power-is : (k : ℕ) → k < 32 → to_z w64 (1 * 2 ^ k % 2 ^ 64) ≡ pos (2 ^ k)
power-is k h =
    let b = power-le k h in
    let small : 2 ^ k < 2 ^ 63 = omega arith in
    rw (one_shl k 64 (omega arith)) (to_z_pos w64 (2 ^ k) small)

pub zeros_is : (z x : ℤ) (k : ℕ) → FitsSigned w32 z → k < 32 → x ≡ to_z w32 (of_z w32 z) → to_z w64 (of_z w64 x) *ℤ to_z w64 (1 * 2 ^ k % 2 ^ 64) ≡ z *ℤ pos (2 ^ k)
zeros_is z x k f h e =
    let same : x ≡ z = e ∙ to_z-of_z w32 z f in
    rw (same, to_z-of_z w64 z (wider z f), power-is k h) refl

pub zeros_fit : (z x : ℤ) (k : ℕ) → FitsSigned w32 z → k < 32 → x ≡ to_z w32 (of_z w32 z) → FitsSigned w64 (to_z w64 (of_z w64 x) *ℤ to_z w64 (1 * 2 ^ k % 2 ^ 64))
zeros_fit z x k f h e = subst (FitsSigned w64) (sym (zeros_is z x k f h e)) (small-fits (z *ℤ pos (2 ^ k)) (zeros-small z k f h))

pub counts : (type : IntegerType) (count : ℤ) (n m : ℕ) → FitsSigned w32 count → n ≡ shift_count (to_z w32 (of_z w32 count)) → m ≡ bits (width_of type) → m ≤ n → bits (width_of type) ≤ shift_count count
counts type count n m f e k h =
    let same : n ≡ shift_count count = e ∙ ap shift_count (to_z-of_z w32 count f) in
    omega arith

pub remainder_from : (type : IntegerType) (a b q x p r : ℤ) → FitsSigned w32 a → FitsSigned w32 b → FitsSigned w32 q → FitsSigned w32 r → x ≡ to_z w32 (of_z w32 a) → q ≡ quotient type (to_z w32 (of_z w32 a)) (to_z w32 (of_z w32 b))
    → p ≡ to_z w32 (of_z w32 q) *ℤ to_z w32 (of_z w32 b) → mag p ≤ 2 ^ 62 → r ≡ kept type (to_z w64 (of_z w64 (to_z w64 (of_z w64 x) -ℤ to_z w64 (of_z w64 p)))) → to_z w32 (of_z w32 r) ≡ remainder type a b
remainder_from type a b q x p r f g h k ex eq ep small er =
    let sa = to_z-of_z w32 a f in
    let sb = to_z-of_z w32 b g in
    let ix : x ≡ a = ex ∙ sa in
    let iq : q ≡ quotient type a b = eq ∙ rw (sa, sb) refl in
    let ip : p ≡ quotient type a b *ℤ b = ep ∙ rw (sb, to_z-of_z w32 q h, iq) refl in
    let m = f.sfits in
    let fp : FitsSigned w64 p = small-fits p small in
    let fx : FitsSigned w64 x = subst (FitsSigned w64) (sym ix) (wider a f) in
    let fd : FitsSigned w64 (x -ℤ p) = far_fits x p (subst (FitsSigned w32) (sym ix) f) small in
    to_z-of_z w32 r k ∙ er ∙ rw (to_z-of_z w64 x fx, to_z-of_z w64 p fp, to_z-of_z w64 (x -ℤ p) fd, ix, ip) refl
