-- Numbers from their bytes.
use Rattle.std.proofs.Common.{◌≡◌, ℕ, zero, suc, ◌+◌, ◌-◌, ◌*◌, ◌/◌, ◌%◌, ◌^◌, ◌<◌, ◌≤◌, [], ◌∷◌, ◌++◌, ap, arith}
use Rattle.std.specs.Prelude.{pos, ◌==◌, if◌then◌else◌}
use Rattle.std.proofs.Math.Nat.{mod-eq_of_lt, pow-suc, pow-le-pow_right}
use Rattle.type_layout.specs.declared.definitions.Host.{Host}
use Rattle.type_layout.specs.declared.definitions.Host.TheVariants as host
use Rattle.type_layout.specs.Storage.{width_of}
use Rattle.common_values.specs.Ordinals.{meant_by}
use Rattle.tp_meaning.specs.Shapes.{stored_among, kept_as, elements_in}

-- one more byte below some
pub byte_more : (n byte word : ℕ) → byte < 256 → word < 256 ^ n → byte + 256 * word < 256 ^ suc n
byte_more n byte word b w = let p : 256 ^ suc n ≡ 256 ^ n * 256 = pow-suc 256 n in omega (arith, b, w, p)

-- a byte below at most three bytes
pub byte_fits : (n word : ℕ) → word < 256 ^ n → n ≤ 3 → 256 * word + 255 < 4294967296
byte_fits n word w h = let p : 256 ^ n ≤ 256 ^ 3 = pow-le-pow_right (omega arith) h in omega (arith, w, p)

word_kept : (h : Host) (word : ℕ) → word < 256 ^ width_of h → kept_as h (pos word) ≡ meant_by (stored_among h) word
word_kept host.ShortInt word w = ap (meant_by (stored_among host.ShortInt)) (mod-eq_of_lt w)
word_kept host.Byte word w = ap (meant_by (stored_among host.Byte)) (mod-eq_of_lt w)
word_kept host.Integer word w = ap (meant_by (stored_among host.Integer)) (mod-eq_of_lt w)
word_kept host.Word word w = ap (meant_by (stored_among host.Word)) (mod-eq_of_lt w)
word_kept host.LongInt word w = ap (meant_by (stored_among host.LongInt)) (mod-eq_of_lt w)
word_kept host.Char word w = ap (meant_by (stored_among host.Char)) (mod-eq_of_lt w)
word_kept host.Boolean word w = ap (meant_by (stored_among host.Boolean)) (mod-eq_of_lt w)
word_kept host.Enumeration word w = ap (meant_by (stored_among host.Enumeration)) (mod-eq_of_lt w)

-- a word of at most a host's bytes is kept as it is
pub kept_front : (h : Host) (word n : ℕ) → word < 256 ^ n → n ≤ width_of h → kept_as h (pos word) ≡ meant_by (stored_among h) word
kept_front h word n w m =
    let p : 256 ^ n ≤ 256 ^ width_of h = pow-le-pow_right (omega arith) m in
    word_kept h word (omega (arith, w, p))

-- the lowest of some bits, and those above it
pub elements_more : (count element byte : ℕ) → 0 < count → elements_in count element byte ≡ (if byte % 2 == 1 then element ∷ [] else []) ++ elements_in (count - 1) (element + 1) (byte / 2)
elements_more zero element byte h = absurd (omega (arith, h))
elements_more (suc n) element byte h =
    let below : n ≡ suc n - 1 = omega arith in
    ap (λ m. (if byte % 2 == 1 then element ∷ [] else []) ++ elements_in m (element + 1) (byte / 2)) below
