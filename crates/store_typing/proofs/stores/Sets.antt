-- Sets that cells hold: their elements lie within the bytes of their bounds.
use Rattle.std.proofs.Common.{◌≡◌, ℕ, zero, suc, ◌+◌, ◌-◌, ◌*◌, ◌/◌, ◌<◌, ◌≤◌, ◌⊎◌, inl, inr, Bool, true, false, ◌&&◌, List, [], ◌∷◌, refl, arith}
use Rattle.std.specs.Prelude.{ℤ, pos, negsuc, ◌≤ℤ◌, unsigned_abs, nat_le, not, All, filter}
use Rattle.std.specs.List.{range_with_len}
use Rattle.std.proofs.lemmas.List.Elements.{All-nil, All-cons, All-append, All-weaker, All-filter, filter_passes}
use Rattle.std.proofs.lemmas.Bool.Decides.{nat_tests}
use Rattle.std.proofs.lemmas.Int.{ints}
use Rattle.tp_meaning.specs.type_layout.Storage.{set_bytes}
use Rattle.tp_meaning.specs.common_values.Sets.{contains, ordinals_between, with_range, byte_of, has_byte, assigned}
use Rattle.tp_meaning.specs.Trees.{Value, Elements}
use Rattle.store_typing.specs.types.Forms.{Members, members_between, all_members}
use Rattle.store_typing.specs.stores.Worlds.{World, LiesWithin, IsHeld}

-- an element below 256 is one of any set, and the other way round
pub below-lies : (element : ℕ) → element < 256 → LiesWithin 0 32 element
below-lies element h = (omega arith, omega (arith, h))

pub lies-below : (element : ℕ) → LiesWithin 0 32 element → element < 256
lies-below element h = omega (arith, h.1)

-- ---- a set that gets a range

-- the ordinals of a range whose ends are below 256
pub range_lies : (low high : ℕ) → high < 256 → All (LiesWithin 0 32) (ordinals_between low high)
range_lies low high small = counted low (high + 1 - low) (few (high + 1 - low) refl)
  where
    few : (n : ℕ) → high + 1 - low ≡ n → (low + n ≤ 256) ⊎ (n ≡ 0)
    few zero e = inr refl
    few (suc n) e = inl (omega (arith, e, small))

    counted : (low n : ℕ) → (low + n ≤ 256) ⊎ (n ≡ 0) → All (LiesWithin 0 32) (range_with_len low n)
    counted low zero h = All-nil (LiesWithin 0 32)
    counted low (suc n) h = All-cons (LiesWithin 0 32) low (range_with_len (low + 1) n) (below-lies low (first h)) (counted (low + 1) n (rest h))
      where
        first : (low + suc n ≤ 256) ⊎ (suc n ≡ 0) → low < 256
        first (inl p) = omega (arith, p)
        first (inr p) = absurd (omega (arith, p))

        rest : (low + suc n ≤ 256) ⊎ (suc n ≡ 0) → (low + 1 + n ≤ 256) ⊎ (n ≡ 0)
        rest (inl p) = inl (omega (arith, p))
        rest (inr p) = absurd (omega (arith, p))

-- a set that gets them
pub more_lies : (set : List ℕ) (low high : ℕ) → All (LiesWithin 0 32) set → high < 256 → All (LiesWithin 0 32) (with_range set low high)
more_lies set low high are small =
    let ordinals = ordinals_between low high in
    All-append (LiesWithin 0 32) set (filter (λ e. not (contains set e)) ordinals) are (All-filter (λ e. not (contains set e)) (LiesWithin 0 32) ordinals (range_lies low high small))

-- ---- what is assigned

both : (p q : Bool) → (p && q) ≡ true → (p ≡ true) × (q ≡ true)
both true q h = (refl, h)
both false q h = absurd cc

at-most : (m n : ℕ) → nat_le m n ≡ true → m ≤ n
at-most m n h = grind (arith, nat_tests, h)

-- what is kept of a set that is assigned lies within the bytes
kept-lies : (low high element : ℕ) → has_byte low high element ≡ true → LiesWithin (byte_of low) (high / 8 - low / 8 + 1) element
kept-lies low high element h =
    let p = both (nat_le (byte_of low) (byte_of element)) (nat_le (byte_of element) (byte_of high)) h in
    let above = at-most (byte_of low) (byte_of element) p.0 in
    let under = at-most (byte_of element) (byte_of high) p.1 in
    (above, omega (arith, above, under))

pub assigned-lies : (low high : ℤ) (set : List ℕ) → All (LiesWithin (byte_of (unsigned_abs low)) (set_bytes low high)) (assigned (unsigned_abs low) (unsigned_abs high) set)
assigned-lies low high set =
    let l = unsigned_abs low in
    let h = unsigned_abs high in
    All-weaker (λ e. has_byte l h e ≡ true) (LiesWithin (byte_of l) (set_bytes low high)) (λ e t. kept-lies l h e t) (assigned l h set) (filter_passes (λ e. has_byte l h e) set)

-- ---- bounds within a byte

pub record AreByteBounds (bounds : ℤ × ℤ) : Type 0 where
  pub least : pos 0 ≤ℤ bounds.0
  pub order : bounds.0 ≤ℤ bounds.1
  pub most : bounds.1 ≤ℤ pos 255

pub few-bytes : (low high : ℤ) → pos 0 ≤ℤ low → low ≤ℤ high → high ≤ℤ pos 255 → byte_of (unsigned_abs low) + set_bytes low high ≤ 32
few-bytes (negsuc l) high p q r = absurd (omega (arith, ints, p))
few-bytes (pos l) (negsuc h) p q r = absurd (omega (arith, ints, q))
few-bytes (pos l) (pos h) p q r = few l h (omega (arith, ints, q)) (omega (arith, ints, r))
  where
    few : (l h : ℕ) → l ≤ h → h ≤ 255 → l / 8 + (h / 8 - l / 8 + 1) ≤ 32
    few l h q r = omega (arith, q, r)

-- a set over bounds is a set
pub held-wide : (w : World) (bounds : ℤ × ℤ) → AreByteBounds bounds → (v : Value) → IsHeld w (members_between bounds) v → IsHeld w all_members v
held-wide w bounds are (Elements set) is =
    let few = few-bytes bounds.0 bounds.1 are.least are.order are.most in
    All-weaker (LiesWithin (byte_of (unsigned_abs bounds.0)) (set_bytes bounds.0 bounds.1)) (LiesWithin 0 32) (λ e h. (omega arith, omega (arith, h.1, few))) set is
held-wide w bounds are v is = absurd is
