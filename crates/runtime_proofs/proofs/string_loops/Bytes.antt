-- Bytes of one place as bytes of another one, and texts that stand one behind the other.
use Rattle.std.proofs.Common.{◌≡◌, ℕ, zero, suc, ◌+◌, List, [], ◌∷◌, ◌++◌, length, drop, sym, ap, subst, ◌∙◌, arith}
use Rattle.common_values.specs.integers.Words.{w16, wrapping_add}
use Rattle.flat_code.specs.declared.memory.Place.{Place}
use Rattle.flat_code.specs.Memory.{Cells, address_of}
use Rattle.runtime_proofs.specs.strings_in_memory.Strings.{HasBytes, place}

pub address-shift : (segment o n i : ℕ) → address_of (place segment (wrapping_add w16 o n)) i ≡ address_of (place segment o) (n + i)
address-shift segment o n i = omega arith

pub bytes-append : (m : Cells) (p : Place) (i j : ℕ) (a b : List ℕ) → j ≡ i + length a → HasBytes m p i a → HasBytes m p j b → HasBytes m p i (a ++ b)
bytes-append m p i j [] b e first second = subst (λ k. HasBytes m p k b) (omega (arith, e)) second
bytes-append m p i j (x ∷ a) b e first second = (first.0, first.1, bytes-append m p (i + 1) j a b (omega (arith, e)) first.2 second)

-- the bytes behind so many of a place
pub bytes-shift : (m : Cells) (segment o n i j : ℕ) (bytes : List ℕ) → j ≡ n + i → HasBytes m (place segment (wrapping_add w16 o n)) i bytes → HasBytes m (place segment o) j bytes
bytes-shift m segment o n i j [] e has = tt
bytes-shift m segment o n i j (b ∷ bytes) e has =
    (ap m (ap (address_of (place segment o)) e ∙ sym (address-shift segment o n i)) ∙ has.0, has.1, bytes-shift m segment o n (i + 1) (j + 1) bytes (omega (arith, e)) has.2)

pub bytes-unshift : (m : Cells) (segment o n i j : ℕ) (bytes : List ℕ) → j ≡ n + i → HasBytes m (place segment o) j bytes → HasBytes m (place segment (wrapping_add w16 o n)) i bytes
bytes-unshift m segment o n i j [] e has = tt
bytes-unshift m segment o n i j (b ∷ bytes) e has =
    (ap m (address-shift segment o n i ∙ ap (address_of (place segment o)) (sym e)) ∙ has.0, has.1, bytes-unshift m segment o n (i + 1) (j + 1) bytes (omega (arith, e)) has.2)

-- what stands behind a prefix of a text
pub bytes-behind : (m : Cells) (p : Place) (i n : ℕ) (bytes : List ℕ) → HasBytes m p i bytes → HasBytes m p (i + n) (drop n bytes)
bytes-behind m p i n bytes has = by n i bytes (i + n) (omega arith) has
  where
    by : (n i : ℕ) (bytes : List ℕ) (j : ℕ) → j ≡ i + n → HasBytes m p i bytes → HasBytes m p j (drop n bytes)
    by zero i bytes j e has = subst (λ k. HasBytes m p k bytes) (omega (arith, e)) has
    by (suc n) i [] j e has = tt
    by (suc n) i (b ∷ bytes) j e has = by n (i + 1) bytes j (omega (arith, e)) has.2
