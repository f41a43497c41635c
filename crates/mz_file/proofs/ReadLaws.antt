-- Words and far pointers as they are read one after another.
use Rattle.std.proofs.Common.{◌≡◌, ℕ, zero, suc, ◌+◌, ◌-◌, ◌*◌, ◌<◌, List, [], ◌∷◌, ◌++◌, length, get_or, refl, sym, ap, subst, All, drop, length-take, length-drop, arith}
use Rattle.cpu_8086.specs.declared.registers.Far.{Far}
use Rattle.mz_file.specs.Format.{said_size, header_size, image_of, IsWithin, IsLong, HasPages}
use Rattle.mz_file.specs.Cause.{IsFirstOutside}
use Rattle.mz_file.specs.Words.{word_at, far_at, words_at, fars_at}

pub length-fars_at : (bytes : List ℕ) (place count : ℕ) → length (fars_at bytes place count) ≡ count
length-fars_at bytes place zero = refl
length-fars_at bytes place (suc count) = omega (arith, length-fars_at bytes (place + 4) count)

pub get_or-fars_at : (bytes : List ℕ) (place count k at : ℕ) (none : Far) → k < count → at ≡ place + 4 * k → get_or (fars_at bytes place count) k none ≡ far_at bytes at
get_or-fars_at bytes place zero k at none below is = absurd (omega arith)
get_or-fars_at bytes place (suc count) zero at none below is =
    let here : place ≡ at = omega arith in
    ap (far_at bytes) here
get_or-fars_at bytes place (suc count) (suc k) at none below is = get_or-fars_at bytes (place + 4) count k at none (omega arith) (omega arith)

-- one more at the end
pub fars_at-more : (bytes : List ℕ) (place count at : ℕ) → at ≡ place + 4 * count → fars_at bytes place (suc count) ≡ fars_at bytes place count ++ far_at bytes at ∷ []
fars_at-more bytes place zero at is =
    let here : place ≡ at = omega arith in
    ap (λ place. far_at bytes place ∷ []) here
fars_at-more bytes place (suc count) at is = ap (λ fars. far_at bytes place ∷ fars) (fars_at-more bytes (place + 4) count at (omega arith))

pub words_at-more : (bytes : List ℕ) (place count at : ℕ) → at ≡ place + 2 * count → words_at bytes place (suc count) ≡ words_at bytes place count ++ word_at bytes at ∷ []
words_at-more bytes place zero at is =
    let here : place ≡ at = omega arith in
    ap (λ place. word_at bytes place ∷ []) here
words_at-more bytes place (suc count) at is = ap (λ words. word_at bytes place ∷ words) (words_at-more bytes (place + 2) count at (omega arith))

pub length-image_of : (bytes : List ℕ) → IsLong bytes → HasPages bytes → length (image_of bytes) ≡ said_size bytes - header_size bytes
length-image_of bytes long pages =
    omega (arith, long.pages, pages.header, length-take {A = ℕ} (said_size bytes - header_size bytes) (drop (header_size bytes) bytes), length-drop {A = ℕ} (header_size bytes) bytes)

-- no far pointer of those at a place is outside
pub all_within : (bytes : List ℕ) (place count size : ℕ) → ((k : ℕ) → k < count → IsWithin size (far_at bytes (place + 4 * k))) → All (IsWithin size) (fars_at bytes place count)
all_within bytes place count size within = λ k none below.
    let P : Far → Type 0 = IsWithin size in
    let there : k < count = omega (arith, length-fars_at bytes place count) in
    subst P (sym (get_or-fars_at bytes place count k (place + 4 * k) none there refl)) (within k there)

-- this one is the first outside
pub first_outside : (bytes : List ℕ) (place count size number : ℕ) → number < count → ((k : ℕ) → k < number → IsWithin size (far_at bytes (place + 4 * k))) → size < 16 * (far_at bytes (place + 4 * number)).segment + (far_at bytes (place + 4 * number)).offset + 2 → IsFirstOutside size (fars_at bytes place count) number
first_outside bytes place count size number there within outside = record {
  there = omega (arith, length-fars_at bytes place count);
  outside = λ none inside.
      let P : Far → Type 0 = IsWithin size in
      let at : IsWithin size (far_at bytes (place + 4 * number)) = subst P (get_or-fars_at bytes place count number (place + 4 * number) none there refl) inside in
      omega arith;
  before = λ k none below.
      let P : Far → Type 0 = IsWithin size in
      subst P (sym (get_or-fars_at bytes place count k (place + 4 * k) none (omega arith) refl)) (within k below);
}

pub fars_at-next : (bytes : List ℕ) (place count : ℕ) → fars_at bytes place (count + 1) ≡ fars_at bytes place count ++ far_at bytes (place + 4 * count) ∷ []
fars_at-next bytes place count =
    let next : suc count ≡ count + 1 = omega arith in
    let P : ℕ → Type 0 = λ n. fars_at bytes place n ≡ fars_at bytes place count ++ far_at bytes (place + 4 * count) ∷ [] in
    subst P next (fars_at-more bytes place count (place + 4 * count) refl)

pub words_at-next : (bytes : List ℕ) (place count : ℕ) → words_at bytes place (count + 1) ≡ words_at bytes place count ++ word_at bytes (place + 2 * count) ∷ []
words_at-next bytes place count =
    let next : suc count ≡ count + 1 = omega arith in
    let P : ℕ → Type 0 = λ n. words_at bytes place n ≡ words_at bytes place count ++ word_at bytes (place + 2 * count) ∷ [] in
    subst P next (words_at-more bytes place count (place + 2 * count) refl)
