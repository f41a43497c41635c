-- The longest prefix of one class.
use Rattle.std.proofs.Common.{◌≡◌, ℕ, zero, suc, ◌+◌, ◌≤◌, Bool, true, false, cond, List, [], ◌∷◌, ◌++◌, length, take, drop, refl, sym, ap, ◌∙◌, arith}
use Rattle.std.specs.List.{AllByRecursion, prefix_len}
use Rattle.std.proofs.lemmas.List.{drop_at}

abbrev pub Passes : (ℕ → Bool) → List ℕ → Type 0
Passes p bytes = AllByRecursion (λ b. p b ≡ true) bytes

abbrev pub Stops : (ℕ → Bool) → List ℕ → Type 0
Stops p [] = Unit {0}
Stops p (b ∷ rest) = p b ≡ false

prefix_by : (p : ℕ → Bool) (b n : ℕ) (bytes : List ℕ) (v : Bool) → p b ≡ v → n ≤ cond v (1 + prefix_len p bytes) 0 → ((k : ℕ) → k ≤ prefix_len p bytes → Passes p (take k bytes)) → Passes p (take n (b ∷ bytes))
prefix_by p b zero bytes v e h ih = tt
prefix_by p b (suc n) bytes true e h ih = (e, ih n (omega arith))
prefix_by p b (suc n) bytes false e h ih = absurd (omega arith)

pub prefix_passes : (p : ℕ → Bool) (bytes : List ℕ) (n : ℕ) → n ≤ prefix_len p bytes → Passes p (take n bytes)
prefix_passes p [] zero h = tt
prefix_passes p [] (suc n) h = tt
prefix_passes p (b ∷ bytes) n h = prefix_by p b n bytes (p b) refl h (prefix_passes p bytes)

rest_by : (p : ℕ → Bool) (b : ℕ) (bytes : List ℕ) (v : Bool) → p b ≡ v → Stops p (drop (prefix_len p bytes) bytes) → Stops p (drop (cond v (1 + prefix_len p bytes) 0) (b ∷ bytes))
rest_by p b bytes true e ih = let k : 1 + prefix_len p bytes ≡ suc (prefix_len p bytes) = omega arith in rw k ih
rest_by p b bytes false e ih = e

pub rest_stops : (p : ℕ → Bool) (bytes : List ℕ) → Stops p (drop (prefix_len p bytes) bytes)
rest_stops p [] = tt
rest_stops p (b ∷ bytes) = rest_by p b bytes (p b) refl (rest_stops p bytes)

within_by : (n m : ℕ) (v : Bool) → n ≤ m → cond v (1 + n) 0 ≤ suc m
within_by n m true h = omega arith
within_by n m false h = omega arith

pub prefix-within : (p : ℕ → Bool) (bytes : List ℕ) → prefix_len p bytes ≤ length bytes
prefix-within p [] = omega arith
prefix-within p (b ∷ bytes) = within_by (prefix_len p bytes) (length bytes) (p b) (prefix-within p bytes)

prefix_none : (p : ℕ → Bool) (rest : List ℕ) → Stops p rest → prefix_len p rest ≡ 0
prefix_none p [] h = refl
prefix_none p (b ∷ rest) h = rw h refl

pub prefix_len-run : (p : ℕ → Bool) (front rest : List ℕ) → Passes p front → Stops p rest → prefix_len p (front ++ rest) ≡ length front
prefix_len-run p [] rest h s = prefix_none p rest s
prefix_len-run p (b ∷ front) rest h s =
    let e = h.0 in
    rw (e, prefix_len-run p front rest h.1 s) (omega arith)

pub drop-run : (p : ℕ → Bool) (front rest : List ℕ) → Passes p front → Stops p rest → drop (prefix_len p (front ++ rest)) (front ++ rest) ≡ rest
drop-run p front rest h s = rw (prefix_len-run p front rest h s) (drop_at front rest (length front) refl)

-- what stands behind such a front is told by the whole
pub same_rest : (p : ℕ → Bool) (front rest other_front other : List ℕ) → front ++ rest ≡ other_front ++ other → Passes p front → Stops p rest → Passes p other_front → Stops p other → rest ≡ other
same_rest p front rest other_front other e h s k t =
    sym (drop-run p front rest h s) ∙ ap (λ (l : List ℕ). drop (prefix_len p l) l) e ∙ drop-run p other_front other k t
