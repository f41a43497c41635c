-- Reading items one after another, as a loop does.
use Rattle.std.proofs.Common.{◌≡◌, ℕ, suc, ◌+◌, ◌-◌, ◌<◌, ◌≤◌, List, [], ◌∷◌, ◌++◌, Result, Ok, Err, refl, sym, ap, ◌∙◌, append_assoc, arith}
use Rattle.std.proofs.lemmas.List.{append-nil}
use Rattle.object_file.specs.declared.file_parts.error.PartError.{PartError}
use Rattle.object_file.specs.declared.file_parts.error.PartError.TheVariants as error
use Rattle.object_file.specs.file_parts.Parts.{Reader, ◌>>=◌, in_turn, Fails}

-- what was read before, and what is still read
abbrev pub with_front : {A : Type 0} → List A → Result (List A × List ℕ) ℕ → Result (List A × List ℕ) ℕ
with_front front read = read >>= λ others. Ok (front ++ others.0, others.1)

regroup : {A : Type 0} (front : List A) (item : A) (read : Result (List A × List ℕ) ℕ) → with_front front (read >>= λ others. Ok (item ∷ others.0, others.1)) ≡ with_front (front ++ item ∷ []) read
regroup front item (Ok x) = ap (λ items. Ok (items, x.1)) (sym (append_assoc front (item ∷ []) x.0))
regroup front item (Err left) = refl

by_first : {S A : Type 0} (read : S → Reader A) (next : S → A → S) (front : List A) (left : ℕ) (s : S) (r : Result (A × List ℕ) ℕ)
    → with_front front (r >>= λ first. in_turn read next left (next s first.0) first.1 >>= λ others. Ok (first.0 ∷ others.0, others.1))
    ≡ (r >>= λ first. with_front (front ++ first.0 ∷ []) (in_turn read next left (next s first.0) first.1))
by_first read next front left s (Ok first) = regroup front first.0 (in_turn read next left (next s first.0) first.1)
by_first read next front left s (Err at) = refl

step : {S A : Type 0} (read : S → Reader A) (next : S → A → S) (front : List A) (count k : ℕ) (s : S) (bytes : List ℕ) → k < count
    → with_front front (in_turn read next (count - k) s bytes) ≡ (read s bytes >>= λ first. with_front (front ++ first.0 ∷ []) (in_turn read next (count - (k + 1)) (next s first.0) first.1))
unfolding in_turn
step read next front count k s bytes below =
    let left : count - k ≡ suc (count - (k + 1)) = omega arith in
    rw left (by_first read next front (count - (k + 1)) s (read s bytes))

pub loop-next : {S A : Type 0} (read : S → Reader A) (next : S → A → S) (front : List A) (count k : ℕ) (s : S) (bytes : List ℕ) (item : A) (rest : List ℕ) (total : Result (List A × List ℕ) ℕ) → k < count → read s bytes ≡ Ok (item, rest)
    → with_front front (in_turn read next (count - k) s bytes) ≡ total → with_front (front ++ item ∷ []) (in_turn read next (count - (k + 1)) (next s item) rest) ≡ total
loop-next read next front count k s bytes item rest total below is so_far =
    sym (step read next front count k s bytes below ∙ ap (λ r. r >>= λ first. with_front (front ++ first.0 ∷ []) (in_turn read next (count - (k + 1)) (next s first.0) first.1)) is) ∙ so_far

pub loop-stop : {S A : Type 0} (read : S → Reader A) (next : S → A → S) (e : PartError) (front : List A) (count k : ℕ) (s : S) (bytes : List ℕ) (total : Result (List A × List ℕ) ℕ) → k < count → Fails e (read s bytes)
    → with_front front (in_turn read next (count - k) s bytes) ≡ total → Fails e total
loop-stop read next error.NoMemory front count k s bytes total below fails so_far = tt
loop-stop read next (error.Damaged left) front count k s bytes total below fails so_far =
    sym so_far ∙ step read next front count k s bytes below ∙ ap (λ r. r >>= λ first. with_front (front ++ first.0 ∷ []) (in_turn read next (count - (k + 1)) (next s first.0) first.1)) fails

pub loop-end : {S A : Type 0} (read : S → Reader A) (next : S → A → S) (front : List A) (count k : ℕ) (s : S) (bytes : List ℕ) (total : Result (List A × List ℕ) ℕ) → count ≤ k
    → with_front front (in_turn read next (count - k) s bytes) ≡ total → total ≡ Ok (front, bytes)
unfolding in_turn
loop-end read next front count k s bytes total all so_far =
    let left : count - k ≡ 0 = omega arith in
    let one : with_front front (in_turn read next (count - k) s bytes) ≡ Ok (front, bytes) = rw left (ap (λ items. Ok (items, bytes)) (append-nil front)) in
    sym so_far ∙ one
