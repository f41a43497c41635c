-- Elements of a list by their place.
use Rattle.std.proofs.Common.{◌≡◌, ℕ, zero, suc, ◌<◌, List, [], ◌∷◌, length, slice_index_or, refl, arith}

-- what stands outside is not asked for
pub same_index : {A : Type 0} (xs : List A) (i : ℕ) (d e : A) → i < length xs → slice_index_or xs i d ≡ slice_index_or xs i e
same_index [] i d e h = absurd (omega arith)
same_index (x ∷ xs) zero d e h = refl
same_index (x ∷ xs) (suc i) d e h = same_index xs i d e (omega arith)
