-- Values that are found one after another.
use Rattle.std.proofs.Common.{◌≡◌, ℕ, suc, ◌+◌, ◌-◌, ◌<◌, List, [], ◌∷◌, ◌++◌, refl, sym, ap, ◌∙◌, arith}
use Rattle.std.specs.Prelude.{Ok, Err}
use Rattle.std.proofs.lemmas.List.{append_assoc}
use Rattle.flat_code.specs.declared.memory.Place.{Place}
use Rattle.flat_code.specs.declared.memory.Trap.{Trap}
use Rattle.flat_code.specs.Memory.{Cells, Found, ◌>>=◌, byte_at, bytes_at, after_prefix}

regroup : {A : Type 0} (front : List A) (x : A) (rest : Found (List A)) → after_prefix front (rest >>= λ xs. Ok (x ∷ xs)) ≡ after_prefix (front ++ x ∷ []) rest
regroup front x (Ok xs) = ap Ok (sym (append_assoc front (x ∷ []) xs))
regroup front x (Err trap) = refl

-- one more value
pub front-more : {A : Type 0} (front : List A) (x : A) (found : Found A) (rest : Found (List A)) → found ≡ Ok x → after_prefix front (found >>= λ x. rest >>= λ xs. Ok (x ∷ xs)) ≡ after_prefix (front ++ x ∷ []) rest
front-more {A} front x found rest e = ap (λ (y : Found A). after_prefix front (y >>= λ x. rest >>= λ xs. Ok (x ∷ xs))) e ∙ regroup front x rest

-- and where there is none
pub front-trap : {A : Type 0} (front : List A) (trap : Trap) (found : Found A) (rest : Found (List A)) → found ≡ Err trap → after_prefix front (found >>= λ x. rest >>= λ xs. Ok (x ∷ xs)) ≡ Err trap
front-trap {A} front trap found rest e = ap (λ (y : Found A). after_prefix front (y >>= λ x. rest >>= λ xs. Ok (x ∷ xs))) e

one_more : (m : Cells) (p : Place) (i n : ℕ) → i < n → bytes_at m p i (n - i) ≡ bytes_at m p i (suc (n - (i + 1)))
one_more m p i n h = let left : n - i ≡ suc (n - (i + 1)) = omega arith in ap (bytes_at m p i) left

pub bytes-more : (m : Cells) (p : Place) (i n : ℕ) (front : List ℕ) (byte : ℕ) → i < n → byte_at m p i ≡ Ok byte → after_prefix front (bytes_at m p i (n - i)) ≡ after_prefix (front ++ byte ∷ []) (bytes_at m p (i + 1) (n - (i + 1)))
bytes-more m p i n front byte h e = ap (after_prefix front) (one_more m p i n h) ∙ front-more front byte (byte_at m p i) (bytes_at m p (i + 1) (n - (i + 1))) e

pub bytes-trap : (m : Cells) (p : Place) (i n : ℕ) (front : List ℕ) (trap : Trap) → i < n → byte_at m p i ≡ Err trap → after_prefix front (bytes_at m p i (n - i)) ≡ Err trap
bytes-trap m p i n front trap h e = ap (after_prefix front) (one_more m p i n h) ∙ front-trap front trap (byte_at m p i) (bytes_at m p (i + 1) (n - (i + 1))) e
