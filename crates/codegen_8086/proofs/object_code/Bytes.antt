-- A word that is filled in, in the middle of bytes.
use Rattle.std.proofs.Common.{arith, ◌≡◌, ℕ, zero, suc, ◌+◌, ◌%◌, ◌/◌, List, [], ◌∷◌, ◌++◌, length, take, drop, refl, sym, ap, ◌∙◌, append_assoc, length-append}
use Rattle.std.specs.Prelude.{slice_index_or}
use Rattle.std.proofs.lemmas.List.{take_at, drop_at}
use Rattle.x86_table.specs.Spelling.{word_bytes}
use Rattle.codegen_8086.specs.object_code.Resolved.{word_in, replaced}

index_at : (front rest : List ℕ) (n v d : ℕ) → length front ≡ n → slice_index_or (front ++ (v ∷ rest)) n d ≡ v
index_at [] rest zero v d h = refl
index_at [] rest (suc n) v d h = absurd (omega (arith, h))
index_at (f ∷ front) rest zero v d h = absurd (omega (arith, h))
index_at (f ∷ front) rest (suc n) v d h = index_at front rest n v d (omega (arith, h))

-- the pieces of bytes in the middle of which a word stands, put together otherwise
parts : (pre head old rest : List ℕ) → pre ++ ((head ++ old) ++ rest) ≡ (pre ++ head) ++ (old ++ rest)
parts pre head old rest = ap (λ z. pre ++ z) (append_assoc head old rest) ∙ sym (append_assoc pre head (old ++ rest))

pub word-there : (pre head rest : List ℕ) (q b w : ℕ) → length pre ≡ q → length head ≡ b → word_in (q + b) (pre ++ ((head ++ word_bytes w) ++ rest)) ≡ w
unfolding word_bytes
word-there pre head rest q b w h g =
    let front = pre ++ head in
    let e : pre ++ ((head ++ word_bytes w) ++ rest) ≡ front ++ ((w % 256) ∷ ((w / 256) ∷ rest)) = parts pre head (word_bytes w) rest in
    let n : length front ≡ q + b = omega (arith, length-append pre head, h, g) in
    let m : length (front ++ (w % 256) ∷ []) ≡ q + b + 1 = omega (arith, length-append front ((w % 256) ∷ []), n) in
    let s : front ++ ((w % 256) ∷ ((w / 256) ∷ rest)) ≡ (front ++ (w % 256) ∷ []) ++ ((w / 256) ∷ rest) = sym (append_assoc front ((w % 256) ∷ []) ((w / 256) ∷ rest)) in
    let low : slice_index_or (pre ++ ((head ++ word_bytes w) ++ rest)) (q + b) 0 ≡ w % 256 = ap (λ z. slice_index_or z (q + b) 0) e ∙ index_at front ((w / 256) ∷ rest) (q + b) (w % 256) 0 n in
    let high : slice_index_or (pre ++ ((head ++ word_bytes w) ++ rest)) (q + b + 1) 0 ≡ w / 256 = ap (λ z. slice_index_or z (q + b + 1) 0) (e ∙ s) ∙ index_at (front ++ (w % 256) ∷ []) rest (q + b + 1) (w / 256) 0 m in
    omega (arith, low, high)

pub replaced-there : (pre head old new rest : List ℕ) (q b : ℕ) → length pre ≡ q → length head ≡ b → length old ≡ length new → replaced (q + b) new (pre ++ ((head ++ old) ++ rest)) ≡ pre ++ ((head ++ new) ++ rest)
replaced-there pre head old new rest q b h g same =
    let front = pre ++ head in
    let bytes = pre ++ ((head ++ old) ++ rest) in
    let e : bytes ≡ front ++ (old ++ rest) = parts pre head old rest in
    let n : length front ≡ q + b = omega (arith, length-append pre head, h, g) in
    let m : length (front ++ old) ≡ q + b + length new = omega (arith, length-append front old, n, same) in
    let before : take (q + b) bytes ≡ front = ap (take (q + b)) e ∙ take_at front (old ++ rest) (q + b) n in
    let behind : drop (q + b + length new) bytes ≡ rest = ap (drop (q + b + length new)) (e ∙ sym (append_assoc front old rest)) ∙ drop_at (front ++ old) rest (q + b + length new) m in
    ap (λ z. z ++ (new ++ drop (q + b + length new) bytes)) before
    ∙ ap (λ z. front ++ (new ++ z)) behind
    ∙ sym (parts pre head new rest)
