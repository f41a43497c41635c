-- Bytes that are put in a row.
use Rattle.std.proofs.Common.{◌≡◌, ℕ, suc, ◌+◌, ◌%◌, ◌<◌, List, [], ◌∷◌, ◌++◌, length, length-take, get_or, take, sym, ap, ◌∙◌, arith}
use Rattle.std.proofs.lemmas.List.{take_more}
use Rattle.cpu_8086.specs.State.{State}
use Rattle.cpu_8086.specs.Memory.{store_byte, next_offset}
use Rattle.cpu_8086.specs.Process.{with_bytes}

-- one row and the next
pub with_bytes-append : (m : List ℕ) (s o : ℕ) (xs ys : List ℕ) → o < 65536 → with_bytes m s o (xs ++ ys) ≡ with_bytes (with_bytes m s o xs) s ((o + length xs) % 65536) ys
with_bytes-append m s o [] ys fits =
    let w : o ≡ (o + 0) % 65536 = omega arith in
    ap (λ x. with_bytes m s x ys) w
with_bytes-append m s o (x ∷ xs) ys fits =
    let w : ((o + 1) % 65536 + length xs) % 65536 ≡ (o + suc (length xs)) % 65536 = omega arith in
    with_bytes-append (store_byte m s o x) s (next_offset o) xs ys (omega arith) ∙ ap (λ p. with_bytes (with_bytes (store_byte m s o x) s (next_offset o) xs) s p ys) w

-- the next byte of a row is put
pub put_more : (old now new : State) (s o i place : ℕ) (bytes : List ℕ) → o < 65536 → i < length bytes → place ≡ (o + i) % 65536 → now ≡ record old { memory = with_bytes old.memory s o (take i bytes) } → new ≡ record now { memory = store_byte now.memory s place (get_or bytes i 0) } → new ≡ record old { memory = with_bytes old.memory s o (take (i + 1) bytes) }
put_more old now new s o i place bytes fits within place_is before step =
    let m = old.memory in
    let b : ℕ = get_or bytes i 0 in
    let row : List ℕ = with_bytes m s o (take i bytes) in
    let long : length (take i bytes) ≡ i = omega (arith, length-take {A = ℕ}) in
    let at : (o + length (take i bytes)) % 65536 ≡ place = ap (λ n. (o + n) % 65536) long ∙ sym place_is in
    let whole : with_bytes m s o (take (i + 1) bytes) ≡ store_byte row s place b =
    ap (with_bytes m s o) (take_more bytes i 0 within) ∙ with_bytes-append m s o (take i bytes) (b ∷ []) fits ∙ ap (λ p. store_byte row s p b) at in
    step ∙ ap (λ (t : State). record t { memory = store_byte t.memory s place b }) before ∙ ap (λ x. record old { memory = x }) (sym whole)
