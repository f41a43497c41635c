-- Bytes that are told, as calls add to them or take from them.
use Rattle.std.proofs.Common.{◌≡◌, List, ◌++◌, ℕ, ◌+◌, ◌-◌, ◌≤◌, refl, ap, sym, ◌∙◌, append_assoc, append-nil, [], Option, Some, None, Result, Ok, Err, OnErr, take, drop, length, length-drop, length-take, subst, arith}
use Rattle.std.proofs.Math.Seq.{take-add, take-append_seam}
use Rattle.std.proofs.lemmas.List.{take_all, drop-drop, take-append-drop}
use Rattle.std.specs.Io.KnownBytes.{append_known, prepend_known}
use Rattle.tp_outside.specs.Streams.{GaveSome}

-- bytes taken in two calls are those of both
pub append_known-append_known : (known : Option (List ℕ)) (xs ys : List ℕ) → append_known (append_known known xs) ys ≡ append_known known (xs ++ ys)
append_known-append_known None xs ys = refl
append_known-append_known (Some held) xs ys = ap Some (append_assoc held xs ys)

-- a call that takes no byte changes nothing
pub append_known-nil : (known : Option (List ℕ)) → append_known known [] ≡ known
append_known-nil None = refl
append_known-nil (Some held) = ap Some (append-nil held)

-- bytes given in two calls are those of both
pub prepend_known-prepend_known : (known : Option (List ℕ)) (xs ys : List ℕ) → prepend_known xs (prepend_known ys known) ≡ prepend_known (xs ++ ys) known
prepend_known-prepend_known None xs ys = refl
prepend_known-prepend_known (Some left) xs ys = ap Some (sym (append_assoc xs ys left))

-- what lies from a place on, as `&xs[i..]` gives it
pub rest_from : (xs : List ℕ) (i : ℕ) → take (length xs - i) (drop i xs) ≡ drop i xs
rest_from xs i = take_all (length xs - i) (drop i xs) (omega (arith, length-drop i xs))

-- after the first i of the bytes a sink took n more
pub append_known-take : (old now new : Option (List ℕ)) (xs : List ℕ) (i n : ℕ) → now ≡ append_known old (take i xs) → new ≡ append_known now (take n (take (length xs - i) (drop i xs))) → new ≡ append_known old (take (i + n) xs)
append_known-take old now new xs i n before step =
    step ∙ ap (λ ys. append_known now (take n ys)) (rest_from xs i) ∙ ap (λ k. append_known k (take n (drop i xs))) before
    ∙ append_known-append_known old (take i xs) (take n (drop i xs)) ∙ ap (append_known old) (sym (take-add i n xs))

-- the first `count` bytes of what a source has left, copied to the front of a buffer
pub copied_then_rest : (bytes into part : List ℕ) (place count : ℕ) → part ≡ take count (take (length bytes - place) (drop place bytes)) → count ≤ length (take (length bytes - place) (drop place bytes)) → drop place bytes ≡ take count (part ++ drop count into) ++ drop (place + count) bytes
copied_then_rest bytes into part place count is_part fits =
    let is_front : part ≡ take count (drop place bytes) = is_part ∙ ap (take count) (rest_from bytes place) in
    let long : length part ≡ count = omega (arith, ap length is_part, length-take {A = ℕ}) in
    let front : take count (part ++ drop count into) ≡ part = subst (λ (n : ℕ). take n (part ++ drop count into) ≡ part) long (take-append_seam part (drop count into)) in
    sym (ap (λ xs. xs ++ drop (place + count) bytes) (front ∙ is_front)
    ∙ ap (λ xs. take count (drop place bytes) ++ xs) (sym (drop-drop count place bytes))
    ∙ take-append-drop count (drop place bytes))

-- what a source gave in two calls
pub gave_both : (old now new : Option (List ℕ)) (xs ys : List ℕ) → old ≡ prepend_known xs now → now ≡ prepend_known ys new → GaveSome old new
gave_both old now new xs ys first second =
    record { bytes = xs ++ ys; given = first ∙ ap (prepend_known xs) second ∙ prepend_known-prepend_known new xs ys }

-- a fact that holds anyway holds after an error
pub on_err : {T E P : Type 0} (r : Result T E) → P → OnErr r P
on_err (Ok x) holds = tt
on_err (Err e) holds = holds
