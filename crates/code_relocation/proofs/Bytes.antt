-- Bytes that are put in place of others, and words of segments among them.
use Rattle.std.proofs.Common.{◌≡◌, ℕ, zero, suc, ◌+◌, ◌*◌, ◌-◌, ◌%◌, ◌/◌, ◌<◌, ◌≤◌, ◌⊎◌, ⊎_elim, inl, inr, List, [], ◌∷◌, ◌++◌, length, take, drop, set, get_or, refl, sym, ap, ap₂, ◌∙◌, arith}
use Rattle.std.proofs.lemmas.List.{get_or-append-add, get_or-take, get_or-drop, get_or-set_other, take-set-le, drop-set-lt, drop-set-add, length-take-le, length-set}
use Rattle.std.proofs.Math.Seq.{take-set-lt}
use Rattle.cpu_8086.specs.Memory.{word_of, low_byte, high_byte}
use Rattle.x86_table.specs.Spelling.{word_bytes}
use Rattle.mz_file.specs.Load.{loaded_segment, with_loaded_segment}
use Rattle.mz_file.specs.Words.{word_at}
use Rattle.mz_file.proofs.WordLaws.{word_of-bytes, word_at-append}
use Rattle.codegen_8086.specs.object_code.Resolved.{word_in, replaced}

-- ---- a byte of two lists, one after the other

get_left : (xs ys : List ℕ) (i : ℕ) → i < length xs → get_or (xs ++ ys) i 0 ≡ get_or xs i 0
get_left [] ys i h = absurd (omega (arith, h))
get_left (x ∷ xs) ys zero h = refl
get_left (x ∷ xs) ys (suc i) h = get_left xs ys i (omega (arith, h))

set_left : (xs ys : List ℕ) (i y : ℕ) → i < length xs → set (xs ++ ys) i y ≡ set xs i y ++ ys
set_left [] ys i y h = absurd (omega (arith, h))
set_left (x ∷ xs) ys zero y h = refl
set_left (x ∷ xs) ys (suc i) y h = ap (λ zs. x ∷ zs) (set_left xs ys i y (omega (arith, h)))

set_right : (xs ys : List ℕ) (i y : ℕ) → set (xs ++ ys) (length xs + i) y ≡ xs ++ set ys i y
set_right [] ys i y =
    let e : 0 + i ≡ i = omega arith in
    ap (λ k. set ys k y) e
set_right (x ∷ xs) ys i y =
    let e : length (x ∷ xs) + i ≡ suc (length xs + i) = omega arith in
    ap (λ k. set (x ∷ (xs ++ ys)) k y) e ∙ ap (λ zs. x ∷ zs) (set_right xs ys i y)

-- ---- a byte that is not among those that are put in

-- a byte before, or behind, so many from an offset on
abbrev pub IsClear : ℕ → ℕ → ℕ → Type 0
IsClear offset count i = (i < offset) ⊎ (offset + count ≤ i)

module _ (bytes new : List ℕ) (offset : ℕ) (inside : offset + length new ≤ length bytes) where
  abbrev rest : List ℕ
  rest = drop (offset + length new) bytes

  size : length (take offset bytes) ≡ offset
  size = length-take-le offset bytes (omega (arith, inside))

  get_clear : (i : ℕ) → IsClear offset (length new) i → get_or (replaced offset new bytes) i 0 ≡ get_or bytes i 0
  get_clear i clear = ⊎_elim before behind clear where
    before : i < offset → get_or (replaced offset new bytes) i 0 ≡ get_or bytes i 0
    before h = get_left (take offset bytes) (new ++ rest) i (omega (arith, size, h)) ∙ get_or-take offset bytes i 0 h

    behind : offset + length new ≤ i → get_or (replaced offset new bytes) i 0 ≡ get_or bytes i 0
    behind h =
        let j = i - (offset + length new) in
        let first : i ≡ length (take offset bytes) + (length new + j) = omega (arith, size, h) in
        let second : offset + length new + j ≡ i = omega (arith, h) in
        ap (λ k. get_or (replaced offset new bytes) k 0) first
        ∙ get_or-append-add (take offset bytes) (new ++ rest) (length new + j) 0
        ∙ get_or-append-add new rest j 0
        ∙ get_or-drop (offset + length new) bytes j 0
        ∙ ap (λ k. get_or bytes k 0) second

  set_clear : (i y : ℕ) → IsClear offset (length new) i → set (replaced offset new bytes) i y ≡ replaced offset new (set bytes i y)
  set_clear i y clear = ⊎_elim before behind clear where
    before : i < offset → set (replaced offset new bytes) i y ≡ replaced offset new (set bytes i y)
    before h =
        set_left (take offset bytes) (new ++ rest) i y (omega (arith, size, h))
        ∙ ap (λ zs. zs ++ (new ++ rest)) (sym (take-set-lt offset bytes i y h))
        ∙ ap (λ zs. take offset (set bytes i y) ++ (new ++ zs)) (sym (drop-set-lt (offset + length new) bytes i y (omega (arith, h))))

    behind : offset + length new ≤ i → set (replaced offset new bytes) i y ≡ replaced offset new (set bytes i y)
    behind h =
        let j = i - (offset + length new) in
        let first : i ≡ length (take offset bytes) + (length new + j) = omega (arith, size, h) in
        let second : offset + length new + j ≡ i = omega (arith, h) in
        ap (λ k. set (replaced offset new bytes) k y) first
        ∙ set_right (take offset bytes) (new ++ rest) (length new + j) y
        ∙ ap (λ zs. take offset bytes ++ zs) (set_right new rest j y)
        ∙ ap (λ zs. take offset bytes ++ (new ++ zs)) (sym (drop-set-add (offset + length new) bytes j y) ∙ ap (λ k. drop (offset + length new) (set bytes k y)) second)
        ∙ ap (λ zs. zs ++ (new ++ drop (offset + length new) (set bytes i y))) (sym (take-set-le offset bytes i y (omega (arith, h))))

-- ---- words

-- both bytes of a word are clear
abbrev pub IsWordClear : ℕ → ℕ → ℕ → Type 0
IsWordClear offset count place = (place + 2 ≤ offset) ⊎ (offset + count ≤ place)

first_clear : (offset count place : ℕ) → IsWordClear offset count place → IsClear offset count place
first_clear offset count place clear = ⊎_elim (λ h. inl (omega (arith, h))) (λ h. inr h) clear

second_clear : (offset count place : ℕ) → IsWordClear offset count place → IsClear offset count (place + 1)
second_clear offset count place clear = ⊎_elim (λ h. inl (omega (arith, h))) (λ h. inr (omega (arith, h))) clear

-- a word that is made a loaded segment may be made one before
pub loaded_clear : (bytes new : List ℕ) (offset place : ℕ) → offset + length new ≤ length bytes → IsWordClear offset (length new) place
    → with_loaded_segment (replaced offset new bytes) place ≡ replaced offset new (with_loaded_segment bytes place)
loaded_clear bytes new offset place inside clear =
    let first = first_clear offset (length new) place clear in
    let second = second_clear offset (length new) place clear in
    let word : word_at (replaced offset new bytes) place ≡ word_at bytes place = ap₂ word_of (get_clear bytes new offset inside place first) (get_clear bytes new offset inside (place + 1) second) in
    let w = loaded_segment (word_at bytes place) in
    let low = set bytes place (low_byte w) in
    ap (λ v. set (set (replaced offset new bytes) place (low_byte (loaded_segment v))) (place + 1) (high_byte (loaded_segment v))) word
    ∙ ap (λ zs. set zs (place + 1) (high_byte w)) (set_clear bytes new offset inside place (low_byte w) first)
    ∙ set_clear low new offset (omega (arith, inside, length-set bytes place (low_byte w))) (place + 1) (high_byte w) second

-- and a word that it leaves is read as before
pub word_kept : (bytes : List ℕ) (offset place : ℕ) → IsWordClear offset 2 place → word_in offset (with_loaded_segment bytes place) ≡ word_in offset bytes
word_kept bytes offset place clear =
    let w = loaded_segment (word_at bytes place) in
    let low = set bytes place (low_byte w) in
    let kept = λ (i : ℕ) (h : (i < place) ⊎ (place + 2 ≤ i)).
    get_or-set_other low (place + 1) i (high_byte w) 0 (λ e. ⊎_elim (λ p. absurd (omega (arith, p, e))) (λ p. absurd (omega (arith, p, e))) h)
    ∙ get_or-set_other bytes place i (low_byte w) 0 (λ e. ⊎_elim (λ p. absurd (omega (arith, p, e))) (λ p. absurd (omega (arith, p, e))) h) in
    let first = kept offset (⊎_elim (λ h. inr (omega (arith, h))) (λ h. inl (omega (arith, h))) clear) in
    let second = kept (offset + 1) (⊎_elim (λ h. inr (omega (arith, h))) (λ h. inl (omega (arith, h))) clear) in
    ap₂ (λ a b. a + 256 * b) first second

-- ---- a segment among the bytes that are put in

loaded_behind : (xs ys : List ℕ) (place i : ℕ) → place ≡ length xs + i → with_loaded_segment (xs ++ ys) place ≡ xs ++ with_loaded_segment ys i
loaded_behind xs ys place i e =
    let word : word_at (xs ++ ys) place ≡ word_at ys i = word_at-append xs ys place i e in
    let w = loaded_segment (word_at ys i) in
    let next : place + 1 ≡ length xs + (i + 1) = omega (arith, e) in
    ap (λ v. set (set (xs ++ ys) place (low_byte (loaded_segment v))) (place + 1) (high_byte (loaded_segment v))) word
    ∙ ap (λ k. set (set (xs ++ ys) k (low_byte w)) (place + 1) (high_byte w)) e
    ∙ ap (λ zs. set zs (place + 1) (high_byte w)) (set_right xs ys i (low_byte w))
    ∙ ap (λ k. set (xs ++ set ys i (low_byte w)) k (high_byte w)) next
    ∙ set_right xs (set ys i (low_byte w)) (i + 1) (high_byte w)

pub segment_loaded : (bytes : List ℕ) (offset segment : ℕ) → offset + 2 ≤ length bytes
    → with_loaded_segment (replaced offset (word_bytes segment) bytes) offset ≡ replaced offset (word_bytes (loaded_segment segment)) bytes
unfolding word_bytes
segment_loaded bytes offset segment inside =
    let front = take offset bytes in
    let rest = drop (offset + 2) bytes in
    let size : length front ≡ offset = length-take-le offset bytes (omega (arith, inside)) in
    loaded_behind front ((segment % 256) ∷ ((segment / 256) ∷ rest)) offset 0 (omega (arith, size))
    ∙ ap (λ v. front ++ ((loaded_segment v % 256) ∷ ((loaded_segment v / 256) ∷ rest))) (word_of-bytes segment)

pub far_loaded : (bytes : List ℕ) (offset low segment : ℕ) → offset + 4 ≤ length bytes
    → with_loaded_segment (replaced offset (word_bytes low ++ word_bytes segment) bytes) (offset + 2) ≡ replaced offset (word_bytes low ++ word_bytes (loaded_segment segment)) bytes
unfolding word_bytes
far_loaded bytes offset low segment inside =
    let front = take offset bytes in
    let rest = drop (offset + 4) bytes in
    let size : length front ≡ offset = length-take-le offset bytes (omega (arith, inside)) in
    loaded_behind front ((low % 256) ∷ ((low / 256) ∷ ((segment % 256) ∷ ((segment / 256) ∷ rest)))) (offset + 2) 2 (omega (arith, size))
    ∙ ap (λ v. front ++ ((low % 256) ∷ ((low / 256) ∷ ((loaded_segment v % 256) ∷ ((loaded_segment v / 256) ∷ rest))))) (word_of-bytes segment)
