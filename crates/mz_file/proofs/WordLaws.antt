-- Laws of words in bytes.
use Rattle.std.proofs.Common.{◌≡◌, ℕ, zero, suc, ◌+◌, ◌*◌, List, [], ◌∷◌, ◌++◌, length, refl, ap, ap₂, ◌∙◌, arith}
use Rattle.std.proofs.lemmas.List.{get_or-append-add}
use Rattle.cpu_8086.specs.Memory.{word_of, low_byte, high_byte}
use Rattle.cpu_8086.specs.declared.registers.Far.{Far}
use Rattle.mz_file.specs.Words.{word_at, far_at, words_at, fars_at, bytes_of_words, words_of_fars}

-- a word is that of its bytes
pub word_of-bytes : (word : ℕ) → word_of (low_byte word) (high_byte word) ≡ word
word_of-bytes word = omega arith

pub bytes_of_words-append : (xs ys : List ℕ) → bytes_of_words (xs ++ ys) ≡ bytes_of_words xs ++ bytes_of_words ys
bytes_of_words-append [] ys = refl
bytes_of_words-append (x ∷ xs) ys = ap (λ bytes. low_byte x ∷ high_byte x ∷ bytes) (bytes_of_words-append xs ys)

pub length-bytes_of_words : (words : List ℕ) → length (bytes_of_words words) ≡ 2 * length words
length-bytes_of_words [] = refl
length-bytes_of_words (word ∷ words) = omega (arith, length-bytes_of_words words)

pub length-words_of_fars : (fars : List Far) → length (words_of_fars fars) ≡ 2 * length fars
length-words_of_fars [] = refl
length-words_of_fars (far ∷ fars) = omega (arith, length-words_of_fars fars)

-- what stands behind the bytes xs
pub word_at-append : (xs ys : List ℕ) (place at : ℕ) → place ≡ length xs + at → word_at (xs ++ ys) place ≡ word_at ys at
word_at-append xs ys place at is =
    let next : place + 1 ≡ length xs + (at + 1) = omega arith in
    rw (next, is) (ap₂ word_of (get_or-append-add xs ys at 0) (get_or-append-add xs ys (at + 1) 0))

pub words_at-append : (xs ys : List ℕ) (place at count : ℕ) → place ≡ length xs + at → words_at (xs ++ ys) place count ≡ words_at ys at count
words_at-append xs ys place at zero is = refl
words_at-append xs ys place at (suc count) is =
    ap₂ (λ word words. word ∷ words) (word_at-append xs ys place at is) (words_at-append xs ys (place + 2) (at + 2) count (omega arith))

pub far_at-append : (xs ys : List ℕ) (place at : ℕ) → place ≡ length xs + at → far_at (xs ++ ys) place ≡ far_at ys at
far_at-append xs ys place at is =
    let offset = word_at-append xs ys place at is in
    let segment = word_at-append xs ys (place + 2) (at + 2) (omega arith) in
    λ i. record { offset = offset i; segment = segment i }

pub fars_at-append : (xs ys : List ℕ) (place at count : ℕ) → place ≡ length xs + at → fars_at (xs ++ ys) place count ≡ fars_at ys at count
fars_at-append xs ys place at zero is = refl
fars_at-append xs ys place at (suc count) is =
    ap₂ (λ far fars. far ∷ fars) (far_at-append xs ys place at is) (fars_at-append xs ys (place + 4) (at + 4) count (omega arith))

-- words are read back
pub words_at-words : (words rest : List ℕ) → words_at (bytes_of_words words ++ rest) 0 (length words) ≡ words
words_at-words [] rest = refl
words_at-words (word ∷ words) rest =
    let pair : List ℕ = low_byte word ∷ high_byte word ∷ [] in
    ap₂ (λ word words. word ∷ words) (word_of-bytes word) (words_at-append pair (bytes_of_words words ++ rest) 2 0 (length words) refl ∙ words_at-words words rest)

pub fars_at-fars : (fars : List Far) (rest : List ℕ) → fars_at (bytes_of_words (words_of_fars fars) ++ rest) 0 (length fars) ≡ fars
fars_at-fars [] rest = refl
fars_at-fars (far ∷ fars) rest =
    let four : List ℕ = low_byte far.offset ∷ high_byte far.offset ∷ low_byte far.segment ∷ high_byte far.segment ∷ [] in
    let offset = word_of-bytes far.offset in
    let segment = word_of-bytes far.segment in
    let first : ◌≡◌ {A = Far} (record { offset = word_of (low_byte far.offset) (high_byte far.offset); segment = word_of (low_byte far.segment) (high_byte far.segment) }) far = λ i. record { offset = offset i; segment = segment i } in
    ap₂ (λ far fars. far ∷ fars) first (fars_at-append four (bytes_of_words (words_of_fars fars) ++ rest) 4 0 (length fars) refl ∙ fars_at-fars fars rest)
