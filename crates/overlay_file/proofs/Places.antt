-- Texts that stand in a list of bytes at a place.
use Rattle.std.proofs.Common.{◌≡◌, ℕ, zero, suc, ◌+◌, ◌-◌, ◌*◌, ◌%◌, ◌<◌, ◌≤◌, List, [], ◌∷◌, ◌++◌, length, get_or, take, drop, refl, sym, ap, subst, ◌∙◌, inl, inr, arith}
use Rattle.std.proofs.lemmas.Bool.{cases_lt}
use Rattle.std.proofs.lemmas.List.{length-append, get_or_append_left, get_or-append_right, ext_get_or, length-take, length-drop, get_or-take, get_or-drop}
use Rattle.cpu_8086.specs.Memory.{word_of, low_byte, high_byte}
use Rattle.mz_file.specs.Words.{word_at, words_at, bytes_of_words}
use Rattle.mz_file.proofs.WordLaws.{word_of-bytes}

-- what a list of bytes of a program is
abbrev pub AreBytes : List ℕ → Type 0
AreBytes bytes = (k : ℕ) → get_or bytes k 0 < 256

-- the text stands in the bytes at a place
pub record Has (bytes : List ℕ) (at : ℕ) (text : List ℕ) : Type 0 where
  pub inside : at + length text ≤ length bytes
  pub same : (k : ℕ) → k < length text → get_or bytes (at + k) 0 ≡ get_or text k 0

pub has-append : (bytes : List ℕ) (at behind : ℕ) (x y : List ℕ) → behind ≡ at + length x → Has bytes at x → Has bytes behind y → Has bytes at (x ++ y)
has-append bytes at behind x y is first second = record {
  inside = omega (arith, first.inside, second.inside, length-append x y);
  same = λ k below.
      elim (cases_lt k (length x)) [
        | inl lt ↦ first.same k lt ∙ sym (get_or_append_left x y 0 k lt)
        | inr le ↦
            let back : at + k ≡ behind + (k - length x) = omega arith in
            let there : k - length x < length y = omega (arith, length-append x y) in
            ap (λ (place : ℕ). get_or bytes place 0) back ∙ second.same (k - length x) there ∙ sym (get_or-append_right x y (length x) k 0 refl le)
      ];
}

pub has-front : (bytes : List ℕ) (at : ℕ) (x y : List ℕ) → Has bytes at (x ++ y) → Has bytes at x
has-front bytes at x y both = record {
  inside = omega (arith, both.inside, length-append x y);
  same = λ k below.
      let there : k < length (x ++ y) = omega (arith, length-append x y) in
      both.same k there ∙ get_or_append_left x y 0 k below;
}

pub has-back : (bytes : List ℕ) (at behind : ℕ) (x y : List ℕ) → behind ≡ at + length x → Has bytes at (x ++ y) → Has bytes behind y
has-back bytes at behind x y is both = record {
  inside = omega (arith, both.inside, length-append x y);
  same = λ k below.
      let there : length x + k < length (x ++ y) = omega (arith, length-append x y) in
      let place : behind + k ≡ at + (length x + k) = omega arith in
      let back : (length x + k) - length x ≡ k = omega arith in
      ap (λ (place : ℕ). get_or bytes place 0) place ∙ both.same (length x + k) there
      ∙ get_or-append_right x y (length x) (length x + k) 0 refl (omega arith) ∙ ap (λ (n : ℕ). get_or y n 0) back;
}

-- two texts of one length at one place are the same
pub has-unique : (bytes : List ℕ) (at : ℕ) (x y : List ℕ) → length x ≡ length y → Has bytes at x → Has bytes at y → x ≡ y
has-unique bytes at x y size first second = ext_get_or 0 x y size (λ k below.
    let there : k < length y = omega arith in
    sym (first.same k below) ∙ second.same k there)

pub has-all : (bytes text : List ℕ) → length text ≡ length bytes → Has bytes 0 text → bytes ≡ text
has-all bytes text size held = ext_get_or 0 bytes text (sym size) (λ k below.
    let there : k < length text = omega arith in
    let here : k ≡ 0 + k = omega arith in
    ap (λ (place : ℕ). get_or bytes place 0) here ∙ held.same k there)

pub has-itself : (bytes : List ℕ) → Has bytes 0 bytes
has-itself bytes = record { inside = omega arith; same = λ k below. let here : 0 + k ≡ k = omega arith in ap (λ (place : ℕ). get_or bytes place 0) here }

pub has-slice : (bytes : List ℕ) (at count : ℕ) → at + count ≤ length bytes → Has bytes at (take count (drop at bytes))
has-slice bytes at count inside = record {
  inside = omega (arith, length-take count (drop at bytes), length-drop at bytes);
  same = λ k below.
      let there : k < count = omega (arith, length-take count (drop at bytes)) in
      sym (get_or-take count (drop at bytes) k 0 there ∙ get_or-drop at bytes k 0);
}

pub length-slice : (bytes : List ℕ) (at count : ℕ) → at + count ≤ length bytes → length (take count (drop at bytes)) ≡ count
length-slice bytes at count inside = omega (arith, length-take count (drop at bytes), length-drop at bytes)

-- one byte
pub has-byte : (bytes : List ℕ) (at : ℕ) → at < length bytes → Has bytes at (get_or bytes at 0 ∷ [])
has-byte bytes at inside = record {
  inside = omega arith;
  same = one;
}
  where
    one : (k : ℕ) → k < 1 → get_or bytes (at + k) 0 ≡ get_or (get_or bytes at 0 ∷ []) k 0
    one zero below = let here : at + 0 ≡ at = omega arith in ap (λ (place : ℕ). get_or bytes place 0) here
    one (suc k) below = absurd (omega arith)

pub byte-held : (bytes : List ℕ) (at byte : ℕ) (text : List ℕ) → Has bytes at (byte ∷ text) → get_or bytes at 0 ≡ byte
byte-held bytes at byte text held =
    let here : at ≡ at + 0 = omega arith in
    ap (λ (place : ℕ). get_or bytes place 0) here ∙ held.same 0 (omega arith)

-- words, each of two bytes
pub word-held : (bytes : List ℕ) (at word : ℕ) (text : List ℕ) → Has bytes at (low_byte word ∷ high_byte word ∷ text) → word_at bytes at ≡ word
word-held bytes at word text held =
    let low = byte-held bytes at (low_byte word) (high_byte word ∷ text) held in
    let high = held.same 1 (omega arith) in
    let both : word_at bytes at ≡ word_of (low_byte word) (high_byte word) = cc in
    both ∙ word_of-bytes word

pub has-word : (bytes : List ℕ) (at : ℕ) → AreBytes bytes → at + 2 ≤ length bytes → Has bytes at (bytes_of_words (word_at bytes at ∷ []))
has-word bytes at fits inside = record { inside = omega arith; same = two }
  where
    two : (k : ℕ) → k < 2 → get_or bytes (at + k) 0 ≡ get_or (bytes_of_words (word_at bytes at ∷ [])) k 0
    two zero below =
        let here : at + 0 ≡ at = omega arith in
        let low : get_or bytes at 0 ≡ (get_or bytes at 0 + 256 * get_or bytes (at + 1) 0) % 256 = omega (arith, fits at, fits (at + 1)) in
        ap (λ (place : ℕ). get_or bytes place 0) here ∙ low
    two (suc zero) below = omega (arith, fits at, fits (at + 1))
    two (suc (suc k)) below = absurd (omega arith)

pub length-words_at : (bytes : List ℕ) (at count : ℕ) → length (words_at bytes at count) ≡ count
length-words_at bytes at zero = refl
length-words_at bytes at (suc count) = ap suc (length-words_at bytes (at + 2) count)

pub has-words : (bytes : List ℕ) (at count : ℕ) → AreBytes bytes → at + 2 * count ≤ length bytes → Has bytes at (bytes_of_words (words_at bytes at count))
has-words bytes at zero fits inside = record { inside = omega arith; same = λ k below. absurd (omega arith) }
has-words bytes at (suc count) fits inside =
    has-append bytes at (at + 2) (bytes_of_words (word_at bytes at ∷ [])) (bytes_of_words (words_at bytes (at + 2) count)) refl
    (has-word bytes at fits (omega arith)) (has-words bytes (at + 2) count fits (omega arith))

pub words-held : (bytes : List ℕ) (at : ℕ) (words : List ℕ) → Has bytes at (bytes_of_words words) → words_at bytes at (length words) ≡ words
words-held bytes at [] held = refl
words-held bytes at (word ∷ words) held =
    let first = word-held bytes at word (bytes_of_words words) held in
    let others = words-held bytes (at + 2) words (has-back bytes at (at + 2) (low_byte word ∷ high_byte word ∷ []) (bytes_of_words words) refl held) in
    cc
