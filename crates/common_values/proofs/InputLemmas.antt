-- What reading takes.
use Rattle.std.proofs.Common.{◌≡◌, ℕ, suc, ◌+◌, min, Bool, true, false, not, cond, ◌||◌, ◌⊎◌, List, [], ◌∷◌, ◌++◌, length, take, drop, refl, sym, ap, ◌∙◌, arith, inl, inr, eqb}
use Rattle.std.specs.List.{prefix_len}
use Rattle.std.proofs.lemmas.Bool.{eqb-true, eqb-false, cases_lt}
use Rattle.std.proofs.lemmas.List.{length-take, take-append-drop}
use Rattle.common_values.proofs.Prefixes.{Stops, prefix_passes, rest_stops, prefix-within}
use Rattle.common_values.specs.Input.{eof_byte, ends_line, is_eof, is_eoln, is_text_byte, is_separator, is_word_byte, char_read, string_length, string_read, after_separators, word_length, number_read, after_13, after_line}
use Rattle.common_values.specs.InputLaws.{TakesChar, TakesString, EndsWord, TakesNumber, both, lone_13, lone_10, at_eof, TakesLine, TakingLaws}

-- ---- a Char

abbrev Took : List ℕ → ℕ × List ℕ → Type 0
Took input read = TakesChar input read.0 read.1

char_by : (b : ℕ) (rest : List ℕ) (v : Bool) → eqb b eof_byte ≡ v → v ≡ false → Took (b ∷ rest) (cond v (eof_byte, b ∷ rest) (b, rest))
char_by b rest true e h = absurd cc
char_by b rest false e h = record { parts = refl; is = eqb-false b eof_byte e }

char : (input : List ℕ) → is_eof input ≡ false → TakesChar input (char_read input).0 (char_read input).1
char [] h = absurd cc
char (b ∷ rest) h = char_by b rest (eqb b eof_byte) refl h

-- ---- a string

not-false : (x : Bool) → not x ≡ false → x ≡ true
not-false true h = refl
not-false false h = absurd cc

eoln : (rest : List ℕ) → Stops is_text_byte rest → is_eoln rest ≡ true
eoln [] h = refl
eoln (b ∷ rest) h = not-false (ends_line b || eqb b eof_byte) h

string_ends : (size p : ℕ) (input : List ℕ) → p ≡ prefix_len is_text_byte input → (length (take (min size p) input) ≡ size) ⊎ (is_eoln (drop (min size p) input) ≡ true)
string_ends size p input e =
    let within = prefix-within is_text_byte input in
    let taken = length-take (min size p) input in
    elim (cases_lt p size) [
      | inl l ↦ let m : min size p ≡ prefix_len is_text_byte input = omega arith in inr (rw m (eoln _ (rest_stops is_text_byte input)))
      | inr g ↦ inl (omega arith)
    ]

string : (size : ℕ) (input : List ℕ) → TakesString size input (string_read size input).0 (string_read size input).1
string size input = record {
  parts = sym (take-append-drop (string_length size input) input);
  bytes = prefix_passes is_text_byte input (string_length size input) (omega arith);
  room = let taken = length-take (string_length size input) input in omega arith;
  ends = string_ends size (prefix_len is_text_byte input) input refl;
}

-- ---- a number

word_ends : (rest : List ℕ) → Stops is_word_byte rest → EndsWord rest
word_ends [] h = tt
word_ends (b ∷ rest) h = h

eof-from : (x y : Bool) → not (x || y) ≡ false → x ≡ false → y ≡ true
eof-from true y h k = absurd cc
eof-from false true h k = refl
eof-from false false h k = absurd cc

no_word_by : (b n : ℕ) (rest : List ℕ) (v : Bool) → is_word_byte b ≡ v → is_separator b ≡ false → take (cond v (1 + n) 0) (b ∷ rest) ≡ [] → is_eof (drop (cond v (1 + n) 0) (b ∷ rest)) ≡ true
no_word_by b n rest true e s h = let k : 1 + n ≡ suc n = omega arith in absurd (let g = rw k at h in cc)
no_word_by b n rest false e s h = eof-from (is_separator b) (eqb b eof_byte) e s

no_word : (input : List ℕ) → Stops is_separator input → take (word_length input) input ≡ [] → is_eof (drop (word_length input) input) ≡ true
no_word [] s h = refl
no_word (b ∷ rest) s h = no_word_by b (word_length rest) rest (is_word_byte b) refl s h

number : (input : List ℕ) → TakesNumber input (number_read input).0 (number_read input).1
number input = record {
  gap = take (prefix_len is_separator input) input;
  word = take (word_length (after_separators input)) (after_separators input);
  parts = sym (ap (λ (l : List ℕ). take (prefix_len is_separator input) input ++ l) (take-append-drop (word_length (after_separators input)) (after_separators input)) ∙ take-append-drop (prefix_len is_separator input) input);
  separators = prefix_passes is_separator input (prefix_len is_separator input) (omega arith);
  bytes = prefix_passes is_word_byte (after_separators input) (word_length (after_separators input)) (omega arith);
  ends = word_ends _ (rest_stops is_word_byte (after_separators input));
  is = refl;
  some = no_word (after_separators input) (rest_stops is_separator input);
}

-- ---- a line

feed_by : (b c : ℕ) (rest : List ℕ) (v : Bool) → b ≡ 13 → eqb c 10 ≡ v → TakesLine (b ∷ c ∷ rest) (cond v rest (c ∷ rest))
feed_by b c rest true e f = record { line = []; ending = 13 ∷ 10 ∷ []; parts = rw (e, eqb-true c 10 f) refl; bytes = tt; ends = both rest }
feed_by b c rest false e f = record { line = []; ending = 13 ∷ []; parts = rw e refl; bytes = tt; ends = lone_13 (c ∷ rest) (eqb-false c 10 f) }

returned : (b : ℕ) (rest : List ℕ) → b ≡ 13 → TakesLine (b ∷ rest) (after_13 rest)
returned b [] e = record { line = []; ending = 13 ∷ []; parts = rw e refl; bytes = tt; ends = lone_13 [] tt }
returned b (c ∷ rest) e = feed_by b c rest (eqb c 10) e refl

line_by : (b : ℕ) (rest : List ℕ) (u v w : Bool) → eqb b eof_byte ≡ u → eqb b 13 ≡ v → eqb b 10 ≡ w → TakesLine rest (after_line rest) → TakesLine (b ∷ rest) (cond u (b ∷ rest) (cond v (after_13 rest) (cond w rest (after_line rest))))
line_by b rest true v w e f g ih = record { line = []; ending = []; parts = refl; bytes = tt; ends = at_eof (b ∷ rest) e }
line_by b rest false true w e f g ih = returned b rest (eqb-true b 13 f)
line_by b rest false false true e f g ih = record { line = []; ending = 10 ∷ []; parts = rw (eqb-true b 10 g) refl; bytes = tt; ends = lone_10 rest }
line_by b rest false false false e f g ih = record {
  line = b ∷ ih.line;
  ending = ih.ending;
  parts = ap (λ (l : List ℕ). b ∷ l) ih.parts;
  bytes = (rw (f, g, e) refl, ih.bytes);
  ends = ih.ends;
}

line : (input : List ℕ) → TakesLine input (after_line input)
line [] = record { line = []; ending = []; parts = refl; bytes = tt; ends = at_eof [] refl }
line (b ∷ rest) = line_by b rest (eqb b eof_byte) (eqb b 13) (eqb b 10) refl refl refl (line rest)

pub taking_laws : TakingLaws
taking_laws = record { char = char; string = string; number = number; line = line }
