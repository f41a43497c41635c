-- The parts of a file one by one: what is read of each is spelled so, and what is spelled so is read.
use Rattle.std.proofs.Common.{◌≡◌, ℕ, zero, suc, ◌+◌, ◌<◌, ◌≤◌, ◌^◌, Bool, true, false, cond, ltb, List, [], ◌∷◌, ◌++◌, length, take, drop, Ok, Err, refl, sym, ap, subst, ◌∙◌, append_assoc, arith, inl, inr}
use Rattle.std.specs.Prelude.{IsTrue, nat_lt}
use Rattle.std.specs.Int.{w16, w32, from_le_bytes}
use Rattle.std.specs.List.{flat_map}
use Rattle.std.proofs.lemmas.Bool.{cases_lt, ltb-false, le-ltb}
use Rattle.std.proofs.lemmas.Bool.Decides.{nat_tests}
use Rattle.std.proofs.lemmas.List.{take_at, drop_at, take-append-drop, length-append, length-take, get_or-drop, get_or-take, get_or_past}
use Rattle.std.proofs.lemmas.List.Concat.{flat_map-cons}
use Rattle.std.proofs.lemmas.Nat.{le_bytes_2, le_bytes_4, from_le_bytes-to_le_bytes_2, from_le_bytes-to_le_bytes_4}
use Rattle.object_file.specs.file_parts.Spelling.{word_text, long_text, bytes_text, list_text, FitInTurn, IsLong}
use Rattle.object_file.specs.file_parts.Parts.{Reader, ◌>>=◌, ruled, byte_at, word_at, long_at, some_bytes, bytes_where, tagged, in_turn, list_where}
use Rattle.object_file.proofs.file_parts.Laws.{IsBytes, Takes, Meets, ok_is, bind_ok, fits_as, ruled_meets}

IsBytes-drop : (n : ℕ) (bytes : List ℕ) → IsBytes bytes → IsBytes (drop n bytes)
IsBytes-drop n bytes h i = rw get_or-drop (h (n + i))

IsBytes-take : (n : ℕ) (bytes : List ℕ) → IsBytes bytes → IsBytes (take n bytes)
IsBytes-take n bytes h i =
    elim (cases_lt i n) [
      | inl lt ↦ rw (get_or-take n bytes i 0 lt) (h i)
      | inr le ↦ rw (get_or_past (take n bytes) i 0 (omega (arith, length-take n bytes))) (omega arith)
    ]

guard_ok : {A : Type 0} (b : Bool) (left : ℕ) (x y : A) → cond b (Err left) (Ok x) ≡ Ok y → (b ≡ false) × (x ≡ y)
guard_ok true left x y same = absurd cc
guard_ok false left x y same = (refl, cc)

-- a byte
abbrev pub byte_text : ℕ → List ℕ
byte_text byte = byte ∷ []

abbrev pub IsByte : ℕ → Type 0
IsByte byte = byte < 256

byte_takes : (bytes : List ℕ) (x : ℕ × List ℕ) → IsBytes bytes → byte_at bytes ≡ Ok x → Takes byte_text IsByte bytes x
unfolding byte_at
byte_takes [] x fits e = absurd cc
byte_takes (byte ∷ rest) x fits e =
    let here : ℕ × List ℕ = (byte, rest) in
    subst (λ (y : ℕ × List ℕ). Takes byte_text IsByte (byte ∷ rest) y) (ok_is here x e) (record { parts = refl; rest_fits = λ i. fits (suc i); fits = fits 0 })

pub byte_meets : Meets byte_at byte_text IsByte
unfolding byte_at
byte_meets = record { takes = byte_takes; again = λ byte rest fits. refl }

-- numbers of more bytes
long_takes : (bytes : List ℕ) (x : ℕ × List ℕ) → IsBytes bytes → long_at bytes ≡ Ok x → Takes long_text IsLong bytes x
unfolding long_at
long_takes bytes x fits e =
    let number : ℕ = from_le_bytes w32 (take 4 bytes) in
    let read : ℕ × List ℕ = (number, drop 4 bytes) in
    let g = guard_ok (ltb (length bytes) 4) 0 read x e in
    let enough : 4 ≤ length bytes = ltb-false _ _ g.0 in
    let front : IsBytes (take 4 bytes) = IsBytes-take 4 bytes fits in
    let spelled : long_text number ≡ take 4 bytes = le_bytes_4 (take 4 bytes) number (omega (arith, length-take 4 bytes)) front refl in
    subst (λ (y : ℕ × List ℕ). Takes long_text IsLong bytes y) g.1 (record {
      parts = sym (take-append-drop 4 bytes) ∙ ap (λ (t : List ℕ). t ++ drop 4 bytes) (sym spelled);
      rest_fits = IsBytes-drop 4 bytes fits;
      fits = omega (arith, front 0, front 1, front 2, front 3);
    })

long_again : (number : ℕ) (rest : List ℕ) → IsLong number → long_at (long_text number ++ rest) ≡ Ok (number, rest)
unfolding long_at
long_again number rest fits =
    let enough : ltb (length (long_text number ++ rest)) 4 ≡ false = le-ltb _ _ (omega (arith, length-append (long_text number) rest)) in
    rw enough (ap (λ (n : ℕ). Ok (n, rest)) (from_le_bytes-to_le_bytes_4 number fits))

pub long_meets : Meets long_at long_text IsLong
long_meets = record { takes = long_takes; again = long_again }

abbrev pub IsWord : ℕ → Type 0
IsWord word = word < 2 ^ 16

word_takes : (bytes : List ℕ) (x : ℕ × List ℕ) → IsBytes bytes → word_at bytes ≡ Ok x → Takes word_text IsWord bytes x
unfolding word_at
word_takes bytes x fits e =
    let number : ℕ = from_le_bytes w16 (take 2 bytes) in
    let read : ℕ × List ℕ = (number, drop 2 bytes) in
    let g = guard_ok (ltb (length bytes) 2) 0 read x e in
    let enough : 2 ≤ length bytes = ltb-false _ _ g.0 in
    let front : IsBytes (take 2 bytes) = IsBytes-take 2 bytes fits in
    let spelled : word_text number ≡ take 2 bytes = le_bytes_2 (take 2 bytes) number (omega (arith, length-take 2 bytes)) front refl in
    subst (λ (y : ℕ × List ℕ). Takes word_text IsWord bytes y) g.1 (record {
      parts = sym (take-append-drop 2 bytes) ∙ ap (λ (t : List ℕ). t ++ drop 2 bytes) (sym spelled);
      rest_fits = IsBytes-drop 2 bytes fits;
      fits = omega (arith, front 0, front 1);
    })

word_again : (number : ℕ) (rest : List ℕ) → IsWord number → word_at (word_text number ++ rest) ≡ Ok (number, rest)
unfolding word_at
word_again number rest fits =
    let enough : ltb (length (word_text number ++ rest)) 2 ≡ false = le-ltb _ _ (omega (arith, length-append (word_text number) rest)) in
    rw enough (ap (λ (n : ℕ). Ok (n, rest)) (from_le_bytes-to_le_bytes_2 number fits))

pub word_meets : Meets word_at word_text IsWord
word_meets = record { takes = word_takes; again = word_again }

-- many items, each read by what the items before it left behind
in_turn_takes : {S A : Type 0} (read : S → Reader A) (text : A → List ℕ) (F : S → A → Type 0) (next : S → A → S) → ((s : S) → Meets (read s) text (F s)) → (count : ℕ) (s : S) (bytes : List ℕ) (x : List A × List ℕ) → IsBytes bytes → in_turn read next count s bytes ≡ Ok x
    → Takes (flat_map text) (λ items. (length items ≡ count) × FitInTurn F next s items) bytes x
unfolding in_turn
in_turn_takes {A = A} read text F next meets zero s bytes x fits e =
    let none : List A × List ℕ = ([], bytes) in
    subst (λ (y : List A × List ℕ). Takes (flat_map text) (λ items. (length items ≡ 0) × FitInTurn F next s items) bytes y) (ok_is none x e) (record { parts = refl; rest_fits = fits; fits = (refl, tt) })
in_turn_takes {A = A} read text F next meets (suc count) s bytes x fits e =
    let a = bind_ok (read s bytes) (λ first. in_turn read next count (next s first.0) first.1 >>= λ others. Ok (first.0 ∷ others.0, others.1)) x e in
    let b = bind_ok (in_turn read next count (next s a.0.0) a.0.1) (λ others. Ok (a.0.0 ∷ others.0, others.1)) x a.2 in
    let t = (meets s).takes bytes a.0 fits a.1 in
    let u = in_turn_takes read text F next meets count (next s a.0.0) a.0.1 b.0 t.rest_fits b.1 in
    let all : List A × List ℕ = (a.0.0 ∷ b.0.0, b.0.1) in
    let spelled : bytes ≡ flat_map text (a.0.0 ∷ b.0.0) ++ b.0.1 =
    t.parts ∙ ap (λ (rest : List ℕ). text a.0.0 ++ rest) u.parts ∙ sym (append_assoc (text a.0.0) (flat_map text b.0.0) b.0.1) ∙ ap (λ (front : List ℕ). front ++ b.0.1) (sym (flat_map-cons text a.0.0 b.0.0)) in
    subst (λ (y : List A × List ℕ). Takes (flat_map text) (λ items. (length items ≡ suc count) × FitInTurn F next s items) bytes y) (ok_is all x b.2)
    (record { parts = spelled; rest_fits = u.rest_fits; fits = (ap suc u.fits.0, (t.fits, u.fits.1)) })

in_turn_again : {S A : Type 0} (read : S → Reader A) (text : A → List ℕ) (F : S → A → Type 0) (next : S → A → S) → ((s : S) → Meets (read s) text (F s)) → (s : S) (items : List A) (rest : List ℕ) → FitInTurn F next s items
    → in_turn read next (length items) s (flat_map text items ++ rest) ≡ Ok (items, rest)
unfolding in_turn
in_turn_again read text F next meets s [] rest fits = refl
in_turn_again read text F next meets s (item ∷ items) rest fits =
    let regrouped : flat_map text (item ∷ items) ++ rest ≡ text item ++ (flat_map text items ++ rest) = ap (λ (front : List ℕ). front ++ rest) (flat_map-cons text item items) ∙ append_assoc (text item) (flat_map text items) rest in
    ap (in_turn read next (suc (length items)) s) regrouped
    ∙ ap (λ r. r >>= λ first. in_turn read next (length items) (next s first.0) first.1 >>= λ others. Ok (first.0 ∷ others.0, others.1)) ((meets s).again item (flat_map text items ++ rest) fits.0)
    ∙ ap (λ r. r >>= λ others. Ok (item ∷ others.0, others.1)) (in_turn_again read text F next meets (next s item) items rest fits.1)

pub in_turn_meets : {S A : Type 0} {read : S → Reader A} {text : A → List ℕ} {F : S → A → Type 0} (next : S → A → S) → ((s : S) → Meets (read s) text (F s)) → (count : ℕ) (s : S)
    → Meets (in_turn read next count s) (flat_map text) (λ items. (length items ≡ count) × FitInTurn F next s items)
in_turn_meets {read = read} {text = text} {F = F} next meets count s = record {
  takes = in_turn_takes read text F next meets count s;
  again = λ items rest fits. ap (λ (n : ℕ). in_turn read next n s (flat_map text items ++ rest)) (sym fits.0) ∙ in_turn_again read text F next meets s items rest fits.1;
}

-- what stands behind its count
pub counted : {B : Type 0} {head : Reader ℕ} {head_text : ℕ → List ℕ} {H : ℕ → Type 0} (read : ℕ → Reader B) (text : B → List ℕ) (size : B → ℕ) (F : B → Type 0) → Meets head head_text H → ((n : ℕ) → Meets (read n) text (λ b. (size b ≡ n) × F b))
    → Meets (λ bytes. head bytes >>= λ count. read count.0 count.1) (λ b. head_text (size b) ++ text b) (λ b. H (size b) × F b)
counted {B = B} {head = head} {head_text = head_text} {H = H} read text size F front meets = record {
  takes = λ bytes x fits e.
      let a = bind_ok (head bytes) (λ count. read count.0 count.1) x e in
      let t = front.takes bytes a.0 fits a.1 in
      let u = (meets a.0.0).takes a.0.1 x t.rest_fits a.2 in
      let counts : size x.0 ≡ a.0.0 = u.fits.0 in
      record {
        parts = t.parts ∙ ap (λ (rest : List ℕ). head_text a.0.0 ++ rest) u.parts ∙ sym (append_assoc (head_text a.0.0) (text x.0) x.1) ∙ ap (λ (n : ℕ). (head_text n ++ text x.0) ++ x.1) (sym counts);
        rest_fits = u.rest_fits;
        fits = (subst H (sym counts) t.fits, u.fits.1);
      };
  again = λ b rest fits.
      ap (λ bytes. head bytes >>= λ count. read count.0 count.1) (append_assoc (head_text (size b)) (text b) rest)
      ∙ ap (λ r. r >>= λ count. read count.0 count.1) (front.again (size b) (text b ++ rest) fits.0)
      ∙ (meets (size b)).again b rest (refl, fits.1);
}

pub list_meets : {S A : Type 0} {read : S → Reader A} {text : A → List ℕ} {F : S → A → Type 0} (rule : ℕ → Bool) (next : S → A → S) (s : S) → ((s : S) → Meets (read s) text (F s))
    → Meets (list_where rule read next s) (list_text text) (λ items. (IsLong (length items) × IsTrue (rule (length items))) × FitInTurn F next s items)
list_meets {A = A} {read = read} {text = text} {F = F} rule next s meets =
    counted (λ count. in_turn read next count s) (flat_map text) length (λ items. FitInTurn F next s items) (ruled_meets rule long_meets) (λ count. in_turn_meets next meets count s)

-- bytes that no rule binds
some_bytes_meets : (count : ℕ) → Meets (some_bytes count) (λ bytes. bytes) (λ bytes. (length bytes ≡ count) × Unit {0})
unfolding some_bytes
some_bytes_meets count = record {
  takes = λ bytes x fits e.
      let read : List ℕ × List ℕ = (take count bytes, drop count bytes) in
      let g = guard_ok (ltb (length bytes) count) 0 read x e in
      let enough : count ≤ length bytes = ltb-false _ _ g.0 in
      subst (λ (y : List ℕ × List ℕ). Takes (λ bytes. bytes) (λ bytes. (length bytes ≡ count) × Unit {0}) bytes y) g.1 (record {
        parts = sym (take-append-drop count bytes);
        rest_fits = IsBytes-drop count bytes fits;
        fits = (omega (arith, length-take count bytes), tt);
      });
  again = λ bytes rest fits.
      let enough : ltb (length (bytes ++ rest)) count ≡ false = le-ltb _ _ (omega (arith, length-append bytes rest, fits.0)) in
      rw (enough, take_at bytes rest count fits.0, drop_at bytes rest count fits.0) refl;
}

pub bytes_meets : (rule : ℕ → Bool) → Meets (bytes_where rule) bytes_text (λ bytes. IsLong (length bytes) × IsTrue (rule (length bytes)))
unfolding bytes_where
bytes_meets rule = fits_as (λ bytes. IsLong (length bytes) × IsTrue (rule (length bytes))) (counted some_bytes (λ bytes. bytes) length (λ _. Unit {0}) (ruled_meets rule long_meets) some_bytes_meets) (λ bytes fits. fits.0) (λ bytes fits. (fits, tt))

-- a byte that says what follows
pub tagged_meets : {H : Type 0} {body : ℕ → Reader H} {text : H → List ℕ} {F : H → Type 0} (bound : ℕ) (tag_of : H → ℕ) → bound ≤ 256 → ((h : H) → tag_of h < bound) → ((tag : ℕ) → Meets (body tag) text (λ h. (tag_of h ≡ tag) × F h))
    → Meets (tagged bound body) (λ h. tag_of h ∷ text h) F
tagged_meets {H = H} {body = body} {text = text} {F = F} bound tag_of few below meets = record {
  takes = λ bytes x fits e.
      let head = ruled_meets (λ (tag : ℕ). nat_lt tag bound) byte_meets in
      let a = bind_ok (ruled (λ tag. nat_lt tag bound) byte_at bytes) (λ tag. body tag.0 tag.1) x e in
      let t = head.takes bytes a.0 fits a.1 in
      let u = (meets a.0.0).takes a.0.1 x t.rest_fits a.2 in
      record {
        parts = t.parts ∙ ap (λ (rest : List ℕ). a.0.0 ∷ rest) u.parts ∙ ap (λ (tag : ℕ). tag ∷ (text x.0 ++ x.1)) (sym u.fits.0);
        rest_fits = u.rest_fits;
        fits = u.fits.1;
      };
  again = λ h rest fits.
      let head = ruled_meets (λ (tag : ℕ). nat_lt tag bound) byte_meets in
      let less = below h in
      let allowed_tag : IsTrue (nat_lt (tag_of h) bound) = grind (arith, nat_tests, less) in
      let is_byte : tag_of h < 256 = omega (arith, less, few) in
      ap (λ r. r >>= λ tag. body tag.0 tag.1) (head.again (tag_of h) (text h ++ rest) (is_byte, allowed_tag))
      ∙ (meets (tag_of h)).again h rest (refl, fits);
}
