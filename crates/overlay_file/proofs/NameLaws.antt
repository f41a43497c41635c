-- Names and fixups: what was read stands there, and what stands there is read.
use Rattle.std.proofs.Common.{◌≡◌, ℕ, zero, suc, ◌+◌, ◌-◌, ◌*◌, ◌<◌, ◌≤◌, Bool, true, false, List, [], ◌∷◌, ◌++◌, length, get_or, take, drop, Result, Ok, Err, refl, sym, ap, ap₂, subst, ◌∙◌, arith}
use Rattle.std.specs.Prelude.{IsTrue, ◌&&◌, not, nat_lt, nat_le, ◌==◌, slice_range}
use Rattle.std.specs.List.{list_all}
use Rattle.std.proofs.lemmas.Bool.Decides.{nat_tests}
use Rattle.cpu_8086.specs.Memory.{low_byte, high_byte}
use Rattle.mz_file.specs.Words.{word_at, words_at, bytes_of_words}
use Rattle.type_layout.specs.Words.{is_name_byte, is_digit, IsName}
use Rattle.overlay_file.specs.Format.{AreFixups, name_bytes}
use Rattle.overlay_file.specs.Parts.{◌>>=◌, byte_where, word_where}
use Rattle.overlay_file.specs.Reading.{is_name_length, stands_in_name, name_from, name_at, stands_as_fixup, fixups_from}
use Rattle.overlay_file.proofs.Places.{AreBytes, Has, has-append, has-back, has-unique, has-slice, length-slice, word-held}
use Rattle.overlay_file.proofs.PartLaws.{done, ok_is, bind_ok, both, and, Read, byte_where-ok, byte_where-again, word_where-ok, word_where-again, free_word-ok}

-- bytes that may stand in a name from its byte `k` on
abbrev pub StandInName : ℕ → List ℕ → Type 0
StandInName k [] = Unit {0}
StandInName k (byte ∷ text) = IsTrue (stands_in_name k byte) × StandInName (k + 1) text

-- the bytes of a name that was read
pub record NameRead (k left : ℕ) (bytes : List ℕ) (at behind : ℕ) : Type 0 where
  pub text : List ℕ
  pub size : length text ≡ left
  pub behind_it : behind ≡ at + left
  pub held : Has bytes at text
  pub stands : StandInName k text

pub name_from-ok : (k left : ℕ) (bytes : List ℕ) (at behind : ℕ) → at ≤ length bytes → name_from k left bytes at ≡ Ok behind → NameRead k left bytes at behind
unfolding name_from
name_from-ok k zero bytes at behind inside read = record {
  text = [];
  size = refl;
  behind_it = let same = ok_is at behind read in omega arith;
  held = record { inside = omega arith; same = λ j below. absurd (omega arith) };
  stands = tt;
}
name_from-ok k (suc left) bytes at behind inside read =
    let first = bind_ok (byte_where (stands_in_name k) bytes at) (λ _. name_from (k + 1) left bytes (at + 1)) behind read in
    let byte = byte_where-ok (stands_in_name k) bytes at first.0 first.1 in
    let others = name_from-ok (k + 1) left bytes (at + 1) behind (omega (arith, byte.held.inside)) first.2 in
    record {
      text = first.0 ∷ others.text;
      size = ap suc others.size;
      behind_it = omega (arith, others.behind_it);
      held = has-append bytes at (at + 1) (first.0 ∷ []) others.text refl byte.held others.held;
      stands = (byte.allowed, others.stands);
    }

pub name_from-again : (k : ℕ) (bytes : List ℕ) (at : ℕ) (text : List ℕ) → Has bytes at text → StandInName k text → name_from k (length text) bytes at ≡ Ok (at + length text)
unfolding name_from
name_from-again k bytes at [] held stands = let here : at ≡ at + 0 = omega arith in ap (λ (n : ℕ). done n) here
name_from-again k bytes at (byte ∷ text) held stands =
    let others = name_from-again (k + 1) bytes (at + 1) text (has-back bytes at (at + 1) (byte ∷ []) text refl held) stands.1 in
    let behind : at + 1 + length text ≡ at + suc (length text) = omega arith in
    rw (byte_where-again (stands_in_name k) bytes at byte text held stands.0) (others ∙ ap (λ (n : ℕ). done n) behind)

-- which of them make a name
all_stand : (k : ℕ) (text : List ℕ) → StandInName k text → IsTrue (list_all is_name_byte text)
all_stand k [] stands = refl
all_stand k (byte ∷ text) stands = and (is_name_byte byte) (list_all is_name_byte text) (both (is_name_byte byte) (not (k == 0 && is_digit byte)) stands.0).0 (all_stand (k + 1) text stands.1)

later_stand : (k : ℕ) (text : List ℕ) → 0 < k → IsTrue (list_all is_name_byte text) → StandInName k text
later_stand k [] some all = tt
later_stand k (byte ∷ text) some all =
    let parts = both (is_name_byte byte) (list_all is_name_byte text) all in
    let not_first : (k == 0) ≡ false = grind (arith, nat_tests) in
    (and (is_name_byte byte) (not (k == 0 && is_digit byte)) parts.0 (rw not_first refl), later_stand (k + 1) text (omega arith) parts.1)

pub name-from_stands : (text : List ℕ) → 0 < length text → length text ≤ 63 → StandInName 0 text → IsName text
name-from_stands [] some few stands = absurd (omega arith)
name-from_stands (byte ∷ text) some few stands =
    let first = both (is_name_byte byte) (not (is_digit byte)) stands.0 in
    let some_length : nat_lt 0 (suc (length text)) ≡ true = grind (arith, nat_tests) in
    let few_length : nat_le (suc (length text)) 63 ≡ true = grind (arith, nat_tests) in
    rw (some_length, few_length, first.1) (all_stand 0 (byte ∷ text) stands)

pub record NameParts (text : List ℕ) : Type 0 where
  pub some : 0 < length text
  pub few : length text ≤ 63
  pub stands : StandInName 0 text

pub stands-from_name : (text : List ℕ) → IsName text → NameParts text
stands-from_name [] name = absurd cc
stands-from_name (byte ∷ text) name =
    let whole = both (nat_lt 0 (suc (length text)) && nat_le (suc (length text)) 63 && not (is_digit byte)) (list_all is_name_byte (byte ∷ text)) name in
    let front = both (nat_lt 0 (suc (length text)) && nat_le (suc (length text)) 63) (not (is_digit byte)) whole.0 in
    let sizes = both (nat_lt 0 (suc (length text))) (nat_le (suc (length text)) 63) front.0 in
    let bytes = both (is_name_byte byte) (list_all is_name_byte text) whole.1 in
    record {
      some = omega arith;
      few = grind (arith, nat_tests, sizes.1);
      stands = (and (is_name_byte byte) (not (is_digit byte)) bytes.0 front.1, later_stand 1 text (omega arith) bytes.1);
    }

-- a name with its length
pub record NameStands (bytes : List ℕ) (at : ℕ) (name : List ℕ) : Type 0 where
  pub held : Has bytes at (name_bytes name)
  pub is_name : IsName name

pub name_at-ok : (bytes : List ℕ) (at : ℕ) (name : List ℕ) → name_at bytes at ≡ Ok name → NameStands bytes at name
unfolding name_at
name_at-ok bytes at name read =
    let first = bind_ok (byte_where is_name_length bytes at) (λ size. name_from 0 size bytes (at + 1) >>= λ behind. Ok (slice_range bytes (at + 1) behind)) name read in
    let second = bind_ok (name_from 0 first.0 bytes (at + 1)) (λ behind. Ok (slice_range bytes (at + 1) behind)) name first.2 in
    let size = byte_where-ok is_name_length bytes at first.0 first.1 in
    let text = name_from-ok 0 first.0 bytes (at + 1) second.0 (omega (arith, size.held.inside)) second.1 in
    let count : second.0 - (at + 1) ≡ first.0 = omega (arith, text.behind_it) in
    let room : at + 1 + first.0 ≤ length bytes = omega (arith, text.held.inside, text.size) in
    let slice : take first.0 (drop (at + 1) bytes) ≡ text.text =
    has-unique bytes (at + 1) (take first.0 (drop (at + 1) bytes)) text.text (length-slice bytes (at + 1) first.0 room ∙ sym text.size) (has-slice bytes (at + 1) first.0 room) text.held in
    let is : text.text ≡ name = sym slice ∙ ap (λ (n : ℕ). take n (drop (at + 1) bytes)) (sym count) ∙ ok_is (slice_range bytes (at + 1) second.0) name second.2 in
    let limits = both (nat_lt 0 first.0) (nat_le first.0 63) size.allowed in
    let some : 0 < length text.text = grind (arith, nat_tests, limits.0, text.size) in
    let few : length text.text ≤ 63 = grind (arith, nat_tests, limits.1, text.size) in
    let stands : NameStands bytes at text.text = record {
      held = has-append bytes at (at + 1) (length text.text ∷ []) text.text refl (subst (λ (n : ℕ). Has bytes at (n ∷ [])) (sym text.size) size.held) text.held;
      is_name = name-from_stands text.text some few text.stands;
    } in
    subst (λ (text : List ℕ). NameStands bytes at text) is stands

pub name_at-again : (bytes : List ℕ) (at : ℕ) (name : List ℕ) → Has bytes at (name_bytes name) → IsName name → name_at bytes at ≡ Ok name
unfolding name_at
name_at-again bytes at name held named =
    let parts = stands-from_name name named in
    let text = has-back bytes at (at + 1) (length name ∷ []) name refl held in
    let length_fits : IsTrue (is_name_length (length name)) = and (nat_lt 0 (length name)) (nat_le (length name) 63) (grind (arith, nat_tests, parts.some)) (grind (arith, nat_tests, parts.few)) in
    let count : (at + 1 + length name) - (at + 1) ≡ length name = omega arith in
    let room : at + 1 + length name ≤ length bytes = omega (arith, text.inside) in
    let slice : slice_range bytes (at + 1) (at + 1 + length name) ≡ name =
    ap (λ (n : ℕ). take n (drop (at + 1) bytes)) count
    ∙ has-unique bytes (at + 1) (take (length name) (drop (at + 1) bytes)) name (length-slice bytes (at + 1) (length name) room) (has-slice bytes (at + 1) (length name) room) text in
    rw (byte_where-again is_name_length bytes at (length name) name held length_fits, name_from-again 0 bytes (at + 1) name text parts.stands) (ap (λ (text : List ℕ). done text) slice)

-- fixups
pub record FixupsRead (size least left : ℕ) (bytes : List ℕ) (at behind : ℕ) : Type 0 where
  pub behind_it : behind ≡ at + 2 * left
  pub inside : at + 2 * left ≤ length bytes
  pub fit : AreFixups size least (words_at bytes at left)

pub fixups_from-ok : (size least left : ℕ) (bytes : List ℕ) (at behind : ℕ) → AreBytes bytes → at ≤ length bytes → fixups_from size least left bytes at ≡ Ok behind → FixupsRead size least left bytes at behind
unfolding fixups_from
fixups_from-ok size least zero bytes at behind fits inside read = record {
  behind_it = let same = ok_is at behind read in omega arith;
  inside = omega arith;
  fit = tt;
}
fixups_from-ok size least (suc left) bytes at behind fits inside read =
    let first = bind_ok (word_where (stands_as_fixup size least) bytes at) (λ fixup. fixups_from size (fixup + 2) left bytes (at + 2)) behind read in
    let fixup = word_where-ok (stands_as_fixup size least) bytes at first.0 fits first.1 in
    let is : word_at bytes at ≡ first.0 = word-held bytes at first.0 [] fixup.held in
    let limits = both (nat_le least first.0) (nat_le (first.0 + 2) size) fixup.allowed in
    let others = fixups_from-ok size (first.0 + 2) left bytes (at + 2) behind fits (omega (arith, fixup.held.inside)) first.2 in
    let low : least ≤ word_at bytes at = grind (arith, nat_tests, limits.0, is) in
    let high : word_at bytes at + 2 ≤ size = grind (arith, nat_tests, limits.1, is) in
    record {
      behind_it = omega (arith, others.behind_it);
      inside = omega (arith, others.inside);
      fit = (low, high, subst (λ (fixup : ℕ). AreFixups size (fixup + 2) (words_at bytes (at + 2) left)) (sym is) others.fit);
    }

pub fixups_from-again : (size least : ℕ) (bytes : List ℕ) (at : ℕ) (fixups : List ℕ) → Has bytes at (bytes_of_words fixups) → AreFixups size least fixups → fixups_from size least (length fixups) bytes at ≡ Ok (at + 2 * length fixups)
unfolding fixups_from
fixups_from-again size least bytes at [] held fit = let here : at ≡ at + 2 * 0 = omega arith in ap (λ (n : ℕ). done n) here
fixups_from-again size least bytes at (fixup ∷ fixups) held fit =
    let others = fixups_from-again size (fixup + 2) bytes (at + 2) fixups (has-back bytes at (at + 2) (low_byte fixup ∷ high_byte fixup ∷ []) (bytes_of_words fixups) refl held) fit.2 in
    let behind : at + 2 + 2 * length fixups ≡ at + 2 * suc (length fixups) = omega arith in
    let stands : IsTrue (stands_as_fixup size least fixup) = and (nat_le least fixup) (nat_le (fixup + 2) size) (grind (arith, nat_tests, fit.0)) (grind (arith, nat_tests, fit.1)) in
    rw (word_where-again (stands_as_fixup size least) bytes at fixup (bytes_of_words fixups) held stands) (others ∙ ap (λ (n : ℕ). done n) behind)

-- a name that was read lies inside the bytes
pub record NameRoom (bytes : List ℕ) (at behind : ℕ) : Type 0 where
  pub size : ℕ
  pub end : behind ≡ at + 1 + size
  pub inside : behind ≤ length bytes
  pub name : IsName (slice_range bytes (at + 1) behind)

pub name_room : (bytes : List ℕ) (at size behind : ℕ) → byte_where is_name_length bytes at ≡ Ok size → name_from 0 size bytes (at + 1) ≡ Ok behind → NameRoom bytes at behind
unfolding name_at
name_room bytes at size behind sized read =
    let first = byte_where-ok is_name_length bytes at size sized in
    let text = name_from-ok 0 size bytes (at + 1) behind (omega (arith, first.held.inside)) read in
    let whole : name_at bytes at ≡ Ok (slice_range bytes (at + 1) behind) = rw (sized, read) refl in
    record {
      size = size;
      end = text.behind_it;
      inside = omega (arith, text.behind_it, text.held.inside, text.size);
      name = (name_at-ok bytes at (slice_range bytes (at + 1) behind) whole).is_name;
    }
