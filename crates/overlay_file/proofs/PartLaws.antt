-- Single parts of a file: what was read stands there, and what stands there is read.
use Rattle.std.proofs.Common.{◌≡◌, ℕ, zero, suc, ◌+◌, ◌-◌, ◌*◌, ◌<◌, ◌≤◌, Bool, true, false, cond, ltb, leb, List, [], ◌∷◌, ◌++◌, length, get_or, take, drop, Result, Ok, Err, refl, sym, ap, subst, ◌∙◌, arith}
use Rattle.std.specs.Prelude.{IsTrue, ◌&&◌, not, nat_lt, nat_le}
use Rattle.std.proofs.lemmas.Bool.Decides.{nat_tests}
use Rattle.cpu_8086.specs.Memory.{low_byte, high_byte}
use Rattle.mz_file.specs.Words.{word_at, bytes_of_words}
use Rattle.overlay_file.specs.Parts.{◌>>=◌, allowed_at, free_bytes, free_byte, free_word, byte_where, word_where}
use Rattle.overlay_file.proofs.Places.{AreBytes, Has, has-byte, has-word, byte-held, word-held}

abbrev pub done : {A : Type 0} → A → Result A ℕ
done x = Ok x

pub ok_is : {A : Type 0} (x y : A) → done x ≡ done y → x ≡ y
ok_is x y same = cc

-- the value of parts that were sound
pub bind_ok : {A B : Type 0} (r : Result A ℕ) (more : A → Result B ℕ) (y : B) → (r >>= more) ≡ Ok y → (x : A) × (r ≡ Ok x) × (more x ≡ Ok y)
bind_ok (Ok x) more y same = (x, refl, same)
bind_ok (Err at) more y same = absurd cc

-- a test that went well
pub guard_ok : {A : Type 0} (b : Bool) (at : ℕ) (x y : A) → cond b (Err at) (Ok x) ≡ Ok y → (b ≡ false) × (x ≡ y)
guard_ok true at x y same = absurd cc
guard_ok false at x y same = (refl, cc)

pub rule_ok : {A : Type 0} (b : Bool) (at : ℕ) (x y : A) → cond b (Ok x) (Err at) ≡ Ok y → (b ≡ true) × (x ≡ y)
rule_ok true at x y same = (refl, cc)
rule_ok false at x y same = absurd cc

pub both : (a b : Bool) → IsTrue (a && b) → IsTrue a × IsTrue b
both true true holds = (refl, refl)
both true false holds = absurd cc
both false b holds = absurd cc

pub and : (a b : Bool) → IsTrue a → IsTrue b → IsTrue (a && b)
and a b first second = rw (first, second) refl

pub rule_holds : (b : Bool) (at x : ℕ) → IsTrue b → cond b (done x) (Err at) ≡ Ok x
rule_holds b at x holds = rw holds refl

-- bytes that no rule binds
pub free_bytes-ok : (count : ℕ) (bytes : List ℕ) (at behind : ℕ) → free_bytes count bytes at ≡ Ok behind → (at + count ≤ length bytes) × (behind ≡ at + count)
unfolding free_bytes
free_bytes-ok count bytes at behind read =
    let test = guard_ok (nat_lt (length bytes) (at + count)) (length bytes) (at + count) behind read in
    (grind (arith, nat_tests, test.0), sym test.1)

pub free_bytes-again : (count : ℕ) (bytes : List ℕ) (at : ℕ) → at + count ≤ length bytes → free_bytes count bytes at ≡ Ok (at + count)
unfolding free_bytes
free_bytes-again count bytes at inside =
    let test : nat_lt (length bytes) (at + count) ≡ false = grind (arith, nat_tests) in
    rw test refl

free_byte-ok : (bytes : List ℕ) (at byte : ℕ) → free_byte bytes at ≡ Ok byte → (at < length bytes) × (get_or bytes at 0 ≡ byte)
unfolding free_byte
free_byte-ok bytes at byte read =
    let test = guard_ok (nat_lt (length bytes) (at + 1)) (length bytes) (get_or bytes at 0) byte read in
    (grind (arith, nat_tests, test.0), test.1)

free_byte-again : (bytes : List ℕ) (at : ℕ) → at < length bytes → free_byte bytes at ≡ Ok (get_or bytes at 0)
unfolding free_byte
free_byte-again bytes at inside =
    let test : nat_lt (length bytes) (at + 1) ≡ false = grind (arith, nat_tests) in
    rw test refl

pub free_word-ok : (bytes : List ℕ) (at word : ℕ) → free_word bytes at ≡ Ok word → (at + 2 ≤ length bytes) × (word_at bytes at ≡ word)
unfolding free_word
free_word-ok bytes at word read =
    let test = guard_ok (nat_lt (length bytes) (at + 2)) (length bytes) (word_at bytes at) word read in
    (grind (arith, nat_tests, test.0), test.1)

pub free_word-again : (bytes : List ℕ) (at : ℕ) → at + 2 ≤ length bytes → free_word bytes at ≡ Ok (word_at bytes at)
unfolding free_word
free_word-again bytes at inside =
    let test : nat_lt (length bytes) (at + 2) ≡ false = grind (arith, nat_tests) in
    rw test refl

-- what was read of a part with a rule
pub record Read (rule : ℕ → Bool) (bytes : List ℕ) (at x : ℕ) (text : List ℕ) : Type 0 where
  pub allowed : IsTrue (rule x)
  pub held : Has bytes at text

pub byte_where-ok : (rule : ℕ → Bool) (bytes : List ℕ) (at byte : ℕ) → byte_where rule bytes at ≡ Ok byte → Read rule bytes at byte (byte ∷ [])
byte_where-ok rule bytes at byte read =
    let first = bind_ok (free_byte bytes at) (allowed_at at rule) byte read in
    let second = rule_ok (rule first.0) at first.0 byte first.2 in
    let there = free_byte-ok bytes at first.0 first.1 in
    let is : get_or bytes at 0 ≡ byte = there.1 ∙ second.1 in
    record {
      allowed = subst (λ (x : ℕ). IsTrue (rule x)) second.1 second.0;
      held = subst (λ (x : ℕ). Has bytes at (x ∷ [])) is (has-byte bytes at there.0);
    }

pub byte_where-again : (rule : ℕ → Bool) (bytes : List ℕ) (at byte : ℕ) (text : List ℕ) → Has bytes at (byte ∷ text) → IsTrue (rule byte) → byte_where rule bytes at ≡ Ok byte
byte_where-again rule bytes at byte text held allowed =
    let inside : at < length bytes = omega (arith, held.inside) in
    let is : get_or bytes at 0 ≡ byte = byte-held bytes at byte text held in
    ap (λ r. r >>= allowed_at at rule) (free_byte-again bytes at inside ∙ ap (λ (x : ℕ). done x) is) ∙ rule_holds (rule byte) at byte allowed

pub word_where-ok : (rule : ℕ → Bool) (bytes : List ℕ) (at word : ℕ) → AreBytes bytes → word_where rule bytes at ≡ Ok word → Read rule bytes at word (bytes_of_words (word ∷ []))
word_where-ok rule bytes at word fits read =
    let first = bind_ok (free_word bytes at) (allowed_at at rule) word read in
    let second = rule_ok (rule first.0) at first.0 word first.2 in
    let there = free_word-ok bytes at first.0 first.1 in
    let is : word_at bytes at ≡ word = there.1 ∙ second.1 in
    record {
      allowed = subst (λ (x : ℕ). IsTrue (rule x)) second.1 second.0;
      held = subst (λ (x : ℕ). Has bytes at (bytes_of_words (x ∷ []))) is (has-word bytes at fits there.0);
    }

pub word_where-again : (rule : ℕ → Bool) (bytes : List ℕ) (at word : ℕ) (text : List ℕ) → Has bytes at (low_byte word ∷ high_byte word ∷ text) → IsTrue (rule word) → word_where rule bytes at ≡ Ok word
word_where-again rule bytes at word text held allowed =
    let inside : at + 2 ≤ length bytes = omega (arith, held.inside) in
    let is : word_at bytes at ≡ word = word-held bytes at word text held in
    ap (λ r. r >>= allowed_at at rule) (free_word-again bytes at inside ∙ ap (λ (x : ℕ). done x) is) ∙ rule_holds (rule word) at word allowed
