-- Cells that are written and read one by one.
use Rattle.std.proofs.Common.{◌≡◌, ℕ, zero, suc, ◌+◌, ◌<◌, Bool, true, List, [], ◌∷◌, length, get_or, take, Ok, Err, refl, sym, ap, subst, ◌∙◌, arith}
use Rattle.std.specs.Prelude.{nat_lt, if◌then◌else◌}
use Rattle.std.proofs.lemmas.Bool.Decides.{nat_tests}
use Rattle.common_values.specs.integers.Words.{w16, wrapping_add, low_byte}
use Rattle.flat_code.specs.declared.tree.Address.{Address}
use Rattle.flat_code.specs.declared.memory.Place.{Place}
use Rattle.flat_code.specs.declared.memory.Cell.{Cell}
use Rattle.flat_code.specs.declared.memory.Cell.TheVariants.{Known, Unset, Outside}
use Rattle.flat_code.specs.declared.memory.Trap.TheVariants.{Bad}
use Rattle.flat_code.specs.Tree.{Expr, StoreByte, StoreWord, Code, Do}
use Rattle.flat_code.specs.Memory.{Cells, Found, ◌>>=◌, address_of, place_after, byte_in, put, if_inside, store_bytes, laid}
use Rattle.flat_code.specs.Program.{Choice}
use Rattle.flat_code.specs.Meaning.{Frame}
use Rattle.flat_code.proofs.Shut.{put_other}
use Rattle.runtime_proofs.specs.routine_proofs.Activation.{Activation}
use Rattle.runtime_proofs.specs.routine_proofs.Straight.{outer_place, byte_seen, seen_value, with_outer, with_word_at, onward, continued, straight}
use Rattle.runtime_proofs.specs.strings_in_memory.Strings.{HasBytes}

pub put-same : (m : Cells) (a : ℕ) (c : Cell) → put m a c a ≡ c
put-same m a c = grind (arith, nat_tests)

-- ---- reading

small-so : (b : ℕ) → b < 256 → (let r : Found ℕ = if nat_lt b 256 then Ok b else Err (Bad 1) in r ≡ Ok b)
small-so b h = ap (λ (t : Bool). let r : Found ℕ = if t then Ok b else Err (Bad 1) in r) (test b h)
  where
    test : (b : ℕ) → b < 256 → nat_lt b 256 ≡ true
    test b h = grind (arith, nat_tests, h)

pub byte-read : (m : Cells) (p : Place) (i b : ℕ) → m (address_of p i) ≡ Known b → b < 256 → byte_seen m p i ≡ Ok b
byte-read m p i b e h = ap (λ (c : Cell). byte_in c >>= λ byte. if nat_lt byte 256 then Ok byte else Err (Bad 1)) e ∙ small-so b h

-- ---- writing

inside-so : (cell : Cell) (m : Cells) → (cell ≡ Outside → ⊥) → if_inside cell m ≡ Ok m
inside-so (Known byte) m h = refl
inside-so Unset m h = refl
inside-so Outside m h = absurd (h refl)

pub byte-stored : (m : Cells) (p : Place) (i b : ℕ) → (m (address_of p i) ≡ Outside → ⊥) → store_bytes m p i (b ∷ []) ≡ Ok (put m (address_of p i) (Known b))
byte-stored m p i b h = ap (λ (x : Found Cells). x >>= λ n. store_bytes n p (i + 1) []) (inside-so (m (address_of p i)) (put m (address_of p i) (Known b)) h)

-- a store of a byte that stands first in straight code
pub store-so : (choice : Choice) (own : Frame) (above : ℕ) (to : Address) (value : Expr) (next : Code) (a : Activation) (p : Place) (v : ℕ) → seen_value choice own above a value ≡ Ok v → outer_place choice own above a to ≡ Ok p → (a.memory (address_of p 0) ≡ Outside → ⊥) →
    straight choice own above (Do (StoreByte to value) next) a ≡ straight choice own above next (record a { memory = put a.memory (address_of p 0) (Known (low_byte v)) })
store-so choice own above to value next a p v e f h =
    ap (λ (x : Found ℕ). (x >>= λ v. with_outer choice own above a to (low_byte v ∷ []) >>= λ b. onward b) >>= λ c. continued c.exit c.there (straight choice own above next)) e
    ∙ ap (λ (x : Found Place). ((x >>= λ p. store_bytes a.memory p 0 (low_byte v ∷ []) >>= λ m. Ok (record a { memory = m })) >>= λ b. onward b) >>= λ c. continued c.exit c.there (straight choice own above next)) f
    ∙ ap (λ (x : Found Cells). ((x >>= λ m. Ok (record a { memory = m })) >>= λ b. onward b) >>= λ c. continued c.exit c.there (straight choice own above next)) (byte-stored a.memory p 0 (low_byte v) h)

-- ---- addresses

-- one place further
pub after-one : (segment o i : ℕ) → address_of (record { segment = segment; offset = wrapping_add w16 o 1 }) i ≡ address_of (record { segment = segment; offset = o }) (i + 1)
after-one segment o i = omega arith

pub plus-one : (segment o i : ℕ) → address_of (place_after (record { segment = segment; offset = o }) 1) i ≡ address_of (record { segment = segment; offset = o }) (i + 1)
plus-one segment o i = omega arith

-- ---- bytes that stay

pub bytes-kept : (m n : Cells) (p : Place) (i : ℕ) (bytes : List ℕ) → ((k : ℕ) → k < length bytes → n (address_of p (i + k)) ≡ m (address_of p (i + k))) → HasBytes m p i bytes → HasBytes n p i bytes
bytes-kept m n p i [] same has = tt
bytes-kept m n p i (b ∷ bytes) same has =
    let first : i + 0 ≡ i = omega arith in
    (ap n (ap (address_of p) (sym first)) ∙ same 0 (omega arith) ∙ ap m (ap (address_of p) first) ∙ has.0, has.1, bytes-kept m n p (i + 1) bytes (λ k h. let e : i + (k + 1) ≡ i + 1 + k = omega arith in subst (λ j. n (address_of p j) ≡ m (address_of p j)) e (same (k + 1) (omega (arith, h)))) has.2)

-- the same bytes, one place further
pub bytes-further : (m : Cells) (segment o i : ℕ) (bytes : List ℕ) → HasBytes m (record { segment = segment; offset = o }) (i + 1) bytes → HasBytes m (record { segment = segment; offset = wrapping_add w16 o 1 }) i bytes
bytes-further m segment o i [] has = tt
bytes-further m segment o i (b ∷ bytes) has = (ap m (after-one segment o i) ∙ has.0, has.1, bytes-further m segment o (i + 1) bytes has.2)

pub laid-further : (m : Cells) (segment o i : ℕ) (bytes : List ℕ) → laid m (record { segment = segment; offset = wrapping_add w16 o 1 }) i bytes ≡ laid m (record { segment = segment; offset = o }) (i + 1) bytes
laid-further m segment o i [] = refl
laid-further m segment o i (b ∷ bytes) =
    let q : Place = record { segment = segment; offset = o } in
    let r : Place = record { segment = segment; offset = wrapping_add w16 o 1 } in
    ap (λ a. laid (put m a (Known b)) r (i + 1) bytes) (after-one segment o i) ∙ laid-further (put m (address_of q (i + 1)) (Known b)) segment o (i + 1) bytes

-- no step further
pub plus-none : (segment o i : ℕ) → address_of (place_after (record { segment = segment; offset = o }) 0) i ≡ address_of (record { segment = segment; offset = o }) i
plus-none segment o i = omega arith

-- two bytes of a place are apart
pub apart-in : (segment o i j : ℕ) → i < j → j < 65536 → address_of (record { segment = segment; offset = o }) i ≡ address_of (record { segment = segment; offset = o }) j → ⊥
apart-in segment o i j p q e = omega (arith, p, q, e)

-- ---- prefixes of texts

pub bytes-front : (m : Cells) (p : Place) (i k : ℕ) (bytes : List ℕ) → HasBytes m p i bytes → HasBytes m p i (take k bytes)
bytes-front m p i zero [] has = tt
bytes-front m p i zero (b ∷ bytes) has = tt
bytes-front m p i (suc k) [] has = tt
bytes-front m p i (suc k) (b ∷ bytes) has = (has.0, has.1, bytes-front m p (i + 1) k bytes has.2)

-- ---- bytes that are laid

pub laid-other : (m : Cells) (p : Place) (i : ℕ) (bytes : List ℕ) (x : ℕ) → ((k : ℕ) → k < length bytes → x ≡ address_of p (i + k) → ⊥) → laid m p i bytes x ≡ m x
laid-other m p i [] x ne = refl
laid-other m p i (b ∷ bytes) x ne =
    let first : i + 0 ≡ i = omega arith in
    laid-other (put m (address_of p i) (Known b)) p (i + 1) bytes x (λ k h e. let q : i + 1 + k ≡ i + (k + 1) = omega arith in ne (k + 1) (omega (arith, h)) (e ∙ ap (address_of p) q))
    ∙ put_other m (address_of p i) (Known b) x (λ e. ne 0 (omega arith) (e ∙ ap (address_of p) (sym first)))

pub laid-has : (m : Cells) (segment o i : ℕ) (bytes : List ℕ) → i + length bytes < 65536 → ((k : ℕ) → k < length bytes → get_or bytes k 0 < 256) → HasBytes (laid m (record { segment = segment; offset = o }) i bytes) (record { segment = segment; offset = o }) i bytes
laid-has m segment o i [] short small = tt
laid-has m segment o i (b ∷ bytes) short small =
    let p : Place = record { segment = segment; offset = o } in
    let n = put m (address_of p i) (Known b) in (
      laid-other n p (i + 1) bytes (address_of p i) (λ k h e. apart-in segment o i (i + 1 + k) (omega arith) (omega (arith, h, short)) e) ∙ put-same m (address_of p i) (Known b),
      small 0 (omega arith),
      laid-has n segment o (i + 1) bytes (omega (arith, short)) (λ k h. small (suc k) (omega (arith, h))),
    )

-- each byte of a text that stands somewhere is one
pub bytes-small : (m : Cells) (p : Place) (i : ℕ) (bytes : List ℕ) → HasBytes m p i bytes → (k : ℕ) → k < length bytes → get_or bytes k 0 < 256
bytes-small m p i [] has k h = absurd (omega (arith, h))
bytes-small m p i (b ∷ bytes) has zero h = has.1
bytes-small m p i (b ∷ bytes) has (suc k) h = bytes-small m p (i + 1) bytes has.2 k (omega (arith, h))

-- ---- a store of a word that stands first in straight code

pub word-so : (choice : Choice) (own : Frame) (above : ℕ) (to : Address) (value : Expr) (next : Code) (a : Activation) (v : ℕ) → seen_value choice own above a value ≡ Ok v →
    straight choice own above (Do (StoreWord to value) next) a ≡ ((with_word_at choice own above a to v >>= λ b. onward b) >>= λ c. continued c.exit c.there (straight choice own above next))
word-so choice own above to value next a v e =
    ap (λ (x : Found ℕ). (x >>= λ v. with_word_at choice own above a to v >>= λ b. onward b) >>= λ c. continued c.exit c.there (straight choice own above next)) e
