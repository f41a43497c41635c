-- What is read of the bytes of a first value has the form of its type.
use Rattle.std.proofs.Common.{◌≡◌, ℕ, zero, suc, ◌+◌, ◌*◌, ◌/◌, ◌%◌, ◌<◌, ◌≤◌, Bool, true, false, List, [], ◌∷◌, length, take, sym, subst, arith}
use Rattle.std.specs.Prelude.{ℤ, unsigned_abs, ◌==◌, if◌then◌else◌, All}
use Rattle.std.proofs.lemmas.List.Elements.{All-nil, All-cons, All-append, All-head, All-tail, All-drop}
use Rattle.program_typing.specs.common_values.integers.Words.{IsWord}
use Rattle.program_typing.specs.type_layout.declared.definitions.Host.{Host}
use Rattle.program_typing.specs.type_layout.declared.definitions.Host.TheVariants as host
use Rattle.program_typing.specs.type_layout.Storage.{width_of, set_bytes}
use Rattle.program_typing.specs.common_values.Ordinals.{width_of as word_width}
use Rattle.program_typing.specs.common_values.Sets.{byte_of}
use Rattle.program_typing.specs.tp_meaning.Shapes.{stored_among, Reader, before, read_many, word_of_bytes, elements_in, elements_from, read_ordinal, read_set, read_nothing}
use Rattle.program_typing.specs.store_typing.types.Forms.{Held, Number, members_between, Form, Cell, Pair, repeated}
use Rattle.program_typing.specs.store_typing.stores.Worlds.{World, LiesWithin, HasForm}
use Rattle.program_typing.proofs.store_typing_proofs.operators.Ranges.{meant_held}

abbrev pub AreBytes : List ℕ → Type 0
AreBytes bytes = All (λ byte. byte < 256) bytes

-- how many words there are of so many bytes
abbrev word_count : ℕ → ℕ
word_count zero = 1
word_count (suc k) = 256 * word_count k

some_words : (k : ℕ) → 0 < word_count k
some_words zero = omega arith
some_words (suc k) = omega (arith, some_words k)

-- a word of so many bytes, or of fewer where no more are there
word_below : (k : ℕ) (bytes : List ℕ) → AreBytes bytes → word_of_bytes (take k bytes) < word_count k
word_below zero [] each = omega arith
word_below zero (byte ∷ bytes) each = omega arith
word_below (suc k) [] each = omega (arith, some_words k)
word_below (suc k) (byte ∷ bytes) each =
    let rest = word_below k bytes (All-tail (λ b. b < 256) byte bytes each) in
    let first = All-head (λ b. b < 256) byte bytes each in
    omega (arith, rest, first)

word_of_host : (h : Host) (bytes : List ℕ) → AreBytes bytes → IsWord (word_width (stored_among h)) (word_of_bytes (take (width_of h) bytes))
word_of_host host.ShortInt bytes each = word_below 1 bytes each
word_of_host host.Byte bytes each = word_below 1 bytes each
word_of_host host.Integer bytes each = word_below 2 bytes each
word_of_host host.Word bytes each = word_below 2 bytes each
word_of_host host.LongInt bytes each = word_below 4 bytes each
word_of_host host.Char bytes each = word_below 1 bytes each
word_of_host host.Boolean bytes each = word_below 1 bytes each
word_of_host host.Enumeration bytes each = word_below 1 bytes each

-- the elements that a byte holds lie in it
bits_lie : (first count byte n element bits : ℕ) → 8 * byte ≤ element → element + n ≤ 8 * byte + 8 → first ≤ byte → byte < first + count → All (LiesWithin first count) (elements_in n element bits)
bits_lie first count byte zero element bits p q r s = All-nil (LiesWithin first count)
bits_lie first count byte (suc n) element bits p q r s =
    All-append (LiesWithin first count) (if bits % 2 == 1 then element ∷ [] else []) (elements_in n (element + 1) (bits / 2)) (one (bits % 2 == 1)) (bits_lie first count byte n (element + 1) (bits / 2) (omega (arith, p)) (omega (arith, q)) r s)
  where
    here : byte_of element ≡ byte
    here = omega (arith, p, q)

    one : (t : Bool) → All (LiesWithin first count) (if t then element ∷ [] else [])
    one true = All-cons (LiesWithin first count) element [] (omega (arith, here, r), omega (arith, here, s)) (All-nil (LiesWithin first count))
    one false = All-nil (LiesWithin first count)

bytes_lie : (first count byte : ℕ) (bytes : List ℕ) → first ≤ byte → byte + length bytes ≤ first + count → All (LiesWithin first count) (elements_from (8 * byte) bytes)
bytes_lie first count byte [] p q = All-nil (LiesWithin first count)
bytes_lie first count byte (bits ∷ bytes) p q =
    let next : 8 * byte + 8 ≡ 8 * (byte + 1) = omega arith in
    All-append (LiesWithin first count) (elements_in 8 (8 * byte) bits) (elements_from (8 * byte + 8) bytes) (bits_lie first count byte 8 (8 * byte) bits (omega arith) (omega arith) p (omega (arith, q)))
    (subst (λ e. All (LiesWithin first count) (elements_from e bytes)) (sym next) (bytes_lie first count (byte + 1) bytes (omega (arith, p)) (omega (arith, q))))

length-short : (count : ℕ) (bytes : List ℕ) → length (take count bytes) ≤ count
length-short zero [] = omega arith
length-short zero (byte ∷ bytes) = omega arith
length-short (suc count) [] = omega arith
length-short (suc count) (byte ∷ bytes) = omega (arith, length-short count bytes)

set_lies : (first count : ℕ) (bytes : List ℕ) → All (LiesWithin first count) (elements_from (8 * first) (take count bytes))
set_lies first count bytes = let few = length-short count bytes in bytes_lie first count first (take count bytes) (omega arith) (omega (arith, few))

module _ (w : World) where
  -- what is read of bytes has a form, and bytes are left
  abbrev pub Reads : Form → Reader → Type 0
  Reads form read = (bytes : List ℕ) → AreBytes bytes → HasForm w form (read bytes).0 × AreBytes (read bytes).1

  pub ordinal_reads : (h : Host) → Reads (Cell (Number h)) (read_ordinal h)
  ordinal_reads h bytes each =
      (meant_held h (word_of_bytes (take (width_of h) bytes)) (word_of_host h bytes each), All-drop (λ byte. byte < 256) (width_of h) bytes each)

  pub set_reads : (low high : ℤ) → Reads (Cell (members_between (low, high))) (read_set low high)
  set_reads low high bytes each = (set_lies (byte_of (unsigned_abs low)) (set_bytes low high) bytes, All-drop (λ byte. byte < 256) (set_bytes low high) bytes each)

  pub nothing_reads : (held : Held) → Reads (Cell held) read_nothing
  nothing_reads held bytes each = (tt, each)

  pub many_reads : (n : ℕ) (form : Form) (read : Reader) → Reads form read → Reads (repeated n form) (read_many n read)
  many_reads zero form read one bytes each = (tt, each)
  many_reads (suc n) form read one bytes each =
      let first = one bytes each in
      let rest = many_reads n form read one (read bytes).1 first.1 in
      ((first.0, rest.0), rest.1)

  pub before_reads : (first rest : Form) (read others : Reader) → Reads first read → Reads rest others → Reads (Pair first rest) (λ bytes. before (read bytes) others)
  before_reads first rest read others one more bytes each =
      let head = one bytes each in
      let tail = more (read bytes).1 head.1 in
      ((head.0, tail.0), tail.1)
