-- What is read from the cells of a string, and what they are once a text is assigned.
use Rattle.std.proofs.Common.{◌≡◌, ℕ, zero, suc, ◌<◌, ◌≤◌, Bool, true, false, List, [], ◌∷◌, length, take, refl, ap, arith, IsTrue}
use Rattle.std.specs.Prelude.{pos, negsuc, All, nat_le, if◌then◌else◌, Ok, Err}
use Rattle.std.proofs.lemmas.Bool.Decides.{nat_tests}
use Rattle.std.proofs.lemmas.List.Elements.{All-nil, All-cons, All-head, All-tail, All-take}
use Rattle.tp_meaning.specs.type_layout.declared.definitions.Host.TheVariants as host
use Rattle.tp_meaning.specs.type_layout.Storage.{holds}
use Rattle.tp_meaning.specs.Trees.{Value, Ordinal, Text, Elements, Nil, Block, Code, Class, At, Void, Tree, Leaf, Tip, Fork, part_count}
use Rattle.tp_meaning.specs.Found.{Act, ◌>>=◌}
use Rattle.tp_meaning.specs.Store.{byte_of, byte_in, value_in, bytes_in, text_of_length, text_in, length_within, length_in, bytes_over, text_over}
use Rattle.store_typing.specs.types.Forms.{Number, letter, repeated}
use Rattle.store_typing.specs.stores.Worlds.{World, IsHeld, HasForm}
use Rattle.store_typing.specs.stores.Places.{IsText}
use Rattle.store_typing.specs.stores.Stores.{Finds}
use Rattle.store_typing.proofs.stores.Paths.{finds_bind, finds_more, cell_read}

abbrev IsByte : ℕ → Type 0
IsByte byte = byte < 256

module _ (w : World) where
  byte_value : (v : Value) → IsHeld w (Number host.Char) v → Finds IsByte (byte_of v)
  byte_value (Ordinal (pos byte)) is = grind (arith, nat_tests)
  byte_value (Ordinal (negsuc n)) is = absurd cc
  byte_value (Text bytes) is = absurd is
  byte_value (Elements set) is = absurd is
  byte_value Nil is = absurd is
  byte_value (Block serial) is = absurd is
  byte_value (Code routine) is = absurd is
  byte_value (Class class) is = absurd is
  byte_value (At spot) is = absurd is
  byte_value Void is = absurd is

  byte_read : (tree : Tree) → HasForm w letter tree → Finds IsByte (byte_in tree)
  byte_read tree has = finds_bind (IsHeld w (Number host.Char)) IsByte (value_in tree) byte_of (cell_read w (Number host.Char) tree has) byte_value

  -- bytes, and how many
  record AreBytes (count : ℕ) (bytes : List ℕ) : Type 0 where
    each : All IsByte bytes
    many : length bytes ≡ count

  bytes_read : (count size : ℕ) (cells : Tree) → count ≤ size → HasForm w (repeated size letter) cells → Finds (AreBytes count) (bytes_in count cells)
  bytes_read zero size cells le has = record { each = All-nil IsByte; many = refl }
  bytes_read (suc count) zero cells le has = absurd (omega (arith, le))
  bytes_read (suc count) (suc size) Tip le has = absurd has
  bytes_read (suc count) (suc size) (Leaf cell) le has = absurd has
  bytes_read (suc count) (suc size) (Fork head tail) le has =
      finds_bind IsByte (AreBytes (suc count)) (byte_in head) (λ byte. bytes_in count tail >>= λ bytes. Ok (byte ∷ bytes)) (byte_read head has.0) (λ byte h.
      finds_bind (AreBytes count) (AreBytes (suc count)) (bytes_in count tail) (λ bytes. Ok (byte ∷ bytes)) (bytes_read count size tail (omega (arith, le)) has.1)
      (λ bytes are. record { each = All-cons IsByte byte bytes h are.each; many = ap suc are.many }))

  -- how many cells there are
  pub count_of : (count : ℕ) (tree : Tree) → HasForm w (repeated count letter) tree → part_count tree ≡ count
  count_of zero Tip has = refl
  count_of zero (Leaf cell) has = absurd has
  count_of zero (Fork head tail) has = absurd has
  count_of (suc count) Tip has = absurd has
  count_of (suc count) (Leaf cell) has = absurd has
  count_of (suc count) (Fork head tail) has = omega (arith, count_of count tail has.1)

  text_of_bytes : (count size : ℕ) (cells : Tree) → count < 256 → HasForm w (repeated size letter) cells → (fits : Bool) → nat_le count (part_count cells) ≡ fits
      → Finds IsText (if fits then bytes_in count cells else Err (Act 3))
  text_of_bytes count size cells less has false e = tt
  text_of_bytes count size cells less has true e =
      let same = count_of size cells has in
      let le : count ≤ part_count cells = grind (arith, nat_tests) in
      finds_more (AreBytes count) IsText (bytes_in count cells) (λ bytes are. record { each = are.each; short = omega (arith, are.many, less) }) (bytes_read count size cells (omega (arith, le, same)) has)

  -- the text of a string's cells
  pub text_read : (size : ℕ) (tree : Tree) → HasForm w (repeated (suc size) letter) tree → Finds IsText (text_in tree)
  text_read size Tip has = absurd has
  text_read size (Leaf cell) has = absurd has
  text_read size (Fork head tail) has =
      finds_bind IsByte IsText (byte_in head) (λ count. text_of_length count tail) (byte_read head has.0)
      (λ count h. text_of_bytes count size tail h has.1 (nat_le count (part_count tail)) refl)

  length_fits : (count : ℕ) → count < 256 → (fits : Bool) → Finds IsByte (if fits then Ok count else Err (Act 3))
  length_fits count less true = less
  length_fits count less false = tt

  -- the length of a string's cells
  pub length_read : (size : ℕ) (tree : Tree) → HasForm w (repeated (suc size) letter) tree → Finds (λ n. n < 256) (length_in tree)
  length_read size Tip has = absurd has
  length_read size (Leaf cell) has = absurd has
  length_read size (Fork head tail) has =
      finds_bind IsByte IsByte (byte_in head) (λ count. length_within count tail) (byte_read head has.0) (λ count h. length_fits count h (nat_le count (part_count tail)))

  -- ---- a text that is assigned

  is_letter : (byte : ℕ) → byte < 256 → IsTrue (holds host.Char (pos byte) (pos byte))
  is_letter byte h = grind (arith, nat_tests)

  bytes_has : (count : ℕ) (bytes : List ℕ) (cells : Tree) → All IsByte bytes → HasForm w (repeated count letter) cells → HasForm w (repeated count letter) (bytes_over bytes cells)
  bytes_has count [] cells each has = has
  bytes_has zero (byte ∷ bytes) Tip each has = tt
  bytes_has zero (byte ∷ bytes) (Leaf cell) each has = absurd has
  bytes_has zero (byte ∷ bytes) (Fork head tail) each has = absurd has
  bytes_has (suc count) (byte ∷ bytes) Tip each has = absurd has
  bytes_has (suc count) (byte ∷ bytes) (Leaf cell) each has = absurd has
  bytes_has (suc count) (byte ∷ bytes) (Fork head tail) each has =
      (is_letter byte (All-head IsByte byte bytes each), bytes_has count bytes tail (All-tail IsByte byte bytes each) has.1)

  length_taken : (k : ℕ) (bytes : List ℕ) → length (take k bytes) ≤ k
  length_taken zero [] = omega arith
  length_taken zero (byte ∷ bytes) = omega arith
  length_taken (suc k) [] = omega arith
  length_taken (suc k) (byte ∷ bytes) = omega (arith, length_taken k bytes)

  pub text_has : (count : ℕ) (bytes : List ℕ) (old : Tree) → count < 256 → All IsByte bytes → HasForm w (repeated (suc count) letter) old → Finds (HasForm w (repeated (suc count) letter)) (text_over bytes old)
  text_has count bytes (Leaf cell) short each has = absurd has
  text_has count bytes Tip short each has = absurd has
  text_has count bytes (Fork head tail) short each has =
      let cut : List ℕ = take (part_count tail) bytes in (
        is_letter (length cut) (omega (arith, length_taken (part_count tail) bytes, count_of count tail has.1, short)),
        bytes_has count cut tail (All-take IsByte (part_count tail) bytes each) has.1,
      )
