-- What memory holds as bytes are written, words of return pairs are pushed and taken, and bytes are lost.
use Rattle.std.proofs.Common.{◌≡◌, ◌≢◌, ℕ, ◌<◌, ◌≤◌, ◌⊎◌, inl, inr, nat_eq, eq-eqb, Bool, true, false, List, [], ◌∷◌, length, refl, sym, ap, ◌∙◌, subst, arith, eqb-true}
use Rattle.std.specs.Prelude.{IsTrue, if◌then◌else◌, slice_index, slice_set}
use Rattle.std.proofs.lemmas.List.{get_or-set_same, get_or-set_other}
use Rattle.std.proofs.lemmas.Bool.{cases_lt}
use Rattle.std.proofs.Math.ListN.{length-set}
use Rattle.cpu_8086.specs.Memory.{address, next_offset, word_of, load_byte, load_word, store_byte, store_word}
use Rattle.cpu_8086.proofs.MemoryLaws.{address-next, length-store_word, load_word-store_word_same}
use Rattle.resident_machine.specs.Program.{Program}
use Rattle.resident_machine.specs.Cells.{Cell, Known, Unknown, Kept, Paired, Cells, with_cell, with_word, is_free, with_lost}
use Rattle.resident_machine.specs.Standing.{PairWord, HoldsWord, IsApart, HoldsWords, HoldsCode, HoldsMemory}
use Rattle.resident_machine.proofs.CellLaws.{with_cell-same, with_cell-other, free_not_kept, free_not_paired, with_lost-kept, with_lost-paired, with_lost-known}

-- From cells and memory to later ones: kept and paired bytes stay so and hold what they held, and what is known is there.
pub record Keeps (c d : Cells) (m n : List ℕ) : Type 0 where
  pub size : length n ≡ length m
  pub kept : (place : ℕ) → c place ≡ Kept → (d place ≡ Kept) × (slice_index n place ≡ slice_index m place)
  pub paired : (place : ℕ) → c place ≡ Paired → (d place ≡ Paired) × (slice_index n place ≡ slice_index m place)
  pub known : (place value : ℕ) → d place ≡ Known value → slice_index n place ≡ value

-- a word by its bytes
pub load_word-bytes : (m n : List ℕ) (ss offset : ℕ) → slice_index n (address ss offset) ≡ slice_index m (address ss offset) → slice_index n (address ss (next_offset offset)) ≡ slice_index m (address ss (next_offset offset)) → load_word n ss offset ≡ load_word m ss offset
unfolding load_word load_byte
load_word-bytes m n ss offset low high = ap (λ x. word_of x (slice_index n (address ss (next_offset offset)))) low ∙ ap (word_of (slice_index m (address ss offset))) high

word_kept : (ss : ℕ) (c d : Cells) (m n : List ℕ) (w : PairWord) → Keeps c d m n → HoldsWord ss c m w → HoldsWord ss d n w
word_kept ss c d m n w k h =
    let low = k.paired (address ss w.offset) h.low in
    let high = k.paired (address ss (next_offset w.offset)) h.high in
    record { fits = h.fits; value = load_word-bytes m n ss w.offset low.1 high.1 ∙ h.value; low = low.0; high = high.0 }

words_kept : (ss : ℕ) (c d : Cells) (m n : List ℕ) (ws : List PairWord) → Keeps c d m n → HoldsWords ss c m ws → HoldsWords ss d n ws
words_kept ss c d m n [] k h = tt
words_kept ss c d m n (w ∷ ws) k h = (word_kept ss c d m n w k h.0, h.1, words_kept ss c d m n ws k h.2)

code_kept : (c d : Cells) (m n : List ℕ) (segment : ℕ) (bytes : List ℕ) → ((place : ℕ) → c place ≡ Kept → d place ≡ Kept) → ((place : ℕ) → c place ≡ Kept → slice_index n place ≡ slice_index m place) → HoldsCode c m segment bytes → HoldsCode d n segment bytes
unfolding load_byte
code_kept c d m n segment bytes stays same h = record {
  size = h.size;
  bytes = λ offset lt. record {
    value = same (address segment offset) ((h.bytes offset lt).kept) ∙ (h.bytes offset lt).value;
    kept = stays (address segment offset) ((h.bytes offset lt).kept);
  };
}

pub memory_kept : (p : Program) (ss : ℕ) (c d : Cells) (m n : List ℕ) (ws : List PairWord) → Keeps c d m n → HoldsMemory p ss c m ws → HoldsMemory p ss d n ws
memory_kept p ss c d m n ws k h = record {
  size = k.size ∙ h.size;
  outside = λ place le. (k.kept place (h.outside place le)).0;
  known = k.known;
  code = λ segment bytes named. code_kept c d m n segment bytes (λ place e. (k.kept place e).0) (λ place e. (k.kept place e).1) (h.code segment bytes named);
  words = words_kept ss c d m n ws k h.words;
}

-- ## A byte is written

-- a byte that is free lies in memory
free_inside : (p : Program) (ss : ℕ) (c : Cells) (m : List ℕ) (ws : List PairWord) (place : ℕ) → HoldsMemory p ss c m ws → IsTrue (is_free (c place)) → place < 1048576
free_inside p ss c m ws place h free = by (cases_lt place 1048576)
  where
    by : (place < 1048576) ⊎ (1048576 ≤ place) → place < 1048576
    by (inl lt) = lt
    by (inr le) = absurd (free_not_kept c place place free (h.outside place le) refl)

written_known : (c : Cells) (m : List ℕ) (place : ℕ) (x : Cell) (value : ℕ) → place < length m → ((v : ℕ) → x ≡ Known v → value ≡ v) → ((other v : ℕ) → c other ≡ Known v → slice_index m other ≡ v) → (other v : ℕ) → with_cell c place x other ≡ Known v → slice_index (slice_set m place value) other ≡ v
written_known c m place x value lt right h other v e = by (nat_eq other place) refl e
  where
    by : (b : Bool) → nat_eq other place ≡ b → (if b then x else c other) ≡ Known v → slice_index (slice_set m place value) other ≡ v
    by true same e =
        let at : other ≡ place = eqb-true other place same in
        subst (λ z. slice_index (slice_set m place value) z ≡ v) (sym at) (get_or-set_same m place value 0 lt ∙ right v e)
    by false apart e = get_or-set_other m place other value 0 (λ same. let z = eq-eqb other place same in absurd (cc)) ∙ h other v e

pub memory_written : (p : Program) (ss : ℕ) (c : Cells) (m : List ℕ) (ws : List PairWord) (place : ℕ) (x : Cell) (value : ℕ) → HoldsMemory p ss c m ws → IsTrue (is_free (c place)) → ((v : ℕ) → x ≡ Known v → value ≡ v) → HoldsMemory p ss (with_cell c place x) (slice_set m place value) ws
memory_written p ss c m ws place x value h free right =
    let lt : place < length m = let size = h.size in let inside = free_inside p ss c m ws place h free in omega arith in
    memory_kept p ss c (with_cell c place x) m (slice_set m place value) ws (record {
      size = length-set m place value;
      kept = λ other e. let apart = free_not_kept c place other free e in (with_cell-other c place x other apart ∙ e, get_or-set_other m place other value 0 apart);
      paired = λ other e. let apart = free_not_paired c place other free e in (with_cell-other c place x other apart ∙ e, get_or-set_other m place other value 0 apart);
      known = written_known c m place x value lt right h.known;
    }) h

-- ## A word of a return pair is pushed

pub store_word-elsewhere : (m : List ℕ) (ss offset v place : ℕ) → place ≢ address ss offset → place ≢ address ss (next_offset offset) → slice_index (store_word m ss offset v) place ≡ slice_index m place
unfolding store_word store_byte
store_word-elsewhere m ss offset v place low high =
    get_or-set_other _ (address ss (next_offset offset)) place _ 0 high ∙ get_or-set_other m (address ss offset) place _ 0 low

-- Of the cells only those of the word at an offset differ, and are paired now.
pub record IsPushed (ss offset : ℕ) (c d : Cells) : Type 0 where
  pub low : d (address ss offset) ≡ Paired
  pub high : d (address ss (next_offset offset)) ≡ Paired
  pub others : (place : ℕ) → place ≢ address ss offset → place ≢ address ss (next_offset offset) → d place ≡ c place

-- a known byte is none of the word
pushed_known : (ss offset : ℕ) (c d : Cells) (place v : ℕ) → IsPushed ss offset c d → d place ≡ Known v → (place ≢ address ss offset) × (place ≢ address ss (next_offset offset))
pushed_known ss offset c d place v pushed e =
    let paired : Paired ≢ Known v = λ z. absurd (cc) in
    (λ same. paired (sym pushed.low ∙ ap d (sym same) ∙ e), λ same. paired (sym pushed.high ∙ ap d (sym same) ∙ e))

apart_from_free : (ss offset v : ℕ) (c : Cells) (m : List ℕ) (ws : List PairWord) → IsTrue (is_free (c (address ss offset))) → IsTrue (is_free (c (address ss (next_offset offset)))) → HoldsWords ss c m ws → IsApart ss (record { offset = offset; value = v }) ws
apart_from_free ss offset v c m [] low high h = tt
apart_from_free ss offset v c m (w ∷ ws) low high h = (
  record {
    low = record { low = free_not_paired c (address ss offset) (address ss w.offset) low h.0.low; high = free_not_paired c (address ss (next_offset offset)) (address ss w.offset) high h.0.low };
    high = record { low = free_not_paired c (address ss offset) (address ss (next_offset w.offset)) low h.0.high; high = free_not_paired c (address ss (next_offset offset)) (address ss (next_offset w.offset)) high h.0.high };
  },
  apart_from_free ss offset v c m ws low high h.2,
)

pub memory_pushed : (p : Program) (ss : ℕ) (c d : Cells) (m : List ℕ) (ws : List PairWord) (offset v : ℕ) → HoldsMemory p ss c m ws → offset < 65536 → IsTrue (is_free (c (address ss offset))) → IsTrue (is_free (c (address ss (next_offset offset)))) → IsPushed ss offset c d → HoldsMemory p ss d (store_word m ss offset v) (record { offset = offset; value = v } ∷ ws)
memory_pushed p ss c d m ws offset v h lt low high pushed = record {
  size = then.size;
  outside = then.outside;
  known = then.known;
  code = then.code;
  words = (record { fits = lt; value = load_word-store_word_same m ss offset v h.size lt; low = pushed.low; high = pushed.high }, apart_from_free ss offset v c m ws low high h.words, then.words);
}
  where
    n : List ℕ
    n = store_word m ss offset v

    same : (place : ℕ) → place ≢ address ss offset → place ≢ address ss (next_offset offset) → slice_index n place ≡ slice_index m place
    same place = store_word-elsewhere m ss offset v place

    kept : (place : ℕ) → c place ≡ Kept → (d place ≡ Kept) × (slice_index n place ≡ slice_index m place)
    kept place e =
        let a = free_not_kept c (address ss offset) place low e in
        let b = free_not_kept c (address ss (next_offset offset)) place high e in
        (pushed.others place a b ∙ e, same place a b)

    paired : (place : ℕ) → c place ≡ Paired → (d place ≡ Paired) × (slice_index n place ≡ slice_index m place)
    paired place e =
        let a = free_not_paired c (address ss offset) place low e in
        let b = free_not_paired c (address ss (next_offset offset)) place high e in
        (pushed.others place a b ∙ e, same place a b)

    known : (place value : ℕ) → d place ≡ Known value → slice_index n place ≡ value
    known place value e =
        let away = pushed_known ss offset c d place value pushed e in
        same place away.0 away.1 ∙ h.known place value (sym (pushed.others place away.0 away.1) ∙ e)

    then : HoldsMemory p ss d n ws
    then = memory_kept p ss c d m n ws (record { size = length-store_word m ss offset v; kept = kept; paired = paired; known = known }) h

pub with_word-pushed : (c : Cells) (ss offset : ℕ) → offset < 65536 → IsPushed ss offset c (with_word c ss offset Paired)
with_word-pushed c ss offset lt = record {
  low = with_cell-other (with_cell c (address ss offset) Paired) (address ss (next_offset offset)) Paired (address ss offset) (address-next ss offset lt) ∙ with_cell-same c (address ss offset) Paired;
  high = with_cell-same (with_cell c (address ss offset) Paired) (address ss (next_offset offset)) Paired;
  others = λ place low high. with_cell-other (with_cell c (address ss offset) Paired) (address ss (next_offset offset)) Paired place high ∙ with_cell-other c (address ss offset) Paired place low;
}

-- ## A word of a return pair is taken

pub with_word-other : (c : Cells) (ss offset : ℕ) (x : Cell) (place : ℕ) → place ≢ address ss offset → place ≢ address ss (next_offset offset) → with_word c ss offset x place ≡ c place
with_word-other c ss offset x place low high = with_cell-other (with_cell c (address ss offset) x) (address ss (next_offset offset)) x place high ∙ with_cell-other c (address ss offset) x place low

words_taken : (ss : ℕ) (c : Cells) (m : List ℕ) (w : PairWord) (ws : List PairWord) → IsApart ss w ws → HoldsWords ss c m ws → HoldsWords ss (with_word c ss w.offset Unknown) m ws
words_taken ss c m w [] apart h = tt
words_taken ss c m w (x ∷ ws) apart h =
    let a = apart.0 in (
      record {
        fits = h.0.fits;
        value = h.0.value;
        low = with_word-other c ss w.offset Unknown (address ss x.offset) a.low.low a.low.high ∙ h.0.low;
        high = with_word-other c ss w.offset Unknown (address ss (next_offset x.offset)) a.high.low a.high.high ∙ h.0.high;
      },
      h.1,
      words_taken ss c m w ws apart.1 h.2,
    )

unknown_known : (c : Cells) (place other v : ℕ) → with_cell c place Unknown other ≡ Known v → c other ≡ Known v
unknown_known c place other v e = by (nat_eq other place) e
  where
    by : (b : Bool) → (if b then Unknown else c other) ≡ Known v → c other ≡ Known v
    by true e = absurd (cc)
    by false e = e

pub memory_taken : (p : Program) (ss : ℕ) (c : Cells) (m : List ℕ) (w : PairWord) (ws : List PairWord) → HoldsMemory p ss c m (w ∷ ws) → HoldsMemory p ss (with_word c ss w.offset Unknown) m ws
memory_taken p ss c m w ws h = record {
  size = h.size;
  outside = λ place le. stays place (h.outside place le);
  known = λ place value e. h.known place value (unknown_known c (address ss w.offset) place value (unknown_known (with_cell c (address ss w.offset) Unknown) (address ss (next_offset w.offset)) place value e));
  code = λ segment bytes named. code_kept c (with_word c ss w.offset Unknown) m m segment bytes stays (λ place e. refl) (h.code segment bytes named);
  words = words_taken ss c m w ws h.words.1 h.words.2;
}
  where
    differ : (place other : ℕ) → c place ≡ Kept → c other ≡ Paired → place ≢ other
    differ place other kept paired same = let z : c place ≡ c other = ap c same in absurd (cc)

    stays : (place : ℕ) → c place ≡ Kept → with_word c ss w.offset Unknown place ≡ Kept
    stays place e = with_word-other c ss w.offset Unknown place (differ place _ e h.words.0.low) (differ place _ e h.words.0.high) ∙ e

-- ## Bytes are lost

pub memory_lost : (p : Program) (ss : ℕ) (c : Cells) (m : List ℕ) (ws : List PairWord) (segment offset : ℕ) → HoldsMemory p ss c m ws → HoldsMemory p ss (with_lost segment offset c) m ws
memory_lost p ss c m ws segment offset h = memory_kept p ss c (with_lost segment offset c) m m ws (record {
  size = refl;
  kept = λ place e. (with_lost-kept segment offset c place e, refl);
  paired = λ place e. (with_lost-paired segment offset c place e, refl);
  known = λ place value e. h.known place value (with_lost-known segment offset c place value e);
}) h
