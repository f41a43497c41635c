-- Return pairs in memory beside those that a table shows: one follows from the other.
use Rattle.std.proofs.Common.{◌≡◌, ℕ, suc, ◌+◌, ◌%◌, Bool, List, [], ◌∷◌, length, map, refl, sym, ap, ap₂, ◌∙◌, subst, arith}
use Rattle.std.proofs.lemmas.List.{length-map}
use Rattle.std.proofs.lemmas.Simd.{map-map}
use Rattle.cpu_8086.specs.declared.registers.Far.{Far}
use Rattle.cpu_8086.specs.Memory.{load_word}
use Rattle.resident_machine.specs.Cells.{Cells}
use Rattle.resident_machine.specs.Framed.{places_of}
use Rattle.resident_machine.specs.Standing.{words_of, IsApart, HoldsWords}
use Rattle.resident_machine.specs.State.{Record}
use Rattle.return_repair.specs.declared.table.Loaded.{Loaded}
use Rattle.return_repair.specs.Pairs.{pair_at}
use Rattle.return_repair.specs.Follows.{denoted, denotations, pairs_at}
use Rattle.overlay_simulation.specs.Laid.{with_pairs}
use Rattle.overlay_simulation.specs.Shown.{items_of, pairs_by}
use Rattle.overlay_simulation.proofs.ShownLaws.{met_past, shown_first}

-- there are as many pairs as records
pub length_pairs : (table : List Loaded) (met : ℕ → Bool) (records : List Record) → length (pairs_by table met records) ≡ length records
length_pairs table met [] = refl
length_pairs table met (x ∷ records) = ap length (shown_first table met x.segment x.offset (items_of records)) ∙ ap suc (length_pairs table (met_past table met x.segment) records)

pub denotations_of : (memory : List ℕ) (ss : ℕ) (table : List Loaded) (places : List ℕ) → denotations memory ss table places ≡ map (denoted memory table) (pairs_at memory ss places)
denotations_of memory ss table places = sym (map-map (denoted memory table) (λ (place : ℕ). pair_at memory ss place) places)

module _ (ss : ℕ) (cells : Cells) where
  -- the pairs that stand there
  pub pairs_held : (memory : List ℕ) (records : List Record) (pairs : List Far) → length pairs ≡ length records → HoldsWords ss cells memory (words_of (with_pairs records pairs)) → pairs_at memory ss (places_of records) ≡ pairs
  pairs_held memory [] [] same h = refl
  pairs_held memory [] (pair ∷ pairs) same h = absurd (omega arith)
  pairs_held memory (x ∷ records) [] same h = absurd (omega arith)
  pairs_held memory (x ∷ records) (pair ∷ pairs) same h =
      ap₂ (λ (first : Far) (others : List Far). first ∷ others) (ap₂ (λ (offset segment : ℕ). let far : Far = record { offset = offset; segment = segment } in far) h.0.value h.2.0.value)
      (pairs_held memory records pairs (omega arith) h.2.2)

  -- words stand apart by their places alone
  still_apart : (offset a b : ℕ) (records : List Record) (old new : List Far) → length old ≡ length records → length new ≡ length records
      → IsApart ss (record { offset = offset; value = a }) (words_of (with_pairs records old)) → IsApart ss (record { offset = offset; value = b }) (words_of (with_pairs records new))
  still_apart offset a b [] old new x y h = tt
  still_apart offset a b (r ∷ records) [] new x y h = absurd (omega arith)
  still_apart offset a b (r ∷ records) (o ∷ old) [] x y h = absurd (omega arith)
  still_apart offset a b (r ∷ records) (o ∷ old) (n ∷ new) x y h =
      (record { low = h.0.low; high = h.0.high }, (record { low = h.1.0.low; high = h.1.0.high }, still_apart offset a b records old new (omega arith) (omega arith) h.1.1))

  length_at : (memory : List ℕ) (records : List Record) → length (pairs_at memory ss (places_of records)) ≡ length records
  length_at memory records = length-map (places_of records) (λ (place : ℕ). pair_at memory ss place) ∙ length-map records (λ (x : Record). x.place)

  words_there : (memory after : List ℕ) (records : List Record) (old : List Far) → length old ≡ length records → HoldsWords ss cells memory (words_of (with_pairs records old)) → HoldsWords ss cells after (words_of (with_pairs records (pairs_at after ss (places_of records))))
  words_there memory after [] old same h = tt
  words_there memory after (x ∷ records) [] same h = absurd (omega arith)
  words_there memory after (x ∷ records) (pair ∷ old) same h =
      let new : List Far = pairs_at after ss (places_of records) in
      let low = load_word after ss x.place in
      let high = load_word after ss ((x.place + 2) % 65536) in
      let apart = λ (offset a b : ℕ). still_apart offset a b records old new (omega arith) (length_at after records) in (
        record { fits = h.0.fits; value = refl; low = h.0.low; high = h.0.high },
        (record { low = h.1.0.low; high = h.1.0.high }, apart x.place pair.offset low h.1.1),
        (record { fits = h.2.0.fits; value = refl; low = h.2.0.low; high = h.2.0.high }, apart ((x.place + 2) % 65536) pair.segment high h.2.1, words_there memory after records old (omega arith) h.2.2),
      )

  -- and those that stand there later, at the same places
  pub words_held : (memory after : List ℕ) (records : List Record) (old new : List Far) → length old ≡ length records → HoldsWords ss cells memory (words_of (with_pairs records old)) → pairs_at after ss (places_of records) ≡ new → HoldsWords ss cells after (words_of (with_pairs records new))
  words_held memory after records old new same h e = subst (λ (pairs : List Far). HoldsWords ss cells after (words_of (with_pairs records pairs))) e (words_there memory after records old same h)
