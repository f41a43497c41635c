-- Return pairs as bytes: where they fit, they share none with one another, with links or with what is kept.
use Rattle.std.proofs.Common.{◌≡◌, ◌⊎◌, inl, inr, ℕ, zero, suc, ◌+◌, ◌-◌, ◌%◌, ◌<◌, ◌≤◌, ◌||◌, Bool, true, false, List, [], ◌∷◌, ◌++◌, Some, refl, sym, ap, ◌∙◌, arith}
use Rattle.std.specs.List.{AllByRecursion}
use Rattle.std.specs.Prelude.{nat_le}
use Rattle.std.proofs.lemmas.Bool.{cases_lt}
use Rattle.std.proofs.lemmas.Bool.Decides.{nat_tests}
use Rattle.cpu_8086.specs.Memory.{address, next_offset}
use Rattle.frame_links.specs.Links.{Link, link_word, place_if, pair_place, pair_places, room_of, room_before}
use Rattle.resident_machine.specs.Cells.{Known, Paired, Cells, known_word}
use Rattle.resident_machine.specs.Framed.{AreLinks, places_of}
use Rattle.resident_machine.specs.State.{Record}
use Rattle.resident_machine.specs.Whole.{offsets_of, half_offsets, IsPaired, MissesOffset, ArePaired}
use Rattle.return_repair.specs.Chain.{misses_link, misses_links}
use Rattle.return_repair.specs.Follows.{AreApart, ArePlaces}
use Rattle.overlay_simulation.proofs.ChainLaws.{link_small, word_known}

-- a pair fits the segment
abbrev pub Fits : ℕ → Type 0
Fits place = place + 4 ≤ 65536

-- each of its bytes is a return pair's
abbrev pub EachPaired : ℕ → Cells → ℕ → Type 0
EachPaired ss cells place = (j : ℕ) → j < 4 → cells (address ss (place + j)) ≡ Paired

module _ (ss : ℕ) (cells : Cells) where
  pub unhalved_pairs : (half : Bool) (sp : ℕ) (os : List ℕ) → ArePaired ss cells (half_offsets half sp os) → ArePaired ss cells os
  unhalved_pairs true sp os h = h.2
  unhalved_pairs false sp os h = h

  pair_bytes : (place : ℕ) → Fits place → IsPaired ss cells place → IsPaired ss cells ((place + 2) % 65536) → EachPaired ss cells place
  pair_bytes place fits low high zero lt = let e : place + 0 ≡ place = omega arith in ap (λ (k : ℕ). cells (address ss k)) e ∙ low.low
  pair_bytes place fits low high (suc zero) lt = let e : place + 1 ≡ next_offset place = omega arith in ap (λ (k : ℕ). cells (address ss k)) e ∙ low.high
  pair_bytes place fits low high (suc (suc zero)) lt = let e : place + 2 ≡ (place + 2) % 65536 = omega arith in ap (λ (k : ℕ). cells (address ss k)) e ∙ high.low
  pair_bytes place fits low high (suc (suc (suc zero))) lt = let e : place + 3 ≡ next_offset ((place + 2) % 65536) = omega arith in ap (λ (k : ℕ). cells (address ss k)) e ∙ high.high
  pair_bytes place fits low high (suc (suc (suc (suc j)))) lt = absurd (omega arith)

  -- what holds of each place with such bytes holds of all
  pub all_places : (P : ℕ → Type 0) → ((place : ℕ) → Fits place → EachPaired ss cells place → P place) → (records : List Record) → AllByRecursion Fits (places_of records) → ArePaired ss cells (offsets_of records) → AllByRecursion P (places_of records)
  all_places P each [] fits h = tt
  all_places P each (x ∷ records) fits h = (each x.place fits.0 (pair_bytes x.place fits.0 h.0 h.2.0), all_places P each records fits.1 h.2.2)

  -- ## Pairs share no byte

  -- a word of one pair and both words of another
  near_words : (a b : ℕ) → Fits a → Fits b → MissesOffset ss a b → MissesOffset ss a ((b + 2) % 65536) → MissesOffset ss ((a + 2) % 65536) b → MissesOffset ss ((a + 2) % 65536) ((b + 2) % 65536) → AreApart a b
  near_words a b fa fb low high mid top = by (cases_lt a b)
    where
      same : (j : ℕ) (k : ℕ) → j ≡ k → address ss j ≡ address ss k
      same j k e = ap (address ss) e

      above : a < b → (b < a + 4) ⊎ (a + 4 ≤ b) → AreApart a b
      above lt (inr far) = inl far
      above lt (inl close) = absurd (on (cases_lt b (a + 2)) (cases_lt b (a + 3)))
        where
          on : (b < a + 2) ⊎ (a + 2 ≤ b) → (b < a + 3) ⊎ (a + 3 ≤ b) → ⊥
          on (inl one) _ = low.low.high (same b (next_offset a) (omega arith))
          on (inr two) (inl less) = mid.low.low (same b ((a + 2) % 65536) (omega arith))
          on (inr two) (inr three) = mid.low.high (same b (next_offset ((a + 2) % 65536)) (omega arith))

      below : b ≤ a → (a < b + 4) ⊎ (b + 4 ≤ a) → AreApart a b
      below le (inr far) = inr far
      below le (inl close) = absurd (on (cases_lt a (b + 1)) (cases_lt a (b + 2)) (cases_lt a (b + 3)))
        where
          on : (a < b + 1) ⊎ (b + 1 ≤ a) → (a < b + 2) ⊎ (b + 2 ≤ a) → (a < b + 3) ⊎ (b + 3 ≤ a) → ⊥
          on (inl here) _ _ = low.low.low (same b a (omega arith))
          on (inr one) (inl less) _ = low.high.low (same (next_offset b) a (omega arith))
          on (inr one) (inr two) (inl less) = high.low.low (same ((b + 2) % 65536) a (omega arith))
          on (inr one) (inr two) (inr three) = high.high.low (same (next_offset ((b + 2) % 65536)) a (omega arith))

      by : (a < b) ⊎ (b ≤ a) → AreApart a b
      by (inl lt) = above lt (cases_lt b (a + 4))
      by (inr le) = below le (cases_lt a (b + 4))

  apart_all : (a : ℕ) (records : List Record) → Fits a → AllByRecursion Fits (places_of records) → AllByRecursion (MissesOffset ss a) (offsets_of records) → AllByRecursion (MissesOffset ss ((a + 2) % 65536)) (offsets_of records) → AllByRecursion (AreApart a) (places_of records)
  apart_all a [] fa fits low high = tt
  apart_all a (x ∷ records) fa fits low high = (near_words a x.place fa fits.0 low.0 low.1.0 high.0 high.1.0, apart_all a records fa fits.1 low.1.1 high.1.1)

  pub places_apart : (records : List Record) → AllByRecursion Fits (places_of records) → ArePaired ss cells (offsets_of records) → ArePlaces (places_of records)
  places_apart [] fits h = tt
  places_apart (x ∷ records) fits h = (fits.0, apart_all x.place records fits.0 fits.1 h.1.1 h.2.1, places_apart records fits.1 h.2.2)

  -- ## Links

  -- a pair and the word of a link
  misses : (place at word : ℕ) → Fits place → EachPaired ss cells place → at + 4 ≤ 65536 → known_word cells ss at ≡ Some word → misses_link place at ≡ true
  misses place at word fits pair room known = by (cases_lt at (place + 4)) (cases_lt place (at + 2))
    where
      differ : (k v : ℕ) → cells (address ss k) ≡ Paired → cells (address ss k) ≡ Known v → ⊥
      differ k v x y = let e = sym x ∙ y in absurd (cc)

      clash : at < place + 4 → place < at + 2 → (at < place) ⊎ (place ≤ at) → ⊥
      clash near close (inl less) =
          let bytes = word_known ss cells at word known in
          let e : next_offset at ≡ place + 0 = omega arith in
          differ (place + 0) bytes.1 (pair 0 (omega arith)) (ap (λ (k : ℕ). cells (address ss k)) (sym e) ∙ bytes.3)
      clash near close (inr more) =
          let bytes = word_known ss cells at word known in
          let e : at ≡ place + (at - place) = omega arith in
          differ (place + (at - place)) bytes.0 (pair (at - place) (omega arith)) (ap (λ (k : ℕ). cells (address ss k)) (sym e) ∙ bytes.2)

      either : (x y : Bool) → y ≡ true → (x || y) ≡ true
      either true y e = refl
      either false y e = e

      by : (at < place + 4) ⊎ (place + 4 ≤ at) → (place < at + 2) ⊎ (at + 2 ≤ place) → misses_link place at ≡ true
      by (inr far) _ = let e : nat_le (place + 4) at ≡ true = grind (arith, nat_tests) in rw e refl
      by (inl near) (inr far) = let e : nat_le (at + 2) place ≡ true = grind (arith, nat_tests) in either (nat_le (place + 4) at) (nat_le (at + 2) place) e
      by (inl near) (inl close) = absurd (clash near close (cases_lt at place))

  pub misses_all : (marked : Bool) (place : ℕ) (links : List Link) (at : ℕ) → Fits place → EachPaired ss cells place → AreLinks marked cells ss at links → misses_links place links ≡ true
  misses_all marked place [] at fits pair h = refl
  misses_all marked place (link ∷ links) at fits pair h =
      let small = link_small marked ss cells links link at h in
      let first = misses place link.at h.1 fits pair small h.2.known in
      let rest = misses_all marked place links (link_word marked h.1).next fits pair h.3 in
      rw (first, rest) refl

  -- ## Where pairs fit

  room_small : (marked : Bool) (at : ℕ) (links : List Link) → AreLinks marked cells ss at links → room_before links ≤ 65536
  room_small marked at [] h = omega arith
  room_small marked at (link ∷ links) h = let small = link_small marked ss cells links link at h in omega arith

  pub places_fit : (marked : Bool) (at : ℕ) (links : List Link) → AreLinks marked cells ss at links → AllByRecursion Fits (pair_places links)
  places_fit marked at [] h = tt
  places_fit marked at (link ∷ links) h =
      by link.far h.2.room (room_small marked (link_word marked h.1).next links h.3) (places_fit marked (link_word marked h.1).next links h.3)
    where
      by : (far : Bool) → link.at + room_of far ≤ room_before links → room_before links ≤ 65536 → AllByRecursion Fits (pair_places links) → AllByRecursion Fits (place_if far (pair_place link.at) ++ pair_places links)
      by true room small rest = (omega arith, rest)
      by false room small rest = rest
