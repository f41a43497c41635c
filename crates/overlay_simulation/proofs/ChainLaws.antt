-- The links of a framed state are those that a service finds in memory.
use Rattle.std.proofs.Common.{◌≡◌, ℕ, zero, suc, ◌+◌, ◌%◌, ◌<◌, ◌≤◌, ◌==◌, ◌||◌, Bool, true, false, List, [], ◌∷◌, Some, Ok, refl, sym, ap, ap₂, ◌∙◌, arith, eq-eqb, ne_eqb}
use Rattle.std.specs.Prelude.{slice_index, nat_lt, nat_le}
use Rattle.std.proofs.lemmas.Bool.Decides.{nat_tests}
use Rattle.cpu_8086.specs.Memory.{address, next_offset, word_of, load_byte, load_word}
use Rattle.frame_links.specs.Links.{Link, link_word, room_of, room_before}
use Rattle.resident_machine.specs.Cells.{Cell, Known, Unknown, Kept, Paired, Cells, word_of_cells, known_word}
use Rattle.resident_machine.specs.Framed.{AreLinks}
use Rattle.return_repair.specs.Chain.{word_at, next_link, link_at, goes_on, links_within, chain, are_spaced}

-- ## Links lie below the segment's end

word_small : (marked : Bool) (word : ℕ) → (link_word marked word).next < 65536 → word < 65536
word_small true word small = omega arith
word_small false word small = small

module _ (marked : Bool) (ss : ℕ) (cells : Cells) where
  least_room : (far : Bool) → 4 ≤ room_of far
  least_room true = omega arith
  least_room false = omega arith

  pub link_below : (at : ℕ) (link : Link) (links : List Link) → AreLinks marked cells ss at (link ∷ links) → link.at + 4 ≤ room_before links
  link_below at link links h = let room = h.2.room in let least = least_room link.far in omega arith

  pub link_small : (links : List Link) (link : Link) (at : ℕ) → AreLinks marked cells ss at (link ∷ links) → link.at + 4 ≤ 65536
  link_small [] link at h = link_below at link [] h
  link_small (next ∷ links) link at h =
      let below = link_below at link (next ∷ links) h in
      let small = link_small links next (link_word marked h.1).next h.3 in
      omega arith

  pub next_small : (at : ℕ) (links : List Link) → AreLinks marked cells ss at links → at < 65536
  next_small at [] h = omega arith
  next_small at (link ∷ links) h = let is = h.0 in let small = link_small links link at h in omega arith

-- ## What is known of memory

-- the bytes of a known word
pub word_known : (ss : ℕ) (cells : Cells) (offset word : ℕ) → known_word cells ss offset ≡ Some word → (low : ℕ) × (high : ℕ) × (cells (address ss offset) ≡ Known low) × (cells (address ss (next_offset offset)) ≡ Known high) × (word_of low high ≡ word)
word_known ss cells offset word e = by (cells (address ss offset)) refl (cells (address ss (next_offset offset))) refl e
  where
    by : (x : Cell) → cells (address ss offset) ≡ x → (y : Cell) → cells (address ss (next_offset offset)) ≡ y → word_of_cells x y ≡ Some word → (low : ℕ) × (high : ℕ) × (cells (address ss offset) ≡ Known low) × (cells (address ss (next_offset offset)) ≡ Known high) × (word_of low high ≡ word)
    by (Known l) x (Known h) y e = (l, h, x, y, cc)
    by (Known l) x Unknown y e = absurd (cc)
    by (Known l) x Kept y e = absurd (cc)
    by (Known l) x Paired y e = absurd (cc)
    by Unknown x high y e = absurd (cc)
    by Kept x high y e = absurd (cc)
    by Paired x high y e = absurd (cc)

module _ (marked : Bool) (ss : ℕ) (cells : Cells) (memory : List ℕ) (known : (place value : ℕ) → cells place ≡ Known value → slice_index memory place ≡ value) where
  known_is : (offset word : ℕ) → known_word cells ss offset ≡ Some word → load_word memory ss offset ≡ word
  unfolding load_word load_byte
  known_is offset word e =
      let bytes = word_known ss cells offset word e in
      ap₂ word_of (known (address ss offset) bytes.0 bytes.2) (known (address ss (next_offset offset)) bytes.1 bytes.3) ∙ bytes.4

  -- the word that a service reads
  word_read : (at : ℕ) (link : Link) (links : List Link) → (h : AreLinks marked cells ss at (link ∷ links)) → word_at marked memory ss at ≡ link_word marked h.1
  word_read at link links h =
      let small = word_small marked h.1 (next_small marked ss cells (link_word marked h.1).next links h.3) in
      let word : load_word memory ss at ≡ h.1 = ap (load_word memory ss) h.0 ∙ known_is link.at h.1 h.2.known in
      let wraps : h.1 % 65536 ≡ h.1 = omega arith in
      ap (λ (w : ℕ). link_word marked (w % 65536)) word ∙ ap (link_word marked) wraps

  rises : (at next : ℕ) (link : Link) (links : List Link) → link.at ≡ at → link.at + 4 ≤ room_before links → AreLinks marked cells ss next links → goes_on at next ≡ true
  rises at next link [] same room h = rw (eq-eqb next 0 h) refl
  rises at next link (other ∷ links) same room h =
      let is = h.0 in
      let less : nat_lt at next ≡ true = grind (arith, nat_tests) in
      by (next == 0) less
    where
      by : (x : Bool) → nat_lt at next ≡ true → (x || nat_lt at next) ≡ true
      by true less = refl
      by false less = less

  -- more links may come than are left
  abbrev Enough : List Link → ℕ → ℕ → Type 0
  Enough [] most at = Unit {0}
  Enough (link ∷ links) most at = 65536 ≤ most + at

  enough_left : (at most next : ℕ) (link : Link) (links : List Link) → link.at ≡ at → 65536 ≤ suc most + at → link.at + 4 ≤ room_before links → AreLinks marked cells ss next links → Enough links most next
  enough_left at most next link [] same enough room h = tt
  enough_left at most next link (other ∷ links) same enough room h = let is = h.0 in omega arith

  pub links_found : (links : List Link) (at most : ℕ) → AreLinks marked cells ss at links → Enough links most at → links_within marked most memory ss at ≡ Ok links
  unfolding links_within
  links_found [] at zero h enough = refl
  links_found [] at (suc most) h enough = rw (eq-eqb at 0 h) refl
  links_found (link ∷ links) at zero h enough = let is = h.0 in let small = link_small marked ss cells links link at h in absurd (omega arith)
  links_found (link ∷ links) at (suc most) h enough =
      let same : link.at ≡ at = sym h.0 in
      let positive = h.2.positive in
      let apart : (at == 0) ≡ false = ne_eqb at 0 (λ none. absurd (omega arith)) in
      let next : ℕ = (link_word marked h.1).next in
      let read = word_read at link links h in
      let next_is : next_link marked memory ss at ≡ next = ap (λ w. w.next) read in
      let room = link_below marked ss cells at link links h in
      let goes = rises at next link links same room h.3 in
      let rest = links_found links next most h.3 (enough_left at most next link links same enough room h.3) in
      let link_is : link_at marked memory ss at ≡ link = same_link at link same (ap (λ w. w.far) read ∙ sym h.2.far) in
      rw (apart, next_is, goes, rest) (ap (λ (x : Link). Ok (x ∷ links)) link_is)
    where
      same_link : (at : ℕ) (link : Link) → link.at ≡ at → (word_at marked memory ss at).far ≡ link.far → link_at marked memory ss at ≡ link
      same_link at link same far = ap₂ (λ (a : ℕ) (f : Bool). record { at = a; far = f }) (sym same) far

  pub chain_found : (links : List Link) (at : ℕ) → AreLinks marked cells ss at links → chain marked memory ss at ≡ Ok links
  unfolding chain
  chain_found links at h = links_found links at 65536 h (by links)
    where
      by : (links : List Link) → Enough links 65536 at
      by [] = tt
      by (link ∷ links) = omega arith

  -- ## Links are spaced

  pub spaced : (links : List Link) (at : ℕ) → AreLinks marked cells ss at links → are_spaced links ≡ true
  spaced [] at h = refl
  spaced (link ∷ links) at h =
      let room = h.2.room in
      let fits : nat_le (link.at + room_of link.far) (room_before links) ≡ true = grind (arith, nat_tests) in
      let rest = spaced links (link_word marked h.1).next h.3 in
      rw (fits, rest) refl
