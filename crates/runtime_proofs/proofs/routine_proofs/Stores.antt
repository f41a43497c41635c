-- What is stored in an activation as its routine sees it is stored in the states that it is seen in.
use Rattle.std.proofs.Common.{◌≡◌, ℕ, ◌+◌, ◌-◌, ◌*◌, ◌≤◌, ◌<◌, ◌⊎◌, inl, inr, List, [], ◌∷◌, length, get_or, set, Ok, ℤ, refl, sym, ap, subst, ◌∙◌, arith, ⊎_elim}
use Rattle.std.proofs.lemmas.Bool.{cases_lt, cases_eq}
use Rattle.std.proofs.lemmas.Bool.Decides.{nat_tests}
use Rattle.std.proofs.lemmas.List.{get_or-set_same, get_or-set_other, get_or_past, length-set}
use Rattle.flat_code.specs.declared.tree.Address.{Address}
use Rattle.flat_code.specs.declared.tree.Address.TheVariants.{Global, Local, Outer, Through}
use Rattle.flat_code.specs.declared.memory.Cell.{Cell}
use Rattle.flat_code.specs.declared.memory.Cell.TheVariants.{Known, Unset, Outside}
use Rattle.flat_code.specs.declared.memory.Place.{Place}
use Rattle.flat_code.specs.declared.memory.Trap.TheVariants.{Bad}
use Rattle.flat_code.specs.Memory.{Cells, Found, ◌>>=◌, address_of, put, if_inside, write, store_bytes, word_bytes}
use Rattle.flat_code.specs.Program.{Choice}
use Rattle.flat_code.specs.Meaning.{Frame, stored_at}
use Rattle.flat_code.specs.Gives.{IsBelow}
use Rattle.flat_code.proofs.Shut.{put_other}
use Rattle.flat_code.proofs.Stack.{with_word, word-written, word-other, local-stored}
use Rattle.runtime_proofs.specs.routine_proofs.Activation.{Slot, Shut, Free, Holds, Activation, slot_no, index_of, is_index, HoldsSlot, word_address, Shows, IsPlaced}
use Rattle.runtime_proofs.specs.routine_proofs.Straight.{outer_place, with_slot, with_local, with_outer, with_word_at}
use Rattle.runtime_proofs.proofs.routine_proofs.Sight.{bind-ok, if-ok, ok-same, slot-lies, place-seen}

put_same : (m : Cells) (a : ℕ) (c : Cell) → put m a c a ≡ c
put_same m a c = grind (arith, nat_tests)

-- ---- cells of the stack below the caller's SP alone decide what words are held

slot-kept : (m n : Cells) (x : ℕ) (slot : Slot) → n x ≡ m x → n (x + 1) ≡ m (x + 1) → HoldsSlot m x slot → HoldsSlot n x slot
slot-kept m n x Shut p q has = tt
slot-kept m n x Free p q has = (λ out. has.0 (sym p ∙ out), λ out. has.1 (sym q ∙ out))
slot-kept m n x (Holds v) p q has = record { low = p ∙ has.low; high = q ∙ has.high; small = has.small }

module _ (choice : Choice) (own : Frame) (sp above : ℕ) (placed : IsPlaced choice own sp above) where
  -- other memory, and other cells that show it
  pub shows-memory : (a : Activation) (m n memory : Cells) → Shows choice sp a m → ((x : ℕ) → IsBelow choice sp x → n x ≡ m x) → ((x : ℕ) → (IsBelow choice sp x → ⊥) → n x ≡ memory x) → ((x : ℕ) → IsBelow choice sp x → memory x ≡ Outside) → Shows choice sp (record a { memory = memory }) n
  shows-memory a m n memory shows keeps outside below = record {
    fits = shows.fits;
    words = λ i h.
        let f = shows.fits in
        slot-kept m n (word_address choice sp i) (slot_no a i) (keeps (word_address choice sp i) (omega arith, omega arith)) (keeps (word_address choice sp i + 1) (omega arith, omega arith)) (shows.words i h);
    outside = outside;
    below = below;
  }

  -- ---- a cell outside of the activation

  inside-ok : (cell : Cell) (m n : Cells) → (cell ≡ Outside → ⊥) → if_inside cell m ≡ Ok m
  inside-ok (Known byte) m n h = refl
  inside-ok Unset m n h = refl
  inside-ok Outside m n h = absurd (h refl)

  was-inside : (cell : Cell) (m n : Cells) → if_inside cell m ≡ Ok n → (cell ≡ Outside → ⊥) × (m ≡ n)
  was-inside (Known byte) m n e = (λ out. cc, ok-same m n e)
  was-inside Unset m n e = (λ out. cc, ok-same m n e)
  was-inside Outside m n e = absurd (cc)

  -- one cell is written
  pub write-seen : (a : Activation) (m memory : Cells) (x : ℕ) (c : Cell) → Shows choice sp a m → write a.memory x c ≡ Ok memory → (n : Cells) × (write m x c ≡ Ok n) × Shows choice sp (record a { memory = memory }) n
  write-seen a m memory x c shows e =
      let was = was-inside (a.memory x) (put a.memory x c) memory e in
      let free : IsBelow choice sp x → ⊥ = λ below. was.0 (shows.below x below) in
      let same = shows.outside x free in
      let n = put m x c in (
        n,
        inside-ok (m x) n n (λ out. was.0 (sym same ∙ out)),
        subst (λ k. Shows choice sp (record a { memory = k }) n) was.1
            (shows-memory a m n (put a.memory x c) shows
            (λ y below. put_other m x c y (λ e. free (subst (IsBelow choice sp) e below)))
            (λ y out. ⊎_elim (λ (e : y ≡ x). ap n e ∙ put_same m x c ∙ sym (put_same a.memory x c) ∙ ap (put a.memory x c) (sym e)) (λ other. put_other m x c y other ∙ shows.outside y out ∙ sym (put_other a.memory x c y other)) (cases_eq y x))
            (λ y below. put_other a.memory x c y (λ e. free (subst (IsBelow choice sp) e below)) ∙ shows.below y below)),
      )

  pub bytes-seen : (a : Activation) (m memory : Cells) (p : Place) (i : ℕ) (bytes : List ℕ) → Shows choice sp a m → store_bytes a.memory p i bytes ≡ Ok memory → (n : Cells) × (store_bytes m p i bytes ≡ Ok n) × Shows choice sp (record a { memory = memory }) n
  bytes-seen a m memory p i [] shows e = (m, refl, subst (λ k. Shows choice sp (record a { memory = k }) m) (ok-same a.memory memory e) shows)
  bytes-seen a m memory p i (byte ∷ bytes) shows e =
      let first = bind-ok (write a.memory (address_of p i) (Known byte)) (λ k. store_bytes k p (i + 1) bytes) memory e in
      let written = write-seen a m first.0 (address_of p i) (Known byte) shows first.1 in
      let rest = bytes-seen (record a { memory = first.0 }) written.0 memory p (i + 1) bytes written.2 first.2 in
      (rest.0, ap (λ (x : Found Cells). x >>= λ k. store_bytes k p (i + 1) bytes) written.1 ∙ rest.1, rest.2)

  pub outer-seen : (a b : Activation) (m : Cells) (at : Address) (bytes : List ℕ) → Shows choice sp a m → with_outer choice own above a at bytes ≡ Ok b → (n : Cells) × (stored_at choice own m at bytes ≡ Ok n) × Shows choice sp b n
  outer-seen a b m at bytes shows e =
      let found = bind-ok (outer_place choice own above a at) (λ p. store_bytes a.memory p 0 bytes >>= λ m. Ok (record a { memory = m })) b e in
      let stored = bind-ok (store_bytes a.memory found.0 0 bytes) (λ m. Ok (record a { memory = m })) b found.2 in
      let there = place-seen choice own sp above placed a m shows at found.0 found.1 in
      let now = bytes-seen a m stored.0 found.0 0 bytes shows stored.1 in
      (now.0, ap (λ (x : Found Place). x >>= λ p. store_bytes m p 0 bytes) there.0 ∙ now.1, subst (λ c. Shows choice sp c now.0) (ok-same _ b stored.2) now.2)

  -- ---- a word of the activation

  slot-other : (m : Cells) (x y v : ℕ) (slot : Slot) → (y + 1 < x) ⊎ (x + 1 < y) → HoldsSlot m y slot → HoldsSlot (with_word m x v) y slot
  slot-other m x y v slot (inl low) has = slot-kept m (with_word m x v) y slot (word-other m x v y (λ e. omega (arith, e, low)) (λ e. omega (arith, e, low))) (word-other m x v (y + 1) (λ e. omega (arith, e, low)) (λ e. omega (arith, e, low))) has
  slot-other m x y v slot (inr high) has = slot-kept m (with_word m x v) y slot (word-other m x v y (λ e. omega (arith, e, high)) (λ e. omega (arith, e, high))) (word-other m x v (y + 1) (λ e. omega (arith, e, high)) (λ e. omega (arith, e, high))) has

  shows-word : (a : Activation) (m : Cells) (i v : ℕ) → i < length a.words → v < 65536 → Shows choice sp a m → Shows choice sp (record a { words = set a.words i (Holds v) }) (with_word m (word_address choice sp i) v)
  shows-word a m i v h small shows = record {
    fits = subst (λ n. 2 * n ≤ sp) (sym (length-set a.words i (Holds v))) shows.fits;
    words = λ j k. each j (subst (λ n. j < n) (length-set a.words i (Holds v)) k);
    outside = λ x out.
        let own_low = own-below i (omega (arith, shows.fits, h)) in
        word-other m (word_address choice sp i) v x (λ e. out (subst (IsBelow choice sp) (sym e) own_low.0)) (λ e. out (subst (IsBelow choice sp) (sym e) own_low.1)) ∙ shows.outside x out;
    below = shows.below;
  }
    where
      own-below : (k : ℕ) → 2 * (k + 1) ≤ sp → IsBelow choice sp (word_address choice sp k) × IsBelow choice sp (word_address choice sp k + 1)
      own-below k fits = ((omega arith, omega arith), (omega arith, omega arith))

      apart : (j : ℕ) → j < length a.words → (j ≡ i → ⊥) → (word_address choice sp j + 1 < word_address choice sp i) ⊎ (word_address choice sp i + 1 < word_address choice sp j)
      apart j k ne = let f = shows.fits in elim (cases_lt j i) [ inl l ↦ inr (omega arith) | inr l ↦ inl (omega (arith, ne)) ]

      each : (j : ℕ) → j < length a.words → HoldsSlot (with_word m (word_address choice sp i) v) (word_address choice sp j) (get_or (set a.words i (Holds v)) j Shut)
      each j k = ⊎_elim
          (λ (e : j ≡ i). subst (λ n. HoldsSlot (with_word m (word_address choice sp i) v) (word_address choice sp n) (get_or (set a.words i (Holds v)) n Shut)) (sym e)
          (subst (HoldsSlot (with_word m (word_address choice sp i) v) (word_address choice sp i)) (sym (get_or-set_same a.words i (Holds v) Shut h)) written))
          (λ ne. subst (HoldsSlot (with_word m (word_address choice sp i) v) (word_address choice sp j)) (sym (get_or-set_other a.words i j (Holds v) Shut ne)) (slot-other m (word_address choice sp i) (word_address choice sp j) v (slot_no a j) (apart j k ne) (shows.words j k)))
          (cases_eq j i)
        where
          written : HoldsSlot (with_word m (word_address choice sp i) v) (word_address choice sp i) (Holds v)
          written = let w = word-written m (word_address choice sp i) v small in record { low = w.low; high = w.high; small = w.small }

  -- a word that can be stored
  open-slot : (a b : Activation) (i v : ℕ) → with_slot (slot_no a i) a i v ≡ Ok b → (slot_no a i ≡ Shut → ⊥) × (record a { words = set a.words i (Holds v) } ≡ b)
  open-slot a b i v e = by (slot_no a i) refl e
    where
      by : (slot : Slot) → slot_no a i ≡ slot → with_slot slot a i v ≡ Ok b → (slot_no a i ≡ Shut → ⊥) × (record a { words = set a.words i (Holds v) } ≡ b)
      by Shut p q = absurd (cc)
      by Free p q = (λ out. let r = sym p ∙ out in absurd (cc), ok-same _ b q)
      by (Holds w) p q = (λ out. let r = sym p ∙ out in absurd (cc), ok-same _ b q)

  slot-inside : (m : Cells) (x : ℕ) (slot : Slot) → (slot ≡ Shut → ⊥) → HoldsSlot m x slot → (m x ≡ Outside → ⊥) × (m (x + 1) ≡ Outside → ⊥)
  slot-inside m x Shut ne has = absurd (ne refl)
  slot-inside m x Free ne has = has
  slot-inside m x (Holds v) ne has = (λ out. let r = sym has.low ∙ out in absurd (cc), λ out. let r = sym has.high ∙ out in absurd (cc))

  pub local-seen : (a b : Activation) (m : Cells) (d : ℤ) (v : ℕ) → v < 65536 → Shows choice sp a m → with_local above a d v ≡ Ok b → (n : Cells) × (stored_at choice own m (Local d) (word_bytes v) ≡ Ok n) × Shows choice sp b n
  local-seen a b m d v small shows e =
      let i = index_of above d in
      let test = if-ok (is_index above d) (with_slot (slot_no a i) a i v) (Bad 2) b e in
      let free = open-slot a b i v test.1 in
      let within : i < length a.words = ⊎_elim (λ (h : i < length a.words). h) (λ h. absurd (free.0 (get_or_past a.words i Shut h))) (cases_lt i (length a.words)) in
      let room : 2 * (i + 1) ≤ sp = omega (arith, within, shows.fits) in
      let lies = slot-lies choice own sp above placed d test.0 room in
      let cells = slot-inside m (word_address choice sp i) (slot_no a i) free.0 (shows.words i within) in
      (with_word m (word_address choice sp i) v, local-stored choice own m d (sp - 2 * (i + 1)) v lies cells.0 cells.1, subst (λ c. Shows choice sp c (with_word m (word_address choice sp i) v)) free.1 (shows-word a m i v within small shows))

  pub word-seen : (a b : Activation) (m : Cells) (at : Address) (v : ℕ) → v < 65536 → Shows choice sp a m → with_word_at choice own above a at v ≡ Ok b → (n : Cells) × (stored_at choice own m at (word_bytes v) ≡ Ok n) × Shows choice sp b n
  word-seen a b m (Local d) v small shows e = local-seen a b m d v small shows e
  word-seen a b m (Global unit number plus) v small shows e = outer-seen a b m (Global unit number plus) (word_bytes v) shows e
  word-seen a b m (Outer levels at) v small shows e = outer-seen a b m (Outer levels at) (word_bytes v) shows e
  word-seen a b m (Through slot plus) v small shows e = outer-seen a b m (Through slot plus) (word_bytes v) shows e
