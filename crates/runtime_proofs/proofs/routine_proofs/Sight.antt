-- Values that are seen in an activation are those of its states.
use Rattle.std.proofs.Common.{◌≡◌, ℕ, zero, suc, ◌+◌, ◌-◌, ◌*◌, ◌%◌, ◌≤◌, ◌<◌, Bool, true, false, inl, inr, length, Ok, Err, ℤ, pos, negsuc, refl, sym, ap, subst, ◌∙◌, arith}
use Rattle.std.specs.Prelude.{nat_lt, if◌then◌else◌}
use Rattle.std.proofs.lemmas.Bool.{cases_lt}
use Rattle.std.proofs.lemmas.List.{get_or_past}
use Rattle.std.proofs.lemmas.Bool.Decides.{nat_tests}
use Rattle.common_values.specs.integers.Words.{w16, wrapping_add, word_from_bytes}
use Rattle.flat_code.specs.declared.tree.Address.{Address}
use Rattle.flat_code.specs.declared.tree.Address.TheVariants.{Global, Local, Outer, Through}
use Rattle.flat_code.specs.declared.memory.Cell.{Cell}
use Rattle.flat_code.specs.declared.memory.Cell.TheVariants.{Known, Unset, Outside}
use Rattle.flat_code.specs.declared.memory.Place.{Place}
use Rattle.flat_code.specs.declared.memory.Trap.TheVariants.{Bad}
use Rattle.flat_code.specs.Tree.{Expr, Number, Byte, Word, AddressOf, SegmentOf, VmtOf, Op}
use Rattle.flat_code.specs.Memory.{Cells, Found, ◌>>=◌, address_of, place_after, byte_in, byte_at, word_at, far_at}
use Rattle.flat_code.specs.Program.{Choice}
use Rattle.flat_code.specs.Meaning.{Frame, stack_place, datum_place, place_of, value_of, op_of}
use Rattle.flat_code.proofs.Stack.{HasWord, word-read, offset-above, offset-below, LiesAt, byte-lies, local-word, op-value}
use Rattle.runtime_proofs.specs.routine_proofs.Activation.{Slot, Shut, Free, Holds, Activation, slot_no, index_of, is_index, HoldsSlot, word_address, Shows, IsPlaced}
use Rattle.runtime_proofs.specs.routine_proofs.Straight.{held, local_word, pointer_no, outer_place, byte_seen, word_seen, word_value, segment_seen, seen_value}
use Rattle.runtime_proofs.proofs.routine_proofs.Words.{op-small}

-- ---- what was found

pub bind-ok : {A B : Type 0} (x : Found A) (f : A → Found B) (b : B) → (x >>= f) ≡ Ok b → (a : A) × (x ≡ Ok a) × (f a ≡ Ok b)
bind-ok (Ok a) f b e = (a, refl, e)
bind-ok (Err trap) f b e = absurd (cc)

pub if-ok : {A : Type 0} (b : Bool) (x : Found A) (i : _) (v : A) → (if b then x else Err i) ≡ Ok v → (b ≡ true) × (x ≡ Ok v)
if-ok true x i v e = (refl, e)
if-ok false x i v e = absurd (cc)

pub ok-same : {A : Type 0} (x y : A) → (let r : Found A = Ok x in r ≡ Ok y) → x ≡ y
ok-same x y e = cc

-- ---- words of the stack

module _ (choice : Choice) (own : Frame) (sp above : ℕ) (placed : IsPlaced choice own sp above) where
  index-pos : (d : ℕ) → is_index above (pos d) ≡ true → 2 * index_of above (pos d) + 2 + d ≡ above
  index-pos d e = grind (arith, nat_tests)

  index-negsuc : (d : ℕ) → is_index above (negsuc d) ≡ true → 2 * index_of above (negsuc d) + 1 ≡ above + d
  index-negsuc d e = grind (arith, nat_tests)

  -- the i-th word lies so far from BP
  pub slot-lies : (d : ℤ) → is_index above d ≡ true → 2 * (index_of above d + 1) ≤ sp → LiesAt choice own.bp d (sp - 2 * (index_of above d + 1)) 2
  slot-lies (pos d) e fits =
      let at = index-pos d e in
      let b = placed.bp in
      let s = placed.small in
      let l = placed.inside in
      record { offset_is = offset-above own.bp d (omega arith) ∙ omega arith; small = omega arith; inside = omega arith }
  slot-lies (negsuc d) e fits =
      let at = index-negsuc d e in
      let b = placed.bp in
      let s = placed.small in
      let l = placed.inside in
      record { offset_is = offset-below own.bp d (omega arith) (omega arith) ∙ omega arith; small = omega arith; inside = omega arith }

  -- ---- what is seen is there

  module _ (a : Activation) (m : Cells) (shows : Shows choice sp a m) where
    known-there : (x b : ℕ) → a.memory x ≡ Known b → m x ≡ Known b
    known-there x b e = shows.outside x (λ below. let out : Known b ≡ Outside = sym e ∙ shows.below x below in absurd (cc)) ∙ e

    byte-there : (cell : Cell) (x b : ℕ) → a.memory x ≡ cell → byte_in cell ≡ Ok b → byte_in (m x) ≡ Ok b
    byte-there (Known c) x b e f = ap byte_in (known-there x c e) ∙ f
    byte-there Unset x b e f = absurd (cc)
    byte-there Outside x b e f = absurd (cc)

    -- a byte that is seen is a byte
    pub seen-byte : (p : Place) (i b : ℕ) → byte_seen a.memory p i ≡ Ok b → (byte_at m p i ≡ Ok b) × (b < 256)
    seen-byte p i b e =
        let found = bind-ok (byte_at a.memory p i) (λ byte. if nat_lt byte 256 then Ok byte else Err (Bad 1)) b e in
        let test = if-ok (nat_lt found.0 256) (Ok found.0) (Bad 1) b found.2 in
        let same : found.0 ≡ b = ok-same found.0 b test.1 in
        (byte-there (a.memory (address_of p i)) (address_of p i) b refl (found.1 ∙ ap (λ n. let r : Found ℕ = Ok n in r) same), below found.0 b same test.0)
      where
        below : (n b : ℕ) → n ≡ b → nat_lt n 256 ≡ true → b < 256
        below n b e f = grind (arith, nat_tests)

    pub seen-word : (p : Place) (v : ℕ) → word_seen a.memory p ≡ Ok v → (word_at m p ≡ Ok v) × (v < 65536)
    seen-word p v e =
        let low = bind-ok (byte_seen a.memory p 0) (λ low. byte_seen a.memory p 1 >>= λ high. Ok (word_from_bytes low high)) v e in
        let high = bind-ok (byte_seen a.memory p 1) (λ high. Ok (word_from_bytes low.0 high)) v low.2 in
        let same = ok-same (word_from_bytes low.0 high.0) v high.2 in
        let first = seen-byte p 0 low.0 low.1 in
        let second = seen-byte p 1 high.0 high.1 in (
          ap (λ (x : Found ℕ). x >>= λ low. byte_at m p 1 >>= λ high. Ok (word_from_bytes low high)) first.0
              ∙ ap (λ (x : Found ℕ). x >>= λ high. Ok (word_from_bytes low.0 high)) second.0
              ∙ high.2,
          omega (arith, same, first.1, second.1),
        )

    -- a word that is held
    pub held-word : (i v : ℕ) → held (slot_no a i) ≡ Ok v → HasWord m (word_address choice sp i) v × (2 * (i + 1) ≤ sp)
    held-word i v e = elim (cases_lt i (length a.words)) [ inl h ↦ there h (slot_no a i) refl (shows.words i h) e | inr h ↦ absurd (none (get_or_past a.words i Shut h) e) ]
      where
        there : i < length a.words → (slot : Slot) → slot_no a i ≡ slot → HoldsSlot m (word_address choice sp i) slot → held slot ≡ Ok v → HasWord m (word_address choice sp i) v × (2 * (i + 1) ≤ sp)
        there h Shut q has e = absurd (cc)
        there h Free q has e = absurd (cc)
        there h (Holds w) q has e =
            let same = ok-same w v e in
            let f = shows.fits in
            (subst (HasWord m (word_address choice sp i)) same (record { low = has.low; high = has.high; small = has.small }), omega arith)

        none : slot_no a i ≡ Shut → held (slot_no a i) ≡ Ok v → ⊥
        none q e = let out = sym (ap held q) ∙ e in absurd (cc)

    pub local-seen : (d : ℤ) (v : ℕ) → local_word above a d ≡ Ok v → (value_of choice own m (Word (Local d)) ≡ Ok v) × (v < 65536)
    local-seen d v e =
        let test = if-ok (is_index above d) (held (slot_no a (index_of above d))) (Bad 2) v e in
        let has = held-word (index_of above d) v test.1 in
        (local-word choice own m d (sp - 2 * (index_of above d + 1)) v (slot-lies d test.0 has.1) has.0, has.0.small)

    plain : (o k p : ℕ) → o + 2 ≡ p → p + k < 65536 → 16 * choice.stack_segment + (p + k) < 1048576 → (16 * choice.stack_segment + ((o + 2) % 65536 + k) % 65536) % 1048576 ≡ 16 * choice.stack_segment + p + k
    plain o k p e small inside = omega arith

    -- the place that two words make
    far-read : (d : ℤ) (i offset segment : ℕ) → LiesAt choice own.bp d (sp - 2 * (suc i + 1)) 2 → 2 * (suc i + 1) ≤ sp → HasWord m (word_address choice sp (suc i)) offset → HasWord m (word_address choice sp i) segment → far_at m (stack_place choice own.bp d) ≡ Ok (record { segment = segment; offset = offset })
    far-read d i offset segment lies fits first second =
        let p = stack_place choice own.bp d in
        let q = place_after p 2 in
        let f = lies.offset_is in
        let s = placed.small in
        let l = placed.inside in
        let low = word-read m p (word_address choice sp (suc i)) offset (byte-lies choice own.bp d (sp - 2 * (suc i + 1)) 2 0 lies (omega arith) ∙ omega arith) (byte-lies choice own.bp d (sp - 2 * (suc i + 1)) 2 1 lies (omega arith)) first in
        let high = word-read m q (word_address choice sp i) segment (later p.offset 0 f (omega arith) ∙ omega arith) (later p.offset 1 f (omega arith)) second in
        ap (λ (x : Found ℕ). x >>= λ offset. word_at m q >>= λ segment. Ok (record { segment = segment; offset = offset })) low
        ∙ ap (λ (x : Found ℕ). x >>= λ segment. Ok (record { segment = segment; offset = offset })) high
      where
        later : (o k : ℕ) → o ≡ sp - 2 * (suc i + 1) → k ≤ 1 → (16 * choice.stack_segment + (wrapping_add w16 o 2 + k) % 65536) % 1048576 ≡ word_address choice sp i + k
        later o k e h =
            let s = placed.small in
            let l = placed.inside in
            plain o k (sp - 2 * (i + 1)) (omega arith) (omega arith) (omega arith)

    pointer-seen : (d : ℤ) (i : ℕ) (p : Place) → is_index above d ≡ true → index_of above d ≡ i → pointer_no a i ≡ Ok p → far_at m (stack_place choice own.bp d) ≡ Ok p
    pointer-seen d zero p t h e = absurd (cc)
    pointer-seen d (suc i) p t h e =
        let offset = bind-ok (held (slot_no a (suc i))) (λ offset. held (slot_no a i) >>= λ segment. Ok (record { segment = segment; offset = offset })) p e in
        let segment = bind-ok (held (slot_no a i)) (λ segment. Ok (record { segment = segment; offset = offset.0 })) p offset.2 in
        let first = held-word (suc i) offset.0 offset.1 in
        let second = held-word i segment.0 segment.1 in
        let lies = subst (λ k. LiesAt choice own.bp d (sp - 2 * (k + 1)) 2) h (slot-lies d t (subst (λ k. 2 * (k + 1) ≤ sp) (sym h) first.1)) in
        far-read d i offset.0 segment.0 lies first.1 first.0 second.0 ∙ segment.2

    pub place-seen : (at : Address) (p : Place) → outer_place choice own above a at ≡ Ok p → (place_of choice own m at ≡ Ok p) × (p.offset < 65536)
    place-seen (Global unit number plus) p e =
        let found = bind-ok (datum_place choice own unit number) (λ p. Ok (place_after p plus)) p e in (e, small found.0 p plus found.2)
      where
        small : (q p : Place) (plus : ℕ) → (let r : Found Place = Ok (place_after q plus) in r ≡ Ok p) → p.offset < 65536
        small q p plus e = let same = ap (λ (x : Place). x.offset) (ok-same (place_after q plus) p e) in omega (arith, same)
    place-seen (Local at) p e = absurd (cc)
    place-seen (Outer levels at) p e = absurd (cc)
    place-seen (Through slot plus) p e =
        let found = bind-ok (if is_index above slot then pointer_no a (index_of above slot) else Err (Bad 2)) (λ p. Ok (place_after p plus)) p e in
        let test = if-ok (is_index above slot) (pointer_no a (index_of above slot)) (Bad 2) found.0 found.1 in
        let there = pointer-seen slot (index_of above slot) found.0 test.0 refl test.1 in
        (ap (λ (x : Found Place). x >>= λ p. Ok (place_after p plus)) there ∙ found.2, small found.0 p plus found.2)
      where
        small : (q p : Place) (plus : ℕ) → (let r : Found Place = Ok (place_after q plus) in r ≡ Ok p) → p.offset < 65536
        small q p plus e = let same = ap (λ (x : Place). x.offset) (ok-same (place_after q plus) p e) in omega (arith, same)

    seen-segment : (p : Place) (v : ℕ) → segment_seen p ≡ Ok v → (let r : Found ℕ = Ok p.segment in r ≡ Ok v) × (v < 65536)
    seen-segment p v e =
        let test = if-ok (nat_lt p.segment 65536) (Ok p.segment) (Bad 1) v e in
        (test.1, below p.segment v (ok-same p.segment v test.1) test.0)
      where
        below : (n v : ℕ) → n ≡ v → nat_lt n 65536 ≡ true → v < 65536
        below n v e f = grind (arith, nat_tests)

    -- ---- values

    outer-word : (at : Address) (v : ℕ) → (outer_place choice own above a at >>= λ p. word_seen a.memory p) ≡ Ok v → (value_of choice own m (Word at) ≡ Ok v) × (v < 65536)
    outer-word at v e =
        let found = bind-ok (outer_place choice own above a at) (λ p. word_seen a.memory p) v e in
        let place = place-seen at found.0 found.1 in
        let word = seen-word found.0 v found.2 in
        (ap (λ (x : Found Place). x >>= λ p. word_at m p) place.0 ∙ word.0, word.1)

    word-seen : (at : Address) (v : ℕ) → word_value choice own above a at ≡ Ok v → (value_of choice own m (Word at) ≡ Ok v) × (v < 65536)
    word-seen (Local d) v e = local-seen d v e
    word-seen (Global unit number plus) v e = outer-word (Global unit number plus) v e
    word-seen (Outer levels at) v e = outer-word (Outer levels at) v e
    word-seen (Through slot plus) v e = outer-word (Through slot plus) v e

    pub value-seen : (e : Expr) (v : ℕ) → seen_value choice own above a e ≡ Ok v → (value_of choice own m e ≡ Ok v) × (v < 65536)
    value-seen (Number n) v e =
        let test = if-ok (nat_lt n 65536) (Ok n) (Bad 1) v e in
        (test.1, below n v (ok-same n v test.1) test.0)
      where
        below : (n v : ℕ) → n ≡ v → nat_lt n 65536 ≡ true → v < 65536
        below n v e f = grind (arith, nat_tests)
    value-seen (Byte at) v e =
        let found = bind-ok (outer_place choice own above a at) (λ p. byte_seen a.memory p 0) v e in
        let place = place-seen at found.0 found.1 in
        let byte = seen-byte found.0 0 v found.2 in
        (ap (λ (x : Found Place). x >>= λ p. byte_at m p 0) place.0 ∙ byte.0, omega (arith, byte.1))
    value-seen (Word at) v e = word-seen at v e
    value-seen (AddressOf at) v e =
        let found = bind-ok (outer_place choice own above a at) (λ p. Ok p.offset) v e in
        let place = place-seen at found.0 found.1 in
        (ap (λ (x : Found Place). x >>= λ p. Ok p.offset) place.0 ∙ found.2, subst (λ n. n < 65536) (ok-same found.0.offset v found.2) place.1)
    value-seen (SegmentOf at) v e =
        let found = bind-ok (outer_place choice own above a at) segment_seen v e in
        let place = place-seen at found.0 found.1 in
        let segment = seen-segment found.0 v found.2 in
        (ap (λ (x : Found Place). x >>= λ p. Ok p.segment) place.0 ∙ segment.0, segment.1)
    value-seen (VmtOf unit number) v e = absurd (cc)
    value-seen (Op op x y) v e =
        let left = bind-ok (seen_value choice own above a x) (λ v. seen_value choice own above a y >>= λ w. op_of op v w) v e in
        let right = bind-ok (seen_value choice own above a y) (λ w. op_of op left.0 w) v left.2 in
        let first = value-seen x left.0 left.1 in
        let second = value-seen y right.0 right.1 in
        (op-value choice own m op x y left.0 right.0 first.0 second.0 ∙ right.2, op-small op left.0 right.0 v first.1 second.1 right.2)
