-- The part that New and Dispose share: the size in eights, and the first list of that size.
use Rattle.std.proofs.Common.{◌≡◌, ℕ, zero, suc, ◌+◌, ◌*◌, ◌/◌, ◌%◌, ◌≤◌, ◌<◌, inl, inr, Bool, true, false, cond, max, List, [], ◌∷◌, length, Some, Ok, ℤ, pos, negsuc, refl, sym, ap, subst, ◌∙◌, arith}
use Rattle.std.specs.Prelude.{◌==◌}
use Rattle.common_values.specs.integers.Words.{w16, wrapping_add, wrapping_sub, wrapping_mul, low_byte, high_byte, word_from_bytes}
use Rattle.flat_code.specs.declared.tree.Address.TheVariants.{Global, Local, Through}
use Rattle.flat_code.specs.declared.tree.FlatOp.TheVariants as op
use Rattle.flat_code.specs.declared.memory.Cell.TheVariants.{Outside}
use Rattle.flat_code.specs.declared.memory.Place.{Place}
use Rattle.flat_code.specs.Tree.{Expr, Number, Word, Op, StoreWord, Code, End, Do, If, Loop, ◌then◌}
use Rattle.flat_code.specs.Memory.{Cells, Found, ◌>>=◌, address_of, place_after, store_bytes, word_bytes}
use Rattle.flat_code.specs.Program.{FlatProgram, Choice, overlay_unit}
use Rattle.flat_code.specs.Meaning.{Frame, truth, if_placed}
use Rattle.flat_code.proofs.Stack.{with_word, word-stored}
use Rattle.runtime_proofs.specs.routine_proofs.Activation.{Activation, HoldsWord, IsPlaced}
use Rattle.runtime_proofs.specs.routine_proofs.Straight.{Onward, Leaving, Came, outer_place, byte_seen, word_seen, seen_value, with_word_at, onward, continued, straight, code_size}
use Rattle.runtime_proofs.specs.routine_proofs.Comes.{Does}
use Rattle.runtime_proofs.proofs.routine_proofs.Replies.{next_of, other_of, taken-so, other-so}
use Rattle.runtime_proofs.proofs.routine_proofs.Doing.{weaker-does, then-does, straight-does, round-does, leave-does}
use Rattle.runtime_proofs.specs.strings_in_memory.Strings.{place}
use Rattle.runtime_proofs.proofs.strings_in_memory.Cells.{byte-read}
use Rattle.runtime_proofs.specs.string_loops.Pieces.{word, set_word}
use Rattle.runtime_proofs.proofs.string_loops.Seen.{op-so, set-so, raise-so}
use Rattle.heap_runtime.specs.heap.Heap.{FreeList, eights, free_blocks}
use Rattle.heap_runtime.specs.heap.HeapMemory.{block_address, block_place, HasLists, HeapPlaces, IsAmong}
use Rattle.heap_runtime.specs.heap.Routines.{heap_segment, first_at, block_at, wanted, current, previous, word_behind, set_word_behind, number_of, set_pointer, find_start, rounding, find_step, find_round, find_list}
use Rattle.heap_runtime.proofs.heap.Among.{among-right}
use Rattle.heap_runtime.proofs.heap.Links.{head_of, head-word, from_found, before_found}

-- ---- words in memory

word-whole : (v : ℕ) → v < 65536 → word_from_bytes (low_byte v) (high_byte v) ≡ v
word-whole v h = omega arith

low-small : (v : ℕ) → low_byte v < 256
low-small v = omega arith

high-small : (v : ℕ) → v < 65536 → high_byte v < 256
high-small v h = omega arith

pub word-known : (m : Cells) (p : Place) (x v : ℕ) → address_of p 0 ≡ x → address_of p 1 ≡ x + 1 → HoldsWord m x v → word_seen m p ≡ Ok v
word-known m p x v e g has =
    let low = byte-read m p 0 (low_byte v) (ap m e ∙ has.low) (low-small v) in
    let high = byte-read m p 1 (high_byte v) (ap m g ∙ has.high) (high-small v has.small) in
    ap (λ (found : Found ℕ). found >>= λ low. byte_seen m p 1 >>= λ high. Ok (word_from_bytes low high)) low
    ∙ ap (λ (found : Found ℕ). found >>= λ high. Ok (word_from_bytes (low_byte v) high)) high
    ∙ ap (λ (n : ℕ). let r : Found ℕ = Ok n in r) (word-whole v has.small)

-- ---- places

pub data-byte : (segment o plus i : ℕ) → o + plus + i < 65536 → 16 * segment + (o + plus + i) < 1048576 → address_of (place_after (place segment o) plus) i ≡ 16 * segment + o + plus + i
data-byte segment o plus i p q = omega arith

pub block-byte : (choice : Choice) (b plus i : ℕ) → plus + i < 8 → block_address choice b + 8 ≤ 1048576 → address_of (place_after (block_place choice b) plus) i ≡ block_address choice b + plus + i
block-byte choice b plus i p q = omega arith

module _ (program : FlatProgram) (choice : Choice) (own : Frame) (above : ℕ) (own_unit : own.unit ≡ overlay_unit) (places : HeapPlaces program choice) where
  -- a datum of the unit
  global-place : (a : Activation) (number offset plus : ℕ) → choice.datum (record { unit = overlay_unit; number = number }) ≡ Some offset → outer_place choice own above a (Global 0 number plus) ≡ Ok (place_after (place choice.data_segment offset) plus)
  global-place a number offset plus e =
      ap (λ u. (if_placed (choice.datum (record { unit = u; number = number })) >>= λ o. Ok (place choice.data_segment o)) >>= λ p. Ok (place_after p plus)) own_unit
      ∙ ap (λ o. (if_placed o >>= λ o. Ok (place choice.data_segment o)) >>= λ p. Ok (place_after p plus)) e

  pub data-seen : (a : Activation) (number offset plus x v : ℕ) → choice.datum (record { unit = overlay_unit; number = number }) ≡ Some offset → offset + plus + 2 ≤ places.data_bytes → x ≡ 16 * choice.data_segment + offset + plus → HoldsWord a.memory x v → seen_value choice own above a (Word (Global 0 number plus)) ≡ Ok v
  data-seen a number offset plus x v e inside is has =
      let s = places.small in
      let d = places.data_end in
      ap (λ (found : Found Place). found >>= λ p. word_seen a.memory p) (global-place a number offset plus e)
      ∙ word-known a.memory (place_after (place choice.data_segment offset) plus) x v
      (data-byte choice.data_segment offset plus 0 (omega arith) (omega arith) ∙ omega (arith, is)) (data-byte choice.data_segment offset plus 1 (omega arith) (omega arith) ∙ omega (arith, is)) has

  -- a word behind a pointer to a block
  pub behind-seen : (a : Activation) (pointer : ℤ) (b plus x v : ℕ) → outer_place choice own above a (Through pointer plus) ≡ Ok (place_after (block_place choice b) plus) → plus + 2 ≤ 8 → block_address choice b + 8 ≤ 1048576 → x ≡ block_address choice b + plus → HoldsWord a.memory x v → seen_value choice own above a (word_behind pointer plus) ≡ Ok v
  behind-seen a pointer b plus x v e short inside is has =
      ap (λ (found : Found Place). found >>= λ p. word_seen a.memory p) e
      ∙ word-known a.memory (place_after (block_place choice b) plus) x v
      (block-byte choice b plus 0 (omega (arith, short)) inside ∙ omega (arith, is)) (block-byte choice b plus 1 (omega (arith, short)) inside ∙ omega (arith, is)) has

  -- ---- stores

  stored-so : (a : Activation) (next : Code) (found_place : Found Place) (p : Place) (x v : ℕ) → found_place ≡ Ok p → address_of p 0 ≡ x → address_of p 1 ≡ x + 1 → (a.memory x ≡ Outside → ⊥) → (a.memory (x + 1) ≡ Outside → ⊥) →
      (((found_place >>= λ p. store_bytes a.memory p 0 (word_bytes v) >>= λ m. Ok (record a { memory = m })) >>= λ b. onward b) >>= λ c. continued c.exit c.there (straight choice own above next)) ≡ straight choice own above next (record a { memory = with_word a.memory x v })
  stored-so a next found_place p x v e f g h k =
      ap (λ (found : Found Place). ((found >>= λ p. store_bytes a.memory p 0 (word_bytes v) >>= λ m. Ok (record a { memory = m })) >>= λ b. onward b) >>= λ c. continued c.exit c.there (straight choice own above next)) e
      ∙ ap (λ (found : Found Cells). ((found >>= λ m. Ok (record a { memory = m })) >>= λ b. onward b) >>= λ c. continued c.exit c.there (straight choice own above next)) (word-stored a.memory p x v f g h k)

  valued-so : (a : Activation) (next : Code) (value : Expr) (v : ℕ) (go : ℕ → Found Activation) → seen_value choice own above a value ≡ Ok v →
      (((seen_value choice own above a value >>= λ v. go v >>= λ b. onward b)) >>= λ c. continued c.exit c.there (straight choice own above next)) ≡ ((go v >>= λ b. onward b) >>= λ c. continued c.exit c.there (straight choice own above next))
  valued-so a next value v go e = ap (λ (found : Found ℕ). (found >>= λ v. go v >>= λ b. onward b) >>= λ c. continued c.exit c.there (straight choice own above next)) e

  -- a store of a word behind a pointer to a block
  pub behind-so : (a : Activation) (pointer : ℤ) (b plus x v : ℕ) (value : Expr) (next : Code) → seen_value choice own above a value ≡ Ok v → outer_place choice own above a (Through pointer plus) ≡ Ok (place_after (block_place choice b) plus) → plus + 2 ≤ 8 → block_address choice b + 8 ≤ 1048576 → x ≡ block_address choice b + plus →
      ((y : ℕ) → block_address choice b ≤ y → y < block_address choice b + 8 → a.memory y ≡ Outside → ⊥) →
      straight choice own above (set_word_behind pointer plus value next) a ≡ straight choice own above next (record a { memory = with_word a.memory x v })
  behind-so a pointer b plus x v value next seen e short inside is reached =
      valued-so a next value v (λ v. outer_place choice own above a (Through pointer plus) >>= λ p. store_bytes a.memory p 0 (word_bytes v) >>= λ m. Ok (record a { memory = m })) seen
      ∙ stored-so a next (outer_place choice own above a (Through pointer plus)) (place_after (block_place choice b) plus) x v e
      (block-byte choice b plus 0 (omega (arith, short)) inside ∙ omega (arith, is)) (block-byte choice b plus 1 (omega (arith, short)) inside ∙ omega (arith, is)) (reached x (omega (arith, is)) (omega (arith, is, short))) (reached (x + 1) (omega (arith, is)) (omega (arith, is, short)))

  -- and of one in the data
  pub data-so : (a : Activation) (number offset plus x v : ℕ) (value : Expr) (next : Code) → seen_value choice own above a value ≡ Ok v → choice.datum (record { unit = overlay_unit; number = number }) ≡ Some offset → offset + plus + 2 ≤ places.data_bytes → x ≡ 16 * choice.data_segment + offset + plus →
      (a.memory x ≡ Outside → ⊥) → (a.memory (x + 1) ≡ Outside → ⊥) →
      straight choice own above (Do (StoreWord (Global 0 number plus) value) next) a ≡ straight choice own above next (record a { memory = with_word a.memory x v })
  data-so a number offset plus x v value next seen e inside is g h =
      let s = places.small in
      let d = places.data_end in
      valued-so a next value v (λ v. outer_place choice own above a (Global 0 number plus) >>= λ p. store_bytes a.memory p 0 (word_bytes v) >>= λ m. Ok (record a { memory = m })) seen
      ∙ stored-so a next (outer_place choice own above a (Global 0 number plus)) (place_after (place choice.data_segment offset) plus) x v (global-place a number offset plus e)
      (data-byte choice.data_segment offset plus 0 (omega arith) (omega arith) ∙ omega (arith, is)) (data-byte choice.data_segment offset plus 1 (omega arith) (omega arith) ∙ omega (arith, is)) g h

  -- ---- a pointer from a number

  less-one : (k : ℕ) → suc k < 65536 → wrapping_sub w16 (suc k) 1 ≡ k
  less-one k h = omega arith

  number-seen : (a : Activation) (number : ℤ) (k : ℕ) → seen_value choice own above a (word number) ≡ Ok (suc k) → suc k < 65536 → seen_value choice own above a (number_of number) ≡ Ok k
  number-seen a number k e h = op-so choice own above op.Sub (word number) (Number 1) a (suc k) 1 e refl ∙ ap (λ (v : ℕ). let r : Found ℕ = Ok v in r) (less-one k h)

  segment-is : (h k : ℕ) → h + k / 2 < 65536 → wrapping_add w16 h (k / 2) ≡ h + k / 2
  segment-is h k p = omega arith

  offset-is : (k : ℕ) → wrapping_mul w16 (k % 2) 8 ≡ 8 * (k % 2)
  offset-is k = omega arith

  pub pointer-so : (segment offset number : ℤ) (next : Code) (a b c : Activation) (k : ℕ) → suc k < 65536 → choice.heap_segment + k / 2 < 65536 → HoldsWord a.memory (16 * choice.data_segment + places.segment_at) choice.heap_segment →
      seen_value choice own above a (word number) ≡ Ok (suc k) → with_word_at choice own above a (Local segment) (choice.heap_segment + k / 2) ≡ Ok b →
      seen_value choice own above b (word number) ≡ Ok (suc k) → with_word_at choice own above b (Local offset) (8 * (k % 2)) ≡ Ok c →
      straight choice own above (set_pointer segment offset number next) a ≡ straight choice own above next c
  pointer-so segment offset number next a b c k small inside has e f g h =
      let heap = data-seen a 1 places.segment_at 0 (16 * choice.data_segment + places.segment_at) choice.heap_segment places.segment_is (let s = places.segment_in in omega arith) (omega arith) has in
      let half = op-so choice own above op.DivUnsigned (number_of number) (Number 2) a k 2 (number-seen a number k e small) refl in
      let first = op-so choice own above op.Add heap_segment (Op op.DivUnsigned (number_of number) (Number 2)) a choice.heap_segment (k / 2) heap half ∙ ap (λ (v : ℕ). let r : Found ℕ = Ok v in r) (segment-is choice.heap_segment k inside) in
      let rest = op-so choice own above op.ModUnsigned (number_of number) (Number 2) b k 2 (number-seen b number k g small) refl in
      let second = op-so choice own above op.Mul (Op op.ModUnsigned (number_of number) (Number 2)) (Number 8) b (k % 2) 8 rest refl ∙ ap (λ (v : ℕ). let r : Found ℕ = Ok v in r) (offset-is k) in
      set-so choice own above segment (Op op.Add heap_segment (Op op.DivUnsigned (number_of number) (Number 2))) (set_word offset (Op op.Mul (Op op.ModUnsigned (number_of number) (Number 2)) (Number 8)) next) a b (choice.heap_segment + k / 2) first f
      ∙ set-so choice own above offset (Op op.Mul (Op op.ModUnsigned (number_of number) (Number 2)) (Number 8)) next b c (8 * (k % 2)) second h

-- ---- where a routine keeps its words

-- an activation that holds a pointer, the size in eights, and two numbers of blocks
pub record Finding (choice : Choice) (own : Frame) (above size : ℕ) (at : ℕ → ℕ → ℕ → ℕ → ℕ → Cells → Activation) : Type 0 where
  pub memory : (s o n c p : ℕ) (m : Cells) → (at s o n c p m).memory ≡ m
  pub size_word : (s o n c p : ℕ) (m : Cells) → seen_value choice own above (at s o n c p m) (word (pos 6)) ≡ Ok size
  pub wanted_word : (s o n c p : ℕ) (m : Cells) → seen_value choice own above (at s o n c p m) (word wanted) ≡ Ok n
  pub current_word : (s o n c p : ℕ) (m : Cells) → seen_value choice own above (at s o n c p m) (word current) ≡ Ok c
  pub block : (s o n c p plus : ℕ) (m : Cells) → outer_place choice own above (at s o n c p m) (Through block_at plus) ≡ Ok (place_after (place s o) plus)
  pub with_segment : (s o n c p v : ℕ) (m : Cells) → with_word_at choice own above (at s o n c p m) (Local (negsuc 1)) v ≡ Ok (at v o n c p m)
  pub with_offset : (s o n c p v : ℕ) (m : Cells) → with_word_at choice own above (at s o n c p m) (Local block_at) v ≡ Ok (at s v n c p m)
  pub with_wanted : (s o n c p v : ℕ) (m : Cells) → with_word_at choice own above (at s o n c p m) (Local wanted) v ≡ Ok (at s o v c p m)
  pub with_current : (s o n c p v : ℕ) (m : Cells) → with_word_at choice own above (at s o n c p m) (Local current) v ≡ Ok (at s o n v p m)
  pub with_previous : (s o n c p v : ℕ) (m : Cells) → with_word_at choice own above (at s o n c p m) (Local previous) v ≡ Ok (at s o n c v m)

true-bit : (b : Bool) → b ≡ true → truth b ≡ 0 → ⊥
true-bit b e z = let h : 1 ≡ 0 = sym (ap truth e) ∙ z in absurd (omega (arith, h))

false-bit : (b : Bool) → b ≡ false → truth b ≡ 0
false-bit b e = ap truth e

-- blocks lie in memory
abbrev pub AreInside : Choice → List ℕ → Type 0
AreInside choice blocks = (b : ℕ) → IsAmong b blocks → (block_address choice b + 8 ≤ 1048576) × (suc b < 65536)

-- a pointer to the first block of lists, where there is one
abbrev pub PointsTo : Choice → List FreeList → ℕ → ℕ → Type 0
PointsTo choice [] s o = Unit {0}
PointsTo choice (l ∷ lists) s o = (s ≡ choice.heap_segment + l.first / 2) × (o ≡ 8 * (l.first % 2))

module _ (program : FlatProgram) (choice : Choice) (own : Frame) (sp above : ℕ) (is_placed : IsPlaced choice own sp above) (own_unit : own.unit ≡ overlay_unit) (places : HeapPlaces program choice)
    (size : ℕ) (at : ℕ → ℕ → ℕ → ℕ → ℕ → Cells → Activation) (finding : Finding choice own above size at) (m : Cells) (segment : HoldsWord m (16 * choice.data_segment + places.segment_at) choice.heap_segment) where
  in-memory : (s o n c p x v : ℕ) → HoldsWord m x v → HoldsWord (at s o n c p m).memory x v
  in-memory s o n c p x v has = subst (λ k. HoldsWord k x v) (sym (finding.memory s o n c p m)) has

  -- ---- the size in eights

  abbrev after_tests : Code
  after_tests = set_word current (Word first_at) End

  abbrev least_one : Code
  least_one = If (word wanted) End (set_word wanted (Number 1) End) after_tests

  module _ (first : ℕ) (first_is : HoldsWord m (16 * choice.data_segment + places.state_at + 2) first) where
    last-step : (n : ℕ) → straight choice own above after_tests (at 0 0 n 0 0 m) ≡ Ok (record { exit = Onward; there = at 0 0 n first 0 m })
    last-step n = set-so choice own above current (Word first_at) End (at 0 0 n 0 0 m) (at 0 0 n first 0 m) first
        (data-seen program choice own above own_unit places (at 0 0 n 0 0 m) 4 places.state_at 2 (16 * choice.data_segment + places.state_at + 2) first places.state_is (let s = places.state_in in omega arith) refl (in-memory 0 0 n 0 0 (16 * choice.data_segment + places.state_at + 2) first first_is))
        (finding.with_current 0 0 n 0 0 first m)

    some-eights : (n : ℕ) → straight choice own above least_one (at 0 0 (suc n) 0 0 m) ≡ Ok (record { exit = Onward; there = at 0 0 (suc n) first 0 m })
    some-eights n = taken-so choice own above least_one (at 0 0 (suc n) 0 0 m) (suc n) (record { exit = Onward; there = at 0 0 (suc n) first 0 m }) (finding.wanted_word 0 0 (suc n) 0 0 m) (λ z. omega (arith, z)) (last-step (suc n))

    no-eights : straight choice own above least_one (at 0 0 0 0 0 m) ≡ Ok (record { exit = Onward; there = at 0 0 1 first 0 m })
    no-eights = other-so choice own above least_one (at 0 0 0 0 0 m) 0 (record { exit = Onward; there = at 0 0 1 first 0 m }) (finding.wanted_word 0 0 0 0 0 m) refl
        (ap (λ (found : Found Came). found >>= λ c. continued c.exit c.there (straight choice own above after_tests))
        (set-so choice own above wanted (Number 1) End (at 0 0 0 0 0 m) (at 0 0 1 0 0 m) 1 refl (finding.with_wanted 0 0 0 0 0 1 m))
        ∙ last-step 1)

    by-eights : (w : ℕ) → straight choice own above least_one (at 0 0 w 0 0 m) ≡ Ok (record { exit = Onward; there = at 0 0 (max 1 w) first 0 m })
    by-eights zero = no-eights
    by-eights (suc n) = subst (λ k. straight choice own above least_one (at 0 0 (suc n) 0 0 m) ≡ Ok (record { exit = Onward; there = at 0 0 k first 0 m })) (greatest n) (some-eights n)
      where
        greatest : (n : ℕ) → suc n ≡ max 1 (suc n)
        greatest n = omega arith

    rounds-up : size < 65536 → straight choice own above rounding (at 0 0 (size / 8) 0 0 m) ≡ Ok (record { exit = Onward; there = at 0 0 (eights size) first 0 m })
    rounds-up small = by (size % 8) refl
      where
        seen : seen_value choice own above (at 0 0 (size / 8) 0 0 m) (Op op.ModUnsigned (word (pos 6)) (Number 8)) ≡ Ok (size % 8)
        seen = op-so choice own above op.ModUnsigned (word (pos 6)) (Number 8) (at 0 0 (size / 8) 0 0 m) size 8 (finding.size_word 0 0 (size / 8) 0 0 m) refl

        came : Came
        came = record { exit = Onward; there = at 0 0 (eights size) first 0 m }

        by : (r : ℕ) → size % 8 ≡ r → straight choice own above rounding (at 0 0 (size / 8) 0 0 m) ≡ Ok came
        by zero e =
            let whole : max 1 (size / 8) ≡ eights size = omega (arith, e) in
            other-so choice own above rounding (at 0 0 (size / 8) 0 0 m) (size % 8) came seen e
            (subst (λ k. straight choice own above least_one (at 0 0 (size / 8) 0 0 m) ≡ Ok (record { exit = Onward; there = at 0 0 k first 0 m })) whole (by-eights (size / 8)))
        by (suc r) e =
            let up = wrapping_add w16 (size / 8) 1 in
            let whole : max 1 up ≡ eights size = omega (arith, e, small) in
            taken-so choice own above rounding (at 0 0 (size / 8) 0 0 m) (size % 8) came seen (λ z. omega (arith, z, e))
            (ap (λ (found : Found Came). found >>= λ c. continued c.exit c.there (straight choice own above least_one))
            (raise-so choice own above wanted (Number 1) End (at 0 0 (size / 8) 0 0 m) (at 0 0 up 0 0 m) (size / 8) 1 (finding.wanted_word 0 0 (size / 8) 0 0 m) refl (finding.with_wanted 0 0 (size / 8) 0 0 up m))
            ∙ subst (λ k. straight choice own above least_one (at 0 0 up 0 0 m) ≡ Ok (record { exit = Onward; there = at 0 0 k first 0 m })) whole (by-eights up))

  -- ---- one list

  module _ (n : ℕ) where
    abbrev loop : Code
    loop = Loop find_round End

    -- the pointer to the first block of the list, and then the test of its size
    to-block : (s o p k : ℕ) → suc k < 65536 → choice.heap_segment + k / 2 < 65536 → straight choice own above find_step (at s o n (suc k) p m) ≡ straight choice own above (next_of (next_of find_step)) (at (choice.heap_segment + k / 2) (8 * (k % 2)) n (suc k) p m)
    to-block s o p k small inside =
        let b = at (choice.heap_segment + k / 2) o n (suc k) p m in
        pointer-so program choice own above own_unit places (negsuc 1) block_at current (next_of (next_of find_step)) (at s o n (suc k) p m) b (at (choice.heap_segment + k / 2) (8 * (k % 2)) n (suc k) p m) k small inside
        (in-memory s o n (suc k) p (16 * choice.data_segment + places.segment_at) choice.heap_segment segment)
        (finding.current_word s o n (suc k) p m) (finding.with_segment s o n (suc k) p (choice.heap_segment + k / 2) m)
        (finding.current_word (choice.heap_segment + k / 2) o n (suc k) p m) (finding.with_offset (choice.heap_segment + k / 2) o n (suc k) p (8 * (k % 2)) m)

    module _ (l : FreeList) (inside : block_address choice l.first + 8 ≤ 1048576) (small : suc l.first < 65536) (segment_small : choice.heap_segment + l.first / 2 < 65536) where
      abbrev there : ℕ → Activation
      there p = at (choice.heap_segment + l.first / 2) (8 * (l.first % 2)) n (suc l.first) p m

      read : (p plus v : ℕ) → plus + 2 ≤ 8 → HoldsWord m (block_address choice l.first + plus) v → seen_value choice own above (there p) (word_behind block_at plus) ≡ Ok v
      read p plus v short has = behind-seen program choice own above own_unit places (there p) block_at l.first plus (block_address choice l.first + plus) v (finding.block (choice.heap_segment + l.first / 2) (8 * (l.first % 2)) n (suc l.first) p plus m) short inside refl
          (in-memory (choice.heap_segment + l.first / 2) (8 * (l.first % 2)) n (suc l.first) p (block_address choice l.first + plus) v has)

      size-seen : (p : ℕ) → HoldsWord m (block_address choice l.first + 6) l.size → seen_value choice own above (there p) (Op op.Equal (word_behind block_at 6) (word wanted)) ≡ Ok (truth (l.size == n))
      size-seen p has = op-so choice own above op.Equal (word_behind block_at 6) (word wanted) (there p) l.size n (read p 6 l.size (omega arith) has) (finding.wanted_word (choice.heap_segment + l.first / 2) (8 * (l.first % 2)) n (suc l.first) p m)

      stops : (s o p : ℕ) → HoldsWord m (block_address choice l.first + 6) l.size → (l.size == n) ≡ true → Does program choice own sp find_round 0 38 (at s o n (suc l.first) p m) (Leaving 0) (there p)
      stops s o p has is =
          let came : Came = record { exit = Leaving 0; there = there p } in
          weaker-does program choice own sp find_round 0 (code_size find_round) 0 38 (at s o n (suc l.first) p m) (Leaving 0) (there p) (omega arith) (omega arith)
          (straight-does program choice own sp above is_placed find_round (at s o n (suc l.first) p m) (Leaving 0) (there p)
          (taken-so choice own above find_round (at s o n (suc l.first) p m) (suc l.first) came (finding.current_word s o n (suc l.first) p m) (λ z. omega (arith, z))
          (ap (λ (found : Found Came). found >>= λ c. continued c.exit c.there (straight choice own above End))
          (to-block s o p l.first small segment_small ∙ taken-so choice own above (next_of (next_of find_step)) (there p) (truth (l.size == n)) came (size-seen p has) (true-bit (l.size == n) is) refl))))

      passes : (s o p next : ℕ) → HoldsWord m (block_address choice l.first + 6) l.size → HoldsWord m (block_address choice l.first + 4) next → (l.size == n) ≡ false →
          Does program choice own sp find_round 0 38 (at s o n (suc l.first) p m) Onward (at (choice.heap_segment + l.first / 2) (8 * (l.first % 2)) n next (suc l.first) m)
      passes s o p next has more is =
          let h = choice.heap_segment + l.first / 2 in
          let g = 8 * (l.first % 2) in
          let b = at h g n next (suc l.first) m in
          let came : Came = record { exit = Onward; there = b } in
          let rest = other_of (next_of (next_of find_step)) in
          weaker-does program choice own sp find_round 0 (code_size find_round) 0 38 (at s o n (suc l.first) p m) Onward b (omega arith) (omega arith)
          (straight-does program choice own sp above is_placed find_round (at s o n (suc l.first) p m) Onward b
          (taken-so choice own above find_round (at s o n (suc l.first) p m) (suc l.first) came (finding.current_word s o n (suc l.first) p m) (λ z. omega (arith, z))
          (ap (λ (found : Found Came). found >>= λ c. continued c.exit c.there (straight choice own above End))
          (to-block s o p l.first small segment_small
          ∙ other-so choice own above (next_of (next_of find_step)) (there p) (truth (l.size == n)) came (size-seen p has) (false-bit (l.size == n) is)
          (ap (λ (found : Found Came). found >>= λ c. continued c.exit c.there (straight choice own above End))
          (set-so choice own above previous (word current) (next_of rest) (there p) (there (suc l.first)) (suc l.first) (finding.current_word h g n (suc l.first) p m) (finding.with_previous h g n (suc l.first) p (suc l.first) m)
          ∙ set-so choice own above current (word_behind block_at 4) End (there (suc l.first)) b next (read (suc l.first) 4 next (omega arith) more) (finding.with_current h g n (suc l.first) (suc l.first) next m)))))))

    none-left : (s o p : ℕ) → Does program choice own sp find_round 0 38 (at s o n 0 p m) (Leaving 0) (at s o n 0 p m)
    none-left s o p = weaker-does program choice own sp find_round 0 (code_size find_round) 0 38 (at s o n 0 p m) (Leaving 0) (at s o n 0 p m) (omega arith) (omega arith)
        (straight-does program choice own sp above is_placed find_round (at s o n 0 p m) (Leaving 0) (at s o n 0 p m)
        (other-so choice own above find_round (at s o n 0 p m) 0 (record { exit = Leaving 0; there = at s o n 0 p m }) (finding.current_word s o n 0 p m) refl refl))

    -- ---- all lists

    record Searched (s o p : ℕ) (lists : List FreeList) : Type 0 where
      s' : ℕ
      o' : ℕ
      points : PointsTo choice (from_found n lists) s' o'
      does : Does program choice own sp loop (1 + length lists) (40 * (1 + length lists)) (at s o n (head_of lists) p m) Onward (at s' o' n (head_of (from_found n lists)) (before_found n p lists) m)

    searches : (s o p x : ℕ) (lists : List FreeList) → HasLists choice m x lists → AreInside choice (free_blocks lists) → Searched s o p lists
    searches s o p x [] has inside = record {
      s' = s;
      o' = o;
      points = tt;
      does = leave-does program choice own sp find_round 0 38 (at s o n 0 p m) (Leaving 0) Onward (at s o n 0 p m) refl (none-left s o p);
    }
    searches s o p x (l ∷ lists) has inside =
        let h = choice.heap_segment + l.first / 2 in
        let g = 8 * (l.first % 2) in
        let mine = inside l.first (inl refl) in
        let segment_small : h < 65536 = omega (arith, mine) in
        let rest = searches h g (suc l.first) (block_address choice l.first + 4) lists has.3 (λ b among. inside b (inr (among-right b l.others (free_blocks lists) among))) in
        by (l.size == n) refl segment_small rest
      where
        by : (v : Bool) → (l.size == n) ≡ v → choice.heap_segment + l.first / 2 < 65536 → Searched (choice.heap_segment + l.first / 2) (8 * (l.first % 2)) (suc l.first) lists → Searched s o p (l ∷ lists)
        by true is segment_small rest = record {
          s' = choice.heap_segment + l.first / 2;
          o' = 8 * (l.first % 2);
          points = subst (λ (v : Bool). PointsTo choice (cond v (l ∷ lists) (from_found n lists)) (choice.heap_segment + l.first / 2) (8 * (l.first % 2))) (sym is) (refl, refl);
          does = subst (λ (v : Bool). Does program choice own sp loop (1 + suc (length lists)) (40 * (1 + suc (length lists))) (at s o n (suc l.first) p m) Onward (at (choice.heap_segment + l.first / 2) (8 * (l.first % 2)) n (head_of (cond v (l ∷ lists) (from_found n lists))) (cond v p (before_found n (suc l.first) lists)) m)) (sym is)
              (weaker-does program choice own sp loop (1 + 0) (2 + 38) (1 + suc (length lists)) (40 * (1 + suc (length lists))) (at s o n (suc l.first) p m) Onward (there l (inside l.first (inl refl)).0 (inside l.first (inl refl)).1 segment_small p) (omega arith) (omega arith)
              (leave-does program choice own sp find_round 0 38 (at s o n (suc l.first) p m) (Leaving 0) Onward (there l (inside l.first (inl refl)).0 (inside l.first (inl refl)).1 segment_small p) refl (stops l (inside l.first (inl refl)).0 (inside l.first (inl refl)).1 segment_small s o p has.2 is)));
        }
        by false is segment_small rest = record {
          s' = rest.s';
          o' = rest.o';
          points = subst (λ (v : Bool). PointsTo choice (cond v (l ∷ lists) (from_found n lists)) rest.s' rest.o') (sym is) rest.points;
          does = subst (λ (v : Bool). Does program choice own sp loop (1 + suc (length lists)) (40 * (1 + suc (length lists))) (at s o n (suc l.first) p m) Onward (at rest.s' rest.o' n (head_of (cond v (l ∷ lists) (from_found n lists))) (cond v p (before_found n (suc l.first) lists)) m)) (sym is)
              (weaker-does program choice own sp loop (1 + 0 + (1 + length lists)) (2 + 38 + 40 * (1 + length lists)) (1 + suc (length lists)) (40 * (1 + suc (length lists))) (at s o n (suc l.first) p m) Onward (at rest.s' rest.o' n (head_of (from_found n lists)) (before_found n (suc l.first) lists) m) (omega arith) (omega arith)
              (round-does program choice own sp find_round 0 38 (1 + length lists) (40 * (1 + length lists)) (at s o n (suc l.first) p m) (at (choice.heap_segment + l.first / 2) (8 * (l.first % 2)) n (head_of lists) (suc l.first) m) Onward (at rest.s' rest.o' n (head_of (from_found n lists)) (before_found n (suc l.first) lists) m)
              (passes l (inside l.first (inl refl)).0 (inside l.first (inl refl)).1 segment_small s o p (head_of lists) has.2 (head-word choice m (block_address choice l.first + 4) lists has.3) is) rest.does));
        }

  -- ---- from the first statement on

  pub record FoundList (start : Activation) (lists : List FreeList) : Type 0 where
    pub s' : ℕ
    pub o' : ℕ
    pub points : PointsTo choice (from_found (eights size) lists) s' o'
    pub does : Does program choice own sp find_list (1 + length lists) (84 + 40 * length lists) start Onward (at s' o' (eights size) (head_of (from_found (eights size) lists)) (before_found (eights size) 0 lists) m)

  pub finds : (start : Activation) (lists : List FreeList) → size < 65536 → straight choice own above find_start start ≡ Ok (record { exit = Onward; there = at 0 0 (size / 8) 0 0 m }) → HasLists choice m (16 * choice.data_segment + places.state_at + 2) lists → AreInside choice (free_blocks lists) → FoundList start lists
  finds start lists small begins has inside =
      let first = head-word choice m (16 * choice.data_segment + places.state_at + 2) lists has in
      let rest = searches (eights size) 0 0 0 (16 * choice.data_segment + places.state_at + 2) lists has inside in
      let end = at rest.s' rest.o' (eights size) (head_of (from_found (eights size) lists)) (before_found (eights size) 0 lists) m in
      let middle = at 0 0 (eights size) (head_of lists) 0 m in
      let second = straight-does program choice own sp above is_placed rounding (at 0 0 (size / 8) 0 0 m) Onward middle (rounds-up (head_of lists) first small) in
      let first_part = straight-does program choice own sp above is_placed find_start start Onward (at 0 0 (size / 8) 0 0 m) begins in
      record {
        s' = rest.s';
        o' = rest.o';
        points = rest.points;
        does = weaker-does program choice own sp find_list (0 + (0 + (1 + length lists))) (code_size find_start + (code_size rounding + 40 * (1 + length lists))) (1 + length lists) (84 + 40 * length lists) start Onward end (omega arith) (omega arith)
            (then-does program choice own sp find_start (rounding then Loop find_round End) 0 (code_size find_start) (0 + (1 + length lists)) (code_size rounding + 40 * (1 + length lists)) start (at 0 0 (size / 8) 0 0 m) Onward end first_part
            (then-does program choice own sp rounding (Loop find_round End) 0 (code_size rounding) (1 + length lists) (40 * (1 + length lists)) (at 0 0 (size / 8) 0 0 m) middle Onward end second rest.does));
      }
