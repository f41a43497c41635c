-- The routine that puts a part into a string.
use Rattle.std.proofs.Common.{◌≡◌, ℕ, zero, suc, ◌+◌, ◌-◌, ◌*◌, ◌≤◌, ◌<◌, ◌⊎◌, inl, inr, List, [], ◌∷◌, ◌++◌, length, take, drop, Ok, ℤ, pos, negsuc, refl, sym, ap, subst, ◌∙◌, arith, length-append, append_assoc}
use Rattle.std.specs.Prelude.{min}
use Rattle.std.proofs.lemmas.Bool.{cases_lt}
use Rattle.std.proofs.lemmas.List.{length-take, length-drop, take_min, drop_min, take-take, take_all, take-append-le}
use Rattle.std.proofs.Math.Seq.{take-append-add}
use Rattle.common_values.specs.integers.Words.{w16, wrapping_add, wrapping_sub, low_byte}
use Rattle.common_values.specs.Strings.{bytes_before, inserted}
use Rattle.flat_code.specs.declared.tree.Address.TheVariants.{Through}
use Rattle.flat_code.specs.declared.tree.FlatOp.TheVariants as op
use Rattle.flat_code.specs.declared.memory.Cell.TheVariants.{Known, Outside}
use Rattle.flat_code.specs.Tree.{Op, Code, End, Loop, ◌then◌}
use Rattle.flat_code.specs.Memory.{Cells, Found, address_of, place_after, put, laid}
use Rattle.flat_code.specs.Program.{FlatProgram, Choice, UnitCode, runtime_key}
use Rattle.flat_code.specs.Meaning.{Frame, State, activation_bytes, frame_of}
use Rattle.flat_code.specs.Legal.{StackFits}
use Rattle.flat_code.specs.Gives.{KeepsRest, AreWords, HasStack}
use Rattle.flat_code.proofs.Shut.{put_other}
use Rattle.runtime_proofs.specs.routine_proofs.Activation.{Slot, Shut, Free, Holds, Activation, IsPlaced}
use Rattle.runtime_proofs.specs.routine_proofs.Straight.{Exit, Onward, Came, straight, code_size}
use Rattle.runtime_proofs.specs.routine_proofs.Comes.{Does}
use Rattle.runtime_proofs.specs.routine_proofs.Entry.{entered, memory_without}
use Rattle.runtime_proofs.specs.routine_proofs.Specifications.{IsHeld}
use Rattle.runtime_proofs.proofs.routine_proofs.Replies.{next_of}
use Rattle.runtime_proofs.proofs.routine_proofs.Doing.{weaker-does, then-does, straight-does}
use Rattle.runtime_proofs.proofs.routine_proofs.Calls.{call-ends, placed, starts}
use Rattle.runtime_proofs.specs.strings_in_memory.Strings.{HasBytes, HasString, IsReached, IsIn, CanMove, place}
use Rattle.runtime_proofs.proofs.strings_in_memory.Cells.{put-same, byte-read, store-so, plus-none, apart-in, bytes-kept, bytes-front, bytes-small, laid-other, laid-has}
use Rattle.runtime_proofs.specs.string_loops.Pieces.{word, behind, forward_round, backward_round}
use Rattle.runtime_proofs.specs.string_loops.Laid.{laid_back}
use Rattle.runtime_proofs.specs.string_loops.Counts.{long_value}
use Rattle.runtime_proofs.proofs.string_loops.Seen.{set-so, lessen-so}
use Rattle.runtime_proofs.proofs.string_loops.Counts.{Varying, limit-so, place_before-so}
use Rattle.runtime_proofs.proofs.string_loops.ForwardLoop.{Moving, forward-does}
use Rattle.runtime_proofs.proofs.string_loops.BackwardLoop.{reached-still, laid_back-other, laid_back-reached, laid_back-has, backward-does}
use Rattle.runtime_proofs.proofs.string_loops.Bytes.{address-shift, bytes-append, bytes-shift, bytes-unshift, bytes-behind}
use Rattle.runtime_proofs.proofs.string_loops.Entry.{string-inside, reached-inside, string-left}
use Rattle.rt_strings.specs.string_joins.Routines.{insert_place, insert_lengths, insert_whole, insert_ends, insert_behind, insert_count, insert_part, insert_routine}
use Rattle.rt_strings.specs.string_joins.Specifications.{insert_number, CanInsert, Inserts}

-- ---- what an insertion keeps: a prefix of the text, a prefix of the part, and a piece of what stands behind the place

-- the front of two lists
front-both : (k : ℕ) (a b : List ℕ) → take k (a ++ b) ≡ take (min (length a) k) a ++ take (k - length a) b
front-both k a b = elim (cases_lt k (length a)) [ inl h ↦ some h | inr h ↦ all h ]
  where
    all : length a ≤ k → take k (a ++ b) ≡ take (min (length a) k) a ++ take (k - length a) b
    all h =
        let whole : k ≡ length a + (k - length a) = omega (arith, h) in
        let least : min (length a) k ≡ length a = omega (arith, h) in
        ap (λ n. take n (a ++ b)) whole ∙ take-append-add a b (k - length a)
        ∙ ap (λ (l : List ℕ). l ++ take (k - length a) b) (sym (take_all (length a) a (omega arith)) ∙ ap (λ n. take n a) (sym least))

    some : k < length a → take k (a ++ b) ≡ take (min (length a) k) a ++ take (k - length a) b
    some h =
        let least : min (length a) k ≡ k = omega (arith, h) in
        let none : k - length a ≡ 0 = omega (arith, h) in
        take-append-le k a b (omega (arith, h)) ∙ ap (λ n. take n a) (sym least)
        ∙ sym (ap (λ n. take (min (length a) k) a ++ take n b) none ∙ nothing (take (min (length a) k) a) b)
      where
        nothing : (l b : List ℕ) → l ++ take 0 b ≡ l
        nothing [] b = none-of b
          where
            none-of : (b : List ℕ) → take 0 b ≡ []
            none-of [] = refl
            none-of (x ∷ b) = refl
        nothing (x ∷ l) b = ap (λ (r : List ℕ). x ∷ r) (nothing l b)

module _ (t text : List ℕ) (size q : ℕ) (small : size < 256) (fits : length text ≤ size) where
  abbrev before : ℕ
  before = min q (length text)

  abbrev taken : ℕ
  taken = min (length t) (size - before)

  abbrev rest : ℕ
  rest = min (length text - before) (size - before - taken)

  abbrev A : List ℕ
  A = take before text

  abbrev B : List ℕ
  B = take taken t

  abbrev C : List ℕ
  C = take rest (drop before text)

  a-size : length A ≡ before
  a-size = let h = length-take before text in omega (arith, h)

  b-size : length B ≡ taken
  b-size = let h = length-take taken t in omega (arith, h)

  c-size : length C ≡ rest
  c-size = let h = length-take rest (drop before text) in let g = length-drop before text in omega (arith, h, g)

  pieces : take size (take 255 ((take q text ++ t) ++ drop q text)) ≡ A ++ (B ++ C)
  pieces =
      let d = drop before text in
      let all = length text in
      let whole : size ≡ length A + (size - before) = let h = a-size in omega (arith, h, fits) in
      let behind = length-drop before text in
      let same : min rest (length d) ≡ min (size - before - length t) (length d) = omega (arith, behind) in
      take-take size 255 _ (omega (arith, small))
      ∙ ap (take size) (append_assoc (take q text) t (drop q text))
      ∙ ap (λ (l : List ℕ). take size (l ++ (t ++ drop q text))) (sym (take_min q text))
      ∙ ap (λ (l : List ℕ). take size (A ++ (t ++ l))) (sym (drop_min q text))
      ∙ ap (λ n. take n (A ++ (t ++ d))) whole
      ∙ take-append-add A (t ++ d) (size - before)
      ∙ ap (λ (l : List ℕ). A ++ l) (front-both (size - before) t d)
      ∙ ap (λ (l : List ℕ). A ++ (B ++ l)) (sym (take_min (size - before - length t) d) ∙ ap (λ n. take n d) (sym same) ∙ take_min rest d)

module _ (program : FlatProgram) (choice : Choice) (own : Frame) (sp : ℕ) (is_placed : IsPlaced choice own sp 20) (e : Activation) (ps ts low high size : ℕ) where
  -- in the routine: the two offsets, length, place, count and rest, a pointer, room, and memory
  abbrev at : Slot → Slot → Slot → Slot → Slot → Slot → Slot → ℕ → ℕ → Cells → Activation
  at len before taken rest segment offset room part to m =
      record e { words = Holds ps ∷ Holds part ∷ Holds ts ∷ Holds to ∷ Holds low ∷ Holds high ∷ Holds size ∷ Shut ∷ Shut ∷ Shut ∷ len ∷ before ∷ taken ∷ rest ∷ segment ∷ offset ∷ room ∷ []; memory = m }

  abbrev Goes : Code → Activation → Exit → Activation → Type 0
  Goes code a exit b = Does program choice own sp code 0 (code_size code) a exit b

  place-does : (part to len : ℕ) (m : Cells) → low < 65536 → high < 65536 → len < 256 → m (address_of (place ts to) 0) ≡ Known len →
      Goes insert_place (at Free Free Free Free Free Free Free part to m) Onward (at (Holds len) (Holds (min (bytes_before (long_value low high)) len)) Free Free Free Free Free part to m)
  place-does part to len m p q short has =
      let c1 = next_of insert_place in
      let s0 = at Free Free Free Free Free Free Free part to m in
      let s1 = at (Holds len) Free Free Free Free Free Free part to m in
      let st = λ (v : ℕ). at (Holds len) (Holds v) Free Free Free Free Free part to m in
      straight-does program choice own sp 20 is_placed insert_place s0 Onward (st (min (bytes_before (long_value low high)) len))
      (set-so choice own 20 (negsuc 1) (behind (pos 12) 0) c1 s0 s1 len (byte-read m (place_after (place ts to) 0) 0 len (ap m (plus-none ts to 0) ∙ has) short) refl
      ∙ place_before-so choice own 20 (negsuc 3) st (record { word_is = λ v. refl; with_word = λ v w. refl }) (pos 10) (pos 8) (negsuc 1) End s1 len low high short p q refl (λ v. refl) (λ v. refl) (λ v. refl))

  lengths-does : (part to len b n : ℕ) (m : Cells) → size < 256 → len ≤ size → b ≤ len → n < 256 → m (address_of (place ps part) 0) ≡ Known n →
      (let taken = min n (size - b) in let rest = min (len - b) (size - b - taken) in
      Goes insert_lengths (at (Holds len) (Holds b) Free Free Free Free Free part to m) Onward (at (Holds len) (Holds b) (Holds taken) (Holds rest) Free Free (Holds (size - b - taken)) part to m))
  lengths-does part to len b n m small fits inside short has =
      let room = wrapping_sub w16 size b in
      let taken = min n room in
      let more = wrapping_sub w16 room taken in
      let behind_it = wrapping_sub w16 len b in
      let c1 = next_of insert_lengths in
      let c2 = next_of c1 in
      let c3 = next_of c2 in
      let c4 = next_of c3 in
      let c5 = next_of c4 in
      let s0 = at (Holds len) (Holds b) Free Free Free Free Free part to m in
      let s1 = at (Holds len) (Holds b) Free Free Free Free (Holds room) part to m in
      let s2 = at (Holds len) (Holds b) (Holds n) Free Free Free (Holds room) part to m in
      let s3 = at (Holds len) (Holds b) (Holds taken) Free Free Free (Holds room) part to m in
      let s4 = at (Holds len) (Holds b) (Holds taken) Free Free Free (Holds more) part to m in
      let s5 = at (Holds len) (Holds b) (Holds taken) (Holds behind_it) Free Free (Holds more) part to m in
      let there = λ (x y z : ℕ). let r : Found Came = Ok (record { exit = Onward; there = at (Holds len) (Holds b) (Holds x) (Holds y) Free Free (Holds z) part to m }) in r in
      let e1 : room ≡ size - b = omega (arith, small, fits, inside) in
      let e2 : taken ≡ min n (size - b) = ap (min n) e1 in
      let e3 : more ≡ size - b - min n (size - b) = omega (arith, e1, small, fits, inside) in
      let e4 : behind_it ≡ len - b = omega (arith, small, fits, inside) in
      straight-does program choice own sp 20 is_placed insert_lengths s0 Onward _
      (set-so choice own 20 (negsuc 13) (Op op.Sub (word (pos 6)) (word (negsuc 3))) c1 s0 s1 room refl refl
      ∙ set-so choice own 20 (negsuc 5) (behind (pos 16) 0) c2 s1 s2 n (byte-read m (place_after (place ps part) 0) 0 n (ap m (plus-none ps part 0) ∙ has) short) refl
      ∙ limit-so choice own 20 (negsuc 5) (λ v. at (Holds len) (Holds b) (Holds v) Free Free Free (Holds room) part to m) (record { word_is = λ v. refl; with_word = λ v w. refl }) (negsuc 13) c3 n room (λ v. refl)
      ∙ lessen-so choice own 20 (negsuc 13) (word (negsuc 5)) c4 s3 s4 room taken refl refl refl
      ∙ set-so choice own 20 (negsuc 7) (Op op.Sub (word (negsuc 1)) (word (negsuc 3))) c5 s4 s5 behind_it refl refl
      ∙ limit-so choice own 20 (negsuc 7) (λ v. at (Holds len) (Holds b) (Holds taken) (Holds v) Free Free (Holds more) part to m) (record { word_is = λ v. refl; with_word = λ v w. refl }) (negsuc 13) End behind_it more (λ v. refl)
      ∙ ap (λ x. there x (min behind_it more) more) e2
      ∙ ap (λ y. there (min n (size - b)) (min y more) more) e4
      ∙ ap (λ z. there (min n (size - b)) (min (len - b) z) z) e3)

  whole-does : (part to len b n r room : ℕ) (m : Cells) → b + n + r < 256 → (m (address_of (place ts to) 0) ≡ Outside → ⊥) →
      Goes insert_whole (at (Holds len) (Holds b) (Holds n) (Holds r) Free Free (Holds room) part to m) Onward (at (Holds len) (Holds b) (Holds n) (Holds r) Free Free (Holds room) part to (put m (address_of (place ts to) 0) (Known (b + n + r))))
  whole-does part to len b n r room m short reached =
      let s0 = at (Holds len) (Holds b) (Holds n) (Holds r) Free Free (Holds room) part to m in
      let sum = wrapping_add w16 (wrapping_add w16 b n) r in
      let same = plus-none ts to 0 in
      let there = λ (x v : ℕ). let r : Found Came = Ok (record { exit = Onward; there = at (Holds len) (Holds b) (Holds n) (Holds r) Free Free (Holds room) part to (put m x (Known v)) }) in r in
      let exact : low_byte sum ≡ b + n + r = omega (arith, short) in
      straight-does program choice own sp 20 is_placed insert_whole s0 Onward _
      (store-so choice own 20 (Through (pos 12) 0) (Op op.Add (Op op.Add (word (negsuc 3)) (word (negsuc 5))) (word (negsuc 7))) End s0 (place_after (place ts to) 0) sum refl refl (λ out. reached (ap m (sym same) ∙ out))
      ∙ ap (λ x. there x (low_byte sum)) same
      ∙ ap (λ v. there (address_of (place ts to) 0) v) exact)

  ends-does : (part to len b n r room : ℕ) (m : Cells) →
      (let base = wrapping_add w16 to b in
      Goes insert_ends (at (Holds len) (Holds b) (Holds n) (Holds r) Free Free (Holds room) part to m) Onward (at (Holds len) (Holds b) (Holds n) (Holds r) (Holds ts) (Holds (wrapping_add w16 (wrapping_add w16 base n) r)) (Holds room) part (wrapping_add w16 base r) m))
  ends-does part to len b n r room m = straight-does program choice own sp 20 is_placed insert_ends (at (Holds len) (Holds b) (Holds n) (Holds r) Free Free (Holds room) part to m) Onward _ refl

  count-does : (len b n r segment offset room part to : ℕ) (m : Cells) →
      Goes insert_count (at (Holds len) (Holds b) (Holds n) (Holds r) (Holds segment) (Holds offset) (Holds room) part to m) Onward (at (Holds len) (Holds b) (Holds n) (Holds n) (Holds segment) (Holds offset) (Holds room) part to m)
  count-does len b n r segment offset room part to m = straight-does program choice own sp 20 is_placed insert_count (at (Holds len) (Holds b) (Holds n) (Holds r) (Holds segment) (Holds offset) (Holds room) part to m) Onward _ refl

  moving-back : (len b n room part : ℕ) → Moving choice own 20 (negsuc 11) (pos 12) (negsuc 7) ts ts (λ t f left m. at (Holds len) (Holds b) (Holds n) (Holds left) (Holds ts) (Holds t) (Holds room) part f m)
  moving-back len b n room part = record {
    target = λ t f k m plus. refl;
    source = λ t f k m plus. refl;
    memory = λ t f k m. refl;
    to_word = λ t f k m. refl;
    from_word = λ t f k m. refl;
    left_word = λ t f k m. refl;
    with_to = λ t f k m v. refl;
    with_from = λ t f k m v. refl;
    with_left = λ t f k m v. refl;
    with_memory = λ t f k m c. refl;
  }

  moving-on : (len b n offset room : ℕ) → Moving choice own 20 (pos 12) (pos 16) (negsuc 7) ts ps (λ t f left m. at (Holds len) (Holds b) (Holds n) (Holds left) (Holds ts) (Holds offset) (Holds room) f t m)
  moving-on len b n offset room = record {
    target = λ t f k m plus. refl;
    source = λ t f k m plus. refl;
    memory = λ t f k m. refl;
    to_word = λ t f k m. refl;
    from_word = λ t f k m. refl;
    left_word = λ t f k m. refl;
    with_to = λ t f k m v. refl;
    with_from = λ t f k m v. refl;
    with_left = λ t f k m v. refl;
    with_memory = λ t f k m c. refl;
  }

  module _ (part to : ℕ) (m : Cells) (t text : List ℕ) (low_word : low < 65536) (high_word : high < 65536) (small : size < 256) (fits : length text ≤ size) (has : HasString m (place ps part) t) (also : HasString m (place ts to) text) (reached : IsReached m (place ts to) (1 + size))
      (apart : (i j : ℕ) → i < 1 + length t → j < 1 + size → address_of (place ps part) i ≡ address_of (place ts to) j → ⊥) where
    abbrev q : ℕ
    q = bytes_before (long_value low high)

    abbrev b : ℕ
    b = before t text size q small fits

    abbrev front : List ℕ
    front = A t text size q small fits

    abbrev put_in : List ℕ
    put_in = B t text size q small fits

    abbrev tail : List ℕ
    tail = C t text size q small fits

    abbrev total : ℕ
    total = b + length put_in + length tail

    abbrev base : ℕ
    base = wrapping_add w16 to b

    abbrev last : ℕ
    last = wrapping_add w16 base (length put_in)

    -- memory once the length is stored, once what stands behind the place is moved, and in the end
    abbrev m1 : Cells
    m1 = put m (address_of (place ts to) 0) (Known total)

    abbrev m2 : Cells
    m2 = laid_back m1 (place ts last) 1 tail

    abbrev m3 : Cells
    m3 = laid m2 (place ts base) 1 put_in

    -- the sizes of the pieces
    record Sizes : Type 0 where
      whole : total ≤ size
      inside : b ≤ length text
      part_size : length put_in ≤ length t
      tail_size : b + length tail ≤ length text
      front_is : length front ≡ b

    sizes : Sizes
    sizes =
        let x = a-size t text size q small fits in
        let y = b-size t text size q small fits in
        let z = c-size t text size q small fits in
        record { whole = omega (arith, y, z, fits); inside = omega arith; part_size = omega (arith, y); tail_size = omega (arith, z); front_is = x }

    base-address : (i : ℕ) → address_of (place ts base) i ≡ address_of (place ts to) (b + i)
    base-address i = address-shift ts to b i

    last-address : (i : ℕ) → address_of (place ts last) i ≡ address_of (place ts to) (b + (length put_in + i))
    last-address i = address-shift ts base (length put_in) i ∙ base-address (length put_in + i)

    tail-stands : HasBytes m1 (place ts base) 1 tail
    tail-stands =
        let h = sizes in
        let w = h.whole in
        let z = h.tail_size in
        let short = also.short in
        bytes-kept m m1 (place ts base) 1 tail (λ k g. put_other m (address_of (place ts to) 0) (Known total) (address_of (place ts base) (1 + k)) (λ e. apart-in ts to 0 (b + (1 + k)) (omega arith) (omega (arith, g, z, short)) (sym e ∙ base-address (1 + k))))
        (bytes-unshift m ts to b 1 (1 + b) tail (omega arith) (bytes-front m (place ts to) (1 + b) (rest t text size q small fits) (drop b text) (bytes-behind m (place ts to) 1 b text also.bytes)))

    part-stands : HasBytes m2 (place ps part) 1 put_in
    part-stands =
        let h = sizes in
        let w = h.whole in
        let y = h.part_size in
        let short = has.short in
        bytes-kept m m2 (place ps part) 1 put_in (λ k g.
        laid_back-other m1 (place ts last) 1 tail (address_of (place ps part) (1 + k)) (λ j l e. apart (1 + k) (b + (length put_in + (1 + j))) (omega (arith, g, y, short)) (omega (arith, l, w, small)) (e ∙ last-address (1 + j)))
        ∙ put_other m (address_of (place ts to) 0) (Known total) (address_of (place ps part) (1 + k)) (λ e. apart (1 + k) 0 (omega (arith, g, y, short)) (omega arith) e))
        (bytes-front m (place ps part) 1 (taken t text size q small fits) t has.bytes)

    reached-first : IsReached m1 (place ts to) (1 + size)
    reached-first i h = reached-still m (address_of (place ts to) 0) total (address_of (place ts to) i) (reached i h)

    reached-then : IsReached m2 (place ts to) (1 + size)
    reached-then i h = laid_back-reached m1 (place ts last) 1 tail (address_of (place ts to) i) (reached-first i h)

    -- from the first statement to the last
    abbrev end_of : ℕ → ℕ → Activation
    end_of to' part' = at (Holds (length text)) (Holds b) (Holds (length put_in)) (Holds 0) (Holds ts) (Holds (wrapping_add w16 last 0)) (Holds (size - b - taken t text size q small fits)) part' to' m3

    all-does : (to' : ℕ) × (part' : ℕ) × Does program choice own sp insert_routine.body 512 8192 (at Free Free Free Free Free Free Free part to m) Onward (end_of to' part')
    all-does =
        let h = sizes in
        let w = h.whole in
        let y = h.part_size in
        let z = h.tail_size in
        let n = length put_in in
        let r = length tail in
        let len = length text in
        let room = size - b - taken t text size q small fits in
        let s0 = at Free Free Free Free Free Free Free part to m in
        let s1 = at (Holds len) (Holds b) Free Free Free Free Free part to m in
        let s2 = at (Holds len) (Holds b) (Holds n) (Holds r) Free Free (Holds room) part to m in
        let s3 = at (Holds len) (Holds b) (Holds n) (Holds r) Free Free (Holds room) part to m1 in
        let s4 = at (Holds len) (Holds b) (Holds n) (Holds r) (Holds ts) (Holds (wrapping_add w16 last r)) (Holds room) part (wrapping_add w16 base r) m1 in
        let s5 = at (Holds len) (Holds b) (Holds n) (Holds 0) (Holds ts) (Holds (wrapping_add w16 last 0)) (Holds room) part (wrapping_add w16 base 0) m2 in
        let s6 = at (Holds len) (Holds b) (Holds n) (Holds n) (Holds ts) (Holds (wrapping_add w16 last 0)) (Holds room) part base m2 in
        let moved = forward-does program choice own sp 20 is_placed (pos 12) (pos 16) (negsuc 7) ts ps (λ x f left c. at (Holds len) (Holds b) (Holds n) (Holds left) (Holds ts) (Holds (wrapping_add w16 last 0)) (Holds room) f x c) (moving-on len b n (wrapping_add w16 last 0) room) put_in base part m2 (omega (arith, w, small)) part-stands
        (λ i g out. reached-then (b + i) (omega (arith, g, w)) (ap m2 (sym (base-address i)) ∙ out))
        (λ i j p g e. apart j (b + i) (omega (arith, g, y)) (omega (arith, p, g, w)) (sym e ∙ base-address i)) in
        let s7 = at (Holds len) (Holds b) (Holds n) (Holds 0) (Holds ts) (Holds (wrapping_add w16 last 0)) (Holds room) moved.from moved.to m3 in
        let d1 = place-does part to len m low_word high_word also.short also.size in
        let lengths = lengths-does part to len b (length t) m small fits h.inside has.short has.size in
        let by_part = subst (λ x. Goes insert_lengths s1 Onward (at (Holds len) (Holds b) (Holds x) (Holds (rest t text size q small fits)) Free Free (Holds room) part to m)) (sym (b-size t text size q small fits)) lengths in
        let d2 = subst (λ x. Goes insert_lengths s1 Onward (at (Holds len) (Holds b) (Holds n) (Holds x) Free Free (Holds room) part to m)) (sym (c-size t text size q small fits)) by_part in
        let d3 = whole-does part to len b n r room m (omega (arith, w, small)) (reached 0 (omega arith)) in
        let d4 = ends-does part to len b n r room m1 in
        let d5 = backward-does program choice own sp 20 is_placed (negsuc 11) (pos 12) (negsuc 7) ts ts (λ x f left c. at (Holds len) (Holds b) (Holds n) (Holds left) (Holds ts) (Holds x) (Holds room) part f c) (moving-back len b n room part) last base tail m1 (omega (arith, w, small)) tail-stands
        (λ i g out. reached-first (b + (n + i)) (omega (arith, g, w)) (ap m1 (sym (last-address i)) ∙ out))
        (λ i j p g e. by-places i j (omega (arith, p)) (omega (arith, g, w, small)) (sym (base-address i) ∙ e ∙ last-address j)) in
        let base_same : wrapping_add w16 base 0 ≡ base = omega arith in
        let d6 = subst (λ x. Goes insert_count s5 Onward (at (Holds len) (Holds b) (Holds n) (Holds n) (Holds ts) (Holds (wrapping_add w16 last 0)) (Holds room) part x m2)) base_same (count-does len b n 0 ts (wrapping_add w16 last 0) room part (wrapping_add w16 base 0) m2) in
        let e6 = then-does program choice own sp insert_count insert_part 0 (code_size insert_count) (1 + n) (20 * (1 + n)) s5 s6 Onward s7 d6 moved.does in
        let e5 = then-does program choice own sp insert_behind (insert_count then insert_part) (1 + r) (20 * (1 + r)) (0 + (1 + n)) (code_size insert_count + 20 * (1 + n)) s4 s5 Onward s7 d5 e6 in
        let e4 = then-does program choice own sp insert_ends (insert_behind then (insert_count then insert_part)) 0 (code_size insert_ends) (1 + r + (0 + (1 + n))) (20 * (1 + r) + (code_size insert_count + 20 * (1 + n))) s3 s4 Onward s7 d4 e5 in
        let e3 = then-does program choice own sp insert_whole (insert_ends then (insert_behind then (insert_count then insert_part))) 0 (code_size insert_whole) (0 + (1 + r + (0 + (1 + n)))) (code_size insert_ends + (20 * (1 + r) + (code_size insert_count + 20 * (1 + n)))) s2 s3 Onward s7 d3 e4 in
        let e2 = then-does program choice own sp insert_lengths (insert_whole then (insert_ends then (insert_behind then (insert_count then insert_part)))) 0 (code_size insert_lengths) (0 + (0 + (1 + r + (0 + (1 + n))))) (code_size insert_whole + (code_size insert_ends + (20 * (1 + r) + (code_size insert_count + 20 * (1 + n))))) s1 s2 Onward s7 d2 e3 in
        let e1 = then-does program choice own sp insert_place (insert_lengths then (insert_whole then (insert_ends then (insert_behind then (insert_count then insert_part))))) 0 (code_size insert_place) (0 + (0 + (0 + (1 + r + (0 + (1 + n)))))) (code_size insert_lengths + (code_size insert_whole + (code_size insert_ends + (20 * (1 + r) + (code_size insert_count + 20 * (1 + n)))))) s0 s1 Onward s7 d1 e2 in
        (moved.to, moved.from, weaker-does program choice own sp insert_routine.body (0 + (0 + (0 + (0 + (1 + r + (0 + (1 + n))))))) (code_size insert_place + (code_size insert_lengths + (code_size insert_whole + (code_size insert_ends + (20 * (1 + r) + (code_size insert_count + 20 * (1 + n))))))) 512 8192 s0 Onward s7 (omega (arith, w, small)) (omega (arith, w, small)) e1)
      where
        by-places : (i j : ℕ) → i < j → b + (length put_in + j) < 65536 → address_of (place ts to) (b + i) ≡ address_of (place ts to) (b + (length put_in + j)) → ⊥
        by-places i j p g e = apart-in ts to (b + i) (b + (length put_in + j)) (omega (arith, p)) g e

    whole-size : length (front ++ (put_in ++ tail)) ≡ total
    whole-size =
        let h = sizes in
        let x = h.front_is in
        let all = length-append front (put_in ++ tail) in
        let both = length-append put_in tail in
        omega (arith, all, both, x)

    -- what memory holds in the end
    holds-all : HasString m3 (place ts to) (front ++ (put_in ++ tail))
    holds-all =
        let h = sizes in
        let w = h.whole in
        let x = h.front_is in
        let y = h.inside in
        let sum = whole-size in
        record {
          size = laid-other m2 (place ts base) 1 put_in (address_of (place ts to) 0) (λ k g e. apart-in ts to 0 (b + (1 + k)) (omega arith) (omega (arith, g, w, small)) (e ∙ base-address (1 + k)))
              ∙ laid_back-other m1 (place ts last) 1 tail (address_of (place ts to) 0) (λ k g e. apart-in ts to 0 (b + (length put_in + (1 + k))) (omega arith) (omega (arith, g, w, small)) (e ∙ last-address (1 + k)))
              ∙ put-same m (address_of (place ts to) 0) (Known total) ∙ ap Known (sym sum);
          short = omega (arith, w, small, sum);
          bytes = bytes-append m3 (place ts to) 1 (1 + b) front (put_in ++ tail) (omega (arith, x))
              (bytes-kept m m3 (place ts to) 1 front (λ k g.
              laid-other m2 (place ts base) 1 put_in (address_of (place ts to) (1 + k)) (λ j l e. apart-in ts to (1 + k) (b + (1 + j)) (omega (arith, g, x)) (omega (arith, l, w, small)) (e ∙ base-address (1 + j)))
              ∙ laid_back-other m1 (place ts last) 1 tail (address_of (place ts to) (1 + k)) (λ j l e. apart-in ts to (1 + k) (b + (length put_in + (1 + j))) (omega (arith, g, x)) (omega (arith, l, w, small)) (e ∙ last-address (1 + j)))
              ∙ put_other m (address_of (place ts to) 0) (Known total) (address_of (place ts to) (1 + k)) (λ e. apart-in ts to 0 (1 + k) (omega arith) (omega (arith, g, x, w, small)) (sym e)))
              (bytes-front m (place ts to) 1 b text also.bytes))
              (bytes-append m3 (place ts to) (1 + b) (1 + b + length put_in) put_in tail refl
              (bytes-shift m3 ts to b 1 (1 + b) put_in (omega arith) (laid-has m2 ts base 1 put_in (omega (arith, w, small)) (bytes-small m (place ps part) 1 put_in (bytes-front m (place ps part) 1 (taken t text size q small fits) t has.bytes))))
              (bytes-kept m2 m3 (place ts to) (1 + b + length put_in) tail (λ k g.
              laid-other m2 (place ts base) 1 put_in (address_of (place ts to) (1 + b + length put_in + k)) (λ j l e. apart-in ts to (b + (1 + j)) (1 + b + length put_in + k) (omega (arith, l)) (omega (arith, g, w, small)) (sym (e ∙ base-address (1 + j)))))
              (bytes-shift m2 ts to b (1 + length put_in) (1 + b + length put_in) tail (omega arith)
              (bytes-shift m2 ts base (length put_in) 1 (1 + length put_in) tail (omega arith)
              (laid_back-has m1 ts last 1 tail (omega (arith, w, small)) (bytes-small m1 (place ts base) 1 tail tail-stands))))));
        }

    -- no other byte is changed
    others-stay : (x : ℕ) → (IsIn (place ts to) (1 + length (front ++ (put_in ++ tail))) x → ⊥) → m3 x ≡ m x
    others-stay x free =
        let h = sizes in
        let w = h.whole in
        let y = h.front_is in
        let sum = whole-size in
        laid-other m2 (place ts base) 1 put_in x (λ k g e. free (b + (1 + k), omega (arith, g, sum), e ∙ base-address (1 + k)))
        ∙ laid_back-other m1 (place ts last) 1 tail x (λ k g e. free (b + (length put_in + (1 + k)), omega (arith, g, sum), e ∙ last-address (1 + k)))
        ∙ put_other m (address_of (place ts to) 0) (Known total) x (λ e. free (0, omega arith, e))

-- ---- the promise

pub inserts : (program : FlatProgram) (choice : Choice) (unit : UnitCode) → StackFits program choice → IsHeld program (runtime_key insert_number) unit insert_routine → Inserts program choice
inserts program choice unit fits held_so ps part ts to low high size t text f s words stack can =
    let key = runtime_key insert_number in
    let room : activation_bytes insert_routine ≤ f.sp = omega (arith, stack.room) in
    let args = ps ∷ part ∷ ts ∷ to ∷ low ∷ high ∷ size ∷ [] in
    let own = frame_of key.unit unit insert_routine f in
    let here = placed program choice key unit insert_routine held_so fits args f s refl room stack.inside in
    let start = entered choice f.sp 14 args s in
    let m = memory_without choice f.sp s.cells in
    let low_word = words.1.1.1.1.0 in
    let high_word = words.1.1.1.1.1.0 in
    let has = string-inside choice f.sp s.cells (place ps part) t can.part_off can.part_there in
    let also = string-inside choice f.sp s.cells (place ts to) text (λ i h. can.target_off i (omega (arith, h, can.fits))) can.text_there in
    let reached = reached-inside choice f.sp s.cells (place ts to) (1 + size) can.target_off can.target in
    let done = all-does program choice own f.sp here start ps ts low high size part to m t text low_word high_word can.small can.fits has also reached can.apart in
    let all = holds-all program choice own f.sp here start ps ts low high size part to m t text low_word high_word can.small can.fits has also reached can.apart in
    let stay = others-stay program choice own f.sp here start ps ts low high size part to m t text low_word high_word can.small can.fits has also reached can.apart in
    let sum = whole-size program choice own f.sp here start ps ts low high size part to m t text low_word high_word can.small can.fits has also reached can.apart in
    let q = bytes_before (long_value low high) in
    let is : inserted t text (long_value low high) size ≡ _ = pieces t text size q can.small can.fits in
    let sizes_are = sizes program choice own f.sp here start ps ts low high size part to m t text low_word high_word can.small can.fits has also reached can.apart in
    let within = sizes_are.whole in
    call-ends program choice key unit insert_routine held_so fits args f s refl room stack.inside
    (IsIn (place ts to) (1 + length (inserted t text (long_value low high) size))) (λ after bytes. (bytes ≡ []) × HasString after.cells (place ts to) (inserted t text (long_value low high) size) × KeepsRest s after) 512 8192 Onward _ [] tt
    (done.2 _ (starts program choice key unit insert_routine held_so fits args f s refl room stack.inside 7 words))
    refl
    (λ x free. stay x (subst (λ text. IsIn (place ts to) (1 + length text) x → ⊥) is free))
    (λ after left. (
      refl,
      subst (HasString after.cells (place ts to)) (sym is) (string-left choice f.sp _ after.cells (place ts to) _ left.cells (λ i h. can.target_off i (omega (arith, h, sum, within))) all),
      record { flag = left.flag; input = left.input; out = left.out; err = left.err },
    ))
