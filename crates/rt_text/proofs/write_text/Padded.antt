-- A text goes to the output in a field of a width.
use Rattle.std.proofs.Common.{◌≡◌, ℕ, zero, suc, ◌+◌, ◌-◌, ◌*◌, ◌/◌, ◌%◌, ◌<◌, ◌≤◌, ◌⊎◌, inl, inr, List, [], ◌∷◌, ◌++◌, length, drop, Ok, ℤ, pos, negsuc, refl, sym, ap, subst, ◌∙◌, arith, append-nil, append_assoc, length-append}
use Rattle.std.specs.Prelude.{nat_lt, replicate}
use Rattle.std.proofs.lemmas.Bool.{cases_lt}
use Rattle.std.proofs.lemmas.Bool.Decides.{nat_tests}
use Rattle.std.proofs.lemmas.Int.{ints}
use Rattle.std.proofs.lemmas.List.{length-replicate, replicate-append-replicate, drop-replicate}
use Rattle.common_values.specs.integers.Words.{w16, wrapping_add, wrapping_sub, cast_signed, is_signed_less}
use Rattle.common_values.specs.Strings.{byte_count}
use Rattle.common_values.specs.Written.{blanks_due, padded}
use Rattle.flat_code.specs.declared.tree.Address.TheVariants.{Local}
use Rattle.flat_code.specs.declared.tree.FlatOp.TheVariants as op
use Rattle.flat_code.specs.declared.memory.Cell.TheVariants.{Outside}
use Rattle.flat_code.specs.declared.memory.Place.{Place}
use Rattle.flat_code.specs.Tree.{Expr, Number, Op, Code, End, Loop, ◌then◌}
use Rattle.flat_code.specs.Memory.{Cells, Found, ◌>>=◌, address_of, place_after, laid}
use Rattle.flat_code.specs.Program.{FlatProgram, Choice, text_unit}
use Rattle.flat_code.specs.Meaning.{Frame, truth}
use Rattle.runtime_proofs.specs.routine_proofs.Activation.{Activation, IsPlaced}
use Rattle.runtime_proofs.specs.routine_proofs.Straight.{Exit, Onward, Leaving, Came, seen_value, with_word_at, continued, straight, code_size}
use Rattle.runtime_proofs.specs.routine_proofs.Comes.{Does}
use Rattle.runtime_proofs.proofs.routine_proofs.Replies.{taken-so, other-so}
use Rattle.runtime_proofs.proofs.routine_proofs.Doing.{weaker-does, then-does, straight-does, round-does, leave-does}
use Rattle.runtime_proofs.specs.strings_in_memory.Strings.{HasBytes, IsReached, CanMove, place}
use Rattle.runtime_proofs.proofs.strings_in_memory.Cells.{bytes-kept, bytes-small, laid-other, laid-has}
use Rattle.runtime_proofs.specs.string_loops.Pieces.{word, set_word, lessen, leave}
use Rattle.runtime_proofs.proofs.string_loops.Seen.{op-so, set-so, lessen-so}
use Rattle.runtime_proofs.proofs.string_loops.ForwardLoop.{Moving, forward-does}
use Rattle.runtime_proofs.proofs.string_loops.Bytes.{address-shift, bytes-append, bytes-shift, bytes-unshift, bytes-behind}
use Rattle.runtime_proofs.specs.text_memory.Data.{HasItem, HasText, blank_bytes}
use Rattle.runtime_proofs.specs.text_memory.Pieces.{item_at, item_offset, item_segment, set_segment, print}
use Rattle.runtime_proofs.proofs.text_memory.Buffer.{laid-reached}
use Rattle.runtime_proofs.proofs.text_memory.Effects.{SameRest, datum-place, segment-does, Evaluates, seen-evaluates, segment-evaluates, print-does, taken-does, other-does}
use Rattle.rt_text.specs.write_text.Showing.{begin_item, set_due, blanks_round, print_blanks, move_text, print_item, print_padded, print_plain, print_text}
use Rattle.rt_text.specs.write_text.Specifications.{IsRoom}

-- the words that a routine begins with
abbrev pub begin_words : Code
begin_words = set_word (negsuc 7) (Number 0) (set_word (negsuc 13) (word (negsuc 5)) (set_word (negsuc 11) (item_offset 255) End))

-- ---- numbers

positive16 : (x : ℕ) → x < 32768 → cast_signed w16 x ≡ pos x
positive16 x h = grind (arith, nat_tests, ints)

negative16 : (x n : ℕ) → 32768 ≤ x → x < 65536 → 65536 - x ≡ suc n → cast_signed w16 x ≡ negsuc n
negative16 x n h l e = grind (arith, nat_tests, ints)

below-decided : (n w : ℕ) → n < 256 → w < 32768 → ((n < w) × (truth (is_signed_less w16 n w) ≡ 1)) ⊎ ((w ≤ n) × (truth (is_signed_less w16 n w) ≡ 0))
below-decided n w p q = grind (arith, nat_tests, ints)

never-below : (n w : ℕ) → n < 256 → 32768 ≤ w → w < 65536 → truth (is_signed_less w16 n w) ≡ 0
never-below n w p q r = grind (arith, nat_tests, ints)

word-decided : (w : ℕ) → (w < 32768) ⊎ (32768 ≤ w)
word-decided w = cases_lt w 32768

-- how many blanks are due, by a word
due-decided : (n w : ℕ) → n < 256 → w < 65536 → ((truth (is_signed_less w16 n w) ≡ 1) × (wrapping_sub w16 w n ≡ blanks_due (cast_signed w16 w) n)) ⊎ ((truth (is_signed_less w16 n w) ≡ 0) × (0 ≡ blanks_due (cast_signed w16 w) n))
due-decided n w p q = elim (word-decided w) [
  | inl h ↦ elim (below-decided n w p h) [
    | inl k ↦ inl (k.1, off w n (omega (arith, k.0)) q ∙ sym (ap (λ z. byte_count z - n) (positive16 w h)))
    | inr k ↦ inr (k.1, none w n k.0 ∙ sym (ap (λ z. byte_count z - n) (positive16 w h)))
  ]
  | inr h ↦ inr (never-below n w p h q, nothing n ∙ sym (ap (λ z. byte_count z - n) (negative16 w (65536 - w - 1) h q (omega (arith, h, q)))))
]
  where
    off : (w n : ℕ) → n ≤ w → w < 65536 → wrapping_sub w16 w n ≡ w - n
    off w n h q = omega (arith, h, q)

    none : (w n : ℕ) → w ≤ n → 0 ≡ w - n
    none w n h = omega (arith, h)

    nothing : (n : ℕ) → 0 ≡ 0 - n
    nothing n = omega arith

due-small : (n w : ℕ) → n < 256 → w < 65536 → blanks_due (cast_signed w16 w) n < 32768
due-small n w p q = elim (word-decided w) [
  | inl h ↦ subst (λ z. byte_count z - n < 32768) (sym (positive16 w h)) (omega (arith, h))
  | inr h ↦ subst (λ z. byte_count z - n < 32768) (sym (negative16 w (65536 - w - 1) h q (omega (arith, h, q)))) (omega arith)
]

-- so many times 256, and at least one more
pub record Chunks (n : ℕ) : Type 0 where
  pub k : ℕ
  pub r : ℕ
  pub some : 0 < r
  pub few : r ≤ 256
  pub whole : 256 * k + r ≡ n

chunks : (n : ℕ) → 0 < n → Chunks n
chunks n h = record { k = (n - 1) / 256; r = n - 256 * ((n - 1) / 256); some = omega (arith, h); few = omega (arith, h); whole = omega (arith, h) }

-- ---- activations of routines that write

-- segment, offset and length of the text, blanks due, the offset into the buffer, bytes left, memory and output
abbrev pub Writing : Type 0
Writing = ℕ → ℕ → ℕ → ℕ → ℕ → ℕ → Cells → List ℕ → Activation

pub record Showing (choice : Choice) (own : Frame) (above w : ℕ) (at : Writing) : Type 0 where
  pub width : (s f n d t l : ℕ) (m : Cells) (o : List ℕ) → seen_value choice own above (at s f n d t l m o) (word (pos 6)) ≡ Ok w
  pub segment : (s f n d t l : ℕ) (m : Cells) (o : List ℕ) → seen_value choice own above (at s f n d t l m o) (word (negsuc 1)) ≡ Ok s
  pub offset : (s f n d t l : ℕ) (m : Cells) (o : List ℕ) → seen_value choice own above (at s f n d t l m o) (word (negsuc 3)) ≡ Ok f
  pub count : (s f n d t l : ℕ) (m : Cells) (o : List ℕ) → seen_value choice own above (at s f n d t l m o) (word (negsuc 5)) ≡ Ok n
  pub due : (s f n d t l : ℕ) (m : Cells) (o : List ℕ) → seen_value choice own above (at s f n d t l m o) (word (negsuc 7)) ≡ Ok d
  pub with_due : (s f n d t l : ℕ) (m : Cells) (o : List ℕ) (v : ℕ) → with_word_at choice own above (at s f n d t l m o) (Local (negsuc 7)) v ≡ Ok (at s f n v t l m o)
  pub moving : (s n d : ℕ) (o : List ℕ) → Moving choice own above (negsuc 11) (negsuc 3) (negsuc 13) choice.data_segment s (λ t f l m. at s f n d t l m o)
  pub memory : (s f n d t l : ℕ) (m : Cells) (o : List ℕ) → (at s f n d t l m o).memory ≡ m
  pub printed : (s f n d t l : ℕ) (m : Cells) (o more : List ℕ) → record (at s f n d t l m o) { out = (at s f n d t l m o).out ++ more } ≡ at s f n d t l m (o ++ more)

module _ (program : FlatProgram) (choice : Choice) (own : Frame) (sp above : ℕ) (is_placed : IsPlaced choice own sp above) (is_text : own.unit ≡ text_unit) (item ahead : ℕ) (there : HasText program choice item ahead) (w : ℕ) (at : Writing) (showing : Showing choice own above w at) where
  abbrev Goes : Code → ℕ → ℕ → Activation → Exit → Activation → Type 0
  Goes code turns work a exit b = Does program choice own sp code turns work a exit b

  abbrev ds : ℕ
  ds = choice.data_segment

  -- ---- values

  pub item-offset : (a : Activation) (plus : ℕ) → seen_value choice own above a (item_offset plus) ≡ Ok (wrapping_add w16 item plus)
  item-offset a plus = ap (λ (x : Found Place). let r : Found ℕ = x >>= λ p. Ok p.offset in r) (datum-place choice own above is_text a 0 item plus there.item_is)

  item-segment : (a : Activation) → Evaluates program choice own sp above is_placed a item_segment ds
  item-segment a = segment-evaluates program choice own sp above is_placed a (item_at 0) (place_after (place ds item) 0) (datum-place choice own above is_text a 0 item 0 there.item_is)

  evaluates : (a : Activation) (e : Expr) (v u : ℕ) → v ≡ u → seen_value choice own above a e ≡ Ok v → Evaluates program choice own sp above is_placed a e u
  evaluates a e v u same h = subst (λ x. Evaluates program choice own sp above is_placed a e x) same (seen-evaluates program choice own sp above is_placed a e v h)

  -- ---- how many blanks are due

  due-does : (s f n t l : ℕ) (m : Cells) (o : List ℕ) → n < 256 → w < 65536 → Goes set_due 0 12 (at s f n 0 t l m o) Onward (at s f n (blanks_due (cast_signed w16 w) n) t l m o)
  due-does s f n t l m o p q =
      let a = at s f n 0 t l m o in
      let b = at s f n (blanks_due (cast_signed w16 w) n) t l m o in
      let v = truth (is_signed_less w16 n w) in
      let test = op-so choice own above op.Less (word (negsuc 5)) (word (pos 6)) a n w (showing.count s f n 0 t l m o) (showing.width s f n 0 t l m o) in
      let off = op-so choice own above op.Sub (word (pos 6)) (word (negsuc 5)) a w n (showing.width s f n 0 t l m o) (showing.count s f n 0 t l m o) in
      weaker-does program choice own sp set_due 0 (code_size set_due) 0 12 a Onward b (omega arith) (omega arith)
      (straight-does program choice own sp above is_placed set_due a Onward b
      (elim (due-decided n w p q) [
        | inl h ↦ taken-so choice own above set_due a v (record { exit = Onward; there = b }) test (λ z. omega (arith, z, h.0))
            (ap (λ (x : Found _). x >>= λ c. continue c) (set-so choice own above (negsuc 7) (Op op.Sub (word (pos 6)) (word (negsuc 5))) End a b (wrapping_sub w16 w n) off
            (showing.with_due s f n 0 t l m o (wrapping_sub w16 w n) ∙ ap (λ d. let r : Found Activation = Ok (at s f n d t l m o) in r) h.1)))
        | inr h ↦ other-so choice own above set_due a v (record { exit = Onward; there = b }) test h.0 (ap (λ d. let r : Found Came = Ok (record { exit = Onward; there = at s f n d t l m o }) in r) h.1)
      ]))
    where
      continue : Came → Found Came
      continue c = continued c.exit c.there (straight choice own above End)

  -- ---- blanks

  -- 256 of them
  module _ (m : Cells) (buffer : HasItem choice item m) (s f n t l : ℕ) (o : List ℕ) where
    chunk-does : (d : ℕ) → 0 < d → d < 65280 → Goes blanks_round 1 18 (at s f n (256 + d) t l m o) Onward (at s f n d t l m (o ++ blank_bytes))
    chunk-does d some small =
        let a = at s f n (256 + d) t l m o in
        let b = at s f n (256 + d) t l m (o ++ blank_bytes) in
        let c = at s f n d t l m (o ++ blank_bytes) in
        let test = Op op.Below (Number 256) (word (negsuc 7)) in
        let less = lessen (negsuc 7) (Number 256) End in
        let first = print item_segment (item_offset 0) (Number 256) End in
        let whole : wrapping_add w16 item 0 ≡ item = omega (arith, there.item_small) in
        let fewer : wrapping_sub w16 (256 + d) 256 ≡ d = omega (arith, small) in
        let many : length blank_bytes ≡ 256 = length-replicate {A = ℕ} 256 32 in
        let printed = print-does program choice own sp above is_placed a item_segment (item_offset 0) (Number 256) ds item blank_bytes (item-segment a) (evaluates a (item_offset 0) (wrapping_add w16 item 0) item whole (item-offset a 0)) (evaluates a (Number 256) 256 (length blank_bytes) (sym many) refl)
        (subst (λ k. HasBytes k (place ds item) 0 blank_bytes) (sym (showing.memory s f n (256 + d) t l m o)) buffer.blanks) in
        let lessened = straight-does program choice own sp above is_placed less b Onward c
        (lessen-so choice own above (negsuc 7) (Number 256) End b c (256 + d) 256 (showing.due s f n (256 + d) t l m (o ++ blank_bytes)) refl (showing.with_due s f n (256 + d) t l m (o ++ blank_bytes) (wrapping_sub w16 (256 + d) 256) ∙ ap (λ d. let r : Found Activation = Ok (at s f n d t l m (o ++ blank_bytes)) in r) fewer)) in
        weaker-does program choice own sp blanks_round 1 (1 + 3 + (5 + code_size less)) 1 18 a Onward c (omega arith) (omega arith)
        (taken-does program choice own sp above is_placed test (first then less) leave (truth (nat_lt 256 (256 + d))) 1 (5 + code_size less) a Onward c
        (op-so choice own above op.Below (Number 256) (word (negsuc 7)) a 256 (256 + d) refl (showing.due s f n (256 + d) t l m o)) (more d some)
        (then-does program choice own sp first less 1 5 0 (code_size less) a b Onward c (subst (λ x. Goes first 1 5 a Onward x) (showing.printed s f n (256 + d) t l m o blank_bytes) printed) lessened))
      where
        more : (d : ℕ) → 0 < d → truth (nat_lt 256 (256 + d)) ≡ 0 → ⊥
        more d some z = grind (arith, nat_tests, some, z)

    enough-does : (d : ℕ) → d ≤ 256 → Goes print_blanks 1 20 (at s f n d t l m o) Onward (at s f n d t l m o)
    enough-does d few =
        let a = at s f n d t l m o in
        let test = Op op.Below (Number 256) (word (negsuc 7)) in
        weaker-does program choice own sp print_blanks (1 + 0) (2 + (1 + 3 + code_size leave)) 1 20 a Onward a (omega arith) (omega arith)
        (leave-does program choice own sp blanks_round 0 (1 + 3 + code_size leave) a (Leaving 0) Onward a refl
        (other-does program choice own sp above is_placed test (print item_segment (item_offset 0) (Number 256) (lessen (negsuc 7) (Number 256) End)) leave (truth (nat_lt 256 d)) 0 (code_size leave) a (Leaving 0) a
        (op-so choice own above op.Below (Number 256) (word (negsuc 7)) a 256 d refl (showing.due s f n d t l m o)) (none d few)
        (straight-does program choice own sp above is_placed leave a (Leaving 0) a refl)))
      where
        none : (d : ℕ) → d ≤ 256 → truth (nat_lt 256 d) ≡ 0
        none d few = grind (arith, nat_tests, few)

  -- all but at most 256
  blanks-does : (m : Cells) → HasItem choice item m → (s f n t l k r : ℕ) (o : List ℕ) → 0 < r → r ≤ 256 → 256 * k + r < 65280 →
      Goes print_blanks (2 * k + 1) (20 * (k + 1)) (at s f n (256 * k + r) t l m o) Onward (at s f n r t l m (o ++ replicate (256 * k) 32))
  blanks-does m buffer s f n t l zero r o some few small =
      let here : r ≡ 256 * 0 + r = omega arith in
      let same : o ≡ o ++ [] = sym (append-nil o) in
      subst (λ d. Goes print_blanks 1 20 (at s f n d t l m o) Onward (at s f n r t l m (o ++ []))) here
      (subst (λ q. Goes print_blanks 1 20 (at s f n r t l m o) Onward (at s f n r t l m q)) same (enough-does m buffer s f n t l o r few))
  blanks-does m buffer s f n t l (suc k) r o some few small =
      let here : 256 + (256 * k + r) ≡ 256 * suc k + r = omega arith in
      let d = 256 * k + r in
      let o' = o ++ blank_bytes in
      let first = chunk-does m buffer s f n t l o d (omega (arith, some)) (omega (arith, small)) in
      let rest = blanks-does m buffer s f n t l k r o' some few (omega (arith, small)) in
      let both = round-does program choice own sp blanks_round 1 18 (2 * k + 1) (20 * (k + 1)) (at s f n (256 + d) t l m o) (at s f n d t l m o') Onward (at s f n r t l m (o' ++ replicate (256 * k) 32)) first rest in
      let sum : 256 + 256 * k ≡ 256 * suc k = omega arith in
      let all : o' ++ replicate (256 * k) 32 ≡ o ++ replicate (256 * suc k) 32 =
      append_assoc o blank_bytes (replicate (256 * k) 32) ∙ ap (λ l. o ++ l) (replicate-append-replicate 256 (256 * k) 32 ∙ ap (λ c. replicate c 32) sum) in
      weaker-does program choice own sp print_blanks (1 + 1 + (2 * k + 1)) (2 + 18 + 20 * (k + 1)) (2 * suc k + 1) (20 * (suc k + 1)) (at s f n (256 * suc k + r) t l m o) Onward (at s f n r t l m (o ++ replicate (256 * suc k) 32)) (omega arith) (omega arith)
      (subst (λ x. Goes print_blanks (1 + 1 + (2 * k + 1)) (2 + 18 + 20 * (k + 1)) (at s f n x t l m o) Onward (at s f n r t l m (o ++ replicate (256 * suc k) 32))) here
      (subst (λ x. Goes print_blanks (1 + 1 + (2 * k + 1)) (2 + 18 + 20 * (k + 1)) (at s f n (256 + d) t l m o) Onward (at s f n r t l m x)) all both))

  -- ---- the text

  module _ (text : List ℕ) (s f : ℕ) (m : Cells) (buffer : HasItem choice item m) (short : length text < 256) (has : HasBytes m (place s f) 1 text) (can : CanMove (place ds (wrapping_add w16 item 255)) (place s f) (1 + length text)) where
    abbrev n : ℕ
    n = length text

    abbrev target : ℕ
    target = wrapping_add w16 item 255

    abbrev after : Cells
    after = laid m (place ds target) 1 text

    item-apart : (i j : ℕ) → i < 256 → j < 512 → i < j → address_of (place ds item) i ≡ address_of (place ds item) j → ⊥
    item-apart i j p q h e = omega (arith, p, q, h, e)

    text-there : HasBytes after (place ds item) 256 text
    text-there = bytes-shift after ds item 255 1 256 text (omega arith) (laid-has m ds target 1 text (omega (arith, short)) (bytes-small m (place s f) 1 text has))

    blanks-there : HasBytes after (place ds item) 0 blank_bytes
    blanks-there = bytes-kept m after (place ds item) 0 blank_bytes (λ k h. laid-other m (place ds target) 1 text (address_of (place ds item) (0 + k))
        (λ i g e. let many = length-replicate {A = ℕ} 256 32 in item-apart (0 + k) (255 + (1 + i)) (omega (arith, h, many)) (omega (arith, g, short)) (omega (arith, h, many)) (e ∙ address-shift ds item 255 (1 + i)))) buffer.blanks

    pub after-buffer : HasItem choice item after
    after-buffer = record { blanks = blanks-there; room = λ i h. laid-reached m (place ds target) 1 text (address_of (place ds item) i) (buffer.room i h) }

    pub after-others : (x : ℕ) → (IsRoom choice item x → ⊥) → after x ≡ m x
    after-others x free = laid-other m (place ds target) 1 text x (λ i g e. let same : 255 + (1 + i) ≡ 256 + i = omega arith in free (i, omega (arith, g, short), e ∙ address-shift ds item 255 (1 + i) ∙ ap (address_of (place ds item)) same))

    -- blanks and text in one go
    item-there : (r : ℕ) → r ≤ 256 → HasBytes after (place ds (wrapping_add w16 item (256 - r))) 0 (replicate r 32 ++ text)
    item-there r few =
        let rest : 256 - (256 - r) ≡ r = omega (arith, few) in
        let some : drop (256 - r) blank_bytes ≡ replicate r 32 = drop-replicate (256 - r) 256 32 ∙ ap (λ c. replicate c 32) rest in
        bytes-append after (place ds (wrapping_add w16 item (256 - r))) 0 r (replicate r 32) text (omega (arith, length-replicate {A = ℕ} r 32))
        (bytes-unshift after ds item (256 - r) 0 (0 + (256 - r)) (replicate r 32) (omega arith) (subst (HasBytes after (place ds item) (0 + (256 - r))) some (bytes-behind after (place ds item) 0 (256 - r) blank_bytes blanks-there)))
        (bytes-unshift after ds item (256 - r) r 256 text (omega (arith, few)) text-there)

    print-item-does : (t f' l r : ℕ) (o : List ℕ) → r ≤ 256 → Goes print_item 1 12 (at s f' n r t l after o) Onward (at s f' n r t l after (o ++ (replicate r 32 ++ text)))
    print-item-does t f' l r o few =
        let a = at s f' n r t l after o in
        let from = Op op.Sub (item_offset 256) (word (negsuc 7)) in
        let count = Op op.Add (word (negsuc 7)) (word (negsuc 5)) in
        let start : wrapping_sub w16 (wrapping_add w16 item 256) r ≡ wrapping_add w16 item (256 - r) = omega (arith, few, there.item_small) in
        let many : wrapping_add w16 r n ≡ length (replicate r 32 ++ text) = omega (arith, length-append (replicate r 32) text, length-replicate {A = ℕ} r 32, few, short) in
        subst (λ x. Goes print_item 1 12 a Onward x) (showing.printed s f' n r t l after o (replicate r 32 ++ text))
        (weaker-does program choice own sp print_item 1 9 1 12 a Onward _ (omega arith) (omega arith)
        (print-does program choice own sp above is_placed a item_segment from count ds (wrapping_add w16 item (256 - r)) (replicate r 32 ++ text) (item-segment a)
        (evaluates a from (wrapping_sub w16 (wrapping_add w16 item 256) r) (wrapping_add w16 item (256 - r)) start (op-so choice own above op.Sub (item_offset 256) (word (negsuc 7)) a (wrapping_add w16 item 256) r (item-offset a 256) (showing.due s f' n r t l after o)))
        (evaluates a count (wrapping_add w16 r n) (length (replicate r 32 ++ text)) many (op-so choice own above op.Add (word (negsuc 7)) (word (negsuc 5)) a r n (showing.due s f' n r t l after o) (showing.count s f' n r t l after o)))
        (subst (λ k. HasBytes k (place ds (wrapping_add w16 item (256 - r))) 0 (replicate r 32 ++ text)) (sym (showing.memory s f' n r t l after o)) (item-there r few))))

    -- where no blank is due the text goes as it stands
    plain-does : (t l : ℕ) (o : List ℕ) → Goes print_plain 1 12 (at s f n 0 t l m o) Onward (at s f n 0 t l m (o ++ text))
    plain-does t l o =
        let a = at s f n 0 t l m o in
        let from = Op op.Add (word (negsuc 3)) (Number 1) in
        subst (λ x. Goes print_plain 1 12 a Onward x) (showing.printed s f n 0 t l m o text)
        (weaker-does program choice own sp print_plain 1 7 1 12 a Onward _ (omega arith) (omega arith)
        (print-does program choice own sp above is_placed a (word (negsuc 1)) from (word (negsuc 5)) s (wrapping_add w16 f 1) text
        (seen-evaluates program choice own sp above is_placed a (word (negsuc 1)) s (showing.segment s f n 0 t l m o))
        (seen-evaluates program choice own sp above is_placed a from (wrapping_add w16 f 1) (op-so choice own above op.Add (word (negsuc 3)) (Number 1) a f 1 (showing.offset s f n 0 t l m o) refl))
        (seen-evaluates program choice own sp above is_placed a (word (negsuc 5)) n (showing.count s f n 0 t l m o))
        (subst (λ k. HasBytes k (place s (wrapping_add w16 f 1)) 0 text) (sym (showing.memory s f n 0 t l m o)) (bytes-unshift m s f 1 0 1 text (omega arith) has))))

    target-reached : (l : Cells) → HasItem choice item l → IsReached l (place ds target) (1 + n)
    target-reached l is i h out = is.room (255 + i) (omega (arith, h, short)) (ap l (sym (address-shift ds item 255 i)) ∙ out)

    all-blanks : (k r : ℕ) (o : List ℕ) → (o ++ replicate (256 * k) 32) ++ (replicate r 32 ++ text) ≡ o ++ (replicate (256 * k + r) 32 ++ text)
    all-blanks k r o =
        append_assoc o (replicate (256 * k) 32) (replicate r 32 ++ text)
        ∙ ap (λ l. o ++ l) (sym (append_assoc (replicate (256 * k) 32) (replicate r 32) text) ∙ ap (λ l. l ++ text) (replicate-append-replicate (256 * k) r 32))

    -- what the routine comes to
    pub record Shown (d : ℕ) (o : List ℕ) : Type 0 where
      pub f' : ℕ
      pub d' : ℕ
      pub t' : ℕ
      pub l' : ℕ
      pub memory : Cells
      pub does : Goes print_text 512 7800 (at s f n d target n m o) Onward (at s f' n d' t' l' memory (o ++ (replicate d 32 ++ text)))
      pub buffer_is : HasItem choice item memory
      pub others : (x : ℕ) → (IsRoom choice item x → ⊥) → memory x ≡ m x

    shown-plain : (o : List ℕ) → Shown 0 o
    shown-plain o = record {
      f' = f;
      d' = 0;
      t' = target;
      l' = n;
      memory = m;
      does = weaker-does program choice own sp print_text 1 (1 + 1 + 12) 512 7800 (at s f n 0 target n m o) Onward (at s f n 0 target n m (o ++ text)) (omega arith) (omega arith)
          (other-does program choice own sp above is_placed (word (negsuc 7)) print_padded print_plain 0 1 12 (at s f n 0 target n m o) Onward (at s f n 0 target n m (o ++ text)) (showing.due s f n 0 target n m o) refl (plain-does target n o));
      buffer_is = buffer;
      others = λ x free. refl;
    }

    shown-padded : (k r : ℕ) (o : List ℕ) → 0 < r → r ≤ 256 → k ≤ 127 → Shown (256 * k + r) o
    shown-padded k r o some few small =
        let d = 256 * k + r in
        let o1 = o ++ replicate (256 * k) 32 in
        let blanks = blanks-does m buffer s f n target n k r o some few (omega (arith, few, small)) in
        let moved = forward-does program choice own sp above is_placed (negsuc 11) (negsuc 3) (negsuc 13) ds s (λ t f l m. at s f n r t l m o1) (showing.moving s n r o1) text target f m (omega (arith, short)) has (target-reached m buffer) can in
        let last = print-item-does moved.to moved.from 0 r o1 few in
        let b1 = at s f n r target n m o1 in
        let b2 = at s moved.from n r moved.to 0 after o1 in
        let b3 = at s moved.from n r moved.to 0 after (o1 ++ (replicate r 32 ++ text)) in
        let b4 = at s moved.from n r moved.to 0 after (o ++ (replicate d 32 ++ text)) in
        let a = at s f n d target n m o in
        let second = then-does program choice own sp move_text print_item (1 + n) (20 * (1 + n)) 1 12 b1 b2 Onward b3 moved.does last in
        let whole = then-does program choice own sp print_blanks (move_text then print_item) (2 * k + 1) (20 * (k + 1)) (1 + n + 1) (20 * (1 + n) + 12) a b1 Onward b3 blanks second in
        let ending = subst (λ q. Goes print_padded (2 * k + 1 + (1 + n + 1)) (20 * (k + 1) + (20 * (1 + n) + 12)) a Onward (at s moved.from n r moved.to 0 after q)) (all-blanks k r o) whole in
        record {
          f' = moved.from;
          d' = r;
          t' = moved.to;
          l' = 0;
          memory = after;
          does = weaker-does program choice own sp print_text (2 * k + 1 + (1 + n + 1)) (1 + 1 + (20 * (k + 1) + (20 * (1 + n) + 12))) 512 7800 a Onward b4 (omega (arith, short, small)) (omega (arith, short, small))
              (taken-does program choice own sp above is_placed (word (negsuc 7)) print_padded print_plain d (2 * k + 1 + (1 + n + 1)) (20 * (k + 1) + (20 * (1 + n) + 12)) a Onward b4 (showing.due s f n d target n m o) (λ z. omega (arith, z, some)) ending);
          buffer_is = after-buffer;
          others = after-others;
        }

    pub shown : (d : ℕ) (o : List ℕ) → d < 32768 → Shown d o
    shown d o small = elim (zero-or-more d) [
      | inl none ↦ subst (λ d. Shown d o) (sym none) (shown-plain o)
      | inr some ↦ (let c = chunks d some in subst (λ d. Shown d o) c.whole (shown-padded c.k c.r o c.some c.few (omega (arith, small, c.whole, c.some))))
    ]
      where
        zero-or-more : (d : ℕ) → (d ≡ 0) ⊎ (0 < d)
        zero-or-more zero = inl refl
        zero-or-more (suc d) = inr (omega arith)

    -- the blanks that are due, and the text
    pub shows : (o : List ℕ) → w < 65536 → (b : Shown (blanks_due (cast_signed w16 w) n) o) × Goes (set_due then print_text) 512 7812 (at s f n 0 target n m o) Onward (at s b.f' n b.d' b.t' b.l' b.memory (o ++ padded (cast_signed w16 w) text))
    shows o small =
        let d = blanks_due (cast_signed w16 w) n in
        let b = shown d o (due-small n w short small) in
        (b, then-does program choice own sp set_due print_text 0 12 512 7800 (at s f n 0 target n m o) (at s f n d target n m o) Onward (at s b.f' n b.d' b.t' b.l' b.memory (o ++ padded (cast_signed w16 w) text)) (due-does s f n target n m o short small) b.does)

  -- ---- how a routine begins

  pub begin-does : (a0 a2 a3 a4 : Activation) →
      straight choice own above begin_words a0 ≡ straight choice own above (set_word (negsuc 11) (item_offset 255) End) a2 →
      with_word_at choice own above a2 (Local (negsuc 11)) (wrapping_add w16 item 255) ≡ Ok a3 → with_word_at choice own above a3 (Local (negsuc 9)) ds ≡ Ok a4 → SameRest a3 a4 → Goes begin_item 0 12 a0 Onward a4
  begin-does a0 a2 a3 a4 first second third same =
      weaker-does program choice own sp begin_item 0 (code_size begin_words + 2) 0 12 a0 Onward a4 (omega arith) (omega arith)
      (then-does program choice own sp begin_words (set_segment (negsuc 9) End) 0 (code_size begin_words) 0 2 a0 a3 Onward a4
      (straight-does program choice own sp above is_placed begin_words a0 Onward a3 (first ∙ set-so choice own above (negsuc 11) (item_offset 255) End a2 a3 (wrapping_add w16 item 255) (item-offset a2 255) second))
      (segment-does program choice own sp above is_placed a3 a4 (negsuc 9) (item_at 0) (place_after (place ds item) 0) (datum-place choice own above is_text a3 0 item 0 there.item_is) there.segment third same))
