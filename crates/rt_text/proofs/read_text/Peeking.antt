-- The byte ahead: what it is, and how it is taken.
use Rattle.std.proofs.Common.{◌≡◌, ℕ, zero, suc, ◌+◌, ◌<◌, ◌≤◌, inl, inr, Bool, true, false, List, [], ◌∷◌, length, get_or, Ok, ℤ, pos, negsuc, refl, sym, ap, subst, ◌∙◌, arith}
use Rattle.std.specs.Prelude.{◌==◌}
use Rattle.std.proofs.lemmas.Bool.Decides.{nat_tests}
use Rattle.common_values.specs.integers.Words.{w16, wrapping_add, low_byte, high_byte, word_from_bytes}
use Rattle.flat_code.specs.declared.tree.Address.TheVariants.{Local}
use Rattle.flat_code.specs.declared.tree.FlatOp.TheVariants as op
use Rattle.flat_code.specs.declared.memory.Cell.{Cell}
use Rattle.flat_code.specs.declared.memory.Cell.TheVariants.{Known, Unset, Outside}
use Rattle.flat_code.specs.declared.memory.Place.{Place}
use Rattle.flat_code.specs.Tree.{Expr, Number, Word, Op, Code, End, If, ◌then◌}
use Rattle.flat_code.specs.Memory.{Cells, Found, ◌>>=◌, address_of, place_after, put, if_inside, write, store_bytes, word_bytes, laid}
use Rattle.flat_code.specs.Program.{FlatProgram, Choice, text_unit}
use Rattle.flat_code.specs.Meaning.{Frame, truth}
use Rattle.runtime_proofs.specs.routine_proofs.Activation.{Activation, IsPlaced}
use Rattle.runtime_proofs.specs.routine_proofs.Straight.{Onward, Came, byte_seen, word_seen, seen_value, with_word_at, onward, continued, straight, code_size}
use Rattle.runtime_proofs.specs.routine_proofs.Comes.{Does}
use Rattle.runtime_proofs.proofs.routine_proofs.Replies.{taken-so, other-so}
use Rattle.runtime_proofs.proofs.routine_proofs.Doing.{weaker-does, then-does, straight-does}
use Rattle.runtime_proofs.specs.strings_in_memory.Strings.{HasBytes, IsReached, place}
use Rattle.runtime_proofs.proofs.strings_in_memory.Cells.{byte-read, plus-none, laid-other, laid-has, word-so}
use Rattle.runtime_proofs.specs.string_loops.Pieces.{word, set_word}
use Rattle.runtime_proofs.proofs.string_loops.Seen.{op-so, set-so}
use Rattle.runtime_proofs.proofs.string_loops.BackwardLoop.{reached-still}
use Rattle.runtime_proofs.proofs.string_loops.Bytes.{bytes-unshift}
use Rattle.runtime_proofs.specs.text_memory.Data.{HasText, IsLeft, none, byte, ended, ahead_place}
use Rattle.runtime_proofs.specs.text_memory.Pieces.{ahead_at, fetch}
use Rattle.runtime_proofs.proofs.text_memory.Effects.{SameRest, datum-place, end-does, byte-does, taken-does, other-does}
use Rattle.rt_text.specs.read_text.Ahead.{set_ahead, read_ahead, fill, peek, take}
use Rattle.rt_text.specs.read_text.Specifications.{AreBytes, HasInput, IsAhead}

-- the next byte of an input, or 26 at its end
abbrev pub next_byte : List ℕ → ℕ
next_byte [] = 26
next_byte (b ∷ rest) = b

-- ---- a word that is stored in memory

inside-so : (cell : Cell) (m : Cells) → (cell ≡ Outside → ⊥) → if_inside cell m ≡ Ok m
inside-so (Known b) m h = refl
inside-so Unset m h = refl
inside-so Outside m h = absurd (h refl)

word-stored : (m : Cells) (p : Place) (l h : ℕ) → (m (address_of p 0) ≡ Outside → ⊥) → (m (address_of p 1) ≡ Outside → ⊥) → store_bytes m p 0 (l ∷ h ∷ []) ≡ Ok (laid m p 0 (l ∷ h ∷ []))
word-stored m p l h low high =
    let k = put m (address_of p 0) (Known l) in
    ap (λ (x : Found Cells). x >>= λ n. store_bytes n p 1 (h ∷ [])) (inside-so (m (address_of p 0)) k low)
    ∙ ap (λ (x : Found Cells). x >>= λ n. store_bytes n p 2 []) (inside-so (k (address_of p 1)) (put k (address_of p 1) (Known h)) (reached-still m (address_of p 0) l (address_of p 1) high))

laid-none : (m : Cells) (segment o l h : ℕ) → laid m (place_after (place segment o) 0) 0 (l ∷ h ∷ []) ≡ laid m (place segment o) 0 (l ∷ h ∷ [])
laid-none m segment o l h =
    ap (λ x. put (put m x (Known l)) (address_of (place_after (place segment o) 0) 1) (Known h)) (plus-none segment o 0)
    ∙ ap (λ x. put (put m (address_of (place segment o) 0) (Known l)) x (Known h)) (plus-none segment o 1)

-- ---- the word of the byte ahead

module _ (program : FlatProgram) (choice : Choice) (own : Frame) (above : ℕ) (is_text : own.unit ≡ text_unit) (item ahead : ℕ) (there : HasText program choice item ahead) where
  abbrev pub at_ahead : Place
  at_ahead = ahead_place choice ahead

  -- memory in which it is so
  abbrev pub with_ahead : Cells → ℕ → Cells
  with_ahead m v = laid m at_ahead 0 (word_bytes v)

  pub ahead-word : (a : Activation) (w : ℕ) → w < 65536 → HasBytes a.memory at_ahead 0 (word_bytes w) → seen_value choice own above a (Word ahead_at) ≡ Ok w
  ahead-word a w small has =
      let p = place_after (place choice.data_segment ahead) 0 in
      let now = bytes-unshift a.memory choice.data_segment ahead 0 0 0 (word_bytes w) (omega arith) has in
      let whole : word_from_bytes (low_byte w) (high_byte w) ≡ w = omega (arith, small) in
      ap (λ (x : Found Place). let r : Found ℕ = x >>= λ p. word_seen a.memory p in r) (datum-place choice own above is_text a 1 ahead 0 there.ahead_is)
      ∙ ap (λ (x : Found ℕ). let r : Found ℕ = x >>= λ low. byte_seen a.memory p 1 >>= λ high. Ok (word_from_bytes low high) in r) (byte-read a.memory p 0 (low_byte w) now.0 now.1)
      ∙ ap (λ (x : Found ℕ). let r : Found ℕ = x >>= λ high. Ok (word_from_bytes (low_byte w) high) in r) (byte-read a.memory p 1 (high_byte w) now.2.0 now.2.1)
      ∙ ap (λ v. let r : Found ℕ = Ok v in r) whole

  pub ahead-so : (value : Expr) (next : Code) (a : Activation) (v : ℕ) → seen_value choice own above a value ≡ Ok v → IsReached a.memory at_ahead 2 →
      straight choice own above (set_ahead value next) a ≡ straight choice own above next (record a { memory = with_ahead a.memory v })
  ahead-so value next a v e reached =
      let p = place_after (place choice.data_segment ahead) 0 in
      word-so choice own above ahead_at value next a v e
      ∙ ap (λ (x : Found Place). ((x >>= λ p. store_bytes a.memory p 0 (word_bytes v) >>= λ m. Ok (record a { memory = m })) >>= λ b. onward b) >>= λ c. continued c.exit c.there (straight choice own above next)) (datum-place choice own above is_text a 1 ahead 0 there.ahead_is)
      ∙ ap (λ (x : Found Cells). ((x >>= λ m. Ok (record a { memory = m })) >>= λ b. onward b) >>= λ c. continued c.exit c.there (straight choice own above next))
      (word-stored a.memory p (low_byte v) (high_byte v) (λ out. reached 0 (omega arith) (ap a.memory (sym (plus-none choice.data_segment ahead 0)) ∙ out)) (λ out. reached 1 (omega arith) (ap a.memory (sym (plus-none choice.data_segment ahead 1)) ∙ out)))
      ∙ ap (λ k. straight choice own above next (record a { memory = k })) (laid-none a.memory choice.data_segment ahead (low_byte v) (high_byte v))

  pub with-ahead-has : (m : Cells) (v : ℕ) → HasBytes (with_ahead m v) at_ahead 0 (word_bytes v)
  with-ahead-has m v = laid-has m choice.data_segment ahead 0 (word_bytes v) (omega arith) each
    where
      each : (k : ℕ) → k < 2 → get_or (word_bytes v) k 0 < 256
      each zero h = omega arith
      each (suc zero) h = omega arith
      each (suc (suc k)) h = absurd (omega (arith, h))

  pub with-ahead-other : (m : Cells) (v x : ℕ) → (IsAhead choice ahead x → ⊥) → with_ahead m v x ≡ m x
  with-ahead-other m v x free = laid-other m at_ahead 0 (word_bytes v) x (λ k h e. let same : 0 + k ≡ k = omega arith in free (k, h, e ∙ ap (address_of at_ahead) same))

  pub known-reached : (m : Cells) (v : ℕ) → HasBytes m at_ahead 0 (word_bytes v) → IsReached m at_ahead 2
  known-reached m v has zero h out = let r = sym has.0 ∙ out in absurd (cc)
  known-reached m v has (suc zero) h out = let r = sym has.2.0 ∙ out in absurd (cc)
  known-reached m v has (suc (suc i)) h out = omega (arith, h)

-- ---- activations of routines that read, before and after a value stands in the word at -2

pub record Peeking (choice : Choice) (own : Frame) (above : ℕ) (start : Cells → List ℕ → Activation) (at : ℕ → Cells → List ℕ → Activation) : Type 0 where
  pub first : (m : Cells) (i : List ℕ) (v : ℕ) → with_word_at choice own above (start m i) (Local (negsuc 1)) v ≡ Ok (at v m i)
  pub again : (w : ℕ) (m : Cells) (i : List ℕ) (v : ℕ) → with_word_at choice own above (at w m i) (Local (negsuc 1)) v ≡ Ok (at v m i)
  pub value : (w : ℕ) (m : Cells) (i : List ℕ) → seen_value choice own above (at w m i) (word (negsuc 1)) ≡ Ok w
  pub start_memory : (m : Cells) (i : List ℕ) → (start m i).memory ≡ m
  pub start_input : (m : Cells) (i : List ℕ) → (start m i).input ≡ i
  pub memory : (w : ℕ) (m : Cells) (i : List ℕ) → (at w m i).memory ≡ m
  pub with_memory : (w : ℕ) (m : Cells) (i : List ℕ) (k : Cells) → record (at w m i) { memory = k } ≡ at w k i
  pub with_input : (w : ℕ) (m : Cells) (i j : List ℕ) → record (at w m i) { input = j } ≡ at w m j
  pub same : (m : Cells) (i : List ℕ) (v : ℕ) → SameRest (start m i) (at v m i)

module _ (program : FlatProgram) (choice : Choice) (own : Frame) (sp above : ℕ) (is_placed : IsPlaced choice own sp above) (is_text : own.unit ≡ text_unit) (item ahead : ℕ) (there : HasText program choice item ahead) (start : Cells → List ℕ → Activation) (at : ℕ → Cells → List ℕ → Activation) (peeking : Peeking choice own above start at) where
  abbrev ahead_of : Place
  ahead_of = ahead_place choice ahead

  abbrev with : Cells → ℕ → Cells
  with m v = laid m ahead_of 0 (word_bytes v)

  -- the byte stands in the word, and is ahead
  pub record Peeked (m : Cells) (i left : List ℕ) : Type 0 where
    pub memory : Cells
    pub input : List ℕ
    pub does : Does program choice own sp peek 1 32 (start m i) Onward (at (next_byte left) memory input)
    pub small : next_byte left < 256
    pub ahead_is : HasBytes memory ahead_of 0 (word_bytes (next_byte left))
    pub left_is : IsLeft (next_byte left) input left
    pub bytes : AreBytes input
    pub others : (x : ℕ) → (IsAhead choice ahead x → ⊥) → memory x ≡ m x

  abbrev look : Code
  look = set_word (negsuc 1) (Word ahead_at) End

  abbrev test : Expr
  test = Op op.Equal (Word ahead_at) (Number 256)

  not-none : (b : ℕ) → b < 256 → truth (b == 256) ≡ 0
  not-none b h = grind (arith, nat_tests, h)

  not-end : (b : ℕ) → b < 256 → truth (b == 65535) ≡ 0
  not-end b h = grind (arith, nat_tests, h)

  -- a byte is there
  stays : (b : ℕ) (m : Cells) (i : List ℕ) → b < 256 → HasBytes m ahead_of 0 (word_bytes b) → Does program choice own sp peek 1 32 (start m i) Onward (at b m i)
  stays b m i small has =
      let a = start m i in
      let here = subst (λ k. HasBytes k ahead_of 0 (word_bytes b)) (sym (peeking.start_memory m i)) has in
      let word_is = ahead-word program choice own above is_text item ahead there a b (omega (arith, small)) here in
      weaker-does program choice own sp peek 0 (1 + 3 + 0 + 2) 1 32 a Onward (at b m i) (omega arith) (omega arith)
      (then-does program choice own sp fill look 0 (1 + 3 + 0) 0 2 a a Onward (at b m i)
      (other-does program choice own sp above is_placed test read_ahead End (truth (b == 256)) 0 0 a Onward a (op-so choice own above op.Equal (Word ahead_at) (Number 256) a b 256 word_is refl) (not-none b small)
      (straight-does program choice own sp above is_placed End a Onward a refl))
      (straight-does program choice own sp above is_placed look a Onward (at b m i) (set-so choice own above (negsuc 1) (Word ahead_at) End a (at b m i) b word_is (peeking.first m i b))))

  -- what is done with a byte that was fetched
  abbrev mark : Code
  mark = If (Op op.Equal (word (negsuc 1)) (Number 65535)) (set_word (negsuc 1) (Number 26) End) End (set_ahead (word (negsuc 1)) End)

  stored : (v : ℕ) (m : Cells) (i : List ℕ) → IsReached m ahead_of 2 → straight choice own above (set_ahead (word (negsuc 1)) End) (at v m i) ≡ Ok (record { exit = Onward; there = at v (with m v) i })
  stored v m i reached =
      ahead-so program choice own above is_text item ahead there (word (negsuc 1)) End (at v m i) v (peeking.value v m i) (subst (λ k. IsReached k ahead_of 2) (sym (peeking.memory v m i)) reached)
      ∙ ap (λ k. straight choice own above End (record (at v m i) { memory = with k v })) (peeking.memory v m i)
      ∙ ap (λ (b : Activation). straight choice own above End b) (peeking.with_memory v m i (with m v))

  mark-byte : (b : ℕ) (m : Cells) (i : List ℕ) → b < 256 → IsReached m ahead_of 2 → straight choice own above mark (at b m i) ≡ Ok (record { exit = Onward; there = at b (with m b) i })
  mark-byte b m i small reached =
      other-so choice own above mark (at b m i) (truth (b == 65535)) (record { exit = Onward; there = at b (with m b) i }) (op-so choice own above op.Equal (word (negsuc 1)) (Number 65535) (at b m i) b 65535 (peeking.value b m i) refl) (not-end b small) (stored b m i reached)

  mark-end : (m : Cells) (i : List ℕ) → IsReached m ahead_of 2 → straight choice own above mark (at 65535 m i) ≡ Ok (record { exit = Onward; there = at 26 (with m 26) i })
  mark-end m i reached =
      taken-so choice own above mark (at 65535 m i) 1 (record { exit = Onward; there = at 26 (with m 26) i }) (op-so choice own above op.Equal (word (negsuc 1)) (Number 65535) (at 65535 m i) 65535 65535 (peeking.value 65535 m i) refl) (λ z. omega (arith, z))
      (ap (λ (x : Found Came). x >>= λ c. continued c.exit c.there (straight choice own above (set_ahead (word (negsuc 1)) End))) (set-so choice own above (negsuc 1) (Number 26) End (at 65535 m i) (at 26 m i) 26 refl (peeking.again 65535 m i 26))
      ∙ stored 26 m i reached)

  -- a byte is read
  comes : (v b : ℕ) (m : Cells) (i j : List ℕ) → b < 256 → HasBytes m ahead_of 0 (word_bytes 256) → Does program choice own sp (fetch (negsuc 1) End) 1 1 (start m i) Onward (at v m j) → straight choice own above mark (at v m j) ≡ Ok (record { exit = Onward; there = at b (with m b) j }) →
      Does program choice own sp peek 1 32 (start m i) Onward (at b (with m b) j)
  comes v b m i j small has fetched marked =
      let a = start m i in
      let k = with m b in
      let here = subst (λ k. HasBytes k ahead_of 0 (word_bytes 256)) (sym (peeking.start_memory m i)) has in
      let word_is = ahead-word program choice own above is_text item ahead there a 256 (omega arith) here in
      let now = subst (λ c. HasBytes c ahead_of 0 (word_bytes b)) (sym (peeking.memory b k j)) (with-ahead-has program choice own above is_text item ahead there m b) in
      weaker-does program choice own sp peek (1 + 0) (1 + 3 + (1 + code_size mark) + 2) 1 32 a Onward (at b k j) (omega arith) (omega arith)
      (then-does program choice own sp fill look 1 (1 + 3 + (1 + code_size mark)) 0 2 a (at b k j) Onward (at b k j)
      (taken-does program choice own sp above is_placed test read_ahead End 1 1 (1 + code_size mark) a Onward (at b k j) (op-so choice own above op.Equal (Word ahead_at) (Number 256) a 256 256 word_is refl) (λ z. omega (arith, z))
      (then-does program choice own sp (fetch (negsuc 1) End) mark 1 1 0 (code_size mark) a (at v m j) Onward (at b k j) fetched (straight-does program choice own sp above is_placed mark (at v m j) Onward (at b k j) marked)))
      (straight-does program choice own sp above is_placed look (at b k j) Onward (at b k j)
      (set-so choice own above (negsuc 1) (Word ahead_at) End (at b k j) (at b k j) b (ahead-word program choice own above is_text item ahead there (at b k j) b (omega (arith, small)) now) (peeking.again b k j b))))

  pub peeked : (w : ℕ) (m : Cells) (i left : List ℕ) → HasBytes m ahead_of 0 (word_bytes w) → AreBytes i → IsLeft w i left → Peeked m i left
  peeked w m i left has are (byte b rest small) = record {
    memory = m;
    input = rest;
    does = stays b m rest small has;
    small = small;
    ahead_is = has;
    left_is = byte b rest small;
    bytes = are;
    others = λ x free. refl;
  }
  peeked w m i left has are ended = record {
    memory = m;
    input = [];
    does = stays 26 m [] (omega arith) has;
    small = omega arith;
    ahead_is = has;
    left_is = ended;
    bytes = are;
    others = λ x free. refl;
  }
  peeked w m i left has are (none input) = by input are
    where
      reached : IsReached m ahead_of 2
      reached = known-reached program choice own above is_text item ahead there m 256 has

      by : (input : List ℕ) → AreBytes input → Peeked m input input
      by [] are = record {
        memory = with m 26;
        input = [];
        does = comes 65535 26 m [] [] (omega arith) has
            (subst (λ (b : Activation). Does program choice own sp (fetch (negsuc 1) End) 1 1 (start m []) Onward b) (peeking.with_input 65535 m [] [])
            (end-does program choice own sp above is_placed (start m []) (at 65535 m []) (negsuc 1) (peeking.start_input m []) (peeking.first m [] 65535) (peeking.same m [] 65535)))
            (mark-end m [] reached);
        small = omega arith;
        ahead_is = with-ahead-has program choice own above is_text item ahead there m 26;
        left_is = ended;
        bytes = tt;
        others = with-ahead-other program choice own above is_text item ahead there m 26;
      }
      by (b ∷ rest) are = record {
        memory = with m b;
        input = rest;
        does = comes b b m (b ∷ rest) rest are.0 has
            (subst (λ (c : Activation). Does program choice own sp (fetch (negsuc 1) End) 1 1 (start m (b ∷ rest)) Onward c) (peeking.with_input b m (b ∷ rest) rest)
            (byte-does program choice own sp above is_placed (start m (b ∷ rest)) (at b m (b ∷ rest)) (negsuc 1) b rest (peeking.start_input m (b ∷ rest)) are.0 (peeking.first m (b ∷ rest) b) (peeking.same m (b ∷ rest) b)))
            (mark-byte b m rest are.0 reached);
        small = are.0;
        ahead_is = with-ahead-has program choice own above is_text item ahead there m b;
        left_is = byte b rest are.0;
        bytes = are.1;
        others = with-ahead-other program choice own above is_text item ahead there m b;
      }
