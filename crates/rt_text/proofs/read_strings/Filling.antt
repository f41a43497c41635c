-- The loop that reads the bytes of a string.
use Rattle.std.proofs.Common.{◌≡◌, ℕ, zero, suc, ◌+◌, ◌*◌, ◌<◌, ◌≤◌, Bool, true, false, List, [], ◌∷◌, length, cond, Ok, ℤ, pos, negsuc, refl, sym, ap, subst, ◌∙◌, arith}
use Rattle.std.specs.Prelude.{◌==◌}
use Rattle.std.proofs.lemmas.Bool.Decides.{nat_tests}
use Rattle.common_values.specs.integers.Words.{w16, wrapping_add, low_byte}
use Rattle.flat_code.specs.declared.tree.Address.TheVariants.{Through}
use Rattle.flat_code.specs.declared.tree.FlatOp.TheVariants as op
use Rattle.flat_code.specs.declared.memory.Place.{Place}
use Rattle.flat_code.specs.declared.memory.Cell.TheVariants.{Known, Outside}
use Rattle.flat_code.specs.Tree.{Expr, Number, Op, Code, End, If, Loop, ◌then◌}
use Rattle.flat_code.specs.Memory.{Cells, Found, address_of, place_after, put, word_bytes}
use Rattle.flat_code.specs.Program.{FlatProgram, Choice, text_unit}
use Rattle.flat_code.specs.Meaning.{Frame, truth}
use Rattle.flat_code.proofs.Shut.{put_other}
use Rattle.runtime_proofs.specs.routine_proofs.Activation.{Slot, Shut, Free, Holds, Activation, IsPlaced}
use Rattle.runtime_proofs.specs.routine_proofs.Straight.{Exit, Onward, Leaving, straight, code_size}
use Rattle.runtime_proofs.specs.routine_proofs.Comes.{Does}
use Rattle.runtime_proofs.proofs.routine_proofs.Doing.{weaker-does, then-does, straight-does, round-does, leave-does}
use Rattle.runtime_proofs.specs.strings_in_memory.Strings.{HasBytes, IsReached, place}
use Rattle.runtime_proofs.proofs.strings_in_memory.Cells.{put-same, store-so, apart-in, bytes-kept}
use Rattle.runtime_proofs.specs.string_loops.Pieces.{word, raise, leave}
use Rattle.runtime_proofs.proofs.string_loops.BackwardLoop.{reached-still}
use Rattle.runtime_proofs.specs.text_memory.Data.{HasText, IsLeft, none, ahead_place}
use Rattle.runtime_proofs.proofs.text_memory.Effects.{taken-does, other-does}
use Rattle.runtime_proofs.proofs.text_memory.Buffer.{laid-reached}
use Rattle.rt_text.specs.read_text.Ahead.{peek, take}
use Rattle.rt_text.specs.read_text.Routines.{ends_text}
use Rattle.rt_text.specs.read_text.Specifications.{AreBytes, HasInput, IsAhead}
use Rattle.rt_text.proofs.read_text.InputLemmas.{left-rest}
use Rattle.rt_text.proofs.read_text.Peeking.{next_byte, with_ahead, ahead-so, with-ahead-has, with-ahead-other, known-reached, Peeking, Peeked, peeked}
use Rattle.rt_text.specs.read_strings.Routines.{take_byte, text_round}
use Rattle.rt_text.proofs.read_strings.Texts.{ends, ends-bits, text_of, rest_of}

low-same : (b : ℕ) → b < 256 → low_byte b ≡ b
low-same b h = omega (arith, h)

behind-pointer : (segment o c : ℕ) → address_of (place_after (place segment (wrapping_add w16 o c)) 1) 0 ≡ address_of (place segment o) (c + 1)
behind-pointer segment o c = omega arith

next-pointer : (o c : ℕ) → wrapping_add w16 (wrapping_add w16 o c) 1 ≡ wrapping_add w16 o (c + 1)
next-pointer o c = omega arith

next-count : (c : ℕ) → c < 256 → wrapping_add w16 c 1 ≡ c + 1
next-count c h = omega (arith, h)

full-bit : (c n : ℕ) → c ≡ n → truth (c == n) ≡ 0 → ⊥
full-bit c n e z = let one = one-bit c n e in omega (arith, one, z)
  where
    one-bit : (c n : ℕ) → c ≡ n → truth (c == n) ≡ 1
    one-bit c n e = grind (arith, nat_tests, e)

room-bit : (c n : ℕ) → c < n → truth (c == n) ≡ 0
room-bit c n h = grind (arith, nat_tests, h)

set-bit : (t : Bool) → t ≡ true → truth t ≡ 0 → ⊥
set-bit t e z = let one : truth t ≡ 1 = ap truth e in omega (arith, one, z)

module _ (program : FlatProgram) (choice : Choice) (own : Frame) (sp : ℕ) (is_placed : IsPlaced choice own sp 12) (is_text : own.unit ≡ text_unit) (item ahead : ℕ) (there : HasText program choice item ahead) (e : Activation) (segment offset size : ℕ) (size_small : size < 256)
    (apart : (i j : ℕ) → i < 1 + size → j < 2 → address_of (place segment offset) i ≡ address_of (ahead_place choice ahead) j → ⊥) where
  abbrev st : ℕ → ℕ → ℕ → Cells → List ℕ → Activation
  st v p c m i = record e { words = Holds segment ∷ Holds offset ∷ Holds size ∷ Shut ∷ Shut ∷ Shut ∷ Holds v ∷ Holds segment ∷ Holds p ∷ Holds c ∷ []; memory = m; input = i }

  -- so many bytes were read
  abbrev pub filling : ℕ → ℕ → Cells → List ℕ → Activation
  filling v c m i = st v (wrapping_add w16 offset c) c m i

  abbrev to : Place
  to = place segment offset

  abbrev Goes : Code → ℕ → ℕ → Activation → Exit → Activation → Type 0
  Goes code turns work a exit b = Does program choice own sp code turns work a exit b

  abbrev taken : Cells → Cells
  taken m = with_ahead program choice own 12 is_text item ahead there m 256

  peeking : (v c : ℕ) → Peeking choice own 12 (filling v c) (λ w m i. filling w c m i)
  peeking v c = record {
    first = λ m i v. refl;
    again = λ w m i v. refl;
    value = λ w m i. refl;
    start_memory = λ m i. refl;
    start_input = λ m i. refl;
    memory = λ w m i. refl;
    with_memory = λ w m i k. refl;
    with_input = λ w m i j. refl;
    same = λ m i v. record { flag = refl; input = refl; out = refl; err = refl };
  }

  -- a byte of the variable is not the one ahead
  off-ahead : (k : ℕ) → k ≤ size → IsAhead choice ahead (address_of to k) → ⊥
  off-ahead k h is = apart k is.0 (omega (arith, h)) is.1 is.2

  -- ---- one byte is stored

  module _ (b c : ℕ) (n : Cells) (j : List ℕ) (small : b < 256) (room : c < size) (reached : n (address_of to (c + 1)) ≡ Outside → ⊥) (known : IsReached n (ahead_place choice ahead) 2) where
    abbrev n1 : Cells
    n1 = put n (address_of to (c + 1)) (Known b)

    stored : straight choice own 12 take_byte (filling b c n j) ≡ Ok (record { exit = Onward; there = filling b (c + 1) (taken n1) j })
    stored =
        let a = filling b c n j in
        let p = wrapping_add w16 offset c in
        let next = raise (negsuc 5) (Number 1) (raise (negsuc 7) (Number 1) take) in
        let at = behind-pointer segment offset c in
        store-so choice own 12 (Through (negsuc 5) 1) (word (negsuc 1)) next a (place_after (place segment p) 1) b refl refl (λ out. reached (ap n (sym at) ∙ out))
        ∙ ap (λ x. straight choice own 12 next (st b p c (put n x (Known (low_byte b))) j)) at
        ∙ ap (λ v. straight choice own 12 next (st b p c (put n (address_of to (c + 1)) (Known v)) j)) (low-same b small)
        ∙ ap (λ q. straight choice own 12 take (st b q (wrapping_add w16 c 1) n1 j)) (next-pointer offset c)
        ∙ ap (λ k. straight choice own 12 take (st b (wrapping_add w16 offset (c + 1)) k n1 j)) (next-count c (omega (arith, room, size_small)))
        ∙ ahead-so program choice own 12 is_text item ahead there (Number 256) End (filling b (c + 1) n1 j) 256 refl (λ i h. reached-still n (address_of to (c + 1)) b (address_of (ahead_place choice ahead) i) (known i h))

  -- ---- all bytes

  pub record Filled (r v c : ℕ) (m : Cells) (i text rest : List ℕ) : Type 0 where
    pub v' : ℕ
    pub memory : Cells
    pub input : List ℕ
    pub does : Goes (Loop text_round End) (2 * r + 2) (100 * (r + 1)) (filling v c m i) Onward (filling v' (c + length text) memory input)
    pub text_is : HasBytes memory to (c + 1) text
    pub input_is : HasInput choice ahead memory input rest
    pub within : c + length text ≤ size
    pub others : (x : ℕ) → (IsAhead choice ahead x → ⊥) → ((k : ℕ) → c < k → k ≤ c + length text → x ≡ address_of to k → ⊥) → memory x ≡ m x
    pub reached : IsReached m to (1 + size) → IsReached memory to (1 + size)

  abbrev full : Expr
  full = Op op.Equal (word (negsuc 7)) (word (pos 6))

  abbrev more : Code
  more = peek then (If ends_text leave take_byte End)

  leave-now : (v c : ℕ) (m : Cells) (i : List ℕ) → Goes leave 0 1 (filling v c m i) (Leaving 0) (filling v c m i)
  leave-now v c m i = straight-does program choice own sp 12 is_placed leave (filling v c m i) (Leaving 0) (filling v c m i) refl

  -- the variable is full
  no-room : (v c : ℕ) (m : Cells) (i left : List ℕ) → c ≡ size → HasInput choice ahead m i left → Filled 0 v c m i [] left
  no-room v c m i left is has =
      let a = filling v c m i in
      let none : c ≡ c + 0 = omega arith in
      record {
        v' = v;
        memory = m;
        input = i;
        does = subst (λ k. Goes (Loop text_round End) 2 100 a Onward (filling v k m i)) none
            (weaker-does program choice own sp (Loop text_round End) (1 + 0) (2 + (1 + 3 + 1)) 2 100 a Onward a (omega arith) (omega arith)
            (leave-does program choice own sp text_round 0 (1 + 3 + 1) a (Leaving 0) Onward a refl
            (taken-does program choice own sp 12 is_placed full leave more (truth (c == size)) 0 1 a (Leaving 0) a refl (full-bit c size is) (leave-now v c m i))));
        text_is = tt;
        input_is = has;
        within = omega (arith, is);
        others = λ x free apart. refl;
        reached = λ h. h;
      }

  module _ (v c : ℕ) (m : Cells) (i left : List ℕ) (room : c < size) (has : HasInput choice ahead m i left) where
    next : Peeked program choice own sp 12 is_placed is_text item ahead there (filling v c) (λ w m i. filling w c m i) (peeking v c) m i left
    next = peeked program choice own sp 12 is_placed is_text item ahead there (filling v c) (λ w m i. filling w c m i) (peeking v c) has.word m i left has.ahead_is has.bytes has.left_is

    abbrev b : ℕ
    b = next_byte left

    -- where it can be reached it still can
    still : IsReached m to (1 + size) → IsReached next.memory to (1 + size)
    still reached k h out = reached k h (sym (next.others (address_of to k) (off-ahead k (omega (arith, h)))) ∙ out)

    -- a line or the input ends
    at-end : (r : ℕ) → ends b ≡ true → Filled (suc r) v c m i [] left
    at-end r is =
        let a = filling v c m i in
        let d = filling b c next.memory next.input in
        let none : c ≡ c + 0 = omega arith in
        record {
          v' = b;
          memory = next.memory;
          input = next.input;
          does = subst (λ k. Goes (Loop text_round End) (2 * suc r + 2) (100 * (suc r + 1)) a Onward (filling b k next.memory next.input)) none
              (weaker-does program choice own sp (Loop text_round End) (1 + (1 + 0)) (2 + (1 + 3 + (32 + (1 + 11 + 1)))) (2 * suc r + 2) (100 * (suc r + 1)) a Onward d (omega arith) (omega arith)
              (leave-does program choice own sp text_round (1 + 0) (1 + 3 + (32 + (1 + 11 + 1))) a (Leaving 0) Onward d refl
              (other-does program choice own sp 12 is_placed full leave more (truth (c == size)) (1 + 0) (32 + (1 + 11 + 1)) a (Leaving 0) d refl (room-bit c size room)
              (then-does program choice own sp peek (If ends_text leave take_byte End) 1 32 0 (1 + 11 + 1) a d (Leaving 0) d next.does
              (taken-does program choice own sp 12 is_placed ends_text leave take_byte (truth (ends b)) 0 1 d (Leaving 0) d (ap (λ v. let r : Found ℕ = Ok v in r) (ends-bits b)) (set-bit (ends b) is) (leave-now b c next.memory next.input))))));
          text_is = tt;
          input_is = record { word = b; ahead_is = next.ahead_is; left_is = next.left_is; bytes = next.bytes };
          within = omega (arith, room);
          others = λ x free apart. next.others x free;
          reached = still;
        }

    -- a byte of the text comes, and then the others
    one-more : (r : ℕ) (rest text goal : List ℕ) → left ≡ b ∷ rest → ends b ≡ false → IsReached m to (1 + size) → Filled r b (c + 1) (taken (put next.memory (address_of to (c + 1)) (Known b))) next.input text goal → Filled (suc r) v c m i (b ∷ text) goal
    one-more r rest text goal is going reached more_read =
        let n = next.memory in
        let n1 = put n (address_of to (c + 1)) (Known b) in
        let k = taken n1 in
        let a = filling v c m i in
        let d = filling b c n next.input in
        let g = filling b (c + 1) k next.input in
        let sum : c + 1 + length text ≡ c + length (b ∷ text) = omega arith in
        let z = filling more_read.v' (c + length (b ∷ text)) more_read.memory more_read.input in
        let here = address_of to (c + 1) in
        let known = known-reached program choice own 12 is_text item ahead there n b next.ahead_is in
        let stores = stored b c n next.input next.small room (still reached (c + 1) (omega (arith, room))) known in
        let last = subst (λ q. Goes (Loop text_round End) (2 * r + 2) (100 * (r + 1)) g Onward (filling more_read.v' q more_read.memory more_read.input)) sum more_read.does in
        let within = more_read.within in
        let byte_there : more_read.memory here ≡ Known b =
        more_read.others here (off-ahead (c + 1) (omega (arith, room))) (λ k low high same. apart-in segment offset (c + 1) k low (omega (arith, high, within, size_small)) same)
        ∙ with-ahead-other program choice own 12 is_text item ahead there n1 256 here (off-ahead (c + 1) (omega (arith, room))) ∙ put-same n here (Known b) in
        record {
          v' = more_read.v';
          memory = more_read.memory;
          input = more_read.input;
          does = weaker-does program choice own sp (Loop text_round End) (1 + (1 + 0) + (2 * r + 2)) (2 + (1 + 3 + (32 + (1 + 11 + code_size take_byte))) + 100 * (r + 1)) (2 * suc r + 2) (100 * (suc r + 1)) a Onward z (omega arith) (omega arith)
              (round-does program choice own sp text_round (1 + 0) (1 + 3 + (32 + (1 + 11 + code_size take_byte))) (2 * r + 2) (100 * (r + 1)) a g Onward z
              (other-does program choice own sp 12 is_placed full leave more (truth (c == size)) (1 + 0) (32 + (1 + 11 + code_size take_byte)) a Onward g refl (room-bit c size room)
              (then-does program choice own sp peek (If ends_text leave take_byte End) 1 32 0 (1 + 11 + code_size take_byte) a d Onward g next.does
              (other-does program choice own sp 12 is_placed ends_text leave take_byte (truth (ends b)) 0 (code_size take_byte) d Onward g (ap (λ v. let r : Found ℕ = Ok v in r) (ends-bits b)) (ap truth going)
              (straight-does program choice own sp 12 is_placed take_byte d Onward g stores)))) last);
          text_is = (byte_there, next.small, more_read.text_is);
          input_is = more_read.input_is;
          within = omega (arith, within);
          others = λ x free other.
              more_read.others x free (λ q low high. other q (omega (arith, low)) (omega (arith, high)))
              ∙ with-ahead-other program choice own 12 is_text item ahead there n1 256 x free ∙ put_other n here (Known b) x (other (c + 1) (omega arith) (omega arith)) ∙ next.others x free;
          reached = λ h. more_read.reached (λ q low. laid-reached n1 (ahead_place choice ahead) 0 (word_bytes 256) (address_of to q) (reached-still n here b (address_of to q) (still h q low)));
        }

  -- a byte is taken: what is left then
  rest-has : (b : ℕ) (rest left : List ℕ) (n : Cells) (j : List ℕ) → left ≡ b ∷ rest → next_byte left < 256 → IsLeft (next_byte left) j left → AreBytes j → HasInput choice ahead (taken n) j rest
  rest-has b rest left n j is small left_is are = record {
    word = 256;
    ahead_is = with-ahead-has program choice own 12 is_text item ahead there n 256;
    left_is = subst (λ l. IsLeft 256 j l) (left-rest (next_byte left) j left left_is small b rest is) (none j);
    bytes = are;
  }

  -- the rest of the variable is filled
  pub fill : (r v c : ℕ) (m : Cells) (i left : List ℕ) → c + r ≡ size → IsReached m to (1 + size) → HasInput choice ahead m i left → Filled r v c m i (text_of r left) (rest_of r left)
  fill zero v c m i left sum reached has = no-room v c m i left (omega (arith, sum)) has
  fill (suc r) v c m i [] sum reached has = at-end v c m i [] (omega (arith, sum)) has r refl
  fill (suc r) v c m i (b ∷ rest) sum reached has =
      by (ends b) refl (λ n j again now. fill r b (c + 1) n j rest (omega (arith, sum)) again now)
    where
      room : c < size
      room = omega (arith, sum)

      by : (t : Bool) → ends b ≡ t → ((n : Cells) (j : List ℕ) → IsReached n to (1 + size) → HasInput choice ahead n j rest → Filled r b (c + 1) n j (text_of r rest) (rest_of r rest)) → Filled (suc r) v c m i (cond (ends b) [] (b ∷ text_of r rest)) (cond (ends b) (b ∷ rest) (rest_of r rest))
      by true is again = subst (λ t. Filled (suc r) v c m i (cond t [] (b ∷ text_of r rest)) (cond t (b ∷ rest) (rest_of r rest))) (sym is) (at-end v c m i (b ∷ rest) room has r is)
      by false is again =
          let p = next v c m i (b ∷ rest) room has in
          let here = address_of to (c + 1) in
          let n1 = put p.memory here (Known b) in
          subst (λ t. Filled (suc r) v c m i (cond t [] (b ∷ text_of r rest)) (cond t (b ∷ rest) (rest_of r rest))) (sym is)
          (one-more v c m i (b ∷ rest) room has r rest (text_of r rest) (rest_of r rest) refl is reached
          (again (taken n1) p.input
          (λ q low. laid-reached n1 (ahead_place choice ahead) 0 (word_bytes 256) (address_of to q) (reached-still p.memory here b (address_of to q) (still v c m i (b ∷ rest) room has reached q low)))
          (rest-has b rest (b ∷ rest) n1 p.input refl p.small p.left_is p.bytes)))
