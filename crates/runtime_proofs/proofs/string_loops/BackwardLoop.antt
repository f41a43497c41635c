-- The loop that moves bytes, the last one first.
use Rattle.std.proofs.Common.{◌≡◌, ℕ, suc, ◌+◌, ◌*◌, ◌<◌, List, [], ◌∷◌, length, get_or, Ok, ℤ, refl, sym, ap, subst, ◌∙◌, arith, ⊎_elim}
use Rattle.std.proofs.lemmas.Bool.{cases_eq}
use Rattle.common_values.specs.integers.Words.{w16, wrapping_add, wrapping_sub}
use Rattle.flat_code.specs.declared.tree.Address.TheVariants.{Through}
use Rattle.flat_code.specs.declared.memory.Cell.TheVariants.{Known, Outside}
use Rattle.flat_code.specs.declared.memory.Place.{Place}
use Rattle.flat_code.specs.Tree.{Number, End, Loop}
use Rattle.flat_code.specs.Memory.{Cells, Found, ◌>>=◌, address_of, place_after, put}
use Rattle.flat_code.specs.Program.{FlatProgram, Choice}
use Rattle.flat_code.specs.Meaning.{Frame}
use Rattle.flat_code.proofs.Shut.{put_other}
use Rattle.runtime_proofs.specs.routine_proofs.Activation.{Activation, IsPlaced}
use Rattle.runtime_proofs.specs.routine_proofs.Straight.{Exit, Onward, Leaving, Came, continued, straight, code_size}
use Rattle.runtime_proofs.specs.routine_proofs.Comes.{Does}
use Rattle.runtime_proofs.proofs.routine_proofs.Replies.{next_of, taken-so, other-so}
use Rattle.runtime_proofs.proofs.routine_proofs.Doing.{weaker-does, straight-does, round-does, leave-does}
use Rattle.runtime_proofs.specs.strings_in_memory.Strings.{HasBytes, IsReached, CanMove, place}
use Rattle.runtime_proofs.proofs.strings_in_memory.Cells.{put-same, store-so, apart-in}
use Rattle.runtime_proofs.specs.string_loops.Pieces.{behind, backward_step, backward_round}
use Rattle.runtime_proofs.specs.string_loops.Laid.{laid_back}
use Rattle.runtime_proofs.proofs.string_loops.Seen.{lessen-so}
use Rattle.runtime_proofs.proofs.string_loops.ForwardLoop.{Moving, byte-behind, stored}

-- what is known can be reached
pub reached-still : (m : Cells) (a b x : ℕ) → (m x ≡ Outside → ⊥) → put m a (Known b) x ≡ Outside → ⊥
reached-still m a b x h out = ⊎_elim
    (λ (e : x ≡ a). let k : Known b ≡ Outside = sym (put-same m a (Known b)) ∙ ap (put m a (Known b)) (sym e) ∙ out in absurd (cc))
    (λ ne. h (sym (put_other m a (Known b) x ne) ∙ out)) (cases_eq x a)

-- ---- bytes that were stored from the last one to the first

pub laid_back-other : (m : Cells) (p : Place) (i : ℕ) (bytes : List ℕ) (x : ℕ) → ((k : ℕ) → k < length bytes → x ≡ address_of p (i + k) → ⊥) → laid_back m p i bytes x ≡ m x
laid_back-other m p i [] x ne = refl
laid_back-other m p i (b ∷ bytes) x ne =
    let first : i + 0 ≡ i = omega arith in
    put_other (laid_back m p (i + 1) bytes) (address_of p i) (Known b) x (λ e. ne 0 (omega arith) (e ∙ ap (address_of p) (sym first)))
    ∙ laid_back-other m p (i + 1) bytes x (λ k h e. let q : i + 1 + k ≡ i + (k + 1) = omega arith in ne (k + 1) (omega (arith, h)) (e ∙ ap (address_of p) q))

pub laid_back-reached : (m : Cells) (p : Place) (i : ℕ) (bytes : List ℕ) (x : ℕ) → (m x ≡ Outside → ⊥) → laid_back m p i bytes x ≡ Outside → ⊥
laid_back-reached m p i [] x h = h
laid_back-reached m p i (b ∷ bytes) x h = reached-still (laid_back m p (i + 1) bytes) (address_of p i) b x (laid_back-reached m p (i + 1) bytes x h)

bytes-so : (m n : Cells) (p : Place) (i : ℕ) (bytes : List ℕ) → ((k : ℕ) → k < length bytes → n (address_of p (i + k)) ≡ m (address_of p (i + k))) → HasBytes m p i bytes → HasBytes n p i bytes
bytes-so m n p i [] same has = tt
bytes-so m n p i (b ∷ bytes) same has =
    let first : i + 0 ≡ i = omega arith in
    (ap n (ap (address_of p) (sym first)) ∙ same 0 (omega arith) ∙ ap m (ap (address_of p) first) ∙ has.0, has.1, bytes-so m n p (i + 1) bytes (λ k h. let e : i + (k + 1) ≡ i + 1 + k = omega arith in subst (λ j. n (address_of p j) ≡ m (address_of p j)) e (same (k + 1) (omega (arith, h)))) has.2)

pub laid_back-has : (m : Cells) (segment o i : ℕ) (bytes : List ℕ) → i + length bytes < 65536 → ((k : ℕ) → k < length bytes → get_or bytes k 0 < 256) → HasBytes (laid_back m (place segment o) i bytes) (place segment o) i bytes
laid_back-has m segment o i [] short small = tt
laid_back-has m segment o i (b ∷ bytes) short small =
    let p : Place = place segment o in
    let n = laid_back m p (i + 1) bytes in (
      put-same n (address_of p i) (Known b),
      small 0 (omega arith),
      bytes-so n (put n (address_of p i) (Known b)) p (i + 1) bytes (λ k h. put_other n (address_of p i) (Known b) (address_of p (i + 1 + k)) (λ e. apart-in segment o i (i + 1 + k) (omega arith) (omega (arith, h, short)) (sym e)))
          (laid_back-has m segment o (i + 1) bytes (omega (arith, short)) (λ k h. small (suc k) (omega (arith, h)))),
    )

-- ---- the loop

-- the byte at so many places behind a pointer
at-last : (segment o i : ℕ) → address_of (place_after (place segment (wrapping_add w16 o i)) 0) 0 ≡ address_of (place segment o) i
at-last segment o i = omega arith

one-back : (o i : ℕ) → wrapping_sub w16 (wrapping_add w16 o (i + 1)) 1 ≡ wrapping_add w16 o i
one-back o i = omega arith

module _ (program : FlatProgram) (choice : Choice) (own : Frame) (sp above : ℕ) (is_placed : IsPlaced choice own sp above) (to from left : ℤ) (ts fs : ℕ) (at : ℕ → ℕ → ℕ → Cells → Activation) (moving : Moving choice own above to from left ts fs at) (T F : ℕ) where
  -- the i-th byte behind both places is the last one that is left
  abbrev back : ℕ → Cells → Activation
  back i m = at (wrapping_add w16 T i) (wrapping_add w16 F i) i m

  step-back : (i byte : ℕ) (m : Cells) → i < 65535 → m (address_of (place fs F) (i + 1)) ≡ Known byte → byte < 256 → (m (address_of (place ts T) (i + 1)) ≡ Outside → ⊥) →
      straight choice own above (backward_step to from left) (back (i + 1) m) ≡ Ok (record { exit = Onward; there = back i (put m (address_of (place ts T) (i + 1)) (Known byte)) })
  step-back i byte m short has small reached =
      let t = wrapping_add w16 T (i + 1) in
      let f = wrapping_add w16 F (i + 1) in
      let n = i + 1 in
      let p = place_after (place ts t) 0 in
      let same = at-last ts T (i + 1) in
      let k = put m (address_of (place ts T) (i + 1)) (Known byte) in
      let t' = wrapping_sub w16 t 1 in
      let f' = wrapping_sub w16 f 1 in
      let steps = backward_step to from left in
      let fewer : wrapping_sub w16 n 1 ≡ i = omega (arith, short) in
      store-so choice own above (Through to 0) (behind from 0) (next_of steps) (at t f n m) p byte
      (byte-behind program choice own sp above is_placed to from left ts fs at moving t f n 0 byte m (ap m (at-last fs F (i + 1)) ∙ has) small) (moving.target t f n m 0)
      (λ out. reached (ap m (sym same) ∙ (ap (λ (c : Cells). c (address_of p 0)) (sym (moving.memory t f n m)) ∙ out)))
      ∙ ap (straight choice own above (next_of steps)) (stored program choice own sp above is_placed to from left ts fs at moving t f n byte m (address_of p 0) (address_of (place ts T) (i + 1)) same small)
      ∙ lessen-so choice own above to (Number 1) (next_of (next_of steps)) (at t f n k) (at t' f n k) t 1 (moving.to_word t f n k) refl (moving.with_to t f n k t')
      ∙ lessen-so choice own above from (Number 1) (next_of (next_of (next_of steps))) (at t' f n k) (at t' f' n k) f 1 (moving.from_word t' f n k) refl (moving.with_from t' f n k f')
      ∙ lessen-so choice own above left (Number 1) End (at t' f' n k) (at t' f' (wrapping_sub w16 n 1) k) n 1 (moving.left_word t' f' n k) refl (moving.with_left t' f' n k (wrapping_sub w16 n 1))
      ∙ ap (λ (v : ℕ). straight choice own above End (at t' f' v k)) fewer
      ∙ ap (λ (v : ℕ). straight choice own above End (at v f' i k)) (one-back T i)
      ∙ ap (λ (v : ℕ). straight choice own above End (at (wrapping_add w16 T i) v i k)) (one-back F i)

  round-back : (i byte : ℕ) (m : Cells) → i < 65535 → m (address_of (place fs F) (i + 1)) ≡ Known byte → byte < 256 → (m (address_of (place ts T) (i + 1)) ≡ Outside → ⊥) →
      Does program choice own sp (backward_round to from left) 0 18 (back (i + 1) m) Onward (back i (put m (address_of (place ts T) (i + 1)) (Known byte)))
  round-back i byte m short has small reached =
      let b = back i (put m (address_of (place ts T) (i + 1)) (Known byte)) in
      let came : Came = record { exit = Onward; there = b } in
      let round = backward_round to from left in
      weaker-does program choice own sp round 0 (code_size round) 0 18 (back (i + 1) m) Onward b (omega arith) (omega arith)
      (straight-does program choice own sp above is_placed round (back (i + 1) m) Onward b
      (taken-so choice own above round (back (i + 1) m) (i + 1) came (moving.left_word (wrapping_add w16 T (i + 1)) (wrapping_add w16 F (i + 1)) (i + 1) m) (λ z. omega (arith, z))
      (ap (λ (x : Found Came). x >>= λ c. continued c.exit c.there (straight choice own above End)) (step-back i byte m short has small reached))))

  -- the bytes behind the i-th one are moved, and then the loop goes on
  rounds-back : (text : List ℕ) (i : ℕ) (m : Cells) (turns work : ℕ) (exit : Exit) (c : Activation) → i + length text < 65535 → HasBytes m (place fs F) (i + 1) text → IsReached m (place ts T) (1 + i + length text) → CanMove (place fs F) (place ts T) (1 + i + length text) →
      Does program choice own sp (Loop (backward_round to from left) End) turns work (back i (laid_back m (place ts T) (i + 1) text)) exit c →
      Does program choice own sp (Loop (backward_round to from left) End) (length text + turns) (20 * length text + work) (back (i + length text) m) exit c
  rounds-back [] i m turns work exit c short has reached can rest =
      let here : i ≡ i + 0 = omega arith in
      let loop = Loop (backward_round to from left) End in
      weaker-does program choice own sp loop turns work (0 + turns) (20 * 0 + work) (back (i + 0) m) exit c (omega arith) (omega arith)
      (subst (λ j. Does program choice own sp loop turns work (back j m) exit c) here rest)
  rounds-back (b ∷ text) i m turns work exit c short has reached can rest =
      let loop = Loop (backward_round to from left) End in
      let more = laid_back m (place ts T) (i + 1 + 1) text in
      let there : more (address_of (place fs F) (i + 1)) ≡ Known b =
      laid_back-other m (place ts T) (i + 1 + 1) text (address_of (place fs F) (i + 1)) (λ k h e. can (i + 1) (i + 1 + 1 + k) (omega arith) (omega (arith, h)) e) ∙ has.0 in
      let inside = laid_back-reached m (place ts T) (i + 1 + 1) text (address_of (place ts T) (i + 1)) (reached (i + 1) (omega arith)) in
      let first = round-back i b more (omega (arith, short)) there has.1 inside in
      let last = round-does program choice own sp (backward_round to from left) 0 18 turns work (back (i + 1) more) (back i (put more (address_of (place ts T) (i + 1)) (Known b))) exit c first rest in
      let before = rounds-back text (i + 1) m (1 + 0 + turns) (2 + 18 + work) exit c (omega (arith, short)) has.2 (λ j h. reached j (omega (arith, h))) (λ j k p q. can j k p (omega (arith, q))) last in
      let here : i + 1 + length text ≡ i + suc (length text) = omega arith in
      weaker-does program choice own sp loop (length text + (1 + 0 + turns)) (20 * length text + (2 + 18 + work)) (suc (length text) + turns) (20 * suc (length text) + work) (back (i + suc (length text)) m) exit c (omega arith) (omega arith)
      (subst (λ j. Does program choice own sp loop (length text + (1 + 0 + turns)) (20 * length text + (2 + 18 + work)) (back j m) exit c) here before)

  none-back : (m : Cells) → Does program choice own sp (Loop (backward_round to from left) End) 1 20 (back 0 m) Onward (back 0 m)
  none-back m =
      let round = backward_round to from left in
      let t = wrapping_add w16 T 0 in
      let f = wrapping_add w16 F 0 in
      weaker-does program choice own sp (Loop round End) (1 + 0) (2 + 18) 1 20 (back 0 m) Onward (back 0 m) (omega arith) (omega arith)
      (leave-does program choice own sp round 0 18 (back 0 m) (Leaving 0) Onward (back 0 m) refl
      (weaker-does program choice own sp round 0 (code_size round) 0 18 (back 0 m) (Leaving 0) (back 0 m) (omega arith) (omega arith)
      (straight-does program choice own sp above is_placed round (back 0 m) (Leaving 0) (back 0 m)
      (other-so choice own above round (back 0 m) 0 (record { exit = Leaving 0; there = back 0 m }) (moving.left_word t f 0 m) refl refl))))

  -- so many bytes are moved
  pub backward-does : (text : List ℕ) (m : Cells) → length text < 65535 → HasBytes m (place fs F) 1 text → IsReached m (place ts T) (1 + length text) → CanMove (place fs F) (place ts T) (1 + length text) →
      Does program choice own sp (Loop (backward_round to from left) End) (1 + length text) (20 * (1 + length text)) (back (length text) m) Onward (back 0 (laid_back m (place ts T) 1 text))
  backward-does text m short has reached can =
      let loop = Loop (backward_round to from left) End in
      let n = length text in
      let last = none-back (laid_back m (place ts T) 1 text) in
      let all = rounds-back text 0 m 1 20 Onward (back 0 (laid_back m (place ts T) 1 text)) (omega (arith, short)) has (λ j h. reached j (omega (arith, h))) (λ j k p q. can j k p (omega (arith, q))) last in
      let here : 0 + n ≡ n = omega arith in
      weaker-does program choice own sp loop (n + 1) (20 * n + 20) (1 + n) (20 * (1 + n)) (back n m) Onward (back 0 (laid_back m (place ts T) 1 text)) (omega arith) (omega arith)
      (subst (λ j. Does program choice own sp loop (n + 1) (20 * n + 20) (back j m) Onward (back 0 (laid_back m (place ts T) 1 text))) here all)
