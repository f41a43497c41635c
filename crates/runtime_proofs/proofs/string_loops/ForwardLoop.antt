-- The loop that moves bytes, the first one first, wherever the routine keeps its pointers and its count.
use Rattle.std.proofs.Common.{◌≡◌, ℕ, suc, ◌+◌, ◌*◌, ◌<◌, List, length, Ok, ℤ, refl, sym, ap, ◌∙◌, arith}
use Rattle.common_values.specs.integers.Words.{w16, wrapping_add, wrapping_sub, low_byte}
use Rattle.flat_code.specs.declared.tree.Address.TheVariants.{Local, Through}
use Rattle.flat_code.specs.declared.memory.Cell.TheVariants.{Known, Outside}
use Rattle.flat_code.specs.Tree.{Number, End}
use Rattle.flat_code.specs.Memory.{Cells, Found, ◌>>=◌, address_of, place_after, put, laid}
use Rattle.flat_code.specs.Program.{FlatProgram, Choice}
use Rattle.flat_code.specs.Meaning.{Frame}
use Rattle.runtime_proofs.specs.routine_proofs.Activation.{Activation, IsPlaced}
use Rattle.runtime_proofs.specs.routine_proofs.Straight.{Onward, Leaving, Came, outer_place, byte_seen, seen_value, with_word_at, continued, straight, code_size}
use Rattle.runtime_proofs.proofs.routine_proofs.Replies.{next_of, taken-so, other-so}
use Rattle.runtime_proofs.proofs.routine_proofs.Doing.{weaker-does, straight-does}
use Rattle.runtime_proofs.specs.strings_in_memory.Strings.{HasBytes, IsReached, CanMove, place}
use Rattle.runtime_proofs.proofs.strings_in_memory.Cells.{byte-read, store-so, plus-one}
use Rattle.runtime_proofs.proofs.strings_in_memory.Moves.{MovesByte, Moved, moves}
use Rattle.runtime_proofs.specs.string_loops.Pieces.{word, behind, forward_step, forward_round}
use Rattle.runtime_proofs.proofs.string_loops.Seen.{raise-so, lessen-so}

-- an activation that holds two pointers, into these segments, and how many bytes are left
pub record Moving (choice : Choice) (own : Frame) (above : ℕ) (to from left : ℤ) (to_segment from_segment : ℕ) (at : ℕ → ℕ → ℕ → Cells → Activation) : Type 0 where
  pub target : (t f n : ℕ) (m : Cells) (plus : ℕ) → outer_place choice own above (at t f n m) (Through to plus) ≡ Ok (place_after (place to_segment t) plus)
  pub source : (t f n : ℕ) (m : Cells) (plus : ℕ) → outer_place choice own above (at t f n m) (Through from plus) ≡ Ok (place_after (place from_segment f) plus)
  pub memory : (t f n : ℕ) (m : Cells) → (at t f n m).memory ≡ m
  pub to_word : (t f n : ℕ) (m : Cells) → seen_value choice own above (at t f n m) (word to) ≡ Ok t
  pub from_word : (t f n : ℕ) (m : Cells) → seen_value choice own above (at t f n m) (word from) ≡ Ok f
  pub left_word : (t f n : ℕ) (m : Cells) → seen_value choice own above (at t f n m) (word left) ≡ Ok n
  pub with_to : (t f n : ℕ) (m : Cells) (v : ℕ) → with_word_at choice own above (at t f n m) (Local to) v ≡ Ok (at v f n m)
  pub with_from : (t f n : ℕ) (m : Cells) (v : ℕ) → with_word_at choice own above (at t f n m) (Local from) v ≡ Ok (at t v n m)
  pub with_left : (t f n : ℕ) (m : Cells) (v : ℕ) → with_word_at choice own above (at t f n m) (Local left) v ≡ Ok (at t f v m)
  pub with_memory : (t f n : ℕ) (m k : Cells) → record (at t f n m) { memory = k } ≡ at t f n k

low-same : (b : ℕ) → b < 256 → low_byte b ≡ b
low-same b h = omega (arith, h)

module _ (program : FlatProgram) (choice : Choice) (own : Frame) (sp above : ℕ) (is_placed : IsPlaced choice own sp above) (to from left : ℤ) (ts fs : ℕ) (at : ℕ → ℕ → ℕ → Cells → Activation) (moving : Moving choice own above to from left ts fs at) where
  -- a byte that a pointer leads to
  pub byte-behind : (t f n plus byte : ℕ) (m : Cells) → m (address_of (place_after (place fs f) plus) 0) ≡ Known byte → byte < 256 → seen_value choice own above (at t f n m) (behind from plus) ≡ Ok byte
  byte-behind t f n plus byte m has small =
      ap (λ (found : Found _). found >>= λ p. byte_seen (at t f n m).memory p 0) (moving.source t f n m plus)
      ∙ ap (λ (k : Cells). byte_seen k (place_after (place fs f) plus) 0) (moving.memory t f n m)
      ∙ byte-read m (place_after (place fs f) plus) 0 byte has small

  -- where a byte was stored behind the other pointer
  pub stored : (t f n byte : ℕ) (m : Cells) (x y : ℕ) → x ≡ y → byte < 256 → record (at t f n m) { memory = put (at t f n m).memory x (Known (low_byte byte)) } ≡ at t f n (put m y (Known byte))
  stored t f n byte m x y e small =
      ap (λ (k : Cells). record (at t f n m) { memory = put k x (Known (low_byte byte)) }) (moving.memory t f n m)
      ∙ ap (λ (z : ℕ). record (at t f n m) { memory = put m z (Known (low_byte byte)) }) e
      ∙ ap (λ (b : ℕ). record (at t f n m) { memory = put m y (Known b) }) (low-same byte small)
      ∙ moving.with_memory t f n m (put m y (Known byte))

  one-step : (t f n byte : ℕ) (m : Cells) → n < 65535 → m (address_of (place fs f) 1) ≡ Known byte → byte < 256 → (m (address_of (place ts t) 1) ≡ Outside → ⊥) →
      straight choice own above (forward_step to from left) (at t f (suc n) m) ≡ Ok (record { exit = Onward; there = at (wrapping_add w16 t 1) (wrapping_add w16 f 1) n (put m (address_of (place ts t) 1) (Known byte)) })
  one-step t f n byte m short has small reached =
      let a = at t f (suc n) m in
      let p = place_after (place ts t) 1 in
      let same = plus-one ts t 0 in
      let k = put m (address_of (place ts t) 1) (Known byte) in
      let t' = wrapping_add w16 t 1 in
      let f' = wrapping_add w16 f 1 in
      let steps = forward_step to from left in
      let fewer : wrapping_sub w16 (suc n) 1 ≡ n = omega (arith, short) in
      store-so choice own above (Through to 1) (behind from 1) (next_of steps) a p byte
      (byte-behind t f (suc n) 1 byte m (ap m (plus-one fs f 0) ∙ has) small) (moving.target t f (suc n) m 1)
      (λ out. reached (ap m (sym same) ∙ (ap (λ (c : Cells). c (address_of p 0)) (sym (moving.memory t f (suc n) m)) ∙ out)))
      ∙ ap (straight choice own above (next_of steps)) (stored t f (suc n) byte m (address_of p 0) (address_of (place ts t) 1) same small)
      ∙ raise-so choice own above to (Number 1) (next_of (next_of steps)) (at t f (suc n) k) (at t' f (suc n) k) t 1 (moving.to_word t f (suc n) k) refl (moving.with_to t f (suc n) k t')
      ∙ raise-so choice own above from (Number 1) (next_of (next_of (next_of steps))) (at t' f (suc n) k) (at t' f' (suc n) k) f 1 (moving.from_word t' f (suc n) k) refl (moving.with_from t' f (suc n) k f')
      ∙ lessen-so choice own above left (Number 1) End (at t' f' (suc n) k) (at t' f' (wrapping_sub w16 (suc n) 1) k) (suc n) 1 (moving.left_word t' f' (suc n) k) refl (moving.with_left t' f' (suc n) k (wrapping_sub w16 (suc n) 1))
      ∙ ap (λ (v : ℕ). straight choice own above End (at t' f' v k)) fewer

  none-left : (t f : ℕ) (m : Cells) → straight choice own above (forward_round to from left) (at t f 0 m) ≡ Ok (record { exit = Leaving 0; there = at t f 0 m })
  none-left t f m = other-so choice own above (forward_round to from left) (at t f 0 m) 0 (record { exit = Leaving 0; there = at t f 0 m }) (moving.left_word t f 0 m) refl refl

  one-round : (t f n byte : ℕ) (m : Cells) → n < 65535 → m (address_of (place fs f) 1) ≡ Known byte → byte < 256 → (m (address_of (place ts t) 1) ≡ Outside → ⊥) →
      straight choice own above (forward_round to from left) (at t f (suc n) m) ≡ Ok (record { exit = Onward; there = at (wrapping_add w16 t 1) (wrapping_add w16 f 1) n (put m (address_of (place ts t) 1) (Known byte)) })
  one-round t f n byte m short has small reached =
      let came : Came = record { exit = Onward; there = at (wrapping_add w16 t 1) (wrapping_add w16 f 1) n (put m (address_of (place ts t) 1) (Known byte)) } in
      taken-so choice own above (forward_round to from left) (at t f (suc n) m) (suc n) came (moving.left_word t f (suc n) m) (λ z. omega (arith, z))
      (ap (λ (x : Found Came). x >>= λ c. continued c.exit c.there (straight choice own above End)) (one-step t f n byte m short has small reached))

  moves-byte : MovesByte program choice own sp (forward_round to from left) 18 ts fs at
  moves-byte = record {
    round = λ t f n byte m short has small reached.
        let b = at (wrapping_add w16 t 1) (wrapping_add w16 f 1) n (put m (address_of (place ts t) 1) (Known byte)) in
        weaker-does program choice own sp (forward_round to from left) 0 (code_size (forward_round to from left)) 0 18 (at t f (suc n) m) Onward b (omega arith) (omega arith)
        (straight-does program choice own sp above is_placed (forward_round to from left) (at t f (suc n) m) Onward b (one-round t f n byte m short has small reached));
    last = λ t f m. weaker-does program choice own sp (forward_round to from left) 0 (code_size (forward_round to from left)) 0 18 (at t f 0 m) (Leaving 0) (at t f 0 m) (omega arith) (omega arith)
        (straight-does program choice own sp above is_placed (forward_round to from left) (at t f 0 m) (Leaving 0) (at t f 0 m) (none-left t f m));
  }

  -- so many bytes are moved
  pub forward-does : (text : List ℕ) (t f : ℕ) (m : Cells) → length text < 65536 → HasBytes m (place fs f) 1 text → IsReached m (place ts t) (1 + length text) → CanMove (place ts t) (place fs f) (1 + length text) →
      Moved program choice own sp (forward_round to from left) (1 + length text) (20 * (1 + length text)) at (at t f (length text) m) (laid m (place ts t) 1 text)
  forward-does text t f m short has reached can = moves program choice own sp (forward_round to from left) 18 ts fs at moves-byte text t f m short has reached can
