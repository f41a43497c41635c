-- A loop that moves bytes, the first one first.
use Rattle.std.proofs.Common.{◌≡◌, ℕ, suc, ◌+◌, ◌*◌, ◌<◌, List, [], ◌∷◌, length, refl, sym, ap, subst, ◌∙◌, arith, ⊎_elim}
use Rattle.std.proofs.lemmas.Bool.{cases_eq}
use Rattle.common_values.specs.integers.Words.{w16, wrapping_add}
use Rattle.flat_code.specs.declared.memory.Cell.TheVariants.{Known, Outside}
use Rattle.flat_code.specs.Tree.{Code, End, Loop}
use Rattle.flat_code.specs.Memory.{Cells, address_of, put, laid}
use Rattle.flat_code.specs.Program.{FlatProgram, Choice}
use Rattle.flat_code.specs.Meaning.{Frame}
use Rattle.flat_code.proofs.Shut.{put_other}
use Rattle.runtime_proofs.specs.routine_proofs.Activation.{Activation}
use Rattle.runtime_proofs.specs.routine_proofs.Straight.{Onward, Leaving}
use Rattle.runtime_proofs.specs.routine_proofs.Comes.{Does}
use Rattle.runtime_proofs.proofs.routine_proofs.Doing.{weaker-does, round-does, leave-does}
use Rattle.runtime_proofs.specs.strings_in_memory.Strings.{HasBytes, IsReached, CanMove, place}
use Rattle.runtime_proofs.proofs.strings_in_memory.Cells.{put-same, after-one, bytes-kept, bytes-further, laid-further}

-- what is known can be reached
reached-still : (m : Cells) (a b x : ℕ) → (m x ≡ Outside → ⊥) → put m a (Known b) x ≡ Outside → ⊥
reached-still m a b x h out = ⊎_elim
    (λ (e : x ≡ a). let k : Known b ≡ Outside = sym (put-same m a (Known b)) ∙ ap (put m a (Known b)) (sym e) ∙ out in absurd (cc))
    (λ ne. h (sym (put_other m a (Known b) x ne) ∙ out)) (cases_eq x a)

-- the body moves the byte behind both places, and steps on; where none is left it leaves the loop
pub record MovesByte (program : FlatProgram) (choice : Choice) (own : Frame) (sp : ℕ) (body : Code) (work to_segment from_segment : ℕ) (at : ℕ → ℕ → ℕ → Cells → Activation) : Type 0 where
  pub round : (to from left byte : ℕ) (m : Cells) → left < 65535 → m (address_of (place from_segment from) 1) ≡ Known byte → byte < 256 → (m (address_of (place to_segment to) 1) ≡ Outside → ⊥) →
      Does program choice own sp body 0 work (at to from (suc left) m) Onward (at (wrapping_add w16 to 1) (wrapping_add w16 from 1) left (put m (address_of (place to_segment to) 1) (Known byte)))
  pub last : (to from : ℕ) (m : Cells) → Does program choice own sp body 0 work (at to from 0 m) (Leaving 0) (at to from 0 m)

-- where it stands in the end
pub record Moved (program : FlatProgram) (choice : Choice) (own : Frame) (sp : ℕ) (body : Code) (turns work : ℕ) (at : ℕ → ℕ → ℕ → Cells → Activation) (a : Activation) (m : Cells) : Type 0 where
  pub to : ℕ
  pub from : ℕ
  pub does : Does program choice own sp (Loop body End) turns work a Onward (at to from 0 m)

pub moves : (program : FlatProgram) (choice : Choice) (own : Frame) (sp : ℕ) (body : Code) (work to_segment from_segment : ℕ) (at : ℕ → ℕ → ℕ → Cells → Activation) → MovesByte program choice own sp body work to_segment from_segment at →
    (text : List ℕ) (to from : ℕ) (m : Cells) → length text < 65536 → HasBytes m (place from_segment from) 1 text → IsReached m (place to_segment to) (1 + length text) → CanMove (place to_segment to) (place from_segment from) (1 + length text) →
    Moved program choice own sp body (1 + length text) ((2 + work) * (1 + length text)) at (at to from (length text) m) (laid m (place to_segment to) 1 text)
moves program choice own sp body work ts fs at step [] to from m short has reached apart = record {
  to = to;
  from = from;
  does = weaker-does program choice own sp (Loop body End) 1 (2 + work) 1 ((2 + work) * (1 + 0)) (at to from 0 m) Onward (at to from 0 m) (omega arith) (omega arith)
      (leave-does program choice own sp body 0 work (at to from 0 m) (Leaving 0) Onward (at to from 0 m) refl (step.last to from m));
}
moves program choice own sp body work ts fs at step (byte ∷ text) to from m short has reached apart =
    let n = put m (address_of (place ts to) 1) (Known byte) in
    let to' = wrapping_add w16 to 1 in
    let from' = wrapping_add w16 from 1 in
    let first = step.round to from (length text) byte m (omega (arith, short)) has.0 has.1 (reached 1 (omega arith)) in
    let kept = bytes-kept m n (place fs from) 2 text (λ k h. put_other m (address_of (place ts to) 1) (Known byte) (address_of (place fs from) (2 + k)) (λ e. apart 1 (2 + k) (omega arith) (omega (arith, h)) (sym e))) has.2 in
    let rest = moves program choice own sp body work ts fs at step text to' from' n (omega (arith, short)) (bytes-further n fs from 1 text kept)
    (λ i h out. reached-still m (address_of (place ts to) 1) byte (address_of (place ts to) (i + 1)) (reached (i + 1) (omega (arith, h))) (ap n (sym (after-one ts to i)) ∙ out))
    (λ i j p q e. apart (i + 1) (j + 1) (omega (arith, p)) (omega (arith, q)) (sym (after-one ts to i) ∙ e ∙ after-one fs from j)) in
    record {
      to = rest.to;
      from = rest.from;
      does = weaker-does program choice own sp (Loop body End) (1 + 0 + (1 + length text)) (2 + work + (2 + work) * (1 + length text)) (1 + suc (length text)) ((2 + work) * (1 + suc (length text))) (at to from (suc (length text)) m) Onward (at rest.to rest.from 0 (laid m (place ts to) 1 (byte ∷ text))) (omega arith) (omega arith)
          (subst (λ k. Does program choice own sp (Loop body End) (1 + 0 + (1 + length text)) (2 + work + (2 + work) * (1 + length text)) (at to from (suc (length text)) m) Onward (at rest.to rest.from 0 k)) (laid-further n ts to 1 text)
          (round-does program choice own sp body 0 work (1 + length text) ((2 + work) * (1 + length text)) (at to from (suc (length text)) m) (at to' from' (length text) n) Onward (at rest.to rest.from 0 (laid n (place ts to') 1 text)) first rest.does));
    }
