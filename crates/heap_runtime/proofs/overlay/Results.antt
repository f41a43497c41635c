-- The store of a word in OvrResult, and what is left of it.
use Rattle.std.proofs.Common.{◌≡◌, ℕ, ◌+◌, ◌≤◌, ◌<◌, [], ◌∷◌, get_or, Some, Ok, zero, suc, refl, ap, ◌∙◌, arith}
use Rattle.common_values.specs.integers.Words.{w16, wrapping_add, low_byte, high_byte}
use Rattle.flat_code.specs.declared.tree.Address.TheVariants.{Global}
use Rattle.flat_code.specs.declared.memory.Place.{Place}
use Rattle.flat_code.specs.declared.memory.Cell.{Cell}
use Rattle.flat_code.specs.declared.memory.Cell.TheVariants.{Known, Unset, Outside}
use Rattle.flat_code.specs.Tree.{Number, Code}
use Rattle.flat_code.specs.Memory.{Cells, Found, ◌>>=◌, address_of, place_after, put, if_inside, store_bytes, word_bytes, laid}
use Rattle.flat_code.specs.Program.{Name, Choice, overlay_unit}
use Rattle.flat_code.specs.Meaning.{Frame, if_placed}
use Rattle.flat_code.specs.Gives.{IsBelow}
use Rattle.runtime_proofs.specs.routine_proofs.Activation.{Activation}
use Rattle.runtime_proofs.specs.routine_proofs.Straight.{outer_place, seen_value, onward, continued, straight}
use Rattle.runtime_proofs.specs.strings_in_memory.Strings.{HasBytes, IsReached, IsOffStack, place}
use Rattle.runtime_proofs.proofs.strings_in_memory.Cells.{byte-stored, bytes-kept, laid-has, laid-other, word-so}
use Rattle.runtime_proofs.proofs.string_loops.BackwardLoop.{reached-still}
use Rattle.heap_runtime.specs.overlay.Routines.{result_at, set_result}
use Rattle.heap_runtime.specs.overlay.Specifications.{IsResult}

-- ---- where the data lie

no-further : (segment o : ℕ) → o < 65536 → place_after (place segment o) 0 ≡ place segment o
no-further segment o small = ap (λ x. place segment x) (same o small)
  where
    same : (o : ℕ) → o < 65536 → wrapping_add w16 o 0 ≡ o
    same o h = omega (arith, h)

pub datum-at : (choice : Choice) (own : Frame) (above : ℕ) → own.unit ≡ overlay_unit → (a : Activation) (number at : ℕ) → at < 65536 → choice.datum (record { unit = overlay_unit; number = number }) ≡ Some at → outer_place choice own above a (Global 0 number 0) ≡ Ok (place choice.data_segment at)
datum-at choice own above is_overlay a number at small e =
    ap (λ (name : Name). let r : Found Place = (if_placed (choice.datum (record { unit = name; number = number })) >>= λ offset. Ok (place choice.data_segment offset)) >>= λ p. Ok (place_after p 0) in r) is_overlay
    ∙ ap (λ o. let r : Found Place = (if_placed o >>= λ offset. Ok (place choice.data_segment offset)) >>= λ p. Ok (place_after p 0) in r) e
    ∙ ap (λ p. let r : Found Place = Ok p in r) (no-further choice.data_segment at small)

-- ---- a word is stored

inside-so : (cell : Cell) (m : Cells) → (cell ≡ Outside → ⊥) → if_inside cell m ≡ Ok m
inside-so (Known byte) m h = refl
inside-so Unset m h = refl
inside-so Outside m h = absurd (h refl)

word-laid : (m : Cells) (p : Place) (v : ℕ) → IsReached m p 2 → store_bytes m p 0 (word_bytes v) ≡ Ok (laid m p 0 (word_bytes v))
word-laid m p v reached =
    let m1 = put m (address_of p 0) (Known (low_byte v)) in
    ap (λ (x : Found Cells). x >>= λ n. store_bytes n p 1 (high_byte v ∷ [])) (inside-so (m (address_of p 0)) m1 (reached 0 (omega arith)))
    ∙ byte-stored m1 p 1 (high_byte v) (reached-still m (address_of p 0) (low_byte v) (address_of p 1) (reached 1 (omega arith)))

pub result-so : (choice : Choice) (own : Frame) (above : ℕ) (a : Activation) (p : Place) (v : ℕ) (next : Code) → seen_value choice own above a (Number v) ≡ Ok v → outer_place choice own above a result_at ≡ Ok p → IsReached a.memory p 2 →
    straight choice own above (set_result v next) a ≡ straight choice own above next (record a { memory = laid a.memory p 0 (word_bytes v) })
result-so choice own above a p v next e f reached =
    word-so choice own above result_at (Number v) next a v e
    ∙ ap (λ (x : Found Place). ((x >>= λ p. store_bytes a.memory p 0 (word_bytes v) >>= λ m. Ok (record a { memory = m })) >>= λ b. onward b) >>= λ c. continued c.exit c.there (straight choice own above next)) f
    ∙ ap (λ (x : Found Cells). ((x >>= λ m. Ok (record a { memory = m })) >>= λ b. onward b) >>= λ c. continued c.exit c.there (straight choice own above next)) (word-laid a.memory p v reached)

-- ---- what is left of it

small-bytes : (v k : ℕ) → k < 2 → get_or (word_bytes v) k 0 < 256
small-bytes v zero h = omega arith
small-bytes v (suc zero) h = omega arith
small-bytes v (suc (suc k)) h = absurd (omega (arith, h))

pub fewer-off : (choice : Choice) (sp : ℕ) (p : Place) (n k : ℕ) → k ≤ n → IsOffStack choice sp p n → IsOffStack choice sp p k
fewer-off choice sp p n k less off i h = off i (omega (arith, h, less))

-- nothing else is changed
pub others-stay : (choice : Choice) (at v : ℕ) (m : Cells) (x : ℕ) → (IsResult choice at x → ⊥) → laid m (place choice.data_segment at) 0 (word_bytes v) x ≡ m x
others-stay choice at v m x free =
    laid-other m (place choice.data_segment at) 0 (word_bytes v) x
    (λ k h e. let same : 0 + k ≡ k = omega arith in free (k, h, e ∙ ap (address_of (place choice.data_segment at)) same))

-- and the word stands there after the call
pub result-left : (choice : Choice) (sp at v : ℕ) (m after : Cells) → IsOffStack choice sp (place choice.data_segment at) 2 → ((x : ℕ) → (IsBelow choice sp x → ⊥) → after x ≡ laid m (place choice.data_segment at) 0 (word_bytes v) x) → HasBytes after (place choice.data_segment at) 0 (word_bytes v)
result-left choice sp at v m after off same =
    let p = place choice.data_segment at in
    let now = laid m p 0 (word_bytes v) in
    bytes-kept now after p 0 (word_bytes v) (λ k h. same (address_of p (0 + k)) (off (0 + k) (omega (arith, h)))) (laid-has m choice.data_segment at 0 (word_bytes v) (omega arith) (λ k h. small-bytes v k h))
