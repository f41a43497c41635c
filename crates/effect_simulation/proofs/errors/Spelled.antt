-- Bytes that stand one after another in known memory.
use Rattle.std.proofs.Common.{◌≡◌, ◌≢◌, ℕ, zero, suc, ◌+◌, ◌<◌, List, [], ◌∷◌, ◌++◌, length, Ok, arith, refl, ap, subst, ◌∙◌}
use Rattle.std.specs.Prelude.{Some}
use Rattle.cpu_8086.specs.Memory.{address, next_offset}
use Rattle.resident_machine.specs.Astray.{and_then}
use Rattle.resident_machine.specs.Cells.{Known, Cells, known_then, known_bytes, with_cell}
use Rattle.resident_machine.proofs.machine_lines.Words.{addresses_differ, same_cell, other_cell}
use Rattle.statement_simulation.specs.flow.Sites.{Live}
use Rattle.effect_simulation.specs.errors.Routine.{AreFixed}

-- these bytes stand from an offset on
abbrev pub Spells : Cells → ℕ → ℕ → List ℕ → Type 0
Spells c segment offset [] = Unit {0}
Spells c segment offset (b ∷ bs) = (c (address segment offset) ≡ Known b) × Spells c segment (offset + 1) bs

pub spelled_known : (c : Cells) (segment offset : ℕ) (bs : List ℕ) → offset + length bs < 65536 → Spells c segment offset bs → known_bytes c segment offset (length bs) ≡ Ok bs
spelled_known c segment offset [] fits s = refl
spelled_known c segment offset (b ∷ bs) fits s =
    let next : next_offset offset ≡ offset + 1 = omega arith in
    ap (λ x. known_then x (λ v. and_then (known_bytes c segment (next_offset offset) (length bs)) (λ vs. Ok (v ∷ vs)))) s.0
    ∙ ap (λ o. and_then (known_bytes c segment o (length bs)) (λ vs. Ok (b ∷ vs))) next
    ∙ ap (λ found. and_then found (λ vs. Ok (b ∷ vs))) (spelled_known c segment (offset + 1) bs (omega arith) s.1)

-- a byte is stored that is none of them
pub spelled_other : (c : Cells) (segment offset o v : ℕ) (bs : List ℕ) → offset + length bs < 65536 → o < 65536 → ((i : ℕ) → i < length bs → o ≢ offset + i) → Spells c segment offset bs → Spells (with_cell c (address segment o) (Known v)) segment offset bs
spelled_other c segment offset o v [] fits small apart s = tt
spelled_other c segment offset o v (b ∷ bs) fits small apart s =
    let here : offset ≢ o = λ e. apart 0 (omega arith) (omega arith) in (
      other_cell c (address segment o) (Known v) (address segment offset) (addresses_differ segment offset o (omega arith) small here) ∙ s.0,
      spelled_other c segment (offset + 1) o v bs (omega arith) small (λ i less e. apart (suc i) (omega arith) (omega arith)) s.1,
    )

-- a byte is stored before them
pub spelled_before : (c : Cells) (segment o v : ℕ) (bs : List ℕ) → o + 1 + length bs < 65536 → Spells c segment (o + 1) bs → Spells (with_cell c (address segment o) (Known v)) segment o (v ∷ bs)
spelled_before c segment o v bs fits s =
    (same_cell c (address segment o) (Known v), spelled_other c segment (o + 1) o v bs (omega arith) (omega arith) (λ i less e. absurd (omega arith)) s)

-- fixed bytes that are known stand there
pub fixed_spelled : (live : Live) (c : Cells) (segment offset : ℕ) (bs : List ℕ) → ((place byte : ℕ) → live.fixed place ≡ Some byte → c place ≡ Known byte) → AreFixed live segment offset bs → Spells c segment offset bs
fixed_spelled live c segment offset [] known f = tt
fixed_spelled live c segment offset (b ∷ bs) known f = (known (address segment offset) b f.0, fixed_spelled live c segment (offset + 1) bs known f.1)

-- each of them is fixed
pub fixed_at : (live : Live) (segment offset i : ℕ) (bs : List ℕ) → i < length bs → AreFixed live segment offset bs → (b : ℕ) × (live.fixed (address segment (offset + i)) ≡ Some b)
fixed_at live segment offset i [] less f = absurd (omega arith)
fixed_at live segment offset zero (b ∷ bs) less f =
    let e : offset ≡ offset + 0 = omega arith in
    (b, subst (λ o. live.fixed (address segment o) ≡ Some b) e f.0)
fixed_at live segment offset (suc i) (b ∷ bs) less f =
    let more = fixed_at live segment (offset + 1) i bs (omega arith) f.1 in
    let e : offset + 1 + i ≡ offset + suc i = omega arith in
    (more.0, subst (λ o. live.fixed (address segment o) ≡ Some more.0) e more.1)

-- the front of what stands
pub spelled_front : (c : Cells) (segment offset : ℕ) (bs cs : List ℕ) → Spells c segment offset (bs ++ cs) → Spells c segment offset bs
spelled_front c segment offset [] cs s = tt
spelled_front c segment offset (b ∷ bs) cs s = (s.0, spelled_front c segment (offset + 1) bs cs s.1)

pub spelled_back : (c : Cells) (segment offset : ℕ) (bs cs : List ℕ) → Spells c segment offset (bs ++ cs) → Spells c segment (offset + length bs) cs
spelled_back c segment offset [] cs s =
    let e : offset ≡ offset + 0 = omega arith in
    subst (λ o. Spells c segment o cs) e s
spelled_back c segment offset (b ∷ bs) cs s =
    let e : offset + 1 + length bs ≡ offset + suc (length bs) = omega arith in
    subst (λ o. Spells c segment o cs) e (spelled_back c segment (offset + 1) bs cs s.1)
