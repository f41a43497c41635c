-- Draws behind draws, and units behind units.
use Rattle.std.proofs.Common.{◌≡◌, ℕ, zero, suc, ◌+◌, ◌*◌, List, [], ◌∷◌, ◌++◌, map, sym, ap, ap₂, ◌∙◌, arith}
use Rattle.std.specs.List.{range_with_len}
use Rattle.std.proofs.lemmas.List.FromFn.{map-range_with_len_more}
use Rattle.tp_gen.specs.declared.units.DrawnUnit.{DrawnUnit}
use Rattle.tp_gen.specs.Draws.{next_state, state_after}
use Rattle.tp_gen.specs.Units.{unit_behind, unit_in}

state_after-twice : (state first second : ℕ) → state_after (state_after state first) second ≡ state_after state (first + second)
state_after-twice state first zero =
    let same : first ≡ first + zero = omega arith in
    ap (λ (count : ℕ). state_after state count) same
state_after-twice state first (suc second) =
    let same : suc (first + second) ≡ first + suc second = omega arith in
    ap next_state (state_after-twice state first second) ∙ ap (λ (count : ℕ). state_after state count) same

pub five_more : (state place : ℕ) → state_after (state_after state (5 * place)) 5 ≡ state_after state (5 * (place + 1))
five_more state place =
    let same : 5 * place + 5 ≡ 5 * (place + 1) = omega arith in
    state_after-twice state (5 * place) 5 ∙ ap (λ (count : ℕ). state_after state count) same

pub one_more : (seed units place state : ℕ) (all more : List DrawnUnit) (unit : DrawnUnit)
    → all ≡ map (unit_in seed units) (range_with_len 0 place) → state ≡ state_after seed (5 * place)
    → unit ≡ unit_behind state units (place + 1) → more ≡ all ++ unit ∷ []
    → more ≡ map (unit_in seed units) (range_with_len 0 (place + 1))
one_more seed units place state all more unit before behind is pushed =
    let here : unit ≡ unit_in seed units place = is ∙ ap (λ (s : ℕ). unit_behind s units (place + 1)) behind in
    let joined = ap₂ (λ (xs : List DrawnUnit) (x : DrawnUnit). xs ++ x ∷ []) before here in
    pushed ∙ joined ∙ sym (map-range_with_len_more (unit_in seed units) 0 place place (omega arith))
