-- Units call others, and have their numbers by their places.
use Rattle.std.proofs.Common.{◌≡◌, ◌≢◌, ℕ, zero, suc, ◌+◌, ◌-◌, ◌*◌, ◌≤◌, ◌<◌, List, ◌∷◌, map, refl, ap, arith}
use Rattle.std.specs.List.{range_with_len}
use Rattle.std.proofs.lemmas.Nat.{mod_below}
use Rattle.std.proofs.lemmas.Bool.Decides.{nat_tests}
use Rattle.std.proofs.lemmas.List.FromFn.{length-map-range_with_len, get_or-map-range_with_len}
use Rattle.tp_gen.specs.declared.units.DrawnUnit.{DrawnUnit}
use Rattle.tp_gen.specs.Draws.{state_after, drawn}
use Rattle.tp_gen.specs.Units.{other_unit, unit_in}
use Rattle.tp_gen.specs.Laws.{IsUnit, CallsOthers, AreNumbered, AllCallOthers, CallsUnit}

other_unit-within : (units own place : ℕ) → place < units - 1 → IsUnit units (other_unit own place)
other_unit-within units own place below = record { least = grind (arith, nat_tests); greatest = grind (arith, nat_tests) }

other_unit-other : (own place : ℕ) → other_unit own place ≢ own
other_unit-other own place same = grind (arith, nat_tests)

unit_in-calls : (seed units place : ℕ) → 2 ≤ units → CallsOthers units (unit_in seed units place)
unit_in-calls seed units place some =
    let state = state_after seed (5 * place) in
    let first : drawn state 1 (units - 1) < units - 1 = mod_below _ (units - 1) (omega arith) in
    let second : drawn state 2 (units - 1) < units - 1 = mod_below _ (units - 1) (omega arith) in
    record {
      first = other_unit-within units (place + 1) _ first;
      first_other = other_unit-other (place + 1) _;
      second = other_unit-within units (place + 1) _ second;
      second_other = other_unit-other (place + 1) _;
      less = omega arith;
    }

pub call_others : AllCallOthers
call_others seed units some k d below =
    let within : k < units = rw (← length-map-range_with_len (unit_in seed units) 0 units) below in
    rw (get_or-map-range_with_len (unit_in seed units) 0 units k k d within (omega arith)) (unit_in-calls seed units k some)

numbers : (seed units place count : ℕ) → map (λ (unit : DrawnUnit). unit.number) (map (unit_in seed units) (range_with_len place count)) ≡ range_with_len (place + 1) count
numbers seed units place zero = refl
numbers seed units place (suc count) = ap (λ (rest : List ℕ). (place + 1) ∷ rest) (numbers seed units (place + 1) count)

pub numbered : AreNumbered
numbered seed units = numbers seed units 0 units

pub calls_unit : CallsUnit
calls_unit seed units some =
    let below : drawn (state_after seed (5 * units)) 1 units < units = mod_below _ units some in
    record { least = omega arith; greatest = omega arith }
