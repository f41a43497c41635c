-- A variable of a routine round the one that runs.
use Rattle.std.proofs.Common.{◌≡◌, ℕ, zero, suc, ◌-◌, ◌≤◌, ap, arith}
use Rattle.std.specs.Prelude.{slice_get}
use Rattle.typed_tree.specs.declared.units.Program.{Program}
use Rattle.tp_meaning.specs.Store.{Store}
use Rattle.tp_meaning.specs.Activations.{Activation, variable_by}
use Rattle.interpreter_effects.specs.activations.Parts.{variable_of, outer_variable}

pub outer_is : (program : Program) (f : Activation) (level unit number : ℕ) (store : Store) → 2 ≤ level → variable_by program f level unit number store ≡ outer_variable f level number store
outer_is program f zero unit number store h = absurd (omega (arith, h))
outer_is program f (suc zero) unit number store h = absurd (omega (arith, h))
outer_is program f (suc (suc links)) unit number store h =
    let below : suc links ≡ suc (suc links) - 1 = omega arith in
    ap (λ n. variable_of f.unit number store (slice_get f.levels n)) below
