-- Str with a width, and without one.
use Rattle.std.proofs.Common.{◌≡◌, ◌≢◌, List, [], ◌∷◌, length, map, refl, arith}
use Rattle.tp_meaning.specs.Store.{Store}
use Rattle.tp_meaning.specs.Standard.{Operand, telling}
use Rattle.interpreter_effects.specs.standard_effects.Numbers.{telling_plain, telling_wide}

pub told_plain : {X : Type 0} (view : X → Operand) (args : List X) (store : Store) → length args ≡ 2 → telling (map view args) store ≡ telling_plain (map view args) store
told_plain view [] store h = absurd (omega (arith, h))
told_plain view (x ∷ []) store h = absurd (omega (arith, h))
told_plain view (x ∷ y ∷ []) store h = refl
told_plain view (x ∷ y ∷ z ∷ args) store h = absurd (omega (arith, h))

-- any other number of arguments than two is taken for three
pub told_wide : {X : Type 0} (view : X → Operand) (args : List X) (store : Store) → length args ≢ 2 → telling (map view args) store ≡ telling_wide (map view args) store
told_wide view [] store h = refl
told_wide view (x ∷ []) store h = refl
told_wide view (x ∷ y ∷ []) store h = absurd (h refl)
told_wide view (x ∷ y ∷ z ∷ args) store h = refl
