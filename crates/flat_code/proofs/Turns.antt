-- A turn that is due where there is none.
use Rattle.std.proofs.Common.{◌≡◌, ℕ, zero, suc, refl, arith}
use Rattle.common_values.specs.behaviour.Seen.{Going}
use Rattle.flat_code.specs.Meaning.{State, Outcome, Over, spent, spend}

spent-none : (turns : ℕ) (s : State) (go : State → Outcome) → turns ≡ 0 → spent turns s go ≡ Over Going s
spent-none zero s go h = refl
spent-none (suc turns) s go h = absurd (omega (arith, h))

pub spend-none : (s : State) (go : State → Outcome) → s.turns ≡ 0 → spend s go ≡ Over Going s
spend-none s go h = spent-none s.turns s go h
