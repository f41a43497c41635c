-- Runs by tables compose.
use Rattle.std.proofs.Common.{◌≡◌, ℕ, zero, suc, ◌+◌, List, sym, subst, arith}
use Rattle.tabled_runs.specs.Tables.{Tabled, TabledRuns}

pub runs_compose : (bytes : List ℕ) (m n : ℕ) (p q r : Tabled) → TabledRuns bytes m p q → TabledRuns bytes n q r → TabledRuns bytes (m + n) p r
runs_compose bytes zero n p q r x y =
    let e : n ≡ 0 + n = omega arith in
    subst (λ (k : ℕ). TabledRuns bytes k p r) e (subst (λ (z : Tabled). TabledRuns bytes n z r) (sym x) y)
runs_compose bytes (suc m) n p q r x y =
    let e : suc (m + n) ≡ suc m + n = omega arith in
    subst (λ (k : ℕ). TabledRuns bytes k p r) e (x.0, x.1, runs_compose bytes m n x.0 q r x.2 y)
