-- One more byte of a copy.
use Rattle.std.proofs.Common.{◌≡◌, ℕ, suc, ◌+◌, ◌-◌, ◌<◌, sym, ap, ◌∙◌, arith}
use Rattle.std.specs.Prelude.{Ok, Result}
use Rattle.flat_code.specs.declared.memory.Place.{Place}
use Rattle.flat_code.specs.declared.memory.Trap.{Trap}
use Rattle.flat_code.specs.Memory.{Cells, address_of, copied_cell, copy, ◌>>=◌}

pub copy-step : (m m' : Cells) (to from : Place) (i n a b : ℕ) → i < n → a ≡ address_of to i → b ≡ address_of from i → copied_cell m a (m b) ≡ Ok m' → copy m to from i (n - i) ≡ copy m' to from (i + 1) (n - (i + 1))
copy-step m m' to from i n a b h p q e =
    let k = n - (i + 1) in
    let left : n - i ≡ suc k = omega arith in
    let moved : copied_cell m (address_of to i) (m (address_of from i)) ≡ Ok m' = ap (λ x. copied_cell m x (m (address_of from i))) (sym p) ∙ ap (λ y. copied_cell m a (m y)) (sym q) ∙ e in
    ap (copy m to from i) left ∙ ap (λ (r : Result Cells Trap). r >>= λ m'. copy m' to from (i + 1) k) moved
