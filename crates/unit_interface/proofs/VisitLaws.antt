-- One visit.
use Rattle.std.proofs.Common.{◌≡◌, ℕ, zero, suc, ◌-◌, Bool, false, cond, List, [], get_or, refl, sym, ap, ◌∙◌, arith, nat_eq, ◌≢◌}
use Rattle.std.specs.List.{list_any}
use Rattle.unit_interface.specs.declared.visits.Progress.{Progress}
use Rattle.unit_interface.specs.Order.{meet, finish, visit_each, visit}

pub visit_new : (edges : List (List ℕ)) (progress : Progress) (place room less : ℕ) → room ≢ 0 → less ≡ room - 1
    → list_any (nat_eq place) progress.met ≡ false
    → visit room edges progress place ≡ finish place (visit_each (visit less edges) (meet place progress) (get_or edges place []))
visit_new edges progress place zero less some is new = absurd (some refl)
visit_new edges progress place (suc room) less some is new =
    let same : less ≡ room = omega arith in
    ap (λ (b : Bool). cond b progress (finish place (visit_each (visit room edges) (meet place progress) (get_or edges place [])))) new
    ∙ ap (λ (n : ℕ). finish place (visit_each (visit n edges) (meet place progress) (get_or edges place []))) (sym same)
