-- Lists that are judged part by part.
use Rattle.std.proofs.Common.{◌≡◌, List, [], ◌∷◌, ◌++◌, Result, Ok, Err, refl, sym, ap}
use Rattle.std.proofs.lemmas.List.{append_assoc}
use Rattle.typing_rules.specs.declared.faults.Fault.{Fault}
use Rattle.typing_rules.specs.Judgements.{◌>>=◌}
use Rattle.call_rules.specs.Lists.{behind}

module _ {A : Type 0} where
  -- one more is made
  pub behind_one : (before : List A) (one : A) (read : Result (List A) Fault) → behind before (read >>= λ rest. Ok (one ∷ rest)) ≡ behind (before ++ (one ∷ [])) read
  behind_one before one (Ok rest) = ap (λ (l : List A). Ok l) (sym (append_assoc before (one ∷ []) rest))
  behind_one before one (Err fault) = refl

  -- a part that is made stands behind those before it
  pub step : (before : List A) (one : Result A Fault) (made : A) (rest : Result (List A) Fault) → one ≡ Ok made → behind before (one >>= λ x. rest >>= λ xs. Ok (x ∷ xs)) ≡ behind (before ++ (made ∷ [])) rest
  step before one made rest p = rw p (behind_one before made rest)

  -- a fault in a part is one of the whole
  pub stop : (before : List A) (one : Result A Fault) (fault : Fault) (rest : Result (List A) Fault) → one ≡ Err fault → behind before (one >>= λ x. rest >>= λ xs. Ok (x ∷ xs)) ≡ Err fault
  stop before one fault rest p = rw p refl
