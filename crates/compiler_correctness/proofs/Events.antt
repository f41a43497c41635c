-- Runs by events that have one outcome each.
use Rattle.std.proofs.Common.{◌≡◌, ℕ, zero, suc, ◌+◌, ◌-◌, ◌≤◌, refl, sym, ◌∙◌, subst, arith, inl, inr}
use Rattle.std.proofs.lemmas.Bool.{cases_lt}

-- n events take p to q
abbrev pub Events : {S : Type 0} → (S → S → Type 0) → ℕ → S → S → Type 0
Events Go zero p q = p ≡ q
Events {S = S} Go (suc n) p q = (middle : S) × Go p middle × Events Go n middle q

-- one outcome
abbrev pub IsDetermined : {S : Type 0} → (S → S → Type 0) → Type 0
IsDetermined {S = S} Go = (p q r : S) → Go p q → Go p r → q ≡ r

-- nothing follows
abbrev pub IsLast : {S : Type 0} → (S → S → Type 0) → S → Type 0
IsLast {S = S} Go p = (q : S) → Go p q → ⊥

module _ {S : Type 0} (Go : S → S → Type 0) where
  pub events_split : (m n : ℕ) (p r : S) → Events Go (m + n) p r → (q : S) × Events Go m p q × Events Go n q r
  events_split zero n p r runs =
      let e : 0 + n ≡ n = omega arith in
      (p, refl, subst (λ (k : ℕ). Events Go k p r) e runs)
  events_split (suc m) n p r runs =
      let e : suc m + n ≡ suc (m + n) = omega arith in
      let steps : Events Go (suc (m + n)) p r = subst (λ (k : ℕ). Events Go k p r) e runs in
      let rest = events_split m n steps.0 r steps.2 in
      (rest.0, (steps.0, steps.1, rest.1), rest.2)

  pub events_one : IsDetermined Go → (n : ℕ) (p q r : S) → Events Go n p q → Events Go n p r → q ≡ r
  events_one one zero p q r x y = sym x ∙ y
  events_one one (suc n) p q r x y =
      let same : x.0 ≡ y.0 = one p x.0 y.0 x.1 y.1 in
      events_one one n y.0 q r (subst (λ (m : S). Events Go n m q) same x.2) y.2

  -- what remains of a run behind a shorter one
  pub events_rest : IsDetermined Go → (m n : ℕ) (p q r : S) → Events Go m p q → Events Go n p r → m ≤ n → Events Go (n - m) q r
  events_rest one m n p q r x y few =
      let e : n ≡ m + (n - m) = omega arith in
      let parts = events_split m (n - m) p r (subst (λ (k : ℕ). Events Go k p r) e y) in
      let same : parts.0 ≡ q = events_one one m p parts.0 q parts.1 x in
      subst (λ (s : S). Events Go (n - m) s r) same parts.2

  none_left : (n : ℕ) (p q : S) → IsLast Go p → Events Go n p q → n ≡ 0
  none_left zero p q last x = refl
  none_left (suc n) p q last x = absurd (last x.0 x.1)

  -- no run is longer than one behind which nothing follows
  pub events_last : IsDetermined Go → (m n : ℕ) (p q r : S) → Events Go m p q → IsLast Go q → Events Go n p r → n ≤ m
  events_last one m n p q r x last y = elim (cases_lt m n) [
    | inl less ↦ let rest = events_rest one m n p q r x y (omega (arith, less)) in
        let none : n - m ≡ 0 = none_left (n - m) q r last rest in
        omega (arith, none, less)
    | inr more ↦ more
  ]

  -- runs of as many events lead to the same
  pub events_same : IsDetermined Go → (m n : ℕ) (p q r : S) → Events Go m p q → Events Go n p r → n ≡ m → q ≡ r
  events_same one m n p q r x y e = events_one one m p q r x (subst (λ (k : ℕ). Events Go k p r) e y)

  -- what each event keeps a run keeps
  pub events_keep : (R : S → S → Type 0) → ((p : S) → R p p) → ((p q r : S) → R p q → R q r → R p r) → ((p q : S) → Go p q → R p q) → (n : ℕ) (p q : S) → Events Go n p q → R p q
  events_keep R itself both one zero p q x = subst (λ (s : S). R p s) x (itself p)
  events_keep R itself both one (suc n) p q x = both p x.0 q (one p x.0 x.1) (events_keep R itself both one n x.0 q x.2)
