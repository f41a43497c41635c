-- Numbers below a bound, and what judgements hold.
use Rattle.std.proofs.Common.{ℕ, zero, suc, ◌≤◌, Bool, true, false, List, [], ◌∷◌, ◌++◌, length, Option, Some, None, arith}
use Rattle.std.specs.Prelude.{slice_get}
use Rattle.tp_check_decl.specs.typing_rules.Judgements.{Judgement, either}
use Rattle.tables_closed.specs.constants.Bounds.{AreBelow}

module _ (n : ℕ) where
  pub below_both : (xs ys : List ℕ) → AreBelow n xs → AreBelow n ys → AreBelow n (xs ++ ys)
  below_both [] ys h k = k
  below_both (x ∷ xs) ys h k = (h.0, below_both xs ys h.1 k)

  pub below_first : (xs ys : List ℕ) → AreBelow n (xs ++ ys) → AreBelow n xs
  below_first [] ys h = tt
  below_first (x ∷ xs) ys h = (h.0, below_first xs ys h.1)

  pub below_last : (xs ys : List ℕ) → AreBelow n (xs ++ ys) → AreBelow n ys
  below_last [] ys h = h
  below_last (x ∷ xs) ys h = below_last xs ys h.1

pub below_more : (n m : ℕ) (xs : List ℕ) → n ≤ m → AreBelow n xs → AreBelow m xs
below_more n m [] more h = tt
below_more n m (x ∷ xs) more h = ((let low = h.0 in omega arith), below_more n m xs more h.1)

-- what follows of each of two judgements follows of that which is chosen
pub either_way : {C : Type 0} (b : Bool) (j k : Judgement C) (c : C) (P : Type 0) → (j.holds c → P) → (k.holds c → P) → (either b j k).holds c → P
either_way true j k c P one other h = one h
either_way false j k c P one other h = other h

-- what holds at each place of a list holds where one more is at its end
pub at_push : {X : Type 0} (P : ℕ → Option X → Type 0) (xs : List X) (x : X) → ((by : ℕ) → P by (slice_get xs by)) → P (length xs) (Some x) → ((by : ℕ) → P by None)
    → (by : ℕ) → P by (slice_get (xs ++ x ∷ []) by)
at_push P [] x h last none zero = last
at_push P [] x h last none (suc by) = none (suc by)
at_push P (y ∷ xs) x h last none zero = h zero
at_push P (y ∷ xs) x h last none (suc by) = at_push (λ k. P (suc k)) xs x (λ k. h (suc k)) last (λ k. none (suc k)) by
