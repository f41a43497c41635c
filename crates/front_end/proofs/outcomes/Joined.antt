-- Texts one behind another.
use Rattle.std.proofs.Common.{◌≡◌, ℕ, List, ◌++◌, ◌∙◌, ap, append_assoc}

pub joined : (line0 line1 line2 first second : List ℕ) → line1 ≡ line0 ++ first → line2 ≡ line1 ++ second → line2 ≡ line0 ++ (first ++ second)
joined line0 line1 line2 first second e f = f ∙ ap (λ l. l ++ second) e ∙ append_assoc line0 first second

pub thrice : (line0 line1 line2 line3 first second third : List ℕ) → line1 ≡ line0 ++ first → line2 ≡ line1 ++ second → line3 ≡ line2 ++ third → line3 ≡ line0 ++ (first ++ (second ++ third))
thrice line0 line1 line2 line3 first second third e f g =
    joined line0 line1 line3 first (second ++ third) e (joined line1 line2 line3 second third f g)
