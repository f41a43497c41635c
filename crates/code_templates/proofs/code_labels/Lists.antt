-- Labels of lists of lines.
use Rattle.std.proofs.Common.{◌≡◌, ℕ, ◌<◌, ◌≤◌, List, [], ◌∷◌, ◌++◌, ◌⊎◌, inl, inr, ⊎_elim, arith, refl}
use Rattle.x86_table.specs.declared.instr.Instr.{Instr}
use Rattle.x86_table.specs.declared.line.Line.{Line}
use Rattle.x86_table.specs.declared.line.Line.TheVariants.{One, Label, JumpShort, JumpNear, CallNear}
use Rattle.x86_table.specs.Standing.{HasLabel, LabelsAreOnce}
use Rattle.resident_machine.specs.machine_lines.Straight.{ones}

-- the labels of the lines have numbers from one on, and below another one
unfoldable pub Within : ℕ → ℕ → List Line → Type 0
Within low high xs = (l : ℕ) → HasLabel l xs → (low ≤ l) × (l < high)

unfoldable pub NoLabels : List Line → Type 0
NoLabels xs = (l : ℕ) → HasLabel l xs → ⊥

pub has_append : (l : ℕ) (xs ys : List Line) → HasLabel l (xs ++ ys) → HasLabel l xs ⊎ HasLabel l ys
has_append l [] ys h = inr h
has_append l (One i ∷ xs) ys h = has_append l xs ys h
has_append l (Label k ∷ xs) ys h = ⊎_elim (λ e. inl (inl e)) (λ g. ⊎_elim (λ a. inl (inr a)) (λ b. inr b) (has_append l xs ys g)) h
has_append l (JumpShort c k ∷ xs) ys h = has_append l xs ys h
has_append l (JumpNear k ∷ xs) ys h = has_append l xs ys h
has_append l (CallNear k ∷ xs) ys h = has_append l xs ys h

pub none_ones : (is : List Instr) → NoLabels (ones is)
unfolding NoLabels
none_ones [] l h = h
none_ones (i ∷ is) l h = none_ones is l h

pub none_append : (xs ys : List Line) → NoLabels xs → NoLabels ys → NoLabels (xs ++ ys)
unfolding NoLabels
none_append xs ys a b l h = ⊎_elim (λ g. a l g) (λ g. b l g) (has_append l xs ys h)

pub once_none : (xs : List Line) → NoLabels xs → LabelsAreOnce xs
unfolding NoLabels
once_none [] none = tt
once_none (One i ∷ xs) none = once_none xs none
once_none (Label k ∷ xs) none = absurd (none k (inl refl))
once_none (JumpShort c k ∷ xs) none = once_none xs none
once_none (JumpNear k ∷ xs) none = once_none xs none
once_none (CallNear k ∷ xs) none = once_none xs none

pub within_none : (low high : ℕ) (xs : List Line) → NoLabels xs → Within low high xs
unfolding NoLabels Within
within_none low high xs none l h = absurd (none l h)

pub within_append : (low high : ℕ) (xs ys : List Line) → Within low high xs → Within low high ys → Within low high (xs ++ ys)
unfolding Within
within_append low high xs ys a b l h = ⊎_elim (λ g. a l g) (λ g. b l g) (has_append l xs ys h)

pub within_label : (low high k : ℕ) (xs : List Line) → low ≤ k → k < high → Within low high xs → Within low high (Label k ∷ xs)
unfolding Within
within_label low high k xs above below rest l h = ⊎_elim (λ (e : k ≡ l). (omega arith, omega arith)) (λ g. rest l g) h

pub within_more : (a b low high : ℕ) (xs : List Line) → low ≤ a → b ≤ high → Within a b xs → Within low high xs
unfolding Within
within_more a b low high xs above below w l h =
    let z = w l h in
    let f = z.0 in
    let g = z.1 in
    (omega arith, omega arith)

-- two lists whose labels have none in common
pub once_apart : (xs ys : List Line) → LabelsAreOnce xs → LabelsAreOnce ys → ((l : ℕ) → HasLabel l xs → HasLabel l ys → ⊥) → LabelsAreOnce (xs ++ ys)
once_apart [] ys a b apart = b
once_apart (One i ∷ xs) ys a b apart = once_apart xs ys a b apart
once_apart (Label k ∷ xs) ys a b apart =
    (λ h. ⊎_elim (λ g. a.0 g) (λ g. apart k (inl refl) g) (has_append k xs ys h), once_apart xs ys a.1 b (λ l g. apart l (inr g)))
once_apart (JumpShort c k ∷ xs) ys a b apart = once_apart xs ys a b apart
once_apart (JumpNear k ∷ xs) ys a b apart = once_apart xs ys a b apart
once_apart (CallNear k ∷ xs) ys a b apart = once_apart xs ys a b apart

-- one list without labels, and one behind
pub once_behind : (xs ys : List Line) → NoLabels xs → LabelsAreOnce ys → LabelsAreOnce (xs ++ ys)
unfolding NoLabels
once_behind xs ys none b = once_apart xs ys (once_none xs none) b (λ l g h. none l g)

-- a label that is none of those behind
pub once_label : (k low high : ℕ) (xs : List Line) → k < low → Within low high xs → LabelsAreOnce xs → LabelsAreOnce (Label k ∷ xs)
unfolding Within
once_label k low high xs below w rest = (λ h. let z = (w k h).0 in absurd (omega arith), rest)
