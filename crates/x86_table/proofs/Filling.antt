-- Lines that are alike, up to instructions of one size: what is shortened, placed and labelled of one is so of the other.
-- So code whose addresses are filled in afterwards is laid out once.
use Rattle.std.proofs.Common.{◌≡◌, ℕ, zero, suc, ◌+◌, List, [], ◌∷◌, length, take, arith, refl, sym, ap, subst, ◌∙◌, ◌⊎◌, inl, inr, ⊎_elim}
use Rattle.std.specs.Prelude.{if◌then◌else◌}
use Rattle.x86_table.specs.declared.instr.Cond.TheVariants as cond
use Rattle.x86_table.specs.declared.line.Line.{Line}
use Rattle.x86_table.specs.declared.line.Line.TheVariants.{One, Label, JumpShort, JumpNear, CallNear}
use Rattle.x86_table.specs.Lines.{line_size, code_size, marks, label_from, label_place, LineReaches, ReachesFrom, ShortJumpsReach}
use Rattle.x86_table.specs.Standing.{HasLabel, LabelsAreOnce, LineAlike, Alike, offset_of}

alike_line_size : (x y : Line) → LineAlike x y → line_size y ≡ line_size x
alike_line_size (One i) (One j) h = sym h
alike_line_size (One i) (Label l) h = absurd h
alike_line_size (One i) (JumpShort c l) h = absurd h
alike_line_size (One i) (JumpNear l) h = absurd h
alike_line_size (One i) (CallNear l) h = absurd h
alike_line_size (Label l) y h = ap line_size h
alike_line_size (JumpShort c l) y h = ap line_size h
alike_line_size (JumpNear l) y h = ap line_size h
alike_line_size (CallNear l) y h = ap line_size h

alike_marks : (x y : Line) (l : ℕ) → LineAlike x y → marks l y ≡ marks l x
alike_marks (One i) (One j) l h = refl
alike_marks (One i) (Label k) l h = absurd h
alike_marks (One i) (JumpShort c k) l h = absurd h
alike_marks (One i) (JumpNear k) l h = absurd h
alike_marks (One i) (CallNear k) l h = absurd h
alike_marks (Label k) y l h = ap (marks l) h
alike_marks (JumpShort c k) y l h = ap (marks l) h
alike_marks (JumpNear k) y l h = ap (marks l) h
alike_marks (CallNear k) y l h = ap (marks l) h

alike_code_size : (k : ℕ) (xs ys : List Line) → Alike xs ys → code_size (take k ys) ≡ code_size (take k xs)
alike_code_size k [] ys h = ap (λ v. code_size (take k v)) h
alike_code_size k (x ∷ xs) [] h = absurd h
alike_code_size zero (x ∷ xs) (y ∷ ys) h = refl
alike_code_size (suc k) (x ∷ xs) (y ∷ ys) h = omega (arith, alike_line_size x y h.0, alike_code_size k xs ys h.1)

-- each line has the same offset
pub alike_offset_of : (p : ℕ) (xs ys : List Line) → Alike xs ys → offset_of p ys ≡ offset_of p xs
alike_offset_of p xs ys h = λ i k. p + alike_code_size k xs ys h i

alike_label_from : (p : ℕ) (xs ys : List Line) (l : ℕ) → Alike xs ys → label_from p ys l ≡ label_from p xs l
alike_label_from p [] ys l h = ap (λ v. label_from p v l) h
alike_label_from p (x ∷ xs) [] l h = absurd h
alike_label_from p (x ∷ xs) (y ∷ ys) l h = rw (alike_marks x y l h.0, alike_line_size x y h.0, alike_label_from (p + line_size x) xs ys l h.1) refl

pub alike_label_place : (xs ys : List Line) → Alike xs ys → label_place ys ≡ label_place xs
alike_label_place xs ys h = λ i l. alike_label_from 0 xs ys l h i

alike_line_reaches : (labels : ℕ → ℕ) (p : ℕ) (x y : Line) → LineAlike x y → LineReaches labels p x → LineReaches labels p y
alike_line_reaches labels p (One i) (One j) h r = tt
alike_line_reaches labels p (One i) (Label k) h r = absurd h
alike_line_reaches labels p (One i) (JumpShort c k) h r = absurd h
alike_line_reaches labels p (One i) (JumpNear k) h r = absurd h
alike_line_reaches labels p (One i) (CallNear k) h r = absurd h
alike_line_reaches labels p (Label k) y h r = subst (λ v. LineReaches labels p v) (sym h) r
alike_line_reaches labels p (JumpShort c k) y h r = subst (λ v. LineReaches labels p v) (sym h) r
alike_line_reaches labels p (JumpNear k) y h r = subst (λ v. LineReaches labels p v) (sym h) r
alike_line_reaches labels p (CallNear k) y h r = subst (λ v. LineReaches labels p v) (sym h) r

alike_reaches : (labels : ℕ → ℕ) (p : ℕ) (xs ys : List Line) → Alike xs ys → ReachesFrom labels p xs → ReachesFrom labels p ys
alike_reaches labels p [] ys h r = subst (λ v. ReachesFrom labels p v) (sym h) tt
alike_reaches labels p (x ∷ xs) [] h r = absurd h
alike_reaches labels p (x ∷ xs) (y ∷ ys) h r =
    (alike_line_reaches labels p x y h.0 r.0, rw (alike_line_size x y h.0) (alike_reaches labels (p + line_size x) xs ys h.1 r.1))

pub alike_jumps_reach : (xs ys : List Line) → Alike xs ys → ShortJumpsReach xs → ShortJumpsReach ys
alike_jumps_reach xs ys h r = subst (λ labels. ReachesFrom labels 0 ys) (sym (alike_label_place xs ys h)) (alike_reaches (label_place xs) 0 xs ys h r)

alike_has_label : (l : ℕ) (xs ys : List Line) → Alike xs ys → HasLabel l ys → HasLabel l xs
alike_has_label l [] ys h g = subst (λ v. HasLabel l v) h g
alike_has_label l (x ∷ xs) [] h g = absurd h
alike_has_label l (One i ∷ xs) (One j ∷ ys) h g = alike_has_label l xs ys h.1 g
alike_has_label l (One i ∷ xs) (Label k ∷ ys) h g = absurd h.0
alike_has_label l (One i ∷ xs) (JumpShort c k ∷ ys) h g = absurd h.0
alike_has_label l (One i ∷ xs) (JumpNear k ∷ ys) h g = absurd h.0
alike_has_label l (One i ∷ xs) (CallNear k ∷ ys) h g = absurd h.0
alike_has_label l (Label k ∷ xs) (y ∷ ys) h g =
    let f : (k ≡ l) ⊎ HasLabel l ys = subst (λ v. HasLabel l (v ∷ ys)) h.0 g in
    ⊎_elim (λ e. inl e) (λ e. inr (alike_has_label l xs ys h.1 e)) f
alike_has_label l (JumpShort c k ∷ xs) (y ∷ ys) h g = alike_has_label l xs ys h.1 (subst (λ v. HasLabel l (v ∷ ys)) h.0 g)
alike_has_label l (JumpNear k ∷ xs) (y ∷ ys) h g = alike_has_label l xs ys h.1 (subst (λ v. HasLabel l (v ∷ ys)) h.0 g)
alike_has_label l (CallNear k ∷ xs) (y ∷ ys) h g = alike_has_label l xs ys h.1 (subst (λ v. HasLabel l (v ∷ ys)) h.0 g)

pub alike_labels_once : (xs ys : List Line) → Alike xs ys → LabelsAreOnce xs → LabelsAreOnce ys
alike_labels_once [] ys h o = subst LabelsAreOnce (sym h) o
alike_labels_once (x ∷ xs) [] h o = absurd h
alike_labels_once (One i ∷ xs) (One j ∷ ys) h o = alike_labels_once xs ys h.1 o
alike_labels_once (One i ∷ xs) (Label k ∷ ys) h o = absurd h.0
alike_labels_once (One i ∷ xs) (JumpShort c k ∷ ys) h o = absurd h.0
alike_labels_once (One i ∷ xs) (JumpNear k ∷ ys) h o = absurd h.0
alike_labels_once (One i ∷ xs) (CallNear k ∷ ys) h o = absurd h.0
alike_labels_once (Label k ∷ xs) (y ∷ ys) h o =
    let f : LabelsAreOnce (Label k ∷ ys) = (λ g. o.0 (alike_has_label k xs ys h.1 g), alike_labels_once xs ys h.1 o.1) in
    subst (λ v. LabelsAreOnce (v ∷ ys)) (sym h.0) f
alike_labels_once (JumpShort c k ∷ xs) (y ∷ ys) h o = subst (λ v. LabelsAreOnce (v ∷ ys)) (sym h.0) (alike_labels_once xs ys h.1 o)
alike_labels_once (JumpNear k ∷ xs) (y ∷ ys) h o = subst (λ v. LabelsAreOnce (v ∷ ys)) (sym h.0) (alike_labels_once xs ys h.1 o)
alike_labels_once (CallNear k ∷ xs) (y ∷ ys) h o = subst (λ v. LabelsAreOnce (v ∷ ys)) (sym h.0) (alike_labels_once xs ys h.1 o)
