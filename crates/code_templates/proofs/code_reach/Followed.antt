-- Short jumps over one near jump to the label right behind it.
use Rattle.std.proofs.Common.{◌≡◌, ℕ, ◌+◌, List, [], ◌∷◌, ◌++◌, inl, inr, ⊎_elim, arith, refl, sym, ap, subst, ◌∙◌, eq-eqb, append_assoc}
use Rattle.std.specs.Prelude.{if◌then◌else◌}
use Rattle.std.proofs.lemmas.Bool.{ne_eqb}
use Rattle.x86_table.specs.declared.instr.Cond.{Cond}
use Rattle.x86_table.specs.declared.instr.Instr.{Instr}
use Rattle.x86_table.specs.declared.line.Line.{Line}
use Rattle.x86_table.specs.declared.line.Line.TheVariants.{One, Label, JumpShort, JumpNear, CallNear}
use Rattle.x86_table.specs.Lines.{line_size, code_size, label_from, label_place, Reaches, ReachesFrom}
use Rattle.x86_table.specs.Standing.{HasLabel, LabelsAreOnce}
use Rattle.resident_machine.specs.machine_lines.Straight.{ones}

pub record Over (l : ℕ) (xs : List Line) : Type 0 where
  pub to : ℕ
  pub rest : List Line
  pub is : xs ≡ JumpNear to ∷ Label l ∷ rest

-- each short jump is of this kind
unfoldable pub IsFollowed : List Line → Type 0
IsFollowed [] = Unit {0}
IsFollowed (One i ∷ xs) = IsFollowed xs
IsFollowed (Label k ∷ xs) = IsFollowed xs
IsFollowed (JumpShort c l ∷ xs) = Over l xs × IsFollowed xs
IsFollowed (JumpNear k ∷ xs) = IsFollowed xs
IsFollowed (CallNear k ∷ xs) = IsFollowed xs

pub followed_ones : (is : List Instr) → IsFollowed (ones is)
unfolding IsFollowed
followed_ones [] = tt
followed_ones (i ∷ is) = followed_ones is

pub followed_append : (xs ys : List Line) → IsFollowed xs → IsFollowed ys → IsFollowed (xs ++ ys)
unfolding IsFollowed
followed_append [] ys a b = b
followed_append (One i ∷ xs) ys a b = followed_append xs ys a b
followed_append (Label k ∷ xs) ys a b = followed_append xs ys a b
followed_append (JumpShort c l ∷ xs) ys a b =
    let o = a.0 in
    (record { to = o.to; rest = o.rest ++ ys; is = ap (λ zs. zs ++ ys) o.is }, followed_append xs ys a.1 b)
followed_append (JumpNear k ∷ xs) ys a b = followed_append xs ys a b
followed_append (CallNear k ∷ xs) ys a b = followed_append xs ys a b

has_behind : (l : ℕ) (before ys : List Line) → HasLabel l ys → HasLabel l (before ++ ys)
has_behind l [] ys h = h
has_behind l (One i ∷ before) ys h = has_behind l before ys h
has_behind l (Label k ∷ before) ys h = inr (has_behind l before ys h)
has_behind l (JumpShort c k ∷ before) ys h = has_behind l before ys h
has_behind l (JumpNear k ∷ before) ys h = has_behind l before ys h
has_behind l (CallNear k ∷ before) ys h = has_behind l before ys h

-- a label that stands behind stands in no line before
once_split : (l : ℕ) (before ys : List Line) → LabelsAreOnce (before ++ ys) → HasLabel l ys → HasLabel l before → ⊥
once_split l [] ys o h g = g
once_split l (One i ∷ before) ys o h g = once_split l before ys o h g
once_split l (Label k ∷ before) ys o h g = ⊎_elim (λ (e : k ≡ l). o.0 (subst (λ n. HasLabel n (before ++ ys)) (sym e) (has_behind l before ys h))) (λ z. once_split l before ys o.1 h z) g
once_split l (JumpShort c k ∷ before) ys o h g = once_split l before ys o h g
once_split l (JumpNear k ∷ before) ys o h g = once_split l before ys o h g
once_split l (CallNear k ∷ before) ys o h g = once_split l before ys o h g

more : (q n l : ℕ) (before ys : List Line) → label_from (q + n + code_size before) ys l ≡ label_from (q + (n + code_size before)) ys l
more q n l before ys = let e : q + n + code_size before ≡ q + (n + code_size before) = omega arith in ap (λ k. label_from k ys l) e

-- its place
place_behind : (q l : ℕ) (before ys : List Line) → (HasLabel l before → ⊥) → label_from q (before ++ ys) l ≡ label_from (q + code_size before) ys l
place_behind q l [] ys none = let e : q ≡ q + 0 = omega arith in ap (λ n. label_from n ys l) e
place_behind q l (One i ∷ before) ys none = place_behind (q + line_size (One i)) l before ys none ∙ more q (line_size (One i)) l before ys
place_behind q l (Label k ∷ before) ys none =
    ap (λ b. if b then q else label_from (q + 0) (before ++ ys) l) (ne_eqb k l (λ e. none (inl e)))
    ∙ place_behind (q + 0) l before ys (λ h. none (inr h)) ∙ more q 0 l before ys
place_behind q l (JumpShort c k ∷ before) ys none = place_behind (q + 2) l before ys none ∙ more q 2 l before ys
place_behind q l (JumpNear k ∷ before) ys none = place_behind (q + 3) l before ys none ∙ more q 3 l before ys
place_behind q l (CallNear k ∷ before) ys none = place_behind (q + 3) l before ys none ∙ more q 3 l before ys

size_append : (xs ys : List Line) → code_size (xs ++ ys) ≡ code_size xs + code_size ys
size_append [] ys = omega arith
size_append (x ∷ xs) ys = let e = size_append xs ys in omega arith

-- the jump at the end of some lines reaches
jump_reaches : (before xs : List Line) (c : Cond) (l : ℕ) → Over l xs → LabelsAreOnce (before ++ (JumpShort c l ∷ xs)) → Reaches (code_size before + 2) (label_place (before ++ (JumpShort c l ∷ xs)) l)
jump_reaches before xs c l o once =
    let p = code_size before in
    let behind = JumpShort c l ∷ JumpNear o.to ∷ Label l ∷ o.rest in
    let same : before ++ (JumpShort c l ∷ xs) ≡ before ++ behind = ap (λ zs. before ++ (JumpShort c l ∷ zs)) o.is in
    let none = once_split l before behind (subst LabelsAreOnce same once) (inl refl) in
    let place : label_place (before ++ behind) l ≡ 0 + p + 2 + 3 = place_behind 0 l before behind none ∙ ap (λ b. if b then 0 + p + 2 + 3 else label_from (0 + p + 2 + 3 + 0) o.rest l) (eq-eqb l l refl) in
    let there : label_place (before ++ (JumpShort c l ∷ xs)) l ≡ 0 + p + 2 + 3 = ap (λ zs. label_place zs l) same ∙ place in
    (omega arith, omega arith)

-- the lines behind one line
next : (before : List Line) (x : Line) (xs : List Line) → ReachesFrom (label_place ((before ++ (x ∷ [])) ++ xs)) (code_size (before ++ (x ∷ []))) xs → ReachesFrom (label_place (before ++ (x ∷ xs))) (code_size before + line_size x) xs
next before x xs h =
    let e = size_append before (x ∷ []) in
    let size : code_size (before ++ (x ∷ [])) ≡ code_size before + line_size x = omega arith in
    subst (λ n. ReachesFrom (label_place (before ++ (x ∷ xs))) n xs) size (subst (λ zs. ReachesFrom (label_place zs) (code_size (before ++ (x ∷ []))) xs) (append_assoc before (x ∷ []) xs) h)

-- all of them do
pub followed_reach : (before xs : List Line) → IsFollowed xs → LabelsAreOnce (before ++ xs) → ReachesFrom (label_place (before ++ xs)) (code_size before) xs
unfolding IsFollowed
followed_reach before [] f once = tt
followed_reach before (One i ∷ xs) f once = (tt, next before (One i) xs (followed_reach (before ++ (One i ∷ [])) xs f (subst LabelsAreOnce (sym (append_assoc before (One i ∷ []) xs)) once)))
followed_reach before (Label k ∷ xs) f once = (tt, next before (Label k) xs (followed_reach (before ++ (Label k ∷ [])) xs f (subst LabelsAreOnce (sym (append_assoc before (Label k ∷ []) xs)) once)))
followed_reach before (JumpShort c l ∷ xs) f once = (jump_reaches before xs c l f.0 once, next before (JumpShort c l) xs (followed_reach (before ++ (JumpShort c l ∷ [])) xs f.1 (subst LabelsAreOnce (sym (append_assoc before (JumpShort c l ∷ []) xs)) once)))
followed_reach before (JumpNear k ∷ xs) f once = (tt, next before (JumpNear k) xs (followed_reach (before ++ (JumpNear k ∷ [])) xs f (subst LabelsAreOnce (sym (append_assoc before (JumpNear k ∷ []) xs)) once)))
followed_reach before (CallNear k ∷ xs) f once = (tt, next before (CallNear k) xs (followed_reach (before ++ (CallNear k ∷ [])) xs f (subst LabelsAreOnce (sym (append_assoc before (CallNear k ∷ []) xs)) once)))
