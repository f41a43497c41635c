-- Lines with their addresses filled in are laid out as before: they have the same sizes and labels, and the same short jumps reach.
use Rattle.std.proofs.Common.{◌≡◌, ℕ, ◌+◌, List, [], ◌∷◌, length, map, Option, Some, None, refl, sym, ap, subst, inl, inr}
use Rattle.x86_table.specs.declared.instr.Instr.{Instr}
use Rattle.x86_table.specs.declared.instr.Instr.TheVariants as instr
use Rattle.x86_table.specs.declared.line.Line.{Line}
use Rattle.x86_table.specs.declared.line.Line.TheVariants.{One, Label, JumpShort, JumpNear, CallNear}
use Rattle.x86_table.specs.Lines.{line_size, marks, label_from, label_place, LineReaches, ReachesFrom, ShortJumpsReach}
use Rattle.x86_table.specs.Spelling.{word_bytes, spelling}
use Rattle.x86_table.specs.Standing.{HasLabel, LabelsAreOnce}
use Rattle.code_templates.specs.code_lines.Addresses.{Context}
use Rattle.code_templates.specs.declared.code_references.marks.MarkedLine.{MarkedLine}
use Rattle.code_templates.specs.declared.code_references.marks.Target.{Target}
use Rattle.code_templates.specs.declared.code_references.marks.Target.TheVariants.{Datum, Table, Routine, OwnRoutine, Runtime, ErrorRoutine, ClearRoutine, FlagRoutine}
use Rattle.code_templates.specs.code_references.Marks.{placed_own, placed_one, placed_by, placed_line, lines_of}
use Rattle.code_templates.proofs.code_references.Sizes.{placed_size}

-- the same line, or an instruction in place of one of its size, or a near call in place of one with a distance
abbrev pub LineFilled : Line → Line → Type 0
LineFilled (One i) (One j) = length (spelling j) ≡ length (spelling i)
LineFilled (One i) (CallNear n) = length (spelling i) ≡ 3
LineFilled (One i) y = ⊥
LineFilled x y = y ≡ x

abbrev pub Filled : List Line → List Line → Type 0
Filled [] ys = ys ≡ []
Filled (x ∷ xs) [] = ⊥
Filled (x ∷ xs) (y ∷ ys) = LineFilled x y × Filled xs ys

filled_itself : (x : Line) → LineFilled x x
filled_itself (One i) = refl
filled_itself (Label l) = refl
filled_itself (JumpShort c l) = refl
filled_itself (JumpNear l) = refl
filled_itself (CallNear l) = refl

own_filled : (n : ℕ) (i : Instr) → LineFilled (One i) (placed_own n i)
unfolding word_bytes
own_filled n (instr.Mov a) = refl
own_filled n (instr.MovImmediate a) = refl
own_filled n (instr.MovByte a b) = refl
own_filled n (instr.MovWord a b) = refl
own_filled n (instr.MovFromSeg a b) = refl
own_filled n (instr.MovToSeg a b) = refl
own_filled n (instr.Push a) = refl
own_filled n (instr.Pop a) = refl
own_filled n (instr.PushSeg a) = refl
own_filled n (instr.PopSeg a) = refl
own_filled n (instr.Alu a b) = refl
own_filled n (instr.AluImmediate a b) = refl
own_filled n (instr.AluShort a b c) = refl
own_filled n (instr.Unary a b) = refl
own_filled n (instr.Inc a) = refl
own_filled n (instr.Dec a) = refl
own_filled n (instr.Shift a b c) = refl
own_filled n instr.Cbw = refl
own_filled n instr.Cwd = refl
own_filled n (instr.Lea a b) = refl
own_filled n (instr.Les a b) = refl
own_filled n (instr.Lds a b) = refl
own_filled n (instr.Xchg a b) = refl
own_filled n (instr.JumpShort a b) = refl
own_filled n (instr.JumpNear a) = refl
own_filled n (instr.JumpFar a b) = refl
own_filled n (instr.CallNear a) = refl
own_filled n (instr.CallFar a b) = refl
own_filled n (instr.CallIndirect a) = refl
own_filled n (instr.CallFarIndirect a) = refl
own_filled n instr.Ret = refl
own_filled n (instr.RetDrop a) = refl
own_filled n instr.RetFar = refl
own_filled n (instr.RetFarDrop a) = refl
own_filled n (instr.Int a) = refl
own_filled n instr.Cld = refl
own_filled n (instr.Movsb a) = refl
own_filled n (instr.RepMovsb a) = refl

one_filled : (x : Context) (t : Target) (i : Instr) → LineFilled (One i) (placed_one x t i)
one_filled x (Datum unit number) i = placed_size x (Datum unit number) i
one_filled x (Table unit number) i = placed_size x (Table unit number) i
one_filled x (Routine unit number) i = placed_size x (Routine unit number) i
one_filled x (OwnRoutine number) i = own_filled number i
one_filled x (Runtime number) i = placed_size x (Runtime number) i
one_filled x ErrorRoutine i = placed_size x ErrorRoutine i
one_filled x ClearRoutine i = placed_size x ClearRoutine i
one_filled x FlagRoutine i = placed_size x FlagRoutine i

by_filled : (x : Context) (t : Option Target) (l : Line) → LineFilled l (placed_by x t l)
by_filled x None l = filled_itself l
by_filled x (Some t) (One i) = one_filled x t i
by_filled x (Some t) (Label l) = refl
by_filled x (Some t) (JumpShort c l) = refl
by_filled x (Some t) (JumpNear l) = refl
by_filled x (Some t) (CallNear l) = refl

pub lines_filled : (x : Context) (ms : List MarkedLine) → Filled (lines_of ms) (map (placed_line x) ms)
lines_filled x [] = refl
lines_filled x (m ∷ ms) = (by_filled x m.target m.line, lines_filled x ms)

-- ---- what is laid out the same

filled_line_size : (x y : Line) → LineFilled x y → line_size y ≡ line_size x
filled_line_size (One i) (One j) h = h
filled_line_size (One i) (CallNear l) h = sym h
filled_line_size (One i) (Label l) h = absurd h
filled_line_size (One i) (JumpShort c l) h = absurd h
filled_line_size (One i) (JumpNear l) h = absurd h
filled_line_size (Label l) y h = ap line_size h
filled_line_size (JumpShort c l) y h = ap line_size h
filled_line_size (JumpNear l) y h = ap line_size h
filled_line_size (CallNear l) y h = ap line_size h

filled_marks : (x y : Line) (l : ℕ) → LineFilled x y → marks l y ≡ marks l x
filled_marks (One i) (One j) l h = refl
filled_marks (One i) (CallNear k) l h = refl
filled_marks (One i) (Label k) l h = absurd h
filled_marks (One i) (JumpShort c k) l h = absurd h
filled_marks (One i) (JumpNear k) l h = absurd h
filled_marks (Label k) y l h = ap (marks l) h
filled_marks (JumpShort c k) y l h = ap (marks l) h
filled_marks (JumpNear k) y l h = ap (marks l) h
filled_marks (CallNear k) y l h = ap (marks l) h

filled_label_from : (p : ℕ) (xs ys : List Line) (l : ℕ) → Filled xs ys → label_from p ys l ≡ label_from p xs l
filled_label_from p [] ys l h = ap (λ v. label_from p v l) h
filled_label_from p (x ∷ xs) [] l h = absurd h
filled_label_from p (x ∷ xs) (y ∷ ys) l h = rw (filled_marks x y l h.0, filled_line_size x y h.0, filled_label_from (p + line_size x) xs ys l h.1) refl

filled_label_place : (xs ys : List Line) → Filled xs ys → label_place ys ≡ label_place xs
filled_label_place xs ys h = λ i l. filled_label_from 0 xs ys l h i

line_reached : (labels : ℕ → ℕ) (p : ℕ) (x y : Line) → LineFilled x y → LineReaches labels p y → LineReaches labels p x
line_reached labels p (One i) y h r = tt
line_reached labels p (Label k) y h r = tt
line_reached labels p (JumpShort c k) y h r = subst (λ v. LineReaches labels p v) h r
line_reached labels p (JumpNear k) y h r = tt
line_reached labels p (CallNear k) y h r = tt

all_reached : (labels : ℕ → ℕ) (p : ℕ) (xs ys : List Line) → Filled xs ys → ReachesFrom labels p ys → ReachesFrom labels p xs
all_reached labels p [] ys h r = tt
all_reached labels p (x ∷ xs) [] h r = absurd h
all_reached labels p (x ∷ xs) (y ∷ ys) h r =
    let e = filled_line_size x y h.0 in
    (line_reached labels p x y h.0 r.0, all_reached labels (p + line_size x) xs ys h.1 (subst (λ n. ReachesFrom labels (p + n) ys) e r.1))

pub jumps_reached : (xs ys : List Line) → Filled xs ys → ShortJumpsReach ys → ShortJumpsReach xs
jumps_reached xs ys h r = all_reached (label_place xs) 0 xs ys h (subst (λ labels. ReachesFrom labels 0 ys) (filled_label_place xs ys h) r)

-- a label that stands among the lines stands among those that are filled in
label_kept : (l : ℕ) (xs ys : List Line) → Filled xs ys → HasLabel l xs → HasLabel l ys
label_kept l [] ys h g = absurd g
label_kept l (x ∷ xs) [] h g = absurd h
label_kept l (One i ∷ xs) (One j ∷ ys) h g = label_kept l xs ys h.1 g
label_kept l (One i ∷ xs) (CallNear k ∷ ys) h g = label_kept l xs ys h.1 g
label_kept l (One i ∷ xs) (Label k ∷ ys) h g = absurd h.0
label_kept l (One i ∷ xs) (JumpShort c k ∷ ys) h g = absurd h.0
label_kept l (One i ∷ xs) (JumpNear k ∷ ys) h g = absurd h.0
label_kept l (Label k ∷ xs) (y ∷ ys) h (inl e) = subst (λ v. HasLabel l (v ∷ ys)) (sym h.0) (inl e)
label_kept l (Label k ∷ xs) (y ∷ ys) h (inr g) = subst (λ v. HasLabel l (v ∷ ys)) (sym h.0) (inr (label_kept l xs ys h.1 g))
label_kept l (JumpShort c k ∷ xs) (y ∷ ys) h g = subst (λ v. HasLabel l (v ∷ ys)) (sym h.0) (label_kept l xs ys h.1 g)
label_kept l (JumpNear k ∷ xs) (y ∷ ys) h g = subst (λ v. HasLabel l (v ∷ ys)) (sym h.0) (label_kept l xs ys h.1 g)
label_kept l (CallNear k ∷ xs) (y ∷ ys) h g = subst (λ v. HasLabel l (v ∷ ys)) (sym h.0) (label_kept l xs ys h.1 g)

pub once_kept : (xs ys : List Line) → Filled xs ys → LabelsAreOnce ys → LabelsAreOnce xs
once_kept [] ys h o = tt
once_kept (x ∷ xs) [] h o = absurd h
once_kept (One i ∷ xs) (One j ∷ ys) h o = once_kept xs ys h.1 o
once_kept (One i ∷ xs) (CallNear k ∷ ys) h o = once_kept xs ys h.1 o
once_kept (One i ∷ xs) (Label k ∷ ys) h o = absurd h.0
once_kept (One i ∷ xs) (JumpShort c k ∷ ys) h o = absurd h.0
once_kept (One i ∷ xs) (JumpNear k ∷ ys) h o = absurd h.0
once_kept (Label k ∷ xs) (y ∷ ys) h o =
    let f : LabelsAreOnce (Label k ∷ ys) = subst (λ v. LabelsAreOnce (v ∷ ys)) h.0 o in
    (λ g. f.0 (label_kept k xs ys h.1 g), once_kept xs ys h.1 f.1)
once_kept (JumpShort c k ∷ xs) (y ∷ ys) h o = once_kept xs ys h.1 (subst (λ v. LabelsAreOnce (v ∷ ys)) h.0 o)
once_kept (JumpNear k ∷ xs) (y ∷ ys) h o = once_kept xs ys h.1 (subst (λ v. LabelsAreOnce (v ∷ ys)) h.0 o)
once_kept (CallNear k ∷ xs) (y ∷ ys) h o = once_kept xs ys h.1 (subst (λ v. LabelsAreOnce (v ∷ ys)) h.0 o)
