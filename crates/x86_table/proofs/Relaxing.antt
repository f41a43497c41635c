-- What one pass that makes near jumps short does, and so what any number of them does.
use Rattle.std.proofs.Common.{◌≡◌, ℕ, ◌+◌, ◌≤◌, ◌<◌, Bool, true, false, List, [], ◌∷◌, arith, refl, sym, ap, ◌∙◌, ◌⊎◌, inl, inr, ⊎_elim}
use Rattle.std.specs.Prelude.{if◌then◌else◌, nat_le, ◌&&◌}
use Rattle.std.proofs.lemmas.Bool.Decides.{nat_tests}
use Rattle.x86_table.specs.declared.instr.Cond.TheVariants as cond
use Rattle.x86_table.specs.declared.line.Line.{Line}
use Rattle.x86_table.specs.declared.line.Line.TheVariants.{One, Label, JumpShort, JumpNear, CallNear}
use Rattle.x86_table.specs.Lines.{line_size, marks, label_from, label_place, Reaches, LineReaches, ReachesFrom, ShortJumpsReach, LineIsFar, IsFarFrom, NearJumpsAreFar, LineShortens, Shortens}
use Rattle.x86_table.specs.Relaxation.{reaches, shortened_jump, shortened_line, shortened_from, shortened, is_near, near_jumps}
use Rattle.x86_table.proofs.Places.{label_from-within}

reaches-true : (end target : ℕ) → reaches end target ≡ true → Reaches end target
reaches-true end target e = grind (arith, nat_tests)

reaches-false : (end target : ℕ) → reaches end target ≡ false → Reaches end target → ⊥
reaches-false end target e h = grind (arith, nat_tests)

jump_shortens : (b : Bool) (l : ℕ) → LineShortens (JumpNear l) (shortened_jump b l)
jump_shortens true l = inr refl
jump_shortens false l = inl refl

line_shortens : (labels : ℕ → ℕ) (p : ℕ) (x : Line) → LineShortens x (shortened_line labels p x)
line_shortens labels p (One i) = refl
line_shortens labels p (Label l) = refl
line_shortens labels p (JumpShort c l) = refl
line_shortens labels p (JumpNear l) = jump_shortens (reaches (p + 3) (labels l)) l
line_shortens labels p (CallNear l) = refl

shortens_from : (labels : ℕ → ℕ) (p : ℕ) (xs : List Line) → Shortens xs (shortened_from labels p xs)
shortens_from labels p [] = refl
shortens_from labels p (x ∷ xs) = (line_shortens labels p x, shortens_from labels (p + line_size x) xs)

pub pass_shortens : (lines : List Line) → Shortens lines (shortened lines)
pass_shortens lines = shortens_from (label_place lines) 0 lines

line_shortens_itself : (x : Line) → LineShortens x x
line_shortens_itself (One i) = refl
line_shortens_itself (Label l) = refl
line_shortens_itself (JumpShort c l) = refl
line_shortens_itself (JumpNear l) = inl refl
line_shortens_itself (CallNear l) = refl

pub shortens_itself : (xs : List Line) → Shortens xs xs
shortens_itself [] = refl
shortens_itself (x ∷ xs) = (line_shortens_itself x, shortens_itself xs)

line_shortens_on : (x y z : Line) → LineShortens x y → LineShortens y z → LineShortens x z
line_shortens_on x y z h g = grind arith

pub shortens_on : (xs ys zs : List Line) → Shortens xs ys → Shortens ys zs → Shortens xs zs
shortens_on [] [] zs h g = g
shortens_on [] (y ∷ ys) zs h g = absurd (cc)
shortens_on (x ∷ xs) [] zs h g = absurd h
shortens_on (x ∷ xs) (y ∷ ys) [] h g = absurd g
shortens_on (x ∷ xs) (y ∷ ys) (z ∷ zs) h g = (line_shortens_on x y z h.0 g.0, shortens_on xs ys zs h.1 g.1)

-- a pass that shortens no jump found none that reaches
record Same (labels : ℕ → ℕ) (p : ℕ) (xs : List Line) : Type 0 where
  fewer : near_jumps (shortened_from labels p xs) ≤ near_jumps xs
  settled : near_jumps xs ≤ near_jumps (shortened_from labels p xs) → (shortened_from labels p xs ≡ xs) × IsFarFrom labels p xs

record SameLine (labels : ℕ → ℕ) (p : ℕ) (x : Line) : Type 0 where
  fewer : is_near (shortened_line labels p x) ≤ is_near x
  settled : is_near x ≤ is_near (shortened_line labels p x) → (shortened_line labels p x ≡ x) × LineIsFar labels p x

same_jump : (b : Bool) (end target l : ℕ) → reaches end target ≡ b → (is_near (shortened_jump b l) ≤ 1) × (1 ≤ is_near (shortened_jump b l) → (shortened_jump b l ≡ JumpNear l) × (Reaches end target → ⊥))
same_jump true end target l e = (omega arith, λ h. absurd (omega arith))
same_jump false end target l e = (omega arith, λ h. (refl, reaches-false end target e))

same_line : (labels : ℕ → ℕ) (p : ℕ) (x : Line) → SameLine labels p x
same_line labels p (One i) = record { fewer = omega arith; settled = λ h. (refl, tt) }
same_line labels p (Label l) = record { fewer = omega arith; settled = λ h. (refl, tt) }
same_line labels p (JumpShort c l) = record { fewer = omega arith; settled = λ h. (refl, tt) }
same_line labels p (JumpNear l) =
    let h = same_jump (reaches (p + 3) (labels l)) (p + 3) (labels l) l refl in
    record { fewer = h.0; settled = h.1 }
same_line labels p (CallNear l) = record { fewer = omega arith; settled = λ h. (refl, tt) }

same_from : (labels : ℕ → ℕ) (p : ℕ) (xs : List Line) → Same labels p xs
same_from labels p [] = record { fewer = omega arith; settled = λ h. (refl, tt) }
same_from labels p (x ∷ xs) =
    let a = same_line labels p x in
    let b = same_from labels (p + line_size x) xs in
    let fa = a.fewer in
    let fb = b.fewer in
    record {
      fewer = omega arith;
      settled = λ h.
          let u = a.settled (omega arith) in
          let v = b.settled (omega arith) in
          (ap (λ y. y ∷ shortened_from labels (p + line_size x) xs) u.0 ∙ ap (λ ys. x ∷ ys) v.0, (u.1, v.1));
    }

pub pass_settles : (lines : List Line) → near_jumps lines ≤ near_jumps (shortened lines) → (shortened lines ≡ lines) × NearJumpsAreFar lines
pass_settles lines h =
    let s = same_from (label_place lines) 0 lines in
    s.settled h

marks_jump : (b : Bool) (k l : ℕ) → marks k (shortened_jump b l) ≡ false
marks_jump true k l = refl
marks_jump false k l = refl

marks_line : (labels : ℕ → ℕ) (p : ℕ) (k : ℕ) (x : Line) → marks k (shortened_line labels p x) ≡ marks k x
marks_line labels p k (One i) = refl
marks_line labels p k (Label l) = refl
marks_line labels p k (JumpShort c l) = refl
marks_line labels p k (JumpNear l) = marks_jump (reaches (p + 3) (labels l)) k l
marks_line labels p k (CallNear l) = refl

size_jump : (b : Bool) (l : ℕ) → line_size (shortened_jump b l) ≤ 3
size_jump true l = omega arith
size_jump false l = omega arith

size_line : (labels : ℕ → ℕ) (p : ℕ) (x : Line) → line_size (shortened_line labels p x) ≤ line_size x
size_line labels p (One i) = omega arith
size_line labels p (Label l) = omega arith
size_line labels p (JumpShort c l) = omega arith
size_line labels p (JumpNear l) = size_jump (reaches (p + 3) (labels l)) l
size_line labels p (CallNear l) = omega arith

choose : (b : Bool) (m n p q : ℕ) → q + p ≤ p + q → n + p ≤ m + q → (if b then q else n) + p ≤ (if b then p else m) + q
choose true m n p q h g = h
choose false m n p q h g = g

-- a label ahead comes no farther away
closer : (labels : ℕ → ℕ) (p q : ℕ) (xs : List Line) (l : ℕ) → label_from q (shortened_from labels p xs) l + p ≤ label_from p xs l + q
closer labels p q [] l = omega arith
closer labels p q (x ∷ xs) l =
    let y = shortened_line labels p x in
    let s = size_line labels p x in
    let h = closer labels (p + line_size x) (q + line_size y) xs l in
    let m = label_from (p + line_size x) xs l in
    let n = label_from (q + line_size y) (shortened_from labels (p + line_size x) xs) l in
    rw (marks_line labels p l x) (choose (marks l x) m n p q (omega arith) (omega arith))

-- a label that lies behind, no farther than before, or one that is still ahead
Kept : (ℕ → ℕ) → (ℕ → ℕ) → ℕ → ℕ → List Line → ℕ → Type 0
Kept old new p q xs l = ((old l ≤ p) × (new l ≤ q) × (q + old l ≤ p + new l)) ⊎ ((old l ≡ label_from p xs l) × (new l ≡ label_from q (shortened_from old p xs) l))

kept_ahead : (b c : Bool) (o n p q s t m k : ℕ) → c ≡ b → t ≤ s → o ≡ (if b then p else m) → n ≡ (if c then q else k) → ((o ≤ p + s) × (n ≤ q + t) × (q + t + o ≤ p + s + n)) ⊎ ((o ≡ m) × (n ≡ k))
kept_ahead true true o n p q s t m k e h f g = inl (omega arith)
kept_ahead false false o n p q s t m k e h f g = inr (f, g)
kept_ahead true false o n p q s t m k e h f g = absurd (cc)
kept_ahead false true o n p q s t m k e h f g = absurd (cc)

kept_next : (old new : ℕ → ℕ) (p q : ℕ) (x : Line) (xs : List Line) (l : ℕ) → Kept old new p q (x ∷ xs) l → Kept old new (p + line_size x) (q + line_size (shortened_line old p x)) xs l
unfolding Kept
kept_next old new p q x xs l h =
    let y = shortened_line old p x in
    let s = size_line old p x in
    ⊎_elim (λ a. inl (let a0 = a.0 in let a1 = a.1 in let a2 = a.2 in omega arith))
    (λ a. kept_ahead (marks l x) (marks l y) (old l) (new l) p q (line_size x) (line_size y) (label_from (p + line_size x) xs l) (label_from (q + line_size y) (shortened_from old (p + line_size x) xs) l) (marks_line old p l x) s a.0 a.1)
    h

-- what a jump of size s reaches, it reaches with size t
kept_reaches : (old new : ℕ → ℕ) (p q s t : ℕ) (xs : List Line) (l : ℕ) → t ≤ s → ((old l ≤ p) × (new l ≤ q) × (q + old l ≤ p + new l)) ⊎ ((old l ≡ label_from (p + s) xs l) × (new l ≡ label_from (q + t) (shortened_from old (p + s) xs) l)) → Reaches (p + s) (old l) → Reaches (q + t) (new l)
kept_reaches old new p q s t xs l h k r =
    let r0 = r.0 in
    let r1 = r.1 in
    ⊎_elim (λ a. let a0 = a.0 in let a1 = a.1 in let a2 = a.2 in (omega arith, omega arith))
    (λ a.
    let a0 = a.0 in
    let a1 = a.1 in
    let c = closer old (p + s) (q + t) xs l in
    let w = (label_from-within (q + t) (shortened_from old (p + s) xs) l).0 in
    (omega arith, omega arith))
    k

jump_reaches : (b : Bool) (old new : ℕ → ℕ) (p q : ℕ) (xs : List Line) (l : ℕ) → reaches (p + 3) (old l) ≡ b → ((old l ≤ p) × (new l ≤ q) × (q + old l ≤ p + new l)) ⊎ ((old l ≡ label_from (p + 3) xs l) × (new l ≡ label_from q (shortened_jump b l ∷ shortened_from old (p + 3) xs) l)) → LineReaches new q (shortened_jump b l)
jump_reaches false old new p q xs l e k = tt
jump_reaches true old new p q xs l e k = kept_reaches old new p q 3 2 xs l (omega arith) k (reaches-true (p + 3) (old l) e)

line_reaches : (old new : ℕ → ℕ) (p q : ℕ) (x : Line) (xs : List Line) → ((l : ℕ) → Kept old new p q (x ∷ xs) l) → LineReaches old p x → LineReaches new q (shortened_line old p x)
unfolding Kept
line_reaches old new p q (One i) xs k r = tt
line_reaches old new p q (Label l) xs k r = tt
line_reaches old new p q (JumpShort c l) xs k r = kept_reaches old new p q 2 2 xs l (omega arith) (k l) r
line_reaches old new p q (JumpNear l) xs k r = jump_reaches (reaches (p + 3) (old l)) old new p q xs l refl (k l)
line_reaches old new p q (CallNear l) xs k r = tt

reaches_on : (old new : ℕ → ℕ) (p q : ℕ) (xs : List Line) → ((l : ℕ) → Kept old new p q xs l) → ReachesFrom old p xs → ReachesFrom new q (shortened_from old p xs)
reaches_on old new p q [] k r = tt
reaches_on old new p q (x ∷ xs) k r = (
  line_reaches old new p q x xs k r.0,
  reaches_on old new (p + line_size x) (q + line_size (shortened_line old p x)) xs (λ l. kept_next old new p q x xs l (k l)) r.1,
)

pub pass_reaches : (lines : List Line) → ShortJumpsReach lines → ShortJumpsReach (shortened lines)
unfolding Kept
pass_reaches lines r = reaches_on (label_place lines) (label_place (shortened lines)) 0 0 lines (λ l. inr (refl, refl)) r

-- the list is one pass behind lines that any number of passes gave, whose near jumps are counted
pub record Relaxed (lines list : List Line) (near : ℕ) : Type 0 where
  pub before : List Line
  pub counted : near ≡ near_jumps before
  pub passed : list ≡ shortened before
  pub shortens : Shortens lines before
  pub reach : ShortJumpsReach lines → ShortJumpsReach before

pub relaxed_first : (lines list : List Line) (near : ℕ) → near ≡ near_jumps lines → list ≡ shortened lines → Relaxed lines list near
relaxed_first lines list near e h = record { before = lines; counted = e; passed = h; shortens = shortens_itself lines; reach = λ r. r }

pub relaxed_next : (lines list next : List Line) (near fewer : ℕ) → fewer ≡ near_jumps list → next ≡ shortened list → Relaxed lines list near → Relaxed lines next fewer
relaxed_next lines list next near fewer e h g = record {
  before = list;
  counted = e;
  passed = h;
  shortens = rw g.passed (shortens_on lines g.before (shortened g.before) g.shortens (pass_shortens g.before));
  reach = λ r. rw g.passed (pass_reaches g.before (g.reach r));
}

pub relaxed_done : (lines list : List Line) (near : ℕ) → near ≤ near_jumps list → Relaxed lines list near → Shortens lines list × (ShortJumpsReach lines → ShortJumpsReach list) × NearJumpsAreFar list
relaxed_done lines list near h g =
    let n : near_jumps g.before ≤ near_jumps (shortened g.before) = let e = g.counted in let f = ap near_jumps g.passed in omega arith in
    let s = pass_settles g.before n in
    let e = g.passed ∙ s.0 in
    (rw e g.shortens, λ r. rw e (g.reach r), rw e s.1)
