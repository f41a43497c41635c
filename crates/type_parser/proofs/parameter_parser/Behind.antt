-- Productions of which the last reader meets its part only for the lexemes that are left.
use Rattle.std.proofs.Common.{◌≡◌, inl, ℕ, zero, suc, ◌+◌, ◌≤◌, Bool, true, false, cond, List, [], ◌∷◌, ◌++◌, length, Option, Some, None, Result, Ok, Err, refl, sym, ap, subst, ◌∙◌, arith, length-append}
use Rattle.pascal_grammar.specs.declared.kind.Kind.{Kind}
use Rattle.pascal_grammar.specs.declared.lexeme.Lexeme.{Lexeme}
use Rattle.pascal_grammar.specs.Parts.{Part}
use Rattle.pascal_grammar.specs.Productions.{Production, counts, left_out}
use Rattle.pascal_grammar.specs.Asked.{Asked, accepts, same}
use Rattle.pascal_grammar.specs.Asked as q
use Rattle.pascal_grammar.specs.Lexemes.{Kept, kind_of, front_kind, kept, value}
use Rattle.pascal_grammar.specs.Rules.{grammar}
use Rattle.pascal_grammar.specs.Choices.{choose, choose_at_end, choose_by}
use Rattle.pascal_grammar.proofs.Tables.{Follow, accepted, predict}
use Rattle.pascal_grammar.proofs.Samples.{always, allowed}
use Rattle.pascal_grammar.proofs.Reading.{Reads, AllRead, AreRead, front_is, left, opens}
use Rattle.pascal_grammar.proofs.Somes.{some}
use Rattle.ll1_grammar.specs.Grammar.{Symbol, token, part, nil, pair, leaf, node, one_if, head, front, Fit, Fits, Belongs, BelongsOr}
use Rattle.ll1_grammar.specs.Readers.{Fault, Syntax, LeftOut, TooDeep, ◌>>=◌, Reader, through, made, opened, kept_by, token_at}
use Rattle.ll1_grammar.proofs.Meeting.{one, all, Meets, Joins, AllJoin, MayFollow, Stopped, Denies, Denies-left, GoesOn, Begun-part, front_append, regroup, then, then_within, rest_read, token_found, none_meets, wrong}
use Rattle.ll1_grammar.proofs.Choosing.{IsBelow, node_meets}
use Rattle.syntax_tree.specs.Expressions.{Parsed}
use Rattle.expression_parser.specs.Gives.{Inside, ask}
use Rattle.expression_parser.specs.Gives as g
use Rattle.expression_parser.specs.Reading.{begins, leaves, list_from}
use Rattle.expression_parser.proofs.Shapes.{begins_is, same_kind, word_asked, second_read}

abbrev pub Outcome : Type 0
Outcome = Result (Parsed × List Lexeme) (Fault Production)

-- ---- what the first lexeme chooses

-- the choice at a lexeme of which the kind is known
pub at_kind : (m : Part) (x : Lexeme) (y : Kind) (o : Option Production) → kind_of x ≡ y → choose_by m y ≡ o → choose m (Some (kind_of x)) ≡ o
at_kind m x y o e c = ap (choose_by m) e ∙ c

-- the choice of a part of one production
pub at_all : (m : Part) (o : Option Production) → choose_at_end m ≡ o → ((x : Kind) → choose_by m x ≡ o) → (h : Option Kind) → choose m h ≡ o
at_all m o e f None = e
at_all m o e f (Some x) = f x

-- a word that is in front, and one that is not
pub present : (m : Part) (want : Kind) (x : Production) → choose_by m want ≡ Some x → (ts : List Lexeme) → begins want ts ≡ true → choose m (front_kind ts) ≡ Some x
present m want x c ts e = let i = begins_is want ts e in subst (λ (us : List Lexeme). choose m (front_kind us) ≡ Some x) (sym i.2) (at_kind m i.0 want _ i.3 c)

pub absent : (m : Part) (want : Kind) (o : Option Production) → choose m None ≡ o → ((y : Kind) → same y want ≡ false → choose_by m y ≡ o) → (ts : List Lexeme) → begins want ts ≡ false → choose m (front_kind ts) ≡ o
absent m want o none other [] e = none
absent m want o none other (t ∷ ts) e = other (kind_of t) e

-- two words that are not in front
pub neither : (m : Part) (v w : Kind) (o : Option Production) → choose m None ≡ o → ((y : Kind) → same y v ≡ false → same y w ≡ false → choose_by m y ≡ o) → (ts : List Lexeme) → begins v ts ≡ false → begins w ts ≡ false → choose m (front_kind ts) ≡ o
neither m v w o none other [] e f = none
neither m v w o none other (t ∷ ts) e f = other (kind_of t) e f

-- what a word stands for that is left out
pub left_at : (x : Production) (want : Kind) → choose_by (grammar.owner x) want ≡ Some x → always x ≡ true → left_out x ≡ true → grammar.body x ≡ token (q.word want) ∷ [] → (d : ℕ) (ts : List Lexeme) → begins want ts ≡ true → Reads (grammar.owner x) d ts (leaves x ts)
left_at x want c a i is d ts e =
    let b = begins_is want ts e in
    let here : same (kind_of b.0) want ≡ true = subst (λ (us : List Lexeme). begins want us ≡ true) b.2 e in
    subst (λ (us : List Lexeme). Reads (grammar.owner x) d us (leaves x us)) (sym b.2) (left x d b.0 b.1 (at_kind (grammar.owner x) b.0 want _ b.3 c) a i (q.word want) is here)

-- a production that opens a construct, behind the word that it begins with
pub opens_at : (Held : Part → Type 0) (x : Production) (want : Kind) (s : Asked) → accepts s want ≡ true → choose_by (grammar.owner x) want ≡ Some x → always x ≡ true → left_out x ≡ false → counts x ≡ true → (ys : List (Symbol Asked Part)) → grammar.body x ≡ token s ∷ ys → AllJoin grammar Follow (token s ∷ ys) (Follow (grammar.owner x))
    → (rs : ℕ → (Part → Reader Lexeme Kept Production) → List (Reader Lexeme Kept Production)) → (d : ℕ) (b : Inside) → AreRead Held d b
    → ((e : ℕ) (below : Part → Reader Lexeme Kept Production) → IsBelow grammar Follow choose predict Held e (e, below) → AllRead e ys (rs e below))
    → (ts : List Lexeme) → begins want ts ≡ true → Reads (grammar.owner x) d ts (opened x (λ e below. ask s ∷ rs e below) b ts)
opens_at Held x want s o c a i n ys is j rs d b h m ts e =
    let k = begins_is want ts e in
    subst (λ (us : List Lexeme). Reads (grammar.owner x) d us (opened x (λ e below. ask s ∷ rs e below) b us)) (sym k.2)
    (opens Held x k.0 k.1 (at_kind (grammar.owner x) k.0 want _ k.3 c) a i n s ys is j (ap (accepts s) k.3 ∙ o) rs d b h m)

-- ---- productions

no_more : (x : Production) (d : ℕ) (ts : List Lexeme) (r : Outcome) → counts x ≡ false → Meets grammar Follow (one grammar Follow (part (grammar.owner x))) (one_if (counts x) + d) ts r → Reads (grammar.owner x) d ts r
no_more x d ts r c m = let e : one_if (counts x) + d ≡ d = rw c (omega arith) in subst (λ (n : ℕ). Reads (grammar.owner x) n ts r) e m

-- a production whose symbols are read
pub whole_step : (x : Production) → always x ≡ true → left_out x ≡ false → counts x ≡ false → (d : ℕ) (ts : List Lexeme) → choose (grammar.owner x) (front_kind ts) ≡ Some x
    → (rs : List (Reader Lexeme Kept Production)) → Meets grammar Follow (all grammar Follow (grammar.body x) (Follow (grammar.owner x))) d ts (through rs ts) → Reads (grammar.owner x) d ts (made x rs ts)
whole_step x a i c d ts chosen rs m =
    let e = ap (choose (grammar.owner x)) (front_is ts) ∙ chosen in
    no_more x d ts (made x rs ts) c (node_meets grammar Follow choose predict x ts e (allowed x a) i d (through rs ts) m)

-- One that begins with a lexeme that stands there, where the others are read behind it.
pub known_step : (x : Production) (s : Asked) (ys : List (Symbol Asked Part)) → grammar.body x ≡ token s ∷ ys → AllJoin grammar Follow (token s ∷ ys) (Follow (grammar.owner x)) → always x ≡ true → left_out x ≡ false → counts x ≡ false
    → (d : ℕ) (l : Lexeme) (ts : List Lexeme) → choose (grammar.owner x) (Some (kind_of l)) ≡ Some x → accepts s (kind_of l) ≡ true
    → (rs : List (Reader Lexeme Kept Production)) → Meets grammar Follow (all grammar Follow ys (Follow (grammar.owner x))) d ts (through rs ts)
    → Reads (grammar.owner x) d (l ∷ ts) (made x (token_at grammar s ∷ rs) (l ∷ ts))
known_step x s ys is j a i c d l ts chosen e rs m =
    let F = Follow (grammar.owner x) in
    let v : value s l ≡ Some (kept s l) = ap (λ (z : Bool). cond z (Some (kept s l)) None) e in
    let known = rest_read grammar Follow (token s) ys F j.0 d (l ∷ ts) (leaf (kept s l)) (l ∷ []) ts (token_found grammar Follow s l (kept s l) v d ts) (through rs ts) m in
    let whole : Meets grammar Follow (all grammar Follow (token s ∷ ys) F) d (l ∷ ts) (through (token_at grammar s ∷ rs) (l ∷ ts)) = subst (λ (o : Option Kept). Meets grammar Follow (all grammar Follow (token s ∷ ys) F) d (l ∷ ts) (kept_by o l ts >>= λ y. through rs y.1 >>= λ z. Ok (pair y.0 z.0, z.1))) (sym v) known in
    let u = subst (λ (zs : List (Symbol Asked Part)). Meets grammar Follow (all grammar Follow zs F) d (l ∷ ts) (through (token_at grammar s ∷ rs) (l ∷ ts))) (sym is) whole in
    no_more x d (l ∷ ts) (made x (token_at grammar s ∷ rs) (l ∷ ts)) c (node_meets grammar Follow choose predict x (l ∷ ts) chosen (allowed x a) i d (through (token_at grammar s ∷ rs) (l ∷ ts)) u)

-- one part alone
pub last_part : (t : Part) (F : Option Kind → Type 0) → AllJoin grammar Follow (part t ∷ []) F → (d : ℕ) (ts : List Lexeme) (r : Reader Lexeme Kept Production) → Reads t d ts (r ts) → Meets grammar Follow (all grammar Follow (part t ∷ []) F) d ts (through (r ∷ []) ts)
last_part t F j d ts r m = then grammar Follow (part t) [] F j.0 d ts (r ts) (through []) m (λ us. none_meets grammar Follow F d us)

-- ---- a symbol, and then those behind what it left

module _ (y : Symbol Asked Part) (ys : List (Symbol Asked Part)) (F : Option Kind → Type 0) (j : Joins grammar Follow y ys F) where
  goes_on_first : (p rest : List Lexeme) (f : Fault Production) → GoesOn grammar Follow (one grammar Follow y) p rest f → GoesOn grammar Follow (all grammar Follow (y ∷ ys) F) p rest f
  goes_on_first p rest (Syntax n) g = tt
  goes_on_first p rest (LeftOut x n) g = (g.0, g.1, g.2, g.3, g.4, Begun-part grammar Follow y ys F j (BelongsOr grammar x) (λ p. inl) g.2 _ g.5)
  goes_on_first p rest (TooDeep n) g = (g.0, g.1, g.2, g.3, Begun-part grammar Follow y ys F j (Belongs grammar) (λ p h. h) g.2 _ g.4)

  first_never : (d : ℕ) (ts p rest : List Lexeme) (f : Fault Production) → Stopped grammar Follow (one grammar Follow y) d ts p rest f → (u : Parsed) (l r m : List Lexeme) → Fits grammar (y ∷ ys) u l (head grammar r) → F (head grammar r) → l ++ r ≡ p ++ m → head grammar m ≡ head grammar rest → Denies grammar Follow f d (length p) u
  first_never d ts p rest f s nil l r m sp o e h = absurd sp
  first_never d ts p rest f s (leaf w) l r m sp o e h = absurd sp
  first_never d ts p rest f s (node x u) l r m sp o e h = absurd sp
  first_never d ts p rest f s (pair u w) l r m sp o e h =
      let first = subst (λ (z : Option Kind). Fit grammar y u sp.left z) (sym (front_append grammar Follow sp.right r None)) sp.first in
      let follow = subst (λ (z : Option Kind). MayFollow grammar Follow y z) (sym (front_append grammar Follow sp.right r None)) (j.follows w sp.right (head grammar r) sp.second o) in
      Denies-left grammar Follow f d (length p) u w (s.never u sp.left (sp.right ++ r) m first follow (regroup grammar Follow l sp.left sp.right r _ sp.joined e) h)

  -- the others are read behind what the first reader left
  pub then_read : (d : ℕ) (ts : List Lexeme) (r : Outcome) (rest : Reader Lexeme Kept Production) → Meets grammar Follow (one grammar Follow y) d ts r → ((x : Parsed × List Lexeme) → r ≡ Ok x → Meets grammar Follow (all grammar Follow ys F) d x.1 (rest x.1)) → Meets grammar Follow (all grammar Follow (y ∷ ys) F) d ts (r >>= λ x. rest x.1 >>= λ u. Ok (pair x.0 u.0, u.1))
  then_read d ts (Ok x) rest s after = rest_read grammar Follow y ys F j d ts x.0 s.0 x.1 s.1 (rest x.1) (after x refl)
  then_read d ts (Err f) rest s after = (s.0, s.1, let t = s.2 in record { parts = t.parts; left = t.left; starts = Begun-part grammar Follow y ys F j (Belongs grammar) (λ p h. h) d s.0 t.starts; never = first_never d ts s.0 s.1 f t; goes = goes_on_first s.0 s.1 f t.goes })

-- what was read leaves no more than there was
pub no_longer_met : (y : Symbol Asked Part) (d : ℕ) (ts : List Lexeme) (x : Parsed × List Lexeme) → Meets grammar Follow (one grammar Follow y) d ts (Ok x) → length x.1 ≤ length ts
no_longer_met y d ts x (text, f) = let p = ap length f.parts in omega (arith, p, length-append text x.1)

-- ---- lists behind a separator

module _ (sep : Kind) (none after : Production) (y : Symbol Asked Part) (d : ℕ) (item : g.Reads) (items : (us : List Lexeme) → Meets grammar Follow (one grammar Follow y) d us (item us))
    (is : grammar.body after ≡ token (q.word sep) ∷ y ∷ part (grammar.owner after) ∷ []) (j : AllJoin grammar Follow (token (q.word sep) ∷ y ∷ part (grammar.owner after) ∷ []) (Follow (grammar.owner after)))
    (a : always after ≡ true) (i : left_out after ≡ false) (c : counts after ≡ false) (chosen : choose_by (grammar.owner after) sep ≡ Some after)
    (ends : (us : List Lexeme) → begins sep us ≡ false → Reads (grammar.owner after) d us (Ok (node none nil, us))) where
  abbrev listed : ℕ → g.Reads
  listed n = list_from sep none after item n

  list_with : (n : ℕ) (x : Lexeme) (ts : List Lexeme) (b : Bool) → begins sep (x ∷ ts) ≡ b → ((us : List Lexeme) → length us ≤ length ts → Reads (grammar.owner after) d us (listed n us))
      → Reads (grammar.owner after) d (x ∷ ts) (cond b (item ts >>= λ u. listed n u.1 >>= λ z. Ok (node after (pair (leaf (kept (q.word sep) x)) (pair u.0 (pair z.0 nil))), z.1)) (Ok (node none nil, x ∷ ts)))
  list_with n x ts false e more = ends (x ∷ ts) e
  list_with n x ts true e more =
      let F = Follow (grammar.owner after) in
      let k : kind_of x ≡ sep = same_kind x sep e in
      let behind : (us : List Lexeme) → length us ≤ length ts → Meets grammar Follow (all grammar Follow (part (grammar.owner after) ∷ []) F) d us (through (listed n ∷ []) us) = λ us l. last_part (grammar.owner after) F j.1.1 d us (listed n) (more us l) in
      let both = then_within grammar Follow y (part (grammar.owner after) ∷ []) F j.1.0 d ts (item ts) (through (listed n ∷ [])) (items ts) behind in
      subst (λ (r : Outcome). Reads (grammar.owner after) d (x ∷ ts) r) (sym (second_read after (ask (q.word sep)) item (listed n) (leaf (kept (q.word sep) x)) (x ∷ ts) ts (word_asked sep x ts e)))
      (known_step after (q.word sep) (y ∷ part (grammar.owner after) ∷ []) is j a i c d x ts (at_kind (grammar.owner after) x sep _ k chosen) e (item ∷ listed n ∷ []) both)

  pub list_reads : (n : ℕ) (ts : List Lexeme) → length ts ≤ n → Reads (grammar.owner after) d ts (list_from sep none after item n ts)
  unfolding list_from
  list_reads zero [] l = ends [] refl
  list_reads zero (x ∷ ts) l = absurd (omega arith)
  list_reads (suc n) [] l = ends [] refl
  list_reads (suc n) (x ∷ ts) l = list_with n x ts (begins sep (x ∷ ts)) refl (λ us m. list_reads n us (let k : length (x ∷ ts) ≤ suc n = l in omega arith))

-- ---- a part that always begins with this lexeme

module _ (x : Production) (want : Kind) (s : Asked) (ys : List (Symbol Asked Part)) (accepts_only : (y : Kind) → accepts s y ≡ same y want) (is : grammar.body x ≡ token s ∷ ys) (chosen : (h : Option Kind) → choose (grammar.owner x) h ≡ Some x) where
  other_kind : (y z : Kind) → same y want ≡ false → same z want ≡ true → Some z ≡ Some y → ⊥
  other_kind y z a b e =
      let i : z ≡ y = cc in
      let c : same y want ≡ true = ap (λ (w : Kind). same w want) (sym i) ∙ b in
      absurd cc

  other_front : (ts : List Lexeme) (z : Lexeme) → begins want ts ≡ false → same (kind_of z) want ≡ true → Some (kind_of z) ≡ head grammar ts → ⊥
  other_front [] z a b e = absurd cc
  other_front (t ∷ ts) z a b e = other_kind (kind_of t) (kind_of z) a b e

  first_is : (t : Parsed) (l r : List Lexeme) → Fits grammar (token s ∷ ys) t l (head grammar r) → (z : Lexeme) × (same (kind_of z) want ≡ true) × (head grammar (l ++ r) ≡ Some (kind_of z))
  first_is nil l r sp = absurd sp
  first_is (leaf v) l r sp = absurd sp
  first_is (node w t) l r sp = absurd sp
  first_is (pair nil u) l r sp = absurd sp.first
  first_is (pair (pair a b) u) l r sp = absurd sp.first
  first_is (pair (node w a) u) l r sp = absurd sp.first
  first_is (pair (leaf v) u) l r sp =
      let o = sp.first in
      let e : l ≡ o.lexeme ∷ sp.right = sp.joined ∙ ap (λ (m : List Lexeme). m ++ sp.right) o.alone in
      (o.lexeme, sym (accepts_only (kind_of o.lexeme)) ∙ accepted.kind s o.lexeme v o.keeps, ap (λ (m : List Lexeme). head grammar (m ++ r)) e)

  never : (ts : List Lexeme) → begins want ts ≡ false → (u : Parsed) (l r : List Lexeme) → Fit grammar (part (grammar.owner x)) u l (head grammar r) → Follow (grammar.owner x) (head grammar r) → head grammar (l ++ r) ≡ head grammar ts → ⊥
  never ts b nil l r sp w h = sp
  never ts b (pair t u) l r sp w h = sp
  never ts b (leaf v) l r sp w h = sp
  never ts b (node z t) l r sp w h =
      let c : choose (grammar.owner x) (front grammar l (head grammar r)) ≡ Some z = predict (grammar.owner x) z t l (head grammar r) sp w in
      let d = chosen (front grammar l (head grammar r)) in
      let e : z ≡ x = cc in
      let f = first_is t l r (subst (λ (zs : List (Symbol Asked Part)). Fits grammar zs t l (head grammar r)) is (subst (λ (y : Production). Fits grammar (grammar.body y) t l (head grammar r)) e sp.2)) in
      other_front ts f.0 b f.1 (sym f.2 ∙ h)

  pub not_begun : (d : ℕ) (ts : List Lexeme) → begins want ts ≡ false → Reads (grammar.owner x) d ts (Err (Syntax (length ts)))
  not_begun d ts b = wrong grammar Follow (one grammar Follow (part (grammar.owner x))) d ts (some (grammar.owner x)) (λ u l r sp w h. never ts b u l r sp w h)
