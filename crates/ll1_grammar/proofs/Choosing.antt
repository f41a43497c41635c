-- A production that the lexeme in front chooses: what it is for its readers to meet the grammar, and what can't stand there.
use Rattle.std.proofs.Common.{◌≡◌, ◌⊎◌, inl, inr, ℕ, zero, suc, ◌+◌, ◌≤◌, true, false, List, [], ◌∷◌, ◌++◌, length, Option, Some, None, Result, Ok, Err, refl, sym, ap, subst, ◌∙◌, arith}
use Rattle.ll1_grammar.specs.Grammar.{Symbol, token, part, Grammar, Tree, nil, pair, leaf, node, Has, one_if, front, head, Fit, Fits, deep_in, Belongs, BelongsOr}
use Rattle.ll1_grammar.specs.Readers.{Fault, Syntax, LeftOut, TooDeep, ◌>>=◌, Reader, through, token_at, Below, opened}
use Rattle.ll1_grammar.proofs.Meeting.{one, all, Welcome, Begun, Found, Denies, GoesOn, Stopped, Meets, front_append, heads, Begun-more, Begun-map, wrong, none_only, none_begun, AllJoin, AllMeet, known_meets, known_begun}

module _ {X K S V N P : Type 0} (G : Grammar X K S V N P) (Follow : N → Option K → Type 0) (choose : N → Option K → Option P) (predict : (n : N) (q : P) (u : Tree V P) (l : List X) (h : Option K) → Fit G (part n) (node q u) l h → Follow n h → choose n (front G l h) ≡ Some q) where
  pub node_begun : (p : P) → ((h : Option K) → G.allows p h ≡ true) → (A : P → Type 0) → A p → (d : ℕ) (q : List X) → Begun G Follow (all G Follow (G.body p) (Follow (G.owner p))) A d q → Begun G Follow (one G Follow (part (G.owner p))) A (one_if (G.counts p) + d) q
  node_begun p allowed A a d q b = record {
    tree = node p b.tree;
    more = b.more;
    fits = λ h w f. (refl, allowed h, b.fits h w f);
    next = b.next;
    has = (a, b.has);
    size = b.size;
    deep = deeper q b.tree b.deep;
  }
    where
      deeper : (q : List X) (t : Tree V P) → deep_in G (length q) t ≤ d → deep_in G (length q) (node p t) ≤ one_if (G.counts p) + d
      deeper [] t h = omega arith
      deeper (x ∷ q) t h = omega arith

  -- the production of another tree
  same_production : (p : P) (ts : List X) → choose (G.owner p) (head G ts) ≡ Some p → (q : P) (w : Tree V P) (l r : List X) → Fit G (part (G.owner p)) (node q w) l (head G r) → Follow (G.owner p) (head G r) → head G (l ++ r) ≡ head G ts → q ≡ p
  same_production p ts c q w l r sp o h =
      let k : choose (G.owner p) (front G l (head G r)) ≡ Some q = predict (G.owner p) q w l (head G r) sp o in
      let same : front G l (head G r) ≡ head G ts = sym (front_append G Follow l r None) ∙ h in
      let both : choose (G.owner p) (front G l (head G r)) ≡ choose (G.owner p) (head G ts) = ap (choose (G.owner p)) same in
      cc

  Denies-node : (f : Fault P) (p : P) (d k : ℕ) (t : Tree V P) → Denies G Follow f d k t → Denies G Follow f (one_if (G.counts p) + d) k (node p t)
  Denies-node (Syntax n) p d k t h = h
  Denies-node (LeftOut q n) p d k t h = λ b. h b.1
  Denies-node (TooDeep n) p d k t h = omega arith

  GoesOn-node : (p : P) → ((h : Option K) → G.allows p h ≡ true) → Belongs G p → (q rest : List X) (f : Fault P) → GoesOn G Follow (all G Follow (G.body p) (Follow (G.owner p))) q rest f → GoesOn G Follow (one G Follow (part (G.owner p))) q rest f
  GoesOn-node p a i q rest (Syntax n) g = tt
  GoesOn-node p a i q rest (LeftOut z n) g = (g.0, g.1, one_if (G.counts p) + g.2, g.3, g.4, node_begun p a (BelongsOr G z) (inl i) g.2 _ g.5)
  GoesOn-node p a i q rest (TooDeep n) g = (g.0, g.1, one_if (G.counts p) + g.2, g.3, node_begun p a (Belongs G) i g.2 _ g.4)

  -- trees of the part, where the lexemes before m are front
  module _ (p : P) (ts : List X) (chosen : choose (G.owner p) (head G ts) ≡ Some p) where
    first_is : (q rest l r m : List X) → ts ≡ q ++ rest → l ++ r ≡ q ++ m → head G m ≡ head G rest → head G (l ++ r) ≡ head G ts
    first_is q rest l r m e c h = ap (head G) c ∙ heads G Follow q m rest h ∙ ap (head G) (sym e)

    node_never : (d : ℕ) (q rest : List X) (f : Fault P) → Stopped G Follow (all G Follow (G.body p) (Follow (G.owner p))) d ts q rest f → (u : Tree V P) (l r m : List X) → Fit G (part (G.owner p)) u l (head G r) → Follow (G.owner p) (head G r) → l ++ r ≡ q ++ m → head G m ≡ head G rest → Denies G Follow f (one_if (G.counts p) + d) (length q) u
    node_never d q rest f s nil l r m sp o e h = absurd sp
    node_never d q rest f s (pair t u) l r m sp o e h = absurd sp
    node_never d q rest f s (leaf v) l r m sp o e h = absurd sp
    node_never d q rest f s (node z w) l r m sp o e h =
        let is = same_production p ts chosen z w l r sp o (first_is q rest l r m s.parts e h) in
        let fit = subst (λ (y : P). Fits G (G.body y) w l (head G r)) is sp.2 in
        subst (λ (y : P). Denies G Follow f (one_if (G.counts p) + d) (length q) (node y w)) (sym is) (Denies-node f p d (length q) w (s.never w l r m fit o e h))

    node_only : (d : ℕ) (t : Tree V P) (text rest : List X) → Found G Follow (all G Follow (G.body p) (Follow (G.owner p))) d ts t text rest → (u : Tree V P) (l r m : List X) → Fit G (part (G.owner p)) u l (head G r) → Follow (G.owner p) (head G r) → l ++ r ≡ text ++ m → head G m ≡ head G rest → (u ≡ node p t) × (l ≡ text)
    node_only d t text rest s nil l r m sp o e h = absurd sp
    node_only d t text rest s (pair v u) l r m sp o e h = absurd sp
    node_only d t text rest s (leaf v) l r m sp o e h = absurd sp
    node_only d t text rest s (node z w) l r m sp o e h =
        let is = same_production p ts chosen z w l r sp o (first_is text rest l r m s.parts e h) in
        let fit = subst (λ (y : P). Fits G (G.body y) w l (head G r)) is sp.2 in
        let same = s.only w l r m fit o e h in
        (ap (λ (y : P). node y w) is ∙ ap (λ (y : Tree V P). node p y) same.0, same.1)

    -- The parts are read, and make the production.
    pub node_meets : ((h : Option K) → G.allows p h ≡ true) → Belongs G p → (d : ℕ) (r : Result (Tree V P × List X) (Fault P)) → Meets G Follow (all G Follow (G.body p) (Follow (G.owner p))) d ts r → Meets G Follow (one G Follow (part (G.owner p))) (one_if (G.counts p) + d) ts (r >>= λ y. Ok (node p y.0, y.1))
    node_meets a i d (Ok x) s =
        let f = s.1 in (
          s.0,
          record {
            parts = f.parts;
            fits = λ h o. (refl, a h, f.fits h o);
            has = (i, f.has);
            size = f.size;
            deep = let k = f.deep in omega arith;
            only = node_only d x.0 s.0 x.1 f;
          },
        )
    node_meets a i d (Err f) s =
        let t = s.2 in (
          s.0,
          s.1,
          record {
            parts = t.parts;
            left = t.left;
            starts = node_begun p a (Belongs G) i d s.0 t.starts;
            never = node_never d s.0 s.1 f t;
            goes = GoesOn-node p a i s.0 s.1 f t.goes;
          },
        )

    -- ---- a production of no symbols

    empty_only : G.body p ≡ [] → (u : Tree V P) (l r : List X) → Fit G (part (G.owner p)) u l (head G r) → Follow (G.owner p) (head G r) → head G (l ++ r) ≡ head G ts → (u ≡ node p nil) × (l ≡ [])
    empty_only b nil l r sp o h = absurd sp
    empty_only b (pair t u) l r sp o h = absurd sp
    empty_only b (leaf v) l r sp o h = absurd sp
    empty_only b (node z w) l r sp o h =
        let is = same_production p ts chosen z w l r sp o h in
        let fit = subst (λ (ys : List (Symbol S N)). Fits G ys w l (head G r)) (ap (λ (y : P). G.body y) is ∙ b) sp.2 in
        let both = none_only G Follow (λ h. Unit {0}) w l (head G r) fit in
        (ap (λ (y : P). node y w) is ∙ ap (λ (y : Tree V P). node p y) both.0, both.1)

    pub empty_meets : G.body p ≡ [] → G.counts p ≡ false → Belongs G p → G.allows p (head G ts) ≡ true → (d : ℕ) → Meets G Follow (one G Follow (part (G.owner p))) d ts (Ok (node p nil, ts))
    empty_meets b c i a d = (
      [],
      record {
        parts = refl;
        fits = λ h o. (refl, allowed h o, subst (λ (ys : List (Symbol S N)). Fits G ys nil [] h) (sym b) refl);
        has = (i, tt);
        size = refl;
        deep = rw c (omega arith);
        only = λ u l r m sp o e h. empty_only b u l r sp o (ap (head G) e ∙ h);
      },
    )
      where
        allowed : (h : Option K) → (h ≡ head G ts) ⊎ Welcome G Follow h → G.allows p h ≡ true
        allowed h (inl e) = ap (G.allows p) e ∙ a
        allowed h (inr w) = w p

  -- ---- what can't stand there

  unchosen : (n : N) (ts : List X) → choose n (head G ts) ≡ None → (u : Tree V P) (l r : List X) → Fit G (part n) u l (head G r) → Follow n (head G r) → head G (l ++ r) ≡ head G ts → ⊥
  unchosen n ts c nil l r sp o h = sp
  unchosen n ts c (pair t u) l r sp o h = sp
  unchosen n ts c (leaf v) l r sp o h = sp
  unchosen n ts c (node q w) l r sp o h =
      let k : choose n (front G l (head G r)) ≡ Some q = predict n q w l (head G r) sp o in
      let same : front G l (head G r) ≡ head G ts = sym (front_append G Follow l r None) ∙ h in
      let both : choose n (front G l (head G r)) ≡ choose n (head G ts) = ap (choose n) same in
      cc

  -- No production begins so.
  pub none_chosen : (n : N) (d : ℕ) (ts : List X) → choose n (head G ts) ≡ None → Begun G Follow (one G Follow (part n)) (Belongs G) 0 [] → Meets G Follow (one G Follow (part n)) d ts (Err (Syntax (length ts)))
  none_chosen n d ts c b = wrong G Follow (one G Follow (part n)) d ts b (λ u l r sp o h. unchosen n ts c u l r sp o h)

  module _ (p : P) (x : X) (others : List X) (chosen : choose (G.owner p) (Some (G.kind x)) ≡ Some p) (allowed : (h : Option K) → G.allows p h ≡ true) (s : S) (v : V) (keeps : G.value s x ≡ Some v) (ys : List (Symbol S N)) (body_is : G.body p ≡ token s ∷ ys) (some : Begun G Follow (one G Follow (part (G.owner p))) (Belongs G) 0 []) where
    begins_with : (A : P → Type 0) → A p → (d : ℕ) → Begun G Follow (all G Follow ys (Follow (G.owner p))) A d [] → Begun G Follow (one G Follow (part (G.owner p))) A (one_if (G.counts p) + d) (x ∷ [])
    begins_with A a d b = node_begun p allowed A a d (x ∷ []) (subst (λ (zs : List (Symbol S N)). Begun G Follow (all G Follow zs (Follow (G.owner p))) A d (x ∷ [])) (sym body_is) (known_begun G Follow s x v keeps ys (Follow (G.owner p)) A d b))

    deep_never : G.counts p ≡ true → (u : Tree V P) (l r : List X) → Fit G (part (G.owner p)) u l (head G r) → Follow (G.owner p) (head G r) → head G (l ++ r) ≡ Some (G.kind x) → 1 ≤ deep_in G 1 u
    deep_never c nil l r sp o h = absurd sp
    deep_never c (pair t u) l r sp o h = absurd sp
    deep_never c (leaf w) l r sp o h = absurd sp
    deep_never c (node z w) l r sp o h =
        let is = same_production p (x ∷ others) chosen z w l r sp o h in
        let k : G.counts z ≡ true = ap G.counts is ∙ c in
        rw k (omega arith)

    -- It would open one G Follow construct too many.
    pub too_deep : G.counts p ≡ true → Belongs G p → Begun G Follow (all G Follow ys (Follow (G.owner p))) (Belongs G) 0 [] → Meets G Follow (one G Follow (part (G.owner p))) 0 (x ∷ others) (Err (TooDeep (length (x ∷ others))))
    too_deep c i ends = (
      [],
      x ∷ others,
      record {
        parts = refl;
        left = refl;
        starts = some;
        never = λ u l r m sp o e h. deep_never c u l r sp o (ap (head G) e ∙ h);
        goes = (x, others, one_if (G.counts p) + 0, refl, begins_with (Belongs G) i 0 ends);
      },
    )

    left_never : G.left_out p ≡ true → (u : Tree V P) (l r : List X) → Fit G (part (G.owner p)) u l (head G r) → Follow (G.owner p) (head G r) → head G (l ++ r) ≡ Some (G.kind x) → Has (Belongs G) u → ⊥
    left_never c nil l r sp o h b = sp
    left_never c (pair t u) l r sp o h b = sp
    left_never c (leaf w) l r sp o h b = sp
    left_never c (node z w) l r sp o h b =
        let is = same_production p (x ∷ others) chosen z w l r sp o h in
        let k : G.left_out z ≡ true = ap G.left_out is ∙ c in
        let m : G.left_out z ≡ false = b.0 in
        cc

    -- What it stands for is left out.
    pub is_left_out : G.left_out p ≡ true → ys ≡ [] → (d : ℕ) → Meets G Follow (one G Follow (part (G.owner p))) d (x ∷ others) (Err (LeftOut p (length (x ∷ others))))
    is_left_out c e d = (
      [],
      x ∷ others,
      record {
        parts = refl;
        left = refl;
        starts = Begun-more G Follow (one G Follow (part (G.owner p))) (Belongs G) 0 d [] (omega arith) some;
        never = λ u l r m sp o q h. left_never c u l r sp o (ap (head G) q ∙ h);
        goes = (x, others, one_if (G.counts p) + 0, refl, c, begins_with (BelongsOr G p) (inr refl) 0 (subst (λ (zs : List (Symbol S N)). Begun G Follow (all G Follow zs (Follow (G.owner p))) (BelongsOr G p) 0 []) (sym e) (Begun-map G Follow (all G Follow [] (Follow (G.owner p))) (Belongs G) (BelongsOr G p) (λ q. inl) 0 [] (none_begun G Follow (Follow (G.owner p))))));
      },
    )

  -- ---- a construct

  -- the readers meet the parts that are held
  pub record IsBelow (Held : N → Type 0) (d : ℕ) (x : ℕ × (N → Reader X V P)) : Type 0 where
    pub depth : x.0 ≡ d
    pub meets : (n : N) → Held n → (ts : List X) → Meets G Follow (one G Follow (part n)) d ts (x.1 n ts)

  abbrev pub AreBelow : (N → Type 0) → ℕ → Below X V N P → Type 0
  AreBelow Held zero None = Unit {0}
  AreBelow Held zero (Some x) = ⊥
  AreBelow Held (suc d) None = ⊥
  AreBelow Held (suc d) (Some x) = IsBelow Held d x

  -- A production that its first lexeme chooses, and that opens a construct.
  pub opened_meets : (Held : N → Type 0) (p : P) (x : X) (others : List X) → choose (G.owner p) (Some (G.kind x)) ≡ Some p → ((h : Option K) → G.allows p h ≡ true) → (s : S) (v : V) → G.value s x ≡ Some v → (ys : List (Symbol S N)) → G.body p ≡ token s ∷ ys
      → Begun G Follow (one G Follow (part (G.owner p))) (Belongs G) 0 [] → G.counts p ≡ true → Belongs G p → AllJoin G Follow (token s ∷ ys) (Follow (G.owner p))
      → (rs : ℕ → (N → Reader X V P) → List (Reader X V P)) → (d : ℕ) (b : Below X V N P) → AreBelow Held d b
      → ((e : ℕ) (l : N → Reader X V P) → IsBelow Held e (e, l) → AllMeet G Follow e ys (rs e l))
      → Meets G Follow (one G Follow (part (G.owner p))) d (x ∷ others) (opened p (λ e l. token_at G s ∷ rs e l) b (x ∷ others))
  opened_meets Held p x others chosen allowed s v keeps ys is some c i joins rs zero None h m = too_deep p x others chosen allowed s v keeps ys is some c i joins.0.ends
  opened_meets Held p x others chosen allowed s v keeps ys is some c i joins rs zero (Some y) h m = absurd h
  opened_meets Held p x others chosen allowed s v keeps ys is some c i joins rs (suc d) None h m = absurd h
  opened_meets Held p x others chosen allowed s v keeps ys is some c i joins rs (suc d) (Some y) h m =
      let here : IsBelow Held d (d, y.1) = record { depth = refl; meets = h.meets } in
      let mine : AllMeet G Follow d ys (rs y.0 y.1) = subst (λ (e : ℕ). AllMeet G Follow d ys (rs e y.1)) (sym h.depth) (m d y.1 here) in
      let r = through (token_at G s ∷ rs y.0 y.1) (x ∷ others) in
      let a = known_meets G Follow s x v keeps ys (Follow (G.owner p)) joins d (rs y.0 y.1) mine others in
      let b = subst (λ (zs : List (Symbol S N)). Meets G Follow (all G Follow zs (Follow (G.owner p))) d (x ∷ others) r) (sym is) a in
      let n : one_if (G.counts p) + d ≡ suc d = rw c (omega arith) in
      subst (λ (k : ℕ). Meets G Follow (one G Follow (part (G.owner p))) k (x ∷ others) (r >>= λ y. Ok (node p y.0, y.1))) n (node_meets p (x ∷ others) chosen allowed i d r b)
