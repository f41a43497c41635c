-- What it is for a reader to meet a grammar: what it reads is spelled so and nothing else is, and a fault is the first one.
use Rattle.std.proofs.Common.{◌≡◌, ◌⊎◌, inl, inr, ℕ, zero, suc, ◌+◌, ◌-◌, ◌≤◌, true, List, [], ◌∷◌, ◌++◌, length, Option, Some, None, Result, Ok, Err, refl, sym, ap, subst, ◌∙◌, append_assoc, arith, length-append}
use Rattle.std.proofs.lemmas.List.{append_cancel_left}
use Rattle.ll1_grammar.specs.Grammar.{Symbol, token, part, Grammar, Tree, nil, pair, leaf, node, size, Has, front, head, Fit, Fits, deep, deep_in, Belongs, BelongsOr}
use Rattle.ll1_grammar.specs.Readers.{Fault, Syntax, LeftOut, TooDeep, left_of, ◌>>=◌, Reader, through, kept_by, token_at}

-- Trees that spell a list before h, and what may follow such a tree.
pub record Lang (X K V P : Type 0) : Type 1 where
  pub fits : Tree V P → List X → Option K → Type 0
  pub follow : Option K → Type 0

module _ {X K S V N P : Type 0} (G : Grammar X K S V N P) (Follow : N → Option K → Type 0) where
  abbrev pub MayFollow : Symbol S N → Option K → Type 0
  MayFollow (token s) h = Unit {0}
  MayFollow (part n) h = Follow n h

  abbrev pub one : Symbol S N → Lang X K V P
  one y = record { fits = Fit G y; follow = MayFollow y }

  abbrev pub all : List (Symbol S N) → (Option K → Type 0) → Lang X K V P
  all ys F = record { fits = Fits G ys; follow = F }

  -- any production may stand before it
  abbrev pub Welcome : Option K → Type 0
  Welcome h = (p : P) → G.allows p h ≡ true

  -- Some tree of productions A begins with the lexemes p, which open at most d constructs at once.
  pub record Begun (L : Lang X K V P) (A : P → Type 0) (d : ℕ) (p : List X) : Type 0 where
    pub tree : Tree V P
    pub more : List X
    pub fits : (h : Option K) → Welcome h → L.follow h → L.fits tree (p ++ more) h
    pub next : (h : Option K) → Welcome h → Welcome (front G more h)
    pub has : Has A tree
    pub size : size tree ≡ length p + length more
    pub deep : deep_in G (length p) tree ≤ d

  -- The tree was read, which is the only one as far as the lexeme after it shows.
  pub record Found (L : Lang X K V P) (d : ℕ) (ts : List X) (t : Tree V P) (text rest : List X) : Type 0 where
    pub parts : ts ≡ text ++ rest
    pub fits : (h : Option K) → (h ≡ head G rest) ⊎ Welcome h → L.fits t text h
    pub has : Has (Belongs G) t
    pub size : size t ≡ length text
    pub deep : deep G t ≤ d
    pub only : (u : Tree V P) (l r m : List X) → L.fits u l (head G r) → L.follow (head G r) → l ++ r ≡ text ++ m → head G m ≡ head G rest → (u ≡ t) × (l ≡ text)

  -- what a fault behind k lexemes says of each tree that goes on like them and the one at fault
  abbrev pub Denies : Fault P → ℕ → ℕ → Tree V P → Type 0
  Denies (Syntax n) d k u = ⊥
  Denies (LeftOut q n) d k u = Has (Belongs G) u → ⊥
  Denies (TooDeep n) d k u = suc d ≤ deep_in G (suc k) u

  -- the lexeme at fault can stand there, in the full language or with more constructs
  abbrev pub GoesOn : Lang X K V P → List X → List X → Fault P → Type 0
  GoesOn L p rest (Syntax n) = Unit {0}
  GoesOn L p rest (LeftOut q n) = (x : X) × (others : List X) × (e : ℕ) × (rest ≡ x ∷ others) × (G.left_out q ≡ true) × Begun L (BelongsOr G q) e (p ++ (x ∷ []))
  GoesOn L p rest (TooDeep n) = (x : X) × (others : List X) × (e : ℕ) × (rest ≡ x ∷ others) × Begun L (Belongs G) e (p ++ (x ∷ []))

  -- The lexemes p were read, and then the first of rest, or the end, is at fault.
  pub record Stopped (L : Lang X K V P) (d : ℕ) (ts p rest : List X) (f : Fault P) : Type 0 where
    pub parts : ts ≡ p ++ rest
    pub left : left_of f ≡ length rest
    pub starts : Begun L (Belongs G) d p
    pub never : (u : Tree V P) (l r m : List X) → L.fits u l (head G r) → L.follow (head G r) → l ++ r ≡ p ++ m → head G m ≡ head G rest → Denies f d (length p) u
    pub goes : GoesOn L p rest f

  abbrev pub Meets : Lang X K V P → ℕ → List X → Result (Tree V P × List X) (Fault P) → Type 0
  Meets L d ts (Ok x) = (text : List X) × Found L d ts x.0 text x.1
  Meets L d ts (Err f) = (p : List X) × (rest : List X) × Stopped L d ts p rest f

  -- ---- lists and depths

  pub front_append : (a b : List X) (h : Option K) → front G (a ++ b) h ≡ front G a (front G b h)
  front_append [] b h = refl
  front_append (x ∷ a) b h = refl

  pub heads : (p m rest : List X) → head G m ≡ head G rest → head G (p ++ m) ≡ head G (p ++ rest)
  heads [] m rest e = e
  heads (x ∷ p) m rest e = refl

  -- the parts of what is joined, with more behind
  pub regroup : (l a b r x : List X) → l ≡ a ++ b → l ++ r ≡ x → a ++ (b ++ r) ≡ x
  regroup l a b r x e h = sym (append_assoc a b r) ∙ ap (λ (z : List X). z ++ r) (sym e) ∙ h

  pub deep_in_most : (n : ℕ) (t : Tree V P) → deep_in G n t ≤ deep G t
  deep_in_most zero t = omega arith
  deep_in_most (suc n) nil = omega arith
  deep_in_most (suc n) (pair t u) = let a = deep_in_most (suc n) t in let b = deep_in_most (suc n - size t) u in omega arith
  deep_in_most (suc n) (leaf v) = omega arith
  deep_in_most (suc n) (node p t) = let a = deep_in_most (suc n) t in omega arith

  -- the lexemes of the first part alone open what is open
  deep_in_first : (n : ℕ) (t u : Tree V P) → n ≤ size t → deep_in G n (pair t u) ≤ deep_in G n t
  deep_in_first zero t u h = omega arith
  deep_in_first (suc n) t u h = let k : suc n - size t ≡ 0 = omega arith in rw k (omega arith)

  deep_in_both : (d n k : ℕ) (t u : Tree V P) → n ≡ size t + k → deep G t ≤ d → deep_in G k u ≤ d → deep_in G n (pair t u) ≤ d
  deep_in_both d zero k t u e a b = omega arith
  deep_in_both d (suc n) k t u e a b = let z : suc n - size t ≡ k = omega arith in let m = deep_in_most (suc n) t in rw z (omega arith)

  pub Begun-more : (L : Lang X K V P) (A : P → Type 0) (d e : ℕ) (p : List X) → d ≤ e → Begun L A d p → Begun L A e p
  Begun-more L A d e p h b = record { tree = b.tree; more = b.more; fits = b.fits; next = b.next; has = b.has; size = b.size; deep = let k = b.deep in omega arith }

  -- before the first lexeme nothing is open
  pub Begun-none : (L : Lang X K V P) (A : P → Type 0) (d e : ℕ) → Begun L A d [] → Begun L A e []
  Begun-none L A d e b = record { tree = b.tree; more = b.more; fits = b.fits; next = b.next; has = b.has; size = b.size; deep = omega arith }

  Has-map : (A B : P → Type 0) → ((p : P) → A p → B p) → (t : Tree V P) → Has A t → Has B t
  Has-map A B f nil h = tt
  Has-map A B f (pair t u) h = (Has-map A B f t h.0, Has-map A B f u h.1)
  Has-map A B f (leaf v) h = tt
  Has-map A B f (node p t) h = (f p h.0, Has-map A B f t h.1)

  pub Begun-map : (L : Lang X K V P) (A B : P → Type 0) → ((p : P) → A p → B p) → (d : ℕ) (p : List X) → Begun L A d p → Begun L B d p
  Begun-map L A B f d p b = record { tree = b.tree; more = b.more; fits = b.fits; next = b.next; has = Has-map A B f b.tree b.has; size = b.size; deep = b.deep }

  pub Denies-left : (f : Fault P) (d k : ℕ) (t u : Tree V P) → Denies f d k t → Denies f d k (pair t u)
  Denies-left (Syntax n) d k t u h = h
  Denies-left (LeftOut q n) d k t u h = λ b. h b.0
  Denies-left (TooDeep n) d k t u h = omega arith

  -- the second part begins behind the lexemes of the first
  Denies-right : (f : Fault P) (d k i : ℕ) (t u : Tree V P) → k ≡ size t + i → Denies f d i u → Denies f d k (pair t u)
  Denies-right (Syntax n) d k i t u e h = h
  Denies-right (LeftOut q n) d k i t u e h = λ b. h b.1
  Denies-right (TooDeep n) d k i t u e h = let z : suc k - size t ≡ suc i = omega arith in rw z (omega arith)

  -- ---- a symbol, and then those after it

  -- What comes after the symbol may follow it, and can be ended.
  pub record Joins (y : Symbol S N) (ys : List (Symbol S N)) (F : Option K → Type 0) : Type 0 where
    pub follows : (u : Tree V P) (b : List X) (h : Option K) → Fits G ys u b h → F h → MayFollow y (front G b h)
    pub ends : Begun (all ys F) (Belongs G) 0 []

  okay : (p left rest more : List X) (h : Option K) → rest ≡ p ++ left → Welcome (front G more h) → (front G (p ++ more) h ≡ head G rest) ⊎ Welcome (front G (p ++ more) h)
  okay [] left rest more h e w = inr w
  okay (x ∷ p) left rest more h e w = inl (sym (ap (head G) e))

  module _ (y : Symbol S N) (ys : List (Symbol S N)) (F : Option K → Type 0) (j : Joins y ys F) where
    pub Begun-part : (A : P → Type 0) → ((p : P) → Belongs G p → A p) → (d : ℕ) (p : List X) → Begun (one y) A d p → Begun (all (y ∷ ys) F) A d p
    Begun-part A up d p b =
        let e = j.ends in
        record {
          tree = pair b.tree e.tree;
          more = b.more ++ e.more;
          fits = λ h w f. record { left = p ++ b.more; right = e.more; joined = sym (append_assoc p b.more e.more); first = b.fits (front G e.more h) (e.next h w) (j.follows e.tree e.more h (e.fits h w f) f); second = e.fits h w f };
          next = λ h w. subst Welcome (sym (front_append b.more e.more h)) (b.next (front G e.more h) (e.next h w));
          has = (b.has, Has-map (Belongs G) A up e.tree e.has);
          size = let k = b.size in let l = e.size in omega (arith, length-append b.more e.more);
          deep = let k = b.size in let l = b.deep in let m = deep_in_first (length p) b.tree e.tree (omega arith) in omega arith;
        }

    module _ (d : ℕ) (ts : List X) (t : Tree V P) (text rest : List X) (found : Found (one y) d ts t text rest) where
      Begun-rest : (A : P → Type 0) → ((p : P) → Belongs G p → A p) → (e : ℕ) (p left : List X) → rest ≡ p ++ left → d ≤ e → Begun (all ys F) A e p → Begun (all (y ∷ ys) F) A e (text ++ p)
      Begun-rest A up e p left is h b = record {
        tree = pair t b.tree;
        more = b.more;
        fits = λ k w f. record { left = text; right = p ++ b.more; joined = append_assoc text p b.more; first = found.fits (front G (p ++ b.more) k) (okay p left rest b.more k is (b.next k w)); second = b.fits k w f };
        next = b.next;
        has = (Has-map (Belongs G) A up t found.has, b.has);
        size = let k = found.size in let l = b.size in omega (arith, length-append text p);
        deep = let k = found.size in let l = found.deep in deep_in_both e (length (text ++ p)) (length p) t b.tree (omega (arith, length-append text p)) (omega arith) b.deep;
      }

      -- a tree of the whole has the part that was read
      same_part : (u : Tree V P) (l r q m : List X) (a b : List X) → l ≡ a ++ b → Fit G y u a (head G (b ++ r)) → MayFollow y (head G (b ++ r)) → l ++ r ≡ (text ++ q) ++ m → head G (q ++ m) ≡ head G rest → (u ≡ t) × (a ≡ text)
      same_part u l r q m a b joined s o e h = found.only u a (b ++ r) (q ++ m) s o (regroup l a b r _ joined e ∙ append_assoc text q m) h

      -- what is left of it, past the part
      past_part : (l a b r q m : List X) → l ≡ a ++ b → a ≡ text → l ++ r ≡ (text ++ q) ++ m → b ++ r ≡ q ++ m
      past_part l a b r q m joined is e = append_cancel_left text _ _ (ap (λ (z : List X). z ++ (b ++ r)) (sym is) ∙ regroup l a b r _ joined e ∙ append_assoc text q m)

      GoesOn-rest : (p left : List X) (f : Fault P) → rest ≡ p ++ left → GoesOn (all ys F) p left f → GoesOn (all (y ∷ ys) F) (text ++ p) left f
      GoesOn-rest p left (Syntax n) is g = tt
      GoesOn-rest p left (LeftOut q n) is g =
          let x = g.0 in
          let k : rest ≡ (p ++ (x ∷ [])) ++ g.1 = is ∙ ap (λ (z : List X). p ++ z) g.3 ∙ sym (append_assoc p (x ∷ []) g.1) in
          let b = Begun-rest (BelongsOr G q) (λ p. inl) (d + g.2) (p ++ (x ∷ [])) g.1 k (omega arith) (Begun-more _ _ g.2 (d + g.2) _ (omega arith) g.5) in
          (x, g.1, d + g.2, g.3, g.4, subst (λ (z : List X). Begun (all (y ∷ ys) F) (BelongsOr G q) (d + g.2) z) (sym (append_assoc text p (x ∷ []))) b)
      GoesOn-rest p left (TooDeep n) is g =
          let x = g.0 in
          let k : rest ≡ (p ++ (x ∷ [])) ++ g.1 = is ∙ ap (λ (z : List X). p ++ z) g.3 ∙ sym (append_assoc p (x ∷ []) g.1) in
          let b = Begun-rest (Belongs G) (λ p h. h) (d + g.2) (p ++ (x ∷ [])) g.1 k (omega arith) (Begun-more _ _ g.2 (d + g.2) _ (omega arith) g.4) in
          (x, g.1, d + g.2, g.3, subst (λ (z : List X). Begun (all (y ∷ ys) F) (Belongs G) (d + g.2) z) (sym (append_assoc text p (x ∷ []))) b)

      rest_never : (f : Fault P) (q left : List X) → Stopped (all ys F) d rest q left f → (u : Tree V P) (l r m : List X) → (all (y ∷ ys) F).fits u l (head G r) → F (head G r) → l ++ r ≡ (text ++ q) ++ m → head G m ≡ head G left → Denies f d (length (text ++ q)) u
      rest_never f q left s nil l r m sp o e h = absurd sp
      rest_never f q left s (leaf v) l r m sp o e h = absurd sp
      rest_never f q left s (node p u) l r m sp o e h = absurd sp
      rest_never f q left s (pair u w) l r m sp o e h =
          let first = subst (λ (z : Option K). Fit G y u sp.left z) (sym (front_append sp.right r None)) sp.first in
          let follow = subst (λ (z : Option K). MayFollow y z) (sym (front_append sp.right r None)) (j.follows w sp.right (head G r) sp.second o) in
          let same = same_part u l r q m sp.left sp.right sp.joined first follow e (heads q m left h ∙ ap (head G) (sym s.parts)) in
          let cut = past_part l sp.left sp.right r q m sp.joined same.1 e in
          let sized : size u ≡ length text = ap (λ (z : Tree V P). size z) same.0 ∙ found.size in
          Denies-right f d (length (text ++ q)) (length q) u w (omega (arith, length-append text q)) (s.never w sp.right r m sp.second o cut h)

      rest_only : (v : Tree V P) (q left : List X) → Found (all ys F) d rest v q left → (u : Tree V P) (l r m : List X) → (all (y ∷ ys) F).fits u l (head G r) → F (head G r) → l ++ r ≡ (text ++ q) ++ m → head G m ≡ head G left → (u ≡ pair t v) × (l ≡ text ++ q)
      rest_only v q left s nil l r m sp o e h = absurd sp
      rest_only v q left s (leaf w) l r m sp o e h = absurd sp
      rest_only v q left s (node p u) l r m sp o e h = absurd sp
      rest_only v q left s (pair u w) l r m sp o e h =
          let first = subst (λ (z : Option K). Fit G y u sp.left z) (sym (front_append sp.right r None)) sp.first in
          let follow = subst (λ (z : Option K). MayFollow y z) (sym (front_append sp.right r None)) (j.follows w sp.right (head G r) sp.second o) in
          let same = same_part u l r q m sp.left sp.right sp.joined first follow e (heads q m left h ∙ ap (head G) (sym s.parts)) in
          let cut = past_part l sp.left sp.right r q m sp.joined same.1 e in
          let others = s.only w sp.right r m sp.second o cut h in
          (ap (λ (z : Tree V P). pair z w) same.0 ∙ ap (λ (z : Tree V P). pair t z) others.0, sp.joined ∙ ap (λ (z : List X). z ++ sp.right) same.1 ∙ ap (λ (z : List X). text ++ z) others.1)

      pub rest_read : (r : Result (Tree V P × List X) (Fault P)) → Meets (all ys F) d rest r → Meets (all (y ∷ ys) F) d ts (r >>= λ u. Ok (pair t u.0, u.1))
      rest_read (Ok x) s =
          let q = s.0 in
          let f = s.1 in (
            text ++ q,
            record {
              parts = found.parts ∙ ap (λ (l : List X). text ++ l) f.parts ∙ sym (append_assoc text q x.1);
              fits = λ h o. record { left = text; right = q; joined = refl; first = found.fits (front G q h) (before q x.1 h f.parts o); second = f.fits h o };
              has = (found.has, f.has);
              size = let a = found.size in let b = f.size in omega (arith, length-append text q);
              deep = let a = found.deep in let b = f.deep in omega arith;
              only = rest_only x.0 q x.1 f;
            },
          )
        where
          before : (q left : List X) (h : Option K) → rest ≡ q ++ left → (h ≡ head G left) ⊎ Welcome h → (front G q h ≡ head G rest) ⊎ Welcome (front G q h)
          before [] left h e (inl is) = inl (is ∙ ap (head G) (sym e))
          before [] left h e (inr w) = inr w
          before (z ∷ q) left h e o = inl (sym (ap (head G) e))
      rest_read (Err f) s =
          let q = s.0 in
          let left = s.1 in
          let t = s.2 in (
            text ++ q,
            left,
            record {
              parts = found.parts ∙ ap (λ (l : List X). text ++ l) t.parts ∙ sym (append_assoc text q left);
              left = t.left;
              starts = Begun-rest (Belongs G) (λ p h. h) d q left t.parts (omega arith) t.starts;
              never = rest_never f q left t;
              goes = GoesOn-rest q left f t.parts t.goes;
            },
          )

    GoesOn-part : (p rest : List X) (f : Fault P) → GoesOn (one y) p rest f → GoesOn (all (y ∷ ys) F) p rest f
    GoesOn-part p rest (Syntax n) g = tt
    GoesOn-part p rest (LeftOut q n) g = (g.0, g.1, g.2, g.3, g.4, Begun-part (BelongsOr G q) (λ p. inl) g.2 _ g.5)
    GoesOn-part p rest (TooDeep n) g = (g.0, g.1, g.2, g.3, Begun-part (Belongs G) (λ p h. h) g.2 _ g.4)

    first_never : (d : ℕ) (ts p rest : List X) (f : Fault P) → Stopped (one y) d ts p rest f → (u : Tree V P) (l r m : List X) → (all (y ∷ ys) F).fits u l (head G r) → F (head G r) → l ++ r ≡ p ++ m → head G m ≡ head G rest → Denies f d (length p) u
    first_never d ts p rest f s nil l r m sp o e h = absurd sp
    first_never d ts p rest f s (leaf w) l r m sp o e h = absurd sp
    first_never d ts p rest f s (node q u) l r m sp o e h = absurd sp
    first_never d ts p rest f s (pair u w) l r m sp o e h =
        let first = subst (λ (z : Option K). Fit G y u sp.left z) (sym (front_append sp.right r None)) sp.first in
        let follow = subst (λ (z : Option K). MayFollow y z) (sym (front_append sp.right r None)) (j.follows w sp.right (head G r) sp.second o) in
        Denies-left f d (length p) u w (s.never u sp.left (sp.right ++ r) m first follow (regroup l sp.left sp.right r _ sp.joined e) h)

    -- A symbol is read, and then those after it, of which no more lexemes are left.
    pub then_within : (d : ℕ) (ts : List X) (r : Result (Tree V P × List X) (Fault P)) (rest : Reader X V P) → Meets (one y) d ts r → ((l : List X) → length l ≤ length ts → Meets (all ys F) d l (rest l)) → Meets (all (y ∷ ys) F) d ts (r >>= λ x. rest x.1 >>= λ u. Ok (pair x.0 u.0, u.1))
    then_within d ts (Ok x) rest s after =
        let e = ap length s.1.parts in
        rest_read d ts x.0 s.0 x.1 s.1 (rest x.1) (after x.1 (omega (arith, length-append s.0 x.1)))
    then_within d ts (Err f) rest s after = (s.0, s.1, let t = s.2 in record { parts = t.parts; left = t.left; starts = Begun-part (Belongs G) (λ p h. h) d s.0 t.starts; never = first_never d ts s.0 s.1 f t; goes = GoesOn-part s.0 s.1 f t.goes })

    pub then : (d : ℕ) (ts : List X) (r : Result (Tree V P × List X) (Fault P)) (rest : Reader X V P) → Meets (one y) d ts r → ((l : List X) → Meets (all ys F) d l (rest l)) → Meets (all (y ∷ ys) F) d ts (r >>= λ x. rest x.1 >>= λ u. Ok (pair x.0 u.0, u.1))
    then d ts r rest s after = then_within d ts r rest s (λ l h. after l)

  -- ---- one lexeme

  -- Whether a lexeme is one that was asked for shows in its kind.
  pub record IsByKind : Type 0 where
    pub none : (s : S) (x z : X) → G.kind x ≡ G.kind z → G.value s x ≡ None → G.value s z ≡ None

  -- no tree begins like the lexemes
  pub wrong : (L : Lang X K V P) (d : ℕ) (ts : List X) → Begun L (Belongs G) 0 [] → ((u : Tree V P) (l r : List X) → L.fits u l (head G r) → L.follow (head G r) → head G (l ++ r) ≡ head G ts → ⊥) → Meets L d ts (Err (Syntax (length ts)))
  wrong L d ts some none = (
    [],
    ts,
    record {
      parts = refl;
      left = refl;
      starts = Begun-more L (Belongs G) 0 d [] (omega arith) some;
      never = λ u l r m s o e h. none u l r s o (ap (head G) e ∙ h);
      goes = tt;
    },
  )

  pub some_token : (s : S) (x : X) (v : V) → G.value s x ≡ Some v → Welcome (Some (G.kind x)) → Begun (one (token s)) (Belongs G) 0 []
  some_token s x v e w = record { tree = leaf v; more = x ∷ []; fits = λ h k f. record { lexeme = x; alone = refl; keeps = e }; next = λ h k. w; has = tt; size = refl; deep = omega arith }

  token_only : (s : S) (x : X) (v : V) → G.value s x ≡ Some v → (u : Tree V P) (l r m : List X) → Fit G (token s) u l (head G r) → l ++ r ≡ (x ∷ []) ++ m → (u ≡ leaf v) × (l ≡ x ∷ [])
  token_only s x v e nil l r m sp c = absurd sp
  token_only s x v e (pair t u) l r m sp c = absurd sp
  token_only s x v e (node p t) l r m sp c = absurd sp
  token_only s x v e (leaf w) l r m sp c =
      let z = sp.lexeme in
      let k : (z ∷ []) ++ r ≡ (x ∷ []) ++ m = ap (λ (q : List X). q ++ r) (sym sp.alone) ∙ c in
      let is : z ≡ x = cc in
      let same : w ≡ v = (let a = sp.keeps in let b = ap (G.value s) is in cc) in
      (ap (λ (q : V). leaf q) same, sp.alone ∙ ap (λ (q : X). q ∷ []) is)

  pub token_found : (s : S) (x : X) (v : V) → G.value s x ≡ Some v → (d : ℕ) (ts : List X) → Found (one (token s)) d (x ∷ ts) (leaf v) (x ∷ []) ts
  token_found s x v e d ts = record {
    parts = refl;
    fits = λ h o. record { lexeme = x; alone = refl; keeps = e };
    has = tt;
    size = refl;
    deep = omega arith;
    only = λ u l r m sp o c h. token_only s x v e u l r m sp c;
  }

  token_never : IsByKind → (s : S) (x : X) → G.value s x ≡ None → (u : Tree V P) (l r : List X) → Fit G (token s) u l (head G r) → head G (l ++ r) ≡ Some (G.kind x) → ⊥
  token_never i s x e nil l r sp h = sp
  token_never i s x e (pair t u) l r sp h = sp
  token_never i s x e (node p t) l r sp h = sp
  token_never i s x e (leaf w) l r sp h =
      let z = sp.lexeme in
      let k : Some (G.kind z) ≡ Some (G.kind x) = ap (λ (q : List X). head G (q ++ r)) (sym sp.alone) ∙ h in
      let same : G.kind x ≡ G.kind z = cc in
      let n = i.none s x z same e in
      let a = sp.keeps in
      cc

  token_end : (s : S) (u : Tree V P) (l r : List X) → Fit G (token s) u l (head G r) → head G (l ++ r) ≡ None → ⊥
  token_end s nil l r sp h = sp
  token_end s (pair t u) l r sp h = sp
  token_end s (node p t) l r sp h = sp
  token_end s (leaf w) l r sp h = let k : Some (G.kind sp.lexeme) ≡ None = ap (λ (q : List X). head G (q ++ r)) (sym sp.alone) ∙ h in cc

  token_by : IsByKind → (s : S) → Begun (one (token s)) (Belongs G) 0 [] → (d : ℕ) (x : X) (ts : List X) (o : Option V) → G.value s x ≡ o → Meets (one (token s)) d (x ∷ ts) (kept_by o x ts)
  token_by i s b d x ts (Some v) e = (x ∷ [], token_found s x v e d ts)
  token_by i s b d x ts None e = wrong (one (token s)) d (x ∷ ts) b (λ u l r sp o h. token_never i s x e u l r sp h)

  pub token_meets : IsByKind → (s : S) → Begun (one (token s)) (Belongs G) 0 [] → (d : ℕ) (ts : List X) → Meets (one (token s)) d ts (token_at G s ts)
  token_meets i s b d [] = wrong (one (token s)) d [] b (λ u l r sp o h. token_end s u l r sp h)
  token_meets i s b d (x ∷ ts) = token_by i s b d x ts (G.value s x) refl

  -- one that is known to stand there
  pub token_known : (s : S) (x : X) (v : V) → G.value s x ≡ Some v → (d : ℕ) (ts : List X) → Meets (one (token s)) d (x ∷ ts) (token_at G s (x ∷ ts))
  token_known s x v e d ts = subst (λ (o : Option V). Meets (one (token s)) d (x ∷ ts) (kept_by o x ts)) (sym e) (x ∷ [], token_found s x v e d ts)

  -- ---- several symbols

  pub none_only : (F : Option K → Type 0) (u : Tree V P) (l : List X) (h : Option K) → Fits G [] u l h → (u ≡ nil) × (l ≡ [])
  none_only F nil l h sp = (refl, sp)
  none_only F (pair t u) l h sp = absurd sp
  none_only F (leaf v) l h sp = absurd sp
  none_only F (node p t) l h sp = absurd sp

  pub none_meets : (F : Option K → Type 0) (d : ℕ) (ts : List X) → Meets (all [] F) d ts (Ok (nil, ts))
  none_meets F d ts = ([], record { parts = refl; fits = λ h o. refl; has = tt; size = refl; deep = omega arith; only = λ u l r m sp o e h. none_only F u l (head G r) sp })

  pub none_begun : (F : Option K → Type 0) → Begun (all [] F) (Belongs G) 0 []
  none_begun F = record { tree = nil; more = []; fits = λ h w f. refl; next = λ h w. w; has = tt; size = refl; deep = omega arith }

  -- each symbol of a list joins those after it
  abbrev pub AllJoin : List (Symbol S N) → (Option K → Type 0) → Type 0
  AllJoin [] F = Unit {0}
  AllJoin (y ∷ ys) F = Joins y ys F × AllJoin ys F

  abbrev pub AllMeet : ℕ → List (Symbol S N) → List (Reader X V P) → Type 0
  AllMeet d [] [] = Unit {0}
  AllMeet d [] (r ∷ rs) = ⊥
  AllMeet d (y ∷ ys) [] = ⊥
  AllMeet d (y ∷ ys) (r ∷ rs) = ((ts : List X) → Meets (one y) d ts (r ts)) × AllMeet d ys rs

  pub through_meets : (ys : List (Symbol S N)) (F : Option K → Type 0) → AllJoin ys F → (d : ℕ) (rs : List (Reader X V P)) → AllMeet d ys rs → (ts : List X) → Meets (all ys F) d ts (through rs ts)
  through_meets [] F j d [] m ts = none_meets F d ts
  through_meets [] F j d (r ∷ rs) m ts = absurd m
  through_meets (y ∷ ys) F j d [] m ts = absurd m
  through_meets (y ∷ ys) F j d (r ∷ rs) m ts = then y ys F j.0 d ts (r ts) (through rs) (m.0 ts) (λ l. through_meets ys F j.1 d rs m.1 l)

  -- the same, where the first symbol is known to stand there
  pub known_meets : (s : S) (x : X) (v : V) → G.value s x ≡ Some v → (ys : List (Symbol S N)) (F : Option K → Type 0) → AllJoin (token s ∷ ys) F → (d : ℕ) (rs : List (Reader X V P)) → AllMeet d ys rs → (ts : List X) → Meets (all (token s ∷ ys) F) d (x ∷ ts) (through (token_at G s ∷ rs) (x ∷ ts))
  known_meets s x v e ys F j d rs m ts = then (token s) ys F j.0 d (x ∷ ts) (token_at G s (x ∷ ts)) (through rs) (token_known s x v e d ts) (λ l. through_meets ys F j.1 d rs m l)

  -- the first lexeme of what then can be ended
  pub known_begun : (s : S) (x : X) (v : V) → G.value s x ≡ Some v → (ys : List (Symbol S N)) (F : Option K → Type 0) (A : P → Type 0) (d : ℕ) → Begun (all ys F) A d [] → Begun (all (token s ∷ ys) F) A d (x ∷ [])
  known_begun s x v e ys F A d b = record {
    tree = pair (leaf v) b.tree;
    more = b.more;
    fits = λ h w f. record { left = x ∷ []; right = b.more; joined = refl; first = record { lexeme = x; alone = refl; keeps = e }; second = b.fits h w f };
    next = b.next;
    has = (tt, b.has);
    size = let k = b.size in omega arith;
    deep = omega arith;
  }
