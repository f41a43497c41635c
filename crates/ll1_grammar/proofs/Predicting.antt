-- From what each production may begin with, and what may follow each part: the lexeme in front chooses the production.
use Rattle.std.proofs.Common.{◌≡◌, Bool, true, false, cond, List, [], ◌∷◌, ◌++◌, Option, Some, refl, sym, subst}
use Rattle.ll1_grammar.specs.Grammar.{Symbol, token, part, Grammar, Tree, nil, pair, leaf, node, front, One, Fit, Fits, Belongs}
use Rattle.ll1_grammar.proofs.Meeting.{MayFollow, Begun, one, all, AllJoin, none_begun, Begun-part}

module _ {X K S V N P : Type 0} (G : Grammar X K S V N P) (accepts : S → K → Bool) (starts : N → K → Bool) (vanishes : N → Bool) where
  -- a lexeme of the kind may stand first in the symbols
  abbrev pub begins : List (Symbol S N) → K → Bool
  begins [] k = false
  begins (token s ∷ ys) k = accepts s k
  begins (part n ∷ ys) k = cond (starts n k) true (cond (vanishes n) (begins ys k) false)

  -- the symbols may be spelled by no lexemes
  abbrev pub vanish : List (Symbol S N) → Bool
  vanish [] = true
  vanish (token s ∷ ys) = false
  vanish (part n ∷ ys) = cond (vanishes n) (vanish ys) false

  -- what is known of one production
  pub record Knows (p : P) : Type 0 where
    pub first : (k : K) → begins (G.body p) k ≡ true → starts (G.owner p) k ≡ true
    pub empty : vanish (G.body p) ≡ true → vanishes (G.owner p) ≡ true

  pub record IsAccepted : Type 0 where
    pub kind : (s : S) (x : X) (v : V) → G.value s x ≡ Some v → accepts s (G.kind x) ≡ true

  true_or : (a b : Bool) → a ≡ true → cond a true b ≡ true
  true_or true b e = refl
  true_or false b e = absurd cc

  or_true : (a b : Bool) → b ≡ true → cond a true b ≡ true
  or_true true b e = refl
  or_true false b e = e

  both : (a b : Bool) → a ≡ true → b ≡ true → cond a b false ≡ true
  both true b e h = h
  both false b e h = absurd cc

  module _ (accepted : IsAccepted) (knows : (p : P) → Knows p) where
    starts_by : (p : P) (n : N) (k : K) → G.owner p ≡ n → begins (G.body p) k ≡ true → starts n k ≡ true
    starts_by p n k e h = subst (λ (m : N). starts m k ≡ true) e ((knows p).first k h)

    vanishes_by : (p : P) (n : N) → G.owner p ≡ n → vanish (G.body p) ≡ true → vanishes n ≡ true
    vanishes_by p n e h = subst (λ (m : N). vanishes m ≡ true) e ((knows p).empty h)

    -- what the first lexeme of a tree is, or that it may have none
    abbrev pub Begins : List (Symbol S N) → List X → Type 0
    Begins ys [] = vanish ys ≡ true
    Begins ys (x ∷ l) = begins ys (G.kind x) ≡ true

    token_begins : (s : S) (v : V) (ys : List (Symbol S N)) (l r : List X) → One G s v l → Begins (token s ∷ ys) (l ++ r)
    token_begins s v ys l r o = subst (λ (z : List X). Begins (token s ∷ ys) (z ++ r)) (sym o.alone) (accepted.kind s o.lexeme v o.keeps)

    part_begins : (p : P) (n : N) (ys : List (Symbol S N)) (l r : List X) → G.owner p ≡ n → Begins (G.body p) l → Begins ys r → Begins (part n ∷ ys) (l ++ r)
    part_begins p n ys [] [] e a b = both (vanishes n) (vanish ys) (vanishes_by p n e a) b
    part_begins p n ys [] (x ∷ r) e a b = or_true (starts n (G.kind x)) _ (both (vanishes n) (begins ys (G.kind x)) (vanishes_by p n e a) b)
    part_begins p n ys (x ∷ l) r e a b = true_or (starts n (G.kind x)) _ (starts_by p n (G.kind x) e a)

    pub spelled_begins : (t : Tree V P) (ys : List (Symbol S N)) (l : List X) (h : Option K) → Fits G ys t l h → Begins ys l
    spelled_begins nil [] l h f = subst (λ (z : List X). Begins [] z) (sym f) refl
    spelled_begins nil (y ∷ ys) l h f = absurd f
    spelled_begins (leaf v) [] l h f = absurd f
    spelled_begins (leaf v) (y ∷ ys) l h f = absurd f
    spelled_begins (node p t) [] l h f = absurd f
    spelled_begins (node p t) (y ∷ ys) l h f = absurd f
    spelled_begins (pair t u) [] l h f = absurd f
    spelled_begins (pair (leaf v) u) (token s ∷ ys) l h f = subst (λ (z : List X). Begins (token s ∷ ys) z) (sym f.joined) (token_begins s v ys f.left f.right f.first)
    spelled_begins (pair nil u) (token s ∷ ys) l h f = absurd f.first
    spelled_begins (pair (pair t v) u) (token s ∷ ys) l h f = absurd f.first
    spelled_begins (pair (node p t) u) (token s ∷ ys) l h f = absurd f.first
    spelled_begins (pair nil u) (part n ∷ ys) l h f = absurd f.first
    spelled_begins (pair (pair t v) u) (part n ∷ ys) l h f = absurd f.first
    spelled_begins (pair (leaf v) u) (part n ∷ ys) l h f = absurd f.first
    spelled_begins (pair (node p t) u) (part n ∷ ys) l h f = subst (λ (z : List X). Begins (part n ∷ ys) z) (sym f.joined)
        (part_begins p n ys f.left f.right f.first.0 (spelled_begins t (G.body p) f.left (front G f.right h) f.first.2) (spelled_begins u ys f.right h f.second))

    -- ---- the choice

    module _ (Follow : N → Option K → Type 0) (choose : N → Option K → Option P) where
      pub record Chooses (p : P) : Type 0 where
        pub by_first : (k : K) → begins (G.body p) k ≡ true → choose (G.owner p) (Some k) ≡ Some p
        pub by_next : vanish (G.body p) ≡ true → (h : Option K) → Follow (G.owner p) h → G.allows p h ≡ true → choose (G.owner p) h ≡ Some p

      chosen : (p : P) → Chooses p → (l : List X) (h : Option K) → Begins (G.body p) l → Follow (G.owner p) h → G.allows p h ≡ true → choose (G.owner p) (front G l h) ≡ Some p
      chosen p c [] h b o a = c.by_next b h o a
      chosen p c (x ∷ l) h b o a = c.by_first (G.kind x) b

      pub predicts : ((p : P) → Chooses p) → (n : N) (q : P) (u : Tree V P) (l : List X) (h : Option K) → Fit G (part n) (node q u) l h → Follow n h → choose n (front G l h) ≡ Some q
      predicts c n q u l h f o =
          let b = spelled_begins u (G.body q) l h f.2 in
          let o' = subst (λ (m : N). Follow m h) (sym f.0) o in
          subst (λ (m : N). choose m (front G l h) ≡ Some q) f.0 (chosen q (c q) l h b o' f.1)

    -- ---- what follows a part

    module _ (Follow : N → Option K → Type 0) where
      -- what may stand after a symbol may follow it
      abbrev pub FollowsAt : Symbol S N → List (Symbol S N) → N → Type 0
      FollowsAt (token s) ys m = Unit {0}
      FollowsAt (part n) ys m = ((k : K) → begins ys k ≡ true → Follow n (Some k)) × (vanish ys ≡ true → (h : Option K) → Follow m h → Follow n h)

      front_follows : (n m : N) (ys : List (Symbol S N)) → FollowsAt (part n) ys m → (b : List X) (h : Option K) → Begins ys b → Follow m h → Follow n (front G b h)
      front_follows n m ys f [] h s o = f.1 s h o
      front_follows n m ys f (x ∷ b) h s o = f.0 (G.kind x) s

      pub follows : (y : Symbol S N) (ys : List (Symbol S N)) (m : N) → FollowsAt y ys m → (u : Tree V P) (b : List X) (h : Option K) → Fits G ys u b h → Follow m h → MayFollow G Follow y (front G b h)
      follows (token s) ys m f u b h sp o = tt
      follows (part n) ys m f u b h sp o = front_follows n m ys f b h (spelled_begins u ys b h sp) o

      -- each symbol of a list is followed by what may follow it
      abbrev pub AllFollow : List (Symbol S N) → N → Type 0
      AllFollow [] m = Unit {0}
      AllFollow (y ∷ ys) m = FollowsAt y ys m × AllFollow ys m

      -- some tree of each symbol
      abbrev pub AllBegun : List (Symbol S N) → Type 0
      AllBegun [] = Unit {0}
      AllBegun (y ∷ ys) = Begun G Follow (one G Follow y) (Belongs G) 0 [] × AllBegun ys

      -- those behind the first
      abbrev pub RestBegun : List (Symbol S N) → Type 0
      RestBegun [] = Unit {0}
      RestBegun (y ∷ ys) = AllBegun ys

      pub list_begun : (ys : List (Symbol S N)) (F : Option K → Type 0) → AllJoin G Follow ys F → AllBegun ys → Begun G Follow (all G Follow ys F) (Belongs G) 0 []
      list_begun [] F j b = none_begun G Follow F
      list_begun (y ∷ ys) F j b = Begun-part G Follow y ys F j.0 (Belongs G) (λ p h. h) 0 [] b.0

      pub all_join : (ys : List (Symbol S N)) (m : N) → AllFollow ys m → RestBegun ys → AllJoin G Follow ys (Follow m)
      all_join [] m f b = tt
      all_join (y ∷ []) m f b = (record { follows = follows y [] m f.0; ends = none_begun G Follow (Follow m) }, tt)
      all_join (y ∷ z ∷ ys) m f b =
          let j = all_join (z ∷ ys) m f.1 b.1 in
          (record { follows = follows y (z ∷ ys) m f.0; ends = list_begun (z ∷ ys) (Follow m) j b }, j)

      pub rest_of : (ys : List (Symbol S N)) → AllBegun ys → RestBegun ys
      rest_of [] b = tt
      rest_of (y ∷ ys) b = b.1
