-- A grammar as data, and the trees that spell a list of lexemes in it.
use Rattle.std.specs.Prelude.{◌≡◌, ◌⊎◌, ℕ, zero, suc, ◌+◌, ◌-◌, max, Bool, true, false, List, [], ◌∷◌, ◌++◌, Option, Some, None}

-- what stands in a production: one lexeme, or a part
pub data Symbol (S N : Type 0) : Type 0 where
  token : S → Symbol S N
  part : N → Symbol S N

-- Of lexemes X, whose kinds K are what a reader decides by. S is what may be asked of one lexeme, V what a tree keeps of
-- one, N what a part is, and P the productions.
pub record Grammar (X K S V N P : Type 0) : Type 0 where
  pub kind : X → K
  -- what a tree keeps of the lexeme, where it is one that was asked for
  pub value : S → X → Option V
  -- the part that the production makes, and what it is made of
  pub owner : P → N
  pub body : P → List (Symbol S N)
  -- whether it opens a construct
  pub counts : P → Bool
  -- whether it is no production of the language, and stands for what is left out there
  pub left_out : P → Bool
  -- whether it may stand before a lexeme of the kind, or before the end
  pub allows : P → Option K → Bool

-- A tree: the parts of a node are pairs, up to the last, which is nil.
pub data Tree (V P : Type 0) : Type 0 where
  nil : Tree V P
  pair : Tree V P → Tree V P → Tree V P
  leaf : V → Tree V P
  node : P → Tree V P → Tree V P

-- how many lexemes spell the tree
abbrev pub size : {V P : Type 0} → Tree V P → ℕ
size nil = 0
size (pair t u) = size t + size u
size (leaf v) = 1
size (node p t) = size t

-- each production in the tree is one of these
abbrev pub Has : {V P : Type 0} → (P → Type 0) → Tree V P → Type 0
Has A nil = Unit {0}
Has A (pair t u) = Has A t × Has A u
Has A (leaf v) = Unit {0}
Has A (node p t) = A p × Has A t

abbrev pub one_if : Bool → ℕ
one_if true = 1
one_if false = 0

module _ {X K S V N P : Type 0} (G : Grammar X K S V N P) where
  -- the kind of the first lexeme, or else what comes after
  abbrev pub front : List X → Option K → Option K
  front [] h = h
  front (x ∷ xs) h = Some (G.kind x)

  abbrev pub head : List X → Option K
  head l = front l None

  -- some lexemes that are P, and then some that are Q, before h
  pub record Seq (A B : List X → Option K → Type 0) (l : List X) (h : Option K) : Type 0 where
    pub left : List X
    pub right : List X
    pub joined : l ≡ left ++ right
    pub first : A left (front right h)
    pub second : B right h

  -- one lexeme, of which the tree keeps v
  pub record One (s : S) (v : V) (l : List X) : Type 0 where
    pub lexeme : X
    pub alone : l ≡ lexeme ∷ []
    pub keeps : G.value s lexeme ≡ Some v

  -- The lexemes spell the tree, where h is the kind of what follows them: one symbol, or several in order.
  abbrev mutual
    pub Fit : Symbol S N → Tree V P → List X → Option K → Type 0
    Fit (token s) (leaf v) = λ l h. One s v l
    Fit (part n) (node p t) = λ l h. (G.owner p ≡ n) × (G.allows p h ≡ true) × Fits (G.body p) t l h
    Fit y t = λ l h. ⊥

    pub Fits : List (Symbol S N) → Tree V P → List X → Option K → Type 0
    Fits [] nil = λ l h. l ≡ []
    Fits (y ∷ ys) (pair t u) = Seq (Fit y t) (Fits ys u)
    Fits ys t = λ l h. ⊥

  -- the greatest number of constructs that are open at once
  abbrev pub deep : Tree V P → ℕ
  deep nil = 0
  deep (pair t u) = max (deep t) (deep u)
  deep (leaf v) = 0
  deep (node p t) = one_if (G.counts p) + deep t

  -- the same, of those that the first n lexemes open
  abbrev pub deep_in : ℕ → Tree V P → ℕ
  deep_in zero t = 0
  deep_in (suc n) nil = 0
  deep_in (suc n) (pair t u) = max (deep_in (suc n) t) (deep_in (suc n - size t) u)
  deep_in (suc n) (leaf v) = 0
  deep_in (suc n) (node p t) = one_if (G.counts p) + deep_in (suc n) t

  -- the production is one of the language
  abbrev pub Belongs : P → Type 0
  Belongs p = G.left_out p ≡ false

  -- the production is one of the language, or this one
  abbrev pub BelongsOr : P → P → Type 0
  BelongsOr q p = (G.left_out p ≡ false) ⊎ (p ≡ q)
