-- What it is for lexemes to spell a whole source, and for one of them to be the first that is at fault.
use Rattle.std.specs.Prelude.{◌≡◌, ℕ, suc, ◌-◌, ◌≤◌, ◌<◌, true, List, [], ◌∷◌, ◌++◌, length, take, None, Result, Ok, Err}
use Rattle.ll1_grammar.specs.Grammar.{Grammar, Tree, part, Fit, Has, deep_in, Belongs, BelongsOr}
use Rattle.ll1_grammar.specs.Readers.{Fault, Syntax, LeftOut, TooDeep}

-- how many lexemes stand before the place
abbrev pub place : {X : Type 0} → List X → ℕ → ℕ
place ts left = length ts - left

-- the same kind of fault at the same place
abbrev pub SameFault : {P : Type 0} → Fault P → Fault P → Type 0
SameFault (Syntax a) (Syntax b) = a ≡ b
SameFault (LeftOut p a) (LeftOut q b) = a ≡ b
SameFault (TooDeep a) (TooDeep b) = a ≡ b
SameFault f g = ⊥

module _ {X K S V N P : Type 0} (G : Grammar X K S V N P) (start : N) where
  -- the lexemes spell the tree, and nothing follows
  abbrev pub Spells : Tree V P → List X → Type 0
  Spells t l = Fit G (part start) t l None

  -- The lexemes begin the spelling of a tree of productions A, and open at most limit constructs at once.
  pub record Begins (A : P → Type 0) (limit : ℕ) (p : List X) : Type 0 where
    pub tree : Tree V P
    pub more : List X
    pub spells : Spells tree (p ++ more)
    pub has : Has A tree
    pub deep : deep_in G (length p) tree ≤ limit

  -- A tree whose spelling goes on like the lexemes up to the place and the one there, or ends there.
  pub record GoesOn (ts : List X) (left : ℕ) (t : Tree V P) : Type 0 where
    pub more : List X
    pub end : left ≡ 0 → more ≡ []
    pub spells : Spells t (take (suc (place ts left)) ts ++ more)

  -- The lexemes before the place begin a source, within the limit. With the one there, or the end, they do not.
  pub record IsSyntax (limit : ℕ) (ts : List X) (left : ℕ) : Type 0 where
    pub within : left ≤ length ts
    pub before : Begins (Belongs G) limit (take (place ts left) ts)
    pub there : (t : Tree V P) → GoesOn ts left t → ⊥

  -- The same, but there they begin what has the production q beside those of the language.
  pub record IsLeftOut (limit : ℕ) (ts : List X) (q : P) (left : ℕ) : Type 0 where
    pub within : left ≤ length ts
    pub some : 0 < left
    pub before : Begins (Belongs G) limit (take (place ts left) ts)
    pub there : (t : Tree V P) → GoesOn ts left t → Has (Belongs G) t → ⊥
    pub left_out : G.left_out q ≡ true
    pub full : (d : ℕ) × Begins (BelongsOr G q) d (take (suc (place ts left)) ts)

  -- The lexemes before the place begin a source, within the limit. With the one there they begin one, but in each such
  -- source more constructs are open by then.
  pub record IsTooDeep (limit : ℕ) (ts : List X) (left : ℕ) : Type 0 where
    pub within : left ≤ length ts
    pub some : 0 < left
    pub before : Begins (Belongs G) limit (take (place ts left) ts)
    pub there : (d : ℕ) × Begins (Belongs G) d (take (suc (place ts left)) ts)
    pub deeper : (t : Tree V P) → GoesOn ts left t → limit < deep_in G (suc (place ts left)) t

  abbrev pub IsFault : ℕ → List X → Fault P → Type 0
  IsFault limit ts (Syntax left) = IsSyntax limit ts left
  IsFault limit ts (LeftOut q left) = IsLeftOut limit ts q left
  IsFault limit ts (TooDeep left) = IsTooDeep limit ts left

  -- all of the lexemes
  abbrev pub ended : Tree V P × List X → Result (Tree V P) (Fault P)
  ended (t, []) = Ok t
  ended (t, x ∷ l) = Err (Syntax (length (x ∷ l)))
