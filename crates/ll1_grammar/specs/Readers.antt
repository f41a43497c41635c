-- Reading a tree from the front of a list of lexemes, or coming to the first fault.
use Rattle.std.specs.Prelude.{ℕ, List, [], ◌∷◌, length, Option, Some, None, Result, Ok, Err}
use Rattle.ll1_grammar.specs.Grammar.{Grammar, Tree, nil, pair, leaf, node}

-- what is wrong, with the number of lexemes from there on
pub data Fault (P : Type 0) : Type 0 where
  Syntax : ℕ → Fault P
  -- what the production stands for is left out
  LeftOut : P → ℕ → Fault P
  -- more constructs would be open than may be
  TooDeep : ℕ → Fault P

abbrev pub left_of : {P : Type 0} → Fault P → ℕ
left_of (Syntax n) = n
left_of (LeftOut p n) = n
left_of (TooDeep n) = n

infixl 10 ◌>>=◌
abbrev pub ◌>>=◌ : {P A B : Type 0} → Result A (Fault P) → (A → Result B (Fault P)) → Result B (Fault P)
(Ok x) >>= f = f x
(Err e) >>= f = Err e

abbrev pub Reader : Type 0 → Type 0 → Type 0 → Type 0
Reader X V P = List X → Result (Tree V P × List X) (Fault P)

-- one tree after the other
abbrev pub through : {X V P : Type 0} → List (Reader X V P) → Reader X V P
through [] l = Ok (nil, l)
through (r ∷ rs) l = r l >>= λ x. through rs x.1 >>= λ y. Ok (pair x.0 y.0, y.1)

-- the parts of a production
abbrev pub made : {X V P : Type 0} → P → List (Reader X V P) → Reader X V P
made p rs l = through rs l >>= λ y. Ok (node p y.0, y.1)

abbrev pub kept_by : {X V P : Type 0} → Option V → X → List X → Result (Tree V P × List X) (Fault P)
kept_by (Some v) x l = Ok (leaf v, l)
kept_by None x l = Err (Syntax (length (x ∷ l)))

module _ {X K S V N P : Type 0} (G : Grammar X K S V N P) where
  -- one lexeme that has to stand there
  abbrev pub token_at : S → Reader X V P
  token_at s [] = Err (Syntax 0)
  token_at s (x ∷ l) = kept_by (G.value s x) x l

-- The number of constructs that may be open inside one more, and the readers there of each part; none where no more may be open.
abbrev pub Below : Type 0 → Type 0 → Type 0 → Type 0 → Type 0
Below X V N P = Option (ℕ × (N → Reader X V P))

-- one construct more
abbrev pub enter : {X V N P : Type 0} → Below X V N P → List X → Result (ℕ × (N → Reader X V P)) (Fault P)
enter None l = Err (TooDeep (length l))
enter (Some x) l = Ok x

-- a production that opens a construct
abbrev pub opened : {X V N P : Type 0} → P → (ℕ → (N → Reader X V P) → List (Reader X V P)) → Below X V N P → Reader X V P
opened p parts below l = enter below l >>= λ x. made p (parts x.0 x.1) l
