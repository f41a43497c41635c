-- Readers in the code's shape, and the productions that they read.
use Rattle.std.proofs.Common.{◌≡◌, ℕ, Bool, true, false, cond, List, [], ◌∷◌, Option, Some, None, Result, Ok, Err, refl, sym, ap, subst, ◌∙◌, rules}
use denote.Enum.Bare.{same_true}
use Rattle.pascal_grammar.specs.contracts.kind.Kind.{the_type}
use Rattle.pascal_grammar.specs.declared.kind.Kind.{Kind}
use Rattle.pascal_grammar.specs.declared.kind.Kind.TheVariants as k
use Rattle.pascal_grammar.specs.declared.lexeme.Position.{Position}
use Rattle.pascal_grammar.specs.declared.lexeme.Lexeme.{Lexeme}
use Rattle.pascal_grammar.specs.declared.operator.Relator.{Relator}
use Rattle.pascal_grammar.specs.declared.operator.Adder.{Adder}
use Rattle.pascal_grammar.specs.declared.operator.Multiplier.{Multiplier}
use Rattle.pascal_grammar.specs.declared.operator.Sign.{Sign}
use Rattle.pascal_grammar.specs.Operators.{relator_of, adder_of, multiplier_of, sign_of}
use Rattle.pascal_grammar.specs.Asked.{same, is_relator, is_adder, is_multiplier, is_sign}
use Rattle.pascal_grammar.specs.Asked as q
use Rattle.pascal_grammar.specs.Lexemes.{Kept, kept_or, kind_of}
use Rattle.pascal_grammar.specs.Lexemes as v
use Rattle.pascal_grammar.specs.Parts.{Part}
use Rattle.pascal_grammar.specs.Productions.{Production}
use Rattle.ll1_grammar.specs.Grammar.{leaf, node, pair, nil}
use Rattle.ll1_grammar.specs.Readers.{Fault, Reader, ◌>>=◌, made, opened, enter, through, kept_by}
use Rattle.syntax_tree.specs.declared.expression.PlacedSign.{PlacedSign}
use Rattle.syntax_tree.specs.Expressions.{Parsed, of, word}
use Rattle.expression_parser.specs.Gives.{Reads, Inside, ask}
use Rattle.expression_parser.specs.Reading.{tail_of, begins, placed, placed_sign, relator_at, adder_at, multiplier_at, sign_found, sign_at}

abbrev pub Outcome : Type 0
Outcome = Result (Parsed × List Lexeme) (Fault Production)

-- a word stands in front
pub begins_is : (want : Kind) (ts : List Lexeme) → begins want ts ≡ true → (x : Lexeme) × (xs : List Lexeme) × (ts ≡ x ∷ xs) × (kind_of x ≡ want)
begins_is want [] e = absurd cc
begins_is want (x ∷ xs) e = (x, xs, refl, same_true the_type (search rules) (kind_of x) want e)

pub same_kind : (x : Lexeme) (want : Kind) → same (kind_of x) want ≡ true → kind_of x ≡ want
same_kind x want e = same_true the_type (search rules) (kind_of x) want e

pub word_asked : (want : Kind) (x : Lexeme) (xs : List Lexeme) → same (kind_of x) want ≡ true → ask (q.word want) (x ∷ xs) ≡ Ok (word, xs)
word_asked want x xs e = ap (λ (c : Bool). kept_by {P = Production} (cond c (Some v.nothing) None) x xs) e

-- ---- an operator in front

operator_asked : {A : Type 0} (make : A → Position → Kept) (o : Option A) (b : Bool) (here : Position) (x : Lexeme) (xs : List Lexeme) (y : A × Position) → ((a : A) → o ≡ Some a → b ≡ true) → placed o here ≡ Some y → kept_by {P = Production} (cond b (Some (kept_or make o here)) None) x xs ≡ Ok (leaf (make y.0 y.1), xs)
operator_asked make None b here x xs y f e = absurd cc
operator_asked {A} make (Some a) b here x xs y f e =
    let z : b ≡ true = f a refl in
    let both : Some (a, here) ≡ Some y = e in
    let is : (a, here) ≡ y = cc in
    ap (λ (c : Bool). kept_by {P = Production} (cond c (Some (make a here)) None) x xs) z ∙ ap (λ (w : A × Position). Ok (leaf (make w.0 w.1), xs)) is

is_relator_of : (x : Kind) (a : Relator) → relator_of x ≡ Some a → is_relator x ≡ true
is_relator_of k.Equal a e = refl
is_relator_of k.Unequal a e = refl
is_relator_of k.Less a e = refl
is_relator_of k.Greater a e = refl
is_relator_of k.AtMost a e = refl
is_relator_of k.AtLeast a e = refl
is_relator_of k.In a e = refl
is_relator_of x a e = absurd cc

is_adder_of : (x : Kind) (a : Adder) → adder_of x ≡ Some a → is_adder x ≡ true
is_adder_of k.Plus a e = refl
is_adder_of k.Minus a e = refl
is_adder_of k.Or a e = refl
is_adder_of k.Xor a e = refl
is_adder_of x a e = absurd cc

is_multiplier_of : (x : Kind) (a : Multiplier) → multiplier_of x ≡ Some a → is_multiplier x ≡ true
is_multiplier_of k.Times a e = refl
is_multiplier_of k.Div a e = refl
is_multiplier_of k.Mod a e = refl
is_multiplier_of k.And a e = refl
is_multiplier_of k.Shl a e = refl
is_multiplier_of k.Shr a e = refl
is_multiplier_of x a e = absurd cc

pub relator_asked : (ts : List Lexeme) (y : Relator × Position) → relator_at ts ≡ Some y → ask q.relator ts ≡ Ok (leaf (v.relator y.0 y.1), tail_of ts)
relator_asked [] y e = absurd cc
relator_asked (x ∷ xs) y e = operator_asked v.relator (relator_of (kind_of x)) (is_relator (kind_of x)) x.position x xs y (is_relator_of (kind_of x)) e

pub adder_asked : (ts : List Lexeme) (y : Adder × Position) → adder_at ts ≡ Some y → ask q.adder ts ≡ Ok (leaf (v.adder y.0 y.1), tail_of ts)
adder_asked [] y e = absurd cc
adder_asked (x ∷ xs) y e = operator_asked v.adder (adder_of (kind_of x)) (is_adder (kind_of x)) x.position x xs y (is_adder_of (kind_of x)) e

pub multiplier_asked : (ts : List Lexeme) (y : Multiplier × Position) → multiplier_at ts ≡ Some y → ask q.multiplier ts ≡ Ok (leaf (v.multiplier y.0 y.1), tail_of ts)
multiplier_asked [] y e = absurd cc
multiplier_asked (x ∷ xs) y e = operator_asked v.multiplier (multiplier_of (kind_of x)) (is_multiplier (kind_of x)) x.position x xs y (is_multiplier_of (kind_of x)) e

sign_by : (x : Kind) (here : Position) (l : Lexeme) (xs : List Lexeme) (s : PlacedSign) → placed_sign (sign_of x) here ≡ Some s → kept_by {P = Production} (cond (is_sign x) (Some (kept_or v.sign (sign_of x) here)) None) l xs ≡ Ok (leaf (v.sign s.sign s.position), xs)
sign_by k.Plus here l xs s e = let is : _ ≡ s = cc in ap (λ (z : PlacedSign). Ok (leaf (v.sign z.sign z.position), xs)) is
sign_by k.Minus here l xs s e = let is : _ ≡ s = cc in ap (λ (z : PlacedSign). Ok (leaf (v.sign z.sign z.position), xs)) is
sign_by x here l xs s e = absurd cc

pub sign_asked : (ts : List Lexeme) (s : PlacedSign) → sign_found ts ≡ Some s → ask q.sign ts ≡ Ok (leaf (v.sign s.sign s.position), tail_of ts)
sign_asked [] s e = absurd cc
sign_asked (x ∷ xs) s e = sign_by (kind_of x) x.position x xs s e

-- ---- the shapes of readers, by the answers of what they read

abbrev End : Type 0
End = Parsed × List Lexeme

abbrev alone : End → Outcome
alone u = Ok (pair u.0 nil, u.1)

abbrev behind : Parsed → End → Outcome
behind a u = Ok (pair a u.0, u.1)

abbrev made_of : Production → End → Outcome
made_of x u = Ok (node x u.0, u.1)

abbrev one_of : Production → Parsed → End → Outcome
one_of x a u = Ok (of x (a ∷ u.0 ∷ []), u.1)

abbrev two_of : Production → Parsed → Parsed → End → Outcome
two_of x a t u = Ok (of x (a ∷ t ∷ u.0 ∷ []), u.1)

abbrev both : Parsed → End → Result ((Parsed × Parsed) × List Lexeme) (Fault Production)
both i u = Ok ((i, u.0), u.1)

abbrev four_of : Production → Production → Parsed → Parsed → Parsed → End → Outcome
four_of o x a s t u = Ok (of o (of x (a ∷ s ∷ t ∷ u.0 ∷ []) ∷ []), u.1)

-- ---- one symbol read already

first_by : (x : Production) (a : Parsed) (r : Outcome) → (r >>= one_of x a) ≡ ((r >>= alone) >>= behind a) >>= made_of x
first_by x a (Ok u) = refl
first_by x a (Err f) = refl

pub first_read : (x : Production) (r1 r2 : Reads) (a : Parsed) (ts rest : List Lexeme) → r1 ts ≡ Ok (a, rest) → (r2 rest >>= one_of x a) ≡ made x (r1 ∷ r2 ∷ []) ts
first_read x r1 r2 a ts rest e = rw e (first_by x a (r2 rest))

last_by : (x : Production) (a t : Parsed) (r : Outcome) → (r >>= two_of x a t) ≡ (((r >>= alone) >>= behind t) >>= behind a) >>= made_of x
last_by x a t (Ok u) = refl
last_by x a t (Err f) = refl

second_by : (x : Production) (a : Parsed) (r3 : Reads) (r : Outcome) → (r >>= λ t. r3 t.1 >>= two_of x a t.0) ≡ ((r >>= λ t. (r3 t.1 >>= alone) >>= behind t.0) >>= behind a) >>= made_of x
second_by x a r3 (Err f) = refl
second_by x a r3 (Ok t) = last_by x a t.0 (r3 t.1)

pub second_read : (x : Production) (r1 r2 r3 : Reads) (a : Parsed) (ts rest : List Lexeme) → r1 ts ≡ Ok (a, rest) → (r2 rest >>= λ t. r3 t.1 >>= two_of x a t.0) ≡ made x (r1 ∷ r2 ∷ r3 ∷ []) ts
second_read x r1 r2 r3 a ts rest e = rw e (second_by x a r3 (r2 rest))

-- ---- two symbols read as a pair

pair_by : (x : Production) (r3 : Reads) (i : Parsed) (r : Outcome) → ((r >>= both i) >>= λ d. r3 d.1 >>= two_of x d.0.0 d.0.1) ≡ ((r >>= λ t. (r3 t.1 >>= alone) >>= behind t.0) >>= behind i) >>= made_of x
pair_by x r3 i (Err f) = refl
pair_by x r3 i (Ok s) = last_by x i s.0 (r3 s.1)

pair_from : (x : Production) (r2 r3 : Reads) (r : Outcome) → ((r >>= λ i. r2 i.1 >>= both i.0) >>= λ d. r3 d.1 >>= two_of x d.0.0 d.0.1) ≡ (r >>= λ i. (r2 i.1 >>= λ t. (r3 t.1 >>= alone) >>= behind t.0) >>= behind i.0) >>= made_of x
pair_from x r2 r3 (Err f) = refl
pair_from x r2 r3 (Ok i) = pair_by x r3 i.0 (r2 i.1)

pub pair_read : (x : Production) (r1 r2 r3 : Reads) (ts : List Lexeme) → ((r1 ts >>= λ i. r2 i.1 >>= both i.0) >>= λ d. r3 d.1 >>= two_of x d.0.0 d.0.1) ≡ made x (r1 ∷ r2 ∷ r3 ∷ []) ts
pair_read x r1 r2 r3 ts = pair_from x r2 r3 (r1 ts)

-- ---- an operator that opens a construct

module _ (o x : Production) (a : Parsed) (m : Reads) where
  chain_last : (s t : Parsed) (r : Outcome) → (r >>= four_of o x a s t) ≡ ((((((r >>= alone) >>= behind t) >>= behind s) >>= behind a) >>= made_of x) >>= alone) >>= made_of o
  chain_last s t (Ok u) = refl
  chain_last s t (Err f) = refl

  chain_item : (s : Parsed) (r : Outcome) → (r >>= λ t. m t.1 >>= four_of o x a s t.0) ≡ (((((r >>= λ t. (m t.1 >>= alone) >>= behind t.0) >>= behind s) >>= behind a) >>= made_of x) >>= alone) >>= made_of o
  chain_item s (Ok t) = chain_last s t.0 (m t.1)
  chain_item s (Err f) = refl

  chain_sign : (i : Reads) (r : Outcome) → (r >>= λ s. i s.1 >>= λ t. m t.1 >>= four_of o x a s.0 t.0) ≡ ((((r >>= λ s. (i s.1 >>= λ t. (m t.1 >>= alone) >>= behind t.0) >>= behind s.0) >>= behind a) >>= made_of x) >>= alone) >>= made_of o
  chain_sign i (Ok s) = chain_item s.0 (i s.1)
  chain_sign i (Err f) = refl

pub operator_read : (o x : Production) (asks : Reads) (a : Parsed) (n m : Part) (b : Inside) (ts : List Lexeme) → asks ts ≡ Ok (a, tail_of ts)
    → (enter b ts >>= λ l. sign_at (tail_of ts) >>= λ s. l.1 n s.1 >>= λ t. l.1 m t.1 >>= four_of o x a s.0 t.0) ≡ made o (opened x (λ e l. asks ∷ sign_at ∷ l n ∷ l m ∷ []) b ∷ []) ts
operator_read o x asks a n m None ts e = refl
operator_read o x asks a n m (Some l) ts e = rw e (chain_sign o x a (l.1 m) (l.1 n) (sign_at (tail_of ts)))
