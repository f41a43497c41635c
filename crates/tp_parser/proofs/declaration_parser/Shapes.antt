-- Readers of declarations in the shape of the grammar's.
use Rattle.std.proofs.Common.{◌≡◌, List, [], ◌∷◌, Result, Ok, Err, refl}
use Rattle.pascal_grammar.specs.declared.lexeme.Lexeme.{Lexeme}
use Rattle.pascal_grammar.specs.Productions.{Production}
use Rattle.pascal_grammar.specs.Productions as p
use Rattle.ll1_grammar.specs.Grammar.{nil, pair, node}
use Rattle.ll1_grammar.specs.Readers.{Fault, ◌>>=◌, made}
use Rattle.syntax_tree.specs.Expressions.{Parsed, of}
use Rattle.expression_parser.specs.Gives.{Reads}
use Rattle.syntax_tree.specs.source_tree.Declarations.{words_of}

abbrev Outcome : Type 0
Outcome = Result (Parsed × List Lexeme) (Fault Production)

abbrev End : Type 0
End = Parsed × List Lexeme

abbrev Pairs : Type 0
Pairs = Result ((Parsed × Parsed) × List Lexeme) (Fault Production)

abbrev Makers : Type 0
Makers = Result ((Parsed → Parsed) × List Lexeme) (Fault Production)

abbrev alone : End → Outcome
alone u = Ok (pair u.0 nil, u.1)

abbrev behind : Parsed → End → Outcome
behind a u = Ok (pair a u.0, u.1)

abbrev made_of : Production → End → Outcome
made_of x u = Ok (node x u.0, u.1)

abbrev both : Parsed → End → Pairs
both a u = Ok ((a, u.0), u.1)

abbrev pair_of : Production → Parsed → End → Outcome
pair_of x a u = Ok (of x (a ∷ u.0 ∷ []), u.1)

-- what a word declares, as what it makes of those behind it
abbrev words : Production → Parsed → (Parsed × Parsed) × List Lexeme → Makers
words x here u = Ok ((λ more. words_of x here u.0 more), u.1)

abbrev routine : End → Makers
routine u = Ok ((λ more. of p.routines (u.0 ∷ more ∷ [])), u.1)

abbrev pub closes : (Parsed → Parsed) → End → Outcome
closes f u = Ok (f u.0, u.1)

abbrev pub then_rest : Reads → (Parsed → Parsed) × List Lexeme → Outcome
then_rest rest u = rest u.1 >>= closes u.0

-- ---- an item, and what stands behind it

item_by : (x : Production) (a : Parsed) (r : Outcome) → (r >>= pair_of x a) ≡ ((r >>= alone) >>= behind a) >>= made_of x
item_by x a (Ok u) = refl
item_by x a (Err f) = refl

item_from : (x : Production) (rest : Reads) (r : Outcome) → (r >>= λ a. rest a.1 >>= pair_of x a.0) ≡ (r >>= λ a. (rest a.1 >>= alone) >>= behind a.0) >>= made_of x
item_from x rest (Ok a) = item_by x a.0 (rest a.1)
item_from x rest (Err f) = refl

pub item_read : (x : Production) (item rest : Reads) (ts : List Lexeme) → (item ts >>= λ a. rest a.1 >>= pair_of x a.0) ≡ made x (item ∷ rest ∷ []) ts
item_read x item rest ts = item_from x rest (item ts)

-- ---- a routine, and the declarations behind it

routine_by : (a : Parsed) (r : Outcome) → (r >>= closes (λ more. of p.routines (a ∷ more ∷ []))) ≡ ((r >>= alone) >>= behind a) >>= made_of p.routines
routine_by a (Ok u) = refl
routine_by a (Err f) = refl

routine_from : (rest : Reads) (r : Outcome) → ((r >>= routine) >>= then_rest rest) ≡ (r >>= λ a. (rest a.1 >>= alone) >>= behind a.0) >>= made_of p.routines
routine_from rest (Ok a) = routine_by a.0 (rest a.1)
routine_from rest (Err f) = refl

pub routine_read : (read rest : Reads) (ts : List Lexeme) → ((read ts >>= routine) >>= then_rest rest) ≡ made p.routines (read ∷ rest ∷ []) ts
routine_read read rest ts = routine_from rest (read ts)

-- ---- a word, what it declares, and the declarations behind that

module _ (x : Production) (rest : Reads) where
  rest_by : (here a b : Parsed) (r : Outcome) → (r >>= closes (λ more. words_of x here (a, b) more)) ≡ ((((r >>= alone) >>= behind b) >>= behind a) >>= behind here) >>= made_of x
  rest_by here a b (Ok u) = refl
  rest_by here a b (Err f) = refl

  more_by : (here a : Parsed) (r : Outcome) → (((r >>= both a) >>= words x here) >>= then_rest rest) ≡ (((r >>= λ b. (rest b.1 >>= alone) >>= behind b.0) >>= behind a) >>= behind here) >>= made_of x
  more_by here a (Ok b) = rest_by here a b.0 (rest b.1)
  more_by here a (Err f) = refl

  module _ (more : Reads) where
    first_by : (here : Parsed) (r : Outcome) → (((r >>= λ a. more a.1 >>= both a.0) >>= words x here) >>= then_rest rest) ≡ ((r >>= λ a. (more a.1 >>= λ b. (rest b.1 >>= alone) >>= behind b.0) >>= behind a.0) >>= behind here) >>= made_of x
    first_by here (Ok a) = more_by here a.0 (more a.1)
    first_by here (Err f) = refl

    word_by : (first : Reads) (r : Outcome) → ((r >>= λ w. (first w.1 >>= λ a. more a.1 >>= both a.0) >>= words x w.0) >>= then_rest rest) ≡ (r >>= λ w. (first w.1 >>= λ a. (more a.1 >>= λ b. (rest b.1 >>= alone) >>= behind b.0) >>= behind a.0) >>= behind w.0) >>= made_of x
    word_by first (Ok w) = first_by w.0 (first w.1)
    word_by first (Err f) = refl

    pub words_read : (asks first : Reads) (ts : List Lexeme) → ((asks ts >>= λ w. (first w.1 >>= λ a. more a.1 >>= both a.0) >>= words x w.0) >>= then_rest rest) ≡ made x (asks ∷ first ∷ more ∷ rest ∷ []) ts
    words_read asks first ts = word_by first (asks ts)
