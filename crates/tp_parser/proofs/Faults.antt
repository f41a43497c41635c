-- Faults of lexemes as faults of the tokens.
use Rattle.std.proofs.Common.{◌≡◌, List, Result, Ok, Err, refl, sym, ap, subst, ◌∙◌}
use Rattle.pascal_grammar.specs.declared.lexeme.Lexeme.{Lexeme}
use Rattle.pascal_grammar.specs.Parts as n
use Rattle.pascal_grammar.specs.Productions.{Production}
use Rattle.pascal_grammar.specs.Rules.{grammar}
use Rattle.pascal_grammar.proofs.Tables.{Follow}
use Rattle.ll1_grammar.specs.Readers.{Fault}
use Rattle.ll1_grammar.proofs.Whole.{AllMeets}
use Rattle.tp_lexer.specs.declared.token.Token.{Token}
use Rattle.pascal_grammar.specs.lexeme_list.Lexemes.{lexemes_of}
use Rattle.syntax_tree.specs.Expressions.{Parsed}
use Rattle.syntax_tree.specs.declared.source_tree.source.Tree.{Tree}
use Rattle.syntax_tree.specs.source_tree.Sources.{of_tree}
use Rattle.expression_parser.specs.declared.error.ReadError.{ReadError}
use Rattle.expression_parser.specs.declared.error.ReadError.TheVariants as r
use Rattle.expression_parser.specs.Gives.{Fails}
use Rattle.tp_parser.specs.Parsing.{limit, IsSource, IsReadAs, placed, IsFault}
use Rattle.tp_parser.specs.declared.error.ParseError.{ParseError}
use Rattle.tp_parser.specs.Whole.{whole_at}
use Rattle.tp_parser.proofs.Whole.{welcome, source_meets, source_only}

module _ (tokens : List Token) where
  abbrev pub read : Result Parsed (Fault Production)
  read = whole_at limit (lexemes_of tokens)

  abbrev Met : Result Parsed (Fault Production) → Type 0
  Met = AllMeets grammar Follow n.source refl welcome limit (lexemes_of tokens)

  met : Met read
  met = source_meets limit (lexemes_of tokens)

  -- what was read is spelled by the tokens
  found_is : (tree : Tree) → read ≡ Ok (of_tree tree) → IsSource tokens (of_tree tree)
  found_is tree g =
      let m : Met (Ok (of_tree tree)) = subst Met g met in
      record { spells = m.0; has = m.1; deep = m.2 }

  -- a fault is the first one
  fault_by : (e : ReadError) → Fails e read → IsFault tokens (placed tokens (lexemes_of tokens) e)
  fault_by r.NoMemory f = tt
  fault_by (r.Syntax left) f = (left, subst Met f met, refl)
  fault_by (r.LeftOut omission left) f = (omission, left, subst Met f met, refl, refl)
  fault_by (r.TooDeep left) f = (left, subst Met f met, refl)

  -- what the tokens spell is read
  only_found : (tree : Tree) → read ≡ Ok (of_tree tree) → (t : Parsed) → IsSource tokens t → of_tree tree ≡ t
  only_found tree g t s =
      let same : Ok (of_tree tree) ≡ Ok t = sym g ∙ source_only limit (lexemes_of tokens) t s.spells s.has s.deep in
      cc

  only_fails : (e : ReadError) → Fails e read → (t : Parsed) → IsSource tokens t → IsReadAs (Err (placed tokens (lexemes_of tokens) e)) t
  only_fails e f t s = by e f
    where
      is : read ≡ Ok t
      is = source_only limit (lexemes_of tokens) t s.spells s.has s.deep

      by : (e : ReadError) → Fails e read → IsReadAs (Err (placed tokens (lexemes_of tokens) e)) t
      by r.NoMemory f = tt
      by (r.Syntax left) f = let no : Ok t ≡ Err _ = sym is ∙ f in absurd cc
      by (r.LeftOut omission left) f = let no : Ok t ≡ Err _ = sym is ∙ f in absurd cc
      by (r.TooDeep left) f = let no : Ok t ≡ Err _ = sym is ∙ f in absurd cc

  -- ---- the same of lexemes that are those of the tokens

  pub found_at : (ts : List Lexeme) (tree : Tree) → ts ≡ lexemes_of tokens → whole_at limit ts ≡ Ok (of_tree tree) → IsSource tokens (of_tree tree)
  found_at ts tree p g = found_is tree (subst (λ (l : List Lexeme). whole_at limit l ≡ Ok (of_tree tree)) p g)

  pub only_at : (ts : List Lexeme) (tree : Tree) → ts ≡ lexemes_of tokens → whole_at limit ts ≡ Ok (of_tree tree) → (t : Parsed) → IsSource tokens t → of_tree tree ≡ t
  only_at ts tree p g = only_found tree (subst (λ (l : List Lexeme). whole_at limit l ≡ Ok (of_tree tree)) p g)

  fails_at : (ts : List Lexeme) (e : ReadError) → ts ≡ lexemes_of tokens → Fails e (whole_at limit ts) → Fails e read
  fails_at ts e p f = subst (λ (l : List Lexeme). Fails e (whole_at limit l)) p f

  placed_at : (us : List Lexeme) (e : ReadError) (x : ParseError) → us ≡ lexemes_of tokens → x ≡ placed tokens us e → placed tokens (lexemes_of tokens) e ≡ x
  placed_at us e x p s = sym (s ∙ ap (λ (l : List Lexeme). placed tokens l e) p)

  pub fault_at : (ts us : List Lexeme) (e : ReadError) (x : ParseError) → ts ≡ lexemes_of tokens → us ≡ lexemes_of tokens → Fails e (whole_at limit ts) → x ≡ placed tokens us e → IsFault tokens x
  fault_at ts us e x p q f s = subst (λ (y : ParseError). IsFault tokens y) (placed_at us e x q s) (fault_by e (fails_at ts e p f))

  pub none_at : (ts us : List Lexeme) (e : ReadError) (x : ParseError) → ts ≡ lexemes_of tokens → us ≡ lexemes_of tokens → Fails e (whole_at limit ts) → x ≡ placed tokens us e → (t : Parsed) → IsSource tokens t → IsReadAs (Err x) t
  none_at ts us e x p q f s t i = subst (λ (y : ParseError). IsReadAs (Err y) t) (placed_at us e x q s) (only_fails e (fails_at ts e p f) t i)
