-- The sources of a program are gathered in one way.
use Rattle.std.proofs.Common.{◌≡◌, ℕ, List, [], ◌∷◌, ◌++◌, sym, ap, ap₂, ◌∙◌, subst}
use Rattle.tp_outside.specs.Folder.{Folder}
use Rattle.tp_lexer.specs.declared.token.Text.{Text}
use Rattle.tp_lexer.specs.declared.token.Token.{Token}
use Rattle.ll1_grammar.proofs.whole_trees.Spelled.{spelled_whole}
use Rattle.pascal_grammar.specs.Parts as n
use Rattle.pascal_grammar.specs.Rules.{grammar}
use Rattle.pascal_grammar.proofs.Laws.{is_unambiguous}
use Rattle.pascal_grammar.specs.lexeme_list.Lexemes.{lexemes_of}
use Rattle.syntax_tree.specs.source_tree.Sources.{of_tree}
use Rattle.tp_lexer.specs.source_directives.Directives.{directives_of}
use Rattle.tp_parser.specs.Parsing.{IsSource}
use Rattle.source_graph.specs.declared.sources.Source.{Source}
use Rattle.source_graph.specs.declared.wanted.Wanted.{Wanted}
use Rattle.source_graph.specs.Sources.{IsRead}
use Rattle.source_graph.specs.Walk.{start, wanted_by, Walks}
use Rattle.source_graph.proofs.SourceLaws.{lexed_once, read_once}
use Rattle.source_graph.specs.determinism.Alike.{IsAlike, AreAlike}
use Rattle.source_graph.specs.determinism.Laws.{OneReading}

module _ (held : Folder) where
  -- two readings of a source that is wanted
  read_alike : (texts a b : List Text) (wanted : Wanted) (x y : Source) → IsRead held texts wanted a x → IsRead held texts wanted b y → IsAlike x y
  read_alike texts a b wanted x y l r =
      let same = lexed_once held texts wanted a b x.text y.text l.tokens r.tokens l.lexed r.lexed in
      let spelled : IsSource l.tokens (of_tree y.tree) = subst (λ (ts : List Token). IsSource ts (of_tree y.tree)) (sym same.2) r.spelled in
      record {
        name = l.named ∙ sym r.named;
        text = same.1;
        says = l.said ∙ ap directives_of same.2 ∙ sym r.said;
        whole = spelled_whole grammar n.source (of_tree x.tree) (lexemes_of l.tokens) l.spelled.spells;
        tree = is_unambiguous (of_tree x.tree) (of_tree y.tree) (lexemes_of l.tokens) l.spelled.spells spelled.spells;
      }

  -- a walk from what is the same
  walks_from : (texts now : List Text) (met names : List (List ℕ)) (wanted others : List Wanted) (sources : List Source) (after : List Text) (left : List Wanted)
      → texts ≡ now → met ≡ names → wanted ≡ others → Walks held now names others sources after left → Walks held texts met wanted sources after left
  walks_from texts now met names wanted others sources after left p q r walk =
      subst (λ (t : List Text). Walks held t met wanted sources after left) (sym p)
      (subst (λ (m : List (List ℕ)). Walks held now m wanted sources after left) (sym q)
      (subst (λ (w : List Wanted). Walks held now names w sources after left) (sym r) walk))

  no_more : (next : Wanted) (others : List Wanted) → [] ≡ next ∷ others → ⊥
  no_more next others is = cc

  -- two walks to where nothing is due
  walks_alike : (texts : List Text) (met : List (List ℕ)) (wanted : List Wanted) (xs ys : List Source) (a b : List Text)
      → Walks held texts met wanted xs a [] → Walks held texts met wanted ys b [] → (a ≡ b) × AreAlike xs ys
  walks_alike texts met wanted [] [] a b l r = (sym l.0 ∙ r.0, tt)
  walks_alike texts met wanted [] (y ∷ ys) a b l r = absurd (no_more r.0 r.1 (sym l.1 ∙ r.3))
  walks_alike texts met wanted (x ∷ xs) [] a b l r = absurd (no_more l.0 l.1 (sym r.1 ∙ l.3))
  walks_alike texts met wanted (x ∷ xs) (y ∷ ys) a b l r =
      let both : l.0 ∷ l.1 ≡ r.0 ∷ r.1 = sym l.3 ∙ r.3 in
      let next : l.0 ≡ r.0 = cc in
      let others : l.1 ≡ r.1 = cc in
      let read : IsRead held texts l.0 r.2 y = subst (λ (n : Wanted). IsRead held texts n r.2 y) (sym next) r.4 in
      let same = read_once held texts l.0 l.2 r.2 x y l.4 read in
      let names : met ++ x.name ∷ [] ≡ met ++ y.name ∷ [] = ap (λ (n : List ℕ). met ++ n ∷ []) same.1 in
      let due : wanted_by x ++ l.1 ≡ wanted_by y ++ r.1 = ap₂ (λ (v w : List Wanted). v ++ w) same.2 others in
      let rest = walks_alike l.2 (met ++ x.name ∷ []) (wanted_by x ++ l.1) xs ys a b l.5
      (walks_from l.2 r.2 (met ++ x.name ∷ []) (met ++ y.name ∷ []) (wanted_by x ++ l.1) (wanted_by y ++ r.1) ys b [] same.0 names due r.5) in
      (rest.0, (read_alike texts l.2 r.2 l.0 x y l.4 read, rest.1))

pub one_reading : OneReading
one_reading held name texts others sources more l r = walks_alike held [] [] (start name ∷ []) sources more texts others l r
