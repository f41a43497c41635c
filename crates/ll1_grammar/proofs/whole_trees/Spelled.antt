-- What is spelled has no gaps.
use Rattle.std.proofs.Common.{List, [], ◌∷◌, Option, None}
use Rattle.ll1_grammar.specs.Grammar.{Symbol, token, part, Grammar, Tree, nil, pair, leaf, node, front, Fit, Fits}
use Rattle.ll1_grammar.specs.Sources.{Spells}
use Rattle.ll1_grammar.specs.whole_trees.Whole.{IsWhole, AreWhole}

module _ {X K S V N P : Type 0} (G : Grammar X K S V N P) where
  mutual
    pub fit_whole : (y : Symbol S N) (t : Tree V P) (l : List X) (h : Option K) → Fit G y t l h → IsWhole t
    fit_whole (token s) nil l h f = absurd f
    fit_whole (token s) (pair t u) l h f = absurd f
    fit_whole (token s) (leaf v) l h f = tt
    fit_whole (token s) (node p t) l h f = absurd f
    fit_whole (part n) nil l h f = absurd f
    fit_whole (part n) (pair t u) l h f = absurd f
    fit_whole (part n) (leaf v) l h f = absurd f
    fit_whole (part n) (node p t) l h f = fits_whole (G.body p) t l h f.2

    pub fits_whole : (ys : List (Symbol S N)) (t : Tree V P) (l : List X) (h : Option K) → Fits G ys t l h → AreWhole t
    fits_whole [] nil l h f = tt
    fits_whole [] (pair t u) l h f = absurd f
    fits_whole [] (leaf v) l h f = absurd f
    fits_whole [] (node p t) l h f = absurd f
    fits_whole (y ∷ ys) nil l h f = absurd f
    fits_whole (y ∷ ys) (pair t u) l h f = (fit_whole y t f.left (front G f.right h) f.first, fits_whole ys u f.right h f.second)
    fits_whole (y ∷ ys) (leaf v) l h f = absurd f
    fits_whole (y ∷ ys) (node p t) l h f = absurd f

  pub spelled_whole : (start : N) (t : Tree V P) (ts : List X) → Spells G start t ts → IsWhole t
  spelled_whole start t ts s = fit_whole (part start) t ts None s
